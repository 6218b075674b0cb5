use Rattle.short_paths.proofs.GoingAlong.{HasGone}
use Rattle.short_paths.proofs.laid.Laid.follow_path.Given as goal

abbrev pub invariant-loop-place : goal.invariant-loop-place
invariant-loop-place l = HasGone l.store.network l.path l.place l.fn.self l.self
