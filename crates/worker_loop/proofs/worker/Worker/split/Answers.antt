use Rattle.std.proofs.Common.{subst, sym}
use Rattle.worker_loop.specs.Sound.{IsSound}
use Rattle.worker_loop.proofs.WorkedOn.{sound_yes, sound_no}
use Rattle.worker_loop.proofs.worker.Worker.split.Goals.{then-is_planned, else-is_planned}
use Rattle.worker_loop.proofs.worker.Worker.split.Goals as goal

pub give-requires : goal.give-requires
give-requires g c =
    let I = g.Q.Aim.instance in
    let R = g.Q.Aim.branch in
    elim c.if-is_planned.branch [
      | then-is_planned w ↦ rw w.half-is (subst (IsSound I R) (sym c.in-Ok.ensures.says_yes) (sound_yes I R c.args.node c.args.at c.in_ok-first.first c.requires.instance c.requires.node c.requires.split))
      | else-is_planned w ↦ rw w.half-is (subst (IsSound I R) (sym c.in-Ok.ensures.says_no) (sound_no I R c.args.node c.args.at c.in_ok-first.second c.requires.instance c.requires.node c.requires.split))
    ]
