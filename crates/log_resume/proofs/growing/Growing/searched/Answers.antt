use Rattle.std.proofs.Common.{◌≡◌, ℕ, List, Option, max, ap, ◌∙◌}
use Rattle.cert_checker.specs.declared.turn.Turn.{Turn}
use Rattle.log_resume.specs.Growing.{growth, walked}
use Rattle.log_resume.proofs.Stands.{found_may_walk, searched}
use Rattle.log_resume.proofs.growing.Growing.searched.Goals as goal

pub lines_of-requires : goal.lines_of-requires
lines_of-requires c =
    let (path, ready) = c.requires.ready in
    (path, ready.path, ready.search c.args.search.now c.args.left.now c.requires.first c.requires.due)

pub after_all-requires : goal.after_all-requires
after_all-requires c =
    rw c.deref.ensures.value (found_may_walk c.args.self.walk.instance c.args.self.walk.path c.args.search.now c.in_ok-proof.proof.items c.in_ok-proof.ensures)

pub returns-clause-goes : goal.returns-clause-goes
returns-clause-goes c =
    let g = c.args.self in
    let w = c.in_ok-written.written in
    let proof = c.in_ok-proof.proof.items in
    let start : ◌≡◌ {A = Option (List Turn) × ℕ} (walked g.walk.instance g.walk.path c.max-top.result c.deref.result.now) (walked g.walk.instance g.walk.path (max c.weighed-weight.result g.written.least) proof) =
    ap (λ (n : ℕ). walked g.walk.instance g.walk.path n c.deref.result.now) (c.max-top.ensures ∙ ap (max c.weighed-weight.result) (c.from.ensures ∙ c.least-bound.ensures))
    ∙ ap (walked g.walk.instance g.walk.path (max c.weighed-weight.result g.written.least)) c.deref.ensures.value in
    searched (growth g) c.args.packing.now c.args.search.now c.args.left.now c.in_ok-walk.walk.instance c.in_ok-walk.walk.path w.lines proof c.weighed-weight.result w.least c.in_ok-walk.least
    c.in_ok-proof.ensures c.requires.first c.requires.due c.weighed-weight.ensures c.in_ok-walk.ensures.same (c.in_ok-walk.ensures.end ∙ start) c.in_ok-written.ensures.kept c.in_ok-written.ensures.grown
