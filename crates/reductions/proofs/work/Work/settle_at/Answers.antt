use Rattle.std.proofs.Common.{◌≡◌, ℕ, ◌+◌, ◌*◌, ◌<◌, ◌≤◌, ◌++◌, List, length, Option, IfSome, IfNone, sym, ap, subst, ◌∙◌, arith, length-append}
use Rattle.std.specs.declared.alloc.Global.{Global}
use Rattle.std.specs.declared.vec.Vec.{Vec}
use Rattle.lift_back.specs.declared.ends.Ends.{Ends}
use Rattle.reductions.specs.declared.work.Work.{Work}
use Rattle.reductions.specs.Results.{HasNoStepAt}
use Rattle.reductions.specs.Sizes.{size}
use Rattle.reductions.specs.Working.{HasGone, IsWork, row_of}
use Rattle.reductions.proofs.Starting.{same_but_queue}
use Rattle.reductions.proofs.Stepping.{not_tried, row_short, went_less, went_work}
use Rattle.reductions.proofs.work.Work.settle_at.Goals as goal

-- the ends were put after those that wait
pushed : (old new : Work) (queue : Vec ℕ Global) (row : List ℕ) → new.queue ≡ old.queue → queue.items ≡ new.queue.items ++ row → queue.items ≡ old.queue.items ++ row
pushed old new queue row same is = is ∙ ap (λ (q : Vec ℕ Global). q.items ++ row) same

pub returns-in_default-clause-work : goal.returns-in_default-clause-work
returns-in_default-clause-work c =
    let stays = subst (λ (o : Option Ends). IfNone o (HasNoStepAt c.args.self.now.reduced.state c.args.vertex × (c.let_go.new.self ≡ c.args.self.now))) c.in_default.is c.in_ok-ends.ensures.stays in
    subst (λ (w : Work). IsWork w w.queue.items) (sym stays.1) (not_tried c.args.self.now c.args.vertex c.args.self.now.queue.items stays.0 c.requires)

pub returns-clause-work : goal.returns-clause-work
returns-clause-work c =
    let old = c.args.self.now in
    let gone = subst (λ (o : Option Ends). IfSome o (HasGone old c.let_go.new.self c.args.vertex)) c.in-Some.is c.in_ok-ends.ensures.gone in
    let next = went_work old c.let_go.new.self gone.state c.let_go.ensures.first c.args.vertex c.in-Some.ends old.queue.items c.requires gone.led gone.went in
    subst (IsWork (record c.let_go.new.self { queue = c.push_ends.new.queue })) (sym (pushed old c.let_go.new.self c.push_ends.new.queue (row_of c.in-Some.ends) c.let_go.ensures.queue c.in_ok-push_ends.ensures))
    (same_but_queue c.let_go.new.self c.push_ends.new.queue (old.queue.items ++ row_of c.in-Some.ends) next)

pub returns-clause-size : goal.returns-clause-size
returns-clause-size c =
    let gone = subst (λ (o : Option Ends). IfSome o (HasGone c.args.self.now c.let_go.new.self c.args.vertex)) c.in-Some.is c.in_ok-ends.ensures.gone in
    let less = went_less c.args.self.now c.let_go.new.self gone.state c.let_go.ensures.first c.args.vertex c.args.self.now.queue.items c.requires gone.went in
    omega arith

pub returns-clause-load : goal.returns-clause-load
returns-clause-load c =
    let old = c.args.self.now in
    let gone = subst (λ (o : Option Ends). IfSome o (HasGone old c.let_go.new.self c.args.vertex)) c.in-Some.is c.in_ok-ends.ensures.gone in
    let less = went_less old c.let_go.new.self gone.state c.let_go.ensures.first c.args.vertex old.queue.items c.requires gone.went in
    loads (size c.let_go.new.self.reduced.state) (size old.reduced.state) old.queue.items (row_of c.in-Some.ends) c.push_ends.new.queue.items less
    (pushed old c.let_go.new.self c.push_ends.new.queue (row_of c.in-Some.ends) c.let_go.ensures.queue c.in_ok-push_ends.ensures) (row_short c.in-Some.ends)
  where
    loads : (x y : ℕ) (q row new : List ℕ) → x < y → new ≡ q ++ row → length row ≤ 2 → 3 * x + length new ≤ 3 * y + length q
    loads x y q row new less is short = let long = ap length is ∙ length-append q row in omega arith
