use Rattle.std.proofs.lemmas.Result.{IfOk-weaker}
use Rattle.level_packing.proofs.Settling.{plain_settled, left_open, leaf_lifts, sets_same, few_same}
use Rattle.level_packing.proofs.close.close_all.Goals as goal

pub close_settled-requires-clause-left : goal.close_settled-requires-clause-left
close_settled-requires-clause-left c =
    let I = c.args.instance.now in
    let B = c.args.branch.now in
    left_open I B I (plain_settled I B (rw c.branch-branch.ensures at (c.is_plain.ensures.0 c.if-is_plain.true)))

pub returns-then-is_plain-clause-closed : goal.returns-then-is_plain-clause-closed
returns-then-is_plain-clause-closed c =
    let I = c.args.instance.now in
    let B = c.args.branch.now in
    let is = plain_settled I B (rw c.branch-branch.ensures at (c.is_plain.ensures.0 c.if-is_plain.true)) in
    IfOk-weaker c.close_settled.result _ _ (λ leaf h. leaf_lifts I B I is c.args.target leaf c.requires.branch h) c.close_settled.ensures.closed

pub returns-clause-closed : goal.returns-clause-closed
returns-clause-closed c =
    let I = c.args.instance.now in
    let B = c.args.branch.now in
    IfOk-weaker c.close_settled-2.result _ _ (λ leaf h. leaf_lifts I B _ c.in_ok-settled.ensures c.args.target leaf c.requires.branch h) c.close_settled-2.ensures.closed

pub returns-clause-sets : goal.returns-clause-sets
returns-clause-sets c = IfOk-weaker c.close_settled-2.result _ _ (λ leaf h. sets_same c.args.instance.now c.args.branch.now _ c.in_ok-settled.ensures leaf h) c.close_settled-2.ensures.sets

pub returns-clause-few : goal.returns-clause-few
returns-clause-few c = IfOk-weaker c.close_settled-2.result _ _ (λ leaf h. few_same c.args.instance.now c.args.branch.now _ c.in_ok-settled.ensures c.args.target leaf h) c.close_settled-2.ensures.few
