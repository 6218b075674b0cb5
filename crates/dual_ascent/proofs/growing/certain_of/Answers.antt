use Rattle.std.proofs.Common.{◌∙◌, ap, arith}
use Rattle.std.proofs.lemmas.List.{length_push}
use Rattle.bidirected_form.specs.Digraph.{kind_of}
use Rattle.dual_ascent.proofs.Reaching.{certain_more}
use Rattle.dual_ascent.proofs.growing.certain_of.Goals as goal

pub loop-before-preserved : goal.loop-before-preserved
loop-before-preserved c =
    let D = c.args.arcs.now in
    let marks = c.loop-before.certain.items in
    let b = c.is_certain.result in
    record {
      long = rw c.in_ok-push.ensures.items (omega (arith, length_push marks b, c.loop-before.invariant.long));
      certain = rw c.in_ok-push.ensures.items (certain_more D marks b (λ yes. ap (kind_of D) c.loop-before.invariant.long ∙ c.is_certain.ensures.0 yes) c.loop-before.invariant.certain);
    }
