use Rattle.std.proofs.Common.{refl, ◌∙◌, arith}
use Rattle.std.proofs.lemmas.List.{length-set}
use Rattle.amounts.specs.declared.scale.Scale.TheVariants.{Whole}
use Rattle.stp_reader.specs.Unit.{link_in}
use Rattle.stp_reader.proofs.Units.{one_changed, all_changed}
use Rattle.stp_reader.proofs.reading.to_wholes.Goals as goal

pub loop-link-init : goal.loop-link-init
loop-link-init c = record { changed = c.deref_mut-link-items.ensures.value; long = rw c.deref_mut-link-items.ensures.value refl }

pub loop-link-preserved : goal.loop-link-preserved
loop-link-preserved c =
    let at = c.loop-link in
    let same = c.deref_mut-link-items.ensures.value in
    record {
      changed = one_changed (link_in Whole) c.args.links.now.items at.link-items at.link-index _ at.invariant.changed (omega (arith, c.loop-link-test.true, at.invariant.long));
      long = length-set at.link-items at.link-index _ ∙ at.invariant.long;
    }

pub returns : goal.returns
returns c =
    let at = c.loop-link in
    all_changed (link_in Whole) c.args.links.now.items at.link-items _ at.link-index _ at.invariant.changed (omega (arith, c.loop-link-test.false, at.invariant.long)) at.invariant.long c.args.links.now.ok.0
