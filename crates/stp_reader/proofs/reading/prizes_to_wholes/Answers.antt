use Rattle.std.proofs.Common.{refl, ◌∙◌, arith}
use Rattle.std.proofs.lemmas.List.{length-set}
use Rattle.amounts.specs.declared.scale.Scale.TheVariants.{Whole}
use Rattle.stp_reader.specs.Unit.{stated_in}
use Rattle.stp_reader.proofs.Units.{one_changed, all_changed}
use Rattle.stp_reader.proofs.reading.prizes_to_wholes.Goals as goal

pub loop-stated-init : goal.loop-stated-init
loop-stated-init c = record { changed = c.deref_mut-stated-items.ensures.value; long = rw c.deref_mut-stated-items.ensures.value refl }

pub loop-stated-preserved : goal.loop-stated-preserved
loop-stated-preserved c =
    let at = c.loop-stated in
    let same = c.deref_mut-stated-items.ensures.value in
    record {
      changed = rw c.whole_need-stated.ensures (one_changed (stated_in Whole) c.args.needs.now.items at.stated-items at.stated-index _ at.invariant.changed (omega (arith, c.loop-stated-test.true, at.invariant.long)));
      long = length-set at.stated-items at.stated-index _ ∙ at.invariant.long;
    }

pub returns : goal.returns
returns c =
    let at = c.loop-stated in
    all_changed (stated_in Whole) c.args.needs.now.items at.stated-items _ at.stated-index _ at.invariant.changed (omega (arith, c.loop-stated-test.false, at.invariant.long)) at.invariant.long c.args.needs.now.ok.0
