use Rattle.std.proofs.Common.{refl}
use Rattle.std.proofs.lemmas.Map.Keys.{IsStrictlyIncreasing-from_sorted}
use Rattle.st_model.proofs.Members.{has_same}
use Rattle.solution_reader.specs.Seen.{whole_from}
use Rattle.solution_reader.proofs.Claims.{is_claim}
use Rattle.solution_reader.proofs.claimed.Claimed.of.Goals as goal

pub returns : goal.returns
returns c =
    let same = rw (c.in_ok-add_ends.ensures, c.deref.ensures.value) at c.put_in_order.ensures.same in
    record {
      ascending = IsStrictlyIncreasing-from_sorted _ c.put_in_order.ensures.ascending;
      same = has_same _ _ same;
      edges = refl;
      primal = refl;
    }

pub invariant_of-result : goal.invariant_of-result
invariant_of-result c =
    let same = rw (c.in_ok-add_ends.ensures, c.deref.ensures.value) at c.put_in_order.ensures.same in
    is_claim (whole_from c.args.whole) _ (record {
      ascending = IsStrictlyIncreasing-from_sorted _ c.put_in_order.ensures.ascending;
      same = has_same _ _ same;
      edges = refl;
      primal = refl;
    })
