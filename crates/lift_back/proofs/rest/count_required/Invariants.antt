use Rattle.std.proofs.Common.{◌≡◌, ◌-◌, ◌≤◌, get_or}
use Rattle.st_model.specs.declared.need.Need.TheVariants.{Required}
use Rattle.st_model.specs.Network.{is_needed}
use Rattle.lift_back.specs.Keeping.{count_to}
use Rattle.lift_back.proofs.rest.count_required.Given as goal

abbrev pub invariant-loop-need : goal.invariant-loop-need
invariant-loop-need l = record {
  count : l.count ≡ count_to (λ v. is_needed (get_or l.needs (v - 1) Required)) l.need-index;
  few : l.count ≤ l.need-index;
}
