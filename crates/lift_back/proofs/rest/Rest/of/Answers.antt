use Rattle.std.proofs.Common.{◌∙◌, ap, refl, List, ◌-◌, length, get_or}
use Rattle.st_model.specs.declared.need.Need.{Need}
use Rattle.st_model.specs.declared.need.Need.TheVariants.{Required}
use Rattle.st_model.specs.Network.{is_needed}
use Rattle.lift_back.specs.declared.rest.Rest.{Rest}
use Rattle.lift_back.specs.Keeping.{count_to}
use Rattle.lift_back.proofs.Beginning.{kept_whole, whole_is}
use Rattle.lift_back.proofs.rest.Rest.of.Goals as goal

pub returns-clause-kept : goal.returns-clause-kept
returns-clause-kept c =
    let r : Rest = record { store = c.in_ok-store.store; left = c.vertices.result; required = c.count_required.result; offset = 0 } in
    kept_whole c.args.instance.now r c.vertices.ensures.instance c.in_ok-store.ensures refl c.vertices.ensures.count
    (c.count_required.ensures ∙ ap (λ (l : List Need). count_to (λ v. is_needed (get_or l (v - 1) Required)) (length l)) c.needs.ensures.all)

pub returns-clause-all : goal.returns-clause-all
returns-clause-all c =
    let r : Rest = record { store = c.in_ok-store.store; left = c.vertices.result; required = c.count_required.result; offset = 0 } in
    whole_is c.args.instance.now r c.in_ok-store.ensures refl
