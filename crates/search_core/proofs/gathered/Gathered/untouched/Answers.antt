use Rattle.std.proofs.Common.{rules, ◌≡◌, subst, sym}
use Rattle.search_core.specs.declared.gathered.Gathered.{Gathered}
use Rattle.search_core.specs.Complete.{IsComplete, untouched}
use Rattle.search_core.proofs.Untouched.{untouched_complete}
use Rattle.search_core.proofs.gathered.Gathered.untouched.Goals as goal

pub returns-clause-complete : goal.returns-clause-complete
returns-clause-complete c I node =
    let R = c.args.branch.now in
    let start = c.args.start_cost in
    let G : Gathered = record { segments = c.of.result; queued = c.of-2.result; least = start; claimed = 0 } in
    let same : G ≡ untouched R c.args.packing start = search rules in
    subst (λ (H : Gathered). IsComplete H I R start 0) (sym same) (untouched_complete I R c.args.packing start node)
