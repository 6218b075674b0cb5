use Rattle.std.proofs.Common.{◌≡◌, refl, ◌∙◌}
use Rattle.search_core.specs.State.{beginning}
use Rattle.search_core.proofs.Keeping.{kept_begun}
use Rattle.search_core.proofs.search.Search.begin_at.Goals as goal

pub invariant_of-result-2 : goal.invariant_of-result-2
invariant_of-result-2 c =
    let I = c.args.instance.now in
    let R = c.args.branch.now in
    let made : c.nodes-2.inside.made.items ≡ (beginning I R c.args.packing c.args.workers c.args.budget c.args.start_cost).nodes = c.nodes-2.view_is ∙ (c.in_ok-add.ensures.ok ∙ rw (c.new-nodes.ensures, c.queued.ensures, c.in_ok-root_of.ensures) refl) in
    kept_begun I R c.args.packing c.args.workers c.args.budget c.args.start_cost c.in_ok-copied.field-0 c.in_ok-copied-2.field-0 c.nodes-2.inside.made.items c.in_ok-new_workers.field-0.items c.vertices.ensures.instance c.requires c.in_ok-copied.ensures c.in_ok-copied-2.ensures made c.in_ok-new_workers.ensures
