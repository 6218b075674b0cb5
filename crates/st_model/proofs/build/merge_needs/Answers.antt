use Rattle.std.proofs.Common.{◌∙◌, sym, ap, map, slice_index_or, set, ◌-◌}
use Rattle.std.proofs.lemmas.List.{take_more}
use Rattle.st_model.specs.declared.need.Need.TheVariants.{Required}
use Rattle.st_model.specs.Lists.{up_to}
use Rattle.st_model.specs.Stated.{both, stated_need}
use Rattle.st_model.proofs.Needs.{needs_none, needs_push}
use Rattle.st_model.proofs.build.merge_needs.Goals as goal

pub loop-vertex-init : goal.loop-vertex-init
loop-vertex-init c = needs_none _ _ (c.in_ok-needs.ensures.items_if_clones_equal (λ y same. same))

-- the entry in hand is joined to what was stated of its vertex
pub loop-vertex-preserved : goal.loop-vertex-preserved
loop-vertex-preserved c =
    let entry = slice_index_or c.args.stated.now c.loop-vertex.vertex-index (0, Required) in
    let in_range = c.requires c.loop-vertex.vertex-index (0, Required) c.loop-vertex-test.true in
    let turn = needs_push _ entry c.args.vertices c.loop-vertex.needs.items c.index.result.now in_range.0 in_range.1 c.loop-vertex.invariant in
    let more = take_more c.args.stated.now c.loop-vertex.vertex-index (0, Required) c.loop-vertex-test.true in
    ap (λ x. set c.loop-vertex.needs.items (entry.0 - 1) x) (c.and.ensures ∙ ap (λ n. both n entry.1) c.index.ensures) ∙ turn ∙ ap (λ s. map (stated_need s) (up_to c.args.vertices)) (sym more)
