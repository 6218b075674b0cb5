use Rattle.std.proofs.Common.{ℕ, List, take, take_all, sym, ap, subst, ◌∙◌, arith}
use Rattle.std.specs.Prelude.{Contains}
use Rattle.std.specs.List.{flat_map}
use Rattle.std.proofs.lemmas.List.{take_more}
use Rattle.std.proofs.lemmas.List.Elements.{Contains-get_or}
use Rattle.st_model.specs.Branch.{IsBranch}
use Rattle.branching.specs.declared.node.Node.{Node}
use Rattle.search_core.specs.declared.gathered.Segment.{Segment}
use Rattle.search_core.proofs.Ids.{among}
use Rattle.certificate_log.specs.Bound.{lowest_weight}
use Rattle.certificate_log.proofs.Lowest.{all_left, all_of_one, all_right, lowest-append, lowest_more}
use Rattle.certificate_log.proofs.bound.bound_of.Goals as goal

pub lowest-bound-requires : goal.lowest-bound-requires
lowest-bound-requires c =
    let G = c.args.gathered.now in
    let s = c.segment-item.result in
    let items = c.as_slice-segment-items.result.now in
    let there = subst (λ (t : Segment). Contains items t) (sym c.segment-item.is) (Contains-get_or items c.loop-segment.segment-index s c.loop-segment-test.true) in
    let here = subst (λ (ss : List Segment). Contains ss s) c.as_slice-segment-items.ensures there in
    rw c.as_slice.ensures
    (all_of_one (λ (N : Node). IsBranch c.args.instance.now N.branch) G.segments s (all_left (λ (N : Node). IsBranch c.args.instance.now N.branch) (flat_map (λ (s : Segment). s.left) G.segments) G.queued c.requires)
    (among G.segments s here))

pub loop-segment-preserved : goal.loop-segment-preserved
loop-segment-preserved c =
    let I = c.args.instance.now in
    let items = c.as_slice-segment-items.result.now in
    let i = c.loop-segment.segment-index in
    let s = c.segment-item.result in
    rw (take_more items i s c.loop-segment-test.true, ← c.segment-item.is)
    (c.lowest-bound.ensures
    ∙ (ap (λ (Ns : List Node). lowest_weight I c.loop-segment.bound Ns) c.as_slice.ensures ∙ lowest_more I c.args.gathered.now.least c.loop-segment.bound (take i items) s c.loop-segment.invariant))

pub lowest-requires : goal.lowest-requires
lowest-requires c =
    let G = c.args.gathered.now in
    rw c.as_slice-2.ensures (all_right (λ (N : Node). IsBranch c.args.instance.now N.branch) (flat_map (λ (s : Segment). s.left) G.segments) G.queued c.requires)

pub returns : goal.returns
returns c =
    let I = c.args.instance.now in
    let G = c.args.gathered.now in
    let items = c.as_slice-segment-items.result.now in
    let all = take_all c.loop-segment.segment-index items (omega (arith, c.loop-segment-test.false)) ∙ c.as_slice-segment-items.ensures in
    c.lowest.ensures
    ∙ (ap (λ (Ns : List Node). lowest_weight I c.loop-segment.bound Ns) c.as_slice-2.ensures
    ∙ (ap (λ (b : ℕ). lowest_weight I b G.queued) (c.loop-segment.invariant ∙ ap (λ (ss : List Segment). lowest_weight I G.least (flat_map (λ (s : Segment). s.left) ss)) all)
    ∙ sym (lowest-append I G.least (flat_map (λ (s : Segment). s.left) G.segments) G.queued)))
