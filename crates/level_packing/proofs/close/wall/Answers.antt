use Rattle.std.proofs.Common.{◌≡◌, ℕ, ap, ◌∙◌, arith, length, ◌<◌, Vec, Global, []}
use Rattle.std.proofs.lemmas.List.{get_or_read, length-map}
use Rattle.std.proofs.lemmas.List.Elements.{All-cons, All-nil}
use Rattle.st_model.specs.Branch.{IsVertexSet}
use Rattle.st_model.specs.Lists.{has}
use Rattle.cut_packing.specs.declared.cut.Cut.{Cut}
use Rattle.level_packing.specs.Forest.{groups, cluster_of, members_of}
use Rattle.level_packing.proofs.Pouring.{list_at}
use Rattle.level_packing.proofs.Ending.{wall_fits, wall_in_range, wall_weighs, none_spans}
use Rattle.level_packing.proofs.close.wall.Goals as goal
use Rattle.level_packing.proofs.close.wall.Goals.{In_ok-members}

-- the cluster's name, and its vertices in ascending order
name_here : (c : In_ok-members) → c.index-name.result.now ≡ cluster_of (groups c.args.forest) c.args.vertex
name_here c =
    let clusters = c.requires.grown.1.clusters in
    get_or_read c.args.forest.cluster.items _ _ (omega (arith, clusters.cluster_len, c.requires.vertex.vertex.1)) c.index-name.ensures 0

same_here : (c : In_ok-members) → (v : ℕ) → has c.in_ok-members.members.items v ≡ has (members_of (groups c.args.forest) (cluster_of (groups c.args.forest) c.args.vertex)) v
same_here c v =
    let clusters = c.requires.grown.1.clusters in
    let name = name_here c in
    let present = clusters.own c.args.vertex c.requires.vertex in
    let within : c.index-name.result.now < length c.args.forest.members.items = rw name (omega (arith, clusters.members_len, length-map c.args.forest.members.items (λ (list : Vec ℕ Global). list.items), present.vertex.1)) in
    c.in_ok-members.ensures.same v ∙ ap (λ xs. has xs v) (c.deref.ensures.value ∙ list_at c.args.forest.members.items c.index-name.result.now c.index.result.now within c.index.ensures) ∙ ap (λ i. has (members_of (groups c.args.forest) i) v) name

pub returns-clause-closed : goal.returns-clause-closed
returns-clause-closed c =
    let here = (goal.at.returns-clause-closed c).In_ok-members in
    let I = c.args.instance.now in
    let B = c.args.branch.now in
    let F = groups c.args.forest in
    let same = same_here here in
    rw (c.of-2.ensures, c.in_ok-cuts.ensures.items, c.in_ok-set.ensures, name_here here) (
      none_spans I B c.args.root _ F c.requires.instance c.requires.left c.requires.certain c.requires.grown.1 c.args.vertex c.requires.vertex c.requires.apart c.in_ok-members.members.items same c.args.target,
      wall_fits I B c.args.root _ F c.requires.instance c.requires.left c.requires.certain c.requires.grown.1 c.args.vertex c.requires.vertex c.requires.apart c.in_ok-members.members.items same c.args.target,
      wall_weighs I B c.args.root _ F c.requires.instance c.requires.left c.requires.certain c.requires.grown.1 c.args.vertex c.requires.vertex c.requires.apart c.in_ok-members.members.items same c.args.target,
    )

pub returns-clause-sets : goal.returns-clause-sets
returns-clause-sets c =
    let here = (goal.at.returns-clause-sets c).In_ok-members in
    let I = c.args.instance.now in
    let set : IsVertexSet I.n c.in_ok-members.members.items = record { ascending = c.in_ok-members.ensures.ascending; in_range = wall_in_range I c.args.branch.now c.args.root _ (groups c.args.forest) c.requires.instance c.requires.left c.requires.certain c.requires.grown.1 c.args.vertex c.requires.vertex c.requires.apart c.in_ok-members.members.items (same_here here) c.args.target } in
    rw (c.of-2.ensures, c.in_ok-cuts.ensures.items) (All-cons (λ (cut : Cut). IsVertexSet I.n cut.set) _ [] (rw c.in_ok-set.ensures set) (All-nil (λ (cut : Cut). IsVertexSet I.n cut.set)))
