use Rattle.std.proofs.Common.{◌≡◌, ◌+◌, ◌∷◌, inl, inr, get_or, drop, sym, subst, ◌∙◌, arith}
use Rattle.std.proofs.lemmas.List.{drop_more, get_or_read}
use Rattle.st_model.specs.declared.link.Link.{Link}
use Rattle.level_packing.specs.Forest.{IsGrown, IsPresentLink, groups, cluster_of}
use Rattle.level_packing.proofs.Taking.{members_in_range, later_cost_more, take_skip, take_joined}
use Rattle.level_packing.proofs.forest.Forest.take.Goals as goal
use Rattle.level_packing.proofs.forest.Forest.take.Goals.{After-index-second}

abbrev none : Link
none = record { a = 0; b = 0; cost = 0 }

-- what is known of the link in hand
grown_here : (c : After-index-second) → IsGrown c.args.instance.now c.args.branch.now c.args.root (get_or c.args.links.now c.args.at none ∷ drop (c.args.at + 1) c.args.links.now) (groups c.args.self.now)
grown_here c = subst (λ rest. IsGrown c.args.instance.now c.args.branch.now c.args.root rest (groups c.args.self.now)) (drop_more c.args.links.now c.args.at none c.requires.at) c.requires.grown

present_here : (c : After-index-second) → IsPresentLink c.args.instance.now c.args.branch.now (get_or c.args.links.now c.args.at none)
present_here c = c.requires.links c.args.at none c.requires.at

first_here : (c : After-index-second) → c.index-first.result.now ≡ cluster_of (groups c.args.self.now) (get_or c.args.links.now c.args.at none).a
first_here c =
    let grown = grown_here c in
    let present = present_here c in
    get_or_read c.args.self.now.cluster.items _ _ (omega (arith, grown.1.clusters.cluster_len, present.a.vertex.1)) c.index-first.ensures 0

second_here : (c : After-index-second) → c.index-second.result.now ≡ cluster_of (groups c.args.self.now) (get_or c.args.links.now c.args.at none).b
second_here c =
    let grown = grown_here c in
    let present = present_here c in
    get_or_read c.args.self.now.cluster.items _ _ (omega (arith, grown.1.clusters.cluster_len, present.b.vertex.1)) c.index-second.ensures 0

pub join-requires-clause-in_range : goal.join-requires-clause-in_range
join-requires-clause-in_range c i which =
    let here = (goal.at.join-requires-clause-in_range c).After-index-second in
    let clusters = (grown_here here).1.clusters in
    let present = present_here here in
    elim which [
      | inl first ↦ rw (first ∙ first_here here) (members_in_range _ _ (groups c.args.self.now) _ clusters (clusters.own _ present.a) (clusters.settled _ present.a))
      | inr second ↦ rw (second ∙ second_here here) (members_in_range _ _ (groups c.args.self.now) _ clusters (clusters.own _ present.b) (clusters.settled _ present.b))
    ]

pub returns-in_ok-join : goal.returns-in_ok-join
returns-in_ok-join c =
    let here = (goal.at.returns-in_ok-join c).After-index-second in
    let grown = grown_here here in
    let root_here = get_or_read c.args.self.now.cluster.items _ _ (omega (arith, grown.1.clusters.cluster_len, grown.1.rooted.vertex.1)) c.index-of_root.ensures 0 in
    take_joined c.args.instance.now c.args.branch.now c.args.root (get_or c.args.links.now c.args.at none) _ (groups c.args.self.now) (groups c.join.new.self) c.index-of_root.result.now c.index-first.result.now c.index-second.result.now grown (present_here here) (later_cost_more c.args.links.now c.args.at none c.requires.ascending c.requires.at) c.if-first-second.true root_here (first_here here) (second_here here) c.in_ok-join.ensures

pub returns-else-first-second : goal.returns-else-first-second
returns-else-first-second c =
    let here = (goal.at.returns-else-first-second c).After-index-second in
    take_skip c.args.instance.now c.args.branch.now c.args.root (get_or c.args.links.now c.args.at none) _ (groups c.args.self.now) (grown_here here) (sym (first_here here) ∙ c.if-first-second.false ∙ second_here here)
