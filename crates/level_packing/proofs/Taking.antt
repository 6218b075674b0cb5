-- One more link: two clusters are raised to its cost, and become one.
use Rattle.std.proofs.Common.{◌≡◌, ◌≢◌, ℕ, ◌+◌, ◌<◌, ◌≤◌, Bool, true, false, cond, List, [], ◌∷◌, length, get_or, set, refl, sym, ap, ◌∙◌, ◌⊎◌, inl, inr, arith, drop, length-set, length-drop}
use Rattle.std.specs.Prelude.{All, IsTrue, IfSome, Option, Some, None, ◌==◌}
use Rattle.std.proofs.lemmas.Bool.{cases_eq, cases_lt, false≢true}
use Rattle.std.specs.List.Sorted.{IsNonDecreasingBy}
use Rattle.std.proofs.lemmas.Bool.Decides.{nat_tests}
use Rattle.std.proofs.lemmas.List.{get_or-set_same, get_or-set_other, get_or-drop, get_or_default}
use Rattle.std.proofs.lemmas.List.Elements.{All-head, All-tail}
use Rattle.st_model.specs.declared.branch.Branch.{Branch}
use Rattle.st_model.specs.declared.link.Link.{Link}
use Rattle.st_model.specs.Lists.{has}
use Rattle.st_model.specs.Network.{Network, joins, link}
use Rattle.st_model.proofs.Distinct.{joins-ends}
use Rattle.level_packing.specs.Forest.{Groups, AreClusters, IsCounted, IsPresent, IsPresentLink, IsForest, IsGrown, IsToCome, AreToCome, cluster_of, members_of, formed_at}
use Rattle.level_packing.specs.Growing.{IsRaised, IsMerged, IsMergedInto, IsJoinedBy}
use Rattle.level_packing.proofs.Members.{All-from_has, any_first}
use Rattle.level_packing.proofs.Raising.{raise, weaker_limit}
use Rattle.level_packing.proofs.Joining.{join}
use Rattle.level_packing.proofs.Counted.{joined_counts}

-- a forest in which a cluster was raised
pub record AfterRaise (I : Network) (B : Branch) (root x c : ℕ) (rest : List Link) (F G : Groups) : Type 0 where
  pub forest : IsForest I B root c rest G
  pub cluster : G.cluster ≡ F.cluster
  pub members : G.members ≡ F.members
  pub raised : x ≢ cluster_of F root → formed_at G x ≡ c
  pub others : (i : ℕ) → i ≢ x → formed_at G i ≡ formed_at F i

pub after_raise : (I : Network) (B : Branch) (root limit x c : ℕ) (rest : List Link) (F G : Groups) → IsForest I B root limit rest F → limit ≤ c → IsPresent I B x → cluster_of F x ≡ x → IsRaised F (cluster_of F root) x c G → AfterRaise I B root x c rest F G
after_raise I B root limit x c rest F G forest le present own h = by_case (cases_eq x (cluster_of F root)) (cases_lt (formed_at F x) c)
  where
    by_case : (x ≡ cluster_of F root) ⊎ (x ≢ cluster_of F root) → (formed_at F x < c) ⊎ (c ≤ formed_at F x) → AfterRaise I B root x c rest F G
    by_case (inl same) b =
        let e = h.stays (inl same) in
        rw e (record { forest = weaker_limit I B root limit c rest F le forest; cluster = refl; members = refl; raised = λ other. absurd (other same); others = λ i other. refl })
    by_case (inr other) (inr above) =
        let e = h.stays (inr above) in
        let full : formed_at F x ≡ c = omega (arith, forest.levels.low x present) in
        rw e (record { forest = weaker_limit I B root limit c rest F le forest; cluster = refl; members = refl; raised = λ _. full; others = λ i other. refl })
    by_case (inr other) (inl below) =
        let cut = h.rises other below in
        rw cut.2 (record {
          forest = raise I B root limit c rest F x cut.0 forest le present own (λ e. other (sym e)) cut.1.same cut.1.ascending;
          cluster = refl;
          members = refl;
          raised = λ _. get_or-set_same F.formed x c 0 (omega (arith, forest.clusters.formed_len, present.vertex.1));
          others = λ i off. get_or-set_other F.formed x i c 0 off;
        })

-- a link within a cluster is passed over
pub skip : (I : Network) (B : Branch) (root limit : ℕ) (l : Link) (rest : List Link) (F : Groups) → cluster_of F l.a ≡ cluster_of F l.b → IsForest I B root limit (l ∷ rest) F → IsForest I B root limit rest F
skip I B root limit l rest F same forest = record { rooted = forest.rooted; clusters = forest.clusters; levels = forest.levels; to_come = to_come }
  where
    to_come : AreToCome I B rest F
    to_come u v pu pv off = by_case (link I.links u v) (forest.to_come u v pu pv off)
      where
        by_case : (o : Option ℕ) → IfSome o (IsToCome (l ∷ rest) u v) → IfSome o (IsToCome rest u v)
        by_case None h = tt
        by_case (Some price) h = elim (any_first (λ (m : Link). IsTrue (joins m u v) × (m.cost ≡ price)) l rest h) [ inl here ↦ absurd (elim (joins-ends l u v here.0) [ inl e ↦ off (rw (← e.0, ← e.1) same) | inr e ↦ off (rw (← e.0, ← e.1) (sym same)) ]) | inr later ↦ later ]

-- the clusters of a link's ends, raised to its cost, become one
pub joined : (I : Network) (B : Branch) (root : ℕ) (l : Link) (rest : List Link) (keep gone : ℕ) (F G : Groups) → IsForest I B root l.cost (l ∷ rest) F → All (λ m. l.cost ≤ m.cost) rest → IsPresentLink I B l
    → ((cluster_of F l.a ≡ keep) × (cluster_of F l.b ≡ gone)) ⊎ ((cluster_of F l.a ≡ gone) × (cluster_of F l.b ≡ keep)) → keep ≢ gone
    → (keep ≢ cluster_of F root → formed_at F keep ≡ l.cost) → (gone ≢ cluster_of F root → formed_at F gone ≡ l.cost) → IsMergedInto keep gone l F G → IsForest I B root l.cost rest G
joined I B root l rest keep gone F G forest later present ends two keep_raised gone_raised m = join I B root l rest keep gone F G forest later (record {
  link = present;
  ends = ends;
  two = two;
  keep_raised = keep_raised;
  gone_raised = gone_raised;
  cluster_len = m.cluster_len ∙ forest.clusters.cluster_len;
  cluster = λ v pv. m.cluster v (omega (arith, forest.clusters.cluster_len, pv.vertex.1)) ∙ ap (λ t. cond t keep (cluster_of F v)) (in_gone v pv);
  members_len = ap length m.members ∙ length-set (set F.members gone []) keep _ ∙ length-set F.members gone [] ∙ forest.clusters.members_len;
  members_keep = rw m.members (get_or-set_same (set F.members gone []) keep _ [] (omega (arith, length-set F.members gone [], forest.clusters.members_len, (named keep (keep_at ends)).0.vertex.1)));
  members_other = λ i k g. rw m.members (get_or-set_other (set F.members gone []) keep i _ [] k ∙ get_or-set_other F.members gone i [] [] g);
  formed_len = ap length m.formed ∙ length-set (set F.formed keep l.cost) gone 0 ∙ length-set F.formed keep l.cost ∙ forest.clusters.formed_len;
  formed_keep = rw m.formed (get_or-set_other (set F.formed keep l.cost) gone keep 0 0 two ∙ get_or-set_same F.formed keep l.cost 0 (omega (arith, forest.clusters.formed_len, (named keep (keep_at ends)).0.vertex.1)));
  formed_gone = rw m.formed (get_or-set_same (set F.formed keep l.cost) gone 0 0 (omega (arith, length-set F.formed keep l.cost, forest.clusters.formed_len, (named gone (gone_at ends)).0.vertex.1)));
  formed_other = λ i k g. rw m.formed (get_or-set_other (set F.formed keep l.cost) gone i 0 0 g ∙ get_or-set_other F.formed keep i l.cost 0 k);
  chosen = m.chosen;
  cuts = m.cuts;
})
  where
    -- a name is that of a present vertex in its own cluster
    named : (i : ℕ) → (v : ℕ) × IsPresent I B v × (cluster_of F v ≡ i) → IsPresent I B i × (cluster_of F i ≡ i)
    named i (v, pv, at) = (rw (← at) (forest.clusters.own v pv), rw (← at) (forest.clusters.settled v pv))

    keep_at : ((cluster_of F l.a ≡ keep) × (cluster_of F l.b ≡ gone)) ⊎ ((cluster_of F l.a ≡ gone) × (cluster_of F l.b ≡ keep)) → (v : ℕ) × IsPresent I B v × (cluster_of F v ≡ keep)
    keep_at (inl e) = (l.a, present.a, e.0)
    keep_at (inr e) = (l.b, present.b, e.1)

    gone_at : ((cluster_of F l.a ≡ keep) × (cluster_of F l.b ≡ gone)) ⊎ ((cluster_of F l.a ≡ gone) × (cluster_of F l.b ≡ keep)) → (v : ℕ) × IsPresent I B v × (cluster_of F v ≡ gone)
    gone_at (inl e) = (l.b, present.b, e.1)
    gone_at (inr e) = (l.a, present.a, e.0)

    in_gone : (v : ℕ) → IsPresent I B v → has (members_of F gone) v ≡ (cluster_of F v == gone)
    in_gone v pv =
        let name = named gone (gone_at ends) in
        let member = forest.clusters.members gone v name.0 name.1 in
        by_case (has (members_of F gone) v) refl member.0 (λ at. member.1 (pv, at))
      where
        by_case : (b : Bool) → has (members_of F gone) v ≡ b → (has (members_of F gone) v ≡ true → IsPresent I B v × (cluster_of F v ≡ gone)) → (cluster_of F v ≡ gone → has (members_of F gone) v ≡ true) → b ≡ (cluster_of F v == gone)
        by_case true is to from = let at = (to is).1 in grind (arith, nat_tests)
        by_case false is to from = let off : cluster_of F v ≢ gone = λ at. false≢true (sym is ∙ from at) in grind (arith, nat_tests)

-- the vertices of a cluster have places
pub members_in_range : (I : Network) (B : Branch) (F : Groups) (i : ℕ) → AreClusters I B F → IsPresent I B i → cluster_of F i ≡ i → All (λ v. v < length F.cluster) (members_of F i)
members_in_range I B F i clusters present own = All-from_has (λ v. v < length F.cluster) (members_of F i) (λ v there. omega (arith, clusters.cluster_len, ((clusters.members i v present own).0 there).0.vertex.1))

-- in ascending order what comes later costs at least as much
pub later_cost_more : (ls : List Link) (i : ℕ) (d : Link) → IsNonDecreasingBy (λ l. l.cost) ls → i < length ls → All (λ m. (get_or ls i d).cost ≤ m.cost) (drop (i + 1) ls)
later_cost_more ls i d up within k e short =
    let later : get_or (drop (i + 1) ls) k e ≡ get_or ls ((i + 1) + k) e = get_or-drop (i + 1) ls k e in
    let short_there : (i + 1) + k < length ls = omega (arith, length-drop (i + 1) ls) in
    rw (later, get_or_default ls i d e within) (up i ((i + 1) + k) e (omega arith) short_there)

-- one more link is taken
pub take_skip : (I : Network) (B : Branch) (root : ℕ) (l : Link) (rest : List Link) (F : Groups) → IsGrown I B root (l ∷ rest) F → cluster_of F l.a ≡ cluster_of F l.b → IsGrown I B root rest F
take_skip I B root l rest F (limit, forest, later, counted) same = (limit, skip I B root limit l rest F same forest, All-tail (λ (m : Link). limit ≤ m.cost) l rest later, counted)

pub take_join : (I : Network) (B : Branch) (root : ℕ) (l : Link) (rest : List Link) (F F1 F2 G : Groups) → IsGrown I B root (l ∷ rest) F → IsPresentLink I B l → All (λ m. l.cost ≤ m.cost) rest → cluster_of F l.a ≢ cluster_of F l.b
    → IsRaised F (cluster_of F root) (cluster_of F l.a) l.cost F1 → IsRaised F1 (cluster_of F root) (cluster_of F l.b) l.cost F2 → IsMerged (cluster_of F l.a) (cluster_of F l.b) l F2 G → IsGrown I B root rest G
take_join I B root l rest F F1 F2 G (limit, forest, later, counted) present above apart first second merged =
    let le : limit ≤ l.cost = All-head (λ (m : Link). limit ≤ m.cost) l rest later in
    let one = after_raise I B root limit (cluster_of F l.a) l.cost (l ∷ rest) F F1 forest le (forest.clusters.own l.a present.a) (forest.clusters.settled l.a present.a) first in
    let same_cluster : (v : ℕ) → cluster_of F1 v ≡ cluster_of F v = λ v. ap (λ xs. get_or xs v 0) one.cluster in
    let second_here : IsRaised F1 (cluster_of F1 root) (cluster_of F l.b) l.cost F2 = rw (same_cluster root) second in
    let two = after_raise I B root l.cost (cluster_of F l.b) l.cost (l ∷ rest) F1 F2 one.forest (omega arith) (forest.clusters.own l.b present.b) (same_cluster (cluster_of F l.b) ∙ forest.clusters.settled l.b present.b) second_here in
    let still : (v : ℕ) → cluster_of F2 v ≡ cluster_of F v = λ v. ap (λ xs. get_or xs v 0) two.cluster ∙ same_cluster v in
    let a_raised : cluster_of F l.a ≢ cluster_of F2 root → formed_at F2 (cluster_of F l.a) ≡ l.cost = λ off. two.others (cluster_of F l.a) apart ∙ one.raised (λ e. off (e ∙ sym (still root))) in
    let b_raised : cluster_of F l.b ≢ cluster_of F2 root → formed_at F2 (cluster_of F l.b) ≡ l.cost = λ off. two.raised (λ e. off (e ∙ same_cluster root ∙ sym (still root))) in
    let more = joined_counts I.n l F F1 F2 G (cluster_of F root) (cluster_of F l.a) (cluster_of F l.b) apart (filled l.a present.a) (filled l.b present.b) first second merged counted in
    by_case two.forest (still l.a) (still l.b) a_raised b_raised merged more
  where
    -- the cluster of a present vertex holds one at least
    filled : (v : ℕ) → IsPresent I B v → IsTrue (has (members_of F (cluster_of F v)) (cluster_of F v))
    filled v pv =
        let own = forest.clusters.own v pv in
        let settled = forest.clusters.settled v pv in
        (forest.clusters.members (cluster_of F v) (cluster_of F v) own settled).1 (own, settled)

    by_case : IsForest I B root l.cost (l ∷ rest) F2 → cluster_of F2 l.a ≡ cluster_of F l.a → cluster_of F2 l.b ≡ cluster_of F l.b → (cluster_of F l.a ≢ cluster_of F2 root → formed_at F2 (cluster_of F l.a) ≡ l.cost) → (cluster_of F l.b ≢ cluster_of F2 root → formed_at F2 (cluster_of F l.b) ≡ l.cost) → IsMerged (cluster_of F l.a) (cluster_of F l.b) l F2 G → IsCounted I.n G → IsGrown I B root rest G
    by_case f a b a_raised b_raised (inl m) more = (l.cost, joined I B root l rest (cluster_of F l.a) (cluster_of F l.b) F2 G f above present (inl (a, b)) apart a_raised b_raised m, above, more)
    by_case f a b a_raised b_raised (inr m) more = (l.cost, joined I B root l rest (cluster_of F l.b) (cluster_of F l.a) F2 G f above present (inr (a, b)) (λ e. apart (sym e)) b_raised a_raised m, above, more)

-- the same from what one call says of the clusters' names
pub take_joined : (I : Network) (B : Branch) (root : ℕ) (l : Link) (rest : List Link) (F G : Groups) (of_root first second : ℕ) → IsGrown I B root (l ∷ rest) F → IsPresentLink I B l → All (λ m. l.cost ≤ m.cost) rest → first ≢ second
    → of_root ≡ cluster_of F root → first ≡ cluster_of F l.a → second ≡ cluster_of F l.b → IsJoinedBy of_root first second l F G → IsGrown I B root rest G
take_joined I B root l rest F G of_root first second grown present above apart root_is first_is second_is (F1, F2, one, two, merged) =
    take_join I B root l rest F F1 F2 G grown present above (λ e. apart (first_is ∙ e ∙ sym second_is))
    (rw (← root_is, ← first_is) one) (rw (← root_is, ← second_is) two) (rw (← first_is, ← second_is) merged)
