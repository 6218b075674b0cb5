-- What a forest says once no link is left.
use Rattle.std.proofs.Common.{◌≡◌, ◌≢◌, ℕ, ◌+◌, ◌≤◌, Bool, true, false, not, ◌&&◌, ◌||◌, cond, eqb, List, [], ◌∷◌, refl, sym, ap, subst, ◌∙◌, ◌⊎◌, inl, inr, arith, Option, Some, None}
use Rattle.std.specs.Prelude.{All, IsTrue, IsFalse, IsSome, IfSome, OnSome, ◌==◌}
use Rattle.std.specs.List.{AllByRecursion}
use Rattle.std.proofs.lemmas.Bool.{cases_eq, false≢true}
use Rattle.std.proofs.lemmas.Bool.Decides.{nat_tests}
use Rattle.std.proofs.lemmas.List.Elements.{recursion_from_All, All-weaker, All-cons, All-nil}
use Rattle.st_model.specs.declared.branch.Branch.{Branch}
use Rattle.st_model.specs.declared.link.Link.{Link}
use Rattle.st_model.specs.declared.tree.Tree.{Tree}
use Rattle.st_model.specs.Lists.{has, total, sum_to}
use Rattle.st_model.specs.Network.{Network, IsInstance, IsVertex, link, pays}
use Rattle.st_model.specs.Arborescence.{IsArborescence, reached, arc_cost, missed, cost}
use Rattle.st_model.specs.Ground.{ground}
use Rattle.st_model.specs.Branch.{IsVertexSet, is_present, is_certain, open_link}
use Rattle.st_model.specs.Made.{is_between, has_pair, IsMadeOf, AreConnectedFrom}
use Rattle.st_model.proofs.Links.{linked_in_range}
use Rattle.st_model.proofs.Distinct.{between-ends, link-comm, total-arc_cost_made}
use Rattle.st_model.proofs.Sums.{sum_to_same, sum_to_none}
use Rattle.cut_packing.specs.declared.cut.Cut.{Cut}
use Rattle.cut_packing.specs.Packing.{load, named, CutFits, Fits, outside_pays, base_weight}
use Rattle.st_model.proofs.Marked.{at_member}
use Rattle.st_model.proofs.Members.{has-one}
use Rattle.st_model.proofs.Reaching.{one_side, reached_in, tree-vertex}
use Rattle.st_model.proofs.ThinGrowth.{has-reached_from}
use Rattle.cut_packing.proofs.Turned.{turned, entered}
use Rattle.cut_packing.proofs.Charged.{charged}
use Rattle.cut_packing.proofs.Duality.{turned_bears}
use Rattle.level_packing.specs.Forest.{Groups, IsPresent, IsForest, IsToCome, cluster_of, members_of, level}
use Rattle.level_packing.specs.Growing.{IsAlone}
use Rattle.level_packing.specs.Spanning.{IsSpanning}
use Rattle.level_packing.proofs.Members.{All-from_has, itself}

-- every vertex alone is a forest that nothing was taken into
pub alone_forest : (I : Network) (B : Branch) (root : ℕ) (links : List Link) (F : Groups) → IsPresent I B root → IsAlone I.n F → ((u v : ℕ) → IsPresent I B u → IsPresent I B v → IfSome (link I.links u v) (IsToCome links u v)) → IsForest I B root 0 links F
alone_forest I B root links F present alone complete = record {
  rooted = present;
  clusters = record {
    cluster_len = alone.cluster_len;
    members_len = alone.members_len;
    formed_len = alone.formed_len;
    own = λ v pv. rw (alone.cluster v pv.vertex.1) pv;
    settled = λ v pv. ap (cluster_of F) (alone.cluster v pv.vertex.1);
    members = λ i v pi own. rw (alone.members i pi.vertex.1) (λ there. let same : i ≡ v = has-one i v there in (rw (← same) pi, rw (← same) (alone.cluster i pi.vertex.1)), λ at. let same : v ≡ i = sym (alone.cluster v at.0.vertex.1) ∙ at.1 in rw same (itself i));
    chosen = rw alone.chosen (All-nil _);
    connected = λ S closed u v pu pv same. ap S (sym (alone.cluster u pu.vertex.1) ∙ same ∙ alone.cluster v pv.vertex.1);
  };
  levels = record {
    cuts = rw alone.cuts (All-nil (CutFits I B));
    sets = rw alone.cuts (All-nil (λ (c : Cut). IsVertexSet I.n c.set));
    apart_from_root = rw alone.cuts (All-nil (λ (c : Cut). IsFalse (has c.set root)));
    low = λ i pi. omega (arith, alone.formed i);
    raised = λ u v pu pv off other. rw (alone.cuts, alone.formed) refl;
    light = λ u v pu pv off. rw alone.cuts (omega arith);
    within = λ u v pu pv same. rw alone.cuts (free (link I.links u v));
    idle = λ i vertex unnamed. alone.formed i;
    balance =
        let values : total (λ (c : Cut). c.y) F.cuts ≡ 0 = rw alone.cuts refl in
        let chosen : total (arc_cost I) F.chosen ≡ 0 = rw alone.chosen refl in
        let levels : sum_to (level F root) I.n ≡ 0 = sum_to_same (level F root) (λ _. 0) I.n (λ i low high. none_raised (eqb i (cluster_of F root)) (alone.formed i)) ∙ sum_to_none I.n in
        omega arith;
  };
  to_come = λ u v pu pv off. complete u v pu pv;
}
  where
    none_raised : (b : Bool) {f : ℕ} → f ≡ 0 → cond b 0 f ≡ 0
    none_raised true e = refl
    none_raised false e = e

    free : (o : Option ℕ) → IfSome o (λ price. 0 ≤ price)
    free None = tt
    free (Some price) = omega arith

-- what holds of the ends of all pairs holds of the ends of one of them
pair_ends : (P : ℕ → Type 0) (pairs : List (ℕ × ℕ)) (u v : ℕ) → AllByRecursion (λ pair. P pair.0 × P pair.1) pairs → has_pair pairs u v ≡ true → P u × P v
pair_ends P [] u v h there = absurd (false≢true there)
pair_ends P (pair ∷ pairs) u v h there = by_case (is_between pair u v) refl there (pair_ends P pairs u v h.1)
  where
    by_case : (b : Bool) → is_between pair u v ≡ b → b || has_pair pairs u v ≡ true → (has_pair pairs u v ≡ true → P u × P v) → P u × P v
    by_case true is here rest = elim (between-ends pair u v is) [ inl e ↦ (subst P e.0 h.0.0, subst P e.1 h.0.1) | inr e ↦ (subst P e.1 h.0.1, subst P e.0 h.0.0) ]
    by_case false is here rest = rest here

-- no link is between two clusters
not_linked : (I : Network) (B : Branch) (root limit : ℕ) (F : Groups) (u v : ℕ) → IsForest I B root limit [] F → IsPresent I B u → IsPresent I B v → cluster_of F u ≢ cluster_of F v → link I.links u v ≡ None
not_linked I B root limit F u v forest pu pv off = by_case (link I.links u v) (forest.to_come u v pu pv off)
  where
    by_case : (o : Option ℕ) → IfSome o (IsToCome [] u v) → o ≡ None
    by_case None h = refl
    by_case (Some price) (k, m, within, at, rest) = absurd (omega arith)

-- no cut names a vertex that isn't present
unnamed : (B : Branch) (q : ℕ) (cuts : List Cut) → is_present B q ≡ false → AllByRecursion (λ c. IsTrue (is_present B c.q)) cuts → named cuts q ≡ 0
unnamed B q [] off h = refl
unnamed B q (c ∷ cuts) off h = by_case (eqb c.q q) refl (unnamed B q cuts off h.1)
  where
    by_case : (b : Bool) → eqb c.q q ≡ b → named cuts q ≡ 0 → cond b c.y 0 + named cuts q ≡ 0
    by_case true is rest = let same : c.q ≡ q = grind (arith, nat_tests) in absurd (false≢true (sym off ∙ rw (← same) h.0))
    by_case false is rest = omega (arith, rest)

-- what a packing over present vertices alone owes where it may not name a vertex
prizes_free : (I : Network) (B : Branch) (cuts : List Cut) (q : ℕ) → ((v : ℕ) → IsPresent I B v → IsTrue (is_certain I B v)) → All (CutFits I B) cuts → IsVertex I.n q → IsFalse (is_certain I B q) → named cuts q ≤ pays I q
prizes_free I B cuts q certain fit vertex free = by_case (is_present B q) refl
  where
    by_case : (b : Bool) → is_present B q ≡ b → named cuts q ≤ pays I q
    by_case true is = absurd (false≢true (sym free ∙ certain q (record { vertex = vertex; present = is })))
    by_case false is = omega (arith, unnamed B q cuts is (recursion_from_All _ cuts (All-weaker (CutFits I B) (λ c. IsTrue (is_present B c.q)) (λ c fits. fits.present) cuts fit)))

-- where no link is barred, arcs cost what their links do
open_left : (I : Network) (B : Branch) (u v : ℕ) → ((u v : ℕ) → IsSome (link I.links u v) → IsFalse (has_pair B.barred u v)) → open_link I B u v ≡ link I.links u v
open_left I B u v left = by_case (has_pair B.barred u v) (link I.links u v) (left u v)
  where
    by_case : (b : Bool) (price : Option ℕ) → (IsSome price → IsFalse b) → cond b None price ≡ price
    by_case true None h = refl
    by_case true (Some c) h = absurd (false≢true (sym (h refl)))
    by_case false price h = refl

-- a link between present vertices is between vertices
linked_present : (I : Network) (B : Branch) (u v : ℕ) (P : ℕ → Type 0) → IsInstance I → IsTrue (is_present B u) → IsTrue (is_present B v) → (IsPresent I B u → IsPresent I B v → IfSome (link I.links u v) P) → IfSome (link I.links u v) P
linked_present I B u v P instance pu pv h = by_case (link I.links u v) (linked_in_range I.n I.links u v instance.ends) h
  where
    by_case : (o : Option ℕ) → OnSome o (IsVertex I.n u × IsVertex I.n v) → (IsPresent I B u → IsPresent I B v → IfSome o P) → IfSome o P
    by_case None in_range h = tt
    by_case (Some price) in_range h = h (record { vertex = in_range.0; present = pu }) (record { vertex = in_range.1; present = pv })

module _ (I : Network) (B : Branch) (root limit : ℕ) (F : Groups) (instance : IsInstance I) (left : (u v : ℕ) → IsSome (link I.links u v) → IsFalse (has_pair B.barred u v)) (certain : (v : ℕ) → IsPresent I B v → IsTrue (is_certain I B v)) (forest : IsForest I B root limit [] F) where
  -- the cuts, where all present vertices are in one cluster
  module _ (one : (v : ℕ) → IsPresent I B v → cluster_of F v ≡ cluster_of F root) where
    pub all_fit : Fits I B (record { root = Some root; cuts = F.cuts })
    all_fit = record {
      root = record { vertex = forest.rooted.vertex; certain = certain root forest.rooted; same = tt; apart = forest.levels.apart_from_root };
      cuts = forest.levels.cuts;
      arcs = λ u v pu pv. rw (open_left I B u v left) (linked_present I B u v (λ price. load F.cuts (u, v) ≤ price) instance pu pv (λ u_here v_here. forest.levels.within u v u_here v_here (one u u_here ∙ sym (one v v_here))));
      prizes = λ q vertex free. prizes_free I B F.cuts q certain forest.levels.cuts vertex free;
    }

    pub all_connected : AreConnectedFrom root F.chosen
    all_connected S start closed k d within =
        let joined = forest.clusters.chosen k d within in
        sym (forest.clusters.connected S closed root _ forest.rooted joined.from (sym (one _ joined.from))) ∙ start

    module _ (t : Tree) (starts : t.start ≡ root) (arborescence : IsArborescence I t) (made : IsMadeOf F.chosen t) (ends : All (λ pair. IsTrue (has (reached t) pair.0) × IsTrue (has (reached t) pair.1)) F.chosen) where
      root_reached : has (reached t) root ≡ true
      root_reached = has-reached_from (t.start ∷ []) t.arcs root (rw starts (itself root))

      present_reached : (v : ℕ) → IsPresent I B v → has (reached t) v ≡ true
      present_reached v pv = sym (forest.clusters.connected (has (reached t)) (λ k d within. (ends k d within).0 ∙ sym (ends k d within).1) root v forest.rooted pv (sym (one v pv))) ∙ root_reached

      reached_present : (v : ℕ) → has (reached t) v ≡ true → is_present B v ≡ true
      reached_present v there = reached_in (λ w. is_present B w ≡ true) (t.start ∷ []) t.arcs at_start (recursion_from_All _ t.arcs (λ k d within. (pair_ends (λ w. is_present B w ≡ true) F.chosen _ _ (recursion_from_All _ F.chosen (λ j e short. let joined = forest.clusters.chosen j e short in (joined.from.present, joined.to.present))) (made k d within)).1)) v there
        where
          at_start : (w : ℕ) → has (t.start ∷ []) w ≡ true → is_present B w ≡ true
          at_start w here = let same : root ≡ w = has-one root w (rw starts at here) in rw (← same) forest.rooted.present

      pub spans : IsSpanning I B t
      spans = record { arborescence = arborescence; present = λ v vertex. same v vertex (has (reached t) v) (is_present B v) refl refl }
        where
          same : (v : ℕ) → IsVertex I.n v → (a b : Bool) → has (reached t) v ≡ a → is_present B v ≡ b → a ≡ b
          same v vertex true true p q = refl
          same v vertex true false p q = absurd (false≢true (sym q ∙ reached_present v p))
          same v vertex false true p q = absurd (false≢true (sym p ∙ present_reached v (record { vertex = vertex; present = q })))
          same v vertex false false p q = refl

      links_at_most : total (arc_cost I) t.arcs ≤ total (arc_cost I) F.chosen
      links_at_most = total-arc_cost_made I F.chosen (t.start ∷ []) t.arcs arborescence.grows made

      links_at_least : total (λ c. c.y) F.cuts ≤ total (arc_cost I) t.arcs
      links_at_least =
          let entries = charged (λ _. true) (turned t.arcs root) F.cuts (recursion_from_All _ F.cuts (λ k d below. λ _. entered (ground I) _ t.start root _ t.arcs arborescence.grows root_reached (forest.levels.apart_from_root k d below) (q_reached _ (forest.levels.cuts k d below)) (forest.levels.cuts k d below).member)) in
          let bears = turned_bears (ground I) (load F.cuts) root (t.start ∷ []) t.arcs (link-comm I.links) arborescence.grows (λ u v u_there v_there. rw (open_left I B u v left) at (all_fit.arcs u v (reached_present u u_there) (reached_present v v_there))) in
          omega (arith, entries, bears)
        where
          q_reached : (c : Cut) → CutFits I B c → has (reached t) c.q ≡ true
          q_reached c fits = present_reached c.q (record { vertex = at_member (IsVertex I.n) c.set c.q (recursion_from_All _ c.set fits.in_range) fits.member; present = fits.present })

      no_levels : sum_to (level F root) I.n ≡ 0
      no_levels = sum_to_same (level F root) (λ _. 0) I.n (λ i low high. none i (low, high) (cases_eq i (cluster_of F root))) ∙ sum_to_none I.n
        where
          zero_either : (b : Bool) {f : ℕ} → f ≡ 0 → cond b 0 f ≡ 0
          zero_either true e = refl
          zero_either false e = e

          none : (i : ℕ) → IsVertex I.n i → (i ≡ cluster_of F root) ⊎ (i ≢ cluster_of F root) → level F root i ≡ 0
          none i vertex (inl here) = let test : eqb i (cluster_of F root) ≡ true = grind (arith, nat_tests) in rw test refl
          none i vertex (inr other) = zero_either (eqb i (cluster_of F root)) (forest.levels.idle i vertex (λ pi own. other (sym own ∙ one i pi)))

      missed_outside : sum_to (missed I (reached t)) I.n ≡ sum_to (outside_pays I B) I.n
      missed_outside = sum_to_same (missed I (reached t)) (outside_pays I B) I.n (λ v low high. same (has B.outside v) (pays I v) (spans.present v (low, high)))
        where
          same : (b : Bool) (p : ℕ) {r : Bool} → r ≡ not b → cond r 0 p ≡ cond b p 0
          same true p e = rw e refl
          same false p e = rw e refl

      pub weighs : base_weight I B (record { root = Some root; cuts = F.cuts }) ≡ cost I t
      weighs = omega (arith, links_at_most, links_at_least, no_levels, missed_outside, forest.levels.balance)

  -- a cut round a cluster that isn't the root's, of any value
  module _ (vertex : ℕ) (vertex_here : IsPresent I B vertex) (apart : cluster_of F vertex ≢ cluster_of F root) (inside : List ℕ) (same : (v : ℕ) → has inside v ≡ has (members_of F (cluster_of F vertex)) v) (target : ℕ) where
    abbrev pub wall_cut : Cut
    wall_cut = record { set = inside; q = cluster_of F vertex; y = target }

    name_here : IsPresent I B (cluster_of F vertex)
    name_here = forest.clusters.own vertex vertex_here

    name_own : cluster_of F (cluster_of F vertex) ≡ cluster_of F vertex
    name_own = forest.clusters.settled vertex vertex_here

    pub wall_in_range : All (IsVertex I.n) inside
    wall_in_range = All-from_has (IsVertex I.n) inside (λ v there. ((forest.clusters.members (cluster_of F vertex) v name_here name_own).0 (sym (same v) ∙ there)).0.vertex)

    in_wall : (v : ℕ) → IsPresent I B v → cluster_of F v ≡ cluster_of F vertex → has inside v ≡ true
    in_wall v pv at = same v ∙ (forest.clusters.members (cluster_of F vertex) v name_here name_own).1 (pv, at)

    not_in_wall : (v : ℕ) → cluster_of F v ≢ cluster_of F vertex → has inside v ≡ false
    not_in_wall v off = by_case (has inside v) refl
      where
        by_case : (b : Bool) → has inside v ≡ b → b ≡ false
        by_case true is = absurd (off ((forest.clusters.members (cluster_of F vertex) v name_here name_own).0 (sym (same v) ∙ is)).1)
        by_case false is = refl

    wall_cut_fits : All (CutFits I B) (record { set = inside; q = cluster_of F vertex; y = target } ∷ [])
    wall_cut_fits = All-cons (CutFits I B) _ [] (record { in_range = wall_in_range; member = in_wall (cluster_of F vertex) name_here name_own; present = name_here.present }) (All-nil (CutFits I B))

    pub wall_fits : Fits I B (record { root = Some root; cuts = record { set = inside; q = cluster_of F vertex; y = target } ∷ [] })
    wall_fits = record {
      root = record { vertex = forest.rooted.vertex; certain = certain root forest.rooted; same = tt; apart = All-cons (λ (c : Cut). IsFalse (has c.set root)) _ [] (not_in_wall root (λ e. apart (sym e))) (All-nil (λ (c : Cut). IsFalse (has c.set root))) };
      cuts = wall_cut_fits;
      arcs = λ u v pu pv. rw (open_left I B u v left) (linked_present I B u v (λ price. load (record { set = inside; q = cluster_of F vertex; y = target } ∷ []) (u, v) ≤ price) instance pu pv (λ u_here v_here. arc u v u_here v_here (cases_eq (cluster_of F u) (cluster_of F v))));
      prizes = λ q q_vertex free. prizes_free I B (record { set = inside; q = cluster_of F vertex; y = target } ∷ []) q certain wall_cut_fits q_vertex free;
    }
      where
        free_in : (o : Option ℕ) (b : Bool) → IfSome o (λ price. cond (b && not b) target 0 + 0 ≤ price)
        free_in None b = tt
        free_in (Some price) true = omega arith
        free_in (Some price) false = omega arith

        arc : (u v : ℕ) → IsPresent I B u → IsPresent I B v → (cluster_of F u ≡ cluster_of F v) ⊎ (cluster_of F u ≢ cluster_of F v) → IfSome (link I.links u v) (λ price. load (record { set = inside; q = cluster_of F vertex; y = target } ∷ []) (u, v) ≤ price)
        arc u v pu pv (inr off) = rw (not_linked I B root limit F u v forest pu pv off) tt
        arc u v pu pv (inl together) = rw (alike (cases_eq (cluster_of F v) (cluster_of F vertex))) (free_in (link I.links u v) (has inside v))
          where
            alike : (cluster_of F v ≡ cluster_of F vertex) ⊎ (cluster_of F v ≢ cluster_of F vertex) → has inside u ≡ has inside v
            alike (inl at) = in_wall u pu (together ∙ at) ∙ sym (in_wall v pv at)
            alike (inr off) = not_in_wall u (λ e. off (sym together ∙ e)) ∙ sym (not_in_wall v off)

    pub wall_weighs : target ≤ base_weight I B (record { root = Some root; cuts = record { set = inside; q = cluster_of F vertex; y = target } ∷ [] })
    wall_weighs = omega arith

    -- no tree reaches all present vertices and no other
    pub none_spans : (t : Tree) → IsSpanning I B t → ⊥
    none_spans t spanning =
        let S : ℕ → Bool = λ v. cluster_of F v == cluster_of F root in
        let closed : (u v : ℕ) → IsPresent I B u → IsPresent I B v → IsSome (link I.links u v) → S u ≡ S v = λ u v pu pv linked. elim (cases_eq (cluster_of F u) (cluster_of F v)) [ inl together ↦ ap (λ i. i == cluster_of F root) together | inr off ↦ absurd (unlinked _ (not_linked I B root limit F u v forest pu pv off) linked) ] in
        let present : (v : ℕ) → IsTrue (has (reached t) v) → IsPresent I B v = λ v there. let vertex = tree-vertex I t v instance spanning.arborescence there in record { vertex = vertex; present = sym (spanning.present v vertex) ∙ there } in
        let side = one_side I S (S t.start) (t.start ∷ []) t.arcs (λ u v tu tv linked. closed u v (present u tu) (present v tv) linked) spanning.arborescence.grows (λ v here. ap S (sym (has-one t.start v here))) in
        let at_root = side root (spanning.present root forest.rooted.vertex ∙ forest.rooted.present) in
        let at_vertex = side vertex (spanning.present vertex vertex_here.vertex ∙ vertex_here.present) in
        contrary (cluster_of F vertex) (cluster_of F root) apart (at_vertex ∙ sym at_root)
      where
        unlinked : (o : Option ℕ) → o ≡ None → IsSome o → ⊥
        unlinked None none some = cc
        unlinked (Some price) none some = cc

        contrary : (i r : ℕ) → i ≢ r → (i == r) ≡ (r == r) → ⊥
        contrary i r other same = other (grind (arith, nat_tests))
