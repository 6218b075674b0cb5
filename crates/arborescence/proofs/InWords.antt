-- What is judged over the ground of a directed network, in the words of arborescences.
use Rattle.std.proofs.Common.{◌≡◌, ℕ, ◌≤◌, Bool, true, false, cond, ◌⊎◌, List, [], ◌∷◌, ◌↔◌, Option, Some, None, get_or, inl, inr, refl, sym, ap, subst, ◌∙◌, arith}
use Rattle.std.specs.Prelude.{◌==◌, IsTrue, IsFalse, IsSome, IfSome, All, MatchOption, unwrap_or}
use Rattle.std.proofs.lemmas.Bool.{and_from, and_parts, cases_Bool, or_cases, or_from, or_left, or_parts, or_right, eqb-true, eq-eqb, ne_eqb, both_ways, false_from_ne_true, false≢true}
use Rattle.std.specs.List.{AllByRecursion}
use Rattle.std.proofs.lemmas.List.Elements.{All-nil, recursion_from_All}
use Rattle.st_model.specs.declared.branch.Branch.{Branch}
use Rattle.st_model.specs.Arborescence.{GrowsIn, arc_cost_in}
use Rattle.st_model.specs.Branch.{IsPlain, certain_in, is_present}
use Rattle.st_model.specs.Lists.{has, total}
use Rattle.st_model.specs.Network.{IsVertex}
use Rattle.st_model.proofs.Branches.{IsVertexSet-member}
use Rattle.st_model.proofs.ThinGrowth.{has-reached_from}
use Rattle.cut_packing.specs.declared.cut.Cut.{Cut}
use Rattle.cut_packing.specs.Full.{IsReachedIn, here}
use Rattle.cut_packing.specs.Packing.{load, ArcsFitIn, CutFitsIn, IsRootIn}
use Rattle.cut_packing.proofs.Rooted.{rooted_duality_lem}
use Rattle.arborescence.specs.DiNetwork.{DiNetwork, arc_from, away_price, di_ground, is_sought}
use Rattle.arborescence.specs.Words.{GrowsBy, IsDiCut, IsDiFull, TreesInWords, CostsInWords, FitsInWords, WeightsInWords, FullInWords, SplitsInWords, NoLinkIsSplit, WallsLeaveNoTree, PackingsBound}
use Rattle.arborescence.proofs.DiTrees.{is_rooted, starts_at_root, wall_bars}
use Rattle.arborescence.proofs.DiWeights.{certain_prizes, costs_arcs, full_root, weighs_cuts}

-- an arc that doesn't lead to the root has the same price
away : (D : DiNetwork) (u v : ℕ) → IsFalse (v == D.root) → away_price D u v ≡ arc_from D.arcs u v
away D u v other = rw other refl

away_arc : (D : DiNetwork) (u v : ℕ) → IsSome (away_price D u v) → IsSome (arc_from D.arcs u v)
away_arc D u v some = step (v == D.root) some
  where
    step : (b : Bool) → IsSome (cond b None (arc_from D.arcs u v)) → IsSome (arc_from D.arcs u v)
    step true h = absurd (false≢true h)
    step false h = h

-- a vertex that isn't reached isn't the root
new_head : (D : DiNetwork) (r : List ℕ) (v : ℕ) → IsTrue (has r D.root) → IsFalse (has r v) → IsFalse (v == D.root)
new_head D r v root new = false_from_ne_true (v == D.root) (λ same. both_ways (has r D.root) (rw (eqb-true v D.root same) at new) root)

by_arcs : (D : DiNetwork) (r : List ℕ) (arcs : List (ℕ × ℕ)) → GrowsIn (di_ground D) r arcs → GrowsBy D r arcs
by_arcs D r [] g = tt
by_arcs D r (arc ∷ arcs) g = (away_arc D arc.0 arc.1 g.0, g.1, g.2, by_arcs D (arc.1 ∷ r) arcs g.3)

on_ground : (D : DiNetwork) (r : List ℕ) (arcs : List (ℕ × ℕ)) → IsTrue (has r D.root) → GrowsBy D r arcs → GrowsIn (di_ground D) r arcs
on_ground D r [] root g = tt
on_ground D r (arc ∷ arcs) root g = (rw (away D arc.0 arc.1 (new_head D r arc.1 root g.2)) g.0, g.1, g.2, on_ground D (arc.1 ∷ r) arcs (or_right (arc.1 == D.root) _ root) g.3)

same_costs : (D : DiNetwork) (r : List ℕ) (arcs : List (ℕ × ℕ)) → IsTrue (has r D.root) → GrowsIn (di_ground D) r arcs → total (arc_cost_in (di_ground D)) arcs ≡ total (λ arc. unwrap_or (arc_from D.arcs arc.0 arc.1) 0) arcs
same_costs D r [] root g = refl
same_costs D r (arc ∷ arcs) root g =
    let here = ap (λ p. unwrap_or p 0) (away D arc.0 arc.1 (new_head D r arc.1 root g.2)) in
    let rest = same_costs D (arc.1 ∷ r) arcs (or_right (arc.1 == D.root) _ root) g.3 in
    omega arith

own_root : (D : DiNetwork) → IsTrue (D.root == D.root)
own_root D = eq-eqb D.root D.root refl

pub trees_in_words : TreesInWords
trees_in_words D t net = (
  λ tree. let same = starts_at_root D t net tree in record {
    start = same;
    grows = by_arcs D (D.root ∷ []) t.arcs (rw same at tree.arborescence.grows);
    terminals = λ v there. tree.required v (IsVertexSet-member D.n D.terminals v net.terminals there) (or_right (v == D.root) _ there);
  },
  λ tree. record {
    arborescence = record { start = rw tree.start net.root; grows = rw tree.start (on_ground D (D.root ∷ []) t.arcs (or_left (D.root == D.root) _ (own_root D)) tree.grows) };
    required = λ v vertex sought. elim (or_cases (v == D.root) (has D.terminals v) sought) [
      | inl same ↦ rw (eqb-true v D.root same) (has-reached_from (t.start ∷ []) t.arcs D.root (or_left (t.start == D.root) _ (eq-eqb t.start D.root tree.start)))
      | inr there ↦ tree.terminals v there
    ];
  },
)

pub costs_in_words : CostsInWords
costs_in_words D t net tree =
    let same = starts_at_root D t net tree in
    sym (costs_arcs D t) ∙ same_costs D (D.root ∷ []) t.arcs (or_left (D.root == D.root) _ (own_root D)) (rw same at tree.arborescence.grows)

pub weights_in_words : WeightsInWords
weights_in_words D B P plain = sym (weighs_cuts D B P plain.must)

pub walls_in_words : WallsLeaveNoTree
walls_in_words D wall t net is tree = wall_bars D wall t net is tree

pub packings_in_words : PackingsBound
packings_in_words D B P t net plain fits tree belongs = rooted_duality_lem (di_ground D) D.root B P t (is_rooted D net) plain.must fits tree belongs

pub links_in_words : NoLinkIsSplit
links_in_words D B a b split = false≢true split.linked

pub splits_in_words : SplitsInWords
splits_in_words D B v = (
  λ is. let parts = or_parts (v == D.root) (has D.terminals v) is.free in record { vertex = is.vertex; undecided = is.undecided; other = λ same. absurd (both_ways (v == D.root) parts.0 (eq-eqb v D.root same)); free = parts.1 },
  λ is. record { vertex = is.vertex; undecided = is.undecided; free = or_from (v == D.root) (has D.terminals v) (ne_eqb v D.root is.other) is.free },
)

pub full_in_words : FullInWords
full_in_words D B P net = (
  λ full. let same = full_root D B P full.0 net full.1 full in
      let reached : (v : ℕ) → IsVertex D.n v → IsTrue (certain_in (di_ground D) B v) → IsReachedIn (di_ground D) B P D.root v = subst (λ r. (v : ℕ) → IsVertex D.n v → IsTrue (certain_in (di_ground D) B v) → IsReachedIn (di_ground D) B P r v) same full.2.certain in
      record {
        root = full.1 ∙ ap Some same;
        terminals = λ v there. reached v (IsVertexSet-member D.n D.terminals v net.terminals there) (or_left (is_sought D v) _ (or_right (v == D.root) _ there));
        inside = λ v vertex there. reached v vertex (or_right (is_sought D v) _ there);
      },
  λ full. (D.root, full.root, record { certain = λ v vertex certain. certain_reached v vertex certain full; undecided = λ v vertex undecided named. absurd (omega arith) }),
)
  where
    certain_reached : (v : ℕ) → IsVertex D.n v → IsTrue (certain_in (di_ground D) B v) → IsDiFull D B P → IsReachedIn (di_ground D) B P D.root v
    certain_reached v vertex certain full = elim (or_cases (is_sought D v) (has B.inside v) certain) [
      | inl sought ↦ elim (or_cases (v == D.root) (has D.terminals v) sought) [
        | inl same ↦ rw (eqb-true v D.root same) here
        | inr there ↦ full.terminals v there
      ]
      | inr inside ↦ full.inside v vertex inside
    ]

-- no arc to the root bears anything where no set holds it
root_bears : (r u : ℕ) (cuts : List Cut) → AllByRecursion (λ c. IsFalse (has c.set r)) cuts → load cuts (u, r) ≡ 0
root_bears r u [] all = refl
root_bears r u (c ∷ cuts) all = rw all.0 (omega (arith, root_bears r u cuts all.1))

-- what a root says of cuts
apart_of : (D : DiNetwork) (B : Branch) (cuts : List Cut) (root : Option ℕ) → MatchOption root (cuts ≡ []) (IsRootIn (di_ground D) B cuts) → All (λ c. IsFalse (has c.set D.root)) cuts
apart_of D B cuts None none = rw none (All-nil (λ c. IsFalse (has c.set D.root)))
apart_of D B cuts (Some r) is = subst (λ s. All (λ c. IsFalse (has c.set s)) cuts) is.same is.apart

cut_words : (D : DiNetwork) (B : Branch) (c : Cut) → IsFalse (has c.set D.root) → CutFitsIn (di_ground D) B c → IsDiCut D B c
cut_words D B c apart fits =
    let parts = and_parts (is_present B c.q) (certain_in (di_ground D) B c.q) fits.present in
    record { in_range = fits.in_range; apart = apart; member = fits.member; present = parts.0; sought = sought parts.1 }
  where
    sought : IsTrue (certain_in (di_ground D) B c.q) → IsTrue (has D.terminals c.q) ⊎ IsTrue (has B.inside c.q)
    sought certain = elim (or_cases (is_sought D c.q) (has B.inside c.q) certain) [
      | inl named ↦ elim (or_cases (c.q == D.root) (has D.terminals c.q) named) [
        | inl same ↦ absurd (both_ways (has c.set D.root) apart (rw (eqb-true c.q D.root same) at fits.member))
        | inr there ↦ inl there
      ]
      | inr inside ↦ inr inside
    ]

words_cut : (D : DiNetwork) (B : Branch) (c : Cut) → IsDiCut D B c → CutFitsIn (di_ground D) B c
words_cut D B c is = record { in_range = is.in_range; member = is.member; present = and_from (is_present B c.q) (certain_in (di_ground D) B c.q) is.present (certain is.sought) }
  where
    certain : IsTrue (has D.terminals c.q) ⊎ IsTrue (has B.inside c.q) → IsTrue (certain_in (di_ground D) B c.q)
    certain (inl there) = or_left (is_sought D c.q) _ (or_right (c.q == D.root) _ there)
    certain (inr inside) = or_right (is_sought D c.q) _ inside

-- the arcs of a branch in which no link is barred
arcs_words : (D : DiNetwork) (B : Branch) (cuts : List Cut) → IsPlain B → All (λ c. IsFalse (has c.set D.root)) cuts → ArcsFitIn (di_ground D) B cuts ↔ ((u v : ℕ) → IsTrue (is_present B u) → IsTrue (is_present B v) → IfSome (arc_from D.arcs u v) (λ price. load cuts (u, v) ≤ price))
arcs_words D B cuts plain apart = (
  λ fits u v tail head. elim (cases_Bool (v == D.root)) [
    | inl same ↦ let none = root_bears D.root u cuts (recursion_from_All _ cuts apart) in small (arc_from D.arcs u v) (load cuts (u, v)) (rw (eqb-true v D.root same) none)
    | inr other ↦ rw (plain.barred, other) at (fits u v tail head)
  ],
  λ fits u v tail head. rw plain.barred (elim (cases_Bool (v == D.root)) [
    | inl same ↦ rw same tt
    | inr other ↦ rw other (fits u v tail head)
  ]),
)
  where
    small : (p : Option ℕ) (x : ℕ) → x ≡ 0 → IfSome p (λ price. x ≤ price)
    small None x e = tt
    small (Some price) x e = omega arith

pub fits_in_words : FitsInWords
fits_in_words D B P net plain = (
  λ fits. let apart = apart_of D B P.cuts P.root fits.root in record {
    root = root P.root fits.root;
    cuts = λ k d below. cut_words D B (get_or P.cuts k d) (apart k d below) (fits.cuts k d below);
    arcs = (arcs_words D B P.cuts plain apart).0 fits.arcs;
  },
  λ is.
      let apart : All (λ c. IsFalse (has c.set D.root)) P.cuts = λ k d below. (is.cuts k d below).apart in
      let cuts : All (CutFitsIn (di_ground D) B) P.cuts = λ k d below. words_cut D B (get_or P.cuts k d) (is.cuts k d below) in
      record {
        root = back P.root apart is.root;
        cuts = cuts;
        arcs = (arcs_words D B P.cuts plain apart).1 is.arcs;
        prizes = certain_prizes D B P.cuts cuts;
      },
)
  where
    root : (r : Option ℕ) → MatchOption r (P.cuts ≡ []) (IsRootIn (di_ground D) B P.cuts) → MatchOption r (P.cuts ≡ []) (λ s. s ≡ D.root)
    root None none = none
    root (Some s) is = is.same

    back : (r : Option ℕ) → All (λ c. IsFalse (has c.set D.root)) P.cuts → MatchOption r (P.cuts ≡ []) (λ s. s ≡ D.root) → MatchOption r (P.cuts ≡ []) (IsRootIn (di_ground D) B P.cuts)
    back None apart none = none
    back (Some s) apart same = rw same (record {
      vertex = net.root;
      certain = or_left (is_sought D D.root) (has B.inside D.root) (or_left (D.root == D.root) _ (own_root D));
      same = refl;
      apart = apart;
    })
