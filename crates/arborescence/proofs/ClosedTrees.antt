-- The tree of chosen arcs that can't be done without costs what the cuts weigh, and a set that no arc enters leaves no tree.
use Rattle.std.proofs.Common.{◌≡◌, ℕ, ◌<◌, ◌≤◌, Bool, true, false, cond, not, ◌&&◌, List, [], ◌∷◌, get_or, take, Option, Some, None, is_some, unwrap_or, inl, inr, refl, sym, ap, subst, ◌∙◌, arith}
use Rattle.std.specs.Prelude.{◌==◌, IsTrue, IsFalse, IfSome, All, slice_get}
use Rattle.std.specs.List.Sorted.{IsStrictlyIncreasing}
use Rattle.std.specs.List.{AllByRecursion, list_any}
use Rattle.std.proofs.lemmas.Bool.{and_from, and_parts, both_ways, cases_Bool, cases_lt, eqb-true, false_from_ne_true, false≢true, not-true, or_cases}
use Rattle.std.proofs.lemmas.List.{get_or-take, length-take}
use Rattle.std.proofs.lemmas.Option.{slice_get_within, get_or_from_slice_get}
use Rattle.std.proofs.lemmas.List.Elements.{All-cons, All-nil, All-weaker, recursion_from_All}
use Rattle.st_model.specs.declared.branch.Branch.{Branch}
use Rattle.st_model.specs.declared.tree.Tree.{Tree}
use Rattle.st_model.specs.Arborescence.{IsTreeIn, arc_cost_in, cost_in, reached}
use Rattle.st_model.specs.Branch.{Belongs, IsBranchIn, IsVertexSet, LeavesRequiredIn, certain_in, is_present, open_price}
use Rattle.st_model.specs.Ground.{Ground}
use Rattle.st_model.specs.Led.{heads_at, AreLed}
use Rattle.st_model.specs.Lists.{has, total}
use Rattle.st_model.specs.Made.{has_pair}
use Rattle.st_model.specs.Network.{IsVertex}
use Rattle.st_model.specs.VertexSet.{VertexSet}
use Rattle.st_model.proofs.Branches.{certain_reached}
use Rattle.st_model.proofs.Marked.{has_at}
use Rattle.st_model.proofs.Members.{length-has}
use Rattle.st_model.proofs.Pairs.{open_parts}
use Rattle.st_model.proofs.Walked.{slice_get-None}
use Rattle.cut_packing.specs.declared.arcs.LoadedArc.{LoadedArc}
use Rattle.cut_packing.specs.declared.cut.Cut.{Cut}
use Rattle.cut_packing.specs.declared.packing.Packing.{Packing}
use Rattle.cut_packing.specs.Full.{IsSaturatedIn}
use Rattle.cut_packing.specs.Loads.{arcs_into}
use Rattle.cut_packing.specs.Packing.{load, CutFitsIn, FitsIn, weight_in}
use Rattle.cut_packing.proofs.Rooted.{rooted_duality_lem}
use Rattle.cut_packing.proofs.Turned.{enters}
use Rattle.arborescence.specs.declared.closing.Closing.{Closing}
use Rattle.arborescence.specs.declared.spreading.Spread.{Spread}
use Rattle.arborescence.specs.Ascending.{rooted_packing}
use Rattle.arborescence.specs.Choosing.{AllCertain, IsClosing, IsRoundStrong, IsSource, NoneEnters}
use Rattle.arborescence.specs.Closing.{AreHeadsOf, ArePruned, AreWithin, IsKept, IsNeeded}
use Rattle.arborescence.specs.DiNetwork.{DiNetwork, IsDiNetwork, di_ground}
use Rattle.arborescence.specs.First.{HasNoTreeIn}
use Rattle.arborescence.specs.Leaves.{IsClosedBy, IsWalledBy}
use Rattle.arborescence.specs.Open.{IsOpenIn, GrowsAlong, IsSpread}
use Rattle.arborescence.proofs.Ascended.{certain_present}
use Rattle.arborescence.proofs.ClosedCosts.{EntersOnce, HaveNewHeads, cuts_bear}
use Rattle.arborescence.proofs.DiTrees.{AreAllOpen, each_along, is_rooted, members_present, walked_belongs, walked_tree, within_closed}
use Rattle.arborescence.proofs.DiWeights.{certain_prizes, costs_arcs, weighs_cuts}
use Rattle.arborescence.proofs.Listing.{at_arc, members_closed}
use Rattle.arborescence.proofs.OneEntry.{one_entry}
use Rattle.arborescence.proofs.OneCut.{within_set}
use Rattle.arborescence.proofs.Sources.{not_back, saturated_ends}

-- an open arc costs what it costs in the branch
open_cost : (G : Ground) (B : Branch) (u v p : ℕ) → open_price G B u v ≡ Some p → G.price u v ≡ Some p
open_cost G B u v p is = step (has_pair B.barred u v) is
  where
    step : (b : Bool) → cond b None (G.price u v) ≡ Some p → G.price u v ≡ Some p
    step true e = absurd (let clash : ⊥ = cc in clash)
    step false e = e

-- saturated arcs cost what the cuts lay on them
saturated_cost : (G : Ground) (B : Branch) (P : Packing) (arcs : List (ℕ × ℕ)) → AllByRecursion (λ arc. IsSaturatedIn G B P arc.0 arc.1) arcs → total (arc_cost_in G) arcs ≡ total (load P.cuts) arcs
saturated_cost G B P [] all = refl
saturated_cost G B P (arc ∷ arcs) all =
    let here : arc_cost_in G arc ≡ load P.cuts arc = ap (λ o. unwrap_or o 0) (open_cost G B arc.0 arc.1 (load P.cuts (arc.0, arc.1)) all.0.used) in
    let rest = saturated_cost G B P arcs all.1 in
    omega arith

-- what grows reaches no head before its arc
new_heads : (heads : List (List ℕ)) (r : List ℕ) (arcs : List (ℕ × ℕ)) → GrowsAlong heads r arcs → HaveNewHeads r arcs
new_heads heads r [] grows = tt
new_heads heads r (arc ∷ arcs) grows = (grows.2, new_heads heads (arc.1 ∷ r) arcs grows.3)

-- where two arcs that enter are the same, one alone enters
enters_once : (set : List ℕ) (Q : ℕ × ℕ → Type 0) (arcs : List (ℕ × ℕ)) → ((a b : ℕ × ℕ) → Q a → Q b → IsTrue (enters set a) → IsTrue (enters set b) → b ≡ a) → AllByRecursion Q arcs → EntersOnce set arcs
enters_once set Q [] same all = tt
enters_once set Q (a ∷ arcs) same all = (λ in_a. each arcs all.1 in_a, enters_once set Q arcs same all.1)
  where
    each : (bs : List (ℕ × ℕ)) → AllByRecursion Q bs → IsTrue (enters set a) → AllByRecursion (λ b. IsTrue (enters set b) → b ≡ a) bs
    each [] h in_a = tt
    each (b ∷ bs) h in_a = (λ in_b. same a b all.0 h.0 in_a in_b, each bs h.1 in_a)

-- what holds of the first holds of fewer
take_fewer : (P : ℕ × ℕ → Type 0) (arcs : List (ℕ × ℕ)) (i j : ℕ) → i ≤ j → All P (take j arcs) → All P (take i arcs)
take_fewer P arcs i j le all = λ k d below.
    let fewer = length-take i arcs in
    let more = length-take j arcs in
    let small : k < i = omega arith in
    let within : k < j = omega arith in
    rw (get_or-take i arcs k d small) (rw (get_or-take j arcs k d within) at (all k d (omega arith)))

-- an arc that enters a set was chosen after it was strong
module _ (n r : ℕ) (chosen kept : List (ℕ × ℕ)) (c : Cut) (round : IsRoundStrong n chosen c) (arc : ℕ × ℕ) (is : IsKept r chosen kept arc) (enters_it : IsTrue (enters c.set arc)) where
  later : round.place ≤ is.place
  later = elim (cases_lt is.place round.place) [
    | inl early ↦
        let parts = and_parts (has c.set arc.1) (not (has c.set arc.0)) enters_it in
        let few = round.few in
        let long = length-take round.place chosen in
        let here : get_or (take round.place chosen) is.place (0, 0) ≡ arc = get_or-take round.place chosen is.place (0, 0) early ∙ is.is in
        let tail : IsTrue (has c.set arc.0) = subst (λ (a : ℕ × ℕ). IsTrue (has c.set a.1) → IsTrue (has c.set a.0)) here (round.unentered is.place (0, 0) (omega arith)) parts.0 in
        absurd (both_ways (has c.set arc.0) (not-true (has c.set arc.0) parts.1) tail)
    | inr past ↦ past
  ]

  -- so it is needed beside the arcs before
  pub needed_after : IsNeeded r (take round.place chosen) kept arc
  needed_after = record {
    set = is.needed.set;
    root = is.needed.root;
    misses = is.needed.misses;
    before = take_fewer (λ a. IsTrue (is.needed.set a.0) → IsTrue (is.needed.set a.1)) chosen round.place is.place later is.needed.before;
    kept = is.needed.kept;
  }

module _ (D : DiNetwork) (B : Branch) (s : Closing) (kept : List (ℕ × ℕ)) (heads : List (List ℕ)) (spread : Spread) (net : IsDiNetwork D) (branch : IsBranchIn (di_ground D) B) (required : LeavesRequiredIn (di_ground D) B) (none : B.must ≡ []) (certain : AllCertain D B)
    (is : IsClosing D B s) (pruned : ArePruned D.n B D.root s.chosen.items kept) (are : AreHeadsOf D.n kept heads) (led : AreLed heads D.root spread.reached.members) (grown : IsSpread heads D.root spread) where
  abbrev P : Packing
  P = rooted_packing D s.cuts.items

  -- each arc that is kept is saturated
  kept_used : (arc : ℕ × ℕ) → IsKept D.root s.chosen.items kept arc → IsSaturatedIn (di_ground D) B P arc.0 arc.1
  kept_used arc h = subst (λ (a : ℕ × ℕ). IsSaturatedIn (di_ground D) B P a.0 a.1) h.is (is.chosen h.place (0, 0) h.below)

  kept_at : (u v : ℕ) → IsTrue (has (heads_at heads u) v) → IsKept D.root s.chosen.items kept (u, v)
  kept_at u v listed = at_arc (IsKept D.root s.chosen.items kept) kept u v (recursion_from_All _ kept pruned.each) (sym (are.listed u v) ∙ listed)

  all_are_open : AreAllOpen (di_ground D) B heads
  all_are_open u v listed = let used = kept_used (u, v) (kept_at u v listed) in record { tail = used.tail; head = used.head; price = ap is_some used.used }

  all_reached : (v : ℕ) → IsVertex D.n v → IsTrue (is_present B v) → IsTrue (has spread.reached.members v)
  all_reached v vertex present = pruned.spans (has spread.reached.members) led.root (members_closed D.n kept heads spread.reached.members D.root are led) v vertex present

  certain_there : (v : ℕ) → IsVertex D.n v → IsTrue (certain_in (di_ground D) B v) → IsTrue (has spread.reached.members v)
  certain_there v vertex sure = all_reached v vertex (certain_present D B v branch required sure)

  root_present : IsTrue (is_present B D.root)
  root_present = certain_present D B D.root branch required is.fits.root.certain

  abbrev t : Tree
  t = record { start = D.root; arcs = spread.arcs.items }

  tree : IsTreeIn (di_ground D) t
  tree = walked_tree D B heads spread net all_are_open led grown certain_there

  belongs : Belongs B t
  belongs = walked_belongs D B heads spread net all_are_open led grown certain_there branch none root_present

  exact : (v : ℕ) → IsVertex D.n v → has (reached t) v ≡ is_present B v
  exact v vertex = elim (cases_Bool (is_present B v)) [
    | inl present ↦ (sym (grown.same v) ∙ all_reached v vertex present) ∙ sym present
    | inr absent ↦ false_from_ne_true (has (reached t) v) (λ there. both_ways (is_present B v) absent (members_present D B heads spread.reached.members net root_present all_are_open led v (grown.same v ∙ there)).1) ∙ sym absent
  ]

  once : (c : Cut) → IsRoundStrong D.n s.chosen.items c → EntersOnce c.set spread.arcs.items
  once c round = enters_once c.set (IsKept D.root s.chosen.items kept) spread.arcs.items same (each_along (IsKept D.root s.chosen.items kept) heads (D.root ∷ []) spread.arcs.items kept_at grown.grows)
    where
      same : (a b : ℕ × ℕ) → IsKept D.root s.chosen.items kept a → IsKept D.root s.chosen.items kept b → IsTrue (enters c.set a) → IsTrue (enters c.set b) → b ≡ a
      same a b kept_a kept_b in_a in_b =
          let head = (saturated_ends D B P b.0 b.1 net (kept_used b kept_b)).1 in
          sym (one_entry D.n D.root B kept s.chosen.items s.chosen.items (take round.place s.chosen.items) c.set a b pruned.spans round.strong
          (needed_after D.n D.root s.chosen.items kept c round a kept_a in_a) (needed_after D.n D.root s.chosen.items kept c round b kept_b in_b)
          (and_parts (has c.set a.1) (not (has c.set a.0)) in_a).0 (and_parts (has c.set b.1) (not (has c.set b.0)) in_b).0 head.0 head.1)

  -- it costs at most what the cuts weigh, and so just as much
  weighs : weight_in (di_ground D) B P ≡ cost_in (di_ground D) t
  weighs =
      let least = rooted_duality_lem (di_ground D) D.root B P t (is_rooted D net) none is.fits tree belongs in
      let weight = weighs_cuts D B P none in
      let cost = costs_arcs D t in
      let bears = cuts_bear (D.root ∷ []) spread.arcs.items s.cuts.items (new_heads heads (D.root ∷ []) spread.arcs.items grown.grows) (recursion_from_All _ s.cuts.items (λ k d below. once (get_or s.cuts.items k d) (is.cuts k d below))) in
      let paid = saturated_cost (di_ground D) B P spread.arcs.items (each_along (λ arc. IsSaturatedIn (di_ground D) B P arc.0 arc.1) heads (D.root ∷ []) spread.arcs.items (λ u v listed. kept_used (u, v) (kept_at u v listed)) grown.grows) in
      omega arith

  pub closed_by : IsClosedBy D B t P
  closed_by = record {
    tree = tree;
    belongs = belongs;
    exact = exact;
    packing = record { rooted = refl; fits = is.fits; sets = All-weaker (IsRoundStrong D.n s.chosen.items) (λ c. IsVertexSet D.n c.set) (λ c h. h.ascending) s.cuts.items is.cuts };
    weighs = weighs;
  }

-- chosen arcs lead between vertices, and so do those that are kept
pub chosen_within : (D : DiNetwork) (B : Branch) (s : Closing) → IsClosing D B s → AreWithin D.n s.chosen.items
chosen_within D B s is = λ k d below. let ends = saturated_ends D B (rooted_packing D s.cuts.items) (get_or s.chosen.items k d).0 (get_or s.chosen.items k d).1 is.net (is.chosen k d below) in (ends.0.0.1, ends.1.0.1)

pub kept_within : (n r : ℕ) (B : Branch) (chosen kept : List (ℕ × ℕ)) → AreWithin n chosen → ArePruned n B r chosen kept → AreWithin n kept
kept_within n r B chosen kept within pruned = λ k d below. let one = pruned.each k d below in subst (λ (a : ℕ × ℕ). (a.0 ≤ n) × (a.1 ≤ n)) one.is (within one.place (0, 0) one.below)

-- one of the members of a set that has some
pub first_held : (members : List ℕ) (o : Option ℕ) → (v : ℕ) × IsTrue (has members v) → o ≡ slice_get members 0 → IsTrue (has members (unwrap_or o 0))
first_held members None some is = let none = slice_get-None members 0 (sym is) in let held = length-has members some.0 some.1 in absurd (omega arith)
first_held members (Some q) some is = subst (λ v. IsTrue (has members v)) (get_or_from_slice_get members 0 q 0 (sym is)) (has_at members 0 0 (slice_get_within members 0 q (sym is)))

module _ (D : DiNetwork) (B : Branch) (s : Closing) (set : VertexSet) (target : ℕ) (c : Cut) (net : IsDiNetwork D) (no_must : B.must ≡ []) (certain : AllCertain D B) (is : IsClosing D B s) (source : IsSource D B s.chosen.items set) (none : NoneEnters s.arcs set.members)
    (named : IsTrue (has set.members c.q)) (worth : c.y ≡ target) (same : (v : ℕ) → has c.set v ≡ has set.members v) (ascending : IsStrictlyIncreasing c.set) where
  -- no open arc enters the set
  open_within : (u v : ℕ) → IsOpenIn (di_ground D) B u v → IsTrue (has set.members v) → IsTrue (has set.members u)
  open_within u v arc held =
      let parts = open_parts (di_ground D) B u v arc.price in
      at_tail (arcs_into s.arcs v) u (recursion_from_All _ (arcs_into s.arcs v) (none v held)) (is.loaded.complete u v arc.tail arc.head parts.0 parts.1)
    where
      at_tail : (arcs : List LoadedArc) (u : ℕ) → AllByRecursion (λ arc. IsTrue (has set.members arc.tail)) arcs → IsTrue (list_any (λ arc. arc.tail == u) arcs) → IsTrue (has set.members u)
      at_tail [] u all there = absurd (false≢true there)
      at_tail (a ∷ arcs) u all there = elim (or_cases (a.tail == u) (list_any (λ b. b.tail == u) arcs) there) [
        | inl now ↦ subst (λ w. IsTrue (has set.members w)) (eqb-true a.tail u now) all.0
        | inr later ↦ at_tail arcs u all.1 later
      ]

  named_here : IsVertex D.n c.q × IsTrue (is_present B c.q)
  named_here = source.here c.q named

  sure : IsTrue (certain_in (di_ground D) B c.q)
  sure = certain c.q named_here.0 named_here.1

  vertices : All (IsVertex D.n) c.set
  vertices = λ k d below. (source.here (get_or c.set k d) (sym (same (get_or c.set k d)) ∙ has_at c.set k d below)).0

  cut_fits : All (CutFitsIn (di_ground D) B) (c ∷ [])
  cut_fits = All-cons (CutFitsIn (di_ground D) B) c [] (record { in_range = vertices; member = same c.q ∙ named; present = and_from (is_present B c.q) (certain_in (di_ground D) B c.q) named_here.1 sure }) (All-nil (CutFitsIn (di_ground D) B))

  bears : (u v : ℕ) → IsTrue (is_present B u) → IsTrue (is_present B v) → (o : Option ℕ) → open_price (di_ground D) B u v ≡ o → IfSome o (λ price. load (c ∷ []) (u, v) ≤ price)
  bears u v tail head None is_price = tt
  bears u v tail head (Some p) is_price =
      let out : IsFalse (has c.set v && not (has c.set u)) = rw (same v, same u) (within_set (has set.members v) (has set.members u) (open_within u v (record { tail = tail; head = head; price = ap is_some is_price }))) in
      rw out (omega arith)

  abbrev W : Packing
  W = rooted_packing D (c ∷ [])

  wall_fits : FitsIn (di_ground D) B W
  wall_fits = record {
    root = record {
      vertex = is.fits.root.vertex;
      certain = is.fits.root.certain;
      same = is.fits.root.same;
      apart = All-cons (λ d. IsFalse (has d.set D.root)) c [] (same D.root ∙ source.root) (All-nil (λ d. IsFalse (has d.set D.root)));
    };
    cuts = cut_fits;
    arcs = λ u v tail head. bears u v tail head (open_price (di_ground D) B u v) refl;
    prizes = certain_prizes D B (c ∷ []) cut_fits;
  }

  no_tree : HasNoTreeIn (di_ground D) B
  no_tree t tree belongs =
      let there = certain_reached (di_ground D) B t c.q tree belongs.reaches named_here.0 sure in
      let away = within_closed D B (λ w. not (has set.members w)) t net (λ u v arc out. not_back (has set.members v) (has set.members u) (open_within u v arc) out) (ap not source.root) tree belongs c.q there in
      both_ways (has set.members c.q) (not-true (has set.members c.q) away) named

  pub walled_by : IsWalledBy D B target W
  walled_by = record {
    packing = record { rooted = refl; fits = wall_fits; sets = All-cons (λ d. IsVertexSet D.n d.set) c [] (record { ascending = ascending; in_range = vertices }) (All-nil (λ d. IsVertexSet D.n d.set)) };
    weighs = let weight = weighs_cuts D B W no_must in omega arith;
    none = no_tree;
  }
