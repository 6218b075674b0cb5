-- Arcs that bear just what their links cost are saturated, and no others are.
use Rattle.std.proofs.Common.{◌≡◌, ℕ, ◌+◌, ◌<◌, ◌≤◌, true, ◌&&◌, List, [], ◌∷◌, length, get_or, Some, Result, Ok, Err, refl, sym, ap, ◌∙◌, inl, inr, subst, arith}
use Rattle.std.specs.Prelude.{◌==◌, ◌↔◌, IsTrue, IfOk, All, is_some}
use Rattle.std.specs.List.{list_any}
use Rattle.std.proofs.lemmas.Bool.{false≢true, cases_lt, eqb-true, eq-eqb, and_parts, and_from, or_cases, or_left, or_right}
use Rattle.std.proofs.lemmas.List.{get_or_past}
use Rattle.std.proofs.lemmas.List.Elements.{All-head, All-tail, recursion_from_All}
use Rattle.st_model.specs.declared.branch.Branch.{Branch}
use Rattle.st_model.specs.Lists.{has}
use Rattle.st_model.specs.Network.{Network, IsInstance, IsVertex}
use Rattle.st_model.specs.Ground.{Ground, ground}
use Rattle.st_model.specs.Branch.{open_price}
use Rattle.st_model.specs.Led.{heads_at, IsLed, start, along, AreLed}
use Rattle.cut_packing.specs.declared.arcs.LoadedArc.{LoadedArc}
use Rattle.cut_packing.specs.declared.packing.Packing.{Packing}
use Rattle.cut_packing.specs.Packing.{load}
use Rattle.cut_packing.specs.Full.{IsSaturatedIn, IsReachedIn, IsReached, here, there}
use Rattle.cut_packing.specs.Loads.{arcs_into, IsLoadedIn, AreLoadedIn}
use Rattle.cut_packing.specs.Saturated.{is_saturated, AreSaturatedIn}
use Rattle.st_model.proofs.Marked.{has_at, place_of}
use Rattle.st_model.proofs.Pairs.{open_parts}
use Rattle.cut_packing.proofs.Loaded.{linked_vertex}

module _ (G : Ground) (B : Branch) (P : Packing) (u v : ℕ) where
  -- an arc that bears just what its link costs is saturated
  saturated_from : (arcs : List LoadedArc) → All (IsLoadedIn G B P.cuts v) arcs → IsTrue (is_saturated arcs u) → IsSaturatedIn G B P u v
  saturated_from [] loaded used = absurd (false≢true used)
  saturated_from (arc ∷ arcs) loaded used =
      elim (or_cases ((arc.tail == u) && (arc.load == arc.cost)) (is_saturated arcs u) used) [
        | inl now ↦ here_used (and_parts (arc.tail == u) (arc.load == arc.cost) now)
        | inr later ↦ saturated_from arcs (All-tail (IsLoadedIn G B P.cuts v) arc arcs loaded) later
      ]
    where
      one : IsLoadedIn G B P.cuts v arc
      one = All-head (IsLoadedIn G B P.cuts v) arc arcs loaded

      here_used : ((arc.tail == u) ≡ true) × ((arc.load == arc.cost) ≡ true) → IsSaturatedIn G B P u v
      here_used p =
          let same = eqb-true arc.tail u p.0 in
          rw (← same) (record {
            tail = one.tail;
            head = one.head;
            used = one.cost ∙ ap Some (sym (eqb-true arc.load arc.cost p.1) ∙ one.load);
          })

  -- where an arc is saturated, its own one among these bears just what its link costs
  its_own_from : (arcs : List LoadedArc) → All (IsLoadedIn G B P.cuts v) arcs → IsSaturatedIn G B P u v → IsTrue (list_any (λ arc. arc.tail == u) arcs) → IsTrue (is_saturated arcs u)
  its_own_from [] loaded used is_there = absurd (false≢true is_there)
  its_own_from (arc ∷ arcs) loaded used is_there =
      elim (or_cases (arc.tail == u) (list_any (λ a. a.tail == u) arcs) is_there) [
        | inl now ↦ or_left _ (is_saturated arcs u) (and_from (arc.tail == u) (arc.load == arc.cost) now (just (eqb-true arc.tail u now)))
        | inr later ↦ or_right ((arc.tail == u) && (arc.load == arc.cost)) (is_saturated arcs u) (its_own_from arcs (All-tail (IsLoadedIn G B P.cuts v) arc arcs loaded) used later)
      ]
    where
      one : IsLoadedIn G B P.cuts v arc
      one = All-head (IsLoadedIn G B P.cuts v) arc arcs loaded

      just : arc.tail ≡ u → IsTrue (arc.load == arc.cost)
      just same =
          let price : Some arc.cost ≡ Some (load P.cuts (u, v)) = sym one.cost ∙ ap (λ w. open_price G B w v) same ∙ used.used in
          let cost : arc.cost ≡ load P.cuts (u, v) = cc in
          eq-eqb arc.load arc.cost (omega (arith, one.load, ap (λ w. load P.cuts (w, v)) same))

-- the heads that are listed are those of the saturated arcs
pub AreSaturated-from : (G : Ground) (B : Branch) (P : Packing) (arcs : List (List LoadedArc)) (heads : List (List ℕ)) → AreLoadedIn G B G.price P.cuts arcs → length heads ≡ G.n + 1 → ((u v : ℕ) → has (heads_at heads u) v ≡ is_saturated (arcs_into arcs v) u) → AreSaturatedIn G B P heads
AreSaturated-from G B P arcs heads h count listed = record {
  count = count;
  in_range = λ u k d below. head_below u _ (has_at (heads_at heads u) k d below);
  exact = λ u v. (
    λ held. saturated_from G B P u v (arcs_into arcs v) (h.sound v) (sym (listed u v) ∙ held),
    λ used. listed u v ∙ its_own_from G B P u v (arcs_into arcs v) (h.sound v) used (let parts = open_parts G B u v (ap is_some used.used) in h.complete u v used.tail used.head parts.0 parts.1),
  );
}
  where
    head_below : (u v : ℕ) → IsTrue (has (heads_at heads u) v) → v < length heads
    head_below u v held =
        elim (cases_lt v (length heads)) [
          | inl below ↦ below
          | inr past ↦
              let none : arcs_into arcs v ≡ [] = get_or_past arcs v [] (omega (arith, h.count)) in
              absurd (false≢true (sym (listed u v ∙ ap (λ list. is_saturated list u) none) ∙ held))
        ]

-- two facts of what a call gives
pub IfOk-both : {X Y : Type 0} (r : Result X Y) (P Q : X → Type 0) → IfOk r P → IfOk r Q → IfOk r (λ x. P x × Q x)
IfOk-both (Ok x) P Q p q = (p, q)
IfOk-both (Err y) P Q p q = tt

-- what the saturated arcs lead to is reached
led_reached : (G : Ground) (B : Branch) (P : Packing) (heads : List (List ℕ)) (r v : ℕ) → AreSaturatedIn G B P heads → IsLed heads r v → IsReachedIn G B P r v
led_reached G B P heads r v h start = here
led_reached G B P heads r v h (along {u} before listed) = there (led_reached G B P heads r u h before) ((h.exact u v).0 listed)

-- what is reached is among all that they lead to
reached_led : (G : Ground) (B : Branch) (P : Packing) (heads : List (List ℕ)) (members : List ℕ) (r v : ℕ) → AreSaturatedIn G B P heads → AreLed heads r members → IsReachedIn G B P r v → IsTrue (has members v)
reached_led G B P heads members r v h led here = led.root
reached_led G B P heads members r v h led (there {u} before used) = led.closed u v (reached_led G B P heads members r u h led before) ((h.exact u v).1 used)

pub reached_iff : (G : Ground) (B : Branch) (P : Packing) (heads : List (List ℕ)) (members : List ℕ) (r : ℕ) → AreSaturatedIn G B P heads → AreLed heads r members → (v : ℕ) → IsVertex G.n v → IsTrue (has members v) ↔ IsReachedIn G B P r v
reached_iff G B P heads members r h led v in_range = (
  λ held. let p = place_of members v held in subst (IsReachedIn G B P r) p.2 (led_reached G B P heads r (get_or members p.0 0) h (led.sound p.0 0 p.1)),
  λ reached. reached_led G B P heads members r v h led reached,
)

-- a root that is no vertex reaches itself alone
root_alone : (I : Network) (B : Branch) (P : Packing) (r v : ℕ) → IsInstance I → I.n + 1 ≤ r → IsReached I B P r v → v ≡ r
root_alone I B P r v instance past here = refl
root_alone I B P r v instance past (there {u} before used) =
    let same = root_alone I B P r u instance past before in
    let in_range = linked_vertex I.n I.links u v (recursion_from_All _ I.links instance.ends) (open_parts (ground I) B u v (ap is_some used.used)).1 in
    absurd (omega (arith, in_range.1))

-- so it reaches no vertex
pub unreached_iff : (I : Network) (B : Branch) (P : Packing) (members : List ℕ) (r : ℕ) → IsInstance I → I.n + 1 ≤ r → members ≡ [] → (v : ℕ) → IsVertex I.n v → IsTrue (has members v) ↔ IsReached I B P r v
unreached_iff I B P members r instance past none v in_range = (
  λ held. absurd (false≢true (sym (ap (λ list. has list v) none) ∙ held)),
  λ reached. absurd (omega (arith, root_alone I B P r v instance past reached, in_range.1)),
)
