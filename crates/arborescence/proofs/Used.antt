-- Arcs that bear just what they cost: they are the saturated ones, and what leads back along them to the root is reached from there.
use Rattle.std.proofs.Common.{◌≡◌, ℕ, zero, suc, ◌+◌, ◌<◌, ◌≤◌, Bool, true, false, cond, ◌&&◌, ◌||◌, List, [], ◌∷◌, ◌++◌, length, get_or, take, ◌↔◌, Some, is_some, inl, inr, refl, sym, ap, subst, ◌∙◌, arith}
use Rattle.std.specs.Prelude.{◌==◌, IsTrue, IsFalse, All, if◌then◌else◌}
use Rattle.std.specs.List.{list_any}
use Rattle.std.proofs.lemmas.Bool.{or_cases, or_left, or_right, and_parts, and_from, eqb-true, eq-eqb, ne_eqb, both_ways, false≢true, cases_eq, cases_lt}
use Rattle.std.proofs.lemmas.List.{append-nil, get_or_past, get_or_push, length_push, take_all, take_at}
use Rattle.std.proofs.lemmas.List.Folds.{list_any_at}
use Rattle.std.proofs.lemmas.List.Elements.{All-head, All-tail}
use Rattle.st_model.specs.declared.branch.Branch.{Branch}
use Rattle.st_model.specs.Branch.{open_price}
use Rattle.st_model.specs.Ground.{Ground}
use Rattle.st_model.specs.Led.{heads_at, IsLed, start, along, AreLed}
use Rattle.st_model.specs.Lists.{has}
use Rattle.st_model.specs.Network.{IsVertex}
use Rattle.st_model.specs.VertexSet.{Extends}
use Rattle.st_model.proofs.Extending.{Extends-insert}
use Rattle.st_model.proofs.Marked.{place_of}
use Rattle.st_model.proofs.Pairs.{open_parts}
use Rattle.cut_packing.specs.declared.arcs.LoadedArc.{LoadedArc}
use Rattle.cut_packing.specs.declared.packing.Packing.{Packing}
use Rattle.cut_packing.specs.Full.{IsSaturatedIn, IsReachedIn, here, there}
use Rattle.cut_packing.specs.Loads.{arcs_into, IsLoadedIn, AreLoadedIn}
use Rattle.cut_packing.specs.Packing.{load}
use Rattle.cut_packing.specs.Saturated.{is_saturated}
use Rattle.arborescence.specs.DiNetwork.{DiNetwork, IsDiNetwork, di_ground}
use Rattle.arborescence.specs.Gathering.{used_tails, used_into}
use Rattle.arborescence.proofs.DiTrees.{away_between}

-- the tails that are listed are those of arcs that bear just what they cost
pub used-saturated : (arcs : List LoadedArc) (u : ℕ) → has (used_tails arcs) u ≡ is_saturated arcs u
used-saturated [] u = refl
used-saturated (arc ∷ arcs) u = step (arc.load == arc.cost) (used-saturated arcs u)
  where
    step : (b : Bool) → has (used_tails arcs) u ≡ is_saturated arcs u → has (cond b (arc.tail ∷ used_tails arcs) (used_tails arcs)) u ≡ (((arc.tail == u) && b) || is_saturated arcs u)
    step true rest = rw rest (by_tail (arc.tail == u))
      where
        by_tail : (c : Bool) → (c || is_saturated arcs u) ≡ ((c && true) || is_saturated arcs u)
        by_tail true = refl
        by_tail false = refl
    step false rest = rest ∙ by_tail (arc.tail == u)
      where
        by_tail : (c : Bool) → is_saturated arcs u ≡ ((c && false) || is_saturated arcs u)
        by_tail true = refl
        by_tail false = refl

pub into-used : (arcs : List (List LoadedArc)) (v : ℕ) → heads_at (used_into arcs) v ≡ used_tails (arcs_into arcs v)
into-used [] v = refl
into-used (row ∷ rows) zero = refl
into-used (row ∷ rows) (suc v) = into-used rows v

-- what is listed at a vertex
pub listed-used : (arcs : List (List LoadedArc)) (v u : ℕ) → has (heads_at (used_into arcs) v) u ≡ is_saturated (arcs_into arcs v) u
listed-used arcs v u = rw (into-used arcs v) (used-saturated (arcs_into arcs v) u)

Extends-push : (old now new vertices : List ℕ) (t : ℕ) → Extends old now vertices → new ≡ (if has now t then now else now ++ t ∷ []) → Extends old new (vertices ++ t ∷ [])
Extends-push old now new vertices t h is =
    let k = length vertices in
    let long = length_push vertices t in
    let front : take k (vertices ++ t ∷ []) ≡ vertices = take_at vertices (t ∷ []) k refl in
    let last : get_or (vertices ++ t ∷ []) k 0 ≡ t = get_or_push vertices t 0 k refl in
    let before : Extends old now (take k (vertices ++ t ∷ [])) = subst (Extends old now) (sym front) h in
    let pushed : new ≡ (if has now (get_or (vertices ++ t ∷ []) k 0) then now else now ++ get_or (vertices ++ t ∷ []) k 0 ∷ []) = subst (λ (x : ℕ). new ≡ (if has now x then now else now ++ x ∷ [])) (sym last) is in
    subst (Extends old new) (take_all (k + 1) (vertices ++ t ∷ []) (omega (arith, long))) (Extends-insert old now new (vertices ++ t ∷ []) k (omega (arith, long)) before pushed)

used_tails-append : (arcs more : List LoadedArc) → used_tails (arcs ++ more) ≡ used_tails arcs ++ used_tails more
used_tails-append [] more = refl
used_tails-append (a ∷ arcs) more = rw (used_tails-append arcs more) (by_case (a.load == a.cost))
  where
    by_case : (b : Bool) → (if b then a.tail ∷ (used_tails arcs ++ used_tails more) else used_tails arcs ++ used_tails more) ≡ (if b then a.tail ∷ used_tails arcs else used_tails arcs) ++ used_tails more
    by_case true = refl
    by_case false = refl

-- an arc more that bears just what it costs
pub tails_with : (old now new : List ℕ) (arcs : List LoadedArc) (a : LoadedArc) → a.load ≡ a.cost → new ≡ (if has now a.tail then now else now ++ a.tail ∷ []) → Extends old now (used_tails arcs) → Extends old new (used_tails (arcs ++ a ∷ []))
tails_with old now new arcs a used is h = subst (Extends old new) (sym (used_tails-append arcs (a ∷ []) ∙ rw (eq-eqb a.load a.cost used) refl)) (Extends-push old now new (used_tails arcs) a.tail h is)

-- and one that bears less
pub tails_past : (old now : List ℕ) (arcs : List LoadedArc) (a : LoadedArc) → (a.load ≡ a.cost → ⊥) → Extends old now (used_tails arcs) → Extends old now (used_tails (arcs ++ a ∷ []))
tails_past old now arcs a less h = subst (Extends old now) (sym (used_tails-append arcs (a ∷ []) ∙ rw (ne_eqb a.load a.cost less) (append-nil (used_tails arcs)))) h

-- an arc that bears just what it costs is saturated, and no other
module _ (G : Ground) (B : Branch) (P : Packing) (u v : ℕ) where
  saturated_from : (arcs : List LoadedArc) → All (IsLoadedIn G B P.cuts v) arcs → IsTrue (is_saturated arcs u) → IsSaturatedIn G B P u v
  saturated_from [] loaded used = absurd (false≢true used)
  saturated_from (arc ∷ arcs) loaded used =
      elim (or_cases ((arc.tail == u) && (arc.load == arc.cost)) (is_saturated arcs u) used) [
        | inl now ↦ here_used (and_parts (arc.tail == u) (arc.load == arc.cost) now)
        | inr later ↦ saturated_from arcs (All-tail (IsLoadedIn G B P.cuts v) arc arcs loaded) later
      ]
    where
      one : IsLoadedIn G B P.cuts v arc
      one = All-head (IsLoadedIn G B P.cuts v) arc arcs loaded

      here_used : ((arc.tail == u) ≡ true) × ((arc.load == arc.cost) ≡ true) → IsSaturatedIn G B P u v
      here_used p =
          let same = eqb-true arc.tail u p.0 in
          rw (← same) (record {
            tail = one.tail;
            head = one.head;
            used = one.cost ∙ ap Some (sym (eqb-true arc.load arc.cost p.1) ∙ one.load);
          })

  its_own_from : (arcs : List LoadedArc) → All (IsLoadedIn G B P.cuts v) arcs → IsSaturatedIn G B P u v → IsTrue (list_any (λ arc. arc.tail == u) arcs) → IsTrue (is_saturated arcs u)
  its_own_from [] loaded used is_there = absurd (false≢true is_there)
  its_own_from (arc ∷ arcs) loaded used is_there =
      elim (or_cases (arc.tail == u) (list_any (λ a. a.tail == u) arcs) is_there) [
        | inl now ↦ or_left _ (is_saturated arcs u) (and_from (arc.tail == u) (arc.load == arc.cost) now (just (eqb-true arc.tail u now)))
        | inr later ↦ or_right ((arc.tail == u) && (arc.load == arc.cost)) (is_saturated arcs u) (its_own_from arcs (All-tail (IsLoadedIn G B P.cuts v) arc arcs loaded) used later)
      ]
    where
      one : IsLoadedIn G B P.cuts v arc
      one = All-head (IsLoadedIn G B P.cuts v) arc arcs loaded

      just : arc.tail ≡ u → IsTrue (arc.load == arc.cost)
      just same =
          let price : Some arc.cost ≡ Some (load P.cuts (u, v)) = sym one.cost ∙ ap (λ w. open_price G B w v) same ∙ used.used in
          let cost : arc.cost ≡ load P.cuts (u, v) = cc in
          eq-eqb arc.load arc.cost (omega (arith, one.load, ap (λ w. load P.cuts (w, v)) same))

-- the same among all arcs
pub used_iff : (G : Ground) (B : Branch) (P : Packing) (arcs : List (List LoadedArc)) (u v : ℕ) → AreLoadedIn G B G.price P.cuts arcs → IsTrue (has (heads_at (used_into arcs) v) u) ↔ IsSaturatedIn G B P u v
used_iff G B P arcs u v h = (
  λ listed. saturated_from G B P u v (arcs_into arcs v) (h.sound v) (sym (listed-used arcs v u) ∙ listed),
  λ used. listed-used arcs v u ∙ its_own_from G B P u v (arcs_into arcs v) (h.sound v) used (let parts = open_parts G B u v (ap is_some used.used) in h.complete u v used.tail used.head parts.0 parts.1),
)

-- who leads to a vertex that way and is reached, leads there
pub led_back : (G : Ground) (B : Branch) (P : Packing) (arcs : List (List LoadedArc)) (q w r : ℕ) → AreLoadedIn G B G.price P.cuts arcs → IsLed (used_into arcs) q w → IsReachedIn G B P r w → IsReachedIn G B P r q
led_back G B P arcs q w r h start reached = reached
led_back G B P arcs q w r h (along {u} before listed) reached = led_back G B P arcs q u r h before (there reached ((used_iff G B P arcs w u h).0 listed))

-- who leads to a vertex is a vertex
led_vertex : (D : DiNetwork) (B : Branch) (P : Packing) (arcs : List (List LoadedArc)) (q w : ℕ) → IsDiNetwork D → AreLoadedIn (di_ground D) B (di_ground D).price P.cuts arcs → IsVertex D.n q → IsLed (used_into arcs) q w → IsVertex D.n w
led_vertex D B P arcs q w net h vertex start = vertex
led_vertex D B P arcs q w net h vertex (along {u} before listed) = (away_between D w u net (open_parts (di_ground D) B w u (ap is_some ((used_iff (di_ground D) B P arcs w u h).0 listed).used)).1).0

pub gathered_vertex : (D : DiNetwork) (B : Branch) (P : Packing) (arcs : List (List LoadedArc)) (q : ℕ) (members : List ℕ) → IsDiNetwork D → AreLoadedIn (di_ground D) B (di_ground D).price P.cuts arcs → IsVertex D.n q → AreLed (used_into arcs) q members → (v : ℕ) → IsTrue (has members v) → IsVertex D.n v
gathered_vertex D B P arcs q members net h vertex led v held =
    let p = place_of members v held in
    subst (IsVertex D.n) p.2 (led_vertex D B P arcs q (get_or members p.0 0) net h vertex (led.sound p.0 0 p.1))

-- who leads to a vertex, where it is the root, shows that the vertex is reached
pub root_leads : (G : Ground) (B : Branch) (P : Packing) (arcs : List (List LoadedArc)) (q r : ℕ) (members : List ℕ) → AreLoadedIn G B G.price P.cuts arcs → AreLed (used_into arcs) q members → IsTrue (has members r) → IsReachedIn G B P r q
root_leads G B P arcs q r members h led held =
    let p = place_of members r held in
    led_back G B P arcs q r r h (subst (IsLed (used_into arcs) q) p.2 (led.sound p.0 0 p.1)) here

-- of an arc that enters what was gathered something is left
pub entering_left : (arcs : List (List LoadedArc)) (q : ℕ) (members : List ℕ) → AreLed (used_into arcs) q members → All (All (λ arc. arc.load ≤ arc.cost)) arcs → (v : ℕ) → IsTrue (has members v) → All (λ arc. IsFalse (has members arc.tail) → arc.load < arc.cost) (arcs_into arcs v)
entering_left arcs q members led bears v held = λ k d below. λ away.
    elim (cases_lt v (length arcs)) [
      | inl room ↦ elim (cases_eq (get_or (arcs_into arcs v) k d).load (get_or (arcs_into arcs v) k d).cost) [
        | inl used ↦ absurd (both_ways (has members (get_or (arcs_into arcs v) k d).tail) away (led.closed v (get_or (arcs_into arcs v) k d).tail held (listed-used arcs v (get_or (arcs_into arcs v) k d).tail ∙ own k d below used)))
        | inr other ↦ let most = bears v [] room k d below in omega arith
      ]
      | inr past ↦ let none = get_or_past arcs v [] past in absurd (omega (arith, ap length none))
    ]
  where
    own : (k : ℕ) (d : LoadedArc) → k < length (arcs_into arcs v) → (get_or (arcs_into arcs v) k d).load ≡ (get_or (arcs_into arcs v) k d).cost → IsTrue (is_saturated (arcs_into arcs v) (get_or (arcs_into arcs v) k d).tail)
    own k d below used = list_any_at (λ arc. (arc.tail == (get_or (arcs_into arcs v) k d).tail) && (arc.load == arc.cost)) (arcs_into arcs v) k d below (rw (eq-eqb (get_or (arcs_into arcs v) k d).tail (get_or (arcs_into arcs v) k d).tail refl, eq-eqb (get_or (arcs_into arcs v) k d).load (get_or (arcs_into arcs v) k d).cost used) refl)
