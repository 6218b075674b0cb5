-- One visit more: what it keeps, and what it adds.
use Rattle.std.proofs.Common.{◌≡◌, ℕ, zero, suc, ◌+◌, ◌^◌, ◌<◌, ◌≤◌, Bool, true, false, cond, eqb, List, [], ◌∷◌, ◌++◌, length, get_or, set, slice_get, Contains, Option, Some, None, unwrap_or, refl, sym, ap, subst, ◌∙◌, arith, ◌⊎◌, inl, inr, length-append}
use Rattle.std.proofs.lemmas.Bool.Decides.{nat_tests}
use Rattle.std.proofs.lemmas.List.{get_or-set_same, get_or-set_other}
use Rattle.std.proofs.lemmas.List.Elements.{All-cons, All-head, All-tail, All-weaker}
use Rattle.std.proofs.lemmas.List.Sorted.{All-permutation, Contains-permutation, length_permutation}
use Rattle.std.proofs.lemmas.Option.{slice_get_within, slice_get_past}
use Rattle.std.specs.Prelude.{All}
use Rattle.st_model.specs.Lists.{sum_to}
use Rattle.st_model.specs.Network.{Network, IsVertex}
use Rattle.st_model.proofs.Sums.{sum_to_le, sum_to-add, sum_to_one}
use Rattle.graph_store.proofs.ListLemmas.{slice_get-push}
use Rattle.special_dist.specs.declared.quest.Quest.{Quest}
use Rattle.special_dist.specs.declared.quest.Visit.{Visit}
use Rattle.special_dist.specs.declared.search.Search.{Search}
use Rattle.special_dist.specs.Visits.{AreVisits, IsVisit}
use Rattle.special_dist.specs.Searching.{IsFollowed, IsReached, IsSearch, IsSpread, Waits, paid_at, paid_by, waiting, weight}
use Rattle.special_dist.specs.Steps.{Adds, Keeps}

-- the first of a list is one of it, and so are the others
pub contains_first : {X : Type 0} (x : X) (xs : List X) → Contains (x ∷ xs) x
contains_first x xs = (0, (omega arith), refl)

pub contains_later : {X : Type 0} (y x : X) (xs : List X) → Contains xs x → Contains (y ∷ xs) x
contains_later y x xs (k, within, at) = (suc k, (omega arith), at)

pub contains_cases : {X : Type 0} (y x : X) (xs : List X) → Contains (y ∷ xs) x → (x ≡ y) ⊎ Contains xs x
contains_cases {X} y x xs (k, within, at) = by_place k within at
  where
    by_place : (k : ℕ) → k < length (y ∷ xs) → get_or (y ∷ xs) k x ≡ x → (x ≡ y) ⊎ Contains xs x
    by_place zero within at = inl (sym at)
    by_place (suc k) within at = inr (k, (omega arith), at)

-- what is paid at a vertex once a visit stands last, at whose place its vertex looks
pub paid_added : (places : List ℕ) (visits : List Visit) (visit : Visit) (v : ℕ) → visit.vertex < length places
    → paid_by v (slice_get (visits ++ visit ∷ []) (get_or (set places visit.vertex (length visits)) v 0)) ≡ cond (eqb v visit.vertex) (Some visit.paid) (paid_by v (slice_get visits (get_or places v 0)))
paid_added places visits visit v within = by_vertex (eqb v visit.vertex) refl
  where
    at : (k : ℕ) → slice_get (visits ++ visit ∷ []) k ≡ cond (eqb k (length visits)) (Some visit) (slice_get visits k)
    at k = slice_get-push visits visit k

    other_place : (k : ℕ) → eqb v visit.vertex ≡ false → (b : Bool) → eqb k (length visits) ≡ b → paid_by v (cond b (Some visit) (slice_get visits k)) ≡ paid_by v (slice_get visits k)
    other_place k other true is =
        let last : k ≡ length visits = grind (arith, nat_tests) in
        let past : slice_get visits k ≡ None = slice_get_past visits k (omega arith) in
        let no : eqb visit.vertex v ≡ false = grind (arith, nat_tests) in
        rw (past, no) refl
    other_place k other false is = refl

    by_vertex : (b : Bool) → eqb v visit.vertex ≡ b → paid_by v (slice_get (visits ++ visit ∷ []) (get_or (set places visit.vertex (length visits)) v 0)) ≡ cond b (Some visit.paid) (paid_by v (slice_get visits (get_or places v 0)))
    by_vertex true is =
        let same : v ≡ visit.vertex = grind (arith, nat_tests) in
        let read : get_or (set places visit.vertex (length visits)) v 0 ≡ length visits = ap (λ u. get_or (set places visit.vertex (length visits)) u 0) same ∙ get_or-set_same places visit.vertex (length visits) 0 within in
        let last : eqb (length visits) (length visits) ≡ true = grind (arith, nat_tests) in
        let yes : eqb visit.vertex v ≡ true = grind (arith, nat_tests) in
        ap (λ k. paid_by v (slice_get (visits ++ visit ∷ []) k)) read ∙ ap (paid_by v) (at (length visits)) ∙ rw (last, yes) refl
    by_vertex false is =
        let differs : v ≡ visit.vertex → ⊥ = λ e. grind (arith, nat_tests) in
        let read : get_or (set places visit.vertex (length visits)) v 0 ≡ get_or places v 0 = get_or-set_other places visit.vertex v (length visits) 0 differs in
        ap (λ k. paid_by v (slice_get (visits ++ visit ∷ []) k)) read ∙ ap (paid_by v) (at (get_or places v 0)) ∙ other_place (get_or places v 0) is (eqb (get_or places v 0) (length visits)) refl

module _ (old new : Search) (visit : Visit) (adds : Adds old new visit) where
  -- at its vertex, and at another one
  paid_here : paid_at new visit.vertex ≡ Some visit.paid
  paid_here = let yes : eqb visit.vertex visit.vertex ≡ true = grind (arith, nat_tests) in adds.reached visit.vertex ∙ rw yes refl

  kept_at : (v paid : ℕ) → IsReached old v paid → (b : Bool) → eqb v visit.vertex ≡ b → IsReached new v paid
  kept_at v paid (least, is, within) true at =
      let same : v ≡ visit.vertex = grind (arith, nat_tests) in
      let less = adds.less least (ap (paid_at old) (sym same) ∙ is) in
      (visit.paid, ap (paid_at new) same ∙ paid_here, omega arith)
  kept_at v paid (least, is, within) false at = (least, adds.reached v ∙ rw at is, within)

  visit_kept : (k : ℕ) (s : Visit) → slice_get old.visits.items k ≡ Some s → slice_get new.visits.items k ≡ Some s
  visit_kept k s is =
      let within = slice_get_within old.visits.items k s is in
      let no : eqb k (length old.visits.items) ≡ false = grind (arith, nat_tests) in
      ap (λ visits. slice_get visits k) adds.visits ∙ slice_get-push old.visits.items visit k ∙ rw no is

  visit_last : slice_get new.visits.items (length old.visits.items) ≡ Some visit
  visit_last =
      let yes : eqb (length old.visits.items) (length old.visits.items) ≡ true = grind (arith, nat_tests) in
      ap (λ visits. slice_get visits (length old.visits.items)) adds.visits ∙ slice_get-push old.visits.items visit (length old.visits.items) ∙ rw yes refl

  pub adds_keeps : Keeps old new
  adds_keeps = record { visits = visit_kept; reached = λ v paid reached. kept_at v paid reached (eqb v visit.vertex) refl }

  pub adds_reached : IsReached new visit.vertex visit.paid
  adds_reached = (visit.paid, paid_here, omega arith)

  -- all that was said of visits still holds, and of the new one too
  comes_still : (I : Network) (q : Quest) (k : ℕ) (s : Visit) → IsVisit I q old.visits.items k s → IsVisit I q new.visits.items k s
  comes_still I q k s is = elim is.comes [
    | inl first ↦ record { vertex = is.vertex; within = is.within; comes = inl first }
    | inr from ↦ record { vertex = is.vertex; within = is.within; comes = inr (record { from = from.from; earlier = from.earlier; there = visit_kept s.before from.from from.there; goes = from.goes; paid = from.paid }) }
  ]

  are_visits : (I : Network) (q : Quest) → AreVisits I q old.visits.items → IsVisit I q old.visits.items (length old.visits.items) visit → AreVisits I q new.visits.items
  are_visits I q before one k s is = by_place (eqb k (length old.visits.items)) refl (sym (slice_get-push old.visits.items visit k) ∙ sym (ap (λ visits. slice_get visits k) adds.visits) ∙ is)
    where
      by_place : (b : Bool) → eqb k (length old.visits.items) ≡ b → cond b (Some visit) (slice_get old.visits.items k) ≡ Some s → IsVisit I q new.visits.items k s
      by_place true last at =
          let here : k ≡ length old.visits.items = grind (arith, nat_tests) in
          let same : visit ≡ s = cc in
          subst (λ (p : ℕ × Visit). IsVisit I q new.visits.items p.0 p.1) (λ j. (sym here j, same j)) (comes_still I q (length old.visits.items) visit one)
      by_place false last at = comes_still I q k s (before k s at)

  -- who waited still does, and the new one too
  waits_still : (extra v paid : ℕ) → Waits old.visits.items (extra ∷ waiting old) v paid → Waits new.visits.items (extra ∷ waiting new) v paid
  waits_still extra v paid (place, s, held, at, vertex, is) = elim (contains_cases extra place (waiting old) held) [
    | inl first ↦ (place, s, subst (λ (p : ℕ). Contains (extra ∷ waiting new) p) (sym first) (contains_first extra (waiting new)), visit_kept place s at, vertex, is)
    | inr later ↦ (place, s, contains_later extra place (waiting new) (Contains-permutation (length old.visits.items ∷ waiting old) (waiting new) place adds.queue (contains_later (length old.visits.items) place (waiting old) later)), visit_kept place s at, vertex, is)
  ]

  waits_last : (extra : ℕ) → Waits new.visits.items (extra ∷ waiting new) visit.vertex visit.paid
  waits_last extra = (length old.visits.items, visit, contains_later extra (length old.visits.items) (waiting new) (Contains-permutation (length old.visits.items ∷ waiting old) (waiting new) (length old.visits.items) adds.queue (contains_first (length old.visits.items) (waiting old))), visit_last, refl, refl)

  pub followed_still : (I : Network) (q : Quest) (w paid : ℕ) → IsFollowed I q old w paid → IsFollowed I q new w paid
  followed_still I q w paid followed = (followed.0, adds_keeps.reached w _ followed.1)

  spread_still : (I : Network) (q : Quest) (extra v paid : ℕ) → ((v paid : ℕ) → paid_at old v ≡ Some paid → Waits old.visits.items (extra ∷ waiting old) v paid ⊎ IsSpread I q old v paid) → paid_at new v ≡ Some paid → Waits new.visits.items (extra ∷ waiting new) v paid ⊎ IsSpread I q new v paid
  spread_still I q extra v paid before is = by_vertex (eqb v visit.vertex) refl (sym (adds.reached v) ∙ is)
    where
      by_vertex : (b : Bool) → eqb v visit.vertex ≡ b → cond b (Some visit.paid) (paid_at old v) ≡ Some paid → Waits new.visits.items (extra ∷ waiting new) v paid ⊎ IsSpread I q new v paid
      by_vertex true at told =
          let here : visit.vertex ≡ v = grind (arith, nat_tests) in
          let same : visit.paid ≡ paid = cc in
          inl (subst (λ (p : ℕ × ℕ). Waits new.visits.items (extra ∷ waiting new) p.0 p.1) (λ j. (here j, same j)) (waits_last extra))
      by_vertex false at told = elim (before v paid told) [
        | inl waits ↦ inl (waits_still extra v paid waits)
        | inr spread ↦ inr (λ w cost leads. followed_still I q w (paid + cost) (spread w cost leads))
      ]

  longer : length new.visits.items ≡ length old.visits.items + 1
  longer = ap length adds.visits ∙ length-append old.visits.items (visit ∷ [])

  places_still : (extra : ℕ) → All (λ place. place < length old.visits.items) (extra ∷ waiting old) → All (λ place. place < length new.visits.items) (extra ∷ waiting new)
  places_still extra before =
      let more : All (λ place. place < length new.visits.items) (extra ∷ waiting old) = All-weaker (λ place. place < length old.visits.items) (λ place. place < length new.visits.items) (λ place within. omega (arith, longer)) (extra ∷ waiting old) before in
      All-cons (λ place. place < length new.visits.items) extra (waiting new) (All-head (λ place. place < length new.visits.items) extra (waiting old) more)
      (All-permutation (λ place. place < length new.visits.items) (length old.visits.items ∷ waiting old) (waiting new) adds.queue
      (All-cons (λ place. place < length new.visits.items) (length old.visits.items) (waiting old) (omega (arith, longer)) (All-tail (λ place. place < length new.visits.items) extra (waiting old) more)))

  pub adds_search : (I : Network) (q : Quest) (extra : ℕ) → IsVisit I q old.visits.items (length old.visits.items) visit → IsSearch I q old (extra ∷ waiting old) → IsSearch I q new (extra ∷ waiting new)
  adds_search I q extra one search = record {
    begun = adds_keeps.reached q.a 0 search.begun;
    visits = are_visits I q search.visits one;
    places = places_still extra search.places;
    spread = λ v paid is. spread_still I q extra v paid search.spread is;
  }

  -- what is paid at its vertex is less than before, so less is still to be done
  lower : visit.paid < 2 ^ 64 → (v : ℕ) → unwrap_or (paid_at new v) (2 ^ 64) + cond (eqb visit.vertex v) 1 0 ≤ unwrap_or (paid_at old v) (2 ^ 64)
  lower small v = by_vertex (eqb visit.vertex v) refl
    where
      below : (before : Option ℕ) → paid_at old visit.vertex ≡ before → visit.paid + 1 ≤ unwrap_or before (2 ^ 64)
      below None is = omega arith
      below (Some least) is = let less = adds.less least is in omega arith

      by_vertex : (b : Bool) → eqb visit.vertex v ≡ b → unwrap_or (paid_at new v) (2 ^ 64) + cond b 1 0 ≤ unwrap_or (paid_at old v) (2 ^ 64)
      by_vertex true at =
          let here : visit.vertex ≡ v = grind (arith, nat_tests) in
          subst (λ (u : ℕ). unwrap_or (paid_at new u) (2 ^ 64) + 1 ≤ unwrap_or (paid_at old u) (2 ^ 64)) here (rw paid_here (below (paid_at old visit.vertex) refl))
      by_vertex false at =
          let no : eqb v visit.vertex ≡ false = grind (arith, nat_tests) in
          let kept : paid_at new v ≡ paid_at old v = adds.reached v ∙ rw no refl in
          let same : unwrap_or (paid_at new v) (2 ^ 64) ≡ unwrap_or (paid_at old v) (2 ^ 64) = ap (λ o. unwrap_or o (2 ^ 64)) kept in
          omega arith

  pub adds_weight : (n : ℕ) → IsVertex n visit.vertex → visit.paid < 2 ^ 64 → weight n new ≤ weight n old
  adds_weight n vertex small =
      let less : sum_to (λ v. unwrap_or (paid_at new v) (2 ^ 64)) n + 1 ≤ sum_to (λ v. unwrap_or (paid_at old v) (2 ^ 64)) n =
      (let all = sum_to_le (λ v. unwrap_or (paid_at new v) (2 ^ 64) + cond (eqb visit.vertex v) 1 0) (λ v. unwrap_or (paid_at old v) (2 ^ 64)) n (λ v low high. lower small v) in
      let parts = sum_to-add (λ v. unwrap_or (paid_at new v) (2 ^ 64)) (λ v. cond (eqb visit.vertex v) 1 0) n in
      let one = sum_to_one visit.vertex 1 n vertex.0 vertex.1 in
      omega arith) in
      let more = length_permutation (length old.visits.items ∷ waiting old) (waiting new) adds.queue in
      omega arith
