-- What remains of an arc, by its place among those into its head.
use Rattle.std.proofs.Common.{◌≡◌, ℕ, zero, suc, ◌<◌, ◌≤◌, Bool, true, false, eqb, List, [], ◌∷◌, length, get_or, map, Some, None, Ok, Err, inl, inr, refl, sym, ap, ◌∙◌, subst, arith}
use Rattle.std.specs.Prelude.{AllPairs}
use Rattle.std.specs.Ordering.{nat_cmp}
use Rattle.std.specs.List.Sorted.{IsBinarySearchResult}
use Rattle.std.proofs.lemmas.Bool.{cases_eq, cases_lt, ne_eqb, eq-eqb, eqb-true}
use Rattle.std.proofs.lemmas.List.{get_or-map, length-map}
use Rattle.std.proofs.lemmas.List.Sorted.{searched}
use Rattle.bidirected_form.specs.declared.arc.Arc.{Arc}
use Rattle.bidirected_form.specs.Digraph.{left_from}

-- one arc comes before all others
abbrev pub Rise : List Arc → Type 0
Rise arcs = AllPairs (λ a b. a.tail < b.tail) arcs

pub Rise-rest : (a : Arc) (arcs : List Arc) → Rise (a ∷ arcs) → Rise arcs
Rise-rest a arcs h i j d before below = h (suc i) (suc j) d (omega arith) (omega arith)

pub left_from-at : (arcs : List Arc) (k : ℕ) (d : Arc) → Rise arcs → k < length arcs → left_from arcs (get_or arcs k d).tail ≡ Some (get_or arcs k d).remaining
left_from-at [] k d h below = absurd (omega arith)
left_from-at (a ∷ arcs) zero d h below = rw (eq-eqb a.tail a.tail refl) refl
left_from-at (a ∷ arcs) (suc k) d h below =
    let more : a.tail < (get_or arcs k d).tail = h zero (suc k) d (omega arith) below in
    rw (ne_eqb a.tail (get_or arcs k d).tail (λ same. omega arith)) (left_from-at arcs k d (Rise-rest a arcs h) (omega arith))

pub left_from-none : (arcs : List Arc) (u : ℕ) → ((k : ℕ) (d : Arc) → k < length arcs → (get_or arcs k d).tail ≡ u → ⊥) → left_from arcs u ≡ None
left_from-none [] u h = refl
left_from-none (a ∷ arcs) u h = rw (ne_eqb a.tail u (h zero a (omega arith))) (left_from-none arcs u (λ k d below. h (suc k) d (omega arith)))

pub left_from-found : (arcs : List Arc) (u r : ℕ) → left_from arcs u ≡ Some r → (k : ℕ) × (k < length arcs) × ((d : Arc) → get_or arcs k d ≡ record { tail = u; remaining = r })
left_from-found [] u r h = absurd (let clash : ⊥ = cc in clash)
left_from-found (a ∷ arcs) u r h = by_case (eqb a.tail u) refl (left_from-found arcs u r)
  where
    by_case : (b : Bool) → eqb a.tail u ≡ b → (left_from arcs u ≡ Some r → (k : ℕ) × (k < length arcs) × ((d : Arc) → get_or arcs k d ≡ record { tail = u; remaining = r })) → (k : ℕ) × (k < length (a ∷ arcs)) × ((d : Arc) → get_or (a ∷ arcs) k d ≡ record { tail = u; remaining = r })
    by_case true e rest =
        let got : Some a.remaining ≡ Some r = rw e at h in
        let amount : a.remaining ≡ r = cc in
        let tail : a.tail ≡ u = eqb-true a.tail u e in
        (zero, omega arith, λ d i. record { tail = tail i; remaining = amount i })
    by_case false e rest =
        let found = rest (rw e at h) in
        (suc found.0, omega (arith, found.1), found.2)

tails_rise : (arcs : List Arc) → Rise arcs → (i j : ℕ) → i ≤ j → j < length (map (λ (a : Arc). a.tail) arcs) → get_or (map (λ (a : Arc). a.tail) arcs) i 0 ≤ get_or (map (λ (a : Arc). a.tail) arcs) j 0
tails_rise arcs h i j order below =
    let d : Arc = record { tail = 0; remaining = 0 } in
    let long = length-map arcs (λ (a : Arc). a.tail) in
    let first = get_or-map (λ (a : Arc). a.tail) arcs i d 0 (omega arith) in
    let second = get_or-map (λ (a : Arc). a.tail) arcs j d 0 (omega arith) in
    elim (cases_eq i j) [
      | inl same ↦ subst (λ (k : ℕ). get_or (map (λ (a : Arc). a.tail) arcs) i 0 ≤ get_or (map (λ (a : Arc). a.tail) arcs) k 0) same (omega arith)
      | inr differ ↦ let less = h i j d (omega arith) (omega arith) in omega arith
    ]

-- what a search of the tails found
pub found_at : (tails : List ℕ) (arcs : List Arc) (u place : ℕ) (d : Arc) → tails ≡ map (λ (a : Arc). a.tail) arcs → Rise arcs → IsBinarySearchResult (λ y. nat_cmp y u) tails (Ok place) → Some (get_or arcs place d).remaining ≡ left_from arcs u
found_at tails arcs u place d same h search_says =
    let told = searched (map (λ (a : Arc). a.tail) arcs) u (Ok place) (subst (λ (ts : List ℕ). IsBinarySearchResult (λ y. nat_cmp y u) ts (Ok place)) same search_says) (tails_rise arcs h) in
    let below : place < length arcs = omega (arith, told.0, length-map arcs (λ (a : Arc). a.tail)) in
    let tail : (get_or arcs place d).tail ≡ u = sym (get_or-map (λ (a : Arc). a.tail) arcs place d 0 below) ∙ told.1 in
    sym (left_from-at arcs place d h below) ∙ ap (left_from arcs) tail

pub found_none : (tails : List ℕ) (arcs : List Arc) (u place : ℕ) → tails ≡ map (λ (a : Arc). a.tail) arcs → Rise arcs → IsBinarySearchResult (λ y. nat_cmp y u) tails (Err place) → None ≡ left_from arcs u
found_none tails arcs u place same h search_says =
    let told = searched (map (λ (a : Arc). a.tail) arcs) u (Err place) (subst (λ (ts : List ℕ). IsBinarySearchResult (λ y. nat_cmp y u) ts (Err place)) same search_says) (tails_rise arcs h) in
    sym (left_from-none arcs u (λ k d below is. apart told k d below is))
  where
    apart : (place ≤ length (map (λ (a : Arc). a.tail) arcs)) × ((k : ℕ) → k < place → get_or (map (λ (a : Arc). a.tail) arcs) k 0 < u) × ((k : ℕ) → place ≤ k → k < length (map (λ (a : Arc). a.tail) arcs) → u < get_or (map (λ (a : Arc). a.tail) arcs) k 0) → (k : ℕ) (d : Arc) → k < length arcs → (get_or arcs k d).tail ≡ u → ⊥
    apart told k d below is =
        let here = get_or-map (λ (a : Arc). a.tail) arcs k d 0 below in
        let long = length-map arcs (λ (a : Arc). a.tail) in
        elim (cases_lt k place) [
          | inl before ↦ let less = told.1 k before in omega arith
          | inr after ↦ let more = told.2 k after (omega arith) in omega arith
        ]
