-- Offers in the order of a heap, as one moves up or down.
use Rattle.std.proofs.Common.{◌≡◌, ℕ, zero, suc, ◌+◌, ◌-◌, ◌*◌, ◌/◌, ◌<◌, ◌≤◌, List, [], ◌∷◌, ◌++◌, length, take, get_or, ap, ◌∙◌, arith, inl, inr, length-append}
use Rattle.std.specs.Prelude.{All}
use Rattle.std.specs.List.{swap}
use Rattle.std.proofs.Math.Seq.{take-append_seam}
use Rattle.std.proofs.lemmas.Bool.{cases_eq, cases_lt}
use Rattle.std.proofs.lemmas.List.{get_or_append_left, get_or_default}
use Rattle.std.proofs.lemmas.List.Edits.{Swapped, swapped_from_swap, length-swap}
use Rattle.short_paths.specs.declared.queue.Offer.{Offer}
use Rattle.short_paths.specs.Waiting.{cost_at, IsAbove, IsOrdered, IsRising, IsSinking}

-- what is read where no offer is
abbrev nothing : Offer
nothing = record { cost = 0; to = 0; from = 0 }

-- the costs at two places change places with the offers
costs_swapped : (xs ys : List Offer) (a b : ℕ) → a < length xs → b < length xs → ys ≡ swap xs a b → Swapped (cost_at xs) (cost_at ys) a b
costs_swapped xs ys a b a_in b_in is =
    let all = swapped_from_swap xs ys a b nothing a_in b_in is in
    (ap (λ (o : Offer). o.cost) all.0, ap (λ (o : Offer). o.cost) all.1, λ m not_a not_b. ap (λ (o : Offer). o.cost) (all.2 m not_a not_b))

module _ (f g : ℕ → ℕ) (n above place : ℕ) (is_above : IsAbove above place) (within : place < n) (dearer : f place < f above) (swapped : Swapped f g above place)
    (order : (a k : ℕ) → IsAbove a k → k < n → (k ≡ place → ⊥) → f a ≤ f k) (around : (a k : ℕ) → IsAbove a place → IsAbove place k → k < n → f a ≤ f k) where
  -- a cheap offer has moved up by one
  rise_order : (a k : ℕ) → IsAbove a k → k < n → (k ≡ above → ⊥) → g a ≤ g k
  rise_order a k is inside other = elim (cases_eq k place) [
    | inl k_is ↦
        let a_is : a ≡ above = (let low = is_above.0 in let high = is_above.1 in let from = is.0 in let to = is.1 in omega arith) in
        let first = ap g a_is in
        let second = ap g k_is in
        let at_above = swapped.0 in
        let at_place = swapped.1 in
        omega arith
    | inr k_not ↦
        let rest = swapped.2 k other k_not in
        elim (cases_eq a place) [
          | inl a_is ↦
              let first = ap g a_is in
              let at_place = swapped.1 in
              let bound = around above k is_above (let low : 4 * place + 1 ≤ k = (let from = is.0 in omega arith) in let high : k ≤ 4 * place + 4 = (let to = is.1 in omega arith) in (low, high)) inside in
              omega arith
          | inr a_not ↦ elim (cases_eq a above) [
            | inl a_is ↦
                let first = ap g a_is in
                let before = ap f a_is in
                let at_above = swapped.0 in
                let bound = order a k is inside k_not in
                omega arith
            | inr a_other ↦ (let first = swapped.2 a a_other a_not in let bound = order a k is inside k_not in omega arith)
          ]
        ]
  ]

  rise_around : (a k : ℕ) → IsAbove a above → IsAbove above k → k < n → g a ≤ g k
  rise_around a k is_a is_k inside =
      let low = is_above.0 in
      let a_low = is_a.0 in
      let first = swapped.2 a (λ e. omega arith) (λ e. omega arith) in
      let bound = order a above is_a (omega arith) (λ e. omega arith) in
      elim (cases_eq k place) [
        | inl k_is ↦ (let second = ap g k_is in let at_place = swapped.1 in omega arith)
        | inr k_not ↦
            let k_low = is_k.0 in
            let second = swapped.2 k (λ e. omega arith) k_not in
            let more = order above k is_k inside k_not in
            omega arith
      ]

module _ (f g : ℕ → ℕ) (n place below : ℕ) (is_below : IsAbove place below) (within : below < n) (cheaper : f below < f place) (swapped : Swapped f g place below)
    (cheapest : (k : ℕ) → IsAbove place k → k < n → f below ≤ f k)
    (order : (a k : ℕ) → IsAbove a k → k < n → (a ≡ place → ⊥) → f a ≤ f k) (around : (a k : ℕ) → IsAbove a place → IsAbove place k → k < n → f a ≤ f k) where
  -- a dear offer has moved down by one
  sink_order : (a k : ℕ) → IsAbove a k → k < n → (a ≡ below → ⊥) → g a ≤ g k
  sink_order a k is inside other =
      let from = is.0 in
      let to = is.1 in
      let low = is_below.0 in
      let high = is_below.1 in
      elim (cases_eq a place) [
        | inl a_is ↦
            let first = ap g a_is in
            let at_place = swapped.0 in
            elim (cases_eq k below) [
              | inl k_is ↦ (let second = ap g k_is in let at_below = swapped.1 in omega arith)
              | inr k_not ↦
                  let second = swapped.2 k (λ e. omega arith) k_not in
                  let bound = cheapest k (let k_from : 4 * place + 1 ≤ k = omega arith in let k_to : k ≤ 4 * place + 4 = omega arith in (k_from, k_to)) inside in
                  omega arith
            ]
        | inr a_not ↦
            let first = swapped.2 a a_not other in
            elim (cases_eq k place) [
              | inl k_is ↦
                  let second = ap g k_is in
                  let at_place = swapped.0 in
                  let bound = around a below (let a_from : 4 * a + 1 ≤ place = omega arith in let a_to : place ≤ 4 * a + 4 = omega arith in (a_from, a_to)) is_below within in
                  omega arith
              | inr k_not ↦
                  let second = swapped.2 k k_not (λ e. a_not (omega arith)) in
                  let bound = order a k is inside a_not in
                  omega arith
            ]
      ]

  sink_around : (a k : ℕ) → IsAbove a below → IsAbove below k → k < n → g a ≤ g k
  sink_around a k is_a is_k inside =
      let a_from = is_a.0 in
      let a_to = is_a.1 in
      let low = is_below.0 in
      let high = is_below.1 in
      let k_from = is_k.0 in
      let first = ap g (let same : a ≡ place = omega arith in same) in
      let at_place = swapped.0 in
      let second = swapped.2 k (λ e. omega arith) (λ e. omega arith) in
      let bound = order below k is_k inside (λ e. omega arith) in
      omega arith

-- one step up
pub rise_step : (xs ys : List Offer) (above place : ℕ) → IsAbove above place → place < length xs → cost_at xs place < cost_at xs above → ys ≡ swap xs above place → IsRising xs place → IsRising ys above
rise_step xs ys above place is within dearer swaps rising = record {
  order = λ a k is_k inside. rise_order (cost_at xs) (cost_at ys) (length xs) above place is within dearer swapped rising.order rising.around a k is_k (let same = long in omega arith);
  around = λ a k is_a is_k inside. rise_around (cost_at xs) (cost_at ys) (length xs) above place is within dearer swapped rising.order rising.around a k is_a is_k (let same = long in omega arith);
}
  where
    long : length ys ≡ length xs
    long = ap length swaps ∙ length-swap xs above place

    swapped : Swapped (cost_at xs) (cost_at ys) above place
    swapped = costs_swapped xs ys above place (let low = is.0 in omega arith) within swaps

-- one step down
pub sink_step : (xs ys : List Offer) (place below : ℕ) → IsAbove place below → below < length xs → cost_at xs below < cost_at xs place → ((k : ℕ) → IsAbove place k → k < length xs → cost_at xs below ≤ cost_at xs k) → ys ≡ swap xs place below → IsSinking xs place → IsSinking ys below
sink_step xs ys place below is within cheaper cheapest swaps sinking = record {
  order = λ a k is_k inside. sink_order (cost_at xs) (cost_at ys) (length xs) place below is within cheaper swapped cheapest sinking.order sinking.around a k is_k (let same = long in omega arith);
  around = λ a k is_a is_k inside. sink_around (cost_at xs) (cost_at ys) (length xs) place below is within cheaper swapped cheapest sinking.order sinking.around a k is_a is_k (let same = long in omega arith);
}
  where
    long : length ys ≡ length xs
    long = ap length swaps ∙ length-swap xs place below

    swapped : Swapped (cost_at xs) (cost_at ys) place below
    swapped = costs_swapped xs ys place below (let low = is.0 in omega arith) within swaps

-- where none above is dearer, all are in order
pub risen : (xs : List Offer) (place : ℕ) → IsRising xs place → ((above : ℕ) → IsAbove above place → cost_at xs above ≤ cost_at xs place) → IsOrdered xs
risen xs place rising none = record {
  order = λ a k is inside. elim (cases_eq k place) [
    | inl k_is ↦
        let same = ap (cost_at xs) k_is in
        let bound = none a (let low : 4 * a + 1 ≤ place = (let from = is.0 in omega arith) in let high : place ≤ 4 * a + 4 = (let to = is.1 in omega arith) in (low, high)) in
        omega arith
    | inr k_not ↦ rising.order a k is inside k_not
  ];
}

-- where none below is cheaper, all are in order
pub sunk : (xs : List Offer) (place : ℕ) → IsSinking xs place → ((k : ℕ) → IsAbove place k → k < length xs → cost_at xs place ≤ cost_at xs k) → IsOrdered xs
sunk xs place sinking none = record {
  order = λ a k is inside. elim (cases_eq a place) [
    | inl a_is ↦
        let same = ap (cost_at xs) a_is in
        let bound = none k (let low : 4 * place + 1 ≤ k = (let from = is.0 in omega arith) in let high : k ≤ 4 * place + 4 = (let to = is.1 in omega arith) in (low, high)) inside in
        omega arith
    | inr a_not ↦ sinking.order a k is inside a_not
  ];
}

-- an offer at the end may rise
pub pushed : (xs ys : List Offer) (x : Offer) → ys ≡ xs ++ x ∷ [] → IsOrdered xs → IsRising ys (length xs)
pushed xs ys x is ordered = record {
  order = λ a k above inside other.
      let same = long in
      let low = above.0 in
      let first = ap (λ l. cost_at l a) is ∙ ap (λ (o : Offer). o.cost) (get_or_append_left xs (x ∷ []) nothing a (omega arith)) in
      let second = ap (λ l. cost_at l k) is ∙ ap (λ (o : Offer). o.cost) (get_or_append_left xs (x ∷ []) nothing k (omega arith)) in
      let bound = ordered.order a k above (omega arith) in
      omega arith;
  around = λ a k above below inside. absurd (let same = long in let low = below.0 in omega arith);
}
  where
    long : length ys ≡ length xs + 1
    long = ap length is ∙ length-append xs (x ∷ [])

-- the last offer in the place of the first may sink
pub replaced : (xs ys : List Offer) → length ys + 1 ≡ length xs → ((k : ℕ) (d : Offer) → (k ≡ 0 → ⊥) → k + 1 < length xs → get_or ys k d ≡ get_or xs k d) → IsOrdered xs → IsSinking ys 0
replaced xs ys long others ordered = record {
  order = λ a k above inside first_not.
      let low = above.0 in
      let first = ap (λ (o : Offer). o.cost) (others a nothing first_not (omega arith)) in
      let second = ap (λ (o : Offer). o.cost) (others k nothing (λ e. omega arith) (omega arith)) in
      let bound = ordered.order a k above (omega arith) in
      omega arith;
  around = λ a k above below inside. absurd (let low = above.0 in omega arith);
}

-- none is cheaper than the first
first_least : (xs : List Offer) → IsOrdered xs → (fuel k : ℕ) → k ≤ fuel → k < length xs → cost_at xs 0 ≤ cost_at xs k
first_least xs ordered zero k low inside = let same = ap (cost_at xs) (let zero_is : k ≡ 0 = omega arith in zero_is) in omega arith
first_least xs ordered (suc fuel) k low inside = elim (cases_lt 0 k) [
  | inr none ↦ (let same = ap (cost_at xs) (let zero_is : k ≡ 0 = omega arith in zero_is) in omega arith)
  | inl some ↦
      let from : 4 * ((k - 1) / 4) + 1 ≤ k = omega arith in
      let to : k ≤ 4 * ((k - 1) / 4) + 4 = omega arith in
      let above = first_least xs ordered fuel ((k - 1) / 4) (omega arith) (omega arith) in
      let bound = ordered.order ((k - 1) / 4) k (from, to) inside in
      omega arith
]

pub cheapest_first : (xs : List Offer) (x : Offer) → 0 < length xs → x ≡ get_or xs 0 x → IsOrdered xs → All (λ other. x.cost ≤ other.cost) xs
cheapest_first xs x some is ordered k d inside =
    let first = ap (λ (o : Offer). o.cost) (is ∙ get_or_default xs 0 x nothing some) in
    let here = ap (λ (o : Offer). o.cost) (get_or_default xs k d nothing inside) in
    let bound = first_least xs ordered k k (omega arith) inside in
    omega arith

-- what is written back over a whole list
pub written_back : (xs ys : List Offer) (n : ℕ) → n ≡ length xs → take n (xs ++ ys) ≡ xs
written_back xs ys n long = ap (λ k. take k (xs ++ ys)) long ∙ take-append_seam xs ys
