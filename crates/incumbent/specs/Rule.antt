-- What the word is between any two steps, and what each step tells its seat.
use Rattle.std.specs.Prelude.{◌≡◌, ℕ, ◌+◌, ◌<◌, ◌≤◌, min, List, [], ◌∷◌, ◌++◌}
use Rattle.std.specs.List.{sum_by}
use mathlib.Core.Option.{some}
use lib.ListN.{get_elem?}
use Rattle.atomic_table.specs.Table.{Me}
use Rattle.incumbent.specs.declared.rule.Hand.{Hand}
use Rattle.incumbent.specs.Least.{least_of}

abbrev pub hand : ℕ → ℕ → List ℕ → ℕ → Hand
hand parts start offers lowest = record { parts = parts; start = start; offers = offers; lowest = lowest }

-- the first seat has every part: one for each of 64 seats, and its own
abbrev pub first_hand : ℕ → Hand
first_hand start = hand 65 start [] start

-- a seat that has made no offer
abbrev pub newcomer : ℕ → Hand
newcomer start = hand 1 start [] start

-- A seat with a part knows the start, and a value that the word has not risen above. A seat without one has made no offer.
pub record Fits (start word : ℕ) (v : Hand) : Type 0 where
  pub start_is : 0 < v.parts → v.start ≡ start
  pub above : 0 < v.parts → word ≤ v.lowest
  pub idle : v.parts ≡ 0 → v.offers ≡ []

-- The word is the greatest number that is above neither the start nor an offer.
pub record IsLeast (start word : ℕ) (views : List Hand) : Type 0 where
  pub at_start : word ≤ start
  pub at_offers : (seat : ℕ) (v : Hand) → get_elem? views seat ≡ some v → word ≤ least_of start v.offers
  pub greatest : (y : ℕ) → y ≤ start
      → ((seat : ℕ) (v : Hand) → get_elem? views seat ≡ some v → y ≤ least_of start v.offers) → y ≤ word

-- There is one word, it is the least of the start and all offers, and all parts are with the seats.
pub record IsKept (start : ℕ) (words : List ℕ) (views : List Hand) : Type 0 where
  pub word : ℕ
  pub one : words ≡ word ∷ []
  pub least : IsLeast start word views
  pub fits : (seat : ℕ) (v : Hand) → get_elem? views seat ≡ some v → Fits start word v
  pub parts : sum_by (λ v. v.parts) views ≡ 65

-- A load found at most what the seat knew; who has every part knows which value.
abbrev pub saw : Hand → ℕ → Me (Unit {0}) Hand → Type 0
saw v found w = (found ≤ v.lowest) × (w ≡ (hand v.parts v.start v.offers found, []))
    × (v.parts ≡ 65 → found ≡ least_of v.start v.offers)

-- An offer of x made the word the less of both.
abbrev pub offered : Hand → ℕ → ℕ → Me (Unit {0}) Hand → Type 0
offered v x found w = (found ≤ v.lowest) × (w ≡ (hand v.parts v.start (v.offers ++ x ∷ []) (min found x), []))

abbrev pub both : Hand → Hand → Hand
both v w = hand (v.parts + w.parts) v.start (v.offers ++ w.offers) (min v.lowest w.lowest)
