-- Offers that wait, and the order of a heap in which they do.
use Rattle.std.specs.Prelude.{◌≡◌, ℕ, ◌+◌, ◌*◌, ◌<◌, ◌≤◌, List, length, slice_index_or}
use Rattle.short_paths.specs.declared.queue.Offer.{Offer}

-- what the offer at a place costs
abbrev pub cost_at : List Offer → ℕ → ℕ
cost_at offers place = (slice_index_or offers place (record { cost = 0; to = 0; from = 0 })).cost

-- four places are right below each
abbrev pub IsAbove : ℕ → ℕ → Type 0
IsAbove above place = (4 * above + 1 ≤ place) × (place ≤ 4 * above + 4)

-- no offer is dearer than one right below it
pub record IsOrdered (offers : List Offer) : Type 0 where
  pub order : (above place : ℕ) → IsAbove above place → place < length offers → cost_at offers above ≤ cost_at offers place

-- the same, but that the offer at this place may be cheaper than the one above it
pub record IsRising (offers : List Offer) (here : ℕ) : Type 0 where
  pub order : (above place : ℕ) → IsAbove above place → place < length offers → (place ≡ here → ⊥) → cost_at offers above ≤ cost_at offers place
  pub around : (above place : ℕ) → IsAbove above here → IsAbove here place → place < length offers → cost_at offers above ≤ cost_at offers place

-- the same, but that the offer at this place may be dearer than those below it
pub record IsSinking (offers : List Offer) (here : ℕ) : Type 0 where
  pub order : (above place : ℕ) → IsAbove above place → place < length offers → (above ≡ here → ⊥) → cost_at offers above ≤ cost_at offers place
  pub around : (above place : ℕ) → IsAbove above here → IsAbove here place → place < length offers → cost_at offers above ≤ cost_at offers place
