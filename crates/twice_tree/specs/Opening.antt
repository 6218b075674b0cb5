-- Links that are offered. Helpers' clauses cite this, and no public one.
use Rattle.std.specs.Prelude.{◌≡◌, ℕ, ◌+◌, ◌-◌, ◌^◌, ◌<◌, ◌≤◌, ◌⊎◌, List, ◌∷◌, length, All, Contains, Some, IsPermutation, slice_index_or, slice_set}
use Rattle.std.specs.declared.cmp.Reverse.{Reverse}
use Rattle.st_model.specs.Network.{Network, IsVertex, link}
use Rattle.graph_store.specs.declared.half.Half.{Half}
use Rattle.twice_tree.specs.declared.cells.Cells.{Cells}
use Rattle.twice_tree.specs.declared.offers.Offer.{Offer}
use Rattle.twice_tree.specs.declared.opening.Opening.{Opening}
use Rattle.twice_tree.specs.Cells.{far_in, terminal_of}

-- what it costs to go from one terminal to another by a link of this cost
abbrev pub sum_by : Cells → ℕ → ℕ → ℕ → ℕ
sum_by c u cost w = far_in c.distances u + cost + far_in c.distances w

-- the least at which the cell of k was offered
abbrev pub least_at : List ℕ → ℕ → ℕ
least_at least k = slice_index_or least k (2 ^ 64 - 1)

-- an offer to the cell of k waits at no more than this
pub record IsOffered (I : Network) (c : Cells) (offers : List (Reverse Offer)) (k most : ℕ) : Type 0 where
  pub offer : Reverse Offer
  pub waits : Contains offers offer
  pub cell : terminal_of I c.distances offer.0.to ≡ k
  pub cheap : offer.0.cost ≤ most

-- no link from u costs less by there than the least at which the cell that it leads to was offered
abbrev pub NoneIsLess : Network → Cells → List ℕ → ℕ → Type 0
NoneIsLess I c least u = (w cost : ℕ) → link I.links u w ≡ Some cost → least_at least (terminal_of I c.distances w) ≤ sum_by c u cost w

-- the offer is of a link from the cell of k
pub record IsMade (I : Network) (c : Cells) (k : ℕ) (o : Reverse Offer) : Type 0 where
  pub cell : terminal_of I c.distances o.0.from ≡ k
  pub link_cost : ℕ
  pub linked : link I.links o.0.from o.0.to ≡ Some link_cost
  pub cost : o.0.cost ≡ sum_by c o.0.from link_cost o.0.to
  pub fits : o.0.cost < 2 ^ 64 - 1

-- the cell of k is offered, unless it was offered at no more before
abbrev pub OffersCell : ℕ → Offer → Opening → Opening → Type 0
OffersCell k offer old new = ((least_at old.least.items k ≤ offer.cost) × (new ≡ old))
    ⊎ ((offer.cost < least_at old.least.items k) × (offer.cost < 2 ^ 64 - 1) × (new.least.items ≡ slice_set old.least.items k offer.cost) × IsPermutation (record { 0 = offer } ∷ old.offers) new.offers)

-- links from the cell of k are offered, and no others
pub record Opens (I : Network) (c : Cells) (k : ℕ) (old new : Opening) : Type 0 where
  pub kept : (o : Reverse Offer) → Contains old.offers o → Contains new.offers o
  pub only : (o : Reverse Offer) → Contains new.offers o → Contains old.offers o ⊎ IsMade I c k o
  pub many : length new.least.items ≡ length old.least.items
  pub less : (j : ℕ) → least_at new.least.items j ≤ least_at old.least.items j
  pub told : (j : ℕ) → (j ≡ k → ⊥) → (least_at new.least.items j ≡ least_at old.least.items j) ⊎ IsOffered I c new.offers j (least_at new.least.items j)

-- of some halves from u those are offered that are the cheapest ones to a cell so far
pub record OffersHalves (I : Network) (c : Cells) (u : ℕ) (halves : List Half) (old new : Opening) : Type 0 where
  pub opens : Opens I c (terminal_of I c.distances u) old new
  pub low : All (λ h. least_at new.least.items (terminal_of I c.distances h.to) ≤ sum_by c u h.cost h.to) halves

-- of all links from u those are offered
pub record OffersVertex (I : Network) (c : Cells) (u : ℕ) (old new : Opening) : Type 0 where
  pub opens : Opens I c (terminal_of I c.distances u) old new
  pub low : NoneIsLess I c new.least.items u

-- of all links from the vertices of a cell before one those are offered
pub record OffersBefore (I : Network) (c : Cells) (k v : ℕ) (old new : Opening) : Type 0 where
  pub positive : 1 ≤ v
  pub within : v ≤ I.n → terminal_of I c.distances v ≡ k
  pub opens : Opens I c k old new
  pub low : (u : ℕ) → IsVertex I.n u → terminal_of I c.distances u ≡ k → (v ≤ u) ⊎ NoneIsLess I c new.least.items u

-- of all links from a cell those are offered
pub record OpensCell (I : Network) (c : Cells) (k : ℕ) (old new : Opening) : Type 0 where
  pub opens : Opens I c k old new
  pub low : (u : ℕ) → IsVertex I.n u → terminal_of I c.distances u ≡ k → NoneIsLess I c new.least.items u
