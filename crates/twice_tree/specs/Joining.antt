-- Terminals that are joined one by one. Helpers' clauses cite this, and no public one.
use Rattle.std.specs.Prelude.{◌≡◌, ℕ, ◌+◌, ◌-◌, ◌*◌, ◌^◌, ◌≤◌, ◌⊎◌, IsTrue, IsFalse, List, ◌∷◌, length, All, Contains}
use Rattle.std.specs.declared.cmp.Reverse.{Reverse}
use Rattle.st_model.specs.Lists.{has}
use Rattle.st_model.specs.Network.{Network}
use Rattle.st_model.specs.Terminals.{IsTerminal}
use Rattle.short_paths.specs.Laid.{IsLaid, spent}
use Rattle.twice_tree.specs.declared.cells.Cells.{Cells}
use Rattle.twice_tree.specs.declared.offers.Offer.{Offer}
use Rattle.twice_tree.specs.declared.joining.Joining.{Joining}
use Rattle.twice_tree.specs.Cells.{terminal_of}
use Rattle.twice_tree.specs.Opening.{IsMade, IsOffered, NoneIsLess, least_at}
use Rattle.twice_tree.specs.Twice.{AreJoined}

-- the tree reaches all that are joined, for no more than they were joined for; no link from a joined cell costs less than the least at
-- which the cell that it leads to was offered, and an offer to each other cell waits at no more than that, if it was offered at all
pub record IsJoining (I : Network) (c : Cells) (j : Joining) (offers : List (Reverse Offer)) : Type 0 where
  pub first : ℕ
  pub terminal : IsTerminal I first
  pub order : List ℕ
  pub paid : ℕ
  pub are_joined : AreJoined I first order paid
  pub same : (v : ℕ) → has j.joined.members v ≡ has order v
  pub many : length j.joined.members ≡ length order
  pub count : j.joined.count ≡ I.n + 1
  pub laid : IsLaid I j.laid
  pub cheap : spent I j.laid ≤ paid
  pub reached : (v : ℕ) → IsTrue (has order v) → IsTrue (has j.laid.reached.members v)
  pub made : (o : Reverse Offer) → Contains offers o → (k : ℕ) × IsTrue (has order k) × IsMade I c k o
  pub cells : length j.opening.least.items ≡ I.n + 1
  pub low : (u : ℕ) → IsTrue (has order (terminal_of I c.distances u)) → NoneIsLess I c j.opening.least.items u
  pub told : (k : ℕ) → IsFalse (has order k) → (2 ^ 64 - 1 ≤ least_at j.opening.least.items k) ⊎ IsOffered I c offers k (least_at j.opening.least.items k)

-- the same once a cheapest offer is taken out, which is put back
pub record IsTaking (I : Network) (c : Cells) (j : Joining) (offer : Offer) : Type 0 where
  pub joining : IsJoining I c j (record { 0 = offer } ∷ j.opening.offers)
  pub cheapest : All (λ other. offer.cost ≤ other.0.cost) j.opening.offers

-- what falls with each offer that is taken: terminals that may still be joined, and what waits
abbrev pub waiting : Network → Joining → ℕ
waiting I j = (I.n - length j.joined.members) * 2 ^ 64 + length j.opening.offers
