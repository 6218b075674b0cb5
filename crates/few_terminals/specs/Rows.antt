-- The rows of a table by sets of terminals. Helpers' clauses cite this, and no public one.
use Rattle.std.specs.Prelude.{◌≡◌, ℕ, ◌+◌, ◌^◌, ◌<◌, ◌≤◌, bit_and, IsTrue, List, [], ◌∷◌, length, map, slice_index_or, Some}
use Rattle.st_model.specs.Lists.{has}
use Rattle.st_model.specs.Network.{Network, link}
use Rattle.few_terminals.specs.declared.row.Row.{Row}
use Rattle.few_terminals.specs.declared.table.Table.{Table}
use Rattle.few_terminals.specs.Entries.{meanings, Meaning, IsEntryAt, HaveParts}
use Rattle.few_terminals.specs.Reach.{slot_of}
use Rattle.few_terminals.specs.Under.{mask}

-- the costs of a set's row, and where their entries stand, each for the vertex at its slot among those that are reached; there is no row of
-- the empty set
abbrev pub costs_of : List Row → ℕ → List ℕ
costs_of rows m = slice_index_or (map (λ row. row.costs.items) rows) m []

abbrev pub places_of : List Row → ℕ → List ℕ
places_of rows m = slice_index_or (map (λ row. row.places.items) rows) m []

-- what a row over these vertices says of one, 2^63 where it says nothing
abbrev pub cost_at : List ℕ → List ℕ → ℕ → ℕ
cost_at vs costs v = slice_index_or costs (slot_of vs v) (2 ^ 63)

-- and where its entry stands
abbrev pub place_at : List ℕ → List ℕ → ℕ → ℕ
place_at vs places v = slice_index_or places (slot_of vs v) 0

-- what the rows say of a set and a vertex
abbrev pub cost_in : List ℕ → List Row → ℕ → ℕ → ℕ
cost_in vs rows m v = cost_at vs (costs_of rows m) v

abbrev pub place_in : List ℕ → List Row → ℕ → ℕ → ℕ
place_in vs rows m v = place_at vs (places_of rows m) v

-- the row of a set: what it says is entered, and it meets the three inequalities
pub record IsRow (I : Network) (ks : List ℕ) (es : List Meaning) (vs : List ℕ) (rows : List Row) (bits : ℕ) (costs places : List ℕ) : Type 0 where
  pub long_costs : length costs ≡ length vs
  pub long_places : length places ≡ length vs
  pub most : (v : ℕ) → cost_at vs costs v ≤ 2 ^ 63
  pub placed : (v : ℕ) → cost_at vs costs v < 2 ^ 63 → IsEntryAt es (place_at vs places v) v bits (cost_at vs costs v)
  pub alone : (k : ℕ) → IsTrue (has ks k) → mask ks (k ∷ []) ≡ bits → cost_at vs costs k ≡ 0
  pub along : (u v c : ℕ) → link I.links u v ≡ Some c → cost_at vs costs u ≤ cost_at vs costs v + c
  pub joined : (v a b : ℕ) → 1 ≤ a → 1 ≤ b → bit_and a b ≡ 0 → a + b ≡ bits → cost_at vs costs v ≤ cost_in vs rows a v + cost_in vs rows b v

-- the rows of the first sets
pub record AreRows (I : Network) (ks : List ℕ) (es : List Meaning) (vs : List ℕ) (rows : List Row) : Type 0 where
  pub long_costs : (m : ℕ) → 1 ≤ m → m < length rows → length (costs_of rows m) ≡ length vs
  pub long_places : (m : ℕ) → 1 ≤ m → m < length rows → length (places_of rows m) ≡ length vs
  pub most : (m v : ℕ) → cost_in vs rows m v ≤ 2 ^ 63
  pub placed : (m v : ℕ) → cost_in vs rows m v < 2 ^ 63 → IsEntryAt es (place_in vs rows m v) v m (cost_in vs rows m v)
  pub alone : (k : ℕ) → IsTrue (has ks k) → mask ks (k ∷ []) < length rows → cost_in vs rows (mask ks (k ∷ [])) k ≡ 0
  pub along : (m u v c : ℕ) → link I.links u v ≡ Some c → cost_in vs rows m u ≤ cost_in vs rows m v + c
  pub joined : (v a b : ℕ) → 1 ≤ a → 1 ≤ b → bit_and a b ≡ 0 → a + b < length rows → cost_in vs rows (a + b) v ≤ cost_in vs rows a v + cost_in vs rows b v

-- what the entries of a table mean
abbrev pub meanings_of : Network → Table → List Meaning
meanings_of I table = meanings I table.terminals.items table.entries.items

-- the rows of all sets, and their entries
pub record IsTable (I : Network) (table : Table) : Type 0 where
  pub rows : AreRows I table.terminals.items (meanings_of I table) table.reached.items table.rows.items
  pub parts : HaveParts I table.terminals.items (meanings_of I table)
  pub whole : length table.rows.items ≡ 2 ^ length table.terminals.items
