-- The tree to which an entry leads back. Helpers' clauses cite this, and no public one.
use Rattle.std.specs.Prelude.{◌≡◌, ℕ, zero, suc, ◌+◌, ◌/◌, ◌%◌, ◌<◌, ◌≤◌, ◌⊎◌, ◌==◌, false, IsTrue, if◌then◌else◌, Bool, List, [], ◌∷◌, length, slice_index_or}
use Rattle.st_model.specs.Lists.{has}
use Rattle.st_model.specs.Network.{Network}
use Rattle.short_paths.specs.declared.laid.Laid.{Laid}
use Rattle.short_paths.specs.Laid.{IsLaid, spent}
use Rattle.few_terminals.specs.Entries.{at, Meaning}

-- whether the bit of k is set in a set of terminals
abbrev pub is_among : List ℕ → ℕ → ℕ → Bool
is_among [] m v = false
is_among (k ∷ ks) m v = if k == v then m % 2 == 1 else is_among ks (m / 2) v

abbrev pub is_wanted : List Bool → ℕ → Bool
is_wanted wanted place = slice_index_or wanted place false

-- what the wanted entries before a place cost
abbrev pub owed : List Meaning → List Bool → ℕ → ℕ
owed es wanted zero = 0
owed es wanted (suc place) = owed es wanted place + (if is_wanted wanted place then (at es place).cost else 0)

-- an entry that is wanted before a place has the terminal's bit
pub record IsToCome (ks : List ℕ) (es : List Meaning) (wanted : List Bool) (place v : ℕ) : Type 0 where
  pub from : ℕ
  pub before : from < place
  pub wanted_is : IsTrue (is_wanted wanted from)
  pub has_bit : IsTrue (is_among ks (at es from).bits v)

-- on the way back from the top, with the places before this one still to come
pub record IsOnTheWay (I : Network) (ks : List ℕ) (es : List Meaning) (top : ℕ) (wanted : List Bool) (place : ℕ) (l : Laid) : Type 0 where
  pub laid : IsLaid I l
  pub start : l.start ≡ (at es top).vertex
  pub long : length wanted ≡ top + 1
  pub low : place ≤ top + 1
  pub reached : (q : ℕ) → IsTrue (is_wanted wanted q) → IsTrue (has l.reached.members (at es q).vertex)
  pub cost : spent I l + owed es wanted place ≤ (at es top).cost
  pub terminals : (v : ℕ) → IsTrue (is_among ks (at es top).bits v) → IsTrue (has l.reached.members v) ⊎ IsToCome ks es wanted place v

-- arcs that grow from the top's vertex, reach its terminals and cost no more than it says
pub record IsWayBack (I : Network) (ks : List ℕ) (es : List Meaning) (top : ℕ) (l : Laid) : Type 0 where
  pub laid : IsLaid I l
  pub start : l.start ≡ (at es top).vertex
  pub cost : spent I l ≤ (at es top).cost
  pub terminals : (v : ℕ) → IsTrue (is_among ks (at es top).bits v) → IsTrue (has l.reached.members v)
