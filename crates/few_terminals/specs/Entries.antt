-- What entries mean, each a set of terminals that a tree from a vertex reaches at a cost, and the earlier ones that they name as their parts.
use Rattle.std.specs.Prelude.{◌≡◌, ℕ, ◌+◌, ◌<◌, ◌≤◌, bit_and, List, [], ◌∷◌, ◌++◌, length, slice_index_or, Some}
use Rattle.st_model.specs.Arborescence.{arc_cost}
use Rattle.st_model.specs.Network.{Network, IsVertex, link}
use Rattle.few_terminals.specs.declared.entry.Entry.{Entry}
use Rattle.few_terminals.specs.declared.entry.Way.{Way}
use Rattle.few_terminals.specs.declared.entry.Way.TheVariants.{Alone, Along, Joined}
use Rattle.few_terminals.specs.Under.{mask}

-- what an entry means: its vertex, the terminals that a tree from there reaches, as bits, what the tree costs, and the entry's way
pub record Meaning : Type 0 where
  pub vertex : ℕ
  pub bits : ℕ
  pub cost : ℕ
  pub way : Way

abbrev pub at : List Meaning → ℕ → Meaning
at es place = slice_index_or es place (record { vertex = 0; bits = 0; cost = 0; way = Alone })

-- the terminals that a tree from v reaches which came about in a way, as bits, where earlier entries have these meanings
abbrev pub bits_by : List ℕ → List Meaning → ℕ → Way → ℕ
bits_by ks es v Alone = mask ks (v ∷ [])
bits_by ks es v (Along before) = (at es before).bits
bits_by ks es v (Joined first second) = (at es first).bits + (at es second).bits

-- and what the tree costs
abbrev pub cost_by : Network → List Meaning → ℕ → Way → ℕ
cost_by I es v Alone = 0
cost_by I es v (Along before) = (at es before).cost + arc_cost I (v, (at es before).vertex)
cost_by I es v (Joined first second) = (at es first).cost + (at es second).cost

-- what an entry means, where earlier ones have these meanings
abbrev pub meaning : Network → List ℕ → List Meaning → Entry → Meaning
meaning I ks es e = record { vertex = e.vertex; bits = bits_by ks es e.vertex e.way; cost = cost_by I es e.vertex e.way; way = e.way }

-- these meanings, and those of the entries that follow
abbrev pub meanings_after : Network → List ℕ → List Meaning → List Entry → List Meaning
meanings_after I ks es [] = es
meanings_after I ks es (e ∷ later) = meanings_after I ks (es ++ meaning I ks es e ∷ []) later

-- what entries mean, each after those before it
abbrev pub meanings : Network → List ℕ → List Entry → List Meaning
meanings I ks entries = meanings_after I ks [] entries

-- an entry comes along a link from another one, at just what both cost
pub record ComesAlong (I : Network) (e f : Meaning) (c : ℕ) : Type 0 where
  pub linked : link I.links e.vertex f.vertex ≡ Some c
  pub bits : e.bits ≡ f.bits
  pub cost : e.cost ≡ f.cost + c

-- an entry joins two others at its vertex, which have no bit in common, at just what both cost
pub record IsJoined (e f g : Meaning) : Type 0 where
  pub first : f.vertex ≡ e.vertex
  pub second : g.vertex ≡ e.vertex
  pub apart : bit_and f.bits g.bits ≡ 0
  pub bits : e.bits ≡ f.bits + g.bits
  pub cost : e.cost ≡ f.cost + g.cost

-- an entry is its vertex alone, or its parts stand before a place
abbrev pub HasParts : Network → List ℕ → List Meaning → ℕ → Meaning → Way → Type 0
HasParts I ks es place e Alone = (e.bits ≡ mask ks (e.vertex ∷ [])) × (e.cost ≡ 0)
HasParts I ks es place e (Along before) = (before < place) × ((c : ℕ) × ComesAlong I e (at es before) c)
HasParts I ks es place e (Joined first second) = (first < place) × (second < place) × IsJoined e (at es first) (at es second)

-- each entry's parts are earlier ones
abbrev pub HaveParts : Network → List ℕ → List Meaning → Type 0
HaveParts I ks es = (place : ℕ) → place < length es → IsVertex I.n (at es place).vertex × HasParts I ks es place (at es place) (at es place).way

-- this stands at a place
pub record IsEntryAt (es : List Meaning) (place vertex bits cost : ℕ) : Type 0 where
  pub within : place < length es
  pub vertex_is : (at es place).vertex ≡ vertex
  pub bits_is : (at es place).bits ≡ bits
  pub cost_is : (at es place).cost ≡ cost

-- more may follow, and what was there stays
pub record GoesOn (old new : List Meaning) : Type 0 where
  pub longer : length old ≤ length new
  pub same : (place : ℕ) → place < length old → at new place ≡ at old place
