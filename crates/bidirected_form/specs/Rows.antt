-- How the arcs into each vertex are kept. Helpers' clauses cite this, and no public one.
use Rattle.std.specs.Prelude.{◌≡◌, ℕ, ◌+◌, ◌-◌, ◌^◌, ◌<◌, ◌≤◌, Bool, false, IsTrue, IsFalse, if◌then◌else◌, List, [], ◌∷◌, slice_index_or, slice_range, Some}
use Rattle.bidirected_form.specs.declared.arc.Arc.{Arc}
use Rattle.bidirected_form.specs.declared.change.Change.{Change}
use Rattle.bidirected_form.specs.declared.change.Change.TheVariants.{Take, Give}
use Rattle.bidirected_form.specs.Digraph.{Digraph, remaining}
use Rattle.bidirected_form.specs.Entering.{enters}

-- the arcs from this place to the first end, from there to the next, and so on
abbrev pub rows_from : ℕ → List ℕ → List Arc → List (List Arc)
rows_from begin [] arcs = []
rows_from begin (end ∷ ends) arcs = slice_range arcs begin end ∷ rows_from end ends arcs

-- the ends don't fall, and the last one is this
abbrev pub IsLaidOut : ℕ → List ℕ → ℕ → Type 0
IsLaidOut begin [] last = begin ≡ last
IsLaidOut begin (end ∷ ends) last = (begin ≤ end) × (end ≤ last) × IsLaidOut end ends last

-- the arcs into a vertex
abbrev pub row_of : List (List Arc) → ℕ → List Arc
row_of rows v = slice_index_or rows v []

-- what remains after the change
abbrev pub after : Change → ℕ → ℕ
after (Take y) r = r - y
after (Give y) r = r + y

-- so much can be changed so, in 64 bits
abbrev pub Allows : Change → ℕ → Type 0
Allows (Take y) r = y ≤ r
Allows (Give y) r = r + y < 2 ^ 64

-- an arc after the change, unless it comes from a vertex with a mark
abbrev pub altered : List Bool → Change → Arc → Arc
altered marks change arc = if slice_index_or marks arc.tail false then arc else record { tail = arc.tail; remaining = after change arc.remaining }

-- the arc can be changed so, unless it comes from a vertex with a mark
abbrev pub IsAllowed : List Bool → Change → Arc → Type 0
IsAllowed marks change arc = IsFalse (slice_index_or marks arc.tail false) → Allows change arc.remaining

-- each arc that enters the set can be changed so
abbrev pub CanAlter : Digraph → List ℕ → Change → Type 0
CanAlter D set change = (u v r : ℕ) → IsTrue (enters set u v) → remaining D u v ≡ Some r → Allows change r

-- the arcs into a vertex from vertices without a mark, as pairs of tail and head
abbrev pub unmarked : List Bool → ℕ → List Arc → List (ℕ × ℕ)
unmarked marks head [] = []
unmarked marks head (arc ∷ arcs) = if slice_index_or marks arc.tail false then unmarked marks head arcs else (arc.tail, head) ∷ unmarked marks head arcs
