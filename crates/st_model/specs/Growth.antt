-- Who stands beside whom in a list of pairs, and a tree that is being grown of them.
use Rattle.std.specs.Prelude.{◌≡◌, ℕ, ◌+◌, ◌≤◌, ◌==◌, Bool, IsTrue, if◌then◌else◌, List, [], ◌∷◌, ◌++◌, length, take, All, sum_by}
use Rattle.std.specs.List.{flat_map}
use Rattle.st_model.specs.declared.thinning.Growth.{Growth}
use Rattle.st_model.specs.Lists.{has}
use Rattle.st_model.specs.Network.{Network}
use Rattle.st_model.specs.Arborescence.{reached_from, Grows}
use Rattle.st_model.specs.Made.{has_pair}
use Rattle.st_model.specs.Marks.{AreMarks}

-- the other end of the pair, for each of its ends that is v
abbrev pub others : ℕ → ℕ × ℕ → List ℕ
others v pair = (if pair.0 == v then pair.1 ∷ [] else []) ++ (if pair.1 == v then pair.0 ∷ [] else [])

-- the other ends of the pairs that end in v, in the order of the pairs
abbrev pub neighbours : List (ℕ × ℕ) → ℕ → List ℕ
neighbours pairs v = flat_map (others v) pairs

-- whether the arcs reach v from the start
abbrev pub reaches : ℕ → List (ℕ × ℕ) → ℕ → Bool
reaches start arcs v = has (reached_from (start ∷ []) arcs) v

-- arcs that grow from the start and are made of the pairs, and a mark at each vertex that they reach
pub record IsGrowth (I : Network) (pairs : List (ℕ × ℕ)) (start : ℕ) (g : Growth) : Type 0 where
  pub grows : Grows I (start ∷ []) g.arcs.items
  pub made : All (λ arc. IsTrue (has_pair pairs arc.0 arc.1)) g.arcs.items
  pub marks : AreMarks I.n g.marked.items (reached_from (start ∷ []) g.arcs.items)
  -- each arc took a vertex that wasn't marked, and the start is marked
  pub room : length g.arcs.items + sum_by (λ mark. if mark then 0 else 1) g.marked.items ≤ I.n

-- a growth that went on from the first arcs, and reaches all these heads
pub record HasReached (I : Network) (pairs : List (ℕ × ℕ)) (start : ℕ) (first : List (ℕ × ℕ)) (tips : List ℕ) (g : Growth) : Type 0 where
  pub growth : IsGrowth I pairs start g
  pub heads : All (λ head. IsTrue (reaches start g.arcs.items head)) tips
  pub extends : take (length first) g.arcs.items ≡ first

-- the start and the heads of the first arcs have no neighbour that isn't reached
abbrev pub AreSettled : List (ℕ × ℕ) → ℕ → List (ℕ × ℕ) → ℕ → Type 0
AreSettled pairs start arcs count = (v w : ℕ) → IsTrue (reaches start (take count arcs) v) → IsTrue (has_pair pairs v w) → IsTrue (reaches start arcs w)
