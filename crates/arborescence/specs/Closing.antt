-- Sets that arcs connect strongly, and arcs that can't be done without. Helpers' clauses cite this, and no public one.
use Rattle.std.specs.Prelude.{◌≡◌, ◌≢◌, ℕ, ◌+◌, ◌<◌, ◌≤◌, ◌==◌, ◌&&◌, Bool, IsTrue, IsFalse, List, All, length, take, slice_index_or}
use Rattle.std.specs.List.{list_any}
use Rattle.st_model.specs.declared.branch.Branch.{Branch}
use Rattle.st_model.specs.Branch.{is_present}
use Rattle.st_model.specs.Led.{heads_at}
use Rattle.st_model.specs.Lists.{has}
use Rattle.st_model.specs.Network.{IsVertex}

-- the heads of the arcs of which the tail is in the set are in it
abbrev pub IsClosed : List (ℕ × ℕ) → (ℕ → Bool) → Type 0
IsClosed arcs S = All (λ arc. IsTrue (S arc.0) → IsTrue (S arc.1)) arcs

-- what the arcs lead to from the root is all that is present
abbrev pub Spans : ℕ → Branch → ℕ → List (ℕ × ℕ) → Type 0
Spans n B root arcs = (S : ℕ → Bool) → IsTrue (S root) → IsClosed arcs S → (v : ℕ) → IsVertex n v → IsTrue (is_present B v) → IsTrue (S v)

-- each of the vertices leads to each other one over the arcs
abbrev pub IsStrong : List (ℕ × ℕ) → List ℕ → Type 0
IsStrong arcs set = (S : ℕ → Bool) → IsClosed arcs S → (u v : ℕ) → IsTrue (has set u) → IsTrue (has set v) → IsTrue (S u) → IsTrue (S v)

-- some set that holds the root, and not the arc's head, is closed under the arcs before and all kept ones but this one
pub record IsNeeded (r : ℕ) (first others : List (ℕ × ℕ)) (arc : ℕ × ℕ) : Type 0 where
  pub set : ℕ → Bool
  pub root : IsTrue (set r)
  pub misses : IsFalse (set arc.1)
  pub before : IsClosed first set
  pub kept : All (λ other. other ≢ arc → IsTrue (set other.0) → IsTrue (set other.1)) others

-- the arc from u to v is one of these
abbrev pub has_arc : List (ℕ × ℕ) → ℕ → ℕ → Bool
has_arc arcs u v = list_any (λ arc. (arc.0 == u) && (arc.1 == v)) arcs

-- heads at their tails, just those of the arcs
pub record AreHeadsOf (n : ℕ) (arcs : List (ℕ × ℕ)) (heads : List (List ℕ)) : Type 0 where
  pub count : length heads ≡ n + 1
  pub in_range : (u : ℕ) → All (λ v. v < length heads) (heads_at heads u)
  pub listed : (u v : ℕ) → has (heads_at heads u) v ≡ has_arc arcs u v

-- arcs between vertices
abbrev pub AreWithin : ℕ → List (ℕ × ℕ) → Type 0
AreWithin n arcs = All (λ arc. (arc.0 ≤ n) × (arc.1 ≤ n)) arcs

-- v is present, and some set that holds the root, but not v, is closed under all arcs
pub record Misses (n : ℕ) (B : Branch) (r : ℕ) (arcs : List (ℕ × ℕ)) (v : ℕ) : Type 0 where
  pub vertex : IsVertex n v
  pub present : IsTrue (is_present B v)
  pub set : ℕ → Bool
  pub root : IsTrue (set r)
  pub away : IsFalse (set v)
  pub closed : IsClosed arcs set

-- the arc was chosen at this place, and can't be done without
pub record IsKept (r : ℕ) (chosen kept : List (ℕ × ℕ)) (arc : ℕ × ℕ) : Type 0 where
  pub place : ℕ
  pub below : place < length chosen
  pub is : slice_index_or chosen place (0, 0) ≡ arc
  pub needed : IsNeeded r (take place chosen) kept arc

-- of the chosen arcs some that span as well, none of which can be done without
pub record ArePruned (n : ℕ) (B : Branch) (r : ℕ) (chosen kept : List (ℕ × ℕ)) : Type 0 where
  pub spans : Spans n B r kept
  pub each : All (IsKept r chosen kept) kept
