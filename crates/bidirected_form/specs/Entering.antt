-- The arcs that enter a set, and what is taken from them or given back.
use Rattle.std.specs.Prelude.{◌≡◌, ℕ, ◌+◌, ◌-◌, ◌^◌, ◌<◌, ◌≤◌, ◌⊎◌, Bool, ◌&&◌, not, IsTrue, IsSome, if◌then◌else◌, List, Some}
use Rattle.std.specs.Option.{option_map}
use Rattle.st_model.specs.Lists.{has}
use Rattle.bidirected_form.specs.Digraph.{Digraph, neighbours, remaining}

-- v is in the set, and u isn't
abbrev pub enters : List ℕ → ℕ → ℕ → Bool
enters set u v = has set v && not (has set u)

-- there is an arc from u to v, and it enters the set
abbrev pub IsEntering : Digraph → List ℕ → ℕ × ℕ → Type 0
IsEntering D set arc = IsSome (remaining D arc.0 arc.1) × IsTrue (enters set arc.0 arc.1)

-- the order of pairs: by the first, and where those are the same by the second
abbrev pub IsBefore : ℕ × ℕ → ℕ × ℕ → Type 0
IsBefore a b = (a.0 < b.0) ⊎ ((a.0 ≡ b.0) × (a.1 < b.1))

-- so much remains of each arc that enters the set
abbrev pub CanBear : Digraph → List ℕ → ℕ → Type 0
CanBear D set y = (u v r : ℕ) → IsTrue (enters set u v) → remaining D u v ≡ Some r → y ≤ r

-- so much more can remain of each arc that enters the set, in 64 bits
abbrev pub HasRoom : Digraph → List ℕ → ℕ → Type 0
HasRoom D set y = (u v r : ℕ) → IsTrue (enters set u v) → remaining D u v ≡ Some r → r + y < 2 ^ 64

-- what remains of each arc that enters the set becomes this of what it was, and all else is as before
pub record Alters (old new : Digraph) (set : List ℕ) (f : ℕ → ℕ) : Type 0 where
  pub root : new.root ≡ old.root
  pub count : new.n ≡ old.n
  pub kinds : new.kinds ≡ old.kinds
  pub neighbours : (v : ℕ) → neighbours new v ≡ neighbours old v
  pub remaining : (u v : ℕ) → remaining new u v ≡ (if enters set u v then option_map f (remaining old u v) else remaining old u v)

-- each arc that enters the set has so much less, and all else is as before
abbrev pub Charges : Digraph → Digraph → List ℕ → ℕ → Type 0
Charges old new set y = Alters old new set (λ r. r - y)

-- each arc that enters the set has so much more, and all else is as before
abbrev pub Returns : Digraph → Digraph → List ℕ → ℕ → Type 0
Returns old new set y = Alters old new set (λ r. r + y)
