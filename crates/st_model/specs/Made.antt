-- Trees made of given pairs, and pairs that hang together.
use Rattle.std.specs.Prelude.{◌≡◌, ℕ, Bool, IsTrue, IsFalse, ◌&&◌, ◌||◌, ◌==◌, List, [], ◌∷◌, All, ⊤}
use Rattle.std.specs.List.{list_any}
use Rattle.st_model.specs.declared.tree.Tree.{Tree}

-- the pair is u and v, in either order
abbrev pub is_between : ℕ × ℕ → ℕ → ℕ → Bool
is_between pair u v = ((pair.0 == u) && (pair.1 == v)) || ((pair.0 == v) && (pair.1 == u))

-- one of the pairs is u and v, in either order
abbrev pub has_pair : List (ℕ × ℕ) → ℕ → ℕ → Bool
has_pair pairs u v = list_any (λ pair. is_between pair u v) pairs

-- no pair stands again, in either order
abbrev pub AreApart : List (ℕ × ℕ) → Type 0
AreApart [] = ⊤
AreApart (pair ∷ pairs) = IsFalse (has_pair pairs pair.0 pair.1) × AreApart pairs

-- each arc of the tree is one of the pairs, in either direction
abbrev pub IsMadeOf : List (ℕ × ℕ) → Tree → Type 0
IsMadeOf pairs t = All (λ arc. IsTrue (has_pair pairs arc.0 arc.1)) t.arcs

-- a set that holds the start and that no pair leaves holds the ends of all pairs
abbrev pub AreConnectedFrom : ℕ → List (ℕ × ℕ) → Type 0
AreConnectedFrom start pairs = (S : ℕ → Bool) → IsTrue (S start) → All (λ pair. S pair.0 ≡ S pair.1) pairs → All (λ pair. IsTrue (S pair.0)) pairs
