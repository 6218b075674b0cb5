-- Sets of vertices below a count, as the list of their members.
use Rattle.std.specs.Prelude.{◌≡◌, ℕ, Bool, false, IsTrue, IsFalse, List, [], ◌∷◌, ◌++◌, All, slice_index_or, ⊤}
use Rattle.st_model.specs.Lists.{has}

pub record VertexSet : Type 0 where
  -- the members are below this
  pub count : ℕ
  -- each once, in the order in which they came
  pub members : List ℕ

-- no element stands in the list again
abbrev pub AllApart : List ℕ → Type 0
AllApart [] = ⊤
AllApart (x ∷ xs) = IsFalse (has xs x) × AllApart xs

-- the marks are those of the members, and no member stands twice
pub record IsMarked (marks : List Bool) (members : List ℕ) : Type 0 where
  pub marked : (v : ℕ) → slice_index_or marks v false ≡ has members v
  pub apart : AllApart members

-- the list with some of the vertices at its end, so that it has all of them
pub record Extends (old new vertices : List ℕ) : Type 0 where
  pub more : List ℕ
  pub appended : new ≡ old ++ more
  pub only : All (λ v. IsTrue (has vertices v)) more
  pub covers : (v : ℕ) → IsTrue (has vertices v) → IsTrue (has new v)
