-- The side of each vertex in a branch, and the links that are a must or barred. Helpers' clauses cite this, and no public one.
use Rattle.std.specs.Prelude.{◌≡◌, ℕ, Bool, ◌==◌, ◌&&◌, min, max, List}
use Rattle.std.specs.List.{list_any}
use Rattle.st_model.specs.declared.branch.Branch.{Branch}
use Rattle.st_model.specs.Lists.{has}
use Rattle.st_model.specs.Made.{has_pair}

-- whether a pair is among those that have their lower ends first
abbrev pub is_kept : List (ℕ × ℕ) → ℕ → ℕ → Bool
is_kept keys u v = list_any (λ key. (min u v == key.0) && (max u v == key.1)) keys

-- the lists have the vertices inside, those outside, the links that are a must and the barred ones, in a free order
pub record AreSides (B : Branch) (ins outs : List ℕ) (musts bars : List (ℕ × ℕ)) : Type 0 where
  pub inside : (v : ℕ) → has ins v ≡ has B.inside v
  pub outside : (v : ℕ) → has outs v ≡ has B.outside v
  pub must : (u v : ℕ) → is_kept musts u v ≡ has_pair B.must u v
  pub barred : (u v : ℕ) → is_kept bars u v ≡ has_pair B.barred u v
