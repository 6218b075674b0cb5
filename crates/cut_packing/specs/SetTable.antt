-- Tables that give each set one number.
use Rattle.std.specs.Prelude.{ℕ, Bool, List, [], ◌∷◌, ◌++◌, if◌then◌else◌}
use Rattle.std.specs.List.{list_any}
use Rattle.std.specs.Str.{bytes_eq}

-- whether the list is one of the sets
abbrev pub is_held : List (List ℕ) → List ℕ → Bool
is_held sets set = list_any (λ held. bytes_eq set held) sets

-- the sets with one more, unless it is among them
abbrev pub with_set : List (List ℕ) → List ℕ → List (List ℕ)
with_set sets set = if is_held sets set then sets else sets ++ set ∷ []
