-- The lines of a text.
use Rattle.std.specs.Prelude.{ℕ, List, [], ◌∷◌, ◌++◌}

-- a line with its end
abbrev pub ended : List ℕ → List ℕ
ended line = line ++ 10 ∷ []
