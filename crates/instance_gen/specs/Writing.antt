-- What is written after a text. Helpers' clauses cite this, and no public one.
use Rattle.std.specs.Prelude.{◌≡◌, ℕ, List, ◌++◌}
use Rattle.instance_gen.specs.Text.{text_of}

-- the lines of these words were written
pub record IsWritten (before after : List ℕ) (lines : List (List (List ℕ))) : Type 0 where
  pub bytes : after ≡ before ++ text_of lines
