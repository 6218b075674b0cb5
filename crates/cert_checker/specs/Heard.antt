-- What became of a line. Helpers' clauses cite this, and no public one.
use Rattle.std.specs.Prelude.{◌≡◌, ℕ, List, [], ◌∷◌, ◌++◌}
use Rattle.log_format.specs.Text.{Begins}
use Rattle.cert_checker.specs.declared.hearing.Heard.{Heard}
use Rattle.cert_checker.specs.declared.hearing.Heard.TheVariants.{Taken, Bad}
use Rattle.cert_checker.specs.Lines.{Lines}

-- it was taken; or no log begins with the lines and this one
abbrev pub IsHeard : Lines → List ℕ → Heard → Type 0
IsHeard before line (Taken after) = (after ≡ record { problem = before.problem; lines = before.lines ++ line ∷ [] }) × Begins after.lines
IsHeard before line (Bad after) = (after ≡ before) × (¬ (Begins (before.lines ++ line ∷ [])))
