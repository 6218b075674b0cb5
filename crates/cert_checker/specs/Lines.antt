-- The lines of a log so far, and the problem that it is judged of. Helpers' clauses cite this, and no public one.
use Rattle.std.specs.Prelude.{ℕ, List}
use Rattle.arborescence.specs.Problem.{Problem}

pub record Lines : Type 0 where
  pub problem : Problem
  pub lines : List (List ℕ)
