-- What is known of a sink over the standard output: how many writes were asked for, and how many failed.
use Rattle.std.specs.Prelude.{ℕ}

pub record WriteCounts : Type 0 where
  pub writes : ℕ
  pub faults : ℕ
