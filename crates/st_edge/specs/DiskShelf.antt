-- What is known of a shelf over files: how many loads failed, and how many saves.
use Rattle.std.specs.Prelude.{ℕ}

pub record FaultCounts : Type 0 where
  pub read_faults : ℕ
  pub write_faults : ℕ
