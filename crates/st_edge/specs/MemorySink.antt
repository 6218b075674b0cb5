-- A sink in memory, and when it refuses a piece.
use Rattle.std.specs.Prelude.{◌≡◌, ◌≢◌, ◌⊎◌, ℕ, ◌-◌, List, [], length, min, Contains}
use Rattle.st_edge.specs.Faults.{one_more}

-- the bytes taken, how many it has room for, and at most how many it takes in one write;
-- the numbers, from 1, of the writes that fail; how many writes were asked for, and how many failed
pub record Tape : Type 0 where
  pub taken : List ℕ
  pub room : ℕ
  pub most : ℕ
  pub failing : List ℕ
  pub writes : ℕ
  pub faults : ℕ

-- The next write of this piece fails: the piece isn't empty, and either the write's number is listed or no room is left.
abbrev pub Refuses : Tape → List ℕ → Type 0
Refuses tape piece = (piece ≢ []) × (Contains tape.failing (one_more tape.writes) ⊎ (length tape.taken ≡ tape.room))

-- how many bytes of this piece a write takes that doesn't fail
abbrev pub portion_of : Tape → List ℕ → ℕ
portion_of tape piece = min (length piece) (min tape.most (tape.room - length tape.taken))
