-- What a sink has taken.
use Rattle.std.specs.Prelude.{◌≡◌, ℕ, ◌<◌, List, length, take, Option}
use Rattle.std.specs.Io.KnownBytes.{append_known}

-- a front of the bytes was taken, and not all of them
abbrev pub TakesFront : Option (List ℕ) → Option (List ℕ) → List ℕ → Type 0
TakesFront old new bytes = (count : ℕ) × (count < length bytes) × (new ≡ append_known old (take count bytes))
