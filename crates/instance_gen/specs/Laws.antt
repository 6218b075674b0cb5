-- What holds of all instances that are drawn, and of all that are written.
use Rattle.std.specs.Prelude.{◌≡◌, ℕ, Bool, IsTrue, IsSome}
use Rattle.amounts.specs.declared.scale.Scale.{Scale}
use Rattle.amounts.specs.declared.scale.Scale.TheVariants.{Whole}
use Rattle.st_model.specs.Network.{Network, IsInstance, IsVertex, link}
use Rattle.stp_reader.specs.Reads.{Reads}
use Rattle.instance_gen.specs.Generated.{generated, AreInRange}
use Rattle.instance_gen.specs.Text.{FitsFile, stp_text}

-- a set that holds vertex 1, and that no link leaves, holds all vertices
abbrev pub IsConnected : Network → Type 0
IsConnected I = (S : ℕ → Bool) → IsTrue (S 1) → ((u v : ℕ) → IsSome (link I.links u v) → S u ≡ S v) → (v : ℕ) → IsVertex I.n v → IsTrue (S v)

-- every instance that is drawn is connected
abbrev pub GeneratedAreConnected : Type 0
GeneratedAreConnected = (seed n m t : ℕ) (prizes : Bool) → AreInRange seed n m t → IsConnected (generated seed n m t prizes)

-- every instance that is drawn fits into a file of wholes
abbrev pub GeneratedFitFile : Type 0
GeneratedFitFile = (seed n m t : ℕ) (prizes : Bool) → AreInRange seed n m t → FitsFile (generated seed n m t prizes) Whole

-- the text of an instance that fits into a file at a scale is read as this instance at this scale
abbrev pub WrittenAreRead : Type 0
WrittenAreRead = (I : Network) (scale : Scale) → IsInstance I → FitsFile I scale → Reads (stp_text I scale) I scale
