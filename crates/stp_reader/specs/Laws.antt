-- Each text is that of one instance at one scale, or is refused at one line for one reason.
use Rattle.std.specs.Prelude.{◌≡◌, ◌⊎◌, ◌↔◌, ℕ, true, false, List}
use Rattle.amounts.specs.declared.scale.Scale.{Scale}
use Rattle.st_model.specs.Network.{Network}
use Rattle.arborescence.specs.DiNetwork.{DiNetwork}
use Rattle.arborescence.specs.Problem.{Problem, plain, directed}
use Rattle.stp_reader.specs.declared.mode.Mode.{Mode}
use Rattle.stp_reader.specs.declared.mode.Mode.TheVariants.{Any}
use Rattle.stp_reader.specs.declared.reason.Reason.{Reason}
use Rattle.stp_reader.specs.Reads.{Reads, ReadsIn, ReadsFile, Refused, RefusedIn, RefusedFile}
use Rattle.stp_reader.specs.Directed.{is_directed}

-- the bytes have one instance at one scale or one fault, never both and never neither
pub record RefusedExactly (bytes : List ℕ) : Type 0 where
  pub some : ((I : Network) × (scale : Scale) × Reads bytes I scale) ⊎ ((line : ℕ) × (reason : Reason) × Refused bytes line reason)
  pub not_both : (I : Network) (scale : Scale) (line : ℕ) (reason : Reason) → Reads bytes I scale → Refused bytes line reason → ⊥
  pub one_instance : (I J : Network) (scale other : Scale) → Reads bytes I scale → Reads bytes J other → (I ≡ J) × (scale ≡ other)
  pub one_fault : (line line' : ℕ) (reason reason' : Reason) → Refused bytes line reason → Refused bytes line' reason' → (line ≡ line') × (reason ≡ reason')

-- the same of instances of either kind, in a mode
pub record RefusedExactlyIn (mode : Mode) (bytes : List ℕ) : Type 0 where
  pub some : ((P : Problem) × (scale : Scale) × ReadsIn mode bytes P scale) ⊎ ((line : ℕ) × (reason : Reason) × RefusedIn mode bytes line reason)
  pub not_both : (P : Problem) (scale : Scale) (line : ℕ) (reason : Reason) → ReadsIn mode bytes P scale → RefusedIn mode bytes line reason → ⊥
  pub one_instance : (P Q : Problem) (scale other : Scale) → ReadsIn mode bytes P scale → ReadsIn mode bytes Q other → (P ≡ Q) × (scale ≡ other)
  pub one_fault : (line line' : ℕ) (reason reason' : Reason) → RefusedIn mode bytes line reason → RefusedIn mode bytes line' reason' → (line ≡ line') × (reason ≡ reason')

abbrev pub FileRefusedExactly : List ℕ → Type 0
FileRefusedExactly bytes = RefusedExactlyIn Any bytes

-- a file that isn't directed has the same instance or fault in either mode, and one that is has no instance of links
pub record ReadsAlike (bytes : List ℕ) : Type 0 where
  pub reads : is_directed bytes ≡ false → (I : Network) (scale : Scale) → ReadsFile bytes (plain I) scale ↔ Reads bytes I scale
  pub refused : is_directed bytes ≡ false → (line : ℕ) (reason : Reason) → RefusedFile bytes line reason ↔ Refused bytes line reason
  pub plain_file : (I : Network) (scale : Scale) → ReadsFile bytes (plain I) scale → is_directed bytes ≡ false
  pub links_file : (I : Network) (scale : Scale) → Reads bytes I scale → is_directed bytes ≡ false
  pub directed_file : (D : DiNetwork) (scale : Scale) → ReadsFile bytes (directed D) scale → is_directed bytes ≡ true
