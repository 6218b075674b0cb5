-- A claim has one first fault, or is a tree of the instance.
use Rattle.std.proofs.Common.{◌≡◌, ◌≢◌, ℕ, ◌⊎◌, inl, inr, Result, Ok, Err, refl, ap, arith}
use Rattle.std.specs.Prelude.{IfOk, IfErr}
use Rattle.std.proofs.lemmas.Bool.{cases_lt}
use Rattle.st_model.specs.Network.{Network, IsInstance}
use Rattle.amounts.specs.declared.scale.Scale.{Scale}
use Rattle.solution_reader.specs.declared.verify_fault.VerifyFault.{VerifyFault}
use Rattle.solution_reader.specs.declared.verify_fault.VerifyFault.TheVariants.{Empty, OutOfRange, NoLink, Repeated, NotConnected, Cycle, Missing, CostDiffers, NoMemory}
use Rattle.solution_reader.specs.Claim.{Claim, IsClaim}
use Rattle.solution_reader.specs.Stated.{IsFirstWrong, IsStated, IsVerifyFault, number_of}
use Rattle.solution_reader.proofs.TreeFits.{one_cost, stated_has_no_fault_lem}

-- the number tells the fault
pub same_number : (f g : VerifyFault) → number_of f ≡ number_of g → f ≡ g
same_number Empty Empty e = refl
same_number Empty OutOfRange e = absurd (omega (arith, e))
same_number Empty NoLink e = absurd (omega (arith, e))
same_number Empty Repeated e = absurd (omega (arith, e))
same_number Empty NotConnected e = absurd (omega (arith, e))
same_number Empty Cycle e = absurd (omega (arith, e))
same_number Empty Missing e = absurd (omega (arith, e))
same_number Empty CostDiffers e = absurd (omega (arith, e))
same_number Empty NoMemory e = absurd (omega (arith, e))
same_number OutOfRange Empty e = absurd (omega (arith, e))
same_number OutOfRange OutOfRange e = refl
same_number OutOfRange NoLink e = absurd (omega (arith, e))
same_number OutOfRange Repeated e = absurd (omega (arith, e))
same_number OutOfRange NotConnected e = absurd (omega (arith, e))
same_number OutOfRange Cycle e = absurd (omega (arith, e))
same_number OutOfRange Missing e = absurd (omega (arith, e))
same_number OutOfRange CostDiffers e = absurd (omega (arith, e))
same_number OutOfRange NoMemory e = absurd (omega (arith, e))
same_number NoLink Empty e = absurd (omega (arith, e))
same_number NoLink OutOfRange e = absurd (omega (arith, e))
same_number NoLink NoLink e = refl
same_number NoLink Repeated e = absurd (omega (arith, e))
same_number NoLink NotConnected e = absurd (omega (arith, e))
same_number NoLink Cycle e = absurd (omega (arith, e))
same_number NoLink Missing e = absurd (omega (arith, e))
same_number NoLink CostDiffers e = absurd (omega (arith, e))
same_number NoLink NoMemory e = absurd (omega (arith, e))
same_number Repeated Empty e = absurd (omega (arith, e))
same_number Repeated OutOfRange e = absurd (omega (arith, e))
same_number Repeated NoLink e = absurd (omega (arith, e))
same_number Repeated Repeated e = refl
same_number Repeated NotConnected e = absurd (omega (arith, e))
same_number Repeated Cycle e = absurd (omega (arith, e))
same_number Repeated Missing e = absurd (omega (arith, e))
same_number Repeated CostDiffers e = absurd (omega (arith, e))
same_number Repeated NoMemory e = absurd (omega (arith, e))
same_number NotConnected Empty e = absurd (omega (arith, e))
same_number NotConnected OutOfRange e = absurd (omega (arith, e))
same_number NotConnected NoLink e = absurd (omega (arith, e))
same_number NotConnected Repeated e = absurd (omega (arith, e))
same_number NotConnected NotConnected e = refl
same_number NotConnected Cycle e = absurd (omega (arith, e))
same_number NotConnected Missing e = absurd (omega (arith, e))
same_number NotConnected CostDiffers e = absurd (omega (arith, e))
same_number NotConnected NoMemory e = absurd (omega (arith, e))
same_number Cycle Empty e = absurd (omega (arith, e))
same_number Cycle OutOfRange e = absurd (omega (arith, e))
same_number Cycle NoLink e = absurd (omega (arith, e))
same_number Cycle Repeated e = absurd (omega (arith, e))
same_number Cycle NotConnected e = absurd (omega (arith, e))
same_number Cycle Cycle e = refl
same_number Cycle Missing e = absurd (omega (arith, e))
same_number Cycle CostDiffers e = absurd (omega (arith, e))
same_number Cycle NoMemory e = absurd (omega (arith, e))
same_number Missing Empty e = absurd (omega (arith, e))
same_number Missing OutOfRange e = absurd (omega (arith, e))
same_number Missing NoLink e = absurd (omega (arith, e))
same_number Missing Repeated e = absurd (omega (arith, e))
same_number Missing NotConnected e = absurd (omega (arith, e))
same_number Missing Cycle e = absurd (omega (arith, e))
same_number Missing Missing e = refl
same_number Missing CostDiffers e = absurd (omega (arith, e))
same_number Missing NoMemory e = absurd (omega (arith, e))
same_number CostDiffers Empty e = absurd (omega (arith, e))
same_number CostDiffers OutOfRange e = absurd (omega (arith, e))
same_number CostDiffers NoLink e = absurd (omega (arith, e))
same_number CostDiffers Repeated e = absurd (omega (arith, e))
same_number CostDiffers NotConnected e = absurd (omega (arith, e))
same_number CostDiffers Cycle e = absurd (omega (arith, e))
same_number CostDiffers Missing e = absurd (omega (arith, e))
same_number CostDiffers CostDiffers e = refl
same_number CostDiffers NoMemory e = absurd (omega (arith, e))
same_number NoMemory Empty e = absurd (omega (arith, e))
same_number NoMemory OutOfRange e = absurd (omega (arith, e))
same_number NoMemory NoLink e = absurd (omega (arith, e))
same_number NoMemory Repeated e = absurd (omega (arith, e))
same_number NoMemory NotConnected e = absurd (omega (arith, e))
same_number NoMemory Cycle e = absurd (omega (arith, e))
same_number NoMemory Missing e = absurd (omega (arith, e))
same_number NoMemory CostDiffers e = absurd (omega (arith, e))
same_number NoMemory NoMemory e = refl

-- a fault other than memory is the first that is wrong
first_wrong : (I : Network) (scale : Scale) (claim : Claim) (f : VerifyFault) → f ≢ NoMemory → IsVerifyFault I scale claim f → IsFirstWrong I scale claim f
first_wrong I scale claim Empty other h = h
first_wrong I scale claim OutOfRange other h = h
first_wrong I scale claim NoLink other h = h
first_wrong I scale claim Repeated other h = h
first_wrong I scale claim NotConnected other h = h
first_wrong I scale claim Cycle other h = h
first_wrong I scale claim Missing other h = h
first_wrong I scale claim CostDiffers other h = h
first_wrong I scale claim NoMemory other h = absurd (other refl)

-- two first faults are one
pub one_first : (I : Network) (scale : Scale) (claim : Claim) (f g : VerifyFault) → IsFirstWrong I scale claim f → IsFirstWrong I scale claim g → f ≡ g
one_first I scale claim f g h k = elim (cases_lt (number_of f) (number_of g)) [
  | inl below ↦ absurd (k.first f below h.wrong)
  | inr above ↦ elim (cases_lt (number_of g) (number_of f)) [
    | inl below ↦ absurd (h.first g below k.wrong)
    | inr too ↦ same_number f g (omega arith)
  ]
]

memory_or : (f : VerifyFault) → (f ≡ NoMemory) ⊎ (f ≢ NoMemory)
memory_or Empty = inr (λ e. cc)
memory_or OutOfRange = inr (λ e. cc)
memory_or NoLink = inr (λ e. cc)
memory_or Repeated = inr (λ e. cc)
memory_or NotConnected = inr (λ e. cc)
memory_or Cycle = inr (λ e. cc)
memory_or Missing = inr (λ e. cc)
memory_or CostDiffers = inr (λ e. cc)
memory_or NoMemory = inl refl

-- what is answered, where the claim is such a tree
pub answers_cost : (I : Network) (scale : Scale) (claim : Claim) (r : Result ℕ VerifyFault) → IsInstance I → IsClaim claim → IfOk r (IsStated I scale claim) → IfErr r (IsVerifyFault I scale claim) → (c : ℕ)
    → IsStated I scale claim c → (r ≡ Ok c) ⊎ (r ≡ Err NoMemory)
answers_cost I scale claim (Ok d) instance is tree fault c s = inl (ap Ok (one_cost I scale claim d c tree s))
answers_cost I scale claim (Err f) instance is tree fault c s = inr (ap (λ (g : VerifyFault). Err g) (stated_has_no_fault_lem I scale claim c f instance is s fault))

-- what is answered, where the claim has a fault
pub answers_fault : (I : Network) (scale : Scale) (claim : Claim) (r : Result ℕ VerifyFault) → IsInstance I → IsClaim claim → IfOk r (IsStated I scale claim) → IfErr r (IsVerifyFault I scale claim) → (f : VerifyFault)
    → IsVerifyFault I scale claim f → f ≢ NoMemory → (r ≡ Err f) ⊎ (r ≡ Err NoMemory)
answers_fault I scale claim (Ok c) instance is tree fault f h other = absurd (other (stated_has_no_fault_lem I scale claim c f instance is tree h))
answers_fault I scale claim (Err g) instance is tree fault f h other = elim (memory_or g) [
  | inl none ↦ inr (ap (λ (x : VerifyFault). Err x) none)
  | inr some ↦ inl (ap (λ (x : VerifyFault). Err x) (one_first I scale claim g f (first_wrong I scale claim g some fault) (first_wrong I scale claim f other h)))
]
