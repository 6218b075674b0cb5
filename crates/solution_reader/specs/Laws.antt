-- Each text makes one claim, or is refused at one line for one reason.
use Rattle.std.specs.Prelude.{◌≡◌, ◌⊎◌, ℕ, List}
use Rattle.solution_reader.specs.declared.reason.SolReason.{SolReason}
use Rattle.solution_reader.specs.Claim.{Claim}
use Rattle.solution_reader.specs.Reads.{ReadsSolution, RefusedSolution}

-- the bytes make one claim or have one fault, never both and never neither
pub record RefusedExactly (bytes : List ℕ) : Type 0 where
  pub some : ((claim : Claim) × ReadsSolution bytes claim) ⊎ ((line : ℕ) × (r : SolReason) × RefusedSolution bytes line r)
  pub not_both : (claim : Claim) (line : ℕ) (r : SolReason) → ReadsSolution bytes claim → RefusedSolution bytes line r → ⊥
  pub one_claim : (claim other : Claim) → ReadsSolution bytes claim → ReadsSolution bytes other → claim ≡ other
  pub one_fault : (line line' : ℕ) (r r' : SolReason) → RefusedSolution bytes line r → RefusedSolution bytes line' r' → (line ≡ line') × (r ≡ r')
