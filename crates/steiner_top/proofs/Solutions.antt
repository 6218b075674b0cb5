-- What solving a file gave is what `solve` is answered with.
use Rattle.std.proofs.Common.{◌≡◌, ℕ, Bool, true, false, cond, List, Some, Ok, refl, sym, subst, arith}
use Rattle.std.specs.Prelude.{◌==◌}
use Rattle.std.proofs.lemmas.Bool.{eqb-true}
use Rattle.std.proofs.lemmas.Bool.Decides.{nat_tests}
use Rattle.arborescence.specs.Problem.{plain, directed}
use Rattle.stp_reader.specs.Reads.{ReadsFile}
use Rattle.command_line.specs.Words.{SolveWords}
use Rattle.steiner_top.specs.declared.outcome.Outcome.{Outcome}
use Rattle.steiner_top.specs.declared.outcome.Outcome.TheVariants.{Found, Directed, NoTree}
use Rattle.steiner_top.specs.declared.status.Status.{Status}
use Rattle.steiner_top.specs.declared.status.Status.TheVariants.{Optimal, Budget}
use Rattle.steiner_top.specs.Answer.{IsOutcomeText, SolveAnswer, status_of_outcome}
use Rattle.steiner_top.specs.Outcome.{Solves}

-- an outcome, its status and its text
pub outcome_answers : (w : SolveWords) (bytes : List ℕ) (outcome : Outcome) (status : Status) (sent : List ℕ) → Solves w.nodes w.plain w.links bytes (Ok outcome)
    → status ≡ status_of_outcome outcome → IsOutcomeText w.file w.workers outcome sent → SolveAnswer w bytes status (Some outcome) sent
outcome_answers w bytes (Found tree primal dual expanded searches log scale) status sent (plain I, unit, reads, found) ends text = rw ends (at (dual == primal) refl)
  where
    of_it : ReadsFile bytes (plain I) scale
    of_it = subst (ReadsFile bytes (plain I)) (sym found.1) reads

    at : (same : Bool) → (dual == primal) ≡ same → SolveAnswer w bytes (cond same Optimal Budget) (Some (Found tree primal dual expanded searches log scale)) sent
    at true is = (record { instance = I; reads = of_it; found = found.0; text = text }, eqb-true dual primal is)
    at false is = (record { instance = I; reads = of_it; found = found.0; text = text }, (let below = found.0.is_below in grind (arith, nat_tests)))
outcome_answers w bytes (Found tree primal dual expanded searches log scale) status sent (directed D, unit, reads, found) ends text = absurd found
outcome_answers w bytes (Directed tree primal dual expanded log scale) status sent (plain I, unit, reads, found) ends text = absurd found
outcome_answers w bytes (Directed tree primal dual expanded log scale) status sent (directed D, unit, reads, found) ends text = rw ends (at (dual == primal) refl)
  where
    of_it : ReadsFile bytes (directed D) scale
    of_it = subst (ReadsFile bytes (directed D)) (sym found.1) reads

    at : (same : Bool) → (dual == primal) ≡ same → SolveAnswer w bytes (cond same Optimal Budget) (Some (Directed tree primal dual expanded log scale)) sent
    at true is = (record { instance = D; reads = of_it; found = found.0; text = text }, eqb-true dual primal is)
    at false is = (record { instance = D; reads = of_it; found = found.0; text = text }, (let below = found.0.is_below in grind (arith, nat_tests)))
outcome_answers w bytes (NoTree log) status sent (plain I, unit, reads, none) ends text = rw ends (record { problem = plain I; scale = unit; reads = reads; without_tree = none; text = text })
outcome_answers w bytes (NoTree log) status sent (directed D, unit, reads, none) ends text = rw ends (record { problem = directed D; scale = unit; reads = reads; without_tree = none; text = text })
