-- What each status is called outside: its exit code, and the line that is sent in place of a solution or a verdict.
use Rattle.std.specs.Prelude.{ℕ, List, [], ◌++◌, codes}
use Rattle.std.specs.Fmt.{decimal}
use Rattle.amounts.specs.declared.scale.Scale.{Scale}
use Rattle.amounts.specs.Text.{amount_text}
use Rattle.stp_reader.specs.declared.reason.Reason.{Reason}
use Rattle.stp_reader.specs.Reason as reason
use Rattle.log_format.specs.declared.kind.Kind.{Kind}
use Rattle.log_format.specs.Kind as kind
use Rattle.dimacs_writer.specs.Solution.{remark}
use Rattle.few_terminals.specs.declared.fault.FewFault.{FewFault}
use Rattle.few_terminals.specs.Fault as few_fault
use Rattle.solution_reader.specs.declared.reason.SolReason.{SolReason}
use Rattle.solution_reader.specs.declared.verify_fault.VerifyFault.{VerifyFault}
use Rattle.solution_reader.specs.Reason as sol_reason
use Rattle.solution_reader.specs.Stated.{number_of, fault_name}
use Rattle.cert_checker.specs.declared.verdict.Checked.{Checked}
use Rattle.cert_checker.specs.declared.verdict.Verdict.{Verdict}
use Rattle.cert_checker.specs.declared.verdict.Verdict.TheVariants as verdict
use Rattle.steiner_top.specs.declared.status.Status.{Status}
use Rattle.steiner_top.specs.declared.status.Status.TheVariants.{Optimal, Usage, Budget, Infeasible, RefusedFile, RefusedLog, ReadFault, WriteFault, NoMemory, TooLong, NotFew, NotTree, RefusedSolution}

abbrev pub code_of : Status → ℕ
code_of Optimal = 0
code_of Usage = 2
code_of Budget = 3
code_of Infeasible = 4
code_of RefusedFile = 5
code_of RefusedLog = 6
code_of ReadFault = 7
code_of WriteFault = 8
code_of NoMemory = 9
code_of TooLong = 10
code_of NotFew = 11
code_of NotTree = 12
code_of RefusedSolution = 13

-- what is sent where a status alone says it
abbrev pub line_of : Status → List ℕ
line_of Usage = codes "usage: steiner solve FILE [--workers W] [--nodes N] [--log NAME] [--plain] [--links] | check FILE LOG | gen SEED N M T [--prizes] | trial SEED N M T [--workers W] | few FILE | verify FILE SOLUTION | resume FILE LOG [--workers W] [--nodes N] [--log NAME]\n"
line_of ReadFault = codes "read fault\n"
line_of TooLong = codes "too long\n"
line_of _ = []

abbrev pub infeasible_line : List ℕ
infeasible_line = codes "infeasible\n"

-- a file or a log is refused at a line, by the number and the name of what is wrong there
abbrev pub refused_stp : ℕ → Reason → List ℕ
refused_stp line r = codes "refused stp " ++ (decimal line ++ (codes " " ++ (decimal (reason.code_of r) ++ (codes " " ++ (reason.name_of r ++ codes "\n")))))

abbrev pub refused_log : ℕ → Kind → List ℕ
refused_log line k = codes "refused log " ++ (decimal line ++ (codes " " ++ (decimal (kind.code_of k) ++ (codes " " ++ (kind.name_of k ++ codes "\n")))))

-- an instance isn't one of few terminals, by the number and the name of its fault
abbrev pub not_few_line : FewFault → List ℕ
not_few_line f = codes "not few " ++ (decimal (few_fault.code_of f) ++ (codes " " ++ (few_fault.name_of f ++ codes "\n")))

-- what is claimed is a tree of this cost
abbrev pub tree_line : ℕ → Scale → List ℕ
tree_line cost scale = codes "tree " ++ (amount_text cost scale ++ codes "\n")

-- or it isn't, by the number and the name of what is wrong
abbrev pub not_tree_line : VerifyFault → List ℕ
not_tree_line f = codes "not a tree " ++ (decimal (number_of f) ++ (codes " " ++ (fault_name f ++ codes "\n")))

-- a solution is refused at a line
abbrev pub refused_solution : ℕ → SolReason → List ℕ
refused_solution line r = codes "refused solution " ++ (decimal line ++ (codes " " ++ (decimal (sol_reason.code_of r) ++ (codes " " ++ (sol_reason.name_of r ++ codes "\n")))))

-- a verdict whose numbers count units of this scale
abbrev pub verdict_text : Verdict → Scale → List ℕ
verdict_text (verdict.Optimal primal) scale = codes "optimal " ++ (amount_text primal scale ++ codes "\n")
verdict_text (verdict.Bound dual primal) scale = codes "bound " ++ (amount_text dual scale ++ (codes " " ++ (amount_text primal scale ++ codes "\n")))
verdict_text verdict.NoTree scale = codes "no tree\n"

-- the verdict on a log
abbrev pub verdict_line : Checked → List ℕ
verdict_line checked = verdict_text checked.verdict checked.scale

-- the cost of a tree that was found, the bound, and whether they are equal
abbrev pub summary : ℕ → ℕ → List ℕ
summary primal dual = codes "primal " ++ (decimal primal ++ (codes "\ndual " ++ (decimal dual ++ (codes "\nverdict " ++ (remark dual primal ++ codes "\n")))))

-- the status with which a verdict ends a run
abbrev pub status_of_verdict : Verdict → Status
status_of_verdict (verdict.Optimal primal) = Optimal
status_of_verdict (verdict.Bound dual primal) = Budget
status_of_verdict verdict.NoTree = Infeasible
