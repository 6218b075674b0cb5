use Rattle.std.proofs.Common.{Bool, true, false, ◌≡◌, List, ℕ}
use Rattle.std.specs.Bool.{OnTrue}
use Rattle.std.specs.Prelude.{MatchBool}
use Rattle.std.specs.List.Sorted.{IsNonDecreasing}
use Rattle.std.proofs.lemmas.List.Sorted.{non_decreasing_from_is_sorted}
use Rattle.checks_model.proofs.st_model_tests.branch_tests.ascends.Goals as goal

on_true : (A B : Type 0) (b : Bool) → MatchBool b A B → OnTrue b A
on_true A B true h = h
on_true A B false h = tt

pub returns : goal.returns
returns c = on_true _ _ c.is_sorted.result (non_decreasing_from_is_sorted c.args.vertices.now c.is_sorted.result c.is_sorted.ensures.cases)
