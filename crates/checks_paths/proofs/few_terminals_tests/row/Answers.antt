use Rattle.std.proofs.Common.{lit≤, ℕ, [], ◌∷◌}
use Rattle.std.proofs.lemmas.List.Elements.{All-from_recursion}
use Rattle.st_model.specs.declared.need.Need.{Need}
use Rattle.st_model.specs.declared.need.Need.TheVariants.{Required}
use Rattle.st_model.specs.Network.{IsVertex}
use Rattle.checks_paths.proofs.few_terminals_tests.row.Goals as goal

abbrev is_stated : ℕ × Need → Type 0
is_stated stated = IsVertex 14 stated.0

-- each need is of a vertex
pub build-requires-clause-needs : goal.build-requires-clause-needs
build-requires-clause-needs c =
    All-from_recursion is_stated ((1, Required) ∷ (2, Required) ∷ (3, Required) ∷ (4, Required) ∷ (5, Required) ∷ (6, Required) ∷ (7, Required) ∷ (8, Required) ∷ (9, Required) ∷ (10, Required) ∷ (11, Required) ∷ (12, c.args.twelfth) ∷ (13, c.args.next) ∷ (14, c.args.last) ∷ []) ((lit≤ tt, lit≤ tt), ((lit≤ tt, lit≤ tt), ((lit≤ tt, lit≤ tt), ((lit≤ tt, lit≤ tt), ((lit≤ tt, lit≤ tt), ((lit≤ tt, lit≤ tt), ((lit≤ tt, lit≤ tt), ((lit≤ tt, lit≤ tt), ((lit≤ tt, lit≤ tt), ((lit≤ tt, lit≤ tt), ((lit≤ tt, lit≤ tt), ((lit≤ tt, lit≤ tt), ((lit≤ tt, lit≤ tt), ((lit≤ tt, lit≤ tt), tt))))))))))))))
