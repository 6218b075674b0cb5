use Rattle.std.proofs.Common.{◌≤◌, lit≤, ℕ, [], ◌∷◌, arith}
use Rattle.std.proofs.lemmas.List.Elements.{All-from_recursion, All-weaker}
use Rattle.st_model.specs.declared.link.Link.{Link}
use Rattle.st_model.specs.declared.need.Need.{Need}
use Rattle.st_model.specs.declared.need.Need.TheVariants.{Required}
use Rattle.st_model.specs.Network.{IsVertex}
use Rattle.checks_paths.proofs.few_terminals_tests.twelve_of.Goals as goal

-- each need is of a vertex
pub build-requires-clause-needs : goal.build-requires-clause-needs
build-requires-clause-needs c =
    let low : 12 ≤ c.args.vertices = c.requires.low in
    All-from_recursion (λ (stated : ℕ × Need). IsVertex c.args.vertices stated.0) ((1, Required) ∷ (2, Required) ∷ (3, Required) ∷ (4, Required) ∷ (5, Required) ∷ (6, Required) ∷ (7, Required) ∷ (8, Required) ∷ (9, Required) ∷ (10, Required) ∷ (11, Required) ∷ (12, Required) ∷ []) ((lit≤ tt, omega (arith, low)), ((lit≤ tt, omega (arith, low)), ((lit≤ tt, omega (arith, low)), ((lit≤ tt, omega (arith, low)), ((lit≤ tt, omega (arith, low)), ((lit≤ tt, omega (arith, low)), ((lit≤ tt, omega (arith, low)), ((lit≤ tt, omega (arith, low)), ((lit≤ tt, omega (arith, low)), ((lit≤ tt, omega (arith, low)), ((lit≤ tt, omega (arith, low)), ((lit≤ tt, omega (arith, low)), tt))))))))))))

-- and so is each end of a link
pub build-requires-clause-ends : goal.build-requires-clause-ends
build-requires-clause-ends c =
    let low : 12 ≤ c.args.vertices = c.requires.low in
    All-weaker (λ (l : Link). IsVertex 12 l.a × IsVertex 12 l.b) (λ (l : Link). IsVertex c.args.vertices l.a × IsVertex c.args.vertices l.b) (λ l at. ((at.0.0, omega (arith, low, at.0.1)), (at.1.0, omega (arith, low, at.1.1)))) c.args.links.now c.requires.ends
