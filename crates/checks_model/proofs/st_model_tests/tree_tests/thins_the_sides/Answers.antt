use Rattle.std.proofs.Common.{sym, ◌∙◌, [], ◌∷◌, lit<}
use Rattle.std.specs.Prelude.{IsTrue}
use Rattle.std.proofs.lemmas.List.Elements.{All-from_recursion}
use Rattle.checks_model.proofs.st_model_tests.tree_tests.thins_the_sides.Goals as goal

-- 1 is joined to 2 and 3
pub thins_to-requires-clause-connected : goal.thins_to-requires-clause-connected
thins_to-requires-clause-connected g c S start same =
    All-from_recursion (λ pair. IsTrue (S pair.0)) ((1, 2) ∷ (2, 3) ∷ (1, 3) ∷ []) (start, (sym (same 0 (0, 0) (lit< tt)) ∙ start, (start, tt)))
