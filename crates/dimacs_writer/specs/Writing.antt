-- What is written after a text. Helpers' clauses cite this, and no public one.
use Rattle.std.specs.Prelude.{◌≡◌, ℕ, Bool, List, [], ◌∷◌, ◌++◌, codes}
use Rattle.std.specs.List.{flat_map}
use Rattle.st_model.specs.declared.tree.Tree.{Tree}
use Rattle.plain_text.specs.Lines.{ended}
use Rattle.amounts.specs.declared.scale.Scale.{Scale}
use Rattle.dimacs_writer.specs.Solution.{AreEdgesIn, AreVertices, remark_lines, run_lines, solutions_lines, tree_lines}

-- these lines were written, each with its end
pub record IsWritten (before after : List ℕ) (lines : List (List ℕ)) : Type 0 where
  pub bytes : after ≡ before ++ flat_map ended lines

-- all that stands after the name
pub record AreSections (directed : Bool) (workers : ℕ) (t : Tree) (dual primal : ℕ) (scale : Scale) (text : List ℕ) : Type 0 where
  pub vertices : List ℕ
  pub edges : List (ℕ × ℕ)
  pub vertices_of_tree : AreVertices t vertices
  pub edges_of_tree : AreEdgesIn directed t edges
  pub written : IsWritten [] text (remark_lines dual primal ++ solutions_lines primal scale ++ run_lines workers dual primal scale ++ tree_lines vertices edges ++ codes "EOF" ∷ [])
