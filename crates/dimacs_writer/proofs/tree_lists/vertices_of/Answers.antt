use Rattle.std.proofs.Common.{◌≡◌, ◌==◌, ◌||◌, ℕ, List, [], ◌∷◌, ◌++◌, map, refl, sym, ap, ◌∙◌}
use Rattle.std.proofs.Math.Bool.{or_comm}
use Rattle.std.proofs.lemmas.Map.Keys.{IsStrictlyIncreasing-from_sorted}
use Rattle.std.specs.List.{list_any}
use Rattle.st_model.specs.Arborescence.{reached_from}
use Rattle.st_model.specs.Lists.{has}
use Rattle.st_model.proofs.Members.{has-append, has_same}
use Rattle.st_model.proofs.RegrowSteps.{has-reached_from_heads}
use Rattle.dimacs_writer.proofs.tree_lists.vertices_of.Goals as goal

-- the heads stand before what was reached first
has-reached_from : (r : List ℕ) (arcs : List (ℕ × ℕ)) (v : ℕ) → has (map (λ arc. arc.1) arcs ++ r) v ≡ has (reached_from r arcs) v
has-reached_from r arcs v = has-append (map (λ arc. arc.1) arcs) r v ∙ (or_comm (has (map (λ arc. arc.1) arcs) v) (has r v) ∙ (ap (λ b. has r v || b) (heads arcs) ∙ sym (has-reached_from_heads r arcs v)))
  where
    heads : (arcs : List (ℕ × ℕ)) → has (map (λ arc. arc.1) arcs) v ≡ list_any (λ arc. arc.1 == v) arcs
    heads [] = refl
    heads (arc ∷ arcs) = ap (λ b. (arc.1 == v) || b) (heads arcs)

pub returns : goal.returns
returns c =
    let tree = c.args.tree.now in
    let same = rw c.in_ok-vertices.ensures at c.put_in_order.ensures.same in
    record {
      ascending = IsStrictlyIncreasing-from_sorted _ c.put_in_order.ensures.ascending;
      same = λ v. has_same _ _ same v ∙ has-reached_from (tree.start ∷ []) tree.arcs v;
    }
