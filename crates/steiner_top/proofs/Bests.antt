-- What a search in what steps leave gathered, and the best tree of it.
use Rattle.std.proofs.Common.{◌≡◌, ℕ, Bool, List, refl, sym, ◌∙◌, ap}
use Rattle.std.specs.Prelude.{All, IsFalse}
use Rattle.st_model.specs.declared.tree.Tree.{Tree}
use Rattle.st_model.specs.Arborescence.{IsTree, cost}
use Rattle.st_model.specs.Branch.{ReachesAsTold}
use Rattle.st_model.specs.Terminals.{NobodyPays}
use Rattle.lift_back.specs.State.{State, IsTreeOf}
use Rattle.log_format.specs.Accepts.{left_over}
use Rattle.log_format.specs.Text.{IsWritablePacking}
use Rattle.search_core.specs.declared.gathered.Gathered.{Gathered}
use Rattle.search_core.specs.declared.gathered.Segment.{Segment}
use Rattle.search_core.specs.Complete.{AllPackings, IsAtVertex, IsComplete, IsFinished, least_found, records}
use Rattle.twice_tree.specs.Twice.{IsWithinTwice}
use Rattle.steiner_top.specs.Left.{IsBestOf}
use Rattle.steiner_top.proofs.WithinTwice.{best_within}

left_tree : (s : State) (t : Tree) → IsTree s.instance t → ReachesAsTold (left_over s) t → IsTreeOf s t
left_tree s t is_tree reaches = record { tree = is_tree; avoids = reaches.outside }

-- a search that began with the cost of a tree that is left, and the cheapest of this tree and those that it found
pub best_of_search : (s : State) (start tree : Tree) (nodes : ℕ) (links : Bool) (G : Gathered) (segments : List Segment) → segments ≡ G.segments
    → IsTree s.instance start → ReachesAsTold (left_over s) start → IsTree s.instance tree → ReachesAsTold (left_over s) tree → cost s.instance tree ≡ least_found s.instance (cost s.instance start) segments
    → IsComplete G s.instance (left_over s) (cost s.instance start) nodes → IsFinished G s.instance (left_over s) (cost s.instance start) nodes → (IsFalse links → All IsAtVertex (records G)) → AllPackings IsWritablePacking G → (NobodyPays s.instance → IsWithinTwice s.instance start)
    → IsBestOf s nodes links (record { tree = tree; search = record { close = 0; start = cost s.instance start; budget = nodes; gathered = G } })
best_of_search s start tree nodes links G segments same is_start start_reaches is_tree reaches least complete finished sites writable near = record {
  is_left = left_tree s tree is_tree reaches;
  is_least = finished.least ∙ sym (least ∙ ap (least_found s.instance (cost s.instance start)) same);
  near = best_within s.instance start tree segments least near;
  searched = record {
    first = refl;
    budget_is = refl;
    start = (start, left_tree s start is_start start_reaches, refl);
    complete = complete;
    finished = finished;
    sites = sites;
  };
  writable = writable;
}
