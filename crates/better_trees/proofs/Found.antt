-- That a tree found later, or in a part of the branch, is better too.
use Rattle.std.proofs.Common.{ℕ, Option, None, Some, arith}
use Rattle.std.specs.Prelude.{IfSome}
use Rattle.st_model.specs.declared.branch.Branch.{Branch}
use Rattle.st_model.specs.declared.tree.Tree.{Tree}
use Rattle.st_model.specs.Branch.{ReachesAsTold}
use Rattle.st_model.specs.Network.{Network}
use Rattle.better_trees.specs.declared.price.Priced.{Priced}
use Rattle.better_trees.specs.Better.{IsBetter, later, least_after}
use Rattle.better_trees.specs.Part.{IsPartOf}

-- a better tree that was found, and the one found after it, if there is one: the later is better too
pub found_later : (I : Network) (B : Branch) (least : ℕ) (better more : Option Priced) → IfSome better (IsBetter I B least) → IfSome more (IsBetter I B (least_after least better)) → IfSome (later better more) (IsBetter I B least)
found_later I B least better None first h = first
found_later I B least None (Some p) first h = record { is_tree = h.is_tree; reaches = h.reaches; is_price = h.is_price; cheaper = h.cheaper }
found_later I B least (Some b) (Some p) first h = record { is_tree = h.is_tree; reaches = h.reaches; is_price = h.is_price; cheaper = omega (arith, h.cheaper, first.cheaper) }

-- a tree that reaches what a part says reaches what the whole says
pub reaches_in_whole : (R B : Branch) (t : Tree) → IsPartOf R B → ReachesAsTold B t → ReachesAsTold R t
reaches_in_whole R B t part reaches = record {
  inside = λ v h. reaches.inside v (part.inside v h);
  outside = λ v h. reaches.outside v (part.outside v h);
}

-- a better tree of a part is one of the whole
pub better_in_whole : (I : Network) (R B : Branch) (least : ℕ) (found : Option Priced) → IsPartOf R B → IfSome found (IsBetter I B least) → IfSome found (IsBetter I R least)
better_in_whole I R B least None part h = tt
better_in_whole I R B least (Some p) part h = record {
  is_tree = h.is_tree;
  reaches = reaches_in_whole R B p.tree part h.reaches;
  is_price = h.is_price;
  cheaper = h.cheaper;
}
