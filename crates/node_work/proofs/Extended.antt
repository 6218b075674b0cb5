-- What an ascent makes of a node's packing.
use Rattle.std.proofs.Common.{ℕ, Bool, ◌-◌, ◌^◌, ◌<◌, ◌≤◌, Option, None, Some, arith}
use Rattle.std.specs.Prelude.{IfSome}
use Rattle.st_model.specs.declared.split_at.SplitAt.{SplitAt}
use Rattle.st_model.specs.Network.{Network, IsInstance}
use Rattle.cut_packing.specs.declared.packing.Packing.{Packing}
use Rattle.cut_packing.specs.Packing.{base_weight, weight}
use Rattle.dual_ascent.specs.declared.ascent.Ascent.TheVariants.{Full, Reached}
use Rattle.dual_ascent.specs.Extension.{IsExtension}
use Rattle.branching.specs.declared.node.Node.{Node}
use Rattle.better_trees.specs.Better.{IsBetter, least_after}
use Rattle.node_work.specs.declared.step.End.{End}
use Rattle.node_work.specs.declared.step.End.TheVariants.{Close, Split}
use Rattle.better_trees.specs.declared.price.Priced.{Priced}
use Rattle.node_work.specs.declared.step.Step.{Step}
use Rattle.node_work.specs.Node.{IsWritableNode}
use Rattle.node_work.specs.Step.{IsEnd, IsStep, SplitsAt}
use Rattle.node_work.proofs.Writing.{writable_packing}

-- a node whose extended packing weighs enough closes by it
pub reached_step : (I : Network) (N : Node) (P : Packing) (root least : ℕ) (links : Bool) (better : Option Priced) → IsInstance I → weight I N.branch N.packing < least → least < 2 ^ 64
    → IfSome better (IsBetter I N.branch least) → IsExtension I N.branch N.packing root (least - base_weight I N.branch N.packing) (Reached P) → IsStep I N least links (record { better = better; end = Close P })
reached_step I N P root least links better instance light small cheap e = record {
  tree = cheap;
  ends = (
    record { fits = e.0.fits; weighs = enough better cheap },
    writable_packing I N.branch P instance e.0.fits e.0.sets e.0.few (omega (arith, light, small, e.1)),
  );
}
  where
    enough : (found : Option Priced) → IfSome found (IsBetter I N.branch least) → least_after least found ≤ weight I N.branch P
    enough None _ = omega (arith, light, e.1)
    enough (Some p) h = omega (arith, light, e.1, h.cheaper)

-- the node with a full packing
pub full_node : (I : Network) (N : Node) (P : Packing) (root least : ℕ) → IsInstance I → IsWritableNode I N → weight I N.branch N.packing < least → least < 2 ^ 64
    → IsExtension I N.branch N.packing root (least - base_weight I N.branch N.packing) (Full P) → IsWritableNode I (record { id = N.id; branch = N.branch; packing = P })
full_node I N P root least instance h light small e = record {
  node = record { branch = h.node.branch; required = h.node.required; fits = e.0.fits };
  writable = writable_packing I N.branch P instance e.0.fits e.0.sets e.0.few (omega (arith, light, small, e.1));
}

-- how a node ends with a heavier packing, so it ends
pub ends_so : (I : Network) (N : Node) (P : Packing) (least : ℕ) (links : Bool) (step : Step) → base_weight I N.branch N.packing ≤ base_weight I N.branch P
    → IsStep I (record { id = N.id; branch = N.branch; packing = P }) least links step → IsStep I N least links step
ends_so I N P least links step heavier s = record { tree = s.tree; ends = by_case step.end s.ends }
  where
    split_so : (M : Node) (at : SplitAt) → SplitsAt I (record { id = N.id; branch = N.branch; packing = P }) (least_after least step.better) links M at → SplitsAt I N (least_after least step.better) links M at
    split_so M at h = record {
      same = h.same;
      node = h.node;
      no_lighter = omega (arith, heavier, h.no_lighter);
      split = h.split;
      allowed = h.allowed;
      bounded = h.bounded;
    }

    by_case : (end : End) → IsEnd I (record { id = N.id; branch = N.branch; packing = P }) (least_after least step.better) links end
        → IsEnd I N (least_after least step.better) links end
    by_case (Close Q) h = h
    by_case (Split M at plan) h = split_so M at h
