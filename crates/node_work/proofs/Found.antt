-- What is found beside a full packing, in a part of the branch and after repair in the branch itself.
use Rattle.std.proofs.Common.{◌≡◌, ℕ, ◌-◌, ◌^◌, ◌<◌, ◌≤◌, Bool, true, false, ◌||◌, inl, inr, [], Option, None, Some, refl, subst, arith}
use Rattle.std.specs.Prelude.{IsTrue, IfSome, MatchOption}
use Rattle.std.proofs.lemmas.Bool.{or_left, or_right}
use Rattle.std.proofs.lemmas.List.Elements.{All-nil}
use Rattle.st_model.specs.declared.branch.Branch.{Branch}
use Rattle.st_model.specs.Branch.{IsBranch, IsVertexSet, LeavesRequired, is_certain}
use Rattle.st_model.specs.Lists.{has}
use Rattle.st_model.specs.Network.{Network, IsInstance, is_required}
use Rattle.cut_packing.specs.declared.cut.Cut.{Cut}
use Rattle.cut_packing.specs.declared.packing.Packing.{Packing}
use Rattle.cut_packing.specs.Packing.{Fits, IsRoot, base_weight}
use Rattle.dual_ascent.specs.declared.ascent.Ascent.{Ascent}
use Rattle.dual_ascent.specs.declared.ascent.Ascent.TheVariants.{Full, Reached}
use Rattle.dual_ascent.specs.Extension.{IsExtension, IsRootFor, IsStart}
use Rattle.branching.specs.declared.node.Node.{Node}
use Rattle.better_trees.specs.Better.{IsBetter, later, least_after}
use Rattle.better_trees.specs.Part.{IsPartOf}
use Rattle.node_work.specs.declared.step.Finding.{Finding}
use Rattle.better_trees.proofs.Found.{found_later}
use Rattle.better_trees.specs.declared.price.Priced.{Priced}
use Rattle.node_work.specs.Finding.{IsClosedBy, IsFinding, together}
use Rattle.node_work.specs.Node.{IsWritableNode, no_cuts}
use Rattle.node_work.specs.Raising.{IsExtendable}
use Rattle.node_work.proofs.Heavier.{no_cuts_fit}
use Rattle.node_work.proofs.Writing.{writable_packing}

-- who is certain in a branch is so in a part of it
still_certain : (I : Network) (B part : Branch) (v : ℕ) → IsPartOf B part → IsTrue (is_certain I B v) → IsTrue (is_certain I part v)
still_certain I B part v is_part h = by_case (is_required I v) refl h
  where
    by_case : (r : Bool) → is_required I v ≡ r → (r || has B.inside v) ≡ true → (is_required I v || has part.inside v) ≡ true
    by_case true is here = or_left (is_required I v) (has part.inside v) is
    by_case false is here = or_right (is_required I v) (has part.inside v) (is_part.inside v here)

-- cuts can be raised from nothing in a part of a branch
pub part_extendable : (I : Network) (B part : Branch) (P : Packing) (root least : ℕ) → IsBranch I part → LeavesRequired I part → IsPartOf B part
    → IsRootFor I B P root → base_weight I part no_cuts < least → IsExtendable I part no_cuts root least
part_extendable I B part P root least branch required is_part rooted light = record {
  start = record {
    branch = branch;
    required = required;
    fits = no_cuts_fit I part;
    sets = All-nil (λ (c : Cut). IsVertexSet I.n c.set);
  };
  rooted = record { vertex = rooted.vertex; certain = still_certain I B part root is_part rooted.certain; same = inl refl };
  light = omega (arith, light);
}

-- a packing that fits with its root can be extended for that
pub fitting_root : (I : Network) (B : Branch) (P : Packing) (root : ℕ) → Fits I B P → P.root ≡ Some root → IsRootFor I B P root
fitting_root I B P root fits is =
    let at : IsRoot I B P.cuts root = subst (λ (o : Option ℕ). MatchOption o (P.cuts ≡ []) (IsRoot I B P.cuts)) is fits.root in
    record { vertex = at.vertex; certain = at.certain; same = inr is }

-- a packing that reached the least cost known closes the branch
pub reached_closes : (I : Network) (B : Branch) (P : Packing) (root least : ℕ) (ascent : Ascent) (found : Option Packing) → IsInstance I → base_weight I B P ≤ least → least < 2 ^ 64
    → IsExtension I B P root (least - base_weight I B P) ascent → IfSome found (λ new. ascent ≡ Reached new) → IfSome found (IsClosedBy I B least)
reached_closes I B P root least ascent None instance light small e is = tt
reached_closes I B P root least ascent (Some new) instance light small e is =
    let r : IsExtension I B P root (least - base_weight I B P) (Reached new) = subst (IsExtension I B P root (least - base_weight I B P)) is e in
    (record { fits = r.0.fits; weighs = omega (arith, light, r.1) }, writable_packing I B new instance r.0.fits r.0.sets r.0.few (omega (arith, light, small, r.1)))

-- a full packing that an ascent gave can be extended as well
pub full_start : (I : Network) (N : Node) (P : Packing) (root target : ℕ) → IsWritableNode I N → IsExtension I N.branch N.packing root target (Full P) → IsStart I N.branch P
full_start I N P root target h e = record { branch = h.node.branch; required = h.node.required; fits = e.0.fits; sets = e.0.sets }

pub full_root : (I : Network) (N : Node) (P : Packing) (root target : ℕ) → IsRootFor I N.branch N.packing root → IsExtension I N.branch N.packing root target (Full P) → IsRootFor I N.branch P root
full_root I N P root target rooted e = record { vertex = rooted.vertex; certain = rooted.certain; same = inr e.0.rooted }

-- what is found after a better tree is found beside the packing
pub found_together : (I : Network) (B : Branch) (least : ℕ) (better : Option Priced) (f : Finding) → IfSome better (IsBetter I B least) → IsFinding I B (least_after least better) f → IsFinding I B least (together better f)
found_together I B least better f first h = record { tree = found_later I B least better f.better first h.tree; closes = closes f.better h.closes }
  where
    closes : (more : Option Priced) → IfSome f.closing (IsClosedBy I B (least_after (least_after least better) more)) → IfSome f.closing (IsClosedBy I B (least_after least (later better more)))
    closes None h = h
    closes (Some p) h = h
