-- That the heavier of two packings extends what the first does.
use Rattle.std.proofs.Common.{◌≡◌, ℕ, ◌-◌, ◌≤◌, [], Option, None, Some, inl, inr, refl, sym, subst, arith}
use Rattle.std.specs.Prelude.{IfSome}
use Rattle.std.proofs.lemmas.List.Elements.{All-nil}
use Rattle.st_model.specs.declared.branch.Branch.{Branch}
use Rattle.st_model.specs.Ground.{ground}
use Rattle.st_model.specs.Branch.{IsVertexSet, all_trees, open_link}
use Rattle.st_model.proofs.Branches.{IsBranch-deciding, IsVertexSet-nil}
use Rattle.st_model.specs.Lists.{sum_to}
use Rattle.st_model.proofs.Sums.{sum_to_none}
use Rattle.st_model.specs.Network.{Network}
use Rattle.graph_store.specs.Graph.{Graph}
use Rattle.cut_packing.specs.declared.cut.Cut.{Cut}
use Rattle.cut_packing.specs.declared.packing.Packing.{Packing}
use Rattle.cut_packing.specs.Packing.{CutFits, Fits, outside_pays, base_weight}
use Rattle.dual_ascent.specs.declared.ascent.Ascent.{Ascent}
use Rattle.dual_ascent.specs.declared.ascent.Ascent.TheVariants.{Full, Reached}
use Rattle.dual_ascent.specs.declared.extension.Extension.{Extension}
use Rattle.dual_ascent.specs.Extension.{IsExtension, IsExtended, IsRootFor, IsStart, packing_of}
use Rattle.log_format.specs.Text.{IsWritableCut}
use Rattle.node_work.specs.Node.{IsWritableNode, no_cuts}
use Rattle.node_work.specs.Raising.{IsExtendable, IsExtendedTo, IsHeavier, IsNoWorse}

-- without its cuts a packing weighs no more
lighter_without : (I : Network) (B : Branch) (P : Packing) → base_weight I B no_cuts ≤ base_weight I B P
lighter_without I B P = omega arith

-- what extends the one packing extends the other, where it is no lighter than that
extends_other : (I : Network) (B : Branch) (E P new : Packing) (root : ℕ) → base_weight I B P ≤ base_weight I B new → IsExtended I B E new root → IsExtended I B P new root
extends_other I B E P new root heavy e = record { rooted = e.rooted; fits = e.fits; no_lighter = heavy; sets = e.sets; few = e.few }

-- the first of two ascents is no lighter than the packing that it began with
first_heavy : (I : Network) (B : Branch) (P : Packing) (root target : ℕ) (first : Ascent) → IsExtension I B P root target first → base_weight I B P ≤ base_weight I B (packing_of first)
first_heavy I B P root target (Full new) h = h.0.no_lighter
first_heavy I B P root target (Reached new) h = h.0.no_lighter

-- what extends a packing that weighs no more than what is asked for extends another one such, where it is no worse than what extends that
second_extends : (I : Network) (B : Branch) (P E : Packing) (root least : ℕ) (first second : Ascent) → base_weight I B E ≤ least → base_weight I B P ≤ least
    → IsExtension I B P root (least - base_weight I B P) first → IsExtension I B E root (least - base_weight I B E) second → IsNoWorse I B first second
    → IsExtension I B P root (least - base_weight I B P) second
second_extends I B P E root least first (Full new) small light h s worse =
    let heavy = first_heavy I B P root (least - base_weight I B P) first h in
    (extends_other I B E P new root (omega (arith, heavy, worse)) s.0, omega (arith, s.1, small, light), s.2)
second_extends I B P E root least first (Reached new) small light h s worse =
    (extends_other I B E P new root (omega (arith, s.1, small, light)) s.0, omega (arith, s.1, small, light))

-- the second of two extensions, where it is no worse
pub other_extends : (I : Network) (g : Graph) (B : Branch) (P E : Packing) (root least : ℕ) (first second : Extension) → IsExtendable I B P root least → base_weight I B E ≤ least
    → IsExtendedTo I g B P root least first → IsExtendedTo I g B E root least second → IsNoWorse I B first.ascent second.ascent → IsExtendedTo I g B P root least second
other_extends I g B P E root least first second able small h s worse = record {
  extended = second_extends I B P E root least first.ascent second.ascent small able.light h.extended s.extended worse;
  raised = s.raised;
}

-- the heavier of two extensions, the second of which began without cuts
pub either_extends : (I : Network) (g : Graph) (B : Branch) (P : Packing) (root least : ℕ) (first second chosen : Extension) → IsExtendable I B P root least
    → IsExtendedTo I g B P root least first → IsExtendedTo I g B no_cuts root least second → IsHeavier I B first second chosen
    → IsExtendedTo I g B P root least chosen
either_extends I g B P root least first second chosen able h s (inl (is, lighter)) = subst (IsExtendedTo I g B P root least) (sym is) h
either_extends I g B P root least first second chosen able h s (inr (is, worse)) = subst (IsExtendedTo I g B P root least) (sym is)
    (other_extends I g B P no_cuts root least first second able (omega (arith, lighter_without I B P, able.light)) h s worse)

-- no cuts fit every branch
pub no_cuts_fit : (I : Network) (B : Branch) → Fits I B no_cuts
no_cuts_fit I B = record {
  root = refl;
  cuts = All-nil (CutFits I B);
  arcs = λ u v tail head. each_price (open_link I B u v);
  prizes = λ q vertex free. omega arith;
}
  where
    each_price : (price : Option ℕ) → IfSome price (λ p. 0 ≤ p)
    each_price None = tt
    each_price (Some p) = omega arith

-- what can be extended can be so without its cuts
pub bare_extendable : (I : Network) (B : Branch) (P : Packing) (root least : ℕ) → IsExtendable I B P root least → IsExtendable I B no_cuts root least
bare_extendable I B P root least able = record {
  start = record {
    branch = able.start.branch;
    required = able.start.required;
    fits = no_cuts_fit I B;
    sets = All-nil (λ (c : Cut). IsVertexSet I.n c.set);
  };
  rooted = record { vertex = able.rooted.vertex; certain = able.rooted.certain; same = inl refl };
  light = omega (arith, lighter_without I B P, able.light);
}

-- no cuts are a packing of all trees
pub all_start : (I : Network) → IsStart I all_trees no_cuts
all_start I = record {
  branch = IsBranch-deciding (ground I) [] [] (IsVertexSet-nil I.n) (IsVertexSet-nil I.n) (λ v h. absurd cc);
  required = λ v h. absurd cc;
  fits = no_cuts_fit I all_trees;
  sets = All-nil (λ (c : Cut). IsVertexSet I.n c.set);
}

-- and can be extended for a root
pub all_extendable : (I : Network) (root least : ℕ) → IsRootFor I all_trees no_cuts root → IsExtendable I all_trees no_cuts root least
all_extendable I root least rooted =
    let nothing : sum_to (outside_pays I all_trees) I.n ≡ 0 = sum_to_none I.n in
    record { start = all_start I; rooted = rooted; light = omega (arith, nothing) }

-- so that is the node of all trees
pub all_node : (I : Network) (id : ℕ) → IsWritableNode I (record { id = id; branch = all_trees; packing = no_cuts })
all_node I id =
    let start = all_start I in
    record {
      node = record { branch = start.branch; required = start.required; fits = start.fits };
      writable = record { root = tt; few_cuts = omega arith; cuts = All-nil IsWritableCut };
    }
