-- What an ascent raises, and that a packing that is raised again from some of its cuts extends what it did.
use Rattle.std.proofs.Common.{◌≡◌, ℕ, ◌-◌, ◌≤◌, ◌⊎◌, inl, inr, Option, None, Some, sym, ◌∙◌, subst, arith}
use Rattle.std.specs.Prelude.{IfSome}
use Rattle.std.specs.Option.{unwrap_or}
use Rattle.st_model.specs.declared.branch.Branch.{Branch}
use Rattle.st_model.specs.Network.{Network}
use Rattle.graph_store.specs.Graph.{Graph}
use Rattle.cut_packing.specs.declared.packing.Packing.{Packing}
use Rattle.cut_packing.specs.Packing.{base_weight}
use Rattle.dual_ascent.specs.declared.ascent.Ascent.{Ascent}
use Rattle.dual_ascent.specs.declared.ascent.Ascent.TheVariants.{Full, Reached}
use Rattle.dual_ascent.specs.declared.extension.Extension.{Extension}
use Rattle.dual_ascent.specs.Extension.{IsExtension, packing_of}
use Rattle.dual_ascent.specs.Laws.{IsCharged}
use Rattle.dual_ascent.specs.Left.{AreEndsOf}
use Rattle.dual_ascent.proofs.Extended.{extended_sets}
use Rattle.node_work.specs.Raising.{IsExtendedTo, IsNoWorse, IsRaised, IsRefined}
use Rattle.node_work.proofs.Heavier.{other_extends}

-- it weighs no more than what was asked for
extended_light : (I : Network) (B : Branch) (P : Packing) (root least : ℕ) (a : Ascent) → base_weight I B P ≤ least → IsExtension I B P root (least - base_weight I B P) a → base_weight I B (packing_of a) ≤ least
extended_light I B P root least (Full new) light h = omega (arith, light, h.1)
extended_light I B P root least (Reached new) light h = omega (arith, light, h.1)

-- what extends a packing of the graph's branch that weighs no more than what is asked for
pub extended_to : (I : Network) (g : Graph) (B : Branch) (P : Packing) (root least target : ℕ) (e : Extension) → g.network ≡ I → base_weight I B P ≤ least → target ≡ least - base_weight I B P
    → IsExtension g.network B P root target e.ascent → e.left.arcs.root ≡ root → IsCharged g B (packing_of e.ascent) e.left.arcs e.left.twins → AreEndsOf e.left.arcs e.left.twins
    → IsExtendedTo I g B P root least e
extended_to I g B P root least target e network light is_target extends is_root charged ends =
    let to_least = subst (λ (t : ℕ). IsExtension g.network B P root t e.ascent) is_target extends in
    let here = subst (λ (J : Network). IsExtension J B P root (least - base_weight I B P) e.ascent) network to_least in
    record {
      extended = here;
      raised = record {
        rooted = is_root;
        charged = charged;
        ends = ends;
        sets = extended_sets I B P root (least - base_weight I B P) e.ascent here;
        light = extended_light I B P root least e.ascent light here;
      };
    }

-- what is no lighter is no worse
no_worse : (I : Network) (B : Branch) (first second : Ascent) → base_weight I B (packing_of first) ≤ base_weight I B (packing_of second) → IsNoWorse I B first second
no_worse I B first (Full new) heavy = heavy
no_worse I B first (Reached new) heavy = tt

-- each extension that was raised refines itself
pub refined_itself : (I : Network) (g : Graph) (B : Branch) (root least : ℕ) (e : Extension) → IsRaised I g B root least e → IsRefined I g B root least e e
refined_itself I g B root least e raised = record { extends = λ P able h. h; raised = raised }

-- what refines an extension that refines another one
pub refined_on : (I : Network) (g : Graph) (B : Branch) (root least : ℕ) (first e last : Extension) → IsRefined I g B root least first e → IsRefined I g B root least e last
    → IsRefined I g B root least first last
refined_on I g B root least first e last r s = record { extends = λ P able h. s.extends P able (r.extends P able h); raised = s.raised }

-- what is raised again from a packing that is no heavier than an extension's refines that, where it is no lighter
pub raised_again_by : (I : Network) (g : Graph) (B : Branch) (E : Packing) (root least target at : ℕ) (raised e : Extension) → g.network ≡ I → IsRaised I g B root least e
    → base_weight g.network B E ≤ base_weight g.network B (packing_of e.ascent) → at ≡ root → target ≡ least - base_weight I B E → IsExtension g.network B E at target raised.ascent
    → raised.left.arcs.root ≡ at → IsCharged g B (packing_of raised.ascent) raised.left.arcs raised.left.twins → AreEndsOf raised.left.arcs raised.left.twins
    → base_weight I B (packing_of e.ascent) ≤ base_weight I B (packing_of raised.ascent) → IsRefined I g B root least e raised
raised_again_by I g B E root least target at raised e network r lighter is_root is_target extends root_is charged ends heavy =
    let lighter_here : base_weight I B E ≤ base_weight I B (packing_of e.ascent) = subst (λ (J : Network). base_weight J B E ≤ base_weight J B (packing_of e.ascent)) network lighter in
    let small : base_weight I B E ≤ least = omega (arith, lighter_here, r.light) in
    let for_root = subst (λ (x : ℕ). IsExtension g.network B E x target raised.ascent) is_root extends in
    let h = extended_to I g B E root least target raised network small is_target for_root (root_is ∙ is_root) charged ends in
    record {
      extends = λ P able s. other_extends I g B P E root least e raised able small s h (no_worse I B e.ascent raised.ascent heavy);
      raised = h.raised;
    }

-- one of two holds what both hold, and the one there is, or else the first
pub either_of : {A : Type 0} (P : A → Type 0) (best more chosen : Option A) → IfSome best P → IfSome more P → (chosen ≡ best) ⊎ (chosen ≡ more) → IfSome chosen P
either_of {A = A} P best more chosen h k (inl is) = subst (λ (o : Option A). IfSome o P) (sym is) h
either_of {A = A} P best more chosen h k (inr is) = subst (λ (o : Option A). IfSome o P) (sym is) k

pub or_first : {A : Type 0} (P : A → Type 0) (best : Option A) (first : A) → IfSome best P → P first → P (unwrap_or best first)
or_first P None first h k = k
or_first P (Some x) first h k = h
