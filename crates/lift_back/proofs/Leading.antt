-- Trees lead back over one step more.
use Rattle.std.proofs.Common.{◌≡◌, ℕ, ◌+◌, List, [], ◌∷◌, ◌++◌, refl, sym, ap, subst, ◌∙◌, add-zero, length, take, ◌-◌, ◌<◌, arith, length-append, Bool, true, false, cond, get_or}
use Rattle.st_model.specs.Made.{is_between}
use Rattle.std.proofs.lemmas.List.{take-append-le, take_all, take_more}
use Rattle.st_model.specs.declared.tree.Tree.{Tree}
use Rattle.st_model.specs.Network.{Network}
use Rattle.st_model.specs.Arborescence.{IsTree, cost}
use Rattle.lift_back.specs.declared.undo.Undo.{Undo}
use Rattle.lift_back.specs.declared.undo.Undo.TheVariants.{Keep, Past, Leaf}
use Rattle.lift_back.specs.State.{State, IsState, IsTreeOf, worth, whole}
use Rattle.lift_back.specs.Steps.{TakesThrough, TakesForced}
use Rattle.lift_back.specs.Undoing.{arcs_before, arcs_at_first, led_past, tree_at_first, LeadBack, FitsThrough}
use Rattle.lift_back.proofs.Returning.{LeadsBack, Keeps, leads_back_as_is, through_keeps}
use Rattle.lift_back.proofs.ForcedBack.{forced_leads_back}
use Rattle.lift_back.proofs.ThroughBack.{through_leads_back}

-- the step that was taken last is undone first
pub arcs_pushed : (undos : List Undo) (undo : Undo) (arcs : List (ℕ × ℕ)) → arcs_at_first (undos ++ undo ∷ []) arcs ≡ arcs_at_first undos (arcs_before undo arcs)
arcs_pushed [] undo arcs = refl
arcs_pushed (first ∷ undos) undo arcs = ap (arcs_before first) (arcs_pushed undos undo arcs)

-- the tree before the step
abbrev pub tree_before : Undo → Tree → Tree
tree_before undo t = record { start = t.start; arcs = arcs_before undo t.arcs }

pub lead_on : (first : Network) (undos : List Undo) (undo : Undo) (before after : State) → LeadBack first undos before → ((t : Tree) → IsTreeOf after t → LeadsBack before after t (tree_before undo t)) → LeadBack first (undos ++ undo ∷ []) after
lead_on first undos undo before after lead step t tree =
    let back = step t tree in
    let earlier = lead (tree_before undo t) back.tree in
    let same : tree_at_first undos (tree_before undo t) ≡ tree_at_first (undos ++ undo ∷ []) t = λ j. record { start = t.start; arcs = sym (arcs_pushed undos undo t.arcs) j } in
    subst (λ (x : Tree). IsTree first x × (cost first x ≡ worth after t)) same (earlier.0, earlier.1 ∙ back.worth)

-- a step that leaves all trees as they are needs nothing
pub lead_as_is : (first : Network) (undos : List Undo) (before after : State) → LeadBack first undos before → Keeps before after → LeadBack first undos after
lead_as_is first undos before after lead keeps t tree =
    let back = leads_back_as_is before after t keeps tree in
    let earlier = lead t back.tree in
    (earlier.0, earlier.1 ∙ back.worth)

pub lead_through : (first : Network) (undos : List Undo) (undo : Undo) (before after : State) (v a b x y : ℕ) → IsState before → LeadBack first undos before → TakesThrough before after v a b x y → FitsThrough before v a b (x + y) undo → LeadBack first (undos ++ undo ∷ []) after
lead_through first undos Keep before after v a b x y state lead step (known, is, cheap) = lead_on first undos Keep before after lead (λ t tree. leads_back_as_is before after t (through_keeps before after v a b x y known step is cheap) tree)
lead_through first undos (Past w p q) before after v a b x y state lead step (w_is, p_is, q_is, cheaper) =
    let same : Past v a b ≡ Past w p q = λ j. Past (sym w_is j) (sym p_is j) (sym q_is j) in
    subst (λ (u : Undo). LeadBack first (undos ++ u ∷ []) after) same (lead_on first undos (Past v a b) before after lead (λ t tree. through_leads_back before after t v a b x y state step cheaper tree))
lead_through first undos (Leaf w n) before after v a b x y state lead step fits = absurd fits

pub lead_forced : (first : Network) (undos : List Undo) (before after : State) (v u c : ℕ) → IsState before → LeadBack first undos before → TakesForced before after v u c → LeadBack first (undos ++ Leaf v u ∷ []) after
lead_forced first undos before after v u c state lead step = lead_on first undos (Leaf v u) before after lead (λ t tree. forced_leads_back before after t v u c state step tree)

-- at first each tree is its own
pub lead_whole : (I : Network) → LeadBack I [] (whole I)
lead_whole I t tree = (tree.tree, sym (add-zero (cost I t)))

-- what was pushed last is dropped
pub dropped : (undos pushed left : List Undo) (undo : Undo) (n : ℕ) → pushed ≡ undos ++ undo ∷ [] → n ≡ length pushed → left ≡ take (n - 1) pushed → left ≡ undos
dropped undos pushed left undo n is count rest =
    let long = length-append undos (undo ∷ []) in
    let same = ap length is in
    let first : n - 1 ≡ length undos + 0 = omega arith in
    rest ∙ (ap (take (n - 1)) is ∙ (take-append-le (n - 1) undos (undo ∷ []) (omega arith) ∙ take_all (n - 1) undos (omega arith)))

-- arcs are led past one after another
pub led_past-append : (v a b : ℕ) (xs ys : List (ℕ × ℕ)) → led_past v a b (xs ++ ys) ≡ led_past v a b xs ++ led_past v a b ys
led_past-append v a b [] ys = refl
led_past-append v a b (arc ∷ xs) ys = by_test (is_between (a, b) arc.0 arc.1) (led_past-append v a b xs ys)
  where
    by_test : (p : Bool) → led_past v a b (xs ++ ys) ≡ led_past v a b xs ++ led_past v a b ys → cond p ((arc.0, v) ∷ (v, arc.1) ∷ led_past v a b (xs ++ ys)) (arc ∷ led_past v a b (xs ++ ys)) ≡ cond p ((arc.0, v) ∷ (v, arc.1) ∷ led_past v a b xs) (arc ∷ led_past v a b xs) ++ led_past v a b ys
    by_test true rest = ap (λ l. (arc.0, v) ∷ (v, arc.1) ∷ l) rest
    by_test false rest = ap (λ l. arc ∷ l) rest

-- one undo less is left
pub undo_less : (undos : List Undo) (undo : Undo) (k : ℕ) (old new all : List (ℕ × ℕ)) → k < length undos → undo ≡ get_or undos k undo → arcs_at_first (take (k + 1) undos) old ≡ all → new ≡ arcs_before undo old → arcs_at_first (take k undos) new ≡ all
undo_less undos undo k old new all within is same new_is =
    ap (arcs_at_first (take k undos)) new_is ∙ (sym (arcs_pushed (take k undos) undo old) ∙ (ap (λ (l : List Undo). arcs_at_first l old) (sym (take_more undos k undo within ∙ ap (λ x. take k undos ++ x ∷ []) (sym is))) ∙ same))
