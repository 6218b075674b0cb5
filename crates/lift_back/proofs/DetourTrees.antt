-- A link that a walk stands in for: for each tree before it goes there is one after.
use Rattle.std.proofs.Common.{◌≡◌, ℕ, ◌+◌, ◌≤◌, Bool, true, false, cond, not, List, [], ◌∷◌, ◌++◌, inl, inr, refl, sym, ap, ◌∙◌, subst, arith}
use Rattle.std.specs.Prelude.{◌||◌, IsTrue, IsFalse, IsSome, is_some, filter}
use Rattle.std.specs.List.{AllByRecursion}
use Rattle.std.proofs.lemmas.List.Elements.{recursion_from_All}
use Rattle.std.proofs.lemmas.Bool.{or_cases, false_from_ne_true, false≢true, not-true, not_from_false}
use Rattle.std.proofs.lemmas.Bool.Decides.{nat_tests}
use Rattle.st_model.specs.declared.tree.Tree.{Tree}
use Rattle.st_model.specs.Lists.{has, total}
use Rattle.st_model.specs.Network.{Network, IsVertex, link, is_needed, is_required, prize}
use Rattle.st_model.specs.Arborescence.{reached, arc_cost, IsArborescence}
use Rattle.st_model.specs.Made.{is_between, has_pair}
use Rattle.st_model.proofs.Distinct.{between-ends, link-comm}
use Rattle.st_model.proofs.Sums.{total-append, total_filter_le}
use Rattle.st_model.proofs.ThinGrowth.{linked-vertices}
use Rattle.lift_back.specs.State.{State, IsState, IsTreeOf, worth}
use Rattle.lift_back.specs.Detours.{walk, StaysWithin}
use Rattle.lift_back.specs.Steps.{TakesDetour}
use Rattle.lift_back.specs.Laws.{HasTreeWithin}
use Rattle.lift_back.proofs.Along.{Agrees}
use Rattle.lift_back.proofs.Trees.{IsGrownOf, grown_of, all_along, all_append, all_parts, all_then, all_kept, arcs_are, IsArc, grows_there, total_within, no_worse}
use Rattle.lift_back.proofs.Skipping.{reached_stays}
use Rattle.lift_back.proofs.Past.{between_cost}
use Rattle.lift_back.proofs.PendantTrees.{same_cost}

-- a piece of a walk that leads from one side to the other for little enough
pub record Bridges (I : Network) (S : ℕ → Bool) (P : ℕ × ℕ → Type 0) (limit from to : ℕ) (piece : List (ℕ × ℕ)) : Type 0 where
  pub here : IsTrue (S from)
  pub there : IsFalse (S to)
  pub all : AllByRecursion P piece
  pub cost : total (arc_cost I) piece ≤ limit
  pub joins : (T : ℕ → Bool) → Agrees T piece → T from ≡ T to

-- from one milestone to another: both are ends of the walk or required vertices
abbrev pub SomeBridge : Network → (ℕ → Bool) → (ℕ → Type 0) → (ℕ × ℕ → Type 0) → ℕ → Type 0
SomeBridge I S M P limit = (from : ℕ) × (to : ℕ) × (piece : List (ℕ × ℕ)) × M from × M to × Bridges I S P limit from to piece

-- a walk so far, since a milestone on this side
pub record IsUnderWay (I : Network) (S : ℕ → Bool) (M : ℕ → Type 0) (P : ℕ × ℕ → Type 0) (paid from x : ℕ) (so_far : List (ℕ × ℕ)) : Type 0 where
  pub milestone : M from
  pub here : IsTrue (S from)
  pub all : AllByRecursion P so_far
  pub cost : total (arc_cost I) so_far ≡ paid
  pub joins : (T : ℕ → Bool) → Agrees T so_far → T from ≡ T x

-- one link more
further : (I : Network) (S : ℕ → Bool) (M : ℕ → Type 0) (P : ℕ × ℕ → Type 0) (paid from x y : ℕ) (so_far : List (ℕ × ℕ)) → IsUnderWay I S M P paid from x so_far → P (x, y) → IsUnderWay I S M P (paid + arc_cost I (x, y)) from y (so_far ++ (x, y) ∷ [])
further I S M P paid from x y so_far way one = record {
  milestone = way.milestone;
  here = way.here;
  all = all_append P so_far ((x, y) ∷ []) way.all (one, tt);
  cost = let cost = way.cost in let more = total-append (arc_cost I) so_far ((x, y) ∷ []) in omega arith;
  joins = λ T agrees. let parts = all_parts (λ pair. T pair.0 ≡ T pair.1) so_far ((x, y) ∷ []) agrees in way.joins T parts.0 ∙ parts.1.0;
}

-- a milestone on the other side is reached
arrived : (I : Network) (S : ℕ → Bool) (M : ℕ → Type 0) (P : ℕ × ℕ → Type 0) (limit paid from y : ℕ) (so_far : List (ℕ × ℕ)) → IsUnderWay I S M P paid from y so_far → paid ≤ limit → M y → IsFalse (S y) → SomeBridge I S M P limit
arrived I S M P limit paid from y so_far way within milestone other = (from, y, so_far, way.milestone, milestone, record { here = way.here; there = other; all = way.all; cost = let cost = way.cost in omega arith; joins = way.joins })

-- a walk whose pieces stay within the limit and that leads from one side to the other has a piece that does
pub bridge : (I : Network) (S : ℕ → Bool) (M : ℕ → Type 0) (P : ℕ × ℕ → Type 0) (limit paid from x b : ℕ) (so_far : List (ℕ × ℕ)) (inner : List ℕ) → IsUnderWay I S M P paid from x so_far → AllByRecursion P (walk x (inner ++ b ∷ [])) → StaysWithin I limit paid (walk x (inner ++ b ∷ [])) → ((pair : ℕ × ℕ) → P pair → IsTrue (is_required I pair.1) → M pair.1) → M b → IsFalse (S b) → SomeBridge I S M P limit
bridge I S M P limit paid from x b so_far [] way all within milestone m_b s_b = arrived I S M P limit (paid + arc_cost I (x, b)) from b (so_far ++ (x, b) ∷ []) (further I S M P paid from x b so_far way all.0) within.0 m_b s_b
bridge I S M P limit paid from x b so_far (y ∷ inner) way all within milestone m_b s_b =
    by_test (is_required I y) (S y) refl refl within.1
    (λ m_y s_y rest. bridge I S M P limit 0 y y b [] inner (record { milestone = m_y; here = s_y; all = tt; cost = refl; joins = λ T agrees. refl }) all.1 rest milestone m_b s_b)
    (λ rest. bridge I S M P limit (paid + arc_cost I (x, y)) from y b (so_far ++ (x, y) ∷ []) inner (further I S M P paid from x y so_far way all.0) all.1 rest milestone m_b s_b)
  where
    by_test : (p q : Bool) → is_required I y ≡ p → S y ≡ q → StaysWithin I limit (cond p 0 (paid + arc_cost I (x, y))) (walk y (inner ++ b ∷ [])) → (M y → IsTrue (S y) → StaysWithin I limit 0 (walk y (inner ++ b ∷ [])) → SomeBridge I S M P limit) → (StaysWithin I limit (paid + arc_cost I (x, y)) (walk y (inner ++ b ∷ [])) → SomeBridge I S M P limit) → SomeBridge I S M P limit
    by_test false q p_is q_is rest anew on = on rest
    by_test true true p_is q_is rest anew on = anew (milestone (x, y) all.0 p_is) q_is rest
    by_test true false p_is q_is rest anew on = arrived I S M P limit (paid + arc_cost I (x, y)) from y (so_far ++ (x, y) ∷ []) (further I S M P paid from x y so_far way all.0) within.0 (milestone (x, y) all.0 p_is) q_is

-- whether a pair is another one than a-b
abbrev pub is_but : ℕ → ℕ → ℕ × ℕ → Bool
is_but a b pair = not (is_between (a, b) pair.0 pair.1)

-- what agrees on all arcs but a-b agrees on all, where it agrees on a and b
but_agrees : (S : ℕ → Bool) (a b : ℕ) (arcs : List (ℕ × ℕ)) → S a ≡ S b → Agrees S (filter (is_but a b) arcs) → Agrees S arcs
but_agrees S a b [] same agrees = tt
but_agrees S a b (arc ∷ arcs) same agrees = by_test (is_between (a, b) arc.0 arc.1) refl agrees (but_agrees S a b arcs same)
  where
    by_test : (p : Bool) → is_between (a, b) arc.0 arc.1 ≡ p → Agrees S (cond (not p) (arc ∷ filter (is_but a b) arcs) (filter (is_but a b) arcs)) → (Agrees S (filter (is_but a b) arcs) → Agrees S arcs) → Agrees S (arc ∷ arcs)
    by_test false is all rest = (all.0, rest all.1)
    by_test true is all rest = (
      elim (between-ends (a, b) arc.0 arc.1 is) [
        | inl e ↦ ap S (sym e.0) ∙ (same ∙ ap S e.1)
        | inr e ↦ ap S (sym e.1) ∙ (sym same ∙ ap S e.0)
      ],
      rest all,
    )

-- two pairs between the same ends
turned_between : (arc : ℕ × ℕ) (a b : ℕ) → is_between arc a b ≡ true → is_between (a, b) arc.0 arc.1 ≡ true
turned_between arc a b h = grind (arith, nat_tests)

-- the arcs but a-b cost less by that link
total_but : (I : Network) (a b : ℕ) (arcs : List (ℕ × ℕ)) → IsTrue (has_pair arcs a b) → arc_cost I (a, b) + total (arc_cost I) (filter (is_but a b) arcs) ≤ total (arc_cost I) arcs
total_but I a b [] there = absurd (false≢true there)
total_but I a b (arc ∷ arcs) there = by_test (is_between arc a b) refl there (total_but I a b arcs)
  where
    one_more : (p : Bool) → arc_cost I (a, b) + total (arc_cost I) (filter (is_but a b) arcs) ≤ total (arc_cost I) arcs → arc_cost I (a, b) + total (arc_cost I) (cond p (arc ∷ filter (is_but a b) arcs) (filter (is_but a b) arcs)) ≤ arc_cost I arc + total (arc_cost I) arcs
    one_more true h = omega arith
    one_more false h = omega arith

    by_test : (p : Bool) → is_between arc a b ≡ p → (p || has_pair arcs a b) ≡ true → (IsTrue (has_pair arcs a b) → arc_cost I (a, b) + total (arc_cost I) (filter (is_but a b) arcs) ≤ total (arc_cost I) arcs) → arc_cost I (a, b) + total (arc_cost I) (cond (is_but a b arc) (arc ∷ filter (is_but a b) arcs) (filter (is_but a b) arcs)) ≤ arc_cost I arc + total (arc_cost I) arcs
    by_test true is h rest =
        let same = between_cost I arc a b is in
        let fewer = total_filter_le (arc_cost I) (is_but a b) arcs in
        let out : is_but a b arc ≡ false = ap not (turned_between arc a b is) in
        rw out (omega arith)
    by_test false is h rest = one_more (is_but a b arc) (rest h)

-- the ends of a tree's own pair are reached
pair_ends : (I : Network) (r : List ℕ) (arcs : List (ℕ × ℕ)) (u w : ℕ) → AllByRecursion (IsArc I r) arcs → IsTrue (has_pair arcs u w) → IsTrue (has r u) × IsTrue (has r w)
pair_ends I r [] u w all there = absurd (false≢true there)
pair_ends I r (arc ∷ arcs) u w all there = elim (or_cases (is_between arc u w) (has_pair arcs u w) there) [
  | inl here ↦ elim (between-ends arc u w here) [
    | inl e ↦ (ap (has r) (sym e.0) ∙ all.0.tail, ap (has r) (sym e.1) ∙ all.0.head)
    | inr e ↦ (ap (has r) (sym e.1) ∙ all.0.head, ap (has r) (sym e.0) ∙ all.0.tail)
  ]
  | inr later ↦ pair_ends I r arcs u w all.1 later
]

-- arcs that don't use a-b are all others
unused_arcs : (a b : ℕ) (arcs : List (ℕ × ℕ)) → has_pair arcs a b ≡ false → AllByRecursion (λ arc. is_between (a, b) arc.0 arc.1 ≡ false) arcs
unused_arcs a b [] none = tt
unused_arcs a b (arc ∷ arcs) none = by_test (is_between arc a b) refl none (unused_arcs a b arcs)
  where
    other : is_between arc a b ≡ false → is_between (a, b) arc.0 arc.1 ≡ false
    other h = grind (arith, nat_tests)

    by_test : (p : Bool) → is_between arc a b ≡ p → (p || has_pair arcs a b) ≡ false → (has_pair arcs a b ≡ false → AllByRecursion (λ arc'. is_between (a, b) arc'.0 arc'.1 ≡ false) arcs) → AllByRecursion (λ arc'. is_between (a, b) arc'.0 arc'.1 ≡ false) (arc ∷ arcs)
    by_test false is h rest = (other is, rest h)
    by_test true is h rest = cc

-- a link of the walk, other than a-b
abbrev pub IsWalkLink : State → ℕ → ℕ → ℕ × ℕ → Type 0
IsWalkLink s a b pair = IsSome (link s.instance.links pair.0 pair.1) × IsFalse (is_between (a, b) pair.0 pair.1)

-- both ends of a link are there
pub linked_stays : (s : State) (u w : ℕ) → IsState s → IsSome (link s.instance.links u w) → IsFalse (has s.gone u) × IsFalse (has s.gone w)
linked_stays s u w state linked = (first u w linked, first w u (rw link-comm linked))
  where
    none : false ≡ true → ⊥
    none h = cc

    first : (y z : ℕ) → IsSome (link s.instance.links y z) → IsFalse (has s.gone y)
    first y z there = false_from_ne_true (has s.gone y) (λ gone. none (sym (ap is_some (state.alone y z gone)) ∙ there))

-- a tree of other links that reaches what the tree reached is one of what is left
but_no_worse : (before after : State) (t new : Tree) (a b : ℕ) (inner : List ℕ) (extra : List (ℕ × ℕ)) → IsState before → TakesDetour before after a b inner → IsTreeOf before t → IsTrue (has (reached t) a) → AllByRecursion (IsWalkLink before a b) extra → IsGrownOf after.instance (extra ++ filter (is_but a b) t.arcs) a new → total (arc_cost before.instance) extra + total (arc_cost before.instance) (filter (is_but a b) t.arcs) ≤ total (arc_cost before.instance) t.arcs → ((w : ℕ) → IsTrue (has (reached t) w) → IsTrue (has (reached new) w)) → HasTreeWithin after (worth before t)
but_no_worse before after t new a b inner extra state step tree a_there extra_links grown saved reaches =
    let I = before.instance in
    let J = after.instance in
    let arcs = filter (is_but a b) t.arcs in
    let kept = all_kept (IsArc I (reached t)) (is_but a b) t.arcs (arcs_are I (t.start ∷ []) t.arcs tree.tree.arborescence.grows) in
    let within = total_within (arc_cost J) (arc_cost I) arcs (all_then (λ arc. IsArc I (reached t) arc × IsTrue (is_but a b arc)) (λ arc. arc_cost J arc ≤ arc_cost I arc) arcs (λ arc is. at_most (same_cost I J arc (same arc (not-true (is_between (a, b) arc.0 arc.1) is.1)))) kept) in
    let extra_within = total_within (arc_cost J) (arc_cost I) extra (all_then (IsWalkLink before a b) (λ arc. arc_cost J arc ≤ arc_cost I arc) extra (λ arc is. at_most (same_cost I J arc (same arc is.1))) extra_links) in
    let S = λ (y : ℕ). not (has before.gone y) in
    let extra_stay = all_then (IsWalkLink before a b) (λ pair. S pair.0 ≡ S pair.1) extra (λ pair is. let ends = linked_stays before pair.0 pair.1 state is.0 in ap not (ends.0 ∙ sym ends.1)) extra_links in
    let arcs_stay = all_then (λ arc. IsArc I (reached t) arc × IsTrue (is_but a b arc)) (λ pair. S pair.0 ≡ S pair.1) arcs (λ arc is. ap not (reached_stays before t arc.0 tree is.0.tail ∙ sym (reached_stays before t arc.1 tree is.0.head))) kept in
    let cost = grown.cost in
    let parts = total-append (arc_cost J) extra arcs in
    let paid = step.becomes.paid in
    no_worse before after t new (record {
      count = step.becomes.count;
      arborescence = grown.arborescence;
      required = λ w vertex needed. reaches w (tree.tree.required w vertex (ap is_needed (sym (step.becomes.needed w vertex)) ∙ needed));
      avoids = λ w gone. false_from_ne_true (has (reached new) w) (λ there. false≢true (sym (ap not (sym (step.becomes.left_out w) ∙ gone)) ∙ grown.within S (not_from_false (has before.gone a) (reached_stays before t a tree a_there)) (all_append (λ pair. S pair.0 ≡ S pair.1) extra arcs extra_stay arcs_stay) w there));
      arcs = omega arith;
      missed = λ w vertex. record { prize = let need = ap prize (step.becomes.needed w vertex) in omega arith; still = λ there. inl (reaches w there) };
    })
  where
    at_most : {m n : ℕ} → m ≡ n → m ≤ n
    at_most e = omega arith

    same : (pair : ℕ × ℕ) → is_between (a, b) pair.0 pair.1 ≡ false → link after.instance.links pair.0 pair.1 ≡ link before.instance.links pair.0 pair.1
    same pair other = step.becomes.linked pair.0 pair.1 ∙ rw other refl

-- the two sides of a tree without a-b, joined by a piece: what is on the one side, and then what is on the other
two_sides : (I : Network) (t : Tree) (A N : ℕ → Bool) (a b to : ℕ) → IsArborescence I t → IsTrue (A a) → IsFalse (A b) → Agrees A (filter (is_but a b) t.arcs) → Agrees N (filter (is_but a b) t.arcs) → ((w : ℕ) → IsTrue (A w) → IsTrue (N w)) → IsTrue (has (reached t) to) → IsTrue (has (reached t) b) → IsFalse (A to) → IsTrue (N to) → (w : ℕ) → IsTrue (has (reached t) w) → IsTrue (N w)
two_sides I t A N a b to tree a_in b_out a_agrees n_agrees within to_there b_there to_out to_in w w_there =
    let agrees = but_agrees side a b t.arcs (rw (a_in, b_out) refl) (sides (filter (is_but a b) t.arcs) a_agrees n_agrees) in
    by_test (A w) refl (all_along I side t to w tree agrees to_there (rw to_out to_in) w_there)
  where
    side : ℕ → Bool
    side y = cond (A y) (N b) (N y)

    sides : (pairs : List (ℕ × ℕ)) → Agrees A pairs → Agrees N pairs → Agrees (λ y. cond (A y) (N b) (N y)) pairs
    sides [] first second = tt
    sides (pair ∷ pairs) first second = (ap (λ p. cond p (N b) (N pair.0)) first.0 ∙ ap (λ p. cond (A pair.1) (N b) p) second.0, sides pairs first.1 second.1)

    by_test : (p : Bool) → A w ≡ p → IsTrue (cond (A w) (N b) (N w)) → IsTrue (N w)
    by_test true is h = within w is
    by_test false is h = rw is at h

pub detour_keeps_the_least : (before after : State) (t : Tree) (a b : ℕ) (inner : List ℕ) → IsState before → TakesDetour before after a b inner → IsTreeOf before t → HasTreeWithin after (worth before t)
detour_keeps_the_least before after t a b inner state step tree = by_use (has_pair t.arcs a b) refl
  where
    I : Network
    I = before.instance

    arcs_there : AllByRecursion (IsArc before.instance (reached t)) t.arcs
    arcs_there = arcs_are before.instance (t.start ∷ []) t.arcs tree.tree.arborescence.grows

    linked : (pair : ℕ × ℕ) → IsSome (link before.instance.links pair.0 pair.1) → is_between (a, b) pair.0 pair.1 ≡ false → IsSome (link after.instance.links pair.0 pair.1)
    linked pair there other = let e : link after.instance.links pair.0 pair.1 ≡ link before.instance.links pair.0 pair.1 = step.becomes.linked pair.0 pair.1 ∙ rw other refl in rw e there

    rest_linked : AllByRecursion (λ pair. IsSome (link after.instance.links pair.0 pair.1)) (filter (is_but a b) t.arcs)
    rest_linked = all_then (λ arc. IsArc before.instance (reached t) arc × IsTrue (is_but a b arc)) (λ pair. IsSome (link after.instance.links pair.0 pair.1)) (filter (is_but a b) t.arcs) (λ arc is. linked arc is.0.linked (not-true (is_between (a, b) arc.0 arc.1) is.1)) (all_kept (IsArc before.instance (reached t)) (is_but a b) t.arcs arcs_there)

    a_vertex : IsVertex after.instance.n a
    a_vertex = subst (λ (n : ℕ). IsVertex n a) (sym step.becomes.count) (linked-vertices before.instance a b state.instance step.allowed.linked).0

    walk_links : AllByRecursion (IsWalkLink before a b) (walk a (inner ++ b ∷ []))
    walk_links = both_hold (walk a (inner ++ b ∷ [])) (recursion_from_All _ _ step.allowed.links) (recursion_from_All _ _ step.allowed.other)
      where
        both_hold : (pairs : List (ℕ × ℕ)) → AllByRecursion (λ pair. IsSome (link before.instance.links pair.0 pair.1)) pairs → AllByRecursion (λ pair. IsFalse (is_between (a, b) pair.0 pair.1)) pairs → AllByRecursion (IsWalkLink before a b) pairs
        both_hold [] first second = tt
        both_hold (pair ∷ pairs) first second = ((first.0, second.0), both_hold pairs first.1 second.1)

    -- the walk has a piece between the two sides, and with its links all is joined
    across : (left : Tree) → IsGrownOf after.instance (filter (is_but a b) t.arcs) a left → IsTrue (has_pair t.arcs a b) → IsTrue (has (reached t) a) → IsTrue (has (reached t) b) → has (reached left) b ≡ false → HasTreeWithin after (worth before t)
    across left grown used a_there b_there b_out =
        let S = has (reached left) in
        let milestone = λ (pair : ℕ × ℕ) (is : IsWalkLink before a b pair) (needed : IsTrue (is_required before.instance pair.1)). tree.tree.required pair.1 (linked-vertices before.instance pair.0 pair.1 state.instance is.0).1 needed in
        let (from, to, piece, from_there, to_there, found) = bridge before.instance S (λ y. IsTrue (has (reached t) y)) (IsWalkLink before a b) (arc_cost before.instance (a, b)) 0 a a b [] inner (record { milestone = a_there; here = grown.first; all = tt; cost = refl; joins = λ T agrees. refl }) walk_links step.allowed.pieces milestone b_there b_out in
        let piece_linked = all_then (IsWalkLink before a b) (λ pair. IsSome (link after.instance.links pair.0 pair.1)) piece (λ pair is. linked pair is.0 is.1) found.all in
        let new = grown_of after.instance (piece ++ filter (is_but a b) t.arcs) a a_vertex (all_append (λ pair. IsSome (link after.instance.links pair.0 pair.1)) piece (filter (is_but a b) t.arcs) piece_linked rest_linked) in
        let N = has (reached new.0) in
        let parts = all_parts (λ pair. N pair.0 ≡ N pair.1) piece (filter (is_but a b) t.arcs) new.1.settled in
        let within = λ (w : ℕ) (there : IsTrue (S w)). grown.within N new.1.first parts.1 w there in
        let less = total_but before.instance a b t.arcs used in
        let cost = found.cost in
        but_no_worse before after t new.0 a b inner piece state step tree a_there found.all new.1 (omega arith)
        (two_sides before.instance t S N a b to tree.tree.arborescence grown.first b_out grown.settled parts.1 within to_there b_there found.there (sym (found.joins N parts.0) ∙ within from found.here))

    by_side : (left : Tree) → IsGrownOf after.instance (filter (is_but a b) t.arcs) a left → IsTrue (has_pair t.arcs a b) → IsTrue (has (reached t) a) → IsTrue (has (reached t) b) → (p : Bool) → has (reached left) b ≡ p → HasTreeWithin after (worth before t)
    by_side left grown used a_there b_there false is = across left grown used a_there b_there is
    by_side left grown used a_there b_there true is =
        let fewer = total_filter_le (arc_cost before.instance) (is_but a b) t.arcs in
        but_no_worse before after t left a b inner [] state step tree a_there tt grown (omega arith)
        (λ w there. all_along before.instance (has (reached left)) t a w tree.tree.arborescence (but_agrees (has (reached left)) a b t.arcs (grown.first ∙ sym is) grown.settled) a_there grown.first there)

    by_use : (p : Bool) → has_pair t.arcs a b ≡ p → HasTreeWithin after (worth before t)
    by_use true used =
        let ends = pair_ends before.instance (reached t) t.arcs a b arcs_there used in
        let left = grown_of after.instance (filter (is_but a b) t.arcs) a a_vertex rest_linked in
        by_side left.0 left.1 used ends.0 ends.1 (has (reached left.0) b) refl
    by_use false unused =
        let same = all_then (λ arc. is_between (a, b) arc.0 arc.1 ≡ false) (λ arc. link after.instance.links arc.0 arc.1 ≡ link before.instance.links arc.0 arc.1) t.arcs (λ arc other. step.becomes.linked arc.0 arc.1 ∙ rw other refl) (unused_arcs a b t.arcs unused) in
        let paid = step.becomes.paid in
        let within = total_within (arc_cost after.instance) (arc_cost before.instance) t.arcs (all_then (λ arc. link after.instance.links arc.0 arc.1 ≡ link before.instance.links arc.0 arc.1) (λ arc. arc_cost after.instance arc ≤ arc_cost before.instance arc) t.arcs (λ arc e. let cost = same_cost before.instance after.instance arc e in omega arith) same) in
        no_worse before after t t (record {
          count = step.becomes.count;
          arborescence = record { start = subst (λ (n : ℕ). IsVertex n t.start) (sym step.becomes.count) tree.tree.arborescence.start; grows = grows_there before.instance after.instance (t.start ∷ []) t.arcs tree.tree.arborescence.grows (linked_too t.arcs arcs_there same) };
          required = λ w vertex needed. tree.tree.required w vertex (ap is_needed (sym (step.becomes.needed w vertex)) ∙ needed);
          avoids = λ w gone. tree.avoids w (sym (step.becomes.left_out w) ∙ gone);
          arcs = omega arith;
          missed = λ w vertex. record { prize = let need = ap prize (step.becomes.needed w vertex) in omega arith; still = λ there. inl there };
        })
      where
        linked_too : (arcs : List (ℕ × ℕ)) → AllByRecursion (IsArc before.instance (reached t)) arcs → AllByRecursion (λ arc. link after.instance.links arc.0 arc.1 ≡ link before.instance.links arc.0 arc.1) arcs → AllByRecursion (λ arc. IsSome (link after.instance.links arc.0 arc.1)) arcs
        linked_too [] are equal = tt
        linked_too (arc ∷ arcs) are equal = (rw equal.0 are.0.linked, linked_too arcs are.1 equal.1)
