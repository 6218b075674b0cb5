-- What a tree has besides one vertex, and pairs that stand in for that vertex.
use Rattle.std.proofs.Common.{◌≡◌, ◌≢◌, ℕ, ◌+◌, ◌≤◌, Bool, true, false, cond, not, ◌||◌, List, [], ◌∷◌, ◌++◌, inl, inr, ◌⊎◌, refl, sym, ap, ◌∙◌, subst, arith, eq-eqb}
use Rattle.std.specs.Prelude.{◌==◌, IsTrue, filter, unwrap_or}
use Rattle.std.proofs.lemmas.Bool.{or_left, or_right, eqb-true, false≢true, ne_eqb}
use Rattle.std.proofs.lemmas.Bool.Decides.{eqb_tells, nat_tests}
use Rattle.st_model.specs.declared.tree.Tree.{Tree}
use Rattle.st_model.specs.Lists.{has, total}
use Rattle.st_model.specs.Network.{Network, link}
use Rattle.st_model.specs.Arborescence.{reached_from, reached, Grows, IsArborescence, arc_cost}
use Rattle.st_model.specs.Made.{is_between, has_pair}
use Rattle.st_model.proofs.Distinct.{between-ends, link-comm}
use Rattle.st_model.proofs.Members.{has-one}
use Rattle.st_model.proofs.Sums.{total_filter_le}
use Rattle.lift_back.proofs.Along.{Agrees, itself, itself_turned}
use Rattle.lift_back.proofs.Trees.{IsGrownOf, all_along, all_parts, arcs_are}

-- whether neither end is v
abbrev pub is_past : ℕ → ℕ × ℕ → Bool
is_past v arc = not ((arc.0 == v) || (arc.1 == v))

-- the side of u for v, and for all others their own
abbrev pub moved : (ℕ → Bool) → ℕ → ℕ → ℕ → Bool
moved S v u w = cond (w == v) (S u) (S w)

-- at v itself
pub moved_at : (S : ℕ → Bool) (v u w : ℕ) → w ≡ v → moved S v u w ≡ S u
moved_at S v u w e = rw (eq-eqb w v e) refl

-- at another vertex
pub moved_past : (S : ℕ → Bool) (v u w : ℕ) → (w == v) ≡ false → moved S v u w ≡ S w
moved_past S v u w e = rw e refl

-- the neighbour stays on its own side
pub moved_self : (S : ℕ → Bool) (v u : ℕ) → moved S v u u ≡ S u
moved_self S v u = by_test (u == v)
  where
    by_test : (b : Bool) → cond b (S u) (S u) ≡ S u
    by_test true = refl
    by_test false = refl

-- where v's neighbours are on the side of u, all arcs agree if those past v do
pub moved_agrees : (S : ℕ → Bool) (v u : ℕ) (arcs : List (ℕ × ℕ)) → ((w : ℕ) → IsTrue (has_pair arcs v w) → moved S v u w ≡ S u) → Agrees S (filter (is_past v) arcs) → Agrees (moved S v u) arcs
moved_agrees S v u [] near agrees = tt
moved_agrees S v u (arc ∷ arcs) near agrees = by_test (arc.0 == v) (arc.1 == v) refl refl agrees (moved_agrees S v u arcs later)
  where
    later : (w : ℕ) → IsTrue (has_pair arcs v w) → moved S v u w ≡ S u
    later w there = near w (or_right (is_between arc v w) (has_pair arcs v w) there)

    at_tail : arc.0 ≡ v → moved S v u arc.1 ≡ S u
    at_tail e = near arc.1 (or_left (is_between arc v arc.1) (has_pair arcs v arc.1) (subst (λ (x : ℕ). IsTrue (is_between arc x arc.1)) e (itself arc)))

    at_head : arc.1 ≡ v → moved S v u arc.0 ≡ S u
    at_head e = near arc.0 (or_left (is_between arc v arc.0) (has_pair arcs v arc.0) (subst (λ (x : ℕ). IsTrue (is_between arc x arc.0)) e (itself_turned arc)))

    by_test : (p q : Bool) → (arc.0 == v) ≡ p → (arc.1 == v) ≡ q → Agrees S (cond (not (p || q)) (arc ∷ filter (is_past v) arcs) (filter (is_past v) arcs)) → (Agrees S (filter (is_past v) arcs) → Agrees (moved S v u) arcs) → Agrees (moved S v u) (arc ∷ arcs)
    by_test true q p_is q_is rest more = let e = eqb-true arc.0 v p_is in (moved_at S v u arc.0 e ∙ sym (at_tail e), more rest)
    by_test false true p_is q_is rest more = let e = eqb-true arc.1 v q_is in (at_head e ∙ sym (moved_at S v u arc.1 e), more rest)
    by_test false false p_is q_is rest more = ((moved_past S v u arc.0 p_is ∙ rest.0) ∙ sym (moved_past S v u arc.1 q_is), more rest.1)

-- a tree of other pairs and the arcs past v reaches what the tree reached, and u in place of v
pub past_tree : (I J : Network) (t new : Tree) (v u x : ℕ) (extra : List (ℕ × ℕ)) → IsArborescence I t → IsGrownOf J (extra ++ filter (is_past v) t.arcs) x new → IsTrue (has (reached t) x) → (x == v) ≡ false → ((S : ℕ → Bool) (w : ℕ) → Agrees S extra → IsTrue (has_pair t.arcs v w) → moved S v u w ≡ S u) → (w : ℕ) → IsTrue (has (reached t) w) → IsTrue (moved (has (reached new)) v u w)
past_tree I J t new v u x extra tree grown x_there x_other near w there =
    let S = has (reached new) in
    let parts = all_parts (λ pair. S pair.0 ≡ S pair.1) extra (filter (is_past v) t.arcs) grown.settled in
    all_along I (moved S v u) t x w tree (moved_agrees S v u t.arcs (λ y. near S y parts.0) parts.1) x_there (moved_past S v u x x_other ∙ grown.first) there

-- a tree reaches nobody but v, or somebody else
pub someone_else : (I : Network) (t : Tree) (v : ℕ) → IsArborescence I t → ((w : ℕ) → IsTrue (has (reached t) w) → (w ≡ t.start) × (t.arcs ≡ [])) ⊎ ((x : ℕ) × IsTrue (has (reached t) x) × ((x == v) ≡ false))
someone_else I t v tree = by_arcs t.arcs refl tree.grows
  where
    by_arcs : (arcs : List (ℕ × ℕ)) → t.arcs ≡ arcs → Grows I (t.start ∷ []) arcs → ((w : ℕ) → IsTrue (has (reached t) w) → (w ≡ t.start) × (t.arcs ≡ [])) ⊎ ((x : ℕ) × IsTrue (has (reached t) x) × ((x == v) ≡ false))
    by_arcs [] e g = inl (λ w there. (sym (has-one t.start w (subst (λ (l : List (ℕ × ℕ)). IsTrue (has (reached_from (t.start ∷ []) l) w)) e there)), e))
    by_arcs (arc ∷ arcs) e g =
        let is_arc = (arcs_are I (t.start ∷ []) (arc ∷ arcs) g).0 in
        let back = λ (x : ℕ) (h : IsTrue (has (reached_from (t.start ∷ []) (arc ∷ arcs)) x)). subst (λ (l : List (ℕ × ℕ)). IsTrue (has (reached_from (t.start ∷ []) l) x)) (sym e) h in
        elim (eqb_tells arc.0 v) [
          | inl here ↦ inr (arc.1, back arc.1 is_arc.head, ne_eqb arc.1 v (λ same. false≢true (sym g.2 ∙ (ap (has (t.start ∷ [])) (same ∙ sym here.1) ∙ g.1))))
          | inr other ↦ inr (arc.0, back arc.0 is_arc.tail, other.0)
        ]

-- a link costs the same in both directions
pub between_cost : (I : Network) (pair : ℕ × ℕ) (u w : ℕ) → is_between pair u w ≡ true → arc_cost I pair ≡ arc_cost I (u, w)
between_cost I pair u w h = elim (between-ends pair u w h) [
  | inl e ↦ ap (λ o. unwrap_or o 0) (ap (λ x. link I.links x pair.1) e.0 ∙ ap (link I.links u) e.1)
  | inr e ↦ ap (λ o. unwrap_or o 0) ((ap (λ x. link I.links x pair.1) e.0 ∙ ap (link I.links w) e.1) ∙ link-comm I.links w u)
]

-- a pair that ends in v is not past it
not_past : (arc : ℕ × ℕ) (v w : ℕ) → is_between arc v w ≡ true → is_past v arc ≡ false
not_past arc v w h = grind (arith, nat_tests)

-- the arcs past v cost less by each link of v
pub total_past_one : (I : Network) (v w : ℕ) (arcs : List (ℕ × ℕ)) → IsTrue (has_pair arcs v w) → arc_cost I (v, w) + total (arc_cost I) (filter (is_past v) arcs) ≤ total (arc_cost I) arcs
total_past_one I v w [] there = absurd (false≢true there)
total_past_one I v w (arc ∷ arcs) there = by_test (is_between arc v w) refl there (total_past_one I v w arcs)
  where
    one_more : (b : Bool) → arc_cost I (v, w) + total (arc_cost I) (filter (is_past v) arcs) ≤ total (arc_cost I) arcs → arc_cost I (v, w) + total (arc_cost I) (cond b (arc ∷ filter (is_past v) arcs) (filter (is_past v) arcs)) ≤ arc_cost I arc + total (arc_cost I) arcs
    one_more true h = omega arith
    one_more false h = omega arith

    by_test : (b : Bool) → is_between arc v w ≡ b → (b || has_pair arcs v w) ≡ true → (IsTrue (has_pair arcs v w) → arc_cost I (v, w) + total (arc_cost I) (filter (is_past v) arcs) ≤ total (arc_cost I) arcs) → arc_cost I (v, w) + total (arc_cost I) (cond (is_past v arc) (arc ∷ filter (is_past v) arcs) (filter (is_past v) arcs)) ≤ arc_cost I arc + total (arc_cost I) arcs
    by_test true is h rest =
        let same = between_cost I arc v w is in
        let fewer = total_filter_le (arc_cost I) (is_past v) arcs in
        rw (not_past arc v w is) (omega arith)
    by_test false is h rest = one_more (is_past v arc) (rest h)

-- and by two of them
pub total_past_two : (I : Network) (v a b : ℕ) (arcs : List (ℕ × ℕ)) → a ≢ b → IsTrue (has_pair arcs v a) → IsTrue (has_pair arcs v b) → arc_cost I (v, a) + arc_cost I (v, b) + total (arc_cost I) (filter (is_past v) arcs) ≤ total (arc_cost I) arcs
total_past_two I v a b [] different to_a to_b = absurd (false≢true to_a)
total_past_two I v a b (arc ∷ arcs) different to_a to_b = by_test (is_between arc v a) (is_between arc v b) refl refl to_a to_b (total_past_two I v a b arcs different)
  where
    clash : is_between arc v a ≡ true → is_between arc v b ≡ true → ⊥
    clash ha hb = elim (between-ends arc v a ha) [
      | inl e ↦ elim (between-ends arc v b hb) [ inl f ↦ different (sym e.1 ∙ f.1) | inr f ↦ different ((sym e.1 ∙ f.1) ∙ (sym e.0 ∙ f.0)) ]
      | inr e ↦ elim (between-ends arc v b hb) [ inl f ↦ different ((sym e.0 ∙ f.0) ∙ (sym e.1 ∙ f.1)) | inr f ↦ different (sym e.0 ∙ f.0) ]
    ]

    one_more : (p : Bool) → arc_cost I (v, a) + arc_cost I (v, b) + total (arc_cost I) (filter (is_past v) arcs) ≤ total (arc_cost I) arcs → arc_cost I (v, a) + arc_cost I (v, b) + total (arc_cost I) (cond p (arc ∷ filter (is_past v) arcs) (filter (is_past v) arcs)) ≤ arc_cost I arc + total (arc_cost I) arcs
    one_more true h = omega arith
    one_more false h = omega arith

    by_test : (p q : Bool) → is_between arc v a ≡ p → is_between arc v b ≡ q → (p || has_pair arcs v a) ≡ true → (q || has_pair arcs v b) ≡ true → (IsTrue (has_pair arcs v a) → IsTrue (has_pair arcs v b) → arc_cost I (v, a) + arc_cost I (v, b) + total (arc_cost I) (filter (is_past v) arcs) ≤ total (arc_cost I) arcs) → arc_cost I (v, a) + arc_cost I (v, b) + total (arc_cost I) (cond (is_past v arc) (arc ∷ filter (is_past v) arcs) (filter (is_past v) arcs)) ≤ arc_cost I arc + total (arc_cost I) arcs
    by_test true true p_is q_is ha hb rest = absurd (clash p_is q_is)
    by_test true false p_is q_is ha hb rest =
        let same = between_cost I arc v a p_is in
        let less = total_past_one I v b arcs hb in
        rw (not_past arc v a p_is) (omega arith)
    by_test false true p_is q_is ha hb rest =
        let same = between_cost I arc v b q_is in
        let less = total_past_one I v a arcs ha in
        rw (not_past arc v b q_is) (omega arith)
    by_test false false p_is q_is ha hb rest = one_more (is_past v arc) (rest ha hb)

-- arcs none of which ends in v agree on who is v
pub none_ends : (v : ℕ) (arcs : List (ℕ × ℕ)) → ((w : ℕ) → IsTrue (has_pair arcs v w) → ⊥) → Agrees (λ w. w == v) arcs
none_ends v [] none = tt
none_ends v (arc ∷ arcs) none = (by_test (arc.0 == v) (arc.1 == v) refl refl, none_ends v arcs (λ w there. none w (or_right (is_between arc v w) (has_pair arcs v w) there)))
  where
    by_test : (p q : Bool) → (arc.0 == v) ≡ p → (arc.1 == v) ≡ q → p ≡ q
    by_test true q p_is q_is = absurd (none arc.1 (or_left (is_between arc v arc.1) (has_pair arcs v arc.1) (subst (λ (x : ℕ). IsTrue (is_between arc x arc.1)) (eqb-true arc.0 v p_is) (itself arc))))
    by_test false true p_is q_is = absurd (none arc.0 (or_left (is_between arc v arc.0) (has_pair arcs v arc.0) (subst (λ (x : ℕ). IsTrue (is_between arc x arc.0)) (eqb-true arc.1 v q_is) (itself_turned arc))))
    by_test false false p_is q_is = refl
