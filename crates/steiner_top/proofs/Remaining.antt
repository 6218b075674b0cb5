-- What steps keep of an instance: it is still one, no more vertices may be split at, and some tree is left. Two states to which the same steps lead prove the same.
use Rattle.std.proofs.Common.{◌≡◌, ◌⊎◌, inl, inr, ℕ, ◌-◌, ◌≤◌, Bool, true, false, cond, not, ◌&&◌, eqb, List, [], ◌∷◌, refl, ap, subst, ◌∙◌, arith}
use Rattle.std.specs.Prelude.{IsTrue}
use Rattle.std.proofs.lemmas.Bool.{and_parts, or_left, or_right}
use Rattle.std.proofs.lemmas.Bool.Decides.{nat_tests}
use Rattle.st_model.specs.declared.need.Need.TheVariants.{Required, Pays}
use Rattle.st_model.specs.declared.tree.Tree.{Tree}
use Rattle.st_model.specs.Lists.{has, sum_to}
use Rattle.st_model.specs.Network.{Network, IsInstance, IsVertex, is_needed, is_required, need_of}
use Rattle.st_model.specs.Arborescence.{IsTree}
use Rattle.st_model.specs.Branch.{IsBranch, avoiding, is_free}
use Rattle.st_model.proofs.Sums.{sum_to_le, sum_to_same}
use Rattle.cut_packing.specs.ProofTree.{Proves}
use Rattle.lift_back.specs.declared.step.Step.{Step}
use Rattle.lift_back.specs.declared.step.Step.TheVariants.{Pendant, Through, Forced, Detour}
use Rattle.lift_back.specs.State.{State, IsState, whole}
use Rattle.lift_back.specs.Steps.{Applies, Takes}
use Rattle.lift_back.proofs.Beginning.{whole_state}
use Rattle.lift_back.proofs.Stepwise.{steps_keep_the_least}
use Rattle.log_format.specs.declared.proof_line.ProofLine.{ProofLine}
use Rattle.log_format.specs.Accepts.{ProvesFrom, left_of, left_over}
use Rattle.log_format.proofs.Alike.{AreAlike, alike-refl, proves_alike, takes_alike}
use Rattle.log_format.proofs.AllTrees.{left_over-branch}
use Rattle.search_core.specs.FreeVertices.{free_count}
use Rattle.steiner_top.specs.Left.{HasSomeTree}
use Rattle.steiner_top.specs.Outcome.{free_vertices}

-- ---- what is left

pub last_is_state : (steps : List Step) (first last : State) → IsState first → Applies steps first last → IsState last
last_is_state [] first last is same = subst IsState same is
last_is_state (step ∷ steps) first last is (next, next_is, here, later) = last_is_state steps next last next_is later

-- what steps leave of an instance
pub left_is_state : (I : Network) (steps : List Step) (left : State) → IsInstance I → Applies steps (whole I) left → IsState left
left_is_state I steps left instance applies = last_is_state steps (whole I) left (whole_state I instance) applies

-- some tree is left of an instance that has one
pub some_left : (I : Network) (steps : List Step) (left : State) → IsInstance I → Applies steps (whole I) left → (t : Tree) × IsTree I t → HasSomeTree left
some_left I steps left instance applies (t, tree) =
    let (new, new_is, less) = steps_keep_the_least steps (whole I) left t (whole_state I instance) applies (record { tree = tree; avoids = λ v gone. absurd cc }) in
    (new, new_is)

pub is_branch : (s : State) → IsState s → IsBranch s.instance (left_over s)
is_branch s is = left_over-branch s is.gone

-- ---- vertices that may be split at

-- whether v is neither gone nor required
abbrev may_split : State → ℕ → Bool
may_split s v = is_free s.instance (left_over s) v

count_le : (b c : Bool) → (c ≡ true → b ≡ true) → cond c 1 0 ≤ cond b 1 0
count_le b true stays = rw (stays refl) (omega arith)
count_le b false stays = omega arith

-- who is gone stays so, and who is required stays so or goes
record Keeps (before after : State) (v : ℕ) : Type 0 where
  gone : IsTrue (has before.gone v) → IsTrue (has after.gone v)
  required : IsTrue (is_required before.instance v) → IsTrue (has after.gone v) ⊎ IsTrue (is_required after.instance v)

-- so a vertex to split at was one before
split_before : (before after : State) (v : ℕ) → Keeps before after v → IsTrue (may_split after v) → IsTrue (may_split before v)
split_before before after v keeps free = by_case (has before.gone v) refl (is_required before.instance v) refl
  where
    parts : IsTrue (not (has after.gone v)) × IsTrue (not (is_required after.instance v))
    parts = and_parts (not (has after.gone v)) (not (is_required after.instance v)) free

    never : (b : Bool) → IsTrue b → IsTrue (not b) → ⊥
    never true is not_is = absurd cc
    never false is not_is = absurd cc

    by_case : (g : Bool) → has before.gone v ≡ g → (r : Bool) → is_required before.instance v ≡ r → IsTrue (not g && not r)
    by_case true gone r e = absurd (never (has after.gone v) (keeps.gone gone) parts.0)
    by_case false here true e = elim (keeps.required e) [
      | inl gone ↦ absurd (never (has after.gone v) gone parts.0)
      | inr required ↦ absurd (never (is_required after.instance v) required parts.1)
    ]
    by_case false here false e = refl

-- each step keeps it
step_keeps : (step : Step) (before after : State) (v : ℕ) → Takes step before after → IsVertex before.instance.n v → Keeps before after v
step_keeps (Pendant w) before after v step vertex = record {
  gone = λ gone. step.becomes.left_out v ∙ or_right (eqb w v) (has before.gone v) gone;
  required = λ required. inr (ap is_needed (step.becomes.needed v vertex) ∙ required);
}
step_keeps (Through w) before after v (a, b, x, y, step) vertex = record {
  gone = λ gone. step.becomes.left_out v ∙ or_right (eqb w v) (has before.gone v) gone;
  required = λ required. inr (ap is_needed (step.becomes.needed v vertex) ∙ required);
}
step_keeps (Forced w) before after v (u, c, step) vertex = record {
  gone = λ gone. step.becomes.left_out v ∙ or_right (eqb w v) (has before.gone v) gone;
  required = λ required. by_case (eqb v w) refl (eqb v u) (ap is_needed (step.becomes.needed v vertex)) required;
} where
  by_case : (here : Bool) → eqb v w ≡ here → (there : Bool) → is_required after.instance v ≡ is_needed (cond here (Pays 0) (cond there Required (need_of before.instance v))) → IsTrue (is_required before.instance v)
      → IsTrue (has after.gone v) ⊎ IsTrue (is_required after.instance v)
  by_case true is there e required = inl (step.becomes.left_out v ∙ or_left (eqb w v) (has before.gone v) (let same : v ≡ w = grind (arith, nat_tests) in grind (arith, nat_tests)))
  by_case false is true e required = inr e
  by_case false is false e required = inr (e ∙ required)
step_keeps (Detour a b inner) before after v step vertex = record {
  gone = λ gone. step.becomes.left_out v ∙ gone;
  required = λ required. inr (ap is_needed (step.becomes.needed v vertex) ∙ required);
}

-- a step leaves as many vertices
same_count : (step : Step) (before after : State) → Takes step before after → after.instance.n ≡ before.instance.n
same_count (Pendant w) before after step = step.becomes.count
same_count (Through w) before after (a, b, x, y, step) = step.becomes.count
same_count (Forced w) before after (u, c, step) = step.becomes.count
same_count (Detour a b inner) before after step = step.becomes.count

-- a step leaves no more to split at
step_frees_none : (step : Step) (before after : State) → Takes step before after → free_count after.instance (left_over after) ≤ free_count before.instance (left_over before)
step_frees_none step before after takes =
    let fewer = sum_to_le (λ v. cond (may_split after v) 1 0) (λ v. cond (may_split before v) 1 0) before.instance.n
    (λ v low high. count_le (may_split before v) (may_split after v) (split_before before after v (step_keeps step before after v takes (low, high)))) in
    let count : free_count after.instance (left_over after) ≡ sum_to (λ v. cond (may_split after v) 1 0) before.instance.n = ap (sum_to (λ v. cond (may_split after v) 1 0)) (same_count step before after takes) in
    omega (arith, fewer, count)

steps_free_none : (steps : List Step) (first last : State) → Applies steps first last → free_count last.instance (left_over last) ≤ free_count first.instance (left_over first)
steps_free_none [] first last same = subst (λ (s : State). free_count s.instance (left_over s) ≤ free_count first.instance (left_over first)) same (omega arith)
steps_free_none (step ∷ steps) first last (next, next_is, here, later) = omega (arith, step_frees_none step first next here, steps_free_none steps next last later)

-- so what steps leave may be split at no more vertices than aren't required
pub few_to_split : (I : Network) (steps : List Step) (left : State) → Applies steps (whole I) left → free_count left.instance (left_over left) ≤ free_vertices I
few_to_split I steps left applies =
    let all : free_count I (left_over (whole I)) ≡ free_vertices I = sum_to_same _ _ I.n (λ v low high. by_case (is_required I v)) in
    omega (arith, all, steps_free_none steps (whole I) left applies)
  where
    by_case : (r : Bool) → ◌≡◌ {A = ℕ} (cond (not r) 1 0) (cond r 0 1)
    by_case true = refl
    by_case false = refl

-- ---- two states to which the same steps lead

applies_alike : (steps : List Step) (s t s' t' : State) → AreAlike s t → Applies steps s s' → Applies steps t t' → AreAlike s' t'
applies_alike [] s t s' t' alike one other = subst (λ (u : State). AreAlike u t') one (subst (AreAlike s) other alike)
applies_alike (step ∷ steps) s t s' t' alike (next, next_is, here, later) (other, other_is, there, rest) =
    applies_alike steps next other s' t' (takes_alike step s t next other alike next_is other_is here there) later rest

-- what is proved of one is proved of the other
pub proved_of_both : (I : Network) (steps : List Step) (s t : State) (x : ℕ) (lines : List ProofLine) → Applies steps (whole I) s → Applies steps (whole I) t → ProvesFrom s x lines → ProvesFrom t x lines
proved_of_both I steps s t x lines one other (p, written, proves) =
    let alike = applies_alike steps (whole I) (whole I) s t (alike-refl (whole I)) one other in
    let moved = proves_alike s.instance t.instance alike.instance (left_over s) (left_of x s) p proves in
    let there = subst (λ (gone : List ℕ). Proves t.instance (avoiding gone) (left_of x s) p) alike.gone moved in
    (p, written, subst (λ (y : ℕ). Proves t.instance (left_over t) y p) (ap (λ (offset : ℕ). x - offset) alike.offset) there)
