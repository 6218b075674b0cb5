-- What a chain tells is read off from its last arc on, and arcs before a step are as fit for a chain as those after it is undone.
use Rattle.std.proofs.Common.{◌≡◌, suc, ℕ, ◌+◌, ◌≤◌, Bool, true, false, cond, ◌||◌, List, [], ◌∷◌, ◌++◌, inl, inr, ◌⊎◌, refl, sym, ap, ◌∙◌, subst, arith, length, Option, map}
use Rattle.std.specs.Prelude.{◌==◌, IsTrue, IsFalse, eqb}
use Rattle.std.specs.List.{AllByRecursion, IsDistinct, list_any}
use Rattle.std.proofs.lemmas.Bool.{or_left, or_right, or_cases, false≢true, eqb-true, false_from_ne_true}
use Rattle.std.proofs.lemmas.Bool.Decides.{nat_tests}
use Rattle.std.proofs.lemmas.Map.Steps.{length-le_from_distinct_below}
use Rattle.st_model.specs.declared.tree.Tree.{Tree}
use Rattle.st_model.specs.Lists.{has}
use Rattle.st_model.specs.Network.{Network, IsInstance}
use Rattle.st_model.specs.Arborescence.{Grows, IsTree}
use Rattle.st_model.specs.Made.{is_between}
use Rattle.st_model.proofs.Distinct.{has-cons_head, has-cons_tail}
use Rattle.st_model.proofs.ThinGrowth.{linked-vertices}
use Rattle.lift_back.specs.declared.chain.Arrival.{Arrival}
use Rattle.lift_back.specs.declared.undo.Undo.{Undo}
use Rattle.lift_back.specs.declared.undo.Undo.TheVariants.{Keep, Past, Leaf}
use Rattle.lift_back.specs.Chains.{leads_to, arrival_at, LeadsOn, AreOnce, AreLed}
use Rattle.lift_back.specs.Undoing.{led_past, arcs_before, arcs_at_first}
use Rattle.lift_back.proofs.Chaining.{comes_from, neither, leads_to-append, once_parts}

-- the arcs but the last, which is kept at the vertex that was reached last
pub record LastStep (arrivals : List (Option Arrival)) (p last : ℕ) (arcs : List (ℕ × ℕ)) : Type 0 where
  pub first : List (ℕ × ℕ)
  pub tail : ℕ
  pub before : ℕ
  pub whole : arcs ≡ first ++ (tail, last) ∷ []
  pub leads : LeadsOn arrivals p first before
  pub is : arrival_at arrivals last ≡ comes_from tail before

pub last_step : (arrivals : List (Option Arrival)) (p last : ℕ) (arcs : List (ℕ × ℕ)) → LeadsOn arrivals p arcs last → ((arcs ≡ []) × (p ≡ last)) ⊎ LastStep arrivals p last arcs
last_step arrivals p last [] leads = inl (refl, leads)
last_step arrivals p last (arc ∷ arcs) leads = elim (last_step arrivals arc.1 last arcs leads.1) [
  | inl e ↦ inr (record { first = []; tail = arc.0; before = p; whole = λ j. (arc.0, e.1 j) ∷ e.0 j; leads = refl; is = ap (arrival_at arrivals) (sym e.1) ∙ leads.0 })
  | inr step ↦ inr (record { first = arc ∷ step.first; tail = step.tail; before = step.before; whole = ap (λ l. arc ∷ l) step.whole; leads = (leads.0, step.leads); is = step.is })
]

-- what arcs lead to they still lead to once one is led past a vertex
leads_past : (v a b : ℕ) (arcs : List (ℕ × ℕ)) (w : ℕ) → IsTrue (leads_to arcs w) → IsTrue (leads_to (led_past v a b arcs) w)
leads_past v a b [] w there = there
leads_past v a b (arc ∷ arcs) w there = by_test (is_between (a, b) arc.0 arc.1) (or_cases (arc.1 == w) (leads_to arcs w) there) (leads_past v a b arcs w)
  where
    rest : List (ℕ × ℕ)
    rest = led_past v a b arcs

    by_test : (p : Bool) → ((arc.1 == w) ≡ true) ⊎ (leads_to arcs w ≡ true) → (leads_to arcs w ≡ true → leads_to (led_past v a b arcs) w ≡ true) → leads_to (cond p ((arc.0, v) ∷ (v, arc.1) ∷ led_past v a b arcs) (arc ∷ led_past v a b arcs)) w ≡ true
    by_test true (inl h) more = or_right (v == w) ((arc.1 == w) || leads_to (led_past v a b arcs) w) (or_left (arc.1 == w) (leads_to (led_past v a b arcs) w) h)
    by_test true (inr h) more = or_right (v == w) ((arc.1 == w) || leads_to (led_past v a b arcs) w) (or_right (arc.1 == w) (leads_to (led_past v a b arcs) w) (more h))
    by_test false (inl h) more = or_left (arc.1 == w) (leads_to (led_past v a b arcs) w) h
    by_test false (inr h) more = or_right (arc.1 == w) (leads_to (led_past v a b arcs) w) (more h)

not_before : (v a b : ℕ) (arcs : List (ℕ × ℕ)) (w : ℕ) → IsFalse (leads_to (led_past v a b arcs) w) → IsFalse (leads_to arcs w)
not_before v a b arcs w none = false_from_ne_true (leads_to arcs w) (λ h. false≢true (sym none ∙ leads_past v a b arcs w h))

once_before : (v a b : ℕ) (arcs : List (ℕ × ℕ)) → AreOnce (led_past v a b arcs) → AreOnce arcs
once_before v a b [] once = tt
once_before v a b (arc ∷ arcs) once = by_test (is_between (a, b) arc.0 arc.1) once (once_before v a b arcs)
  where
    by_test : (p : Bool) → AreOnce (cond p ((arc.0, v) ∷ (v, arc.1) ∷ led_past v a b arcs) (arc ∷ led_past v a b arcs)) → (AreOnce (led_past v a b arcs) → AreOnce arcs) → IsFalse (leads_to arcs arc.1) × AreOnce arcs
    by_test true h rest = (not_before v a b arcs arc.1 h.1.0, rest h.1.1)
    by_test false h rest = (not_before v a b arcs arc.1 h.0, rest h.1)

-- the first of such arcs are such arcs
pub led_first : (count start : ℕ) (xs ys : List (ℕ × ℕ)) → AreLed count start (xs ++ ys) → AreLed count start xs
led_first count start xs ys led = record {
  once = (once_parts xs ys led.once).0;
  apart = (neither (leads_to xs start) (leads_to ys start) (sym (leads_to-append xs ys start) ∙ led.apart)).0;
  within = λ v there. led.within v (leads_to-append xs ys v ∙ or_left (leads_to xs v) (leads_to ys v) there);
}

pub led_before : (count start : ℕ) (undo : Undo) (arcs : List (ℕ × ℕ)) → AreLed count start (arcs_before undo arcs) → AreLed count start arcs
led_before count start Keep arcs led = led
led_before count start (Past v a b) arcs led = record { once = once_before v a b arcs led.once; apart = not_before v a b arcs start led.apart; within = λ w there. led.within w (leads_past v a b arcs w there) }
led_before count start (Leaf v u) arcs led = led_first count start arcs ((u, v) ∷ []) led

pub led_at_first : (count start : ℕ) (undos : List Undo) (arcs : List (ℕ × ℕ)) → AreLed count start (arcs_at_first undos arcs) → AreLed count start arcs
led_at_first count start [] arcs led = led
led_at_first count start (undo ∷ undos) arcs led = led_at_first count start undos arcs (led_before count start undo (arcs_at_first undos arcs) led)

-- arcs that grow lead to nobody who was reached, and to each head once
grown_once : (I : Network) (r : List ℕ) (arcs : List (ℕ × ℕ)) → Grows I r arcs → AreOnce arcs × ((v : ℕ) → IsTrue (has r v) → IsFalse (leads_to arcs v))
grown_once I r [] g = (tt, λ v there. refl)
grown_once I r (arc ∷ arcs) g =
    let rest = grown_once I (arc.1 ∷ r) arcs g.3 in
    ((rest.1 arc.1 (has-cons_head r arc.1 arc.1 refl), rest.0), λ v there. by_test v there (arc.1 == v) refl (rest.1 v (has-cons_tail r arc.1 v there)))
  where
    by_test : (v : ℕ) → IsTrue (has r v) → (p : Bool) → (arc.1 == v) ≡ p → leads_to arcs v ≡ false → (p || leads_to arcs v) ≡ false
    by_test v there true e none = absurd (false≢true (sym g.2 ∙ (ap (has r) (eqb-true arc.1 v e) ∙ there)))
    by_test v there false e none = none

grown_within : (I : Network) (r : List ℕ) (arcs : List (ℕ × ℕ)) → IsInstance I → Grows I r arcs → (v : ℕ) → IsTrue (leads_to arcs v) → v ≤ I.n
grown_within I r [] instance g v there = absurd (false≢true there)
grown_within I r (arc ∷ arcs) instance g v there = elim (or_cases (arc.1 == v) (leads_to arcs v) there) [
  | inl here ↦ subst (λ (x : ℕ). x ≤ I.n) (eqb-true arc.1 v here) (linked-vertices I arc.0 arc.1 instance g.0).1.1
  | inr later ↦ grown_within I (arc.1 ∷ r) arcs instance g.3 v later
]

pub tree_led : (I : Network) (t : Tree) → IsInstance I → IsTree I t → AreLed (I.n + 1) t.start t.arcs
tree_led I t instance tree =
    let grows = tree.arborescence.grows in
    let once = grown_once I (t.start ∷ []) t.arcs grows in
    record {
      once = once.0;
      apart = once.1 t.start (has-cons_head [] t.start t.start refl);
      within = λ v there. let small = grown_within I (t.start ∷ []) t.arcs instance grows v there in omega arith;
    }

abbrev heads : List (ℕ × ℕ) → List ℕ
heads arcs = map (λ arc. arc.1) arcs

-- there are no more such arcs than vertices
pub led_few : (count start : ℕ) (arcs : List (ℕ × ℕ)) → AreLed count start arcs → length arcs ≤ count
unfolding IsDistinct
led_few count start arcs led = subst (λ (n : ℕ). n ≤ count) (length-heads arcs) (length-le_from_distinct_below (heads arcs) count (distinct arcs led.once) (λ q there. led.within q (is_head q arcs there)))
  where
    length-heads : (xs : List (ℕ × ℕ)) → length (heads xs) ≡ length xs
    length-heads [] = refl
    length-heads (x ∷ xs) = ap (λ n. suc n) (length-heads xs)

    turned : (x y : ℕ) → eqb x y ≡ (y == x)
    turned x y = grind (arith, nat_tests)

    is_head : (q : ℕ) (xs : List (ℕ × ℕ)) → list_any (eqb q) (heads xs) ≡ true → leads_to xs q ≡ true
    is_head q [] there = there
    is_head q (x ∷ xs) there = elim (or_cases (eqb q x.1) (list_any (eqb q) (heads xs)) there) [
      | inl here ↦ or_left (x.1 == q) (leads_to xs q) (sym (turned q x.1) ∙ here)
      | inr later ↦ or_right (x.1 == q) (leads_to xs q) (is_head q xs later)
    ]

    others : (x : ℕ) (xs : List (ℕ × ℕ)) → leads_to xs x ≡ false → AllByRecursion (λ y. eqb x y ≡ false) (heads xs)
    others x [] none = tt
    others x (y ∷ xs) none = let both = neither (y.1 == x) (leads_to xs x) none in (turned x y.1 ∙ both.0, others x xs both.1)

    distinct : (xs : List (ℕ × ℕ)) → AreOnce xs → IsDistinct eqb (heads xs)
    distinct [] once = tt
    distinct (x ∷ xs) once = (others x.1 xs once.0, distinct xs once.1)
