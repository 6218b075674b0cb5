-- One unit more, sent step by step from the root.
use Rattle.std.proofs.Common.{◌≡◌, ℕ, ◌+◌, ◌≤◌, ◌⊎◌, Bool, true, false, cond, eqb, List, [], ◌∷◌, ◌++◌, reverse, length, map, inl, inr, refl, sym, ap, ◌∙◌, subst, arith}
use Rattle.std.specs.Prelude.{◌&&◌, ◌||◌, not, IsTrue, IsFalse}
use Rattle.std.proofs.lemmas.Bool.{cases_eq, eqb-true, ne_eqb, false≢true}
use Rattle.std.proofs.lemmas.List.{reverse-append}
use Rattle.st_model.specs.Lists.{has}
use Rattle.bidirected_form.specs.Digraph.{Digraph, IsDigraph}
use Rattle.bidirected_form.specs.Entering.{enters}
use Rattle.flow_cuts.specs.Fewest.{entering_sum}
use Rattle.flow_cuts.specs.Sending.{back, CanSend, AreSteps, is_led, IsBalanced, SendsOne}
use Rattle.flow_cuts.proofs.Sums.{amount, entering_more}
use Rattle.flow_cuts.proofs.Arcs.{head_in_range, turned_arc}

-- the vertices where steps begin
abbrev pub begins : List (ℕ × ℕ) → List ℕ
begins steps = map (λ s. s.0) steps

-- a unit is on its way from the root and has come to a vertex; the steps are still to be taken
pub record IsUnderWay (D : Digraph) (q : ℕ) (old new : ℕ → ℕ → ℕ) (current : ℕ) (ahead : List (ℕ × ℕ)) : Type 0 where
  pub balanced : (k : ℕ) → IsBalanced D q k old → (set : List ℕ)
      → entering_sum D new set + amount (has set D.root) (k + 1) ≡ entering_sum D (back new) set + amount (has set q) k + amount (has set current) 1
  pub more : (u v : ℕ) → old u v ≤ new u v
  pub over : (u v : ℕ) → (new u v ≡ old u v) ⊎ (CanSend D old 1 u v × (new u v ≡ old u v + 1))
  pub fresh : (u v : ℕ) → IsTrue (has (begins ahead) u) → new u v ≡ old u v
  pub steps : AreSteps D old 1 q ahead
  pub place : IsTrue (is_led q ahead current)

pub under_way_start : (D : Digraph) (q : ℕ) (f : ℕ → ℕ → ℕ) (steps : List (ℕ × ℕ)) → AreSteps D f 1 q steps → IsTrue (is_led q steps D.root) → IsUnderWay D q f f D.root steps
under_way_start D q f steps are led = record {
  balanced = λ k balanced set. let before = balanced set in let at_root = one_more (has set D.root) k in omega (arith, before, at_root);
  more = λ u v. omega arith;
  over = λ u v. inl refl;
  fresh = λ u v begins. refl;
  steps = are;
  place = led;
}
  where
    one_more : (b : Bool) (k : ℕ) → amount b (k + 1) ≡ amount b k + amount b 1
    one_more true k = refl
    one_more false k = refl

or_last : (a b : Bool) → a ≡ false → IsTrue (a || b) → IsTrue b
or_last true b e h = absurd (false≢true (sym e))
or_last false b e h = h

-- a step that begins elsewhere
pub under_way_past : (D : Digraph) (q : ℕ) (old new : ℕ → ℕ → ℕ) (current tail head : ℕ) (steps : List (ℕ × ℕ)) → (tail ≡ current → ⊥) → IsUnderWay D q old new current ((tail, head) ∷ steps)
    → IsUnderWay D q old new current steps
under_way_past D q old new current tail head steps other w = record {
  balanced = w.balanced;
  more = w.more;
  over = w.over;
  fresh = λ u v held. w.fresh u v (later (eqb tail u) (has (begins steps) u) held);
  steps = w.steps.3;
  place = elsewhere (eqb current q) (eqb tail current) (has (begins steps) current) (ne_eqb tail current other) w.place;
}
  where
    later : (a b : Bool) → IsTrue b → IsTrue (a || b)
    later true b h = refl
    later false b h = h

    elsewhere : (a b c : Bool) → b ≡ false → IsTrue (a || (b || c)) → IsTrue (a || c)
    elsewhere true b c e h = refl
    elsewhere false true c e h = absurd (false≢true (sym e))
    elsewhere false false c e h = h

-- the step from where the unit is
pub under_way_step : (D : Digraph) (q : ℕ) (old new next : ℕ → ℕ → ℕ) (current head : ℕ) (steps : List (ℕ × ℕ)) → IsDigraph D
    → ((u v : ℕ) → next u v ≡ cond (eqb current u && eqb head v) (new u v + 1) (new u v)) → IsUnderWay D q old new current ((current, head) ∷ steps) → IsUnderWay D q old next head steps
under_way_step D q old new next current head steps h sent w = record {
  balanced = λ k balanced set. let before = w.balanced k balanced set in let along = forth set in let against = returned set in let moved = across (has set current) (has set head) in
      omega (arith, before, along, against, moved);
  more = λ u v. let before = w.more u v in let now = plain u v in omega (arith, before, now);
  over = λ u v. over u v (eqb current u) (eqb head v) refl refl;
  fresh = λ u v held. fresh u v held (cases_eq current u);
  steps = w.steps.3;
  place = w.steps.1;
}
  where
    free : CanSend D old 1 current head
    free = w.steps.0

    plus : (b : Bool) (x : ℕ) → cond b (x + 1) x ≡ x + amount b 1
    plus true x = refl
    plus false x = omega arith

    plain : (u v : ℕ) → next u v ≡ new u v + amount (eqb current u && eqb head v) 1
    plain u v = sent u v ∙ plus (eqb current u && eqb head v) (new u v)

    swap_and : (a b : Bool) → (a && b) ≡ (b && a)
    swap_and true true = refl
    swap_and true false = refl
    swap_and false true = refl
    swap_and false false = refl

    forth : (set : List ℕ) → entering_sum D next set ≡ entering_sum D new set + amount (enters set current head) 1
    forth set = entering_more D new next set current head free.left h (head_in_range D current head free.left h free.arc) free.arc plain

    returned : (set : List ℕ) → entering_sum D (back next) set ≡ entering_sum D (back new) set + amount (enters set head current) 1
    returned set =
        let turned = turned_arc D current head free.left h free.arc in
        entering_more D (back new) (back next) set head current turned.0 h (head_in_range D head current turned.0 h turned.1) turned.1
        (λ x y. plain y x ∙ ap (λ (b : Bool). new y x + amount b 1) (swap_and (eqb current y) (eqb head x)))

    across : (a b : Bool) → amount (b && not a) 1 + cond a 1 0 ≡ amount (a && not b) 1 + amount b 1
    across true true = refl
    across true false = refl
    across false true = refl
    across false false = refl

    first : (a b : Bool) → IsFalse (a || b) → IsFalse b
    first true b e = absurd (false≢true (sym e))
    first false b e = e

    -- no later step begins where this one does
    fresh : (u v : ℕ) → IsTrue (has (begins steps) u) → (current ≡ u) ⊎ (current ≡ u → ⊥) → next u v ≡ old u v
    fresh u v held (inl same) = absurd (false≢true (sym (first (eqb u q) (has (begins steps) u) (subst (λ (x : ℕ). IsFalse (is_led q steps x)) same w.steps.2)) ∙ held))
    fresh u v held (inr other) =
        let off : eqb current u ≡ false = ne_eqb current u other in
        let kept : next u v ≡ new u v = sent u v ∙ rw off refl in
        kept ∙ w.fresh u v (later (eqb current u) (has (begins steps) u) held)
      where
        later : (a b : Bool) → IsTrue b → IsTrue (a || b)
        later true b h = refl
        later false b h = h

    over : (u v : ℕ) (a b : Bool) → eqb current u ≡ a → eqb head v ≡ b → (next u v ≡ old u v) ⊎ (CanSend D old 1 u v × (next u v ≡ old u v + 1))
    over u v true true e i =
        let from : current ≡ u = eqb-true current u e in
        let to : head ≡ v = eqb-true head v i in
        let raised : next u v ≡ new u v + 1 = sent u v ∙ rw (e, i) refl in
        let start : new u v ≡ old u v = w.fresh u v (rw e refl) in
        inr (subst (λ (y : ℕ). CanSend D old 1 u y) to (subst (λ (x : ℕ). CanSend D old 1 x head) from free), omega (arith, raised, start))
    over u v true false e i = let kept : next u v ≡ new u v = sent u v ∙ rw (e, i) refl in rw kept (w.over u v)
    over u v false b e i = let kept : next u v ≡ new u v = sent u v ∙ rw e refl in rw kept (w.over u v)

-- the unit has come to q
pub under_way_done : (D : Digraph) (q : ℕ) (old new : ℕ → ℕ → ℕ) (current : ℕ) → IsUnderWay D q old new current [] → SendsOne D q old new
under_way_done D q old new current w = record {
  balanced = λ k balanced set. let there = w.balanced k balanced set in let same : amount (has set current) 1 ≡ amount (has set q) 1 = ap (λ (x : ℕ). amount (has set x) 1) at_q in
      let one_more = plus (has set q) k in omega (arith, there, same, one_more);
  more = w.more;
  over = w.over;
}
  where
    alone : (a : Bool) → IsTrue (a || false) → IsTrue a
    alone true h = refl
    alone false h = absurd (false≢true h)

    at_q : current ≡ q
    at_q = eqb-true current q (alone (eqb current q) w.place)

    plus : (b : Bool) (k : ℕ) → amount b (k + 1) ≡ amount b k + amount b 1
    plus true k = refl
    plus false k = refl

pub reverse-push : (xs : List (ℕ × ℕ)) (x : ℕ × ℕ) → reverse (xs ++ x ∷ []) ≡ x ∷ reverse xs
reverse-push xs x = reverse-append xs (x ∷ [])

-- the last step is taken
pub under_way_taken : (D : Digraph) (q : ℕ) (old new next : ℕ → ℕ → ℕ) (current tail head : ℕ) (steps rest : List (ℕ × ℕ)) → IsDigraph D → steps ≡ rest ++ (tail, head) ∷ [] → tail ≡ current
    → ((u v : ℕ) → next u v ≡ cond (eqb tail u && eqb head v) (new u v + 1) (new u v)) → IsUnderWay D q old new current (reverse steps) → IsUnderWay D q old next head (reverse rest)
under_way_taken D q old new next current tail head steps rest h items here sent w =
    let turned : reverse steps ≡ (tail, head) ∷ reverse rest = ap reverse items ∙ reverse-push rest (tail, head) in
    under_way_step D q old new next tail head (reverse rest) h sent
    (subst (λ (x : ℕ). IsUnderWay D q old new x ((tail, head) ∷ reverse rest)) (sym here) (subst (λ (xs : List (ℕ × ℕ)). IsUnderWay D q old new current xs) turned w))

-- the last step begins elsewhere
pub under_way_left : (D : Digraph) (q : ℕ) (old new : ℕ → ℕ → ℕ) (current tail head : ℕ) (steps rest : List (ℕ × ℕ)) → steps ≡ rest ++ (tail, head) ∷ [] → (tail ≡ current → ⊥)
    → IsUnderWay D q old new current (reverse steps) → IsUnderWay D q old new current (reverse rest)
under_way_left D q old new current tail head steps rest items elsewhere w =
    let turned : reverse steps ≡ (tail, head) ∷ reverse rest = ap reverse items ∙ reverse-push rest (tail, head) in
    under_way_past D q old new current tail head (reverse rest) elsewhere (subst (λ (xs : List (ℕ × ℕ)). IsUnderWay D q old new current xs) turned w)

-- at most one unit more for each step that was taken
pub few_taken : (b : Bool) (next new length rest bound : ℕ) → next ≡ cond b (new + 1) new → length ≡ rest + 1 → new + length ≤ bound → next + rest ≤ bound
few_taken true next new length rest bound is long within = omega arith
few_taken false next new length rest bound is long within = omega arith
