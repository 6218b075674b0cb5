-- What raises take of each arc and prize, together.
use Rattle.std.proofs.Common.{◌≡◌, ◌≢◌, ℕ, ◌+◌, ◌≤◌, Bool, true, false, List, [], ◌∷◌, ◌++◌, Some, ◌⊎◌, inl, inr, refl, sym, ap, ◌∙◌, subst, append_assoc, append-nil, arith}
use Rattle.std.specs.Prelude.{IsTrue, IsFalse, ◌==◌, if◌then◌else◌, All}
use Rattle.std.specs.List.{AllByRecursion}
use Rattle.std.proofs.lemmas.Bool.{eqb-true}
use Rattle.std.proofs.lemmas.List.Elements.{All-from_recursion}
use Rattle.st_model.specs.Lists.{has, total}
use Rattle.st_model.specs.Branch.{IsVertexSet}
use Rattle.st_model.proofs.Sums.{total-append}
use Rattle.bidirected_form.specs.declared.kind.VertexKind.TheVariants.{Outside, Must}
use Rattle.bidirected_form.specs.Digraph.{Digraph, kind_of, remaining}
use Rattle.bidirected_form.specs.Entering.{enters}
use Rattle.prize_transform.specs.Twins.{Ends, left_of, prize_for}
use Rattle.cut_packing.specs.declared.cut.Cut.{Cut}
use Rattle.cut_packing.specs.declared.packing.Packing.{Packing}
use Rattle.cut_packing.specs.Packing.{load, named}
use Rattle.dual_ascent.specs.Left.{AreEndsOf, FitsLeft, IsThere, raised}
use Rattle.dual_ascent.specs.Raises.{AreRaises, IsRaise, IsRaisable, here}

-- what holds of each place in a list, that it parts into what stands before and after
abbrev pub AtEachPlace : (List Cut → Cut → Type 0) → List Cut → Type 0
AtEachPlace Q cuts = (before : List Cut) (c : Cut) (after : List Cut) → cuts ≡ before ++ c ∷ after → Q before c

-- where each term is 0 or keeps the sum so far within a bound, the sum is within it
pub total_within : (f : Cut → ℕ) (r : ℕ) (cuts : List Cut) → AtEachPlace (λ before c. (f c ≡ 0) ⊎ (total f before + f c ≤ r)) cuts → total f cuts ≤ r
total_within f r cuts each = go [] cuts refl (omega arith)
  where
    more : (before : List Cut) (c : Cut) → total f before ≤ r → (f c ≡ 0) ⊎ (total f before + f c ≤ r) → total f (before ++ c ∷ []) ≤ r
    more before c h (inl none) = omega (arith, total-append f before (c ∷ []))
    more before c h (inr fits) = omega (arith, total-append f before (c ∷ []))

    go : (before rest : List Cut) → cuts ≡ before ++ rest → total f before ≤ r → total f cuts ≤ r
    go before [] e h = subst (λ (xs : List Cut). total f xs ≤ r) (sym (e ∙ append-nil before)) h
    go before (c ∷ rest) e h = go (before ++ c ∷ []) rest (e ∙ sym (append_assoc before (c ∷ []) rest)) (more before c h (each before c rest e))

-- what holds at each place holds of each cut
pub each_cut : (Q : Cut → Type 0) (cuts : List Cut) → AtEachPlace (λ before c. Q c) cuts → All Q cuts
each_cut Q cuts each = All-from_recursion Q cuts (go [] cuts refl)
  where
    go : (before rest : List Cut) → cuts ≡ before ++ rest → AllByRecursion Q rest
    go before [] e = tt
    go before (c ∷ rest) e = (each before c rest e, go (before ++ c ∷ []) rest (e ∙ sym (append_assoc before (c ∷ []) rest)))

-- no element stands in an empty list
pub nil_apart : {X : Type 0} (before : List X) (y : X) (after : List X) → [] ≡ before ++ y ∷ after → ⊥
nil_apart [] y after e = cc
nil_apart (b ∷ before) y after e = cc

-- an element of a list with one more at its end is that one, or stands in the list
split_push : {X : Type 0} (xs : List X) (x : X) (before : List X) (y : X) (after : List X) → xs ++ x ∷ [] ≡ before ++ y ∷ after → ((xs ≡ before) × (x ≡ y)) ⊎ ((rest : List X) × (xs ≡ before ++ y ∷ rest))
split_push [] x [] y after e = inl (refl, cc)
split_push [] x (b ∷ before) y after e = absurd (nil_apart before y after (let tails : [] ≡ before ++ y ∷ after = cc in tails))
split_push (a ∷ xs) x [] y after e = let same : a ≡ y = cc in inr (xs, ap (λ b. b ∷ xs) same)
split_push {X} (a ∷ xs) x (b ∷ before) y after e =
    let same : a ≡ b = cc in
    let tails : xs ++ x ∷ [] ≡ before ++ y ∷ after = cc in
    elim (split_push xs x before y after tails) [
      | inl last ↦ inl (let lists : xs ≡ before = last.0 in cc, last.1)
      | inr earlier ↦ inr (earlier.0, let lists : xs ≡ before ++ y ∷ earlier.0 = earlier.1 in cc)
    ]

-- raises and one more after them
pub raises_push : (D : Digraph) (E : Ends) (target : ℕ) (cuts : List Cut) (c : Cut) → AreRaises D E target cuts → IsRaise D E target cuts c → AreRaises D E target (cuts ++ c ∷ [])
raises_push D E target cuts c h new before d after e =
    elim (split_push cuts c before d after e) [
      | inl last ↦ subst (λ (x : Cut). IsRaise D E target before x) last.1 (subst (λ (xs : List Cut). IsRaise D E target xs c) last.0 new)
      | inr earlier ↦ h before d earlier.0 earlier.1
    ]

module _ (D : Digraph) (E : Ends) (target : ℕ) (cuts : List Cut) (raises : AreRaises D E target cuts) where
  -- no arc bears more than what remains of it
  pub raises_load : (u v r : ℕ) → remaining D u v ≡ Some r → load cuts (u, v) ≤ r
  raises_load u v r left = total_within (λ c. if enters c.set u v then c.y else 0) r cuts (λ before c after e. by_case before c (raises before c after e) (enters c.set u v) refl)
    where
      by_case : (before : List Cut) (c : Cut) → IsRaise D E target before c → (b : Bool) → enters c.set u v ≡ b → ((if b then c.y else 0) ≡ 0) ⊎ (load before (u, v) + (if b then c.y else 0) ≤ r)
      by_case before c raise true enter = inr (raise.least.arcs u v r enter left)
      by_case before c raise false enter = inl refl

  -- no vertex that may be left out is named for more than what is left of its prize
  pub raises_named : (q : ℕ) → kind_of D q ≢ Must → named cuts q ≤ left_of E q
  raises_named q free = total_within (λ c. if c.q == q then c.y else 0) (left_of E q) cuts (λ before c after e. by_case before c (raises before c after e) (c.q == q) refl)
    where
      by_case : (before : List Cut) (c : Cut) → IsRaise D E target before c → (b : Bool) → (c.q == q) ≡ b → ((if b then c.y else 0) ≡ 0) ⊎ (named before q + (if b then c.y else 0) ≤ left_of E q)
      by_case before c raise true same =
          let at_q : c.q ≡ q = eqb-true c.q q same in
          inr (subst (λ (v : ℕ). named before v + c.y ≤ left_of E v) at_q (raise.least.prize (subst (λ (v : ℕ). kind_of D v ≢ Must) (sym at_q) free)))
      by_case before c raise false other = inl refl

  -- together they are worth no more than the target
  pub raises_sum : raised cuts ≤ target
  raises_sum = total_within (λ c. c.y) target cuts (λ before c after e. inr (raises before c after e).least.room)

-- a packing of them fits what is left
pub raises_fit : (D : Digraph) (E : Ends) (target : ℕ) (cuts : List Cut) (P : Packing) → AreEndsOf D E → P ≡ record { root = Some D.root; cuts = cuts } → AreRaises D E target cuts → FitsLeft D E P
raises_fit D E target cuts P ends is raises = rw is (record {
  root = refl;
  held = each_cut (λ c. IsTrue (has c.set c.q) × IsThere D c.q) cuts (λ before c after e. let raise = raises before c after e in ((raise.exact c.q).1 here, is_there before c.q raise.raisable));
  borne = record {
    sets = each_cut (λ c. IsVertexSet D.n c.set × IsFalse (has c.set D.root)) cuts (λ before c after e. let raise = raises before c after e in (raise.set, raise.apart));
    arcs = raises_load D E target cuts raises;
    prizes = raises_named D E target cuts raises;
  };
})
  where
    is_there : (before : List Cut) (q : ℕ) → IsRaisable D E before q → IsThere D q
    is_there before q (inl must) out = let clash : Outside ≡ Must = sym out ∙ must in cc
    is_there before q (inr some) out = omega (arith, some, ends.within q, ap prize_for out)
