-- The vertices that pass a test, as an ascending list.
use Rattle.std.proofs.Common.{◌≡◌, ℕ, ◌+◌, ◌-◌, Bool, true, false, inl, inr, List, [], ◌∷◌, ◌++◌, length, get_or, refl, sym, subst, ◌∙◌, arith, length-append}
use Rattle.std.specs.Prelude.{All, IsTrue, IsFalse}
use Rattle.std.specs.List.Sorted.{IsStrictlyIncreasing}
use Rattle.std.proofs.Math.Bool.{or_comm}
use Rattle.std.proofs.lemmas.Bool.{cases_lt, false_from_ne_true}
use Rattle.std.proofs.lemmas.Bool.Decides.{eqb_tells}
use Rattle.std.proofs.lemmas.List.{get_or_append_left, get_or-append_right}
use Rattle.std.proofs.lemmas.List.Elements.{All-push, All-weaker}
use Rattle.st_model.specs.Lists.{has}
use Rattle.st_model.specs.Network.{IsVertex}
use Rattle.st_model.proofs.Branches.{IsVertexSet-nil, IsVertexSet-member}
use Rattle.st_model.proofs.Marked.{has-push}
use Rattle.st_model.specs.Branch.{AreThose}

-- none so far
pub AreThose-none : (test : ℕ → Bool) → AreThose test 0 []
AreThose-none test = record {
  set = IsVertexSet-nil 0;
  same = λ v h. let low = h.0 in let high = h.1 in absurd (omega arith);
}

wider : (last : ℕ) (list : List ℕ) → All (IsVertex last) list → All (IsVertex (last + 1)) list
wider last list all = All-weaker (IsVertex last) (IsVertex (last + 1)) (λ x h. let high = h.1 in (h.0, omega arith)) list all

-- the next vertex passes
pub AreThose-push : (test : ℕ → Bool) (last : ℕ) (list : List ℕ) → AreThose test last list → IsTrue (test (last + 1)) → AreThose test (last + 1) (list ++ (last + 1) ∷ [])
AreThose-push test last list are there = record {
  set = record { ascending = ascending; in_range = All-push (IsVertex (last + 1)) list (last + 1) (wider last list are.set.in_range) (omega arith, omega arith) };
  same = same;
}
  where
    ascending : IsStrictlyIncreasing (list ++ (last + 1) ∷ [])
    ascending k h = elim (cases_lt (k + 1) (length list)) [
      | inl below ↦
          let left = get_or_append_left list ((last + 1) ∷ []) 0 k (omega arith) in
          let right = get_or_append_left list ((last + 1) ∷ []) 0 (k + 1) below in
          let before = are.set.ascending k below in
          omega (arith, left, right, before)
      | inr above ↦
          let long = length-append list ((last + 1) ∷ []) in
          let at_end : length list ≡ k + 1 = omega (arith, long, h) in
          let left = get_or_append_left list ((last + 1) ∷ []) 0 k (omega arith) in
          let right : get_or (list ++ (last + 1) ∷ []) (k + 1) 0 ≡ last + 1 = subst (λ j. get_or (list ++ (last + 1) ∷ []) j 0 ≡ last + 1) at_end (get_or-append_right list ((last + 1) ∷ []) (length list) (length list) 0 refl (omega arith) ∙ first (length list)) in
          let small = (are.set.in_range k 0 (omega arith)).1 in
          omega (arith, left, right, small)
    ]
      where
        first : (n : ℕ) → get_or ((last + 1) ∷ []) (n - n) 0 ≡ last + 1
        first n = let e : n - n ≡ 0 = omega arith in rw e refl

    same : (v : ℕ) → IsVertex (last + 1) v → has (list ++ (last + 1) ∷ []) v ≡ test v
    same v h = elim (eqb_tells (last + 1) v) [
      | inl e ↦ has-push list (last + 1) v ∙ (rw (e.0, or_comm (has list v) true) (sym (subst (λ w. IsTrue (test w)) e.1 there)))
      | inr e ↦ let low = h.0 in let high = h.1 in let other = e.1 in has-push list (last + 1) v ∙ (rw (e.0, or_comm (has list v) false) (are.same v (low, omega arith)))
    ]

-- the next vertex doesn't
pub AreThose-skip : (test : ℕ → Bool) (last : ℕ) (list : List ℕ) → AreThose test last list → IsFalse (test (last + 1)) → AreThose test (last + 1) list
AreThose-skip test last list are off = record {
  set = record { ascending = are.set.ascending; in_range = wider last list are.set.in_range };
  same = same;
}
  where
    none : IsFalse (has list (last + 1))
    none = false_from_ne_true (has list (last + 1)) (λ h. let high = (IsVertexSet-member last list (last + 1) are.set h).1 in omega arith)

    same : (v : ℕ) → IsVertex (last + 1) v → has list v ≡ test v
    same v h = elim (eqb_tells (last + 1) v) [
      | inl e ↦ subst (λ w. has list w ≡ test w) e.1 (none ∙ sym off)
      | inr e ↦ let low = h.0 in let high = h.1 in let other = e.1 in are.same v (low, omega arith)
    ]
