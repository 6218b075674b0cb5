-- The ids that a worker draws.
use Rattle.std.proofs.Common.{◌≡◌, ℕ, ◌+◌, ◌*◌, ◌<◌, ◌≤◌, Bool, true, false, cond, List, [], ◌∷◌, ◌++◌, append-nil, refl, sym, ap, ◌∙◌, arith}
use Rattle.std.specs.Prelude.{◌==◌}
use Rattle.std.specs.List.{flat_map}
use Rattle.std.proofs.lemmas.Bool.Decides.{nat_tests}
use Rattle.std.proofs.lemmas.List.Concat.{flat_map-append}
use Rattle.st_model.specs.declared.split_at.SplitAt.{SplitAt}
use Rattle.cut_packing.specs.declared.packing.Packing.{Packing}
use Rattle.search_core.specs.declared.done.Done.{Done}
use Rattle.search_core.specs.declared.done.Done.TheVariants.{Split, Close}
use Rattle.search_core.specs.Complete.{half_ids, times}
use Rattle.search_core.proofs.Ids.{times-append}
use Rattle.worker_loop.specs.Run.{drawn_ids}
use Rattle.worker_loop.specs.Progress.{AreDrawnBelow}

-- 1 where a number is x
abbrev one : ℕ → ℕ → ℕ
one a x = cond (a == x) 1 0

pub drawn_pushed : (done : List Done) (d : Done) (x : ℕ) → times x (drawn_ids (done ++ d ∷ [])) ≡ times x (drawn_ids done) + times x (half_ids d)
drawn_pushed done d x =
    ap (times x) (flat_map-append half_ids done (d ∷ []))
    ∙ (times-append x (flat_map half_ids done) (half_ids d ++ []) ∙ ap (λ (xs : List ℕ). times x (flat_map half_ids done) + times x xs) (append-nil (half_ids d)))

-- a close draws none
pub drawn_close : (seat workers next id : ℕ) (done : List Done) (P : Packing) → AreDrawnBelow seat workers next done → AreDrawnBelow seat workers next (done ++ Close id P ∷ [])
drawn_close seat workers next id done P h = record {
  some = h.some;
  drawn = record {
    once = λ x. at_most _ _ (same x) (h.drawn.once x);
    own = λ x there. h.drawn.own x (more _ _ (same x) there);
  };
  below = λ x above. same x ∙ h.below x above;
  next_own = h.next_own;
}
  where
    same : (x : ℕ) → times x (drawn_ids (done ++ Close id P ∷ [])) ≡ times x (drawn_ids done)
    same x = drawn_pushed done (Close id P) x ∙ plain (times x (drawn_ids done))
      where
        plain : (a : ℕ) → a + 0 ≡ a
        plain a = omega arith

    at_most : (a b : ℕ) → a ≡ b → b ≤ 1 → a ≤ 1
    at_most a b e h = omega arith

    more : (a b : ℕ) → a ≡ b → 0 < a → 0 < b
    more a b e h = omega arith

-- of the two ids that come next each is given once
apart : (next step x there : ℕ) → 0 < step → (next ≤ x → there ≡ 0) → there ≤ 1 → there + (one next x + (one (next + step) x + 0)) ≤ 1
apart next step x there some below once = by_case (next == x) refl (next + step == x) refl
  where
    by_case : (b : Bool) → (next == x) ≡ b → (c : Bool) → (next + step == x) ≡ c → there + (cond b 1 0 + (cond c 1 0 + 0)) ≤ 1
    by_case true is true e = absurd (grind (arith, nat_tests))
    by_case true is false e = let same : next ≡ x = grind (arith, nat_tests) in let none = below (omega arith) in omega (arith, none)
    by_case false is true e = let same : next + step ≡ x = grind (arith, nat_tests) in let none = below (omega arith) in omega (arith, none)
    by_case false is false e = omega (arith, once)

-- and those above them are not
above_both : (next step x there : ℕ) → (next ≤ x → there ≡ 0) → 0 < step → next + step + step ≤ x → there + (one next x + (one (next + step) x + 0)) ≡ 0
above_both next step x there below some above = by_case (next == x) refl (next + step == x) refl
  where
    by_case : (b : Bool) → (next == x) ≡ b → (c : Bool) → (next + step == x) ≡ c → there + (cond b 1 0 + (cond c 1 0 + 0)) ≡ 0
    by_case true is c e = let same : next ≡ x = grind (arith, nat_tests) in absurd (omega (arith, same, above, some))
    by_case false is true e = let same : next + step ≡ x = grind (arith, nat_tests) in absurd (omega (arith, same, above, some))
    by_case false is false e = let none = below (omega (arith, above)) in omega (arith, none)

-- each id is one of the seat's
own_so : (seat workers next x there : ℕ) → (0 < there → (j : ℕ) × (x ≡ 1 + seat + workers * j)) → (j : ℕ) × (next ≡ 1 + seat + workers * j)
    → 0 < there + (one next x + (one (next + workers) x + 0)) → (j : ℕ) × (x ≡ 1 + seat + workers * j)
own_so seat workers next x there own (k, is_next) some = by_case (next == x) refl (next + workers == x) refl some
  where
    step : (w j : ℕ) → w * (j + 1) ≡ w * j + w
    step w j = grind arith

    by_case : (b : Bool) → (next == x) ≡ b → (c : Bool) → (next + workers == x) ≡ c → 0 < there + (cond b 1 0 + (cond c 1 0 + 0)) → (j : ℕ) × (x ≡ 1 + seat + workers * j)
    by_case true is c e lt = let same : next ≡ x = grind (arith, nat_tests) in (k, sym same ∙ is_next)
    by_case false is true e lt = let same : next + workers ≡ x = grind (arith, nat_tests) in (k + 1, omega (arith, same, is_next, step workers k))
    by_case false is false e lt = own (omega (arith, lt))

-- a split draws two
pub drawn_split : (seat workers next id : ℕ) (at : SplitAt) (done : List Done) (P : Packing) → AreDrawnBelow seat workers next done
    → AreDrawnBelow seat workers (next + workers + workers) (done ++ Split id at next (next + workers) P ∷ [])
drawn_split seat workers next id at done P h = record {
  some = h.some;
  drawn = record {
    once = λ x. at_most _ _ (pushed x) (apart next workers x (times x (drawn_ids done)) h.some (h.below x) (h.drawn.once x));
    own = λ x there. own_so seat workers next x (times x (drawn_ids done)) (h.drawn.own x) h.next_own (more _ _ (pushed x) there);
  };
  below = λ x above. pushed x ∙ above_both next workers x (times x (drawn_ids done)) (h.below x) h.some above;
  next_own = (h.next_own.0 + 2, twice seat workers next h.next_own.0 h.next_own.1);
}
  where
    pushed : (x : ℕ) → times x (drawn_ids (done ++ Split id at next (next + workers) P ∷ [])) ≡ times x (drawn_ids done) + (one next x + (one (next + workers) x + 0))
    pushed x = drawn_pushed done (Split id at next (next + workers) P) x

    at_most : (a b : ℕ) → a ≡ b → b ≤ 1 → a ≤ 1
    at_most a b e h = omega arith

    more : (a b : ℕ) → a ≡ b → 0 < a → 0 < b
    more a b e h = omega arith

    two : (w j : ℕ) → w * (j + 2) ≡ w * j + w + w
    two w j = grind arith

    twice : (seat w next j : ℕ) → next ≡ 1 + seat + w * j → next + w + w ≡ 1 + seat + w * (j + 2)
    twice seat w next j e = omega (arith, e, two w j)
