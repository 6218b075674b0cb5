-- Each step keeps the rule.
use Rattle.std.proofs.Common.{◌≡◌, ◌≢◌, ℕ, ◌<◌, ◌≤◌, min, List, [], ◌∷◌, ◌++◌, length, set, sym, refl, ap, ◌∙◌, subst, ⊎_elim, arith}
use Rattle.std.proofs.lemmas.Bool.Decides.{nat_tests}
use Rattle.std.specs.Prelude.{slice_index}
use Rattle.std.specs.List.{sum_by}
use mathlib.Core.Option.{some, some-injective}
use lib.ListN.{get_elem?}
use Rattle.atomic_table.specs.Table.{State, Me, Allows, keeps}
use Rattle.atomic_table.proofs.Lists.{at_set, set_here}
use Rattle.incumbent.specs.declared.rule.Hand.{Hand}
use Rattle.incumbent.specs.Least.{least_of}
use Rattle.incumbent.specs.Rule.{hand, Fits, IsLeast, IsKept, saw, offered}
use Rattle.incumbent.proofs.Least.{least_at_start, least_append}
use Rattle.seat_views.proofs.Places.{in_range}
use Rattle.seat_views.proofs.Sums.{two_le, sum_set}

-- the seat's own view after a step, with a word that is the less of both
pub kept_set : (start n m : ℕ) (views : List Hand) (id : ℕ) (v w : Hand) → IsLeast start n views
    → ((seat : ℕ) (u : Hand) → get_elem? views seat ≡ some u → Fits start n u)
    → sum_by (λ (u : Hand). u.parts) views ≡ 65
    → get_elem? views id ≡ some v → id < length views → w.parts ≡ v.parts → 0 < v.parts → w.start ≡ v.start
    → m ≤ n → m ≤ least_of start w.offers → m ≤ w.lowest → ((y : ℕ) → y ≤ n → y ≤ least_of start w.offers → y ≤ m) → least_of start w.offers ≤ least_of start v.offers
    → IsKept start (m ∷ []) (set views id w)
kept_set start n m views id v w least fits parts here in_range same_parts part same_start down offers lowest greatest fewer = record {
  word = m;
  one = refl;
  least = record {
    at_start = let a = least.at_start in omega arith;
    at_offers = λ seat u e. ⊎_elim (λ (x : (seat ≡ id) × (w ≡ u)). subst (λ (k : Hand). m ≤ least_of start k.offers) x.1 offers)
        (λ (x : (seat ≢ id) × (get_elem? views seat ≡ some u)). let a = least.at_offers seat u x.1 in omega arith) (at_set views id seat w u e);
    greatest = λ y low all.
        let mine = all id w (set_here views id w in_range) in
        greatest y (least.greatest y low (λ seat u e. by_case y mine all seat u e (native.Mathlib.Decide.ℕ_discrete seat id))) mine;
  };
  fits = λ seat u e. ⊎_elim (λ (x : (seat ≡ id) × (w ≡ u)). subst (λ (k : Hand). Fits start m k) x.1 (record {
    start_is = λ some_part. same_start ∙ (fits id v here).start_is part;
    above = λ some_part. lowest;
    idle = λ none. absurd (omega arith);
  }))
      (λ (x : (seat ≢ id) × (get_elem? views seat ≡ some u)). let f = fits seat u x.1 in record {
        start_is = f.start_is;
        above = λ some_part. let a = f.above some_part in omega arith;
        idle = f.idle;
      }) (at_set views id seat w u e);
  parts = let s = sum_set (λ (u : Hand). u.parts) views id v w here in omega arith;
} where
  by_case : (y : ℕ) → y ≤ least_of start w.offers → ((seat : ℕ) (u : Hand) → get_elem? (set views id w) seat ≡ some u → y ≤ least_of start u.offers)
      → (seat : ℕ) (u : Hand) → get_elem? views seat ≡ some u → Dec (seat ≡ id) → y ≤ least_of start u.offers
  by_case y mine all seat u e (yes same) = let p : get_elem? views id ≡ some u = subst (λ k. get_elem? views k ≡ some u) same e in
      let q : v ≡ u = some-injective v u (sym here ∙ p) in
      let r : least_of start v.offers ≡ least_of start u.offers = ap (λ (k : Hand). least_of start k.offers) q in omega arith
  by_case y mine all seat u e (no other) = all seat u (Rattle.atomic_table.proofs.Lists.set_else views id seat w other ∙ e)

-- who has every part knows all offers
pub whole : (start n : ℕ) (views : List Hand) (id : ℕ) (v : Hand) → IsLeast start n views
    → ((seat : ℕ) (u : Hand) → get_elem? views seat ≡ some u → Fits start n u)
    → sum_by (λ (u : Hand). u.parts) views ≡ 65
    → get_elem? views id ≡ some v → v.parts ≡ 65 → n ≡ least_of start v.offers
whole start n views id v least fits parts here all =
    let low : least_of start v.offers ≤ n = least.greatest (least_of start v.offers) (least_at_start start v.offers) (λ seat u e. by_case seat u e (native.Mathlib.Decide.ℕ_discrete seat id)) in
    let high = least.at_offers id v here in omega arith where
      by_case : (seat : ℕ) (u : Hand) → get_elem? views seat ≡ some u → Dec (seat ≡ id) → least_of start v.offers ≤ least_of start u.offers
      by_case seat u e (yes same) = let p : get_elem? views id ≡ some u = subst (λ k. get_elem? views k ≡ some u) same e in
          let q : v ≡ u = some-injective v u (sym here ∙ p) in
          let r : least_of start v.offers ≡ least_of start u.offers = ap (λ (k : Hand). least_of start k.offers) q in omega arith
      by_case seat u e (no other) = let two = two_le (λ (k : Hand). k.parts) views id seat v u here e other in
          let none : u.offers ≡ [] = (fits seat u e).idle (omega arith) in
          let r : least_of start u.offers ≡ start = ap (least_of start) none in
          let s = least_at_start start v.offers in omega arith

-- the word of a state that keeps the rule
found_in : (start : ℕ) (words : List ℕ) (views : List Hand) → IsKept start words views → IsLeast start (slice_index words 0) views × ((seat : ℕ) (u : Hand) → get_elem? views seat ≡ some u → Fits start (slice_index words 0) u)
found_in start words views k = let at : k.word ≡ slice_index words 0 = sym (ap (λ ws. slice_index ws 0) k.one) in
    (subst (λ n. IsLeast start n views) at k.least, subst (λ n. (seat : ℕ) (u : Hand) → get_elem? views seat ≡ some u → Fits start n u) at k.fits)

with_word : (start m : ℕ) (words : List ℕ) (views : List Hand) → (n : ℕ) → words ≡ n ∷ [] → IsKept start (m ∷ []) views → IsKept start (set words 0 m) views
with_word start m words views n one k = subst (λ ws. IsKept start ws views) (sym (ap (λ ws. set ws 0 m) one)) k

pub looks : (start slots id : ℕ) (me : Me (Unit {0}) Hand) → me.1 ≡ [] → 0 < me.0.parts
    → Allows (λ (s : State (Unit {0}) Hand). IsKept start s.words s.views) slots id me 0 (λ n. n) (λ n w. saw me.0 n w)
looks start slots id me empty part s kept _ here _ =
    let n = slice_index s.words 0 in
    let v = me.0 in
    let w = hand v.parts v.start v.offers n in
    let is = found_in start s.words s.views kept in
    let mine = is.1 id v here in
    let least = is.0.at_offers id v here in (
      w,
      keeps,
      tt,
      with_word start n s.words (set s.views id w) kept.word kept.one
          (kept_set start n n s.views id v w is.0 is.1 kept.parts here (in_range s.views id v here) refl part refl (omega arith) (omega arith) (omega arith) (λ y a b. a) (omega arith)),
      (mine.above part, ap (λ c. (w, c)) empty, λ all. whole start n s.views id v is.0 is.1 kept.parts here all ∙ ap (λ k. least_of k v.offers) (sym (mine.start_is part))),
    )

pub offers : (start slots id x : ℕ) (me : Me (Unit {0}) Hand) → me.1 ≡ [] → 0 < me.0.parts
    → Allows (λ (s : State (Unit {0}) Hand). IsKept start s.words s.views) slots id me 0 (λ n. min n x) (λ n w. offered me.0 x n w)
offers start slots id x me empty part s kept _ here _ =
    let n = slice_index s.words 0 in
    let v = me.0 in
    let w = hand v.parts v.start (v.offers ++ x ∷ []) (min n x) in
    let is = found_in start s.words s.views kept in
    let mine = is.1 id v here in
    let least = is.0.at_offers id v here in
    let low = is.0.at_start in
    let joined = least_append start v.offers (x ∷ []) in
    let only : least_of start (x ∷ []) ≡ min x start = refl in (
      w,
      keeps,
      tt,
      with_word start (min n x) s.words (set s.views id w) kept.word kept.one
          (kept_set start n (min n x) s.views id v w is.0 is.1 kept.parts here (in_range s.views id v here) refl part refl (grind (arith, nat_tests)) (grind (arith, nat_tests)) (omega arith) (λ y a b. grind (arith, nat_tests)) (grind (arith, nat_tests))),
      (mine.above part, ap (λ c. (w, c)) empty),
    )
