-- Each step keeps the rule, and tells what it promises.
use Rattle.std.proofs.Common.{◌≡◌, ◌⊎◌, ℕ, ◌+◌, ◌-◌, ◌%◌, ◌^◌, ◌<◌, ◌≤◌, ◌==◌, min, Bool, true, false, List, [], set, sym, refl, ap, ◌∙◌, subst, inl, inr, arith}
use Rattle.std.proofs.lemmas.Bool.Decides.{nat_tests}
use Rattle.std.specs.Prelude.{slice_index, nat_lt, if◌then◌else◌}
use Rattle.std.specs.List.{sum_by}
use Rattle.atomic_table.specs.Table.{State, Me, Act, Valid, Allows, keeps, carried_after}
use Rattle.atomic_table.proofs.Lists.{set_here}
use Rattle.open_ledger.specs.declared.rule.Tally.{Tally}
use Rattle.open_ledger.specs.Tally.{with_up, with_down, with_busy, with_grant, with_refusal, with_halt, with_sights, spent}
use Rattle.open_ledger.specs.Rule.{IsOpenWord, IsClaimWord, IsHaltWord, Fits, IsKept, upped, downed, saw_open, claimed, saw_claims, halted, saw_halt}
use Rattle.open_ledger.proofs.Kept.{open_same, claims_same, halts_same, kept}
use Rattle.seat_views.proofs.Places.{At, in_range}
use Rattle.seat_views.proofs.Sums.{one_le, sum_same, sum_grown, sum_le, sum_whole}

abbrev Kept : ℕ → State (Unit {0}) Tally → Type 0
Kept budget s = IsKept budget s.words s.views

abbrev Mine : Type 0
Mine = Me (Unit {0}) Tally

-- whoever just did something on the open word is busy
busy_now : (views : List Tally) (id : ℕ) (v w : Tally) → At views id v → w.busy ≡ 1 → 1 ≤ sum_by (λ (u : Tally). u.busy) (set views id w)
busy_now views id v w here busy = let a = one_le (λ (u : Tally). u.busy) (set views id w) id w (set_here views id w (in_range views id v here)) in omega arith

up_word : (o u d : ℕ) → (o + d) % 2 ^ 64 ≡ (1 + u) % 2 ^ 64 → ((o + 1) % 2 ^ 64 + d) % 2 ^ 64 ≡ (1 + (u + 1)) % 2 ^ 64
up_word o u d e = omega arith

pub ups : (budget slots id : ℕ) (me : Mine) → me.1 ≡ [] → 0 < me.0.parts → Allows (Kept budget) slots id me 0 (λ n. (n + 1) % 2 ^ 64) (λ n w. upped me.0 w)
ups budget slots id me empty part s k _ here _ = (
  w,
  keeps,
  tt,
  kept budget s.words s.views k id v w here (f k.open_word) k.claim_word k.halt_word _ (ap (λ ws. set ws 0 (f (slice_index ws 0))) k.three) part refl refl (k.fits id v here).once
      (rw (sum_grown (λ (u : Tally). u.ups) s.views id 1 v w here refl, sum_same (λ (u : Tally). u.downs) s.views id v w here refl) (up_word k.open_word _ _ k.opened.0), inr (busy_now s.views id v w here refl))
      (claims_same budget s.words s.views k id v w here refl refl) (halts_same budget s.words s.views k id v w here refl refl),
  ap (λ c. (w, c)) empty,
) where
  v : Tally
  v = me.0

  w : Tally
  w = with_up me.0

  f : ℕ → ℕ
  f n = (n + 1) % 2 ^ 64

down_word : (o u d : ℕ) → (o + d) % 2 ^ 64 ≡ (1 + u) % 2 ^ 64 → ((o + (2 ^ 64 - 1)) % 2 ^ 64 + (d + 1)) % 2 ^ 64 ≡ (1 + u) % 2 ^ 64
down_word o u d e = omega arith

pub downs : (budget slots id : ℕ) (me : Mine) → me.1 ≡ [] → 0 < me.0.parts → Allows (Kept budget) slots id me 0 (λ n. (n + (2 ^ 64 - 1)) % 2 ^ 64) (λ n w. downed me.0 w)
downs budget slots id me empty part s k _ here _ = (
  w,
  keeps,
  tt,
  kept budget s.words s.views k id v w here (f k.open_word) k.claim_word k.halt_word _ (ap (λ ws. set ws 0 (f (slice_index ws 0))) k.three) part refl refl (k.fits id v here).once
      (rw (sum_same (λ (u : Tally). u.ups) s.views id v w here refl, sum_grown (λ (u : Tally). u.downs) s.views id 1 v w here refl) (down_word k.open_word _ _ k.opened.0), inr (busy_now s.views id v w here refl))
      (claims_same budget s.words s.views k id v w here refl refl) (halts_same budget s.words s.views k id v w here refl refl),
  ap (λ c. (w, c)) empty,
) where
  v : Tally
  v = me.0

  w : Tally
  w = with_down me.0

  f : ℕ → ℕ
  f n = (n + (2 ^ 64 - 1)) % 2 ^ 64

-- Who has every part knows what each word counts.
module _ (budget : ℕ) (words : List ℕ) (views : List Tally) (k : IsKept budget words views) (id : ℕ) (v : Tally) (here : At views id v) (all : v.parts ≡ 65) where
  whole : (f : Tally → ℕ) → f spent ≡ 0 → ((u : Tally) → Fits budget u → u.parts ≡ 0 → f u ≡ 0) → sum_by f views ≡ f v
  whole f nothing idle = sum_whole f (λ (u : Tally). u.parts) views id v spent here refl nothing (k.parts ∙ sym all) (λ seat u at. idle u (k.fits seat u at))

  pub whole_open : IsOpenWord k.open_word v.ups v.downs v.busy
  whole_open = subst (λ n. IsOpenWord k.open_word n v.downs v.busy) (whole (λ u. u.ups) refl (λ u fits none. (fits.idle none).0))
      (subst (λ n. IsOpenWord k.open_word (sum_by (λ (u : Tally). u.ups) views) n v.busy) (whole (λ u. u.downs) refl (λ u fits none. (fits.idle none).1))
      (subst (λ n. IsOpenWord k.open_word (sum_by (λ (u : Tally). u.ups) views) (sum_by (λ (u : Tally). u.downs) views) n) (whole (λ u. u.busy) refl (λ u fits none. (fits.idle none).2)) k.opened))

  pub whole_claims : IsClaimWord v.budget k.claim_word v.granted v.refused
  whole_claims = subst (λ n. IsClaimWord n k.claim_word v.granted v.refused) (sym ((k.fits id v here).budget_is (omega arith)))
      (subst (λ n. IsClaimWord budget k.claim_word n v.refused) (whole (λ u. u.granted) refl (λ u fits none. (fits.idle none).3))
      (subst (λ n. IsClaimWord budget k.claim_word (sum_by (λ (u : Tally). u.granted) views) n) (whole (λ u. u.refused) refl (λ u fits none. let a = fits.once in omega arith)) k.claims))

  pub whole_halts : IsHaltWord k.halt_word v.halts v.sights
  whole_halts = subst (λ n. IsHaltWord k.halt_word n v.sights) (whole (λ u. u.halts) refl (λ u fits none. (fits.idle none).4))
      (subst (λ n. IsHaltWord k.halt_word (sum_by (λ (u : Tally). u.halts) views) n) (whole (λ u. u.sights) refl (λ u fits none. (fits.idle none).5)) k.halts)

pub looks : (budget slots id : ℕ) (me : Mine) → me.1 ≡ [] → 0 < me.0.parts → Allows (Kept budget) slots id me 0 (λ n. n) (λ n w. saw_open me.0 n w)
looks budget slots id me empty part s k _ here _ = (
  w,
  keeps,
  tt,
  kept budget s.words s.views k id v w here found k.claim_word k.halt_word _ (ap (λ ws. set ws 0 (slice_index s.words 0)) k.three) part refl refl (k.fits id v here).once
      (rw (sum_same (λ (u : Tally). u.ups) s.views id v w here refl, sum_same (λ (u : Tally). u.downs) s.views id v w here refl, is) k.opened.0, busy_after (found == 0) refl)
      (claims_same budget s.words s.views k id v w here refl refl) (halts_same budget s.words s.views k id v w here refl refl),
  (ap (λ c. (w, c)) empty, λ all. subst (λ n. IsOpenWord n v.ups v.downs v.busy) (sym is) (whole_open budget s.words s.views k id v here all)),
) where
  v : Tally
  v = me.0

  found : ℕ
  found = slice_index s.words 0

  is : slice_index s.words 0 ≡ k.open_word
  is = ap (λ ws. slice_index ws 0) k.three

  w : Tally
  w = with_busy me.0 (if slice_index s.words 0 == 0 then 0 else 1)

  busy_after : (b : Bool) → (slice_index s.words 0 == 0) ≡ b → (slice_index s.words 0 ≡ 0) ⊎ (1 ≤ sum_by (λ (u : Tally). u.busy) (set s.views id w))
  busy_after true e = inl (grind (arith, nat_tests))
  busy_after false e = inr (busy_now s.views id me.0 w here (λ i. if e i then 0 else 1))

-- the claims don't wrap
few_claims : (budget : ℕ) (words : List ℕ) (views : List Tally) → IsKept budget words views → slice_index words 1 < 2 ^ 63 + 66
few_claims budget words views k =
    let is : slice_index words 1 ≡ k.claim_word = ap (λ ws. slice_index ws 1) k.three in
    let r = sum_le (λ (u : Tally). u.refused) (λ (u : Tally). u.parts) views (λ i v e. (k.fits i v e).once) in
    let p = k.parts in let a = k.claims.0 in let b = k.claims.1 in let c = k.small in grind (arith, nat_tests)

pub claims : (budget slots id : ℕ) (me : Mine) → me.1 ≡ [] → 0 < me.0.parts → me.0.refused < me.0.parts
    → Allows (Kept budget) slots id me 1 (λ n. (n + 1) % 2 ^ 64) (λ n w. claimed me.0 n w)
claims budget slots id me empty part unrefused s k _ here _ = by_case (nat_lt (slice_index s.words 1) me.0.budget) refl where
  found : ℕ
  found = slice_index s.words 1

  is : slice_index s.words 1 ≡ k.claim_word
  is = ap (λ ws. slice_index ws 1) k.three

  after : ℕ
  after = (slice_index s.words 1 + 1) % 2 ^ 64

  after_is : (slice_index s.words 1 + 1) % 2 ^ 64 ≡ k.claim_word + 1
  after_is = let f = few_claims budget s.words s.views k in let i = is in omega arith

  budget_is : me.0.budget ≡ budget
  budget_is = (k.fits id me.0 here).budget_is part

  granted_sum : Tally → ℕ
  granted_sum w = sum_by (λ (u : Tally). u.granted) (set s.views id w)

  refused_sum : Tally → ℕ
  refused_sum w = sum_by (λ (u : Tally). u.refused) (set s.views id w)

  keep : (w : Tally) → w.parts ≡ me.0.parts → w.ups ≡ me.0.ups → w.downs ≡ me.0.downs → w.busy ≡ me.0.busy → w.halts ≡ me.0.halts → w.sights ≡ me.0.sights
      → w.budget ≡ me.0.budget → w.refused ≤ me.0.parts
      → IsClaimWord budget after (granted_sum w) (refused_sum w) → IsKept budget (set s.words 1 after) (set s.views id w)
  keep w p u d b h g its_budget r both = kept budget s.words s.views k id me.0 w here k.open_word after k.halt_word _ (ap (λ ws. set ws 1 after) k.three) part p its_budget r
      (open_same budget s.words s.views k id me.0 w here u d b) both (halts_same budget s.words s.views k id me.0 w here h g)

  within : (w : Tally) → IsClaimWord budget after (granted_sum w) (refused_sum w) → w.granted ≤ me.0.budget
  within w both = let a = one_le (λ (u : Tally). u.granted) (set s.views id w) id w (set_here s.views id w (in_range s.views id me.0 here)) in
      let b : granted_sum w ≡ min budget after = both.1 in let c = budget_is in grind (arith, nat_tests)

  by_case : (b : Bool) → nat_lt (slice_index s.words 1) me.0.budget ≡ b → (w : Tally) × (a : Act (Unit {0})) × Valid s.homes me.1 a
      × IsKept budget (set s.words 1 after) (set s.views id w) × claimed me.0 found (w, carried_after me.1 a)
  by_case true e =
      let w = with_grant me.0 in
      let g = sum_grown (λ (u : Tally). u.granted) s.views id 1 me.0 w here refl in
      let r = sum_same (λ (u : Tally). u.refused) s.views id me.0 w here refl in
      let both : IsClaimWord budget after (granted_sum w) (refused_sum w) = let a = k.claims.0 in let c = k.claims.1 in let i = is in let n = after_is in let m = budget_is in (omega arith, grind (arith, nat_tests)) in (
        w,
        keeps,
        tt,
        keep w refl refl refl refl refl refl refl (omega arith) both,
        ((λ i. ((if sym e i then with_grant me.0 else with_refusal me.0), empty i)), within w both),
      )
  by_case false e =
      let w = with_refusal me.0 in
      let g = sum_same (λ (u : Tally). u.granted) s.views id me.0 w here refl in
      let r = sum_grown (λ (u : Tally). u.refused) s.views id 1 me.0 w here refl in
      let both : IsClaimWord budget after (granted_sum w) (refused_sum w) = let a = k.claims.0 in let c = k.claims.1 in let i = is in let n = after_is in let m = budget_is in (omega arith, grind (arith, nat_tests)) in (
        w,
        keeps,
        tt,
        keep w refl refl refl refl refl refl refl (omega arith) both,
        ((λ i. ((if sym e i then with_grant me.0 else with_refusal me.0), empty i)), within w both),
      )

pub counts : (budget slots id : ℕ) (me : Mine) → me.1 ≡ [] → 0 < me.0.parts → Allows (Kept budget) slots id me 1 (λ n. n) (λ n w. saw_claims me.0 n w)
counts budget slots id me empty part s k _ here _ = (
  me.0,
  keeps,
  tt,
  kept budget s.words s.views k id me.0 me.0 here k.open_word (slice_index s.words 1) k.halt_word _ (ap (λ ws. set ws 1 (slice_index s.words 1)) k.three) part refl refl (k.fits id me.0 here).once
      (open_same budget s.words s.views k id me.0 me.0 here refl refl refl)
      (subst (λ n. IsClaimWord budget n (sum_by (λ (u : Tally). u.granted) (set s.views id me.0)) (sum_by (λ (u : Tally). u.refused) (set s.views id me.0))) (sym is) (claims_same budget s.words s.views k id me.0 me.0 here refl refl))
      (halts_same budget s.words s.views k id me.0 me.0 here refl refl),
  (ap (λ c. (me.0, c)) empty, λ all. subst (λ n. IsClaimWord me.0.budget n me.0.granted me.0.refused) (sym is) (whole_claims budget s.words s.views k id me.0 here all)),
) where
  is : slice_index s.words 1 ≡ k.claim_word
  is = ap (λ ws. slice_index ws 1) k.three

pub stops : (budget slots id : ℕ) (me : Mine) → me.1 ≡ [] → 0 < me.0.parts → Allows (Kept budget) slots id me 2 (λ _. 1) (λ _ w. halted me.0 w)
stops budget slots id me empty part s k _ here _ = (
  w,
  keeps,
  tt,
  kept budget s.words s.views k id me.0 w here k.open_word k.claim_word 1 _ (ap (λ ws. set ws 2 1) k.three) part refl refl (k.fits id me.0 here).once
      (open_same budget s.words s.views k id me.0 w here refl refl refl) (claims_same budget s.words s.views k id me.0 w here refl refl)
      (inr (refl, let a = sum_grown (λ (u : Tally). u.halts) s.views id 1 me.0 w here refl in omega arith)),
  ap (λ c. (w, c)) empty,
) where
  w : Tally
  w = with_halt me.0

pub sees : (budget slots id : ℕ) (me : Mine) → me.1 ≡ [] → 0 < me.0.parts → Allows (Kept budget) slots id me 2 (λ n. n) (λ n w. saw_halt me.0 n w)
sees budget slots id me empty part s k _ here _ = (
  w,
  keeps,
  tt,
  kept budget s.words s.views k id me.0 w here k.open_word k.claim_word found _ (ap (λ ws. set ws 2 (slice_index s.words 2)) k.three) part refl refl (k.fits id me.0 here).once
      (open_same budget s.words s.views k id me.0 w here refl refl refl) (claims_same budget s.words s.views k id me.0 w here refl refl) (after now),
  (ap (λ c. (w, c)) empty, bit now, known now, λ all. subst (λ n. IsHaltWord n me.0.halts me.0.sights) (sym is) (whole_halts budget s.words s.views k id me.0 here all)),
) where
  found : ℕ
  found = slice_index s.words 2

  is : slice_index s.words 2 ≡ k.halt_word
  is = ap (λ ws. slice_index ws 2) k.three

  w : Tally
  w = with_sights me.0 (slice_index s.words 2)

  halts : ℕ
  halts = sum_by (λ (u : Tally). u.halts) s.views

  sights : ℕ
  sights = sum_by (λ (u : Tally). u.sights) s.views

  now : IsHaltWord (slice_index s.words 2) halts sights
  now = subst (λ n. IsHaltWord n halts sights) (sym is) k.halts

  after : IsHaltWord (slice_index s.words 2) halts sights → IsHaltWord (slice_index s.words 2) (sum_by (λ (u : Tally). u.halts) (set s.views id w)) (sum_by (λ (u : Tally). u.sights) (set s.views id w))
  after (inl x) = let a = sum_same (λ (u : Tally). u.halts) s.views id me.0 w here refl in let b = sum_grown (λ (u : Tally). u.sights) s.views id found me.0 w here refl in
      let z = x.0 in let h = x.1 in let g = x.2 in inl (x.0, omega arith, omega arith)
  after (inr x) = let a = sum_same (λ (u : Tally). u.halts) s.views id me.0 w here refl in let h = x.1 in inr (x.0, omega arith)

  bit : IsHaltWord (slice_index s.words 2) halts sights → slice_index s.words 2 ≤ 1
  bit (inl x) = let z = x.0 in omega arith
  bit (inr x) = let z = x.0 in omega arith

  known : IsHaltWord (slice_index s.words 2) halts sights → 1 ≤ me.0.halts + me.0.sights → slice_index s.words 2 ≡ 1
  known (inl x) some = let a = one_le (λ (u : Tally). u.halts) s.views id me.0 here in let b = one_le (λ (u : Tally). u.sights) s.views id me.0 here in
      let h = x.1 in let g = x.2 in absurd (omega arith)
  known (inr x) some = x.0
