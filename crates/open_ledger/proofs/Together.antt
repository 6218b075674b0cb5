-- What a place knows that took in seats.
use Rattle.std.proofs.Common.{◌≡◌, ◌⊎◌, inl, inr, ℕ, zero, suc, ◌+◌, ◌<◌, ◌≤◌, length, subst, List, [], ◌∷◌, sym, refl, ap, ◌∙◌, arith}
use Rattle.std.specs.Prelude.{All, slice_index_or}
use Rattle.std.specs.List.{sum_by}
use Rattle.std.proofs.lemmas.List.Sums.{sum_by-cons}
use Rattle.atomic_table.specs.Seated.{TableId}
use Rattle.open_ledger.specs.declared.rule.Tally.{Tally}
use Rattle.open_ledger.specs.Tally.{both, with_busy}
use Rattle.open_ledger.specs.Rule.{IsOpenWord, IsClaimWord, IsHaltWord}
use Rattle.open_ledger.specs.Ledger.{IsUntouched}
use Rattle.open_ledger.specs.Seat.{Known, SaysWhy, SomeSaysWhy, ups_of, downs_of, granted_of, refused_of, halts_of, sights_of}
use Rattle.open_ledger.specs.Joined.{joined}

pub joined_budget : (v : Tally) (ss : List Known) → (joined v ss).budget ≡ v.budget
joined_budget v [] = refl
joined_budget v (s ∷ ss) = joined_budget (both v s.tally) ss

-- A count that adds up over two seats adds up over all.
pub joined_sum : (f : Tally → ℕ) → ((v w : Tally) → f (both v w) ≡ f v + f w) → (v : Tally) (ss : List Known) → f (joined v ss) ≡ f v + sum_by (λ (s : Known). f s.tally) ss
joined_sum f adds v [] = let a : sum_by (λ (s : Known). f s.tally) [] ≡ 0 = refl in omega arith
joined_sum f adds v (s ∷ ss) = let h = joined_sum f adds (both v s.tally) ss in let a = sum_by-cons (λ (s : Known). f s.tally) s ss in let b = adds v s.tally in omega arith

-- Where each is 0, so is the sum.
pub all_idle : (ss : List Known) → ((k : ℕ) (d : Known) → k < length ss → (slice_index_or ss k d).tally.busy ≡ 0) → sum_by (λ (s : Known). s.tally.busy) ss ≡ 0
all_idle [] each = refl
all_idle (s ∷ ss) each = let h = all_idle ss (λ k d lt. each (suc k) d (omega arith)) in let one = each 0 s (omega arith) in omega (arith, sum_by-cons (λ (s : Known). s.tally.busy) s ss)

-- The next seat is taken in.
pub goes_on : (v w p : Tally) (b : TableId) (rest now : List Known) (s : Known) (J : Tally) → rest ≡ s ∷ now → w ≡ both v p → p ≡ s.tally
    → ((k : ℕ) (d : Known) → k < length rest → (slice_index_or rest k d).ledger ≡ b) → joined v rest ≡ J
    → ((k : ℕ) (d : Known) → k < length now → (slice_index_or now k d).ledger ≡ b) × (joined w now ≡ J)
goes_on v w p b rest now s J is took same boards sum =
    let B : List Known → Type 0 = λ r. (k : ℕ) (d : Known) → k < length r → (slice_index_or r k d).ledger ≡ b in
    let boards' : B (s ∷ now) = subst B is boards in
    ((λ k d lt. boards' (suc k) d (omega arith)), ap (λ x. joined x now) (took ∙ ap (both v) same) ∙ ap (joined v) (sym is) ∙ sum)

-- What whoever took in all seats knows: what all of them did.
pub record Whole (budget : ℕ) (ss : List Known) (t : Tally) : Type 0 where
  pub parts_all : t.parts ≡ 65
  pub budget_is : t.budget ≡ budget
  pub ups_all : t.ups ≡ ups_of ss
  pub downs_all : t.downs ≡ downs_of ss
  pub granted_all : t.granted ≡ granted_of ss
  pub refused_all : t.refused ≡ refused_of ss
  pub halts_all : t.halts ≡ halts_of ss
  pub sights_all : t.sights ≡ sights_of ss

pub whole : (budget seats : ℕ) (v w : Tally) (ss : List Known) → IsUntouched v budget seats → w ≡ joined v ss → w.parts ≡ v.parts + length ss → length ss ≡ seats → Whole budget ss w
whole budget seats v w ss u is parts count = record {
  parts_all = (let a = u.parts_left in omega arith);
  budget_is = ap (λ (t : Tally). t.budget) is ∙ joined_budget v ss ∙ u.budget_is;
  ups_all = field (λ t. t.ups) (λ a b. refl) u.ups_none;
  downs_all = field (λ t. t.downs) (λ a b. refl) u.downs_none;
  granted_all = field (λ t. t.granted) (λ a b. refl) u.granted_none;
  refused_all = field (λ t. t.refused) (λ a b. refl) u.refused_none;
  halts_all = field (λ t. t.halts) (λ a b. refl) u.halts_none;
  sights_all = field (λ t. t.sights) (λ a b. refl) u.sights_none;
} where
  field : (f : Tally → ℕ) → ((a b : Tally) → f (both a b) ≡ f a + f b) → f v ≡ 0 → f w ≡ sum_by (λ (s : Known). f s.tally) ss
  field f adds none = let a = joined_sum f adds v ss in let b : f w ≡ f (joined v ss) = ap f is in omega arith

-- That whoever took in all seats is busy, is that one of them is.
pub busy_all : (v w : Tally) (ss : List Known) → v.busy ≡ 0 → w ≡ joined v ss → w.busy ≡ sum_by (λ (s : Known). s.tally.busy) ss
busy_all v w ss none is = let a = joined_sum (λ t. t.busy) (λ a b. refl) v ss in let b : w.busy ≡ (joined v ss).busy = ap (λ (t : Tally). t.busy) is in omega arith

-- The knowledge outlasts a look at the open word.
pub whole_busy : (budget : ℕ) (ss : List Known) (t u : Tally) (busy : ℕ) → u ≡ with_busy t busy → Whole budget ss t → Whole budget ss u
whole_busy budget ss t u busy is w = subst (Whole budget ss) (sym is) (record {
  parts_all = w.parts_all;
  budget_is = w.budget_is;
  ups_all = w.ups_all;
  downs_all = w.downs_all;
  granted_all = w.granted_all;
  refused_all = w.refused_all;
  halts_all = w.halts_all;
  sights_all = w.sights_all;
})

pub opened : (budget o : ℕ) (ss : List Known) (t : Tally) → Whole budget ss t → (t.parts ≡ 65 → IsOpenWord o t.ups t.downs t.busy) → IsOpenWord o (ups_of ss) (downs_of ss) t.busy
opened budget o ss t w knows = subst (λ n. IsOpenWord o n (downs_of ss) t.busy) w.ups_all (subst (λ n. IsOpenWord o t.ups n t.busy) w.downs_all (knows w.parts_all))

pub claimed : (budget c : ℕ) (ss : List Known) (t : Tally) → Whole budget ss t → (t.parts ≡ 65 → IsClaimWord t.budget c t.granted t.refused) → IsClaimWord budget c (granted_of ss) (refused_of ss)
claimed budget c ss t w knows = subst (λ n. IsClaimWord budget c n (refused_of ss)) w.granted_all
    (subst (λ n. IsClaimWord budget c t.granted n) w.refused_all (subst (λ n. IsClaimWord n c t.granted t.refused) w.budget_is (knows w.parts_all)))

pub halted : (budget h : ℕ) (ss : List Known) (t : Tally) → Whole budget ss t → (t.parts ≡ 65 → IsHaltWord h t.halts t.sights) → 0 < sights_of ss → 0 < halts_of ss
halted budget h ss t w knows some = by_case (knows w.parts_all) where
  by_case : IsHaltWord h t.halts t.sights → 0 < halts_of ss
  by_case (inl x) = let a = w.sights_all in let b = x.2 in absurd (omega arith)
  by_case (inr x) = let a = w.halts_all in let b = x.1 in omega arith

pub idle : (o busy : ℕ) (ss : List Known) → busy ≡ sum_by (λ (s : Known). s.tally.busy) ss → (o ≡ 0) ⊎ (1 ≤ busy)
    → ((k : ℕ) (d : Known) → k < length ss → (slice_index_or ss k d).tally.busy ≡ 0) → o ≡ 0
idle o busy ss is (inl x) each = x
idle o busy ss is (inr x) each = let a = all_idle ss each in absurd (omega arith)

-- Each seat says why, where the next one does and all that follow.
pub says-cons : (s : Known) (rest now : List Known) → rest ≡ s ∷ now → SaysWhy s → All SaysWhy now → All SaysWhy rest
says-cons s rest now is first later = subst (All SaysWhy) (sym is) each where
  each : All SaysWhy (s ∷ now)
  each zero d lt = first
  each (suc k) d lt = later k d (omega arith)

-- Where each seat that halted says why, and one did, some seat says why.
pub someone : (ss : List Known) → All SaysWhy ss → 0 < halts_of ss → SomeSaysWhy ss
someone [] each some = absurd (omega (arith, some))
someone (s ∷ ss) each some = by_case s.tally.halts refl (someone ss (λ k d lt. each (suc k) d (omega arith))) where
  by_case : (n : ℕ) → s.tally.halts ≡ n → (0 < halts_of ss → SomeSaysWhy ss) → SomeSaysWhy (s ∷ ss)
  by_case (suc n) is later = (s, (0, omega arith, refl), each 0 s (omega arith) (omega arith))
  by_case zero is later =
      let a = sum_by-cons (λ (x : Known). x.tally.halts) s ss in
      let rest = later (omega arith) in
      (rest.0, (suc rest.1.0, omega (arith, rest.1.1), rest.1.2), rest.2)
