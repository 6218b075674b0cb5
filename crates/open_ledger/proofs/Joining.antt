-- Seats come and go.
use Rattle.std.proofs.Common.{◌≡◌, ℕ, ◌<◌, ◌^◌, [], ◌∷◌, set, sym, refl, ◌∙◌, inl, inr, arith}
use Rattle.std.proofs.lemmas.Bool.Decides.{nat_tests}
use Rattle.std.specs.List.{sum_by}
use Rattle.std.proofs.lemmas.List.Sums.{sum_by-cons}
use Rattle.atomic_table.specs.Table.{State, Splits, Joins}
use Rattle.atomic_table.proofs.Lists.{set_else}
use Rattle.open_ledger.specs.declared.rule.Tally.{Tally}
use Rattle.open_ledger.specs.Tally.{first_tally, newcomer, cut_from, both, spent}
use Rattle.open_ledger.specs.Rule.{Fits, IsKept}
use Rattle.seat_views.proofs.Places.{only_one, each_set, each_snoc}
use Rattle.seat_views.proofs.Sums.{sum_snoc, sum_cut, sum_joined}

one : (f : Tally → ℕ) (v : Tally) → sum_by f (v ∷ []) ≡ f v
one f v = let a = sum_by-cons f v [] in let b : sum_by f [] ≡ 0 = refl in omega arith

pub begins : (budget : ℕ) → budget < 2 ^ 63 → IsKept budget (1 ∷ 0 ∷ 0 ∷ []) (first_tally budget ∷ [])
begins budget small = let v = first_tally budget in record {
  open_word = 1;
  claim_word = 0;
  halt_word = 0;
  three = refl;
  small = small;
  opened = rw (one (λ u. u.ups) v, one (λ u. u.downs) v, one (λ u. u.busy) v) (refl, inr (omega arith));
  claims = rw (one (λ u. u.granted) v, one (λ u. u.refused) v) (refl, grind (arith, nat_tests));
  halts = rw (one (λ u. u.halts) v, one (λ u. u.sights) v) (inl (refl, refl, refl));
  parts = one (λ u. u.parts) v;
  fits = only_one (Fits budget) v (record { budget_is = λ _. refl; once = omega arith; idle = λ none. absurd (omega arith) });
}

pub forks : (budget id : ℕ) (v : Tally) → 1 < v.parts → v.refused ≡ 0
    → Splits (λ (s : State (Unit {0}) Tally). IsKept budget s.words s.views) id v (cut_from v) (newcomer v.budget)
forks budget id v many unclaimed s k here =
    let left = cut_from v in
    let right = newcomer v.budget in
    let its_budget : v.budget ≡ budget = (k.fits id v here).budget_is (omega arith) in record {
      open_word = k.open_word;
      claim_word = k.claim_word;
      halt_word = k.halt_word;
      three = k.three;
      small = k.small;
      opened = (
        rw (sum_cut (λ (u : Tally). u.ups) s.views id v left right here (omega arith), sum_cut (λ (u : Tally). u.downs) s.views id v left right here (omega arith)) k.opened.0,
        inr (let a = sum_snoc (λ (u : Tally). u.busy) (set s.views id left) right in omega arith),
      );
      claims = rw (sum_cut (λ (u : Tally). u.granted) s.views id v left right here (omega arith), sum_cut (λ (u : Tally). u.refused) s.views id v left right here (omega arith)) k.claims;
      halts = rw (sum_cut (λ (u : Tally). u.halts) s.views id v left right here (omega arith), sum_cut (λ (u : Tally). u.sights) s.views id v left right here (omega arith)) k.halts;
      parts = sum_cut (λ (u : Tally). u.parts) s.views id v left right here (omega arith) ∙ k.parts;
      fits = each_snoc (Fits budget) (set s.views id left) right (record { budget_is = λ _. its_budget; once = omega arith; idle = λ none. absurd (omega arith) })
          (each_set (Fits budget) s.views id left (record { budget_is = λ _. its_budget; once = omega arith; idle = λ none. absurd (omega arith) }) k.fits);
    }

pub merges : (budget id : ℕ) (v : Tally) (other : ℕ) (w : Tally) → 0 < v.parts
    → Joins (λ (s : State (Unit {0}) Tally). IsKept budget s.words s.views) id v other w (both v w) spent
merges budget id v other w part s k here apart there =
    let two = both v w in
    let mine = k.fits id v here in
    let theirs = k.fits other w (sym (set_else s.views id other two apart) ∙ there) in record {
      open_word = k.open_word;
      claim_word = k.claim_word;
      halt_word = k.halt_word;
      three = k.three;
      small = k.small;
      opened = rw (
        sum_joined (λ (u : Tally). u.ups) s.views id other v w two spent here there (omega arith),
        sum_joined (λ (u : Tally). u.downs) s.views id other v w two spent here there (omega arith),
        sum_joined (λ (u : Tally). u.busy) s.views id other v w two spent here there (omega arith),
      ) k.opened;
      claims = rw (sum_joined (λ (u : Tally). u.granted) s.views id other v w two spent here there (omega arith), sum_joined (λ (u : Tally). u.refused) s.views id other v w two spent here there (omega arith)) k.claims;
      halts = rw (sum_joined (λ (u : Tally). u.halts) s.views id other v w two spent here there (omega arith), sum_joined (λ (u : Tally). u.sights) s.views id other v w two spent here there (omega arith)) k.halts;
      parts = sum_joined (λ (u : Tally). u.parts) s.views id other v w two spent here there (omega arith) ∙ k.parts;
      fits = each_set (Fits budget) (set s.views id two) other spent (record { budget_is = λ some. absurd (omega arith); once = omega arith; idle = λ _. (refl, refl, refl, refl, refl, refl) })
          (each_set (Fits budget) s.views id two (record { budget_is = λ _. mine.budget_is part; once = (let a = mine.once in let b = theirs.once in omega arith); idle = λ none. absurd (omega arith) }) k.fits);
    }
