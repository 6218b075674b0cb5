-- What a step on one word leaves of the rule of the others.
use Rattle.std.proofs.Common.{◌≡◌, ℕ, ◌≤◌, List, [], ◌∷◌, set, ◌∙◌, arith}
use Rattle.std.specs.List.{sum_by}
use Rattle.open_ledger.specs.declared.rule.Tally.{Tally}
use Rattle.open_ledger.specs.Rule.{IsOpenWord, IsClaimWord, IsHaltWord, Fits, IsKept}
use Rattle.seat_views.proofs.Places.{At, each_set}
use Rattle.seat_views.proofs.Sums.{sum_same}

module _ (budget : ℕ) (words : List ℕ) (views : List Tally) (k : IsKept budget words views) (id : ℕ) (v w : Tally) (here : At views id v) where
  pub open_same : w.ups ≡ v.ups → w.downs ≡ v.downs → w.busy ≡ v.busy
      → IsOpenWord k.open_word (sum_by (λ (u : Tally). u.ups) (set views id w)) (sum_by (λ (u : Tally). u.downs) (set views id w)) (sum_by (λ (u : Tally). u.busy) (set views id w))
  open_same ups downs busy = rw (sum_same (λ (u : Tally). u.ups) views id v w here ups, sum_same (λ (u : Tally). u.downs) views id v w here downs, sum_same (λ (u : Tally). u.busy) views id v w here busy) k.opened

  pub claims_same : w.granted ≡ v.granted → w.refused ≡ v.refused
      → IsClaimWord budget k.claim_word (sum_by (λ (u : Tally). u.granted) (set views id w)) (sum_by (λ (u : Tally). u.refused) (set views id w))
  claims_same granted refused = rw (sum_same (λ (u : Tally). u.granted) views id v w here granted, sum_same (λ (u : Tally). u.refused) views id v w here refused) k.claims

  pub halts_same : w.halts ≡ v.halts → w.sights ≡ v.sights
      → IsHaltWord k.halt_word (sum_by (λ (u : Tally). u.halts) (set views id w)) (sum_by (λ (u : Tally). u.sights) (set views id w))
  halts_same halts sights = rw (sum_same (λ (u : Tally). u.halts) views id v w here halts, sum_same (λ (u : Tally). u.sights) views id v w here sights) k.halts

  -- A seat's step keeps the rule where it keeps that of each word.
  pub kept : (open_word claim_word halt_word : ℕ) (after : List ℕ) → after ≡ open_word ∷ claim_word ∷ halt_word ∷ [] → 1 ≤ v.parts
      → w.parts ≡ v.parts → w.budget ≡ v.budget → w.refused ≤ v.parts
      → IsOpenWord open_word (sum_by (λ (u : Tally). u.ups) (set views id w)) (sum_by (λ (u : Tally). u.downs) (set views id w)) (sum_by (λ (u : Tally). u.busy) (set views id w))
      → IsClaimWord budget claim_word (sum_by (λ (u : Tally). u.granted) (set views id w)) (sum_by (λ (u : Tally). u.refused) (set views id w))
      → IsHaltWord halt_word (sum_by (λ (u : Tally). u.halts) (set views id w)) (sum_by (λ (u : Tally). u.sights) (set views id w))
      → IsKept budget after (set views id w)
  kept o c h after three some_part parts its_budget once opened claims halts = record {
    open_word = o;
    claim_word = c;
    halt_word = h;
    three = three;
    small = k.small;
    opened = opened;
    claims = claims;
    halts = halts;
    parts = sum_same (λ (u : Tally). u.parts) views id v w here parts ∙ k.parts;
    fits = each_set (Fits budget) views id w (record {
      budget_is = λ _. its_budget ∙ (k.fits id v here).budget_is some_part;
      once = omega arith;
      idle = λ none. absurd (omega arith);
    }) k.fits;
  }
