-- What the words are between any two steps, and what each step tells its seat.
use Rattle.std.specs.Prelude.{◌≡◌, ◌⊎◌, ℕ, ◌+◌, ◌%◌, ◌^◌, ◌<◌, ◌≤◌, ◌==◌, min, if◌then◌else◌, nat_lt, List, [], ◌∷◌}
use Rattle.std.specs.List.{sum_by}
use mathlib.Core.Option.{some}
use lib.ListN.{get_elem?}
use Rattle.atomic_table.specs.Table.{Me}
use Rattle.open_ledger.specs.declared.rule.Tally.{Tally}
use Rattle.open_ledger.specs.Tally.{with_up, with_down, with_busy, with_grant, with_refusal, with_halt, with_sights}

-- The open word is 1 and all ups less all downs, modulo 2 ^ 64, and it is 0 where every seat saw 0 last.
abbrev pub IsOpenWord : ℕ → ℕ → ℕ → ℕ → Type 0
IsOpenWord word ups downs busy = ((word + downs) % 2 ^ 64 ≡ (1 + ups) % 2 ^ 64) × ((word ≡ 0) ⊎ (1 ≤ busy))

-- The claim word counts the claims, of which as many were granted as the budget has.
abbrev pub IsClaimWord : ℕ → ℕ → ℕ → ℕ → Type 0
IsClaimWord budget word granted refused = (word ≡ granted + refused) × (granted ≡ min budget word)

-- The halt word is 1 where somebody halted; else it is 0, and nobody saw a halt.
abbrev pub IsHaltWord : ℕ → ℕ → ℕ → Type 0
IsHaltWord word halts sights = ((word ≡ 0) × (halts ≡ 0) × (sights ≡ 0)) ⊎ ((word ≡ 1) × (1 ≤ halts))

-- A seat with a part knows the budget, a seat is refused at most once for each of its parts, and one without a part did nothing.
pub record Fits (budget : ℕ) (v : Tally) : Type 0 where
  pub budget_is : 1 ≤ v.parts → v.budget ≡ budget
  pub once : v.refused ≤ v.parts
  pub idle : v.parts ≡ 0 → (v.ups ≡ 0) × (v.downs ≡ 0) × (v.busy ≡ 0) × (v.granted ≡ 0) × (v.halts ≡ 0) × (v.sights ≡ 0)

-- There are three words, each of which is what the seats' counts add up to, and all parts are with the seats.
pub record IsKept (budget : ℕ) (words : List ℕ) (views : List Tally) : Type 0 where
  pub open_word : ℕ
  pub claim_word : ℕ
  pub halt_word : ℕ
  pub three : words ≡ open_word ∷ claim_word ∷ halt_word ∷ []
  pub small : budget < 2 ^ 63
  pub opened : IsOpenWord open_word (sum_by (λ (v : Tally). v.ups) views) (sum_by (λ (v : Tally). v.downs) views) (sum_by (λ (v : Tally). v.busy) views)
  pub claims : IsClaimWord budget claim_word (sum_by (λ (v : Tally). v.granted) views) (sum_by (λ (v : Tally). v.refused) views)
  pub halts : IsHaltWord halt_word (sum_by (λ (v : Tally). v.halts) views) (sum_by (λ (v : Tally). v.sights) views)
  pub parts : sum_by (λ (v : Tally). v.parts) views ≡ 65
  pub fits : (seat : ℕ) (v : Tally) → get_elem? views seat ≡ some v → Fits budget v

-- what a seat becomes, which holds no slot
abbrev pub Becomes : Me (Unit {0}) Tally → Tally → Type 0
Becomes w v = w ≡ (v, [])

abbrev pub upped : Tally → Me (Unit {0}) Tally → Type 0
upped v w = Becomes w (with_up v)

abbrev pub downed : Tally → Me (Unit {0}) Tally → Type 0
downed v w = Becomes w (with_down v)

-- The seat is busy unless it saw 0; who has every part knows what the word is.
abbrev pub saw_open : Tally → ℕ → Me (Unit {0}) Tally → Type 0
saw_open v found w = Becomes w (with_busy v (if found == 0 then 0 else 1)) × (v.parts ≡ 65 → IsOpenWord found v.ups v.downs v.busy)

-- A claim is granted where fewer than the budget came before it; no seat is granted more than the budget.
abbrev pub claimed : Tally → ℕ → Me (Unit {0}) Tally → Type 0
claimed v found w = Becomes w (if nat_lt found v.budget then with_grant v else with_refusal v) × (w.0.granted ≤ v.budget)

abbrev pub saw_claims : Tally → ℕ → Me (Unit {0}) Tally → Type 0
saw_claims v found w = Becomes w v × (v.parts ≡ 65 → IsClaimWord v.budget found v.granted v.refused)

abbrev pub halted : Tally → Me (Unit {0}) Tally → Type 0
halted v w = Becomes w (with_halt v)

-- The word is 0 or 1, and 1 where this seat halted or saw a halt; who has every part knows whether anybody halted.
abbrev pub saw_halt : Tally → ℕ → Me (Unit {0}) Tally → Type 0
saw_halt v found w = Becomes w (with_sights v found) × (found ≤ 1) × (1 ≤ v.halts + v.sights → found ≡ 1)
    × (v.parts ≡ 65 → IsHaltWord found v.halts v.sights)
