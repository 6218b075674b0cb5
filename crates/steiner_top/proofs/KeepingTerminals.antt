-- What steps keep of the vertices that have to be reached, where nobody pays.
use Rattle.std.proofs.Common.{◌≡◌, ℕ, zero, suc, ◌+◌, ◌-◌, ◌*◌, ◌<◌, ◌≤◌, Bool, true, false, cond, eqb, List, [], ◌∷◌, refl, sym, ap, subst, ◌∙◌, ◌⊎◌, inl, inr, arith}
use Rattle.std.proofs.lemmas.Bool.{cases_lt, eqb-true, false≢true}
use Rattle.std.proofs.lemmas.Bool.Decides.{nat_tests}
use Rattle.std.proofs.lemmas.Nat.{mul-le}
use Rattle.st_model.specs.declared.need.Need.{Need}
use Rattle.st_model.specs.declared.need.Need.TheVariants.{Required, Pays}
use Rattle.st_model.specs.Lists.{sum_to}
use Rattle.st_model.specs.Network.{IsVertex, is_needed, is_required, need_of, prize}
use Rattle.st_model.specs.Terminals.{NobodyPays, terminal_count}
use Rattle.st_model.proofs.Sums.{sum_to_same, sum_to_le, sum_to-add, sum_to_one, sum_to_at_most}
use Rattle.lift_back.specs.declared.step.Step.{Step}
use Rattle.lift_back.specs.declared.step.Step.TheVariants.{Pendant, Through, Forced, Detour}
use Rattle.lift_back.specs.State.{State}
use Rattle.lift_back.specs.Steps.{Applies, Takes, TakesForced, needs_forced}
use Rattle.twice_tree.proofs.Reached.{some_terminal}

-- what is left has no more required vertices, and some where there were some; nobody pays more, and only where two are required is anything paid besides
pub record KeepsTerminals (first last : State) : Type 0 where
  pub free : NobodyPays first.instance → NobodyPays last.instance
  pub fewer : terminal_count last.instance ≤ terminal_count first.instance
  pub some : 1 ≤ terminal_count first.instance → 1 ≤ terminal_count last.instance
  pub offset : terminal_count first.instance ≤ 1 → last.offset ≡ first.offset

-- ---- one step

-- where all need what they did
needs_stay : (before after : State) → after.instance.n ≡ before.instance.n → ((v : ℕ) → IsVertex before.instance.n v → need_of after.instance v ≡ need_of before.instance v) → after.offset ≡ before.offset → KeepsTerminals before after
needs_stay before after count needed offset = record {
  free = λ none v vertex. (let here = subst (λ (n : ℕ). IsVertex n v) count vertex in ap prize (needed v here) ∙ none v here);
  fewer = omega (arith, same);
  some = λ one. omega (arith, same, one);
  offset = λ few. offset;
}
  where
    same : terminal_count after.instance ≡ terminal_count before.instance
    same = ap (sum_to (λ (v : ℕ). cond (is_required after.instance v) 1 0)) count
        ∙ sum_to_same (λ (v : ℕ). cond (is_required after.instance v) 1 0) (λ (v : ℕ). cond (is_required before.instance v) 1 0) before.instance.n (λ v low high. ap (λ (need : Need). cond (is_needed need) 1 0) (needed v (low, high)))

module _ (before after : State) (v u cost : ℕ) (takes : TakesForced before after v u cost) where
  n : ℕ
  n = before.instance.n

  forced_need : (w : ℕ) → IsVertex before.instance.n w → need_of after.instance w ≡ needs_forced before v u w
  forced_need w vertex = takes.becomes.needed w vertex

  forced_prize : (w : ℕ) → prize (need_of before.instance w) ≡ 0 → prize (needs_forced before v u w) ≡ 0
  forced_prize w none = at (eqb w v) (eqb w u)
    where
      at : (a b : Bool) → prize (cond a (Pays 0) (cond b Required (need_of before.instance w))) ≡ 0
      at true b = refl
      at false true = refl
      at false false = none

  -- the neighbour counts instead of the vertex
  moved : (w : ℕ) → cond (is_needed (needs_forced before v u w)) 1 0 + cond (eqb v w) 1 0 ≤ cond (is_required before.instance w) 1 0 + cond (eqb u w) 1 0
  moved w = at (eqb w v) (eqb w u) (is_required before.instance w) refl refl refl
    where
      at : (a b r : Bool) → eqb w v ≡ a → eqb w u ≡ b → is_required before.instance w ≡ r → cond (is_needed (cond a (Pays 0) (cond b Required (need_of before.instance w)))) 1 0 + cond (eqb v w) 1 0 ≤ cond (is_required before.instance w) 1 0 + cond (eqb u w) 1 0
      at true b true is other needed =
          let back : eqb v w ≡ true = grind (arith, nat_tests) in
          rw (back, needed) (omega arith)
      at true b false is other needed = absurd (false≢true (sym needed ∙ subst (λ (x : ℕ). is_required before.instance x ≡ true) (sym (eqb-true w v is)) takes.allowed.required))
      at false true r is other needed =
          let back : eqb v w ≡ false = grind (arith, nat_tests) in
          let there : eqb u w ≡ true = grind (arith, nat_tests) in
          rw (back, there) (omega arith)
      at false false r is other needed =
          let back : eqb v w ≡ false = grind (arith, nat_tests) in
          rw back (omega arith)

  forced_fewer : terminal_count after.instance ≤ terminal_count before.instance
  forced_fewer =
      let count = ap (sum_to (λ (w : ℕ). cond (is_required after.instance w) 1 0)) takes.becomes.count in
      let needs = sum_to_same (λ (w : ℕ). cond (is_required after.instance w) 1 0) (λ (w : ℕ). cond (is_needed (needs_forced before v u w)) 1 0) before.instance.n (λ w low high. ap (λ (need : Need). cond (is_needed need) 1 0) (forced_need w (low, high))) in
      let less = sum_to_le (λ (w : ℕ). cond (is_needed (needs_forced before v u w)) 1 0 + cond (eqb v w) 1 0) (λ (w : ℕ). cond (is_required before.instance w) 1 0 + cond (eqb u w) 1 0) before.instance.n (λ w low high. moved w) in
      let left = sum_to-add (λ (w : ℕ). cond (is_needed (needs_forced before v u w)) 1 0) (λ (w : ℕ). cond (eqb v w) 1 0) before.instance.n in
      let right = sum_to-add (λ (w : ℕ). cond (is_required before.instance w) 1 0) (λ (w : ℕ). cond (eqb u w) 1 0) before.instance.n in
      let one = sum_to_one v 1 before.instance.n takes.allowed.vertex.0 takes.allowed.vertex.1 in
      let most = sum_to_at_most u 1 before.instance.n in
      omega (arith, count, needs, less, left, right, one, most)

  -- another one is required before and after
  forced_some : 1 ≤ terminal_count after.instance
  forced_some =
      let (w, vertex, required, other) = takes.allowed.other in
      let stays : is_required after.instance w ≡ true = ap is_needed (forced_need w vertex) ∙ at w (eqb w v) (eqb w u) refl required other in
      some_terminal after.instance w (record { vertex = subst (λ (m : ℕ). IsVertex m w) (sym takes.becomes.count) vertex; required = stays })
    where
      at : (w : ℕ) (a b : Bool) → eqb w v ≡ a → is_required before.instance w ≡ true → (w ≡ v → ⊥) → is_needed (cond a (Pays 0) (cond b Required (need_of before.instance w))) ≡ true
      at w true b is required other = absurd (other (eqb-true w v is))
      at w false true is required other = refl
      at w false false is required other = required

  -- so two are required before
  forced_two : 2 ≤ terminal_count before.instance
  forced_two =
      let (w, vertex, required, other) = takes.allowed.other in
      let less = sum_to_le (λ (x : ℕ). cond (eqb v x) 1 0 + cond (eqb w x) 1 0) (λ (x : ℕ). cond (is_required before.instance x) 1 0) before.instance.n (λ x low high. at w required other x (eqb v x) (eqb w x) (is_required before.instance x) refl refl refl) in
      let sum = sum_to-add (λ (x : ℕ). cond (eqb v x) 1 0) (λ (x : ℕ). cond (eqb w x) 1 0) before.instance.n in
      let one = sum_to_one v 1 before.instance.n takes.allowed.vertex.0 takes.allowed.vertex.1 in
      let two = sum_to_one w 1 before.instance.n vertex.0 vertex.1 in
      omega (arith, less, sum, one, two)
    where
      at : (w : ℕ) → is_required before.instance w ≡ true → (w ≡ v → ⊥) → (x : ℕ) (a b r : Bool) → eqb v x ≡ a → eqb w x ≡ b → is_required before.instance x ≡ r → cond a 1 0 + cond b 1 0 ≤ cond r 1 0
      at w required other x true true r here there is = absurd (other (eqb-true w x there ∙ sym (eqb-true v x here)))
      at w required other x true false true here there is = omega arith
      at w required other x true false false here there is = absurd (false≢true (sym is ∙ subst (λ (y : ℕ). is_required before.instance y ≡ true) (eqb-true v x here) takes.allowed.required))
      at w required other x false true true here there is = omega arith
      at w required other x false true false here there is = absurd (false≢true (sym is ∙ subst (λ (y : ℕ). is_required before.instance y ≡ true) (eqb-true w x there) required))
      at w required other x false false r here there is = omega arith

  forced_keeps : KeepsTerminals before after
  forced_keeps = record {
    free = λ none w vertex. (let here = subst (λ (m : ℕ). IsVertex m w) takes.becomes.count vertex in ap prize (forced_need w here) ∙ forced_prize w (none w here));
    fewer = forced_fewer;
    some = λ one. forced_some;
    offset = λ few. absurd (omega (arith, few, forced_two));
  }

step_keeps : (step : Step) (before after : State) → Takes step before after → KeepsTerminals before after
step_keeps (Pendant v) before after takes = needs_stay before after takes.becomes.count takes.becomes.needed takes.becomes.paid
step_keeps (Through v) before after (a, b, x, y, takes) = needs_stay before after takes.becomes.count takes.becomes.needed takes.becomes.paid
step_keeps (Forced v) before after (u, cost, takes) = forced_keeps before after v u cost takes
step_keeps (Detour a b inner) before after takes = needs_stay before after takes.becomes.count takes.becomes.needed takes.becomes.paid

-- ---- any steps

pub steps_keep_terminals : (steps : List Step) (first last : State) → Applies steps first last → KeepsTerminals first last
steps_keep_terminals [] first last same = subst (KeepsTerminals first) same (record { free = λ none. none; fewer = omega arith; some = λ one. one; offset = λ few. refl })
steps_keep_terminals (step ∷ steps) first last (next, is, takes, applies) =
    let here = step_keeps step first next takes in
    let rest = steps_keep_terminals steps next last applies in
    record {
      free = λ none. rest.free (here.free none);
      fewer = (let a = here.fewer in let b = rest.fewer in omega (arith, a, b));
      some = λ one. rest.some (here.some one);
      offset = λ few. rest.offset (let a = here.fewer in omega (arith, a, few)) ∙ here.offset few;
    }

-- ---- shares

-- where fewer are left, and what is paid besides counts as well
shared_by : (p d x y o z : ℕ) → (p + d ≡ 0 → o ≡ 0) → suc p * x ≤ 2 * p * y → y + o ≤ z → (suc p + d) * (x + o) ≤ 2 * (p + d) * z
shared_by p d x y o z none within less =
    let at_most = twice (cases_lt (2 * y) x) in
    let more = mul-le d x d (2 * y) (omega arith) at_most in
    let besides = by_count (p + d) none in
    let above = mul-le (2 * (p + d)) (y + o) (2 * (p + d)) z (omega arith) less in
    omega (arith, within, more, besides, above)
  where
    twice : (2 * y < x) ⊎ (x ≤ 2 * y) → x ≤ 2 * y
    twice (inl above) = absurd (let product = mul-le (suc p) (2 * y + 1) (suc p) x (omega arith) (omega (arith, above)) in omega (arith, product, within))
    twice (inr low) = low

    by_count : (q : ℕ) → (q ≡ 0 → o ≡ 0) → (q + 1) * o ≤ 2 * q * o
    by_count zero nothing = let zero_is = nothing refl in rw zero_is (omega arith)
    by_count (suc q) nothing = let product = mul-le 1 o (suc q) o (omega arith) (omega arith) in omega (arith, product)

pub shared : (t k x y o z : ℕ) → 1 ≤ k → k ≤ t → (t ≤ 1 → o ≡ 0) → k * x ≤ 2 * (k - 1) * y → y + o ≤ z → t * (x + o) ≤ 2 * (t - 1) * z
shared t zero x y o z some few none within less = absurd (omega (arith, some))
shared t (suc p) x y o z some few none within less =
    let one : suc p - 1 ≡ p = omega arith in
    let d = t - suc p in
    let all : suc p + d ≡ t = omega (arith, few) in
    let rest : t - 1 ≡ p + d = omega (arith, few) in
    let low : suc p * x ≤ 2 * p * y = subst (λ (q : ℕ). suc p * x ≤ 2 * q * y) one within in
    let law = shared_by p d x y o z (λ zero_is. none (omega (arith, zero_is, few))) low less in
    rw rest (subst (λ (m : ℕ). m * (x + o) ≤ 2 * (p + d) * z) all law)
