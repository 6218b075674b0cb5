use Rattle.std.proofs.Common.{◌≡◌, ℕ, ◌+◌, Bool, true, false, cond, eqb, Option, Some, refl, ap, ◌∙◌, arith}
use Rattle.std.specs.Prelude.{◌&&◌, unwrap_or}
use Rattle.std.proofs.lemmas.Bool.Decides.{nat_tests}
use Rattle.flow_cuts.specs.Sending.{sent}
use Rattle.flow_cuts.proofs.flow.Flow.send.Goals as goal

stored : (b : Bool) (o : Option ℕ) (x : ℕ) → (b ≡ true → x ≡ unwrap_or o 0 + 1) → unwrap_or (cond b (Some x) o) 0 ≡ cond b (unwrap_or o 0 + 1) (unwrap_or o 0)
stored true o x h = h refl
stored false o x h = refl

same_place : (F : ℕ → ℕ → ℕ) (t h u v x : ℕ) → x ≡ F t h → (eqb t u && eqb h v) ≡ true → x + 1 ≡ F u v + 1
same_place F t h u v x is both =
    let first : t ≡ u = grind (arith, nat_tests) in
    let second : h ≡ v = grind (arith, nat_tests) in
    ap (λ (y : ℕ). y + 1) (is ∙ (ap (λ (w : ℕ). F w h) first ∙ ap (λ (w : ℕ). F u w) second))

pub returns : goal.returns
returns c u v =
    ap (λ (o : Option ℕ). unwrap_or o 0) (c.in_ok-insert.ensures.updates.0 (u, v))
    ∙ stored (eqb c.args.tail u && eqb c.args.head v) _ (c.at-units.result + 1) (same_place (sent c.args.self.now) c.args.tail c.args.head u v c.at-units.result c.at-units.ensures)
