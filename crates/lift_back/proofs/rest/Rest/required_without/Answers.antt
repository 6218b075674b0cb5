use Rattle.std.proofs.Common.{arith, sym, ◌≡◌, ap, ℕ, cond, ◌∙◌}
use Rattle.st_model.specs.Network.{is_required}
use Rattle.lift_back.proofs.Forcing.{one_required}
use Rattle.lift_back.proofs.rest.Rest.required_without.Goals as goal

pub overflow_sub-result : goal.overflow_sub-result
overflow_sub-result c = one_required c.args.self.now c.args.other c.requires.kept c.requires.other (sym c.is_needed.ensures ∙ c.if-is_needed.true)

pub returns-then-is_needed : goal.returns-then-is_needed
returns-then-is_needed c =
    let one = one_required c.args.self.now c.args.other c.requires.kept c.requires.other (sym c.is_needed.ensures ∙ c.if-is_needed.true) in
    let is : ◌≡◌ {A = ℕ} (cond (is_required c.args.self.now.store.network c.args.other) 1 0) 1 = ap (λ b. cond b 1 0) (sym c.is_needed.ensures ∙ c.if-is_needed.true) in
    omega arith
