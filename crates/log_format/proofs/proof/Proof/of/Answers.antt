use Rattle.std.proofs.Common.{refl, sym, ap, ◌∙◌}
use Rattle.log_format.specs.Preorder.{are_proofs}
use Rattle.log_format.proofs.Preorders.{one_from, one_passes}
use Rattle.log_format.proofs.proof.Proof.of.Goals as goal

pub returns-then-is_one_proof-clause-one : goal.returns-then-is_one_proof-clause-one
returns-then-is_one_proof-clause-one c =
    let passes = ap (are_proofs 1) (sym c.deref.ensures.value) ∙ (sym c.is_one_proof.ensures ∙ c.if-is_one_proof.true) in
    (λ _. one_from c.args.lines.items passes, λ _. refl)

pub returns-else-is_one_proof-clause-one : goal.returns-else-is_one_proof-clause-one
returns-else-is_one_proof-clause-one c =
    let fails = ap (are_proofs 1) (sym c.deref.ensures.value) ∙ (sym c.is_one_proof.ensures ∙ c.if-is_one_proof.false) in
    (λ e. absurd cc, λ one. absurd (let passes = one_passes c.args.lines.items one in cc))
