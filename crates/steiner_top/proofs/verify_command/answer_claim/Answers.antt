use Rattle.std.proofs.Common.{sym, subst, ◌∙◌, rules}
use Rattle.steiner_top.specs.declared.status.Status.{Status}
use Rattle.steiner_top.specs.Verified.{IsClaimLine}
use Rattle.steiner_top.proofs.Verifying.{fault_answered, tree_answered}
use Rattle.steiner_top.proofs.verify_command.answer_claim.Goals as goal

pub returns-in_ok-claimed_tree-in-Ok-clause-line : goal.returns-in_ok-claimed_tree-in-Ok-clause-line
returns-in_ok-claimed_tree-in-Ok-clause-line c =
    let sent = c.of_line.result.text.items in
    subst (λ (s : Status). IsClaimLine c.args.reading.now.instance c.args.reading.now.scale c.args.claimed.now s sent) (sym c.of_line.ensures.status)
    (tree_answered c.args.reading.now.instance c.args.reading.now.scale c.args.claimed.now c.in-Ok.cost c.verify.result sent c.in-Ok.is c.in-Ok.ensures.tree c.verify.ensures.ok c.verify.ensures.only (c.of_line.ensures.text ∙ c.in_ok-claimed_tree-in-Ok.ensures))

pub returns-in_ok-not_tree-in-Err : goal.returns-in_ok-not_tree-in-Err
returns-in_ok-not_tree-in-Err c = record {
  line =
      let sent = c.of_line-in-Err.result.text.items in
      subst (λ (s : Status). IsClaimLine c.args.reading.now.instance c.args.reading.now.scale c.args.claimed.now s sent) (sym c.of_line-in-Err.ensures.status)
      (fault_answered c.args.reading.now.instance c.args.reading.now.scale c.args.claimed.now c.in-Err.fault c.verify.result sent c.in-Err.is (search rules) c.in-Err.ensures.fault c.verify.ensures.ok c.verify.ensures.only (c.of_line-in-Err.ensures.text ∙ c.in_ok-not_tree-in-Err.ensures));
  outcome = c.of_line-in-Err.ensures.outcome;
}
