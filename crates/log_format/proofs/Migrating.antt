-- A log in version 2 is right and wrong as it was, and a log again.
use Rattle.std.proofs.lemmas.List.Elements.{All-weaker}
use Rattle.st_model.specs.Network.{Network}
use Rattle.log_format.specs.declared.log.Log.{Log}
use Rattle.log_format.specs.declared.log.Version.{Version}
use Rattle.log_format.specs.declared.log.Version.TheVariants.{Two}
use Rattle.log_format.specs.declared.log.Claim.{Claim}
use Rattle.log_format.specs.declared.log.Claim.TheVariants.{Found, NoTree}
use Rattle.log_format.specs.declared.proof_line.ProofLine.{ProofLine}
use Rattle.log_format.specs.declared.proof_line.ProofLine.TheVariants.{Split, Close}
use Rattle.log_format.specs.Laws.{MigratedIsTheSame}
use Rattle.log_format.specs.Text.{IsClaimInRange, IsWritableLine}
use Rattle.log_format.proofs.SplitLaws.{any_split, in_two}

line_in_two : (version : Version) (line : ProofLine) → IsWritableLine version line → IsWritableLine Two line
line_in_two version (Split at) fits = in_two at (any_split version at fits)
line_in_two version (Close P) fits = fits

claim_in_two : (version : Version) (claim : Claim) → IsClaimInRange version claim → IsClaimInRange Two claim
claim_in_two version (Found primal dual tree steps proof) fits = record {
  primal_fits = fits.primal_fits;
  dual_fits = fits.dual_fits;
  tree_fits = fits.tree_fits;
  few_steps = fits.few_steps;
  steps_fit = fits.steps_fit;
  lines_fit = All-weaker (IsWritableLine version) (IsWritableLine Two) (line_in_two version) proof fits.lines_fit;
}
claim_in_two version (NoTree wall) fits = fits

pub migrated_is_the_same_lem : (I : Network) (log : Log) → MigratedIsTheSame I log
migrated_is_the_same_lem I log = record {
  accepted = (λ h. h, λ h. h);
  rejected = λ line kind. (λ h. h, λ h. h);
  is_log = λ h. record { in_range = claim_in_two log.version log.claim h.in_range; one_proof = h.one_proof };
}
