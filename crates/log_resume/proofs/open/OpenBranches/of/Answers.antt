use Rattle.std.proofs.Common.{ap, ◌∙◌}
use Rattle.cert_checker.specs.Path.{leaving_out}
use Rattle.log_resume.proofs.Walks.{start_opened}
use Rattle.log_resume.proofs.open.OpenBranches.of.Goals as goal

pub invariant_of-result : goal.invariant_of-result
invariant_of-result c = start_opened c.args.reduced.now.state c.args.instance.now c.in_ok-path.path c.offset.ensures.state c.requires (c.in_ok-path.ensures ∙ ap leaving_out (c.deref.ensures.value ∙ c.in_ok-gone.ensures))
