use Rattle.std.proofs.Common.{Some, ap, ◌∙◌}
use Rattle.cert_checker.specs.declared.posed.Posed.TheVariants.{Plain}
use Rattle.cert_checker.specs.Path.{leaving_out}
use Rattle.cert_checker.proofs.proving.first_left.Goals as goal

pub returns : goal.returns
returns c = (
  c.offset.ensures.state,
  ap (λ J. Some (Plain J)) c.in_ok-instance.ensures.instance,
  cc (c.offset.ensures.offset, c.saturating_sub-least.ensures),
  c.in_ok-path.ensures ∙ ap leaving_out (c.deref.ensures.value ∙ c.in_ok-gone.ensures),
)
