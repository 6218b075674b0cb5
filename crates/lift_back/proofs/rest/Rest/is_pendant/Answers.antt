use Rattle.std.proofs.Common.{refl, subst}
use Rattle.std.proofs.lemmas.Bool.{false≢true}
use Rattle.lift_back.specs.Ends.{HasEnds}
use Rattle.lift_back.proofs.Idle.{none_other, some_other}
use Rattle.lift_back.proofs.rest.Rest.is_pendant.Goals as goal

pub returns-then-self-lt2 : goal.returns-then-self-lt2
returns-then-self-lt2 c = (λ h. absurd (false≢true h), λ pendant. absurd (none_other c.args.self.now c.args.vertex c.requires c.if-self-lt2.true pendant))

pub returns-in-Nobody : goal.returns-in-Nobody
returns-in-Nobody c =
    let idle = c.is_idle.ensures.0 c.if-not-is_idle.false in
    let ends = subst (HasEnds c.args.self.now.store.network.links c.args.vertex) c.in-Nobody.is c.ends_of.ensures in (
      λ h. record { idle = idle; leaf = (0, λ w linked. absurd (false≢true (ends w linked))); other = some_other c.args.self.now c.args.vertex c.requires c.if-self-lt2.false idle },
      λ pendant. refl,
    )

pub returns-in-One : goal.returns-in-One
returns-in-One c =
    let idle = c.is_idle.ensures.0 c.if-not-is_idle.false in
    let ends = subst (HasEnds c.args.self.now.store.network.links c.args.vertex) c.in-One.is c.ends_of.ensures in (
      λ h. record { idle = idle; leaf = (c.in-One.field-0, ends.1); other = some_other c.args.self.now c.args.vertex c.requires c.if-self-lt2.false idle },
      λ pendant. refl,
    )
