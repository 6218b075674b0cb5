use Rattle.std.proofs.Common.{ℕ, Option, None, IsSome, refl, subst}
use Rattle.st_model.specs.Network.{Network}
use Rattle.special_dist.specs.Answers.{HasNoDetour, IsAnswer}
use Rattle.reductions.proofs.Passing.{if_dropped, surely_dropped}
use Rattle.reductions.proofs.work.Work.drops.Goals as goal

pub returns-in-Nothing-clause-none : goal.returns-in-Nothing-clause-none
returns-in-Nothing-clause-none c = (refl, λ is. subst (λ (I : Network). HasNoDetour I c.args.a c.args.b) c.store-store.ensures.network (subst (IsAnswer c.store-store.result.now.network c.args.a c.args.b c.args.most) c.in-Nothing.is c.in_ok-inner.ensures.answer))

pub returns-in-GaveUp-clause-none : goal.returns-in-GaveUp-clause-none
returns-in-GaveUp-clause-none c = (refl, λ is. absurd (let given : IsSome {T = ℕ} None = subst (λ (o : Option ℕ). IsSome o) is (subst (IsAnswer c.store-store.result.now.network c.args.a c.args.b c.args.most) c.in-GaveUp.is c.in_ok-inner.ensures.answer) in cc))

pub returns-in-Detour-clause-none : goal.returns-in-Detour-clause-none
returns-in-Detour-clause-none c = surely_dropped _ c.drop_link.result c.drop_link.ensures.dropped

pub returns-in-Detour-clause-some : goal.returns-in-Detour-clause-some
returns-in-Detour-clause-some c = if_dropped _ c.drop_link.result c.drop_link.ensures.less
