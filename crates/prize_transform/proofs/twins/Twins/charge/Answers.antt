use Rattle.std.proofs.Common.{sym, subst, arith}
use Rattle.std.specs.Prelude.{IsTrue}
use Rattle.prize_transform.specs.Twins.{Ends, has_end}
use Rattle.prize_transform.proofs.Numbered.{with_end}
use Rattle.prize_transform.proofs.twins.Twins.charge.Goals as goal

pub index_mut-requires : goal.index_mut-requires
index_mut-requires c =
    let range = with_end c.self.inside.vertices c.self.inside.ends.items c.args.q c.self.invariant.vertices (subst (λ (E : Ends). IsTrue (has_end E.ends c.args.q)) (sym c.self.view_is) c.requires.end) in
    omega (arith, range.1, c.self.invariant.left, c.self.inside.left.ok.0)
