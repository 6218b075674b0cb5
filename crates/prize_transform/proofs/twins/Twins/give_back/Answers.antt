use Rattle.std.proofs.Common.{◌≡◌, sym, subst, arith}
use Rattle.std.specs.Prelude.{IsTrue}
use Rattle.prize_transform.specs.Twins.{Ends, has_end, left_of}
use Rattle.prize_transform.proofs.Numbered.{with_end, given_back}
use Rattle.prize_transform.proofs.twins.Twins.give_back.Goals as goal

pub index_mut-requires : goal.index_mut-requires
index_mut-requires c =
    let range = with_end c.self.inside.vertices c.self.inside.ends.items c.args.q c.self.invariant.vertices (subst (λ (E : Ends). IsTrue (has_end E.ends c.args.q)) (sym c.self.view_is) c.requires.end) in
    omega (arith, range.1, c.self.invariant.left, c.self.inside.left.ok.0)

pub returns : goal.returns
returns c =
    let range = with_end c.self.inside.vertices c.self.inside.ends.items c.args.q c.self.invariant.vertices (subst (λ (E : Ends). IsTrue (has_end E.ends c.args.q)) (sym c.self.view_is) c.requires.end) in
    let left = subst (λ (E : Ends). c.left-left.result ≡ left_of E c.args.q) (sym c.self.view_is) c.left-left.ensures in
    rw (← c.self.view_is) (given_back c.self.inside.vertices c.self.inside.ends.items c.self.inside.left.items c.args.q c.args.y c.left-left.result (omega (arith, range.1, c.self.invariant.left)) left)
