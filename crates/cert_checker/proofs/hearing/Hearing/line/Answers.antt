use Rattle.std.proofs.Common.{ℕ, ◌+◌, ◌<◌, ◌^◌, List, length, sym, ap, subst, arith}
use Rattle.cert_checker.specs.Posed.{problem_of}
use Rattle.cert_checker.specs.Hearing.{IsHearing}
use Rattle.cert_checker.specs.Lines.{Lines}
use Rattle.cert_checker.proofs.Hears.{hears_more}
use Rattle.cert_checker.proofs.hearing.Hearing.line.Goals as goal

pub invariant_of-result : goal.invariant_of-result
invariant_of-result c =
    let v = c.self.inside in
    let stage = c.in_ok-splits-in-Ok.stage in
    let splits = c.in_ok-splits-in-Ok.splits in
    let few : length v.reader < 2 ^ 63 = omega (arith, c.requires, ap (λ (l : Lines). length l.lines) c.self.view_is) in
    let more = hears_more (problem_of v.posed) v.reader v.stage stage v.splits splits v.lines c.args.line.now c.in-Ok.item c.self.invariant c.in-Ok.ensures.item.0 c.in-Ok.ensures.item.1 c.in_ok-splits-in-Ok.ensures.opened c.in_ok-splits-in-Ok.ensures.follows few in
    subst (λ (lines : List (List ℕ)). IsHearing (problem_of v.posed) lines stage splits (v.lines + 1)) (sym c.in-Ok.ensures.ok) more
