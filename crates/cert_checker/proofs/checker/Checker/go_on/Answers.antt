use Rattle.std.proofs.Common.{ℕ, ◌+◌, ◌<◌, ◌^◌, List, ◌++◌, length, sym, ap, subst, arith}
use Rattle.cert_checker.specs.Hearing.{AreTaken, AreStopped}
use Rattle.cert_checker.specs.Pieces.{Pieces}
use Rattle.cert_checker.proofs.Pieces.{fed_taken, fed_stopped, stopped_more, taken_more}
use Rattle.cert_checker.proofs.checker.Checker.go_on.Goals as goal

pub invariant_of-result : goal.invariant_of-result
invariant_of-result c =
    let v = c.self.inside in
    let few : length v.fed + length c.args.bytes.now < 2 ^ 63 = omega (arith, c.requires.few, ap (λ (p : Pieces). length p.text) c.self.view_is) in
    subst (λ (t : List ℕ). AreStopped v.hearing.lines t) (sym c.note.ensures) (stopped_more v.hearing.lines v.fed c.args.bytes.now (fed_stopped v.hearing.lines v.is_bad v.part.items v.fed c.self.invariant c.if-self.true) few)

pub invariant_of-result-2 : goal.invariant_of-result-2
invariant_of-result-2 c =
    let v = c.self.inside in
    let few : length v.fed + length c.args.bytes.now < 2 ^ 63 = omega (arith, c.requires.few, ap (λ (p : Pieces). length p.text) c.self.view_is) in
    let taken = taken_more v.hearing.lines v.part.items v.fed c.args.bytes.now (fed_taken v.hearing.lines v.is_bad v.part.items v.fed c.self.invariant c.if-self.false) c.requires.none few in
    subst (λ (t : List ℕ). AreTaken v.hearing.lines c.extend_from_slice.new.self.items t) (sym c.note.ensures) (subst (λ (p : List ℕ). AreTaken v.hearing.lines p (v.fed ++ c.args.bytes.now)) (sym c.in_ok-extend_from_slice.ensures.items) taken)
