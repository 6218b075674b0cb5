use Rattle.std.proofs.Common.{◌≡◌, [], sym, ◌∙◌}
use Rattle.std.proofs.lemmas.Bool.{eqb-true}
use Rattle.std.proofs.lemmas.List.{nil_from_length}
use Rattle.cert_checker.specs.Pieces.{IsVerdictOn}
use Rattle.cert_checker.proofs.Answering.{judged_answers, answer_concludes}
use Rattle.cert_checker.proofs.Pieces.{fed_few, fed_taken}
use Rattle.cert_checker.proofs.checker.Checker.answer.Goals.{After-judgement}
use Rattle.cert_checker.proofs.checker.Checker.answer.Goals as goal

pub next_line-requires : goal.next_line-requires
next_line-requires c = let v = c.self.inside in fed_few v.hearing.lines v.is_bad v.part.items v.fed c.self.invariant

pub next_line-requires-then-not-is_done : goal.next_line-requires-then-not-is_done
next_line-requires-then-not-is_done c = let v = c.self.inside in fed_few v.hearing.lines v.is_bad v.part.items v.fed c.self.invariant

pub next_line-requires-then-not-is_empty : goal.next_line-requires-then-not-is_empty
next_line-requires-then-not-is_empty c = let v = c.self.inside in fed_few v.hearing.lines v.is_bad v.part.items v.fed c.self.invariant

-- what is judged is the answer
judged : (c : After-judgement) → IsVerdictOn c.self.inside.hearing.problem c.self.inside.fed c.judgement.result
judged c =
    let v = c.self.inside in
    let none : v.part.items ≡ [] = sym c.as_slice.ensures.value ∙ nil_from_length c.as_slice.result.now (eqb-true _ _ (sym c.is_empty.ensures ∙ c.if-not-is_empty.false)) in
    judged_answers v.hearing.problem v.hearing.lines v.part.items v.fed c.judgement.result (fed_taken v.hearing.lines v.is_bad v.part.items v.fed c.self.invariant c.if-self.false) none (c.is_done.ensures.0 c.if-not-is_done.false) c.judgement.ensures.judged

pub returns-clause-exact : goal.returns-clause-exact
returns-clause-exact c = rw (← c.self.view_is) (judged c)

pub returns-clause-concludes : goal.returns-clause-concludes
returns-clause-concludes c = rw (← c.self.view_is) (answer_concludes c.self.inside.hearing.problem c.self.inside.fed c.judgement.result c.accepted_of_a_problem_holds.ensures c.judgement.ensures.problem (judged c))
