use Rattle.std.proofs.Common.{ℕ, ◌↔◌, ◌∙◌, List, sym, subst, ap, arith}
use Rattle.std.specs.Prelude.{All, IsTrue, IsFalse}
use Rattle.std.proofs.lemmas.Bool.{both_ways}
use Rattle.st_model.specs.declared.branch.Branch.{Branch}
use Rattle.st_model.specs.Lists.{has}
use Rattle.local_search.proofs.Reached.{reaches_iff}
use Rattle.local_search.proofs.judging.reaches_as_told.Goals.{then-inside, else-inside}
use Rattle.local_search.proofs.judging.reaches_as_told.Goals as goal

pub returns : goal.returns
returns c =
    let n = c.args.instance.now.n in
    let B : Branch = c.args.branch.now in
    let list : List ℕ = c.in_ok-reached.reached.items in
    let members : List ℕ = c.in_ok-set.set.members in
    let inside = c.as_slice.ensures ∙ ap (λ (b : Branch). b.inside) c.branch-branch.ensures in
    let all : IsTrue c.has_all-inside.result ↔ All (λ v. IsTrue (has members v)) B.inside =
    subst (λ (xs : List ℕ). IsTrue c.has_all-inside.result ↔ All (λ v. IsTrue (has members v)) xs) inside c.has_all-inside.ensures in
    let none : IsTrue c.has_none-outside.result ↔ All (λ v. IsFalse (has B.outside v)) list =
    subst (λ (xs : List ℕ). IsTrue c.has_none-outside.result ↔ All (λ v. IsFalse (has B.outside v)) xs) c.deref-2.ensures.value c.has_none-outside.ensures in
    let same = reaches_iff n B c.args.tree.now list members c.requires.inside c.in_ok-reached.ensures
    (λ v few. c.in_ok-set.ensures.members v (omega (arith, few, c.vertices.ensures.count)) ∙ ap (λ (xs : List ℕ). has xs v) c.deref.ensures.value) in
    elim c.if-inside.branch [
      | then-inside w ↦ (λ yes. same.0 (all.0 w.if-inside.true, none.0 (sym w.result-is ∙ yes)), λ reaches. w.result-is ∙ none.1 (same.1 reaches).1)
      | else-inside w ↦ (λ yes. absurd (both_ways c.has_all-inside.result w.if-inside.false (sym w.result-is ∙ yes)), λ reaches. absurd (both_ways c.has_all-inside.result w.if-inside.false (all.1 (same.1 reaches).0)))
    ]
