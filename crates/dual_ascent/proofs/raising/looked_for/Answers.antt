use Rattle.std.proofs.Common.{◌≡◌, ℕ, List, sym, ◌∙◌, arith}
use Rattle.std.specs.Prelude.{All}
use Rattle.std.proofs.lemmas.List.Elements.{recursion_from_All}
use Rattle.st_model.specs.Lists.{has}
use Rattle.st_model.specs.Network.{IsVertex}
use Rattle.st_model.specs.Branch.{AreThose}
use Rattle.st_model.proofs.Booleans.{same_test}
use Rattle.st_model.proofs.Branches.{IsVertexSet-member}
use Rattle.st_model.proofs.Marked.{at_member}
use Rattle.st_model.proofs.Those.{AreThose-push, AreThose-skip}
use Rattle.dual_ascent.proofs.raising.looked_for.Goals.{then-contains+in_ok-push, else-contains}
use Rattle.dual_ascent.proofs.raising.looked_for.Goals as goal

-- where all members are vertices, those of the vertices that are members are all of them
all_members : (n : ℕ) (members out : List ℕ) → All (IsVertex n) members → AreThose (has members) n out → (v : ℕ) → has out v ≡ has members v
all_members n members out range are v = same_test (has out v) (has members v) (λ held. sym (are.same v (IsVertexSet-member n out v are.set held)) ∙ held) (λ member. are.same v (at_member (IsVertex n) members v (recursion_from_All (IsVertex n) members range) member) ∙ member)

pub loop-before-preserved : goal.loop-before-preserved
loop-before-preserved c =
    let members = c.args.set.now.members in
    let last = c.loop-before.before in
    let out = c.loop-before.out.items in
    elim c.if-contains.branch [
      | then-contains+in_ok-push w ↦ rw (w.out-is, w.in_ok-push.ensures.items) (AreThose-push (has members) last out c.loop-before.invariant (sym c.contains.ensures ∙ w.if-contains.true))
      | else-contains w ↦ rw w.out-is (AreThose-skip (has members) last out c.loop-before.invariant (sym c.contains.ensures ∙ w.if-contains.false))
    ]

pub returns-clause-members : goal.returns-clause-members
returns-clause-members c =
    let last : c.loop-before.before ≡ c.args.vertices = omega (arith, c.loop-before-test.false, c.loop-before.auto.before-end) in
    all_members c.args.vertices c.args.set.now.members c.loop-before.out.items c.requires.in_range (rw last at c.loop-before.invariant)
