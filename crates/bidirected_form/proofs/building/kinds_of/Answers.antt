use Rattle.std.proofs.Common.{◌≡◌, ℕ, ◌+◌, ◌∙◌, ap, arith, inl, inr}
use Rattle.std.proofs.lemmas.Bool.{cases_lt}
use Rattle.std.proofs.lemmas.List.{get_or_past, length_push}
use Rattle.bidirected_form.specs.declared.kind.VertexKind.{VertexKind}
use Rattle.bidirected_form.specs.declared.kind.VertexKind.TheVariants.{Outside}
use Rattle.bidirected_form.specs.Bidirected.{kind_in}
use Rattle.bidirected_form.proofs.Built.{pushed_all, kind_past}
use Rattle.bidirected_form.proofs.building.kinds_of.Goals as goal

pub loop-before-preserved : goal.loop-before-preserved
loop-before-preserved c =
    let g = c.args.store.now in
    let B = c.args.branch.now in
    record {
      count = rw c.in_ok-push.ensures.items (length_push c.loop-before.kinds.items _ ∙ ap (λ (k : ℕ). k + 1) c.loop-before.invariant.count);
      kinds = rw c.in_ok-push.ensures.items (pushed_all (λ (v : ℕ) (k : VertexKind). k ≡ kind_in g B v) c.loop-before.kinds.items c.kind_at.result Outside c.loop-before.before c.loop-before.invariant.count c.loop-before.invariant.kinds c.kind_at.ensures);
    }

pub returns-clause-kinds : goal.returns-clause-kinds
returns-clause-kinds c v =
    elim (cases_lt c.args.store.now.network.n v) [
      | inl after ↦ get_or_past c.loop-before.kinds.items v Outside (omega (arith, after, c.loop-before.invariant.count, c.loop-before.auto.before-end, c.vertices-before-end.ensures.count)) ∙ kind_past c.args.store.now c.args.branch.now v c.vertices-before-end.ensures.graph after
      | inr before ↦ c.loop-before.invariant.kinds v (omega (arith, before, c.loop-before-test.false, c.vertices-before-end.ensures.count))
    ]
