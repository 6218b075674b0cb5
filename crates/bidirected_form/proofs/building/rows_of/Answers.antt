use Rattle.std.proofs.Common.{◌≡◌, ℕ, ◌+◌, ◌≤◌, ◌++◌, ◌∙◌, List, [], ◌∷◌, ap, subst, refl, length, arith}
use Rattle.std.proofs.lemmas.List.{length_push, length-append}
use Rattle.bidirected_form.specs.declared.arc.Arc.{Arc}
use Rattle.bidirected_form.specs.Building.{cost_by}
use Rattle.bidirected_form.specs.Digraph.{AreArcsInto, left_from}
use Rattle.bidirected_form.specs.Rows.{row_of, rows_from}
use Rattle.bidirected_form.proofs.RowLemmas.{laid_push, length-rows_from}
use Rattle.bidirected_form.proofs.Built.{rows_next, rows_all, no_arcs, no_vertex_costs}
use Rattle.bidirected_form.proofs.building.rows_of.Goals as goal

pub loop-before-init : goal.loop-before-init
loop-before-init c =
    rw (c.in_ok-ends.ensures.items, c.new-arcs.ensures.items) (record {
      laid = (omega arith, omega arith, refl);
      count = refl;
      arcs = λ v low. subst (λ (w : ℕ). AreArcsInto c.args.store.now.network.n w (row_of (rows_from 0 (0 ∷ []) []) w)) (zero_is v low) (no_arcs c.args.store.now.network.n 0);
      costs = λ u v low. subst (λ (w : ℕ). left_from (row_of (rows_from 0 (0 ∷ []) []) w) u ≡ cost_by c.args.store.now c.args.branch.now c.args.kinds.now u w) (zero_is v low) (no_vertex_costs c.args.store.now c.args.branch.now c.args.kinds.now u 0 c.vertices-before-end.ensures.graph.instance (λ range. omega (arith, range.0)));
    })
  where
    zero_is : (v : ℕ) → v ≤ 0 → 0 ≡ v
    zero_is v low = omega (arith, low)

pub loop-before-preserved : goal.loop-before-preserved
loop-before-preserved c =
    let g = c.args.store.now in
    let es = c.loop-before.ends.items in
    let arcs = c.loop-before.arcs.items in
    let row = c.in_ok-row.row.items in
    let laid = c.loop-before.invariant.laid in
    let count = c.loop-before.invariant.count in
    let e : c.extend_from_slice.new.self.items ≡ arcs ++ row = c.in_ok-extend_from_slice.ensures.items ∙ ap (λ (xs : List Arc). arcs ++ xs) c.deref.ensures.value in
    let grown : c.len.result ≡ length (arcs ++ row) = c.len.ensures ∙ c.extend_from_slice.new.self.ok.0 ∙ ap length e in
    let pushed : c.push.new.self.items ≡ es ++ length (arcs ++ row) ∷ [] = c.in_ok-push.ensures.items ∙ ap (λ (k : ℕ). es ++ k ∷ []) grown in
    rw (pushed, e) (record {
      laid = laid_push 0 es (length arcs) (length (arcs ++ row)) laid (omega (arith, length-append arcs row));
      count = length_push es _ ∙ ap (λ (k : ℕ). k + 1) count;
      arcs = rows_next (λ v row. AreArcsInto g.network.n v row) es arcs row c.loop-before.before laid count c.loop-before.invariant.arcs c.in_ok-row.ensures.arcs;
      costs = λ u. rows_next (λ v row. left_from row u ≡ cost_by g c.args.branch.now c.args.kinds.now u v) es arcs row c.loop-before.before laid count (c.loop-before.invariant.costs u) (c.in_ok-row.ensures.costs u);
    })

pub returns-clause-length : goal.returns-clause-length
returns-clause-length c = rw c.in_ok-rows.ensures (length-rows_from 0 c.loop-before.ends.items c.loop-before.arcs.items ∙ omega (arith, c.loop-before.invariant.count, c.loop-before.auto.before-end, c.loop-before-test.false, c.vertices-before-end.ensures.count))

pub returns-clause-arcs : goal.returns-clause-arcs
returns-clause-arcs c =
    let g = c.args.store.now in
    let es = c.loop-before.ends.items in
    let arcs = c.loop-before.arcs.items in
    rw c.in_ok-rows.ensures (rows_all (λ v row. AreArcsInto g.network.n v row) (rows_from 0 es arcs) g.network.n c.loop-before.before (length-rows_from 0 es arcs ∙ c.loop-before.invariant.count) (omega (arith, c.loop-before.auto.before-end, c.loop-before-test.false, c.vertices-before-end.ensures.count)) c.loop-before.invariant.arcs (λ v past. no_arcs g.network.n v))

pub returns-clause-costs : goal.returns-clause-costs
returns-clause-costs c u =
    let g = c.args.store.now in
    let es = c.loop-before.ends.items in
    let arcs = c.loop-before.arcs.items in
    rw c.in_ok-rows.ensures (rows_all (λ v row. left_from row u ≡ cost_by g c.args.branch.now c.args.kinds.now u v) (rows_from 0 es arcs) g.network.n c.loop-before.before (length-rows_from 0 es arcs ∙ c.loop-before.invariant.count) (omega (arith, c.loop-before.auto.before-end, c.loop-before-test.false, c.vertices-before-end.ensures.count)) (c.loop-before.invariant.costs u) (λ v past. no_vertex_costs g c.args.branch.now c.args.kinds.now u v c.vertices-before-end.ensures.graph.instance (λ range. omega (arith, range.1, past))))
