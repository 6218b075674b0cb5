use Rattle.std.proofs.Common.{◌≡◌, ℕ, ◌+◌, ◌-◌, ◌∙◌, get_or, sym, ap, subst, arith}
use Rattle.std.specs.Prelude.{IsTrue, nat_le}
use Rattle.st_model.specs.Lists.{has}
use Rattle.prize_transform.specs.Twins.{Ends, is_end, vertex_of}
use Rattle.prize_transform.proofs.Numbered.{end_at, end_vertex, has-filter, within_range}
use Rattle.prize_transform.proofs.twins.Twins.back.Goals as goal

pub overflow_sub-end : goal.overflow_sub-end
overflow_sub-end c =
    let ends = c.self.inside.ends.items in
    let is = subst (λ (E : Ends). IsTrue (is_end E.ends c.args.end)) (sym c.self.view_is) c.requires.end in
    let at = end_at (c.self.inside.vertices + 1) ends c.args.end c.self.invariant.numbered is in
    omega (arith, at.above)

pub overflow_sub-end-2 : goal.overflow_sub-end-2
overflow_sub-end-2 c =
    let ends = c.self.inside.ends.items in
    let is = subst (λ (E : Ends). IsTrue (is_end E.ends c.args.end)) (sym c.self.view_is) c.requires.end in
    let at = end_at (c.self.inside.vertices + 1) ends c.args.end c.self.invariant.numbered is in
    omega (arith, at.above)

pub index-requires : goal.index-requires
index-requires c =
    let ends = c.self.inside.ends.items in
    let is = subst (λ (E : Ends). IsTrue (is_end E.ends c.args.end)) (sym c.self.view_is) c.requires.end in
    let at = end_at (c.self.inside.vertices + 1) ends c.args.end c.self.invariant.numbered is in
    omega (arith, at.above, at.below, c.self.inside.ends.ok.0)

pub returns-clause-vertex : goal.returns-clause-vertex
returns-clause-vertex c =
    let ends = c.self.inside.ends.items in
    let is = subst (λ (E : Ends). IsTrue (is_end E.ends c.args.end)) (sym c.self.view_is) c.requires.end in
    let at = end_at (c.self.inside.vertices + 1) ends c.args.end c.self.invariant.numbered is in
    let place : c.args.end - (c.self.inside.vertices + 1) ≡ c.args.end - c.self.inside.vertices - 1 = omega arith in
    rw (← c.self.view_is) (ap (λ (e : ℕ × ℕ). e.1) c.index.ensures ∙ subst (λ (k : ℕ). (get_or ends k c.index.result.now).1 ≡ vertex_of ends c.args.end) place (at.vertex c.index.result.now))

pub returns-clause-held : goal.returns-clause-held
returns-clause-held c =
    let ends = c.self.inside.ends.items in
    let is = subst (λ (E : Ends). IsTrue (is_end E.ends c.args.end)) (sym c.self.view_is) c.requires.end in
    let at = end_at (c.self.inside.vertices + 1) ends c.args.end c.self.invariant.numbered is in
    let place : c.args.end - (c.self.inside.vertices + 1) ≡ c.args.end - c.self.inside.vertices - 1 = omega arith in
    let vertex : c.index.result.now.1 ≡ vertex_of ends c.args.end = ap (λ (e : ℕ × ℕ). e.1) c.index.ensures ∙ subst (λ (k : ℕ). (get_or ends k c.index.result.now).1 ≡ vertex_of ends c.args.end) place (at.vertex c.index.result.now) in
    let there = subst (λ (E : Ends). IsTrue (has c.args.set.now (vertex_of E.ends c.args.end))) (sym c.self.view_is) c.requires.vertex in
    rw (c.in_ok-below.ensures, vertex) (has-filter (λ v. nat_le v c.self.inside.vertices) c.args.set.now (vertex_of ends c.args.end) there (within_range c.self.inside.vertices (vertex_of ends c.args.end) (end_vertex c.self.inside.vertices ends c.args.end c.self.invariant.vertices is)))
