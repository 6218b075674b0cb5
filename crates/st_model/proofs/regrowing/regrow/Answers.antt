use Rattle.std.proofs.Common.{◌≡◌, rules, ◌∙◌, ap, reverse, refl, List, ℕ}
use Rattle.std.specs.Prelude.{IsTrue, IsFalse}
use Rattle.st_model.specs.Lists.{has}
use Rattle.st_model.specs.Arborescence.{reached}
use Rattle.st_model.specs.Regrown.{IsRegrown, regrown}
use Rattle.st_model.proofs.RegrowLaws.{IsRegrown-regrown, not_reached_above}
use Rattle.st_model.proofs.RegrowAlike.{regrown_is_alike}
use Rattle.st_model.proofs.regrowing.regrow.Goals.{After-of, then-at-vertices-via-then-at-vertices, then-at-vertices-via-else-at-vertices+then-not-reaches}
use Rattle.st_model.proofs.regrowing.regrow.Goals as goal

pub returns-then-at-vertices-clause-not_reached : goal.returns-then-at-vertices-clause-not_reached
returns-then-at-vertices-clause-not_reached c =
    let absent : IsFalse (has (reached c.args.tree.now) c.args.at) = elim c.then-at-vertices.branch [
      | then-at-vertices-via-then-at-vertices w ↦ not_reached_above c.args.instance.now c.args.tree.now c.args.at c.vertices.ensures.instance c.requires (search (rules, c.vertices.ensures.count))
      | then-at-vertices-via-else-at-vertices+then-not-reaches w ↦ let no = w.if-not-reaches.true in let is = w.reaches.ensures in cc
    ] in
    (λ _. absent, λ _. refl)

-- the vertex is reached, and the arcs are those regrown there
there : (c : After-of) → IsTrue (has (reached c.args.tree.now) c.args.at)
there c = let yes = c.if-not-reaches.false in let is = c.reaches.ensures in cc

arcs_are : (c : After-of) → c.of.result ≡ regrown c.args.at (reverse c.args.tree.now.arcs)
arcs_are c = c.of.ensures ∙ (c.in_ok-arcs.ensures ∙ ap (λ (arcs : List (ℕ × ℕ)). regrown c.args.at (reverse arcs)) c.as_slice.ensures)

regrown_there : (c : After-of) → IsRegrown c.args.instance.now c.args.tree.now c.args.at (record { start = c.args.at; arcs = c.of.result })
regrown_there c = rw (arcs_are c) (IsRegrown-regrown c.args.instance.now c.args.tree.now c.args.at c.vertices.ensures.instance c.requires (there c))

pub returns-clause-arborescence : goal.returns-clause-arborescence
returns-clause-arborescence c = (regrown_there c).arborescence

pub returns-clause-links : goal.returns-clause-links
returns-clause-links c = (regrown_there c).links

pub returns-clause-same_reached : goal.returns-clause-same_reached
returns-clause-same_reached c = (regrown_is_alike c.args.instance.now c.args.tree.now c.args.at (record { start = c.args.at; arcs = c.of.result }) c.requires (there c) (regrown_there c)).0

pub returns-clause-same_cost : goal.returns-clause-same_cost
returns-clause-same_cost c = (regrown_is_alike c.args.instance.now c.args.tree.now c.args.at (record { start = c.args.at; arcs = c.of.result }) c.requires (there c) (regrown_there c)).1
