use Rattle.std.proofs.Common.{◌≡◌, length, sym, ap, subst, ◌∙◌}
use Rattle.std.proofs.lemmas.Bool.{eqb-true}
use Rattle.st_model.specs.Network.{Network}
use Rattle.graph_store.specs.Graph.{Graph}
use Rattle.short_paths.specs.Laid.{IsLaid, spent}
use Rattle.few_terminals.proofs.Optimal.{lone}
use Rattle.few_terminals.proofs.optimum.best_tree.Goals as goal

pub returns-then-is_empty-clause-best : goal.returns-then-is_empty-clause-best
returns-then-is_empty-clause-best c =
    let I = c.args.instance.now in
    let t = c.in_ok-terminals.terminals in
    let l = c.in_ok-laid.laid in
    let same : c.in_ok-store.store.network ≡ I = ap (λ (g : Graph). g.network) c.in_ok-store.ensures in
    let laid : IsLaid I l = subst (λ (J : Network). IsLaid J l) same c.in_ok-laid.ensures.laid in
    let free : spent I l ≡ 0 = subst (λ (J : Network). spent J l ≡ 0) same c.in_ok-laid.ensures.free in
    let none : length t.others.items ≡ 0 = sym t.others.ok.0 ∙ eqb-true t.others.len 0 (sym c.if-is_empty.ensures) in
    lone I t c.into_tree.result c.in_ok-terminals.ensures.terminals none c.requires.nobody (c.into_tree.ensures.tree I laid) (λ v. c.into_tree.ensures.reached I laid v ∙ c.in_ok-laid.ensures.reached v) (c.into_tree.ensures.cost I ∙ free)
