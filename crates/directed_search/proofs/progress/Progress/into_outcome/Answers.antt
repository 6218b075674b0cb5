use Rattle.std.proofs.Common.{[], refl, sym, ap, subst}
use Rattle.std.proofs.lemmas.Bool.{false≢true}
use Rattle.directed_search.specs.State.{State}
use Rattle.directed_search.specs.Searching.{HasLines, IsSearching}
use Rattle.directed_search.proofs.Answered.{is_found, one_proof}
use Rattle.directed_search.proofs.progress.Progress.into_outcome.Goals as goal

pub unreachable-requires : goal.unreachable-requires
unreachable-requires c =
    let h = subst (λ (s : State). IsSearching c.args.instance.now s 0 []) (sym c.self.view_is) c.requires.searching in
    absurd (false≢true (c.in_default.ensures.one.1 (one_proof c.args.instance.now _ h)))

pub returns : goal.returns
returns c =
    let h = subst (λ (s : State). IsSearching c.args.instance.now s 0 []) (sym c.self.view_is) c.requires.searching in
    is_found c.args.instance.now _ c.args.self.budget c.in_ok-tree.tree _ c.vertices.ensures.instance (ap (λ (s : State). s.budget) c.self.view_is) c.in_ok-tree.ensures c.arcs_of.ensures.few h (subst (λ (s : State). HasLines s 0) (sym c.self.view_is) c.requires.worked) refl (rw (c.of-2.ensures, c.new.ensures.items, c.in-Some.ensures.lines) refl)
