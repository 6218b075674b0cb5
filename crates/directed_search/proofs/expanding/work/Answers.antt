use Rattle.std.proofs.Common.{refl, inl, inr}
use Rattle.std.proofs.lemmas.Bool.{cases_lt, false≢true}
use Rattle.std.proofs.lemmas.List.Elements.{All-head}
use Rattle.directed_search.specs.Searching.{IsOpen}
use Rattle.directed_search.proofs.Done.{spent_closed}
use Rattle.directed_search.proofs.Going.{taken}
use Rattle.directed_search.proofs.expanding.work.Goals as goal

pub returns-then-is_spent : goal.returns-then-is_spent
returns-then-is_spent c =
    spent_closed c.args.instance.now c.args.progress.now c.close.new.self c.args.node c.args.waiting.now c.vertices.ensures.instance c.requires.at (c.if-is_spent.ensures.0 refl) c.close.ensures.small c.close.ensures.few c.in_ok-close.ensures.closed

pub expand-requires-clause-hand : goal.expand-requires-clause-hand
expand-requires-clause-hand c = rw c.count.ensures (elim (cases_lt c.args.progress.now.expanded c.args.progress.now.budget) [
  | inl room ↦ taken c.args.instance.now c.args.progress.now c.args.node c.args.waiting.now room c.requires.at
  | inr none ↦ absurd (false≢true (c.if-is_spent.ensures.1 none))
])

pub expand-requires-clause-packing : goal.expand-requires-clause-packing
expand-requires-clause-packing c = (All-head (IsOpen c.args.instance.now) c.args.node c.args.waiting.now c.requires.at.each).packing
