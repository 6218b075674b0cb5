use Rattle.std.proofs.Common.{◌≡◌, ◌∷◌, [], ◌++◌, ◌∙◌}
use Rattle.search_core.proofs.Found.{ids-push, none_found-push, ids_of}
use Rattle.search_core.proofs.nodes.Nodes.add_both.Goals as goal

pub invariant_of-self-2 : goal.invariant_of-self-2
invariant_of-self-2 c =
    let nodes = c.self.inside.made.items in
    let one : c.insert.new.self.keys ≡ ids_of (nodes ++ c.args.first ∷ []) = ids-push c.reserve-2.new.self.keys c.insert.new.self.keys nodes c.args.first (c.reserve-2.ensures.keys ∙ c.self.invariant) c.in_ok-insert.ensures.keys (rw (← c.self.view_is) at c.requires.first) in
    let two : c.insert-2.new.self.keys ≡ ids_of ((nodes ++ c.args.first ∷ []) ++ c.args.second ∷ []) = ids-push c.insert.new.self.keys c.insert-2.new.self.keys (nodes ++ c.args.first ∷ []) c.args.second one c.in_ok-insert-2.ensures.keys (none_found-push nodes c.args.first c.args.second.node.id (rw (← c.self.view_is) at c.requires.second) c.requires.apart) in
    rw (c.push_reserved-2.ensures.items, c.push_reserved.ensures.items, c.reserve.ensures.items) two
