use Rattle.std.proofs.Common.{arith}
use Rattle.lift_back.proofs.Joining.{two_fit}
use Rattle.lift_back.proofs.rest.Rest.undo_through.Goals as goal

pub overflow_add-first : goal.overflow_add-first
overflow_add-first c =
    let both = two_fit c.args.self.now.store.network.links c.args.vertex c.args.a c.args.b c.args.first c.args.second c.requires.through.different c.requires.through.first c.requires.through.second in
    let all = c.requires.kept.state.amount in
    omega arith
