use Rattle.std.proofs.Common.{◌≡◌, filter, not}
use Rattle.st_model.specs.Lists.{up_to}
use Rattle.graph_store.specs.Graph.{is_in}
use Rattle.lift_back.proofs.rest.Rest.gone_vertices.Given as goal

abbrev pub invariant-loop-before : goal.invariant-loop-before
invariant-loop-before l = l.gone.items ≡ filter (λ v. not (is_in l.self.store v)) (up_to l.before)
