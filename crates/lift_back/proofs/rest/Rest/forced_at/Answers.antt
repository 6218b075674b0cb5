use Rattle.std.proofs.Common.{sym, subst, ◌∙◌}
use Rattle.lift_back.specs.Ends.{HasEnds}
use Rattle.lift_back.proofs.Forcing.{some_required, two_required}
use Rattle.lift_back.proofs.rest.Rest.forced_at.Goals as goal

pub returns-then-self-lt2-clause-none : goal.returns-then-self-lt2-clause-none
returns-then-self-lt2-clause-none c u cost = two_required c.args.self.now c.args.vertex u cost c.requires c.if-self-lt2.true

pub returns-clause-found : goal.returns-clause-found
returns-clause-found c =
    let vertex = c.is_vertex.ensures.0 c.if-not-is_vertex.false in
    let needed = sym c.is_needed.ensures ∙ c.if-not-is_needed.false in
    let ends = subst (HasEnds c.args.self.now.store.network.links c.args.vertex) c.in-One.is c.ends_of.ensures in
    record {
      vertex = vertex;
      required = needed;
      linked = sym c.link_cost.ensures ∙ c.in_ok-cost.was;
      only = ends.1;
      other = some_required c.args.self.now c.args.vertex c.requires vertex needed c.if-self-lt2.false;
    }
