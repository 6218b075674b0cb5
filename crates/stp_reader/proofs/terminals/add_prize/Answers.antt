use Rattle.std.proofs.Common.{[], ◌∷◌, ℕ}
use Rattle.std.proofs.lemmas.List.Elements.{All-append}
use Rattle.st_model.specs.declared.need.Need.{Need}
use Rattle.st_model.specs.declared.need.Need.TheVariants.{Pays}
use Rattle.stp_reader.specs.Reached.{IsStatedNeed}
use Rattle.stp_reader.specs.Unit.{amounts_of}
use Rattle.stp_reader.proofs.Seeing.{seen_need, one_stated, more_paid}
use Rattle.stp_reader.proofs.terminals.add_prize.Goals as goal

pub returns-clause-reached : goal.returns-clause-reached
returns-clause-reached c =
    let part = c.args.part.now in
    let stated : ℕ × Need = (c.in_ok-vertex.vertex, Pays c.in_ok-vertex.prize) in
    let range = c.in_ok-vertex.ensures.in_range in
    record {
      graph = c.requires.graph;
      few = c.requires.few;
      needs = record {
        fit = rw c.in_ok-push.ensures.items (All-append (IsStatedNeed part.graph.vertices) part.needs.items (stated ∷ []) c.requires.needs.fit (one_stated part.graph.vertices c.in_ok-vertex.vertex c.in_ok-vertex.prize range.0 range.1));
        room = rw c.insert.ensures.count c.requires.needs.room;
        same = rw c.in_ok-push.ensures.items (more_paid part.needs.items part.paid.members c.insert.new.self.members c.in_ok-vertex.vertex c.in_ok-vertex.prize c.requires.needs.same c.in_ok-vertex.ensures.fresh c.in_ok-insert.ensures.members);
      };
      roots = c.requires.roots;
      seen = rw c.in_ok-push.ensures.items (seen_need c.in_ok-part.field-0 part.graph.links.items part.needs.items stated (c.in_ok-part.ensures.seen (amounts_of part.graph.links.items part.needs.items) c.requires.seen));
    }
