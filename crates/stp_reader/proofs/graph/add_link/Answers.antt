use Rattle.std.proofs.Common.{[], ◌∷◌, rules}
use Rattle.std.proofs.lemmas.List.Elements.{All-append}
use Rattle.stp_reader.specs.Reached.{IsStatedLink}
use Rattle.stp_reader.specs.Unit.{amounts_of}
use Rattle.stp_reader.proofs.Seeing.{seen_link}
use Rattle.stp_reader.proofs.graph.add_link.Goals as goal

pub returns-clause-reached : goal.returns-clause-reached
returns-clause-reached c = λ m before.
    let graph = c.args.graph.now in
    record {
      links = record {
        count = before.links.count;
        fit = rw c.in_ok-push.ensures.items (All-append (IsStatedLink graph.vertices) graph.links.items (c.in_ok-link.link ∷ []) before.links.fit (search (rules, c.in_ok-link.ensures.in_range)));
      };
      seen = rw c.in_ok-push.ensures.items (seen_link c.in_ok-graph.field-0 graph.links.items c.in_ok-link.link (c.in_ok-graph.ensures.seen (amounts_of graph.links.items []) before.seen));
      few = before.few;
    }
