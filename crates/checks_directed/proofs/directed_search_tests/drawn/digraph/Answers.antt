use Rattle.std.proofs.Common.{[], ◌∷◌}
use Rattle.std.proofs.lemmas.List.Elements.{All-from_recursion}
use Rattle.st_model.specs.declared.link.Link.{Link}
use Rattle.st_model.specs.Network.{IsVertex}
use Rattle.checks_directed.proofs.directed_search_tests.drawn.digraph.Goals as goal

abbrev are_vertices : Link → Type 0
are_vertices l = IsVertex 6 l.a × IsVertex 6 l.b

-- each arc is drawn between vertices
pub build-requires-clause-ends : goal.build-requires-clause-ends
build-requires-clause-ends c =
    All-from_recursion are_vertices (c.link.result ∷ c.link-2.result ∷ c.link-3.result ∷ c.link-4.result ∷ c.link-5.result ∷ c.link-6.result ∷ c.link-7.result ∷ c.link-8.result ∷ c.link-9.result ∷ c.link-10.result ∷ []) (c.link.ensures.ends, (c.link-2.ensures.ends, (c.link-3.ensures.ends, (c.link-4.ensures.ends, (c.link-5.ensures.ends, (c.link-6.ensures.ends, (c.link-7.ensures.ends, (c.link-8.ensures.ends, (c.link-9.ensures.ends, (c.link-10.ensures.ends, tt))))))))))
