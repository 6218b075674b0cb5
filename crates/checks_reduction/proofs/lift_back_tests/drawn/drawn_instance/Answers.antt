use Rattle.std.proofs.Common.{[], ◌∷◌}
use Rattle.std.proofs.lemmas.List.Elements.{All-from_recursion}
use Rattle.st_model.specs.declared.link.Link.{Link}
use Rattle.st_model.specs.Network.{IsVertex}
use Rattle.checks_reduction.proofs.lift_back_tests.drawn.drawn_instance.Goals as goal

abbrev are_vertices : Link → Type 0
are_vertices l = IsVertex 7 l.a × IsVertex 7 l.b

-- each link is drawn between vertices
pub build-requires-clause-ends : goal.build-requires-clause-ends
build-requires-clause-ends c =
    All-from_recursion are_vertices (c.drawn_link.result ∷ c.drawn_link-2.result ∷ c.drawn_link-3.result ∷ c.drawn_link-4.result ∷ c.drawn_link-5.result ∷ c.drawn_link-6.result ∷ c.drawn_link-7.result ∷ c.drawn_link-8.result ∷ c.drawn_link-9.result ∷ c.drawn_link-10.result ∷ []) (c.drawn_link.ensures.ends, (c.drawn_link-2.ensures.ends, (c.drawn_link-3.ensures.ends, (c.drawn_link-4.ensures.ends, (c.drawn_link-5.ensures.ends, (c.drawn_link-6.ensures.ends, (c.drawn_link-7.ensures.ends, (c.drawn_link-8.ensures.ends, (c.drawn_link-9.ensures.ends, (c.drawn_link-10.ensures.ends, tt))))))))))
