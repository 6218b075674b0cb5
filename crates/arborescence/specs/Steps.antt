-- What one more arc makes of the arcs so far. Helpers' clauses cite this, and no public one.
use Rattle.std.specs.Prelude.{ℕ, min, List, [], ◌∷◌, cond}
use Rattle.st_model.specs.declared.link.Link.{Link}
use Rattle.arborescence.specs.DiNetwork.{leads}

-- an arc at this cost
abbrev pub at_cost : Link → ℕ → Link
at_cost l c = record { a = l.a; b = l.b; cost = c }

-- m at the lower of two costs
abbrev pub cheaper_arc : Link → Link → Link
cheaper_arc m l = at_cost m (min m.cost l.cost)

-- the pair's arc gets cheaper, or a new one comes last
abbrev pub put_arc : List Link → Link → List Link
put_arc [] l = l ∷ []
put_arc (m ∷ ms) l = cond (leads m l.a l.b) (cheaper_arc m l ∷ ms) (m ∷ put_arc ms l)
