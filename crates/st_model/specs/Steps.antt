-- What one more link makes of the links so far. Helpers' clauses cite this, and no public one.
use Rattle.std.specs.Prelude.{ℕ, min, max, List, [], ◌∷◌, cond}
use Rattle.st_model.specs.declared.link.Link.{Link}
use Rattle.st_model.specs.Network.{joins}

-- a link with its lower end first, at this cost
abbrev pub ordered : Link → ℕ → Link
ordered l c = record { a = min l.a l.b; b = max l.a l.b; cost = c }

-- m at the lower of two costs
abbrev pub cheaper : Link → Link → Link
cheaper m l = record { a = m.a; b = m.b; cost = min m.cost l.cost }

-- the pair's link gets cheaper, or a new one comes last
abbrev pub put_link : List Link → Link → List Link
put_link [] l = ordered l l.cost ∷ []
put_link (m ∷ ms) l = cond (joins m l.a l.b) (cheaper m l ∷ ms) (m ∷ put_link ms l)
