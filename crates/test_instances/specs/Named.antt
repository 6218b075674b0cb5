-- The networks of the instances that have a name.
use Rattle.std.specs.Prelude.{ℕ, List, [], ◌∷◌}
use Rattle.st_model.specs.declared.link.Link.{Link}
use Rattle.st_model.specs.declared.need.Need.{Need}
use Rattle.st_model.specs.declared.need.Need.TheVariants.{Required}
use Rattle.st_model.specs.Network.{Network}
use Rattle.st_model.specs.Stated.{network_of}

abbrev pub between : ℕ → ℕ → ℕ → Link
between u v cost = record { a = u; b = v; cost = cost }

-- 4 at 2 from 1, 2 and 3, and the sides between these
abbrev pub triangle_links : ℕ → List Link
triangle_links side = between 1 4 2 ∷ between 2 4 2 ∷ between 3 4 2 ∷ between 1 2 side ∷ between 2 3 side ∷ between 1 3 side ∷ []

-- those links, where 1, 2 and 3 are required
abbrev pub network_of_triangle : ℕ → Network
network_of_triangle side = network_of 4 (triangle_links side) ((1, Required) ∷ (2, Required) ∷ (3, Required) ∷ [])

-- two vertices at 5 from each other
abbrev pub network_of_pair : Need → Need → Network
network_of_pair first second = network_of 2 (between 1 2 5 ∷ []) ((1, first) ∷ (2, second) ∷ [])
