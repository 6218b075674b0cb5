-- The instance that stated links and needs make, whatever is stated twice.
use Rattle.std.specs.Prelude.{ℕ, min, max, not, ◌==◌, if◌then◌else◌, List, [], ◌∷◌, map, filter, Option, Some, None, unwrap_or}
use Rattle.st_model.specs.declared.link.Link.{Link}
use Rattle.st_model.specs.declared.need.Need.{Need}
use Rattle.st_model.specs.declared.need.Need.TheVariants.{Required, Pays}
use Rattle.st_model.specs.Lists.{up_to}
use Rattle.st_model.specs.Network.{Network, joins}

-- the ends of a link, the lower first
abbrev pub ends : Link → ℕ × ℕ
ends l = (min l.a l.b, max l.a l.b)

-- the pairs of different vertices that are joined, each once, in order of first appearance
abbrev pub pairs : List Link → List (ℕ × ℕ)
pairs [] = []
pairs (l ∷ ls) = if l.a == l.b then pairs ls else ends l ∷ filter (λ p. not (joins l p.0 p.1)) (pairs ls)

-- the least cost of the links that join u and v
abbrev pub least_cost : List Link → ℕ → ℕ → Option ℕ
least_cost [] u v = None
least_cost (l ∷ ls) u v = if joins l u v then Some (min l.cost (unwrap_or (least_cost ls u v) l.cost)) else least_cost ls u v

-- one link for each pair, of the least cost
abbrev pub merged : List Link → List Link
merged ls = map (λ p. record { a = p.0; b = p.1; cost = unwrap_or (least_cost ls p.0 p.1) 0 }) (pairs ls)

-- both needs at once: required wins, and else the greater prize
abbrev pub both : Need → Need → Need
both Required need = Required
both (Pays p) Required = Required
both (Pays p) (Pays q) = Pays (max p q)

-- all that is stated of v; where nothing is, it pays 0
abbrev pub stated_need : List (ℕ × Need) → ℕ → Need
stated_need [] v = Pays 0
stated_need (stated ∷ rest) v = if stated.0 == v then both stated.1 (stated_need rest v) else stated_need rest v

-- the instance of n vertices with these links and needs
abbrev pub network_of : ℕ → List Link → List (ℕ × Need) → Network
network_of n links needs = record { n = n; links = merged links; needs = map (stated_need needs) (up_to n) }
