-- The directed network that stated arcs and terminals make, whatever is stated twice.
use Rattle.std.specs.Prelude.{ℕ, min, not, ◌==◌, if◌then◌else◌, List, [], ◌∷◌, map, filter, Option, Some, None, unwrap_or}
use Rattle.st_model.specs.declared.link.Link.{Link}
use Rattle.st_model.specs.Lists.{has, up_to}
use Rattle.arborescence.specs.DiNetwork.{DiNetwork, leads}

-- the two ends of an arc, its tail first
abbrev pub tail_head : Link → ℕ × ℕ
tail_head l = (l.a, l.b)

-- the ordered pairs of different vertices between which an arc leads, each once, in order of first appearance
abbrev pub arc_pairs : List Link → List (ℕ × ℕ)
arc_pairs [] = []
arc_pairs (l ∷ ls) = if l.a == l.b then arc_pairs ls else tail_head l ∷ filter (λ p. not (leads l p.0 p.1)) (arc_pairs ls)

-- the least cost of the arcs that lead from u to v
abbrev pub least_arc : List Link → ℕ → ℕ → Option ℕ
least_arc [] u v = None
least_arc (l ∷ ls) u v = if leads l u v then Some (min l.cost (unwrap_or (least_arc ls u v) l.cost)) else least_arc ls u v

-- one arc for each ordered pair, of the least cost
abbrev pub merged_arcs : List Link → List Link
merged_arcs ls = map (λ p. record { a = p.0; b = p.1; cost = unwrap_or (least_arc ls p.0 p.1) 0 }) (arc_pairs ls)

-- of the vertices up to n, those that are stated, ascending
abbrev pub stated_terminals : List ℕ → ℕ → List ℕ
stated_terminals stated n = filter (λ v. has stated v) (up_to n)

-- the directed network of n vertices with this root, these arcs and these terminals
abbrev pub di_network_of : ℕ → ℕ → List Link → List ℕ → DiNetwork
di_network_of n root arcs terminals = record { n = n; root = root; arcs = merged_arcs arcs; terminals = stated_terminals terminals n }
