-- How a store keeps a graph: a list of halves for each vertex, and for each link where its halves are.
use Rattle.std.specs.Prelude.{◌≡◌, ℕ, ◌+◌, ◌<◌, min, max, Bool, ◌&&◌, ◌==◌, nat_lt, if◌then◌else◌, List, [], ◌∷◌, length, map, All, AllPairs, IsFalse, IsPermutation, IfSome, slice_get, slice_index_or, Option, Some, None}
use Rattle.std.specs.declared.alloc.Global.{Global}
use Rattle.std.specs.declared.vec.Vec.{Vec}
use Rattle.std.specs.List.{IsDistinct}
use Rattle.std.specs.Map.{keys_of, lookup}
use Rattle.std.specs.Option.{option_map}
use Rattle.st_model.specs.declared.link.Link.{Link}
use Rattle.st_model.specs.declared.need.Need.{Need}
use Rattle.st_model.specs.Network.{joins, link}
use Rattle.graph_store.specs.declared.half.Half.{Half}
use Rattle.graph_store.specs.declared.joints.Joint.{Joint}
use Rattle.graph_store.specs.Changes.{are_ends}
use Rattle.graph_store.specs.Graph.{Graph}

-- a pair of vertices, the lower first, and where its halves are
abbrev pub Entry : Type 0
Entry = (ℕ × ℕ) × Joint

-- the pair is of these two
abbrev pub is_pair : ℕ → ℕ → ℕ × ℕ → Bool
is_pair low high pair = (low == pair.0) && (high == pair.1)

-- where the halves between u and w are, if there is a link
abbrev pub joint_of : List Entry → ℕ → ℕ → Option Joint
joint_of es u w = lookup (is_pair (min u w) (max u w)) es

-- the link that an entry stands for
abbrev pub link_of : Entry → Link
link_of e = record { a = e.0.0; b = e.0.1; cost = e.1.cost }

-- the links of all entries
abbrev pub links_of : List Entry → List Link
links_of es = map link_of es

-- the place of the half from v to w, and its cost
abbrev pub place_in : ℕ → ℕ → Joint → ℕ × ℕ
place_in v w joint = (if nat_lt v w then joint.low else joint.high, joint.cost)

-- where the half from v to w is in the list of v, and its cost
abbrev pub place_of : List Entry → ℕ → ℕ → Option (ℕ × ℕ)
place_of es v w = option_map (place_in v w) (joint_of es v w)

-- the halves of v
abbrev pub halves_at : List (Vec Half Global) → ℕ → List Half
halves_at lists v = slice_index_or (map (λ list. list.items) lists) v []

-- the half at another cost
abbrev pub with_cost : ℕ → Half → Half
with_cost cost half = record { to = half.to; cost = cost }

-- each half is where its link says, and each link's half is there
pub record AreHalves (halves : List Half) (place : ℕ → Option (ℕ × ℕ)) : Type 0 where
  pub placed : (k : ℕ) (half : Half) → slice_get halves k ≡ Some half → place half.to ≡ Some (k, half.cost)
  pub found : (w k cost : ℕ) → place w ≡ Some (k, cost) → slice_get halves k ≡ Some (record { to = w; cost = cost })

-- the same, but that nothing is said of the half at one place
pub record AreHalvesBut (out : ℕ) (halves : List Half) (place : ℕ → Option (ℕ × ℕ)) : Type 0 where
  pub placed : (k : ℕ) (half : Half) → (k ≡ out → ⊥) → slice_get halves k ≡ Some half → place half.to ≡ Some (k, half.cost)
  pub found : (w k cost : ℕ) → place w ≡ Some (k, cost) → (k ≡ out → ⊥) × (slice_get halves k ≡ Some (record { to = w; cost = cost }))

-- the lower vertex stands first
abbrev pub IsOrdered : ℕ × ℕ → Type 0
IsOrdered pair = pair.0 < pair.1

-- what holds of the pairs of all links: the lower vertex stands first, and none stands twice
pub record ArePairs (es : List Entry) : Type 0 where
  pub ordered : All IsOrdered (keys_of es)
  pub once : IsDistinct (λ x y. is_pair x.0 x.1 y) (keys_of es)

-- links between the vertices 1 to n
pub record Linked : Type 0 where
  pub n : ℕ
  pub links : List Link

-- what holds of how links are kept: each half is where its link says
pub record AreJoined (n : ℕ) (lists : List (Vec Half Global)) (es : List Entry) : Type 0 where
  pub long : length lists ≡ n + 1
  pub pairs : ArePairs es
  pub halves : (v : ℕ) → AreHalves (halves_at lists v) (place_of es v)

-- no two links join the same two vertices
abbrev pub AreOnce : List Link → Type 0
AreOnce ls = AllPairs (λ l m. IsFalse (joins m l.a l.b)) ls

-- what is left once the link between a and b is taken out, in a free order
pub record TakesOut (old new : Linked) (a b : ℕ) : Type 0 where
  pub count : new.n ≡ old.n
  pub links : (u w : ℕ) → link new.links u w ≡ (if are_ends a b u w then None else link old.links u w)
  pub moved : IfSome (link old.links a b) (λ cost. IsPermutation old.links (record { a = min a b; b = max a b; cost = cost } ∷ new.links))
  pub unchanged : link old.links a b ≡ None → new ≡ old

-- the graph of these links and needs, with these vertices present
abbrev pub graph_of : Linked → List Need → List Bool → Graph
graph_of x needs present = record { network = record { n = x.n; links = x.links; needs = needs }; present = present }
