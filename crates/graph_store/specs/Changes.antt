-- What each change does to a graph, and what it leaves.
use Rattle.std.specs.Prelude.{◌≡◌, ℕ, ◌-◌, Bool, false, ◌&&◌, ◌||◌, ◌==◌, if◌then◌else◌, slice_set, List, [], ◌∷◌, None}
use Rattle.st_model.specs.declared.need.Need.{Need}
use Rattle.st_model.specs.declared.link.Link.{Link}
use Rattle.st_model.specs.Network.{joins, link}
use Rattle.st_model.specs.Steps.{put_link}
use Rattle.graph_store.specs.Graph.{Graph}

-- u and w are a and b, in either order
abbrev pub are_ends : ℕ → ℕ → ℕ → ℕ → Bool
are_ends a b u w = ((u == a) && (w == b)) || ((u == b) && (w == a))

-- v is gone with its links; the rest is as before
pub record RemovesVertex (old new : Graph) (v : ℕ) : Type 0 where
  pub count : new.network.n ≡ old.network.n
  pub needs : new.network.needs ≡ old.network.needs
  pub present : new.present ≡ slice_set old.present (v - 1) false
  pub links : (u w : ℕ) → link new.network.links u w ≡ (if (u == v) || (w == v) then None else link old.network.links u w)

-- no link is left between a and b; the rest is as before
pub record RemovesLink (old new : Graph) (a b : ℕ) : Type 0 where
  pub count : new.network.n ≡ old.network.n
  pub needs : new.network.needs ≡ old.network.needs
  pub present : new.present ≡ old.present
  pub links : (u w : ℕ) → link new.network.links u w ≡ (if are_ends a b u w then None else link old.network.links u w)

-- the graph once a and b are linked at no more than this cost: a new link stands last, a dearer one keeps its place
-- and costs this from now on, and one that costs no more stays as it is
abbrev pub with_link : Graph → ℕ → ℕ → ℕ → Graph
with_link g a b cost = record g { network = record g.network { links = put_link g.network.links (record { a = a; b = b; cost = cost }) } }

-- the links, of which that between a and b costs this
abbrev pub set_cost : List Link → ℕ → ℕ → ℕ → List Link
set_cost [] a b cost = []
set_cost (l ∷ ls) a b cost = if joins l a b then record l { cost = cost } ∷ ls else l ∷ set_cost ls a b cost

-- the graph, in which the link between a and b costs this
abbrev pub with_link_cost : Graph → ℕ → ℕ → ℕ → Graph
with_link_cost g a b cost = record g { network = record g.network { links = set_cost g.network.links a b cost } }

-- the graph, in which v needs this
abbrev pub with_need : Graph → ℕ → Need → Graph
with_need g v need = record g { network = record g.network { needs = slice_set g.network.needs (v - 1) need } }
