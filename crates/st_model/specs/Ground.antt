-- What trees and packings are judged over: arcs with costs, and what each vertex needs. An undirected network is a case.
use Rattle.std.specs.Prelude.{◌≡◌, ℕ, Bool, Option, None}
use Rattle.st_model.specs.Network.{Network, link, is_required, pays}

pub record Ground : Type 0 where
  pub n : ℕ
  -- the cost of the arc from one vertex to another, if there is one
  pub price : ℕ → ℕ → Option ℕ
  pub required : ℕ → Bool
  pub pays : ℕ → ℕ
  -- the only root that cuts may have, if there is one
  pub root : Option ℕ

-- a network: each link is an arc either way
abbrev pub ground : Network → Ground
ground I = record { n = I.n; price = link I.links; required = is_required I; pays = pays I; root = None }

-- each arc has one of the same cost in the other direction
abbrev pub IsUndirected : Ground → Type 0
IsUndirected G = (u v : ℕ) → G.price u v ≡ G.price v u
