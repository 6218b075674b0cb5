-- Problems of both kinds, undirected and directed, and the ground on which each is judged.
use Rattle.std.specs.Prelude.{◌≡◌, ℕ, List}
use Rattle.st_model.specs.Network.{Network, IsInstance}
use Rattle.st_model.specs.Ground.{Ground, ground}
use Rattle.st_model.specs.Wall.{IsWall}
use Rattle.arborescence.specs.DiNetwork.{DiNetwork, IsDiNetwork, di_ground}
use Rattle.arborescence.specs.DiWall.{IsDiWall}

pub data Problem : Type 0 where
  plain : Network → Problem
  directed : DiNetwork → Problem

-- what trees, packings and proof trees of the problem are judged over
abbrev pub ground_of : Problem → Ground
ground_of (plain I) = ground I
ground_of (directed D) = di_ground D

-- what holds of every problem that is read
abbrev pub IsProblem : Problem → Type 0
IsProblem (plain I) = IsInstance I
IsProblem (directed D) = IsDiNetwork D

-- grounds that judge alike: as many vertices, arcs of the same costs, vertices of the same needs, and the same only root, if any
pub record AreAlikeIn (G H : Ground) : Type 0 where
  pub count : G.n ≡ H.n
  pub price : (u v : ℕ) → G.price u v ≡ H.price u v
  pub required : (v : ℕ) → G.required v ≡ H.required v
  pub pays : (v : ℕ) → G.pays v ≡ H.pays v
  pub root : G.root ≡ H.root

-- problems that judge alike, in whatever order their links or arcs are listed
abbrev pub AreAlike : Problem → Problem → Type 0
AreAlike p q = AreAlikeIn (ground_of p) (ground_of q)

-- a set of vertices that shows that the problem has no tree
abbrev pub IsWallOf : Problem → List ℕ → Type 0
IsWallOf (plain I) wall = IsWall I wall
IsWallOf (directed D) wall = IsDiWall D wall
