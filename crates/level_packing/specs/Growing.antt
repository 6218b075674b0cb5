-- What each step makes of a forest.
use Rattle.std.specs.Prelude.{◌≡◌, ◌≢◌, ℕ, ◌+◌, ◌-◌, ◌<◌, ◌≤◌, if◌then◌else◌, List, [], ◌∷◌, ◌++◌, length, slice_set, ◌⊎◌}
use Rattle.std.specs.List.Sorted.{IsStrictlyIncreasing}
use Rattle.st_model.specs.declared.link.Link.{Link}
use Rattle.st_model.specs.Lists.{has}
use Rattle.level_packing.specs.Forest.{Groups, cluster_of, members_of, formed_at}

-- each vertex up to n is a cluster of its own
pub record IsAlone (n : ℕ) (F : Groups) : Type 0 where
  pub cluster_len : length F.cluster ≡ n + 1
  pub members_len : length F.members ≡ n + 1
  pub formed_len : length F.formed ≡ n + 1
  pub cluster : (v : ℕ) → v ≤ n → cluster_of F v ≡ v
  pub members : (v : ℕ) → v ≤ n → members_of F v ≡ v ∷ []
  pub formed : (v : ℕ) → formed_at F v ≡ 0
  pub chosen : F.chosen ≡ []
  pub cuts : F.cuts ≡ []

-- the forest with one cut more, round a cluster
abbrev pub with_cut : Groups → List ℕ → ℕ → ℕ → Groups
with_cut F set name cost = record { cluster = F.cluster; members = F.members; formed = slice_set F.formed name cost; chosen = F.chosen; cuts = F.cuts ++ record { set = set; q = name; y = cost - formed_at F name } ∷ [] }

-- the set is the cluster's, ascending
pub record IsClusterSet (F : Groups) (name : ℕ) (set : List ℕ) : Type 0 where
  pub ascending : IsStrictlyIncreasing set
  pub same : (v : ℕ) → has set v ≡ has (members_of F name) v

-- a cluster that isn't the root's is raised to a cost, unless it was
pub record IsRaised (F : Groups) (of_root name cost : ℕ) (G : Groups) : Type 0 where
  pub stays : (name ≡ of_root) ⊎ (cost ≤ formed_at F name) → G ≡ F
  pub rises : name ≢ of_root → formed_at F name < cost → (set : List ℕ) × IsClusterSet F name set × (G ≡ with_cut F set name cost)

-- the cluster named gone is one with that named keep
pub record IsMergedInto (keep gone : ℕ) (l : Link) (F G : Groups) : Type 0 where
  pub cluster_len : length G.cluster ≡ length F.cluster
  pub cluster : (v : ℕ) → v < length F.cluster → cluster_of G v ≡ (if has (members_of F gone) v then keep else cluster_of F v)
  pub members : G.members ≡ slice_set (slice_set F.members gone []) keep (members_of F keep ++ members_of F gone)
  pub formed : G.formed ≡ slice_set (slice_set F.formed keep l.cost) gone 0
  pub chosen : G.chosen ≡ F.chosen ++ (l.a, l.b) ∷ []
  pub cuts : G.cuts ≡ F.cuts

-- two clusters are one, under one of their names
abbrev pub IsMerged : ℕ → ℕ → Link → Groups → Groups → Type 0
IsMerged first second l F G = IsMergedInto first second l F G ⊎ IsMergedInto second first l F G

-- both clusters are raised to the link's cost, and then they are one
abbrev pub IsJoinedBy : ℕ → ℕ → ℕ → Link → Groups → Groups → Type 0
IsJoinedBy of_root first second l F G = (F1 : Groups) × (F2 : Groups) × IsRaised F of_root first l.cost F1 × IsRaised F1 of_root second l.cost F2 × IsMerged first second l F2 G
