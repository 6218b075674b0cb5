-- Clusters of vertices that links have joined so far, and the cuts round them.
use Rattle.std.specs.Prelude.{◌≡◌, ◌≢◌, ℕ, ◌+◌, ◌*◌, ◌≤◌, ◌↔◌, ◌==◌, Bool, IsTrue, IsFalse, IsSome, IfSome, if◌then◌else◌, List, [], ◌∷◌, length, map, All, Any, Some, ◌&&◌, slice_index_or}
use Rattle.std.specs.Prelude.{Vec}
use Rattle.std.specs.declared.alloc.Global.{Global}
use Rattle.st_model.specs.declared.branch.Branch.{Branch}
use Rattle.st_model.specs.declared.link.Link.{Link}
use Rattle.st_model.specs.Lists.{has, total, sum_to}
use Rattle.st_model.specs.Network.{Network, IsVertex, joins, link}
use Rattle.st_model.specs.Arborescence.{arc_cost}
use Rattle.st_model.specs.Branch.{IsVertexSet, is_present}
use Rattle.cut_packing.specs.declared.cut.Cut.{Cut}
use Rattle.cut_packing.specs.Packing.{load, CutFits}
use Rattle.level_packing.specs.declared.forest.Forest.{Forest}

-- a vertex that isn't outside
pub record IsPresent (I : Network) (B : Branch) (v : ℕ) : Type 0 where
  pub vertex : IsVertex I.n v
  pub present : IsTrue (is_present B v)

-- a forest as its lists
pub record Groups : Type 0 where
  -- for each vertex the one that stands for its cluster
  pub cluster : List ℕ
  -- the vertices of each cluster, by the one that stands for it
  pub members : List (List ℕ)
  -- the cost up to which a cluster was raised, likewise
  pub formed : List ℕ
  pub chosen : List (ℕ × ℕ)
  pub cuts : List Cut

abbrev pub lists : List (Vec ℕ Global) → List (List ℕ)
lists vs = map (λ list. list.items) vs

abbrev pub groups : Forest → Groups
groups F = record { cluster = F.cluster.items; members = lists F.members.items; formed = F.formed.items; chosen = F.chosen.items; cuts = F.cuts.items }

abbrev pub cluster_of : Groups → ℕ → ℕ
cluster_of F v = slice_index_or F.cluster v 0

abbrev pub members_of : Groups → ℕ → List ℕ
members_of F i = slice_index_or F.members i []

abbrev pub formed_at : Groups → ℕ → ℕ
formed_at F i = slice_index_or F.formed i 0

-- what the arcs into the cluster bear, but for the root's
abbrev pub level : Groups → ℕ → ℕ → ℕ
level F root i = if i == cluster_of F root then 0 else formed_at F i

-- one of the links is between u and v, and costs this
abbrev pub IsToCome : List Link → ℕ → ℕ → ℕ → Type 0
IsToCome rest u v price = Any (λ l. IsTrue (joins l u v) × (l.cost ≡ price)) rest

-- two ends that are in one cluster
pub record IsJoined (I : Network) (B : Branch) (F : Groups) (pair : ℕ × ℕ) : Type 0 where
  pub from : IsPresent I B pair.0
  pub to : IsPresent I B pair.1
  pub together : cluster_of F pair.0 ≡ cluster_of F pair.1
  pub linked : IsSome (link I.links pair.0 pair.1)

-- which vertices are together, and that the chosen links join them
pub record AreClusters (I : Network) (B : Branch) (F : Groups) : Type 0 where
  pub cluster_len : length F.cluster ≡ I.n + 1
  pub members_len : length F.members ≡ I.n + 1
  pub formed_len : length F.formed ≡ I.n + 1
  -- a cluster is named by one of its vertices
  pub own : (v : ℕ) → IsPresent I B v → IsPresent I B (cluster_of F v)
  pub settled : (v : ℕ) → IsPresent I B v → cluster_of F (cluster_of F v) ≡ cluster_of F v
  pub members : (i v : ℕ) → IsPresent I B i → cluster_of F i ≡ i → IsTrue (has (members_of F i) v) ↔ (IsPresent I B v × (cluster_of F v ≡ i))
  pub chosen : All (IsJoined I B F) F.chosen
  -- a set that no chosen link leaves holds a cluster whole or not at all
  pub connected : (S : ℕ → Bool) → All (λ pair. S pair.0 ≡ S pair.1) F.chosen → (u v : ℕ) → IsPresent I B u → IsPresent I B v → cluster_of F u ≡ cluster_of F v → S u ≡ S v

-- what the cuts so far lay on the arcs
pub record AreLevel (I : Network) (B : Branch) (root limit : ℕ) (F : Groups) : Type 0 where
  pub cuts : All (CutFits I B) F.cuts
  pub sets : All (λ c. IsVertexSet I.n c.set) F.cuts
  pub apart_from_root : All (λ c. IsFalse (has c.set root)) F.cuts
  pub low : (i : ℕ) → IsPresent I B i → formed_at F i ≤ limit
  -- between clusters all arcs into one bear what it was raised to, and into the root's at most the limit
  pub raised : (u v : ℕ) → IsPresent I B u → IsPresent I B v → cluster_of F u ≢ cluster_of F v → cluster_of F v ≢ cluster_of F root → load F.cuts (u, v) ≡ formed_at F (cluster_of F v)
  pub light : (u v : ℕ) → IsPresent I B u → IsPresent I B v → cluster_of F u ≢ cluster_of F v → load F.cuts (u, v) ≤ limit
  pub within : (u v : ℕ) → IsPresent I B u → IsPresent I B v → cluster_of F u ≡ cluster_of F v → IfSome (link I.links u v) (λ price. load F.cuts (u, v) ≤ price)
  -- only what names a cluster is raised
  pub idle : (i : ℕ) → IsVertex I.n i → (IsPresent I B i → cluster_of F i ≢ i) → formed_at F i ≡ 0
  pub balance : total (λ c. c.y) F.cuts ≡ total (arc_cost I) F.chosen + sum_to (level F root) I.n

-- links between clusters are still to come
abbrev pub AreToCome : Network → Branch → List Link → Groups → Type 0
AreToCome I B rest F = (u v : ℕ) → IsPresent I B u → IsPresent I B v → cluster_of F u ≢ cluster_of F v → IfSome (link I.links u v) (IsToCome rest u v)

-- the state between two links: those that are left cost at least the limit
pub record IsForest (I : Network) (B : Branch) (root limit : ℕ) (rest : List Link) (F : Groups) : Type 0 where
  pub rooted : IsPresent I B root
  pub clusters : AreClusters I B F
  pub levels : AreLevel I B root limit F
  pub to_come : AreToCome I B rest F

-- one, where the list holds anything
abbrev pub one_if_any : List ℕ → ℕ
one_if_any [] = 0
one_if_any (x ∷ xs) = 1

-- each chosen link made one cluster of two, after at most two cuts
pub record IsCounted (n : ℕ) (F : Groups) : Type 0 where
  -- place 0, which is no vertex, stays a cluster of its own
  pub clusters : total one_if_any F.members + length F.chosen ≡ n + 1
  pub cuts : length F.cuts ≤ 2 * length F.chosen

-- a forest, where what is left costs at least all that was taken
abbrev pub IsGrown : Network → Branch → ℕ → List Link → Groups → Type 0
IsGrown I B root rest F = (limit : ℕ) × IsForest I B root limit rest F × All (λ l. limit ≤ l.cost) rest × IsCounted I.n F

-- a link of the instance between present vertices
pub record IsPresentLink (I : Network) (B : Branch) (l : Link) : Type 0 where
  pub a : IsPresent I B l.a
  pub b : IsPresent I B l.b
  pub cost : link I.links l.a l.b ≡ Some l.cost

-- neither end of the link is outside
abbrev pub has_present_ends : Branch → Link → Bool
has_present_ends B l = is_present B l.a && is_present B l.b
