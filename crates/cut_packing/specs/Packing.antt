-- Cuts with values for a branch: what they lay on each arc and each vertex, and what they weigh.
use Rattle.std.specs.Prelude.{◌≡◌, ℕ, ◌+◌, ◌-◌, ◌≤◌, ◌==◌, Bool, max, not, ◌&&◌, IsTrue, IsFalse, if◌then◌else◌, List, [], All, IfSome, MatchOption, Option, Some, None}
use Rattle.st_model.specs.declared.branch.Branch.{Branch}
use Rattle.st_model.specs.Lists.{has, total, sum_to}
use Rattle.st_model.specs.Network.{Network, IsVertex}
use Rattle.st_model.specs.Ground.{Ground, ground}
use Rattle.st_model.specs.Arborescence.{arc_cost_in}
use Rattle.st_model.specs.Branch.{is_present, certain_in, open_price}
use Rattle.cut_packing.specs.declared.cut.Cut.{Cut}
use Rattle.cut_packing.specs.declared.packing.Packing.{Packing}

-- the y of the cuts that the arc (u, v) enters: those that hold v and not u
abbrev pub load : List Cut → ℕ × ℕ → ℕ
load cuts arc = total (λ c. if has c.set arc.1 && not (has c.set arc.0) then c.y else 0) cuts

-- the y of the cuts that name q
abbrev pub named : List Cut → ℕ → ℕ
named cuts q = total (λ c. if c.q == q then c.y else 0) cuts

-- the root is a vertex that every tree of the branch reaches, the only one that may be where there is one, and no cut holds it
pub record IsRootIn (G : Ground) (B : Branch) (cuts : List Cut) (r : ℕ) : Type 0 where
  pub vertex : IsVertex G.n r
  pub certain : IsTrue (certain_in G B r)
  pub same : IfSome G.root (λ s. r ≡ s)
  pub apart : All (λ c. IsFalse (has c.set r)) cuts

-- a root is given wherever there are cuts
abbrev pub RootFitsIn : Ground → Branch → Packing → Type 0
RootFitsIn G B P = MatchOption P.root (P.cuts ≡ []) (IsRootIn G B P.cuts)

-- whether a cut may name q: it isn't outside, and where there is an only root, every tree of the branch reaches it
abbrev pub nameable_by : Option ℕ → Ground → Branch → ℕ → Bool
nameable_by None G B q = is_present B q
nameable_by (Some r) G B q = is_present B q && certain_in G B q

abbrev pub nameable_in : Ground → Branch → ℕ → Bool
nameable_in G B q = nameable_by G.root G B q

-- the cut's vertices are in range, and it names one of them that it may name
pub record CutFitsIn (G : Ground) (B : Branch) (c : Cut) : Type 0 where
  pub in_range : All (IsVertex G.n) c.set
  pub member : IsTrue (has c.set c.q)
  pub present : IsTrue (nameable_in G B c.q)

-- no arc between present vertices bears more than it costs, unless its link is barred
abbrev pub ArcsFitIn : Ground → Branch → List Cut → Type 0
ArcsFitIn G B cuts = (u v : ℕ) → IsTrue (is_present B u) → IsTrue (is_present B v) → IfSome (open_price G B u v) (λ price. load cuts (u, v) ≤ price)

-- the cuts name no vertex that may be left out beyond what it pays
abbrev pub PrizesFitIn : Ground → Branch → List Cut → Type 0
PrizesFitIn G B cuts = (q : ℕ) → IsVertex G.n q → IsFalse (certain_in G B q) → named cuts q ≤ G.pays q

-- the root, each cut, the arcs and the prizes fit
pub record FitsIn (G : Ground) (B : Branch) (P : Packing) : Type 0 where
  pub root : RootFitsIn G B P
  pub cuts : All (CutFitsIn G B) P.cuts
  pub arcs : ArcsFitIn G B P.cuts
  pub prizes : PrizesFitIn G B P.cuts

-- what v costs every tree of the branch, where it is outside
abbrev pub outside_pays_in : Ground → Branch → ℕ → ℕ
outside_pays_in G B v = if has B.outside v then G.pays v else 0

-- the prizes of the outside vertices, and the values of the cuts
abbrev pub base_weight_in : Ground → Branch → Packing → ℕ
base_weight_in G B P = sum_to (outside_pays_in G B) G.n + total (λ c. c.y) P.cuts

-- what a link costs beyond the greater of what the cuts lay on its two arcs
abbrev pub spare_in : Ground → List Cut → ℕ × ℕ → ℕ
spare_in G cuts pair = arc_cost_in G pair - max (load cuts pair) (load cuts (pair.1, pair.0))

-- and what the links that are a must cost beyond that
abbrev pub weight_in : Ground → Branch → Packing → ℕ
weight_in G B P = base_weight_in G B P + total (spare_in G P.cuts) B.must

-- the same in a network
abbrev pub IsRoot : Network → Branch → List Cut → ℕ → Type 0
IsRoot I B cuts r = IsRootIn (ground I) B cuts r

abbrev pub RootFits : Network → Branch → Packing → Type 0
RootFits I B P = RootFitsIn (ground I) B P

abbrev pub CutFits : Network → Branch → Cut → Type 0
CutFits I B c = CutFitsIn (ground I) B c

abbrev pub ArcsFit : Network → Branch → List Cut → Type 0
ArcsFit I B cuts = ArcsFitIn (ground I) B cuts

abbrev pub PrizesFit : Network → Branch → List Cut → Type 0
PrizesFit I B cuts = PrizesFitIn (ground I) B cuts

abbrev pub Fits : Network → Branch → Packing → Type 0
Fits I B P = FitsIn (ground I) B P

abbrev pub outside_pays : Network → Branch → ℕ → ℕ
outside_pays I B v = outside_pays_in (ground I) B v

abbrev pub base_weight : Network → Branch → Packing → ℕ
base_weight I B P = base_weight_in (ground I) B P

abbrev pub spare : Network → List Cut → ℕ × ℕ → ℕ
spare I cuts pair = spare_in (ground I) cuts pair

abbrev pub weight : Network → Branch → Packing → ℕ
weight I B P = weight_in (ground I) B P
