-- Arcs that are chosen one by one, each of which bears just what it costs. Helpers' clauses cite this, and no public one.
use Rattle.std.specs.Prelude.{◌≡◌, ℕ, ◌+◌, ◌-◌, ◌≤◌, ◌==◌, ◌&&◌, ◌||◌, Bool, nat_le, IsTrue, IsFalse, if◌then◌else◌, cond, List, [], ◌∷◌, length, map, take, All, Option, Some, None}
use Rattle.st_model.specs.declared.branch.Branch.{Branch}
use Rattle.st_model.specs.Branch.{IsVertexSet, certain_in, is_present, open_price}
use Rattle.st_model.specs.Lists.{has, sum_to}
use Rattle.st_model.specs.Network.{IsVertex}
use Rattle.st_model.specs.VertexSet.{VertexSet}
use Rattle.cut_packing.specs.declared.arcs.LoadedArc.{LoadedArc}
use Rattle.cut_packing.specs.declared.cut.Cut.{Cut}
use Rattle.cut_packing.specs.Full.{IsSaturatedIn}
use Rattle.cut_packing.specs.Loads.{arcs_into, AreLoadedIn}
use Rattle.cut_packing.specs.Packing.{load, FitsIn}
use Rattle.arborescence.specs.Ascending.{rooted_packing}
use Rattle.arborescence.specs.Closing.{AreHeadsOf, IsStrong}
use Rattle.arborescence.specs.DiNetwork.{DiNetwork, IsDiNetwork, away_price, di_ground}
use Rattle.arborescence.specs.declared.closing.Closing.{Closing}
use Rattle.arborescence.specs.declared.entering.Entering.{Entering}

-- the pair of ends, the head first
abbrev pub back : ℕ × ℕ → ℕ × ℕ
back arc = (arc.1, arc.0)

-- the tails of the arcs of which the head is in the set are in it
abbrev pub IsUnentered : List (ℕ × ℕ) → List ℕ → Type 0
IsUnentered arcs set = All (λ arc. IsTrue (has set arc.1) → IsTrue (has set arc.0)) arcs

-- a set that the first of the arcs connect strongly, and that none of them enters
pub record IsRoundStrong (n : ℕ) (chosen : List (ℕ × ℕ)) (c : Cut) : Type 0 where
  pub ascending : IsVertexSet n c.set
  pub place : ℕ
  pub few : place ≤ length chosen
  pub strong : IsStrong (take place chosen) c.set
  pub unentered : IsUnentered (take place chosen) c.set

-- chosen arcs that bear just what they cost, by cuts round sets that were strong by the arcs before
pub record IsClosing (D : DiNetwork) (B : Branch) (s : Closing) : Type 0 where
  pub net : IsDiNetwork D
  pub loaded : AreLoadedIn (di_ground D) B (away_price D) s.cuts.items s.arcs
  pub fits : FitsIn (di_ground D) B (rooted_packing D s.cuts.items)
  pub heads : AreHeadsOf D.n s.chosen.items s.heads
  pub tails : AreHeadsOf D.n (map back s.chosen.items) s.tails
  pub chosen : All (λ arc. IsSaturatedIn (di_ground D) B (rooted_packing D s.cuts.items) arc.0 arc.1) s.chosen.items
  pub cuts : All (IsRoundStrong D.n s.chosen.items) s.cuts.items

-- present vertices without the root that the chosen arcs connect strongly, and that none of them enters
pub record IsSource (D : DiNetwork) (B : Branch) (chosen : List (ℕ × ℕ)) (set : VertexSet) : Type 0 where
  pub count : set.count ≡ D.n + 1
  pub holds : (v : ℕ) × IsTrue (has set.members v)
  pub here : (v : ℕ) → IsTrue (has set.members v) → IsVertex D.n v × IsTrue (is_present B v)
  pub strong : IsStrong chosen set.members
  pub unentered : IsUnentered chosen set.members
  pub root : IsFalse (has set.members D.root)

-- an arc as one that enters at a head
abbrev pub entering_by : ℕ → LoadedArc → Entering
entering_by head arc = record { tail = arc.tail; head = head; left = arc.cost - arc.load }

-- of two arcs the one of which less is left, the first where there is no difference
abbrev pub lesser : Option Entering → Entering → Entering
lesser None e = e
lesser (Some f) e = if nat_le f.left e.left then f else e

-- of the arcs into a head from outside a set, and one that is given, that of which the least is left
abbrev pub least_in : List ℕ → ℕ → Option Entering → List LoadedArc → Option Entering
least_in set head given [] = given
least_in set head given (arc ∷ arcs) = least_in set head (if has set arc.tail then given else Some (lesser given (entering_by head arc))) arcs

-- the same of the arcs into some heads
abbrev pub least_over : List (List LoadedArc) → List ℕ → Option Entering → List ℕ → Option Entering
least_over arcs set given [] = given
least_over arcs set given (v ∷ vs) = least_over arcs set (least_in set v given (arcs_into arcs v)) vs

-- an open arc into the set, with what is left of it, of which no more is left than of any other one
pub record IsEntering (D : DiNetwork) (B : Branch) (cuts : List Cut) (arcs : List (List LoadedArc)) (set : List ℕ) (e : Entering) : Type 0 where
  pub outside : IsFalse (has set e.tail)
  pub inside : IsTrue (has set e.head)
  pub tail : IsTrue (is_present B e.tail)
  pub price : open_price (di_ground D) B e.tail e.head ≡ Some (load cuts (e.tail, e.head) + e.left)
  pub least : (v : ℕ) → IsTrue (has set v) → All (λ arc. IsFalse (has set arc.tail) → arc.load + e.left ≤ arc.cost) (arcs_into arcs v)

-- no arc enters the set
abbrev pub NoneEnters : List (List LoadedArc) → List ℕ → Type 0
NoneEnters arcs set = (v : ℕ) → IsTrue (has set v) → All (λ arc. IsTrue (has set arc.tail)) (arcs_into arcs v)

-- each present vertex is the root, a terminal or inside
abbrev pub AllCertain : DiNetwork → Branch → Type 0
AllCertain D B = (v : ℕ) → IsVertex D.n v → IsTrue (is_present B v) → IsTrue (certain_in (di_ground D) B v)

-- whether the arcs lead from u to v: the first of them once at most
abbrev pub leads_by : List (ℕ × ℕ) → ℕ → ℕ → Bool
leads_by [] u v = u == v
leads_by (arc ∷ arcs) u v = leads_by arcs u v || (leads_by arcs u arc.0 && leads_by arcs arc.1 v)

-- how many pairs of vertices there are of which the first doesn't lead to the second
abbrev pub pairs_apart : ℕ → List (ℕ × ℕ) → ℕ
pairs_apart n arcs = sum_to (λ u. sum_to (λ v. cond (leads_by arcs u v) 0 1) n) n
