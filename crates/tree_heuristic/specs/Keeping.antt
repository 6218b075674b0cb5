-- What is kept of a tree while leaves are cut off. Helpers' clauses cite this, and no public one.
use Rattle.std.specs.Prelude.{◌≡◌, ℕ, ◌+◌, ◌≤◌, Bool, false, not, ◌&&◌, ◌||◌, ◌==◌, nat_lt, IsTrue, IsFalse, List, [], ◌∷◌, ◌++◌, reverse, ⊤}
use Rattle.std.specs.List.{list_any}
use Rattle.st_model.specs.declared.tree.Tree.{Tree}
use Rattle.st_model.specs.Arborescence.{IsArborescence, arc_cost, cost, reached, reached_from}
use Rattle.st_model.specs.Lists.{has}
use Rattle.st_model.specs.Network.{Network, is_required, pays}
use Rattle.tree_heuristic.specs.declared.kept.Kept.{Kept}

-- v is required or among those inside
abbrev pub must : Network → List ℕ → ℕ → Bool
must I inside v = is_required I v || has inside v

-- v may be left out, and pays less than the arc costs
abbrev pub is_spare : Network → List ℕ → ℕ → ℕ × ℕ → Bool
is_spare I inside v arc = not (must I inside v) && nat_lt (pays I v) (arc_cost I arc)

-- an arc leads from v
abbrev pub is_tail : List (ℕ × ℕ) → ℕ → Bool
is_tail arcs v = list_any (λ arc. arc.0 == v) arcs

-- two arcs lead from v
abbrev pub is_fork : List (ℕ × ℕ) → ℕ → Bool
is_fork [] v = false
is_fork (arc ∷ arcs) v = ((arc.0 == v) && is_tail arcs v) || is_fork arcs v

-- no arc leads from the head, which isn't worth it
abbrev pub is_cut : Network → List ℕ → List ℕ → ℕ × ℕ → Bool
is_cut I inside tails arc = not (has tails arc.1) && is_spare I inside arc.1 arc

-- each head from which no later arc leads is worth its arc
abbrev pub AreWorth : Network → List ℕ → List (ℕ × ℕ) → Type 0
AreWorth I inside [] = ⊤
AreWorth I inside (arc ∷ arcs) = (IsFalse (is_tail arcs arc.1) → IsFalse (is_spare I inside arc.1 arc)) × AreWorth I inside arcs

-- and the start is worth the first arc where no other leads from it
abbrev pub IsStartWorth : Network → List ℕ → ℕ → List (ℕ × ℕ) → Type 0
IsStartWorth I inside start [] = ⊤
IsStartWorth I inside start (arc ∷ arcs) = IsFalse (is_tail arcs start) → IsFalse (is_spare I inside start arc)

abbrev pub tree_of : Kept → Tree
tree_of k = record { start = k.start; arcs = reverse k.arcs.items }

-- a tree that costs no more, reaches no other vertices, and all those of the old one that it has to
pub record IsPruned (I : Network) (inside : List ℕ) (old new : Tree) : Type 0 where
  pub arborescence : IsArborescence I new
  pub keeps : (v : ℕ) → IsTrue (must I inside v) → IsTrue (has (reached old) v) → IsTrue (has (reached new) v)
  pub within : (v : ℕ) → IsTrue (has (reached new) v) → IsTrue (has (reached old) v)
  pub cheap : cost I new ≤ cost I old

-- an arc is kept: it stands last, its tail is a tail from now on, and a fork where it was a tail before
pub record KeepsArc (old : Kept) (arc : ℕ × ℕ) (new : Kept) : Type 0 where
  pub start : new.start ≡ old.start
  pub arcs : new.arcs.items ≡ old.arcs.items ++ arc ∷ []
  pub tails : (v : ℕ) → has new.tails.members v ≡ ((arc.0 == v) || has old.tails.members v)
  pub forks : (v : ℕ) → has new.forks.members v ≡ (((arc.0 == v) && has old.tails.members v) || has old.forks.members v)
  pub counts : (new.tails.count ≡ old.tails.count) × (new.forks.count ≡ old.forks.count)

-- the last arcs have been judged, and those before them are left as they were
pub record IsJudging (I : Network) (inside : List ℕ) (old : Tree) (left : List (ℕ × ℕ)) (k : Kept) : Type 0 where
  pub start : k.start ≡ old.start
  pub pruned : IsPruned I inside old (record { start = old.start; arcs = left ++ reverse k.arcs.items })
  pub worth : AreWorth I inside (reverse k.arcs.items)
  pub tails : (v : ℕ) → has k.tails.members v ≡ is_tail (reverse k.arcs.items) v
  pub forks : (v : ℕ) → has k.forks.members v ≡ is_fork (reverse k.arcs.items) v
  pub tails_count : k.tails.count ≡ I.n + 1
  pub forks_count : k.forks.count ≡ I.n + 1

-- the start has been moved on
pub record IsTrimming (I : Network) (inside : List ℕ) (old : Tree) (k : Kept) : Type 0 where
  pub pruned : IsPruned I inside old (tree_of k)
  pub worth : AreWorth I inside (reverse k.arcs.items)
  pub forks : (v : ℕ) → IsTrue (has (reached_from (k.start ∷ []) (reverse k.arcs.items)) v) → has k.forks.members v ≡ is_fork (reverse k.arcs.items) v
