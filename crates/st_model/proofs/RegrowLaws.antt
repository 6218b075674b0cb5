-- A tree can be regrown at each vertex that it reaches, and what is regrown is as good.
use Rattle.std.proofs.Common.{◌≡◌, ℕ, ◌<◌, cond, List, [], ◌∷◌, reverse, refl, sym, ap, arith, subst}
use Rattle.std.specs.Prelude.{IsTrue, IsFalse}
use Rattle.std.proofs.lemmas.Bool.{false_from_ne_true}
use Rattle.std.proofs.lemmas.List.{reverse-reverse}
use Rattle.st_model.specs.declared.tree.Tree.{Tree}
use Rattle.st_model.specs.Lists.{has, sum_to}
use Rattle.st_model.specs.Network.{Network, IsInstance, pays}
use Rattle.st_model.specs.Arborescence.{reached, Grows, IsArborescence, missed}
use Rattle.st_model.specs.Growth.{reaches}
use Rattle.st_model.specs.Regrown.{regrown, IsRegrown, EachTreeRegrows}
use Rattle.st_model.proofs.Sums.{sum_to_same}
use Rattle.st_model.proofs.Reaching.{tree-vertex}
use Rattle.st_model.proofs.RegrowSteps.{IsRegrowth, IsRegrowth-regrown}

-- a number above all vertices is not reached
pub not_reached_above : (I : Network) (t : Tree) (v : ℕ) → IsInstance I → IsArborescence I t → I.n < v → IsFalse (has (reached t) v)
not_reached_above I t v instance tree above = false_from_ne_true (has (reached t) v) (λ there. let vertex = tree-vertex I t v instance tree there in omega arith)

-- the regrown arcs, with their start
pub tree-regrowth : (I : Network) (t : Tree) (at : ℕ) → IsArborescence I t → IsTrue (has (reached t) at) → IsRegrowth I t.start t.arcs at (regrown at (reverse t.arcs))
tree-regrowth I t at tree there =
    let back = reverse-reverse t.arcs in
    subst (λ (old : List (ℕ × ℕ)). IsRegrowth I t.start old at (regrown at (reverse t.arcs))) back
    (IsRegrowth-regrown I t.start at (reverse t.arcs) (subst (Grows I (t.start ∷ [])) (sym back) tree.grows) (subst (λ (arcs : List (ℕ × ℕ)). IsTrue (reaches t.start arcs at)) (sym back) there))

-- with the vertex as the start they are the tree regrown
pub IsRegrown-regrown : (I : Network) (t : Tree) (at : ℕ) → IsInstance I → IsArborescence I t → IsTrue (has (reached t) at) → IsRegrown I t at (record { start = at; arcs = regrown at (reverse t.arcs) })
IsRegrown-regrown I t at instance tree there =
    let regrowth = tree-regrowth I t at tree there in
    record {
      start = refl;
      arborescence = record { start = tree-vertex I t at instance tree there; grows = regrowth.grows };
      links = regrowth.links;
    }

-- so each tree can be regrown
pub each_tree_regrows : EachTreeRegrows
each_tree_regrows I t at instance tree there = (record { start = at; arcs = regrown at (reverse t.arcs) }, IsRegrown-regrown I t at instance tree there)

-- what is missed and what is paid in all depend on what is reached alone
pub missed-same : (I : Network) (n : ℕ) (r s : List ℕ) → ((v : ℕ) → has s v ≡ has r v) → sum_to (missed I s) n ≡ sum_to (missed I r) n
missed-same I n r s same = sum_to_same (missed I s) (missed I r) n (λ v low high. ap (λ b. cond b 0 (pays I v)) (same v))
