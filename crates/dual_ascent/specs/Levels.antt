-- Cuts for one vertex, by how far others are from it.
use Rattle.std.specs.Prelude.{◌≡◌, ℕ, ◌+◌, ◌^◌, ◌≤◌, ◌<◌, ◌⊎◌, IsTrue, IsFalse, length, All, Some}
use Rattle.st_model.specs.Lists.{has}
use Rattle.st_model.specs.Branch.{IsVertexSet}
use Rattle.bidirected_form.specs.Digraph.{Digraph, remaining}
use Rattle.cut_packing.specs.declared.cut.Cut.{Cut}
use Rattle.cut_packing.specs.declared.packing.Packing.{Packing}
use Rattle.cut_packing.specs.Packing.{load}
use Rattle.dual_ascent.specs.Left.{IsThere, raised}

-- along the arcs a walk leads from a vertex to q, and so much remains of its arcs together
pub data WalksTo (D : Digraph) (q : ℕ) : ℕ → ℕ → Type 0 where
  ends : WalksTo D q q 0
  goes : {u v r cost : ℕ} → remaining D u v ≡ Some r → WalksTo D q v cost → WalksTo D q u (r + cost)

-- the less of the target and of the least that a walk from u to q costs; the target, where there is no walk
pub record IsDistance (D : Digraph) (q u target least : ℕ) : Type 0 where
  pub bound : least ≤ target
  pub below : (cost : ℕ) → WalksTo D q u cost → least ≤ cost
  pub attained : (least ≡ target) ⊎ WalksTo D q u least

-- the cut names q and holds it, and doesn't hold the root
pub record IsCutFor (D : Digraph) (q : ℕ) (c : Cut) : Type 0 where
  pub named : c.q ≡ q
  pub set : IsVertexSet D.n c.set
  pub held : IsTrue (has c.set q)
  pub apart : IsFalse (has c.set D.root)

-- cuts for q from the root, which take no more than what remains of each arc
pub record AreCutsFor (D : Digraph) (q : ℕ) (P : Packing) : Type 0 where
  pub root : P.root ≡ Some D.root
  pub cuts : All (IsCutFor D q) P.cuts
  pub arcs : (u v r : ℕ) → remaining D u v ≡ Some r → load P.cuts (u, v) ≤ r

-- cuts for q that hold nobody outside, and are worth as much as q is far from the root, up to the target
pub record AreLevels (D : Digraph) (q target : ℕ) (P : Packing) : Type 0 where
  pub cuts : AreCutsFor D q P
  pub present : All (λ c. All (IsThere D) c.set) P.cuts
  -- so that they can be counted in 64 bits
  pub few : length P.cuts < 2 ^ 64
  pub worth : IsDistance D q D.root target (raised P.cuts)
