-- What cuts take of arcs and prizes, and what they leave.
use Rattle.std.specs.Prelude.{◌≡◌, ◌≢◌, ℕ, ◌+◌, ◌-◌, ◌≤◌, IsTrue, IsFalse, List, All, Some}
use Rattle.std.specs.Option.{option_map}
use Rattle.st_model.specs.declared.branch.Branch.{Branch}
use Rattle.st_model.specs.Lists.{has, total}
use Rattle.st_model.specs.Branch.{IsVertexSet}
use Rattle.graph_store.specs.Graph.{Graph}
use Rattle.bidirected_form.specs.declared.kind.VertexKind.TheVariants.{Outside, Must}
use Rattle.bidirected_form.specs.Bidirected.{kind_in, arc_cost}
use Rattle.bidirected_form.specs.Digraph.{Digraph, kind_of, neighbours, remaining}
use Rattle.prize_transform.specs.Twins.{Ends, left_of, prize_in, prized, numbered_from}
use Rattle.cut_packing.specs.declared.cut.Cut.{Cut}
use Rattle.cut_packing.specs.declared.packing.Packing.{Packing}
use Rattle.cut_packing.specs.Packing.{load, named}

-- the ends are those of the vertices that may be left out, and no more than the prize is left of any
pub record AreEndsOf (D : Digraph) (E : Ends) : Type 0 where
  pub count : E.n ≡ D.n
  pub ends : E.ends ≡ numbered_from (D.n + 1) (prized D)
  pub within : (v : ℕ) → left_of E v ≤ prize_in D v

-- each arc has what the cuts leave of it, and all else is as before
pub record AreLowered (old new : Digraph) (cuts : List Cut) : Type 0 where
  pub root : new.root ≡ old.root
  pub count : new.n ≡ old.n
  pub kinds : new.kinds ≡ old.kinds
  pub neighbours : (v : ℕ) → neighbours new v ≡ neighbours old v
  pub remaining : (u v : ℕ) → remaining new u v ≡ option_map (λ r. r - load cuts (u, v)) (remaining old u v)

-- each prize has what the cuts leave of it, and all else is as before
pub record AreSpent (old new : Ends) (cuts : List Cut) : Type 0 where
  pub count : new.n ≡ old.n
  pub ends : new.ends ≡ old.ends
  pub left : (v : ℕ) → left_of new v ≡ left_of old v - named cuts v

-- no cut holds the root, and the cuts take no more than what is left of each arc and prize
pub record AreBorne (D : Digraph) (E : Ends) (cuts : List Cut) : Type 0 where
  pub sets : All (λ c. IsVertexSet D.n c.set × IsFalse (has c.set D.root)) cuts
  pub arcs : (u v r : ℕ) → remaining D u v ≡ Some r → load cuts (u, v) ≤ r
  pub prizes : (v : ℕ) → kind_of D v ≢ Must → named cuts v ≤ left_of E v

-- v isn't outside
abbrev pub IsThere : Digraph → ℕ → Type 0
IsThere D v = kind_of D v ≢ Outside

-- a packing from the root that fits what is left of arcs and prizes: each cut holds the vertex that it names
pub record FitsLeft (D : Digraph) (E : Ends) (P : Packing) : Type 0 where
  pub root : P.root ≡ Some D.root
  pub held : All (λ c. IsTrue (has c.set c.q) × IsThere D c.q) P.cuts
  pub borne : AreBorne D E P.cuts

-- the arcs and prizes are what the cuts leave of those of a branch
pub record AreLeft (g : Graph) (B : Branch) (cuts : List Cut) (D : Digraph) (E : Ends) : Type 0 where
  pub count : D.n ≡ g.network.n
  pub kinds : (v : ℕ) → kind_of D v ≡ kind_in g B v
  pub remaining : (u v : ℕ) → remaining D u v ≡ option_map (λ cost. cost - load cuts (u, v)) (arc_cost g B u v)
  pub prizes : (v : ℕ) → left_of E v ≡ prize_in D v - named cuts v

-- what the cuts raise the bound by
abbrev pub raised : List Cut → ℕ
raised cuts = total (λ c. c.y) cuts
