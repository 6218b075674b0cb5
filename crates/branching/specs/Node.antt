-- Nodes of the search, and their halves.
use Rattle.std.specs.Prelude.{ℕ, ◌≤◌, ◌==◌, not, filter}
use Rattle.st_model.specs.declared.split_at.SplitAt.{SplitAt}
use Rattle.st_model.specs.declared.split_at.SplitAt.TheVariants.{Vertex, Link}
use Rattle.st_model.specs.Network.{Network}
use Rattle.st_model.specs.Branch.{IsBranch, LeavesRequired, with_inside, with_outside, with_must, with_barred, yes_half, no_half}
use Rattle.cut_packing.specs.declared.packing.Packing.{Packing}
use Rattle.cut_packing.specs.Packing.{Fits, weight}
use Rattle.branching.specs.declared.node.Node.{Node}

-- a branch of the instance that leaves required vertices, and a packing that fits it
pub record IsNode (I : Network) (N : Node) : Type 0 where
  pub branch : IsBranch I N.branch
  pub required : LeavesRequired I N.branch
  pub fits : Fits I N.branch N.packing

-- a node whose packing weighs no less than that of the other
pub record IsNoLighter (I : Network) (N M : Node) : Type 0 where
  pub node : IsNode I M
  pub no_lighter : weight I N.branch N.packing ≤ weight I M.branch M.packing

-- the packing without the cuts that name v
abbrev pub without : Packing → ℕ → Packing
without P v = record { root = P.root; cuts = filter (λ c. not (c.q == v)) P.cuts }

-- the packing of the half that says no to a split: at a vertex without the cuts that name it, at a link the same
abbrev pub no_packing : Packing → SplitAt → Packing
no_packing P (Vertex v) = without P v
no_packing P (Link a b) = P

-- the half that says yes to a split, under this number: it keeps the packing
abbrev pub yes_node : Node → SplitAt → ℕ → Node
yes_node N at id = record { id = id; branch = yes_half N.branch at; packing = N.packing }

-- the half that says no, under this number: it keeps the packing but for the cuts that name the vertex
abbrev pub no_node : Node → SplitAt → ℕ → Node
no_node N at id = record { id = id; branch = no_half N.branch at; packing = no_packing N.packing at }

-- the half with v inside, under this number: it keeps the packing
abbrev pub inside_half : Node → ℕ → ℕ → Node
inside_half N v id = record { id = id; branch = with_inside N.branch v; packing = N.packing }

-- the half with v outside, under this number: it keeps the cuts that don't name v
abbrev pub outside_half : Node → ℕ → ℕ → Node
outside_half N v id = record { id = id; branch = with_outside N.branch v; packing = without N.packing v }

-- the half where the link between a and b is a must, and the one where it is barred, each under its number: both keep the packing
abbrev pub must_half : Node → ℕ → ℕ → ℕ → Node
must_half N a b id = record { id = id; branch = with_must N.branch a b; packing = N.packing }

abbrev pub barred_half : Node → ℕ → ℕ → ℕ → Node
barred_half N a b id = record { id = id; branch = with_barred N.branch a b; packing = N.packing }
