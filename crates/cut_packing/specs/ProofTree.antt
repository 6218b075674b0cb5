-- Trees of splits that end in packings, and the bound that they prove.
use Rattle.std.specs.Prelude.{ℕ, ◌≤◌, ◌<◌, IsTrue, IsFalse, IsSome, Option, Some, None}
use Rattle.st_model.specs.declared.branch.Branch.{Branch}
use Rattle.st_model.specs.declared.split_at.SplitAt.{SplitAt}
use Rattle.st_model.specs.declared.split_at.SplitAt.TheVariants.{Vertex, Link}
use Rattle.st_model.specs.Network.{Network, IsVertex}
use Rattle.st_model.specs.Ground.{Ground, ground}
use Rattle.st_model.specs.Branch.{is_present, is_undecided, yes_half, no_half}
use Rattle.st_model.specs.Made.{has_pair}
use Rattle.cut_packing.specs.declared.packing.Packing.{Packing}
use Rattle.cut_packing.specs.Packing.{FitsIn, weight_in}

-- a branch closed by a packing, or split: the half that says yes, and the half that says no
pub data ProofTree : Type 0 where
  close : Packing → ProofTree
  split : SplitAt → ProofTree → ProofTree → ProofTree

-- the packing fits the branch, and weighs x at least
pub record ClosesIn (G : Ground) (B : Branch) (x : ℕ) (P : Packing) : Type 0 where
  pub fits : FitsIn G B P
  pub weighs : x ≤ weight_in G B P

-- the branch can be split at the vertex v
pub record IsSplitIn (G : Ground) (B : Branch) (v : ℕ) : Type 0 where
  pub vertex : IsVertex G.n v
  pub undecided : IsTrue (is_undecided B v)
  pub free : IsFalse (G.required v)

-- the cost of a link at which a branch can be split: none where there is an only root
abbrev pub split_price_by : Option ℕ → Option ℕ → Option ℕ
split_price_by None price = price
split_price_by (Some r) price = None

-- the branch can be split at the link between a and b, the lower first
pub record IsLinkSplitIn (G : Ground) (B : Branch) (a b : ℕ) : Type 0 where
  pub ordered : a < b
  pub linked : IsSome (split_price_by G.root (G.price a b))
  pub low : IsTrue (is_present B a)
  pub high : IsTrue (is_present B b)
  pub no_must : IsFalse (has_pair B.must a b)
  pub unbarred : IsFalse (has_pair B.barred a b)

-- the branch can be split here
abbrev pub IsSplitAtIn : Ground → Branch → SplitAt → Type 0
IsSplitAtIn G B (Vertex v) = IsSplitIn G B v
IsSplitAtIn G B (Link a b) = IsLinkSplitIn G B a b

-- each branch at the ends of the splits is closed by a packing that weighs x at least
abbrev pub ProvesIn : Ground → Branch → ℕ → ProofTree → Type 0
ProvesIn G B x (close P) = ClosesIn G B x P
ProvesIn G B x (split at said_yes said_no) = IsSplitAtIn G B at × ProvesIn G (yes_half B at) x said_yes × ProvesIn G (no_half B at) x said_no

-- the same in a network
abbrev pub Closes : Network → Branch → ℕ → Packing → Type 0
Closes I B x P = ClosesIn (ground I) B x P

abbrev pub IsSplit : Network → Branch → ℕ → Type 0
IsSplit I B v = IsSplitIn (ground I) B v

abbrev pub IsLinkSplit : Network → Branch → ℕ → ℕ → Type 0
IsLinkSplit I B a b = IsLinkSplitIn (ground I) B a b

abbrev pub IsSplitAt : Network → Branch → SplitAt → Type 0
IsSplitAt I B at = IsSplitAtIn (ground I) B at

abbrev pub Proves : Network → Branch → ℕ → ProofTree → Type 0
Proves I B x p = ProvesIn (ground I) B x p
