-- What is known of what steps leave, at first and once searches went on in it. Helpers' clauses cite this, and no public one.
use Rattle.std.specs.Prelude.{◌≡◌, ℕ, ◌+◌, ◌-◌, ◌≤◌, min, List, IfNone, IfSome}
use Rattle.st_model.specs.declared.tree.Tree.{Tree}
use Rattle.st_model.specs.Arborescence.{cost}
use Rattle.st_model.specs.Branch.{NoneIsCertain, all_trees}
use Rattle.st_model.specs.Lists.{sum_to}
use Rattle.st_model.specs.Network.{pays}
use Rattle.cut_packing.specs.ProofTree.{ProofTree}
use Rattle.lift_back.specs.State.{State, IsTreeOf}
use Rattle.log_format.specs.declared.proof_line.ProofLine.{ProofLine}
use Rattle.log_format.specs.Accepts.{left_over}
use Rattle.log_format.specs.Preorder.{preorder}
use Rattle.log_resume.specs.Closes.{closes_of}
use Rattle.resuming.specs.GoingOn.{GoOn}
use Rattle.resuming.specs.declared.known.Known.{Known}
use Rattle.resuming.specs.declared.going_on.Gone.{Gone}

-- a value is the less of what a tree of this worth costs in what is left, and of what some tree of it costs
abbrev pub IsLessOf : State → ℕ → ℕ → Type 0
IsLessOf s primal value = (t : Tree) × IsTreeOf s t × (value ≡ min (primal - s.offset) (cost s.instance t))

-- the tree is one of what is left and costs so much; where there is none, a tree of this worth does
pub record IsKnownIn (s : State) (primal : ℕ) (known : Known) : Type 0 where
  pub tree : IfSome known.tree (λ t. IsTreeOf s t × (cost s.instance t ≡ known.least))
  pub none : IfNone known.tree (known.least + s.offset ≡ primal)

-- what is known at first
pub record IsFirstIn (s : State) (primal : ℕ) (known : Known) : Type 0 where
  pub less : IsLessOf s primal known.least
  pub is_known : IsKnownIn s primal known
  pub cheap : NoneIsCertain s.instance all_trees → known.least ≤ sum_to (pays s.instance) s.instance.n

-- the searches that went on from the closes of a proof of what is left, and what is known then
pub record IsGoneIn (s : State) (primal budget : ℕ) (proof : List ProofLine) (gone : Gone) : Type 0 where
  pub start : ℕ
  pub less : IsLessOf s primal start
  pub searched : (p : ProofTree) → proof ≡ preorder p → GoOn s.instance (closes_of (left_over s) p) start budget gone.searches.items gone.known.least
  pub is_known : IsKnownIn s primal gone.known
