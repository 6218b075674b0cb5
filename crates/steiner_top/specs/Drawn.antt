-- What the commands `gen` and `trial` are answered with.
use Rattle.std.specs.Prelude.{◌≡◌, ◌⊎◌, ℕ, ◌<◌, Bool, false, List, Option, Some, None}
use Rattle.amounts.specs.declared.scale.Scale.TheVariants.{Whole}
use Rattle.st_model.specs.declared.tree.Tree.{Tree}
use Rattle.st_model.specs.Network.{Network}
use Rattle.st_model.specs.Arborescence.{IsBest, cost}
use Rattle.instance_gen.specs.Generated.{generated}
use Rattle.instance_gen.specs.Text.{stp_text}
use Rattle.log_format.specs.declared.log.Log.{Log}
use Rattle.search_core.specs.declared.gathered.Searched.{Searched}
use Rattle.command_line.specs.Words.{DrawWords, GenWords, TrialWords}
use Rattle.steiner_top.specs.declared.outcome.Outcome.{Outcome}
use Rattle.steiner_top.specs.declared.outcome.Outcome.TheVariants.{Found, Directed, NoTree}
use Rattle.steiner_top.specs.declared.status.Status.{Status}
use Rattle.steiner_top.specs.declared.status.Status.TheVariants.{Optimal, Budget}
use Rattle.steiner_top.specs.Outcome.{IsFound}
use Rattle.steiner_top.specs.Output.{summary}

-- the instance that the words say, in which the chosen vertices pay, or else are required
abbrev pub drawn_instance : DrawWords → Bool → Network
drawn_instance w prizes = generated w.seed w.n w.m w.t prizes

-- how `gen` is answered: by the text of the instance
pub record IsDrawn (w : GenWords) (status : Status) (outcome : Option Outcome) (sent : List ℕ) : Type 0 where
  pub ends : status ≡ Optimal
  pub no_outcome : outcome ≡ None
  pub text : sent ≡ stp_text (drawn_instance w.drawn w.prizes) Whole

-- the instance that `trial` solves
abbrev pub tried_instance : TrialWords → Network
tried_instance w = drawn_instance w.drawn false

-- a tree was found
abbrev pub HasTree : Outcome → Type 0
HasTree (Found tree primal dual expanded searches log scale) = Unit {0}
HasTree (Directed tree primal dual expanded log scale) = ⊥
HasTree (NoTree log) = ⊥

-- the summary of a tree that was found
abbrev pub IsSummary : Outcome → List ℕ → Type 0
IsSummary (Found tree primal dual expanded searches log scale) text = text ≡ summary primal dual
IsSummary (Directed tree primal dual expanded log scale) text = ⊥
IsSummary (NoTree log) text = ⊥

-- how `trial` is answered: by the cost of a tree and a bound, which are equal unless the whole budget was spent
pub record IsTried (w : TrialWords) (status : Status) (outcome : Option Outcome) (sent : List ℕ) : Type 0 where
  pub tree : Tree
  pub primal : ℕ
  pub dual : ℕ
  pub expanded : ℕ
  pub searches : List Searched
  pub certificate : Log
  pub given : outcome ≡ Some (Found tree primal dual expanded searches certificate Whole)
  pub found : IsFound 1000000 false false (tried_instance w) tree primal dual expanded searches certificate
  pub text : sent ≡ summary primal dual
  pub ends : ((status ≡ Optimal) × (dual ≡ primal)) ⊎ ((status ≡ Budget) × (dual < primal))
  -- where they are equal the tree is a best one, and any best tree says what is sent: it depends on the words alone
  pub best : status ≡ Optimal → IsBest (tried_instance w) tree
  pub only : status ≡ Optimal → (t : Tree) → IsBest (tried_instance w) t → sent ≡ summary (cost (tried_instance w) t) (cost (tried_instance w) t)
