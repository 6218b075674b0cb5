-- Required vertices that are joined one by one, and what that costs at most.
use Rattle.std.specs.Prelude.{ℕ, ◌+◌, ◌-◌, ◌*◌, ◌≤◌, IsTrue, IsFalse, List, [], ◌∷◌}
use Rattle.st_model.specs.declared.tree.Tree.{Tree}
use Rattle.st_model.specs.Arborescence.{IsTree, cost}
use Rattle.st_model.specs.Lists.{has}
use Rattle.st_model.specs.Network.{Network, IsInstance}
use Rattle.st_model.specs.Terminals.{IsTerminal, terminal_count}
use Rattle.short_paths.specs.Walk.{IsWalk}

-- every walk from one of those that are joined to a terminal that isn't costs at least d
abbrev pub NoneIsNearer : Network → List ℕ → ℕ → Type 0
NoneIsNearer I joined d = (p q c : ℕ) → IsTrue (has joined p) → IsTerminal I q → IsFalse (has joined q) → IsWalk I.links p q c → d ≤ c

-- from a first terminal on others were joined one by one, each at no more than the least that a walk to such a terminal costs
pub data AreJoined (I : Network) (first : ℕ) : List ℕ → ℕ → Type 0 where
  alone : AreJoined I first (first ∷ []) 0
  next : {joined : List ℕ} {spent k d : ℕ} → AreJoined I first joined spent → IsTerminal I k → IsFalse (has joined k) → NoneIsNearer I joined d → AreJoined I first (k ∷ joined) (spent + d)

-- as often as there are terminals, the tree costs at most twice what any tree costs, once less often
abbrev pub IsWithinTwice : Network → Tree → Type 0
IsWithinTwice I t = (s : Tree) → IsTree I s → 1 ≤ terminal_count I → terminal_count I * cost I t ≤ 2 * (terminal_count I - 1) * cost I s

-- where all are joined, they are joined for at most twice what each tree costs, less a share of one in so many
abbrev pub NearestIsWithinTwice : Type 0
NearestIsWithinTwice = (I : Network) (first : ℕ) (joined : List ℕ) (spent : ℕ) (t : Tree) → IsInstance I → IsTerminal I first → AreJoined I first joined spent
    → ((v : ℕ) → IsTerminal I v → IsTrue (has joined v)) → IsTree I t → terminal_count I * spent ≤ 2 * (terminal_count I - 1) * cost I t
