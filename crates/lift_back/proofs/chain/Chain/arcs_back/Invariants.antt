use Rattle.std.proofs.Common.{◌≡◌, ◌+◌, ◌++◌, ℕ, List, length, reverse}
use Rattle.lift_back.specs.Chains.{AreLed, IsChainOf, LeadsOn}
use Rattle.lift_back.proofs.chain.Chain.arcs_back.Given as goal

abbrev pub invariant-loop-turn : goal.invariant-loop-turn
invariant-loop-turn l = (start : ℕ) (arcs : List (ℕ × ℕ)) → IsChainOf start arcs l.self → AreLed (length l.self.arrivals.items) start arcs → (rest : List (ℕ × ℕ)) × (arcs ≡ rest ++ reverse l.back.items) × LeadsOn l.self.arrivals.items start rest l.at × (length arcs ≡ length rest + l._turn)
