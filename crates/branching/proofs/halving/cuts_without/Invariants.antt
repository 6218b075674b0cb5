use Rattle.std.proofs.Common.{◌≡◌, ◌==◌, ◌++◌, not, filter, drop}
use Rattle.branching.proofs.halving.cuts_without.Given as goal

-- what was kept, and what is to come
abbrev pub invariant-loop-cut : goal.invariant-loop-cut
invariant-loop-cut l = l.kept.items ++ filter (λ c. not (c.q == l.vertex)) (drop l.cut-index l.cuts) ≡ filter (λ c. not (c.q == l.vertex)) l.cuts
