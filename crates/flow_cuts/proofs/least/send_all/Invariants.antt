use Rattle.std.proofs.Common.{ℕ, ◌+◌, ◌-◌, ◌*◌, [], ◌∷◌}
use Rattle.flow_cuts.specs.Fewest.{entering_sum}
use Rattle.flow_cuts.specs.Sending.{IsFlow, IsSearched, back, sent}
use Rattle.flow_cuts.proofs.least.send_all.Given as goal

abbrev pub invariant-loop-search : goal.invariant-loop-search
invariant-loop-search l = record {
  searched : IsSearched l.arcs (sent l.flow) 1 l.q l.search;
  flow : (k : ℕ) × IsFlow l.arcs l.q k (sent l.flow);
}

-- how many units more there could be
abbrev pub decreases-loop-search : goal.decreases-loop-search
decreases-loop-search l = l.arcs.n * (l.arcs.n + 1) + 1 - (entering_sum l.arcs (sent l.flow) (l.q ∷ []) - entering_sum l.arcs (back (sent l.flow)) (l.q ∷ []))
