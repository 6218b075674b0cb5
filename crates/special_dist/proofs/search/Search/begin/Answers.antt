use Rattle.std.proofs.Common.{ℕ, map, ap}
use Rattle.std.specs.declared.cmp.Reverse.{Reverse}
use Rattle.special_dist.proofs.Beginning.{begun}
use Rattle.special_dist.proofs.search.Search.begin.Goals as goal

pub returns-clause-search : goal.returns-clause-search
returns-clause-search c I q same vertex =
    begun (record { places = c.args.self.now.places; visits = c.clear.new.self; queue = c.clear-2.new.self }) c.visit.new.self c.args.vertex
    c.clear.ensures.items (ap (map (λ (w : Reverse (ℕ × ℕ)). w.0.1)) c.clear-2.ensures.items) I q same vertex c.in_ok-visit.ensures.visits
