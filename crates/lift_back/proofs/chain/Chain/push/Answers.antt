use Rattle.std.proofs.Common.{refl}
use Rattle.lift_back.proofs.Chaining.{chain_push}
use Rattle.lift_back.proofs.chain.Chain.push.Goals as goal

pub returns-clause-chain : goal.returns-clause-chain
returns-clause-chain c start arcs chain led = chain_push c.args.self.now (record { arrivals = c.put.new.arrivals; last = c.args.head }) start c.args.tail c.args.head arcs chain led c.put.ensures.items refl
