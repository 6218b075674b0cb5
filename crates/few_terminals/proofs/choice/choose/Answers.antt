use Rattle.std.proofs.Common.{refl}
use Rattle.few_terminals.proofs.Counting.{emptied, terminals_chosen}
use Rattle.few_terminals.proofs.choice.choose.Goals as goal

pub returns-clause-terminals : goal.returns-clause-terminals
returns-clause-terminals c = terminals_chosen c.args.instance.now c.in_ok-others.others.items c.pop.new.self.items c.pop.result (record { root = c.unwrap_or-root.result; others = c.pop.new.self }) c.in_ok-others.ensures.instance.some_vertex c.requires c.in_ok-others.ensures.terminals c.pop.ensures.items refl c.unwrap_or-root.ensures (emptied c.pop.result c.pop.new.self.items c.in_ok-others.others.len c.pop.new.self.len c.pop.ensures.cases c.pop.new.self.ok.0)
