use Rattle.std.proofs.Common.{rules, sym, ap, subst, ◌∙◌, eq-eqb, arith}
use Rattle.st_model.specs.Network.{IsVertex}
use Rattle.few_terminals.specs.declared.entry.Entry.{Entry}
use Rattle.few_terminals.specs.Rows.{meanings_of}
use Rattle.few_terminals.proofs.Going.{at_the_top}
use Rattle.few_terminals.proofs.Meanings.{entry_read, length-meanings}
use Rattle.few_terminals.proofs.back.way_back.Goals as goal

pub loop-place-init : goal.loop-place-init
loop-place-init c =
    let l = c.in_ok-laid.laid in
    let I = c.args.store.now.network in
    let table = c.args.table.now in
    let read = entry_read I table.terminals.items table.entries.items c.args.top c.index.result.now c.requires.top c.index.ensures in
    at_the_top I table.terminals.items (meanings_of I table) c.args.top c.in_ok-wanted.wanted.items l c.in_ok-wanted.ensures c.in_ok-laid.ensures.laid (c.in_ok-laid.ensures.start ∙ ap (λ (e : Entry). e.vertex) read)
    (c.in_ok-laid.ensures.reached l.start ∙ eq-eqb c.index.result.now.vertex l.start (sym c.in_ok-laid.ensures.start)) c.in_ok-laid.ensures.free

pub at-requires : goal.at-requires
at-requires c =
    let I = c.args.store.now.network in
    let table = c.args.table.now in
    let long = length-meanings I table.terminals.items table.entries.items in
    let read = entry_read I table.terminals.items table.entries.items c.args.top c.index.result.now c.requires.top c.index.ensures in
    subst (IsVertex I.n) (ap (λ (e : Entry). e.vertex) (sym read)) (c.requires.parts c.args.top (omega (arith, long, c.requires.top))).0

pub returns : goal.returns
returns c = search rules
