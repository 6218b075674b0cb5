use Rattle.std.proofs.Common.{◌≡◌, ℕ, ◌<◌, List, get_or, sym, ap, subst, arith}
use Rattle.std.specs.Prelude.{IsTrue, IsSome, is_some}
use Rattle.st_model.specs.Lists.{has}
use Rattle.st_model.specs.Network.{link}
use Rattle.few_terminals.specs.declared.entry.Entry.{Entry}
use Rattle.few_terminals.specs.declared.entry.Way.{Way}
use Rattle.few_terminals.specs.declared.entry.Way.TheVariants.{Alone, Along, Joined}
use Rattle.few_terminals.specs.Entries.{at, HasParts, Meaning}
use Rattle.few_terminals.specs.Rows.{meanings_of}
use Rattle.few_terminals.proofs.Going.{past_alone, past_link_read, past_join}
use Rattle.few_terminals.proofs.Meanings.{entry_of, entry_read, parts_read}
use Rattle.few_terminals.proofs.back.follow_parts.Goals.{After-index-entry}
use Rattle.few_terminals.proofs.back.follow_parts.Goals as goal

abbrev meant : After-index-entry → List Meaning
meant c = meanings_of c.args.store.now.network c.args.table.now

-- what was read is the entry of its meaning
read_here : (c : After-index-entry) → c.index-entry.result.now ≡ entry_of (at (meant c) c.args.place)
read_here c = entry_read c.args.store.now.network c.args.table.now.terminals.items c.args.table.now.entries.items c.args.place c.index-entry.result.now c.requires.place c.index-entry.ensures

-- as is what was read before it
read_before : (c : After-index-entry) (before : ℕ) (e : Entry) → before < c.args.place → e ≡ get_or c.args.table.now.entries.items before e → e ≡ entry_of (at (meant c) before)
read_before c before e low read = entry_read c.args.store.now.network c.args.table.now.terminals.items c.args.table.now.entries.items before e (omega (arith, low, c.requires.place)) read

abbrev IsBy : After-index-entry → Way → Type 0
IsBy c way = HasParts c.args.store.now.network c.args.table.now.terminals.items (meant c) c.args.place (at (meant c) c.args.place) way

-- and the first has its parts
parts_here : (c : After-index-entry) (way : Way) → c.index-entry.result.now.way ≡ way → IsBy c way
parts_here c way is = parts_read c.args.store.now.network c.args.table.now.terminals.items c.args.table.now.entries.items c.args.place c.index-entry.result.now c.requires.place c.index-entry.ensures way is c.requires.parts

pub overflow_cast-before : goal.overflow_cast-before
overflow_cast-before c =
    let low = (parts_here (goal.at.overflow_cast-before c).After-index-entry (Along c.in-Along.before) c.in-Along.is).0 in
    omega (arith, low, c.ranges.place.fits)

pub index-requires : goal.index-requires
index-requires c =
    let low = (parts_here (goal.at.index-requires c).After-index-entry (Along c.in-Along.before) c.in-Along.is).0 in
    omega (arith, low, c.requires.place, c.args.table.now.entries.ok.0)

pub follow-requires-clause-from : goal.follow-requires-clause-from
follow-requires-clause-from c =
    let from = ap (λ (e : Entry). e.vertex) (read_here (goal.at.follow-requires-clause-from c).After-index-entry) in
    subst (λ (v : ℕ). IsTrue (has c.args.laid.now.reached.members v)) (sym from) c.requires.reached

pub follow-requires-clause-linked : goal.follow-requires-clause-linked
follow-requires-clause-linked c =
    let I = c.args.store.now.network in
    let es = meanings_of I c.args.table.now in
    let entry = (goal.at.follow-requires-clause-linked c).After-index-entry in
    let along = parts_here entry (Along c.in-Along.before) c.in-Along.is in
    let from = ap (λ (e : Entry). e.vertex) (read_here entry) in
    let to = ap (λ (e : Entry). e.vertex) (read_before entry c.in-Along.before c.index.result.now along.0 c.index.ensures) in
    let some : IsSome (link I.links (at es c.args.place).vertex (at es c.in-Along.before).vertex) = ap is_some along.1.1.linked in
    subst (λ (v : ℕ). IsSome (link I.links v c.index.result.now.vertex)) (sym from) (subst (λ (v : ℕ). IsSome (link I.links (at es c.args.place).vertex v)) (sym to) some)

pub overflow_cast-before-in-Along : goal.overflow_cast-before-in-Along
overflow_cast-before-in-Along c =
    let low = (parts_here (goal.at.overflow_cast-before-in-Along c).After-index-entry (Along c.in-Along.before) c.in-Along.is).0 in
    omega (arith, low, c.ranges.place.fits)

pub index_mut-requires : goal.index_mut-requires
index_mut-requires c =
    let low = (parts_here (goal.at.index_mut-requires c).After-index-entry (Along c.in-Along.before) c.in-Along.is).0 in
    omega (arith, low, c.requires.long, c.args.wanted.now.ok.0)

pub overflow_cast-first : goal.overflow_cast-first
overflow_cast-first c =
    let low = (parts_here (goal.at.overflow_cast-first c).After-index-entry (Joined c.in-Joined.first c.in-Joined.second) c.in-Joined.is).0 in
    omega (arith, low, c.ranges.place.fits)

pub index_mut-requires-in-Joined : goal.index_mut-requires-in-Joined
index_mut-requires-in-Joined c =
    let low = (parts_here (goal.at.index_mut-requires-in-Joined c).After-index-entry (Joined c.in-Joined.first c.in-Joined.second) c.in-Joined.is).0 in
    omega (arith, low, c.requires.long, c.args.wanted.now.ok.0)

pub overflow_cast-second : goal.overflow_cast-second
overflow_cast-second c =
    let low = (parts_here (goal.at.overflow_cast-second c).After-index-entry (Joined c.in-Joined.first c.in-Joined.second) c.in-Joined.is).1 in
    omega (arith, low, c.ranges.place.fits)

pub index_mut-requires-in-Joined-2 : goal.index_mut-requires-in-Joined-2
index_mut-requires-in-Joined-2 c =
    let low = (parts_here (goal.at.index_mut-requires-in-Joined-2 c).After-index-entry (Joined c.in-Joined.first c.in-Joined.second) c.in-Joined.is).1 in
    omega (arith, low, c.requires.long, c.args.wanted.now.ok.0)

pub returns-in-Alone : goal.returns-in-Alone
returns-in-Alone c top way =
    let I = c.args.store.now.network in
    let ks = c.args.table.now.terminals.items in
    let es = meanings_of I c.args.table.now in
    let alone = parts_here (goal.at.returns-in-Alone c).After-index-entry Alone c.in-Alone.is in
    past_alone I ks es top c.args.wanted.now.items c.args.place c.args.laid.now c.requires.wanted way alone.0

pub returns-in_ok-follow-in-Along : goal.returns-in_ok-follow-in-Along
returns-in_ok-follow-in-Along c top way =
    let I = c.args.store.now.network in
    let ks = c.args.table.now.terminals.items in
    let es = meanings_of I c.args.table.now in
    let entry = (goal.at.returns-in_ok-follow-in-Along c).After-index-entry in
    let along = parts_here entry (Along c.in-Along.before) c.in-Along.is in
    let read = read_before entry c.in-Along.before c.index.result.now along.0 c.index.ensures in
    past_link_read I ks es top c.args.wanted.now.items c.args.place c.in-Along.before along.1.0 c.index-entry.result.now.vertex c.index.result.now.vertex c.args.laid.now c.follow.new.self (ap (λ (e : Entry). e.vertex) (read_here entry)) (ap (λ (e : Entry). e.vertex) read)
    c.requires.wanted way along.0 along.1.1 c.in_ok-follow-in-Along.ensures.laid c.in_ok-follow-in-Along.ensures.start c.in_ok-follow-in-Along.ensures.reached c.in_ok-follow-in-Along.ensures.cost

pub returns-in-Joined : goal.returns-in-Joined
returns-in-Joined c top way =
    let joined = parts_here (goal.at.returns-in-Joined c).After-index-entry (Joined c.in-Joined.first c.in-Joined.second) c.in-Joined.is in
    past_join c.args.store.now.network c.args.table.now.terminals.items (meanings_of c.args.store.now.network c.args.table.now) top c.args.wanted.now.items c.args.place c.in-Joined.first c.in-Joined.second c.args.laid.now c.requires.wanted way joined.0 joined.1 joined.2
