use Rattle.std.proofs.Common.{ℕ, List, [], ◌∷◌, ◌++◌, sym, ap, subst, ◌∙◌}
use Rattle.few_terminals.specs.declared.row.Row.{Row}
use Rattle.few_terminals.specs.Entries.{meanings, HaveParts, GoesOn}
use Rattle.few_terminals.specs.Rows.{IsRow}
use Rattle.few_terminals.proofs.Finishing.{filled_none, filled_more}
use Rattle.few_terminals.proofs.table.fill.Goals as goal

pub loop-bits-init : goal.loop-bits-init
loop-bits-init c =
    let filled = filled_none c.args.store.now.network c.args.terminals.items (meanings c.args.store.now.network c.args.terminals.items c.new-entries.result.items) c.args.reached.items c.push.new.self.items c.none.result (ap (meanings c.args.store.now.network c.args.terminals.items) c.new-entries.ensures.items) (c.in_ok-push.ensures.items ∙ ap (λ (rows : List Row). rows ++ c.none.result ∷ []) c.new-rows.ensures.items) c.none.ensures.costs in
    record { rows = filled.kept; parts = filled.parts; place = filled.place }

pub loop-bits-preserved : goal.loop-bits-preserved
loop-bits-preserved c =
    let I = c.args.store.now.network in
    let ks = c.args.terminals.items in
    let before = c.loop-bits.invariant in
    let es = c.fill_row.new.entries.items in
    let row = c.in_ok-row.row in
    let vs = c.args.reached.items in
    let ks_is = c.deref-in-loop-bits.ensures.value in
    let is : IsRow I ks (meanings I ks es) vs c.loop-bits.rows.items c.loop-bits.bits row.costs.items row.places.items =
    subst (λ (ks : List ℕ). IsRow I ks (meanings I ks es) vs c.loop-bits.rows.items c.loop-bits.bits row.costs.items row.places.items) ks_is
    (subst (λ (vs : List ℕ). IsRow I c.deref-in-loop-bits.result.now (meanings I c.deref-in-loop-bits.result.now es) vs c.loop-bits.rows.items c.loop-bits.bits row.costs.items row.places.items) c.deref-in-loop-bits-2.ensures.value
    (subst (λ (rows : List Row). IsRow I c.deref-in-loop-bits.result.now (meanings I c.deref-in-loop-bits.result.now es) c.deref-in-loop-bits-2.result.now rows c.loop-bits.bits row.costs.items row.places.items) c.deref-in-loop-bits-3.ensures.value c.in_ok-row.ensures.row)) in
    let parts : HaveParts I ks (meanings I ks es) = subst (λ (ks : List ℕ). HaveParts I ks (meanings I ks es)) ks_is c.in_ok-row.ensures.parts in
    let goes_on : GoesOn (meanings I ks c.loop-bits.entries.items) (meanings I ks es) = subst (λ (ks : List ℕ). GoesOn (meanings I ks c.loop-bits.entries.items) (meanings I ks es)) ks_is c.in_ok-row.ensures.goes_on in
    let filled = filled_more I ks (meanings I ks c.loop-bits.entries.items) (meanings I ks es) vs c.loop-bits.rows.items c.push-in-loop-bits.new.self.items row c.loop-bits.bits (record { kept = before.rows; parts = before.parts; place = before.place }) is parts goes_on c.in_ok-push-2.ensures.items in
    record { rows = filled.kept; parts = filled.parts; place = filled.place }

pub fill_row-requires-clause-parts : goal.fill_row-requires-clause-parts
fill_row-requires-clause-parts c =
    let I = c.args.store.now.network in
    subst (λ (ks : List ℕ). HaveParts I ks (meanings I ks c.loop-bits.entries.items)) (sym c.deref-in-loop-bits.ensures.value) c.loop-bits.invariant.parts
