use Rattle.std.proofs.Common.{[], ◌∷◌, ◌++◌, set, position, sym, ap, ◌∙◌}
use Rattle.st_edge.proofs.Texts.{is_named, Puts, Puts-set, Puts-push}
use Rattle.st_edge.proofs.memory_shelf.put.Goals as goal

set_in_place : (c : goal.After-drop-index_mut) → Puts c.args.texts.now.items (set c.args.texts.now.items c.in-Some.place (c.index_mut.result.now.0, c.in_ok-copy.copy)) c.args.name.now c.args.bytes.now
set_in_place c =
    Puts-set c.args.texts.now.items c.args.name.now c.args.bytes.now c.in-Some.place c.index_mut.result.now c.in_ok-copy.copy
    (ap (position (is_named c.args.name.now)) (sym c.deref.ensures.value) ∙ sym c.in-Some.ensures) c.index_mut.ensures.value c.in_ok-copy.ensures.items

pushed_after : (c : goal.In_ok-push-in-None) → Puts c.args.texts.now.items (c.args.texts.now.items ++ (c.in_ok-from_str-in-None.field-0, c.in_ok-copy.copy) ∷ []) c.args.name.now c.args.bytes.now
pushed_after c =
    Puts-push c.args.texts.now.items c.args.name.now c.args.bytes.now c.in_ok-from_str-in-None.field-0 c.in_ok-copy.copy
    (ap (position (is_named c.args.name.now)) (sym c.deref.ensures.value) ∙ sym c.in-None.ensures) c.in_ok-from_str-in-None.ensures.ok c.in_ok-copy.ensures.items

pub returns-in-Some-clause-ok : goal.returns-in-Some-clause-ok
returns-in-Some-clause-ok c = (set_in_place c).put

pub returns-in-Some-clause-others : goal.returns-in-Some-clause-others
returns-in-Some-clause-others c = (set_in_place c).others

pub returns-in_ok-push-in-None-clause-ok : goal.returns-in_ok-push-in-None-clause-ok
returns-in_ok-push-in-None-clause-ok c = rw c.in_ok-push-in-None.ensures.items (pushed_after c).put

pub returns-in_ok-push-in-None-clause-others : goal.returns-in_ok-push-in-None-clause-others
returns-in_ok-push-in-None-clause-others c = rw c.in_ok-push-in-None.ensures.items (pushed_after c).others
