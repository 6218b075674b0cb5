use Rattle.std.proofs.Common.{◌∙◌, ◌++◌, ap, Vec, ℕ, Global}
use Rattle.level_packing.proofs.Pouring.{poured}
use Rattle.level_packing.proofs.forest.pour.Goals as goal

pub returns : goal.returns
returns c = poured c.args.members.now.items c.args.from c.args.to c.replace-moved.new.dest c.extend_from_slice.new.self c.index_mut-2.result.now c.replace-moved.result c.requires.from c.requires.to c.requires.two
    (ap (λ (v : Vec ℕ Global). v.items) c.replace-moved.ensures.after ∙ c.new.ensures.items)
    (c.in_ok-extend_from_slice.ensures.items ∙ ap (λ xs. c.index_mut-2.result.now.items ++ xs) c.deref.ensures.value)
    (rw c.replace-moved.ensures.value c.index_mut.ensures.value)
    c.index_mut-2.ensures.value
