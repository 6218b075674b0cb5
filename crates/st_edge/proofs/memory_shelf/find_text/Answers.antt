use Rattle.std.proofs.Common.{sym, ap, ◌∙◌, Some, option_copied}
use Rattle.std.proofs.lemmas.List.Quantifiers.{position-Some}
use Rattle.st_edge.proofs.Texts.{is_named, position-None, text_at-first, text_at-none}
use Rattle.st_edge.proofs.memory_shelf.find_text.Goals as goal

pub returns-in_err-place : goal.returns-in_err-place
returns-in_err-place c =
    let texts = c.args.texts.now in
    let name = c.args.name.now in
    ap option_copied c.from_residual.ensures
    ∙ sym (text_at-none texts name (λ k d within. position-None (is_named name) texts k d (sym c.in_err-place.ensures) within))

pub returns : goal.returns
returns c =
    let texts = c.args.texts.now in
    let name = c.args.name.now in
    let text = c.index-texts-place.result in
    let first = position-Some (is_named name) texts c.in_ok-place.place text (sym c.in_ok-place.ensures) in
    ap Some c.deref.ensures.value ∙ sym (text_at-first texts name c.in_ok-place.place text first.0 first.1 first.2)
