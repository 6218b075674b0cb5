use Rattle.std.proofs.Common.{sym, ap, ◌∙◌, refl}
use Rattle.std.proofs.lemmas.List.{take_rest}
use Rattle.stp_reader.proofs.Blanks.{from_start, words-start, first_word}
use Rattle.stp_reader.proofs.words.next_word.Goals as goal

pub returns-in_err-start-clause-word : goal.returns-in_err-start-clause-word
returns-in_err-start-clause-word c = rw c.from_residual.ensures (words-start c.args.line.now ∙ ap (from_start c.args.line.now) (sym c.word_start.ensures ∙ c.in_err-start.was))

pub returns-clause-word : goal.returns-clause-word
returns-clause-word c = first_word c.args.line.now _ _ _ c.in_ok-start.start _ (sym c.word_start.ensures ∙ c.in_ok-start.was) (take_rest c.args.line.now c.in_ok-start.start) (c.unwrap_or-end.ensures ∙ rw c.blank_index.ensures refl) c.split_at.ensures.front c.split_at.ensures.back
