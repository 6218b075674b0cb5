-- Lines that are written one after the other.
use Rattle.std.proofs.Common.{◌≡◌, ℕ, List, [], ◌++◌, sym, ap, ◌∙◌, append_assoc}
use Rattle.std.specs.List.{flat_map}
use Rattle.std.proofs.lemmas.List.Concat.{flat_map-append}
use Rattle.plain_text.specs.Lines.{ended}
use Rattle.dimacs_writer.specs.Writing.{IsWritten}

-- some lines, and others after them
infixl 10 ◌then◌
pub ◌then◌ : {before middle after : List ℕ} {lines others : List (List ℕ)} → IsWritten before middle lines → IsWritten middle after others → IsWritten before after (lines ++ others)
◌then◌ {before} {middle} {after} {lines} {others} first second = record { bytes = second.bytes ∙ ap (λ (s : List ℕ). s ++ flat_map ended others) first.bytes ∙ append_assoc before (flat_map ended lines) (flat_map ended others) ∙ ap (λ (s : List ℕ). before ++ s) (sym (flat_map-append ended lines others)) }

-- some lines, and a text of others
pub then_text : {before middle after : List ℕ} {lines others : List (List ℕ)} (text : List ℕ) → IsWritten before middle lines → IsWritten [] text others → after ≡ middle ++ text → IsWritten before after (lines ++ others)
then_text {before} {middle} {after} {lines} {others} text first second whole =
    let later : IsWritten middle after others = record { bytes = whole ∙ ap (λ (s : List ℕ). middle ++ s) second.bytes } in
    first then later
