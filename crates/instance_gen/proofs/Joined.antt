-- Lines that are written one after the other.
use Rattle.std.proofs.Common.{ℕ, List, ◌++◌, sym, ap, ◌∙◌, append_assoc}
use Rattle.std.proofs.lemmas.List.Concat.{flat_map-append}
use Rattle.instance_gen.specs.Text.{line_of, text_of}
use Rattle.instance_gen.specs.Writing.{IsWritten}

-- some lines, and others after them
infixl 10 ◌then◌
pub ◌then◌ : {before middle after : List ℕ} {lines others : List (List (List ℕ))} → IsWritten before middle lines → IsWritten middle after others → IsWritten before after (lines ++ others)
◌then◌ {before} {middle} {after} {lines} {others} first second = record {
  bytes = second.bytes ∙ ap (λ (s : List ℕ). s ++ text_of others) first.bytes
      ∙ append_assoc before (text_of lines) (text_of others) ∙ ap (λ (s : List ℕ). before ++ s) (sym (flat_map-append line_of lines others));
}
