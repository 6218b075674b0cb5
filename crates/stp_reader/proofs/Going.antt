-- What reading one line after the other tells of all of them.
use Rattle.std.proofs.Common.{◌≡◌, ℕ, suc, ◌+◌, List, [], ◌∷◌, map, Result, Ok, Err, refl, sym, ap, ◌∙◌, add-one}
use Rattle.stp_reader.specs.declared.fault.LineError.{LineError}
use Rattle.stp_reader.specs.declared.fault.LineError.TheVariants.{Refused, NoMemory}
use Rattle.stp_reader.specs.declared.mode.Mode.{Mode}
use Rattle.stp_reader.specs.declared.reason.Reason.{Reason}
use Rattle.stp_reader.specs.Lines.{pieces, words, without_cr, word_lines}
use Rattle.stp_reader.specs.Place.{Contents, Place}
use Rattle.stp_reader.specs.Judging.{judge, at_end, at_line, stated_from}
use Rattle.stp_reader.specs.Reached.{Fails, error_at, IsFaultOf}

-- the lines after the first
lines_after : (rest piece others : List ℕ) → pieces rest ≡ piece ∷ pieces others → word_lines rest ≡ words (without_cr piece) ∷ word_lines others
lines_after rest piece others e = ap (map (λ (p : List ℕ). words (without_cr p))) e

-- one more line was taken
pub goes_on : (mode : Mode) (number : ℕ) (place after : Place) (rest piece others : List ℕ) (all : Result Contents (ℕ × Reason)) → pieces rest ≡ piece ∷ pieces others → judge mode place (words (without_cr piece)) ≡ Ok after
    → stated_from mode number place (word_lines rest) ≡ all → stated_from mode (number + 1) after (word_lines others) ≡ all
goes_on mode number place after rest piece others all e judged so_far =
    let lines = lines_after rest piece others e in
    let one : stated_from mode number place (word_lines rest) ≡ stated_from mode (suc number) after (word_lines others) = rw (lines, judged) refl in
    rw add-one (sym one ∙ so_far)

-- a line was refused, or memory ran out
pub is_refused : (mode : Mode) (number : ℕ) (place : Place) (rest piece others : List ℕ) (e : LineError) (all : Result Contents (ℕ × Reason)) → pieces rest ≡ piece ∷ pieces others → Fails e (judge mode place (words (without_cr piece)))
    → stated_from mode number place (word_lines rest) ≡ all → IsFaultOf all (error_at number e)
is_refused mode number place rest piece others NoMemory all e failed so_far = tt
is_refused mode number place rest piece others (Refused r) all e failed so_far =
    let lines = lines_after rest piece others e in
    let one : stated_from mode number place (word_lines rest) ≡ Err (number, r) = rw (lines, failed) refl in
    sym so_far ∙ one

-- there are no more lines
pub is_all : (mode : Mode) (number : ℕ) (place : Place) (rest : List ℕ) (all : Result Contents (ℕ × Reason)) → pieces rest ≡ [] → stated_from mode number place (word_lines rest) ≡ all → all ≡ at_line number (at_end place)
is_all mode number place rest all e so_far =
    let none : word_lines rest ≡ [] = ap (map (λ (p : List ℕ). words (without_cr p))) e in
    let one : stated_from mode number place (word_lines rest) ≡ at_line number (at_end place) = rw none refl in
    sym so_far ∙ one
