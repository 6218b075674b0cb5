-- What reading whole lines tells of all the bytes.
use Rattle.std.proofs.Common.{◌≡◌, ℕ, ◌+◌, inl, inr, List, [], ◌∷◌, ◌++◌, length, None, Some, Result, Ok, Err, refl, sym, ap, ◌∙◌, append_assoc}
use Rattle.std.specs.Prelude.{IfOk, IfErr, MatchResult}
use Rattle.std.specs.List.{flat_map}
use Rattle.std.proofs.lemmas.List.{append-nil}
use Rattle.log_format.specs.declared.kind.Kind.{Kind}
use Rattle.log_format.specs.declared.kind.Kind.TheVariants.{BadLine, EndsEarly}
use Rattle.log_format.specs.declared.fault.ReadError.{ReadError}
use Rattle.log_format.specs.declared.fault.ReadError.TheVariants.{Fault, NoMemory}
use Rattle.log_format.specs.declared.log.Log.{Log}
use Rattle.log_format.specs.declared.log.Version.TheVariants.{One}
use Rattle.log_format.specs.declared.stage.Stage.TheVariants.{AtHeader}
use Rattle.plain_text.specs.Lines.{ended}
use Rattle.log_format.specs.Text.{log_lines, log_text, whole_lines, unfinished, Begins, IsLog}
use Rattle.plain_text.specs.Pieces.{cut}
use Rattle.log_format.specs.Refused.{LogRefused, IsRefusedBy}
use Rattle.log_format.proofs.Finishing.{read_none, read_begins, same_lines}
use Rattle.log_format.proofs.Lines.{cut_some, cut_none, text_lines, lines_make}

-- each log begins with no line
pub nothing_begins : Begins []
nothing_begins = read_begins One AtHeader (read_none One)

-- the lines before, and the lines of what is left
pub record IsReadUpTo (bytes : List ℕ) (before : List (List ℕ)) (rest : List ℕ) : Type 0 where
  pub split : whole_lines bytes ≡ before ++ whole_lines rest
  pub tail : unfinished bytes ≡ unfinished rest

-- one more line was read
pub one_more : (bytes : List ℕ) (before : List (List ℕ)) (rest line after : List ℕ) → IsReadUpTo bytes before rest → cut 10 rest ≡ Some (line, after) → IsReadUpTo bytes (before ++ line ∷ []) after
one_more bytes before rest line after read e =
    let c = cut_some rest line after e in
    record { split = read.split ∙ (ap (λ (r : List (List ℕ)). before ++ r) c.0 ∙ sym (append_assoc before (line ∷ []) (whole_lines after))); tail = read.tail ∙ c.1 }

-- all lines were read
pub no_more : (bytes : List ℕ) (before : List (List ℕ)) (rest : List ℕ) → IsReadUpTo bytes before rest → cut 10 rest ≡ None → (before ≡ whole_lines bytes) × (rest ≡ unfinished bytes)
no_more bytes before rest read e =
    let c = cut_none rest e in
    (sym (read.split ∙ (ap (λ (r : List (List ℕ)). before ++ r) c.0 ∙ append-nil before)), sym (read.tail ∙ c.1))

-- a line that no log goes on with is bad
pub bad_line : (bytes : List ℕ) (before : List (List ℕ)) (rest line after : List ℕ) (number : ℕ) → IsReadUpTo bytes before rest → cut 10 rest ≡ Some (line, after) → number ≡ length before → Begins before → ¬ (Begins (before ++ line ∷ []))
    → LogRefused bytes (number + 1) BadLine
bad_line bytes before rest line after number read e is begun stops =
    inl (record { before = before; bad = line; after = whole_lines after; lines = read.split ∙ ap (λ (r : List (List ℕ)). before ++ r) (cut_some rest line after e).0; place = ap (λ (k : ℕ). k + 1) is; begun = begun; stops = stops })

-- whole lines of a log with nothing after them are its text
pub is_text : (bytes : List ℕ) (log : Log) → log_lines log ≡ whole_lines bytes → unfinished bytes ≡ [] → bytes ≡ log_text log
is_text bytes log lines none = lines_make bytes ∙ (ap (λ (r : List ℕ). flat_map ended (whole_lines bytes) ++ r) none ∙ (append-nil (flat_map ended (whole_lines bytes)) ∙ ap (flat_map ended) (sym lines)))

-- the text of a log is not refused
pub text_stands : (bytes : List ℕ) (line : ℕ) (kind : Kind) (log : Log) → LogRefused bytes line kind → IsLog log → bytes ≡ log_text log → ⊥
text_stands bytes line BadLine log (inl bad) fits text =
    let lines = ap whole_lines text ∙ ap (λ (p : List (List ℕ) × List ℕ). p.0) (text_lines log fits.in_range) in
    bad.stops (log, bad.after, fits, sym lines ∙ (bad.lines ∙ sym (append_assoc bad.before (bad.bad ∷ []) bad.after)))
text_stands bytes line BadLine log (inr after) fits text =
    after.after (ap unfinished text ∙ ap (λ (p : List (List ℕ) × List ℕ). p.1) (text_lines log fits.in_range))
text_stands bytes line EndsEarly log short fits text =
    let lines = ap whole_lines text ∙ ap (λ (p : List (List ℕ) × List ℕ). p.0) (text_lines log fits.in_range) in
    short.part (log, fits, sym lines)
text_stands bytes line _ log none fits text = none

-- a text is that of one log
pub one_log : (a b : Log) → IsLog a → IsLog b → log_text a ≡ log_text b → a ≡ b
one_log a b fits_a fits_b text =
    let lines = sym (ap (λ (p : List (List ℕ) × List ℕ). p.0) (text_lines a fits_a.in_range)) ∙ (ap whole_lines text ∙ ap (λ (p : List (List ℕ) × List ℕ). p.0) (text_lines b fits_b.in_range)) in
    same_lines a b fits_a fits_b lines

-- where the bytes are the text of a log, it is what was read, or memory ran out
pub only_one : (bytes : List ℕ) (r : Result Log ReadError) → IfOk r (λ log. IsLog log × (bytes ≡ log_text log)) → IfErr r (IsRefusedBy bytes) → (log : Log) → IsLog log → bytes ≡ log_text log
    → MatchResult r (λ read. read ≡ log) (λ e. e ≡ NoMemory)
only_one bytes (Ok read) found refused log fits text = one_log read log found.0 fits (sym found.1 ∙ text)
only_one bytes (Err NoMemory) found refused log fits text = refl
only_one bytes (Err (Fault f)) found refused log fits text = absurd (text_stands bytes f.line f.kind log refused fits text)
