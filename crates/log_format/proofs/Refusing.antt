-- Bytes that are the text of no log are refused, at one line and as one kind.
use Rattle.std.proofs.Common.{◌≡◌, ◌≢◌, ℕ, ◌+◌, ◌⊎◌, inl, inr, List, [], ◌∷◌, ◌++◌, length, Option, Some, None, refl, sym, ap, subst, ◌∙◌, append_assoc}
use Rattle.std.proofs.lemmas.List.{append-nil}
use Rattle.log_format.specs.declared.kind.Kind.{Kind}
use Rattle.log_format.specs.declared.kind.Kind.TheVariants.{BadLine, EndsEarly}
use Rattle.log_format.specs.declared.log.Log.{Log}
use Rattle.log_format.specs.declared.log.Version.{Version}
use Rattle.log_format.specs.declared.log.Version.TheVariants.{One}
use Rattle.log_format.specs.declared.log.Claim.{Claim}
use Rattle.log_format.specs.declared.stage.Stage.{Stage}
use Rattle.log_format.specs.declared.stage.Stage.TheVariants.{AtHeader, AtClaim, AtTree, AtArcs, AtSteps, AtHalf, AtCuts, AtWall, AtEnd, AtNothing}
use Rattle.log_format.specs.Text.{log_lines, whole_lines, unfinished, AreWhole, Begins}
use Rattle.log_format.specs.Reading.{step}
use Rattle.log_format.specs.Reached.{lines_read, IsRead}
use Rattle.log_format.specs.Refused.{IsBadLine, HasBytesAfter, IsCutShort, LogRefused}
use Rattle.log_format.specs.Laws.{IsNoText, RefusedExactly}
use Rattle.log_format.proofs.Finishing.{next_version, read_none, read_next, read_begins, refused_stops, read_whole, whole_is_read}
use Rattle.log_format.proofs.WholeLines.{is_text, text_stands}

-- the lines lead to a stage of some version
abbrev AllRead : List (List ℕ) → Type 0
AllRead lines = (version : Version) × (t : Stage) × IsRead version t × (lines_read version t ≡ lines)

-- some log begins with the lines before one of them, and none with this one too
pub record Stops (lines : List (List ℕ)) : Type 0 where
  pub before : List (List ℕ)
  pub bad : List ℕ
  pub after : List (List ℕ)
  pub parts : lines ≡ before ++ bad ∷ after
  pub begun : Begins before
  pub stops : ¬ (Begins (before ++ bad ∷ []))

-- the lines are read, or one of them is the first that is refused
scan : (version : Version) (s : Stage) (lines : List (List ℕ)) → IsRead version s → AllRead (lines_read version s ++ lines) ⊎ Stops (lines_read version s ++ lines)
scan version s [] read = inl (version, s, read, sym (append-nil (lines_read version s)))
scan version s (line ∷ lines) read = by_version (next_version version s line) refl (λ v t more. scan v t lines more)
  where
    by_step : (next : Version) (o : Option Stage) → next ≡ next_version version s line → step next s line ≡ o → ((t : Stage) → IsRead next t → AllRead (lines_read next t ++ lines) ⊎ Stops (lines_read next t ++ lines)) → AllRead (lines_read version s ++ line ∷ lines) ⊎ Stops (lines_read version s ++ line ∷ lines)
    by_step next None is e others = inr (record { before = lines_read version s; bad = line; after = lines; parts = refl; begun = read_begins version s read; stops = refused_stops version next s line is read e })
    by_step next (Some t) is e others =
        let more = read_next version next s t line is read e in
        let same : lines_read next t ++ lines ≡ lines_read version s ++ line ∷ lines = ap (λ (r : List (List ℕ)). r ++ lines) more.1 ∙ append_assoc (lines_read version s) (line ∷ []) lines in
        subst (λ (ls : List (List ℕ)). AllRead ls ⊎ Stops ls) same (others t more.0)

    by_version : (next : Version) → next ≡ next_version version s line → ((v : Version) (t : Stage) → IsRead v t → AllRead (lines_read v t ++ lines) ⊎ Stops (lines_read v t ++ lines)) → AllRead (lines_read version s ++ line ∷ lines) ⊎ Stops (lines_read version s ++ line ∷ lines)
    by_version next is others = by_step next (step next s line) is refl (others next)

-- a stage is at the end of a claim, or at the end of none
at_end : (s : Stage) → ((claim : Claim) × (s ≡ AtNothing claim)) ⊎ ((claim : Claim) → s ≡ AtNothing claim → ⊥)
at_end AtHeader = inr (λ claim e. cc)
at_end AtClaim = inr (λ claim e. cc)
at_end (AtTree primal dual) = inr (λ claim e. cc)
at_end (AtArcs primal dual start arcs left) = inr (λ claim e. cc)
at_end (AtSteps a left) = inr (λ claim e. cc)
at_end (AtHalf p) = inr (λ claim e. cc)
at_end (AtCuts p root cuts left) = inr (λ claim e. cc)
at_end AtWall = inr (λ claim e. cc)
at_end (AtEnd claim') = inr (λ claim e. cc)
at_end (AtNothing claim) = inl (claim, refl)

-- bytes are left, or none
nothing_left : (bytes : List ℕ) → (bytes ≡ []) ⊎ (bytes ≢ [])
nothing_left [] = inl refl
nothing_left (b ∷ bs) = inr (λ e. cc)

-- bytes whose lines are read are the text of a log, or refused
read_faults : (bytes : List ℕ) → AllRead (whole_lines bytes) → IsNoText bytes → (line : ℕ) × (kind : Kind) × LogRefused bytes line kind
read_faults bytes (version, t, read, lines) no_text =
    elim (at_end t) [
      | inl end ↦
          let done = subst (λ (s : Stage). IsRead version s) end.1 read in
          let log : Log = record { version = version; claim = end.0 } in
          let whole = read_whole version end.0 done in
          let same : log_lines log ≡ whole_lines bytes = whole.1 ∙ (ap (lines_read version) (sym end.1) ∙ lines) in
          elim (nothing_left (unfinished bytes)) [
            | inl none ↦ absurd (no_text log whole.0 (is_text bytes log same none))
            | inr some ↦ (length (whole_lines bytes) + 1, BadLine, inr (record { whole = (log, whole.0, same); after = some; place = refl }))
          ]
      | inr none ↦ (
        length (whole_lines bytes) + 1,
        EndsEarly,
        record {
          begun = subst Begins lines (read_begins version t read);
          part = λ (log, fits, same). none log.claim (whole_is_read version t log read fits (same ∙ sym lines));
          place = refl;
        },
      )
    ]

-- bytes that are the text of no log are refused
some_fault_lem : (bytes : List ℕ) → IsNoText bytes → (line : ℕ) × (kind : Kind) × LogRefused bytes line kind
some_fault_lem bytes no_text =
    elim (scan One AtHeader (whole_lines bytes) (read_none One)) [
      | inl read ↦ read_faults bytes read no_text
      | inr stop ↦ (length stop.before + 1, BadLine, inl (record { before = stop.before; bad = stop.bad; after = stop.after; lines = stop.parts; place = refl; begun = stop.begun; stops = stop.stops }))
    ]

-- ---- one fault

-- a log that begins with some lines begins with the first of them
begins_first : (lines more : List (List ℕ)) → Begins (lines ++ more) → Begins lines
begins_first lines more (log, rest, fits, e) = (log, more ++ rest, fits, e ∙ append_assoc lines more rest)

-- two places in one list: the same, or one before the other
pub record IsBefore (a b : List (List ℕ)) (x : List ℕ) : Type 0 where
  pub between : List (List ℕ)
  pub parts : b ≡ (a ++ x ∷ []) ++ between

compare : (a b : List (List ℕ)) (x y : List ℕ) (xs ys : List (List ℕ)) → a ++ x ∷ xs ≡ b ++ y ∷ ys → (a ≡ b) ⊎ (IsBefore a b x ⊎ IsBefore b a y)
compare [] [] x y xs ys e = inl refl
compare [] (v ∷ b) x y xs ys e = let same : x ≡ v = cc in inr (inl (record { between = b; parts = ap (λ (l : List ℕ). l ∷ b) (sym same) }))
compare (u ∷ a) [] x y xs ys e = let same : u ≡ y = cc in inr (inr (record { between = a; parts = ap (λ (l : List ℕ). l ∷ a) same }))
compare (u ∷ a) (v ∷ b) x y xs ys e =
    let same : u ≡ v = cc in
    let tails : a ++ x ∷ xs ≡ b ++ y ∷ ys = cc in
    elim (compare a b x y xs ys tails) [
      | inl eq ↦ inl (let f : List (List ℕ) = u ∷ a in let g : f ≡ v ∷ b = cc in g)
      | inr (inl before) ↦ inr (inl (record { between = before.between; parts = let p = before.parts in cc }))
      | inr (inr before) ↦ inr (inr (record { between = before.between; parts = let p = before.parts in cc }))
    ]

-- a line that stops each log doesn't stand in what one begins with
not_within : (a b : List (List ℕ)) (x : List ℕ) → IsBefore a b x → Begins b → ¬ (Begins (a ++ x ∷ [])) → ⊥
not_within a b x before begun stops = stops (begins_first (a ++ x ∷ []) before.between (subst Begins before.parts begun))

-- lines that some log begins with hold no line that stops each
all_begun : (bytes : List ℕ) (line : ℕ) → IsBadLine bytes line → Begins (whole_lines bytes) → ⊥
all_begun bytes line bad begun = bad.stops (begins_first (bad.before ++ bad.bad ∷ []) bad.after (subst Begins (bad.lines ∙ sym (append_assoc bad.before (bad.bad ∷ []) bad.after)) begun))

-- the lines of a whole log begin one
whole_begins : (lines : List (List ℕ)) → AreWhole lines → Begins lines
whole_begins lines (log, fits, e) = (log, [], fits, e ∙ sym (append-nil lines))

-- one bad line only
one_bad : (bytes : List ℕ) (line line' : ℕ) → IsBadLine bytes line → IsBadLine bytes line' → line ≡ line'
one_bad bytes line line' bad bad' =
    elim (compare bad.before bad'.before bad.bad bad'.bad bad.after bad'.after (sym bad.lines ∙ bad'.lines)) [
      | inl same ↦ bad.place ∙ (ap (λ (r : List (List ℕ)). length r + 1) same ∙ sym bad'.place)
      | inr (inl before) ↦ absurd (not_within bad.before bad'.before bad.bad before bad'.begun bad.stops)
      | inr (inr before) ↦ absurd (not_within bad'.before bad.before bad'.bad before bad.begun bad'.stops)
    ]

-- bytes are refused for one of three reasons
by_reason : (bytes : List ℕ) (line : ℕ) (kind : Kind) → LogRefused bytes line kind → ((IsBadLine bytes line ⊎ HasBytesAfter bytes line) × (kind ≡ BadLine)) ⊎ (IsCutShort bytes line × (kind ≡ EndsEarly))
by_reason bytes line BadLine refused = inl (refused, refl)
by_reason bytes line EndsEarly refused = inr (refused, refl)
by_reason bytes line _ none = absurd none

-- one line and no cut
bad_once : (bytes : List ℕ) (line line' : ℕ) → IsBadLine bytes line ⊎ HasBytesAfter bytes line → IsBadLine bytes line' ⊎ HasBytesAfter bytes line' → line ≡ line'
bad_once bytes line line' (inl bad) (inl bad') = one_bad bytes line line' bad bad'
bad_once bytes line line' (inl bad) (inr after) = absurd (all_begun bytes line bad (whole_begins (whole_lines bytes) after.whole))
bad_once bytes line line' (inr after) (inl bad) = absurd (all_begun bytes line' bad (whole_begins (whole_lines bytes) after.whole))
bad_once bytes line line' (inr after) (inr after') = after.place ∙ sym after'.place

not_both : (bytes : List ℕ) (line line' : ℕ) → IsBadLine bytes line ⊎ HasBytesAfter bytes line → IsCutShort bytes line' → ⊥
not_both bytes line line' (inl bad) short = all_begun bytes line bad short.begun
not_both bytes line line' (inr after) short = short.part after.whole

-- one fault only
one_fault_lem : (bytes : List ℕ) (line line' : ℕ) (kind kind' : Kind) → LogRefused bytes line kind → LogRefused bytes line' kind' → (line ≡ line') × (kind ≡ kind')
one_fault_lem bytes line line' kind kind' a b = both (by_reason bytes line kind a) (by_reason bytes line' kind' b)
  where
    both : ((IsBadLine bytes line ⊎ HasBytesAfter bytes line) × (kind ≡ BadLine)) ⊎ (IsCutShort bytes line × (kind ≡ EndsEarly)) → ((IsBadLine bytes line' ⊎ HasBytesAfter bytes line') × (kind' ≡ BadLine)) ⊎ (IsCutShort bytes line' × (kind' ≡ EndsEarly)) → (line ≡ line') × (kind ≡ kind')
    both (inl bad) (inl bad') = (bad_once bytes line line' bad.0 bad'.0, bad.1 ∙ sym bad'.1)
    both (inl bad) (inr short) = absurd (not_both bytes line line' bad.0 short.0)
    both (inr short) (inl bad) = absurd (not_both bytes line' line bad.0 short.0)
    both (inr short) (inr short') = (short.0.place ∙ sym short'.0.place, short.1 ∙ sym short'.1)

pub refused_exactly_lem : (bytes : List ℕ) → RefusedExactly bytes
refused_exactly_lem bytes = record {
  no_text = λ line kind refused log fits text. text_stands bytes line kind log refused fits text;
  some_fault = some_fault_lem bytes;
  one_fault = one_fault_lem bytes;
}
