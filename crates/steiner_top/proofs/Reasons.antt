-- How answers follow from what was found, and stops from loads that failed.
use Rattle.std.proofs.Common.{◌≡◌, ◌≢◌, ◌⊎◌, inl, inr, ℕ, Bool, List, [], ◌∷◌, Result, Ok, Err, Option, Some, None, refl, sym, subst, ap, ap₂, ◌∙◌}
use Rattle.std.specs.Prelude.{IfOk}
use Rattle.st_edge.specs.Shelf.{SameTexts}
use Rattle.amounts.specs.declared.scale.Scale.{Scale}
use Rattle.stp_reader.specs.declared.reason.Reason.{Reason}
use Rattle.arborescence.specs.Problem.{Problem}
use Rattle.stp_reader.specs.Reads.{ReadsFile, RefusedFile as FileRefused}
use Rattle.stp_reader.specs.Laws.{FileRefusedExactly}
use Rattle.log_format.specs.declared.kind.Kind.{Kind}
use Rattle.cert_checker.specs.declared.fault.CheckFault.{CheckFault}
use Rattle.cert_checker.specs.declared.fault.CheckFault.TheVariants as check_fault
use Rattle.cert_checker.specs.declared.verdict.Checked.{Checked}
use Rattle.cert_checker.specs.declared.verdict.Verdict.{Verdict}
use Rattle.cert_checker.specs.declared.verdict.Verdict.TheVariants as verdict
use Rattle.cert_checker.specs.Checking.{Answers, IsFileAnswer, IsAcceptedTextIn, IsWrongTextIn}
use Rattle.cert_checker.specs.Verdict.{ConcludesIn}
use Rattle.steiner_top.specs.Answer.{CheckAnswer, IsLineOf}
use Rattle.steiner_top.specs.declared.outcome.Outcome.{Outcome}
use Rattle.steiner_top.specs.declared.outcome.SolveFault.{SolveFault}
use Rattle.steiner_top.specs.declared.outcome.SolveFault.TheVariants.{Stp, NoMemory}
use Rattle.steiner_top.specs.declared.status.Status.{Status}
use Rattle.steiner_top.specs.declared.status.Status.TheVariants.{Optimal, Usage, Budget, Infeasible, RefusedFile, RefusedLog, ReadFault, WriteFault, NoMemory as Exhausted, TooLong, NotFew, NotTree, RefusedSolution}
use Rattle.steiner_top.specs.Outcome.{Solves}
use Rattle.st_edge.specs.Sink.{TakesFront}
use Rattle.command_line.specs.Words.{Command, solve, check, gen, trial, few, verify, resume}
use Rattle.steiner_top.specs.Output.{line_of, status_of_verdict}
use Rattle.steiner_top.specs.Causes.{Texts, IsAnswered, IsCutShort, IsSaved, IsStopped, IsUnanswered, StopsAtLoad}

-- bytes that are refused are answered so
pub refused_answer : (nodes : ℕ) (plain links : Bool) (bytes : List ℕ) (result : Result Outcome SolveFault) → FileRefusedExactly bytes → Solves nodes plain links bytes result → (line : ℕ) (reason : Reason) → FileRefused bytes line reason → (result ≡ Err (Stp (record { line = line; reason = reason }))) ⊎ (result ≡ Err NoMemory)
refused_answer nodes plain links bytes (Ok outcome) law h line reason r = absurd (law.not_both h.0 h.1 line reason h.2 r)
refused_answer nodes plain links bytes (Err (Stp f)) law h line reason r =
    let one = law.one_fault f.line line f.reason reason h r in
    inl (ap₂ (λ l q. Err (Stp (record { line = l; reason = q }))) one.0 one.1)
refused_answer nodes plain links bytes (Err NoMemory) law h line reason r = inr refl

-- a text without which a run stops is one of two
pub first_stops : (a b : List ℕ) (texts : Texts) (status : Status) → IsStopped (a ∷ []) texts status → IsStopped (a ∷ b ∷ []) texts status
first_stops a b texts ReadFault h = tt
first_stops a b texts Exhausted h = tt
first_stops a b texts TooLong h = elim h [ inl long ↦ inl long | inr none ↦ absurd none ]
first_stops a b texts Optimal h = h
first_stops a b texts Usage h = h
first_stops a b texts Budget h = h
first_stops a b texts Infeasible h = h
first_stops a b texts RefusedFile h = h
first_stops a b texts RefusedLog h = h
first_stops a b texts WriteFault h = h
first_stops a b texts NotFew h = h
first_stops a b texts NotTree h = h
first_stops a b texts RefusedSolution h = h

-- and so where the texts are those from before
pub second_stops : (a b : List ℕ) (old new : Texts) (status : Status) → SameTexts old new → IsStopped (b ∷ []) new status → IsStopped (a ∷ b ∷ []) old status
second_stops a b old new ReadFault same h = tt
second_stops a b old new Exhausted same h = tt
second_stops a b old new TooLong same h = elim h [
  | inl long ↦ inr (inl (rw (← same b) long))
  | inr none ↦ absurd none
]
second_stops a b old new Optimal same h = h
second_stops a b old new Usage same h = h
second_stops a b old new Budget same h = h
second_stops a b old new Infeasible same h = h
second_stops a b old new RefusedFile same h = h
second_stops a b old new RefusedLog same h = h
second_stops a b old new WriteFault same h = h
second_stops a b old new NotFew same h = h
second_stops a b old new NotTree same h = h
second_stops a b old new RefusedSolution same h = h

-- what a check found is the answer to the file and the log, and the only one
pub check_answered : (stp log : List ℕ) (found : Result Checked CheckFault) (status : Status) (sent : List ℕ)
    → ((p : Problem) (scale : Scale) → ReadsFile stp p scale → IfOk found (λ checked. ConcludesIn p checked.verdict))
    → IsFileAnswer stp log found
    → ((p : Problem) (scale : Scale) (verdict : Verdict) → ReadsFile stp p scale → IsAcceptedTextIn p log verdict → Answers found (Ok (record { verdict = verdict; scale = scale })))
    → ((line : ℕ) (reason : Reason) → FileRefused stp line reason → Answers found (Err (check_fault.Stp (record { line = line; reason = reason }))))
    → ((p : Problem) (scale : Scale) (line : ℕ) (kind : Kind) → ReadsFile stp p scale → IsWrongTextIn p log line kind → Answers found (Err (check_fault.Log (record { line = line; kind = kind }))))
    → IsLineOf found status sent → CheckAnswer stp log status sent
check_answered stp log found status sent concludes exact accepted file text line = record {
  answer = found;
  exact = exact;
  only = only;
  concludes = concludes;
  line = line;
} where
  settled : (wanted : Result Checked CheckFault) → Answers found wanted → found ≡ wanted
  settled wanted h = elim h [
    | inl same ↦ same
    | inr memory ↦ absurd (subst (λ f. IsLineOf f status sent) memory line)
  ]

  only : (other : Result Checked CheckFault) → IsFileAnswer stp log other → other ≢ Err check_fault.NoMemory → found ≡ other
  only (Ok checked) h other = settled (Ok checked) (accepted h.0 checked.scale checked.verdict h.1 h.2)
  only (Err (check_fault.Stp f)) h other = settled (Err (check_fault.Stp f)) (file f.line f.reason h)
  only (Err (check_fault.Log f)) h other = settled (Err (check_fault.Log f)) (text h.0 h.1 f.line f.kind h.2 h.3)
  only (Err check_fault.NoMemory) h other = absurd (other refl)

-- a verdict ends a run with one of three statuses
verdict_ends : (v : Verdict) → (status_of_verdict v ≡ Optimal) ⊎ (status_of_verdict v ≡ Budget) ⊎ (status_of_verdict v ≡ Infeasible)
verdict_ends (verdict.Optimal primal) = inl refl
verdict_ends (verdict.Bound dual primal) = inr (inl refl)
verdict_ends verdict.NoTree = inr (inr refl)

-- whether a write failed
write_or_not : (status : Status) → (status ≡ WriteFault) ⊎ (status ≢ WriteFault)
write_or_not WriteFault = inl refl
write_or_not Optimal = inr (λ e. absurd cc)
write_or_not Usage = inr (λ e. absurd cc)
write_or_not Budget = inr (λ e. absurd cc)
write_or_not Infeasible = inr (λ e. absurd cc)
write_or_not RefusedFile = inr (λ e. absurd cc)
write_or_not RefusedLog = inr (λ e. absurd cc)
write_or_not ReadFault = inr (λ e. absurd cc)
write_or_not Exhausted = inr (λ e. absurd cc)
write_or_not TooLong = inr (λ e. absurd cc)
write_or_not NotFew = inr (λ e. absurd cc)
write_or_not NotTree = inr (λ e. absurd cc)
write_or_not RefusedSolution = inr (λ e. absurd cc)

-- no answer ends a run with a write fault
no_write : (command : Option Command) (texts : Texts) (outcome : Option Outcome) (sent : List ℕ) → IsAnswered command texts WriteFault outcome sent → ⊥
no_write None texts outcome sent h = h
no_write (Some (solve w)) texts outcome sent h = h.2
no_write (Some (few w)) texts outcome sent h = h.2.line
no_write (Some (verify w)) texts outcome sent h = h.4.line.line
no_write (Some (resume w)) texts outcome sent h = h.4
no_write (Some (gen w)) texts outcome sent h = let bad : WriteFault ≡ Optimal = h.ends in absurd cc
no_write (Some (trial w)) texts outcome sent h = elim h.ends [
  | inl e ↦ let bad : WriteFault ≡ Optimal = e.0 in absurd cc
  | inr e ↦ let bad : WriteFault ≡ Budget = e.0 in absurd cc
]
no_write (Some (check w)) texts outcome sent h = by_answer h.4.answer h.4.line
  where
    by_answer : (answer : Result Checked CheckFault) → IsLineOf answer WriteFault sent → ⊥
    by_answer (Ok checked) line = elim (verdict_ends checked.verdict) [
      | inl e ↦ let bad : WriteFault ≡ Optimal = line.0 ∙ e in absurd cc
      | inr other ↦ elim other [
        | inl e ↦ let bad : WriteFault ≡ Budget = line.0 ∙ e in absurd cc
        | inr e ↦ let bad : WriteFault ≡ Infeasible = line.0 ∙ e in absurd cc
      ]
    ]
    by_answer (Err (check_fault.Stp f)) line = let bad : WriteFault ≡ RefusedFile = line.0 in absurd cc
    by_answer (Err (check_fault.Log f)) line = let bad : WriteFault ≡ RefusedLog = line.0 in absurd cc
    by_answer (Err check_fault.NoMemory) line = line

pub never_unwritten : (command : Option Command) (texts : Texts) (status : Status) (outcome : Option Outcome) (sent : List ℕ) → IsAnswered command texts status outcome sent → status ≢ WriteFault
never_unwritten command texts status outcome sent answered failed = no_write command texts outcome sent (subst (λ s. IsAnswered command texts s outcome sent) failed answered)

-- nor with one that a load gives
no_load : (command : Option Command) (texts : Texts) (status : Status) (outcome : Option Outcome) (sent : List ℕ) → (status ≡ ReadFault) ⊎ (status ≡ TooLong) → IsAnswered command texts status outcome sent → ⊥
no_load command texts status outcome sent (inl read) h = unread command (subst (λ s. IsAnswered command texts s outcome sent) read h)
  where
    by_answer : (answer : Result Checked CheckFault) → IsLineOf answer ReadFault sent → ⊥
    by_answer (Ok checked) line = elim (verdict_ends checked.verdict) [
      | inl e ↦ let bad : ReadFault ≡ Optimal = line.0 ∙ e in absurd cc
      | inr other ↦ elim other [
        | inl e ↦ let bad : ReadFault ≡ Budget = line.0 ∙ e in absurd cc
        | inr e ↦ let bad : ReadFault ≡ Infeasible = line.0 ∙ e in absurd cc
      ]
    ]
    by_answer (Err (check_fault.Stp f)) line = let bad : ReadFault ≡ RefusedFile = line.0 in absurd cc
    by_answer (Err (check_fault.Log f)) line = let bad : ReadFault ≡ RefusedLog = line.0 in absurd cc
    by_answer (Err check_fault.NoMemory) line = line

    unread : (command : Option Command) → IsAnswered command texts ReadFault outcome sent → ⊥
    unread None h = h
    unread (Some (solve w)) h = h.2
    unread (Some (few w)) h = h.2.line
    unread (Some (verify w)) h = h.4.line.line
    unread (Some (resume w)) h = h.4
    unread (Some (gen w)) h = let bad : ReadFault ≡ Optimal = h.ends in absurd cc
    unread (Some (trial w)) h = elim h.ends [
      | inl e ↦ let bad : ReadFault ≡ Optimal = e.0 in absurd cc
      | inr e ↦ let bad : ReadFault ≡ Budget = e.0 in absurd cc
    ]
    unread (Some (check w)) h = by_answer h.4.answer h.4.line
no_load command texts status outcome sent (inr long) h = short command (subst (λ s. IsAnswered command texts s outcome sent) long h)
  where
    by_answer : (answer : Result Checked CheckFault) → IsLineOf answer TooLong sent → ⊥
    by_answer (Ok checked) line = elim (verdict_ends checked.verdict) [
      | inl e ↦ let bad : TooLong ≡ Optimal = line.0 ∙ e in absurd cc
      | inr other ↦ elim other [
        | inl e ↦ let bad : TooLong ≡ Budget = line.0 ∙ e in absurd cc
        | inr e ↦ let bad : TooLong ≡ Infeasible = line.0 ∙ e in absurd cc
      ]
    ]
    by_answer (Err (check_fault.Stp f)) line = let bad : TooLong ≡ RefusedFile = line.0 in absurd cc
    by_answer (Err (check_fault.Log f)) line = let bad : TooLong ≡ RefusedLog = line.0 in absurd cc
    by_answer (Err check_fault.NoMemory) line = line

    short : (command : Option Command) → IsAnswered command texts TooLong outcome sent → ⊥
    short None h = h
    short (Some (solve w)) h = h.2
    short (Some (few w)) h = h.2.line
    short (Some (verify w)) h = h.4.line.line
    short (Some (resume w)) h = h.4
    short (Some (gen w)) h = let bad : TooLong ≡ Optimal = h.ends in absurd cc
    short (Some (trial w)) h = elim h.ends [
      | inl e ↦ let bad : TooLong ≡ Optimal = e.0 in absurd cc
      | inr e ↦ let bad : TooLong ≡ Budget = e.0 in absurd cc
    ]
    short (Some (check w)) h = by_answer h.4.answer h.4.line

-- a status that a load gives is no write fault
not_write : (status : Status) → (status ≡ ReadFault) ⊎ (status ≡ TooLong) → status ≢ WriteFault
not_write status (inl read) failed = let bad : ReadFault ≡ WriteFault = sym read ∙ failed in absurd cc
not_write status (inr long) failed = let bad : TooLong ≡ WriteFault = sym long ∙ failed in absurd cc

-- a run that has an answer doesn't end with a status that a load gives
pub never_stopped : (command : Option Command) (texts : Texts) (status given : Status) (outcome : Option Outcome) (sent : List ℕ)
    → IsAnswered command texts status outcome sent → (given ≢ WriteFault → given ≡ status) → (given ≡ ReadFault) ⊎ (given ≡ TooLong) → ⊥
never_stopped command texts status given outcome sent answered same at =
    no_load command texts given outcome sent at (subst (λ s. IsAnswered command texts s outcome sent) (sym (same (not_write given at))) answered)

-- where the status of a run without an answer is handed out, a load ended the run as it did before
pub stopped_alike : (names : List (List ℕ)) (texts : Texts) (asked asked_now : Option (List (List ℕ))) (status given : Status)
    → StopsAtLoad names texts asked asked_now status → (given ≢ WriteFault → given ≡ status) → StopsAtLoad names texts asked asked_now given
stopped_alike names texts asked asked_now status given stops same at = subst (λ s. StopsAtLoad names texts asked asked_now s) (sym (same (not_write given at))) stops at

-- where an answer is cut short, its outcome isn't given out
pub lost_outcome : (command : Option Command) (texts : Texts) (status : Status) (outcome given : Option Outcome) (sent : List ℕ) → IsAnswered command texts status outcome sent → (status ≢ WriteFault → given ≡ None) → given ≡ None
lost_outcome command texts status outcome given sent answered lost = elim (write_or_not status) [
  | inl failed ↦ absurd (no_write command texts outcome sent (subst (λ s. IsAnswered command texts s outcome sent) failed answered))
  | inr other ↦ lost other
]

-- an answer that couldn't be handed out was cut short
pub answer_cut_short : (command : Option Command) (old new : Texts) (failed : Type 0) (taken now : Option (List ℕ)) (status : Status) (outcome : Option Outcome) (sent bytes : List ℕ)
    → IsAnswered command old status outcome sent → bytes ≡ sent → (status ≢ WriteFault → TakesFront taken now bytes) → IsSaved command new outcome → (outcome ≡ None → SameTexts old new)
    → IsCutShort command old new failed taken now
answer_cut_short command old new failed taken now status outcome sent bytes answered same front saved kept =
    let other : status ≢ WriteFault = λ e. no_write command old outcome sent (subst (λ s. IsAnswered command old s outcome sent) e answered) in
    (status, outcome, sent, inl answered, inr (record { front = subst (λ b. TakesFront taken now b) same (front other); saved = saved; kept = kept }))

-- a run without an answer that ends with a write fault: its line was cut short, or its log wasn't saved and nothing was sent
pub stop_cut_short : (command : Option Command) (old new : Texts) (failed : Type 0) (taken now : Option (List ℕ)) (status : Status) (bytes : List ℕ)
    → bytes ≡ line_of status
    → (status ≢ WriteFault → IsUnanswered command old status)
    → (status ≡ WriteFault → (s : Status) × (outcome : Option Outcome) × (sent : List ℕ) × IsAnswered command old s outcome sent)
    → (status ≡ WriteFault → failed)
    → (status ≢ WriteFault → TakesFront taken now bytes)
    → (bytes ≡ [] → now ≡ taken)
    → (status ≢ WriteFault → SameTexts old new)
    → IsCutShort command old new failed taken now
stop_cut_short command old new failed taken now status bytes line unanswered unsaved cause front nothing kept = elim (write_or_not status) [
  | inl lost ↦
      let u = unsaved lost in
      let empty : bytes ≡ [] = line ∙ ap line_of lost in
      (u.0, u.1, u.2, inl u.3, inl (cause lost, nothing empty))
  | inr other ↦ (status, None, bytes, inr (unanswered other, refl, line), inr (record { front = front other; saved = tt; kept = λ _. kept other }))
]
