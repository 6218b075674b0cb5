-- What is answered of a text that came in pieces.
use Rattle.std.proofs.Common.{◌≡◌, ℕ, Bool, true, false, List, [], ◌∷◌, ◌++◌, inl, inr, Result, Ok, Err, sym, ap, subst, ◌∙◌}
use Rattle.std.specs.Prelude.{◌⊎◌, IfOk, IsErrAnd, MatchResult}
use Rattle.std.proofs.lemmas.List.{append-nil}
use Rattle.amounts.specs.declared.scale.Scale.{Scale}
use Rattle.st_model.specs.Network.{Network}
use Rattle.arborescence.specs.Problem.{Problem, plain, IsProblem}
use Rattle.stp_reader.specs.declared.fault.ReadError as file
use Rattle.stp_reader.specs.declared.fault.ReadError.TheVariants as file_error
use Rattle.stp_reader.specs.declared.reason.Reason.{Reason}
use Rattle.stp_reader.specs.Reads.{Reads, ReadsFile}
use Rattle.log_format.specs.Accepts.{AcceptedOfAProblemHolds}
use Rattle.log_format.specs.Text.{AreWhole, Begins}
use Rattle.log_format.proofs.WholeLines.{is_text}
use Rattle.cert_checker.specs.declared.fault.CheckFault.{CheckFault}
use Rattle.cert_checker.specs.declared.fault.CheckFault.TheVariants.{Stp, Log, NoMemory}
use Rattle.cert_checker.specs.declared.verdict.Verdict.{Verdict}
use Rattle.cert_checker.specs.declared.verdict.Checked.{Checked}
use Rattle.cert_checker.specs.Checking.{IsTextOf, IsAcceptedTextIn, IsWrongTextIn, IsAnswer, IsFileAnswer}
use Rattle.cert_checker.specs.Fault.{fault_of_file}
use Rattle.cert_checker.specs.Hearing.{AreTaken, IsJudgementOf, AreJudged, IsFed}
use Rattle.cert_checker.specs.Held.{AreHeld, IsHeld}
use Rattle.cert_checker.specs.Pieces.{Pieces, IsVerdictOn, IsAnswerTo}
use Rattle.cert_checker.specs.Verdict.{Concludes, ConcludesIn}
use Rattle.cert_checker.proofs.Judgements.{holds_concludes}

-- ---- the judgement

-- what is judged of the lines of a log is answered of its text
pub judged_answers : (K : Problem) (lines : List (List ℕ)) (part text : List ℕ) (result : Result Verdict CheckFault) → AreTaken lines part text → part ≡ [] → AreWhole lines
    → AreJudged K lines result → IsVerdictOn K text result
judged_answers K lines part text result read none (log, is, same) judged = by_result result (judged log is same)
  where
    is_of : IsTextOf text log
    is_of = record { is_log = is; text = is_text text log (same ∙ sym read.whole) (read.rest ∙ none) }

    by_result : (r : Result Verdict CheckFault) → IsJudgementOf K log r → IsVerdictOn K text r
    by_result (Ok verdict) j = (log, is_of, j.0, j.1)
    by_result (Err (Log f)) j = inr (log, is_of, j)
    by_result (Err e) j = j

-- and concludes
pub answer_concludes : (K : Problem) (text : List ℕ) (result : Result Verdict CheckFault) → AcceptedOfAProblemHolds → IsProblem K → IsVerdictOn K text result → IfOk result (ConcludesIn K)
answer_concludes K text (Ok verdict) law problem (log, is, accepts, same) = subst (ConcludesIn K) (sym same) (holds_concludes K log.claim (law K log problem accepts))
answer_concludes K text (Err e) law problem answer = tt

-- ---- splits

pub held_so : (lines : List (List ℕ)) (is_bad : Bool) (part text : List ℕ) (count : ℕ) → IsFed lines is_bad part text → AreHeld lines count → IsHeld text count
held_so lines false part text count read held = (lines, record { after = []; whole = read.whole ∙ sym (append-nil lines); begun = read.begun; stops = λ bad others none. absurd cc }, held)
held_so lines true part text count read held = (
  lines,
  record {
    after = read.bad ∷ read.after;
    whole = read.whole;
    begun = read.begun;
    stops = λ bad others same begins. let first : read.bad ≡ bad = cc in read.stops (subst (λ (l : List ℕ). Begins (lines ++ l ∷ [])) (sym first) begins);
  },
  held,
)

-- ---- the file

-- a fault of reading the file is that of the check
pub fault_only : {X : Type 0} (r : Result X CheckFault) (e : file.ReadError) (P : X → Type 0) → IsErrAnd r (λ fault. fault ≡ fault_of_file e) → e ≡ file_error.NoMemory
    → MatchResult r P (λ fault. fault ≡ NoMemory)
fault_only (Ok x) e P is none = absurd is
fault_only (Err fault) e P is none = is ∙ ap fault_of_file none

pub fault_refused : {X Y : Type 0} (read : Result Y file.ReadError) (r : Result X CheckFault) (e : file.ReadError) (line : ℕ) (reason : Reason)
    → IsErrAnd r (λ fault. fault ≡ fault_of_file e) → read ≡ Err e
    → (read ≡ Err (file_error.Fault (record { line = line; reason = reason }))) ⊎ (read ≡ Err file_error.NoMemory) → IsErrAnd r (λ fault. (fault ≡ Stp (record { line = line; reason = reason })) ⊎ (fault ≡ NoMemory))
fault_refused read (Ok x) e line reason is found one = absurd is
fault_refused read (Err fault) e line reason is found (inl same) = let it : e ≡ file_error.Fault (record { line = line; reason = reason }) = cc in inl (is ∙ ap fault_of_file it)
fault_refused read (Err fault) e line reason is found (inr none) = let it : e ≡ file_error.NoMemory = cc in inr (is ∙ ap fault_of_file it)

-- a file that is read isn't refused
pub never_refused : {Y : Type 0} (read : Result Y file.ReadError) (y : Y) (a b : file.ReadError) → read ≡ Ok y → (read ≡ Err a) ⊎ (read ≡ Err b) → ⊥
never_refused read y a b found (inl e) = absurd cc
never_refused read y a b found (inr e) = absurd cc

-- ---- the whole

-- an answer to pieces is one of their file and the text
answers_of : (stp : List ℕ) (I : Network) (p : Pieces) (result : Result Checked CheckFault) → Reads stp I p.scale → p.problem ≡ plain I → IsAnswerTo p result → IsAnswer stp p.text result
answers_of stp I p (Ok checked) reads is answer = (I, subst (Reads stp I) (sym answer.1) reads, subst (λ (K : Problem). IsAcceptedTextIn K p.text checked.verdict) is answer.0)
answers_of stp I p (Err (Log f)) reads is answer = (I, p.scale, reads, subst (λ (K : Problem). IsWrongTextIn K p.text f.line f.kind) is answer)
answers_of stp I p (Err e) reads is answer = absurd answer

-- the same of what was fed to a checker of that file
pub fed_answers : (stp log : List ℕ) (I : Network) (first fed : Pieces) (result : Result Checked CheckFault) → Reads stp I first.scale → first.problem ≡ plain I → fed.problem ≡ first.problem → fed.scale ≡ first.scale → fed.text ≡ log → IsAnswerTo fed result → IsAnswer stp log result
fed_answers stp log I first fed result reads is same unit all answer =
    subst (λ (t : List ℕ). IsAnswer stp t result) all (answers_of stp I fed result (subst (Reads stp I) (sym unit) reads) (same ∙ is) answer)

-- the same of a file of either kind
file_answers_of : (stp : List ℕ) (p : Pieces) (result : Result Checked CheckFault) → ReadsFile stp p.problem p.scale → IsAnswerTo p result → IsFileAnswer stp p.text result
file_answers_of stp p (Ok checked) reads answer = (p.problem, subst (ReadsFile stp p.problem) (sym answer.1) reads, answer.0)
file_answers_of stp p (Err (Log f)) reads answer = (p.problem, p.scale, reads, answer)
file_answers_of stp p (Err e) reads answer = absurd answer

pub fed_file_answers : (stp log : List ℕ) (first fed : Pieces) (result : Result Checked CheckFault) → ReadsFile stp first.problem first.scale → fed.problem ≡ first.problem → fed.scale ≡ first.scale → fed.text ≡ log → IsAnswerTo fed result → IsFileAnswer stp log result
fed_file_answers stp log first fed result reads same unit all answer =
    let of_file : ReadsFile stp fed.problem fed.scale = subst (λ (K : Problem). ReadsFile stp K fed.scale) (sym same) (subst (ReadsFile stp first.problem) (sym unit) reads) in
    subst (λ (t : List ℕ). IsFileAnswer stp t result) all (file_answers_of stp fed result of_file answer)

-- ---- the verdict and its unit

-- what a check answers
abbrev pub answered : Result Checked CheckFault → Result Checked CheckFault
answered r = r

pub that_verdict : (found verdict : Verdict) (unit scale : Scale) (result : Result Verdict CheckFault) → result ≡ Ok found → unit ≡ scale → result ≡ Ok verdict → answered (Ok (record { verdict = found; scale = unit })) ≡ answered (Ok (record { verdict = verdict; scale = scale }))
that_verdict found verdict unit scale result is same e = let it : found ≡ verdict = cc in λ i. Ok (record { verdict = it i; scale = same i })

pub never_both_ways : {A : Type 0} (found : Verdict) (fault : CheckFault) (result : Result Verdict CheckFault) → result ≡ Ok found → result ≡ Err fault → A
never_both_ways found fault result is e = absurd cc

pub that_fault : (fault other : CheckFault) (result : Result Verdict CheckFault) → result ≡ Err fault → result ≡ Err other → answered (Err fault) ≡ answered (Err other)
that_fault fault other result is e = let it : fault ≡ other = cc in ap (λ f. answered (Err f)) it

pub verdict_answers : (p : Pieces) (result : Result Verdict CheckFault) (verdict : Verdict) (unit : Scale) → result ≡ Ok verdict → unit ≡ p.scale → IsVerdictOn p.problem p.text result → IsAnswerTo p (Ok (record { verdict = verdict; scale = unit }))
verdict_answers p result verdict unit is same answer = (subst (λ r. IsVerdictOn p.problem p.text r) is answer, same)

pub fault_answers : (p : Pieces) (result : Result Verdict CheckFault) (fault : CheckFault) → result ≡ Err fault → IsVerdictOn p.problem p.text result → IsAnswerTo p (Err fault)
fault_answers p result fault is answer = same_fault p fault (subst (λ r. IsVerdictOn p.problem p.text r) is answer)
  where
    same_fault : (p : Pieces) (fault : CheckFault) → IsVerdictOn p.problem p.text (Err fault) → IsAnswerTo p (Err fault)
    same_fault p (Log f) wrong = wrong
    same_fault p (Stp f) wrong = wrong
    same_fault p NoMemory wrong = wrong

-- ---- the file, and what was made of it

abbrev pub pieces : Problem → Scale → List ℕ → Pieces
pieces K scale text = record { problem = K; scale = scale; text = text }

pub made_of : (I J : Network) (first : Pieces) (scale unit : Scale) → J ≡ I → unit ≡ scale → first ≡ pieces (plain J) unit [] → first ≡ pieces (plain I) scale []
made_of I J first scale unit same of_it is = is ∙ (λ i. pieces (plain (same i)) (of_it i) [])

-- the same of a file of either kind
pub made_of_file : (K L : Problem) (first : Pieces) (scale unit : Scale) → L ≡ K → unit ≡ scale → first ≡ pieces L unit [] → first ≡ pieces K scale []
made_of_file K L first scale unit same of_it is = is ∙ (λ i. pieces (same i) (of_it i) [])

pub concludes_file : (K : Problem) (scale : Scale) (first fed : Pieces) (result : Result Checked CheckFault) → first ≡ pieces K scale [] → fed.problem ≡ first.problem
    → IfOk result (λ checked. ConcludesIn fed.problem checked.verdict) → IfOk result (λ checked. ConcludesIn K checked.verdict)
concludes_file K scale first fed result is same concludes =
    subst (λ (L : Problem). IfOk result (λ checked. ConcludesIn L checked.verdict)) (same ∙ ap (λ (p : Pieces). p.problem) is) concludes

-- what is concluded of the problem of a checker is concluded of the file's instance
pub concludes_fed : (I : Network) (scale : Scale) (first fed : Pieces) (result : Result Checked CheckFault) → first ≡ pieces (plain I) scale [] → fed.problem ≡ first.problem
    → IfOk result (λ checked. ConcludesIn fed.problem checked.verdict) → IfOk result (λ checked. Concludes I checked.verdict)
concludes_fed I scale first fed result is same concludes = concludes_file (plain I) scale first fed result is same concludes
