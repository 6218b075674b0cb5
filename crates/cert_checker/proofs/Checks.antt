-- What is answered of a file and a log, by the laws of both.
use Rattle.std.proofs.Common.{ℕ, List, inl, inr, Result, Ok, Err, refl, sym, ap, subst, ◌∙◌}
use Rattle.std.specs.Prelude.{◌≡◌, IfOk}
use Rattle.amounts.specs.declared.scale.Scale.{Scale}
use Rattle.st_model.specs.Network.{Network}
use Rattle.arborescence.specs.Problem.{Problem, plain}
use Rattle.stp_reader.specs.declared.reason.Reason.{Reason}
use Rattle.stp_reader.specs.Reads.{Reads, ReadsFile, Refused, RefusedFile}
use Rattle.stp_reader.specs.Laws as file
use Rattle.log_format.specs.declared.kind.Kind.{Kind}
use Rattle.log_format.specs.declared.log.Log as log_type
use Rattle.log_format.specs.Laws.{OneSpelling, RefusedExactly, RejectedExactlyIn}
use Rattle.cert_checker.specs.declared.fault.CheckFault.{CheckFault}
use Rattle.cert_checker.specs.declared.fault.CheckFault.TheVariants.{Stp, Log, NoMemory}
use Rattle.cert_checker.specs.declared.verdict.Verdict.{Verdict}
use Rattle.cert_checker.specs.declared.verdict.Checked.{Checked}
use Rattle.cert_checker.specs.Checking.{IsAcceptedText, IsAcceptedTextIn, IsWrongText, IsWrongTextIn, IsAnswer, IsAnswerBy, IsFileAnswer, Answers}
use Rattle.cert_checker.specs.Verdict.{Concludes, ConcludesIn}
use Rattle.cert_checker.proofs.Texts.{one_verdict, not_wrong, one_wrong}

-- a verdict is one on an instance that the file's bytes stand for
pub some_concludes : (stp bytes : List ℕ) (result : Result Checked CheckFault) → IsAnswer stp bytes result → ((I : Network) (scale : Scale) → Reads stp I scale → IfOk result (λ checked. Concludes I checked.verdict))
    → IfOk result (λ checked. (I : Network) × Reads stp I checked.scale × Concludes I checked.verdict)
some_concludes stp bytes (Ok checked) (I, reads, text) concludes = (I, reads, concludes I checked.scale reads)
some_concludes stp bytes (Err e) answer concludes = tt

-- the same of problems
pub some_file_concludes : (stp bytes : List ℕ) (result : Result Checked CheckFault) → IsFileAnswer stp bytes result → ((K : Problem) (scale : Scale) → ReadsFile stp K scale → IfOk result (λ checked. ConcludesIn K checked.verdict))
    → IfOk result (λ checked. (K : Problem) × ReadsFile stp K checked.scale × ConcludesIn K checked.verdict)
some_file_concludes stp bytes (Ok checked) (K, reads, text) concludes = (K, reads, concludes K checked.scale reads)
some_file_concludes stp bytes (Err e) answer concludes = tt

-- a file is read so and refused so, as one problem or for one fault
pub record IsOneOf (Reading : Problem → Scale → Type 0) (Refusal : ℕ → Reason → Type 0) : Type 0 where
  pub not_both : (K : Problem) (scale : Scale) (line : ℕ) (reason : Reason) → Reading K scale → Refusal line reason → ⊥
  pub one_problem : (K L : Problem) (scale other : Scale) → Reading K scale → Reading L other → (K ≡ L) × (scale ≡ other)
  pub one_fault : (line line' : ℕ) (reason reason' : Reason) → Refusal line reason → Refusal line' reason' → (line ≡ line') × (reason ≡ reason')

pub one_of_file : (stp : List ℕ) → file.FileRefusedExactly stp → IsOneOf (ReadsFile stp) (RefusedFile stp)
one_of_file stp law = record { not_both = law.not_both; one_problem = law.one_instance; one_fault = law.one_fault }

module _ (Reading : Problem → Scale → Type 0) (Refusal : ℕ → Reason → Type 0) (bytes : List ℕ) (of_file : IsOneOf Reading Refusal) where
  -- its numbers count what the one file's do
  pub unit_by : (result : Result Checked CheckFault) → IsAnswerBy Reading Refusal bytes result → (K : Problem) (scale : Scale) → Reading K scale → IfOk result (λ checked. checked.scale ≡ scale)
  unit_by (Ok checked) (L, reads, text) K scale here = (of_file.one_problem L K checked.scale scale reads here).1
  unit_by (Err e) answer K scale here = tt

  -- a refused file is answered with its fault
  pub refused_by : (result : Result Checked CheckFault) → IsAnswerBy Reading Refusal bytes result → (line : ℕ) (reason : Reason) → Refusal line reason → Answers result (Err (Stp (record { line = line; reason = reason })))
  refused_by (Ok checked) (L, reads, text) line reason refused = absurd (of_file.not_both L checked.scale line reason reads refused)
  refused_by (Err (Stp f)) answer line reason refused =
      let same = of_file.one_fault f.line line f.reason reason answer refused in
      inl (λ i. Err (Stp (record { line = same.0 i; reason = same.1 i })))
  refused_by (Err (Log f)) (L, unit, reads, text) line reason refused = absurd (of_file.not_both L unit line reason reads refused)
  refused_by (Err NoMemory) answer line reason refused = inr refl

  module _ (spelling : OneSpelling) (of_text : RefusedExactly bytes) (of_log : (p : Problem) (log : log_type.Log) → RejectedExactlyIn p log) where
    -- an accepted log is answered with its verdict
    pub accepted_by : (result : Result Checked CheckFault) → IsAnswerBy Reading Refusal bytes result → (K : Problem) (scale : Scale) (verdict : Verdict) → Reading K scale → IsAcceptedTextIn K bytes verdict → Answers result (Ok (record { verdict = verdict; scale = scale }))
    accepted_by (Ok other) (L, reads, text) K scale verdict here accepted =
        let one = of_file.one_problem L K other.scale scale reads here in
        let same = one_verdict bytes spelling of_text of_log K other.verdict verdict (subst (λ (M : Problem). IsAcceptedTextIn M bytes other.verdict) one.0 text) accepted in
        inl (λ i. Ok (record { verdict = same i; scale = one.1 i }))
    accepted_by (Err (Stp f)) answer K scale verdict here accepted = absurd (of_file.not_both K scale f.line f.reason here answer)
    accepted_by (Err (Log f)) (L, unit, reads, wrong) K scale verdict here accepted =
        absurd (not_wrong bytes spelling of_text of_log K verdict f.line f.kind accepted (subst (λ (M : Problem). IsWrongTextIn M bytes f.line f.kind) (of_file.one_problem L K unit scale reads here).0 wrong))
    accepted_by (Err NoMemory) answer K scale verdict here accepted = inr refl

    -- a log that is wrong is answered with its fault
    pub wrong_by : (result : Result Checked CheckFault) → IsAnswerBy Reading Refusal bytes result → (K : Problem) (scale : Scale) (line : ℕ) (kind : Kind) → Reading K scale → IsWrongTextIn K bytes line kind → Answers result (Err (Log (record { line = line; kind = kind })))
    wrong_by (Ok other) (L, reads, text) K scale line kind here wrong =
        absurd (not_wrong bytes spelling of_text of_log K other.verdict line kind (subst (λ (M : Problem). IsAcceptedTextIn M bytes other.verdict) (of_file.one_problem L K other.scale scale reads here).0 text) wrong)
    wrong_by (Err (Stp f)) answer K scale line kind here wrong = absurd (of_file.not_both K scale f.line f.reason here answer)
    wrong_by (Err (Log f)) (L, unit, reads, found) K scale line kind here wrong =
        let same = one_wrong bytes spelling of_text of_log K f.line line f.kind kind (subst (λ (M : Problem). IsWrongTextIn M bytes f.line f.kind) (of_file.one_problem L K unit scale reads here).0 found) wrong in
        inl (λ i. Err (Log (record { line = same.0 i; kind = same.1 i })))
    wrong_by (Err NoMemory) answer K scale line kind here wrong = inr refl

-- ---- files of links alone

-- the bytes stand for an instance of links, which is the problem
abbrev ReadsLinks : List ℕ → Problem → Scale → Type 0
ReadsLinks stp K scale = (I : Network) × (K ≡ plain I) × Reads stp I scale

one_of_links : (stp : List ℕ) → file.RefusedExactly stp → IsOneOf (ReadsLinks stp) (Refused stp)
one_of_links stp law = record {
  not_both = λ K scale line reason (I, is, reads) refused. law.not_both I scale line reason reads refused;
  one_problem = λ K L scale other (I, is, reads) (J, js, reads'). (let one = law.one_instance I J scale other reads reads' in (is ∙ (ap plain one.0 ∙ sym js), one.1));
  one_fault = law.one_fault;
}

-- an answer of links is one of problems
by_links : (stp bytes : List ℕ) (result : Result Checked CheckFault) → IsAnswer stp bytes result → IsAnswerBy (ReadsLinks stp) (Refused stp) bytes result
by_links stp bytes (Ok checked) (I, reads, text) = (plain I, (I, refl, reads), text)
by_links stp bytes (Err (Stp f)) answer = answer
by_links stp bytes (Err (Log f)) (I, scale, reads, wrong) = (plain I, scale, (I, refl, reads), wrong)
by_links stp bytes (Err NoMemory) answer = tt

module _ (stp bytes : List ℕ) (of_file : file.RefusedExactly stp) where
  pub unit_of_it : (result : Result Checked CheckFault) → IsAnswer stp bytes result → (I : Network) (scale : Scale) → Reads stp I scale → IfOk result (λ checked. checked.scale ≡ scale)
  unit_of_it result answer I scale here = unit_by (ReadsLinks stp) (Refused stp) bytes (one_of_links stp of_file) result (by_links stp bytes result answer) (plain I) scale (I, refl, here)

  pub file_answers : (result : Result Checked CheckFault) → IsAnswer stp bytes result → (line : ℕ) (reason : Reason) → Refused stp line reason → Answers result (Err (Stp (record { line = line; reason = reason })))
  file_answers result answer line reason refused = refused_by (ReadsLinks stp) (Refused stp) bytes (one_of_links stp of_file) result (by_links stp bytes result answer) line reason refused

  module _ (spelling : OneSpelling) (of_text : RefusedExactly bytes) (of_log : (p : Problem) (log : log_type.Log) → RejectedExactlyIn p log) where
    pub accepted_answers : (result : Result Checked CheckFault) → IsAnswer stp bytes result → (I : Network) (scale : Scale) (verdict : Verdict) → Reads stp I scale → IsAcceptedText I bytes verdict → Answers result (Ok (record { verdict = verdict; scale = scale }))
    accepted_answers result answer I scale verdict here accepted = accepted_by (ReadsLinks stp) (Refused stp) bytes (one_of_links stp of_file) spelling of_text of_log result (by_links stp bytes result answer) (plain I) scale verdict (I, refl, here) accepted

    pub wrong_answers : (result : Result Checked CheckFault) → IsAnswer stp bytes result → (I : Network) (scale : Scale) (line : ℕ) (kind : Kind) → Reads stp I scale → IsWrongText I bytes line kind → Answers result (Err (Log (record { line = line; kind = kind })))
    wrong_answers result answer I scale line kind here wrong = wrong_by (ReadsLinks stp) (Refused stp) bytes (one_of_links stp of_file) spelling of_text of_log result (by_links stp bytes result answer) (plain I) scale line kind (I, refl, here) wrong
