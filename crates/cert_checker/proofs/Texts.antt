-- What is accepted or wrong of a text, by the laws of logs.
use Rattle.std.proofs.Common.{◌≡◌, ℕ, List, inl, inr, Result, Ok, Err, sym, ap, subst, ◌∙◌}
use Rattle.arborescence.specs.Problem.{Problem}
use Rattle.log_format.specs.declared.kind.Kind.{Kind}
use Rattle.log_format.specs.declared.log.Log as log_type
use Rattle.log_format.specs.Accepts.{RejectsIn}
use Rattle.log_format.specs.Laws.{OneSpelling, RefusedExactly, RejectedExactlyIn}
use Rattle.cert_checker.specs.declared.fault.CheckFault.{CheckFault}
use Rattle.cert_checker.specs.declared.fault.CheckFault.TheVariants.{Log}
use Rattle.cert_checker.specs.declared.verdict.Verdict.{Verdict}
use Rattle.cert_checker.specs.Checking.{IsTextOf, IsAcceptedTextIn, IsWrongTextIn}
use Rattle.cert_checker.specs.Pieces.{IsVerdictOn}
use Rattle.cert_checker.specs.Verdict.{verdict_of}

module _ (bytes : List ℕ) (spelling : OneSpelling) (of_text : RefusedExactly bytes) (of_log : (K : Problem) (log : log_type.Log) → RejectedExactlyIn K log) where
  -- the bytes are the text of one log
  same_log : (a b : log_type.Log) → IsTextOf bytes a → IsTextOf bytes b → a ≡ b
  same_log a b is_a is_b = spelling a b is_a.is_log is_b.is_log (sym is_a.text ∙ is_b.text)

  -- a log that is accepted isn't wrong
  pub not_wrong : (K : Problem) (verdict : Verdict) (line : ℕ) (kind : Kind) → IsAcceptedTextIn K bytes verdict → IsWrongTextIn K bytes line kind → ⊥
  not_wrong K verdict line kind (log, text, accepts, is) (inl refused) = of_text.no_text line kind refused log text.is_log text.text
  not_wrong K verdict line kind (log, text, accepts, is) (inr (other, text', rejects)) =
      (of_log K log).not_accepted line kind (subst (λ (l : log_type.Log). RejectsIn K l line kind) (same_log other log text' text) rejects) accepts

  -- two logs that are accepted have one verdict
  pub one_verdict : (K : Problem) (a b : Verdict) → IsAcceptedTextIn K bytes a → IsAcceptedTextIn K bytes b → a ≡ b
  one_verdict K a b (log, text, accepts, is) (other, text', accepts', is') =
      is ∙ (ap (λ (l : log_type.Log). verdict_of l.claim) (same_log log other text text') ∙ sym is')

  -- what is wrong is so at one line and as one kind
  pub one_wrong : (K : Problem) (l l' : ℕ) (k k' : Kind) → IsWrongTextIn K bytes l k → IsWrongTextIn K bytes l' k' → (l ≡ l') × (k ≡ k')
  one_wrong K l l' k k' (inl refused) (inl refused') = of_text.one_fault l l' k k' refused refused'
  one_wrong K l l' k k' (inl refused) (inr (log, text, rejects)) = absurd (of_text.no_text l k refused log text.is_log text.text)
  one_wrong K l l' k k' (inr (log, text, rejects)) (inl refused) = absurd (of_text.no_text l' k' refused log text.is_log text.text)
  one_wrong K l l' k k' (inr (log, text, rejects)) (inr (other, text', rejects')) =
      (of_log K log).one_fault l l' k k' rejects (subst (λ (x : log_type.Log). RejectsIn K x l' k') (same_log other log text' text) rejects')

  -- an accepted log is answered with its verdict
  pub accepted_to : (K : Problem) (result : Result Verdict CheckFault) → IsVerdictOn K bytes result → (verdict : Verdict) → IsAcceptedTextIn K bytes verdict → result ≡ Ok verdict
  accepted_to K (Ok other) answer verdict accepted = ap Ok (one_verdict K other verdict answer accepted)
  accepted_to K (Err (Log f)) answer verdict accepted = absurd (not_wrong K verdict f.line f.kind accepted answer)
  accepted_to K (Err e) answer verdict accepted = absurd answer

  -- a log that is wrong is answered with its fault
  pub wrong_to : (K : Problem) (result : Result Verdict CheckFault) → IsVerdictOn K bytes result → (line : ℕ) (kind : Kind) → IsWrongTextIn K bytes line kind
      → result ≡ Err (Log (record { line = line; kind = kind }))
  wrong_to K (Ok verdict) answer line kind wrong = absurd (not_wrong K verdict line kind answer wrong)
  wrong_to K (Err (Log f)) answer line kind wrong =
      let same = one_wrong K f.line line f.kind kind answer wrong in
      λ i. Err (Log (record { line = same.0 i; kind = same.1 i }))
  wrong_to K (Err e) answer line kind wrong = absurd answer
