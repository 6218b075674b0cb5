-- Each text makes one claim or has one fault, and the reader answers it.
use Rattle.std.proofs.Common.{◌≡◌, ◌⊎◌, inl, inr, ℕ, List, Result, Ok, Err, refl, ap, ◌∙◌, subst}
use Rattle.stp_reader.specs.Lines.{word_lines}
use Rattle.solution_reader.specs.declared.reason.SolReason.{SolReason}
use Rattle.solution_reader.specs.declared.fault.SolError.{SolError}
use Rattle.solution_reader.specs.declared.fault.SolError.TheVariants.{Fault, NoMemory}
use Rattle.solution_reader.specs.Place.{Whole, at_header}
use Rattle.solution_reader.specs.Claim.{Claim, IsClaimOf}
use Rattle.solution_reader.specs.Reads.{ReadsSolution, RefusedSolution, IsRefusedBy}
use Rattle.solution_reader.specs.Judging.{stated, stated_from}
use Rattle.solution_reader.specs.Seen.{IsFaultOf}
use Rattle.solution_reader.specs.Laws.{RefusedExactly}
use Rattle.solution_reader.proofs.WholeTexts.{is_read, read_again, is_refused_at, refused_again, ended_again}
use Rattle.solution_reader.proofs.Claims.{one_claim_of, claim_of_whole}

-- ---- what all lines state, and the definitions

pub reads_stated : (bytes : List ℕ) (w : Whole) (claim : Claim) → stated bytes ≡ Ok w → IsClaimOf w claim → ReadsSolution bytes claim
unfolding stated
reads_stated bytes w claim e is =
    let read = is_read 1 at_header (word_lines bytes) w e in
    (w, record { right = read.0; whole = read.1 }, is)

pub stated_reads : (bytes : List ℕ) (claim : Claim) → ReadsSolution bytes claim → (w : Whole) × (stated bytes ≡ Ok w) × IsClaimOf w claim
unfolding stated
stated_reads bytes claim (w, read, is) = (w, read_again 1 at_header (word_lines bytes) w read.right read.whole, is)

refused_stated : (bytes : List ℕ) (line : ℕ) (r : SolReason) → stated bytes ≡ Err (line, r) → RefusedSolution bytes line r
unfolding stated
refused_stated bytes line r e =
    elim (is_refused_at 1 at_header (word_lines bytes) line r e) [
      | inl b ↦ inl (record { before = b.before; bad = b.bad; others = b.others; split = b.split; number = b.place; right = b.right; why = b.why })
      | inr b ↦ inr (record { number = b.place; right = b.right; why = b.why })
    ]

stated_refused : (bytes : List ℕ) (line : ℕ) (r : SolReason) → RefusedSolution bytes line r → stated bytes ≡ Err (line, r)
unfolding stated
stated_refused bytes line r (inl b) = ap (stated_from 1 at_header) b.split ∙ refused_again 1 at_header b.before b.bad b.others line r b.number b.right b.why
stated_refused bytes line r (inr b) = ended_again 1 at_header (word_lines bytes) line r b.number b.right b.why

-- ---- one answer

decided : (bytes : List ℕ) (o : Result Whole (ℕ × SolReason)) → stated bytes ≡ o → ((claim : Claim) × ReadsSolution bytes claim) ⊎ ((line : ℕ) × (r : SolReason) × RefusedSolution bytes line r)
decided bytes (Ok w) e = let made = claim_of_whole w in inl (made.0, reads_stated bytes w made.0 e made.1)
decided bytes (Err fault) e = inr (fault.0, fault.1, refused_stated bytes fault.0 fault.1 e)

never_both : (bytes : List ℕ) (w : Whole) (line : ℕ) (r : SolReason) → stated bytes ≡ Ok w → RefusedSolution bytes line r → ⊥
never_both bytes w line r e refused = let d = stated_refused bytes line r refused in absurd cc

-- what is stated is the one claim
pub same_claim : (bytes : List ℕ) (w : Whole) (claim other : Claim) → stated bytes ≡ Ok w → IsClaimOf w claim → ReadsSolution bytes other → claim ≡ other
same_claim bytes w claim other e is reads =
    let again = stated_reads bytes other reads in
    let d = again.1 in
    let wholes : w ≡ again.0 = cc in
    one_claim_of again.0 claim other (subst (λ (x : Whole). IsClaimOf x claim) wholes is) again.2

same_fault : (bytes : List ℕ) (line line' : ℕ) (r r' : SolReason) → RefusedSolution bytes line r → stated bytes ≡ Err (line', r') → (line ≡ line') × (r ≡ r')
same_fault bytes line line' r r' refused d =
    let e = stated_refused bytes line r refused in
    let here : ℕ × SolReason = (line, r) in
    let there : ℕ × SolReason = (line', r') in
    let same : here ≡ there = cc in
    (ap (λ (f : ℕ × SolReason). f.0) same, ap (λ (f : ℕ × SolReason). f.1) same)

pub refused_exactly_lem : (bytes : List ℕ) → RefusedExactly bytes
refused_exactly_lem bytes = record {
  some = decided bytes (stated bytes) refl;
  not_both = λ claim line r reads refused. let s = stated_reads bytes claim reads in never_both bytes s.0 line r s.1 refused;
  one_claim = λ claim other reads others. let s = stated_reads bytes claim reads in same_claim bytes s.0 claim other s.1 s.2 others;
  one_fault = λ line line' r r' refused others. same_fault bytes line line' r r' refused (stated_refused bytes line' r' others);
}

-- ---- what the reader answers

pub fault_refused : (bytes : List ℕ) (e : SolError) → IsFaultOf (stated bytes) e → IsRefusedBy bytes e
fault_refused bytes (Fault f) said = refused_stated bytes f.line f.reason said
fault_refused bytes NoMemory said = tt

pub memory_alone : (bytes : List ℕ) (e : SolError) (claim : Claim) → IsFaultOf (stated bytes) e → ReadsSolution bytes claim → e ≡ NoMemory
memory_alone bytes (Fault f) claim said reads = let s = stated_reads bytes claim reads in let d = s.1 in absurd cc
memory_alone bytes NoMemory claim said reads = refl

-- what a reader of some kind answers
abbrev pub failing : {T : Type 0} → SolError → Result T SolError
failing e = Err e

pub that_fault : {T : Type 0} (bytes : List ℕ) (e : SolError) (line : ℕ) (r : SolReason) → IsFaultOf (stated bytes) e → RefusedSolution bytes line r
    → (failing {T = T} e ≡ Err (Fault (record { line = line; reason = r }))) ⊎ (failing {T = T} e ≡ Err NoMemory)
that_fault {T} bytes (Fault f) line r said refused =
    let same = same_fault bytes line f.line r f.reason refused said in
    inl (rw (same.0, same.1) refl)
that_fault bytes NoMemory line r said refused = inr refl

pub no_fault : {A : Type 0} (bytes : List ℕ) (w : Whole) (line : ℕ) (r : SolReason) → stated bytes ≡ Ok w → RefusedSolution bytes line r → A
no_fault bytes w line r e refused = absurd (never_both bytes w line r e refused)
