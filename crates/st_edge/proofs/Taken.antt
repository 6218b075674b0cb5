-- Bytes taken one piece after another.
use Rattle.std.proofs.Common.{◌≡◌, ◌≢◌, ℕ, ◌+◌, ◌-◌, ◌<◌, ◌≤◌, List, [], ◌++◌, length, take, drop, Option, None, Some, sym, refl, ap, ◌∙◌, append_assoc, length-drop, arith}
use Rattle.std.proofs.Math.Seq.{take-add, take-length}
use Rattle.std.specs.Io.KnownBytes.{append_known}

-- two pieces are one
pub append_known-append_known : (before : Option (List ℕ)) (xs ys : List ℕ) → append_known (append_known before xs) ys ≡ append_known before (xs ++ ys)
append_known-append_known None xs ys = refl
append_known-append_known (Some taken) xs ys = ap Some (append_assoc taken xs ys)

-- what stands after the first n bytes, as a slice to the end
pub rest_of : (bytes : List ℕ) (n : ℕ) → take (length bytes - n) (drop n bytes) ≡ drop n bytes
rest_of bytes n = ap (λ k. take k (drop n bytes)) (sym (length-drop n bytes)) ∙ take-length (drop n bytes)

-- after the first n bytes, m more of those after them are the first n + m
pub takes_on : (before mid after : Option (List ℕ)) (bytes rest : List ℕ) (n m : ℕ) → rest ≡ drop n bytes → mid ≡ append_known before (take n bytes) → after ≡ append_known mid (take m rest) → after ≡ append_known before (take (n + m) bytes)
takes_on before mid after bytes rest n m is_rest at_mid at_after =
    at_after ∙ ap (λ o. append_known o (take m rest)) at_mid ∙ append_known-append_known before (take n bytes) (take m rest) ∙ ap (λ r. append_known before (take n bytes ++ take m r)) is_rest ∙ ap (append_known before) (sym (take-add n m bytes))

-- there are bytes after the first n if there are more than n
pub rest-not_nil : (bytes rest : List ℕ) (n : ℕ) → rest ≡ drop n bytes → n < length bytes → rest ≢ []
rest-not_nil bytes rest n is_rest short none = omega (arith, length-drop n bytes, ap length is_rest, ap length none)

-- so many bytes of these are sent: they were taken, the count of faults didn't fall, and each byte cost at most one write
pub record IsSent (bytes : List ℕ) (sent : ℕ) (before now : Option (List ℕ)) (faults_before faults_now writes_before writes_now : ℕ) : Type 0 where
  pub within : sent ≤ length bytes
  pub taken : now ≡ append_known before (take sent bytes)
  pub faults_later : faults_before ≤ faults_now
  pub writes_later : writes_before ≤ writes_now
  pub one_write_per_byte : writes_now ≤ writes_before + sent
