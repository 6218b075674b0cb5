-- Reading vertices one after the other, as a loop does.
use Rattle.std.specs.Prelude.{◌==◌}
use Rattle.std.proofs.Common.{◌≡◌, ℕ, suc, length, true, false, ◌-◌, ◌+◌, ◌≤◌, ◌<◌, List, [], ◌∷◌, ◌++◌, Option, Some, None, refl, sym, ap, ◌∙◌, append_assoc, arith}
use Rattle.std.proofs.lemmas.List.{append-nil}
use Rattle.log_format.specs.declared.fault.LineError.{LineError}
use Rattle.log_format.specs.declared.fault.LineError.TheVariants.{BadLine, NoMemory}
use Rattle.log_format.specs.Reading.{Fails, number_at, only, vertices_at}
use Rattle.plain_text.specs.Steps.{◌>>=◌}

-- what was read before, and what is still read
abbrev pub with_front : List ℕ → Option (List ℕ) → Option (List ℕ)
with_front front read = read >>= λ xs. Some (front ++ xs)

-- what is read next goes after what was read before
regroup : (front : List ℕ) (first : ℕ) (read : Option (List ℕ)) → with_front front (read >>= λ xs. Some (first ∷ xs)) ≡ with_front (front ++ first ∷ []) read
regroup front first (Some xs) = ap (λ (r : List ℕ). Some r) (simp append_assoc)
regroup front first None = refl

-- one more vertex was read
pub goes_on : (front : List ℕ) (count i : ℕ) (bytes : List ℕ) (first : ℕ) (after : List ℕ) (all : Option (List ℕ)) → i < count → number_at 1 1000000 bytes ≡ Some (first, after)
    → with_front front (vertices_at (count - i) bytes) ≡ all → with_front (front ++ first ∷ []) (vertices_at (count - (i + 1)) after) ≡ all
unfolding vertices_at
goes_on front count i bytes first after all lt h so_far =
    let k : count - i ≡ suc (count - (i + 1)) = omega arith in
    let one : with_front front (vertices_at (count - i) bytes) ≡ with_front (front ++ first ∷ []) (vertices_at (count - (i + 1)) after) =
    rw (k, h) (regroup front first (vertices_at (count - (i + 1)) after)) in
    sym one ∙ so_far

-- what is no vertex ends the reading
pub ends : (e : LineError) (front : List ℕ) (count i : ℕ) (bytes : List ℕ) (all : Option (List ℕ)) → i < count → Fails e (number_at 1 1000000 bytes)
    → with_front front (vertices_at (count - i) bytes) ≡ all → Fails e all
unfolding vertices_at
ends NoMemory front count i bytes all lt h so_far = tt
ends BadLine front count i bytes all lt h so_far =
    let k : count - i ≡ suc (count - (i + 1)) = omega arith in
    let one : with_front front (vertices_at (count - i) bytes) ≡ None = rw (k, h) refl in
    sym so_far ∙ one

-- all were read, and what is left decides
is_done : (front : List ℕ) (count i : ℕ) (bytes : List ℕ) (all : Option (List ℕ)) → count ≤ i → with_front front (vertices_at (count - i) bytes) ≡ all → all ≡ with_front front (only [] bytes)
unfolding vertices_at
is_done front count i bytes all le so_far =
    let k : count - i ≡ 0 = omega arith in
    let one : with_front front (vertices_at (count - i) bytes) ≡ with_front front (only [] bytes) = rw k refl in
    sym so_far ∙ one

-- all were read, and something is left
pub too_long : (front : List ℕ) (count i : ℕ) (bytes : List ℕ) (all : Option (List ℕ)) → count ≤ i → (length bytes == 0) ≡ false → with_front front (vertices_at (count - i) bytes) ≡ all → all ≡ None
too_long front count i bytes all le some so_far = is_done front count i bytes all le so_far ∙ rw some refl

-- all were read, and nothing is left
pub all_read : (front : List ℕ) (count i : ℕ) (bytes : List ℕ) (all : Option (List ℕ)) → count ≤ i → (length bytes == 0) ≡ true
    → with_front front (vertices_at (count - i) bytes) ≡ all → all ≡ Some front
all_read front count i bytes all le none so_far = is_done front count i bytes all le so_far ∙ rw none (ap (λ (r : List ℕ). Some r) (append-nil front))
