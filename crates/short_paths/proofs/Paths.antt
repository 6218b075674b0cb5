-- The paths to settled vertices, as one more is settled and as they are read.
use Rattle.std.proofs.Common.{◌≡◌, ℕ, zero, suc, ◌+◌, ◌<◌, ◌≤◌, Bool, true, false, cond, nat_lt, List, [], ◌∷◌, ◌++◌, length, get_or, fold, slice_get, Some, refl, sym, ap, ◌∙◌, arith, length-append}
use Rattle.std.proofs.lemmas.Bool.Decides.{nat_tests}
use Rattle.std.proofs.lemmas.List.{get_or_append_left, get_or_past}
use Rattle.short_paths.specs.declared.settled.Settled.{Settled}
use Rattle.short_paths.specs.Searching.{paths_of}

-- the paths with one more
abbrev one_more : List (List ℕ) → Settled → List (List ℕ)
one_more paths s = paths ++ (get_or paths s.before [] ++ s.vertex ∷ []) ∷ []

-- the same from paths that are there
abbrev paths_on : List (List ℕ) → List Settled → List (List ℕ)
paths_on paths settled = fold one_more paths settled

length-paths_on : (paths : List (List ℕ)) (settled : List Settled) → length (paths_on paths settled) ≡ length paths + length settled
length-paths_on paths [] = omega arith
length-paths_on paths (s ∷ settled) = let rest = length-paths_on (one_more paths s) settled in omega (arith, length-append paths ((get_or paths s.before [] ++ s.vertex ∷ []) ∷ []))

pub length-paths_of : (settled : List Settled) → length (paths_of settled) ≡ length settled
length-paths_of settled = let long = length-paths_on [] settled in omega arith

-- paths that are there stay
kept : (paths : List (List ℕ)) (settled : List Settled) (k : ℕ) → k < length paths → get_or (paths_on paths settled) k [] ≡ get_or paths k []
kept paths [] k h = refl
kept paths (s ∷ settled) k h = kept (one_more paths s) settled k (let long = length-append paths ((get_or paths s.before [] ++ s.vertex ∷ []) ∷ []) in omega arith) ∙ get_or_append_left paths _ [] k h

paths_on-append : (paths : List (List ℕ)) (xs ys : List Settled) → paths_on paths (xs ++ ys) ≡ paths_on (paths_on paths xs) ys
paths_on-append paths [] ys = refl
paths_on-append paths (x ∷ xs) ys = paths_on-append (one_more paths x) xs ys

pub paths_of-push : (settled : List Settled) (s : Settled) → paths_of (settled ++ s ∷ []) ≡ paths_of settled ++ (get_or (paths_of settled) s.before [] ++ s.vertex ∷ []) ∷ []
paths_of-push settled s = paths_on-append [] settled (s ∷ [])

-- what stands last
pub at_end : (xs : List (List ℕ)) (k : ℕ) → length xs ≡ k → (x : List ℕ) → get_or (xs ++ x ∷ []) k [] ≡ x
at_end [] zero e x = refl
at_end [] (suc k) e x = absurd (omega arith)
at_end (y ∷ xs) zero e x = absurd (omega arith)
at_end (y ∷ xs) (suc k) e x = at_end xs k (omega arith) x

-- a list as what is before a place, what is there, and the rest
split_at : (settled : List Settled) (k : ℕ) (s : Settled) → slice_get settled k ≡ Some s → (front back : List Settled) × (settled ≡ front ++ s ∷ back) × (length front ≡ k)
split_at [] k s at = absurd (let clash : ⊥ = cc in clash)
split_at (x ∷ settled) zero s at = let here : x ≡ s = cc in ([], settled, (λ j. here j ∷ settled), refl)
split_at (x ∷ settled) (suc k) s at = let rest = split_at settled k s at in (x ∷ rest.0, rest.1, ap (λ l. x ∷ l) rest.2, ap suc rest.3)

-- the path at a place is the one before it and its vertex
pub path_at : (settled : List Settled) (k : ℕ) (s : Settled) → slice_get settled k ≡ Some s → get_or (paths_of settled) k [] ≡ cond (nat_lt s.before k) (get_or (paths_of settled) s.before []) [] ++ s.vertex ∷ []
path_at settled k s at =
    let split = split_at settled k s at in
    let front = split.0 in
    let back = split.1 in
    let all : paths_of settled ≡ paths_on (one_more (paths_of front) s) back = ap paths_of split.2 ∙ paths_on-append [] front (s ∷ back) in
    let long : length (paths_of front) ≡ k = length-paths_of front ∙ split.3 in
    let more = length-append (paths_of front) ((get_or (paths_of front) s.before [] ++ s.vertex ∷ []) ∷ []) in
    let here : get_or (paths_of settled) k [] ≡ get_or (paths_of front) s.before [] ++ s.vertex ∷ [] = ap (λ ps. get_or ps k []) all ∙ kept (one_more (paths_of front) s) back k (omega arith) ∙ at_end (paths_of front) k long (get_or (paths_of front) s.before [] ++ s.vertex ∷ []) in
    here ∙ ap (λ p. p ++ s.vertex ∷ []) (by_case front back all long more (nat_lt s.before k) refl)
  where
    by_case : (front back : List Settled) → paths_of settled ≡ paths_on (one_more (paths_of front) s) back → length (paths_of front) ≡ k → length (one_more (paths_of front) s) ≡ length (paths_of front) + 1 → (b : Bool) → nat_lt s.before k ≡ b → get_or (paths_of front) s.before [] ≡ cond b (get_or (paths_of settled) s.before []) []
    by_case front back all long more true is =
        let less : s.before < k = grind (arith, nat_tests) in
        sym (ap (λ ps. get_or ps s.before []) all ∙ kept (one_more (paths_of front) s) back s.before (omega arith) ∙ get_or_append_left (paths_of front) _ [] s.before (omega arith))
    by_case front back all long more false is =
        let past : k ≤ s.before = grind (arith, nat_tests) in
        get_or_past (paths_of front) s.before [] (omega arith)
