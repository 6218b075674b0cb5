-- What is stated of the vertices, entry by entry.
use Rattle.std.proofs.Common.{◌≡◌, ◌≢◌, ℕ, ◌+◌, ◌-◌, ◌<◌, ◌≤◌, Bool, true, false, cond, eqb, List, [], ◌∷◌, ◌++◌, length, get_or, set, map, replicate, refl, sym, ap, ◌∙◌, arith, length-set}
use Rattle.std.proofs.lemmas.Bool.Decides.{nat_tests}
use Rattle.std.proofs.lemmas.List.{same_lists, length-map, length-replicate, get_or-replicate, get_or-set_same, get_or-set_other}
use Rattle.st_model.specs.declared.need.Need.{Need}
use Rattle.st_model.specs.declared.need.Need.TheVariants.{Required, Pays}
use Rattle.st_model.specs.Lists.{total, sum_to, up_to}
use Rattle.st_model.specs.Network.{prize}
use Rattle.st_model.specs.Stated.{both, stated_need}
use Rattle.st_model.proofs.Sums.{sum_to_le, sum_to-add, sum_to_at_most, sum_to_none, length-up_to, get_or-up_to}

both_assoc : (x y z : Need) → both (both x y) z ≡ both x (both y z)
both_assoc Required y z = refl
both_assoc (Pays p) Required z = refl
both_assoc (Pays p) (Pays q) Required = refl
both_assoc (Pays p) (Pays q) (Pays r) = ap Pays (grind arith)

both_nothing : (x : Need) → both x (Pays 0) ≡ x
both_nothing Required = refl
both_nothing (Pays p) = ap Pays (grind arith)

nothing_both : (x : Need) → both (Pays 0) x ≡ x
nothing_both Required = refl
nothing_both (Pays p) = ap Pays (grind arith)

-- one more entry
pub stated_need-push : (stated : List (ℕ × Need)) (e : ℕ × Need) (v : ℕ) → stated_need (stated ++ e ∷ []) v ≡ cond (eqb e.0 v) (both (stated_need stated v) e.1) (stated_need stated v)
stated_need-push [] e v = by_case (eqb e.0 v)
  where
    by_case : (b : Bool) → cond b (both e.1 (Pays 0)) (Pays 0) ≡ cond b (both (Pays 0) e.1) (Pays 0)
    by_case true = both_nothing e.1 ∙ sym (nothing_both e.1)
    by_case false = refl
stated_need-push (s ∷ stated) e v = rw (stated_need-push stated e v) (by_case (eqb s.0 v) (eqb e.0 v))
  where
    rest : Need
    rest = stated_need stated v

    by_case : (b c : Bool) → cond b (both s.1 (cond c (both rest e.1) rest)) (cond c (both rest e.1) rest) ≡ cond c (both (cond b (both s.1 rest) rest) e.1) (cond b (both s.1 rest) rest)
    by_case true true = sym (both_assoc s.1 rest e.1)
    by_case true false = refl
    by_case false true = refl
    by_case false false = refl

-- where nothing is stated, each vertex pays nothing
pub needs_none : (n : ℕ) (needs : List Need) → needs ≡ replicate n (Pays 0) → needs ≡ map (stated_need []) (up_to n)
needs_none n needs are = are ∙ none n
  where
    none : (n : ℕ) → replicate n (Pays 0) ≡ map (stated_need []) (up_to n)
    none n = same_lists _ _ (length-replicate n (Pays 0) ∙ sym (length-map (up_to n) (stated_need []) ∙ length-up_to n)) (λ k d within.
        let short : k < n = omega (arith, length-replicate n (Pays 0)) in
        get_or-replicate n k (Pays 0) d short ∙ sym (get_or-up_to (stated_need []) n k d short))

-- and what it makes of the needs of all vertices
pub needs_push : (stated : List (ℕ × Need)) (e : ℕ × Need) (n : ℕ) (needs : List Need) (d : Need) → 1 ≤ e.0 → e.0 ≤ n → needs ≡ map (stated_need stated) (up_to n) → set needs (e.0 - 1) (both (get_or needs (e.0 - 1) d) e.1) ≡ map (stated_need (stated ++ e ∷ [])) (up_to n)
needs_push stated e n needs d low high are =
    let long : length needs ≡ n = ap length are ∙ length-map (up_to n) (stated_need stated) ∙ length-up_to n in
    same_lists _ _ (length-set needs (e.0 - 1) _ ∙ long ∙ sym (length-map (up_to n) (stated_need (stated ++ e ∷ [])) ∙ length-up_to n)) (λ k other within. at k other (omega (arith, length-set needs (e.0 - 1) (both (get_or needs (e.0 - 1) d) e.1), long)))
  where
    before : (k : ℕ) (other : Need) → k < n → get_or needs k other ≡ stated_need stated (k + 1)
    before k other within = rw are (get_or-up_to (stated_need stated) n k other within)

    at : (k : ℕ) (other : Need) → k < n → get_or (set needs (e.0 - 1) (both (get_or needs (e.0 - 1) d) e.1)) k other ≡ get_or (map (stated_need (stated ++ e ∷ [])) (up_to n)) k other
    at k other within = rw (get_or-up_to (stated_need (stated ++ e ∷ [])) n k other within, stated_need-push stated e (k + 1)) (by_case (eqb e.0 (k + 1)) refl)
      where
        by_case : (b : Bool) → eqb e.0 (k + 1) ≡ b → get_or (set needs (e.0 - 1) (both (get_or needs (e.0 - 1) d) e.1)) k other ≡ cond b (both (stated_need stated (k + 1)) e.1) (stated_need stated (k + 1))
        by_case true is =
            let here : e.0 - 1 ≡ k = grind (arith, nat_tests) in
            let long : length needs ≡ n = ap length are ∙ length-map (up_to n) (stated_need stated) ∙ length-up_to n in
            rw (here, get_or-set_same needs k _ other (omega (arith, long)), before k d within) refl
        by_case false is =
            let other_place : k ≢ e.0 - 1 = grind (arith, nat_tests) in
            get_or-set_other needs (e.0 - 1) k _ other other_place ∙ before k other within

-- prizes of vertices are prizes of entries
prize_both_le : (x y : Need) → prize (both x y) ≤ prize x + prize y
prize_both_le Required y = omega arith
prize_both_le (Pays p) Required = omega arith
prize_both_le (Pays p) (Pays q) = grind arith

pub sum_of_prizes_le : (stated : List (ℕ × Need)) (n : ℕ) → sum_to (λ v. prize (stated_need stated v)) n ≤ total (λ e. prize e.1) stated
sum_of_prizes_le [] n = omega (arith, sum_to_none n)
sum_of_prizes_le (e ∷ stated) n =
    let one : sum_to (λ v. prize (stated_need (e ∷ stated) v)) n ≤ sum_to (λ v. cond (eqb e.0 v) (prize e.1) 0 + prize (stated_need stated v)) n = sum_to_le _ _ n (λ v low high. at (eqb e.0 v) (stated_need stated v)) in
    omega (arith, one, sum_to-add (λ v. cond (eqb e.0 v) (prize e.1) 0) (λ v. prize (stated_need stated v)) n, sum_to_at_most e.0 (prize e.1) n, sum_of_prizes_le stated n)
  where
    at : (b : Bool) (rest : Need) → prize (cond b (both e.1 rest) rest) ≤ cond b (prize e.1) 0 + prize rest
    at true rest = prize_both_le e.1 rest
    at false rest = omega arith
