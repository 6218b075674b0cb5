-- The least of several reasons, and what is said where there is none.
use Rattle.std.proofs.Common.{◌≡◌, leb, Bool, true, false, cond, List, [], ◌∷◌, ◌++◌, Option, Some, None, Result, Ok, Err, refl, ap, arith}
use Rattle.std.proofs.lemmas.Bool.Decides.{nat_tests}
use Rattle.stp_reader.specs.declared.reason.Reason.{Reason}
use Rattle.stp_reader.specs.declared.reason.Reason.TheVariants.{ScaleRange}
use Rattle.stp_reader.specs.Reason.{code_of, lesser, lesser_of, least, when}
use Rattle.stp_reader.specs.Judged.{◌>>=◌, both}

-- x, where there is no reason, else the reason
abbrev pub answer : {A : Type 0} → Option Reason → A → Result A Reason
answer None x = Ok x
answer (Some r) x = Err r

-- of three reasons, the order of comparing doesn't matter
lesser_assoc : (r q s : Reason) → lesser r (lesser q s) ≡ lesser (lesser r q) s
lesser_assoc r q s = by_case (leb (code_of q) (code_of s)) (leb (code_of r) (code_of q)) (leb (code_of r) (code_of s)) refl refl refl
  where
    by_case : (qs rq rs : Bool) → leb (code_of q) (code_of s) ≡ qs → leb (code_of r) (code_of q) ≡ rq → leb (code_of r) (code_of s) ≡ rs → lesser r (lesser q s) ≡ lesser (lesser r q) s
    by_case true true true a b c = simp (a, b, c)
    by_case true true false a b c = absurd (grind (arith, nat_tests))
    by_case true false rs a b c = simp (a, b)
    by_case false true rs a b c = simp (a, b)
    by_case false false true a b c = absurd (grind (arith, nat_tests))
    by_case false false false a b c = simp (a, b, c)

lesser_of_assoc : (a b c : Option Reason) → lesser_of a (lesser_of b c) ≡ lesser_of (lesser_of a b) c
lesser_of_assoc None b c = refl
lesser_of_assoc (Some r) None c = refl
lesser_of_assoc (Some r) (Some q) None = refl
lesser_of_assoc (Some r) (Some q) (Some s) = ap Some (lesser_assoc r q s)

-- the least of two lists is the lesser of the least
pub least-append : (xs ys : List Reason) → least (xs ++ ys) ≡ lesser_of (least xs) (least ys)
least-append [] ys = refl
least-append (r ∷ xs) ys = rw (least-append xs ys) (lesser_of_assoc (Some r) (least xs) (least ys))

-- what two parts say together
pub both_answer : {A B : Type 0} (rs qs : List Reason) (x : A) (y : B) → both (answer (least rs) x) (answer (least qs) y) ≡ answer (least (rs ++ qs)) (x, y)
both_answer {A} {B} rs qs x y = rw (least-append rs qs) (by_case (least rs) (least qs))
  where
    pair : A × B
    pair = (x, y)

    by_case : (o p : Option Reason) → both (answer o x) (answer p y) ≡ answer (lesser_of o p) pair
    by_case None None = refl
    by_case None (Some q) = refl
    by_case (Some r) None = refl
    by_case (Some r) (Some q) = refl

-- what is said of it
pub then_answer : {A B : Type 0} (o : Option Reason) (x : A) (f : A → B) → (answer o x >>= λ y. Ok (f y)) ≡ answer o (f x)
then_answer None x f = refl
then_answer (Some r) x f = refl

-- ---- the reason that gives way to those of words

-- a least reason that isn't above that of a second prize
abbrev pub IsLow : Option Reason → Type 0
IsLow None = Unit {0}
IsLow (Some r) = leb (code_of r) 11 ≡ true

pub IsLow-lesser : (a b : Option Reason) → IsLow a → IsLow b → IsLow (lesser_of a b)
IsLow-lesser None b h k = k
IsLow-lesser (Some r) None h k = h
IsLow-lesser (Some r) (Some q) h k = by_case (leb (code_of r) (code_of q))
  where
    by_case : (test : Bool) → leb (code_of (cond test r q)) 11 ≡ true
    by_case true = h
    by_case false = k

scale_last : (r : Reason) → IsLow (Some r) → lesser r ScaleRange ≡ r
scale_last r low = let below : leb (code_of r) 18 ≡ true = grind (arith, nat_tests, low) in rw below refl

-- what is said where an amount may stand by its scale, and where none of these reasons holds
pub scaled_answer : {A B : Type 0} (rs : List Reason) (x : A) (test : A → Bool) (f : A → B) → IsLow (least rs)
    → (answer (least rs) x >>= λ y. cond (test y) (Err ScaleRange) (Ok (f y))) ≡ answer (least (rs ++ when (test x) ScaleRange)) (f x)
scaled_answer {A} {B} rs x test f low = rw (least-append rs (when (test x) ScaleRange)) (by_case (least rs) (test x) refl low)
  where
    by_case : (o : Option Reason) (b : Bool) → test x ≡ b → IsLow o → (answer o x >>= λ y. cond (test y) (Err ScaleRange) (Ok (f y))) ≡ answer (lesser_of o (least (when b ScaleRange))) (f x)
    by_case None true is low = rw is refl
    by_case None false is low = rw is refl
    by_case (Some r) true is low = rw (scale_last r low) refl
    by_case (Some r) false is low = refl
