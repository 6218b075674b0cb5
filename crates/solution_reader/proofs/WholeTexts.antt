-- What all lines state is what is read of them, and where they state nothing is the first that has a reason.
use Rattle.std.proofs.Common.{◌≡◌, ◌⊎◌, ◌↔◌, inl, inr, ℕ, suc, ◌+◌, List, [], ◌∷◌, ◌++◌, length, Option, Some, None, Result, Ok, Err, refl, ap, ◌∙◌, arith}
use Rattle.solution_reader.specs.declared.reason.SolReason.{SolReason}
use Rattle.solution_reader.specs.Place.{Final, Got, Whole, whole_of, Place, outside, after_end, after, after_all}
use Rattle.solution_reader.specs.Reasons.{missing, reason, end_reason}
use Rattle.solution_reader.specs.Reads.{AllRight, whole_at}
use Rattle.solution_reader.specs.Judging.{whole, at_end, at_line, then_on, stated_from}
use Rattle.solution_reader.proofs.Agreeing.{answer, judge_answer}

-- ---- after the last line

whole_gives : (got : Got) (f : Option Final) (w : Whole) → (whole got f ≡ Ok w) ↔ (whole_of got f ≡ Some w)
whole_gives got None w = (λ e. absurd cc, λ e. absurd cc)
whole_gives got (Some f) w =
    let here : Whole = record { primal = got.primal; final = f } in
    (λ e. (let same : here ≡ w = cc in ap Some same), λ e. (let same : here ≡ w = cc in ap Ok same))

whole_refuses : (got : Got) (f : Option Final) (r : SolReason) → (whole got f ≡ Err r) ↔ (missing f ≡ Some r)
whole_refuses got None r = (λ e. cc, λ e. cc)
whole_refuses got (Some f) r = (λ e. absurd cc, λ e. absurd cc)

end_gives : (p : Place) (w : Whole) → (at_end p ≡ Ok w) ↔ (whole_at p ≡ Some w)
end_gives (outside got) w = whole_gives got got.final w
end_gives (after_end v) w = (λ e. (let same : v ≡ w = cc in ap Some same), λ e. (let same : v ≡ w = cc in ap Ok same))
end_gives p w = (λ e. absurd cc, λ e. absurd cc)

end_refuses : (p : Place) (r : SolReason) → (at_end p ≡ Err r) ↔ (end_reason p ≡ Some r)
end_refuses (outside got) r = whole_refuses got got.final r
end_refuses (after_end w) r = (λ e. absurd cc, λ e. absurd cc)
end_refuses p r = (λ e. cc, λ e. cc)

-- ---- all lines

-- a fault at a line
abbrev refuse : ℕ → SolReason → Result Whole (ℕ × SolReason)
refuse l r = Err (l, r)

-- a whole text is read
pub is_read : (number : ℕ) (p : Place) (lines : List (List (List ℕ))) (w : Whole) → stated_from number p lines ≡ Ok w → AllRight p lines × (whole_at (after_all p lines) ≡ Some w)
is_read number p [] w e = (tt, (end_gives p w).0 (at_last (at_end p) e))
  where
    at_last : (r : Result Whole SolReason) → at_line number r ≡ Ok w → r ≡ Ok w
    at_last (Ok v) e = cc
    at_last (Err r) e = absurd cc
is_read number p (line ∷ lines) w e = by_case (reason p line) refl (rw (judge_answer p line) at e) (is_read (suc number) (after p line) lines w)
  where
    by_case : (o : Option SolReason) → reason p line ≡ o → then_on (at_line number (answer (reason p line) (after p line))) (λ q. stated_from (suc number) q lines) ≡ Ok w
        → (stated_from (suc number) (after p line) lines ≡ Ok w → AllRight (after p line) lines × (whole_at (after_all (after p line) lines) ≡ Some w))
        → ((reason p line ≡ None) × AllRight (after p line) lines) × (whole_at (after_all (after p line) lines) ≡ Some w)
    by_case None is e again =
        let next : stated_from (suc number) (after p line) lines ≡ Ok w = rw is at e in
        let others = again next in
        ((is, others.0), others.1)
    by_case (Some r) is e again =
        let stops : refuse number r ≡ Ok w = rw is at e in
        absurd cc

pub read_again : (number : ℕ) (p : Place) (lines : List (List (List ℕ))) (w : Whole) → AllRight p lines → whole_at (after_all p lines) ≡ Some w → stated_from number p lines ≡ Ok w
read_again number p [] w right e = ap (at_line number) ((end_gives p w).1 e)
read_again number p (line ∷ lines) w right e = rw (judge_answer p line, right.0) (read_again (suc number) (after p line) lines w right.1 e)

-- ---- the first line that has a reason

-- of lines that begin at this place, the first having this number
pub record IsBad (number : ℕ) (p : Place) (lines : List (List (List ℕ))) (l : ℕ) (r : SolReason) : Type 0 where
  pub before : List (List (List ℕ))
  pub bad : List (List ℕ)
  pub others : List (List (List ℕ))
  pub split : lines ≡ before ++ bad ∷ others
  pub place : l ≡ length before + number
  pub right : AllRight p before
  pub why : reason (after_all p before) bad ≡ Some r

pub record IsBadAfter (number : ℕ) (p : Place) (lines : List (List (List ℕ))) (l : ℕ) (r : SolReason) : Type 0 where
  pub place : l ≡ length lines + number
  pub right : AllRight p lines
  pub why : end_reason (after_all p lines) ≡ Some r

-- the parts of a fault
same_fault : (l l' : ℕ) (r r' : SolReason) → refuse l r ≡ refuse l' r' → (l ≡ l') × (r ≡ r')
same_fault l l' r r' e =
    let here : ℕ × SolReason = (l, r) in
    let there : ℕ × SolReason = (l', r') in
    let same : here ≡ there = cc in
    (ap (λ (f : ℕ × SolReason). f.0) same, ap (λ (f : ℕ × SolReason). f.1) same)

-- one right line in front
in_front : (number : ℕ) (p : Place) (line : List (List ℕ)) (lines : List (List (List ℕ))) (l : ℕ) (r : SolReason) → reason p line ≡ None
    → IsBad (suc number) (after p line) lines l r ⊎ IsBadAfter (suc number) (after p line) lines l r → IsBad number p (line ∷ lines) l r ⊎ IsBadAfter number p (line ∷ lines) l r
in_front number p line lines l r right (inl b) = inl (record {
  before = line ∷ b.before;
  bad = b.bad;
  others = b.others;
  split = ap (λ (ls : List (List (List ℕ))). line ∷ ls) b.split;
  place = omega (arith, b.place);
  right = (right, b.right);
  why = b.why;
})
in_front number p line lines l r right (inr b) = inr (record { place = omega (arith, b.place); right = (right, b.right); why = b.why })

pub is_refused_at : (number : ℕ) (p : Place) (lines : List (List (List ℕ))) (l : ℕ) (r : SolReason) → stated_from number p lines ≡ Err (l, r)
    → IsBad number p lines l r ⊎ IsBadAfter number p lines l r
is_refused_at number p [] l r e = at_last (at_end p) refl e
  where
    at_last : (o : Result Whole SolReason) → at_end p ≡ o → at_line number o ≡ Err (l, r) → IsBad number p [] l r ⊎ IsBadAfter number p [] l r
    at_last (Ok w) is e = absurd cc
    at_last (Err q) is e =
        let same = same_fault number l q r e in
        inr (record { place = omega (arith, same.0); right = tt; why = (end_refuses p r).0 (is ∙ ap (λ (x : SolReason). Err x) same.1) })
is_refused_at number p (line ∷ lines) l r e = by_case (reason p line) refl (rw (judge_answer p line) at e) (is_refused_at (suc number) (after p line) lines l r)
  where
    by_case : (o : Option SolReason) → reason p line ≡ o → then_on (at_line number (answer (reason p line) (after p line))) (λ q. stated_from (suc number) q lines) ≡ Err (l, r)
        → (stated_from (suc number) (after p line) lines ≡ Err (l, r) → IsBad (suc number) (after p line) lines l r ⊎ IsBadAfter (suc number) (after p line) lines l r)
        → IsBad number p (line ∷ lines) l r ⊎ IsBadAfter number p (line ∷ lines) l r
    by_case None is e again =
        let next : stated_from (suc number) (after p line) lines ≡ Err (l, r) = rw is at e in
        in_front number p line lines l r is (again next)
    by_case (Some q) is e again =
        let stops : refuse number q ≡ refuse l r = rw is at e in
        let same = same_fault number l q r stops in
        inl (record { before = []; bad = line; others = lines; split = refl; place = omega (arith, same.0); right = tt; why = is ∙ ap Some same.1 })

pub refused_again : (number : ℕ) (p : Place) (before : List (List (List ℕ))) (bad : List (List ℕ)) (others : List (List (List ℕ))) (l : ℕ) (r : SolReason) → l ≡ length before + number
    → AllRight p before → reason (after_all p before) bad ≡ Some r → stated_from number p (before ++ bad ∷ others) ≡ Err (l, r)
refused_again number p [] bad others l r place right why =
    let same : number ≡ l = omega (arith, place) in
    rw (judge_answer p bad, why, same) refl
refused_again number p (line ∷ before) bad others l r place right why = rw (judge_answer p line, right.0) (refused_again (suc number) (after p line) before bad others l r (omega
    (arith, place)) right.1 why)

pub ended_again : (number : ℕ) (p : Place) (lines : List (List (List ℕ))) (l : ℕ) (r : SolReason) → l ≡ length lines + number → AllRight p lines → end_reason (after_all p lines) ≡ Some r
    → stated_from number p lines ≡ Err (l, r)
ended_again number p [] l r place right why =
    let same : number ≡ l = omega (arith, place) in
    rw ((end_refuses p r).1 why, same) refl
ended_again number p (line ∷ lines) l r place right why = rw (judge_answer p line, right.0) (ended_again (suc number) (after p line) lines l r (omega (arith, place)) right.1 why)
