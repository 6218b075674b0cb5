-- What all lines state is what is read of them, and where they state nothing is the first that has a reason.
use Rattle.std.proofs.Common.{◌≡◌, ◌⊎◌, ◌↔◌, inl, inr, ℕ, suc, ◌+◌, List, [], ◌∷◌, ◌++◌, length, Option, Some, None, Result, Ok, Err, refl, ap, ◌∙◌, arith}
use Rattle.stp_reader.specs.declared.mode.Mode.{Mode}
use Rattle.stp_reader.specs.declared.reason.Reason.{Reason}
use Rattle.stp_reader.specs.Reason.{lesser_of, least}
use Rattle.stp_reader.specs.Place.{Contents, nothing, graph, digraph, whole, Place, outside, after_end, after, after_all}
use Rattle.stp_reader.specs.Reasons.{reasons, end_reasons}
use Rattle.stp_reader.specs.Reads.{AllRight, contents_at}
use Rattle.stp_reader.specs.Judging.{at_end, at_line, then_on, stated_from}
use Rattle.stp_reader.proofs.Least.{answer}
use Rattle.stp_reader.proofs.Agreeing.{judge_answer}

-- ---- after the last line

end_gives : (p : Place) (c : Contents) → (at_end p ≡ Ok c) ↔ (contents_at p ≡ Some c)
end_gives (outside nothing) c = (λ e. absurd cc, λ e. absurd cc)
end_gives (outside (graph g)) c = (λ e. absurd cc, λ e. absurd cc)
end_gives (outside (digraph g)) c = (λ e. absurd cc, λ e. absurd cc)
end_gives (outside (whole d)) c = (λ e. (let same : d ≡ c = cc in ap Some same), λ e. (let same : d ≡ c = cc in ap Ok same))
end_gives (after_end d) c = (λ e. (let same : d ≡ c = cc in ap Some same), λ e. (let same : d ≡ c = cc in ap Ok same))
end_gives p c = (λ e. absurd cc, λ e. absurd cc)

end_refuses : (p : Place) (r : Reason) → (at_end p ≡ Err r) ↔ (least (end_reasons p) ≡ Some r)
end_refuses (outside nothing) r = (λ e. cc, λ e. cc)
end_refuses (outside (graph g)) r = (λ e. cc, λ e. cc)
end_refuses (outside (digraph g)) r = (λ e. cc, λ e. cc)
end_refuses (outside (whole c)) r = (λ e. absurd cc, λ e. absurd cc)
end_refuses (after_end c) r = (λ e. absurd cc, λ e. absurd cc)
end_refuses p r = (λ e. cc, λ e. cc)

-- ---- all lines

-- a fault at a line
abbrev pub refuse : ℕ → Reason → Result Contents (ℕ × Reason)
refuse l r = Err (l, r)

-- without a least there are none
none_least : (rs : List Reason) → least rs ≡ None → rs ≡ []
none_least [] e = refl
none_least (r ∷ rs) e = absurd (some (least rs) e)
  where
    some : (o : Option Reason) → lesser_of (Some r) o ≡ None → ⊥
    some None e = cc
    some (Some q) e = cc

-- a whole file is read
pub is_read : (mode : Mode) (number : ℕ) (p : Place) (lines : List (List (List ℕ))) (c : Contents) → stated_from mode number p lines ≡ Ok c → AllRight mode p lines × (contents_at (after_all mode p lines) ≡ Some c)
is_read mode number p [] c e = (tt, (end_gives p c).0 (at_last (at_end p) e))
  where
    at_last : (r : Result Contents Reason) → at_line number r ≡ Ok c → r ≡ Ok c
    at_last (Ok d) e = cc
    at_last (Err r) e = absurd cc
is_read mode number p (line ∷ lines) c e = by_case (least (reasons mode p line)) refl (rw (judge_answer mode p line) at e) (is_read mode (suc number) (after mode p line) lines c)
  where
    by_case : (o : Option Reason) → least (reasons mode p line) ≡ o → then_on (at_line number (answer (least (reasons mode p line)) (after mode p line))) (λ q. stated_from mode (suc number) q lines) ≡ Ok c
        → (stated_from mode (suc number) (after mode p line) lines ≡ Ok c → AllRight mode (after mode p line) lines × (contents_at (after_all mode (after mode p line) lines) ≡ Some c))
        → ((reasons mode p line ≡ []) × AllRight mode (after mode p line) lines) × (contents_at (after_all mode (after mode p line) lines) ≡ Some c)
    by_case None is e again =
        let next : stated_from mode (suc number) (after mode p line) lines ≡ Ok c = rw is at e in
        let others = again next in
        ((none_least (reasons mode p line) is, others.0), others.1)
    by_case (Some r) is e again =
        let stops : refuse number r ≡ Ok c = rw is at e in
        absurd cc

pub read_again : (mode : Mode) (number : ℕ) (p : Place) (lines : List (List (List ℕ))) (c : Contents) → AllRight mode p lines → contents_at (after_all mode p lines) ≡ Some c → stated_from mode number p lines ≡ Ok c
read_again mode number p [] c right e = ap (at_line number) ((end_gives p c).1 e)
read_again mode number p (line ∷ lines) c right e = rw (judge_answer mode p line, right.0) (read_again mode (suc number) (after mode p line) lines c right.1 e)

-- ---- the first line that has a reason

-- of lines that begin at this place, the first having this number
pub record IsBad (mode : Mode) (number : ℕ) (p : Place) (lines : List (List (List ℕ))) (l : ℕ) (r : Reason) : Type 0 where
  pub before : List (List (List ℕ))
  pub bad : List (List ℕ)
  pub others : List (List (List ℕ))
  pub split : lines ≡ before ++ bad ∷ others
  pub place : l ≡ length before + number
  pub right : AllRight mode p before
  pub why : least (reasons mode (after_all mode p before) bad) ≡ Some r

pub record IsBadAfter (mode : Mode) (number : ℕ) (p : Place) (lines : List (List (List ℕ))) (l : ℕ) (r : Reason) : Type 0 where
  pub place : l ≡ length lines + number
  pub right : AllRight mode p lines
  pub why : least (end_reasons (after_all mode p lines)) ≡ Some r

-- the parts of a fault
same_fault : (l l' : ℕ) (r r' : Reason) → refuse l r ≡ refuse l' r' → (l ≡ l') × (r ≡ r')
same_fault l l' r r' e =
    let here : ℕ × Reason = (l, r) in
    let there : ℕ × Reason = (l', r') in
    let same : here ≡ there = cc in
    (ap (λ (f : ℕ × Reason). f.0) same, ap (λ (f : ℕ × Reason). f.1) same)

-- one right line in front
in_front : (mode : Mode) (number : ℕ) (p : Place) (line : List (List ℕ)) (lines : List (List (List ℕ))) (l : ℕ) (r : Reason) → reasons mode p line ≡ [] → IsBad mode (suc number) (after mode p line) lines l r ⊎ IsBadAfter mode (suc number) (after mode p line) lines l r → IsBad mode number p (line ∷ lines) l r ⊎ IsBadAfter mode number p (line ∷ lines) l r
in_front mode number p line lines l r right (inl b) = inl (record {
  before = line ∷ b.before;
  bad = b.bad;
  others = b.others;
  split = ap (λ (ls : List (List (List ℕ))). line ∷ ls) b.split;
  place = omega (arith, b.place);
  right = (right, b.right);
  why = b.why;
})
in_front mode number p line lines l r right (inr b) = inr (record { place = omega (arith, b.place); right = (right, b.right); why = b.why })

pub is_refused_at : (mode : Mode) (number : ℕ) (p : Place) (lines : List (List (List ℕ))) (l : ℕ) (r : Reason) → stated_from mode number p lines ≡ Err (l, r) → IsBad mode number p lines l r ⊎ IsBadAfter mode number p lines l r
is_refused_at mode number p [] l r e = at_last (at_end p) refl e
  where
    at_last : (o : Result Contents Reason) → at_end p ≡ o → at_line number o ≡ Err (l, r) → IsBad mode number p [] l r ⊎ IsBadAfter mode number p [] l r
    at_last (Ok c) is e = absurd cc
    at_last (Err q) is e =
        let same = same_fault number l q r e in
        inr (record { place = omega (arith, same.0); right = tt; why = (end_refuses p r).0 (is ∙ ap (λ (x : Reason). Err x) same.1) })
is_refused_at mode number p (line ∷ lines) l r e = by_case (least (reasons mode p line)) refl (rw (judge_answer mode p line) at e) (is_refused_at mode (suc number) (after mode p line) lines l r)
  where
    by_case : (o : Option Reason) → least (reasons mode p line) ≡ o → then_on (at_line number (answer (least (reasons mode p line)) (after mode p line))) (λ q. stated_from mode (suc number) q lines) ≡ Err (l, r)
        → (stated_from mode (suc number) (after mode p line) lines ≡ Err (l, r) → IsBad mode (suc number) (after mode p line) lines l r ⊎ IsBadAfter mode (suc number) (after mode p line) lines l r)
        → IsBad mode number p (line ∷ lines) l r ⊎ IsBadAfter mode number p (line ∷ lines) l r
    by_case None is e again =
        let next : stated_from mode (suc number) (after mode p line) lines ≡ Err (l, r) = rw is at e in
        in_front mode number p line lines l r (none_least (reasons mode p line) is) (again next)
    by_case (Some q) is e again =
        let stops : refuse number q ≡ refuse l r = rw is at e in
        let same = same_fault number l q r stops in
        inl (record { before = []; bad = line; others = lines; split = refl; place = omega (arith, same.0); right = tt; why = is ∙ ap Some same.1 })

pub refused_again : (mode : Mode) (number : ℕ) (p : Place) (before : List (List (List ℕ))) (bad : List (List ℕ)) (others : List (List (List ℕ))) (l : ℕ) (r : Reason) → l ≡ length before + number → AllRight mode p before → least (reasons mode (after_all mode p before) bad) ≡ Some r → stated_from mode number p (before ++ bad ∷ others) ≡ Err (l, r)
refused_again mode number p [] bad others l r place right why =
    let same : number ≡ l = omega (arith, place) in
    rw (judge_answer mode p bad, why, same) refl
refused_again mode number p (line ∷ before) bad others l r place right why = rw (judge_answer mode p line, right.0) (refused_again mode (suc number) (after mode p line) before bad others l r (omega (arith, place)) right.1 why)

pub ended_again : (mode : Mode) (number : ℕ) (p : Place) (lines : List (List (List ℕ))) (l : ℕ) (r : Reason) → l ≡ length lines + number → AllRight mode p lines → least (end_reasons (after_all mode p lines)) ≡ Some r → stated_from mode number p lines ≡ Err (l, r)
ended_again mode number p [] l r place right why =
    let same : number ≡ l = omega (arith, place) in
    rw ((end_refuses p r).1 why, same) refl
ended_again mode number p (line ∷ lines) l r place right why = rw (judge_answer mode p line, right.0) (ended_again mode (suc number) (after mode p line) lines l r (omega (arith, place)) right.1 why)
