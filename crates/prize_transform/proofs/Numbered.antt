-- Ends by their numbers.
use Rattle.std.proofs.Common.{◌≡◌, ◌≢◌, ℕ, suc, ◌+◌, ◌-◌, ◌<◌, ◌≤◌, Bool, true, false, eqb, List, [], ◌∷◌, length, get_or, set, get_or-set_same, get_or-set_other, map, filter, cond, inl, inr, ◌⊎◌, refl, sym, ap, ◌∙◌, subst, arith}
use Rattle.std.specs.Prelude.{All, IsTrue, nat_le, ◌==◌, if◌then◌else◌}
use Rattle.std.specs.List.{AllByRecursion}
use Rattle.std.proofs.lemmas.Bool.{cases_eq, eqb-true, eq-eqb, ne_eqb, false≢true, or_cases, or_left, or_right}
use Rattle.std.proofs.lemmas.Bool.Decides.{nat_tests}
use Rattle.std.proofs.lemmas.List.Elements.{recursion_from_All}
use Rattle.st_model.specs.Lists.{has}
use Rattle.st_model.specs.Network.{IsVertex}
use Rattle.prize_transform.specs.Twins.{numbered_from, is_end, has_end, vertex_of, Returns}

-- what is known of an end by its number
pub record IsAt (s : ℕ) (ends : List (ℕ × ℕ)) (end : ℕ) : Type 0 where
  pub above : s ≤ end
  pub below : end - s < length ends
  pub vertex : (d : ℕ × ℕ) → (get_or ends (end - s) d).1 ≡ vertex_of ends end

numbered_at : (s : ℕ) (vs : List ℕ) (end : ℕ) → IsTrue (is_end (numbered_from s vs) end) → IsAt s (numbered_from s vs) end
numbered_at s [] end h = absurd (false≢true h)
numbered_at s (v ∷ vs) end h = by_case (eqb s end) refl (numbered_at (s + 1) vs end)
  where
    here : s ≡ end → eqb s end ≡ true → IsAt s (numbered_from s (v ∷ vs)) end
    here same test =
        let none : 0 ≡ end - s = omega (arith, same) in
        record {
          above = omega (arith, same);
          below = omega (arith, same);
          vertex = λ d. rw test (subst (λ (k : ℕ). (get_or (numbered_from s (v ∷ vs)) k d).1 ≡ v) none refl);
        }

    later : eqb s end ≡ false → IsAt (s + 1) (numbered_from (s + 1) vs) end → IsAt s (numbered_from s (v ∷ vs)) end
    later test a =
        let next : suc (end - (s + 1)) ≡ end - s = omega (arith, a.above) in
        record {
          above = omega (arith, a.above);
          below = omega (arith, a.below, a.above);
          vertex = λ d. rw test (subst (λ (k : ℕ). (get_or (numbered_from s (v ∷ vs)) k d).1 ≡ vertex_of (numbered_from (s + 1) vs) end) next (a.vertex d));
        }

    by_case : (b : Bool) → eqb s end ≡ b → (IsTrue (is_end (numbered_from (s + 1) vs) end) → IsAt (s + 1) (numbered_from (s + 1) vs) end) → IsAt s (numbered_from s (v ∷ vs)) end
    by_case true e rest = here (eqb-true s end e) e
    by_case false e rest = later e (rest (rw e at h))

-- an end of a list that is numbered
pub end_at : (s : ℕ) (ends : List (ℕ × ℕ)) (end : ℕ) → ends ≡ numbered_from s (map (λ (e : ℕ × ℕ). e.1) ends) → IsTrue (is_end ends end) → IsAt s ends end
end_at s ends end same h = subst (λ (es : List (ℕ × ℕ)). IsAt s es end) (sym same) (numbered_at s (map (λ (e : ℕ × ℕ). e.1) ends) end (subst (λ (es : List (ℕ × ℕ)). IsTrue (is_end es end)) same h))

-- a vertex that has an end is in range
pub with_end : (n : ℕ) (ends : List (ℕ × ℕ)) (q : ℕ) → All (λ e. IsVertex n e.1) ends → IsTrue (has_end ends q) → IsVertex n q
with_end n ends q all h = go ends (recursion_from_All (λ (e : ℕ × ℕ). IsVertex n e.1) ends all) h
  where
    go : (es : List (ℕ × ℕ)) → AllByRecursion (λ (e : ℕ × ℕ). IsVertex n e.1) es → IsTrue (has_end es q) → IsVertex n q
    go [] r h = absurd (false≢true h)
    go (e ∷ es) r h =
        elim (or_cases (eqb e.1 q) (has_end es q) h) [
          | inl same ↦ subst (IsVertex n) (eqb-true e.1 q same) r.0
          | inr there ↦ go es r.1 there
        ]

pub end_vertex : (n : ℕ) (ends : List (ℕ × ℕ)) (end : ℕ) → All (λ e. IsVertex n e.1) ends → IsTrue (is_end ends end) → IsVertex n (vertex_of ends end)
end_vertex n ends end all h = go ends (recursion_from_All (λ (e : ℕ × ℕ). IsVertex n e.1) ends all) h
  where
    go : (es : List (ℕ × ℕ)) → AllByRecursion (λ (e : ℕ × ℕ). IsVertex n e.1) es → IsTrue (is_end es end) → IsVertex n (vertex_of es end)
    go [] r h = absurd (false≢true h)
    go (e ∷ es) r h = by_case (eqb e.0 end) refl (go es r.1)
      where
        by_case : (b : Bool) → eqb e.0 end ≡ b → (IsTrue (is_end es end) → IsVertex n (vertex_of es end)) → IsVertex n (cond b e.1 (vertex_of es end))
        by_case true f rest = r.0
        by_case false f rest = rest (rw f at h)

-- a filter keeps a member that passes
pub has-filter : (p : ℕ → Bool) (xs : List ℕ) (v : ℕ) → IsTrue (has xs v) → p v ≡ true → IsTrue (has (filter p xs) v)
has-filter p [] v there passes = absurd (false≢true there)
has-filter p (x ∷ xs) v there passes = by_case (λ (h : IsTrue (has xs v)). has-filter p xs v h passes) (or_cases (eqb x v) (has xs v) there)
  where
    more : (b : Bool) → IsTrue (has (filter p xs) v) → IsTrue (has (cond b (x ∷ filter p xs) (filter p xs)) v)
    more true h = or_right (eqb x v) (has (filter p xs) v) h
    more false h = h

    by_case : (IsTrue (has xs v) → IsTrue (has (filter p xs) v)) → IsTrue (eqb x v) ⊎ IsTrue (has xs v) → IsTrue (has (filter p (x ∷ xs)) v)
    by_case rest (inl same) = let test : p x ≡ true = ap p (eqb-true x v same) ∙ passes in rw test (or_left (eqb x v) (has (filter p xs) v) same)
    by_case rest (inr later) = more (p x) (rest later)

pub within_range : (n v : ℕ) → IsVertex n v → nat_le v n ≡ true
within_range n v range = let few = range.1 in grind (arith, nat_tests)

-- so much more is left where one number is written
pub given_back : (n : ℕ) (ends : List (ℕ × ℕ)) (left : List ℕ) (q y old : ℕ) → q < length left → old ≡ get_or left q 0
    → Returns (record { n = n; ends = ends; left = left }) (record { n = n; ends = ends; left = set left q (old + y) }) q y
given_back n ends left q y old below is = record { count = refl; ends = refl; left = λ v. by_case v (cases_eq q v) }
  where
    by_case : (v : ℕ) → (q ≡ v) ⊎ (q ≢ v) → get_or (set left q (old + y)) v 0 ≡ (if v == q then get_or left q 0 + y else get_or left v 0)
    by_case v (inl same) = subst (λ (w : ℕ). get_or (set left q (old + y)) w 0 ≡ (if w == q then get_or left q 0 + y else get_or left w 0)) same
        (rw (get_or-set_same left q (old + y) 0 below, eq-eqb q q refl) (ap (λ (k : ℕ). k + y) is))
    by_case v (inr differ) = rw (get_or-set_other left q v (old + y) 0 (λ e. differ (sym e)), ne_eqb v q (λ e. differ (sym e))) refl
