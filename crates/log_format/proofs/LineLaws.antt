-- Each kind of line is read just where it is spelled so.
use Rattle.std.proofs.Common.{◌≡◌, ℕ, zero, suc, ◌+◌, ◌^◌, ◌<◌, ◌≤◌, true, eqb, List, [], ◌∷◌, ◌++◌, length, Option, Some, refl, sym, ap, subst, ◌∙◌, arith}
use Rattle.std.specs.Prelude.{codes, ⊤, nat_lt}
use Rattle.std.specs.List.{flat_map, AllByRecursion}
use Rattle.std.specs.Fmt.{decimal}
use Rattle.std.specs.Str.{bytes_eq}
use Rattle.std.proofs.lemmas.Bool.{eqb-true, and_parts}
use Rattle.std.proofs.lemmas.Bool.Decides.{nat_tests}
use Rattle.std.proofs.lemmas.List.{nil_from_length}
use Rattle.std.proofs.lemmas.Option.{cond_some}
use Rattle.std.proofs.lemmas.Slice.Eq.{bytes_eq-Decides}
use Rattle.cut_packing.specs.declared.cut.Cut.{Cut}
use Rattle.log_format.specs.Text.{spaced, words, cut_line}
use Rattle.log_format.specs.Reading.{after, word_at, number_at, only, number_of, pair_of, vertices_at, counted_at, ascends, set_at, cut_head_of, cut_of, wall_of, most}
use Rattle.plain_text.specs.Numbers.{number}
use Rattle.plain_text.proofs.Steps.{step_some}
use Rattle.log_format.proofs.Cut.{after_takes, after_again, begins_word, word_takes, word_again}
use Rattle.plain_text.proofs.Lacking.{lacks-decimal}
use Rattle.plain_text.proofs.Numerals.{number_takes, number_again}

-- a test finds x just where the line is the spelling of x and x fits
pub record Judges {X : Type 0} (judge : List ℕ → Option X) (spell : X → List ℕ) (Fits : X → Type 0) : Type 0 where
  pub takes : (line : List ℕ) (x : X) → judge line ≡ Some x → Fits x × (line ≡ spell x)
  pub again : (x : X) → Fits x → judge (spell x) ≡ Some x

-- bytes are equal to themselves, as a test
pub same_bytes : (xs : List ℕ) → bytes_eq xs xs ≡ true
same_bytes xs = (bytes_eq-Decides xs xs).1 refl

-- bytes that pass the test are equal
pub bytes_are : (xs ys : List ℕ) → bytes_eq xs ys ≡ true → xs ≡ ys
bytes_are xs ys e = (bytes_eq-Decides xs ys).0 e

-- a number in range
abbrev pub IsBetween : ℕ → ℕ → ℕ → Type 0
IsBetween low high n = (low ≤ n) × (n ≤ high)

-- numbers with spaces before them begin a word, or are nothing
pub begins_spaced : (ns : List ℕ) → begins_word (flat_map spaced ns) ≡ true
begins_spaced [] = refl
begins_spaced (n ∷ ns) = refl

-- ---- numbers

-- a number that was read is written so, after a space
pub number_at_takes : (low high : ℕ) (bytes : List ℕ) (x : ℕ × List ℕ) → high < 2 ^ 64 → number_at low high bytes ≡ Some x → IsBetween low high x.0 × (bytes ≡ spaced x.0 ++ x.1)
unfolding number_at
number_at_takes low high bytes x lt e =
    let a = step_some (after (32 ∷ []) bytes) _ x e in
    let b = step_some (number low high (word_at a.0).0) _ x a.2 in
    let made : ℕ × List ℕ = (b.0, (word_at a.0).1) in
    let same : made ≡ x = cc in
    let t = number_takes low high (word_at a.0).0 b.0 lt b.1 in
    let front : bytes ≡ 32 ∷ a.0 = after_takes (32 ∷ []) bytes a.0 a.1 in
    let parts : a.0 ≡ decimal b.0 ++ (word_at a.0).1 = word_takes a.0 ∙ ap (λ (w : List ℕ). w ++ (word_at a.0).1) t.1 in
    subst (λ (y : ℕ × List ℕ). IsBetween low high y.0 × (bytes ≡ spaced y.0 ++ y.1)) same (t.0, front ∙ ap (λ (r : List ℕ). 32 ∷ r) parts)

-- a number that is written after a space is read
pub number_at_again : (low high n : ℕ) (rest : List ℕ) → high < 2 ^ 64 → IsBetween low high n → begins_word rest ≡ true → number_at low high (spaced n ++ rest) ≡ Some (n, rest)
unfolding number_at
number_at_again low high n rest lt fits ends =
    rw (word_again (decimal n) rest (lacks-decimal 32 n (omega arith)) ends, number_again low high n lt fits) refl

-- x was given, and nothing was left
pub only_takes : {X : Type 0} (x : X) (rest : List ℕ) (y : X) → only x rest ≡ Some y → (rest ≡ []) × (x ≡ y)
only_takes x rest y e = let g = cond_some (eqb (length rest) 0) x y e in (nil_from_length rest (eqb-true _ _ g.0), g.1)

-- ---- a keyword and a number or two

-- a line that was read is its keyword and the number
number_of_takes : (keyword : List ℕ) (low high : ℕ) (line : List ℕ) (n : ℕ) → high < 2 ^ 64 → number_of keyword low high line ≡ Some n → IsBetween low high n × (line ≡ words keyword (n ∷ []))
unfolding number_of
number_of_takes keyword low high line n lt e =
    let a = step_some (after keyword line) _ n e in
    let b = step_some (number_at low high a.0) _ n a.2 in
    let o = only_takes b.0.0 b.0.1 n b.2 in
    let t = number_at_takes low high a.0 b.0 lt b.1 in
    let spelled : line ≡ words keyword (b.0.0 ∷ []) = after_takes keyword line a.0 a.1 ∙ ap (λ (r : List ℕ). keyword ++ r) (t.1 ∙ ap (λ (r : List ℕ). spaced b.0.0 ++ r) o.0) in
    subst (λ (k : ℕ). IsBetween low high k × (line ≡ words keyword (k ∷ []))) o.1 (t.0, spelled)

-- a keyword and a number in range are read
number_of_again : (keyword : List ℕ) (low high n : ℕ) → high < 2 ^ 64 → IsBetween low high n → number_of keyword low high (words keyword (n ∷ [])) ≡ Some n
unfolding number_of
number_of_again keyword low high n lt fits = rw (after_again keyword (spaced n ++ []), number_at_again low high n [] lt fits refl) refl

pub number_of_judges : (keyword : List ℕ) (low high : ℕ) → high < 2 ^ 64 → Judges (number_of keyword low high) (λ n. words keyword (n ∷ [])) (IsBetween low high)
number_of_judges keyword low high lt = record {
  takes = λ line n e. number_of_takes keyword low high line n lt e;
  again = λ n fits. number_of_again keyword low high n lt fits;
}

-- two numbers, each in its range
abbrev pub AreBetween : ℕ → ℕ → ℕ → ℕ → ℕ × ℕ → Type 0
AreBetween low high low' high' p = IsBetween low high p.0 × IsBetween low' high' p.1

-- a keyword and two numbers
abbrev pub pair_line : List ℕ → ℕ × ℕ → List ℕ
pair_line keyword p = words keyword (p.0 ∷ p.1 ∷ [])

-- a line that was read is its keyword and the two numbers
pair_takes : (keyword : List ℕ) (low high low' high' : ℕ) (line : List ℕ) (p : ℕ × ℕ) → high < 2 ^ 64 → high' < 2 ^ 64 → pair_of keyword low high low' high' line ≡ Some p → AreBetween low high low' high' p × (line ≡ pair_line keyword p)
unfolding pair_of
pair_takes keyword low high low' high' line p lt lt' e =
    let a = step_some (after keyword line) _ p e in
    let m = step_some (number_at low high a.0) _ p a.2 in
    let n = step_some (number_at low' high' m.0.1) _ p m.2 in
    let made : ℕ × ℕ = (m.0.0, n.0.0) in
    let o = only_takes made n.0.1 p n.2 in
    let t = number_at_takes low high a.0 m.0 lt m.1 in
    let u = number_at_takes low' high' m.0.1 n.0 lt' n.1 in
    let second : m.0.1 ≡ spaced n.0.0 ++ [] = u.1 ∙ ap (λ (r : List ℕ). spaced n.0.0 ++ r) o.0 in
    let spelled : line ≡ pair_line keyword made = after_takes keyword line a.0 a.1 ∙ ap (λ (r : List ℕ). keyword ++ r) (t.1 ∙ ap (λ (r : List ℕ). spaced m.0.0 ++ r) second) in
    subst (λ (q : ℕ × ℕ). AreBetween low high low' high' q × (line ≡ pair_line keyword q)) o.1 ((t.0, u.0), spelled)

-- a keyword and two numbers in range are read
pair_again : (keyword : List ℕ) (low high low' high' : ℕ) (p : ℕ × ℕ) → high < 2 ^ 64 → high' < 2 ^ 64 → AreBetween low high low' high' p → pair_of keyword low high low' high' (pair_line keyword p) ≡ Some p
unfolding pair_of
pair_again keyword low high low' high' p lt lt' fits =
    rw (after_again keyword (spaced p.0 ++ (spaced p.1 ++ [])), number_at_again low high p.0 (spaced p.1 ++ []) lt fits.0 refl, number_at_again low' high' p.1 [] lt' fits.1 refl) refl

pub pair_judges : (keyword : List ℕ) (low high low' high' : ℕ) → high < 2 ^ 64 → high' < 2 ^ 64 → Judges (pair_of keyword low high low' high') (pair_line keyword) (AreBetween low high low' high')
pair_judges keyword low high low' high' lt lt' = record {
  takes = λ line p e. pair_takes keyword low high low' high' line p lt lt' e;
  again = λ p fits. pair_again keyword low high low' high' p lt lt' fits;
}

-- ---- vertices

-- so many vertices that were read are written so
vertices_take : (count : ℕ) (bytes vs : List ℕ) → vertices_at count bytes ≡ Some vs → (length vs ≡ count) × AllByRecursion (IsBetween 1 1000000) vs × (bytes ≡ flat_map spaced vs)
unfolding vertices_at
vertices_take zero bytes vs e =
    let o = only_takes [] bytes vs e in
    subst (λ (s : List ℕ). (length s ≡ 0) × AllByRecursion (IsBetween 1 1000000) s × (bytes ≡ flat_map spaced s)) o.1 (refl, tt, o.0)
vertices_take (suc count) bytes vs e =
    let v = step_some (number_at 1 1000000 bytes) _ vs e in
    let others = step_some (vertices_at count v.0.1) _ vs v.2 in
    let made : List ℕ = v.0.0 ∷ others.0 in
    let same : made ≡ vs = cc in
    let t = number_at_takes 1 1000000 bytes v.0 (omega arith) v.1 in
    let u = vertices_take count v.0.1 others.0 others.1 in
    let spelled : bytes ≡ flat_map spaced made = t.1 ∙ ap (λ (r : List ℕ). spaced v.0.0 ++ r) u.2 in
    subst (λ (s : List ℕ). (length s ≡ suc count) × AllByRecursion (IsBetween 1 1000000) s × (bytes ≡ flat_map spaced s)) same (ap suc u.0, (t.0, u.1), spelled)

-- vertices are read
vertices_again : (vs : List ℕ) → AllByRecursion (IsBetween 1 1000000) vs → vertices_at (length vs) (flat_map spaced vs) ≡ Some vs
unfolding vertices_at
vertices_again [] fits = refl
vertices_again (v ∷ vs) fits =
    rw (number_at_again 1 1000000 v (flat_map spaced vs) (omega arith) fits.0 (begins_spaced vs), vertices_again vs fits.1) refl

-- some vertices that can be counted
pub record AreCounted (vs : List ℕ) : Type 0 where
  pub some : 1 ≤ length vs
  pub few : length vs ≤ most
  pub vertices : AllByRecursion (IsBetween 1 1000000) vs

-- how many there are, and these
abbrev pub counted : List ℕ → List ℕ
counted vs = flat_map spaced (length vs ∷ vs)

-- vertices that were read are written after their number
counted_takes : (bytes vs : List ℕ) → counted_at bytes ≡ Some vs → AreCounted vs × (bytes ≡ counted vs)
unfolding counted_at
counted_takes bytes vs e =
    let n = step_some (number_at 1 most bytes) _ vs e in
    let t = number_at_takes 1 most bytes n.0 (omega arith) n.1 in
    let u = vertices_take n.0.0 n.0.1 vs n.2 in
    let spelled = t.1 ∙ (ap (λ (r : List ℕ). spaced n.0.0 ++ r) u.2 ∙ ap (λ (k : ℕ). spaced k ++ flat_map spaced vs) (sym u.0)) in
    (record { some = omega (arith, t.0, u.0); few = omega (arith, t.0, u.0); vertices = u.1 }, spelled)

-- vertices that are written after their number are read
counted_again : (vs : List ℕ) → AreCounted vs → counted_at (counted vs) ≡ Some vs
unfolding counted_at
counted_again vs fits = rw (number_at_again 1 most (length vs) (flat_map spaced vs) (omega arith) (fits.some, fits.few) (begins_spaced vs)) (vertices_again vs fits.vertices)

pub counted_judges : Judges counted_at counted AreCounted
counted_judges = record { takes = counted_takes; again = counted_again }

-- ---- sets

-- vertices that ascend above the last one
abbrev pub AscendAbove : ℕ → List ℕ → Type 0
AscendAbove last [] = ⊤
AscendAbove last (v ∷ vs) = IsBetween (last + 1) 1000000 v × AscendAbove v vs

-- vertices that pass the test ascend
ascend_above : (last : ℕ) (vs : List ℕ) → AllByRecursion (IsBetween 1 1000000) vs → ascends last vs ≡ true → AscendAbove last vs
ascend_above last [] vertices passes = tt
ascend_above last (v ∷ vs) vertices passes =
    let p = and_parts (nat_lt last v) (ascends v vs) passes in
    let above : last < v = grind (arith, nat_tests, p.0) in
    ((omega arith, vertices.0.1), ascend_above v vs vertices.1 p.1)

-- what ascends passes the test
pass : (last : ℕ) (vs : List ℕ) → AscendAbove last vs → ascends last vs ≡ true
pass last [] h = refl
pass last (v ∷ vs) h =
    let low : last + 1 ≤ v = h.0.0 in
    let above : nat_lt last v ≡ true = grind (arith, nat_tests) in
    rw above (pass v vs h.1)

-- what ascends are vertices
pub are_vertices : (last : ℕ) (vs : List ℕ) → AscendAbove last vs → AllByRecursion (IsBetween 1 1000000) vs
are_vertices last [] h = tt
are_vertices last (v ∷ vs) h = let above : last + 1 ≤ v = h.0.0 in ((omega arith, h.0.1), are_vertices v vs h.1)

-- some vertices that ascend, and can be counted
pub record IsAscending (set : List ℕ) : Type 0 where
  pub some : 1 ≤ length set
  pub few : length set ≤ most
  pub ascend : AscendAbove 0 set

-- a set that was read is written after its number
set_takes : (bytes set : List ℕ) → set_at bytes ≡ Some set → IsAscending set × (bytes ≡ counted set)
unfolding set_at
set_takes bytes set e =
    let vs = step_some (counted_at bytes) _ set e in
    let g = cond_some (ascends 0 vs.0) vs.0 set vs.2 in
    let t = counted_takes bytes vs.0 vs.1 in
    subst (λ (s : List ℕ). IsAscending s × (bytes ≡ counted s)) g.1 (record { some = t.0.some; few = t.0.few; ascend = ascend_above 0 vs.0 t.0.vertices g.0 }, t.1)

-- a set that is written after its number is read
set_again : (set : List ℕ) → IsAscending set → set_at (counted set) ≡ Some set
unfolding set_at
set_again set fits = rw (counted_again set (record { some = fits.some; few = fits.few; vertices = are_vertices 0 set fits.ascend }), pass 0 set fits.ascend) refl

-- ---- cuts and walls

pub record IsCut (c : Cut) : Type 0 where
  pub q : IsBetween 1 1000000 c.q
  pub y : IsBetween 0 most c.y
  pub set : IsAscending c.set

-- a line that was read is the spelling of the cut
cut_takes : (line : List ℕ) (c : Cut) → cut_of line ≡ Some c → IsCut c × (line ≡ cut_line c)
unfolding cut_of cut_head_of
cut_takes line c e =
    let head = step_some (cut_head_of line) _ c e in
    let set = step_some (set_at head.0.2) _ c head.2 in
    let a = step_some (after (codes "U") line) _ head.0 head.1 in
    let q = step_some (number_at 1 1000000 a.0) _ head.0 a.2 in
    let y = step_some (number_at 0 most q.0.1) _ head.0 q.2 in
    let front : ℕ × ℕ × List ℕ = (q.0.0, y.0.0, y.0.1) in
    let is_front : front ≡ head.0 = cc in
    let made : Cut = record { set = set.0; q = head.0.0; y = head.0.1 } in
    let same : made ≡ c = cc in
    let t = number_at_takes 1 1000000 a.0 q.0 (omega arith) q.1 in
    let u = number_at_takes 0 most q.0.1 y.0 (omega arith) y.1 in
    let s = set_takes head.0.2 set.0 set.1 in
    let is_q : q.0.0 ≡ head.0.0 = ap (λ (x : ℕ × ℕ × List ℕ). x.0) is_front in
    let is_y : y.0.0 ≡ head.0.1 = ap (λ (x : ℕ × ℕ × List ℕ). x.1) is_front in
    let is_rest : y.0.1 ≡ counted set.0 = ap (λ (x : ℕ × ℕ × List ℕ). x.2) is_front ∙ s.1 in
    let numbers : a.0 ≡ spaced q.0.0 ++ (spaced y.0.0 ++ counted set.0) = t.1 ∙ ap (λ (r : List ℕ). spaced q.0.0 ++ r) (u.1 ∙ ap (λ (r : List ℕ). spaced y.0.0 ++ r) is_rest) in
    let spelled : line ≡ cut_line made = after_takes (codes "U") line a.0 a.1 ∙ ap (λ (r : List ℕ). codes "U" ++ r) (numbers ∙ (ap (λ (k : ℕ). spaced k ++ (spaced y.0.0 ++ counted set.0)) is_q ∙ ap (λ (k : ℕ). spaced head.0.0 ++ (spaced k ++ counted set.0)) is_y)) in
    subst (λ (d : Cut). IsCut d × (line ≡ cut_line d)) same (record { q = subst (IsBetween 1 1000000) is_q t.0; y = subst (IsBetween 0 most) is_y u.0; set = s.0 }, spelled)

-- the spelling of a cut is read
cut_again : (c : Cut) → IsCut c → cut_of (cut_line c) ≡ Some c
unfolding cut_of cut_head_of
cut_again c fits =
    rw (number_at_again 1 1000000 c.q (spaced c.y ++ counted c.set) (omega arith) fits.q refl, number_at_again 0 most c.y (counted c.set) (omega arith) fits.y refl, set_again c.set fits.set) refl

pub cut_judges : Judges cut_of cut_line IsCut
cut_judges = record { takes = cut_takes; again = cut_again }

-- a wall and its number
abbrev pub wall_line : List ℕ → List ℕ
wall_line wall = words (codes "WALL") (length wall ∷ wall)

-- a line that was read is the spelling of the wall
wall_takes : (line wall : List ℕ) → wall_of line ≡ Some wall → IsAscending wall × (line ≡ wall_line wall)
unfolding wall_of
wall_takes line wall e =
    let a = step_some (after (codes "WALL") line) _ wall e in
    let s = set_takes a.0 wall a.2 in
    (s.0, after_takes (codes "WALL") line a.0 a.1 ∙ ap (λ (r : List ℕ). codes "WALL" ++ r) s.1)

-- the spelling of a wall is read
wall_again : (wall : List ℕ) → IsAscending wall → wall_of (wall_line wall) ≡ Some wall
unfolding wall_of
wall_again wall fits = set_again wall fits

pub wall_judges : Judges wall_of wall_line IsAscending
wall_judges = record { takes = wall_takes; again = wall_again }
