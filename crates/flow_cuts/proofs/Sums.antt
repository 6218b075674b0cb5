-- Sums over the arcs that enter a set.
use Rattle.std.proofs.Common.{◌≡◌, ℕ, suc, ◌+◌, ◌<◌, ◌≤◌, Bool, true, false, cond, eqb, List, [], ◌∷◌, length, get_or, Some, refl, sym, ap, ◌∙◌, subst, arith}
use Rattle.std.specs.Prelude.{◌&&◌, IsTrue}
use Rattle.std.proofs.lemmas.Bool.{eq-eqb, eqb-true, ne_eqb}
use Rattle.std.proofs.lemmas.Bool.Decides.{nat_tests}
use Rattle.st_model.specs.Lists.{total}
use Rattle.st_model.specs.Network.{IsVertex}
use Rattle.st_model.proofs.Sums.{sum_to_le, sum_to-add, sum_to_same, sum_to_one}
use Rattle.bidirected_form.specs.declared.arc.Arc.{Arc}
use Rattle.bidirected_form.specs.Digraph.{Digraph, IsDigraph, arcs_into, left_from, remaining}
use Rattle.bidirected_form.specs.Entering.{enters}
use Rattle.bidirected_form.proofs.Lookups.{Rise, Rise-rest, left_from-at}
use Rattle.flow_cuts.specs.Fewest.{entering_sum}

-- so much where the test holds
abbrev pub amount : Bool → ℕ → ℕ
amount b k = cond b k 0

total_le : {X : Type 0} (f g : X → ℕ) (xs : List X) → ((k : ℕ) (d : X) → k < length xs → f (get_or xs k d) ≤ g (get_or xs k d)) → total f xs ≤ total g xs
total_le f g [] h = omega arith
total_le f g (x ∷ xs) h = omega (arith, h 0 x (omega arith), total_le f g xs (λ k d below. h (suc k) d (omega arith)))

total-add : {X : Type 0} (f g : X → ℕ) (xs : List X) → total (λ x. f x + g x) xs ≡ total f xs + total g xs
total-add f g [] = refl
total-add f g (x ∷ xs) = omega (arith, total-add f g xs)

total_same : {X : Type 0} (f g : X → ℕ) (xs : List X) → ((x : X) → f x ≡ g x) → total f xs ≡ total g xs
total_same f g [] h = refl
total_same f g (x ∷ xs) h = omega (arith, h x, total_same f g xs h)

-- the summand of an arc into v
abbrev share : (ℕ → ℕ → ℕ) → List ℕ → ℕ → Arc → ℕ
share f set v a = cond (enters set a.tail v) (f a.tail v) 0

-- what is more on each arc that enters is more in sum
pub entering_le : (D : Digraph) (f g : ℕ → ℕ → ℕ) (set : List ℕ) → IsDigraph D → ((u v left : ℕ) → remaining D u v ≡ Some left → IsTrue (enters set u v) → f u v ≤ g u v)
    → entering_sum D f set ≤ entering_sum D g set
entering_le D f g set h below = sum_to_le _ _ D.n (λ v low high. total_le (share f set v) (share g set v) (arcs_into D v)
    (λ k d within. by_case v (get_or (arcs_into D v) k d) (enters set (get_or (arcs_into D v) k d).tail v) refl (left_from-at (arcs_into D v) k d (h.arcs v).ascending within)))
  where
    by_case : (v : ℕ) (a : Arc) (b : Bool) → enters set a.tail v ≡ b → remaining D a.tail v ≡ Some a.remaining → cond b (f a.tail v) 0 ≤ cond b (g a.tail v) 0
    by_case v a true e is = below a.tail v a.remaining is e
    by_case v a false e is = omega arith

cond-add : (b : Bool) (x y : ℕ) → cond b (x + y) 0 ≡ cond b x 0 + cond b y 0
cond-add true x y = refl
cond-add false x y = refl

pub entering_add : (D : Digraph) (f g : ℕ → ℕ → ℕ) (set : List ℕ) → entering_sum D (λ u v. f u v + g u v) set ≡ entering_sum D f set + entering_sum D g set
entering_add D f g set =
    sum_to_same _ _ D.n (λ v low high. total_same _ _ (arcs_into D v) (λ a. cond-add (enters set a.tail v) (f a.tail v) (g a.tail v)) ∙ total-add (share f set v) (share g set v) (arcs_into D v))
    ∙ sum_to-add (λ v. total (share f set v) (arcs_into D v)) (λ v. total (share g set v) (arcs_into D v)) D.n

-- one arc alone
abbrev one : ℕ → ℕ → ℕ → ℕ → ℕ
one u v x y = amount (eqb u x && eqb v y) 1

-- of arcs of which none comes from u
row_none : (E : ℕ → Bool) (u : ℕ) (arcs : List Arc) → ((k : ℕ) (d : Arc) → k < length arcs → u < (get_or arcs k d).tail) → total (λ a. amount (E a.tail) (amount (eqb u a.tail) 1)) arcs ≡ 0
row_none E u [] h = refl
row_none E u (a ∷ arcs) h =
    let other : u < a.tail = h 0 a (omega arith) in
    omega (arith, row_none E u arcs (λ k d below. h (suc k) d (omega arith)), off (E a.tail) (eqb u a.tail) (ne_eqb u a.tail (λ same. omega arith)))
  where
    off : (b c : Bool) → c ≡ false → amount b (amount c 1) ≡ 0
    off true c is = rw is refl
    off false c is = refl

-- of arcs of which one comes from u
row_one : (E : ℕ → Bool) (u left : ℕ) (arcs : List Arc) → Rise arcs → left_from arcs u ≡ Some left → total (λ a. amount (E a.tail) (amount (eqb u a.tail) 1)) arcs ≡ amount (E u) 1
row_one E u left [] h is = absurd (let clash : ⊥ = cc in clash)
row_one E u left (a ∷ arcs) h is = by_case (eqb a.tail u) refl (row_one E u left arcs (Rise-rest a arcs h))
  where
    by_case : (b : Bool) → eqb a.tail u ≡ b → (left_from arcs u ≡ Some left → total (λ a. amount (E a.tail) (amount (eqb u a.tail) 1)) arcs ≡ amount (E u) 1)
        → amount (E a.tail) (amount (eqb u a.tail) 1) + total (λ a. amount (E a.tail) (amount (eqb u a.tail) 1)) arcs ≡ amount (E u) 1
    by_case true e rest =
        let same : a.tail ≡ u = eqb-true a.tail u e in
        let none = row_none E u arcs (λ k d below. let more : a.tail < (get_or arcs k d).tail = h 0 (suc k) d (omega arith) (omega arith) in omega arith) in
        let first : amount (E a.tail) (amount (eqb u a.tail) 1) ≡ amount (E u) 1 = rw (same, eq-eqb u u refl) refl in
        omega (arith, none, first)
    by_case false e rest =
        let other : eqb u a.tail ≡ false = grind (arith, nat_tests) in
        let first : amount (E a.tail) (amount (eqb u a.tail) 1) ≡ 0 = rw other (off (E a.tail)) in
        omega (arith, rest (rw e at is), first)
      where
        off : (b : Bool) → amount b 0 ≡ 0
        off true = refl
        off false = refl

-- the sum of one arc alone
entering_one : (D : Digraph) (set : List ℕ) (u v left : ℕ) → IsDigraph D → IsVertex D.n v → remaining D u v ≡ Some left → entering_sum D (one u v) set ≡ amount (enters set u v) 1
entering_one D set u v left h range is =
    sum_to_same _ (λ w. amount (eqb v w) (amount (enters set u v) 1)) D.n (λ w low high. row w (eqb v w) refl) ∙ sum_to_one v (amount (enters set u v) 1) D.n range.0 range.1
  where
    and_true : (b : Bool) → (b && true) ≡ b
    and_true true = refl
    and_true false = refl

    and_false : (b : Bool) → (b && false) ≡ false
    and_false true = refl
    and_false false = refl

    off : (b : Bool) → amount b 0 ≡ 0
    off true = refl
    off false = refl

    row : (w : ℕ) (b : Bool) → eqb v w ≡ b → total (share (one u v) set w) (arcs_into D w) ≡ amount b (amount (enters set u v) 1)
    row w true e =
        let same : v ≡ w = eqb-true v w e in
        total_same (share (one u v) set w) (λ a. amount (enters set a.tail w) (amount (eqb u a.tail) 1)) (arcs_into D w) (λ a. rw (e, and_true (eqb u a.tail)) refl)
        ∙ row_one (λ x. enters set x w) u left (arcs_into D w) (h.arcs w).ascending (subst (λ (y : ℕ). remaining D u y ≡ Some left) same is)
        ∙ ap (λ (y : ℕ). amount (enters set u y) 1) (sym same)
    row w false e =
        total_same (share (one u v) set w) (λ _. 0) (arcs_into D w) (λ a. rw (e, and_false (eqb u a.tail)) (off (enters set a.tail w)))
        ∙ total_none (arcs_into D w)
      where
        total_none : (arcs : List Arc) → total (λ (a : Arc). 0) arcs ≡ 0
        total_none [] = refl
        total_none (a ∷ arcs) = omega (arith, total_none arcs)

-- one more on one arc
pub entering_more : (D : Digraph) (f g : ℕ → ℕ → ℕ) (set : List ℕ) (u v left : ℕ) → IsDigraph D → IsVertex D.n v → remaining D u v ≡ Some left
    → ((x y : ℕ) → g x y ≡ f x y + amount (eqb u x && eqb v y) 1) → entering_sum D g set ≡ entering_sum D f set + amount (enters set u v) 1
entering_more D f g set u v left h range is more =
    sum_to_same _ _ D.n (λ w low high. total_same _ _ (arcs_into D w) (λ a. ap (λ (x : ℕ). cond (enters set a.tail w) x 0) (more a.tail w)))
    ∙ entering_add D f (one u v) set
    ∙ ap (λ (x : ℕ). entering_sum D f set + x) (entering_one D set u v left h range is)
