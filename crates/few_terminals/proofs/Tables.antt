-- A table that meets the four inequalities bounds what is paid below each vertex.
use Rattle.std.proofs.Common.{◌≡◌, ℕ, ◌+◌, ◌*◌, ◌/◌, ◌%◌, ◌≤◌, min, Bool, true, false, cond, ◌||◌, List, [], ◌∷◌, ◌++◌, Option, Some, None, refl, sym, subst, ◌∙◌, arith}
use Rattle.std.specs.Prelude.{bit_and, ◌==◌, IsTrue, IsSome, unwrap_or}
use Rattle.std.proofs.lemmas.Bool.{eqb-true, false≢true}
use Rattle.std.specs.Int.Bits.{and_step}
use Rattle.st_model.specs.Lists.{has}
use Rattle.st_model.specs.Network.{Network, link}
use Rattle.st_model.specs.Arborescence.{reached, Grows, arc_cost}
use Rattle.st_model.proofs.Booleans.{same_test}
use Rattle.st_model.proofs.Distinct.{has-cons_head, has-cons_tail}
use Rattle.st_model.proofs.Members.{has-one, has-append}
use Rattle.few_terminals.specs.Under.{mask, IsUnder, TablesBound}
use Rattle.short_paths.proofs.Below.{under, paid, apart, hangs_somewhere, hanging_is_reached, paid_in_all}

abbrev Apart : List ℕ → List ℕ → Type 0
Apart xs ys = (x : ℕ) → IsTrue (has xs x) → IsTrue (has ys x) → ⊥

-- of lists with nothing in common the bits add up
mask-append : (ks xs ys : List ℕ) → Apart xs ys → mask ks (xs ++ ys) ≡ mask ks xs + mask ks ys
mask-append [] xs ys none = refl
mask-append (k ∷ ks) xs ys none = rw has-append (at (has xs k) (has ys k) (none k) (mask-append ks xs ys none))
  where
    at : (b c : Bool) → (b ≡ true → c ≡ true → ⊥) → mask ks (xs ++ ys) ≡ mask ks xs + mask ks ys → cond (b || c) 1 0 + 2 * mask ks (xs ++ ys) ≡ cond b 1 0 + 2 * mask ks xs + (cond c 1 0 + 2 * mask ks ys)
    at true true both rest = absurd (both refl refl)
    at true false both rest = omega (arith, rest)
    at false true both rest = omega (arith, rest)
    at false false both rest = omega (arith, rest)

-- and none is set in both
disjoint : (ks xs ys : List ℕ) → Apart xs ys → bit_and (mask ks xs) (mask ks ys) ≡ 0
disjoint [] xs ys none = refl
disjoint (k ∷ ks) xs ys none = at (has xs k) (has ys k) (none k) (disjoint ks xs ys none)
  where
    half : (b : Bool) (m : ℕ) → (cond b 1 0 + 2 * m) / 2 ≡ m
    half true m = omega arith
    half false m = omega arith

    low : (b c : Bool) (x y : ℕ) → (b ≡ true → c ≡ true → ⊥) → min ((cond b 1 0 + 2 * x) % 2) ((cond c 1 0 + 2 * y) % 2) ≡ 0
    low true true x y both = absurd (both refl refl)
    low true false x y both = omega arith
    low false true x y both = omega arith
    low false false x y both = omega arith

    at : (b c : Bool) → (b ≡ true → c ≡ true → ⊥) → bit_and (mask ks xs) (mask ks ys) ≡ 0 → bit_and (cond b 1 0 + 2 * mask ks xs) (cond c 1 0 + 2 * mask ks ys) ≡ 0
    at b c both rest =
        let step = and_step (cond b 1 0 + 2 * mask ks xs) (cond c 1 0 + 2 * mask ks ys) in
        let high : bit_and ((cond b 1 0 + 2 * mask ks xs) / 2) ((cond c 1 0 + 2 * mask ks ys) / 2) ≡ 0 = rw (half b (mask ks xs), half c (mask ks ys)) rest in
        let lowest = low b c (mask ks xs) (mask ks ys) both in
        omega (arith, step, high, lowest)

-- lists with the same members have the same bits
mask-same : (ks xs ys : List ℕ) → ((x : ℕ) → has xs x ≡ has ys x) → mask ks xs ≡ mask ks ys
mask-same [] xs ys same = refl
mask-same (k ∷ ks) xs ys same = rw (same k, mask-same ks xs ys same) refl

-- what the table says of what hangs at a vertex is paid below it
pub bounded : (I : Network) (ks : List ℕ) (table : ℕ → ℕ → ℕ) (r : List ℕ) (arcs : List (ℕ × ℕ)) → IsUnder I ks table → Grows I r arcs → (v : ℕ) → IsTrue (has r v) → table (mask ks (under arcs v)) v ≤ paid I arcs v
bounded I ks table r [] h g v among = let zero_is = h.alone v in omega (arith, zero_is)
bounded I ks table r (arc ∷ arcs) h g v among = at (arc.0 == v) refl (bounded I ks table (arc.1 ∷ r) arcs h g.3)
  where
    linked : (o : Option ℕ) → IsSome o → o ≡ Some (unwrap_or o 0)
    linked None some = cc
    linked (Some c) some = refl

    at : (b : Bool) → (arc.0 == v) ≡ b → ((w : ℕ) → IsTrue (has (arc.1 ∷ r) w) → table (mask ks (under arcs w)) w ≤ paid I arcs w) → table (mask ks (cond b (under arcs v ++ under arcs arc.1) (under arcs v))) v ≤ cond b (paid I arcs v + (arc_cost I arc + paid I arcs arc.1)) (paid I arcs v)
    at true is rest =
        let here : arc.0 ≡ v = eqb-true arc.0 v is in
        let own = rest v (has-cons_tail r arc.1 v among) in
        let hung = rest arc.1 (has-cons_head r arc.1 arc.1 refl) in
        let none : Apart (under arcs v) (under arcs arc.1) = apart I (arc.1 ∷ r) arcs g.3 v arc.1 (has-cons_tail r arc.1 v among) (has-cons_head r arc.1 arc.1 refl) (λ same. false≢true (sym g.2 ∙ subst (λ (x : ℕ). has r x ≡ true) same among)) in
        let sum = mask-append ks (under arcs v) (under arcs arc.1) none in
        let both = h.joined v (mask ks (under arcs v)) (mask ks (under arcs arc.1)) (disjoint ks (under arcs v) (under arcs arc.1) none) in
        let over = h.along (mask ks (under arcs arc.1)) arc.0 arc.1 (arc_cost I arc) (linked (link I.links arc.0 arc.1) g.0) in
        let over_here : table (mask ks (under arcs arc.1)) v ≤ table (mask ks (under arcs arc.1)) arc.1 + arc_cost I arc = subst (λ (x : ℕ). table (mask ks (under arcs arc.1)) x ≤ table (mask ks (under arcs arc.1)) arc.1 + arc_cost I arc) here over in
        rw sum (omega (arith, own, hung, both, over_here))
    at false is rest = rest v (has-cons_tail r arc.1 v among)

pub tables_bound : TablesBound
tables_bound I ks table t h tree =
    let start : IsTrue (has (t.start ∷ []) t.start) = has-cons_head [] t.start t.start refl in
    let below = bounded I ks table (t.start ∷ []) t.arcs h tree.grows t.start start in
    let all = paid_in_all I (t.start ∷ []) t.arcs tree.grows (refl, tt) in
    let same = mask-same ks (under t.arcs t.start) (reached t) (λ x. same_test (has (under t.arcs t.start) x) (has (reached t) x) (hanging_is_reached I (t.start ∷ []) t.arcs tree.grows t.start x start) (λ there. at x (hangs_somewhere I (t.start ∷ []) t.arcs tree.grows x there))) in
    rw (← same) (omega (arith, below, all))
  where
    at : (x : ℕ) → ((v : ℕ) × IsTrue (has (t.start ∷ []) v) × IsTrue (has (under t.arcs v) x)) → IsTrue (has (under t.arcs t.start) x)
    at x (v, among, hung) = subst (λ (w : ℕ). IsTrue (has (under t.arcs w) x)) (sym (has-one t.start v among)) hung
