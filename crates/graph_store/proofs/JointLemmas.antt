-- The entries of links by their pairs: what a look-up finds after each change.
use Rattle.std.proofs.Common.{◌≡◌, ℕ, ◌<◌, min, max, Bool, true, false, cond, ◌&&◌, eqb, nat_lt, is_some, List, [], ◌∷◌, ◌++◌, get_or, slice_get, position, Option, Some, None, option_map, IfSome, IfNone, IsSome, IsPermutation, refl, sym, ap, subst, ◌∙◌, arith, true≢false}
use Rattle.std.proofs.lemmas.Bool.Decides.{nat_tests}
use Rattle.std.proofs.lemmas.List.Sorted.{IsPermutation-swap_remove, IsPermutation-map, All-permutation}
use Rattle.std.proofs.lemmas.List.Elements.{All-tail, All-push}
use Rattle.std.proofs.lemmas.Option.{slice_get-map, slice_get-get_or}
use Rattle.std.proofs.lemmas.List.{map-append}
use Rattle.std.proofs.lemmas.Map.{lookup-set_value}
use Rattle.std.specs.Map.{keys_of, lookup, lookup_key, set_value}
use Rattle.std.specs.Prelude.{All}
use Rattle.indexmap.specs.IndexMap.{swap_remove_entry}
use Rattle.indexmap.proofs.MapLemmas.{Found-position, some_index, swap_remove_entry-found}
use Rattle.graph_store.specs.declared.joints.Joint.{Joint}
use Rattle.graph_store.specs.Changes.{are_ends}
use Rattle.graph_store.specs.Joined.{Entry, is_pair, joint_of, place_in, place_of, link_of, links_of, IsOrdered}
use Rattle.graph_store.proofs.Pairs.{same_pair, same_pair-true, pair_laws, ends_ordered}

-- a key that is found passes the test
key_passes : (t : ℕ × ℕ → Bool) (es : List Entry) (k : ℕ × ℕ) → lookup_key t es ≡ Some k → t k ≡ true
key_passes t [] k h = cc
key_passes t (e ∷ es) k h = by_case (t e.0) refl h (key_passes t es k)
  where
    by_case : (b : Bool) → t e.0 ≡ b → cond b (Some e.0) (lookup_key t es) ≡ Some k → (lookup_key t es ≡ Some k → t k ≡ true) → t k ≡ true
    by_case true is h rest = let same : e.0 ≡ k = cc in subst (λ x. t x ≡ true) same is
    by_case false is h rest = rest h

-- what is taken out, and the rest, are what there was
pub take_moves : (low high : ℕ) (es left : List Entry) (found : Option Joint) → found ≡ lookup (is_pair low high) es → left ≡ swap_remove_entry (is_pair low high) es → IfSome found (λ joint. IsPermutation es (((low, high), joint) ∷ left))
take_moves low high es left None is rest = tt
take_moves low high es left (Some joint) is rest = by_place (position (is_pair low high) (keys_of es)) refl
  where
    by_place : (place : Option ℕ) → position (is_pair low high) (keys_of es) ≡ place → IsPermutation es (((low, high), joint) ∷ left)
    by_place None at =
        let some : is_some (lookup (is_pair low high) es) ≡ true = sym (ap is_some is) in
        let none : is_some (lookup (is_pair low high) es) ≡ false = sym (some_index (is_pair low high) es) ∙ ap is_some at in
        absurd (true≢false (sym some ∙ none))
    by_place (Some i) at =
        let there = Found-position (is_pair low high) es i at in
        let e : Entry = get_or es i ((low, high), joint) in
        let got : slice_get es i ≡ Some e = slice_get-get_or es i ((low, high), joint) there.within in
        let value : Some joint ≡ Some e.1 = is ∙ there.value ∙ slice_get-map (λ (p : Entry). p.1) es i ∙ ap (option_map (λ (p : Entry). p.1)) got in
        let key : lookup_key (is_pair low high) es ≡ Some e.0 = there.key ∙ slice_get-map (λ (p : Entry). p.0) es i ∙ ap (option_map (λ (p : Entry). p.0)) got in
        let passes = same_pair-true (low, high) e.0 (key_passes (is_pair low high) es e.0 key) in
        let joint_is : joint ≡ e.1 = cc in
        let entry_is : ((low, high), joint) ≡ e = λ j. ((passes.0 j, passes.1 j), joint_is j) in
        subst (λ (x : List Entry). IsPermutation es (((low, high), joint) ∷ x)) (sym (rest ∙ swap_remove_entry-found (is_pair low high) es i ((low, high), joint) at)) (IsPermutation-swap_remove es i ((low, high), joint) there.within entry_is)

-- what is left of ordered pairs is ordered
pub take_ordered : (low high : ℕ) (es left : List Entry) (found : Option Joint) → IfSome found (λ joint. IsPermutation es (((low, high), joint) ∷ left)) → IfNone found (left ≡ es) → All IsOrdered (keys_of es) → All IsOrdered (keys_of left)
take_ordered low high es left None moves same ordered = subst (λ (x : List Entry). All IsOrdered (keys_of x)) (sym same) ordered
take_ordered low high es left (Some joint) moves same ordered =
    All-tail IsOrdered (low, high) (keys_of left) (All-permutation IsOrdered (keys_of es) (keys_of (((low, high), joint) ∷ left)) (IsPermutation-map (λ (e : Entry). e.0) es (((low, high), joint) ∷ left) moves) ordered)

-- what is found of a pair after another value is put at a pair that is there
pub joint_of-set_value : (low high : ℕ) (es : List Entry) (joint : Joint) (x y : ℕ) → IsSome (lookup (is_pair low high) es) → joint_of (set_value (is_pair low high) es joint) x y ≡ cond (is_pair low high (min x y, max x y)) (Some joint) (joint_of es x y)
joint_of-set_value low high es joint x y some = lookup-set_value pair_laws (is_pair low high) (λ p q h. same_test low high p q h) (min x y, max x y) joint es some
  where
    same_test : (low high : ℕ) (p q : ℕ × ℕ) → is_pair low high p ≡ true → is_pair low high q ≡ same_pair p q
    same_test low high p q h = pair_laws.congr (low, high) p q h

-- of a value that has the cost of the one before, the links are the same
pub links_of-set_value : (t : ℕ × ℕ → Bool) (es : List Entry) (was joint : Joint) → lookup t es ≡ Some was → joint.cost ≡ was.cost → links_of (set_value t es joint) ≡ links_of es
links_of-set_value t [] was joint at same = refl
links_of-set_value t (e ∷ es) was joint at same = by_case (t e.0) refl at (links_of-set_value t es was joint)
  where
    by_case : (b : Bool) → t e.0 ≡ b → cond b (Some e.1) (lookup t es) ≡ Some was → (lookup t es ≡ Some was → joint.cost ≡ was.cost → links_of (set_value t es joint) ≡ links_of es) → links_of (cond b ((e.0, joint) ∷ es) (e ∷ set_value t es joint)) ≡ link_of e ∷ links_of es
    by_case true is at rest = let value : e.1 ≡ was = cc in ap (λ c. record { a = e.0.0; b = e.0.1; cost = c } ∷ links_of es) (same ∙ sym (ap (λ (j : Joint). j.cost) value))
    by_case false is at rest = ap (λ ls. link_of e ∷ ls) (rest at same)

-- the half from one end to the other is at another place, and no other half is
pub place_of-set_place : (from to place : ℕ) (es : List Entry) (was joint : Joint) (x y : ℕ) → (from ≡ to → ⊥) → joint_of es from to ≡ Some was
    → joint ≡ (record { cost = was.cost; low = cond (nat_lt from to) place was.low; high = cond (nat_lt from to) was.high place })
    → place_of (set_value (is_pair (min from to) (max from to)) es joint) x y ≡ cond (eqb x from && eqb y to) (option_map (λ p. (place, p.1)) (place_of es x y)) (place_of es x y)
place_of-set_place from to place es was joint x y different at is =
    ap (option_map (place_in x y)) (joint_of-set_value (min from to) (max from to) es joint x y (ap is_some at))
    ∙ by_case (is_pair (min from to) (max from to) (min x y, max x y)) refl
  where
    old : is_pair (min from to) (max from to) (min x y, max x y) ≡ true → joint_of es x y ≡ Some was
    old same = let e = same_pair-true (min from to, max from to) (min x y, max x y) same in ap (λ (p : ℕ × ℕ). lookup (is_pair p.0 p.1) es) (λ j. (sym e.0 j, sym e.1 j)) ∙ at

    turned_place : (low high : ℕ) → is_pair (min from to) (max from to) (min x y, max x y) ≡ true → cond (nat_lt x y) (cond (nat_lt from to) place low) (cond (nat_lt from to) high place) ≡ cond (eqb x from && eqb y to) place (cond (nat_lt x y) low high)
    turned_place low high same = grind (arith, nat_tests)

    turned : (b : Bool) → (eqb x from && eqb y to) ≡ b → is_pair (min from to) (max from to) (min x y, max x y) ≡ true → place_in x y joint ≡ cond b (place, was.cost) (place_in x y was)
    turned true fit same = rw is (ap (λ n. (n, was.cost)) (turned_place was.low was.high same ∙ ap (λ b. cond b place (cond (nat_lt x y) was.low was.high)) fit))
    turned false fit same = rw is (ap (λ n. (n, was.cost)) (turned_place was.low was.high same ∙ ap (λ b. cond b place (cond (nat_lt x y) was.low was.high)) fit))

    by_case : (b : Bool) → is_pair (min from to) (max from to) (min x y, max x y) ≡ b → option_map (place_in x y) (cond b (Some joint) (joint_of es x y)) ≡ cond (eqb x from && eqb y to) (option_map (λ p. (place, p.1)) (place_of es x y)) (place_of es x y)
    by_case true same = rw (old same) (ap Some (turned (eqb x from && eqb y to) refl same) ∙ split (eqb x from && eqb y to))
      where
        split : (b : Bool) → Some (cond b (place, was.cost) (place_in x y was)) ≡ cond b (Some (place, was.cost)) (Some (place_in x y was))
        split true = refl
        split false = refl
    by_case false same = let other : (eqb x from && eqb y to) ≡ false = grind (arith, nat_tests) in rw other refl

-- the halves of a link cost something else, and those of no other link do
pub place_of-set_cost : (low high cost : ℕ) (es : List Entry) (was joint : Joint) (x y : ℕ) → low < high → lookup (is_pair low high) es ≡ Some was
    → joint ≡ (record { cost = cost; low = was.low; high = was.high })
    → place_of (set_value (is_pair low high) es joint) x y ≡ cond (are_ends low high x y) (option_map (λ p. (p.0, cost)) (place_of es x y)) (place_of es x y)
place_of-set_cost low high cost es was joint x y ordered at is =
    ap (option_map (place_in x y)) (joint_of-set_value low high es joint x y (ap is_some at))
    ∙ rw (ends_ordered low high x y ordered) (by_case (is_pair low high (min x y, max x y)) refl)
  where
    old : is_pair low high (min x y, max x y) ≡ true → joint_of es x y ≡ Some was
    old same = let e = same_pair-true (low, high) (min x y, max x y) same in ap (λ (p : ℕ × ℕ). lookup (is_pair p.0 p.1) es) (λ j. (sym e.0 j, sym e.1 j)) ∙ at

    by_case : (b : Bool) → is_pair low high (min x y, max x y) ≡ b → option_map (place_in x y) (cond b (Some joint) (joint_of es x y)) ≡ cond b (option_map (λ p. (p.0, cost)) (place_of es x y)) (place_of es x y)
    by_case true same = rw (old same, is) refl
    by_case false same = refl

-- of an ordered pair the lower end is the lower
pub joint_of-ordered : (low high : ℕ) (es : List Entry) → low < high → joint_of es low high ≡ lookup (is_pair low high) es
joint_of-ordered low high es h =
    let first : min low high ≡ low = omega arith in
    let last : max low high ≡ high = omega arith in
    ap (λ (p : ℕ × ℕ). lookup (is_pair p.0 p.1) es) (λ j. (first j, last j))

-- the same places, said of a write
pub places_written : (from to low high place : ℕ) (es new : List Entry) (was joint : Joint) (b : Bool) → low ≡ min from to → high ≡ max from to → (from ≡ to → ⊥) → nat_lt from to ≡ b
    → Some was ≡ lookup (is_pair low high) es → new ≡ set_value (is_pair low high) es joint
    → joint ≡ (record { cost = was.cost; low = cond b place was.low; high = cond b was.high place })
    → (x y : ℕ) → place_of new x y ≡ cond (eqb x from && eqb y to) (option_map (λ p. (place, p.1)) (place_of es x y)) (place_of es x y)
places_written from to low high place es new was joint b low_is high_is different test at written is x y =
    let at' : joint_of es from to ≡ Some was = sym (at ∙ ap (λ (p : ℕ × ℕ). lookup (is_pair p.0 p.1) es) (λ j. (low_is j, high_is j))) in
    let written' : new ≡ set_value (is_pair (min from to) (max from to)) es joint = written ∙ ap (λ (p : ℕ × ℕ). set_value (is_pair p.0 p.1) es joint) (λ j. (low_is j, high_is j)) in
    let is' : joint ≡ (record { cost = was.cost; low = cond (nat_lt from to) place was.low; high = cond (nat_lt from to) was.high place }) = is ∙ (λ j. record { cost = was.cost; low = cond (sym test j) place was.low; high = cond (sym test j) was.high place }) in
    ap (λ (es : List Entry). place_of es x y) written' ∙ place_of-set_place from to place es was joint x y different at' is'

-- a new ordered pair after the others
pub ArePairs-push : (es new : List Entry) (low high : ℕ) (joint : Joint) → new ≡ es ++ ((low, high), joint) ∷ [] → low < high → All IsOrdered (keys_of es) → All IsOrdered (keys_of new)
ArePairs-push es new low high joint is h ordered =
    subst (λ (x : List Entry). All IsOrdered (keys_of x)) (sym is) (subst (All IsOrdered) (sym (map-append (λ (e : Entry). e.0) es (((low, high), joint) ∷ []))) (All-push IsOrdered (keys_of es) (low, high) ordered h))
