-- Links and places as look-ups of the same entries.
use Rattle.std.proofs.Common.{◌≡◌, ℕ, ◌<◌, min, max, Bool, true, false, cond, eqb, nat_lt, List, [], ◌∷◌, ◌++◌, Option, Some, None, option_map, IsSome, refl, sym, ap, ◌∙◌, arith}
use Rattle.std.proofs.lemmas.Bool.Decides.{nat_tests}
use Rattle.std.specs.List.{AllByRecursion}
use Rattle.std.specs.Prelude.{All}
use Rattle.std.proofs.lemmas.List.Elements.{recursion_from_All}
use Rattle.std.specs.Map.{keys_of, lookup}
use Rattle.st_model.specs.Network.{joins, link}
use Rattle.graph_store.specs.declared.joints.Joint.{Joint}
use Rattle.graph_store.specs.Changes.{are_ends}
use Rattle.graph_store.specs.Joined.{Entry, is_pair, joint_of, place_in, place_of, link_of, links_of, IsOrdered}
use Rattle.graph_store.proofs.Pairs.{same_pair-true}

-- an ordered pair is joined by its link alone
joins-ordered : (e : Entry) (u w : ℕ) → e.0.0 < e.0.1 → joins (link_of e) u w ≡ is_pair (min u w) (max u w) e.0
joins-ordered e u w h = grind (arith, nat_tests)

-- what a link costs is what is kept of it
pub link-joint : (es : List Entry) (u w : ℕ) → All IsOrdered (keys_of es) → link (links_of es) u w ≡ option_map (λ joint. joint.cost) (joint_of es u w)
link-joint es u w ordered = by_recursion es (recursion_from_All IsOrdered (keys_of es) ordered)
  where
    by_recursion : (es : List Entry) → AllByRecursion IsOrdered (keys_of es) → link (links_of es) u w ≡ option_map (λ joint. joint.cost) (joint_of es u w)
    by_recursion [] h = refl
    by_recursion (e ∷ es) h = rw (joins-ordered e u w h.0, by_recursion es h.1) (split (is_pair (min u w) (max u w) e.0))
      where
        split : (b : Bool) → cond b (Some e.1.cost) (option_map (λ joint. joint.cost) (joint_of es u w)) ≡ option_map (λ (joint : Joint). joint.cost) (cond b (Some e.1) (joint_of es u w))
        split true = refl
        split false = refl

-- where there is no link, nothing is kept of it
pub no_joint : (es : List Entry) (u w : ℕ) → All IsOrdered (keys_of es) → link (links_of es) u w ≡ None → joint_of es u w ≡ None
no_joint es u w ordered none = by_case (joint_of es u w) (sym (link-joint es u w ordered) ∙ none)
  where
    by_case : (o : Option Joint) → option_map (λ joint. joint.cost) o ≡ None → o ≡ None
    by_case None h = refl
    by_case (Some joint) h = absurd (let clash : ⊥ = cc in clash)

-- and what its half is said to cost
pub link-place : (es : List Entry) (u w : ℕ) → All IsOrdered (keys_of es) → link (links_of es) u w ≡ option_map (λ p. p.1) (place_of es u w)
link-place es u w ordered = link-joint es u w ordered ∙ split (joint_of es u w)
  where
    split : (o : Option Joint) → option_map (λ joint. joint.cost) o ≡ option_map (λ (p : ℕ × ℕ). p.1) (option_map (place_in u w) o)
    split None = refl
    split (Some joint) = refl

-- nothing joins a vertex with itself
pub joint_of-loop : (es : List Entry) (v : ℕ) → All IsOrdered (keys_of es) → joint_of es v v ≡ None
joint_of-loop es v ordered = by_recursion es (recursion_from_All IsOrdered (keys_of es) ordered)
  where
    by_recursion : (es : List Entry) → AllByRecursion IsOrdered (keys_of es) → joint_of es v v ≡ None
    by_recursion [] h = refl
    by_recursion (e ∷ es) h =
        let before : e.0.0 < e.0.1 = h.0 in
        let no : is_pair (min v v) (max v v) e.0 ≡ false = grind (arith, nat_tests) in
        rw no (by_recursion es h.1)

-- the pair of the lower and the higher of two vertices is their pair
pub joint_of-ends : (es : List Entry) (a b low high : ℕ) → low ≡ min a b → high ≡ max a b → joint_of es low high ≡ joint_of es a b
joint_of-ends es a b low high low_is high_is =
    let first : min low high ≡ min a b = omega arith in
    let last : max low high ≡ max a b = omega arith in
    ap (λ (p : ℕ × ℕ). lookup (is_pair p.0 p.1) es) (λ j. (first j, last j))

-- either order is the same pair
pub joint_of-turned : (es : List Entry) (a b : ℕ) → joint_of es a b ≡ joint_of es b a
joint_of-turned es a b =
    let first : min a b ≡ min b a = omega arith in
    let last : max a b ≡ max b a = omega arith in
    ap (λ (p : ℕ × ℕ). lookup (is_pair p.0 p.1) es) (λ j. (first j, last j))

-- where the halves of a link are
pub record IsTold (es : List Entry) (low high : ℕ) (joint : Joint) : Type 0 where
  pub ordered : low < high
  pub low_place : place_of es low high ≡ Some (joint.low, joint.cost)
  pub high_place : place_of es high low ≡ Some (joint.high, joint.cost)

pub is_told : (es : List Entry) (a b low high : ℕ) (joint : Joint) → All IsOrdered (keys_of es) → low ≡ min a b → high ≡ max a b → joint_of es a b ≡ Some joint → IsTold es low high joint
is_told es a b low high joint ordered low_is high_is at = record {
  ordered = before;
  low_place = let less = before in let yes : nat_lt low high ≡ true = grind (arith, nat_tests) in ap (option_map (place_in low high)) (joint_of-ends es a b low high low_is high_is ∙ at) ∙ rw yes refl;
  high_place = let less = before in let no : nat_lt high low ≡ false = grind (arith, nat_tests) in ap (option_map (place_in high low)) (joint_of-turned es high low ∙ joint_of-ends es a b low high low_is high_is ∙ at) ∙ rw no refl;
}
  where
    before : low < high
    before = by_case (eqb a b) refl
      where
        by_case : (t : Bool) → eqb a b ≡ t → low < high
        by_case true same =
            let same' : a ≡ b = grind (arith, nat_tests) in
            let clash : ◌≡◌ {A = Option Joint} None (Some joint) = sym (joint_of-loop es b ordered) ∙ ap (λ x. joint_of es x b) (sym same') ∙ at in
            absurd (let no : ⊥ = cc in no)
        by_case false other = let apart : a ≡ b → ⊥ = λ e. grind (arith, nat_tests) in omega arith

-- what is said of look-ups, said of places and of links
place_of-where : (es new : List Entry) (v w : ℕ) (there : Bool) (found : Option Joint) (known : Option (ℕ × ℕ)) → joint_of new v w ≡ cond there found (joint_of es v w) → (there ≡ true → option_map (place_in v w) found ≡ known) → place_of new v w ≡ cond there known (place_of es v w)
place_of-where es new v w there found known now at = ap (option_map (place_in v w)) now ∙ split there refl
  where
    split : (t : Bool) → there ≡ t → option_map (place_in v w) (cond t found (joint_of es v w)) ≡ cond t known (place_of es v w)
    split true is = at is
    split false is = refl

pub place_of-gone : (es new : List Entry) (a b low high : ℕ) → low ≡ min a b → high ≡ max a b → ((x y : ℕ) → joint_of new x y ≡ cond (are_ends a b x y) None (joint_of es x y)) → (w : ℕ) → place_of new low w ≡ cond (eqb w high) None (place_of es low w)
place_of-gone es new a b low high low_is high_is gone w =
    let same : are_ends a b low w ≡ eqb w high = grind (arith, nat_tests) in
    place_of-where es new low w (eqb w high) None None (gone low w ∙ ap (λ t. cond t None (joint_of es low w)) same) (λ is. refl)

pub place_of-gone_high : (es new : List Entry) (a b low high : ℕ) → low ≡ min a b → high ≡ max a b → ((x y : ℕ) → joint_of new x y ≡ cond (are_ends a b x y) None (joint_of es x y)) → (w : ℕ) → place_of new high w ≡ cond (eqb w low) None (place_of es high w)
place_of-gone_high es new a b low high low_is high_is gone w =
    let same : are_ends a b high w ≡ eqb w low = grind (arith, nat_tests) in
    place_of-where es new high w (eqb w low) None None (gone high w ∙ ap (λ t. cond t None (joint_of es high w)) same) (λ is. refl)

pub place_of-gone_others : (es new : List Entry) (a b low high : ℕ) → low ≡ min a b → high ≡ max a b → ((x y : ℕ) → joint_of new x y ≡ cond (are_ends a b x y) None (joint_of es x y)) → (v w : ℕ) → (v ≡ low → ⊥) → (v ≡ high → ⊥) → place_of new v w ≡ place_of es v w
place_of-gone_others es new a b low high low_is high_is gone v w not_low not_high =
    let other : are_ends a b v w ≡ false = grind (arith, nat_tests) in
    ap (option_map (place_in v w)) (gone v w) ∙ rw other refl

pub link-gone : (es new : List Entry) (a b : ℕ) → All IsOrdered (keys_of es) → All IsOrdered (keys_of new) → ((x y : ℕ) → joint_of new x y ≡ cond (are_ends a b x y) None (joint_of es x y)) → (x y : ℕ) → link (links_of new) x y ≡ cond (are_ends a b x y) None (link (links_of es) x y)
link-gone es new a b ordered ordered_new gone x y = link-joint new x y ordered_new ∙ rw (gone x y, link-joint es x y ordered) (split (are_ends a b x y))
  where
    split : (t : Bool) → option_map (λ joint. joint.cost) (cond t None (joint_of es x y)) ≡ cond t None (option_map (λ (joint : Joint). joint.cost) (joint_of es x y))
    split true = refl
    split false = refl

-- the look-ups once there is one more
lookup-push : (t : ℕ × ℕ → Bool) (es : List Entry) (e : Entry) → (t e.0 ≡ true → lookup t es ≡ None) → lookup t (es ++ e ∷ []) ≡ cond (t e.0) (Some e.1) (lookup t es)
lookup-push t [] e fresh = refl
lookup-push t (x ∷ es) e fresh = by_case (t x.0) refl fresh (lookup-push t es e)
  where
    by_case : (b : Bool) → t x.0 ≡ b → (t e.0 ≡ true → cond b (Some x.1) (lookup t es) ≡ None) → ((t e.0 ≡ true → lookup t es ≡ None) → lookup t (es ++ e ∷ []) ≡ cond (t e.0) (Some e.1) (lookup t es)) → cond b (Some x.1) (lookup t (es ++ e ∷ [])) ≡ cond (t e.0) (Some e.1) (cond b (Some x.1) (lookup t es))
    by_case true is fresh rest = by_new (t e.0) refl
      where
        by_new : (b : Bool) → t e.0 ≡ b → Some x.1 ≡ cond b (Some e.1) (Some x.1)
        by_new true new = let clash : ◌≡◌ {A = Option Joint} (Some x.1) None = fresh new in absurd (let no : ⊥ = cc in no)
        by_new false new = refl
    by_case false is fresh rest = rest fresh

pub joint_of-push : (es new : List Entry) (low high : ℕ) (joint : Joint) → low < high → new ≡ es ++ ((low, high), joint) ∷ [] → joint_of es low high ≡ None → (x y : ℕ) → joint_of new x y ≡ cond (are_ends low high x y) (Some joint) (joint_of es x y)
joint_of-push es new low high joint before is absent x y =
    ap (λ (es : List Entry). joint_of es x y) is ∙ lookup-push (is_pair (min x y) (max x y)) es ((low, high), joint) fresh ∙ ap (λ b. cond b (Some joint) (joint_of es x y)) same
  where
    same : is_pair (min x y) (max x y) (low, high) ≡ are_ends low high x y
    same = grind (arith, nat_tests)

    fresh : is_pair (min x y) (max x y) (low, high) ≡ true → joint_of es x y ≡ None
    fresh h =
        let e = same_pair-true (min x y, max x y) (low, high) h in
        sym (joint_of-ends es x y low high (sym e.0) (sym e.1)) ∙ absent

-- the places of a new link's halves
pub place_of-pushed : (es new : List Entry) (low high : ℕ) (joint : Joint) → low < high → ((x y : ℕ) → joint_of new x y ≡ cond (are_ends low high x y) (Some joint) (joint_of es x y)) → (w : ℕ) → place_of new low w ≡ cond (eqb w high) (Some (joint.low, joint.cost)) (place_of es low w)
place_of-pushed es new low high joint before put w =
    let same : are_ends low high low w ≡ eqb w high = grind (arith, nat_tests) in
    place_of-where es new low w (eqb w high) (Some joint) (Some (joint.low, joint.cost)) (put low w ∙ ap (λ t. cond t (Some joint) (joint_of es low w)) same) (λ is. (let yes : nat_lt low w ≡ true = grind (arith, nat_tests) in rw yes refl))

pub place_of-pushed_high : (es new : List Entry) (low high : ℕ) (joint : Joint) → low < high → ((x y : ℕ) → joint_of new x y ≡ cond (are_ends low high x y) (Some joint) (joint_of es x y)) → (w : ℕ) → place_of new high w ≡ cond (eqb w low) (Some (joint.high, joint.cost)) (place_of es high w)
place_of-pushed_high es new low high joint before put w =
    let same : are_ends low high high w ≡ eqb w low = grind (arith, nat_tests) in
    place_of-where es new high w (eqb w low) (Some joint) (Some (joint.high, joint.cost)) (put high w ∙ ap (λ t. cond t (Some joint) (joint_of es high w)) same) (λ is. (let no : nat_lt high w ≡ false = grind (arith, nat_tests) in rw no refl))

pub place_of-pushed_others : (es new : List Entry) (low high : ℕ) (joint : Joint) → ((x y : ℕ) → joint_of new x y ≡ cond (are_ends low high x y) (Some joint) (joint_of es x y)) → (v w : ℕ) → (v ≡ low → ⊥) → (v ≡ high → ⊥) → place_of new v w ≡ place_of es v w
place_of-pushed_others es new low high joint put v w not_low not_high =
    let other : are_ends low high v w ≡ false = grind (arith, nat_tests) in
    ap (option_map (place_in v w)) (put v w) ∙ rw other refl

-- where a place is known there is a link
pub some_joint : (es : List Entry) (u w : ℕ) (known : ℕ × ℕ) → place_of es u w ≡ Some known → IsSome (joint_of es u w)
some_joint es u w known at = split (joint_of es u w) at
  where
    split : (o : Option Joint) → option_map (place_in u w) o ≡ Some known → IsSome o
    split None h = cc
    split (Some joint) h = refl
