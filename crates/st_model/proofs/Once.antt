-- Links of which each joins other vertices than those before it.
use Rattle.std.proofs.Common.{◌≡◌, ℕ, ◌<◌, min, max, false, cond, ◌&&◌, List, [], ◌∷◌, ◌++◌, ◌+◌, length, map, get_or, take, None, refl, sym, ap, subst, ◌∙◌, arith}
use Rattle.std.specs.Prelude.{◌==◌, All, AllPairs, IsFalse}
use Rattle.std.specs.List.{AllByRecursion, list_any}
use Rattle.std.proofs.lemmas.Bool.Decides.{nat_tests}
use Rattle.std.proofs.lemmas.List.{length-take, get_or-take, get_or_default, take_more, map-append}
use Rattle.std.proofs.lemmas.List.Elements.{recursion_from_All}
use Rattle.st_model.specs.declared.link.Link.{Link}
use Rattle.st_model.specs.Network.{joins, link}
use Rattle.st_model.specs.Stated.{ends}
use Rattle.st_model.proofs.Links.{joins_by_ends}

-- where no link joins two vertices, there is none
pub no_link : (ls : List Link) (u w : ℕ) → AllByRecursion (λ m. joins m u w ≡ false) ls → link ls u w ≡ None
no_link [] u w h = refl
no_link (l ∷ ls) u w h = rw h.0 (no_link ls u w h.1)

-- and no pair is of these two
no_pair : (ls : List Link) (u w : ℕ) → AllByRecursion (λ m. joins m u w ≡ false) ls → list_any (λ y. (min u w == y.0) && (max u w == y.1)) (map ends ls) ≡ false
no_pair [] u w h = refl
no_pair (l ∷ ls) u w h = rw (← joins_by_ends l u w, h.0) (no_pair ls u w h.1)

-- none of the links before one joins its ends
others_before : (ls : List Link) (i : ℕ) (d : Link) → AllPairs (λ l m. IsFalse (joins m l.a l.b)) ls → i < length ls → AllByRecursion (λ m. joins m (get_or ls i d).a (get_or ls i d).b ≡ false) (take i ls)
others_before ls i d apart within = recursion_from_All (λ m. joins m (get_or ls i d).a (get_or ls i d).b ≡ false) (take i ls) each
  where
    turned : (l m : Link) → joins l m.a m.b ≡ false → joins m l.a l.b ≡ false
    turned l m h = grind (arith, nat_tests)

    each : All (λ m. joins m (get_or ls i d).a (get_or ls i d).b ≡ false) (take i ls)
    each k e short =
        let before : k < i = (let len = length-take i ls in omega arith) in
        let here : joins (get_or ls i d) (get_or ls k e).a (get_or ls k e).b ≡ false = subst (λ (x : Link). joins x (get_or ls k e).a (get_or ls k e).b ≡ false) (get_or_default ls i e d within) (apart k i e before within) in
        rw (get_or-take i ls k e before) (turned (get_or ls i d) (get_or ls k e) here)

-- a link is of another pair than those before it
pub absent : (ls links : List Link) (i : ℕ) (d : Link) → AllPairs (λ l m. IsFalse (joins m l.a l.b)) ls → i < length ls → links ≡ take i ls → link links (get_or ls i d).a (get_or ls i d).b ≡ None
absent ls links i d apart within are = ap (λ x. link x (get_or ls i d).a (get_or ls i d).b) are ∙ no_link (take i ls) (get_or ls i d).a (get_or ls i d).b (others_before ls i d apart within)

-- and its pair is not among theirs
absent_pair : (ls : List Link) (i : ℕ) (d : Link) → AllPairs (λ l m. IsFalse (joins m l.a l.b)) ls → i < length ls → list_any (λ y. (min (get_or ls i d).a (get_or ls i d).b == y.0) && (max (get_or ls i d).a (get_or ls i d).b == y.1)) (map ends (take i ls)) ≡ false
absent_pair ls i d apart within = no_pair (take i ls) (get_or ls i d).a (get_or ls i d).b (others_before ls i d apart within)

-- so it stands after them
pub pairs_more : (ls : List Link) (i : ℕ) (d : Link) (keys : List (ℕ × ℕ)) (low high : ℕ) → AllPairs (λ l m. IsFalse (joins m l.a l.b)) ls → i < length ls → keys ≡ map ends (take i ls) → low ≡ min (get_or ls i d).a (get_or ls i d).b → high ≡ max (get_or ls i d).a (get_or ls i d).b
    → cond (list_any (λ y. (low == y.0) && (high == y.1)) keys) keys (keys ++ (low, high) ∷ []) ≡ map ends (take (i + 1) ls)
pairs_more ls i d keys low high apart within are low_is high_is =
    rw (are, low_is, high_is, absent_pair ls i d apart within) (sym (ap (map ends) (take_more ls i d within) ∙ map-append ends (take i ls) (get_or ls i d ∷ [])))
