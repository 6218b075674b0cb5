-- The links between present vertices.
use Rattle.std.proofs.Common.{◌≡◌, ℕ, zero, suc, ◌<◌, Bool, true, false, ◌&&◌, cond, List, [], ◌∷◌, length, get_or, refl, sym, ◌∙◌, inl, inr, arith}
use Rattle.std.specs.Prelude.{All, AllPairs, Any, IsTrue, IsFalse, IfSome, IsPermutation, Option, Some, None, filter}
use Rattle.std.specs.List.{AllByRecursion}
use Rattle.std.proofs.lemmas.Bool.{false≢true}
use Rattle.std.proofs.lemmas.List.Sorted.{Contains-permutation}
use Rattle.st_model.proofs.Distinct.{joins-ends}
use Rattle.std.proofs.lemmas.Bool.Decides.{nat_tests}
use Rattle.std.proofs.lemmas.List.Elements.{All-from_recursion, recursion_from_All}
use Rattle.st_model.specs.declared.branch.Branch.{Branch}
use Rattle.st_model.specs.declared.link.Link.{Link}
use Rattle.st_model.specs.Network.{Network, IsInstance, IsLinkBetween, joins, link}
use Rattle.st_model.specs.Branch.{is_present}
use Rattle.level_packing.specs.Forest.{IsPresentLink, IsToCome, has_present_ends}

joins_either : (l m : Link) → joins l m.a m.b ≡ joins m l.a l.b
joins_either l m = grind (arith, nat_tests)

-- a link of an instance is the one between its ends
pub link_itself : (ls : List Link) (k : ℕ) (d : Link) → AllPairs (λ l m. IsFalse (joins m l.a l.b)) ls → k < length ls → link ls (get_or ls k d).a (get_or ls k d).b ≡ Some (get_or ls k d).cost
link_itself [] k d once within = absurd (omega arith)
link_itself (l ∷ ls) zero d once within = let self : joins l l.a l.b ≡ true = grind (arith, nat_tests) in rw self refl
link_itself (l ∷ ls) (suc k) d once within =
    let other : joins l (get_or ls k d).a (get_or ls k d).b ≡ false = joins_either l (get_or ls k d) ∙ once 0 (suc k) d (omega arith) within in
    rw other (link_itself ls k d (λ i j e below within. once (suc i) (suc j) e (omega arith) (omega arith)) (omega arith))

-- what is linked between vertices of which none is in the set is among the links that are kept
pub kept_links : (B : Branch) (ls : List Link) (u v : ℕ) → IsTrue (is_present B u) → IsTrue (is_present B v) → IfSome (link ls u v) (IsToCome (filter (has_present_ends B) ls) u v)
kept_links B [] u v in_u in_v = tt
kept_links B (l ∷ ls) u v in_u in_v = by_case (joins l u v) (has_present_ends B l) refl refl (kept_links B ls u v in_u in_v)
  where
    later : (o : Option ℕ) → IfSome o (IsToCome (filter (has_present_ends B) ls) u v) → IfSome o (IsToCome (l ∷ filter (has_present_ends B) ls) u v)
    later None h = tt
    later (Some price) (k, m, within, at, h) = (suc k, m, omega arith, at, h)

    no_end : joins l u v ≡ true → has_present_ends B l ≡ true
    no_end joined = elim (joins-ends l u v joined) [ inl e ↦ rw (e.0, e.1, in_u, in_v) refl | inr e ↦ rw (e.0, e.1, in_u, in_v) refl ]

    by_case : (b c : Bool) → joins l u v ≡ b → has_present_ends B l ≡ c → IfSome (link ls u v) (IsToCome (filter (has_present_ends B) ls) u v) → IfSome (cond b (Some l.cost) (link ls u v)) (IsToCome (cond c (l ∷ filter (has_present_ends B) ls) (filter (has_present_ends B) ls)) u v)
    by_case true true joined free rest = (0, l, omega arith, refl, (joined, refl))
    by_case true false joined free rest = absurd (false≢true (sym free ∙ no_end joined))
    by_case false true joined free rest = later (link ls u v) rest
    by_case false false joined free rest = rest

-- some element stands in any order
any_permutation : {X : Type 0} (P : X → Type 0) (xs ys : List X) → IsPermutation xs ys → Any P xs → Any P ys
any_permutation P xs ys moved (k, x, within, at, h) = let there = Contains-permutation xs ys x moved (k, within, at) in (there.0, x, there.1, there.2, h)

pub to_come_permutation : (xs ys : List Link) (u v : ℕ) (o : Option ℕ) → IsPermutation xs ys → IfSome o (IsToCome xs u v) → IfSome o (IsToCome ys u v)
to_come_permutation xs ys u v None moved h = tt
to_come_permutation xs ys u v (Some price) moved h = any_permutation (λ (l : Link). IsTrue (joins l u v) × (l.cost ≡ price)) xs ys moved h

-- the links that are kept are between present vertices
pub kept_present : (I : Network) (B : Branch) → IsInstance I → All (IsPresentLink I B) (filter (has_present_ends B) I.links)
kept_present I B instance = All-from_recursion (IsPresentLink I B) (filter (has_present_ends B) I.links) (kept I.links (recursion_from_All _ I.links (λ k d within. (instance.ends k d within, link_itself I.links k d instance.one_each within))))
  where
    kept : (ls : List Link) → AllByRecursion (λ l. IsLinkBetween I.n l × (link I.links l.a l.b ≡ Some l.cost)) ls → AllByRecursion (IsPresentLink I B) (filter (has_present_ends B) ls)
    kept [] h = tt
    kept (l ∷ ls) h = by_case (is_present B l.a) (is_present B l.b) refl refl (kept ls h.1)
      where
        by_case : (a b : Bool) → is_present B l.a ≡ a → is_present B l.b ≡ b → AllByRecursion (IsPresentLink I B) (filter (has_present_ends B) ls) → AllByRecursion (IsPresentLink I B) (cond (a && b) (l ∷ filter (has_present_ends B) ls) (filter (has_present_ends B) ls))
        by_case false b p q rest = rest
        by_case true false p q rest = rest
        by_case true true p q rest =
            let between : IsLinkBetween I.n l = h.0.0 in
            (record { a = record { vertex = (between.low, omega (arith, between.ordered, between.high)); present = p }; b = record { vertex = (omega (arith, between.low, between.ordered), between.high); present = q }; cost = h.0.1 }, rest)
