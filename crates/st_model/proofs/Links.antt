-- The link between two vertices, found by the position of its pair.
use Rattle.std.proofs.Common.{◌≡◌, ℕ, suc, min, max, Bool, true, false, cond, ◌&&◌, List, [], ◌∷◌, get_or, map, Option, Some, None, option_map, inl, inr, refl, subst, arith}
use Rattle.std.specs.Prelude.{◌==◌, position, All, IsSome, OnSome}
use Rattle.std.specs.List.{AllByRecursion}
use Rattle.std.proofs.lemmas.Bool.{false≢true}
use Rattle.std.proofs.lemmas.List.Elements.{All-weaker, recursion_from_All}
use Rattle.std.proofs.lemmas.Bool.Decides.{nat_tests}
use Rattle.st_model.specs.declared.link.Link.{Link}
use Rattle.st_model.specs.Network.{IsVertex, IsLinkBetween, joins, link}
use Rattle.st_model.specs.Stated.{ends}
use Rattle.st_model.proofs.Distinct.{joins-ends}

-- two vertices are the ends of a link where the lower and the higher of them are
pub joins_by_ends : (l : Link) (u v : ℕ) → joins l u v ≡ (min u v == min l.a l.b) && (max u v == max l.a l.b)
joins_by_ends l u v = grind (arith, nat_tests)

pub position-cons : {X : Type 0} (p : X → Bool) (x : X) (xs : List X) → position p (x ∷ xs) ≡ cond (p x) (Some 0) (option_map suc (position p xs))
position-cons p x xs = grind (arith, nat_tests)

-- what is found at the position of a pair is its link
pub link-position : (ls : List Link) (test : ℕ × ℕ → Bool) (u v : ℕ) (d : Link) → ((l : Link) → joins l u v ≡ test (ends l)) → link ls u v ≡ option_map (λ i. (get_or ls i d).cost) (position test (map ends ls))
link-position [] test u v d same = refl
link-position (l ∷ ls) test u v d same = rw (position-cons, ← same l) (one_more (joins l u v) _ (link-position ls test u v d same))
  where
    one_more : (b : Bool) (o : Option ℕ) {rest : Option ℕ} → rest ≡ option_map (λ i. (get_or ls i d).cost) o → cond b (Some l.cost) rest ≡ option_map (λ i. (get_or (l ∷ ls) i d).cost) (cond b (Some 0) (option_map suc o))
    one_more true o h = refl
    one_more false None h = h
    one_more false (Some i) h = h

-- the same where the pairs are kept apart, and are searched for the lower and the higher vertex
pub link_found : (ls : List Link) (keys : List (ℕ × ℕ)) (u v low high : ℕ) (d : Link) (found : Option ℕ) → keys ≡ map ends ls → low ≡ min u v → high ≡ max u v → found ≡ position (λ y. (low == y.0) && (high == y.1)) keys → link ls u v ≡ option_map (λ i. (get_or ls i d).cost) found
link_found ls keys u v low high d found keys_are low_is high_is found_is =
    rw (found_is, keys_are, low_is, high_is) (link-position ls (λ y. (min u v == y.0) && (max u v == y.1)) u v d (λ l. joins_by_ends l u v))

-- what holds of both ends of each link holds of two linked vertices
pub linked_ends : (P : ℕ → Type 0) (ls : List Link) (u v : ℕ) → AllByRecursion (λ l. P l.a × P l.b) ls → IsSome (link ls u v) → P u × P v
linked_ends P [] u v all h = absurd (false≢true h)
linked_ends P (l ∷ ls) u v all h = by_test (joins l u v) refl h (linked_ends P ls u v all.1)
  where
    by_test : (b : Bool) → joins l u v ≡ b → IsSome (cond b (Some l.cost) (link ls u v)) → (IsSome (link ls u v) → P u × P v) → P u × P v
    by_test true is some rest = elim (joins-ends l u v is) [
      | inl e ↦ (subst P e.0 all.0.0, subst P e.1 all.0.1)
      | inr e ↦ (subst P e.1 all.0.1, subst P e.0 all.0.0)
    ]
    by_test false is some rest = rest some

-- a link joins vertices
pub linked_in_range : (n : ℕ) (ls : List Link) (u v : ℕ) → All (IsLinkBetween n) ls → OnSome (link ls u v) (IsVertex n u × IsVertex n v)
linked_in_range n ls u v ends = on_some (link ls u v) (linked_ends (IsVertex n) ls u v (recursion_from_All _ ls (All-weaker (IsLinkBetween n) (λ l. IsVertex n l.a × IsVertex n l.b) vertices ls ends)))
  where
    on_some : {P : Type 0} (o : Option ℕ) → (IsSome o → P) → OnSome o P
    on_some None h = tt
    on_some (Some price) h = h refl

    vertices : (l : Link) → IsLinkBetween n l → IsVertex n l.a × IsVertex n l.b
    vertices l is = let low = is.low in let ordered = is.ordered in let high = is.high in ((low, omega arith), (omega arith, high))
