-- A wall, by what the code finds of it.
use Rattle.std.proofs.Common.{◌≡◌, ℕ, ◌≤◌, Bool, true, false, cond, ◌&&◌, List, [], ◌∷◌, inl, inr, Some, Option, refl, sym, ap, ◌∙◌, arith}
use Rattle.std.specs.Prelude.{◌==◌, IsTrue, IsSome, All}
use Rattle.std.specs.List.{AllByRecursion}
use Rattle.std.proofs.lemmas.Bool.{or_cases}
use Rattle.std.proofs.lemmas.Bool.Decides.{nat_tests}
use Rattle.std.proofs.lemmas.List.Elements.{recursion_from_All, All-from_recursion}
use Rattle.st_model.specs.declared.link.Link.{Link}
use Rattle.st_model.specs.Lists.{has}
use Rattle.st_model.specs.Network.{Network, IsVertex, IsInstance, IsLinkBetween, joins, link, is_required}
use Rattle.st_model.specs.Wall.{IsWall}

-- some required vertex is on this side of the set
abbrev pub HasRequired : Network → List ℕ → Bool → Type 0
HasRequired I set side = (v : ℕ) × IsVertex I.n v × IsTrue (is_required I v) × (has set v ≡ side)

-- the link joins its own ends
joins_itself : (l : Link) → joins l l.a l.b ≡ true
joins_itself l = grind (arith, nat_tests)

-- what holds of the ends of each pair that is linked holds of each link
of_links : (Q : ℕ → ℕ → Type 0) (ls : List Link) → ((u v : ℕ) → IsSome (link ls u v) → Q u v) → AllByRecursion (λ l. Q l.a l.b) ls
of_links Q [] of_pairs = tt
of_links Q (l ∷ ls) of_pairs = (of_pairs l.a l.b (here (joins l l.a l.b) (joins_itself l)), of_links Q ls (λ u v linked. of_pairs u v (more (joins l u v) (link ls u v) linked)))
  where
    here : (b : Bool) → b ≡ true → IsSome (cond b (Some l.cost) (link ls l.a l.b))
    here true e = refl
    here false e = absurd cc

    more : (b : Bool) (o : Option ℕ) → IsSome o → IsSome (cond b (Some l.cost) o)
    more true o some = refl
    more false o some = some

-- and the other way round, where it doesn't matter which end comes first
of_pairs : (f : ℕ → Bool) (ls : List Link) → AllByRecursion (λ l. f l.a ≡ f l.b) ls → (u v : ℕ) → IsSome (link ls u v) → f u ≡ f v
of_pairs f [] h u v linked = absurd cc
of_pairs f (l ∷ ls) h u v linked = at (joins l u v) refl linked (of_pairs f ls h.1 u v)
  where
    ends : (l.a ≡ u) × (l.b ≡ v) → f u ≡ f v
    ends e = ap f (sym e.0) ∙ h.0 ∙ ap f e.1

    turned : (l.a ≡ v) × (l.b ≡ u) → f u ≡ f v
    turned e = ap f (sym e.1) ∙ sym h.0 ∙ ap f e.0

    at : (b : Bool) → joins l u v ≡ b → IsSome (cond b (Some l.cost) (link ls u v)) → (IsSome (link ls u v) → f u ≡ f v) → f u ≡ f v
    at true e some rest = elim (or_cases ((l.a == u) && (l.b == v)) ((l.a == v) && (l.b == u)) e) [
      | inl same ↦ ends (grind (arith, nat_tests, same), grind (arith, nat_tests, same))
      | inr other ↦ turned (grind (arith, nat_tests, other), grind (arith, nat_tests, other))
    ]
    at false e some rest = rest some

-- a link's ends are vertices
between : (n : ℕ) (l : Link) → IsLinkBetween n l → (l.a ≤ n) × (l.b ≤ n)
between n l b = (omega (arith, b.ordered, b.high), b.high)

module _ (I : Network) (wall set : List ℕ) (instance : IsInstance I) (same : (v : ℕ) → v ≤ I.n → has set v ≡ has wall v) where
  -- the sides of a link's ends are those that the set tells
  uncrossed_from : (ls : List Link) → AllByRecursion (IsLinkBetween I.n) ls → AllByRecursion (λ l. has set l.a ≡ has set l.b) ls → AllByRecursion (λ l. has wall l.a ≡ has wall l.b) ls
  uncrossed_from [] ends h = tt
  uncrossed_from (l ∷ ls) ends h =
      let e = between I.n l ends.0 in
      (sym (same l.a e.0) ∙ h.0 ∙ same l.b e.1, uncrossed_from ls ends.1 h.1)

  uncrossed_to : (ls : List Link) → AllByRecursion (IsLinkBetween I.n) ls → AllByRecursion (λ l. has wall l.a ≡ has wall l.b) ls → AllByRecursion (λ l. has set l.a ≡ has set l.b) ls
  uncrossed_to [] ends h = tt
  uncrossed_to (l ∷ ls) ends h =
      let e = between I.n l ends.0 in
      (same l.a e.0 ∙ h.0 ∙ sym (same l.b e.1), uncrossed_to ls ends.1 h.1)

  -- what was found makes a wall
  pub is_wall_from : All (IsVertex I.n) wall → HasRequired I set true → HasRequired I set false → All (λ l. has set l.a ≡ has set l.b) I.links → IsWall I wall
  is_wall_from in_range inside outside uncrossed =
      let ends = recursion_from_All (IsLinkBetween I.n) I.links instance.ends in
      let crossed = recursion_from_All (λ l. has set l.a ≡ has set l.b) I.links uncrossed in
      record {
        in_range = in_range;
        inside = (inside.0, inside.1, inside.2, sym (same inside.0 inside.1.1) ∙ inside.3);
        outside = (outside.0, outside.1, outside.2, sym (same outside.0 outside.1.1) ∙ outside.3);
        uncrossed = of_pairs (has wall) I.links (uncrossed_from I.links ends crossed);
      }

  -- no link leaves a wall
  pub uncrossed_wall : IsWall I wall → All (λ l. has set l.a ≡ has set l.b) I.links
  uncrossed_wall is_wall =
      let ends = recursion_from_All (IsLinkBetween I.n) I.links instance.ends in
      let crossed = of_links (λ u v. has wall u ≡ has wall v) I.links is_wall.uncrossed in
      All-from_recursion (λ l. has set l.a ≡ has set l.b) I.links (uncrossed_to I.links ends crossed)

  -- a wall has a required vertex on either side
  pub has_inside : IsWall I wall → HasRequired I set true
  has_inside is_wall = let v = is_wall.inside in (v.0, v.1, v.2, same v.0 v.1.1 ∙ v.3)

  pub has_outside : IsWall I wall → HasRequired I set false
  has_outside is_wall = let v = is_wall.outside in (v.0, v.1, v.2, same v.0 v.1.1 ∙ v.3)
