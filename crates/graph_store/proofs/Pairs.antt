-- Pairs of vertices as keys.
use Rattle.std.proofs.Common.{◌≡◌, ℕ, ◌<◌, min, max, Bool, true, arith}
use Rattle.std.proofs.lemmas.Bool.Decides.{nat_tests}
use Rattle.std.specs.Cmp.{IsEquivalence}
use Rattle.graph_store.specs.Changes.{are_ends}
use Rattle.graph_store.specs.Joined.{is_pair}

-- two pairs are the same
abbrev pub same_pair : ℕ × ℕ → ℕ × ℕ → Bool
same_pair p q = is_pair p.0 p.1 q

pub same_pair-true : (p q : ℕ × ℕ) → same_pair p q ≡ true → (p.0 ≡ q.0) × (p.1 ≡ q.1)
same_pair-true p q h = (grind (arith, nat_tests), grind (arith, nat_tests))

congr : (a b c d e f : ℕ) → is_pair a b (c, d) ≡ true → is_pair a b (e, f) ≡ is_pair c d (e, f)
congr a b c d e f h = grind (arith, nat_tests)

pub pair_laws : IsEquivalence same_pair
pair_laws = record {
  refl = λ x. grind (arith, nat_tests);
  symm = λ x y. grind (arith, nat_tests);
  congr = λ x y z h. congr x.0 x.1 y.0 y.1 z.0 z.1 h;
}

-- the ends of two pairs are the same where the lower and the higher of them are
pub ends_are : (a b u w : ℕ) → are_ends a b u w ≡ is_pair (min a b) (max a b) (min u w, max u w)
ends_are a b u w = grind (arith, nat_tests)

-- the same for a pair whose lower vertex stands first
pub ends_ordered : (a b u w : ℕ) → a < b → are_ends a b u w ≡ is_pair a b (min u w, max u w)
ends_ordered a b u w h = grind (arith, nat_tests)
