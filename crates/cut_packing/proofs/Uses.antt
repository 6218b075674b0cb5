-- Links that are to be used, each by an arc of a tree of its own.
use Rattle.std.proofs.Common.{◌≡◌, ℕ, ◌+◌, ◌-◌, ◌≤◌, max, Bool, true, false, cond, ◌||◌, List, [], ◌∷◌, inl, inr, refl, sym, arith}
use Rattle.std.specs.Prelude.{IsTrue, IsFalse, if◌then◌else◌}
use Rattle.std.specs.List.{AllByRecursion}
use Rattle.std.proofs.lemmas.Bool.{false≢true, or_cases}
use Rattle.std.proofs.lemmas.Bool.Decides.{nat_tests}
use Rattle.st_model.specs.Lists.{total}
use Rattle.st_model.specs.Made.{is_between, has_pair, AreApart}
use Rattle.st_model.proofs.Pairs.{apart_from, between-turned}

-- what is counted at a pair that is used is counted at some arc
one_used : (s : ℕ × ℕ → ℕ) (m : ℕ × ℕ) (arcs : List (ℕ × ℕ)) → ((a : ℕ × ℕ) → IsTrue (is_between m a.0 a.1) → s m ≡ s a) → IsTrue (has_pair arcs m.0 m.1) → s m ≤ total (λ a. if is_between m a.0 a.1 then s a else 0) arcs
one_used s m [] same used = absurd (false≢true used)
one_used s m (a ∷ arcs) same used =
    elim (or_cases (is_between a m.0 m.1) (has_pair arcs m.0 m.1) used) [
      | inl now ↦ let here = between-turned a m now in here_counts (is_between m a.0 a.1) here (same a here)
      | inr later ↦ omega (arith, one_used s m arcs same later)
    ]
  where
    here_counts : (b : Bool) → IsTrue b → s m ≡ s a → s m ≤ cond b (s a) 0 + total (λ c. if is_between m c.0 c.1 then s c else 0) arcs
    here_counts true h e = omega (arith, e)
    here_counts false h e = absurd (false≢true h)

-- of two tests of which at most one holds at each arc, both sums are within the sum over either
beside : (s : ℕ × ℕ → ℕ) (p q : ℕ × ℕ → Bool) (arcs : List (ℕ × ℕ)) → ((a : ℕ × ℕ) → IsTrue (p a) → IsFalse (q a)) → total (λ a. if p a then s a else 0) arcs + total (λ a. if q a then s a else 0) arcs ≤ total (λ a. if p a || q a then s a else 0) arcs
beside s p q [] one = omega arith
beside s p q (a ∷ arcs) one = omega (arith, at (p a) (q a) (one a), beside s p q arcs one)
  where
    at : (b c : Bool) → (IsTrue b → IsFalse c) → cond b (s a) 0 + cond c (s a) 0 ≤ cond (b || c) (s a) 0
    at true true h = absurd (false≢true (sym (h refl)))
    at true false h = omega arith
    at false c h = omega arith

-- what is counted at pairs that are all used, none of them twice, is counted at arcs
pub used_once : (s : ℕ × ℕ → ℕ) (arcs ms : List (ℕ × ℕ)) → ((m a : ℕ × ℕ) → IsTrue (is_between m a.0 a.1) → s m ≡ s a) → AreApart ms → AllByRecursion (λ m. IsTrue (has_pair arcs m.0 m.1)) ms → total s ms ≤ total (λ a. if has_pair ms a.0 a.1 then s a else 0) arcs
used_once s arcs [] same apart used = omega arith
used_once s arcs (m ∷ ms) same apart used =
    let first = one_used s m arcs (same m) used.0 in
    let rest = used_once s arcs ms same apart.1 used.1 in
    let both = beside s (λ a. is_between m a.0 a.1) (λ a. has_pair ms a.0 a.1) arcs (λ a h. apart_from m a ms apart.0 h) in
    omega (arith, first, rest, both)

-- each load and what the link costs beyond the greater one are within its cost
pub spared : (x y c : ℕ) → x ≤ c → y ≤ c → (x + (c - max x y) ≤ c) × (y + (c - max x y) ≤ c)
spared x y c low high = (grind (arith, nat_tests, low, high), grind (arith, nat_tests, low, high))
