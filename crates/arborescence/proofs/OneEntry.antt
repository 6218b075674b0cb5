-- Of arcs none of which can be done without, one alone enters a set that is strong by the arcs before it.
use Rattle.std.proofs.Common.{◌≡◌, ◌≢◌, ℕ, Bool, ◌&&◌, List, get_or, inl, inr, sym, subst, ap, ◌∙◌, ◌⊎◌}
use Rattle.std.specs.Prelude.{IsTrue, IsFalse}
use Rattle.std.proofs.lemmas.Bool.{and_from, and_parts, both_ways, cases_eq, false_from_ne_true}
use Rattle.st_model.specs.declared.branch.Branch.{Branch}
use Rattle.st_model.specs.Branch.{is_present}
use Rattle.st_model.specs.Lists.{has}
use Rattle.st_model.specs.Network.{IsVertex}
use Rattle.arborescence.specs.Closing.{IsClosed, Spans, IsStrong, IsNeeded}
use Rattle.arborescence.proofs.Listing.{pair_same}

-- pairs of numbers are the same or not
same_pair : (a b : ℕ × ℕ) → (a ≡ b) ⊎ (a ≢ b)
same_pair a b = elim (cases_eq a.0 b.0) [
  | inl first ↦ elim (cases_eq a.1 b.1) [
    | inl second ↦ inl (pair_same a b first second)
    | inr other ↦ inr (λ same. other (ap (λ (p : ℕ × ℕ). p.1) same))
  ]
  | inr other ↦ inr (λ same. other (ap (λ (p : ℕ × ℕ). p.0) same))
]

module _ (n root : ℕ) (B : Branch) (kept first second strong_by : List (ℕ × ℕ)) (set : List ℕ) (a b : ℕ × ℕ) (spans : Spans n B root kept) (strong : IsStrong strong_by set)
    (need_a : IsNeeded root strong_by kept a) (need_b : IsNeeded root strong_by kept b)
    (in_a : IsTrue (has set a.1)) (in_b : IsTrue (has set b.1)) (vertex : IsVertex n b.1) (present : IsTrue (is_present B b.1)) where
  -- neither set meets the strong one, since it would hold it all
  misses_a : (v : ℕ) → IsTrue (has set v) → IsFalse (need_a.set v)
  misses_a v held = false_from_ne_true (need_a.set v) (λ meets. both_ways (need_a.set a.1) need_a.misses (strong need_a.set need_a.before v a.1 held in_a meets))

  misses_b : (v : ℕ) → IsTrue (has set v) → IsFalse (need_b.set v)
  misses_b v held = false_from_ne_true (need_b.set v) (λ meets. both_ways (need_b.set b.1) need_b.misses (strong need_b.set need_b.before v b.1 held in_b meets))

  both : ℕ → Bool
  both v = need_a.set v && need_b.set v

  -- what both hold is closed under all that is kept
  closed : a ≢ b → IsClosed kept both
  unfolding both
  closed apart = λ k d below. λ tail.
      let arc = get_or kept k d in
      let parts = and_parts (need_a.set arc.0) (need_b.set arc.0) tail in
      elim (same_pair arc a) [
        | inl is_a ↦
            -- its head is missed by the other one, so its tail is, too
            let head : IsFalse (need_b.set arc.1) = subst (λ (p : ℕ × ℕ). IsFalse (need_b.set p.1)) (sym is_a) (misses_b a.1 in_a) in
            let head_too = need_b.kept k d below (λ is_b. apart (sym is_a ∙ is_b)) parts.1 in
            absurd (both_ways (need_b.set arc.1) head head_too)
        | inr other_a ↦ elim (same_pair arc b) [
          | inl is_b ↦
              let head : IsFalse (need_a.set arc.1) = subst (λ (p : ℕ × ℕ). IsFalse (need_a.set p.1)) (sym is_b) (misses_a b.1 in_b) in
              absurd (both_ways (need_a.set arc.1) head (need_a.kept k d below other_a parts.0))
          | inr other_b ↦ and_from (need_a.set arc.1) (need_b.set arc.1) (need_a.kept k d below other_a parts.0) (need_b.kept k d below other_b parts.1)
        ]
      ]

  -- so it would hold all that is present
  pub one_entry : a ≡ b
  unfolding both
  one_entry = elim (same_pair a b) [
    | inl same ↦ same
    | inr apart ↦ absurd (both_ways (need_b.set b.1) need_b.misses (and_parts (need_a.set b.1) (need_b.set b.1) (spans both (and_from (need_a.set root) (need_b.set root) need_a.root need_b.root) (closed apart) b.1 vertex present)).1)
  ]
