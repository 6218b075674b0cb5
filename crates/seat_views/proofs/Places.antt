-- Views at their places.
use Rattle.std.proofs.Common.{◌≡◌, ◌≢◌, ℕ, zero, suc, ◌<◌, List, [], ◌∷◌, ◌++◌, length, set, sym, subst, ⊎_elim, arith}
use mathlib.Core.Option.{some, some-injective, some-ne-none}
use lib.ListN.{get_elem?}
use Rattle.atomic_table.proofs.Lists.{at_set, at_snoc}

module _ {A : Type 0} where
  -- the view in a seat
  abbrev pub At : List A → ℕ → A → Type 0
  At views seat v = get_elem? views seat ≡ some v

  pub in_range : (views : List A) (seat : ℕ) (v : A) → At views seat v → seat < length views
  in_range [] seat v at = absurd (some-ne-none v (sym at))
  in_range (x ∷ xs) zero v at = omega arith
  in_range (x ∷ xs) (suc seat) v at = let h = in_range xs seat v at in omega arith

  module _ (F : A → Type 0) where
    -- what holds of all views
    abbrev pub Each : List A → Type 0
    Each views = (seat : ℕ) (v : A) → At views seat v → F v

    pub only_one : (v : A) → F v → Each (v ∷ [])
    only_one v holds zero u at = subst F (some-injective v u at) holds
    only_one v holds (suc seat) u at = absurd (some-ne-none u (sym at))

    pub each_set : (views : List A) (id : ℕ) (v : A) → F v → Each views → Each (set views id v)
    each_set views id v holds all seat u at = ⊎_elim (λ (x : (seat ≡ id) × (v ≡ u)). subst F x.1 holds)
        (λ (x : (seat ≢ id) × At views seat u). all seat u x.1) (at_set views id seat v u at)

    pub each_snoc : (views : List A) (v : A) → F v → Each views → Each (views ++ v ∷ [])
    each_snoc views v holds all seat u at = ⊎_elim (λ (x : At views seat u). all seat u x) (λ (x : v ≡ u). subst F x holds) (at_snoc views v u seat at)
