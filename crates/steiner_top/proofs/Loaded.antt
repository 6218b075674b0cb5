-- What was loaded, where the text is known.
use Rattle.std.proofs.Common.{◌≡◌, ℕ, ◌^◌, ◌≤◌, List, length, Option, Some, subst}
use Rattle.std.specs.Prelude.{IfSome}
use Rattle.steiner_top.specs.Causes.{IsLoaded}

-- what is known of a text is what was loaded
pub known_loaded : (known : Option (List ℕ)) (loaded bytes : List ℕ) → known ≡ Some bytes → IsLoaded known loaded → (loaded ≡ bytes) × (length bytes ≤ 2 ^ 34)
known_loaded known loaded bytes is h =
    let same : loaded ≡ bytes = subst (λ o. IfSome o (λ t. loaded ≡ t)) is h.same in
    (same, subst (λ b. length b ≤ 2 ^ 34) same h.short)
