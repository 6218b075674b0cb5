-- A write at a place is a change of what stands there.
use Rattle.std.proofs.Common.{◌≡◌, ℕ, zero, suc, List, [], ◌∷◌, get_or, set, refl, ap}
use Rattle.search_core.specs.State.{changed_at}

-- what is read there is changed
pub set-changed : {X : Type 0} (xs : List X) (k : ℕ) (x : X) (f : X → X) → x ≡ get_or xs k x → set xs k (f x) ≡ changed_at xs k f
set-changed [] k x f read = refl
set-changed (y ∷ ys) zero x f read = ap (λ z. f z ∷ ys) read
set-changed (y ∷ ys) (suc k) x f read = ap (λ zs. y ∷ zs) (set-changed ys k x f read)
