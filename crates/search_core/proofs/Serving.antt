-- A packing on which a branch may be split.
use Rattle.std.proofs.Common.{ℕ, Bool, Result, Ok, Err, inl, inr}
use Rattle.std.specs.declared.alloc.AllocError.{AllocError}
use Rattle.std.specs.Prelude.{IsTrue, IfOk, ◌↔◌}
use Rattle.st_model.specs.declared.branch.Branch.{Branch}
use Rattle.st_model.specs.Branch.{NoneIsCertain}
use Rattle.st_model.specs.Network.{Network}
use Rattle.cut_packing.specs.declared.packing.Packing.{Packing}
use Rattle.cut_packing.specs.Packing.{Fits}
use Rattle.search_core.specs.Needs.{AllowsSplit, IsFullBelow}

-- where somebody is required or inside it has to be full, and to weigh less than the value
pub allows_by_full : (I : Network) (B : Branch) (P : Packing) (x : ℕ) (r : Result Bool AllocError) → Fits I B P → ¬ NoneIsCertain I B → IfOk r (λ yes. IsTrue yes ↔ IsFullBelow I B P x) → IfOk r (λ yes. IsTrue yes ↔ AllowsSplit I B P x)
allows_by_full I B P x (Ok b) fits some h = (λ t. record { fits = fits; full = inl (h.0 t) }, λ a. elim a.full [ inl f ↦ h.1 f | inr n ↦ absurd (some n) ])
allows_by_full I B P x (Err e) fits some h = tt
