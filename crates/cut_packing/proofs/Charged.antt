-- What the cuts lay on the arcs of a tree is at least the values of those that it enters.
use Rattle.std.proofs.Common.{ℕ, ◌+◌, ◌≤◌, Bool, true, false, cond, ◌||◌, List, [], ◌∷◌, refl, arith}
use Rattle.std.specs.Prelude.{IsTrue, if◌then◌else◌}
use Rattle.std.specs.List.{list_any, AllByRecursion}
use Rattle.std.proofs.lemmas.Bool.{false≢true}
use Rattle.st_model.specs.Lists.{total}
use Rattle.cut_packing.specs.declared.cut.Cut.{Cut}
use Rattle.cut_packing.specs.Packing.{load}
use Rattle.cut_packing.proofs.Sums.{total-add}
use Rattle.cut_packing.proofs.Turned.{enters}

-- where an arc enters the set, the arcs that do bear y at least
pub entered_bears : (S : List ℕ) (y : ℕ) (arcs : List (ℕ × ℕ)) → IsTrue (list_any (enters S) arcs) → y ≤ total (λ arc. if enters S arc then y else 0) arcs
entered_bears S y [] h = absurd (false≢true h)
entered_bears S y (arc ∷ arcs) h = step (enters S arc) h (entered_bears S y arcs)
  where
    step : (b : Bool) → IsTrue (b || list_any (enters S) arcs) → (IsTrue (list_any (enters S) arcs) → y ≤ total (λ a. if enters S a then y else 0) arcs) → y ≤ cond b y 0 + total (λ a. if enters S a then y else 0) arcs
    step true now later = omega arith
    step false now later = omega (arith, later now)

-- the values of the cuts that are entered where they have to be are at most what the arcs bear
pub charged : (must : ℕ → Bool) (arcs : List (ℕ × ℕ)) (cuts : List Cut) → AllByRecursion (λ c. IsTrue (must c.q) → IsTrue (list_any (enters c.set) arcs)) cuts → total (λ c. if must c.q then c.y else 0) cuts ≤ total (load cuts) arcs
charged must arcs [] h = omega arith
charged must arcs (c ∷ cuts) h =
    rw (total-add (λ arc. if enters c.set arc then c.y else 0) (load cuts) arcs) (step (must c.q) h.0 (charged must arcs cuts h.1))
  where
    step : (b : Bool) → (IsTrue b → IsTrue (list_any (enters c.set) arcs)) → total (λ d. if must d.q then d.y else 0) cuts ≤ total (load cuts) arcs → cond b c.y 0 + total (λ d. if must d.q then d.y else 0) cuts ≤ total (λ arc. if enters c.set arc then c.y else 0) arcs + total (load cuts) arcs
    step true entered rest = omega (arith, entered_bears c.set c.y arcs (entered refl))
    step false entered rest = omega arith
