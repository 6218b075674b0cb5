-- Sets are written ascending, and read so.
use Rattle.std.proofs.Common.{◌≡◌, ℕ, zero, suc, ◌+◌, ◌<◌, ◌≤◌, List, [], ◌∷◌, length, subst, arith}
use Rattle.std.specs.Prelude.{slice_index}
use Rattle.std.specs.List.{AllByRecursion}
use Rattle.std.specs.List.Sorted.{IsStrictlyIncreasing}
use Rattle.std.proofs.lemmas.List.Elements.{recursion_from_All, All-from_recursion}
use Rattle.st_model.specs.Network.{IsVertex}
use Rattle.cut_packing.specs.declared.cut.Cut.{Cut}
use Rattle.log_format.specs.Text.{IsWritableSet, IsWritableCut}
use Rattle.log_format.proofs.LineLaws.{AscendAbove, are_vertices, IsAscending, IsCut}

-- what ascends rises strictly
rises : (last : ℕ) (set : List ℕ) → AscendAbove last set → IsStrictlyIncreasing set
rises last [] h k lt = absurd (omega arith)
rises last (v ∷ []) h k lt = absurd (omega arith)
rises last (v ∷ w ∷ vs) h zero lt = let above : v + 1 ≤ w = h.1.0.0 in omega arith
rises last (v ∷ w ∷ vs) h (suc k) lt =
    let e : suc (k + 1) ≡ suc k + 1 = omega arith in
    subst (λ (j : ℕ). slice_index (w ∷ vs) k < slice_index (v ∷ w ∷ vs) j) e (rises v (w ∷ vs) h.1 k (omega arith))

-- what stands after the first rises too
tail_rises : (v : ℕ) (vs : List ℕ) → IsStrictlyIncreasing (v ∷ vs) → IsStrictlyIncreasing vs
tail_rises v vs h k lt =
    let e : suc k + 1 ≡ suc (k + 1) = omega arith in
    subst (λ (j : ℕ). slice_index vs k < slice_index (v ∷ vs) j) e (h (suc k) (omega arith))

-- vertices that rise strictly ascend
ascends : (last : ℕ) (set : List ℕ) → (0 < length set → last < slice_index set 0) → IsStrictlyIncreasing set → AllByRecursion (IsVertex 1000000) set → AscendAbove last set
ascends last [] above h vertices = tt
ascends last (v ∷ vs) above h vertices =
    let low : last < v = above (omega arith) in
    ((omega arith, vertices.0.1), ascends v vs (λ some. h 0 (omega arith)) (tail_rises v vs h) vertices.1)

pub set_from : (set : List ℕ) → IsAscending set → IsWritableSet set
set_from set h = record { some = h.some; vertices = record { ascending = rises 0 set h.ascend; in_range = All-from_recursion (IsVertex 1000000) set (are_vertices 0 set h.ascend) } }

-- vertices that ascend above one of them are no more than are left
room : (last : ℕ) (set : List ℕ) → last ≤ 1000000 → AscendAbove last set → last + length set ≤ 1000000
room last [] low h = omega arith
room last (v ∷ vs) low h = let rest = room v vs h.0.1 h.1 in let above : last + 1 ≤ v = h.0.0 in omega arith

-- the first of some vertices is above 0
first_above : (set : List ℕ) → AllByRecursion (IsVertex 1000000) set → 0 < length set → 0 < slice_index set 0
first_above [] vertices some = absurd (omega arith)
first_above (v ∷ vs) vertices some = let low : 1 ≤ v = vertices.0.0 in omega arith

pub set_to : (set : List ℕ) → IsWritableSet set → IsAscending set
set_to set h =
    let vertices = recursion_from_All (IsVertex 1000000) set h.vertices.in_range in
    let ascend = ascends 0 set (first_above set vertices) h.vertices.ascending vertices in
    record { some = h.some; few = omega (arith, room 0 set (omega arith) ascend); ascend = ascend }

pub cut_from : (c : Cut) → IsCut c → IsWritableCut c
cut_from c h = record { q = h.q; y = omega (arith, h.y); set = set_from c.set h.set }

pub cut_to : (c : Cut) → IsWritableCut c → IsCut c
cut_to c h = record { q = h.q; y = (omega arith, omega (arith, h.y)); set = set_to c.set h.set }
