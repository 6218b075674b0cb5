-- A tree is judged arc by arc.
use Rattle.std.proofs.Common.{◌≡◌, ◌≢◌, ◌||◌, eqb, ℕ, ◌+◌, ◌<◌, ◌≤◌, Bool, true, false, List, [], ◌∷◌, ◌++◌, length, get_or, take, drop, set, replicate, ◌↔◌, refl, ap, ◌∙◌, arith, length-set}
use Rattle.std.proofs.lemmas.Bool.Decides.{nat_tests}
use Rattle.std.proofs.lemmas.List.{take_more, drop_more, length-replicate, get_or-replicate, get_or-set_same, get_or-set_other}
use Rattle.st_model.specs.Arborescence.{Grows, reached_from}
use Rattle.st_model.specs.Network.{Network}
use Rattle.st_model.specs.Marks.{AreMarks, IsNewArc}

-- one more arc, last
pub reached_from-append : (r : List ℕ) (xs ys : List (ℕ × ℕ)) → reached_from r (xs ++ ys) ≡ reached_from (reached_from r xs) ys
reached_from-append r [] ys = refl
reached_from-append r (x ∷ xs) ys = reached_from-append (x.1 ∷ r) xs ys

-- the first arc and the rest
pub grows_first : (I : Network) (r : List ℕ) (arc : ℕ × ℕ) (arcs : List (ℕ × ℕ)) → Grows I r (arc ∷ arcs) ↔ (IsNewArc I r arc × Grows I (arc.1 ∷ r) arcs)
grows_first I r arc arcs = (λ g. (record { linked = g.0; from = g.1; to = g.2 }, g.3), λ g. (g.0.linked, g.0.from, g.0.to, g.1))

pub reached_next : (r : List ℕ) (arcs : List (ℕ × ℕ)) (i : ℕ) (d : ℕ × ℕ) → i < length arcs → reached_from r (take (i + 1) arcs) ≡ (get_or arcs i d).1 ∷ reached_from r (take i arcs)
reached_next r arcs i d within = rw (take_more arcs i d within) (reached_from-append r (take i arcs) (get_or arcs i d ∷ []))

-- the arc in hand decides, and then the rest
pub grows_next : (I : Network) (r : List ℕ) (arcs : List (ℕ × ℕ)) (i : ℕ) (d : ℕ × ℕ) → i < length arcs → Grows I (reached_from r (take i arcs)) (drop i arcs) ↔ (IsNewArc I (reached_from r (take i arcs)) (get_or arcs i d) × Grows I (reached_from r (take (i + 1) arcs)) (drop (i + 1) arcs))
grows_next I r arcs i d within =
    rw (drop_more arcs i d within, reached_next r arcs i d within) (grows_first I (reached_from r (take i arcs)) (get_or arcs i d) (drop (i + 1) arcs))

-- at first nothing is marked, and then the start alone
pub marks_start : (n start : ℕ) (marks : List Bool) → start ≤ n → marks ≡ replicate (n + 1) false → AreMarks n (set marks start true) (start ∷ [])
marks_start n start marks within are =
    let long : length marks ≡ n + 1 = ap length are ∙ length-replicate (n + 1) false in
    record { long = length-set marks start true ∙ long; same = λ v in_range. at v in_range (eqb start v) refl long }
  where
    at : (v : ℕ) → v ≤ n → (b : Bool) → eqb start v ≡ b → length marks ≡ n + 1 → get_or (set marks start true) v false ≡ b || false
    at v in_range true is long =
        let here : start ≡ v = grind (arith, nat_tests) in
        rw (here, get_or-set_same marks v true false (omega arith)) refl
    at v in_range false is long =
        let other : v ≢ start = grind (arith, nat_tests) in
        let before : get_or marks v false ≡ false = rw are (get_or-replicate (n + 1) v false false (omega arith)) in
        get_or-set_other marks start v true false other ∙ before
