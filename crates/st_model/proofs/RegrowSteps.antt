-- Arcs that are regrown at a vertex which they reach have the same links and reach the same.
use Rattle.std.proofs.Common.{◌≡◌, ◌≢◌, ℕ, ◌+◌, Bool, true, false, cond, ◌||◌, inl, inr, List, [], ◌∷◌, ◌++◌, map, reverse, refl, sym, ap, ◌∙◌, subst, eq-eqb, ◌<◌, length, get_or, drop, append_assoc}
use Rattle.std.specs.Prelude.{◌==◌, IsTrue}
use Rattle.std.specs.List.{list_any}
use Rattle.std.specs.List.Sorted.{IsPermutation}
use Rattle.std.proofs.lemmas.Bool.Decides.{eqb_tells}
use Rattle.std.proofs.lemmas.List.Sorted.{IsPermutation-refl, IsPermutation-sym, IsPermutation-cons, IsPermutation-to_front, IsPermutation-append_left, IsPermutation-trans}
use Rattle.std.proofs.Math.Nat.{min_comm, max_comm}
use Rattle.std.proofs.Math.Bool.{or-true, or-false, or_assoc}
use Rattle.std.proofs.lemmas.Bool.{eqb-true, ne_eqb}
use Rattle.std.proofs.lemmas.List.{map-append, reverse-append, drop_more}
use Rattle.st_model.specs.Lists.{has}
use Rattle.st_model.specs.Network.{Network}
use Rattle.st_model.specs.Arborescence.{reached_from, Grows}
use Rattle.st_model.specs.Marks.{IsNewArc}
use Rattle.st_model.specs.Growth.{reaches}
use Rattle.st_model.specs.Regrown.{unordered, regrown}
use Rattle.st_model.proofs.Booleans.{or_left_comm}
use Rattle.st_model.proofs.Distinct.{has-cons_head, link-comm}
use Rattle.st_model.proofs.Judging.{reached_from-append}
use Rattle.st_model.proofs.ThinGrowth.{Grows-push, has-reached_from}

-- new arcs from another vertex, with the links and the reach of the old arcs from the start
pub record IsRegrowth (I : Network) (start : ℕ) (old : List (ℕ × ℕ)) (at : ℕ) (new : List (ℕ × ℕ)) : Type 0 where
  pub grows : Grows I (at ∷ []) new
  pub links : IsPermutation (map unordered new) (map unordered old)
  pub reached : (v : ℕ) → reaches at new v ≡ reaches start old v

-- the last arc of those that grow
pub record EndsIn (I : Network) (r : List ℕ) (arcs : List (ℕ × ℕ)) (arc : ℕ × ℕ) : Type 0 where
  pub grows : Grows I r arcs
  pub last : IsNewArc I (reached_from r arcs) arc

-- arcs that grow end in an arc to a new vertex
pub Grows-last : (I : Network) (r : List ℕ) (arcs : List (ℕ × ℕ)) (arc : ℕ × ℕ) → Grows I r (arcs ++ arc ∷ []) → EndsIn I r arcs arc
Grows-last I r [] arc g = record { grows = tt; last = record { linked = g.0; from = g.1; to = g.2 } }
Grows-last I r (first ∷ arcs) arc g =
    let rest = Grows-last I (first.1 ∷ r) arcs arc g.3 in
    record { grows = (g.0, g.1, g.2, rest.grows); last = rest.last }

-- arcs that don't reach a vertex grow as well where it is reached beforehand
pub record GrowsWith (I : Network) (r wider : List ℕ) (arcs : List (ℕ × ℕ)) (vertex : ℕ) : Type 0 where
  pub grows : Grows I wider arcs
  pub reached : (v : ℕ) → has (reached_from wider arcs) v ≡ (vertex == v) || has (reached_from r arcs) v

-- from there they reach that vertex besides
pub Grows-wider : (I : Network) (r wider : List ℕ) (arcs : List (ℕ × ℕ)) (vertex : ℕ) → ((v : ℕ) → has wider v ≡ (vertex == v) || has r v) → Grows I r arcs → has (reached_from r arcs) vertex ≡ false → GrowsWith I r wider arcs vertex
Grows-wider I r wider [] vertex same g absent = record { grows = tt; reached = same }
Grows-wider I r wider (arc ∷ arcs) vertex same g absent =
    let other : (vertex == arc.1) ≡ false = elim (eqb_tells vertex arc.1) [
      | inl e ↦ absurd (both (sym absent ∙ has-reached_from (arc.1 ∷ r) arcs vertex (has-cons_head r arc.1 vertex e.1)))
      | inr e ↦ e.0
    ] in
    let rest = Grows-wider I (arc.1 ∷ r) (arc.1 ∷ wider) arcs vertex (λ v. ap (λ b. (arc.1 == v) || b) (same v) ∙ or_left_comm (arc.1 == v) (vertex == v) (has r v)) g.3 absent in
    record {
      grows = (g.0, same arc.0 ∙ rw g.1 (or-true (vertex == arc.0)), same arc.1 ∙ rw other g.2, rest.grows);
      reached = rest.reached;
    }
  where
    both : false ≡ true → ⊥
    both h = cc

-- the turned arc first
IsRegrowth-turned : (I : Network) (start : ℕ) (old : List (ℕ × ℕ)) (arc : ℕ × ℕ) (new : List (ℕ × ℕ)) → EndsIn I (start ∷ []) old arc → IsRegrowth I start old arc.0 new → IsRegrowth I start (old ++ arc ∷ []) arc.1 ((arc.1, arc.0) ∷ new)
IsRegrowth-turned I start old arc new end before =
    let absent : reaches arc.0 new arc.1 ≡ false = before.reached arc.1 ∙ end.last.to in
    let wider = Grows-wider I (arc.0 ∷ []) (arc.0 ∷ arc.1 ∷ []) new arc.1 (λ v. or_left_comm (arc.0 == v) (arc.1 == v) false) before.grows absent in
    let front = IsPermutation-cons (unordered arc) (map unordered new) (map unordered old) before.links in
    let back = IsPermutation-sym (map unordered old ++ unordered arc ∷ []) (unordered arc ∷ map unordered old) (IsPermutation-to_front (map unordered old) (unordered arc)) in
    record {
      grows = (rw link-comm end.last.linked, has-cons_head [] arc.1 arc.1 refl, apart, wider.grows);
      links = rw (unordered-comm, map-append) (IsPermutation-trans (unordered arc ∷ map unordered new) (unordered arc ∷ map unordered old) (map unordered old ++ unordered arc ∷ []) front back);
      reached = λ v. wider.reached v ∙ (ap (λ b. (arc.1 == v) || b) (before.reached v) ∙ sym (ap (λ r. has r v) (reached_from-append (start ∷ []) old (arc ∷ []))));
    }
  where
    unordered-comm : unordered (arc.1, arc.0) ≡ unordered arc
    unordered-comm = rw (min_comm arc.1 arc.0, max_comm arc.1 arc.0) refl

    apart : ((arc.1 == arc.0) || false) ≡ false
    apart = elim (eqb_tells arc.1 arc.0) [
      | inl e ↦ let both : false ≡ true = sym end.last.to ∙ (ap (has (reached_from (start ∷ []) old)) e.1 ∙ end.last.from) in cc
      | inr e ↦ rw e.0 refl
    ]

-- the kept arc last
IsRegrowth-kept : (I : Network) (start : ℕ) (old : List (ℕ × ℕ)) (arc : ℕ × ℕ) (at : ℕ) (new : List (ℕ × ℕ)) → EndsIn I (start ∷ []) old arc → IsRegrowth I start old at new → IsRegrowth I start (old ++ arc ∷ []) at (new ++ arc ∷ [])
IsRegrowth-kept I start old arc at new end before = record {
  grows = Grows-push I (at ∷ []) new arc.0 arc.1 before.grows end.last.linked (before.reached arc.0 ∙ end.last.from) (before.reached arc.1 ∙ end.last.to);
  links = simp map-append (IsPermutation-append_left (map unordered (arc ∷ [])) (map unordered new) (map unordered old) before.links);
  reached = λ v. ap (λ r. has r v) (reached_from-append (at ∷ []) new (arc ∷ [])) ∙ (ap (λ b. (arc.1 == v) || b) (before.reached v) ∙ sym (ap (λ r. has r v) (reached_from-append (start ∷ []) old (arc ∷ []))));
}

-- every tree can be regrown at each vertex that it reaches
pub IsRegrowth-regrown : (I : Network) (start at : ℕ) (back : List (ℕ × ℕ)) → Grows I (start ∷ []) (reverse back) → IsTrue (reaches start (reverse back) at) → IsRegrowth I start (reverse back) at (regrown at back)
IsRegrowth-regrown I start at [] g there = elim (eqb_tells start at) [
  | inl e ↦ subst (λ (v : ℕ). IsRegrowth I start [] v []) e.1 (record { grows = tt; links = IsPermutation-refl []; reached = λ v. refl })
  | inr e ↦ let none : (false || false) ≡ true = rw e.0 at there in cc
]
IsRegrowth-regrown I start at (arc ∷ back) g there =
    let last : reverse (arc ∷ back) ≡ reverse back ++ arc ∷ [] = reverse-append (arc ∷ []) back in
    let end = Grows-last I (start ∷ []) (reverse back) arc (subst (Grows I (start ∷ [])) last g) in
    let reached_last = ap (λ r. has r at) (reached_from-append (start ∷ []) (reverse back) (arc ∷ [])) in
    let there_last : ((arc.1 == at) || reaches start (reverse back) at) ≡ true = sym reached_last ∙ (ap (λ arcs. reaches start arcs at) (sym last) ∙ there) in
    subst (λ (old : List (ℕ × ℕ)). IsRegrowth I start old at (regrown at (arc ∷ back))) (sym last)
    (by_test (arc.1 == at) refl end there_last (IsRegrowth-regrown I start arc.0 back end.grows end.last.from) (λ h. IsRegrowth-regrown I start at back end.grows h))
  where
    by_test : (b : Bool) → (arc.1 == at) ≡ b → EndsIn I (start ∷ []) (reverse back) arc → (b || reaches start (reverse back) at) ≡ true → IsRegrowth I start (reverse back) arc.0 (regrown arc.0 back) → (IsTrue (reaches start (reverse back) at) → IsRegrowth I start (reverse back) at (regrown at back)) → IsRegrowth I start (reverse back ++ arc ∷ []) at (cond b ((arc.1, arc.0) ∷ regrown arc.0 back) (regrown at back ++ arc ∷ []))
    by_test true is end h turned kept = subst (λ (v : ℕ). IsRegrowth I start (reverse back ++ arc ∷ []) v ((arc.1, arc.0) ∷ regrown arc.0 back)) (eqb-true arc.1 at is) (IsRegrowth-turned I start (reverse back) arc (regrown arc.0 back) end turned)
    by_test false is end h turned kept = IsRegrowth-kept I start (reverse back) arc at (regrown at back) end (kept h)

-- what a tree reaches: its start, and each head
pub has-reached_from_heads : (r : List ℕ) (arcs : List (ℕ × ℕ)) (v : ℕ) → has (reached_from r arcs) v ≡ has r v || list_any (λ arc. arc.1 == v) arcs
has-reached_from_heads r [] v = sym (or-false (has r v))
has-reached_from_heads r (arc ∷ arcs) v =
    let others = list_any (λ a. a.1 == v) arcs in
    has-reached_from_heads (arc.1 ∷ r) arcs v ∙ (or_assoc (arc.1 == v) (has r v) others ∙ or_left_comm (arc.1 == v) (has r v) others)

-- the start is reached
pub reaches_start : (start : ℕ) (arcs : List (ℕ × ℕ)) (v : ℕ) → (start == v) ≡ true → (start == v) ≡ reaches start arcs v
reaches_start start arcs v same = rw (has-reached_from_heads (start ∷ []) arcs v, same) refl

-- any other vertex is reached where it is a head
pub reaches_heads : (start : ℕ) (arcs : List (ℕ × ℕ)) (v : ℕ) → start ≢ v → list_any (λ arc. arc.1 == v) arcs ≡ reaches start arcs v
reaches_heads start arcs v other = rw (has-reached_from_heads (start ∷ []) arcs v, ne_eqb start v other) refl

-- the loop's steps: one more arc from the end, turned or kept
pub regrown-turn : (xs : List (ℕ × ℕ)) (i next : ℕ) (arc : ℕ × ℕ) (turned turned' kept all : List (ℕ × ℕ)) (current : ℕ) → (i < length xs) × (arc ≡ get_or xs i arc) → next ≡ i + 1 → arc.1 ≡ current → turned' ≡ turned ++ (arc.1, arc.0) ∷ [] → (turned ++ regrown current (drop i xs)) ++ kept ≡ all → (turned' ++ regrown arc.0 (drop next xs)) ++ kept ≡ all
regrown-turn xs i next arc turned turned' kept all current at next_is here turned_are before =
    let rest = drop (i + 1) xs in
    let first : drop i xs ≡ arc ∷ rest = drop_more xs i arc at.0 ∙ ap (λ a. a ∷ rest) (sym at.1) in
    let step : regrown current (drop i xs) ≡ (arc.1, arc.0) ∷ regrown arc.0 rest = ap (regrown current) first ∙ rw (eq-eqb arc.1 current here) refl in
    let same : (turned ++ (arc.1, arc.0) ∷ []) ++ regrown arc.0 rest ≡ turned ++ regrown current (drop i xs) = append_assoc turned ((arc.1, arc.0) ∷ []) (regrown arc.0 rest) ∙ ap (λ l. turned ++ l) (sym step) in
    rw (next_is, turned_are) (ap (λ l. l ++ kept) same ∙ before)

-- an arc that leads elsewhere is kept
pub regrown-keep : (xs : List (ℕ × ℕ)) (i next : ℕ) (arc : ℕ × ℕ) (turned kept kept' all : List (ℕ × ℕ)) (current : ℕ) → (i < length xs) × (arc ≡ get_or xs i arc) → next ≡ i + 1 → arc.1 ≢ current → kept' ≡ kept ++ arc ∷ [] → (turned ++ regrown current (drop i xs)) ++ reverse kept ≡ all → (turned ++ regrown current (drop next xs)) ++ reverse kept' ≡ all
regrown-keep xs i next arc turned kept kept' all current at next_is other kept_are before =
    let rest = drop (i + 1) xs in
    let first : drop i xs ≡ arc ∷ rest = drop_more xs i arc at.0 ∙ ap (λ a. a ∷ rest) (sym at.1) in
    let step : regrown current (drop i xs) ≡ regrown current rest ++ arc ∷ [] = ap (regrown current) first ∙ rw (ne_eqb arc.1 current other) refl in
    let moved : (turned ++ regrown current (drop i xs)) ++ reverse kept ≡ (turned ++ regrown current rest) ++ arc ∷ reverse kept = rw step (simp append_assoc) in
    rw (next_is, kept_are, reverse-append kept (arc ∷ [])) (sym moved ∙ before)
