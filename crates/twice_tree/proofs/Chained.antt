-- The vertices of each cell, chained one by one from the last one down.
use Rattle.std.proofs.Common.{◌≡◌, ℕ, ◌+◌, ◌<◌, ◌≤◌, List, ◌∷◌, length, get_or, map, set, replicate, cond, Option, sym, ap, subst, ◌∙◌, ◌⊎◌, inl, inr, arith}
use Rattle.std.proofs.lemmas.Bool.{cases_eq}
use Rattle.std.proofs.lemmas.List.{length-set, length-replicate, get_or-replicate, get_or-set_same, get_or-set_other}
use Rattle.st_model.specs.Network.{Network, IsVertex, is_required}
use Rattle.short_paths.specs.Routes.{Route, source_of}
use Rattle.twice_tree.specs.declared.chains.Chains.{Chains}
use Rattle.twice_tree.specs.declared.chains.Place.{Place}
use Rattle.twice_tree.specs.Cells.{AreChained, IsFirst, IsPlace, far_in, place_at, terminal_of}
use Rattle.twice_tree.proofs.Nearest.{source_told}

-- none so far
pub chained_none : (I : Network) (routes : List (Option Route)) (c : Chains) → length c.places.items ≡ I.n + 1 → c.firsts.items ≡ replicate (I.n + 1) (I.n + 1) → AreChained I routes I.n c
chained_none I routes c long firsts = record {
  places_long = long;
  firsts_long = ap length firsts ∙ length-replicate (I.n + 1) (I.n + 1);
  placed = λ v above within. absurd (omega (arith, above, within));
  firsts = λ k within. first k (ap (λ (xs : List ℕ). get_or xs k 0) firsts ∙ get_or-replicate (I.n + 1) k (I.n + 1) 0 (omega (arith, within)));
}
  where
    first : (k : ℕ) → get_or c.firsts.items k 0 ≡ I.n + 1 → IsFirst (terminal_of I routes) I.n I.n k (get_or c.firsts.items k 0)
    first k is = record {
      above = omega (arith, is);
      within = λ low. absurd (omega (arith, low, is));
      first = λ w above within cell. absurd (omega (arith, above, within));
    }

-- one more
pub chained_more : (I : Network) (routes : List (Option Route)) (v far terminal : ℕ) (c new : Chains) → AreChained I routes (v + 1) c → v + 1 ≤ I.n → far ≡ far_in routes (v + 1) → terminal ≡ terminal_of I routes (v + 1) → terminal ≤ I.n
    → new.places.items ≡ set c.places.items (v + 1) (record { far = far; terminal = terminal; next = get_or c.firsts.items terminal 0 }) → new.firsts.items ≡ set c.firsts.items terminal (v + 1) → AreChained I routes v new
chained_more I routes v far terminal c new are within is_far is_terminal range places firsts = record {
  places_long = ap length places ∙ (length-set c.places.items (v + 1) here ∙ are.places_long);
  firsts_long = ap length firsts ∙ (length-set c.firsts.items terminal (v + 1) ∙ are.firsts_long);
  placed = placed;
  firsts = λ k low. by_case k low (cases_eq k terminal);
}
  where
    here : Place
    here = record { far = far; terminal = terminal; next = get_or c.firsts.items terminal 0 }

    latest : IsFirst (terminal_of I routes) I.n (v + 1) terminal (get_or c.firsts.items terminal 0)
    latest = are.firsts terminal range

    placed_here : IsPlace I routes (v + 1) here
    placed_here = record { far = is_far; terminal = is_terminal; next = subst (λ (k : ℕ). IsFirst (terminal_of I routes) I.n (v + 1) k (get_or c.firsts.items terminal 0)) is_terminal latest }

    placed : (w : ℕ) → v < w → w ≤ I.n → IsPlace I routes w (place_at new.places.items w)
    placed w above low = at (cases_eq w (v + 1))
      where
        at : (w ≡ v + 1) ⊎ (w ≡ v + 1 → ⊥) → IsPlace I routes w (place_at new.places.items w)
        at (inl same) =
            let long = are.places_long in
            let read : place_at new.places.items (v + 1) ≡ here = ap (λ (xs : List Place). place_at xs (v + 1)) places ∙ get_or-set_same c.places.items (v + 1) here (record { far = 0; terminal = 0; next = 0 }) (omega (arith, long, within)) in
            subst (λ (u : ℕ). IsPlace I routes u (place_at new.places.items u)) (sym same) (subst (IsPlace I routes (v + 1)) (sym read) placed_here)
        at (inr other) =
            let read : place_at new.places.items w ≡ place_at c.places.items w = ap (λ (xs : List Place). place_at xs w) places ∙ get_or-set_other c.places.items (v + 1) w here (record { far = 0; terminal = 0; next = 0 }) other in
            subst (IsPlace I routes w) (sym read) (are.placed w (omega (arith, above, other)) low)

    by_case : (k : ℕ) → k ≤ I.n → (k ≡ terminal) ⊎ (k ≡ terminal → ⊥) → IsFirst (terminal_of I routes) I.n v k (get_or new.firsts.items k 0)
    by_case k low (inl same) =
        let long = are.firsts_long in
        let read : get_or new.firsts.items k 0 ≡ v + 1 = ap (λ (xs : List ℕ). get_or xs k 0) firsts ∙ (ap (λ (j : ℕ). get_or (set c.firsts.items terminal (v + 1)) j 0) same ∙ get_or-set_same c.firsts.items terminal (v + 1) 0 (omega (arith, long, range))) in
        subst (IsFirst (terminal_of I routes) I.n v k) (sym read) (record {
          above = omega arith;
          within = λ high. sym is_terminal ∙ sym same;
          first = λ w above high cell. omega (arith, above);
        })
    by_case k low (inr other) =
        let read : get_or new.firsts.items k 0 ≡ get_or c.firsts.items k 0 = ap (λ (xs : List ℕ). get_or xs k 0) firsts ∙ get_or-set_other c.firsts.items terminal k (v + 1) 0 other in
        let before = are.firsts k low in
        subst (IsFirst (terminal_of I routes) I.n v k) (sym read) (record {
          above = (let above = before.above in omega (arith, above));
          within = before.within;
          first = λ w above high cell. later w above high cell (cases_eq w (v + 1));
        })
      where
        later : (w : ℕ) → v < w → w ≤ I.n → terminal_of I routes w ≡ k → (w ≡ v + 1) ⊎ (w ≡ v + 1 → ⊥) → get_or c.firsts.items k 0 ≤ w
        later w above high cell (inl same) = absurd (other (sym cell ∙ (ap (terminal_of I routes) same ∙ sym is_terminal)))
        later w above high cell (inr differs) = (are.firsts k low).first w (omega (arith, above, differs)) high cell

-- the terminal that is told is that of the cell
pub terminal_told : (I : Network) (sources : List ℕ) (routes : List (Option Route)) (v terminal : ℕ) → sources ≡ 0 ∷ map source_of routes → length routes ≡ I.n → IsVertex I.n v → terminal ≡ cond (is_required I v) v (get_or sources v 0) → terminal ≡ terminal_of I routes v
terminal_told I sources routes v terminal are long vertex is = is ∙ ap (λ (k : ℕ). cond (is_required I v) v k) (source_told sources routes I.n v are long vertex)
