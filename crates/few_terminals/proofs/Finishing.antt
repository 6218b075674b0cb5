-- A row that is filled, and the rows of all sets up to it.
use Rattle.std.proofs.Common.{◌≡◌, ℕ, zero, suc, ◌+◌, ◌^◌, ◌<◌, ◌≤◌, Bool, true, false, List, [], ◌∷◌, ◌++◌, length, get_or, map, Some, refl, sym, ap, subst, ◌∙◌, ◌⊎◌, inl, inr, arith, length-append}
use Rattle.std.specs.Prelude.{IsTrue, IsFalse, is_some, bit_and, Contains, All}
use Rattle.std.specs.Int.Bits.{and_self}
use Rattle.std.proofs.lemmas.Nat.{and_comm}
use Rattle.std.proofs.lemmas.Bool.{cases_lt}
use Rattle.std.proofs.lemmas.List.{get_or-map, get_or_past, get_or_append_left, length-map, map-append}
use Rattle.std.proofs.Math.Seq.{get_or-append_seam}
use Rattle.std.proofs.lemmas.List.Elements.{recursion_from_All}
use Rattle.st_model.specs.Lists.{has}
use Rattle.st_model.specs.Network.{Network, IsInstance, IsVertex, link}
use Rattle.st_model.proofs.Distinct.{link-comm}
use Rattle.st_model.proofs.Marked.{at_member}
use Rattle.st_model.proofs.ThinGrowth.{linked-vertices}
use Rattle.few_terminals.specs.declared.mark.Mark.{Mark}
use Rattle.few_terminals.specs.declared.row.Row.{Row}
use Rattle.few_terminals.specs.Entries.{Meaning, HaveParts, IsEntryAt, GoesOn}
use Rattle.few_terminals.specs.Filling.{mark_at, IsBegun, IsJoinedBelow, IsFilling, IsSettled, Falls, offer_of}
use Rattle.few_terminals.specs.Reach.{slot_of, IsReach}
use Rattle.few_terminals.specs.Rows.{costs_of, places_of, cost_at, cost_in, place_at, place_in, IsRow, AreRows}
use Rattle.few_terminals.specs.Under.{mask}
use Rattle.few_terminals.proofs.Bits.{mask_some}
use Rattle.few_terminals.proofs.Marking.{Offer, IsOffer, entry_stays}
use Rattle.few_terminals.proofs.Slots.{at_slot, slot_past, slot_within}

-- ---- one row

-- what is known before any link is offered to the vertices
pub filling_begun : (I : Network) (ks : List ℕ) (es : List Meaning) (bits : ℕ) (marks : List Mark) (waiting : List Offer) → IsBegun I ks es bits marks → ((v : ℕ) → IsVertex I.n v → (mark_at marks v).cost < 2 ^ 63 → Contains waiting (offer_of (mark_at marks v).cost v)) → All (IsOffer I) waiting → IsFilling I ks es bits marks waiting
filling_begun I ks es bits marks waiting begun offered queued = record {
  long = begun.long;
  sound = begun.sound;
  states = λ v vertex. by_case v vertex (cases_lt (mark_at marks v).cost (2 ^ 63));
  queued = queued;
}
  where
    by_case : (v : ℕ) → IsVertex I.n v → ((mark_at marks v).cost < 2 ^ 63) ⊎ (2 ^ 63 ≤ (mark_at marks v).cost) → (2 ^ 63 ≤ (mark_at marks v).cost) ⊎ (Contains waiting (offer_of (mark_at marks v).cost v) ⊎ IsSettled I es bits marks v)
    by_case v vertex (inl near) = inr (inl (offered v vertex near))
    by_case v vertex (inr far) = inl far

module _ (I : Network) (ks : List ℕ) (es : List Meaning) (vs : List ℕ) (rows : List Row) (bits : ℕ) (first : List Mark) (old_es : List Meaning) (marks : List Mark) (instance : IsInstance I) (reach : IsReach I ks vs) (are : AreRows I ks old_es vs rows) (place : length rows ≡ bits) (joined : IsJoinedBelow I ks old_es vs rows bits bits first) (falls : Falls first marks) (filling : IsFilling I ks es bits marks []) where
  -- nothing waits any more
  done : (v : ℕ) → IsVertex I.n v → (2 ^ 63 ≤ (mark_at marks v).cost) ⊎ IsSettled I es bits marks v
  done v vertex = elim (filling.states v vertex) [
    | inl far ↦ inl far
    | inr near ↦ elim near [
      | inl waits ↦ absurd (none waits)
      | inr settled ↦ inr settled
    ]
  ]
    where
      none : Contains [] (offer_of (mark_at marks v).cost v) → ⊥
      none (k, within, is) = omega arith

  along_links : (u v c : ℕ) → link I.links u v ≡ Some c → (mark_at marks u).cost ≤ (mark_at marks v).cost + c
  along_links u v c linked = elim (done v (linked-vertices I u v instance (ap is_some linked)).1) [
    | inl far ↦ (let most = (filling.sound u).most in omega (arith, far, most))
    | inr settled ↦ settled.closed u c (link-comm I.links v u ∙ linked)
  ]

  of_parts : (v a b : ℕ) → 1 ≤ a → 1 ≤ b → bit_and a b ≡ 0 → a + b ≡ bits → (mark_at marks v).cost ≤ cost_in vs rows a v + cost_in vs rows b v
  of_parts v a b low low_also apart sum = by_case (cases_lt a b)
    where
      by_case : (a < b) ⊎ (b ≤ a) → (mark_at marks v).cost ≤ cost_in vs rows a v + cost_in vs rows b v
      by_case (inl less) = let before = joined.joined v a b low (omega (arith, sum, low_also)) less apart sum in let fell = falls v in omega (arith, before, fell)
      by_case (inr more) = turned (cases_lt b a)
        where
          turned : (b < a) ⊎ (a ≤ b) → (mark_at marks v).cost ≤ cost_in vs rows a v + cost_in vs rows b v
          turned (inl less) =
              let before = joined.joined v b a low_also (omega (arith, sum, low)) less (and_comm b a ∙ apart) (let other : b + a ≡ bits = omega (arith, sum) in other) in
              let fell = falls v in
              omega (arith, before, fell)
          turned (inr same) =
              let here : b ≡ a = omega (arith, more, same) in
              let own : bit_and a a ≡ 0 = subst (λ (x : ℕ). bit_and a x ≡ 0) here apart in
              let none = and_self a in
              absurd (omega (arith, own, none, low))

  entered : (v : ℕ) → IsVertex I.n v → (mark_at marks v).cost < 2 ^ 63 → IsEntryAt es (mark_at marks v).place v bits (mark_at marks v).cost
  entered v vertex near = elim (done v vertex) [
    | inl far ↦ absurd (omega (arith, far, near))
    | inr settled ↦ settled.entered
  ]

  -- lesser rows say nothing of who isn't reached
  far_before : (m v : ℕ) → 1 ≤ m → m < length rows → IsFalse (has vs v) → cost_in vs rows m v ≡ 2 ^ 63
  far_before m v low high out =
      let long = are.long_costs m low high in
      let past = slot_past vs v out in
      get_or_past (costs_of rows m) (slot_of vs v) (2 ^ 63) (omega (arith, long, past))

  -- the row, once its costs and places are taken out
  module _ (costs places : List ℕ) (costs_are : costs ≡ map (λ v. (mark_at marks v).cost) vs) (places_are : places ≡ map (λ v. (mark_at marks v).place) vs) where
    long_costs : length costs ≡ length vs
    long_costs = ap length costs_are ∙ length-map vs (λ (v : ℕ). (mark_at marks v).cost)

    cost_is : (v : ℕ) → IsTrue (has vs v) → cost_at vs costs v ≡ (mark_at marks v).cost
    cost_is v there =
        let within = slot_within vs v there in
        ap (λ (xs : List ℕ). cost_at vs xs v) costs_are ∙ (get_or-map (λ (x : ℕ). (mark_at marks x).cost) vs (slot_of vs v) 0 (2 ^ 63) within ∙ ap (λ (x : ℕ). (mark_at marks x).cost) (at_slot vs v within))

    place_is : (v : ℕ) → IsTrue (has vs v) → place_at vs places v ≡ (mark_at marks v).place
    place_is v there =
        let within = slot_within vs v there in
        ap (λ (xs : List ℕ). place_at vs xs v) places_are ∙ (get_or-map (λ (x : ℕ). (mark_at marks x).place) vs (slot_of vs v) 0 0 within ∙ ap (λ (x : ℕ). (mark_at marks x).place) (at_slot vs v within))

    -- what holds of what is known of the vertices that are reached, and of nothing
    by_reach : (P : ℕ → Type 0) (v : ℕ) → (IsTrue (has vs v) → P (mark_at marks v).cost) → (IsFalse (has vs v) → P (2 ^ 63)) → P (cost_at vs costs v)
    by_reach P v known far = by_case (has vs v) refl
      where
        by_case : (b : Bool) → has vs v ≡ b → P (cost_at vs costs v)
        by_case true there = subst P (sym (cost_is v there)) (known there)
        by_case false out =
            let past = slot_past vs v out in
            let none : cost_at vs costs v ≡ 2 ^ 63 = get_or_past costs (slot_of vs v) (2 ^ 63) (omega (arith, long_costs, past)) in
            subst P (sym none) (far out)

    most : (v : ℕ) → cost_at vs costs v ≤ 2 ^ 63
    most v = by_reach (λ x. x ≤ 2 ^ 63) v (λ there. (filling.sound v).most) (λ out. omega arith)

    -- what is linked with who is reached is reached
    along : (u v c : ℕ) → link I.links u v ≡ Some c → IsTrue (has vs v) → cost_at vs costs u ≤ (mark_at marks v).cost + c
    along u v c linked there =
        let also = reach.closed v u there (ap is_some (link-comm I.links v u ∙ linked)) in
        let here = cost_is u also in
        let less = along_links u v c linked in
        omega (arith, here, less)

    pub row_is : IsRow I ks es vs rows bits costs places
    row_is = record {
      long_costs = long_costs;
      long_places = ap length places_are ∙ length-map vs (λ (v : ℕ). (mark_at marks v).place);
      most = most;
      placed = λ v near. by_reach (λ x. x < 2 ^ 63 → IsEntryAt es (place_at vs places v) v bits x) v (λ there less. subst (λ (p : ℕ). IsEntryAt es p v bits (mark_at marks v).cost) (sym (place_is v there)) (entered v (at_member (IsVertex I.n) vs v (recursion_from_All (IsVertex I.n) vs reach.vertices) there) less)) (λ out less. absurd (omega (arith, less))) near;
      alone = λ k known own.
          let zero_is = joined.begun.alone k known own in
          let fell = falls k in
          let here = cost_is k (reach.known k known) in
          omega (arith, zero_is, fell, here);
      along = λ u v c linked. by_reach (λ x. cost_at vs costs u ≤ x + c) v (along u v c linked) (λ out. let far = most u in omega (arith, far));
      joined = λ v a b low low_also apart sum. by_reach (λ x. x ≤ cost_in vs rows a v + cost_in vs rows b v) v (λ there. of_parts v a b low low_also apart sum) (λ out. let far = far_before a v low (omega (arith, low_also, sum, place)) out in omega (arith, far));
    }

-- ---- all rows

-- the lists of a new row, and of those before it
costs_last : (rows : List Row) (row : Row) → costs_of (rows ++ row ∷ []) (length rows) ≡ row.costs.items
costs_last rows row =
    let all = map-append (λ (r : Row). r.costs.items) rows (row ∷ []) in
    let long = length-map rows (λ (r : Row). r.costs.items) in
    ap (λ (xs : List (List ℕ)). get_or xs (length rows) []) all ∙ (ap (λ (k : ℕ). get_or (map (λ (r : Row). r.costs.items) rows ++ row.costs.items ∷ []) k []) (sym long) ∙ get_or-append_seam (map (λ (r : Row). r.costs.items) rows) row.costs.items [] [])

costs_before : (rows : List Row) (row : Row) (m : ℕ) → m < length rows → costs_of (rows ++ row ∷ []) m ≡ costs_of rows m
costs_before rows row m within =
    let long = length-map rows (λ (r : Row). r.costs.items) in
    ap (λ (xs : List (List ℕ)). get_or xs m []) (map-append (λ (r : Row). r.costs.items) rows (row ∷ [])) ∙ get_or_append_left (map (λ (r : Row). r.costs.items) rows) (row.costs.items ∷ []) [] m (omega (arith, long, within))

places_last : (rows : List Row) (row : Row) → places_of (rows ++ row ∷ []) (length rows) ≡ row.places.items
places_last rows row =
    let all = map-append (λ (r : Row). r.places.items) rows (row ∷ []) in
    let long = length-map rows (λ (r : Row). r.places.items) in
    ap (λ (xs : List (List ℕ)). get_or xs (length rows) []) all ∙ (ap (λ (k : ℕ). get_or (map (λ (r : Row). r.places.items) rows ++ row.places.items ∷ []) k []) (sym long) ∙ get_or-append_seam (map (λ (r : Row). r.places.items) rows) row.places.items [] [])

places_before : (rows : List Row) (row : Row) (m : ℕ) → m < length rows → places_of (rows ++ row ∷ []) m ≡ places_of rows m
places_before rows row m within =
    let long = length-map rows (λ (r : Row). r.places.items) in
    ap (λ (xs : List (List ℕ)). get_or xs m []) (map-append (λ (r : Row). r.places.items) rows (row ∷ [])) ∙ get_or_append_left (map (λ (r : Row). r.places.items) rows) (row.places.items ∷ []) [] m (omega (arith, long, within))

-- past all rows nothing is known
pub cost_past : (vs : List ℕ) (rows : List Row) (m v : ℕ) → length rows ≤ m → cost_in vs rows m v ≡ 2 ^ 63
cost_past vs rows m v past =
    let long = length-map rows (λ (r : Row). r.costs.items) in
    ap (λ (xs : List ℕ). cost_at vs xs v) (get_or_past (map (λ (r : Row). r.costs.items) rows) m [] (omega (arith, long, past)))

-- the row of the empty set, which says nothing
pub rows_none : (I : Network) (ks : List ℕ) (es : List Meaning) (vs : List ℕ) (rows : List Row) (row : Row) → rows ≡ row ∷ [] → row.costs.items ≡ [] → ((k : ℕ) → IsTrue (has ks k) → 1 ≤ mask ks (k ∷ [])) → AreRows I ks es vs rows
rows_none I ks es vs rows row are empty some = record {
  long_costs = λ m low high. absurd (omega (arith, low, high, one));
  long_places = λ m low high. absurd (omega (arith, low, high, one));
  most = λ m v. let far = nothing m v in omega (arith, far);
  placed = λ m v near. let far = nothing m v in absurd (omega (arith, far, near));
  alone = λ k known within. let first = some k known in absurd (omega (arith, first, within, one));
  along = λ m u v c linked. let far = nothing m u in let far_also = nothing m v in omega (arith, far, far_also);
  joined = λ v a b low low_also apart within. absurd (omega (arith, low, low_also, within, one));
}
  where
    one : length rows ≡ 1
    one = ap length are

    nothing : (m v : ℕ) → cost_in vs rows m v ≡ 2 ^ 63
    nothing m v = by_case m
      where
        by_case : (m : ℕ) → cost_in vs rows m v ≡ 2 ^ 63
        by_case zero = ap (λ (rs : List Row). cost_in vs rs 0 v) are ∙ ap (λ (xs : List ℕ). cost_at vs xs v) empty
        by_case (suc m) = cost_past vs rows (suc m) v (omega (arith, one))

-- one row more
module _ (I : Network) (ks : List ℕ) (old_es es : List Meaning) (vs : List ℕ) (rows : List Row) (row : Row) (on : GoesOn old_es es) (are : AreRows I ks old_es vs rows) (is : IsRow I ks es vs rows (length rows) row.costs.items row.places.items) where
  abbrev all : List Row
  all = rows ++ row ∷ []

  longer : length (rows ++ row ∷ []) ≡ length rows + 1
  longer = length-append rows (row ∷ [])

  -- what holds of the rows before, of the last, and past all
  each : (P : ℕ → List ℕ → List ℕ → Type 0) (m : ℕ) → (m < length rows → P m (costs_of rows m) (places_of rows m)) → P (length rows) row.costs.items row.places.items → (length rows < m → P m [] []) → P m (costs_of (rows ++ row ∷ []) m) (places_of (rows ++ row ∷ []) m)
  each P m before here past = by_case (cases_lt m (length rows))
    where
      by_case : (m < length rows) ⊎ (length rows ≤ m) → P m (costs_of (rows ++ row ∷ []) m) (places_of (rows ++ row ∷ []) m)
      by_case (inl below) = subst (λ (xs : List ℕ). P m xs (places_of (rows ++ row ∷ []) m)) (sym (costs_before rows row m below)) (subst (λ (ys : List ℕ). P m (costs_of rows m) ys) (sym (places_before rows row m below)) (before below))
      by_case (inr above) = last (cases_lt (length rows) m)
        where
          last : (length rows < m) ⊎ (m ≤ length rows) → P m (costs_of (rows ++ row ∷ []) m) (places_of (rows ++ row ∷ []) m)
          last (inl beyond) =
              let long = length-map (rows ++ row ∷ []) (λ (r : Row). r.costs.items) in
              let long_also = length-map (rows ++ row ∷ []) (λ (r : Row). r.places.items) in
              let no_costs : costs_of (rows ++ row ∷ []) m ≡ [] = get_or_past (map (λ (r : Row). r.costs.items) (rows ++ row ∷ [])) m [] (omega (arith, long, longer, beyond)) in
              let no_places : places_of (rows ++ row ∷ []) m ≡ [] = get_or_past (map (λ (r : Row). r.places.items) (rows ++ row ∷ [])) m [] (omega (arith, long_also, longer, beyond)) in
              subst (λ (xs : List ℕ). P m xs (places_of (rows ++ row ∷ []) m)) (sym no_costs) (subst (λ (ys : List ℕ). P m [] ys) (sym no_places) (past beyond))
          last (inr not) =
              let here_is : length rows ≡ m = omega (arith, above, not) in
              subst (λ (k : ℕ). P k (costs_of (rows ++ row ∷ []) k) (places_of (rows ++ row ∷ []) k)) here_is
              (subst (λ (xs : List ℕ). P (length rows) xs (places_of (rows ++ row ∷ []) (length rows))) (sym (costs_last rows row)) (subst (λ (ys : List ℕ). P (length rows) row.costs.items ys) (sym (places_last rows row)) here))

  cost_before : (m v : ℕ) → m < length rows → cost_in vs (rows ++ row ∷ []) m v ≡ cost_in vs rows m v
  cost_before m v below = ap (λ (xs : List ℕ). cost_at vs xs v) (costs_before rows row m below)

  pub rows_push : AreRows I ks es vs (rows ++ row ∷ [])
  rows_push = record {
    long_costs = λ m low high. each (λ k xs ys. 1 ≤ k → k < length rows + 1 → length xs ≡ length vs) m (λ below l h. are.long_costs m l below) (λ l h. is.long_costs) (λ beyond l h. absurd (omega (arith, beyond, h))) low (omega (arith, high, longer));
    long_places = λ m low high. each (λ k xs ys. 1 ≤ k → k < length rows + 1 → length ys ≡ length vs) m (λ below l h. are.long_places m l below) (λ l h. is.long_places) (λ beyond l h. absurd (omega (arith, beyond, h))) low (omega (arith, high, longer));
    most = λ m v. each (λ k xs ys. cost_at vs xs v ≤ 2 ^ 63) m (λ below. are.most m v) (is.most v) (λ beyond. omega arith);
    placed = λ m v near. each (λ k xs ys. cost_at vs xs v < 2 ^ 63 → IsEntryAt es (place_at vs ys v) v k (cost_at vs xs v)) m (λ below less. entry_stays old_es es (place_in vs rows m v) v m (cost_in vs rows m v) on (are.placed m v less)) (is.placed v) (λ beyond less. absurd (omega (arith, less))) near;
    alone = λ k known within. each (λ m xs ys. m ≡ mask ks (k ∷ []) → m < length rows + 1 → cost_at vs xs k ≡ 0) (mask ks (k ∷ [])) (λ below same high. are.alone k known below) (λ same high. is.alone k known (sym same)) (λ beyond same high. absurd (omega (arith, beyond, high))) refl (omega (arith, within, longer));
    along = λ m u v c linked. each (λ k xs ys. cost_at vs xs u ≤ cost_at vs xs v + c) m (λ below. are.along m u v c linked) (is.along u v c linked) (λ beyond. omega arith);
    joined = λ v a b low low_also apart within.
        let first = cost_before a v (omega (arith, within, longer, low_also)) in
        let second = cost_before b v (omega (arith, within, longer, low)) in
        let both : cost_in vs (rows ++ row ∷ []) (a + b) v ≤ cost_in vs rows a v + cost_in vs rows b v = each (λ m xs ys. m ≡ a + b → m < length rows + 1 → cost_at vs xs v ≤ cost_in vs rows a v + cost_in vs rows b v) (a + b) (λ below same high. are.joined v a b low low_also apart below) (λ same high. is.joined v a b low low_also apart (sym same)) (λ beyond same high. absurd (omega (arith, beyond, high))) refl (omega (arith, within, longer)) in
        omega (arith, first, second, both);
  }

-- a table that has a row of each set so far
pub record IsFilledTo (I : Network) (ks : List ℕ) (es : List Meaning) (vs : List ℕ) (rows : List Row) (bits : ℕ) : Type 0 where
  pub kept : AreRows I ks es vs rows
  pub parts : HaveParts I ks es
  pub place : length rows ≡ bits

pub filled_none : (I : Network) (ks : List ℕ) (es : List Meaning) (vs : List ℕ) (table : List Row) (row : Row) → es ≡ [] → table ≡ row ∷ [] → row.costs.items ≡ [] → IsFilledTo I ks es vs table 1
filled_none I ks es vs table row none are empty = record {
  kept = rows_none I ks es vs table row are empty (λ k known. mask_some ks k known);
  parts = λ place within. absurd (let long = ap length none in omega (arith, long, within));
  place = ap length are;
}

pub filled_more : (I : Network) (ks : List ℕ) (old_es es : List Meaning) (vs : List ℕ) (old rows : List Row) (row : Row) (bits : ℕ) → IsFilledTo I ks old_es vs old bits → IsRow I ks es vs old bits row.costs.items row.places.items → HaveParts I ks es → GoesOn old_es es → rows ≡ old ++ row ∷ [] → IsFilledTo I ks es vs rows (bits + 1)
filled_more I ks old_es es vs old rows row bits before is parts on more = record {
  kept = subst (AreRows I ks es vs) (sym more) (rows_push I ks old_es es vs old row on before.kept (subst (λ (b : ℕ). IsRow I ks es vs old b row.costs.items row.places.items) (sym before.place) is));
  parts = parts;
  place = let long = ap length more in let longer = length-append old (row ∷ []) in let here = before.place in omega (arith, long, longer, here);
}
