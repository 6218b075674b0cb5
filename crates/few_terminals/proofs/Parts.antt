-- A row before any link: what is joined of lesser rows.
use Rattle.std.proofs.Common.{◌≡◌, ℕ, ◌+◌, ◌-◌, ◌^◌, ◌<◌, ◌≤◌, min, Bool, true, false, cond, List, [], ◌∷◌, length, get_or, set, replicate, refl, sym, ap, subst, ◌∙◌, ◌⊎◌, inl, inr, arith, length-set}
use Rattle.std.specs.Prelude.{IsTrue, bit_and, nat_lt}
use Rattle.std.proofs.lemmas.Bool.{cases_lt}
use Rattle.std.proofs.lemmas.Bool.Decides.{nat_tests}
use Rattle.std.proofs.lemmas.List.{get_or-map, get_or-set_same, get_or-set_other, get_or_past, get_or-replicate, length-replicate}
use Rattle.st_model.specs.Lists.{has}
use Rattle.st_model.specs.Network.{Network}
use Rattle.st_model.specs.VertexSet.{AllApart}
use Rattle.few_terminals.specs.declared.entry.Way.TheVariants.{Joined}
use Rattle.few_terminals.specs.declared.mark.Mark.{Mark}
use Rattle.few_terminals.specs.declared.row.Row.{Row}
use Rattle.few_terminals.specs.Entries.{at, Meaning, HasParts}
use Rattle.few_terminals.specs.Filling.{unknown, mark_at, IsSound, IsBegun, IsJoinedBelow, joined_mark, Joins}
use Rattle.few_terminals.specs.Reach.{slot_of}
use Rattle.few_terminals.specs.Rows.{costs_of, places_of, cost_at, cost_in, place_at, place_in, AreRows}
use Rattle.few_terminals.specs.Under.{mask}
use Rattle.few_terminals.proofs.Marking.{at_set}
use Rattle.few_terminals.proofs.Slots.{at_slot, slot_at}

-- the lists of a row that was read
pub costs_read : (rows : List Row) (m : ℕ) (row : Row) → m < length rows → row ≡ get_or rows m row → row.costs.items ≡ costs_of rows m
costs_read rows m row within read = ap (λ (r : Row). r.costs.items) read ∙ sym (get_or-map (λ (r : Row). r.costs.items) rows m row [] within)

pub places_read : (rows : List Row) (m : ℕ) (row : Row) → m < length rows → row ≡ get_or rows m row → row.places.items ≡ places_of rows m
places_read rows m row within read = ap (λ (r : Row). r.places.items) read ∙ sym (get_or-map (λ (r : Row). r.places.items) rows m row [] within)

-- nothing is known
pub at_unknown : (marks : List Mark) (count v : ℕ) → marks ≡ replicate count unknown → mark_at marks v ≡ unknown
at_unknown marks count v are = ap (λ (ms : List Mark). mark_at ms v) are ∙ by_case (cases_lt v count)
  where
    by_case : (v < count) ⊎ (count ≤ v) → mark_at (replicate count unknown) v ≡ unknown
    by_case (inl within) = get_or-replicate count v unknown unknown within
    by_case (inr past) = get_or_past (replicate count unknown) v unknown (let long = length-replicate count unknown in omega (arith, long, past))

-- what is unknown is sound
pub unknown_sound : (I : Network) (ks : List ℕ) (es : List Meaning) (bits v : ℕ) (mark : Mark) → mark ≡ unknown → IsSound I ks es bits v mark
unknown_sound I ks es bits v mark is =
    let far : mark.cost ≡ 2 ^ 63 = ap (λ (m : Mark). m.cost) is in
    record { most = omega (arith, far); parts = λ near. absurd (omega (arith, far, near)) }

-- before anything is joined, where the set is no terminal alone
pub begun_empty : (I : Network) (ks : List ℕ) (es : List Meaning) (bits vertices : ℕ) (marks : List Mark) → I.n ≡ vertices → marks ≡ replicate (vertices + 1) unknown → ((k : ℕ) → IsTrue (has ks k) → mask ks (k ∷ []) ≡ bits → ⊥) → IsBegun I ks es bits marks
begun_empty I ks es bits vertices marks same are none = record {
  long = ap length are ∙ (length-replicate (vertices + 1) unknown ∙ ap (λ (n : ℕ). n + 1) (sym same));
  sound = λ v. unknown_sound I ks es bits v (mark_at marks v) (at_unknown marks (vertices + 1) v are);
  alone = λ k known is. absurd (none k known is);
}

-- where it is one
pub begun_alone : (I : Network) (ks : List ℕ) (es : List Meaning) (bits vertices terminal : ℕ) (marks : List Mark) (m : Mark) → I.n ≡ vertices → marks ≡ replicate (vertices + 1) unknown → terminal < length marks → m.cost ≡ 0 → m.way ≡ unknown.way → mask ks (terminal ∷ []) ≡ bits → ((k : ℕ) → IsTrue (has ks k) → mask ks (k ∷ []) ≡ bits → k ≡ terminal) → IsBegun I ks es bits (set marks terminal m)
begun_alone I ks es bits vertices terminal marks m same are within free way own only = record {
  long = length-set marks terminal m ∙ (ap length are ∙ (length-replicate (vertices + 1) unknown ∙ ap (λ (n : ℕ). n + 1) (sym same)));
  sound = λ v. at_set (IsSound I ks es bits) marks terminal v m within (record {
    most = omega (arith, free);
    parts = λ near. subst (λ w. HasParts I ks es (length es) (record { vertex = terminal; bits = bits; cost = m.cost; way = w }) w) (sym way) (sym own, free);
  }) (λ differ. unknown_sound I ks es bits v (mark_at marks v) (at_unknown marks (vertices + 1) v are));
  alone = λ k known is. at_set (λ x mark. x ≡ terminal → mark.cost ≡ 0) marks terminal k m within (λ e. free) (λ differ e. absurd (differ e)) (only k known is);
}

-- nothing is joined below the first part
pub joined_none : (I : Network) (ks : List ℕ) (es : List Meaning) (vs : List ℕ) (rows : List Row) (bits : ℕ) (marks : List Mark) → IsBegun I ks es bits marks → IsJoinedBelow I ks es vs rows bits 1 marks
joined_none I ks es vs rows bits marks begun = record { begun = begun; joined = λ v a b low high. absurd (omega (arith, low, high)) }

-- a part that needn't be joined
pub joined_skip : (I : Network) (ks : List ℕ) (es : List Meaning) (vs : List ℕ) (rows : List Row) (bits part : ℕ) (marks : List Mark) → (part < bits - part → bit_and part (bits - part) ≡ 0 → ⊥) → IsJoinedBelow I ks es vs rows bits part marks → IsJoinedBelow I ks es vs rows bits (part + 1) marks
joined_skip I ks es vs rows bits part marks none before = record {
  begun = before.begun;
  joined = λ v a b low high less apart sum. by_case v a b low less apart sum (cases_lt a part) high;
}
  where
    by_case : (v a b : ℕ) → 1 ≤ a → a < b → bit_and a b ≡ 0 → a + b ≡ bits → (a < part) ⊎ (part ≤ a) → a < part + 1 → (mark_at marks v).cost ≤ cost_in vs rows a v + cost_in vs rows b v
    by_case v a b low less apart sum (inl below) high = before.joined v a b low below less apart sum
    by_case v a b low less apart sum (inr above) high =
        let here : a ≡ part = omega (arith, above, high) in
        let rest : b ≡ bits - part = omega (arith, here, sum) in
        absurd (none (omega (arith, here, rest, less)) (subst (λ (x : ℕ). bit_and x (bits - part) ≡ 0) here (subst (λ (y : ℕ). bit_and a y ≡ 0) rest apart)))

-- what an offer of two rows makes of a mark, where it costs less, and where it doesn't
pub joined_less_is : (mark : Mark) (c d cost p q : ℕ) → cost ≡ min (c + d) (2 ^ 64 - 1) → cost < mark.cost → mark.cost < 2 ^ 64 → record { cost = cost; way = Joined p q; place = 0 } ≡ joined_mark mark c d p q
joined_less_is mark c d cost p q sum less fits =
    let same : cost ≡ c + d = omega (arith, sum, less, fits) in
    let test : nat_lt (c + d) mark.cost ≡ true = grind (arith, nat_tests) in
    rw (test, same) refl

pub joined_more_is : (mark : Mark) (c d cost p q : ℕ) → cost ≡ min (c + d) (2 ^ 64 - 1) → mark.cost ≤ cost → mark ≡ joined_mark mark c d p q
joined_more_is mark c d cost p q sum more =
    let least : mark.cost ≤ c + d = omega (arith, sum, more) in
    let test : nat_lt (c + d) mark.cost ≡ false = grind (arith, nat_tests) in
    rw test refl

-- one slot more
module _ (vs : List ℕ) (slot : ℕ) (first second : Row) (initial old : List Mark) (once : AllApart vs) (within : slot < length vs) (before : Joins vs slot initial first second old) where
  abbrev here : ℕ
  here = get_or vs slot 0

  abbrev joined_here : Mark → Mark
  joined_here m = joined_mark m (get_or first.costs.items slot (2 ^ 63)) (get_or second.costs.items slot (2 ^ 63)) (get_or first.places.items slot 0) (get_or second.places.items slot 0)

  joined_next : (new : List Mark) → length new ≡ length old → mark_at new here ≡ joined_here (mark_at old here) → ((v : ℕ) → (v ≡ here → ⊥) → mark_at new v ≡ mark_at old v) → Joins vs (slot + 1) initial first second new
  joined_next new long is kept = record {
    long = long ∙ before.long;
    at = λ v low. by_case v low (cases_lt (slot_of vs v) slot);
    others = λ v high. kept v (λ same. let there = ap (slot_of vs) same in omega (arith, high, there, own)) ∙ before.others v (omega (arith, high));
  }
    where
      own : slot_of vs here ≡ slot
      own = slot_at vs slot once within

      at_own : mark_at new here ≡ joined_mark (mark_at old here) (cost_at vs first.costs.items here) (cost_at vs second.costs.items here) (place_at vs first.places.items here) (place_at vs second.places.items here)
      at_own = subst (λ (i : ℕ). mark_at new here ≡ joined_mark (mark_at old here) (get_or first.costs.items i (2 ^ 63)) (get_or second.costs.items i (2 ^ 63)) (get_or first.places.items i 0) (get_or second.places.items i 0)) (sym own) is

      by_case : (v : ℕ) → slot_of vs v < slot + 1 → (slot_of vs v < slot) ⊎ (slot ≤ slot_of vs v) → mark_at new v ≡ joined_mark (mark_at initial v) (cost_at vs first.costs.items v) (cost_at vs second.costs.items v) (place_at vs first.places.items v) (place_at vs second.places.items v)
      by_case v low (inl below) = kept v (λ same. let there = ap (slot_of vs) same in omega (arith, below, there, own)) ∙ before.at v below
      by_case v low (inr above) =
          let slot_is : slot_of vs v ≡ slot = omega (arith, low, above) in
          let same : here ≡ v = ap (λ (i : ℕ). get_or vs i 0) (sym slot_is) ∙ at_slot vs v (omega (arith, low, within)) in
          subst (λ (x : ℕ). mark_at new x ≡ joined_mark (mark_at initial x) (cost_at vs first.costs.items x) (cost_at vs second.costs.items x) (place_at vs first.places.items x) (place_at vs second.places.items x)) same
          (subst (λ (m : Mark). mark_at new here ≡ joined_mark m (cost_at vs first.costs.items here) (cost_at vs second.costs.items here) (place_at vs first.places.items here) (place_at vs second.places.items here)) (before.others here (omega (arith, own))) at_own)

  pub joined_set : (m : Mark) → here < length old → m ≡ joined_here (mark_at old here) → Joins vs (slot + 1) initial first second (set old here m)
  joined_set m range is = joined_next (set old here m) (length-set old here m) (get_or-set_same old here m unknown range ∙ is) (λ v differ. get_or-set_other old here v m unknown differ)

  pub joined_left : mark_at old here ≡ joined_here (mark_at old here) → Joins vs (slot + 1) initial first second old
  joined_left is = joined_next old refl is (λ v differ. refl)

-- two marks of which the lesser is taken
module _ (I : Network) (ks : List ℕ) (es : List Meaning) (vs : List ℕ) (rows : List Row) (bits part rest : ℕ) (rows_are : AreRows I ks es vs rows) (sum : part + rest ≡ bits) (apart : bit_and part rest ≡ 0) where
  joined_sound : (v : ℕ) (mark : Mark) → IsSound I ks es bits v mark → IsSound I ks es bits v (joined_mark mark (cost_in vs rows part v) (cost_in vs rows rest v) (place_in vs rows part v) (place_in vs rows rest v))
  joined_sound v mark sound = by_case (nat_lt (cost_in vs rows part v + cost_in vs rows rest v) mark.cost) (λ is. grind (arith, nat_tests))
    where
      c : ℕ
      c = cost_in vs rows part v + cost_in vs rows rest v

      by_case : (b : Bool) → (b ≡ true → cost_in vs rows part v + cost_in vs rows rest v < mark.cost) → IsSound I ks es bits v (cond b (record { cost = cost_in vs rows part v + cost_in vs rows rest v; way = Joined (place_in vs rows part v) (place_in vs rows rest v); place = 0 }) mark)
      by_case false less = sound
      by_case true less =
          let most = sound.most in
          let below = less refl in
          record {
            most = omega (arith, most, below);
            parts = λ near.
                let first = rows_are.placed part v (omega (arith, most, below)) in
                let second = rows_are.placed rest v (omega (arith, most, below)) in (
                  first.within,
                  second.within,
                  record {
                    first = first.vertex_is;
                    second = second.vertex_is;
                    apart = subst (λ (x : ℕ). bit_and x (at es (place_in vs rows rest v)).bits ≡ 0) (sym first.bits_is) (subst (λ (y : ℕ). bit_and part y ≡ 0) (sym second.bits_is) apart);
                    bits = sym sum ∙ (ap (λ (x : ℕ). x + rest) (sym first.bits_is) ∙ ap (λ (y : ℕ). (at es (place_in vs rows part v)).bits + y) (sym second.bits_is));
                    cost = let one = first.cost_is in let other = second.cost_is in omega (arith, one, other);
                  },
                );
          }

  joined_less : (v : ℕ) (mark : Mark) (p q : ℕ) → (joined_mark mark (cost_in vs rows part v) (cost_in vs rows rest v) p q).cost ≤ cost_in vs rows part v + cost_in vs rows rest v
  joined_less v mark p q = by_case (nat_lt (cost_in vs rows part v + cost_in vs rows rest v) mark.cost) (λ is. grind (arith, nat_tests))
    where
      by_case : (b : Bool) → (b ≡ false → mark.cost ≤ cost_in vs rows part v + cost_in vs rows rest v) → (cond b (record { cost = cost_in vs rows part v + cost_in vs rows rest v; way = Joined p q; place = 0 }) mark).cost ≤ cost_in vs rows part v + cost_in vs rows rest v
      by_case true more = omega arith
      by_case false more = more refl

  joined_falls : (mark : Mark) (c d p q : ℕ) → (joined_mark mark c d p q).cost ≤ mark.cost
  joined_falls mark c d p q = by_case (nat_lt (c + d) mark.cost) (λ is. grind (arith, nat_tests))
    where
      by_case : (b : Bool) → (b ≡ true → c + d < mark.cost) → (cond b (record { cost = c + d; way = Joined p q; place = 0 }) mark).cost ≤ mark.cost
      by_case true less = let below = less refl in omega (arith, below)
      by_case false less = omega arith

  -- one part more
  pub joined_more : (old new : List Mark) (first second : Row) → first.costs.items ≡ costs_of rows part → first.places.items ≡ places_of rows part → second.costs.items ≡ costs_of rows rest → second.places.items ≡ places_of rows rest → length first.costs.items ≡ length vs → Joins vs (length vs) old first second new → IsJoinedBelow I ks es vs rows bits part old → IsJoinedBelow I ks es vs rows bits (part + 1) new
  joined_more old new first second first_costs first_places second_costs second_places first_long joins before = record {
    begun = record {
      long = joins.long ∙ before.begun.long;
      sound = λ v. with_new (IsSound I ks es bits v) v (λ is. subst (IsSound I ks es bits v) (sym is) (joined_sound v (mark_at old v) (before.begun.sound v))) (λ same. subst (IsSound I ks es bits v) (sym same) (before.begun.sound v));
      alone = λ k known is. let less = falls k in let zero_is = before.begun.alone k known is in omega (arith, less, zero_is);
    };
    joined = λ v a b low high less apart_is sum_is. by_case v a b low less apart_is sum_is (cases_lt a part) high;
  }
    where
      made : (v : ℕ) → slot_of vs v < length vs → mark_at new v ≡ joined_mark (mark_at old v) (cost_in vs rows part v) (cost_in vs rows rest v) (place_in vs rows part v) (place_in vs rows rest v)
      made v within = joins.at v within ∙ (ap (λ (xs : List ℕ). joined_mark (mark_at old v) (cost_at vs xs v) (cost_at vs second.costs.items v) (place_at vs first.places.items v) (place_at vs second.places.items v)) first_costs
          ∙ (ap (λ (xs : List ℕ). joined_mark (mark_at old v) (cost_in vs rows part v) (cost_at vs xs v) (place_at vs first.places.items v) (place_at vs second.places.items v)) second_costs
          ∙ (ap (λ (xs : List ℕ). joined_mark (mark_at old v) (cost_in vs rows part v) (cost_in vs rows rest v) (place_at vs xs v) (place_at vs second.places.items v)) first_places
          ∙ ap (λ (xs : List ℕ). joined_mark (mark_at old v) (cost_in vs rows part v) (cost_in vs rows rest v) (place_in vs rows part v) (place_at vs xs v)) second_places)))

      with_new : (P : Mark → Type 0) (v : ℕ) → (mark_at new v ≡ joined_mark (mark_at old v) (cost_in vs rows part v) (cost_in vs rows rest v) (place_in vs rows part v) (place_in vs rows rest v) → P (mark_at new v)) → (mark_at new v ≡ mark_at old v → P (mark_at new v)) → P (mark_at new v)
      with_new P v within past = split (cases_lt (slot_of vs v) (length vs))
        where
          split : (slot_of vs v < length vs) ⊎ (length vs ≤ slot_of vs v) → P (mark_at new v)
          split (inl low) = within (made v low)
          split (inr high) = past (joins.others v high)

      falls : (v : ℕ) → (mark_at new v).cost ≤ (mark_at old v).cost
      falls v = with_new (λ m. m.cost ≤ (mark_at old v).cost) v
          (λ is. subst (λ (m : Mark). m.cost ≤ (mark_at old v).cost) (sym is) (joined_falls (mark_at old v) (cost_in vs rows part v) (cost_in vs rows rest v) (place_in vs rows part v) (place_in vs rows rest v)))
          (λ same. subst (λ (m : Mark). m.cost ≤ (mark_at old v).cost) (sym same) (omega arith))

      lowest : (v : ℕ) → (mark_at new v).cost ≤ cost_in vs rows part v + cost_in vs rows rest v
      lowest v = split (cases_lt (slot_of vs v) (length vs))
        where
          split : (slot_of vs v < length vs) ⊎ (length vs ≤ slot_of vs v) → (mark_at new v).cost ≤ cost_in vs rows part v + cost_in vs rows rest v
          split (inl low) = subst (λ (m : Mark). m.cost ≤ cost_in vs rows part v + cost_in vs rows rest v) (sym (made v low)) (joined_less v (mark_at old v) (place_in vs rows part v) (place_in vs rows rest v))
          split (inr high) =
              let far : cost_in vs rows part v ≡ 2 ^ 63 = ap (λ (xs : List ℕ). cost_at vs xs v) (sym first_costs) ∙ get_or_past first.costs.items (slot_of vs v) (2 ^ 63) (omega (arith, first_long, high)) in
              let most = (before.begun.sound v).most in
              let fell = falls v in
              omega (arith, far, most, fell)

      by_case : (v a b : ℕ) → 1 ≤ a → a < b → bit_and a b ≡ 0 → a + b ≡ bits → (a < part) ⊎ (part ≤ a) → a < part + 1 → (mark_at new v).cost ≤ cost_in vs rows a v + cost_in vs rows b v
      by_case v a b low less apart_is sum_is (inl below) high = let old_is = before.joined v a b low below less apart_is sum_is in let fell = falls v in omega (arith, old_is, fell)
      by_case v a b low less apart_is sum_is (inr above) high =
          let here : a ≡ part = omega (arith, above, high) in
          let other : b ≡ rest = omega (arith, here, sum_is, sum) in
          subst (λ (x : ℕ). (mark_at new v).cost ≤ cost_in vs rows x v + cost_in vs rows b v) (sym here) (subst (λ (y : ℕ). (mark_at new v).cost ≤ cost_in vs rows part v + cost_in vs rows y v) (sym other) (lowest v))
