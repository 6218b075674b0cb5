-- That each half is where its link says, kept over each change.
use Rattle.std.proofs.Common.{◌≡◌, ℕ, ◌+◌, ◌-◌, ◌<◌, ◌≤◌, Bool, true, false, cond, eqb, nat_lt, List, length, get_or, slice_get, Option, Some, None, option_map, refl, sym, ap, ◌∙◌, arith, eq-eqb}
use Rattle.std.proofs.lemmas.Bool.Decides.{nat_tests}
use Rattle.std.proofs.lemmas.Option.{slice_get-get_or, slice_get_within}
use Rattle.graph_store.specs.declared.half.Half.{Half}
use Rattle.graph_store.specs.Joined.{AreHalves, AreHalvesBut, with_cost}

-- the parts of two pairs that are the same
pub same_parts : (k c l d : ℕ) → ◌≡◌ {A = Option (ℕ × ℕ)} (Some (k, c)) (Some (l, d)) → (k ≡ l) × (c ≡ d)
same_parts k c l d h = let pairs : ◌≡◌ {A = ℕ × ℕ} (k, c) (l, d) = cc in (ap (λ (p : ℕ × ℕ). p.0) pairs, ap (λ (p : ℕ × ℕ). p.1) pairs)

-- the list after the half at a place was taken out, and the last one moved there
abbrev pub IsTaken : List Half → List Half → ℕ → Type 0
IsTaken old new place = (k : ℕ) → slice_get new k ≡ cond (nat_lt (k + 1) (length old)) (cond (eqb k place) (slice_get old (length old - 1)) (slice_get old k)) None

module _ (old new : List Half) (place : ℕ) (taken : IsTaken old new place) where
  -- where there is a half, the list was longer
  there : (k : ℕ) (half : Half) → slice_get new k ≡ Some half → (k + 1 < length old) × (cond (eqb k place) (slice_get old (length old - 1)) (slice_get old k) ≡ Some half)
  there k half is = by_case (nat_lt (k + 1) (length old)) refl (sym (taken k) ∙ is)
    where
      by_case : (b : Bool) → nat_lt (k + 1) (length old) ≡ b → cond b (cond (eqb k place) (slice_get old (length old - 1)) (slice_get old k)) None ≡ Some half → (k + 1 < length old) × (cond (eqb k place) (slice_get old (length old - 1)) (slice_get old k) ≡ Some half)
      by_case true less is = (grind (arith, nat_tests), is)
      by_case false less is = cc

  -- another place than the taken one still has what it had, unless it was the last
  kept : (k : ℕ) (half : Half) → (k ≡ place → ⊥) → k + 1 < length old → slice_get old k ≡ Some half → slice_get new k ≡ Some half
  kept k half other less is =
      let yes : nat_lt (k + 1) (length old) ≡ true = grind (arith, nat_tests) in
      let no : eqb k place ≡ false = grind (arith, nat_tests) in
      taken k ∙ rw (yes, no) is

  -- what stands elsewhere after all stood there before
  was : (k : ℕ) (half : Half) → (k ≡ place → ⊥) → slice_get new k ≡ Some half → slice_get old k ≡ Some half
  was k half other is = let no : eqb k place ≡ false = grind (arith, nat_tests) in rw no at (there k half is).1

  module _ (within : place < length old) (P : ℕ → Option (ℕ × ℕ)) (but : AreHalvesBut place old P) where
    -- where the last one was taken, no other has moved
    pub AreHalves-last : slice_get new place ≡ None → AreHalves new P
    AreHalves-last none = record {
      placed = λ k half is.
          let other : k ≡ place → ⊥ = λ e. let here = ap (slice_get new) (sym e) ∙ is in cc in
          but.placed k half other (was k half other is);
      found = λ w k cost is.
          let f = but.found w k cost is in
          let inside = slice_get_within old k _ f.1 in
          kept k _ f.0 (not_last k inside f.0) f.1;
    }
      where
        at_end : length old ≤ place + 1
        at_end = by_case (nat_lt (place + 1) (length old)) refl
          where
            by_case : (b : Bool) → nat_lt (place + 1) (length old) ≡ b → length old ≤ place + 1
            by_case true less =
                let yes : eqb place place ≡ true = eq-eqb place place refl in
                let d : Half = record { to = 0; cost = 0 } in
                let last = slice_get-get_or old (length old - 1) d (omega arith) in
                let value : slice_get new place ≡ slice_get old (length old - 1) = taken place ∙ rw (less, yes) refl in
                let clash : ◌≡◌ {A = Option Half} None (Some (get_or old (length old - 1) d)) = sym none ∙ value ∙ last in
                absurd (let no : ⊥ = cc in no)
            by_case false less = grind (arith, nat_tests)

        not_last : (k : ℕ) → k < length old → (k ≡ place → ⊥) → k + 1 < length old
        not_last k inside other = omega (arith, at_end)

    -- else the one that has moved is at the place
    pub AreHalves-moved : (moved : Half) (Q : ℕ → Option (ℕ × ℕ)) → slice_get new place ≡ Some moved → ((w : ℕ) → Q w ≡ cond (eqb w moved.to) (option_map (λ p. (place, p.1)) (P w)) (P w)) → AreHalves new Q
    AreHalves-moved moved Q here turns = record { placed = placed; found = found }
      where
        less : place + 1 < length old
        less = (there place moved here).0

        last : slice_get old (length old - 1) ≡ Some moved
        last = let yes : eqb place place ≡ true = eq-eqb place place refl in rw yes at (there place moved here).1

        known : P moved.to ≡ Some (length old - 1, moved.cost)
        known = but.placed (length old - 1) moved (λ e. omega (arith, less)) last

        told_now : Q moved.to ≡ Some (place, moved.cost)
        told_now = let yes : eqb moved.to moved.to ≡ true = eq-eqb moved.to moved.to refl in turns moved.to ∙ rw (yes, known) refl

        same : (w : ℕ) → (w ≡ moved.to → ⊥) → Q w ≡ P w
        same w other = let no : eqb w moved.to ≡ false = grind (arith, nat_tests) in turns w ∙ rw no refl

        placed : (k : ℕ) (half : Half) → slice_get new k ≡ Some half → Q half.to ≡ Some (k, half.cost)
        placed k half is = by_case (eqb k place) refl
          where
            by_case : (b : Bool) → eqb k place ≡ b → Q half.to ≡ Some (k, half.cost)
            by_case true at =
                let at' : k ≡ place = grind (arith, nat_tests) in
                let one : slice_get new place ≡ Some half = ap (slice_get new) (sym at') ∙ is in
                let same_half : half ≡ moved = cc in
                ap (λ (h : Half). Q h.to) same_half ∙ told_now ∙ (λ j. Some (sym at' j, (sym same_half j).cost))
            by_case false at =
                let other : k ≡ place → ⊥ = λ e. grind (arith, nat_tests) in
                let old_place = but.placed k half other (was k half other is) in
                let bound = (there k half is).0 in
                let apart : half.to ≡ moved.to → ⊥ = λ e. (let both : ◌≡◌ {A = Option (ℕ × ℕ)} (Some (k, half.cost)) (Some (length old - 1, moved.cost)) = sym old_place ∙ ap P e ∙ known in let places : k ≡ length old - 1 = (same_parts k half.cost (length old - 1) moved.cost both).0 in omega arith) in
                same half.to apart ∙ old_place

        found : (w k cost : ℕ) → Q w ≡ Some (k, cost) → slice_get new k ≡ Some (record { to = w; cost = cost })
        found w k cost is = by_case (eqb w moved.to) refl
          where
            by_case : (b : Bool) → eqb w moved.to ≡ b → slice_get new k ≡ Some (record { to = w; cost = cost })
            by_case true at =
                let at' : w ≡ moved.to = grind (arith, nat_tests) in
                let both : ◌≡◌ {A = Option (ℕ × ℕ)} (Some (k, cost)) (Some (place, moved.cost)) = sym is ∙ ap Q at' ∙ told_now in
                let places = (same_parts k cost place moved.cost both).0 in
                let costs = (same_parts k cost place moved.cost both).1 in
                ap (slice_get new) places ∙ here ∙ (λ j. Some (record { to = sym at' j; cost = sym costs j }))
            by_case false at =
                let other : w ≡ moved.to → ⊥ = λ e. grind (arith, nat_tests) in
                let f = but.found w k cost (sym (same w other) ∙ is) in
                let inside = slice_get_within old k _ f.1 in
                let not_last : k ≡ length old - 1 → ⊥ = λ e. (let both : ◌≡◌ {A = Option Half} (Some (record { to = w; cost = cost })) (Some moved) = sym f.1 ∙ ap (slice_get old) e ∙ last in let halves : moved ≡ (record { to = w; cost = cost }) = cc in other (sym (ap (λ (h : Half). h.to) halves))) in
                kept k _ f.0 (omega arith) f.1

-- a half after the others, and the place of its link
pub AreHalves-push : (old new : List Half) (P Q : ℕ → Option (ℕ × ℕ)) (to cost : ℕ) → ((k : ℕ) → slice_get new k ≡ cond (eqb k (length old)) (Some (record { to = to; cost = cost })) (slice_get old k)) → AreHalves old P → P to ≡ None
    → ((w : ℕ) → Q w ≡ cond (eqb w to) (Some (length old, cost)) (P w)) → AreHalves new Q
AreHalves-push old new P Q to cost pushed halves none turns = record { placed = placed; found = found }
  where
    placed : (k : ℕ) (half : Half) → slice_get new k ≡ Some half → Q half.to ≡ Some (k, half.cost)
    placed k half is = by_case (eqb k (length old)) refl (sym (pushed k) ∙ is)
      where
        by_case : (b : Bool) → eqb k (length old) ≡ b → cond b (Some (record { to = to; cost = cost })) (slice_get old k) ≡ Some half → Q half.to ≡ Some (k, half.cost)
        by_case true at is =
            let at' : length old ≡ k = grind (arith, nat_tests) in
            let same : ◌≡◌ {A = Half} (record { to = to; cost = cost }) half = cc in
            let yes : eqb to to ≡ true = eq-eqb to to refl in
            ap Q (sym (ap (λ (h : Half). h.to) same)) ∙ turns to ∙ rw yes (λ j. Some (at' j, (same j).cost))
        by_case false at is =
            let old_place = halves.placed k half is in
            let apart : half.to ≡ to → ⊥ = λ e. (let clash : ◌≡◌ {A = Option (ℕ × ℕ)} None (Some (k, half.cost)) = sym none ∙ ap P (sym e) ∙ old_place in cc) in
            let no : eqb half.to to ≡ false = grind (arith, nat_tests) in
            turns half.to ∙ rw no old_place

    found : (w k c : ℕ) → Q w ≡ Some (k, c) → slice_get new k ≡ Some (record { to = w; cost = c })
    found w k c is = by_case (eqb w to) refl (sym (turns w) ∙ is)
      where
        by_case : (b : Bool) → eqb w to ≡ b → cond b (Some (length old, cost)) (P w) ≡ Some (k, c) → slice_get new k ≡ Some (record { to = w; cost = c })
        by_case true at is =
            let at' : to ≡ w = grind (arith, nat_tests) in
            let parts = same_parts (length old) cost k c is in
            let yes : eqb k (length old) ≡ true = eq-eqb k (length old) (sym parts.0) in
            pushed k ∙ rw yes (λ j. Some (record { to = at' j; cost = parts.1 j }))
        by_case false at is =
            let old_half = halves.found w k c is in
            let inside = slice_get_within old k _ old_half in
            let no : eqb k (length old) ≡ false = grind (arith, nat_tests) in
            pushed k ∙ rw no old_half

-- a half at another cost, and its link too
pub AreHalves-cost : (old new : List Half) (P Q : ℕ → Option (ℕ × ℕ)) (to place was cost : ℕ) → ((k : ℕ) → slice_get new k ≡ cond (eqb k place) (option_map (with_cost cost) (slice_get old k)) (slice_get old k)) → AreHalves old P → P to ≡ Some (place, was)
    → ((w : ℕ) → Q w ≡ cond (eqb w to) (option_map (λ p. (p.0, cost)) (P w)) (P w)) → AreHalves new Q
AreHalves-cost old new P Q to place was cost written halves at turns = record { placed = placed; found = found }
  where
    here : slice_get old place ≡ Some (record { to = to; cost = was })
    here = halves.found to place was at

    placed : (k : ℕ) (half : Half) → slice_get new k ≡ Some half → Q half.to ≡ Some (k, half.cost)
    placed k half is = by_case (eqb k place) refl (sym (written k) ∙ is)
      where
        by_case : (b : Bool) → eqb k place ≡ b → cond b (option_map (with_cost cost) (slice_get old k)) (slice_get old k) ≡ Some half → Q half.to ≡ Some (k, half.cost)
        by_case true same is =
            let same' : place ≡ k = grind (arith, nat_tests) in
            let one : ◌≡◌ {A = Option Half} (Some (record { to = to; cost = cost })) (Some half) = sym (ap (option_map (with_cost cost)) (ap (slice_get old) (sym same') ∙ here)) ∙ is in
            let half_is : ◌≡◌ {A = Half} (record { to = to; cost = cost }) half = cc in
            let yes : eqb to to ≡ true = eq-eqb to to refl in
            ap Q (sym (ap (λ (h : Half). h.to) half_is)) ∙ turns to ∙ rw (yes, at) (λ j. Some (same' j, (half_is j).cost))
        by_case false other is =
            let old_place = halves.placed k half is in
            let apart : half.to ≡ to → ⊥ = λ e. (let both : ◌≡◌ {A = Option (ℕ × ℕ)} (Some (k, half.cost)) (Some (place, was)) = sym old_place ∙ ap P e ∙ at in let same = (same_parts k half.cost place was both).0 in grind (arith, nat_tests)) in
            let no : eqb half.to to ≡ false = grind (arith, nat_tests) in
            turns half.to ∙ rw no old_place

    found : (w k c : ℕ) → Q w ≡ Some (k, c) → slice_get new k ≡ Some (record { to = w; cost = c })
    found w k c is = by_case (eqb w to) refl (sym (turns w) ∙ is)
      where
        by_case : (b : Bool) → eqb w to ≡ b → cond b (option_map (λ p. (p.0, cost)) (P w)) (P w) ≡ Some (k, c) → slice_get new k ≡ Some (record { to = w; cost = c })
        by_case true same is =
            let same' : w ≡ to = grind (arith, nat_tests) in
            let one : ◌≡◌ {A = Option (ℕ × ℕ)} (Some (place, cost)) (Some (k, c)) = sym (ap (option_map (λ (p : ℕ × ℕ). (p.0, cost))) (ap P same' ∙ at)) ∙ is in
            let parts = same_parts place cost k c one in
            let yes : eqb k place ≡ true = eq-eqb k place (sym parts.0) in
            written k ∙ rw yes (ap (option_map (with_cost cost)) (ap (slice_get old) (sym parts.0) ∙ here) ∙ (λ j. Some (record { to = sym same' j; cost = parts.1 j })))
        by_case false other is =
            let old_half = halves.found w k c is in
            let apart : k ≡ place → ⊥ = λ e. (let both : ◌≡◌ {A = Option Half} (Some (record { to = w; cost = c })) (Some (record { to = to; cost = was })) = sym old_half ∙ ap (slice_get old) e ∙ here in let one : ◌≡◌ {A = Half} (record { to = w; cost = c }) (record { to = to; cost = was }) = cc in let tos = ap (λ (h : Half). h.to) one in grind (arith, nat_tests)) in
            let no : eqb k place ≡ false = grind (arith, nat_tests) in
            written k ∙ rw no old_half

-- lists and links that read the same
pub AreHalves-same : (old new : List Half) (P Q : ℕ → Option (ℕ × ℕ)) → new ≡ old → ((w : ℕ) → Q w ≡ P w) → AreHalves old P → AreHalves new Q
AreHalves-same old new P Q same turns halves = record {
  placed = λ k half is. turns half.to ∙ halves.placed k half (ap (λ (hs : List Half). slice_get hs k) (sym same) ∙ is);
  found = λ w k c is. ap (λ (hs : List Half). slice_get hs k) same ∙ halves.found w k c (sym (turns w) ∙ is);
}

-- where a link was taken out whose half is at a place
pub AreHalves-without : (halves : List Half) (P Q : ℕ → Option (ℕ × ℕ)) (to place cost : ℕ) → AreHalves halves P → P to ≡ Some (place, cost) → ((w : ℕ) → Q w ≡ cond (eqb w to) None (P w)) → AreHalvesBut place halves Q
AreHalves-without halves P Q to place cost are at turns = record {
  placed = λ k half other is.
      let old_place = are.placed k half is in
      let apart : half.to ≡ to → ⊥ = λ e. (let both : ◌≡◌ {A = Option (ℕ × ℕ)} (Some (k, half.cost)) (Some (place, cost)) = sym old_place ∙ ap P e ∙ at in other (same_parts k half.cost place cost both).0) in
      let no : eqb half.to to ≡ false = grind (arith, nat_tests) in
      turns half.to ∙ rw no old_place;
  found = λ w k c is. by_case w k c (eqb w to) refl (sym (turns w) ∙ is);
}
  where
    by_case : (w k c : ℕ) (b : Bool) → eqb w to ≡ b → cond b None (P w) ≡ Some (k, c) → (k ≡ place → ⊥) × (slice_get halves k ≡ Some (record { to = w; cost = c }))
    by_case w k c true same is = cc
    by_case w k c false other is =
        let here = are.found to place cost at in
        let half = are.found w k c is in
        ((λ e. (let both : ◌≡◌ {A = Option Half} (Some (record { to = w; cost = c })) (Some (record { to = to; cost = cost })) = sym half ∙ ap (slice_get halves) e ∙ here in let one : ◌≡◌ {A = Half} (record { to = w; cost = c }) (record { to = to; cost = cost }) = cc in let tos = ap (λ (h : Half). h.to) one in grind (arith, nat_tests))), half)

-- of what is said but for one place, the last half is known where another has moved
pub told_last : (old new : List Half) (place : ℕ) (P : ℕ → Option (ℕ × ℕ)) (moved : Half) → IsTaken old new place → AreHalvesBut place old P → slice_get new place ≡ Some moved → P moved.to ≡ Some (length old - 1, moved.cost)
told_last old new place P moved taken but here =
    let at = there old new place taken place moved here in
    let yes : eqb place place ≡ true = eq-eqb place place refl in
    but.placed (length old - 1) moved (λ e. (let less = at.0 in omega arith)) (rw yes at at.1)

-- the same of all but one place, where lists and links read the same
pub AreHalvesBut-same : (place : ℕ) (old new : List Half) (P Q : ℕ → Option (ℕ × ℕ)) → new ≡ old → ((w : ℕ) → Q w ≡ P w) → AreHalvesBut place old P → AreHalvesBut place new Q
AreHalvesBut-same place old new P Q same turns halves = record {
  placed = λ k half other is. turns half.to ∙ halves.placed k half other (ap (λ (hs : List Half). slice_get hs k) (sym same) ∙ is);
  found = λ w k c is. let f = halves.found w k c (sym (turns w) ∙ is) in (f.0, ap (λ (hs : List Half). slice_get hs k) same ∙ f.1);
}
