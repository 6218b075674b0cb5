-- All links from a vertex are offered, and an offer is taken.
use Rattle.std.proofs.Common.{◌≡◌, ℕ, ◌+◌, ◌-◌, ◌^◌, ◌<◌, ◌≤◌, min, List, [], ◌∷◌, ◌++◌, length, set, Some, refl, sym, ap, subst, ◌∙◌, inl, inr, arith, length-set, IsPermutation}
use Rattle.std.specs.Prelude.{All}
use Rattle.std.specs.BinaryHeap.{heap_items}
use Rattle.std.proofs.lemmas.List.{get_or-set_same}
use Rattle.std.proofs.lemmas.List.Elements.{All-push, All-nil, All-weaker, All-contains}
use Rattle.st_model.specs.Network.{Network, IsVertex, link}
use Rattle.st_model.proofs.Distinct.{link-comm}
use Rattle.graph_store.specs.declared.half.Half.{Half}
use Rattle.graph_store.specs.Neighbours.{AreNeighbours}
use Rattle.few_terminals.specs.declared.entry.Entry.{Entry}
use Rattle.few_terminals.specs.declared.entry.Way.TheVariants.{Along}
use Rattle.few_terminals.specs.declared.filling.Filling.{Filling}
use Rattle.few_terminals.specs.declared.mark.Mark.{Mark}
use Rattle.few_terminals.specs.Entries.{meanings, HaveParts, Meaning, IsEntryAt}
use Rattle.few_terminals.specs.Filling.{unknown, mark_at, IsSound, IsFilling, IsSettled, Falls, Offers, Relaxes, StaysFilling, Keeps, Takes, offer_of, weight}
use Rattle.few_terminals.proofs.Meanings.{length-meanings, meanings_push}
use Rattle.few_terminals.proofs.Marking.{Offer, at_set, falls_set, filling_lowered, filling_entered, filling_dropped, parts_entered, stands_last, goes_on_push, goes_on_same}

at_most : (a b c : ℕ) → a ≤ b → b ≤ c → a ≤ c
at_most a b c one other = omega (arith, one, other)

-- some links from a vertex were offered
pub record HasRelaxed (I : Network) (v : ℕ) (halves : List Half) (old new : Filling) : Type 0 where
  pub long : length new.marks.items ≡ length old.marks.items
  pub places : (w : ℕ) → (mark_at new.marks.items w).place ≡ (mark_at old.marks.items w).place
  pub falls : Falls old.marks.items new.marks.items
  pub offered : All (λ half. (mark_at new.marks.items half.to).cost ≤ (mark_at old.marks.items v).cost + half.cost) halves
  pub keeps : StaysFilling I v old new
  pub fewer : weight new ≤ weight old

pub relaxed_none : (I : Network) (v : ℕ) (f : Filling) → HasRelaxed I v [] f f
relaxed_none I v f = record {
  long = refl;
  places = λ w. refl;
  falls = λ w. omega arith;
  offered = All-nil (λ half. (mark_at f.marks.items half.to).cost ≤ (mark_at f.marks.items v).cost + half.cost);
  keeps = λ ks es bits first entry h. h;
  fewer = omega arith;
}

-- one link more
module _ (I : Network) (v : ℕ) (halves : List Half) (half : Half) (first old new : Filling) (cost : ℕ) where
  abbrev from : Mark
  from = mark_at first.marks.items v

  abbrev known : Mark
  known = mark_at old.marks.items half.to

  abbrev lower : Mark
  lower = record { cost = cost; way = Along from.place; place = known.place }

  abbrev lowered : List Mark
  lowered = set old.marks.items half.to lower

  abbrev AtMost : List Mark → Half → Type 0
  AtMost marks h = (mark_at marks h.to).cost ≤ (mark_at first.marks.items v).cost + h.cost

  abbrev More : Type 0
  More = HasRelaxed I v (halves ++ half ∷ []) first new

  module _ (linked : link I.links v half.to ≡ Some half.cost) (sum : cost ≡ min (from.cost + half.cost) (2 ^ 64 - 1)) where
    -- an offer that costs less than what is known leads back to the vertex's entry
    sound : (ks : List ℕ) (es : List Meaning) (bits : ℕ) → IsEntryAt es from.place v bits from.cost → known.cost ≤ 2 ^ 63 → cost < known.cost → IsSound I ks es bits half.to lower
    sound ks es bits entry most less = record {
      most = omega (arith, less, most);
      parts = λ near. (
        entry.within,
        (
          half.cost,
          record {
            linked = subst (λ (x : ℕ). link I.links half.to x ≡ Some half.cost) (sym entry.vertex_is) (link-comm I.links half.to v ∙ linked);
            bits = sym entry.bits_is;
            cost = let here = entry.cost_is in omega (arith, sum, less, most, here);
          },
        ),
      );
    }

    module _ (within : half.to < length old.marks.items) (range : IsVertex I.n half.to) (fewer : weight new ≤ weight old) (before : HasRelaxed I v halves first old) where
      stays : known.cost ≤ cost → new.marks.items ≡ old.marks.items → heap_items new.queue ≡ heap_items old.queue → More
      stays above marks queue = record {
        long = ap length marks ∙ before.long;
        places = λ w. ap (λ (ms : List Mark). (mark_at ms w).place) marks ∙ before.places w;
        falls = subst (Falls first.marks.items) (sym marks) before.falls;
        offered = subst (λ (ms : List Mark). All (AtMost ms) (halves ++ half ∷ [])) (sym marks) (All-push (AtMost old.marks.items) halves half before.offered (omega (arith, above, sum)));
        keeps = λ ks es bits o entry f.
            let kept = before.keeps ks es bits o entry f in
            subst (λ (ms : List Mark). IsFilling I ks es bits ms (o ∷ heap_items new.queue)) (sym marks) (subst (λ (q : List Offer). IsFilling I ks es bits old.marks.items (o ∷ q)) (sym queue) kept);
        fewer = let so_far = before.fewer in omega (arith, fewer, so_far);
      }

      falls_here : cost < known.cost → Falls old.marks.items lowered
      falls_here less = falls_set old.marks.items half.to lower within (omega (arith, less))

      all_at_most : cost < known.cost → All (AtMost lowered) (halves ++ half ∷ [])
      all_at_most less =
          let fell = falls_here less in
          let others = All-weaker (AtMost old.marks.items) (AtMost lowered) (λ h was. at_most (mark_at lowered h.to).cost (mark_at old.marks.items h.to).cost (from.cost + h.cost) (fell h.to) was) halves before.offered in
          let last = at_set (λ x k. k.cost ≤ (mark_at first.marks.items v).cost + half.cost) old.marks.items half.to half.to lower within (omega (arith, sum)) (λ differ. absurd (differ refl)) in
          All-push (AtMost lowered) halves half others last

      falls_further : cost < known.cost → new.marks.items ≡ lowered → IsPermutation (offer_of cost half.to ∷ heap_items old.queue) (heap_items new.queue) → More
      falls_further less marks queue = record {
        long = ap length marks ∙ (length-set old.marks.items half.to lower ∙ before.long);
        places = λ w.
            let same = at_set (λ x k. k.place ≡ (mark_at old.marks.items x).place) old.marks.items half.to w lower within refl (λ differ. refl) in
            ap (λ (ms : List Mark). (mark_at ms w).place) marks ∙ (same ∙ before.places w);
        falls = subst (Falls first.marks.items) (sym marks) (λ w. let one = falls_here less w in let other = before.falls w in omega (arith, one, other));
        offered = subst (λ (ms : List Mark). All (AtMost ms) (halves ++ half ∷ [])) (sym marks) (all_at_most less);
        keeps = λ ks es bits o entry h.
            let f = before.keeps ks es bits o entry h in
            let sound_here = sound ks es bits entry (f.sound half.to).most less in
            subst (λ (ms : List Mark). IsFilling I ks es bits ms (o ∷ heap_items new.queue)) (sym marks) (filling_lowered I ks es bits half.to lower old.marks.items o (heap_items old.queue) (heap_items new.queue) within range less sound_here queue f);
        fewer = let so_far = before.fewer in omega (arith, fewer, so_far);
      }

      pub relaxed_more : Offers old new cost half.to (Along from.place) → More
      relaxed_more offers = elim offers.either [
        | inl same ↦ stays same.0 same.1 same.2
        | inr put ↦ falls_further put.0 put.1 put.2
      ]

pub relaxed_all : (I : Network) (v : ℕ) (halves : List Half) (old new : Filling) → AreNeighbours I v halves → HasRelaxed I v halves old new → Relaxes I v old new
relaxed_all I v halves old new are h = record {
  places = h.places;
  falls = h.falls;
  offered = λ w c linked. All-contains (λ half. (mark_at new.marks.items half.to).cost ≤ (mark_at old.marks.items v).cost + half.cost) halves (record { to = w; cost = c }) h.offered ((are.linked w c).1 linked);
  keeps = h.keeps;
}

-- an offer that came too late
pub takes_nothing : (I : Network) (es : List Entry) (f : Filling) (cost v : ℕ) → ((mark_at f.marks.items v).cost ≡ cost → ⊥) → Takes I es es f f (offer_of cost v)
takes_nothing I es f cost v late = record {
  falls = λ u. omega arith;
  keeps = λ ks bits have filling. record {
    goes_on = goes_on_same (meanings I ks es);
    parts = have;
    filling = filling_dropped I ks (meanings I ks es) bits f.marks.items cost v (heap_items f.queue) filling (λ same. absurd (late same));
  };
}

-- its vertex is entered, and all links from there are offered
module _ (I : Network) (old mid new : Filling) (cost v : ℕ) where
  abbrev found : Mark
  found = mark_at old.marks.items v

  abbrev at_place : ℕ → Mark
  at_place p = record { cost = found.cost; way = found.way; place = p }

  abbrev entry : ℕ → Meaning
  entry bits = record { vertex = v; bits = bits; cost = found.cost; way = found.way }

  abbrev waiting : List Offer
  waiting = offer_of cost v ∷ heap_items old.queue

  module _ (range : IsVertex I.n v) (within : v < length old.marks.items) (cost_is : found.cost ≡ cost) (queue : heap_items mid.queue ≡ heap_items old.queue) (relaxes : Relaxes I v mid new) where
    module _ (ks : List ℕ) (es : List Meaning) (bits : ℕ) (marked : mid.marks.items ≡ set old.marks.items v (at_place (length es))) (f : IsFilling I ks es bits old.marks.items waiting) where
      abbrev new_es : List Meaning
      new_es = es ++ entry bits ∷ []

      stands : IsEntryAt new_es (length es) v bits found.cost
      stands = stands_last I ks es bits v old.marks.items waiting within f

      marked_at : mark_at mid.marks.items v ≡ at_place (length es)
      marked_at = ap (λ (ms : List Mark). mark_at ms v) marked ∙ get_or-set_same old.marks.items v (at_place (length es)) unknown within

      stands_there : IsEntryAt new_es (mark_at mid.marks.items v).place v bits (mark_at mid.marks.items v).cost
      stands_there = subst (λ (m : Mark). IsEntryAt new_es m.place v bits m.cost) (sym marked_at) stands

      -- its vertex is settled, if it costs the same at the end
      settled : (mark_at new.marks.items v).cost ≡ cost → IsSettled I new_es bits new.marks.items v
      settled same =
          let place_is : (mark_at new.marks.items v).place ≡ length es = relaxes.places v ∙ ap (λ (m : Mark). m.place) marked_at in
          let cost_same : found.cost ≡ (mark_at new.marks.items v).cost = cost_is ∙ sym same in
          record {
            entered = subst (λ (p : ℕ). IsEntryAt new_es p v bits (mark_at new.marks.items v).cost) (sym place_is) (subst (IsEntryAt new_es (length es) v bits) cost_same stands);
            closed = λ w c linked.
                let offered = relaxes.offered w c linked in
                let before = ap (λ (m : Mark). m.cost) marked_at in
                omega (arith, offered, before, cost_same);
          }

      -- with its entry the row stays as it should be
      entered : IsFilling I ks new_es bits mid.marks.items (offer_of cost v ∷ heap_items mid.queue)
      entered =
          let first = filling_entered I ks es bits v old.marks.items waiting within f in
          let second = subst (λ (q : List Offer). IsFilling I ks new_es bits (set old.marks.items v (at_place (length es))) (offer_of cost v ∷ q)) (sym queue) first in
          subst (λ (ms : List Mark). IsFilling I ks new_es bits ms (offer_of cost v ∷ heap_items mid.queue)) (sym marked) second

      near : found.cost < 2 ^ 63
      near = let less = (f.queued 0 (offer_of cost v) (omega arith)).1 in omega (arith, less, cost_is)

      keeps_one : HaveParts I ks es → Keeps I ks es new_es bits new
      keeps_one have = record {
        goes_on = goes_on_push es (entry bits);
        parts = parts_entered I ks es bits v old.marks.items waiting within f range near have;
        filling = filling_dropped I ks new_es bits new.marks.items cost v (heap_items new.queue) (relaxes.keeps ks new_es bits (offer_of cost v) stands_there entered) settled;
      }

    falls_one : (place : ℕ) → mid.marks.items ≡ set old.marks.items v (at_place place) → Falls old.marks.items new.marks.items
    falls_one place marked u =
        let one = relaxes.falls u in
        let same = ap (λ (ms : List Mark). (mark_at ms u).cost) marked in
        let kept = at_set (λ x k. k.cost ≡ (mark_at old.marks.items x).cost) old.marks.items v u (at_place place) within refl (λ differ. refl) in
        omega (arith, one, same, kept)

    module _ (old_es new_es : List Entry) (entered : new_es ≡ old_es ++ record { vertex = v; way = found.way } ∷ []) (marked : mid.marks.items ≡ set old.marks.items v (at_place (length old_es))) where
      pub takes_one : Takes I old_es new_es old new (offer_of cost v)
      takes_one = record {
        falls = falls_one (length old_es) marked;
        keeps = λ ks bits have f.
            let es = meanings I ks old_es in
            let marked_there = subst (λ (p : ℕ). mid.marks.items ≡ set old.marks.items v (at_place p)) (sym (length-meanings I ks old_es)) marked in
            let parts = (f.sound v).parts (near ks es bits marked_there f) in
            let meant : meanings I ks new_es ≡ es ++ entry bits ∷ [] = ap (meanings I ks) entered ∙ meanings_push I ks old_es (length es) (entry bits) parts in
            subst (λ (all : List Meaning). Keeps I ks es all bits new) (sym meant) (keeps_one ks es bits marked_there f have);
      }
