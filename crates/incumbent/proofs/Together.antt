-- What a place knows that took in seats.
use Rattle.std.proofs.Common.{◌≡◌, ℕ, zero, suc, ◌+◌, ◌<◌, ◌≤◌, min, length, subst, List, [], ◌∷◌, ◌++◌, sym, refl, ap, ◌∙◌, append_assoc, append-nil, arith}
use Rattle.std.proofs.lemmas.Bool.Decides.{nat_tests}
use Rattle.std.specs.Prelude.{slice_index_or}
use Rattle.atomic_table.specs.Seated.{TableId}
use Rattle.incumbent.specs.declared.rule.Hand.{Hand}
use Rattle.incumbent.specs.Least.{least_of}
use Rattle.incumbent.specs.Rule.{hand, both}
use Rattle.incumbent.specs.Seat.{Known, known_as, all_offers}
use Rattle.incumbent.specs.Joined.{joined}

pub joined_start : (v : Hand) (ss : List Known) → (joined v ss).start ≡ v.start
joined_start v [] = refl
joined_start v (s ∷ ss) = joined_start (hand (v.parts + 1) v.start (v.offers ++ s.offers) (min v.lowest s.lowest)) ss

pub joined_parts : (v : Hand) (ss : List Known) → (joined v ss).parts ≡ v.parts + length ss
joined_parts v [] = omega arith
joined_parts v (s ∷ ss) = let h = joined_parts (hand (v.parts + 1) v.start (v.offers ++ s.offers) (min v.lowest s.lowest)) ss in omega arith

pub joined_offers : (v : Hand) (ss : List Known) → (joined v ss).offers ≡ v.offers ++ all_offers ss
joined_offers v [] = sym (append-nil v.offers)
joined_offers v (s ∷ ss) = joined_offers (hand (v.parts + 1) v.start (v.offers ++ s.offers) (min v.lowest s.lowest)) ss ∙ append_assoc v.offers s.offers (all_offers ss)

pub joined_below : (v : Hand) (ss : List Known) → (joined v ss).lowest ≤ v.lowest
joined_below v [] = omega arith
joined_below v (s ∷ ss) = let h = joined_below (hand (v.parts + 1) v.start (v.offers ++ s.offers) (min v.lowest s.lowest)) ss in grind (arith, nat_tests)

pub joined_all : (m : ℕ) (v : Hand) (ss : List Known) → m ≤ (joined v ss).lowest → (k : ℕ) (d : Known) → k < length ss → m ≤ (slice_index_or ss k d).lowest
joined_all m v [] h k d lt = absurd (omega arith)
joined_all m v (s ∷ ss) h zero d lt = let b = joined_below (hand (v.parts + 1) v.start (v.offers ++ s.offers) (min v.lowest s.lowest)) ss in grind (arith, nat_tests)
joined_all m v (s ∷ ss) h (suc k) d lt = joined_all m (hand (v.parts + 1) v.start (v.offers ++ s.offers) (min v.lowest s.lowest)) ss h k d (omega arith)

-- the word at the end, found by whoever has every part
pub closes : (m : ℕ) (v w : Hand) (ss : List Known) → w ≡ joined v ss → v.offers ≡ [] → v.parts + length ss ≡ 65
    → (w.parts ≡ 65 → m ≡ least_of w.start w.offers) → m ≡ least_of v.start (all_offers ss)
closes m v w ss is none all ends =
    let p : w.parts ≡ 65 = ap (λ (h : Hand). h.parts) is ∙ joined_parts v ss ∙ all in
    let a : w.start ≡ v.start = ap (λ (h : Hand). h.start) is ∙ joined_start v ss in
    let o : w.offers ≡ all_offers ss = ap (λ (h : Hand). h.offers) is ∙ joined_offers v ss ∙ ap (λ xs. xs ++ all_offers ss) none in
    ends p ∙ (λ i. least_of (a i) (o i))

with_seat : (v w p : Hand) (i : TableId) (s : Known) → w ≡ both v p → p.parts ≡ 1 → s ≡ known_as i p
    → w ≡ hand (v.parts + 1) v.start (v.offers ++ s.offers) (min v.lowest s.lowest)
with_seat v w p i s is one same = is ∙ (λ k. hand (v.parts + one k) v.start (v.offers ++ (sym same k).offers) (min v.lowest (sym same k).lowest))

-- The next seat is taken in.
pub goes_on : (v w p : Hand) (i b : TableId) (rest now : List Known) (s : Known) (J : Hand) → rest ≡ s ∷ now → w ≡ both v p → p.parts ≡ 1 → s ≡ known_as i p
    → ((k : ℕ) (d : Known) → k < length rest → (slice_index_or rest k d).incumbent ≡ b) → joined v rest ≡ J
    → ((k : ℕ) (d : Known) → k < length now → (slice_index_or now k d).incumbent ≡ b) × (joined w now ≡ J)
goes_on v w p i b rest now s J is took one same boards sum =
    let B : List Known → Type 0 = λ r. (k : ℕ) (d : Known) → k < length r → (slice_index_or r k d).incumbent ≡ b in
    let boards' : B (s ∷ now) = subst B is boards in
    ((λ k d lt. boards' (suc k) d (omega arith)), ap (λ x. joined x now) (with_seat v w p i s took one same) ∙ ap (joined v) (sym is) ∙ sum)
