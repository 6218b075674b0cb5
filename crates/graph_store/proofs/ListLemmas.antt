-- One list of halves among many, read and written.
use Rattle.std.proofs.Common.{◌≡◌, ℕ, zero, suc, ◌+◌, ◌-◌, ◌<◌, Bool, true, false, cond, eqb, nat_lt, List, [], ◌∷◌, ◌++◌, length, get_or, set, take, map, slice_get, Option, Some, None, IfSome, is_some, option_map, Bor, eq-eqb, refl, sym, ap, ◌∙◌, arith, length-append}
use Rattle.std.proofs.Math.Seq.{take-append_seam}
use Rattle.std.specs.declared.alloc.Global.{Global}
use Rattle.std.specs.declared.vec.Vec.{Vec}
use Rattle.std.proofs.lemmas.Bool.Decides.{nat_tests}
use Rattle.std.proofs.lemmas.List.{map-set, get_or-map, get_or-set_same, get_or-set_other, length-map}
use Rattle.std.specs.Option.{option_copied}
use Rattle.std.proofs.lemmas.Option.{slice_get-get_or, slice_get_past, slice_get_read}
use Rattle.graph_store.specs.declared.half.Half.{Half}
use Rattle.graph_store.specs.Joined.{halves_at, with_cost}

-- what is read of one list
pub halves_at-read : (lists : List (Vec Half Global)) (at : ℕ) (list : Vec Half Global) → at < length lists → list ≡ get_or lists at list → halves_at lists at ≡ list.items
halves_at-read lists at list within is = get_or-map (λ (l : Vec Half Global). l.items) lists at list [] within ∙ sym (ap (λ (l : Vec Half Global). l.items) is)

-- what stands in the lists once one of them is another
pub halves_at-set : (lists : List (Vec Half Global)) (at : ℕ) (list : Vec Half Global) (v : ℕ) → at < length lists → halves_at (set lists at list) v ≡ cond (eqb v at) list.items (halves_at lists v)
halves_at-set lists at list v within = ap (λ hs. get_or hs v []) (map-set (λ (l : Vec Half Global). l.items) lists at list) ∙ by_case (eqb v at) refl
  where
    inside : at < length (map (λ (l : Vec Half Global). l.items) lists)
    inside = omega (arith, length-map lists (λ (l : Vec Half Global). l.items))

    by_case : (b : Bool) → eqb v at ≡ b → get_or (set (map (λ (l : Vec Half Global). l.items) lists) at list.items) v [] ≡ cond b list.items (halves_at lists v)
    by_case true is = let same : v ≡ at = grind (arith, nat_tests) in ap (λ k. get_or (set (map (λ (l : Vec Half Global). l.items) lists) at list.items) k []) same ∙ get_or-set_same (map (λ (l : Vec Half Global). l.items) lists) at list.items [] inside
    by_case false is = get_or-set_other (map (λ (l : Vec Half Global). l.items) lists) at v list.items [] (λ e. grind (arith, nat_tests))

module _ {X : Type 0} where
  pub slice_get-set : (xs : List X) (i : ℕ) (x : X) (k : ℕ) → i < length xs → slice_get (set xs i x) k ≡ cond (eqb k i) (Some x) (slice_get xs k)
  slice_get-set [] i x k h = absurd (omega arith)
  slice_get-set (y ∷ xs) zero x zero h = refl
  slice_get-set (y ∷ xs) zero x (suc k) h = let no : eqb (suc k) 0 ≡ false = grind (arith, nat_tests) in rw no refl
  slice_get-set (y ∷ xs) (suc i) x zero h = let no : eqb 0 (suc i) ≡ false = grind (arith, nat_tests) in rw no refl
  slice_get-set (y ∷ xs) (suc i) x (suc k) h = let same : eqb (suc k) (suc i) ≡ eqb k i = grind (arith, nat_tests) in rw same (slice_get-set xs i x k (omega arith))

  pub slice_get-take : (n : ℕ) (xs : List X) (k : ℕ) → slice_get (take n xs) k ≡ cond (nat_lt k n) (slice_get xs k) None
  slice_get-take zero xs k = let no : nat_lt k zero ≡ false = grind (arith, nat_tests) in rw no refl
  slice_get-take (suc n) [] k = by_case (nat_lt k (suc n))
    where
      by_case : (b : Bool) → ◌≡◌ {A = Option X} None (cond b None None)
      by_case true = refl
      by_case false = refl
  slice_get-take (suc n) (x ∷ xs) zero = let yes : nat_lt zero (suc n) ≡ true = grind (arith, nat_tests) in rw yes refl
  slice_get-take (suc n) (x ∷ xs) (suc k) = let same : nat_lt (suc k) (suc n) ≡ nat_lt k n = grind (arith, nat_tests) in rw same (slice_get-take n xs k)

  pub slice_get-push : (xs : List X) (x : X) (k : ℕ) → slice_get (xs ++ x ∷ []) k ≡ cond (eqb k (length xs)) (Some x) (slice_get xs k)
  slice_get-push [] x zero = refl
  slice_get-push [] x (suc k) = let no : eqb (suc k) 0 ≡ false = grind (arith, nat_tests) in rw no refl
  slice_get-push (y ∷ xs) x zero = let no : eqb 0 (suc (length xs)) ≡ false = grind (arith, nat_tests) in rw no refl
  slice_get-push (y ∷ xs) x (suc k) = let same : eqb (suc k) (suc (length xs)) ≡ eqb k (length xs) = grind (arith, nat_tests) in rw same (slice_get-push xs x k)

  -- what is there after the last has moved to a place
  pub slice_get-swap_remove : (xs : List X) (place : ℕ) (d : X) (k : ℕ) → place < length xs → slice_get (take (length xs - 1) (set xs place (get_or xs (length xs - 1) d))) k ≡ cond (nat_lt (k + 1) (length xs)) (cond (eqb k place) (slice_get xs (length xs - 1)) (slice_get xs k)) None
  slice_get-swap_remove xs place d k h =
      let last : slice_get xs (length xs - 1) ≡ Some (get_or xs (length xs - 1) d) = slice_get-get_or xs (length xs - 1) d (omega arith) in
      let same : nat_lt k (length xs - 1) ≡ nat_lt (k + 1) (length xs) = grind (arith, nat_tests) in
      slice_get-take (length xs - 1) (set xs place (get_or xs (length xs - 1) d)) k ∙ rw (same, last, slice_get-set xs place (get_or xs (length xs - 1) d) k h) refl

-- all but the last of a list with one more is the list
pub take-push : {X : Type 0} (xs : List X) (x : X) → take (length (xs ++ x ∷ []) - 1) (xs ++ x ∷ []) ≡ xs
take-push xs x = let len : length (xs ++ x ∷ []) - 1 ≡ length xs = omega (arith, length-append xs (x ∷ [])) in rw len (take-append_seam xs (x ∷ []))

-- what `get` gives
pub slice_get-item : {X : Type 0} (xs : List X) (i : ℕ) (r : Option (Bor X)) → is_some r ≡ nat_lt i (length xs) → IfSome r (λ x. x.now ≡ get_or xs i x.now) → option_copied r ≡ slice_get xs i
slice_get-item xs i None some item = sym (slice_get_past xs i (grind (arith, nat_tests)))
slice_get-item xs i (Some x) some item = sym (slice_get_read xs (length xs) i x.now refl (grind (arith, nat_tests)) item)

-- the list that was written, and the others
pub halves_at-here : (lists : List (Vec Half Global)) (at : ℕ) (list : Vec Half Global) → at < length lists → halves_at (set lists at list) at ≡ list.items
halves_at-here lists at list within = let yes : eqb at at ≡ true = eq-eqb at at refl in halves_at-set lists at list at within ∙ rw yes refl

pub halves_at-others : (lists : List (Vec Half Global)) (at : ℕ) (list : Vec Half Global) (v : ℕ) → at < length lists → (v ≡ at → ⊥) → halves_at (set lists at list) v ≡ halves_at lists v
halves_at-others lists at list v within other = let no : eqb v at ≡ false = grind (arith, nat_tests) in halves_at-set lists at list v within ∙ rw no refl

-- the same where what is written is known from what was there
pub halves_at-written : (lists : List (Vec Half Global)) (at : ℕ) (was list : Vec Half Global) (f : List Half → List Half) → at < length lists → was ≡ get_or lists at was → list.items ≡ f was.items → (v : ℕ) → halves_at (set lists at list) v ≡ cond (eqb v at) (f (halves_at lists at)) (halves_at lists v)
halves_at-written lists at was list f within is written v = halves_at-set lists at list v within ∙ ap (λ hs. cond (eqb v at) hs (halves_at lists v)) (written ∙ ap f (sym (halves_at-read lists at was within is)))

-- the same list written again
pub halves_at-unwritten : (lists : List (Vec Half Global)) (at : ℕ) (was list : Vec Half Global) → at < length lists → was ≡ get_or lists at was → list.items ≡ was.items → (v : ℕ) → halves_at (set lists at list) v ≡ halves_at lists v
halves_at-unwritten lists at was list within is written v = halves_at-written lists at was list (λ hs. hs) within is written v ∙ by_case (eqb v at) refl
  where
    by_case : (b : Bool) → eqb v at ≡ b → cond b (halves_at lists at) (halves_at lists v) ≡ halves_at lists v
    by_case true same = let same' : at ≡ v = grind (arith, nat_tests) in ap (halves_at lists) same'
    by_case false other = refl

-- what is read once one half has another cost
pub slice_get-put_cost : (xs : List Half) (place : ℕ) (was : Half) (cost k : ℕ) → place < length xs → was ≡ get_or xs place was → slice_get (set xs place (record { to = was.to; cost = cost })) k ≡ cond (eqb k place) (option_map (with_cost cost) (slice_get xs k)) (slice_get xs k)
slice_get-put_cost xs place was cost k within is = slice_get-set xs place (record { to = was.to; cost = cost }) k within ∙ by_case (eqb k place) refl
  where
    by_case : (b : Bool) → eqb k place ≡ b → cond b (Some (record { to = was.to; cost = cost })) (slice_get xs k) ≡ cond b (option_map (with_cost cost) (slice_get xs k)) (slice_get xs k)
    by_case true same =
        let same' : place ≡ k = grind (arith, nat_tests) in
        let here : slice_get xs k ≡ Some was = ap (slice_get xs) (sym same') ∙ slice_get_read xs (length xs) place was refl within is in
        sym (ap (option_map (with_cost cost)) here)
    by_case false other = refl
