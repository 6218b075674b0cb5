-- One more link, by the place of its pair among the pairs.
use Rattle.std.proofs.Common.{◌≡◌, ℕ, ◌+◌, min, max, Bool, true, false, not, cond, ◌&&◌, ◌||◌, List, [], ◌∷◌, ◌++◌, get_or, set, map, refl, sym, ap, ◌∙◌, one-add}
use Rattle.std.specs.Prelude.{◌==◌}
use Rattle.std.specs.List.{list_any, position_or_len}
use Rattle.std.proofs.Math.Seq.{map-set_same}
use Rattle.st_model.specs.declared.link.Link.{Link}
use Rattle.st_model.specs.Network.{joins}
use Rattle.st_model.specs.Stated.{ends}
use Rattle.st_model.specs.Steps.{ordered, cheaper, put_link}
use Rattle.st_model.proofs.Links.{joins_by_ends}

module _ (l : Link) (test : ℕ × ℕ → Bool) (same : (m : Link) → joins m l.a l.b ≡ test (ends m)) where
  -- a pair that isn't there comes last
  put_link-new : (ms : List Link) → list_any test (map ends ms) ≡ false → put_link ms l ≡ ms ++ ordered l l.cost ∷ []
  put_link-new [] absent = refl
  put_link-new (m ∷ ms) absent = rw same (by_case (test (ends m)) absent (put_link-new ms))
    where
      by_case : (b : Bool) → b || list_any test (map ends ms) ≡ false → (list_any test (map ends ms) ≡ false → put_link ms l ≡ ms ++ ordered l l.cost ∷ []) → cond b (cheaper m l ∷ ms) (m ∷ put_link ms l) ≡ m ∷ (ms ++ ordered l l.cost ∷ [])
      by_case true h rest = cc
      by_case false h rest = ap (λ ns. m ∷ ns) (rest h)

  -- one that is there gets cheaper in its place
  put_link-at : (ms : List Link) (d : Link) → list_any test (map ends ms) ≡ true → put_link ms l ≡ set ms (position_or_len test (map ends ms)) (cheaper (get_or ms (position_or_len test (map ends ms)) d) l)
  put_link-at [] d found = cc
  put_link-at (m ∷ ms) d found = rw same (by_case (test (ends m)) found (put_link-at ms d))
    where
      at : ℕ
      at = position_or_len test (map ends ms)

      by_case : (b : Bool) → b || list_any test (map ends ms) ≡ true → (list_any test (map ends ms) ≡ true → put_link ms l ≡ set ms at (cheaper (get_or ms at d) l)) → cond b (cheaper m l ∷ ms) (m ∷ put_link ms l) ≡ set (m ∷ ms) (cond (not b) (1 + at) 0) (cheaper (get_or (m ∷ ms) (cond (not b) (1 + at) 0) d) l)
      by_case true h rest = refl
      by_case false h rest = rw one-add (ap (λ ns. m ∷ ns) (rest h))

absent_from_not : (b : Bool) → true ≡ not b → b ≡ false
absent_from_not true h = h
absent_from_not false h = refl

present_from_not : (b : Bool) → false ≡ not b → b ≡ true
present_from_not true h = refl
present_from_not false h = h

pub kept_where_present : {X : Type 0} (b : Bool) (x y : X) → false ≡ not b → cond b x y ≡ x
kept_where_present true x y h = refl
kept_where_present false x y h = cc

-- the pairs, kept apart, are searched for the lower and the higher end
abbrev is_pair : ℕ → ℕ → ℕ × ℕ → Bool
is_pair low high y = (low == y.0) && (high == y.1)

module _ (ms : List Link) (keys : List (ℕ × ℕ)) (l : Link) (low high : ℕ) (keys_are : keys ≡ map ends ms) (low_is : low ≡ min l.a l.b) (high_is : high ≡ max l.a l.b) where
  pub put_new : true ≡ not (list_any (λ y. (low == y.0) && (high == y.1)) keys) → ms ++ record { a = low; b = high; cost = l.cost } ∷ [] ≡ put_link ms l
  put_new absent =
      let absent_there : true ≡ not (list_any (is_pair (min l.a l.b) (max l.a l.b)) (map ends ms)) = rw (← low_is, ← high_is, ← keys_are) absent in
      rw (low_is, high_is) (sym (put_link-new l (is_pair (min l.a l.b) (max l.a l.b)) (λ m. joins_by_ends m l.a l.b) ms (absent_from_not _ absent_there)))

  pub put_at : (index : ℕ) (kept : Link) (cost : ℕ) → false ≡ not (list_any (λ y. (low == y.0) && (high == y.1)) keys) → index ≡ position_or_len (λ y. (low == y.0) && (high == y.1)) keys → kept ≡ get_or ms index kept → cost ≡ min kept.cost l.cost → set ms index (record { a = kept.a; b = kept.b; cost = cost }) ≡ put_link ms l
  put_at index kept cost present index_is kept_is cost_is =
      let present_there : false ≡ not (list_any (is_pair (min l.a l.b) (max l.a l.b)) (map ends ms)) = rw (← low_is, ← high_is, ← keys_are) present in
      let place : index ≡ position_or_len (is_pair (min l.a l.b) (max l.a l.b)) (map ends ms) = rw (← low_is, ← high_is, ← keys_are) index_is in
      let at = put_link-at l (is_pair (min l.a l.b) (max l.a l.b)) (λ m. joins_by_ends m l.a l.b) ms kept (present_from_not _ present_there) in
      let costs : set ms index (record { a = kept.a; b = kept.b; cost = cost }) ≡ set ms index (cheaper kept l) = ap (λ c. set ms index (record { a = kept.a; b = kept.b; cost = c })) cost_is in
      let found : set ms index (cheaper kept l) ≡ set ms index (cheaper (get_or ms index kept) l) = ap (λ k. set ms index (cheaper k l)) kept_is in
      costs ∙ found ∙ ap (λ i. set ms i (cheaper (get_or ms i kept) l)) place ∙ sym at

-- the pairs stay where a cost is written
pub ends_set : (ms : List Link) (index : ℕ) (kept : Link) (cost : ℕ) → kept ≡ get_or ms index kept → map ends (set ms index (record { a = kept.a; b = kept.b; cost = cost })) ≡ map ends ms
ends_set ms index kept cost kept_is = map-set_same ends ms index _ kept (ap ends kept_is)
