-- One more arc, by the place of its pair among the pairs, and the arc that is found at the place of a pair.
use Rattle.std.proofs.Common.{◌≡◌, ℕ, suc, ◌+◌, min, Bool, true, false, not, cond, ◌&&◌, ◌||◌, List, [], ◌∷◌, ◌++◌, get_or, set, map, Option, Some, None, option_map, refl, sym, ap, ◌∙◌, one-add, arith}
use Rattle.std.specs.Prelude.{◌==◌, position, All, IsSome, OnSome}
use Rattle.std.specs.List.{list_any, position_or_len, AllByRecursion}
use Rattle.std.proofs.Math.Seq.{map-set_same}
use Rattle.std.proofs.lemmas.Bool.{false≢true, and_parts, eqb-true}
use Rattle.std.proofs.lemmas.Bool.Decides.{nat_tests}
use Rattle.std.proofs.lemmas.List.Elements.{recursion_from_All}
use Rattle.st_model.specs.declared.link.Link.{Link}
use Rattle.st_model.specs.Network.{IsVertex}
use Rattle.st_model.proofs.Links.{position-cons}
use Rattle.arborescence.specs.DiNetwork.{leads, arc_from, IsArcBetween}
use Rattle.arborescence.specs.Stated.{tail_head}
use Rattle.arborescence.specs.Steps.{cheaper_arc, put_arc}

-- the pairs are searched for a tail and a head
abbrev is_pair : ℕ → ℕ → ℕ × ℕ → Bool
is_pair u v y = (u == y.0) && (v == y.1)

leads_pair : (m : Link) (u v : ℕ) → leads m u v ≡ is_pair u v (tail_head m)
leads_pair m u v = grind (arith, nat_tests)

-- a pair that isn't there comes last
put_arc-new : (l : Link) (ms : List Link) → list_any (is_pair l.a l.b) (map tail_head ms) ≡ false → put_arc ms l ≡ ms ++ l ∷ []
put_arc-new l [] absent = refl
put_arc-new l (m ∷ ms) absent = rw (leads_pair m l.a l.b) (by_case (is_pair l.a l.b (tail_head m)) absent (put_arc-new l ms))
  where
    by_case : (b : Bool) → b || list_any (is_pair l.a l.b) (map tail_head ms) ≡ false → (list_any (is_pair l.a l.b) (map tail_head ms) ≡ false → put_arc ms l ≡ ms ++ l ∷ []) → cond b (cheaper_arc m l ∷ ms) (m ∷ put_arc ms l) ≡ m ∷ (ms ++ l ∷ [])
    by_case true h rest = cc
    by_case false h rest = ap (λ ns. m ∷ ns) (rest h)

-- one that is there gets cheaper in its place
put_arc-at : (l : Link) (ms : List Link) (d : Link) → list_any (is_pair l.a l.b) (map tail_head ms) ≡ true → put_arc ms l ≡ set ms (position_or_len (is_pair l.a l.b) (map tail_head ms)) (cheaper_arc (get_or ms (position_or_len (is_pair l.a l.b) (map tail_head ms)) d) l)
put_arc-at l [] d found = cc
put_arc-at l (m ∷ ms) d found = rw (leads_pair m l.a l.b) (by_case (is_pair l.a l.b (tail_head m)) found (put_arc-at l ms d))
  where
    at : ℕ
    at = position_or_len (is_pair l.a l.b) (map tail_head ms)

    by_case : (b : Bool) → b || list_any (is_pair l.a l.b) (map tail_head ms) ≡ true → (list_any (is_pair l.a l.b) (map tail_head ms) ≡ true → put_arc ms l ≡ set ms at (cheaper_arc (get_or ms at d) l)) → cond b (cheaper_arc m l ∷ ms) (m ∷ put_arc ms l) ≡ set (m ∷ ms) (cond (not b) (1 + at) 0) (cheaper_arc (get_or (m ∷ ms) (cond (not b) (1 + at) 0) d) l)
    by_case true h rest = refl
    by_case false h rest = rw one-add (ap (λ ns. m ∷ ns) (rest h))

absent_from_not : (b : Bool) → true ≡ not b → b ≡ false
absent_from_not true h = h
absent_from_not false h = refl

present_from_not : (b : Bool) → false ≡ not b → b ≡ true
present_from_not true h = refl
present_from_not false h = h

module _ (ms : List Link) (keys : List (ℕ × ℕ)) (l : Link) (keys_are : keys ≡ map tail_head ms) where
  pub put_new : true ≡ not (list_any (λ y. (l.a == y.0) && (l.b == y.1)) keys) → ms ++ l ∷ [] ≡ put_arc ms l
  put_new absent = sym (put_arc-new l ms (absent_from_not (list_any (is_pair l.a l.b) (map tail_head ms)) (rw (← keys_are) absent)))

  pub put_at : (index : ℕ) (kept : Link) (cost : ℕ) → false ≡ not (list_any (λ y. (l.a == y.0) && (l.b == y.1)) keys) → index ≡ position_or_len (λ y. (l.a == y.0) && (l.b == y.1)) keys → kept ≡ get_or ms index kept → cost ≡ min kept.cost l.cost → set ms index (record { a = kept.a; b = kept.b; cost = cost }) ≡ put_arc ms l
  put_at index kept cost present index_is kept_is cost_is =
      let place : index ≡ position_or_len (is_pair l.a l.b) (map tail_head ms) = rw (← keys_are) index_is in
      let at = put_arc-at l ms kept (present_from_not (list_any (is_pair l.a l.b) (map tail_head ms)) (rw (← keys_are) present)) in
      let costs : set ms index (record { a = kept.a; b = kept.b; cost = cost }) ≡ set ms index (cheaper_arc kept l) = ap (λ c. set ms index (record { a = kept.a; b = kept.b; cost = c })) cost_is in
      let found : set ms index (cheaper_arc kept l) ≡ set ms index (cheaper_arc (get_or ms index kept) l) = ap (λ k. set ms index (cheaper_arc k l)) kept_is in
      costs ∙ found ∙ ap (λ i. set ms i (cheaper_arc (get_or ms i kept) l)) place ∙ sym at

-- the pairs stay where a cost is written
pub ends_set : (ms : List Link) (index : ℕ) (kept : Link) (cost : ℕ) → kept ≡ get_or ms index kept → map tail_head (set ms index (record { a = kept.a; b = kept.b; cost = cost })) ≡ map tail_head ms
ends_set ms index kept cost kept_is = map-set_same tail_head ms index _ kept (ap tail_head kept_is)

-- what is found at the position of a pair is its arc
arc-position : (ls : List Link) (u v : ℕ) (d : Link) → arc_from ls u v ≡ option_map (λ i. (get_or ls i d).cost) (position (is_pair u v) (map tail_head ls))
arc-position [] u v d = refl
arc-position (l ∷ ls) u v d = rw (position-cons, ← leads_pair l u v) (one_more (leads l u v) _ (arc-position ls u v d))
  where
    one_more : (b : Bool) (o : Option ℕ) {rest : Option ℕ} → rest ≡ option_map (λ i. (get_or ls i d).cost) o → cond b (Some l.cost) rest ≡ option_map (λ i. (get_or (l ∷ ls) i d).cost) (cond b (Some 0) (option_map suc o))
    one_more true o h = refl
    one_more false None h = h
    one_more false (Some i) h = h

pub arc_found : (ls : List Link) (keys : List (ℕ × ℕ)) (u v : ℕ) (d : Link) (found : Option ℕ) → keys ≡ map tail_head ls → found ≡ position (λ y. (u == y.0) && (v == y.1)) keys → arc_from ls u v ≡ option_map (λ i. (get_or ls i d).cost) found
arc_found ls keys u v d found keys_are found_is = rw (found_is, keys_are) (arc-position ls u v d)

-- an arc leads from its tail to its head
pub leads_ends : (l : Link) (u v : ℕ) → leads l u v ≡ true → (l.a ≡ u) × (l.b ≡ v)
leads_ends l u v h = let p = and_parts (l.a == u) (l.b == v) h in (eqb-true l.a u p.0, eqb-true l.b v p.1)

-- what holds of the ends of each arc holds of two vertices between which one leads
pub arc_ends : (P : ℕ → ℕ → Type 0) (ls : List Link) (u v : ℕ) → AllByRecursion (λ l. P l.a l.b) ls → IsSome (arc_from ls u v) → P u v
arc_ends P [] u v all h = absurd (false≢true h)
arc_ends P (l ∷ ls) u v all h = by_test (leads l u v) refl h (arc_ends P ls u v all.1)
  where
    by_test : (b : Bool) → leads l u v ≡ b → IsSome (cond b (Some l.cost) (arc_from ls u v)) → (IsSome (arc_from ls u v) → P u v) → P u v
    by_test true is some rest = let e = leads_ends l u v is in rw (← e.0, ← e.1) all.0
    by_test false is some rest = rest some

-- an arc leads between different vertices
pub arc_between : (n : ℕ) (ls : List Link) (u v : ℕ) → All (IsArcBetween n) ls → IsSome (arc_from ls u v) → IsVertex n u × IsVertex n v × ((u == v) ≡ false)
arc_between n ls u v ends some = arc_ends (λ a b. IsVertex n a × IsVertex n b × ((a == b) ≡ false)) ls u v (each ls (recursion_from_All _ ls ends)) some
  where
    each : (ms : List Link) → AllByRecursion (IsArcBetween n) ms → AllByRecursion (λ l. IsVertex n l.a × IsVertex n l.b × ((l.a == l.b) ≡ false)) ms
    each [] h = tt
    each (m ∷ ms) h = ((h.0.tail, h.0.head, h.0.apart), each ms h.1)

pub arc_in_range : (n : ℕ) (ls : List Link) (u v : ℕ) → All (IsArcBetween n) ls → OnSome (arc_from ls u v) (IsVertex n u × IsVertex n v)
arc_in_range n ls u v ends = on_some (arc_from ls u v) (λ some. let h = arc_between n ls u v ends some in (h.0, h.1))
  where
    on_some : {P : Type 0} (o : Option ℕ) → (IsSome o → P) → OnSome o P
    on_some None h = tt
    on_some (Some price) h = h refl
