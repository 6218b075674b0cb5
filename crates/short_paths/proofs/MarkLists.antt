-- What is known of all vertices, as one vertex is marked.
use Rattle.std.proofs.Common.{◌≡◌, ℕ, zero, suc, ◌<◌, ◌≤◌, inl, inr, arith, List, ◌∷◌, length, map, replicate, get_or, set, Option, Some, None, refl, sym, ap, ◌∙◌}
use Rattle.std.specs.Prelude.{IfSome, IsSomeAnd}
use Rattle.std.proofs.Math.Seq.{map-set_same}
use Rattle.std.proofs.lemmas.List.{get_or-map, map-set, length-set, length-map, get_or-set_same, get_or-set_other}
use Rattle.std.proofs.lemmas.Bool.{cases_eq}
use Rattle.short_paths.specs.declared.mark.Mark.{Mark}
use Rattle.short_paths.specs.Marks.{best_of, place_in, bests_of, places_of}
use Rattle.short_paths.specs.Searching.{IsOffered, place_of}

-- the same mark for all gives the same of each
pub map_replicate : (f : Mark → Option ℕ) (n : ℕ) (mark : Mark) (o : Option ℕ) → f mark ≡ o → map f (replicate n mark) ≡ replicate n o
map_replicate f zero mark o is = refl
map_replicate f (suc n) mark o is = let rest = map_replicate f n mark o is in ap (λ (x : Option ℕ). x ∷ map f (replicate n mark)) is ∙ ap (λ xs. o ∷ xs) rest

module _ (marks : List Mark) (v : ℕ) (mark : Mark) (within : v < length marks) (is : mark ≡ get_or marks v mark) where
  -- what is known of a vertex tells the least that was offered, and its place
  pub best_at : get_or (bests_of marks) v None ≡ best_of mark
  best_at = get_or-map best_of marks v mark None within ∙ sym (ap best_of is)

  pub place_at : place_of (places_of marks) v ≡ place_in mark
  place_at = get_or-map place_in marks v mark None within ∙ sym (ap place_in is)

  module _ (after : Mark) where
    -- a vertex that is marked anew keeps its place
    pub places_kept : place_in after ≡ place_in mark → places_of (set marks v after) ≡ places_of marks
    places_kept same = map-set_same place_in marks v after mark (same ∙ ap place_in is)

    -- what was offered to others is as before
    pub bests_others : (w : ℕ) → (w ≡ v → ⊥) → get_or (bests_of (set marks v after)) w None ≡ get_or (bests_of marks) w None
    bests_others w other = ap (λ bests. get_or bests w None) (map-set best_of marks v after) ∙ get_or-set_other (bests_of marks) v w (best_of after) None other

    -- where the vertex keeps what it was offered, all do
    pub bests_more : ((least : ℕ) → best_of mark ≡ Some least → best_of after ≡ Some least) → (w x : ℕ) → IsOffered (bests_of marks) w x → IsOffered (bests_of (set marks v after)) w x
    bests_more keeps w x offered = elim (cases_eq w v) [
      | inl same ↦
          let here = sym best_at ∙ ap (λ k. get_or (bests_of marks) k None) (sym same) ∙ offered.1 in
          (offered.0, ap (λ k. get_or (bests_of (set marks v after)) k None) same ∙ ap (λ bests. get_or bests v None) (map-set best_of marks v after) ∙ get_or-set_same (bests_of marks) v (best_of after) None (let long = length-map marks best_of in omega arith) ∙ keeps offered.0 here, offered.2)
      | inr other ↦ (offered.0, bests_others w other ∙ offered.1, offered.2)
    ]

-- as many are known of as before
pub bests_long : (marks : List Mark) (v : ℕ) (after : Mark) → length (bests_of (set marks v after)) ≡ length (bests_of marks)
bests_long marks v after = length-map (set marks v after) best_of ∙ length-set marks v after ∙ sym (length-map marks best_of)

-- what a vertex is offered is written there alone
pub bests_put : (marks : List Mark) (v : ℕ) (after : Mark) (least : ℕ) → best_of after ≡ Some least → bests_of (set marks v after) ≡ set (bests_of marks) v (Some least)
bests_put marks v after least is = map-set best_of marks v after ∙ ap (set (bests_of marks) v) is

-- and so is the place where it is settled
pub places_put : (marks : List Mark) (v : ℕ) (after : Mark) (place : ℕ) → place_in after ≡ Some place → places_of (set marks v after) ≡ set (places_of marks) v (Some place)
places_put marks v after place is = map-set place_in marks v after ∙ ap (set (places_of marks) v) is

-- what is said of what was offered, as an offer of this cost
pub offered_from : (o : Option ℕ) (cost : ℕ) → IsSomeAnd o (λ least. least ≤ cost) → (least : ℕ) × (o ≡ Some least) × (least ≤ cost)
offered_from None cost h = absurd h
offered_from (Some least) cost h = (least, refl, h)

pub dearer_from : (o : Option ℕ) (cost : ℕ) → IfSome o (λ least. cost < least) → (least : ℕ) → o ≡ Some least → cost ≤ least
dearer_from None cost h least is = absurd (let clash : ⊥ = cc in clash)
dearer_from (Some x) cost h least is = let same : x ≡ least = cc in omega arith

-- there are as many of each as there are marks
pub length-bests_of : (marks : List Mark) → length (bests_of marks) ≡ length marks
length-bests_of marks = length-map marks best_of

pub length-places_of : (marks : List Mark) → length (places_of marks) ≡ length marks
length-places_of marks = length-map marks place_in

-- what a vertex's mark tells is its place
pub place_read : (marks : List Mark) (v : ℕ) (mark : Mark) (o : Option ℕ) → v < length (places_of marks) → mark ≡ get_or marks v mark → o ≡ place_in mark → place_of (places_of marks) v ≡ o
place_read marks v mark o within is known = place_at marks v mark (let long = length-places_of marks in omega arith) is ∙ sym known
