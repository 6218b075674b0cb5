-- How a search goes on from offer to offer.
use Rattle.std.proofs.Common.{◌≡◌, ◌≢◌, ℕ, ◌+◌, ◌-◌, ◌^◌, ◌<◌, ◌≤◌, ◌&&◌, Bool, List, [], ◌∷◌, ◌++◌, length, get_or, set, replicate, ◌⊎◌, inl, inr, refl, sym, ap, ◌∙◌, subst, get_or-set_same, get_or-set_other, length-set, arith}
use Rattle.std.specs.Prelude.{IsTrue, ◌==◌, All, IsPermutation, min}
use Rattle.std.specs.BinaryHeap.{heap_items}
use Rattle.std.proofs.lemmas.Bool.{cases_eq, cases_lt, false≢true, eqb-true, eq-eqb, or_cases, or_left, or_right, and_parts, and_from}
use Rattle.std.proofs.lemmas.List.{get_or_past, get_or-replicate, length-replicate}
use Rattle.std.proofs.lemmas.List.Elements.{All-nil, All-cons, All-tail, All-push}
use Rattle.std.proofs.lemmas.List.Sorted.{All-permutation, list_any-IsPermutation}
use Rattle.st_model.specs.Network.{IsVertex}
use Rattle.bidirected_form.specs.declared.arc.Arc.{Arc}
use Rattle.bidirected_form.specs.Digraph.{Digraph, IsDigraph, arcs_into}
use Rattle.bidirected_form.proofs.Lookups.{left_from-at, left_from-found}
use Rattle.dual_ascent.specs.declared.searching.Search.{Search}
use Rattle.dual_ascent.specs.Levels.{WalksTo, ends, goes}
use Rattle.dual_ascent.specs.Searching.{Offer, least_of, is_offered, IsFollowed, IsSeen, IsSearch, IsLowered, Offers, AreDistances}

-- the test whether an offer is that of v at this distance
abbrev pub is_offer : ℕ → ℕ → Offer → Bool
is_offer v distance e = (e.0.1 == v) && (e.0.0 == distance)

-- what waits in one order waits in another
seen_moved : (D : Digraph) (old new : List Offer) (least : List ℕ) (v : ℕ) → IsPermutation old new → IsSeen D old least v → IsSeen D new least v
seen_moved D old new least v moved (inl followed) = inl followed
seen_moved D old new least v moved (inr (inl offered)) = inr (inl (sym (list_any-IsPermutation (is_offer v (least_of least v)) old new moved) ∙ offered))
seen_moved D old new least v moved (inr (inr beyond)) = inr (inr beyond)

pub search_moved : (D : Digraph) (q target : ℕ) (old new : List Offer) (least : List ℕ) → IsPermutation old new → IsSearch D q target old least → IsSearch D q target new least
search_moved D q target old new least moved h = record {
  small = h.small;
  long = h.long;
  end = h.end;
  within = h.within;
  walks = h.walks;
  queued = All-permutation (λ (e : Offer). IsVertex D.n e.0.1) old new moved h.queued;
  seen = λ v range. seen_moved D old new least v moved (h.seen v range);
}

-- an offer is let go whose vertex was offered another distance, or was followed, or isn't nearer than the root
pub search_without : (D : Digraph) (q target : ℕ) (e : Offer) (queue : List Offer) (least : List ℕ) → (least_of least e.0.1 ≡ e.0.0 → IsFollowed D least e.0.1 e.0.0 ⊎ (least_of least D.root ≤ e.0.0)) → IsSearch D q target (e ∷ queue) least → IsSearch D q target queue least
search_without D q target e queue least done h = record {
  small = h.small;
  long = h.long;
  end = h.end;
  within = h.within;
  walks = h.walks;
  queued = All-tail (λ (o : Offer). IsVertex D.n o.0.1) e queue h.queued;
  seen = λ v range. seen v (h.seen v range);
}
  where
    settled : (v : ℕ) → e.0.1 ≡ v → e.0.0 ≡ least_of least v → IsFollowed D least e.0.1 e.0.0 ⊎ (least_of least D.root ≤ e.0.0) → IsSeen D queue least v
    settled v at same (inl followed) = inl (subst (λ (d : ℕ). IsFollowed D least v d) same (subst (λ (w : ℕ). IsFollowed D least w e.0.0) at followed))
    settled v at same (inr beyond) = inr (inr (omega (arith, beyond, same)))

    seen : (v : ℕ) → IsSeen D (e ∷ queue) least v → IsSeen D queue least v
    seen v (inl followed) = inl followed
    seen v (inr (inr beyond)) = inr (inr beyond)
    seen v (inr (inl offered)) = elim (or_cases (is_offer v (least_of least v) e) (is_offered queue v (least_of least v)) offered) [
      | inr later ↦ inr (inl later)
      | inl this ↦
          let parts = and_parts (e.0.1 == v) (e.0.0 == least_of least v) this in
          let at : e.0.1 ≡ v = eqb-true e.0.1 v parts.0 in
          let same : e.0.0 ≡ least_of least v = eqb-true e.0.0 (least_of least v) parts.1 in
          settled v at same (done (ap (least_of least) at ∙ sym same))
    ]

-- one place of a list is changed
put_here : (xs : List ℕ) (i y w : ℕ) → i < length xs → w ≡ i → get_or (set xs i y) w 0 ≡ y
put_here xs i y w inside same = rw (same, get_or-set_same) refl

put_other : (xs : List ℕ) (i y w : ℕ) → w ≢ i → get_or (set xs i y) w 0 ≡ get_or xs w 0
put_other xs i y w other = rw get_or-set_other refl

pub put_lower : (xs : List ℕ) (i y w : ℕ) → i < length xs → y < get_or xs i 0 → get_or (set xs i y) w 0 ≤ get_or xs w 0
put_lower xs i y w inside less = elim (cases_eq w i) [
  | inl same ↦ omega (arith, put_here xs i y w inside same, less, ap (λ (j : ℕ). get_or xs j 0) same)
  | inr other ↦ omega (arith, put_other xs i y w other)
]

-- a vertex is offered less
module _ (D : Digraph) (q target : ℕ) (e : Offer) (old new : Search) (distance v : ℕ) (range : IsVertex D.n v) (lowered : IsLowered D.root old new distance v) (walk : WalksTo D q v distance) (h : IsSearch D q target (e ∷ heap_items old.queue) old.least.items) where
  abbrev before : List ℕ
  before = old.least.items

  abbrev after : List ℕ
  after = set before v distance

  inside : v < length before
  inside = omega (arith, range.1, h.long)

  lower : (w : ℕ) → least_of after w ≤ least_of before w
  lower w = put_lower before v distance w inside lowered.below

  here : IsTrue (is_offered (e ∷ heap_items new.queue) v distance)
  here = or_right (is_offer v distance e) _ (sym (list_any-IsPermutation (is_offer v distance) (record { 0 = (distance, v) } ∷ heap_items old.queue) (heap_items new.queue) lowered.queue) ∙ or_left _ _ (and_from (v == v) (distance == distance) (eq-eqb v v refl) (eq-eqb distance distance refl)))

  later : (w d : ℕ) → IsTrue (is_offered (e ∷ heap_items old.queue) w d) → IsTrue (is_offered (e ∷ heap_items new.queue) w d)
  later w d offered = elim (or_cases (is_offer w d e) (is_offered (heap_items old.queue) w d) offered) [
    | inl this ↦ or_left (is_offer w d e) _ this
    | inr waits ↦ or_right (is_offer w d e) _ (sym (list_any-IsPermutation (is_offer w d) (record { 0 = (distance, v) } ∷ heap_items old.queue) (heap_items new.queue) lowered.queue) ∙ or_right _ _ waits)
  ]

  seen_other : (w : ℕ) → least_of after w ≡ least_of before w → IsSeen D (e ∷ heap_items old.queue) before w → IsSeen D (e ∷ heap_items new.queue) after w
  seen_other w same (inl followed) = inl (λ u r is. omega (arith, followed u r is, lower u, lower D.root, same))
  seen_other w same (inr (inl offered)) = inr (inl (subst (λ (d : ℕ). IsTrue (is_offered (e ∷ heap_items new.queue) w d)) (sym same) (later w (least_of before w) offered)))
  seen_other w same (inr (inr beyond)) = inr (inr (omega (arith, beyond, lower D.root, same)))

  seen_after : (w : ℕ) → IsVertex D.n w → IsSeen D (e ∷ heap_items new.queue) after w
  seen_after w at = elim (cases_eq w v) [
    | inl same ↦ inr (inl (subst (λ (d : ℕ). IsTrue (is_offered (e ∷ heap_items new.queue) w d)) (sym (put_here before v distance w inside same)) (subst (λ (x : ℕ). IsTrue (is_offered (e ∷ heap_items new.queue) x distance)) (sym same) here)))
    | inr other ↦ seen_other w (put_other before v distance w other) (h.seen w at)
  ]

  walks_after : (w : ℕ) → IsVertex D.n w → (least_of after w ≡ target) ⊎ WalksTo D q w (least_of after w)
  walks_after w at = elim (cases_eq w v) [
    | inl same ↦ inr (subst (λ (d : ℕ). WalksTo D q w d) (sym (put_here before v distance w inside same)) (subst (λ (x : ℕ). WalksTo D q x distance) (sym same) walk))
    | inr other ↦ subst (λ (d : ℕ). (d ≡ target) ⊎ WalksTo D q w d) (sym (put_other before v distance w other)) (h.walks w at)
  ]

  search_set : IsSearch D q target (e ∷ heap_items new.queue) after
  search_set = record {
    small = h.small;
    long = length-set before v distance ∙ h.long;
    end = omega (arith, lower q, h.end);
    within = λ w. omega (arith, lower w, h.within w);
    walks = walks_after;
    queued = All-cons (λ (o : Offer). IsVertex D.n o.0.1) e (heap_items new.queue) (h.queued 0 e (omega arith)) (All-permutation (λ (o : Offer). IsVertex D.n o.0.1) (record { 0 = (distance, v) } ∷ heap_items old.queue) (heap_items new.queue) lowered.queue (All-cons (λ (o : Offer). IsVertex D.n o.0.1) (record { 0 = (distance, v) }) (heap_items old.queue) range (All-tail (λ (o : Offer). IsVertex D.n o.0.1) e (heap_items old.queue) h.queued)));
    seen = seen_after;
  }

  pub search_lowered : IsSearch D q target (e ∷ heap_items new.queue) new.least.items
  search_lowered = subst (λ (xs : List ℕ). IsSearch D q target (e ∷ heap_items new.queue) xs) (sym lowered.least) search_set

-- the arcs that were followed lead nowhere nearer, up to the root
abbrev pub ArePassed : Digraph → List ℕ → ℕ → List Arc → Type 0
ArePassed D least distance arcs = All (λ a. min (least_of least a.tail) (least_of least D.root) ≤ distance + a.remaining) arcs

-- a search in which some of the arcs to the vertex of an offer were followed
pub record IsFollowing (D : Digraph) (q target : ℕ) (e : Offer) (arcs : List Arc) (queue : List Offer) (least : List ℕ) : Type 0 where
  pub search : IsSearch D q target (e ∷ queue) least
  pub passed : ArePassed D least e.0.0 arcs

-- one arc more is followed
module _ (D : Digraph) (q target : ℕ) (e : Offer) (arcs : List Arc) (a : Arc) (old new : Search) (reach : ℕ) (range : IsVertex D.n a.tail) (root : IsVertex D.n D.root) (sum : reach ≡ min (e.0.0 + a.remaining) (2 ^ 64 - 1)) (walk : WalksTo D q a.tail (a.remaining + e.0.0)) (h : IsFollowing D q target e arcs (heap_items old.queue) old.least.items) where
  -- what was passed stays so, where all distances fall
  still_passed : (now : List ℕ) → ((w : ℕ) → least_of now w ≤ least_of old.least.items w) → min (least_of now a.tail) (least_of now D.root) ≤ e.0.0 + a.remaining → ArePassed D now e.0.0 (arcs ++ a ∷ [])
  still_passed now lower this = All-push (λ (b : Arc). min (least_of now b.tail) (least_of now D.root) ≤ e.0.0 + b.remaining) arcs a (λ k d below. omega (arith, h.passed k d below, lower (get_or arcs k d).tail, lower D.root)) this

  -- a distance that is reached fits
  exact : reach < least_of old.least.items D.root → reach ≡ a.remaining + e.0.0
  exact less = omega (arith, less, sum, h.search.within D.root, h.search.small)

  offered_less : IsLowered D.root old new reach a.tail → IsFollowing D q target e (arcs ++ a ∷ []) (heap_items new.queue) new.least.items
  offered_less lowered =
      let inside : a.tail < length old.least.items = omega (arith, range.1, h.search.long) in
      let lower : (w : ℕ) → least_of new.least.items w ≤ least_of old.least.items w = λ w. subst (λ (xs : List ℕ). least_of xs w ≤ least_of old.least.items w) (sym lowered.least) (put_lower old.least.items a.tail reach w inside lowered.below) in
      let here : least_of new.least.items a.tail ≡ reach = subst (λ (xs : List ℕ). least_of xs a.tail ≡ reach) (sym lowered.least) (put_here old.least.items a.tail reach a.tail inside refl) in
      record {
        search = search_lowered D q target e old new reach a.tail range lowered (subst (WalksTo D q a.tail) (sym (exact lowered.below_root)) walk) h.search;
        passed = still_passed new.least.items lower (omega (arith, here, exact lowered.below_root));
      }

  pub follow_more : Offers D.root old new reach a.tail → IsFollowing D q target e (arcs ++ a ∷ []) (heap_items new.queue) new.least.items
  follow_more (inr lowered) = offered_less lowered
  follow_more (inl kept) =
      let bound : min (least_of old.least.items a.tail) (least_of old.least.items D.root) ≤ e.0.0 + a.remaining = elim kept.1 [
        | inl by_root ↦ omega (arith, by_root, sum, h.search.within D.root, h.search.small)
        | inr by_tail ↦ omega (arith, by_tail, sum, h.search.within a.tail, h.search.small)
      ] in
      subst (λ (s : Search). IsFollowing D q target e (arcs ++ a ∷ []) (heap_items s.queue) s.least.items) (sym kept.0)
      record { search = h.search; passed = still_passed old.least.items (λ w. omega arith) bound }

-- the walk by an arc to a vertex that is nearer than the target
pub walk_more : (D : Digraph) (q target : ℕ) (queue : List Offer) (least : List ℕ) (v distance k : ℕ) (d : Arc) → IsDigraph D → IsVertex D.n v → k < length (arcs_into D v) → least_of least v ≡ distance → distance < least_of least D.root → IsSearch D q target queue least → WalksTo D q (get_or (arcs_into D v) k d).tail ((get_or (arcs_into D v) k d).remaining + distance)
walk_more D q target queue least v distance k d digraph range below is less h = elim (h.walks v range) [
  | inl far ↦ absurd (omega (arith, far, is, less, h.within D.root))
  | inr walk ↦ goes (left_from-at (arcs_into D v) k d (digraph.arcs v).ascending below) (subst (WalksTo D q v) is walk)
]

pub following_none : (D : Digraph) (q target : ℕ) (e : Offer) (queue : List Offer) (least : List ℕ) → IsSearch D q target (e ∷ queue) least → IsFollowing D q target e [] queue least
following_none D q target e queue least h = record { search = h; passed = All-nil (λ (a : Arc). min (least_of least a.tail) (least_of least D.root) ≤ e.0.0 + a.remaining) }

-- as many distances are kept
pub offers_long : (root : ℕ) (old new : Search) (distance v : ℕ) → Offers root old new distance v → length new.least.items ≡ length old.least.items
offers_long root old new distance v (inl kept) = ap (λ (s : Search). length s.least.items) kept.0
offers_long root old new distance v (inr lowered) = ap length lowered.least ∙ length-set old.least.items v distance

-- all of them were
pub followed_all : (D : Digraph) (q target : ℕ) (e : Offer) (queue : List Offer) (least : List ℕ) → IsFollowing D q target e (arcs_into D e.0.1) queue least → IsSearch D q target queue least
followed_all D q target e queue least h = search_without D q target e queue least (λ same. inl followed) h.search
  where
    followed : IsFollowed D least e.0.1 e.0.0
    followed u r is =
        let found = left_from-found (arcs_into D e.0.1) u r is in
        let a : Arc = record { tail = u; remaining = r } in
        subst (λ (b : Arc). min (least_of least b.tail) (least_of least D.root) ≤ e.0.0 + b.remaining) (found.2 a) (h.passed found.0 a found.1)

-- the vertex itself is offered, and nothing else
module _ (D : Digraph) (q target : ℕ) (all : List ℕ) (queue : List Offer) (small : target < 2 ^ 64) (range : IsVertex D.n q) (is : all ≡ replicate (D.n + 1) target) (one : IsPermutation (record { 0 = (0, q) } ∷ []) queue) where
  abbrev first : List ℕ
  first = set all q 0

  all_long : length all ≡ D.n + 1
  all_long = ap length is ∙ length-replicate (D.n + 1) target

  room : q < length all
  room = omega (arith, all_long, range.1)

  far : (v : ℕ) → v < D.n + 1 → v ≢ q → least_of first v ≡ target
  far v below other = put_other all q 0 v other ∙ ap (λ (xs : List ℕ). get_or xs v 0) is ∙ get_or-replicate (D.n + 1) v target 0 below

  first_within : (v : ℕ) → least_of first v ≤ target
  first_within v = elim (cases_eq v q) [
    | inl same ↦ omega (arith, put_here all q 0 v room same)
    | inr other ↦ elim (cases_lt v (D.n + 1)) [
      | inl below ↦ omega (arith, far v below other)
      | inr past ↦ omega (arith, get_or_past first v 0 (omega (arith, length-set all q 0, all_long, past)))
    ]
  ]

  first_walks : (v : ℕ) → IsVertex D.n v → (least_of first v ≡ target) ⊎ WalksTo D q v (least_of first v)
  first_walks v at = elim (cases_eq v q) [
    | inl same ↦ inr (subst (λ (d : ℕ). WalksTo D q v d) (sym (put_here all q 0 v room same)) (subst (λ (x : ℕ). WalksTo D q x 0) (sym same) ends))
    | inr other ↦ inl (far v (omega (arith, at.1)) other)
  ]

  first_offered : IsTrue (is_offered queue q 0)
  first_offered = sym (list_any-IsPermutation (is_offer q 0) (record { 0 = (0, q) } ∷ []) queue one) ∙ or_left _ _ (and_from (q == q) (0 == 0) (eq-eqb q q refl) refl)

  first_seen : (v : ℕ) → IsVertex D.n v → IsSeen D queue first v
  first_seen v at = elim (cases_eq v q) [
    | inl same ↦ inr (inl (subst (λ (d : ℕ). IsTrue (is_offered queue v d)) (sym (put_here all q 0 v room same)) (subst (λ (x : ℕ). IsTrue (is_offered queue x 0)) (sym same) first_offered)))
    | inr other ↦ inr (inr (omega (arith, far v (omega (arith, at.1)) other, first_within D.root)))
  ]

  pub search_start : IsSearch D q target queue first
  search_start = record {
    small = small;
    long = length-set all q 0 ∙ all_long;
    end = put_here all q 0 q room refl;
    within = first_within;
    walks = first_walks;
    queued = All-permutation (λ (o : Offer). IsVertex D.n o.0.1) (record { 0 = (0, q) } ∷ []) queue one (All-cons (λ (o : Offer). IsVertex D.n o.0.1) (record { 0 = (0, q) }) [] range (All-nil (λ (o : Offer). IsVertex D.n o.0.1)));
    seen = first_seen;
  }

-- nobody waits
pub distances_found : (D : Digraph) (q target : ℕ) (queue : List Offer) (least : List ℕ) → queue ≡ [] → IsSearch D q target queue least → AreDistances D q target least
distances_found D q target queue least none h = record {
  long = h.long;
  end = h.end;
  within = h.within;
  walks = h.walks;
  arcs = λ v range. followed v (subst (λ (es : List Offer). IsSeen D es least v) none (h.seen v range));
}
  where
    followed : (v : ℕ) → IsSeen D [] least v → IsFollowed D least v (least_of least v)
    followed v (inl is) = is
    followed v (inr (inl offered)) = absurd (false≢true offered)
    followed v (inr (inr beyond)) = λ u r is. omega (arith, beyond)
