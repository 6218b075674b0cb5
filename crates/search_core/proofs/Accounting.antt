-- What is gathered of a state accounts for every node that was made, and is complete where the state is settled.
use Rattle.std.proofs.Common.{◌≡◌, ℕ, suc, ◌+◌, ◌<◌, ◌≤◌, Bool, true, false, cond, ◌&&◌, List, [], ◌∷◌, ◌++◌, length, map, filter, refl, sym, ap, ◌∙◌, subst, arith, ◌⊎◌, inl, inr}
use Rattle.std.specs.Prelude.{◌==◌, All, Contains, nat_lt, nat_le}
use Rattle.std.specs.List.{AllByRecursion, flat_map}
use Rattle.std.proofs.lemmas.Bool.{false≢true}
use Rattle.std.proofs.lemmas.Bool.Decides.{nat_tests}
use Rattle.std.proofs.lemmas.List.{map-append}
use Rattle.std.proofs.lemmas.List.Elements.{All-append, All-contains, All-from_recursion, All-filter, All-map, All-nil, All-weaker, recursion_from_All}
use Rattle.st_model.specs.declared.branch.Branch.{Branch}
use Rattle.st_model.specs.Lists.{total}
use Rattle.st_model.specs.Network.{Network}
use Rattle.branching.specs.declared.node.Node.{Node}
use Rattle.branching.specs.Node.{IsNode}
use Rattle.search_core.specs.declared.done.Done.{Done}
use Rattle.search_core.specs.declared.done.Done.TheVariants.{Split, Close}
use Rattle.search_core.specs.declared.made.Made.{Made}
use Rattle.search_core.specs.declared.made.Place.{Place}
use Rattle.search_core.specs.declared.made.Place.TheVariants as place
use Rattle.search_core.specs.declared.worker.Worker.{Worker}
use Rattle.search_core.specs.Accounted.{IsGatheredOf, busy_ids, claimed_in_hands, is_busy, is_hand}
use Rattle.search_core.specs.Complete.{IsComplete, IsRightNode, IsRightRecord, IsRightSegment, done_id, made_ids, records, standing_ids, times, waiting}
use Rattle.search_core.specs.Kept.{IsCounted, IsKept, IsOfWorker, IsRecorded, IsRecordedNode, IsSoundRecord, IsSoundWork, all_done, claim_fits, made_nodes, node_ids, one_if}
use Rattle.search_core.specs.Needs.{is_queue}
use Rattle.search_core.specs.Settled.{IsSettled, gathered, is_done, is_left_of, is_waiting, left_of, queued, segments_from}
use Rattle.search_core.specs.State.{State}
use Rattle.search_core.proofs.Ids.{times-append}
use Rattle.search_core.proofs.Recording.{if_ended, times-ended_ids, times-node_ids}
use Rattle.search_core.proofs.Totals.{All-any, All-both, total-add, total-filter, total-map, total-same, total-zero}

-- the records that are gathered are those of all workers
records-gathered : (nodes : List Made) (w : ℕ) (xs : List Worker) → flat_map (λ s. s.done) (segments_from nodes w xs) ≡ all_done xs
records-gathered nodes w [] = refl
records-gathered nodes w (x ∷ xs) = ap (λ (ds : List Done). x.done ++ ds) (records-gathered nodes (w + 1) xs)

-- how often an id stands among the nodes of some places
at_places : (id : ℕ) (p : Made → Bool) (nodes : List Made) → times id (map (λ N. N.id) (map (λ m. m.node) (filter p nodes))) ≡ total (λ m. cond (p m) (cond (m.node.id == id) 1 0) 0) nodes
at_places id p nodes =
    total-map (λ other. cond (other == id) 1 0) (λ (N : Node). N.id) (map (λ m. m.node) (filter p nodes))
    ∙ (total-map (λ (N : Node). cond (N.id == id) 1 0) (λ m. m.node) (filter p nodes) ∙ total-filter (λ m. cond (m.node.id == id) 1 0) p nodes)

-- whether a place is that of the nodes that one of n workers left, from w on
abbrev is_left_from : ℕ → ℕ → Place → Bool
is_left_from w n (place.Left v) = nat_le w v && nat_lt v (w + n)
is_left_from w n _ = false

-- the nodes that so many workers left
left_ids : (id : ℕ) (nodes : List Made) (w : ℕ) (xs : List Worker) → times id (map (λ N. N.id) (flat_map (λ s. s.left) (segments_from nodes w xs))) ≡ total (λ m. cond (is_left_from w (length xs) m.place) (cond (m.node.id == id) 1 0) 0) nodes
left_ids id nodes w [] = sym (total-zero (λ _. Unit {0}) (λ m. cond (is_left_from w 0 m.place) (cond (m.node.id == id) 1 0) 0) nodes (λ m h. none m.place (cond (m.node.id == id) 1 0)) (All-any (λ _. Unit {0}) nodes (λ m. tt)))
  where
    no_number : (v : ℕ) → nat_le w v && nat_lt v (w + 0) ≡ false
    no_number v = by_test (nat_le w v) (nat_lt v (w + 0)) refl refl
      where
        clash : nat_le w v ≡ true → nat_lt v (w + 0) ≡ true → ⊥
        clash a b = grind (arith, nat_tests)

        by_test : (a b : Bool) → nat_le w v ≡ a → nat_lt v (w + 0) ≡ b → a && b ≡ false
        by_test true true p q = absurd (clash p q)
        by_test true false p q = refl
        by_test false b p q = refl

    none : (p : Place) (t : ℕ) → cond (is_left_from w 0 p) t 0 ≡ 0
    none (place.Left v) t = rw (no_number v) refl
    none _ t = refl
left_ids id nodes w (x ∷ xs) =
    ap (λ (ids : List ℕ). times id ids) (map-append (λ (N : Node). N.id) (left_of nodes w) (flat_map (λ s. s.left) (segments_from nodes (w + 1) xs)))
    ∙ (times-append id (map (λ (N : Node). N.id) (left_of nodes w)) (map (λ (N : Node). N.id) (flat_map (λ s. s.left) (segments_from nodes (w + 1) xs)))
    ∙ (both _ _ _ _ (at_places id (λ m. is_left_of w m.place) nodes) (left_ids id nodes (w + 1) xs)
    ∙ (total-add (λ m. cond (is_left_of w m.place) (cond (m.node.id == id) 1 0) 0) (λ m. cond (is_left_from (w + 1) (length xs) m.place) (cond (m.node.id == id) 1 0) 0) nodes
    ∙ total-same (λ _. Unit {0}) (λ m. cond (is_left_of w m.place) (cond (m.node.id == id) 1 0) 0 + cond (is_left_from (w + 1) (length xs) m.place) (cond (m.node.id == id) 1 0) 0) (λ m. cond (is_left_from w (suc (length xs)) m.place) (cond (m.node.id == id) 1 0) 0) nodes (λ m h. one_of_both (length xs) m.place (cond (m.node.id == id) 1 0)) (All-any (λ _. Unit {0}) nodes (λ m. tt)))))
  where
    both : (a b c d : ℕ) → a ≡ b → c ≡ d → a + c ≡ b + d
    both a b c d h k = omega arith

    first : (n v : ℕ) → (v == w) ≡ true → (nat_le (w + 1) v ≡ false) × (nat_le w v ≡ true) × (nat_lt v (w + suc n) ≡ true)
    first n v is = (grind (arith, nat_tests), grind (arith, nat_tests), grind (arith, nat_tests))

    later : (n v : ℕ) → (v == w) ≡ false → nat_le (w + 1) v && nat_lt v (w + 1 + n) ≡ nat_le w v && nat_lt v (w + suc n)
    later n v is = by_test (nat_le (w + 1) v) (nat_le w v) (nat_lt v (w + 1 + n)) (nat_lt v (w + suc n)) same_low same_high
      where
        same_low : nat_le (w + 1) v ≡ nat_le w v
        same_low = grind (arith, nat_tests)

        same_high : nat_lt v (w + 1 + n) ≡ nat_lt v (w + suc n)
        same_high = grind (arith, nat_tests)

        by_test : (a b c d : Bool) → a ≡ b → c ≡ d → a && c ≡ b && d
        by_test a b c d p q = cc

    add_none : (t : ℕ) → t + 0 ≡ t
    add_none t = omega arith

    none_add : (t : ℕ) → 0 + t ≡ t
    none_add t = omega arith

    one_of_both : (n : ℕ) (p : Place) (t : ℕ) → cond (is_left_of w p) t 0 + cond (is_left_from (w + 1) n p) t 0 ≡ cond (is_left_from w (suc n) p) t 0
    one_of_both n (place.Left v) t = by_case (v == w) refl
      where
        by_case : (b : Bool) → (v == w) ≡ b → cond b t 0 + cond (nat_le (w + 1) v && nat_lt v (w + 1 + n)) t 0 ≡ cond (nat_le w v && nat_lt v (w + suc n)) t 0
        by_case true is = let k = first n v is in rw (k.0, k.1, k.2) (add_none t)
        by_case false is = rw (later n v is) (none_add _)
    one_of_both n _ t = refl

-- a node is split or closed, left by one of the workers, queued, or being worked on
each_once : (n : ℕ) (p : Place) (t : ℕ) → IsOfWorker n p → cond (is_done p) t 0 + (cond (is_left_from 0 n p) t 0 + cond (is_queue p) t 0) + cond (is_busy p) t 0 ≡ t
each_once n (place.Left v) t below = rw (low v, high v n below) (alone t)
  where
    low : (v : ℕ) → nat_le 0 v ≡ true
    low v = grind (arith, nat_tests)

    high : (v n : ℕ) → v < n → nat_lt v (0 + n) ≡ true
    high v n h = grind (arith, nat_tests)

    alone : (t : ℕ) → 0 + (t + 0) + 0 ≡ t
    alone t = omega arith
each_once n (place.Queue v) t below = omega arith
each_once n (place.Hand v) t below = omega arith
each_once n (place.Fresh v) t below = omega arith
each_once n place.Split t below = omega arith
each_once n place.Closed t below = omega arith

-- so each id stands as often as among the nodes
places-once : (S : State) → IsRecorded S → (id : ℕ) → times id (map done_id (all_done S.workers)) + (times id (map (λ N. N.id) (flat_map (λ s. s.left) (segments_from S.nodes 0 S.workers))) + times id (map (λ N. N.id) (queued S.nodes))) + times id (busy_ids S.nodes) ≡ times id (node_ids S.nodes)
places-once S h id =
    four _ _ _ _ _ _ _ _ (h.ended id ∙ times-ended_ids id S.nodes) (left_ids id S.nodes 0 S.workers) (at_places id (λ m. is_queue m.place) S.nodes) (times-node_ids id (filter (λ m. is_busy m.place) S.nodes) ∙ total-filter (λ m. cond (m.node.id == id) 1 0) (λ m. is_busy m.place) S.nodes)
    ∙ (sums (if_ended id) (λ m. cond (is_left_from 0 (length S.workers) m.place) (cond (m.node.id == id) 1 0) 0) (λ m. cond (is_queue m.place) (cond (m.node.id == id) 1 0) 0) (λ m. cond (is_busy m.place) (cond (m.node.id == id) 1 0) 0) S.nodes
    ∙ (total-same (λ m. IsOfWorker (length S.workers) m.place) (λ m. if_ended id m + (cond (is_left_from 0 (length S.workers) m.place) (cond (m.node.id == id) 1 0) 0 + cond (is_queue m.place) (cond (m.node.id == id) 1 0) 0) + cond (is_busy m.place) (cond (m.node.id == id) 1 0) 0) (λ m. cond (m.node.id == id) 1 0) S.nodes (λ m k. each_once (length S.workers) m.place (cond (m.node.id == id) 1 0) k) h.places
    ∙ sym (times-node_ids id S.nodes)))
  where
    four : (a b c d a' b' c' d' : ℕ) → a ≡ a' → b ≡ b' → c ≡ c' → d ≡ d' → a + (b + c) + d ≡ a' + (b' + c') + d'
    four a b c d a' b' c' d' h i j k = omega arith

    sums : (f g h k : Made → ℕ) (nodes : List Made) → total f nodes + (total g nodes + total h nodes) + total k nodes ≡ total (λ m. f m + (g m + h m) + k m) nodes
    sums f g h k nodes =
        ap (λ (n : ℕ). total f nodes + n + total k nodes) (total-add g h nodes)
        ∙ (ap (λ (n : ℕ). n + total k nodes) (total-add f (λ m. g m + h m) nodes) ∙ total-add (λ m. f m + (g m + h m)) k nodes)

-- each claim went to a record, or to a node in a hand
claims-went : (S : State) → IsCounted S → IsRecorded S → length (all_done S.workers) + claimed_in_hands S.nodes ≡ S.claims
claims-went S counted h =
    ap (λ (n : ℕ). n + claimed_in_hands S.nodes) h.ended_once
    ∙ (total-add (λ m. one_if (is_done m.place)) (λ m. one_if (is_hand m.place && m.claimed)) S.nodes
    ∙ (total-same (λ m. claim_fits m.place m.claimed ≡ true) (λ m. one_if (is_done m.place) + one_if (is_hand m.place && m.claimed)) (λ m. one_if m.claimed) S.nodes (λ m k. either m.place m.claimed k) counted.places
    ∙ sym counted.claims))
  where
    either : (p : Place) (b : Bool) → claim_fits p b ≡ true → one_if (is_done p) + one_if (is_hand p && b) ≡ one_if b
    either (place.Hand w) true e = refl
    either (place.Hand w) false e = refl
    either (place.Queue w) true e = absurd (false≢true e)
    either (place.Queue w) false e = refl
    either (place.Fresh w) true e = absurd (false≢true e)
    either (place.Fresh w) false e = refl
    either (place.Left w) true e = absurd (false≢true e)
    either (place.Left w) false e = refl
    either place.Split true e = refl
    either place.Split false e = absurd (false≢true e)
    either place.Closed true e = refl
    either place.Closed false e = absurd (false≢true e)

-- a sound record is of a node that was made
record-right : (I : Network) (R : Branch) (start : ℕ) (nodes : List Node) (done : List Done) (seen : ℕ) → ((N : Node) → Contains nodes N → IsRecordedNode I R done N) → (d : Done) → IsSoundRecord I start nodes seen d → IsRightRecord I R start done seen d
record-right I R start nodes done seen made (Split id at i o P) (N, h) = (N.branch, record { made = rw (← h.id_is) (made N h.node).made; vertex = h.vertex; packing = h.packing })
record-right I R start nodes done seen made (Close id P) (N, h) = (N.branch, record { made = rw (← h.id_is) (made N h.node).made; packing = h.packing })

segments-right : (I : Network) (R : Branch) (start least : ℕ) (nodes : List Made) (done : List Done) → ((N : Node) → Contains (map (λ m. m.node) nodes) N → IsRecordedNode I R done N) → (w : ℕ) (xs : List Worker) → All (λ x. IsSoundWork I start least (map (λ m. m.node) nodes) x.seen x.done) xs → All (IsRightSegment I R start least done) (segments_from nodes w xs)
segments-right I R start least nodes done made w xs all = All-from_recursion (IsRightSegment I R start least done) (segments_from nodes w xs) (by_list w xs (recursion_from_All (λ x. IsSoundWork I start least (map (λ m. m.node) nodes) x.seen x.done) xs all))
  where
    by_list : (w : ℕ) (xs : List Worker) → AllByRecursion (λ x. IsSoundWork I start least (map (λ m. m.node) nodes) x.seen x.done) xs → AllByRecursion (IsRightSegment I R start least done) (segments_from nodes w xs)
    by_list w [] h = tt
    by_list w (x ∷ xs) h = (
      record {
        records = All-weaker (IsSoundRecord I start (map (λ m. m.node) nodes) x.seen) (IsRightRecord I R start done x.seen) (record-right I R start (map (λ m. m.node) nodes) done x.seen made) x.done h.0.records;
        seen = h.0.low;
      },
      by_list (w + 1) xs h.1,
    )

-- what holds of each node holds of those that are gathered
waiting-all : (P : Node → Type 0) (nodes : List Made) (w : ℕ) (xs : List Worker) → All (λ m. P m.node) nodes → All P (flat_map (λ s. s.left) (segments_from nodes w xs) ++ queued nodes)
waiting-all P nodes w xs all = All-append P (flat_map (λ s. s.left) (segments_from nodes w xs)) (queued nodes) (all_left w xs) (of_places (λ m. is_queue m.place))
  where
    of_places : (p : Made → Bool) → All P (map (λ m. m.node) (filter p nodes))
    of_places p = All-map P (λ (m : Made). m.node) (filter p nodes) (All-filter p (λ m. P m.node) nodes all)

    all_left : (w : ℕ) (xs : List Worker) → All P (flat_map (λ s. s.left) (segments_from nodes w xs))
    all_left w [] = All-nil P
    all_left w (x ∷ xs) = All-append P (left_of nodes w) (flat_map (λ s. s.left) (segments_from nodes (w + 1) xs)) (of_places (λ m. is_left_of w m.place)) (all_left (w + 1) xs)

-- what is gathered of a state accounts for all but what is being worked on
pub gathered_of : (S : State) → IsKept S → IsGatheredOf S (gathered S)
gathered_of S kept = record {
  apart = λ id. subst (λ (n : ℕ). n ≤ 1) (kept.recorded.ids id ∙ made_same id) (kept.recorded.apart id);
  once = λ id. standing id ∙ (places-once S kept.recorded id ∙ (kept.recorded.ids id ∙ made_same id));
  segments = subst (λ (ds : List Done). All (IsRightSegment S.instance S.branch S.start S.least ds) (segments_from S.nodes 0 S.workers)) same (segments-right S.instance S.branch S.start S.least S.nodes (all_done S.workers) made 0 S.workers kept.sound.workers);
  waiting = subst (λ (ds : List Done). All (IsRightNode S.instance S.branch ds) (waiting (gathered S))) same (waiting-all (IsRightNode S.instance S.branch (all_done S.workers)) S.nodes 0 S.workers right);
  claimed = ap (λ (ds : List Done). length ds + claimed_in_hands S.nodes) (sym same) ∙ claims-went S kept.counted kept.recorded;
  allowed = kept.sound.claims;
}
  where
    same : all_done S.workers ≡ records (gathered S)
    same = sym (records-gathered S.nodes 0 S.workers)

    made_same : (id : ℕ) → times id (made_ids (all_done S.workers)) ≡ times id (made_ids (records (gathered S)))
    made_same id = ap (λ (ds : List Done). times id (made_ids ds)) same

    made : (N : Node) → Contains (made_nodes S) N → IsRecordedNode S.instance S.branch (all_done S.workers) N
    made N there = All-contains (IsRecordedNode S.instance S.branch (all_done S.workers)) (made_nodes S) N (All-map (IsRecordedNode S.instance S.branch (all_done S.workers)) (λ (m : Made). m.node) S.nodes kept.recorded.made) there

    right : All (λ m. IsRightNode S.instance S.branch (all_done S.workers) m.node) S.nodes
    right = All-weaker (λ m. IsRecordedNode S.instance S.branch (all_done S.workers) m.node × IsNode S.instance m.node) (λ m. IsRightNode S.instance S.branch (all_done S.workers) m.node) (λ m h. record { made = h.0.made; fits = h.1.fits; keeps = h.0.keeps }) S.nodes (All-both (λ m. IsRecordedNode S.instance S.branch (all_done S.workers) m.node) (λ m. IsNode S.instance m.node) S.nodes kept.recorded.made kept.sound.nodes)

    by_parts : (l b r p q : ℕ) → l ≡ r + (p + q) → l + b ≡ r + (p + q) + b
    by_parts l b r p q e = omega arith

    two : (l r s t p q : ℕ) → l ≡ r + s → s ≡ p + q → r ≡ t → l ≡ t + (p + q)
    two l r s t p q e g k = omega arith

    standing : (id : ℕ) → times id (standing_ids (gathered S)) + times id (busy_ids S.nodes) ≡ times id (map done_id (all_done S.workers)) + (times id (map (λ N. N.id) (flat_map (λ s. s.left) (segments_from S.nodes 0 S.workers))) + times id (map (λ N. N.id) (queued S.nodes))) + times id (busy_ids S.nodes)
    standing id =
        by_parts _ _ _ _ _ (two _ _ _ _ _ _ (times-append id (map done_id (records (gathered S))) (map (λ (N : Node). N.id) (waiting (gathered S)))) (ap (λ (ids : List ℕ). times id ids) (map-append (λ (N : Node). N.id) (flat_map (λ s. s.left) (segments_from S.nodes 0 S.workers)) (queued S.nodes)) ∙ times-append id (map (λ (N : Node). N.id) (flat_map (λ s. s.left) (segments_from S.nodes 0 S.workers))) (map (λ (N : Node). N.id) (queued S.nodes))) (ap (λ (ds : List Done). times id (map done_id ds)) (sym same)))

-- where a state is settled nobody works on anything
not_busy : (m : Made) → (is_done m.place ≡ true) ⊎ (is_waiting m.place ≡ true) → is_busy m.place ≡ false
not_busy m h = by_place m.place h
  where
    by_place : (p : Place) → (is_done p ≡ true) ⊎ (is_waiting p ≡ true) → is_busy p ≡ false
    by_place (place.Hand w) (inl e) = absurd (false≢true e)
    by_place (place.Hand w) (inr e) = absurd (false≢true e)
    by_place (place.Fresh w) (inl e) = absurd (false≢true e)
    by_place (place.Fresh w) (inr e) = absurd (false≢true e)
    by_place _ h = refl

none_busy : (S : State) → IsSettled S → (id : ℕ) → times id (busy_ids S.nodes) ≡ 0
none_busy S settled id =
    times-node_ids id (filter (λ m. is_busy m.place) S.nodes)
    ∙ (total-filter (λ m. cond (m.node.id == id) 1 0) (λ m. is_busy m.place) S.nodes
    ∙ total-zero (λ m. (is_done m.place ≡ true) ⊎ (is_waiting m.place ≡ true)) (λ m. cond (is_busy m.place) (cond (m.node.id == id) 1 0) 0) S.nodes (λ m h. rw (not_busy m h) refl) settled.places)

none_in_hand : (S : State) → IsSettled S → claimed_in_hands S.nodes ≡ 0
none_in_hand S settled = total-zero (λ m. (is_done m.place ≡ true) ⊎ (is_waiting m.place ≡ true)) (λ m. one_if (is_hand m.place && m.claimed)) S.nodes (λ m h. by_place m.place m.claimed h) settled.places
  where
    by_place : (p : Place) (b : Bool) → (is_done p ≡ true) ⊎ (is_waiting p ≡ true) → one_if (is_hand p && b) ≡ 0
    by_place (place.Hand w) b (inl e) = absurd (false≢true e)
    by_place (place.Hand w) b (inr e) = absurd (false≢true e)
    by_place _ b h = refl

-- what is gathered of a settled state is complete
pub settled_complete : (S : State) → IsKept S → IsSettled S → IsComplete (gathered S) S.instance S.branch S.start S.budget
settled_complete S kept settled =
    let h = gathered_of S kept in
    record {
      apart = h.apart;
      once = λ id. left_over _ _ _ (none_busy S settled id) (h.once id);
      segments = h.segments;
      waiting = h.waiting;
      claimed = left_over _ _ _ (none_in_hand S settled) h.claimed;
      allowed = h.allowed;
    }
  where
    left_over : (a b c : ℕ) → b ≡ 0 → a + b ≡ c → a ≡ c
    left_over a b c h k = omega arith

-- and nothing waits there where no node is left or queued
pub nothing-waits : (S : State) → All (λ m. is_waiting m.place ≡ false) S.nodes → waiting (gathered S) ≡ []
nothing-waits S none = rw (all_left 0 S.workers, of_places (λ m. is_queue m.place) (λ m. queue_waits m.place)) refl
  where
    queue_waits : (p : Place) → is_waiting p ≡ false → is_queue p ≡ false
    queue_waits (place.Queue w) e = absurd (false≢true (sym e))
    queue_waits _ e = refl

    left_waits : (w : ℕ) (p : Place) → is_waiting p ≡ false → is_left_of w p ≡ false
    left_waits w (place.Left v) e = absurd (false≢true (sym e))
    left_waits w _ e = refl

    of_places : (p : Made → Bool) → ((m : Made) → is_waiting m.place ≡ false → p m ≡ false) → map (λ m. m.node) (filter p S.nodes) ≡ []
    of_places p fails = by_list S.nodes (recursion_from_All (λ m. is_waiting m.place ≡ false) S.nodes none)
      where
        by_list : (ms : List Made) → AllByRecursion (λ m. is_waiting m.place ≡ false) ms → map (λ m. m.node) (filter p ms) ≡ []
        by_list [] h = refl
        by_list (m ∷ ms) h = rw (fails m h.0) (by_list ms h.1)

    all_left : (w : ℕ) (xs : List Worker) → flat_map (λ s. s.left) (segments_from S.nodes w xs) ≡ []
    all_left w [] = refl
    all_left w (x ∷ xs) = rw (of_places (λ m. is_left_of w m.place) (λ m. left_waits w m.place)) (all_left (w + 1) xs)
