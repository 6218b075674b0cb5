-- Each event keeps what is said of nodes and records.
use Rattle.std.proofs.Common.{◌≡◌, ℕ, zero, suc, ◌+◌, ◌-◌, ◌<◌, ◌≤◌, min, Bool, true, false, cond, ◌||◌, replicate, List, [], ◌∷◌, ◌++◌, length, Option, Some, None, refl, sym, ap, ◌∙◌, subst, arith, inl, inr}
use Rattle.std.specs.Prelude.{◌==◌, All, Contains, IfSome, find, nat_lt}
use Rattle.std.specs.Option.{option_map_or}
use Rattle.std.proofs.lemmas.Bool.{false≢true}
use Rattle.std.proofs.lemmas.Bool.Decides.{nat_tests}
use Rattle.std.proofs.lemmas.List.{append-nil}
use Rattle.std.proofs.lemmas.List.Elements.{All-append, All-from_recursion, All-nil, All-weaker}
use Rattle.st_model.specs.declared.split_at.SplitAt.{SplitAt}
use Rattle.st_model.specs.declared.branch.Branch.{Branch}
use Rattle.st_model.specs.Lists.{total}
use Rattle.st_model.specs.Network.{Network, IsInstance}
use Rattle.st_model.proofs.Sums.{total-append}
use Rattle.cut_packing.specs.declared.packing.Packing.{Packing}
use Rattle.cut_packing.specs.ProofTree.{IsSplitAt}
use Rattle.branching.specs.declared.node.Node.{Node}
use Rattle.branching.specs.Node.{IsNode}
use Rattle.branching.proofs.NoLighter.{halves_are_no_lighter_lem}
use Rattle.search_core.specs.declared.done.Done.{Done}
use Rattle.search_core.specs.declared.done.Done.TheVariants as done
use Rattle.search_core.specs.declared.done.End.TheVariants.{OpenZero, ClaimRefused, HaltSeen}
use Rattle.search_core.specs.declared.event.Event.{Event}
use Rattle.search_core.specs.declared.event.Event.TheVariants.{Take, Pick, Give, Claim, See, Offer, Up, Split, Close, Down, SeeOpen, SeeHalt, Halt, Keep}
use Rattle.search_core.specs.declared.made.Made.{Made}
use Rattle.search_core.specs.declared.made.Place.{Place}
use Rattle.search_core.specs.declared.made.Place.TheVariants as place
use Rattle.search_core.specs.declared.worker.Worker.{Worker}
use Rattle.search_core.specs.Complete.{IsMade, root, inside_of, outside_of, inside, outside, done_id, half_ids, made_ids, times}
use Rattle.search_core.specs.Effects.{after, ended, granted, refused, handed, moved, id_in_hand, put_down}
use Rattle.search_core.specs.Kept.{AreRecorded, IsCounted, IsOfWorker, IsRecorded, IsRecordedNode, IsSound, all_done, ended_ids, node_ids, one_if}
use Rattle.search_core.specs.Needs.{AllowsSplit, IsAllowed, is_fresh, is_fresh_of, is_queue, holds, may_split_at}
use Rattle.search_core.specs.Settled.{is_done}
use Rattle.search_core.specs.State.{State, beginning, changed_at, hand, has_id, made_as, new_worker, seen, with_made}
use Rattle.search_core.proofs.Counting.{found-first, fresh_waits, held_found, held_place, queue_waits}
use Rattle.search_core.proofs.Early.{SplitEarly, KeepEarly, take_early, pick_early, give_early, claim_early, up_early, split_early, keep_early}
use Rattle.search_core.proofs.Happened.{after_split, inside_made, outside_made, split_state}
use Rattle.search_core.proofs.Look.{all-with_made_at, asked, same_number}
use Rattle.search_core.proofs.MoreRecords.{AreMoreRecords, all_done-more, all_done-new, all_done-same, length-changed, made-more, node-more, total-all_done}
use Rattle.search_core.proofs.NodeLists.{all-found, all-with_made, found-id, total-with_made, total-with_made_same}
use Rattle.search_core.proofs.Soundness.{held_node, splits}
use Rattle.search_core.proofs.Totals.{length-total, total-filter, total-flat_map, total-map, total-zero}

-- how often an id stands among those of nodes, as a sum over the nodes
pub times-node_ids : (id : ℕ) (nodes : List Made) → times id (node_ids nodes) ≡ total (λ m. cond (m.node.id == id) 1 0) nodes
times-node_ids id nodes = total-map (λ other. cond (other == id) 1 0) (λ m. m.node.id) nodes

-- and among those of some
abbrev pub if_ended : ℕ → Made → ℕ
if_ended id m = cond (is_done m.place) (cond (m.node.id == id) 1 0) 0

pub times-ended_ids : (id : ℕ) (nodes : List Made) → times id (ended_ids nodes) ≡ total (if_ended id) nodes
times-ended_ids id nodes = times-node_ids id _ ∙ total-filter (λ m. cond (m.node.id == id) 1 0) (λ m. is_done m.place) nodes

-- a change that leaves each node
ids-with_made : (j : ℕ) (nodes : List Made) (id : ℕ) (f : Made → Made) → ((m : Made) → (f m).node ≡ m.node) → times j (node_ids (with_made nodes id f)) ≡ times j (node_ids nodes)
ids-with_made j nodes id f same =
    times-node_ids j (with_made nodes id f) ∙ (total-with_made_same (λ m. cond (m.node.id == j) 1 0) nodes id f (λ m. ap (λ (N : Node). cond (N.id == j) 1 0) (same m)) ∙ sym (times-node_ids j nodes))

-- a node goes from place to place, and is as done as it was
recorded_moved : (I : Network) (R : Branch) (count : ℕ) (nodes : List Made) (done : List Done) (id : ℕ) (m : Made) (f : Made → Made) → find (has_id id) nodes ≡ Some m → ((m : Made) → (f m).node ≡ m.node) → is_done (f m).place ≡ is_done m.place → IsOfWorker count (f m).place → AreRecorded I R count nodes done → AreRecorded I R count (with_made nodes id f) done
recorded_moved I R count nodes done id m f found same as_done there h = record {
  made = all-with_made (λ m. IsRecordedNode I R done m.node) nodes id f (λ m k. rw (same m) k) h.made;
  apart = λ j. subst (λ (n : ℕ). n ≤ 1) (sym (ids-with_made j nodes id f same)) (h.apart j);
  ids = λ j. ids-with_made j nodes id f same ∙ h.ids j;
  ended = λ j. h.ended j ∙ (times-ended_ids j nodes ∙ (sym (unchanged (if_ended j) (if_same j)) ∙ sym (times-ended_ids j (with_made nodes id f))));
  ended_once = h.ended_once ∙ sym (unchanged (λ a. one_if (is_done a.place)) (ap one_if as_done));
  places = all-with_made_at (λ m. IsOfWorker count m.place) nodes id f m found there h.places;
}
  where
    cancel : (a b p q : ℕ) → a + p ≡ b + q → q ≡ p → a ≡ b
    cancel a b p q e g = omega arith

    unchanged : (t : Made → ℕ) → t (f m) ≡ t m → total t (with_made nodes id f) ≡ total t nodes
    unchanged t e = cancel _ _ _ _ (total-with_made t nodes id f m found) e

    if_same : (j : ℕ) → if_ended j (f m) ≡ if_ended j m
    if_same j = rw (as_done, same m) refl

-- one thing more is recorded, of a node that wasn't done, and the nodes that it makes join
record IsOneMore (I : Network) (R : Branch) (count : ℕ) (nodes new : List Made) (done more : List Done) (d : Done) : Type 0 where
  pub grown : AreMoreRecords done more
  pub sums : (h : Done → ℕ) → total h more ≡ total h done + h d
  pub made : All (λ m. IsRecordedNode I R more m.node) new
  pub undone : All (λ m. is_done m.place ≡ false) new
  pub places : All (λ m. IsOfWorker count m.place) new
  pub ids : (id : ℕ) → times id (node_ids new) ≡ times id (half_ids d)
  pub apart : (id : ℕ) → times id (node_ids nodes) + times id (half_ids d) ≤ 1

recorded_done : (I : Network) (R : Branch) (count : ℕ) (nodes new : List Made) (done more : List Done) (d : Done) (m : Made) (to : Place) → find (has_id (done_id d)) nodes ≡ Some m → is_done m.place ≡ false → is_done to ≡ true → IsOfWorker count to → IsOneMore I R count nodes new done more d → AreRecorded I R count nodes done → AreRecorded I R count (with_made (nodes ++ new) (done_id d) (λ m. record m { place = to })) more
recorded_done I R count nodes new done more d m to found waits ends there one h = record {
  made = all-with_made (λ m. IsRecordedNode I R more m.node) (nodes ++ new) (done_id d) (λ m. record m { place = to }) (λ m k. k) (All-append (λ m. IsRecordedNode I R more m.node) nodes new (All-weaker (λ m. IsRecordedNode I R done m.node) (λ m. IsRecordedNode I R more m.node) (λ m k. node-more I R done more one.grown m.node k) nodes h.made) one.made);
  apart = λ j. subst (λ (n : ℕ). n ≤ 1) (sym (ids_are j)) (one.apart j);
  ids = λ j. ids_are j ∙ (ap (λ (n : ℕ). n + times j (half_ids d)) (h.ids j) ∙ sym (made_are j));
  ended = λ j. total-map (λ id. cond (id == j) 1 0) done_id more ∙ (one.sums (λ e. cond (done_id e == j) 1 0) ∙ (ap (λ (n : ℕ). n + cond (done_id d == j) 1 0) (sym (total-map (λ id. cond (id == j) 1 0) done_id done) ∙ (h.ended j ∙ times-ended_ids j nodes)) ∙ (sym (one_more (if_ended j) (cond (done_id d == j) 1 0) (rw waits refl) (rw (ends, found-id nodes (done_id d) m found) refl) (λ x e. rw e refl)) ∙ sym (times-ended_ids j (with_made (nodes ++ new) (done_id d) (λ m. record m { place = to }))))));
  ended_once = length-total more ∙ (one.sums (λ _. 1) ∙ (ap (λ (n : ℕ). n + 1) (sym (length-total done) ∙ h.ended_once) ∙ sym (one_more (λ a. one_if (is_done a.place)) 1 (ap one_if waits) (ap one_if ends) (λ x e. ap one_if e))));
  places = all-with_made_at (λ m. IsOfWorker count m.place) (nodes ++ new) (done_id d) (λ m. record m { place = to }) m found2 there (All-append (λ m. IsOfWorker count m.place) nodes new h.places one.places);
}
  where
    found2 : find (has_id (done_id d)) (nodes ++ new) ≡ Some m
    found2 = found-first nodes new (done_id d) m found

    by_parts : (l a b p q : ℕ) → l ≡ a + b → a ≡ p → b ≡ q → l ≡ p + q
    by_parts l a b p q e g k = omega arith

    ids_are : (j : ℕ) → times j (node_ids (with_made (nodes ++ new) (done_id d) (λ m. record m { place = to }))) ≡ times j (node_ids nodes) + times j (half_ids d)
    ids_are j =
        ids-with_made j (nodes ++ new) (done_id d) (λ m. record m { place = to }) (λ m. refl)
        ∙ (times-node_ids j (nodes ++ new) ∙ by_parts _ _ _ _ _ (total-append (λ m. cond (m.node.id == j) 1 0) nodes new) (sym (times-node_ids j nodes)) (sym (times-node_ids j new) ∙ one.ids j))

    made_sum : (a b c n : ℕ) → b ≡ c + n → a + b ≡ a + c + n
    made_sum a b c n e = omega arith

    made_are : (j : ℕ) → times j (made_ids more) ≡ times j (made_ids done) + times j (half_ids d)
    made_are j = made_sum (cond (0 == j) 1 0) _ _ _ (total-flat_map (λ id. cond (id == j) 1 0) half_ids more ∙ (one.sums (λ e. times j (half_ids e)) ∙ ap (λ (n : ℕ). n + times j (half_ids d)) (sym (total-flat_map (λ id. cond (id == j) 1 0) half_ids done))))

    sum_of : (l a b t p q n : ℕ) → l + p ≡ t + q → t ≡ a + b → p ≡ 0 → q ≡ n → b ≡ 0 → l ≡ a + n
    sum_of l a b t p q n e g h k i = omega arith

    one_more : (t : Made → ℕ) (n : ℕ) → t m ≡ 0 → t (record m { place = to }) ≡ n → ((x : Made) → is_done x.place ≡ false → t x ≡ 0) → total t (with_made (nodes ++ new) (done_id d) (λ m. record m { place = to })) ≡ total t nodes + n
    one_more t n before later none =
        sum_of _ (total t nodes) (total t new) _ _ _ n (total-with_made t (nodes ++ new) (done_id d) (λ m. record m { place = to }) m found2) (total-append t nodes new) before later (total-zero (λ x. is_done x.place ≡ false) t new none one.undone)

-- a change of one worker that records nothing
pub recorded_idle : (S : State) (w : ℕ) (f : Worker → Worker) (nodes : List Made) → ((x : Worker) → (f x).done ≡ x.done) → AreRecorded S.instance S.branch (length S.workers) nodes (all_done S.workers) → AreRecorded S.instance S.branch (length (changed_at S.workers w f)) nodes (all_done (changed_at S.workers w f))
recorded_idle S w f nodes same h = rw (length-changed S.workers w f, all_done-same S.workers w f same) h

-- a node comes into a hand
recorded_taken : (S : State) (w id : ℕ) (m : Made) → w < length S.workers → made_as S id ≡ Some m → is_done m.place ≡ false → IsRecorded S → IsRecorded (handed (moved S id (place.Hand w)) w (Some id))
recorded_taken S w id m there found waits h =
    recorded_idle S w (λ x. record x { hand = Some id }) _ (λ x. refl) (recorded_moved S.instance S.branch (length S.workers) S.nodes (all_done S.workers) id m (λ m. record m { place = place.Hand w }) found (λ m. refl) (sym waits) there h)

recorded_take : (S : State) (w id : ℕ) → IsAllowed S (Take w id) → IsRecorded S → IsRecorded (after S (Take w id))
recorded_take S w id allowed h =
    let early = take_early S w id allowed.early in
    let m = asked (λ m. is_queue m.place) (made_as S id) early.queued in
    recorded_taken S w id m.0 early.worker m.1 (queue_waits m.0.place m.2) h

recorded_pick : (S : State) (w id : ℕ) → IsAllowed S (Pick w id) → IsRecorded S → IsRecorded (after S (Pick w id))
recorded_pick S w id allowed h =
    let early = pick_early S w id allowed.early in
    let m = asked (λ m. is_fresh_of w m.place) (made_as S id) early.fresh in
    recorded_taken S w id m.0 early.worker m.1 (fresh_waits w m.0.place m.2) h

recorded_give : (S : State) (w id : ℕ) → IsAllowed S (Give w id) → IsRecorded S → IsRecorded (after S (Give w id))
recorded_give S w id allowed h =
    let early = give_early S w id allowed.early in
    let m = asked (λ m. is_fresh_of w m.place) (made_as S id) early.fresh in
    recorded_moved S.instance S.branch (length S.workers) S.nodes (all_done S.workers) id m.0 (λ m. record m { place = place.Queue w }) m.1 (λ m. refl) (sym (fresh_waits w m.0.place m.2)) tt h

-- a node is left
recorded_left : (S : State) (w id : ℕ) (m : Made) → w < length S.workers → made_as S id ≡ Some m → is_done m.place ≡ false → IsRecorded S → IsRecorded (after S (Keep w id))
recorded_left S w id m there found waits h =
    recorded_idle S w (λ x. record x { hand = put_down x.hand id }) _ (λ x. refl) (recorded_moved S.instance S.branch (length S.workers) S.nodes (all_done S.workers) id m (λ m. record m { place = place.Left w }) found (λ m. refl) (sym waits) there h)

recorded_keep : (S : State) (w id : ℕ) → IsAllowed S (Keep w id) → IsCounted S → IsRecorded S → IsRecorded (after S (Keep w id))
recorded_keep S w id allowed counted h = by_case (is_fresh S w id) refl early.there
  where
    early : KeepEarly S w id
    early = keep_early S w id allowed.early

    in_hand_is : (o : Option ℕ) → option_map_or (λ held. held == id) o false ≡ true → o ≡ Some id
    in_hand_is None e = absurd (false≢true e)
    in_hand_is (Some k) e = ap (λ (n : ℕ). Some n) (same_number k id e)

    by_case : (b : Bool) → is_fresh S w id ≡ b → b || holds S w id ≡ true → IsRecorded (after S (Keep w id))
    by_case true is e =
        let m = asked (λ m. is_fresh_of w m.place) (made_as S id) is in
        recorded_left S w id m.0 early.worker m.1 (fresh_waits w m.0.place m.2) h
    by_case false is e =
        let k = counted.hands w id (in_hand_is (hand S w) e) in
        recorded_left S w id k.made early.worker k.found (ap is_done k.place) h

recorded_claim : (S : State) (w : ℕ) → IsAllowed S (Claim w) → IsRecorded S → IsRecorded (after S (Claim w))
recorded_claim S w allowed h = by_test (nat_lt S.claims S.budget)
  where
    grant : IsRecorded (granted S w)
    grant =
        let early = claim_early S w allowed.early in
        let at = held_node S w early.made early.held in
        let found = held_found S w early.made at in
        recorded_moved S.instance S.branch (length S.workers) S.nodes (all_done S.workers) (id_in_hand S w) early.made (λ m. record m { claimed = true }) found (λ m. refl) refl (all-found (λ m. IsOfWorker (length S.workers) m.place) S.nodes (id_in_hand S w) early.made h.places found) h

    by_test : (b : Bool) → IsRecorded (cond b (granted S w) (refused S w))
    by_test true = grant
    by_test false = recorded_idle S w (λ x. record x { refused = true; end = ClaimRefused }) S.nodes (λ x. refl) h

abbrev closing : Done → Worker → Worker
closing d x = record x { hand = None; closes = x.closes + 1; done = x.done ++ d ∷ [] }

-- a close is recorded
recorded_close : (S : State) (w : ℕ) (P : Packing) → IsAllowed S (Close w P) → IsCounted S → IsRecorded S → IsRecorded (after S (Close w P))
recorded_close S w P allowed counted h =
    let early = up_early S w allowed.early in
    let m = early.made in
    let at = held_node S w m early.held in
    let waits : is_done m.place ≡ false = ap is_done (held_place S w m at counted) in
    rw (length-changed S.workers w (closing d)) (subst (λ (ns : List Made). AreRecorded S.instance S.branch (length S.workers) (with_made ns (id_in_hand S w) (λ m. record m { place = place.Closed })) (all_done (changed_at S.workers w (closing d)))) (append-nil S.nodes) (recorded_done S.instance S.branch (length S.workers) S.nodes [] (all_done S.workers) (all_done (changed_at S.workers w (closing d))) d m place.Closed (held_found S w m at) waits refl tt (one early.worker) h))
  where
    d : Done
    d = done.Close (id_in_hand S w) P

    one : w < length S.workers → IsOneMore S.instance S.branch (length S.workers) S.nodes [] (all_done S.workers) (all_done (changed_at S.workers w (closing d))) d
    one there = record {
      grown = all_done-more S.workers w (closing d) d (λ x. refl);
      sums = λ t. total-all_done t S.workers w (closing d) d (λ x. refl) there;
      made = All-nil (λ m. IsRecordedNode S.instance S.branch (all_done (changed_at S.workers w (closing d))) m.node);
      undone = All-nil (λ (m : Made). is_done m.place ≡ false);
      places = All-nil (λ (m : Made). IsOfWorker (length S.workers) m.place);
      ids = λ id. refl;
      apart = λ id. still _ (h.apart id);
    }
      where
        still : (a : ℕ) → a ≤ 1 → a + 0 ≤ 1
        still a e = omega arith

-- nothing is found under an id that no node has
pub times-none : (nodes : List Made) (id : ℕ) → find (has_id id) nodes ≡ None → times id (node_ids nodes) ≡ 0
times-none [] id e = refl
times-none (x ∷ xs) id e = by_case (has_id id x) refl e (times-none xs id)
  where
    turned : (a b : ℕ) → (a == b) ≡ false → (b == a) ≡ false
    turned a b h = grind (arith, nat_tests)

    by_case : (b : Bool) → has_id id x ≡ b → cond b (Some x) (find (has_id id) xs) ≡ None → (find (has_id id) xs ≡ None → times id (node_ids xs) ≡ 0) → cond (x.node.id == id) 1 0 + times id (node_ids xs) ≡ 0
    by_case true is e rest = absurd cc
    by_case false is e rest = rw (turned id x.node.id is, rest e) refl

-- the ids of two new nodes that differ stand once
halves_apart : (nodes : List Made) (i o : ℕ) → (i == o) ≡ false → find (has_id i) nodes ≡ None → find (has_id o) nodes ≡ None → ((j : ℕ) → times j (node_ids nodes) ≤ 1) → (j : ℕ) → times j (node_ids nodes) + times j (i ∷ o ∷ []) ≤ 1
halves_apart nodes i o apart no_i no_o once j = by_case (i == j) refl (o == j) refl
  where
    both : (i o j : ℕ) → (i == o) ≡ false → (i == j) ≡ true → (o == j) ≡ true → ⊥
    both i o j a b c = grind (arith, nat_tests)

    none_at : (k : ℕ) → find (has_id k) nodes ≡ None → (k == j) ≡ true → times j (node_ids nodes) ≡ 0
    none_at k none is = subst (λ (n : ℕ). times n (node_ids nodes) ≡ 0) (same_number k j is) (times-none nodes k none)

    one_alone : (a p q : ℕ) → a ≡ 0 → p + q ≤ 1 → a + (p + (q + 0)) ≤ 1
    one_alone a p q h k = omega arith

    none_here : (a p q : ℕ) → a ≤ 1 → p ≡ 0 → q ≡ 0 → a + (p + (q + 0)) ≤ 1
    none_here a p q h k l = omega arith

    by_case : (p : Bool) → (i == j) ≡ p → (q : Bool) → (o == j) ≡ q → times j (node_ids nodes) + (cond (i == j) 1 0 + (cond (o == j) 1 0 + 0)) ≤ 1
    by_case true is true also = absurd (both i o j apart is also)
    by_case true is false also = one_alone _ _ _ (none_at i no_i is) (rw (is, also) (omega arith))
    by_case false is true also = one_alone _ _ _ (none_at o no_o also) (rw (is, also) (omega arith))
    by_case false is false also = none_here _ _ _ (once j) (rw is refl) (rw also refl)

abbrev splitting : ℕ → Done → Worker → Worker
splitting i d x = record x { hand = Some i; up = false; done = x.done ++ d ∷ [] }

-- a split is recorded, and both halves are made by it
recorded_halves : (S : State) (w : ℕ) (at : SplitAt) (i o : ℕ) (P : Packing) (id : ℕ) (m : Made) → SplitEarly S w at i o → made_as S id ≡ Some m → is_done m.place ≡ false → IsInstance S.instance → IsNode S.instance (record m.node { packing = P }) → IsSplitAt S.instance m.node.branch at → IsRecorded S → IsRecorded (split_state S w at i o P id m)
recorded_halves S w at i o P id m early found waits instance node vertex h =
    rw (length-changed S.workers w (splitting i d)) (recorded_done S.instance S.branch (length S.workers) S.nodes (Y ∷ N ∷ []) (all_done S.workers) more d m place.Split found waits refl tt one h)
  where
    d : Done
    d = done.Split id at i o P

    Y : Made
    Y = inside_made m w at i P

    N : Made
    N = outside_made m w at o P

    more : List Done
    more = all_done (changed_at S.workers w (splitting i d))

    grown : AreMoreRecords (all_done S.workers) more
    grown = all_done-more S.workers w (splitting i d) d (λ x. refl)

    recorded : Contains more d
    recorded = all_done-new S.workers w (splitting i d) d (λ x. refl) early.worker

    parent : IsMade S.branch more id m.node.branch
    parent = subst (λ (k : ℕ). IsMade S.branch more k m.node.branch) (found-id S.nodes id m found) (made-more S.branch (all_done S.workers) more grown m.node.id m.node.branch (all-found (λ m. IsRecordedNode S.instance S.branch (all_done S.workers) m.node) S.nodes id m h.made found).made)

    made_inside : IsRecordedNode S.instance S.branch more Y.node
    made_inside = record {
      made = inside_of recorded parent;
      keeps = inr (id, P, m.node.branch, record { half = inside recorded; made = parent; weight = (halves_are_no_lighter_lem S.instance (record m.node { packing = P }) at i o instance node vertex).0.no_lighter });
    }

    made_outside : IsRecordedNode S.instance S.branch more N.node
    made_outside = record {
      made = outside_of recorded parent;
      keeps = inr (id, P, m.node.branch, record { half = outside recorded; made = parent; weight = (halves_are_no_lighter_lem S.instance (record m.node { packing = P }) at i o instance node vertex).1.no_lighter });
    }

    one : IsOneMore S.instance S.branch (length S.workers) S.nodes (Y ∷ N ∷ []) (all_done S.workers) more d
    one = record {
      grown = grown;
      sums = λ t. total-all_done t S.workers w (splitting i d) d (λ x. refl) early.worker;
      made = All-from_recursion (λ m. IsRecordedNode S.instance S.branch more m.node) (Y ∷ N ∷ []) (made_inside, (made_outside, tt));
      undone = All-from_recursion (λ (m : Made). is_done m.place ≡ false) (Y ∷ N ∷ []) (refl, (refl, tt));
      places = All-from_recursion (λ (m : Made). IsOfWorker (length S.workers) m.place) (Y ∷ N ∷ []) (early.worker, (early.worker, tt));
      ids = λ j. refl;
      apart = halves_apart S.nodes i o early.apart early.new_inside early.new_outside h.apart;
    }

recorded_split : (S : State) (w : ℕ) (at : SplitAt) (i o : ℕ) (P : Packing) → IsAllowed S (Split w at i o P) → IsSound S → IsCounted S → IsRecorded S → IsRecorded (after S (Split w at i o P))
recorded_split S w at i o P allowed sound counted h =
    let early = split_early S w at i o P allowed.early in
    let m = early.made in
    let here = held_node S w m early.held in
    let vertex : may_split_at S.instance m.node.branch at ≡ true = subst (λ (k : Option Made). option_map_or (λ m. may_split_at S.instance m.node.branch at) k false ≡ true) early.held early.vertex in
    let allows : AllowsSplit S.instance m.node.branch P (seen S w) = subst (λ (k : Option Made). IfSome k (λ m. AllowsSplit S.instance m.node.branch P (seen S w))) early.held allowed.packing in
    let node : IsNode S.instance m.node = all-found (λ m. IsNode S.instance m.node) S.nodes here.id m sound.nodes here.found in
    let waits : is_done m.place ≡ false = ap is_done (held_place S w m here counted) in
    subst (λ (T : State). IsRecorded T) (sym (after_split S w at i o P here.id m here.in_hand here.found)) (recorded_halves S w at i o P here.id m early here.found waits sound.instance (record { branch = node.branch; required = node.required; fits = allows.fits }) (splits S.instance m.node at vertex) h)

pub recorded_after : (S : State) (e : Event) → IsSound S → IsCounted S → IsRecorded S → IsAllowed S e → IsRecorded (after S e)
recorded_after S (Take w id) sound counted h allowed = recorded_take S w id allowed h
recorded_after S (Pick w id) sound counted h allowed = recorded_pick S w id allowed h
recorded_after S (Give w id) sound counted h allowed = recorded_give S w id allowed h
recorded_after S (Keep w id) sound counted h allowed = recorded_keep S w id allowed counted h
recorded_after S (Claim w) sound counted h allowed = recorded_claim S w allowed h
recorded_after S (See w) sound counted h allowed = recorded_idle S w (λ x. record x { seen = S.least }) S.nodes (λ x. refl) h
recorded_after S (Offer w value) sound counted h allowed = recorded_idle S w (λ x. record x { seen = min S.least value; offered = min x.offered value }) S.nodes (λ x. refl) h
recorded_after S (Up w) sound counted h allowed = recorded_idle S w (λ x. record x { up = true }) S.nodes (λ x. refl) h
recorded_after S (Split w at i o P) sound counted h allowed = recorded_split S w at i o P allowed sound counted h
recorded_after S (Close w P) sound counted h allowed = recorded_close S w P allowed counted h
recorded_after S (Down w) sound counted h allowed = recorded_idle S w (λ x. record x { closes = x.closes - 1 }) S.nodes (λ x. refl) h
recorded_after S (SeeOpen w) sound counted h allowed = by_test (S.opened == 0)
  where
    by_test : (b : Bool) → IsRecorded (cond b (ended S w OpenZero) S)
    by_test true = recorded_idle S w (λ x. record x { end = OpenZero }) S.nodes (λ x. refl) h
    by_test false = h
recorded_after S (SeeHalt w) sound counted h allowed = by_test S.halted
  where
    by_test : (b : Bool) → IsRecorded (cond b (ended S w HaltSeen) S)
    by_test true = recorded_idle S w (λ x. record x { end = HaltSeen }) S.nodes (λ x. refl) h
    by_test false = h
recorded_after S (Halt w) sound counted h allowed = h

-- the beginning
pub recorded_beginning : (I : Network) (R : Branch) (P : Packing) (workers budget start : ℕ) → IsRecorded (beginning I R P workers budget start)
recorded_beginning I R P workers budget start =
    subst (λ (ds : List Done). AreRecorded I R (length (beginning I R P workers budget start).workers) (beginning I R P workers budget start).nodes ds) (nothing_done workers) first
  where
    nothing_done : (n : ℕ) → [] ≡ all_done (replicate n (new_worker start))
    nothing_done zero = refl
    nothing_done (suc n) = nothing_done n

    at_most : (b : Bool) → cond b 1 0 + 0 ≤ 1
    at_most true = omega arith
    at_most false = omega arith

    first : AreRecorded I R (length (beginning I R P workers budget start).workers) (beginning I R P workers budget start).nodes []
    first = record {
      made = All-from_recursion (λ m. IsRecordedNode I R [] m.node) (beginning I R P workers budget start).nodes (record { made = root; keeps = inl refl }, tt);
      apart = λ id. at_most (0 == id);
      ids = λ id. refl;
      ended = λ id. refl;
      ended_once = refl;
      places = All-from_recursion (λ (m : Made). IsOfWorker (length (beginning I R P workers budget start).workers) m.place) (beginning I R P workers budget start).nodes (tt, tt);
    }
