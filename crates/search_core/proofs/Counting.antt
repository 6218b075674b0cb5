-- Each event keeps the counts of a state.
use Rattle.std.proofs.Common.{◌≡◌, ℕ, zero, suc, ◌+◌, ◌-◌, ◌<◌, ◌≤◌, min, Bool, true, false, cond, not, replicate, List, [], ◌∷◌, ◌++◌, length, Option, Some, None, refl, sym, ap, ◌∙◌, subst, arith}
use Rattle.std.specs.Prelude.{◌==◌, ◌||◌, find, slice_get, nat_lt, option_and_then, unwrap_or}
use Rattle.std.specs.Option.{option_map_or}
use Rattle.std.proofs.lemmas.Bool.{false≢true}
use Rattle.std.proofs.lemmas.Bool.Decides.{nat_tests}
use Rattle.std.proofs.lemmas.List.Elements.{All-append, All-from_recursion}
use Rattle.std.proofs.lemmas.List.{length-append}
use Rattle.std.proofs.lemmas.List.Folds.{find-append}
use Rattle.st_model.specs.declared.split_at.SplitAt.{SplitAt}
use Rattle.st_model.specs.declared.branch.Branch.{Branch}
use Rattle.st_model.specs.Lists.{total}
use Rattle.st_model.specs.Network.{Network}
use Rattle.cut_packing.specs.declared.packing.Packing.{Packing}
use Rattle.search_core.specs.declared.done.Done.{Done}
use Rattle.search_core.specs.declared.done.Done.TheVariants as done
use Rattle.search_core.specs.declared.done.End.TheVariants.{OpenZero, ClaimRefused, HaltSeen}
use Rattle.search_core.specs.declared.event.Event.{Event}
use Rattle.search_core.specs.declared.event.Event.TheVariants.{Take, Pick, Give, Claim, See, Offer, Up, Split, Close, Down, SeeOpen, SeeHalt, Halt, Keep}
use Rattle.search_core.specs.declared.made.Made.{Made}
use Rattle.search_core.specs.declared.made.Place.{Place}
use Rattle.search_core.specs.declared.made.Place.TheVariants as place
use Rattle.search_core.specs.declared.worker.Worker.{Worker}
use Rattle.search_core.specs.Settled.{is_done}
use Rattle.search_core.specs.State.{State, beginning, new_worker, hand, held, made_as, has_id, with_made, changed_at}
use Rattle.search_core.specs.Needs.{IsAllowed, is_queue, is_fresh_of, is_fresh, holds, is_claimed, up_waits, close_waits}
use Rattle.search_core.specs.Effects.{after, ended, granted, refused, handed, moved, put_down, id_in_hand}
use Rattle.search_core.specs.Kept.{IsCounted, InHand, one_if, claim_fits, undone, claimed, ups_waiting, closes_waiting}
use Rattle.search_core.proofs.Early.{TakeEarly, PickEarly, GiveEarly, ClaimEarly, UpEarly, SplitEarly, KeepEarly, take_early, pick_early, give_early, claim_early, up_early, split_early, down_early, keep_early}
use Rattle.search_core.proofs.Soundness.{HeldNode, held_node}
use Rattle.search_core.proofs.Happened.{inside_made, outside_made, after_split}
use Rattle.search_core.proofs.NodeLists.{all-found, length-with_made, total-with_made, total-with_made_same}
use Rattle.search_core.proofs.WorkerLists.{total-changed, total-unchanged}
use Rattle.search_core.proofs.Look.{same_number, read-unchanged, read-same, read-other, stands, find-same, find-other, all-with_made_at, asked}

-- whether the node of an id in a hand is claimed
abbrev pub claimed_at : List Made → Option ℕ → Bool
claimed_at nodes h = option_map_or (λ m. m.claimed) (option_and_then (λ id. find (has_id id) nodes) h) false

-- a hand after a change of one node that leaves it in that hand, if it was there
pub in_hand-moved : (nodes : List Made) (id : ℕ) (m : Made) (f : Made → Made) → find (has_id id) nodes ≡ Some m → ((m : Made) → (f m).node.id ≡ m.node.id) → (w j : ℕ) → InHand nodes w j → (m.place ≡ place.Hand w → (f m).place ≡ place.Hand w) → InHand (with_made nodes id f) w j
in_hand-moved nodes id m f found same w j h stays = by_case (j == id) refl
  where
    by_case : (b : Bool) → (j == id) ≡ b → InHand (with_made nodes id f) w j
    by_case true is =
        let there : j ≡ id = same_number j id is in
        let node : m ≡ h.made = some_same (sym found ∙ (ap (λ (k : ℕ). find (has_id k) nodes) (sym there) ∙ h.found)) in
        record { made = f m; found = ap (λ (k : ℕ). find (has_id k) (with_made nodes id f)) there ∙ find-same nodes id f m same found; place = stays (ap (λ (a : Made). a.place) node ∙ h.place) }
      where
        some_same : {a b : Made} → Some a ≡ Some b → a ≡ b
        some_same e = cc
    by_case false is = record { made = h.made; found = find-other nodes id j f same is ∙ h.found; place = h.place }

-- and a claim after a change that takes none back
pub claimed-moved : (nodes : List Made) (id : ℕ) (m : Made) (f : Made → Made) → find (has_id id) nodes ≡ Some m → ((m : Made) → (f m).node.id ≡ m.node.id) → (m.claimed ≡ true → (f m).claimed ≡ true) → (h : Option ℕ) → claimed_at nodes h ≡ true → claimed_at (with_made nodes id f) h ≡ true
claimed-moved nodes id m f found same stays None e = e
claimed-moved nodes id m f found same stays (Some j) e = by_case (j == id) refl
  where
    by_case : (b : Bool) → (j == id) ≡ b → option_map_or (λ m. m.claimed) (find (has_id j) (with_made nodes id f)) false ≡ true
    by_case true is =
        let there : j ≡ id = same_number j id is in
        let old : m.claimed ≡ true = ap (λ (o : Option Made). option_map_or (λ m. m.claimed) o false) (sym found) ∙ (ap (λ (k : ℕ). option_map_or (λ m. m.claimed) (find (has_id k) nodes) false) (sym there) ∙ e) in
        ap (λ (o : Option Made). option_map_or (λ m. m.claimed) o false) (ap (λ (k : ℕ). find (has_id k) (with_made nodes id f)) there ∙ find-same nodes id f m same found) ∙ stays old
    by_case false is = ap (λ (o : Option Made). option_map_or (λ m. m.claimed) o false) (find-other nodes id j f same is) ∙ e

-- a change of one worker that leaves its hand, its up and its closes
pub counted_idle : (S : State) (w : ℕ) (f : Worker → Worker) → ((x : Worker) → (f x).hand ≡ x.hand) → ((x : Worker) → (f x).up ≡ x.up) → ((x : Worker) → (f x).closes ≡ x.closes) → IsCounted S → IsCounted (record S { workers = changed_at S.workers w f })
counted_idle S w f hand_same up_same closes_same h = record {
  hands = λ v id e. h.hands v id (sym (hands v) ∙ e);
  ups = λ v e. ap (λ (k : Option ℕ). claimed_at S.nodes k) (hands v) ∙ h.ups v (sym (read-unchanged (λ (o : Option Worker). option_map_or (λ x. x.up) o false) S.workers w v f up_same) ∙ e);
  places = h.places;
  claims = h.claims;
  opened = rw (total-unchanged (λ (x : Worker). one_if x.up) S.workers w f (λ x. ap one_if (up_same x)), total-unchanged (λ (x : Worker). x.closes) S.workers w f closes_same) h.opened;
  bounded = rw (total-unchanged (λ (x : Worker). x.closes) S.workers w f closes_same) h.bounded;
}
  where
    hands : (v : ℕ) → hand (record S { workers = changed_at S.workers w f }) v ≡ hand S v
    hands v = read-unchanged (λ (o : Option Worker). option_and_then (λ x. x.hand) o) S.workers w v f hand_same

-- an up: the node in hand is claimed
counted_up : (S : State) (w : ℕ) → w < length S.workers → is_claimed S w ≡ true → up_waits S w ≡ false → IsCounted S → IsCounted (after S (Up w))
counted_up S w there claimed_is waits h = record {
  hands = λ v id e. h.hands v id (sym (hands v) ∙ e);
  ups = λ v e. ap (λ (k : Option ℕ). claimed_at S.nodes k) (hands v) ∙ claim v (w == v) refl e;
  places = h.places;
  claims = h.claims;
  opened = counts S.opened (undone S.nodes) (ups_waiting S.workers) (closes_waiting S.workers) (total (λ (x : Worker). one_if x.up) (changed_at S.workers w (λ x. record x { up = true }))) (total (λ (x : Worker). x.closes) (changed_at S.workers w (λ x. record x { up = true }))) h.opened more (total-unchanged (λ (x : Worker). x.closes) S.workers w (λ x. record x { up = true }) (λ x. refl));
  bounded = rw (total-unchanged (λ (x : Worker). x.closes) S.workers w (λ x. record x { up = true }) (λ x. refl)) h.bounded;
}
  where
    hands : (v : ℕ) → hand (after S (Up w)) v ≡ hand S v
    hands v = read-unchanged (λ (o : Option Worker). option_and_then (λ x. x.hand) o) S.workers w v (λ x. record x { up = true }) (λ x. refl)

    claim : (v : ℕ) (b : Bool) → (w == v) ≡ b → up_waits (after S (Up w)) v ≡ true → is_claimed S v ≡ true
    claim v true is e = subst (λ (k : ℕ). is_claimed S k ≡ true) (same_number w v is) claimed_is
    claim v false is e = h.ups v (ap (λ (o : Option Worker). option_map_or (λ x. x.up) o false) (sym (read-other S.workers w v (λ x. record x { up = true }) is)) ∙ e)

    one_more : (a b c : ℕ) → c ≡ 0 → a + c ≡ b + 1 → a ≡ b + 1
    one_more a b c h k = omega arith

    more : total (λ (x : Worker). one_if x.up) (changed_at S.workers w (λ x. record x { up = true })) ≡ ups_waiting S.workers + 1
    more =
        let x = stands S.workers w there in
        let idle : x.0.up ≡ false = ap (λ (o : Option Worker). option_map_or (λ y. y.up) o false) (sym x.1) ∙ waits in
        one_more _ _ _ (ap one_if idle) (total-changed (λ (y : Worker). one_if y.up) S.workers w (λ x. record x { up = true }) x.0 x.1)

    counts : (a b c d c' d' : ℕ) → a ≡ b + c + d → c' ≡ c + 1 → d' ≡ d → a + 1 ≡ b + c' + d'
    counts a b c d c' d' h k l = omega arith

-- a down: one close waits no more
counted_down : (S : State) (w : ℕ) → w < length S.workers → close_waits S w ≡ true → IsCounted S → IsCounted (after S (Down w))
counted_down S w there waits h = record {
  hands = λ v id e. h.hands v id (sym (hands v) ∙ e);
  ups = λ v e. ap (λ (k : Option ℕ). claimed_at S.nodes k) (hands v) ∙ h.ups v (sym (read-unchanged (λ (o : Option Worker). option_map_or (λ x. x.up) o false) S.workers w v (λ x. record x { closes = x.closes - 1 }) (λ x. refl)) ∙ e);
  places = h.places;
  claims = h.claims;
  opened = counts S.opened (undone S.nodes) (ups_waiting S.workers) (closes_waiting S.workers) (ups_waiting (changed_at S.workers w (λ x. record x { closes = x.closes - 1 }))) (closes_waiting (changed_at S.workers w (λ x. record x { closes = x.closes - 1 }))) h.opened (total-unchanged (λ (x : Worker). one_if x.up) S.workers w (λ x. record x { closes = x.closes - 1 }) (λ x. refl)) less;
  bounded = still_less _ _ _ _ less h.bounded;
}
  where
    still_less : (a b c d : ℕ) → c + 1 ≡ d → a + d ≤ b → a + c ≤ b
    still_less a b c d h k = omega arith

    positive : (n : ℕ) → nat_lt 0 n ≡ true → 0 < n
    positive n h = grind (arith, nat_tests)

    one_less : (a b n : ℕ) → 0 < n → a + n ≡ b + (n - 1) → a + 1 ≡ b
    one_less a b n h k = omega arith

    less : closes_waiting (changed_at S.workers w (λ x. record x { closes = x.closes - 1 })) + 1 ≡ closes_waiting S.workers
    less =
        let x = stands S.workers w there in
        let some : nat_lt 0 x.0.closes ≡ true = ap (λ (o : Option Worker). option_map_or (λ y. nat_lt 0 y.closes) o false) (sym x.1) ∙ waits in
        one_less _ _ x.0.closes (positive x.0.closes some) (total-changed (λ (y : Worker). y.closes) S.workers w (λ x. record x { closes = x.closes - 1 }) x.0 x.1)

    counts : (a b c d c' d' : ℕ) → a ≡ b + c + d → c' ≡ c → d' + 1 ≡ d → a - 1 ≡ b + c' + d'
    counts a b c d c' d' h k l = omega arith

    hands : (v : ℕ) → hand (after S (Down w)) v ≡ hand S v
    hands v = read-unchanged (λ (o : Option Worker). option_and_then (λ x. x.hand) o) S.workers w v (λ x. record x { closes = x.closes - 1 }) (λ x. refl)

-- a change of one node that leaves it in the hand where it is, takes no claim back, and leaves it as done as it was
counted_node : (S : State) (id : ℕ) (m : Made) (f : Made → Made) (claims : ℕ) → made_as S id ≡ Some m → ((m : Made) → (f m).node.id ≡ m.node.id) → ((w : ℕ) → m.place ≡ place.Hand w → (f m).place ≡ place.Hand w) → (m.claimed ≡ true → (f m).claimed ≡ true) → is_done (f m).place ≡ is_done m.place → claim_fits (f m).place (f m).claimed ≡ true → claims + one_if m.claimed ≡ S.claims + one_if (f m).claimed → IsCounted S → IsCounted (record S { nodes = with_made S.nodes id f; claims = claims })
counted_node S id m f claims found same hand_stays claim_stays done_same fits count h = record {
  hands = λ v j e. in_hand-moved S.nodes id m f found same v j (h.hands v j e) (hand_stays v);
  ups = λ v e. claimed-moved S.nodes id m f found same claim_stays (hand S v) (h.ups v e);
  places = all-with_made_at (λ m. claim_fits m.place m.claimed ≡ true) S.nodes id f m found fits h.places;
  claims = equal claims S.claims (claimed S.nodes) (claimed (with_made S.nodes id f)) (one_if m.claimed) (one_if (f m).claimed) h.claims count (total-with_made (λ (a : Made). one_if a.claimed) S.nodes id f m found);
  opened = rw (as_done (undone S.nodes) (undone (with_made S.nodes id f)) (one_if (not (is_done m.place))) (one_if (not (is_done (f m).place))) (ap (λ (b : Bool). one_if (not b)) done_same) (total-with_made (λ (a : Made). one_if (not (is_done a.place))) S.nodes id f m found)) h.opened;
  bounded = rw (as_done (undone S.nodes) (undone (with_made S.nodes id f)) (one_if (not (is_done m.place))) (one_if (not (is_done (f m).place))) (ap (λ (b : Bool). one_if (not b)) done_same) (total-with_made (λ (a : Made). one_if (not (is_done a.place))) S.nodes id f m found), length-with_made S.nodes id f) h.bounded;
}
  where
    equal : (a b c d p q : ℕ) → b ≡ c → a + p ≡ b + q → d + p ≡ c + q → a ≡ d
    equal a b c d p q h k l = omega arith

    as_done : (a b p q : ℕ) → q ≡ p → b + p ≡ a + q → b ≡ a
    as_done a b p q h k = omega arith

queue_apart : (w : ℕ) (p : Place) → is_queue p ≡ true → p ≡ place.Hand w → ⊥
queue_apart w p is e = false≢true (ap is_queue (sym e) ∙ is)

fresh_apart : (u w : ℕ) (p : Place) → is_fresh_of u p ≡ true → p ≡ place.Hand w → ⊥
fresh_apart u w p is e = false≢true (ap (is_fresh_of u) (sym e) ∙ is)

pub queue_waits : (p : Place) → is_queue p ≡ true → is_done p ≡ false
queue_waits (place.Queue w) h = refl
queue_waits _ h = absurd (false≢true h)

pub fresh_waits : (w : ℕ) (p : Place) → is_fresh_of w p ≡ true → is_done p ≡ false
fresh_waits w (place.Fresh v) h = refl
fresh_waits w _ h = absurd (false≢true h)

-- a node that is in no hand comes into an empty one
counted_taken : (S : State) (w id : ℕ) (m : Made) → w < length S.workers → hand S w ≡ None → made_as S id ≡ Some m → is_done m.place ≡ false → ((v : ℕ) → m.place ≡ place.Hand v → ⊥) → IsCounted S → IsCounted (handed (moved S id (place.Hand w)) w (Some id))
counted_taken S w id m there empty found waits nowhere h = record {
  hands = λ v j e. hands v j (w == v) refl e;
  ups = λ v e. ups v (w == v) refl e;
  places = moved_node.places;
  claims = moved_node.claims;
  opened = rw (total-unchanged (λ (x : Worker). one_if x.up) S.workers w (λ x. record x { hand = Some id }) (λ x. refl), total-unchanged (λ (x : Worker). x.closes) S.workers w (λ x. record x { hand = Some id }) (λ x. refl)) moved_node.opened;
  bounded = rw (total-unchanged (λ (x : Worker). x.closes) S.workers w (λ x. record x { hand = Some id }) (λ x. refl)) moved_node.bounded;
}
  where
    moved_node : IsCounted (moved S id (place.Hand w))
    moved_node = counted_node S id m (λ m. record m { place = place.Hand w }) S.claims found (λ m. refl) (λ v e. absurd (nowhere v e)) (λ e. e) (sym waits) refl refl h

    hands : (v j : ℕ) (b : Bool) → (w == v) ≡ b → hand (handed (moved S id (place.Hand w)) w (Some id)) v ≡ Some j → InHand (with_made S.nodes id (λ m. record m { place = place.Hand w })) v j
    hands v j true is e =
        let x = stands S.workers w there in
        let same : w ≡ v = same_number w v is in
        let it : Some id ≡ Some j = sym (ap (λ (o : Option Worker). option_and_then (λ y. y.hand) o) (read-same S.workers w (λ x. record x { hand = Some id }) x.0 x.1)) ∙ (ap (λ (k : ℕ). hand (handed (moved S id (place.Hand w)) w (Some id)) k) same ∙ e) in
        let there : id ≡ j = cc in
        record { made = record m { place = place.Hand w }; found = ap (λ (k : ℕ). find (has_id k) (with_made S.nodes id (λ m. record m { place = place.Hand w }))) (sym there) ∙ find-same S.nodes id (λ m. record m { place = place.Hand w }) m (λ m. refl) found; place = ap (λ (k : ℕ). place.Hand k) same }
    hands v j false is e = moved_node.hands v j (ap (λ (o : Option Worker). option_and_then (λ y. y.hand) o) (sym (read-other S.workers w v (λ x. record x { hand = Some id }) is)) ∙ e)

    ups : (v : ℕ) (b : Bool) → (w == v) ≡ b → up_waits (handed (moved S id (place.Hand w)) w (Some id)) v ≡ true → is_claimed (handed (moved S id (place.Hand w)) w (Some id)) v ≡ true
    ups v true is e =
        let same : w ≡ v = same_number w v is in
        let up : up_waits S v ≡ true = sym (read-unchanged (λ (o : Option Worker). option_map_or (λ x. x.up) o false) S.workers w v (λ x. record x { hand = Some id }) (λ x. refl)) ∙ e in
        let no : is_claimed S v ≡ false = ap (λ (k : Option ℕ). claimed_at S.nodes k) (ap (λ (k : ℕ). hand S k) (sym same) ∙ empty) in
        absurd (false≢true (sym no ∙ h.ups v up))
    ups v false is e =
        let up : up_waits S v ≡ true = sym (read-unchanged (λ (o : Option Worker). option_map_or (λ x. x.up) o false) S.workers w v (λ x. record x { hand = Some id }) (λ x. refl)) ∙ e in
        ap (λ (o : Option Worker). claimed_at (with_made S.nodes id (λ m. record m { place = place.Hand w })) (option_and_then (λ y. y.hand) o)) (read-other S.workers w v (λ x. record x { hand = Some id }) is) ∙ moved_node.ups v up

pub counted_take : (S : State) (w id : ℕ) → TakeEarly S w id → IsCounted S → IsCounted (after S (Take w id))
counted_take S w id early h =
    let m = asked (λ m. is_queue m.place) (made_as S id) early.queued in
    counted_taken S w id m.0 early.worker early.hand m.1 (queue_waits m.0.place m.2) (λ v e. queue_apart v m.0.place m.2 e) h

pub counted_pick : (S : State) (w id : ℕ) → PickEarly S w id → IsCounted S → IsCounted (after S (Pick w id))
counted_pick S w id early h =
    let m = asked (λ m. is_fresh_of w m.place) (made_as S id) early.fresh in
    counted_taken S w id m.0 early.worker early.hand m.1 (fresh_waits w m.0.place m.2) (λ v e. fresh_apart w v m.0.place m.2 e) h

-- a fresh half isn't claimed
fresh_unclaimed : (w : ℕ) (p : Place) (b : Bool) → is_fresh_of w p ≡ true → claim_fits p b ≡ true → b ≡ false
fresh_unclaimed w (place.Fresh v) true is fits = absurd cc
fresh_unclaimed w (place.Fresh v) false is fits = refl
fresh_unclaimed w _ b is fits = absurd (false≢true is)

pub counted_give : (S : State) (w id : ℕ) → GiveEarly S w id → IsCounted S → IsCounted (after S (Give w id))
counted_give S w id early h =
    let m = asked (λ m. is_fresh_of w m.place) (made_as S id) early.fresh in
    let free : m.0.claimed ≡ false = fresh_unclaimed w m.0.place m.0.claimed m.2 (all-found (λ a. claim_fits a.place a.claimed ≡ true) S.nodes id m.0 h.places m.1) in
    counted_node S id m.0 (λ m. record m { place = place.Queue w }) S.claims m.1 (λ m. refl) (λ v e. absurd (fresh_apart w v m.0.place m.2 e)) (λ e. e) (sym (fresh_waits w m.0.place m.2)) (ap not free) refl h

-- the node in a hand stands there
pub held_place : (S : State) (w : ℕ) (m : Made) → HeldNode S w m → IsCounted S → m.place ≡ place.Hand w
held_place S w m at h =
    let k = h.hands w at.id at.in_hand in
    let same : m ≡ k.made = some_same (sym at.found ∙ k.found) in
    ap (λ (a : Made). a.place) same ∙ k.place
  where
    some_same : {a b : Made} → Some a ≡ Some b → a ≡ b
    some_same e = cc

-- whether it is claimed
held_claim : (S : State) (w : ℕ) (m : Made) → held S w ≡ Some m → is_claimed S w ≡ m.claimed
held_claim S w m e = ap (λ (o : Option Made). option_map_or (λ m. m.claimed) o false) e

pub held_found : (S : State) (w : ℕ) (m : Made) → HeldNode S w m → made_as S (id_in_hand S w) ≡ Some m
held_found S w m at = ap (λ (k : Option ℕ). made_as S (unwrap_or k 0)) at.in_hand ∙ at.found

pub counted_granted : (S : State) (w : ℕ) → ClaimEarly S w → IsCounted S → IsCounted (granted S w)
counted_granted S w early h =
    let m = early.made in
    let at = held_node S w m early.held in
    let free : m.claimed ≡ false = sym (held_claim S w m early.held) ∙ early.unclaimed in
    counted_node S (id_in_hand S w) m (λ m. record m { claimed = true }) (S.claims + 1) (held_found S w m at) (λ m. refl) (λ v e. e) (λ e. refl) refl (ap (λ (p : Place). claim_fits p true) (held_place S w m at h)) (one_more S.claims (one_if m.claimed) (ap one_if free)) h
  where
    one_more : (a p : ℕ) → p ≡ 0 → a + 1 + p ≡ a + 1
    one_more a p h = omega arith

-- two hands that hold one node are one
same_hand : (v w : ℕ) (p : Place) → p ≡ place.Hand v → p ≡ place.Hand w → v ≡ w
same_hand v w p a b = let e : place.Hand v ≡ place.Hand w = sym a ∙ b in cc

apart_hands : (v w : ℕ) (p : Place) → (w == v) ≡ false → p ≡ place.Hand v → p ≡ place.Hand w → ⊥
apart_hands v w p apart a b = different w v apart (sym (same_hand v w p a b))
  where
    different : (a b : ℕ) → (a == b) ≡ false → a ≡ b → ⊥
    different a b h e = grind (arith, nat_tests)

abbrev shut : Made → Made
shut m = record m { place = place.Closed }

abbrev closing : Done → Worker → Worker
closing d x = record x { hand = None; closes = x.closes + 1; done = x.done ++ d ∷ [] }

-- a close of a claimed node in hand
counted_closed : (S : State) (w id : ℕ) (m : Made) (d : Done) → w < length S.workers → made_as S id ≡ Some m → m.place ≡ place.Hand w → m.claimed ≡ true → up_waits S w ≡ false → IsCounted S → IsCounted (record S { nodes = with_made S.nodes id shut; workers = changed_at S.workers w (closing d) })
counted_closed S w id m d there found at claim idle h = record {
  hands = λ v j e. hands v j (w == v) refl e;
  ups = λ v e. ups v (w == v) refl (sym (up_same v) ∙ e);
  places = all-with_made_at (λ m. claim_fits m.place m.claimed ≡ true) S.nodes id shut m found claim h.places;
  claims = h.claims ∙ sym (total-with_made_same (λ (a : Made). one_if a.claimed) S.nodes id shut (λ m. refl));
  opened = counts S.opened (undone S.nodes) (ups_waiting S.workers) (closes_waiting S.workers) (undone (with_made S.nodes id shut)) (ups_waiting (changed_at S.workers w (closing d))) (closes_waiting (changed_at S.workers w (closing d))) h.opened less (total-unchanged (λ (x : Worker). one_if x.up) S.workers w (closing d) (λ x. refl)) more;
  bounded = passed _ _ _ _ _ _ less more (length-with_made S.nodes id shut) h.bounded;
}
  where
    passed : (b b' d d' n n' : ℕ) → b' + 1 ≡ b → d' ≡ d + 1 → n' ≡ n → b + d ≤ n → b' + d' ≤ n'
    passed b b' d d' n n' h k l m = omega arith

    up_same : (v : ℕ) → option_map_or (λ x. x.up) (slice_get (changed_at S.workers w (closing d)) v) false ≡ up_waits S v
    up_same v = read-unchanged (λ (o : Option Worker). option_map_or (λ x. x.up) o false) S.workers w v (closing d) (λ x. refl)

    hands : (v j : ℕ) (b : Bool) → (w == v) ≡ b → option_and_then (λ x. x.hand) (slice_get (changed_at S.workers w (closing d)) v) ≡ Some j → InHand (with_made S.nodes id shut) v j
    hands v j true is e =
        let x = stands S.workers w there in
        let none : None ≡ Some j = sym (ap (λ (o : Option Worker). option_and_then (λ y. y.hand) o) (read-same S.workers w (closing d) x.0 x.1)) ∙ (ap (λ (k : ℕ). option_and_then (λ y. y.hand) (slice_get (changed_at S.workers w (closing d)) k)) (same_number w v is) ∙ e) in
        absurd cc
    hands v j false is e =
        in_hand-moved S.nodes id m shut found (λ m. refl) v j (h.hands v j (ap (λ (o : Option Worker). option_and_then (λ y. y.hand) o) (sym (read-other S.workers w v (closing d) is)) ∙ e)) (λ there. absurd (apart_hands v w m.place is there at))

    ups : (v : ℕ) (b : Bool) → (w == v) ≡ b → up_waits S v ≡ true → claimed_at (with_made S.nodes id shut) (option_and_then (λ x. x.hand) (slice_get (changed_at S.workers w (closing d)) v)) ≡ true
    ups v true is up = absurd (false≢true (sym idle ∙ (ap (λ (k : ℕ). up_waits S k) (same_number w v is) ∙ up)))
    ups v false is up = ap (λ (o : Option Worker). claimed_at (with_made S.nodes id shut) (option_and_then (λ y. y.hand) o)) (read-other S.workers w v (closing d) is) ∙ claimed-moved S.nodes id m shut found (λ m. refl) (λ e. e) (hand S v) (h.ups v up)

    one_less : (a b p : ℕ) → p ≡ 1 → a + p ≡ b + 0 → a + 1 ≡ b
    one_less a b p h k = omega arith

    less : undone (with_made S.nodes id shut) + 1 ≡ undone S.nodes
    less = one_less _ _ _ (ap (λ (p : Place). one_if (not (is_done p))) at) (total-with_made (λ (a : Made). one_if (not (is_done a.place))) S.nodes id shut m found)

    one_more : (a b n : ℕ) → a + n ≡ b + (n + 1) → a ≡ b + 1
    one_more a b n h = omega arith

    more : closes_waiting (changed_at S.workers w (closing d)) ≡ closes_waiting S.workers + 1
    more = let x = stands S.workers w there in one_more _ _ x.0.closes (total-changed (λ (y : Worker). y.closes) S.workers w (closing d) x.0 x.1)

    counts : (a b c d b' c' d' : ℕ) → a ≡ b + c + d → b' + 1 ≡ b → c' ≡ c → d' ≡ d + 1 → a ≡ b' + c' + d'
    counts a b c d b' c' d' h k l m = omega arith

pub counted_close : (S : State) (w : ℕ) (P : Packing) → UpEarly S w → IsCounted S → IsCounted (after S (Close w P))
counted_close S w P early h =
    let m = early.made in
    let at = held_node S w m early.held in
    counted_closed S w (id_in_hand S w) m (done.Close (id_in_hand S w) P) early.worker (held_found S w m at) (held_place S w m at h) (sym (held_claim S w m early.held) ∙ early.claimed) early.up h

abbrev done_split : Made → Made
done_split m = record m { place = place.Split }

abbrev splitting : ℕ → Done → Worker → Worker
splitting i d x = record x { hand = Some i; up = false; done = x.done ++ d ∷ [] }

total-append : (h : Made → ℕ) (xs ys : List Made) → total h (xs ++ ys) ≡ total h xs + total h ys
total-append h [] ys = by_zero (total h ys)
  where
    by_zero : (n : ℕ) → n ≡ 0 + n
    by_zero n = omega arith
total-append h (x ∷ xs) ys = by_parts (h x) _ _ _ (total-append h xs ys)
  where
    by_parts : (a b c d : ℕ) → b ≡ c + d → a + b ≡ a + c + d
    by_parts a b c d e = omega arith

-- what is found among the first nodes is found
pub found-first : (xs ys : List Made) (id : ℕ) (m : Made) → find (has_id id) xs ≡ Some m → find (has_id id) (xs ++ ys) ≡ Some m
found-first xs ys id m e = rw (find-append (has_id id) xs ys, e) refl

claimed-first : (xs ys : List Made) (h : Option ℕ) → claimed_at xs h ≡ true → claimed_at (xs ++ ys) h ≡ true
claimed-first xs ys None e = e
claimed-first xs ys (Some j) e =
    let m = asked (λ m. m.claimed) (find (has_id j) xs) e in
    ap (λ (o : Option Made). option_map_or (λ m. m.claimed) o false) (found-first xs ys j m.0 m.1) ∙ m.2

-- a node in hand that is claimed is split, on its up, into halves with ids of their own
counted_halves : (S : State) (w i id : ℕ) (m Y N : Made) (d : Done) → w < length S.workers → made_as S id ≡ Some m → made_as S i ≡ None → m.place ≡ place.Hand w → m.claimed ≡ true → up_waits S w ≡ true → Y.node.id ≡ i → Y.place ≡ place.Hand w → Y.claimed ≡ false → N.place ≡ place.Fresh w → N.claimed ≡ false → IsCounted S → IsCounted (record S { nodes = with_made (S.nodes ++ Y ∷ N ∷ []) id done_split; workers = changed_at S.workers w (splitting i d) })
counted_halves S w i id m Y N d there found new at claim up_is Y_id Y_at Y_free N_at N_free h = record {
  hands = λ v j e. hands v j (w == v) refl e;
  ups = λ v e. ups v (w == v) refl e;
  places = all-with_made_at (λ m. claim_fits m.place m.claimed ≡ true) (S.nodes ++ Y ∷ N ∷ []) id done_split m found2 claim (All-append (λ m. claim_fits m.place m.claimed ≡ true) S.nodes (Y ∷ N ∷ []) h.places (All-from_recursion (λ m. claim_fits m.place m.claimed ≡ true) (Y ∷ N ∷ []) (rw (Y_at) refl, (rw (N_at, N_free) refl, tt))));
  claims = h.claims ∙ sym (total-with_made_same (λ (a : Made). one_if a.claimed) (S.nodes ++ Y ∷ N ∷ []) id done_split (λ m. refl) ∙ (total-append (λ (a : Made). one_if a.claimed) S.nodes (Y ∷ N ∷ []) ∙ none _ (one_if Y.claimed) (one_if N.claimed) (ap one_if Y_free) (ap one_if N_free)));
  opened = counts S.opened (undone S.nodes) (ups_waiting S.workers) (closes_waiting S.workers) (undone (with_made (S.nodes ++ Y ∷ N ∷ []) id done_split)) (ups_waiting (changed_at S.workers w (splitting i d))) (closes_waiting (changed_at S.workers w (splitting i d))) h.opened one_more one_less (total-unchanged (λ (x : Worker). x.closes) S.workers w (splitting i d) (λ x. refl));
  bounded = grown _ _ _ _ _ _ one_more (total-unchanged (λ (x : Worker). x.closes) S.workers w (splitting i d) (λ x. refl)) (length-with_made (S.nodes ++ Y ∷ N ∷ []) id done_split ∙ length-append S.nodes (Y ∷ N ∷ [])) h.bounded;
}
  where
    grown : (b b' d d' n n' : ℕ) → b' ≡ b + 1 → d' ≡ d → n' ≡ n + 2 → b + d ≤ n → b' + d' ≤ n'
    grown b b' d d' n n' h k l m = omega arith

    found2 : find (has_id id) (S.nodes ++ Y ∷ N ∷ []) ≡ Some m
    found2 = found-first S.nodes (Y ∷ N ∷ []) id m found

    id_apart : (b : Bool) → (i == id) ≡ b → b ≡ false
    id_apart true is = let clash : None ≡ Some m = sym new ∙ (ap (λ (k : ℕ). made_as S k) (same_number i id is) ∙ found) in absurd cc
    id_apart false is = refl

    itself : (a b : ℕ) → b ≡ a → (a == b) ≡ true
    itself a b e = grind (arith, nat_tests)

    inside : find (has_id i) (S.nodes ++ Y ∷ N ∷ []) ≡ Some Y
    inside = rw (find-append (has_id i) S.nodes (Y ∷ N ∷ []), new, itself i Y.node.id Y_id) refl

    hands : (v j : ℕ) (b : Bool) → (w == v) ≡ b → option_and_then (λ x. x.hand) (slice_get (changed_at S.workers w (splitting i d)) v) ≡ Some j → InHand (with_made (S.nodes ++ Y ∷ N ∷ []) id done_split) v j
    hands v j true is e =
        let x = stands S.workers w there in
        let same : w ≡ v = same_number w v is in
        let it : Some i ≡ Some j = sym (ap (λ (o : Option Worker). option_and_then (λ y. y.hand) o) (read-same S.workers w (splitting i d) x.0 x.1)) ∙ (ap (λ (k : ℕ). option_and_then (λ y. y.hand) (slice_get (changed_at S.workers w (splitting i d)) k)) same ∙ e) in
        let is_i : i ≡ j = cc in
        record { made = Y; found = ap (λ (k : ℕ). find (has_id k) (with_made (S.nodes ++ Y ∷ N ∷ []) id done_split)) (sym is_i) ∙ (find-other (S.nodes ++ Y ∷ N ∷ []) id i done_split (λ m. refl) (ap (λ (k : Bool). k) refl ∙ id_apart (i == id) refl) ∙ inside); place = Y_at ∙ ap (λ (k : ℕ). place.Hand k) same }
    hands v j false is e =
        let old = h.hands v j (ap (λ (o : Option Worker). option_and_then (λ y. y.hand) o) (sym (read-other S.workers w v (splitting i d) is)) ∙ e) in
        in_hand-moved (S.nodes ++ Y ∷ N ∷ []) id m done_split found2 (λ m. refl) v j (record { made = old.made; found = found-first S.nodes (Y ∷ N ∷ []) j old.made old.found; place = old.place }) (λ there. absurd (apart_hands v w m.place is there at))

    ups : (v : ℕ) (b : Bool) → (w == v) ≡ b → option_map_or (λ x. x.up) (slice_get (changed_at S.workers w (splitting i d)) v) false ≡ true → claimed_at (with_made (S.nodes ++ Y ∷ N ∷ []) id done_split) (option_and_then (λ x. x.hand) (slice_get (changed_at S.workers w (splitting i d)) v)) ≡ true
    ups v true is e =
        let x = stands S.workers w there in
        absurd (false≢true (sym (ap (λ (o : Option Worker). option_map_or (λ y. y.up) o false) (read-same S.workers w (splitting i d) x.0 x.1)) ∙ (ap (λ (k : ℕ). option_map_or (λ y. y.up) (slice_get (changed_at S.workers w (splitting i d)) k) false) (same_number w v is) ∙ e)))
    ups v false is e =
        let up : up_waits S v ≡ true = ap (λ (o : Option Worker). option_map_or (λ x. x.up) o false) (sym (read-other S.workers w v (splitting i d) is)) ∙ e in
        ap (λ (o : Option Worker). claimed_at (with_made (S.nodes ++ Y ∷ N ∷ []) id done_split) (option_and_then (λ y. y.hand) o)) (read-other S.workers w v (splitting i d) is) ∙ claimed-moved (S.nodes ++ Y ∷ N ∷ []) id m done_split found2 (λ m. refl) (λ e. e) (hand S v) (claimed-first S.nodes (Y ∷ N ∷ []) (hand S v) (h.ups v up))

    none : (a p q : ℕ) → p ≡ 0 → q ≡ 0 → a + (p + (q + 0)) ≡ a
    none a p q h k = omega arith

    both : (a b c p q r : ℕ) → p ≡ 1 → q ≡ 1 → r ≡ 1 → b ≡ c + (q + (r + 0)) → a + p ≡ b + 0 → a ≡ c + 1
    both a b c p q r h k l e g = omega arith

    one_more : undone (with_made (S.nodes ++ Y ∷ N ∷ []) id done_split) ≡ undone S.nodes + 1
    one_more = both _ _ (undone S.nodes) (one_if (not (is_done m.place))) (one_if (not (is_done Y.place))) (one_if (not (is_done N.place))) (ap (λ (p : Place). one_if (not (is_done p))) at) (ap (λ (p : Place). one_if (not (is_done p))) Y_at) (ap (λ (p : Place). one_if (not (is_done p))) N_at) (total-append (λ (a : Made). one_if (not (is_done a.place))) S.nodes (Y ∷ N ∷ [])) (total-with_made (λ (a : Made). one_if (not (is_done a.place))) (S.nodes ++ Y ∷ N ∷ []) id done_split m found2)

    fewer : (a b n : ℕ) → n ≡ 1 → a + n ≡ b + 0 → a + 1 ≡ b
    fewer a b n h k = omega arith

    one_less : ups_waiting (changed_at S.workers w (splitting i d)) + 1 ≡ ups_waiting S.workers
    one_less =
        let x = stands S.workers w there in
        let up : x.0.up ≡ true = ap (λ (o : Option Worker). option_map_or (λ y. y.up) o false) (sym x.1) ∙ up_is in
        fewer _ _ (one_if x.0.up) (ap one_if up) (total-changed (λ (y : Worker). one_if y.up) S.workers w (splitting i d) x.0 x.1)

    counts : (a b c d b' c' d' : ℕ) → a ≡ b + c + d → b' ≡ b + 1 → c' + 1 ≡ c → d' ≡ d → a ≡ b' + c' + d'
    counts a b c d b' c' d' h k l m = omega arith

pub counted_split : (S : State) (w : ℕ) (at : SplitAt) (i o : ℕ) (P : Packing) → SplitEarly S w at i o → IsCounted S → IsCounted (after S (Split w at i o P))
counted_split S w at i o P early h =
    let m = early.made in
    let here = held_node S w m early.held in
    subst (λ (T : State). IsCounted T) (sym (after_split S w at i o P here.id m here.in_hand here.found)) (counted_halves S w i here.id m (inside_made m w at i P) (outside_made m w at o P) (done.Split here.id at i o P) early.worker here.found early.new_inside (held_place S w m here h) (sym (held_claim S w m early.held) ∙ h.ups w early.up) early.up refl refl refl refl refl h)

-- a hand without an id has another one, if any
other_id : (o : Option ℕ) (id j : ℕ) → put_down o id ≡ Some j → (o ≡ Some j) × ((j == id) ≡ false)
other_id None id j e = absurd cc
other_id (Some k) id j e = by_case (k == id) refl e
  where
    by_case : (b : Bool) → (k == id) ≡ b → cond b None (Some k) ≡ Some j → (Some k ≡ Some j) × ((j == id) ≡ false)
    by_case true is e = absurd cc
    by_case false is e = let same : k ≡ j = cc in (e, ap (λ (n : ℕ). n == id) (sym same) ∙ is)

abbrev left_by : ℕ → Made → Made
left_by w m = record m { place = place.Left w }

abbrev putting : ℕ → Worker → Worker
putting id x = record x { hand = put_down x.hand id }

-- a node is left that isn't claimed, and is in no hand but that of w
counted_left : (S : State) (w id : ℕ) (m : Made) → w < length S.workers → made_as S id ≡ Some m → is_done m.place ≡ false → m.claimed ≡ false → ((v : ℕ) → m.place ≡ place.Hand v → v ≡ w) → IsCounted S → IsCounted (record S { nodes = with_made S.nodes id (left_by w); workers = changed_at S.workers w (putting id) })
counted_left S w id m there found waits free only h = record {
  hands = λ v j e. hands v j (w == v) refl e;
  ups = λ v e. ups v (w == v) refl (sym (read-unchanged (λ (o : Option Worker). option_map_or (λ x. x.up) o false) S.workers w v (putting id) (λ x. refl)) ∙ e);
  places = all-with_made_at (λ m. claim_fits m.place m.claimed ≡ true) S.nodes id (left_by w) m found (ap not free) h.places;
  claims = h.claims ∙ sym (total-with_made_same (λ (a : Made). one_if a.claimed) S.nodes id (left_by w) (λ m. refl));
  opened = rw (as_done _ _ (one_if (not (is_done m.place))) 1 (ap (λ (b : Bool). one_if (not b)) waits) (total-with_made (λ (a : Made). one_if (not (is_done a.place))) S.nodes id (left_by w) m found), total-unchanged (λ (x : Worker). one_if x.up) S.workers w (putting id) (λ x. refl), total-unchanged (λ (x : Worker). x.closes) S.workers w (putting id) (λ x. refl)) h.opened;
  bounded = rw (as_done _ _ (one_if (not (is_done m.place))) 1 (ap (λ (b : Bool). one_if (not b)) waits) (total-with_made (λ (a : Made). one_if (not (is_done a.place))) S.nodes id (left_by w) m found), total-unchanged (λ (x : Worker). x.closes) S.workers w (putting id) (λ x. refl), length-with_made S.nodes id (left_by w)) h.bounded;
}
  where
    as_done : (a b p q : ℕ) → p ≡ q → a + p ≡ b + q → a ≡ b
    as_done a b p q h k = omega arith

    different : (a b : ℕ) → (a == b) ≡ false → b ≡ a → ⊥
    different a b h e = grind (arith, nat_tests)

    hands : (v j : ℕ) (b : Bool) → (w == v) ≡ b → option_and_then (λ x. x.hand) (slice_get (changed_at S.workers w (putting id)) v) ≡ Some j → InHand (with_made S.nodes id (left_by w)) v j
    hands v j true is e =
        let x = stands S.workers w there in
        let same : w ≡ v = same_number w v is in
        let here : put_down x.0.hand id ≡ Some j = sym (ap (λ (o : Option Worker). option_and_then (λ y. y.hand) o) (read-same S.workers w (putting id) x.0 x.1)) ∙ (ap (λ (k : ℕ). option_and_then (λ y. y.hand) (slice_get (changed_at S.workers w (putting id)) k)) same ∙ e) in
        let other = other_id x.0.hand id j here in
        let old = h.hands w j (ap (λ (o : Option Worker). option_and_then (λ y. y.hand) o) x.1 ∙ other.0) in
        record { made = old.made; found = find-other S.nodes id j (left_by w) (λ m. refl) other.1 ∙ old.found; place = old.place ∙ ap (λ (k : ℕ). place.Hand k) same }
    hands v j false is e =
        in_hand-moved S.nodes id m (left_by w) found (λ m. refl) v j (h.hands v j (ap (λ (o : Option Worker). option_and_then (λ y. y.hand) o) (sym (read-other S.workers w v (putting id) is)) ∙ e)) (λ at. absurd (different w v is (only v at)))

    still : (o : Option ℕ) → claimed_at S.nodes o ≡ true → claimed_at (with_made S.nodes id (left_by w)) (put_down o id) ≡ true
    still None e = absurd (false≢true e)
    still (Some k) e = by_case (k == id) refl
      where
        by_case : (b : Bool) → (k == id) ≡ b → claimed_at (with_made S.nodes id (left_by w)) (cond b None (Some k)) ≡ true
        by_case true is = absurd (false≢true (sym free ∙ (ap (λ (o : Option Made). option_map_or (λ m. m.claimed) o false) (sym found) ∙ (ap (λ (n : ℕ). option_map_or (λ m. m.claimed) (find (has_id n) S.nodes) false) (sym (same_number k id is)) ∙ e))))
        by_case false is = claimed-moved S.nodes id m (left_by w) found (λ m. refl) (λ e. e) (Some k) e

    ups : (v : ℕ) (b : Bool) → (w == v) ≡ b → up_waits S v ≡ true → claimed_at (with_made S.nodes id (left_by w)) (option_and_then (λ x. x.hand) (slice_get (changed_at S.workers w (putting id)) v)) ≡ true
    ups v true is up =
        let x = stands S.workers w there in
        let same : w ≡ v = same_number w v is in
        let claim : claimed_at S.nodes x.0.hand ≡ true = ap (λ (o : Option Worker). claimed_at S.nodes (option_and_then (λ y. y.hand) o)) (sym x.1) ∙ h.ups w (ap (λ (k : ℕ). up_waits S k) same ∙ up) in
        ap (λ (k : ℕ). claimed_at (with_made S.nodes id (left_by w)) (option_and_then (λ y. y.hand) (slice_get (changed_at S.workers w (putting id)) k))) (sym same) ∙ (ap (λ (o : Option Worker). claimed_at (with_made S.nodes id (left_by w)) (option_and_then (λ y. y.hand) o)) (read-same S.workers w (putting id) x.0 x.1) ∙ still x.0.hand claim)
    ups v false is up = ap (λ (o : Option Worker). claimed_at (with_made S.nodes id (left_by w)) (option_and_then (λ y. y.hand) o)) (read-other S.workers w v (putting id) is) ∙ claimed-moved S.nodes id m (left_by w) found (λ m. refl) (λ e. e) (hand S v) (h.ups v up)

pub counted_keep : (S : State) (w id : ℕ) → KeepEarly S w id → IsCounted S → IsCounted (after S (Keep w id))
counted_keep S w id early h = by_case (is_fresh S w id) refl early.there
  where
    in_hand_is : (o : Option ℕ) → option_map_or (λ held. held == id) o false ≡ true → o ≡ Some id
    in_hand_is None e = absurd (false≢true e)
    in_hand_is (Some k) e = ap (λ (n : ℕ). Some n) (same_number k id e)

    by_case : (b : Bool) → is_fresh S w id ≡ b → b || holds S w id ≡ true → IsCounted (after S (Keep w id))
    by_case true is e =
        let m = asked (λ m. is_fresh_of w m.place) (made_as S id) is in
        let free : m.0.claimed ≡ false = fresh_unclaimed w m.0.place m.0.claimed m.2 (all-found (λ a. claim_fits a.place a.claimed ≡ true) S.nodes id m.0 h.places m.1) in
        counted_left S w id m.0 early.worker m.1 (fresh_waits w m.0.place m.2) free (λ v at. absurd (fresh_apart w v m.0.place m.2 at)) h
    by_case false is e =
        let in_hand = in_hand_is (hand S w) e in
        let k = h.hands w id in_hand in
        let free : k.made.claimed ≡ false = ap (λ (o : Option Made). option_map_or (λ m. m.claimed) o false) (sym k.found) ∙ (ap (λ (o : Option ℕ). claimed_at S.nodes o) (sym in_hand) ∙ early.unclaimed e) in
        counted_left S w id k.made early.worker k.found (ap is_done k.place) free (λ v at. same_hand v w k.made.place at k.place) h

-- the beginning
pub counted_beginning : (I : Network) (R : Branch) (P : Packing) (workers budget start : ℕ) → IsCounted (beginning I R P workers budget start)
counted_beginning I R P workers budget start = record {
  hands = λ w id e. absurd (nothing id (sym (alike (λ (o : Option Worker). option_and_then (λ x. x.hand) o) None workers w refl refl) ∙ e));
  ups = λ w e. absurd (false≢true (sym (alike (λ (o : Option Worker). option_map_or (λ x. x.up) o false) false workers w refl refl) ∙ e));
  places = All-from_recursion (λ m. claim_fits m.place m.claimed ≡ true) (beginning I R P workers budget start).nodes (refl, tt);
  claims = refl;
  opened = rw (all_zero (λ (x : Worker). one_if x.up) workers refl, all_zero (λ (x : Worker). x.closes) workers refl) refl;
  bounded = rw (all_zero (λ (x : Worker). x.closes) workers refl) (omega arith);
}
  where
    nothing : (id : ℕ) → None ≡ Some id → ⊥
    nothing id e = cc

    alike : {Y : Type 0} (F : Option Worker → Y) (y : Y) (n k : ℕ) → F None ≡ y → F (Some (new_worker start)) ≡ y → F (slice_get (replicate n (new_worker start)) k) ≡ y
    alike F y zero k a b = a
    alike F y (suc n) zero a b = b
    alike F y (suc n) (suc k) a b = alike F y n k a b

    all_zero : (t : Worker → ℕ) (n : ℕ) → t (new_worker start) ≡ 0 → total t (replicate n (new_worker start)) ≡ 0
    all_zero t zero h = refl
    all_zero t (suc n) h = rw (h, all_zero t n h) refl

pub counted_after : (S : State) (e : Event) → IsCounted S → IsAllowed S e → IsCounted (after S e)
counted_after S (Take w id) h allowed = counted_take S w id (take_early S w id allowed.early) h
counted_after S (Pick w id) h allowed = counted_pick S w id (pick_early S w id allowed.early) h
counted_after S (Give w id) h allowed = counted_give S w id (give_early S w id allowed.early) h
counted_after S (Keep w id) h allowed = counted_keep S w id (keep_early S w id allowed.early) h
counted_after S (Claim w) h allowed = by_test (nat_lt S.claims S.budget)
  where
    by_test : (b : Bool) → IsCounted (cond b (granted S w) (refused S w))
    by_test true = counted_granted S w (claim_early S w allowed.early) h
    by_test false = counted_idle S w (λ x. record x { refused = true; end = ClaimRefused }) (λ x. refl) (λ x. refl) (λ x. refl) h
counted_after S (See w) h allowed = counted_idle S w (λ x. record x { seen = S.least }) (λ x. refl) (λ x. refl) (λ x. refl) h
counted_after S (Offer w value) h allowed =
    let k = counted_idle S w (λ x. record x { seen = min S.least value; offered = min x.offered value }) (λ x. refl) (λ x. refl) (λ x. refl) h in
    record { hands = k.hands; ups = k.ups; places = k.places; claims = k.claims; opened = k.opened; bounded = k.bounded }
counted_after S (Up w) h allowed = let early = up_early S w allowed.early in counted_up S w early.worker early.claimed early.up h
counted_after S (Split w at i o P) h allowed = counted_split S w at i o P (split_early S w at i o P allowed.early) h
counted_after S (Close w P) h allowed = counted_close S w P (up_early S w allowed.early) h
counted_after S (Down w) h allowed = let early = down_early S w allowed.early in counted_down S w early.worker early.close h
counted_after S (SeeOpen w) h allowed = by_test (S.opened == 0)
  where
    by_test : (b : Bool) → IsCounted (cond b (ended S w OpenZero) S)
    by_test true = counted_idle S w (λ x. record x { end = OpenZero }) (λ x. refl) (λ x. refl) (λ x. refl) h
    by_test false = h
counted_after S (SeeHalt w) h allowed = by_test S.halted
  where
    by_test : (b : Bool) → IsCounted (cond b (ended S w HaltSeen) S)
    by_test true = counted_idle S w (λ x. record x { end = HaltSeen }) (λ x. refl) (λ x. refl) (λ x. refl) h
    by_test false = h
counted_after S (Halt w) h allowed = record { hands = h.hands; ups = h.ups; places = h.places; claims = h.claims; opened = h.opened; bounded = h.bounded }
