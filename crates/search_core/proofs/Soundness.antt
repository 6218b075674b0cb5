-- Each event keeps a state sound.
use Rattle.std.proofs.Common.{◌≡◌, ℕ, zero, suc, replicate, Bool, true, false, cond, not, ◌&&◌, ◌+◌, ◌-◌, ◌<◌, ◌≤◌, length, arith, List, [], ◌∷◌, ◌++◌, Option, Some, None, refl, sym, ap, ◌∙◌, subst, inl, inr}
use Rattle.std.specs.Prelude.{All, Contains, map, min, slice_get, nat_lt, nat_le, IfSome, ◌==◌, option_and_then, unwrap_or, is_some}
use Rattle.std.specs.Option.{option_map_or}
use Rattle.std.proofs.lemmas.Bool.{and_parts, not-true}
use Rattle.std.proofs.lemmas.Bool.Decides.{nat_tests}
use Rattle.std.proofs.lemmas.List.Elements.{All-append, All-from_recursion, All-nil, All-push, All-replicate, All-weaker, Contains-append_left, Contains-append_right}
use Rattle.std.proofs.lemmas.List.{map-append}
use Rattle.st_model.specs.declared.split_at.SplitAt.{SplitAt}
use Rattle.st_model.specs.declared.split_at.SplitAt.TheVariants.{Vertex, Link}
use Rattle.st_model.specs.Branch.{is_free, is_present, is_undecided}
use Rattle.st_model.specs.Made.{has_pair}
use Rattle.st_model.specs.Network.{Network, IsInstance, is_required, link}
use Rattle.cut_packing.specs.declared.packing.Packing.{Packing}
use Rattle.cut_packing.specs.Packing.{Fits, weight}
use Rattle.cut_packing.specs.ProofTree.{Closes, IsSplitAt}
use Rattle.st_model.specs.declared.branch.Branch.{Branch}
use Rattle.branching.specs.declared.node.Node.{Node}
use Rattle.branching.specs.Node.{IsNode}
use Rattle.branching.proofs.NoLighter.{halves_are_no_lighter_lem}
use Rattle.search_core.specs.declared.event.Event.{Event}
use Rattle.search_core.specs.declared.event.Event.TheVariants.{Take, Pick, Give, Claim, See, Offer, Up, Split, Close, Down, SeeOpen, SeeHalt, Halt, Keep}
use Rattle.search_core.specs.declared.done.Done.{Done}
use Rattle.search_core.specs.declared.done.Done.TheVariants as done
use Rattle.search_core.specs.declared.made.Made.{Made}
use Rattle.search_core.specs.State.{State, made_as, hand, held, with_made, changed_at, seen, beginning, new_worker, root_of}
use Rattle.search_core.specs.declared.made.Place.TheVariants.{Queue}
use Rattle.search_core.specs.declared.made.Place.TheVariants as place
use Rattle.search_core.specs.Needs.{IsAllowed, AllowsSplit, may_split_at}
use Rattle.search_core.specs.Effects.{after, granted, refused, ended, halves_made, id_in_hand}
use Rattle.search_core.specs.declared.done.End.TheVariants.{OpenZero, HaltSeen}
use Rattle.search_core.specs.declared.worker.Worker.{Worker}
use Rattle.search_core.specs.Kept.{IsSound, IsSoundRecord, IsSoundWork, made_nodes, least_offered}
use Rattle.search_core.proofs.Early.{see_early, split_early, up_early}
use Rattle.search_core.proofs.Happened.{after_split, split_state, inside_made, outside_made}
use Rattle.search_core.proofs.NodeLists.{all-with_made, all-found, nodes-with_made, found-id, found-among}
use Rattle.search_core.proofs.WorkerLists.{all-changed, least-unchanged, least-offer}

-- a change of a node's place and claim keeps it a node
abbrev AreNodes : Network → List Made → Type 0
AreNodes I nodes = All (λ m. IsNode I m.node) nodes

kept_nodes : (S : State) (id : ℕ) (f : Made → Made) → ((m : Made) → IsNode S.instance m.node → IsNode S.instance (f m).node) → IsSound S → AreNodes S.instance (with_made S.nodes id f)
kept_nodes S id f same kept = all-with_made (λ m. IsNode S.instance m.node) S.nodes id f same kept.nodes

-- where the test says so, the branch can be split there
pub splits : (I : Network) (N : Node) (at : SplitAt) → may_split_at I N.branch at ≡ true → IsSplitAt I N.branch at
splits I N (Link a b) h =
    let tests = and_parts ((nat_lt a b && is_some (link I.links a b)) && (is_present N.branch a && is_present N.branch b)) _ h in
    let first = and_parts (nat_lt a b && is_some (link I.links a b)) _ tests.0 in
    let linked = and_parts (nat_lt a b) _ first.0 in
    let present = and_parts (is_present N.branch a) _ first.1 in
    let open_still = and_parts (not (has_pair N.branch.must a b)) _ tests.1 in
    record {
      ordered = below a b linked.0;
      linked = linked.1;
      low = present.0;
      high = present.1;
      no_must = not-true (has_pair N.branch.must a b) open_still.0;
      unbarred = not-true (has_pair N.branch.barred a b) open_still.1;
    }
  where
    below : (a b : ℕ) → nat_lt a b ≡ true → a < b
    below a b h = grind (arith, nat_tests)
splits I N (Vertex v) h =
    let tests = and_parts (nat_le 1 v && nat_le v I.n) (is_free I N.branch v) h in
    let range = and_parts (nat_le 1 v) (nat_le v I.n) tests.0 in
    let free = and_parts (is_undecided N.branch v) (not (is_required I v)) tests.1 in
    record { vertex = (at_most 1 v range.0, at_most v I.n range.1); undecided = free.0; free = not-true (is_required I v) free.1 }
  where
    at_most : (a b : ℕ) → nat_le a b ≡ true → a ≤ b
    at_most a b h = grind (arith, nat_tests)

-- the node in a hand is one of the nodes
held_found : (P : Made → Type 0) (S : State) (w : ℕ) (m : Made) → All P S.nodes → held S w ≡ Some m → P m
held_found P S w m all e = by_hand (hand S w) e
  where
    by_hand : (h : Option ℕ) → option_and_then (made_as S) h ≡ Some m → P m
    by_hand None e = absurd cc
    by_hand (Some id) e = all-found P S.nodes id m all e

halves_nodes : (I : Network) (k : Option Made) (w : ℕ) (at : SplitAt) (i o : ℕ) (P : Packing) → IsInstance I → IfSome k (λ m. IsNode I m.node × IsSplitAt I m.node.branch at × Fits I m.node.branch P) → AreNodes I (halves_made k w at i o P)
halves_nodes I None w at i o P instance h = All-nil (λ m. IsNode I m.node)
halves_nodes I (Some m) w at i o P instance h =
    let node : IsNode I (record m.node { packing = P }) = record { branch = h.0.branch; required = h.0.required; fits = h.2 } in
    let halves = halves_are_no_lighter_lem I (record m.node { packing = P }) at i o instance node h.1 in
    All-from_recursion (λ m. IsNode I m.node) (halves_made (Some m) w at i o P) (halves.0.node, (halves.1.node, tt))

-- what the need of a split says of the node in hand
split_halves : (S : State) (w : ℕ) (at : SplitAt) (i o : ℕ) (P : Packing) → IsSound S → IsAllowed S (Split w at i o P) → AreNodes S.instance (halves_made (held S w) w at i o P)
split_halves S w at i o P kept allowed =
    by_held (held S w) refl (split_early S w at i o P allowed.early).vertex allowed.packing
  where
    by_held : (k : Option Made) → held S w ≡ k → option_map_or (λ m. may_split_at S.instance m.node.branch at) k false ≡ true → IfSome k (λ m. AllowsSplit S.instance m.node.branch P (seen S w)) → AreNodes S.instance (halves_made k w at i o P)
    by_held None e vertex allows = All-nil (λ m. IsNode S.instance m.node)
    by_held (Some m) e vertex allows = halves_nodes S.instance (Some m) w at i o P kept.instance (held_found (λ m. IsNode S.instance m.node) S w m kept.nodes e, splits S.instance m.node at vertex, allows.fits)

-- what was made before is among what is made after
abbrev pub AreMore : List Node → List Node → Type 0
AreMore nodes more = (N : Node) → Contains nodes N → Contains more N

-- a record stays sound where more nodes are made, and a lower value is seen
record-kept : (I : Network) (start : ℕ) (nodes more : List Node) (seen lower : ℕ) → AreMore nodes more → lower ≤ seen → (d : Done) → IsSoundRecord I start nodes seen d → IsSoundRecord I start more lower d
record-kept I start nodes more seen lower grown low (done.Split id at i o P) (N, h) = (N, record { node = grown N h.node; id_is = h.id_is; vertex = h.vertex; packing = h.packing; inside_made = grown _ h.inside_made; outside_made = grown _ h.outside_made })
record-kept I start nodes more seen lower grown low (done.Close id P) (N, h) = (N, record { node = grown N h.node; id_is = h.id_is; packing = record { fits = h.packing.fits; weighs = at_least lower seen (weight I N.branch P) low h.packing.weighs } })
  where
    at_least : (a b c : ℕ) → a ≤ b → b ≤ c → a ≤ c
    at_least a b c h k = omega arith

-- and so does a worker's work
work-kept : (I : Network) (start least least' : ℕ) (nodes more : List Node) (seen lower : ℕ) (ds : List Done) → AreMore nodes more → lower ≤ seen → least' ≤ lower → IsSoundWork I start least nodes seen ds → IsSoundWork I start least' more lower ds
work-kept I start least least' nodes more seen lower ds grown low bound h = record {
  low = bound;
  high = at_most lower seen start low h.high;
  records = All-weaker (IsSoundRecord I start nodes seen) (IsSoundRecord I start more lower) (record-kept I start nodes more seen lower grown low) ds h.records;
}
  where
    at_most : (a b c : ℕ) → a ≤ b → b ≤ c → a ≤ c
    at_most a b c h k = omega arith

-- the workers of a state, where one of them is changed and more nodes may be made
abbrev AreSound : Network → ℕ → ℕ → List Node → List Worker → Type 0
AreSound I start least nodes workers = All (λ x. IsSoundWork I start least nodes x.seen x.done) workers

-- a change that leaves what was seen and done
idle_change : (S : State) (w : ℕ) (f : Worker → Worker) (more : List Node) → ((x : Worker) → (f x).seen ≡ x.seen) → ((x : Worker) → (f x).done ≡ x.done) → AreMore (made_nodes S) more → IsSound S → AreSound S.instance S.start S.least more (changed_at S.workers w f)
idle_change S w f more seen_same done_same grown kept =
    all-changed _ _ S.workers w f (λ x h. kept_one x h) (λ x e h. rw (seen_same x, done_same x) (kept_one x h)) kept.workers
  where
    kept_one : (x : Worker) → IsSoundWork S.instance S.start S.least (made_nodes S) x.seen x.done → IsSoundWork S.instance S.start S.least more x.seen x.done
    kept_one x h = work-kept S.instance S.start S.least S.least (made_nodes S) more x.seen x.seen x.done grown (omega arith) h.low h

-- the same nodes are there after a change of one
same_nodes : (S : State) (id : ℕ) (f : Made → Made) → ((m : Made) → (f m).node ≡ m.node) → AreMore (made_nodes S) (map (λ m. m.node) (with_made S.nodes id f))
same_nodes S id f same N h = rw (nodes-with_made S.nodes id f same) h

no_more : (S : State) → AreMore (made_nodes S) (made_nodes S)
no_more S N h = h

-- the work of all, where no worker is changed
same_work : (S : State) (more : List Node) → AreMore (made_nodes S) more → IsSound S → AreSound S.instance S.start S.least more S.workers
same_work S more grown kept =
    All-weaker _ _ (λ x h. work-kept S.instance S.start S.least S.least (made_nodes S) more x.seen x.seen x.done grown (omega arith) h.low h) S.workers kept.workers

-- the least offer, where no offer is changed
same_least : (S : State) (w : ℕ) (f : Worker → Worker) → ((x : Worker) → (f x).offered ≡ x.offered) → IsSound S → S.least ≡ least_offered S.start (changed_at S.workers w f)
same_least S w f same kept = kept.least ∙ sym (least-unchanged S.start S.workers w f same)

-- a change of one worker that leaves what it saw, offered and did
pub sound_idle : (S : State) (w : ℕ) (f : Worker → Worker) (opened : ℕ) → ((x : Worker) → (f x).seen ≡ x.seen) → ((x : Worker) → (f x).done ≡ x.done) → ((x : Worker) → (f x).offered ≡ x.offered) → IsSound S → IsSound (record S { workers = changed_at S.workers w f; opened = opened })
sound_idle S w f opened seen_same done_same offered_same kept = record {
  instance = kept.instance;
  nodes = kept.nodes;
  workers = idle_change S w f (made_nodes S) seen_same done_same (no_more S) kept;
  least = same_least S w f offered_same kept;
  claims = kept.claims;
}

-- a change of one node's place or claim
kept_moved : (S : State) (id : ℕ) (f : Made → Made) (claims : ℕ) → ((m : Made) → (f m).node ≡ m.node) → claims ≤ S.budget → IsSound S → IsSound (record S { nodes = with_made S.nodes id f; claims = claims })
kept_moved S id f claims same bound kept = record {
  instance = kept.instance;
  nodes = kept_nodes S id f (λ m h. rw (same m) h) kept;
  workers = same_work S (map (λ m. m.node) (with_made S.nodes id f)) (same_nodes S id f same) kept;
  least = kept.least;
  claims = bound;
}

-- a state with its own counts is the state
kept_claim : (S : State) (w : ℕ) → IsSound S → IsSound (after S (Claim w))
kept_claim S w kept = by_test (nat_lt S.claims S.budget) refl
  where
    below : (a b : ℕ) → nat_lt a b ≡ true → a + 1 ≤ b
    below a b h = grind (arith, nat_tests)

    by_test : (b : Bool) → nat_lt S.claims S.budget ≡ b → IsSound (cond b (granted S w) (refused S w))
    by_test true e = kept_moved S (id_in_hand S w) (λ m. record m { claimed = true }) (S.claims + 1) (λ m. refl) (below S.claims S.budget e) kept
    by_test false e = sound_idle S w _ S.opened (λ x. refl) (λ x. refl) (λ x. refl) kept

kept_see : (S : State) (w : ℕ) → IsSound S → IsSound (after S (See w))
kept_see S w kept = record {
  instance = kept.instance;
  nodes = kept.nodes;
  workers = all-changed _ _ S.workers w _ (λ x h. h) (λ x e h. work-kept S.instance S.start S.least S.least (made_nodes S) (made_nodes S) x.seen S.least x.done (no_more S) h.low (omega arith) h) kept.workers;
  least = same_least S w _ (λ x. refl) kept;
  claims = kept.claims;
}

kept_offer : (S : State) (w value : ℕ) → w < length S.workers → IsSound S → IsSound (after S (Offer w value))
kept_offer S w value there kept = record {
  instance = kept.instance;
  nodes = kept.nodes;
  workers = all-changed _ _ S.workers w _ (λ x h. work-kept S.instance S.start S.least (min S.least value) (made_nodes S) (made_nodes S) x.seen x.seen x.done (no_more S) (omega arith) (lower S.least value x.seen h.low) h) (λ x e h. work-kept S.instance S.start S.least (min S.least value) (made_nodes S) (made_nodes S) x.seen (min S.least value) x.done (no_more S) (lower S.least value x.seen h.low) (omega arith) h) kept.workers;
  least = ap (λ n. min n value) kept.least ∙ sym (least-offer S.start value S.workers w _ (λ x. refl) there);
  claims = kept.claims;
}
  where
    lower : (a b c : ℕ) → a ≤ c → min a b ≤ c
    lower a b c h = omega arith

-- a node that goes from place to place with its worker
kept_carried : (S : State) (id w : ℕ) (f : Made → Made) (g : Worker → Worker) → ((m : Made) → (f m).node ≡ m.node) → ((x : Worker) → (g x).seen ≡ x.seen) → ((x : Worker) → (g x).done ≡ x.done) → ((x : Worker) → (g x).offered ≡ x.offered) → IsSound S → IsSound (record S { nodes = with_made S.nodes id f; workers = changed_at S.workers w g })
kept_carried S id w f g same seen_same done_same offered_same kept =
    sound_idle (record S { nodes = with_made S.nodes id f }) w g S.opened seen_same done_same offered_same (kept_moved S id f S.claims same kept.claims kept)

-- the node in a hand is one of those that were made, under an id
pub record HeldNode (S : State) (w : ℕ) (m : Made) : Type 0 where
  pub id : ℕ
  pub in_hand : hand S w ≡ Some id
  pub found : made_as S id ≡ Some m

pub held_node : (S : State) (w : ℕ) (m : Made) → held S w ≡ Some m → HeldNode S w m
held_node S w m e = by_hand (hand S w) refl e
  where
    by_hand : (h : Option ℕ) → hand S w ≡ h → option_and_then (made_as S) h ≡ Some m → HeldNode S w m
    by_hand None is e = absurd cc
    by_hand (Some id) is e = record { id = id; in_hand = is; found = e }

-- what w saw is what its worker saw
seen_by : (S : State) (w : ℕ) (x : Worker) → slice_get S.workers w ≡ Some x → seen S w ≡ x.seen
seen_by S w x e = ap (λ (o : Option Worker). option_map_or (λ y. y.seen) o 0) e

-- what allows a split below a value does so below a greater one
allows_below : (I : Network) (B : Branch) (P : Packing) (x y : ℕ) → x ≤ y → AllowsSplit I B P x → AllowsSplit I B P y
allows_below I B P x y bound allows = record { fits = allows.fits; full = elim allows.full [ inl f ↦ inl (record { full = f.full; below = lower (weight I B P) x y f.below bound }) | inr n ↦ inr n ] }
  where
    lower : (a b c : ℕ) → a < b → b ≤ c → a < c
    lower a b c h k = omega arith

-- the nodes after a split: those before it, and the halves
split_nodes : (S : State) (w : ℕ) (at : SplitAt) (i o : ℕ) (P : Packing) (id : ℕ) (m : Made) → made_nodes (split_state S w at i o P id m) ≡ made_nodes S ++ (inside_made m w at i P).node ∷ (outside_made m w at o P).node ∷ []
split_nodes S w at i o P id m =
    nodes-with_made (S.nodes ++ inside_made m w at i P ∷ outside_made m w at o P ∷ []) id (λ m. record m { place = place.Split }) (λ m. refl)
    ∙ map-append (λ (m : Made). m.node) S.nodes (inside_made m w at i P ∷ outside_made m w at o P ∷ [])

-- a split of a node at a vertex where it can be, on a packing that allows it
kept_halves : (S : State) (w : ℕ) (at : SplitAt) (i o : ℕ) (P : Packing) (id : ℕ) (m : Made) → made_as S id ≡ Some m → IsSplitAt S.instance m.node.branch at → AllowsSplit S.instance m.node.branch P (seen S w) → AreNodes S.instance (halves_made (Some m) w at i o P) → IsSound S → IsSound (split_state S w at i o P id m)
kept_halves S w at i o P id m found vertex allows halves kept = record {
  instance = kept.instance;
  nodes = all-with_made (λ m. IsNode S.instance m.node) (S.nodes ++ halves_made (Some m) w at i o P) id _ (λ m h. h) (All-append (λ m. IsNode S.instance m.node) S.nodes (halves_made (Some m) w at i o P) kept.nodes halves);
  workers = all-changed _ _ S.workers w _ (λ x h. kept_one x h) (λ x e h. work x e h) kept.workers;
  least = same_least S w _ (λ x. refl) kept;
  claims = kept.claims;
}
  where
    halves_are : (N : Node) → Contains ((inside_made m w at i P).node ∷ (outside_made m w at o P).node ∷ []) N → Contains (made_nodes (split_state S w at i o P id m)) N
    halves_are N h = rw (split_nodes S w at i o P id m) (Contains-append_right (made_nodes S) ((inside_made m w at i P).node ∷ (outside_made m w at o P).node ∷ []) N h)

    grown : AreMore (made_nodes S) (made_nodes (split_state S w at i o P id m))
    grown N h = rw (split_nodes S w at i o P id m) (Contains-append_left (made_nodes S) ((inside_made m w at i P).node ∷ (outside_made m w at o P).node ∷ []) N h)

    kept_one : (x : Worker) → IsSoundWork S.instance S.start S.least (made_nodes S) x.seen x.done → IsSoundWork S.instance S.start S.least (made_nodes (split_state S w at i o P id m)) x.seen x.done
    kept_one x h = work-kept S.instance S.start S.least S.least (made_nodes S) (made_nodes (split_state S w at i o P id m)) x.seen x.seen x.done grown (omega arith) h.low h

    at_most : (a b c : ℕ) → a ≡ b → b ≤ c → a ≤ c
    at_most a b c h k = omega arith

    work : (x : Worker) → slice_get S.workers w ≡ Some x → IsSoundWork S.instance S.start S.least (made_nodes S) x.seen x.done → IsSoundWork S.instance S.start S.least (made_nodes (split_state S w at i o P id m)) x.seen (x.done ++ done.Split id at i o P ∷ [])
    work x e h = record {
      low = h.low;
      high = h.high;
      records = All-push (IsSoundRecord S.instance S.start (made_nodes (split_state S w at i o P id m)) x.seen) x.done (done.Split id at i o P) (kept_one x h).records (
        m.node,
        record {
          node = grown m.node (found-among S.nodes id m found);
          id_is = found-id S.nodes id m found;
          vertex = vertex;
          packing = allows_below S.instance m.node.branch P (seen S w) S.start (at_most (seen S w) x.seen S.start (seen_by S w x e) h.high) allows;
          inside_made = halves_are _ (0, omega arith, refl);
          outside_made = halves_are _ (1, omega arith, refl);
        },
      );
    }

-- a close of a node by a packing that fits it and weighs at least what was seen
kept_closed : (S : State) (w : ℕ) (P : Packing) (m : Made) (id : ℕ) → id_in_hand S w ≡ id → made_as S id ≡ Some m → Closes S.instance m.node.branch (seen S w) P → IsSound S → IsSound (after S (Close w P))
kept_closed S w P m id in_hand found closes kept = record {
  instance = kept.instance;
  nodes = kept_nodes S (id_in_hand S w) (λ m. record m { place = place.Closed }) (λ m h. h) kept;
  workers = all-changed _ _ S.workers w _ (λ x h. kept_one x h) (λ x e h. work x e h) kept.workers;
  least = same_least S w _ (λ x. refl) kept;
  claims = kept.claims;
}
  where
    grown : AreMore (made_nodes S) (made_nodes (after S (Close w P)))
    grown = same_nodes S (id_in_hand S w) (λ m. record m { place = place.Closed }) (λ m. refl)

    kept_one : (x : Worker) → IsSoundWork S.instance S.start S.least (made_nodes S) x.seen x.done → IsSoundWork S.instance S.start S.least (made_nodes (after S (Close w P))) x.seen x.done
    kept_one x h = work-kept S.instance S.start S.least S.least (made_nodes S) (made_nodes (after S (Close w P))) x.seen x.seen x.done grown (omega arith) h.low h

    work : (x : Worker) → slice_get S.workers w ≡ Some x → IsSoundWork S.instance S.start S.least (made_nodes S) x.seen x.done → IsSoundWork S.instance S.start S.least (made_nodes (after S (Close w P))) x.seen (x.done ++ done.Close (id_in_hand S w) P ∷ [])
    work x e h = record {
      low = h.low;
      high = h.high;
      records = All-push (IsSoundRecord S.instance S.start (made_nodes (after S (Close w P))) x.seen) x.done (done.Close (id_in_hand S w) P) (kept_one x h).records (
        m.node,
        record {
          node = grown m.node (found-among S.nodes id m found);
          id_is = found-id S.nodes id m found ∙ sym in_hand;
          packing = subst (λ (n : ℕ). Closes S.instance m.node.branch n P) (seen_by S w x e) closes;
        },
      );
    }

kept_split : (S : State) (w : ℕ) (at : SplitAt) (i o : ℕ) (P : Packing) → IsSound S → IsAllowed S (Split w at i o P) → IsSound (after S (Split w at i o P))
kept_split S w at i o P kept allowed =
    let early = split_early S w at i o P allowed.early in
    let m = early.made in
    let here = held_node S w m early.held in
    let halves : AreNodes S.instance (halves_made (Some m) w at i o P) = subst (λ (k : Option Made). AreNodes S.instance (halves_made k w at i o P)) early.held (split_halves S w at i o P kept allowed) in
    let vertex : may_split_at S.instance m.node.branch at ≡ true = subst (λ (k : Option Made). option_map_or (λ m. may_split_at S.instance m.node.branch at) k false ≡ true) early.held early.vertex in
    let allows : AllowsSplit S.instance m.node.branch P (seen S w) = subst (λ (k : Option Made). IfSome k (λ m. AllowsSplit S.instance m.node.branch P (seen S w))) early.held allowed.packing in
    subst (λ (T : State). IsSound T) (sym (after_split S w at i o P here.id m here.in_hand here.found)) (kept_halves S w at i o P here.id m here.found (splits S.instance m.node at vertex) allows halves kept)

kept_close : (S : State) (w : ℕ) (P : Packing) → IsSound S → IsAllowed S (Close w P) → IsSound (after S (Close w P))
kept_close S w P kept allowed =
    let early = up_early S w allowed.early in
    let m = early.made in
    let at = held_node S w m early.held in
    let closes : Closes S.instance m.node.branch (seen S w) P = subst (λ (k : Option Made). IfSome k (λ m. Closes S.instance m.node.branch (seen S w) P)) early.held allowed.packing in
    kept_closed S w P m at.id (ap (λ (h : Option ℕ). unwrap_or h 0) at.in_hand) at.found closes kept

pub sound_after : (S : State) (e : Event) → IsSound S → IsAllowed S e → IsSound (after S e)
sound_after S (Take w id) kept allowed = kept_carried S id w _ _ (λ m. refl) (λ x. refl) (λ x. refl) (λ x. refl) kept
sound_after S (Pick w id) kept allowed = kept_carried S id w _ _ (λ m. refl) (λ x. refl) (λ x. refl) (λ x. refl) kept
sound_after S (Give w id) kept allowed = kept_moved S id _ S.claims (λ m. refl) kept.claims kept
sound_after S (Keep w id) kept allowed = kept_carried S id w _ _ (λ m. refl) (λ x. refl) (λ x. refl) (λ x. refl) kept
sound_after S (Claim w) kept allowed = kept_claim S w kept
sound_after S (See w) kept allowed = kept_see S w kept
sound_after S (Offer w value) kept allowed = kept_offer S w value (see_early S w allowed.early) kept
sound_after S (Up w) kept allowed = sound_idle S w _ (S.opened + 1) (λ x. refl) (λ x. refl) (λ x. refl) kept
sound_after S (Split w at i o P) kept allowed = kept_split S w at i o P kept allowed
sound_after S (Close w P) kept allowed = kept_close S w P kept allowed
sound_after S (Down w) kept allowed = sound_idle S w _ (S.opened - 1) (λ x. refl) (λ x. refl) (λ x. refl) kept
sound_after S (SeeOpen w) kept allowed = by_test (S.opened == 0)
  where
    by_test : (b : Bool) → IsSound (cond b (ended S w OpenZero) S)
    by_test true = sound_idle S w _ S.opened (λ x. refl) (λ x. refl) (λ x. refl) kept
    by_test false = kept
sound_after S (SeeHalt w) kept allowed = by_test S.halted
  where
    by_test : (b : Bool) → IsSound (cond b (ended S w HaltSeen) S)
    by_test true = sound_idle S w _ S.opened (λ x. refl) (λ x. refl) (λ x. refl) kept
    by_test false = kept
sound_after S (Halt w) kept allowed = record { instance = kept.instance; nodes = kept.nodes; workers = kept.workers; least = kept.least; claims = kept.claims }

-- and the beginning does
pub sound_beginning : (I : Network) (R : Branch) (P : Packing) (workers budget start : ℕ) → IsInstance I → IsNode I (root_of R P) → IsSound (beginning I R P workers budget start)
sound_beginning I R P workers budget start instance root = record { instance = instance; workers = All-replicate (λ x. IsSoundWork I start start (root_of R P ∷ []) x.seen x.done) workers (new_worker start) (record { low = omega arith; high = omega arith; records = All-nil (IsSoundRecord I start (root_of R P ∷ []) start) }); least = sym (all_start workers); claims = omega arith; nodes = All-from_recursion (λ m. IsNode I m.node) (record { node = root_of R P; place = Queue 0; claimed = false } ∷ []) (root, tt) }
  where
    both_start : (a b : ℕ) → b ≡ a → min a b ≡ a
    both_start a b h = omega arith

    all_start : (n : ℕ) → least_offered start (replicate n (new_worker start)) ≡ start
    all_start zero = refl
    all_start (suc n) = both_start start (least_offered start (replicate n (new_worker start))) (all_start n)
