use Rattle.std.proofs.Common.{rules, arith, ◌≡◌, ◌+◌, ◌-◌, ◌<◌, ◌∷◌, ◌++◌, [], ℕ, List, map, length, subst, sym, ap, ◌∙◌}
use Rattle.std.specs.Prelude.{All, slice_index_or}
use Rattle.std.proofs.lemmas.List.{length-map}
use Rattle.node_pool.specs.Lane.{hand}
use Rattle.node_pool.specs.Ends.{End, queue_of}
use Rattle.node_pool.specs.Pool.{Station, own_queue, queues_at}
use Rattle.node_pool.specs.Sides.{AreSides, IsNewPass}
use Rattle.node_pool.proofs.Lists.{all_push, all_tail, map_snoc}
use Rattle.node_pool.proofs.Seating.{IsUnused, next_is, seat_known, places_push_all}
use Rattle.node_pool.proofs.opening.seated.Goals as goal

pub seat-requires : goal.seat-requires
seat-requires g c =
    let i = c.loop-owner.invariant in
    let Q = map queue_of c.args.owners.items in
    let n = length c.args.owners.items in
    let os = c.loop-owner.owner-iterator.rest.items in
    let now = c.next.new.self.rest.items in
    let ss = c.loop-owner.sides.rest.items in
    let later = c.next-in-loop-owner.new.self.rest.items in
    let side = c.into_vec.result.items in
    let is : os ≡ c.in-Some.owner ∷ now = search rules in
    let it : ss ≡ side ∷ later = search rules in
    let next = next_is Q n os now c.in-Some.owner ss later side c.loop-owner.passes.items (length-map c.args.owners.items queue_of) is it i.2 i.3 i.5 i.6 in
    let place : c.len-place.result ≡ length c.loop-owner.passes.items = search rules in
    let within = next.within in
    let long = next.long in
    record {
      within = search rules;
      few = (let few = c.requires.few in omega arith);
      same = λ d. subst (λ k. (slice_index_or side k d).queue ≡ c.in-Some.owner.queue) (sym place) (next.here d);
      fresh = next.own_fresh;
      unused = next.ends_unused;
    }

pub loop-owner-preserved : goal.loop-owner-preserved
loop-owner-preserved g c =
    let i = c.loop-owner.invariant in
    let Q = map queue_of c.args.owners.items in
    let n = length c.args.owners.items in
    let os = c.loop-owner.owner-iterator.rest.items in
    let now = c.next.new.self.rest.items in
    let ss = c.loop-owner.sides.rest.items in
    let later = c.next-in-loop-owner.new.self.rest.items in
    let side = c.into_vec.result.items in
    let is : os ≡ c.in-Some.owner ∷ now = search rules in
    let it : ss ≡ side ∷ later = search rules in
    let next = next_is Q n os now c.in-Some.owner ss later side c.loop-owner.passes.items (length-map c.args.owners.items queue_of) is it i.2 i.3 i.5 i.6 in
    let ps = c.loop-owner.passes.items in
    let p = c.seat.result in
    let more : c.push.new.self.items ≡ ps ++ p ∷ [] = search rules in
    let known = seat_known Q n (66 - length side) c.in-Some.owner side ps p next c.seat.ensures.own.0 c.seat.ensures.own.1 (search rules) c.seat.ensures.list in
    let F : ℕ → Station → Type 0 = λ k s. queues_at k s ≡ Q in
    let G : End → Type 0 = λ w. w.hand ≡ hand (65 - n) [] [] in
    let others = c.seat.ensures.own.0 in (
      tt,
      tt,
      ap (λ (l : List Station). map own_queue l ++ map queue_of now) more ∙ ap (λ l. l ++ map queue_of now) (map_snoc own_queue ps p) ∙ Rattle.std.proofs.Common.append_assoc (map own_queue ps) (p.own.queue ∷ []) (map queue_of now)
          ∙ (λ k. map own_queue ps ++ others k ∷ map queue_of now) ∙ ap (λ (l : List End). map own_queue ps ++ map queue_of l) (sym is) ∙ i.2,
      all_tail (λ s. map queue_of s ≡ Q) side later (subst (AreSides Q) it i.3),
      (let a : length ss ≡ length (side ∷ later) = ap (λ (l : List (List End)). length l) it in let b : length os ≡ length (c.in-Some.owner ∷ now) = ap (λ (l : List End). length l) is in let d = i.4 in omega arith),
      all_tail G c.in-Some.owner now (subst (All G) is i.5),
      all_tail (All IsUnused) side later (subst (All (All IsUnused)) it i.6),
      (λ k d lt. subst (λ (l : List Station). (j : ℕ) → j < length l → queues_at j (slice_index_or l j d) ≡ Q) (sym more) (λ j less. places_push_all F ps p i.7 known.0 j d less) k lt),
      subst (All IsNewPass) (sym more) (all_push IsNewPass ps p i.8 known.1),
    )
