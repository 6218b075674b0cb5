use Rattle.std.proofs.Common.{rules, arith, ◌≡◌, ◌+◌, ◌∷◌, ◌++◌, [], List, map, length, subst, sym, ap, ◌∙◌, append-nil}
use Rattle.std.specs.Prelude.{All, flat_map}
use Rattle.std.specs.List.{sum_by}
use Rattle.std.proofs.lemmas.List.{length-map}
use Rattle.branching.specs.declared.node.Node.{Node}
use Rattle.node_pool.specs.Ends.{End, put_by, queue_of}
use Rattle.node_pool.specs.Pool.{Station, own_put, own_queue, list_of, queues_at, all_gave, all_took}
use Rattle.node_pool.proofs.Lists.{empty, all_push, all_join, flat_on, flat_whole, map_on, map_whole}
use Rattle.node_pool.proofs.TakingApart.{first_is, queues_on, gave_on, took_on}
use Rattle.node_pool.proofs.closing.taken_apart.Goals as goal

pub unseat-requires : goal.unseat-requires
unseat-requires g c =
    let i = c.loop-pass.invariant in
    let is : c.loop-pass.pass-iterator.rest.items ≡ c.in-Some.pass ∷ c.next.new.self.rest.items = search rules in
    let first = first_is (map own_queue c.args.passes.items) c.loop-pass.owners.items c.loop-pass.pass-iterator.rest.items c.next.new.self.rest.items c.in-Some.pass is i.2 i.8 in
    let within = first.within in
    search rules

pub loop-pass-preserved : goal.loop-pass-preserved
loop-pass-preserved g c =
    let i = c.loop-pass.invariant in
    let Q = map own_queue c.args.passes.items in
    let n = length c.args.passes.items in
    let owners = c.loop-pass.owners.items in
    let sides = c.loop-pass.sides.items in
    let left = c.loop-pass.left.items in
    let rest = c.loop-pass.pass-iterator.rest.items in
    let now = c.next.new.self.rest.items in
    let p = c.in-Some.pass in
    let o = c.in_ok-owner.owner in
    let side = c.in_ok-owner.side.items in
    let F : List End → Type 0 = λ s. map queue_of s ≡ Q in
    let G : End → Type 0 = λ o. o.hand.parts + n ≡ 65 in
    let H : Node → Type 0 = λ node. g.S.Sound.sound node in
    let is : rest ≡ p ∷ now = search rules in
    let place : c.len-place.result ≡ length owners = search rules in
    let first = first_is Q owners rest now p is i.2 i.8 in
    let io : c.push.new.self.items ≡ owners ++ o ∷ [] = search rules in
    let si : c.push-in-loop-pass.new.self.items ≡ sides ++ side ∷ [] = search rules in
    let le : c.append.new.self.items ≡ left ++ c.in_ok-owner.kept.items = search rules in
    let known : map queue_of side ≡ Q = c.in_ok-owner.ensures.side ∙ ap (λ k. queues_at k p) place ∙ first.known in
    let long : length side ≡ n = sym (length-map side queue_of) ∙ ap (λ l. length l) known ∙ length-map c.args.passes.items own_queue in
    let here : G o = (let a = c.in_ok-owner.ensures.parts in omega arith) in
    let grown : length c.push.new.self.items ≡ length owners + 1 = search rules in (
      tt,
      tt,
      queues_on Q owners c.push.new.self.items rest now p o is io c.in_ok-owner.ensures.own i.2,
      subst (All F) (sym si) (all_push F sides side i.3 known),
      search rules,
      subst (All G) (sym io) (all_push G owners o i.5 here),
      (λ h. gave_on h (all_gave h c.args.passes.items) owners c.push.new.self.items sides c.push-in-loop-pass.new.self.items left c.append.new.self.items c.in_ok-owner.kept.items rest now p o side is io si le (c.in_ok-owner.ensures.gave h) (i.6 h)),
      (λ h. took_on h (all_took h c.args.passes.items) owners c.push.new.self.items sides c.push-in-loop-pass.new.self.items rest now p o side is io si (c.in_ok-owner.ensures.took h) (i.7 h)),
      (λ k d lt. subst (λ m. queues_at (m + k) (Rattle.std.specs.Prelude.slice_index_or now k d) ≡ Q) (sym grown) (first.later k d lt)),
      subst (All H) (sym le) (all_join H left c.in_ok-owner.kept.items i.9 c.in_ok-owner.ensures.sound),
      map_on put_by own_put (map own_put c.args.passes.items) owners c.push.new.self.items rest now p o is io c.in_ok-owner.ensures.put.0 i.10,
      flat_on list_of (flat_map list_of c.args.passes.items) left c.append.new.self.items c.in_ok-owner.kept.items rest now p is le c.in_ok-owner.ensures.put.1 i.11,
    )

pub returns-clause-sides : goal.returns-clause-sides
returns-clause-sides g c =
    let count : length c.loop-pass.pass-iterator.rest.items ≡ 0 = search rules in
    let none = empty c.loop-pass.pass-iterator.rest.items count in
    let i = c.loop-pass.invariant in
    let all : map queue_of c.loop-pass.owners.items ≡ map own_queue c.args.passes.items =
    sym (append-nil (map queue_of c.loop-pass.owners.items)) ∙ ap (λ (l : List Station). map queue_of c.loop-pass.owners.items ++ map own_queue l) (sym none) ∙ i.2 in
    λ k d lt. i.3 k d lt ∙ sym all

pub returns-clause-whole : goal.returns-clause-whole
returns-clause-whole g c =
    let count : length c.loop-pass.pass-iterator.rest.items ≡ 0 = search rules in
    let none = empty c.loop-pass.pass-iterator.rest.items count in
    let i = c.loop-pass.invariant in
    let all : map queue_of c.loop-pass.owners.items ≡ map own_queue c.args.passes.items =
    sym (append-nil (map queue_of c.loop-pass.owners.items)) ∙ ap (λ (l : List Station). map queue_of c.loop-pass.owners.items ++ map own_queue l) (sym none) ∙ i.2 in
    let long : length c.loop-pass.owners.items ≡ length c.args.passes.items = sym (length-map c.loop-pass.owners.items queue_of) ∙ ap (λ l. length l) all ∙ length-map c.args.passes.items own_queue in
    λ k d lt. let a = i.5 k d lt in let b = i.4 in omega arith

pub returns-clause-gave : goal.returns-clause-gave
returns-clause-gave g c = λ h.
    let count : length c.loop-pass.pass-iterator.rest.items ≡ 0 = search rules in
    let none = empty c.loop-pass.pass-iterator.rest.items count in
    let z : all_gave h c.loop-pass.pass-iterator.rest.items ≡ 0 = ap (all_gave h) none in let e = c.loop-pass.invariant.6 h in omega arith

pub returns-clause-put : goal.returns-clause-put
returns-clause-put g c = let none : length c.loop-pass.pass-iterator.rest.items ≡ 0 = search rules in
    map_whole put_by own_put (map own_put c.args.passes.items) c.loop-pass.owners.items c.loop-pass.pass-iterator.rest.items none c.loop-pass.invariant.10

pub returns-clause-lists : goal.returns-clause-lists
returns-clause-lists g c = let none : length c.loop-pass.pass-iterator.rest.items ≡ 0 = search rules in
    flat_whole list_of (flat_map list_of c.args.passes.items) c.loop-pass.left.items c.loop-pass.pass-iterator.rest.items none c.loop-pass.invariant.11
