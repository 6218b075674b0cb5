use Rattle.std.proofs.Common.{rules, refl, ap, sym, ◌∙◌, subst, ℕ, List, Option, Some, None, option_map, IsPermutation, ◌≡◌, arith, ◌∷◌}
use Rattle.std.proofs.lemmas.List.Sorted.{IsPermutation-map}
use Rattle.std.specs.Prelude.{min, max}
use Rattle.st_model.specs.declared.link.Link.{Link}
use Rattle.st_model.specs.Network.{link}
use Rattle.graph_store.specs.declared.joints.Joint.{Joint}
use Rattle.graph_store.specs.Joined.{Entry, halves_at, place_of, link_of, links_of}
use Rattle.graph_store.proofs.Halves.{AreHalvesBut-same}
use Rattle.graph_store.proofs.Keeping.{one_each}
use Rattle.graph_store.proofs.LinkLemmas.{IsTold, is_told, link-gone, link-joint}
use Rattle.graph_store.proofs.Unlinking.{low_within, high_within, low_but, high_but, all_halves}
use Rattle.graph_store.proofs.links.Links.remove.Goals as goal

pub detach-requires-clause-place : goal.detach-requires-clause-place
detach-requires-clause-place c =
    let known : IsTold c.self.inside.joints.entries c.min.result (max c.args.a c.args.b) c.in-Some.joint = is_told c.self.inside.joints.entries c.args.a c.args.b c.min.result (max c.args.a c.args.b) c.in-Some.joint c.self.invariant.pairs.ordered c.min.ensures refl (sym c.in-Some.ensures.value) in
    low_within c.self.inside.joints.entries c.take_joint.new.joints.entries c.args.a c.args.b c.min.result (max c.args.a c.args.b) c.in-Some.joint c.min.ensures refl known c.in-Some.ensures.others (halves_at c.self.inside.lists.items) c.self.invariant.halves

pub detach-requires-clause-halves : goal.detach-requires-clause-halves
detach-requires-clause-halves c =
    let known : IsTold c.self.inside.joints.entries c.min.result (max c.args.a c.args.b) c.in-Some.joint = is_told c.self.inside.joints.entries c.args.a c.args.b c.min.result (max c.args.a c.args.b) c.in-Some.joint c.self.invariant.pairs.ordered c.min.ensures refl (sym c.in-Some.ensures.value) in
    low_but c.self.inside.joints.entries c.take_joint.new.joints.entries c.args.a c.args.b c.min.result (max c.args.a c.args.b) c.in-Some.joint c.min.ensures refl known c.in-Some.ensures.others (halves_at c.self.inside.lists.items) c.self.invariant.halves

pub detach-requires-in-Some-clause-place : goal.detach-requires-in-Some-clause-place
detach-requires-in-Some-clause-place c =
    let known : IsTold c.self.inside.joints.entries c.min.result c.max.result c.in-Some.joint = is_told c.self.inside.joints.entries c.args.a c.args.b c.min.result c.max.result c.in-Some.joint c.self.invariant.pairs.ordered c.min.ensures c.max.ensures (sym c.in-Some.ensures.value) in
    let apart : c.max.result ≡ c.min.result → ⊥ = λ e. (let before = known.ordered in omega arith) in
    rw (c.detach.ensures.other_halves c.max.result apart) (high_within c.self.inside.joints.entries c.take_joint.new.joints.entries c.args.a c.args.b c.min.result c.max.result c.in-Some.joint c.min.ensures c.max.ensures known c.in-Some.ensures.others (halves_at c.self.inside.lists.items) c.self.invariant.halves)

pub detach-requires-in-Some-clause-halves : goal.detach-requires-in-Some-clause-halves
detach-requires-in-Some-clause-halves c =
    let known : IsTold c.self.inside.joints.entries c.min.result c.max.result c.in-Some.joint = is_told c.self.inside.joints.entries c.args.a c.args.b c.min.result c.max.result c.in-Some.joint c.self.invariant.pairs.ordered c.min.ensures c.max.ensures (sym c.in-Some.ensures.value) in
    let apart : c.max.result ≡ c.min.result → ⊥ = λ e. (let before = known.ordered in omega arith) in
    AreHalvesBut-same c.in-Some.joint.high (halves_at c.self.inside.lists.items c.max.result) (halves_at c.detach.new.lists.items c.max.result) (place_of c.take_joint.new.joints.entries c.max.result) (place_of c.detach.new.joints.entries c.max.result) (c.detach.ensures.other_halves c.max.result apart) (λ w. c.detach.ensures.other_places c.max.result w apart) (high_but c.self.inside.joints.entries c.take_joint.new.joints.entries c.args.a c.args.b c.min.result c.max.result c.in-Some.joint c.min.ensures c.max.ensures known c.in-Some.ensures.others (halves_at c.self.inside.lists.items) c.self.invariant.halves)

pub invariant_of-self : goal.invariant_of-self
invariant_of-self c = record {
  long = (search rules);
  pairs = c.detach-in-Some.ensures.pairs;
  halves =
      let known : IsTold c.self.inside.joints.entries c.min.result c.max.result c.in-Some.joint = is_told c.self.inside.joints.entries c.args.a c.args.b c.min.result c.max.result c.in-Some.joint c.self.invariant.pairs.ordered c.min.ensures c.max.ensures (sym c.in-Some.ensures.value) in
      all_halves c.self.inside.joints.entries c.take_joint.new.joints.entries c.args.a c.args.b c.min.result c.max.result c.in-Some.joint c.min.ensures c.max.ensures known c.in-Some.ensures.others (halves_at c.self.inside.lists.items) c.self.invariant.halves c.detach.new.joints.entries c.detach-in-Some.new.joints.entries (halves_at c.detach.new.lists.items) (halves_at c.detach-in-Some.new.lists.items) c.detach.ensures.halves c.detach-in-Some.ensures.halves c.detach.ensures.other_halves c.detach-in-Some.ensures.other_halves c.detach.ensures.other_places c.detach-in-Some.ensures.other_places;
}

pub returns-in-Some-clause-out : goal.returns-in-Some-clause-out
returns-in-Some-clause-out c =
    let es = c.self.inside.joints.entries in
    let joint = c.in-Some.joint in
    let left = c.detach-in-Some.ensures.links ∙ c.detach.ensures.links in
    let some : link (links_of es) c.args.a c.args.b ≡ Some joint.cost = link-joint es c.args.a c.args.b c.self.invariant.pairs.ordered ∙ ap (option_map (λ (joint : Joint). joint.cost)) (sym c.in-Some.ensures.value) in
    let all : Entry = ((min c.args.a c.args.b, max c.args.a c.args.b), joint) in
    rw (← c.self.view_is) (record {
      count = refl;
      links = λ x y. ap (λ (ls : List Link). link ls x y) left ∙ link-gone es _ c.args.a c.args.b c.self.invariant.pairs.ordered c.in-Some.ensures.pairs.ordered c.in-Some.ensures.others x y;
      moved = rw some (subst (λ (ls : List Link). IsPermutation (links_of es) (link_of all ∷ ls)) (sym left) (IsPermutation-map link_of es (all ∷ c.take_joint.new.joints.entries) c.in-Some.ensures.moved));
      unchanged = λ none. absurd (let clash : ◌≡◌ {A = Option ℕ} None (Some joint.cost) = sym none ∙ some in let no : ⊥ = cc in no);
    })

pub returns-in-Some-clause-once : goal.returns-in-Some-clause-once
returns-in-Some-clause-once c = one_each c.detach-in-Some.new.joints.entries c.detach-in-Some.ensures.pairs

pub returns-in_default-clause-out : goal.returns-in_default-clause-out
returns-in_default-clause-out c =
    let es = c.self.inside.joints.entries in
    let same = rw c.in_default.is at c.take_joint.ensures.unchanged in
    let none : link (links_of es) c.args.a c.args.b ≡ None = link-joint es c.args.a c.args.b c.self.invariant.pairs.ordered ∙ ap (option_map (λ (joint : Joint). joint.cost)) (sym c.take_joint.ensures.value ∙ c.in_default.is) in
    rw (← c.self.view_is) (record {
      count = refl;
      links = link-gone es _ c.args.a c.args.b c.self.invariant.pairs.ordered c.take_joint.ensures.pairs.ordered c.take_joint.ensures.others;
      moved = rw none tt;
      unchanged = λ h. (λ j. record { n = c.self.inside.vertices; links = links_of (same j) });
    })

pub returns-in_default-clause-once : goal.returns-in_default-clause-once
returns-in_default-clause-once c = one_each c.take_joint.new.joints.entries c.take_joint.ensures.pairs
