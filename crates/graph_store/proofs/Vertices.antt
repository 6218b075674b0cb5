-- A vertex without links that is taken out.
use Rattle.std.proofs.Common.{◌≡◌, ℕ, ◌-◌, ◌<◌, ◌≤◌, Bool, true, false, cond, ◌||◌, eqb, zero, suc, List, [], ◌∷◌, length, get_or, set, slice_get, Option, Some, None, IsSome, is_some, refl, sym, ap, subst, ◌∙◌, arith}
use Rattle.std.proofs.lemmas.Bool.Decides.{nat_tests}
use Rattle.std.proofs.lemmas.List.{length-set, get_or-set_other}
use Rattle.std.proofs.lemmas.Option.{slice_get-get_or, slice_get_within, get_or_from_slice_get}
use Rattle.st_model.specs.declared.link.Link.{Link}
use Rattle.st_model.specs.declared.need.Need.{Need}
use Rattle.st_model.specs.Network.{Network, IsVertex, joins, link}
use Rattle.st_model.proofs.Distinct.{link-comm}
use Rattle.graph_store.specs.declared.half.Half.{Half}
use Rattle.graph_store.specs.Graph.{IsGraph, is_in}
use Rattle.graph_store.specs.Neighbours.{AreNeighbours}
use Rattle.graph_store.specs.Joined.{Linked, graph_of}

-- a half is of a linked vertex in range
pub half_linked : (I : Network) (v : ℕ) (halves : List Half) (k : ℕ) (h : Half) → AreNeighbours I v halves → slice_get halves k ≡ Some h → IsSome (link I.links v h.to) × IsVertex I.n h.to
half_linked I v halves k h are at =
    let within = slice_get_within halves k h at in
    let read = get_or_from_slice_get halves k h h at in
    let linked = (are.linked h.to h.cost).0 (k, within, read) in
    (ap is_some linked, subst (λ (x : Half). IsVertex I.n x.to) read (are.others k h within).0)

-- where there is no last half, there is no link
pub no_half : (I : Network) (v : ℕ) (halves : List Half) → AreNeighbours I v halves → slice_get halves (length halves - 1) ≡ None → (w : ℕ) → link I.links v w ≡ None
no_half I v halves are last w = by_case (link I.links v w) refl
  where
    by_case : (o : Option ℕ) → link I.links v w ≡ o → o ≡ None
    by_case None is = refl
    by_case (Some cost) is =
        let there = (are.linked w cost).1 is in
        let d : Half = record { to = 0; cost = 0 } in
        let some : slice_get halves (length halves - 1) ≡ Some (get_or halves (length halves - 1) d) = slice_get-get_or halves (length halves - 1) d (let within = there.1 in omega arith) in
        let clash : ◌≡◌ {A = Option Half} None (Some (get_or halves (length halves - 1) d)) = sym last ∙ some in
        absurd (let no : ⊥ = cc in no)

-- there is a link between the ends of each link
link_self : (ls : List Link) (k : ℕ) (d : Link) → k < length ls → IsSome (link ls (get_or ls k d).a (get_or ls k d).b)
link_self [] k d h = absurd (omega arith)
link_self (l ∷ ls) zero d h = let yes : joins l l.a l.b ≡ true = grind (arith, nat_tests) in rw yes refl
link_self (l ∷ ls) (suc k) d h = by_case (joins l (get_or ls k d).a (get_or ls k d).b) (link_self ls k d (omega arith))
  where
    by_case : (b : Bool) → IsSome (link ls (get_or ls k d).a (get_or ls k d).b) → IsSome (cond b (Some l.cost) (link ls (get_or ls k d).a (get_or ls k d).b))
    by_case true h = refl
    by_case false h = h

-- the graph without a vertex that has no links
pub vertex_out : (x : Linked) (needs : List Need) (present : List Bool) (v : ℕ) → 1 ≤ v → ((w : ℕ) → link x.links v w ≡ None) → IsGraph (graph_of x needs present) → IsGraph (graph_of x needs (set present (v - 1) false))
vertex_out x needs present v some alone graph = record {
  instance = graph.instance;
  here = length-set present (v - 1) false ∙ graph.here;
  ends = λ k d within.
      let l : Link = get_or x.links k d in
      let linked : IsSome (link x.links l.a l.b) = link_self x.links k d within in
      let not_a : l.a ≡ v → ⊥ = λ e. not_none (link x.links l.a l.b) linked (ap (λ z. link x.links z l.b) e ∙ alone l.b) in
      let not_b : l.b ≡ v → ⊥ = λ e. not_none (link x.links l.a l.b) linked (link-comm x.links l.a l.b ∙ ap (λ z. link x.links z l.a) e ∙ alone l.a) in
      (still l.a not_a (graph.ends k d within).0, still l.b not_b (graph.ends k d within).1);
}
  where
    not_none : (o : Option ℕ) → IsSome o → o ≡ None → ⊥
    not_none None h e = cc
    not_none (Some x) h e = cc

    still : (w : ℕ) → (w ≡ v → ⊥) → is_in (graph_of x needs present) w ≡ true → is_in (graph_of x needs (set present (v - 1) false)) w ≡ true
    still w other h = by_case (eqb w 0) refl h
      where
        by_case : (b : Bool) → eqb w 0 ≡ b → cond b false (get_or present (w - 1) false) ≡ true → cond b false (get_or (set present (v - 1) false) (w - 1) false) ≡ true
        by_case true is h = h
        by_case false is h = get_or-set_other present (v - 1) (w - 1) false false (λ e. (let positive : 1 ≤ w = grind (arith, nat_tests) in omega arith)) ∙ h

-- the links once all those of a vertex are gone
pub links_without : (old new : List Link) (v : ℕ) → ((w : ℕ) → link new v w ≡ None) → ((u w : ℕ) → (u ≡ v → ⊥) → (w ≡ v → ⊥) → link new u w ≡ link old u w) → (u w : ℕ) → link new u w ≡ cond (eqb u v || eqb w v) None (link old u w)
links_without old new v alone others u w = by_case (eqb u v) (eqb w v) refl refl
  where
    by_case : (s t : Bool) → eqb u v ≡ s → eqb w v ≡ t → link new u w ≡ cond (s || t) None (link old u w)
    by_case true t is other = let e : u ≡ v = grind (arith, nat_tests) in ap (λ x. link new x w) e ∙ alone w
    by_case false true other is = let e : w ≡ v = grind (arith, nat_tests) in link-comm new u w ∙ ap (λ x. link new x u) e ∙ alone u
    by_case false false not_u not_w = others u w (λ e. grind (arith, nat_tests)) (λ e. grind (arith, nat_tests))
