-- What the lists of halves say of the links.
use Rattle.std.proofs.Common.{◌≡◌, ℕ, suc, ◌+◌, ◌<◌, ◌≤◌, Bool, true, false, List, [], ◌∷◌, length, get_or, map, slice_get, Option, Some, None, option_map, refl, sym, ap, ◌∙◌, arith, Contains}
use Rattle.std.proofs.lemmas.List.{get_or-map, length-map}
use Rattle.std.proofs.lemmas.Option.{slice_get-get_or, slice_get_within, get_or_from_slice_get}
use Rattle.std.specs.Prelude.{All, AllPairs, OnSome}
use Rattle.st_model.specs.Network.{Network, IsVertex, IsLinkBetween, link}
use Rattle.st_model.specs.Lists.{has}
use Rattle.st_model.specs.VertexSet.{AllApart}
use Rattle.st_model.proofs.Links.{linked_in_range}
use Rattle.st_model.proofs.Marked.{AllApart-few, place_of as place_in_list}
use Rattle.graph_store.specs.declared.half.Half.{Half}
use Rattle.graph_store.specs.Neighbours.{AreNeighbours}
use Rattle.graph_store.specs.Joined.{Entry, place_of, place_in, links_of, AreHalves, ArePairs}
use Rattle.graph_store.proofs.Halves.{same_parts}
use Rattle.graph_store.proofs.LinkLemmas.{link-place, joint_of-loop}

-- of a pair that is there, its second part
some_second : (o : Option (ℕ × ℕ)) (cost : ℕ) → option_map (λ p. p.1) o ≡ Some cost → (k : ℕ) × (o ≡ Some (k, cost))
some_second None cost h = absurd (let clash : ⊥ = cc in clash)
some_second (Some p) cost h = let second : p.1 ≡ cost = cc in (p.0, λ j. Some (p.0, second j))

-- what holds of the fact that something was found
on_some : {X : Type 0} (o : Option X) (x : X) (P : Type 0) → o ≡ Some x → OnSome o P → P
on_some None x P is h = absurd (let clash : ⊥ = cc in clash)
on_some (Some y) x P is h = h

pub are_neighbours : (I : Network) (es : List Entry) (v : ℕ) (halves : List Half) → I.links ≡ links_of es → ArePairs es → All (IsLinkBetween I.n) I.links → AreHalves halves (place_of es v) → AreNeighbours I v halves
are_neighbours I es v halves links pairs ends are = record { linked = λ w cost. (to w cost, back w cost); once = once; others = λ k d within. (others k d within) }
  where
    costs : (w : ℕ) → link I.links v w ≡ option_map (λ p. p.1) (place_of es v w)
    costs w = ap (λ ls. link ls v w) links ∙ link-place es v w pairs.ordered

    to : (w cost : ℕ) → Contains halves (record { to = w; cost = cost }) → link I.links v w ≡ Some cost
    to w cost h =
        let got : slice_get halves h.0 ≡ Some (record { to = w; cost = cost }) = slice_get-get_or halves h.0 (record { to = w; cost = cost }) h.1 ∙ ap Some h.2 in
        costs w ∙ ap (option_map (λ (p : ℕ × ℕ). p.1)) (are.placed h.0 (record { to = w; cost = cost }) got)

    back : (w cost : ℕ) → link I.links v w ≡ Some cost → Contains halves (record { to = w; cost = cost })
    back w cost h =
        let place = some_second (place_of es v w) cost (sym (costs w) ∙ h) in
        let got = are.found w place.0 cost place.1 in
        (place.0, slice_get_within halves place.0 _ got, get_or_from_slice_get halves place.0 _ _ got)

    known : (k : ℕ) (d : Half) → k < length halves → place_of es v (get_or halves k d).to ≡ Some (k, (get_or halves k d).cost)
    known k d within = are.placed k (get_or halves k d) (slice_get-get_or halves k d within)

    once : AllPairs (λ h k. h.to ≡ k.to → ⊥) halves
    once i j d before within same =
        let both : ◌≡◌ {A = Option (ℕ × ℕ)} (Some (i, (get_or halves i d).cost)) (Some (j, (get_or halves j d).cost)) = sym (known i d (omega arith)) ∙ ap (place_of es v) same ∙ known j d within in
        let places = (same_parts i (get_or halves i d).cost j (get_or halves j d).cost both).0 in
        omega arith

    others : (k : ℕ) (d : Half) → k < length halves → IsVertex I.n (get_or halves k d).to × ((get_or halves k d).to ≡ v → ⊥)
    others k d within =
        let is : link I.links v (get_or halves k d).to ≡ Some (get_or halves k d).cost = costs (get_or halves k d).to ∙ ap (option_map (λ (p : ℕ × ℕ). p.1)) (known k d within) in
        let range = on_some _ _ _ is (linked_in_range I.n I.links v (get_or halves k d).to ends) in
        (range.1, λ e. (let clash : ◌≡◌ {A = Option (ℕ × ℕ)} None (Some (k, (get_or halves k d).cost)) = sym (ap (option_map (place_in v v)) (joint_of-loop es v pairs.ordered)) ∙ ap (place_of es v) (sym e) ∙ known k d within in cc))

-- the other ends of halves
abbrev ends_of : List Half → List ℕ
ends_of halves = map (λ half. half.to) halves

-- halves to different vertices
apart_ends : (halves : List Half) → AllPairs (λ h k. h.to ≡ k.to → ⊥) halves → AllApart (ends_of halves)
apart_ends [] once = tt
apart_ends (h ∷ hs) once = (by_case (has (ends_of hs) h.to) refl, apart_ends hs (λ i j d before within. once (suc i) (suc j) d (omega arith) (omega arith)))
  where
    by_case : (b : Bool) → has (ends_of hs) h.to ≡ b → b ≡ false
    by_case false is = refl
    by_case true is =
        let at = place_in_list (ends_of hs) h.to is in
        let long = length-map hs (λ (half : Half). half.to) in
        let inside : at.0 < length hs = omega (arith, at.1) in
        let read = get_or-map (λ (half : Half). half.to) hs at.0 h 0 inside in
        absurd (once 0 (suc at.0) h (omega arith) (omega arith) (sym at.2 ∙ read))

-- no vertex has more neighbours than there are vertices, and one
pub few_neighbours : (I : Network) (v : ℕ) (halves : List Half) → AreNeighbours I v halves → length halves ≤ I.n + 1
few_neighbours I v halves are =
    let long = length-map halves (λ (half : Half). half.to) in
    let few = AllApart-few (ends_of halves) (I.n + 1) (apart_ends halves are.once) below in
    omega arith
  where
    below : All (λ w. w < I.n + 1) (ends_of halves)
    below k d within =
        let h : Half = record { to = 0; cost = 0 } in
        let inside : k < length halves = omega (arith, length-map halves (λ (half : Half). half.to)) in
        let read = get_or-map (λ (half : Half). half.to) halves k h d inside in
        let range = (are.others k h inside).0 in
        rw read (omega (arith, range.1))
