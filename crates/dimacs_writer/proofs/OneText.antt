-- A tree has one text.
use Rattle.std.proofs.Common.{◌≡◌, ℕ, Bool, zero, suc, List, [], ◌∷◌, ◌⊎◌, inl, inr, refl, sym, ap, ◌∙◌, arith}
use Rattle.std.specs.Prelude.{Contains}
use Rattle.std.specs.declared.cmp.Ordering.{Ordering}
use Rattle.std.specs.declared.cmp.Ordering.TheVariants.{Less, Greater}
use Rattle.std.specs.Ordering.{nat_cmp, ordering_reverse}
use Rattle.std.specs.Cmp.{IsTotalOrder, then_total, on_total}
use Rattle.std.specs.List.Sorted.{IsStrictlySortedBy}
use Rattle.std.proofs.lemmas.Cmp.{nat_cmp_total}
use Rattle.std.proofs.lemmas.List.Elements.{All-contains, All-from_recursion}
use Rattle.std.proofs.lemmas.Map.Keys.{sorted_head, sorted_tail, sorted_from_strictly_increasing}
use Rattle.st_model.specs.declared.tree.Tree.{Tree}
use Rattle.st_model.specs.Lists.{has}
use Rattle.dimacs_writer.specs.Laws.{HaveSameSets, TreeHasOneText}
use Rattle.dimacs_writer.specs.Solution.{AreEdgesIn, AreVertices, edge_order, solution_text_of}
use Rattle.st_model.proofs.Members.{Contains-from_has, has-from_Contains}

split : {K : Type 0} (y : K) (ys : List K) (z : K) → Contains (y ∷ ys) z → (y ≡ z) ⊎ Contains ys z
split y ys z (zero, within, at) = inl at
split y ys z (suc k, within, at) = inr (k, omega arith, at)

first : {K : Type 0} (x : K) (xs : List K) → Contains (x ∷ xs) x
first x xs = (zero, omega arith, refl)

later : {K : Type 0} (x : K) (xs : List K) (z : K) → Contains xs z → Contains (x ∷ xs) z
later x xs z there = (suc there.0, omega (arith, there.1), there.2)

-- what stands after the first is above it
above : {K : Type 0} (R : K → K → Ordering) (x : K) (xs : List K) (z : K) → IsStrictlySortedBy R (x ∷ xs) → Contains xs z → R x z ≡ Less
above R x xs z up there = All-contains (λ y. R x y ≡ Less) xs z (All-from_recursion (λ y. R x y ≡ Less) xs (sorted_head R x xs up)) there

not_both : {K : Type 0} (R : K → K → Ordering) (o : IsTotalOrder R) (x y : K) → R x y ≡ Less → R y x ≡ Less → ⊥
not_both R o x y p q = let turned : R x y ≡ Greater = o.antisymm x y ∙ ap ordering_reverse q in cc

-- ascending lists with the same elements are the same
sorted_same : {K : Type 0} (R : K → K → Ordering) (o : IsTotalOrder R) (xs ys : List K) → IsStrictlySortedBy R xs → IsStrictlySortedBy R ys → ((z : K) → Contains xs z → Contains ys z) → ((z : K) → Contains ys z → Contains xs z) → xs ≡ ys
sorted_same R o [] [] up vp to from = refl
sorted_same R o [] (y ∷ ys) up vp to from = absurd (omega (arith, (from y (first y ys)).1))
sorted_same R o (x ∷ xs) [] up vp to from = absurd (omega (arith, (to x (first x xs)).1))
sorted_same {K} R o (x ∷ xs) (y ∷ ys) up vp to from =
    let rest = sorted_same R o xs ys (sorted_tail R x xs up) (sorted_tail R y ys vp) (λ z there. after x y xs ys z up heads there (to z (later x xs z there))) (λ z there. after y x ys xs z vp (sym heads) there (from z (later y ys z there))) in
    cc (heads, rest)
  where
    heads : x ≡ y
    heads = elim (split y ys x (to x (first x xs))) [
      | inl same ↦ sym same
      | inr above_y ↦ elim (split x xs y (from y (first y ys))) [
        | inl same ↦ same
        | inr above_x ↦ absurd (not_both R o x y (above R x xs y up above_x) (above R y ys x vp above_y))
      ]
    ]

    after : (a b : K) (more others : List K) (z : K) → IsStrictlySortedBy R (a ∷ more) → a ≡ b → Contains more z → Contains (b ∷ others) z → Contains others z
    after a b more others z up same there found = elim (split b others z found) [
      | inl is ↦ let up_z = above R a more z up there in
          let self : a ≡ z = same ∙ is in
          let less : R z z ≡ Less = ap (λ (k : K). R k z) (sym self) ∙ up_z in
          absurd (not_both R o z z less less)
      | inr it ↦ it
    ]

edges_total : IsTotalOrder edge_order
edges_total = then_total (on_total (λ edge. edge.0) nat_cmp_total) (on_total (λ edge. edge.1) nat_cmp_total)

same_vertices : (directed : Bool) (s t : Tree) (vs ws : List ℕ) → HaveSameSets directed s t → AreVertices s vs → AreVertices t ws → vs ≡ ws
same_vertices directed s t vs ws same v w = sorted_same nat_cmp nat_cmp_total vs ws (sorted_from_strictly_increasing vs v.ascending) (sorted_from_strictly_increasing ws w.ascending)
    (λ z there. Contains-from_has ws z (sym (both z) ∙ has-from_Contains vs z there))
    (λ z there. Contains-from_has vs z (both z ∙ has-from_Contains ws z there))
  where
    both : (z : ℕ) → has vs z ≡ has ws z
    both z = v.same z ∙ same.vertices z ∙ sym (w.same z)

same_edges : (directed : Bool) (s t : Tree) (ds fs : List (ℕ × ℕ)) → HaveSameSets directed s t → AreEdgesIn directed s ds → AreEdgesIn directed t fs → ds ≡ fs
same_edges directed s t ds fs same d f = sorted_same edge_order edges_total ds fs d.ascending f.ascending
    (λ z there. (f.same z).1 ((same.edges z).0 ((d.same z).0 there)))
    (λ z there. (d.same z).1 ((same.edges z).1 ((f.same z).0 there)))

pub one_text : TreeHasOneText
one_text directed name workers s t dual primal scale bytes others same a b =
    let vertices = same_vertices directed s t a.vertices b.vertices same a.vertices_of_tree b.vertices_of_tree in
    let edges = same_edges directed s t a.edges b.edges same a.edges_of_tree b.edges_of_tree in
    a.text ∙ ap (λ (vs : List ℕ). solution_text_of name workers vs a.edges dual primal scale) vertices ∙ ap (λ (es : List (ℕ × ℕ)). solution_text_of name workers b.vertices es dual primal scale) edges ∙ sym b.text
