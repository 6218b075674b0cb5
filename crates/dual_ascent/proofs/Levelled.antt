-- Cuts by how far the vertices are.
use Rattle.std.proofs.Common.{◌≡◌, ℕ, ◌+◌, ◌-◌, ◌^◌, ◌<◌, ◌≤◌, Bool, true, false, ◌||◌, cond, Option, List, [], ◌∷◌, ◌++◌, length, get_or, take, Some, None, ◌⊎◌, inl, inr, refl, sym, ap, ◌∙◌, subst, arith}
use Rattle.std.specs.Prelude.{IsTrue, IsFalse, ◌==◌, ◌&&◌, not, IsPermutation, min, All}
use Rattle.std.specs.Option.{is_some}
use Rattle.std.specs.List.{list_any}
use Rattle.std.specs.List.Sorted.{IsStrictlyIncreasing}
use Rattle.std.proofs.Math.Bool.{or-false}
use Rattle.std.proofs.lemmas.Bool.{cases_lt, both_ways, eqb-true, false≢true}
use Rattle.std.proofs.lemmas.List.{get_or-map, get_or_past, get_or_default, get_or-take, length-map, length-take-le, length_push, map_more}
use Rattle.std.proofs.lemmas.List.Elements.{All-nil, All-push}
use Rattle.std.proofs.lemmas.List.Sorted.{All-permutation, list_any-IsPermutation}
use Rattle.st_model.specs.Lists.{has}
use Rattle.st_model.specs.Network.{IsVertex}
use Rattle.st_model.proofs.Marked.{has_at, has-push, place_of}
use Rattle.st_model.proofs.Sums.{total-append}
use Rattle.bidirected_form.specs.Digraph.{Digraph, IsDigraph, remaining}
use Rattle.cut_packing.specs.declared.cut.Cut.{Cut}
use Rattle.cut_packing.specs.declared.packing.Packing.{Packing}
use Rattle.cut_packing.specs.Packing.{load}
use Rattle.dual_ascent.specs.declared.levels.Near.{Near}
use Rattle.dual_ascent.specs.Left.{IsThere}
use Rattle.dual_ascent.specs.Levels.{WalksTo, ends, goes, IsCutFor, AreLevels}
use Rattle.dual_ascent.specs.Searching.{least_of, AreDistances, vertices_of, distances_of, IsNear, AreBelow, AreNear, AreUpTo}
use Rattle.dual_ascent.proofs.ChargedCuts.{load-append}
use Rattle.dual_ascent.proofs.Reaching.{arc_in_range}

-- a vertex of the list, by a test of its entries
has_vertex : (near : List Near) (v : ℕ) → has (vertices_of near) v ≡ list_any (λ m. m.vertex == v) near
has_vertex [] v = refl
has_vertex (m ∷ near) v = ap (λ b. (m.vertex == v) || b) (has_vertex near v)

-- in another order the vertices are the same
pub below_moved : (n limit : ℕ) (least : List ℕ) (k : ℕ) (old new : List Near) → IsPermutation old new → AreBelow n limit least k old → AreBelow n limit least k new
below_moved n limit least k old new moved h = record {
  each = All-permutation (IsNear n limit least) old new moved h.each;
  complete = λ v range low. has_vertex new v ∙ sym (list_any-IsPermutation (λ m. m.vertex == v) old new moved) ∙ sym (has_vertex old v) ∙ h.complete v range low;
}

none : Near
none = record { distance = 0; vertex = 0 }

-- one vertex more of the list
pub has_next : (near : List Near) (i : ℕ) (m : Near) (members now : List ℕ) → i < length near → get_or near i m ≡ m → now ≡ cond (has members m.vertex) members (members ++ m.vertex ∷ []) → ((v : ℕ) → has members v ≡ has (vertices_of (take i near)) v) → (v : ℕ) → has now v ≡ has (vertices_of (take (i + 1) near)) v
has_next near i m members now below is pushed same v =
    rw (pushed, map_more (λ (x : Near). x.vertex) near i m below, is, has-push (vertices_of (take i near)) m.vertex v, ← same v) (by_case (has members m.vertex) refl)
  where
    by_case : (b : Bool) → has members m.vertex ≡ b → has (cond b members (members ++ m.vertex ∷ [])) v ≡ (has members v || (m.vertex == v))
    by_case false new = has-push members m.vertex v
    by_case true old = known (m.vertex == v) refl
      where
        known : (b : Bool) → (m.vertex == v) ≡ b → has members v ≡ (has members v || b)
        known false other = sym (or-false (has members v))
        known true this = let held : has members v ≡ true = subst (λ (x : ℕ). has members x ≡ true) (eqb-true m.vertex v this) old in rw held refl

-- the distance at a place
abbrev pub level : List Near → ℕ → ℕ → ℕ
level near i limit = get_or (distances_of near) i limit

level_at : (near : List Near) (i limit : ℕ) (d : Near) → i < length near → level near i limit ≡ (get_or near i d).distance
level_at near i limit d below = get_or-map (λ (m : Near). m.distance) near i d limit below

pub distance_here : (near : List Near) (i limit : ℕ) (m : Near) → i < length near → m ≡ get_or near i m → m.distance ≡ level near i limit
distance_here near i limit m below is = ap (λ (x : Near). x.distance) is ∙ sym (level_at near i limit m below)

pub level_past : (near : List Near) (i limit : ℕ) → length near ≤ i → level near i limit ≡ limit
level_past near i limit past = get_or_past (distances_of near) i limit (omega (arith, past, length-map near (λ (m : Near). m.distance)))

module _ (n limit : ℕ) (least : List ℕ) (near : List Near) (h : AreNear n limit least near) where
  level_below : (i : ℕ) → i < length near → level near i limit < limit
  level_below i below = omega (arith, level_at near i limit none below, (h.below.each i none below).below)

  pub level_rises : (i : ℕ) → i < length near → level near i limit ≤ level near (i + 1) limit
  level_rises i below = elim (cases_lt (i + 1) (length near)) [
    | inl more ↦ omega (arith, level_at near i limit none below, level_at near (i + 1) limit none more, h.ascending i (i + 1) none (omega arith) more)
    | inr last ↦ omega (arith, level_past near (i + 1) limit last, level_below i below)
  ]

  level_most : (i : ℕ) → level near i limit ≤ limit
  level_most i = elim (cases_lt i (length near)) [
    | inl below ↦ omega (arith, level_below i below)
    | inr past ↦ omega (arith, level_past near i limit past)
  ]

  -- the place of a vertex
  place : (v : ℕ) → IsTrue (has (vertices_of near) v) → (k : ℕ) × (k < length near) × ((get_or near k none).vertex ≡ v)
  place v held =
      let p = place_of (vertices_of near) v held in
      let below : p.0 < length near = omega (arith, p.1, length-map near (λ (m : Near). m.vertex)) in
      (p.0, below, sym (get_or-map (λ (m : Near). m.vertex) near p.0 none 0 below) ∙ p.2)

  distance_is : (k v : ℕ) → k < length near → (get_or near k none).vertex ≡ v → (get_or near k none).distance ≡ least_of least v
  distance_is k v below is = (h.below.each k none below).distance ∙ ap (least_of least) is

  -- the first distance is none, where some vertex has no distance
  pub level_first : (q : ℕ) → IsVertex n q → least_of least q ≡ 0 → level near 0 limit ≡ 0
  level_first q range none_far = elim (cases_lt 0 limit) [
    | inr low ↦ omega (arith, low, level_most 0)
    | inl some ↦
        let p = place q (h.below.complete q range (omega (arith, some, none_far))) in
        omega (arith, level_at near 0 limit none (omega (arith, p.1)), h.ascending 0 p.0 none (omega arith) p.1, distance_is p.0 q p.1 p.2, none_far)
  ]

  -- the place of one of the first
  place_in : (i v : ℕ) → i < length near → IsTrue (has (vertices_of (take (i + 1) near)) v) → (k : ℕ) × (k < i + 1) × ((get_or near k none).vertex ≡ v)
  place_in i v below held =
      let front = take (i + 1) near in
      let p = place_of (vertices_of front) v held in
      let inside : p.0 < i + 1 = omega (arith, p.1, length-map front (λ (m : Near). m.vertex), length-take-le (i + 1) near (omega (arith, below))) in
      let long : p.0 < length front = omega (arith, inside, length-take-le (i + 1) near (omega (arith, below))) in
      (p.0, inside, ap (λ (m : Near). m.vertex) (sym (get_or-take (i + 1) near p.0 none inside)) ∙ sym (get_or-map (λ (m : Near). m.vertex) front p.0 none 0 long) ∙ p.2)

  -- what stands at one of the first places is among the first
  held_in : (i k v : ℕ) → i < length near → k < i + 1 → (get_or near k none).vertex ≡ v → IsTrue (has (vertices_of (take (i + 1) near)) v)
  held_in i k v below inside is =
      let front = take (i + 1) near in
      let long : k < length front = omega (arith, inside, length-take-le (i + 1) near (omega (arith, below))) in
      let at : get_or (vertices_of front) k 0 ≡ v = get_or-map (λ (m : Near). m.vertex) front k none 0 long ∙ ap (λ (m : Near). m.vertex) (get_or-take (i + 1) near k none inside) ∙ is in
      subst (λ (w : ℕ). IsTrue (has (vertices_of front) w)) at (has_at (vertices_of front) k 0 (omega (arith, long, length-map front (λ (m : Near). m.vertex))))

  -- the first are in range and no farther than the last of them
  pub first_near : (i v : ℕ) → i < length near → IsTrue (has (vertices_of (take (i + 1) near)) v) → IsVertex n v × (least_of least v ≤ level near i limit)
  first_near i v below held =
      let p = place_in i v below held in
      let inside : p.0 < length near = omega (arith, p.1, below) in
      (subst (IsVertex n) p.2 (h.below.each p.0 none inside).vertex, omega (arith, level_at near i limit none below, h.ascending p.0 i none (omega (arith, p.1)) below, distance_is p.0 v inside p.2))

  -- so a set of just these is in range
  pub first_in_range : (i : ℕ) (members : List ℕ) → i < length near → ((v : ℕ) → has members v ≡ has (vertices_of (take (i + 1) near)) v) → All (IsVertex n) members
  first_in_range i members below same = λ k d within. (first_near i (get_or members k d) below (sym (same (get_or members k d)) ∙ has_at members k d within)).0

  -- and all others are as far as the next one
  pub others_far : (i v : ℕ) → i < length near → IsVertex n v → IsFalse (has (vertices_of (take (i + 1) near)) v) → level near (i + 1) limit ≤ least_of least v
  others_far i v below range out = elim (cases_lt (least_of least v) (level near (i + 1) limit)) [
    | inr far ↦ far
    | inl less ↦ absurd (clash less (place v (h.below.complete v range (omega (arith, less, level_most (i + 1))))))
  ]
    where
      clash : least_of least v < level near (i + 1) limit → (k : ℕ) × (k < length near) × ((get_or near k none).vertex ≡ v) → ⊥
      clash less p = elim (cases_lt p.0 (i + 1)) [
        | inl early ↦ both_ways (has (vertices_of (take (i + 1) near)) v) out (held_in i p.0 v below early p.2)
        | inr late ↦ omega (arith, less, level_at near (i + 1) limit none (omega (arith, late, p.1)), h.ascending (i + 1) p.0 none late p.1, distance_is p.0 v p.1 p.2)
      ]

-- whence a walk leads isn't outside
walk_there : (D : Digraph) (q v cost : ℕ) → IsDigraph D → IsThere D q → WalksTo D q v cost → IsThere D v
walk_there D q v cost h there ends = there
walk_there D q v cost h there (goes {u = u} {v = w} {r = r} is rest) = λ out. let both = sym (ap is_some is) ∙ h.both u w ∙ ap is_some (h.outside w u out) in false≢true (sym both)

-- the ends of an arc are in range
arc_ends : (D : Digraph) (u v r : ℕ) → IsDigraph D → remaining D u v ≡ Some r → IsVertex D.n u × IsVertex D.n v
arc_ends D u v r h is = (arc_in_range D h u v r is, back (remaining D v u) refl)
  where
    back : (o : Option ℕ) → remaining D v u ≡ o → IsVertex D.n v
    back None none_back = absurd (false≢true (sym (ap is_some none_back) ∙ sym (h.both u v) ∙ ap is_some is))
    back (Some s) is_back = arc_in_range D h v u s is_back

-- one more cut, from a level up to the next
module _ (D : Digraph) (q level next : ℕ) (least : List ℕ) (cuts : List Cut) (c : Cut) (h : AreUpTo D q level least cuts) (for_q : IsCutFor D q c) (all_there : All (IsThere D) c.set) (up : level < next) (y : c.y ≡ next - level) (near : (v : ℕ) → IsVertex D.n v → IsTrue (has c.set v) → least_of least v ≤ level) (far : (v : ℕ) → IsVertex D.n v → IsFalse (has c.set v) → next ≤ least_of least v) where
  loads_next : (u v : ℕ) → IsVertex D.n u → IsVertex D.n v → load (cuts ++ c ∷ []) (u, v) ≡ min (least_of least u) next - min (least_of least v) next
  loads_next u v at_u at_v = by_case (has c.set v) (has c.set u) refl refl (load-append cuts (c ∷ []) (u, v))
    where
      by_case : (a b : Bool) → has c.set v ≡ a → has c.set u ≡ b → load (cuts ++ c ∷ []) (u, v) ≡ load cuts (u, v) + (cond (a && not b) c.y 0 + 0) → load (cuts ++ c ∷ []) (u, v) ≡ min (least_of least u) next - min (least_of least v) next
      by_case true true e f sum = omega (arith, sum, h.loads u v at_u at_v, near v at_v e, near u at_u f, up)
      by_case true false e f sum = omega (arith, sum, h.loads u v at_u at_v, near v at_v e, far u at_u f, up, y)
      by_case false true e f sum = omega (arith, sum, h.loads u v at_u at_v, far v at_v e, near u at_u f, up)
      by_case false false e f sum = omega (arith, sum, h.loads u v at_u at_v, far v at_v e, far u at_u f, up)

  pub up_more : AreUpTo D q next least (cuts ++ c ∷ [])
  up_more = record {
    each = All-push (IsCutFor D q) cuts c h.each for_q;
    present = All-push (λ (d : Cut). All (IsThere D) d.set) cuts c h.present all_there;
    worth = omega (arith, total-append (λ (d : Cut). d.y) cuts (c ∷ []), h.worth, up, y);
    few = omega (arith, length_push cuts c, h.few, up);
    loads = loads_next;
  }

-- no cuts
pub up_none : (D : Digraph) (q level : ℕ) (least : List ℕ) → level ≡ 0 → AreUpTo D q level least []
up_none D q level least is = record {
  each = All-nil (IsCutFor D q);
  present = All-nil (λ (d : Cut). All (IsThere D) d.set);
  worth = sym is;
  few = omega arith;
  loads = λ u v at_u at_v. omega (arith, is);
}

module _ (D : Digraph) (q target : ℕ) (least : List ℕ) (graph : IsDigraph D) (range : IsVertex D.n q) (there : IsThere D q) (far : AreDistances D q target least) (limit : ℕ) (limit_is : limit ≡ least_of least D.root) where
  -- a cut round the first vertices
  pub cut_for : (near : List Near) (i : ℕ) (c : Cut) → AreNear D.n limit least near → i < length near → level near i limit < level near (i + 1) limit → c.q ≡ q → IsStrictlyIncreasing c.set → ((v : ℕ) → has c.set v ≡ has (vertices_of (take (i + 1) near)) v) → IsCutFor D q c
  cut_for near i c h below up named ascending same = record {
    named = named;
    set = record { ascending = ascending; in_range = first_in_range D.n limit least near h i c.set below same };
    held = by_case q range (has c.set q) refl (λ out. omega (arith, far.end, up, others q range out));
    apart = out_of (has c.set D.root) refl;
  }
    where
      first : (v : ℕ) → IsTrue (has c.set v) → IsVertex D.n v × (least_of least v ≤ level near i limit)
      first v held = first_near D.n limit least near h i v below (sym (same v) ∙ held)

      others : (v : ℕ) → IsVertex D.n v → IsFalse (has c.set v) → level near (i + 1) limit ≤ least_of least v
      others v at out = others_far D.n limit least near h i v below at (sym (same v) ∙ out)

      by_case : (v : ℕ) → IsVertex D.n v → (b : Bool) → has c.set v ≡ b → (IsFalse (has c.set v) → ⊥) → IsTrue (has c.set v)
      by_case v at true e never = e
      by_case v at false e never = absurd (never e)

      out_of : (b : Bool) → has c.set D.root ≡ b → IsFalse (has c.set D.root)
      out_of false e = e
      out_of true e = absurd (omega (arith, (first D.root e).1, level_below D.n limit least near h i below, limit_is))

  -- which holds nobody outside
  cut_there : (near : List Near) (i : ℕ) (c : Cut) → AreNear D.n limit least near → i < length near → ((v : ℕ) → has c.set v ≡ has (vertices_of (take (i + 1) near)) v) → All (IsThere D) c.set
  cut_there near i c h below same = λ k d within. at_vertex (get_or c.set k d) (first_near D.n limit least near h i (get_or c.set k d) below (sym (same (get_or c.set k d)) ∙ has_at c.set k d within))
    where
      at_vertex : (v : ℕ) → IsVertex D.n v × (least_of least v ≤ level near i limit) → IsThere D v
      at_vertex v at = elim (far.walks v at.0) [
        | inl none_near ↦ absurd (omega (arith, none_near, at.1, level_below D.n limit least near h i below, far.within D.root, limit_is))
        | inr walk ↦ walk_there D q v _ graph there walk
      ]

  pub up_step : (near : List Near) (i : ℕ) (cuts : List Cut) (c : Cut) → AreNear D.n limit least near → i < length near → level near i limit < level near (i + 1) limit → AreUpTo D q (level near i limit) least cuts → c.q ≡ q → IsStrictlyIncreasing c.set → ((v : ℕ) → has c.set v ≡ has (vertices_of (take (i + 1) near)) v) → c.y ≡ level near (i + 1) limit - level near i limit → AreUpTo D q (level near (i + 1) limit) least (cuts ++ c ∷ [])
  up_step near i cuts c h below up so_far named ascending same y =
      up_more D q (level near i limit) (level near (i + 1) limit) least cuts c so_far (cut_for near i c h below up named ascending same) (cut_there near i c h below same) up y (λ v at held. (first_near D.n limit least near h i v below (sym (same v) ∙ held)).1) (λ v at out. others_far D.n limit least near h i v below at (sym (same v) ∙ out))

  -- no walk costs less
  walk_bound : (u cost : ℕ) → WalksTo D q u cost → min (least_of least u) (least_of least D.root) ≤ cost
  walk_bound u cost ends = omega (arith, far.end)
  walk_bound u cost (goes {u = t} {v = w} {r = r} {cost = rest_cost} is rest) = omega (arith, walk_bound w rest_cost rest, far.arcs w (arc_ends D t w r graph is).1 t r is)

  pub levels_made : (cuts : List Cut) (P : Packing) → target < 2 ^ 64 → P ≡ record { root = Some D.root; cuts = cuts } → AreUpTo D q limit least cuts → AreLevels D q target P
  levels_made cuts P small is h = rw is (record {
    cuts = record {
      root = refl;
      cuts = h.each;
      arcs = λ u v r remains. let at = arc_ends D u v r graph remains in omega (arith, h.loads u v at.0 at.1, far.arcs v at.1 u r remains, limit_is);
    };
    present = h.present;
    few = omega (arith, h.few, far.within D.root, small, limit_is);
    worth = record {
      bound = omega (arith, h.worth, far.within D.root, limit_is);
      below = λ cost walk. omega (arith, h.worth, walk_bound D.root cost walk, limit_is);
      attained = subst (λ (x : ℕ). (x ≡ target) ⊎ WalksTo D q D.root x) (sym (h.worth ∙ limit_is)) (far.walks D.root graph.root);
    };
  })

-- what is read at a place
pub read_at : (xs : List ℕ) (i j x : ℕ) → x ≡ get_or xs i x → i ≡ j → j < length xs → x ≡ get_or xs j 0
read_at xs i j x is same below = is ∙ ap (λ (k : ℕ). get_or xs k x) same ∙ get_or_default xs j x 0 below
