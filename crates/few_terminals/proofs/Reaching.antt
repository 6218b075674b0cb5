-- All that links lead to from a vertex, and trees that can't leave it.
use Rattle.std.proofs.Common.{◌≡◌, ℕ, ◌+◌, ◌<◌, ◌≤◌, Bool, true, false, List, [], ◌∷◌, ◌++◌, length, get_or, Option, Some, None, IsSome, ◌⊎◌, inl, inr, refl, sym, ap, subst, ◌∙◌, append-nil, append_assoc, arith}
use Rattle.std.specs.Prelude.{◌==◌, IsTrue, IsFalse, IfSome, IfNone, is_some, All, slice_get, if◌then◌else◌}
use Rattle.std.specs.List.Sorted.{IsStrictlyIncreasing}
use Rattle.std.proofs.lemmas.Bool.{cases_lt, eq-eqb, false≢true, or_left, or_right}
use Rattle.std.proofs.lemmas.List.Elements.{All-append, All-contains, All-cons, All-nil, All-push, All-weaker, recursion_from_All}
use Rattle.std.proofs.lemmas.List.Folds.{list_any-append}
use Rattle.std.proofs.lemmas.Option.{slice_get_within, get_or_from_slice_get}
use Rattle.std.proofs.Math.ListN.{get_or-append}
use Rattle.st_model.specs.declared.tree.Tree.{Tree}
use Rattle.st_model.specs.Arborescence.{IsTree}
use Rattle.st_model.specs.Lists.{has}
use Rattle.st_model.specs.Network.{Network, IsVertex, link}
use Rattle.st_model.proofs.Booleans.{same_test}
use Rattle.st_model.proofs.Distinct.{link-comm, has-cons_head}
use Rattle.st_model.proofs.Marked.{at_member, has_at, has-push, place_of, AllApart-from_increasing}
use Rattle.st_model.proofs.Members.{has-one}
use Rattle.st_model.proofs.Reaching.{one_side}
use Rattle.st_model.proofs.Walked.{slice_get-None}
use Rattle.graph_store.specs.declared.half.Half.{Half}
use Rattle.graph_store.specs.Neighbours.{AreNeighbours}
use Rattle.few_terminals.specs.declared.choice.Terminals.{Terminals}
use Rattle.few_terminals.specs.Reach.{HasFollowed, IsReaching, AreReached, IsReach}
use Rattle.few_terminals.specs.Terminals.{AreTerminals}

-- ---- the links of one vertex

pub followed_none : (I : Network) (old : List ℕ) → HasFollowed I old [] old
followed_none I old = record {
  more = [];
  appended = sym (append-nil old);
  vertices = All-nil (IsVertex I.n);
  heads = All-nil (λ (half : Half). IsTrue (has old half.to));
}

-- one half more
pub followed_more : (I : Network) (old now new : List ℕ) (halves : List Half) (half : Half) → IsVertex I.n half.to → new ≡ (if has now half.to then now else now ++ half.to ∷ []) → HasFollowed I old halves now → HasFollowed I old (halves ++ half ∷ []) new
followed_more I old now new halves half range is before = by_case (has now half.to) refl is
  where
    by_case : (b : Bool) → has now half.to ≡ b → new ≡ (if b then now else now ++ half.to ∷ []) → HasFollowed I old (halves ++ half ∷ []) new
    by_case true there same =
        subst (HasFollowed I old (halves ++ half ∷ [])) (sym same) (record {
          more = before.more;
          appended = before.appended;
          vertices = before.vertices;
          heads = All-push (λ (h : Half). IsTrue (has now h.to)) halves half before.heads there;
        })
    by_case false out longer =
        subst (HasFollowed I old (halves ++ half ∷ [])) (sym longer) (record {
          more = before.more ++ half.to ∷ [];
          appended = ap (λ (xs : List ℕ). xs ++ half.to ∷ []) before.appended ∙ append_assoc old before.more (half.to ∷ []);
          vertices = All-push (IsVertex I.n) before.more half.to before.vertices range;
          heads = All-push (λ (h : Half). IsTrue (has (now ++ half.to ∷ []) h.to)) halves half (All-weaker (λ (h : Half). IsTrue (has now h.to)) (λ (h : Half). IsTrue (has (now ++ half.to ∷ []) h.to)) (λ h was. has-push now half.to h.to ∙ or_left (has now h.to) (half.to == h.to) was) halves before.heads) (has-push now half.to half.to ∙ or_right (has now half.to) (half.to == half.to) (eq-eqb half.to half.to refl));
        })

-- ---- the vertices, each in turn

pub reaching_start : (I : Network) (root : ℕ) → IsVertex I.n root → IsReaching I root (root ∷ []) 0
reaching_start I root range = record {
  root_is = has-cons_head [] root root refl;
  vertices = All-cons (IsVertex I.n) root [] range (All-nil (IsVertex I.n));
  followed = λ k low. absurd (omega (arith, low));
}

-- what is reached is a vertex
pub reached_vertex : (I : Network) (members : List ℕ) (next tail : ℕ) → All (IsVertex I.n) members → slice_get members next ≡ Some tail → IsVertex I.n tail
reached_vertex I members next tail vertices at = subst (IsVertex I.n) (get_or_from_slice_get members next tail 0 at) (vertices next 0 (slice_get_within members next tail at))

-- the links of one more have been followed
pub reaching_more : (I : Network) (root next tail : ℕ) (old new : List ℕ) (halves : List Half) → slice_get old next ≡ Some tail → AreNeighbours I tail halves → HasFollowed I old halves new → IsReaching I root old next → IsReaching I root new (next + 1)
reaching_more I root next tail old new halves at are on before = record {
  root_is = kept root before.root_is;
  vertices = subst (All (IsVertex I.n)) (sym on.appended) (All-append (IsVertex I.n) old on.more before.vertices on.vertices);
  followed = λ k low within v some. asked k v (cases_lt k next) low some;
}
  where
    below : next < length old
    below = slice_get_within old next tail at

    kept : (v : ℕ) → IsTrue (has old v) → IsTrue (has new v)
    kept v there = rw (on.appended, list_any-append (λ x. x == v) old on.more) (or_left (has old v) (has on.more v) there)

    front : (k : ℕ) → k < length old → get_or new k 0 ≡ get_or old k 0
    front k low = rw on.appended (get_or-append old on.more 0 k low)

    linked : (v : ℕ) (o : Option ℕ) → link I.links tail v ≡ o → IsSome o → IsTrue (has new v)
    linked v None is some = absurd (false≢true some)
    linked v (Some cost) is some = All-contains (λ (h : Half). IsTrue (has new h.to)) halves (record { to = v; cost = cost }) on.heads ((are.linked v cost).1 is)

    asked : (k v : ℕ) → (k < next) ⊎ (next ≤ k) → k < next + 1 → IsSome (link I.links (get_or new k 0) v) → IsTrue (has new v)
    asked k v (inl earlier) low some =
        let within : k < length old = omega (arith, earlier, below) in
        kept v (before.followed k earlier within v (subst (λ (x : ℕ). IsSome (link I.links x v)) (front k within) some))
    asked k v (inr later) low some =
        let here : k ≡ next = omega (arith, later, low) in
        let is : get_or new k 0 ≡ tail = ap (λ (x : ℕ). get_or new x 0) here ∙ (front next below ∙ get_or_from_slice_get old next tail 0 at) in
        linked v (link I.links tail v) refl (subst (λ (x : ℕ). IsSome (link I.links x v)) is some)

-- where there is no next one, all have been
pub reaching_end : (I : Network) (root next : ℕ) (members : List ℕ) → slice_get members next ≡ None → IsReaching I root members next → AreReached I root members
reaching_end I root next members none h = record {
  root_is = h.root_is;
  vertices = h.vertices;
  closed = λ u v there some. closed u v some (place_of members u there);
}
  where
    past : length members ≤ next
    past = slice_get-None members next none

    closed : (u v : ℕ) → IsSome (link I.links u v) → (k : ℕ) × (k < length members) × (get_or members k 0 ≡ u) → IsTrue (has members v)
    closed u v some place =
        let low = place.1 in
        h.followed place.0 (omega (arith, low, past)) place.1 v (subst (λ (x : ℕ). IsSome (link I.links x v)) (sym place.2) some)

-- ---- the table's vertices

-- the same vertices, ascending, where all terminals are among them
pub reach_of : (I : Network) (ks : List ℕ) (root : ℕ) (members vs : List ℕ) → AreReached I root members → ((k : ℕ) → IsTrue (has ks k) → IsTrue (has members k)) → ((v : ℕ) → has vs v ≡ has members v) → IsStrictlyIncreasing vs → IsReach I ks vs
reach_of I ks root members vs are known same rise = record {
  apart = AllApart-from_increasing vs rise;
  vertices = λ k d within. at_member (IsVertex I.n) members (get_or vs k d) (recursion_from_All (IsVertex I.n) members are.vertices) (sym (same (get_or vs k d)) ∙ has_at vs k d within);
  known = λ k there. same k ∙ known k there;
  closed = λ u v there some. same v ∙ are.closed u v (sym (same u) ∙ there) some;
}

-- the root is one of them
pub root_listed : (I : Network) (root : ℕ) (members vs all : List ℕ) → AreReached I root members → ((v : ℕ) → has vs v ≡ has members v) → all ≡ vs → IsTrue (has all root)
root_listed I root members vs all are same is = subst (λ (xs : List ℕ). IsTrue (has xs root)) (sym is) (same root ∙ are.root_is)

-- no tree reaches a terminal that links don't lead to from the root
pub no_tree_out : (I : Network) (t : Terminals) (members : List ℕ) (found : Option ℕ) → AreTerminals I t → AreReached I t.root members → IsTrue (is_some found) → IfSome found (λ k. IsTrue (has t.others.items k) × IsFalse (has members k)) → (s : Tree) → IsTree I s → ⊥
no_tree_out I t members None terminals are some out s tree = false≢true some
no_tree_out I t members (Some k) terminals are some out s tree =
    let all = one_side I (has members) (has members s.start) (s.start ∷ []) s.arcs (λ u v _ _ linked. same_test (has members u) (has members v) (λ h. are.closed u v h linked) (λ h. are.closed v u h (subst (λ (o : Option ℕ). IsSome o) (link-comm I.links u v) linked))) tree.arborescence.grows (λ w h. ap (has members) (sym (has-one s.start w h))) in
    let root = terminals.root k out.0 in
    let other = terminals.others k out.0 in
    let root_is = all t.root (tree.required t.root root.vertex root.required) in
    let other_is = all k (tree.required k other.vertex other.required) in
    false≢true (sym out.1 ∙ (other_is ∙ (sym root_is ∙ are.root_is)))

-- where none is found, all are reached
pub all_reached : (ks members : List ℕ) (found : Option ℕ) → is_some found ≡ false → IfNone found ((k : ℕ) → IsTrue (has ks k) → IsTrue (has members k)) → (k : ℕ) → IsTrue (has ks k) → IsTrue (has members k)
all_reached ks members None none all = all
all_reached ks members (Some k) none all = absurd (false≢true (sym none))
