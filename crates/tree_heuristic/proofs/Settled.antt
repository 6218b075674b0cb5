-- A set that links lead out of to no vertex that isn't outside.
use Rattle.std.proofs.Common.{◌≡◌, ℕ, ◌+◌, ◌≤◌, true, ◌||◌, inl, inr, List, ◌++◌, length, take, drop, get_or, Option, Some, None, IsSome, refl, sym, ap, subst, ◌∙◌, arith}
use Rattle.std.specs.Prelude.{◌==◌, IsTrue, IsFalse, slice_get}
use Rattle.std.proofs.lemmas.Bool.{or_cases, cases_lt, eqb-true, false≢true}
use Rattle.std.proofs.lemmas.List.{length-take, take-append-le, take-append-drop, take_all}
use Rattle.std.proofs.lemmas.List.Folds.{list_any-append}
use Rattle.std.proofs.lemmas.List.Elements.{All-contains}
use Rattle.std.proofs.lemmas.Option.{slice_get_within, get_or_from_slice_get, slice_get-get_or}
use Rattle.st_model.specs.Lists.{has}
use Rattle.st_model.specs.Network.{Network, link}
use Rattle.st_model.proofs.Marked.{has_more}
use Rattle.graph_store.specs.declared.half.Half.{Half}
use Rattle.graph_store.specs.Graph.{Graph}
use Rattle.graph_store.specs.Neighbours.{AreNeighbours}
use Rattle.tree_heuristic.specs.declared.spread.Spread.{Spread}
use Rattle.tree_heuristic.specs.Spreading.{IsSpread, IsClosed, HasGoneOn, HasFollowed, IsUnderWay}

-- all neighbours have been followed
pub followed_all : (g : Graph) (out : List ℕ) (old new : Spread) (halves : List Half) (tail : ℕ) → AreNeighbours g.network tail halves → HasGoneOn g out old halves new → HasFollowed g out old tail new
followed_all g out old new halves tail are on = record {
  spread = on.spread;
  start = on.start;
  keeps = on.keeps;
  heads = λ v some off. there v (link g.network.links tail v) refl some off;
}
  where
    there : (v : ℕ) (o : Option ℕ) → link g.network.links tail v ≡ o → IsSome o → IsFalse (has out v) → IsTrue (has new.reached.members v)
    there v None is some off = absurd (false≢true some)
    there v (Some cost) is some off =
        let half : Half = record { to = v; cost = cost } in
        All-contains (λ (h : Half). IsFalse (has out h.to) → IsTrue (has new.reached.members h.to)) halves half on.heads ((are.linked v cost).1 is) off

-- one member more whose links have been followed
closed_more : (I : Network) (out old new : List ℕ) (next tail : ℕ) → IsClosed I out (take next old) old → slice_get old next ≡ Some tail → take (length old) new ≡ old → ((v : ℕ) → IsSome (link I.links tail v) → IsFalse (has out v) → IsTrue (has new v)) → IsClosed I out (take (next + 1) new) new
closed_more I out old new next tail closed at keeps followed u v from linked off =
    let within = slice_get_within old next tail at in
    let read : get_or old next 0 ≡ tail = get_or_from_slice_get old next tail 0 at in
    let new_is : new ≡ old ++ drop (length old) new = sym (take-append-drop (length old) new) ∙ ap (λ l. l ++ drop (length old) new) keeps in
    let first_are : take (next + 1) new ≡ take (next + 1) old = ap (take (next + 1)) new_is ∙ take-append-le (next + 1) old (drop (length old) new) (omega arith) in
    let among : (has (take next old) u || (get_or old next 0 == u)) ≡ true = sym (has_more old next u within) ∙ (ap (λ l. has l u) (sym first_are) ∙ from) in
    elim (or_cases (has (take next old) u) (get_or old next 0 == u) among) [
      | inl before ↦ let there = closed u v before linked off in ap (λ l. has l v) new_is ∙ (list_any-append (λ x. x == v) old (drop (length old) new) ∙ rw there refl)
      | inr now ↦ let e : tail ≡ u = sym read ∙ eqb-true (get_or old next 0) u now in followed v (subst (λ w. IsSome (link I.links w v)) (sym e) linked) off
    ]

-- at first
pub under_way_start : (g : Graph) (out : List ℕ) (start : ℕ) (s : Spread) → IsSpread g out s → s.start ≡ start → IsUnderWay g out start s 0
under_way_start g out start s is at = record { spread = is; closed = λ u v h linked off. absurd (false≢true h); start = at; few = omega arith }

-- a member further
pub under_way_more : (g : Graph) (out : List ℕ) (start : ℕ) (old new : Spread) (next tail : ℕ) → IsUnderWay g out start old next → slice_get old.reached.members next ≡ Some tail → HasFollowed g out old tail new → IsUnderWay g out start new (next + 1)
under_way_more g out start old new next tail way at f = record {
  spread = f.spread;
  closed = closed_more g.network out old.reached.members new.reached.members next tail way.closed at f.keeps f.heads;
  start = f.start ∙ way.start;
  few =
      let within = slice_get_within old.reached.members next tail at in
      let e = ap length f.keeps in
      omega (arith, length-take (length old.reached.members) new.reached.members, e);
}

-- where there is no next member, all have been followed
pub under_way_end : (g : Graph) (out : List ℕ) (start : ℕ) (s : Spread) (next : ℕ) → IsUnderWay g out start s next → slice_get s.reached.members next ≡ None → IsClosed g.network out s.reached.members s.reached.members
under_way_end g out start s next way at = subst (λ l. IsClosed g.network out l s.reached.members) (take_all next s.reached.members (past s.reached.members next at)) way.closed
  where
    past : (xs : List ℕ) (k : ℕ) → slice_get xs k ≡ None → length xs ≤ k
    past xs k at = elim (cases_lt k (length xs)) [
      | inl below ↦ let some : slice_get xs k ≡ Some (get_or xs k 0) = slice_get-get_or xs k 0 below in let clash : ◌≡◌ {A = Option ℕ} None (Some (get_or xs k 0)) = sym at ∙ some in absurd (let no : ⊥ = cc in no)
      | inr above ↦ above
    ]
