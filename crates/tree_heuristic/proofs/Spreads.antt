-- A tree that grows by one arc after another.
use Rattle.std.proofs.Common.{◌≡◌, ℕ, zero, suc, ◌+◌, ◌≤◌, Bool, true, false, ◌||◌, inl, inr, List, [], ◌∷◌, ◌++◌, length, take, IsSome, refl, sym, ap, subst, ◌∙◌, arith}
use Rattle.std.specs.Prelude.{◌==◌, IsTrue, IsFalse}
use Rattle.std.proofs.Math.Bool.{or_comm}
use Rattle.std.proofs.lemmas.Bool.{or_right, or_cases, both_ways, eqb-true, false≢true}
use Rattle.std.proofs.lemmas.Bool.Decides.{nat_tests}
use Rattle.std.proofs.lemmas.List.{length-take, take-append-le}
use Rattle.std.proofs.Math.Seq.{take-length}
use Rattle.std.proofs.lemmas.List.Elements.{All-nil, All-push, All-weaker, recursion_from_All}
use Rattle.st_model.specs.Lists.{has}
use Rattle.st_model.specs.Network.{link}
use Rattle.st_model.specs.Growth.{reaches}
use Rattle.st_model.proofs.Judging.{reached_from-append}
use Rattle.st_model.proofs.Links.{linked_ends}
use Rattle.st_model.proofs.Marked.{has-push}
use Rattle.st_model.proofs.Members.{has-one}
use Rattle.st_model.proofs.ThinGrowth.{Grows-push}
use Rattle.graph_store.specs.declared.half.Half.{Half}
use Rattle.graph_store.specs.Graph.{Graph, IsGraph, is_in}
use Rattle.tree_heuristic.specs.declared.spread.Spread.{Spread}
use Rattle.tree_heuristic.specs.Spreading.{MayJoin, IsSpread, Follows, HasGoneOn}

-- both ends of a link are present
pub linked_present : (g : Graph) (u v : ℕ) → IsGraph g → IsSome (link g.network.links u v) → IsTrue (is_in g u) × IsTrue (is_in g v)
linked_present g u v graph h = linked_ends (λ w. IsTrue (is_in g w)) g.network.links u v (recursion_from_All _ g.network.links graph.ends) h

-- the start alone
pub IsSpread-start : (g : Graph) (out : List ℕ) (s : Spread) → MayJoin g out s.start → s.arcs.items ≡ [] → s.reached.members ≡ s.start ∷ [] → s.reached.count ≡ g.network.n + 1 → IsSpread g out s
IsSpread-start g out s here arcs members count = record {
  grows = rw arcs tt;
  same = λ v. rw (arcs, members) refl;
  only_joining = λ v h. subst (MayJoin g out) (has-one s.start v (rw members at h)) here;
  count = count;
}

-- the same start, arcs and members
IsSpread-same : (g : Graph) (out : List ℕ) (old new : Spread) → IsSpread g out old → new.start ≡ old.start → new.arcs.items ≡ old.arcs.items → new.reached.members ≡ old.reached.members → new.reached.count ≡ old.reached.count → IsSpread g out new
IsSpread-same g out old new s start arcs members count = record {
  grows = rw (start, arcs) s.grows;
  same = λ v. rw (start, arcs, members) (s.same v);
  only_joining = λ v h. s.only_joining v (rw members at h);
  count = count ∙ s.count;
}

-- one arc more
IsSpread-take : (g : Graph) (out : List ℕ) (old new : Spread) (tail head : ℕ) → IsSpread g out old → IsTrue (has old.reached.members tail) → IsSome (link g.network.links tail head) → MayJoin g out head → IsFalse (has old.reached.members head) → new.start ≡ old.start → new.arcs.items ≡ old.arcs.items ++ (tail, head) ∷ [] → new.reached.members ≡ old.reached.members ++ head ∷ [] → new.reached.count ≡ old.reached.count → IsSpread g out new
IsSpread-take g out old new tail head s from linked here fresh start arcs members count = record {
  grows = rw (start, arcs) (Grows-push g.network (old.start ∷ []) old.arcs.items tail head s.grows linked (sym (s.same tail) ∙ from) (sym (s.same head) ∙ fresh));
  same = same;
  only_joining = only_joining;
  count = count ∙ s.count;
}
  where
    same : (v : ℕ) → has new.reached.members v ≡ reaches new.start new.arcs.items v
    same v =
        let left : has new.reached.members v ≡ (has old.reached.members v || (head == v)) = rw members (has-push old.reached.members head v) in
        let right : reaches new.start new.arcs.items v ≡ ((head == v) || reaches old.start old.arcs.items v) = rw (start, arcs) (ap (λ l. has l v) (reached_from-append (old.start ∷ []) old.arcs.items ((tail, head) ∷ []))) in
        left ∙ (ap (λ b. b || (head == v)) (s.same v) ∙ (or_comm (reaches old.start old.arcs.items v) (head == v) ∙ sym right))

    only_joining : (v : ℕ) → IsTrue (has new.reached.members v) → MayJoin g out v
    only_joining v h =
        let both : (has old.reached.members v || (head == v)) ≡ true = sym (has-push old.reached.members head v) ∙ rw members at h in
        elim (or_cases (has old.reached.members v) (head == v) both) [
          | inl before ↦ s.only_joining v before
          | inr now ↦ subst (MayJoin g out) (eqb-true head v now) here
        ]

-- no half so far
pub gone_on_none : (g : Graph) (out : List ℕ) (old : Spread) → IsSpread g out old → HasGoneOn g out old [] old
gone_on_none g out old s = record { spread = s; start = refl; keeps = take-length old.reached.members; heads = All-nil _ }

-- a half more
pub gone_on_more : (g : Graph) (out : List ℕ) (old mid new : Spread) (halves : List Half) (half : Half) (tail : ℕ) → IsGraph g → HasGoneOn g out old halves mid → IsTrue (has old.reached.members tail) → IsSome (link g.network.links tail half.to) → Follows out mid tail half.to new → HasGoneOn g out old (halves ++ half ∷ []) new
gone_on_more g out old mid new halves half tail graph on from linked f = by_case (has out half.to) (has mid.reached.members half.to) refl refl
  where
    longer : length old.reached.members ≤ length mid.reached.members
    longer = let e = ap length on.keeps in omega (arith, length-take (length old.reached.members) mid.reached.members, e)

    kept : (v : ℕ) → IsTrue (has old.reached.members v) → IsTrue (has mid.reached.members v)
    kept v h = has_take mid.reached.members (length old.reached.members) v (rw on.keeps h)
      where
        has_take : (xs : List ℕ) (k v : ℕ) → IsTrue (has (take k xs) v) → IsTrue (has xs v)
        has_take [] zero v h = h
        has_take [] (suc k) v h = h
        has_take (x ∷ xs) zero v h = absurd (false≢true h)
        has_take (x ∷ xs) (suc k) v h = elim (or_cases (x == v) (has (take k xs) v) h) [
          | inl e ↦ rw e refl
          | inr e ↦ or_right (x == v) (has xs v) (has_take xs k v e)
        ]

    stays : (has out half.to || has mid.reached.members half.to) ≡ true → (IsFalse (has out half.to) → IsTrue (has mid.reached.members half.to)) → HasGoneOn g out old (halves ++ half ∷ []) new
    stays t there =
        let arcs : new.arcs.items ≡ mid.arcs.items = rw t at f.arcs in
        let members : new.reached.members ≡ mid.reached.members = rw t at f.members in
        record {
          spread = IsSpread-same g out mid new on.spread f.start arcs members f.count;
          start = f.start ∙ on.start;
          keeps = rw members on.keeps;
          heads = All-push (λ (h : Half). IsFalse (has out h.to) → IsTrue (has new.reached.members h.to)) halves half (All-weaker (λ (h : Half). IsFalse (has out h.to) → IsTrue (has mid.reached.members h.to)) (λ (h : Half). IsFalse (has out h.to) → IsTrue (has new.reached.members h.to)) (λ h k o. rw members (k o)) halves on.heads) (λ o. rw members (there o));
        }

    by_case : (a b : Bool) → has out half.to ≡ a → has mid.reached.members half.to ≡ b → HasGoneOn g out old (halves ++ half ∷ []) new
    by_case true b o m = stays (rw o refl) (λ off. absurd (both_ways (has out half.to) off o))
    by_case false true o m = stays (rw (o, m) refl) (λ off. m)
    by_case false false o m =
        let t : (has out half.to || has mid.reached.members half.to) ≡ false = rw (o, m) refl in
        let arcs : new.arcs.items ≡ mid.arcs.items ++ (tail, half.to) ∷ [] = rw t at f.arcs in
        let members : new.reached.members ≡ mid.reached.members ++ half.to ∷ [] = rw t at f.members in
        let here : MayJoin g out half.to = record { present = (linked_present g tail half.to graph linked).1; inside = o } in
        let more : (v : ℕ) → IsTrue (has mid.reached.members v) → IsTrue (has new.reached.members v) = λ v h. rw members (has-push mid.reached.members half.to v ∙ rw h refl) in
        record {
          spread = IsSpread-take g out mid new tail half.to on.spread (kept tail from) linked here m f.start arcs members f.count;
          start = f.start ∙ on.start;
          keeps = rw members (take-append-le (length old.reached.members) mid.reached.members (half.to ∷ []) longer ∙ on.keeps);
          heads = All-push (λ (h : Half). IsFalse (has out h.to) → IsTrue (has new.reached.members h.to)) halves half (All-weaker (λ (h : Half). IsFalse (has out h.to) → IsTrue (has mid.reached.members h.to)) (λ (h : Half). IsFalse (has out h.to) → IsTrue (has new.reached.members h.to)) (λ h k off. more h.to (k off)) halves on.heads) (λ off. rw members (has-push mid.reached.members half.to half.to ∙ last));
        }
      where
        last : (has mid.reached.members half.to || (half.to == half.to)) ≡ true
        last = let e : (half.to == half.to) ≡ true = grind (arith, nat_tests) in rw (e, or_comm (has mid.reached.members half.to) true) refl

-- the same where the halves are not counted
pub gone_on_also : (g : Graph) (out : List ℕ) (old mid new : Spread) (half : Half) (tail : ℕ) → IsGraph g → HasGoneOn g out old [] mid → IsTrue (has old.reached.members tail) → IsSome (link g.network.links tail half.to) → Follows out mid tail half.to new → HasGoneOn g out old [] new
gone_on_also g out old mid new half tail graph on from linked f =
    let more = gone_on_more g out old mid new [] half tail graph on from linked f in
    record { spread = more.spread; start = more.start; keeps = more.keeps; heads = All-nil (λ (h : Half). IsFalse (has out h.to) → IsTrue (has new.reached.members h.to)) }
