-- A start that is moved on, and the leaves of what is left.
use Rattle.std.proofs.Common.{◌≡◌, ℕ, Bool, true, false, ◌&&◌, ◌⊎◌, inl, inr, List, [], ◌∷◌, ◌++◌, reverse, refl, sym, ap, subst, ◌∙◌, arith}
use Rattle.std.specs.Prelude.{◌==◌, IsTrue, IsFalse}
use Rattle.std.proofs.lemmas.Bool.{or_right, or_from, and_right, or_parts, eq-eqb, false≢true}
use Rattle.std.proofs.lemmas.Bool.Decides.{eqb_tells}
use Rattle.std.proofs.lemmas.List.{reverse-append, reverse-reverse}
use Rattle.st_model.specs.declared.tree.Tree.{Tree}
use Rattle.st_model.specs.Arborescence.{Grows, IsArborescence, arc_cost, reached, reached_from}
use Rattle.st_model.specs.Lists.{has}
use Rattle.st_model.specs.Network.{Network, IsInstance, IsVertex}
use Rattle.st_model.proofs.Booleans.{or_left_comm}
use Rattle.st_model.proofs.Distinct.{has-cons_head}
use Rattle.st_model.proofs.Members.{has-one}
use Rattle.st_model.proofs.ThinGrowth.{has-reached_from, linked-vertices}
use Rattle.tree_heuristic.specs.declared.kept.Kept.{Kept}
use Rattle.tree_heuristic.specs.Keeping.{AreWorth, IsPruned, IsStartWorth, IsTrimming, is_fork, is_spare, is_tail, tree_of}
use Rattle.tree_heuristic.proofs.Cutting.{Loses, grows_without, pruned_more, pruned_none, spare_parts, turned}
use Rattle.tree_heuristic.proofs.Found.{clash}

-- what is a fork is a tail
fork_tail : (arcs : List (ℕ × ℕ)) (v : ℕ) → IsFalse (is_tail arcs v) → IsFalse (is_fork arcs v)
fork_tail [] v h = refl
fork_tail (arc ∷ arcs) v h =
    let parts = or_parts (arc.0 == v) (is_tail arcs v) h in
    rw (parts.0, fork_tail arcs v parts.1) refl

-- the start of arcs that grow from it alone is the first tail
pub first_tail : (I : Network) (start : ℕ) (arc : ℕ × ℕ) (arcs : List (ℕ × ℕ)) → Grows I (start ∷ []) (arc ∷ arcs) → start ≡ arc.0
first_tail I start arc arcs g = has-one start arc.0 g.1

-- no other arc leads from a start that is no fork
lone_tail : (I : Network) (start : ℕ) (arc : ℕ × ℕ) (arcs : List (ℕ × ℕ)) → Grows I (start ∷ []) (arc ∷ arcs) → IsFalse (is_fork (arc ∷ arcs) start) → IsFalse (is_tail arcs start)
lone_tail I start arc arcs g h =
    let parts = or_parts ((arc.0 == start) && is_tail arcs start) (is_fork arcs start) h in
    second (arc.0 == start) (is_tail arcs start) (eq-eqb arc.0 start (sym (first_tail I start arc arcs g))) parts.0
  where
    second : (a b : Bool) → a ≡ true → (a && b) ≡ false → b ≡ false
    second true b e p = p
    second false b e p = absurd (false≢true e)

-- the start is left out
start_lost : (I : Network) (start : ℕ) (arc : ℕ × ℕ) (arcs : List (ℕ × ℕ)) → Grows I (start ∷ []) (arc ∷ arcs) → IsFalse (is_tail arcs start) → Loses I (arc.1 ∷ []) arcs start (reached_from (start ∷ []) (arc ∷ arcs))
start_lost I start arc arcs g tails = grows_without I (arc.1 ∷ []) (arc.1 ∷ start ∷ []) arcs start (λ w. or_left_comm (arc.1 == w) (start == w) false) (rw (turned start arc.1 head) refl) g.3 tails
  where
    head : (start == arc.1) ≡ false
    head = (or_parts (start == arc.1) false g.2).0

-- at first
pub trimming_none : (I : Network) (inside : List ℕ) (k : Kept) → IsArborescence I (tree_of k) → AreWorth I inside (reverse k.arcs.items) → ((v : ℕ) → has k.forks.members v ≡ is_fork (reverse k.arcs.items) v) → IsTrimming I inside (tree_of k) k
trimming_none I inside k tree worth forks = record { pruned = pruned_none I inside (tree_of k) (tree_of k) tree refl; worth = worth; forks = λ v h. forks v }

-- the first arc as it stands last
pub front_first : (items front : List (ℕ × ℕ)) (arc : ℕ × ℕ) → items ≡ front ++ arc ∷ [] → reverse items ≡ arc ∷ reverse front
front_first items front arc is = ap reverse is ∙ reverse-append front (arc ∷ [])

-- the start is moved on
pub trimmed : (I : Network) (inside : List ℕ) (t : Tree) (old new : Kept) (arc : ℕ × ℕ) → IsInstance I → IsTrimming I inside t old → old.arcs.items ≡ new.arcs.items ++ arc ∷ [] → IsFalse (has old.forks.members old.start) → IsTrue (is_spare I inside old.start arc) → new.start ≡ arc.1 → new.forks ≡ old.forks → IsTrimming I inside t new
trimmed I inside t old new arc instance on taken leaf spare start forks =
    let K = reverse new.arcs.items in
    let whole : reverse old.arcs.items ≡ arc ∷ reverse new.arcs.items = front_first old.arcs.items new.arcs.items arc taken in
    let mid : Tree = record { start = old.start; arcs = arc ∷ reverse new.arcs.items } in
    let before : IsPruned I inside t mid = subst (λ arcs. IsPruned I inside t (record { start = old.start; arcs = arcs })) whole on.pruned in
    let grows = before.arborescence.grows in
    let at_start : IsTrue (has (reached_from (old.start ∷ []) (reverse old.arcs.items)) old.start) = has-reached_from (old.start ∷ []) (reverse old.arcs.items) old.start (has-cons_head [] old.start old.start refl) in
    let no_fork : IsFalse (is_fork (arc ∷ reverse new.arcs.items) old.start) = ap (λ l. is_fork l old.start) (sym whole) ∙ (sym (on.forks old.start at_start) ∙ leaf) in
    let lone = lone_tail I old.start arc (reverse new.arcs.items) grows no_fork in
    let loses = start_lost I old.start arc (reverse new.arcs.items) grows lone in
    let loses_new : Loses I (new.start ∷ []) (reverse new.arcs.items) old.start (reached mid) = subst (λ s. Loses I (s ∷ []) (reverse new.arcs.items) old.start (reached mid)) (sym start) loses in
    let parts = spare_parts I inside old.start arc spare in
    let vertex = (linked-vertices I arc.0 arc.1 instance grows.0).1 in
    let worth : AreWorth I inside (arc ∷ reverse new.arcs.items) = subst (AreWorth I inside) whole on.worth in
    record {
      pruned = pruned_more I inside t mid (tree_of new) old.start (arc_cost I arc) before.arborescence.start (subst (IsVertex I.n) (sym start) vertex) before loses_new refl (let less = parts.1 in omega arith) parts.0;
      worth = worth.1;
      forks = λ v h. fork v h (λ there. on.forks v there) whole loses_new (first_tail I old.start arc (reverse new.arcs.items) grows);
    }
  where
    fork : (v : ℕ) → IsTrue (has (reached_from (new.start ∷ []) (reverse new.arcs.items)) v) → (IsTrue (has (reached_from (old.start ∷ []) (reverse old.arcs.items)) v) → has old.forks.members v ≡ is_fork (reverse old.arcs.items) v) → reverse old.arcs.items ≡ arc ∷ reverse new.arcs.items → Loses I (new.start ∷ []) (reverse new.arcs.items) old.start (reached_from (old.start ∷ []) (arc ∷ reverse new.arcs.items)) → old.start ≡ arc.0 → has new.forks.members v ≡ is_fork (reverse new.arcs.items) v
    fork v h before whole loses first =
        let there : IsTrue (has (reached_from (old.start ∷ []) (reverse old.arcs.items)) v) = ap (λ l. has (reached_from (old.start ∷ []) l) v) whole ∙ (loses.reached v ∙ or_right (old.start == v) _ h) in
        let other : (old.start == v) ≡ false = elim (eqb_tells old.start v) [
          | inl e ↦ absurd (clash (subst (λ w. IsTrue (has (reached_from (new.start ∷ []) (reverse new.arcs.items)) w)) (sym e.1) h) loses.absent)
          | inr e ↦ e.0
        ] in
        ap (λ f. has f.members v) forks ∙ (before there ∙ (ap (λ l. is_fork l v) whole ∙ later (subst (λ w. (w == v) ≡ false) first other)))
      where
        later : (arc.0 == v) ≡ false → is_fork (arc ∷ reverse new.arcs.items) v ≡ is_fork (reverse new.arcs.items) v
        later e = rw e refl

-- where the start is not moved on, it is worth its arc
pub trimmed_end : (I : Network) (inside : List ℕ) (t : Tree) (k : Kept) → IsTrimming I inside t k → ((front : List (ℕ × ℕ)) (arc : ℕ × ℕ) → k.arcs.items ≡ front ++ arc ∷ [] → IsTrue (has k.forks.members k.start) ⊎ IsFalse (is_spare I inside k.start arc)) → IsStartWorth I inside k.start (reverse k.arcs.items)
trimmed_end I inside t k on stop = by_list (reverse k.arcs.items) refl
  where
    by_list : (K : List (ℕ × ℕ)) → reverse k.arcs.items ≡ K → IsStartWorth I inside k.start K
    by_list [] is = tt
    by_list (arc ∷ K) is = λ lone. elim (stop (reverse K) arc (sym (reverse-reverse k.arcs.items) ∙ (ap reverse is ∙ turned_round))) [
      | inl fork ↦ absurd (clash fork (on.forks k.start (has-reached_from (k.start ∷ []) (reverse k.arcs.items) k.start (has-cons_head [] k.start k.start refl)) ∙ (ap (λ l. is_fork l k.start) is ∙ none lone)))
      | inr worth ↦ worth
    ]
      where
        turned_round : reverse (arc ∷ K) ≡ reverse K ++ arc ∷ []
        turned_round = reverse-append (arc ∷ []) K

        none : IsFalse (is_tail K k.start) → IsFalse (is_fork (arc ∷ K) k.start)
        none lone = rw (lone, fork_tail K k.start lone) (or_from ((arc.0 == k.start) && false) false (and_right (arc.0 == k.start) false refl) refl)
