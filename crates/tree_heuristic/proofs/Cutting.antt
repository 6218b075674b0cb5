-- Leaves that are cut off a tree, and what is left of it.
use Rattle.std.proofs.Common.{◌≡◌, ℕ, ◌+◌, ◌<◌, ◌≤◌, Bool, true, false, not, ◌&&◌, ◌||◌, inl, inr, List, [], ◌∷◌, ◌++◌, reverse, IsSome, refl, sym, ap, subst, ◌∙◌, append_assoc, append-nil, arith}
use Rattle.std.specs.Prelude.{◌==◌, IsTrue, IsFalse, nat_lt}
use Rattle.std.proofs.lemmas.Bool.{or_right, not-true, or_cases, or_parts, eqb-true, ne_eqb, eq-eqb, ltb-true, and_parts, false≢true}
use Rattle.std.proofs.lemmas.List.{reverse-append}
use Rattle.st_model.specs.declared.tree.Tree.{Tree}
use Rattle.st_model.specs.Arborescence.{Grows, IsArborescence, arc_cost, reached, reached_from}
use Rattle.st_model.specs.Lists.{has, total}
use Rattle.st_model.specs.Network.{Network, IsInstance, IsVertex, link, pays}
use Rattle.st_model.proofs.Booleans.{or_left_comm}
use Rattle.st_model.proofs.Costs.{missed_reached}
use Rattle.st_model.proofs.RegrowLaws.{missed-same}
use Rattle.st_model.proofs.Sums.{total-append}
use Rattle.st_model.proofs.ThinGrowth.{linked-vertices}
use Rattle.tree_heuristic.specs.declared.kept.Kept.{Kept}
use Rattle.tree_heuristic.specs.Keeping.{AreWorth, IsJudging, KeepsArc, IsPruned, is_cut, is_fork, is_spare, is_tail, must, tree_of}
use Rattle.tree_heuristic.proofs.Found.{clash}

pub turned : (a b : ℕ) → (a == b) ≡ false → (b == a) ≡ false
turned a b h = ne_eqb b a (λ e. clash (eq-eqb a b (sym e)) h)

-- what is reached, but for one vertex
pub record Loses (I : Network) (r : List ℕ) (arcs : List (ℕ × ℕ)) (v : ℕ) (before : List ℕ) : Type 0 where
  pub grows : Grows I r arcs
  pub reached : (w : ℕ) → has before w ≡ ((v == w) || has (reached_from r arcs) w)
  pub absent : IsFalse (has (reached_from r arcs) v)

-- arcs that don't lead from a vertex which was reached beforehand grow without it
pub grows_without : (I : Network) (r wide : List ℕ) (arcs : List (ℕ × ℕ)) (v : ℕ) → ((w : ℕ) → has wide w ≡ ((v == w) || has r w)) → IsFalse (has r v) → Grows I wide arcs → IsFalse (is_tail arcs v) → Loses I r arcs v (reached_from wide arcs)
grows_without I r wide [] v same off g tails = record { grows = tt; reached = same; absent = off }
grows_without I r wide (arc ∷ arcs) v same off g tails =
    let parts = or_parts (arc.0 == v) (is_tail arcs v) tails in
    let head = or_parts (v == arc.1) (has r arc.1) (sym (same arc.1) ∙ g.2) in
    let tail : IsTrue (has r arc.0) = elim (or_cases (v == arc.0) (has r arc.0) (sym (same arc.0) ∙ g.1)) [
      | inl e ↦ absurd (clash e (turned arc.0 v parts.0))
      | inr e ↦ e
    ] in
    let rest = grows_without I (arc.1 ∷ r) (arc.1 ∷ wide) arcs v (λ w. ap (λ b. (arc.1 == w) || b) (same w) ∙ or_left_comm (arc.1 == w) (v == w) (has r w)) (rw (turned v arc.1 head.0) off) g.3 parts.1 in
    record { grows = (g.0, tail, head.1, rest.grows); reached = rest.reached; absent = rest.absent }

-- an arc to a leaf is taken out
leaf_lost : (I : Network) (r : List ℕ) (first : List (ℕ × ℕ)) (arc : ℕ × ℕ) (arcs : List (ℕ × ℕ)) → Grows I r (first ++ arc ∷ arcs) → IsFalse (is_tail arcs arc.1) → Loses I r (first ++ arcs) arc.1 (reached_from r (first ++ arc ∷ arcs))
leaf_lost I r [] arc arcs g tails = grows_without I r (arc.1 ∷ r) arcs arc.1 (λ w. refl) g.2 g.3 tails
leaf_lost I r (x ∷ first) arc arcs g tails =
    let rest = leaf_lost I (x.1 ∷ r) first arc arcs g.3 tails in
    record { grows = (g.0, g.1, g.2, rest.grows); reached = rest.reached; absent = rest.absent }

-- one of the arcs is a link
pub arc_linked : (I : Network) (r : List ℕ) (first : List (ℕ × ℕ)) (arc : ℕ × ℕ) (arcs : List (ℕ × ℕ)) → Grows I r (first ++ arc ∷ arcs) → IsSome (link I.links arc.0 arc.1)
arc_linked I r [] arc arcs g = g.0
arc_linked I r (x ∷ first) arc arcs g = arc_linked I (x.1 ∷ r) first arc arcs g.3

-- a tree is what is left of itself
pub pruned_none : (I : Network) (inside : List ℕ) (t new : Tree) → IsArborescence I t → new ≡ t → IsPruned I inside t new
pruned_none I inside t new tree same = subst (λ (s : Tree). IsPruned I inside t s) (sym same) (record { arborescence = tree; keeps = λ v m h. h; within = λ v h. h; cheap = omega arith })

pub pruned_twice : (I : Network) (inside : List ℕ) (s t u : Tree) → IsPruned I inside s t → IsPruned I inside t u → IsPruned I inside s u
pruned_twice I inside s t u a b = record {
  arborescence = b.arborescence;
  keeps = λ v m h. b.keeps v m (a.keeps v m h);
  within = λ v h. a.within v (b.within v h);
  cheap = let first = a.cheap in let second = b.cheap in omega arith;
}

-- what a vertex to spare is
pub spare_parts : (I : Network) (inside : List ℕ) (v : ℕ) (arc : ℕ × ℕ) → IsTrue (is_spare I inside v arc) → IsFalse (must I inside v) × (pays I v < arc_cost I arc)
spare_parts I inside v arc h =
    let parts = and_parts (not (must I inside v)) (nat_lt (pays I v) (arc_cost I arc)) h in
    (not-true (must I inside v) parts.0, ltb-true (pays I v) (arc_cost I arc) parts.1)

-- a vertex less, and its arc
pub pruned_more : (I : Network) (inside : List ℕ) (t mid new : Tree) (v c : ℕ) → IsVertex I.n v → IsVertex I.n new.start → IsPruned I inside t mid → Loses I (new.start ∷ []) new.arcs v (reached mid) → total (arc_cost I) mid.arcs ≡ c + total (arc_cost I) new.arcs → pays I v ≤ c → IsFalse (must I inside v) → IsPruned I inside t new
pruned_more I inside t mid new v c vertex start is loses arcs less off = record {
  arborescence = record { start = start; grows = loses.grows };
  keeps = λ w m h. kept w m (is.keeps w m h);
  within = λ w h. is.within w (loses.reached w ∙ or_right (v == w) _ h);
  cheap =
      let same = missed-same I I.n (reached mid) (v ∷ reached new) (λ w. sym (loses.reached w)) in
      let fewer = missed_reached I (reached new) v vertex loses.absent in
      let before = is.cheap in
      omega (arith, same, fewer, before, arcs, less);
}
  where
    kept : (w : ℕ) → IsTrue (must I inside w) → IsTrue (has (reached mid) w) → IsTrue (has (reached new) w)
    kept w m h = elim (or_cases (v == w) (has (reached new) w) (sym (loses.reached w) ∙ h)) [
      | inl e ↦ absurd (clash (subst (λ x. IsTrue (must I inside x)) (sym (eqb-true v w e)) m) off)
      | inr e ↦ e
    ]

-- the last of the arcs that are left
pub split_arcs : (left first : List (ℕ × ℕ)) (arc : ℕ × ℕ) (k : Kept) → left ≡ first ++ arc ∷ [] → left ++ reverse k.arcs.items ≡ first ++ arc ∷ reverse k.arcs.items
split_arcs left first arc k is = ap (λ l. l ++ reverse k.arcs.items) is ∙ append_assoc first (arc ∷ []) (reverse k.arcs.items)

-- its ends are vertices
pub last_vertices : (I : Network) (inside : List ℕ) (t : Tree) (left first : List (ℕ × ℕ)) (arc : ℕ × ℕ) (k : Kept) → IsInstance I → IsJudging I inside t left k → left ≡ first ++ arc ∷ [] → IsVertex I.n arc.0 × IsVertex I.n arc.1
last_vertices I inside t left first arc k instance j is =
    linked-vertices I arc.0 arc.1 instance (arc_linked I (t.start ∷ []) first arc (reverse k.arcs.items) (subst (Grows I (t.start ∷ [])) (split_arcs left first arc k is) j.pruned.arborescence.grows))

-- it is cut
judged_cut : (I : Network) (inside : List ℕ) (t : Tree) (left first : List (ℕ × ℕ)) (arc : ℕ × ℕ) (old new : Kept) → IsInstance I → IsJudging I inside t left old → left ≡ first ++ arc ∷ [] → IsTrue (is_cut I inside old.tails.members arc) → new ≡ old → IsJudging I inside t first new
judged_cut I inside t left first arc old new instance j is cut same = subst (λ (k : Kept). IsJudging I inside t first k) (sym same) (record {
  start = j.start;
  pruned = pruned;
  worth = j.worth;
  tails = j.tails;
  forks = j.forks;
  tails_count = j.tails_count;
  forks_count = j.forks_count;
})
  where
    K : List (ℕ × ℕ)
    K = reverse old.arcs.items

    pruned : IsPruned I inside t (record { start = t.start; arcs = first ++ reverse old.arcs.items })
    pruned =
        let split = split_arcs left first arc old is in
        let mid : Tree = record { start = t.start; arcs = first ++ arc ∷ reverse old.arcs.items } in
        let before : IsPruned I inside t mid = subst (λ arcs. IsPruned I inside t (record { start = t.start; arcs = arcs })) split j.pruned in
        let parts = and_parts (not (has old.tails.members arc.1)) (is_spare I inside arc.1 arc) cut in
        let spare = spare_parts I inside arc.1 arc parts.1 in
        let leaf : IsFalse (is_tail (reverse old.arcs.items) arc.1) = sym (j.tails arc.1) ∙ not-true (has old.tails.members arc.1) parts.0 in
        let loses = leaf_lost I (t.start ∷ []) first arc (reverse old.arcs.items) before.arborescence.grows leaf in
        let vertices = last_vertices I inside t left first arc old instance j is in
        let whole = total-append (arc_cost I) first (arc ∷ reverse old.arcs.items) in
        let rest = total-append (arc_cost I) first (reverse old.arcs.items) in
        pruned_more I inside t mid (record { start = t.start; arcs = first ++ reverse old.arcs.items }) arc.1 (arc_cost I arc) vertices.1 before.arborescence.start before loses (omega (arith, whole, rest)) (let less = spare.1 in omega arith) spare.0

-- it is kept
judged_kept : (I : Network) (inside : List ℕ) (t : Tree) (left first : List (ℕ × ℕ)) (arc : ℕ × ℕ) (old new : Kept) → IsJudging I inside t left old → left ≡ first ++ arc ∷ [] → IsFalse (is_cut I inside old.tails.members arc) → KeepsArc old arc new → IsJudging I inside t first new
judged_kept I inside t left first arc old new j is stays made = record {
  start = made.start ∙ j.start;
  pruned = subst (λ arcs. IsPruned I inside t (record { start = t.start; arcs = arcs })) (split_arcs left first arc old is ∙ ap (λ l. first ++ l) (sym turned_round)) j.pruned;
  worth = subst (AreWorth I inside) (sym turned_round) (worth, j.worth);
  tails = λ v. made.tails v ∙ (ap (λ b. (arc.0 == v) || b) (j.tails v) ∙ ap (λ l. is_tail l v) (sym turned_round));
  forks = λ v. made.forks v ∙ (both v (j.tails v) (j.forks v) ∙ ap (λ l. is_fork l v) (sym turned_round));
  tails_count = made.counts.0 ∙ j.tails_count;
  forks_count = made.counts.1 ∙ j.forks_count;
}
  where
    turned_round : reverse new.arcs.items ≡ arc ∷ reverse old.arcs.items
    turned_round = ap reverse made.arcs ∙ reverse-append old.arcs.items (arc ∷ [])

    worth : IsFalse (is_tail (reverse old.arcs.items) arc.1) → IsFalse (is_spare I inside arc.1 arc)
    worth leaf = second (has old.tails.members arc.1) (is_spare I inside arc.1 arc) (j.tails arc.1 ∙ leaf) stays
      where
        second : (a b : Bool) → a ≡ false → (not a && b) ≡ false → b ≡ false
        second true b e h = absurd (false≢true (sym e))
        second false b e h = h

    both : (v : ℕ) {a b : Bool} → has old.tails.members v ≡ a → has old.forks.members v ≡ b → (((arc.0 == v) && has old.tails.members v) || has old.forks.members v) ≡ (((arc.0 == v) && a) || b)
    both v p q = rw (p, q) refl

-- one arc is judged
pub judged : (I : Network) (inside : List ℕ) (t : Tree) (left first : List (ℕ × ℕ)) (arc : ℕ × ℕ) (old new : Kept) → IsInstance I → IsJudging I inside t left old → left ≡ first ++ arc ∷ [] → (IsTrue (is_cut I inside old.tails.members arc) → new ≡ old) → (IsFalse (is_cut I inside old.tails.members arc) → KeepsArc old arc new) → IsJudging I inside t first new
judged I inside t left first arc old new instance j is cut_as kept_as = by_case (is_cut I inside old.tails.members arc) refl
  where
    by_case : (b : Bool) → is_cut I inside old.tails.members arc ≡ b → IsJudging I inside t first new
    by_case true cut = judged_cut I inside t left first arc old new instance j is cut (cut_as cut)
    by_case false stays = judged_kept I inside t left first arc old new j is stays (kept_as stays)

-- at first nothing is kept
pub judging_none : (I : Network) (inside : List ℕ) (t : Tree) (left : List (ℕ × ℕ)) (k : Kept) → IsArborescence I t → left ≡ t.arcs → k.start ≡ t.start → k.arcs.items ≡ [] → (k.tails.members ≡ []) × (k.tails.count ≡ I.n + 1) → (k.forks.members ≡ []) × (k.forks.count ≡ I.n + 1) → IsJudging I inside t left k
judging_none I inside t left k tree is start arcs tails forks = record {
  start = start;
  pruned = pruned_none I inside t (record { start = t.start; arcs = left ++ reverse k.arcs.items }) tree (ap (λ (l : List (ℕ × ℕ)). record { start = t.start; arcs = l }) (ap (λ l. left ++ reverse l) arcs ∙ (append-nil left ∙ is)));
  worth = rw arcs tt;
  tails = λ v. rw (tails.0, arcs) refl;
  forks = λ v. rw (forks.0, arcs) refl;
  tails_count = tails.1;
  forks_count = forks.1;
}

-- at the end nothing is left
pub judging_end : (I : Network) (inside : List ℕ) (t : Tree) (left : List (ℕ × ℕ)) (k : Kept) → IsJudging I inside t left k → left ≡ [] → IsPruned I inside t (tree_of k)
judging_end I inside t left k j none = subst (λ (s : Tree). IsPruned I inside t s) (same left t.start k.start none (sym j.start)) j.pruned
  where
    same : (l : List (ℕ × ℕ)) (a b : ℕ) → l ≡ [] → a ≡ b → ◌≡◌ {A = Tree} (record { start = a; arcs = l ++ reverse k.arcs.items }) (record { start = b; arcs = reverse k.arcs.items })
    same l a b e f = rw (e, f) refl
