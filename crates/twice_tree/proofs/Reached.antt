-- Walks inside of a tree, and what they say of trees that reach a terminal.
use Rattle.std.proofs.Common.{◌≡◌, ℕ, ◌+◌, ◌-◌, ◌*◌, ◌^◌, ◌≤◌, Bool, true, false, cond, List, [], ◌∷◌, length, Option, Some, None, refl, sym, ap, subst, ◌∙◌, inl, inr, is_some, arith}
use Rattle.std.specs.Prelude.{◌==◌, IsTrue, IsFalse, IsSome, unwrap_or}
use Rattle.std.proofs.lemmas.Bool.{eqb-true, false≢true, or_cases}
use Rattle.std.proofs.lemmas.List.{take_all}
use Rattle.std.proofs.lemmas.Nat.{mul-le}
use Rattle.st_model.specs.declared.link.Link.{Link}
use Rattle.st_model.specs.declared.tree.Tree.{Tree}
use Rattle.st_model.specs.Arborescence.{Grows, IsArborescence, IsTree, arc_cost, cost, missed, reached, reached_from}
use Rattle.st_model.specs.Lists.{has, total}
use Rattle.st_model.specs.Network.{Network, IsInstance, IsVertex, is_required, link, pays}
use Rattle.st_model.specs.Terminals.{IsTerminal, NobodyPays, terminal_count}
use Rattle.st_model.proofs.Costs.{links_fit}
use Rattle.st_model.proofs.Distinct.{link-comm}
use Rattle.st_model.proofs.Members.{has-one}
use Rattle.st_model.proofs.Sums.{sum_to_le, sum_to_none, sum_to_same, sum_to_one}
use Rattle.graph_store.specs.Graph.{Graph, IsGraph, is_in}
use Rattle.short_paths.specs.Walk.{IsWalk, stay, on}
use Rattle.tree_heuristic.specs.Reaching.{ReachesPresent}
use Rattle.tree_heuristic.proofs.Spreads.{linked_present}
use Rattle.twice_tree.specs.Twice.{AreJoined, IsWithinTwice, NoneIsNearer}
use Rattle.twice_tree.proofs.Walks.{walks_back, walks_on}
use Rattle.twice_tree.proofs.Within.{nearest_is_within_twice}

-- ---- walks in a tree

-- a vertex that is reached, with a walk to it from one of those that were reached at first
record IsLed (I : Network) (r : List ℕ) (v most : ℕ) : Type 0 where
  from : ℕ
  among : IsTrue (has r from)
  length : ℕ
  walk : IsWalk I.links from v length
  short : length ≤ most

led : (I : Network) (r : List ℕ) (arcs : List (ℕ × ℕ)) → Grows I r arcs → (v : ℕ) → IsTrue (has (reached_from r arcs) v) → IsLed I r v (total (arc_cost I) arcs)
led I r [] grows v there = record { from = v; among = there; length = 0; walk = stay; short = omega arith }
led I r (arc ∷ arcs) grows v there = by_start (led I (arc.1 ∷ r) arcs grows.3 v there)
  where
    linked : (o : Option ℕ) → IsSome o → o ≡ Some (unwrap_or o 0)
    linked None some = cc
    linked (Some c) some = refl

    along : (cost : ℕ) → IsWalk I.links arc.1 v cost → IsWalk I.links arc.0 v (arc_cost I arc + cost)
    along cost rest = walks_on I.links arc.0 arc.1 v (arc_cost I arc) cost (subst (IsWalk I.links arc.0 arc.1) (omega arith) (on stay (linked (link I.links arc.0 arc.1) grows.0))) rest

    by_start : IsLed I (arc.1 ∷ r) v (total (arc_cost I) arcs) → IsLed I r v (arc_cost I arc + total (arc_cost I) arcs)
    by_start is = elim (or_cases (arc.1 == is.from) (has r is.from) is.among) [
      | inl same ↦ record {
        from = arc.0;
        among = grows.1;
        length = arc_cost I arc + is.length;
        walk = along is.length (subst (λ (w : ℕ). IsWalk I.links w v is.length) (sym (eqb-true arc.1 is.from same)) is.walk);
        short = (let short = is.short in omega (arith, short));
      }
      | inr before ↦ record { from = is.from; among = before; length = is.length; walk = is.walk; short = (let short = is.short in omega (arith, short)) }
    ]

-- between any two vertices of a tree
pub between : (I : Network) (t : Tree) (u v : ℕ) → IsArborescence I t → IsTrue (has (reached t) u) → IsTrue (has (reached t) v) → (cost : ℕ) × IsWalk I.links u v cost × (cost ≤ 2 * total (arc_cost I) t.arcs)
between I t u v is first second =
    let a = led I (t.start ∷ []) t.arcs is.grows u first in
    let b = led I (t.start ∷ []) t.arcs is.grows v second in
    let out = subst (λ (w : ℕ). IsWalk I.links w u a.length) (sym (has-one t.start a.from a.among)) a.walk in
    let home = subst (λ (w : ℕ). IsWalk I.links w v b.length) (sym (has-one t.start b.from b.among)) b.walk in
    (a.length + b.length, walks_on I.links u t.start v a.length b.length (walks_back I.links t.start u a.length out) home, (let low = a.short in let high = b.short in omega (arith, low, high)))

-- who is reached beside another one has a link
alone_at_end : (links : List Link) (p v cost : ℕ) → IsWalk links p v cost → (p ≡ v → ⊥) → ((w : ℕ) → link links v w ≡ None) → ⊥
alone_at_end links p v cost stay differs none = differs refl
alone_at_end links p v cost (on {v = u} {w} {c = before} {d} way step) differs none =
    let back : link links w u ≡ Some d = link-comm links w u ∙ step in
    let gone = none u in
    let clash : ⊥ = cc in
    clash

pub reached_linked : (I : Network) (t : Tree) (p v : ℕ) → IsTree I t → IsTerminal I p → IsTrue (has (reached t) v) → (p ≡ v → ⊥) → ((w : ℕ) → link I.links v w ≡ None) → ⊥
reached_linked I t p v tree terminal there differs none =
    let way = between I t p v tree.arborescence (tree.required p terminal.vertex terminal.required) there in
    alone_at_end I.links p v way.0 way.1 differs none

-- ---- who is reached is present

walk_present : (g : Graph) (u v cost : ℕ) → IsGraph g → IsTrue (is_in g u) → IsWalk g.network.links u v cost → IsTrue (is_in g v)
walk_present g u v cost graph here stay = here
walk_present g u v cost graph here (on {v = w} {w = x} way step) = (linked_present g w x graph (ap is_some step)).1

-- where a terminal is present
pub tree_present : (g : Graph) (t : Tree) (v : ℕ) → IsGraph g → IsTree g.network t → IsTerminal g.network v → IsTrue (is_in g v) → ReachesPresent g t
tree_present g t v graph tree terminal here w there =
    let way = between g.network t v w tree.arborescence (tree.required v terminal.vertex terminal.required) there in
    walk_present g v w way.0 graph here way.1

-- ---- no tree

-- where a terminal isn't joined, and no walk to such a one costs less than the greatest number of 64 bits
pub no_tree : (I : Network) (t : Tree) (order : List ℕ) (first q : ℕ) → IsInstance I → IsTerminal I first → IsTrue (has order first) → IsTerminal I q → IsFalse (has order q) → NoneIsNearer I order (2 ^ 64 - 1) → IsTree I t → ⊥
no_tree I t order first q instance terminal there other out near tree =
    let way = between I t first q tree.arborescence (tree.required first terminal.vertex terminal.required) (tree.required q other.vertex other.required) in
    let far = near first q way.0 there other out way.1 in
    let part = links_fit I (t.start ∷ []) t.arcs (length t.arcs) instance tree.arborescence.grows in
    let all = ap (total (arc_cost I)) (take_all (length t.arcs) t.arcs (omega arith)) in
    let short = way.2 in
    omega (arith, far, part, all, short)

-- ---- what a tree costs where nobody pays

pub free_cost : (I : Network) (t : Tree) → NobodyPays I → cost I t ≡ total (arc_cost I) t.arcs
free_cost I t free =
    let none = sum_to_same (missed I (reached t)) (λ _. 0) I.n (λ v low high. at v (has (reached t) v) (free v (low, high))) in
    let sum = sum_to_none I.n in
    omega (arith, none, sum)
  where
    at : (v : ℕ) (b : Bool) → pays I v ≡ 0 → cond b 0 (pays I v) ≡ 0
    at v true is = refl
    at v false is = is

-- what a tree costs for which all terminals were joined
pub within_twice : (I : Network) (t : Tree) (first : ℕ) (order : List ℕ) (paid : ℕ) → IsInstance I → IsTerminal I first → AreJoined I first order paid → ((v : ℕ) → IsTerminal I v → IsTrue (has order v)) → cost I t ≤ paid → IsWithinTwice I t
within_twice I t first order paid instance terminal joined all cheap s tree some =
    let law = nearest_is_within_twice I first order paid s instance terminal joined all tree in
    let less = mul-le (terminal_count I) (cost I t) (terminal_count I) paid (omega arith) cheap in
    omega (arith, law, less)

-- ---- how many terminals there are

pub some_terminal : (I : Network) (v : ℕ) → IsTerminal I v → 1 ≤ terminal_count I
some_terminal I v terminal =
    let one = sum_to_one v 1 I.n terminal.vertex.0 terminal.vertex.1 in
    let more = sum_to_le (λ w. cond (v == w) 1 0) (λ w. cond (is_required I w) 1 0) I.n (λ w low high. at w (v == w) (is_required I w) refl refl) in
    omega (arith, one, more)
  where
    at : (w : ℕ) (a b : Bool) → (v == w) ≡ a → is_required I w ≡ b → cond a 1 0 ≤ cond b 1 0
    at w true true same is = omega arith
    at w true false same is = absurd (false≢true (sym is ∙ subst (λ (x : ℕ). is_required I x ≡ true) (eqb-true v w same) terminal.required))
    at w false b same is = omega arith

pub no_terminal : (I : Network) → ((v : ℕ) → IsTerminal I v → ⊥) → terminal_count I ≡ 0
no_terminal I none = sum_to_same (λ w. cond (is_required I w) 1 0) (λ _. 0) I.n (λ v low high. at v (low, high) (is_required I v) refl) ∙ sum_to_none I.n
  where
    at : (v : ℕ) → IsVertex I.n v → (b : Bool) → is_required I v ≡ b → ◌≡◌ {A = ℕ} (cond b 1 0) 0
    at v vertex true is = absurd (none v (record { vertex = vertex; required = is }))
    at v vertex false is = refl
