-- What joining one by one ends with: all are joined, or there is no tree.
use Rattle.std.proofs.Common.{◌≡◌, ℕ, ◌-◌, ◌^◌, ◌<◌, ◌≤◌, Bool, true, cond, ◌⊎◌, inl, inr, List, [], ◌∷◌, length, Option, Some, None, refl, sym, ap, subst, ◌∙◌, arith}
use Rattle.std.specs.Prelude.{◌==◌, All, IfSome, IsTrue, IsFalse}
use Rattle.std.specs.declared.cmp.Reverse.{Reverse}
use Rattle.std.proofs.lemmas.Bool.{eqb-true, false≢true, or_cases}
use Rattle.std.proofs.lemmas.List.Elements.{All-nil}
use Rattle.st_model.specs.declared.tree.Tree.{Tree}
use Rattle.st_model.specs.Arborescence.{IsArborescence, IsTree, arc_cost, reached}
use Rattle.st_model.specs.Branch.{AreThose, all_trees}
use Rattle.st_model.specs.Lists.{has, total}
use Rattle.st_model.specs.Network.{Network, IsInstance, IsVertex, is_required}
use Rattle.st_model.specs.Terminals.{IsTerminal, NobodyPays, terminal_count}
use Rattle.st_model.proofs.Branches.{IsVertexSet-member}
use Rattle.st_model.proofs.Distinct.{has-cons_head, has-cons_tail}
use Rattle.st_model.proofs.Marked.{AllApart-from_increasing}
use Rattle.st_model.proofs.Sums.{sum_to_same}
use Rattle.st_model.proofs.ThinGrowth.{has-reached_from}
use Rattle.graph_store.specs.Graph.{Graph, IsGraph, is_in}
use Rattle.graph_store.proofs.PutLinks.{in_range}
use Rattle.short_paths.specs.Laid.{spent}
use Rattle.tree_heuristic.specs.Reaching.{HasNoTree, ReachesPresent}
use Rattle.twice_tree.specs.declared.cells.Cells.{Cells}
use Rattle.twice_tree.specs.declared.joining.Joining.{Joining}
use Rattle.twice_tree.specs.declared.offers.Offer.{Offer}
use Rattle.twice_tree.specs.Cells.{AreCells}
use Rattle.twice_tree.specs.Joining.{IsJoining}
use Rattle.twice_tree.specs.Twice.{AreJoined, alone, next, IsWithinTwice}
use Rattle.twice_tree.proofs.Joined.{joined_once, joined_terminal, none_is_nearer}
use Rattle.twice_tree.proofs.Reached.{no_tree, free_cost, within_twice, tree_present, no_terminal}
use Rattle.twice_tree.proofs.Within.{each_once, few}

joined_first : (I : Network) (first : ℕ) (order : List ℕ) (paid : ℕ) → AreJoined I first order paid → IsTrue (has order first)
joined_first I first order paid alone = has-cons_head [] first first refl
joined_first I first order paid (next {joined} {spent = before} {k} {d} way new out near) = has-cons_tail joined k first (joined_first I first joined before way)

-- what is listed is a terminal
pub those_terminal : (I : Network) (terminals : List ℕ) (v : ℕ) → AreThose (is_required I) I.n terminals → IsTrue (has terminals v) → IsTerminal I v
those_terminal I terminals v those there =
    let vertex = IsVertexSet-member I.n terminals v those.set there in
    record { vertex = vertex; required = sym (those.same v vertex) ∙ there }

-- where one that is listed isn't joined, fewer are joined than listed
fewer_joined : (I : Network) (first : ℕ) (order terminals : List ℕ) (paid q : ℕ) → IsTerminal I first → AreJoined I first order paid → AreThose (is_required I) I.n terminals → IsTrue (has terminals q) → IsFalse (has order q) → length order < length terminals
fewer_joined I first order terminals paid q terminal joined those listed out =
    let apart = AllApart-from_increasing terminals those.set.ascending in
    let all = each_once I.n terminals apart (λ v there. (those_terminal I terminals v those there).vertex) in
    let count = sum_to_same (λ v. cond (has terminals v) 1 0) (λ v. cond (is_required I v) 1 0) I.n (λ v low high. ap (λ (b : Bool). cond b 1 0) (those.same v (low, high))) in
    let most = few I (q ∷ order) (out, joined_once I first order paid joined) (λ v there. member v (or_cases (q == v) (has order v) there)) in
    omega (arith, all, count, most)
  where
    member : (v : ℕ) → ((q == v) ≡ true) ⊎ (has order v ≡ true) → IsTerminal I v
    member v (inl same) = subst (IsTerminal I) (eqb-true q v same) (those_terminal I terminals q those listed)
    member v (inr there) = joined_terminal I first order paid terminal joined v there

module _ (I : Network) (c : Cells) (j : Joining) (terminals : List ℕ) (is : IsJoining I c j j.opening.offers) (those : AreThose (is_required I) I.n terminals) where
  ordered : ((v : ℕ) → IsTrue (has terminals v) → IsTrue (has j.joined.members v)) → (v : ℕ) → IsTerminal I v → IsTrue (has is.order v)
  ordered all v t = sym (is.same v) ∙ all v (those.same v t.vertex ∙ t.required)

  -- all are joined
  pub laid_tree : ((v : ℕ) → IsTrue (has terminals v) → IsTrue (has j.joined.members v)) → (t : Tree) → IsArborescence I t → ((v : ℕ) → has (reached t) v ≡ has j.laid.reached.members v) → IsTree I t
  laid_tree all t arborescence same = record {
    arborescence = arborescence;
    required = λ v vertex required. same v ∙ is.reached v (ordered all v (record { vertex = vertex; required = required }));
  }

  pub laid_twice : ((v : ℕ) → IsTrue (has terminals v) → IsTrue (has j.joined.members v)) → IsInstance I → NobodyPays I → (t : Tree) → total (arc_cost I) t.arcs ≡ spent I j.laid → IsWithinTwice I t
  laid_twice all instance free t sum =
      let whole = free_cost I t free in
      let cheap = is.cheap in
      within_twice I t is.first is.order is.paid instance is.terminal is.are_joined (ordered all) (omega (arith, whole, cheap, sum))

  -- or one isn't, and no link leads on
  pub left_alone : AreCells I c → (length terminals ≤ length j.joined.members) ⊎ (j.opening.offers ≡ []) → (q : ℕ) → IsTrue (has terminals q) → IsFalse (has j.joined.members q) → (t : Tree) → IsTree I t → ⊥
  left_alone cells (inl all) q listed out t tree =
      let fewer = fewer_joined I is.first is.order terminals is.paid q is.terminal is.are_joined those listed (sym (is.same q) ∙ out) in
      let many = is.many in
      absurd (omega (arith, fewer, many, all))
  left_alone cells (inr none) q listed out t tree =
      let low = subst (All (λ (o : Reverse Offer). 2 ^ 64 - 1 ≤ o.0.cost)) (sym none) (All-nil (λ (o : Reverse Offer). 2 ^ 64 - 1 ≤ o.0.cost)) in
      let near = none_is_nearer I c is.first is.order is.paid j.opening.least.items j.opening.offers (2 ^ 64 - 1) cells.instance cells is.terminal is.are_joined is.low is.told (omega arith) low in
      no_tree I t is.order is.first q cells.instance is.terminal (joined_first I is.first is.order is.paid is.are_joined) (those_terminal I terminals q those listed) (sym (is.same q) ∙ out) near tree

-- ---- what is found

pub found_present : (g : Graph) (v : ℕ) (found : Option Tree) → IsGraph g → IsTerminal g.network v → IsTrue (is_in g v) → IfSome found (IsTree g.network) → IfSome found (ReachesPresent g)
found_present g v None graph terminal here tree = tt
found_present g v (Some t) graph terminal here tree = tree_present g t v graph tree terminal here

pub found_lone : (I : Network) (found : Option Tree) → 1 ≤ terminal_count I → IfSome found (λ t. terminal_count I ≡ 0 → t.arcs ≡ [])
found_lone I None some = tt
found_lone I (Some t) some = λ none. absurd (omega (arith, none, some))

-- ---- a vertex alone

lone_is : (t : Tree) → t.arcs ≡ [] → record { start = t.start; arcs = [] } ≡ t
lone_is t none = ap (λ (arcs : List (ℕ × ℕ)). record { start = t.start; arcs = arcs }) (sym none)

lone_tree : (g : Graph) (start : ℕ) → IsGraph g → ((v : ℕ) → IsTerminal g.network v → ⊥) → IsTrue (is_in g start) → IsTree g.network (record { start = start; arcs = [] })
lone_tree g start graph none here = record {
  arborescence = record { start = in_range g start graph here; grows = tt };
  required = λ v vertex required. absurd (none v (record { vertex = vertex; required = required }));
}

module _ (g : Graph) (graph : IsGraph g) (none : (v : ℕ) → IsTerminal g.network v → ⊥) where
  pub lone_found_tree : (found : Option Tree) → IfSome found (λ t. IsTrue (is_in g t.start)) → IfSome found (λ t. t.arcs ≡ []) → IfSome found (IsTree g.network)
  lone_found_tree None here lone = tt
  lone_found_tree (Some t) here lone = subst (IsTree g.network) (lone_is t lone) (lone_tree g t.start graph none here)

  pub lone_found_twice : (found : Option Tree) → IfSome found (IsWithinTwice g.network)
  lone_found_twice None = tt
  lone_found_twice (Some t) = λ s tree some. absurd (let zero_of = no_terminal g.network none in omega (arith, zero_of, some))

-- where nobody is present
pub none_present : (g : Graph) → ((v : ℕ) → IsVertex g.network.n v → IsFalse (is_in g v)) → HasNoTree g all_trees
none_present g none t tree reaches present =
    let here = present t.start (has-reached_from (t.start ∷ []) t.arcs t.start (has-cons_head [] t.start t.start refl)) in
    false≢true (sym (none t.start tree.arborescence.start) ∙ here)

-- where all that are listed are in an empty set, there is none
pub none_listed : (I : Network) (terminals set : List ℕ) → AreThose (is_required I) I.n terminals → set ≡ [] → ((v : ℕ) → IsTrue (has terminals v) → IsTrue (has set v)) → (v : ℕ) → IsTerminal I v → ⊥
none_listed I terminals set those empty all v terminal = false≢true (ap (λ (xs : List ℕ). has xs v) (sym empty) ∙ all v (those.same v terminal.vertex ∙ terminal.required))
