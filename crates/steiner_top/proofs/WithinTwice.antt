-- A start that costs at most twice the least, less a share, and what that says of an outcome.
use Rattle.std.proofs.Common.{◌≡◌, ℕ, ◌+◌, ◌-◌, ◌*◌, ◌≤◌, true, List, [], ◌∷◌, Option, Some, None, refl, sym, ap, subst, ◌∙◌, arith}
use Rattle.std.specs.Prelude.{IsTrue}
use Rattle.std.proofs.lemmas.Bool.{false≢true, false_from_ne_true}
use Rattle.std.proofs.lemmas.Nat.{mul-le}
use Rattle.st_model.specs.declared.branch.Branch.{Branch}
use Rattle.st_model.specs.declared.tree.Tree.{Tree}
use Rattle.st_model.specs.Arborescence.{IsTree, cost, reached}
use Rattle.st_model.specs.Branch.{all_trees, ReachesAsTold}
use Rattle.st_model.specs.Lists.{has}
use Rattle.st_model.specs.Network.{Network, IsInstance, is_needed, is_required}
use Rattle.st_model.specs.Terminals.{IsTerminal, NobodyPays, terminal_count}
use Rattle.graph_store.specs.Graph.{Graph, is_in}
use Rattle.graph_store.specs.Whole.{IsWholeOf}
use Rattle.tree_heuristic.specs.Reaching.{HasNoTree}
use Rattle.lift_back.specs.declared.step.Step.{Step}
use Rattle.lift_back.specs.State.{State, IsState, whole}
use Rattle.lift_back.specs.Steps.{Applies}
use Rattle.lift_back.proofs.Beginning.{whole_state}
use Rattle.lift_back.proofs.Stepwise.{steps_keep_the_least}
use Rattle.log_format.specs.Accepts.{left_over}
use Rattle.search_core.specs.declared.gathered.Segment.{Segment}
use Rattle.search_core.specs.Complete.{least_found, less_found}
use Rattle.twice_tree.specs.Twice.{IsWithinTwice}
use Rattle.log_format.proofs.AllTrees.{belongs_to_all}
use Rattle.twice_tree.proofs.Reached.{no_terminal, reached_linked}
use Rattle.steiner_top.specs.Left.{LeavesOutLone}
use Rattle.steiner_top.proofs.KeepingTerminals.{steps_keep_terminals, shared}
use Rattle.steiner_top.proofs.Starting.{reaches_present}

-- what costs no more
pub within_less : (I : Network) (t new : Tree) → cost I new ≤ cost I t → IsWithinTwice I t → IsWithinTwice I new
within_less I t new less within s tree some =
    let law = within s tree some in
    let product = mul-le (terminal_count I) (cost I new) (terminal_count I) (cost I t) (omega arith) less in
    omega (arith, law, product)

-- where nobody has to be reached, nothing is said
pub within_none : (I : Network) (t : Tree) → ((v : ℕ) → IsTerminal I v → ⊥) → IsWithinTwice I t
within_none I t none s tree some = absurd (let count = no_terminal I none in omega (arith, count, some))

-- ---- the start

-- who is gone is no terminal and has no links, so no tree that reaches a terminal reaches them
pub reaches_nobody_alone : (I : Network) (B : Branch) (t : Tree) (v : ℕ) → LeavesOutLone I B → IsTree I t → IsTerminal I v → ReachesAsTold B t
reaches_nobody_alone I B t v lone tree terminal = record {
  inside = λ w there. absurd (false≢true (ap (λ (xs : List ℕ). has xs w) (sym lone.inside) ∙ there));
  outside = λ w gone. false_from_ne_true (has (reached t) w) (λ there. reached_linked I t v w tree terminal there (λ same. false≢true (sym (lone.free w gone) ∙ subst (λ (x : ℕ). is_required I x ≡ true) same terminal.required)) (λ x. lone.alone w x gone));
}

-- all terminals are present where nobody is gone
pub terminals_present : (I : Network) (g : Graph) (v : ℕ) → IsWholeOf I g → IsTerminal g.network v → IsTrue (is_in g v)
terminals_present I g v of terminal = of.whole v terminal.vertex

-- there is a near tree where there is a tree
pub some_near : (I : Network) (g : Graph) (t : Tree) → IsInstance I → IsWholeOf I g → IsTree I t → HasNoTree g all_trees → ⊥
some_near I g t instance of tree none = none t (subst (λ (N : Network). IsTree N t) (sym of.network) tree) (belongs_to_all t).reaches (reaches_present I g t of instance tree)

-- who is gone of what is left
pub left_alone : (s : State) → IsState s → LeavesOutLone s.instance (left_over s)
left_alone s is = record {
  inside = refl;
  free = λ v gone. ap is_needed (is.idle v gone);
  alone = λ v w gone. is.alone v w gone;
}

-- ---- the outcome

least_at_most : (I : Network) (x : ℕ) (segments : List Segment) → least_found I x segments ≤ x
least_at_most I x [] = omega arith
least_at_most I x (s ∷ segments) = at s.best (least_at_most I x segments)
  where
    at : (o : Option Tree) → least_found I x segments ≤ x → less_found I o (least_found I x segments) ≤ x
    at None low = low
    at (Some t) low = omega (arith, low)

pub best_within : (I : Network) (start tree : Tree) (segments : List Segment) → cost I tree ≡ least_found I (cost I start) segments → (NobodyPays I → IsWithinTwice I start) → NobodyPays I → IsWithinTwice I tree
best_within I start tree segments least near free = within_less I start tree (let low = least_at_most I (cost I start) segments in omega (arith, least, low)) (near free)

-- what is left says it of the instance
pub outcome_within : (I : Network) (steps : List Step) (s : State) (best tree : Tree) → IsInstance I → Applies steps (whole I) s → (NobodyPays s.instance → IsWithinTwice s.instance best) → cost I tree ≡ cost s.instance best + s.offset → NobodyPays I → IsWithinTwice I tree
outcome_within I steps s best tree instance applies near is_cost free other other_tree some =
    let keeps = steps_keep_terminals steps (whole I) s applies in
    let (left, left_is, less) = steps_keep_the_least steps (whole I) s other (whole_state I instance) applies (record { tree = other_tree; avoids = λ v gone. absurd cc }) in
    let law = near (keeps.free free) left left_is.tree (keeps.some some) in
    let share = shared (terminal_count I) (terminal_count s.instance) (cost s.instance best) (cost s.instance left) s.offset (cost I other) (keeps.some some) keeps.fewer keeps.offset law (omega (arith, less)) in
    subst (λ (x : ℕ). terminal_count I * x ≤ 2 * (terminal_count I - 1) * cost I other) (sym is_cost) share
