-- What solving a drawn instance gave is what `trial` is answered with.
use Rattle.std.proofs.Common.{◌≡◌, ◌⊎◌, inl, inr, ℕ, ◌<◌, Bool, true, false, not, cond, eqb, List, Some, refl, sym, subst, ap, ap₂, ◌∙◌, arith}
use Rattle.std.proofs.lemmas.Bool.Decides.{nat_tests}
use Rattle.amounts.specs.declared.scale.Scale.{Scale}
use Rattle.amounts.specs.declared.scale.Scale.TheVariants.{Whole}
use Rattle.st_model.specs.declared.tree.Tree.{Tree}
use Rattle.st_model.specs.Lists.{has}
use Rattle.st_model.specs.Network.{Network}
use Rattle.st_model.specs.Arborescence.{IsBest, cost}
use Rattle.st_model.specs.Wall.{IsWall}
use Rattle.instance_gen.specs.Generated.{AreInRange}
use Rattle.instance_gen.specs.Laws.{IsConnected, GeneratedAreConnected}
use Rattle.log_format.specs.declared.log.Log.{Log}
use Rattle.log_format.specs.Accepts.{AcceptsClaim}
use Rattle.search_core.specs.declared.gathered.Searched.{Searched}
use Rattle.command_line.specs.declared.cmd.DrawWords.{DrawWords as Numbers}
use Rattle.command_line.specs.declared.cmd.TrialWords.{TrialWords as Trial}
use Rattle.command_line.specs.Seen.{trial_words}
use Rattle.command_line.specs.Words.{TrialWords}
use Rattle.steiner_top.specs.declared.outcome.Outcome.{Outcome}
use Rattle.steiner_top.specs.declared.outcome.Outcome.TheVariants.{Found, Directed, NoTree}
use Rattle.steiner_top.specs.declared.status.Status.{Status}
use Rattle.steiner_top.specs.declared.status.Status.TheVariants.{Optimal, Budget}
use Rattle.steiner_top.specs.Answer.{status_of_outcome}
use Rattle.steiner_top.specs.Drawn.{HasTree, IsSummary, IsTried, tried_instance}
use Rattle.steiner_top.specs.Outcome.{IsFound, IsOutcome}
use Rattle.steiner_top.specs.Output.{summary}

-- no wall stands in a connected instance: it holds the first vertex and so all, or leaves it out and so all
no_wall : (I : Network) (wall : List ℕ) → IsConnected I → IsWall I wall → ⊥
no_wall I wall connected h = by_case (has wall 1) refl
  where
    by_case : (b : Bool) → has wall 1 ≡ b → ⊥
    by_case true first = let held = connected (has wall) first h.uncrossed h.outside.0 h.outside.1 in let left = h.outside.3 in absurd cc
    by_case false first =
        let left = connected (λ v. not (has wall v)) (ap not first) (λ u v l. ap not (h.uncrossed u v l)) h.inside.0 h.inside.1 in
        let held : has wall h.inside.0 ≡ true = h.inside.3 in
        let bad : false ≡ true = ap not (sym held) ∙ left in
        absurd cc

-- so solving it gives a tree
has_tree : (nodes : ℕ) (plain links : Bool) (I : Network) (scale : Scale) (outcome : Outcome) → IsConnected I → IsOutcome nodes plain links I scale outcome → HasTree outcome
has_tree nodes plain links I unit (Found tree primal dual expanded searches log scale) connected h = tt
has_tree nodes plain links I unit (Directed tree primal dual expanded log scale) connected h = absurd h
has_tree nodes plain links I unit (NoTree log) connected h = no_wall I h.wall connected (subst (AcceptsClaim I) h.claims h.accepted)

-- a tree whose cost is a bound is a best one
best_tree : (nodes : ℕ) (plain links : Bool) (I : Network) (tree : Tree) (primal dual expanded : ℕ) (searches : List Searched) (log : Log) → IsFound nodes plain links I tree primal dual expanded searches log → dual ≡ primal → IsBest I tree
best_tree nodes plain links I tree primal dual expanded searches log h same = record {
  tree = h.is_tree;
  least = λ t is. let below = h.is_bound t is in let cost_is = h.is_cost in omega (arith, below, cost_is, same);
}

-- all best trees cost the same
best_cost : (I : Network) (t u : Tree) → IsBest I t → IsBest I u → cost I t ≡ cost I u
best_cost I t u first second = let low = first.least u second.tree in let high = second.least t first.tree in omega (arith, low, high)

tried_found : (w : TrialWords) (status : Status) (tree : Tree) (primal dual expanded : ℕ) (searches : List Searched) (log : Log) (text : List ℕ)
    → IsFound 1000000 false false (tried_instance w) tree primal dual expanded searches log → text ≡ summary primal dual → ((status ≡ Optimal) × (dual ≡ primal)) ⊎ ((status ≡ Budget) × (dual < primal))
    → IsTried w status (Some (Found tree primal dual expanded searches log Whole)) text
tried_found w status tree primal dual expanded searches log text h is ends = record {
  tree = tree;
  primal = primal;
  dual = dual;
  expanded = expanded;
  searches = searches;
  certificate = log;
  given = refl;
  found = h;
  text = is;
  ends = ends;
  best = λ optimal. best_tree 1000000 false false I tree primal dual expanded searches log h (reached optimal);
  only = λ optimal t best. is ∙ ap₂ summary (costs optimal t best) (reached optimal ∙ costs optimal t best);
} where
  I : Network
  I = tried_instance w

  reached : status ≡ Optimal → dual ≡ primal
  reached optimal = elim ends [
    | inl e ↦ e.1
    | inr e ↦ let bad : Optimal ≡ Budget = sym optimal ∙ e.0 in absurd cc
  ]

  costs : status ≡ Optimal → (t : Tree) → IsBest I t → primal ≡ cost I t
  costs optimal t best = h.is_cost ∙ best_cost I tree t (best_tree 1000000 false false I tree primal dual expanded searches log h (reached optimal)) best

-- what solving the instance gave is what is sent, as a summary
pub tried : (w : TrialWords) (outcome : Outcome) (text : List ℕ) → IsOutcome 1000000 false false (tried_instance w) Whole outcome → IsSummary outcome text → IsTried w (status_of_outcome outcome) (Some outcome) text
tried w (Found tree primal dual expanded searches log scale) text h is = subst (λ q. IsTried w (cond (eqb dual primal) Optimal Budget) (Some (Found tree primal dual expanded searches log q)) text) (sym h.1) (by_case (eqb dual primal) refl)
  where
    by_case : (b : Bool) → eqb dual primal ≡ b → IsTried w (cond b Optimal Budget) (Some (Found tree primal dual expanded searches log Whole)) text
    by_case true same = tried_found w Optimal tree primal dual expanded searches log text h.0 is (inl (refl, grind (arith, nat_tests)))
    by_case false apart = let below = h.0.is_below in tried_found w Budget tree primal dual expanded searches log text h.0 is (inr (refl, grind (arith, nat_tests)))
tried w (Directed tree primal dual expanded log scale) text h is = absurd is
tried w (NoTree log) text h is = absurd is

-- the numbers of the words are in their ranges
numbers_in_range : (w : Numbers) → AreInRange w.seed w.n w.m w.t
numbers_in_range w = record {
  seed_low = w.some_seed;
  seed_high = w.small_seed;
  some_vertex = w.some_vertex;
  few_vertices = w.few_vertices;
  enough_links = w.enough_links;
  few_links = w.few_links;
  some_chosen = w.some_chosen;
  chosen_are_vertices = w.chosen_are_vertices;
}

-- so solving what they say gives a tree
pub drawn_has_tree : (w : Trial) (I : Network) (scale : Scale) (outcome : Outcome) → GeneratedAreConnected → I ≡ tried_instance (trial_words w) → IsOutcome 1000000 false false I scale outcome → HasTree outcome
drawn_has_tree w I scale outcome law is h =
    let connected = law w.drawn.seed w.drawn.n w.drawn.m w.drawn.t false (numbers_in_range w.drawn) in
    has_tree 1000000 false false I scale outcome (subst IsConnected (sym is) connected) h
