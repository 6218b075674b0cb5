-- What a search found in what steps leave is, led back, an outcome with its certificate, and so is a wall.
use Rattle.std.proofs.Common.{◌≡◌, ℕ, ◌+◌, ◌-◌, ◌^◌, ◌<◌, ◌≤◌, Bool, List, [], ◌∷◌, refl, subst, inl, inr, arith}
use Rattle.std.specs.Prelude.{IsFalse, min}
use Rattle.std.proofs.Math.Pow.{pow_mono}
use Rattle.std.proofs.lemmas.Bool.Decides.{nat_tests}
use Rattle.amounts.specs.declared.scale.Scale.{Scale}
use Rattle.st_model.specs.declared.tree.Tree.{Tree}
use Rattle.st_model.specs.Network.{Network, IsInstance}
use Rattle.st_model.specs.Arborescence.{IsBound}
use Rattle.st_model.specs.Linked.{linked_pairs, open_pairs}
use Rattle.st_model.specs.Terminals.{NobodyPays}
use Rattle.st_model.specs.Wall.{IsWall}
use Rattle.lift_back.specs.declared.step.Step.{Step}
use Rattle.lift_back.specs.State.{State, whole}
use Rattle.lift_back.specs.Steps.{Applies}
use Rattle.log_format.specs.declared.log.Log.{Log}
use Rattle.log_format.specs.declared.log.Claim.{Claim}
use Rattle.log_format.specs.declared.log.Claim.TheVariants as claim
use Rattle.log_format.specs.declared.log.Version.TheVariants.{Two}
use Rattle.log_format.specs.Accepts.{AcceptedHolds, Holds, ProvesFrom, left_of, left_over}
use Rattle.log_format.specs.Text.{IsWritableSet}
use Rattle.search_core.specs.FreeVertices.{free_count}
use Rattle.search_core.specs.ReadOff.{least_weight}
use Rattle.certificate_log.specs.Assembled.{IsAssembled}
use Rattle.certificate_log.specs.Spent.{IsSpent}
use Rattle.arborescence.specs.Problem.{plain}
use Rattle.twice_tree.specs.Twice.{IsWithinTwice}
use Rattle.steiner_top.specs.declared.best.Best.{Best}
use Rattle.steiner_top.specs.declared.outcome.Outcome.{Outcome}
use Rattle.steiner_top.specs.declared.outcome.Outcome.TheVariants.{Found, Directed, NoTree}
use Rattle.steiner_top.specs.Left.{IsBestOf, IsClaimOf, IsShownBy}
use Rattle.steiner_top.specs.Outcome.{AreSteps, IsCertificate, IsFound, IsGreatestBound, IsOutcome, IsWithoutTree, free_vertices}
use Rattle.steiner_top.proofs.FewerLinks.{few_links_to_split}
use Rattle.steiner_top.proofs.Remaining.{few_to_split, proved_of_both}
use Rattle.steiner_top.proofs.WithinTwice.{outcome_within}

-- a bound of what is left, and what is paid besides
bound_back : (x offset least light primal dual : ℕ) → primal ≡ least + offset → dual ≡ min primal (offset + light) → x - offset ≤ min least light → x ≤ dual
bound_back x offset least light primal dual p d low = grind (arith, nat_tests)

-- a search in what is left, and the log that is made of it
pub record IsLed (nodes : ℕ) (plain links : Bool) (I : Network) (steps : List Step) (s : State) (b : Best) (log : Log) : Type 0 where
  pub instance : IsInstance I
  pub applies : Applies steps (whole I) s
  pub taken : AreSteps plain steps s
  pub best : IsBestOf s nodes links b
  pub assembled : IsAssembled steps I s b.search.gathered log

module _ (nodes : ℕ) (plain links : Bool) (I : Network) (steps : List Step) (s : State) (b : Best) (log : Log) (h : IsLed nodes plain links I steps s b log) where
  abbrev a : IsAssembled steps I s b.search.gathered log
  a = h.assembled

  greatest : IsGreatestBound I steps a.primal a.dual a.proof
  greatest x below (t, applies, proves) =
      let here : ProvesFrom s x a.proof = proved_of_both I steps t s x a.proof applies h.applies proves in
      let primal = a.is_primal in
      let less : x - s.offset ≤ b.search.gathered.least = omega (arith, below, primal) in
      bound_back x s.offset b.search.gathered.least (least_weight s.instance (left_over s) a.read) a.primal a.dual primal a.is_dual (a.greatest (left_of x s) less here)

  spent : a.dual < a.primal → IsSpent nodes s.instance (left_over s) (left_of a.primal s) a.proof
  spent below =
      let primal = a.is_primal in
      let same : b.search.gathered.least ≡ left_of a.primal s = omega (arith, primal) in
      subst (λ (x : ℕ). IsSpent nodes s.instance (left_over s) x a.proof) same (a.spent b.search.start nodes h.best.searched.complete h.best.searched.finished below)

  all_spent : a.dual < a.primal → b.search.gathered.claimed ≡ nodes
  all_spent below = elim h.best.searched.finished.spent [
    | inl none ↦ let same = a.whole none in absurd (omega (arith, same, below))
    | inr all ↦ all
  ]

  certified : IsCertificate nodes plain links I a.tree a.primal a.dual b.search.gathered.claimed (b.search ∷ []) log
  certified = record {
    steps = steps;
    proof = a.proof;
    claims = a.claims;
    left = s;
    applies = h.applies;
    reduced = h.taken;
    search = b.search;
    searched = h.best.searched;
    only = refl;
    expanded_is = refl;
    assembled = a;
    greatest = greatest;
    spent = spent;
    all_spent = all_spent;
    is_log = a.is_log;
    accepted = a.accepted;
  }

  -- as many nodes as suffice for the instance suffice for what is left of it
  enough : IsFalse links → 2 ^ (free_vertices I + 1) ≤ nodes → a.dual ≡ a.primal
  enough no_links budget =
      let few = few_to_split I steps s h.applies in
      let less : 2 ^ (free_count s.instance (left_over s) + 1) ≤ 2 ^ (free_vertices I + 1) = pow_mono (omega (arith, few)) in
      a.enough b.search.start nodes h.best.searched.complete h.best.searched.finished (h.best.searched.sites no_links) (omega (arith, less, budget))

  enough_with_links : 2 ^ (free_vertices I + linked_pairs I + 1) ≤ nodes → a.dual ≡ a.primal
  enough_with_links budget =
      let few = few_to_split I steps s h.applies in
      let pairs = few_links_to_split I steps s h.instance h.applies in
      let less : 2 ^ (free_count s.instance (left_over s) + open_pairs s.instance (left_over s) + 1) ≤ 2 ^ (free_vertices I + linked_pairs I + 1) = pow_mono (omega (arith, few, pairs)) in
      a.enough_with_links b.search.start nodes h.best.searched.complete h.best.searched.finished (omega (arith, less, budget))

  is_bound : AcceptedHolds → IsBound I a.dual
  is_bound holds = (subst (Holds I) a.claims (holds I log h.instance a.accepted)).2

  -- the tree is the best one of what is left, led back
  near : NobodyPays I → IsWithinTwice I a.tree
  near free =
      let cost_is = a.is_cost in
      let primal = a.is_primal in
      let least = h.best.is_least in
      outcome_within I steps s b.tree a.tree h.instance h.applies h.best.near (omega (arith, cost_is, primal, least)) free

  own : AcceptedHolds → IsFound nodes plain links I a.tree a.primal a.dual b.search.gathered.claimed (b.search ∷ []) log
  own holds = record {
    is_tree = a.is_tree;
    is_cost = a.is_cost;
    is_bound = is_bound holds;
    is_below = a.is_below;
    near = near;
    certified = certified;
    enough = enough;
    enough_with_links = enough_with_links;
  }

  -- what the log claims is what it was made for
  claimed_found : (tree : Tree) (primal dual : ℕ) → AcceptedHolds → IsClaimOf log.claim tree primal dual → IsFound nodes plain links I tree primal dual b.search.gathered.claimed (b.search ∷ []) log
  claimed_found tree primal dual holds claims =
      let (same_tree, same_primal, same_dual) = subst (λ (c : Claim). IsClaimOf c tree primal dual) a.claims claims in
      subst (λ (t : Tree). IsFound nodes plain links I t primal dual b.search.gathered.claimed (b.search ∷ []) log) same_tree
      (subst (λ (p : ℕ). IsFound nodes plain links I a.tree p dual b.search.gathered.claimed (b.search ∷ []) log) same_primal
      (subst (λ (d : ℕ). IsFound nodes plain links I a.tree a.primal d b.search.gathered.claimed (b.search ∷ []) log) same_dual (own holds)))

  -- so is what the log shows
  pub shown_outcome : (unit : Scale) (o : Outcome) → AcceptedHolds → IsShownBy b.search.gathered.claimed (b.search ∷ []) log unit o → IsOutcome nodes plain links I unit o
  shown_outcome unit (Found tree primal dual expanded searches certificate scale) holds (claims, expanded_is, searches_is, certificate_is, scale_is) =
      (rw (expanded_is, searches_is, certificate_is) (claimed_found tree primal dual holds claims), scale_is)
  shown_outcome unit (Directed tree primal dual expanded certificate scale) holds none = absurd none
  shown_outcome unit (NoTree certificate) holds none = absurd none

-- a wall says that there is no tree
pub without_tree : (I : Network) (wall : List ℕ) → AcceptedHolds → IsInstance I → IsWritableSet wall → IsWall I wall → IsWithoutTree (plain I) (record { version = Two; claim = claim.NoTree wall })
without_tree I wall holds instance set h = record {
  wall = wall;
  none = holds I (record { version = Two; claim = claim.NoTree wall }) instance h;
  version = refl;
  claims = refl;
  is_log = record { in_range = set; one_proof = tt };
  accepted = h;
}
