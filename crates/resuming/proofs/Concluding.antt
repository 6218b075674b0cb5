-- A run that went on from a log, as a whole.
use Rattle.std.proofs.Common.{◌≡◌, ℕ, ◌+◌, ◌-◌, ◌<◌, ◌≤◌, ◌^◌, min, List, refl, sym, ap, ◌∙◌, subst, inl, inr, arith}
use Rattle.std.specs.Prelude.{All}
use Rattle.std.proofs.lemmas.List.Elements.{All-weaker}
use Rattle.st_model.specs.declared.split_at.SplitAt.TheVariants.{Vertex, Link}
use Rattle.st_model.specs.declared.tree.Tree.{Tree}
use Rattle.st_model.specs.Network.{Network, IsInstance}
use Rattle.st_model.specs.Arborescence.{IsTree, IsBound, cost}
use Rattle.cut_packing.specs.ProofTree.{ProofTree, Proves}
use Rattle.lift_back.specs.declared.step.Step.{Step}
use Rattle.lift_back.specs.Laws.{HasTreeWithin, StepsKeepTheLeast}
use Rattle.lift_back.specs.State.{State, whole}
use Rattle.lift_back.specs.Steps.{Applies}
use Rattle.lift_back.proofs.Beginning.{whole_state}
use Rattle.log_format.specs.declared.log.Log.{Log}
use Rattle.log_format.specs.declared.log.Version.{Version}
use Rattle.log_format.specs.declared.log.Version.TheVariants.{Two}
use Rattle.log_format.specs.declared.log.Claim.TheVariants.{Found}
use Rattle.log_format.specs.declared.proof_line.ProofLine.{ProofLine}
use Rattle.log_format.specs.declared.proof_line.ProofLine.TheVariants.{Split, Close}
use Rattle.log_format.specs.Accepts.{Accepts, AcceptedHolds, AcceptsClaim, AcceptsFound, Holds, left_of, left_over}
use Rattle.log_format.specs.Preorder.{preorder}
use Rattle.log_format.specs.Text.{IsClaimInRange, IsLog, IsWritableLine}
use Rattle.search_core.specs.declared.gathered.Searched.{Searched}
use Rattle.search_core.specs.Complete.{IsAtVertex, records}
use Rattle.search_core.specs.ReadOff.{least_weight}
use Rattle.certificate_log.proofs.Proved.{proved_below}
use Rattle.log_resume.specs.Closes.{closes_of}
use Rattle.log_resume.specs.Grafted.{AreSearchesIn, IsGraftOf, IsGrafted, IsProofOf}
use Rattle.log_resume.specs.Laws.{GraftedWeighs}
use Rattle.resuming.specs.declared.going_on.Gone.{Gone}
use Rattle.resuming.specs.GoingOn.{GoOn}
use Rattle.resuming.specs.InRest.{IsGoneIn}
use Rattle.resuming.specs.Resumed.{IsFirstStart, IsResumed, claimed_dual, claimed_primal, dual_of, expanded_by, primal_of}
use Rattle.resuming.proofs.Falling.{falls}
use Rattle.resuming.proofs.Grafting.{all_at_vertices, are_searches, same_proof}
use Rattle.resuming.proofs.Leaving.{proved_of_both}
use Rattle.resuming.proofs.Spending.{spent_or_shown}

-- ---- what is claimed

-- what an accepted log claims, where it claims a tree
pub record IsClaimed (I : Network) (log : Log) (primal dual : ℕ) (tree : Tree) (steps : List Step) (lines : List ProofLine) : Type 0 where
  pub instance : IsInstance I
  pub claims : log.claim ≡ Found primal dual tree steps lines
  pub accepted : AcceptsFound I primal dual tree steps lines

pub claimed_found : (I : Network) (log : Log) (primal dual : ℕ) (tree : Tree) (steps : List Step) (lines : List ProofLine) → IsInstance I → log.claim ≡ Found primal dual tree steps lines → Accepts I log → IsClaimed I log primal dual tree steps lines
claimed_found I log primal dual tree steps lines instance claims accepted = record { instance = instance; claims = claims; accepted = subst (AcceptsClaim I) claims accepted }

-- what holds of an accepted log's bound
pub holds_bound : (I : Network) (log : Log) (primal dual : ℕ) (tree : Tree) (steps : List Step) (lines : List ProofLine) → AcceptedHolds → IsInstance I → Accepts I log → log.claim ≡ Found primal dual tree steps lines → IsBound I dual
holds_bound I log primal dual tree steps lines law instance accepted claims = let all : Holds I (Found primal dual tree steps lines) = subst (Holds I) claims (law I log instance accepted) in all.2

-- ---- what is left of it

module _ (I : Network) (log : Log) (primal dual : ℕ) (tree : Tree) (steps : List Step) (lines : List ProofLine) (is : IsClaimed I log primal dual tree steps lines) where
  -- steps lead somewhere
  pub leads : (last : State) × Applies steps (whole I) last
  leads = let (last, applies, proves) = is.accepted.is_proved in (last, applies)

  -- a tree is left that is worth no more than the log's
  pub tree_within : (s : State) → StepsKeepTheLeast → Applies steps (whole I) s → HasTreeWithin s primal
  tree_within s law applies =
      let (new, new_is, less) = law steps (whole I) s tree (whole_state I is.instance) applies (record { tree = is.accepted.is_tree; avoids = λ v gone. absurd cc }) in
      (new, new_is, omega (arith, less, is.accepted.is_cost))

  -- the log's proof proves its bound of whatever the steps leave
  pub proof_of : (s : State) → Applies steps (whole I) s → (p : ProofTree) × IsProofOf s log steps p
  proof_of s applies =
      let (other, other_applies, proves) = is.accepted.is_proved in
      let (p, written, proved) = proved_of_both I steps other s dual lines other_applies applies proves in
      (p, record { primal = primal; dual = dual; tree = tree; proof = lines; claims = is.claims; lines = written; proves = (p, written, proved) })

  -- its lines are those of that proof
  pub written_so : (s : State) (p : ProofTree) → IsProofOf s log steps p → lines ≡ preorder p
  written_so s p of_old =
      let claims : Found primal dual tree steps lines ≡ Found of_old.primal of_old.dual of_old.tree steps of_old.proof = sym is.claims ∙ of_old.claims in
      let same : lines ≡ of_old.proof = cc in
      same ∙ of_old.lines

  pub proves_some : (s : State) → Applies steps (whole I) s → (p : ProofTree) × (x : ℕ) × (lines ≡ preorder p) × Proves s.instance (left_over s) x p
  proves_some s applies =
      let (other, other_applies, proves) = is.accepted.is_proved in
      let (p, written, proved) = proved_of_both I steps other s dual lines other_applies applies proves in
      (p, left_of dual s, written, proved)

-- ---- the searches that went on

-- all that is known before the graft
pub record IsReady (I : Network) (budget primal dual : ℕ) (tree : Tree) (steps : List Step) (lines : List ProofLine) (s : State) (p : ProofTree) (gone : Gone) (old : Log) : Type 0 where
  pub claimed : IsClaimed I old primal dual tree steps lines
  pub applies : Applies steps (whole I) s
  pub of_old : IsProofOf s old steps p
  pub written : lines ≡ preorder p
  pub gone_on : IsGoneIn s primal budget lines gone

pub ready_of : (I : Network) (budget primal dual : ℕ) (tree : Tree) (slice steps : List Step) (lines : List ProofLine) (s : State) (gone : Gone) (old : Log) → IsInstance I → old.claim ≡ Found primal dual tree steps lines → Accepts I old → slice ≡ steps
    → Applies slice (whole I) s → IsGoneIn s primal budget lines gone → (p : ProofTree) × IsReady I budget primal dual tree steps lines s p gone old
ready_of I budget primal dual tree slice steps lines s gone old instance claims accepted same taken gone_on =
    let is = claimed_found I old primal dual tree steps lines instance claims accepted in
    let applies : Applies steps (whole I) s = subst (λ (ss : List Step). Applies ss (whole I) s) same taken in
    let (p, of_old) = proof_of I old primal dual tree steps lines is s applies in
    (p, record { claimed = is; applies = applies; of_old = of_old; written = written_so I old primal dual tree steps lines is s p of_old; gone_on = gone_on })

module _ (I : Network) (budget primal dual : ℕ) (tree : Tree) (steps : List Step) (lines : List ProofLine) (s : State) (p : ProofTree) (gone : Gone) (old : Log) (h : IsReady I budget primal dual tree steps lines s p gone old) where
  ready_from : GoOn s.instance (closes_of (left_over s) p) h.gone_on.start budget gone.searches.items gone.known.least
  ready_from = h.gone_on.searched p h.written

  -- the value in the end and what is paid besides is no more than the log's
  pub no_more : s.offset ≤ primal → gone.known.least + s.offset ≤ primal
  no_more within =
      let (t, t_is, less) = h.gone_on.less in
      let down = falls s.instance (closes_of (left_over s) p) h.gone_on.start budget gone.searches.items gone.known.least ready_from in
      omega (arith, less, down, within)

  pub searches_are : (Es : List Searched) → Es ≡ gone.searches.items → AreSearchesIn s old Es
  searches_are Es same = subst (AreSearchesIn s old) (sym same) (are_searches s old steps p h.gone_on.start budget gone.searches.items gone.known.least h.of_old ready_from)

  pub searches_at : (Es : List Searched) → Es ≡ gone.searches.items → All (λ E. All IsAtVertex (records E.gathered)) Es
  searches_at Es same = subst (λ (Fs : List Searched). All (λ E. All IsAtVertex (records E.gathered)) Fs) (sym same) (all_at_vertices s.instance (closes_of (left_over s) p) h.gone_on.start budget gone.searches.items gone.known.least ready_from)

  pub old_proof_of : (first : Network) → first ≡ I → (taken : List Step) × (q : ProofTree) × IsProofOf s old taken q × Applies taken (whole first) s
  old_proof_of first is = (steps, p, h.of_old, subst (λ (N : Network). Applies steps (whole N) s) (sym is) h.applies)

-- what is claimed fits a word
pub primal_fits : (log : Log) (primal dual : ℕ) (tree : Tree) (steps : List Step) (lines : List ProofLine) → log.claim ≡ Found primal dual tree steps lines → IsLog log → primal < 2 ^ 64
primal_fits log primal dual tree steps lines claims is = (subst (IsClaimInRange log.version) claims is.in_range).primal_fits

-- a line of any version can be written in version 2
line_in_two : (version : Version) (line : ProofLine) → IsWritableLine version line → IsWritableLine Two line
line_in_two version (Split (Vertex v)) is = is
line_in_two version (Split (Link a b)) is = (refl, is.1)
line_in_two version (Close P) is = is

pub lines_writable : (log : Log) (primal dual : ℕ) (tree : Tree) (steps : List Step) (lines : List ProofLine) → log.claim ≡ Found primal dual tree steps lines → IsLog log → All (IsWritableLine Two) lines
lines_writable log primal dual tree steps lines claims is = All-weaker (IsWritableLine log.version) (IsWritableLine Two) (line_in_two log.version) lines (subst (IsClaimInRange log.version) claims is.in_range).lines_fit

-- ---- the run as a whole

-- all that is known in the end
pub record IsEnded (I : Network) (budget primal dual : ℕ) (tree : Tree) (steps : List Step) (lines : List ProofLine) (s : State) (p : ProofTree) (gone : Gone) (best : Tree) (old new : Log) : Type 0 where
  pub ready : IsReady I budget primal dual tree steps lines s p gone old
  pub within : s.offset ≤ primal
  pub is_tree : IsTree I best
  pub is_cost : gone.known.least + s.offset ≡ cost I best
  pub grafted : IsGraftOf I s old best (gone.known.least + s.offset) gone.searches.items new
  pub holds : AcceptedHolds
  pub old_accepted : Accepts I old
  pub weighs : GraftedWeighs

module _ (I : Network) (budget primal dual : ℕ) (tree : Tree) (steps : List Step) (lines : List ProofLine) (s : State) (p : ProofTree) (gone : Gone) (best : Tree) (old new : Log) (h : IsEnded I budget primal dual tree steps lines s p gone best old new) where
  abbrev last : ℕ
  last = gone.known.least

  abbrev new_dual : ℕ
  new_dual = h.grafted.dual

  old_primal_is : primal_of old ≡ primal
  old_primal_is = ap claimed_primal h.ready.claimed.claims

  old_dual_is : dual_of old ≡ dual
  old_dual_is = ap claimed_dual h.ready.claimed.claims

  new_primal_is : primal_of new ≡ last + s.offset
  new_primal_is = ap claimed_primal h.grafted.claims

  new_dual_is : dual_of new ≡ new_dual
  new_dual_is = ap claimed_dual h.grafted.claims

  gone_from : GoOn s.instance (closes_of (left_over s) p) h.ready.gone_on.start budget gone.searches.items last
  gone_from = h.ready.gone_on.searched p h.ready.written

  is_start : IsFirstStart s old h.ready.gone_on.start
  is_start = let (t, t_is, less) = h.ready.gone_on.less in (t, t_is, less ∙ ap (λ (x : ℕ). min (x - s.offset) (cost s.instance t)) (sym old_primal_is))

  -- the graft is one of the old proof
  grafted_from : IsGrafted s.instance gone.searches.items 0 (left_over s) p h.grafted.after
  grafted_from = let same = same_proof s s old h.grafted.steps steps h.grafted.before p h.grafted.old_proof h.ready.of_old in
      subst (λ (q : ProofTree). IsGrafted s.instance gone.searches.items 0 (left_over s) q h.grafted.after) same h.grafted.grafted

  abbrev new_weight : ℕ
  new_weight = least_weight s.instance (left_over s) h.grafted.after

  -- what the old proof proves the graft weighs
  old_below : dual - s.offset ≤ new_weight
  old_below =
      let (other, other_applies, proves) = h.ready.claimed.accepted.is_proved in
      let (q, q_written, proved) = proved_of_both I steps other s dual lines other_applies h.ready.applies proves in
      let low = proved_below s.instance (left_over s) (left_of dual s) q proved in
      let q_is : IsProofOf s old steps q = record { primal = primal; dual = dual; tree = tree; proof = lines; claims = h.ready.claimed.claims; lines = q_written; proves = (q, q_written, proved) } in
      let same = same_proof s s old steps steps q p q_is h.ready.of_old in
      let here : left_of dual s ≤ least_weight s.instance (left_over s) p = subst (λ (r : ProofTree). left_of dual s ≤ least_weight s.instance (left_over s) r) same low in
      let more = h.weighs s.instance gone.searches.items 0 (left_over s) p h.grafted.after grafted_from in
      omega (arith, here, more)

  no_dearer : primal_of new ≤ primal_of old
  no_dearer = omega (arith, old_primal_is, new_primal_is, no_more I budget primal dual tree steps lines s p gone old h.ready h.within)

  no_lower : dual_of old ≤ dual_of new
  no_lower =
      let below : dual ≤ cost I best = holds_bound I old primal dual tree steps lines h.holds h.ready.claimed.instance h.old_accepted h.ready.claimed.claims best h.is_tree in
      omega (arith, old_dual_is, new_dual_is, h.grafted.is_dual, h.is_cost, below, old_below)

  is_below : dual_of new ≤ primal_of new
  is_below = omega (arith, new_dual_is, new_primal_is, h.grafted.is_dual)

  is_bound : IsBound I (dual_of new)
  is_bound = subst (IsBound I) (sym new_dual_is) (holds_bound I new (last + s.offset) new_dual best h.grafted.steps h.grafted.proof h.holds h.ready.claimed.instance h.grafted.accepted h.grafted.claims)

  all_spent : dual_of new < primal_of new → expanded_by gone.searches.items ≡ budget
  all_spent apart =
      elim (spent_or_shown s.instance (left_over s) p h.grafted.after h.ready.gone_on.start budget gone.searches.items last gone_from grafted_from) [
        | inl spent ↦ spent
        | inr shown ↦ absurd (omega (arith, apart, shown, new_dual_is, new_primal_is, h.grafted.is_dual))
      ]

  pub resumed : IsResumed budget I old gone.searches.items new
  resumed = record {
    steps = steps;
    left = s;
    proof = p;
    applies = h.ready.applies;
    of_old = h.ready.of_old;
    start = h.ready.gone_on.start;
    last = last;
    is_start = is_start;
    searched = gone_from;
    tree = best;
    is_tree = h.is_tree;
    is_cost = h.is_cost;
    grafted = h.grafted;
    no_dearer = no_dearer;
    no_lower = no_lower;
    is_below = is_below;
    is_bound = is_bound;
    all_spent = all_spent;
  }

-- the run as a whole, from what its calls answered
pub concluded : (I : Network) (budget primal dual : ℕ) (tree : Tree) (steps : List Step) (lines : List ProofLine) (s : State) (p : ProofTree) (gone : Gone) (best : Tree) (old new : Log) (first : Network) (offset : ℕ) (Es : List Searched) → IsReady I budget primal dual tree steps lines s p gone old
    → s.offset ≤ primal → first ≡ I → offset ≡ s.offset → Es ≡ gone.searches.items → IsTree first best → gone.known.least + s.offset ≡ cost first best → IsGraftOf first s old best (gone.known.least + offset) Es new → AcceptedHolds → Accepts I old → GraftedWeighs
    → IsResumed budget I old gone.searches.items new
concluded I budget primal dual tree steps lines s p gone best old new first offset Es ready within first_is paid searched_is is_tree is_cost grafted holds accepted weighs =
    let one : IsGraftOf I s old best (gone.known.least + offset) Es new = subst (λ (N : Network). IsGraftOf N s old best (gone.known.least + offset) Es new) first_is grafted in
    let two : IsGraftOf I s old best (gone.known.least + s.offset) Es new = subst (λ (x : ℕ). IsGraftOf I s old best (gone.known.least + x) Es new) paid one in
    resumed I budget primal dual tree steps lines s p gone best old new (record {
      ready = ready;
      within = within;
      is_tree = subst (λ (N : Network). IsTree N best) first_is is_tree;
      is_cost = is_cost ∙ ap (λ (N : Network). cost N best) first_is;
      grafted = subst (λ (Fs : List Searched). IsGraftOf I s old best (gone.known.least + s.offset) Fs new) searched_is two;
      holds = holds;
      old_accepted = accepted;
      weighs = weighs;
    })
