-- Who waits, from turn to turn.
use Rattle.std.proofs.Common.{◌≡◌, ℕ, ◌+◌, ◌-◌, ◌≤◌, Bool, true, false, ◌||◌, List, [], ◌∷◌, Some, ◌⊎◌, inl, inr, refl, sym, ap, ◌∙◌, subst, arith}
use Rattle.std.specs.Prelude.{IsTrue, ◌==◌, All, IsPermutation}
use Rattle.std.specs.Option.{option_map}
use Rattle.std.proofs.lemmas.Bool.{false≢true, eqb-true, eq-eqb, or_cases, or_left, or_right, cases_lt}
use Rattle.std.proofs.lemmas.List.{get_or_past}
use Rattle.std.proofs.lemmas.List.Elements.{All-nil, All-cons, All-tail, All-head, All-weaker}
use Rattle.std.proofs.lemmas.List.Sorted.{All-permutation}
use Rattle.st_model.specs.Lists.{has}
use Rattle.st_model.specs.Network.{IsVertex}
use Rattle.bidirected_form.specs.declared.kind.VertexKind.TheVariants.{Outside, Must}
use Rattle.bidirected_form.specs.Digraph.{Digraph, IsDigraph, kind_of}
use Rattle.prize_transform.specs.Twins.{Ends, prize_for}
use Rattle.cut_packing.specs.declared.cut.Cut.{Cut}
use Rattle.cut_packing.specs.Packing.{load}
use Rattle.dual_ascent.specs.declared.growing.Growth.{Growth}
use Rattle.dual_ascent.specs.declared.turning.Turn.{Turn}
use Rattle.dual_ascent.specs.Left.{AreEndsOf, AreLowered, AreSpent}
use Rattle.dual_ascent.specs.Raises.{IsSaturated, Reaches, IsRaisable}
use Rattle.dual_ascent.specs.Turns.{AllWait, AreCertain, AreLeading, AreWaiting, Entry, IsCovered, IsGrowth, IsTurn, IsWaiting, waits}
use Rattle.dual_ascent.proofs.ChargedCuts.{kinds_kept, raisable_after}
use Rattle.dual_ascent.proofs.Reaching.{reaches_over, reaches_through}
use Rattle.dual_ascent.proofs.Turned.{waits_moved}

-- a raisable vertex is in range
pub open_in_range : (D : Digraph) (E : Ends) (v : ℕ) → IsDigraph D → AreEndsOf D E → IsRaisable D E [] v → IsVertex D.n v
open_in_range D E v h ends open_at = elim (cases_lt v 1) [
  | inl low ↦ let zero_is : 0 ≡ v = omega (arith, low) in absurd (closed v (sym (ap (kind_of D) zero_is) ∙ h.nobody) open_at)
  | inr some ↦ elim (cases_lt D.n v) [
    | inl past ↦ absurd (closed v (get_or_past D.kinds v Outside (omega (arith, h.kinds, past))) open_at)
    | inr few ↦ (some, few)
  ]
]
  where
    closed : (w : ℕ) → kind_of D w ≡ Outside → IsRaisable D E [] w → ⊥
    closed w out (inl must) = let clash : Outside ≡ Must = sym out ∙ must in cc
    closed w out (inr left) = omega (arith, left, ends.within w, ap prize_for out)

-- the entries of the raisable vertices up to k
pub record AreListed (D : Digraph) (E : Ends) (k : ℕ) (queue : List Entry) : Type 0 where
  pub each : All (λ e. IsWaiting D e.0) queue
  pub listed : (v : ℕ) → v ≤ k → IsRaisable D E [] v → IsTrue (waits queue v)

pub listed_none : (D : Digraph) (E : Ends) → IsDigraph D → AreEndsOf D E → AreListed D E 0 []
listed_none D E h ends = record {
  each = All-nil (λ (e : Entry). IsWaiting D e.0);
  listed = λ v low open_at. absurd (omega (arith, low, (open_in_range D E v h ends open_at).0));
}

-- one vertex more is raisable
pub listed_more : (D : Digraph) (E : Ends) (k : ℕ) (queue queue' : List Entry) (e : Entry) → IsVertex D.n (k + 1) → e.0.vertex ≡ k + 1 → IsPermutation (e ∷ queue) queue' → AreListed D E k queue → AreListed D E (k + 1) queue'
listed_more D E k queue queue' e range vertex moved h = record {
  each = All-permutation (λ (x : Entry). IsWaiting D x.0) (e ∷ queue) queue' moved (All-cons (λ (x : Entry). IsWaiting D x.0) e queue (subst (IsVertex D.n) (sym vertex) range) h.each);
  listed = λ v low open_at. waits_moved (e ∷ queue) queue' moved v (waits_now v low open_at);
}
  where
    waits_now : (v : ℕ) → v ≤ k + 1 → IsRaisable D E [] v → IsTrue (waits (e ∷ queue) v)
    waits_now v low open_at = elim (cases_lt k v) [
      | inl last_one ↦ or_left (e.0.vertex == v) _ (eq-eqb e.0.vertex v (omega (arith, vertex, low, last_one)))
      | inr earlier ↦ or_right (e.0.vertex == v) _ (h.listed v earlier open_at)
    ]

-- one vertex more isn't
pub listed_past : (D : Digraph) (E : Ends) (k : ℕ) (queue : List Entry) → (IsRaisable D E [] (k + 1) → ⊥) → AreListed D E k queue → AreListed D E (k + 1) queue
listed_past D E k queue closed h = record {
  each = h.each;
  listed = λ v low open_at. elim (cases_lt k v) [
    | inl last_one ↦ let same : v ≡ k + 1 = omega (arith, low, last_one) in absurd (closed (subst (IsRaisable D E []) same open_at))
    | inr earlier ↦ h.listed v earlier open_at
  ];
}

pub all_listed : (D : Digraph) (E : Ends) (k : ℕ) (queue : List Entry) → IsDigraph D → AreEndsOf D E → D.n ≤ k → AreListed D E k queue → AllWait D E queue
all_listed D E k queue digraph ends all h = record {
  each = h.each;
  listed = λ v open_at. h.listed v (omega (arith, all, (open_in_range D E v digraph ends open_at).1)) open_at;
}

-- where all wait, those lead that have to be reached
pub waiting_from : (D : Digraph) (E : Ends) (queue : List Entry) → AllWait D E queue → AreWaiting D E queue
waiting_from D E queue h = record { each = h.each; others = λ v open_at. inl (h.listed v open_at) }

pub leading_from : (D : Digraph) (E : Ends) (marks : List Bool) (queue : List Entry) → AllWait D E queue → AreCertain D marks → AreLeading D marks queue
leading_from D E marks queue h certain v led = let must = certain.1 v led in (h.listed v (inl must), must)

-- the first one that waits is v, or v waits after it
waits_first : (e : Entry) (rest : List Entry) (v : ℕ) → IsTrue (waits (e ∷ rest) v) → (e.0.vertex ≡ v) ⊎ IsTrue (waits rest v)
waits_first e rest v waiting = elim (or_cases (e.0.vertex == v) (waits rest v) waiting) [ inl same ↦ inl (eqb-true e.0.vertex v same) | inr there ↦ inr there ]

-- whom one reaches that is covered, is covered
covered_through : (D : Digraph) (queue : List Entry) (v w : ℕ) → Reaches D [] v w → IsCovered D queue w → IsCovered D queue v
covered_through D queue v w near (inl reached) = inl (reaches_through D [] v w D.root near reached)
covered_through D queue v w near (inr led) = inr (led.0, led.1, led.2, reaches_through D [] v w led.0 near led.3)

-- the first one has its turn and is passed over
pub waiting_past : (D : Digraph) (E : Ends) (rest : List Entry) (e : Entry) → (IsRaisable D E [] e.0.vertex → IsCovered D rest e.0.vertex) → AreWaiting D E (e ∷ rest) → AreWaiting D E rest
waiting_past D E rest e done h = record {
  each = All-tail (λ (x : Entry). IsWaiting D x.0) e rest h.each;
  others = λ v open_at. elim (h.others v open_at) [ inl waiting ↦ still v open_at waiting | inr covered ↦ inr (covered_past v covered) ];
}
  where
    still : (v : ℕ) → IsRaisable D E [] v → IsTrue (waits (e ∷ rest) v) → IsTrue (waits rest v) ⊎ IsCovered D rest v
    still v open_at waiting = elim (waits_first e rest v waiting) [
      | inl is ↦ inr (subst (IsCovered D rest) is (done (subst (IsRaisable D E []) (sym is) open_at)))
      | inr there ↦ inl there
    ]

    covered_past : (v : ℕ) → IsCovered D (e ∷ rest) v → IsCovered D rest v
    covered_past v (inl reached) = inl reached
    covered_past v (inr led) = elim (waits_first e rest led.0 led.1) [
      | inl is ↦ covered_through D rest v led.0 led.3 (subst (IsCovered D rest) is (done (inl (ap (kind_of D) is ∙ led.2))))
      | inr there ↦ inr (led.0, there, led.2, led.3)
    ]

-- one that isn't raisable doesn't lead
pub leading_past : (D : Digraph) (E : Ends) (marks : List Bool) (rest : List Entry) (e : Entry) → (IsRaisable D E [] e.0.vertex → ⊥) → AreLeading D marks (e ∷ rest) → AreLeading D marks rest
leading_past D E marks rest e closed h v led = elim (waits_first e rest v (h v led).0) [
  | inl is ↦ absurd (closed (inl (ap (kind_of D) is ∙ (h v led).1)))
  | inr there ↦ (there, (h v led).1)
]

-- the first one has its turn and is passed over, whether it was covered or isn't raisable
pub passed_over : (D : Digraph) (E : Ends) (g : Growth) (old rest : List Entry) (t : Turn) → (IsRaisable D E [] t.waiting.vertex → IsTrue t.is_covered) → IsTurn D g old rest t → AreWaiting D E old → AreWaiting D E rest × AreLeading D g.known.leads.items rest
passed_over D E g old rest t raisable turn h = by_case t.is_covered refl
  where
    e : Entry
    e = record { 0 = t.waiting }

    by_case : (b : Bool) → t.is_covered ≡ b → AreWaiting D E rest × AreLeading D g.known.leads.items rest
    by_case true is = (waiting_past D E rest e (λ open_at. rw is at turn.looked) (turn.waited E h), rw is at turn.leading)
    by_case false is =
        let closed : IsRaisable D E [] t.waiting.vertex → ⊥ = λ open_at. false≢true (sym is ∙ raisable open_at) in
        (waiting_past D E rest e (λ open_at. absurd (closed open_at)) (turn.waited E h), leading_past D E g.known.leads.items rest e closed (rw is at turn.leading))

-- cuts use more arcs up
used_still : (D D' : Digraph) (cuts : List Cut) → AreLowered D D' cuts → (u v : ℕ) → IsSaturated D [] u v → IsSaturated D' [] u v
used_still D D' cuts lowered u v used = lowered.remaining u v ∙ ap (option_map (λ r. r - load cuts (u, v))) used ∙ ap Some (omega arith)

-- and the root reaches whom it reached
pub growth_still : (D D' : Digraph) (cuts : List Cut) (g : Growth) → AreLowered D D' cuts → IsGrowth D g → IsGrowth D' g
growth_still D D' cuts g lowered h = record {
  set_count = h.set_count ∙ ap (λ (n : ℕ). n + 1) (sym lowered.count);
  in_range = subst (λ (n : ℕ). All (IsVertex n) g.set.members) (sym lowered.count) h.in_range;
  reached_count = h.reached_count ∙ ap (λ (n : ℕ). n + 1) (sym lowered.count);
  leads_count = h.leads_count ∙ ap (λ (n : ℕ). n + 1) (sym lowered.count);
  root = subst (λ (r : ℕ). IsTrue (has g.known.reached.members r)) (sym lowered.root) h.root;
  reached = All-weaker (λ v. Reaches D [] v D.root) (λ v. Reaches D' [] v D'.root) (λ v reached. subst (Reaches D' [] v) (sym lowered.root) (reaches_over D D' [] [] (used_still D D' cuts lowered) v D.root reached)) g.known.reached.members h.reached;
}

-- they make nothing raisable
raisable_before : (D : Digraph) (E : Ends) (cuts : List Cut) (v : ℕ) → IsRaisable D E cuts v → IsRaisable D E [] v
raisable_before D E cuts v (inl must) = inl must
raisable_before D E cuts v (inr left) = inr (omega (arith, left))

-- the first one has its turn, is raised, and waits again
module _ (D D' : Digraph) (E E' : Ends) (rest queue' : List Entry) (e e' : Entry) (c : Cut) (lowered : AreLowered D D' (c ∷ [])) (spent : AreSpent E E' (c ∷ [])) (pushed : IsPermutation (e' ∷ rest) queue') (vertex : e'.0.vertex ≡ e.0.vertex) where
  more : (w v : ℕ) → Reaches D [] w v → Reaches D' [] w v
  more = reaches_over D D' [] [] (used_still D D' (c ∷ []) lowered)

  waits_still : (v : ℕ) → IsTrue (waits (e ∷ rest) v) → IsTrue (waits queue' v)
  waits_still v waiting = waits_moved (e' ∷ rest) queue' pushed v (ap (λ (w : ℕ). (w == v) || waits rest v) vertex ∙ waiting)

  kind_still : (v : ℕ) → kind_of D v ≡ Must → kind_of D' v ≡ Must
  kind_still v must = kinds_kept D D' (c ∷ []) lowered v ∙ must

  covered_still : (v : ℕ) → IsCovered D (e ∷ rest) v → IsCovered D' queue' v
  covered_still v (inl reached) = inl (subst (Reaches D' [] v) (sym lowered.root) (more v D.root reached))
  covered_still v (inr led) = inr (led.0, waits_still led.0 led.1, kind_still led.0 led.2, more v led.0 led.3)

  pub waiting_again : AreWaiting D E (e ∷ rest) → AreWaiting D' E' queue'
  waiting_again h = record {
    each = All-permutation (λ (x : Entry). IsWaiting D' x.0) (e' ∷ rest) queue' pushed (All-cons (λ (x : Entry). IsWaiting D' x.0) e' rest (rw vertex (in_range e.0.vertex (All-head (λ (x : Entry). IsWaiting D x.0) e rest h.each))) (All-weaker (λ (x : Entry). IsWaiting D x.0) (λ (x : Entry). IsWaiting D' x.0) (λ x. in_range x.0.vertex) rest (All-tail (λ (x : Entry). IsWaiting D x.0) e rest h.each)));
    others = λ v open_at. elim (h.others v (raisable_before D E (c ∷ []) v (raisable_after D D' E E' (c ∷ []) lowered spent v open_at))) [ inl waiting ↦ inl (waits_still v waiting) | inr covered ↦ inr (covered_still v covered) ];
  }
    where
      in_range : (w : ℕ) → IsVertex D.n w → IsVertex D'.n w
      in_range w range = subst (λ (n : ℕ). IsVertex n w) (sym lowered.count) range

  pub leading_again : (marks : List Bool) → AreLeading D marks (e ∷ rest) → AreLeading D' marks queue'
  leading_again marks h v led = (waits_still v (h v led).0, kind_still v (h v led).1)

-- where none waits, all that are raisable are reached
pub none_waiting : (D : Digraph) (E : Ends) → AreWaiting D E [] → (v : ℕ) → IsRaisable D E [] v → Reaches D [] v D.root
none_waiting D E h v open_at = elim (h.others v open_at) [ inl waiting ↦ absurd (false≢true waiting) | inr covered ↦ reached covered ]
  where
    reached : IsCovered D [] v → Reaches D [] v D.root
    reached (inl is) = is
    reached (inr led) = absurd (false≢true led.1)
