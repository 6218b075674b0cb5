-- A packing with cuts after its own.
use Rattle.std.proofs.Common.{◌≡◌, ◌≢◌, ℕ, ◌+◌, ◌-◌, ◌<◌, ◌≤◌, Bool, true, false, List, [], ◌∷◌, get_or, Option, Some, None, ◌⊎◌, inl, inr, refl, sym, ap, ◌∙◌, subst, arith}
use Rattle.std.specs.Prelude.{IsTrue, IsFalse, ◌==◌, IfSome, All}
use Rattle.std.specs.Option.{option_map}
use Rattle.std.specs.List.{AllByRecursion}
use Rattle.std.proofs.lemmas.Bool.{cases_Bool, both_ways, ne_eqb, eq-eqb, or_cases, or_left, or_right}
use Rattle.std.proofs.lemmas.List.Elements.{All-append, All-nil, All-weaker, recursion_from_All}
use Rattle.st_model.specs.declared.branch.Branch.{Branch}
use Rattle.st_model.specs.Ground.{ground}
use Rattle.st_model.specs.Lists.{has, total}
use Rattle.st_model.specs.Network.{Network, IsVertex, pays, is_required}
use Rattle.st_model.specs.Branch.{IsVertexSet, is_present, is_certain, is_undecided, open_link, with_inside}
use Rattle.st_model.proofs.Halves.{has-with_vertex}
use Rattle.st_model.proofs.Sums.{total-append}
use Rattle.graph_store.specs.Graph.{Graph, IsGraph}
use Rattle.bidirected_form.specs.declared.kind.VertexKind.TheVariants.{Must}
use Rattle.bidirected_form.specs.Bidirected.{is_open, kind_in, arc_cost}
use Rattle.bidirected_form.specs.Digraph.{Digraph, kind_of, remaining}
use Rattle.prize_transform.specs.Twins.{Ends, left_of, prize_for}
use Rattle.cut_packing.specs.declared.cut.Cut.{Cut}
use Rattle.cut_packing.specs.declared.packing.Packing.{Packing}
use Rattle.cut_packing.specs.Packing.{load, named, IsRoot, CutFits, ArcsFit, PrizesFit, Fits, base_weight}
use Rattle.cut_packing.specs.Full.{IsSaturated, IsReached, IsFull, here as at_root, there as along}
use Rattle.graph_store.specs.Whole.{IsWhole}
use Rattle.cut_packing.proofs.Duality.{named_vertex}
use Rattle.dual_ascent.specs.Left.{FitsLeft, raised}
use Rattle.dual_ascent.specs.Levels.{IsCutFor, AreCutsFor}
use Rattle.dual_ascent.specs.Raises.{IsSaturated as HasNothingLeft, Reaches, here, there, IsRaisable}
use Rattle.dual_ascent.specs.Ascent.{ReachesAll}
use Rattle.dual_ascent.specs.Laws.{joined, IsCharged}
use Rattle.dual_ascent.proofs.ChargedCuts.{before_taking, load-append, named-append}
use Rattle.dual_ascent.proofs.OpenVertices.{certain_present, undecided_present, open_vertex, open_in_range, open_present, open_must, open_there, must_certain, may_free, free_prize, linked_cost, cost_linked}

-- cuts that all name other vertices don't name v
pub named_none : (v : ℕ) (cuts : List Cut) → AllByRecursion (λ c. c.q ≢ v) cuts → named cuts v ≡ 0
named_none v [] h = refl
named_none v (c ∷ cuts) h = rw (ne_eqb c.q v h.0) (omega (arith, named_none v cuts h.1))

-- no vertex that may be left out is named beyond its prize by a packing that fits, and none that isn't open at all
pub named_within : (g : Graph) (B : Branch) (P : Packing) (v : ℕ) → IsGraph g → IsWhole g → Fits g.network B P → kind_in g B v ≢ Must → named P.cuts v ≤ prize_for (kind_in g B v)
named_within g B P v graph whole fits free = by_open (is_open g B v) refl
  where
    other : is_open g B v ≡ false → (c : Cut) → CutFits g.network B c → c.q ≢ v
    other gone c cut same = both_ways (is_open g B v) gone (subst (λ w. IsTrue (is_open g B w)) same (open_vertex g B c.q whole (named_vertex (ground g.network) B c cut) cut.present))

    unnamed : is_open g B v ≡ false → named P.cuts v ≡ 0
    unnamed gone = named_none v P.cuts (recursion_from_All (λ c. c.q ≢ v) P.cuts (All-weaker (CutFits g.network B) (λ c. c.q ≢ v) (other gone) P.cuts fits.cuts))

    by_open : (b : Bool) → is_open g B v ≡ b → named P.cuts v ≤ prize_for (kind_in g B v)
    by_open false gone = omega (arith, unnamed gone)
    by_open true is_here =
        elim (cases_Bool (is_certain g.network B v)) [
          | inl certain ↦ absurd (free (must_certain g B v is_here certain))
          | inr apart ↦ omega (arith, ap prize_for (may_free g B v is_here apart), fits.prizes v (open_in_range g B v graph is_here) apart)
        ]

-- no cut of a packing that fits holds its root
pub packed_apart : (I : Network) (B : Branch) (P : Packing) (root : ℕ) → Fits I B P → (P.cuts ≡ []) ⊎ (P.root ≡ Some root) → All (λ c. IsFalse (has c.set root)) P.cuts
packed_apart I B P root fits (inl none) = rw none (All-nil (λ c. IsFalse (has c.set root)))
packed_apart I B P root fits (inr same) = (rw same at fits.root).apart

-- a packing that was charged, and another over what it leaves
module _ (g : Graph) (B : Branch) (P : Packing) (D : Digraph) (E : Ends) (h : IsCharged g B P D E) (A : Packing) where
  -- what the packing's cuts leave of an arc, if it is one
  arc_left : (u v price : ℕ) → arc_cost g B u v ≡ Some price → remaining D u v ≡ Some (price - load P.cuts (u, v))
  arc_left u v price cost = h.left.remaining u v ∙ ap (option_map (λ c. c - load P.cuts (u, v))) cost

  cut_fits : (c : Cut) → IsVertexSet D.n c.set → IsTrue (has c.set c.q) → IsTrue (is_present B c.q) → CutFits g.network B c
  cut_fits c set held present = record {
    in_range = subst (λ (n : ℕ). All (IsVertex n) c.set) h.left.count set.in_range;
    member = held;
    present = present;
  }

  arcs_fit : IsGraph g → ((u v r : ℕ) → remaining D u v ≡ Some r → load A.cuts (u, v) ≤ r) → ArcsFit g.network B (joined P A).cuts
  arcs_fit graph borne u v tail head = by_price (open_link g.network B u v) refl
    where
      by_price : (price : Option ℕ) → open_link g.network B u v ≡ price → IfSome price (λ p. load (joined P A).cuts (u, v) ≤ p)
      by_price None cost = tt
      by_price (Some p) cost =
          let left = arc_left u v p (linked_cost g B u v p graph h.whole tail head cost) in
          let first = rw cost at (h.fits.arcs u v tail head) in
          omega (arith, first, load-append P.cuts A.cuts (u, v), borne u v (p - load P.cuts (u, v)) left)

  -- the prizes of what may be left out
  prizes_fit : ((q : ℕ) → kind_of D q ≢ Must → named A.cuts q ≤ left_of E q) → PrizesFit g.network B (joined P A).cuts
  prizes_fit borne q vertex free =
      let bound = borne q (not_must (is_open g B q) refl) in
      let most = free_prize g B q free in
      let price = ap prize_for (h.left.kinds q) in
      omega (arith, bound, most, price, h.left.prizes q, h.fits.prizes q vertex free, named-append P.cuts A.cuts q)
    where
      not_must : (b : Bool) → is_open g B q ≡ b → kind_of D q ≢ Must
      not_must true is_here must = let e = sym must ∙ h.left.kinds q ∙ may_free g B q is_here free in absurd cc
      not_must false gone must = both_ways (is_open g B q) gone (open_must g B q (sym (h.left.kinds q) ∙ must))

  -- an arc of which they leave nothing is saturated by both together
  saturated : (u v : ℕ) → HasNothingLeft D A.cuts u v → IsSaturated g.network B (joined P A) u v
  saturated u v none =
      let before = before_taking (arc_cost g B u v) (load P.cuts (u, v)) (load A.cuts (u, v)) (sym (h.left.remaining u v) ∙ none) in
      let linked = cost_linked g B u v before.0 before.1 in
      let borne = rw linked.2 at (h.fits.arcs u v linked.0 linked.1) in
      let all : before.0 ≡ load (joined P A).cuts (u, v) = omega (arith, before.2, borne, load-append P.cuts A.cuts (u, v)) in
      record { tail = linked.0; head = linked.1; used = linked.2 ∙ ap Some all }

  -- so what the root reaches over such arcs is reached
  walked : (r v u : ℕ) → Reaches D A.cuts v u → IsReached g.network B (joined P A) r u → IsReached g.network B (joined P A) r v
  walked r v u here reached = reached
  walked r v u (there none rest) reached = walked r v _ rest (along reached (saturated _ _ none))

  pub joined_full : A.root ≡ Some D.root → ReachesAll D E A.cuts → IsFull g.network B (joined P A)
  joined_full same all = (
    D.root,
    same,
    record {
      certain = λ v vertex certain. reach v (inl (h.left.kinds v ∙ must_certain g B v (open_vertex g B v h.whole vertex (certain_present g.network B v h.branch h.required certain)) certain));
      undecided = λ v vertex undecided room. reach v (raisable v (open_vertex g B v h.whole vertex (undecided_present B v undecided)) room);
    },
  )
    where
      -- an undecided vertex that could still be paid for has to be reached, or they leave something of its prize
      raisable : (v : ℕ) → IsTrue (is_open g B v) → named (joined P A).cuts v < pays g.network v → IsRaisable D E A.cuts v
      raisable v is_here room =
          elim (cases_Bool (is_certain g.network B v)) [
            | inl certain ↦ inl (h.left.kinds v ∙ must_certain g B v is_here certain)
            | inr free ↦
                let prize = ap prize_for (h.left.kinds v ∙ may_free g B v is_here free) in
                inr (omega (arith, prize, h.left.prizes v, room, named-append P.cuts A.cuts v))
          ]

      reach : (v : ℕ) → IsRaisable D E A.cuts v → IsReached g.network B (joined P A) D.root v
      reach v is_open_at = walked D.root v D.root (all v is_open_at) at_root

  -- no cut of either holds the root
  both_apart : All (λ c. IsFalse (has c.set D.root)) A.cuts → All (λ c. IsFalse (has c.set D.root)) (joined P A).cuts
  both_apart apart = All-append (λ c. IsFalse (has c.set D.root)) P.cuts A.cuts (packed_apart g.network B P D.root h.fits h.root) apart

  both_weigh : total (λ c. c.y) (joined P A).cuts ≡ total (λ c. c.y) P.cuts + raised A.cuts
  both_weigh = total-append (λ c. c.y) P.cuts A.cuts

  pub together_fit : IsGraph g → IsVertex g.network.n D.root → FitsLeft D E A → Fits g.network B (joined P A) × (base_weight g.network B (joined P A) ≡ base_weight g.network B P + raised A.cuts)
  together_fit graph vertex a = (
    record {
      root = rw a.root root_fits;
      cuts = All-append (CutFits g.network B) P.cuts A.cuts h.fits.cuts (λ k d below. let held = a.held k d below in cut_fits (get_or A.cuts k d) (a.borne.sets k d below).0 held.0 (open_present g B (get_or A.cuts k d).q (open_there g B (get_or A.cuts k d).q (λ out. held.1 (h.left.kinds (get_or A.cuts k d).q ∙ out)))));
      arcs = arcs_fit graph a.borne.arcs;
      prizes = prizes_fit a.borne.prizes;
    },
    omega (arith, both_weigh),
  )
    where
      root_fits : IsRoot g.network B (joined P A).cuts D.root
      root_fits = record {
        vertex = vertex;
        certain = h.certain;
        same = tt;
        apart = both_apart (λ k d below. (a.borne.sets k d below).1);
      }

  -- cuts for one vertex name no other one
  pub inside_fit : (v : ℕ) → IsGraph g → IsVertex g.network.n D.root → IsTrue (is_undecided B v) → AreCutsFor D v A → Fits g.network (with_inside B v) (joined P A) × (base_weight g.network (with_inside B v) (joined P A) ≡ base_weight g.network B P + raised A.cuts)
  inside_fit v graph vertex undecided a = (
    record {
      root = rw a.root root_fits;
      cuts = All-append (CutFits g.network (with_inside B v)) P.cuts A.cuts (All-weaker (CutFits g.network B) (CutFits g.network (with_inside B v)) (λ c. same_cut c) P.cuts h.fits.cuts) (λ k d below. same_cut (get_or A.cuts k d) (for_v (get_or A.cuts k d) (a.cuts k d below)));
      arcs = arcs_fit graph a.arcs;
      prizes = prizes;
    },
    omega (arith, both_weigh),
  )
    where
      same_cut : (c : Cut) → CutFits g.network B c → CutFits g.network (with_inside B v) c
      same_cut c fits = record { in_range = fits.in_range; member = fits.member; present = fits.present }

      for_v : (c : Cut) → IsCutFor D v c → CutFits g.network B c
      for_v c cut = cut_fits c cut.set (subst (λ (q : ℕ). IsTrue (has c.set q)) (sym cut.named) cut.held) (subst (λ (q : ℕ). IsTrue (is_present B q)) (sym cut.named) (undecided_present B v undecided))

      more_inside : (w : ℕ) → IsTrue (has B.inside w) → IsTrue (has (with_inside B v).inside w)
      more_inside w held = has-with_vertex B.inside v w ∙ or_right (v == w) (has B.inside w) held

      still_certain : (w : ℕ) → IsTrue (is_certain g.network B w) → IsTrue (is_certain g.network (with_inside B v) w)
      still_certain w certain = elim (or_cases (is_required g.network w) (has B.inside w) certain) [
        | inl required ↦ or_left (is_required g.network w) _ required
        | inr inside ↦ or_right (is_required g.network w) _ (more_inside w inside)
      ]

      root_fits : IsRoot g.network (with_inside B v) (joined P A).cuts D.root
      root_fits = record {
        vertex = vertex;
        certain = still_certain D.root h.certain;
        same = tt;
        apart = both_apart (λ k d below. (a.cuts k d below).apart);
      }

      -- v itself is certain now
      other : (q : ℕ) → IsFalse (is_certain g.network (with_inside B v) q) → v ≢ q
      other q free same = both_ways (is_certain g.network (with_inside B v) q) free (or_right (is_required g.network q) _ (has-with_vertex B.inside v q ∙ or_left (v == q) _ (eq-eqb v q same)))

      was_free : (q : ℕ) → IsFalse (is_certain g.network (with_inside B v) q) → IsFalse (is_certain g.network B q)
      was_free q free = elim (cases_Bool (is_certain g.network B q)) [
        | inr before ↦ before
        | inl certain ↦ absurd (both_ways (is_certain g.network (with_inside B v) q) free (still_certain q certain))
      ]

      prizes : PrizesFit g.network (with_inside B v) (joined P A).cuts
      prizes q vertex_q free =
          let none = named_none q A.cuts (recursion_from_All (λ c. c.q ≢ q) A.cuts (λ k d below is. other q free (sym (a.cuts k d below).named ∙ is))) in
          omega (arith, none, named-append P.cuts A.cuts q, h.fits.prizes q vertex_q (was_free q free))
