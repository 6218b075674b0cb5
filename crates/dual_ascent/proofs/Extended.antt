-- What an ascent over what a packing leaves makes of it.
use Rattle.std.proofs.Common.{◌≡◌, ◌≢◌, ℕ, ◌+◌, ◌-◌, ◌^◌, ◌<◌, ◌≤◌, length, get_or, Some, inr, sym, ap, ◌∙◌, subst, arith}
use Rattle.std.specs.Prelude.{All, IsFalse}
use Rattle.std.specs.Option.{option_map}
use Rattle.std.proofs.lemmas.List.Elements.{All-append}
use Rattle.st_model.specs.declared.branch.Branch.{Branch}
use Rattle.st_model.specs.Lists.{has}
use Rattle.st_model.specs.Branch.{IsVertexSet}
use Rattle.st_model.specs.Network.{Network, IsVertex}
use Rattle.graph_store.specs.Graph.{Graph, IsGraph}
use Rattle.bidirected_form.specs.declared.kind.VertexKind.TheVariants.{Must}
use Rattle.bidirected_form.specs.Bidirected.{kind_in, arc_cost}
use Rattle.bidirected_form.specs.Digraph.{Digraph, kind_of, remaining}
use Rattle.prize_transform.specs.Twins.{Ends, left_of, prize_for, prize_in}
use Rattle.cut_packing.specs.declared.packing.Packing.{Packing}
use Rattle.cut_packing.specs.Packing.{load, named, Fits, base_weight}
use Rattle.dual_ascent.specs.declared.ascent.Ascent.{Ascent}
use Rattle.dual_ascent.specs.declared.ascent.Ascent.TheVariants.{Full, Reached}
use Rattle.graph_store.specs.Whole.{IsWhole}
use Rattle.dual_ascent.specs.Left.{AreBorne, AreEndsOf, FitsLeft, raised}
use Rattle.dual_ascent.specs.Ascent.{IsAscended, IsAscent}
use Rattle.dual_ascent.specs.Extension.{IsStart, IsRootFor, IsExtended, IsExtension, packing_of}
use Rattle.dual_ascent.specs.Laws.{joined, joined_ascent, IsCharged}
use Rattle.dual_ascent.proofs.ChargedCuts.{ends_after, kinds_kept, lowered_twice, named-append}
use Rattle.dual_ascent.proofs.OpenVertices.{cost_linked}
use Rattle.dual_ascent.proofs.Raised.{raises_sum}
use Rattle.dual_ascent.proofs.Joined.{named_within, packed_apart, together_fit, joined_full}

module _ (g : Graph) (B : Branch) (P : Packing) (root : ℕ) (graph : IsGraph g) (whole : IsWhole g) (start : IsStart g.network B P) (rooted : IsRootFor g.network B P root) where
  module _ (D : Digraph) (E : Ends) (is_root : D.root ≡ root) (count : D.n ≡ g.network.n) (kinds : (v : ℕ) → kind_of D v ≡ kind_in g B v) (costs : (u v : ℕ) → remaining D u v ≡ arc_cost g B u v) (prizes : (v : ℕ) → left_of E v ≡ prize_in D v) where
    prizes_borne : (v : ℕ) → kind_of D v ≢ Must → named P.cuts v ≤ left_of E v
    prizes_borne v free = omega (arith, prizes v, ap prize_for (kinds v), named_within g B P v graph whole start.fits (λ must. free (kinds v ∙ must)))

    arcs_borne : (u v r : ℕ) → remaining D u v ≡ Some r → load P.cuts (u, v) ≤ r
    arcs_borne u v r left =
        let linked = cost_linked g B u v r (sym (costs u v) ∙ left) in
        rw linked.2 at (start.fits.arcs u v linked.0 linked.1)

    pub packing_borne : AreBorne D E P.cuts
    packing_borne = record {
      sets = λ k d below. (subst (λ n. IsVertexSet n (get_or P.cuts k d).set) (sym count) (start.sets k d below), subst (λ r. IsFalse (has (get_or P.cuts k d).set r)) (sym is_root) (packed_apart g.network B P root start.fits rooted.same k d below));
      arcs = arcs_borne;
      prizes = prizes_borne;
    }

-- from a packing that was charged an ascent can go on
module _ (g : Graph) (B : Branch) (P : Packing) (D : Digraph) (E : Ends) (h : IsCharged g B P D E) where
  pub charged_start : All (λ c. IsVertexSet g.network.n c.set) P.cuts → IsStart g.network B P
  charged_start sets = record { branch = h.branch; required = h.required; fits = h.fits; sets = sets }

  pub charged_root : IsVertex g.network.n D.root → IsRootFor g.network B P D.root
  charged_root vertex = record { vertex = vertex; certain = h.certain; same = h.root }

-- an ascent over what a packing leaves
module _ (g : Graph) (B : Branch) (P : Packing) (D D' : Digraph) (E E' : Ends) (target : ℕ) (graph : IsGraph g) (vertex : IsVertex g.network.n D.root) (h : IsCharged g B P D E) where
  module _ (A : Packing) (fits : FitsLeft D E A) (ascended : IsAscended D D' E E' target A) where
    both_fit : Fits g.network B (joined P A) × (base_weight g.network B (joined P A) ≡ base_weight g.network B P + raised A.cuts)
    both_fit = together_fit g B P D E h A graph vertex fits

    both_extend : All (λ c. IsVertexSet g.network.n c.set) P.cuts → length (joined P A).cuts < 2 ^ 64 → IsExtended g.network B P (joined P A) D.root
    both_extend sets few = record {
      rooted = fits.root;
      fits = both_fit.0;
      no_lighter = omega (arith, both_fit.1);
      sets = All-append (λ c. IsVertexSet g.network.n c.set) P.cuts A.cuts sets (λ k d below. subst (λ n. IsVertexSet n (get_or A.cuts k d).set) h.left.count (fits.borne.sets k d below).0);
      few = few;
    }

    both_charged : IsCharged g B (joined P A) D' E'
    both_charged = record {
      whole = h.whole;
      branch = h.branch;
      required = h.required;
      fits = both_fit.0;
      left = record {
        count = ascended.arcs.count ∙ h.left.count;
        kinds = λ v. kinds_kept D D' A.cuts ascended.arcs v ∙ h.left.kinds v;
        remaining = λ u v. ascended.arcs.remaining u v ∙ ap (option_map (λ r. r - load A.cuts (u, v))) (h.left.remaining u v) ∙ lowered_twice P.cuts A.cuts (u, v) (arc_cost g B u v);
        prizes = λ v. omega (arith, ascended.ends.left v, h.left.prizes v, named-append P.cuts A.cuts v, ap prize_for (kinds_kept D D' A.cuts ascended.arcs v));
      };
      certain = rw ascended.arcs.root h.certain;
      root = inr (fits.root ∙ ap Some (sym ascended.arcs.root));
    }

  -- with the packing's cuts before its own
  pub extended_by : (a both : Ascent) → All (λ c. IsVertexSet g.network.n c.set) P.cuts → IsAscent D D' E E' target a → FitsLeft D E (packing_of a) → both ≡ joined_ascent P a
      → length (packing_of both).cuts < 2 ^ 64 → IsExtension g.network B P D.root target both
  extended_by (Full A) both sets ascent fits is few =
      rw is (both_extend A fits ascent.0 sets (rw is at few), omega (arith, (both_fit A fits ascent.0).1, ascent.1), joined_full g B P D E h A fits.root ascent.2)
  extended_by (Reached A) both sets ascent fits is few =
      rw is (both_extend A fits ascent.0 sets (rw is at few), omega (arith, (both_fit A fits ascent.0).1, ascent.1, raises_sum D E target A.cuts ascent.0.cuts))

  pub charged_by : (a both : Ascent) → IsAscent D D' E E' target a → FitsLeft D E (packing_of a) → both ≡ joined_ascent P a → IsCharged g B (packing_of both) D' E'
  charged_by (Full A) both ascent fits is = rw is (both_charged A fits ascent.0)
  charged_by (Reached A) both ascent fits is = rw is (both_charged A fits ascent.0)

  pub ends_by : (a : Ascent) → IsAscent D D' E E' target a → AreEndsOf D E → AreEndsOf D' E'
  ends_by (Full A) ascent ends = ends_after D D' E E' A.cuts ascent.0.arcs ascent.0.ends ends
  ends_by (Reached A) ascent ends = ends_after D D' E E' A.cuts ascent.0.arcs ascent.0.ends ends

  pub root_by : (a : Ascent) → IsAscent D D' E E' target a → D'.root ≡ D.root
  root_by (Full A) ascent = ascent.0.arcs.root
  root_by (Reached A) ascent = ascent.0.arcs.root

-- the sets of what extends a packing
pub extended_sets : (I : Network) (B : Branch) (P : Packing) (root target : ℕ) (a : Ascent) → IsExtension I B P root target a → All (λ c. IsVertexSet I.n c.set) (packing_of a).cuts
extended_sets I B P root target (Full new) h = h.0.sets
extended_sets I B P root target (Reached new) h = h.0.sets
