-- The halves of a branch that is split keep its packing.
use Rattle.std.proofs.Common.{◌≡◌, ℕ, Bool, true, false, not, ◌||◌, [], Option, Some, None, inl, inr, refl, sym, ap, ◌∙◌}
use Rattle.std.specs.Prelude.{◌==◌, IsTrue, IsFalse, All, MatchOption}
use Rattle.std.proofs.lemmas.Bool.{and_from, and_parts, both_ways, ne_eqb, or_cases, or_left, or_right}
use Rattle.std.proofs.lemmas.List.Elements.{All-weaker}
use Rattle.st_model.specs.declared.branch.Branch.{Branch}
use Rattle.st_model.specs.Branch.{certain_in, is_present, with_inside, with_outside}
use Rattle.st_model.specs.Lists.{has}
use Rattle.st_model.proofs.Branches.{IsBranch-with_inside, IsBranch-with_outside, undecided_parts}
use Rattle.st_model.proofs.Halves.{at_either, has-with_vertex}
use Rattle.cut_packing.specs.declared.cut.Cut.{Cut}
use Rattle.cut_packing.specs.declared.packing.Packing.{Packing}
use Rattle.cut_packing.specs.Packing.{CutFitsIn, IsRootIn}
use Rattle.cut_packing.specs.ProofTree.{IsSplitIn}
use Rattle.arborescence.specs.DiNetwork.{DiNetwork, di_ground, is_sought}
use Rattle.arborescence.proofs.DiWeights.{certain_prizes}
use Rattle.directed_search.specs.Searching.{IsDiBranch, IsDiPacking}

module _ (D : DiNetwork) (B : Branch) (v : ℕ) (may : IsSplitIn (di_ground D) B v) where
  -- what was certain still is where one more vertex is inside
  certain_inside : (w : ℕ) → IsTrue (certain_in (di_ground D) B w) → IsTrue (certain_in (di_ground D) (with_inside B v) w)
  certain_inside w h = elim (or_cases (is_sought D w) (has B.inside w) h) [
    | inl sought ↦ or_left (is_sought D w) _ sought
    | inr inside ↦ or_right (is_sought D w) _ (has-with_vertex B.inside v w ∙ or_right (v == w) _ inside)
  ]

  pub branch_inside : IsDiBranch D B → IsDiBranch D (with_inside B v)
  branch_inside is = record {
    branch = IsBranch-with_inside (di_ground D) B v may.vertex may.undecided is.branch;
    required = is.required;
    no_must = is.no_must;
  }

  pub branch_outside : IsDiBranch D B → IsDiBranch D (with_outside B v)
  branch_outside is = record {
    branch = IsBranch-with_outside (di_ground D) B v may.vertex may.undecided is.branch;
    required = λ w out. at_either (λ x. IsFalse (is_sought D x)) B.outside v may.free is.required w out;
    no_must = is.no_must;
  }

  cut_inside : (c : Cut) → CutFitsIn (di_ground D) B c → CutFitsIn (di_ground D) (with_inside B v) c
  cut_inside c fit =
      let parts = and_parts (is_present B c.q) (certain_in (di_ground D) B c.q) fit.present in
      record { in_range = fit.in_range; member = fit.member; present = and_from (is_present B c.q) _ parts.0 (certain_inside c.q parts.1) }

  pub packing_inside : (P : Packing) → IsDiPacking D B P → IsDiPacking D (with_inside B v) P
  packing_inside P is = record {
    fits = record {
      root = by_root P.root is.fits.root;
      cuts = cuts;
      arcs = is.fits.arcs;
      prizes = certain_prizes D (with_inside B v) P.cuts cuts;
    };
    sets = is.sets;
  }
    where
      cuts : All (CutFitsIn (di_ground D) (with_inside B v)) P.cuts
      cuts = All-weaker (CutFitsIn (di_ground D) B) (CutFitsIn (di_ground D) (with_inside B v)) cut_inside P.cuts is.fits.cuts

      by_root : (root : Option ℕ) → MatchOption root (P.cuts ≡ []) (IsRootIn (di_ground D) B P.cuts) → MatchOption root (P.cuts ≡ []) (IsRootIn (di_ground D) (with_inside B v) P.cuts)
      by_root None none = none
      by_root (Some r) root = record { vertex = root.vertex; certain = certain_inside r root.certain; same = root.same; apart = root.apart }

  -- the vertex isn't certain
  uncertain : (w : ℕ) → v ≡ w → IsFalse (certain_in (di_ground D) B w)
  uncertain w same = rw (← same, may.free, (undecided_parts B v may.undecided).0) refl

  -- a certain vertex that was present still is where another one is outside
  still_present : (w : ℕ) → IsTrue (certain_in (di_ground D) B w) → IsTrue (is_present B w) → IsTrue (is_present (with_outside B v) w)
  still_present w certain present =
      let other : IsFalse (v == w) = ne_eqb v w (λ same. both_ways (certain_in (di_ground D) B w) (uncertain w same) certain) in
      rw (has-with_vertex B.outside v w, other) present

  present_before : (w : ℕ) → IsTrue (is_present (with_outside B v) w) → IsTrue (is_present B w)
  present_before w h = by_case (v == w) (has B.outside w) (sym (ap not (has-with_vertex B.outside v w)) ∙ h)
    where
      by_case : (here o : Bool) → not (here || o) ≡ true → not o ≡ true
      by_case true true e = e
      by_case true false e = refl
      by_case false o e = e

  cut_outside : (c : Cut) → CutFitsIn (di_ground D) B c → CutFitsIn (di_ground D) (with_outside B v) c
  cut_outside c fit =
      let parts = and_parts (is_present B c.q) (certain_in (di_ground D) B c.q) fit.present in
      record { in_range = fit.in_range; member = fit.member; present = and_from _ (certain_in (di_ground D) B c.q) (still_present c.q parts.1 parts.0) parts.1 }

  pub packing_outside : (P : Packing) → IsDiPacking D B P → IsDiPacking D (with_outside B v) P
  packing_outside P is = record {
    fits = record {
      root = by_root P.root is.fits.root;
      cuts = cuts;
      arcs = λ a b tail head. is.fits.arcs a b (present_before a tail) (present_before b head);
      prizes = certain_prizes D (with_outside B v) P.cuts cuts;
    };
    sets = is.sets;
  }
    where
      cuts : All (CutFitsIn (di_ground D) (with_outside B v)) P.cuts
      cuts = All-weaker (CutFitsIn (di_ground D) B) (CutFitsIn (di_ground D) (with_outside B v)) cut_outside P.cuts is.fits.cuts

      by_root : (root : Option ℕ) → MatchOption root (P.cuts ≡ []) (IsRootIn (di_ground D) B P.cuts) → MatchOption root (P.cuts ≡ []) (IsRootIn (di_ground D) (with_outside B v) P.cuts)
      by_root None none = none
      by_root (Some r) root = record { vertex = root.vertex; certain = root.certain; same = root.same; apart = root.apart }
