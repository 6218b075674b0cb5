-- What a search answers can be written.
use Rattle.std.proofs.Common.{◌≡◌, ℕ, ◌+◌, ◌^◌, ◌<◌, ◌≤◌, List, [], ◌∷◌, Option, Some, None, length, ap, arith}
use Rattle.std.specs.Prelude.{IfSome, MatchOption}
use Rattle.std.specs.List.{AllByRecursion}
use Rattle.std.proofs.lemmas.List.Elements.{recursion_from_All, All-from_recursion}
use Rattle.st_model.specs.declared.branch.Branch.{Branch}
use Rattle.st_model.specs.Lists.{total}
use Rattle.st_model.specs.Network.{Network, IsInstance, IsVertex}
use Rattle.st_model.specs.Ground.{ground}
use Rattle.st_model.specs.Branch.{IsVertexSet}
use Rattle.st_model.proofs.Members.{length-has}
use Rattle.cut_packing.specs.declared.cut.Cut.{Cut}
use Rattle.cut_packing.specs.declared.packing.Packing.{Packing}
use Rattle.cut_packing.specs.Packing.{IsRoot, CutFits, Fits}
use Rattle.cut_packing.proofs.Duality.{named_vertex}
use Rattle.level_packing.specs.Spanning.{AreSets}
use Rattle.log_format.specs.Text.{IsAnyVertex, IsWritableCut, IsWritablePacking}
use Rattle.log_format.proofs.Writable.{any_vertex}

any_vertices : (n : ℕ) (set : List ℕ) → n ≤ 1000000 → AllByRecursion (IsVertex n) set → AllByRecursion (IsVertex 1000000) set
any_vertices n [] few h = tt
any_vertices n (v ∷ vs) few h = ((h.0.0, omega (arith, h.0.1)), any_vertices n vs few h.1)

writable_cut : (I : Network) (B : Branch) (c : Cut) → IsInstance I → CutFits I B c → IsVertexSet I.n c.set → c.y < 2 ^ 64 → IsWritableCut c
writable_cut I B c instance fits set small = record {
  q = any_vertex I c.q instance (named_vertex (ground I) B c fits);
  y = small;
  set = record {
    some = length-has c.set c.q fits.member;
    vertices = record {
      ascending = set.ascending;
      in_range = All-from_recursion (IsVertex 1000000) c.set (any_vertices I.n c.set instance.few_vertices (recursion_from_All (IsVertex I.n) c.set set.in_range));
    };
  };
}

writable_cuts : (I : Network) (B : Branch) (cuts : List Cut) → IsInstance I → AllByRecursion (CutFits I B) cuts → AllByRecursion (λ c. IsVertexSet I.n c.set) cuts
    → AllByRecursion (λ c. c.y < 2 ^ 64) cuts → AllByRecursion IsWritableCut cuts
writable_cuts I B [] instance fits sets small = tt
writable_cuts I B (c ∷ cuts) instance fits sets small = (writable_cut I B c instance fits.0 sets.0 small.0, writable_cuts I B cuts instance fits.1 sets.1 small.1)

-- values are small where they sum up to little
small_values : (cuts : List Cut) → total (λ c. c.y) cuts < 2 ^ 64 → AllByRecursion (λ c. c.y < 2 ^ 64) cuts
small_values [] small = tt
small_values (c ∷ cuts) small = (omega (arith, small), small_values cuts (omega (arith, small)))

-- a packing that fits can be written where its sets ascend and its values are small
pub writable_packing : (I : Network) (B : Branch) (P : Packing) → IsInstance I → Fits I B P → AreSets I.n P → length P.cuts < 2 ^ 64 → total (λ c. c.y) P.cuts < 2 ^ 64 → IsWritablePacking P
writable_packing I B P instance fits sets few small = record {
  root = by_root P.root fits.root;
  few_cuts = few;
  cuts =
      let each_fits = recursion_from_All (CutFits I B) P.cuts fits.cuts in
      let each_ascends = recursion_from_All (λ (c : Cut). IsVertexSet I.n c.set) P.cuts sets in
      All-from_recursion IsWritableCut P.cuts (writable_cuts I B P.cuts instance each_fits each_ascends (small_values P.cuts small));
}
  where
    by_root : (root : Option ℕ) → MatchOption root (P.cuts ≡ []) (IsRoot I B P.cuts) → IfSome root IsAnyVertex
    by_root None none = tt
    by_root (Some r) root = any_vertex I r instance root.vertex

-- a single cut of a small value can be written
pub writable_wall : (I : Network) (B : Branch) (P : Packing) (target : ℕ) → IsInstance I → Fits I B P → AreSets I.n P
    → (c : Cut) × (P.cuts ≡ c ∷ []) × (c.y ≡ target) → target < 2 ^ 64 → IsWritablePacking P
writable_wall I B P target instance fits sets (c, one, value) small =
    let few : length P.cuts ≡ 1 = ap length one in
    let sum : total (λ d. d.y) P.cuts ≡ c.y + 0 = ap (total (λ d. d.y)) one in
    writable_packing I B P instance fits sets (omega (arith, few)) (omega (arith, sum, value, small))
