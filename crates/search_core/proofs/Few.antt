-- How large a tree is that is read off what is complete: each split leaves less to split.
use Rattle.std.proofs.Common.{◌≡◌, ℕ, suc, ◌+◌, ◌*◌, ◌^◌, ◌<◌, ◌≤◌, zero, ap, ◌∙◌, arith}
use Rattle.std.specs.Prelude.{All, Contains}
use Rattle.std.proofs.Math.Nat.{pow-suc, pow-le-pow_right}
use Rattle.std.proofs.lemmas.List.Elements.{All-contains}
use Rattle.st_model.specs.declared.branch.Branch.{Branch}
use Rattle.st_model.specs.declared.split_at.SplitAt.{SplitAt}
use Rattle.st_model.specs.declared.split_at.SplitAt.TheVariants.{Vertex, Link}
use Rattle.st_model.specs.Branch.{yes_half, no_half}
use Rattle.st_model.specs.Linked.{open_pairs}
use Rattle.st_model.specs.Network.{Network}
use Rattle.cut_packing.specs.declared.packing.Packing.{Packing}
use Rattle.cut_packing.specs.ProofTree.{ProofTree, IsSplitAt}
use Rattle.search_core.specs.declared.done.Done.TheVariants.{Split}
use Rattle.search_core.specs.declared.gathered.Gathered.{Gathered}
use Rattle.search_core.specs.Complete.{IsAtVertex, IsComplete, IsMade, root, inside_of, outside_of, records}
use Rattle.search_core.specs.FreeVertices.{free_count}
use Rattle.search_core.specs.ReadOff.{CompleteIsFew, CompleteIsFewWithLinks, IsReadOff, closed, waits, was_split, size}
use Rattle.search_core.proofs.Apart.{split_right}
use Rattle.search_core.proofs.Falling.{Falls, free_falls, pairs_fall}

two_le : (k : ℕ) → 1 + 1 ≤ 2 ^ (k + 1)
two_le zero = omega arith
two_le (suc k) =
    let e : 2 ^ (suc k + 1) ≡ 2 ^ (k + 1) * 2 = ap (λ j. 2 ^ j) (omega arith) ∙ pow-suc 2 (k + 1) in
    omega (arith, e, two_le k)

-- what both halves may have, a split may have with them
halves_fit : (k m n a b : ℕ) → m + 1 ≤ k → n + 1 ≤ k → a + 1 ≤ 2 ^ (m + 1) → b + 1 ≤ 2 ^ (n + 1) → 1 + a + b + 1 ≤ 2 ^ (k + 1)
halves_fit k m n a b first second h l =
    let e : 2 ^ (k + 1) ≡ 2 ^ k * 2 = ap (λ j. 2 ^ j) (omega arith) ∙ pow-suc 2 k in
    let f : 2 ^ (m + 1) ≤ 2 ^ k = pow-le-pow_right (omega arith) first in
    let g : 2 ^ (n + 1) ≤ 2 ^ k = pow-le-pow_right (omega arith) second in
    omega (arith, e, f, g, h, l)

-- a measure falls at each split that is recorded
abbrev FallsIn : Gathered → Network → (Branch → ℕ) → Type 0
FallsIn G I measure = (id : ℕ) (at : SplitAt) (i o : ℕ) (P : Packing) (B : Branch) → Contains (records G) (Split id at i o P) → IsSplitAt I B at → Falls measure B at

few_nodes : (G : Gathered) (I : Network) (R : Branch) (start budget : ℕ) → IsComplete G I R start budget → (measure : Branch → ℕ) → FallsIn G I measure → (id : ℕ) (p : ProofTree) → IsReadOff G id p → (B : Branch) → IsMade R (records G) id B → size p + 1 ≤ 2 ^ (measure B + 1)
few_nodes G I R start budget complete measure falls id p (closed c) B made = two_le (measure B)
few_nodes G I R start budget complete measure falls id p (waits c) B made = two_le (measure B)
few_nodes G I R start budget complete measure falls id p (was_split {id = a} {at} {i} {o} {P} {inside} {outside} c l r) B made =
    let fall = falls a at i o P B c (split_right G I R start budget complete a at i o P B c made) in
    halves_fit (measure B) (measure (yes_half B at)) (measure (no_half B at)) (size inside) (size outside) fall.says_yes fall.says_no
    (few_nodes G I R start budget complete measure falls i inside l (yes_half B at) (inside_of c made))
    (few_nodes G I R start budget complete measure falls o outside r (no_half B at) (outside_of c made))

few_by : (G : Gathered) (I : Network) (R : Branch) (start budget : ℕ) (p : ProofTree) → IsComplete G I R start budget → IsReadOff G 0 p → (measure : Branch → ℕ) → FallsIn G I measure → size p < 2 ^ (measure R + 1)
few_by G I R start budget p complete read measure falls = below _ _ (few_nodes G I R start budget complete measure falls 0 p read R root)
  where
    below : (a b : ℕ) → a + 1 ≤ b → a < b
    below a b h = omega arith

-- where each split is at a vertex the free vertices fall
at_vertices : (G : Gathered) (I : Network) → All IsAtVertex (records G) → FallsIn G I (free_count I)
at_vertices G I all id (Vertex v) i o P B there may = free_falls I B v may
at_vertices G I all id (Link a b) i o P B there may = absurd (All-contains IsAtVertex (records G) (Split id (Link a b) i o P) all there)

pub few_lem : CompleteIsFew
few_lem G I R start budget p all complete read = few_by G I R start budget p complete read (free_count I) (at_vertices G I all)

pub few_with_links_lem : CompleteIsFewWithLinks
few_with_links_lem G I R start budget p instance complete read =
    few_by G I R start budget p complete read (λ B. free_count I B + open_pairs I B) (λ id at i o P B there. pairs_fall I instance B at)
