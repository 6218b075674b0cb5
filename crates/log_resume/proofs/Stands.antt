-- What a close of the old proof makes of a graft.
use Rattle.std.proofs.Common.{◌≡◌, ℕ, ◌+◌, ◌<◌, ◌≤◌, min, max, Bool, true, false, List, [], ◌∷◌, ◌++◌, Option, Some, None, refl, sym, ap, ◌∙◌, subst, arith, inl, inr}
use Rattle.std.specs.Prelude.{Contains, nat_lt}
use Rattle.std.proofs.lemmas.Bool.Decides.{nat_tests}
use Rattle.std.proofs.lemmas.List.{append-nil}
use Rattle.st_model.specs.Network.{Network}
use Rattle.cut_packing.specs.declared.packing.Packing.{Packing}
use Rattle.cut_packing.specs.Packing.{weight}
use Rattle.cut_packing.specs.ProofTree.{ProofTree, close}
use Rattle.log_format.specs.declared.proof_line.ProofLine.{ProofLine}
use Rattle.log_format.specs.declared.proof_line.ProofLine.TheVariants as line
use Rattle.log_format.specs.Preorder.{preorder}
use Rattle.search_core.specs.declared.gathered.Searched.{Searched}
use Rattle.search_core.specs.ReadOff.{IsReadOff, least_weight}
use Rattle.search_core.proofs.Ids.{among}
use Rattle.cert_checker.specs.declared.turn.Turn.{Turn}
use Rattle.cert_checker.specs.Path.{branch_of, next_path}
use Rattle.certificate_log.proofs.Proved.{one_proof}
use Rattle.log_resume.specs.Grafted.{StandsFor, grown, stays}
use Rattle.log_resume.specs.Growing.{WritesClose, Growth, IsDue, IsFound, MayWalk, due, passed, walked, weight_at}
use Rattle.log_resume.proofs.Weighing.{may_walk-tree, walked-tree}

-- the graft after a close in whose place this tree stands
abbrev next_growth : Growth → List Turn → List Searched → ProofTree → Growth
next_growth g path left tree = record {
  instance = g.instance;
  path = next_path path;
  searches = left;
  number = g.number + 1;
  lines = g.lines ++ preorder tree;
  least = min g.least (least_weight g.instance (branch_of path) tree);
}

-- part by part
same_growth : (I J : Network) (p q : Option (List Turn)) (searches : List Searched) (n : ℕ) (ls ms : List ProofLine) (k l : ℕ) → I ≡ J → p ≡ q → ls ≡ ms → k ≡ l
    → (let g : Growth = record { instance = I; path = p; searches = searches; number = n; lines = ls; least = k } in g) ≡ record { instance = J; path = q; searches = searches; number = n; lines = ms; least = l }
same_growth I J p q searches n ls ms k l one two three four =
    λ i. (let g : Growth = record { instance = one i; path = two i; searches = searches; number = n; lines = three i; least = four i } in g)

-- the close itself, where no search went on from it
pub kept : (g : Growth) (P : Packing) (bp : List Turn) (K : Network) (path : Option (List Turn)) (lines : List ProofLine) (w least : ℕ) → g.path ≡ Some bp → IsDue g.number g.searches None g.searches
    → w ≡ weight_at g.instance g.path P → K ≡ g.instance → path ≡ passed g.path (line.Close P) → lines ≡ g.lines ++ line.Close P ∷ [] → least ≡ min g.least w
    → WritesClose g P (record { instance = K; path = path; searches = g.searches; number = g.number + 1; lines = lines; least = least })
kept g P bp K path lines w least was nothing_due is_weight same goes written is_least = record {
  path = bp;
  found = None;
  left = g.searches;
  tree = close P;
  was = was;
  is_due = nothing_due;
  stands = stays (λ E q there is reads. absurd (among [] E there));
  is = same_growth K g.instance path (next_path bp) g.searches (g.number + 1) lines (g.lines ++ line.Close P ∷ []) least (min g.least (weight g.instance (branch_of bp) P))
      same (goes ∙ ap (λ (p : Option (List Turn)). passed p (line.Close P)) was) written
      (is_least ∙ ap (min g.least) (is_weight ∙ ap (λ (p : Option (List Turn)). weight_at g.instance p P) was));
}

-- the walk over the tree that was read off
pub found_may_walk : (I : Network) (path : Option (List Turn)) (E : Searched) (proof : List ProofLine) (found : IsFound I path E proof) → MayWalk I path proof
found_may_walk I path E proof found =
    let whole = may_walk-tree I found.branch_path (least_weight I (branch_of found.branch_path) found.tree) found.tree [] found.proves.proves tt in
    subst (λ (p : Option (List Turn)). MayWalk I p proof) (sym found.was)
    (subst (MayWalk I (Some found.branch_path)) (append-nil (preorder found.tree) ∙ sym (found.lines found.tree found.proves.read)) whole)

-- where it ends
found_end : (I : Network) (path : Option (List Turn)) (top : ℕ) (E : Searched) (proof : List ProofLine) (found : IsFound I path E proof)
    → walked I path top proof ≡ (next_path found.branch_path, min top (least_weight I (branch_of found.branch_path) found.tree))
found_end I path top E proof found =
    (λ i. walked I (found.was i) top (((found.lines found.tree found.proves.read) ∙ sym (append-nil (preorder found.tree))) i))
    ∙ walked-tree I found.branch_path top found.tree []

-- what stands for a close that a search went on from
module _ (g : Growth) (P : Packing) (E : Searched) (left : List Searched) (J : Network) (path : Option (List Turn)) (lines proof : List ProofLine) (w least last : ℕ)
    (found : IsFound g.instance g.path E proof) (parts : g.searches ≡ E ∷ left) (number : E.close ≡ g.number) (is_weight : w ≡ weight_at g.instance g.path P) (same : J ≡ g.instance)
    (end : ◌≡◌ {A = Option (List Turn) × ℕ} (path, last) (walked g.instance g.path (max w g.least) proof))
    (was_kept : last < w → (lines ≡ g.lines ++ line.Close P ∷ []) × (least ≡ min g.least w)) (was_grown : w ≤ last → (lines ≡ g.lines ++ proof) × (least ≡ min g.least last)) where
  abbrev bp : List Turn
  bp = found.branch_path

  abbrev light : ℕ
  light = least_weight g.instance (branch_of bp) found.tree

  abbrev heavy : ℕ
  heavy = weight g.instance (branch_of bp) P

  at_end : ◌≡◌ {A = Option (List Turn) × ℕ} (path, last) (next_path bp, min (max w g.least) light)
  at_end = end ∙ found_end g.instance g.path (max w g.least) E proof found

  last_is : last ≡ min (max w g.least) light
  last_is = ap (λ (e : Option (List Turn) × ℕ). e.1) at_end

  path_is : path ≡ next_path bp
  path_is = ap (λ (e : Option (List Turn) × ℕ). e.0) at_end

  weighs : w ≡ heavy
  weighs = is_weight ∙ ap (λ (p : Option (List Turn)). weight_at g.instance p P) found.was

  is_due : IsDue g.number g.searches (Some E) left
  is_due = subst (λ (Es : List Searched). IsDue g.number Es (Some E) left) (sym parts) (due number)

  closes_by : (tree : ProofTree) → StandsFor g.instance (E ∷ []) g.number (branch_of bp) P tree → lines ≡ g.lines ++ preorder tree → least ≡ min g.least (least_weight g.instance (branch_of bp) tree)
      → WritesClose g P (record { instance = J; path = path; searches = left; number = g.number + 1; lines = lines; least = least })
  closes_by tree stands written is_least = record {
    path = bp;
    found = Some E;
    left = left;
    tree = tree;
    was = found.was;
    is_due = is_due;
    stands = stands;
    is = same_growth J g.instance path (next_path bp) left (g.number + 1) lines (g.lines ++ preorder tree) least (min g.least (least_weight g.instance (branch_of bp) tree)) same path_is written is_least;
  }

  -- each tree that is read off is that one
  one_light : (F : Searched) (q : ProofTree) → last < w → Contains (E ∷ []) F → F.close ≡ g.number → IsReadOff F.gathered 0 q → least_weight g.instance (branch_of bp) q < heavy
  one_light F q less there is reads = elim (among (E ∷ []) F there) [
    | inl e ↦
        let mine : IsReadOff E.gathered 0 q = subst (λ (G : Searched). IsReadOff G.gathered 0 q) (sym e) reads in
        let one : q ≡ found.tree = one_proof q found.tree (sym (found.lines q mine) ∙ found.lines found.tree found.proves.read) in
        subst (λ (r : ProofTree). least_weight g.instance (branch_of bp) r < heavy) (sym one) (below w last g.least light heavy less last_is weighs)
    | inr none ↦ absurd none
  ]
    where
      below : (w last bound light heavy : ℕ) → last < w → last ≡ min (max w bound) light → w ≡ heavy → light < heavy
      below w last bound light heavy less is same = omega arith

  pub searched : WritesClose g P (record { instance = J; path = path; searches = left; number = g.number + 1; lines = lines; least = least })
  searched = by_case (nat_lt last w) refl
    where
      above : (w last bound light heavy : ℕ) → w ≤ last → last ≡ min (max w bound) light → w ≡ heavy → heavy ≤ light
      above w last bound light heavy more is same = omega arith

      least_of : (w last bound light : ℕ) → w ≤ last → last ≡ min (max w bound) light → min bound last ≡ min bound light
      least_of w last bound light more is = omega arith

      less : nat_lt last w ≡ true → last < w
      less is = grind (arith, nat_tests)

      more : nat_lt last w ≡ false → w ≤ last
      more is = grind (arith, nat_tests)

      by_case : (b : Bool) → nat_lt last w ≡ b → WritesClose g P (record { instance = J; path = path; searches = left; number = g.number + 1; lines = lines; least = least })
      by_case true is =
          let was = was_kept (less is) in
          closes_by (close P) (stays (λ F q there number reads. one_light F q (less is) there number reads)) was.0 (was.1 ∙ ap (min g.least) weighs)
      by_case false is =
          let was = was_grown (more is) in
          closes_by found.tree (grown (0, omega arith, refl) number found.proves (above w last g.least light heavy (more is) last_is weighs))
          (was.0 ∙ ap (λ (ls : List ProofLine). g.lines ++ ls) (found.lines found.tree found.proves.read)) (was.1 ∙ least_of w last g.least light (more is) last_is)
