-- Weak duality where there is an only root: each tree grows from it, so nothing is turned.
use Rattle.std.proofs.Common.{◌≡◌, ℕ, ◌≤◌, false, List, [], ◌∷◌, Option, Some, None, inl, inr, refl, arith}
use Rattle.std.specs.Prelude.{◌==◌, IsTrue, if◌then◌else◌, MatchOption}
use Rattle.std.specs.List.{list_any, AllByRecursion}
use Rattle.std.proofs.lemmas.Bool.{or_cases, eqb-true, cases_Bool, false≢true}
use Rattle.std.proofs.lemmas.List.Elements.{recursion_from_All}
use Rattle.st_model.specs.declared.branch.Branch.{Branch}
use Rattle.st_model.specs.declared.split_at.SplitAt.TheVariants.{Vertex, Link}
use Rattle.st_model.specs.declared.tree.Tree.{Tree}
use Rattle.st_model.specs.Ground.{Ground}
use Rattle.st_model.specs.Lists.{has, total}
use Rattle.st_model.specs.Arborescence.{GrowsIn, IsTreeIn, reached, reached_from, arc_cost_in}
use Rattle.st_model.specs.Branch.{Belongs, with_inside, with_outside}
use Rattle.cut_packing.specs.declared.packing.Packing.{Packing}
use Rattle.cut_packing.specs.Packing.{load, IsRootIn, FitsIn}
use Rattle.cut_packing.specs.ProofTree.{close, split}
use Rattle.cut_packing.specs.Laws.{IsRooted, RootedDuality, RootedProofTreesBound}
use Rattle.st_model.proofs.Halves.{belongs_inside, belongs_outside}
use Rattle.st_model.proofs.Members.{has-one}
use Rattle.cut_packing.proofs.Charged.{charged}
use Rattle.cut_packing.proofs.Duality.{each_arc, bears_one, not_barred, reached_present, whole_pays}
use Rattle.cut_packing.proofs.Turned.{top, turned, enters, entered}

-- a vertex to which no arc leads is reached from itself alone
before_arcs : (G : Ground) (r : ℕ) (R : List ℕ) (arcs : List (ℕ × ℕ)) → ((u : ℕ) → G.price u r ≡ None) → GrowsIn G R arcs → IsTrue (has (reached_from R arcs) r) → IsTrue (has R r)
before_arcs G r R [] unentered g h = h
before_arcs G r R ((u, v) ∷ arcs) unentered g h =
    elim (or_cases (v == r) (has R r) (before_arcs G r (v ∷ R) arcs unentered g.3 h)) [
      | inl same ↦ absurd (false≢true (rw (eqb-true v r same, unentered u) at g.0))
      | inr before ↦ before
    ]

-- so each tree starts there
pub starts_there : (G : Ground) (r : ℕ) (t : Tree) → IsRooted G r → IsTreeIn G t → t.start ≡ r
starts_there G r t rooted tree = has-one t.start r (before_arcs G r (t.start ∷ []) t.arcs rooted.unentered tree.arborescence.grows (tree.required r rooted.vertex rooted.required))

-- and no arc of it is turned on the way there
unturned : (G : Ground) (r : ℕ) (R : List ℕ) (arcs : List (ℕ × ℕ)) → ((u : ℕ) → G.price u r ≡ None) → GrowsIn G R arcs → (turned arcs r ≡ arcs) × (top arcs r ≡ r)
unturned G r R [] unentered g = (refl, refl)
unturned G r R ((u, v) ∷ arcs) unentered g =
    let rest = unturned G r (v ∷ R) arcs unentered g.3 in
    elim (cases_Bool (v == r)) [
      | inl same ↦ absurd (false≢true (rw (eqb-true v r same, unentered u) at g.0))
      | inr other ↦ (rw (rest.1, other, rest.0) refl, rw (rest.1, other) refl)
    ]

-- where each arc of a tree bears at most what it costs, so do all together
all_bear : (G : Ground) (f : ℕ × ℕ → ℕ) (arcs : List (ℕ × ℕ)) → AllByRecursion (λ a. f (a.0, a.1) ≤ arc_cost_in G (a.0, a.1)) arcs → total f arcs ≤ total (arc_cost_in G) arcs
all_bear G f [] h = omega arith
all_bear G f ((u, v) ∷ arcs) h = omega (arith, h.0, all_bear G f arcs h.1)

module _ (G : Ground) (r : ℕ) (B : Branch) (P : Packing) (t : Tree) (rooted : IsRooted G r) (fits : FitsIn G B P) (tree : IsTreeIn G t) (belongs : Belongs B t) where
  -- its arcs bear at most what they cost
  arcs_bear : total (load P.cuts) t.arcs ≤ total (arc_cost_in G) t.arcs
  arcs_bear = all_bear G (load P.cuts) t.arcs (each_arc G (λ u v. load P.cuts (u, v) ≤ arc_cost_in G (u, v)) (t.start ∷ []) t.arcs tree.arborescence.grows (λ u v some tail head there.
      bears_one G B P u v fits (reached_present B t u belongs tail) (reached_present B t v belongs head) some (not_barred B t u v belongs there)))

  -- a cut whose vertex is reached is entered
  is_entered : (S : List ℕ) (q : ℕ) → IsTrue (has (reached t) q) → IsTrue (has S q) → has S r ≡ false → IsTrue (list_any (enters S) t.arcs)
  is_entered S q there member out =
      let same = starts_there G r t rooted tree in
      let found = entered G S t.start r q t.arcs tree.arborescence.grows (tree.required r rooted.vertex rooted.required) out there member in
      rw (unturned G r (t.start ∷ []) t.arcs rooted.unentered tree.arborescence.grows).0 at found

  -- so its arcs pay for the cuts whose vertex it reaches
  arcs_pay : total (λ c. if has (reached t) c.q then c.y else 0) P.cuts ≤ total (arc_cost_in G) t.arcs
  arcs_pay = by_root P.root fits.root
    where
      by_root : (root : Option ℕ) → MatchOption root (P.cuts ≡ []) (IsRootIn G B P.cuts) → total (λ c. if has (reached t) c.q then c.y else 0) P.cuts ≤ total (arc_cost_in G) t.arcs
      by_root None none = let no_cut : total (λ c. if has (reached t) c.q then c.y else 0) P.cuts ≡ 0 = rw none refl in omega (arith, no_cut)
      by_root (Some s) root =
          let same : s ≡ r = rw rooted.root at root.same in
          let entries = charged (has (reached t)) t.arcs P.cuts (recursion_from_All _ P.cuts (λ k d below. λ q_reached. is_entered _ _ q_reached (fits.cuts k d below).member (rw same at (root.apart k d below)))) in
          omega (arith, entries, arcs_bear)

pub rooted_duality_lem : RootedDuality
rooted_duality_lem G r B P t rooted none fits tree belongs =
    let paid = arcs_pay G r B P t rooted fits tree belongs in
    rw none (whole_pays G B P t 0 fits tree belongs (omega (arith, paid)))

pub rooted_proof_tree_bounds_lem : RootedProofTreesBound
rooted_proof_tree_bounds_lem G r B x (close P) t rooted none closes tree belongs = omega (arith, closes.weighs, rooted_duality_lem G r B P t rooted none closes.fits tree belongs)
rooted_proof_tree_bounds_lem G r B x (split (Vertex v) inside outside) t rooted none proves tree belongs =
    elim (cases_Bool (has (reached t) v)) [
      | inl there ↦ rooted_proof_tree_bounds_lem G r (with_inside B v) x inside t rooted none proves.1 tree ((belongs_inside B t v).1 (belongs, there))
      | inr away ↦ rooted_proof_tree_bounds_lem G r (with_outside B v) x outside t rooted none proves.2 tree ((belongs_outside B t v).1 (belongs, away))
    ]
rooted_proof_tree_bounds_lem G r B x (split (Link a b) used unused) t rooted none proves tree belongs = absurd (false≢true (rw rooted.root at proves.0.linked))
