-- A packing that fits a branch fits both halves, without the cuts that name the vertex in the one, and is no lighter there.
use Rattle.std.proofs.Common.{◌≡◌, ℕ, ◌+◌, ◌-◌, ◌≤◌, max, Bool, true, false, cond, eqb, not, ◌||◌, List, [], ◌∷◌, Option, Some, None, inl, inr, refl, sym, ap, ◌∙◌, arith}
use Rattle.std.specs.Prelude.{◌==◌, IsTrue, IsFalse, IfSome, MatchOption, filter}
use Rattle.std.specs.List.{AllByRecursion}
use Rattle.std.proofs.lemmas.Bool.{both_ways, or_cases, or_from, or_left, or_right, false≢true, false_from_ne_true}
use Rattle.std.proofs.lemmas.Bool.Decides.{nat_tests}
use Rattle.std.proofs.lemmas.List.Elements.{recursion_from_All, All-from_recursion, All-filter, All-weaker}
use Rattle.st_model.specs.declared.branch.Branch.{Branch}
use Rattle.st_model.specs.Lists.{has, total, sum_to}
use Rattle.st_model.specs.Network.{Network, IsVertex, link, is_required, pays}
use Rattle.st_model.specs.Arborescence.{arc_cost}
use Rattle.st_model.specs.Made.{is_between, has_pair}
use Rattle.st_model.specs.Branch.{is_present, is_certain, open_link, with_inside, with_outside, with_must, with_barred}
use Rattle.st_model.proofs.Branches.{undecided_parts}
use Rattle.st_model.proofs.Halves.{has-with_vertex, has-both}
use Rattle.st_model.proofs.Pairs.{has_pair-push}
use Rattle.st_model.proofs.Sums.{sum_to_same, sum_to-add, sum_to_one, total-append, total_filter_le}
use Rattle.cut_packing.specs.declared.cut.Cut.{Cut}
use Rattle.cut_packing.specs.declared.packing.Packing.{Packing}
use Rattle.cut_packing.specs.Packing.{load, named, IsRoot, CutFits, Fits, outside_pays, spare, weight}
use Rattle.cut_packing.specs.ProofTree.{IsSplit}
use Rattle.branching.specs.Node.{without}

-- where one more vertex is inside, what was certain still is
certain_inside : (I : Network) (B : Branch) (v w : ℕ) → IsTrue (is_certain I B w) → IsTrue (is_certain I (with_inside B v) w)
certain_inside I B v w h = ap (λ b. is_required I w || b) (has-with_vertex B.inside v w) ∙ by_case (is_required I w) (eqb v w) (has B.inside w) h
  where
    by_case : (r here i : Bool) → (r || i) ≡ true → (r || (here || i)) ≡ true
    by_case true here i e = refl
    by_case false true i e = refl
    by_case false false i e = e

uncertain_before : (I : Network) (B : Branch) (v w : ℕ) → IsFalse (is_certain I (with_inside B v) w) → IsFalse (is_certain I B w)
uncertain_before I B v w h = false_from_ne_true (is_certain I B w) (λ certain. both_ways (is_certain I (with_inside B v) w) h (certain_inside I B v w certain))

pub inside_fits : (I : Network) (B : Branch) (P : Packing) (v : ℕ) → Fits I B P → Fits I (with_inside B v) P
inside_fits I B P v fits = record {
  root = by_root P.root fits.root;
  cuts = All-weaker (CutFits I B) (CutFits I (with_inside B v)) (λ c fit. record { in_range = fit.in_range; member = fit.member; present = fit.present }) P.cuts fits.cuts;
  arcs = fits.arcs;
  prizes = λ q vertex uncertain. fits.prizes q vertex (uncertain_before I B v q uncertain);
}
  where
    by_root : (root : Option ℕ) → MatchOption root (P.cuts ≡ []) (IsRoot I B P.cuts) → MatchOption root (P.cuts ≡ []) (IsRoot I (with_inside B v) P.cuts)
    by_root None none = none
    by_root (Some r) root = record { vertex = root.vertex; certain = certain_inside I B v r root.certain; same = root.same; apart = root.apart }

-- what was certain still is where a link is a must, and its ends are inside
certain_ends : (I : Network) (B : Branch) (a b w : ℕ) → IsTrue (is_certain I B w) → IsTrue (is_certain I (with_must B a b) w)
certain_ends I B a b w h = elim (or_cases (is_required I w) (has B.inside w) h) [
  | inl required ↦ or_left _ _ required
  | inr inside ↦ or_right (is_required I w) _ (has-both B.inside a b w ∙ or_right (b == w) _ (or_right (a == w) _ inside))
]

pub must_fits : (I : Network) (B : Branch) (P : Packing) (a b : ℕ) → Fits I B P → Fits I (with_must B a b) P
must_fits I B P a b fits = record {
  root = by_root P.root fits.root;
  cuts = All-weaker (CutFits I B) (CutFits I (with_must B a b)) (λ c fit. record { in_range = fit.in_range; member = fit.member; present = fit.present }) P.cuts fits.cuts;
  arcs = fits.arcs;
  prizes = λ q vertex uncertain. fits.prizes q vertex (false_from_ne_true (is_certain I B q) (λ certain. both_ways (is_certain I (with_must B a b) q) uncertain (certain_ends I B a b q certain)));
}
  where
    by_root : (root : Option ℕ) → MatchOption root (P.cuts ≡ []) (IsRoot I B P.cuts) → MatchOption root (P.cuts ≡ []) (IsRoot I (with_must B a b) P.cuts)
    by_root None none = none
    by_root (Some r) root = record { vertex = root.vertex; certain = certain_ends I B a b r root.certain; same = root.same; apart = root.apart }

-- a price with one more link barred is the same or none
less_priced : (x y : Bool) (price : Option ℕ) (z : ℕ) → IfSome (cond x None price) (λ p. z ≤ p) → IfSome (cond (x || y) None price) (λ p. z ≤ p)
less_priced true y price z h = tt
less_priced false true price z h = tt
less_priced false false price z h = h

pub barred_fits : (I : Network) (B : Branch) (P : Packing) (a b : ℕ) → Fits I B P → Fits I (with_barred B a b) P
barred_fits I B P a b fits = record {
  root = by_root P.root fits.root;
  cuts = All-weaker (CutFits I B) (CutFits I (with_barred B a b)) (λ c fit. record { in_range = fit.in_range; member = fit.member; present = fit.present }) P.cuts fits.cuts;
  arcs = λ u v tail head. rw (has_pair-push B.barred (a, b) u v) (less_priced (has_pair B.barred u v) (is_between (a, b) u v) (link I.links u v) (load P.cuts (u, v)) (fits.arcs u v tail head));
  prizes = fits.prizes;
}
  where
    by_root : (root : Option ℕ) → MatchOption root (P.cuts ≡ []) (IsRoot I B P.cuts) → MatchOption root (P.cuts ≡ []) (IsRoot I (with_barred B a b) P.cuts)
    by_root None none = none
    by_root (Some r) root = record { vertex = root.vertex; certain = root.certain; same = root.same; apart = root.apart }

-- the half where a link is a must gains what the cuts leave of it
pub must_weighs : (I : Network) (B : Branch) (P : Packing) (a b : ℕ) → weight I B P ≤ weight I (with_must B a b) P
must_weighs I B P a b = omega (arith, total-append (spare I P.cuts) B.must ((a, b) ∷ []))

-- the cuts that don't name v
abbrev kept : ℕ → List Cut → List Cut
kept v cuts = filter (λ c. not (eqb c.q v)) cuts

-- a vertex other than v that was present is so where v is outside
still_present : (B : Branch) (v w : ℕ) → not (eqb w v) ≡ true → IsTrue (is_present B w) → IsTrue (is_present (with_outside B v) w)
still_present B v w other present = ap not (has-with_vertex B.outside v w) ∙ by_case (eqb v w) refl (has B.outside w) present
  where
    by_case : (here : Bool) → eqb v w ≡ here → (o : Bool) → not o ≡ true → not (here || o) ≡ true
    by_case true is o e = absurd (false≢true (grind (arith, nat_tests)))
    by_case false is o e = e

present_before : (B : Branch) (v w : ℕ) → IsTrue (is_present (with_outside B v) w) → IsTrue (is_present B w)
present_before B v w h = by_case (eqb v w) (has B.outside w) (sym (ap not (has-with_vertex B.outside v w)) ∙ h)
  where
    by_case : (here o : Bool) → not (here || o) ≡ true → not o ≡ true
    by_case true o e = absurd (false≢true e)
    by_case false o e = e

cuts_kept : (I : Network) (B : Branch) (v : ℕ) (cuts : List Cut) → AllByRecursion (CutFits I B) cuts → AllByRecursion (CutFits I (with_outside B v)) (kept v cuts)
cuts_kept I B v [] h = tt
cuts_kept I B v (c ∷ cuts) h = by_case (not (eqb c.q v)) refl (cuts_kept I B v cuts h.1)
  where
    by_case : (b : Bool) → not (eqb c.q v) ≡ b → AllByRecursion (CutFits I (with_outside B v)) (kept v cuts) → AllByRecursion (CutFits I (with_outside B v)) (cond b (c ∷ kept v cuts) (kept v cuts))
    by_case true is rest = (record { in_range = h.0.in_range; member = h.0.member; present = still_present B v c.q is h.0.present }, rest)
    by_case false is rest = rest

-- what is at most a number stays so where less is kept
kept_below : (price : Option ℕ) (more less : ℕ) → less ≤ more → IfSome price (λ p. more ≤ p) → IfSome price (λ p. less ≤ p)
kept_below None more less le h = h
kept_below (Some p) more less le h = omega arith

pub outside_fits : (I : Network) (B : Branch) (P : Packing) (v : ℕ) → Fits I B P → Fits I (with_outside B v) (without P v)
outside_fits I B P v fits = record {
  root = by_root P.root fits.root;
  cuts = All-from_recursion (CutFits I (with_outside B v)) (kept v P.cuts) (cuts_kept I B v P.cuts (recursion_from_All (CutFits I B) P.cuts fits.cuts));
  arcs = λ u w u_present w_present. kept_below (open_link I B u w) (load P.cuts (u, w)) (load (kept v P.cuts) (u, w)) (total_filter_le _ _ P.cuts) (fits.arcs u w (present_before B v u u_present) (present_before B v w w_present));
  prizes = λ q vertex uncertain. let less : named (kept v P.cuts) q ≤ named P.cuts q = total_filter_le _ _ P.cuts in omega (arith, fits.prizes q vertex uncertain);
}
  where
    by_root : (root : Option ℕ) → MatchOption root (P.cuts ≡ []) (IsRoot I B P.cuts) → MatchOption root (kept v P.cuts ≡ []) (IsRoot I (with_outside B v) (kept v P.cuts))
    by_root None none = ap (kept v) none
    by_root (Some r) root = record { vertex = root.vertex; certain = root.certain; same = root.same; apart = All-filter (λ c. not (eqb c.q v)) (λ c. IsFalse (has c.set r)) P.cuts root.apart }

-- the cuts weigh what is named at v and what is kept
named_and_kept : (v : ℕ) (cuts : List Cut) → total (λ c. c.y) cuts ≡ named cuts v + total (λ c. c.y) (kept v cuts)
named_and_kept v [] = refl
named_and_kept v (c ∷ cuts) = by_case (eqb c.q v) (named_and_kept v cuts)
  where
    by_case : (b : Bool) → total (λ d. d.y) cuts ≡ named cuts v + total (λ d. d.y) (kept v cuts) → c.y + total (λ d. d.y) cuts ≡ (cond b c.y 0 + named cuts v) + total (λ d. d.y) (cond (not b) (c ∷ kept v cuts) (kept v cuts))
    by_case true rest = omega (arith, rest)
    by_case false rest = omega (arith, rest)

-- the outside vertices pay v's prize more
outside_pays_more : (I : Network) (B : Branch) (v : ℕ) → IsVertex I.n v → IsFalse (has B.outside v) → sum_to (outside_pays I (with_outside B v)) I.n ≡ sum_to (outside_pays I B) I.n + pays I v
outside_pays_more I B v vertex new =
    sum_to_same (outside_pays I (with_outside B v)) (λ w. outside_pays I B w + cond (eqb v w) (pays I v) 0) I.n (λ w low high. ap (λ b. cond b (pays I w) 0) (has-with_vertex B.outside v w) ∙ by_case w (eqb v w) refl (has B.outside w) refl)
    ∙ sum_to-add (outside_pays I B) (λ w. cond (eqb v w) (pays I v) 0) I.n
    ∙ ap (λ k. sum_to (outside_pays I B) I.n + k) (sum_to_one v (pays I v) I.n vertex.0 vertex.1)
  where
    by_case : (w : ℕ) (here : Bool) → eqb v w ≡ here → (o : Bool) → has B.outside w ≡ o → cond (here || o) (pays I w) 0 ≡ cond o (pays I w) 0 + cond here (pays I v) 0
    by_case w true is true out = let same : v ≡ w = grind (arith, nat_tests) in absurd (both_ways (has B.outside w) (ap (has B.outside) (sym same) ∙ new) out)
    by_case w true is false out = let same : v ≡ w = grind (arith, nat_tests) in let e : pays I w ≡ pays I v = ap (pays I) (sym same) in omega (arith, e)
    by_case w false is true out = omega arith
    by_case w false is false out = refl

-- the half with v inside weighs the same
pub inside_weighs : (I : Network) (B : Branch) (P : Packing) (v : ℕ) → weight I B P ≤ weight I (with_inside B v) P
inside_weighs I B P v = omega arith

-- what fewer cuts leave of a link is no less
spares_more : (I : Network) (v : ℕ) (cuts : List Cut) (pairs : List (ℕ × ℕ)) → total (spare I cuts) pairs ≤ total (spare I (kept v cuts)) pairs
spares_more I v cuts [] = omega arith
spares_more I v cuts (pair ∷ pairs) =
    let forth : load (kept v cuts) pair ≤ load cuts pair = total_filter_le _ _ cuts in
    let back : load (kept v cuts) (pair.1, pair.0) ≤ load cuts (pair.1, pair.0) = total_filter_le _ _ cuts in
    omega (arith, less (arc_cost I pair) (load cuts pair) (load cuts (pair.1, pair.0)) (load (kept v cuts) pair) (load (kept v cuts) (pair.1, pair.0)) forth back, spares_more I v cuts pairs)
  where
    less : (c x y x' y' : ℕ) → x' ≤ x → y' ≤ y → c - max x y ≤ c - max x' y'
    less c x y x' y' forth back = grind (arith, nat_tests, forth, back)

-- the half with v outside gains the prize, and loses at most as much
pub outside_weighs : (I : Network) (B : Branch) (P : Packing) (v : ℕ) → Fits I B P → IsSplit I B v → weight I B P ≤ weight I (with_outside B v) (without P v)
outside_weighs I B P v fits is_split =
    let parts = undecided_parts B v is_split.undecided in
    let uncertain : IsFalse (is_certain I B v) = or_from (is_required I v) (has B.inside v) is_split.free parts.0 in
    omega (arith, outside_pays_more I B v is_split.vertex parts.1, named_and_kept v P.cuts, fits.prizes v is_split.vertex uncertain, spares_more I v P.cuts B.must)
