-- What the tests of a claim tell of it, one after the other.
use Rattle.std.proofs.Common.{◌≡◌, ℕ, suc, ◌+◌, ◌*◌, ◌<◌, ◌≤◌, Bool, true, false, ◌||◌, not, List, [], ◌∷◌, length, Option, Some, None, inl, inr, refl, sym, ap, subst, ◌∙◌, arith}
use Rattle.std.specs.Prelude.{◌==◌, nat_lt, is_none, IsTrue, IfSome, All, Contains, slice_get}
use Rattle.std.specs.List.{AllByRecursion}
use Rattle.std.proofs.lemmas.Bool.{or_cases, or_parts, or_left, or_right, cases_lt, false≢true, eqb-true, eq-eqb}
use Rattle.std.proofs.lemmas.Bool.Decides.{nat_tests}
use Rattle.std.proofs.lemmas.List.Elements.{All-from_recursion, All-contains}
use Rattle.st_model.specs.Lists.{has}
use Rattle.st_model.specs.Network.{Network, IsVertex, link}
use Rattle.amounts.specs.declared.scale.Scale.{Scale}
use Rattle.amounts.specs.Laws.{unit}
use Rattle.solution_reader.specs.declared.verify_fault.VerifyFault.{VerifyFault}
use Rattle.solution_reader.specs.declared.verify_fault.VerifyFault.TheVariants.{Empty, OutOfRange, NoLink, Repeated, NotConnected, Cycle, Missing, NoMemory}
use Rattle.solution_reader.specs.Claim.{Claim}
use Rattle.solution_reader.specs.Stated.{IsWrong, IsFirstWrong, IsStated, LacksTerminal, IsApart, CostsOther, number_of, repeats}
use Rattle.solution_reader.specs.Fitting.{has_stranger, lacks_link, differs_from, IsFitting, Costs}
use Rattle.solution_reader.proofs.FirstFault.{same_number}
use Rattle.solution_reader.proofs.TreeFits.{cost_is}

-- ---- vertices

strange : (n v : ℕ) → ((v == 0) || nat_lt n v) ≡ true → IsVertex n v → ⊥
strange n v h k = let low = k.0 in let high = k.1 in grind (arith, nat_tests)

known : (n v : ℕ) → ((v == 0) || nat_lt n v) ≡ false → IsVertex n v
known n v h =
    let p = or_parts (v == 0) (nat_lt n v) h in
    let low : 1 ≤ v = grind (arith, nat_tests) in
    let high : v ≤ n = grind (arith, nat_tests) in
    (low, high)

pub stranger_found : (n : ℕ) (vs : List ℕ) → has_stranger n vs ≡ true → (v : ℕ) × IsTrue (has vs v) × (IsVertex n v → ⊥)
stranger_found n [] h = absurd (false≢true h)
stranger_found n (v ∷ vs) h = elim (or_cases ((v == 0) || nat_lt n v) (has_stranger n vs) h) [
  | inl here ↦ (v, or_left (v == v) (has vs v) (eq-eqb v v refl), strange n v here)
  | inr later ↦ let found = stranger_found n vs later in (found.0, or_right (v == found.0) (has vs found.0) found.1, found.2)
]

pub all_known : (n : ℕ) (vs : List ℕ) → has_stranger n vs ≡ false → AllByRecursion (IsVertex n) vs
all_known n [] h = tt
all_known n (v ∷ vs) h = let p = or_parts ((v == 0) || nat_lt n v) (has_stranger n vs) h in (known n v p.0, all_known n vs p.1)

pub no_stranger : (n : ℕ) (vs : List ℕ) → has_stranger n vs ≡ false → (v : ℕ) × IsTrue (has vs v) × (IsVertex n v → ⊥) → ⊥
no_stranger n [] h (v, there, out) = false≢true there
no_stranger n (x ∷ vs) h (v, there, out) =
    let p = or_parts ((x == 0) || nat_lt n x) (has_stranger n vs) h in
    elim (or_cases (x == v) (has vs v) there) [
      | inl same ↦ out (subst (IsVertex n) (eqb-true x v same) (known n x p.0))
      | inr later ↦ no_stranger n vs p.1 (v, later, out)
    ]

pub all_small : (n : ℕ) (vs : List ℕ) → has_stranger n vs ≡ false → All (λ v. v ≤ n) vs
all_small n vs h = All-from_recursion (λ v. v ≤ n) vs (highs vs (all_known n vs h))
  where
    highs : (ws : List ℕ) → AllByRecursion (IsVertex n) ws → AllByRecursion (λ v. v ≤ n) ws
    highs [] k = tt
    highs (w ∷ ws) k = (k.0.1, highs ws k.1)

pub first_there : (vs : List ℕ) (v : ℕ) → slice_get vs 0 ≡ Some v → IsTrue (has vs v)
first_there [] v h = absurd cc
first_there (x ∷ vs) v h = let same : x ≡ v = cc in or_left (x == v) (has vs v) (eq-eqb x v same)

-- ---- links

none_is : (o : Option ℕ) → is_none o ≡ true → o ≡ None
none_is None h = refl
none_is (Some x) h = absurd (false≢true h)

pub lack_found : (I : Network) (es : List (ℕ × ℕ)) → lacks_link I es ≡ true → (edge : ℕ × ℕ) × Contains es edge × (link I.links edge.0 edge.1 ≡ None)
lack_found I [] h = absurd (false≢true h)
lack_found I (e ∷ es) h = elim (or_cases (is_none (link I.links e.0 e.1)) (lacks_link I es) h) [
  | inl here ↦ (e, (0, omega arith, refl), none_is (link I.links e.0 e.1) here)
  | inr later ↦ let found = lack_found I es later in let at = found.1 in (found.0, (suc at.0, omega (arith, at.1), at.2), found.2)
]

pub no_lack : (I : Network) (es : List (ℕ × ℕ)) → lacks_link I es ≡ false → (edge : ℕ × ℕ) × Contains es edge × (link I.links edge.0 edge.1 ≡ None) → ⊥
no_lack I es h (edge, there, none) =
    let P : ℕ × ℕ → Type 0 = λ e. is_none (link I.links e.0 e.1) ≡ false in
    false≢true (sym (All-contains P es edge (All-from_recursion P es (each es h)) there) ∙ ap (λ (o : Option ℕ). is_none o) none)
  where
    each : (xs : List (ℕ × ℕ)) → lacks_link I xs ≡ false → AllByRecursion (λ e. is_none (link I.links e.0 e.1) ≡ false) xs
    each [] h = tt
    each (x ∷ xs) h = let p = or_parts (is_none (link I.links x.0 x.1)) (lacks_link I xs) h in (p.0, each xs p.1)

-- ---- one fault after the other

-- no fault of a number below this one
pub record IsClean (I : Network) (scale : Scale) (claim : Claim) (k : ℕ) : Type 0 where
  pub none : (g : VerifyFault) → number_of g < k → IsWrong I scale claim g → ⊥

pub clean_first : (I : Network) (scale : Scale) (claim : Claim) → IsClean I scale claim 1
clean_first I scale claim = record { none = λ g below wrong. of_none g (omega (arith, below)) wrong }
  where
    of_none : (g : VerifyFault) → number_of g ≡ 0 → IsWrong I scale claim g → ⊥
    of_none g e wrong = subst (λ (x : VerifyFault). IsWrong I scale claim x) (same_number g NoMemory e) wrong

pub clean_next : (I : Network) (scale : Scale) (claim : Claim) (k : ℕ) (f : VerifyFault) → IsClean I scale claim k → number_of f ≡ k → (IsWrong I scale claim f → ⊥) → IsClean I scale claim (k + 1)
clean_next I scale claim k f clean here right = record {
  none = λ g below wrong. elim (cases_lt (number_of g) k) [
    | inl before ↦ clean.none g before wrong
    | inr at ↦ right (subst (λ (x : VerifyFault). IsWrong I scale claim x) (same_number g f (omega (arith, below, here))) wrong)
  ];
}

pub first_of : (I : Network) (scale : Scale) (claim : Claim) (f : VerifyFault) → IsClean I scale claim (number_of f) → IsWrong I scale claim f → IsFirstWrong I scale claim f
first_of I scale claim f clean wrong = record { wrong = wrong; first = clean.none }

-- ---- all but the cost

pub fitting : (I : Network) (scale : Scale) (claim : Claim) → IsClean I scale claim 8 → IsFitting I claim
fitting I scale claim clean = record {
  in_range = clean.none OutOfRange (omega arith);
  links = clean.none NoLink (omega arith);
  once = by_case (repeats claim.edges) refl;
  joined = clean.none NotConnected (omega arith);
  few = elim (cases_lt (length claim.edges) (length claim.vertices)) [
    | inl below ↦ below
    | inr above ↦ absurd (clean.none Cycle (omega arith) above)
  ];
  required = clean.none Missing (omega arith);
}
  where
    by_case : (b : Bool) → repeats claim.edges ≡ b → b ≡ false
    by_case false is = refl
    by_case true is = absurd (clean.none Repeated (omega arith) is)

-- ---- the cost

pub other_cost : (I : Network) (scale : Scale) (claim : Claim) (c : ℕ) → Costs I claim c → differs_from scale c claim.primal ≡ true → CostsOther I scale claim
other_cost I scale claim c k h = by_case claim.primal refl h
  where
    by_case : (o : Option ℕ) → claim.primal ≡ o → differs_from scale c o ≡ true → CostsOther I scale claim
    by_case None is h = absurd (false≢true h)
    by_case (Some p) is h = (p, is, λ same. false≢true (sym (ap not (eq-eqb p (c * unit scale) (same ∙ ap (λ (x : ℕ). x * unit scale) (sym (k.is ∙ cost_is I claim k.tree k.claimed))))) ∙ h))

pub its_cost : (I : Network) (scale : Scale) (claim : Claim) (c : ℕ) → Costs I claim c → differs_from scale c claim.primal ≡ false → IsStated I scale claim c
its_cost I scale claim c k h = record { tree = k.tree; claimed = k.claimed; cost = k.is; primal = by_case claim.primal h }
  where
    by_case : (o : Option ℕ) → differs_from scale c o ≡ false → IfSome o (λ p. p ≡ c * unit scale)
    by_case None h = tt
    by_case (Some p) h = eqb-true p (c * unit scale) (turned (p == c * unit scale) h)
      where
        turned : (b : Bool) → not b ≡ false → b ≡ true
        turned true h = refl
        turned false h = absurd (false≢true (sym h))

-- what a test of two things has told, by what they are
pub told : {A B : Type 0} (f : A → B → Bool) (a x : A) (b y : B) (r s : Bool) → r ≡ f x y → x ≡ a → y ≡ b → r ≡ s → f a b ≡ s
told f a x b y r s e p q t = sym (ap (λ z. f z y) p ∙ ap (f a) q) ∙ (sym e ∙ t)

pub clean_2 : (I : Network) (scale : Scale) (claim : Claim) (start : ℕ) → IsTrue (has claim.vertices start) → IsClean I scale claim 2
clean_2 I scale claim start there = clean_next I scale claim 1 Empty (clean_first I scale claim) refl (λ none. false≢true (ap (λ (vs : List ℕ). has vs start) (sym none) ∙ there))

pub clean_3 : (I : Network) (scale : Scale) (claim : Claim) → IsClean I scale claim 2 → has_stranger I.n claim.vertices ≡ false → IsClean I scale claim 3
clean_3 I scale claim clean e = clean_next I scale claim 2 OutOfRange clean refl (no_stranger I.n claim.vertices e)

pub clean_4 : (I : Network) (scale : Scale) (claim : Claim) → IsClean I scale claim 3 → lacks_link I claim.edges ≡ false → IsClean I scale claim 4
clean_4 I scale claim clean e = clean_next I scale claim 3 NoLink clean refl (no_lack I claim.edges e)

pub clean_5 : (I : Network) (scale : Scale) (claim : Claim) → IsClean I scale claim 4 → repeats claim.edges ≡ false → IsClean I scale claim 5
clean_5 I scale claim clean e = clean_next I scale claim 4 Repeated clean refl (λ twice. false≢true (sym e ∙ twice))

pub clean_6 : (I : Network) (scale : Scale) (claim : Claim) → IsClean I scale claim 5 → (IsApart claim → ⊥) → IsClean I scale claim 6
clean_6 I scale claim clean none = clean_next I scale claim 5 NotConnected clean refl none

pub clean_7 : (I : Network) (scale : Scale) (claim : Claim) → IsClean I scale claim 6 → length claim.edges < length claim.vertices → IsClean I scale claim 7
clean_7 I scale claim clean few = clean_next I scale claim 6 Cycle clean refl (λ many. absurd (omega (arith, few, many)))

pub clean_8 : (I : Network) (scale : Scale) (claim : Claim) → IsClean I scale claim 7 → (LacksTerminal I claim → ⊥) → IsClean I scale claim 8
clean_8 I scale claim clean none = clean_next I scale claim 7 Missing clean refl none
