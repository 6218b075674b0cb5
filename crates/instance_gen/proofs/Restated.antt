-- The links and needs of an instance, stated again, make this instance.
use Rattle.std.proofs.Common.{◌≡◌, ℕ, zero, suc, ◌+◌, ◌-◌, ◌<◌, ◌≤◌, min, max, Bool, true, false, cond, eqb, leb, ltb, ◌&&◌, List, [], ◌∷◌, ◌++◌, length, get_or, map, None, unwrap_or, refl, sym, ap, ◌∙◌, append_assoc, arith}
use Rattle.std.specs.Prelude.{filter, AllPairs, IsFalse}
use Rattle.std.specs.List.{AllByRecursion}
use Rattle.std.proofs.lemmas.Bool.Decides.{nat_tests}
use Rattle.std.proofs.lemmas.List.{append-nil, map-append, ext_get_or, length-map}
use Rattle.std.proofs.lemmas.List.Elements.{filter-append, recursion_from_All}
use Rattle.st_model.specs.declared.link.Link.{Link}
use Rattle.st_model.specs.declared.need.Need.{Need}
use Rattle.st_model.specs.declared.need.Need.TheVariants.{Required, Pays}
use Rattle.st_model.specs.Lists.{up_to}
use Rattle.st_model.specs.Network.{Network, IsInstance, IsLinkBetween, is_needed, joins, link, need_of}
use Rattle.st_model.specs.Stated.{both, merged, network_of, stated_need}
use Rattle.st_model.specs.Steps.{ordered}
use Rattle.st_model.proofs.Merging.{other_pair, merged_next}
use Rattle.st_model.proofs.Needs.{stated_need-push}
use Rattle.st_model.proofs.Sums.{length-up_to, get_or-up_to}
use Rattle.instance_gen.specs.Text.{at_least_one, is_paying, those_of, written_needs}

-- ---- links

abbrev Apart : Link → Link → Type 0
Apart l m = IsFalse (joins m l.a l.b)

no_link : (x : Link) (ls : List Link) → AllByRecursion (λ m. Apart x m) ls → link ls x.a x.b ≡ None
no_link x [] h = refl
no_link x (m ∷ ls) h = let here : joins m x.a x.b ≡ false = h.0 in rw (here, no_link x ls h.1) refl

all_kept : (x : Link) (ls : List Link) → AllByRecursion (λ m. Apart x m) ls → filter (other_pair x) ls ≡ ls
all_kept x [] h = refl
all_kept x (m ∷ ls) h = let here : joins m x.a x.b ≡ false = h.0 in rw (here, all_kept x ls h.1) refl

same_link : (x : Link) → x.a < x.b → ordered x (min x.cost x.cost) ≡ x
same_link x up =
    let low : min x.a x.b ≡ x.a = omega arith in
    let high : max x.a x.b ≡ x.b = omega arith in
    let cost : min x.cost x.cost ≡ x.cost = omega arith in
    rw (low, high, cost) refl

-- links of different pairs, lower ends first, stay as they are
pub merged_again : (n : ℕ) (ls : List Link) → AllByRecursion (IsLinkBetween n) ls → AllPairs Apart ls → merged ls ≡ ls
merged_again n [] ends apart = refl
merged_again n (x ∷ ls) ends apart =
    let up : x.a < x.b = ends.0.ordered in
    let different : eqb x.a x.b ≡ false = grind (arith, nat_tests) in
    let later : AllByRecursion (λ m. Apart x m) ls = recursion_from_All (λ m. Apart x m) ls (λ j d within. apart 0 (suc j) d (omega arith) (omega arith)) in
    let rest : merged ls ≡ ls = merged_again n ls ends.1 (λ i j d before within. apart (suc i) (suc j) d (omega arith) (omega arith)) in
    merged_next x ls different
    ∙ ap (λ ms. ordered x (min x.cost (unwrap_or (link ms x.a x.b) x.cost)) ∷ filter (other_pair x) ms) rest
    ∙ ap (λ o. ordered x (min x.cost (unwrap_or o x.cost)) ∷ filter (other_pair x) ls) (no_link x ls later)
    ∙ ap (λ ms. ordered x (min x.cost x.cost) ∷ ms) (all_kept x ls later)
    ∙ ap (λ l. l ∷ ls) (same_link x up)

-- ---- needs

-- the next vertex, if its need passes the test
abbrev pub asked : Network → (Need → Bool) → ℕ → List (ℕ × Need)
asked I test k = cond (test (need_of I k)) ((k, need_of I k) ∷ []) []

pub those_next : (I : Network) (test : Need → Bool) (k : ℕ) → those_of I test (suc k) ≡ those_of I test k ++ asked I test (suc k)
those_next I test k =
    let passes : ℕ → Bool = λ v. test (need_of I v) in
    ap (map {B = ℕ × Need} (λ v. (v, need_of I v))) (filter-append passes (up_to k) (suc k ∷ []))
    ∙ map-append {B = ℕ × Need} (λ v. (v, need_of I v)) (filter passes (up_to k)) (filter passes (suc k ∷ []))
    ∙ ap (λ es. those_of I test k ++ es) (one (test (need_of I (suc k))))
  where
    one : (b : Bool) → map {B = ℕ × Need} (λ v. (v, need_of I v)) (cond b (suc k ∷ []) []) ≡ cond b ((suc k, need_of I (suc k)) ∷ []) []
    one true = refl
    one false = refl

-- one more, and one more where it is asked for
with_asked : (I : Network) (test : Need → Bool) (before : List (ℕ × Need)) (k v : ℕ)
    → stated_need (before ++ asked I test k) v ≡ cond (test (need_of I k) && eqb k v) (both (stated_need before v) (need_of I k)) (stated_need before v)
with_asked I test before k v = by_case (test (need_of I k))
  where
    by_case : (b : Bool) → stated_need (before ++ cond b ((k, need_of I k) ∷ []) []) v ≡ cond (b && eqb k v) (both (stated_need before v) (need_of I k)) (stated_need before v)
    by_case true = stated_need-push before (k, need_of I k) v
    by_case false = ap (λ es. stated_need es v) (append-nil before)

those_then : (I : Network) (test : Need → Bool) (before : List (ℕ × Need)) (k v : ℕ)
    → stated_need (before ++ those_of I test (suc k)) v ≡ cond (test (need_of I (suc k)) && eqb (suc k) v)
    (both (stated_need (before ++ those_of I test k) v) (need_of I (suc k))) (stated_need (before ++ those_of I test k) v)
those_then I test before k v = ap (λ es. stated_need es v)
    (ap (λ es. before ++ es) (those_next I test k) ∙ sym (append_assoc before (those_of I test k) (asked I test (suc k))))
    ∙ with_asked I test (before ++ those_of I test k) (suc k) v

-- nothing more is stated of a vertex that isn't among those
not_among : (I : Network) (test : Need → Bool) (before : List (ℕ × Need)) (k v : ℕ) → test (need_of I v) && leb v k ≡ false → stated_need (before ++ those_of I test k) v ≡ stated_need before v
not_among I test before zero v c = ap (λ es. stated_need es v) (append-nil before)
not_among I test before (suc k) v c = those_then I test before k v ∙ by_case (test (need_of I (suc k))) (eqb (suc k) v) refl refl (not_among I test before k v (weaker (test (need_of I v)) c))
  where
    weaker : (b : Bool) → b && leb v (suc k) ≡ false → b && leb v k ≡ false
    weaker true h = grind (arith, nat_tests)
    weaker false h = refl

    by_case : (t e : Bool) → test (need_of I (suc k)) ≡ t → eqb (suc k) v ≡ e → stated_need (before ++ those_of I test k) v ≡ stated_need before v
        → cond (t && e) (both (stated_need (before ++ those_of I test k) v) (need_of I (suc k))) (stated_need (before ++ those_of I test k) v) ≡ stated_need before v
    by_case true true is at rest =
        let same : suc k ≡ v = grind (arith, nat_tests) in
        let passes : test (need_of I v) ≡ true = ap (λ w. test (need_of I w)) (sym same) ∙ is in
        let within : leb v (suc k) ≡ true = grind (arith, nat_tests) in
        let wrong : true ≡ false = sym (ap (λ b. b && leb v (suc k)) passes ∙ within) ∙ c in
        absurd cc
    by_case true false is at rest = rest
    by_case false e is at rest = rest

-- what one of those needs is stated of it
among : (I : Network) (test : Need → Bool) (before : List (ℕ × Need)) (k v : ℕ) → 1 ≤ v → v ≤ k → test (need_of I v) ≡ true
    → stated_need (before ++ those_of I test k) v ≡ both (stated_need before v) (need_of I v)
among I test before zero v low high passes = absurd (omega arith)
among I test before (suc k) v low high passes = those_then I test before k v ∙ by_case (test (need_of I (suc k))) (eqb (suc k) v) refl refl (λ up. among I test before k v low up passes)
  where
    by_case : (t e : Bool) → test (need_of I (suc k)) ≡ t → eqb (suc k) v ≡ e
        → (v ≤ k → stated_need (before ++ those_of I test k) v ≡ both (stated_need before v) (need_of I v))
        → cond (t && e) (both (stated_need (before ++ those_of I test k) v) (need_of I (suc k))) (stated_need (before ++ those_of I test k) v) ≡ both
        (stated_need before v) (need_of I v)
    by_case true true is at rest =
        let same : suc k ≡ v = grind (arith, nat_tests) in
        let above : leb v k ≡ false = grind (arith, nat_tests) in
        ap (λ need. both need (need_of I (suc k))) (not_among I test before k v (ap (λ b. test (need_of I v) && b) above ∙ none (test (need_of I v))))
        ∙ ap (λ w. both (stated_need before v) (need_of I w)) same
      where
        none : (b : Bool) → b && false ≡ false
        none true = refl
        none false = refl
    by_case true false is at rest = rest (grind (arith, nat_tests))
    by_case false true is at rest =
        let same : suc k ≡ v = grind (arith, nat_tests) in
        let wrong : false ≡ true = sym is ∙ ap (λ w. test (need_of I w)) same ∙ passes in
        absurd cc
    by_case false false is at rest = rest (grind (arith, nat_tests))

-- all that is written of a vertex
abbrev those_written : Network → List (ℕ × Need)
those_written I = those_of I is_needed I.n ++ those_of I is_paying I.n

stated_again : (I : Network) (v : ℕ) → 1 ≤ v → v ≤ I.n → stated_need (those_written I) v ≡ need_of I v
stated_again I v low high = by_case (need_of I v) refl
  where
    by_case : (d : Need) → need_of I v ≡ d → stated_need (those_written I) v ≡ need_of I v
    by_case Required is =
        not_among I is_paying (those_of I is_needed I.n) I.n v (ap (λ d. is_paying d && leb v I.n) is)
        ∙ among I is_needed [] I.n v low high (ap is_needed is) ∙ ap (λ d. both (Pays 0) d) is ∙ sym is
    by_case (Pays zero) is =
        not_among I is_paying (those_of I is_needed I.n) I.n v (ap (λ d. is_paying d && leb v I.n) is)
        ∙ not_among I is_needed [] I.n v (ap (λ d. is_needed d && leb v I.n) is) ∙ sym is
    by_case (Pays (suc p)) is =
        let some : ltb 0 (suc p) ≡ true = grind (arith, nat_tests) in
        let most : max 0 (suc p) ≡ suc p = omega arith in
        among I is_paying (those_of I is_needed I.n) I.n v low high (ap is_paying is ∙ some)
        ∙ ap (λ d. both d (need_of I v)) (not_among I is_needed [] I.n v (ap (λ d. is_needed d && leb v I.n) is)) ∙ ap (λ d. both (Pays 0) d) is ∙ ap (λ q. Pays q) most ∙ sym is

-- a prize of 0 that is stated says nothing
least_again : (es : List (ℕ × Need)) (v : ℕ) → stated_need (at_least_one es) v ≡ stated_need es v
least_again [] v = by_case (eqb 1 v)
  where
    by_case : (b : Bool) → cond b (both (Pays 0) (Pays 0)) (Pays 0) ≡ Pays 0
    by_case true = refl
    by_case false = refl
least_again (e ∷ es) v = refl

pub needs_again : (I : Network) → IsInstance I → map (stated_need (written_needs I)) (up_to I.n) ≡ I.needs
needs_again I i = ext_get_or Required _ _ (length-map (up_to I.n) (stated_need (written_needs I)) ∙ length-up_to I.n ∙ sym i.needs) each
  where
    each : (k : ℕ) → k < length (map (stated_need (written_needs I)) (up_to I.n)) → get_or (map (stated_need (written_needs I)) (up_to I.n)) k Required ≡ get_or I.needs k Required
    each k within =
        let long : length (map (stated_need (written_needs I)) (up_to I.n)) ≡ I.n = length-map (up_to I.n) (stated_need (written_needs I)) ∙ length-up_to I.n in
        let here : k < I.n = omega (arith, within, long) in
        let back : (k + 1) - 1 ≡ k = omega arith in
        get_or-up_to (stated_need (written_needs I)) I.n k Required here ∙ least_again (those_written I) (k + 1)
        ∙ stated_again I (k + 1) (omega arith) (omega (arith, here)) ∙ ap (λ j. get_or I.needs j Required) back

pub same_network : (I : Network) → IsInstance I → I ≡ network_of I.n I.links (written_needs I)
same_network I i = sym
    (ap (λ ls. made ls (map (stated_need (written_needs I)) (up_to I.n))) (merged_again I.n I.links (recursion_from_All (IsLinkBetween I.n) I.links i.ends) i.one_each)
    ∙ ap (λ ns. made I.links ns) (needs_again I i))
  where
    made : List Link → List Need → Network
    made ls ns = record { n = I.n; links = ls; needs = ns }
