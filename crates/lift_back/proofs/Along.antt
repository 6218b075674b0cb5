-- What is the same at both ends of each arc is the same at all that is reached.
use Rattle.std.proofs.Common.{◌≡◌, ℕ, Bool, true, false, ◌||◌, List, [], ◌∷◌, ◌++◌, inl, inr, refl, sym, ap, ◌∙◌, subst, eq-eqb}
use Rattle.std.proofs.Math.Bool.{or_comm}
use Rattle.std.specs.Prelude.{◌==◌, IsTrue, IsFalse, IsSome}
use Rattle.std.specs.List.{AllByRecursion}
use Rattle.std.proofs.lemmas.Bool.{or_cases, eqb-true, or_right}
use Rattle.st_model.specs.Lists.{has}
use Rattle.st_model.specs.Network.{Network, link}
use Rattle.st_model.specs.Arborescence.{reached_from, Grows}
use Rattle.st_model.specs.Made.{is_between, has_pair}
use Rattle.st_model.proofs.Distinct.{between-ends, has-cons_head, has-cons_tail, link-comm}
use Rattle.st_model.proofs.Judging.{reached_from-append}
use Rattle.st_model.proofs.ThinGrowth.{has-reached_from}

-- both ends of each pair are on the same side
abbrev pub Agrees : (ℕ → Bool) → List (ℕ × ℕ) → Type 0
Agrees S pairs = AllByRecursion (λ pair. S pair.0 ≡ S pair.1) pairs

-- all that arcs reach is on the side of what was reached at first
pub along : (I : Network) (S : ℕ → Bool) (side : Bool) (r : List ℕ) (arcs : List (ℕ × ℕ)) → Grows I r arcs → Agrees S arcs → ((v : ℕ) → IsTrue (has r v) → S v ≡ side) → (v : ℕ) → IsTrue (has (reached_from r arcs) v) → S v ≡ side
along I S side r [] g agrees first = first
along I S side r (arc ∷ arcs) g agrees first = along I S side (arc.1 ∷ r) arcs g.3 agrees.1 (λ v there. elim (or_cases (arc.1 == v) (has r v) there) [
  | inl same ↦ subst (λ (x : ℕ). S x ≡ side) (eqb-true arc.1 v same) (sym agrees.0 ∙ first arc.0 g.1)
  | inr other ↦ first v other
])

-- two vertices that a pair joins are on the same side
pub joined_agree : (S : ℕ → Bool) (pairs : List (ℕ × ℕ)) (u w : ℕ) → Agrees S pairs → IsTrue (has_pair pairs u w) → S u ≡ S w
joined_agree S [] u w agrees there = cc
joined_agree S (pair ∷ pairs) u w agrees there = elim (or_cases (is_between pair u w) (has_pair pairs u w) there) [
  | inl here ↦ elim (between-ends pair u w here) [
    | inl e ↦ ap S (sym e.0) ∙ (agrees.0 ∙ ap S e.1)
    | inr e ↦ ap S (sym e.1) ∙ (sym agrees.0 ∙ ap S e.0)
  ]
  | inr later ↦ joined_agree S pairs u w agrees.1 later
]

-- so arcs made of pairs agree where the pairs do
pub made_agree : (S : ℕ → Bool) (pairs arcs : List (ℕ × ℕ)) → Agrees S pairs → AllByRecursion (λ arc. IsTrue (has_pair pairs arc.0 arc.1)) arcs → Agrees S arcs
made_agree S pairs [] agrees made = tt
made_agree S pairs (arc ∷ arcs) agrees made = (joined_agree S pairs arc.0 arc.1 agrees made.0, made_agree S pairs arcs agrees made.1)

-- arcs go on where others end
pub Grows-append : (I : Network) (r : List ℕ) (xs ys : List (ℕ × ℕ)) → Grows I r xs → Grows I (reached_from r xs) ys → Grows I r (xs ++ ys)
Grows-append I r [] ys first rest = rest
Grows-append I r (arc ∷ xs) ys first rest = (first.0, first.1, first.2, Grows-append I (arc.1 ∷ r) xs ys first.3 rest)

-- arcs of given pairs, grown until no pair leads out of what is reached
pub record Spans (I : Network) (pairs : List (ℕ × ℕ)) (r : List ℕ) (arcs : List (ℕ × ℕ)) : Type 0 where
  pub grows : Grows I r arcs
  pub made : AllByRecursion (λ arc. IsTrue (has_pair pairs arc.0 arc.1)) arcs
  pub settled : Agrees (has (reached_from r arcs)) pairs

-- one pair more that leads out: reach its end, and go on from there
crossing : (I : Network) (pair : ℕ × ℕ) (pairs : List (ℕ × ℕ)) (r : List ℕ) (xs ys : List (ℕ × ℕ)) (u w : ℕ) → IsSome (link I.links u w) → IsTrue (is_between pair u w) → IsTrue (has (reached_from r xs) u) → IsFalse (has (reached_from r xs) w) → Spans I pairs r xs → Spans I pairs (w ∷ reached_from r xs) ys → ((S : ℕ → Bool) → IsTrue (S u) → IsTrue (S w) → S pair.0 ≡ S pair.1) → Spans I (pair ∷ pairs) r (xs ++ (u, w) ∷ ys)
crossing I pair pairs r xs ys u w linked here from to first rest both =
    let same : reached_from r (xs ++ (u, w) ∷ ys) ≡ reached_from (w ∷ reached_from r xs) ys = reached_from-append r xs ((u, w) ∷ ys) in
    record {
      grows = Grows-append I r xs ((u, w) ∷ ys) first.grows (linked, from, to, rest.grows);
      made = all_made xs first.made (or_left (is_between pair u w) (has_pair pairs u w) here, all_more ys rest.made);
      settled = subst (λ (l : List ℕ). Agrees (has l) (pair ∷ pairs)) (sym same) (both (has (reached_from (w ∷ reached_from r xs) ys)) (has-reached_from (w ∷ reached_from r xs) ys u (has-cons_tail (reached_from r xs) w u from)) (has-reached_from (w ∷ reached_from r xs) ys w (has-cons_head (reached_from r xs) w w refl)), rest.settled);
    }
  where
    or_left : (a b : Bool) → IsTrue a → IsTrue (a || b)
    or_left a b h = rw h refl

    all_more : (arcs : List (ℕ × ℕ)) → AllByRecursion (λ arc. IsTrue (has_pair pairs arc.0 arc.1)) arcs → AllByRecursion (λ arc. IsTrue (has_pair (pair ∷ pairs) arc.0 arc.1)) arcs
    all_more [] made = tt
    all_more (arc ∷ arcs) made = (or_right (is_between pair arc.0 arc.1) (has_pair pairs arc.0 arc.1) made.0, all_more arcs made.1)

    all_made : (arcs : List (ℕ × ℕ)) → AllByRecursion (λ arc. IsTrue (has_pair pairs arc.0 arc.1)) arcs → AllByRecursion (λ arc. IsTrue (has_pair (pair ∷ pairs) arc.0 arc.1)) ((u, w) ∷ ys) → AllByRecursion (λ arc. IsTrue (has_pair (pair ∷ pairs) arc.0 arc.1)) (arcs ++ (u, w) ∷ ys)
    all_made [] made more = more
    all_made (arc ∷ arcs) made more = (or_right (is_between pair arc.0 arc.1) (has_pair pairs arc.0 arc.1) made.0, all_made arcs made.1 more)

-- a pair is between its own ends
pub itself : (pair : ℕ × ℕ) → IsTrue (is_between pair pair.0 pair.1)
itself pair = rw (eq-eqb pair.0 pair.0 refl, eq-eqb pair.1 pair.1 refl) refl

pub itself_turned : (pair : ℕ × ℕ) → IsTrue (is_between pair pair.1 pair.0)
itself_turned pair = rw (or_comm, eq-eqb pair.0 pair.0 refl, eq-eqb pair.1 pair.1 refl) refl

-- there always are such arcs: those of the pairs but one, and where that one leads out, those from its end on
pub spanned : (I : Network) (pairs : List (ℕ × ℕ)) (r : List ℕ) → AllByRecursion (λ pair. IsSome (link I.links pair.0 pair.1)) pairs → (arcs : List (ℕ × ℕ)) × Spans I pairs r arcs
spanned I [] r linked = ([], record { grows = tt; made = tt; settled = tt })
spanned I (pair ∷ pairs) r linked =
    let first = spanned I pairs r linked.1 in
    by_test first.0 first.1 (has (reached_from r first.0) pair.0) (has (reached_from r first.0) pair.1) refl refl
    (spanned I pairs (pair.1 ∷ reached_from r first.0) linked.1) (spanned I pairs (pair.0 ∷ reached_from r first.0) linked.1)
  where
    weaker : (arcs : List (ℕ × ℕ)) → AllByRecursion (λ arc. IsTrue (has_pair pairs arc.0 arc.1)) arcs → AllByRecursion (λ arc. IsTrue (has_pair (pair ∷ pairs) arc.0 arc.1)) arcs
    weaker [] made = tt
    weaker (arc ∷ arcs) made = (or_right (is_between pair arc.0 arc.1) (has_pair pairs arc.0 arc.1) made.0, weaker arcs made.1)

    by_test : (xs : List (ℕ × ℕ)) → Spans I pairs r xs → (p q : Bool) → has (reached_from r xs) pair.0 ≡ p → has (reached_from r xs) pair.1 ≡ q → ((ys : List (ℕ × ℕ)) × Spans I pairs (pair.1 ∷ reached_from r xs) ys) → ((ys : List (ℕ × ℕ)) × Spans I pairs (pair.0 ∷ reached_from r xs) ys) → (arcs : List (ℕ × ℕ)) × Spans I (pair ∷ pairs) r arcs
    by_test xs first true true p_is q_is on back = (xs, record { grows = first.grows; made = weaker xs first.made; settled = (p_is ∙ sym q_is, first.settled) })
    by_test xs first false false p_is q_is on back = (xs, record { grows = first.grows; made = weaker xs first.made; settled = (p_is ∙ sym q_is, first.settled) })
    by_test xs first true false p_is q_is on back = (xs ++ pair ∷ on.0, crossing I pair pairs r xs on.0 pair.0 pair.1 linked.0 (itself pair) p_is q_is first on.1 (λ S here there. here ∙ sym there))
    by_test xs first false true p_is q_is on back = (xs ++ (pair.1, pair.0) ∷ back.0, crossing I pair pairs r xs back.0 pair.1 pair.0 (rw link-comm linked.0) (itself_turned pair) q_is p_is first back.1 (λ S here there. there ∙ sym here))
