-- The least that remains of the arcs that enter a set.
use Rattle.std.proofs.Common.{◌≡◌, ℕ, ◌<◌, ◌≤◌, not, List, [], ◌∷◌, ◌++◌, min, Some, ◌⊎◌, inl, inr, refl, sym, ap, ◌∙◌, subst, arith}
use Rattle.std.specs.Prelude.{IsTrue, IsFalse, ◌==◌, Contains}
use Rattle.std.proofs.lemmas.Bool.{false≢true, eqb-true, eq-eqb, or_cases, or_left, or_right, and_parts, and_from, not-true, cases_lt}
use Rattle.std.proofs.lemmas.List.Elements.{All-nil, All-push, All-weaker, Contains-append_left, Contains-push}
use Rattle.st_model.specs.Lists.{has}
use Rattle.st_model.proofs.Marked.{has-push}
use Rattle.bidirected_form.specs.declared.arc.Arc.{Arc}
use Rattle.bidirected_form.specs.Digraph.{Digraph, arcs_into, left_from, remaining}
use Rattle.bidirected_form.specs.Entering.{enters, CanBear}
use Rattle.bidirected_form.proofs.Lookups.{Rise, left_from-found, left_from-at}
use Rattle.dual_ascent.specs.Turns.{HasAnArcLeft, IsLeastOf}

pub least_of_none : (set : List ℕ) (limit : ℕ) → IsLeastOf set [] limit limit
least_of_none set limit = record {
  bound = omega arith;
  below = All-nil (λ (a : Arc). IsFalse (has set a.tail) → limit ≤ a.remaining);
  attained = inl refl;
}

-- an arc from the set is passed over
pub least_past : (set : List ℕ) (arcs : List Arc) (a : Arc) (limit least : ℕ) → IsTrue (has set a.tail) → IsLeastOf set arcs limit least → IsLeastOf set (arcs ++ a ∷ []) limit least
least_past set arcs a limit least within h = record {
  bound = h.bound;
  below = All-push (λ (b : Arc). IsFalse (has set b.tail) → least ≤ b.remaining) arcs a h.below (λ out. absurd (false≢true (sym out ∙ within)));
  attained = elim h.attained [ inl all ↦ inl all | inr one ↦ inr (one.0, Contains-append_left arcs (a ∷ []) one.0 one.1, one.2, one.3) ];
}

-- and one from outside is taken in
pub least_with : (set : List ℕ) (arcs : List Arc) (a : Arc) (limit least : ℕ) → IsFalse (has set a.tail) → IsLeastOf set arcs limit least → IsLeastOf set (arcs ++ a ∷ []) limit (min least a.remaining)
least_with set arcs a limit least out h = record {
  bound = omega (arith, h.bound);
  below = All-push (λ (b : Arc). IsFalse (has set b.tail) → min least a.remaining ≤ b.remaining) arcs a (All-weaker (λ (b : Arc). IsFalse (has set b.tail) → least ≤ b.remaining) (λ (b : Arc). IsFalse (has set b.tail) → min least a.remaining ≤ b.remaining) (λ b low e. omega (arith, low e)) arcs h.below) (λ e. omega arith);
  attained = by_case (cases_lt a.remaining least) h.attained;
}
  where
    by_case : (a.remaining < least) ⊎ (least ≤ a.remaining) → (least ≡ limit) ⊎ ((b : Arc) × Contains arcs b × IsFalse (has set b.tail) × (b.remaining ≡ least)) → (min least a.remaining ≡ limit) ⊎ ((b : Arc) × Contains (arcs ++ a ∷ []) b × IsFalse (has set b.tail) × (b.remaining ≡ min least a.remaining))
    by_case (inl less) before = inr (a, Contains-push arcs a, out, omega (arith, less))
    by_case (inr more) (inl all) = inl (omega (arith, more, all))
    by_case (inr more) (inr one) = inr (one.0, Contains-append_left arcs (a ∷ []) one.0 one.1, one.2, omega (arith, more, one.3))

-- the least of a limit and of what remains of the arcs into these vertices from outside the set
pub record IsLeastInto (D : Digraph) (set heads : List ℕ) (limit least : ℕ) : Type 0 where
  pub bound : least ≤ limit
  pub below : (u v r : ℕ) → IsTrue (has heads v) → IsFalse (has set u) → remaining D u v ≡ Some r → least ≤ r
  pub attained : (least ≡ limit) ⊎ ((u v : ℕ) × IsTrue (has heads v) × IsFalse (has set u) × (remaining D u v ≡ Some least))

pub least_into_none : (D : Digraph) (set : List ℕ) (limit : ℕ) → IsLeastInto D set [] limit limit
least_into_none D set limit = record { bound = omega arith; below = λ u v r held out is. absurd (false≢true held); attained = inl refl }

-- the arcs into one vertex more are taken in
pub least_into_more : (D : Digraph) (set heads : List ℕ) (w limit old new : ℕ) → Rise (arcs_into D w) → IsLeastOf set (arcs_into D w) old new → IsLeastInto D set heads limit old → IsLeastInto D set (heads ++ w ∷ []) limit new
least_into_more D set heads w limit old new rise l h = record {
  bound = omega (arith, l.bound, h.bound);
  below = λ u v r held out is. elim (or_cases (has heads v) (w == v) (rw (has-push heads w v) at held)) [
    | inl before ↦ omega (arith, l.bound, h.below u v r before out is)
    | inr here ↦ into u r out (ap (λ (x : ℕ). remaining D u x) (eqb-true w v here) ∙ is)
  ];
  attained = by_case l.attained h.attained;
}
  where
    into : (u r : ℕ) → IsFalse (has set u) → remaining D u w ≡ Some r → new ≤ r
    into u r out is =
        let found = left_from-found (arcs_into D w) u r is in
        let a : Arc = record { tail = u; remaining = r } in
        subst (λ (b : Arc). IsFalse (has set b.tail) → new ≤ b.remaining) (found.2 a) (l.below found.0 a found.1) out

    before : (v : ℕ) → IsTrue (has heads v) → IsTrue (has (heads ++ w ∷ []) v)
    before v held = rw (has-push heads w v) (or_left _ _ held)

    last : IsTrue (has (heads ++ w ∷ []) w)
    last = rw (has-push heads w w) (or_right (has heads w) _ (eq-eqb w w refl))

    by_case : (new ≡ old) ⊎ ((a : Arc) × Contains (arcs_into D w) a × IsFalse (has set a.tail) × (a.remaining ≡ new)) → (old ≡ limit) ⊎ ((u v : ℕ) × IsTrue (has heads v) × IsFalse (has set u) × (remaining D u v ≡ Some old)) → (new ≡ limit) ⊎ ((u v : ℕ) × IsTrue (has (heads ++ w ∷ []) v) × IsFalse (has set u) × (remaining D u v ≡ Some new))
    by_case (inl same) (inl all) = inl (same ∙ all)
    by_case (inl same) (inr one) = inr (one.0, one.1, before one.1 one.2, one.3, one.4 ∙ ap Some (sym same))
    by_case (inr one) rest =
        let at = left_from-at (arcs_into D w) one.1.0 one.0 rise one.1.1 in
        let is : left_from (arcs_into D w) one.0.tail ≡ Some one.0.remaining = subst (λ (b : Arc). left_from (arcs_into D w) b.tail ≡ Some b.remaining) one.1.2 at in
        inr (one.0.tail, w, last, one.2, is ∙ ap Some one.3)

-- that is what the set can bear
pub least_borne : (D : Digraph) (set : List ℕ) (limit least : ℕ) → IsLeastInto D set set limit least → CanBear D set least
least_borne D set limit least h u v r entering is =
    let parts = and_parts (has set v) (not (has set u)) entering in
    h.below u v r parts.0 (not-true (has set u) parts.1) is

pub least_attained : (D : Digraph) (set : List ℕ) (limit least : ℕ) → IsLeastInto D set set limit least → (least ≡ limit) ⊎ HasAnArcLeft D set least
least_attained D set limit least h = elim h.attained [
  | inl all ↦ inl all
  | inr one ↦ inr (record { tail = one.0; head = one.1; entering = enters_by one.0 one.1 one.2 one.3; left = one.4 })
]
  where
    enters_by : (u v : ℕ) → IsTrue (has set v) → IsFalse (has set u) → IsTrue (enters set u v)
    enters_by u v within out = and_from (has set v) (not (has set u)) within (ap not out)
