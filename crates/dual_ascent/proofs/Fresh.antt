-- A cut over arcs and prizes as they are, with none before it.
use Rattle.std.proofs.Common.{◌≡◌, ◌≢◌, ℕ, ◌<◌, ◌≤◌, not, List, [], get_or, Some, ◌⊎◌, inl, inr, refl, sym, ap, ◌∙◌, subst, arith}
use Rattle.std.specs.Prelude.{IsTrue, IsFalse, All}
use Rattle.std.specs.List.Sorted.{IsStrictlyIncreasing}
use Rattle.std.proofs.lemmas.Bool.{false≢true, and_parts, not-true, cases_lt}
use Rattle.st_model.specs.Lists.{has}
use Rattle.st_model.specs.Network.{IsVertex}
use Rattle.st_model.proofs.Marked.{has_at, place_of}
use Rattle.bidirected_form.specs.declared.kind.VertexKind.{VertexKind}
use Rattle.bidirected_form.specs.declared.kind.VertexKind.TheVariants.{Outside, Must, May}
use Rattle.bidirected_form.specs.Digraph.{Digraph, kind_of, remaining}
use Rattle.bidirected_form.specs.Entering.{enters, CanBear}
use Rattle.prize_transform.specs.Twins.{Ends, left_of}
use Rattle.cut_packing.specs.declared.cut.Cut.{Cut}
use Rattle.dual_ascent.specs.Left.{AreEndsOf}
use Rattle.dual_ascent.specs.Raises.{Reaches, IsRaisable, UsesUpAnArc, ReachesTarget, SpendsThePrize, IsLeast, IsRaise, there}
use Rattle.dual_ascent.specs.Turns.{HasAnArcLeft, IsGrown, IsLimit}
use Rattle.dual_ascent.proofs.ChargedCuts.{left_free}

must_or_not : (k : VertexKind) → (k ≡ Must) ⊎ (k ≢ Must)
must_or_not Must = inl refl
must_or_not Outside = inr (λ e. cc)
must_or_not (May p) = inr (λ e. cc)

-- the parts of a raise
pub record AreParts (D : Digraph) (E : Ends) (room q : ℕ) (members : List ℕ) (limit : ℕ) (c : Cut) : Type 0 where
  pub in_range : All (IsVertex D.n) members
  pub raisable : IsRaisable D E [] q
  pub some : 0 < room
  pub grown : IsGrown D q members
  pub apart : IsFalse (has members D.root)
  pub limited : IsLimit D E q room limit
  pub bound : c.y ≤ limit
  pub bears : CanBear D members c.y
  pub attained : (c.y ≡ limit) ⊎ HasAnArcLeft D members c.y
  pub names : c.q ≡ q
  pub same : (v : ℕ) → has c.set v ≡ has members v
  pub ascending : IsStrictlyIncreasing c.set

module _ (D : Digraph) (E : Ends) (room q : ℕ) (members : List ℕ) (limit : ℕ) (c : Cut) (h : AreParts D E room q members limit c) where
  kind : (kind_of D q ≡ Must) ⊎ (kind_of D q ≢ Must)
  kind = must_or_not (kind_of D q)

  enters_same : (u v : ℕ) → enters c.set u v ≡ enters members u v
  enters_same u v = rw (h.same v, h.same u) refl

  -- something is left of the prize of a q that may be left out
  prize_left : kind_of D q ≢ Must → 0 < left_of E q
  prize_left may = elim h.raisable [ inl must ↦ absurd (may must) | inr left ↦ left ]

  limit_some : 0 < limit
  limit_some = elim kind [ inl must ↦ omega (arith, h.limited.must must, h.some) | inr may ↦ omega (arith, h.limited.may may, h.some, prize_left may) ]

  limit_room : limit ≤ room
  limit_room = elim kind [ inl must ↦ omega (arith, h.limited.must must) | inr may ↦ omega (arith, h.limited.may may) ]

  -- an arc with nothing left comes from the set
  arc_some : HasAnArcLeft D members c.y → 0 < c.y
  arc_some arc = elim (cases_lt 0 c.y) [
    | inl positive ↦ positive
    | inr none ↦
        let parts = and_parts (has members arc.head) (not (has members arc.tail)) arc.entering in
        let used : remaining D arc.tail arc.head ≡ Some 0 = arc.left ∙ ap Some (omega (arith, none)) in
        let held = (h.grown arc.tail).1 (there used ((h.grown arc.head).0 parts.0)) in
        absurd (false≢true (sym (not-true (has members arc.tail) parts.1) ∙ held))
  ]

  positive : 0 < c.y
  positive = elim h.attained [ inl all ↦ omega (arith, all, limit_some) | inr arc ↦ arc_some arc ]

  least_by : (c.y ≡ limit) ⊎ HasAnArcLeft D members c.y → UsesUpAnArc D [] c ⊎ ReachesTarget room [] c ⊎ SpendsThePrize D E [] c
  least_by (inr arc) = inl (record { tail = arc.tail; head = arc.head; entering = enters_same arc.tail arc.head ∙ arc.entering; used = arc.left ∙ ap Some (omega arith) })
  least_by (inl all) = elim kind [
    | inl must ↦ inr (inl (omega (arith, all, h.limited.must must)))
    | inr may ↦ elim (cases_lt (left_of E q) room) [
      | inl less ↦ inr (inr (λ must. may (ap (kind_of D) (sym h.names) ∙ must), omega (arith, all, h.limited.may may, less, ap (left_of E) h.names)))
      | inr more ↦ inr (inl (omega (arith, all, h.limited.may may, more)))
    ]
  ]

  least : IsLeast D E room [] c
  least = record {
    arcs = λ u v r entering is. omega (arith, h.bears u v r (sym (enters_same u v) ∙ entering) is);
    room = omega (arith, h.bound, limit_room);
    prize = λ may. omega (arith, h.bound, h.limited.may (λ must. may (ap (kind_of D) h.names ∙ must)), ap (left_of E) h.names);
    attained = least_by h.attained;
  }

  exact_here : (v : ℕ) → (IsTrue (has c.set v) → Reaches D [] c.q v) × (Reaches D [] c.q v → IsTrue (has c.set v))
  exact_here v = (λ held. subst (λ (p : ℕ). Reaches D [] p v) (sym h.names) ((h.grown v).0 (sym (h.same v) ∙ held)), λ reaching. h.same v ∙ (h.grown v).1 (subst (λ (p : ℕ). Reaches D [] p v) h.names reaching))

  in_range : All (IsVertex D.n) c.set
  in_range = λ k d below.
      let place = place_of members (get_or c.set k d) (sym (h.same (get_or c.set k d)) ∙ has_at c.set k d below) in
      subst (IsVertex D.n) place.2 (h.in_range place.0 0 place.1)

  pub raise_made : IsRaise D E room [] c × (c.q ≡ q)
  raise_made = (
    record {
      raisable = subst (IsRaisable D E []) (sym h.names) h.raisable;
      set = record { ascending = h.ascending; in_range = in_range };
      exact = exact_here;
      apart = h.same D.root ∙ h.apart;
      positive = positive;
      least = least;
    },
    h.names,
  )

-- the arcs can bear a raise
pub raise_borne : (D : Digraph) (E : Ends) (room : ℕ) (c : Cut) → IsRaise D E room [] c → CanBear D c.set c.y
raise_borne D E room c r u v left entering is = omega (arith, r.least.arcs u v left entering is)

-- and so can the prize, if something is left of it
pub raise_paid : (D : Digraph) (E : Ends) (room : ℕ) (c : Cut) → AreEndsOf D E → IsRaise D E room [] c → 0 < left_of E c.q → c.y ≤ left_of E c.q
raise_paid D E room c ends r some = omega (arith, r.least.prize (left_free D E c.q ends some))
