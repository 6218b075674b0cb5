-- Whose turn it is, and that all others wait on.
use Rattle.std.proofs.Common.{◌≡◌, ℕ, Bool, true, false, List, ◌∷◌, inl, inr, refl, sym, ◌∙◌, ap, ◌||◌}
use Rattle.std.specs.Prelude.{◌==◌, All, IsPermutation, IsTrue}
use Rattle.std.proofs.lemmas.Bool.{eqb-true, or_cases}
use Rattle.std.proofs.lemmas.List.Elements.{All-cons, All-tail, All-head}
use Rattle.std.proofs.lemmas.List.Sorted.{All-permutation, list_any-IsPermutation}
use Rattle.bidirected_form.specs.Digraph.{Digraph}
use Rattle.dual_ascent.specs.declared.growing.Growth.{Growth}
use Rattle.dual_ascent.specs.declared.turning.Turn.{Turn}
use Rattle.dual_ascent.specs.declared.waiting.Waiting.{Waiting}
use Rattle.dual_ascent.specs.Turns.{AreLeading, IsCovered, IsWaiting, Entry, waits, KeepsWaiting, IsLooked, IsTurn, leads}

-- in another order the same wait
pub waits_moved : (old new : List Entry) → IsPermutation old new → (v : ℕ) → IsTrue (waits old v) → IsTrue (waits new v)
waits_moved old new moved v waiting = sym (list_any-IsPermutation (λ (x : Entry). x.0.vertex == v) old new moved) ∙ waiting

-- whoever is covered by those who wait is covered by more
covered_by : (D : Digraph) (old new : List Entry) → ((v : ℕ) → IsTrue (waits old v) → IsTrue (waits new v)) → (v : ℕ) → IsCovered D old v → IsCovered D new v
covered_by D old new more v (inl reached) = inl reached
covered_by D old new more v (inr led) = inr (led.0, more led.0 led.1, led.2, led.3)

-- the same wait, in range
keeps_by : (D : Digraph) (old new : List Entry) → (All (λ (e : Entry). IsWaiting D e.0) old → All (λ (e : Entry). IsWaiting D e.0) new) → ((v : ℕ) → IsTrue (waits old v) → IsTrue (waits new v)) → KeepsWaiting D old new
keeps_by D old new each more = λ E h. record {
  each = each h.each;
  others = λ v open_at. elim (h.others v open_at) [ inl waiting ↦ inl (more v waiting) | inr covered ↦ inr (covered_by D old new more v covered) ];
}

pub keeps_moved : (D : Digraph) (old new : List Entry) → IsPermutation old new → KeepsWaiting D old new
keeps_moved D old new moved = keeps_by D old new (All-permutation (λ (x : Entry). IsWaiting D x.0) old new moved) (waits_moved old new moved)

pub leading_moved : (D : Digraph) (marks : List Bool) (old new : List Entry) → IsPermutation old new → AreLeading D marks old → AreLeading D marks new
leading_moved D marks old new moved h v led = (waits_moved old new moved v (h v led).0, (h v led).1)

-- the first of those who wait is looked at
module _ (D : Digraph) (w w' : Waiting) (rest : List Entry) (same : w'.vertex ≡ w.vertex) where
  waits_same : (v : ℕ) → IsTrue (waits (record { 0 = w } ∷ rest) v) → IsTrue (waits (record { 0 = w' } ∷ rest) v)
  waits_same v waiting = ap (λ (u : ℕ). (u == v) || waits rest v) same ∙ waiting

  keeps_looked : KeepsWaiting D (record { 0 = w } ∷ rest) (record { 0 = w' } ∷ rest)
  keeps_looked = keeps_by D (record { 0 = w } ∷ rest) (record { 0 = w' } ∷ rest) (λ each. All-cons (λ (x : Entry). IsWaiting D x.0) (record { 0 = w' }) rest (rw same (All-head (λ (x : Entry). IsWaiting D x.0) (record { 0 = w }) rest each)) (All-tail (λ (x : Entry). IsWaiting D x.0) (record { 0 = w }) rest each)) waits_same

module _ (D : Digraph) (old new : List Entry) (w : Waiting) (moved : IsPermutation old (record { 0 = w } ∷ new)) (each : All (λ (e : Entry). IsWaiting D e.0) old) where
  both_waiting : All (λ (e : Entry). IsWaiting D e.0) (record { 0 = w } ∷ new)
  both_waiting = All-permutation (λ (x : Entry). IsWaiting D x.0) old (record { 0 = w } ∷ new) moved each

  pub first_waiting : IsWaiting D w
  first_waiting = All-head (λ (x : Entry). IsWaiting D x.0) (record { 0 = w }) new both_waiting

  rest_waiting : All (λ (e : Entry). IsWaiting D e.0) new
  rest_waiting = All-tail (λ (x : Entry). IsWaiting D x.0) (record { 0 = w }) new both_waiting

  -- whoever leads and isn't the first one waits after it
  later_waits : (marks : List Bool) (v : ℕ) → AreLeading D marks old → IsTrue (leads marks v) → (v ≡ w.vertex → ⊥) → IsTrue (waits new v)
  later_waits marks v leading led apart = elim (or_cases (w.vertex == v) (waits new v) (waits_moved old (record { 0 = w } ∷ new) moved v (leading v led).0)) [
    | inl is ↦ absurd (apart (sym (eqb-true w.vertex v is)))
    | inr there ↦ there
  ]

  -- the first one is taken, and looked at
  pub turn_made : (before : List Bool) (g : Growth) (t : Turn) → AreLeading D before old → t.waiting.vertex ≡ w.vertex → IsLooked D before g.known.leads.items g.set.members w.vertex t.is_covered → IsTurn D g old new t
  turn_made before g t leading same looked = made t.is_covered refl
    where
      made : (covered : Bool) → t.is_covered ≡ covered → IsTurn D g old new t
      made true is =
          let seen = rw is at looked in
          record {
            waiting = rw same first_waiting;
            waited = λ E h. keeps_looked D w t.waiting new same E (keeps_moved D old (record { 0 = w } ∷ new) moved E h);
            rest = rest_waiting;
            looked = rw (is, same) (elim seen.0 [ inl reached ↦ inl reached | inr led ↦ inr (led.0, later_waits before led.0 leading led.1 led.2, (leading led.0 led.1).1, led.3) ]);
            leading = rw is (λ v led. let was = seen.1 v led in (later_waits before v leading was.0 was.1, (leading v was.0).1));
          }
      made false is =
          let seen = rw is at looked in
          record {
            waiting = rw same first_waiting;
            waited = λ E h. keeps_looked D w t.waiting new same E (keeps_moved D old (record { 0 = w } ∷ new) moved E h);
            rest = rest_waiting;
            looked = rw (is, same) seen.0;
            leading = rw (is, seen.1) (λ v led. (waits_same D w t.waiting new same v (waits_moved old (record { 0 = w } ∷ new) moved v (leading v led).0), (leading v led).1));
          }

-- what waits in the first queue waits in the second, of which the turn is
pub turn_after : (D : Digraph) (g : Growth) (first old new : List Entry) (t : Turn) → KeepsWaiting D first old → IsTurn D g old new t → IsTurn D g first new t
turn_after D g first old new t keeps turn = record {
  waiting = turn.waiting;
  waited = λ E h. turn.waited E (keeps E h);
  rest = turn.rest;
  looked = turn.looked;
  leading = turn.leading;
}

-- the one whose turn it is waits on
module _ (D : Digraph) (g : Growth) (old new back : List Entry) (t : Turn) (turn : IsTurn D g old new t) (pushed : IsPermutation (record { 0 = t.waiting } ∷ new) back) where
  pub keeps_back : (first : List Entry) → KeepsWaiting D first old → KeepsWaiting D first back
  keeps_back first keeps = λ E h. keeps_moved D (record { 0 = t.waiting } ∷ new) back pushed E (turn.waited E (keeps E h))

  pub all_back : All (λ (e : Entry). IsWaiting D e.0) back
  all_back = All-permutation (λ (x : Entry). IsWaiting D x.0) (record { 0 = t.waiting } ∷ new) back pushed (All-cons (λ (x : Entry). IsWaiting D x.0) (record { 0 = t.waiting }) new turn.waiting turn.rest)

  pub leading_back : t.is_covered ≡ false → AreLeading D g.known.leads.items back
  leading_back is = leading_moved D g.known.leads.items (record { 0 = t.waiting } ∷ new) back pushed (rw is at turn.leading)
