-- What remains after a change.
use Rattle.std.proofs.Common.{◌≡◌, ◌≢◌, ℕ, ◌+◌, ◌<◌, Bool, true, false, ◌&&◌, ◌||◌, not, eqb, List, [], ◌∷◌, length, get_or, set, set as put, take, map, Option, Some, None, ◌⊎◌, inl, inr, refl, sym, ap, ◌∙◌, subst, arith, get_or-set_same, get_or-set_other, ◌≤◌}
use Rattle.std.specs.Prelude.{All, IsTrue, IsFalse, IsSome, ◌↔◌, if◌then◌else◌}
use Rattle.std.specs.Option.{option_map, is_some}
use Rattle.std.specs.List.Sorted.{IsStrictlyIncreasing}
use Rattle.std.proofs.Math.Bool.{or-true, or-false}
use Rattle.std.proofs.lemmas.Bool.{cases_eq, ne_eqb, eq-eqb, eqb-true, false≢true, cases_lt}
use Rattle.std.proofs.lemmas.List.{get_or_past, get_or-map, length-map}
use Rattle.st_model.specs.Lists.{has}
use Rattle.st_model.specs.Network.{IsVertex}
use Rattle.st_model.proofs.Marked.{AllApart-at, AllApart-from_increasing, has_more}
use Rattle.bidirected_form.specs.declared.arc.Arc.{Arc}
use Rattle.bidirected_form.specs.declared.change.Change.{Change}
use Rattle.bidirected_form.specs.Digraph.{Digraph, IsDigraph, AreArcsInto, left_from, remaining, kind_of}
use Rattle.bidirected_form.specs.declared.kind.VertexKind.TheVariants.{Outside}
use Rattle.bidirected_form.specs.Entering.{enters, Alters, IsEntering}
use Rattle.bidirected_form.specs.Rows.{after, altered, row_of, CanAlter, IsAllowed}
use Rattle.bidirected_form.proofs.RowLemmas.{altered_tail, tails_kept, tail_of}
use Rattle.bidirected_form.proofs.Lookups.{left_from-at}

-- what remains where each arc from a vertex without a mark is altered
pub left_altered : (marks : List Bool) (change : Change) (arcs : List Arc) (u : ℕ) → left_from (map (altered marks change) arcs) u ≡ (if get_or marks u false then left_from arcs u else option_map (after change) (left_from arcs u))
left_altered marks change [] u = by_case (get_or marks u false)
  where
    by_case : (b : Bool) → ◌≡◌ {A = Option ℕ} None (if b then None else None)
    by_case true = refl
    by_case false = refl
left_altered marks change (a ∷ arcs) u = rw (altered_tail marks change a, left_altered marks change arcs u) (by_case (eqb a.tail u) refl (get_or marks u false) refl)
  where
    by_case : (b : Bool) → eqb a.tail u ≡ b → (m : Bool) → get_or marks u false ≡ m → (if b then Some (altered marks change a).remaining else (if m then left_from arcs u else option_map (after change) (left_from arcs u))) ≡ (if m then (if b then Some a.remaining else left_from arcs u) else option_map (after change) (if b then Some a.remaining else left_from arcs u))
    by_case false e true f = refl
    by_case false e false f = refl
    by_case true e true f = let mark : get_or marks a.tail false ≡ true = ap (λ (v : ℕ). get_or marks v false) (eqb-true a.tail u e) ∙ f in rw mark refl
    by_case true e false f = let mark : get_or marks a.tail false ≡ false = ap (λ (v : ℕ). get_or marks v false) (eqb-true a.tail u e) ∙ f in rw mark refl

-- a number of an ascending list isn't among those before it
pub new_member : (set : List ℕ) → IsStrictlyIncreasing set → (i : ℕ) → i < length set → IsFalse (has (take i set) (get_or set i 0))
new_member set rise i below = AllApart-at set i (AllApart-from_increasing set rise) below

abbrev pub AreAltered : List Bool → Change → List ℕ → List (List Arc) → List (List Arc) → Type 0
AreAltered marks change seen old new = (v : ℕ) → row_of new v ≡ (if has seen v then map (altered marks change) (row_of old v) else row_of old v)

-- the next row is as it was
pub next_row : (marks : List Bool) (change : Change) (set : List ℕ) (old now : List (List Arc)) (i : ℕ) → IsStrictlyIncreasing set → i < length set → AreAltered marks change (take i set) old now → row_of now (get_or set i 0) ≡ row_of old (get_or set i 0)
next_row marks change set old now i rise below h = rw (h (get_or set i 0), new_member set rise i below) refl

-- one row more is altered
pub altered_next : (marks : List Bool) (change : Change) (set : List ℕ) (old now : List (List Arc)) (i : ℕ) → IsStrictlyIncreasing set → i < length set → get_or set i 0 < length now → AreAltered marks change (take i set) old now → AreAltered marks change (take (i + 1) set) old (put now (get_or set i 0) (map (altered marks change) (row_of now (get_or set i 0))))
altered_next marks change members old now i rise below room h v = rw (has_more members i v below) (by_case (cases_eq (get_or members i 0) v))
  where
    by_case : (get_or members i 0 ≡ v) ⊎ (get_or members i 0 ≢ v) → row_of (set now (get_or members i 0) (map (altered marks change) (row_of now (get_or members i 0)))) v ≡ (if has (take i members) v || eqb (get_or members i 0) v then map (altered marks change) (row_of old v) else row_of old v)
    by_case (inl same) = subst (λ (w : ℕ). row_of (set now (get_or members i 0) (map (altered marks change) (row_of now (get_or members i 0)))) w ≡ (if has (take i members) w || eqb (get_or members i 0) w then map (altered marks change) (row_of old w) else row_of old w)) same (rw (get_or-set_same now (get_or members i 0) (map (altered marks change) (row_of now (get_or members i 0))) [] room, next_row marks change members old now i rise below h, eq-eqb (get_or members i 0) (get_or members i 0) refl, or-true (has (take i members) (get_or members i 0))) refl)
    by_case (inr differ) = rw (get_or-set_other now (get_or members i 0) v (map (altered marks change) (row_of now (get_or members i 0))) [] (λ e. differ (sym e)), ne_eqb (get_or members i 0) v differ, h v, or-false (has (take i members) v)) refl

-- what remains of each arc after the rows are altered
pub remaining_altered : (marks : List Bool) (change : Change) (members : List ℕ) (old new : List (List Arc)) → ((v : ℕ) → get_or marks v false ≡ has members v) → AreAltered marks change members old new → (u v : ℕ) → left_from (row_of new v) u ≡ (if enters members u v then option_map (after change) (left_from (row_of old v) u) else left_from (row_of old v) u)
remaining_altered marks change members old new marked h u v = rw (h v) (by_case (has members v) (has members u) (marked u))
  where
    by_case : (a b : Bool) → get_or marks u false ≡ b → left_from (if a then map (altered marks change) (row_of old v) else row_of old v) u ≡ (if a && not b then option_map (after change) (left_from (row_of old v) u) else left_from (row_of old v) u)
    by_case true true e = left_altered marks change (row_of old v) u ∙ rw e refl
    by_case true false e = left_altered marks change (row_of old v) u ∙ rw e refl
    by_case false b e = refl

pub tails_altered : (marks : List Bool) (change : Change) (members : List ℕ) (old new : List (List Arc)) → AreAltered marks change members old new → (v : ℕ) → map tail_of (row_of new v) ≡ map tail_of (row_of old v)
tails_altered marks change members old new h v = rw (h v) (by_case (has members v))
  where
    by_case : (a : Bool) → map tail_of (if a then map (altered marks change) (row_of old v) else row_of old v) ≡ map tail_of (row_of old v)
    by_case true = tails_kept (altered marks change) (altered_tail marks change) (row_of old v)
    by_case false = refl

-- the arcs into a vertex are known by their tails
arcs_kept : (n v : ℕ) (old new : List Arc) → map tail_of new ≡ map tail_of old → AreArcsInto n v old → AreArcsInto n v new
arcs_kept n v old new same h = record {
  ascending = λ i j d before below. subst (λ (p : ℕ × ℕ). p.0 < p.1) (two (sym (tail_at i d (omega (arith, before, below)))) (sym (tail_at j d below))) (h.ascending i j d before (omega (arith, long, below)));
  tails = λ k d below. subst (λ (t : ℕ). IsVertex n t × (t ≢ v)) (sym (tail_at k d below)) (h.tails k d (omega (arith, long, below)));
}
  where
    long : length new ≡ length old
    long = sym (length-map new tail_of) ∙ ap length same ∙ length-map old tail_of

    tail_at : (k : ℕ) (d : Arc) → k < length new → (get_or new k d).tail ≡ (get_or old k d).tail
    tail_at k d below = sym (get_or-map tail_of new k d 0 below) ∙ ap (λ (ts : List ℕ). get_or ts k 0) same ∙ get_or-map tail_of old k d 0 (omega (arith, long))

    two : {a b c d : ℕ} → a ≡ c → b ≡ d → ◌≡◌ {A = ℕ × ℕ} (a, b) (c, d)
    two p q = λ i. (p i, q i)

same_some : (b : Bool) (change : Change) (o : Option ℕ) → is_some (if b then option_map (after change) o else o) ≡ is_some o
same_some true change None = refl
same_some true change (Some r) = refl
same_some false change o = refl

still_none : (b : Bool) (change : Change) (o : Option ℕ) → o ≡ None → (if b then option_map (after change) o else o) ≡ None
still_none true change o e = rw e refl
still_none false change o e = e

-- a change leaves a root with kinds and arcs
pub still_digraph : (D : Digraph) (marks : List Bool) (change : Change) (members : List ℕ) (new : List (List Arc)) → IsDigraph D → length new ≡ length D.arcs → ((v : ℕ) → get_or marks v false ≡ has members v) → AreAltered marks change members D.arcs new → IsDigraph (record { root = D.root; n = D.n; kinds = D.kinds; arcs = new })
still_digraph D marks change members new h long marked low = record {
  few_vertices = h.few_vertices;
  root = h.root;
  kinds = h.kinds;
  rows = long ∙ h.rows;
  arcs = λ v. arcs_kept D.n v (row_of D.arcs v) (row_of new v) (tails_altered marks change members D.arcs new low v) (h.arcs v);
  both = λ u v. ap is_some (remaining_altered marks change members D.arcs new marked low u v) ∙ same_some (enters members u v) change (remaining D u v) ∙ h.both u v ∙ sym (same_some (enters members v u) change (remaining D v u)) ∙ sym (ap is_some (remaining_altered marks change members D.arcs new marked low v u));
  nobody = h.nobody;
  outside = λ u v off. remaining_altered marks change members D.arcs new marked low u v ∙ still_none (enters members u v) change (remaining D u v) (h.outside u v off);
}

pub alters : (D : Digraph) (marks : List Bool) (change : Change) (members : List ℕ) (new : List (List Arc)) → ((v : ℕ) → get_or marks v false ≡ has members v) → AreAltered marks change members D.arcs new → Alters D (record { root = D.root; n = D.n; kinds = D.kinds; arcs = new }) members (after change)
alters D marks change members new marked low = record {
  root = refl;
  count = refl;
  kinds = refl;
  neighbours = tails_altered marks change members D.arcs new low;
  remaining = remaining_altered marks change members D.arcs new marked low;
}

-- each arc from a vertex without a mark can be changed
pub allowed_left : (D : Digraph) (marks : List Bool) (change : Change) (members : List ℕ) → IsDigraph D → CanAlter D members change → ((v : ℕ) → get_or marks v false ≡ has members v) → (v : ℕ) → IsTrue (has members v) → All (IsAllowed marks change) (row_of D.arcs v)
allowed_left D marks change members h can marked v there k d below free =
    let arc = get_or (row_of D.arcs v) k d in
    let absent : has members arc.tail ≡ false = sym (marked arc.tail) ∙ free in
    let entering : IsTrue (enters members arc.tail v) = rw (there, absent) refl in
    can arc.tail v arc.remaining entering (left_from-at (row_of D.arcs v) k d (h.arcs v).ascending below)

-- marks that were set and taken away
pub marks_gone : (marks set_marks gone : List Bool) (members : List ℕ) → ((v : ℕ) → get_or marks v false ≡ false) → ((v : ℕ) → get_or set_marks v false ≡ (has members v || get_or marks v false)) → ((v : ℕ) → get_or gone v false ≡ (if has members v then false else get_or set_marks v false)) → (v : ℕ) → get_or gone v false ≡ false
marks_gone marks set_marks gone members clear marked unmarked v = rw (unmarked v, marked v, clear v) (by_case (has members v))
  where
    by_case : (a : Bool) → (if a then false else (a || false)) ≡ false
    by_case true = refl
    by_case false = refl

pub marks_set : (marks set_marks : List Bool) (members : List ℕ) → ((v : ℕ) → get_or marks v false ≡ false) → ((v : ℕ) → get_or set_marks v false ≡ (has members v || get_or marks v false)) → (v : ℕ) → get_or set_marks v false ≡ has members v
marks_set marks set_marks members clear marked v = rw (marked v, clear v) (or-false (has members v))

-- an arc into the set from a vertex without a mark enters it
pub entering_is : (D : Digraph) (marks : List Bool) (members : List ℕ) (u v : ℕ) → get_or marks u false ≡ has members u → (IsTrue (has members v) × IsFalse (get_or marks u false) × IsSome (left_from (row_of D.arcs v) u)) ↔ IsEntering D members (u, v)
entering_is D marks members u v marked = (
  λ f. let absent : has members u ≡ false = sym marked ∙ f.1 in (f.2, rw (f.0, absent) refl),
  λ e. parts (has members v) refl (has members u) refl e,
)
  where
    parts : (a : Bool) → has members v ≡ a → (b : Bool) → has members u ≡ b → IsSome (remaining D u v) × IsTrue (a && not b) → IsTrue (has members v) × IsFalse (get_or marks u false) × IsSome (left_from (row_of D.arcs v) u)
    parts true e false f h = (e, marked ∙ f, h.0)
    parts true e true f h = absurd (false≢true h.1)
    parts false e b f h = absurd (false≢true h.1)

-- there is no arc to what isn't a vertex
pub no_arc_past : (D : Digraph) (u v : ℕ) → IsDigraph D → (IsVertex D.n v → ⊥) → None ≡ remaining D u v
no_arc_past D u v h out = sym (h.outside u v (by_case (cases_lt v 1)))
  where
    by_case : (v < 1) ⊎ (1 ≤ v) → kind_of D v ≡ Outside
    by_case (inl low) = let zero_is : 0 ≡ v = omega (arith, low) in subst (λ (w : ℕ). kind_of D w ≡ Outside) zero_is h.nobody
    by_case (inr some) = past (cases_lt D.n v)
      where
        past : (D.n < v) ⊎ (v ≤ D.n) → kind_of D v ≡ Outside
        past (inl high) = get_or_past D.kinds v Outside (omega (arith, h.kinds, high))
        past (inr few) = absurd (out (some, few))
