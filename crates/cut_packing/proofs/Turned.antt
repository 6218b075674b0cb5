-- A tree turned in place to another root: the arcs on the way to it point the other way.
use Rattle.std.proofs.Common.{◌≡◌, ℕ, Bool, true, false, cond, not, ◌&&◌, ◌||◌, List, [], ◌∷◌, ◌⊎◌, inl, inr, refl}
use Rattle.std.specs.Prelude.{◌==◌, IsTrue, IsFalse, if◌then◌else◌}
use Rattle.std.specs.List.{list_any}
use Rattle.std.proofs.lemmas.Bool.{or_right, or_cases, eqb-true, false≢true, both_ways, cases_Bool}
use Rattle.st_model.specs.Lists.{has}
use Rattle.st_model.specs.Ground.{Ground}
use Rattle.st_model.specs.Arborescence.{reached_from, GrowsIn}
use Rattle.st_model.proofs.Members.{has-one}

-- where the way to r begins, before the arcs
abbrev pub top : List (ℕ × ℕ) → ℕ → ℕ
top [] r = r
top (arc ∷ arcs) r = if arc.1 == top arcs r then arc.0 else top arcs r

-- the arcs, those on the way to r turned round
abbrev pub turned : List (ℕ × ℕ) → ℕ → List (ℕ × ℕ)
turned [] r = []
turned (arc ∷ arcs) r = (if arc.1 == top arcs r then (arc.1, arc.0) else arc) ∷ turned arcs r

-- whether the arc enters the set
abbrev pub enters : List ℕ → ℕ × ℕ → Bool
enters S arc = has S arc.1 && not (has S arc.0)

-- an arc between members of the set doesn't enter it, but then a later one does
inward : (head tail later : Bool) → IsTrue head → (IsTrue tail → IsTrue later) → IsTrue ((head && not tail) || later)
inward true true later h rest = rest refl
inward true false later h rest = refl
inward false tail later h rest = absurd (false≢true h)

-- where the way to r begins in a set that doesn't hold r, a turned arc enters the set
pub top_enters : (S : List ℕ) (r : ℕ) → IsFalse (has S r) → (arcs : List (ℕ × ℕ)) → IsTrue (has S (top arcs r)) → IsTrue (list_any (enters S) (turned arcs r))
top_enters S r out [] h = absurd (both_ways (has S r) out h)
top_enters S r out ((u, v) ∷ arcs) h = step (v == top arcs r) refl h (top_enters S r out arcs)
  where
    step : (b : Bool) → (v == top arcs r) ≡ b → IsTrue (has S (cond b u (top arcs r))) → (IsTrue (has S (top arcs r)) → IsTrue (list_any (enters S) (turned arcs r))) → IsTrue (enters S (cond b (v, u) (u, v)) || list_any (enters S) (turned arcs r))
    step true e in_set later = inward (has S u) (has S v) _ in_set (λ head. later (rw (eqb-true v (top arcs r) e) at head))
    step false e in_set later = or_right _ _ (later in_set)

-- where a vertex of the set is reached, a turned arc enters the set, or one of its vertices was reached before the arcs
pub turned_enters : (G : Ground) (S : List ℕ) (r q : ℕ) → IsFalse (has S r) → IsTrue (has S q) → (R : List ℕ) (arcs : List (ℕ × ℕ)) → GrowsIn G R arcs → IsTrue (has (reached_from R arcs) q) → IsTrue (list_any (enters S) (turned arcs r)) ⊎ ((x : ℕ) × IsTrue (has R x) × IsTrue (has S x))
turned_enters G S r q out in_set R [] g h = inr (q, h, in_set)
turned_enters G S r q out in_set R ((u, v) ∷ arcs) g h =
    elim (turned_enters G S r q out in_set (v ∷ R) arcs g.3 h) [
      | inl later ↦ inl (or_right _ _ later)
      | inr found ↦ at_head found.0 (or_cases (v == found.0) (has R found.0) found.1) found.2
    ]
  where
    Goal : Type 0
    Goal = IsTrue (list_any (enters S) (turned ((u, v) ∷ arcs) r)) ⊎ ((x : ℕ) × IsTrue (has R x) × IsTrue (has S x))

    by_head : (b : Bool) → (v == top arcs r) ≡ b → IsTrue (has S v) → IsTrue (enters S (cond b (v, u) (u, v)) || list_any (enters S) (turned arcs r)) ⊎ ((x : ℕ) × IsTrue (has R x) × IsTrue (has S x))
    by_head true e head = inl (or_right _ _ (top_enters S r out arcs (rw (eqb-true v (top arcs r) e) at head)))
    by_head false e head =
        elim (cases_Bool (has S u)) [
          | inl tail ↦ inr (u, g.1, tail)
          | inr tail ↦ inl (rw (head, tail) refl)
        ]

    at_head : (x : ℕ) → ((v == x) ≡ true) ⊎ (has R x ≡ true) → IsTrue (has S x) → Goal
    at_head x (inl e) member = by_head (v == top arcs r) refl (rw (eqb-true v x e) member)
    at_head x (inr before) member = inr (x, before, member)

-- the way to a vertex that is reached begins at a vertex that was reached before the arcs
pub top_reached : (G : Ground) (r : ℕ) (R : List ℕ) (arcs : List (ℕ × ℕ)) → GrowsIn G R arcs → IsTrue (has (reached_from R arcs) r) → IsTrue (has R (top arcs r))
top_reached G r R [] g h = h
top_reached G r R ((u, v) ∷ arcs) g h = step (v == top arcs r) (top_reached G r (v ∷ R) arcs g.3 h)
  where
    step : (b : Bool) → IsTrue (b || has R (top arcs r)) → IsTrue (has R (cond b u (top arcs r)))
    step true later = g.1
    step false later = later

-- a tree turned to a root outside the set enters the set where it reaches a vertex of it
pub entered : (G : Ground) (S : List ℕ) (s r q : ℕ) (arcs : List (ℕ × ℕ)) → GrowsIn G (s ∷ []) arcs → IsTrue (has (reached_from (s ∷ []) arcs) r) → IsFalse (has S r) → IsTrue (has (reached_from (s ∷ []) arcs) q) → IsTrue (has S q) → IsTrue (list_any (enters S) (turned arcs r))
entered G S s r q arcs g root out reached member =
    elim (turned_enters G S r q out member (s ∷ []) arcs g reached) [
      | inl found ↦ found
      | inr found ↦ top_enters S r out arcs (from_start found.0 found.1 found.2 (top_reached G r (s ∷ []) arcs g root))
    ]
  where
    from_start : (x : ℕ) → IsTrue ((s == x) || false) → IsTrue (has S x) → IsTrue ((s == top arcs r) || false) → IsTrue (has S (top arcs r))
    from_start x first in_set way = rw (← has-one s (top arcs r) way, has-one s x first) in_set
