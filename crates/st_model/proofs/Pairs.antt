-- Lists of pairs of which neither end comes first, and lists of links.
use Rattle.std.proofs.Common.{◌≡◌, ℕ, ◌+◌, ◌<◌, min, max, Bool, true, false, ◌&&◌, ◌||◌, List, [], ◌∷◌, ◌++◌, length, take, get_or, cond, None, inl, inr, refl, sym, ◌∙◌, arith}
use Rattle.std.proofs.Math.Bool.{or_comm, or-false}
use Rattle.std.specs.Prelude.{◌==◌, IsTrue, IsFalse, IsSome}
use Rattle.std.specs.List.{list_any}
use Rattle.std.proofs.lemmas.Bool.{eq-eqb, or_parts, both_ways, false_from_ne_true, false≢true}
use Rattle.std.proofs.lemmas.Bool.Decides.{nat_tests}
use Rattle.std.proofs.lemmas.List.{take_more}
use Rattle.std.proofs.lemmas.List.Elements.{All-push, All-nil}
use Rattle.std.proofs.lemmas.List.Folds.{list_any-append}
use Rattle.st_model.specs.declared.branch.Branch.{Branch}
use Rattle.st_model.specs.Ground.{Ground, IsUndirected}
use Rattle.st_model.specs.Branch.{AreLinksIn, open_price}
use Rattle.st_model.specs.Made.{is_between, has_pair, AreApart}
use Rattle.st_model.specs.Sides.{is_kept}
use Rattle.st_model.proofs.Distinct.{between-ends}

-- a pair is between its own ends
pub own : (m : ℕ × ℕ) → IsTrue (is_between m m.0 m.1)
own m = rw (eq-eqb m.0 m.0 refl, eq-eqb m.1 m.1 refl) refl

pub between-comm : (p : ℕ × ℕ) (u v : ℕ) → is_between p u v ≡ is_between p v u
between-comm p u v = or_comm ((p.0 == u) && (p.1 == v)) ((p.0 == v) && (p.1 == u))

pub has_pair-comm : (ps : List (ℕ × ℕ)) (u v : ℕ) → has_pair ps u v ≡ has_pair ps v u
has_pair-comm [] u v = refl
has_pair-comm (p ∷ ps) u v = rw (between-comm p u v, has_pair-comm ps u v) refl

-- two pairs of the same ends, the other way round
pub between-turned : (a m : ℕ × ℕ) → IsTrue (is_between a m.0 m.1) → IsTrue (is_between m a.0 a.1)
between-turned a m h = elim (between-ends a m.0 m.1 h) [
  | inl e ↦ rw (e.0, e.1) (own m)
  | inr e ↦ rw (e.0, e.1) (between-comm m m.1 m.0 ∙ own m)
]

-- where a pair isn't among some, neither is one of the same ends
pub apart_from : (m a : ℕ × ℕ) (ms : List (ℕ × ℕ)) → IsFalse (has_pair ms m.0 m.1) → IsTrue (is_between m a.0 a.1) → IsFalse (has_pair ms a.0 a.1)
apart_from m a ms out h = elim (between-ends m a.0 a.1 h) [
  | inl e ↦ rw (← e.0, ← e.1) out
  | inr e ↦ rw (← e.0, ← e.1) (has_pair-comm ms m.1 m.0 ∙ out)
]

-- one pair more
pub has_pair-push : (ps : List (ℕ × ℕ)) (p : ℕ × ℕ) (u v : ℕ) → has_pair (ps ++ p ∷ []) u v ≡ (has_pair ps u v || is_between p u v)
has_pair-push ps p u v = rw (list_any-append (λ q. is_between q u v) ps (p ∷ []), or-false (is_between p u v)) refl

-- one that isn't among them stands apart
pub AreApart-push : (ps : List (ℕ × ℕ)) (p : ℕ × ℕ) → AreApart ps → IsFalse (has_pair ps p.0 p.1) → AreApart (ps ++ p ∷ [])
AreApart-push [] p h new = (refl, tt)
AreApart-push (q ∷ ps) p h new =
    let parts = or_parts (is_between q p.0 p.1) (has_pair ps p.0 p.1) new in
    (rw (has_pair-push ps p q.0 q.1, h.0) (false_from_ne_true (is_between p q.0 q.1) (λ same. both_ways (is_between q p.0 p.1) parts.0 (between-turned p q same))), AreApart-push ps p h.1 parts.1)

-- an arc that isn't barred has its price
pub open_unbarred : (G : Ground) (B : Branch) (u v : ℕ) → IsFalse (has_pair B.barred u v) → open_price G B u v ≡ G.price u v
open_unbarred G B u v free = rw free refl

-- an arc that has a price isn't barred
pub open_parts : (G : Ground) (B : Branch) (u v : ℕ) → IsSome (open_price G B u v) → IsFalse (has_pair B.barred u v) × IsSome (G.price u v)
open_parts G B u v some = by_case (has_pair B.barred u v) some
  where
    by_case : (b : Bool) → IsSome (cond b None (G.price u v)) → IsFalse b × IsSome (G.price u v)
    by_case true h = absurd (false≢true h)
    by_case false h = (refl, h)

-- it costs the same in the other direction
pub open-comm : (G : Ground) (B : Branch) → IsUndirected G → (u v : ℕ) → open_price G B u v ≡ open_price G B v u
open-comm G B same u v = rw (has_pair-comm B.barred u v, same u v) refl

-- no links
pub AreLinks-nil : (G : Ground) → AreLinksIn G []
AreLinks-nil G = record { ordered = All-nil (λ pair. pair.0 < pair.1); linked = All-nil (λ pair. IsSome (G.price pair.0 pair.1)); apart = tt }

-- links with one that isn't among them
pub AreLinks-push : (G : Ground) (ps : List (ℕ × ℕ)) (a b : ℕ) → a < b → IsSome (G.price a b) → IsFalse (has_pair ps a b) → AreLinksIn G ps → AreLinksIn G (ps ++ (a, b) ∷ [])
AreLinks-push G ps a b low some new are = record {
  ordered = All-push (λ pair. pair.0 < pair.1) ps (a, b) are.ordered low;
  linked = All-push (λ pair. IsSome (G.price pair.0 pair.1)) ps (a, b) are.linked some;
  apart = AreApart-push ps (a, b) are.apart new;
}

-- a pair is kept under its lower end
between_by_ends : (p : ℕ × ℕ) (u v : ℕ) → is_between p u v ≡ (min u v == min p.0 p.1) && (max u v == max p.0 p.1)
between_by_ends p u v = grind (arith, nat_tests)

-- one pair more, unless it is kept
pub kept_more : (ps keys : List (ℕ × ℕ)) (i : ℕ) (d : ℕ × ℕ) (low high : ℕ) → i < length ps → low ≡ min (get_or ps i d).0 (get_or ps i d).1 → high ≡ max (get_or ps i d).0 (get_or ps i d).1
    → ((u v : ℕ) → is_kept keys u v ≡ has_pair (take i ps) u v) → (u v : ℕ) → is_kept (cond (list_any (λ key. (low == key.0) && (high == key.1)) keys) keys (keys ++ (low, high) ∷ [])) u v ≡ has_pair (take (i + 1) ps) u v
kept_more ps keys i d low high within low_is high_is before u v =
    rw (take_more ps i d within, has_pair-push (take i ps) (get_or ps i d) u v, ← before u v, between_by_ends (get_or ps i d) u v, ← low_is, ← high_is) (by_case (list_any (λ key. (low == key.0) && (high == key.1)) keys) refl)
  where
    same : (min u v == low) && (max u v == high) ≡ true → is_kept keys u v ≡ list_any (λ key. (low == key.0) && (high == key.1)) keys
    same e =
        let both : (min u v ≡ low) × (max u v ≡ high) = grind (arith, nat_tests, e) in
        rw (both.0, both.1) refl

    by_case : (b : Bool) → list_any (λ key. (low == key.0) && (high == key.1)) keys ≡ b → is_kept (cond b keys (keys ++ (low, high) ∷ [])) u v ≡ (is_kept keys u v || ((min u v == low) && (max u v == high)))
    by_case true there = held ((min u v == low) && (max u v == high)) refl
      where
        held : (c : Bool) → (min u v == low) && (max u v == high) ≡ c → is_kept keys u v ≡ (is_kept keys u v || c)
        held true e = rw (same e, there) refl
        held false e = sym (or-false (is_kept keys u v))
    by_case false new = rw (list_any-append (λ key. (min u v == key.0) && (max u v == key.1)) keys ((low, high) ∷ []), or-false ((min u v == low) && (max u v == high))) refl
