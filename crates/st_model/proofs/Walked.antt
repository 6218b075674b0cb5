-- A walk from tails to the heads that are listed at them.
use Rattle.std.proofs.Common.{◌≡◌, ℕ, ◌+◌, ◌<◌, ◌≤◌, List, [], ◌∷◌, length, get_or, Some, None, ◌⊎◌, inl, inr, refl, subst, arith}
use Rattle.std.specs.Prelude.{◌==◌, IsTrue, All, slice_get}
use Rattle.std.proofs.lemmas.Bool.{cases_lt, eq-eqb, or_left}
use Rattle.std.proofs.lemmas.List.Elements.{All-nil, All-cons, All-append, All-weaker}
use Rattle.std.proofs.lemmas.List.Folds.{list_any-append}
use Rattle.std.proofs.lemmas.Option.{get_or_from_slice_get, slice_get_within, slice_get-get_or}
use Rattle.std.proofs.Math.ListN.{get_or-append}
use Rattle.st_model.specs.Lists.{has}
use Rattle.st_model.specs.Led.{heads_at, IsLed, start, along, AreLed}
use Rattle.st_model.specs.VertexSet.{Extends}
use Rattle.st_model.proofs.Marked.{place_of}

-- the first members have been asked for their heads
pub record IsWalked (heads : List (List ℕ)) (r next : ℕ) (members : List ℕ) : Type 0 where
  pub root : IsTrue (has members r)
  pub sound : All (IsLed heads r) members
  pub closed : (k : ℕ) → k < next → k < length members → (v : ℕ) → IsTrue (has (heads_at heads (get_or members k 0)) v) → IsTrue (has members v)

pub IsWalked-start : (heads : List (List ℕ)) (r : ℕ) → IsWalked heads r 0 (r ∷ [])
IsWalked-start heads r = record {
  root = or_left (r == r) _ (eq-eqb r r refl);
  sound = All-cons (IsLed heads r) r [] start (All-nil (IsLed heads r));
  closed = λ k before within v h. absurd (omega arith);
}

-- one member more has been asked
pub IsWalked-step : (heads : List (List ℕ)) (r next tail : ℕ) (members new : List ℕ) → slice_get members next ≡ Some tail → Extends members new (heads_at heads tail) → IsWalked heads r next members → IsWalked heads r (next + 1) new
IsWalked-step heads r next tail members new at_next e h = record {
  root = grown r h.root;
  sound = rw e.appended (All-append (IsLed heads r) members e.more h.sound (All-weaker _ (IsLed heads r) (λ v led. along tail_led led) e.more e.only));
  closed = λ k before within v listed. asked k v (cases_lt k next) before listed;
}
  where
    below : next < length members
    below = slice_get_within members next tail at_next

    tail_is : get_or members next 0 ≡ tail
    tail_is = get_or_from_slice_get members next tail 0 at_next

    tail_led : IsLed heads r tail
    tail_led = subst (IsLed heads r) tail_is (h.sound next 0 below)

    grown : (v : ℕ) → IsTrue (has members v) → IsTrue (has new v)
    grown v held = rw (e.appended, list_any-append (λ x. x == v) members e.more) (or_left _ _ held)

    front : (k : ℕ) → k < length members → get_or new k 0 ≡ get_or members k 0
    front k in_front = rw e.appended (get_or-append members e.more 0 k in_front)

    asked : (k v : ℕ) → (k < next) ⊎ (next ≤ k) → k < next + 1 → IsTrue (has (heads_at heads (get_or new k 0)) v) → IsTrue (has new v)
    asked k v (inl earlier) before listed =
        let in_front : k < length members = omega (arith, below) in
        grown v (h.closed k earlier in_front v (rw (front k in_front) at listed))
    asked k v (inr later) before listed =
        let same : k ≡ next = omega arith in
        e.covers v (rw (same, front next below, tail_is) at listed)

-- all members have been asked
pub AreLed-done : (heads : List (List ℕ)) (r next : ℕ) (members : List ℕ) → length members ≤ next → IsWalked heads r next members → AreLed heads r members
AreLed-done heads r next members all h = record { root = h.root; sound = h.sound; closed = λ u v held listed. asked u v (place_of members u held) listed }
  where
    asked : (u v : ℕ) → (k : ℕ) × (k < length members) × (get_or members k 0 ≡ u) → IsTrue (has (heads_at heads u) v) → IsTrue (has members v)
    asked u v p listed = h.closed p.0 (omega (arith, p.1)) p.1 v (rw p.2 listed)

-- nothing stands past the end
pub slice_get-None : (xs : List ℕ) (i : ℕ) → slice_get xs i ≡ None → length xs ≤ i
slice_get-None xs i none =
    elim (cases_lt i (length xs)) [
      | inl below ↦ cc (slice_get-get_or xs i 0 below, none)
      | inr past ↦ past
    ]
