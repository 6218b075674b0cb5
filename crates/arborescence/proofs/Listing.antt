-- Lists of heads that gain the heads of arcs, and what a walk along them reaches.
use Rattle.std.proofs.Common.{◌≡◌, ℕ, zero, suc, ◌+◌, ◌<◌, ◌≤◌, Bool, ◌&&◌, ◌||◌, List, [], ◌∷◌, ◌++◌, length, get_or, set, take, replicate, Option, Some, None, inl, inr, refl, sym, ap, subst, ◌∙◌, arith, get_or-set_same, get_or-set_other}
use Rattle.std.specs.Prelude.{◌==◌, ◌≢◌, IfSome, IfNone, IsTrue, IsFalse, All}
use Rattle.std.specs.List.{AllByRecursion}
use Rattle.std.proofs.Math.Bool.{or-false, or_assoc}
use Rattle.std.proofs.lemmas.Bool.{and_from, and_parts, cases_eq, eq-eqb, eqb-true, ne_eqb, or_cases, false≢true}
use Rattle.std.proofs.lemmas.List.{take_more, length-set}
use Rattle.std.proofs.lemmas.List.Elements.{All-push, recursion_from_All}
use Rattle.std.proofs.lemmas.List.Folds.{list_any-append, list_any_at}
use Rattle.st_model.specs.declared.branch.Branch.{Branch}
use Rattle.st_model.specs.Branch.{is_present}
use Rattle.st_model.specs.Led.{heads_at, IsLed, start, along, AreLed}
use Rattle.st_model.specs.Lists.{has}
use Rattle.st_model.specs.Network.{IsVertex}
use Rattle.st_model.proofs.Marked.{has-push, place_of}
use Rattle.arborescence.specs.Closing.{IsClosed, Spans, Misses, AreHeadsOf, has_arc}

-- one arc more
has_arc-push : (arcs : List (ℕ × ℕ)) (arc : ℕ × ℕ) (u v : ℕ) → has_arc (arcs ++ arc ∷ []) u v ≡ (has_arc arcs u v || ((arc.0 == u) && (arc.1 == v)))
has_arc-push arcs arc u v = list_any-append (λ a. (a.0 == u) && (a.1 == v)) arcs (arc ∷ []) ∙ ap (λ b. has_arc arcs u v || b) (or-false ((arc.0 == u) && (arc.1 == v)))

-- heads with one arc more
pub listed_push : (now : List (List ℕ)) (arc : ℕ × ℕ) (u v : ℕ) (before : Bool) → arc.0 < length now → has (heads_at now u) v ≡ before
    → has (heads_at (set now arc.0 (heads_at now arc.0 ++ arc.1 ∷ [])) u) v ≡ (before || ((arc.0 == u) && (arc.1 == v)))
listed_push now arc u v before room is = elim (cases_eq u arc.0) [
  | inl same ↦ rw (same, get_or-set_same, has-push (heads_at now arc.0) arc.1 v, eq-eqb arc.0 arc.0 refl) (ap (λ b. b || (arc.1 == v)) (rw same at is))
  | inr other ↦
      let apart : u ≢ arc.0 = other in
      rw (get_or-set_other, ne_eqb arc.0 u (λ same. other (sym same)), or-false before) is
]

pub listed_more : (first now : List (List ℕ)) (arcs : List (ℕ × ℕ)) (i : ℕ) (u v : ℕ) → i < length arcs → (get_or arcs i (0, 0)).0 < length now → has (heads_at now u) v ≡ (has (heads_at first u) v || has_arc (take i arcs) u v)
    → has (heads_at (set now (get_or arcs i (0, 0)).0 (heads_at now (get_or arcs i (0, 0)).0 ++ (get_or arcs i (0, 0)).1 ∷ [])) u) v ≡ (has (heads_at first u) v || has_arc (take (i + 1) arcs) u v)
listed_more first now arcs i u v below room before =
    let arc : ℕ × ℕ = get_or arcs i (0, 0) in
    rw (take_more arcs i (0, 0) below, has_arc-push (take i arcs) arc u v) (listed_push now arc u v (has (heads_at first u) v || has_arc (take i arcs) u v) room before ∙ or_assoc (has (heads_at first u) v) (has_arc (take i arcs) u v) ((arc.0 == u) && (arc.1 == v)))

pub range_more : (n : ℕ) (now : List (List ℕ)) (tail head : ℕ) → tail < length now → head ≤ n → ((u : ℕ) → All (λ v. v < n + 1) (heads_at now u)) → (u : ℕ) → All (λ v. v < n + 1) (heads_at (set now tail (heads_at now tail ++ head ∷ [])) u)
range_more n now tail head room small before u = elim (cases_eq u tail) [
  | inl same ↦ rw (same, get_or-set_same) (All-push (λ v. v < n + 1) (heads_at now tail) head (before tail) (omega arith))
  | inr other ↦ let apart : u ≢ tail = other in rw get_or-set_other (before u)
]

-- the heads of arcs and one more
pub AreHeadsOf-push : (n : ℕ) (arcs : List (ℕ × ℕ)) (heads : List (List ℕ)) (u v : ℕ) → AreHeadsOf n arcs heads → u ≤ n → v ≤ n → AreHeadsOf n (arcs ++ (u, v) ∷ []) (set heads u (heads_at heads u ++ v ∷ []))
AreHeadsOf-push n arcs heads u v are low high =
    let room : u < length heads = let count = are.count in omega arith in
    let long : length (set heads u (heads_at heads u ++ v ∷ [])) ≡ n + 1 = length-set heads u (heads_at heads u ++ v ∷ []) ∙ are.count in
    record {
      count = long;
      in_range = λ w. rw long (range_more n heads u v room high (λ x. rw are.count at (are.in_range x)) w);
      listed = λ x y. rw (has_arc-push arcs (u, v) x y) (listed_push heads (u, v) x y (has_arc arcs x y) room (are.listed x y));
    }

-- empty lists
pub none_listed : (count u : ℕ) → heads_at (replicate count []) u ≡ []
none_listed zero zero = refl
none_listed zero (suc u) = refl
none_listed (suc count) zero = refl
none_listed (suc count) (suc u) = none_listed count u

-- pairs of the same numbers are the same
pub pair_same : (a b : ℕ × ℕ) → a.0 ≡ b.0 → a.1 ≡ b.1 → a ≡ b
pair_same a b first second = ap (λ (x : ℕ). (x, a.1)) first ∙ ap (λ (y : ℕ). (b.0, y)) second

-- what holds of each arc holds of one of them
pub at_arc : (P : ℕ × ℕ → Type 0) (arcs : List (ℕ × ℕ)) (u v : ℕ) → AllByRecursion P arcs → IsTrue (has_arc arcs u v) → P (u, v)
at_arc P [] u v all there = absurd (false≢true there)
at_arc P (arc ∷ arcs) u v all there = elim (or_cases ((arc.0 == u) && (arc.1 == v)) (has_arc arcs u v) there) [
  | inl now ↦
      let parts = and_parts (arc.0 == u) (arc.1 == v) now in
      subst P (pair_same arc (u, v) (eqb-true arc.0 u parts.0) (eqb-true arc.1 v parts.1)) all.0
  | inr later ↦ at_arc P arcs u v all.1 later
]

-- what a walk reaches is in each set that is closed and holds its start
led_within : (n : ℕ) (arcs : List (ℕ × ℕ)) (heads : List (List ℕ)) (S : ℕ → Bool) (r v : ℕ) → AreHeadsOf n arcs heads → IsClosed arcs S → IsTrue (S r) → IsLed heads r v → IsTrue (S v)
led_within n arcs heads S r v are closed at start = at
led_within n arcs heads S r v are closed at (along {u} before listed) = at_arc (λ arc. IsTrue (S arc.0) → IsTrue (S arc.1)) arcs u v (recursion_from_All _ arcs closed) (sym (are.listed u v) ∙ listed) (led_within n arcs heads S r u are closed at before)

pub members_within : (n : ℕ) (arcs : List (ℕ × ℕ)) (heads : List (List ℕ)) (members : List ℕ) (S : ℕ → Bool) (r v : ℕ) → AreHeadsOf n arcs heads → AreLed heads r members → IsClosed arcs S → IsTrue (S r) → IsTrue (has members v) → IsTrue (S v)
members_within n arcs heads members S r v are led closed at held =
    let p = place_of members v held in
    subst (λ w. IsTrue (S w)) p.2 (led_within n arcs heads S r (get_or members p.0 0) are closed at (led.sound p.0 0 p.1))

-- and is such a set itself
pub members_closed : (n : ℕ) (arcs : List (ℕ × ℕ)) (heads : List (List ℕ)) (members : List ℕ) (r : ℕ) → AreHeadsOf n arcs heads → AreLed heads r members → IsClosed arcs (has members)
members_closed n arcs heads members r are led = λ k d below. λ held. led.closed (get_or arcs k d).0 (get_or arcs k d).1 held (are.listed (get_or arcs k d).0 (get_or arcs k d).1 ∙ list_any_at (λ a. (a.0 == (get_or arcs k d).0) && (a.1 == (get_or arcs k d).1)) arcs k d below (and_from ((get_or arcs k d).0 == (get_or arcs k d).0) ((get_or arcs k d).1 == (get_or arcs k d).1) (eq-eqb (get_or arcs k d).0 (get_or arcs k d).0 refl) (eq-eqb (get_or arcs k d).1 (get_or arcs k d).1 refl)))

-- a walk that misses a present vertex, or none
pub walk_misses : (n : ℕ) (B : Branch) (r : ℕ) (arcs : List (ℕ × ℕ)) (heads : List (List ℕ)) (members : List ℕ) (v : ℕ) → AreHeadsOf n arcs heads → AreLed heads r members → IsVertex n v → IsTrue (is_present B v) → IsFalse (has members v) → Misses n B r arcs v
walk_misses n B r arcs heads members v are led vertex present away = record { vertex = vertex; present = present; set = has members; root = led.root; away = away; closed = members_closed n arcs heads members r are led }

pub walk_spans : (n : ℕ) (B : Branch) (r : ℕ) (arcs : List (ℕ × ℕ)) (heads : List (List ℕ)) (members : List ℕ) → AreHeadsOf n arcs heads → AreLed heads r members → ((v : ℕ) → IsVertex n v → IsTrue (is_present B v) → IsTrue (has members v)) → Spans n B r arcs
walk_spans n B r arcs heads members are led all = λ S at closed v vertex present. members_within n arcs heads members S r v are led closed at (all v vertex present)

pub some_weaker : (o : Option ℕ) (P Q : ℕ → Type 0) → ((v : ℕ) → P v → Q v) → IfSome o P → IfSome o Q
some_weaker None P Q f h = tt
some_weaker (Some v) P Q f h = f v h

pub none_weaker : (o : Option ℕ) (P Q : Type 0) → (P → Q) → IfNone o P → IfNone o Q
none_weaker None P Q f h = f h
none_weaker (Some v) P Q f h = tt
