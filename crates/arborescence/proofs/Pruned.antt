-- Chosen arcs that are looked at from the last to the first.
use Rattle.std.proofs.Common.{◌≡◌, ◌≢◌, ℕ, ◌+◌, ◌-◌, ◌<◌, ◌≤◌, Bool, true, false, Option, Some, None, is_some, List, [], ◌∷◌, ◌++◌, length, get_or, take, refl, subst, arith}
use Rattle.std.specs.Prelude.{IfSome, IfNone, IsTrue, IsFalse, All}
use Rattle.std.specs.List.{AllByRecursion}
use Rattle.std.proofs.lemmas.Bool.{both_ways, false_from_ne_true}
use Rattle.std.proofs.lemmas.List.{append-nil, take_all, take_more, get_or-take, length-take}
use Rattle.std.proofs.lemmas.List.Elements.{All-nil, All-push, All-append, All-weaker, recursion_from_All, All-from_recursion}
use Rattle.st_model.specs.declared.branch.Branch.{Branch}
use Rattle.arborescence.specs.Closing.{IsClosed, Spans, Misses, IsKept, ArePruned, AreWithin}

-- an arc that is kept, and was looked at
pub record IsLate (r : ℕ) (chosen : List (ℕ × ℕ)) (left : ℕ) (kept : List (ℕ × ℕ)) (arc : ℕ × ℕ) : Type 0 where
  pub is : IsKept r chosen kept arc
  pub late : left ≤ is.place

-- the arcs from a place on were looked at, and those that are kept span with those before it
pub record IsPruning (n : ℕ) (B : Branch) (r : ℕ) (chosen : List (ℕ × ℕ)) (left : ℕ) (kept : List (ℕ × ℕ)) : Type 0 where
  pub few : left ≤ length chosen
  pub within : AreWithin n kept
  pub spans : Spans n B r (take left chosen ++ kept)
  pub each : All (IsLate r chosen left kept) kept

-- what is closed under arcs and others is closed under either
parts : (S : ℕ → Bool) (xs ys : List (ℕ × ℕ)) → AllByRecursion (λ arc. IsTrue (S arc.0) → IsTrue (S arc.1)) (xs ++ ys) → AllByRecursion (λ arc. IsTrue (S arc.0) → IsTrue (S arc.1)) xs × AllByRecursion (λ arc. IsTrue (S arc.0) → IsTrue (S arc.1)) ys
parts S [] ys h = (tt, h)
parts S (x ∷ xs) ys h = let rest = parts S xs ys h.1 in ((h.0, rest.0), rest.1)

pub closed_parts : (S : ℕ → Bool) (xs ys : List (ℕ × ℕ)) → IsClosed (xs ++ ys) S → IsClosed xs S × IsClosed ys S
closed_parts S xs ys h =
    let both = parts S xs ys (recursion_from_All _ (xs ++ ys) h) in
    (All-from_recursion _ xs both.0, All-from_recursion _ ys both.1)

pub pruning_start : (n : ℕ) (B : Branch) (r : ℕ) (chosen : List (ℕ × ℕ)) → Spans n B r chosen → IsPruning n B r chosen (length chosen) []
pruning_start n B r chosen spans = record {
  few = omega arith;
  within = All-nil (λ arc. (arc.0 ≤ n) × (arc.1 ≤ n));
  spans = rw (append-nil (take (length chosen) chosen), take_all (length chosen) chosen (omega arith)) spans;
  each = All-nil (IsLate r chosen (length chosen) []);
}

module _ (n : ℕ) (B : Branch) (r : ℕ) (chosen : List (ℕ × ℕ)) (m : ℕ) (kept : List (ℕ × ℕ)) (before : IsPruning n B r chosen (m + 1) kept) where
  abbrev e : ℕ × ℕ
  e = get_or chosen m (0, 0)

  below : m < length chosen
  below = let few = before.few in omega arith

  -- the arcs before the one in hand, and that one
  front : take (m + 1) chosen ≡ take m chosen ++ e ∷ []
  front = take_more chosen m (0, 0) below

  -- what is closed under the others and has the head of that one is closed under all
  all_closed : (S : ℕ → Bool) → IsClosed (take m chosen) S → IsClosed kept S → (IsTrue (S e.0) → IsTrue (S e.1)) → IsClosed (take (m + 1) chosen ++ kept) S
  all_closed S first others here = rw front (All-append (λ arc. IsTrue (S arc.0) → IsTrue (S arc.1)) (take m chosen ++ e ∷ []) kept (All-push (λ arc. IsTrue (S arc.0) → IsTrue (S arc.1)) (take m chosen) e first here) others)

  -- it isn't missed
  pub pruning_dropped : Spans n B r (take m chosen ++ kept) → IsPruning n B r chosen m kept
  pruning_dropped spans = record {
    few = let few = before.few in omega arith;
    within = before.within;
    spans = spans;
    each = All-weaker (IsLate r chosen (m + 1) kept) (IsLate r chosen m kept) (λ arc h. let late = h.late in record { is = h.is; late = omega arith }) kept before.each;
  }

  -- it is
  pub pruning_kept : (v : ℕ) → (e.0 ≤ n) × (e.1 ≤ n) → Misses n B r (take m chosen ++ kept) v → IsPruning n B r chosen m (kept ++ e ∷ [])
  pruning_kept v ends missed = record {
    few = let few = before.few in omega arith;
    within = All-push (λ arc. (arc.0 ≤ n) × (arc.1 ≤ n)) kept e before.within ends;
    spans = spans;
    each = All-push (IsLate r chosen m (kept ++ e ∷ [])) kept e (All-weaker (IsLate r chosen (m + 1) kept) (IsLate r chosen m (kept ++ e ∷ [])) (λ arc h. still arc h) kept before.each) new;
  }
    where
      spans : Spans n B r (take m chosen ++ (kept ++ e ∷ []))
      spans S at closed w vertex present =
          let outer = closed_parts S (take m chosen) (kept ++ e ∷ []) closed in
          let inner = closed_parts S kept (e ∷ []) outer.1 in
          before.spans S at (all_closed S outer.0 inner.0 (inner.1 0 (0, 0) (omega arith))) w vertex present

      still : (arc : ℕ × ℕ) → IsLate r chosen (m + 1) kept arc → IsLate r chosen m (kept ++ e ∷ []) arc
      still arc h =
          let need = h.is.needed in
          let late = h.late in
          let small : m < h.is.place = omega arith in
          let long = length-take h.is.place chosen in
          let inside = h.is.below in
          let here : IsTrue (need.set e.0) → IsTrue (need.set e.1) = subst (λ (a : ℕ × ℕ). IsTrue (need.set a.0) → IsTrue (need.set a.1)) (get_or-take h.is.place chosen m (0, 0) small) (need.before m (0, 0) (omega arith)) in
          record {
            is = record {
              place = h.is.place;
              below = h.is.below;
              is = h.is.is;
              needed = record { set = need.set; root = need.root; misses = need.misses; before = need.before; kept = All-push (λ other. other ≢ arc → IsTrue (need.set other.0) → IsTrue (need.set other.1)) kept e need.kept (λ apart. here) };
            };
            late = omega arith;
          }

      closed : IsClosed (take m chosen) missed.set × IsClosed kept missed.set
      closed = closed_parts missed.set (take m chosen) kept missed.closed

      misses : IsFalse (missed.set e.1)
      misses = false_from_ne_true (missed.set e.1) (λ there. both_ways (missed.set v) missed.away (before.spans missed.set missed.root (all_closed missed.set closed.0 closed.1 (λ tail. there)) v missed.vertex missed.present))

      new : IsLate r chosen m (kept ++ e ∷ []) e
      new = record {
        is = record {
          place = m;
          below = below;
          is = refl;
          needed = record {
            set = missed.set;
            root = missed.root;
            misses = misses;
            before = closed.0;
            kept = All-push (λ other. other ≢ e → IsTrue (missed.set other.0) → IsTrue (missed.set other.1)) kept e (All-weaker (λ other. IsTrue (missed.set other.0) → IsTrue (missed.set other.1)) (λ other. other ≢ e → IsTrue (missed.set other.0) → IsTrue (missed.set other.1)) (λ other h apart. h) kept closed.1) (λ apart. absurd (apart refl));
          };
        };
        late = omega arith;
      }

-- the next arc is looked at
pub pruning_some : (n : ℕ) (B : Branch) (r : ℕ) (chosen : List (ℕ × ℕ)) (left : ℕ) (kept new : List (ℕ × ℕ)) (o : Option ℕ) → 0 < left → IsPruning n B r chosen left kept → AreWithin n chosen → true ≡ is_some o → IfSome o (Misses n B r (take (left - 1) chosen ++ kept)) → new ≡ kept ++ get_or chosen (left - 1) (0, 0) ∷ [] → IsPruning n B r chosen (left - 1) new
pruning_some n B r chosen left kept new None some is within found missed pushed = absurd (let clash : ⊥ = cc in clash)
pruning_some n B r chosen left kept new (Some v) some is within found missed pushed =
    let step : left ≡ (left - 1) + 1 = omega arith in
    let before : IsPruning n B r chosen ((left - 1) + 1) kept = subst (λ k. IsPruning n B r chosen k kept) step is in
    let few = before.few in
    rw pushed (pruning_kept n B r chosen (left - 1) kept before v (within (left - 1) (0, 0) (omega arith)) missed)

pub pruning_none : (n : ℕ) (B : Branch) (r : ℕ) (chosen : List (ℕ × ℕ)) (left : ℕ) (kept : List (ℕ × ℕ)) (o : Option ℕ) → 0 < left → IsPruning n B r chosen left kept → false ≡ is_some o → IfNone o (Spans n B r (take (left - 1) chosen ++ kept)) → IsPruning n B r chosen (left - 1) kept
pruning_none n B r chosen left kept None some is found spans =
    let step : left ≡ (left - 1) + 1 = omega arith in
    pruning_dropped n B r chosen (left - 1) kept (subst (λ k. IsPruning n B r chosen k kept) step is) spans
pruning_none n B r chosen left kept (Some v) some is found spans = absurd (let clash : ⊥ = cc in clash)

-- all were looked at
pub pruning_done : (n : ℕ) (B : Branch) (r : ℕ) (chosen kept : List (ℕ × ℕ)) (left : ℕ) → left ≤ 0 → IsPruning n B r chosen left kept → ArePruned n B r chosen kept
pruning_done n B r chosen kept left none is =
    let zero_left : left ≡ 0 = omega arith in
    record {
      spans = subst (λ k. Spans n B r (take k chosen ++ kept)) zero_left is.spans;
      each = All-weaker (IsLate r chosen left kept) (IsKept r chosen kept) (λ arc h. h.is) kept is.each;
    }
