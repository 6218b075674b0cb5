-- Trees of given pairs, and what makes a tree of one state as good in another.
use Rattle.std.proofs.Common.{◌≡◌, ℕ, ◌+◌, ◌≤◌, Bool, true, false, cond, List, [], ◌∷◌, ◌++◌, inl, inr, ◌⊎◌, refl, sym, ap, ◌∙◌, subst, arith}
use Rattle.std.specs.Prelude.{IsTrue, IsFalse, IsSome, filter}
use Rattle.std.specs.List.{AllByRecursion}
use Rattle.std.proofs.lemmas.List.Elements.{All-from_recursion}
use Rattle.st_model.specs.declared.tree.Tree.{Tree}
use Rattle.st_model.specs.Lists.{has, total, sum_to}
use Rattle.st_model.specs.Network.{Network, IsVertex, link, is_required, pays}
use Rattle.st_model.specs.Arborescence.{reached_from, reached, Grows, IsArborescence, arc_cost, missed}
use Rattle.st_model.proofs.Distinct.{has-cons_head, has-cons_tail, total-arc_cost_made}
use Rattle.st_model.proofs.Members.{has-one}
use Rattle.st_model.proofs.Sums.{sum_to_le}
use Rattle.st_model.proofs.ThinGrowth.{has-reached_from}
use Rattle.lift_back.specs.State.{State, worth}
use Rattle.lift_back.specs.Laws.{HasTreeWithin}
use Rattle.lift_back.proofs.Along.{Agrees, along, made_agree, spanned}

-- a tree that was grown of the pairs from a start until no pair leads out
pub record IsGrownOf (I : Network) (pairs : List (ℕ × ℕ)) (start : ℕ) (t : Tree) : Type 0 where
  pub arborescence : IsArborescence I t
  pub cost : total (arc_cost I) t.arcs ≤ total (arc_cost I) pairs
  pub settled : Agrees (has (reached t)) pairs
  pub first : IsTrue (has (reached t) start)
  -- it stays on one side wherever the pairs do
  pub within : (S : ℕ → Bool) → IsTrue (S start) → Agrees S pairs → (v : ℕ) → IsTrue (has (reached t) v) → IsTrue (S v)

pub grown_of : (I : Network) (pairs : List (ℕ × ℕ)) (start : ℕ) → IsVertex I.n start → AllByRecursion (λ pair. IsSome (link I.links pair.0 pair.1)) pairs → (t : Tree) × IsGrownOf I pairs start t
grown_of I pairs start vertex linked =
    let span = spanned I pairs (start ∷ []) linked in (
      record { start = start; arcs = span.0 },
      record {
        arborescence = record { start = vertex; grows = span.1.grows };
        cost = total-arc_cost_made I pairs (start ∷ []) span.0 span.1.grows (All-from_recursion _ span.0 span.1.made);
        settled = span.1.settled;
        first = has-reached_from (start ∷ []) span.0 start (has-cons_head [] start start refl);
        within = λ S here agrees v there. along I S true (start ∷ []) span.0 span.1.grows (made_agree S pairs span.0 agrees span.1.made) (λ w one. subst (λ (x : ℕ). S x ≡ true) (has-one start w one) here) v there;
      },
    )

-- what holds at one vertex of a tree holds at all, where it agrees along the arcs
pub all_along : (I : Network) (S : ℕ → Bool) (t : Tree) (x w : ℕ) → IsArborescence I t → Agrees S t.arcs → IsTrue (has (reached t) x) → IsTrue (S x) → IsTrue (has (reached t) w) → IsTrue (S w)
all_along I S t x w tree agrees x_there here w_there =
    let to_start = along I S (S t.start) (t.start ∷ []) t.arcs tree.grows agrees (λ v one. ap S (sym (has-one t.start v one))) in
    to_start w w_there ∙ (sym (to_start x x_there) ∙ here)

-- each arc is a link between vertices that are reached
pub record IsArc (I : Network) (r : List ℕ) (arc : ℕ × ℕ) : Type 0 where
  pub linked : IsSome (link I.links arc.0 arc.1)
  pub tail : IsTrue (has r arc.0)
  pub head : IsTrue (has r arc.1)

pub arcs_are : (I : Network) (r : List ℕ) (arcs : List (ℕ × ℕ)) → Grows I r arcs → AllByRecursion (IsArc I (reached_from r arcs)) arcs
arcs_are I r [] g = tt
arcs_are I r (arc ∷ arcs) g = (
  record {
    linked = g.0;
    tail = has-reached_from (arc.1 ∷ r) arcs arc.0 (has-cons_tail r arc.1 arc.0 g.1);
    head = has-reached_from (arc.1 ∷ r) arcs arc.1 (has-cons_head r arc.1 arc.1 refl);
  },
  arcs_are I (arc.1 ∷ r) arcs g.3,
)

-- what follows from a fact of each element
pub all_then : {X : Type 0} (P Q : X → Type 0) (xs : List X) → ((x : X) → P x → Q x) → AllByRecursion P xs → AllByRecursion Q xs
all_then P Q [] step all = tt
all_then P Q (x ∷ xs) step all = (step x all.0, all_then P Q xs step all.1)

-- of those that a test keeps, the test holds besides
pub all_kept : {X : Type 0} (P : X → Type 0) (p : X → Bool) (xs : List X) → AllByRecursion P xs → AllByRecursion (λ x. P x × IsTrue (p x)) (filter p xs)
all_kept P p [] all = tt
all_kept P p (x ∷ xs) all = by_test (p x) refl (all_kept P p xs all.1)
  where
    by_test : (b : Bool) → p x ≡ b → AllByRecursion (λ y. P y × IsTrue (p y)) (filter p xs) → AllByRecursion (λ y. P y × IsTrue (p y)) (cond b (x ∷ filter p xs) (filter p xs))
    by_test true is rest = ((all.0, is), rest)
    by_test false is rest = rest

pub all_append : {X : Type 0} (P : X → Type 0) (xs ys : List X) → AllByRecursion P xs → AllByRecursion P ys → AllByRecursion P (xs ++ ys)
all_append P [] ys first rest = rest
all_append P (x ∷ xs) ys first rest = (first.0, all_append P xs ys first.1 rest)

pub all_parts : {X : Type 0} (P : X → Type 0) (xs ys : List X) → AllByRecursion P (xs ++ ys) → AllByRecursion P xs × AllByRecursion P ys
all_parts P [] ys all = (tt, all)
all_parts P (x ∷ xs) ys all = let rest = all_parts P xs ys all.1 in ((all.0, rest.0), rest.1)

-- sums of what is nowhere more
pub total_within : {X : Type 0} (f g : X → ℕ) (xs : List X) → AllByRecursion (λ x. f x ≤ g x) xs → total f xs ≤ total g xs
total_within f g [] all = omega arith
total_within f g (x ∷ xs) all = let rest = total_within f g xs all.1 in let here = all.0 in omega arith

-- arcs whose links are there as well grow there as well
pub grows_there : (I J : Network) (r : List ℕ) (arcs : List (ℕ × ℕ)) → Grows I r arcs → AllByRecursion (λ arc. IsSome (link J.links arc.0 arc.1)) arcs → Grows J r arcs
grows_there I J r [] g there = tt
grows_there I J r (arc ∷ arcs) g there = (there.0, g.1, g.2, grows_there I J (arc.1 ∷ r) arcs g.3 there.1)

-- a vertex pays no more than before, and is still reached where it was, unless it pays nothing
pub record MissesNoMore (I J : Network) (old new : List ℕ) (w : ℕ) : Type 0 where
  pub prize : pays J w ≤ pays I w
  pub still : IsTrue (has old w) → (IsTrue (has new w)) ⊎ (pays J w ≡ 0)

missed_no_more : (I J : Network) (old new : List ℕ) (w : ℕ) → MissesNoMore I J old new w → missed J new w ≤ missed I old w
missed_no_more I J old new w fact = by_test (has old w) (has new w) refl refl
  where
    by_test : (p q : Bool) → has old w ≡ p → has new w ≡ q → cond q 0 (pays J w) ≤ cond p 0 (pays I w)
    by_test p true p_is q_is = omega arith
    by_test false false p_is q_is = fact.prize
    by_test true false p_is q_is = elim (fact.still p_is) [
      | inl there ↦ absurd (clash (sym q_is ∙ there))
      | inr none ↦ omega (arith, none)
    ]
      where
        clash : false ≡ true → ⊥
        clash h = cc

-- a tree of the state after that is worth no more than one of the state before
pub record IsNoWorse (before after : State) (old new : Tree) : Type 0 where
  pub count : after.instance.n ≡ before.instance.n
  pub arborescence : IsArborescence after.instance new
  pub required : (w : ℕ) → IsVertex before.instance.n w → IsTrue (is_required after.instance w) → IsTrue (has (reached new) w)
  pub avoids : (w : ℕ) → IsTrue (has after.gone w) → IsFalse (has (reached new) w)
  pub arcs : total (arc_cost after.instance) new.arcs + after.offset ≤ total (arc_cost before.instance) old.arcs + before.offset
  pub missed : (w : ℕ) → IsVertex before.instance.n w → MissesNoMore before.instance after.instance (reached old) (reached new) w

pub no_worse : (before after : State) (old new : Tree) → IsNoWorse before after old new → HasTreeWithin after (worth before old)
no_worse before after old new fact =
    let I = before.instance in
    let J = after.instance in
    let missing : sum_to (missed J (reached new)) J.n ≤ sum_to (missed I (reached old)) I.n = subst (λ (n : ℕ). sum_to (missed J (reached new)) n ≤ sum_to (missed I (reached old)) I.n) (sym fact.count) (sum_to_le (missed J (reached new)) (missed I (reached old)) I.n (λ w low high. missed_no_more I J (reached old) (reached new) w (fact.missed w (low, high)))) in
    let arcs = fact.arcs in
    (new, record { tree = record { arborescence = fact.arborescence; required = λ w vertex needed. fact.required w (subst (λ (n : ℕ). IsVertex n w) fact.count vertex) needed }; avoids = fact.avoids }, omega arith)
