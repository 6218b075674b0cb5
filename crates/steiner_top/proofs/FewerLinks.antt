-- Steps make no more pairs of vertices linked than there were, so a search of what they leave may split at no more links.
use Rattle.std.proofs.Common.{◌≡◌, ◌≢◌, ℕ, ◌+◌, ◌≤◌, min, max, Bool, true, false, cond, ◌&&◌, ◌||◌, eqb, List, [], ◌∷◌, Option, Some, None, refl, ap, subst, ◌∙◌, inl, inr, arith}
use Rattle.std.specs.Prelude.{◌==◌, nat_lt, is_some, IsSome}
use Rattle.std.proofs.lemmas.Bool.Decides.{nat_tests}
use Rattle.st_model.specs.Linked.{linked_pairs, open_pairs}
use Rattle.st_model.specs.Lists.{sum_to}
use Rattle.st_model.specs.Made.{is_between}
use Rattle.st_model.specs.Network.{Network, IsInstance, IsVertex, link}
use Rattle.st_model.proofs.Distinct.{between-ends, link-comm}
use Rattle.st_model.proofs.Sums.{sum_to_at_most, sum_to_le, sum_to_none, sum_to_one, sum_to_same, sum_to-add}
use Rattle.st_model.proofs.ThinGrowth.{linked-vertices}
use Rattle.lift_back.specs.declared.step.Step.{Step}
use Rattle.lift_back.specs.declared.step.Step.TheVariants.{Pendant, Through, Forced, Detour}
use Rattle.lift_back.specs.State.{State, IsState, whole}
use Rattle.lift_back.specs.Steps.{Applies, Takes, TakesThrough, least}
use Rattle.lift_back.proofs.Beginning.{whole_state}
use Rattle.lift_back.proofs.PendantTrees.{linked_apart}
use Rattle.log_format.specs.Accepts.{left_over}

-- ---- sums over pairs of vertices

abbrev over_pairs : (ℕ → ℕ → ℕ) → ℕ → ℕ
over_pairs f n = sum_to (λ u. sum_to (f u) n) n

over_pairs_le : (f g : ℕ → ℕ → ℕ) (n : ℕ) → ((u w : ℕ) → f u w ≤ g u w) → over_pairs f n ≤ over_pairs g n
over_pairs_le f g n less = sum_to_le (λ u. sum_to (f u) n) (λ u. sum_to (g u) n) n (λ u low high. sum_to_le (f u) (g u) n (λ w low high. less u w))

over_pairs-add : (f g : ℕ → ℕ → ℕ) (n : ℕ) → over_pairs (λ u w. f u w + g u w) n ≡ over_pairs f n + over_pairs g n
over_pairs-add f g n =
    sum_to_same (λ u. sum_to (λ w. f u w + g u w) n) (λ u. sum_to (f u) n + sum_to (g u) n) n (λ u low high. sum_to-add (f u) (g u) n)
    ∙ sum_to-add (λ u. sum_to (f u) n) (λ u. sum_to (g u) n) n

-- 1 at one pair alone
abbrev spot : ℕ → ℕ → ℕ → ℕ → ℕ
spot a b u w = cond (eqb a u) (cond (eqb b w) 1 0) 0

spot_one : (a b n : ℕ) → IsVertex n a → IsVertex n b → over_pairs (spot a b) n ≡ 1
spot_one a b n first second = sum_to_same (λ u. sum_to (spot a b u) n) (λ u. cond (eqb a u) 1 0) n (λ u low high. at (eqb a u)) ∙ sum_to_one a 1 n first.0 first.1
  where
    at : (c : Bool) → sum_to (λ w. cond c (cond (eqb b w) 1 0) 0) n ≡ cond c 1 0
    at true = sum_to_one b 1 n second.0 second.1
    at false = sum_to_none n

spot_at_most : (a b n : ℕ) → over_pairs (spot a b) n ≤ 1
spot_at_most a b n =
    let below = sum_to_le (λ u. sum_to (spot a b u) n) (λ u. cond (eqb a u) 1 0) n (λ u low high. at (eqb a u)) in
    omega (arith, below, sum_to_at_most a 1 n)
  where
    at : (c : Bool) → sum_to (λ w. cond c (cond (eqb b w) 1 0) 0) n ≤ cond c 1 0
    at true = sum_to_at_most b 1 n
    at false = omega (arith, sum_to_none n)

-- ---- pairs that are linked

-- 1 for a pair that is linked, its lower end first
abbrev linked_at : Network → ℕ → ℕ → ℕ
linked_at I u w = cond (nat_lt u w && is_some (link I.links u w)) 1 0

fewer : (lower gone : Bool) (price : Option ℕ) → cond (lower && is_some (cond gone None price)) 1 0 ≤ cond (lower && is_some price) 1 0
fewer true true None = omega arith
fewer true true (Some x) = omega arith
fewer true false price = omega arith
fewer false gone price = omega arith

-- no more pairs are linked where links only go
links_go : (before after : Network) (gone : ℕ → ℕ → Bool) → after.n ≡ before.n → ((u w : ℕ) → link after.links u w ≡ cond (gone u w) None (link before.links u w)) → linked_pairs after ≤ linked_pairs before
links_go before after gone count is =
    let less = over_pairs_le (linked_at after) (linked_at before) before.n (λ u w. rw (is u w) (fewer (nat_lt u w) (gone u w) (link before.links u w))) in
    let same : linked_pairs after ≡ over_pairs (linked_at after) before.n = ap (over_pairs (linked_at after)) count in
    omega (arith, less, same)

-- ---- a vertex with two links goes, and its neighbours are linked

-- of a pair, the lower end first, in one place
spot_here : (a b u w : ℕ) → a ≢ b → nat_lt u w ≡ true → spot (min a b) (max a b) u w ≡ cond (is_between (a, b) u w) 1 0
spot_here a b u w apart lower = grind (arith, nat_tests)

spot_elsewhere : (a b u w : ℕ) → a ≢ b → nat_lt u w ≡ false → spot (min a b) (max a b) u w ≡ 0
spot_elsewhere a b u w apart lower = grind (arith, nat_tests)

low_vertex : (n a b : ℕ) → IsVertex n a → IsVertex n b → IsVertex n (min a b)
low_vertex n a b (low, high) (low', high') = (grind (arith, nat_tests), grind (arith, nat_tests))

high_vertex : (n a b : ℕ) → IsVertex n a → IsVertex n b → IsVertex n (max a b)
high_vertex n a b (low, high) (low', high') = (grind (arith, nat_tests), grind (arith, nat_tests))

module _ (before after : State) (v a b x y : ℕ) (is : IsState before) (takes : TakesThrough before after v a b x y) where
  first_linked : IsSome (link before.instance.links v a)
  first_linked = rw takes.allowed.first refl

  first_apart : v ≢ a
  first_apart = linked_apart before.instance v a is.instance first_linked

  second_apart : v ≢ b
  second_apart = linked_apart before.instance v b is.instance (rw takes.allowed.second refl)

  -- the pair that is linked now takes the place of one whose link went
  takes_place : (u w : ℕ) → linked_at after.instance u w + spot (min v a) (max v a) u w ≤ linked_at before.instance u w + spot (min a b) (max a b) u w
  takes_place u w = at (nat_lt u w) refl
    where
      went : is_between (v, a) u w ≡ true → ((u == v) || (w == v)) ≡ true
      went old = grind (arith, nat_tests)

      was : is_between (v, a) u w ≡ true → is_some (link before.instance.links u w) ≡ true
      was old = elim (between-ends (v, a) u w old) [
        | inl (p, q) ↦ rw (← p, ← q) first_linked
        | inr (p, q) ↦ rw (← p, ← q, link-comm before.instance.links a v) first_linked
      ]

      never : is_between (a, b) u w ≡ true → is_between (v, a) u w ≡ true → ⊥
      never new old = let one = first_apart in let other = second_apart in let two = takes.allowed.different in grind (arith, nat_tests)

      by_case : (new old : Bool) → is_between (a, b) u w ≡ new → is_between (v, a) u w ≡ old
          → cond (is_some (cond new (Some (least before a b (x + y))) (cond ((u == v) || (w == v)) None (link before.instance.links u w)))) 1 0 + cond old 1 0 ≤ cond (is_some (link before.instance.links u w)) 1 0 + cond new 1 0
      by_case true true new old = absurd (never new old)
      by_case true false new old = omega arith
      by_case false true new old = rw (went old, was old) (omega arith)
      by_case false false new old = let less = fewer true ((u == v) || (w == v)) (link before.instance.links u w) in omega (arith, less)

      at : (lower : Bool) → nat_lt u w ≡ lower
          → cond (lower && is_some (link after.instance.links u w)) 1 0 + spot (min v a) (max v a) u w ≤ cond (lower && is_some (link before.instance.links u w)) 1 0 + spot (min a b) (max a b) u w
      at false upper = rw (spot_elsewhere v a u w first_apart upper) (omega arith)
      at true lower = rw (spot_here v a u w first_apart lower, spot_here a b u w takes.allowed.different lower, takes.becomes.linked u w) (by_case (is_between (a, b) u w) (is_between (v, a) u w) refl refl)

  pub through_links_no_more : linked_pairs after.instance ≤ linked_pairs before.instance
  through_links_no_more =
      let n = before.instance.n in
      let ends = linked-vertices before.instance v a is.instance first_linked in
      let less = over_pairs_le (λ u w. linked_at after.instance u w + spot (min v a) (max v a) u w) (λ u w. linked_at before.instance u w + spot (min a b) (max a b) u w) n takes_place in
      let left = over_pairs-add (linked_at after.instance) (spot (min v a) (max v a)) n in
      let right = over_pairs-add (linked_at before.instance) (spot (min a b) (max a b)) n in
      let one = spot_one (min v a) (max v a) n (low_vertex n v a ends.0 ends.1) (high_vertex n v a ends.0 ends.1) in
      let most = spot_at_most (min a b) (max a b) n in
      let same : linked_pairs after.instance ≡ over_pairs (linked_at after.instance) n = ap (over_pairs (linked_at after.instance)) takes.becomes.count in
      omega (arith, less, left, right, one, most, same)

-- ---- steps

-- a step makes no more pairs linked
step_links_no_more : (step : Step) (before after : State) → IsState before → Takes step before after → linked_pairs after.instance ≤ linked_pairs before.instance
step_links_no_more (Pendant v) before after is takes = links_go before.instance after.instance (λ u w. (u == v) || (w == v)) takes.becomes.count takes.becomes.linked
step_links_no_more (Through v) before after is (a, b, x, y, takes) = through_links_no_more before after v a b x y is takes
step_links_no_more (Forced v) before after is (u, c, takes) = links_go before.instance after.instance (λ u w. (u == v) || (w == v)) takes.becomes.count takes.becomes.linked
step_links_no_more (Detour a b inner) before after is takes = links_go before.instance after.instance (is_between (a, b)) takes.becomes.count takes.becomes.linked

-- nor do steps one after another
pub steps_link_no_more : (steps : List Step) (first last : State) → IsState first → Applies steps first last → linked_pairs last.instance ≤ linked_pairs first.instance
steps_link_no_more [] first last is same = subst (λ (s : State). linked_pairs s.instance ≤ linked_pairs first.instance) same (omega arith)
steps_link_no_more (step ∷ steps) first last is (next, next_is, here, later) = omega (arith, step_links_no_more step first next is here, steps_link_no_more steps next last next_is later)

-- so a search of what they leave may split at no more links than there were
pub few_links_to_split : (I : Network) (steps : List Step) (left : State) → IsInstance I → Applies steps (whole I) left → open_pairs left.instance (left_over left) ≤ linked_pairs I
few_links_to_split I steps left instance applies =
    let open_are = over_pairs_le (λ u w. cond ((nat_lt u w && is_some (link left.instance.links u w)) && true) 1 0) (linked_at left.instance) left.instance.n (λ u w. at (nat_lt u w && is_some (link left.instance.links u w))) in
    omega (arith, open_are, steps_link_no_more steps (whole I) left (whole_state I instance) applies)
  where
    at : (linked : Bool) → cond (linked && true) 1 0 ≤ cond linked 1 0
    at true = omega arith
    at false = omega arith
