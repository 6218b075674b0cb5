-- Each step leaves less than there was.
use Rattle.std.proofs.Common.{◌≡◌, ℕ, zero, suc, ◌+◌, ◌*◌, ◌<◌, ◌≤◌, Bool, true, false, cond, ◌||◌, eqb, Option, Some, None, IsSome, is_some, refl, sym, ap, subst, ◌∙◌, arith}
use Rattle.std.specs.Prelude.{IsFalse}
use Rattle.std.proofs.Math.Nat.{mul-le-mul_left}
use Rattle.std.proofs.lemmas.Bool.Decides.{nat_tests}
use Rattle.st_model.specs.Lists.{has, sum_to}
use Rattle.st_model.specs.Made.{is_between}
use Rattle.st_model.specs.Network.{Network, IsVertex, link}
use Rattle.st_model.proofs.Sums.{sum_to_same, sum_to_le, sum_to-add, sum_to_one}
use Rattle.lift_back.specs.State.{State}
use Rattle.lift_back.specs.Steps.{gone_with, links_but}
use Rattle.reductions.specs.Sizes.{left, degree, degrees, size}

-- where one of the terms is less and none is more, so is the sum
sum_to_less : (f g : ℕ → ℕ) (v n : ℕ) → IsVertex n v → ((w : ℕ) → f w + cond (eqb v w) 1 0 ≤ g w) → sum_to f n + 1 ≤ sum_to g n
sum_to_less f g v n vertex less =
    let all = sum_to_le (λ w. f w + cond (eqb v w) 1 0) g n (λ w low high. less w) in
    let parts = sum_to-add f (λ w. cond (eqb v w) 1 0) n in
    let one = sum_to_one v 1 n vertex.0 vertex.1 in
    omega arith

sum_to_same_term : (c n : ℕ) → sum_to (λ _. c) n ≡ n * c
sum_to_same_term c zero = omega arith
sum_to_same_term c (suc n) = let before = sum_to_same_term c n in omega arith

-- a vertex less
left_less : (before after : State) (v : ℕ) → after.instance.n ≡ before.instance.n → ((w : ℕ) → has after.gone w ≡ gone_with before v w) → IsVertex before.instance.n v → IsFalse (has before.gone v) → left after + 1 ≤ left before
left_less before after v count gone vertex present =
    let less = sum_to_less (λ w. cond (has after.gone w) 0 1) (λ w. cond (has before.gone w) 0 1) v before.instance.n vertex (λ w. by_vertex w (eqb v w) refl) in
    subst (λ (n : ℕ). sum_to (λ w. cond (has after.gone w) 0 1) n + 1 ≤ left before) (sym count) less
  where
    term : (gone : Bool) → cond gone 0 1 ≤ 1
    term true = omega arith
    term false = omega arith

    by_vertex : (w : ℕ) (b : Bool) → eqb v w ≡ b → cond (has after.gone w) 0 1 + cond b 1 0 ≤ cond (has before.gone w) 0 1
    by_vertex w true is =
        let same : v ≡ w = grind (arith, nat_tests) in
        let count : Bool → ℕ = λ g. cond g 0 1 in
        let stood : has before.gone w ≡ false = ap (has before.gone) (sym same) ∙ present in
        let there : count (has before.gone w) ≡ count false = ap count stood in
        let went : has after.gone w ≡ true = gone w ∙ ap (λ p. p || has before.gone w) is in
        let away : count (has after.gone w) ≡ count true = ap count went in
        omega (arith, there, away)
    by_vertex w false is =
        let stays : has after.gone w ≡ has before.gone w = gone w ∙ ap (λ p. p || has before.gone w) is in
        let there : Bool → ℕ = λ g. cond g 0 1 in
        let kept : there (has after.gone w) ≡ there (has before.gone w) = ap there stays in
        omega (arith, kept)

-- the degrees are no more than each vertex with each
degrees_within : (I : Network) → degrees I ≤ I.n * I.n
degrees_within I =
    let each : (u : ℕ) → degree I u ≤ I.n = λ u.
    (let all = sum_to_le (λ w. cond (is_some (link I.links u w)) 1 0) (λ _. 1) I.n (λ w low high. at_most_one (is_some (link I.links u w))) in
    let ones = sum_to_same_term 1 I.n in
    omega arith) in
    let all = sum_to_le (degree I) (λ _. I.n) I.n (λ u low high. each u) in
    let many = sum_to_same_term I.n I.n in
    omega arith
  where
    at_most_one : (b : Bool) → cond b 1 0 ≤ 1
    at_most_one true = omega arith
    at_most_one false = omega arith

pub vertex_less : (before after : State) (v : ℕ) → after.instance.n ≡ before.instance.n → ((w : ℕ) → has after.gone w ≡ gone_with before v w) → IsVertex before.instance.n v → IsFalse (has before.gone v) → size after < size before
vertex_less before after v count gone vertex present =
    let fewer = left_less before after v count gone vertex present in
    let room = degrees_within after.instance in
    sizes (left after) (left before) after.instance.n before.instance.n (degrees after.instance) (degrees before.instance) fewer count room
  where
    sizes : (x y m n d e : ℕ) → x + 1 ≤ y → m ≡ n → d ≤ m * m → x * (m * m + 1) + d < y * (n * n + 1) + e
    sizes x y m n d e fewer same room = subst (λ (k : ℕ). x * (m * m + 1) + d < y * (k * k + 1) + e) same
        (let more = mul-le-mul_left (m * m + 1) fewer in omega arith)

-- a link less
degrees_less : (before after : State) (a b : ℕ) → after.instance.n ≡ before.instance.n → ((u w : ℕ) → link after.instance.links u w ≡ links_but before a b u w) → IsVertex before.instance.n a → IsVertex before.instance.n b → IsSome (link before.instance.links a b) → degrees after.instance + 1 ≤ degrees before.instance
degrees_less before after a b count links low high linked =
    subst (λ (n : ℕ). sum_to (λ u. sum_to (there after u) n) n + 1 ≤ degrees before.instance) (sym count)
    (sum_to_less (λ u. sum_to (there after u) before.instance.n) (degree before.instance) a before.instance.n low (λ u. by_first u (eqb a u) refl))
  where
    there : State → ℕ → ℕ → ℕ
    there s u w = cond (is_some (link s.instance.links u w)) 1 0

    no_more : (p : Bool) (o : Option ℕ) → cond (is_some (cond p None o)) 1 0 ≤ cond (is_some o) 1 0
    no_more true None = omega arith
    no_more true (Some c) = omega arith
    no_more false o = omega arith

    term : (u w : ℕ) → there after u w ≤ there before u w
    term u w = subst (λ (o : Option ℕ). cond (is_some o) 1 0 ≤ there before u w) (sym (links u w)) (no_more (is_between (a, b) u w) (link before.instance.links u w))

    by_second : (w : ℕ) (q : Bool) → eqb b w ≡ q → there after a w + cond q 1 0 ≤ there before a w
    by_second w true is =
        let same : b ≡ w = grind (arith, nat_tests) in
        let self : eqb a a ≡ true = grind (arith, nat_tests) in
        let between : is_between (a, b) a w ≡ true = rw (self, is) refl in
        let away : there after a w ≡ 0 = ap (λ o. cond (is_some o) 1 0) (links a w ∙ ap (λ p. cond p None (link before.instance.links a w)) between) in
        let before_is : there before a w ≡ 1 = ap (λ p. cond p 1 0) (subst (λ (x : ℕ). is_some (link before.instance.links a x) ≡ true) same linked) in
        omega arith
    by_second w false is = let one = term a w in omega arith

    by_first : (u : ℕ) (p : Bool) → eqb a u ≡ p → sum_to (there after u) before.instance.n + cond p 1 0 ≤ degree before.instance u
    by_first u true is =
        let same : a ≡ u = grind (arith, nat_tests) in
        subst (λ (x : ℕ). sum_to (there after x) before.instance.n + 1 ≤ degree before.instance x) same
        (sum_to_less (there after a) (there before a) b before.instance.n high (λ w. by_second w (eqb b w) refl))
    by_first u false is = let all = sum_to_le (there after u) (there before u) before.instance.n (λ w low high. term u w) in omega arith

pub link_less : (before after : State) (a b : ℕ) → after.instance.n ≡ before.instance.n → ((u w : ℕ) → link after.instance.links u w ≡ links_but before a b u w) → ((w : ℕ) → has after.gone w ≡ has before.gone w) → IsVertex before.instance.n a → IsVertex before.instance.n b → IsSome (link before.instance.links a b) → size after < size before
link_less before after a b count links gone low high linked =
    let fewer = degrees_less before after a b count links low high linked in
    let same : left after ≡ left before = ap (sum_to (λ w. cond (has after.gone w) 0 1)) count ∙ sum_to_same (λ w. cond (has after.gone w) 0 1) (λ w. cond (has before.gone w) 0 1) before.instance.n (λ w l h. ap (λ g. cond g 0 1) (gone w)) in
    sizes (left after) (left before) after.instance.n before.instance.n (degrees after.instance) (degrees before.instance) same count fewer
  where
    sizes : (x y m n d e : ℕ) → x ≡ y → m ≡ n → d + 1 ≤ e → x * (m * m + 1) + d < y * (n * n + 1) + e
    sizes x y m n d e same count fewer = subst (λ (p : ℕ × ℕ). x * (m * m + 1) + d < p.0 * (p.1 * p.1 + 1) + e) (λ j. (same j, count j)) (omega arith)
