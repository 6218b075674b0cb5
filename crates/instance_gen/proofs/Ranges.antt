-- What is drawn has ends from 1 to n, and costs and prizes of at most 100.
use Rattle.std.proofs.Common.{◌≡◌, ℕ, zero, suc, ◌+◌, ◌-◌, ◌*◌, ◌%◌, ◌≤◌, Bool, true, false, List, [], ◌∷◌, ◌++◌, get_or, take, refl, arith}
use Rattle.std.specs.Prelude.{All}
use Rattle.std.specs.List.{AllByRecursion, swap}
use Rattle.std.proofs.lemmas.Nat.{mod_below}
use Rattle.std.proofs.lemmas.List.Elements.{All-append, All-cons, All-nil, All-set, All-take, recursion_from_All}
use Rattle.st_model.specs.declared.link.Link.{Link}
use Rattle.st_model.specs.Lists.{total, up_to}
use Rattle.st_model.specs.Network.{IsVertex, prize}
use Rattle.st_model.proofs.Sums.{total-append}
use Rattle.instance_gen.specs.Generated.{next, Drawn, tree_links, further_links, all_links, Shuffled, exchanges, all_exchanges, all_required, all_paying, all_needs, AreInRange}

-- k links with ends from 1 to n, of at most 100 each
pub record AreLinks (n k : ℕ) (links : List Link) : Type 0 where
  pub ends : All (λ l. IsVertex n l.a × IsVertex n l.b) links
  pub costs : total (λ l. l.cost) links ≤ 100 * k

one_more : (n k : ℕ) (links : List Link) (l : Link) → AreLinks n k links → IsVertex n l.a → IsVertex n l.b → l.cost ≤ 100 → AreLinks n (suc k) (links ++ l ∷ [])
one_more n k links l those a b cheap = record {
  ends = All-append (λ m. IsVertex n m.a × IsVertex n m.b) links (l ∷ []) those.ends (All-cons (λ m. IsVertex n m.a × IsVertex n m.b) l [] (a, b) (All-nil _));
  costs = let sum = total-append (λ (m : Link). m.cost) links (l ∷ []) in let before = those.costs in omega (arith, sum, before);
}

pub tree_in_range : (n seed k : ℕ) → k + 1 ≤ n → AreLinks n k (tree_links seed k).links
tree_in_range n seed zero few = record { ends = All-nil _; costs = omega arith }
tree_in_range n seed (suc k) few =
    let d = tree_links seed k in
    let x = next d.last in
    let y = next x in
    let below = mod_below x ((k + 2) - 1) (omega arith) in
    let cheap = mod_below y 100 (omega arith) in
    one_more n k d.links (record { a = 1 + x % ((k + 2) - 1); b = k + 2; cost = 1 + y % 100 }) (tree_in_range n seed k (omega arith)) (omega arith, omega (arith, below))
    (omega arith, omega arith) (omega (arith, cheap))

pub further_in_range : (n before : ℕ) (d : Drawn) (k : ℕ) → 1 ≤ n → AreLinks n before d.links → AreLinks n (k + before) (further_links n d k).links
further_in_range n before d zero some those = record { ends = those.ends; costs = omega (arith, those.costs) }
further_in_range n before d (suc k) some those =
    let e = further_links n d k in
    let x = next e.last in
    let y = next x in
    let z = next y in
    let u = mod_below x n (omega arith) in
    let v = mod_below y n (omega arith) in
    let cheap = mod_below z 100 (omega arith) in
    let all = one_more n (k + before) e.links (record { a = 1 + x % n; b = 1 + y % n; cost = 1 + z % 100 }) (further_in_range n before d k some those)
    (omega arith, omega (arith, u)) (omega arith, omega (arith, v)) (omega (arith, cheap)) in
    record { ends = all.ends; costs = omega (arith, all.costs) }

pub links_in_range : (seed n m t : ℕ) → AreInRange seed n m t → AreLinks n ((m - (n - 1)) + (n - 1)) (all_links seed n m).links
links_in_range seed n m t r = further_in_range n (n - 1) (tree_links seed (n - 1)) (m - (n - 1)) r.some_vertex (tree_in_range n seed (n - 1) (omega (arith, r.some_vertex)))

-- ---- the chosen vertices

up_to_in_range : (n k : ℕ) → k ≤ n → All (IsVertex n) (up_to k)
up_to_in_range n zero few = All-nil _
up_to_in_range n (suc k) few = All-append (IsVertex n) (up_to k) (suc k ∷ []) (up_to_in_range n k (omega arith)) (All-cons (IsVertex n) (suc k) [] (omega arith, few) (All-nil _))

-- an item, or what stands for one past the end
pub item_in_range : {X : Type 0} (P : X → Type 0) (xs : List X) (i : ℕ) (d : X) → AllByRecursion P xs → P d → P (get_or xs i d)
item_in_range P [] i d all default = default
item_in_range P (x ∷ xs) zero d all default = all.0
item_in_range P (x ∷ xs) (suc i) d all default = item_in_range P xs i d all.1 default

swap_in_range : (P : ℕ → Type 0) (xs : List ℕ) (i j : ℕ) → All P xs → All P (swap xs i j)
swap_in_range P [] i j all = all
swap_in_range P (x ∷ xs) i j all =
    let each = recursion_from_All P (x ∷ xs) all in
    All-set P _ j _ (item_in_range P (x ∷ xs) i x each each.0) (All-set P (x ∷ xs) i _ (item_in_range P (x ∷ xs) j x each each.0) all)

exchanges_in_range : (P : ℕ → Type 0) (n : ℕ) (s : Shuffled) (k : ℕ) → All P s.list → All P (exchanges n s k).list
exchanges_in_range P n s zero all = all
exchanges_in_range P n s (suc k) all = swap_in_range P (exchanges n s k).list k _ (exchanges_in_range P n s k all)

pub chosen_in_range : (last n t : ℕ) → All (IsVertex n) (take t (all_exchanges last n t).list)
chosen_in_range last n t = All-take (IsVertex n) t _ (exchanges_in_range (IsVertex n) n _ t (up_to_in_range n n (omega arith)))

-- ---- what they need

required_in_range : (P : ℕ → Type 0) (vs : List ℕ) → AllByRecursion P vs → All (λ e. P e.0) (all_required vs)
required_in_range P [] all = All-nil _
required_in_range P (v ∷ vs) all = All-cons (λ e. P e.0) _ _ all.0 (required_in_range P vs all.1)

paying_in_range : (P : ℕ → Type 0) (last : ℕ) (vs : List ℕ) → AllByRecursion P vs → All (λ e. P e.0) (all_paying last vs)
paying_in_range P last [] all = All-nil _
paying_in_range P last (v ∷ vs) all = All-cons (λ e. P e.0) _ _ all.0 (paying_in_range P (next last) vs all.1)

pub needs_in_range : (P : ℕ → Type 0) (last : ℕ) (vs : List ℕ) (prizes : Bool) → All P vs → All (λ e. P e.0) (all_needs last vs prizes)
needs_in_range P last vs true all = paying_in_range P last vs (recursion_from_All P vs all)
needs_in_range P last vs false all = required_in_range P vs (recursion_from_All P vs all)

required_free : (vs : List ℕ) → total (λ e. prize e.1) (all_required vs) ≡ 0
required_free [] = refl
required_free (v ∷ vs) = let rest = required_free vs in omega (arith, rest)

paying_few : (last t : ℕ) (vs : List ℕ) → total (λ e. prize e.1) (all_paying last (take t vs)) ≤ 100 * t
paying_few last zero vs = omega arith
paying_few last (suc t) [] = omega arith
paying_few last (suc t) (v ∷ vs) =
    let cheap = mod_below (next last) 100 (omega arith) in
    let rest = paying_few (next last) t vs in
    omega (arith, cheap, rest)

pub needs_few : (last t : ℕ) (vs : List ℕ) (prizes : Bool) → total (λ e. prize e.1) (all_needs last (take t vs) prizes) ≤ 100 * t
needs_few last t vs true = paying_few last t vs
needs_few last t vs false = let free = required_free (take t vs) in omega (arith, free)
