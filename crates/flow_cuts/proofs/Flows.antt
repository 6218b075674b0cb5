-- No flow is more than the arcs that enter a set, and a flow that fills those is as much.
use Rattle.std.proofs.Common.{◌≡◌, ℕ, ◌+◌, ◌-◌, ◌*◌, ◌^◌, ◌<◌, ◌≤◌, ◌≢◌, ◌⊎◌, Bool, true, false, List, [], ◌∷◌, get_or, Some, inl, inr, refl, sym, ap, ◌∙◌, arith}
use Rattle.std.specs.Prelude.{◌&&◌, not, IsTrue, IsFalse, All}
use Rattle.std.proofs.lemmas.Bool.{cases_eq, cases_lt, eq-eqb, ne_eqb, false≢true}
use Rattle.std.proofs.Math.Nat.{mul-le-mul_left}
use Rattle.std.specs.List.Sorted.{IsStrictlyIncreasing}
use Rattle.std.proofs.lemmas.List.Elements.{recursion_from_All}
use Rattle.st_model.specs.Lists.{has}
use Rattle.st_model.proofs.Marked.{at_member, has_at}
use Rattle.st_model.specs.Network.{IsVertex}
use Rattle.st_model.specs.Branch.{IsVertexSet}
use Rattle.bidirected_form.specs.Digraph.{Digraph, IsDigraph, remaining}
use Rattle.bidirected_form.specs.Entering.{enters}
use Rattle.flow_cuts.specs.Fewest.{entering_sum, entering_count, Separates, IsFewest, IsSaturated}
use Rattle.flow_cuts.specs.Sending.{back, CanSend, IsFlow, IsBalanced, IsSearched, SendsOne}
use Rattle.flow_cuts.specs.declared.searching.Search.{Search}
use Rattle.flow_cuts.proofs.Counts.{count_few}
use Rattle.flow_cuts.proofs.Trees.{holds_q}
use Rattle.flow_cuts.proofs.Sums.{amount, entering_le, entering_add}

-- what enters a set that separates, less what leaves it
net : (D : Digraph) (q k : ℕ) (f : ℕ → ℕ → ℕ) (set : List ℕ) → IsBalanced D q k f → IsTrue (has set q) → IsFalse (has set D.root) → entering_sum D f set ≡ entering_sum D (back f) set + k
net D q k f set balanced holds misses = let e : entering_sum D f set + 0 ≡ entering_sum D (back f) set + k = rw (holds, misses) at (balanced set) in omega (arith, e)

with_one : (D : Digraph) (f : ℕ → ℕ → ℕ) (set : List ℕ) → entering_sum D (λ u v. back f u v + 1) set ≡ entering_sum D (back f) set + entering_count D set
with_one D f set = entering_add D (back f) (λ u v. 1) set

pub flow_at_most : (D : Digraph) (q k : ℕ) (f : ℕ → ℕ → ℕ) (set : List ℕ) → IsDigraph D → IsFlow D q k f → Separates D q set → k ≤ entering_count D set
flow_at_most D q k f set h flow separates =
    let least = entering_le D f (λ u v. back f u v + 1) set h (λ u v left is enters. by_case u v left is enters (cases_eq left 0)) in
    let both = net D q k f set flow.balanced separates.holds separates.misses in
    let more = with_one D f set in
    omega (arith, least, both, more)
  where
    by_case : (u v left : ℕ) → remaining D u v ≡ Some left → IsTrue (enters set u v) → (left ≡ 0) ⊎ (left ≢ 0) → f u v ≤ f v u + 1
    by_case u v left is entering (inl none) = absurd (separates.remains u v entering (is ∙ ap Some none))
    by_case u v left is entering (inr some) = flow.single u v left is (omega arith)

pub flow_at_least : (D : Digraph) (q k : ℕ) (f : ℕ → ℕ → ℕ) (set : List ℕ) → IsDigraph D → IsFlow D q k f → IsTrue (has set q) → IsFalse (has set D.root)
    → ((u v : ℕ) → IsTrue (has set v) → CanSend D f 1 u v → IsTrue (has set u)) → entering_count D set ≤ k
flow_at_least D q k f set h flow holds misses closed =
    let least = entering_le D (λ u v. back f u v + 1) f set h (λ u v left is entering. by_case u v left is (parts u v (has set v) (has set u) refl refl entering) (cases_lt (f u v) (f v u + 1))) in
    let both = net D q k f set flow.balanced holds misses in
    let more = with_one D f set in
    omega (arith, least, both, more)
  where
    parts : (u v : ℕ) (a b : Bool) → has set v ≡ a → has set u ≡ b → IsTrue (a && not b) → IsTrue (has set v) × IsFalse (has set u)
    parts u v true false e i t = (e, i)
    parts u v true true e i t = absurd (false≢true t)
    parts u v false b e i t = absurd (false≢true t)

    by_case : (u v left : ℕ) → remaining D u v ≡ Some left → IsTrue (has set v) × IsFalse (has set u) → (f u v < f v u + 1) ⊎ (f v u + 1 ≤ f u v) → f v u + 1 ≤ f u v
    by_case u v left is entering (inr full) = full
    by_case u v left is entering (inl room) =
        absurd (false≢true (sym entering.1 ∙ closed u v entering.0 (record { left = left; arc = is; room = inr (omega arith) })))

-- no saturated arc enters a closed set
pub separates_closed : (D : Digraph) (q capacity : ℕ) (f : ℕ → ℕ → ℕ) (set : List ℕ) → IsTrue (has set q) → IsFalse (has set D.root)
    → ((u v : ℕ) → IsTrue (has set v) → CanSend D f capacity u v → IsTrue (has set u)) → Separates D q set
separates_closed D q capacity f set holds misses closed = record {
  holds = holds;
  misses = misses;
  remains = λ u v entering used. by_case u v (has set v) (has set u) refl refl entering used;
}
  where
    by_case : (u v : ℕ) (a b : Bool) → has set v ≡ a → has set u ≡ b → IsTrue (a && not b) → IsSaturated D u v → ⊥
    by_case u v true false e i t used = false≢true (sym i ∙ closed u v e (record { left = 0; arc = used; room = inl refl }))
    by_case u v true true e i t used = false≢true t
    by_case u v false b e i t used = false≢true t

-- the set is closed and separates, so none is entered by fewer arcs
pub fewest_found : (D : Digraph) (q k : ℕ) (f : ℕ → ℕ → ℕ) (set : List ℕ) → IsDigraph D → IsFlow D q k f → IsVertexSet D.n set → IsTrue (has set q) → IsFalse (has set D.root)
    → ((u v : ℕ) → IsTrue (has set v) → CanSend D f 1 u v → IsTrue (has set u)) → IsFewest D q set
fewest_found D q k f set h flow is_set holds misses closed = record {
  candidate = record { set = is_set; separates = separates_closed D q 1 f set holds misses closed };
  least = λ other is. let below = flow_at_least D q k f set h flow holds misses closed in let above = flow_at_most D q k f other h flow is.separates in omega (arith, below, above);
}

-- nothing is sent yet
pub flow_none : (D : Digraph) (q : ℕ) (f : ℕ → ℕ → ℕ) → IsDigraph D → ((u v : ℕ) → f u v ≡ 0) → IsFlow D q 0 f
flow_none D q f h none = record {
  balanced = λ set. let low = entering_le D f (back f) set h (λ u v left is entering. omega (arith, none u v)) in
      let high = entering_le D (back f) f set h (λ u v left is entering. omega (arith, none v u)) in
      let zeros = off (has set D.root) in let zeros' = off (has set q) in omega (arith, low, high, zeros, zeros');
  single = λ u v left is some. omega (arith, none u v);
  few = λ u v. omega (arith, none u v);
}
  where
    off : (b : Bool) → amount b 0 ≡ 0
    off true = refl
    off false = refl

-- one unit more
pub flow_more : (D : Digraph) (q k : ℕ) (f g : ℕ → ℕ → ℕ) → SendsOne D q f g → IsFlow D q k f → IsFlow D q (k + 1) g
flow_more D q k f g sends flow = record {
  balanced = sends.balanced k flow.balanced;
  single = λ u v left is some. single u v left is some (sends.over u v);
  few = λ u v. few u v (sends.over u v);
}
  where
    few : (u v : ℕ) → (g u v ≡ f u v) ⊎ (CanSend D f 1 u v × (g u v ≡ f u v + 1)) → g u v ≤ k + 1
    few u v (inl same) = omega (arith, same, flow.few u v)
    few u v (inr more) = omega (arith, more.1, flow.few u v)

    room : (u v left : ℕ) → remaining D u v ≡ Some left → 0 < left → CanSend D f 1 u v → f u v ≤ f v u
    room u v left is some free = told free.room
      where
        same : left ≡ free.left
        same = let e : Some left ≡ Some free.left = sym is ∙ free.arc in cc

        told : (free.left ≡ 0) ⊎ (f u v - f v u < 1) → f u v ≤ f v u
        told (inl none) = absurd (omega (arith, same, none, some))
        told (inr less) = omega (arith, less)

    single : (u v left : ℕ) → remaining D u v ≡ Some left → 0 < left → (g u v ≡ f u v) ⊎ (CanSend D f 1 u v × (g u v ≡ f u v + 1)) → g u v ≤ g v u + 1
    single u v left is some (inl same) = omega (arith, same, flow.single u v left is some, sends.more v u)
    single u v left is some (inr more) = omega (arith, more.1, room u v left is some more.0, sends.more v u)

-- what a flow sends is what enters q, less what leaves it
pub value_is : (D : Digraph) (q k : ℕ) (f : ℕ → ℕ → ℕ) → (q ≡ D.root → ⊥) → IsFlow D q k f → entering_sum D f (q ∷ []) - entering_sum D (back f) (q ∷ []) ≡ k
value_is D q k f apart flow =
    let here : IsTrue (has (q ∷ []) q) = rw (eq-eqb q q refl) refl in
    let elsewhere : IsFalse (has (q ∷ []) D.root) = rw (ne_eqb q D.root apart) refl in
    omega (arith, net D q k f (q ∷ []) flow.balanced here elsewhere)

-- what flows is little, since some set separates
pub flow_small : (D : Digraph) (q k : ℕ) (f : ℕ → ℕ → ℕ) (set : List ℕ) → IsDigraph D → IsFlow D q k f → Separates D q set → k ≤ D.n * (D.n + 1)
flow_small D q k f set h flow separates = let most = flow_at_most D q k f set h flow separates in let few = count_few D set h in omega (arith, most, few)

pub sent_small : (D : Digraph) (q k : ℕ) (f : ℕ → ℕ → ℕ) (set : List ℕ) → IsDigraph D → IsFlow D q k f → Separates D q set → (u v : ℕ) → f u v < 2 ^ 63
sent_small D q k f set h flow separates u v =
    let few = flow.few u v in
    let small = flow_small D q k f set h flow separates in
    let product = mul-le-mul_left {m = D.n + 1} {n = 1000001} D.n (omega (arith, h.few_vertices)) in
    omega (arith, few, small, product, h.few_vertices)

-- a flow of one more leaves fewer units to come
pub left_falls : (D : Digraph) (q k : ℕ) (f g : ℕ → ℕ → ℕ) (set : List ℕ) → IsDigraph D → (q ≡ D.root → ⊥) → Separates D q set → IsFlow D q k f → IsFlow D q (k + 1) g
    → D.n * (D.n + 1) + 1 - (entering_sum D g (q ∷ []) - entering_sum D (back g) (q ∷ [])) < D.n * (D.n + 1) + 1 - (entering_sum D f (q ∷ []) - entering_sum D (back f) (q ∷ []))
left_falls D q k f g set h apart separates flow more =
    let before = value_is D q k f apart flow in
    let after = value_is D q (k + 1) g apart more in
    let small = flow_small D q (k + 1) g set h more separates in
    rw (before, after) (omega (arith, small))

-- the members that a search found, as a list
pub found_is_fewest : (D : Digraph) (q k : ℕ) (f : ℕ → ℕ → ℕ) (s : Search) (list : List ℕ) → IsDigraph D → IsFlow D q k f → IsSearched D f 1 q s → IsFalse (has s.reaching.members D.root)
    → ((v : ℕ) → has list v ≡ has s.reaching.members v) → IsStrictlyIncreasing list → IsFewest D q list
found_is_fewest D q k f s list h flow searched misses same ascending =
    fewest_found D q k f list h flow (record { ascending = ascending; in_range = in_range }) (same q ∙ holds_q D f 1 q s searched.tree) (same D.root ∙ misses)
    (λ u v held free. same u ∙ searched.closed misses u v (sym (same v) ∙ held) free)
  where
    in_range : All (IsVertex D.n) list
    in_range j d below = at_member (IsVertex D.n) s.reaching.members (get_or list j d) (recursion_from_All (IsVertex D.n) s.reaching.members searched.tree.in_range)
        (sym (same (get_or list j d)) ∙ has_at list j d below)
