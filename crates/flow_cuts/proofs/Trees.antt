-- What a search has found so far.
use Rattle.std.proofs.Common.{◌≡◌, ℕ, ◌+◌, ◌-◌, ◌<◌, ◌≤◌, ◌⊎◌, Bool, true, false, eqb, List, [], ◌∷◌, ◌++◌, reverse, length, get_or, Some, inl, inr, refl, sym, ap, ◌∙◌, subst, arith, append_assoc}
use Rattle.std.specs.Prelude.{◌||◌, ◌==◌, IsTrue, IsFalse, slice_get}
use Rattle.std.proofs.lemmas.Bool.{cases_lt, eq-eqb, eqb-true, false≢true, or_left, or_right}
use Rattle.std.proofs.lemmas.Bool.Decides.{nat_tests}
use Rattle.std.proofs.lemmas.List.{get_or_append_left, get_or_default}
use Rattle.std.proofs.lemmas.List.Elements.{All-nil, All-push}
use Rattle.std.proofs.lemmas.Option.{get_or_from_slice_get, slice_get_within}
use Rattle.st_model.specs.Lists.{has}
use Rattle.st_model.specs.Network.{IsVertex}
use Rattle.st_model.proofs.Marked.{has-push, place_of, has_at}
use Rattle.st_model.proofs.Members.{has-append}
use Rattle.bidirected_form.specs.declared.arc.Arc.{Arc}
use Rattle.bidirected_form.specs.Digraph.{Digraph, IsDigraph, arcs_into, remaining}
use Rattle.bidirected_form.specs.Entering.{enters}
use Rattle.bidirected_form.proofs.Lookups.{left_from-at, left_from-found}
use Rattle.flow_cuts.specs.declared.searching.Search.{Search}
use Rattle.flow_cuts.specs.Fewest.{LeadsTo, here, over, Separates}
use Rattle.flow_cuts.specs.Sending.{HasRoom, CanSend, AreSteps, is_led, IsTree, IsSearched}
use Rattle.flow_cuts.proofs.Walks.{reverse-push, begins}

pub tree_start : (D : Digraph) (f : ℕ → ℕ → ℕ) (capacity q : ℕ) (s : Search) → IsVertex D.n q → s.reaching.count ≡ D.n + 1 → s.reaching.members ≡ q ∷ [] → s.steps.items ≡ []
    → IsTree D f capacity q s
tree_start D f capacity q s range count members steps = record {
  count = count;
  in_range = rw members (All-push (IsVertex D.n) [] q (All-nil (IsVertex D.n)) range);
  same = λ v. rw (members, steps) (ap (λ (b : Bool). b || false) (flips q v));
  steps = rw steps tt;
}
  where
    flips : (x y : ℕ) → eqb x y ≡ eqb y x
    flips x y = grind (arith, nat_tests)

-- an open arc into a vertex is in its row
pub row_open : (D : Digraph) (f : ℕ → ℕ → ℕ) (capacity u v : ℕ) → CanSend D f capacity u v
    → (k : ℕ) × (k < length (arcs_into D v)) × ((d : Arc) → (get_or (arcs_into D v) k d).tail ≡ u) ×
    ((d : Arc) → HasRoom f capacity (get_or (arcs_into D v) k d).remaining (get_or (arcs_into D v) k d).tail v)
row_open D f capacity u v free =
    let found = left_from-found (arcs_into D v) u free.left free.arc in
    (found.0, found.1, (λ d. ap (λ (a : Arc). a.tail) (found.2 d)), (λ d. subst (λ (a : Arc). HasRoom f capacity a.remaining a.tail v) (sym (found.2 d)) free.room))

-- and an arc of the row with room is open
pub open_row : (D : Digraph) (f : ℕ → ℕ → ℕ) (capacity v k : ℕ) (d : Arc) → IsDigraph D → k < length (arcs_into D v)
    → HasRoom f capacity (get_or (arcs_into D v) k d).remaining (get_or (arcs_into D v) k d).tail v → CanSend D f capacity (get_or (arcs_into D v) k d).tail v
open_row D f capacity v k d h below room = record { left = (get_or (arcs_into D v) k d).remaining; arc = left_from-at (arcs_into D v) k d (h.arcs v).ascending below; room = room }

pub push_longer : (old members : List ℕ) (tail : ℕ) → (more : List ℕ) × (members ≡ old ++ more) → (more : List ℕ) × (members ++ tail ∷ [] ≡ old ++ more)
push_longer old members tail h = (h.0 ++ tail ∷ [], ap (λ (xs : List ℕ). xs ++ tail ∷ []) h.1 ∙ append_assoc old h.0 (tail ∷ []))

pub push_keeps : (members : List ℕ) (tail v : ℕ) → IsTrue (has members v) → IsTrue (has (members ++ tail ∷ []) v)
push_keeps members tail v held = rw (has-push members tail v) (or_left (has members v) (tail == v) held)

pub push_has : (members : List ℕ) (tail : ℕ) → IsTrue (has (members ++ tail ∷ []) tail)
push_has members tail = rw (has-push members tail tail) (or_right (has members tail) (tail == tail) (eq-eqb tail tail refl))

pub longer_keeps : (old new : List ℕ) (v : ℕ) → (more : List ℕ) × (new ≡ old ++ more) → IsTrue (has old v) → IsTrue (has new v)
longer_keeps old new v longer held = rw (longer.1, has-append old longer.0 v) (or_left (has old v) (has longer.0 v) held)

-- the tails of the arcs up to a place that have room
abbrev pub IsTakenUpTo : (ℕ → ℕ → ℕ) → ℕ → ℕ → List Arc → ℕ → List ℕ → Type 0
IsTakenUpTo f capacity head row i members = (k : ℕ) (d : Arc) → k < i → HasRoom f capacity (get_or row k d).remaining (get_or row k d).tail head → IsTrue (has members (get_or row k d).tail)

pub taken_up_to : (f : ℕ → ℕ → ℕ) (capacity head : ℕ) (row : List Arc) (i : ℕ) (e : Arc) (members new : List ℕ) → i < length row → ((v : ℕ) → IsTrue (has members v) → IsTrue (has new v))
    → (HasRoom f capacity (get_or row i e).remaining (get_or row i e).tail head → IsTrue (has new (get_or row i e).tail)) → IsTakenUpTo f capacity head row i members
    → IsTakenUpTo f capacity head row (i + 1) new
taken_up_to f capacity head row i e members new within keeps now before k d below room = by_case (cases_lt k i)
  where
    by_case : (k < i) ⊎ (i ≤ k) → IsTrue (has new (get_or row k d).tail)
    by_case (inl less) = keeps (get_or row k d).tail (before k d less room)
    by_case (inr more) =
        let is : k ≡ i = omega arith in
        let same : get_or row k d ≡ get_or row i e = ap (λ (j : ℕ). get_or row j d) is ∙ get_or_default row i d e within in
        subst (λ (a : Arc). IsTrue (has new a.tail)) (sym same) (now (subst (λ (a : Arc). HasRoom f capacity a.remaining a.tail head) same room))

-- all of the row is taken
pub taken_all : (D : Digraph) (f : ℕ → ℕ → ℕ) (capacity head i : ℕ) (members : List ℕ) → length (arcs_into D head) ≤ i → IsTakenUpTo f capacity head (arcs_into D head) i members → (u : ℕ)
    → CanSend D f capacity u head → IsTrue (has members u)
taken_all D f capacity head i members long taken u free =
    let place = row_open D f capacity u head free in
    let nothing : Arc = record { tail = 0; remaining = 0 } in
    subst (λ (w : ℕ). IsTrue (has members w)) (place.2 nothing) (taken place.0 nothing (omega (arith, place.1)) (place.3 nothing))

-- a vertex more, with its step
pub tree_more : (D : Digraph) (f : ℕ → ℕ → ℕ) (capacity q : ℕ) (old new : Search) (tail head : ℕ) → IsVertex D.n tail → CanSend D f capacity tail head → IsFalse (has old.reaching.members tail)
    → IsTrue (has old.reaching.members head)
    → new.reaching.count ≡ old.reaching.count → new.reaching.members ≡ old.reaching.members ++ tail ∷ [] → new.steps.items ≡ old.steps.items ++ (tail, head) ∷ [] → IsTree D f capacity q old
    → IsTree D f capacity q new
tree_more D f capacity q old new tail head range free fresh held count members steps tree = record {
  count = count ∙ tree.count;
  in_range = rw members (All-push (IsVertex D.n) old.reaching.members tail tree.in_range range);
  same = λ v. rw (members, turned, has-push old.reaching.members tail v, tree.same v) (sorted (v == q) (has (begins (reverse old.steps.items)) v) (tail == v));
  steps = subst (λ (xs : List (ℕ × ℕ)). AreSteps D f capacity q xs) (sym turned) (free, sym (tree.same head) ∙ held, sym (tree.same tail) ∙ fresh, tree.steps);
}
  where
    turned : reverse new.steps.items ≡ (tail, head) ∷ reverse old.steps.items
    turned = ap reverse steps ∙ reverse-push old.steps.items (tail, head)

    sorted : (a b c : Bool) → ((a || b) || c) ≡ (a || (c || b))
    sorted true b c = refl
    sorted false true true = refl
    sorted false true false = refl
    sorted false false true = refl
    sorted false false false = refl

-- the vertices up to a place are closed
abbrev pub IsClosedUpTo : Digraph → (ℕ → ℕ → ℕ) → ℕ → ℕ → List ℕ → Type 0
IsClosedUpTo D f capacity next members = (k : ℕ) → k < next → (u : ℕ) → CanSend D f capacity u (get_or members k 0) → IsTrue (has members u)

pub closed_more : (D : Digraph) (f : ℕ → ℕ → ℕ) (capacity next head : ℕ) (members new : List ℕ) → slice_get members next ≡ Some head → (more : List ℕ) × (new ≡ members ++ more)
    → ((u : ℕ) → CanSend D f capacity u head → IsTrue (has new u)) → IsClosedUpTo D f capacity next members → IsClosedUpTo D f capacity (next + 1) new
closed_more D f capacity next head members new found longer all closed k below u free = by_case (cases_lt k next)
  where
    within : next < length members
    within = slice_get_within members next head found

    same : k < length members → get_or new k 0 ≡ get_or members k 0
    same less = ap (λ (xs : List ℕ). get_or xs k 0) longer.1 ∙ get_or_append_left members longer.0 0 k less

    by_case : (k < next) ⊎ (next ≤ k) → IsTrue (has new u)
    by_case (inl before) = rw (longer.1, has-append members longer.0 u)
        (or_left (has members u) (has longer.0 u) (closed k before u (subst (λ (w : ℕ). CanSend D f capacity u w) (same (omega (arith, within))) free)))
    by_case (inr past) =
        let is : k ≡ next = omega arith in
        let at_next : get_or members k 0 ≡ head = ap (λ (j : ℕ). get_or members j 0) is ∙ get_or_from_slice_get members next head 0 found in
        all u (subst (λ (w : ℕ). CanSend D f capacity u w) (same (omega (arith, within)) ∙ at_next) free)

pub closed_done : (D : Digraph) (f : ℕ → ℕ → ℕ) (capacity q next : ℕ) (s : Search) → length s.reaching.members ≤ next → IsClosedUpTo D f capacity next s.reaching.members
    → IsTree D f capacity q s → IsSearched D f capacity q s
closed_done D f capacity q next s long closed tree = record {
  tree = tree;
  closed = λ misses u v held free. let place = place_of s.reaching.members v held in closed place.0 (omega (arith, place.1)) u (subst (λ (w : ℕ). CanSend D f capacity u w) (sym place.2) free);
}

pub met_root : (D : Digraph) (f : ℕ → ℕ → ℕ) (capacity q next : ℕ) (s : Search) → slice_get s.reaching.members next ≡ Some D.root → IsTree D f capacity q s → IsSearched D f capacity q s
met_root D f capacity q next s found tree = record {
  tree = tree;
  closed = λ misses u v held free. absurd (false≢true (sym misses
      ∙ subst (λ (w : ℕ). IsTrue (has s.reaching.members w)) (get_or_from_slice_get s.reaching.members next D.root 0 found)
      (has_at s.reaching.members next 0 (slice_get_within s.reaching.members next D.root found))));
}

-- q itself was found
pub holds_q : (D : Digraph) (f : ℕ → ℕ → ℕ) (capacity q : ℕ) (s : Search) → IsTree D f capacity q s → IsTrue (has s.reaching.members q)
holds_q D f capacity q s tree = tree.same q ∙ rw (eq-eqb q q refl) refl

-- where there is no room on arcs that something remains of, steps go over saturated arcs alone
pub steps_lead : (D : Digraph) (f : ℕ → ℕ → ℕ) (q : ℕ) (steps : List (ℕ × ℕ)) → AreSteps D f 0 q steps → (v : ℕ) → IsTrue (is_led q steps v) → LeadsTo D q v
steps_lead D f q [] are v led = subst (λ (w : ℕ). LeadsTo D q w) (sym (eqb-true v q (alone (eqb v q) led))) here
  where
    alone : (a : Bool) → IsTrue (a || false) → IsTrue a
    alone true h = refl
    alone false h = absurd (false≢true h)
steps_lead D f q (s ∷ steps) are v led = by_case (eqb s.0 v) refl (steps_lead D f q steps are.3)
  where
    used : remaining D s.0 s.1 ≡ Some 0
    used = told are.0.room
      where
        told : (are.0.left ≡ 0) ⊎ (f s.0 s.1 - f s.1 s.0 < 0) → remaining D s.0 s.1 ≡ Some 0
        told (inl none) = are.0.arc ∙ ap Some none
        told (inr less) = absurd (omega arith)

    others : (a b c : Bool) → b ≡ false → IsTrue (a || (b || c)) → IsTrue (a || c)
    others true b c e h = refl
    others false true c e h = absurd (false≢true (sym e))
    others false false c e h = h

    by_case : (b : Bool) → eqb s.0 v ≡ b → ((w : ℕ) → IsTrue (is_led q steps w) → LeadsTo D q w) → LeadsTo D q v
    by_case true e rest = subst (λ (w : ℕ). LeadsTo D q w) (eqb-true s.0 v e) (over used (rest s.1 are.1))
    by_case false e rest = rest v (others (eqb v q) (eqb s.0 v) (has (begins steps) v) e led)

-- what leads to q is in each set that separates it
pub led_is_held : (D : Digraph) (q : ℕ) (set : List ℕ) → Separates D q set → (v : ℕ) → LeadsTo D q v → IsTrue (has set v)
led_is_held D q set separates v here = separates.holds
led_is_held D q set separates v (over {u = u} {v = w} used rest) = by_case (has set u) refl (led_is_held D q set separates w rest)
  where
    by_case : (b : Bool) → has set u ≡ b → IsTrue (has set w) → IsTrue (has set u)
    by_case true e held = e
    by_case false e held = let entering : IsTrue (enters set u w) = rw (held, e) refl in absurd (separates.remains u w entering used)
