-- The path that leaves out those who are gone leads to the branch of what is left, and no half waits on it.
use Rattle.std.proofs.Common.{◌≡◌, ℕ, ◌<◌, true, false, cond, not, List, [], ◌∷◌, ◌++◌, map, reverse, refl, sym, ap, subst, ◌∙◌, arith, append_assoc, eq-eqb}
use Rattle.std.specs.Prelude.{nat_lt, IsTrue, IsFalse, ◌==◌}
use Rattle.std.specs.List.{AllByRecursion}
use Rattle.std.proofs.lemmas.Bool.{false_from_ne_true, or_left, or_right}
use Rattle.std.proofs.lemmas.Bool.Decides.{nat_tests}
use Rattle.std.proofs.lemmas.List.{append-nil, map-append, reverse-append}
use Rattle.std.proofs.lemmas.List.Kept.{AllPairs-from_increasing}
use Rattle.st_model.specs.declared.branch.Branch.{Branch}
use Rattle.st_model.specs.Lists.{has}
use Rattle.st_model.specs.Network.{Network, IsVertex, is_needed, is_required}
use Rattle.st_model.specs.Branch.{avoiding, with_vertex, with_outside, is_undecided}
use Rattle.st_model.proofs.Branches.{IsVertexSet-member}
use Rattle.st_model.proofs.Marked.{at_member}
use Rattle.lift_back.specs.State.{State, IsState}
use Rattle.lift_back.proofs.Trees.{all_append}
use Rattle.log_format.specs.Accepts.{left_over}
use Rattle.log_format.proofs.Alike.{Rises, rises}
use Rattle.cert_checker.specs.declared.turn.Turn.TheVariants.{Outside}
use Rattle.cert_checker.specs.Path.{branch_of, waiting, leaving_out, AreSplits}

-- one more at the end is the last turn
pub leaving_out-push : (vertices : List ℕ) (v : ℕ) → leaving_out (vertices ++ v ∷ []) ≡ Outside v ∷ leaving_out vertices
leaving_out-push vertices v = ap reverse (map-append Outside vertices (v ∷ [])) ∙ reverse-append (map Outside vertices) (Outside v ∷ [])

-- what is above all comes last
with_vertex-last : (xs : List ℕ) (v : ℕ) → AllByRecursion (λ x. x < v) xs → with_vertex xs v ≡ xs ++ v ∷ []
with_vertex-last [] v below = refl
with_vertex-last (x ∷ xs) v below =
    let here : x < v = below.0 in
    let test : nat_lt x v ≡ true = grind (arith, nat_tests) in
    ap (λ b. cond b (x ∷ with_vertex xs v) (v ∷ x ∷ xs)) test ∙ ap (λ (ys : List ℕ). x ∷ ys) (with_vertex-last xs v below.1)

-- what is above all isn't there
above : (xs : List ℕ) (v : ℕ) → AllByRecursion (λ x. x < v) xs → has xs v ≡ false
above xs v below = false_from_ne_true (has xs v) (λ there. let less : v < v = at_member (λ x. x < v) xs v below there in omega arith)

-- the path leads to the branch without these, and there by splits alone
record LeadsOut (I : Network) (vertices : List ℕ) : Type 0 where
  leads : branch_of (leaving_out vertices) ≡ avoiding vertices
  alone : waiting (leaving_out vertices) ≡ []
  splits : AreSplits I (leaving_out vertices)

-- a vertex that may be left out
abbrev IsFree : Network → ℕ → Type 0
IsFree I v = IsVertex I.n v × IsFalse (is_required I v)

one_more : (I : Network) (front : List ℕ) (v : ℕ) → IsFree I v → AllByRecursion (λ x. x < v) front → LeadsOut I front → LeadsOut I (front ++ v ∷ [])
one_more I front v free below leads =
    let path = leaving_out-push front v in
    let undecided : IsTrue (is_undecided (avoiding front) v) = ap not (above front v below) in
    record {
      leads = ap branch_of path ∙ (ap (λ (B : Branch). with_outside B v) leads.leads ∙ ap avoiding (with_vertex-last front v below));
      alone = ap waiting path ∙ leads.alone;
      splits = subst (AreSplits I) (sym path) ((record { vertex = free.0; undecided = subst (λ (B : Branch). IsTrue (is_undecided B v)) (sym leads.leads) undecided; free = free.1 }, tt), leads.splits);
    }

-- those before one are below each later one, too
both_below : (front rest : List ℕ) (v : ℕ) → AllByRecursion (λ y. AllByRecursion (λ x. x < y) front) rest → AllByRecursion (λ y. v < y) rest → AllByRecursion (λ y. AllByRecursion (λ x. x < y) (front ++ v ∷ [])) rest
both_below front [] v old new = tt
both_below front (y ∷ rest) v old new = (all_append (λ x. x < y) front (v ∷ []) old.0 (new.0, tt), both_below front rest v old.1 new.1)

all_more : (I : Network) (front rest : List ℕ) → AllByRecursion (IsFree I) rest → Rises rest → AllByRecursion (λ y. AllByRecursion (λ x. x < y) front) rest → LeadsOut I front → LeadsOut I (front ++ rest)
all_more I front [] free rise below leads = subst (LeadsOut I) (sym (append-nil front)) leads
all_more I front (v ∷ rest) free rise below leads =
    subst (LeadsOut I) (append_assoc front (v ∷ []) rest) (all_more I (front ++ v ∷ []) rest free.1 rise.1 (both_below front rest v below.1 rise.0) (one_more I front v free.0 below.0 leads))

none_before : (rest : List ℕ) → AllByRecursion (λ y. AllByRecursion (λ x. x < y) []) rest
none_before [] = tt
none_before (y ∷ rest) = (tt, none_before rest)

-- those who are gone are free
gone_free : (s : State) → IsState s → AllByRecursion (IsFree s.instance) s.gone
gone_free s state = by_recursion s.gone (λ v there. (IsVertexSet-member s.instance.n s.gone v state.gone there, ap is_needed (state.idle v there)))
  where
    by_recursion : (vs : List ℕ) → ((v : ℕ) → IsTrue (has vs v) → IsFree s.instance v) → AllByRecursion (IsFree s.instance) vs
    by_recursion [] free = tt
    by_recursion (v ∷ vs) free = (free v (first v vs), by_recursion vs (λ w there. free w (later v vs w there)))
      where
        first : (v : ℕ) (vs : List ℕ) → IsTrue (has (v ∷ vs) v)
        first v vs = or_left (v == v) (has vs v) (eq-eqb v v refl)

        later : (v : ℕ) (vs : List ℕ) (w : ℕ) → IsTrue (has vs w) → IsTrue (has (v ∷ vs) w)
        later v vs w there = or_right (v == w) (has vs w) there

leads_out : (s : State) → IsState s → LeadsOut s.instance s.gone
leads_out s state = all_more s.instance [] s.gone (gone_free s state) (rises s.gone (AllPairs-from_increasing s.gone state.gone.ascending)) (none_before s.gone) (record { leads = refl; alone = refl; splits = tt })

pub leads_to_left_over : (s : State) → IsState s → branch_of (leaving_out s.gone) ≡ left_over s
leads_to_left_over s state = (leads_out s state).leads

pub none_waits : (s : State) → IsState s → waiting (leaving_out s.gone) ≡ []
none_waits s state = (leads_out s state).alone

pub left_out_splits : (s : State) → IsState s → AreSplits s.instance (leaving_out s.gone)
left_out_splits s state = (leads_out s state).splits
