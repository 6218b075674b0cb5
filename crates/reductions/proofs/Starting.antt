-- Before any step: steps are to be tried at all vertices.
use Rattle.std.proofs.Common.{◌≡◌, ℕ, zero, suc, ◌+◌, ◌≤◌, Bool, true, false, ◌||◌, eqb, List, [], ◌∷◌, ◌++◌, refl, sym, ap, subst, ◌∙◌, arith, add-one}
use Rattle.std.specs.Prelude.{All, IsTrue, IsFalse}
use Rattle.std.specs.List.{AllByRecursion}
use Rattle.std.specs.declared.alloc.Global.{Global}
use Rattle.std.specs.declared.vec.Vec.{Vec}
use Rattle.std.proofs.Math.Bool.{or_comm}
use Rattle.std.proofs.lemmas.Bool.Decides.{nat_tests}
use Rattle.std.proofs.lemmas.List.Elements.{All-nil, All-cons, All-push, All-weaker, All-from_recursion, recursion_from_All}
use Rattle.st_model.specs.Lists.{has, up_to}
use Rattle.st_model.specs.Network.{Network, IsInstance, IsVertex}
use Rattle.st_model.proofs.Marked.{has-push}
use Rattle.lift_back.proofs.Counting.{has-up_to}
use Rattle.lift_back.specs.declared.step.Step.{Step}
use Rattle.lift_back.specs.Reduction.{Reduction}
use Rattle.lift_back.specs.State.{State, IsState, whole}
use Rattle.lift_back.specs.Steps.{Applies}
use Rattle.lift_back.proofs.Beginning.{whole_state}
use Rattle.lift_back.proofs.Trees.{all_parts}
use Rattle.reductions.specs.declared.work.Work.{Work}
use Rattle.reductions.specs.Results.{HasNoStepAt, HasNoVertexStep}
use Rattle.reductions.specs.Working.{IsSettled, IsWork}

all_up_to : (n : ℕ) → All (IsVertex n) (up_to n)
all_up_to zero = All-nil (IsVertex zero)
all_up_to (suc n) = All-push (IsVertex (suc n)) (up_to n) (suc n) (All-weaker (IsVertex n) (IsVertex (suc n)) (λ v vertex. (vertex.0, (let high = vertex.1 in omega arith))) (up_to n) (all_up_to n)) ((omega arith), (omega arith))

pub up_to_more : (n : ℕ) → up_to (n + 1) ≡ up_to n ++ (n + 1) ∷ []
up_to_more n = rw add-one refl

-- what is no vertex has no step
no_step_outside : (s : State) (v : ℕ) → (IsVertex s.instance.n v → ⊥) → HasNoStepAt s v
no_step_outside s v outside = ((λ may. outside may.idle.vertex), (λ (a, b, x, y, may). outside may.idle.vertex), (λ (u, c, may). outside may.vertex))

pub whole_work : (w : Work) (I : Network) → IsInstance I → w.reduced ≡ record { first = I; state = whole I } → w.steps.items ≡ [] → w.queue.items ≡ up_to I.n → IsWork w w.queue.items
whole_work w I is reduced steps queue = record {
  count = ap (λ (r : Reduction). r.state.instance.n) reduced ∙ sym (ap (λ (r : Reduction). r.first.n) reduced);
  applies = subst (λ (s : List Step). Applies s (whole w.reduced.first) w.reduced.state) (sym steps) (ap (λ (r : Reduction). whole r.first) reduced ∙ sym (ap (λ (r : Reduction). r.state) reduced));
  state = subst IsState (sym (ap (λ (r : Reduction). r.state) reduced)) (whole_state I is);
  vertices = subst (λ (p : ℕ × List ℕ). All (IsVertex p.0) p.1) (λ j. (sym count j, sym queue j)) (all_up_to I.n);
  tried = λ v missing. no_step_outside w.reduced.state v (λ vertex. absurd (let there = has-up_to I.n v (subst (λ (n : ℕ). IsVertex n v) count vertex) in let not_there : has (up_to I.n) v ≡ false = subst (λ (q : List ℕ). has q v ≡ false) queue missing in cc));
}
  where
    count : w.reduced.state.instance.n ≡ I.n
    count = ap (λ (r : Reduction). r.state.instance.n) reduced

-- the vertices to be tried may stand in another order
pub other_order : (w : Work) (xs ys : List ℕ) → ((v : ℕ) → has ys v ≡ has xs v) → All (IsVertex w.reduced.state.instance.n) ys → IsWork w xs → IsWork w ys
other_order w xs ys same vertices work = record {
  count = work.count;
  applies = work.applies;
  state = work.state;
  vertices = vertices;
  tried = λ v missing. work.tried v (sym (same v) ∙ missing);
}

-- nothing but the queue is another
pub same_but_queue : (w : Work) (queue : Vec ℕ Global) (queued : List ℕ) → IsWork w queued → IsWork (record w { queue = queue }) queued
same_but_queue w queue queued work = record { count = work.count; applies = work.applies; state = work.state; vertices = work.vertices; tried = work.tried }

-- a vertex is taken off the end
pub taken_off : (w : Work) (queue : Vec ℕ Global) (v : ℕ) → w.queue.items ≡ queue.items ++ v ∷ [] → IsWork w w.queue.items → IsWork (record w { queue = queue }) (v ∷ queue.items)
taken_off w queue v is work = same_but_queue w queue (v ∷ queue.items) (other_order w w.queue.items (v ∷ queue.items) same (All-cons Vertex v queue.items parts.1.0 (All-from_recursion Vertex queue.items parts.0)) work)
  where
    Vertex : ℕ → Type 0
    Vertex = IsVertex w.reduced.state.instance.n

    all : All (IsVertex w.reduced.state.instance.n) (queue.items ++ v ∷ [])
    all = subst (All (IsVertex w.reduced.state.instance.n)) is work.vertices

    parts : AllByRecursion Vertex queue.items × AllByRecursion Vertex (v ∷ [])
    parts = all_parts Vertex queue.items (v ∷ []) (recursion_from_All Vertex (queue.items ++ v ∷ []) all)

    same : (u : ℕ) → has (v ∷ queue.items) u ≡ has w.queue.items u
    same u = or_comm (eqb v u) (has queue.items u) ∙ sym (ap (λ xs. has xs u) is ∙ has-push queue.items v u)

-- where nobody is left to be tried, no vertex goes by a step
pub no_vertex_step : (w : Work) → IsSettled w → HasNoVertexStep w.reduced.state
no_vertex_step w settled v = settled.work.tried v (subst (λ (q : List ℕ). IsFalse (has q v)) (sym settled.done) refl)
