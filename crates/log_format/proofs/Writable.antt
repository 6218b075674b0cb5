-- Trees of an instance can be written, and what they cost is small.
use Rattle.std.proofs.Common.{◌≡◌, ℕ, zero, suc, ◌+◌, ◌^◌, ◌<◌, ◌≤◌, Bool, true, false, cond, eqb, ◌||◌, List, [], ◌∷◌, length, take, take_all, refl, sym, ap, ◌∙◌, arith}
use Rattle.std.specs.Prelude.{IsFalse}
use Rattle.std.proofs.lemmas.Bool.{both_ways, eqb-true}
use Rattle.std.proofs.lemmas.List.Elements.{All-weaker}
use Rattle.st_model.specs.declared.tree.Tree.{Tree}
use Rattle.st_model.specs.Lists.{has, total, sum_to}
use Rattle.st_model.specs.Network.{Network, IsInstance, IsVertex}
use Rattle.st_model.specs.Arborescence.{Grows, IsArborescence, arc_cost, cost, reached}
use Rattle.st_model.proofs.Costs.{links_fit, missed_le_prizes}
use Rattle.st_model.proofs.Reaching.{ends_are_vertices}
use Rattle.st_model.proofs.ThinGrowth.{linked-vertices}
use Rattle.st_model.proofs.Sums.{sum_to_same, sum_to-add, sum_to_one}
use Rattle.log_format.specs.Text.{IsAnyVertex, IsWritableTree}

pub any_vertex : (I : Network) (v : ℕ) → IsInstance I → IsVertex I.n v → IsAnyVertex v
any_vertex I v instance vertex = (vertex.0, omega (arith, vertex.1, instance.few_vertices))

-- how many vertices are in the list
abbrev members : ℕ → List ℕ → ℕ
members n r = sum_to (λ w. cond (has r w) 1 0) n

one_more : (n v : ℕ) (r : List ℕ) → IsVertex n v → IsFalse (has r v) → members n (v ∷ r) ≡ members n r + 1
one_more n v r vertex new =
    sum_to_same (λ w. cond (has (v ∷ r) w) 1 0) (λ w. cond (has r w) 1 0 + cond (eqb v w) 1 0) n (λ w low high. by_case w (eqb v w) refl (has r w) refl)
    ∙ sum_to-add (λ w. cond (has r w) 1 0) (λ w. cond (eqb v w) 1 0) n
    ∙ ap (λ k. members n r + k) (sum_to_one v 1 n vertex.0 vertex.1)
  where
    by_case : (w : ℕ) (here : Bool) → eqb v w ≡ here → (in_r : Bool) → has r w ≡ in_r → ◌≡◌ {A = ℕ} (cond (here || in_r) 1 0) (cond in_r 1 0 + cond here 1 0)
    by_case w true is true e = absurd (both_ways (has r w) (ap (has r) (sym (eqb-true v w is)) ∙ new) e)
    by_case w true is false e = refl
    by_case w false is true e = refl
    by_case w false is false e = refl

members_at_most : (n : ℕ) (r : List ℕ) → members n r ≤ n
members_at_most zero r = omega arith
members_at_most (suc n) r = by_case (has r (suc n)) (members_at_most n r)
  where
    by_case : (b : Bool) → members n r ≤ n → members n r + cond b 1 0 ≤ suc n
    by_case true h = omega arith
    by_case false h = omega arith

few_arcs : (I : Network) (r : List ℕ) (arcs : List (ℕ × ℕ)) → IsInstance I → Grows I r arcs → length arcs + members I.n r ≤ I.n
few_arcs I r [] instance grows = omega (arith, members_at_most I.n r)
few_arcs I r ((u, v) ∷ arcs) instance grows =
    let ends = linked-vertices I u v instance grows.0 in
    omega (arith, few_arcs I (v ∷ r) arcs instance grows.3, one_more I.n v r ends.1 grows.2)

-- a tree of an instance can be written
pub writable_tree : (I : Network) (t : Tree) → IsInstance I → IsArborescence I t → IsWritableTree t
writable_tree I t instance arborescence = record {
  start = any_vertex I t.start instance arborescence.start;
  few_arcs = omega (arith, few_arcs I (t.start ∷ []) t.arcs instance arborescence.grows, instance.few_vertices);
  arcs = All-weaker (λ arc. IsVertex I.n arc.0 × IsVertex I.n arc.1) (λ arc. IsAnyVertex arc.0 × IsAnyVertex arc.1)
      (λ arc ends. (any_vertex I arc.0 instance ends.0, any_vertex I arc.1 instance ends.1))
      t.arcs (ends_are_vertices I (t.start ∷ []) t.arcs instance arborescence.grows);
}

-- what a tree costs is below all that could be paid
pub cost_fits : (I : Network) (t : Tree) → IsInstance I → IsArborescence I t → cost I t < 2 ^ 63
cost_fits I t instance arborescence =
    let fits = links_fit I (t.start ∷ []) t.arcs (length t.arcs) instance arborescence.grows in
    let all : total (arc_cost I) (take (length t.arcs) t.arcs) ≡ total (arc_cost I) t.arcs = ap (total (arc_cost I)) (take_all (length t.arcs) t.arcs (omega arith)) in
    omega (arith, fits, all, missed_le_prizes I (reached t))
