-- Whether a tree costs less than a vertex alone, arc by arc.
use Rattle.std.proofs.Common.{◌≡◌, ℕ, ◌+◌, ◌^◌, ◌<◌, ◌≤◌, true, nat_lt, List, [], ◌∷◌, length, get_or, take, drop, refl, ap, ◌∙◌, arith}
use Rattle.std.proofs.lemmas.Bool.Decides.{nat_tests}
use Rattle.std.proofs.lemmas.List.{take_all}
use Rattle.std.specs.Prelude.{IsTrue, ◌↔◌}
use Rattle.st_model.specs.declared.tree.Tree.{Tree}
use Rattle.st_model.specs.Arborescence.{Grows, arc_cost, cost, missed, reached_from}
use Rattle.st_model.specs.Lists.{sum_to, total}
use Rattle.st_model.specs.Network.{Network, IsInstance, IsVertex, pays}
use Rattle.st_model.proofs.Costs.{turn, links_fit, missed_start, lone_start}
use Rattle.st_model.proofs.Judging.{grows_next}
use Rattle.st_model.proofs.ThinGrowth.{linked-vertices}

-- what the arcs so far cost besides a vertex alone, and what the vertices of the tree pay; the rest still grows
pub record Saves (I : Network) (start alone : ℕ) (arcs : List (ℕ × ℕ)) (i spent saved : ℕ) : Type 0 where
  pub spent_is : spent ≡ total (arc_cost I) (take i arcs) + pays I alone
  pub saved_is : saved + sum_to (missed I (reached_from (start ∷ []) (take i arcs))) I.n ≡ sum_to (pays I) I.n
  pub grows : Grows I (reached_from (start ∷ []) (take i arcs)) (drop i arcs)

-- one arc more
pub record Next (I : Network) (start alone : ℕ) (arcs : List (ℕ × ℕ)) (i spent saved : ℕ) : Type 0 where
  pub head : IsVertex I.n (get_or arcs i (0, 0)).1
  pub spent_fits : spent + arc_cost I (get_or arcs i (0, 0)) < 2 ^ 63
  pub saved_fits : saved + pays I (get_or arcs i (0, 0)).1 < 2 ^ 63
  pub saves : Saves I start alone arcs (i + 1) (spent + arc_cost I (get_or arcs i (0, 0))) (saved + pays I (get_or arcs i (0, 0)).1)

pub saves_next : (I : Network) (start alone : ℕ) (arcs : List (ℕ × ℕ)) (i spent saved : ℕ) → IsInstance I → IsVertex I.n alone → Grows I (start ∷ []) arcs → i < length arcs → Saves I start alone arcs i spent saved → Next I start alone arcs i spent saved
saves_next I start alone arcs i spent saved instance vertex all within s =
    let r = start ∷ [] in
    let first = s.spent_is in
    let last = s.saved_is in
    let t = turn I r arcs i (total (arc_cost I) (take i arcs)) (sum_to (missed I (reached_from r (take i arcs))) I.n) instance within refl refl s.grows in
    let links = t.links in
    let enough = t.enough in
    let left = t.missed in
    let fit = links_fit I r arcs (i + 1) instance all in
    let rest = missed_start I alone vertex in
    let next = (grows_next I r arcs i (0, 0) within).0 s.grows in
    record {
      head = (linked-vertices I (get_or arcs i (0, 0)).0 (get_or arcs i (0, 0)).1 instance next.0.linked).1;
      spent_fits = omega arith;
      saved_fits = omega arith;
      saves = record { spent_is = omega arith; saved_is = omega arith; grows = t.grows };
    }

-- at the end
pub saves_less : (I : Network) (t : Tree) (arcs : List (ℕ × ℕ)) (alone i spent saved : ℕ) → IsVertex I.n alone → arcs ≡ t.arcs → length arcs ≤ i → Saves I t.start alone arcs i spent saved → IsTrue (nat_lt spent saved) ↔ (cost I t < cost I (record { start = alone; arcs = [] }))
saves_less I t arcs alone i spent saved vertex same past s =
    let all = take_all i arcs past ∙ same in
    let first = s.spent_is in
    let last = s.saved_is in
    let links = ap (total (arc_cost I)) all in
    let left = ap (λ l. sum_to (missed I (reached_from (t.start ∷ []) l)) I.n) all in
    let whole : cost I t ≡ total (arc_cost I) t.arcs + sum_to (missed I (reached_from (t.start ∷ []) t.arcs)) I.n = refl in
    let one : Tree = record { start = alone; arcs = [] } in
    let rest = lone_start I one vertex refl in
    ends spent saved (cost I t) (cost I one) (sum_to (pays I) I.n) (pays I alone) (sum_to (missed I (reached_from (t.start ∷ []) t.arcs)) I.n) (total (arc_cost I) t.arcs) (omega arith) (omega arith) whole rest
  where
    ends : (a b x y all p m l : ℕ) → a ≡ l + p → b + m ≡ all → x ≡ l + m → y + p ≡ all → IsTrue (nat_lt a b) ↔ (x < y)
    ends a b x y all p m l e f g h = (λ less. (let under : a < b = grind (arith, nat_tests) in omega arith), λ less. (let under : a < b = omega arith in let yes : nat_lt a b ≡ true = grind (arith, nat_tests) in yes))
