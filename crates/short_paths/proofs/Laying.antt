-- A tree that is laid out grows by one arc.
use Rattle.std.proofs.Common.{◌≡◌, ℕ, ◌+◌, false, cond, ◌||◌, [], ◌∷◌, ◌++◌, IsSome, sym, ap, subst, ◌∙◌, arith}
use Rattle.std.specs.Prelude.{◌==◌, IsTrue}
use Rattle.std.proofs.Math.Bool.{or_comm}
use Rattle.st_model.specs.Lists.{has}
use Rattle.st_model.specs.Network.{Network, IsVertex, link}
use Rattle.st_model.specs.Arborescence.{arc_cost, reached_from}
use Rattle.st_model.proofs.Judging.{reached_from-append}
use Rattle.st_model.proofs.Marked.{has-push}
use Rattle.st_model.proofs.Sums.{total-append}
use Rattle.st_model.proofs.ThinGrowth.{Grows-push}
use Rattle.short_paths.specs.declared.laid.Laid.{Laid}
use Rattle.short_paths.specs.Laid.{IsLaid, spent}

pub pushed : (I : Network) (old new : Laid) (tail head : ℕ) → IsLaid I old → IsTrue (has old.reached.members tail) → IsSome (link I.links tail head) → has old.reached.members head ≡ false
    → new.start ≡ old.start → new.arcs.items ≡ old.arcs.items ++ (tail, head) ∷ [] → new.reached.members ≡ (cond (has old.reached.members head) old.reached.members (old.reached.members ++ head ∷ [])) → new.reached.count ≡ old.reached.count
    → IsLaid I new × (spent I new ≡ spent I old + arc_cost I (tail, head))
pushed I old new tail head l from linked fresh start arcs members count = (
  record {
    start = subst (IsVertex I.n) (sym start) l.start;
    grows = rw (start, arcs) (Grows-push I (old.start ∷ []) old.arcs.items tail head l.grows linked (sym (l.same tail) ∙ from) (sym (l.same head) ∙ fresh));
    same = same;
    count = count ∙ l.count;
  },
  cost,
)
  where
    longer : new.reached.members ≡ old.reached.members ++ head ∷ []
    longer = members ∙ ap (λ b. cond b old.reached.members (old.reached.members ++ head ∷ [])) fresh

    same : (v : ℕ) → has new.reached.members v ≡ has (reached_from (new.start ∷ []) new.arcs.items) v
    same v =
        let left : has new.reached.members v ≡ (has old.reached.members v || (head == v)) = rw longer (has-push old.reached.members head v) in
        let right : has (reached_from (new.start ∷ []) new.arcs.items) v ≡ ((head == v) || has (reached_from (old.start ∷ []) old.arcs.items) v) = rw (start, arcs) (ap (λ r. has r v) (reached_from-append (old.start ∷ []) old.arcs.items ((tail, head) ∷ []))) in
        left ∙ (ap (λ b. b || (head == v)) (l.same v) ∙ (or_comm (has (reached_from (old.start ∷ []) old.arcs.items) v) (head == v) ∙ sym right))

    cost : spent I new ≡ spent I old + arc_cost I (tail, head)
    cost = let sum = total-append (arc_cost I) old.arcs.items ((tail, head) ∷ []) in rw arcs (omega (arith, sum))
