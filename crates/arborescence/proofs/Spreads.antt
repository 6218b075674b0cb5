-- A walk that keeps the arc by which each vertex was reached.
use Rattle.std.proofs.Common.{◌≡◌, ℕ, ◌+◌, ◌<◌, List, [], ◌∷◌, ◌++◌, length, get_or, take, refl, sym, subst, ◌∙◌}
use Rattle.std.specs.Prelude.{◌==◌, IsTrue, IsFalse, if◌then◌else◌}
use Rattle.std.proofs.Math.Bool.{or_comm}
use Rattle.std.proofs.lemmas.Bool.{or_left}
use Rattle.std.proofs.lemmas.List.Folds.{list_any-append}
use Rattle.st_model.specs.Arborescence.{reached_from}
use Rattle.st_model.specs.Led.{heads_at}
use Rattle.st_model.specs.Lists.{has}
use Rattle.st_model.specs.VertexSet.{Extends}
use Rattle.st_model.proofs.Judging.{reached_from-append}
use Rattle.st_model.proofs.Extending.{Extends-insert}
use Rattle.st_model.proofs.Marked.{has-push, has_at}
use Rattle.arborescence.specs.declared.spreading.Spread.{Spread}
use Rattle.arborescence.specs.Open.{GrowsAlong, IsSpread}

-- arcs go on growing by one from a vertex that is reached to one that isn't
pub GrowsAlong-push : (heads : List (List ℕ)) (r : List ℕ) (arcs : List (ℕ × ℕ)) (u v : ℕ) → GrowsAlong heads r arcs → IsTrue (has (heads_at heads u) v) → IsTrue (has (reached_from r arcs) u) → IsFalse (has (reached_from r arcs) v) → GrowsAlong heads r (arcs ++ (u, v) ∷ [])
GrowsAlong-push heads r [] u v g listed old new = (listed, old, new, tt)
GrowsAlong-push heads r (arc ∷ arcs) u v g listed old new = (g.0, g.1, g.2, GrowsAlong-push heads (arc.1 ∷ r) arcs u v g.3 listed old new)

-- one vertex more is reached
pub IsSpread-push : (heads : List (List ℕ)) (root tail head : ℕ) (s t : Spread) → IsSpread heads root s → IsTrue (has (heads_at heads tail) head) → IsTrue (has s.reached.members tail) → IsFalse (has s.reached.members head) → t.arcs.items ≡ s.arcs.items ++ (tail, head) ∷ [] → t.reached.members ≡ s.reached.members ++ head ∷ [] → t.reached.count ≡ s.reached.count → IsSpread heads root t
IsSpread-push heads root tail head s t is listed old new arcs members count = record {
  grows = rw arcs (GrowsAlong-push heads (root ∷ []) s.arcs.items tail head is.grows listed (sym (is.same tail) ∙ old) (sym (is.same head) ∙ new));
  same = λ v. rw (arcs, members, has-push s.reached.members head v, reached_from-append (root ∷ []) s.arcs.items ((tail, head) ∷ []), is.same v) (or_comm (has (reached_from (root ∷ []) s.arcs.items) v) (head == v));
  count = count ∙ is.count;
}

-- what was a member still is
pub Extends-kept : (old new xs : List ℕ) (v : ℕ) → Extends old new xs → IsTrue (has old v) → IsTrue (has new v)
Extends-kept old new xs v e held = rw (e.appended, list_any-append (λ x. x == v) old e.more) (or_left (has old v) _ held)

-- the members of a walk, when heads are reached from a tail one after another
pub record IsReaching (heads : List (List ℕ)) (root : ℕ) (first xs : List ℕ) (i : ℕ) (s : Spread) : Type 0 where
  pub spread : IsSpread heads root s
  pub extends : Extends first s.reached.members (take i xs)

module _ (heads : List (List ℕ)) (root tail : ℕ) (first xs : List ℕ) (i : ℕ) (s t : Spread) (below : i < length xs) (listed : xs ≡ heads_at heads tail) (old : IsTrue (has first tail)) (is : IsReaching heads root first xs i s) where
  -- the next head is new
  pub reached_new : IsFalse (has s.reached.members (get_or xs i 0)) → t.arcs.items ≡ s.arcs.items ++ (tail, get_or xs i 0) ∷ [] → t.reached.members ≡ (if has s.reached.members (get_or xs i 0) then s.reached.members else s.reached.members ++ get_or xs i 0 ∷ []) → t.reached.count ≡ s.reached.count → IsReaching heads root first xs (i + 1) t
  reached_new new arcs members count = record {
    spread = IsSpread-push heads root tail (get_or xs i 0) s t is.spread (rw (← listed) (has_at xs i 0 below)) (Extends-kept first s.reached.members (take i xs) tail is.extends old) new arcs (rw new at members) count;
    extends = Extends-insert first s.reached.members t.reached.members xs i below is.extends members;
  }

  -- it was reached before
  pub reached_before : IsTrue (has s.reached.members (get_or xs i 0)) → t ≡ s → IsReaching heads root first xs (i + 1) t
  reached_before there same = subst (IsReaching heads root first xs (i + 1)) (sym same) (record {
    spread = is.spread;
    extends = Extends-insert first s.reached.members s.reached.members xs i below is.extends (rw there refl);
  })
