-- A link goes: what is kept then.
use Rattle.std.proofs.Common.{◌≡◌, ℕ, ◌-◌, ◌≤◌, cond, List, get_or, None, sym, ap, subst, ◌∙◌, arith}
use Rattle.std.specs.Prelude.{IsTrue}
use Rattle.st_model.specs.declared.need.Need.{Need}
use Rattle.st_model.specs.declared.need.Need.TheVariants.{Required}
use Rattle.st_model.specs.Lists.{has}
use Rattle.st_model.specs.Network.{amount, link, need_of, is_needed, is_required}
use Rattle.st_model.proofs.Sums.{sum_to_same}
use Rattle.graph_store.specs.Changes.{RemovesLink}
use Rattle.graph_store.specs.Graph.{IsGraph, is_in}
use Rattle.lift_back.specs.declared.rest.Rest.{Rest}
use Rattle.lift_back.specs.Detours.{IsDetour}
use Rattle.lift_back.specs.Keeping.{count_to, state_of, IsKept}
use Rattle.lift_back.specs.Steps.{TakesDetour}
use Rattle.lift_back.proofs.KeptAfter.{absent_same, state_kept}
use Rattle.lift_back.proofs.PairLinks.{between_are}

-- no link is left between two vertices
pub record GoesLink (old new : Rest) (a b : ℕ) : Type 0 where
  pub removes : RemovesLink old.store new.store a b
  pub graph : IsGraph new.store
  pub left : new.left ≡ old.left
  pub required : new.required ≡ old.required
  pub offset : new.offset ≡ old.offset
  pub amount : amount new.store.network ≤ amount old.store.network

pub kept_but : (old new : Rest) (a b : ℕ) → IsKept old → GoesLink old new a b → IsKept new
kept_but old new a b kept goes = record {
  state = state_kept new goes.graph (λ w gone. same_need w ∙ kept.state.idle w (subst (λ (l : List ℕ). IsTrue (has l w)) (absent_same old.store new.store goes.removes.count goes.removes.present) gone)) (let all = kept.state.amount in let less = goes.amount in let same = goes.offset in omega arith);
  left = goes.left ∙ (kept.left ∙ (λ j. count_to (is_in (record { network = old.store.network; present = sym goes.removes.present j })) (sym goes.removes.count j)));
  required = goes.required ∙ (kept.required ∙ (sum_to_same (λ w. cond (is_required old.store.network w) 1 0) (λ w. cond (is_required new.store.network w) 1 0) old.store.network.n (λ w low high. ap (λ need. cond (is_needed need) 1 0) (sym (same_need w))) ∙ ap (count_to (is_required new.store.network)) (sym goes.removes.count)));
}
  where
    same_need : (w : ℕ) → need_of new.store.network w ≡ need_of old.store.network w
    same_need w = ap (λ (l : List Need). get_or l (w - 1) Required) goes.removes.needs

pub takes_detour : (old new : Rest) (a b : ℕ) (inner : List ℕ) → IsDetour old.store.network a b inner → GoesLink old new a b → TakesDetour (state_of old) (state_of new) a b inner
takes_detour old new a b inner detour goes = record {
  allowed = detour;
  becomes = record {
    count = goes.removes.count;
    linked = λ u w. goes.removes.links u w ∙ ap (λ p. cond p None (link old.store.network.links u w)) (between_are a b u w);
    needed = λ w vertex. ap (λ (l : List Need). get_or l (w - 1) Required) goes.removes.needs;
    left_out = λ w. ap (λ l. has l w) (absent_same old.store new.store goes.removes.count goes.removes.present);
    paid = goes.offset;
  };
}
