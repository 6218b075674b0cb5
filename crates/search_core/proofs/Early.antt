-- What is known where an event has no early fault.
use Rattle.std.proofs.Common.{◌≡◌, ℕ, ◌<◌, Bool, true, false, cond, not, ◌&&◌, ◌||◌, ◌==◌, length, Option, Some, None, refl, arith}
use Rattle.std.specs.Prelude.{nat_le, is_none, is_some}
use Rattle.std.proofs.lemmas.Bool.Decides.{nat_tests}
use Rattle.st_model.specs.declared.split_at.SplitAt.{SplitAt}
use Rattle.cut_packing.specs.declared.packing.Packing.{Packing}
use Rattle.search_core.specs.declared.event.Event.TheVariants.{Take, Pick, Give, Claim, See, Up, Split, Down, Keep}
use Rattle.search_core.specs.declared.event.EventFault.{EventFault}
use Rattle.search_core.specs.declared.made.Made.{Made}
use Rattle.search_core.specs.State.{State, made_as, hand, held}
use Rattle.search_core.specs.Needs.{early_fault, no_worker, is_queued, is_fresh, holds, is_claimed, up_waits, close_waits, can_split, is_used}

-- no test of two holds
pub both_pass : (b : Bool) (f : EventFault) (o : Option EventFault) → cond b (Some f) o ≡ None → (b ≡ false) × (o ≡ None)
both_pass true f o h = absurd cc
both_pass false f o h = (refl, h)

pub unless_not : (b : Bool) → not b ≡ false → b ≡ true
unless_not true h = refl
unless_not false h = absurd cc

pub none_there : {X : Type 0} (o : Option X) → is_some o ≡ false → o ≡ None
none_there None h = refl
none_there (Some x) h = absurd cc

pub some_there : {X : Type 0} (o : Option X) → is_none o ≡ false → (x : X) × (o ≡ Some x)
some_there None h = absurd cc
some_there (Some x) h = (x, refl)

neither : (a b : Bool) → a || b ≡ false → (a ≡ false) × (b ≡ false)
neither true b h = absurd cc
neither false b h = (refl, h)

pub worker_there : (S : State) (w : ℕ) → no_worker S w ≡ false → w < length S.workers
worker_there S w h = by_numbers w (length S.workers) h
  where
    by_numbers : (a b : ℕ) → nat_le b a ≡ false → a < b
    by_numbers a b h = grind (arith, nat_tests)

pub record TakeEarly (S : State) (w id : ℕ) : Type 0 where
  pub worker : w < length S.workers
  pub hand : hand S w ≡ None
  pub queued : is_queued S id ≡ true

pub take_early : (S : State) (w id : ℕ) → early_fault S (Take w id) ≡ None → TakeEarly S w id
take_early S w id h =
    let a = both_pass _ _ _ h in
    let b = both_pass _ _ _ a.1 in
    let d = both_pass _ _ _ b.1 in
    record { worker = worker_there S w a.0; hand = none_there (hand S w) b.0; queued = unless_not (is_queued S id) d.0 }

pub record PickEarly (S : State) (w id : ℕ) : Type 0 where
  pub worker : w < length S.workers
  pub hand : hand S w ≡ None
  pub fresh : is_fresh S w id ≡ true

pub pick_early : (S : State) (w id : ℕ) → early_fault S (Pick w id) ≡ None → PickEarly S w id
pick_early S w id h =
    let a = both_pass _ _ _ h in
    let b = both_pass _ _ _ a.1 in
    let d = both_pass _ _ _ b.1 in
    record { worker = worker_there S w a.0; hand = none_there (hand S w) b.0; fresh = unless_not (is_fresh S w id) d.0 }

pub record GiveEarly (S : State) (w id : ℕ) : Type 0 where
  pub worker : w < length S.workers
  pub fresh : is_fresh S w id ≡ true

pub give_early : (S : State) (w id : ℕ) → early_fault S (Give w id) ≡ None → GiveEarly S w id
give_early S w id h =
    let a = both_pass _ _ _ h in
    let d = both_pass _ _ _ a.1 in
    record { worker = worker_there S w a.0; fresh = unless_not (is_fresh S w id) d.0 }

pub record ClaimEarly (S : State) (w : ℕ) : Type 0 where
  pub worker : w < length S.workers
  pub made : Made
  pub held : held S w ≡ Some made
  pub unclaimed : is_claimed S w ≡ false

pub claim_early : (S : State) (w : ℕ) → early_fault S (Claim w) ≡ None → ClaimEarly S w
claim_early S w h =
    let a = both_pass _ _ _ h in
    let b = both_pass _ _ _ a.1 in
    let d = both_pass _ _ _ b.1 in
    let m = some_there (held S w) b.0 in
    record { worker = worker_there S w a.0; made = m.0; held = m.1; unclaimed = d.0 }

-- an up needs this, and a close
pub record UpEarly (S : State) (w : ℕ) : Type 0 where
  pub worker : w < length S.workers
  pub made : Made
  pub held : held S w ≡ Some made
  pub claimed : is_claimed S w ≡ true
  pub up : up_waits S w ≡ false

pub up_early : (S : State) (w : ℕ) → early_fault S (Up w) ≡ None → UpEarly S w
up_early S w h =
    let a = both_pass _ _ _ h in
    let b = both_pass _ _ _ a.1 in
    let d = both_pass _ _ _ b.1 in
    let e = both_pass _ _ _ d.1 in
    let m = some_there (held S w) b.0 in
    record { worker = worker_there S w a.0; made = m.0; held = m.1; claimed = unless_not (is_claimed S w) d.0; up = e.0 }

pub record SplitEarly (S : State) (w : ℕ) (at : SplitAt) (inside outside : ℕ) : Type 0 where
  pub worker : w < length S.workers
  pub made : Made
  pub held : held S w ≡ Some made
  pub up : up_waits S w ≡ true
  pub vertex : can_split S w at ≡ true
  pub apart : (inside == outside) ≡ false
  pub new_inside : made_as S inside ≡ None
  pub new_outside : made_as S outside ≡ None

pub split_early : (S : State) (w : ℕ) (at : SplitAt) (inside outside : ℕ) (P : Packing) → early_fault S (Split w at inside outside P) ≡ None → SplitEarly S w at inside outside
split_early S w at inside outside P h =
    let a = both_pass _ _ _ h in
    let b = both_pass _ _ _ a.1 in
    let d = both_pass _ _ _ b.1 in
    let e = both_pass _ _ _ d.1 in
    let g = both_pass _ _ _ e.1 in
    let m = some_there (held S w) b.0 in
    let n = neither ((inside == outside) || is_used S inside) (is_used S outside) g.0 in
    let k = neither (inside == outside) (is_used S inside) n.0 in
    record {
      worker = worker_there S w a.0;
      made = m.0;
      held = m.1;
      up = unless_not (up_waits S w) d.0;
      vertex = unless_not (can_split S w at) e.0;
      apart = k.0;
      new_inside = none_there (made_as S inside) k.1;
      new_outside = none_there (made_as S outside) n.1;
    }

pub record DownEarly (S : State) (w : ℕ) : Type 0 where
  pub worker : w < length S.workers
  pub close : close_waits S w ≡ true

pub down_early : (S : State) (w : ℕ) → early_fault S (Down w) ≡ None → DownEarly S w
down_early S w h =
    let a = both_pass _ _ _ h in
    let b = both_pass _ _ _ a.1 in
    record { worker = worker_there S w a.0; close = unless_not (close_waits S w) b.0 }

pub see_early : (S : State) (w : ℕ) → early_fault S (See w) ≡ None → w < length S.workers
see_early S w h = worker_there S w (both_pass _ _ _ h).0

pub record KeepEarly (S : State) (w id : ℕ) : Type 0 where
  pub worker : w < length S.workers
  pub there : is_fresh S w id || holds S w id ≡ true
  pub unclaimed : holds S w id ≡ true → is_claimed S w ≡ false

pub keep_early : (S : State) (w id : ℕ) → early_fault S (Keep w id) ≡ None → KeepEarly S w id
keep_early S w id h =
    let a = both_pass _ _ _ h in
    let b = both_pass _ _ _ a.1 in
    let d = both_pass (holds S w id && is_claimed S w) _ _ b.1 in
    record { worker = worker_there S w a.0; there = unless_not (is_fresh S w id || holds S w id) b.0; unclaimed = second (holds S w id) (is_claimed S w) d.0 }
  where
    second : (a b : Bool) → a && b ≡ false → a ≡ true → b ≡ false
    second true b h e = h
    second false b h e = absurd cc
