-- Lists of events keep what each event keeps, faults are exact, and a search that is done bounds every tree.
use Rattle.std.proofs.Common.{◌≡◌, ℕ, Bool, true, false, cond, List, [], ◌∷◌, Option, Some, None, refl, sym, ◌∙◌, ◌<◌, ◌≤◌, arith, subst, inl, inr}
use Rattle.std.specs.Prelude.{◌==◌, IfSome, nat_lt}
use Rattle.st_model.specs.Arborescence.{IsTree, cost}
use Rattle.st_model.specs.Branch.{Belongs}
use Rattle.st_model.specs.declared.branch.Branch.{Branch}
use Rattle.st_model.specs.Made.{AreApart}
use Rattle.st_model.specs.Network.{Network}
use Rattle.cut_packing.specs.declared.packing.Packing.{Packing}
use Rattle.cut_packing.specs.Packing.{weight}
use Rattle.search_core.specs.declared.made.Made.{Made}
use Rattle.search_core.specs.declared.event.Event.{Event}
use Rattle.search_core.specs.declared.done.End.TheVariants.{OpenZero, HaltSeen}
use Rattle.search_core.specs.declared.event.Event.TheVariants.{Claim, Split, Close, SeeOpen, SeeHalt}
use Rattle.search_core.specs.declared.event.EventFault.{EventFault}
use Rattle.search_core.specs.declared.event.EventFault.TheVariants.{BadPacking, TooLight}
use Rattle.search_core.specs.State.{State, beginning, held, seen}
use Rattle.search_core.specs.Needs.{IsPackingFault, IsSplitFault, IsCloseFault, early_fault}
use Rattle.search_core.specs.Steps.{Step, Run}
use Rattle.search_core.specs.Effects.{after, ended, granted, refused}
use Rattle.search_core.specs.Kept.{IsKept}
use Rattle.search_core.specs.Laws.{EventsKeep, AllowedHasNoFault, FaultIsOne, SettledBounds}
use Rattle.search_core.specs.Settled.{gathered}
use Rattle.search_core.proofs.Accounting.{nothing-waits, settled_complete}
use Rattle.search_core.proofs.Reading.{bounds_lem}
use Rattle.search_core.proofs.Keeping.{kept_after, kept_beginning}
use Rattle.search_core.proofs.Early.{split_early, up_early}

run_kept : (S : State) (es : List Event) (T : State) → IsKept S → Run S es T → IsKept T
run_kept S [] T kept run = subst (λ (U : State). IsKept U) (sym run) kept
run_kept S (e ∷ es) T kept (M, step, run) = run_kept M es T (step_kept step) run
  where
    step_kept : Step S e M → IsKept M
    step_kept (inl (allowed, is)) = subst (λ (U : State). IsKept U) (sym is) (kept_after S e kept allowed)
    step_kept (inr (f, fault, is)) = subst (λ (U : State). IsKept U) (sym is) kept

pub events_keep_lem : EventsKeep
events_keep_lem I R P workers budget start es S may run =
    run_kept (beginning I R P workers budget start) es S (kept_beginning I R P workers budget start may.instance may.node) run

-- of one instance, and of the same branch
record AreAlike (S T : State) : Type 0 where
  pub instance : T.instance ≡ S.instance
  pub branch : T.branch ≡ S.branch

after_alike : (S : State) (e : Event) → AreAlike S (after S e)
after_alike S (Claim w) = by_test (nat_lt S.claims S.budget)
  where
    by_test : (b : Bool) → AreAlike S (cond b (granted S w) (refused S w))
    by_test true = record { instance = refl; branch = refl }
    by_test false = record { instance = refl; branch = refl }
after_alike S (SeeOpen w) = by_test (S.opened == 0)
  where
    by_test : (b : Bool) → AreAlike S (cond b (ended S w OpenZero) S)
    by_test true = record { instance = refl; branch = refl }
    by_test false = record { instance = refl; branch = refl }
after_alike S (SeeHalt w) = by_test S.halted
  where
    by_test : (b : Bool) → AreAlike S (cond b (ended S w HaltSeen) S)
    by_test true = record { instance = refl; branch = refl }
    by_test false = record { instance = refl; branch = refl }
after_alike S _ = record { instance = refl; branch = refl }

run_alike : (S : State) (es : List Event) (T : State) → Run S es T → AreAlike S T
run_alike S [] T run = subst (λ (U : State). AreAlike S U) (sym run) (record { instance = refl; branch = refl })
run_alike S (e ∷ es) T (M, step, run) =
    let first = step_alike step in
    let rest = run_alike M es T run in
    record { instance = rest.instance ∙ first.instance; branch = rest.branch ∙ first.branch }
  where
    step_alike : Step S e M → AreAlike S M
    step_alike (inl (allowed, is)) = subst (λ (U : State). AreAlike S U) (sym is) (after_alike S e)
    step_alike (inr (f, fault, is)) = subst (λ (U : State). AreAlike S U) (sym is) (record { instance = refl; branch = refl })

pub settled_bounds_lem : SettledBounds
settled_bounds_lem I R P workers budget start es S t may run done tree belongs =
    let kept = events_keep_lem I R P workers budget start es S may run in
    let alike = run_alike (beginning I R P workers budget start) es S run in
    let mine : IsTree S.instance t = subst (λ (J : Network). IsTree J t) (sym alike.instance) tree in
    let apart : AreApart S.branch.must = subst (λ (B : Branch). AreApart B.must) (sym alike.branch) may.node.branch.must.apart in
    let member : Belongs S.branch t = subst (λ (B : Branch). Belongs B t) (sym alike.branch) belongs in
    subst (λ (J : Network). S.least ≤ cost J t) alike.instance (bounds_lem (gathered S) S.instance S.branch S.start S.budget t apart (settled_complete S kept done.settled) (nothing-waits S done.none_waits) mine member)

-- a packing that allows a split has no fault, and another has one
split_serves : (I : Network) (B : Branch) (P : Packing) (x : ℕ) (f : EventFault) → IsSplitFault I B P x None → IsSplitFault I B P x (Some f) → ⊥
split_serves I B P x BadPacking serves fails = fails serves
split_serves I B P x _ serves fails = fails

split_one : (I : Network) (B : Branch) (P : Packing) (x : ℕ) (f g : EventFault) → IsSplitFault I B P x (Some f) → IsSplitFault I B P x (Some g) → f ≡ g
split_one I B P x BadPacking BadPacking a b = refl
split_one I B P x BadPacking _ a b = absurd b
split_one I B P x _ g a b = absurd a

-- the same of a packing that closes
close_serves : (I : Network) (B : Branch) (P : Packing) (x : ℕ) (f : EventFault) → IsCloseFault I B P x None → IsCloseFault I B P x (Some f) → ⊥
close_serves I B P x BadPacking serves fails = fails serves.fits
close_serves I B P x TooLight serves fails = apart x (weight I B P) serves.weighs fails.1
  where
    apart : (a b : ℕ) → a ≤ b → b < a → ⊥
    apart a b h k = omega arith
close_serves I B P x _ serves fails = fails

close_one : (I : Network) (B : Branch) (P : Packing) (x : ℕ) (f g : EventFault) → IsCloseFault I B P x (Some f) → IsCloseFault I B P x (Some g) → f ≡ g
close_one I B P x BadPacking BadPacking a b = refl
close_one I B P x BadPacking TooLight a b = absurd (a b.0)
close_one I B P x TooLight BadPacking a b = absurd (b a.0)
close_one I B P x TooLight TooLight a b = refl
close_one I B P x BadPacking _ a b = absurd b
close_one I B P x TooLight _ a b = absurd b
close_one I B P x _ g a b = absurd a

-- what holds of the node in a hand where there is one
of_held : {P Q : Made → Type 0} {R : Type 0} (k : Option Made) (m : Made) → k ≡ Some m → ((m : Made) → P m → Q m → R) → IfSome k P → IfSome k Q → R
of_held None m e both p q = absurd cc
of_held (Some n) m e both p q = both n p q

some_fault : {R : Type 0} (f : EventFault) → Some f ≡ None → R
some_fault f h = absurd cc

serves_or_fails : (S : State) (e : Event) (f : EventFault) → early_fault S e ≡ None → IsPackingFault S e None → IsPackingFault S e (Some f) → ⊥
serves_or_fails S (Split w at i o P) f early serves fails =
    let h = split_early S w at i o P early in
    of_held (held S w) h.made h.held (λ m. split_serves S.instance m.node.branch P (seen S w) f) serves fails
serves_or_fails S (Close w P) f early serves fails =
    let h = up_early S w early in
    of_held (held S w) h.made h.held (λ m. close_serves S.instance m.node.branch P (seen S w) f) serves fails
serves_or_fails S _ f early serves fails = some_fault f fails

fails_once : (S : State) (e : Event) (f g : EventFault) → early_fault S e ≡ None → IsPackingFault S e (Some f) → IsPackingFault S e (Some g) → f ≡ g
fails_once S (Split w at i o P) f g early a b =
    let h = split_early S w at i o P early in
    of_held (held S w) h.made h.held (λ m. split_one S.instance m.node.branch P (seen S w) f g) a b
fails_once S (Close w P) f g early a b =
    let h = up_early S w early in
    of_held (held S w) h.made h.held (λ m. close_one S.instance m.node.branch P (seen S w) f g) a b
fails_once S _ f g early a b = some_fault f a

pub allowed_lem : AllowedHasNoFault
allowed_lem S e f allowed (inl early) = some_fault f (sym early ∙ allowed.early)
allowed_lem S e f allowed (inr (early, fails)) = serves_or_fails S e f early allowed.packing fails

pub one_lem : FaultIsOne
one_lem S e f g (inl a) (inl b) = let same : Some f ≡ Some g = sym a ∙ b in cc
one_lem S e f g (inl a) (inr (early, b)) = some_fault f (sym a ∙ early)
one_lem S e f g (inr (early, a)) (inl b) = some_fault g (sym b ∙ early)
one_lem S e f g (inr (early, a)) (inr (also, b)) = fails_once S e f g early a b
