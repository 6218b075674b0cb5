-- The workers of a team in their slots, as members of it.
use Rattle.std.proofs.Common.{◌≡◌, ℕ, Bool, suc, ◌+◌, List, [], ◌∷◌, ◌++◌, length, append-nil, Option, Some, None, refl, sym, ap, ◌∙◌, subst, length-append, append_assoc, arith}
use Rattle.std.specs.Prelude.{IfSome, map}
use Rattle.std.proofs.lemmas.List.{map-append, length-map}
use Rattle.st_model.specs.declared.branch.Branch.{Branch}
use Rattle.st_model.specs.Network.{Network}
use Rattle.search_core.specs.declared.gathered.Segment.{Segment}
use Rattle.worker_loop.specs.declared.team.Slot.{Slot}
use Rattle.worker_loop.specs.Run.{HasRun, Task}
use Rattle.worker_loop.specs.Slots.{AreSeated, HasRunIn, HaveRunIn, IsSeated, account_of, pass_of, segment_of, sight_of}
use Rattle.worker_loop.specs.Team.{HaveRun, Member, accounts, segments_of, sights}

-- what was made is all, where as many were made as there are
pub used_all : {A B : Type 0} (f : A → B) (made : List A) (rest all : List B) (n : ℕ) → map f made ++ rest ≡ all → length made ≡ n → length all ≡ n → map f made ≡ all
used_all f made [] all n e count wanted = sym (append-nil (map f made)) ∙ e
used_all f made (x ∷ rest) all n e count wanted =
    let whole : length (map f made ++ x ∷ rest) ≡ length all = ap (λ xs. length xs) e in
    let parts : length (map f made ++ x ∷ rest) ≡ length (map f made) + length (x ∷ rest) = length-append (map f made) (x ∷ rest) in
    let same : length (map f made) ≡ length made = length-map made f in
    absurd (omega arith)

-- one more is made of what comes next
pub made_of_next : {A B : Type 0} (f : A → B) (made after : List A) (x : A) (rest now all : List B) (y : B) → after ≡ made ++ x ∷ [] → rest ≡ y ∷ now → f x ≡ y → map f made ++ rest ≡ all
    → map f after ++ now ≡ all
made_of_next f made after x rest now all y grown next same before =
    ap (λ xs. map f xs ++ now) grown
    ∙ (ap (λ xs. xs ++ now) (map-append f made (x ∷ [])) ∙ (append_assoc (map f made) (f x ∷ []) now ∙ (ap (λ z. map f made ++ z ∷ now) same ∙ (ap (λ xs. map f made ++ xs) (sym next) ∙ before))))

-- and one more is taken apart
pub taken_of_next : {A B : Type 0} (f : A → B) (made after all : List B) (y : B) (x : A) (rest now : List A) → after ≡ made ++ y ∷ [] → rest ≡ x ∷ now → y ≡ f x → made ++ map f rest ≡ all
    → after ++ map f now ≡ all
taken_of_next f made after all y x rest now grown next same before =
    ap (λ xs. xs ++ map f now) grown ∙ (append_assoc made (y ∷ []) (map f now) ∙ (ap (λ z. made ++ z ∷ map f now) same ∙ (ap (λ xs. made ++ map f xs) (sym next) ∙ before)))

-- one more worker is seated
pub seated_push : {Q : Type 0} (workers : ℕ) (links : Bool) (seat : ℕ) (ss : List (Slot Q)) (s : Slot Q) → AreSeated workers links seat ss → IsSeated workers links (seat + length ss) s → AreSeated workers links seat (ss ++ s ∷ [])
seated_push workers links seat [] s all one = (subst (λ (k : ℕ). IsSeated workers links k s) (omega arith) one, tt)
seated_push workers links seat (b ∷ bs) s all one = (all.0, seated_push workers links (seat + 1) bs s all.1 (subst (λ (k : ℕ). IsSeated workers links k s) (omega arith) one))

abbrev pub members : {Q : Type 0} → List (Slot Q) → List (Slot Q) → List Segment → List Member
members [] as' ss = []
members (b ∷ bs) [] ss = []
members (b ∷ bs) (a ∷ as') [] = []
members (b ∷ bs) (a ∷ as') (s ∷ ss) = record { before = b.worker.pass; after = a.worker.pass; account = a.worker.ledger; sight = a.worker.best; segment = s } ∷ members bs as' ss

-- the slots of a team that ran are these members
pub record AreMembers {Q : Type 0} (I : Network) (R : Branch) (start workers seat : ℕ) (bs as' : List (Slot Q)) (ss : List Segment) : Type 0 where
  pub run : HaveRun I R start workers seat (members bs as' ss)
  pub before : map (λ (M : Member). M.before) (members bs as' ss) ≡ map pass_of bs
  pub after : map (λ (M : Member). M.after) (members bs as' ss) ≡ map pass_of as'
  pub accounts_are : accounts (members bs as' ss) ≡ map account_of as'
  pub sights_are : sights (members bs as' ss) ≡ map sight_of as'
  pub segments_are : segments_of (members bs as' ss) ≡ ss
  pub count : length (members bs as' ss) ≡ length bs

abbrev pub first_of : List (Option Segment) → Option Segment
first_of [] = None
first_of (x ∷ xs) = x

abbrev pub rest_of : List (Option Segment) → List (Option Segment)
rest_of [] = []
rest_of (x ∷ xs) = xs

-- a worker that ran in its seat has run
has_run : {Q : Type 0} {links : Bool} (I : Network) (R : Branch) (start workers seat : ℕ) (b a : Slot Q) (s : Segment) → IsSeated workers links seat b → HasRunIn I R start b a → Some s ≡ a.segment
    → (tasks : List Task) × HasRun I R start seat workers b.worker.pass a.worker.pass a.worker.ledger a.worker.best tasks s
has_run I R start workers seat b a s seated ran here =
    let r = subst (λ (o : Option Segment). IfSome o
    (λ s. (tasks : List Task) × HasRun I R start b.worker.seat b.worker.workers b.worker.pass a.worker.pass a.worker.ledger a.worker.best tasks s)) (sym here) ran.run in
    subst (λ (k : ℕ). (tasks : List Task) × HasRun I R start k workers b.worker.pass a.worker.pass a.worker.ledger a.worker.best tasks s) seated.seat_is
    (subst (λ (n : ℕ). (tasks : List Task) × HasRun I R start b.worker.seat n b.worker.pass a.worker.pass a.worker.ledger a.worker.best tasks s) seated.workers_are r)

pub are_members : {Q : Type 0} (I : Network) (R : Branch) (start workers : ℕ) (links : Bool) (seat : ℕ) (bs as' : List (Slot Q)) (ss : List Segment) → AreSeated workers links seat bs → length as' ≡ length bs
    → HaveRunIn I R start bs as'
    → map Some ss ≡ map segment_of as' → AreMembers I R start workers seat bs as' ss
are_members I R start workers links seat [] [] [] seated same ran found = record { run = tt; before = refl; after = refl; accounts_are = refl; sights_are = refl; segments_are = refl; count = refl }
are_members I R start workers links seat [] [] (s ∷ ss) seated same ran found = absurd (omega (arith, ap (λ (xs : List (Option Segment)). length xs) found))
are_members I R start workers links seat [] (a ∷ as') ss seated same ran found = absurd (omega arith)
are_members I R start workers links seat (b ∷ bs) [] ss seated same ran found = absurd (omega arith)
are_members I R start workers links seat (b ∷ bs) (a ∷ as') [] seated same ran found = absurd (omega (arith, ap (λ (xs : List (Option Segment)). length xs) found))
are_members I R start workers links seat (b ∷ bs) (a ∷ as') (s ∷ ss) seated same ran found =
    let h = are_members I R start workers links (seat + 1) bs as' ss seated.1 (omega arith) (λ k d lt. ran (suc k) d (omega arith)) (ap rest_of found) in
    let one : HasRunIn I R start b a = ran 0 b (omega arith) in
    record {
      run = (has_run I R start workers seat b a s seated.0 one (ap first_of found), h.run);
      before = ap (λ xs. b.worker.pass ∷ xs) h.before;
      after = ap (λ xs. a.worker.pass ∷ xs) h.after;
      accounts_are = ap (λ xs. a.worker.ledger ∷ xs) h.accounts_are;
      sights_are = ap (λ xs. a.worker.best ∷ xs) h.sights_are;
      segments_are = ap (λ xs. s ∷ xs) h.segments_are;
      count = ap suc h.count;
    }
