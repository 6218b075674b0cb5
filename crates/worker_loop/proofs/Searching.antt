-- What is gathered of a team that ran is a search.
use Rattle.std.proofs.Common.{◌≡◌, ℕ, Bool, Option, zero, suc, ◌+◌, ◌%◌, ◌^◌, ◌<◌, ◌≤◌, min, List, [], ◌∷◌, length, Some, refl, sym, ap, ◌∙◌, subst, arith}
use Rattle.std.specs.Prelude.{All, IfSome, map, slice_index_or}
use Rattle.std.specs.List.{flat_map, sum_by}
use Rattle.std.proofs.lemmas.List.Elements.{All-append, All-cons, All-head, All-nil, All-tail}
use Rattle.std.proofs.lemmas.List.{length-map}
use Rattle.st_model.specs.declared.branch.Branch.{Branch}
use Rattle.st_model.specs.Network.{Network}
use Rattle.cut_packing.specs.declared.packing.Packing.{Packing}
use Rattle.branching.specs.declared.node.Node.{Node}
use Rattle.incumbent.specs.Least.{least_of}
use Rattle.incumbent.specs.Seat.{Known as Sight, all_offers, fresh as new_sight}
use Rattle.open_ledger.specs.Seat.{Known as Account, downs_of, fresh as new_account, granted_of, halts_of, refused_of, sights_of, ups_of}
use Rattle.node_pool.specs.Laws.{PassesStayAPool}
use Rattle.node_pool.specs.Pool.{Station, AreAllPasses, SamePass, all_gave, all_took}
use Rattle.search_core.specs.State.{root_of}
use Rattle.search_core.specs.declared.gathered.Segment.{Segment}
use Rattle.worker_loop.specs.declared.team.Slot.{Slot}
use Rattle.worker_loop.specs.Progress.{IsUnused}
use Rattle.worker_loop.specs.Slots.{AreSeated, HasRunIn, HaveRunIn, IsSeated, account_of, pass_of, segment_of, sight_of}
use Rattle.worker_loop.specs.Run.{IsAllowed}
use Rattle.worker_loop.specs.Sound.{IsSound}
use Rattle.worker_loop.specs.Team.{IsCounted, IsLowest, IsPooled, IsSearched, Member, accounts, sights}
use Rattle.worker_loop.proofs.Members.{are_members, first_of, members, rest_of}
use Rattle.worker_loop.proofs.TeamSearch.{team_searches}

-- a worker with new seats is unused
pub unused_one : {Q : Type 0} {links : Bool} (L M : _) (allowed start workers seat : ℕ) (s : Slot Q) → 0 < workers → IsSeated workers links seat s → account_of s ≡ new_account L allowed → sight_of s ≡ new_sight M start
    → IsUnused start s.worker
unused_one L M allowed start workers seat s some seated account sight = record {
  some = subst (λ (n : ℕ). 0 < n) (sym seated.workers_are) some;
  next = seated.next ∙ ap (λ (k : ℕ). 1 + k) (sym seated.seat_is);
  account = subst (λ (u : Account). u ≡ new_account u.ledger u.tally.budget) (sym account) refl;
  sight = subst (λ (m : Sight). m ≡ new_sight m.incumbent start) (sym sight) refl;
}

pub all_unused : {Q : Type 0} (L M : _) (allowed start workers : ℕ) (links : Bool) (seat : ℕ) (bs : List (Slot Q)) → 0 < workers → AreSeated workers links seat bs → All (λ u. u ≡ new_account L allowed) (map account_of bs)
    → All (λ m. m ≡ new_sight M start) (map sight_of bs) → All (λ s. IsUnused start s.worker) bs
all_unused L M allowed start workers links seat [] some seated accounts sights = All-nil (λ s. IsUnused start s.worker)
all_unused {Q} L M allowed start workers links seat (b ∷ bs) some seated accounts sights =
    let F : Account → Type 0 = λ u. u ≡ new_account L allowed in
    let G : Sight → Type 0 = λ m. m ≡ new_sight M start in
    All-cons (λ (s : Slot Q). IsUnused start s.worker) b bs
    (unused_one L M allowed start workers seat b some seated.0 (All-head F (account_of b) (map account_of bs) accounts) (All-head G (sight_of b) (map sight_of bs) sights))
    (all_unused L M allowed start workers links (seat + 1) bs some seated.1 (All-tail F (account_of b) (map account_of bs) accounts) (All-tail G (sight_of b) (map sight_of bs) sights))

-- they are of the same ledger and the same incumbent when they have run
pub same_ledgers : {Q : Type 0} (I : Network) (R : Branch) (start : ℕ) (L : _) (allowed : ℕ) (bs as' : List (Slot Q)) → length as' ≡ length bs → HaveRunIn I R start bs as'
    → All (λ u. u ≡ new_account L allowed) (map account_of bs) → All (λ u. u.ledger ≡ L) (map account_of as')
same_ledgers I R start L allowed bs [] same ran new = All-nil (λ (u : Account). u.ledger ≡ L)
same_ledgers I R start L allowed [] (a ∷ as') same ran new = absurd (omega arith)
same_ledgers I R start L allowed (b ∷ bs) (a ∷ as') same ran new =
    let F : Account → Type 0 = λ u. u ≡ new_account L allowed in
    let one : HasRunIn I R start b a = ran 0 b (omega arith) in
    All-cons (λ (u : Account). u.ledger ≡ L) (account_of a) (map account_of as') (one.same.ledger ∙ ap (λ (u : Account). u.ledger) (All-head F (account_of b) (map account_of bs) new))
    (same_ledgers I R start L allowed bs as' (omega arith) (λ k d lt. ran (suc k) d (omega arith)) (All-tail F (account_of b) (map account_of bs) new))

pub same_incumbents : {Q : Type 0} (I : Network) (R : Branch) (start : ℕ) (M : _) (bs as' : List (Slot Q)) → length as' ≡ length bs → HaveRunIn I R start bs as'
    → All (λ m. m ≡ new_sight M start) (map sight_of bs) → All (λ m. m.incumbent ≡ M) (map sight_of as')
same_incumbents I R start M bs [] same ran new = All-nil (λ (m : Sight). m.incumbent ≡ M)
same_incumbents I R start M [] (a ∷ as') same ran new = absurd (omega arith)
same_incumbents I R start M (b ∷ bs) (a ∷ as') same ran new =
    let G : Sight → Type 0 = λ m. m ≡ new_sight M start in
    let one : HasRunIn I R start b a = ran 0 b (omega arith) in
    All-cons (λ (m : Sight). m.incumbent ≡ M) (sight_of a) (map sight_of as') (one.same.best ∙ ap (λ (m : Sight). m.incumbent) (All-head G (sight_of b) (map sight_of bs) new))
    (same_incumbents I R start M bs as' (omega arith) (λ k d lt. ran (suc k) d (omega arith)) (All-tail G (sight_of b) (map sight_of bs) new))

-- and their passes are the same
pub same_passes : {Q : Type 0} (I : Network) (R : Branch) (start : ℕ) (bs as' : List (Slot Q)) → length as' ≡ length bs → HaveRunIn I R start bs as'
    → (k : ℕ) (d : Station) → k < length (map pass_of bs) → SamePass (slice_index_or (map pass_of bs) k d) (slice_index_or (map pass_of as') k d)
same_passes I R start [] as' same ran k d lt = absurd (omega arith)
same_passes I R start (b ∷ bs) [] same ran k d lt = absurd (omega arith)
same_passes I R start (b ∷ bs) (a ∷ as') same ran zero d lt = let one : HasRunIn I R start b a = ran 0 b (omega arith) in one.same.pass
same_passes I R start (b ∷ bs) (a ∷ as') same ran (suc k) d lt = same_passes I R start bs as' (omega arith) (λ j e less. ran (suc j) e (omega arith)) k d (omega arith)

-- so they are all passes of the pool still
pub still_a_pool : {Q : Type 0} (I : Network) (R : Branch) (start : ℕ) (bs as' : List (Slot Q)) (before after : List Station) → PassesStayAPool → length as' ≡ length bs
    → HaveRunIn I R start bs as'
    → map pass_of bs ≡ before → after ≡ map pass_of as' → AreAllPasses before → AreAllPasses after
still_a_pool I R start bs as' before after law same ran was is all =
    subst AreAllPasses (sym is)
    (law (map pass_of bs) (map pass_of as') (subst AreAllPasses (sym was) all) (length-map as' pass_of ∙ (same ∙ sym (length-map bs pass_of))) (same_passes I R start bs as' same ran))

-- what a ledger came to, which allowed so many claims
pub record IsTotal (allowed : ℕ) (us : List Account) (opened claimed : ℕ) : Type 0 where
  pub opens : (opened + downs_of us) % 2 ^ 64 ≡ (1 + ups_of us) % 2 ^ 64
  pub idle : All (λ (u : Account). u.tally.busy ≡ 0) us → opened ≡ 0
  pub claims : claimed ≡ granted_of us
  pub within : claimed ≡ min allowed (granted_of us + refused_of us)
  pub halts : 0 < sights_of us → 0 < halts_of us

-- where less was claimed than a ledger counts, the budget itself bounds the claims
same_budget : (budget allowed claimed sum : ℕ) → allowed ≡ min budget 9223372036854775807 → (claimed ≡ 9223372036854775807 → ⊥) → claimed ≡ min allowed sum → claimed ≡ min budget sum
same_budget budget allowed claimed sum is fewer within = omega arith

-- the pool, the ledger and the incumbent of a team that ran
pub record IsClosedTeam {Q : Type 0} (I : Network) (R : Branch) (P : Packing) (start allowed workers : ℕ) (bs as' : List (Slot Q)) (queued : List Node) (least opened claimed : ℕ) : Type 0 where
  pub root : (h : Node → ℕ) → all_gave h (map pass_of bs) ≡ all_took h (map pass_of bs) + h (root_of R P)
  pub left : (h : Node → ℕ) → all_gave h (map pass_of as') ≡ all_took h (map pass_of as') + sum_by h queued
  pub sound : All (IsSound I R) queued
  pub few : length queued < 2 ^ 63
  pub total : IsTotal allowed (map account_of as') opened claimed
  pub is_least : least ≡ least_of start (all_offers (map sight_of as'))
  pub seen : All (λ (m : Sight). least ≤ m.lowest) (map sight_of as')

-- where no worker splits a node at a link that may not, no record of the team tells of such a split
pub sites_all : {Q : Type 0} (I : Network) (R : Branch) (start workers : ℕ) (links : Bool) (seat : ℕ) (bs as' : List (Slot Q)) (ss : List Segment) → AreSeated workers links seat bs → length as' ≡ length bs
    → HaveRunIn I R start bs as' → map Some ss ≡ map segment_of as' → All (IsAllowed links) (flat_map (λ s. s.done) ss)
sites_all I R start workers links seat bs as' [] seated same ran found = All-nil (IsAllowed links)
sites_all I R start workers links seat [] [] (s ∷ ss) seated same ran found = absurd (omega (arith, ap (λ (xs : List (Option Segment)). length xs) found))
sites_all I R start workers links seat [] (a ∷ as') (s ∷ ss) seated same ran found = absurd (omega arith)
sites_all I R start workers links seat (b ∷ bs) [] (s ∷ ss) seated same ran found = absurd (omega arith)
sites_all I R start workers links seat (b ∷ bs) (a ∷ as') (s ∷ ss) seated same ran found =
    let one : HasRunIn I R start b a = ran 0 b (omega arith) in
    let here = subst (λ (o : Option Segment). IfSome o (λ t. All (IsAllowed b.worker.links) t.done)) (sym (ap first_of found)) one.sites in
    All-append (IsAllowed links) s.done (flat_map (λ t. t.done) ss) (subst (λ (l : Bool). All (IsAllowed l) s.done) seated.0.links_are here)
    (sites_all I R start workers links (seat + 1) bs as' ss seated.1 (omega arith) (λ k d lt. ran (suc k) d (omega arith)) (ap rest_of found))

pub searched_so : {Q : Type 0} (I : Network) (R : Branch) (P : Packing) (start budget allowed workers : ℕ) (links : Bool) (bs as' : List (Slot Q)) (ss : List Segment) (queued : List Node) (least opened claimed : ℕ)
    → workers ≤ 64 → length bs ≡ workers → length as' ≡ length bs → AreSeated workers links 0 bs → HaveRunIn I R start bs as' → map Some ss ≡ map segment_of as'
    → allowed ≡ min budget 9223372036854775807 → (claimed ≡ 9223372036854775807 → ⊥)
    → IsClosedTeam I R P start allowed workers bs as' queued least opened claimed
    → IsSearched (record { segments = ss; queued = queued; least = least; claimed = claimed }) I R start budget
searched_so I R P start budget allowed workers links bs as' ss queued least opened claimed few count same seated ran found is_allowed fewer h =
    let t = are_members I R start workers links 0 bs as' ss seated same ran found in
    let team : List Member = members bs as' ss in
    let pooled : IsPooled I R P team queued = record {
      root = λ w. subst (λ (ps : List Station). all_gave w ps ≡ all_took w ps + w (root_of R P)) (sym t.before) (h.root w);
      left = λ w. subst (λ (ps : List Station). all_gave w ps ≡ all_took w ps + sum_by w queued) (sym t.after) (h.left w);
      sound = h.sound;
      few = h.few;
    } in
    let total : IsTotal allowed (accounts team) opened claimed = subst (λ (us : List Account). IsTotal allowed us opened claimed) (sym t.accounts_are) h.total in
    let counted : IsCounted budget team opened claimed = record {
      opens = total.opens;
      idle = total.idle;
      claims = total.claims;
      within = same_budget budget allowed claimed (granted_of (accounts team) + refused_of (accounts team)) is_allowed fewer total.within;
      halts = total.halts;
    } in
    let lowest : IsLowest start team least = record {
      is_least = subst (λ (ms : List Sight). least ≡ least_of start (all_offers ms)) (sym t.sights_are) h.is_least;
      seen = subst (λ (ms : List Sight). All (λ (m : Sight). least ≤ m.lowest) ms) (sym t.sights_are) h.seen;
    } in
    subst (λ (xs : List Segment). IsSearched (record { segments = xs; queued = queued; least = least; claimed = claimed }) I R start budget) t.segments_are
    (team_searches I R P start budget workers team queued least opened claimed (t.count ∙ count) few t.run pooled counted lowest)
