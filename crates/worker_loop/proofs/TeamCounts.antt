-- What a team's ledger counts: a claim for each record, and nodes wait only where the budget was spent.
use Rattle.std.proofs.Common.{◌≡◌, ℕ, zero, suc, ◌+◌, ◌*◌, ◌%◌, ◌^◌, ◌<◌, ◌≤◌, min, List, [], ◌∷◌, ◌++◌, length, map, refl, sym, subst, ◌⊎◌, inl, inr, length-append, arith}
use Rattle.std.specs.Prelude.{All}
use Rattle.std.specs.List.{flat_map, sum_by}
use Rattle.std.proofs.lemmas.List.Elements.{All-cons, All-nil}
use Rattle.std.proofs.lemmas.List.Sums.{sum_by-append, sum_by-cons}
use Rattle.st_model.specs.declared.branch.Branch.{Branch}
use Rattle.st_model.specs.Network.{Network}
use Rattle.cut_packing.specs.declared.packing.Packing.{Packing}
use Rattle.branching.specs.declared.node.Node.{Node}
use Rattle.open_ledger.specs.Seat.{Known, ups_of, downs_of, granted_of, refused_of, halts_of, sights_of}
use Rattle.search_core.specs.declared.done.Done.{Done}
use Rattle.search_core.specs.declared.done.Done.TheVariants.{Split, Close}
use Rattle.search_core.specs.declared.done.End.{End}
use Rattle.search_core.specs.declared.done.End.TheVariants.{OpenZero, ClaimRefused, HaltSeen}
use Rattle.worker_loop.specs.Run.{IsEnding, Task, closes, done_of, halves_by, halves_of, node_of, splits}
use Rattle.worker_loop.specs.Team.{HaveRun, IsCounted, IsPooled, Member, accounts}
use Rattle.worker_loop.proofs.TeamNodes.{IsAccounted}
use Rattle.worker_loop.proofs.Teams.{accounted, done_by, left_by, records_are, tasks_of}

-- 1 for each node
abbrev each : Node → ℕ
each N = 1

nodes_number : (Ns : List Node) → sum_by each Ns ≡ length Ns
nodes_number [] = refl
nodes_number (N ∷ Ns) = omega (arith, sum_by-cons each N Ns, nodes_number Ns)

one_each : (d : Done) → splits d + closes d ≡ 1
one_each (Split id at i o P) = refl
one_each (Close id P) = refl

-- each task has one node, and a split makes two
tasks_number : (tasks : List Task) → sum_by each (map node_of tasks) ≡ sum_by splits (map done_of tasks) + sum_by closes (map done_of tasks)
tasks_number [] = refl
tasks_number (T ∷ Ts) =
    omega (arith, one_each T.done, tasks_number Ts, sum_by-cons each T.node (map node_of Ts), sum_by-cons splits T.done (map done_of Ts), sum_by-cons closes T.done (map done_of Ts))

two_halves : (B : Branch) (d : Done) → sum_by each (halves_by B d) ≡ 2 * splits d
two_halves B (Split id at i o P) = refl
two_halves B (Close id P) = refl

halves_number : (tasks : List Task) → sum_by each (flat_map halves_of tasks) ≡ 2 * sum_by splits (map done_of tasks)
halves_number [] = refl
halves_number (T ∷ Ts) = omega (arith, two_halves T.node.branch T.done, halves_number Ts, sum_by-append each (halves_of T) (flat_map halves_of Ts), sum_by-cons splits T.done (map done_of Ts))

-- one node more than the splits was closed or waits
nodes_left : (R : Branch) (P : Packing) (tasks : List Task) (waiting : List Node) → IsAccounted R P tasks waiting → 1 + sum_by splits (map done_of tasks) ≡ sum_by closes (map done_of tasks) + length waiting
nodes_left R P tasks waiting accounted = omega (arith, accounted each, tasks_number tasks, halves_number tasks, nodes_number waiting)

-- where there is none of what a thing needs, there is none of the thing
not_without : (a b : ℕ) → (0 < a → 0 < b) → b ≡ 0 → a ≡ 0
not_without zero b needs none = refl
not_without (suc a) b needs none = absurd (omega (arith, none, needs (omega arith)))

module _ (I : Network) (R : Branch) (start workers : ℕ) where
  pub ups_are : (seat : ℕ) (team : List Member) → HaveRun I R start workers seat team → ups_of (accounts team) ≡ sum_by splits (done_by team)
  ups_are seat [] ran = refl
  ups_are seat (M ∷ Ms) ran =
      omega (arith, ran.0.1.ups, ups_are (seat + 1) Ms ran.1, sum_by-cons (λ (s : Known). s.tally.ups) M.account (accounts Ms), sum_by-append splits M.segment.done (done_by Ms))

  pub downs_are : (seat : ℕ) (team : List Member) → HaveRun I R start workers seat team → downs_of (accounts team) ≡ sum_by closes (done_by team)
  downs_are seat [] ran = refl
  downs_are seat (M ∷ Ms) ran =
      omega (arith, ran.0.1.downs, downs_are (seat + 1) Ms ran.1, sum_by-cons (λ (s : Known). s.tally.downs) M.account (accounts Ms), sum_by-append closes M.segment.done (done_by Ms))

  -- each claim that was granted went to a record
  pub granted_are : (seat : ℕ) (team : List Member) → HaveRun I R start workers seat team → granted_of (accounts team) ≡ length (done_by team)
  granted_are seat [] ran = refl
  granted_are seat (M ∷ Ms) ran =
      omega (arith, ran.0.1.granted, granted_are (seat + 1) Ms ran.1, sum_by-cons (λ (s : Known). s.tally.granted) M.account (accounts Ms), length-append M.segment.done (done_by Ms))

  -- each left one node at most
  few_left : (seat : ℕ) (team : List Member) → HaveRun I R start workers seat team → length (left_by team) ≤ length team
  few_left seat [] ran = omega arith
  few_left seat (M ∷ Ms) ran = omega (arith, ran.0.1.few, few_left (seat + 1) Ms ran.1, length-append M.segment.left (left_by Ms))

  -- where no claim was refused nobody halted
  none_halted : (seat : ℕ) (team : List Member) → HaveRun I R start workers seat team → refused_of (accounts team) ≡ 0 → halts_of (accounts team) ≡ 0
  none_halted seat [] ran none = refl
  none_halted seat (M ∷ Ms) ran none =
      let sum = sum_by-cons (λ (s : Known). s.tally.refused) M.account (accounts Ms) in
      let first : M.account.tally.halts ≡ 0 = not_without _ M.account.tally.refused ran.0.1.halted (omega (arith, none, sum)) in
      omega (arith, first, none_halted (seat + 1) Ms ran.1 (omega (arith, none, sum)), sum_by-cons (λ (s : Known). s.tally.halts) M.account (accounts Ms))

  -- each ended since it saw that nothing was open
  abbrev AreIdle : List Member → Type 0
  AreIdle team = All (λ (u : Known). u.tally.busy ≡ 0) (accounts team)

  -- so it is where nobody saw a halt either
  ended_open : (end : End) (u : Known) → IsEnding end u → u.tally.refused ≡ 0 → u.tally.sights ≡ 0 → u.tally.busy ≡ 0
  ended_open OpenZero u h none unseen = h
  ended_open ClaimRefused u h none unseen = absurd (omega (arith, h, none))
  ended_open HaltSeen u h none unseen = absurd (omega (arith, h, unseen))

  all_idle : (seat : ℕ) (team : List Member) → HaveRun I R start workers seat team → refused_of (accounts team) ≡ 0 → sights_of (accounts team) ≡ 0 → AreIdle team
  all_idle seat [] ran none unseen = All-nil (λ (u : Known). u.tally.busy ≡ 0)
  all_idle seat (M ∷ Ms) ran none unseen =
      let refused = sum_by-cons (λ (s : Known). s.tally.refused) M.account (accounts Ms) in
      let seen = sum_by-cons (λ (s : Known). s.tally.sights) M.account (accounts Ms) in
      All-cons (λ (u : Known). u.tally.busy ≡ 0) M.account (accounts Ms) (ended_open M.segment.end M.account ran.0.1.ending (omega (arith, none, refused)) (omega (arith, unseen, seen)))
      (all_idle (seat + 1) Ms ran.1 (omega (arith, none, refused)) (omega (arith, unseen, seen)))

  -- where nothing is open nothing waits
  none_open : (ups downs opened left : ℕ) → opened ≡ 0 → (opened + downs) % 2 ^ 64 ≡ (1 + ups) % 2 ^ 64 → 1 + ups ≡ downs + left → left < 2 ^ 64 → left ≡ 0
  none_open ups downs opened left none same counts few = omega arith

  no_nodes : (Ns : List Node) → length Ns ≡ 0 → Ns ≡ []
  no_nodes [] h = refl
  no_nodes (N ∷ Ns) h = absurd (omega arith)

  none_waits : (P : Packing) (team : List Member) (queued : List Node) (budget opened claimed : ℕ) → HaveRun I R start workers 0 team → IsPooled I R P team queued
      → IsCounted budget team opened claimed → length team ≤ 64 → refused_of (accounts team) ≡ 0 → left_by team ++ queued ≡ []
  none_waits P team queued budget opened claimed ran pooled counted few none =
      let unseen : sights_of (accounts team) ≡ 0 = not_without _ _ counted.halts (none_halted 0 team ran none) in
      let open_none = counted.idle (all_idle 0 team ran none unseen) in
      let tasks = tasks_of I R start workers 0 team ran in
      let waiting = left_by team ++ queued in
      let left : 1 + sum_by splits (done_by team) ≡ sum_by closes (done_by team) + length waiting =
      subst (λ (ds : List Done). 1 + sum_by splits ds ≡ sum_by closes ds + length waiting) (sym (records_are I R start workers 0 team ran))
      (nodes_left R P tasks waiting (accounted I R start workers P team queued ran pooled)) in
      let counts : 1 + ups_of (accounts team) ≡ downs_of (accounts team) + length waiting = omega (arith, left, ups_are 0 team ran, downs_are 0 team ran) in
      let small : length waiting < 2 ^ 64 = omega (arith, length-append (left_by team) queued, few_left 0 team ran, few, pooled.few) in
      no_nodes waiting (none_open _ _ opened _ open_none counted.opens counts small)

  all_claimed : (budget granted refused claimed : ℕ) → claimed ≡ granted → claimed ≡ min budget (granted + refused) → 0 < refused → claimed ≡ budget
  all_claimed budget granted refused claimed a b c = omega arith

  -- nodes wait only where the whole budget was spent
  pub spent_so : (P : Packing) (team : List Member) (queued : List Node) (budget opened claimed : ℕ) → HaveRun I R start workers 0 team → IsPooled I R P team queued
      → IsCounted budget team opened claimed → length team ≤ 64 → (left_by team ++ queued ≡ []) ⊎ (claimed ≡ budget)
  spent_so P team queued budget opened claimed ran pooled counted few = by_case (refused_of (accounts team)) refl
    where
      by_case : (n : ℕ) → refused_of (accounts team) ≡ n → (left_by team ++ queued ≡ []) ⊎ (claimed ≡ budget)
      by_case zero e = inl (none_waits P team queued budget opened claimed ran pooled counted few e)
      by_case (suc n) e = inr (all_claimed budget (granted_of (accounts team)) (refused_of (accounts team)) claimed counted.claims counted.within (omega (arith, e)))
