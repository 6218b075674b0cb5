-- What a team did is a search.
use Rattle.std.proofs.Common.{◌≡◌, ℕ, ◌+◌, ◌≤◌, List, [], ◌∷◌, ◌++◌, length, map, refl, sym, subst, ◌∙◌, inl, inr, arith}
use Rattle.std.specs.Prelude.{All}
use Rattle.std.proofs.lemmas.List.Elements.{All-append, All-cons, All-head, All-nil, All-tail, All-weaker}
use Rattle.st_model.specs.declared.branch.Branch.{Branch}
use Rattle.st_model.specs.Network.{Network}
use Rattle.cut_packing.specs.declared.packing.Packing.{Packing}
use Rattle.log_format.specs.Text.{IsWritablePacking}
use Rattle.branching.specs.declared.node.Node.{Node}
use Rattle.incumbent.specs.Seat.{Known as Sight}
use Rattle.search_core.specs.declared.done.Done.{Done}
use Rattle.search_core.specs.declared.done.Done.TheVariants.{Split, Close}
use Rattle.search_core.specs.Complete.{AllPackings, IsComplete, IsFinished, IsMade, IsRightNode, IsRightRecord, IsRightSegment, done_id, done_packing, made_ids, times}
use Rattle.search_core.proofs.Ids.{Among}
use Rattle.worker_loop.specs.Run.{HasRun, IsDoneWith, IsTask, Task, done_of, node_of}
use Rattle.worker_loop.specs.Sound.{IsSound}
use Rattle.worker_loop.specs.Team.{HaveRun, IsCounted, IsLowest, IsPooled, Member, TeamSearches, gathered_of, segments_of, sights}
use Rattle.worker_loop.proofs.TeamCounts.{granted_are, spent_so}
use Rattle.worker_loop.proofs.TeamFinds.{cheaper_so, least_so, trees_so}
use Rattle.worker_loop.proofs.TeamIds.{given_once, stands_once}
use Rattle.worker_loop.proofs.TeamNodes.{keeps_weight, was_made}
use Rattle.worker_loop.proofs.Teams.{accounted, done_by, left_by, left_sound, records_are, tasks_of, tasks_right}
use Rattle.worker_loop.proofs.Weights.{all_among, among_left, among_map, among_right, each_among}

-- a right record of a node that was made
right_record : (I : Network) (R : Branch) (start seen : ℕ) (done : List Done) (N : Node) (d : Done) → done_id d ≡ N.id → IsDoneWith I start seen N d → IsMade R done N.id N.branch
    → IsRightRecord I R start done seen d
right_record I R start seen done N (Split id at i o P) same h made =
    (N.branch, record { made = subst (λ (a : ℕ). IsMade R done a N.branch) (sym same) made; vertex = h.place; packing = h.allows })
right_record I R start seen done N (Close id P) same h made =
    (N.branch, record { made = subst (λ (a : ℕ). IsMade R done a N.branch) (sym same) made; packing = h.closes })

-- a record that a log can hold
writable_record : (I : Network) (start seen : ℕ) (N : Node) (d : Done) → IsDoneWith I start seen N d → IsWritablePacking (done_packing d)
writable_record I start seen N (Split id at i o P) h = h.packed.writable
writable_record I start seen N (Close id P) h = h.writable

-- what holds of each holds of all that are made of them
all_mapped : {X Y : Type 0} (P : Y → Type 0) (f : X → Y) (xs : List X) → ((x : X) → Among xs x → P (f x)) → All P (map f xs)
all_mapped P f [] each = All-nil P
all_mapped P f (x ∷ xs) each = All-cons P (f x) (map f xs) (each x (inl refl)) (all_mapped P f xs (λ y there. each y (inr there)))

module _ (I : Network) (R : Branch) (start workers : ℕ) where
  -- what a worker did is right where all its nodes were made
  right_segment : (least : ℕ) (done : List Done) (M : Member) (tasks : List Task) (seat : ℕ) → HasRun I R start seat workers M.before M.after M.account M.sight tasks M.segment
      → ((T : Task) → Among tasks T → IsMade R done T.node.id T.node.branch) → least ≤ M.sight.lowest → IsRightSegment I R start least done M.segment
  right_segment least done M tasks seat ran made low =
      let seen = M.segment.seen in
      let rights : All (IsRightRecord I R start done seen) (map done_of tasks) = all_mapped (IsRightRecord I R start done seen) done_of tasks (λ T there.
      let task = each_among (IsTask I R start seen) tasks ran.tasks_right T there in
      right_record I R start seen done T.node T.done task.same task.done_right (made T there)) in
      record { records = subst (All (IsRightRecord I R start done seen)) (sym ran.records) rights; seen = subst (λ (x : ℕ). least ≤ x) ran.seen low }

  right_segments : (least : ℕ) (done : List Done) (seat : ℕ) (team : List Member) (ran : HaveRun I R start workers seat team)
      → ((T : Task) → Among (tasks_of I R start workers seat team ran) T → IsMade R done T.node.id T.node.branch) → All (λ (s : Sight). least ≤ s.lowest) (sights team)
      → All (IsRightSegment I R start least done) (segments_of team)
  right_segments least done seat [] ran made low = All-nil (IsRightSegment I R start least done)
  right_segments least done seat (M ∷ Ms) ran made low =
      let rest = tasks_of I R start workers (seat + 1) Ms ran.1 in
      All-cons (IsRightSegment I R start least done) M.segment (segments_of Ms)
      (right_segment least done M ran.0.0 seat ran.0.1 (λ T there. made T (among_left ran.0.0 rest T there)) (All-head (λ (s : Sight). least ≤ s.lowest) M.sight (sights Ms) low))
      (right_segments least done (seat + 1) Ms ran.1 (λ T there. made T (among_right ran.0.0 rest T there)) (All-tail (λ (s : Sight). least ≤ s.lowest) M.sight (sights Ms) low))

  -- each node that waits is sound
  waiting_sound : (P : Packing) (team : List Member) (queued : List Node) → HaveRun I R start workers 0 team → IsPooled I R P team queued → All (IsSound I R) (left_by team ++ queued)
  waiting_sound P team queued ran pooled = All-append (IsSound I R) (left_by team) queued (left_sound I R start workers 0 team ran) pooled.sound

  complete_so : (P : Packing) (budget : ℕ) (team : List Member) (queued : List Node) (least opened claimed : ℕ) → length team ≤ workers → HaveRun I R start workers 0 team
      → IsPooled I R P team queued → IsCounted budget team opened claimed → IsLowest start team least → IsComplete (gathered_of team queued least claimed) I R start budget
  complete_so P budget team queued least opened claimed few ran pooled counted lowest =
      let tasks = tasks_of I R start workers 0 team ran in
      let waiting = left_by team ++ queued in
      let right = tasks_right I R start workers 0 team ran in
      let all = accounted I R start workers P team queued ran pooled in
      let records = records_are I R start workers 0 team ran in
      let sound = waiting_sound P team queued ran pooled in
      let made : (T : Task) → Among tasks T → IsMade R (done_by team) T.node.id T.node.branch = λ T there.
      subst (λ (ds : List Done). IsMade R ds T.node.id T.node.branch) (sym records) (was_made I R P start tasks waiting T.node right all (inl (among_map node_of tasks T there))) in
      let nodes : All (IsRightNode I R (map done_of tasks)) waiting = all_among (IsRightNode I R (map done_of tasks)) waiting (λ N there. record {
        made = was_made I R P start tasks waiting N right all (inr there);
        fits = (each_among (IsSound I R) waiting sound N there).node.node.fits;
        keeps = keeps_weight I R P start tasks waiting N right all there;
      }) in
      record {
        apart = λ id. given_once I R start workers team id ran few;
        once = λ id.
            subst (λ (ds : List Done). times id (map done_id ds ++ map (λ N. N.id) waiting) ≡ times id (made_ids ds)) (sym records)
            (stands_once R P tasks waiting id all (λ T there. (right T there).1.same));
        segments = right_segments least (done_by team) 0 team ran made lowest.seen;
        waiting = subst (λ (ds : List Done). All (IsRightNode I R ds) waiting) (sym records) nodes;
        claimed = sym (counted.claims ∙ granted_are I R start workers 0 team ran);
        allowed = omega (arith, counted.within);
      }

  finished_so : (P : Packing) (budget : ℕ) (team : List Member) (queued : List Node) (least opened claimed : ℕ) → length team ≤ 64 → HaveRun I R start workers 0 team
      → IsPooled I R P team queued → IsCounted budget team opened claimed → IsLowest start team least → IsFinished (gathered_of team queued least claimed) I R start budget
  finished_so P budget team queued least opened claimed few ran pooled counted lowest = record {
    trees = trees_so I R start workers team ran;
    least = lowest.is_least ∙ least_so I R start workers 0 team ran;
    spent = spent_so I R start workers P team queued budget opened claimed ran pooled counted few;
  }

  writable_so : (P : Packing) (team : List Member) (queued : List Node) (least claimed : ℕ) → HaveRun I R start workers 0 team → IsPooled I R P team queued
      → AllPackings IsWritablePacking (gathered_of team queued least claimed)
  writable_so P team queued least claimed ran pooled =
      let tasks = tasks_of I R start workers 0 team ran in
      let right = tasks_right I R start workers 0 team ran in
      let writes : Done → Type 0 = λ d. IsWritablePacking (done_packing d) in (
        subst (All writes) (sym (records_are I R start workers 0 team ran))
            (all_mapped writes done_of tasks (λ T there. let task = right T there in writable_record I start task.0 T.node T.done task.1.done_right)),
        All-weaker (IsSound I R) (λ N. IsWritablePacking N.packing) (λ N h. h.node.writable) (left_by team ++ queued) (waiting_sound P team queued ran pooled),
      )

-- the theorem
pub team_searches : TeamSearches
team_searches I R P start budget workers team queued least opened claimed size few ran pooled counted lowest = record {
  complete = complete_so I R start workers P budget team queued least opened claimed (omega (arith, size)) ran pooled counted lowest;
  finished = finished_so I R start workers P budget team queued least opened claimed (omega (arith, size, few)) ran pooled counted lowest;
  cheaper = cheaper_so I R start workers team ran;
  writable = writable_so I R start workers P team queued least claimed ran pooled;
}
