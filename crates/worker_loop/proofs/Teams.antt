-- The tasks of a whole team: what they and the nodes that wait weigh, and that each is right.
use Rattle.std.proofs.Common.{◌≡◌, ℕ, ◌+◌, List, [], ◌∷◌, ◌++◌, map, refl, sym, ap, ◌∙◌, ap₂, inl, inr, arith}
use Rattle.std.specs.Prelude.{All}
use Rattle.std.specs.List.{flat_map, sum_by}
use Rattle.std.proofs.lemmas.List.{map-append}
use Rattle.std.proofs.lemmas.List.Concat.{flat_map-append}
use Rattle.std.proofs.lemmas.List.Elements.{All-append, All-nil}
use Rattle.std.proofs.lemmas.List.Sums.{sum_by-append, sum_by-cons}
use Rattle.st_model.specs.declared.branch.Branch.{Branch}
use Rattle.st_model.specs.Network.{Network}
use Rattle.cut_packing.specs.declared.packing.Packing.{Packing}
use Rattle.branching.specs.declared.node.Node.{Node}
use Rattle.node_pool.specs.Pool.{all_gave, all_took, gave, took}
use Rattle.search_core.specs.declared.done.Done.{Done}
use Rattle.search_core.specs.declared.gathered.Segment.{Segment}
use Rattle.worker_loop.specs.Run.{IsTask, Task, done_of, halves_of, node_of}
use Rattle.worker_loop.specs.Sound.{IsSound}
use Rattle.worker_loop.specs.Team.{HaveRun, IsPooled, Member, segments_of}
use Rattle.worker_loop.proofs.TeamNodes.{AreTasks, IsAccounted}
use Rattle.worker_loop.proofs.Weights.{among_either, each_among}

-- all records of a team, and all nodes that it left
abbrev pub done_by : List Member → List Done
done_by team = flat_map (λ (s : Segment). s.done) (segments_of team)

abbrev pub left_by : List Member → List Node
left_by team = flat_map (λ (s : Segment). s.left) (segments_of team)

module _ (I : Network) (R : Branch) (start workers : ℕ) where
  -- all tasks of a team
  abbrev pub tasks_of : (seat : ℕ) (team : List Member) → HaveRun I R start workers seat team → List Task
  tasks_of seat [] ran = []
  tasks_of seat (M ∷ Ms) ran = ran.0.0 ++ tasks_of (seat + 1) Ms ran.1

  pub records_are : (seat : ℕ) (team : List Member) (ran : HaveRun I R start workers seat team) → done_by team ≡ map done_of (tasks_of seat team ran)
  records_are seat [] ran = refl
  records_are seat (M ∷ Ms) ran =
      let tasks = ran.0.0 in
      let rest = tasks_of (seat + 1) Ms ran.1 in
      ap₂ (λ (xs ys : List Done). xs ++ ys) ran.0.1.records (records_are (seat + 1) Ms ran.1) ∙ sym (map-append done_of tasks rest)

  pub tasks_right : (seat : ℕ) (team : List Member) (ran : HaveRun I R start workers seat team) → AreTasks I R start (tasks_of seat team ran)
  tasks_right seat [] ran T there = absurd there
  tasks_right seat (M ∷ Ms) ran T there = elim (among_either ran.0.0 (tasks_of (seat + 1) Ms ran.1) T there) [
    | inl h ↦ (M.segment.seen, each_among (IsTask I R start M.segment.seen) ran.0.0 ran.0.1.tasks_right T h)
    | inr h ↦ tasks_right (seat + 1) Ms ran.1 T h
  ]

  pub left_sound : (seat : ℕ) (team : List Member) → HaveRun I R start workers seat team → All (IsSound I R) (left_by team)
  left_sound seat [] ran = All-nil (IsSound I R)
  left_sound seat (M ∷ Ms) ran = All-append (IsSound I R) M.segment.left (left_by Ms) ran.0.1.left_sound (left_sound (seat + 1) Ms ran.1)

  -- what all took and made they worked on, or left, or gave
  together : (h : Node → ℕ) (seat : ℕ) (team : List Member) (ran : HaveRun I R start workers seat team)
      → all_gave h (map (λ M. M.after) team) + all_took h (map (λ M. M.before) team) + sum_by h (map node_of (tasks_of seat team ran)) + sum_by h (left_by team)
      ≡ all_gave h (map (λ M. M.before) team) + all_took h (map (λ M. M.after) team) + sum_by h (flat_map halves_of (tasks_of seat team ran))
  together h seat [] ran = refl
  together h seat (M ∷ Ms) ran =
      let tasks = ran.0.0 in
      let rest = tasks_of (seat + 1) Ms ran.1 in
      let nodes : sum_by h (map node_of (tasks ++ rest)) ≡ sum_by h (map node_of tasks) + sum_by h (map node_of rest) =
      ap (sum_by h) (map-append node_of tasks rest) ∙ sum_by-append h (map node_of tasks) (map node_of rest) in
      let halves : sum_by h (flat_map halves_of (tasks ++ rest)) ≡ sum_by h (flat_map halves_of tasks) + sum_by h (flat_map halves_of rest) =
      ap (sum_by h) (flat_map-append halves_of tasks rest) ∙ sum_by-append h (flat_map halves_of tasks) (flat_map halves_of rest) in
      let before = map (λ (M : Member). M.before) Ms in
      let after = map (λ (M : Member). M.after) Ms in
      joined _ _ _ _ _ _ _ _ _ _ _ _ _ _ _ _ _ _ _ _ _ (sum_by-cons (gave h) M.after after) (sum_by-cons (took h) M.before before) nodes (sum_by-append h M.segment.left (left_by Ms))
      (sum_by-cons (gave h) M.before before) (sum_by-cons (took h) M.after after) halves (ran.0.1.nodes h) (together h (seat + 1) Ms ran.1)
    where
      joined : (a b c d e f g a' b' c' d' e' f' g' a'' b'' c'' d'' e'' f'' g'' : ℕ) → a ≡ a' + a'' → b ≡ b' + b'' → c ≡ c' + c'' → d ≡ d' + d''
          → e ≡ e' + e'' → f ≡ f' + f'' → g ≡ g' + g'' → a' + b' + c' + d' ≡ e' + f' + g' → a'' + b'' + c'' + d'' ≡ e'' + f'' + g'' → a + b + c + d ≡ e + f + g
      joined a b c d e f g a' b' c' d' e' f' g' a'' b'' c'' d'' e'' f'' p q r s t u v m n = omega arith

  -- and with the pool the root and all halves are accounted for
  pub accounted : (P : Packing) (team : List Member) (queued : List Node) (ran : HaveRun I R start workers 0 team) → IsPooled I R P team queued → IsAccounted R P (tasks_of 0 team ran) (left_by team ++ queued)
  accounted P team queued ran pooled h =
      sums _ _ _ _ _ _ _ _ _ _ (together h 0 team ran) (pooled.root h) (pooled.left h) (sum_by-append h (left_by team) queued)
    where
      sums : (gave_before gave_after took_before took_after nodes left halves root queued waiting : ℕ) → gave_after + took_before + nodes + left ≡ gave_before + took_after + halves
          → gave_before ≡ took_before + root → gave_after ≡ took_after + queued → waiting ≡ left + queued → root + halves ≡ nodes + waiting
      sums gave_before gave_after took_before took_after nodes left halves root queued waiting a b c d = omega arith
