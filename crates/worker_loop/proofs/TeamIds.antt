-- The ids of a team's nodes: each was given once, and stands once among the records and the nodes that wait.
use Rattle.std.proofs.Common.{◌≡◌, ℕ, zero, suc, ◌+◌, ◌*◌, ◌%◌, ◌<◌, ◌≤◌, Bool, true, false, cond, List, [], ◌∷◌, ◌++◌, length, map, refl, sym, ap, subst, ◌∙◌, inl, inr, mod-eq_of_lt, arith}
use Rattle.std.specs.Prelude.{◌==◌}
use Rattle.std.specs.List.{flat_map, sum_by}
use Rattle.std.proofs.Math.Nat.{add-mul-mod_self_left}
use Rattle.std.proofs.lemmas.List.Concat.{flat_map-append}
use Rattle.std.proofs.lemmas.List.Sums.{sum_by-append, sum_by-cons}
use Rattle.st_model.specs.declared.branch.Branch.{Branch}
use Rattle.st_model.specs.Network.{Network}
use Rattle.cut_packing.specs.declared.packing.Packing.{Packing}
use Rattle.branching.specs.declared.node.Node.{Node}
use Rattle.search_core.specs.declared.done.Done.{Done}
use Rattle.search_core.specs.declared.done.Done.TheVariants.{Split, Close}
use Rattle.search_core.specs.Complete.{done_id, half_ids, made_ids, times}
use Rattle.search_core.proofs.Ids.{Among, times-append}
use Rattle.search_core.proofs.Look.{same_number}
use Rattle.worker_loop.specs.Run.{AreDrawn, Task, done_of, drawn_ids, halves_by, halves_of, node_of}
use Rattle.worker_loop.specs.Team.{HaveRun, Member}
use Rattle.worker_loop.proofs.TeamNodes.{IsAccounted}
use Rattle.worker_loop.proofs.Teams.{done_by}

-- 1 where a node has this id
abbrev has_id : ℕ → Node → ℕ
has_id id N = cond (N.id == id) 1 0

-- how often an id stands among nodes, those of tasks and their halves
waiting_ids : (id : ℕ) (waiting : List Node) → times id (map (λ N. N.id) waiting) ≡ sum_by (has_id id) waiting
waiting_ids id [] = refl
waiting_ids id (N ∷ Ns) = ap (λ n. has_id id N + n) (waiting_ids id Ns) ∙ sym (sum_by-cons (has_id id) N Ns)

task_ids : (id : ℕ) (tasks : List Task) → ((T : Task) → Among tasks T → done_id T.done ≡ T.node.id) → times id (map done_id (map done_of tasks)) ≡ sum_by (has_id id) (map node_of tasks)
task_ids id [] same = refl
task_ids id (T ∷ Ts) same =
    both _ _ _ _ _ (ap (λ n. cond (n == id) 1 0) (same T (inl refl))) (task_ids id Ts (λ U there. same U (inr there))) (sum_by-cons (has_id id) T.node (map node_of Ts))
  where
    both : (a b c d s : ℕ) → a ≡ b → c ≡ d → s ≡ b + d → a + c ≡ s
    both a b c d s e f g = omega arith

record_ids : (id : ℕ) (B : Branch) (d : Done) → times id (half_ids d) ≡ sum_by (has_id id) (halves_by B d)
record_ids id B (Close a P) = refl
record_ids id B (Split a at i o P) = plain (cond (i == id) 1 0) (cond (o == id) 1 0)
  where
    plain : (a b : ℕ) → a + (b + 0) ≡ 0 + a + b
    plain a b = omega arith

given_ids : (id : ℕ) (tasks : List Task) → times id (flat_map half_ids (map done_of tasks)) ≡ sum_by (has_id id) (flat_map halves_of tasks)
given_ids id [] = refl
given_ids id (T ∷ Ts) =
    both _ _ _ _ _ _ (times-append id (half_ids T.done) (flat_map half_ids (map done_of Ts))) (record_ids id T.node.branch T.done) (given_ids id Ts)
    (sum_by-append (has_id id) (halves_of T) (flat_map halves_of Ts))
  where
    both : (l a b c d r : ℕ) → l ≡ a + c → a ≡ b → c ≡ d → r ≡ b + d → l ≡ r
    both l a b c d r e f g h = omega arith

-- each id that was given stands once among the records and the nodes that wait
pub stands_once : (R : Branch) (P : Packing) (tasks : List Task) (waiting : List Node) (id : ℕ) → IsAccounted R P tasks waiting → ((T : Task) → Among tasks T → done_id T.done ≡ T.node.id)
    → times id (map done_id (map done_of tasks) ++ map (λ N. N.id) waiting) ≡ times id (made_ids (map done_of tasks))
stands_once R P tasks waiting id accounted same =
    let stands = times-append id (map done_id (map done_of tasks)) (map (λ N. N.id) waiting) in
    sums _ _ _ _ _ _ _ (cond (0 == id) 1 0) stands (task_ids id tasks same) (waiting_ids id waiting) (given_ids id tasks) (accounted (has_id id))
  where
    sums : (stands done wait nodes queue given halves first : ℕ) → stands ≡ done + wait → done ≡ nodes → wait ≡ queue → given ≡ halves → first + halves ≡ nodes + queue → stands ≡ first + given
    sums stands done wait nodes queue given halves first a b c d e = omega arith

-- the id is one of those that a worker gives in a seat from one to before another
abbrev IsFrom : ℕ → ℕ → ℕ → ℕ → Type 0
IsFrom workers seat last id = (s : ℕ) × (j : ℕ) × (seat ≤ s) × (s < last) × (id ≡ 1 + s + workers * j)

-- the workers in these seats gave each of these ids once
record AreGiven (workers seat last : ℕ) (ids : List ℕ) : Type 0 where
  pub once : (id : ℕ) → times id ids ≤ 1
  pub given : (id : ℕ) → 0 < times id ids → IsFrom workers seat last id

-- what a worker gives no other one does
apart_seats : (workers s t j k : ℕ) → s < t → t < workers → 1 + s + workers * j ≡ 1 + t + workers * k → ⊥
apart_seats workers s t j k low high same =
    let e : s + workers * j ≡ t + workers * k = omega arith in
    let below : s < workers = omega arith in
    let left : (s + workers * j) % workers ≡ s = add-mul-mod_self_left s workers j ∙ mod-eq_of_lt below in
    let right : (t + workers * k) % workers ≡ t = add-mul-mod_self_left t workers k ∙ mod-eq_of_lt high in
    let is : s ≡ t = sym left ∙ (ap (λ n. n % workers) e ∙ right) in
    absurd (omega (arith, is, low))

-- the ids of one worker and of those after it
joined_once : (workers seat last id a b : ℕ) → last ≤ workers → a ≤ 1 → b ≤ 1 → (0 < a → (j : ℕ) × (id ≡ 1 + seat + workers * j))
    → (0 < b → IsFrom workers (seat + 1) last id) → a + b ≤ 1
joined_once workers seat last id zero b few p q f g = omega (arith, q)
joined_once workers seat last id (suc a) zero few p q f g = omega (arith, p)
joined_once workers seat last id (suc a) (suc b) few p q f g =
    let one = f (omega arith) in
    let other = g (omega arith) in
    absurd (apart_seats workers seat other.0 one.0 other.1 (omega (arith, other.2)) (omega (arith, other.3, few)) (sym one.1 ∙ other.4))

joined_given : (workers seat last id a b : ℕ) → seat < last → (0 < a → (j : ℕ) × (id ≡ 1 + seat + workers * j)) → (0 < b → IsFrom workers (seat + 1) last id) → 0 < a + b → IsFrom workers seat last id
joined_given workers seat last id zero b here f g some = let other = g (omega (arith, some)) in (other.0, other.1, omega (arith, other.2), other.3, other.4)
joined_given workers seat last id (suc a) b here f g some = let one = f (omega arith) in (seat, one.0, omega arith, here, one.1)

given_by : (I : Network) (R : Branch) (start workers seat last : ℕ) (team : List Member) → HaveRun I R start workers seat team → seat + length team ≡ last → last ≤ workers
    → AreGiven workers seat last (drawn_ids (done_by team))
given_by I R start workers seat last [] ran ends few = record { once = λ id. omega arith; given = λ id some. absurd (omega arith) }
given_by I R start workers seat last (M ∷ Ms) ran ends few =
    let rest : AreGiven workers (seat + 1) last (drawn_ids (done_by Ms)) = given_by I R start workers (seat + 1) last Ms ran.1 (omega (arith, ends)) few in
    let drawn : AreDrawn seat workers M.segment.done = ran.0.1.drawn in
    record {
      once = λ id. subst (λ (n : ℕ). n ≤ 1) (sym (sum id)) (joined_once workers seat last id _ _ few (drawn.once id) (rest.once id) (drawn.own id) (rest.given id));
      given = λ id some. joined_given workers seat last id _ _ (omega (arith, ends)) (drawn.own id) (rest.given id) (subst (λ (n : ℕ). 0 < n) (sum id) some);
    }
  where
    sum : (id : ℕ) → times id (drawn_ids (done_by (M ∷ Ms))) ≡ times id (drawn_ids M.segment.done) + times id (drawn_ids (done_by Ms))
    sum id = ap (times id) (flat_map-append half_ids M.segment.done (done_by Ms)) ∙ times-append id (drawn_ids M.segment.done) (drawn_ids (done_by Ms))

-- no id was given twice, and 0 is none of them
pub given_once : (I : Network) (R : Branch) (start workers : ℕ) (team : List Member) (id : ℕ) → HaveRun I R start workers 0 team → length team ≤ workers → times id (made_ids (done_by team)) ≤ 1
given_once I R start workers team id ran few = by_test (0 == id) refl
  where
    given : AreGiven workers 0 (length team) (drawn_ids (done_by team))
    given = given_by I R start workers 0 (length team) team ran (omega arith) few

    none : 0 ≡ id → (n : ℕ) → times id (drawn_ids (done_by team)) ≡ n → n ≡ 0
    none is zero e = refl
    none is (suc n) e = let r = given.given id (omega (arith, e)) in absurd (omega (arith, is, r.4))

    by_test : (b : Bool) → (0 == id) ≡ b → cond b 1 0 + times id (drawn_ids (done_by team)) ≤ 1
    by_test true is = omega (arith, none (same_number 0 id is) _ refl)
    by_test false is = omega (arith, given.once id)
