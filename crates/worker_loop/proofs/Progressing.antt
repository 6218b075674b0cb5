-- How a worker's steps go on from what it did so far.
use Rattle.std.proofs.Common.{◌≡◌, ℕ, Bool, true, subst, ◌+◌, ◌<◌, ◌≤◌, List, [], ◌∷◌, ◌++◌, length, append-nil, Option, Some, None, refl, sym, ap, ◌∙◌, length-append, arith}
use Rattle.std.specs.Prelude.{map, if◌then◌else◌}
use Rattle.std.specs.List.{flat_map, sum_by}
use Rattle.std.proofs.lemmas.List.{map-append}
use Rattle.std.proofs.lemmas.List.Concat.{flat_map-append}
use Rattle.std.proofs.lemmas.List.Elements.{All-cons, All-head, All-nil, All-push, All-weaker}
use Rattle.std.proofs.lemmas.List.Sums.{sum_by-append}
use Rattle.st_model.specs.declared.branch.Branch.{Branch}
use Rattle.st_model.specs.declared.tree.Tree.{Tree}
use Rattle.st_model.specs.Network.{Network}
use Rattle.branching.specs.declared.node.Node.{Node}
use Rattle.incumbent.specs.Least.{least_of}
use Rattle.incumbent.proofs.Least.{least_at_start}
use Rattle.incumbent.specs.Seat.{Known as Sight, fresh as new_sight, having_seen}
use Rattle.open_ledger.specs.Seat.{Known as Account, counting, fresh as new_account}
use Rattle.open_ledger.specs.Tally.{with_grant, with_refusal, with_sights}
use Rattle.open_ledger.specs.declared.why.Why.TheVariants.{Memory, Refused}
use Rattle.node_pool.specs.Pool.{Station, Moves, gave, took}
use Rattle.search_core.specs.declared.done.Done.{Done}
use Rattle.search_core.specs.declared.done.Done.TheVariants.{Split, Close}
use Rattle.search_core.specs.declared.done.End.{End}
use Rattle.search_core.specs.declared.gathered.Segment.{Segment}
use Rattle.worker_loop.specs.declared.work.Work.{Work}
use Rattle.worker_loop.specs.declared.worker.Worker.{Worker}
use Rattle.worker_loop.specs.Run.{HasRun, IsDoneWith, IsEnding, IsOffered, IsTask, Task, closes, done_of, halves_of, node_of, splits}
use Rattle.worker_loop.specs.Progress.{AreDrawnBelow, CountsOf, HasLooked, HasWorked, IsGranted, IsWorkedOn, Moment, SameWorker, as_of}
use Rattle.worker_loop.specs.Sound.{IsSound}

-- a task stays right where the worker has seen less since then
lower_task : (I : Network) (R : Branch) (start seen lower : ℕ) → lower ≤ seen → (T : Task) → IsTask I R start seen T → IsTask I R start lower T
lower_task I R start seen lower low T h = record { sound = h.sound; same = h.same; done_right = by_case T.done h.done_right }
  where
    by_case : (d : Done) → IsDoneWith I start seen T.node d → IsDoneWith I start lower T.node d
    by_case (Split id at i o P) k = k
    by_case (Close id P) k = record { closes = record { fits = k.closes.fits; weighs = omega (arith, low, k.closes.weighs) }; writable = k.writable }

-- looks at the ledger change nothing that counts
pub looked : (I : Network) (R : Branch) (start seat workers : ℕ) (p q : Station) (u u' : Account) (s : Sight) (next : ℕ) (k : Work) (held : List Node) → HasLooked u u'
    → HasWorked I R start seat workers p (as_of q u s next k) held → HasWorked I R start seat workers p (as_of q u' s next k) held
looked I R start seat workers p q u u' s next k held l (tasks, h) = (
  tasks,
  record {
    records = h.records;
    tasks_right = h.tasks_right;
    held_sound = h.held_sound;
    nodes = h.nodes;
    drawn = h.drawn;
    seen = h.seen;
    counts = record {
      ups = l.ups ∙ h.counts.ups;
      downs = l.downs ∙ h.counts.downs;
      granted = l.granted ∙ h.counts.granted;
      halted = λ some. let had = h.counts.halted (omega (arith, some, l.halts)) in omega (arith, had, l.refused);
      spared = λ e. h.counts.spared (sym l.why ∙ e);
    };
  },
)

-- a claim was refused, and the worker halted
pub refused : (I : Network) (R : Branch) (start seat workers : ℕ) (p q : Station) (u u' : Account) (s : Sight) (next : ℕ) (k : Work) (held : List Node) → u'.tally.ups ≡ u.tally.ups
    → u'.tally.downs ≡ u.tally.downs
    → u'.tally.granted ≡ u.tally.granted → 0 < u'.tally.refused → u'.why ≡ Some Refused
    → HasWorked I R start seat workers p (as_of q u s next k) held → HasWorked I R start seat workers p (as_of q u' s next k) held
refused I R start seat workers p q u u' s next k held ups downs granted some why (tasks, h) = (
  tasks,
  record {
    records = h.records;
    tasks_right = h.tasks_right;
    held_sound = h.held_sound;
    nodes = h.nodes;
    drawn = h.drawn;
    seen = h.seen;
    counts = record { ups = ups ∙ h.counts.ups; downs = downs ∙ h.counts.downs; granted = granted ∙ h.counts.granted; halted = λ _. some; spared = λ e. let no : Some Refused ≡ Some Memory = sym why ∙ e in cc };
  },
)

-- looks at the pool that found nothing change nothing that counts
pub found_none : (I : Network) (R : Branch) (start seat workers : ℕ) (p q q' : Station) (u : Account) (s : Sight) (next : ℕ) (k : Work) (held : List Node) → Moves q q' [] []
    → HasWorked I R start seat workers p (as_of q u s next k) held → HasWorked I R start seat workers p (as_of q' u s next k) held
found_none I R start seat workers p q q' u s next k held moves (tasks, h) = (
  tasks,
  record {
    records = h.records;
    tasks_right = h.tasks_right;
    held_sound = h.held_sound;
    nodes = λ w. balance (gave w q) (gave w q') (gave w p) (took w q) (took w q') (took w p) (sum_by w (map node_of tasks)) (sum_by w (flat_map halves_of tasks)) (sum_by w held) (h.nodes w)
        (moves w);
    drawn = h.drawn;
    seen = h.seen;
    counts = h.counts;
  },
)
  where
    balance : (gq gq' gp tq tq' tp S F n : ℕ) → gq + tp + S + n ≡ gp + tq + F → gq' + tq + 0 ≡ gq + tq' + 0 → gq' + tp + S + n ≡ gp + tq' + F
    balance gq gq' gp tq tq' tp S F n a b = omega arith

-- a node that was taken is in hand
pub took_up : (I : Network) (R : Branch) (start seat workers : ℕ) (p q q' : Station) (u : Account) (s : Sight) (next : ℕ) (k : Work) (N : Node) → IsSound I R N → Moves q q' [] (N ∷ [])
    → HasWorked I R start seat workers p (as_of q u s next k) [] → HasWorked I R start seat workers p (as_of q' u s next k) (N ∷ [])
took_up I R start seat workers p q q' u s next k N sound moves (tasks, h) = (
  tasks,
  record {
    records = h.records;
    tasks_right = h.tasks_right;
    held_sound = All-cons (IsSound I R) N [] sound (All-nil (IsSound I R));
    nodes = λ w. balance (gave w q) (gave w q') (gave w p) (took w q) (took w q') (took w p) (sum_by w (map node_of tasks)) (sum_by w (flat_map halves_of tasks)) (sum_by w (N ∷ [])) (h.nodes w)
        (moves w);
    drawn = h.drawn;
    seen = h.seen;
    counts = h.counts;
  },
)
  where
    balance : (gq gq' gp tq tq' tp S F n : ℕ) → gq + tp + S + 0 ≡ gp + tq + F → gq' + tq + n ≡ gq + tq' + 0 → gq' + tp + S + n ≡ gp + tq' + F
    balance gq gq' gp tq tq' tp S F n a b = omega arith

nodes_pushed : (w : Node → ℕ) (tasks : List Task) (T : Task) → sum_by w (map node_of (tasks ++ T ∷ [])) ≡ sum_by w (map node_of tasks) + sum_by w (T.node ∷ [])
nodes_pushed w tasks T = ap (sum_by w) (map-append node_of tasks (T ∷ [])) ∙ sum_by-append w (map node_of tasks) (T.node ∷ [])

halves_pushed : (w : Node → ℕ) (tasks : List Task) (T : Task) → sum_by w (flat_map halves_of (tasks ++ T ∷ [])) ≡ sum_by w (flat_map halves_of tasks) + sum_by w (halves_of T)
halves_pushed w tasks T =
    ap (sum_by w) (flat_map-append halves_of tasks (T ∷ []))
    ∙ (sum_by-append w (flat_map halves_of tasks) (halves_of T ++ []) ∙ ap (λ (Ns : List Node). sum_by w (flat_map halves_of tasks) + sum_by w Ns) (append-nil (halves_of T)))

-- a count of records grows by that of the new one
counted : (f : Done → ℕ) (before after : List Done) (d : Done) (was was' is : ℕ) → after ≡ before ++ d ∷ [] → was ≡ sum_by f before → was' ≡ was → is ≡ was' + f d → is ≡ sum_by f after
counted f before after d was was' is grown counts same more =
    let pushed : sum_by f (before ++ d ∷ []) ≡ sum_by f before + (0 + f d) = sum_by-append f before (d ∷ []) in
    sum_of (sum_by f before) (sum_by f (before ++ d ∷ [])) (f d) was was' is pushed counts same more ∙ ap (sum_by f) (sym grown)
  where
    sum_of : (a b n was was' is : ℕ) → b ≡ a + (0 + n) → was ≡ a → was' ≡ was → is ≡ was' + n → is ≡ b
    sum_of a b n was was' is e f g h = omega arith

-- a node in hand was claimed and worked on
pub worked : (I : Network) (R : Branch) (start seat workers : ℕ) (p q : Station) (u u' : Account) (s : Sight) (next : ℕ) (k : Work) (N : Node) (m : Moment) (held : List Node) (d : Done)
    → IsGranted u u'
    → IsWorkedOn I R start seat workers N (as_of q u' s next k) m held d
    → HasWorked I R start seat workers p (as_of q u s next k) (N ∷ []) → HasWorked I R start seat workers p m held
worked I R start seat workers p q u u' s next k N m held d claim on (tasks, h) =
    let T : Task = record { node = N; done = d } in
    let lower : m.work.seen ≤ k.seen = omega (arith, on.lower, h.seen.last) in (
      tasks ++ T ∷ [],
      record {
        records = on.records ∙ (ap (λ (ds : List Done). ds ++ d ∷ []) h.records ∙ sym (map-append done_of tasks (T ∷ [])));
        tasks_right = All-push (IsTask I R start m.work.seen) tasks T
            (All-weaker (IsTask I R start k.seen) (IsTask I R start m.work.seen) (lower_task I R start k.seen m.work.seen lower) tasks h.tasks_right) on.task;
        held_sound = on.held_sound;
        nodes = λ w.
            balance (gave w q) (gave w m.pass) (gave w p) (took w q) (took w m.pass) (took w p) _ _ _ _ (sum_by w (N ∷ [])) (sum_by w (halves_of T)) (sum_by w held) (nodes_pushed w tasks T)
            (halves_pushed w tasks T) (h.nodes w) (on.nodes w);
        drawn = on.drawn h.drawn;
        seen = on.seen h.seen;
        counts = record {
          ups = counted splits k.done.items m.work.done.items d u.tally.ups u'.tally.ups m.account.tally.ups on.records h.counts.ups claim.ups on.ups;
          downs = counted closes k.done.items m.work.done.items d u.tally.downs u'.tally.downs m.account.tally.downs on.records h.counts.downs claim.downs on.downs;
          granted = longer k.done.items m.work.done.items d u.tally.granted u'.tally.granted m.account.tally.granted on.records h.counts.granted claim.granted on.granted;
          halted = λ some. let had = h.counts.halted (omega (arith, some, on.halts, claim.halts)) in omega (arith, had, on.refused, claim.refused);
          spared = λ e. h.counts.spared (sym claim.why ∙ (sym on.why ∙ e));
        };
      },
    )
  where
    balance : (gq gq' gp tq tq' tp S S' F F' n f x : ℕ) → S' ≡ S + n → F' ≡ F + f → gq + tp + S + n ≡ gp + tq + F → gq' + tq + x ≡ gq + tq' + f → gq' + tp + S' + x ≡ gp + tq' + F'
    balance gq gq' gp tq tq' tp S S' F F' n f x a b c d = omega arith

    longer : (before after : List Done) (d : Done) (was was' is : ℕ) → after ≡ before ++ d ∷ [] → was ≡ length before → was' ≡ was + 1 → is ≡ was' → is ≡ length after
    longer before after d was was' is grown counts same more =
        let pushed : length (before ++ d ∷ []) ≡ length before + 1 = length-append before (d ∷ []) in let long : length after ≡ length (before ++ d ∷ []) = ap (λ (ds : List Done). length ds)
        grown in omega arith

-- a worker with new seats has done nothing
pub begun : (I : Network) (R : Branch) (start seat workers next r : ℕ) (p : Station) (u : Account) (s s' : Sight) (k : Work) → 0 < workers → next ≡ 1 + seat
    → u ≡ new_account u.ledger u.tally.budget
    → s ≡ new_sight s.incumbent start → r ≤ s.lowest → s' ≡ having_seen s r → k.done.items ≡ [] → k.best ≡ None → k.seen ≡ r
    → HasWorked I R start seat workers p (as_of p u s' next k) []
begun I R start seat workers next r p u s s' k some first account sight low look none no_tree last =
    let new : k.done.items ≡ map done_of [] = none in
    let tasks : List Task = [] in
    let no_offer : s'.offers ≡ [] = ap (λ (m : Sight). m.offers) look ∙ ap (λ (m : Sight). m.offers) sight in
    let at_start : s.lowest ≡ start = ap (λ (m : Sight). m.lowest) sight in
    let now : s'.lowest ≡ r = ap (λ (m : Sight). m.lowest) look in (
      tasks,
      record {
        records = new;
        tasks_right = All-nil (IsTask I R start k.seen);
        held_sound = All-nil (IsSound I R);
        nodes = λ w. plain (gave w p) (took w p);
        drawn = subst (λ (ds : List Done). AreDrawnBelow seat workers next ds) (sym none) (record {
          some = some;
          drawn = record { once = λ x. omega arith; own = λ x lt. absurd (omega arith) };
          below = λ x above. refl;
          next_own = (0, omega (arith, first));
        });
        seen = record {
          last = now ∙ sym last;
          low = subst (λ (xs : List ℕ). s'.lowest ≤ least_of start xs) (sym no_offer) (omega (arith, now, low, at_start));
          offered = subst (λ (xs : List ℕ). IsOffered I R start k.best xs) (sym no_offer)
              (subst (λ (t : Option Tree). IsOffered I R start t []) (sym no_tree) (record { found = tt; least = refl; none = λ _. refl; some = λ _. refl }));
        };
        counts = subst (λ (ds : List Done). CountsOf ds u) (sym none) (record {
          ups = ap (λ (v : Account). v.tally.ups) account;
          downs = ap (λ (v : Account). v.tally.downs) account;
          granted = ap (λ (v : Account). v.tally.granted) account;
          halted = λ lt. let h : u.tally.halts ≡ 0 = ap (λ (v : Account). v.tally.halts) account in absurd (omega (arith, lt, h));
          spared = λ e. let h : u.why ≡ None = ap (λ (v : Account). v.why) account in let no : Some Memory ≡ None = sym e ∙ h in cc;
        });
      },
    )
  where
    plain : (g t : ℕ) → g + t + 0 + 0 ≡ g + t + 0
    plain g t = omega arith

-- what a worker brings back that ends with these nodes left
pub ran_so : (I : Network) (R : Branch) (start seat workers : ℕ) (p q : Station) (u : Account) (s : Sight) (next : ℕ) (k : Work) (left : List Node) (end : End) (segment : Segment)
    → segment ≡ record { done = k.done.items; left = left; best = k.best; seen = k.seen; end = end } → length left ≤ 1 → IsEnding end u
    → HasWorked I R start seat workers p (as_of q u s next k) left → (tasks : List Task) × HasRun I R start seat workers p q u s tasks segment
ran_so I R start seat workers p q u s next k left end segment is few ending (tasks, h) =
    let F : Segment → Type 0 = λ x. (tasks : List Task) × HasRun I R start seat workers p q u s tasks x in
    subst F (sym is) (
      tasks,
      record {
        records = h.records;
        tasks_right = h.tasks_right;
        left_sound = h.held_sound;
        few = few;
        nodes = h.nodes;
        drawn = h.drawn.drawn;
        seen = h.seen.last;
        offered = h.seen.offered;
        ups = h.counts.ups;
        downs = h.counts.downs;
        granted = h.counts.granted;
        halted = h.counts.halted;
        spared = h.counts.spared;
        ending = ending;
      },
    )

-- the account of a worker whose claim was granted
pub granted_so : (u u' v : Account) (more : ℕ) (b : Bool) → u' ≡ counting u (with_sights u.tally more) → b ≡ true → v ≡ counting u' (if b then with_grant u'.tally else with_refusal u'.tally)
    → IsGranted u v
granted_so u u' v more b looks is_true claimed =
    let is : v ≡ counting u' (with_grant u'.tally) = subst (λ (c : Bool). v ≡ counting u' (if c then with_grant u'.tally else with_refusal u'.tally)) is_true claimed in
    let all : v ≡ counting (counting u (with_sights u.tally more)) (with_grant (with_sights u.tally more)) = subst (λ (x : Account). v ≡ counting x (with_grant x.tally)) looks is in
    subst (IsGranted u) (sym all) (record { ups = refl; downs = refl; granted = refl; refused = refl; halts = refl; why = refl })

pub same_worker : {Q : Type 0} (a b c : Worker Q) → SameWorker a b → SameWorker b c → SameWorker a c
same_worker a b c h k = record {
  seat = k.seat ∙ h.seat;
  workers = k.workers ∙ h.workers;
  links = k.links ∙ h.links;
  pass = (k.pass.0 ∙ h.pass.0, k.pass.1 ∙ h.pass.1);
  ledger = k.ledger ∙ h.ledger;
  best = k.best ∙ h.best;
}

-- the same in the seat of the same worker
pub reseated : {Q : Type 0} (I : Network) (R : Branch) (start : ℕ) (a b : Worker Q) (p : Station) (m : Moment) (held : List Node) → SameWorker a b
    → HasWorked I R start a.seat a.workers p m held → HasWorked I R start b.seat b.workers p m held
reseated I R start a b p m held same h =
    subst (λ (k : ℕ). HasWorked I R start k b.workers p m held) (sym same.seat) (subst (λ (n : ℕ). HasWorked I R start a.seat n p m held) (sym same.workers) h)

pub seated_back : {Q : Type 0} (I : Network) (R : Branch) (start : ℕ) (a b : Worker Q) (p : Station) (m : Moment) (held : List Node) → SameWorker a b
    → HasWorked I R start b.seat b.workers p m held → HasWorked I R start a.seat a.workers p m held
seated_back I R start a b p m held same h =
    subst (λ (k : ℕ). HasWorked I R start k a.workers p m held) same.seat (subst (λ (n : ℕ). HasWorked I R start b.seat n p m held) same.workers h)

-- what holds of a node in hand
pub in_hand : (I : Network) (R : Branch) (start seat workers : ℕ) (p : Station) (m : Moment) (N : Node) → HasWorked I R start seat workers p m (N ∷ [])
    → IsSound I R N × (m.sight.lowest ≤ start)
in_hand I R start seat workers p m N (tasks, h) = (All-head (IsSound I R) N [] h.held_sound, let first = least_at_start start m.sight.offers in omega (arith, h.seen.low, first))
