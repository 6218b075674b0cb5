use Rattle.std.proofs.Common.{rules, ◌≡◌, ◌+◌, ◌++◌, ◌^◌, ◌<◌, ℕ, ◌≤◌, List, drop, length, take, map, min, Some, ap, ◌∙◌, subst, sym}
use Rattle.std.specs.Prelude.{All}
use Rattle.std.specs.List.{sum_by}
use Rattle.std.proofs.lemmas.List.{length-map}
use Rattle.st_model.specs.declared.branch.Branch.{Branch}
use Rattle.branching.specs.declared.node.Node.{Node}
use Rattle.incumbent.specs.Least.{least_of}
use Rattle.incumbent.specs.Seat.{Known as Sight, all_offers, fresh as new_sight}
use Rattle.open_ledger.specs.Seat.{Known as Account, fresh as new_account, granted_of, refused_of}
use Rattle.node_pool.specs.Pool.{Station, all_gave, all_took}
use Rattle.search_core.specs.State.{root_of}
use Rattle.search_core.specs.declared.gathered.Segment.{Segment}
use Rattle.better_trees.proofs.Written.{written}
use Rattle.worker_loop.specs.declared.team.Slot.{Slot}
use Rattle.worker_loop.specs.Progress.{IsUnused}
use Rattle.worker_loop.specs.Slots.{AreSeated, account_of, pass_of, segment_of, sight_of}
use Rattle.worker_loop.specs.Team.{IsSearched}
use Rattle.worker_loop.proofs.Searching.{IsClosedTeam, IsTotal, all_unused, same_incumbents, same_ledgers, searched_so, sites_all, still_a_pool}
use Rattle.worker_loop.proofs.running.searched.Goals as goal

pub run_team-requires-clause-unused : goal.run_team-requires-clause-unused
run_team-requires-clause-unused g c κs within =
    let Q = g.row.Q.Denot in
    let start = g.Q.Aim.start in
    let team = c.in_ok-team.team.items in
    let L = c.in_ok-ledger.ledger.ledger in
    let M = c.in_ok-incumbent.incumbent.incumbent in
    let allowed = c.min-allowed.result in
    let same : c.as_mut_slice.result.now ≡ team = search rules in
    let accounts = subst (All (λ (u : Account). u ≡ new_account L allowed)) (sym c.in_ok-team.ensures.accounts) c.in_ok-ledger.ensures.seats in
    let sights = subst (λ (n : ℕ). All (λ (m : Sight). m ≡ new_sight M n) (map sight_of team)) c.requires.first
    (subst (All (λ (m : Sight). m ≡ new_sight M c.args.first)) (sym c.in_ok-team.ensures.sights) c.in_ok-incumbent.ensures.seats) in
    subst (All (λ (s : Slot Q). IsUnused start s.worker)) (sym same) (all_unused L M allowed start c.args.limits.workers c.args.limits.links 0 team c.requires.few.0 c.in_ok-team.ensures.seats accounts sights)

pub close-requires : goal.close-requires
close-requires g c =
    let before = c.as_mut_slice.result.now in
    let after = c.run_team.new.team in
    let passes : map pass_of before ≡ c.in_ok-passes.passes.items = search rules in
    let long : length after ≡ length before = search rules in
    let all : take c.in_ok-team.team.len (after ++ drop (length after) c.in_ok-team.team.items) ≡ after = written after (drop (length after) c.in_ok-team.team.items) c.in_ok-team.team.len
    (sym (long ∙ c.as_mut_slice.ensures.len)) in
    let back : c.in_ok-returned.returned.passes.items ≡ map pass_of after = c.in_ok-returned.ensures.passes ∙ ap (λ (ss : List (Slot g.row.Q.Denot)). map pass_of ss) all in
    still_a_pool g.Q.Aim.instance g.Q.Aim.branch g.Q.Aim.start before after c.in_ok-passes.passes.items c.in_ok-returned.returned.passes.items c.passes_stay_a_pool.ensures long c.run_team.ensures
    passes back c.in_ok-passes.ensures.all

pub close-totals-requires-clause-own : goal.close-totals-requires-clause-own
close-totals-requires-clause-own g c =
    let before = c.as_mut_slice.result.now in
    let after = c.run_team.new.team in
    let L = c.in_ok-ledger.ledger.ledger in
    let allowed = c.min-allowed.result in
    let long : length after ≡ length before = search rules in
    let all : take c.in_ok-team.team.len (after ++ drop (length after) c.in_ok-team.team.items) ≡ after = written after (drop (length after) c.in_ok-team.team.items) c.in_ok-team.team.len
    (sym (long ∙ c.as_mut_slice.ensures.len)) in
    let was : map account_of before ≡ c.in_ok-ledger.accounts.items = search rules in
    let back : c.in_ok-returned.returned.accounts.items ≡ map account_of after = c.in_ok-returned.ensures.accounts ∙ ap (λ (ss : List (Slot g.row.Q.Denot)). map account_of ss) all in
    let new = subst (All (λ (u : Account). u ≡ new_account L allowed)) (sym was) c.in_ok-ledger.ensures.seats in
    subst (All (λ (u : Account). u.ledger ≡ L)) (sym back) (same_ledgers g.Q.Aim.instance g.Q.Aim.branch g.Q.Aim.start L allowed before after long c.run_team.ensures new)

pub close-least-requires-clause-own : goal.close-least-requires-clause-own
close-least-requires-clause-own g c =
    let before = c.as_mut_slice.result.now in
    let after = c.run_team.new.team in
    let M = c.in_ok-incumbent.incumbent.incumbent in
    let long : length after ≡ length before = search rules in
    let all : take c.in_ok-team.team.len (after ++ drop (length after) c.in_ok-team.team.items) ≡ after = written after (drop (length after) c.in_ok-team.team.items) c.in_ok-team.team.len
    (sym (long ∙ c.as_mut_slice.ensures.len)) in
    let was : map sight_of before ≡ c.in_ok-incumbent.sights.items = search rules in
    let back : c.in_ok-returned.returned.sights.items ≡ map sight_of after = c.in_ok-returned.ensures.sights ∙ ap (λ (ss : List (Slot g.row.Q.Denot)). map sight_of ss) all in
    let new = subst (λ (n : ℕ). All (λ (m : Sight). m ≡ new_sight M n) (map sight_of before)) c.requires.first
    (subst (All (λ (m : Sight). m ≡ new_sight M c.args.first)) (sym was) c.in_ok-incumbent.ensures.seats) in
    subst (All (λ (m : Sight). m.incumbent ≡ M)) (sym back) (same_incumbents g.Q.Aim.instance g.Q.Aim.branch g.Q.Aim.start M before after long c.run_team.ensures new)

pub returns-clause-searched : goal.returns-clause-searched
returns-clause-searched g c =
    let I = g.Q.Aim.instance in
    let R = g.Q.Aim.branch in
    let start = g.Q.Aim.start in
    let before = c.as_mut_slice.result.now in
    let after = c.run_team.new.team in
    let allowed = c.min-allowed.result in
    let queued = c.in_ok-queued.queued.items in
    let totals = c.close-totals.result in
    let least = c.close-least.result in
    let back = c.in_ok-returned.returned in
    let same : before ≡ c.in_ok-team.team.items = search rules in
    let long : length after ≡ length before = search rules in
    let all : take c.in_ok-team.team.len (after ++ drop (length after) c.in_ok-team.team.items) ≡ after = written after (drop (length after) c.in_ok-team.team.items) c.in_ok-team.team.len
    (sym (long ∙ c.as_mut_slice.ensures.len)) in
    let seated = subst (AreSeated c.args.limits.workers c.args.limits.links 0) (sym same) c.in_ok-team.ensures.seats in
    let passes : map pass_of before ≡ c.in_ok-passes.passes.items = search rules in
    let count : length before ≡ c.args.limits.workers = sym (length-map before pass_of) ∙ (ap (λ (ps : List Station). length ps) passes ∙ c.in_ok-passes.ensures.count) in
    let passes_back : back.passes.items ≡ map pass_of after = c.in_ok-returned.ensures.passes ∙ ap (λ (ss : List (Slot g.row.Q.Denot)). map pass_of ss) all in
    let accounts_back : back.accounts.items ≡ map account_of after = c.in_ok-returned.ensures.accounts ∙ ap (λ (ss : List (Slot g.row.Q.Denot)). map account_of ss) all in
    let sights_back : back.sights.items ≡ map sight_of after = c.in_ok-returned.ensures.sights ∙ ap (λ (ss : List (Slot g.row.Q.Denot)). map sight_of ss) all in
    let found : map Some back.segments.items ≡ map segment_of after = c.in_ok-returned.ensures.segments ∙ ap (λ (ss : List (Slot g.row.Q.Denot)). map segment_of ss) all in
    let P = c.args.packing in
    let root : c.in_ok-root.root ≡ root_of R P = c.in_ok-root.ensures ∙ ap (λ (B : Branch). root_of B P) c.requires.same in
    let is_allowed : allowed ≡ min c.args.limits.budget 9223372036854775807 = search rules in
    let budget_is : c.in_ok-ledger.ledger.budget ≡ allowed = search rules in
    let start_is : c.in_ok-incumbent.incumbent.start ≡ start = c.in_ok-incumbent.ensures.start ∙ c.requires.first in
    let small : length queued < 2 ^ 63 = search rules in
    let t = c.close-totals.ensures in
    let total : IsTotal allowed back.accounts.items totals.opened totals.claimed = record {
      opens = t.opened;
      idle = t.idle;
      claims = t.claimed;
      within = subst (λ (b : ℕ). totals.claimed ≡ min b (granted_of back.accounts.items + refused_of back.accounts.items)) budget_is t.within;
      halts = t.halted;
    } in
    let closed : IsClosedTeam I R P start allowed c.args.limits.workers before after queued least totals.opened totals.claimed = record {
      root = λ h.
          subst (λ (ps : List Station). all_gave h ps ≡ all_took h ps + h (root_of R P)) (sym passes)
          (subst (λ (n : Node). all_gave h c.in_ok-passes.passes.items ≡ all_took h c.in_ok-passes.passes.items + h n) root (c.in_ok-passes.ensures.root h));
      left = λ h. subst (λ (ps : List Station). all_gave h ps ≡ all_took h ps + sum_by h queued) passes_back (c.in_ok-queued.ensures.left h);
      sound = c.in_ok-queued.ensures.sound;
      few = small;
      total = subst (λ (us : List Account). IsTotal allowed us totals.opened totals.claimed) accounts_back total;
      is_least = subst (λ (ms : List Sight). least ≡ least_of start (all_offers ms)) sights_back
          (subst (λ (n : ℕ). least ≡ least_of n (all_offers back.sights.items)) start_is c.close-least.ensures.least);
      seen = subst (All (λ (m : Sight). least ≤ m.lowest)) sights_back c.close-least.ensures.seen;
    } in
    let so = searched_so I R P start c.args.limits.budget allowed c.args.limits.workers c.args.limits.links before after back.segments.items queued least totals.opened totals.claimed c.requires.few.1 count long seated
    c.run_team.ensures found is_allowed
    (λ e. c.if-totals-eq-MOST_CLAIMS.false e) closed in
    subst (λ (Ns : List Node). IsSearched (record { segments = c.of.result; queued = Ns; least = least; claimed = totals.claimed }) I R start c.args.limits.budget) (sym c.of-2.ensures)
    (subst (λ (ss : List Segment). IsSearched (record { segments = ss; queued = queued; least = least; claimed = totals.claimed }) I R start c.args.limits.budget) (sym c.of.ensures) so)

pub returns-clause-sites : goal.returns-clause-sites
returns-clause-sites g c =
    let before = c.as_mut_slice.result.now in
    let after = c.run_team.new.team in
    let back = c.in_ok-returned.returned in
    let same : before ≡ c.in_ok-team.team.items = search rules in
    let long : length after ≡ length before = search rules in
    let all : take c.in_ok-team.team.len (after ++ drop (length after) c.in_ok-team.team.items) ≡ after = written after (drop (length after) c.in_ok-team.team.items) c.in_ok-team.team.len
    (sym (long ∙ c.as_mut_slice.ensures.len)) in
    let seated = subst (AreSeated c.args.limits.workers c.args.limits.links 0) (sym same) c.in_ok-team.ensures.seats in
    let found : map Some back.segments.items ≡ map segment_of after = c.in_ok-returned.ensures.segments ∙ ap (λ (ss : List (Slot g.row.Q.Denot)). map segment_of ss) all in
    rw c.of.ensures (sites_all g.Q.Aim.instance g.Q.Aim.branch g.Q.Aim.start c.args.limits.workers c.args.limits.links 0 before after back.segments.items seated long c.run_team.ensures found)
