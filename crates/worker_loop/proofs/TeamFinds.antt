-- What a team found: trees that are cheaper than the start, of which the incumbent is the least.
use Rattle.std.proofs.Common.{◌≡◌, ℕ, ◌+◌, ◌<◌, ◌≤◌, min, List, [], ◌∷◌, Option, Some, None, refl, arith}
use Rattle.std.specs.Prelude.{All, IfSome}
use Rattle.std.proofs.lemmas.List.Elements.{All-cons, All-nil, All-weaker}
use Rattle.st_model.specs.declared.branch.Branch.{Branch}
use Rattle.st_model.specs.declared.tree.Tree.{Tree}
use Rattle.st_model.specs.Network.{Network}
use Rattle.st_model.specs.Arborescence.{IsTree, cost}
use Rattle.st_model.specs.Branch.{ReachesAsTold}
use Rattle.incumbent.specs.Least.{least_of}
use Rattle.incumbent.proofs.Least.{least_append, least_at_start}
use Rattle.incumbent.specs.Seat.{all_offers}
use Rattle.search_core.specs.declared.gathered.Segment.{Segment}
use Rattle.search_core.specs.Complete.{least_found, less_found}
use Rattle.worker_loop.specs.Run.{IsFound}
use Rattle.worker_loop.specs.Team.{HaveRun, Member, segments_of, sights}

-- the less of what is no more than the start
less_low : (I : Network) (best : Option Tree) (start least : ℕ) → least ≤ start → less_found I best least ≡ min (less_found I best start) least
less_low I None start least low = omega arith
less_low I (Some t) start least low = omega arith

is_found : (I : Network) (R : Branch) (start : ℕ) (best : Option Tree) → IfSome best (IsFound I R start) → IfSome best (λ t. IsTree I t × ReachesAsTold R t)
is_found I R start None h = tt
is_found I R start (Some t) h = (h.tree, h.reaches)

is_cheaper : (I : Network) (R : Branch) (start : ℕ) (best : Option Tree) → IfSome best (IsFound I R start) → IfSome best (λ t. cost I t < start)
is_cheaper I R start None h = tt
is_cheaper I R start (Some t) h = h.cheaper

-- of a segment's tree, if it has one, each of these
abbrev FindsFound : Network → Branch → ℕ → Segment → Type 0
FindsFound I R start s = IfSome s.best (IsFound I R start)

abbrev pub FindsTree : Network → Branch → Segment → Type 0
FindsTree I R s = IfSome s.best (λ t. IsTree I t × ReachesAsTold R t)

abbrev pub FindsCheaper : Network → ℕ → Segment → Type 0
FindsCheaper I start s = IfSome s.best (λ t. cost I t < start)

module _ (I : Network) (R : Branch) (start workers : ℕ) where
  -- the least of the start and all offers is the least of the start and what the trees cost
  pub least_so : (seat : ℕ) (team : List Member) → HaveRun I R start workers seat team → least_of start (all_offers (sights team)) ≡ least_found I start (segments_of team)
  least_so seat [] ran = refl
  least_so seat (M ∷ Ms) ran =
      let rest = least_so (seat + 1) Ms ran.1 in
      omega (
        arith,
        least_append start M.sight.offers (all_offers (sights Ms)),
        ran.0.1.offered.least,
        rest,
        less_low I M.segment.best start (least_found I start (segments_of Ms)) (omega (arith, rest, least_at_start start (all_offers (sights Ms)))),
      )

  all_found : (seat : ℕ) (team : List Member) → HaveRun I R start workers seat team → All (FindsFound I R start) (segments_of team)
  all_found seat [] ran = All-nil (FindsFound I R start)
  all_found seat (M ∷ Ms) ran = All-cons (FindsFound I R start) M.segment (segments_of Ms) ran.0.1.offered.found (all_found (seat + 1) Ms ran.1)

  pub trees_so : (team : List Member) → HaveRun I R start workers 0 team → All (FindsTree I R) (segments_of team)
  trees_so team ran = All-weaker (FindsFound I R start) (FindsTree I R) (λ s h. is_found I R start s.best h) (segments_of team) (all_found 0 team ran)

  pub cheaper_so : (team : List Member) → HaveRun I R start workers 0 team → All (FindsCheaper I start) (segments_of team)
  cheaper_so team ran = All-weaker (FindsFound I R start) (FindsCheaper I start) (λ s h. is_cheaper I R start s.best h) (segments_of team) (all_found 0 team ran)
