-- What is gathered of the search that is split at a link is complete.
use Rattle.std.proofs.Common.{ℕ, zero, suc, ◌≤◌, ◌==◌, Bool, true, false, ◌&&◌, ◌||◌, cond, Option, Some, None, [], ◌∷◌, inr, refl, arith}
use Rattle.std.specs.Prelude.{All, IfSome, IsFalse}
use Rattle.std.proofs.lemmas.Bool.Decides.{nat_tests}
use Rattle.std.proofs.lemmas.List.Elements.{All-cons, All-from_recursion, All-nil}
use Rattle.st_model.specs.Lists.{has}
use Rattle.st_model.specs.declared.branch.Branch.{Branch}
use Rattle.st_model.specs.declared.split_at.SplitAt.TheVariants.{Vertex, Link}
use Rattle.st_model.specs.Branch.{NoneIsCertain, all_trees, no_half, open_link, yes_half}
use Rattle.st_model.specs.Network.{Network, IsVertex}
use Rattle.cut_packing.specs.declared.cut.Cut.{Cut}
use Rattle.cut_packing.specs.Packing.{ArcsFit, CutFits, Fits, PrizesFit, load}
use Rattle.search_core.specs.declared.done.Done.{Done}
use Rattle.search_core.specs.declared.done.Done.TheVariants.{Split, Close}
use Rattle.search_core.specs.Complete.{IsComplete, IsMade, IsRightNode, IsRightRecord, IsRightSegment, inside_of, outside_of, root, times}
use Rattle.search_core.specs.State.{no_cuts}
use Rattle.checks_logs.specs.Halved.{all_done, halved, round_2, two}

-- no cut fits any branch
no_cuts_fit : (I : Network) (B : Branch) → Fits I B no_cuts
no_cuts_fit I B = record { root = refl; cuts = All-nil (CutFits I B); arcs = λ u v a b. any_cost (open_link I B u v); prizes = λ q a b. omega arith }
  where
    any_cost : (o : Option ℕ) → IfSome o (λ price. 0 ≤ price)
    any_cost None = tt
    any_cost (Some price) = omega arith

-- the trees with the link, those without it, and of these those that reach 1 and those that avoid it
abbrev used : Branch
used = yes_half all_trees (Link 1 2)

abbrev barred : Branch
barred = no_half all_trees (Link 1 2)

abbrev with_1 : Branch
with_1 = yes_half barred (Vertex 1)

abbrev without_1 : Branch
without_1 = no_half barred (Vertex 1)

-- nobody is required, and nobody is inside where nodes are split
none_is_certain : NoneIsCertain two all_trees
none_is_certain zero vertex = absurd (omega (arith, vertex.0))
none_is_certain (suc zero) vertex = refl
none_is_certain (suc (suc zero)) vertex = refl
none_is_certain (suc (suc (suc v))) vertex = absurd (omega (arith, vertex.1))

-- ---- the cut round 2

-- its link is barred
arcs_fit : ArcsFit two with_1 round_2.cuts
arcs_fit u v a b = by_case (((1 == u) && (2 == v)) || ((1 == v) && (2 == u))) (load round_2.cuts (u, v))
  where
    by_case : (joined : Bool) (n : ℕ) → IfSome (cond (joined || false) None (cond joined (Some 5) None)) (λ price. n ≤ price)
    by_case true n = tt
    by_case false n = tt

-- and 2 pays more
prizes_fit : PrizesFit two with_1 round_2.cuts
prizes_fit zero vertex free = absurd (omega (arith, vertex.0))
prizes_fit (suc zero) vertex free = omega arith
prizes_fit (suc (suc zero)) vertex free = omega arith
prizes_fit (suc (suc (suc v))) vertex free = absurd (omega (arith, vertex.1))

round_2_fits : Fits two with_1 round_2
round_2_fits = record {
  root = record { vertex = (omega arith, omega arith); certain = refl; same = tt; apart = All-cons (λ (c : Cut). IsFalse (has c.set 1)) _ [] refl (All-nil (λ (c : Cut). IsFalse (has c.set 1))) };
  cuts = All-cons (CutFits two with_1) _ [] (record { in_range = All-cons (IsVertex 2) 2 [] (omega arith, omega arith) (All-nil (IsVertex 2)); member = refl; present = refl }) (All-nil (CutFits two with_1));
  arcs = arcs_fit;
  prizes = prizes_fit;
}

-- ---- the whole

made_2 : IsMade all_trees all_done 2 barred
made_2 = outside_of {P = no_cuts} (0, omega arith, refl) root

abbrev IsRight : Done → Type 0
IsRight = IsRightRecord two all_trees 6 all_done 5

root_splits : IsRight (Split 0 (Link 1 2) 1 2 no_cuts)
root_splits = (all_trees, record { made = root; vertex = record { ordered = omega arith; linked = refl; low = refl; high = refl; no_must = refl; unbarred = refl }; packing = record { fits = no_cuts_fit two all_trees; full = inr none_is_certain } })

used_closes : IsRight (Close 1 no_cuts)
used_closes = (used, record { made = inside_of {P = no_cuts} (0, omega arith, refl) root; packing = record { fits = no_cuts_fit two used; weighs = omega arith } })

barred_splits : IsRight (Split 2 (Vertex 1) 3 4 no_cuts)
barred_splits = (barred, record { made = made_2; vertex = record { vertex = (omega arith, omega arith); undecided = refl; free = refl }; packing = record { fits = no_cuts_fit two barred; full = inr none_is_certain } })

with_1_closes : IsRight (Close 3 round_2)
with_1_closes = (with_1, record { made = inside_of {P = no_cuts} (2, omega arith, refl) made_2; packing = record { fits = round_2_fits; weighs = omega arith } })

without_1_closes : IsRight (Close 4 no_cuts)
without_1_closes = (without_1, record { made = outside_of {P = no_cuts} (2, omega arith, refl) made_2; packing = record { fits = no_cuts_fit two without_1; weighs = omega arith } })

right_records : All IsRight all_done
right_records = All-from_recursion IsRight all_done (root_splits, (used_closes, (barred_splits, (with_1_closes, (without_1_closes, tt)))))

-- five nodes were worked on, from a tree of cost 6
pub is_complete : IsComplete halved two all_trees 6 5
is_complete = record {
  apart = once;
  once = λ id. refl;
  segments = All-cons (IsRightSegment two all_trees 6 5 all_done) _ [] (record { records = right_records; seen = omega arith }) (All-nil (IsRightSegment two all_trees 6 5 all_done));
  waiting = All-nil (IsRightNode two all_trees all_done);
  claimed = refl;
  allowed = omega arith;
}
  where
    once : (id : ℕ) → times id (0 ∷ 1 ∷ 2 ∷ 3 ∷ 4 ∷ []) ≤ 1
    once id = grind (arith, nat_tests)
