-- What a vertex of a branch is, by whether it is present and certain.
use Rattle.std.proofs.Common.{◌≡◌, ◌≢◌, ℕ, ◌≤◌, Bool, true, false, ◌&&◌, ◌||◌, not, Some, None, inl, inr, refl, ap, ◌∙◌, arith}
use Rattle.std.specs.Prelude.{IsTrue, IsFalse, if◌then◌else◌}
use Rattle.std.specs.Option.{is_some}
use Rattle.std.proofs.lemmas.Bool.{and_parts, and_from, or_cases, both_ways, cases_Bool}
use Rattle.std.proofs.lemmas.List.Elements.{recursion_from_All}
use Rattle.st_model.specs.declared.branch.Branch.{Branch}
use Rattle.st_model.specs.Lists.{has}
use Rattle.st_model.specs.Ground.{ground}
use Rattle.st_model.specs.Network.{Network, IsVertex, IsLinkBetween, is_required, pays}
use Rattle.st_model.specs.Branch.{IsBranch, LeavesRequired, is_present, is_certain, is_undecided, open_link}
use Rattle.st_model.proofs.Distinct.{link-comm}
use Rattle.st_model.proofs.Pairs.{open_parts}
use Rattle.graph_store.specs.Graph.{Graph, IsGraph, is_in}
use Rattle.graph_store.proofs.PutLinks.{in_range}
use Rattle.bidirected_form.specs.declared.kind.VertexKind.TheVariants.{Outside, Must, May}
use Rattle.bidirected_form.specs.Bidirected.{is_open, kind_by, kind_in, arc_cost}
use Rattle.prize_transform.specs.Twins.{prize_for}
use Rattle.cut_packing.proofs.Loaded.{linked_vertex}
use Rattle.graph_store.specs.Whole.{IsWhole}

-- what every tree of the branch reaches isn't outside
pub certain_present : (I : Network) (B : Branch) (v : ℕ) → IsBranch I B → LeavesRequired I B → IsTrue (is_certain I B v) → IsTrue (is_present B v)
certain_present I B v branch leaves certain =
    elim (cases_Bool (has B.outside v)) [
      | inr present ↦ ap not present
      | inl out ↦
          elim (or_cases (is_required I v) (has B.inside v) certain) [
            | inl required ↦ absurd (both_ways (is_required I v) (leaves v out) required)
            | inr inside ↦ absurd (both_ways (has B.outside v) (branch.apart v inside) out)
          ]
    ]

-- what is undecided isn't outside
pub undecided_present : (B : Branch) (v : ℕ) → IsTrue (is_undecided B v) → IsTrue (is_present B v)
undecided_present B v undecided = (and_parts (not (has B.inside v)) (is_present B v) undecided).1

module _ (g : Graph) (B : Branch) (v : ℕ) where
  -- a present vertex is open where none is gone
  pub open_vertex : IsWhole g → IsVertex g.network.n v → IsTrue (is_present B v) → IsTrue (is_open g B v)
  open_vertex whole vertex present = and_from (is_in g v) (is_present B v) (whole v vertex) present

  pub open_present : IsTrue (is_open g B v) → IsTrue (is_present B v)
  open_present h = (and_parts (is_in g v) (is_present B v) h).1

  -- only vertices are open
  pub open_in_range : IsGraph g → IsTrue (is_open g B v) → IsVertex g.network.n v
  open_in_range graph h = in_range g v graph (and_parts (is_in g v) (is_present B v) h).0

  -- what has to be reached is open
  pub open_must : kind_in g B v ≡ Must → IsTrue (is_open g B v)
  open_must = by_case (is_open g B v)
    where
      by_case : (here : Bool) → kind_by g here (has B.inside v) v ≡ Must → IsTrue here
      by_case true e = refl
      by_case false e = absurd cc

  -- so is what isn't outside
  pub open_there : kind_in g B v ≢ Outside → IsTrue (is_open g B v)
  open_there = by_case (is_open g B v)
    where
      by_case : (here : Bool) → kind_by g here (has B.inside v) v ≢ Outside → IsTrue here
      by_case true h = refl
      by_case false h = absurd (h refl)

  -- what is open and certain has to be reached
  pub must_certain : IsTrue (is_open g B v) → IsTrue (is_certain g.network B v) → kind_in g B v ≡ Must
  must_certain here certain = rw (here, certain) refl

  -- what is open and not certain may be left out at its price
  pub may_free : IsTrue (is_open g B v) → IsFalse (is_certain g.network B v) → kind_in g B v ≡ May (pays g.network v)
  may_free here free = rw (here, free) refl

  -- what is not certain is left out for what it pays at most
  pub free_prize : IsFalse (is_certain g.network B v) → prize_for (kind_in g B v) ≤ pays g.network v
  free_prize free = by_case (is_open g B v) refl
    where
      by_case : (here : Bool) → is_open g B v ≡ here → prize_for (kind_in g B v) ≤ pays g.network v
      by_case true here = rw (may_free here free) (omega arith)
      by_case false gone = rw gone (omega arith)

-- no prize is above what the vertex pays
pub prize_most : (g : Graph) (B : Branch) (v : ℕ) → prize_for (kind_in g B v) ≤ pays g.network v
prize_most g B v = by_case (is_open g B v) (is_required g.network v || has B.inside v)
  where
    by_case : (here certain : Bool) → prize_for (if here then (if certain then Must else May (pays g.network v)) else Outside) ≤ pays g.network v
    by_case true true = omega arith
    by_case true false = omega arith
    by_case false certain = omega arith

-- a link between vertices that aren't outside is an arc, unless it is barred
pub linked_cost : (g : Graph) (B : Branch) (u v price : ℕ) → IsGraph g → IsWhole g → IsTrue (is_present B u) → IsTrue (is_present B v) → open_link g.network B u v ≡ Some price → arc_cost g B u v ≡ Some price
linked_cost g B u v price graph whole tail head cost =
    let ends = recursion_from_All (IsLinkBetween g.network.n) g.network.links graph.instance.ends in
    let linked = (open_parts (ground g.network) B u v (ap is_some cost)).1 in
    let at_tail = linked_vertex g.network.n g.network.links u v ends linked in
    let at_head = linked_vertex g.network.n g.network.links v u ends (ap is_some (link-comm g.network.links v u) ∙ linked) in
    rw (open_vertex g B u whole at_tail tail, open_vertex g B v whole at_head head) cost

-- and an arc is such a link
pub cost_linked : (g : Graph) (B : Branch) (u v price : ℕ) → arc_cost g B u v ≡ Some price → IsTrue (is_present B u) × IsTrue (is_present B v) × (open_link g.network B u v ≡ Some price)
cost_linked g B u v price = by_case (is_open g B u && is_open g B v) refl
  where
    by_case : (b : Bool) → (is_open g B u && is_open g B v) ≡ b → (if b then open_link g.network B u v else None) ≡ Some price → IsTrue (is_present B u) × IsTrue (is_present B v) × (open_link g.network B u v ≡ Some price)
    by_case false gone e = absurd (let clash : ⊥ = cc in clash)
    by_case true both cost = let parts = and_parts (is_open g B u) (is_open g B v) both in (open_present g B u parts.0, open_present g B v parts.1, cost)
