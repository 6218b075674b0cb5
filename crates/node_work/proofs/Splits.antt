-- Where a branch can be split, and the halves of a node that can be written.
use Rattle.std.proofs.Common.{◌≡◌, ℕ, Bool, true, false, eqb, not, ◌||◌, refl, ap, arith}
use Rattle.std.specs.Prelude.{IsTrue}
use Rattle.std.proofs.lemmas.Bool.{and_from}
use Rattle.std.proofs.lemmas.List.Filters.{length-filter_both}
use Rattle.std.proofs.lemmas.List.Elements.{All-filter}
use Rattle.st_model.specs.declared.split_at.SplitAt.{SplitAt}
use Rattle.st_model.specs.declared.split_at.SplitAt.TheVariants.{Vertex, Link}
use Rattle.st_model.specs.declared.branch.Branch.{Branch}
use Rattle.st_model.specs.Lists.{has}
use Rattle.st_model.specs.Network.{Network, IsInstance, is_required}
use Rattle.st_model.specs.Branch.{is_certain}
use Rattle.cut_packing.specs.declared.packing.Packing.{Packing}
use Rattle.cut_packing.specs.ProofTree.{IsSplitAt}
use Rattle.level_packing.specs.Forest.{IsPresent}
use Rattle.log_format.specs.Text.{IsWritableCut, IsWritablePacking}
use Rattle.branching.specs.declared.node.Node.{Node}
use Rattle.branching.specs.Node.{no_node, no_packing, without, yes_node}
use Rattle.branching.specs.Choice.{IsDecided}
use Rattle.branching.proofs.NoLighter.{halves_are_no_lighter_lem}
use Rattle.node_work.specs.Node.{IsWritableNode}

-- where it can be split nowhere, each present vertex is certain
pub decided_certain : (I : Network) (B : Branch) (v : ℕ) → IsDecided I B → IsPresent I B v → IsTrue (is_certain I B v)
decided_certain I B v decided here = by_case (is_required I v) refl (has B.inside v) refl
  where
    by_case : (r : Bool) → is_required I v ≡ r → (i : Bool) → has B.inside v ≡ i → (r || i) ≡ true
    by_case true is i e = refl
    by_case false is true e = refl
    by_case false is false e = absurd (decided v (record {
      vertex = here.vertex;
      undecided = and_from (not (has B.inside v)) (not (has B.outside v)) (ap not e) here.present;
      free = is;
    }))

-- what can be written can be so without the cuts that name v
writable_without : (P : Packing) (v : ℕ) → IsWritablePacking P → IsWritablePacking (without P v)
writable_without P v writable = record {
  root = writable.root;
  few_cuts =
      let fewer = length-filter_both (λ c. not (eqb c.q v)) (λ c. not (not (eqb c.q v))) (λ c. refl) P.cuts in
      omega (arith, fewer, writable.few_cuts);
  cuts = All-filter (λ c. not (eqb c.q v)) IsWritableCut P.cuts writable.cuts;
}

-- the halves of a node that can be written can be written
pub writable_halves : (I : Network) (N : Node) (at : SplitAt) (id id' : ℕ) → IsInstance I → IsWritableNode I N → IsSplitAt I N.branch at
    → IsWritableNode I (yes_node N at id) × IsWritableNode I (no_node N at id')
writable_halves I N at id id' instance h is_split =
    let halves = halves_are_no_lighter_lem I N at id id' instance h.node is_split in (
      record { node = halves.0.node; writable = h.writable },
      record { node = halves.1.node; writable = kept at },
    )
  where
    kept : (at : SplitAt) → IsWritablePacking (no_packing N.packing at)
    kept (Vertex v) = writable_without N.packing v h.writable
    kept (Link a b) = h.writable
