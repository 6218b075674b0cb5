-- The branch of the trees that avoid one vertex.
use Rattle.std.proofs.Common.{◌≡◌, ℕ, ◌==◌, Bool, true, false, [], refl, sym, ◌∙◌, subst, arith}
use Rattle.std.specs.Prelude.{IsFalse}
use Rattle.std.proofs.lemmas.List.Elements.{All-nil}
use Rattle.st_model.specs.Branch.{IsBranch, LeavesRequired, all_trees, with_outside}
use Rattle.st_model.specs.Network.{Network, IsVertex, is_required}
use Rattle.st_model.specs.Ground.{ground}
use Rattle.st_model.proofs.Branches.{IsVertexSet-nil, IsBranch-deciding, IsBranch-with_outside}
use Rattle.log_format.specs.Text.{IsWritableCut}
use Rattle.node_work.specs.Node.{IsWritableNode}
use Rattle.search_core.specs.State.{no_cuts}
use Rattle.search_core.proofs.Look.{same_number}
use Rattle.search_core.proofs.Rooted.{root_node}

everything : (I : Network) → IsBranch I all_trees
everything I = IsBranch-deciding (ground I) [] [] (IsVertexSet-nil I.n) (IsVertexSet-nil I.n) (λ v inside. refl)

pub one_out : (I : Network) (vertex : ℕ) → IsVertex I.n vertex → IsBranch I (with_outside all_trees vertex)
one_out I vertex inside = IsBranch-with_outside (ground I) all_trees vertex inside refl (everything I)

-- where the vertex may be left out, that branch makes a node without cuts
pub one_out_node : (I : Network) (vertex id : ℕ) → IsVertex I.n vertex → IsFalse (is_required I vertex) → IsWritableNode I (record { id = id; branch = with_outside all_trees vertex; packing = no_cuts })
one_out_node I vertex id inside free =
    let root = root_node I (with_outside all_trees vertex) (one_out I vertex inside) required in
    record { node = record { branch = root.branch; required = root.required; fits = root.fits }; writable = record { root = tt; few_cuts = omega arith; cuts = All-nil IsWritableCut } }
  where
    required : LeavesRequired I (with_outside all_trees vertex)
    required v out = by_case (vertex == v) refl
      where
        by_case : (b : Bool) → (vertex == v) ≡ b → IsFalse (is_required I v)
        by_case true e = subst (λ (k : ℕ). IsFalse (is_required I k)) (same_number vertex v e) free
        by_case false e = absurd (let no : false ≡ true = sym (rw e refl) ∙ out in cc)
