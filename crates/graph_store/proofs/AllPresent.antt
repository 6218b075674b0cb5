-- A graph of which every vertex is present.
use Rattle.std.proofs.Common.{◌≡◌, ℕ, ◌-◌, true, false, eqb, replicate, arith}
use Rattle.std.specs.Prelude.{IsTrue}
use Rattle.std.proofs.lemmas.Bool.Decides.{nat_tests}
use Rattle.std.proofs.lemmas.List.{length-replicate, get_or-replicate}
use Rattle.std.proofs.lemmas.List.Elements.{All-weaker}
use Rattle.st_model.specs.Network.{Network, IsInstance, IsVertex, IsLinkBetween}
use Rattle.graph_store.specs.Graph.{Graph, IsGraph, is_in}

-- the instance with every vertex present
abbrev pub all_present : Network → Graph
all_present I = record { network = I; present = replicate I.n true }

-- and who is present there
pub present_in : (I : Network) (v : ℕ) → IsVertex I.n v → IsTrue (is_in (all_present I) v)
present_in I v vertex =
    let low = vertex.0 in
    let high = vertex.1 in
    let some : eqb v 0 ≡ false = grind (arith, nat_tests) in
    rw some (get_or-replicate I.n (v - 1) true false (omega arith))

pub all_present_is_graph : (I : Network) → IsInstance I → IsGraph (all_present I)
all_present_is_graph I instance = record {
  instance = instance;
  here = length-replicate I.n true;
  ends = All-weaker (IsLinkBetween I.n) (λ l. IsTrue (is_in (all_present I) l.a) × IsTrue (is_in (all_present I) l.b)) (λ l is. let low = is.low in let ordered = is.ordered in let high = is.high in (present_in I l.a (low, omega arith), present_in I l.b (omega arith, high))) I.links instance.ends;
}
