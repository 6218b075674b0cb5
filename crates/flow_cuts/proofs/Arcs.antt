-- The ends of an arc, and the arc the other way.
use Rattle.std.proofs.Common.{◌≡◌, ℕ, Option, Some, None, refl, sym, ap, ◌∙◌, subst}
use Rattle.std.specs.Option.{is_some}
use Rattle.std.proofs.lemmas.Bool.{false≢true}
use Rattle.st_model.specs.Network.{IsVertex}
use Rattle.bidirected_form.specs.declared.arc.Arc.{Arc}
use Rattle.bidirected_form.specs.Digraph.{Digraph, IsDigraph, arcs_into, remaining}
use Rattle.bidirected_form.proofs.Lookups.{left_from-found}

pub tail_in_range : (D : Digraph) (u v left : ℕ) → IsDigraph D → remaining D u v ≡ Some left → IsVertex D.n u
tail_in_range D u v left h is =
    let found = left_from-found (arcs_into D v) u left is in
    let a : Arc = record { tail = u; remaining = left } in
    subst (λ (b : Arc). IsVertex D.n b.tail) (found.2 a) ((h.arcs v).tails found.0 a found.1).0

pub turned_arc : (D : Digraph) (u v left : ℕ) → IsDigraph D → remaining D u v ≡ Some left → (other : ℕ) × (remaining D v u ≡ Some other)
turned_arc D u v left h is = by_case (remaining D v u) refl
  where
    by_case : (o : Option ℕ) → remaining D v u ≡ o → (other : ℕ) × (remaining D v u ≡ Some other)
    by_case (Some other) e = (other, e)
    by_case None e = absurd (false≢true (sym (ap is_some e) ∙ (sym (h.both u v) ∙ ap is_some is)))

pub head_in_range : (D : Digraph) (u v left : ℕ) → IsDigraph D → remaining D u v ≡ Some left → IsVertex D.n v
head_in_range D u v left h is = let turned = turned_arc D u v left h is in tail_in_range D v u turned.0 h turned.1
