use Rattle.std.proofs.Common.{ℕ, List, [], sym, ap, ◌∙◌}
use Rattle.std.specs.List.{flat_map}
use Rattle.std.proofs.lemmas.List.{flat_map_more}
use Rattle.cert_checker.proofs.fed.Fed.note.Goals as goal

pub returns : goal.returns
returns c = rw (← c.self.view_is) (ap (λ (pieces : List (List ℕ)). flat_map (λ piece. piece) pieces) c.note.ensures ∙ sym (flat_map_more (λ piece. piece) [] c.self.inside.past.pieces c.args.piece.now))
