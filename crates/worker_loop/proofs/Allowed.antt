-- Records that tell of no split at a link where none may be.
use Rattle.std.proofs.Common.{Bool, true, false, List, sym}
use Rattle.std.specs.Prelude.{All, IsFalse}
use Rattle.std.proofs.lemmas.Bool.{false≢true}
use Rattle.std.proofs.lemmas.List.Elements.{All-weaker}
use Rattle.st_model.specs.declared.split_at.SplitAt.TheVariants.{Vertex, Link}
use Rattle.search_core.specs.declared.done.Done.{Done}
use Rattle.search_core.specs.declared.done.Done.TheVariants.{Split, Close}
use Rattle.search_core.specs.Complete.{IsAtVertex}
use Rattle.worker_loop.specs.Run.{IsAllowed}

-- where links aren't to be split, each split is at a vertex
pub at_vertices : (links : Bool) → IsFalse links → (done : List Done) → All (IsAllowed links) done → All IsAtVertex done
at_vertices true some done h = absurd (false≢true (sym some))
at_vertices false none done h = All-weaker (IsAllowed false) IsAtVertex each done h
  where
    each : (d : Done) → IsAllowed false d → IsAtVertex d
    each (Split id (Vertex v) i o P) k = tt
    each (Split id (Link a b) i o P) k = absurd (false≢true k)
    each (Close id P) k = tt
