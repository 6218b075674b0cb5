use Rattle.std.proofs.Common.{◌≡◌, ℕ, ◌+◌, List, [], take, replicate, None}
use Rattle.std.specs.Prelude.{All}
use Rattle.st_model.specs.declared.link.Link.{Link}
use Rattle.short_paths.specs.Marks.{bests_of, places_of}
use Rattle.short_paths.specs.Searching.{IsSearch, IsOffered}
use Rattle.short_paths.proofs.search.Search.start.Given as goal

abbrev pub invariant-loop-source : goal.invariant-loop-source
invariant-loop-source l = record {
  settled : l.search.settled.items ≡ [];
  places : places_of l.search.marks.items ≡ replicate (l.vertices + 1) None;
  kept : (links : List Link) (limit : ℕ) → IsSearch links l.vertices l.sources limit (bests_of l.search.marks.items) (places_of l.search.marks.items) l.search.settled.items l.search.queue;
  started : All (λ s. IsOffered (bests_of l.search.marks.items) s 0) (take l.source-index l.sources);
}
