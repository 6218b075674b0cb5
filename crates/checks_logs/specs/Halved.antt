-- What is gathered of a search over two vertices that is split at their link, and where that is barred at a vertex.
use Rattle.std.specs.Prelude.{List, [], ◌∷◌, None, Some}
use Rattle.st_model.specs.declared.need.Need.TheVariants.{Pays}
use Rattle.st_model.specs.declared.split_at.SplitAt.TheVariants.{Vertex, Link}
use Rattle.st_model.specs.Network.{Network}
use Rattle.cut_packing.specs.declared.packing.Packing.{Packing}
use Rattle.search_core.specs.declared.done.Done.{Done}
use Rattle.search_core.specs.declared.done.Done.TheVariants.{Split, Close}
use Rattle.search_core.specs.declared.done.End.TheVariants.{OpenZero}
use Rattle.search_core.specs.declared.gathered.Gathered.{Gathered}
use Rattle.search_core.specs.State.{no_cuts}
use Rattle.test_instances.specs.Named.{network_of_pair}

-- two vertices at 5 from each other, where it costs 9 to leave one out
abbrev pub two : Network
two = network_of_pair (Pays 9) (Pays 9)

-- one cut round 2, which it names
abbrev pub round_2 : Packing
round_2 = record { root = Some 1; cuts = record { set = 2 ∷ []; q = 2; y = 5 } ∷ [] }

-- with the link a node closes by what that costs; without it, one with 1 by the cut, and one without 1 by what 1 pays
abbrev pub all_done : List Done
all_done = Split 0 (Link 1 2) 1 2 no_cuts ∷ Close 1 no_cuts ∷ Split 2 (Vertex 1) 3 4 no_cuts ∷ Close 3 round_2 ∷ Close 4 no_cuts ∷ []

-- one worker did it, and nothing waits
abbrev pub halved : Gathered
halved = record { segments = record { done = all_done; left = []; best = None; seen = 5; end = OpenZero } ∷ []; queued = []; least = 5; claimed = 5 }
