-- The state that a search is seen as.
use Rattle.search_core.specs.declared.search.Search.TheInside.{Inside}
use Rattle.search_core.specs.State.{State}

-- what the fields of a search say
abbrev pub state_of : Inside → State
state_of s =
    record {
      instance = s.instance;
      branch = s.branch;
      start = s.start;
      budget = s.budget;
      nodes = s.nodes;
      workers = s.workers.items;
      least = s.least;
      claims = s.claims;
      opened = s.opened;
      halted = s.halted;
    }
