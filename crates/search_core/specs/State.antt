-- The state of a search by several workers: the nodes that were made, and what each worker holds and saw.
use Rattle.std.specs.Prelude.{ℕ, zero, suc, ◌==◌, Bool, false, List, [], ◌∷◌, Option, None, find, option_and_then, slice_get, replicate, if◌then◌else◌}
use Rattle.std.specs.Option.{option_map_or}
use Rattle.st_model.specs.declared.branch.Branch.{Branch}
use Rattle.st_model.specs.Network.{Network}
use Rattle.cut_packing.specs.declared.packing.Packing.{Packing}
use Rattle.branching.specs.declared.node.Node.{Node}
use Rattle.search_core.specs.declared.done.End.TheVariants.{OpenZero}
use Rattle.search_core.specs.declared.made.Made.{Made}
use Rattle.search_core.specs.declared.made.Place.TheVariants.{Queue}
use Rattle.search_core.specs.declared.worker.Worker.{Worker}

pub record State : Type 0 where
  pub instance : Network
  -- the branch that the search began with: only its trees are asked for
  pub branch : Branch
  -- the cost that the search started with
  pub start : ℕ
  -- how many claims may be granted
  pub budget : ℕ
  -- every node that was made, the first first
  pub nodes : List Made
  -- workers 0, 1, ..
  pub workers : List Worker
  -- the least of the start cost and all offers
  pub least : ℕ
  -- how many claims were granted
  pub claims : ℕ
  -- how many nodes are counted as open
  pub opened : ℕ
  pub halted : Bool

-- whether this is the node's id
abbrev pub has_id : ℕ → Made → Bool
has_id id m = id == m.node.id

-- the node that was made under an id
abbrev pub made_as : State → ℕ → Option Made
made_as S id = find (has_id id) S.nodes

-- the id of the node in the hand of w
abbrev pub hand : State → ℕ → Option ℕ
hand S w = option_and_then (λ x. x.hand) (slice_get S.workers w)

-- the node in the hand of w
abbrev pub held : State → ℕ → Option Made
held S w = option_and_then (made_as S) (hand S w)

-- the value that w saw last
abbrev pub seen : State → ℕ → ℕ
seen S w = option_map_or (λ x. x.seen) (slice_get S.workers w) 0

-- the list with a change of what stands at a place
abbrev pub changed_at : {X : Type 0} → List X → ℕ → (X → X) → List X
changed_at [] k f = []
changed_at (x ∷ xs) zero f = f x ∷ xs
changed_at (x ∷ xs) (suc k) f = x ∷ changed_at xs k f

-- the nodes with a change of the one under an id
abbrev pub with_made : List Made → ℕ → (Made → Made) → List Made
with_made [] id f = []
with_made (m ∷ ms) id f = if has_id id m then f m ∷ ms else m ∷ with_made ms id f

-- the state with a change of one node
abbrev pub with_node : State → ℕ → (Made → Made) → State
with_node S id f = record S { nodes = with_made S.nodes id f }

-- the state with a change of one worker
abbrev pub with_worker : State → ℕ → (Worker → Worker) → State
with_worker S w f = record S { workers = changed_at S.workers w f }

-- a worker that has done nothing yet
abbrev pub new_worker : ℕ → Worker
new_worker start = record { hand = None; seen = start; offered = start; refused = false; up = false; closes = 0; done = []; end = OpenZero }

-- a packing without cuts
abbrev pub no_cuts : Packing
no_cuts = record { root = None; cuts = [] }

-- the node that a search starts from, of the whole branch and with this packing
abbrev pub root_of : Branch → Packing → Node
root_of R P = record { id = 0; branch = R; packing = P }

-- the state before any event, of so many workers who search a branch from a packing on
abbrev pub beginning : Network → Branch → Packing → ℕ → ℕ → ℕ → State
beginning I R P workers budget start =
    record {
      instance = I;
      branch = R;
      start = start;
      budget = budget;
      nodes = record { node = root_of R P; place = Queue 0; claimed = false } ∷ [];
      workers = replicate workers (new_worker start);
      least = start;
      claims = 0;
      opened = 1;
      halted = false;
    }
