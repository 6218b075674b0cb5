-- Reading a log item by item, over what may follow alone. Helpers' clauses cite this, and no public one.
use Rattle.std.specs.Prelude.{◌≡◌, ℕ, zero, suc, ◌+◌, ◌-◌, ◌≤◌, ◌==◌, Bool, true, false, List, [], ◌∷◌, ◌++◌, Option, Some, None, if◌then◌else◌, codes}
use Rattle.std.specs.Str.{bytes_eq}
use Rattle.plain_text.specs.Steps.{◌>>=◌}
use Rattle.st_model.specs.declared.split_at.SplitAt.{SplitAt}
use Rattle.log_format.specs.declared.item.Item.{Item}
use Rattle.log_format.specs.declared.item.Item.TheVariants.{Header, ClaimTree, ClaimNone, Wall, TreeHead, Arc, StepsHead, OneStep, ProofHead, Split, CloseHead, OneCut, Last}
use Rattle.log_format.specs.declared.log.Version.{Version}
use Rattle.log_format.specs.declared.log.Claim.TheVariants.{NoTree}
use Rattle.log_format.specs.declared.place.Place.{Place}
use Rattle.log_format.specs.declared.place.Place.TheVariants.{BeforeHeader, BeforeClaim, BeforeTree, AmongArcs, AmongSteps, BeforeHalf, AmongCuts, BeforeWall, BeforeEnd, AfterEnd}
use Rattle.log_format.specs.declared.stage.Stage.{Stage}
use Rattle.log_format.specs.declared.stage.Stage.TheVariants.{AtHeader, AtClaim, AtTree, AtArcs, AtSteps, AtHalf, AtCuts, AtWall, AtEnd, AtNothing}
use Rattle.log_format.specs.Text.{header}
use Rattle.log_format.specs.Reading.{number_of, pair_of, cut_of, wall_of, step_of, split_of, most, root_of, cuts_left, split_at, no_step_yet, with_step}
use Rattle.log_format.specs.Reached.{lines_read, IsRead}

-- this item and this place, if the line is this one
abbrev pub said_if : List ℕ → List ℕ → Item → Place → Option (Item × Place)
said_if wanted line item next = if bytes_eq line wanted then Some (item, next) else None

-- what follows where so many cuts of a close are left, and so many halves wait
abbrev pub after_cuts : ℕ → ℕ → Place
after_cuts zero zero = BeforeEnd
after_cuts zero (suc waiting) = BeforeHalf waiting
after_cuts (suc left) waiting = AmongCuts (suc left) waiting

-- a split, or else the head of a close
abbrev pub half_said : Option SplitAt → List ℕ → ℕ → Option (Item × Place)
half_said (Some at) line waiting = Some (Split at, BeforeHalf (waiting + 1))
half_said None line waiting = pair_of (codes "C") 0 1000000 0 most line >>= λ head. Some (CloseHead (root_of head.0) head.1, after_cuts head.1 waiting)

-- what a line of a log of this version says where it stands, and what may follow, if it may stand there
unfoldable pub said : Version → Place → List ℕ → Option (Item × Place)
said version BeforeHeader line = said_if (header version) line (Header version) BeforeClaim
said version BeforeClaim line = if bytes_eq line (codes "CLAIM NONE") then Some (ClaimNone, BeforeWall) else (pair_of (codes "CLAIM TREE") 0 most 0 most line >>= λ b. Some (ClaimTree b.0 b.1, BeforeTree))
said version BeforeTree line = pair_of (codes "TREE") 1 1000000 0 most line >>= λ t. Some (TreeHead t.0 t.1, AmongArcs t.1)
said version (AmongArcs left) line = if left == 0 then (number_of (codes "STEPS") 0 most line >>= λ count. Some (StepsHead count, AmongSteps count))
    else (pair_of (codes "A") 1 1000000 1 1000000 line >>= λ arc. Some (Arc arc.0 arc.1, AmongArcs (left - 1)))
said version (AmongSteps left) line = if left == 0 then said_if (codes "PROOF") line ProofHead (BeforeHalf 0) else (step_of line >>= λ s. Some (OneStep s, AmongSteps (left - 1)))
said version (BeforeHalf waiting) line = half_said (split_of version line) line waiting
said version (AmongCuts left waiting) line = cut_of line >>= λ c. Some (OneCut c, after_cuts (left - 1) waiting)
said version BeforeWall line = wall_of line >>= λ wall. Some (Wall wall, BeforeEnd)
said version BeforeEnd line = said_if (codes "END") line Last AfterEnd
said version AfterEnd line = None

-- the counts of what was read
abbrev pub place_of : Stage → Place
place_of AtHeader = BeforeHeader
place_of AtClaim = BeforeClaim
place_of (AtTree primal dual) = BeforeTree
place_of (AtArcs primal dual start arcs left) = AmongArcs left
place_of (AtSteps a left) = AmongSteps left
place_of (AtHalf p) = BeforeHalf p.waiting
place_of (AtCuts p root cuts left) = AmongCuts left p.waiting
place_of AtWall = BeforeWall
place_of (AtEnd claim) = BeforeEnd
place_of (AtNothing claim) = AfterEnd

-- what was read, with one more item that may stand there
abbrev pub taken : Stage → Item → Stage
taken AtHeader (Header version) = AtClaim
taken AtClaim ClaimNone = AtWall
taken AtClaim (ClaimTree primal dual) = AtTree primal dual
taken (AtTree primal dual) (TreeHead start count) = AtArcs primal dual start [] count
taken (AtArcs primal dual start arcs left) (StepsHead count) = AtSteps (no_step_yet primal dual start arcs) count
taken (AtArcs primal dual start arcs left) (Arc tail head) = AtArcs primal dual start (arcs ++ (tail, head) ∷ []) (left - 1)
taken (AtSteps a left) ProofHead = AtHalf (record { answer = a; lines = []; waiting = 0 })
taken (AtSteps a left) (OneStep s) = AtSteps (with_step a s) (left - 1)
taken (AtHalf p) (Split at) = split_at p at
taken (AtHalf p) (CloseHead root count) = cuts_left p root [] count
taken (AtCuts p root cuts left) (OneCut c) = cuts_left p root (cuts ++ c ∷ []) (left - 1)
taken AtWall (Wall set) = AtEnd (NoTree set)
taken (AtEnd claim) Last = AtNothing claim
taken s _ = s

-- whether no line was read
abbrev pub before_header : Place → Bool
before_header BeforeHeader = true
before_header _ = false

-- where cuts stand some is left
abbrev pub IsPlace : Place → Type 0
IsPlace (AmongCuts left waiting) = 1 ≤ left
IsPlace _ = Unit {0}

-- these lines of a log of this version lead here
pub record IsAfter (lines : List (List ℕ)) (version : Version) (place : Place) : Type 0 where
  pub stage : Stage
  pub read : IsRead version stage
  pub are : lines_read version stage ≡ lines
  pub stands : place_of stage ≡ place
