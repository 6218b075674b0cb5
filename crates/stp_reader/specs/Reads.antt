-- The instance that a text stands for, and why a text stands for none.
use Rattle.std.specs.Prelude.{◌≡◌, ℕ, ◌+◌, ◌⊎◌, List, [], ◌∷◌, ◌++◌, length, map, Option, Some, None}
use Rattle.amounts.specs.declared.scale.Scale.{Scale}
use Rattle.st_model.specs.Network.{Network}
use Rattle.st_model.specs.Stated.{network_of}
use Rattle.arborescence.specs.DiNetwork.{DiNetwork}
use Rattle.arborescence.specs.Stated.{di_network_of}
use Rattle.arborescence.specs.Problem as problem
use Rattle.stp_reader.specs.declared.mode.Mode.{Mode}
use Rattle.stp_reader.specs.declared.mode.Mode.TheVariants.{Plain, Any}
use Rattle.stp_reader.specs.declared.reason.Reason.{Reason}
use Rattle.stp_reader.specs.declared.fault.ReadError.{ReadError}
use Rattle.stp_reader.specs.declared.fault.ReadError.TheVariants.{Fault, NoMemory}
use Rattle.stp_reader.specs.Reason.{least}
use Rattle.stp_reader.specs.Lines.{word_lines}
use Rattle.stp_reader.specs.Place.{File, DiFile, Contents, undirected, directed, whole, Place, at_header, outside, after_end, after, after_all}
use Rattle.stp_reader.specs.Reasons.{reasons, end_reasons}
use Rattle.stp_reader.specs.Unit.{amounts_of, scale_of, link_in, stated_in}

-- no line of these has a reason, the first of them standing at this place
abbrev pub AllRight : Mode → Place → List (List (List ℕ)) → Type 0
AllRight mode place [] = Unit {0}
AllRight mode place (line ∷ lines) = (reasons mode place line ≡ []) × AllRight mode (after mode place line) lines

-- what a whole file states, at the place after it
abbrev pub contents_at : Place → Option Contents
contents_at (outside (whole c)) = Some c
contents_at (after_end c) = Some c
contents_at _ = None

-- no line has a reason, and the text ends where all is stated: this
pub record IsRead (mode : Mode) (lines : List (List (List ℕ))) (c : Contents) : Type 0 where
  pub right : AllRight mode at_header lines
  pub contents : contents_at (after_all mode at_header lines) ≡ Some c

-- the unit of a file, by all amounts that it says
abbrev pub scale_from : File → Scale
scale_from f = scale_of (amounts_of f.links f.needs)

-- the instance of a file, its costs and prizes in this unit
abbrev pub network_from : File → Network
network_from f = network_of f.n (map (link_in (scale_from f)) f.links) (map (stated_in (scale_from f)) f.needs)

-- the bytes are the text of this instance, whose costs and prizes count units of this scale
abbrev pub Reads : List ℕ → Network → Scale → Type 0
Reads bytes I scale = (f : File) × IsRead Plain (word_lines bytes) (undirected f) × (I ≡ network_from f) × (scale ≡ scale_from f)

-- the same of a directed file
abbrev pub di_scale_from : DiFile → Scale
di_scale_from f = scale_of (amounts_of f.arcs [])

abbrev pub di_network_from : DiFile → DiNetwork
di_network_from f = di_network_of f.n f.root (map (link_in (di_scale_from f)) f.arcs) f.terminals

-- the unit and the instance of a file of either kind
abbrev pub scale_in : Contents → Scale
scale_in (undirected f) = scale_from f
scale_in (directed f) = di_scale_from f

abbrev pub problem_in : Contents → problem.Problem
problem_in (undirected f) = problem.plain (network_from f)
problem_in (directed f) = problem.directed (di_network_from f)

-- the bytes are the text of this instance of either kind, in a mode, and count units of this scale
abbrev pub ReadsIn : Mode → List ℕ → problem.Problem → Scale → Type 0
ReadsIn mode bytes P scale = (c : Contents) × IsRead mode (word_lines bytes) c × (P ≡ problem_in c) × (scale ≡ scale_in c)

abbrev pub ReadsFile : List ℕ → problem.Problem → Scale → Type 0
ReadsFile bytes P scale = ReadsIn Any bytes P scale

-- a line is the first that has a reason, and this is the least of its reasons; lines are numbered from 1
pub record IsFirstBad (mode : Mode) (lines : List (List (List ℕ))) (line : ℕ) (reason : Reason) : Type 0 where
  pub before : List (List (List ℕ))
  pub bad : List (List ℕ)
  pub others : List (List (List ℕ))
  pub split : lines ≡ before ++ bad ∷ others
  pub number : line ≡ length before + 1
  pub right : AllRight mode at_header before
  pub why : least (reasons mode (after_all mode at_header before) bad) ≡ Some reason

-- no line has a reason, but the text may not end after the last, and this is the least reason for that; it counts as one line more
pub record IsBadEnd (mode : Mode) (lines : List (List (List ℕ))) (line : ℕ) (reason : Reason) : Type 0 where
  pub number : line ≡ length lines + 1
  pub right : AllRight mode at_header lines
  pub why : least (end_reasons (after_all mode at_header lines)) ≡ Some reason

-- the bytes are the text of no instance, in a mode: the first line with a reason, and the least of its reasons
abbrev pub RefusedIn : Mode → List ℕ → ℕ → Reason → Type 0
RefusedIn mode bytes line reason = IsFirstBad mode (word_lines bytes) line reason ⊎ IsBadEnd mode (word_lines bytes) line reason

-- the bytes are the text of no instance of links
abbrev pub Refused : List ℕ → ℕ → Reason → Type 0
Refused bytes line reason = RefusedIn Plain bytes line reason

-- the bytes are the text of no instance of either kind
abbrev pub RefusedFile : List ℕ → ℕ → Reason → Type 0
RefusedFile bytes line reason = RefusedIn Any bytes line reason

-- what was answered is that fault, where it isn't memory
abbrev pub IsRefusedBy : List ℕ → ReadError → Type 0
IsRefusedBy bytes (Fault f) = Refused bytes f.line f.reason
IsRefusedBy bytes NoMemory = Unit {0}

abbrev pub IsFileRefusedBy : List ℕ → ReadError → Type 0
IsFileRefusedBy bytes (Fault f) = RefusedFile bytes f.line f.reason
IsFileRefusedBy bytes NoMemory = Unit {0}
