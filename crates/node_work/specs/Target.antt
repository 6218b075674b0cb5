-- What packings are raised for, and what is raised and found for that.
use Rattle.cut_packing.specs.declared.packing.Packing.{Packing}
use Rattle.dual_ascent.specs.declared.extension.Extension.{Extension}
use Rattle.node_work.specs.declared.step.Finding.{Finding}
use Rattle.node_work.specs.declared.target.Target.{Target}
use Rattle.node_work.specs.Finding.{IsFinding}
use Rattle.node_work.specs.Raising.{IsExtendable, IsExtendedTo, IsRaised, IsRefined}

-- the packing can be extended for the root until it weighs the most
abbrev pub IsExtendableFor : Target → Packing → Type 0
IsExtendableFor t P = IsExtendable t.place.whole.now.instance t.place.branch.now P t.root t.least

-- it is extended so
abbrev pub IsExtendedFor : Target → Packing → Extension → Type 0
IsExtendedFor t P e = IsExtendedTo t.place.whole.now.instance t.place.whole.now.store t.place.branch.now P t.root t.least e

-- what is left with an extension is what its cuts leave
abbrev pub IsRaisedFor : Target → Extension → Type 0
IsRaisedFor t e = IsRaised t.place.whole.now.instance t.place.whole.now.store t.place.branch.now t.root t.least e

-- the second extension extends each packing that the first does
abbrev pub IsRefinedFor : Target → Extension → Extension → Type 0
IsRefinedFor t first e = IsRefined t.place.whole.now.instance t.place.whole.now.store t.place.branch.now t.root t.least first e

-- what is found beside a packing, where the most is the least cost known
abbrev pub IsFindingFor : Target → Finding → Type 0
IsFindingFor t f = IsFinding t.place.whole.now.instance t.place.branch.now t.least f
