-- The numbers and names of what can be wrong with a log.
use Rattle.std.specs.Prelude.{ℕ, List, codes}
use Rattle.log_format.specs.declared.kind.Kind.{Kind}
use Rattle.log_format.specs.declared.kind.Kind.TheVariants.{BadLine, EndsEarly, NotTree, WrongCost, DualAbovePrimal, BadStep, BadSplit, BadPacking, TooLight, BadWall}

abbrev pub code_of : Kind → ℕ
code_of BadLine = 1
code_of EndsEarly = 2
code_of NotTree = 3
code_of WrongCost = 4
code_of DualAbovePrimal = 5
code_of BadStep = 6
code_of BadSplit = 7
code_of BadPacking = 8
code_of TooLight = 9
code_of BadWall = 10

abbrev pub name_of : Kind → List ℕ
name_of BadLine = codes "BadLine"
name_of EndsEarly = codes "EndsEarly"
name_of NotTree = codes "NotTree"
name_of WrongCost = codes "WrongCost"
name_of DualAbovePrimal = codes "DualAbovePrimal"
name_of BadStep = codes "BadStep"
name_of BadSplit = codes "BadSplit"
name_of BadPacking = codes "BadPacking"
name_of TooLight = codes "TooLight"
name_of BadWall = codes "BadWall"
