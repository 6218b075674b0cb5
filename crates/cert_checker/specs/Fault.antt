-- The faults of a file as those of a check.
use Rattle.std.specs.Prelude.{ℕ, List}
use Rattle.stp_reader.specs.Reads.{Refused, RefusedFile}
use Rattle.stp_reader.specs.declared.fault.ReadError as file
use Rattle.stp_reader.specs.declared.fault.ReadError.TheVariants as file_error
use Rattle.cert_checker.specs.declared.fault.CheckFault.{CheckFault}
use Rattle.cert_checker.specs.declared.fault.CheckFault.TheVariants.{Stp, Log, NoMemory}

-- the fault of a file that isn't read
abbrev pub fault_of_file : file.ReadError → CheckFault
fault_of_file (file_error.Fault f) = Stp f
fault_of_file file_error.NoMemory = NoMemory

-- where it isn't memory, this is the first fault of the file
abbrev pub IsFaultOfFile : List ℕ → CheckFault → Type 0
IsFaultOfFile stp (Stp f) = Refused stp f.line f.reason
IsFaultOfFile stp (Log f) = ⊥
IsFaultOfFile stp NoMemory = Unit {0}

-- the same of a file of either kind
abbrev pub IsFaultOfAnyFile : List ℕ → CheckFault → Type 0
IsFaultOfAnyFile file (Stp f) = RefusedFile file f.line f.reason
IsFaultOfAnyFile file (Log f) = ⊥
IsFaultOfAnyFile file NoMemory = Unit {0}
