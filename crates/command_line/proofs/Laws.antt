-- What words mean that clap takes, or refuses.
use Rattle.std.proofs.Common.{◌≡◌, true, false, List, [], ◌∷◌, Option, Some, None, Result, Ok, Err, refl, sym, ◌∙◌, inl, inr, option_map, option_and_then, subst, ap, arith}
use Rattle.std.specs.Prelude.{IfOk, IsErrOf}
use Rattle.std.specs.Option.{ok_or}
use Rattle.std.proofs.lemmas.Bool.Decides.{nat_tests}
use Rattle.clap.specs.Faults.{fault_of}
use Rattle.clap.specs.Kinds.{Kinds, HasKind}
use Rattle.clap.specs.Simple.{App, HasMatchesOf, subcommand_of, subcommand_rows_of, is_simple}
use Rattle.clap.specs.Faults.{is_simple_and_free}
use Rattle.clap.specs.Values.{kind_of}
use Rattle.clap.specs.Walk.{Row, Text, is_empty}
use Rattle.clap.specs.declared.error.Error.{Error}
use Rattle.clap.specs.declared.parser.matches.ArgMatches.{ArgMatches}
use Rattle.clap.specs.declared.error.kind.ErrorKind.TheVariants.{OutOfMemory}
use Rattle.clap.proofs.OnLiterals.{clap_on_literals}
use Rattle.command_line.specs.declared.cmd.Cmd.{Cmd}
use Rattle.command_line.specs.declared.parse.WordFault.{WordFault}
use Rattle.command_line.specs.declared.parse.WordFault.TheVariants.{Usage}
use Rattle.command_line.specs.Seen.{command}
use Rattle.command_line.specs.Words.{program, command_of, meant}

-- clap's matches of the program are those of its definitions
pub program_is_simple : is_simple program ≡ true
unfolding clap_on_literals
program_is_simple = refl

pub program_is_free : is_simple_and_free program ≡ true
unfolding clap_on_literals
program_is_free = refl

-- an error other than want of memory says that some step fails
pub some_fault : (kinds : Kinds) (e : Error) → HasKind kinds e → (kind_of e ≡ OutOfMemory → ⊥) → is_empty kinds ≡ false
some_fault [] e h other = elim h [
  | inl memory ↦ absurd (other memory)
  | inr none ↦ absurd none
]
some_fault (k ∷ kinds) e h other = grind (arith, nat_tests)

-- what clap refuses is no command
pub refused_means_none : (words : List Text) → is_empty (fault_of program words) ≡ false → command_of words ≡ None
unfolding command_of
refused_means_none words refused = rw (refused) refl

-- what clap takes means what its matches mean
pub taken_means : (words : List Text) (rows : Option (Text × List Row)) (cmd : Option Cmd) → is_empty (fault_of program words) ≡ true → rows ≡ subcommand_of program words → option_map command cmd ≡ option_and_then meant rows → command_of words ≡ option_map command cmd
unfolding command_of
taken_means words rows cmd taken same means =
    let start : command_of words ≡ option_and_then meant rows = rw (taken, ← same) refl in
    start ∙ sym means

-- the answer is the command, where there is one
pub answer_found : (words : List Text) (cmd : Option Cmd) (result : Result Cmd WordFault) → result ≡ ok_or cmd Usage → command_of words ≡ option_map command cmd → IfOk result (λ found. command_of words ≡ Some (command found))
answer_found words (Some cmd) result is means = subst (λ r. IfOk r (λ found. command_of words ≡ Some (command found))) (sym is) means
answer_found words None result is means = subst (λ r. IfOk r (λ found. command_of words ≡ Some (command found))) (sym is) tt

-- a command is no refusal
no_fault : {A : Type 0} (cmd : Cmd) → Ok cmd ≡ Err Usage → A
no_fault cmd h = absurd cc

-- and a refusal only where there is none
pub answer_usage : (words : List Text) (cmd : Option Cmd) (result : Result Cmd WordFault) → result ≡ ok_or cmd Usage → command_of words ≡ option_map command cmd → IsErrOf result Usage → command_of words ≡ None
answer_usage words (Some cmd) result is means h = no_fault cmd (sym is ∙ h)
answer_usage words None result is means h = means

-- an error of the program's other than want of memory says that clap refuses the words
pub refused_words : (app : App) (words : List Text) (e : Error) → app ≡ program → (is_simple_and_free app ≡ true → HasKind (fault_of app words) e) → (kind_of e ≡ OutOfMemory → ⊥) → is_empty (fault_of program words) ≡ false
refused_words app words e same kinds other =
    some_fault (fault_of program words) e (subst (λ a. HasKind (fault_of a words) e) same (kinds (subst (λ a. is_simple_and_free a ≡ true) (sym same) program_is_free))) other

-- matches of the program say that clap takes the words
pub taken_words : (app : App) (words : List Text) → app ≡ program → (is_simple_and_free app ≡ true → fault_of app words ≡ []) → is_empty (fault_of program words) ≡ true
taken_words app words same taken = ap is_empty (subst (λ a. fault_of a words ≡ []) same (taken (subst (λ a. is_simple_and_free a ≡ true) (sym same) program_is_free)))

-- and are those that its words have
pub matched_words : (app : App) (words : List Text) (m : ArgMatches) → app ≡ program → HasMatchesOf app words m → subcommand_rows_of m ≡ subcommand_of program words
matched_words app words m same matched = subst (λ a. subcommand_rows_of m ≡ subcommand_of a words) same (matched (subst (λ a. is_simple a ≡ true) (sym same) program_is_simple)).1

-- what stands after an error
pub fault_is : (T : Type 0) (fault other : WordFault) → IsErrOf {T = T} (Err fault) other → fault ≡ other
fault_is T fault other h = cc

-- an error is passed on as it is
pub same_fault : (T U : Type 0) (fault other : WordFault) → IsErrOf {T = T} (Err fault) other → IsErrOf {T = U} (Err fault) other
same_fault T U fault other h = let same : fault ≡ other = cc in ap Err same
