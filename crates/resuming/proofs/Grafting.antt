-- What the searches that went on are to a graft: searches of closes, in their order, that split at vertices alone.
use Rattle.std.proofs.Common.{◌≡◌, ℕ, ◌-◌, List, [], ◌∷◌, ◌++◌, sym, ap, ◌∙◌, subst}
use Rattle.std.specs.Prelude.{All}
use Rattle.std.proofs.lemmas.List.Elements.{All-cons, All-nil}
use Rattle.st_model.specs.Network.{Network}
use Rattle.cut_packing.specs.ProofTree.{ProofTree}
use Rattle.branching.specs.declared.node.Node.{Node}
use Rattle.lift_back.specs.declared.step.Step.{Step}
use Rattle.lift_back.specs.State.{State}
use Rattle.log_format.specs.declared.log.Log.{Log}
use Rattle.log_format.specs.declared.log.Claim.{Claim}
use Rattle.log_format.specs.declared.log.Claim.TheVariants.{Found, NoTree}
use Rattle.log_format.specs.declared.proof_line.ProofLine.{ProofLine}
use Rattle.log_format.specs.Accepts.{left_over}
use Rattle.search_core.specs.declared.gathered.Searched.{Searched}
use Rattle.search_core.specs.Complete.{IsAtVertex, IsComplete, records}
use Rattle.certificate_log.proofs.Proved.{one_proof}
use Rattle.log_resume.specs.Closes.{closes_of}
use Rattle.log_resume.specs.Grafted.{AreSearchesIn, AreSearchesOf, IsProofOf, none, passed, searched as found}
use Rattle.resuming.specs.GoingOn.{GoOn, ended, searched}

passed_all : (I : Network) (before closes : List Node) (Es : List Searched) → AreSearchesOf I closes Es → AreSearchesOf I (before ++ closes) Es
passed_all I [] closes Es are = are
passed_all I (N ∷ before) closes Es are = passed (passed_all I before closes Es are)

pub searches_of : (I : Network) (closes : List Node) (least budget : ℕ) (Es : List Searched) (last : ℕ) → GoOn I closes least budget Es last → AreSearchesOf I closes Es
searches_of I closes least budget Es last (ended heavy) = none
searches_of I closes least budget Es last (searched {rest} {N} {E} {more} next ran later) =
    let complete : IsComplete E.gathered I N.branch E.start E.budget = rw (ran.start_is, ran.budget_is) ran.complete in
    let here : AreSearchesOf I (N ∷ rest) (E ∷ more) = found ran.close_is complete ran.writable (searches_of I rest E.gathered.least (budget - E.gathered.claimed) more last later) in
    subst (λ (Ns : List Node). AreSearchesOf I Ns (E ∷ more)) (sym next.parts) (passed_all I next.before (N ∷ rest) (E ∷ more) here)

pub all_at_vertices : (I : Network) (closes : List Node) (least budget : ℕ) (Es : List Searched) (last : ℕ) → GoOn I closes least budget Es last → All (λ E. All IsAtVertex (records E.gathered)) Es
all_at_vertices I closes least budget Es last (ended heavy) = All-nil (λ E. All IsAtVertex (records E.gathered))
all_at_vertices I closes least budget Es last (searched {rest} {E} {more} next ran later) =
    All-cons (λ E. All IsAtVertex (records E.gathered)) E more ran.sites (all_at_vertices I rest E.gathered.least (budget - E.gathered.claimed) more last later)

-- ---- what a log claims

-- the lines of a claim's proof; none where it claims no tree
abbrev lines_in : Claim → List ProofLine
lines_in (Found primal dual tree steps proof) = proof
lines_in (NoTree wall) = []

-- a log has one proof
pub same_proof : (s t : State) (log : Log) (steps other_steps : List Step) (p q : ProofTree) → IsProofOf s log steps p → IsProofOf t log other_steps q → p ≡ q
same_proof s t log steps other_steps p q one other =
    let lines : one.proof ≡ other.proof = ap lines_in (sym one.claims ∙ other.claims) in
    one_proof p q (sym one.lines ∙ (lines ∙ other.lines))

pub are_searches : (s : State) (log : Log) (steps : List Step) (p : ProofTree) (start budget : ℕ) (Es : List Searched) (last : ℕ) → IsProofOf s log steps p → GoOn s.instance (closes_of (left_over s) p) start budget Es last → AreSearchesIn s log Es
are_searches s log steps p start budget Es last is gone other_steps q other =
    let same = same_proof s s log steps other_steps p q is other in
    subst (λ (r : ProofTree). AreSearchesOf s.instance (closes_of (left_over s) r) Es) same (searches_of s.instance (closes_of (left_over s) p) start budget Es last gone)
