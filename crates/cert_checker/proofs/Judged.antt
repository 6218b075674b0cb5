-- What follows a close on the path of a proof, and a packing that weighs too little.
use Rattle.std.proofs.Common.{◌≡◌, ℕ, ◌<◌, List, [], ◌∷◌, Some, inl, inr, refl, sym, ap, subst, ◌∙◌, arith}
use Rattle.st_model.specs.declared.branch.Branch.{Branch}
use Rattle.st_model.specs.Ground.{Ground}
use Rattle.cut_packing.specs.declared.packing.Packing.{Packing}
use Rattle.cut_packing.specs.Packing.{FitsIn, weight_in}
use Rattle.log_format.specs.declared.kind.Kind.TheVariants.{TooLight}
use Rattle.log_format.specs.declared.proof_line.ProofLine.TheVariants.{Close}
use Rattle.cert_checker.specs.declared.fault.JudgeError.{JudgeError}
use Rattle.cert_checker.specs.declared.fault.JudgeError.TheVariants.{Fault}
use Rattle.cert_checker.specs.declared.turn.Turn.{Turn}
use Rattle.cert_checker.specs.declared.turn.Turn.TheVariants.{Inside, Outside, Used, Barred}
use Rattle.cert_checker.specs.Path.{waiting, open_branches, next_path, AreSplitsIn}
use Rattle.cert_checker.specs.Judging.{IfFault, IsWrongLine}
use Rattle.cert_checker.proofs.Paths.{opened, waiting-next_path}

-- the splits of the path after a half that is done with
pub splits-next_path : (G : Ground) (path next : List Turn) → next_path path ≡ Some next → AreSplitsIn G path → AreSplitsIn G next
splits-next_path G [] next e splits = absurd cc
splits-next_path G (Inside v ∷ path) next e splits = let same : Outside v ∷ path ≡ next = cc in subst (AreSplitsIn G) same splits
splits-next_path G (Outside v ∷ path) next e splits = splits-next_path G path next e splits.1
splits-next_path G (Used a b a_came b_came ∷ path) next e splits = let same : Barred a b ∷ path ≡ next = cc in subst (AreSplitsIn G) same ((splits.0.0, tt), splits.1)
splits-next_path G (Barred a b ∷ path) next e splits = splits-next_path G path next e splits.1

-- what waits is what is open on the next path
pub waiting_is : (path next : List Turn) → next_path path ≡ Some next → waiting path ≡ open_branches next
waiting_is path next e = waiting-next_path path ∙ ap opened e

-- a packing that fits and doesn't weigh enough is a wrong line
pub too_light : (G : Ground) (x : ℕ) (B : Branch) (at : ℕ) (P : Packing) (e : JudgeError) → FitsIn G B P → weight_in G B P < x → e ≡ Fault (record { line = at; kind = TooLight }) → IfFault e (IsWrongLine G x B at (Close P))
too_light G x B at P e fits light is = subst (λ (e' : JudgeError). IfFault e' (IsWrongLine G x B at (Close P))) (sym is) (inr (fits, inl ((λ heavy. absurd (omega arith)), refl, refl)))
