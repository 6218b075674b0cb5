-- A proof whose lines so far are right goes on by a line, ends with it, or is wrong at it.
use Rattle.std.proofs.Common.{◌≡◌, ℕ, ◌+◌, List, [], ◌∷◌, ◌++◌, Some, None, inl, inr, length, sym, ap, subst, ◌∙◌, append_assoc, arith}
use Rattle.std.proofs.lemmas.List.{length-map}
use Rattle.st_model.specs.declared.branch.Branch.{Branch}
use Rattle.st_model.specs.Ground.{Ground}
use Rattle.st_model.specs.Branch.{yes_half, no_half}
use Rattle.log_format.specs.declared.kind.Kind.{Kind}
use Rattle.log_format.specs.declared.proof_line.ProofLine.{ProofLine}
use Rattle.log_format.specs.declared.proof_line.ProofLine.TheVariants.{Split, Close}
use Rattle.log_format.specs.Accepts.{IsFirstWrongOver}
use Rattle.log_format.specs.Text.{lines_of, cut_line}
use Rattle.log_format.proofs.Rejecting.{IsRightIn}
use Rattle.cert_checker.specs.declared.turn.Turn.{Turn}
use Rattle.cert_checker.specs.Path.{branch_of, waiting, open_branches, next_path, yes_path, path_after, AreSplitsIn}
use Rattle.cert_checker.specs.Judging.{IsRightLine, IsWrongLine}
use Rattle.cert_checker.specs.Following.{AreRight, GoesOn}
use Rattle.cert_checker.proofs.Judged.{splits-next_path, waiting_is}
use Rattle.cert_checker.proofs.Paths.{opened, splits-yes_path, branch_of-yes_path, waiting-yes_path, waiting-next_path}

-- lines that are right are so in the words of logs
pub are_right : (G : Ground) (x : ℕ) (Bs : List Branch) (lines : List ProofLine) → AreRight G x Bs lines → IsRightIn G x Bs lines
are_right G x [] [] right = tt
are_right G x [] (line ∷ lines) right = right
are_right G x (B ∷ Bs) [] right = right
are_right G x (B ∷ Bs) (Split at ∷ lines) right = (right.0, are_right G x (yes_half B at ∷ no_half B at ∷ Bs) lines right.1)
are_right G x (B ∷ Bs) (Close P ∷ lines) right = (right.0, are_right G x Bs lines right.1)

-- at the start, where no half waits
pub begins : (G : Ground) (x first : ℕ) (path : List Turn) → AreSplitsIn G path → waiting path ≡ [] → GoesOn G x first (branch_of path) [] path first
begins G x first path splits alone = record {
  splits = splits;
  right = λ rest right. subst (λ (Bs : List Branch). AreRight G x (branch_of path ∷ Bs) rest) alone right;
  wrong = λ rest line kind wrong. subst (λ (Bs : List Branch). IsFirstWrongOver G x (branch_of path ∷ Bs) first rest line kind) alone wrong;
}

-- by a right line that isn't the last
pub goes_on : (G : Ground) (x first : ℕ) (B : Branch) (lines : List ProofLine) (path next : List Turn) (number : ℕ) (line : ProofLine) → IsRightLine G x (branch_of path) line
    → path_after path line ≡ Some next → GoesOn G x first B lines path number
    → GoesOn G x first B (lines ++ line ∷ []) next (number + length (lines_of line))
goes_on G x first B lines path next number (Split at) is_right e before =
    let same : yes_path path at ≡ next = cc in
    let opens : open_branches (yes_path path at) ≡ yes_half (branch_of path) at ∷ no_half (branch_of path) at ∷ waiting path = λ i. branch_of-yes_path path at i ∷ waiting-yes_path path at i in
    subst (λ (p : List Turn). GoesOn G x first B (lines ++ Split at ∷ []) p (number + 1)) same (record {
      splits = splits-yes_path G path at is_right before.splits;
      right = λ rest right. subst (AreRight G x (B ∷ [])) (sym (append_assoc lines (Split at ∷ []) rest)) (before.right (Split at ∷ rest) (is_right, subst (λ (Bs : List Branch). AreRight G x Bs rest) opens right));
      wrong = λ rest line kind wrong. subst (λ (ls : List ProofLine). IsFirstWrongOver G x (B ∷ []) first ls line kind) (sym (append_assoc lines (Split at ∷ []) rest))
          (before.wrong (Split at ∷ rest) line kind (inr (is_right, subst (λ (Bs : List Branch). IsFirstWrongOver G x Bs (number + 1) rest line kind) opens wrong)));
    })
goes_on G x first B lines path next number (Close P) is_right e before =
    let open_next = waiting_is path next e in
    let count : number + length (lines_of (Close P)) ≡ number + 1 + length P.cuts = omega (arith, length-map P.cuts cut_line) in
    record {
      splits = splits-next_path G path next e before.splits;
      right = λ rest right. subst (AreRight G x (B ∷ [])) (sym (append_assoc lines (Close P ∷ []) rest)) (before.right (Close P ∷ rest) (is_right, subst (λ (Bs : List Branch). AreRight G x Bs rest) (sym open_next) right));
      wrong = λ rest line kind wrong. subst (λ (ls : List ProofLine). IsFirstWrongOver G x (B ∷ []) first ls line kind) (sym (append_assoc lines (Close P ∷ []) rest))
          (before.wrong (Close P ∷ rest) line kind (inr (is_right.fits, inr (is_right.weighs, subst (λ (n : ℕ). IsFirstWrongOver G x (waiting path) n rest line kind) count (subst (λ (Bs : List Branch). IsFirstWrongOver G x Bs (number + length (lines_of (Close P))) rest line kind) (sym open_next) wrong)))));
    }

-- nothing waits after the last line
pub none_waits_after : (path : List Turn) → next_path path ≡ None → waiting path ≡ []
none_waits_after path e = waiting-next_path path ∙ ap opened e

-- all are right where the last line is
pub ends : (G : Ground) (x first : ℕ) (B : Branch) (lines : List ProofLine) (path : List Turn) (number : ℕ) (line : ProofLine) → IsRightLine G x (branch_of path) line
    → path_after path line ≡ None → GoesOn G x first B lines path number
    → AreRight G x (B ∷ []) (lines ++ line ∷ [])
ends G x first B lines path number (Split at) is_right e before = absurd cc
ends G x first B lines path number (Close P) is_right e before =
    before.right (Close P ∷ []) (is_right, subst (λ (Bs : List Branch). AreRight G x Bs []) (sym (none_waits_after path e)) tt)

-- a wrong line is the first that is wrong, whatever comes after it
pub goes_wrong : (G : Ground) (x first : ℕ) (B : Branch) (lines : List ProofLine) (path : List Turn) (number : ℕ) (line : ProofLine) (rest : List ProofLine) (l : ℕ) (k : Kind)
    → IsWrongLine G x (branch_of path) number line l k → GoesOn G x first B lines path number
    → IsFirstWrongOver G x (B ∷ []) first (lines ++ (line ∷ rest)) l k
goes_wrong G x first B lines path number (Split at) rest l k (inl bad) before = before.wrong (Split at ∷ rest) l k (inl bad)
goes_wrong G x first B lines path number (Split at) rest l k (inr good) before = absurd good.1
goes_wrong G x first B lines path number (Close P) rest l k (inl bad) before = before.wrong (Close P ∷ rest) l k (inl bad)
goes_wrong G x first B lines path number (Close P) rest l k (inr (fits, inl light)) before = before.wrong (Close P ∷ rest) l k (inr (fits, inl light))
goes_wrong G x first B lines path number (Close P) rest l k (inr (fits, inr good)) before = absurd good.1
