-- How a file and a solution are answered, where nothing fails.
use Rattle.std.proofs.Common.{◌≡◌, ◌≢◌, ◌⊎◌, inl, inr, ℕ, ◌^◌, ◌<◌, List, length, Option, Some, Result, Ok, Err, refl, sym, subst, ap, ◌∙◌, arith}
use Rattle.std.specs.Prelude.{IfSome}
use Rattle.std.specs.Io.KnownBytes.{append_known}
use Rattle.amounts.specs.declared.scale.Scale.{Scale}
use Rattle.st_model.specs.Network.{Network}
use Rattle.stp_reader.specs.Reads.{Reads}
use Rattle.stp_reader.specs.Laws.{RefusedExactly}
use Rattle.solution_reader.specs.Claim.{Claim}
use Rattle.solution_reader.specs.Reads.{ReadsSolution}
use Rattle.solution_reader.specs.declared.verify_fault.VerifyFault.{VerifyFault}
use Rattle.solution_reader.specs.declared.verify_fault.VerifyFault.TheVariants as fault
use Rattle.solution_reader.specs.Stated.{IsStated, IsVerifyFault}
use Rattle.solution_reader.specs.Laws.{RefusedExactly as SolutionsRefusedExactly}
use Rattle.command_line.specs.Words.{VerifyWords, verify}
use Rattle.steiner_top.specs.declared.outcome.Outcome.{Outcome}
use Rattle.steiner_top.specs.declared.status.Status.{Status}
use Rattle.steiner_top.specs.declared.status.Status.TheVariants.{Optimal, Usage, Budget, Infeasible, RefusedFile, RefusedLog, ReadFault, WriteFault, NoMemory, TooLong, NotFew, NotTree, RefusedSolution}
use Rattle.steiner_top.specs.Answer.{IsRefusal}
use Rattle.steiner_top.specs.Causes.{Texts, EndsWith}
use Rattle.steiner_top.specs.Output.{tree_line, not_tree_line, refused_solution}
use Rattle.steiner_top.specs.Verified.{HasVerifyFault, IsTreeLine, IsNotTreeLine, IsNoSolutionLine, IsSolutionLine, VerifyAnswer, AreShort, VerifiesSolution}
use Rattle.steiner_top.proofs.Loaded.{known_loaded}

-- an answer has one cost, or one fault
ok_same : (c d : ℕ) (r : Result ℕ VerifyFault) → r ≡ Ok c → r ≡ Ok d → c ≡ d
ok_same c d r a b = let same : Ok c ≡ Ok d = sym a ∙ b in cc

err_same : (f g : VerifyFault) (r : Result ℕ VerifyFault) → r ≡ Err f → r ≡ Err g → f ≡ g
err_same f g r a b = let same : Err f ≡ Err g = sym a ∙ b in cc

-- a cost that was answered is the only one, and the claim has no fault
pub tree_answered : (I : Network) (scale : Scale) (claim : Claim) (cost : ℕ) (result : Result ℕ VerifyFault) (sent : List ℕ) → result ≡ Ok cost → IsStated I scale claim cost
    → ((c : ℕ) → IsStated I scale claim c → (result ≡ Ok c) ⊎ (result ≡ Err fault.NoMemory))
    → ((f : VerifyFault) → IsVerifyFault I scale claim f → f ≢ fault.NoMemory → (result ≡ Err f) ⊎ (result ≡ Err fault.NoMemory))
    → sent ≡ tree_line cost scale → IsTreeLine I scale claim sent
tree_answered I scale claim cost result sent is stated ok only text = record {
  cost = cost;
  stated = stated;
  only = λ c other. elim (ok c other) [
    | inl same ↦ ok_same cost c result is same
    | inr memory ↦ let e : Ok cost ≡ Err fault.NoMemory = sym is ∙ memory in absurd cc
  ];
  right = λ f has. elim (only f has.0 has.1) [
    | inl bad ↦ let e : Ok cost ≡ Err f = sym is ∙ bad in absurd cc
    | inr bad ↦ let e : Ok cost ≡ Err fault.NoMemory = sym is ∙ bad in absurd cc
  ];
  text = text;
}

-- a fault that was answered is the only one, and the claim is no such tree
pub fault_answered : (I : Network) (scale : Scale) (claim : Claim) (f : VerifyFault) (result : Result ℕ VerifyFault) (sent : List ℕ) → result ≡ Err f → f ≢ fault.NoMemory → IsVerifyFault I scale claim f
    → ((c : ℕ) → IsStated I scale claim c → (result ≡ Ok c) ⊎ (result ≡ Err fault.NoMemory))
    → ((g : VerifyFault) → IsVerifyFault I scale claim g → g ≢ fault.NoMemory → (result ≡ Err g) ⊎ (result ≡ Err fault.NoMemory))
    → sent ≡ not_tree_line f → IsNotTreeLine I scale claim sent
fault_answered I scale claim f result sent is known wrong ok only text = record {
  fault = f;
  has = (wrong, known);
  only = λ g has. elim (only g has.0 has.1) [
    | inl same ↦ err_same f g result is same
    | inr memory ↦ absurd (known (err_same f fault.NoMemory result is memory))
  ];
  wrong = λ c stated. elim (ok c stated) [
    | inl same ↦ let e : Err f ≡ Ok c = sym is ∙ same in absurd cc
    | inr memory ↦ absurd (known (err_same f fault.NoMemory result is memory))
  ];
  text = text;
}

-- what is answered beside the instance of a file is answered to the file
pub verified_file : (stp solution : List ℕ) (I : Network) (scale : Scale) (status : Status) (sent : List ℕ) → Reads stp I scale → IsSolutionLine I scale solution status sent → VerifyAnswer stp solution status sent
verified_file stp solution I scale RefusedFile sent reads line = absurd line.line
verified_file stp solution I scale RefusedSolution sent reads line = record { instance = I; scale = scale; reads = reads; line = line }
verified_file stp solution I scale Optimal sent reads line = record { instance = I; scale = scale; reads = reads; line = line }
verified_file stp solution I scale NotTree sent reads line = record { instance = I; scale = scale; reads = reads; line = line }
verified_file stp solution I scale status sent reads line = absurd line.line

module _ (stp solution : List ℕ) (taken now : Option (List ℕ)) (law : RefusedExactly stp) (claims : SolutionsRefusedExactly solution) (short : AreShort stp solution) where
  -- no text is too long
  fits : (2 ^ 34 < length stp) ⊎ (2 ^ 34 < length solution) → ⊥
  fits (inl long) = omega (arith, short.short_file, long)
  fits (inr long) = omega (arith, short.short_solution, long)

  -- the one instance of the file at its one scale, and the one claim of the solution
  beside : (P : Network → Scale → Claim → Type 0) (I J : Network) (scale unit : Scale) (claim other : Claim) → Reads stp I scale → Reads stp J unit → ReadsSolution solution claim → ReadsSolution solution other → P I scale claim → P J unit other
  beside P I J scale unit claim other reads reads' read read' p =
      let one = law.one_instance I J scale unit reads reads' in
      subst (P J unit) (claims.one_claim claim other read read') (subst (λ K. P K unit claim) one.0 (subst (λ q. P I q claim) one.1 p))

  -- the cost of the claimed tree was sent
  judged_tree : (I : Network) (scale : Scale) (claim : Claim) (sent : List ℕ) → Reads stp I scale → ReadsSolution solution claim → IsTreeLine I scale claim sent → now ≡ append_known taken sent → VerifiesSolution stp solution Optimal taken now
  judged_tree I scale claim sent reads read s took = record {
    too_long = ((λ e. absurd cc), (λ long. absurd (fits long)));
    refused_file = λ _. ((λ e. absurd cc), (λ r. absurd (law.not_both I scale r.0 r.1 reads r.2)));
    refused = λ J unit others _. ((λ e. absurd cc), (λ r. absurd (claims.not_both claim r.0 r.1 read r.2)));
    why = λ J unit line reason others no _. absurd (claims.not_both claim line reason read no);
    not_tree = λ J unit other others read' _. ((λ e. absurd cc), (λ f. absurd (s.right f.0 (beside (λ K q c. HasVerifyFault K q c f.0) J I unit scale other claim others reads read' read f.1))));
    named = λ J unit other f others read' has _. absurd (s.right f (beside (λ K q c. HasVerifyFault K q c f) J I unit scale other claim others reads read' read has));
    verified = λ J unit other c others read' stated _. (refl, took ∙ ap (append_known taken) (s.text ∙ (λ i. tree_line (s.only c (beside (λ K q d. IsStated K q d c) J I unit scale other claim others reads read' read stated) i) ((law.one_instance I J scale unit reads others).1 i))));
  }

  -- what is wrong with the claim was sent
  judged_wrong : (I : Network) (scale : Scale) (claim : Claim) (sent : List ℕ) → Reads stp I scale → ReadsSolution solution claim → IsNotTreeLine I scale claim sent → now ≡ append_known taken sent → VerifiesSolution stp solution NotTree taken now
  judged_wrong I scale claim sent reads read s took = record {
    too_long = ((λ e. absurd cc), (λ long. absurd (fits long)));
    refused_file = λ _. ((λ e. absurd cc), (λ r. absurd (law.not_both I scale r.0 r.1 reads r.2)));
    refused = λ J unit others _. ((λ e. absurd cc), (λ r. absurd (claims.not_both claim r.0 r.1 read r.2)));
    why = λ J unit line reason others no _. absurd (claims.not_both claim line reason read no);
    not_tree = λ J unit other others read' _. ((λ e. (s.fault, beside (λ K q c. HasVerifyFault K q c s.fault) I J scale unit claim other reads others read read' s.has)), (λ f. refl));
    named = λ J unit other f others read' has _. took ∙ ap (append_known taken) (s.text ∙ ap not_tree_line (s.only f (beside (λ K q c. HasVerifyFault K q c f) J I unit scale other claim others reads read' read has)));
    verified = λ J unit other c others read' stated _. absurd (s.wrong c (beside (λ K q d. IsStated K q d c) J I unit scale other claim others reads read' read stated));
  }

  -- why the bytes are no solution was sent
  judged_none : (I : Network) (scale : Scale) (sent : List ℕ) → Reads stp I scale → IsNoSolutionLine solution sent → now ≡ append_known taken sent → VerifiesSolution stp solution RefusedSolution taken now
  judged_none I scale sent reads s took = record {
    too_long = ((λ e. absurd cc), (λ long. absurd (fits long)));
    refused_file = λ _. ((λ e. absurd cc), (λ r. absurd (law.not_both I scale r.0 r.1 reads r.2)));
    refused = λ J unit others _. ((λ e. (s.line, s.reason, s.refused)), (λ r. refl));
    why = λ J unit line reason others no _.
        let one = claims.one_fault s.line line s.reason reason s.refused no in
        took ∙ ap (append_known taken) (s.text ∙ (λ i. refused_solution (one.0 i) (one.1 i)));
    not_tree = λ J unit other others read' _. absurd (claims.not_both other s.line s.reason read' s.refused);
    named = λ J unit other f others read' has _. absurd (claims.not_both other s.line s.reason read' s.refused);
    verified = λ J unit other c others read' stated _. absurd (claims.not_both other s.line s.reason read' s.refused);
  }

  -- the file was refused
  judged_file : (sent : List ℕ) → IsRefusal stp sent → VerifiesSolution stp solution RefusedFile taken now
  judged_file sent s = record {
    too_long = ((λ e. absurd cc), (λ long. absurd (fits long)));
    refused_file = λ _. ((λ e. (s.line, s.reason, s.refused)), (λ r. refl));
    refused = λ J unit others _. absurd (law.not_both J unit s.line s.reason others s.refused);
    why = λ J unit line reason others no _. absurd (law.not_both J unit s.line s.reason others s.refused);
    not_tree = λ J unit other others read' _. absurd (law.not_both J unit s.line s.reason others s.refused);
    named = λ J unit other f others read' has _. absurd (law.not_both J unit s.line s.reason others s.refused);
    verified = λ J unit other c others read' stated _. absurd (law.not_both J unit s.line s.reason others s.refused);
  }

  -- how texts that were loaded whole are answered decides the status
  answered_solution : (status : Status) (sent : List ℕ) → VerifyAnswer stp solution status sent → now ≡ append_known taken sent → VerifiesSolution stp solution status taken now
  answered_solution Optimal sent s took = judged_tree s.instance s.scale s.line.claim sent s.reads s.line.reads s.line.line took
  answered_solution NotTree sent s took = judged_wrong s.instance s.scale s.line.claim sent s.reads s.line.reads s.line.line took
  answered_solution RefusedSolution sent s took = judged_none s.instance s.scale sent s.reads s.line took
  answered_solution RefusedFile sent s took = judged_file sent s
  answered_solution Usage sent s took = absurd s.line.line
  answered_solution Budget sent s took = absurd s.line.line
  answered_solution Infeasible sent s took = absurd s.line.line
  answered_solution RefusedLog sent s took = absurd s.line.line
  answered_solution ReadFault sent s took = absurd s.line.line
  answered_solution WriteFault sent s took = absurd s.line.line
  answered_solution NoMemory sent s took = absurd s.line.line
  answered_solution TooLong sent s took = absurd s.line.line
  answered_solution NotFew sent s took = absurd s.line.line

-- texts of which one is too long aren't answered
long_texts : (stp solution : List ℕ) (taken now : Option (List ℕ)) → (2 ^ 34 < length stp) ⊎ (2 ^ 34 < length solution) → VerifiesSolution stp solution TooLong taken now
long_texts stp solution taken now long = record {
  too_long = ((λ _. long), (λ _. refl));
  refused_file = λ short. absurd (too_long short long);
  refused = λ J unit others short. absurd (too_long short long);
  why = λ J unit line reason others no short. absurd (too_long short long);
  not_tree = λ J unit other others read short. absurd (too_long short long);
  named = λ J unit other f others read has short. absurd (too_long short long);
  verified = λ J unit other c others read stated short. absurd (too_long short long);
} where
  too_long : AreShort stp solution → (2 ^ 34 < length stp) ⊎ (2 ^ 34 < length solution) → ⊥
  too_long short (inl long) = omega (arith, short.short_file, long)
  too_long short (inr long) = omega (arith, short.short_solution, long)

-- how a run ends decides how a file and a solution are answered, where nothing fails
pub verifies_solution : (w : VerifyWords) (stp solution : List ℕ) (old : Texts) (status : Status) (outcome : Option Outcome) (taken now : Option (List ℕ)) (sent : List ℕ)
    → RefusedExactly stp → SolutionsRefusedExactly solution → old w.file ≡ Some stp → old w.solution ≡ Some solution → (status ≡ ReadFault → ⊥) → (status ≡ NoMemory → ⊥)
    → EndsWith (Some (verify w)) old status outcome sent → now ≡ append_known taken sent → VerifiesSolution stp solution status taken now
verifies_solution w stp solution old status outcome taken now sent law claims known known' read memory (inl h) took =
    let same = known_loaded (old w.file) h.0 stp known h.2 in
    let same' = known_loaded (old w.solution) h.1 solution known' h.3 in
    answered_solution stp solution taken now law claims (record { short_file = same.1; short_solution = same'.1 }) status sent
    (subst (λ b. VerifyAnswer stp b status sent) same'.0 (subst (λ b. VerifyAnswer b h.1 status sent) same.0 h.4)) took
verifies_solution w stp solution old TooLong outcome taken now sent law claims known known' read memory (inr h) took = elim h.0 [
  | inl long ↦ long_texts stp solution taken now (inl (subst (λ o. IfSome o (λ text. 2 ^ 34 < length text)) known long))
  | inr rest ↦ elim rest [
    | inl long ↦ long_texts stp solution taken now (inr (subst (λ o. IfSome o (λ text. 2 ^ 34 < length text)) known' long))
    | inr none ↦ absurd none
  ]
]
verifies_solution w stp solution old ReadFault outcome taken now sent law claims known known' read memory (inr h) took = absurd (read refl)
verifies_solution w stp solution old NoMemory outcome taken now sent law claims known known' read memory (inr h) took = absurd (memory refl)
verifies_solution w stp solution old Optimal outcome taken now sent law claims known known' read memory (inr h) took = absurd h.0
verifies_solution w stp solution old Usage outcome taken now sent law claims known known' read memory (inr h) took = absurd h.0
verifies_solution w stp solution old Budget outcome taken now sent law claims known known' read memory (inr h) took = absurd h.0
verifies_solution w stp solution old Infeasible outcome taken now sent law claims known known' read memory (inr h) took = absurd h.0
verifies_solution w stp solution old RefusedFile outcome taken now sent law claims known known' read memory (inr h) took = absurd h.0
verifies_solution w stp solution old RefusedLog outcome taken now sent law claims known known' read memory (inr h) took = absurd h.0
verifies_solution w stp solution old WriteFault outcome taken now sent law claims known known' read memory (inr h) took = absurd h.0
verifies_solution w stp solution old NotFew outcome taken now sent law claims known known' read memory (inr h) took = absurd h.0
verifies_solution w stp solution old NotTree outcome taken now sent law claims known known' read memory (inr h) took = absurd h.0
verifies_solution w stp solution old RefusedSolution outcome taken now sent law claims known known' read memory (inr h) took = absurd h.0
