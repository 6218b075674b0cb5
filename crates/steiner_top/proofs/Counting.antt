-- How a file is answered whose best tree is wanted, where nothing fails.
use Rattle.std.proofs.Common.{◌≡◌, inl, inr, ℕ, ◌^◌, ◌<◌, ◌≤◌, List, length, Option, Some, refl, subst, ap, ◌∙◌, arith}
use Rattle.std.specs.Prelude.{IfSome}
use Rattle.std.specs.Io.KnownBytes.{append_known}
use Rattle.amounts.specs.declared.scale.Scale.{Scale}
use Rattle.st_model.specs.declared.tree.Tree.{Tree}
use Rattle.st_model.specs.Network.{Network}
use Rattle.st_model.specs.Arborescence.{IsTree}
use Rattle.stp_reader.specs.Reads.{Reads}
use Rattle.stp_reader.specs.Laws.{RefusedExactly}
use Rattle.command_line.specs.Words.{FewWords, few}
use Rattle.steiner_top.specs.declared.outcome.Outcome.{Outcome}
use Rattle.steiner_top.specs.declared.status.Status.{Status}
use Rattle.steiner_top.specs.declared.status.Status.TheVariants.{Optimal, Usage, Budget, Infeasible, RefusedFile, RefusedLog, ReadFault, WriteFault, NoMemory, TooLong, NotFew, NotTree, RefusedSolution}
use Rattle.steiner_top.specs.Answer.{IsRefusal}
use Rattle.steiner_top.specs.Causes.{Texts, EndsWith}
use Rattle.steiner_top.specs.Counted.{HasFault, IsBestText, HasNoBest, IsNotFew, FewAnswer, SendsBest, CountsFile}
use Rattle.steiner_top.specs.Output.{not_few_line}
use Rattle.steiner_top.proofs.Loaded.{known_loaded}

module _ (w : FewWords) (bytes : List ℕ) (taken now : Option (List ℕ)) (law : RefusedExactly bytes) (short : length bytes ≤ 2 ^ 34) where
  -- the one instance of the file, and its one unit
  alike : (P : Network → Type 0) (I J : Network) (scale unit : Scale) → Reads bytes I scale → Reads bytes J unit → P I → P J
  alike P I J scale unit reads others p = subst P (law.one_instance I J scale unit reads others).0 p

  -- a best tree was sent
  found : (I : Network) (scale : Scale) (sent : List ℕ) → Reads bytes I scale → IsBestText w I scale sent → now ≡ append_known taken sent → CountsFile w bytes Optimal taken now
  found I scale sent reads s took = record {
    too_long = ((λ e. absurd cc), (λ long. absurd (omega (arith, short, long))));
    refused = λ _. ((λ e. absurd cc), (λ r. absurd (law.not_both I scale r.0 r.1 reads r.2)));
    not_few = λ J unit others _. ((λ e. absurd cc), (λ f. absurd (s.few f.0 (alike (λ K. HasFault K f.0) J I unit scale others reads f.1))));
    named = λ J unit f others _ has. absurd (s.few f (alike (λ K. HasFault K f) J I unit scale others reads has));
    infeasible = λ J unit others _ _. ((λ e. absurd cc), (λ none. absurd (none s.tree (alike (λ K. IsTree K s.tree) I J scale unit reads others s.best.tree))));
    solved = λ J unit t others _ _ _. alike (λ K. SendsBest w K unit Optimal taken now) I J scale unit reads others (subst (λ q. SendsBest w I q Optimal taken now) (law.one_instance I J scale unit reads others).1 (record { ends = refl; tree = s.tree; best = s.best; sent = sent; text = s.text; took = took }));
  }

  -- there is none
  missing : (I : Network) (scale : Scale) (sent : List ℕ) → Reads bytes I scale → HasNoBest I sent → CountsFile w bytes Infeasible taken now
  missing I scale sent reads s = record {
    too_long = ((λ e. absurd cc), (λ long. absurd (omega (arith, short, long))));
    refused = λ _. ((λ e. absurd cc), (λ r. absurd (law.not_both I scale r.0 r.1 reads r.2)));
    not_few = λ J unit others _. ((λ e. absurd cc), (λ f. absurd (s.few f.0 (alike (λ K. HasFault K f.0) J I unit scale others reads f.1))));
    named = λ J unit f others _ has. absurd (s.few f (alike (λ K. HasFault K f) J I unit scale others reads has));
    infeasible = λ J unit others _ _. ((λ e. alike (λ K. (t : Tree) → IsTree K t → ⊥) I J scale unit reads others s.none), (λ none. refl));
    solved = λ J unit t others _ _ is. absurd (s.none t (alike (λ K. IsTree K t) J I unit scale others reads is));
  }

  -- the fault was sent
  refused_few : (I : Network) (scale : Scale) (sent : List ℕ) → Reads bytes I scale → IsNotFew I sent → now ≡ append_known taken sent → CountsFile w bytes NotFew taken now
  refused_few I scale sent reads s took = record {
    too_long = ((λ e. absurd cc), (λ long. absurd (omega (arith, short, long))));
    refused = λ _. ((λ e. absurd cc), (λ r. absurd (law.not_both I scale r.0 r.1 reads r.2)));
    not_few = λ J unit others _. ((λ e. (s.fault, alike (λ K. HasFault K s.fault) I J scale unit reads others s.has)), (λ f. refl));
    named = λ J unit f others _ has. took ∙ ap (append_known taken) (s.text ∙ ap not_few_line (s.only f (alike (λ K. HasFault K f) J I unit scale others reads has)));
    infeasible = λ J unit others _ few. absurd (few s.fault (alike (λ K. HasFault K s.fault) I J scale unit reads others s.has));
    solved = λ J unit t others _ few is. absurd (few s.fault (alike (λ K. HasFault K s.fault) I J scale unit reads others s.has));
  }

  -- the file was refused
  refused_file : (sent : List ℕ) → IsRefusal bytes sent → CountsFile w bytes RefusedFile taken now
  refused_file sent s = record {
    too_long = ((λ e. absurd cc), (λ long. absurd (omega (arith, short, long))));
    refused = λ _. ((λ e. (s.line, s.reason, s.refused)), (λ r. refl));
    not_few = λ J unit others _. absurd (law.not_both J unit s.line s.reason others s.refused);
    named = λ J unit f others _ has. absurd (law.not_both J unit s.line s.reason others s.refused);
    infeasible = λ J unit others _ few. absurd (law.not_both J unit s.line s.reason others s.refused);
    solved = λ J unit t others _ few is. absurd (law.not_both J unit s.line s.reason others s.refused);
  }

  -- how a file that was loaded whole is answered decides the status
  answered_few : (status : Status) (sent : List ℕ) → FewAnswer w bytes status sent → now ≡ append_known taken sent → CountsFile w bytes status taken now
  answered_few Optimal sent s took = found s.instance s.scale sent s.reads s.line took
  answered_few Infeasible sent s took = missing s.instance s.scale sent s.reads s.line
  answered_few NotFew sent s took = refused_few s.instance s.scale sent s.reads s.line took
  answered_few RefusedFile sent s took = refused_file sent s
  answered_few Usage sent s took = absurd s.line
  answered_few Budget sent s took = absurd s.line
  answered_few RefusedLog sent s took = absurd s.line
  answered_few ReadFault sent s took = absurd s.line
  answered_few WriteFault sent s took = absurd s.line
  answered_few NoMemory sent s took = absurd s.line
  answered_few TooLong sent s took = absurd s.line
  answered_few NotTree sent s took = absurd s.line
  answered_few RefusedSolution sent s took = absurd s.line

-- a file whose text is too long isn't answered
long_few : (w : FewWords) (bytes : List ℕ) (taken now : Option (List ℕ)) → 2 ^ 34 < length bytes → CountsFile w bytes TooLong taken now
long_few w bytes taken now long = record {
  too_long = ((λ _. long), (λ _. refl));
  refused = λ short. absurd (omega (arith, short, long));
  not_few = λ I scale reads short. absurd (omega (arith, short, long));
  named = λ I scale f reads short has. absurd (omega (arith, short, long));
  infeasible = λ I scale reads short few. absurd (omega (arith, short, long));
  solved = λ I scale t reads short few is. absurd (omega (arith, short, long));
}

-- how a run ends decides how the file is answered, where nothing fails
pub counts_file : (w : FewWords) (bytes : List ℕ) (old : Texts) (status : Status) (outcome : Option Outcome) (taken now : Option (List ℕ)) (sent : List ℕ)
    → RefusedExactly bytes → old w.file ≡ Some bytes → (status ≡ ReadFault → ⊥) → (status ≡ NoMemory → ⊥)
    → EndsWith (Some (few w)) old status outcome sent → now ≡ append_known taken sent → CountsFile w bytes status taken now
counts_file w bytes old status outcome taken now sent law known read memory (inl h) took =
    let same = known_loaded (old w.file) h.0 bytes known h.1 in
    answered_few w bytes taken now law same.1 status sent (subst (λ b. FewAnswer w b status sent) same.0 h.2) took
counts_file w bytes old TooLong outcome taken now sent law known read memory (inr h) took = elim h.0 [
  | inl long ↦ long_few w bytes taken now (subst (λ o. IfSome o (λ text. 2 ^ 34 < length text)) known long)
  | inr none ↦ absurd none
]
counts_file w bytes old ReadFault outcome taken now sent law known read memory (inr h) took = absurd (read refl)
counts_file w bytes old NoMemory outcome taken now sent law known read memory (inr h) took = absurd (memory refl)
counts_file w bytes old Optimal outcome taken now sent law known read memory (inr h) took = absurd h.0
counts_file w bytes old Usage outcome taken now sent law known read memory (inr h) took = absurd h.0
counts_file w bytes old Budget outcome taken now sent law known read memory (inr h) took = absurd h.0
counts_file w bytes old Infeasible outcome taken now sent law known read memory (inr h) took = absurd h.0
counts_file w bytes old RefusedFile outcome taken now sent law known read memory (inr h) took = absurd h.0
counts_file w bytes old RefusedLog outcome taken now sent law known read memory (inr h) took = absurd h.0
counts_file w bytes old WriteFault outcome taken now sent law known read memory (inr h) took = absurd h.0
counts_file w bytes old NotFew outcome taken now sent law known read memory (inr h) took = absurd h.0
counts_file w bytes old NotTree outcome taken now sent law known read memory (inr h) took = absurd h.0
counts_file w bytes old RefusedSolution outcome taken now sent law known read memory (inr h) took = absurd h.0
