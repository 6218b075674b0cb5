-- Where nothing fails, the words and the texts decide how a run ends.
use Rattle.arborescence.specs.DiNetwork.{DiNetwork}
use Rattle.arborescence.specs.Problem.{Problem, plain, directed, ground_of}
use Rattle.cert_checker.specs.Checking.{IsFileAnswer}
use Rattle.cert_checker.specs.Verdict.{verdict_of}
use Rattle.lift_back.specs.declared.step.Step.{Step}
use Rattle.log_format.specs.declared.log.Log.{Log}
use Rattle.log_format.specs.declared.log.Claim.TheVariants as claim
use Rattle.log_format.specs.declared.proof_line.ProofLine.{ProofLine}
use Rattle.log_format.specs.Accepts.{AcceptsIn}
use Rattle.log_format.specs.Text.{IsLog, log_text}
use Rattle.search_core.specs.declared.gathered.Searched.{Searched}
use Rattle.std.proofs.Common.{◌≡◌, ◌≢◌, ◌⊎◌, ◌↔◌, inl, inr, ℕ, ◌^◌, ◌<◌, ◌≤◌, List, [], length, Result, Ok, Err, Option, Some, None, refl, sym, subst, ap, ◌∙◌, arith, cond, eqb}
use Rattle.std.specs.Prelude.{IfSome}
use Rattle.std.specs.Io.KnownBytes.{append_known}
use Rattle.st_edge.specs.Faults.{Rose}
use Rattle.amounts.specs.declared.scale.Scale.{Scale}
use Rattle.st_model.specs.declared.tree.Tree.{Tree}
use Rattle.st_model.specs.Network.{Network}
use Rattle.st_model.specs.Arborescence.{IsTreeIn}
use Rattle.stp_reader.specs.Reads.{ReadsFile}
use Rattle.stp_reader.specs.Laws.{FileRefusedExactly}
use Rattle.solution_reader.specs.Laws.{RefusedExactly as SolutionsRefusedExactly}
use Rattle.cert_checker.specs.declared.fault.CheckFault.{CheckFault}
use Rattle.cert_checker.specs.declared.fault.CheckFault.TheVariants as fault
use Rattle.cert_checker.specs.declared.verdict.Checked.{Checked}
use Rattle.cert_checker.specs.declared.verdict.Verdict.{Verdict}
use Rattle.cert_checker.specs.declared.verdict.Verdict.TheVariants as verdict
use Rattle.command_line.specs.Words.{Command, SolveWords, CheckWords, GenWords, TrialWords, solve, check, gen, trial, few, verify, resume}
use Rattle.steiner_top.specs.declared.outcome.Outcome.{Outcome}
use Rattle.steiner_top.specs.declared.outcome.Outcome.TheVariants.{Found, Directed, NoTree}
use Rattle.steiner_top.specs.declared.status.Status.{Status}
use Rattle.steiner_top.specs.declared.status.Status.TheVariants.{Optimal, Usage, Budget, Infeasible, RefusedFile, RefusedLog, ReadFault, WriteFault, NoMemory, TooLong, NotFew, NotTree, RefusedSolution}
use Rattle.steiner_top.specs.Answer.{IsSolution, IsDirectedSolution, IsInfeasible, IsFileRefusal, SolveAnswer, CheckAnswer, IsLineOf}
use Rattle.steiner_top.specs.Causes.{Texts, EndsWith, IsSaved, IsStopped}
use Rattle.steiner_top.specs.Drawn.{IsDrawn, IsTried}
use Rattle.steiner_top.specs.Checked.{ChecksExactly, ChecksBothWays}
use Rattle.steiner_top.specs.Headline.{Faults, Headline, NothingFails, IsSolved, IsDirectedSolved, SolvesFile, ChecksLog, Sends}
use Rattle.steiner_top.specs.Output.{status_of_verdict}
use Rattle.steiner_top.proofs.Files.{FilesAreExact}
use Rattle.steiner_top.proofs.Loaded.{known_loaded}
use Rattle.steiner_top.proofs.Counting.{counts_file}
use Rattle.steiner_top.proofs.Resuming.{LogsAreExact, resumes_log}
use Rattle.steiner_top.proofs.Verifying.{verifies_solution}

-- a check accepts a log that claims a tree and a bound
log_checks : (bytes : List ℕ) (p : Problem) (scale : Scale) (tree : Tree) (primal dual : ℕ) (steps : List Step) (proof : List ProofLine) (log : Log) → ReadsFile bytes p scale → IsLog log → AcceptsIn p log → log.claim ≡ claim.Found primal dual tree steps proof
    → IsFileAnswer bytes (log_text log) (Ok (record { verdict = cond (eqb dual primal) (verdict.Optimal primal) (verdict.Bound dual primal); scale = scale }))
log_checks bytes p scale tree primal dual steps proof log reads is_log accepted claims = (p, reads, (log, record { is_log = is_log; text = refl }, accepted, sym (ap verdict_of claims)))

-- how a file is answered whose problem has a tree, by a status that tells of one
module _ (w : SolveWords) (bytes : List ℕ) (status : Status) (primal dual : ℕ) (ends : ((status ≡ Optimal) × (dual ≡ primal)) ⊎ ((status ≡ Budget) × (dual < primal)))
    (files : FileRefusedExactly bytes) (short : length bytes ≤ 2 ^ 34) (p : Problem) (scale : Scale) (reads : ReadsFile bytes p scale) (tree : Tree) (is_tree : IsTreeIn (ground_of p) tree) where
  never : (other : Status) → Optimal ≢ other → Budget ≢ other → status ≡ other → ⊥
  never other optimal budget is = elim ends [ inl h ↦ optimal (sym h.0 ∙ is) | inr h ↦ budget (sym h.0 ∙ is) ]

  answered_tree : (outcome : Option Outcome) (texts : Texts) (taken now : Option (List ℕ))
      → ((I : Network) (unit : Scale) → p ≡ plain I → scale ≡ unit → IsSolved w bytes I unit status outcome texts taken now)
      → ((D : DiNetwork) (unit : Scale) → p ≡ directed D → scale ≡ unit → IsDirectedSolved w bytes D unit status outcome texts taken now)
      → SolvesFile w bytes status outcome texts taken now
  answered_tree outcome texts taken now of_links of_arcs = record {
    too_long = ((λ e. absurd (never TooLong (λ same. cc) (λ same. cc) e)), (λ long. absurd (omega (arith, short, long))));
    refused = λ _. ((λ e. absurd (never RefusedFile (λ same. cc) (λ same. cc) e)), (λ r. absurd (files.not_both p scale r.0 r.1 reads r.2)));
    infeasible = λ q unit others _. ((λ e. absurd (never Infeasible (λ same. cc) (λ same. cc) e)), (λ none. absurd (subst (λ (r : Problem). IsTreeIn (ground_of r) tree → ⊥) (files.one_instance q p unit scale others reads).0 (none tree) is_tree)));
    solved = λ I unit t others _ _. let one = files.one_instance p (plain I) scale unit reads others in of_links I unit one.0 one.1;
    solved_directed = λ D unit t others _ _. let one = files.one_instance p (directed D) scale unit reads others in of_arcs D unit one.0 one.1;
  }

-- two instances that are the same problem
same_links : (I J : Network) → plain I ≡ plain J → I ≡ J
same_links I J e = cc

same_arcs : (D E : DiNetwork) → directed D ≡ directed E → D ≡ E
same_arcs D E e = cc

-- a file whose solution is given is answered by that tree, and by no refusal
answered_found : (w : SolveWords) (bytes : List ℕ) (status : Status) (tree : Tree) (primal dual expanded : ℕ) (searches : List Searched) (log : Log) (scale : Scale) (texts : Texts) (taken now : Option (List ℕ)) (sent : List ℕ)
    → FileRefusedExactly bytes → length bytes ≤ 2 ^ 34 → IsSolution w bytes tree primal dual expanded searches log scale sent → ((status ≡ Optimal) × (dual ≡ primal)) ⊎ ((status ≡ Budget) × (dual < primal)) → now ≡ append_known taken sent → IsSaved (Some (solve w)) texts (Some (Found tree primal dual expanded searches log scale))
    → SolvesFile w bytes status (Some (Found tree primal dual expanded searches log scale)) texts taken now
answered_found w bytes status tree primal dual expanded searches log scale texts taken now sent files short s ends took saved = answered_tree w bytes status primal dual ends files short (plain s.instance) scale s.reads tree s.found.is_tree (Some (Found tree primal dual expanded searches log scale)) texts taken now of_links (λ D unit is. absurd cc)
  where
    solved : IsSolved w bytes s.instance scale status (Some (Found tree primal dual expanded searches log scale)) texts taken now
    solved =
        let c = s.found.certified in
        record {
          tree = tree;
          primal = primal;
          dual = dual;
          expanded = expanded;
          searches = searches;
          certificate = log;
          sent = sent;
          given = refl;
          found = s.found;
          text = s.text;
          took = took;
          ends = ends;
          checks = log_checks bytes (plain s.instance) scale tree primal dual c.steps c.proof log s.reads c.is_log c.accepted c.claims;
          log = saved;
        }

    of_links : (I : Network) (unit : Scale) → plain s.instance ≡ plain I → scale ≡ unit → IsSolved w bytes I unit status (Some (Found tree primal dual expanded searches log scale)) texts taken now
    of_links I unit same one = subst (λ q. IsSolved w bytes I q status (Some (Found tree primal dual expanded searches log scale)) texts taken now) one (subst (λ J. IsSolved w bytes J scale status (Some (Found tree primal dual expanded searches log scale)) texts taken now) (same_links s.instance I same) solved)

-- and so is a directed one
answered_arcs : (w : SolveWords) (bytes : List ℕ) (status : Status) (tree : Tree) (primal dual expanded : ℕ) (log : Log) (scale : Scale) (texts : Texts) (taken now : Option (List ℕ)) (sent : List ℕ)
    → FileRefusedExactly bytes → length bytes ≤ 2 ^ 34 → IsDirectedSolution w bytes tree primal dual expanded log scale sent → ((status ≡ Optimal) × (dual ≡ primal)) ⊎ ((status ≡ Budget) × (dual < primal)) → now ≡ append_known taken sent → IsSaved (Some (solve w)) texts (Some (Directed tree primal dual expanded log scale))
    → SolvesFile w bytes status (Some (Directed tree primal dual expanded log scale)) texts taken now
answered_arcs w bytes status tree primal dual expanded log scale texts taken now sent files short s ends took saved = answered_tree w bytes status primal dual ends files short (directed s.instance) scale s.reads tree s.found.is_tree (Some (Directed tree primal dual expanded log scale)) texts taken now (λ I unit is. absurd cc) of_arcs
  where
    solved : IsDirectedSolved w bytes s.instance scale status (Some (Directed tree primal dual expanded log scale)) texts taken now
    solved = record {
      tree = tree;
      primal = primal;
      dual = dual;
      expanded = expanded;
      certificate = log;
      sent = sent;
      given = refl;
      found = s.found;
      text = s.text;
      took = took;
      ends = ends;
      checks = log_checks bytes (directed s.instance) scale tree primal dual [] s.found.proof log s.reads s.found.is_log s.found.accepted s.found.claims;
      log = saved;
    }

    of_arcs : (D : DiNetwork) (unit : Scale) → directed s.instance ≡ directed D → scale ≡ unit → IsDirectedSolved w bytes D unit status (Some (Directed tree primal dual expanded log scale)) texts taken now
    of_arcs D unit same one = subst (λ q. IsDirectedSolved w bytes D q status (Some (Directed tree primal dual expanded log scale)) texts taken now) one (subst (λ E. IsDirectedSolved w bytes E scale status (Some (Directed tree primal dual expanded log scale)) texts taken now) (same_arcs s.instance D same) solved)

-- a file whose problem has no tree
answered_nowhere : (w : SolveWords) (bytes : List ℕ) (log : Log) (texts : Texts) (taken now : Option (List ℕ)) (sent : List ℕ) → FileRefusedExactly bytes → length bytes ≤ 2 ^ 34 → IsInfeasible bytes log sent → SolvesFile w bytes Infeasible (Some (NoTree log)) texts taken now
answered_nowhere w bytes log texts taken now sent files short s = record {
  too_long = ((λ e. absurd cc), (λ long. absurd (omega (arith, short, long))));
  refused = λ _. ((λ e. absurd cc), (λ r. absurd (files.not_both s.problem s.scale r.0 r.1 s.reads r.2)));
  infeasible = λ q unit others _. ((λ e. none q unit others), (λ _. refl));
  solved = λ I unit t others _ is. absurd (none (plain I) unit others t is);
  solved_directed = λ D unit t others _ is. absurd (none (directed D) unit others t is);
}
  where
    none : (q : Problem) (unit : Scale) → ReadsFile bytes q unit → (t : Tree) → IsTreeIn (ground_of q) t → ⊥
    none q unit others = subst (λ (r : Problem). (t : Tree) → IsTreeIn (ground_of r) t → ⊥) (files.one_instance s.problem q s.scale unit s.reads others).0 s.without_tree.none

-- a file that is refused
answered_refused : (w : SolveWords) (bytes : List ℕ) (texts : Texts) (taken now : Option (List ℕ)) (sent : List ℕ) → FileRefusedExactly bytes → length bytes ≤ 2 ^ 34 → IsFileRefusal bytes sent → SolvesFile w bytes RefusedFile None texts taken now
answered_refused w bytes texts taken now sent files short s = record {
  too_long = ((λ e. absurd cc), (λ long. absurd (omega (arith, short, long))));
  refused = λ _. ((λ e. (s.line, s.reason, s.refused)), (λ r. refl));
  infeasible = λ q unit others _. absurd (files.not_both q unit s.line s.reason others s.refused);
  solved = λ I unit t others _ _. absurd (files.not_both (plain I) unit s.line s.reason others s.refused);
  solved_directed = λ D unit t others _ _. absurd (files.not_both (directed D) unit s.line s.reason others s.refused);
}

-- how a file that was loaded whole is answered decides the status
answered_file : (w : SolveWords) (bytes : List ℕ) (status : Status) (outcome : Option Outcome) (texts : Texts) (taken now : Option (List ℕ)) (sent : List ℕ)
    → FileRefusedExactly bytes → length bytes ≤ 2 ^ 34 → SolveAnswer w bytes status outcome sent → now ≡ append_known taken sent → IsSaved (Some (solve w)) texts outcome
    → SolvesFile w bytes status outcome texts taken now
answered_file w bytes Optimal (Some (Found tree primal dual expanded searches log scale)) texts taken now sent files short (s, same) took saved = answered_found w bytes Optimal tree primal dual expanded searches log scale texts taken now sent files short s (inl (refl, same)) took saved
answered_file w bytes Budget (Some (Found tree primal dual expanded searches log scale)) texts taken now sent files short (s, below) took saved = answered_found w bytes Budget tree primal dual expanded searches log scale texts taken now sent files short s (inr (refl, below)) took saved
answered_file w bytes Optimal (Some (Directed tree primal dual expanded log scale)) texts taken now sent files short (s, same) took saved = answered_arcs w bytes Optimal tree primal dual expanded log scale texts taken now sent files short s (inl (refl, same)) took saved
answered_file w bytes Budget (Some (Directed tree primal dual expanded log scale)) texts taken now sent files short (s, below) took saved = answered_arcs w bytes Budget tree primal dual expanded log scale texts taken now sent files short s (inr (refl, below)) took saved
answered_file w bytes Infeasible (Some (NoTree log)) texts taken now sent files short s took saved = answered_nowhere w bytes log texts taken now sent files short s
answered_file w bytes RefusedFile None texts taken now sent files short s took saved = answered_refused w bytes texts taken now sent files short s
answered_file w bytes Budget (Some (NoTree log)) texts taken now sent files short s took saved = absurd s
answered_file w bytes Budget None texts taken now sent files short s took saved = absurd s
answered_file w bytes Infeasible (Some (Found tree primal dual expanded searches log scale)) texts taken now sent files short s took saved = absurd s
answered_file w bytes Infeasible (Some (Directed tree primal dual expanded log scale)) texts taken now sent files short s took saved = absurd s
answered_file w bytes Infeasible None texts taken now sent files short s took saved = absurd s
answered_file w bytes NoMemory outcome texts taken now sent files short s took saved = absurd s
answered_file w bytes Optimal (Some (NoTree log)) texts taken now sent files short s took saved = absurd s
answered_file w bytes Optimal None texts taken now sent files short s took saved = absurd s
answered_file w bytes ReadFault outcome texts taken now sent files short s took saved = absurd s
answered_file w bytes RefusedFile (Some _) texts taken now sent files short s took saved = absurd s
answered_file w bytes RefusedLog outcome texts taken now sent files short s took saved = absurd s
answered_file w bytes TooLong outcome texts taken now sent files short s took saved = absurd s
answered_file w bytes Usage outcome texts taken now sent files short s took saved = absurd s
answered_file w bytes WriteFault outcome texts taken now sent files short s took saved = absurd s
answered_file w bytes NotFew outcome texts taken now sent files short s took saved = absurd s
answered_file w bytes NotTree outcome texts taken now sent files short s took saved = absurd s
answered_file w bytes RefusedSolution outcome texts taken now sent files short s took saved = absurd s

-- a file whose text is too long isn't answered
long_file : (w : SolveWords) (bytes : List ℕ) (outcome : Option Outcome) (texts : Texts) (taken now : Option (List ℕ)) → 2 ^ 34 < length bytes → SolvesFile w bytes TooLong outcome texts taken now
long_file w bytes outcome texts taken now long = record {
  too_long = ((λ _. long), (λ _. refl));
  refused = λ short. absurd (omega (arith, short, long));
  infeasible = λ p scale reads short. absurd (omega (arith, short, long));
  solved = λ I scale t reads short is. absurd (omega (arith, short, long));
  solved_directed = λ D scale t reads short is. absurd (omega (arith, short, long));
}

-- how a run ends decides how a file is answered, where nothing fails
pub solves_file : (w : SolveWords) (bytes : List ℕ) (old new : Texts) (status : Status) (outcome : Option Outcome) (taken now : Option (List ℕ)) (sent : List ℕ)
    → FileRefusedExactly bytes → old w.file ≡ Some bytes → (status ≡ ReadFault → ⊥) → (status ≡ NoMemory → ⊥)
    → EndsWith (Some (solve w)) old status outcome sent → now ≡ append_known taken sent → IsSaved (Some (solve w)) new outcome
    → SolvesFile w bytes status outcome new taken now
solves_file w bytes old new status outcome taken now sent files known read memory (inl h) took saved =
    let same = known_loaded (old w.file) h.0 bytes known h.1 in
    answered_file w bytes status outcome new taken now sent files same.1 (subst (λ b. SolveAnswer w b status outcome sent) same.0 h.2) took saved
solves_file w bytes old new TooLong outcome taken now sent files known read memory (inr h) took saved = elim h.0 [
  | inl long ↦ long_file w bytes outcome new taken now (subst (λ o. IfSome o (λ text. 2 ^ 34 < length text)) known long)
  | inr none ↦ absurd none
]
solves_file w bytes old new ReadFault outcome taken now sent files known read memory (inr h) took saved = absurd (read refl)
solves_file w bytes old new NoMemory outcome taken now sent files known read memory (inr h) took saved = absurd (memory refl)
solves_file w bytes old new Optimal outcome taken now sent files known read memory (inr h) took saved = absurd h.0
solves_file w bytes old new Usage outcome taken now sent files known read memory (inr h) took saved = absurd h.0
solves_file w bytes old new Budget outcome taken now sent files known read memory (inr h) took saved = absurd h.0
solves_file w bytes old new Infeasible outcome taken now sent files known read memory (inr h) took saved = absurd h.0
solves_file w bytes old new RefusedFile outcome taken now sent files known read memory (inr h) took saved = absurd h.0
solves_file w bytes old new RefusedLog outcome taken now sent files known read memory (inr h) took saved = absurd h.0
solves_file w bytes old new WriteFault outcome taken now sent files known read memory (inr h) took saved = absurd h.0
solves_file w bytes old new NotFew outcome taken now sent files known read memory (inr h) took saved = absurd h.0
solves_file w bytes old new NotTree outcome taken now sent files known read memory (inr h) took saved = absurd h.0
solves_file w bytes old new RefusedSolution outcome taken now sent files known read memory (inr h) took saved = absurd h.0

-- a verdict ends no run as too long, or with the usage line
verdict_ends : (v : Verdict) → (status_of_verdict v ≡ TooLong → ⊥) × (status_of_verdict v ≡ Usage → ⊥)
verdict_ends (verdict.Optimal primal) = ((λ e. absurd cc), (λ e. absurd cc))
verdict_ends (verdict.Bound dual primal) = ((λ e. absurd cc), (λ e. absurd cc))
verdict_ends verdict.NoTree = ((λ e. absurd cc), (λ e. absurd cc))

-- nor does any answer of a check
line_ends : (answer : Result Checked CheckFault) (status : Status) (sent : List ℕ) → IsLineOf answer status sent → (status ≡ TooLong → ⊥) × (status ≡ Usage → ⊥)
line_ends (Ok checked) status sent h = ((λ e. (verdict_ends checked.verdict).0 (sym h.0 ∙ e)), (λ e. (verdict_ends checked.verdict).1 (sym h.0 ∙ e)))
line_ends (Err (fault.Stp f)) status sent h = ((λ e. let bad : RefusedFile ≡ TooLong = sym h.0 ∙ e in absurd cc), (λ e. let bad : RefusedFile ≡ Usage = sym h.0 ∙ e in absurd cc))
line_ends (Err (fault.Log f)) status sent h = ((λ e. let bad : RefusedLog ≡ TooLong = sym h.0 ∙ e in absurd cc), (λ e. let bad : RefusedLog ≡ Usage = sym h.0 ∙ e in absurd cc))
line_ends (Err fault.NoMemory) status sent h = absurd h

-- a file and a log that were loaded whole and answered
answered_log : (stp log : List ℕ) (status : Status) (taken now : Option (List ℕ)) (sent : List ℕ) → length stp ≤ 2 ^ 34 → length log ≤ 2 ^ 34
    → CheckAnswer stp log status sent → now ≡ append_known taken sent → ChecksLog stp log status taken now
answered_log stp log status taken now sent short short' h took = record {
  too_long = (
    (λ e. absurd ((line_ends h.answer status sent h.line).0 e)),
    (λ long. elim long [
      | inl l ↦ absurd (omega (arith, l, short))
      | inr l ↦ absurd (omega (arith, l, short'))
    ]),
  );
  verdict = λ checked _ _ is.
      let line : IsLineOf (Ok checked) status sent = subst (λ a. IsLineOf a status sent) (h.only (Ok checked) is (λ e. absurd cc)) h.line in
      (line.0, took ∙ ap (append_known taken) line.1);
}

-- one of the two texts is too long
long_log : (stp log : List ℕ) (taken now : Option (List ℕ)) → ((2 ^ 34 < length stp) ⊎ (2 ^ 34 < length log)) → ChecksLog stp log TooLong taken now
long_log stp log taken now long = record {
  too_long = ((λ _. long), (λ _. refl));
  verdict = λ checked short short' _. elim long [
    | inl l ↦ absurd (omega (arith, l, short))
    | inr l ↦ absurd (omega (arith, l, short'))
  ];
}

-- a file and a log that are known are answered, or one of them is too long
log_ends : (w : CheckWords) (stp log : List ℕ) (old : Texts) (status : Status) (outcome : Option Outcome) (sent : List ℕ)
    → old w.file ≡ Some stp → old w.log_name ≡ Some log → (status ≡ ReadFault → ⊥) → (status ≡ NoMemory → ⊥) → EndsWith (Some (check w)) old status outcome sent
    → ((length stp ≤ 2 ^ 34) × (length log ≤ 2 ^ 34) × CheckAnswer stp log status sent) ⊎ ((status ≡ TooLong) × ((2 ^ 34 < length stp) ⊎ (2 ^ 34 < length log)))
log_ends w stp log old status outcome sent known known' read memory (inl h) =
    let same = known_loaded (old w.file) h.0 stp known h.2 in
    let same' = known_loaded (old w.log_name) h.1 log known' h.3 in
    inl (same.1, same'.1, subst (λ l. CheckAnswer stp l status sent) same'.0 (subst (λ b. CheckAnswer b h.1 status sent) same.0 h.4))
log_ends w stp log old TooLong outcome sent known known' read memory (inr h) = elim h.0 [
  | inl long ↦ inr (refl, inl (subst (λ o. IfSome o (λ text. 2 ^ 34 < length text)) known long))
  | inr rest ↦ elim rest [
    | inl long ↦ inr (refl, inr (subst (λ o. IfSome o (λ text. 2 ^ 34 < length text)) known' long))
    | inr none ↦ absurd none
  ]
]
log_ends w stp log old ReadFault outcome sent known known' read memory (inr h) = absurd (read refl)
log_ends w stp log old NoMemory outcome sent known known' read memory (inr h) = absurd (memory refl)
log_ends w stp log old Optimal outcome sent known known' read memory (inr h) = absurd h.0
log_ends w stp log old Usage outcome sent known known' read memory (inr h) = absurd h.0
log_ends w stp log old Budget outcome sent known known' read memory (inr h) = absurd h.0
log_ends w stp log old Infeasible outcome sent known known' read memory (inr h) = absurd h.0
log_ends w stp log old RefusedFile outcome sent known known' read memory (inr h) = absurd h.0
log_ends w stp log old RefusedLog outcome sent known known' read memory (inr h) = absurd h.0
log_ends w stp log old WriteFault outcome sent known known' read memory (inr h) = absurd h.0
log_ends w stp log old NotFew outcome sent known known' read memory (inr h) = absurd h.0
log_ends w stp log old NotTree outcome sent known known' read memory (inr h) = absurd h.0
log_ends w stp log old RefusedSolution outcome sent known known' read memory (inr h) = absurd h.0

-- how a run ends decides how a log is answered, where nothing fails
pub checks_log : (w : CheckWords) (stp log : List ℕ) (old : Texts) (status : Status) (outcome : Option Outcome) (taken now : Option (List ℕ)) (sent : List ℕ)
    → old w.file ≡ Some stp → old w.log_name ≡ Some log → (status ≡ ReadFault → ⊥) → (status ≡ NoMemory → ⊥)
    → EndsWith (Some (check w)) old status outcome sent → now ≡ append_known taken sent → ChecksLog stp log status taken now
checks_log w stp log old status outcome taken now sent known known' read memory ends took = elim (log_ends w stp log old status outcome sent known known' read memory ends) [
  | inl h ↦ answered_log stp log status taken now sent h.0 h.1 h.2 took
  | inr h ↦ subst (λ s. ChecksLog stp log s taken now) (sym h.0) (long_log stp log taken now h.1)
]

-- and gives the one answer that is right, where both are short enough
pub checks_exactly : (w : CheckWords) (stp log : List ℕ) (old : Texts) (status : Status) (outcome : Option Outcome) (taken now : Option (List ℕ)) (sent : List ℕ)
    → old w.file ≡ Some stp → old w.log_name ≡ Some log → (status ≡ ReadFault → ⊥) → (status ≡ NoMemory → ⊥) → length stp ≤ 2 ^ 34 → length log ≤ 2 ^ 34
    → EndsWith (Some (check w)) old status outcome sent → now ≡ append_known taken sent → ChecksExactly stp log status taken now
checks_exactly w stp log old status outcome taken now sent known known' read memory short short' ends took = elim (log_ends w stp log old status outcome sent known known' read memory ends) [
  | inl h ↦ record {
    some = (h.2.answer, h.2.exact, (sent, h.2.line, took));
    each = λ answer is other. (sent, subst (λ a. IsLineOf a status sent) (h.2.only answer is other) h.2.line, took);
  }
  | inr h ↦ elim h.1 [
    | inl long ↦ absurd (omega (arith, long, short))
    | inr long ↦ absurd (omega (arith, long, short'))
  ]
]

-- where no text is loaded, want of memory alone leaves a run without an answer
none_stops : (texts : Texts) (status : Status) → status ≢ NoMemory → IsStopped [] texts status → ⊥
none_stops texts NoMemory memory h = memory refl
none_stops texts ReadFault memory h = h
none_stops texts TooLong memory h = h
none_stops texts Optimal memory h = h
none_stops texts Usage memory h = h
none_stops texts Budget memory h = h
none_stops texts Infeasible memory h = h
none_stops texts RefusedFile memory h = h
none_stops texts RefusedLog memory h = h
none_stops texts WriteFault memory h = h
none_stops texts NotFew memory h = h
none_stops texts NotTree memory h = h
none_stops texts RefusedSolution memory h = h

-- so what is drawn is sent
sends_drawn : (w : GenWords) (texts : Texts) (status : Status) (outcome : Option Outcome) (taken now : Option (List ℕ)) (sent : List ℕ)
    → status ≢ NoMemory → EndsWith (Some (gen w)) texts status outcome sent → now ≡ append_known taken sent → Sends (IsDrawn w) status outcome taken now
sends_drawn w texts status outcome taken now sent memory (inl h) took = (sent, h, took)
sends_drawn w texts status outcome taken now sent memory (inr h) took = absurd (none_stops texts status memory h.0)

-- and what is tried
sends_tried : (w : TrialWords) (texts : Texts) (status : Status) (outcome : Option Outcome) (taken now : Option (List ℕ)) (sent : List ℕ)
    → status ≢ NoMemory → EndsWith (Some (trial w)) texts status outcome sent → now ≡ append_known taken sent → Sends (IsTried w) status outcome taken now
sends_tried w texts status outcome taken now sent memory (inl h) took = (sent, h, took)
sends_tried w texts status outcome taken now sent memory (inr h) took = absurd (none_stops texts status memory h.0)

-- words that are a command don't end with the usage line
no_usage : (command : Command) (texts : Texts) (outcome : Option Outcome) (sent : List ℕ) → EndsWith (Some command) texts Usage outcome sent → ⊥
no_usage (solve w) texts outcome sent (inl h) = absurd h.2
no_usage (check w) texts outcome sent (inl h) = (line_ends h.4.answer Usage sent h.4.line).1 refl
no_usage (gen w) texts outcome sent (inl h) = let bad : Usage ≡ Optimal = h.ends in absurd cc
no_usage (trial w) texts outcome sent (inl h) = elim h.ends [
  | inl e ↦ let bad : Usage ≡ Optimal = e.0 in absurd cc
  | inr e ↦ let bad : Usage ≡ Budget = e.0 in absurd cc
]
no_usage (few w) texts outcome sent (inl h) = absurd h.2.line
no_usage (verify w) texts outcome sent (inl h) = absurd h.4.line.line
no_usage (resume w) texts outcome sent (inl h) = absurd h.4
no_usage (gen w) texts outcome sent (inr h) = absurd h.0
no_usage (trial w) texts outcome sent (inr h) = absurd h.0
no_usage (solve w) texts outcome sent (inr h) = absurd h.0
no_usage (check w) texts outcome sent (inr h) = absurd h.0
no_usage (few w) texts outcome sent (inr h) = absurd h.0
no_usage (verify w) texts outcome sent (inr h) = absurd h.0
no_usage (resume w) texts outcome sent (inr h) = absurd h.0

-- the usage line ends a run exactly where the words are no command
pub usage_ends : (command : Option Command) (texts : Texts) (status : Status) (outcome : Option Outcome) (sent : List ℕ) → (status ≡ NoMemory → ⊥) → EndsWith command texts status outcome sent → (status ≡ Usage) ↔ (command ≡ None)
usage_ends None texts status outcome sent memory (inl h) = absurd h
usage_ends None texts status outcome sent memory (inr h) = elim h.0 [
  | inl usage ↦ ((λ _. refl), (λ _. usage))
  | inr out ↦ absurd (memory out)
]
usage_ends (Some command) texts status outcome sent memory h =
    ((λ e. absurd (no_usage command texts outcome sent (subst (λ s. EndsWith (Some command) texts s outcome sent) e h))), (λ e. absurd cc))

-- the words and the texts decide, where nothing fails
pub decides : (command : Option Command) (old new : Texts) (before after : Faults) (status : Status) (outcome : Option Outcome) (taken now : Option (List ℕ))
    → ((bytes : List ℕ) → FilesAreExact bytes)
    → ((bytes : List ℕ) → SolutionsRefusedExactly bytes)
    → LogsAreExact
    → (status ≢ WriteFault → (sent : List ℕ) × EndsWith command old status outcome sent × (now ≡ append_known taken sent))
    → IsSaved command new outcome
    → (status ≡ ReadFault → Rose before.reads after.reads)
    → (status ≡ WriteFault → Rose before.saves after.saves ⊎ Rose before.writes after.writes)
    → Headline command old new before after status outcome taken now
decides command old new before after status outcome taken now files law_of_solutions law_of_logs sent saved read write = record {
  usage = λ fine. let e = ended fine in usage_ends command old status outcome e.0 fine.memory e.1;
  solves = λ w bytes is known fine. let e = ended fine in solves_file w bytes old new status outcome taken now e.0 (files bytes).of_both known (λ r. fine.loaded (read r)) fine.memory (subst (λ c. EndsWith c old status outcome e.0) is e.1) e.2 (subst (λ c. IsSaved c new outcome) is saved);
  checks = λ w stp log is known known' fine. let e = ended fine in checks_log w stp log old status outcome taken now e.0 known known' (λ r. fine.loaded (read r)) fine.memory (subst (λ c. EndsWith c old status outcome e.0) is e.1) e.2;
  draws = λ w is fine. let e = ended fine in sends_drawn w old status outcome taken now e.0 fine.memory (subst (λ c. EndsWith c old status outcome e.0) is e.1) e.2;
  tries = λ w is fine. let e = ended fine in sends_tried w old status outcome taken now e.0 fine.memory (subst (λ c. EndsWith c old status outcome e.0) is e.1) e.2;
  verifies = λ w stp solution is known known' fine. let e = ended fine in verifies_solution w stp solution old status outcome taken now e.0 (files stp).of_links (law_of_solutions solution) known known' (λ r. fine.loaded (read r)) fine.memory (subst (λ c. EndsWith c old status outcome e.0) is e.1) e.2;
  counts = λ w bytes is known fine. let e = ended fine in counts_file w bytes old status outcome taken now e.0 (files bytes).of_links known (λ r. fine.loaded (read r)) fine.memory (subst (λ c. EndsWith c old status outcome e.0) is e.1) e.2;
  resumes = λ w stp log is known known' fine. let e = ended fine in resumes_log w stp log old new status outcome taken now e.0 (files stp) law_of_logs known known' (λ r. fine.loaded (read r)) fine.memory (subst (λ c. EndsWith c old status outcome e.0) is e.1) e.2 (subst (λ c. IsSaved c new outcome) is saved);
} where
  no_write : NothingFails before after status → status ≢ WriteFault
  no_write fine failed = elim (write failed) [
    | inl rose ↦ fine.saved rose
    | inr rose ↦ fine.sent rose
  ]

  ended : NothingFails before after status → (bytes : List ℕ) × EndsWith command old status outcome bytes × (now ≡ append_known taken bytes)
  ended fine = sent (no_write fine)

-- so too with the one answer of a check
pub decides_checks : (command : Option Command) (old : Texts) (before after : Faults) (status : Status) (outcome : Option Outcome) (taken now : Option (List ℕ))
    → (status ≢ WriteFault → (sent : List ℕ) × EndsWith command old status outcome sent × (now ≡ append_known taken sent))
    → (status ≡ ReadFault → Rose before.reads after.reads)
    → (status ≡ WriteFault → Rose before.saves after.saves ⊎ Rose before.writes after.writes)
    → NothingFails before after status → ChecksBothWays command old status taken now
decides_checks command old before after status outcome taken now sent read write fine w stp log is known known' short short' =
    let e = sent (λ failed. elim (write failed) [ inl rose ↦ fine.saved rose | inr rose ↦ fine.sent rose ]) in
    checks_exactly w stp log old status outcome taken now e.0 known known' (λ r. fine.loaded (read r)) fine.memory short short' (subst (λ c. EndsWith c old status outcome e.0) is e.1) e.2
