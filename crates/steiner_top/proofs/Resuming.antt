-- What going on from a log gave is what `resume` is answered with, and the texts decide it where nothing fails.
use Rattle.std.proofs.Common.{◌≡◌, ◌≢◌, ◌⊎◌, inl, inr, ℕ, suc, ◌+◌, ◌^◌, ◌<◌, ◌≤◌, Bool, true, false, cond, List, ◌∷◌, length, drop, slice_index_or, Option, Some, None, Result, Ok, Err, refl, sym, subst, ap, ◌∙◌, arith}
use Rattle.std.specs.Prelude.{◌==◌, IfSome}
use Rattle.std.specs.Io.KnownBytes.{append_known}
use Rattle.std.proofs.Math.Seq.{drop-cons}
use Rattle.std.proofs.lemmas.Bool.{eqb-true}
use Rattle.std.proofs.lemmas.Bool.Decides.{nat_tests}
use Rattle.amounts.specs.declared.scale.Scale.{Scale}
use Rattle.st_model.specs.declared.tree.Tree.{Tree}
use Rattle.st_model.specs.Arborescence.{IsTree, IsBound, cost}
use Rattle.st_model.specs.Network.{Network, IsInstance}
use Rattle.arborescence.specs.Problem as problem
use Rattle.stp_reader.specs.Reads.{Reads}
use Rattle.stp_reader.specs.Laws.{RefusedExactly}
use Rattle.log_format.specs.declared.kind.Kind.{Kind}
use Rattle.log_format.specs.declared.log.Log.{Log}
use Rattle.log_format.specs.declared.log.Claim.{Claim}
use Rattle.log_format.specs.declared.log.Claim.TheVariants as claim
use Rattle.log_format.specs.Accepts.{Accepts, AcceptedHolds, Holds, Rejects}
use Rattle.log_format.specs.Text.{IsLog, log_text}
use Rattle.log_format.specs.Laws.{OneSpelling, RejectedExactly, RefusedExactly as LogRefusedExactly}
use Rattle.search_core.specs.declared.gathered.Searched.{Searched}
use Rattle.cert_checker.specs.declared.fault.CheckFault.{CheckFault}
use Rattle.cert_checker.specs.declared.fault.CheckFault.TheVariants as fault
use Rattle.cert_checker.specs.declared.verdict.Checked.{Checked}
use Rattle.cert_checker.specs.declared.verdict.Verdict.TheVariants as verdict
use Rattle.cert_checker.specs.Checking.{Answers, IsAnswer, IsTextOf, IsWrongText}
use Rattle.cert_checker.specs.Verdict.{verdict_of}
use Rattle.resuming.specs.Resumed.{ClaimsTree, IsResumed, claimed_dual, claimed_primal, expanded_by}
use Rattle.resuming.proofs.Falling.{one_more_claimed}
use Rattle.command_line.specs.Words.{ResumeWords, resume}
use Rattle.steiner_top.specs.declared.outcome.Outcome.{Outcome}
use Rattle.steiner_top.specs.declared.outcome.Outcome.TheVariants.{Found, Directed, NoTree}
use Rattle.steiner_top.specs.declared.status.Status.{Status}
use Rattle.steiner_top.specs.declared.status.Status.TheVariants.{Optimal, Usage, Budget, Infeasible, RefusedFile, RefusedLog, ReadFault, WriteFault, NoMemory, TooLong, NotFew, NotTree, RefusedSolution}
use Rattle.steiner_top.specs.Answer.{IsOutcomeText, IsRefusal, status_of_outcome}
use Rattle.steiner_top.specs.Causes.{EndsWith, IsSaved, Texts}
use Rattle.steiner_top.specs.Left.{IsClaimOf, IsShownBy}
use Rattle.steiner_top.specs.Resumed.{AreLoadable, IsContinuation, IsGoodLog, IsKept, IsKeptLog, IsLogRefusal, IsResumption, ResumeAnswer, Resumes, ResumesLog, SendsContinuation}
use Rattle.steiner_top.proofs.Files.{FilesAreExact, as_file}
use Rattle.steiner_top.proofs.Loaded.{known_loaded}

-- one more search is counted
pub count_more : (expanded new : ℕ) (searches : List Searched) (k : ℕ) (s : Searched) → k < length searches → s ≡ slice_index_or searches k s → new ≡ expanded + s.gathered.claimed
    → expanded + expanded_by (drop k searches) ≡ expanded_by searches → new + expanded_by (drop (k + 1) searches) ≡ expanded_by searches
count_more expanded new searches k s within is longer before =
    let next : k + 1 ≡ suc k = omega arith in
    let cut : drop k searches ≡ s ∷ drop (k + 1) searches = rw next (drop-cons searches k s within ∙ ap (λ (t : Searched). t ∷ drop (suc k) searches) (sym is)) in
    omega (arith, before, longer, ap expanded_by cut, one_more_claimed s (drop (k + 1) searches))

-- what a claim of this tree and these numbers says of them
claimed_so : (c : Claim) (tree : Tree) (primal dual : ℕ) → IsClaimOf c tree primal dual → (claimed_primal c ≡ primal) × (claimed_dual c ≡ dual)
claimed_so (claim.Found p d t steps proof) tree primal dual h = (h.1, h.2)
claimed_so (claim.NoTree wall) tree primal dual h = absurd h

held_so : (I : Network) (c : Claim) (tree : Tree) (primal dual : ℕ) → IsClaimOf c tree primal dual → Holds I c → IsTree I tree × (cost I tree ≡ primal) × IsBound I dual
held_so I (claim.Found p d t steps proof) tree primal dual (tree_is, primal_is, dual_is) holds =
    (subst (IsTree I) tree_is holds.0, subst (λ (u : Tree). cost I u ≡ primal) tree_is (holds.1 ∙ primal_is), subst (IsBound I) dual_is holds.2)
held_so I (claim.NoTree wall) tree primal dual h holds = absurd h

-- what the new log shows, where a run went on from one that claims a tree
pub resumption_shown : (nodes : ℕ) (I : Network) (unit : Scale) (old : Log) (found : List Searched) (new : Log) (expanded : ℕ) (o : Outcome) → AcceptedHolds → IsInstance I → ClaimsTree old.claim → IsResumed nodes I old found new
    → expanded ≡ expanded_by found → IsShownBy expanded found new unit o → IsResumption nodes I unit old o
resumption_shown nodes I unit old found new expanded (Found tree primal dual worked searches log scale) holds instance tree_claimed h counted (claims, worked_is, searches_is, log_is, scale_is) =
    let c = new.claim in
    let (primal_is, dual_is) = claimed_so c tree primal dual claims in
    let held = held_so I c tree primal dual claims (holds I new instance h.grafted.accepted) in
    let below = h.is_below in
    let dearer = h.no_dearer in
    let lower = h.no_lower in
    rw (searches_is, log_is) (
      tree_claimed,
      record {
        is_tree = held.0;
        is_cost = sym held.1;
        is_bound = held.2;
        is_below = omega (arith, below, primal_is, dual_is);
        no_dearer = omega (arith, dearer, primal_is);
        no_lower = omega (arith, lower, dual_is);
        claims = claims;
        resumed = h;
        expanded_is = worked_is ∙ counted;
        all_spent = λ apart. worked_is ∙ (counted ∙ h.all_spent (omega (arith, apart, primal_is, dual_is)));
        is_log = h.grafted.is_log;
        accepted = h.grafted.accepted;
      },
      scale_is,
    )
resumption_shown nodes I unit old found new expanded (Directed tree primal dual worked log scale) holds instance tree_claimed h counted none = absurd none
resumption_shown nodes I unit old found new expanded (NoTree log) holds instance tree_claimed h counted none = absurd none

-- and it fits what all of them count
pub count_fits : (expanded : ℕ) (searches : List Searched) (k : ℕ) (s : Searched) → k < length searches → s ≡ slice_index_or searches k s → expanded + expanded_by (drop k searches) ≡ expanded_by searches
    → expanded + s.gathered.claimed ≤ expanded_by searches
count_fits expanded searches k s within is before =
    let cut : drop k searches ≡ s ∷ drop (suc k) searches = drop-cons searches k s within ∙ ap (λ (t : Searched). t ∷ drop (suc k) searches) (sym is) in
    omega (arith, before, ap expanded_by cut, one_more_claimed s (drop (suc k) searches))

-- a log that says that there is no tree is its own certificate
pub kept_log : (I : Network) (log : Log) (wall : List ℕ) → AcceptedHolds → IsInstance I → Accepts I log → log.claim ≡ claim.NoTree wall → IsKept I log log
kept_log I log wall holds instance accepted e = record { wall = wall; claims = e; same = refl; none = subst (Holds I) e (holds I log instance accepted) }

-- ---- what a check found

-- a fault that a check found is handed on
pub same_fault : (r : Result Checked CheckFault) (s : Result Outcome CheckFault) (e f : CheckFault) → r ≡ Err e → s ≡ Err e → Answers r (Err f) → (s ≡ Err f) ⊎ (s ≡ Err fault.NoMemory)
same_fault r s e f r_is s_is (inl h) = let same : e ≡ f = err_same r e f r_is h in inl (s_is ∙ ap Err same)
  where
    err_same : (q : Result Checked CheckFault) (a b : CheckFault) → q ≡ Err a → q ≡ Err b → a ≡ b
    err_same q a b x y = let z : Err a ≡ Err b = sym x ∙ y in cc
same_fault r s e f r_is s_is (inr h) = let same : e ≡ fault.NoMemory = err_same r e fault.NoMemory r_is h in inr (s_is ∙ ap Err same)
  where
    err_same : (q : Result Checked CheckFault) (a b : CheckFault) → q ≡ Err a → q ≡ Err b → a ≡ b
    err_same q a b x y = let z : Err a ≡ Err b = sym x ∙ y in cc

-- where it found none there is none
pub no_fault : {A : Type 0} (r : Result Checked CheckFault) (k : Checked) (f : CheckFault) → r ≡ Ok k → Answers r (Err f) → A
no_fault r k f is (inl h) = let bad : Ok k ≡ Err f = sym is ∙ h in absurd cc
no_fault r k f is (inr h) = let bad : Ok k ≡ Err fault.NoMemory = sym is ∙ h in absurd cc

-- and the log that is read again is the one that was accepted
pub good_so : (stp bytes : List ℕ) (r : Result Checked CheckFault) (k : Checked) (I : Network) (scale : Scale) (log : Log) → RefusedExactly stp → OneSpelling → r ≡ Ok k → IsAnswer stp bytes r
    → Reads stp I scale → IsLog log → bytes ≡ log_text log → IsGoodLog stp bytes I scale log
good_so stp bytes r k I scale log law spelling is answer reads is_log text =
    let (J, others, (other, text_of, accepted, said)) = subst (IsAnswer stp bytes) is answer in
    let same_log : other ≡ log = spelling other log text_of.is_log is_log (sym text_of.text ∙ text) in
    let same : J ≡ I = (law.one_instance J I k.scale scale others reads).0 in
    record { reads = reads; text = record { is_log = is_log; text = text }; accepted = subst (λ (N : Network). Accepts N log) same (subst (Accepts J) same_log accepted) }

-- an outcome, its status and its text
pub resumption_answers : (w : ResumeWords) (stp bytes : List ℕ) (outcome : Outcome) (status : Status) (sent : List ℕ) → Resumes w.nodes stp bytes (Ok outcome)
    → status ≡ status_of_outcome outcome → IsOutcomeText w.file w.workers outcome sent → ResumeAnswer w stp bytes status (Some outcome) sent
resumption_answers w stp bytes (Found tree primal dual expanded searches log scale) status sent (I, unit, old, good, (tree_claimed, continued, same)) ends text = rw ends (at (dual == primal) refl)
  where
    of_it : IsGoodLog stp bytes I scale old
    of_it = subst (λ (q : Scale). IsGoodLog stp bytes I q old) (sym same) good

    all : IsContinuation w stp bytes tree primal dual expanded searches log scale sent
    all = record { instance = I; old = old; good = of_it; tree_claimed = tree_claimed; continued = continued; text = text }

    at : (equal : Bool) → (dual == primal) ≡ equal → ResumeAnswer w stp bytes (cond equal Optimal Budget) (Some (Found tree primal dual expanded searches log scale)) sent
    at true is = (all, eqb-true dual primal is)
    at false is = (all, (let below = continued.is_below in grind (arith, nat_tests)))
resumption_answers w stp bytes (Directed tree primal dual expanded log scale) status sent (I, unit, old, good, none) ends text = absurd none
resumption_answers w stp bytes (NoTree log) status sent (I, unit, old, good, kept) ends text = rw ends (record { instance = I; scale = unit; old = old; good = good; kept = kept; text = text })

-- a log has one text, bytes are refused as a log exactly, and a log is rejected exactly
pub record LogsAreExact : Type 0 where
  pub spelling : OneSpelling
  pub refused : (bytes : List ℕ) → LogRefusedExactly bytes
  pub rejected : (I : Network) (log : Log) → RejectedExactly I log

module _ (stp bytes : List ℕ) (files : FilesAreExact stp) (logs : LogsAreExact) where
  abbrev law : RefusedExactly stp
  law = files.of_links

  -- the bytes are the text of one log
  one_log : (a b : Log) → IsTextOf bytes a → IsTextOf bytes b → a ≡ b
  one_log a b h k = logs.spelling a b h.is_log k.is_log (sym h.text ∙ k.text)

  -- which isn't accepted where it is wrong
  not_wrong : (I : Network) (scale : Scale) (log : Log) (line : ℕ) (kind : Kind) → IsGoodLog stp bytes I scale log → IsWrongText I bytes line kind → ⊥
  not_wrong I scale log line kind good (inl refused) = (logs.refused bytes).no_text line kind refused log good.text.is_log good.text.text
  not_wrong I scale log line kind good (inr (other, text, rejects)) =
      (logs.rejected I log).not_accepted line kind (subst (λ (l : Log). Rejects I l line kind) (one_log other log text good.text) rejects) good.accepted

  -- the file and the bytes say one instance, scale and log
  beside : (P : Network → Scale → Log → Type 0) (I J : Network) (scale unit : Scale) (a b : Log) → IsGoodLog stp bytes I scale a → IsGoodLog stp bytes J unit b → P I scale a → P J unit b
  beside P I J scale unit a b good good' p =
      let one = law.one_instance I J scale unit good.reads good'.reads in
      subst (P J unit) (one_log a b good.text good'.text) (subst (λ K. P K unit a) one.0 (subst (λ q. P I q a) one.1 p))

  -- a log claims a tree, or that there is none
  not_both_claims : (a b : Log) (wall : List ℕ) → a ≡ b → ClaimsTree a.claim → b.claim ≡ claim.NoTree wall → ⊥
  not_both_claims a b wall same tree none = subst ClaimsTree (ap (λ (l : Log). l.claim) same ∙ none) tree

  module _ (w : ResumeWords) (texts : Texts) (taken now : Option (List ℕ)) (short : AreLoadable stp bytes) where
    -- no text is too long
    fits : (2 ^ 34 < length stp) ⊎ (2 ^ 34 < length bytes) → ⊥
    fits (inl long) = omega (arith, short.file, long)
    fits (inr long) = omega (arith, short.log, long)

    -- the text of a tree was sent
    gone_on : (status : Status) (tree : Tree) (primal dual expanded : ℕ) (searches : List Searched) (log : Log) (scale : Scale) (sent : List ℕ) → IsContinuation w stp bytes tree primal dual expanded searches log scale sent
        → ((status ≡ Optimal) × (dual ≡ primal)) ⊎ ((status ≡ Budget) × (dual < primal)) → now ≡ append_known taken sent → IsSaved (Some (resume w)) texts (Some (Found tree primal dual expanded searches log scale))
        → ResumesLog w stp bytes status (Some (Found tree primal dual expanded searches log scale)) texts taken now
    gone_on status tree primal dual expanded searches log scale sent s ends took saved = record {
      too_long = ((λ e. absurd (never TooLong (λ same. cc) (λ same. cc) e)), (λ long. absurd (fits long)));
      refused_file = λ _. ((λ e. absurd (never RefusedFile (λ same. cc) (λ same. cc) e)), (λ r. absurd (law.not_both s.instance scale r.0 r.1 s.good.reads r.2)));
      refused_log = λ I unit reads _. (
        (λ e. absurd (never RefusedLog (λ same. cc) (λ same. cc) e)),
        (λ r. absurd (not_wrong s.instance scale s.old r.0 r.1 s.good (subst (λ (J : Network). IsWrongText J bytes r.0 r.1) (law.one_instance I s.instance unit scale reads s.good.reads).0 r.2))),
      );
      kept = λ I unit old wall good none _. absurd (not_both_claims s.old old wall (one_log s.old old s.good.text good.text) s.tree_claimed none);
      continued = λ I unit old good tree_claimed _. beside (λ J q a. SendsContinuation w stp J q a status (Some (Found tree primal dual expanded searches log scale)) texts taken now) s.instance I scale unit s.old old s.good good (record {
        tree = tree;
        primal = primal;
        dual = dual;
        expanded = expanded;
        searches = searches;
        certificate = log;
        sent = sent;
        given = refl;
        continued = s.continued;
        text = s.text;
        took = took;
        ends = ends;
        checks = (problem.plain s.instance, as_file stp s.instance scale files.alike s.good.reads, (log, record { is_log = s.continued.is_log; text = refl }, s.continued.accepted, concluded));
        log = saved;
      });
    }
      where
        never : (other : Status) → Optimal ≢ other → Budget ≢ other → status ≡ other → ⊥
        never other optimal budget is = elim ends [ inl h ↦ optimal (sym h.0 ∙ is) | inr h ↦ budget (sym h.0 ∙ is) ]

        verdict_so : (c : Claim) → IsClaimOf c tree primal dual → cond (dual == primal) (verdict.Optimal primal) (verdict.Bound dual primal) ≡ verdict_of c
        verdict_so (claim.Found p d t steps proof) h = rw (h.1, h.2) refl
        verdict_so (claim.NoTree wall) h = absurd h

        concluded : cond (dual == primal) (verdict.Optimal primal) (verdict.Bound dual primal) ≡ verdict_of log.claim
        concluded = verdict_so log.claim s.continued.claims

    -- the line that there is no tree was sent
    gone_nowhere : (log : Log) (sent : List ℕ) → IsKeptLog stp bytes log sent → now ≡ append_known taken sent → IsSaved (Some (resume w)) texts (Some (NoTree log)) → ResumesLog w stp bytes Infeasible (Some (NoTree log)) texts taken now
    gone_nowhere log sent s took saved = record {
      too_long = ((λ e. absurd cc), (λ long. absurd (fits long)));
      refused_file = λ _. ((λ e. absurd cc), (λ r. absurd (law.not_both s.instance s.scale r.0 r.1 s.good.reads r.2)));
      refused_log = λ I unit reads _. (
        (λ e. absurd cc),
        (λ r. absurd (not_wrong s.instance s.scale s.old r.0 r.1 s.good (subst (λ (J : Network). IsWrongText J bytes r.0 r.1) (law.one_instance I s.instance unit s.scale reads s.good.reads).0 r.2))),
      );
      kept = λ I unit old wall good none _.
          let same : log ≡ old = s.kept.same ∙ one_log s.old old s.good.text good.text in
          record {
            ends = refl;
            given = ap (λ (l : Log). Some (NoTree l)) same;
            took = took ∙ ap (append_known taken) s.text;
            log = subst (λ (l : Log). IfSome w.save_name (λ name. IfSome (texts name) (λ text. text ≡ log_text l))) same saved;
          };
      continued = λ I unit old good tree_claimed _. absurd (not_both_claims old s.old s.kept.wall (one_log old s.old good.text s.good.text) tree_claimed s.kept.claims);
    }

    -- the file was refused
    no_file : (outcome : Option Outcome) (sent : List ℕ) → IsRefusal stp sent → ResumesLog w stp bytes RefusedFile outcome texts taken now
    no_file outcome sent s = record {
      too_long = ((λ e. absurd cc), (λ long. absurd (fits long)));
      refused_file = λ _. ((λ e. (s.line, s.reason, s.refused)), (λ r. refl));
      refused_log = λ I unit reads _. absurd (law.not_both I unit s.line s.reason reads s.refused);
      kept = λ I unit old wall good none _. absurd (law.not_both I unit s.line s.reason good.reads s.refused);
      continued = λ I unit old good tree_claimed _. absurd (law.not_both I unit s.line s.reason good.reads s.refused);
    }

    -- the log was refused
    no_log : (outcome : Option Outcome) (sent : List ℕ) → IsLogRefusal stp bytes sent → ResumesLog w stp bytes RefusedLog outcome texts taken now
    no_log outcome sent s = record {
      too_long = ((λ e. absurd cc), (λ long. absurd (fits long)));
      refused_file = λ _. ((λ e. absurd cc), (λ r. absurd (law.not_both s.instance s.scale r.0 r.1 s.reads r.2)));
      refused_log = λ I unit reads _. ((λ e. (s.line, s.kind, subst (λ (J : Network). IsWrongText J bytes s.line s.kind) (law.one_instance s.instance I s.scale unit s.reads reads).0 s.wrong)), (λ r. refl));
      kept = λ I unit old wall good none _. absurd (wrong_here I unit old good);
      continued = λ I unit old good tree_claimed _. absurd (wrong_here I unit old good);
    }
      where
        wrong_here : (I : Network) (unit : Scale) (old : Log) → IsGoodLog stp bytes I unit old → ⊥
        wrong_here I unit old good = not_wrong I unit old s.line s.kind good (subst (λ (J : Network). IsWrongText J bytes s.line s.kind) (law.one_instance s.instance I s.scale unit s.reads good.reads).0 s.wrong)

    -- how a file and a log that were loaded whole are answered decides the status
    answered_log : (status : Status) (outcome : Option Outcome) (sent : List ℕ) → ResumeAnswer w stp bytes status outcome sent → now ≡ append_known taken sent → IsSaved (Some (resume w)) texts outcome → ResumesLog w stp bytes status outcome texts taken now
    answered_log Optimal (Some (Found tree primal dual expanded searches log scale)) sent (s, same) took saved = gone_on Optimal tree primal dual expanded searches log scale sent s (inl (refl, same)) took saved
    answered_log Budget (Some (Found tree primal dual expanded searches log scale)) sent (s, below) took saved = gone_on Budget tree primal dual expanded searches log scale sent s (inr (refl, below)) took saved
    answered_log Infeasible (Some (NoTree log)) sent s took saved = gone_nowhere log sent s took saved
    answered_log RefusedFile None sent s took saved = no_file None sent s
    answered_log RefusedLog None sent s took saved = no_log None sent s
    answered_log Optimal (Some (Directed tree primal dual expanded log scale)) sent s took saved = absurd s
    answered_log Optimal (Some (NoTree log)) sent s took saved = absurd s
    answered_log Optimal None sent s took saved = absurd s
    answered_log Budget (Some (Directed tree primal dual expanded log scale)) sent s took saved = absurd s
    answered_log Budget (Some (NoTree log)) sent s took saved = absurd s
    answered_log Budget None sent s took saved = absurd s
    answered_log Infeasible (Some (Found tree primal dual expanded searches log scale)) sent s took saved = absurd s
    answered_log Infeasible (Some (Directed tree primal dual expanded log scale)) sent s took saved = absurd s
    answered_log Infeasible None sent s took saved = absurd s
    answered_log RefusedFile (Some _) sent s took saved = absurd s
    answered_log RefusedLog (Some _) sent s took saved = absurd s
    answered_log NoMemory outcome sent s took saved = absurd s
    answered_log ReadFault outcome sent s took saved = absurd s
    answered_log TooLong outcome sent s took saved = absurd s
    answered_log Usage outcome sent s took saved = absurd s
    answered_log WriteFault outcome sent s took saved = absurd s
    answered_log NotFew outcome sent s took saved = absurd s
    answered_log NotTree outcome sent s took saved = absurd s
    answered_log RefusedSolution outcome sent s took saved = absurd s

-- one of the two texts is too long
long_log : (w : ResumeWords) (stp bytes : List ℕ) (outcome : Option Outcome) (texts : Texts) (taken now : Option (List ℕ)) → (2 ^ 34 < length stp) ⊎ (2 ^ 34 < length bytes) → ResumesLog w stp bytes TooLong outcome texts taken now
long_log w stp bytes outcome texts taken now long = record {
  too_long = ((λ _. long), (λ _. refl));
  refused_file = λ short. absurd (fits short);
  refused_log = λ I unit reads short. absurd (fits short);
  kept = λ I unit old wall good none short. absurd (fits short);
  continued = λ I unit old good tree_claimed short. absurd (fits short);
}
  where
    fits : AreLoadable stp bytes → ⊥
    fits short = elim long [
      | inl l ↦ omega (arith, short.file, l)
      | inr l ↦ omega (arith, short.log, l)
    ]

-- how a run ends decides how a file and a log are answered, where nothing fails
pub resumes_log : (w : ResumeWords) (stp bytes : List ℕ) (old new : Texts) (status : Status) (outcome : Option Outcome) (taken now : Option (List ℕ)) (sent : List ℕ)
    → FilesAreExact stp → LogsAreExact → old w.file ≡ Some stp → old w.log_name ≡ Some bytes → (status ≡ ReadFault → ⊥) → (status ≡ NoMemory → ⊥)
    → EndsWith (Some (resume w)) old status outcome sent → now ≡ append_known taken sent → IsSaved (Some (resume w)) new outcome → ResumesLog w stp bytes status outcome new taken now
resumes_log w stp bytes old new status outcome taken now sent files logs known known' read memory (inl h) took saved =
    let same = known_loaded (old w.file) h.0 stp known h.2 in
    let same' = known_loaded (old w.log_name) h.1 bytes known' h.3 in
    answered_log stp bytes files logs w new taken now (record { file = same.1; log = same'.1 }) status outcome sent
    (subst (λ l. ResumeAnswer w stp l status outcome sent) same'.0 (subst (λ b. ResumeAnswer w b h.1 status outcome sent) same.0 h.4)) took saved
resumes_log w stp bytes old new TooLong outcome taken now sent files logs known known' read memory (inr h) took saved = elim h.0 [
  | inl long ↦ long_log w stp bytes outcome new taken now (inl (subst (λ o. IfSome o (λ text. 2 ^ 34 < length text)) known long))
  | inr rest ↦ elim rest [
    | inl long ↦ long_log w stp bytes outcome new taken now (inr (subst (λ o. IfSome o (λ text. 2 ^ 34 < length text)) known' long))
    | inr none ↦ absurd none
  ]
]
resumes_log w stp bytes old new ReadFault outcome taken now sent files logs known known' read memory (inr h) took saved = absurd (read refl)
resumes_log w stp bytes old new NoMemory outcome taken now sent files logs known known' read memory (inr h) took saved = absurd (memory refl)
resumes_log w stp bytes old new Optimal outcome taken now sent files logs known known' read memory (inr h) took saved = absurd h.0
resumes_log w stp bytes old new Usage outcome taken now sent files logs known known' read memory (inr h) took saved = absurd h.0
resumes_log w stp bytes old new Budget outcome taken now sent files logs known known' read memory (inr h) took saved = absurd h.0
resumes_log w stp bytes old new Infeasible outcome taken now sent files logs known known' read memory (inr h) took saved = absurd h.0
resumes_log w stp bytes old new RefusedFile outcome taken now sent files logs known known' read memory (inr h) took saved = absurd h.0
resumes_log w stp bytes old new RefusedLog outcome taken now sent files logs known known' read memory (inr h) took saved = absurd h.0
resumes_log w stp bytes old new WriteFault outcome taken now sent files logs known known' read memory (inr h) took saved = absurd h.0
resumes_log w stp bytes old new NotFew outcome taken now sent files logs known known' read memory (inr h) took saved = absurd h.0
resumes_log w stp bytes old new NotTree outcome taken now sent files logs known known' read memory (inr h) took saved = absurd h.0
resumes_log w stp bytes old new RefusedSolution outcome taken now sent files logs known known' read memory (inr h) took saved = absurd h.0
