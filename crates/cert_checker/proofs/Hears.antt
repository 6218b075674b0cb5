-- The lines of a log so far, one after the other, and all of them.
use Rattle.std.proofs.Common.{◌≡◌, ℕ, ◌+◌, ◌<◌, ◌^◌, List, [], ◌∷◌, ◌++◌, length, inl, inr, refl, sym, ap, subst, ◌∙◌, length-append, arith}
use Rattle.std.proofs.lemmas.List.{length-map, map-append}
use Rattle.std.proofs.lemmas.List.Elements.{recursion_from_All, All-from_recursion}
use Rattle.std.specs.List.{AllByRecursion}
use Rattle.arborescence.specs.Problem.{Problem}
use Rattle.log_format.specs.declared.fault.LogFault.{LogFault}
use Rattle.log_format.specs.declared.item.Item.{Item}
use Rattle.log_format.specs.declared.log.Claim.{Claim}
use Rattle.log_format.specs.declared.log.Log.{Log}
use Rattle.log_format.specs.declared.stage.Stage.TheVariants.{AtHeader, AtNothing}
use Rattle.log_format.specs.Accepts.{AcceptsClaimIn, RejectsClaimIn}
use Rattle.log_format.specs.Items.{IsItem, item_line, log_items, LineItems}
use Rattle.log_format.specs.Text.{IsLog, log_lines}
use Rattle.cert_checker.specs.declared.stage.Stage.{Stage}
use Rattle.cert_checker.specs.declared.stage.Stage.TheVariants.{BeforeHeader, Right, Wrong}
use Rattle.cert_checker.specs.declared.verdict.Verdict.{Verdict}
use Rattle.cert_checker.specs.Following.{Said, said_by, IsJudged, Follows}
use Rattle.cert_checker.specs.Hearing.{IsHearing}
use Rattle.cert_checker.specs.Held.{Open, none_open, opened, opened_by}
use Rattle.cert_checker.specs.Verdict.{verdict_of}
use Rattle.cert_checker.proofs.Said.{said_by-push, log_said}

-- ---- the start

pub hears_none : (K : Problem) → IsHearing K [] BeforeHeader none_open 0
hears_none K = record {
  items = [];
  are = record { fit = All-from_recursion IsItem [] tt; say = refl };
  judged = inl refl;
  held = refl;
  counted = refl;
}

-- ---- one line more

all_push : (items : List Item) (item : Item) → AllByRecursion IsItem items → IsItem item → AllByRecursion IsItem (items ++ item ∷ [])
all_push [] item all one = (one, tt)
all_push (first ∷ items) item all one = (all.0, all_push items item all.1 one)

opened_push : (o : Open) (items : List Item) (item : Item) → opened_by o (items ++ item ∷ []) ≡ opened (opened_by o items) item
opened_push o [] item = refl
opened_push o (first ∷ items) item = opened_push (opened o first) items item

pub hears_more : (K : Problem) (lines : List (List ℕ)) (stage next : Stage) (o o' : Open) (count : ℕ) (line : List ℕ) (item : Item) → IsHearing K lines stage o count → IsItem item
    → line ≡ item_line item → o' ≡ opened o item → Follows K item stage next → length lines < 2 ^ 63
    → IsHearing K (lines ++ line ∷ []) next o' (count + 1)
hears_more K lines stage next o o' count line item h fits says opens follows few =
    let items = h.items ++ item ∷ [] in
    let same : length lines ≡ length h.items = ap length h.are.say ∙ length-map h.items item_line in
    let judged = follows (length h.items) (said_by AtHeader h.items) (omega (arith, few, same)) h.judged in
    let longer : length h.items + 1 ≡ length items = sym (length-append h.items (item ∷ [])) in
    record {
      items = items;
      are = record {
        fit = All-from_recursion IsItem items (all_push h.items item (recursion_from_All IsItem h.items h.are.fit) fits);
        say = (λ i. h.are.say i ++ says i ∷ []) ∙ sym (map-append item_line h.items (item ∷ []));
      };
      judged = subst (λ (n : ℕ). IsJudged K n (said_by AtHeader items) next) longer (subst (λ (s : Said). IsJudged K (length h.items + 1) s next) (sym (said_by-push AtHeader h.items item)) judged);
      held = opens ∙ (ap (λ (x : Open). opened x item) h.held ∙ sym (opened_push none_open h.items item));
      counted = omega (arith, h.counted, length-append lines (line ∷ []));
    }

-- ---- all lines of a log

-- what was judged is so of its claim
pub hears_log : (K : Problem) (lines : List (List ℕ)) (stage : Stage) (o : Open) (count : ℕ) (log : Log) → IsHearing K lines stage o count → LineItems → IsLog log → log_lines log ≡ lines
    → IsJudged K (length lines) (AtNothing log.claim) stage
hears_log K lines stage o count log h law is same =
    let items : h.items ≡ log_items log = law log h.items is h.are.fit (same ∙ h.are.say) in
    let said : said_by AtHeader h.items ≡ AtNothing log.claim = ap (said_by AtHeader) items ∙ log_said log is in
    let long : length h.items ≡ length lines = sym (ap length h.are.say ∙ length-map h.items item_line) in
    subst (λ (n : ℕ). IsJudged K n (AtNothing log.claim) stage) long (subst (λ (s : Said). IsJudged K (length h.items) s stage) said h.judged)

pub right_is : (K : Problem) (count : ℕ) (claim : Claim) (stage : Stage) (verdict : Verdict) → IsJudged K count (AtNothing claim) stage → stage ≡ Right verdict
    → AcceptsClaimIn K claim × (verdict ≡ verdict_of claim)
right_is K count claim stage verdict (inl (is, accepts)) e = (accepts, cc)
right_is K count claim stage verdict (inr (f, is, rejects)) e = absurd cc

pub wrong_is : (K : Problem) (count : ℕ) (claim : Claim) (stage : Stage) (fault : LogFault) → IsJudged K count (AtNothing claim) stage → stage ≡ Wrong fault
    → RejectsClaimIn K claim fault.line fault.kind
wrong_is K count claim stage fault (inl (is, accepts)) e = absurd cc
wrong_is K count claim stage fault (inr (f, is, rejects)) e = let same : f ≡ fault = cc in subst (λ (x : LogFault). RejectsClaimIn K claim x.line x.kind) same (rejects claim refl)

-- it is right or wrong
pub neither_is : (K : Problem) (count : ℕ) (claim : Claim) (stage : Stage) → IsJudged K count (AtNothing claim) stage → ((verdict : Verdict) → ¬ (stage ≡ Right verdict))
    → ((f : LogFault) → ¬ (stage ≡ Wrong f)) → ⊥
neither_is K count claim stage (inl (is, accepts)) not_right not_wrong = not_right (verdict_of claim) is
neither_is K count claim stage (inr (f, is, rejects)) not_right not_wrong = not_wrong f is
