-- Where not the whole budget was spent, the proof with those of the searches in it shows the last value.
use Rattle.std.proofs.Common.{◌≡◌, ℕ, zero, suc, ◌+◌, ◌-◌, ◌<◌, ◌≤◌, ◌⊎◌, List, [], ◌∷◌, ◌++◌, refl, sym, ap, subst, inl, inr, arith, get_or}
use Rattle.std.specs.Prelude.{All, Contains}
use Rattle.std.proofs.lemmas.List.Elements.{All-append, All-cons, All-contains, All-weaker, Contains-append_left, Contains-append_right, Contains-get_or}
use Rattle.st_model.specs.declared.branch.Branch.{Branch}
use Rattle.st_model.specs.Branch.{yes_half, no_half}
use Rattle.st_model.specs.Network.{Network}
use Rattle.cut_packing.specs.declared.packing.Packing.{Packing}
use Rattle.cut_packing.specs.ProofTree.{ProofTree}
use Rattle.branching.specs.declared.node.Node.{Node}
use Rattle.search_core.specs.declared.gathered.Searched.{Searched}
use Rattle.search_core.specs.Complete.{waiting}
use Rattle.search_core.specs.ReadOff.{IsReadOff, least_weight}
use Rattle.search_core.proofs.Reading.{complete_lem}
use Rattle.log_resume.specs.Closes.{close_count, closes_from, node_weight}
use Rattle.log_resume.specs.Grafted.{IsGrafted, StandsFor, at_close, at_split, grown, stays}
use Rattle.resuming.specs.GoingOn.{GoOn, IsSearchFrom, ended, searched}
use Rattle.resuming.specs.Resumed.{expanded_by}
use Rattle.resuming.proofs.Falling.{falls, one_more_claimed, search_falls, within_budget}
use Rattle.resuming.proofs.Numbered.{AreNumbered, closes_numbered, numbered_after, numbered_late, searches_late}
use Rattle.resuming.proofs.Heavy.{reads_heavy}

-- a search of the node among some shows the last value, whichever proof is read off it, and so does each other one of it
pub record IsShown (I : Network) (Es : List Searched) (last : ℕ) (N : Node) : Type 0 where
  pub run : Searched
  pub read_off : ProofTree
  pub among : Contains Es run
  pub close_is : run.close ≡ N.id
  pub read : IsReadOff run.gathered 0 read_off
  pub all : (E : Searched) (q : ProofTree) → Contains Es E → E.close ≡ N.id → IsReadOff E.gathered 0 q → last ≤ least_weight I N.branch q

-- a close weighs at least the last value, or a search of it shows that
abbrev pub IsSettled : Network → List Searched → ℕ → Node → Type 0
IsSettled I Es last N = (last ≤ node_weight I N) ⊎ IsShown I Es last N

-- one search more in front, of an earlier close
settled_more : (I : Network) (E : Searched) (Es : List Searched) (last : ℕ) (N : Node) → E.close < N.id → IsSettled I Es last N → IsSettled I (E ∷ Es) last N
settled_more I E Es last N early (inl heavy) = inl heavy
settled_more I E Es last N early (inr shown) =
    let (k, low, is) = shown.among in
    inr (record { run = shown.run; read_off = shown.read_off; among = (suc k, omega arith, is); close_is = shown.close_is; read = shown.read; all = by_place })
  where
    by_place : (F : Searched) (q : ProofTree) → Contains (E ∷ Es) F → F.close ≡ N.id → IsReadOff F.gathered 0 q → last ≤ least_weight I N.branch q
    by_place F q (zero, low, is) here read = let same = ap (λ (K : Searched). K.close) is in absurd (omega arith)
    by_place F q (suc k, low, is) here read = shown.all F q (k, omega arith, is) here read

-- a search at the end of which nothing waits shows the last value
shown_here : (I : Network) (N : Node) (E : Searched) (Es : List Searched) (least budget last : ℕ) → IsSearchFrom I N least budget E → last ≤ E.gathered.least → ((q : ProofTree) → IsReadOff E.gathered 0 q → E.gathered.least ≤ least_weight I N.branch q)
    → ((F : Searched) → Contains Es F → N.id + 1 ≤ F.close) → IsShown I (E ∷ Es) last N
shown_here I N E Es least budget last ran low heavy late =
    let (q, proves) = complete_lem E.gathered I N.branch least budget ran.complete in
    record { run = E; read_off = q; among = (0, omega arith, refl); close_is = ran.close_is; read = proves.read; all = by_place }
  where
    by_place : (F : Searched) (q : ProofTree) → Contains (E ∷ Es) F → F.close ≡ N.id → IsReadOff F.gathered 0 q → last ≤ least_weight I N.branch q
    by_place F q (zero, within, is) here read = let h = heavy q (subst (λ (K : Searched). IsReadOff K.gathered 0 q) (sym is) read) in omega (arith, low, h)
    by_place F q (suc k, within, is) here read = let h = late F (k, omega arith, is) in absurd (omega (arith, h, here))

-- the closes before one that is light, itself, and those after it
all_settled : (I : Network) (N : Node) (E : Searched) (Es : List Searched) (before rest closes : List Node) (least last : ℕ) → closes ≡ before ++ N ∷ rest → last ≤ least → All (λ M. least ≤ node_weight I M) before
    → IsShown I (E ∷ Es) last N → ((M : Node) → Contains rest M → E.close < M.id) → All (IsSettled I Es last) rest → All (IsSettled I (E ∷ Es) last) closes
all_settled I N E Es before rest closes least last parts low heavy shown late settled =
    let first : All (IsSettled I (E ∷ Es) last) before = All-weaker (λ M. least ≤ node_weight I M) (IsSettled I (E ∷ Es) last) (λ M h. inl (at_least _ _ _ low h)) before heavy in
    let after : All (IsSettled I (E ∷ Es) last) rest = λ k d within. settled_more I E Es last (get_or rest k d) (late (get_or rest k d) (Contains-get_or rest k d within)) (settled k d within) in
    subst (All (IsSettled I (E ∷ Es) last)) (sym parts) (All-append (IsSettled I (E ∷ Es) last) before (N ∷ rest) first (All-cons (IsSettled I (E ∷ Es) last) N rest (inr shown) after))
  where
    at_least : (a b c : ℕ) → a ≤ b → b ≤ c → a ≤ c
    at_least a b c h k = omega arith

-- the whole budget was spent, or each close is settled
pub spent_or_settled : (I : Network) (number : ℕ) (closes : List Node) (least budget : ℕ) (Es : List Searched) (last : ℕ) → AreNumbered number closes → GoOn I closes least budget Es last → (expanded_by Es ≡ budget) ⊎ All (IsSettled I Es last) closes
spent_or_settled I number closes least budget Es last numbers (ended none) = inr (All-weaker (λ M. last ≤ node_weight I M) (IsSettled I [] last) (λ M h. inl h) closes none)
spent_or_settled I number closes least budget Es last numbers (searched {rest} {N} {E} {more} next ran later) =
    let after = numbered_after number next.before N rest (subst (AreNumbered number) next.parts numbers) in
    by_case ran.finished.spent (spent_or_settled I (N.id + 1) rest E.gathered.least (budget - E.gathered.claimed) more last after.rest_after later) after.rest_after
  where
    by_case : (waiting E.gathered ≡ []) ⊎ (E.gathered.claimed ≡ budget) → (expanded_by more ≡ budget - E.gathered.claimed) ⊎ All (IsSettled I more last) rest → AreNumbered (N.id + 1) rest → (expanded_by (E ∷ more) ≡ budget) ⊎ All (IsSettled I (E ∷ more) last) closes
    by_case ended_how (inl spent) numbered = inl (let all = one_more_claimed E more in omega (arith, all, spent, ran.complete.allowed))
    by_case (inr spent) (inr settled) numbered =
        inl (let all = one_more_claimed E more in let less = within_budget I rest E.gathered.least (budget - E.gathered.claimed) more last later in omega (arith, all, spent, less))
    by_case (inl none) (inr settled) numbered =
        let low = falls I rest E.gathered.least (budget - E.gathered.claimed) more last later in
        let down = search_falls I N least budget E ran in
        let shown = shown_here I N E more least budget last ran low (λ q read. reads_heavy E.gathered I N.branch least budget q ran.complete none read)
        (λ F there. searches_late I (N.id + 1) rest E.gathered.least (budget - E.gathered.claimed) more last F numbered later there) in
        inr (all_settled I N E more next.before rest closes least last next.parts (omega (arith, low, down)) next.heavy shown
        (λ M there. let h = numbered_late (N.id + 1) rest M numbered there in omega (arith, h, ran.close_is)) settled)

-- what stands for a close that is settled shows the last value
stands_heavy : (I : Network) (Es : List Searched) (last number : ℕ) (B : Branch) (P : Packing) (q : ProofTree) → IsSettled I Es last (record { id = number; branch = B; packing = P }) → StandsFor I Es number B P q → last ≤ least_weight I B q
stands_heavy I Es last number B P q (inl heavy) (grown {E} among is proves no_lighter) = omega (arith, heavy, no_lighter)
stands_heavy I Es last number B P q (inr shown) (grown {E} among is proves no_lighter) = shown.all E q among is proves.read
stands_heavy I Es last number B P q (inl heavy) (stays lighter) = heavy
stands_heavy I Es last number B P q (inr shown) (stays lighter) =
    let less = lighter shown.run shown.read_off shown.among shown.close_is shown.read in
    let low = shown.all shown.run shown.read_off shown.among shown.close_is shown.read in
    omega (arith, less, low)

-- so does the proof with those of the searches in it
pub grafted_heavy : (I : Network) (Es : List Searched) (last number : ℕ) (B : Branch) (p q : ProofTree) → ((N : Node) → Contains (closes_from number B p) N → IsSettled I Es last N) → IsGrafted I Es number B p q → last ≤ least_weight I B q
grafted_heavy I Es last number B p q settled (at_close {P} stands) = stands_heavy I Es last number B P q (settled _ (0, omega arith, refl)) stands
grafted_heavy I Es last number B p q settled (at_split {at} {p = p1} {q = p2} {p' = q1} {q' = q2} first second) =
    let one = closes_from number (yes_half B at) p1 in
    let two = closes_from (number + close_count p1) (no_half B at) p2 in
    let inner = grafted_heavy I Es last number (yes_half B at) p1 q1 (λ N there. settled N (Contains-append_left one two N there)) first in
    let outer = grafted_heavy I Es last (number + close_count p1) (no_half B at) p2 q2 (λ N there. settled N (Contains-append_right one two N there)) second in
    omega (arith, inner, outer)

-- a budget was spent, or the last value is shown
pub spent_or_shown : (I : Network) (B : Branch) (p q : ProofTree) (start budget : ℕ) (Es : List Searched) (last : ℕ) → GoOn I (closes_from 0 B p) start budget Es last → IsGrafted I Es 0 B p q → (expanded_by Es ≡ budget) ⊎ (last ≤ least_weight I B q)
spent_or_shown I B p q start budget Es last gone_on grafted =
    elim (spent_or_settled I 0 (closes_from 0 B p) start budget Es last (closes_numbered 0 B p) gone_on) [
      | inl spent ↦ inl spent
      | inr settled ↦ inr (grafted_heavy I Es last 0 B p q (λ N there. All-contains (IsSettled I Es last) (closes_from 0 B p) N settled there) grafted)
    ]
