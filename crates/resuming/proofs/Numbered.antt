-- The closes of a proof are numbered one after another, so searches that go on from them have numbers of their own.
use Rattle.std.proofs.Common.{◌≡◌, ℕ, zero, suc, ◌+◌, ◌-◌, ◌≤◌, List, [], ◌∷◌, ◌++◌, length, refl, sym, ap, subst, arith, length-append}
use Rattle.std.specs.Prelude.{Contains}
use Rattle.st_model.specs.declared.branch.Branch.{Branch}
use Rattle.st_model.specs.Branch.{yes_half, no_half}
use Rattle.st_model.specs.Network.{Network}
use Rattle.cut_packing.specs.ProofTree.{ProofTree, close, split}
use Rattle.branching.specs.declared.node.Node.{Node}
use Rattle.search_core.specs.declared.gathered.Searched.{Searched}
use Rattle.log_resume.specs.Closes.{close_count, closes_from}
use Rattle.resuming.specs.GoingOn.{GoOn, ended, searched}

-- nodes are numbered one after another, from a number on
abbrev pub AreNumbered : ℕ → List Node → Type 0
AreNumbered number [] = Unit {0}
AreNumbered number (N ∷ Ns) = (N.id ≡ number) × AreNumbered (number + 1) Ns

numbered_append : (number next : ℕ) (Ns Ms : List Node) → AreNumbered number Ns → next ≡ number + length Ns → AreNumbered next Ms → AreNumbered number (Ns ++ Ms)
numbered_append number next [] Ms first is second = let same : next ≡ number = omega arith in subst (λ (k : ℕ). AreNumbered k Ms) same second
numbered_append number next (N ∷ Ns) Ms first is second = (first.0, numbered_append (number + 1) next Ns Ms first.1 (omega arith) second)

pub length-closes_from : (number : ℕ) (B : Branch) (p : ProofTree) → length (closes_from number B p) ≡ close_count p
length-closes_from number B (close P) = refl
length-closes_from number B (split at p q) =
    let both = length-append (closes_from number (yes_half B at) p) (closes_from (number + close_count p) (no_half B at) q) in
    omega (arith, both, length-closes_from number (yes_half B at) p, length-closes_from (number + close_count p) (no_half B at) q)

pub closes_numbered : (number : ℕ) (B : Branch) (p : ProofTree) → AreNumbered number (closes_from number B p)
closes_numbered number B (close P) = (refl, tt)
closes_numbered number B (split at p q) =
    let count = length-closes_from number (yes_half B at) p in
    numbered_append number (number + close_count p) (closes_from number (yes_half B at) p) (closes_from (number + close_count p) (no_half B at) q)
    (closes_numbered number (yes_half B at) p) (omega (arith, count)) (closes_numbered (number + close_count p) (no_half B at) q)

-- a node after some, and those after it
pub record IsNumberedAfter (number : ℕ) (N : Node) (rest : List Node) : Type 0 where
  pub late : number ≤ N.id
  pub rest_after : AreNumbered (N.id + 1) rest

pub numbered_after : (number : ℕ) (before : List Node) (N : Node) (rest : List Node) → AreNumbered number (before ++ N ∷ rest) → IsNumberedAfter number N rest
numbered_after number [] N rest all = record { late = omega (arith, all.0); rest_after = subst (λ (k : ℕ). AreNumbered (k + 1) rest) (sym all.0) all.1 }
numbered_after number (M ∷ before) N rest all =
    let later = numbered_after (number + 1) before N rest all.1 in
    record { late = omega (arith, later.late); rest_after = later.rest_after }

pub numbered_late : (number : ℕ) (Ns : List Node) (N : Node) → AreNumbered number Ns → Contains Ns N → number ≤ N.id
numbered_late number [] N all (k, low, is) = absurd (omega arith)
numbered_late number (M ∷ Ns) N all (zero, low, is) = let same = ap (λ (K : Node). K.id) is in omega (arith, all.0, same)
numbered_late number (M ∷ Ns) N all (suc k, low, is) = omega (arith, numbered_late (number + 1) Ns N all.1 (k, omega arith, is))

-- so the closes that were searched have no lower numbers
pub searches_late : (I : Network) (number : ℕ) (closes : List Node) (least budget : ℕ) (Es : List Searched) (last : ℕ) (E : Searched) → AreNumbered number closes → GoOn I closes least budget Es last → Contains Es E → number ≤ E.close
searches_late I number closes least budget Es last E all (ended none) (k, low, is) = absurd (omega arith)
searches_late I number closes least budget Es last E all (searched {rest} {N} {E = F} {more} next ran later) there =
    let after = numbered_after number next.before N rest (subst (AreNumbered number) next.parts all) in
    by_place there after (λ h. searches_late I (N.id + 1) rest F.gathered.least (budget - F.gathered.claimed) more last E after.rest_after later h)
  where
    by_place : Contains (F ∷ more) E → IsNumberedAfter number N rest → (Contains more E → N.id + 1 ≤ E.close) → number ≤ E.close
    by_place (zero, low, is) after go = let same = ap (λ (K : Searched). K.close) is in omega (arith, after.late, same, ran.close_is)
    by_place (suc k, low, is) after go = let h = go (k, omega arith, is) in omega (arith, after.late, h)
