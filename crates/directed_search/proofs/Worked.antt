-- Each node that is expanded has a line of its own, and so has each close that is light.
use Rattle.std.proofs.Common.{◌≡◌, ℕ, ◌+◌, ◌<◌, ◌≤◌, Bool, true, false, cond, List, [], ◌∷◌, ◌++◌, refl, arith}
use Rattle.std.specs.Prelude.{nat_lt}
use Rattle.std.proofs.lemmas.Bool.Decides.{nat_tests}
use Rattle.std.proofs.lemmas.List.{length-append}
use Rattle.st_model.specs.declared.split_at.SplitAt.TheVariants.{Vertex}
use Rattle.cut_packing.specs.declared.packing.Packing.{Packing}
use Rattle.arborescence.specs.DiNetwork.{DiNetwork}
use Rattle.log_format.specs.declared.proof_line.ProofLine.{ProofLine}
use Rattle.log_format.specs.declared.proof_line.ProofLine.TheVariants.{Split, Close}
use Rattle.directed_search.specs.Found.{light_closes}
use Rattle.directed_search.specs.State.{State, IsImproved, closed_by, counted, split_at, worth}
use Rattle.directed_search.specs.Searching.{HasLines}

light-append : (x : ℕ) (ls ms : List ProofLine) → light_closes x (ls ++ ms) ≡ light_closes x ls + light_closes x ms
light-append x [] ms = omega arith
light-append x (Split at ∷ ls) ms = light-append x ls ms
light-append x (Close P ∷ ls) ms = omega (arith, light-append x ls ms)

-- fewer are light where less is enough
light-lower : (x y : ℕ) → x ≤ y → (ls : List ProofLine) → light_closes x ls ≤ light_closes y ls
light-lower x y low [] = omega arith
light-lower x y low (Split at ∷ ls) = light-lower x y low ls
light-lower x y low (Close P ∷ ls) = let here = still (nat_lt (worth P) x) refl (nat_lt (worth P) y) refl in omega (arith, here, light-lower x y low ls)
  where
    still : (a : Bool) → nat_lt (worth P) x ≡ a → (b : Bool) → nat_lt (worth P) y ≡ b → cond a 1 0 ≤ cond b 1 0
    still true e true f = omega arith
    still true e false f = absurd (let below : worth P < x = grind (arith, nat_tests) in let above : y ≤ worth P = grind (arith, nat_tests) in omega arith)
    still false e b f = omega arith

pub lines_counted : (s : State) → HasLines s 0 → HasLines (counted s) 1
lines_counted s h = omega arith

-- a close is a line, and maybe light
pub lines_closed : (s : State) (P : Packing) → HasLines s 0 → HasLines (closed_by s P) 0
lines_closed s P h = let most = at_most (nat_lt (worth P) s.primal) in omega (arith, h, most, light-append s.primal s.lines (Close P ∷ []), length-append s.lines (Close P ∷ []))
  where
    at_most : (b : Bool) → cond b 1 0 ≤ 1
    at_most true = omega arith
    at_most false = omega arith

-- the close of a node in hand isn't
pub lines_heavy : (s : State) (P : Packing) → s.primal ≤ worth P → HasLines s 1 → HasLines (closed_by s P) 0
lines_heavy s P heavy h = let none = isnt (nat_lt (worth P) s.primal) refl in omega (arith, h, none, light-append s.primal s.lines (Close P ∷ []), length-append s.lines (Close P ∷ []))
  where
    isnt : (b : Bool) → nat_lt (worth P) s.primal ≡ b → cond b 1 0 ≤ 0
    isnt true e = absurd (let below : worth P < s.primal = grind (arith, nat_tests) in omega arith)
    isnt false e = omega arith

pub lines_split : (s : State) (v : ℕ) → HasLines s 1 → HasLines (split_at s v) 0
lines_split s v h = omega (arith, h, light-append s.primal s.lines (Split (Vertex v) ∷ []), length-append s.lines (Split (Vertex v) ∷ []))

pub lines_improved : (D : DiNetwork) (s t : State) (hand : ℕ) → IsImproved D s t → HasLines s hand → HasLines t hand
lines_improved D s t hand better h = rw (better.expanded, better.lines) (omega (arith, h, light-lower t.primal s.primal better.no_more s.lines))
