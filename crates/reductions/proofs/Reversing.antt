-- A detour may be walked the other way round.
use Rattle.std.proofs.Common.{◌≡◌, ◌≢◌, ℕ, ◌+◌, ◌≤◌, Bool, true, false, cond, ◌||◌, ◌&&◌, List, [], ◌∷◌, ◌++◌, reverse, Option, IsSome, unwrap_or, refl, sym, ap, subst, ◌∙◌, arith, append_assoc, eqb}
use Rattle.std.proofs.lemmas.List.{reverse-append, reverse-reverse}
use Rattle.st_model.specs.Network.{Network, is_required}
use Rattle.st_model.specs.Arborescence.{arc_cost}
use Rattle.st_model.proofs.Distinct.{link-comm}
use Rattle.lift_back.specs.Detours.{IsDetour, MayGo}
use Rattle.lift_back.proofs.Walking.{GoesOn, detour_goes, goes_detour, first_goes, goes_first, last_goes, goes_last}

-- what a walk from v over the rest to b pays until the first required vertex, or to its end
ahead : Network → ℕ → ℕ → List ℕ → ℕ
ahead I b v [] = arc_cost I (v, b)
ahead I b v (w ∷ rest) = arc_cost I (v, w) + cond (is_required I w) 0 (ahead I b w rest)

-- it stays within the limit
ahead_within : (I : Network) (a b limit paid v : ℕ) (rest : List ℕ) → GoesOn I a b limit paid v rest → paid + ahead I b v rest ≤ limit
unfolding ahead
ahead_within I a b limit paid v [] goes = (last_goes I a b limit paid v goes).within
ahead_within I a b limit paid v (w ∷ rest) goes =
    let parts = first_goes I a b limit paid v w rest goes in
    by_need (is_required I w) parts.0.within (ahead_within I a b limit (cond (is_required I w) 0 (paid + arc_cost I (v, w))) w rest parts.1)
  where
    by_need : (required : Bool) → paid + arc_cost I (v, w) ≤ limit → cond required 0 (paid + arc_cost I (v, w)) + ahead I b w rest ≤ limit → paid + (arc_cost I (v, w) + cond required 0 (ahead I b w rest)) ≤ limit
    by_need true first later = omega arith
    by_need false first later = omega arith

cost-comm : (I : Network) (u w : ℕ) → arc_cost I (u, w) ≡ arc_cost I (w, u)
cost-comm I u w = ap (λ o. unwrap_or o 0) (link-comm I.links u w)

-- a walk for the other direction may go over a link backwards
turned_step : (I : Network) (a b limit paid more v w : ℕ) → MayGo I a b limit paid v w → more + arc_cost I (v, w) ≤ limit → MayGo I b a limit more w v
turned_step I a b limit paid more v w may within = record {
  linked = subst (λ (o : Option ℕ). IsSome o) (link-comm I.links v w) may.linked;
  other = between (eqb a v) (eqb b w) (eqb a w) (eqb b v) may.other;
  within = subst (λ (cost : ℕ). more + cost ≤ limit) (cost-comm I v w) within;
}
  where
    between : (av bw aw bv : Bool) → ((av && bw) || (aw && bv)) ≡ false → ((bw && av) || (bv && aw)) ≡ false
    between true true aw bv h = absurd cc
    between true false true true h = absurd cc
    between true false true false h = refl
    between true false false true h = refl
    between true false false false h = refl
    between false true true true h = absurd cc
    between false true true false h = refl
    between false true false true h = refl
    between false true false false h = refl
    between false false true true h = absurd cc
    between false false true false h = refl
    between false false false true h = refl
    between false false false false h = refl

-- from b back over the rest, and on from v
turned : (I : Network) (a b limit paid v : ℕ) (rest more : List ℕ) → GoesOn I a b limit paid v rest → GoesOn I b a limit (cond (is_required I v) 0 (ahead I b v rest)) v more → GoesOn I b a limit 0 b (reverse rest ++ v ∷ more)
unfolding ahead
turned I a b limit paid v [] more goes on =
    let may = last_goes I a b limit paid v goes in
    let room = may.within in
    goes_first I b a limit 0 b v more (turned_step I a b limit paid 0 v b may (omega arith))
    (subst (λ (cost : ℕ). GoesOn I b a limit (cond (is_required I v) 0 cost) v more) (let e : arc_cost I (v, b) ≡ 0 + arc_cost I (b, v) = (let same = cost-comm I v b in omega arith) in e) on)
turned I a b limit paid v (w ∷ rest) more goes on =
    let parts = first_goes I a b limit paid v w rest goes in
    let here = cond (is_required I w) 0 (ahead I b w rest) in
    let within : paid + (arc_cost I (v, w) + here) ≤ limit = ahead_within I a b limit paid v (w ∷ rest) goes in
    let next : GoesOn I b a limit here w (v ∷ more) =
    goes_first I b a limit here w v more (turned_step I a b limit paid here v w parts.0 (omega arith))
    (subst (λ (cost : ℕ). GoesOn I b a limit (cond (is_required I v) 0 cost) v more) (let e : arc_cost I (v, w) + here ≡ here + arc_cost I (w, v) = (let same = cost-comm I v w in omega arith) in e) on) in
    let joined : reverse (w ∷ rest) ++ v ∷ more ≡ reverse rest ++ w ∷ v ∷ more = ap (λ xs. xs ++ v ∷ more) (reverse-append (w ∷ []) rest) ∙ append_assoc (reverse rest) (w ∷ []) (v ∷ more) in
    subst (GoesOn I b a limit 0 b) (sym joined) (turned I a b limit (cond (is_required I w) 0 (paid + arc_cost I (v, w))) w rest (v ∷ more) parts.1 next)

pub turned_detour : (I : Network) (a b : ℕ) (inner : List ℕ) → IsDetour I a b inner → IsDetour I b a (reverse inner)
unfolding ahead
turned_detour I a b [] detour = absurd (detour.some refl)
turned_detour I a b (v ∷ rest) detour =
    let limit = arc_cost I (a, b) in
    let goes = detour_goes I a b limit (v ∷ rest) refl detour in
    let parts = first_goes I a b limit 0 a v rest goes in
    let within = ahead_within I a b limit 0 a (v ∷ rest) goes in
    let last : GoesOn I b a limit (cond (is_required I v) 0 (ahead I b v rest)) v [] = goes_last I b a limit (cond (is_required I v) 0 (ahead I b v rest)) v (turned_step I a b limit 0 (cond (is_required I v) 0 (ahead I b v rest)) a v parts.0 (omega arith)) in
    let whole : GoesOn I b a limit 0 b (reverse (v ∷ rest)) = subst (GoesOn I b a limit 0 b) (sym (reverse-append (v ∷ []) rest)) (turned I a b limit (cond (is_required I v) 0 (0 + arc_cost I (a, v))) v rest [] parts.1 last) in
    goes_detour I b a limit (reverse (v ∷ rest)) (cost-comm I a b) (subst (λ (o : Option ℕ). IsSome o) (link-comm I.links a b) detour.linked) (some (reverse (v ∷ rest)) (reverse-reverse (v ∷ rest))) whole
  where
    some : (back : List ℕ) → reverse back ≡ v ∷ rest → back ≢ []
    some back is e = let none : [] ≡ v ∷ rest = sym (ap reverse e) ∙ is in absurd cc
