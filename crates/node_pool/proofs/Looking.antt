-- Ends at each of which was looked once.
use Rattle.std.proofs.Common.{◌≡◌, ℕ, zero, suc, ◌+◌, ◌<◌, List, [], ◌∷◌, map, length, set, get_or, refl, sym, ap, ◌∙◌, arith}
use Rattle.std.specs.Prelude.{IfSome}
use Rattle.std.specs.declared.option.Option.{Option}
use Rattle.std.specs.declared.option.Option.TheVariants.{Some, None}
use Rattle.std.specs.List.{sum_by}
use Rattle.std.proofs.lemmas.List.Sums.{sum_by-cons}
use Rattle.branching.specs.declared.node.Node.{Node}
use Rattle.node_pool.specs.Ends.{End, queue_of, look}
use Rattle.node_pool.specs.Pool.{Station, puts, takes, Moves, FoundNothing}
use Rattle.node_pool.specs.Sides.{looked}

pub looked_long : (k : ℕ) (es : List End) → length (looked k es) ≡ length es
looked_long zero es = refl
looked_long (suc k) [] = refl
looked_long (suc k) (e ∷ es) = ap suc (looked_long k es)

pub looked_queues : (k : ℕ) (es : List End) → map queue_of (looked k es) ≡ map queue_of es
looked_queues zero es = refl
looked_queues (suc k) [] = refl
looked_queues (suc k) (e ∷ es) = λ i. e.queue ∷ looked_queues k es i

pub looked_puts : (h : Node → ℕ) (k : ℕ) (es : List End) → puts h (looked k es) ≡ puts h es
looked_puts h zero es = refl
looked_puts h (suc k) [] = refl
looked_puts h (suc k) (e ∷ es) = let r = looked_puts h k es in let p = λ (x : End). sum_by h x.hand.put in let s : p (look e) ≡ p e = refl in
    omega (arith, sum_by-cons p e es, sum_by-cons p (look e) (looked k es))

pub looked_takes : (h : Node → ℕ) (k : ℕ) (es : List End) → takes h (looked k es) ≡ takes h es
looked_takes h zero es = refl
looked_takes h (suc k) [] = refl
looked_takes h (suc k) (e ∷ es) = let r = looked_takes h k es in let p = λ (x : End). sum_by h x.hand.taken in let s : p (look e) ≡ p e = refl in
    omega (arith, sum_by-cons p e es, sum_by-cons p (look e) (looked k es))

looked_on : (k : ℕ) (es : List End) (d : End) → k < length es → set (looked k es) k (look (get_or (looked k es) k d)) ≡ looked (suc k) es
looked_on k [] d lt = absurd (omega arith)
looked_on zero (e ∷ es) d lt = refl
looked_on (suc k) (e ∷ es) d lt = λ i. look e ∷ looked_on k es d (omega arith) i

-- one look more
pub looks_on : (k : ℕ) (es was now : List End) → was ≡ looked k es → k < length es → ((d : End) → now ≡ set was k (look (get_or was k d)))
    → (now ≡ looked (k + 1) es) × (length now ≡ length es)
looks_on k [] was now before lt is = absurd (omega arith)
looks_on k (e ∷ es) was now before lt is =
    let here = is e ∙ ap (λ (l : List End). set l k (look (get_or l k e))) before ∙ looked_on k (e ∷ es) e lt in
    let next : suc k ≡ k + 1 = omega arith in
    (here ∙ ap (λ j. looked j (e ∷ es)) next, ap (λ (l : List End). length l) here ∙ looked_long (suc k) (e ∷ es))

pub looked_all : (es : List End) → looked (length es) es ≡ map look es
looked_all [] = refl
looked_all (e ∷ es) = λ i. look e ∷ looked_all es i

-- what was taken after looks
pub taken_after : (r : Option Node) (es was now : List End) → ((h : Node → ℕ) → takes h was ≡ takes h es) → IfSome r (λ n. (h : Node → ℕ) → takes h now ≡ takes h was + h n)
    → IfSome r (λ n. (h : Node → ℕ) → takes h now ≡ takes h es + h n)
taken_after None es was now same some = tt
taken_after (Some n) es was now same some = λ h. let a = some h in let b = same h in omega arith

-- A pass that found nothing gave and took nothing.
pub nothing_moves : (s t : Station) → FoundNothing s t → Moves s t [] []
nothing_moves s t found h =
    let e = found.1 in
    let a : puts h t.others ≡ puts h s.others = ap (λ (u : Station). puts h u.others) e ∙ (ap (puts h) (sym (looked_all s.others)) ∙ looked_puts h (length s.others) s.others) in
    let b : takes h t.others ≡ takes h s.others = ap (λ (u : Station). takes h u.others) e ∙ (ap (takes h) (sym (looked_all s.others)) ∙ looked_takes h (length s.others) s.others) in
    let c : sum_by h t.own.hand.put ≡ sum_by h s.own.hand.put = ap (λ (u : Station). sum_by h u.own.hand.put) e in
    let d : sum_by h t.own.hand.taken ≡ sum_by h s.own.hand.taken = ap (λ (u : Station). sum_by h u.own.hand.taken) e in
    let f : sum_by h t.list ≡ sum_by h s.list = ap (λ (u : Station). sum_by h u.list) e ∙ ap (sum_by h) (sym found.0) in omega arith

-- what moved after nothing did
pub moved_on : (s t u : Station) (given taken : List Node) → Moves s t [] [] → Moves t u given taken → Moves s u given taken
moved_on s t u given taken none some h = let a = none h in let b = some h in let z : sum_by h [] ≡ 0 = refl in omega arith
