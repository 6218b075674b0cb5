-- What a pass finds at its ends.
use Rattle.std.proofs.Common.{◌≡◌, ℕ, zero, suc, ◌+◌, ◌<◌, List, [], ◌∷◌, ◌++◌, false, true≢false, map, length, set, get_or, refl, ap, ◌∙◌, arith}
use Rattle.std.specs.Prelude.{Result, Ok, Err, MatchResult, IfNone, IfSome, MatchOption, is_some, Some, None}
use Rattle.std.specs.declared.option.Option.{Option}
use Rattle.std.specs.List.{sum_by}
use Rattle.std.proofs.lemmas.List.Sums.{sum_by-cons, sum_by-append}
use Rattle.branching.specs.declared.node.Node.{Node}
use Rattle.node_pool.specs.declared.rule.Hand.{Hand}
use Rattle.node_pool.specs.Ends.{End, queue_of, look}
use Rattle.node_pool.specs.Pool.{station, puts, takes, Moves, FoundNothing}

pub same_end : (a b : End) → a.queue ≡ b.queue → a.hand ≡ b.hand → a.looks ≡ b.looks → a ≡ b
same_end a b q h l = λ i. record { queue = q i; hand = h i; looks = l i }

pub same_queues : (es : List End) (k : ℕ) (e : End) → k < length es → e.queue ≡ (get_or es k e).queue → map queue_of (set es k e) ≡ map queue_of es
same_queues [] k e lt q = refl
same_queues (x ∷ xs) zero e lt q = λ i. q i ∷ map queue_of xs
same_queues (x ∷ xs) (suc k) e lt q = λ i. x.queue ∷ same_queues xs k e (omega arith) q i

pub any_default : (es : List End) (k : ℕ) (d o : End) → k < length es → get_or es k d ≡ get_or es k o
any_default [] k d o lt = absurd (omega arith)
any_default (x ∷ xs) zero d o lt = refl
any_default (x ∷ xs) (suc k) d o lt = any_default xs k d o (omega arith)

pub queues_after : (es : List End) (k : ℕ) (e o : End) → k < length es → o ≡ get_or es k o → e.queue ≡ o.queue → map queue_of (set es k e) ≡ map queue_of es
queues_after es k e o lt at q = same_queues es k e lt (q ∙ ap (λ (x : End). x.queue) (at ∙ any_default es k o e lt))

-- the queue at a place answered that it held nothing
pub found_none : (r : Option Node) (P : Node → Type 0) (es : List End) (k : ℕ) (e o : End) → k < length es → o ≡ get_or es k o → e.queue ≡ o.queue
    → MatchOption r ((e.hand ≡ o.hand) × (e.looks ≡ o.looks + 1)) P → IfNone r ((d : End) → set es k e ≡ set es k (look (get_or es k d)))
found_none None P es k e o lt at q m = λ d. ap (set es k) (same_end e (look o) q m.0 m.1 ∙ ap look (at ∙ any_default es k o d lt))
found_none (Some x) P es k e o lt at q m = tt

pub lost : (r : Option Node) (A : Type 0) → is_some r ≡ false → IfNone r A → A
lost None A is a = a
lost (Some x) A is a = absurd (true≢false is)

pub finishes : (r : Option Node) (own o : End) (es fs : List End) (xs l : List Node) → o.queue ≡ own.queue → o.hand ≡ own.hand → o.looks ≡ own.looks + 1 → xs ≡ [] → l ≡ xs
    → IfNone r (fs ≡ map look es) → IfSome r (λ n. (h : Node → ℕ) → takes h fs ≡ takes h es + h n) → ((h : Node → ℕ) → puts h fs ≡ puts h es)
    → MatchOption r (FoundNothing (station own es xs) (station o fs l)) (λ n. Moves (station own es xs) (station o fs l) [] (n ∷ []))
finishes None own o es fs xs l q hd looks nil is none some put = let e = same_end o (look own) q hd looks in let m = is ∙ nil in (nil, (λ i. station (e i) (none i) (m i)))
finishes (Some n) own o es fs xs l q hd looks nil is none some put = λ h.
    let a : sum_by h o.hand.put ≡ sum_by h own.hand.put = ap (λ (v : Hand). sum_by h v.put) hd in
    let b : sum_by h o.hand.taken ≡ sum_by h own.hand.taken = ap (λ (v : Hand). sum_by h v.taken) hd in
    let c : sum_by h l ≡ sum_by h xs = ap (sum_by h) is in
    let d = some h in let e = put h in
    let f = sum_by-cons h n [] in let z : sum_by h [] ≡ 0 = refl in omega arith

pub if_none : {A : Type 0} (r : Option Node) → A → IfNone r A
if_none None a = a
if_none (Some x) a = tt

-- A node that its own queue refused goes into its list, or back, and then nothing has changed.
pub kept_or_back : (r : Result (Unit {0}) Node) (own o : End) (es : List End) (xs l : List Node) (node n : Node) → o ≡ own → n ≡ node
    → MatchResult r (λ _. l ≡ xs ++ n ∷ []) (λ back. (back ≡ n) × (l ≡ xs))
    → MatchResult r (λ _. Moves (station own es xs) (station o es l) (node ∷ []) []) (λ back. (back ≡ node) × (station o es l ≡ station own es xs))
kept_or_back (Ok _) own o es xs l node n same is kept = λ h.
    let a : sum_by h o.hand.put ≡ sum_by h own.hand.put = ap (λ (e : End). sum_by h e.hand.put) same in
    let b : sum_by h o.hand.taken ≡ sum_by h own.hand.taken = ap (λ (e : End). sum_by h e.hand.taken) same in
    let c : sum_by h l ≡ sum_by h (xs ++ n ∷ []) = ap (sum_by h) kept in let d = sum_by-append h xs (n ∷ []) in
    let e : h n ≡ h node = ap h is in let f = sum_by-cons h n [] in let g = sum_by-cons h node [] in let z : sum_by h [] ≡ 0 = refl in omega arith
kept_or_back (Err back) own o es xs l node n same is kept = (kept.0 ∙ is, λ i. station (same i) es (kept.1 i))

-- At no end nothing is stolen.
pub none_stolen : (P : Node → Type 0) (r : Option Node) (es fs : List End) → es ≡ [] → map queue_of fs ≡ map queue_of es → IfSome r (λ n. (h : Node → ℕ) → takes h fs ≡ takes h es + h n) → IfSome r P
none_stolen P None es fs none same some = tt
none_stolen P (Some n) es [] none same some = absurd (let e = some (λ _. 1) in let z : takes (λ _. 1) es ≡ 0 = ap (takes (λ _. 1)) none in let y : takes (λ _. 1) [] ≡ 0 = refl in omega arith)
none_stolen P (Some n) es (f ∷ fs) none same some = absurd (let e : length (map queue_of (f ∷ fs)) ≡ length (map queue_of es) = ap (λ l. length l) same in let z : length (map queue_of es) ≡ 0 = ap (λ (l : List End). length (map queue_of l)) none in omega arith)
