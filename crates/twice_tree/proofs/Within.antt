-- What joining terminals one by one costs, beside the round along a tree.
use Rattle.std.proofs.Common.{◌≡◌, ℕ, zero, suc, ◌+◌, ◌-◌, ◌*◌, ◌≤◌, Bool, true, false, cond, eqb, ◌||◌, ◌&&◌, List, [], ◌∷◌, length, refl, sym, ap, subst, ◌∙◌, arith}
use Rattle.std.specs.Prelude.{◌==◌, IsTrue, IsFalse}
use Rattle.std.proofs.lemmas.Bool.{eqb-true, false≢true}
use Rattle.std.proofs.lemmas.List.{length-map}
use Rattle.std.proofs.lemmas.Nat.{mul-le}
use Rattle.st_model.specs.declared.tree.Tree.{Tree}
use Rattle.st_model.specs.Lists.{has, total, sum_to}
use Rattle.st_model.specs.Network.{Network, IsInstance, IsVertex, is_required}
use Rattle.st_model.specs.Arborescence.{IsArborescence, cost, reached}
use Rattle.st_model.specs.VertexSet.{AllApart}
use Rattle.st_model.specs.Regrown.{IsRegrown}
use Rattle.st_model.proofs.Distinct.{has-cons_head, has-cons_tail}
use Rattle.st_model.proofs.Members.{has-one}
use Rattle.st_model.proofs.Reaching.{tree-vertex}
use Rattle.st_model.proofs.RegrowLaws.{each_tree_regrows}
use Rattle.st_model.proofs.RegrowAlike.{regrown_is_alike}
use Rattle.st_model.proofs.Sums.{sum_to_same, sum_to_le, sum_to-add, sum_to_none, sum_to_one}
use Rattle.st_model.specs.Terminals.{IsTerminal, terminal_count}
use Rattle.twice_tree.specs.Twice.{NoneIsNearer, AreJoined, alone, next, NearestIsWithinTwice}
use Rattle.short_paths.proofs.Below.{under, paid, paid_in_all, hangs_somewhere, hanging_is_reached}
use Rattle.twice_tree.proofs.Gaps.{gap, names, tops, Crosses, joining, all_joined, one_segment}
use Rattle.twice_tree.proofs.Walks.{walks_back}
use Rattle.twice_tree.proofs.Tours.{round, round-length, stops_are, stops_once, begins, round_leads, Leads}

-- ---- how many there are

pub each_once : (n : ℕ) (xs : List ℕ) → AllApart xs → ((v : ℕ) → IsTrue (has xs v) → IsVertex n v) → sum_to (λ v. cond (has xs v) 1 0) n ≡ length xs
each_once n [] once range = sum_to_none n
each_once n (x ∷ xs) once range =
    let first = range x (has-cons_head xs x x refl) in
    let split = sum_to_same (λ v. cond (has (x ∷ xs) v) 1 0) (λ v. cond (eqb x v) 1 0 + cond (has xs v) 1 0) n (λ v low high. at v (eqb x v) (has xs v) refl refl) in
    let sum = sum_to-add (λ v. cond (eqb x v) 1 0) (λ v. cond (has xs v) 1 0) n in
    let one = sum_to_one x 1 n first.0 first.1 in
    let rest = each_once n xs once.1 (λ v there. range v (has-cons_tail xs x v there)) in
    omega (arith, split, sum, one, rest)
  where
    at : (v : ℕ) (a b : Bool) → eqb x v ≡ a → has xs v ≡ b → cond (a || b) 1 0 ≡ cond a 1 0 + cond b 1 0
    at v true true is there = absurd (false≢true (sym (subst (λ (w : ℕ). has xs w ≡ false) (eqb-true x v is) once.0) ∙ there))
    at v true false is there = refl
    at v false b is there = omega arith

-- at most as many pass a test as there are
pub at_most_all : (test : ℕ → Bool) (n : ℕ) → sum_to (λ v. cond (test v) 1 0) n ≤ n
at_most_all test zero = omega arith
at_most_all test (suc n) = at (test (suc n)) (at_most_all test n)
  where
    at : (b : Bool) → sum_to (λ v. cond (test v) 1 0) n ≤ n → sum_to (λ v. cond (test v) 1 0) n + cond b 1 0 ≤ suc n
    at true rest = omega (arith, rest)
    at false rest = omega (arith, rest)

-- terminals of a list, each once, are at most as many as there are
pub few : (I : Network) (xs : List ℕ) → AllApart xs → ((v : ℕ) → IsTrue (has xs v) → IsTerminal I v) → length xs ≤ terminal_count I
few I xs once are =
    let counted = each_once I.n xs once (λ v there. (are v there).vertex) in
    let more = sum_to_le (λ v. cond (has xs v) 1 0) (λ v. cond (is_required I v) 1 0) I.n (λ v low high. at v (has xs v) (is_required I v) refl refl) in
    omega (arith, counted, more)
  where
    at : (v : ℕ) (a b : Bool) → has xs v ≡ a → is_required I v ≡ b → cond a 1 0 ≤ cond b 1 0
    at v true true is req = omega arith
    at v true false is req = absurd (false≢true (sym req ∙ (are v is).required))
    at v false b is req = omega arith

-- ---- joining

-- each gap between one that is joined and one that isn't is at least as far as the nearest
crosses : (I : Network) (first : ℕ) (J : List ℕ) (d : ℕ) → NoneIsNearer I J d → IsTrue (has J first) → (u : ℕ) → IsTerminal I u → (stops : List (ℕ × ℕ)) (back : ℕ) → ((v : ℕ) → IsTrue (has (names stops) v) → IsTerminal I v) → Leads I u stops back first → Crosses d J (has J u) stops back
crosses I first J d near root u here [] back are leads = λ out. near first u back root here out (walks_back I.links u first back leads)
crosses I first J d near root u here (stop ∷ stops) back are leads =
    let next_one : IsTerminal I stop.1 = are stop.1 (has-cons_head (names stops) stop.1 stop.1 refl) in (
      (λ joined out. near u stop.1 stop.0 joined next_one out leads.0),
      (λ out joined. near stop.1 u stop.0 joined here out (walks_back I.links u stop.1 stop.0 leads.0)),
      crosses I first J d near root stop.1 next_one stops back (λ v there. are v (has-cons_tail (names stops) stop.1 v there)) leads.1,
    )

-- what was spent, and the greatest gap of all, are at most the greatest gaps of all segments
spends : (I : Network) (first : ℕ) (J : List ℕ) (spent : ℕ) → AreJoined I first J spent → IsTerminal I first → (stops : List (ℕ × ℕ)) (back : ℕ) → ((v : ℕ) → IsTrue (has (names stops) v) → IsTerminal I v) → ((v : ℕ) → IsTerminal I v → IsTrue (has (first ∷ names stops) v)) → Leads I first stops back first
    → IsTrue (has J first) × (spent + tops (first ∷ []) 0 stops back ≤ tops J 0 stops back)
spends I first J spent alone terminal stops back are covers leads = (has-cons_head [] first first refl, omega arith)
spends I first J spent (next {joined} {spent = before} {k} {d} way new out near) terminal stops back are covers leads =
    let rest = spends I first joined before way terminal stops back are covers leads in
    let crossing = subst (λ (b : Bool). Crosses d joined b stops back) rest.0 (crosses I first joined d near rest.0 first terminal stops back are leads) in
    let among : IsTrue (has (names stops) k) = at (first == k) refl (covers k new) rest.0 in
    let gained = joining d k joined true 0 stops back (λ e. absurd (false≢true (sym e))) crossing among out in
    (has-cons_tail joined k first rest.0, omega (arith, rest.1, gained))
  where
    at : (b : Bool) → (first == k) ≡ b → (b || has (names stops) k) ≡ true → has joined first ≡ true → has (names stops) k ≡ true
    at true is there root = absurd (false≢true (sym out ∙ subst (λ (w : ℕ). has joined w ≡ true) (eqb-true first k is) root))
    at false is there root = there

-- ---- shares

-- what a share of the greatest gap saves
saves : (count spent top sum many c : ℕ) → spent + top ≤ sum → sum ≤ count * top → count ≤ many → 1 ≤ many → sum ≤ 2 * c → many * spent ≤ 2 * (many - 1) * c
saves count spent top sum (suc more) c within high few some twice =
    let wider = mul-le count top (suc more) top few (omega arith) in
    let all = mul-le (suc more) (spent + top) (suc more) sum (omega arith) within in
    let last = mul-le more sum more (2 * c) (omega arith) twice in
    let less : suc more - 1 ≡ more = omega arith in
    let parts : suc more * (spent + top) ≡ suc more * spent + suc more * top = omega arith in
    let whole : suc more * sum ≡ more * sum + sum = omega arith in
    let turned : 2 * more * c ≡ more * (2 * c) = omega arith in
    rw less (omega (arith, wider, all, last, high, parts, whole, turned))
saves count spent top sum zero c within high few some twice = absurd (omega arith)

-- ---- the law

-- beside a round that begins at the first
beside : (I : Network) (first : ℕ) (J : List ℕ) (spent c : ℕ) → IsTerminal I first → AreJoined I first J spent → ((v : ℕ) → IsTerminal I v → IsTrue (has J v))
    → (rest : List (ℕ × ℕ)) (back : ℕ) → Leads I first rest back first → AllApart (first ∷ names rest) → ((v : ℕ) → IsTrue (has (names rest) v) → IsTerminal I v) → ((v : ℕ) → IsTerminal I v → IsTrue (has (first ∷ names rest) v))
    → total gap rest + back ≤ 2 * c → terminal_count I * spent ≤ 2 * (terminal_count I - 1) * c
beside I first J spent c terminal joined all rest back leads once are covers twice =
    let spent_is = spends I first J spent joined terminal rest back are covers leads in
    let ended = all_joined J rest back (λ v there. all v (are v there)) in
    let began = one_segment (first ∷ []) 0 rest back (λ v there. out v (first == v) refl there) in
    let count : length rest + 1 ≤ terminal_count I = (let lengths = length-map rest (λ (stop : ℕ × ℕ). stop.1) in let count = few I (first ∷ names rest) once (λ v there. one v (first == v) refl there) in omega (arith, lengths, count)) in
    saves (length rest + 1) spent (tops (first ∷ []) 0 rest back) (total gap rest + back) (terminal_count I) c (omega (arith, spent_is.1, ended)) began count (omega (arith, count)) twice
  where
    out : (v : ℕ) (b : Bool) → (first == v) ≡ b → IsTrue (has (names rest) v) → IsFalse (has (first ∷ []) v)
    out v true is there = absurd (false≢true (sym once.0 ∙ subst (λ (w : ℕ). has (names rest) w ≡ true) (sym (eqb-true first v is)) there))
    out v false is there = rw is refl

    one : (v : ℕ) (b : Bool) → (first == v) ≡ b → (b || has (names rest) v) ≡ true → IsTerminal I v
    one v true is there = subst (IsTerminal I) (eqb-true first v is) terminal
    one v false is there = are v there

-- beside a tree that begins at the first
beside_tree : (I : Network) (t : Tree) (J : List ℕ) (spent : ℕ) → IsInstance I → IsTerminal I t.start → AreJoined I t.start J spent → ((v : ℕ) → IsTerminal I v → IsTrue (has J v)) → IsArborescence I t → ((v : ℕ) → IsTerminal I v → IsTrue (has (reached t) v))
    → terminal_count I * spent ≤ 2 * (terminal_count I - 1) * cost I t
beside_tree I t J spent instance terminal joined all tree reaches = from (begins I (is_required I) t.arcs t.start terminal.required)
  where
    start : IsTrue (has (t.start ∷ []) t.start)
    start = has-cons_head [] t.start t.start refl

    -- all that is reached hangs at the start
    hung : (v : ℕ) → IsTrue (has (reached t) v) → IsTrue (has (under t.arcs t.start) v)
    hung v there = at (hangs_somewhere I (t.start ∷ []) t.arcs tree.grows v there)
      where
        at : ((w : ℕ) × IsTrue (has (t.start ∷ []) w) × IsTrue (has (under t.arcs w) v)) → IsTrue (has (under t.arcs t.start) v)
        at (w, among, below) = subst (λ (x : ℕ). IsTrue (has (under t.arcs x) v)) (sym (has-one t.start w among)) below

    terminal_of : (v : ℕ) (a b : Bool) → has (under t.arcs t.start) v ≡ a → is_required I v ≡ b → (a && b) ≡ true → IsTerminal I v
    terminal_of v true true is req h = record { vertex = tree-vertex I t v instance tree (hanging_is_reached I (t.start ∷ []) t.arcs tree.grows t.start v start is); required = req }
    terminal_of v true false is req h = absurd (false≢true h)
    terminal_of v false b is req h = absurd (false≢true h)

    from : ((rest : List (ℕ × ℕ)) × ((round I (is_required I) t.arcs t.start).0 ≡ (0, t.start) ∷ rest)) → terminal_count I * spent ≤ 2 * (terminal_count I - 1) * cost I t
    from (rest, is) =
        let leads : Leads I t.start ((0, t.start) ∷ rest) (round I (is_required I) t.arcs t.start).1 t.start = subst (λ (xs : List (ℕ × ℕ)). Leads I t.start xs (round I (is_required I) t.arcs t.start).1 t.start) is (round_leads I (is_required I) (t.start ∷ []) t.arcs tree.grows t.start) in
        let once : AllApart (t.start ∷ names rest) = subst (λ (xs : List (ℕ × ℕ)). AllApart (names xs)) is (stops_once I (is_required I) (t.start ∷ []) t.arcs tree.grows t.start start) in
        let members : (v : ℕ) → has (t.start ∷ names rest) v ≡ (has (under t.arcs t.start) v && is_required I v) = λ v. ap (λ (xs : List (ℕ × ℕ)). has (names xs) v) (sym is) ∙ stops_are I (is_required I) t.arcs t.start v in
        let sum : 0 + total gap rest + (round I (is_required I) t.arcs t.start).1 ≡ 2 * paid I t.arcs t.start = ap (λ (xs : List (ℕ × ℕ)). total gap xs + (round I (is_required I) t.arcs t.start).1) (sym is) ∙ round-length I (is_required I) t.arcs t.start in
        let links = paid_in_all I (t.start ∷ []) t.arcs tree.grows (refl, tt) in
        beside I t.start J spent (cost I t) terminal joined all rest (round I (is_required I) t.arcs t.start).1 leads.1 once
        (λ v there. terminal_of v (has (under t.arcs t.start) v) (is_required I v) refl refl (sym (members v) ∙ has-cons_tail (names rest) t.start v there))
        (λ v there. members v ∙ rw (hung v (reaches v there), there.required) refl)
        (omega (arith, sum, links))

pub nearest_is_within_twice : NearestIsWithinTwice
nearest_is_within_twice I first J spent t instance terminal joined all tree = from (each_tree_regrows I t first instance tree.arborescence (tree.required first terminal.vertex terminal.required))
  where
    from : ((new : Tree) × IsRegrown I t first new) → terminal_count I * spent ≤ 2 * (terminal_count I - 1) * cost I t
    from (new, is) =
        let alike = regrown_is_alike I t first new tree.arborescence (tree.required first terminal.vertex terminal.required) is in
        let start : first ≡ new.start = sym is.start in
        let law = beside_tree I new J spent instance (subst (IsTerminal I) start terminal) (subst (λ (f : ℕ). AreJoined I f J spent) start joined) all is.arborescence (λ v there. alike.0 v ∙ tree.required v there.vertex there.required) in
        subst (λ (c : ℕ). terminal_count I * spent ≤ 2 * (terminal_count I - 1) * c) alike.1 law
