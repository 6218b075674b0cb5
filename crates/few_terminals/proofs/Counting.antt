-- The terminals of an instance, counted, listed, and one of them taken as the root.
use Rattle.std.proofs.Common.{◌≡◌, lit≤, ℕ, zero, suc, ◌+◌, ◌-◌, ◌^◌, ◌<◌, ◌≤◌, Bool, true, false, cond, ◌||◌, List, [], ◌∷◌, ◌++◌, length, Option, Some, None, refl, sym, ap, subst, ◌∙◌, ◌⊎◌, inl, inr, arith, length-append}
use Rattle.std.specs.Prelude.{◌==◌, IsTrue, IsFalse, MatchOption, option_to_list, unwrap_or}
use Rattle.std.proofs.Math.Pow.{pow_mono}
use Rattle.std.proofs.lemmas.Bool.{eqb-true, false≢true, false_from_ne_true, or_cases, cases_lt}
use Rattle.std.proofs.lemmas.Bool.Decides.{nat_tests}
use Rattle.st_model.specs.Lists.{has, sum_to}
use Rattle.st_model.specs.Network.{Network, IsVertex, is_required}
use Rattle.st_model.specs.Terminals.{IsTerminal, terminal_count}
use Rattle.st_model.specs.VertexSet.{AllApart}
use Rattle.st_model.proofs.Marked.{has-push, AllApart-push}
use Rattle.few_terminals.specs.declared.choice.Terminals.{Terminals}
use Rattle.few_terminals.specs.Terminals.{count_to, AreTerminalsBelow, AreTerminals}

-- one vertex more
pub count_more : (I : Network) (v : ℕ) → sum_to (λ v. cond (is_required I v) 1 0) (v + 1) ≡ sum_to (λ v. cond (is_required I v) 1 0) v + cond (is_required I (v + 1)) 1 0
count_more I v = let next : v + 1 ≡ suc v = omega arith in rw next refl

-- sets of at most twelve
pub few_sets : (t : ℕ) → t ≤ 12 → 2 ^ t ≤ 4096
few_sets t few = pow_mono few

-- none below the first vertex
pub terminals_none : (I : Network) → AreTerminalsBelow I [] 1
terminals_none I = record {
  sound = λ v there. absurd (false≢true there);
  complete = λ v terminal low. absurd (let first = terminal.vertex.0 in omega (arith, first));
  apart = tt;
  count = refl;
}

-- how many there are below the next vertex
next_count : (I : Network) (vertex : ℕ) → 1 ≤ vertex → count_to I (vertex + 1 - 1) ≡ count_to I (vertex - 1) + cond (is_required I vertex) 1 0
next_count I zero low = absurd (omega arith)
next_count I (suc v) low =
    let here : suc v + 1 - 1 ≡ suc v = omega arith in
    let before : suc v - 1 ≡ v = omega arith in
    rw (here, before) refl

abbrev bit : Bool → ℕ
bit b = cond b 1 0

-- a terminal is listed
pub terminals_push : (I : Network) (list : List ℕ) (vertex : ℕ) → IsVertex I.n vertex → is_required I vertex ≡ true → AreTerminalsBelow I list vertex → AreTerminalsBelow I (list ++ vertex ∷ []) (vertex + 1)
terminals_push I list vertex range needed below = record {
  sound = λ v there. elim (or_cases (has list v) (vertex == v) (sym (has-push list vertex v) ∙ there)) [
    | inl old ↦ let was = below.sound v old in let low = was.1 in (was.0, omega (arith, low))
    | inr new ↦
        let same : vertex ≡ v = eqb-true vertex v new in
        (subst (IsTerminal I) same (record { vertex = range; required = needed }), omega (arith, same))
  ];
  complete = λ v terminal low. has-push list vertex v ∙ listed v terminal (cases_lt v vertex) low;
  apart = AllApart-push list vertex below.apart out;
  count =
      let longer = length-append list (vertex ∷ []) in
      let next = next_count I vertex range.0 in
      let one = ap bit needed in
      let before = below.count in
      omega (arith, longer, next, one, before);
}
  where
    out : IsFalse (has list vertex)
    out = false_from_ne_true (has list vertex) (λ there. let low = (below.sound vertex there).1 in omega (arith, low))

    here : (v : ℕ) → vertex ≡ v → (vertex == v) ≡ true
    here v same = grind (arith, nat_tests)

    right : (a b : Bool) → b ≡ true → (a || b) ≡ true
    right true b h = refl
    right false b h = h

    left : (a b : Bool) → a ≡ true → (a || b) ≡ true
    left true b h = refl
    left false b h = absurd (false≢true h)

    listed : (v : ℕ) → IsTerminal I v → (v < vertex) ⊎ (vertex ≤ v) → v < vertex + 1 → (has list v || (vertex == v)) ≡ true
    listed v terminal (inl lower) low = left (has list v) (vertex == v) (below.complete v terminal lower)
    listed v terminal (inr higher) low = right (has list v) (vertex == v) (here v (omega arith))

-- another vertex is passed by
pub terminals_skip : (I : Network) (list : List ℕ) (vertex : ℕ) → IsVertex I.n vertex → is_required I vertex ≡ false → AreTerminalsBelow I list vertex → AreTerminalsBelow I list (vertex + 1)
terminals_skip I list vertex range spare below = record {
  sound = λ v there. let was = below.sound v there in let low = was.1 in (was.0, omega (arith, low));
  complete = λ v terminal low. listed v terminal (cases_lt v vertex) low;
  apart = below.apart;
  count =
      let next = next_count I vertex range.0 in
      let none = ap bit spare in
      let before = below.count in
      omega (arith, next, none, before);
}
  where
    listed : (v : ℕ) → IsTerminal I v → (v < vertex) ⊎ (vertex ≤ v) → v < vertex + 1 → IsTrue (has list v)
    listed v terminal (inl lower) low = below.complete v terminal lower
    listed v terminal (inr higher) low =
        let same : v ≡ vertex = omega arith in
        absurd (false≢true (sym spare ∙ subst (λ (x : ℕ). IsTrue (is_required I x)) same terminal.required))

-- the front of a list in which nothing stands twice
apart_front : (xs : List ℕ) (y : ℕ) → AllApart (xs ++ y ∷ []) → AllApart xs
apart_front [] y apart = tt
apart_front (x ∷ xs) y apart = (first (has xs x) (y == x) (sym (has-push xs y x) ∙ apart.0), apart_front xs y apart.1)
  where
    first : (a b : Bool) → (a || b) ≡ false → a ≡ false
    first true b h = h
    first false b h = refl

-- the last terminal is the root, if there is one
pub terminals_chosen : (I : Network) (list rest : List ℕ) (last : Option ℕ) (t : Terminals) → 1 ≤ I.n → terminal_count I ≤ 12 → AreTerminalsBelow I list (I.n + 1) → list ≡ rest ++ option_to_list last → t.others.items ≡ rest → t.root ≡ unwrap_or last 1 → (last ≡ None → rest ≡ []) → AreTerminals I t
terminals_chosen I list rest None t instance few below parts others root none =
    let empty : t.others.items ≡ [] = others ∙ none refl in
    let nobody : list ≡ [] = parts ∙ ap (λ (xs : List ℕ). xs ++ []) (none refl) in
    record {
      vertex = rw root (lit≤ tt, instance);
      others = λ v there. absurd (false≢true (subst (λ (xs : List ℕ). IsTrue (has xs v)) empty there));
      root = λ v there. absurd (false≢true (subst (λ (xs : List ℕ). IsTrue (has xs v)) empty there));
      all = λ v terminal. absurd (false≢true (subst (λ (xs : List ℕ). IsTrue (has xs v)) nobody (below.complete v terminal (let high = terminal.vertex.1 in omega (arith, high)))));
      apart = subst AllApart (sym empty) tt;
      few = let long = ap length empty in omega (arith, long);
    }
terminals_chosen I list rest (Some x) t instance few below parts others root none =
    let whole : list ≡ t.others.items ++ x ∷ [] = parts ∙ ap (λ (xs : List ℕ). xs ++ x ∷ []) (sym others) in
    let listed : (v : ℕ) → has list v ≡ (has t.others.items v || (x == v)) = λ v. ap (λ (xs : List ℕ). has xs v) whole ∙ has-push t.others.items x v in
    let own : (x == x) ≡ true = grind (arith, nat_tests) in
    let first : IsTerminal I x = (below.sound x (listed x ∙ right (has t.others.items x) (x == x) own)).0 in
    let root_is : IsTerminal I t.root = subst (IsTerminal I) (sym root) first in
    record {
      vertex = root_is.vertex;
      others = λ v there. (below.sound v (listed v ∙ left (has t.others.items v) (x == v) there)).0;
      root = λ v there. root_is;
      all = λ v terminal. elim (or_cases (has t.others.items v) (x == v) (sym (listed v) ∙ below.complete v terminal (let high = terminal.vertex.1 in omega (arith, high)))) [
        | inl among ↦ inl among
        | inr last ↦ inr (root ∙ eqb-true x v last)
      ];
      apart = apart_front t.others.items x (subst AllApart whole below.apart);
      few =
          let long = ap length whole in
          let longer = length-append t.others.items (x ∷ []) in
          let count = below.count in
          let last : I.n + 1 - 1 ≡ I.n = omega arith in
          let all : length list ≡ terminal_count I = count ∙ ap (λ (n : ℕ). count_to I n) last in
          omega (arith, long, longer, all);
    }
  where
    right : (a b : Bool) → b ≡ true → (a || b) ≡ true
    right true b h = refl
    right false b h = h

    left : (a b : Bool) → a ≡ true → (a || b) ≡ true
    left true b h = refl
    left false b h = absurd (false≢true h)

-- a list from which nothing could be taken is empty
pub emptied : (o : Option ℕ) (rest : List ℕ) (m n : ℕ) → MatchOption o ((m ≡ 0) × (n ≡ 0)) (λ _. n + 1 ≡ m) → n ≡ length rest → o ≡ None → rest ≡ []
emptied None rest m n cases long is = nothing rest (sym long ∙ cases.1)
  where
    nothing : (rest : List ℕ) → length rest ≡ 0 → rest ≡ []
    nothing [] none = refl
    nothing (x ∷ rest) none = absurd (omega (arith, none))
emptied (Some x) rest m n cases long is = absurd (let clash : ⊥ = cc in clash)
