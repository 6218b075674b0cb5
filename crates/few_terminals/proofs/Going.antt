-- One entry further on the way back.
use Rattle.std.proofs.Common.{◌≡◌, ℕ, zero, suc, ◌+◌, ◌<◌, ◌≤◌, Bool, true, false, cond, eqb, ◌||◌, List, [], ◌∷◌, length, set, replicate, Option, refl, sym, ap, subst, ◌∙◌, ◌⊎◌, inl, inr, arith, length-set}
use Rattle.std.specs.Prelude.{◌==◌, IsTrue, unwrap_or}
use Rattle.std.proofs.lemmas.Bool.{eqb-true, false≢true, cases_lt}
use Rattle.std.proofs.lemmas.Bool.Decides.{nat_tests}
use Rattle.std.proofs.lemmas.List.{get_or-set_other, get_or-set_same, get_or-replicate, get_or_past, length-replicate}
use Rattle.st_model.specs.Lists.{has}
use Rattle.st_model.specs.Network.{Network}
use Rattle.st_model.specs.Arborescence.{arc_cost}
use Rattle.short_paths.specs.declared.laid.Laid.{Laid}
use Rattle.short_paths.specs.Laid.{IsLaid, spent}
use Rattle.few_terminals.specs.Under.{mask}
use Rattle.few_terminals.specs.Entries.{at, Meaning, ComesAlong, IsJoined}
use Rattle.few_terminals.specs.Back.{is_among, owed, is_wanted, IsToCome, IsOnTheWay}
use Rattle.few_terminals.proofs.Bits.{among_sum, among_mask}
use Rattle.st_model.proofs.Members.{has-one}

-- marks of others stay
other_marks : (wanted : List Bool) (q x : ℕ) → (x ≡ q → ⊥) → is_wanted (set wanted q true) x ≡ is_wanted wanted x
other_marks wanted q x differ = get_or-set_other wanted q x true false differ

-- one more that is wanted adds no more than it costs, and nothing to what comes before it
owed_before : (es : List Meaning) (wanted : List Bool) (q p : ℕ) → p ≤ q → owed es (set wanted q true) p ≡ owed es wanted p
owed_before es wanted q zero low = refl
owed_before es wanted q (suc p) low =
    let same = other_marks wanted q p (λ is. let clash : ⊥ = omega arith in clash) in
    let rest = owed_before es wanted q p (omega arith) in
    rw (same, rest) refl

pub owed_more : (es : List Meaning) (wanted : List Bool) (q p : ℕ) → owed es (set wanted q true) p ≤ owed es wanted p + (at es q).cost
owed_more es wanted q zero = omega arith
owed_more es wanted q (suc p) = by_case (eqb p q) refl (owed_more es wanted q p)
  where
    either : (b : Bool) (x : ℕ) → cond b x 0 ≤ x
    either true x = omega arith
    either false x = omega arith

    by_case : (b : Bool) → eqb p q ≡ b → owed es (set wanted q true) p ≤ owed es wanted p + (at es q).cost → owed es (set wanted q true) p + cond (is_wanted (set wanted q true) p) (at es p).cost 0 ≤ owed es wanted p + cond (is_wanted wanted p) (at es p).cost 0 + (at es q).cost
    by_case true is rest =
        let here : p ≡ q = eqb-true p q is in
        let before = owed_before es wanted q p (omega arith) in
        let same : (at es p).cost ≡ (at es q).cost = ap (λ (x : ℕ). (at es x).cost) here in
        let most = either (is_wanted (set wanted q true) p) (at es p).cost in
        omega (arith, before, same, most)
    by_case false is rest =
        let same = other_marks wanted q p (λ e. let clash : true ≡ false = sym (grind (arith, nat_tests)) ∙ is in false≢true (sym clash)) in
        rw same (omega (arith, rest))

-- who is wanted from now on is the new one, or was wanted
wanted_cases : (wanted : List Bool) (q x : ℕ) → IsTrue (is_wanted (set wanted q true) x) → (x ≡ q) ⊎ IsTrue (is_wanted wanted x)
wanted_cases wanted q x there = by_case (eqb x q) refl
  where
    by_case : (b : Bool) → eqb x q ≡ b → (x ≡ q) ⊎ IsTrue (is_wanted wanted x)
    by_case true is = inl (eqb-true x q is)
    by_case false is = inr (sym (other_marks wanted q x (λ e. let clash : true ≡ false = sym (grind (arith, nat_tests)) ∙ is in false≢true (sym clash))) ∙ there)

-- what is owed up to a wanted place is what is owed before it, and what it costs
owed_here : (es : List Meaning) (wanted : List Bool) (place : ℕ) → IsTrue (is_wanted wanted place) → owed es wanted (place + 1) ≡ owed es wanted place + (at es place).cost
owed_here es wanted place there =
    let next : place + 1 ≡ suc place = omega arith in
    rw next (ap (λ b. owed es wanted place + cond b (at es place).cost 0) there)

-- a place that is marked is wanted
newly_wanted : (wanted : List Bool) (q : ℕ) → q < length wanted → IsTrue (is_wanted (set wanted q true) q)
newly_wanted wanted q within = get_or-set_same wanted q true false within

-- whoever was wanted is so after one more mark
still_wanted : (wanted : List Bool) (q x : ℕ) → q < length wanted → IsTrue (is_wanted wanted x) → IsTrue (is_wanted (set wanted q true) x)
still_wanted wanted q x within there = by_case (eqb x q) refl
  where
    by_case : (b : Bool) → eqb x q ≡ b → IsTrue (is_wanted (set wanted q true) x)
    by_case true is = subst (λ (y : ℕ). IsTrue (is_wanted (set wanted q true) y)) (sym (eqb-true x q is)) (newly_wanted wanted q within)
    by_case false is = other_marks wanted q x (λ e. let clash : true ≡ false = sym (grind (arith, nat_tests)) ∙ is in false≢true (sym clash)) ∙ there

right : (a b : Bool) → b ≡ true → (a || b) ≡ true
right true b h = refl
right false b h = h

left : (a b : Bool) → a ≡ true → (a || b) ≡ true
left true b h = refl
left false b h = absurd (false≢true h)

-- a terminal that was to come: its entry is this one, or stands before it
to_come : (ks : List ℕ) (es : List Meaning) (wanted : List Bool) (place v : ℕ) → IsToCome ks es wanted (place + 1) v → IsTrue (is_among ks (at es place).bits v) ⊎ IsToCome ks es wanted place v
to_come ks es wanted place v comes = by_case (cases_lt comes.from place)
  where
    by_case : (comes.from < place) ⊎ (place ≤ comes.from) → IsTrue (is_among ks (at es place).bits v) ⊎ IsToCome ks es wanted place v
    by_case (inl below) = inr (record { from = comes.from; before = below; wanted_is = comes.wanted_is; has_bit = comes.has_bit })
    by_case (inr above) =
        let low = comes.before in
        let here : comes.from ≡ place = omega arith in
        inl (subst (λ (x : ℕ). IsTrue (is_among ks (at es x).bits v)) here comes.has_bit)

-- with one more mark it is still to come
still_to_come : (ks : List ℕ) (es : List Meaning) (wanted : List Bool) (q place v : ℕ) → q < length wanted → IsToCome ks es wanted place v → IsToCome ks es (set wanted q true) place v
still_to_come ks es wanted q place v within comes = record { from = comes.from; before = comes.before; wanted_is = still_wanted wanted q comes.from within comes.wanted_is; has_bit = comes.has_bit }

-- past an entry that is alone
pub past_alone : (I : Network) (ks : List ℕ) (es : List Meaning) (top : ℕ) (wanted : List Bool) (place : ℕ) (l : Laid) → IsTrue (is_wanted wanted place) → IsOnTheWay I ks es top wanted (place + 1) l → (at es place).bits ≡ mask ks ((at es place).vertex ∷ []) → IsOnTheWay I ks es top wanted place l
past_alone I ks es top wanted place l there on bits =
    let here = owed_here es wanted place there in
    let cost = on.cost in
    let low = on.low in
    record { laid = on.laid; start = on.start; long = on.long; low = omega (arith, low); reached = on.reached; cost = omega (arith, here, cost); terminals = terminals }
  where
    terminals : (v : ℕ) → IsTrue (is_among ks (at es top).bits v) → IsTrue (has l.reached.members v) ⊎ IsToCome ks es wanted place v
    terminals v among = elim (on.terminals v among) [
      | inl reached ↦ inl reached
      | inr comes ↦ elim (to_come ks es wanted place v comes) [
        | inl own ↦ inl (subst (λ (x : ℕ). IsTrue (has l.reached.members x)) (has-one (at es place).vertex v (among_mask ks ((at es place).vertex ∷ []) v (subst (λ (x : ℕ). IsTrue (is_among ks x v)) bits own))) (on.reached place there))
        | inr later ↦ inr later
      ]
    ]

-- past one that came along a link
pub past_link : (I : Network) (ks : List ℕ) (es : List Meaning) (top : ℕ) (wanted : List Bool) (place before c : ℕ) (l m : Laid) → IsTrue (is_wanted wanted place) → IsOnTheWay I ks es top wanted (place + 1) l → before < place → ComesAlong I (at es place) (at es before) c
    → IsLaid I m → m.start ≡ l.start → ((v : ℕ) → has m.reached.members v ≡ (has l.reached.members v || ((at es before).vertex == v))) → spent I m ≤ spent I l + arc_cost I ((at es place).vertex, (at es before).vertex)
    → IsOnTheWay I ks es top (set wanted before true) place m
past_link I ks es top wanted place before c l m there on earlier comes laid start more spends =
    let here = owed_here es wanted place there in
    let owes = owed_more es wanted before place in
    let cost = on.cost in
    let low = on.low in
    let both = comes.cost in
    let price : arc_cost I ((at es place).vertex, (at es before).vertex) ≡ c = ap (λ (o : Option ℕ). unwrap_or o 0) comes.linked in
    record { laid = laid; start = start ∙ on.start; long = length-set wanted before true ∙ on.long; low = omega (arith, low); reached = reached; cost = omega (arith, here, owes, cost, both, price, spends); terminals = terminals }
  where
    within : before < length wanted
    within = let long = on.long in let low = on.low in omega (arith, long, low, earlier)

    old_reached : (v : ℕ) → IsTrue (has l.reached.members v) → IsTrue (has m.reached.members v)
    old_reached v h = more v ∙ left (has l.reached.members v) ((at es before).vertex == v) h

    reached : (q : ℕ) → IsTrue (is_wanted (set wanted before true) q) → IsTrue (has m.reached.members (at es q).vertex)
    reached q want = elim (wanted_cases wanted before q want) [
      | inl is ↦ more (at es q).vertex ∙ right (has l.reached.members (at es q).vertex) ((at es before).vertex == (at es q).vertex) (let same : (at es before).vertex ≡ (at es q).vertex = ap (λ (x : ℕ). (at es x).vertex) (sym is) in grind (arith, nat_tests))
      | inr old ↦ old_reached (at es q).vertex (on.reached q old)
    ]

    terminals : (v : ℕ) → IsTrue (is_among ks (at es top).bits v) → IsTrue (has m.reached.members v) ⊎ IsToCome ks es (set wanted before true) place v
    terminals v among = elim (on.terminals v among) [
      | inl old ↦ inl (old_reached v old)
      | inr to ↦ elim (to_come ks es wanted place v to) [
        | inl own ↦ inr (record { from = before; before = earlier; wanted_is = newly_wanted wanted before within; has_bit = subst (λ (x : ℕ). IsTrue (is_among ks x v)) comes.bits own })
        | inr later ↦ inr (still_to_come ks es wanted before place v within later)
      ]
    ]

-- the same, where both vertices were read
pub past_link_read : (I : Network) (ks : List ℕ) (es : List Meaning) (top : ℕ) (wanted : List Bool) (place before c from to : ℕ) (l m : Laid) → from ≡ (at es place).vertex → to ≡ (at es before).vertex → IsTrue (is_wanted wanted place) → IsOnTheWay I ks es top wanted (place + 1) l → before < place → ComesAlong I (at es place) (at es before) c
    → IsLaid I m → m.start ≡ l.start → ((v : ℕ) → has m.reached.members v ≡ (has l.reached.members v || (to == v))) → spent I m ≤ spent I l + arc_cost I (from, to)
    → IsOnTheWay I ks es top (set wanted before true) place m
past_link_read I ks es top wanted place before c from to l m from_is to_is there on earlier comes laid start more spends =
    past_link I ks es top wanted place before c l m there on earlier comes laid start (subst (λ (x : ℕ). (v : ℕ) → has m.reached.members v ≡ (has l.reached.members v || (x == v))) to_is more)
    (subst (λ (x : ℕ). spent I m ≤ spent I l + arc_cost I ((at es place).vertex, x)) to_is (subst (λ (x : ℕ). spent I m ≤ spent I l + arc_cost I (x, to)) from_is spends))

-- past one that joins two
pub past_join : (I : Network) (ks : List ℕ) (es : List Meaning) (top : ℕ) (wanted : List Bool) (place first second : ℕ) (l : Laid) → IsTrue (is_wanted wanted place) → IsOnTheWay I ks es top wanted (place + 1) l → first < place → second < place → IsJoined (at es place) (at es first) (at es second)
    → IsOnTheWay I ks es top (set (set wanted first true) second true) place l
past_join I ks es top wanted place first second l there on first_low second_low joins =
    let here = owed_here es wanted place there in
    let owes = owed_more es wanted first place in
    let owes_also = owed_more es (set wanted first true) second place in
    let cost = on.cost in
    let low = on.low in
    let both = joins.cost in
    record { laid = on.laid; start = on.start; long = length-set (set wanted first true) second true ∙ (length-set wanted first true ∙ on.long); low = omega (arith, low); reached = reached; cost = omega (arith, here, owes, owes_also, cost, both); terminals = terminals }
  where
    within : first < length wanted
    within = let long = on.long in let low = on.low in omega (arith, long, low, first_low)

    within_also : second < length (set wanted first true)
    within_also = let long = on.long in let low = on.low in let same = length-set wanted first true in omega (arith, long, low, second_low, same)

    at_vertex : (q x : ℕ) → q ≡ x → (at es x).vertex ≡ (at es place).vertex → IsTrue (has l.reached.members (at es q).vertex)
    at_vertex q x is same = subst (λ (v : ℕ). IsTrue (has l.reached.members v)) (sym (ap (λ (y : ℕ). (at es y).vertex) is ∙ same)) (on.reached place there)

    reached : (q : ℕ) → IsTrue (is_wanted (set (set wanted first true) second true) q) → IsTrue (has l.reached.members (at es q).vertex)
    reached q want = elim (wanted_cases (set wanted first true) second q want) [
      | inl is ↦ at_vertex q second is joins.second
      | inr old ↦ elim (wanted_cases wanted first q old) [
        | inl is ↦ at_vertex q first is joins.first
        | inr older ↦ on.reached q older
      ]
    ]

    terminals : (v : ℕ) → IsTrue (is_among ks (at es top).bits v) → IsTrue (has l.reached.members v) ⊎ IsToCome ks es (set (set wanted first true) second true) place v
    terminals v among = elim (on.terminals v among) [
      | inl old ↦ inl old
      | inr to ↦ elim (to_come ks es wanted place v to) [
        | inl own ↦ elim (among_sum ks (at es first).bits (at es second).bits v joins.apart (subst (λ (x : ℕ). IsTrue (is_among ks x v)) joins.bits own)) [
          | inl one ↦ inr (record { from = first; before = first_low; wanted_is = still_wanted (set wanted first true) second first within_also (newly_wanted wanted first within); has_bit = one })
          | inr other ↦ inr (record { from = second; before = second_low; wanted_is = newly_wanted (set wanted first true) second within_also; has_bit = other })
        ]
        | inr later ↦ inr (still_to_come ks es (set wanted first true) second place v within_also (still_to_come ks es wanted first place v within later))
      ]
    ]

-- past one that isn't wanted
pub past_other : (I : Network) (ks : List ℕ) (es : List Meaning) (top : ℕ) (wanted : List Bool) (place : ℕ) (l : Laid) → is_wanted wanted place ≡ false → IsOnTheWay I ks es top wanted (place + 1) l → IsOnTheWay I ks es top wanted place l
past_other I ks es top wanted place l out on =
    let next : place + 1 ≡ suc place = omega arith in
    let here : owed es wanted (place + 1) ≡ owed es wanted place + 0 = rw next (ap (λ b. owed es wanted place + cond b (at es place).cost 0) out) in
    let cost = on.cost in
    let low = on.low in
    record { laid = on.laid; start = on.start; long = on.long; low = omega (arith, low); reached = on.reached; cost = omega (arith, here, cost); terminals = terminals }
  where
    terminals : (v : ℕ) → IsTrue (is_among ks (at es top).bits v) → IsTrue (has l.reached.members v) ⊎ IsToCome ks es wanted place v
    terminals v among = elim (on.terminals v among) [
      | inl reached ↦ inl reached
      | inr comes ↦ inr (before comes (cases_lt comes.from place))
    ]
      where
        before : (comes : IsToCome ks es wanted (place + 1) v) → (comes.from < place) ⊎ (place ≤ comes.from) → IsToCome ks es wanted place v
        before comes (inl below) = record { from = comes.from; before = below; wanted_is = comes.wanted_is; has_bit = comes.has_bit }
        before comes (inr above) =
            let low = comes.before in
            let here : comes.from ≡ place = omega arith in
            absurd (false≢true (sym out ∙ subst (λ (x : ℕ). IsTrue (is_wanted wanted x)) here comes.wanted_is))

-- ---- the start and the end

none_wanted : (n q : ℕ) → is_wanted (replicate n false) q ≡ false
none_wanted n q = by_case (cases_lt q n)
  where
    by_case : (q < n) ⊎ (n ≤ q) → is_wanted (replicate n false) q ≡ false
    by_case (inl within) = get_or-replicate n q false false within
    by_case (inr past) = get_or_past (replicate n false) q false (let long = length-replicate n false in omega (arith, long))

nothing_owed : (es : List Meaning) (n p : ℕ) → owed es (replicate n false) p ≡ 0
nothing_owed es n zero = refl
nothing_owed es n (suc p) = rw (none_wanted n p, nothing_owed es n p) refl

pub at_the_top : (I : Network) (ks : List ℕ) (es : List Meaning) (top : ℕ) (wanted : List Bool) (l : Laid) → wanted ≡ set (replicate (top + 1) false) top true → IsLaid I l → l.start ≡ (at es top).vertex → IsTrue (has l.reached.members l.start) → spent I l ≡ 0 → IsOnTheWay I ks es top wanted (top + 1) l
at_the_top I ks es top wanted l marks laid start there free =
    let owes = owed_more es (replicate (top + 1) false) top (top + 1) in
    let none = nothing_owed es (top + 1) (top + 1) in
    let long = length-replicate (top + 1) false in
    record {
      laid = laid;
      start = start;
      long = ap (λ (xs : List Bool). length xs) marks ∙ (length-set (replicate (top + 1) false) top true ∙ long);
      low = omega arith;
      reached = λ q want. elim (wanted_cases (replicate (top + 1) false) top q (subst (λ (xs : List Bool). IsTrue (is_wanted xs q)) marks want)) [
        | inl is ↦ subst (λ (v : ℕ). IsTrue (has l.reached.members v)) (start ∙ ap (λ (x : ℕ). (at es x).vertex) (sym is)) there
        | inr old ↦ absurd (false≢true (sym (none_wanted (top + 1) q) ∙ old))
      ];
      cost = rw marks (omega (arith, owes, none, free));
      terminals = λ v among. inr (record {
        from = top;
        before = omega arith;
        wanted_is = subst (λ (xs : List Bool). IsTrue (is_wanted xs top)) (sym marks) (newly_wanted (replicate (top + 1) false) top (omega (arith, long)));
        has_bit = among;
      });
    }
