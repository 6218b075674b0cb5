-- Terminals that are joined one by one, and the offers that wait.
use Rattle.std.proofs.Common.{◌≡◌, ℕ, zero, suc, ◌+◌, ◌-◌, ◌*◌, ◌^◌, ◌<◌, ◌≤◌, Bool, true, false, ◌||◌, List, [], ◌∷◌, ◌++◌, length, get_or, replicate, Contains, Some, refl, sym, ap, subst, ◌∙◌, ◌⊎◌, inl, inr, is_some, arith, length-append}
use Rattle.std.specs.Prelude.{◌==◌, All, IsTrue, IsFalse, IsPermutation}
use Rattle.std.specs.declared.cmp.Reverse.{Reverse}
use Rattle.std.proofs.Math.Bool.{or_comm}
use Rattle.std.proofs.lemmas.Bool.{cases_lt, eqb-true, false≢true, or_cases}
use Rattle.std.proofs.lemmas.List.{length-replicate, get_or-replicate, get_or_past}
use Rattle.std.proofs.lemmas.List.Elements.{All-contains}
use Rattle.std.proofs.lemmas.List.Sorted.{Contains-permutation, IsPermutation-sym}
use Rattle.st_model.specs.Lists.{has}
use Rattle.st_model.specs.Network.{Network, IsInstance, IsVertex, link}
use Rattle.st_model.specs.Terminals.{IsTerminal}
use Rattle.st_model.specs.VertexSet.{AllApart}
use Rattle.st_model.proofs.Distinct.{has-cons_head, has-cons_tail}
use Rattle.st_model.proofs.Marked.{has-push}
use Rattle.st_model.proofs.Members.{has-one}
use Rattle.st_model.proofs.ThinGrowth.{linked-vertices}
use Rattle.short_paths.specs.declared.laid.Laid.{Laid}
use Rattle.short_paths.specs.Laid.{IsLaid, spent}
use Rattle.twice_tree.specs.declared.cells.Cells.{Cells}
use Rattle.twice_tree.specs.declared.joining.Joining.{Joining}
use Rattle.twice_tree.specs.declared.offers.Offer.{Offer}
use Rattle.twice_tree.specs.Cells.{AreCells, far_in, terminal_of}
use Rattle.twice_tree.specs.Joining.{IsJoining, IsTaking, waiting}
use Rattle.twice_tree.specs.Laying.{GoesTo}
use Rattle.twice_tree.specs.declared.opening.Opening.{Opening}
use Rattle.twice_tree.specs.Opening.{sum_by, least_at, IsOffered, IsMade, NoneIsLess, OpensCell}
use Rattle.twice_tree.specs.Twice.{AreJoined, alone, next, NoneIsNearer}
use Rattle.twice_tree.proofs.Crossing.{crossing}
use Rattle.twice_tree.proofs.Nearest.{far_near, terminal_own, cell_terminal}
use Rattle.twice_tree.proofs.Opened.{first_or_later, first_there, later_there, still_offered}
use Rattle.twice_tree.proofs.Within.{each_once, at_most_all}

-- ---- those that are joined

pub joined_terminal : (I : Network) (first : ℕ) (order : List ℕ) (paid : ℕ) → IsTerminal I first → AreJoined I first order paid → (v : ℕ) → IsTrue (has order v) → IsTerminal I v
joined_terminal I first order paid terminal alone v there = subst (IsTerminal I) (has-one first v there) terminal
joined_terminal I first order paid terminal (next {joined} {spent} {k} {d} way new out near) v there = elim (or_cases (k == v) (has joined v) there) [
  | inl same ↦ subst (IsTerminal I) (eqb-true k v same) new
  | inr before ↦ joined_terminal I first joined spent terminal way v before
]

pub joined_once : (I : Network) (first : ℕ) (order : List ℕ) (paid : ℕ) → AreJoined I first order paid → AllApart order
joined_once I first order paid alone = (refl, tt)
joined_once I first order paid (next {joined} {spent} {k} {d} way new out near) = (out, joined_once I first joined spent way)

-- there are at most as many as vertices
joined_few : (I : Network) (first : ℕ) (order : List ℕ) (paid : ℕ) → IsTerminal I first → AreJoined I first order paid → length order ≤ I.n
joined_few I first order paid terminal joined =
    let once = each_once I.n order (joined_once I first order paid joined) (λ v there. (joined_terminal I first order paid terminal joined v there).vertex) in
    let most = at_most_all (has order) I.n in
    omega (arith, once, most)

-- ---- none is nearer than the cheapest offer

pub none_is_nearer : (I : Network) (c : Cells) (first : ℕ) (order : List ℕ) (paid : ℕ) (least : List ℕ) (offers : List (Reverse Offer)) (d : ℕ) → IsInstance I → AreCells I c → IsTerminal I first → AreJoined I first order paid
    → ((u : ℕ) → IsTrue (has order (terminal_of I c.distances u)) → NoneIsLess I c least u) → ((k : ℕ) → IsFalse (has order k) → (2 ^ 64 - 1 ≤ least_at least k) ⊎ IsOffered I c offers k (least_at least k))
    → d ≤ 2 ^ 64 - 1 → All (λ (o : Reverse Offer). d ≤ o.0.cost) offers → NoneIsNearer I order d
none_is_nearer I c first order paid least offers d instance cells terminal joined less told small low p q cost there other out walk =
    let root = joined_terminal I first order paid terminal joined p there in
    crossing I.links (far_in c.distances) (λ (v : ℕ). has order (terminal_of I c.distances v)) d p q cost
    (λ y a way. far_near I c p y a cells instance root way) (λ y a way. far_near I c q y a cells instance other way) crossed
    (ap (has order) (terminal_own I c.distances p root) ∙ there) (ap (has order) (terminal_own I c.distances q other) ∙ out) walk
  where
    at : (k : ℕ) → (2 ^ 64 - 1 ≤ least_at least k) ⊎ IsOffered I c offers k (least_at least k) → d ≤ least_at least k
    at k (inl far) = omega (arith, far, small)
    at k (inr is) =
        let waits = All-contains (λ (o : Reverse Offer). d ≤ o.0.cost) offers is.offer low is.waits in
        let cheap = is.cheap in
        omega (arith, waits, cheap)

    crossed : (u w a : ℕ) → link I.links u w ≡ Some a → has order (terminal_of I c.distances u) ≡ true → has order (terminal_of I c.distances w) ≡ false → d ≤ far_in c.distances u + a + far_in c.distances w
    crossed u w a linked within outside =
        let sum = less u within w a linked in
        let most = at (terminal_of I c.distances w) (told (terminal_of I c.distances w) outside) in
        omega (arith, sum, most)

-- ---- the first one

pub joining_first : (I : Network) (c : Cells) (first : ℕ) (laid : Laid) (opening : Opening) (j : Joining) → IsInstance I → IsTerminal I first → IsLaid I laid → ((v : ℕ) → has laid.reached.members v ≡ (first == v)) → spent I laid ≡ 0
    → opening.offers ≡ [] → opening.least.items ≡ replicate (I.n + 1) (2 ^ 64 - 1) → j.laid ≡ laid → j.joined.members ≡ [] ++ first ∷ [] → j.joined.count ≡ I.n + 1 → OpensCell I c first opening j.opening → IsJoining I c j j.opening.offers
joining_first I c first laid opening j instance terminal is_laid reached free none high same members count opens = record {
  first = first;
  terminal = terminal;
  order = first ∷ [];
  paid = 0;
  are_joined = alone;
  same = λ v. ap (λ (xs : List ℕ). has xs v) members;
  many = ap length members;
  count = count;
  laid = subst (IsLaid I) (sym same) is_laid;
  cheap = subst (λ (l : Laid). spent I l ≤ 0) (sym same) (omega (arith, free));
  reached = λ v there. subst (λ (l : Laid). IsTrue (has l.reached.members v)) (sym same) (reached v ∙ one v (first == v) there);
  made = λ o there. made o (opens.opens.only o there);
  cells = opens.opens.many ∙ (ap length high ∙ length-replicate (I.n + 1) (2 ^ 64 - 1));
  low = λ u within w cost linked. opens.low u (linked-vertices I u w instance (ap is_some linked)).0 (sym (has-one first (terminal_of I c.distances u) within)) w cost linked;
  told = λ k out. told k out (opens.opens.told k (λ is. false≢true (sym out ∙ has-cons_head [] first k is)));
}
  where
    one : (v : ℕ) (b : Bool) → (b || false) ≡ true → b ≡ true
    one v true h = refl
    one v false h = h

    made : (o : Reverse Offer) → Contains opening.offers o ⊎ IsMade I c first o → (k : ℕ) × IsTrue (has (first ∷ []) k) × IsMade I c k o
    made o (inl before) = absurd (let there = subst (λ (os : List (Reverse Offer)). Contains os o) none before in let within = there.1 in omega (arith, within))
    made o (inr is) = (first, has-cons_head [] first first refl, is)

    unset : (k : ℕ) → (k < I.n + 1) ⊎ (I.n + 1 ≤ k) → get_or (replicate (I.n + 1) (2 ^ 64 - 1)) k (2 ^ 64 - 1) ≡ 2 ^ 64 - 1
    unset k (inl within) = get_or-replicate (I.n + 1) k (2 ^ 64 - 1) (2 ^ 64 - 1) within
    unset k (inr past) = get_or_past (replicate (I.n + 1) (2 ^ 64 - 1)) k (2 ^ 64 - 1) (let long = length-replicate {A = ℕ} (I.n + 1) (2 ^ 64 - 1) in omega (arith, long, past))

    told : (k : ℕ) → IsFalse (has (first ∷ []) k) → (least_at j.opening.least.items k ≡ least_at opening.least.items k) ⊎ IsOffered I c j.opening.offers k (least_at j.opening.least.items k)
        → (2 ^ 64 - 1 ≤ least_at j.opening.least.items k) ⊎ IsOffered I c j.opening.offers k (least_at j.opening.least.items k)
    told k out (inl before) = inl (let is = ap (λ (xs : List ℕ). least_at xs k) high ∙ unset k (cases_lt k (I.n + 1)) in omega (arith, before, is))
    told k out (inr offered) = inr offered

-- ---- an offer is taken out

-- whichever wait now
pub joining_moved : (I : Network) (c : Cells) (j : Joining) (old new rest : List (Reverse Offer)) → IsJoining I c j old → IsPermutation old new → IsJoining I c (record j { opening = record j.opening { offers = rest } }) new
joining_moved I c j old new rest is moved = record {
  first = is.first;
  terminal = is.terminal;
  order = is.order;
  paid = is.paid;
  are_joined = is.are_joined;
  same = is.same;
  many = is.many;
  count = is.count;
  laid = is.laid;
  cheap = is.cheap;
  reached = is.reached;
  made = λ o there. is.made o (Contains-permutation new old o (IsPermutation-sym old new moved) there);
  cells = is.cells;
  low = is.low;
  told = λ k out. still k (is.told k out);
}
  where
    still : (k : ℕ) → (2 ^ 64 - 1 ≤ least_at j.opening.least.items k) ⊎ IsOffered I c old k (least_at j.opening.least.items k) → (2 ^ 64 - 1 ≤ least_at j.opening.least.items k) ⊎ IsOffered I c new k (least_at j.opening.least.items k)
    still k (inl far) = inl far
    still k (inr there) = inr (still_offered I c old new k (least_at j.opening.least.items k) (least_at j.opening.least.items k) (λ o at. Contains-permutation old new o moved at) (omega arith) there)

-- what is taken was made in a joined cell, and the tree reaches its terminal
module _ (I : Network) (c : Cells) (j : Joining) (offer : Offer) (taking : IsTaking I c j offer) where
  made_first : (k : ℕ) × IsTrue (has taking.joining.order k) × IsMade I c k (record { 0 = offer })
  made_first = taking.joining.made (record { 0 = offer }) (first_there (record { 0 = offer }) j.opening.offers)

  pub taken_made : IsMade I c (terminal_of I c.distances offer.from) (record { 0 = offer })
  taken_made = subst (λ (k : ℕ). IsMade I c k (record { 0 = offer })) (sym made_first.2.cell) made_first.2

  pub taken_reached : IsTrue (has j.laid.reached.members (terminal_of I c.distances offer.from))
  taken_reached = taking.joining.reached (terminal_of I c.distances offer.from) (subst (λ (k : ℕ). IsTrue (has taking.joining.order k)) (sym made_first.2.cell) made_first.1)

  pub taken_to : AreCells I c → IsVertex I.n offer.to
  taken_to cells = (linked-vertices I offer.from offer.to cells.instance (ap is_some taken_made.linked)).1

  -- it leads to a terminal's cell
  pub taken_terminal : AreCells I c → IsTerminal I (terminal_of I c.distances offer.to)
  taken_terminal cells = cell_terminal I c offer.to cells (taken_to cells) (let sum = taken_made.cost in let fits = taken_made.fits in omega (arith, sum, fits))

-- of an offer and more what is offered to another cell than the one that it leads to is among the others
offered_later : (I : Network) (c : Cells) (offer : Offer) (offers : List (Reverse Offer)) (k most : ℕ) → (terminal_of I c.distances offer.to ≡ k → ⊥) → IsOffered I c (record { 0 = offer } ∷ offers) k most → IsOffered I c offers k most
offered_later I c offer offers k most differs is = elim (first_or_later (record { 0 = offer }) offers is.offer is.waits) [
  | inl same ↦ absurd (differs (ap (λ (o : Reverse Offer). terminal_of I c.distances o.0.to) same ∙ is.cell))
  | inr later ↦ record { offer = is.offer; waits = later; cell = is.cell; cheap = is.cheap }
]

-- one that leads to a joined cell is dropped
pub joining_dropped : (I : Network) (c : Cells) (j : Joining) (offer : Offer) → IsTaking I c j offer → has j.joined.members (terminal_of I c.distances offer.to) ≡ true → IsJoining I c j j.opening.offers
joining_dropped I c j offer taking there = record {
  first = is.first;
  terminal = is.terminal;
  order = is.order;
  paid = is.paid;
  are_joined = is.are_joined;
  same = is.same;
  many = is.many;
  count = is.count;
  laid = is.laid;
  cheap = is.cheap;
  reached = is.reached;
  made = λ o at. is.made o (later_there (record { 0 = offer }) j.opening.offers o at);
  cells = is.cells;
  low = is.low;
  told = λ k out. still k out (is.told k out);
}
  where
    is : IsJoining I c j (record { 0 = offer } ∷ j.opening.offers)
    is = taking.joining

    still : (k : ℕ) → IsFalse (has is.order k) → (2 ^ 64 - 1 ≤ least_at j.opening.least.items k) ⊎ IsOffered I c (record { 0 = offer } ∷ j.opening.offers) k (least_at j.opening.least.items k)
        → (2 ^ 64 - 1 ≤ least_at j.opening.least.items k) ⊎ IsOffered I c j.opening.offers k (least_at j.opening.least.items k)
    still k out (inl far) = inl far
    still k out (inr waits) = inr (offered_later I c offer j.opening.offers k (least_at j.opening.least.items k) (λ same. false≢true (sym out ∙ (ap (has is.order) (sym same) ∙ (sym (is.same (terminal_of I c.distances offer.to)) ∙ there)))) waits)

-- ---- one more is joined

pub joining_next : (I : Network) (c : Cells) (j new : Joining) (laid : Laid) (offer : Offer) (k : ℕ) → IsInstance I → AreCells I c → IsTaking I c j offer → k ≡ terminal_of I c.distances offer.to → IsTerminal I k → IsFalse (has j.joined.members k)
    → GoesTo I j.laid laid k offer.cost → new.laid ≡ laid → new.joined.members ≡ j.joined.members ++ k ∷ [] → new.joined.count ≡ j.joined.count → OpensCell I c k j.opening new.opening → offer.cost < 2 ^ 64 - 1 → IsJoining I c new new.opening.offers
joining_next I c j new laid offer k instance cells taking target terminal fresh goes laid_is members count opens fits = record {
  first = is.first;
  terminal = is.terminal;
  order = k ∷ is.order;
  paid = is.paid + offer.cost;
  are_joined = next is.are_joined terminal out (none_is_nearer I c is.first is.order is.paid j.opening.least.items (record { 0 = offer } ∷ j.opening.offers) offer.cost instance cells is.terminal is.are_joined is.low is.told (omega (arith, fits)) low);
  same = same;
  many = ap length members ∙ (let long = length-append j.joined.members (k ∷ []) in let before = is.many in omega (arith, long, before));
  count = count ∙ is.count;
  laid = subst (IsLaid I) (sym laid_is) goes.laid;
  cheap = subst (λ (l : Laid). spent I l ≤ is.paid + offer.cost) (sym laid_is) (let more = goes.cheap in let before = is.cheap in omega (arith, more, before));
  reached = λ v there. subst (λ (l : Laid). IsTrue (has l.reached.members v)) (sym laid_is) (reached v (or_cases (k == v) (has is.order v) there));
  made = λ o there. made o (opens.opens.only o there);
  cells = opens.opens.many ∙ is.cells;
  low = λ u within w cost linked. less u w cost linked (or_cases (k == terminal_of I c.distances u) (has is.order (terminal_of I c.distances u)) within);
  told = λ v outside. told v outside (opens.opens.told v (differs v outside));
}
  where
    is : IsJoining I c j (record { 0 = offer } ∷ j.opening.offers)
    is = taking.joining

    out : IsFalse (has is.order k)
    out = sym (is.same k) ∙ fresh

    low : All (λ (o : Reverse Offer). offer.cost ≤ o.0.cost) (record { 0 = offer } ∷ j.opening.offers)
    low zero d within = omega arith
    low (suc i) d within = taking.cheapest i d (omega (arith, within))

    same : (v : ℕ) → has new.joined.members v ≡ ((k == v) || has is.order v)
    same v = ap (λ (xs : List ℕ). has xs v) members ∙ (has-push j.joined.members k v ∙ (ap (λ b. b || (k == v)) (is.same v) ∙ or_comm (has is.order v) (k == v)))

    reached : (v : ℕ) → ((k == v) ≡ true) ⊎ (has is.order v ≡ true) → IsTrue (has laid.reached.members v)
    reached v (inl here) = subst (λ (w : ℕ). IsTrue (has laid.reached.members w)) (eqb-true k v here) goes.there
    reached v (inr before) = goes.keeps v (is.reached v before)

    made : (o : Reverse Offer) → Contains j.opening.offers o ⊎ IsMade I c k o → (m : ℕ) × IsTrue (has (k ∷ is.order) m) × IsMade I c m o
    made o (inl before) = let old = is.made o (later_there (record { 0 = offer }) j.opening.offers o before) in (old.0, has-cons_tail is.order k old.0 old.1, old.2)
    made o (inr here) = (k, has-cons_head is.order k k refl, here)

    differs : (v : ℕ) → IsFalse ((k == v) || has is.order v) → v ≡ k → ⊥
    differs v outside is_it = false≢true (sym outside ∙ has-cons_head is.order k v is_it)

    neither : (a b : Bool) → (a || b) ≡ false → b ≡ false
    neither true b h = absurd (false≢true (sym h))
    neither false b h = h

    less : (u w cost : ℕ) → link I.links u w ≡ Some cost → ((k == terminal_of I c.distances u) ≡ true) ⊎ (has is.order (terminal_of I c.distances u) ≡ true) → least_at new.opening.least.items (terminal_of I c.distances w) ≤ sum_by c u cost w
    less u w cost linked (inl here) = opens.low u (linked-vertices I u w instance (ap is_some linked)).0 (sym (eqb-true k (terminal_of I c.distances u) here)) w cost linked
    less u w cost linked (inr before) =
        let known = is.low u before w cost linked in
        let now = opens.opens.less (terminal_of I c.distances w) in
        omega (arith, known, now)

    before : (v : ℕ) → (v ≡ k → ⊥) → least_at new.opening.least.items v ≡ least_at j.opening.least.items v → (2 ^ 64 - 1 ≤ least_at j.opening.least.items v) ⊎ IsOffered I c (record { 0 = offer } ∷ j.opening.offers) v (least_at j.opening.least.items v)
        → (2 ^ 64 - 1 ≤ least_at new.opening.least.items v) ⊎ IsOffered I c new.opening.offers v (least_at new.opening.least.items v)
    before v other stays (inl far) = inl (omega (arith, far, stays))
    before v other stays (inr offered) =
        inr (still_offered I c j.opening.offers new.opening.offers v (least_at j.opening.least.items v) (least_at new.opening.least.items v) opens.opens.kept (omega (arith, stays))
        (offered_later I c offer j.opening.offers v (least_at j.opening.least.items v) (λ to. other (sym to ∙ sym target)) offered))

    told : (v : ℕ) → IsFalse ((k == v) || has is.order v) → (least_at new.opening.least.items v ≡ least_at j.opening.least.items v) ⊎ IsOffered I c new.opening.offers v (least_at new.opening.least.items v)
        → (2 ^ 64 - 1 ≤ least_at new.opening.least.items v) ⊎ IsOffered I c new.opening.offers v (least_at new.opening.least.items v)
    told v outside (inl stays) = before v (differs v outside) stays (is.told v (neither (k == v) (has is.order v) outside))
    told v outside (inr offered) = inr offered

-- ---- it ends

pub fewer_wait : (I : Network) (c : Cells) (j new : Joining) (k : ℕ) → IsJoining I c new new.opening.offers → new.joined.members ≡ j.joined.members ++ k ∷ [] → length new.opening.offers < 2 ^ 64 → waiting I new ≤ waiting I j
fewer_wait I c j new k is members few =
    let most = joined_few I is.first is.order is.paid is.terminal is.are_joined in
    let many = is.many in
    let long = length-append j.joined.members (k ∷ []) in
    let same = ap length members in
    let left : I.n - length j.joined.members ≡ (I.n - length new.joined.members) + 1 = omega (arith, most, many, long, same) in
    let product : (I.n - length j.joined.members) * 2 ^ 64 ≡ (I.n - length new.joined.members) * 2 ^ 64 + 2 ^ 64 = ap (λ (x : ℕ). x * 2 ^ 64) left ∙ omega arith in
    omega (arith, product, few)
