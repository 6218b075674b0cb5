-- What is known of the vertices of a row, and how an offer and an entry change it.
use Rattle.std.proofs.Common.{◌≡◌, ℕ, ◌+◌, ◌^◌, ◌<◌, ◌≤◌, List, [], ◌∷◌, ◌++◌, length, get_or, set, Some, refl, sym, ap, subst, ◌∙◌, ◌⊎◌, inl, inr, arith, length-set, length-append, IsPermutation}
use Rattle.std.specs.Prelude.{All, Contains, sum_by}
use Rattle.std.specs.declared.cmp.Reverse.{Reverse}
use Rattle.std.proofs.lemmas.Bool.{cases_lt}
use Rattle.std.proofs.lemmas.Bool.Decides.{eqb_tells}
use Rattle.std.proofs.lemmas.List.{get_or-set_other, get_or-set_same, get_or_append_left, get_or_read}
use Rattle.std.proofs.Math.Seq.{get_or-append_seam}
use Rattle.std.proofs.lemmas.List.Elements.{All-cons, All-tail, Contains-append_cases, Contains-append_right}
use Rattle.std.proofs.lemmas.List.Sorted.{All-permutation, Contains-permutation}
use Rattle.std.proofs.lemmas.List.Sums.{sum_by-set}
use Rattle.st_model.specs.Network.{Network, IsVertex, link}
use Rattle.few_terminals.specs.declared.entry.Way.{Way}
use Rattle.few_terminals.specs.declared.entry.Way.TheVariants.{Alone, Along, Joined}
use Rattle.few_terminals.specs.declared.mark.Mark.{Mark}
use Rattle.few_terminals.specs.Entries.{at, Meaning, HasParts, HaveParts, ComesAlong, IsJoined, IsEntryAt, GoesOn}
use Rattle.few_terminals.specs.Filling.{unknown, mark_at, IsSound, IsFilling, IsSettled, Falls, offer_of}

abbrev pub Offer : Type 0
Offer = Reverse (ℕ × ℕ)

abbrev pub IsOffer : Network → Offer → Type 0
IsOffer I offer = IsVertex I.n offer.0.1 × (offer.0.0 < 2 ^ 63)

-- ---- entries go on

pub goes_on_push : (es : List Meaning) (e : Meaning) → GoesOn es (es ++ e ∷ [])
goes_on_push es e = record {
  longer = let long = length-append es (e ∷ []) in omega (arith, long);
  same = λ place within. get_or_append_left es (e ∷ []) (record { vertex = 0; bits = 0; cost = 0; way = Alone }) place within;
}

pub goes_on_same : (es : List Meaning) → GoesOn es es
goes_on_same es = record { longer = omega arith; same = λ place within. refl }

pub goes_on_then : (a b c : List Meaning) → GoesOn a b → GoesOn b c → GoesOn a c
goes_on_then a b c first second = record {
  longer = let x = first.longer in let y = second.longer in omega (arith, x, y);
  same = λ place within. second.same place (let x = first.longer in omega (arith, x, within)) ∙ first.same place within;
}

pub entry_stays : (old new : List Meaning) (place vertex bits cost : ℕ) → GoesOn old new → IsEntryAt old place vertex bits cost → IsEntryAt new place vertex bits cost
entry_stays old new place vertex bits cost on is =
    let same = on.same place is.within in
    record {
      within = let x = on.longer in let y = is.within in omega (arith, x, y);
      vertex_is = ap (λ (e : Meaning). e.vertex) same ∙ is.vertex_is;
      bits_is = ap (λ (e : Meaning). e.bits) same ∙ is.bits_is;
      cost_is = ap (λ (e : Meaning). e.cost) same ∙ is.cost_is;
    }

-- parts stay parts
pub parts_stay : (I : Network) (ks : List ℕ) (old new : List Meaning) (p q : ℕ) (e : Meaning) (way : Way) → GoesOn old new → p ≤ length old → p ≤ q → HasParts I ks old p e way → HasParts I ks new q e way
parts_stay I ks old new p q e Alone on within later parts = parts
parts_stay I ks old new p q e (Along before) on within later parts =
    let low = parts.0 in
    let same = on.same before (omega (arith, low, within)) in
    (omega (arith, low, later), (parts.1.0, subst (λ (f : Meaning). ComesAlong I e f parts.1.0) (sym same) parts.1.1))
parts_stay I ks old new p q e (Joined first second) on within later parts =
    let low = parts.0 in
    let low_also = parts.1 in
    let same = on.same first (omega (arith, low, within)) in
    let same_also = on.same second (omega (arith, low_also, within)) in
    (omega (arith, low, later), omega (arith, low_also, later), subst (λ (f : Meaning). IsJoined e f (at new second)) (sym same) (subst (λ (f : Meaning). IsJoined e (at old first) f) (sym same_also) parts.2))

-- and what is known of a vertex stays sound
pub sound_stays : (I : Network) (ks : List ℕ) (old new : List Meaning) (bits v : ℕ) (mark : Mark) → GoesOn old new → IsSound I ks old bits v mark → IsSound I ks new bits v mark
sound_stays I ks old new bits v mark on sound = record {
  most = sound.most;
  parts = λ near. parts_stay I ks old new (length old) (length new) (record { vertex = v; bits = bits; cost = mark.cost; way = mark.way }) mark.way on (omega arith) on.longer (sound.parts near);
}

-- ---- one mark is changed

-- what holds of the new mark at its vertex, and of all others as they were
pub at_set : (P : ℕ → Mark → Type 0) (marks : List Mark) (to v : ℕ) (m : Mark) → to < length marks → P to m → ((v ≡ to → ⊥) → P v (mark_at marks v)) → P v (mark_at (set marks to m) v)
at_set P marks to v m within here others = elim (eqb_tells v to) [
  | inl same ↦ subst (λ (x : ℕ). P x (mark_at (set marks to m) x)) (sym same.1) (subst (P to) (sym (get_or-set_same marks to m unknown within)) here)
  | inr differ ↦ subst (P v) (sym (get_or-set_other marks to v m unknown differ.1)) (others differ.1)
]

pub falls_set : (marks : List Mark) (to : ℕ) (m : Mark) → to < length marks → m.cost ≤ (mark_at marks to).cost → Falls marks (set marks to m)
falls_set marks to m within less v = at_set (λ x k. k.cost ≤ (mark_at marks x).cost) marks to v m within less (λ differ. omega arith)

-- where a mark changes, what all cost together changes by as much
pub set_cost : (marks : List Mark) (to : ℕ) (mark m : Mark) → to < length marks → mark ≡ get_or marks to mark → sum_by (λ mark. mark.cost) (set marks to m) + mark.cost ≡ sum_by (λ mark. mark.cost) marks + m.cost
set_cost marks to mark m within read =
    let step = sum_by-set (λ (k : Mark). k.cost) marks to m mark within in
    let same = ap (λ (k : Mark). k.cost) read in
    omega (arith, step, same)

-- ---- what waits

pub contains_first : (o : Offer) (rest : List Offer) → Contains (o ∷ rest) o
contains_first o rest = (0, omega arith, refl)

pub contains_rest : (o x : Offer) (rest : List Offer) → Contains rest x → Contains (o ∷ rest) x
contains_rest o x rest there = Contains-append_right (o ∷ []) rest x there

pub contains_cases : (o x : Offer) (rest : List Offer) → Contains (o ∷ rest) x → (o ≡ x) ⊎ Contains rest x
contains_cases o x rest there = elim (Contains-append_cases (o ∷ []) rest x there) [
  | inl first ↦ inl (only first)
  | inr other ↦ inr other
]
  where
    only : Contains (o ∷ []) x → o ≡ x
    only (k, within, is) =
        let here : k ≡ 0 = omega arith in
        subst (λ (j : ℕ). get_or (o ∷ []) j x ≡ x) here is

-- behind a first offer another one waits now
pub waits_also : (first o x : Offer) (old new : List Offer) → IsPermutation (o ∷ old) new → Contains (first ∷ old) x → Contains (first ∷ new) x
waits_also first o x old new moved there = elim (contains_cases first x old there) [
  | inl same ↦ subst (λ (y : Offer). Contains (first ∷ new) y) same (contains_first first new)
  | inr other ↦ contains_rest first x new (Contains-permutation (o ∷ old) new x moved (contains_rest o x old other))
]

pub waits_now : (first o : Offer) (old new : List Offer) → IsPermutation (o ∷ old) new → Contains (first ∷ new) o
waits_now first o old new moved = contains_rest first o new (Contains-permutation (o ∷ old) new o moved (contains_first o old))

pub all_wait : (P : Offer → Type 0) (first o : Offer) (old new : List Offer) → IsPermutation (o ∷ old) new → P o → All P (first ∷ old) → All P (first ∷ new)
all_wait P first o old new moved here all = All-cons P first new (all 0 first (omega arith)) (All-permutation P (o ∷ old) new moved (All-cons P o old here (All-tail P first old all)))

-- all that was known of the first vertices waits, and one offer more
pub offered_more : (marks : List Mark) (vertex : ℕ) (old new : List Offer) → IsPermutation (offer_of (mark_at marks vertex).cost vertex ∷ old) new → ((v : ℕ) → 1 ≤ v → v < vertex → (mark_at marks v).cost < 2 ^ 63 → Contains old (offer_of (mark_at marks v).cost v))
    → (v : ℕ) → 1 ≤ v → v < vertex + 1 → (mark_at marks v).cost < 2 ^ 63 → Contains new (offer_of (mark_at marks v).cost v)
offered_more marks vertex old new moved before v low high near = by_case (cases_lt v vertex)
  where
    by_case : (v < vertex) ⊎ (vertex ≤ v) → Contains new (offer_of (mark_at marks v).cost v)
    by_case (inl below) = Contains-permutation (offer_of (mark_at marks vertex).cost vertex ∷ old) new (offer_of (mark_at marks v).cost v) moved (contains_rest (offer_of (mark_at marks vertex).cost vertex) (offer_of (mark_at marks v).cost v) old (before v low below near))
    by_case (inr above) =
        let here : vertex ≡ v = omega (arith, above, high) in
        subst (λ (x : ℕ). Contains new (offer_of (mark_at marks x).cost x)) here (Contains-permutation (offer_of (mark_at marks vertex).cost vertex ∷ old) new (offer_of (mark_at marks vertex).cost vertex) moved (contains_first (offer_of (mark_at marks vertex).cost vertex) old))

-- of which nothing is known nothing is offered
pub offered_skip : (marks : List Mark) (vertex : ℕ) (queue : List Offer) → 2 ^ 63 ≤ (mark_at marks vertex).cost → ((v : ℕ) → 1 ≤ v → v < vertex → (mark_at marks v).cost < 2 ^ 63 → Contains queue (offer_of (mark_at marks v).cost v))
    → (v : ℕ) → 1 ≤ v → v < vertex + 1 → (mark_at marks v).cost < 2 ^ 63 → Contains queue (offer_of (mark_at marks v).cost v)
offered_skip marks vertex queue far before v low high near = by_case (cases_lt v vertex)
  where
    by_case : (v < vertex) ⊎ (vertex ≤ v) → Contains queue (offer_of (mark_at marks v).cost v)
    by_case (inl below) = before v low below near
    by_case (inr above) =
        let here : vertex ≡ v = omega (arith, above, high) in
        let same : (mark_at marks vertex).cost ≡ (mark_at marks v).cost = ap (λ (x : ℕ). (mark_at marks x).cost) here in
        absurd (omega (arith, far, near, same))

-- all that waits is of vertices, and one offer more
pub queued_more : (P : Offer → Type 0) (o : Offer) (old new : List Offer) → IsPermutation (o ∷ old) new → P o → All P old → All P new
queued_more P o old new moved here all = All-permutation P (o ∷ old) new moved (All-cons P o old here all)

-- what was read of a vertex
pub mark_read : (marks : List Mark) (v : ℕ) (mark : Mark) → v < length marks → mark ≡ get_or marks v mark → mark ≡ mark_at marks v
mark_read marks v mark within read = get_or_read marks v mark within read unknown

-- ---- a row between two changes

-- a vertex costs less from now on, and the offer waits
pub filling_lowered : (I : Network) (ks : List ℕ) (es : List Meaning) (bits to : ℕ) (m : Mark) (marks : List Mark) (first : Offer) (old new : List Offer) → to < length marks → IsVertex I.n to → m.cost < (mark_at marks to).cost → IsSound I ks es bits to m → IsPermutation (offer_of m.cost to ∷ old) new
    → IsFilling I ks es bits marks (first ∷ old) → IsFilling I ks es bits (set marks to m) (first ∷ new)
filling_lowered I ks es bits to m marks first old new within range less sound moved f = record {
  long = length-set marks to m ∙ f.long;
  sound = λ v. at_set (IsSound I ks es bits) marks to v m within sound (λ differ. f.sound v);
  states = λ v vertex. named v (at_set (λ x k. (2 ^ 63 ≤ k.cost) ⊎ (Contains (first ∷ new) (offer_of k.cost x) ⊎ State x k)) marks to v m within (inr (inl (waits_now first (offer_of m.cost to) old new moved))) (λ differ. elim (f.states v vertex) [
    | inl far ↦ inl far
    | inr near ↦ elim near [
      | inl waits ↦ inr (inl (waits_also first (offer_of m.cost to) (offer_of (mark_at marks v).cost v) old new moved waits))
      | inr settled ↦ inr (inr (keeps v settled))
    ]
  ]));
  queued = all_wait (IsOffer I) first (offer_of m.cost to) old new moved (range, (let most = (f.sound to).most in omega (arith, less, most))) f.queued;
}
  where
    State : ℕ → Mark → Type 0
    State x k = IsEntryAt es k.place x bits k.cost × ((w c : ℕ) → link I.links x w ≡ Some c → (mark_at (set marks to m) w).cost ≤ k.cost + c)

    named : (v : ℕ) → (2 ^ 63 ≤ (mark_at (set marks to m) v).cost) ⊎ (Contains (first ∷ new) (offer_of (mark_at (set marks to m) v).cost v) ⊎ State v (mark_at (set marks to m) v)) → (2 ^ 63 ≤ (mark_at (set marks to m) v).cost) ⊎ (Contains (first ∷ new) (offer_of (mark_at (set marks to m) v).cost v) ⊎ IsSettled I es bits (set marks to m) v)
    named v (inl far) = inl far
    named v (inr (inl waits)) = inr (inl waits)
    named v (inr (inr state)) = inr (inr (record { entered = state.0; closed = state.1 }))

    keeps : (v : ℕ) → IsSettled I es bits marks v → State v (mark_at marks v)
    keeps v settled = (settled.entered, λ w c linked. let before = settled.closed w c linked in let fell = falls_set marks to m within (omega (arith, less)) w in omega (arith, before, fell))

-- costs stay where a place alone changes
same_costs : (marks : List Mark) (v u : ℕ) (m : Mark) → v < length marks → m.cost ≡ (mark_at marks v).cost → (mark_at (set marks v m) u).cost ≡ (mark_at marks u).cost
same_costs marks v u m within same = at_set (λ x k. k.cost ≡ (mark_at marks x).cost) marks v u m within same (λ differ. refl)

module _ (I : Network) (ks : List ℕ) (es : List Meaning) (bits v : ℕ) (marks : List Mark) (waiting : List Offer) (within : v < length marks) (f : IsFilling I ks es bits marks waiting) where
  abbrev entry : Meaning
  entry = record { vertex = v; bits = bits; cost = (mark_at marks v).cost; way = (mark_at marks v).way }

  abbrev mark : Mark
  mark = record { cost = (mark_at marks v).cost; way = (mark_at marks v).way; place = length es }

  pub stands_last : IsEntryAt (es ++ entry ∷ []) (length es) v bits (mark_at marks v).cost
  stands_last =
      let last : at (es ++ entry ∷ []) (length es) ≡ entry = get_or-append_seam es entry [] (record { vertex = 0; bits = 0; cost = 0; way = Alone }) in
      record {
        within = let long = length-append es (entry ∷ []) in omega (arith, long);
        vertex_is = ap (λ (e : Meaning). e.vertex) last;
        bits_is = ap (λ (e : Meaning). e.bits) last;
        cost_is = ap (λ (e : Meaning). e.cost) last;
      }

  closed_still : (u : ℕ) → IsSettled I es bits marks u → (w c : ℕ) → link I.links u w ≡ Some c → (mark_at (set marks v mark) w).cost ≤ (mark_at (set marks v mark) u).cost + c
  closed_still u settled w c linked =
      let before = settled.closed w c linked in
      let same = same_costs marks v w mark within refl in
      let same_also = same_costs marks v u mark within refl in
      omega (arith, before, same, same_also)

  settled_still : (u : ℕ) → IsSettled I es bits marks u → IsSettled I (es ++ entry ∷ []) bits (set marks v mark) u
  settled_still u settled = record {
    entered = at_set (λ x k. IsSettled I es bits marks x → IsEntryAt (es ++ entry ∷ []) k.place x bits k.cost) marks v u mark within (λ s. stands_last) (λ differ s. entry_stays es (es ++ entry ∷ []) (mark_at marks u).place u bits (mark_at marks u).cost (goes_on_push es entry) s.entered) settled;
    closed = closed_still u settled;
  }

  -- what is known of a vertex is entered
  pub filling_entered : IsFilling I ks (es ++ entry ∷ []) bits (set marks v mark) waiting
  filling_entered = record {
    long = length-set marks v mark ∙ f.long;
    sound = λ u. sound_stays I ks es (es ++ entry ∷ []) bits u (mark_at (set marks v mark) u) (goes_on_push es entry) (at_set (IsSound I ks es bits) marks v u mark within (let here = f.sound v in record { most = here.most; parts = here.parts }) (λ differ. f.sound u));
    states = λ u vertex. elim (f.states u vertex) [
      | inl far ↦ inl (let same = same_costs marks v u mark within refl in omega (arith, far, same))
      | inr near ↦ elim near [
        | inl waits ↦ inr (inl (subst (λ (x : ℕ). Contains waiting (offer_of x u)) (sym (same_costs marks v u mark within refl)) waits))
        | inr settled ↦ inr (inr (settled_still u settled))
      ]
    ];
    queued = f.queued;
  }

  -- and its parts stand before it
  pub parts_entered : IsVertex I.n v → (mark_at marks v).cost < 2 ^ 63 → HaveParts I ks es → HaveParts I ks (es ++ entry ∷ [])
  parts_entered range near have place below = by_case (cases_lt place (length es))
    where
      by_case : (place < length es) ⊎ (length es ≤ place) → IsVertex I.n (at (es ++ entry ∷ []) place).vertex × HasParts I ks (es ++ entry ∷ []) place (at (es ++ entry ∷ []) place) (at (es ++ entry ∷ []) place).way
      by_case (inl old) =
          let on = goes_on_push es entry in
          let parts = have place old in
          subst (λ (e : Meaning). IsVertex I.n e.vertex × HasParts I ks (es ++ entry ∷ []) place e e.way) (sym (on.same place old)) (parts.0, parts_stay I ks es (es ++ entry ∷ []) place place (at es place) (at es place).way on (omega (arith, old)) (omega arith) parts.1)
      by_case (inr new) =
          let long = length-append es (entry ∷ []) in
          let here : length es ≡ place = omega (arith, long, below, new) in
          let last : at (es ++ entry ∷ []) (length es) ≡ entry = get_or-append_seam es entry [] (record { vertex = 0; bits = 0; cost = 0; way = Alone }) in
          subst (λ (p : ℕ). IsVertex I.n (at (es ++ entry ∷ []) p).vertex × HasParts I ks (es ++ entry ∷ []) p (at (es ++ entry ∷ []) p) (at (es ++ entry ∷ []) p).way) here
          (subst (λ (e : Meaning). IsVertex I.n e.vertex × HasParts I ks (es ++ entry ∷ []) (length es) e e.way) (sym last) (range, parts_stay I ks es (es ++ entry ∷ []) (length es) (length es) entry entry.way (goes_on_push es entry) (omega arith) (omega arith) ((f.sound v).parts near)))

-- an offer that waits no longer: its vertex costs something else by now, or is settled
pub filling_dropped : (I : Network) (ks : List ℕ) (es : List Meaning) (bits : ℕ) (marks : List Mark) (cost v : ℕ) (rest : List Offer) → IsFilling I ks es bits marks (offer_of cost v ∷ rest) → ((mark_at marks v).cost ≡ cost → IsSettled I es bits marks v) → IsFilling I ks es bits marks rest
filling_dropped I ks es bits marks cost v rest f here = record {
  long = f.long;
  sound = f.sound;
  states = λ u vertex. elim (f.states u vertex) [
    | inl far ↦ inl far
    | inr near ↦ elim near [
      | inl waits ↦ elim (contains_cases (offer_of cost v) (offer_of (mark_at marks u).cost u) rest waits) [
        | inl same ↦
            let vertex_is : v ≡ u = ap (λ (o : Offer). o.0.1) same in
            let cost_is : cost ≡ (mark_at marks u).cost = ap (λ (o : Offer). o.0.0) same in
            inr (inr (subst (λ (x : ℕ). IsSettled I es bits marks x) vertex_is (here (ap (λ (x : ℕ). (mark_at marks x).cost) vertex_is ∙ sym cost_is))))
        | inr other ↦ inr (inl other)
      ]
      | inr settled ↦ inr (inr settled)
    ]
  ];
  queued = All-tail (IsOffer I) (offer_of cost v) rest f.queued;
}

-- in another order
pub filling_moved : (I : Network) (ks : List ℕ) (es : List Meaning) (bits : ℕ) (marks : List Mark) (old new : List Offer) → IsPermutation old new → IsFilling I ks es bits marks old → IsFilling I ks es bits marks new
filling_moved I ks es bits marks old new moved f = record {
  long = f.long;
  sound = f.sound;
  states = λ v vertex. elim (f.states v vertex) [
    | inl far ↦ inl far
    | inr near ↦ elim near [
      | inl waits ↦ inr (inl (Contains-permutation old new (offer_of (mark_at marks v).cost v) moved waits))
      | inr settled ↦ inr (inr settled)
    ]
  ];
  queued = All-permutation (IsOffer I) old new moved f.queued;
}
