-- A chain of arcs: what a write at a head changes, and how an arc is led past a vertex.
use Rattle.std.proofs.Common.{◌≡◌, ◌≢◌, ℕ, ◌<◌, Bool, true, false, cond, ◌||◌, List, [], ◌∷◌, ◌++◌, inl, inr, refl, sym, ap, ◌∙◌, subst, eq-eqb, set, length, length-set, Option, Some, None}
use Rattle.std.proofs.lemmas.List.{get_or-set_other, get_or-set_same}
use Rattle.std.proofs.lemmas.List.Folds.{list_any-append}
use Rattle.std.specs.Prelude.{◌==◌, IsTrue, IsFalse}
use Rattle.std.specs.Bool.{OnTrue, OnFalse}
use Rattle.std.proofs.lemmas.Bool.{or_left, or_right, false≢true, eqb-true, false_from_ne_true}
use Rattle.st_model.specs.Made.{is_between}
use Rattle.st_model.proofs.Distinct.{between-ends}
use Rattle.lift_back.specs.declared.chain.Arrival.{Arrival}
use Rattle.lift_back.specs.declared.chain.Chain.{Chain}
use Rattle.lift_back.specs.Chains.{leads_to, arrival_at, LeadsOn, IsChainOf, AreOnce, AreLed}
use Rattle.lift_back.specs.Undoing.{led_past}
use Rattle.lift_back.proofs.Leading.{led_past-append}

-- how a vertex is reached that an arc leads to
abbrev pub comes_from : ℕ → ℕ → Option Arrival
comes_from tail before = Some (record { tail = tail; before = before })

pub differ : (x y : ℕ) → (x == y) ≡ false → x ≢ y
differ x y h e = false≢true (sym h ∙ eq-eqb x y e)

-- what is neither of two is not the first, and not the second
pub neither : (p q : Bool) → (p || q) ≡ false → (p ≡ false) × (q ≡ false)
neither false q h = (refl, h)
neither true q h = absurd (false≢true (sym h))

pub leads_to-append : (xs ys : List (ℕ × ℕ)) (v : ℕ) → leads_to (xs ++ ys) v ≡ (leads_to xs v || leads_to ys v)
leads_to-append xs ys v = list_any-append (λ arc. arc.1 == v) xs ys

-- what is kept at a vertex that no arc leads to doesn't matter
pub leads_still : (arrivals : List (Option Arrival)) (p : ℕ) (arcs : List (ℕ × ℕ)) (last v : ℕ) (x : Option Arrival) → leads_to arcs v ≡ false → LeadsOn arrivals p arcs last → LeadsOn (set arrivals v x) p arcs last
leads_still arrivals p [] last v x none leads = leads
leads_still arrivals p (arc ∷ arcs) last v x none leads =
    let both = neither (arc.1 == v) (leads_to arcs v) none in
    (get_or-set_other arrivals v arc.1 x None (differ arc.1 v both.0) ∙ leads.0, leads_still arrivals arc.1 arcs last v x both.1 leads.1)

-- one chain goes on where another ends
pub leads_append : (arrivals : List (Option Arrival)) (p q last : ℕ) (xs ys : List (ℕ × ℕ)) → LeadsOn arrivals p xs q → LeadsOn arrivals q ys last → LeadsOn arrivals p (xs ++ ys) last
leads_append arrivals p q last [] ys first rest = subst (λ (x : ℕ). LeadsOn arrivals x ys last) (sym first) rest
leads_append arrivals p q last (arc ∷ xs) ys first rest = (first.0, leads_append arrivals arc.1 q last xs ys first.1 rest)

-- a chain around the arc that leads to a head
pub record Parts (arrivals : List (Option Arrival)) (p last : ℕ) (arcs : List (ℕ × ℕ)) (tail head before : ℕ) : Type 0 where
  pub first : List (ℕ × ℕ)
  pub rest : List (ℕ × ℕ)
  pub whole : arcs ≡ first ++ (tail, head) ∷ rest
  pub leads : LeadsOn arrivals p first before
  pub on : LeadsOn arrivals head rest last

abbrev pub tail_of : Option Arrival → ℕ
tail_of None = 0
tail_of (Some a) = a.tail

abbrev pub before_of : Option Arrival → ℕ
before_of None = 0
before_of (Some a) = a.before

pub parts_at : (arrivals : List (Option Arrival)) (p last : ℕ) (arcs : List (ℕ × ℕ)) (tail head before : ℕ) → LeadsOn arrivals p arcs last → IsTrue (leads_to arcs head) → arrival_at arrivals head ≡ comes_from tail before → Parts arrivals p last arcs tail head before
parts_at arrivals p last [] tail head before leads there is = absurd (false≢true there)
parts_at arrivals p last (arc ∷ arcs) tail head before leads there is = by_test (arc.1 == head) refl there (λ h. parts_at arrivals arc.1 last arcs tail head before leads.1 h is)
  where
    here : arc.1 ≡ head → comes_from arc.0 p ≡ comes_from tail before
    here e = sym leads.0 ∙ (ap (arrival_at arrivals) e ∙ is)

    by_test : (b : Bool) → (arc.1 == head) ≡ b → (b || leads_to arcs head) ≡ true → (IsTrue (leads_to arcs head) → Parts arrivals arc.1 last arcs tail head before) → Parts arrivals p last (arc ∷ arcs) tail head before
    by_test true e h more =
        let same = eqb-true arc.1 head e in
        record {
          first = [];
          rest = arcs;
          whole = λ j. (ap tail_of (here same) j, same j) ∷ arcs;
          leads = ap before_of (here same);
          on = subst (λ (x : ℕ). LeadsOn arrivals x arcs last) same leads.1;
        }
    by_test false e h more =
        let later = more h in
        record {
          first = arc ∷ later.first;
          rest = later.rest;
          whole = ap (λ l. arc ∷ l) later.whole;
          leads = (leads.0, later.leads);
          on = later.on;
        }

-- where nothing leads to v afterwards, no arc was led past v
pub led_nowhere : (v a b : ℕ) (arcs : List (ℕ × ℕ)) → leads_to (led_past v a b arcs) v ≡ false → led_past v a b arcs ≡ arcs
led_nowhere v a b [] none = refl
led_nowhere v a b (arc ∷ arcs) none = by_test (is_between (a, b) arc.0 arc.1) none (led_nowhere v a b arcs)
  where
    by_test : (p : Bool) → leads_to (cond p ((arc.0, v) ∷ (v, arc.1) ∷ led_past v a b arcs) (arc ∷ led_past v a b arcs)) v ≡ false → (leads_to (led_past v a b arcs) v ≡ false → led_past v a b arcs ≡ arcs) → cond p ((arc.0, v) ∷ (v, arc.1) ∷ led_past v a b arcs) (arc ∷ led_past v a b arcs) ≡ arc ∷ arcs
    by_test true h rest = absurd (false≢true (sym h ∙ or_left (v == v) ((arc.1 == v) || leads_to (led_past v a b arcs) v) (eq-eqb v v refl)))
    by_test false h rest = ap (λ l. arc ∷ l) (rest (neither (arc.1 == v) (leads_to (led_past v a b arcs) v) h).1)

-- parts of arcs that lead to each head once do so, and share no head
pub once_parts : (xs ys : List (ℕ × ℕ)) → AreOnce (xs ++ ys) → AreOnce xs × AreOnce ys × ((w : ℕ) → IsTrue (leads_to ys w) → IsFalse (leads_to xs w))
once_parts [] ys once = (tt, once, λ w there. refl)
once_parts (arc ∷ xs) ys once =
    let rest = once_parts xs ys once.1 in
    let out = neither (leads_to xs arc.1) (leads_to ys arc.1) (sym (leads_to-append xs ys arc.1) ∙ once.0) in
    ((out.0, rest.0), rest.1, λ w there. false_from_ne_true ((arc.1 == w) || leads_to xs w) (λ h. by_test w there (arc.1 == w) refl out.1 (rest.2 w there) h))
  where
    by_test : (w : ℕ) → IsTrue (leads_to ys w) → (p : Bool) → (arc.1 == w) ≡ p → IsFalse (leads_to ys arc.1) → IsFalse (leads_to xs w) → (p || leads_to xs w) ≡ true → ⊥
    by_test w there true e out none h = false≢true (sym out ∙ (ap (leads_to ys) (eqb-true arc.1 w e) ∙ there))
    by_test w there false e out none h = false≢true (sym none ∙ h)

-- around an arc between a and b that was led past v nothing else was
pub record Around (v a b tail head : ℕ) (xs ys : List (ℕ × ℕ)) : Type 0 where
  pub whole : led_past v a b (xs ++ (tail, head) ∷ ys) ≡ xs ++ (tail, v) ∷ (v, head) ∷ ys
  pub v_before : leads_to xs v ≡ false
  pub head_before : leads_to xs head ≡ false
  pub v_after : leads_to ys v ≡ false
  pub head_after : leads_to ys head ≡ false
  pub apart : head ≢ v

pub around : (v a b tail head : ℕ) (xs ys : List (ℕ × ℕ)) → is_between (a, b) tail head ≡ true → AreOnce (led_past v a b (xs ++ (tail, head) ∷ ys)) → Around v a b tail head xs ys
around v a b tail head xs ys between once =
    let here : led_past v a b ((tail, head) ∷ ys) ≡ (tail, v) ∷ (v, head) ∷ led_past v a b ys = rw between refl in
    let cut : led_past v a b (xs ++ (tail, head) ∷ ys) ≡ led_past v a b xs ++ (tail, v) ∷ (v, head) ∷ led_past v a b ys = led_past-append v a b xs ((tail, head) ∷ ys) ∙ ap (λ l. led_past v a b xs ++ l) here in
    let parts = once_parts (led_past v a b xs) ((tail, v) ∷ (v, head) ∷ led_past v a b ys) (subst AreOnce cut once) in
    let after = neither (head == v) (leads_to (led_past v a b ys) v) parts.1.0 in
    let v_first = parts.2 v (or_left (v == v) ((head == v) || leads_to (led_past v a b ys) v) (eq-eqb v v refl)) in
    let head_first = parts.2 head (or_right (v == head) ((head == head) || leads_to (led_past v a b ys) head) (or_left (head == head) (leads_to (led_past v a b ys) head) (eq-eqb head head refl))) in
    let xs_same = led_nowhere v a b xs v_first in
    let ys_same = led_nowhere v a b ys after.1 in
    record {
      whole = cut ∙ (ap (λ l. l ++ (tail, v) ∷ (v, head) ∷ led_past v a b ys) xs_same ∙ ap (λ l. xs ++ (tail, v) ∷ (v, head) ∷ l) ys_same);
      v_before = subst (λ (l : List (ℕ × ℕ)). leads_to l v ≡ false) xs_same v_first;
      head_before = subst (λ (l : List (ℕ × ℕ)). leads_to l head ≡ false) xs_same head_first;
      v_after = subst (λ (l : List (ℕ × ℕ)). leads_to l v ≡ false) ys_same after.1;
      head_after = subst (λ (l : List (ℕ × ℕ)). leads_to l head ≡ false) ys_same parts.1.1.0;
      apart = differ head v after.0;
    }

-- the arrivals once an arc is led past v: v is where its head was, and the head comes after v
abbrev pub past_arrivals : List (Option Arrival) → ℕ → ℕ → ℕ → ℕ → List (Option Arrival)
past_arrivals arrivals v tail head before = set (set arrivals v (comes_from tail before)) head (comes_from v v)

-- the arc between a and b is led past v by two writes
pub chain_past : (c new : Chain) (start v a b tail head before : ℕ) (arcs : List (ℕ × ℕ)) → is_between (a, b) tail head ≡ true → IsChainOf start arcs c → AreLed (length c.arrivals.items) start (led_past v a b arcs) → arrival_at c.arrivals.items head ≡ comes_from tail before → (v < length c.arrivals.items → head < length c.arrivals.items → new.arrivals.items ≡ past_arrivals c.arrivals.items v tail head before) → new.last ≡ c.last → IsChainOf start (led_past v a b arcs) new
chain_past c new start v a b tail head before arcs between chain led is written last =
    let arrivals = c.arrivals.items in
    let parts = parts_at arrivals start c.last arcs tail head before chain.leads head_there is in
    let xs = parts.first in
    let ys = parts.rest in
    let same : led_past v a b arcs ≡ led_past v a b (xs ++ (tail, head) ∷ ys) = ap (led_past v a b) parts.whole in
    let around = around v a b tail head xs ys between (subst AreOnce same led.once) in
    let all : led_past v a b arcs ≡ xs ++ (tail, v) ∷ (v, head) ∷ ys = same ∙ around.whole in
    let v_in : v < length arrivals = led.within v (ap (λ l. leads_to l v) all ∙ (leads_to-append xs ((tail, v) ∷ (v, head) ∷ ys) v ∙ or_right (leads_to xs v) (leads_to ((tail, v) ∷ (v, head) ∷ ys) v) (or_left (v == v) ((head == v) || leads_to ys v) (eq-eqb v v refl)))) in
    let head_in : head < length arrivals = led.within head (ap (λ l. leads_to l head) all ∙ (leads_to-append xs ((tail, v) ∷ (v, head) ∷ ys) head ∙ or_right (leads_to xs head) (leads_to ((tail, v) ∷ (v, head) ∷ ys) head) (or_right (v == head) ((head == head) || leads_to ys head) (or_left (head == head) (leads_to ys head) (eq-eqb head head refl))))) in
    let is_new = written v_in head_in in
    let one = set arrivals v (comes_from tail before) in
    let two = past_arrivals arrivals v tail head before in
    let at_v : arrival_at two v ≡ comes_from tail before = get_or-set_other one head v (comes_from v v) None (λ e. around.apart (sym e)) ∙ get_or-set_same arrivals v (comes_from tail before) None v_in in
    let at_head : arrival_at two head ≡ comes_from v v = get_or-set_same one head (comes_from v v) None (subst (λ (n : ℕ). head < n) (sym (length-set arrivals v (comes_from tail before))) head_in) in
    let first : LeadsOn two start xs before = leads_still one start xs before head (comes_from v v) around.head_before (leads_still arrivals start xs before v (comes_from tail before) around.v_before parts.leads) in
    let rest : LeadsOn two head ys c.last = leads_still one head ys c.last head (comes_from v v) around.head_after (leads_still arrivals head ys c.last v (comes_from tail before) around.v_after parts.on) in
    let leads : LeadsOn two start (xs ++ (tail, v) ∷ (v, head) ∷ ys) c.last = leads_append two start before c.last xs ((tail, v) ∷ (v, head) ∷ ys) first (at_v, (at_head, rest)) in
    subst (λ (l : List (ℕ × ℕ)). IsChainOf start l new) (sym all) (record {
      leads = subst (λ (l : List (Option Arrival)). LeadsOn l start (xs ++ (tail, v) ∷ (v, head) ∷ ys) new.last) (sym is_new) (subst (λ (x : ℕ). LeadsOn two start (xs ++ (tail, v) ∷ (v, head) ∷ ys) x) (sym last) leads);
      others = λ w none.
          let parted = neither (leads_to xs w) (leads_to ((tail, v) ∷ (v, head) ∷ ys) w) (sym (leads_to-append xs ((tail, v) ∷ (v, head) ∷ ys) w) ∙ none) in
          let from_v = neither (v == w) ((head == w) || leads_to ys w) parted.1 in
          let from_head = neither (head == w) (leads_to ys w) from_v.1 in
          let old : leads_to arcs w ≡ false = ap (λ l. leads_to l w) parts.whole ∙ (leads_to-append xs ((tail, head) ∷ ys) w ∙ rw (parted.0, from_head.0, from_head.1) refl) in
          ap (λ l. arrival_at l w) is_new ∙ (get_or-set_other one head w (comes_from v v) None (λ e. differ head w from_head.0 (sym e)) ∙ (get_or-set_other arrivals v w (comes_from tail before) None (λ e. differ v w from_v.0 (sym e)) ∙ chain.others w old));
    })
  where
    none_is : None ≡ comes_from tail before → ⊥
    none_is e = cc

    head_there : IsTrue (leads_to arcs head)
    head_there = by_test (leads_to arcs head) refl
      where
        by_test : (p : Bool) → leads_to arcs head ≡ p → leads_to arcs head ≡ true
        by_test true e = e
        by_test false e = absurd (none_is (sym (chain.others head e) ∙ is))

-- where no arc is kept between a and b, none is led past v
pub led_past-missing : (arrivals : List (Option Arrival)) (p last v a b : ℕ) (arcs : List (ℕ × ℕ)) → LeadsOn arrivals p arcs last → ((before : ℕ) → arrival_at arrivals b ≢ comes_from a before) → ((before : ℕ) → arrival_at arrivals a ≢ comes_from b before) → led_past v a b arcs ≡ arcs
led_past-missing arrivals p last v a b [] leads first second = refl
led_past-missing arrivals p last v a b (arc ∷ arcs) leads first second = by_test (is_between (a, b) arc.0 arc.1) refl (led_past-missing arrivals arc.1 last v a b arcs leads.1 first second)
  where
    by_test : (q : Bool) → is_between (a, b) arc.0 arc.1 ≡ q → led_past v a b arcs ≡ arcs → cond q ((arc.0, v) ∷ (v, arc.1) ∷ led_past v a b arcs) (arc ∷ led_past v a b arcs) ≡ arc ∷ arcs
    by_test true is rest = elim (between-ends (a, b) arc.0 arc.1 is) [
      | inl e ↦ absurd (first p (ap (arrival_at arrivals) e.1 ∙ (leads.0 ∙ ap (λ t. comes_from t p) (sym e.0))))
      | inr e ↦ absurd (second p (ap (arrival_at arrivals) e.0 ∙ (leads.0 ∙ ap (λ t. comes_from t p) (sym e.1))))
    ]
    by_test false is rest = ap (λ l. arc ∷ l) rest

-- an arc is put after the others by one write
pub chain_push : (c new : Chain) (start tail head : ℕ) (arcs : List (ℕ × ℕ)) → IsChainOf start arcs c → AreLed (length c.arrivals.items) start (arcs ++ (tail, head) ∷ []) → (head < length c.arrivals.items → new.arrivals.items ≡ set c.arrivals.items head (comes_from tail c.last)) → new.last ≡ head → IsChainOf start (arcs ++ (tail, head) ∷ []) new
chain_push c new start tail head arcs chain led written last =
    let arrivals = c.arrivals.items in
    let two = set arrivals head (comes_from tail c.last) in
    let parts = once_parts arcs ((tail, head) ∷ []) led.once in
    let here : IsTrue (leads_to ((tail, head) ∷ []) head) = or_left (head == head) false (eq-eqb head head refl) in
    let within : head < length arrivals = led.within head (leads_to-append arcs ((tail, head) ∷ []) head ∙ or_right (leads_to arcs head) (leads_to ((tail, head) ∷ []) head) here) in
    let is_new = written within in
    let at_head : arrival_at two head ≡ comes_from tail c.last = get_or-set_same arrivals head (comes_from tail c.last) None within in
    let leads : LeadsOn two start (arcs ++ (tail, head) ∷ []) head = leads_append two start c.last head arcs ((tail, head) ∷ []) (leads_still arrivals start arcs c.last head (comes_from tail c.last) (parts.2 head here) chain.leads) (at_head, refl) in
    record {
      leads = subst (λ (l : List (Option Arrival)). LeadsOn l start (arcs ++ (tail, head) ∷ []) new.last) (sym is_new) (subst (λ (x : ℕ). LeadsOn two start (arcs ++ (tail, head) ∷ []) x) (sym last) leads);
      others = λ w none.
          let parted = neither (leads_to arcs w) (leads_to ((tail, head) ∷ []) w) (sym (leads_to-append arcs ((tail, head) ∷ []) w) ∙ none) in
          let apart = neither (head == w) false parted.1 in
          ap (λ l. arrival_at l w) is_new ∙ (get_or-set_other arrivals head w (comes_from tail c.last) None (λ e. differ head w apart.0 (sym e)) ∙ chain.others w parted.0);
    }

-- what follows from a test's answer, whichever it is
pub either : {P Q R S : Type 0} (b : Bool) → OnTrue b P → OnFalse b Q → OnFalse b R → (P → S) → (Q → R → S) → S
either true p q r there absent = there p
either false p q r there absent = absent q r
