-- Where a step may be taken, there is a state that it leads to.
use Rattle.std.proofs.Common.{◌≡◌, ◌≢◌, ℕ, zero, suc, ◌+◌, ◌-◌, ◌^◌, ◌<◌, ◌≤◌, min, max, Bool, true, false, cond, not, ◌||◌, List, [], ◌∷◌, length, get_or, set, filter, Option, Some, None, IsSome, refl, sym, ap, subst, ◌∙◌, arith, inl, inr, eq-eqb, is_some}
use Rattle.std.specs.Prelude.{All, AllPairs, IsTrue, IsFalse, ◌==◌}
use Rattle.std.proofs.lemmas.Bool.{or_cases, eqb-true, false≢true, ne_eqb}
use Rattle.std.proofs.lemmas.Bool.Decides.{nat_tests}
use Rattle.std.proofs.lemmas.List.{length-set}
use Rattle.std.proofs.lemmas.List.Elements.{All-filter, All-weaker, filter_passes, All-from_recursion, recursion_from_All}
use Rattle.std.proofs.lemmas.List.Kept.{AllPairs-filter}
use Rattle.st_model.specs.declared.link.Link.{Link}
use Rattle.st_model.specs.declared.need.Need.{Need}
use Rattle.st_model.specs.declared.need.Need.TheVariants.{Required, Pays}
use Rattle.st_model.specs.Branch.{with_vertex}
use Rattle.st_model.specs.Ground.{ground}
use Rattle.st_model.specs.Lists.{has, total, sum_to}
use Rattle.st_model.specs.Made.{is_between}
use Rattle.st_model.specs.Network.{IsInstance, IsVertex, IsLinkBetween, joins, link, need_of, prize, pays}
use Rattle.st_model.proofs.Branches.{IsVertexSet-member, IsBranch-with_outside}
use Rattle.st_model.proofs.Distinct.{between-ends}
use Rattle.st_model.proofs.Halves.{has-with_vertex}
use Rattle.st_model.proofs.Sums.{total_filter_le, sum_to_le}
use Rattle.st_model.proofs.ThinGrowth.{linked-vertices}
use Rattle.lift_back.specs.declared.step.Step.{Step}
use Rattle.lift_back.specs.declared.step.Step.TheVariants.{Pendant, Through, Forced, Detour}
use Rattle.lift_back.specs.State.{State, IsState}
use Rattle.lift_back.specs.Steps.{IsIdle, IsPendant, IsThrough, IsForced, least, links_without, links_past, gone_with, needs_forced, Takes, MayTake}
use Rattle.lift_back.specs.Detours.{IsDetour}
use Rattle.lift_back.proofs.DetourTrees.{linked_stays}
use Rattle.lift_back.proofs.Forcing.{forced_neighbour, forced_present, needs_written}
use Rattle.lift_back.proofs.PairLinks.{between_ends_too}
use Rattle.lift_back.proofs.Skipping.{stays}
use Rattle.lift_back.proofs.ThroughTrees.{neighbour_stays}
use Rattle.log_format.specs.Accepts.{left_over}
use Rattle.log_format.proofs.AllTrees.{left_over-branch}

-- ---- links that are taken out

-- where the test goes by the ends of a link alone, the links that pass are those of the ends that pass
link-filter : (p : Link → Bool) (q : Bool) (ls : List Link) (u w : ℕ) → ((l : Link) → joins l u w ≡ true → p l ≡ q) → link (filter p ls) u w ≡ cond q (link ls u w) None
link-filter p true [] u w same = refl
link-filter p false [] u w same = refl
link-filter p q (l ∷ ls) u w same = by_test (p l) (joins l u w) q refl (same l) (link-filter p q ls u w same)
  where
    by_test : (a b q : Bool) → joins l u w ≡ b → (b ≡ true → a ≡ q) → link (filter p ls) u w ≡ cond q (link ls u w) None → link (cond a (l ∷ filter p ls) (filter p ls)) u w ≡ cond q (cond b (Some l.cost) (link ls u w)) None
    by_test true true true b_is here rest = ap (λ t. cond t (Some l.cost) (link (filter p ls) u w)) b_is
    by_test true true false b_is here rest = absurd (false≢true (sym (here refl)))
    by_test false true true b_is here rest = absurd (false≢true (here refl))
    by_test false true false b_is here rest = rest
    by_test true false q b_is here rest = ap (λ t. cond t (Some l.cost) (link (filter p ls) u w)) b_is ∙ rest
    by_test false false q b_is here rest = rest

-- the link doesn't end in v
abbrev past : ℕ → Link → Bool
past v l = not ((l.a == v) || (l.b == v))

past_ends : (v : ℕ) (l : Link) (u w : ℕ) → joins l u w ≡ true → past v l ≡ not ((u == v) || (w == v))
past_ends v l u w h = grind (arith, nat_tests)

cut_past : (ls : List Link) (v u w : ℕ) → link (filter (past v) ls) u w ≡ cond ((u == v) || (w == v)) None (link ls u w)
cut_past ls v u w = link-filter (past v) (not ((u == v) || (w == v))) ls u w (λ l joined. past_ends v l u w joined) ∙ by_test ((u == v) || (w == v))
  where
    by_test : (b : Bool) → cond (not b) (link ls u w) None ≡ cond b None (link ls u w)
    by_test true = refl
    by_test false = refl

-- the link isn't a-b
abbrev but : ℕ → ℕ → Link → Bool
but a b l = not (is_between (a, b) l.a l.b)

but_ends : (a b : ℕ) (l : Link) (u w : ℕ) → joins l u w ≡ true → but a b l ≡ not (is_between (a, b) u w)
but_ends a b l u w h = grind (arith, nat_tests)

cut_but : (ls : List Link) (a b u w : ℕ) → link (filter (but a b) ls) u w ≡ cond (is_between (a, b) u w) None (link ls u w)
cut_but ls a b u w = link-filter (but a b) (not (is_between (a, b) u w)) ls u w (λ l joined. but_ends a b l u w joined) ∙ by_test (is_between (a, b) u w)
  where
    by_test : (b : Bool) → cond (not b) (link ls u w) None ≡ cond b None (link ls u w)
    by_test true = refl
    by_test false = refl

-- a link that is taken out is paid no more
without_one : (ls : List Link) (v u c : ℕ) → link ls v u ≡ Some c → total (λ l. l.cost) (filter (past v) ls) + c ≤ total (λ l. l.cost) ls
without_one [] v u c h = cc
without_one (l ∷ ls) v u c h = by_test (joins l v u) (past v l) refl refl h (without_one ls v u c)
  where
    touches : joins l v u ≡ true → past v l ≡ false
    touches is = grind (arith, nat_tests)

    by_test : (b p : Bool) → joins l v u ≡ b → past v l ≡ p → cond b (Some l.cost) (link ls v u) ≡ Some c → (link ls v u ≡ Some c → total (λ l. l.cost) (filter (past v) ls) + c ≤ total (λ l. l.cost) ls) → total (λ l. l.cost) (cond p (l ∷ filter (past v) ls) (filter (past v) ls)) + c ≤ l.cost + total (λ l. l.cost) ls
    by_test true true is p_is h rest = absurd (false≢true (sym (touches is) ∙ p_is))
    by_test true false is p_is h rest = let e : l.cost ≡ c = cc in let fewer = total_filter_le (λ (m : Link). m.cost) (past v) ls in omega arith
    by_test false true is p_is h rest = let less = rest h in omega arith
    by_test false false is p_is h rest = let less = rest h in omega arith

-- nor are two
without_two : (ls : List Link) (v a b x y : ℕ) → a ≢ b → link ls v a ≡ Some x → link ls v b ≡ Some y → total (λ l. l.cost) (filter (past v) ls) + (x + y) ≤ total (λ l. l.cost) ls
without_two [] v a b x y apart first second = cc
without_two (l ∷ ls) v a b x y apart first second = by_test (joins l v a) (joins l v b) (past v l) refl refl refl first second (without_two ls v a b x y apart)
  where
    clash : joins l v a ≡ true → joins l v b ≡ true → ⊥
    clash ha hb = apart (let same : a ≡ b = grind (arith, nat_tests) in same)

    touches : (w : ℕ) → joins l v w ≡ true → past v l ≡ false
    touches w is = grind (arith, nat_tests)

    by_test : (s t p : Bool) → joins l v a ≡ s → joins l v b ≡ t → past v l ≡ p → cond s (Some l.cost) (link ls v a) ≡ Some x → cond t (Some l.cost) (link ls v b) ≡ Some y → (link ls v a ≡ Some x → link ls v b ≡ Some y → total (λ l. l.cost) (filter (past v) ls) + (x + y) ≤ total (λ l. l.cost) ls) → total (λ l. l.cost) (cond p (l ∷ filter (past v) ls) (filter (past v) ls)) + (x + y) ≤ l.cost + total (λ l. l.cost) ls
    by_test true true p s_is t_is p_is f g rest = absurd (clash s_is t_is)
    by_test true false true s_is t_is p_is f g rest = absurd (false≢true (sym (touches a s_is) ∙ p_is))
    by_test true false false s_is t_is p_is f g rest = let e : l.cost ≡ x = cc in let less = without_one ls v b y g in omega arith
    by_test false true true s_is t_is p_is f g rest = absurd (false≢true (sym (touches b t_is) ∙ p_is))
    by_test false true false s_is t_is p_is f g rest = let e : l.cost ≡ y = cc in let less = without_one ls v a x f in omega arith
    by_test false false true s_is t_is p_is f g rest = let less = rest f g in omega arith
    by_test false false false s_is t_is p_is f g rest = let less = rest f g in omega arith

-- ---- states that are made

-- an instance of as many vertices, with links that fit and that cost no more
record FitLinks (s : State) (links : List Link) (needs : List Need) (offset : ℕ) : Type 0 where
  ends : All (IsLinkBetween s.instance.n) links
  one_each : AllPairs (λ l m. IsFalse (joins m l.a l.b)) links
  long : length needs ≡ s.instance.n
  amount : total (λ l. l.cost) links + sum_to (λ v. prize (get_or needs (v - 1) Required)) s.instance.n + offset < 2 ^ 63

abbrev made : State → List Link → List Need → List ℕ → ℕ → State
made s links needs gone offset = record { instance = record { n = s.instance.n; links = links; needs = needs }; gone = gone; offset = offset }

made_instance : (s : State) (links : List Link) (needs : List Need) (offset : ℕ) → IsState s → FitLinks s links needs offset → IsInstance (record { n = s.instance.n; links = links; needs = needs })
made_instance s links needs offset state fit = record {
  some_vertex = state.instance.some_vertex;
  few_vertices = state.instance.few_vertices;
  ends = fit.ends;
  one_each = fit.one_each;
  needs = fit.long;
  amount = let all = fit.amount in omega arith;
}

-- a vertex goes: what is left, where nobody who is gone is linked or needs anything
goes : (s : State) (v : ℕ) (links : List Link) (needs : List Need) (offset : ℕ) → IsState s → IsVertex s.instance.n v → IsFalse (has s.gone v) → FitLinks s links needs offset → ((u w : ℕ) → IsSome (link links u w) → IsFalse (gone_with s v u)) → ((w : ℕ) → IsTrue (gone_with s v w) → get_or needs (w - 1) Required ≡ Pays 0) → IsState (made s links needs (with_vertex s.gone v) offset)
goes s v links needs offset state vertex present fit cut idle = record {
  instance = made_instance s links needs offset state fit;
  gone = (IsBranch-with_outside (ground s.instance) (left_over s) v vertex (ap not present) (left_over-branch s state.gone)).outside;
  alone = λ u w gone. alone u w (link links u w) refl (sym (has-with_vertex s.gone v u) ∙ gone);
  idle = λ w gone. idle w (sym (has-with_vertex s.gone v w) ∙ gone);
  amount = fit.amount;
}
  where
    alone : (u w : ℕ) (o : Option ℕ) → link links u w ≡ o → IsTrue (gone_with s v u) → link links u w ≡ None
    alone u w None is gone = is
    alone u w (Some c) is gone = absurd (false≢true (sym (cut u w (ap is_some is)) ∙ gone))

-- a link past v is one as before, and ends neither in v nor in anybody who is gone
past_stays : (s : State) (v u w : ℕ) → IsState s → IsSome (links_without s v u w) → IsFalse (gone_with s v u)
past_stays s v u w state there = by_test (u == v) (w == v) refl there
  where
    none : false ≡ true → ⊥
    none h = cc

    by_test : (p q : Bool) → (u == v) ≡ p → IsSome (cond (p || q) None (link s.instance.links u w)) → IsFalse (gone_with s v u)
    by_test false false is h = stays s v u is (linked_stays s u w state h).0
    by_test true q is h = absurd (none h)
    by_test false true is h = absurd (none h)

-- some links of a state fit
some_fit : (s : State) (p : Link → Bool) → IsState s → FitLinks s (filter p s.instance.links) s.instance.needs s.offset
some_fit s p state = record {
  ends = All-filter p (IsLinkBetween s.instance.n) s.instance.links state.instance.ends;
  one_each = AllPairs-filter (λ l m. IsFalse (joins m l.a l.b)) p s.instance.links state.instance.one_each;
  long = state.instance.needs;
  amount = let fewer = total_filter_le (λ (l : Link). l.cost) p s.instance.links in let all = state.amount in omega arith;
}

-- who is gone once an idle vertex is needs nothing
idle_then : (s : State) (v w : ℕ) → IsState s → IsIdle s v → IsTrue (gone_with s v w) → need_of s.instance w ≡ Pays 0
idle_then s v w state idle gone = elim (or_cases (v == w) (has s.gone w) gone) [
  | inl same ↦ ap (need_of s.instance) (sym (eqb-true v w same)) ∙ idle.need
  | inr before ↦ state.idle w before
]

-- some state that the step leads to
abbrev pub HasNext : Step → State → Type 0
HasNext step s = (next : State) × IsState next × Takes step s next

next_pendant : (s : State) (v : ℕ) → IsState s → IsPendant s v → HasNext (Pendant v) s
next_pendant s v state may =
    let links = filter (past v) s.instance.links in (
      made s links s.instance.needs (with_vertex s.gone v) s.offset,
      goes s v links s.instance.needs s.offset state may.idle.vertex may.idle.present (some_fit s (past v) state) (λ u w there. past_stays s v u w state (subst (λ (o : Option ℕ). IsSome o) (cut_past s.instance.links v u w) there)) (λ w gone. idle_then s v w state may.idle gone),
      record { allowed = may; becomes = record { count = refl; linked = cut_past s.instance.links v; needed = λ w vertex. refl; left_out = has-with_vertex s.gone v; paid = refl } },
    )

next_detour : (s : State) (a b : ℕ) (inner : List ℕ) → IsState s → IsDetour s.instance a b inner → HasNext (Detour a b inner) s
next_detour s a b inner state may =
    let links = filter (but a b) s.instance.links in (
      made s links s.instance.needs s.gone s.offset,
      record {
        instance = made_instance s links s.instance.needs s.offset state (some_fit s (but a b) state);
        gone = state.gone;
        alone = λ u w gone. cut_but s.instance.links a b u w ∙ none (is_between (a, b) u w) (link s.instance.links u w) (state.alone u w gone);
        idle = state.idle;
        amount = (some_fit s (but a b) state).amount;
      },
      record { allowed = may; becomes = record { count = refl; linked = cut_but s.instance.links a b; needed = λ w vertex. refl; left_out = λ w. refl; paid = refl } },
    )
  where
    none : (c : Bool) (o : Option ℕ) → o ≡ None → cond c None o ≡ None
    none true o is = refl
    none false o is = is

-- the needs once v needs nothing and u has to be reached
abbrev forced_needs : State → ℕ → ℕ → List Need
forced_needs s v u = set (set s.instance.needs (v - 1) (Pays 0)) (u - 1) Required

next_forced : (s : State) (v u c : ℕ) → IsState s → IsForced s v u c → HasNext (Forced v) s
next_forced s v u c state may = (
  made s (filter (past v) s.instance.links) (forced_needs s v u) (with_vertex s.gone v) (s.offset + c),
  goes s v (filter (past v) s.instance.links) (forced_needs s v u) (s.offset + c) state may.vertex present fit (λ w z there. past_stays s v w z state (subst (λ (o : Option ℕ). IsSome o) (cut_past s.instance.links v w z) there)) idle,
  (u, c, record { allowed = may; becomes = record { count = refl; linked = cut_past s.instance.links v; needed = needed; left_out = has-with_vertex s.gone v; paid = refl } }),
)
  where
    present : IsFalse (has s.gone v)
    present = forced_present s v u c state may

    neighbour : ((u == v) ≡ false) × IsFalse (has s.gone u) × IsVertex s.instance.n u
    neighbour = forced_neighbour s v u c state may

    needed : (w : ℕ) → IsVertex s.instance.n w → get_or (forced_needs s v u) (w - 1) Required ≡ needs_forced s v u w
    needed w vertex = needs_written s.instance.n v u w s.instance.needs state.instance.needs may.vertex neighbour.2 vertex neighbour.0

    paid : (w : ℕ) → IsVertex s.instance.n w → (p q : Bool) → (w == v) ≡ p → (w == u) ≡ q → prize (get_or (forced_needs s v u) (w - 1) Required) ≤ pays s.instance w
    paid w vertex true q p_is q_is = let e : prize (get_or (forced_needs s v u) (w - 1) Required) ≡ 0 = ap prize (needed w vertex ∙ ap (λ b. cond b (Pays 0) (cond (w == u) Required (need_of s.instance w))) p_is) in omega arith
    paid w vertex false true p_is q_is = let e : prize (get_or (forced_needs s v u) (w - 1) Required) ≡ 0 = ap prize (needed w vertex ∙ (λ j. cond (p_is j) (Pays 0) (cond (q_is j) Required (need_of s.instance w)))) in omega arith
    paid w vertex false false p_is q_is = let e : prize (get_or (forced_needs s v u) (w - 1) Required) ≡ pays s.instance w = ap prize (needed w vertex ∙ (λ j. cond (p_is j) (Pays 0) (cond (q_is j) Required (need_of s.instance w)))) in omega arith

    fit : FitLinks s (filter (past v) s.instance.links) (forced_needs s v u) (s.offset + c)
    fit = record {
      ends = All-filter (past v) (IsLinkBetween s.instance.n) s.instance.links state.instance.ends;
      one_each = AllPairs-filter (λ l m. IsFalse (joins m l.a l.b)) (past v) s.instance.links state.instance.one_each;
      long = length-set (set s.instance.needs (v - 1) (Pays 0)) (u - 1) Required ∙ (length-set s.instance.needs (v - 1) (Pays 0) ∙ state.instance.needs);
      amount =
          let fewer = without_one s.instance.links v u c may.linked in
          let pay = sum_to_le (λ w. prize (get_or (forced_needs s v u) (w - 1) Required)) (pays s.instance) s.instance.n (λ w low high. paid w (low, high) (w == v) (w == u) refl refl) in
          let all = state.amount in
          omega arith;
    }

    idle : (w : ℕ) → IsTrue (gone_with s v w) → get_or (forced_needs s v u) (w - 1) Required ≡ Pays 0
    idle w gone = elim (or_cases (v == w) (has s.gone w) gone) [
      | inl same ↦ subst (λ (x : ℕ). get_or (forced_needs s v u) (x - 1) Required ≡ Pays 0) (eqb-true v w same) (needed v may.vertex ∙ rw (eq-eqb v v refl) refl)
      | inr before ↦
          let vertex = IsVertexSet-member s.instance.n s.gone w state.gone before in
          let not_v : (w == v) ≡ false = ne_eqb w v (λ e. false≢true (sym present ∙ (ap (has s.gone) (sym e) ∙ before))) in
          let not_u : (w == u) ≡ false = ne_eqb w u (λ e. false≢true (sym neighbour.1 ∙ (ap (has s.gone) (sym e) ∙ before))) in
          needed w vertex ∙ (rw (not_v, not_u) (state.idle w before))
    ]

-- one more link, of a pair that none of the others joins
pairs-cons : (l : Link) (ls : List Link) → All (λ m. IsFalse (joins m l.a l.b)) ls → AllPairs (λ l m. IsFalse (joins m l.a l.b)) ls → AllPairs (λ l m. IsFalse (joins m l.a l.b)) (l ∷ ls)
pairs-cons l ls fresh apart i zero d before within = absurd (omega arith)
pairs-cons l ls fresh apart zero (suc j) d before within = fresh j d (omega arith)
pairs-cons l ls fresh apart (suc i) (suc j) d before within = apart i j d (omega arith) (omega arith)

-- the link of a and b, at no more than the sum
abbrev joined : State → ℕ → ℕ → ℕ → Link
joined s a b sum = record { a = min a b; b = max a b; cost = least s a b sum }

-- the links that don't end in v, but for a-b
abbrev others : State → ℕ → ℕ → ℕ → List Link
others s v a b = filter (but a b) (filter (past v) s.instance.links)

next_through : (s : State) (v a b x y : ℕ) → IsState s → IsThrough s v a b x y → HasNext (Through v) s
next_through s v a b x y state may = (
  made s (joined s a b (x + y) ∷ others s v a b) s.instance.needs (with_vertex s.gone v) s.offset,
  goes s v (joined s a b (x + y) ∷ others s v a b) s.instance.needs s.offset state may.idle.vertex may.idle.present fit (λ u w there. cut u w (is_between (a, b) u w) refl (subst (λ (o : Option ℕ). IsSome o) (linked u w) there)) (λ w gone. idle_then s v w state may.idle gone),
  (a, b, x, y, record { allowed = may; becomes = record { count = refl; linked = linked; needed = λ w vertex. refl; left_out = has-with_vertex s.gone v; paid = refl } }),
)
  where
    first : IsSome (link s.instance.links v a)
    first = rw may.first refl

    second : IsSome (link s.instance.links v b)
    second = rw may.second refl

    twice : (c : Bool) (o p : Option ℕ) → cond c o (cond c None p) ≡ cond c o p
    twice true o p = refl
    twice false o p = refl

    linked : (u w : ℕ) → link (joined s a b (x + y) ∷ others s v a b) u w ≡ links_past s v a b (x + y) u w
    linked u w =
        let only : List Link = filter (past v) s.instance.links in
        let cost : Option ℕ = Some (least s a b (x + y)) in
        ap (λ t. cond t cost (link (filter (but a b) only) u w)) (between_ends_too a b (min a b) (max a b) u w refl refl)
        ∙ (ap (cond (is_between (a, b) u w) cost) (cut_but only a b u w)
        ∙ (twice (is_between (a, b) u w) cost (link only u w)
        ∙ ap (cond (is_between (a, b) u w) cost) (cut_past s.instance.links v u w)))

    a_vertex : IsVertex s.instance.n a
    a_vertex = (linked-vertices s.instance v a state.instance first).1

    b_vertex : IsVertex s.instance.n b
    b_vertex = (linked-vertices s.instance v b state.instance second).1

    unjoined : (m : Link) → but a b m ≡ true → joins m (min a b) (max a b) ≡ false
    unjoined m h = grind (arith, nat_tests)

    fit : FitLinks s (joined s a b (x + y) ∷ others s v a b) s.instance.needs s.offset
    fit =
        let only : List Link = filter (past v) s.instance.links in
        let rest : List Link = filter (but a b) only in
        let apart = may.different in
        let low_a = a_vertex.0 in
        let high_a = a_vertex.1 in
        let low_b = b_vertex.0 in
        let high_b = b_vertex.1 in
        let one : IsLinkBetween s.instance.n (joined s a b (x + y)) = record { low = omega arith; ordered = omega arith; high = omega arith } in
        record {
          ends = All-from_recursion (IsLinkBetween s.instance.n) (joined s a b (x + y) ∷ rest) (one, recursion_from_All (IsLinkBetween s.instance.n) rest (All-filter (but a b) (IsLinkBetween s.instance.n) only (All-filter (past v) (IsLinkBetween s.instance.n) s.instance.links state.instance.ends)));
          one_each = pairs-cons (joined s a b (x + y)) rest
              (All-weaker (λ m. but a b m ≡ true) (λ m. IsFalse (joins m (min a b) (max a b))) unjoined rest (filter_passes (but a b) only))
              (AllPairs-filter (λ l m. IsFalse (joins m l.a l.b)) (but a b) only (AllPairs-filter (λ l m. IsFalse (joins m l.a l.b)) (past v) s.instance.links state.instance.one_each));
          long = state.instance.needs;
          amount =
              let fewer = total_filter_le (λ (l : Link). l.cost) (but a b) only in
              let two = without_two s.instance.links v a b x y may.different may.first may.second in
              let cheap : least s a b (x + y) ≤ x + y = omega arith in
              let all = state.amount in
              omega arith;
        }

    cut : (u w : ℕ) (p : Bool) → is_between (a, b) u w ≡ p → IsSome (cond p (Some (least s a b (x + y))) (links_without s v u w)) → IsFalse (gone_with s v u)
    cut u w false p_is there = past_stays s v u w state there
    cut u w true p_is there = elim (between-ends (a, b) u w p_is) [
      | inl e ↦ let other = neighbour_stays s v a state first in subst (λ (z : ℕ). IsFalse (gone_with s v z)) e.0 (stays s v a other.0 other.1)
      | inr e ↦ let other = neighbour_stays s v b state second in subst (λ (z : ℕ). IsFalse (gone_with s v z)) e.1 (stays s v b other.0 other.1)
    ]

pub next_of : (step : Step) (s : State) → IsState s → MayTake step s → HasNext step s
next_of (Pendant v) s state may = next_pendant s v state may
next_of (Through v) s state (a, b, x, y, may) = next_through s v a b x y state may
next_of (Forced v) s state (u, c, may) = next_forced s v u c state may
next_of (Detour a b inner) s state may = next_detour s a b inner state may
