-- States that differ in the order of their links alone: the same steps may be taken in them and lead to such states again, and the same is proved of them.
use Rattle.std.proofs.Common.{◌≡◌, ◌≢◌, ℕ, suc, ◌+◌, ◌-◌, ◌<◌, ◌≤◌, min, max, Bool, true, false, cond, ◌||◌, List, [], ◌∷◌, ◌++◌, length, get_or, Option, Some, None, IsSome, refl, sym, ap, subst, ◌∙◌, arith, inl, inr, ◌⊎◌, eq-eqb}
use Rattle.std.specs.Prelude.{IfSome, IsTrue, IsFalse, MatchOption, ◌==◌, unwrap_or, AllPairs}
use Rattle.std.specs.List.{AllByRecursion}
use Rattle.std.specs.List.Sorted.{IsStrictlyIncreasing}
use Rattle.std.proofs.lemmas.Bool.{cases_order, or_left, both_ways, false_from_ne_true, ne_eqb}
use Rattle.std.proofs.lemmas.Bool.Decides.{nat_tests, eqb_tells}
use Rattle.std.proofs.lemmas.List.{ext_get_or}
use Rattle.std.proofs.lemmas.List.Elements.{All-weaker, recursion_from_All}
use Rattle.std.proofs.lemmas.List.Kept.{AllPairs-from_increasing}
use Rattle.st_model.specs.declared.branch.Branch.{Branch}
use Rattle.st_model.specs.declared.need.Need.{Need}
use Rattle.st_model.specs.declared.need.Need.TheVariants.{Required, Pays}
use Rattle.st_model.specs.declared.split_at.SplitAt.{SplitAt}
use Rattle.st_model.specs.declared.split_at.SplitAt.TheVariants.{Vertex, Link}
use Rattle.st_model.specs.Lists.{has, total, sum_to}
use Rattle.st_model.specs.Made.{is_between, has_pair}
use Rattle.st_model.specs.Network.{Network, IsVertex, link, need_of, is_needed, is_required, prize, pays}
use Rattle.st_model.specs.Arborescence.{arc_cost}
use Rattle.st_model.specs.Branch.{open_link, yes_half, no_half}
use Rattle.st_model.proofs.Distinct.{link-comm}
use Rattle.st_model.proofs.Marked.{at_member}
use Rattle.st_model.proofs.Members.{has-one}
use Rattle.st_model.proofs.Sums.{sum_to_same}
use Rattle.cut_packing.specs.declared.packing.Packing.{Packing}
use Rattle.cut_packing.specs.Packing.{load, named, IsRoot, CutFits, Fits, outside_pays, spare, weight}
use Rattle.cut_packing.specs.ProofTree.{ProofTree, close, split, IsSplitAt, Proves}
use Rattle.lift_back.specs.declared.step.Step.{Step}
use Rattle.lift_back.specs.declared.step.Step.TheVariants.{Pendant, Through, Forced, Detour}
use Rattle.lift_back.specs.State.{State, IsState}
use Rattle.lift_back.specs.Detours.{StaysWithin, walk, IsDetour}
use Rattle.lift_back.specs.Steps.{LeadsOnlyTo, IsIdle, IsThrough, Becomes, links_past, Takes, MayTake}
use Rattle.lift_back.proofs.ThroughTrees.{has_two}

-- ---- instances

-- as many vertices, the same links, and the same needs
pub record Agree (I J : Network) : Type 0 where
  pub count : I.n ≡ J.n
  pub linked : (u w : ℕ) → link I.links u w ≡ link J.links u w
  pub needs : I.needs ≡ J.needs

pub turned : (I J : Network) → Agree I J → Agree J I
turned I J same = record { count = sym same.count; linked = λ u w. sym (same.linked u w); needs = sym same.needs }

module _ (I J : Network) (same : Agree I J) where
  need_same : (w : ℕ) → need_of I w ≡ need_of J w
  need_same w = ap (λ l. get_or l (w - 1) Required) same.needs

  required_same : (w : ℕ) → is_required I w ≡ is_required J w
  required_same w = ap is_needed (need_same w)

  pays_same : (w : ℕ) → pays I w ≡ pays J w
  pays_same w = ap prize (need_same w)

  cost_same : (arc : ℕ × ℕ) → arc_cost I arc ≡ arc_cost J arc
  cost_same arc = ap (λ o. unwrap_or o 0) (same.linked arc.0 arc.1)

  vertex_same : (w : ℕ) → IsVertex I.n w → IsVertex J.n w
  vertex_same w = subst (λ (n : ℕ). IsVertex n w) same.count

  vertex_back : (w : ℕ) → IsVertex J.n w → IsVertex I.n w
  vertex_back w = subst (λ (n : ℕ). IsVertex n w) (sym same.count)

  linked_same : (u w : ℕ) → IsSome (link I.links u w) → IsSome (link J.links u w)
  linked_same u w = subst (λ (o : Option ℕ). IsSome o) (same.linked u w)

  linked_back : (u w : ℕ) → IsSome (link J.links u w) → IsSome (link I.links u w)
  linked_back u w = subst (λ (o : Option ℕ). IsSome o) (sym (same.linked u w))

  open_same : (B : Branch) (u w : ℕ) → open_link I B u w ≡ open_link J B u w
  open_same B u w = ap (cond (has_pair B.barred u w) None) (same.linked u w)

  pub fits_same : (B : Branch) (P : Packing) → Fits I B P → Fits J B P
  fits_same B P fits = record {
    root = root_same P.root fits.root;
    cuts = All-weaker (CutFits I B) (CutFits J B) (λ c fit. record { in_range = All-weaker (IsVertex I.n) (IsVertex J.n) vertex_same c.set fit.in_range; member = fit.member; present = fit.present }) P.cuts fits.cuts;
    arcs = λ u v u_present v_present. subst (λ (o : Option ℕ). IfSome o (λ price. load P.cuts (u, v) ≤ price)) (open_same B u v) (fits.arcs u v u_present v_present);
    prizes = λ q vertex free. subst (λ (p : ℕ). named P.cuts q ≤ p) (pays_same q) (fits.prizes q (vertex_back q vertex) (ap (λ b. b || has B.inside q) (required_same q) ∙ free));
  }
    where
      root_same : (root : Option ℕ) → MatchOption root (P.cuts ≡ []) (IsRoot I B P.cuts) → MatchOption root (P.cuts ≡ []) (IsRoot J B P.cuts)
      root_same None none = none
      root_same (Some r) is = record { vertex = vertex_same r is.vertex; certain = sym (ap (λ b. b || has B.inside r) (required_same r)) ∙ is.certain; same = is.same; apart = is.apart }

  pub weight_same : (B : Branch) (P : Packing) → weight I B P ≡ weight J B P
  weight_same B P =
      let outside : sum_to (outside_pays I B) I.n ≡ sum_to (outside_pays J B) I.n = sum_to_same (outside_pays I B) (outside_pays J B) I.n (λ v low high. ap (λ p. cond (has B.outside v) p 0) (pays_same v)) in
      let count : sum_to (outside_pays J B) I.n ≡ sum_to (outside_pays J B) J.n = ap (sum_to (outside_pays J B)) same.count in
      let must : total (spare I P.cuts) B.must ≡ total (spare J P.cuts) B.must = λ j. total (λ pair. cost_same pair j - max (load P.cuts pair) (load P.cuts (pair.1, pair.0))) B.must in
      omega arith

  pub split_same : (B : Branch) (at : SplitAt) → IsSplitAt I B at → IsSplitAt J B at
  split_same B (Link a b) is = record { ordered = is.ordered; linked = linked_same a b is.linked; low = is.low; high = is.high; no_must = is.no_must; unbarred = is.unbarred }
  split_same B (Vertex v) is = record { vertex = vertex_same v is.vertex; undecided = is.undecided; free = sym (required_same v) ∙ is.free }

  leads_same : (v : ℕ) (others : List ℕ) → LeadsOnlyTo I v others → LeadsOnlyTo J v others
  leads_same v others only w linked = only w (linked_back v w linked)

  stays_same : (limit paid : ℕ) (steps : List (ℕ × ℕ)) → StaysWithin I limit paid steps → StaysWithin J limit paid steps
  stays_same limit paid [] h = tt
  stays_same limit paid (step ∷ steps) h =
      let spent : cond (is_required I step.1) 0 (paid + arc_cost I step) ≡ cond (is_required J step.1) 0 (paid + arc_cost J step) = λ j. cond (required_same step.1 j) 0 (paid + cost_same step j) in
      (subst (λ (c : ℕ). paid + c ≤ limit) (cost_same step) h.0, subst (λ (p : ℕ). StaysWithin J limit p steps) spent (stays_same limit (cond (is_required I step.1) 0 (paid + arc_cost I step)) steps h.1))

  detour_same : (a b : ℕ) (inner : List ℕ) → IsDetour I a b inner → IsDetour J a b inner
  detour_same a b inner is = record {
    linked = linked_same a b is.linked;
    some = is.some;
    links = All-weaker (λ (step : ℕ × ℕ). IsSome (link I.links step.0 step.1)) (λ (step : ℕ × ℕ). IsSome (link J.links step.0 step.1)) (λ step. linked_same step.0 step.1) (walk a (inner ++ b ∷ [])) is.links;
    other = is.other;
    pieces = subst (λ (limit : ℕ). StaysWithin J limit 0 (walk a (inner ++ b ∷ []))) (cost_same (a, b)) (stays_same (arc_cost I (a, b)) 0 (walk a (inner ++ b ∷ [])) is.pieces);
  }

-- the same is proved of both
pub proves_alike : (I J : Network) → Agree I J → (B : Branch) (x : ℕ) (p : ProofTree) → Proves I B x p → Proves J B x p
proves_alike I J same B x (close P) closes = record { fits = fits_same I J same B P closes.fits; weighs = subst (λ (w : ℕ). x ≤ w) (weight_same I J same B P) closes.weighs }
proves_alike I J same B x (split at p q) proves = (split_same I J same B at proves.0, proves_alike I J same (yes_half B at) x p proves.1, proves_alike I J same (no_half B at) x q proves.2)

-- ---- sets

-- each number is below all later ones
abbrev pub Rises : List ℕ → Type 0
Rises [] = Unit {0}
Rises (x ∷ xs) = AllByRecursion (λ y. x < y) xs × Rises xs

pub rises : (xs : List ℕ) → AllPairs (λ x y. x < y) xs → Rises xs
rises [] pairs = tt
rises (x ∷ xs) pairs = (recursion_from_All (λ y. x < y) xs (λ k d within. pairs 0 (suc k) d (omega arith) (omega arith)), rises xs (λ i j d before within. pairs (suc i) (suc j) d (omega arith) (omega arith)))

-- what is below all isn't there
not_there : (v : ℕ) (xs : List ℕ) → AllByRecursion (λ y. v < y) xs → has xs v ≡ false
not_there v xs above = false_from_ne_true (has xs v) (λ there. let below : v < v = at_member (λ y. v < y) xs v above there in omega arith)

above_all : (x y : ℕ) (ys : List ℕ) → x < y → AllByRecursion (λ z. y < z) ys → AllByRecursion (λ z. x < z) ys
above_all x y [] less above = tt
above_all x y (z ∷ zs) less above = let here : y < z = above.0 in (omega arith, above_all x y zs less above.1)

-- lists that rise and have the same members are equal
same_list : (xs ys : List ℕ) → Rises xs → Rises ys → ((v : ℕ) → has xs v ≡ has ys v) → xs ≡ ys
same_list [] [] xs_rise ys_rise same = refl
same_list [] (y ∷ ys) xs_rise ys_rise same = absurd (both_ways (has (y ∷ ys) y) (sym (same y)) (or_left (y == y) (has ys y) (eq-eqb y y refl)))
same_list (x ∷ xs) [] xs_rise ys_rise same = absurd (both_ways (has (x ∷ xs) x) (same x) (or_left (x == x) (has xs x) (eq-eqb x x refl)))
same_list (x ∷ xs) (y ∷ ys) xs_rise ys_rise same = by_order (cases_order x y) (same_list xs ys xs_rise.1 ys_rise.1)
  where
    first_there : (z : ℕ) (zs : List ℕ) → has (z ∷ zs) z ≡ true
    first_there z zs = or_left (z == z) (has zs z) (eq-eqb z z refl)

    other : (z w : ℕ) (zs : List ℕ) (b : Bool) → (z == w) ≡ b → z ≢ w → has (z ∷ zs) w ≡ has zs w
    other z w zs b is apart = ap (λ t. t || has zs w) (ne_eqb z w apart)

    tails : x ≡ y → (v : ℕ) → has xs v ≡ has ys v
    tails e v = elim (eqb_tells x v) [
      | inl here ↦ subst (λ (w : ℕ). has xs w ≡ has ys w) here.1 (not_there x xs xs_rise.0 ∙ sym (subst (λ (w : ℕ). has ys w ≡ false) (sym e) (not_there y ys ys_rise.0)))
      | inr apart ↦ sym (other x v xs (x == v) refl apart.1) ∙ (same v ∙ other y v ys (y == v) refl (λ y_is. apart.1 (e ∙ y_is)))
    ]

    by_order : (x ≡ y) ⊎ ((x < y) ⊎ (y < x)) → (((v : ℕ) → has xs v ≡ has ys v) → xs ≡ ys) → x ∷ xs ≡ y ∷ ys
    by_order (inl e) rest = (let es = rest (tails e) in λ j. e j ∷ es j)
    by_order (inr (inl less)) rest = absurd (both_ways (has (y ∷ ys) x) (not_there x (y ∷ ys) (less, above_all x y ys less ys_rise.0)) (sym (same x) ∙ first_there x xs))
    by_order (inr (inr less)) rest = absurd (both_ways (has (x ∷ xs) y) (not_there y (x ∷ xs) (less, above_all y x xs less xs_rise.0)) (same y ∙ first_there y ys))

same_set : (xs ys : List ℕ) → IsStrictlyIncreasing xs → IsStrictlyIncreasing ys → ((v : ℕ) → has xs v ≡ has ys v) → xs ≡ ys
same_set xs ys xs_rise ys_rise same = same_list xs ys (rises xs (AllPairs-from_increasing xs xs_rise)) (rises ys (AllPairs-from_increasing ys ys_rise)) same

-- ---- states

-- instances that agree, the same vertices gone, and the same offset
pub record AreAlike (s t : State) : Type 0 where
  pub instance : Agree s.instance t.instance
  pub gone : s.gone ≡ t.gone
  pub offset : s.offset ≡ t.offset

pub alike-refl : (s : State) → AreAlike s s
alike-refl s = record { instance = record { count = refl; linked = λ u w. refl; needs = refl }; gone = refl; offset = refl }

pub alike-sym : (s t : State) → AreAlike s t → AreAlike t s
alike-sym s t alike = record { instance = turned s.instance t.instance alike.instance; gone = sym alike.gone; offset = sym alike.offset }

idle_alike : (s t : State) (v : ℕ) → AreAlike s t → IsIdle s v → IsIdle t v
idle_alike s t v alike idle = record {
  vertex = vertex_same s.instance t.instance alike.instance v idle.vertex;
  present = subst (λ (gone : List ℕ). IsFalse (has gone v)) alike.gone idle.present;
  need = sym (need_same s.instance t.instance alike.instance v) ∙ idle.need;
}

-- the same steps may be taken
pub may_take_alike : (step : Step) (s t : State) → AreAlike s t → MayTake step s → MayTake step t
may_take_alike (Pendant v) s t alike may =
    let (u, only) = may.leaf in
    let (w, vertex, present, apart) = may.other in
    record {
      idle = idle_alike s t v alike may.idle;
      leaf = (u, leads_same s.instance t.instance alike.instance v (u ∷ []) only);
      other = (w, vertex_same s.instance t.instance alike.instance w vertex, subst (λ (gone : List ℕ). IsFalse (has gone w)) alike.gone present, apart);
    }
may_take_alike (Through v) s t alike (a, b, x, y, may) = (
  a,
  b,
  x,
  y,
  record {
    idle = idle_alike s t v alike may.idle;
    different = may.different;
    first = sym (alike.instance.linked v a) ∙ may.first;
    second = sym (alike.instance.linked v b) ∙ may.second;
    only = leads_same s.instance t.instance alike.instance v (a ∷ b ∷ []) may.only;
  },
)
may_take_alike (Forced v) s t alike (u, c, may) =
    let (w, vertex, required, apart) = may.other in (
      u,
      c,
      record {
        vertex = vertex_same s.instance t.instance alike.instance v may.vertex;
        required = sym (required_same s.instance t.instance alike.instance v) ∙ may.required;
        linked = sym (alike.instance.linked v u) ∙ may.linked;
        only = leads_same s.instance t.instance alike.instance v (u ∷ []) may.only;
        other = (w, vertex_same s.instance t.instance alike.instance w vertex, sym (required_same s.instance t.instance alike.instance w) ∙ required, apart);
      },
    )
may_take_alike (Detour a b inner) s t alike may = detour_same s.instance t.instance alike.instance a b inner may

-- a step that is taken may be taken
pub takes_may : (step : Step) (before after : State) → Takes step before after → MayTake step before
takes_may (Pendant v) before after takes = takes.allowed
takes_may (Through v) before after (a, b, x, y, takes) = (a, b, x, y, takes.allowed)
takes_may (Forced v) before after (u, c, takes) = (u, c, takes.allowed)
takes_may (Detour a b inner) before after takes = takes.allowed

-- what two states become that is the same
record IsSame (before : State) (links links' : ℕ → ℕ → Option ℕ) (need need' : ℕ → Need) (gone gone' : ℕ → Bool) (offset offset' : ℕ) : Type 0 where
  linked : (u w : ℕ) → links u w ≡ links' u w
  needed : (w : ℕ) → need w ≡ need' w
  left_out : (w : ℕ) → gone w ≡ gone' w
  paid : offset ≡ offset'

become_alike : (s t s' t' : State) (links links' : ℕ → ℕ → Option ℕ) (need need' : ℕ → Need) (gone gone' : ℕ → Bool) (offset offset' : ℕ) → AreAlike s t → IsState s' → IsState t' → Becomes s s' links need gone offset → Becomes t t' links' need' gone' offset' → IsSame s links links' need need' gone gone' offset offset' → AreAlike s' t'
become_alike s t s' t' links links' need need' gone gone' offset offset' alike s'_is t'_is one other same = record {
  instance = record {
    count = count;
    linked = λ u w. one.linked u w ∙ (same.linked u w ∙ sym (other.linked u w));
    needs = ext_get_or Required s'.instance.needs t'.instance.needs long needed;
  };
  gone = same_set s'.gone t'.gone s'_is.gone.ascending t'_is.gone.ascending (λ v. one.left_out v ∙ (same.left_out v ∙ sym (other.left_out v)));
  offset = one.paid ∙ (same.paid ∙ sym other.paid);
}
  where
    count : s'.instance.n ≡ t'.instance.n
    count = one.count ∙ (alike.instance.count ∙ sym other.count)

    long : length s'.instance.needs ≡ length t'.instance.needs
    long = s'_is.instance.needs ∙ (count ∙ sym t'_is.instance.needs)

    needed : (k : ℕ) → k < length s'.instance.needs → get_or s'.instance.needs k Required ≡ get_or t'.instance.needs k Required
    needed k within =
        let place : k + 1 - 1 ≡ k = omega arith in
        let there : IsVertex s.instance.n (k + 1) = (omega arith, (let all = s'_is.instance.needs in let n = one.count in omega arith)) in
        let need_is : need_of s'.instance (k + 1) ≡ need_of t'.instance (k + 1) = one.needed (k + 1) there ∙ (same.needed (k + 1) ∙ sym (other.needed (k + 1) (vertex_same s.instance t.instance alike.instance (k + 1) there))) in
        sym (ap (λ i. get_or s'.instance.needs i Required) place) ∙ (need_is ∙ ap (λ i. get_or t'.instance.needs i Required) place)

gone_same : (s t : State) (v w : ℕ) → AreAlike s t → ((v == w) || has s.gone w) ≡ ((v == w) || has t.gone w)
gone_same s t v w alike = ap (λ gone. (v == w) || has gone w) alike.gone

links_same : (s t : State) (c : Bool) (u w : ℕ) → AreAlike s t → cond c None (link s.instance.links u w) ≡ cond c None (link t.instance.links u w)
links_same s t c u w alike = ap (cond c None) (alike.instance.linked u w)

-- the ends of two links of v are the same two
same_ends : (s t : State) (v a b x y a' b' x' y' : ℕ) → AreAlike s t → IsThrough s v a b x y → IsThrough t v a' b' x' y' → ((a' ≡ a) × (b' ≡ b)) ⊎ ((a' ≡ b) × (b' ≡ a))
same_ends s t v a b x y a' b' x' y' alike one other = by_ends (has_two a b a' (among a' x' other.first)) (has_two a b b' (among b' y' other.second))
  where
    among : (w c : ℕ) → link t.instance.links v w ≡ Some c → IsTrue (has (a ∷ b ∷ []) w)
    among w c linked = one.only w (rw (alike.instance.linked v w ∙ linked) refl)

    by_ends : (a' ≡ a) ⊎ (a' ≡ b) → (b' ≡ a) ⊎ (b' ≡ b) → ((a' ≡ a) × (b' ≡ b)) ⊎ ((a' ≡ b) × (b' ≡ a))
    by_ends (inl p) (inl q) = absurd (other.different (p ∙ sym q))
    by_ends (inl p) (inr q) = inl (p, q)
    by_ends (inr p) (inl q) = inr (p, q)
    by_ends (inr p) (inr q) = absurd (other.different (p ∙ sym q))

-- what a link costs in both
same_price : (s t : State) (v w w' x x' : ℕ) → AreAlike s t → w' ≡ w → link s.instance.links v w ≡ Some x → link t.instance.links v w' ≡ Some x' → x ≡ x'
same_price s t v w w' x x' alike e one other = let both : ◌≡◌ {A = Option ℕ} (Some x) (Some x') = sym one ∙ (alike.instance.linked v w ∙ (ap (link t.instance.links v) (sym e) ∙ other)) in cc

between_turned : (a b u w : ℕ) → is_between (a, b) u w ≡ is_between (b, a) u w
between_turned a b u w = grind (arith, nat_tests)

past_same : (s t : State) (v a b x y a' b' x' y' u w : ℕ) → AreAlike s t → IsThrough s v a b x y → IsThrough t v a' b' x' y' → links_past s v a b (x + y) u w ≡ links_past t v a' b' (x' + y') u w
past_same s t v a b x y a' b' x' y' u w alike one other = state_same ∙ by_ends (same_ends s t v a b x y a' b' x' y' alike one other)
  where
    state_same : links_past s v a b (x + y) u w ≡ links_past t v a b (x + y) u w
    state_same = λ j. cond (is_between (a, b) u w) (Some (min (x + y) (unwrap_or (alike.instance.linked a b j) (x + y)))) (cond ((u == v) || (w == v)) None (alike.instance.linked u w j))

    by_ends : ((a' ≡ a) × (b' ≡ b)) ⊎ ((a' ≡ b) × (b' ≡ a)) → links_past t v a b (x + y) u w ≡ links_past t v a' b' (x' + y') u w
    by_ends (inl (p, q)) =
        let first : x ≡ x' = same_price s t v a a' x x' alike p one.first other.first in
        let second : y ≡ y' = same_price s t v b b' y y' alike q one.second other.second in
        λ j. links_past t v (sym p j) (sym q j) (first j + second j) u w
    by_ends (inr (p, q)) =
        let first : x ≡ y' = same_price s t v a b' x y' alike q one.first other.second in
        let second : y ≡ x' = same_price s t v b a' y x' alike p one.second other.first in
        let sum : x + y ≡ x' + y' = omega arith in
        let there : links_past t v a b (x + y) u w ≡ links_past t v b a (x + y) u w = λ j. cond (between_turned a b u w j) (Some (min (x + y) (unwrap_or (link-comm t.instance.links a b j) (x + y)))) (cond ((u == v) || (w == v)) None (link t.instance.links u w)) in
        there ∙ (λ j. links_past t v (sym p j) (sym q j) (sum j) u w)

-- a step leads to such states again
pub takes_alike : (step : Step) (s t s' t' : State) → AreAlike s t → IsState s' → IsState t' → Takes step s s' → Takes step t t' → AreAlike s' t'
takes_alike (Pendant v) s t s' t' alike s'_is t'_is one other = become_alike s t s' t' _ _ _ _ _ _ _ _ alike s'_is t'_is one.becomes other.becomes (record {
  linked = λ u w. links_same s t ((u == v) || (w == v)) u w alike;
  needed = need_same s.instance t.instance alike.instance;
  left_out = λ w. gone_same s t v w alike;
  paid = alike.offset;
})
takes_alike (Through v) s t s' t' alike s'_is t'_is (a, b, x, y, one) (a', b', x', y', other) = become_alike s t s' t' _ _ _ _ _ _ _ _ alike s'_is t'_is one.becomes other.becomes (record {
  linked = λ u w. past_same s t v a b x y a' b' x' y' u w alike one.allowed other.allowed;
  needed = need_same s.instance t.instance alike.instance;
  left_out = λ w. gone_same s t v w alike;
  paid = alike.offset;
})
takes_alike (Forced v) s t s' t' alike s'_is t'_is (u, c, one) (u', c', other) =
    let u_is : u ≡ u' = has-one u u' (one.allowed.only u' (rw (alike.instance.linked v u' ∙ other.allowed.linked) refl)) in
    let c_is : c ≡ c' = same_price s t v u u' c c' alike (sym u_is) one.allowed.linked other.allowed.linked in
    become_alike s t s' t' _ _ _ _ _ _ _ _ alike s'_is t'_is one.becomes other.becomes (record {
      linked = λ w z. links_same s t ((w == v) || (z == v)) w z alike;
      needed = λ w. (λ j. cond (w == v) (Pays 0) (cond (w == u_is j) Required (need_same s.instance t.instance alike.instance w j)));
      left_out = λ w. gone_same s t v w alike;
      paid = λ j. alike.offset j + c_is j;
    })
takes_alike (Detour a b inner) s t s' t' alike s'_is t'_is one other = become_alike s t s' t' _ _ _ _ _ _ _ _ alike s'_is t'_is one.becomes other.becomes (record {
  linked = λ u w. links_same s t (is_between (a, b) u w) u w alike;
  needed = need_same s.instance t.instance alike.instance;
  left_out = λ w. ap (λ gone. has gone w) alike.gone;
  paid = alike.offset;
})
