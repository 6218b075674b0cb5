-- A network is settled by a branch; what closes the branch there closes it in the network.
use Rattle.std.proofs.Common.{◌≡◌, ℕ, ◌+◌, ◌-◌, ◌≤◌, ◌<◌, max, Bool, true, false, not, cond, ◌||◌, List, [], ◌∷◌, length, map, Option, Some, None, option_map, inl, inr, refl, sym, ap, ◌∙◌, arith}
use Rattle.std.specs.Prelude.{◌==◌, IsTrue, IsFalse, IsSome, IfSome, AllPairs, MatchOption, filter, unwrap_or}
use Rattle.std.specs.List.{AllByRecursion}
use Rattle.std.proofs.lemmas.Bool.{both_ways, or_left, or_right, or_parts, eq-eqb, false_from_ne_true, false≢true}
use Rattle.std.proofs.lemmas.Bool.Decides.{nat_tests}
use Rattle.std.proofs.lemmas.List.{get_or-map, length-map}
use Rattle.std.proofs.lemmas.List.Elements.{recursion_from_All, All-filter, All-map, All-weaker}
use Rattle.std.proofs.lemmas.List.Kept.{AllPairs-filter}
use Rattle.st_model.specs.declared.branch.Branch.{Branch}
use Rattle.st_model.specs.declared.link.Link.{Link}
use Rattle.st_model.specs.declared.tree.Tree.{Tree}
use Rattle.st_model.specs.Ground.{ground}
use Rattle.st_model.specs.Lists.{has, total, sum_to}
use Rattle.st_model.specs.Network.{Network, IsInstance, IsLinkBetween, joins, link}
use Rattle.st_model.specs.Made.{is_between, has_pair, AreApart}
use Rattle.st_model.specs.Arborescence.{Grows, reached, arc_cost, missed, cost}
use Rattle.st_model.specs.Branch.{IsBranch, IsPlain, is_certain, open_link}
use Rattle.st_model.proofs.Distinct.{between-ends, joins-ends, link-comm}
use Rattle.st_model.proofs.Pairs.{own, apart_from, between-turned, has_pair-comm, open_unbarred}
use Rattle.st_model.proofs.Sums.{total_filter_le}
use Rattle.cut_packing.specs.declared.packing.Packing.{Packing}
use Rattle.cut_packing.specs.Packing.{load, Fits, CutFits, IsRoot, base_weight, spare, weight}
use Rattle.level_packing.specs.declared.leaf.Leaf.{Leaf}
use Rattle.level_packing.specs.declared.leaf.Leaf.TheVariants.{Tree as Spanned, Wall}
use Rattle.level_packing.specs.Forest.{IsPresent}
use Rattle.level_packing.specs.Settled.{is_left, settled, settled_links, IsSettled}
use Rattle.level_packing.specs.Spanning.{IsSpanning, IsLeaf, IsBaseLeaf, AvoidsBarred, HasSets, HasFewCuts}

-- a pair is among some where the ends of a link are that it joins
joined_pair : (ps : List (ℕ × ℕ)) (l : Link) (u v : ℕ) → IsTrue (joins l u v) → has_pair ps l.a l.b ≡ has_pair ps u v
joined_pair ps l u v h = elim (joins-ends l u v h) [
  | inl e ↦ rw (e.0, e.1) refl
  | inr e ↦ rw (e.0, e.1) (has_pair-comm ps v u)
]

-- the settled links have settled prices
pub link-settled : (B : Branch) (links : List Link) (u v : ℕ) → link (settled_links B links) u v ≡ option_map (λ (price : ℕ). cond (has_pair B.must u v) 0 price) (cond (has_pair B.barred u v) None (link links u v))
link-settled B [] u v = nothing (has_pair B.barred u v)
  where
    nothing : (b : Bool) → ◌≡◌ {A = Option ℕ} None (option_map (λ (price : ℕ). cond (has_pair B.must u v) 0 price) (cond b None None))
    nothing true = refl
    nothing false = refl
link-settled B (l ∷ links) u v = by_case (has_pair B.barred l.a l.b) (joins l u v) refl refl (link-settled B links u v)
  where
    by_case : (b j : Bool) → has_pair B.barred l.a l.b ≡ b → joins l u v ≡ j → link (settled_links B links) u v ≡ option_map (λ (price : ℕ). cond (has_pair B.must u v) 0 price) (cond (has_pair B.barred u v) None (link links u v))
        → link (map (settled B) (cond (not b) (l ∷ filter (is_left B) links) (filter (is_left B) links))) u v ≡ option_map (λ (price : ℕ). cond (has_pair B.must u v) 0 price) (cond (has_pair B.barred u v) None (cond j (Some l.cost) (link links u v)))
    by_case true true bars joined rest = rw (sym (joined_pair B.barred l u v joined) ∙ bars) (rw (sym (joined_pair B.barred l u v joined) ∙ bars) at rest)
    by_case true false bars joined rest = rest
    by_case false true bars joined rest = rw (joined, sym (joined_pair B.barred l u v joined) ∙ bars, joined_pair B.must l u v joined) refl
    by_case false false bars joined rest = rw joined rest

-- what holds of pairs of links by their ends alone holds of settled ones
pairs-settled : (B : Branch) (links : List Link) → AllPairs (λ l m. IsFalse (joins m l.a l.b)) links → AllPairs (λ l m. IsFalse (joins m l.a l.b)) (map (settled B) links)
pairs-settled B links apart i j d before within =
    let few : j < length links = rw (length-map links (settled B)) at within in
    rw (get_or-map (settled B) links i d d (omega arith), get_or-map (settled B) links j d d few) (apart i j d before few)

-- settled links cost no more
settled_costs : (B : Branch) (links : List Link) → total (λ l. l.cost) (map (settled B) links) ≤ total (λ l. l.cost) links
settled_costs B [] = omega arith
settled_costs B (l ∷ links) = omega (arith, less (has_pair B.must l.a l.b) l.cost, settled_costs B links)
  where
    less : (b : Bool) (c : ℕ) → cond b 0 c ≤ c
    less true c = omega arith
    less false c = omega arith

pub settled_instance : (I : Network) (B : Branch) → IsInstance I → IsInstance (record { n = I.n; links = settled_links B I.links; needs = I.needs })
settled_instance I B is = record {
  some_vertex = is.some_vertex;
  few_vertices = is.few_vertices;
  ends = All-map (IsLinkBetween I.n) (settled B) (filter (is_left B) I.links) (All-weaker (IsLinkBetween I.n) (λ l. IsLinkBetween I.n (settled B l)) (λ l e. record { low = e.low; ordered = e.ordered; high = e.high }) (filter (is_left B) I.links) (All-filter (is_left B) (IsLinkBetween I.n) I.links is.ends));
  one_each = pairs-settled B (filter (is_left B) I.links) (AllPairs-filter (λ l m. IsFalse (joins m l.a l.b)) (is_left B) I.links is.one_each);
  needs = is.needs;
  amount = let kept = total_filter_le (λ (l : Link). l.cost) (is_left B) I.links in omega (arith, is.amount, kept, settled_costs B (filter (is_left B) I.links));
}

pub settled_is : (I : Network) (B : Branch) (S : Network) → S.n ≡ I.n → S.links ≡ settled_links B I.links → S.needs ≡ I.needs → IsSettled I B S
settled_is I B S n links needs = record { n = n; needs = needs; link = λ u v. rw links (link-settled B I.links u v) }

-- a branch that says nothing of links settles nothing
pub plain_settled : (I : Network) (B : Branch) → IsPlain B → IsSettled I B I
plain_settled I B plain = record { n = refl; needs = refl; link = λ u v. rw (plain.must, plain.barred) (same (link I.links u v)) }
  where
    same : (price : Option ℕ) → price ≡ option_map (λ p. p) price
    same None = refl
    same (Some p) = refl

-- what two lists have to say of one pair
module _ (I : Network) (B : Branch) (S : Network) (is : IsSettled I B S) where
  -- no link that is left is barred
  pub left_open : (u v : ℕ) → IsSome (link S.links u v) → IsFalse (has_pair B.barred u v)
  left_open u v some = by_case (has_pair B.barred u v) (rw (is.link u v) at some)
    where
      by_case : (b : Bool) → IsSome (option_map (λ (price : ℕ). cond (has_pair B.must u v) 0 price) (cond b None (link I.links u v))) → IsFalse b
      by_case true none = absurd (false≢true none)
      by_case false there = refl

  -- an arc that bears no more than its settled price bears no more than its open one
  open_bears : (u v x : ℕ) → IfSome (open_link S B u v) (λ price. x ≤ price) → IfSome (open_link I B u v) (λ price. x ≤ price)
  open_bears u v x h = by_case (has_pair B.barred u v) refl (has_pair B.must u v) (link I.links u v) refl
    where
      by_case : (b : Bool) → has_pair B.barred u v ≡ b → (m : Bool) (price : Option ℕ) → link I.links u v ≡ price → IfSome (cond b None price) (λ p. x ≤ p)
      by_case true bars m price e = tt
      by_case false free m None e = tt
      by_case false free m (Some p) e = below (has_pair B.must u v) (rw (free, is.link u v, free, e) at h)
        where
          below : (b : Bool) → x ≤ cond b 0 p → x ≤ p
          below true le = omega arith
          below false le = le

  same_fits : (P : Packing) → Fits S B P → Fits I B P
  same_fits P fits = record {
    root = by_root P.root fits.root;
    cuts = All-weaker (CutFits S B) (CutFits I B) (λ c fit. record { in_range = rw is.n at fit.in_range; member = fit.member; present = fit.present }) P.cuts fits.cuts;
    arcs = λ u v tail head. open_bears u v (load P.cuts (u, v)) (fits.arcs u v tail head);
    prizes = λ q vertex free. rw (← is.needs) (fits.prizes q (rw is.n vertex) (rw is.needs free));
  }
    where
      by_root : (root : Option ℕ) → MatchOption root (P.cuts ≡ []) (IsRoot S B P.cuts) → MatchOption root (P.cuts ≡ []) (IsRoot I B P.cuts)
      by_root None none = none
      by_root (Some r) root = record { vertex = rw is.n at root.vertex; certain = rw is.needs at root.certain; same = tt; apart = root.apart }

  base_same : (P : Packing) → base_weight S B P ≡ base_weight I B P
  base_same P = rw (is.n, is.needs) refl

  spanning_same : (t : Tree) → IsSpanning S B t → IsSpanning I B t
  spanning_same t h = record {
    arborescence = record { start = rw is.n at h.arborescence.start; grows = grows (t.start ∷ []) t.arcs h.arborescence.grows };
    present = λ v vertex. h.present v (rw is.n vertex);
  }
    where
      linked : (u v : ℕ) → IsSome (link S.links u v) → IsSome (link I.links u v)
      linked u v some = by_case (has_pair B.barred u v) (link I.links u v) (rw (is.link u v) at some)
        where
          by_case : (b : Bool) (price : Option ℕ) → IsSome (option_map (λ (p : ℕ). cond (has_pair B.must u v) 0 p) (cond b None price)) → IsSome price
          by_case true price none = absurd (false≢true none)
          by_case false None none = none
          by_case false (Some p) there = refl

      grows : (R : List ℕ) (arcs : List (ℕ × ℕ)) → Grows S R arcs → Grows I R arcs
      grows R [] g = tt
      grows R ((u, v) ∷ arcs) g = (linked u v g.0, g.1, g.2, grows (v ∷ R) arcs g.3)

  -- a tree without barred links grows in what is left
  spanning_left : (t : Tree) → IsSpanning I B t → AvoidsBarred B t → IsSpanning S B t
  spanning_left t h avoids = record {
    arborescence = record { start = rw is.n h.arborescence.start; grows = grows (t.start ∷ []) t.arcs h.arborescence.grows (λ u v there. false_from_ne_true (has_pair B.barred u v) (λ bars. both_ways (has_pair t.arcs u v) (avoids u v bars) there)) };
    present = λ v vertex. h.present v (rw is.n at vertex);
  }
    where
      linked : (u v : ℕ) → IsSome (link I.links u v) → IsFalse (has_pair B.barred u v) → IsSome (link S.links u v)
      linked u v some free = rw (is.link u v, free) (by_case (link I.links u v) some)
        where
          by_case : (price : Option ℕ) → IsSome price → IsSome (option_map (λ (p : ℕ). cond (has_pair B.must u v) 0 p) price)
          by_case None none = none
          by_case (Some p) there = refl

      grows : (R : List ℕ) (arcs : List (ℕ × ℕ)) → Grows I R arcs → ((u v : ℕ) → IsTrue (has_pair arcs u v) → IsFalse (has_pair B.barred u v)) → Grows S R arcs
      grows R [] g free = tt
      grows R ((u, v) ∷ arcs) g free = (linked u v g.0 (free u v (or_left (is_between (u, v) u v) (has_pair arcs u v) (own (u, v)))), g.1, g.2, grows (v ∷ R) arcs g.3 (λ a b there. free a b (or_right (is_between (u, v) a b) (has_pair arcs a b) there)))

  -- a tree of what is left uses no barred link
  avoids_barred : (R : List ℕ) (arcs : List (ℕ × ℕ)) → Grows S R arcs → (u v : ℕ) → IsTrue (has_pair B.barred u v) → IsFalse (has_pair arcs u v)
  avoids_barred R [] g u v bars = refl
  avoids_barred R ((a, b) ∷ arcs) g u v bars = rw (other, avoids_barred (b ∷ R) arcs g.3 u v bars) refl
    where
      other : is_between (a, b) u v ≡ false
      other = false_from_ne_true (is_between (a, b) u v) (λ same. both_ways (has_pair B.barred a b) (left_open a b g.0) (elim (between-ends (a, b) u v same) [ inl e ↦ rw (e.0, e.1) bars | inr e ↦ rw (e.0, e.1) (has_pair-comm B.barred v u ∙ bars) ]))

-- vertices that are reached already are joined by no later arc
none_between : (I : Network) (R : List ℕ) (arcs : List (ℕ × ℕ)) (x y : ℕ) → Grows I R arcs → IsTrue (has R x) → IsTrue (has R y) → IsFalse (has_pair arcs x y)
none_between I R [] x y g hx hy = refl
none_between I R ((u, v) ∷ arcs) x y g hx hy = rw (other, none_between I (v ∷ R) arcs x y g.3 (or_right (v == x) _ hx) (or_right (v == y) _ hy)) refl
  where
    other : is_between (u, v) x y ≡ false
    other = false_from_ne_true (is_between (u, v) x y) (λ same. elim (between-ends (u, v) x y same) [
      | inl e ↦ both_ways (has R v) g.2 (rw e.1 hy)
      | inr e ↦ both_ways (has R v) g.2 (rw e.1 hx)
    ])

-- no two arcs of a tree are between the same vertices
grown_apart : (I : Network) (R : List ℕ) (arcs : List (ℕ × ℕ)) → Grows I R arcs → AreApart arcs
grown_apart I R [] g = tt
grown_apart I R ((u, v) ∷ arcs) g = (none_between I (v ∷ R) arcs u v g.3 (or_right (v == u) _ g.1) (or_left (v == v) _ (eq-eqb v v refl)), grown_apart I (v ∷ R) arcs g.3)

-- what is counted at the arcs between two vertices, where no two arcs are between the same, is counted at most once
counted_once : (s : ℕ × ℕ → ℕ) (m : ℕ × ℕ) (arcs : List (ℕ × ℕ)) → ((a : ℕ × ℕ) → IsTrue (is_between m a.0 a.1) → s a ≡ s m) → AreApart arcs → total (λ a. cond (is_between m a.0 a.1) (s a) 0) arcs ≤ s m
counted_once s m [] same apart = omega arith
counted_once s m (a ∷ arcs) same apart = by_case (is_between m a.0 a.1) refl (counted_once s m arcs same apart.1)
  where
    none : (others : List (ℕ × ℕ)) → IsFalse (has_pair others m.0 m.1) → total (λ b. cond (is_between m b.0 b.1) (s b) 0) others ≡ 0
    none [] out = refl
    none (b ∷ others) out =
        let parts = or_parts (is_between b m.0 m.1) (has_pair others m.0 m.1) out in
        let off : is_between m b.0 b.1 ≡ false = false_from_ne_true (is_between m b.0 b.1) (λ here. both_ways (is_between b m.0 m.1) parts.0 (between-turned m b here)) in
        rw (off, none others parts.1) refl

    by_case : (b : Bool) → is_between m a.0 a.1 ≡ b → total (λ c. cond (is_between m c.0 c.1) (s c) 0) arcs ≤ s m → cond b (s a) 0 + total (λ c. cond (is_between m c.0 c.1) (s c) 0) arcs ≤ s m
    by_case true here rest = omega (arith, same a here, none arcs (apart_from a m arcs apart.0 (between-turned m a here)))
    by_case false off rest = omega (arith, rest)

-- what is counted at the arcs that are among some pairs is at most what is counted at all of these
counted_among : (s : ℕ × ℕ → ℕ) (ms arcs : List (ℕ × ℕ)) → ((m a : ℕ × ℕ) → IsTrue (is_between m a.0 a.1) → s a ≡ s m) → AreApart arcs → total (λ a. cond (has_pair ms a.0 a.1) (s a) 0) arcs ≤ total s ms
counted_among s [] arcs same apart = none arcs
  where
    none : (others : List (ℕ × ℕ)) → total (λ a. cond false (s a) 0) others ≤ 0
    none [] = omega arith
    none (a ∷ others) = omega (arith, none others)
counted_among s (m ∷ ms) arcs same apart =
    let first = counted_once s m arcs (same m) apart in
    let rest = counted_among s ms arcs same apart in
    omega (arith, first, rest, either arcs)
  where
    either : (others : List (ℕ × ℕ)) → total (λ a. cond (is_between m a.0 a.1 || has_pair ms a.0 a.1) (s a) 0) others ≤ total (λ a. cond (is_between m a.0 a.1) (s a) 0) others + total (λ a. cond (has_pair ms a.0 a.1) (s a) 0) others
    either [] = omega arith
    either (a ∷ others) = omega (arith, at (is_between m a.0 a.1) (has_pair ms a.0 a.1) (s a), either others)
      where
        at : (b c : Bool) (x : ℕ) → cond (b || c) x 0 ≤ cond b x 0 + cond c x 0
        at true c x = omega arith
        at false c x = omega arith

module _ (I : Network) (B : Branch) (S : Network) (is : IsSettled I B S) where
  -- an arc that is left costs what it did, but for what the branch says is a must
  arc_costs : (u v : ℕ) → IsSome (link S.links u v) → arc_cost I (u, v) ≡ arc_cost S (u, v) + cond (has_pair B.must u v) (arc_cost I (u, v)) 0
  arc_costs u v some = by_case (has_pair B.barred u v) (has_pair B.must u v) (link I.links u v) (is.link u v) some
    where
      by_case : (b m : Bool) (price : Option ℕ) {left : Option ℕ} → left ≡ option_map (λ (p : ℕ). cond m 0 p) (cond b None price) → IsSome left → unwrap_or price 0 ≡ unwrap_or left 0 + cond m (unwrap_or price 0) 0
      by_case true m price e there = absurd (false≢true (rw e at there))
      by_case false m None e there = absurd (false≢true (rw e at there))
      by_case false true (Some p) e there = rw e (omega arith)
      by_case false false (Some p) e there = rw e (omega arith)

  -- so do the arcs of a tree
  arcs_cost : (R : List ℕ) (arcs : List (ℕ × ℕ)) → Grows S R arcs → total (arc_cost I) arcs ≡ total (arc_cost S) arcs + total (λ a. cond (has_pair B.must a.0 a.1) (arc_cost I a) 0) arcs
  arcs_cost R [] g = refl
  arcs_cost R ((u, v) ∷ arcs) g = omega (arith, arc_costs u v g.0, arcs_cost (v ∷ R) arcs g.3)

  -- a link costs the same in either order
  same_cost : (m a : ℕ × ℕ) → IsTrue (is_between m a.0 a.1) → arc_cost I a ≡ arc_cost I m
  same_cost m a here = elim (between-ends m a.0 a.1 here) [
    | inl e ↦ rw (e.0, e.1) refl
    | inr e ↦ rw (e.0, e.1) (ap (λ price. unwrap_or price 0) (link-comm I.links a.0 a.1))
  ]

  missed_same : (t : Tree) → sum_to (missed S (reached t)) S.n ≡ sum_to (missed I (reached t)) I.n
  missed_same t = rw (is.n, is.needs) refl

  -- a tree costs no more than it does where musts cost nothing, and all these
  costs_most : (t : Tree) → IsSpanning S B t → cost I t ≤ cost S t + total (arc_cost I) B.must
  costs_most t h =
      let arcs = arcs_cost (t.start ∷ []) t.arcs h.arborescence.grows in
      let among = counted_among (arc_cost I) B.must t.arcs same_cost (grown_apart S (t.start ∷ []) t.arcs h.arborescence.grows) in
      omega (arith, arcs, among, missed_same t)

  -- and no less than it does there
  costs_least : (t : Tree) → IsSpanning S B t → cost S t ≤ cost I t
  costs_least t h = omega (arith, arcs_cost (t.start ∷ []) t.arcs h.arborescence.grows, missed_same t)

  -- and just what it costs there, where no link is a must
  costs_same : (t : Tree) → IsSpanning S B t → B.must ≡ [] → cost S t ≡ cost I t
  costs_same t h none =
      let arcs = arcs_cost (t.start ∷ []) t.arcs h.arborescence.grows in
      let among = counted_among (arc_cost I) B.must t.arcs same_cost (grown_apart S (t.start ∷ []) t.arcs h.arborescence.grows) in
      let nothing : total (arc_cost I) B.must ≡ 0 = rw none refl in
      omega (arith, arcs, among, nothing, missed_same t)

  module _ (branch : IsBranch I B) (P : Packing) (fits : Fits S B P) where
    -- nothing is laid on the arcs of a link that costs nothing
    unloaded : (u v : ℕ) → IsTrue (has B.inside u) → IsTrue (has B.inside v) → IsTrue (has_pair B.must u v) → IsSome (link I.links u v) → IsFalse (has_pair B.barred u v) → load P.cuts (u, v) ≡ 0
    unloaded u v tail head must some free =
        let open_at : IfSome (open_link S B u v) (λ price. load P.cuts (u, v) ≤ price) = fits.arcs u v (ap not (branch.apart u tail)) (ap not (branch.apart v head)) in
        by_case (link I.links u v) some (rw (open_unbarred (ground S) B u v free, is.link u v, open_unbarred (ground I) B u v free, must) at open_at)
      where
        by_case : (price : Option ℕ) → IsSome price → IfSome (option_map (λ (p : ℕ). 0) price) (λ p. load P.cuts (u, v) ≤ p) → load P.cuts (u, v) ≡ 0
        by_case None none h = absurd (false≢true none)
        by_case (Some p) there h = omega (arith, h)

    -- so a must spares all that it costs
    spared : (m : ℕ × ℕ) → IsTrue (has B.inside m.0) × IsTrue (has B.inside m.1) → IsTrue (has_pair B.must m.0 m.1) → IsSome (link I.links m.0 m.1) → IsFalse (has_pair B.barred m.0 m.1) → spare I P.cuts m ≡ arc_cost I m
    spared m ends must some free =
        let forth = unloaded m.0 m.1 ends.0 ends.1 must some free in
        let back = unloaded m.1 m.0 ends.1 ends.0 (has_pair-comm B.must m.1 m.0 ∙ must) (rw (link-comm I.links m.1 m.0) some) (has_pair-comm B.barred m.1 m.0 ∙ free) in
        rw (forth, back) (whole (arc_cost I m))
      where
        whole : (c : ℕ) → c - max 0 0 ≡ c
        whole c = grind (arith, nat_tests)

    spares_all : total (spare I P.cuts) B.must ≡ total (arc_cost I) B.must
    spares_all = each B.must (λ m there. there) (recursion_from_All _ B.must branch.ends) (recursion_from_All _ B.must branch.must.linked) (recursion_from_All _ B.must branch.unbarred)
      where
        each : (ms : List (ℕ × ℕ)) → ((m : ℕ × ℕ) → IsTrue (has_pair ms m.0 m.1) → IsTrue (has_pair B.must m.0 m.1)) → AllByRecursion (λ m. IsTrue (has B.inside m.0) × IsTrue (has B.inside m.1)) ms → AllByRecursion (λ m. IsSome (link I.links m.0 m.1)) ms → AllByRecursion (λ m. IsFalse (has_pair B.barred m.0 m.1)) ms → total (spare I P.cuts) ms ≡ total (arc_cost I) ms
        each [] there ends linked free = refl
        each (m ∷ ms) there ends linked free =
            let here = spared m ends.0 (there m (or_left (is_between m m.0 m.1) (has_pair ms m.0 m.1) (own m))) linked.0 free.0 in
            omega (arith, here, each ms (λ a later. there a (or_right (is_between m a.0 a.1) (has_pair ms a.0 a.1) later)) ends.1 linked.1 free.1)

    weighs_all : weight I B P ≡ base_weight S B P + total (arc_cost I) B.must
    weighs_all = omega (arith, base_same I B S is P, spares_all)

  -- what closes the branch in the settled network closes it in the network
  pub leaf_lifts : (target : ℕ) (leaf : Leaf) → IsBranch I B → IsBaseLeaf S B target leaf → IsLeaf I B target leaf
  leaf_lifts target (Spanned t P) branch (spans, fits, weighs) = record {
    spanning = spanning_same I B S is t spans;
    avoids = avoids_barred I B S is (t.start ∷ []) t.arcs spans.arborescence.grows;
    fits = same_fits I B S is P fits;
    weighs = omega (arith, weighs, weighs_all branch P fits, costs_most t spans);
    base = omega (arith, weighs, base_same I B S is P, costs_least t spans);
    exact = λ none. let nothing : total (arc_cost I) B.must ≡ 0 = rw none refl in omega (arith, weighs, weighs_all branch P fits, costs_same t spans none, nothing);
  }
  leaf_lifts target (Wall P) branch (none, fits, weighs) = record {
    none = λ t spans avoids. none t (spanning_left I B S is t spans avoids);
    fits = same_fits I B S is P fits;
    weighs = omega (arith, weighs, weighs_all branch P fits);
  }

  pub sets_same : (leaf : Leaf) → HasSets S.n leaf → HasSets I.n leaf
  sets_same leaf h = rw is.n at h

  pub few_same : (target : ℕ) (leaf : Leaf) → HasFewCuts S.n target leaf → HasFewCuts I.n target leaf
  few_same target leaf h = rw is.n at h

  -- who is present there is here
  pub certain_same : ((v : ℕ) → IsPresent I B v → IsTrue (is_certain I B v)) → (v : ℕ) → IsPresent S B v → IsTrue (is_certain S B v)
  certain_same certain v here = rw is.needs (certain v (record { vertex = rw is.n at here.vertex; present = here.present }))

  pub some_same : ((v : ℕ) × IsPresent I B v) → (v : ℕ) × IsPresent S B v
  some_same some = (some.0, record { vertex = rw is.n some.1.vertex; present = some.1.present })
