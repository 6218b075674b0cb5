-- Sets that chosen arcs connect strongly and don't enter, of those that lead to a vertex.
use Rattle.std.proofs.Common.{◌≡◌, ℕ, zero, suc, ◌+◌, ◌<◌, ◌≤◌, Bool, true, false, cond, not, List, [], ◌∷◌, length, get_or, map, is_some, inl, inr, refl, sym, ap, subst, ◌∙◌, arith}
use Rattle.std.specs.Prelude.{◌≢◌, ◌⊎◌, IsTrue, IsFalse, All}
use Rattle.std.specs.List.{AllByRecursion}
use Rattle.std.proofs.lemmas.Bool.{cases_Bool, cases_eq, both_ways, not-true, false≢true, false_from_ne_true}
use Rattle.std.proofs.lemmas.List.Elements.{All-map, recursion_from_All, All-from_recursion}
use Rattle.st_model.specs.declared.branch.Branch.{Branch}
use Rattle.st_model.specs.Branch.{is_present}
use Rattle.st_model.specs.Led.{IsLed, start, along, AreLed}
use Rattle.st_model.specs.Lists.{has, sum_to}
use Rattle.st_model.specs.Network.{IsVertex}
use Rattle.st_model.specs.VertexSet.{VertexSet}
use Rattle.st_model.proofs.Marked.{place_of}
use Rattle.st_model.proofs.Pairs.{open_parts}
use Rattle.st_model.proofs.Sums.{sum_to_le}
use Rattle.cut_packing.specs.declared.packing.Packing.{Packing}
use Rattle.cut_packing.specs.Full.{IsSaturatedIn}
use Rattle.arborescence.specs.Choosing.{back, IsSource, IsUnentered}
use Rattle.arborescence.specs.Closing.{AreHeadsOf, IsClosed, IsStrong, Misses}
use Rattle.arborescence.specs.DiNetwork.{DiNetwork, IsDiNetwork, di_ground}
use Rattle.arborescence.proofs.DiTrees.{away_between}
use Rattle.arborescence.proofs.Listing.{at_arc, members_closed, members_within}

-- what holds of the head of each arc holds of what they lead to from where it holds
led_holds : (P : ℕ → Type 0) (n : ℕ) (arcs : List (ℕ × ℕ)) (heads : List (List ℕ)) (r v : ℕ) → AreHeadsOf n arcs heads → AllByRecursion (λ arc. P arc.1) arcs → P r → IsLed heads r v → P v
led_holds P n arcs heads r v are all at start = at
led_holds P n arcs heads r v are all at (along {u} before listed) = at_arc (λ arc. P arc.1) arcs u v all (sym (are.listed u v) ∙ listed)

pub members_hold : (P : ℕ → Type 0) (n : ℕ) (arcs : List (ℕ × ℕ)) (heads : List (List ℕ)) (members : List ℕ) (r v : ℕ) → AreHeadsOf n arcs heads → AreLed heads r members → All (λ arc. P arc.1) arcs → P r → IsTrue (has members v) → P v
members_hold P n arcs heads members r v are led all at held =
    let p = place_of members v held in
    subst P p.2 (led_holds P n arcs heads r (get_or members p.0 0) are (recursion_from_All (λ arc. P arc.1) arcs all) at (led.sound p.0 0 p.1))

-- the ends of a saturated arc are present vertices
pub saturated_ends : (D : DiNetwork) (B : Branch) (P : Packing) (u v : ℕ) → IsDiNetwork D → IsSaturatedIn (di_ground D) B P u v → (IsVertex D.n u × IsTrue (is_present B u)) × (IsVertex D.n v × IsTrue (is_present B v))
saturated_ends D B P u v net is =
    let ends = away_between D u v net (open_parts (di_ground D) B u v (ap is_some is.used)).1 in
    ((ends.0, is.tail), (ends.1, is.head))

-- what follows, turned round
pub not_back : (a b : Bool) → (IsTrue a → IsTrue b) → IsTrue (not b) → IsTrue (not a)
not_back true b h out = absurd (both_ways b (not-true b out) (h refl))
not_back false b h out = refl

-- what a set that is closed under the arcs doesn't hold is closed under them backwards
closed_back : (arcs : List (ℕ × ℕ)) (S : ℕ → Bool) → IsClosed arcs S → IsClosed (map back arcs) (λ v. not (S v))
closed_back arcs S closed = All-map (λ arc. IsTrue (not (S arc.0)) → IsTrue (not (S arc.1))) back arcs (λ k d below. λ out. not_back (S (get_or arcs k d).0) (S (get_or arcs k d).1) (closed k d below) out)

unmapped : (P : ℕ × ℕ → Type 0) (arcs : List (ℕ × ℕ)) → AllByRecursion P (map back arcs) → AllByRecursion (λ arc. P (back arc)) arcs
unmapped P [] all = tt
unmapped P (arc ∷ arcs) all = (all.0, unmapped P arcs all.1)

-- of each arc backwards, and so of each arc
pub all_back : (P : ℕ × ℕ → Type 0) (arcs : List (ℕ × ℕ)) → All P (map back arcs) → All (λ arc. P (back arc)) arcs
all_back P arcs all = All-from_recursion (λ arc. P (back arc)) arcs (unmapped P arcs (recursion_from_All P (map back arcs) all))

module _ (n : ℕ) (chosen : List (ℕ × ℕ)) (heads tails : List (List ℕ)) (forth : AreHeadsOf n chosen heads) (turned : AreHeadsOf n (map back chosen) tails) where
  -- a closed set that holds one that leads to a vertex holds that vertex
  pub held_on : (S : ℕ → Bool) (here v : ℕ) (set : List ℕ) → IsClosed chosen S → AreLed tails here set → IsTrue (has set v) → IsTrue (S v) → IsTrue (S here)
  held_on S here v set closed led held at = elim (cases_Bool (S here)) [
    | inl there ↦ there
    | inr away ↦ absurd (both_ways (S v) (not-true (S v) (members_within n (map back chosen) tails set (λ w. not (S w)) here v turned led (closed_back chosen S closed) (ap not away) held)) at)
  ]

  -- what leads to a vertex isn't entered
  pub gathered_unentered : (here : ℕ) (set : List ℕ) → AreLed tails here set → IsUnentered chosen set
  gathered_unentered here set led = all_back (λ arc. IsTrue (has set arc.0) → IsTrue (has set arc.1)) chosen (members_closed n (map back chosen) tails set here turned led)

  -- what leads to a vertex that leads to all of it is strong
  pub gathered_strong : (here : ℕ) (set led : List ℕ) → AreLed tails here set → AreLed heads here led → ((v : ℕ) → IsTrue (has set v) → IsTrue (has led v)) → IsStrong chosen set
  gathered_strong here set led gathered leads all = λ S closed u v in_u in_v at. members_within n chosen heads led S here v forth leads closed (held_on S here u set closed gathered in_u at) (all v in_v)

  -- what leads to one of those that lead to a vertex leads to that vertex
  pub gathered_fewer : (here other v : ℕ) (set less : List ℕ) → AreLed tails here set → AreLed tails other less → IsTrue (has set other) → IsTrue (has less v) → IsTrue (has set v)
  gathered_fewer here other v set less led led' inside held = members_within n (map back chosen) tails less (has set) other v turned led' (members_closed n (map back chosen) tails set here turned led) inside held

  -- but the vertex doesn't, if it doesn't lead to the other
  pub gathered_without : (here other : ℕ) (less led : List ℕ) → AreLed tails other less → AreLed heads here led → IsFalse (has led other) → IsFalse (has less here)
  gathered_without here other less led gathered leads away = false_from_ne_true (has less here) (λ held. both_ways (has led other) away (held_on (has led) other here less (members_closed n chosen heads led here forth leads) gathered held leads.root))

-- how many vertices a set holds
abbrev pub size : ℕ → List ℕ → ℕ
size n set = sum_to (λ v. cond (has set v) 1 0) n

-- a sum of numbers none of which is more, and one of which is less, is less
pub sum_to_less : (f g : ℕ → ℕ) (n w : ℕ) → ((v : ℕ) → 1 ≤ v → v ≤ n → f v ≤ g v) → 1 ≤ w → w ≤ n → f w < g w → sum_to f n < sum_to g n
sum_to_less f g zero w all low high less = absurd (omega arith)
sum_to_less f g (suc n) w all low high less = elim (by_last w n) [
  | inl same ↦
      let rest = sum_to_le f g n (λ v l h. all v l (omega arith)) in
      let last : f (suc n) < g (suc n) = subst (λ x. f x < g x) same less in
      omega arith
  | inr before ↦
      let rest = sum_to_less f g n w (λ v l h. all v l (omega arith)) low (omega arith) less in
      let last = all (suc n) (omega arith) (omega arith) in
      omega arith
]
  where
    by_last : (w n : ℕ) → (w ≡ suc n) ⊎ (w ≢ suc n)
    by_last w n = cases_eq w (suc n)

-- fewer lead to the other
pub size_less : (n w : ℕ) (set less : List ℕ) → ((v : ℕ) → IsTrue (has less v) → IsTrue (has set v)) → IsVertex n w → IsTrue (has set w) → IsFalse (has less w) → size n less < size n set
size_less n w set less fewer vertex held away = sum_to_less (λ v. cond (has less v) 1 0) (λ v. cond (has set v) 1 0) n w (λ v low high. at_most (has less v) (has set v) (fewer v)) vertex.0 vertex.1 (rw (held, away) (omega arith))
  where
    at_most : (a b : Bool) → (IsTrue a → IsTrue b) → cond a 1 0 ≤ cond b 1 0
    at_most true true h = omega arith
    at_most true false h = absurd (false≢true (h refl))
    at_most false true h = omega arith
    at_most false false h = omega arith

-- what leads to a present vertex without the root
pub record IsGathered (D : DiNetwork) (B : Branch) (tails : List (List ℕ)) (here : ℕ) (set : VertexSet) : Type 0 where
  pub count : set.count ≡ D.n + 1
  pub vertex : IsVertex D.n here
  pub present : IsTrue (is_present B here)
  pub led : AreLed tails here set.members
  pub root : IsFalse (has set.members D.root)

module _ (D : DiNetwork) (B : Branch) (chosen : List (ℕ × ℕ)) (heads tails : List (List ℕ)) (net : IsDiNetwork D) (forth : AreHeadsOf D.n chosen heads) (turned : AreHeadsOf D.n (map back chosen) tails) where
  -- what leads to a vertex that is missed
  pub gathered_first : (v : ℕ) (set : VertexSet) → Misses D.n B D.root chosen v → AreLed tails v set.members → set.count ≡ length tails → IsGathered D B tails v set
  gathered_first v set missed led count = record {
    count = count ∙ turned.count;
    vertex = missed.vertex;
    present = missed.present;
    led = led;
    root = false_from_ne_true (has set.members D.root) (λ held. both_ways (missed.set v) missed.away (held_on D.n chosen heads tails forth turned missed.set v D.root set.members missed.closed led held missed.root));
  }

  module _ (P : Packing) (used : All (λ arc. IsSaturatedIn (di_ground D) B P arc.0 arc.1) chosen) (here : ℕ) (set : VertexSet) (is : IsGathered D B tails here set) (led : List ℕ) (leads : AreLed heads here led) where
    -- all of it are present vertices
    members_here : (v : ℕ) → IsTrue (has set.members v) → IsVertex D.n v × IsTrue (is_present B v)
    members_here v held = members_hold (λ w. IsVertex D.n w × IsTrue (is_present B w)) D.n (map back chosen) tails set.members here v turned is.led (All-map (λ arc. IsVertex D.n arc.1 × IsTrue (is_present B arc.1)) back chosen (λ k d below. (saturated_ends D B P (get_or chosen k d).0 (get_or chosen k d).1 net (used k d below)).0)) (is.vertex, is.present) held

    module _ (other : ℕ) (less : VertexSet) (inside : IsTrue (has set.members other)) (away : IsFalse (has led other)) (gathered : AreLed tails other less.members) (count : less.count ≡ length tails) where
      -- of those that it doesn't lead to one is next
      pub gathered_next : IsGathered D B tails other less
      gathered_next = record {
        count = count ∙ turned.count;
        vertex = (members_here other inside).0;
        present = (members_here other inside).1;
        led = gathered;
        root = false_from_ne_true (has less.members D.root) (λ held. both_ways (has set.members D.root) is.root (gathered_fewer D.n chosen heads tails forth turned here other D.root set.members less.members is.led gathered inside held));
      }

      pub gathered_smaller : size D.n less.members < size D.n set.members
      gathered_smaller = size_less D.n here set.members less.members (λ v held. gathered_fewer D.n chosen heads tails forth turned here other v set.members less.members is.led gathered inside held) is.vertex is.led.root (gathered_without D.n chosen heads tails forth turned here other less.members led gathered leads away)

    -- if it leads to all of it, it is a source
    pub gathered_last : ((v : ℕ) → IsTrue (has set.members v) → IsTrue (has led v)) → IsSource D B chosen set
    gathered_last all = record {
      count = is.count;
      holds = (here, is.led.root);
      here = members_here;
      strong = gathered_strong D.n chosen heads tails forth turned here set.members led is.led leads all;
      unentered = gathered_unentered D.n chosen heads tails forth turned here set.members is.led;
      root = is.root;
    }
