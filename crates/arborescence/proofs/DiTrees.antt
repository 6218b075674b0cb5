-- Trees of a directed network: they start at the root, and walks over open arcs give them.
use Rattle.std.proofs.Common.{◌≡◌, ℕ, ◌+◌, ◌<◌, Bool, true, false, cond, not, List, [], ◌∷◌, length, get_or, take, drop, ◌↔◌, None, inl, inr, refl, sym, subst, ◌∙◌}
use Rattle.std.specs.Prelude.{◌==◌, IsTrue, IsFalse, IsSome, All}
use Rattle.std.specs.List.{AllByRecursion}
use Rattle.std.proofs.lemmas.Bool.{cases_Bool, or_cases, or_from, or_left, or_right, eqb-true, eq-eqb, not-true, both_ways, false_from_ne_true, false≢true}
use Rattle.std.proofs.lemmas.List.{drop_more}
use Rattle.std.proofs.lemmas.List.Elements.{recursion_from_All}
use Rattle.st_model.specs.declared.branch.Branch.{Branch}
use Rattle.st_model.specs.declared.tree.Tree.{Tree}
use Rattle.st_model.specs.Arborescence.{GrowsIn, IsTreeIn, reached, reached_from}
use Rattle.st_model.specs.Branch.{Belongs, IsBranchIn, all_trees, is_present, certain_in}
use Rattle.st_model.specs.Ground.{Ground}
use Rattle.st_model.specs.Led.{heads_at, IsLed, start, along, AreLed}
use Rattle.st_model.specs.Lists.{has}
use Rattle.st_model.specs.Made.{has_pair, is_between}
use Rattle.st_model.specs.Network.{IsVertex}
use Rattle.st_model.proofs.Judging.{reached_next}
use Rattle.st_model.proofs.Branches.{IsVertexSet-member, certain_reached}
use Rattle.st_model.proofs.Marked.{has_at, at_member, place_of}
use Rattle.st_model.proofs.Members.{has-one}
use Rattle.st_model.proofs.Pairs.{apart_from, open_parts}
use Rattle.st_model.proofs.ThinGrowth.{has-reached_from}
use Rattle.cut_packing.specs.Laws.{IsRooted}
use Rattle.cut_packing.proofs.Rooted.{starts_there}
use Rattle.arborescence.specs.DiNetwork.{DiNetwork, IsDiNetwork, arc_from, away_price, di_ground, is_sought}
use Rattle.arborescence.specs.DiWall.{IsDiWall}
use Rattle.arborescence.specs.First.{HasNoTreeIn}
use Rattle.arborescence.specs.declared.spreading.Spread.{Spread}
use Rattle.arborescence.specs.Open.{IsOpenIn, AreOpenIn, GrowsAlong, IsSpread}
use Rattle.arborescence.proofs.Putting.{arc_between}

-- the root is the only root of the ground of a directed network
pub is_rooted : (D : DiNetwork) → IsDiNetwork D → IsRooted (di_ground D) D.root
is_rooted D net = record {
  root = refl;
  vertex = net.root;
  required = or_left (D.root == D.root) _ (eq-eqb D.root D.root refl);
  unentered = λ u. rw (eq-eqb D.root D.root refl) refl;
}

-- each tree starts there
pub starts_at_root : (D : DiNetwork) (t : Tree) → IsDiNetwork D → IsTreeIn (di_ground D) t → t.start ≡ D.root
starts_at_root D t net tree = starts_there (di_ground D) D.root t (is_rooted D net) tree

-- only open arcs are listed
abbrev pub AreAllOpen : Ground → Branch → List (List ℕ) → Type 0
AreAllOpen G B heads = (u v : ℕ) → IsTrue (has (heads_at heads u) v) → IsOpenIn G B u v

pub all_open : (G : Ground) (B : Branch) (heads : List (List ℕ)) → AreOpenIn G B heads → AreAllOpen G B heads
all_open G B heads are u v listed = (are.exact u v).0 listed

-- what grows along open arcs grows on the ground
pub GrowsIn-along : (G : Ground) (B : Branch) (heads : List (List ℕ)) (r : List ℕ) (arcs : List (ℕ × ℕ)) → AreAllOpen G B heads → GrowsAlong heads r arcs → GrowsIn G r arcs
GrowsIn-along G B heads r [] open_ g = tt
GrowsIn-along G B heads r (arc ∷ arcs) open_ g = ((open_parts G B arc.0 arc.1 (open_ arc.0 arc.1 g.0).price).1, g.1, g.2, GrowsIn-along G B heads (arc.1 ∷ r) arcs open_ g.3)

-- what holds of all listed arcs holds of each of them
pub each_along : (P : ℕ × ℕ → Type 0) (heads : List (List ℕ)) (r : List ℕ) (arcs : List (ℕ × ℕ)) → ((u v : ℕ) → IsTrue (has (heads_at heads u) v) → P (u, v)) → GrowsAlong heads r arcs → AllByRecursion P arcs
each_along P heads r [] all g = tt
each_along P heads r (arc ∷ arcs) all g = (all arc.0 arc.1 g.0, each_along P heads (arc.1 ∷ r) arcs all g.3)

-- and has no barred link
pub unbarred_along : (G : Ground) (B : Branch) (heads : List (List ℕ)) (r : List ℕ) (arcs : List (ℕ × ℕ)) → AreAllOpen G B heads → GrowsAlong heads r arcs → AllByRecursion (λ arc. IsFalse (has_pair B.barred arc.0 arc.1)) arcs
unbarred_along G B heads r arcs open_ g = each_along (λ arc. IsFalse (has_pair B.barred arc.0 arc.1)) heads r arcs (λ u v listed. (open_parts G B u v (open_ u v listed).price).0) g

-- what holds of what was reached, and of the head of an arc of which the tail has it, holds of all that grows
pub grown_in : (G : Ground) (P : ℕ → Type 0) (r : List ℕ) (arcs : List (ℕ × ℕ)) → GrowsIn G r arcs → ((v : ℕ) → IsTrue (has r v) → P v) → ((u v : ℕ) → IsSome (G.price u v) → IsTrue (has (reached_from r arcs) v) → IsTrue (has_pair arcs u v) → P u → P v) → (v : ℕ) → IsTrue (has (reached_from r arcs) v) → P v
grown_in G P r [] g first step v there = first v there
grown_in G P r (arc ∷ arcs) g first step v there = grown_in G P (arc.1 ∷ r) arcs g.3 more (λ u w some held pair. step u w some held (or_right _ _ pair)) v there
  where
    own_pair : IsTrue (has_pair (arc ∷ arcs) arc.0 arc.1)
    own_pair = or_left (is_between arc arc.0 arc.1) _ (rw (eq-eqb arc.0 arc.0 refl, eq-eqb arc.1 arc.1 refl) refl)

    here : P arc.1
    here = step arc.0 arc.1 g.0 (has-reached_from (arc.1 ∷ r) arcs arc.1 (or_left (arc.1 == arc.1) _ (eq-eqb arc.1 arc.1 refl))) own_pair (first arc.0 g.1)

    more : (w : ℕ) → IsTrue (has (arc.1 ∷ r) w) → P w
    more w h = elim (or_cases (arc.1 == w) (has r w) h) [
      | inl same ↦ subst P (eqb-true arc.1 w same) here
      | inr old ↦ first w old
    ]

-- a closed set that holds the root holds all that a tree of the branch reaches
pub within_closed : (D : DiNetwork) (B : Branch) (S : ℕ → Bool) (t : Tree) → IsDiNetwork D → ((u v : ℕ) → IsOpenIn (di_ground D) B u v → IsTrue (S u) → IsTrue (S v)) → IsTrue (S D.root) → IsTreeIn (di_ground D) t → Belongs B t → (v : ℕ) → IsTrue (has (reached t) v) → IsTrue (S v)
within_closed D B S t net closed root tree belongs v there = both.1
  where
    present : (w : ℕ) → IsTrue (has (reached t) w) → IsTrue (is_present B w)
    present w held = subst (λ b. IsTrue (not b)) (sym (false_from_ne_true (has B.outside w) (λ out. both_ways (has (reached t) w) (belongs.reaches.outside w out) held))) refl

    unbarred : (u w : ℕ) → IsTrue (has_pair t.arcs u w) → IsFalse (has_pair B.barred u w)
    unbarred u w pair = false_from_ne_true (has_pair B.barred u w) (λ bar. both_ways (has_pair t.arcs u w) (belongs.uses.barred u w bar) pair)

    both : IsTrue (is_present B v) × IsTrue (S v)
    both = grown_in (di_ground D) (λ w. IsTrue (is_present B w) × IsTrue (S w)) (t.start ∷ []) t.arcs tree.arborescence.grows
        (λ w h. let same = has-one t.start w h in let at_root = starts_at_root D t net tree in (present w (has-reached_from (t.start ∷ []) t.arcs w h), subst (λ x. IsTrue (S x)) (sym at_root ∙ same) root))
        (λ u w some held pair before. (present w held, closed u w (record { tail = before.0; head = present w held; price = rw (unbarred u w pair) some }) before.1)) v there

-- what is listed as open is what a walk leads along
pub led_closed : (G : Ground) (B : Branch) (heads : List (List ℕ)) (r : ℕ) (members : List ℕ) → AreOpenIn G B heads → AreLed heads r members → (u v : ℕ) → IsOpenIn G B u v → IsTrue (has members u) → IsTrue (has members v)
led_closed G B heads r members open_ led u v is held = led.closed u v held ((open_.exact u v).1 is)

-- an arc of the ground leads between vertices
pub away_between : (D : DiNetwork) (u v : ℕ) → IsDiNetwork D → IsSome (away_price D u v) → IsVertex D.n u × IsVertex D.n v
away_between D u v net some = step (v == D.root) some
  where
    step : (b : Bool) → IsSome (cond b None (arc_from D.arcs u v)) → IsVertex D.n u × IsVertex D.n v
    step true h = absurd (false≢true h)
    step false h = let ends = arc_between D.n D.arcs u v net.ends h in (ends.0, ends.1)

-- what is led to along open arcs is a present vertex
led_present : (D : DiNetwork) (B : Branch) (heads : List (List ℕ)) (v : ℕ) → IsDiNetwork D → IsTrue (is_present B D.root) → AreAllOpen (di_ground D) B heads → IsLed heads D.root v → IsVertex D.n v × IsTrue (is_present B v)
led_present D B heads v net root open_ start = (net.root, root)
led_present D B heads v net root open_ (along {u} before listed) =
    let arc = open_ u v listed in
    ((away_between D u v net (open_parts (di_ground D) B u v arc.price).1).1, arc.head)

pub members_present : (D : DiNetwork) (B : Branch) (heads : List (List ℕ)) (members : List ℕ) → IsDiNetwork D → IsTrue (is_present B D.root) → AreAllOpen (di_ground D) B heads → AreLed heads D.root members → (v : ℕ) → IsTrue (has members v) → IsVertex D.n v × IsTrue (is_present B v)
members_present D B heads members net root open_ led v held =
    let p = place_of members v held in
    subst (λ w. IsVertex D.n w × IsTrue (is_present B w)) p.2 (led_present D B heads (get_or members p.0 0) net root open_ (led.sound p.0 0 p.1))

-- where no arc is barred, no barred link is an arc
none_barred : (barred arcs : List (ℕ × ℕ)) (u v : ℕ) → AllByRecursion (λ arc. IsFalse (has_pair barred arc.0 arc.1)) arcs → IsTrue (has_pair barred u v) → IsFalse (has_pair arcs u v)
none_barred barred [] u v all bar = refl
none_barred barred (arc ∷ arcs) u v all bar =
    or_from (is_between arc u v) (has_pair arcs u v) (false_from_ne_true (is_between arc u v) (λ same. both_ways (has_pair barred u v) (apart_from arc (u, v) barred all.0 same) bar)) (none_barred barred arcs u v all.1 bar)

-- the arcs of a walk over open arcs are a tree of the branch, where it reaches all that it has to
module _ (D : DiNetwork) (B : Branch) (heads : List (List ℕ)) (s : Spread) (net : IsDiNetwork D) (open_ : AreAllOpen (di_ground D) B heads) (led : AreLed heads D.root s.reached.members) (is : IsSpread heads D.root s) (all : (v : ℕ) → IsVertex D.n v → IsTrue (certain_in (di_ground D) B v) → IsTrue (has s.reached.members v)) where
  abbrev pub walked : Tree
  walked = record { start = D.root; arcs = s.arcs.items }

  pub walked_tree : IsTreeIn (di_ground D) walked
  walked_tree = record {
    arborescence = record { start = net.root; grows = GrowsIn-along (di_ground D) B heads (D.root ∷ []) s.arcs.items open_ is.grows };
    required = λ v vertex required. sym (is.same v) ∙ all v vertex (or_left (is_sought D v) (has B.inside v) required);
  }

  pub walked_belongs : IsBranchIn (di_ground D) B → B.must ≡ [] → IsTrue (is_present B D.root) → Belongs B walked
  walked_belongs branch none root = record {
    reaches = record {
      inside = λ v inside. sym (is.same v) ∙ all v (IsVertexSet-member D.n B.inside v branch.inside inside) (or_right (is_sought D v) (has B.inside v) inside);
      outside = λ v outside. false_from_ne_true (has (reached walked) v) (λ there. both_ways (has B.outside v) (not-true (has B.outside v) (members_present D B heads s.reached.members net root open_ led v (is.same v ∙ there)).1) outside);
    };
    uses = record {
      must = λ u v must. absurd (false≢true (rw none at must));
      barred = λ u v bar. none_barred B.barred s.arcs.items u v (unbarred_along (di_ground D) B heads (D.root ∷ []) s.arcs.items open_ is.grows) bar;
    };
  }

-- a walk over open arcs that misses what every tree reaches shows that there is none
pub missed_shows : (D : DiNetwork) (B : Branch) (heads : List (List ℕ)) (members : List ℕ) (v : ℕ) → IsDiNetwork D → AreOpenIn (di_ground D) B heads → AreLed heads D.root members → IsVertex D.n v → IsTrue (certain_in (di_ground D) B v) → IsFalse (has members v) → HasNoTreeIn (di_ground D) B
missed_shows D B heads members v net open_ led vertex certain away t tree belongs =
    both_ways (has members v) away (within_closed D B (has members) t net (led_closed (di_ground D) B heads D.root members open_ led) led.root tree belongs v (certain_reached (di_ground D) B t v tree belongs.reaches vertex certain))

-- a root outside does, too
pub outside_shows : (D : DiNetwork) (B : Branch) → IsDiNetwork D → IsTrue (has B.outside D.root) → HasNoTreeIn (di_ground D) B
outside_shows D B net out t tree belongs = both_ways (has (reached t) D.root) (belongs.reaches.outside D.root out) (tree.required D.root net.root (or_left (D.root == D.root) _ (eq-eqb D.root D.root refl)))

-- what a walk from the root over all arcs reaches is a wall, where it misses a terminal
pub walked_wall : (D : DiNetwork) (heads : List (List ℕ)) (members wall : List ℕ) (v : ℕ) → IsDiNetwork D → AreOpenIn (di_ground D) all_trees heads → AreLed heads D.root members → ((w : ℕ) → has wall w ≡ has members w) → IsTrue (certain_in (di_ground D) all_trees v) → IsFalse (has members v) → IsDiWall D wall
walked_wall D heads members wall v net open_ led same certain away = record {
  in_range = λ k d below. (members_present D all_trees heads members net refl (all_open (di_ground D) all_trees heads open_) led (get_or wall k d) (sym (same (get_or wall k d)) ∙ has_at wall k d below)).0;
  root = same D.root ∙ led.root;
  outside = (v, terminal, same v ∙ away);
  unleft = λ u w some held. same w ∙ leads u w some (sym (same u) ∙ held);
}
  where
    terminal : IsTrue (has D.terminals v)
    terminal = elim (or_cases (is_sought D v) (has [] v) certain) [
      | inl sought ↦ elim (or_cases (v == D.root) (has D.terminals v) sought) [
        | inl root ↦ absurd (both_ways (has members v) away (rw (eqb-true v D.root root) led.root))
        | inr there ↦ there
      ]
      | inr never ↦ absurd (false≢true never)
    ]

    leads : (u w : ℕ) → IsSome (arc_from D.arcs u w) → IsTrue (has members u) → IsTrue (has members w)
    leads u w some held = elim (cases_Bool (w == D.root)) [
      | inl at_root ↦ rw (eqb-true w D.root at_root) led.root
      | inr other ↦ led_closed (di_ground D) all_trees heads D.root members open_ led u w (record { tail = refl; head = refl; price = rw other some }) held
    ]

-- no tree crosses a wall
pub wall_bars : (D : DiNetwork) (wall : List ℕ) (t : Tree) → IsDiNetwork D → IsDiWall D wall → IsTreeIn (di_ground D) t → ⊥
wall_bars D wall t net is tree =
    let v = is.outside.0 in
    let there = tree.required v (IsVertexSet-member D.n D.terminals v net.terminals is.outside.1) (or_right (v == D.root) _ is.outside.1) in
    both_ways (has wall v) is.outside.2 (grown_in (di_ground D) (λ w. IsTrue (has wall w)) (t.start ∷ []) t.arcs tree.arborescence.grows
    (λ w h. subst (λ x. IsTrue (has wall x)) (sym (starts_at_root D t net tree) ∙ has-one t.start w h) is.root)
    (λ u w some held pair before. is.unleft u w (away_some D u w some) before) v there)
  where
    away_some : (D : DiNetwork) (u w : ℕ) → IsSome (away_price D u w) → IsSome (arc_from D.arcs u w)
    away_some D u w some = step (w == D.root) some
      where
        step : (b : Bool) → IsSome (cond b None (arc_from D.arcs u w)) → IsSome (arc_from D.arcs u w)
        step true h = absurd (false≢true h)
        step false h = h

-- all that is sought is in a list where the root and the terminals are
pub sought_iff : (D : DiNetwork) (members : List ℕ) → IsDiNetwork D → IsTrue (has members D.root) → All (λ v. IsTrue (has members v)) D.terminals ↔ ((v : ℕ) → IsVertex D.n v → IsTrue (is_sought D v) → IsTrue (has members v))
sought_iff D members net root = (
  λ all v vertex sought. elim (or_cases (v == D.root) (has D.terminals v) sought) [
    | inl same ↦ rw (eqb-true v D.root same) root
    | inr there ↦ at_member (λ w. IsTrue (has members w)) D.terminals v (recursion_from_All _ D.terminals all) there
  ],
  λ all k d below. all (get_or D.terminals k d) (net.terminals.in_range k d below) (or_right (get_or D.terminals k d == D.root) _ (has_at D.terminals k d below)),
)

-- the arc in hand decides, and then the rest
pub grows_next : (G : Ground) (r : List ℕ) (arcs : List (ℕ × ℕ)) (i : ℕ) (d : ℕ × ℕ) → i < length arcs → GrowsIn G (reached_from r (take i arcs)) (drop i arcs) ↔ ((IsSome (G.price (get_or arcs i d).0 (get_or arcs i d).1) × IsTrue (has (reached_from r (take i arcs)) (get_or arcs i d).0) × IsFalse (has (reached_from r (take i arcs)) (get_or arcs i d).1)) × GrowsIn G (reached_from r (take (i + 1) arcs)) (drop (i + 1) arcs))
grows_next G r arcs i d within =
    rw (drop_more arcs i d within, reached_next r arcs i d within) (first G (reached_from r (take i arcs)) (get_or arcs i d) (drop (i + 1) arcs))
  where
    first : (G : Ground) (r : List ℕ) (arc : ℕ × ℕ) (arcs : List (ℕ × ℕ)) → GrowsIn G r (arc ∷ arcs) ↔ ((IsSome (G.price arc.0 arc.1) × IsTrue (has r arc.0) × IsFalse (has r arc.1)) × GrowsIn G (arc.1 ∷ r) arcs)
    first G r arc arcs = (λ g. ((g.0, g.1, g.2), g.3), λ g. (g.0.0, g.0.1, g.0.2, g.1))
