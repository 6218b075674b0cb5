-- A vertex between two others goes, and they are linked.
use Rattle.std.proofs.Common.{◌≡◌, ◌≢◌, ℕ, ◌+◌, ◌≤◌, Bool, true, false, cond, min, ◌-◌, ◌||◌, List, [], ◌∷◌, set, is_some, Option, Some, None, refl, sym, ap, ◌∙◌, arith, inl, inr}
use Rattle.std.specs.Prelude.{◌==◌, unwrap_or}
use Rattle.std.proofs.lemmas.Bool.Decides.{nat_tests}
use Rattle.st_model.specs.declared.link.Link.{Link}
use Rattle.st_model.specs.Lists.{total}
use Rattle.st_model.specs.Made.{is_between}
use Rattle.st_model.specs.Network.{amount, joins, link}
use Rattle.st_model.proofs.Distinct.{joins-ends}
use Rattle.graph_store.specs.Changes.{RemovesVertex, are_ends, with_link, with_link_cost}
use Rattle.graph_store.specs.Graph.{Graph, IsGraph}
use Rattle.graph_store.proofs.Costs.{link-put_link, link-set_cost}
use Rattle.lift_back.specs.declared.rest.Rest.{Rest}
use Rattle.lift_back.specs.State.{State, IsState}
use Rattle.lift_back.specs.Steps.{IsThrough, links_past, least}
use Rattle.lift_back.specs.Keeping.{state_of}
use Rattle.lift_back.proofs.Along.{itself}
use Rattle.lift_back.proofs.Idle.{GoesIdle}
use Rattle.lift_back.proofs.PairLinks.{between_are}
use Rattle.lift_back.proofs.ThroughTrees.{neighbour_stays}

-- a link costs no more than all links
link_fits : (ls : List Link) (u w x : ℕ) → link ls u w ≡ Some x → x ≤ total (λ l. l.cost) ls
link_fits [] u w x h = cc
link_fits (l ∷ ls) u w x h = by_test (joins l u w) h (link_fits ls u w x)
  where
    by_test : (b : Bool) → cond b (Some l.cost) (link ls u w) ≡ Some x → (link ls u w ≡ Some x → x ≤ total (λ l. l.cost) ls) → x ≤ l.cost + total (λ l. l.cost) ls
    by_test true h rest = let e : l.cost ≡ x = cc in omega arith
    by_test false h rest = let less = rest h in omega arith

-- nor do two of them
pub two_fit : (ls : List Link) (v a b x y : ℕ) → a ≢ b → link ls v a ≡ Some x → link ls v b ≡ Some y → x + y ≤ total (λ l. l.cost) ls
two_fit [] v a b x y apart first second = cc
two_fit (l ∷ ls) v a b x y apart first second = by_test (joins l v a) (joins l v b) refl refl first second (two_fit ls v a b x y apart)
  where
    clash : joins l v a ≡ true → joins l v b ≡ true → ⊥
    clash ha hb = elim (joins-ends l v a ha) [
      | inl e ↦ elim (joins-ends l v b hb) [ inl f ↦ apart (sym e.1 ∙ f.1) | inr f ↦ apart ((sym e.1 ∙ f.1) ∙ (sym e.0 ∙ f.0)) ]
      | inr e ↦ elim (joins-ends l v b hb) [ inl f ↦ apart ((sym e.0 ∙ f.0) ∙ (sym e.1 ∙ f.1)) | inr f ↦ apart (sym e.0 ∙ f.0) ]
    ]

    by_test : (p q : Bool) → joins l v a ≡ p → joins l v b ≡ q → cond p (Some l.cost) (link ls v a) ≡ Some x → cond q (Some l.cost) (link ls v b) ≡ Some y → (link ls v a ≡ Some x → link ls v b ≡ Some y → x + y ≤ total (λ l. l.cost) ls) → x + y ≤ l.cost + total (λ l. l.cost) ls
    by_test true true p_is q_is f s rest = absurd (clash p_is q_is)
    by_test true false p_is q_is f s rest = let e : l.cost ≡ x = cc in let less = link_fits ls v b y s in omega arith
    by_test false true p_is q_is f s rest = let e : l.cost ≡ y = cc in let less = link_fits ls v a x f in omega arith
    by_test false false p_is q_is f s rest = let less = rest f s in omega arith

-- an end of a link of v is another vertex
pub through_apart : (s : State) (v a b x y : ℕ) → IsState s → IsThrough s v a b x y → ((a == v) ≡ false) × ((b == v) ≡ false)
through_apart s v a b x y state through = ((neighbour_stays s v a state (rw through.first refl)).0, (neighbour_stays s v b state (rw through.second refl)).0)

-- v is no end of a pair of a and b
not_between : (v a b w : ℕ) → (a == v) ≡ false → (b == v) ≡ false → is_between (a, b) v w ≡ false
not_between v a b w a_other b_other = grind (arith, nat_tests)

-- v goes once a and b are linked at no cost, and they are linked at this cost then
module _ (old : Rest) (g h : Graph) (v a b x y : ℕ) (state : IsState (state_of old)) (through : IsThrough (state_of old) v a b x y) (put : g ≡ with_link old.store a b 0) (removes : RemovesVertex g h v) where
  -- the links once a and b are linked
  put_at : (u w : ℕ) → link g.network.links u w ≡ cond (is_between (a, b) u w) (Some 0) (link old.store.network.links u w)
  put_at u w =
      let free : min (unwrap_or (link old.store.network.links a b) 0) 0 ≡ 0 = omega arith in
      ap (λ (k : Graph). link k.network.links u w) put ∙ (link-put_link old.store.network.links a b 0 u w ∙ (λ j. cond (between_are a b u w j) (Some (free j)) (link old.store.network.links u w)))

  -- those of v are as they were
  pub first_still : link g.network.links v a ≡ Some x
  first_still = let apart = through_apart (state_of old) v a b x y state through in put_at v a ∙ (rw (not_between v a b a apart.0 apart.1) refl ∙ through.first)

  pub second_still : link g.network.links v b ≡ Some y
  second_still = let apart = through_apart (state_of old) v a b x y state through in put_at v b ∙ (rw (not_between v a b b apart.0 apart.1) refl ∙ through.second)

  -- once v is out the new link is still there
  pub free_link : link h.network.links a b ≡ Some 0
  free_link =
      let apart = through_apart (state_of old) v a b x y state through in
      removes.links a b ∙ (rw (apart.0, apart.1) refl ∙ (put_at a b ∙ ap (λ p. cond p (Some 0) (link old.store.network.links a b)) (itself (a, b))))

  -- and once it has its cost all are as they should be
  pub past_links : (cost u w : ℕ) → cost ≡ least (state_of old) a b (x + y) → cond (are_ends a b u w) (Some cost) (link h.network.links u w) ≡ links_past (state_of old) v a b (x + y) u w
  past_links cost u w is =
      ap (λ p. cond p (Some cost) (link h.network.links u w)) (between_are a b u w)
      ∙ (ap (λ c. cond (is_between (a, b) u w) (Some c) (link h.network.links u w)) is
      ∙ (ap (cond (is_between (a, b) u w) (Some (least (state_of old) a b (x + y)))) (removes.links u w ∙ ap (cond ((u == v) || (w == v)) None) (put_at u w))
      ∙ hidden (is_between (a, b) u w) ((u == v) || (w == v)) (Some (least (state_of old) a b (x + y))) (Some 0) (link old.store.network.links u w)))
    where
      hidden : (p q : Bool) (new middle before : Option ℕ) → cond p new (cond q None (cond p middle before)) ≡ cond p new (cond q None before)
      hidden true q new middle before = refl
      hidden false q new middle before = refl

-- v went between a and b: they are linked at no cost (g), it is removed (h), and they are linked at this cost
pub record Passes (old new : Rest) (g h : Graph) (v a b x y cost : ℕ) : Type 0 where
  pub put : g ≡ with_link old.store a b 0
  pub put_amount : amount g.network ≤ amount old.store.network + 0
  pub removes : RemovesVertex g h v
  pub removed_amount : amount h.network + unwrap_or (link g.network.links v a) 0 + unwrap_or (link g.network.links v b) 0 ≤ amount g.network
  pub costs : cost ≡ least (state_of old) a b (x + y)
  pub linked : new.store ≡ with_link_cost h a b cost
  pub graph : IsGraph new.store
  pub amount : amount new.store.network + unwrap_or (link h.network.links a b) 0 ≡ amount h.network + cost
  pub left : new.left + 1 ≡ old.left
  pub required : new.required ≡ old.required
  pub offset : new.offset ≡ old.offset

-- the cost has room before the link has it
pub cost_fits : (old : Rest) (g h : Graph) (v a b x y cost : ℕ) → IsState (state_of old) → IsThrough (state_of old) v a b x y → g ≡ with_link old.store a b 0 → amount g.network ≤ amount old.store.network + 0 → RemovesVertex g h v
    → amount h.network + unwrap_or (link g.network.links v a) 0 + unwrap_or (link g.network.links v b) 0 ≤ amount g.network → cost ≡ least (state_of old) a b (x + y) → amount h.network + cost ≤ amount old.store.network
cost_fits old g h v a b x y cost state through put put_amount removes removed_amount costs =
    let first : unwrap_or (link g.network.links v a) 0 ≡ x = ap (λ o. unwrap_or o 0) (first_still old g h v a b x y state through put removes) in
    let second : unwrap_or (link g.network.links v b) 0 ≡ y = ap (λ o. unwrap_or o 0) (second_still old g h v a b x y state through put removes) in
    omega arith

pub passes_idle : (old new : Rest) (g h : Graph) (v a b x y cost : ℕ) → IsState (state_of old) → IsThrough (state_of old) v a b x y → Passes old new g h v a b x y cost → GoesIdle old new v
passes_idle old new g h v a b x y cost state through passes = record {
  graph = passes.graph;
  count = ap (λ (k : Graph). k.network.n) passes.linked ∙ (passes.removes.count ∙ ap (λ (k : Graph). k.network.n) passes.put);
  needs = ap (λ (k : Graph). k.network.needs) passes.linked ∙ (passes.removes.needs ∙ ap (λ (k : Graph). k.network.needs) passes.put);
  present = ap (λ (k : Graph). k.present) passes.linked ∙ (passes.removes.present ∙ ap (λ (k : Graph). set k.present (v - 1) false) passes.put);
  left = passes.left;
  required = passes.required;
  offset = passes.offset;
  amount =
      let fits = cost_fits old g h v a b x y cost state through passes.put passes.put_amount passes.removes passes.removed_amount passes.costs in
      let all = passes.amount in
      omega arith;
}

pub passes_links : (old new : Rest) (g h : Graph) (v a b x y cost u w : ℕ) → IsState (state_of old) → IsThrough (state_of old) v a b x y → Passes old new g h v a b x y cost → link new.store.network.links u w ≡ links_past (state_of old) v a b (x + y) u w
passes_links old new g h v a b x y cost u w state through passes =
    ap (λ (k : Graph). link k.network.links u w) passes.linked
    ∙ (link-set_cost h.network.links a b cost u w (ap is_some (free_link old g h v a b x y state through passes.put passes.removes))
    ∙ past_links old g h v a b x y state through passes.put passes.removes cost u w passes.costs)
