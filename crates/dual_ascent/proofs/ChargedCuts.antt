-- What is left where cuts take something, one after another.
use Rattle.std.proofs.Common.{◌≡◌, ◌≢◌, ℕ, ◌+◌, ◌-◌, ◌<◌, ◌≤◌, List, [], ◌++◌, length, get_or, take, drop, Option, Some, None, inl, inr, refl, sym, ap, ◌∙◌, arith, take-append-drop}
use Rattle.std.specs.Prelude.{◌==◌, ◌&&◌, not, if◌then◌else◌}
use Rattle.std.specs.Option.{option_map}
use Rattle.std.proofs.lemmas.Bool.{eq-eqb}
use Rattle.st_model.specs.Lists.{has, total}
use Rattle.st_model.proofs.Sums.{total-append}
use Rattle.bidirected_form.specs.declared.kind.VertexKind.TheVariants.{Must}
use Rattle.bidirected_form.specs.Digraph.{Digraph, kind_of, remaining}
use Rattle.bidirected_form.specs.Entering.{enters, CanBear}
use Rattle.prize_transform.specs.Twins.{Ends, left_of, prize_for}
use Rattle.cut_packing.specs.declared.cut.Cut.{Cut}
use Rattle.cut_packing.specs.Packing.{load, named}
use Rattle.st_model.proofs.Costs.{total_more}
use Rattle.dual_ascent.specs.Left.{AreEndsOf, AreBorne, AreLowered, AreSpent}
use Rattle.dual_ascent.specs.Raises.{IsRaisable}

-- what cuts lay on an arc, one list after another
pub load-append : (xs ys : List Cut) (arc : ℕ × ℕ) → load (xs ++ ys) arc ≡ load xs arc + load ys arc
load-append xs ys arc = total-append (λ c. if has c.set arc.1 && not (has c.set arc.0) then c.y else 0) xs ys

-- what they take of a prize
pub named-append : (xs ys : List Cut) (q : ℕ) → named (xs ++ ys) q ≡ named xs q + named ys q
named-append xs ys q = total-append (λ c. if c.q == q then c.y else 0) xs ys

-- no cuts take nothing
pub AreLowered-none : (D : Digraph) → AreLowered D D []
AreLowered-none D = record { root = refl; count = refl; kinds = refl; neighbours = λ v. refl; remaining = λ u v. whole (remaining D u v) }
  where
    whole : (o : Option ℕ) → o ≡ option_map (λ r. r - 0) o
    whole None = refl
    whole (Some r) = let same : r ≡ r - 0 = omega arith in ap Some same

pub AreSpent-none : (E : Ends) → AreSpent E E []
AreSpent-none E = record { count = refl; ends = refl; left = λ v. omega arith }

-- what is left of an arc after cuts and others after them
pub lowered_twice : (xs ys : List Cut) (arc : ℕ × ℕ) (o : Option ℕ) → option_map (λ r. r - load ys arc) (option_map (λ r. r - load xs arc) o) ≡ option_map (λ r. r - load (xs ++ ys) arc) o
lowered_twice xs ys arc None = refl
lowered_twice xs ys arc (Some r) =
    let same : r - load xs arc - load ys arc ≡ r - load (xs ++ ys) arc = omega (arith, load-append xs ys arc) in
    ap Some same

-- cuts after others take what both take
pub AreLowered-append : (D D' D'' : Digraph) (xs ys : List Cut) → AreLowered D D' xs → AreLowered D' D'' ys → AreLowered D D'' (xs ++ ys)
AreLowered-append D D' D'' xs ys first next = record {
  root = next.root ∙ first.root;
  count = next.count ∙ first.count;
  kinds = next.kinds ∙ first.kinds;
  neighbours = λ v. next.neighbours v ∙ first.neighbours v;
  remaining = λ u v. next.remaining u v ∙ ap (option_map (λ r. r - load ys (u, v))) (first.remaining u v) ∙ lowered_twice xs ys (u, v) (remaining D u v);
}

pub AreSpent-append : (E E' E'' : Ends) (xs ys : List Cut) → AreSpent E E' xs → AreSpent E' E'' ys → AreSpent E E'' (xs ++ ys)
AreSpent-append E E' E'' xs ys first next = record {
  count = next.count ∙ first.count;
  ends = next.ends ∙ first.ends;
  left = λ v. omega (arith, next.left v, first.left v, named-append xs ys v);
}

-- what there was before something was taken
pub before_taking : (o : Option ℕ) (less r : ℕ) → option_map (λ s. s - less) o ≡ Some r → (s : ℕ) × (o ≡ Some s) × (s - less ≡ r)
before_taking None less r e = absurd (let clash : ⊥ = cc in clash)
before_taking (Some s) less r e = (s, refl, let rest : s - less ≡ r = cc in rest)

-- cuts leave each vertex what it is
pub kinds_kept : (D D' : Digraph) (cuts : List Cut) → AreLowered D D' cuts → (v : ℕ) → kind_of D' v ≡ kind_of D v
kinds_kept D D' cuts lowered v = rw lowered.kinds refl

-- the ends are still those of the vertices that may be left out
pub ends_after : (D D' : Digraph) (E E' : Ends) (cuts : List Cut) → AreLowered D D' cuts → AreSpent E E' cuts → AreEndsOf D E → AreEndsOf D' E'
ends_after D D' E E' cuts lowered spent ends = record {
  count = spent.count ∙ ends.count ∙ sym lowered.count;
  ends = rw (lowered.count, lowered.kinds) (spent.ends ∙ ends.ends);
  within = λ v. omega (arith, spent.left v, ends.within v, ap prize_for (kinds_kept D D' cuts lowered v));
}

-- what is raisable over what they leave is raisable after them
pub raisable_after : (D D' : Digraph) (E E' : Ends) (cuts : List Cut) → AreLowered D D' cuts → AreSpent E E' cuts → (v : ℕ) → IsRaisable D' E' [] v → IsRaisable D E cuts v
raisable_after D D' E E' cuts lowered spent v (inl must) = inl (sym (kinds_kept D D' cuts lowered v) ∙ must)
raisable_after D D' E E' cuts lowered spent v (inr left) = inr (omega (arith, left, spent.left v))

-- what has something left of its prize needn't be reached
pub left_free : (D : Digraph) (E : Ends) (v : ℕ) → AreEndsOf D E → 0 < left_of E v → kind_of D v ≢ Must
left_free D E v ends some must = omega (arith, some, ends.within v, ap prize_for must)

-- a part of the cuts and one more take no more than all
total_take : (f : Cut → ℕ) (cuts : List Cut) (i : ℕ) (d : Cut) → i < length cuts → total f (take i cuts) + f (get_or cuts i d) ≤ total f cuts
total_take f cuts i d below =
    let parts = ap (total f) (take-append-drop (i + 1) cuts) in
    omega (arith, total_more f cuts i d below, parts, total-append f (take (i + 1) cuts) (drop (i + 1) cuts))

-- of cuts that can be borne, the next one
module _ (D D' : Digraph) (E E' : Ends) (cuts : List Cut) (i : ℕ) (c : Cut) (below : i < length cuts) (is : c ≡ get_or cuts i c) (ends : AreEndsOf D E) (borne : AreBorne D E cuts) (lowered : AreLowered D D' (take i cuts)) (spent : AreSpent E E' (take i cuts)) where
  pub next_enough : CanBear D' c.set c.y
  next_enough u v r enter left =
      let before = before_taking (remaining D u v) (load (take i cuts) (u, v)) r (sym (lowered.remaining u v) ∙ left) in
      let f : Cut → ℕ = λ d. if enters d.set u v then d.y else 0 in
      let one : f c ≡ c.y = rw enter refl in
      omega (arith, before.2, total_take f cuts i c below, ap f is, one, borne.arcs u v before.0 before.1)

  pub next_prize : 0 < left_of E' c.q → c.y ≤ left_of E' c.q
  next_prize some =
      let free = left_free D E c.q ends (omega (arith, some, spent.left c.q)) in
      let f : Cut → ℕ = λ d. if d.q == c.q then d.y else 0 in
      let one : f c ≡ c.y = rw (eq-eqb c.q c.q refl) refl in
      omega (arith, spent.left c.q, total_take f cuts i c below, ap f is, one, borne.prizes c.q free)
