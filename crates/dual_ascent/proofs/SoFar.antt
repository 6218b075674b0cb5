-- One raise more, over what the cuts so far leave.
use Rattle.std.proofs.Common.{◌≡◌, ℕ, ◌+◌, ◌-◌, ◌^◌, ◌<◌, ◌≤◌, List, [], ◌∷◌, ◌++◌, length, Some, ◌⊎◌, inl, inr, sym, ap, ◌∙◌, subst, arith}
use Rattle.std.specs.Prelude.{IsFalse}
use Rattle.std.specs.Option.{option_map}
use Rattle.std.proofs.lemmas.List.{length_push}
use Rattle.st_model.specs.Lists.{has}
use Rattle.st_model.specs.Branch.{IsVertexSet}
use Rattle.st_model.proofs.Sums.{total-append}
use Rattle.bidirected_form.specs.Digraph.{Digraph, kind_of, remaining}
use Rattle.prize_transform.specs.Twins.{Ends}
use Rattle.cut_packing.specs.declared.cut.Cut.{Cut}
use Rattle.cut_packing.specs.Packing.{load}
use Rattle.cut_packing.specs.declared.packing.Packing.{Packing}
use Rattle.dual_ascent.specs.declared.ascent.Ascent.TheVariants.{Full, Reached}
use Rattle.dual_ascent.specs.Ascent.{IsAscent, IsAscended, ReachesAll}
use Rattle.dual_ascent.specs.Left.{AreLowered, AreSpent, raised}
use Rattle.dual_ascent.specs.Raises.{IsSaturated, Reaches, IsRaisable, UsesUpAnArc, ReachesTarget, SpendsThePrize, IsLeast, IsRaise, AreRaises}
use Rattle.dual_ascent.proofs.ChargedCuts.{AreLowered-none, AreLowered-append, AreSpent-none, AreSpent-append, before_taking, kinds_kept, raisable_after}
use Rattle.dual_ascent.proofs.Raised.{nil_apart, raises_load, raises_push}
use Rattle.dual_ascent.proofs.Reaching.{reaches_over}

-- cuts that are raises, what they leave of arcs and prizes, and of the target
pub record AreSoFar (D D' : Digraph) (E E' : Ends) (target room : ℕ) (cuts : List Cut) : Type 0 where
  pub raises : AreRaises D E target cuts
  pub arcs : AreLowered D D' cuts
  pub ends : AreSpent E E' cuts
  pub sum : raised cuts + room ≡ target
  pub few : length cuts ≤ raised cuts

-- none so far
pub none_so_far : (D : Digraph) (E : Ends) (target : ℕ) → AreSoFar D D E E target target []
none_so_far D E target = record {
  raises = λ before c after e. absurd (nil_apart before c after e);
  arcs = AreLowered-none D;
  ends = AreSpent-none E;
  sum = omega arith;
  few = omega arith;
}

module _ (D D' : Digraph) (E E' : Ends) (target room : ℕ) (cuts : List Cut) (h : AreSoFar D D' E E' target room cuts) where
  -- what remains of an arc, before the cuts and after them
  left_is : (u v r : ℕ) → remaining D u v ≡ Some r → remaining D' u v ≡ Some (r - load cuts (u, v))
  left_is u v r is = h.arcs.remaining u v ∙ ap (option_map (λ r. r - load cuts (u, v))) is

  before_is : (u v r : ℕ) → remaining D' u v ≡ Some r → remaining D u v ≡ Some (load cuts (u, v) + r)
  before_is u v r is =
      let before = before_taking (remaining D u v) (load cuts (u, v)) r (sym (h.arcs.remaining u v) ∙ is) in
      before.1 ∙ ap Some (omega (arith, before.2, raises_load D E target cuts h.raises u v before.0 before.1))

  -- nothing is left of an arc where the cuts take all of it
  pub used_before : (u v : ℕ) → IsSaturated D' [] u v → IsSaturated D cuts u v
  used_before u v is = before_is u v 0 is ∙ ap Some (omega arith)

  pub used_now : (u v : ℕ) → IsSaturated D cuts u v → IsSaturated D' [] u v
  used_now u v is = left_is u v (load cuts (u, v)) is ∙ ap Some (omega arith)

  kinds_same : (v : ℕ) → kind_of D' v ≡ kind_of D v
  kinds_same = kinds_kept D D' cuts h.arcs

  -- a vertex that is raisable after the cuts is raisable over what they leave
  pub open_now : (v : ℕ) → IsRaisable D E cuts v → IsRaisable D' E' [] v
  open_now v (inl must) = inl (kinds_same v ∙ must)
  open_now v (inr left) = inr (omega (arith, left, h.ends.left v))

  -- a raise over what the cuts leave is a raise after them
  least_after : (c : Cut) → 0 < c.y → IsLeast D' E' room [] c → IsLeast D E target cuts c
  least_after c positive l = record {
    arcs = λ u v r entering is. omega (arith, l.arcs u v (r - load cuts (u, v)) entering (left_is u v r is), positive);
    room = omega (arith, l.room, h.sum);
    prize = λ may. omega (arith, positive, l.prize (λ must. may (sym (kinds_same c.q) ∙ must)), h.ends.left c.q);
    attained = by_case l.attained;
  }
    where
      by_case : UsesUpAnArc D' [] c ⊎ ReachesTarget room [] c ⊎ SpendsThePrize D' E' [] c → UsesUpAnArc D cuts c ⊎ ReachesTarget target cuts c ⊎ SpendsThePrize D E cuts c
      by_case (inl arc) = inl (record { tail = arc.tail; head = arc.head; entering = arc.entering; used = before_is arc.tail arc.head c.y (arc.used ∙ ap Some (omega arith)) })
      by_case (inr (inl all)) = inr (inl (omega (arith, all, h.sum)))
      by_case (inr (inr spent)) = inr (inr (λ must. spent.0 (kinds_same c.q ∙ must), omega (arith, positive, spent.1, h.ends.left c.q)))

  pub raise_after : (c : Cut) → IsRaise D' E' room [] c → IsRaise D E target cuts c
  raise_after c r = record {
    raisable = raisable_after D D' E E' cuts h.arcs h.ends c.q r.raisable;
    set = subst (λ (n : ℕ). IsVertexSet n c.set) h.arcs.count r.set;
    exact = λ v. (λ held. reaches_over D' D [] cuts used_before c.q v ((r.exact v).0 held), λ reaching. (r.exact v).1 (reaches_over D D' cuts [] used_now c.q v reaching));
    apart = subst (λ (root : ℕ). IsFalse (has c.set root)) h.arcs.root r.apart;
    positive = r.positive;
    least = least_after c r.positive r.least;
  }

  ascended : (P : Packing) → P ≡ record { root = Some D'.root; cuts = cuts } → target < 2 ^ 64 → IsAscended D D' E E' target P
  ascended P is small = rw is (record {
    root = ap Some h.arcs.root;
    cuts = h.raises;
    few = omega (arith, h.few, h.sum, small);
    arcs = h.arcs;
    ends = h.ends;
  })

  -- the target is reached
  pub ends_reached : (P : Packing) → P ≡ record { root = Some D'.root; cuts = cuts } → target < 2 ^ 64 → room ≤ 0 → IsAscent D D' E E' target (Reached P)
  ends_reached P is small none = (ascended P is small, omega (arith, h.sum, none, ap (λ (p : Packing). raised p.cuts) is))

  -- it isn't, and over what is left the root reaches each vertex that is raisable
  pub ends_full : (P : Packing) → P ≡ record { root = Some D'.root; cuts = cuts } → target < 2 ^ 64 → 0 < room → ((v : ℕ) → IsRaisable D' E' [] v → Reaches D' [] v D'.root) → IsAscent D D' E E' target (Full P)
  ends_full P is small some all = (ascended P is small, omega (arith, h.sum, some, ap (λ (p : Packing). raised p.cuts) is), subst (λ (p : Packing). ReachesAll D E p.cuts) (sym is) all_before)
    where
      all_before : ReachesAll D E cuts
      all_before v open_at = subst (Reaches D cuts v) h.arcs.root (reaches_over D' D [] cuts used_before v D'.root (all v (open_now v open_at)))

  -- so the cuts with that one more are raises too, if arcs and prizes fall by it
  pub one_more : (D'' : Digraph) (E'' : Ends) (c : Cut) → IsRaise D' E' room [] c → AreLowered D' D'' (c ∷ []) → AreSpent E' E'' (c ∷ []) → AreSoFar D D'' E E'' target (room - c.y) (cuts ++ c ∷ [])
  one_more D'' E'' c r lowered spent = record {
    raises = raises_push D E target cuts c h.raises (raise_after c r);
    arcs = AreLowered-append D D' D'' cuts (c ∷ []) h.arcs lowered;
    ends = AreSpent-append E E' E'' cuts (c ∷ []) h.ends spent;
    sum = omega (arith, more, h.sum, r.least.room);
    few = omega (arith, more, length_push cuts c, h.few, r.positive);
  }
    where
      more : raised (cuts ++ c ∷ []) ≡ raised cuts + c.y
      more = omega (arith, total-append (λ (d : Cut). d.y) cuts (c ∷ []))
