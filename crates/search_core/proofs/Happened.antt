-- What a claim and a split make of the state, in one piece.
use Rattle.std.proofs.Common.{◌≡◌, ℕ, false, [], ◌∷◌, ◌++◌, Option, Some, true, ◌<◌, refl, arith}
use Rattle.std.specs.Prelude.{unwrap_or, option_and_then, nat_lt}
use Rattle.std.proofs.lemmas.Bool.Decides.{nat_tests}
use Rattle.st_model.specs.declared.split_at.SplitAt.{SplitAt}
use Rattle.cut_packing.specs.declared.packing.Packing.{Packing}
use Rattle.branching.specs.Node.{yes_node, no_node}
use Rattle.search_core.specs.declared.done.Done.TheVariants as done
use Rattle.search_core.specs.declared.event.Event.TheVariants.{Split, Claim}
use Rattle.search_core.specs.declared.made.Made.{Made}
use Rattle.search_core.specs.declared.made.Place.TheVariants as place
use Rattle.search_core.specs.State.{State, hand, held, made_as, with_made, changed_at}
use Rattle.search_core.specs.Effects.{after, granted, halves_made, moved, split_into}

abbrev pub inside_made : Made → ℕ → SplitAt → ℕ → Packing → Made
inside_made m w at id P = record { node = yes_node (record m.node { packing = P }) at id; place = place.Hand w; claimed = false }

abbrev pub outside_made : Made → ℕ → SplitAt → ℕ → Packing → Made
outside_made m w at id P = record { node = no_node (record m.node { packing = P }) at id; place = place.Fresh w; claimed = false }

abbrev pub split_state : State → ℕ → SplitAt → ℕ → ℕ → Packing → ℕ → Made → State
split_state S w at i o P id m =
    record S {
      nodes = with_made (S.nodes ++ inside_made m w at i P ∷ outside_made m w at o P ∷ []) id (λ m. record m { place = place.Split });
      workers = changed_at S.workers w (λ x. record x { hand = Some i; up = false; done = x.done ++ done.Split id at i o P ∷ [] });
    }

pub after_split : (S : State) (w : ℕ) (at : SplitAt) (i o : ℕ) (P : Packing) (id : ℕ) (m : Made) → hand S w ≡ Some id → made_as S id ≡ Some m → after S (Split w at i o P) ≡ split_state S w at i o P id m
after_split S w at i o P id m in_hand found =
    by_hand (hand S w) (held S w) in_hand (held_is (hand S w) in_hand)
  where
    held_is : (h : Option ℕ) → h ≡ Some id → option_and_then (made_as S) h ≡ Some m
    held_is h e = rw e found

    by_hand : (h : Option ℕ) (k : Option Made) → h ≡ Some id → k ≡ Some m → moved (split_into S w (halves_made k w at i o P) i (done.Split (unwrap_or h 0) at i o P)) (unwrap_or h 0) place.Split ≡ split_state S w at i o P id m
    by_hand h k e d = rw (e, d) refl

-- below the budget a claim is granted
pub after_claim : (S : State) (w : ℕ) → S.claims < S.budget → after S (Claim w) ≡ granted S w
after_claim S w below = rw (is_below S.claims S.budget below) refl
  where
    is_below : (a b : ℕ) → a < b → nat_lt a b ≡ true
    is_below a b h = grind (arith, nat_tests)
