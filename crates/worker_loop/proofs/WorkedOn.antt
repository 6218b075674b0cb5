-- What a worker does with a node that it claimed.
use Rattle.std.proofs.Common.{◌≡◌, ℕ, Bool, true, false, ◌+◌, ◌<◌, ◌≤◌, min, List, [], ◌∷◌, ◌++◌, length, length-append, Option, Some, None, ◌⊎◌, inl, inr, refl, sym, ap, ◌∙◌, subst, arith}
use Rattle.std.specs.Prelude.{IfSome}
use Rattle.std.specs.List.{sum_by}
use Rattle.std.proofs.lemmas.List.Elements.{All-cons, All-nil}
use Rattle.st_model.specs.declared.split_at.SplitAt.{SplitAt}
use Rattle.st_model.specs.declared.branch.Branch.{Branch}
use Rattle.st_model.specs.declared.tree.Tree.{Tree}
use Rattle.st_model.specs.Branch.{NoneIsCertain}
use Rattle.st_model.specs.Network.{Network, IsInstance}
use Rattle.cut_packing.specs.declared.packing.Packing.{Packing}
use Rattle.cut_packing.specs.Full.{IsFull}
use Rattle.cut_packing.specs.Packing.{weight}
use Rattle.cut_packing.specs.ProofTree.{IsSplitAt}
use Rattle.branching.specs.declared.node.Node.{Node}
use Rattle.branching.specs.Node.{yes_node, no_node}
use Rattle.incumbent.specs.Least.{least_of}
use Rattle.incumbent.specs.Seat.{Known as Sight, having_seen}
use Rattle.incumbent.proofs.Least.{least_append, least_at_start}
use Rattle.open_ledger.specs.Seat.{Known as Account}
use Rattle.node_pool.specs.Pool.{Station, gave, took}
use Rattle.search_core.specs.Needs.{IsFullBelow}
use Rattle.search_core.specs.declared.done.Done.{Done}
use Rattle.search_core.specs.declared.done.Done.TheVariants as recorded
use Rattle.better_trees.specs.Better.{IsBetter, least_after}
use Rattle.better_trees.specs.Part.{IsPartOf}
use Rattle.better_trees.proofs.Found.{reaches_in_whole}
use Rattle.node_work.specs.declared.step.End.TheVariants.{Close}
use Rattle.better_trees.specs.declared.price.Priced.{Priced}
use Rattle.worker_loop.specs.declared.work.Work.{Work}
use Rattle.worker_loop.specs.Progress.{Adopts, AreDrawnBelow, HasSeen, IsClosed, IsHalved, IsWorkedOn, Moment, as_of, half_of, other_of}
use Rattle.worker_loop.specs.Run.{IsFound, IsSplitTask, halves_by}
use Rattle.worker_loop.specs.Sound.{IsSound}
use Rattle.node_work.specs.Step.{IsChoiceAt, IsEnd, SplitsAt}
use Rattle.worker_loop.proofs.Drawing.{drawn_close, drawn_split}
use Rattle.worker_loop.proofs.Parts.{yes_part, no_part}
use Rattle.node_work.proofs.Splits.{writable_halves}

-- what a worker has seen and kept when it saw r and a better tree, if there was one
pub record HasAdopted (I : Network) (R : Branch) (start r : ℕ) (better : Option Priced) (s s' : Sight) (k k' : Work) : Type 0 where
  pub at_most : k'.seen ≤ least_after r better
  pub lower : k'.seen ≤ r
  pub done : k'.done.items ≡ k.done.items
  pub seen : HasSeen I R start s k.best k.seen → HasSeen I R start s' k'.best k'.seen

-- what was seen, if what was kept is the same
seen_same : (I : Network) (R : Branch) (start r : ℕ) (s s' : Sight) (k k' : Work) → r ≤ s.lowest → s' ≡ having_seen s r → k' ≡ record { done = k.done; best = k.best; seen = r }
    → HasSeen I R start s k.best k.seen → HasSeen I R start s' k'.best k'.seen
seen_same I R start r s s' k k' low same kept h =
    let here : HasSeen I R start (having_seen s r) k.best r = record { last = refl; low = omega (arith, low, h.low); offered = h.offered } in
    subst (λ (w : Work). HasSeen I R start s' w.best w.seen) (sym kept) (subst (λ (m : Sight). HasSeen I R start m k.best r) (sym same) here)

-- what was seen and offered with a better tree
seen_better : (I : Network) (R : Branch) (start r : ℕ) (N : Node) (p : Priced) (s : Sight) (best : Option Tree) (seen seen' : ℕ) → IsSound I R N → r ≤ s.lowest → IsBetter I N.branch r p
    → seen' ≤ min r p.price
    → HasSeen I R start s best seen → HasSeen I R start (record { incumbent = s.incumbent; start = s.start; offers = s.offers ++ p.price ∷ []; lowest = seen' }) (Some p.tree) seen'
seen_better I R start r N p s best seen seen' sound low b under h =
    let pushed : least_of start (s.offers ++ p.price ∷ []) ≡ min (least_of start s.offers) (min p.price start) = least_append start s.offers (p.price ∷ []) in
    let first : least_of start s.offers ≤ start = least_at_start start s.offers in
    let found : IsFound I R start p.tree = record {
      tree = b.is_tree;
      reaches = reaches_in_whole R N.branch p.tree sound.part b.reaches;
      cheaper = omega (arith, b.is_price, b.cheaper, low, h.low, first);
    } in
    record {
      last = refl;
      low = lowest _ (least_of start s.offers) p.price start r seen' s.lowest pushed first under b.cheaper low h.low;
      offered = record {
        found = found;
        least = same_least _ (least_of start s.offers) p.price start r _ s.lowest pushed first b.cheaper low h.low b.is_price;
        none = λ nothing. absurd (pushed_some s.offers p.price nothing);
        some = λ no_tree. let no : Some p.tree ≡ None = no_tree in absurd cc;
      };
    }
  where
    pushed_some : (xs : List ℕ) (x : ℕ) → xs ++ x ∷ [] ≡ [] → ⊥
    pushed_some xs x e = let long : length (xs ++ x ∷ []) ≡ 0 = ap (λ (ys : List ℕ). length ys) e in omega (arith, long, length-append xs (x ∷ []))

    lowest : (after before price start r seen' low : ℕ) → after ≡ min before (min price start) → before ≤ start → seen' ≤ min r price → price < r → r ≤ low → low ≤ before → seen' ≤ after
    lowest after before price start r seen' low a b c d e f = omega arith

    same_least : (after before price start r cost low : ℕ) → after ≡ min before (min price start) → before ≤ start → price < r → r ≤ low → low ≤ before → price ≡ cost → after ≡ min cost start
    same_least after before price start r cost low a b c d e f = omega arith

pub adopted : (I : Network) (R : Branch) (start r : ℕ) (N : Node) (s s' : Sight) (k k' : Work) (better : Option Priced) → IsSound I R N → r ≤ s.lowest → IfSome better (IsBetter I N.branch r)
    → Adopts better (having_seen s r) s' (record { done = k.done; best = k.best; seen = r }) k' → HasAdopted I R start r better s s' k k'
adopted I R start r N s s' k k' None sound low h (same, kept) =
    let last : k'.seen ≡ r = ap (λ (w : Work). w.seen) kept in
    record {
      at_most = omega (arith, last);
      lower = omega (arith, last);
      done = ap (λ (w : Work). w.done.items) kept;
      seen = seen_same I R start r s s' k k' low same kept;
    }
adopted I R start r N s s' k k' (Some p) sound low h (offer, under, best, done) = record {
  at_most = omega (arith, under);
  lower = omega (arith, under);
  done = ap (λ w. w.items) done;
  seen = λ had.
      subst (λ (t : Option Tree). HasSeen I R start s' t k'.seen) (sym best)
      (subst (λ (m : Sight). HasSeen I R start m (Some p.tree) k'.seen) (sym offer) (seen_better I R start r N p s k.best k.seen k'.seen sound low h under had));
}

-- what was seen stays so where the seat and the work are the same
still_seen : (I : Network) (R : Branch) (start : ℕ) (s s' : Sight) (best best' : Option Tree) (seen seen' : ℕ) → s' ≡ s → best' ≡ best → seen' ≡ seen → HasSeen I R start s best seen
    → HasSeen I R start s' best' seen'
still_seen I R start s s' best best' seen seen' a b c h = rw (a, b, c) h

-- a node was closed by what a step found
pub closed_on : (I : Network) (R : Branch) (start seat workers r : ℕ) (links : Bool) (N : Node) (q : Station) (u : Account) (s s' : Sight) (next : ℕ) (k k' : Work) (m : Moment) (better : Option Priced)
    (P : Packing) → IsSound I R N
    → r ≤ s.lowest → IfSome better (IsBetter I N.branch r) → IsEnd I N (least_after r better) links (Close P)
    → Adopts better (having_seen s r) s' (record { done = k.done; best = k.best; seen = r }) k' → IsClosed N.id P (as_of q u s' next k') m
    → IsWorkedOn I R start seat workers N (as_of q u s next k) m [] (recorded.Close N.id P)
closed_on I R start seat workers r links N q u s s' next k k' m better P sound low is_better end adopts closed =
    let a = adopted I R start r N s s' k k' better sound low is_better adopts in
    let grown : m.work.done.items ≡ k.done.items ++ recorded.Close N.id P ∷ [] = closed.done ∙ ap (λ (ds : List Done). ds ++ recorded.Close N.id P ∷ []) a.done in
    record {
      task = record {
        sound = sound;
        same = refl;
        done_right = record { closes = record { fits = end.0.fits; weighs = omega (arith, closed.seen, a.at_most, end.0.weighs) }; writable = end.1 };
      };
      records = grown;
      held_sound = All-nil (IsSound I R);
      nodes = λ w. let same : gave w m.pass ≡ gave w q = ap (gave w) closed.pass in let taken : took w m.pass ≡ took w q = ap (took w) closed.pass in balance (gave w q) (gave w m.pass) (took w q)
          (took w m.pass) same taken;
      drawn = λ h.
          subst (λ (n : ℕ). AreDrawnBelow seat workers n m.work.done.items) (sym closed.next)
          (subst (λ (ds : List Done). AreDrawnBelow seat workers next ds) (sym grown) (drawn_close seat workers next N.id k.done.items P h));
      seen = λ h. still_seen I R start s' m.sight k'.best m.work.best k'.seen m.work.seen closed.sight closed.best closed.seen (a.seen h);
      lower = omega (arith, closed.seen, a.lower, low);
      ups = ap (λ (v : Account). v.tally.ups) closed.account ∙ plain u.tally.ups;
      downs = ap (λ (v : Account). v.tally.downs) closed.account;
      granted = ap (λ (v : Account). v.tally.granted) closed.account;
      refused = ap (λ (v : Account). v.tally.refused) closed.account;
      halts = ap (λ (v : Account). v.tally.halts) closed.account;
      why = ap (λ (v : Account). v.why) closed.account;
    }
  where
    balance : (g g' t t' : ℕ) → g' ≡ g → t' ≡ t → g' + t + 0 ≡ g + t' + 0
    balance g g' t t' a b = omega arith

    plain : (a : ℕ) → a ≡ a + 0
    plain a = omega arith

-- the packing with which the halves begin allows the split below the start cost
split_task : (I : Network) (N M : Node) (least start : ℕ) (links : Bool) (at : SplitAt) → least ≤ start → SplitsAt I N least links M at → IsSplitTask I start N at M.packing
split_task I N M least start links at low h = record {
  place = h.split;
  allows = record { fits = subst (λ (B : Branch). Rattle.cut_packing.specs.Packing.Fits I B M.packing) h.same h.node.node.fits; full = by_bound h.bounded };
  packed =
      let there = h.node in
      record {
        node = record {
          branch = subst (λ (B : Branch). Rattle.st_model.specs.Branch.IsBranch I B) h.same there.node.branch;
          required = subst (λ (B : Branch). Rattle.st_model.specs.Branch.LeavesRequired I B) h.same there.node.required;
          fits = subst (λ (B : Branch). Rattle.cut_packing.specs.Packing.Fits I B M.packing) h.same there.node.fits;
        };
        writable = there.writable;
      };
}
  where
    by_bound : ((NoneIsCertain I N.branch × IsChoiceAt I N.branch at) ⊎ (IsFull I M.branch M.packing × (weight I M.branch M.packing < least)))
        → IsFullBelow I N.branch M.packing start ⊎ NoneIsCertain I N.branch
    by_bound (inl none) = inr none.0
    by_bound (inr full) = inl (subst (λ (B : Branch). IsFullBelow I B M.packing start) h.same (record { full = full.0; below = omega (arith, full.1, low) }))

-- the halves that a record tells of are those of the node that was split
same_halves : (B : Branch) (M : Node) (id : ℕ) (at : SplitAt) (i o : ℕ) → M.branch ≡ B → halves_by B (recorded.Split id at i o M.packing) ≡ yes_node M at i ∷ no_node M at o ∷ []
same_halves B M id at i o same = ap (λ (C : Branch). halves_by C (recorded.Split id at i o M.packing)) (sym same)

-- a node whose packing a step made heavier is as sound
pub split_sound : (I : Network) (R : Branch) (N M : Node) (least : ℕ) (links : Bool) (at : SplitAt) → IsSound I R N → SplitsAt I N least links M at → IsSound I R M
split_sound I R N M least links at sound h = record { node = h.node; part = subst (λ (B : Branch). IsPartOf R B) (sym h.same) sound.part }

pub split_there : (I : Network) (N M : Node) (least : ℕ) (links : Bool) (at : SplitAt) → SplitsAt I N least links M at → IsSplitAt I M.branch at
split_there I N M least links at h = subst (λ (B : Branch). IsSplitAt I B at) (sym h.same) h.split

-- the halves of a sound node are sound
pub sound_yes : (I : Network) (R : Branch) (N : Node) (at : SplitAt) (id : ℕ) → IsInstance I → IsSound I R N → IsSplitAt I N.branch at → IsSound I R (yes_node N at id)
sound_yes I R N at id instance sound split = record { node = (writable_halves I N at id id instance sound.node split).0; part = yes_part R N.branch at sound.part }

pub sound_no : (I : Network) (R : Branch) (N : Node) (at : SplitAt) (id : ℕ) → IsInstance I → IsSound I R N → IsSplitAt I N.branch at → IsSound I R (no_node N at id)
sound_no I R N at id instance sound split = record { node = (writable_halves I N at id id instance sound.node split).1; part = no_part R N.branch at sound.part }

least_low : (r : ℕ) (better : Option Priced) (I : Network) (B : Branch) → IfSome better (IsBetter I B r) → least_after r better ≤ r
least_low r None I B h = omega arith
least_low r (Some p) I B h = omega (arith, h.cheaper)

-- the half to go on with is sound
pub sound_half : (I : Network) (R : Branch) (N : Node) (at : SplitAt) (i o : ℕ) (planned : Bool) → IsInstance I → IsSound I R N → IsSplitAt I N.branch at → IsSound I R (half_of planned N at i o)
sound_half I R N at i o true instance sound split = sound_no I R N at o instance sound split
sound_half I R N at i o false instance sound split = sound_yes I R N at i instance sound split

-- however nodes are weighed, both halves weigh as much in either order
both_halves : (w : Node → ℕ) (N : Node) (at : SplitAt) (i o : ℕ) (planned : Bool) → w (half_of planned N at i o) + w (other_of planned N at i o) ≡ w (yes_node N at i) + w (no_node N at o)
both_halves w N at i o true = swapped (w (no_node N at o)) (w (yes_node N at i))
  where
    swapped : (a b : ℕ) → a + b ≡ b + a
    swapped a b = omega arith
both_halves w N at i o false = refl

-- a node was split as a step says
pub split_on : (I : Network) (R : Branch) (start seat workers r : ℕ) (links : Bool) (N M half : Node) (at : SplitAt) (planned : Bool) (q : Station) (u : Account) (s s' : Sight) (next : ℕ) (k k' : Work) (m : Moment)
    (better : Option Priced) → IsInstance I → IsSound I R N
    → r ≤ s.lowest → s.lowest ≤ start → IfSome better (IsBetter I N.branch r) → SplitsAt I N (least_after r better) links M at
    → Adopts better (having_seen s r) s' (record { done = k.done; best = k.best; seen = r }) k' → IsHalved workers N.id M at planned (as_of q u s' next k') m half
    → IsWorkedOn I R start seat workers N (as_of q u s next k) m (half ∷ []) (recorded.Split N.id at next (next + workers) M.packing)
split_on I R start seat workers r links N M half at planned q u s s' next k k' m better instance sound low first is_better end adopts halved =
    let a = adopted I R start r N s s' k k' better sound low is_better adopts in
    let d = recorded.Split N.id at next (next + workers) M.packing in
    let grown : m.work.done.items ≡ k.done.items ++ d ∷ [] = halved.done ∙ ap (λ (ds : List Done). ds ++ d ∷ []) a.done in
    let less : least_after r better ≤ start = omega (arith, least_low r better I N.branch is_better, low, first) in
    let halves_sound : IsSound I R (half_of planned M at next (next + workers)) =
    sound_half I R M at next (next + workers) planned instance (split_sound I R N M (least_after r better) links at sound end) (split_there I N M (least_after r better) links at end) in
    record {
      task = record { sound = sound; same = refl; done_right = split_task I N M (least_after r better) start links at less end };
      records = grown;
      held_sound = All-cons (IsSound I R) half [] (subst (IsSound I R) (sym halved.half_is) halves_sound) (All-nil (IsSound I R));
      nodes = λ w.
          let halves : sum_by w (halves_by N.branch d) ≡ sum_by w (yes_node M at next ∷ no_node M at (next + workers) ∷ []) = ap (sum_by w)
          (same_halves N.branch M N.id at next (next + workers) end.same) in
          let one : sum_by w (half ∷ []) ≡ sum_by w (half_of planned M at next (next + workers) ∷ []) = ap (λ (n : Node). sum_by w (n ∷ [])) halved.half_is in
          balance (gave w q) (gave w m.pass) (took w q) (took w m.pass) _ (w (half_of planned M at next (next + workers))) (w (other_of planned M at next (next + workers)))
          (w (yes_node M at next)) (w (no_node M at (next + workers))) _ (halved.pass w) one (both_halves w M at next (next + workers) planned) halves;
      drawn = λ h.
          subst (λ (n : ℕ). AreDrawnBelow seat workers n m.work.done.items) (sym halved.next)
          (subst (λ (ds : List Done). AreDrawnBelow seat workers (next + workers + workers) ds) (sym grown) (drawn_split seat workers next N.id at k.done.items M.packing h));
      seen = λ h. still_seen I R start s' m.sight k'.best m.work.best k'.seen m.work.seen halved.sight halved.best halved.seen (a.seen h);
      lower = omega (arith, halved.seen, a.lower, low);
      ups = ap (λ (v : Account). v.tally.ups) halved.account;
      downs = ap (λ (v : Account). v.tally.downs) halved.account ∙ plain u.tally.downs;
      granted = ap (λ (v : Account). v.tally.granted) halved.account;
      refused = ap (λ (v : Account). v.tally.refused) halved.account;
      halts = ap (λ (v : Account). v.tally.halts) halved.account;
      why = ap (λ (v : Account). v.why) halved.account;
    }
  where
    balance : (g g' t t' here half other inner outer both : ℕ) → g' + t + 0 ≡ g + t' + (0 + other) → here ≡ 0 + half → half + other ≡ inner + outer → both ≡ 0 + inner + outer → g' + t + here ≡ g + t' + both
    balance g g' t t' here half other inner outer both a b c d = omega arith

    plain : (a : ℕ) → a ≡ a + 0
    plain a = omega arith
