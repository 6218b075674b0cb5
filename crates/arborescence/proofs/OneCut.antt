-- One cut more round a set without the root: it is laid on the arcs, and the packing still fits.
use Rattle.std.proofs.Common.{◌≡◌, ℕ, ◌+◌, ◌^◌, ◌<◌, ◌≤◌, Bool, true, false, cond, not, ◌&&◌, List, [], ◌∷◌, ◌++◌, length, get_or, map, None, Some, refl, sym, ap, ◌∙◌, arith, inl, inr}
use Rattle.std.specs.Prelude.{◌==◌, IsTrue, IsFalse, All, if◌then◌else◌}
use Rattle.std.proofs.lemmas.Bool.{and_from, cases_Bool}
use Rattle.std.proofs.lemmas.List.{get_or_default}
use Rattle.std.proofs.lemmas.List.Elements.{All-push, All-map}
use Rattle.st_model.specs.declared.branch.Branch.{Branch}
use Rattle.st_model.specs.declared.link.Link.{Link}
use Rattle.st_model.specs.Branch.{certain_in, is_present, open_price}
use Rattle.st_model.specs.Lists.{has, total}
use Rattle.st_model.specs.Made.{has_pair}
use Rattle.st_model.specs.Network.{IsVertex}
use Rattle.st_model.proofs.Marked.{has_at}
use Rattle.st_model.proofs.Sums.{total-append}
use Rattle.cut_packing.specs.declared.arcs.LoadedArc.{LoadedArc}
use Rattle.cut_packing.specs.declared.cut.Cut.{Cut}
use Rattle.cut_packing.specs.Full.{IsSaturatedIn}
use Rattle.cut_packing.specs.Loads.{arcs_into, laid, AreLoadedIn}
use Rattle.cut_packing.specs.Packing.{load, CutFitsIn, FitsIn}
use Rattle.cut_packing.proofs.Judged.{arcs_fit_iff}
use Rattle.cut_packing.proofs.Loaded.{AreLoaded-lay}
use Rattle.arborescence.specs.Ascending.{rooted_packing}
use Rattle.arborescence.specs.DiNetwork.{DiNetwork, IsDiNetwork, arc_from, away_price, di_ground, leads}
use Rattle.arborescence.proofs.DiWeights.{certain_prizes}

-- an arc costs no more than all do
price_most : (ls : List Link) (u v p : ℕ) → arc_from ls u v ≡ Some p → p ≤ total (λ l. l.cost) ls
price_most [] u v p is = absurd (let clash : ⊥ = cc in clash)
price_most (l ∷ ls) u v p is = step (leads l u v) is (price_most ls u v p)
  where
    step : (b : Bool) → cond b (Some l.cost) (arc_from ls u v) ≡ Some p → (arc_from ls u v ≡ Some p → p ≤ total (λ m. m.cost) ls) → p ≤ l.cost + total (λ m. m.cost) ls
    step true e rest = let same : l.cost ≡ p = cc in omega arith
    step false e rest = let less = rest e in omega arith

pub open_most : (D : DiNetwork) (B : Branch) (u v p : ℕ) → open_price (di_ground D) B u v ≡ Some p → p ≤ total (λ l. l.cost) D.arcs
open_most D B u v p is = step (has_pair B.barred u v) (v == D.root) is
  where
    step : (b c : Bool) → cond b None (cond c None (arc_from D.arcs u v)) ≡ Some p → p ≤ total (λ l. l.cost) D.arcs
    step true c e = absurd (let clash : ⊥ = cc in clash)
    step false true e = absurd (let clash : ⊥ = cc in clash)
    step false false e = price_most D.arcs u v p e

-- what the cut lays on an arc
pub load-push : (cuts : List Cut) (c : Cut) (u v : ℕ) → load (cuts ++ c ∷ []) (u, v) ≡ load cuts (u, v) + (if has c.set v && not (has c.set u) then c.y else 0)
load-push cuts c u v = total-append (λ d. if has d.set v && not (has d.set u) then d.y else 0) cuts (c ∷ []) ∙ omega arith

-- an arc of which the tail is in a set if the head is doesn't enter it
pub within_set : (head tail : Bool) → (IsTrue head → IsTrue tail) → IsFalse (head && not tail)
within_set true tail h = rw (h refl) refl
within_set false tail h = refl

-- an arc that it doesn't enter stays saturated
pub saturated_kept : (D : DiNetwork) (B : Branch) (cuts : List Cut) (c : Cut) (u v : ℕ) → IsFalse (has c.set v && not (has c.set u)) → IsSaturatedIn (di_ground D) B (rooted_packing D cuts) u v → IsSaturatedIn (di_ground D) B (rooted_packing D (cuts ++ c ∷ [])) u v
saturated_kept D B cuts c u v out used = record { tail = used.tail; head = used.head; used = used.used ∙ ap Some (sym same) }
  where
    same : load (cuts ++ c ∷ []) (u, v) ≡ load cuts (u, v)
    same = rw (load-push cuts c u v, out) (omega arith)

module _ (D : DiNetwork) (B : Branch) (cuts : List Cut) (arcs : List (List LoadedArc)) (loaded : AreLoadedIn (di_ground D) B (away_price D) cuts arcs) (fits : FitsIn (di_ground D) B (rooted_packing D cuts)) where
  -- arcs that fit bear at most what they cost
  pub all_bear : All (All (λ arc. arc.load ≤ arc.cost)) arcs
  all_bear = (arcs_fit_iff (di_ground D) B cuts arcs loaded).1 fits.arcs

  -- so what more is laid on one is small
  pub room_left : (y v : ℕ) → IsDiNetwork D → y < 2 ^ 64 → All (λ arc. arc.load + y < 2 ^ 128) (arcs_into arcs v)
  room_left y v net small = λ k d below.
      let one = loaded.sound v k d below in
      let most = open_most D B (get_or (arcs_into arcs v) k d).tail v (get_or (arcs_into arcs v) k d).cost one.cost in
      let fit = rw one.cost at (fits.arcs (get_or (arcs_into arcs v) k d).tail v one.tail one.head) in
      let all = net.amount in
      omega (arith, one.load)

  module _ (arcs' : List (List LoadedArc)) (members : List ℕ) (c : Cut)
      (vertices : (v : ℕ) → IsTrue (has members v) → IsVertex D.n v) (away : IsFalse (has members D.root)) (member : IsTrue (has members c.q)) (present : IsTrue (is_present B c.q)) (certain : IsTrue (certain_in (di_ground D) B c.q))
      (borne : (v : ℕ) → IsTrue (has members v) → All (λ arc. IsFalse (has members arc.tail) → arc.load + c.y ≤ arc.cost) (arcs_into arcs v))
      (same : (v : ℕ) → has c.set v ≡ has members v) (long : length arcs' ≡ length arcs)
      (lays : (v : ℕ) → arcs_into arcs' v ≡ (if has members v then map (laid members c.y) (arcs_into arcs v) else arcs_into arcs v)) where
    pub cut_laid : AreLoadedIn (di_ground D) B (away_price D) (cuts ++ c ∷ []) arcs'
    cut_laid = AreLoaded-lay (di_ground D) B (away_price D) cuts c members arcs arcs' (λ v below. sym (same v)) long lays loaded

    pub set_vertices : All (IsVertex D.n) c.set
    set_vertices = λ k d below. vertices (get_or c.set k d) (sym (same (get_or c.set k d)) ∙ has_at c.set k d below)

    cut_fits : CutFitsIn (di_ground D) B c
    cut_fits = record { in_range = set_vertices; member = same c.q ∙ member; present = and_from (is_present B c.q) (certain_in (di_ground D) B c.q) present certain }

    cuts_fit : All (CutFitsIn (di_ground D) B) (cuts ++ c ∷ [])
    cuts_fit = All-push (CutFitsIn (di_ground D) B) cuts c fits.cuts cut_fits

    bears : (v : ℕ) → v < length arcs → All (λ arc. arc.load ≤ arc.cost) (arcs_into arcs' v)
    bears v below = elim (cases_Bool (has members v)) [
      | inl inside ↦ rw (lays v, inside) (All-map (λ arc. arc.load ≤ arc.cost) (laid members c.y) (arcs_into arcs v) (λ k d within. one (get_or (arcs_into arcs v) k d) (borne v inside k d within) (all_bear v [] below k d within)))
      | inr outside ↦ rw (lays v, outside) (all_bear v [] below)
    ]
      where
        one : (a : LoadedArc) → (IsFalse (has members a.tail) → a.load + c.y ≤ a.cost) → a.load ≤ a.cost → (laid members c.y a).load ≤ (laid members c.y a).cost
        one a room before = elim (cases_Bool (has members a.tail)) [
          | inl inside ↦ rw inside before
          | inr outside ↦ rw outside (room outside)
        ]

    pub fits_more : FitsIn (di_ground D) B (rooted_packing D (cuts ++ c ∷ []))
    fits_more = record {
      root = record {
        vertex = fits.root.vertex;
        certain = fits.root.certain;
        same = fits.root.same;
        apart = All-push (λ d. IsFalse (has d.set D.root)) cuts c fits.root.apart (same D.root ∙ away);
      };
      cuts = cuts_fit;
      arcs = (arcs_fit_iff (di_ground D) B (cuts ++ c ∷ []) arcs' cut_laid).0 (λ k d below. rw (get_or_default arcs' k d [] below) (bears k (omega (arith, long))));
      prizes = certain_prizes D B (cuts ++ c ∷ []) cuts_fit;
    }
