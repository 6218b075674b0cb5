-- One cut more round what leads to a vertex: the packing still fits, and what was reached still is.
use Rattle.std.proofs.Common.{◌≡◌, ℕ, ◌+◌, ◌≤◌, false, not, ◌&&◌, [], ◌∷◌, ◌++◌, length, map, refl, sym, ap, ◌∙◌, arith, append_assoc, inl, inr}
use Rattle.std.specs.Prelude.{IsTrue, IsFalse, All, if◌then◌else◌}
use Rattle.std.specs.List.Sorted.{IsStrictlyIncreasing}
use Rattle.std.proofs.lemmas.Bool.{cases_Bool}
use Rattle.std.proofs.lemmas.List.{append-nil}
use Rattle.std.proofs.lemmas.List.Elements.{All-nil, All-cons, All-append}
use Rattle.st_model.specs.declared.branch.Branch.{Branch}
use Rattle.st_model.specs.Branch.{IsVertexSet, certain_in, is_present}
use Rattle.st_model.specs.Led.{AreLed}
use Rattle.st_model.specs.Lists.{has}
use Rattle.st_model.specs.Network.{IsVertex}
use Rattle.st_model.proofs.Sums.{total-append}
use Rattle.cut_packing.specs.declared.cut.Cut.{Cut}
use Rattle.cut_packing.specs.Full.{IsSaturatedIn, IsReachedIn, here, there}
use Rattle.cut_packing.specs.Loads.{arcs_into, laid, AreLoadedIn}
use Rattle.cut_packing.specs.Packing.{FitsIn}
use Rattle.arborescence.specs.declared.raising.Raising.{Raising}
use Rattle.arborescence.specs.Ascending.{raised_packing, IsRaising, HasRaised}
use Rattle.arborescence.specs.DiNetwork.{DiNetwork, IsDiNetwork, away_price, di_ground}
use Rattle.arborescence.specs.Gathering.{used_into}
use Rattle.arborescence.proofs.OneCut.{cut_laid, fits_more, saturated_kept, set_vertices}
use Rattle.arborescence.proofs.Used.{used_iff, gathered_vertex}

-- nothing was raised
pub HasRaised-none : (D : DiNetwork) (B : Branch) (s : Raising) → IsRaising D B s → HasRaised D B s s
HasRaised-none D B s is = record { raising = is; holds = ([], sym (append-nil s.cuts.items), All-nil (λ c. IsVertexSet D.n c.set)); room = refl; reached = λ v h. h }

-- more was raised
pub HasRaised-more : (D : DiNetwork) (B : Branch) (r s t : Raising) → HasRaised D B r s → HasRaised D B s t → HasRaised D B r t
HasRaised-more D B r s t first next = record {
  raising = next.raising;
  holds = (first.holds.0 ++ next.holds.0, next.holds.1 ∙ ap (λ l. l ++ next.holds.0) first.holds.1 ∙ append_assoc r.cuts.items first.holds.0 next.holds.0, All-append (λ c. IsVertexSet D.n c.set) first.holds.0 next.holds.0 first.holds.2 next.holds.2);
  room = next.room ∙ first.room;
  reached = λ v h. next.reached v (first.reached v h);
}

-- another set is in hand
pub regathered : (D : DiNetwork) (B : Branch) (r s t : Raising) → HasRaised D B r s → t.arcs ≡ s.arcs → t.cuts.items ≡ s.cuts.items → t.room ≡ s.room → t.set.count ≡ s.set.count → HasRaised D B r t
regathered D B r s t h arcs cuts room count = record {
  raising = record { loaded = rw (arcs, cuts) h.raising.loaded; fits = rw cuts h.raising.fits; count = count ∙ h.raising.count };
  holds = (h.holds.0, cuts ∙ h.holds.1, h.holds.2);
  room = rw (cuts, room) h.room;
  reached = λ v before. rw cuts (h.reached v before);
}

module _ (D : DiNetwork) (B : Branch) (s t : Raising) (q y : ℕ) (c : Cut) (net : IsDiNetwork D) (is : IsRaising D B s) (vertex : IsVertex D.n q) (present : IsTrue (is_present B q)) (certain : IsTrue (certain_in (di_ground D) B q))
    (led : AreLed (used_into s.arcs) q s.set.members) (away : IsFalse (has s.set.members D.root))
    (borne : (v : ℕ) → IsTrue (has s.set.members v) → All (λ arc. IsFalse (has s.set.members arc.tail) → arc.load + y ≤ arc.cost) (arcs_into s.arcs v))
    (names : c.q ≡ q) (worth : c.y ≡ y) (same : (v : ℕ) → has c.set v ≡ has s.set.members v) (ascending : IsStrictlyIncreasing c.set)
    (pushed : t.cuts.items ≡ s.cuts.items ++ c ∷ []) (long : length t.arcs ≡ length s.arcs)
    (lays : (v : ℕ) → arcs_into t.arcs v ≡ (if has s.set.members v then map (laid s.set.members y) (arcs_into s.arcs v) else arcs_into s.arcs v))
    (room : t.room + y ≡ s.room) (count : t.set.count ≡ s.set.count) where
  member_vertex : (v : ℕ) → IsTrue (has s.set.members v) → IsVertex D.n v
  member_vertex = gathered_vertex D B (raised_packing D s) s.arcs q s.set.members net is.loaded vertex led

  loaded : AreLoadedIn (di_ground D) B (away_price D) t.cuts.items t.arcs
  loaded = rw pushed (cut_laid D B s.cuts.items s.arcs is.loaded is.fits t.arcs s.set.members c member_vertex away (rw names led.root) (rw names present) (rw names certain) (rw worth borne) same long (rw worth lays))

  vertices : All (IsVertex D.n) c.set
  vertices = set_vertices D B s.cuts.items s.arcs is.loaded is.fits t.arcs s.set.members c member_vertex away (rw names led.root) (rw names present) (rw names certain) (rw worth borne) same long (rw worth lays)

  fits : FitsIn (di_ground D) B (raised_packing D t)
  fits = rw pushed (fits_more D B s.cuts.items s.arcs is.loaded is.fits t.arcs s.set.members c member_vertex away (rw names led.root) (rw names present) (rw names certain) (rw worth borne) same long (rw worth lays))

  -- no saturated arc is entered, so it stays saturated
  kept : (u v : ℕ) → IsSaturatedIn (di_ground D) B (raised_packing D s) u v → IsSaturatedIn (di_ground D) B (raised_packing D t) u v
  kept u v used = rw pushed (saturated_kept D B s.cuts.items c u v unentered used)
    where
      unentered : has c.set v && not (has c.set u) ≡ false
      unentered = rw (same v, same u) (elim (cases_Bool (has s.set.members v)) [
        | inl inside ↦ rw (inside, led.closed v u inside ((used_iff (di_ground D) B (raised_packing D s) s.arcs u v is.loaded).1 used)) refl
        | inr outside ↦ rw outside refl
      ])

  reached : (v : ℕ) → IsReachedIn (di_ground D) B (raised_packing D s) D.root v → IsReachedIn (di_ground D) B (raised_packing D t) D.root v
  reached v here = here
  reached v (there {u} before used) = there (reached u before) (kept u v used)

  pub raised_once : HasRaised D B s t
  raised_once = record {
    raising = record { loaded = loaded; fits = fits; count = count ∙ is.count };
    holds = (c ∷ [], pushed, All-cons (λ d. IsVertexSet D.n d.set) c [] (record { ascending = ascending; in_range = vertices }) (All-nil (λ d. IsVertexSet D.n d.set)));
    room = rw (pushed, total-append (λ d. d.y) s.cuts.items (c ∷ [])) (omega arith);
    reached = reached;
  }
