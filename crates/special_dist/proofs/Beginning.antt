-- A search that begins.
use Rattle.std.proofs.Common.{◌≡◌, ℕ, zero, suc, ◌<◌, Bool, true, false, cond, eqb, List, [], ◌∷◌, ◌++◌, length, slice_get, Some, None, IsPermutation, refl, sym, ap, subst, ◌∙◌, arith, ◌⊎◌, inl, inr}
use Rattle.std.proofs.lemmas.Bool.Decides.{nat_tests}
use Rattle.std.proofs.lemmas.List.Elements.{All-cons, All-nil}
use Rattle.std.proofs.lemmas.List.Sorted.{All-permutation, Contains-permutation}
use Rattle.std.specs.Prelude.{All}
use Rattle.st_model.specs.Network.{Network, IsVertex}
use Rattle.special_dist.specs.declared.quest.Quest.{Quest}
use Rattle.special_dist.specs.declared.quest.Visit.{Visit}
use Rattle.special_dist.specs.declared.search.Search.{Search}
use Rattle.special_dist.specs.Visits.{AreVisits, IsVisit}
use Rattle.special_dist.specs.Searching.{IsReached, IsSearch, IsSpread, Waits, paid_at, waiting}
use Rattle.special_dist.specs.Steps.{Adds, Visits}
use Rattle.special_dist.proofs.Adding.{adds_reached, contains_first}

first_visit : ℕ → Visit
first_visit v = record { vertex = v; paid = 0; before = 0 }

module _ (old new : Search) (v : ℕ) (none : old.visits.items ≡ []) (idle : waiting old ≡ []) where
  nobody : (u : ℕ) → paid_at old u ≡ None
  nobody u = rw none refl

  one_visit : Adds old new (record { vertex = v; paid = 0; before = 0 }) → new.visits.items ≡ record { vertex = v; paid = 0; before = 0 } ∷ []
  one_visit adds = adds.visits ∙ ap (λ visits. visits ++ record { vertex = v; paid = 0; before = 0 } ∷ []) none

  one_waits : Adds old new (record { vertex = v; paid = 0; before = 0 }) → IsPermutation (0 ∷ []) (waiting new)
  one_waits adds = subst (λ (p : ℕ × List ℕ). IsPermutation (p.0 ∷ p.1) (waiting new)) (λ j. (ap length none j, idle j)) adds.queue

  visits_at : (I : Network) (q : Quest) → q.a ≡ v → IsVertex I.n v → (visits : List Visit) → visits ≡ record { vertex = v; paid = 0; before = 0 } ∷ [] → AreVisits I q visits
  visits_at I q same vertex visits is = subst (AreVisits I q) (sym is) only
    where
      only : AreVisits I q (record { vertex = v; paid = 0; before = 0 } ∷ [])
      only zero s at =
          let here : ◌≡◌ {A = Visit} (record { vertex = v; paid = 0; before = 0 }) s = cc in
          subst (IsVisit I q (record { vertex = v; paid = 0; before = 0 } ∷ []) 0) here (record {
            vertex = vertex;
            within = omega arith;
            comes = inl (record { vertex = sym same; paid = refl; before = omega arith });
          })
      only (suc k) s at = absurd cc

  pub begun : (I : Network) (q : Quest) → q.a ≡ v → IsVertex I.n v → Visits old new (record { vertex = v; paid = 0; before = 0 }) → IsSearch I q new (waiting new)
  begun I q same vertex (inl (reached, kept)) = absurd (let told = reached.1 in let not_told = nobody v in cc)
  begun I q same vertex (inr adds) = record {
    begun = subst (λ (u : ℕ). IsReached new u 0) (sym same) (adds_reached old new (record { vertex = v; paid = 0; before = 0 }) adds);
    visits = visits_at I q same vertex new.visits.items (one_visit adds);
    places = subst (λ (visits : List Visit). All (λ place. place < length visits) (waiting new)) (sym (one_visit adds)) (All-permutation (λ place. place < 1) (0 ∷ []) (waiting new) (one_waits adds) (All-cons (λ place. place < 1) 0 [] (omega arith) (All-nil (λ place. place < 1))));
    spread = λ u paid is. by_vertex u paid (eqb u v) refl (sym (adds.reached u) ∙ is);
  }
    where
      by_vertex : (u paid : ℕ) → (b : Bool) → eqb u v ≡ b → cond b (Some 0) (paid_at old u) ≡ Some paid → Waits new.visits.items (waiting new) u paid ⊎ IsSpread I q new u paid
      by_vertex u paid true at told =
          let here : v ≡ u = grind (arith, nat_tests) in
          let much : 0 ≡ paid = cc in
          let last : slice_get new.visits.items 0 ≡ Some (record { vertex = v; paid = 0; before = 0 }) = ap (λ visits. slice_get visits 0) (one_visit adds) in
          inl (0, record { vertex = v; paid = 0; before = 0 }, Contains-permutation (0 ∷ []) (waiting new) 0 (one_waits adds) (contains_first 0 []), last, here, much)
      by_vertex u paid false at told = absurd (let not_told = nobody u in cc)
