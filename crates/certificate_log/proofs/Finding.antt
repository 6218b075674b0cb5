-- What a map finds as records and nodes are added.
use Rattle.std.proofs.Common.{◌≡◌, ℕ, Bool, true, false, cond, List, [], ◌∷◌, ◌++◌, Option, Some, refl, sym, ◌∙◌, subst, arith, inl, inr}
use Rattle.std.specs.Prelude.{IsSome, Contains, nat_eq}
use Rattle.std.proofs.lemmas.Bool.Decides.{nat_tests}
use Rattle.std.proofs.lemmas.List.Elements.{Contains-append_left, Contains-append_cases, Contains-push}
use Rattle.indexmap.specs.IndexMap.{get, Updates}
use Rattle.branching.specs.declared.node.Node.{Node}
use Rattle.search_core.specs.declared.done.Done.{Done}
use Rattle.search_core.specs.Complete.{done_id}
use Rattle.search_core.proofs.Ids.{among}
use Rattle.certificate_log.specs.declared.standings.Standing.{Standing}
use Rattle.certificate_log.specs.declared.standings.Standing.TheVariants.{Record, Waiting}
use Rattle.certificate_log.specs.declared.standings.Standings.{Standings}
use Rattle.certificate_log.specs.Standing.{FindsIn, StandsIn, standing_id}

-- who is in a list of one is that one
only : {X : Type 0} (y x : X) → Contains (y ∷ []) x → y ≡ x
only y x there = elim (among (y ∷ []) x there) [ inl is ↦ is | inr none ↦ absurd none ]

-- one thing more stands under its id
module _ (ds ds' : List Done) (ns ns' : List Node) (old new : Standings) (x : Standing) (wider : (y : Standing) → StandsIn ds ns y → StandsIn ds' ns' y)
    (finds : FindsIn ds ns old) (updates : Updates nat_eq old.by_id new.by_id (standing_id x) (Some x)) where
  right_more : StandsIn ds' ns' x → (id : ℕ) (y : Standing) → get nat_eq new.by_id id ≡ Some y → (standing_id y ≡ id) × StandsIn ds' ns' y
  right_more stands id y is = by_test (nat_eq (standing_id x) id) refl (sym (updates.0 id) ∙ is)
    where
      same_number : (a b : ℕ) → nat_eq a b ≡ true → a ≡ b
      same_number a b h = grind (arith, nat_tests)

      by_test : (b : Bool) → nat_eq (standing_id x) id ≡ b → cond b (Some x) (get nat_eq old.by_id id) ≡ Some y → (standing_id y ≡ id) × StandsIn ds' ns' y
      by_test true test e =
          let same : x ≡ y = cc in
          subst (λ (z : Standing). (standing_id z ≡ id) × StandsIn ds' ns' z) same (same_number (standing_id x) id test, stands)
      by_test false test e = let before = finds.right id y e in (before.0, wider y before.1)

  some_more : (id : ℕ) → IsSome (get nat_eq old.by_id id) → IsSome (get nat_eq new.by_id id)
  some_more id there = subst (λ (o : Option Standing). IsSome o) (sym (updates.0 id)) (by_test (nat_eq (standing_id x) id))
    where
      by_test : (b : Bool) → IsSome (cond b (Some x) (get nat_eq old.by_id id))
      by_test true = refl
      by_test false = there

  itself : IsSome (get nat_eq new.by_id (standing_id x))
  itself = subst (λ (o : Option Standing). IsSome o) (sym (updates.0 (standing_id x))) (by_test (nat_eq (standing_id x) (standing_id x)) (same (standing_id x)))
    where
      same : (a : ℕ) → nat_eq a a ≡ true
      same a = grind (arith, nat_tests)

      by_test : (b : Bool) → b ≡ true → IsSome (cond b (Some x) (get nat_eq old.by_id (standing_id x)))
      by_test true e = refl
      by_test false e = absurd cc

pub with_record : (ds : List Done) (ns : List Node) (old new : Standings) (d : _) → FindsIn ds ns old → Updates nat_eq old.by_id new.by_id (standing_id (Record d)) (Some (Record d)) → FindsIn (ds ++ d.now ∷ []) ns new
with_record ds ns old new d finds updates = record {
  right = right_more ds (ds ++ d.now ∷ []) ns ns old new (Record d) wider finds updates (Contains-push ds d.now);
  record_found = λ e there. elim (Contains-append_cases ds (d.now ∷ []) e there) [
    | inl before ↦ some_more ds (ds ++ d.now ∷ []) ns ns old new (Record d) wider finds updates (done_id e) (finds.record_found e before)
    | inr here ↦ subst (λ (c : Done). IsSome (get nat_eq new.by_id (done_id c))) (only d.now e here) (itself ds (ds ++ d.now ∷ []) ns ns old new (Record d) wider finds updates)
  ];
  node_found = λ N there. some_more ds (ds ++ d.now ∷ []) ns ns old new (Record d) wider finds updates N.id (finds.node_found N there);
}
  where
    wider : (y : Standing) → StandsIn ds ns y → StandsIn (ds ++ d.now ∷ []) ns y
    wider (Record e) there = Contains-append_left ds (d.now ∷ []) e.now there
    wider (Waiting N) there = there

pub with_node : (ds : List Done) (ns : List Node) (old new : Standings) (N : _) → FindsIn ds ns old → Updates nat_eq old.by_id new.by_id (standing_id (Waiting N)) (Some (Waiting N)) → FindsIn ds (ns ++ N.now ∷ []) new
with_node ds ns old new N finds updates = record {
  right = right_more ds ds ns (ns ++ N.now ∷ []) old new (Waiting N) wider finds updates (Contains-push ns N.now);
  record_found = λ e there. some_more ds ds ns (ns ++ N.now ∷ []) old new (Waiting N) wider finds updates (done_id e) (finds.record_found e there);
  node_found = λ M there. elim (Contains-append_cases ns (N.now ∷ []) M there) [
    | inl before ↦ some_more ds ds ns (ns ++ N.now ∷ []) old new (Waiting N) wider finds updates M.id (finds.node_found M before)
    | inr here ↦ subst (λ (K : Node). IsSome (get nat_eq new.by_id K.id)) (only N.now M here) (itself ds ds ns (ns ++ N.now ∷ []) old new (Waiting N) wider finds updates)
  ];
}
  where
    wider : (y : Standing) → StandsIn ds ns y → StandsIn ds (ns ++ N.now ∷ []) y
    wider (Record e) there = there
    wider (Waiting M) there = Contains-append_left ns (N.now ∷ []) M.now there
