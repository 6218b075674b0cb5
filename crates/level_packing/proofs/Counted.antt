-- How many cuts there are: at most two for each link that was chosen, and of these one less than clusters at first.
use Rattle.std.proofs.Common.{◌≡◌, ◌≢◌, ℕ, zero, suc, ◌+◌, ◌-◌, ◌*◌, ◌<◌, ◌≤◌, List, [], ◌∷◌, ◌++◌, length, get_or, set, refl, sym, ap, ◌∙◌, ◌⊎◌, inl, inr, arith, length-set, length-append}
use Rattle.std.specs.Prelude.{IsTrue}
use Rattle.std.proofs.lemmas.Bool.{cases_eq, cases_lt, false≢true}
use Rattle.std.proofs.lemmas.List.{get_or-set_other}
use Rattle.st_model.specs.declared.link.Link.{Link}
use Rattle.st_model.specs.Lists.{has, total}
use Rattle.level_packing.specs.Forest.{Groups, IsCounted, formed_at, members_of, one_if_any}
use Rattle.level_packing.specs.Growing.{IsAlone, IsRaised, IsMerged, IsMergedInto}

-- a sum in which one term is changed
total-set : {X : Type 0} (f : X → ℕ) (xs : List X) (i : ℕ) (y d : X) → i < length xs → total f (set xs i y) + f (get_or xs i d) ≡ total f xs + f y
total-set f [] i y d within = absurd (omega arith)
total-set f (x ∷ xs) zero y d within = omega arith
total-set f (x ∷ xs) (suc i) y d within = omega (arith, total-set f xs i y d (omega arith))

-- a term is no more than the sum
total_at_least : {X : Type 0} (f : X → ℕ) (xs : List X) (i : ℕ) (d : X) → i < length xs → f (get_or xs i d) ≤ total f xs
total_at_least f [] i d within = absurd (omega arith)
total_at_least f (x ∷ xs) zero d within = omega arith
total_at_least f (x ∷ xs) (suc i) d within = omega (arith, total_at_least f xs i d (omega arith))

-- where each term is one, the sum is how many there are
total_ones : {X : Type 0} (f : X → ℕ) (xs : List X) (d : X) → ((i : ℕ) → i < length xs → f (get_or xs i d) ≡ 1) → total f xs ≡ length xs
total_ones f [] d each = refl
total_ones f (x ∷ xs) d each = omega (arith, each 0 (omega arith), total_ones f xs d (λ i within. each (suc i) (omega arith)))

any_in : (xs : List ℕ) (v : ℕ) → IsTrue (has xs v) → one_if_any xs ≡ 1
any_in [] v there = absurd (false≢true there)
any_in (x ∷ xs) v there = refl

any_append : (xs ys : List ℕ) → one_if_any xs ≡ 1 → one_if_any (xs ++ ys) ≡ 1
any_append [] ys any = absurd (omega (arith, any))
any_append (x ∷ xs) ys any = refl

-- a cluster with a member has a place
in_place : (F : Groups) (i v : ℕ) → IsTrue (has (members_of F i) v) → i < length F.members
in_place F i v there = at_place F.members i there
  where
    at_place : (xs : List (List ℕ)) (i : ℕ) → IsTrue (has (get_or xs i []) v) → i < length xs
    at_place [] i there = absurd (false≢true there)
    at_place (x ∷ xs) zero there = omega arith
    at_place (x ∷ xs) (suc i) there = omega (arith, at_place xs i there)

-- every vertex alone
pub alone_counted : (n : ℕ) (F : Groups) → IsAlone n F → IsCounted n F
alone_counted n F alone = record {
  clusters = rw alone.chosen (omega (arith, alone.members_len, total_ones one_if_any F.members [] (λ i within. ap one_if_any (alone.members i (omega (arith, alone.members_len))))));
  cuts = rw (alone.cuts, alone.chosen) (omega arith);
}

-- the groups with at most one cut more
record HasOneMore (F G : Groups) : Type 0 where
  pub members : G.members ≡ F.members
  pub chosen : G.chosen ≡ F.chosen
  pub cuts : length G.cuts ≤ length F.cuts + 1

raised_counts : (F G : Groups) (of_root name cost : ℕ) → IsRaised F of_root name cost G → HasOneMore F G
raised_counts F G of_root name cost h = by_case (cases_eq name of_root) (cases_lt (formed_at F name) cost)
  where
    by_case : (name ≡ of_root) ⊎ (name ≢ of_root) → (formed_at F name < cost) ⊎ (cost ≤ formed_at F name) → HasOneMore F G
    by_case (inl same) b = rw (h.stays (inl same)) (record { members = refl; chosen = refl; cuts = omega arith })
    by_case (inr other) (inr above) = rw (h.stays (inr above)) (record { members = refl; chosen = refl; cuts = omega arith })
    by_case (inr other) (inl below) =
        let cut = h.rises other below in
        rw cut.2 (record { members = refl; chosen = refl; cuts = omega (arith, length-append F.cuts (record { set = cut.0; q = name; y = cost - formed_at F name } ∷ [])) })

-- two clusters that have members become one
merged_counts : (n : ℕ) (l : Link) (keep gone : ℕ) (F G : Groups) → keep ≢ gone → IsTrue (has (members_of F keep) keep) → IsTrue (has (members_of F gone) gone) → IsMergedInto keep gone l F G
    → total one_if_any F.members + length F.chosen ≡ n + 1 → length F.cuts ≤ 2 * length F.chosen + 2 → IsCounted n G
merged_counts n l keep gone F G two filled emptied m clusters cuts =
    let at_gone = total-set one_if_any F.members gone [] [] (in_place F gone gone emptied) in
    let kept : get_or (set F.members gone []) keep [] ≡ members_of F keep = get_or-set_other F.members gone keep [] [] two in
    let at_keep = total-set one_if_any (set F.members gone []) keep (members_of F keep ++ members_of F gone) [] (omega (arith, length-set F.members gone [], in_place F keep keep filled)) in
    let some = any_in (members_of F keep) keep filled in
    let chosen = ap length m.chosen ∙ length-append F.chosen ((l.a, l.b) ∷ []) in
    record {
      clusters = rw m.members (omega (arith, clusters, chosen, at_gone, at_keep, ap one_if_any kept, some, any_in (members_of F gone) gone emptied, any_append (members_of F keep) (members_of F gone) some));
      cuts = rw m.cuts (omega (arith, cuts, chosen));
    }

-- one more link is chosen
pub joined_counts : (n : ℕ) (l : Link) (F F1 F2 G : Groups) (of_root first second : ℕ) → first ≢ second → IsTrue (has (members_of F first) first) → IsTrue (has (members_of F second) second)
    → IsRaised F of_root first l.cost F1 → IsRaised F1 of_root second l.cost F2 → IsMerged first second l F2 G → IsCounted n F → IsCounted n G
joined_counts n l F F1 F2 G of_root first second apart at_first at_second one two merged before =
    let a = raised_counts F F1 of_root first l.cost one in
    let b = raised_counts F1 F2 of_root second l.cost two in
    let members : F2.members ≡ F.members = b.members ∙ a.members in
    let chosen : F2.chosen ≡ F.chosen = b.chosen ∙ a.chosen in
    let clusters : total one_if_any F2.members + length F2.chosen ≡ n + 1 = rw (members, chosen) before.clusters in
    let cuts : length F2.cuts ≤ 2 * length F2.chosen + 2 = rw chosen (omega (arith, a.cuts, b.cuts, before.cuts)) in
    by_case merged (rw members at_first) (rw members at_second) clusters cuts
  where
    by_case : IsMerged first second l F2 G → IsTrue (has (members_of F2 first) first) → IsTrue (has (members_of F2 second) second) → total one_if_any F2.members + length F2.chosen ≡ n + 1 → length F2.cuts ≤ 2 * length F2.chosen + 2 → IsCounted n G
    by_case (inl m) f s clusters cuts = merged_counts n l first second F2 G apart f s m clusters cuts
    by_case (inr m) f s clusters cuts = merged_counts n l second first F2 G (λ e. apart (sym e)) s f m clusters cuts

-- a cluster is left, so that at most n links were chosen
pub few_cuts : (n : ℕ) (F : Groups) (i : ℕ) → IsTrue (has (members_of F i) i) → IsCounted n F → length F.cuts ≤ 2 * n
few_cuts n F i filled counted =
    let some = total_at_least one_if_any F.members i [] (in_place F i i filled) in
    omega (arith, counted.clusters, counted.cuts, some, any_in (members_of F i) i filled)
