-- The table bounds each tree, and the tree to which its entry leads back is a best one.
use Rattle.std.proofs.Common.{◌≡◌, ℕ, ◌+◌, ◌-◌, ◌^◌, ◌<◌, ◌≤◌, Bool, true, false, cond, eqb, List, [], ◌∷◌, length, Some, refl, sym, ap, subst, ◌∙◌, ◌⊎◌, inl, inr, arith, eq-eqb}
use Rattle.std.specs.Prelude.{◌==◌, IsTrue, bit_and}
use Rattle.std.proofs.lemmas.Bool.{false≢true, cases_lt}
use Rattle.std.proofs.Math.Nat.{pow-suc, one-le-pow}
use Rattle.std.proofs.lemmas.Bool.Decides.{nat_tests}
use Rattle.st_model.specs.declared.tree.Tree.{Tree}
use Rattle.st_model.specs.Lists.{has, total, sum_to}
use Rattle.st_model.specs.Network.{Network, IsInstance, IsVertex, is_required, link}
use Rattle.st_model.specs.Arborescence.{IsArborescence, IsTree, IsBest, arc_cost, cost, missed, reached}
use Rattle.st_model.specs.Regrown.{IsRegrown}
use Rattle.st_model.specs.Terminals.{IsTerminal, NobodyPays}
use Rattle.st_model.proofs.Distinct.{has-cons_head, total-arc_cost}
use Rattle.st_model.proofs.RegrowAlike.{regrown_is_alike}
use Rattle.st_model.proofs.RegrowLaws.{each_tree_regrows}
use Rattle.st_model.proofs.Sums.{sum_to_same, sum_to_none}
use Rattle.st_model.proofs.ThinGrowth.{has-reached_from}
use Rattle.short_paths.specs.declared.laid.Laid.{Laid}
use Rattle.short_paths.specs.Laid.{spent}
use Rattle.few_terminals.specs.declared.choice.Terminals.{Terminals}
use Rattle.few_terminals.specs.declared.row.Row.{Row}
use Rattle.few_terminals.specs.declared.table.Table.{Table}
use Rattle.few_terminals.specs.Back.{is_among, IsWayBack}
use Rattle.few_terminals.specs.Entries.{at, meanings, Meaning, IsEntryAt}
use Rattle.few_terminals.specs.Reach.{slot_of}
use Rattle.few_terminals.specs.Rows.{costs_of, places_of, cost_in, place_in, meanings_of, AreRows, IsTable}
use Rattle.few_terminals.specs.Terminals.{AreTerminals}
use Rattle.few_terminals.specs.Under.{mask, IsUnder}
use Rattle.few_terminals.proofs.Bits.{sum_below, mask_full, mask_below, mask_none, mask_some, mask_among}
use Rattle.few_terminals.proofs.Finishing.{cost_past}
use Rattle.few_terminals.proofs.Meanings.{length-meanings}
use Rattle.few_terminals.proofs.Slots.{slot_within}
use Rattle.few_terminals.proofs.Tables.{tables_bound}

-- what the rows say, and nothing of the empty set
abbrev pub said : List ℕ → List Row → ℕ → ℕ → ℕ
said vs rows m v = cond (eqb m 0) 0 (cost_in vs rows m v)

some_set : (m : ℕ) → 1 ≤ m → eqb m 0 ≡ false
some_set m low = grind (arith, nat_tests)

said_of : (vs : List ℕ) (rows : List Row) (m v : ℕ) → 1 ≤ m → said vs rows m v ≡ cost_in vs rows m v
said_of vs rows m v low = ap (λ b. cond b 0 (cost_in vs rows m v)) (some_set m low)

-- the rows of all sets meet the three inequalities
pub under_rows : (I : Network) (ks : List ℕ) (es : List Meaning) (vs : List ℕ) (rows : List Row) → AreRows I ks es vs rows → length rows ≡ 2 ^ length ks → IsUnder I ks (said vs rows)
under_rows I ks es vs rows are whole = record { alone = alone; along = along; joined = joined }
  where
    alone : (v : ℕ) → said vs rows (mask ks (v ∷ [])) v ≡ 0
    alone v = by_case (has ks v) refl
      where
        by_case : (b : Bool) → has ks v ≡ b → said vs rows (mask ks (v ∷ [])) v ≡ 0
        by_case true known =
            let low = mask_some ks v known in
            let high = mask_below ks (v ∷ []) in
            said_of vs rows (mask ks (v ∷ [])) v low ∙ are.alone v known (omega (arith, high, whole))
        by_case false out = ap (λ (m : ℕ). said vs rows m v) (mask_none ks v out)

    along : (m u v c : ℕ) → link I.links u v ≡ Some c → said vs rows m u ≤ said vs rows m v + c
    along m u v c linked = by_case (eqb m 0)
      where
        by_case : (b : Bool) → cond b 0 (cost_in vs rows m u) ≤ cond b 0 (cost_in vs rows m v) + c
        by_case true = omega arith
        by_case false = are.along m u v c linked

    joined : (v a b : ℕ) → bit_and a b ≡ 0 → said vs rows (a + b) v ≤ said vs rows a v + said vs rows b v
    joined v a b apart = split (cases_lt 0 a) (cases_lt 0 b)
      where
        many : 1 ≤ a → 1 ≤ b → (a + b < length rows) ⊎ (length rows ≤ a + b) → cost_in vs rows (a + b) v ≤ cost_in vs rows a v + cost_in vs rows b v
        many low low_also (inl within) = are.joined v a b low low_also apart within
        many low low_also (inr past) = beyond (cases_lt a (length rows)) (cases_lt b (length rows))
          where
            beyond : (a < length rows) ⊎ (length rows ≤ a) → (b < length rows) ⊎ (length rows ≤ b) → cost_in vs rows (a + b) v ≤ cost_in vs rows a v + cost_in vs rows b v
            beyond (inr far) other = let most = are.most (a + b) v in let here = cost_past vs rows a v far in omega (arith, most, here)
            beyond (inl near) (inr far) = let most = are.most (a + b) v in let here = cost_past vs rows b v far in omega (arith, most, here)
            beyond (inl near) (inl also) = let below = sum_below (length ks) a b apart (omega (arith, near, whole)) (omega (arith, also, whole)) in absurd (omega (arith, below, past, whole))

        split : (0 < a) ⊎ (a ≤ 0) → (0 < b) ⊎ (b ≤ 0) → said vs rows (a + b) v ≤ said vs rows a v + said vs rows b v
        split (inr none) other =
            let here : a ≡ 0 = omega (arith, none) in
            let sum : a + b ≡ b = omega (arith, here) in
            let same : said vs rows (a + b) v ≡ said vs rows b v = ap (λ (m : ℕ). said vs rows m v) sum in
            omega (arith, same)
        split (inl some) (inr none) =
            let sum : a + b ≡ a = omega (arith, none) in
            let same : said vs rows (a + b) v ≡ said vs rows a v = ap (λ (m : ℕ). said vs rows m v) sum in
            omega (arith, same)
        split (inl some) (inl also) =
            let one = said_of vs rows a v some in
            let other = said_of vs rows b v also in
            let both = said_of vs rows (a + b) v (omega (arith, some)) in
            let less = many some also (cases_lt (a + b) (length rows)) in
            omega (arith, one, other, both, less)

module _ (I : Network) (t : Terminals) (es : List Meaning) (vs : List ℕ) (rows : List Row) (instance : IsInstance I) (terminals : AreTerminals I t) (some : 0 < length t.others.items) (are : AreRows I t.others.items es vs rows) (whole : length rows ≡ 2 ^ length t.others.items) where
  -- the root has to be reached
  root_is : IsTerminal I t.root
  root_is = first t.others.items some terminals.root
    where
      first : (ks : List ℕ) → 0 < length ks → ((v : ℕ) → IsTrue (has ks v) → IsTerminal I t.root) → IsTerminal I t.root
      first [] none all = absurd (omega (arith, none))
      first (k ∷ ks) low all = all k (has-cons_head ks k k refl)

  -- the last row says no more than what the links of a tree cost that was regrown at the root
  bounded : (s new : Tree) → IsTree I s → IsRegrown I s t.root new → cost_in vs rows (length rows - 1) t.root ≤ total (arc_cost I) new.arcs
  bounded s new tree regrown =
      let there = tree.required t.root root_is.vertex root_is.required in
      let alike = regrown_is_alike I s t.root new tree.arborescence there regrown in
      let full : mask t.others.items (reached new) + 1 ≡ 2 ^ length t.others.items = mask_full t.others.items (reached new) (λ k known. alike.0 k ∙ tree.required k (terminals.others k known).vertex (terminals.others k known).required) in
      let last : mask t.others.items (reached new) ≡ length rows - 1 = omega (arith, full, whole) in
      let law = tables_bound I t.others.items (said vs rows) new (under_rows I t.others.items es vs rows are whole) regrown.arborescence in
      let here : said vs rows (mask t.others.items (reached new)) new.start ≡ said vs rows (length rows - 1) t.root = ap (λ (m : ℕ). said vs rows m new.start) last ∙ ap (λ (v : ℕ). said vs rows (length rows - 1) v) regrown.start in
      let said_is = said_of vs rows (length rows - 1) t.root (omega (arith, two)) in
      omega (arith, law, here, said_is)
    where
      two : 2 ≤ length rows
      two = many t.others.items some whole
        where
          many : (ks : List ℕ) → 0 < length ks → length rows ≡ 2 ^ length ks → 2 ≤ length rows
          many [] none is = absurd (omega (arith, none))
          many (k ∷ ks) low is = let double = pow-suc 2 (length ks) in let least = one-le-pow (length ks) 2 (omega arith) in omega (arith, is, double, least)

  -- so it bounds each tree
  pub bounds : (s : Tree) → IsTree I s → cost_in vs rows (length rows - 1) t.root ≤ cost I s
  bounds s tree = at (each_tree_regrows I s t.root instance tree.arborescence (tree.required t.root root_is.vertex root_is.required))
    where
      at : ((new : Tree) × IsRegrown I s t.root new) → cost_in vs rows (length rows - 1) t.root ≤ cost I s
      at (new, regrown) =
          let less = bounded s new tree regrown in
          let alike = (regrown_is_alike I s t.root new tree.arborescence (tree.required t.root root_is.vertex root_is.required) regrown).1 in
          omega (arith, less, alike)

  -- and where it says nothing there is no tree
  pub none : 2 ^ 63 ≤ cost_in vs rows (length rows - 1) t.root → (s : Tree) → IsTree I s → ⊥
  none far s tree = at (each_tree_regrows I s t.root instance tree.arborescence (tree.required t.root root_is.vertex root_is.required))
    where
      at : ((new : Tree) × IsRegrown I s t.root new) → ⊥
      at (new, regrown) =
          let less = bounded s new tree regrown in
          let links = total-arc_cost I (new.start ∷ []) new.arcs regrown.arborescence.grows in
          let all = instance.amount in
          omega (arith, less, links, all, far)

-- where nobody pays, a tree costs what its links do
pub nothing_missed : (I : Network) (r : List ℕ) → NobodyPays I → sum_to (missed I r) I.n ≡ 0
nothing_missed I r nobody = sum_to_same (missed I r) (λ _. 0) I.n (λ v low high. by_case (has r v) (nobody v (low, high))) ∙ sum_to_none I.n
  where
    by_case : {p : ℕ} (b : Bool) → p ≡ 0 → cond b 0 p ≡ 0
    by_case true is = refl
    by_case false is = is

-- the tree that an entry of all terminals leads back to is a best one
pub best : (I : Network) (t : Terminals) (es : List Meaning) (vs : List ℕ) (rows : List Row) (top : ℕ) (l : Laid) (tree : Tree) → IsInstance I → AreTerminals I t → 0 < length t.others.items → NobodyPays I → AreRows I t.others.items es vs rows → length rows ≡ 2 ^ length t.others.items → IsEntryAt es top t.root (length rows - 1) (cost_in vs rows (length rows - 1) t.root) → IsWayBack I t.others.items es top l
    → IsArborescence I tree → tree.start ≡ l.start → ((v : ℕ) → has (reached tree) v ≡ has l.reached.members v) → total (arc_cost I) tree.arcs ≡ spent I l → IsBest I tree
best I t es vs rows top l tree instance terminals some nobody are whole entry back grows start same costs = record {
  tree = record { arborescence = grows; required = required };
  least = λ s other.
      let bound = bounds I t es vs rows instance terminals some are whole s other in
      let missed_is = nothing_missed I (reached tree) nobody in
      let spends = back.cost in
      let says = entry.cost_is in
      omega (arith, bound, missed_is, spends, says, costs);
}
  where
    required : (v : ℕ) → IsVertex I.n v → IsTrue (is_required I v) → IsTrue (has (reached tree) v)
    required v vertex needed = elim (terminals.all v (record { vertex = vertex; required = needed })) [
      | inl among ↦
          let full : mask t.others.items t.others.items + 1 ≡ 2 ^ length t.others.items = mask_full t.others.items t.others.items (λ k there. there) in
          let bits : (at es top).bits ≡ mask t.others.items t.others.items = entry.bits_is ∙ (let last : length rows - 1 ≡ mask t.others.items t.others.items = omega (arith, full, whole) in last) in
          same v ∙ back.terminals v (subst (λ (m : ℕ). IsTrue (is_among t.others.items m v)) (sym bits) (mask_among t.others.items t.others.items v among among))
      | inr root ↦
          let here : tree.start ≡ v = start ∙ (back.start ∙ (entry.vertex_is ∙ root)) in
          has-reached_from (tree.start ∷ []) tree.arcs v (has-cons_head [] tree.start v (sym here))
    ]

-- where there are no others, the root alone is a best tree
pub lone : (I : Network) (t : Terminals) (tree : Tree) → AreTerminals I t → length t.others.items ≡ 0 → NobodyPays I → IsArborescence I tree → ((v : ℕ) → has (reached tree) v ≡ (t.root == v)) → total (arc_cost I) tree.arcs ≡ 0 → IsBest I tree
lone I t tree terminals none nobody grows same free = record {
  tree = record { arborescence = grows; required = required };
  least = λ s other. let missed_is = nothing_missed I (reached tree) nobody in omega (arith, missed_is, free);
}
  where
    empty : (ks : List ℕ) (v : ℕ) → length ks ≡ 0 → IsTrue (has ks v) → ⊥
    empty [] v long there = false≢true there
    empty (k ∷ ks) v long there = omega (arith, long)

    required : (v : ℕ) → IsVertex I.n v → IsTrue (is_required I v) → IsTrue (has (reached tree) v)
    required v vertex needed = elim (terminals.all v (record { vertex = vertex; required = needed })) [
      | inl among ↦ absurd (empty t.others.items v none among)
      | inr root ↦ same v ∙ eq-eqb t.root v root
    ]

-- a table, its terminals being those beside the root
module _ (I : Network) (t : Terminals) (table : Table) (instance : IsInstance I) (terminals : AreTerminals I t) (some : 0 < length t.others.items) (is : IsTable I table) (same : table.terminals.items ≡ t.others.items) where
  whole : length table.rows.items ≡ 2 ^ length t.others.items
  whole = is.whole ∙ ap (λ (ks : List ℕ). 2 ^ length ks) same

  abbrev es : List Meaning
  es = meanings I t.others.items table.entries.items

  rows_are : AreRows I t.others.items es table.reached.items table.rows.items
  rows_are = subst (λ (ks : List ℕ). AreRows I ks (meanings I ks table.entries.items) table.reached.items table.rows.items) same is.rows

  pub two_rows : 1 < length table.rows.items
  two_rows = many t.others.items some whole
    where
      many : (ks : List ℕ) → 0 < length ks → length table.rows.items ≡ 2 ^ length ks → 1 < length table.rows.items
      many [] none is = absurd (omega (arith, none))
      many (k ∷ ks) low is = let double = pow-suc 2 (length ks) in let least = one-le-pow (length ks) 2 (omega arith) in omega (arith, is, double, least)

  pub root_within : IsTrue (has table.reached.items t.root) → slot_of table.reached.items t.root < length (costs_of table.rows.items (length table.rows.items - 1))
  root_within there = let long = rows_are.long_costs (length table.rows.items - 1) (omega (arith, two_rows)) (omega (arith, two_rows)) in let within = slot_within table.reached.items t.root there in omega (arith, long, within)

  pub root_places : IsTrue (has table.reached.items t.root) → slot_of table.reached.items t.root < length (places_of table.rows.items (length table.rows.items - 1))
  root_places there = let long = rows_are.long_places (length table.rows.items - 1) (omega (arith, two_rows)) (omega (arith, two_rows)) in let within = slot_within table.reached.items t.root there in omega (arith, long, within)

  top_within : (top : ℕ) → cost_in table.reached.items table.rows.items (length table.rows.items - 1) t.root < 2 ^ 63 → top ≡ place_in table.reached.items table.rows.items (length table.rows.items - 1) t.root → IsEntryAt es top t.root (length table.rows.items - 1) (cost_in table.reached.items table.rows.items (length table.rows.items - 1) t.root)
  top_within top near here = subst (λ (p : ℕ). IsEntryAt es p t.root (length table.rows.items - 1) (cost_in table.reached.items table.rows.items (length table.rows.items - 1) t.root)) (sym here) (rows_are.placed (length table.rows.items - 1) t.root near)

  pub top_stands : (top : ℕ) → cost_in table.reached.items table.rows.items (length table.rows.items - 1) t.root < 2 ^ 63 → top ≡ place_in table.reached.items table.rows.items (length table.rows.items - 1) t.root → top < length table.entries.items
  top_stands top near here =
      let within = (top_within top near here).within in
      let long = length-meanings I t.others.items table.entries.items in
      omega (arith, within, long)

  pub best_of_table : (top : ℕ) (l : Laid) (tree : Tree) → NobodyPays I → cost_in table.reached.items table.rows.items (length table.rows.items - 1) t.root < 2 ^ 63 → top ≡ place_in table.reached.items table.rows.items (length table.rows.items - 1) t.root → IsWayBack I table.terminals.items (meanings_of I table) top l
      → IsArborescence I tree → tree.start ≡ l.start → ((v : ℕ) → has (reached tree) v ≡ has l.reached.members v) → total (arc_cost I) tree.arcs ≡ spent I l → IsBest I tree
  best_of_table top l tree nobody near here back grows start same_reached costs =
      best I t es table.reached.items table.rows.items top l tree instance terminals some nobody rows_are whole (top_within top near here) (subst (λ (ks : List ℕ). IsWayBack I ks (meanings I ks table.entries.items) top l) same back) grows start same_reached costs

  pub none_of_table : 2 ^ 63 ≤ cost_in table.reached.items table.rows.items (length table.rows.items - 1) t.root → (s : Tree) → IsTree I s → ⊥
  none_of_table far = none I t es table.reached.items table.rows.items instance terminals some rows_are whole far
