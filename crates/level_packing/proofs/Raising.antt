-- A cluster is cut off from the root up to a cost.
use Rattle.std.proofs.Common.{◌≡◌, ◌≢◌, ℕ, ◌+◌, ◌-◌, ◌≤◌, Bool, true, false, not, ◌&&◌, cond, eqb, if◌then◌else◌, List, [], ◌∷◌, ◌++◌, set, refl, sym, ap, ◌∙◌, ◌⊎◌, inl, inr, arith, length-set}
use Rattle.std.specs.Prelude.{IsFalse, IfSome}
use Rattle.std.proofs.lemmas.Bool.{cases_eq}
use Rattle.std.proofs.lemmas.Bool.Decides.{nat_tests}
use Rattle.std.proofs.lemmas.List.{get_or-set_same, get_or-set_other}
use Rattle.st_model.specs.declared.branch.Branch.{Branch}
use Rattle.st_model.specs.declared.link.Link.{Link}
use Rattle.st_model.specs.Lists.{has, total, sum_to}
use Rattle.st_model.specs.Network.{Network, IsVertex, link}
use Rattle.st_model.specs.Arborescence.{arc_cost}
use Rattle.std.specs.List.Sorted.{IsStrictlyIncreasing}
use Rattle.st_model.specs.Branch.{IsVertexSet}
use Rattle.st_model.proofs.Sums.{total-append, sum_to_same, sum_to-add, sum_to_one}
use Rattle.cut_packing.specs.declared.cut.Cut.{Cut}
use Rattle.cut_packing.specs.Packing.{load, CutFits}
use Rattle.level_packing.specs.Forest.{Groups, IsPresent, IsForest, AreClusters, AreLevel, cluster_of, members_of, formed_at, level}
use Rattle.level_packing.proofs.Members.{All-from_has}
use Rattle.std.proofs.lemmas.List.Elements.{All-push}

-- a greater limit does too
pub weaker_limit : (I : Network) (B : Branch) (root limit c : ℕ) (rest : List Link) (F : Groups) → limit ≤ c → IsForest I B root limit rest F → IsForest I B root c rest F
weaker_limit I B root limit c rest F le h = record {
  rooted = h.rooted;
  clusters = h.clusters;
  levels = record {
    cuts = h.levels.cuts;
    sets = h.levels.sets;
    apart_from_root = h.levels.apart_from_root;
    low = λ i present. omega (arith, h.levels.low i present);
    raised = h.levels.raised;
    light = λ u v pu pv apart. omega (arith, h.levels.light u v pu pv apart);
    within = h.levels.within;
    idle = h.levels.idle;
    balance = h.levels.balance;
  };
  to_come = h.to_come;
}

-- where one number changes, a level changes at that place alone
level_here : (i r x c f g : ℕ) → i ≡ x → r ≢ x → g ≡ c → f ≤ c → cond (eqb i r) 0 g ≡ cond (eqb i r) 0 f + cond (eqb x i) (c - f) 0
level_here i r x c f g here apart raised below = grind (arith, nat_tests)

level_elsewhere : (i r x d f g : ℕ) → i ≢ x → g ≡ f → cond (eqb i r) 0 g ≡ cond (eqb i r) 0 f + cond (eqb x i) d 0
level_elsewhere i r x d f g other same = grind (arith, nat_tests)

module _ (I : Network) (B : Branch) (root limit c : ℕ) (rest : List Link) (F : Groups) (x : ℕ) (inside : List ℕ) (forest : IsForest I B root limit rest F) (le : limit ≤ c) (present : IsPresent I B x) (own : cluster_of F x ≡ x) (apart : cluster_of F root ≢ x) (same : (v : ℕ) → has inside v ≡ has (members_of F x) v) (ascending : IsStrictlyIncreasing inside) where
  -- the forest with one cut more, round the cluster of x
  abbrev pub raised : Groups
  raised = record { cluster = F.cluster; members = F.members; formed = set F.formed x c; chosen = F.chosen; cuts = F.cuts ++ record { set = inside; q = x; y = c - formed_at F x } ∷ [] }

  in_cluster : (v : ℕ) → IsPresent I B v → cluster_of F v ≡ x → has inside v ≡ true
  in_cluster v pv at = same v ∙ (forest.clusters.members x v present own).1 (pv, at)

  not_in_cluster : (v : ℕ) → cluster_of F v ≢ x → has inside v ≡ false
  not_in_cluster v off = by_case (has inside v) refl
    where
      by_case : (b : Bool) → has inside v ≡ b → b ≡ false
      by_case true is = absurd (off ((forest.clusters.members x v present own).0 (sym (same v) ∙ is)).1)
      by_case false is = refl

  together : (v : ℕ) → (cluster_of F v ≡ x) ⊎ (cluster_of F v ≢ x)
  together v = cases_eq (cluster_of F v) x

  formed_here : formed_at raised x ≡ c
  formed_here = get_or-set_same F.formed x c 0 (omega (arith, forest.clusters.formed_len, present.vertex.1))

  formed_elsewhere : (i : ℕ) → i ≢ x → formed_at raised i ≡ formed_at F i
  formed_elsewhere i other = get_or-set_other F.formed x i c 0 other

  below : formed_at F x ≤ c
  below = omega (arith, forest.levels.low x present)

  load_raised : (u v : ℕ) → load raised.cuts (u, v) ≡ load F.cuts (u, v) + (if has inside v && not (has inside u) then c - formed_at F x else 0)
  load_raised u v = total-append (λ cut. if has cut.set v && not (has cut.set u) then cut.y else 0) F.cuts (record { set = inside; q = x; y = c - formed_at F x } ∷ []) ∙ omega arith

  -- an arc into the cluster, and one that isn't
  load_into : (u v : ℕ) → IsPresent I B u → IsPresent I B v → cluster_of F u ≢ cluster_of F v → cluster_of F v ≡ x → load raised.cuts (u, v) ≡ c
  load_into u v pu pv off at =
      let before = forest.levels.raised u v pu pv off (λ e. apart (sym e ∙ at)) in
      let outside : has inside u ≡ false = not_in_cluster u (λ e. off (e ∙ sym at)) in
      load_raised u v ∙ rw (in_cluster v pv at, outside, before, at) (omega (arith, below))

  load_beside : (u v : ℕ) → cluster_of F v ≢ x → load raised.cuts (u, v) ≡ load F.cuts (u, v)
  load_beside u v off = load_raised u v ∙ rw (not_in_cluster v off) (omega arith)

  load_inside : (u v : ℕ) → IsPresent I B u → cluster_of F u ≡ x → load raised.cuts (u, v) ≡ load F.cuts (u, v)
  load_inside u v pu at = load_raised u v ∙ rw (in_cluster u pu at) (none (has inside v))
    where
      none : (b : Bool) → load F.cuts (u, v) + (if b && false then c - formed_at F x else 0) ≡ load F.cuts (u, v)
      none true = omega arith
      none false = omega arith

  clusters_stay : AreClusters I B raised
  clusters_stay = record {
    cluster_len = forest.clusters.cluster_len;
    members_len = forest.clusters.members_len;
    formed_len = length-set F.formed x c ∙ forest.clusters.formed_len;
    own = forest.clusters.own;
    settled = forest.clusters.settled;
    members = forest.clusters.members;
    chosen = λ k d within. let j = forest.clusters.chosen k d within in record { from = j.from; to = j.to; together = j.together; linked = j.linked };
    connected = forest.clusters.connected;
  }

  low_at : (i : ℕ) → IsPresent I B i → (i ≡ x) ⊎ (i ≢ x) → formed_at raised i ≤ c
  low_at i pi (inl here) = rw here (omega (arith, formed_here))
  low_at i pi (inr other) = omega (arith, formed_elsewhere i other, forest.levels.low i pi)

  raised_at : (u v : ℕ) → IsPresent I B u → IsPresent I B v → cluster_of F u ≢ cluster_of F v → cluster_of F v ≢ cluster_of F root → (cluster_of F v ≡ x) ⊎ (cluster_of F v ≢ x) → load raised.cuts (u, v) ≡ formed_at raised (cluster_of F v)
  raised_at u v pu pv off not_root (inl here) = load_into u v pu pv off here ∙ sym (rw here formed_here)
  raised_at u v pu pv off not_root (inr other) = load_beside u v other ∙ forest.levels.raised u v pu pv off not_root ∙ sym (formed_elsewhere (cluster_of F v) other)

  light_at : (u v : ℕ) → IsPresent I B u → IsPresent I B v → cluster_of F u ≢ cluster_of F v → (cluster_of F v ≡ x) ⊎ (cluster_of F v ≢ x) → load raised.cuts (u, v) ≤ c
  light_at u v pu pv off (inl here) = omega (arith, load_into u v pu pv off here)
  light_at u v pu pv off (inr other) = omega (arith, load_beside u v other, forest.levels.light u v pu pv off)

  within_at : (u v : ℕ) → IsPresent I B u → IsPresent I B v → cluster_of F u ≡ cluster_of F v → (cluster_of F v ≡ x) ⊎ (cluster_of F v ≢ x) → IfSome (link I.links u v) (λ price. load raised.cuts (u, v) ≤ price)
  within_at u v pu pv at (inl here) = rw (load_inside u v pu (at ∙ here)) (forest.levels.within u v pu pv at)
  within_at u v pu pv at (inr other) = rw (load_beside u v other) (forest.levels.within u v pu pv at)

  level_at : (i : ℕ) → (i ≡ x) ⊎ (i ≢ x) → level raised root i ≡ level F root i + cond (eqb x i) (c - formed_at F x) 0
  level_at i (inl here) = level_here i (cluster_of F root) x c (formed_at F i) (formed_at raised i) here apart (rw here formed_here) (rw here below) ∙ ap (λ f. level F root i + cond (eqb x i) (c - f) 0) (rw here refl)
  level_at i (inr other) = level_elsewhere i (cluster_of F root) x (c - formed_at F x) (formed_at F i) (formed_at raised i) other (formed_elsewhere i other)

  balance_rises : total (λ cut. cut.y) raised.cuts ≡ total (arc_cost I) F.chosen + sum_to (level raised root) I.n
  balance_rises =
      let one = sum_to_one x (c - formed_at F x) I.n present.vertex.0 present.vertex.1 in
      let levels : sum_to (level raised root) I.n ≡ sum_to (λ i. level F root i + cond (eqb x i) (c - formed_at F x) 0) I.n = sum_to_same (level raised root) (λ i. level F root i + cond (eqb x i) (c - formed_at F x) 0) I.n (λ i low high. level_at i (cases_eq i x)) in
      let values = total-append (λ (cut : Cut). cut.y) F.cuts (record { set = inside; q = x; y = c - formed_at F x } ∷ []) in
      omega (arith, values, levels, one, sum_to-add (level F root) (λ i. cond (eqb x i) (c - formed_at F x) 0) I.n, forest.levels.balance)

  levels_rise : AreLevel I B root c raised
  levels_rise = record {
    cuts = All-push (CutFits I B) F.cuts _ forest.levels.cuts (record {
      in_range = All-from_has (IsVertex I.n) inside (λ v there. ((forest.clusters.members x v present own).0 (sym (same v) ∙ there)).0.vertex);
      member = in_cluster x present own;
      present = present.present;
    });
    sets = All-push (λ cut. IsVertexSet I.n cut.set) F.cuts _ forest.levels.sets (record {
      ascending = ascending;
      in_range = All-from_has (IsVertex I.n) inside (λ v there. ((forest.clusters.members x v present own).0 (sym (same v) ∙ there)).0.vertex);
    });
    apart_from_root = All-push (λ cut. IsFalse (has cut.set root)) F.cuts _ forest.levels.apart_from_root (not_in_cluster root apart);
    low = λ i pi. low_at i pi (cases_eq i x);
    raised = λ u v pu pv off not_root. raised_at u v pu pv off not_root (together v);
    light = λ u v pu pv off. light_at u v pu pv off (together v);
    within = λ u v pu pv at. within_at u v pu pv at (together v);
    idle = λ i vertex unnamed. formed_elsewhere i (λ e. unnamed (rw e present) (rw e own)) ∙ forest.levels.idle i vertex unnamed;
    balance = balance_rises;
  }

  pub raise : IsForest I B root c rest raised
  raise = record { rooted = forest.rooted; clusters = clusters_stay; levels = levels_rise; to_come = forest.to_come }
