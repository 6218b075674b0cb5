-- Two clusters that were raised to a link's cost become one.
use Rattle.std.proofs.Common.{◌≡◌, ◌≢◌, ℕ, ◌+◌, ◌≤◌, ◌↔◌, Bool, true, false, ◌||◌, cond, eqb, List, [], ◌∷◌, ◌++◌, length, refl, sym, ap, subst, ◌∙◌, ◌⊎◌, inl, inr, arith}
use Rattle.std.specs.Prelude.{All, IsTrue, IfSome, Option, Some, None, ◌==◌, if◌then◌else◌}
use Rattle.std.proofs.lemmas.Bool.{cases_eq, or_cases}
use Rattle.std.proofs.lemmas.Bool.Decides.{nat_tests}
use Rattle.std.proofs.lemmas.List.Elements.{All-push, All-pop, All-cons}
use Rattle.st_model.specs.declared.branch.Branch.{Branch}
use Rattle.st_model.specs.declared.link.Link.{Link}
use Rattle.st_model.specs.Lists.{has, total, sum_to}
use Rattle.st_model.specs.Network.{Network, IsVertex, joins, link}
use Rattle.st_model.specs.Arborescence.{arc_cost}
use Rattle.std.proofs.Math.Bool.{or-true}
use Rattle.st_model.proofs.Members.{has-append}
use Rattle.st_model.proofs.Distinct.{joins-ends}
use Rattle.st_model.proofs.Sums.{total-append, sum_to_same, sum_to-add, sum_to_one}
use Rattle.cut_packing.specs.Packing.{load}
use Rattle.level_packing.specs.Forest.{Groups, IsPresent, IsPresentLink, IsJoined, IsForest, AreClusters, AreLevel, AreToCome, IsToCome, cluster_of, members_of, formed_at, level}
use Rattle.level_packing.proofs.Members.{any_first, any_with}

-- what becomes of the level of the cluster that is kept, of the one that is gone, and of any other
level_kept : (keep gone r s c f g : ℕ) → keep ≢ gone → s ≡ (if r == gone then keep else r) → (keep ≢ r → f ≡ c) → g ≡ c → cond (eqb keep r) 0 f ≡ cond (eqb keep s) 0 g + cond (eqb (if r == gone then keep else gone) keep) c 0
level_kept keep gone r s c f g two root raised after = by_case (cases_eq r gone) (cases_eq keep r)
  where
    by_case : (r ≡ gone) ⊎ (r ≢ gone) → (keep ≡ r) ⊎ (keep ≢ r) → cond (eqb keep r) 0 f ≡ cond (eqb keep s) 0 g + cond (eqb (if r == gone then keep else gone) keep) c 0
    by_case (inl a) (inl b) = absurd (two (b ∙ a))
    by_case (inl a) (inr b) = let was = raised b in let s_is : s ≡ keep = grind (arith, nat_tests) in grind (arith, nat_tests)
    by_case (inr a) (inl b) = let s_is : s ≡ r = grind (arith, nat_tests) in grind (arith, nat_tests)
    by_case (inr a) (inr b) = let was = raised b in let s_is : s ≡ r = grind (arith, nat_tests) in grind (arith, nat_tests)

level_gone : (keep gone r s c f g : ℕ) → keep ≢ gone → s ≡ (if r == gone then keep else r) → (gone ≢ r → f ≡ c) → g ≡ 0 → cond (eqb gone r) 0 f ≡ cond (eqb gone s) 0 g + cond (eqb (if r == gone then keep else gone) gone) c 0
level_gone keep gone r s c f g two root raised after = by_case (cases_eq r gone)
  where
    by_case : (r ≡ gone) ⊎ (r ≢ gone) → cond (eqb gone r) 0 f ≡ cond (eqb gone s) 0 g + cond (eqb (if r == gone then keep else gone) gone) c 0
    by_case (inl a) = let s_is : s ≡ keep = grind (arith, nat_tests) in grind (arith, nat_tests)
    by_case (inr a) = let was = raised (λ e. a (sym e)) in let s_is : s ≡ r = grind (arith, nat_tests) in grind (arith, nat_tests)

level_other : (i keep gone r s c f g : ℕ) → i ≢ keep → i ≢ gone → s ≡ (if r == gone then keep else r) → g ≡ f → cond (eqb i r) 0 f ≡ cond (eqb i s) 0 g + cond (eqb (if r == gone then keep else gone) i) c 0
level_other i keep gone r s c f g k o root same = by_case (cases_eq r gone)
  where
    by_case : (r ≡ gone) ⊎ (r ≢ gone) → cond (eqb i r) 0 f ≡ cond (eqb i s) 0 g + cond (eqb (if r == gone then keep else gone) i) c 0
    by_case (inl a) = let s_is : s ≡ keep = grind (arith, nat_tests) in grind (arith, nat_tests)
    by_case (inr a) = let s_is : s ≡ r = grind (arith, nat_tests) in grind (arith, nat_tests)

-- the forest after the link l, where the clusters named keep and gone have become one, at the cost c
pub record Joins (I : Network) (B : Branch) (root : ℕ) (l : Link) (keep gone : ℕ) (F G : Groups) : Type 0 where
  pub link : IsPresentLink I B l
  pub ends : ((cluster_of F l.a ≡ keep) × (cluster_of F l.b ≡ gone)) ⊎ ((cluster_of F l.a ≡ gone) × (cluster_of F l.b ≡ keep))
  pub two : keep ≢ gone
  pub keep_raised : keep ≢ cluster_of F root → formed_at F keep ≡ l.cost
  pub gone_raised : gone ≢ cluster_of F root → formed_at F gone ≡ l.cost
  pub cluster_len : length G.cluster ≡ I.n + 1
  pub cluster : (v : ℕ) → IsPresent I B v → cluster_of G v ≡ (if cluster_of F v == gone then keep else cluster_of F v)
  pub members_len : length G.members ≡ I.n + 1
  pub members_keep : members_of G keep ≡ members_of F keep ++ members_of F gone
  pub members_other : (i : ℕ) → i ≢ keep → i ≢ gone → members_of G i ≡ members_of F i
  pub formed_len : length G.formed ≡ I.n + 1
  pub formed_keep : formed_at G keep ≡ l.cost
  pub formed_gone : formed_at G gone ≡ 0
  pub formed_other : (i : ℕ) → i ≢ keep → i ≢ gone → formed_at G i ≡ formed_at F i
  pub chosen : G.chosen ≡ F.chosen ++ (l.a, l.b) ∷ []
  pub cuts : G.cuts ≡ F.cuts

module _ (I : Network) (B : Branch) (root : ℕ) (l : Link) (rest : List Link) (keep gone : ℕ) (F G : Groups) (forest : IsForest I B root l.cost (l ∷ rest) F) (later : All (λ m. l.cost ≤ m.cost) rest) (j : Joins I B root l keep gone F G) where
  -- what was one cluster still is
  still : (u v : ℕ) → IsPresent I B u → IsPresent I B v → cluster_of F u ≡ cluster_of F v → cluster_of G u ≡ cluster_of G v
  still u v pu pv same = j.cluster u pu ∙ rw same refl ∙ sym (j.cluster v pv)

  at_gone : (v : ℕ) → IsPresent I B v → cluster_of F v ≡ gone → cluster_of G v ≡ keep
  at_gone v pv at = let test : (cluster_of F v == gone) ≡ true = grind (arith, nat_tests) in j.cluster v pv ∙ rw test refl

  at_other : (v : ℕ) → IsPresent I B v → cluster_of F v ≢ gone → cluster_of G v ≡ cluster_of F v
  at_other v pv off = let test : (cluster_of F v == gone) ≡ false = grind (arith, nat_tests) in j.cluster v pv ∙ rw test refl

  -- both names are of present vertices, each in its own cluster
  keep_present : IsPresent I B keep
  keep_present = elim j.ends [ inl e ↦ rw (← e.0) (forest.clusters.own l.a j.link.a) | inr e ↦ rw (← e.1) (forest.clusters.own l.b j.link.b) ]

  gone_present : IsPresent I B gone
  gone_present = elim j.ends [ inl e ↦ rw (← e.1) (forest.clusters.own l.b j.link.b) | inr e ↦ rw (← e.0) (forest.clusters.own l.a j.link.a) ]

  keep_own : cluster_of F keep ≡ keep
  keep_own = elim j.ends [ inl e ↦ own_name l.a keep j.link.a e.0 | inr e ↦ own_name l.b keep j.link.b e.1 ]
    where
      own_name : (v i : ℕ) → IsPresent I B v → cluster_of F v ≡ i → cluster_of F i ≡ i
      own_name v i pv at = rw (← at) (forest.clusters.settled v pv)

  gone_own : cluster_of F gone ≡ gone
  gone_own = elim j.ends [ inl e ↦ own_name l.b gone j.link.b e.1 | inr e ↦ own_name l.a gone j.link.a e.0 ]
    where
      own_name : (v i : ℕ) → IsPresent I B v → cluster_of F v ≡ i → cluster_of F i ≡ i
      own_name v i pv at = rw (← at) (forest.clusters.settled v pv)

  -- the link's ends are both in the new cluster
  ends_together : cluster_of G l.a ≡ cluster_of G l.b
  ends_together = elim j.ends [
    | inl e ↦ at_other l.a j.link.a (λ at. j.two (sym e.0 ∙ at)) ∙ e.0 ∙ sym (at_gone l.b j.link.b e.1)
    | inr e ↦ at_gone l.a j.link.a e.0 ∙ sym (at_other l.b j.link.b (λ at. j.two (sym e.1 ∙ at)) ∙ e.1)
  ]

  -- two that are together now were before, or one was in each
  before : (u v : ℕ) → IsPresent I B u → IsPresent I B v → cluster_of G u ≡ cluster_of G v → (cluster_of F u ≡ cluster_of F v) ⊎ (((cluster_of F u ≡ keep) × (cluster_of F v ≡ gone)) ⊎ ((cluster_of F u ≡ gone) × (cluster_of F v ≡ keep)))
  before u v pu pv same = by_case (cases_eq (cluster_of F u) gone) (cases_eq (cluster_of F v) gone)
    where
      by_case : (cluster_of F u ≡ gone) ⊎ (cluster_of F u ≢ gone) → (cluster_of F v ≡ gone) ⊎ (cluster_of F v ≢ gone) → (cluster_of F u ≡ cluster_of F v) ⊎ (((cluster_of F u ≡ keep) × (cluster_of F v ≡ gone)) ⊎ ((cluster_of F u ≡ gone) × (cluster_of F v ≡ keep)))
      by_case (inl a) (inl b) = inl (a ∙ sym b)
      by_case (inl a) (inr b) = inr (inr (a, sym (at_other v pv b) ∙ sym same ∙ at_gone u pu a))
      by_case (inr a) (inl b) = inr (inl (sym (at_other u pu a) ∙ same ∙ at_gone v pv b, b))
      by_case (inr a) (inr b) = inl (sym (at_other u pu a) ∙ same ∙ at_other v pv b)

  own_after : (v : ℕ) → IsPresent I B v → IsPresent I B (cluster_of G v)
  own_after v pv = elim (cases_eq (cluster_of F v) gone) [ inl at ↦ rw (at_gone v pv at) keep_present | inr off ↦ rw (at_other v pv off) (forest.clusters.own v pv) ]

  keep_after : cluster_of G keep ≡ keep
  keep_after = at_other keep keep_present (λ at. j.two (sym keep_own ∙ at)) ∙ keep_own

  settled_after : (v : ℕ) → IsPresent I B v → cluster_of G (cluster_of G v) ≡ cluster_of G v
  settled_after v pv = elim (cases_eq (cluster_of F v) gone) [
    | inl at ↦ rw (at_gone v pv at) keep_after
    | inr off ↦ rw (at_other v pv off) (at_other (cluster_of F v) (forest.clusters.own v pv) (λ at. off (sym (forest.clusters.settled v pv) ∙ at)) ∙ forest.clusters.settled v pv)
  ]

  members_after : (i v : ℕ) → IsPresent I B i → cluster_of G i ≡ i → IsTrue (has (members_of G i) v) ↔ (IsPresent I B v × (cluster_of G v ≡ i))
  members_after i v pi own = elim (cases_eq i keep) [
    | inl here ↦ rw (here, j.members_keep, has-append (members_of F keep) (members_of F gone) v)
        (λ there. kept_or_gone (or_cases (has (members_of F keep) v) (has (members_of F gone) v) there), λ at. in_either at.0 at.1 (cases_eq (cluster_of F v) gone))
    | inr other ↦ rw (j.members_other i other not_gone) (
      λ there. let was = (forest.clusters.members i v pi (was_own other)).0 there in (was.0, at_other v was.0 (λ e. not_gone (sym was.1 ∙ e)) ∙ was.1),
      λ at. (forest.clusters.members i v pi (was_own other)).1 (at.0, was_there other at.0 at.1 (cases_eq (cluster_of F v) gone)),
    )
  ]
    where
      not_gone : i ≢ gone
      not_gone e = j.two (sym (at_gone i pi (ap (cluster_of F) e ∙ gone_own)) ∙ own ∙ e)

      was_own : i ≢ keep → cluster_of F i ≡ i
      was_own other = elim (cases_eq (cluster_of F i) gone) [ inl at ↦ absurd (other (sym own ∙ at_gone i pi at)) | inr off ↦ sym (at_other i pi off) ∙ own ]

      was_there : i ≢ keep → IsPresent I B v → cluster_of G v ≡ i → (cluster_of F v ≡ gone) ⊎ (cluster_of F v ≢ gone) → cluster_of F v ≡ i
      was_there other pv at (inl is) = absurd (other (sym at ∙ at_gone v pv is))
      was_there other pv at (inr off) = sym (at_other v pv off) ∙ at

      kept_or_gone : (has (members_of F keep) v ≡ true) ⊎ (has (members_of F gone) v ≡ true) → IsPresent I B v × (cluster_of G v ≡ keep)
      kept_or_gone (inl there) = let was = (forest.clusters.members keep v keep_present keep_own).0 there in (was.0, at_other v was.0 (λ e. j.two (sym was.1 ∙ e)) ∙ was.1)
      kept_or_gone (inr there) = let was = (forest.clusters.members gone v gone_present gone_own).0 there in (was.0, at_gone v was.0 was.1)

      in_either : IsPresent I B v → cluster_of G v ≡ keep → (cluster_of F v ≡ gone) ⊎ (cluster_of F v ≢ gone) → has (members_of F keep) v || has (members_of F gone) v ≡ true
      in_either pv at (inl is) = rw ((forest.clusters.members gone v gone_present gone_own).1 (pv, is)) (or-true (has (members_of F keep) v))
      in_either pv at (inr off) = rw ((forest.clusters.members keep v keep_present keep_own).1 (pv, sym (at_other v pv off) ∙ at)) refl

  connected_after : (S : ℕ → Bool) → All (λ pair. S pair.0 ≡ S pair.1) G.chosen → (u v : ℕ) → IsPresent I B u → IsPresent I B v → cluster_of G u ≡ cluster_of G v → S u ≡ S v
  connected_after S closed u v pu pv same =
      let parts = All-pop (λ pair. S pair.0 ≡ S pair.1) G.chosen F.chosen (Some (l.a, l.b)) j.chosen closed in
      let was : (u v : ℕ) → IsPresent I B u → IsPresent I B v → cluster_of F u ≡ cluster_of F v → S u ≡ S v = forest.clusters.connected S parts.0 in
      by_case was parts.1 (before u v pu pv same) j.ends
    where
      by_case : ((u v : ℕ) → IsPresent I B u → IsPresent I B v → cluster_of F u ≡ cluster_of F v → S u ≡ S v) → S l.a ≡ S l.b → (cluster_of F u ≡ cluster_of F v) ⊎ (((cluster_of F u ≡ keep) × (cluster_of F v ≡ gone)) ⊎ ((cluster_of F u ≡ gone) × (cluster_of F v ≡ keep)))
          → ((cluster_of F l.a ≡ keep) × (cluster_of F l.b ≡ gone)) ⊎ ((cluster_of F l.a ≡ gone) × (cluster_of F l.b ≡ keep)) → S u ≡ S v
      by_case was over (inl both) ends = was u v pu pv both
      by_case was over (inr (inl e)) (inl f) = was u l.a pu j.link.a (e.0 ∙ sym f.0) ∙ over ∙ was l.b v j.link.b pv (f.1 ∙ sym e.1)
      by_case was over (inr (inl e)) (inr f) = was u l.b pu j.link.b (e.0 ∙ sym f.1) ∙ sym over ∙ was l.a v j.link.a pv (f.0 ∙ sym e.1)
      by_case was over (inr (inr e)) (inl f) = was u l.b pu j.link.b (e.0 ∙ sym f.1) ∙ sym over ∙ was l.a v j.link.a pv (f.0 ∙ sym e.1)
      by_case was over (inr (inr e)) (inr f) = was u l.a pu j.link.a (e.0 ∙ sym f.0) ∙ over ∙ was l.b v j.link.b pv (f.1 ∙ sym e.1)

  clusters_join : AreClusters I B G
  clusters_join = record {
    cluster_len = j.cluster_len;
    members_len = j.members_len;
    formed_len = j.formed_len;
    own = own_after;
    settled = settled_after;
    members = members_after;
    chosen = subst (λ pairs. All (IsJoined I B G) pairs) (sym j.chosen) (All-push (IsJoined I B G) F.chosen (l.a, l.b)
        (λ k d within. let p = forest.clusters.chosen k d within in record { from = p.from; to = p.to; together = still _ _ p.from p.to p.together; linked = p.linked })
        (record { from = j.link.a; to = j.link.b; together = ends_together; linked = rw j.link.cost refl }));
    connected = connected_after;
  }

  low_after : (i : ℕ) → IsPresent I B i → (i ≡ keep) ⊎ (i ≢ keep) → (i ≡ gone) ⊎ (i ≢ gone) → formed_at G i ≤ l.cost
  low_after i pi (inl here) g = rw here (omega (arith, j.formed_keep))
  low_after i pi (inr k) (inl here) = rw here (omega (arith, j.formed_gone))
  low_after i pi (inr k) (inr g) = omega (arith, j.formed_other i k g, forest.levels.low i pi)

  -- what is apart now was apart before
  was_apart : (u v : ℕ) → IsPresent I B u → IsPresent I B v → cluster_of G u ≢ cluster_of G v → cluster_of F u ≢ cluster_of F v
  was_apart u v pu pv off same = off (still u v pu pv same)

  raised_after : (u v : ℕ) → IsPresent I B u → IsPresent I B v → cluster_of G u ≢ cluster_of G v → cluster_of G v ≢ cluster_of G root → (cluster_of F v ≡ gone) ⊎ (cluster_of F v ≢ gone) → (cluster_of F v ≡ keep) ⊎ (cluster_of F v ≢ keep) → load F.cuts (u, v) ≡ formed_at G (cluster_of G v)
  raised_after u v pu pv off not_root at_g at_k =
      let not_before : cluster_of F v ≢ cluster_of F root = λ same. not_root (still v root pv forest.rooted same) in
      let load_before = forest.levels.raised u v pu pv (was_apart u v pu pv off) not_before in
      by_case at_g at_k not_before load_before
    where
      by_case : (cluster_of F v ≡ gone) ⊎ (cluster_of F v ≢ gone) → (cluster_of F v ≡ keep) ⊎ (cluster_of F v ≢ keep) → cluster_of F v ≢ cluster_of F root → load F.cuts (u, v) ≡ formed_at F (cluster_of F v) → load F.cuts (u, v) ≡ formed_at G (cluster_of G v)
      by_case (inl at) k apart was = was ∙ rw (at_gone v pv at, j.formed_keep, at) (j.gone_raised (λ e. apart (at ∙ e)))
      by_case (inr g) (inl at) apart was = was ∙ rw (at_other v pv g, at, j.formed_keep) (j.keep_raised (λ e. apart (at ∙ e)))
      by_case (inr g) (inr k) apart was = was ∙ rw (at_other v pv g) (sym (j.formed_other (cluster_of F v) k g))

  -- a link between two clusters costs at least the limit
  at_least : (u v : ℕ) → IsPresent I B u → IsPresent I B v → cluster_of F u ≢ cluster_of F v → IfSome (link I.links u v) (λ price. l.cost ≤ price)
  at_least u v pu pv off = by_case (link I.links u v) (forest.to_come u v pu pv off)
    where
      by_case : (o : Option ℕ) → IfSome o (IsToCome (l ∷ rest) u v) → IfSome o (λ price. l.cost ≤ price)
      by_case None h = tt
      by_case (Some price) h =
          let m = any_with (λ (m : Link). IsTrue (joins m u v) × (m.cost ≡ price)) (λ (m : Link). l.cost ≤ m.cost) (l ∷ rest) h (All-cons (λ (m : Link). l.cost ≤ m.cost) l rest (omega arith) later) in
          omega (arith, m.1.1, m.2)

  within_after : (u v : ℕ) → IsPresent I B u → IsPresent I B v → cluster_of G u ≡ cluster_of G v → (cluster_of F u ≡ cluster_of F v) ⊎ (cluster_of F u ≢ cluster_of F v) → IfSome (link I.links u v) (λ price. load F.cuts (u, v) ≤ price)
  within_after u v pu pv same (inl was) = forest.levels.within u v pu pv was
  within_after u v pu pv same (inr off) = by_case (link I.links u v) (at_least u v pu pv off) (forest.levels.light u v pu pv off)
    where
      by_case : (o : Option ℕ) → IfSome o (λ price. l.cost ≤ price) → load F.cuts (u, v) ≤ l.cost → IfSome o (λ price. load F.cuts (u, v) ≤ price)
      by_case None h light = tt
      by_case (Some price) h light = omega arith

  idle_after : (i : ℕ) → IsVertex I.n i → (IsPresent I B i → cluster_of G i ≢ i) → (i ≡ keep) ⊎ (i ≢ keep) → (i ≡ gone) ⊎ (i ≢ gone) → formed_at G i ≡ 0
  idle_after i vertex unnamed (inl here) g = absurd (unnamed (rw here keep_present) (rw here keep_after))
  idle_after i vertex unnamed (inr k) (inl here) = rw here j.formed_gone
  idle_after i vertex unnamed (inr k) (inr g) = j.formed_other i k g ∙ forest.levels.idle i vertex (λ pi own. unnamed pi (at_other i pi (λ e. g (sym own ∙ e)) ∙ own))

  -- the level that is lost: of the cluster that isn't the root's
  abbrev lost : ℕ
  lost = if cluster_of F root == gone then keep else gone

  lost_vertex : IsVertex I.n lost
  lost_vertex = by_case (cluster_of F root == gone)
    where
      by_case : (b : Bool) → IsVertex I.n (if b then keep else gone)
      by_case true = keep_present.vertex
      by_case false = gone_present.vertex

  level_after : (i : ℕ) → (i ≡ keep) ⊎ (i ≢ keep) → (i ≡ gone) ⊎ (i ≢ gone) → level F root i ≡ level G root i + cond (eqb lost i) l.cost 0
  level_after i (inl here) g = rw here (level_kept keep gone (cluster_of F root) (cluster_of G root) l.cost (formed_at F keep) (formed_at G keep) j.two (j.cluster root forest.rooted) j.keep_raised j.formed_keep)
  level_after i (inr k) (inl here) = rw here (level_gone keep gone (cluster_of F root) (cluster_of G root) l.cost (formed_at F gone) (formed_at G gone) j.two (j.cluster root forest.rooted) j.gone_raised j.formed_gone)
  level_after i (inr k) (inr g) = level_other i keep gone (cluster_of F root) (cluster_of G root) l.cost (formed_at F i) (formed_at G i) k g (j.cluster root forest.rooted) (j.formed_other i k g)

  balance_after : total (λ cut. cut.y) F.cuts ≡ total (arc_cost I) G.chosen + sum_to (level G root) I.n
  balance_after =
      let price : arc_cost I (l.a, l.b) ≡ l.cost = rw j.link.cost refl in
      let chosen = ap (total (arc_cost I)) j.chosen ∙ total-append (arc_cost I) F.chosen ((l.a, l.b) ∷ []) in
      let levels = sum_to_same (level F root) (λ i. level G root i + cond (eqb lost i) l.cost 0) I.n (λ i low high. level_after i (cases_eq i keep) (cases_eq i gone)) in
      let one = sum_to_one lost l.cost I.n lost_vertex.0 lost_vertex.1 in
      omega (arith, price, chosen, levels, one, sum_to-add (level G root) (λ i. cond (eqb lost i) l.cost 0) I.n, forest.levels.balance)

  levels_join : AreLevel I B root l.cost G
  levels_join = record {
    cuts = rw j.cuts forest.levels.cuts;
    sets = rw j.cuts forest.levels.sets;
    apart_from_root = rw j.cuts forest.levels.apart_from_root;
    low = λ i pi. low_after i pi (cases_eq i keep) (cases_eq i gone);
    raised = λ u v pu pv off not_root. rw j.cuts (raised_after u v pu pv off not_root (cases_eq (cluster_of F v) gone) (cases_eq (cluster_of F v) keep));
    light = λ u v pu pv off. rw j.cuts (forest.levels.light u v pu pv (was_apart u v pu pv off));
    within = λ u v pu pv same. rw j.cuts (within_after u v pu pv same (cases_eq (cluster_of F u) (cluster_of F v)));
    idle = λ i vertex unnamed. idle_after i vertex unnamed (cases_eq i keep) (cases_eq i gone);
    balance = rw j.cuts balance_after;
  }

  to_come_after : AreToCome I B rest G
  to_come_after u v pu pv off = by_case (link I.links u v) (forest.to_come u v pu pv (was_apart u v pu pv off))
    where
      by_case : (o : Option ℕ) → IfSome o (IsToCome (l ∷ rest) u v) → IfSome o (IsToCome rest u v)
      by_case None h = tt
      by_case (Some price) h = elim (any_first (λ (m : Link). IsTrue (joins m u v) × (m.cost ≡ price)) l rest h) [ inl here ↦ absurd (elim (joins-ends l u v here.0) [ inl e ↦ off (rw (← e.0, ← e.1) ends_together) | inr e ↦ off (rw (← e.0, ← e.1) (sym ends_together)) ]) | inr later ↦ later ]

  pub join : IsForest I B root l.cost rest G
  join = record { rooted = forest.rooted; clusters = clusters_join; levels = levels_join; to_come = to_come_after }
