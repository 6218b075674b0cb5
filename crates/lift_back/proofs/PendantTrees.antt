-- A vertex with one link at most that needs nothing: trees before and after it goes.
use Rattle.std.proofs.Common.{◌≡◌, ◌≢◌, ℕ, Bool, true, false, cond, List, [], ◌∷◌, inl, inr, refl, ap, ◌∙◌, subst, arith}
use Rattle.std.specs.Prelude.{◌==◌, ◌||◌, IsTrue, IsSome, Some, unwrap_or}
use Rattle.std.proofs.lemmas.Bool.{not-true}
use Rattle.st_model.specs.declared.tree.Tree.{Tree}
use Rattle.st_model.specs.Lists.{has}
use Rattle.st_model.specs.Network.{Network, IsInstance, IsLinkBetween, joins, link}
use Rattle.st_model.specs.declared.link.Link.{Link}
use Rattle.st_model.specs.Arborescence.{reached, arc_cost}
use Rattle.st_model.specs.Made.{has_pair}
use Rattle.std.specs.List.{AllByRecursion}
use Rattle.std.proofs.lemmas.List.Elements.{recursion_from_All}
use Rattle.st_model.proofs.Distinct.{joins-ends}
use Rattle.st_model.proofs.Members.{has-one}
use Rattle.st_model.proofs.Sums.{total_filter_le}
use Rattle.lift_back.specs.State.{State, IsState, IsTreeOf, worth}
use Rattle.lift_back.specs.Steps.{TakesPendant, links_without}
use Rattle.lift_back.specs.Laws.{HasTreeWithin}
use Rattle.lift_back.proofs.Past.{is_past, moved, moved_self, someone_else}
use Rattle.lift_back.proofs.Skipping.{Skips, skips_unreached, skips_lone, skips_past, pair_linked}

-- away from v the links without v are the links
pub without_past : (s : State) (v : ℕ) (pair : ℕ × ℕ) → is_past v pair ≡ true → links_without s v pair.0 pair.1 ≡ link s.instance.links pair.0 pair.1
without_past s v pair past = rw (not-true ((pair.0 == v) || (pair.1 == v)) past) refl

-- an equal link costs the same
pub same_cost : (I J : Network) (pair : ℕ × ℕ) → link J.links pair.0 pair.1 ≡ link I.links pair.0 pair.1 → arc_cost J pair ≡ arc_cost I pair
same_cost I J pair e = ap (λ o. unwrap_or o 0) e

skips_pendant : (before after : State) (v : ℕ) → TakesPendant before after v → Skips before after v
skips_pendant before after v step =
    let same = λ (pair : ℕ × ℕ) (past : IsTrue (is_past v pair)). step.becomes.linked pair.0 pair.1 ∙ without_past before v pair past in
    record {
      count = step.becomes.count;
      needed = step.becomes.needed;
      left_out = step.becomes.left_out;
      paid = step.becomes.paid;
      vertex = step.allowed.idle.vertex;
      idle = step.allowed.idle.need;
      linked = λ pair past there. rw (same pair past) there;
      cost = λ pair past there. let e = same_cost before.instance after.instance pair (same pair past) in omega arith;
    }

-- the one neighbour of v is on its own side
pub leaf_near : (s : State) (t : Tree) (v u : ℕ) (S : ℕ → Bool) (w : ℕ) → ((y : ℕ) → IsSome (link s.instance.links v y) → IsTrue (has (u ∷ []) y)) → IsTreeOf s t → IsTrue (has_pair t.arcs v w) → moved S v u w ≡ S u
leaf_near s t v u S w only tree there =
    subst (λ (y : ℕ). moved S v u y ≡ S u) (has-one u w (only w (pair_linked s.instance t v w tree.tree.arborescence there))) (moved_self S v u)

pub pendant_keeps_the_least : (before after : State) (t : Tree) (v : ℕ) → IsState before → TakesPendant before after v → IsTreeOf before t → HasTreeWithin after (worth before t)
pendant_keeps_the_least before after t v state step tree = by_test (has (reached t) v) refl
  where
    skips : Skips before after v
    skips = skips_pendant before after v step

    by_test : (b : Bool) → has (reached t) v ≡ b → HasTreeWithin after (worth before t)
    by_test false absent = skips_unreached before after t v skips tree absent
    by_test true there = elim (someone_else before.instance t v tree.tree.arborescence) [
      | inl lone ↦ let (z, vertex, present, other) = step.allowed.other in skips_lone before after t v z skips tree there lone vertex present other
      | inr else_there ↦ let (x, x_there, x_other) = else_there in skips_past before after t v step.allowed.leaf.0 x [] skips state tree x_there x_other tt tt (λ S w agrees pair. leaf_near before t v step.allowed.leaf.0 S w step.allowed.leaf.1 tree pair) (let fewer = total_filter_le (arc_cost before.instance) (is_past v) t.arcs in omega arith)
    ]

-- a link joins different vertices
pub linked_apart : (I : Network) (u w : ℕ) → IsInstance I → IsSome (link I.links u w) → u ≢ w
linked_apart I u w instance linked = by_links I.links (recursion_from_All (IsLinkBetween I.n) I.links instance.ends) linked
  where
    here : (l : Link) → IsLinkBetween I.n l → joins l u w ≡ true → u ≢ w
    here l between joined same = elim (joins-ends l u w joined) [
      | inl e ↦ let low = between.ordered in omega (arith, e.0, e.1)
      | inr e ↦ let low = between.ordered in omega (arith, e.0, e.1)
    ]

    by_test : (l : Link) (ls : List Link) (b : Bool) → joins l u w ≡ b → IsLinkBetween I.n l → IsSome (cond b (Some l.cost) (link ls u w)) → (IsSome (link ls u w) → u ≢ w) → u ≢ w
    by_test l ls true is between some rest = here l between is
    by_test l ls false is between some rest = rest some

    by_links : (ls : List Link) → AllByRecursion (IsLinkBetween I.n) ls → IsSome (link ls u w) → u ≢ w
    by_links [] all some = cc
    by_links (l ∷ ls) all some = by_test l ls (joins l u w) refl all.0 some (by_links ls all.1)
