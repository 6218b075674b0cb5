-- The first light node of some nodes, and all of them, are found along the nodes.
use Rattle.std.proofs.Common.{◌≡◌, ℕ, ◌<◌, ◌≤◌, List, [], ◌∷◌, ◌++◌, Option, Some, None, true, false, cond, refl, sym, ap, subst, ◌∙◌, append_assoc, arith}
use Rattle.std.specs.Prelude.{All, filter, nat_lt}
use Rattle.std.specs.Option.{option_to_list}
use Rattle.std.proofs.lemmas.Bool.Decides.{nat_tests}
use Rattle.std.proofs.lemmas.List.{append-nil}
use Rattle.std.proofs.lemmas.List.Elements.{All-cons, All-head, All-nil, All-tail, filter-append}
use Rattle.st_model.specs.Network.{Network}
use Rattle.branching.specs.declared.node.Node.{Node}
use Rattle.log_resume.specs.Closes.{IsFirstBelow, IsNextBelow, is_light, node_weight}
use Rattle.log_resume.specs.Open.{IsLightOf}

-- what is found after a heavy node is found with it
pub next-heavy : (I : Network) (least : ℕ) (N : Node) (nodes : List Node) (found : Option (Node × List Node)) → least ≤ node_weight I N → IsNextBelow I least nodes found → IsNextBelow I least (N ∷ nodes) found
next-heavy I least N nodes None heavy is = All-cons (λ M. least ≤ node_weight I M) N nodes heavy is
next-heavy I least N nodes (Some (M, rest)) heavy is = record {
  before = N ∷ is.before;
  parts = ap (λ (ns : List Node). N ∷ ns) is.parts;
  heavy = All-cons (λ M. least ≤ node_weight I M) N is.before heavy is.heavy;
  light = is.light;
}

-- a light node in front is the first
pub next-light : (I : Network) (least : ℕ) (N : Node) (nodes : List Node) → node_weight I N < least → IsNextBelow I least (N ∷ nodes) (Some (N, nodes))
next-light I least N nodes light = record { before = []; parts = refl; heavy = All-nil (λ M. least ≤ node_weight I M); light = light }

-- no node is light where there is none
pub next-none : (I : Network) (least : ℕ) → IsNextBelow I least [] None
next-none I least = All-nil (λ M. least ≤ node_weight I M)

-- where a line closes no light node, what is found after it is found with it
pub next-after : (I : Network) (least : ℕ) (closed : Option Node) (nodes : List Node) (found : Option (Node × List Node)) → IsLightOf I least closed None → IsNextBelow I least nodes found → IsNextBelow I least (option_to_list closed ++ nodes) found
next-after I least None nodes found heavy is = is
next-after I least (Some N) nodes found heavy is = next-heavy I least N nodes found heavy is

-- where it closes a light one, that is found
pub next-found : (I : Network) (least : ℕ) (closed : Option Node) (N : Node) (nodes : List Node) → IsLightOf I least closed (Some N) → IsNextBelow I least (option_to_list closed ++ nodes) (Some (N, nodes))
next-found I least None N nodes is = absurd cc
next-found I least (Some M) N nodes is = let same : N ≡ M = cc in subst (λ (K : Node). IsNextBelow I least (K ∷ nodes) (Some (N, nodes))) same (next-light I least N nodes is.1)

-- none of some heavy nodes is light
pub filter-heavy : (I : Network) (least : ℕ) (nodes : List Node) → All (λ M. least ≤ node_weight I M) nodes → filter (is_light I least) nodes ≡ []
filter-heavy I least [] heavy = refl
filter-heavy I least (N ∷ nodes) heavy =
    let here : least ≤ node_weight I N = All-head (λ M. least ≤ node_weight I M) N nodes heavy in
    let test : nat_lt (node_weight I N) least ≡ false = not_less (node_weight I N) least here in
    ap (λ b. cond b (N ∷ filter (is_light I least) nodes) (filter (is_light I least) nodes)) test ∙ filter-heavy I least nodes (All-tail (λ M. least ≤ node_weight I M) N nodes heavy)
  where
    not_less : (a b : ℕ) → b ≤ a → nat_lt a b ≡ false
    not_less a b h = grind (arith, nat_tests)

-- the light ones are the first, and those of the rest
pub filter-first : (I : Network) (least : ℕ) (nodes : List Node) (N : Node) (rest : List Node) → IsFirstBelow I least nodes N rest → filter (is_light I least) nodes ≡ N ∷ filter (is_light I least) rest
filter-first I least nodes N rest first =
    let test : nat_lt (node_weight I N) least ≡ true = less (node_weight I N) least first.light in
    ap (filter (is_light I least)) first.parts
    ∙ (filter-append (is_light I least) first.before (N ∷ rest)
    ∙ (ap (λ (ns : List Node). ns ++ filter (is_light I least) (N ∷ rest)) (filter-heavy I least first.before first.heavy)
    ∙ ap (λ b. cond b (N ∷ filter (is_light I least) rest) (filter (is_light I least) rest)) test))
  where
    less : (a b : ℕ) → a < b → nat_lt a b ≡ true
    less a b h = grind (arith, nat_tests)

-- those found so far, one more, and those of the rest are the light ones of all
pub lights_on : (I J K : Network) (least : ℕ) (all nodes so_far more : List Node) (N : Node) (rest : List Node) → J ≡ I → K ≡ J → so_far ++ filter (is_light I least) nodes ≡ filter (is_light I least) all → IsFirstBelow J least nodes N rest
    → more ≡ so_far ++ N ∷ [] → (K ≡ I) × (more ++ filter (is_light I least) rest ≡ filter (is_light I least) all)
lights_on I J K least all nodes so_far more N rest same next so first is =
    let mine : IsFirstBelow I least nodes N rest = subst (λ (L : Network). IsFirstBelow L least nodes N rest) same first in (
      next ∙ same,
      ap (λ (ns : List Node). ns ++ filter (is_light I least) rest) is
          ∙ (append_assoc so_far (N ∷ []) (filter (is_light I least) rest)
          ∙ (ap (λ (ns : List Node). so_far ++ ns) (sym (filter-first I least nodes N rest mine))
          ∙ so)),
    )

-- those found are all, where none of the rest is light
pub lights_end : (I J : Network) (least : ℕ) (all nodes so_far : List Node) → J ≡ I → so_far ++ filter (is_light I least) nodes ≡ filter (is_light I least) all → IsNextBelow J least nodes None → so_far ≡ filter (is_light I least) all
lights_end I J least all nodes so_far same so none =
    let mine : IsNextBelow I least nodes None = subst (λ (L : Network). IsNextBelow L least nodes None) same none in
    sym (append-nil so_far)
    ∙ (ap (λ (ns : List Node). so_far ++ ns) (sym (filter-heavy I least nodes mine))
    ∙ so)
