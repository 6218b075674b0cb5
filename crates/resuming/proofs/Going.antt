-- Searches that go on, as one more is added.
use Rattle.std.proofs.Common.{◌≡◌, ℕ, ◌-◌, ◌<◌, ◌≤◌, inl, inr, List, [], ◌∷◌, ◌++◌, length, Option, None, Some, refl, sym, ap, ◌∙◌, subst, arith}
use Rattle.std.specs.Prelude.{Contains, IfNone, IfSome}
use Rattle.std.proofs.lemmas.Bool.{or_parts}
use Rattle.std.proofs.lemmas.List.{append-nil, append_assoc, length-append}
use Rattle.std.proofs.lemmas.List.Elements.{All-contains, Contains-append_right}
use Rattle.st_model.specs.declared.tree.Tree.{Tree}
use Rattle.st_model.specs.Arborescence.{IsTree}
use Rattle.st_model.specs.declared.branch.Branch.{Branch}
use Rattle.st_model.specs.Branch.{NoneIsCertain, ReachesAsTold, all_trees}
use Rattle.st_model.specs.Lists.{has, sum_to}
use Rattle.st_model.specs.Network.{Network, is_required, pays}
use Rattle.branching.specs.declared.node.Node.{Node}
use Rattle.search_core.specs.declared.gathered.Searched.{Searched}
use Rattle.search_core.specs.declared.gathered.Segment.{Segment}
use Rattle.search_core.specs.Complete.{IsFinished, least_found}
use Rattle.log_resume.specs.Closes.{IsNextBelow}
use Rattle.resuming.specs.Finding.{IsKept}
use Rattle.resuming.specs.GoingOn.{GoOn, IsKnown, IsSearchFrom, ended, searched}

-- whatever goes on from here goes on from the first close, after some searches
abbrev pub GoesOnFrom : Network → List Node → ℕ → ℕ → List Searched → List Node → ℕ → ℕ → Type 0
GoesOnFrom I first start budget searches closes least left = (more : List Searched) (last : ℕ) → GoOn I closes least left more last → GoOn I first start budget (searches ++ more) last

pub begun : (I : Network) (closes : List Node) (start budget : ℕ) (searches : List Searched) → searches ≡ [] → GoesOnFrom I closes start budget searches closes start budget
begun I closes start budget searches none more last h = rw none h

-- a search of the next close that is light comes to those before
pub one_more : (I : Network) (first : List Node) (start budget : ℕ) (searches : List Searched) (closes rest : List Node) (N : Node) (least left : ℕ) (E : Searched) (new_least new_left : ℕ) (more_searches : List Searched)
    → GoesOnFrom I first start budget searches closes least left → IsNextBelow I least closes (Some (N, rest)) → IsSearchFrom I N least left E
    → new_least ≡ E.gathered.least → new_left ≡ left - E.gathered.claimed → more_searches ≡ searches ++ E ∷ []
    → GoesOnFrom I first start budget more_searches rest new_least new_left
one_more I first start budget searches closes rest N least left E new_least new_left more_searches before next search lowered taken longer more last h =
    let here : GoOn I rest E.gathered.least (left - E.gathered.claimed) more last = subst (λ (k : ℕ). GoOn I rest E.gathered.least k more last) taken (subst (λ (x : ℕ). GoOn I rest x new_left more last) lowered h) in
    let all : GoOn I first start budget (searches ++ (E ∷ more)) last = before (E ∷ more) last (searched next search here) in
    let same : more_searches ++ more ≡ searches ++ (E ∷ more) = ap (λ (es : List Searched). es ++ more) longer ∙ append_assoc searches (E ∷ []) more in
    subst (λ (es : List Searched). GoOn I first start budget es last) (sym same) all

-- where no close is light any more, all was searched
pub all_searched : (I : Network) (first : List Node) (start budget : ℕ) (searches : List Searched) (closes : List Node) (least left : ℕ)
    → GoesOnFrom I first start budget searches closes least left → IsNextBelow I least closes None → GoOn I first start budget searches least
all_searched I first start budget searches closes least left before none =
    subst (λ (es : List Searched). GoOn I first start budget es least) (append-nil searches) (before [] least (ended none))

-- the closes that come after one are fewer, and all of them are among those before
pub fewer : (I : Network) (least : ℕ) (closes rest : List Node) (N : Node) → IsNextBelow I least closes (Some (N, rest)) → length rest < length closes
fewer I least closes rest N next = omega (arith, ap (λ (ns : List Node). length ns) next.parts, length-append next.before (N ∷ rest))

pub this_among : (I : Network) (least : ℕ) (closes rest : List Node) (N : Node) → IsNextBelow I least closes (Some (N, rest)) → Contains closes N
this_among I least closes rest N next = subst (λ (ns : List Node). Contains ns N) (sym next.parts) (Contains-append_right next.before (N ∷ rest) N (0, omega arith, refl))

pub rest_among : (I : Network) (least : ℕ) (closes rest : List Node) (N M : Node) → IsNextBelow I least closes (Some (N, rest)) → Contains rest M → Contains closes M
rest_among I least closes rest N M next there = subst (λ (ns : List Node). Contains ns M) (sym next.parts) (Contains-append_right next.before (N ∷ rest) M (Contains-append_right (N ∷ []) rest M there))

-- what is kept of the trees that a search of one of the closes found
pub kept_so : (I : Network) (closes : List Node) (known tree new_tree : Option Tree) (least new_least : ℕ) (N : Node) (E : Searched) (segments : List Segment) (budget : ℕ)
    → Contains closes N → IsFinished E.gathered I N.branch least budget → segments ≡ E.gathered.segments
    → IfSome tree (IsKnown I known closes least) → IsKept I segments least tree new_least new_tree → IfSome new_tree (IsKnown I known closes new_least)
kept_so I closes known tree new_tree least new_least N E segments budget among finished are before (inl same) =
    subst (λ (o : Option Tree). IfSome o (IsKnown I known closes new_least)) (sym same.1) (subst (λ (x : ℕ). IfSome tree (IsKnown I known closes x)) (sym same.0) before)
kept_so I closes known tree new_tree least new_least N E segments budget among finished are before (inr f) =
    let Found : Option Tree → Type 0 = λ o. IfSome o (λ t. IsTree I t × ReachesAsTold N.branch t) in
    let there : Contains E.gathered.segments f.segment = subst (λ (ss : List Segment). Contains ss f.segment) are f.among in
    let found : IsTree I f.found × ReachesAsTold N.branch f.found = subst Found f.best (All-contains (λ (s : Segment). Found s.best) E.gathered.segments f.segment finished.trees there) in
    subst (λ (o : Option Tree). IfSome o (IsKnown I known closes new_least)) (sym f.kept) (record { tree = found.0; cost_is = sym f.cost_is; comes = inr (N, among, found.1) })

-- where nobody has to be reached in a branch, nobody has to be in the whole
pub none_is_certain : (I : Network) (B : Branch) → NoneIsCertain I B → NoneIsCertain I all_trees
none_is_certain I B none v vertex = (let parts = or_parts (is_required I v) (has B.inside v) (none v vertex) in rw parts.0 refl)

-- the values that fall stay cheap
pub cheap_still : (I : Network) (least first : ℕ) → least ≤ first → (NoneIsCertain I all_trees → first ≤ sum_to (pays I) I.n) → NoneIsCertain I all_trees → least ≤ sum_to (pays I) I.n
cheap_still I least first low cheap none = omega (arith, cheap none)

-- where no tree is kept, none was before
pub none_so : (I : Network) (first : ℕ) (known tree new_tree : Option Tree) (segments : List Segment) (least new_least : ℕ) → IfNone tree ((least ≡ first) × (known ≡ None)) → IsKept I segments least tree new_least new_tree → IfNone new_tree ((new_least ≡ first) × (known ≡ None))
none_so I first known tree new_tree segments least new_least before (inl same) = subst (λ (o : Option Tree). IfNone o ((new_least ≡ first) × (known ≡ None))) (sym same.1) (by_case tree before)
  where
    by_case : (o : Option Tree) → IfNone o ((least ≡ first) × (known ≡ None)) → IfNone o ((new_least ≡ first) × (known ≡ None))
    by_case None h = (same.0 ∙ h.0, h.1)
    by_case (Some t) h = tt
none_so I first known tree new_tree segments least new_least before (inr f) = subst (λ (o : Option Tree). IfNone o ((new_least ≡ first) × (known ≡ None))) (sym f.kept) tt

-- what is known after a search costs as little as what it found
pub lowered_so : (I : Network) (N : Node) (least budget new_least : ℕ) (E : Searched) (segments : List Segment) → IsSearchFrom I N least budget E → segments ≡ E.gathered.segments → new_least ≡ least_found I least segments → new_least ≡ E.gathered.least
lowered_so I N least budget new_least E segments ran are is = is ∙ (ap (least_found I least) are ∙ sym ran.finished.least)
