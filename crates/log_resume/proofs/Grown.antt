-- A graft grows line by line of the old proof: whatever is written in the place of the lines that are still to come, what is written so far and that are in the place of all.
use Rattle.std.proofs.Common.{◌≡◌, ℕ, ◌+◌, ◌^◌, ◌<◌, min, List, [], ◌∷◌, ◌++◌, length, Option, Some, None, refl, sym, ap, ◌∙◌, subst, append_assoc, add_assoc, arith}
use Rattle.std.specs.Option.{option_to_list}
use Rattle.std.proofs.lemmas.List.{append-nil}
use Rattle.std.proofs.lemmas.List.Elements.{All-nil}
use Rattle.st_model.specs.declared.branch.Branch.{Branch}
use Rattle.st_model.specs.declared.split_at.SplitAt.{SplitAt}
use Rattle.st_model.specs.Network.{Network}
use Rattle.st_model.specs.Branch.{yes_half, no_half}
use Rattle.cut_packing.specs.declared.packing.Packing.{Packing}
use Rattle.cut_packing.specs.ProofTree.{ProofTree, Proves, close, split}
use Rattle.branching.specs.declared.node.Node.{Node}
use Rattle.lift_back.specs.State.{State, IsState}
use Rattle.log_format.specs.declared.proof_line.ProofLine.{ProofLine}
use Rattle.log_format.specs.declared.proof_line.ProofLine.TheVariants as line
use Rattle.log_format.specs.Accepts.{left_over}
use Rattle.log_format.specs.Preorder.{preorder}
use Rattle.search_core.specs.declared.gathered.Searched.{Searched}
use Rattle.search_core.specs.Complete.{IsComplete}
use Rattle.search_core.specs.ReadOff.{least_weight}
use Rattle.cert_checker.specs.declared.turn.Turn.{Turn}
use Rattle.cert_checker.specs.Path.{branch_of, leaving_out, next_path, yes_path}
use Rattle.cert_checker.proofs.LeftOut.{leads_to_left_over}
use Rattle.cert_checker.proofs.Paths.{branch_of-yes_path}
use Rattle.log_resume.specs.Closes.{close_count, closes_of}
use Rattle.log_resume.specs.Grafted.{AreSearchesOf, IsGrafted, StandsFor, at_close, at_split}
use Rattle.log_resume.specs.Open.{closes_along}
use Rattle.log_resume.specs.Growing.{Goes, Growth, IsDue, IsGrown, IsReady, IsReadyFor, MayPass, MayWalk}
use Rattle.log_resume.proofs.Due.{Before, before_later, first_complete, left_of_later, numbered, stands_by_all}
use Rattle.log_resume.proofs.Walks.{branch_of-no_path, closes_from_start, next-no_path, next-yes_path, no_path}
use Rattle.log_resume.proofs.Weighing.{may_walk-tree, min_assoc}

-- ---- what is written in the place of some lines

-- from a path on, where the next close has this number, and the less of top and of what its closes weigh: a split stands as it is, and in the place of a close what stands for it
abbrev pub GrowsTo : Network → List Searched → Option (List Turn) → ℕ → ℕ → List ProofLine → List ProofLine → ℕ → Type 0
GrowsTo I all path number top [] lines least = (lines ≡ []) × (least ≡ top)
GrowsTo I all None number top (line ∷ old) lines least = ⊥
GrowsTo I all (Some path) number top (line.Split at ∷ old) lines least =
    (later : List ProofLine) × (lines ≡ line.Split at ∷ later) × GrowsTo I all (Some (yes_path path at)) number top old later least
GrowsTo I all (Some path) number top (line.Close P ∷ old) lines least =
    (q : ProofTree) × (later : List ProofLine) × StandsFor I all number (branch_of path) P q × (lines ≡ preorder q ++ later)
    × GrowsTo I all (next_path path) (number + 1) (min top (least_weight I (branch_of path) q)) old later least

-- in the place of a whole tree stands its graft
record Grafts (I : Network) (all : List Searched) (path : List Turn) (number top : ℕ) (p : ProofTree) (old lines : List ProofLine) (least : ℕ) : Type 0 where
  tree : ProofTree
  later : List ProofLine
  grafted : IsGrafted I all number (branch_of path) p tree
  parts : lines ≡ preorder tree ++ later
  grows : GrowsTo I all (next_path path) (number + close_count p) (min top (least_weight I (branch_of path) tree)) old later least

grafts : (I : Network) (all : List Searched) (path : List Turn) (number top : ℕ) (p : ProofTree) (old lines : List ProofLine) (least : ℕ)
    → GrowsTo I all (Some path) number top (preorder p ++ old) lines least → Grafts I all path number top p old lines least
grafts I all path number top (close P) old lines least (q, later, stands, parts, grows) =
    record { tree = q; later = later; grafted = at_close stands; parts = parts; grows = grows }
grafts I all path number top (split at a b) old lines least (later, parts, grows) =
    let first = grafts I all (yes_path path at) number top a (preorder b ++ old) later least
    (subst (λ (rest : List ProofLine). GrowsTo I all (Some (yes_path path at)) number top rest later least) (append_assoc (preorder a) (preorder b) old) grows) in
    let inner : ℕ = least_weight I (branch_of (yes_path path at)) first.tree in
    let second = grafts I all (no_path path at) (number + close_count a) (min top inner) b old first.later least
    (subst (λ (p : Option (List Turn)). GrowsTo I all p (number + close_count a) (min top inner) (preorder b ++ old) first.later least) (next-yes_path path at) first.grows) in
    let outer : ℕ = least_weight I (branch_of (no_path path at)) second.tree in
    let yes : IsGrafted I all number (yes_half (branch_of path) at) a first.tree = subst (λ (B : Branch). IsGrafted I all number B a first.tree) (branch_of-yes_path path at) first.grafted in
    let no : IsGrafted I all (number + close_count a) (no_half (branch_of path) at) b second.tree = subst (λ (B : Branch). IsGrafted I all (number + close_count a) B b second.tree) (branch_of-no_path path at) second.grafted in
    let both : min (min top inner) outer ≡ min top (min (least_weight I (yes_half (branch_of path) at) first.tree) (least_weight I (no_half (branch_of path) at) second.tree)) =
    min_assoc top inner outer ∙ (λ i. min top (min (least_weight I (branch_of-yes_path path at i) first.tree) (least_weight I (branch_of-no_path path at i) second.tree))) in
    record {
      tree = split at first.tree second.tree;
      later = second.later;
      grafted = at_split yes no;
      parts = parts ∙ ap (λ (rest : List ProofLine). line.Split at ∷ rest)
          (first.parts ∙ (ap (λ (rest : List ProofLine). preorder first.tree ++ rest) second.parts ∙ sym (append_assoc (preorder first.tree) (preorder second.tree) second.later)));
      grows = subst (λ (p : Option (List Turn)). GrowsTo I all p (number + (close_count a + close_count b)) (min top (min (least_weight I (yes_half (branch_of path) at) first.tree) (least_weight I (no_half (branch_of path) at) second.tree))) old second.later least)
          (next-no_path path at)
          (subst (λ (n : ℕ). GrowsTo I all (next_path (no_path path at)) n (min top (min (least_weight I (yes_half (branch_of path) at) first.tree) (least_weight I (no_half (branch_of path) at) second.tree))) old second.later least)
          (add_assoc number (close_count a) (close_count b))
          (subst (λ (t : ℕ). GrowsTo I all (next_path (no_path path at)) (number + close_count a + close_count b) t old second.later least) both second.grows));
    }

-- ---- the walk

-- the lines that are still to come, and what is written so far
pub record IsGrowing (I : Network) (all : List Searched) (root : List Turn) (top : ℕ) (old : List ProofLine) (path : Option (List Turn)) (searches : List Searched) (number : ℕ) (lines : List ProofLine) (least : ℕ) (rest : List ProofLine) : Type 0 where
  pub may : MayWalk I path rest
  pub to_come : AreSearchesOf I (closes_along path number rest) searches
  pub before : Before number all searches
  pub room : number + length rest < 2 ^ 64
  pub goes_on : (later : List ProofLine) (last : ℕ) → GrowsTo I all path number least rest later last → GrowsTo I all (Some root) 0 top old (lines ++ later) last

module _ (I : Network) (all : List Searched) (root : List Turn) (top : ℕ) (old : List ProofLine) (path : List Turn) (searches : List Searched) (number : ℕ) (lines : List ProofLine) (least : ℕ) (rest : List ProofLine) where
  -- after a split
  after_split : (at : SplitAt) → IsGrowing I all root top old (Some path) searches number lines least (line.Split at ∷ rest)
      → IsGrowing I all root top old (Some (yes_path path at)) searches number (lines ++ line.Split at ∷ []) least rest
  after_split at is = record {
    may = is.may.1;
    to_come = is.to_come;
    before = is.before;
    room = let room = is.room in omega arith;
    goes_on = λ later last grows. subst (λ (ls : List ProofLine). GrowsTo I all (Some root) 0 top old ls last) (sym (append_assoc lines (line.Split at ∷ []) later)) (is.goes_on (line.Split at ∷ later) last (later, refl, grows));
  }

  -- after a close
  after_close : (P : Packing) (found : Option Searched) (left : List Searched) (q : ProofTree) → IsGrowing I all root top old (Some path) searches number lines least (line.Close P ∷ rest)
      → IsDue number searches found left → StandsFor I (option_to_list found) number (branch_of path) P q
      → IsGrowing I all root top old (next_path path) left (number + 1) (lines ++ preorder q) (min least (least_weight I (branch_of path) q)) rest
  after_close P found left q is is_due stands =
      let node : Node = record { id = number; branch = branch_of path; packing = P } in
      let closes : List Node = closes_along (next_path path) (number + 1) rest in
      let high = numbered (next_path path) (number + 1) (number + 1) rest (omega arith) in
      let stands_all = stands_by_all I all number node closes refl high (branch_of path) P q searches found left is.before is.to_come is_due stands in
      record {
        may = is.may.1;
        to_come = left_of_later I all number node closes refl high searches found left is.to_come is_due;
        before = before_later I all number node closes refl high searches found left is.before is_due;
        room = let room = is.room in omega arith;
        goes_on = λ later last grows. subst (λ (ls : List ProofLine). GrowsTo I all (Some root) 0 top old ls last) (sym (append_assoc lines (preorder q) later))
            (is.goes_on (preorder q ++ later) last (q, later, stands_all, refl, grows));
      }

-- ---- the same of a graft in the making

-- a graft of this instance is growing
pub record IsGrowingOf (I : Network) (all : List Searched) (root : List Turn) (top : ℕ) (old : List ProofLine) (g : Growth) (rest : List ProofLine) : Type 0 where
  pub instance : g.instance ≡ I
  pub growing : IsGrowing I all root top old g.path g.searches g.number g.lines g.least rest

module _ (I : Network) (all : List Searched) (root : List Turn) (top : ℕ) (old : List ProofLine) (g : Growth) where
  -- the growth, where the path is known
  on_path : (path : List Turn) (rest : List ProofLine) → g.path ≡ Some path → IsGrowingOf I all root top old g rest → IsGrowing I all root top old (Some path) g.searches g.number g.lines g.least rest
  on_path path rest was is = subst (λ (p : Option (List Turn)). IsGrowing I all root top old p g.searches g.number g.lines g.least rest) was is.growing

  -- it is ready for the next line
  pub ready : (line : ProofLine) (rest : List ProofLine) → IsGrowingOf I all root top old g (line ∷ rest) → IsReadyFor g line
  ready (line.Split at) rest is = subst (λ (J : Network). MayPass J g.path (line.Split at)) (sym is.instance) is.growing.may.0
  ready (line.Close P) rest is = by_path g.path refl
    where
      by_path : (path : Option (List Turn)) → g.path ≡ path → (path : List Turn) × IsReady g path
      by_path None was = absurd (subst (λ (p : Option (List Turn)). MayPass I p (line.Close P)) was is.growing.may.0)
      by_path (Some path) was =
          let here = on_path path (line.Close P ∷ rest) was is in
          let node : Node = record { id = g.number; branch = branch_of path; packing = P } in
          let closes : List Node = closes_along (next_path path) (g.number + 1) rest in
          let high = numbered (next_path path) (g.number + 1) (g.number + 1) rest (omega arith) in (
            path,
            record {
              path = was;
              search = λ E later parts is_number. subst (λ (J : Network). IsComplete E.gathered J (branch_of path) E.start E.budget) (sym is.instance)
                  (first_complete I all g.number node closes refl high E later (subst (AreSearchesOf I (node ∷ closes)) parts here.to_come) is_number);
            },
          )

  -- and goes on after it
  pub after_line : (line : ProofLine) (rest : List ProofLine) (h : Growth) → IsGrowingOf I all root top old g (line ∷ rest) → Goes g line h → IsGrowingOf I all root top old h rest
  after_line (line.Split at) rest h is goes =
      let here = after_split I all root top old goes.path g.searches g.number g.lines g.least rest at (on_path goes.path (line.Split at ∷ rest) goes.was is) in
      subst (λ (k : Growth). IsGrowingOf I all root top old k rest) (sym goes.is) (record { instance = is.instance; growing = here })
  after_line (line.Close P) rest h is goes =
      let stands = subst (λ (J : Network). StandsFor J (option_to_list goes.found) g.number (branch_of goes.path) P goes.tree) is.instance goes.stands in
      let here = after_close I all root top old goes.path g.searches g.number g.lines g.least rest P goes.found goes.left goes.tree (on_path goes.path (line.Close P ∷ rest) goes.was is) goes.is_due stands in
      subst (λ (k : Growth). IsGrowingOf I all root top old k rest) (sym goes.is) (record {
        instance = is.instance;
        growing = subst (λ (J : Network). IsGrowing I all root top old (next_path goes.path) goes.left (g.number + 1) (g.lines ++ preorder goes.tree) (min g.least (least_weight J (branch_of goes.path) goes.tree)) rest) (sym is.instance) here;
      })

-- ---- from the first line to the last

module _ (s : State) (state : IsState s) (all : List Searched) (top : ℕ) (p : ProofTree) where
  abbrev root : List Turn
  root = leaving_out s.gone

  abbrev lines_of : List ProofLine
  lines_of = preorder p

  pub begins : (x : ℕ) (g : Growth) → Proves s.instance (left_over s) x p → AreSearchesOf s.instance (closes_of (left_over s) p) all → length (preorder p) < 2 ^ 64
      → g ≡ record { instance = s.instance; path = Some (leaving_out s.gone); searches = all; number = 0; lines = []; least = top } → IsGrowingOf s.instance all root top (preorder p) g (preorder p)
  begins x g proves are few is = subst (λ (k : Growth). IsGrowingOf s.instance all root top (preorder p) k (preorder p)) (sym is) (record {
    instance = refl;
    growing = record {
      may = subst (MayWalk s.instance (Some root)) (append-nil (preorder p))
          (may_walk-tree s.instance root x p [] (subst (λ (B : Branch). Proves s.instance B x p) (sym (leads_to_left_over s state)) proves) tt);
      to_come = subst (λ (Ns : List Node). AreSearchesOf s.instance Ns all) (sym (closes_from_start s p (preorder p) state refl)) are;
      before = record { earlier = []; parts = refl; below = All-nil (λ (E : Searched). E.close < 0) };
      room = omega arith;
      goes_on = λ later last grows. grows;
    };
  })

  pub ends : (g : Growth) (lines : List ProofLine) (least : ℕ) → IsGrowingOf s.instance all root top (preorder p) g [] → lines ≡ g.lines → least ≡ g.least → IsGrown s.instance all (left_over s) p top lines least
  ends g lines least is are is_least =
      let done : GrowsTo s.instance all (Some root) 0 top (preorder p) (g.lines ++ []) g.least = is.growing.goes_on [] g.least (refl, refl) in
      let whole = grafts s.instance all root 0 top p [] (g.lines ++ []) g.least (subst (λ (ls : List ProofLine). GrowsTo s.instance all (Some root) 0 top ls (g.lines ++ []) g.least) (sym (append-nil (preorder p))) done) in
      record {
        after = whole.tree;
        grafted = subst (λ (B : Branch). IsGrafted s.instance all 0 B p whole.tree) (leads_to_left_over s state) whole.grafted;
        lines = are ∙ (sym (append-nil g.lines) ∙ (whole.parts ∙ (ap (λ (ls : List ProofLine). preorder whole.tree ++ ls) whole.grows.0 ∙ append-nil (preorder whole.tree))));
        is_least = is_least ∙ (whole.grows.1 ∙ ap (λ (B : Branch). min top (least_weight s.instance B whole.tree)) (leads_to_left_over s state));
      }
