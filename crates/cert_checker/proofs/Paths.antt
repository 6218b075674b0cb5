-- The branches that a path leads to and leaves open.
use Rattle.std.proofs.Common.{◌≡◌, ℕ, Bool, false, not, ◌||◌, List, [], ◌∷◌, ◌++◌, Option, Some, None, reverse, refl, sym, ap, subst, ◌∙◌, arith}
use Rattle.std.specs.Prelude.{◌==◌}
use Rattle.std.proofs.lemmas.Bool.Decides.{nat_tests}
use Rattle.std.proofs.lemmas.List.{reverse-append}
use Rattle.st_model.specs.declared.branch.Branch.{Branch}
use Rattle.st_model.specs.declared.split_at.SplitAt.{SplitAt}
use Rattle.st_model.specs.declared.split_at.SplitAt.TheVariants.{Vertex, Link}
use Rattle.st_model.specs.Lists.{has}
use Rattle.st_model.specs.Ground.{Ground}
use Rattle.st_model.specs.Branch.{joined, yes_half, no_half}
use Rattle.st_model.proofs.Halves.{has-joined}
use Rattle.cut_packing.specs.ProofTree.{IsSplitAtIn}
use Rattle.cert_checker.specs.declared.turn.Turn.{Turn}
use Rattle.cert_checker.specs.declared.turn.Turn.TheVariants.{Inside, Outside, Used, Barred}
use Rattle.cert_checker.specs.Path.{turned, turned_back, TellsEnds, TellEnds, without_new, branch_of, waiting, open_branches, next_path, yes_path, AreSplitsIn}
use Rattle.cert_checker.proofs.Places.{without-with_vertex, without_new-joined, without_last-push}

-- a turn is taken back
pub turned_back-turned : (B : Branch) (turn : Turn) → TellsEnds B turn → turned_back (turned B turn) turn ≡ B
turned_back-turned B (Inside v) told = ap (λ (xs : List ℕ). let C : Branch = record B { inside = xs } in C) (without-with_vertex B.inside v)
turned_back-turned B (Outside v) told = ap (λ (xs : List ℕ). let C : Branch = record B { outside = xs } in C) (without-with_vertex B.outside v)
turned_back-turned B (Used a b a_came b_came) told =
    let inside : without_new (without_new (joined (joined B.inside a) b) b b_came) a a_came ≡ B.inside = ap (λ (xs : List ℕ). without_new xs a a_came) (without_new-joined (joined B.inside a) b b_came told.1) ∙ without_new-joined B.inside a a_came told.0 in
    let must = without_last-push B.must (a, b) in
    λ i. (let C : Branch = record B { inside = inside i; must = must i } in C)
turned_back-turned B (Barred a b) told = ap (λ (ps : List (ℕ × ℕ)). let C : Branch = record B { barred = ps } in C) (without_last-push B.barred (a, b))

-- the branch before the last turn is found again
pub taken_back : (turn : Turn) (turns rest : List Turn) (B C : Branch) → TellEnds (reverse turns) → turns ≡ rest ++ turn ∷ [] → B ≡ branch_of (reverse turns) → C ≡ turned_back B turn → C ≡ branch_of (reverse rest)
taken_back turn turns rest B C told last led back =
    let path : reverse turns ≡ turn ∷ reverse rest = ap reverse last ∙ reverse-append rest (turn ∷ []) in
    let tells : TellEnds (turn ∷ reverse rest) = subst TellEnds path told in
    back ∙ ap (λ (D : Branch). turned_back D turn) (led ∙ ap branch_of path) ∙ turned_back-turned (branch_of (reverse rest)) turn tells.0

-- turns at splits say rightly which ends come inside
pub tell_ends : (G : Ground) (path : List Turn) → AreSplitsIn G path → TellEnds path
tell_ends G [] splits = tt
tell_ends G (turn ∷ path) splits = (splits.0.1, tell_ends G path splits.1)

-- a path goes on into the half that says yes
pub splits-yes_path : (G : Ground) (path : List Turn) (at : SplitAt) → IsSplitAtIn G (branch_of path) at → AreSplitsIn G path → AreSplitsIn G (yes_path path at)
splits-yes_path G path (Vertex v) is splits = ((is, tt), splits)
splits-yes_path G path (Link a b) is splits =
    let apart : (a == b) ≡ false = let low = is.ordered in grind (arith, nat_tests) in
    let same : has (joined (branch_of path).inside a) b ≡ has (branch_of path).inside b = has-joined (branch_of path).inside a b ∙ ap (λ (t : Bool). t || has (branch_of path).inside b) apart in
    ((is, (refl, ap not (sym same))), splits)

-- it leads there
pub branch_of-yes_path : (path : List Turn) (at : SplitAt) → branch_of (yes_path path at) ≡ yes_half (branch_of path) at
branch_of-yes_path path (Vertex v) = refl
branch_of-yes_path path (Link a b) = refl

-- and the other half waits
pub waiting-yes_path : (path : List Turn) (at : SplitAt) → waiting (yes_path path at) ≡ no_half (branch_of path) at ∷ waiting path
waiting-yes_path path (Vertex v) = refl
waiting-yes_path path (Link a b) = refl

-- the open branches at the end of a path, if there is one
abbrev pub opened : Option (List Turn) → List Branch
opened None = []
opened (Some path) = open_branches path

-- what waits is open on the next path
pub waiting-next_path : (path : List Turn) → waiting path ≡ opened (next_path path)
waiting-next_path [] = refl
waiting-next_path (Inside v ∷ path) = refl
waiting-next_path (Outside v ∷ path) = waiting-next_path path
waiting-next_path (Used a b a_came b_came ∷ path) = refl
waiting-next_path (Barred a b ∷ path) = waiting-next_path path
