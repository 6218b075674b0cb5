-- Which search is of a close: the first of those that are still to come, if any.
use Rattle.std.proofs.Common.{◌≡◌, ◌≢◌, ℕ, ◌+◌, ◌<◌, ◌≤◌, List, [], ◌∷◌, ◌++◌, length, Option, Some, None, refl, sym, ◌∙◌, subst, append_assoc, arith, inl, inr}
use Rattle.std.specs.Prelude.{All, Contains}
use Rattle.std.specs.Option.{option_to_list}
use Rattle.std.specs.List.{AllByRecursion}
use Rattle.std.proofs.lemmas.List.Elements.{All-contains, All-push, All-weaker, Contains-append_cases, Contains-append_left, Contains-append_right}
use Rattle.st_model.specs.declared.branch.Branch.{Branch}
use Rattle.st_model.specs.Network.{Network}
use Rattle.cut_packing.specs.declared.packing.Packing.{Packing}
use Rattle.cut_packing.specs.ProofTree.{ProofTree}
use Rattle.branching.specs.declared.node.Node.{Node}
use Rattle.log_format.specs.declared.proof_line.ProofLine.{ProofLine}
use Rattle.log_format.specs.declared.proof_line.ProofLine.TheVariants.{Split, Close}
use Rattle.log_format.specs.Text.{IsWritablePacking}
use Rattle.search_core.specs.declared.gathered.Searched.{Searched}
use Rattle.search_core.specs.Complete.{AllPackings, IsComplete}
use Rattle.search_core.proofs.Ids.{Among, among}
use Rattle.cert_checker.specs.declared.turn.Turn.{Turn}
use Rattle.cert_checker.specs.Path.{next_path, yes_path}
use Rattle.log_resume.specs.Grafted.{AreSearchesOf, none, passed, searched, StandsFor, grown, stays}
use Rattle.log_resume.specs.Growing.{IsDue, nothing, later, due}
use Rattle.log_resume.specs.Open.{closes_along}

-- the closes' numbers are this one at least
pub numbered : (path : Option (List Turn)) (number low : ℕ) (lines : List ProofLine) → low ≤ number → AllByRecursion (λ (N : Node). low ≤ N.id) (closes_along path number lines)
numbered path number low [] h = tt
numbered None number low (line ∷ lines) h = tt
numbered (Some path) number low (Split at ∷ lines) h = numbered (Some (yes_path path at)) number low lines h
numbered (Some path) number low (Close P ∷ lines) h = (h, numbered (next_path path) (number + 1) low lines (omega arith))

-- a search among those of some closes is of one of them
pub record IsSearchOf (I : Network) (E : Searched) (N : Node) : Type 0 where
  pub number : E.close ≡ N.id
  pub complete : IsComplete E.gathered I N.branch E.start E.budget
  pub writable : AllPackings IsWritablePacking E.gathered

pub search_of : (I : Network) (P : Node → Type 0) (closes : List Node) (searches : List Searched) (E : Searched) → AllByRecursion P closes → AreSearchesOf I closes searches → Among searches E
    → (N : Node) × P N × IsSearchOf I E N
search_of I P closes searches E each none there = absurd there
search_of I P closes searches E each (passed {closes = more} are) there = search_of I P more searches E each.1 are there
search_of I P closes searches E each (searched {N} {E = F} {closes = more} {searches = rest} number complete writable are) there =
    elim there [
      | inl is ↦ (N, each.0, subst (λ (G : Searched). IsSearchOf I G N) is (record { number = number; complete = complete; writable = writable }))
      | inr further ↦ search_of I P more rest E each.1 are further
    ]

-- so its number is this one at least
pub at_least : (I : Network) (low : ℕ) (closes : List Node) (searches : List Searched) (E : Searched) → AllByRecursion (λ (N : Node). low ≤ N.id) closes → AreSearchesOf I closes searches → Contains searches E → low ≤ E.close
at_least I low closes searches E each are there =
    let (N, high, is) = search_of I (λ (N : Node). low ≤ N.id) closes searches E each are (among searches E there) in
    let same = is.number in
    omega arith

-- what stands by some searches stands by all, where those of this number are the same
pub stands_more : (I : Network) (few all : List Searched) (number : ℕ) (B : Branch) (P : Packing) (q : ProofTree) → ((E : Searched) → Contains few E → Contains all E)
    → ((E : Searched) → Contains all E → E.close ≡ number → Contains few E) → StandsFor I few number B P q → StandsFor I all number B P q
stands_more I few all number B P q more same (grown {E} there is proves heavy) = grown (more E there) is proves heavy
stands_more I few all number B P q more same (stays light) = stays (λ E r there is reads. light E r (same E there is) is reads)

-- the searches before those that are still to come are of closes before this one
pub record Before (number : ℕ) (all searches : List Searched) : Type 0 where
  pub earlier : List Searched
  pub parts : all ≡ earlier ++ searches
  pub below : All (λ (E : Searched). E.close < number) earlier

module _ (I : Network) (all : List Searched) (number : ℕ) (N : Node) (closes : List Node) (is_number : N.id ≡ number) (high : AllByRecursion (λ (M : Node). number + 1 ≤ M.id) closes) where
  -- the first search, if it is of this close
  pub first_complete : (E : Searched) (searches : List Searched) → AreSearchesOf I (N ∷ closes) (E ∷ searches) → E.close ≡ number → IsComplete E.gathered I N.branch E.start E.budget
  first_complete E searches (passed are) is = let more = at_least I (number + 1) closes (E ∷ searches) E high are (0, omega arith, refl) in absurd (omega arith)
  first_complete E searches (searched same complete writable are) is = complete

  -- those that are left are of the later closes
  pub left_of_later : (searches : List Searched) (found : Option Searched) (left : List Searched) → AreSearchesOf I (N ∷ closes) searches → IsDue number searches found left → AreSearchesOf I closes left
  left_of_later searches found left are nothing = none
  left_of_later searches found left (passed are) (later other) = are
  left_of_later searches found left (searched same complete writable are) (later other) = absurd (other (same ∙ is_number))
  left_of_later searches found left (passed {searches = all_of} are) (due {E} {searches = rest} is) =
      let more = at_least I (number + 1) closes (E ∷ rest) E high are (0, omega arith, refl) in
      absurd (omega arith)
  left_of_later searches found left (searched same complete writable are) (due is) = are

  -- and the others are of closes up to this one
  pub before_later : (searches : List Searched) (found : Option Searched) (left : List Searched) → Before number all searches → IsDue number searches found left → Before (number + 1) all left
  before_later searches found left before nothing = record { earlier = before.earlier; parts = before.parts; below = All-weaker (λ (E : Searched). E.close < number) (λ (E : Searched). E.close < number + 1) (λ E h. omega arith) before.earlier before.below }
  before_later searches found left before (later other) = record { earlier = before.earlier; parts = before.parts; below = All-weaker (λ (E : Searched). E.close < number) (λ (E : Searched). E.close < number + 1) (λ E h. omega arith) before.earlier before.below }
  before_later searches found left before (due {E} {searches = rest} is) = record {
    earlier = before.earlier ++ E ∷ [];
    parts = before.parts ∙ sym (append_assoc before.earlier (E ∷ []) rest);
    below = All-push (λ (F : Searched). F.close < number + 1) before.earlier E (All-weaker (λ (F : Searched). F.close < number) (λ (F : Searched). F.close < number + 1) (λ F h. omega arith) before.earlier before.below) (omega arith);
  }

  -- what was found is all of this number
  found_there : (searches : List Searched) (found : Option Searched) (left : List Searched) → IsDue number searches found left → (E : Searched) → Contains (option_to_list found) E → Contains searches E
  found_there searches found left nothing E there = there
  found_there searches found left (later {E = F} {searches = rest} other) E there = absurd (among [] E there)
  found_there searches found left (due {E = F} {searches = rest} is) E there = Contains-append_left (F ∷ []) rest E there

  all_found : (searches : List Searched) (found : Option Searched) (left : List Searched) → AreSearchesOf I (N ∷ closes) searches → IsDue number searches found left
      → (E : Searched) → Contains searches E → E.close ≡ number → Contains (option_to_list found) E
  all_found searches found left are nothing E there is = there
  all_found searches found left (passed are) (later {E = F} {searches = rest} other) E there is =
      let more = at_least I (number + 1) closes (F ∷ rest) E high are there in
      absurd (omega arith)
  all_found searches found left (searched same complete writable are) (later other) E there is = absurd (other (same ∙ is_number))
  all_found searches found left are (due {E = F} {searches = rest} is_due) E there is =
      elim (Contains-append_cases (F ∷ []) rest E there) [
        | inl here ↦ here
        | inr further ↦ let more = at_least I (number + 1) closes rest E high (left_of_later (F ∷ rest) (Some F) rest are (due is_due)) further in absurd (omega arith)
      ]

  pub stands_by_all : (B : Branch) (P : Packing) (q : ProofTree) (searches : List Searched) (found : Option Searched) (left : List Searched) → Before number all searches → AreSearchesOf I (N ∷ closes) searches
      → IsDue number searches found left → StandsFor I (option_to_list found) number B P q → StandsFor I all number B P q
  stands_by_all B P q searches found left before are is_due stands =
      stands_more I (option_to_list found) all number B P q
      (λ E there. subst (λ (Es : List Searched). Contains Es E) (sym before.parts) (Contains-append_right before.earlier searches E (found_there searches found left is_due E there)))
      same stands
    where
      same : (E : Searched) → Contains all E → E.close ≡ number → Contains (option_to_list found) E
      same E there is = elim (Contains-append_cases before.earlier searches E (subst (λ (Es : List Searched). Contains Es E) before.parts there)) [
        | inl early ↦ let less : E.close < number = All-contains (λ (F : Searched). F.close < number) before.earlier E before.below early in absurd (omega arith)
        | inr here ↦ all_found searches found left are is_due E here is
      ]

-- nothing is due where no search is left, or the first is of another close
pub none_due : (number : ℕ) (searches : List Searched) → length searches ≡ 0 → IsDue number searches None searches
none_due number [] none_left = nothing
none_due number (E ∷ searches) none_left = absurd (omega arith)

pub other_due : (number : ℕ) (searches : List Searched) (E : Searched) (left : List Searched) → searches ≡ E ∷ left → E.close ≢ number → IsDue number searches None searches
other_due number searches E left parts other = subst (λ (Es : List Searched). IsDue number Es None Es) (sym parts) (later other)
