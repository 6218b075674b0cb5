-- The arc into a set of which the least is left.
use Rattle.std.proofs.Common.{◌≡◌, ℕ, ◌+◌, ◌-◌, ◌<◌, ◌≤◌, Bool, true, false, cond, List, [], ◌∷◌, ◌++◌, length, get_or, take, Option, Some, None, inl, inr, refl, sym, ap, ◌∙◌, arith}
use Rattle.std.specs.Prelude.{IsTrue, IsFalse, All, IfSome, IfNone, nat_le}
use Rattle.std.specs.List.{AllByRecursion}
use Rattle.std.proofs.lemmas.Bool.{cases_Bool, cases_lt, true_from_ne_false}
use Rattle.std.proofs.lemmas.Bool.Decides.{nat_tests}
use Rattle.std.proofs.lemmas.List.{get_or_past, take_more}
use Rattle.std.proofs.lemmas.List.Elements.{recursion_from_All, All-from_recursion}
use Rattle.st_model.specs.declared.branch.Branch.{Branch}
use Rattle.st_model.specs.Branch.{is_present, open_price}
use Rattle.st_model.specs.Lists.{has}
use Rattle.st_model.proofs.Marked.{at_member, has_at}
use Rattle.cut_packing.specs.declared.arcs.LoadedArc.{LoadedArc}
use Rattle.cut_packing.specs.declared.cut.Cut.{Cut}
use Rattle.cut_packing.specs.Loads.{arcs_into, IsLoadedIn, AreLoadedIn}
use Rattle.cut_packing.specs.Packing.{load}
use Rattle.arborescence.specs.Choosing.{IsEntering, NoneEnters, entering_by, least_in, least_over, lesser}
use Rattle.arborescence.specs.DiNetwork.{DiNetwork, away_price, di_ground}
use Rattle.arborescence.specs.declared.entering.Entering.{Entering}

-- one arc more
pub least_in-push : (set : List ℕ) (head : ℕ) (given : Option Entering) (arcs : List LoadedArc) (a : LoadedArc) → least_in set head given (arcs ++ a ∷ []) ≡ cond (has set a.tail) (least_in set head given arcs) (Some (lesser (least_in set head given arcs) (entering_by head a)))
least_in-push set head given [] a = refl
least_in-push set head given (b ∷ arcs) a = least_in-push set head (cond (has set b.tail) given (Some (lesser given (entering_by head b)))) arcs a

-- one head more
pub least_over-push : (arcs : List (List LoadedArc)) (set : List ℕ) (given : Option Entering) (vs : List ℕ) (v : ℕ) → least_over arcs set given (vs ++ v ∷ []) ≡ least_in set v (least_over arcs set given vs) (arcs_into arcs v)
least_over-push arcs set given [] v = refl
least_over-push arcs set given (w ∷ vs) v = least_over-push arcs set (least_in set w given (arcs_into arcs w)) vs v

module _ (set : List ℕ) (head : ℕ) (given old : Option Entering) (arcs : List LoadedArc) (i : ℕ) (d : LoadedArc) (below : i < length arcs) (is : old ≡ least_in set head given (take i arcs)) where
  more : least_in set head given (take (i + 1) arcs) ≡ cond (has set (get_or arcs i d).tail) old (Some (lesser old (entering_by head (get_or arcs i d))))
  more = rw (take_more arcs i d below, is) (least_in-push set head given (take i arcs) (get_or arcs i d))

  -- the next arc doesn't enter
  pub least_in_past : IsTrue (has set (get_or arcs i d).tail) → old ≡ least_in set head given (take (i + 1) arcs)
  least_in_past inside = sym (more ∙ rw inside refl)

  -- it does
  pub least_in_with : (left : ℕ) (e : Entering) → IsFalse (has set (get_or arcs i d).tail) → (get_or arcs i d).load + left ≡ (get_or arcs i d).cost → e ≡ lesser old (record { tail = (get_or arcs i d).tail; head = head; left = left }) → Some e ≡ least_in set head given (take (i + 1) arcs)
  least_in_with left e out sum is_e =
      let same : left ≡ (get_or arcs i d).cost - (get_or arcs i d).load = omega arith in
      sym (more ∙ rw (out, is_e, same) refl)

pub least_over_more : (arcs : List (List LoadedArc)) (set : List ℕ) (given : Option Entering) (vs : List ℕ) (i : ℕ) → i < length vs → least_over arcs set given (take (i + 1) vs) ≡ least_in set (get_or vs i 0) (least_over arcs set given (take i vs)) (arcs_into arcs (get_or vs i 0))
least_over_more arcs set given vs i below = rw (take_more vs i 0 below) (least_over-push arcs set given (take i vs) (get_or vs i 0))

-- what holds of both holds of the lesser
lesser_holds : (P : Entering → Type 0) (given : Option Entering) (e : Entering) → IfSome given P → P e → P (lesser given e)
lesser_holds P None e g h = h
lesser_holds P (Some f) e g h = by_case (nat_le f.left e.left)
  where
    by_case : (b : Bool) → P (cond b f e)
    by_case true = g
    by_case false = h

-- what holds of the given one and of each arc holds of the least
in_holds : (P : Entering → Type 0) (set : List ℕ) (head : ℕ) (given : Option Entering) (arcs : List LoadedArc) → IfSome given P → AllByRecursion (λ a. IsFalse (has set a.tail) → P (entering_by head a)) arcs → IfSome (least_in set head given arcs) P
in_holds P set head given [] g all = g
in_holds P set head given (a ∷ arcs) g all = elim (cases_Bool (has set a.tail)) [
  | inl inside ↦ rw inside (in_holds P set head given arcs g all.1)
  | inr out ↦ rw out (in_holds P set head (Some (lesser given (entering_by head a))) arcs (lesser_holds P given (entering_by head a) g (all.0 out)) all.1)
]

over_holds : (P : Entering → Type 0) (arcs : List (List LoadedArc)) (set : List ℕ) (given : Option Entering) (vs : List ℕ) → IfSome given P → AllByRecursion (λ v. AllByRecursion (λ a. IsFalse (has set a.tail) → P (entering_by v a)) (arcs_into arcs v)) vs → IfSome (least_over arcs set given vs) P
over_holds P arcs set given [] g all = g
over_holds P arcs set given (v ∷ vs) g all = over_holds P arcs set (least_in set v given (arcs_into arcs v)) vs (in_holds P set v given (arcs_into arcs v) g all.0) all.1

-- there is one, and no more than this is left of it
abbrev IsWithin : ℕ → Option Entering → Type 0
IsWithin x None = ⊥
IsWithin x (Some e) = e.left ≤ x

lesser_within : (given : Option Entering) (e : Entering) (x : ℕ) → IsWithin x given → (lesser given e).left ≤ x
lesser_within None e x within = absurd within
lesser_within (Some f) e x within = grind (arith, nat_tests)

lesser_own : (given : Option Entering) (e : Entering) → (lesser given e).left ≤ e.left
lesser_own None e = omega arith
lesser_own (Some f) e = grind (arith, nat_tests)

in_kept : (set : List ℕ) (head : ℕ) (given : Option Entering) (arcs : List LoadedArc) (x : ℕ) → IsWithin x given → IsWithin x (least_in set head given arcs)
in_kept set head given [] x within = within
in_kept set head given (a ∷ arcs) x within = elim (cases_Bool (has set a.tail)) [
  | inl inside ↦ rw inside (in_kept set head given arcs x within)
  | inr out ↦ rw out (in_kept set head (Some (lesser given (entering_by head a))) arcs x (lesser_within given (entering_by head a) x within))
]

over_kept : (arcs : List (List LoadedArc)) (set : List ℕ) (given : Option Entering) (vs : List ℕ) (x : ℕ) → IsWithin x given → IsWithin x (least_over arcs set given vs)
over_kept arcs set given [] x within = within
over_kept arcs set given (v ∷ vs) x within = over_kept arcs set (least_in set v given (arcs_into arcs v)) vs x (in_kept set v given (arcs_into arcs v) x within)

-- each arc from outside has as much left
in_least : (set : List ℕ) (head : ℕ) (given : Option Entering) (arcs : List LoadedArc) → AllByRecursion (λ a. IsFalse (has set a.tail) → IsWithin (a.cost - a.load) (least_in set head given arcs)) arcs
in_least set head given [] = tt
in_least set head given (a ∷ arcs) =
    let next : Option Entering = cond (has set a.tail) given (Some (lesser given (entering_by head a))) in
    (λ out. in_kept set head next arcs (a.cost - a.load) (rw out (lesser_own given (entering_by head a))), in_least set head next arcs)

all_later : (P Q : LoadedArc → Type 0) (arcs : List LoadedArc) → ((a : LoadedArc) → P a → Q a) → AllByRecursion P arcs → AllByRecursion Q arcs
all_later P Q [] f all = tt
all_later P Q (a ∷ arcs) f all = (f a all.0, all_later P Q arcs f all.1)

over_least : (arcs : List (List LoadedArc)) (set : List ℕ) (given : Option Entering) (vs : List ℕ) → AllByRecursion (λ v. AllByRecursion (λ a. IsFalse (has set a.tail) → IsWithin (a.cost - a.load) (least_over arcs set given vs)) (arcs_into arcs v)) vs
over_least arcs set given [] = tt
over_least arcs set given (v ∷ vs) = (
  all_later (λ a. IsFalse (has set a.tail) → IsWithin (a.cost - a.load) (least_in set v given (arcs_into arcs v))) (λ a. IsFalse (has set a.tail) → IsWithin (a.cost - a.load) (least_over arcs set (least_in set v given (arcs_into arcs v)) vs)) (arcs_into arcs v) (λ a h out. over_kept arcs set (least_in set v given (arcs_into arcs v)) vs (a.cost - a.load) (h out)) (in_least set v given (arcs_into arcs v)),
  over_least arcs set (least_in set v given (arcs_into arcs v)) vs,
)

-- an arc into each vertex that is there bears at most what it costs
pub into_bears : (arcs : List (List LoadedArc)) (v : ℕ) → All (All (λ arc. arc.load ≤ arc.cost)) arcs → All (λ arc. arc.load ≤ arc.cost) (arcs_into arcs v)
into_bears arcs v bears = elim (cases_lt v (length arcs)) [
  | inl room ↦ bears v [] room
  | inr past ↦ λ k d below. let none = get_or_past arcs v [] past in absurd (omega (arith, ap length none))
]

-- an open arc into the set
record IsInto (D : DiNetwork) (B : Branch) (cuts : List Cut) (set : List ℕ) (e : Entering) : Type 0 where
  outside : IsFalse (has set e.tail)
  inside : IsTrue (has set e.head)
  tail : IsTrue (is_present B e.tail)
  price : open_price (di_ground D) B e.tail e.head ≡ Some (load cuts (e.tail, e.head) + e.left)

module _ (D : DiNetwork) (B : Branch) (cuts : List Cut) (arcs : List (List LoadedArc)) (set : List ℕ) (loaded : AreLoadedIn (di_ground D) B (away_price D) cuts arcs) (bears : All (All (λ arc. arc.load ≤ arc.cost)) arcs) where
  one_into : (v : ℕ) (a : LoadedArc) → IsTrue (has set v) → IsFalse (has set a.tail) → IsLoadedIn (di_ground D) B cuts v a → a.load ≤ a.cost → IsInto D B cuts set (entering_by v a)
  one_into v a inside out one fits = record {
    outside = out;
    inside = inside;
    tail = one.tail;
    price = one.cost ∙ ap Some (let is = one.load in omega arith);
  }

  is_into : IfSome (least_over arcs set None set) (IsInto D B cuts set)
  is_into = over_holds (IsInto D B cuts set) arcs set None set tt (recursion_from_All _ set (λ k d below. recursion_from_All _ (arcs_into arcs (get_or set k d)) (λ j e within. λ out. one_into (get_or set k d) (get_or (arcs_into arcs (get_or set k d)) j e) (has_at set k d below) out (loaded.sound (get_or set k d) j e within) (into_bears arcs (get_or set k d) bears j e within))))

  into_least : (v : ℕ) → IsTrue (has set v) → All (λ a. IsFalse (has set a.tail) → IsWithin (a.cost - a.load) (least_over arcs set None set)) (arcs_into arcs v)
  into_least v held = All-from_recursion _ (arcs_into arcs v) (at_member (λ w. AllByRecursion (λ a. IsFalse (has set a.tail) → IsWithin (a.cost - a.load) (least_over arcs set None set)) (arcs_into arcs w)) set v (over_least arcs set None set) held)

  pub least_enters : (o : Option Entering) → o ≡ least_over arcs set None set → IfSome o (IsEntering D B cuts arcs set)
  least_enters None is = tt
  least_enters (Some e) is =
      let one : IsInto D B cuts set e = rw (← is) at is_into in
      record {
        outside = one.outside;
        inside = one.inside;
        tail = one.tail;
        price = one.price;
        least = λ v held k d below. λ out. let small : e.left ≤ (get_or (arcs_into arcs v) k d).cost - (get_or (arcs_into arcs v) k d).load = rw (← is) at (into_least v held k d below out) in let fits = into_bears arcs v bears k d below in omega arith;
      }

  pub none_enters : (o : Option Entering) → o ≡ least_over arcs set None set → IfNone o (NoneEnters arcs set)
  none_enters (Some e) is = tt
  none_enters None is = λ v held k d below. true_from_ne_false (has set (get_or (arcs_into arcs v) k d).tail) (λ out. rw (← is) at (into_least v held k d below out))
