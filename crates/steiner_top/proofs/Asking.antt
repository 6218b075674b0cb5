-- Which names a shelf was asked to load, and at which of them a run ended.
use Rattle.std.proofs.Common.{◌≡◌, ℕ, ◌^◌, ◌<◌, ◌≤◌, inl, inr, List, [], ◌∷◌, ◌++◌, length, Option, Some, None, refl, sym, subst, ap, ◌∙◌, append_assoc}
use Rattle.std.specs.Prelude.{IfSome}
use Rattle.std.proofs.lemmas.List.{append-nil}
use Rattle.std.proofs.lemmas.List.Elements.{All-nil, All-cons}
use Rattle.st_edge.specs.Shelf.{AsksFor, AsksForFront, SameTexts}
use Rattle.steiner_top.specs.declared.status.Status.{Status}
use Rattle.steiner_top.specs.declared.status.Status.TheVariants.{TooLong}
use Rattle.steiner_top.specs.Causes.{Texts, IsLoaded, IsStopped, StopsAtLoad}

-- none is a front of any names
pub asks_none : (asked : Option (List (List ℕ))) (names : List (List ℕ)) → AsksForFront asked asked names
asks_none None names = (0, tt)
asks_none (Some now) names = (0, (now, refl, sym (append-nil now)))

-- the first is one, whatever is asked for then
pub asks_first : (old new : Option (List (List ℕ))) (a : List ℕ) (names : List (List ℕ)) → AsksFor old new (a ∷ []) → AsksForFront old new (a ∷ names)
asks_first old new a names h = (1, h)

-- one name after the other
asks_on : (old mid new : Option (List (List ℕ))) (a b : List ℕ) → AsksFor old mid (a ∷ []) → AsksFor mid new (b ∷ []) → AsksFor old new (a ∷ b ∷ [])
asks_on old mid None a b h k = tt
asks_on old mid (Some now) a b h (between, is_mid, is_now) =
    let first : (before : List (List ℕ)) × (old ≡ Some before) × (between ≡ before ++ a ∷ []) = subst (λ o. IfSome o (λ x. (before : List (List ℕ)) × (old ≡ Some before) × (x ≡ before ++ a ∷ []))) is_mid h in
    (first.0, first.1, is_now ∙ (ap (λ (x : List (List ℕ)). x ++ b ∷ []) first.2 ∙ append_assoc first.0 (a ∷ []) (b ∷ [])))

-- two names are a front of themselves
pub asks_both : (old mid new : Option (List (List ℕ))) (a b : List ℕ) → AsksFor old mid (a ∷ []) → AsksFor mid new (b ∷ []) → AsksForFront old new (a ∷ b ∷ [])
asks_both old mid new a b h k = (2, asks_on old mid new a b h k)

-- ---- where a load ends a run

-- a text that was loaded is short, where it is known
short_text : (known : Option (List ℕ)) (bytes : List ℕ) → IsLoaded known bytes → IfSome known (λ text. length text ≤ 2 ^ 34)
short_text None bytes h = tt
short_text (Some text) bytes h = subst (λ (b : List ℕ). length b ≤ 2 ^ 34) h.same h.short

-- a text that stopped the run alone is too long, where that is why
long_text : (name : List ℕ) (texts : Texts) (status : Status) → IsStopped (name ∷ []) texts status → status ≡ TooLong → IfSome (texts name) (λ text. 2 ^ 34 < length text)
long_text name texts status stopped long = elim (subst (IsStopped (name ∷ []) texts) long stopped) [
  | inl here ↦ here
  | inr none ↦ absurd none
]

-- the first load ended it
pub stops_first : (name : List ℕ) (rest : List (List ℕ)) (texts : Texts) (asked asked_now : Option (List (List ℕ))) (status : Status)
    → AsksFor asked asked_now (name ∷ []) → IsStopped (name ∷ []) texts status → StopsAtLoad (name ∷ rest) texts asked asked_now status
stops_first name rest texts asked asked_now status asks stopped _ = record {
  before = [];
  name = name;
  after = rest;
  split = refl;
  asks = asks;
  loaded = All-nil (λ other. IfSome (texts other) (λ text. length text ≤ 2 ^ 34));
  long = long_text name texts status stopped;
}

-- the second load ended it
pub stops_second : (a b : List ℕ) (old mid : Texts) (asked between asked_now : Option (List (List ℕ))) (bytes : List ℕ) (status : Status)
    → AsksFor asked between (a ∷ []) → AsksFor between asked_now (b ∷ []) → IsLoaded (old a) bytes → SameTexts old mid → IsStopped (b ∷ []) mid status
    → StopsAtLoad (a ∷ b ∷ []) old asked asked_now status
stops_second a b old mid asked between asked_now bytes status first second loaded same stopped _ = record {
  before = a ∷ [];
  name = b;
  after = [];
  split = refl;
  asks = asks_on asked between asked_now a b first second;
  loaded = All-cons (λ other. IfSome (old other) (λ text. length text ≤ 2 ^ 34)) a [] (short_text (old a) bytes loaded) (All-nil _);
  long = λ long. subst (λ (o : Option (List ℕ)). IfSome o (λ text. 2 ^ 34 < length text)) (same b) (long_text b mid status stopped long);
}
