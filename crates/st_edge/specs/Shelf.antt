-- What a load and a save of a shelf do to the texts under their names.
use Rattle.std.specs.Prelude.{◌≡◌, ◌≢◌, ℕ, ◌<◌, ◌≤◌, List, ◌++◌, length, take, Option, Some, IfSome, Result, IfOk, IsErrOf}
use Rattle.std.specs.declared.alloc.Global.{Global}
use Rattle.std.specs.declared.vec.Vec.{Vec}
use Rattle.st_edge.specs.declared.shelf.LoadFault.{LoadFault}
use Rattle.st_edge.specs.declared.shelf.LoadFault.TheVariants.{TooLong}

-- A load answers a text within the limit: the one that was known, where one was.
-- It says that a text is too long only where that text is longer than the limit.
pub record Loads (known : Option (List ℕ)) (limit : ℕ) (result : Result (Vec ℕ Global) LoadFault) : Type 0 where
  pub within : IfOk result (λ bytes. length bytes.items ≤ limit)
  pub text : IfSome known (λ text. IfOk result (λ bytes. bytes.items ≡ text))
  pub too_long : IfSome known (λ text. IsErrOf result TooLong → limit < length text)

-- every name has the text that it had
abbrev pub SameTexts : (List ℕ → Option (List ℕ)) → (List ℕ → Option (List ℕ)) → Type 0
SameTexts old new = (name : List ℕ) → new name ≡ old name

-- every other name has the text that it had
abbrev pub SameOtherTexts : List ℕ → (List ℕ → Option (List ℕ)) → (List ℕ → Option (List ℕ)) → Type 0
SameOtherTexts name old new = (other : List ℕ) → other ≢ name → new other ≡ old other

-- Of the names that a shelf was asked to load it tells those that it told before, and then these. It may stop telling.
abbrev pub AsksFor : Option (List (List ℕ)) → Option (List (List ℕ)) → List (List ℕ) → Type 0
AsksFor old new names = IfSome new (λ now. (before : List (List ℕ)) × (old ≡ Some before) × (now ≡ before ++ names))

-- it was asked for these names, or a front of them
abbrev pub AsksForFront : Option (List (List ℕ)) → Option (List (List ℕ)) → List (List ℕ) → Type 0
AsksForFront old new names = (count : ℕ) × AsksFor old new (take count names)
