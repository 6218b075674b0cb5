-- That a branch is one of a network in one way at most, which the ghost field of a place needs.
use Rattle.std.specs.Prelude.{ℕ, false, List, [], ◌∷◌}
use Rattle.std.specs.Coded.{×_prop, Unit-prop, Coded-set, coded_bool}
use Rattle.st_model.specs.Made.{AreApart, has_pair}

-- pairs are apart in one way at most
pub AreApart-prop : (pairs : List (ℕ × ℕ)) → IsProp (AreApart pairs)
AreApart-prop [] = Unit-prop
AreApart-prop (pair ∷ pairs) = ×_prop (Coded-set coded_bool (has_pair pairs pair.0 pair.1) false) (AreApart-prop pairs)
