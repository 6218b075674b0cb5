-- In which unit a file counts, and what its amounts are in it. Until all of them have come they are in millionths.
use Rattle.std.specs.Prelude.{ℕ, ◌/◌, ◌%◌, ◌&&◌, ◌==◌, not, Bool, nat_lt, if◌then◌else◌, List, ◌∷◌, ◌++◌, map}
use Rattle.std.specs.List.{list_any}
use Rattle.amounts.specs.declared.scale.Scale.{Scale}
use Rattle.amounts.specs.declared.scale.Scale.TheVariants.{Whole, Millionths}
use Rattle.st_model.specs.declared.link.Link.{Link}
use Rattle.st_model.specs.declared.need.Need.{Need}
use Rattle.st_model.specs.declared.need.Need.TheVariants.{Required, Pays}
use Rattle.st_model.specs.Network.{prize}
use Rattle.stp_reader.specs.declared.reason.Reason.{Reason}
use Rattle.stp_reader.specs.declared.reason.Reason.TheVariants.{ScaleRange}
use Rattle.stp_reader.specs.Reason.{when}

-- so many millionths are no whole number
abbrev pub is_fractional : ℕ → Bool
is_fractional x = not (x % 1000000 == 0)

-- so many millionths are more than a million
abbrev pub is_large : ℕ → Bool
is_large x = nat_lt 1000000000000 x

-- all amounts that links and needs state; a required vertex states none, which counts as 0
abbrev pub amounts_of : List Link → List (ℕ × Need) → List ℕ
amounts_of links needs = map (λ l. l.cost) links ++ map (λ e. prize e.1) needs

-- why an amount may not stand after these: one of them all has decimals, and one is above a million
abbrev pub scale_reasons : List ℕ → ℕ → List Reason
scale_reasons before x = when (list_any is_fractional (x ∷ before) && list_any is_large (x ∷ before)) ScaleRange

-- millionths, where an amount has decimals
abbrev pub scale_of : List ℕ → Scale
scale_of amounts = if list_any is_fractional amounts then Millionths else Whole

-- so many millionths, in the unit of a scale
abbrev pub in_unit : Scale → ℕ → ℕ
in_unit Whole x = x / 1000000
in_unit Millionths x = x

-- links and needs in it
abbrev pub link_in : Scale → Link → Link
link_in scale l = record l { cost = in_unit scale l.cost }

abbrev pub need_in : Scale → Need → Need
need_in scale Required = Required
need_in scale (Pays p) = Pays (in_unit scale p)

abbrev pub stated_in : Scale → ℕ × Need → ℕ × Need
stated_in scale e = (e.0, need_in scale e.1)
