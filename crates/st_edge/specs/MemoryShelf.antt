-- A shelf in memory, and the text under a name.
use Rattle.std.specs.Prelude.{ℕ, List, [], ◌∷◌, Option, None, Some, Contains, if◌then◌else◌, map, option_map, string_bytes}
use Rattle.std.specs.Str.{bytes_eq}
use Rattle.std.specs.declared.alloc.Global.{Global}
use Rattle.std.specs.declared.string.String.{String}
use Rattle.std.specs.declared.vec.Vec.{Vec}
use Rattle.st_edge.specs.Faults.{one_more}

-- the texts with their names; the numbers, from 1, of the calls that fail; how many loads and saves were asked for;
-- the names of those loads, unless memory ran out for them; how many loads failed, and how many saves
pub record Holding : Type 0 where
  pub texts : List (List ℕ × List ℕ)
  pub failing : List ℕ
  pub calls : ℕ
  pub asked : Option (List (List ℕ))
  pub read_faults : ℕ
  pub write_faults : ℕ

-- the names and texts as bytes
abbrev pub texts_of : List (String Global × Vec ℕ Global) → List (List ℕ × List ℕ)
texts_of texts = map (λ text. (string_bytes text.0, text.1.items)) texts

-- some names as bytes
abbrev pub names_of : Option (Vec (String Global) Global) → Option (List (List ℕ))
names_of asked = option_map (λ names. map string_bytes names.items) asked

-- the text under a name, the first one if there are several
abbrev pub text_at : List (List ℕ × List ℕ) → List ℕ → Option (List ℕ)
text_at [] name = None
text_at (text ∷ texts) name = if bytes_eq text.0 name then Some text.1 else text_at texts name

-- the next call, whether a load or a save, is one of those that fail
abbrev pub IsListed : Holding → Type 0
IsListed shelf = Contains shelf.failing (one_more shelf.calls)
