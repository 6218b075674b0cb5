-- The splits of a log so far whose proof isn't finished.
use Rattle.std.specs.Prelude.{◌≡◌, ℕ, zero, suc, ◌-◌, Bool, true, false, List, [], ◌∷◌, ◌++◌, length, map, All}
use Rattle.log_format.specs.declared.item.Item.{Item}
use Rattle.log_format.specs.declared.item.Item.TheVariants.{Split, CloseHead, OneCut}
use Rattle.log_format.specs.Items.{IsItem, item_line}
use Rattle.log_format.specs.Text.{Begins, whole_lines}

-- the splits that aren't finished, the last one first: of each whether its second half waits; and how many cuts of a close are to come
pub record Open : Type 0 where
  pub splits : List Bool
  pub left : ℕ

abbrev pub none_open : Open
none_open = record { splits = []; left = 0 }

-- a half is closed: a split in its second half is finished, and with it a half of the split before; of the first that isn't, the second half comes
abbrev pub closed : List Bool → List Bool
closed [] = []
closed (true ∷ splits) = false ∷ splits
closed (false ∷ splits) = closed splits

-- so many cuts of a close are to come; where there are none, a half is closed
abbrev pub cuts_left : List Bool → ℕ → Open
cuts_left splits zero = record { splits = closed splits; left = 0 }
cuts_left splits (suc left) = record { splits = splits; left = suc left }

-- one more item
abbrev pub opened : Open → Item → Open
opened o (Split at) = record { splits = true ∷ o.splits; left = o.left }
opened o (CloseHead root count) = cuts_left o.splits count
opened o (OneCut c) = cuts_left o.splits (o.left - 1)
opened o _ = o

-- some items, one after the other
abbrev pub opened_by : Open → List Item → Open
opened_by o [] = o
opened_by o (item ∷ items) = opened_by (opened o item) items

-- the items are what the lines say
pub record AreItemsOf (lines : List (List ℕ)) (items : List Item) : Type 0 where
  pub fit : All IsItem items
  pub say : lines ≡ map item_line items

-- the lines say this number of splits whose proof isn't finished
abbrev pub AreHeld : List (List ℕ) → ℕ → Type 0
AreHeld lines count = (items : List Item) × AreItemsOf lines items × (count ≡ length (opened_by none_open items).splits)

-- the whole lines of the text, up to the first that may not stand at its place
pub record AreGood (text : List ℕ) (lines : List (List ℕ)) : Type 0 where
  pub after : List (List ℕ)
  pub whole : whole_lines text ≡ lines ++ after
  pub begun : Begins lines
  pub stops : (bad : List ℕ) (others : List (List ℕ)) → after ≡ bad ∷ others → ¬ (Begins (lines ++ bad ∷ []))

-- this is the number of the splits, up to the first line that may not stand at its place, whose proof isn't finished
abbrev pub IsHeld : List ℕ → ℕ → Type 0
IsHeld text count = (lines : List (List ℕ)) × AreGood text lines × AreHeld lines count
