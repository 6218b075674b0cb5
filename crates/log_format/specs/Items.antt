-- What the lines of a log say, one after the other.
use Rattle.std.specs.Prelude.{◌≡◌, ℕ, ◌^◌, ◌<◌, List, [], ◌∷◌, ◌++◌, length, map, All, IfSome, codes}
use Rattle.std.specs.List.{flat_map}
use Rattle.log_format.specs.declared.item.Item.{Item}
use Rattle.log_format.specs.declared.item.Item.TheVariants.{Header, ClaimTree, ClaimNone, Wall, TreeHead, Arc, StepsHead, OneStep, ProofHead, Split as OneSplit, CloseHead, OneCut, Last}
use Rattle.log_format.specs.declared.log.Log.{Log}
use Rattle.log_format.specs.declared.log.Claim.{Claim}
use Rattle.log_format.specs.declared.log.Claim.TheVariants.{Found, NoTree}
use Rattle.log_format.specs.declared.proof_line.ProofLine.{ProofLine}
use Rattle.log_format.specs.declared.proof_line.ProofLine.TheVariants.{Split, Close}
use Rattle.log_format.specs.Text.{words, root_number, arc_line, cut_line, step_line, split_line, header, log_lines, IsAnyVertex, IsWritableSet, IsWritableCut, IsWritableStep, IsAnySplit, IsLog}

-- the line that says it
abbrev pub item_line : Item → List ℕ
item_line (Header version) = header version
item_line (ClaimTree primal dual) = words (codes "CLAIM TREE") (primal ∷ dual ∷ [])
item_line ClaimNone = codes "CLAIM NONE"
item_line (Wall set) = words (codes "WALL") (length set ∷ set)
item_line (TreeHead start count) = words (codes "TREE") (start ∷ count ∷ [])
item_line (Arc tail head) = arc_line (tail, head)
item_line (StepsHead count) = words (codes "STEPS") (count ∷ [])
item_line (OneStep s) = step_line s
item_line ProofHead = codes "PROOF"
item_line (OneSplit at) = split_line at
item_line (CloseHead root count) = words (codes "C") (root_number root ∷ count ∷ [])
item_line (OneCut c) = cut_line c
item_line Last = codes "END"

-- its numbers can be written: vertices from 1 to 1,000,000, other numbers below 2^64, and of a link the lower end first
abbrev pub IsItem : Item → Type 0
IsItem (Header version) = Unit {0}
IsItem (ClaimTree primal dual) = (primal < 2 ^ 64) × (dual < 2 ^ 64)
IsItem ClaimNone = Unit {0}
IsItem (Wall set) = IsWritableSet set
IsItem (TreeHead start count) = IsAnyVertex start × (count < 2 ^ 64)
IsItem (Arc tail head) = IsAnyVertex tail × IsAnyVertex head
IsItem (StepsHead count) = count < 2 ^ 64
IsItem (OneStep s) = IsWritableStep s
IsItem ProofHead = Unit {0}
IsItem (OneSplit at) = IsAnySplit at
IsItem (CloseHead root count) = IfSome root IsAnyVertex × (count < 2 ^ 64)
IsItem (OneCut c) = IsWritableCut c
IsItem Last = Unit {0}

-- the items of a split, and of a close: its head and its cuts
abbrev pub proof_items : ProofLine → List Item
proof_items (Split at) = OneSplit at ∷ []
proof_items (Close P) = CloseHead P.root (length P.cuts) ∷ map (λ c. OneCut c) P.cuts

-- the items of a claim
abbrev pub claim_items : Claim → List Item
claim_items (Found primal dual tree steps proof) = ClaimTree primal dual ∷ TreeHead tree.start (length tree.arcs)
    ∷ (map (λ arc. Arc arc.0 arc.1) tree.arcs ++ (StepsHead (length steps) ∷ (map (λ s. OneStep s) steps ++ (ProofHead ∷ flat_map proof_items proof))))
claim_items (NoTree wall) = ClaimNone ∷ Wall wall ∷ []

-- the items of a log, in order
abbrev pub log_items : Log → List Item
log_items log = Header log.version ∷ (claim_items log.claim ++ Last ∷ [])

-- the lines of a log say its items
abbrev pub ItemsAreLines : Type 0
ItemsAreLines = (log : Log) → map item_line (log_items log) ≡ log_lines log

-- no two items have one line
abbrev pub OneItem : Type 0
OneItem = (a b : Item) → IsItem a → IsItem b → item_line a ≡ item_line b → a ≡ b

-- what the lines of a log say are its items
abbrev pub LineItems : Type 0
LineItems = (log : Log) (items : List Item) → IsLog log → All IsItem items → log_lines log ≡ map item_line items → items ≡ log_items log
