-- What stands under the ids of what was gathered. Of this the clauses of `proof_lines` cite `StandsOnce`, and no public one cites the rest.
use Rattle.std.specs.Prelude.{◌≡◌, ℕ, ◌≤◌, List, [], ◌∷◌, ◌++◌, Some, IsSome, Contains, nat_eq}
use Rattle.indexmap.specs.IndexMap.{get}
use Rattle.branching.specs.declared.node.Node.{Node}
use Rattle.log_format.specs.declared.proof_line.ProofLine.{ProofLine}
use Rattle.log_format.specs.declared.proof_line.ProofLine.TheVariants as line
use Rattle.search_core.specs.declared.done.Done.{Done}
use Rattle.search_core.specs.declared.done.Done.TheVariants.{Split, Close}
use Rattle.search_core.specs.declared.gathered.Gathered.{Gathered}
use Rattle.search_core.specs.Complete.{done_id, standing_ids, times}
use Rattle.certificate_log.specs.declared.standings.Standing.{Standing}
use Rattle.certificate_log.specs.declared.standings.Standing.TheVariants.{Record, Waiting}
use Rattle.certificate_log.specs.declared.standings.Standings.{Standings}

-- under each id one record or one node that waits stands, or nothing
abbrev pub StandsOnce : Gathered → Type 0
StandsOnce G = (id : ℕ) → times id (standing_ids G) ≤ 1

-- the id under which it stands
abbrev pub standing_id : Standing → ℕ
standing_id (Record d) = done_id d.now
standing_id (Waiting N) = N.now.id

-- it is one of these records, or of these nodes
abbrev pub StandsIn : List Done → List Node → Standing → Type 0
StandsIn ds ns (Record d) = Contains ds d.now
StandsIn ds ns (Waiting N) = Contains ns N.now

-- under an id it finds one of these records or nodes that stands there, wherever one does
pub record FindsIn (ds : List Done) (ns : List Node) (s : Standings) : Type 0 where
  pub right : (id : ℕ) (x : Standing) → get nat_eq s.by_id id ≡ Some x → (standing_id x ≡ id) × StandsIn ds ns x
  pub record_found : (d : Done) → Contains ds d → IsSome (get nat_eq s.by_id (done_id d))
  pub node_found : (N : Node) → Contains ns N → IsSome (get nat_eq s.by_id N.id)

-- the line of a record, and before the other ids the halves of a split, the one inside last
abbrev pub WritesRecord : Done → List ℕ → List ℕ → List ProofLine → List ProofLine → Type 0
WritesRecord (Split id at inside outside P) ids ids' lines lines' = (ids' ≡ ids ++ outside ∷ inside ∷ []) × (lines' ≡ lines ++ line.Split at ∷ [])
WritesRecord (Close id P) ids ids' lines lines' = (ids' ≡ ids) × (lines' ≡ lines ++ line.Close P ∷ [])

-- the same of what stands: a node that waits is closed by its packing
abbrev pub Writes : Standing → List ℕ → List ℕ → List ProofLine → List ProofLine → Type 0
Writes (Record d) ids ids' lines lines' = WritesRecord d.now ids ids' lines lines'
Writes (Waiting N) ids ids' lines lines' = (ids' ≡ ids) × (lines' ≡ lines ++ line.Close N.now.packing ∷ [])
