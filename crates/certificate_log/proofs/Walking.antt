-- A walk over the ids of what was gathered: the lines that are still to come are those of trees that are read off the ids that are left, the last of them first.
use Rattle.std.proofs.Common.{◌≡◌, ℕ, ◌+◌, ◌<◌, ◌≤◌, List, [], ◌∷◌, ◌++◌, length, refl, sym, ap, ◌∙◌, subst, append_assoc, arith, inl, inr}
use Rattle.std.specs.Prelude.{IsSome, Contains, nat_eq}
use Rattle.std.proofs.lemmas.List.{append-nil, length-append, length_push}
use Rattle.indexmap.specs.IndexMap.{get}
use Rattle.st_model.specs.declared.split_at.SplitAt.{SplitAt}
use Rattle.cut_packing.specs.ProofTree.{ProofTree, close, split}
use Rattle.log_format.specs.declared.proof_line.ProofLine.{ProofLine}
use Rattle.log_format.specs.declared.proof_line.ProofLine.TheVariants as line
use Rattle.log_format.specs.Preorder.{preorder}
use Rattle.search_core.specs.declared.done.Done.{Done}
use Rattle.search_core.specs.declared.done.Done.TheVariants.{Split, Close}
use Rattle.search_core.specs.declared.gathered.Gathered.{Gathered}
use Rattle.search_core.specs.Complete.{done_id, records, waiting}
use Rattle.search_core.specs.ReadOff.{IsReadOff}
use Rattle.certificate_log.specs.declared.standings.Standing.{Standing}
use Rattle.certificate_log.specs.declared.standings.Standing.TheVariants.{Record, Waiting}
use Rattle.certificate_log.specs.declared.standings.Standings.{Standings}
use Rattle.certificate_log.specs.Standing.{FindsIn, StandsIn, StandsOnce, Writes, WritesRecord, standing_id}
use Rattle.certificate_log.proofs.Once.{reads_close, reads_split, reads_waiting, something_stands}

-- the lines are those of trees that are read off the ids, the last first
abbrev pub AreLeft : Gathered → List ℕ → List ProofLine → Type 0
AreLeft G [] rest = rest ≡ []
AreLeft G (id ∷ ids) rest = (q : ProofTree) × (above : List ProofLine) × IsReadOff G id q × (rest ≡ above ++ preorder q) × AreLeft G ids above

-- a tree's lines come before the others, where its id is put after the other ids
pub with_id : (G : Gathered) (ids : List ℕ) (rest : List ProofLine) (id : ℕ) (q : ProofTree) → IsReadOff G id q → AreLeft G ids rest → AreLeft G (ids ++ id ∷ []) (preorder q ++ rest)
with_id G [] rest id q reads left = (q, [], reads, ap (λ (r : List ProofLine). preorder q ++ r) left ∙ append-nil (preorder q), refl)
with_id G (i ∷ ids) rest id q reads (p, above, here, is, later) =
    (p, preorder q ++ above, here, ap (λ (r : List ProofLine). preorder q ++ r) is ∙ sym (append_assoc (preorder q) above (preorder p)), with_id G ids above id q reads later)

-- the lines of the last id's tree, and those of the others
pub record LastLeft (G : Gathered) (ids : List ℕ) (id : ℕ) (rest : List ProofLine) : Type 0 where
  pub tree : ProofTree
  pub others : List ProofLine
  pub reads : IsReadOff G id tree
  pub is : rest ≡ preorder tree ++ others
  pub left : AreLeft G ids others

pub last_left : (G : Gathered) (ids : List ℕ) (id : ℕ) (rest : List ProofLine) → AreLeft G (ids ++ id ∷ []) rest → LastLeft G ids id rest
last_left G [] id rest (q, above, reads, is, none) = record {
  tree = q;
  others = [];
  reads = reads;
  is = is ∙ (ap (λ (r : List ProofLine). r ++ preorder q) none ∙ sym (append-nil (preorder q)));
  left = refl;
}
last_left G (i ∷ ids) id rest (q, above, reads, is, later) =
    let l = last_left G ids id above later in
    record {
      tree = l.tree;
      others = l.others ++ preorder q;
      reads = l.reads;
      is = is ∙ (ap (λ (r : List ProofLine). r ++ preorder q) l.is ∙ append_assoc (preorder l.tree) l.others (preorder q));
      left = (q, l.others, reads, refl, l.left);
    }

-- some lines of a tree are written, and the others are left
pub record IsWalked (G : Gathered) (p : ProofTree) (lines : List ProofLine) (ids : List ℕ) : Type 0 where
  pub rest : List ProofLine
  pub is : preorder p ≡ lines ++ rest
  pub left : AreLeft G ids rest

pub begins : (G : Gathered) (p : ProofTree) → IsReadOff G 0 p → IsWalked G p [] (0 ∷ [])
begins G p reads = record { rest = preorder p; is = refl; left = (p, [], reads, refl, refl) }

pub ends : (G : Gathered) (p : ProofTree) (lines : List ProofLine) → IsWalked G p lines [] → lines ≡ preorder p
ends G p lines w = sym (w.is ∙ (ap (λ (r : List ProofLine). lines ++ r) w.left ∙ append-nil lines))

-- a line more, and the halves of a split
module _ (G : Gathered) (once : StandsOnce G) (p : ProofTree) (lines : List ProofLine) (ids : List ℕ) (id : ℕ) (w : IsWalked G p lines (ids ++ id ∷ [])) where
  abbrev last : LastLeft G ids id w.rest
  last = last_left G ids id w.rest w.left

  by_close : (P : _) → last.tree ≡ close P → IsWalked G p (lines ++ line.Close P ∷ []) ids
  by_close P is = record {
    rest = last.others;
    is = w.is ∙ (ap (λ (r : List ProofLine). lines ++ r) (last.is ∙ ap (λ (q : ProofTree). preorder q ++ last.others) is) ∙ sym (append_assoc lines (line.Close P ∷ []) last.others));
    left = last.left;
  }

  by_split : (at : SplitAt) (i o : ℕ) (a b : ProofTree) → last.tree ≡ split at a b → IsReadOff G i a → IsReadOff G o b → IsWalked G p (lines ++ line.Split at ∷ []) (ids ++ o ∷ i ∷ [])
  by_split at i o a b is first second = record {
    rest = preorder a ++ (preorder b ++ last.others);
    is = w.is ∙ (ap (λ (r : List ProofLine). lines ++ r) (last.is ∙ (ap (λ (q : ProofTree). preorder q ++ last.others) is ∙ ap (λ (r : List ProofLine). line.Split at ∷ r) (append_assoc (preorder a) (preorder b) last.others)))
        ∙ sym (append_assoc lines (line.Split at ∷ []) (preorder a ++ (preorder b ++ last.others))));
    left = subst (λ (l : List ℕ). AreLeft G l (preorder a ++ (preorder b ++ last.others))) (append_assoc ids (o ∷ []) (i ∷ []))
        (with_id G (ids ++ o ∷ []) (preorder b ++ last.others) i a first (with_id G ids last.others o b second last.left));
  }

  by_record : (d : Done) (ids' : List ℕ) (lines' : List ProofLine) → Contains (records G) d → done_id d ≡ id → WritesRecord d ids ids' lines lines' → IsWalked G p lines' ids'
  by_record (Split a at i o P) ids' lines' there is writes =
      let r = reads_split G once a at i o P id last.tree there (sym is) last.reads in
      rw writes.0 (rw writes.1 (by_split at i o r.inside r.outside r.is r.reads_inside r.reads_outside))
  by_record (Close a P) ids' lines' there is writes =
      rw writes.0 (rw writes.1 (by_close P (reads_close G once a P id last.tree there (sym is) last.reads)))

  pub goes_on : (x : Standing) (ids' : List ℕ) (lines' : List ProofLine) → (standing_id x ≡ id) × StandsIn (records G) (waiting G) x → Writes x ids ids' lines lines' → IsWalked G p lines' ids'
  goes_on (Record d) ids' lines' right writes = by_record d.now ids' lines' right.1 right.0 writes
  goes_on (Waiting N) ids' lines' right writes = rw writes.0 (rw writes.1 (by_close N.now.packing (reads_waiting G once N.now id last.tree right.1 (sym right.0) last.reads)))

  -- something is found under the id
  pub found : (s : Standings) → FindsIn (records G) (waiting G) s → IsSome (get nat_eq s.by_id id)
  found s finds = elim (something_stands G id last.tree last.reads) [
    | inl d ↦ subst (λ (n : ℕ). IsSome (get nat_eq s.by_id n)) d.2 (finds.record_found d.0 d.1)
    | inr N ↦ subst (λ (n : ℕ). IsSome (get nat_eq s.by_id n)) N.2 (finds.node_found N.0 N.1)
  ]

  some_line : (q : ProofTree) → 1 ≤ length (preorder q)
  some_line (close P) = omega arith
  some_line (split at a b) = omega arith

  -- not all lines are written
  pub some_left : length lines < length (preorder p)
  some_left =
      let all : length (preorder p) ≡ length lines + length w.rest = ap length w.is ∙ length-append lines w.rest in
      let here : length w.rest ≡ length (preorder last.tree) + length last.others = ap length last.is ∙ length-append (preorder last.tree) last.others in
      omega (arith, all, here, some_line last.tree)

-- what stands makes one line
pub one_line : (x : Standing) (ids ids' : List ℕ) (lines lines' : List ProofLine) → Writes x ids ids' lines lines' → length lines' ≡ length lines + 1
one_line (Record d) ids ids' lines lines' writes = by_record d.now writes
  where
    by_record : (d : Done) → WritesRecord d ids ids' lines lines' → length lines' ≡ length lines + 1
    by_record (Split a at i o P) w = ap length w.1 ∙ length_push lines (line.Split at)
    by_record (Close a P) w = ap length w.1 ∙ length_push lines (line.Close P)
one_line (Waiting N) ids ids' lines lines' writes = ap length writes.1 ∙ length_push lines (line.Close N.now.packing)
