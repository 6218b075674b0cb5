use Rattle.std.proofs.Common.{ℕ, List, length, ◌<◌, ◌≤◌, subst, arith}
use Rattle.log_format.specs.Preorder.{preorder}
use Rattle.search_core.specs.Complete.{standing_ids}
use Rattle.certificate_log.proofs.Walking.{IsWalked, begins, found, goes_on, one_line, some_left}
use Rattle.certificate_log.proofs.lines.proof_lines.Goals as goal

pub loop-id-init : goal.loop-id-init
loop-id-init c = λ p reads. rw (c.new-lines.ensures.items, c.in_ok-ids.ensures.items) (begins c.args.gathered.now p reads)

pub find-requires : goal.find-requires
find-requires c =
    let G = c.args.gathered.now in
    let (p, reads, few) = c.requires.tree in
    let w = subst (λ (ids : List ℕ). IsWalked G p c.loop-id.lines.items ids) c.in-Some.ensures.items (c.loop-id.invariant p reads) in
    found G c.requires.once p c.loop-id.lines.items c.pop.new.self.items c.in-Some.id w c.in_ok-standings.standings c.in_ok-standings.ensures

pub loop-id-smaller : goal.loop-id-smaller
loop-id-smaller c =
    let G = c.args.gathered.now in
    let (p, reads, few) = c.requires.tree in
    let w = subst (λ (ids : List ℕ). IsWalked G p c.loop-id.lines.items ids) c.in-Some.ensures.items (c.loop-id.invariant p reads) in
    let here : length c.loop-id.lines.items < length (preorder p) = some_left G c.requires.once p c.loop-id.lines.items c.pop.new.self.items c.in-Some.id w in
    let within : length (preorder p) ≤ length (standing_ids G) = few in
    let one = one_line c.find.result c.pop.new.self.items c.write_line.new.ids.items c.loop-id.lines.items c.write_line.new.lines.items c.in_ok-write_line.ensures in
    omega (arith, here, within, one)

pub loop-id-preserved : goal.loop-id-preserved
loop-id-preserved c = λ p reads.
    let G = c.args.gathered.now in
    let w = subst (λ (ids : List ℕ). IsWalked G p c.loop-id.lines.items ids) c.in-Some.ensures.items (c.loop-id.invariant p reads) in
    goes_on G c.requires.once p c.loop-id.lines.items c.pop.new.self.items c.in-Some.id w c.find.result c.write_line.new.ids.items c.write_line.new.lines.items
    (c.in_ok-standings.ensures.right c.in-Some.id c.find.result c.find.ensures) c.in_ok-write_line.ensures
