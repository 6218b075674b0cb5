use Rattle.std.proofs.Common.{[], ◌∷◌, ◌++◌, take, append_assoc}
use Rattle.std.proofs.lemmas.List.{take_more}
use Rattle.certificate_log.proofs.Finding.{with_record}
use Rattle.certificate_log.proofs.standings.Standings.add_records.Goals as goal

pub loop-done-preserved : goal.loop-done-preserved
loop-done-preserved c = λ ds ns finds.
    let records = c.args.records.now in
    let i = c.loop-done.done-index in
    rw (take_more records i c.done-item.result c.loop-done-test.true, ← c.done-item.is, ← append_assoc ds (take i records) (c.done-item.result ∷ []))
    (with_record (ds ++ take i records) ns c.loop-done.self c.add.new.self _ (c.loop-done.invariant ds ns finds) c.in_ok-add.ensures)
