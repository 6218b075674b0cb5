use Rattle.std.proofs.Common.{rules, inl, inr, ap, Err, map, string_bytes}
use Rattle.command_line.specs.Words.{command_of}
use Rattle.steiner_top.specs.Causes.{loads_of}
use Rattle.steiner_top.proofs.Deciding.{decides, decides_checks}
use Rattle.steiner_top.proofs.Reasons.{answer_cut_short, lost_outcome, never_stopped, never_unwritten, stop_cut_short, stopped_alike}
use Rattle.steiner_top.proofs.running.run.Goals as goal

pub returns-in-Ok-clause-headline : goal.returns-in-Ok-clause-headline
returns-in-Ok-clause-headline g c = decides (command_of (map string_bytes c.args.words.now)) (g.F.Shelf.text c.args.shelf.now) (g.F.Shelf.text c.answer.new.shelf) _ _ c.send.result.status c.send.result.outcome (g.K.Sink.taken c.args.out.now) (g.K.Sink.taken c.send.new.out)
    (λ bytes. record { of_links = c.refused_exactly.ensures bytes; of_both = c.file_refused_exactly.ensures bytes; alike = c.reads_alike.ensures bytes }) c.solutions_refused_exactly.ensures (record { spelling = c.one_spelling.ensures; refused = c.refused_exactly-2.ensures; rejected = c.rejected_exactly.ensures }) (search rules) (search rules) (λ read. absurd (never_stopped (command_of (map string_bytes c.args.words.now)) (g.F.Shelf.text c.args.shelf.now) c.in-Ok.answer.status c.send.result.status c.in-Ok.answer.outcome c.in-Ok.answer.text.items c.in-Ok.ensures.answered (λ fine. (c.send.ensures.sent fine).0) (inl read)))
    (λ failed. inr (c.send.ensures.cause.rose (failed, never_unwritten (command_of (map string_bytes c.args.words.now)) (g.F.Shelf.text c.args.shelf.now) c.in-Ok.answer.status c.in-Ok.answer.outcome c.in-Ok.answer.text.items c.in-Ok.ensures.answered)))

pub returns-in-Err-clause-headline : goal.returns-in-Err-clause-headline
returns-in-Err-clause-headline g c = decides (command_of (map string_bytes c.args.words.now)) (g.F.Shelf.text c.args.shelf.now) (g.F.Shelf.text c.answer.new.shelf) _ _ c.send-in-Err.result.status c.send-in-Err.result.outcome (g.K.Sink.taken c.args.out.now) (g.K.Sink.taken c.send-in-Err.new.out)
    (λ bytes. record { of_links = c.refused_exactly.ensures bytes; of_both = c.file_refused_exactly.ensures bytes; alike = c.reads_alike.ensures bytes }) c.solutions_refused_exactly.ensures (record { spelling = c.one_spelling.ensures; refused = c.refused_exactly-2.ensures; rejected = c.rejected_exactly.ensures }) (search rules) (search rules) (search rules) (search rules)

pub returns-in-Ok-clause-checks : goal.returns-in-Ok-clause-checks
returns-in-Ok-clause-checks g c = decides_checks (command_of (map string_bytes c.args.words.now)) (g.F.Shelf.text c.args.shelf.now) _ _ c.send.result.status c.send.result.outcome (g.K.Sink.taken c.args.out.now) (g.K.Sink.taken c.send.new.out)
    (search rules) (λ read. absurd (never_stopped (command_of (map string_bytes c.args.words.now)) (g.F.Shelf.text c.args.shelf.now) c.in-Ok.answer.status c.send.result.status c.in-Ok.answer.outcome c.in-Ok.answer.text.items c.in-Ok.ensures.answered (λ fine. (c.send.ensures.sent fine).0) (inl read)))
    (λ failed. inr (c.send.ensures.cause.rose (failed, never_unwritten (command_of (map string_bytes c.args.words.now)) (g.F.Shelf.text c.args.shelf.now) c.in-Ok.answer.status c.in-Ok.answer.outcome c.in-Ok.answer.text.items c.in-Ok.ensures.answered)))

pub returns-in-Err-clause-checks : goal.returns-in-Err-clause-checks
returns-in-Err-clause-checks g c = decides_checks (command_of (map string_bytes c.args.words.now)) (g.F.Shelf.text c.args.shelf.now) _ _ c.send-in-Err.result.status c.send-in-Err.result.outcome (g.K.Sink.taken c.args.out.now) (g.K.Sink.taken c.send-in-Err.new.out)
    (search rules) (search rules) (search rules)

pub returns-in-Err-clause-cut_short : goal.returns-in-Err-clause-cut_short
returns-in-Err-clause-cut_short g c = λ failed. stop_cut_short (command_of (map string_bytes c.args.words.now)) (g.F.Shelf.text c.args.shelf.now) (g.F.Shelf.text c.answer.new.shelf) _ (g.K.Sink.taken c.args.out.now) (g.K.Sink.taken c.send-in-Err.new.out) c.in-Err.status c.as_bytes.result.now
    (search rules) c.in-Err.ensures.unanswered (λ e. c.in-Err.ensures.unsaved (ap Err e)) (λ e. c.in-Err.ensures.write_cause.rose (ap Err e)) (c.send-in-Err.ensures.cut_short failed) c.send-in-Err.ensures.nothing c.in-Err.ensures.kept

pub returns-in-Ok-clause-cut_short : goal.returns-in-Ok-clause-cut_short
returns-in-Ok-clause-cut_short g c = λ failed. answer_cut_short (command_of (map string_bytes c.args.words.now)) (g.F.Shelf.text c.args.shelf.now) (g.F.Shelf.text c.answer.new.shelf) _ (g.K.Sink.taken c.args.out.now) (g.K.Sink.taken c.send.new.out)
    c.in-Ok.answer.status c.in-Ok.answer.outcome c.in-Ok.answer.text.items c.deref.result.now c.in-Ok.ensures.answered (search rules) (c.send.ensures.cut_short failed) c.in-Ok.ensures.saved c.in-Ok.ensures.none

pub returns-in-Ok-clause-no_outcome : goal.returns-in-Ok-clause-no_outcome
returns-in-Ok-clause-no_outcome g c = λ failed. lost_outcome (command_of (map string_bytes c.args.words.now)) (g.F.Shelf.text c.args.shelf.now) c.in-Ok.answer.status c.in-Ok.answer.outcome c.send.result.outcome c.in-Ok.answer.text.items
    c.in-Ok.ensures.answered (c.send.ensures.lost failed)

pub returns-in-Ok-clause-first : goal.returns-in-Ok-clause-first
returns-in-Ok-clause-first g c = λ at. absurd (never_stopped (command_of (map string_bytes c.args.words.now)) (g.F.Shelf.text c.args.shelf.now) c.in-Ok.answer.status c.send.result.status c.in-Ok.answer.outcome c.in-Ok.answer.text.items c.in-Ok.ensures.answered (λ fine. (c.send.ensures.sent fine).0) at)

pub returns-in-Err-clause-first : goal.returns-in-Err-clause-first
returns-in-Err-clause-first g c = stopped_alike (loads_of (command_of (map string_bytes c.args.words.now))) (g.F.Shelf.text c.args.shelf.now) (g.F.Shelf.asked c.args.shelf.now) (g.F.Shelf.asked c.answer.new.shelf) c.in-Err.status c.send-in-Err.result.status
    c.in-Err.ensures.first (λ fine. (c.send-in-Err.ensures.sent fine).0)

pub returns-in-Ok-clause-read_cause : goal.returns-in-Ok-clause-read_cause
returns-in-Ok-clause-read_cause g c = record {
  later = c.answer.ensures.read_cause.later;
  rose = λ read. absurd (never_stopped (command_of (map string_bytes c.args.words.now)) (g.F.Shelf.text c.args.shelf.now) c.in-Ok.answer.status c.send.result.status c.in-Ok.answer.outcome c.in-Ok.answer.text.items c.in-Ok.ensures.answered (λ fine. (c.send.ensures.sent fine).0) (inl read));
}

pub returns-in-Ok-clause-write_cause : goal.returns-in-Ok-clause-write_cause
returns-in-Ok-clause-write_cause g c = λ failed. inr (c.send.ensures.cause.rose (failed, never_unwritten (command_of (map string_bytes c.args.words.now)) (g.F.Shelf.text c.args.shelf.now) c.in-Ok.answer.status c.in-Ok.answer.outcome c.in-Ok.answer.text.items c.in-Ok.ensures.answered))
