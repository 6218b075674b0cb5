use Rattle.std.proofs.Common.{◌∷◌, [], length, refl, sym, ap, ◌∙◌, arith, length-append}
use Rattle.log_format.proofs.WholeLines.{nothing_begins, one_more, no_more, bad_line}
use Rattle.log_format.proofs.read.read_lines.Goals as goal

pub loop-line-init : goal.loop-line-init
loop-line-init c = rw c.requires (record {
  read = record { split = refl; tail = refl };
  count = refl;
  few = omega arith;
  begun = nothing_begins;
})

pub returns-in-Err-BadLine-clause-refused : goal.returns-in-Err-BadLine-clause-refused
returns-in-Err-BadLine-clause-refused c = rw c.fault.ensures (bad_line c.args.bytes.now c.loop-line.reader c.loop-line.rest.now c.in-Some.line.now c.in-Some.after.now c.loop-line.lines c.loop-line.invariant.read (sym c.in-Some.ensures.cut) c.loop-line.invariant.count c.loop-line.invariant.begun (c.in-Err-BadLine.ensures.refused cc))

pub loop-line-preserved : goal.loop-line-preserved
loop-line-preserved c =
    let shorter = c.in-Some.ensures.shorter in
    rw c.in-Ok.ensures.ok (record {
      read = one_more c.args.bytes.now c.loop-line.reader c.loop-line.rest.now c.in-Some.line.now c.in-Some.after.now c.loop-line.invariant.read (sym c.in-Some.ensures.cut);
      count = omega (arith, c.loop-line.invariant.count, length-append c.loop-line.reader (c.in-Some.line.now ∷ []));
      few = omega (arith, c.loop-line.invariant.few, shorter);
      begun = rw (← c.in-Ok.ensures.ok) c.in-Ok.ensures.begins;
    })

pub returns-clause-lines : goal.returns-clause-lines
returns-clause-lines c = (no_more c.args.bytes.now c.loop-line.reader c.loop-line.rest.now c.loop-line.invariant.read (sym c.in_default.ensures.cut)).0

pub returns-clause-count : goal.returns-clause-count
returns-clause-count c = c.loop-line.invariant.count ∙ ap length (no_more c.args.bytes.now c.loop-line.reader c.loop-line.rest.now c.loop-line.invariant.read (sym c.in_default.ensures.cut)).0

pub returns-clause-after : goal.returns-clause-after
returns-clause-after c = (no_more c.args.bytes.now c.loop-line.reader c.loop-line.rest.now c.loop-line.invariant.read (sym c.in_default.ensures.cut)).1

pub returns-clause-begins : goal.returns-clause-begins
returns-clause-begins c = rw (← (no_more c.args.bytes.now c.loop-line.reader c.loop-line.rest.now c.loop-line.invariant.read (sym c.in_default.ensures.cut)).0) c.loop-line.invariant.begun
