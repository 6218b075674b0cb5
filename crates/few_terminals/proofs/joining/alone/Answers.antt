use Rattle.std.proofs.Common.{◌≡◌, get_or, sym, ◌∙◌, arith}
use Rattle.st_model.proofs.Marked.{has_at}
use Rattle.few_terminals.proofs.Bits.{mask_at, mask_only, mask_nowhere}
use Rattle.few_terminals.proofs.joining.alone.Goals as goal

pub returns-then-bit-bits-clause-some : goal.returns-then-bit-bits-clause-some
returns-then-bit-bits-clause-some c =
    let ks = c.args.terminals.now in
    let i = c.loop-terminal.terminal-index in
    (has_at ks i 0 c.loop-terminal-test.true, mask_at ks i c.requires.apart c.loop-terminal-test.true ∙ (sym c.loop-terminal.invariant.0 ∙ c.if-bit-bits.true))

pub returns-then-bit-bits-clause-all : goal.returns-then-bit-bits-clause-all
returns-then-bit-bits-clause-all c k known is =
    let ks = c.args.terminals.now in
    let i = c.loop-terminal.terminal-index in
    let same : k ≡ get_or ks i 0 = mask_only ks i k c.loop-terminal-test.true known (is ∙ (sym c.if-bit-bits.true ∙ c.loop-terminal.invariant.0)) in
    cc

pub returns-clause-all : goal.returns-clause-all
returns-clause-all c k known is =
    let ks = c.args.terminals.now in
    let past = c.loop-terminal-test.false in
    absurd (mask_nowhere ks c.args.bits k c.requires.apart (λ i low. c.loop-terminal.invariant.1 i (omega (arith, low, past))) known is)
