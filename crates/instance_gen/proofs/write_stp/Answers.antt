use Rattle.std.proofs.Common.{ℕ, ◌∙◌, ap, Vec, Global}
use Rattle.instance_gen.specs.Text.{stp_text}
use Rattle.instance_gen.proofs.Joined.{◌then◌}
use Rattle.instance_gen.proofs.write_stp.Goals as goal

pub returns : goal.returns
unfolding stp_text
returns c =
    let graph = rw c.new-text.ensures.bytes at c.in_ok-put_graph.ensures in
    let terminals = rw (c.deref.ensures.value, c.in_ok-needs.ensures) at c.in_ok-put_terminals.ensures in
    let all = graph then terminals in
    ap (λ (v : Vec ℕ Global). v.items) c.into_bytes.ensures.value ∙ all.bytes
