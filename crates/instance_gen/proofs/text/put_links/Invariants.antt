use Rattle.std.proofs.Common.{map, string_bytes, take}
use Rattle.instance_gen.specs.Text.{link_line}
use Rattle.instance_gen.specs.Writing.{IsWritten}
use Rattle.instance_gen.proofs.text.put_links.Given as goal

abbrev pub invariant-loop-link : goal.invariant-loop-link
invariant-loop-link l = IsWritten (string_bytes l.initial.text) (string_bytes l.text) (map (λ link. link_line link l.scale) (take l.link-index l.links))
