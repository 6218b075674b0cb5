use Rattle.std.proofs.Common.{◌≡◌, ◌++◌, map, take}
use Rattle.std.specs.List.{flat_map}
use Rattle.plain_text.specs.Lines.{ended}
use Rattle.log_format.specs.Text.{step_line}
use Rattle.log_format.proofs.write.write_each_step.Given as goal

abbrev pub invariant-loop-step : goal.invariant-loop-step
invariant-loop-step l = l.text.items ≡ l.initial.text.items ++ flat_map ended (map step_line (take l.step-index l.steps))
