use Rattle.std.proofs.Common.{sym, ◌∙◌}
use Rattle.keyboard.proofs.Numbering.{read_more}
use Rattle.keyboard.proofs.commands.numbers.Goals as goal

pub loop-number-preserved : goal.loop-number-preserved
loop-number-preserved g c = read_more _ _ _ _ _ _ _ c.loop-number.invariant c.loop-number-test.true (sym c.in_ok-number.was ∙ c.number.ensures.value) c.number.ensures.after
