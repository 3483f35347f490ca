use Rattle.keyboard.specs.Splits.{left}
use Rattle.keyboard.proofs.Numbering.{Read}
use Rattle.keyboard.proofs.commands.numbers.Given as goal

abbrev pub invariant-loop-number : goal.invariant-loop-number
invariant-loop-number g l = Read g.row.N (left l.fn.words) (left l.words) l.number-index l.number-items
