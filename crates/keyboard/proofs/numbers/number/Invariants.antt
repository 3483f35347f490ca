use Rattle.keyboard.proofs.Reading.{Read}
use Rattle.keyboard.proofs.numbers.number.Given as goal

abbrev pub invariant-loop-digit : goal.invariant-loop-digit
invariant-loop-digit l = Read l.word l.digit-index l.value
