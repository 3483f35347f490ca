use Rattle.keyboard.proofs.Reading.{decimals}
use Rattle.keyboard.proofs.laws.number_limit.Goals as goal

pub returns : goal.returns
returns c = record { law = decimals }
