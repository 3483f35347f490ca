use Rattle.std.proofs.Common.{◌∷◌, ap, ◌∙◌}
use Rattle.keyboard.specs.Splits.{left, text_of}
use Rattle.keyboard.proofs.Naming.{by_name}
use Rattle.keyboard.proofs.words.Words.form.Goals as goal

pub returns-in-Command : goal.returns-in-Command
returns-in-Command c =
    let first = c.in_ok-name.ensures.steps.0 ∙ ap (λ w. text_of w ∷ left c.next.new.self) c.in-Command.is in
    record { value = by_name _ _ _ _ first c.named.ensures.value }
