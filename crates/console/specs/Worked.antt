-- A worked session at the keyboard, byte for byte.
use Rattle.std.specs.Prelude.{◌≡◌, ℕ, List, [], ◌∷◌, codes}
use Rattle.std.specs.List.{AllByRecursion}
use Rattle.kinds.specs.contracts.card.CardKind.TheImpl.{ghosts as card_kind}
use Rattle.model.specs.Calls.{new}
use Rattle.console.specs.Session.{session}

-- what is typed at a new store of so many cards, and the whole output
pub record Example : Type 0 where
  pub cards : ℕ
  pub input : List ℕ
  pub output : List ℕ

abbrev pub examples : List Example
examples =
    -- two cards that mark each other outlive their drops; the next make takes card 3, and card 2 is not held
    record {
      cards = 200;
      input = codes "make\nmake\nlink 1 1 2\nlink 2 1 1\ndrop 1\ndrop 2\nmake\ndrop 2\n";
      output = codes "ok 1\nok 2\nok 0\nok 0\nok 0\nok 0\nok 3\nrefused 3\n";
    }
    -- a line outside the forms leaves the store as it was, and a last line without a line feed is answered
    ∷ record {
      cards = 200;
      input = codes "make\n make\n\ntally";
      output = codes "ok 1\nrefused 14\nrefused 14\nok 1\n";
    }
    -- no input, no output
    ∷ record { cards = 200; input = []; output = [] }
    ∷ []

abbrev pub SessionsRight : Type 0
SessionsRight =
    AllByRecursion (λ e. (session card_kind.shape (new card_kind.shape e.cards) e.input).output ≡ e.output) examples
