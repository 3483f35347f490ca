-- Worked examples: calls on a new store, what they answer, and what the store is after them.
use Rattle.std.specs.Prelude.{◌≡◌, ℕ, List, [], ◌∷◌, map, Some, None, Option}
use Rattle.std.specs.List.{AllByRecursion}
use Rattle.kinds.specs.Rows.{Shape}
use Rattle.kinds.specs.contracts.card.CardKind.TheImpl.{ghosts as card_kind}
use Rattle.kinds.specs.contracts.pair.PairKind.TheImpl.{ghosts as pair_kind}
use Rattle.model.specs.State.{State}
use Rattle.model.specs.Calls.{Played, played, new}
use Rattle.model.specs.declared.calls.Call.{Call}
use Rattle.model.specs.declared.calls.Call.TheVariants.{Make, Link, Drop, Collect, Tally}
use Rattle.model.specs.declared.calls.Reply.{Reply}
use Rattle.model.specs.declared.calls.Reply.TheVariants.{Number, Refused}
use Rattle.model.specs.declared.heads.Colour.{Colour}
use Rattle.model.specs.declared.heads.Colour.TheVariants.{Black, Purple}
use Rattle.model.specs.declared.refusals.Refusal.TheVariants.{NotHeld, Full}

-- the shapes of the two kinds, as their impls say
abbrev pub card : Shape
card = card_kind.shape

abbrev pub pair : Shape
pair = pair_kind.shape

-- what an example says of a store: the count and the colour of each record, from record 1 on, and the candidate list
pub record Marks : Type 0 where
  pub counts : List ℕ
  pub colours : List Colour
  pub list : List ℕ

abbrev pub marks : State → Marks
marks s = record { counts = map (λ h. h.count) s.heads; colours = map (λ h. h.colour) s.heads; list = s.candidates }

-- Calls on a new store of so many records, their replies, and the marks after them where the example speaks of these.
pub record Example : Type 0 where
  pub records : ℕ
  pub calls : List Call
  pub replies : List Reply
  pub after : Option Marks

abbrev pub examples : List Example
examples =
    -- Makes take the records in order, and the one that finds none free is refused.
    record {
      records = 3;
      calls = Make ∷ Make ∷ Make ∷ Make ∷ [];
      replies = Number 1 ∷ Number 2 ∷ Number 3 ∷ Refused Full ∷ [];
      after = Some (record { counts = 1 ∷ 1 ∷ 1 ∷ []; colours = Black ∷ Black ∷ Black ∷ []; list = [] });
    }
    -- A record that nothing else names is given up as soon as it is dropped.
    ∷ record {
      records = 3;
      calls = Make ∷ Drop 1 ∷ [];
      replies = Number 1 ∷ Number 1 ∷ [];
      after = Some (record { counts = 0 ∷ 0 ∷ 0 ∷ []; colours = Black ∷ Black ∷ Black ∷ []; list = [] });
    }
    -- A record that names itself outlives its drop, and a collection gets it back.
    ∷ record {
      records = 3;
      calls = Make ∷ Link 1 0 1 ∷ Drop 1 ∷ Collect ∷ [];
      replies = Number 1 ∷ Number 0 ∷ Number 0 ∷ Number 1 ∷ [];
      after = Some (record { counts = 0 ∷ 0 ∷ 0 ∷ []; colours = Black ∷ Black ∷ Black ∷ []; list = [] });
    }
    -- A ring of two is collected, record 2 before record 1: the next make takes 1, and 2 is not held.
    ∷ record {
      records = 200;
      calls = Make ∷ Make ∷ Link 1 1 2 ∷ Link 2 1 1 ∷ Drop 1 ∷ Drop 2 ∷ Collect ∷ Make ∷ Drop 2 ∷ [];
      replies = Number 1 ∷ Number 2 ∷ Number 0 ∷ Number 0 ∷ Number 0 ∷ Number 0 ∷ Number 2 ∷ Number 1 ∷ Refused NotHeld ∷ [];
      after = None;
    }
    -- A ring that a held record names lives: the scan finds a count left at 1, its first candidate.
    ∷ record {
      records = 3;
      calls = Make ∷ Make ∷ Make ∷ Link 1 0 2 ∷ Link 2 0 1 ∷ Link 3 0 1 ∷ Drop 1 ∷ Drop 2 ∷ Collect ∷ [];
      replies = Number 1 ∷ Number 2 ∷ Number 3 ∷ Number 0 ∷ Number 0 ∷ Number 0 ∷ Number 0 ∷ Number 0 ∷ Number 0 ∷ [];
      after = Some (record { counts = 2 ∷ 1 ∷ 1 ∷ []; colours = Black ∷ Black ∷ Black ∷ []; list = [] });
    }
    -- The same with 2 dropped before 1: the scan has turned 2 white when it comes to 1, and the restore takes it back.
    ∷ record {
      records = 3;
      calls = Make ∷ Make ∷ Make ∷ Link 1 0 2 ∷ Link 2 0 1 ∷ Link 3 0 1 ∷ Drop 2 ∷ Drop 1 ∷ Collect ∷ [];
      replies = Number 1 ∷ Number 2 ∷ Number 3 ∷ Number 0 ∷ Number 0 ∷ Number 0 ∷ Number 0 ∷ Number 0 ∷ Number 0 ∷ [];
      after = Some (record { counts = 2 ∷ 1 ∷ 1 ∷ []; colours = Black ∷ Black ∷ Black ∷ []; list = [] });
    }
    -- A release that comes to a waiting record leaves it spent: it counts as in use until a collection gives it up.
    ∷ record {
      records = 2;
      calls = Make ∷ Make ∷ Link 1 0 2 ∷ Drop 2 ∷ Drop 1 ∷ Tally ∷ Collect ∷ Tally ∷ [];
      replies = Number 1 ∷ Number 2 ∷ Number 0 ∷ Number 0 ∷ Number 1 ∷ Number 1 ∷ Number 1 ∷ Number 0 ∷ [];
      after = Some (record { counts = 0 ∷ 0 ∷ []; colours = Black ∷ Black ∷ []; list = [] });
    }
    -- With a collection before the last drop record 2 no longer waits, and both are given up.
    ∷ record {
      records = 2;
      calls = Make ∷ Make ∷ Link 1 0 2 ∷ Drop 2 ∷ Collect ∷ Drop 1 ∷ [];
      replies = Number 1 ∷ Number 2 ∷ Number 0 ∷ Number 0 ∷ Number 0 ∷ Number 2 ∷ [];
      after = Some (record { counts = 0 ∷ 0 ∷ []; colours = Black ∷ Black ∷ []; list = [] });
    }
    -- A link written once more with the same target is raised and lowered: the target ends purple and listed.
    ∷ record {
      records = 2;
      calls = Make ∷ Make ∷ Link 1 0 2 ∷ Link 1 0 2 ∷ [];
      replies = Number 1 ∷ Number 2 ∷ Number 0 ∷ Number 0 ∷ [];
      after = Some (record { counts = 1 ∷ 2 ∷ []; colours = Black ∷ Purple ∷ []; list = 2 ∷ [] });
    }
    ∷ []

-- the marks are those of the store, where there are any
abbrev pub Marked : Option Marks → State → Type 0
Marked None s = Unit {0}
Marked (Some m) s = marks s ≡ m

-- on a store of this shape the calls are answered by these replies, and leave these marks
abbrev pub Right : Shape → Example → Type 0
Right k e =
    let p : Played = played k (new k e.records) e.calls in
    (p.replies ≡ e.replies) × Marked e.after p.store

-- every example is right on cards and on pairs
abbrev pub ExamplesRight : Type 0
ExamplesRight = AllByRecursion (λ e. Right card e × Right pair e) examples
