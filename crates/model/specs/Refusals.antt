-- The number of each refusal. Where several would fit a call, the uppermost is given.
use Rattle.std.specs.Prelude.{ℕ}
use Rattle.model.specs.declared.refusals.Refusal.{Refusal}
use Rattle.model.specs.declared.refusals.Refusal.TheVariants.{NoRecords, WrongLengths, NotHeld, NoSuchField, Full, TooManyHolds, ListNotEmpty, OutputTooShort, EndsEarly, BreaksRule, BytesFollow, AbsentRecord, NotReachable, BadLine}

abbrev pub number_of : Refusal → ℕ
-- the record table has no entry, or more than 4,095
number_of NoRecords = 1
-- another table has a wrong length
number_of WrongLengths = 2
-- a record named is 0, above N, or has no hold
number_of NotHeld = 3
-- the record has no such link or byte
number_of NoSuchField = 4
-- a make, and no record is free
number_of Full = 5
-- the record that would gain a hold has 1,000
number_of TooManyHolds = 6
-- an image is to be written while the candidate list is not empty
number_of ListNotEmpty = 7
-- the image is longer than the output
number_of OutputTooShort = 8
-- an image ends before one of its parts is complete
number_of EndsEarly = 9
-- a complete part of an image breaks its rule
number_of BreaksRule = 10
-- bytes follow the last record of an image
number_of BytesFollow = 11
-- a link in an image names an absent record
number_of AbsentRecord = 12
-- a record in an image is not reachable
number_of NotReachable = 13
-- a line at the keyboard is too long or outside the forms
number_of BadLine = 14
