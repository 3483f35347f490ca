-- Which tables a store can be made over.
use Rattle.std.specs.Prelude.{ℕ, ◌*◌, Ok, Err, Result, cond, ◌&&◌, ◌||◌, ◌==◌, nat_le, nat_lt}
use Rattle.model.specs.Refusals.{number_of}
use Rattle.model.specs.declared.refusals.Refusal.{Refusal}
use Rattle.model.specs.declared.refusals.Refusal.TheVariants.{NoRecords, WrongLengths}

-- The lengths of the record table, the heads, the list and the work table; 0 where they fit.
abbrev pub table_test : ℕ → ℕ → ℕ → ℕ → ℕ
table_test n heads list work =
    cond (n == 0 || nat_lt 4095 n) (number_of NoRecords)
    (cond (heads == n && (list == n && nat_le (2 * n) work)) 0 (number_of WrongLengths))

-- how many records a store over such tables has
abbrev pub table_size : ℕ → ℕ → ℕ → ℕ → ℕ
table_size n heads list work = cond (table_test n heads list work == 0) n 0

-- the number of what a test answers; 0 where it refuses nothing
abbrev pub refusal_number : {U : Type 0} → Result U Refusal → ℕ
refusal_number (Ok u) = 0
refusal_number (Err e) = number_of e
