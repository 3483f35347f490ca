-- How a number of 32 bits holds two links and a byte: link 0 in bits 0 to 11, link 1 in bits 12 to 23, the byte in bits 24 to 31.
use Rattle.std.specs.Prelude.{ℕ, ◌/◌, ◌%◌, ◌^◌, [], ◌∷◌}
use Rattle.kinds.specs.Rows.{Row}

abbrev pub unpacked : ℕ → Row
unpacked w = record { links = w % 2 ^ 12 ∷ w / 2 ^ 12 % 2 ^ 12 ∷ []; bytes = w / 2 ^ 24 ∷ [] }
