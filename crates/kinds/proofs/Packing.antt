-- Two links and a byte that are shifted into one number add up to it, and are read off it again.
use Rattle.std.proofs.Common.{◌≡◌, ℕ, ◌+◌, ◌*◌, ◌/◌, ◌%◌, ◌^◌, ◌≤◌, [], ◌∷◌, arith}
use lib.Bits.{bit_and, bit_or}
use Rattle.std.proofs.lemmas.Nat.{and_mask, or_shifted}
use Rattle.kinds.specs.Words.{unpacked}

-- a mask of 12 bits
pub low_twelve : (n : ℕ) → bit_and n 0xfff ≡ n % 2 ^ 12
low_twelve n = and_mask n 12

-- the word of the links f and s and the byte b, as shifts and `|` make it at 32 bits
abbrev pub packing : ℕ → ℕ → ℕ → ℕ
packing f s b = bit_or (bit_or (b * 2 ^ 24 % 2 ^ 32) (s * 2 ^ 12 % 2 ^ 32)) f

module _ (f s b : ℕ) (first : f ≤ 4095) (second : s ≤ 4095) (byte : b ≤ 255) where
  -- the byte and the second link, which stand above the first
  upper_sum : bit_or (b * 2 ^ 24 % 2 ^ 32) (s * 2 ^ 12 % 2 ^ 32) ≡ (b * 2 ^ 12 + s) * 2 ^ 12
  upper_sum =
      let whole_b : b * 2 ^ 24 % 2 ^ 32 ≡ b * 2 ^ 24 = omega arith in
      let whole_s : s * 2 ^ 12 % 2 ^ 32 ≡ s * 2 ^ 12 = omega arith in
      rw (whole_b, whole_s) (omega (arith, or_shifted b 24 (s * 2 ^ 12) (omega arith)))

  pub packing_sum : packing f s b ≡ b * 2 ^ 24 + s * 2 ^ 12 + f
  packing_sum = rw upper_sum (omega (arith, or_shifted (b * 2 ^ 12 + s) 12 f (omega arith)))

  pub packing_read : unpacked (packing f s b) ≡ record { links = f ∷ s ∷ []; bytes = b ∷ [] }
  packing_read =
      let low : (b * 2 ^ 24 + s * 2 ^ 12 + f) % 2 ^ 12 ≡ f = omega arith in
      let upper : (b * 2 ^ 24 + s * 2 ^ 12 + f) / 2 ^ 12 ≡ b * 2 ^ 12 + s = omega arith in
      let middle : (b * 2 ^ 12 + s) % 2 ^ 12 ≡ s = omega arith in
      let high : (b * 2 ^ 24 + s * 2 ^ 12 + f) / 2 ^ 24 ≡ b = omega arith in
      rw (packing_sum, low, upper, middle, high)
