-- What a record of any kind means: a list of links and a list of bytes.
use Rattle.std.specs.Prelude.{◌≡◌, ℕ, ◌≤◌, List, length, replicate, slice_set}
use Rattle.std.specs.List.{AllByRecursion}

-- the three numbers that a kind fixes: how many links and bytes each record has, and the code of the kind in an image
pub record Shape : Type 0 where
  pub links : ℕ
  pub bytes : ℕ
  pub code : ℕ

pub record Bounded (k : Shape) : Type 0 where
  pub some_link : 1 ≤ k.links
  pub few_links : k.links ≤ 16
  pub few_bytes : k.bytes ≤ 32
  pub some_code : 1 ≤ k.code
  pub small_code : k.code ≤ 127

-- what a record holds: its links, 0 where a link is empty, and its bytes
pub record Row : Type 0 where
  pub links : List ℕ
  pub bytes : List ℕ

abbrev pub blank : Shape → Row
blank k = record { links = replicate k.links 0; bytes = replicate k.bytes 0 }

-- one link, or one byte, written
abbrev pub with_link : Row → ℕ → ℕ → Row
with_link w i t = record { links = slice_set w.links i t; bytes = w.bytes }

abbrev pub with_byte : Row → ℕ → ℕ → Row
with_byte w j b = record { links = w.links; bytes = slice_set w.bytes j b }

-- a row of the kind: as many links and bytes as the kind says, each in its range
pub record Fits (k : Shape) (w : Row) : Type 0 where
  pub links_fit : length w.links ≡ k.links
  pub bytes_fit : length w.bytes ≡ k.bytes
  pub links_small : AllByRecursion (λ t. t ≤ 4095) w.links
  pub bytes_small : AllByRecursion (λ b. b ≤ 255) w.bytes
