-- The bytes of an image: how they are written, and how they are read back part by part.
use Rattle.std.specs.Prelude.{ℕ, ◌+◌, ◌-◌, ◌*◌, ◌/◌, ◌%◌, ◌^◌, Bool, true, false, cond, not, ◌&&◌, List, [], ◌∷◌, ◌++◌, map, length, take, drop, replicate, Some, None, count_by, Option, ◌==◌, nat_le, nat_lt, slice_index, slice_index_or}
use Rattle.std.specs.List.{range_with_len}
use Rattle.kinds.specs.Rows.{Shape}
use Rattle.model.specs.Lawful.{once}
use Rattle.model.specs.declared.refusals.Refusal.{Refusal}
use Rattle.model.specs.declared.refusals.Refusal.TheVariants.{EndsEarly, BreaksRule}

-- A map has a bit for each entry: entry k is bit k mod 8, from the low end, of byte k / 8.
abbrev pub map_length : ℕ → ℕ
map_length n = (n + 7) / 8

abbrev pub entry_bit : List Bool → ℕ → ℕ
entry_bit bs k = once (slice_index_or bs k false)

abbrev pub map_byte : List Bool → ℕ → ℕ
map_byte bs i =
    entry_bit bs (8 * i) + 2 * entry_bit bs (8 * i + 1) + 4 * entry_bit bs (8 * i + 2) + 8 * entry_bit bs (8 * i + 3)
    + 16 * entry_bit bs (8 * i + 4) + 32 * entry_bit bs (8 * i + 5) + 64 * entry_bit bs (8 * i + 6) + 128 * entry_bit bs (8 * i + 7)

abbrev pub bit_map : List Bool → List ℕ
bit_map bs = map (map_byte bs) (range_with_len 0 (map_length (length bs)))

abbrev pub map_entry : List ℕ → ℕ → Bool
map_entry m k = (slice_index m (k / 8) / 2 ^ (k % 8)) % 2 == 1

abbrev pub map_entries : ℕ → List ℕ → List Bool
map_entries n m = map (map_entry m) (range_with_len 0 n)

-- bits that stand for nothing are 0
abbrev pub spare_clear : ℕ → List ℕ → Bool
spare_clear n m = count_by (map_entry m) (range_with_len n (8 * map_length n - n)) == 0

-- A field has so many bytes, two of them with the high one first, and is at most so much.
pub record Field : Type 0 where
  pub wide : Bool
  pub most : ℕ

abbrev pub width : Field → ℕ
width f = cond f.wide 2 1

abbrev pub holds_field : Field
holds_field = record { wide = true; most = 1000 }

abbrev pub link_field : Field
link_field = record { wide = true; most = 65535 }

abbrev pub byte_field : Field
byte_field = record { wide = false; most = 255 }

-- the fields of a record: its holds, its links, its bytes
abbrev pub fields : Shape → List Field
fields k = holds_field ∷ (replicate k.links link_field ++ replicate k.bytes byte_field)

abbrev pub value_bytes : Field → ℕ → List ℕ
value_bytes f v = cond f.wide (v / 256 ∷ v % 256 ∷ []) (v ∷ [])

abbrev pub bytes_value : Field → List ℕ → ℕ
bytes_value f bs = cond f.wide (256 * slice_index bs 0 + slice_index bs 1) (slice_index bs 0)

-- a field is written only where it is not 0
abbrev pub fields_image : List Field → List ℕ → List ℕ
fields_image [] vs = []
fields_image (f ∷ fs) [] = []
fields_image (f ∷ fs) (v ∷ vs) = cond (v == 0) [] (value_bytes f v) ++ fields_image fs vs

abbrev pub record_image : Shape → List ℕ → List ℕ
record_image k vs = bit_map (map (λ v. not (v == 0)) vs) ++ fields_image (fields k) vs

-- What an image says of each record: the values of its fields where it is in use.
abbrev pub Contents : Type 0
Contents = List (Option (List ℕ))

abbrev pub is_some : Option (List ℕ) → Bool
is_some None = false
is_some (Some vs) = true

abbrev pub records_image : Shape → Contents → List ℕ
records_image k [] = []
records_image k (None ∷ c) = records_image k c
records_image k (Some vs ∷ c) = record_image k vs ++ records_image k c

-- the code of the kind, the number of records, which of them are in use, and each of those in rising order
abbrev pub start_image : Shape → ℕ → List ℕ
start_image k n = k.code ∷ n / 256 ∷ n % 256 ∷ []

abbrev pub contents_image : Shape → Contents → List ℕ
contents_image k c = start_image k (length c) ++ (bit_map (map is_some c) ++ records_image k c)

-- What a part says with the bytes after it, or why it is refused.
pub data Parsed (A : Type 0) : Type 0 where
  says : A → List ℕ → Parsed A
  fails : Refusal → Parsed A

abbrev pub onward : {A B : Type 0} → Parsed A → (A → List ℕ → Parsed B) → Parsed B
onward (says a rest) f = f a rest
onward (fails e) f = fails e

-- the first n bytes, which are there in full and keep the rule, say a
abbrev pub part : {A : Type 0} → ℕ → List ℕ → Bool → A → Parsed A
part n bytes rule a = cond (nat_lt (length bytes) n) (fails EndsEarly) (cond rule (says a (drop n bytes)) (fails BreaksRule))

abbrev pub read_start : Shape → ℕ → List ℕ → Parsed (Unit {0})
read_start k n bytes =
    part 3 bytes (slice_index bytes 0 == k.code && 256 * slice_index bytes 1 + slice_index bytes 2 == n) tt

abbrev pub read_map : ℕ → List ℕ → Parsed (List Bool)
read_map n bytes = part (map_length n) bytes (spare_clear n (take (map_length n) bytes)) (map_entries n (take (map_length n) bytes))

abbrev pub read_field : Field → Bool → List ℕ → Parsed ℕ
read_field f false bytes = says 0 bytes
read_field f true bytes =
    part (width f) bytes (not (bytes_value f bytes == 0) && nat_le (bytes_value f bytes) f.most) (bytes_value f bytes)

abbrev pub read_fields : List Field → List Bool → List ℕ → Parsed (List ℕ)
read_fields [] bs bytes = says [] bytes
read_fields (f ∷ fs) [] bytes = says [] bytes
read_fields (f ∷ fs) (b ∷ bs) bytes =
    onward (read_field f b bytes) (λ v rest. onward (read_fields fs bs rest) (λ vs after. says (v ∷ vs) after))

abbrev pub read_record : Shape → List ℕ → Parsed (List ℕ)
read_record k bytes = onward (read_map (length (fields k)) bytes) (λ bs rest. read_fields (fields k) bs rest)

abbrev pub read_records : Shape → List Bool → List ℕ → Parsed Contents
read_records k [] bytes = says [] bytes
read_records k (false ∷ us) bytes = onward (read_records k us bytes) (λ c after. says (None ∷ c) after)
read_records k (true ∷ us) bytes =
    onward (read_record k bytes) (λ vs rest. onward (read_records k us rest) (λ c after. says (Some vs ∷ c) after))

abbrev pub read_contents : Shape → ℕ → List ℕ → Parsed Contents
read_contents k n bytes =
    onward (read_start k n bytes) (λ _ rest. onward (read_map n rest) (λ us after. read_records k us after))
