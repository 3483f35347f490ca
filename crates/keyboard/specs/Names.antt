-- The command words of the forms, byte by byte.
use Rattle.std.specs.Prelude.{◌≡◌, ℕ, suc, List, [], ◌∷◌, length, codes, slice_index}
use Rattle.keyboard.specs.declared.forms.Form.{Form}
use Rattle.keyboard.specs.declared.forms.Form.TheVariants.{Make, Hold, Load, Link, Byte, Look, Drop, Tally}

abbrev pub name_of : Form → List ℕ
name_of Make = codes "make"
name_of Hold = codes "hold"
name_of Load = codes "load"
name_of Link = codes "link"
name_of Byte = codes "byte"
name_of Look = codes "look"
name_of Drop = codes "drop"
name_of Tally = codes "tally"

-- the bytes of p stand in w from i on
abbrev pub Reads : List ℕ → ℕ → List ℕ → Type 0
Reads w i [] = Unit {0}
Reads w i (c ∷ p) = (slice_index w i ≡ c) × Reads w (suc i) p

-- w is the command word of the form
abbrev pub Names : List ℕ → Form → Type 0
Names w f = (length w ≡ length (name_of f)) × Reads w 0 (name_of f)

-- w is the command word of no form
abbrev pub Nameless : List ℕ → Type 0
Nameless w =
    (Names w Make → ⊥) × (Names w Hold → ⊥) × (Names w Load → ⊥) × (Names w Link → ⊥) × (Names w Byte → ⊥) × (Names w Look → ⊥)
    × (Names w Drop → ⊥) × (Names w Tally → ⊥)
