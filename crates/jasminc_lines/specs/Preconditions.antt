-- The texts of preconditions and of regions.
use Rattle.std.specs.Prelude.{ℕ, List, [], ◌∷◌, ◌++◌, Option, Some, None, codes, decimal}
use Rattle.hex.specs.Hex.{encode_lower}
use Rattle.jz_annotations.specs.declared.precondition.Pre.{Pre}
use Rattle.jz_annotations.specs.declared.precondition.Pre.TheVariants as pre

-- how many bytes a region has
abbrev pub extent_text : ℕ → Option (List ℕ) → ℕ → List ℕ
extent_text factor None constant = decimal constant
extent_text factor (Some variable) constant =
    decimal factor ++ codes "*" ++ variable ++ codes "+" ++ decimal constant

-- what a precondition asks
abbrev pub pre_text : Pre → List ℕ
pre_text (pre.Region pointer factor variable constant) =
    codes "region " ++ pointer ++ codes " " ++ extent_text factor variable constant
pre_text (pre.Range name low high) =
    codes "range " ++ name ++ codes " " ++ decimal low ++ codes ".." ++ decimal high
pre_text (pre.Align pointer multiple) = codes "align " ++ pointer ++ codes " " ++ decimal multiple

-- bytes in hexadecimal digits, or a dash for none
abbrev pub bytes_or_dash : List ℕ → List ℕ
bytes_or_dash [] = codes "-"
bytes_or_dash (b ∷ bs) = encode_lower (b ∷ bs)

-- a region: the name of its pointer, and its bytes
abbrev pub region_line : List ℕ → List ℕ → List ℕ
region_line name bytes =
    codes "region " ++ name ++ codes " " ++ bytes_or_dash bytes ++ codes "\n"
