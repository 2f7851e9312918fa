-- The names of the intrinsics: each alone, or with the size of its words.
use Rattle.std.specs.Prelude.{ℕ, List, Option, Some, None, codes, if◌then◌else◌}
use Rattle.std.specs.Str.{bytes_eq}
use Rattle.jz_words.specs.declared.size.Size.{Size}
use Rattle.jz_words.specs.declared.size.Size.TheVariants as sizes
use Rattle.jz_tree.specs.declared.intrinsic.Intrinsic.{Intrinsic}
use Rattle.jz_tree.specs.declared.intrinsic.Intrinsic.TheVariants as name
use Rattle.jz_tree.specs.declared.intrinsic.Instance.{Instance}

-- the size that a name says, where it is the name of that intrinsic
unfoldable pub sized_spelling : List ℕ → List ℕ → List ℕ → List ℕ → List ℕ → List ℕ → Option (Option Size)
sized_spelling n plain s8 s16 s32 s64 = if bytes_eq n plain then Some None
    else if bytes_eq n s8 then Some (Some sizes.S8)
    else if bytes_eq n s16 then Some (Some sizes.S16)
    else if bytes_eq n s32 then Some (Some sizes.S32)
    else if bytes_eq n s64 then Some (Some sizes.S64)
    else None

unfoldable pub entry : Intrinsic → Option (Option Size) → Option Instance
entry i None = None
entry i (Some z) = Some (record { name = i; size = z })

unfoldable pub or_else : Option Instance → Option Instance → Option Instance
or_else None b = b
or_else (Some x) b = Some x

unfoldable pub sums_named : List ℕ → Option Instance
sums_named n = or_else (entry name.Add (sized_spelling n (codes "ADD") (codes "ADD_8") (codes "ADD_16") (codes "ADD_32") (codes "ADD_64")))
    (or_else (entry name.Sub (sized_spelling n (codes "SUB") (codes "SUB_8") (codes "SUB_16") (codes "SUB_32") (codes "SUB_64")))
    (or_else (entry name.And (sized_spelling n (codes "AND") (codes "AND_8") (codes "AND_16") (codes "AND_32") (codes "AND_64")))
    (or_else (entry name.Or (sized_spelling n (codes "OR") (codes "OR_8") (codes "OR_16") (codes "OR_32") (codes "OR_64")))
    (or_else (entry name.Xor (sized_spelling n (codes "XOR") (codes "XOR_8") (codes "XOR_16") (codes "XOR_32") (codes "XOR_64")))
    (or_else (entry name.Adc (sized_spelling n (codes "ADC") (codes "ADC_8") (codes "ADC_16") (codes "ADC_32") (codes "ADC_64")))
    (entry name.Sbb (sized_spelling n (codes "SBB") (codes "SBB_8") (codes "SBB_16") (codes "SBB_32") (codes "SBB_64"))))))))

unfoldable pub ones_named : List ℕ → Option Instance
ones_named n = or_else (entry name.Neg (sized_spelling n (codes "NEG") (codes "NEG_8") (codes "NEG_16") (codes "NEG_32") (codes "NEG_64")))
    (or_else (entry name.Inc (sized_spelling n (codes "INC") (codes "INC_8") (codes "INC_16") (codes "INC_32") (codes "INC_64")))
    (or_else (entry name.Dec (sized_spelling n (codes "DEC") (codes "DEC_8") (codes "DEC_16") (codes "DEC_32") (codes "DEC_64")))
    (or_else (entry name.Not (sized_spelling n (codes "NOT") (codes "NOT_8") (codes "NOT_16") (codes "NOT_32") (codes "NOT_64")))
    (or_else (entry name.Bswap (sized_spelling n (codes "BSWAP") (codes "BSWAP_8") (codes "BSWAP_16") (codes "BSWAP_32") (codes "BSWAP_64")))
    (entry name.Lea (sized_spelling n (codes "LEA") (codes "LEA_8") (codes "LEA_16") (codes "LEA_32") (codes "LEA_64")))))))

unfoldable pub shifts_named : List ℕ → Option Instance
shifts_named n = or_else (entry name.Shl (sized_spelling n (codes "SHL") (codes "SHL_8") (codes "SHL_16") (codes "SHL_32") (codes "SHL_64")))
    (or_else (entry name.Shr (sized_spelling n (codes "SHR") (codes "SHR_8") (codes "SHR_16") (codes "SHR_32") (codes "SHR_64")))
    (or_else (entry name.Sar (sized_spelling n (codes "SAR") (codes "SAR_8") (codes "SAR_16") (codes "SAR_32") (codes "SAR_64")))
    (or_else (entry name.Rol (sized_spelling n (codes "ROL") (codes "ROL_8") (codes "ROL_16") (codes "ROL_32") (codes "ROL_64")))
    (entry name.Ror (sized_spelling n (codes "ROR") (codes "ROR_8") (codes "ROR_16") (codes "ROR_32") (codes "ROR_64"))))))

unfoldable pub rest_named : List ℕ → Option Instance
rest_named n = or_else (entry name.Cmp (sized_spelling n (codes "CMP") (codes "CMP_8") (codes "CMP_16") (codes "CMP_32") (codes "CMP_64")))
    (or_else (entry name.Test (sized_spelling n (codes "TEST") (codes "TEST_8") (codes "TEST_16") (codes "TEST_32") (codes "TEST_64")))
    (or_else (entry name.Imul (sized_spelling n (codes "IMUL") (codes "IMUL_8") (codes "IMUL_16") (codes "IMUL_32") (codes "IMUL_64")))
    (or_else (entry name.Mul (sized_spelling n (codes "MUL") (codes "MUL_8") (codes "MUL_16") (codes "MUL_32") (codes "MUL_64")))
    (or_else (entry name.Div (sized_spelling n (codes "DIV") (codes "DIV_8") (codes "DIV_16") (codes "DIV_32") (codes "DIV_64")))
    (entry name.Setcc (sized_spelling n (codes "SETcc") (codes "SETcc_8") (codes "SETcc_16") (codes "SETcc_32") (codes "SETcc_64")))))))

-- the intrinsic of that name
abbrev pub spelled : List ℕ → Option Instance
spelled n = or_else (sums_named n) (or_else (ones_named n) (or_else (shifts_named n) (rest_named n)))
