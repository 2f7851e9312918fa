-- The text of a listing.
use Rattle.std.specs.Prelude.{ℕ, List, [], ◌∷◌, ◌++◌, map, codes, decimal, Option, Some, None}
use Rattle.std.specs.List.{concat}
use Rattle.hex.specs.Hex.{encode_lower}
use Rattle.x64_insn.specs.Size.{Size}
use Rattle.x64_insn.specs.Size.TheVariants.{S8, S16, S32, S64}
use Rattle.jz_io.specs.declared.verdict.Ct.{Ct}
use Rattle.jz_io.specs.declared.verdict.Ct.TheVariants as ct
use Rattle.jz_io.specs.declared.verdict.CtKind.{CtKind}
use Rattle.jz_io.specs.declared.verdict.CtKind.TheVariants as kind
use Rattle.x64_insn.specs.declared.types.Reg.{Reg}
use Rattle.jz_text.specs.Texts.{reg_text, span_text}
use Rattle.jz_listing.specs.declared.compiled.Arg.{Arg}
use Rattle.jz_listing.specs.declared.compiled.Pre.{Pre}
use Rattle.jz_listing.specs.declared.compiled.Pre.TheVariants as pre
use Rattle.jz_listing.specs.declared.compiled.Compiled.{Compiled}
use Rattle.jz_listing.specs.Transformers.{transformer_text}

abbrev pub size_text : Size → List ℕ
size_text S8 = codes "u8"
size_text S16 = codes "u16"
size_text S32 = codes "u32"
size_text S64 = codes "u64"

-- a name, its size and its register
abbrev pub arg_text : Arg → List ℕ
arg_text a = a.name ++ codes " " ++ size_text a.size ++ codes " " ++ reg_text a.reg ++ codes "\n"

-- a parameter's line
abbrev pub arg_line : Arg → List ℕ
arg_line a = codes "arg " ++ arg_text a

-- a result's line
abbrev pub ret_line : Arg → List ℕ
ret_line a = codes "ret " ++ arg_text a

-- how many bytes a region has
abbrev pub extent_text : ℕ → Option (List ℕ) → ℕ → List ℕ
extent_text factor None constant = decimal constant
extent_text factor (Some variable) constant =
    decimal factor ++ codes "*" ++ variable ++ codes "+" ++ decimal constant

-- what a precondition asks
abbrev pub pre_text : Pre → List ℕ
pre_text (pre.Region pointer factor variable constant) =
    codes "region " ++ pointer ++ codes " " ++ extent_text factor variable constant
pre_text (pre.Range name low high) =
    codes "range " ++ name ++ codes " " ++ decimal low ++ codes ".." ++ decimal high
pre_text (pre.Align pointer multiple) = codes "align " ++ pointer ++ codes " " ++ decimal multiple

-- its line
abbrev pub pre_line : Pre → List ℕ
pre_line p = codes "pre " ++ pre_text p ++ codes "\n"

abbrev pub saved_reg_text : Reg → List ℕ
saved_reg_text r = codes " " ++ reg_text r

-- the saved registers, or a dash for none
abbrev pub saved_text : List Reg → List ℕ
saved_text [] = codes " -"
saved_text (r ∷ rs) = concat (map saved_reg_text (r ∷ rs))

abbrev pub kind_text : CtKind → List ℕ
kind_text kind.Branch = codes "Branch"
kind_text kind.Address = codes "Address"
kind_text kind.Divide = codes "Divide"

abbrev pub ct_text : Ct → List ℕ
ct_text ct.Yes = codes "yes"
ct_text (ct.No span kind var) =
    codes "no " ++ span_text span ++ codes " " ++ kind_text kind ++ codes " " ++ var

-- what a caller has to know of a function
abbrev pub interface_text : Compiled → List ℕ
interface_text c =
    codes "fn " ++ c.name ++ codes "\n"
    ++ concat (map arg_line c.args)
    ++ concat (map ret_line c.rets)
    ++ concat (map pre_line c.pre)

-- its frame
abbrev pub frame_text : Compiled → List ℕ
frame_text c =
    codes "frame " ++ decimal c.frame ++ codes "\nsaved" ++ saved_text c.saved ++ codes "\n"

-- its code
abbrev pub code_text : Compiled → List ℕ
code_text c =
    codes "insns " ++ decimal c.insns ++ codes "\ncode " ++ encode_lower c.code ++ codes "\n"

-- its leakage
abbrev pub leakage_text : Compiled → List ℕ
leakage_text c =
    codes "tr " ++ transformer_text c.tr ++ codes "\nct " ++ ct_text c.ct ++ codes "\nend\n"

-- the part of the listing for one function
abbrev pub compiled_text : Compiled → List ℕ
compiled_text c = interface_text c ++ frame_text c ++ code_text c ++ leakage_text c

-- the whole listing: its first line, and each function in order
abbrev pub listing_text : List Compiled → List ℕ
listing_text cs = codes "jasmin-listing 1\n" ++ concat (map compiled_text cs)
