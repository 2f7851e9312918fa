-- The lines of a listing: the text of each, without its line feed, and which there are.
use Rattle.std.specs.Prelude.{◌≡◌, ◌<◌, ◌^◌, ◌⊎◌, ℕ, true, List, [], ◌∷◌, ◌++◌, codes, decimal, Option, Some, None, All, ⊤}
use Rattle.hex.specs.Hex.{encode_lower}
use Rattle.jz_lex.specs.Identifiers.{IsIdentifier}
use Rattle.jz_io.specs.declared.verdict.Ct.{Ct}
use Rattle.jz_io.specs.declared.verdict.Ct.TheVariants as ct
use Rattle.jz_text.specs.Texts.{reg_text}
use Rattle.jz_listing.specs.declared.compiled.Arg.{Arg}
use Rattle.jz_listing.specs.declared.compiled.Pre.{Pre}
use Rattle.jz_listing.specs.declared.compiled.Pre.TheVariants as pre
use Rattle.jz_listing.specs.Listing.{size_text, pre_text, saved_text, ct_text}
use Rattle.jz_listing.specs.Listable.{transformer_fits}
use Rattle.jz_listing.specs.Transformers.{transformer_text}
use Rattle.jz_listing_lines.specs.declared.line.Line.{Line}
use Rattle.jz_listing_lines.specs.declared.line.Line.TheVariants as line

-- a name, its size and its register
abbrev pub held_text : Arg → List ℕ
held_text a = a.name ++ (codes " " ++ (size_text a.size ++ (codes " " ++ reg_text a.reg)))

abbrev pub line_text : Line → List ℕ
line_text line.First = codes "jasmin-listing 1"
line_text (line.Fn name) = codes "fn " ++ name
line_text (line.Arg a) = codes "arg " ++ held_text a
line_text (line.Ret a) = codes "ret " ++ held_text a
line_text (line.Pre p) = codes "pre " ++ pre_text p
line_text (line.Frame size) = codes "frame " ++ decimal size
line_text (line.Saved regs) = codes "saved" ++ saved_text regs
line_text (line.Insns count) = codes "insns " ++ decimal count
line_text (line.Code bytes) = codes "code " ++ encode_lower bytes
line_text (line.Leakage t) = codes "tr " ++ transformer_text t
line_text (line.Ct c) = codes "ct " ++ ct_text c
line_text line.End = codes "end"

-- names are identifiers, and a region without a variable has no factor; numbers have 64 bits
abbrev pub IsPreLine : Pre → Type 0
IsPreLine (pre.Region pointer factor None constant) =
    IsIdentifier pointer × (factor ≡ 0) × (constant < 2 ^ 64)
IsPreLine (pre.Region pointer factor (Some variable) constant) =
    IsIdentifier pointer × (factor < 2 ^ 64) × IsIdentifier variable × (constant < 2 ^ 64)
IsPreLine (pre.Range name low high) = IsIdentifier name × (low < 2 ^ 64) × (high < 2 ^ 64)
IsPreLine (pre.Align pointer multiple) = IsIdentifier pointer × (multiple < 2 ^ 64)

-- a cell of an array, as `a[3]`
abbrev pub cell_text : List ℕ → ℕ → List ℕ
cell_text name place = name ++ (codes "[" ++ (decimal place ++ codes "]"))

-- the variable of a breach: an identifier, `mem` for memory being one, or a cell
abbrev pub IsSecret : List ℕ → Type 0
IsSecret v =
    IsIdentifier v
    ⊎ ((name : List ℕ) × (place : ℕ) × IsIdentifier name × (place < 2 ^ 64)
    × (v ≡ cell_text name place))

abbrev pub IsCtLine : Ct → Type 0
IsCtLine ct.Yes = ⊤
IsCtLine (ct.No span kind var) = (span.line < 2 ^ 32) × (span.col < 2 ^ 32) × IsSecret var

-- the lines that there are
abbrev pub IsLine : Line → Type 0
IsLine line.First = ⊤
IsLine (line.Fn name) = IsIdentifier name
IsLine (line.Arg a) = IsIdentifier a.name
IsLine (line.Ret a) = IsIdentifier a.name
IsLine (line.Pre p) = IsPreLine p
IsLine (line.Frame size) = size < 2 ^ 64
IsLine (line.Saved regs) = ⊤
IsLine (line.Insns count) = count < 2 ^ 64
IsLine (line.Code bytes) = All (λ b. b < 256) bytes
IsLine (line.Leakage t) = transformer_fits t ≡ true
IsLine (line.Ct c) = IsCtLine c
IsLine line.End = ⊤

-- the line that bytes are, or none where they are no line
abbrev pub IsRead : List ℕ → Option Line → Type 0
IsRead bytes (Some l) = IsLine l × (line_text l ≡ bytes)
IsRead bytes None = (l : Line) → IsLine l → line_text l ≡ bytes → ⊥
