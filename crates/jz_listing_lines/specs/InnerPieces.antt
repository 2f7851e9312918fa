-- Reading the pieces of a line.
use Rattle.std.specs.Prelude.{◌≡◌, ℕ, ◌<◌, ◌^◌, ℤ, List, [], ◌∷◌, ◌++◌, Bool, true, false, if◌then◌else◌, Option, Some, None, codes, map}
use Rattle.hex.specs.Hex.{encode_lower, decode_of}
use Rattle.hex.specs.declared.error.FromHexError.{FromHexError}
use Rattle.std.specs.Prelude.{Result, Ok, Err}
use Rattle.std.specs.Str.{bytes_eq}
use Rattle.jz_words.specs.declared.size.Size.{Size}
use Rattle.jz_words.specs.declared.size.Size.TheVariants.{S8, S16, S32, S64}
use Rattle.x64_insn.specs.declared.types.Reg.{Reg}
use Rattle.x64_insn.specs.declared.types.Reg.TheVariants as reg
use Rattle.x64_insn.specs.Table.{registers}
use Rattle.jz_io.specs.declared.span.Span.{Span}
use Rattle.jz_io.specs.declared.verdict.Ct.{Ct}
use Rattle.jz_io.specs.declared.verdict.Ct.TheVariants as ct
use Rattle.jz_io.specs.declared.verdict.CtKind.{CtKind}
use Rattle.jz_io.specs.declared.verdict.CtKind.TheVariants as kind
use Rattle.jz_leak.specs.declared.transformer.Form.{Form}
use Rattle.jz_leak.specs.declared.transformer.Form.TheVariants as form
use Rattle.jz_leak.specs.declared.transformer.Out.{Out}
use Rattle.jz_leak.specs.declared.transformer.Out.TheVariants as out
use Rattle.jz_text.specs.Texts.{reg_text}
use Rattle.jz_listing.specs.declared.compiled.Arg.{Arg}
use Rattle.jz_listing.specs.declared.compiled.Pre.{Pre}
use Rattle.jz_listing.specs.declared.compiled.Pre.TheVariants as pre
use Rattle.jz_listing.specs.Listing.{size_text, kind_text}
use Rattle.jz_listing_lines.specs.Lines.{cell_text}
use Rattle.jz_lex.specs.LexingWords.{begins}
use Rattle.jz_listing_lines.specs.InnerReaders.{Answer, Reader, ◌>>=◌, through, literal, behind, follow, pick, closed, many, more_of, one_of, name, number, small_number, signed_number}

-- ---- parameters and results
abbrev pub sizes : List Size
sizes = S8 ∷ S16 ∷ S32 ∷ S64 ∷ []

unfoldable pub size : Reader Size
size = one_of size_text sizes

-- those that have numbers for their names
abbrev pub numbered : List Reg
numbered =
    reg.R8 ∷ reg.R9 ∷ reg.R10 ∷ reg.R11 ∷ reg.R12 ∷ reg.R13 ∷ reg.R14 ∷ reg.R15 ∷ []

unfoldable pub a_reg : Reader Reg
a_reg = one_of reg_text registers

abbrev pub arg_of : List ℕ × (Size × Reg) → Arg
arg_of p = record { name = p.0; size = p.1.0; reg = p.1.1 }

-- a name, its size and its register
unfoldable pub held : Reader Arg
held bs =
    through arg_of (follow name (behind (codes " ") (follow size (behind (codes " ") a_reg))) bs)

-- ---- preconditions
-- a factor, a variable and a constant
abbrev pub Extent : Type 0
Extent = ℕ × (Option (List ℕ) × ℕ)

-- what stands behind the first number of an extent
unfoldable pub extent_rest : ℕ → Reader Extent
extent_rest n bs =
    if begins (codes "*") bs
    then through (λ p. (n, (Some p.0, p.1)))
    (behind (codes "*") (follow name (behind (codes "+") number)) bs)
    else Some ((0, (None, n)), bs)

unfoldable pub extent : Reader Extent
extent bs = number bs >>= λ x. extent_rest x.0 x.1

unfoldable pub region : Reader Pre
region bs =
    through (λ p. pre.Region p.0 p.1.0 p.1.1.0 p.1.1.1) (follow name (behind (codes " ") extent) bs)

unfoldable pub range : Reader Pre
range bs =
    through (λ p. pre.Range p.0 p.1.0 p.1.1)
    (follow name (behind (codes " ") (follow number (behind (codes "..") number))) bs)

unfoldable pub align : Reader Pre
align bs = through (λ p. pre.Align p.0 p.1) (follow name (behind (codes " ") number) bs)

unfoldable pub precondition : Reader Pre
precondition =
    pick (codes "region ") (behind (codes "region ") region)
    (pick (codes "range ") (behind (codes "range ") range) (behind (codes "align ") align))

-- ---- constant time
unfoldable pub span : Reader Span
span bs =
    through (λ p. record { line = p.0; col = p.1 })
    (follow small_number (behind (codes ":") small_number) bs)

abbrev pub kinds : List CtKind
kinds = kind.Branch ∷ kind.Address ∷ kind.Divide ∷ []

unfoldable pub breach_kind : Reader CtKind
breach_kind = one_of kind_text kinds

-- what stands behind the name of a variable: nothing of it, or a cell
unfoldable pub secret_rest : List ℕ → Reader (List ℕ)
secret_rest w bs =
    if begins (codes "[") bs
    then through (λ n. cell_text w n) (behind (codes "[") (closed number (codes "]")) bs)
    else Some (w, bs)

unfoldable pub secret : Reader (List ℕ)
secret bs = name bs >>= λ x. secret_rest x.0 x.1

unfoldable pub breach : Reader Ct
breach bs =
    through (λ p. ct.No p.0 p.1.0 p.1.1)
    (follow span (behind (codes " ") (follow breach_kind (behind (codes " ") secret))) bs)

unfoldable pub verdict : Reader Ct
verdict =
    pick (codes "yes") (λ bs. through (λ u. ct.Yes) (literal (codes "yes") bs))
    (behind (codes "no ") breach)

-- ---- registers and code
unfoldable pub some_saved : Reader (List Reg)
some_saved bs =
    through (λ p. p.0 ∷ p.1) (follow (behind (codes " ") a_reg) (many (codes " ") a_reg) bs)

unfoldable pub saved : Reader (List Reg)
saved =
    pick (codes " -") (λ bs. through (λ u. []) (literal (codes " -") bs)) some_saved

-- bytes, where these are their digits in lower case
abbrev pub bytes_by : List ℕ → Result (List ℕ) FromHexError → Option (List ℕ)
bytes_by digits (Ok bytes) = if bytes_eq (encode_lower bytes) digits then Some bytes else None
bytes_by digits (Err e) = None

-- with nothing behind it
abbrev pub alone : {A : Type 0} → Option A → Answer A
alone None = None
alone (Some a) = Some (a, [])

-- all that is left, as digits of bytes
unfoldable pub code : Reader (List ℕ)
code bs = alone (bytes_by bs (decode_of bs))

-- ---- events
-- what stands behind an offset: nothing of the form, or a factor and the place of a leaked number
unfoldable pub frame_rest : ℤ → Reader Form
frame_rest o bs =
    if begins (codes "+") bs
    then through (λ p. form.Indexed o p.0 p.1)
    (behind (codes "+") (follow number (behind (codes "*$") number)) bs)
    else Some (form.Frame o, bs)

unfoldable pub frame_form : Reader Form
frame_form bs = signed_number bs >>= λ x. frame_rest x.0 x.1

unfoldable pub a_form : Reader Form
a_form =
    pick (codes "$") (λ bs. through form.Leaked (behind (codes "$") number bs))
    (pick (codes "@") (behind (codes "@") frame_form) (λ bs. through form.Num (number bs)))

unfoldable pub division : Reader Out
division bs =
    through (λ p. out.Div p.0 p.1.0 p.1.1)
    (follow a_form (behind (codes ":") (follow a_form (behind (codes ":") a_form))) bs)

unfoldable pub an_out : Reader Out
an_out =
    pick (codes "b0") (λ bs. through (λ u. out.Branch false) (literal (codes "b0") bs))
    (pick (codes "b1") (λ bs. through (λ u. out.Branch true) (literal (codes "b1") bs))
    (pick (codes "a:") (λ bs. through out.Addr (behind (codes "a:") a_form bs))
    (behind (codes "d:") division)))

unfoldable pub some_outs : Reader (List Out)
some_outs bs = through (λ p. p.0 ∷ p.1) (follow an_out (many (codes " ") an_out) bs)

unfoldable pub outs_rest : Reader (List Out)
outs_rest =
    pick (codes "]") (λ bs. through (λ u. []) (literal (codes "]") bs))
    (closed some_outs (codes "]"))

-- a list of events
unfoldable pub outs : Reader (List Out)
outs = behind (codes "[") outs_rest
