-- The lists of functions whose listings tell them apart. What is asked is that names have the bytes
-- of names and that a region without a variable has no factor; that numbers have the sizes of their
-- types is said because it isn't seen in a list.
use Rattle.std.specs.Prelude.{◌≡◌, ◌<◌, ◌^◌, ℕ, Bool, true, ◌&&◌, ◌||◌, ◌==◌, nat_lt, nat_le, ℤ, pos, negsuc, List, Some, None, All, ⊤}
use Rattle.std.specs.List.{AllPass, list_all}
use Rattle.jz_io.specs.declared.verdict.Ct.{Ct}
use Rattle.jz_io.specs.declared.verdict.Ct.TheVariants as ct
use Rattle.jz_leak.specs.declared.transformer.Form.{Form}
use Rattle.jz_leak.specs.declared.transformer.Form.TheVariants.{Num, Leaked, Frame, Indexed}
use Rattle.jz_leak.specs.declared.transformer.Out.{Out}
use Rattle.jz_leak.specs.declared.transformer.Out.TheVariants as out
use Rattle.jz_leak.specs.declared.transformer.Tr.{Tr}
use Rattle.jz_leak.specs.declared.transformer.Case.{Case}
use Rattle.jz_leak.specs.declared.transformer.Case.TheOpen.{Case-F, Tr-F}
use Rattle.jz_leak.specs.declared.transformer.Case.TheFolds.{fold-Case, fold-Tr}
use Rattle.jz_leak.specs.declared.transformer.Transformer.{Transformer}
use Rattle.jz_listing.specs.declared.compiled.Arg.{Arg}
use Rattle.jz_listing.specs.declared.compiled.Pre.{Pre}
use Rattle.jz_listing.specs.declared.compiled.Pre.TheVariants as pre
use Rattle.jz_listing.specs.declared.compiled.Compiled.{Compiled}

-- ---- names

-- a letter, a digit or an underscore
abbrev pub is_name_byte : ℕ → Bool
is_name_byte c =
    (nat_le 48 c && nat_le c 57)
    || ((nat_le 65 c && nat_le c 90) || ((c == 95) || (nat_le 97 c && nat_le c 122)))

-- of these and brackets, as `a[3]`
abbrev pub is_variable_byte : ℕ → Bool
is_variable_byte c = is_name_byte c || ((c == 91) || (c == 93))

-- a name of a function or a parameter
abbrev pub IsName : List ℕ → Type 0
IsName name = AllPass is_name_byte name

-- the variable of a line `ct`
abbrev pub IsVariable : List ℕ → Type 0
IsVariable name = AllPass is_variable_byte name

-- ---- transformers, whose numbers have 64 bits

abbrev pub number_fits : ℕ → Bool
number_fits n = nat_lt n (2 ^ 64)

abbrev pub offset_fits : ℤ → Bool
offset_fits (pos n) = nat_lt n (2 ^ 63)
offset_fits (negsuc n) = nat_lt n (2 ^ 63)

abbrev pub form_fits : Form → Bool
form_fits (Num n) = number_fits n
form_fits (Leaked i) = number_fits i
form_fits (Frame o) = offset_fits o
form_fits (Indexed o s i) = offset_fits o && (number_fits s && number_fits i)

abbrev pub out_fits : Out → Bool
out_fits (out.Branch taken) = true
out_fits (out.Addr a) = form_fits a
out_fits (out.Div a b c) = form_fits a && (form_fits b && form_fits c)

abbrev pub outs_fit : List Out → Bool
outs_fit outs = list_all out_fits outs

-- each of a list of parts fits
abbrev pub parts_fit : List Bool → Bool
parts_fit = list_all (λ fits. fits)

abbrev pub case_layer_fits : Case-F Bool Bool → Bool
case_layer_fits (Case-F.Op outs) = outs_fit outs
case_layer_fits (Case-F.If test then_outs then_tr else_outs else_tr) =
    outs_fit test && (outs_fit then_outs && (then_tr && (outs_fit else_outs && else_tr)))
case_layer_fits (Case-F.While prologue test more_outs body leave_outs) =
    prologue && (outs_fit test && (outs_fit more_outs && (body && outs_fit leave_outs)))
case_layer_fits (Case-F.For trs) = parts_fit trs
case_layer_fits (Case-F.Call arguments body results) =
    outs_fit arguments && (body && outs_fit results)

abbrev pub tr_layer_fits : Tr-F Bool Bool → Bool
tr_layer_fits t = parts_fit t.cases

abbrev pub case_fits : Case → Bool
case_fits = fold-Case Bool Bool case_layer_fits tr_layer_fits

abbrev pub tr_fits : Tr → Bool
tr_fits = fold-Tr Bool Bool case_layer_fits tr_layer_fits

abbrev pub transformer_fits : Transformer → Bool
transformer_fits t = outs_fit t.before && (tr_fits t.body && outs_fit t.after)

-- ---- lines

abbrev pub IsListableArg : Arg → Type 0
IsListableArg a = IsName a.name

-- a precondition over names, its numbers of 64 bits; a region without a variable has the factor 0,
-- as its line shows none
abbrev pub IsListablePre : Pre → Type 0
IsListablePre (pre.Region pointer factor None constant) =
    IsName pointer × (factor ≡ 0) × (constant < 2 ^ 64)
IsListablePre (pre.Region pointer factor (Some variable) constant) =
    IsName pointer × (factor < 2 ^ 64) × IsName variable × (constant < 2 ^ 64)
IsListablePre (pre.Range name low high) = IsName name × (low < 2 ^ 64) × (high < 2 ^ 64)
IsListablePre (pre.Align pointer multiple) = IsName pointer × (multiple < 2 ^ 64)

-- the place of a breach in numbers of 32 bits, and its variable
abbrev pub IsListableCt : Ct → Type 0
IsListableCt ct.Yes = ⊤
IsListableCt (ct.No span kind var) = (span.line < 2 ^ 32) × (span.col < 2 ^ 32) × IsVariable var

-- a function that can be listed
pub record IsListable (c : Compiled) : Type 0 where
  pub name : IsName c.name
  pub args : All IsListableArg c.args
  pub rets : All IsListableArg c.rets
  pub pre : All IsListablePre c.pre
  pub frame : c.frame < 2 ^ 64
  pub insns : c.insns < 2 ^ 64
  pub code : All (λ b. b < 256) c.code
  pub tr : transformer_fits c.tr ≡ true
  pub ct : IsListableCt c.ct

-- functions that can be listed
abbrev pub AreListable : List Compiled → Type 0
AreListable cs = All IsListable cs
