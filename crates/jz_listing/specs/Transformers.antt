-- The text of a transformer.
use Rattle.std.specs.Prelude.{ℕ, List, [], ◌∷◌, ◌++◌, map, codes, decimal, if◌then◌else◌, ◌==◌}
use Rattle.std.specs.Fmt.{signed_decimal}
use Rattle.std.specs.List.{join_with_byte}
use Rattle.jz_leak.specs.declared.transformer.Form.{Form}
use Rattle.jz_leak.specs.declared.transformer.Form.TheVariants.{Num, Leaked, Frame, Indexed}
use Rattle.jz_leak.specs.declared.transformer.Out.{Out}
use Rattle.jz_leak.specs.declared.transformer.Out.TheVariants as out
use Rattle.jz_leak.specs.declared.transformer.Tr.{Tr}
use Rattle.jz_leak.specs.declared.transformer.Case.{Case}
use Rattle.jz_leak.specs.declared.transformer.Case.TheOpen.{Case-F, Tr-F}
use Rattle.jz_leak.specs.declared.transformer.Case.TheFolds.{fold-Case, fold-Tr}
use Rattle.jz_leak.specs.declared.transformer.Transformer.{Transformer}

-- pieces with a space between them
abbrev pub spaced_pieces : List (List ℕ) → List ℕ
spaced_pieces pieces = join_with_byte 32 pieces

abbrev pub form_text : Form → List ℕ
form_text (Num n) = decimal n
form_text (Leaked i) = codes "$" ++ decimal i
form_text (Frame o) = codes "@" ++ signed_decimal o
form_text (Indexed o s i) =
    codes "@" ++ signed_decimal o ++ codes "+" ++ decimal s ++ codes "*$" ++ decimal i

abbrev pub out_text : Out → List ℕ
out_text (out.Branch taken) = if taken then codes "b1" else codes "b0"
out_text (out.Addr a) = codes "a:" ++ form_text a
out_text (out.Div a b c) =
    codes "d:" ++ form_text a ++ codes ":" ++ form_text b ++ codes ":" ++ form_text c

-- a list of events
unfoldable pub outs_text : List Out → List ℕ
outs_text outs = codes "[" ++ spaced_pieces (map out_text outs) ++ codes "]"

abbrev pub spaced_outs_text : List Out → List ℕ
spaced_outs_text outs = codes " " ++ outs_text outs

-- a list of events and the text of a tree, with a space before each
abbrev pub arm_text : List Out → List ℕ → List ℕ
arm_text outs tr = spaced_outs_text outs ++ codes " " ++ tr

-- an operation
abbrev pub op_text : List Out → List ℕ
op_text outs = codes "op" ++ outs_text outs

-- an `if` up to its arms
abbrev pub if_head_text : List Out → List ℕ
if_head_text test = codes "if(" ++ outs_text test

-- a `while` up to what its answers show
abbrev pub while_head_text : List ℕ → List Out → List ℕ
while_head_text prologue test = codes "while(" ++ prologue ++ spaced_outs_text test

-- a `for`, by the texts of its trees
abbrev pub for_text : List (List ℕ) → List ℕ
for_text trs = codes "for(" ++ spaced_pieces trs ++ codes ")"

-- a call
abbrev pub call_text : List Out → List ℕ → List Out → List ℕ
call_text arguments body results =
    codes "call(" ++ outs_text arguments ++ codes " " ++ body ++ spaced_outs_text results
    ++ codes ")"

-- a case, by the texts of its trees
abbrev pub case_layer_text : Case-F (List ℕ) (List ℕ) → List ℕ
case_layer_text (Case-F.Op outs) = op_text outs
case_layer_text (Case-F.If test then_outs then_tr else_outs else_tr) =
    codes "if(" ++ outs_text test ++ arm_text then_outs then_tr ++ arm_text else_outs else_tr
    ++ codes ")"
case_layer_text (Case-F.While prologue test more_outs body leave_outs) =
    codes "while(" ++ prologue ++ spaced_outs_text test ++ arm_text more_outs body
    ++ spaced_outs_text leave_outs ++ codes ")"
case_layer_text (Case-F.For trs) = for_text trs
case_layer_text (Case-F.Call arguments body results) = call_text arguments body results

-- a tree: its cases between braces
abbrev pub tr_layer_text : Tr-F (List ℕ) (List ℕ) → List ℕ
tr_layer_text t = codes "{" ++ spaced_pieces t.cases ++ codes "}"

abbrev pub case_text : Case → List ℕ
case_text = fold-Case (List ℕ) (List ℕ) case_layer_text tr_layer_text

abbrev pub tr_text : Tr → List ℕ
tr_text = fold-Tr (List ℕ) (List ℕ) case_layer_text tr_layer_text

-- the transformer of a function: before, body, after
abbrev pub transformer_text : Transformer → List ℕ
transformer_text t =
    outs_text t.before ++ codes " " ++ tr_text t.body ++ codes " " ++ outs_text t.after

-- what stands before a piece: a space, but nothing before the first
abbrev pub separator : ℕ → List ℕ
separator i = if i == 0 then [] else 32 ∷ []
