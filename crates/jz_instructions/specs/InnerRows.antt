-- What the code that finds the rows of intrinsics keeps.
use Rattle.std.specs.Prelude.{◌≡◌, ℕ, Bool, ◌&&◌, List, [], ◌∷◌, ◌++◌, All, Option, Some, None}
use Rattle.std.specs.Option.{option_to_list}
use Rattle.jz_words.specs.declared.size.Size.{Size}
use Rattle.jz_words.specs.declared.size.Size.TheVariants.{S8}
use Rattle.x64_insn.specs.declared.types.Shift.{Shift}
use Rattle.jz_tree.specs.Span.{Span}
use Rattle.jz_tree.specs.declared.intrinsic.Instance.{Instance}
use Rattle.jz_tree.specs.declared.expr.Expr.{Expr}
use Rattle.jz_tree.specs.declared.stmt.Lval.{Lval}
use Rattle.jz_meaning.specs.Intrinsics.{intrinsic_size}
use Rattle.jz_operations.specs.declared.operation.Pinned.{Pinned}
use Rattle.jz_operations.specs.declared.operation.Address.{Address}
use Rattle.jz_operations.specs.declared.operation.Arg.{Arg}
use Rattle.jz_operations.specs.declared.operation.Arg.TheVariants as arg
use Rattle.jz_operations.specs.declared.operation.Condition.{Condition}
use Rattle.jz_operations.specs.declared.operation.Action.{Action}
use Rattle.jz_operations.specs.declared.operation.Action.TheVariants as action
use Rattle.jz_operations.specs.declared.operation.Flags.{Flags}
use Rattle.jz_operations.specs.declared.operation.Operation.{Operation}
use Rattle.jz_encodable.specs.Encodable.{CanEncode}
use Rattle.jz_change.specs.declared.change.Numbers.{Numbers}
use Rattle.jz_change.specs.declared.change.Numbers.TheVariants.{These}
use Rattle.jz_homes.specs.Homes.{Homes}
use Rattle.jz_homes.specs.Sums.{Sum, IsSum, IsAddress}
use Rattle.jz_homes.specs.Operands.{Leaks, IsArg, IsDest}
use Rattle.jz_row_operations.specs.Codes.{no_flag, plain}
use Rattle.jz_row_operations.specs.Rows.{NotImm}
use Rattle.jz_row_operations.specs.Table.{nothing}
use Rattle.jz_row_operations.specs.Lowering.{numbers_from}
use Rattle.jz_flag_rows.specs.Results.{IsPinned}
use Rattle.jz_flag_rows.specs.Wide.{IsLong, is_apart}
use Rattle.jz_flag_rows.specs.Conditions.{IsCondition, condition_items, leaked}
use Rattle.jz_flag_rows.specs.Instructions.{IsLeaAddress, IsCount}
use Rattle.jz_one_flag_row.specs.Forms as forms
use Rattle.jz_one_flag_row.specs.Forms.{IsFormed}
use Rattle.jz_operands.specs.declared.operands.Leaks.TheVariants.{Silent}
use Rattle.jz_operands.specs.declared.operands.Operand.{Operand}
use Rattle.jz_operands.specs.TableHomes.{leaks_of}
use Rattle.jz_operands.specs.Refusals.{HasFields}
use Rattle.jz_rows.specs.Rows.{items_in}
use Rattle.jz_rows.specs.declared.row.Act.{Act}
use Rattle.jz_pinned_rows.specs.declared.row.PinnedRow.{PinnedRow}
use Rattle.jz_pinned_rows.specs.Rows.{actions_of, items_of, operations_at}
use Rattle.jz_instructions.specs.declared.forms.Form.{Form}
use Rattle.jz_instructions.specs.declared.forms.Form.TheVariants as form
use Rattle.jz_instructions.specs.declared.forms.Lead.{Lead}
use Rattle.jz_instructions.specs.declared.forms.Lead.TheVariants as lead
use Rattle.jz_instructions.specs.declared.counting.Count.{Count}
use Rattle.jz_instructions.specs.declared.counting.Count.TheVariants as count
use Rattle.jz_instructions.specs.declared.products.Words.{Words}
use Rattle.jz_instructions.specs.declared.products.Three.{Three}
use Rattle.jz_instructions.specs.declared.testing.Held.{Held}

-- ---- forms
abbrev pub form_in : Form → forms.Form
form_in (form.Two k s) = forms.f_two k s
form_in (form.Carried k s) = forms.f_carried k s
form_in (form.One k) = forms.f_one k
form_in form.Swap = forms.f_swap
form_in form.Address = forms.f_address
form_in (form.Compare k) = forms.f_compare k
form_in (form.Shift k) = forms.f_shift k
form_in form.Times = forms.f_times
form_in form.Wide = forms.f_wide
form_in form.Divide = forms.f_divide
form_in form.Byte = forms.f_byte

abbrev pub lead_in : Lead → forms.Lead
lead_in lead.Nothing = forms.l_none
lead_in lead.Two = forms.l_two
lead_in lead.Four = forms.l_four
lead_in lead.Five = forms.l_five

abbrev pub NeverLed : (Flags → List Lval → Type 0) → Type 0
NeverLed P = (fl : Flags) (rest : List Lval) → P fl rest → ⊥

-- ---- numbers of results and operands
abbrev pub NotOneOne : List Lval → List Expr → Type 0
NotOneOne to es = (d : Lval) (a : Expr) → to ≡ d ∷ [] → es ≡ a ∷ [] → ⊥

abbrev pub NotOneTwo : List Lval → List Expr → Type 0
NotOneTwo to es = (d : Lval) (a b : Expr) → to ≡ d ∷ [] → es ≡ a ∷ b ∷ [] → ⊥

abbrev pub NotOneThree : List Lval → List Expr → Type 0
NotOneThree to es = (d : Lval) (a b c : Expr) → to ≡ d ∷ [] → es ≡ a ∷ b ∷ c ∷ [] → ⊥

abbrev pub NotNoneTwo : List Lval → List Expr → Type 0
NotNoneTwo to es = (a b : Expr) → to ≡ [] → es ≡ a ∷ b ∷ [] → ⊥

abbrev pub NotTwoTwo : List Lval → List Expr → Type 0
NotTwoTwo to es = (d e : Lval) (a b : Expr) → to ≡ d ∷ e ∷ [] → es ≡ a ∷ b ∷ [] → ⊥

abbrev pub NotTwoThree : List Lval → List Expr → Type 0
NotTwoThree to es =
    (d e : Lval) (a b c : Expr) → to ≡ d ∷ e ∷ [] → es ≡ a ∷ b ∷ c ∷ [] → ⊥

-- ---- addresses of LEA
-- the expression is one
pub record IsLeaOf (home : Homes) (e : Expr) (m : Address) : Type 0 where
  pub sum : Sum
  pub is : IsSum home e sum
  pub address : IsLeaAddress sum m

-- of none an instruction has fields
abbrev pub NeverLea : Homes → Expr → Type 0
NeverLea home e =
    (t : Sum) (m : Address) → IsSum home e t → IsLeaAddress t m → HasFields (arg.Mem m) → ⊥

-- nor of one without a base
abbrev pub NeverFree : Homes → Expr → Type 0
NeverFree home e =
    (t : Sum) (m : Address)
    → IsSum home e t → IsLeaAddress t m → (IsAddress t m → ⊥) → HasFields (arg.Mem m) → ⊥

-- ---- counts
abbrev pub places_in : Count → Option Pinned
places_in (count.Number n) = None
places_in (count.Variable k) = Some k

abbrev pub number_in : Count → ℕ
number_in (count.Number n) = n
number_in (count.Variable k) = 0

abbrev pub NeverCount : Homes → Size → Expr → Type 0
NeverCount home z e = (k : Option Pinned) (n : ℕ) → IsCount home z e k n → ⊥

abbrev pub second_of : Count → Operand
second_of (count.Number n) = record { arg = nothing; leaks = Silent }
second_of (count.Variable k) = record { arg = arg.Var k.variable; leaks = Silent }

abbrev pub action_of : Shift → Size → Arg → Count → Action
action_of kind z d (count.Number n) = action.Shift kind z d n
action_of kind z d (count.Variable k) = action.ShiftBy kind z d k

-- ---- divisions of two words
pub record AreTwoWords (home : Homes) (z : Size) (q r : Lval) (w : Words) : Type 0 where
  pub long : IsLong z
  pub first : IsPinned home z q w.first
  pub second : IsPinned home z r w.second

abbrev pub NeverTwoWords : Homes → Size → Lval → Lval → Type 0
NeverTwoWords home z q r =
    (k j : Option Pinned)
    → IsLong z → IsPinned home z q k → IsPinned home z r j → ⊥

-- the divisor is no number
pub record AreThree (home : Homes) (z : Size) (hi lo by : Expr) (t : Three) : Type 0 where
  pub high : IsArg home z hi t.high.arg (leaks_of t.high.leaks)
  pub low : IsArg home z lo t.low.arg (leaks_of t.low.leaks)
  pub divisor : IsArg home z by t.by.arg (leaks_of t.by.leaks)
  pub no_number : NotImm t.by.arg

abbrev pub NeverThree : Homes → Size → Expr → Expr → Expr → Type 0
NeverThree home z hi lo by =
    (x y w : Arg) (p s u : Leaks)
    → IsArg home z hi x p → IsArg home z lo y s → IsArg home z by w u → NotImm w
    → HasFields x → HasFields y → HasFields w → ⊥

abbrev pub divided_apart : Option Pinned → Option Pinned → Arg → Arg → Bool
divided_apart q r high by = (is_apart q high && is_apart q by) && is_apart r by

-- ---- SETcc
abbrev pub compare_at : Span → Option Act → Option Operation
compare_at at None = None
compare_at at (Some a) = Some (plain at a.action)

pub record IsHeld (home : Homes) (e : Expr) (h : Held) : Type 0 where
  pub leaks : List (Leaks × Leaks)
  pub is : (at : Span) → IsCondition home at e (compare_at at h.before) h.condition leaks
  pub shown : items_in h.before ≡ condition_items leaks 0
  pub count : h.leaked ≡ leaked leaks

abbrev pub NeverHeld : Homes → Expr → Type 0
NeverHeld home e =
    (at : Span) (o : Option Operation) (c : Condition) (ps : List (Leaks × Leaks))
    → IsCondition home at e o c ps → ⊥

-- its actions and items
pub record IsByteRow (home : Homes) (d : Lval) (e : Expr) (r : PinnedRow) : Type 0 where
  pub to : Arg
  pub shows : Leaks
  pub condition : Condition
  pub before : Option Act
  pub leaks : List (Leaks × Leaks)
  pub dest : IsDest home S8 d to shows
  pub is : (at : Span) → IsCondition home at e (compare_at at before) condition leaks
  pub can : CanEncode (action.Set condition to)
  pub flags : r.flags ≡ no_flag
  pub operations : (at : Span) →
      operations_at at r
      ≡ option_to_list (compare_at at before) ++ (plain at (action.Set condition to) ∷ [])
  pub shown :
      items_of r.acts
      ≡ condition_items leaks 0 ++ (These (numbers_from shows (leaked leaks)) ∷ [])

abbrev pub NeverByteRow : Homes → Lval → Expr → Type 0
NeverByteRow home d e =
    (at : Span) (to : Arg) (r : Leaks) (o : Option Operation) (c : Condition)
    (ps : List (Leaks × Leaks))
    → IsDest home S8 d to r → IsCondition home at e o c ps → CanEncode (action.Set c to) → ⊥

-- of one left side and one operand
pub record IsByteOf (home : Homes) (to : List Lval) (es : List Expr) (r : PinnedRow) :
    Type 0 where
  pub left : Lval
  pub operand : Expr
  pub is_left : to ≡ left ∷ []
  pub is_operand : es ≡ operand ∷ []
  pub row : IsByteRow home left operand r

abbrev pub NeverByteOf : Homes → List Lval → List Expr → Type 0
NeverByteOf home to es =
    (d : Lval) (e : Expr) → to ≡ d ∷ [] → es ≡ e ∷ [] → NeverByteRow home d e

-- ---- intrinsics but SETcc
pub record IsSized (home : Homes) (i : Instance) (to : List Lval) (es : List Expr)
    (r : PinnedRow) : Type 0 where
  pub size : Size
  pub is_size : intrinsic_size i.name i.size to es ≡ Some size
  pub row : IsFormed home size i.name to es r.flags (actions_of r.acts) (items_of r.acts)
  pub can : All CanEncode (actions_of r.acts)

abbrev pub NeverSized : Homes → Instance → List Lval → List Expr → Type 0
NeverSized home i to es =
    (z : Size) (fl : Flags) (acts : List Action) (items : List Numbers)
    → intrinsic_size i.name i.size to es ≡ Some z → IsFormed home z i.name to es fl acts items
    → All CanEncode acts → ⊥
