-- What one statement has that passes a limit, where the values of inline variables are known:
-- inline expressions without a value, then indexes of register arrays outside their cells, then
-- immediates, displacements, scales and counts that have no field; of one kind in the order of the
-- text.
use Rattle.std.specs.Prelude.{ℤ, pos, Bool, true, false, not, ◌&&◌, ◌||◌, is_some, int_lt, int_le, ◌+ℤ◌, ◌-ℤ◌, ◌*ℤ◌, if◌then◌else◌, List, [], ◌∷◌, ◌++◌, Option, Some, None, option_to_list}
use Rattle.std.specs.Option.{option_or}
use Rattle.std.specs.List.{list_any}
use Rattle.std.specs.Ordering.{int_eq}
use Rattle.jz_tree.specs.Span.{Span}
use Rattle.jz_tree.specs.Size.{Size}
use Rattle.jz_tree.specs.Size.TheVariants as sizes
use Rattle.jz_tree.specs.Sizes.{bits_of, bytes_of}
use Rattle.jz_tree.specs.declared.expr.BinOp.{BinOp}
use Rattle.jz_tree.specs.declared.expr.BinOp.TheVariants as op
use Rattle.jz_tree.specs.declared.expr.Expr.{Expr}
use Rattle.jz_tree.specs.declared.expr.Expr.TheVariants as expr
use Rattle.jz_tree.specs.declared.expr.Ty.{Ty}
use Rattle.jz_tree.specs.declared.expr.Access.{Access}
use Rattle.jz_tree.specs.declared.expr.Decl.{Decl}
use Rattle.jz_tree.specs.declared.expr.Var.{Var}
use Rattle.jz_tree.specs.declared.expr.Expr.TheOpen.{Expr-F, Access-F}
use Rattle.jz_tree.specs.declared.expr.Expr.TheViews.{out-Expr, out-Var, roll-Expr}
use Rattle.jz_tree.specs.declared.expr.Expr.TheFolds.{para-Expr, map-Expr}
use Rattle.jz_tree.specs.declared.stmt.Lval.{Lval}
use Rattle.jz_tree.specs.declared.stmt.Lval.TheVariants as lval
use Rattle.jz_tree.specs.declared.intrinsic.Instance.{Instance}
use Rattle.jz_tree.specs.declared.intrinsic.Intrinsic.{Intrinsic}
use Rattle.jz_tree.specs.declared.intrinsic.Intrinsic.TheVariants as name
use Rattle.jz_tree.specs.Spellings.{spelled}
use Rattle.jz_tree.specs.Operators.{is_shift}
use Rattle.jz_words.specs.Readings.{fits_bytes, reading_of}
use Rattle.jz_integers.specs.Integers.{KnownNumbers, inline_value, the_number}
use Rattle.jz_integers.specs.declared.constant.Constant.{Constant}
use Rattle.jz_type_names.specs.Kinds.{known_of, is_inline, is_register_array, is_register_word}
use Rattle.jz_type_names.specs.Parts.{span_of}
use Rattle.jz_select.specs.Immediates.{immediate_of}
use Rattle.jz_meaning.specs.declared.access.Kind.{Kind}
use Rattle.jz_meaning.specs.declared.access.Kind.TheVariants as kind
use Rattle.jz_meaning.specs.Values.{ref_of, own_size}
use Rattle.jz_meaning.specs.Assignments.{left_sizes, last_left, whole_of}
use Rattle.jz_meaning.specs.Intrinsics.{intrinsic_size}
use Rattle.jz_meaning.specs.Statements.{Operation, assign, instruction, unset, meaningless}
use Rattle.jz_limits.specs.Limits.{Limit}
use Rattle.jz_limits.specs.declared.limit.Limit.TheVariants.{InlineWidth, IndexRange, ImmRange}
use Rattle.jz_limits.specs.declared.operands.Role.{Role}
use Rattle.jz_limits.specs.declared.operands.Role.TheVariants as role
use Rattle.jz_limits.specs.declared.operands.Roles.{Roles}
use Rattle.jz_limits.specs.Values.{inline_target}

-- nothing, or this
abbrev pub unless : Bool → Limit → List Limit
unless fine l = if fine then [] else l ∷ []

-- ---- inline expressions without a value

-- in an index or an address they are told at the access, else at their own first token
abbrev pub place_or : Option Span → Span → Span
place_or None at = at
place_or (Some place) at = place

abbrev pub no_value : Option Span → Span → Option Constant → List Limit
no_value place at v = unless (is_some v) (InlineWidth (place_or place at))

-- ---- indexes of register arrays

abbrev pub is_below : ℤ → Kind → Bool
is_below i (kind.Array z n) = int_le (pos 0) i && int_lt i (pos n)
is_below i _ = false

abbrev pub within_cells : Option ℤ → Kind → Bool
within_cells None k = true
within_cells (Some i) k = is_below i k

-- by the value of the index
abbrev pub cell_range : Var → Option Constant → List Limit
cell_range v i =
    unless (not (is_register_array (known_of v)) || within_cells (the_number i) (ref_of v).kind)
    (IndexRange (out-Var v).span)

-- ---- displacements and scales

abbrev pub or_zero : Option ℤ → ℤ
or_zero None = pos 0
or_zero (Some n) = n

-- of four bytes, as the signed reading of the 64 bits
abbrev pub has_displacement : ℤ → Bool
has_displacement n = fits_bytes 4 (reading_of sizes.S64 n)

-- as the 64 bits
abbrev pub is_scale : ℤ → Bool
is_scale n =
    let scale = reading_of sizes.S64 n in
    (int_eq scale (pos 1) || int_eq scale (pos 2))
    || (int_eq scale (pos 4) || int_eq scale (pos 8))

abbrev pub bad_scale : ℤ → Bool
bad_scale n = not (is_scale n)

-- an index times the size of the cells, exactly, from -2^31 up to below 2^30
abbrev pub has_index : Kind → ℤ → Bool
has_index (kind.Array z n) i =
    int_le (pos 0 -ℤ pos 2147483648) (i *ℤ pos (bytes_of z))
    && int_lt (i *ℤ pos (bytes_of z)) (pos 1073741824)
has_index _ i = true

-- ---- immediates and counts

abbrev pub has_immediate : Option Size → Option ℤ → Bool
has_immediate (Some z) (Some n) = is_some (immediate_of z n)
has_immediate _ _ = true

abbrev pub immediate : Option Size → Option Constant → Span → List Limit
immediate z v at = unless (has_immediate z (the_number v)) (ImmRange at)

abbrev pub is_count : Option Size → Option ℤ → Bool
is_count (Some z) (Some n) = int_le (pos 0) n && int_lt n (pos (bits_of z))
is_count _ _ = true

abbrev pub bad_count : Option Size → Option Constant → Span → List Limit
bad_count z v at = unless (is_count z (the_number v)) (ImmRange at)

-- ---- expressions

-- what an expression has of each kind
pub record Told : Type 0 where
  -- its largest inline expressions without a value: at that place, if there is one
  pub widths : Option Span → List Limit
  pub ranges : List Limit
  -- as an operand of an operation of that size
  pub operands : Option Size → List Limit
  -- as an address or an index: its inline terms, those that are added less those that are taken
  -- away; and its scales
  pub terms : ℤ
  pub scales : List ℤ

-- the parts of an expression, each with what it has
abbrev pub Beside : Type 0
Beside = Expr-F (Expr × Told) (Ty × Unit {0}) (Access × Told) (Decl × Unit {0}) (Var × Unit {0})

abbrev pub AccessBeside : Type 0
AccessBeside =
    Access-F (Expr × Told) (Ty × Unit {0}) (Access × Told) (Decl × Unit {0}) (Var × Unit {0})

abbrev pub whole : Beside → Expr
whole x =
    roll-Expr
    (map-Expr _ _ _ _ _ Expr Ty Access Decl Var (λ y. y.0) (λ y. y.0) (λ y. y.0) (λ y. y.0)
    (λ y. y.0) x)

-- an address with these terms and scales has fields
abbrev pub has_fields : Told → Bool
has_fields t = has_displacement t.terms && not (list_any bad_scale t.scales)

abbrev pub address_fields : Span → Told → List Limit
address_fields at t = unless (has_fields t) (ImmRange at)

-- an index of an array in the frame
abbrev pub index_fields : Var → Told → List Limit
index_fields v t =
    unless (is_register_array (known_of v) || has_index (ref_of v).kind t.terms)
    (ImmRange (out-Var v).span)

module _ (e : KnownNumbers) where
  abbrev pub value_in : Expr → Option Constant
  value_in = inline_value e

  abbrev pub number_in : Expr → Option ℤ
  number_in x = the_number (inline_value e x)

  -- the count of a shift or a rotation; parts: of one that is not inline
  abbrev pub counted : Option Size → Expr → List Limit → List Limit
  counted z x parts = if is_inline x then bad_count z (value_in x) (span_of x) else parts

  abbrev pub scale_of : Expr → Expr → List ℤ
  scale_of a b =
      if is_inline a then option_to_list (number_in a)
      else if is_inline b then option_to_list (number_in b)
      else []

  -- ---- of one that is not inline as a whole

  abbrev pub part_widths : Beside → Option Span → List Limit
  part_widths (Expr-F.Num n at) place = []
  part_widths (Expr-F.Expr::Bool b at) place = []
  part_widths (Expr-F.Var v) place = []
  part_widths (Expr-F.Cell v i) place = i.1.widths (Some (out-Var v.0).span)
  part_widths (Expr-F.Load a) place = a.1.widths place
  part_widths (Expr-F.Neg a at) place = a.1.widths place
  part_widths (Expr-F.Not a at) place = a.1.widths place
  part_widths (Expr-F.Cast z s a at) place = a.1.widths place
  part_widths (Expr-F.Bin o a b at) place = a.1.widths place ++ b.1.widths place

  abbrev pub part_ranges : Beside → List Limit
  part_ranges (Expr-F.Num n at) = []
  part_ranges (Expr-F.Expr::Bool b at) = []
  part_ranges (Expr-F.Var v) = []
  part_ranges (Expr-F.Cell v i) = cell_range v.0 (value_in i.0) ++ i.1.ranges
  part_ranges (Expr-F.Load a) = a.1.ranges
  part_ranges (Expr-F.Neg a at) = a.1.ranges
  part_ranges (Expr-F.Not a at) = a.1.ranges
  part_ranges (Expr-F.Cast z s a at) = a.1.ranges
  part_ranges (Expr-F.Bin o a b at) = a.1.ranges ++ b.1.ranges

  -- a cast has an operand of its own size; no row has an access in an index or an address
  abbrev pub part_operands : Beside → Option Size → List Limit
  part_operands (Expr-F.Num n at) z = []
  part_operands (Expr-F.Expr::Bool b at) z = []
  part_operands (Expr-F.Var v) z = []
  part_operands (Expr-F.Cell v i) z = index_fields v.0 i.1
  part_operands (Expr-F.Load a) z = a.1.operands z
  part_operands (Expr-F.Neg a at) z = a.1.operands z
  part_operands (Expr-F.Not a at) z = a.1.operands z
  part_operands (Expr-F.Cast y s a at) z = a.1.operands (own_size a.0)
  part_operands (Expr-F.Bin o a b at) z =
      a.1.operands z
      ++ (if is_shift o then counted z b.0 (b.1.operands z) else b.1.operands z)

  abbrev pub part_terms : Beside → ℤ
  part_terms (Expr-F.Bin op.Add a b at) = a.1.terms +ℤ b.1.terms
  part_terms (Expr-F.Bin op.Sub a b at) = a.1.terms -ℤ or_zero (number_in b.0)
  part_terms _ = pos 0

  abbrev pub part_scales : Beside → List ℤ
  part_scales (Expr-F.Bin op.Add a b at) = a.1.scales ++ b.1.scales
  part_scales (Expr-F.Bin op.Sub a b at) = a.1.scales
  part_scales (Expr-F.Bin op.Mul a b at) = scale_of a.0 b.0
  part_scales _ = []

  -- ---- of each

  abbrev pub told_as : Bool → Option Constant → Span → Beside → Told
  told_as true v at x = record {
    widths = λ place. no_value place at v;
    ranges = part_ranges x;
    operands = λ z. immediate z v at;
    terms = or_zero (the_number v);
    scales = [];
  }
  told_as false v at x = record {
    widths = part_widths x;
    ranges = part_ranges x;
    operands = part_operands x;
    terms = part_terms x;
    scales = part_scales x;
  }

  abbrev pub told_step : Beside → Told
  told_step x = told_as (is_inline (whole x)) (value_in (whole x)) (span_of (whole x)) x

  abbrev pub access_step : AccessBeside → Told
  access_step a = record {
    widths = λ place. a.at.1.widths (Some a.span);
    ranges = a.at.1.ranges;
    operands = λ z. address_fields a.span a.at.1;
    terms = pos 0;
    scales = [];
  }

  abbrev pub told : Expr → Told
  told =
      para-Expr Told (Unit {0}) Told (Unit {0}) (Unit {0}) told_step (λ t. tt) access_step
      (λ d. tt) (λ v. tt)

  abbrev pub widths : Expr → List Limit
  widths x = (told x).widths None

-- ---- parts of statements

-- what parts of a statement have of each kind, in the order of the text
pub record Parts : Type 0 where
  pub widths : List Limit
  pub ranges : List Limit
  pub fields : List Limit

abbrev pub no_parts : Parts
no_parts = record { widths = []; ranges = []; fields = [] }

abbrev pub beside : Parts → Parts → Parts
beside p q =
    record {
      widths = p.widths ++ q.widths;
      ranges = p.ranges ++ q.ranges;
      fields = p.fields ++ q.fields;
    }

abbrev pub without_fields : Parts → Parts
without_fields p = record { widths = p.widths; ranges = p.ranges; fields = [] }

-- one kind after another
abbrev pub in_kinds : Parts → List Limit
in_kinds p = p.widths ++ (p.ranges ++ p.fields)

-- the size of what a condition compares: of the left operand if it has one, else of the right
abbrev pub compared_step :
    Expr-F (Expr × Option Size) (Ty × Unit {0}) (Access × Unit {0}) (Decl × Unit {0})
    (Var × Unit {0})
    → Option Size
compared_step (Expr-F.Not a at) = a.1
compared_step (Expr-F.Bin o a b at) = option_or (own_size a.0) (own_size b.0)
compared_step _ = None

abbrev pub size_compared : Expr → Option Size
size_compared =
    para-Expr (Option Size) (Unit {0}) (Unit {0}) (Unit {0}) (Unit {0}) compared_step (λ t. tt)
    (λ a. tt) (λ d. tt) (λ v. tt)

-- what is a left side with an index or an address, as an expression
abbrev pub left_access : Lval → Option Expr
left_access (lval.Skip at) = None
left_access (lval.Var v) = None
left_access (lval.Cell v i) = Some (expr.Cell v i)
left_access (lval.Store a) = Some (expr.Load a)

-- a word register or a cell of a register array
abbrev pub to_register : Option Lval → Bool
to_register (Some (lval.Var v)) = is_register_word (known_of v)
to_register (Some (lval.Cell v i)) = is_register_array (known_of v)
to_register _ = false

-- any number goes to a register by itself
abbrev pub is_free : Bool → Option BinOp → Expr → Bool
is_free register None x = register && is_inline x
is_free register (Some o) x = false

abbrev pub value_role : Option BinOp → Role
value_role None = role.Operand
value_role (Some o) = if is_shift o then role.Count else role.Operand

-- the roles of the first operand and of those behind it
abbrev pub all_in : Role → Roles
all_in r = record { first = r; later = r }

abbrev pub shifted : Roles
shifted = record { first = role.Operand; later = role.Count }

abbrev pub roles_by : Intrinsic → Roles
roles_by name.Lea = all_in role.Address
roles_by name.Setcc = all_in role.Test
roles_by name.Shl = shifted
roles_by name.Shr = shifted
roles_by name.Sar = shifted
roles_by name.Rol = shifted
roles_by name.Ror = shifted
roles_by _ = all_in role.Operand

abbrev pub roles_of : Option Instance → Roles
roles_of None = all_in role.Operand
roles_of (Some i) = roles_by i.name

abbrev pub size_by : Option Instance → List Lval → List Expr → Option Size
size_by None to es = None
size_by (Some i) to es = intrinsic_size i.name i.size to es

module _ (e : KnownNumbers) where
  -- an inline condition has no code; the address of LEA is told at its first token
  abbrev pub fields_as : Role → Option Size → Expr → List Limit
  fields_as role.Operand z x = (told e x).operands z
  fields_as role.Count z x = counted e z x ((told e x).operands z)
  fields_as role.Address z x = address_fields (span_of x) (told e x)
  fields_as role.Test z x = if is_inline x then [] else (told e x).operands (size_compared x)

  abbrev pub asked_as : Role → Option Size → Expr → Parts
  asked_as r z x =
      record {
        widths = (told e x).widths None;
        ranges = (told e x).ranges;
        fields = fields_as r z x;
      }

  abbrev pub asked_if : Role → Option Size → Option Expr → Parts
  asked_if r z None = no_parts
  asked_if r z (Some x) = asked_as r z x

  abbrev pub left_parts : List Lval → Parts
  left_parts [] = no_parts
  left_parts (d ∷ ds) = beside (asked_if role.Operand None (left_access d)) (left_parts ds)

  abbrev pub operand_parts : Roles → Option Size → List Expr → Parts
  operand_parts r z [] = no_parts
  operand_parts r z (x ∷ xs) =
      beside (asked_as r.first z x) (operand_parts (all_in r.later) z xs)

  -- ---- the right side of an assignment

  abbrev pub value_as : Bool → Role → Option Size → Expr → Parts
  value_as free r z x =
      if free then without_fields (asked_as r z x) else asked_as r z x

  -- d: the left side that it is for; z: the size of the left sides
  abbrev pub value_parts : Option Lval → Option Size → Option BinOp → Expr → Parts
  value_parts d z o x =
      value_as (is_free (to_register d) o x) (value_role o) (option_or z (own_size x)) x

  abbrev pub value_of : Option Expr → Option Constant
  value_of None = None
  value_of (Some x) = inline_value e x

  -- what one inline variable is set to
  abbrev pub set_value : Var → Option BinOp → Expr → Option Constant
  set_value v o x = value_of (whole_of (Some (lval.Var v)) o x)

  -- with an operation it is the variable and the value in one, told at the variable
  abbrev pub set_parts : Var → Option BinOp → Expr → Parts
  set_parts v None x = asked_as role.Operand None x
  set_parts v (Some o) x =
      record {
        widths = no_value None (out-Var v).span (set_value v (Some o) x);
        ranges = (told e x).ranges;
        fields = [];
      }

  -- what sets one inline variable alone has no code, so it has no fields
  abbrev pub assigned_parts :
      Option Var → List Lval → Option BinOp → Expr → Option Expr → Parts
  assigned_parts (Some v) to o x c =
      without_fields (beside (set_parts v o x) (asked_if role.Test None c))
  assigned_parts None to o x c =
      beside (left_parts to)
      (beside (value_parts (last_left to) (left_sizes to) o x) (asked_if role.Test None c))

  abbrev pub asked : Operation → List Limit
  asked (assign to o x c at) = in_kinds (assigned_parts (inline_target to) to o x c)
  asked (instruction to n es at) =
      in_kinds
      (beside (left_parts to)
      (operand_parts (roles_of (spelled n)) (size_by (spelled n) to es) es))
  asked (unset vs) = []
  asked (meaningless at) = []

  -- of a condition that is not inline
  abbrev pub asked_condition : Expr → List Limit
  asked_condition c = in_kinds (asked_as role.Test None c)
