-- What the code finds of an expression: of each kind the first limit, at one place and for one size.
use Rattle.std.specs.Prelude.{ℤ, ℕ, pos, ◌^◌, Bool, true, false, not, ◌&&◌, ◌||◌, is_some, ◌+ℤ◌, ◌-ℤ◌, ◌*ℤ◌, if◌then◌else◌, List, [], ◌∷◌, Option, Some, None}
use Rattle.std.specs.List.{list_any}
use Rattle.jz_tree.specs.Span.{Span}
use Rattle.jz_tree.specs.Size.{Size}
use Rattle.jz_tree.specs.declared.expr.BinOp.{BinOp}
use Rattle.jz_tree.specs.declared.expr.BinOp.TheVariants as op
use Rattle.jz_tree.specs.declared.expr.Expr.{Expr}
use Rattle.jz_tree.specs.declared.expr.Var.{Var}
use Rattle.jz_tree.specs.declared.expr.Expr.TheViews.{out-Var}
use Rattle.jz_tree.specs.Operators.{is_shift}
use Rattle.jz_integers.specs.Integers.{KnownNumbers, inline_value, the_number, joined}
use Rattle.jz_integers.specs.declared.constant.Constant.{Constant}
use Rattle.jz_type_names.specs.Kinds.{known_of, is_inline, is_register_array}
use Rattle.jz_type_names.specs.Parts.{span_of}
use Rattle.jz_meaning.specs.Values.{ref_of}
use Rattle.jz_limits.specs.Limits.{Limit}
use Rattle.jz_limits.specs.declared.limit.Limit.TheVariants.{InlineWidth, IndexRange, ImmRange}
use Rattle.jz_limits.specs.declared.terms.Terms.{Terms}
use Rattle.jz_limits.specs.declared.looked.Asking.{Asking}
use Rattle.jz_limits.specs.declared.looked.Looked.{Looked}
use Rattle.jz_limits.specs.declared.looked.Pieces.{Pieces}
use Rattle.jz_limits.specs.declared.looking.Operand.{Operand}
use Rattle.jz_limits.specs.declared.operands.Firsts.{Firsts}
use Rattle.jz_limits.specs.declared.operands.Role.{Role}
use Rattle.jz_limits.specs.declared.operands.Role.TheVariants as role
use Rattle.jz_limits.specs.Asked as asked
use Rattle.jz_limits.specs.Asked.{Told, Beside, Parts, place_or, within_cells, has_displacement, has_index, bad_scale, is_scale, or_zero, has_immediate, is_count, part_widths, part_ranges, part_operands, part_terms, part_scales, told}

-- ---- first limits

abbrev pub first : List Limit → Option Limit
first [] = None
first (l ∷ ls) = Some l

abbrev pub sooner : Option Limit → Option Limit → Option Limit
sooner None other = other
sooner (Some l) other = Some l

abbrev pub if_not : Bool → Limit → Option Limit
if_not fine l = if fine then None else Some l

abbrev pub turned_by : Terms → ℤ
turned_by t = t.turns *ℤ pos (2 ^ 128)

abbrev pub total : Terms → ℤ
total t = t.rest +ℤ turned_by t

abbrev pub are_scales : List ℤ → Bool
are_scales ns = not (list_any bad_scale ns)

-- ---- what is found

pub record Seen : Type 0 where
  pub span : Span
  pub inline : Bool
  pub value : Option Constant
  pub width : Option Limit
  pub range : Option Limit
  pub operand : Option Limit
  pub terms : ℤ
  pub scaled : Bool

-- of the parts of one that is not inline
pub record Part : Type 0 where
  pub width : Option Limit
  pub range : Option Limit
  pub operand : Option Limit
  pub terms : ℤ
  pub scaled : Bool

abbrev pub seen_of : Looked → Seen
seen_of l =
    record {
      span = l.span;
      inline = l.inline;
      value = l.value;
      width = l.width;
      range = l.range;
      operand = l.operand;
      terms = total l.terms;
      scaled = l.scaled;
    }

abbrev pub pieces_of : Pieces → Part
pieces_of p =
    record {
      width = p.width;
      range = p.range;
      operand = p.operand;
      terms = total p.terms;
      scaled = p.scaled;
    }

abbrev pub seen_as : Bool → Option Constant → Span → Asking → Part → Seen
seen_as true v at a q =
    record {
      span = at;
      inline = true;
      value = v;
      width = if_not (is_some v) (InlineWidth (place_or a.place at));
      range = q.range;
      operand = if_not (has_immediate a.size (the_number v)) (ImmRange at);
      terms = or_zero (the_number v);
      scaled = true;
    }
seen_as false v at a q =
    record {
      span = at;
      inline = false;
      value = v;
      width = q.width;
      range = q.range;
      operand = q.operand;
      terms = q.terms;
      scaled = q.scaled;
    }

-- ---- by the definition

abbrev pub part_of : KnownNumbers → Asking → Beside → Part
part_of e a x =
    record {
      width = first (part_widths e x a.place);
      range = first (part_ranges e x);
      operand = first (part_operands e x a.size);
      terms = part_terms e x;
      scaled = are_scales (part_scales e x);
    }

abbrev pub look_of : KnownNumbers → Asking → Expr → Seen
look_of e a x =
    record {
      span = span_of x;
      inline = is_inline x;
      value = inline_value e x;
      width = first ((told e x).widths a.place);
      range = first (told e x).ranges;
      operand = first ((told e x).operands a.size);
      terms = (told e x).terms;
      scaled = are_scales (told e x).scales;
    }

-- ---- parts

abbrev pub no_part : Part
no_part = record { width = None; range = None; operand = None; terms = pos 0; scaled = true }

-- what passes the limits of the part, where it is no operation on two
abbrev pub inner_part : Seen → Part
inner_part s =
    record {
      width = s.width;
      range = s.range;
      operand = s.operand;
      terms = pos 0;
      scaled = true;
    }

abbrev pub range_of : Var → Option Constant → Option Limit
range_of v i = first (asked.cell_range v i)

abbrev pub index_field : Var → ℤ → Option Limit
index_field v n =
    if_not (is_register_array (known_of v) || has_index (ref_of v).kind n)
    (ImmRange (out-Var v).span)

abbrev pub address_field : Span → Seen → Option Limit
address_field at s = if_not (has_displacement s.terms && s.scaled) (ImmRange at)

abbrev pub cell_part : Var → Seen → Part
cell_part v s =
    record {
      width = s.width;
      range = sooner (range_of v s.value) s.range;
      operand = index_field v s.terms;
      terms = pos 0;
      scaled = true;
    }

abbrev pub load_part : Span → Seen → Part
load_part at s =
    record {
      width = s.width;
      range = s.range;
      operand = address_field at s;
      terms = pos 0;
      scaled = true;
    }

-- of a count that is inline
abbrev pub count_field : Option Size → Seen → Option Limit
count_field z s =
    if s.inline then if_not (is_count z (the_number s.value)) (ImmRange s.span) else s.operand

abbrev pub scale_value : Option ℤ → Bool
scale_value None = true
scale_value (Some n) = is_scale n

abbrev pub product_scaled : Seen → Seen → Bool
product_scaled a b =
    if a.inline then scale_value (the_number a.value)
    else if b.inline then scale_value (the_number b.value)
    else true

abbrev pub operation_terms : BinOp → Seen → Seen → ℤ
operation_terms op.Add a b = a.terms +ℤ b.terms
operation_terms op.Sub a b = a.terms -ℤ or_zero (the_number b.value)
operation_terms _ a b = pos 0

abbrev pub operation_scaled : BinOp → Seen → Seen → Bool
operation_scaled op.Add a b = a.scaled && b.scaled
operation_scaled op.Sub a b = a.scaled
operation_scaled op.Mul a b = product_scaled a b
operation_scaled _ a b = true

abbrev pub operation_part : BinOp → Option Size → Seen → Seen → Part
operation_part o z a b =
    record {
      width = sooner a.width b.width;
      range = sooner a.range b.range;
      operand = sooner a.operand (if is_shift o then count_field z b else b.operand);
      terms = operation_terms o a b;
      scaled = operation_scaled o a b;
    }

abbrev pub operation_seen : Asking → BinOp → Span → Seen → Seen → Seen
operation_seen q o at a b =
    seen_as (a.inline && b.inline) (joined o a.value b.value) at q (operation_part o q.size a b)

-- operations on what stands first, the outermost of them at the head
abbrev pub seen_left : Asking → List Operand → Seen → Seen
seen_left q [] s = s
seen_left q (x ∷ xs) s = operation_seen q x.op x.span (seen_left q xs s) (seen_of x.right)

-- ---- parts of statements

abbrev pub firsts_of : Parts → Firsts
firsts_of p =
    record { width = first p.widths; range = first p.ranges; field = first p.fields }

abbrev pub firsts_beside : Firsts → Firsts → Firsts
firsts_beside p q =
    record {
      width = sooner p.width q.width;
      range = sooner p.range q.range;
      field = sooner p.field q.field;
    }

abbrev pub first_in_kinds : Firsts → Option Limit
first_in_kinds p = sooner p.width (sooner p.range p.field)

abbrev pub firsts_without_fields : Firsts → Firsts
firsts_without_fields p = record { width = p.width; range = p.range; field = None }

abbrev pub firsts_if_free : Bool → Firsts → Firsts
firsts_if_free free p = if free then firsts_without_fields p else p

abbrev pub size_in : Role → Option Size → Expr → Option Size
size_in role.Test z x = asked.size_compared x
size_in r z x = z

abbrev pub field_of : Role → Option Size → Seen → Option Limit
field_of role.Operand z s = s.operand
field_of role.Count z s = count_field z s
field_of role.Address z s = address_field s.span s
field_of role.Test z s = if s.inline then None else s.operand

abbrev pub firsts_found : Role → Option Size → Seen → Firsts
firsts_found r z s = record { width = s.width; range = s.range; field = field_of r z s }

-- ---- left sides

abbrev pub left_asking : Asking
left_asking = record { place = None; size = None }

-- the parts of a cell, and of an access to memory
abbrev pub cell_found : KnownNumbers → Var → Expr → Part
cell_found e v i =
    cell_part v (look_of e (record { place = Some (out-Var v).span; size = None }) i)

abbrev pub load_found : KnownNumbers → Span → Expr → Part
load_found e at x = load_part at (look_of e (record { place = Some at; size = None }) x)
