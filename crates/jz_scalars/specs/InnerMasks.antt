-- Masks as the code makes them.
use Rattle.std.specs.Prelude.{◌&&◌, Bool, true, false, if◌then◌else◌, List, [], ◌∷◌, ◌++◌}
use Rattle.jz_tree.specs.declared.expr.BinOp.{BinOp}
use Rattle.jz_tree.specs.declared.expr.Expr.{Expr}
use Rattle.jz_tree.specs.declared.expr.Var.{Var}
use Rattle.jz_tree.specs.declared.intrinsic.Intrinsic.{Intrinsic}
use Rattle.jz_tree.specs.declared.intrinsic.Intrinsic.TheVariants as name
use Rattle.jz_meaning.specs.Values.{gives_word}
use Rattle.jz_inline.specs.Widths.{sort_declared}
use Rattle.jz_inline.specs.InnerWidths.{is_whole, count_of_operation}
use Rattle.jz_arrays.specs.Cells.{size_at, cell_in, is_scalar, all_kept, mask_of}
use Rattle.jz_scalars.specs.Scalars.{declared_sort}
use Rattle.jz_scalars.specs.declared.masks.Masked.{Masked}
use Rattle.jz_scalars.specs.declared.masks.Operand.{Operand}

abbrev pub masked_of : Expr → Masked
masked_of e = record { whole = is_whole (declared_sort e); mask = mask_of declared_sort e }

-- an access at this place, whose number is left
abbrev pub masked_access : Bool → Expr → Masked
masked_access whole at = record { whole = whole; mask = mask_of declared_sort at ++ true ∷ [] }

-- the cell of an array at a place that has this mask
abbrev pub masked_cell_of : Var → Expr → Masked → Masked
masked_cell_of v i place =
    record {
      whole = is_whole (sort_declared v);
      mask =
          if is_scalar (size_at v) (cell_in v i) then false ∷ [] else place.mask ++ true ∷ [];
    }

abbrev pub masked_operation : BinOp → Masked → Masked → Masked
masked_operation o a b =
    record {
      whole = gives_word o && (a.whole && b.whole);
      mask = a.mask ++ (b.mask ++ all_kept (count_of_operation o (a.whole && b.whole)));
    }

-- operations on what stands first, the outermost of them at the head
abbrev pub masked_left : List Operand → Masked → Masked
masked_left [] m = m
masked_left (s ∷ ss) m = masked_operation s.op (masked_left ss m) s.right

abbrev pub is_division : Intrinsic → Bool
is_division name.Div = true
is_division _ = false
