-- BadAnnotation and ExportShape: what stands before an export function, and its parameters and
-- results.
use Rattle.std.specs.Prelude.{Bool, true, false, not, ◌&&◌, ◌||◌, nat_le, if◌then◌else◌, List, [], length, Some}
use Rattle.std.specs.List.{list_all}
use Rattle.jz_tree.specs.Span.{Span}
use Rattle.jz_tree.specs.declared.program.FunKind.{FunKind}
use Rattle.jz_tree.specs.declared.program.FunKind.TheVariants as kind
use Rattle.jz_tree.specs.declared.program.Fun.{Fun}
use Rattle.jz_tree.specs.declared.program.Param.{Param}
use Rattle.jz_tree.specs.declared.program.Ret.{Ret}
use Rattle.jz_type_names.specs.Order.{unless}
use Rattle.jz_type_names.specs.Kinds.{declared_of, known_of, is_register_word}
use Rattle.jz_preconditions.specs.Refusals.{refused_places}

abbrev pub is_exported : FunKind → Bool
is_exported kind.Inline = false
is_exported kind.Export = true

-- ---- ExportShape: at most six words in registers as parameters, at most two as results
abbrev pub is_word_param : Param → Bool
is_word_param p = is_register_word (known_of p.var)

abbrev pub is_word_result : Ret → Bool
is_word_result r = is_register_word (Some (declared_of r.decl))

abbrev pub has_shape : Fun → Bool
has_shape f =
    nat_le (length f.params) 6 && nat_le (length f.rets) 2
    && list_all is_word_param f.params && list_all is_word_result f.rets

abbrev pub misshapen_places : Fun → List Span
misshapen_places f = unless (not (is_exported f.kind) || has_shape f) f.span

-- ---- BadAnnotation: a precondition before an export function that is refused
abbrev pub annotated_places : Fun → List Span
annotated_places f = if is_exported f.kind then refused_places f else []
