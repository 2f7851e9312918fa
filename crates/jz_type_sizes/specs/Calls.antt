-- Calls of functions, and what functions give back.
use Rattle.std.specs.Prelude.{pos, ℤ, Bool, true, false, ◌&&◌, ◌||◌, nat_eq, is_none, List, [], ◌++◌, length, flat_map, Option, Some, None}
use Rattle.std.specs.Ordering.{int_eq}
use Rattle.jz_tree.specs.Span.{Span}
use Rattle.jz_tree.specs.declared.expr.Expr.{Expr}
use Rattle.jz_tree.specs.declared.expr.Expr.TheViews.{out-Var}
use Rattle.jz_tree.specs.declared.expr.Decl.{Decl}
use Rattle.jz_tree.specs.declared.expr.Var.{Var}
use Rattle.jz_tree.specs.declared.stmt.Lval.{Lval}
use Rattle.jz_tree.specs.declared.program.FunKind.{FunKind}
use Rattle.jz_tree.specs.declared.program.FunKind.TheVariants as kinds
use Rattle.jz_tree.specs.declared.program.Fun.{Fun}
use Rattle.jz_tree.specs.declared.program.Param.{Param}
use Rattle.jz_tree.specs.declared.program.Ret.{Ret}
use Rattle.jz_type_names.specs.Order.{unless}
use Rattle.jz_type_names.specs.Scopes.{name_of}
use Rattle.jz_type_names.specs.Parts.{span_of, is_skip}
use Rattle.jz_type_names.specs.declared.kinds.Kind.{Kind}
use Rattle.jz_type_names.specs.declared.kinds.Kind.TheVariants as kind
use Rattle.jz_type_names.specs.Kinds.{kind_of, written_length, same_storage, same_kind, array_of, whole_array}
use Rattle.jz_type_sizes.specs.declared.wants.Want.TheVariants as want
use Rattle.jz_type_sizes.specs.Typings.{typing}
use Rattle.jz_type_sizes.specs.Firsts.{wrong_beside}
use Rattle.jz_type_sizes.specs.Sides.{within, any_size, takes}
use Rattle.jz_type_sizes.specs.Intrinsics.{none_more}

-- ---- equal declarations
-- a length without a number, and one that became 0 since it has no value, is told where it stands
abbrev pub same_length : Option ℤ → Option ℤ → Bool
same_length (Some n) (Some m) = int_eq n (pos 0) || int_eq m (pos 0) || int_eq n m
same_length _ _ = true

abbrev pub same_decl : Decl → Decl → Bool
same_decl c d =
    same_storage c.storage d.storage
    && (same_kind (kind_of c.ty) (kind_of d.ty)
    && same_length (written_length c) (written_length d))

-- an unknown name is told by another rule
abbrev pub agrees : Decl → Option Decl → Bool
agrees c None = true
agrees c (Some d) = same_decl c d

-- the variable has that storage and type
abbrev pub is_declared : Decl → Var → Bool
is_declared d v = agrees d (out-Var v).decl

abbrev pub is_that_array : Decl → Option Var → Bool
is_that_array d None = false
is_that_array d (Some v) = is_declared d v

-- ---- arguments
abbrev pub passed_as : Kind → Decl → Expr → List Span
passed_as kind.Int d e = (typing e).wrong want.Int
passed_as kind.Truth d e = (typing e).wrong want.Truth
passed_as (kind.Word z) d e = (typing e).wrong (want.Word z)
passed_as (kind.Array z) d e = unless (is_that_array d (array_of e)) (span_of e)

abbrev pub passed_by : Option Decl → Expr → List Span
passed_by None e = []
passed_by (Some d) e = passed_as (kind_of d.ty) d e

-- an argument, by the parameter's declaration: an array has that storage and type
abbrev pub passed_wrong : Param → Expr → List Span
passed_wrong p e = passed_by (out-Var p.var).decl e

-- ---- results
-- a left side, by the declaration of the result
abbrev pub takes_kind : Kind → Decl → Lval → Bool
takes_kind (kind.Word z) d l = takes (want.Word z) l && is_none (whole_array l)
takes_kind (kind.Array z) d l = is_skip l || is_that_array d (whole_array l)
takes_kind _ d l = true

abbrev pub takes_result : Decl → Lval → Bool
takes_result d l = takes_kind (kind_of d.ty) d l

-- a result of another type is told at the callee's name
abbrev pub given_wrong : Span → Ret → Lval → List Span
given_wrong at r l = within any_size l ++ unless (takes_result r.decl l) at

-- ---- calls
abbrev pub is_callee : FunKind → Bool
is_callee kinds.Inline = true
is_callee kinds.Export = false

-- it is an inline function, and has as many parameters and results
abbrev pub fits_call : Fun → List Lval → List Expr → Bool
fits_call g to args =
    is_callee g.kind
    && (nat_eq (length args) (length g.params) && nat_eq (length to) (length g.rets))

-- an unknown function is told by another rule; its arguments are asked nothing
abbrev pub call_wrong : Option Fun → List Lval → List Expr → Span → List Span
call_wrong None to args at = flat_map (within any_size) to
call_wrong (Some g) to args at =
    wrong_beside (given_wrong at) (within any_size) g.rets to
    ++ unless (fits_call g to args) at
    ++ wrong_beside passed_wrong none_more g.params args

-- ---- what a function gives back: as many as declared, each of its declared storage and type
abbrev pub returned_one : Ret → Var → List Span
returned_one r v = unless (is_declared r.decl v) (name_of v).1

abbrev pub none_beyond : Var → List Span
none_beyond v = []

abbrev pub returned_wrong : Fun → List Span
returned_wrong f =
    unless (nat_eq (length f.result) (length f.rets)) f.span
    ++ wrong_beside returned_one none_beyond f.rets f.result
