-- The earliest wrong place of a function and of a program, part by part.
use Rattle.std.proofs.Common.{◌≡◌, ℕ, List, [], ◌∷◌, ◌++◌, Bool, true, false, Option, Some, None, map, flat_map, refl, sym, ap, ap₂, ◌∙◌}
use Rattle.std.specs.Prelude.{ℤ, ◌||◌}
use Rattle.std.specs.List.{list_any}
use Rattle.jz_tree.specs.Span.{Span}
use Rattle.jz_tree.specs.declared.expr.Expr.{Expr}
use Rattle.jz_tree.specs.declared.expr.Ty.{Ty}
use Rattle.jz_tree.specs.declared.expr.Access.{Access}
use Rattle.jz_tree.specs.declared.expr.Decl.{Decl}
use Rattle.jz_tree.specs.declared.expr.Var.{Var}
use Rattle.jz_tree.specs.declared.expr.Expr.TheOpen.{Ty-F}
use Rattle.jz_tree.specs.declared.expr.Expr.TheViews.{out-Ty}
use Rattle.jz_tree.specs.declared.program.Fun.{Fun}
use Rattle.jz_tree.specs.declared.program.Program.{Program}
use Rattle.jz_type_names.specs.declared.tables.Places.{Places}
use Rattle.jz_type_names.specs.declared.tables.Functions.{Functions}
use Rattle.jz_type_names.specs.Order.{earlier, earliest, first_in}
use Rattle.jz_type_names.specs.Kinds.{kind_step, declared_of, is_array_kind, is_array}
use Rattle.jz_type_names.specs.Parts.{length_layer}
use Rattle.jz_type_names.specs.Scopes.{Name, variable_place}
use Rattle.jz_type_names.specs.Tables.{IsPlaces, IsFunctions, place_in, function_in}
use Rattle.jz_type_names.specs.Names.{is_constant, decls_of}
use Rattle.jz_type_names.proofs.Earliest.{first_over, both_earliest}
use Rattle.jz_type_names.proofs.UnknownLaws.{constants_are, functions_are}
use Rattle.jz_type_sizes.specs.Lengths.{length_wrong, decl_wrong, fun_lengths}
use Rattle.jz_type_sizes.specs.Mismatches.{body_wrong, constant_wrong, mismatched_as_read, mismatched_declared}

-- ---- the lengths of a function's arrays
-- declarations and variables are as the code has found them
pub lengths_are : (constants variables : List ℕ → Option Span) (length_of : Expr → Option ℤ) (f : Fun) (ds : List Decl) (r : Option Span)
    → ds ≡ decls_of f → variables ≡ variable_place f → r ≡ first_in (decl_wrong (is_constant constants variables) length_of) ds → r ≡ earliest (fun_lengths constants length_of f)
unfolding fun_lengths
lengths_are constants variables length_of f ds r d e h =
    h ∙ (first_over (decl_wrong (is_constant constants variables) length_of) ds ∙ ap₂ (λ vs ds. earliest (flat_map (decl_wrong (is_constant constants vs) length_of) ds)) e d)

-- what is no array has no length
no_length : (t : Ty-F Expr Ty Access Decl Var) → is_array_kind (kind_step t) ≡ false → length_layer t ≡ []
no_length Ty-F.Int h = refl
no_length Ty-F.Ty::Bool h = refl
no_length (Ty-F.Word z) h = refl
no_length (Ty-F.Array z e) h = cc

neither : (a b : Bool) → (a || b) ≡ false → (a ≡ false) × (b ≡ false)
neither false b h = (refl, h)
neither true b h = cc

none_wrong : (constant : Name → Bool) (length_of : Expr → Option ℤ) (ds : List Decl) → list_any (λ d. is_array (Some (declared_of d))) ds ≡ false
    → flat_map (decl_wrong constant length_of) ds ≡ []
none_wrong constant length_of [] h = refl
none_wrong constant length_of (d ∷ ds) h =
    let both = neither (is_array (Some (declared_of d))) (list_any (λ d. is_array (Some (declared_of d))) ds) h
    in ap₂ (λ a b. a ++ b) (ap (flat_map (length_wrong constant length_of)) (no_length (out-Ty d.ty) both.0)) (none_wrong constant length_of ds both.1)

-- where no array is declared
pub no_lengths : (constants : List ℕ → Option Span) (length_of : Expr → Option ℤ) (f : Fun) (ds : List Decl)
    → ds ≡ decls_of f → list_any (λ d. is_array (Some (declared_of d))) ds ≡ false → None ≡ earliest (fun_lengths constants length_of f)
unfolding fun_lengths
no_lengths constants length_of f ds d h =
    let wrong : List Decl → List Span = flat_map (decl_wrong (is_constant constants (variable_place f)) length_of)
    in ap earliest (sym (none_wrong (is_constant constants (variable_place f)) length_of ds h)) ∙ ap (λ ds. earliest (wrong ds)) d

-- ---- a program
-- constant by constant and function by function, with a table of the constants
pub as_read_whole : (p : Program) (length_of : Expr → Option ℤ) (constants : Places) → IsPlaces constants (map (λ c. (c.name, c.span)) p.consts)
    → earlier (first_in constant_wrong p.consts) (first_in (fun_lengths (place_in constants) length_of) p.funs) ≡ earliest (mismatched_as_read length_of p)
as_read_whole p length_of constants h =
    both_earliest (flat_map constant_wrong p.consts) (flat_map (fun_lengths (place_in constants) length_of) p.funs) _ _
    (first_over constant_wrong p.consts) (first_over (fun_lengths (place_in constants) length_of) p.funs)
    ∙ ap (λ cs. earliest (flat_map constant_wrong p.consts ++ flat_map (fun_lengths cs length_of) p.funs)) (constants_are constants p.consts h)

-- function by function, with a table of the functions
pub declared_whole : (q : Program) (functions : Functions) → IsFunctions functions q.funs → first_in (body_wrong (function_in functions)) q.funs ≡ earliest (mismatched_declared q)
declared_whole q functions h = first_over (body_wrong (function_in functions)) q.funs ∙ ap (λ named. earliest (flat_map (body_wrong named) q.funs)) (functions_are functions q.funs h)
