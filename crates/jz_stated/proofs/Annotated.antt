-- No annotation of an export function of a typed program is refused: that is a rule of typing, and
-- numbers in place of constants change nothing of what is asked.
use Rattle.std.proofs.Common.{◌≡◌, Bool, true, false, List, [], ◌∷◌, ℕ, Option, Some, None, map, refl, sym, ap, ◌∙◌, subst, if◌then◌else◌}
use Rattle.std.specs.Prelude.{All, Contains, option_map, is_some}
use Rattle.std.proofs.lemmas.Bool.{false≢true}
use Rattle.std.proofs.lemmas.List.Elements.{All-map, All-weaker, All-contains}
use Rattle.jz_tree.specs.Span.{Span}
use Rattle.jz_tree.specs.declared.expr.Expr.{Expr}
use Rattle.jz_tree.specs.declared.expr.Ty.{Ty}
use Rattle.jz_tree.specs.declared.expr.Access.{Access}
use Rattle.jz_tree.specs.declared.expr.Decl.{Decl}
use Rattle.jz_tree.specs.declared.expr.Var.{Var}
use Rattle.jz_tree.specs.declared.expr.Expr.TheOpen.{Var-F}
use Rattle.jz_tree.specs.declared.expr.Expr.TheViews.{out-Var}
use Rattle.jz_tree.specs.declared.program.Fun.{Fun}
use Rattle.jz_tree.specs.declared.program.Param.{Param}
use Rattle.jz_tree.specs.declared.program.Program.{Program}
use Rattle.jz_type_names.specs.Kinds.{declared_of, known_of}
use Rattle.jz_type_names.specs.Scopes.{constant_place, variable_named}
use Rattle.jz_type_names.proofs.Empty.{all_empty, no_member}
use Rattle.jz_type_rows.specs.Exports.{is_exported, annotated_places}
use Rattle.jz_type_rows.specs.Programs.{in_functions}
use Rattle.jz_resolve.specs.Numbering.{values_of}
use Rattle.jz_resolve.specs.Numbering as numbering
use Rattle.jz_resolve.specs.Programs.{counted_var, counted_param, resolved_whole, resolved_program}
use Rattle.jz_types.specs.TypedPrograms.{IsTypedProgram}
use Rattle.jz_types.specs.declared.fault.TypeRule.TheVariants as rule
use Rattle.jz_types.proofs.ProgramsKept.{decl_known, var_out, var_name, find_kept}
use Rattle.jz_preconditions.specs.Naming.{known_by, parameters_of}
use Rattle.jz_preconditions.specs.Refusals.{refused_places}
use Rattle.jz_inputs.proofs.SameRefusals.{refused_same}
use Rattle.jz_stated.specs.StatedLaws.{StatesWell, ProgramsStateWell}

exported_well : (b : Bool) (at : List Span) → (if b then at else []) ≡ [] → b ≡ true → at ≡ []
exported_well true at e h = e
exported_well false at e h = absurd (false≢true h)

module _ (p : Program) where
  abbrev numbers : numbering.Values
  numbers = values_of p.consts

  pub var_known : (v : Var) → known_of (counted_var numbers v) ≡ known_of v
  var_known v = ap (λ (y : Var-F Expr Ty Access Decl Var). option_map declared_of y.decl) (var_out numbers v) ∙ decl_known numbers (out-Var v).decl

  vars_counted : (ps : List Param) → map (λ q. q.var) (map (counted_param numbers) ps) ≡ map (counted_var numbers) (map (λ q. q.var) ps)
  vars_counted [] = refl
  vars_counted (q ∷ ps) = ap (λ vs. counted_var numbers q.var ∷ vs) (vars_counted ps)

  parameters_kept : (f : Fun) (n : List ℕ) → parameters_of (resolved_whole (constant_place p.consts) numbers f) n ≡ option_map (counted_var numbers) (parameters_of f n)
  parameters_kept f n =
      ap (variable_named n) (vars_counted f.params) ∙ find_kept (λ v. (out-Var v).name) (counted_var numbers) (var_name numbers) n (map (λ q. q.var) f.params)

  known_kept : (o : Option Var) → known_by (option_map (counted_var numbers) o) ≡ known_by o
  known_kept None = refl
  known_kept (Some v) = var_known v

  there_kept : (o : Option Var) → is_some (option_map (counted_var numbers) o) ≡ is_some o
  there_kept None = refl
  there_kept (Some v) = refl

  resolved_well : (f : Fun) → StatesWell f → StatesWell (resolved_whole (constant_place p.consts) numbers f)
  resolved_well f h x =
      refused_same (parameters_of (resolved_whole (constant_place p.consts) numbers f)) (parameters_of f)
      (λ n. ap known_by (parameters_kept f n) ∙ known_kept (parameters_of f n))
      (λ n. ap is_some (parameters_kept f n) ∙ there_kept (parameters_of f n)) f.notes
      ∙ h x

  all_well : in_functions annotated_places p ≡ [] → All StatesWell (resolved_program p).funs
  all_well e =
      All-map StatesWell (resolved_whole (constant_place p.consts) numbers) p.funs
      (All-weaker (λ f. annotated_places f ≡ []) (λ f. StatesWell (resolved_whole (constant_place p.consts) numbers f))
      (λ f h. resolved_well f (exported_well (is_exported f.kind) (refused_places f) h)) p.funs (all_empty annotated_places p.funs e))

pub state_well : ProgramsStateWell
state_well q h =
    subst (λ z. All StatesWell z.funs) (sym h.same)
    (all_well h.source (no_member (in_functions annotated_places h.source) (λ at c. h.typed rule.BadAnnotation at c)))

pub asked_well : (p : Program) (f : Fun) → IsTypedProgram p → Contains p.funs f → is_exported f.kind ≡ true → refused_places f ≡ []
asked_well p f t among x = All-contains StatesWell p.funs f (state_well p t) among x
