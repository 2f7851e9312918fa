-- The names of a program stay where it is resolved.
use Rattle.std.proofs.Common.{◌≡◌, ℕ, ℤ, List, Option, Some, None, refl, sym, ap, ◌∙◌, subst}
use Rattle.std.specs.Prelude.{All}
use Rattle.std.proofs.lemmas.List.Elements.{All-map, All-weaker}
use Rattle.jz_tree.specs.declared.expr.Decl.{Decl}
use Rattle.jz_tree.specs.declared.expr.Var.{Var}
use Rattle.jz_tree.specs.declared.stmt.Rhs.TheVariants as rhs
use Rattle.jz_tree.specs.declared.stmt.Stmt.{Stmt}
use Rattle.jz_tree.specs.declared.stmt.StmtKind.TheOpen.{StmtKind-F}
use Rattle.jz_tree.specs.declared.program.Const.{Const}
use Rattle.jz_tree.specs.declared.program.Fun.{Fun}
use Rattle.jz_tree.specs.declared.program.Program.{Program}
use Rattle.jz_lex.specs.Identifiers.{IsIdentifier}
use Rattle.jz_type_names.specs.Scopes.{Name, PlacesByName, variables_of, constant_place}
use Rattle.jz_type_names.specs.Parts.{Layer, layer_of, statements_of, called_by}
use Rattle.jz_resolve.specs.Resolving.{resolved_var, resolved_stmt}
use Rattle.jz_resolve.specs.Numbering.{Values, values_of, declaration_in, number_in}
use Rattle.jz_resolve.specs.Programs.{counted_var, counted_fun, resolved_const}
use Rattle.jz_types.specs.Carried.{used_by}
use Rattle.jz_types.proofs.NamesKept.{var_kept}
use Rattle.jz_types.proofs.StatementsKept.{set_layer, layer_resolved}
use Rattle.jz_types.proofs.ProgramsKept.{var_name}
use Rattle.jz_texts.proofs.Resolved.{H, in_variables, in_statements, statement_kept, results_kept}
use Rattle.jz_parse_laws.specs.Names.{IsCalled, IsNamed, HasNames, ResolvedNamesLaw}

-- what is called stays
module _ (d : List ℕ → Option Decl) (n : Name → Option (Option ℤ)) where
  layer_calls : (k : Layer) → called_by (set_layer d n k) ≡ called_by k
  layer_calls (StmtKind-F.Assign to op (rhs.Value e) cond) = refl
  layer_calls (StmtKind-F.Assign to op (rhs.Call m args at) cond) = refl
  layer_calls (StmtKind-F.Assign to op (rhs.Intrinsic m args at) cond) = refl
  layer_calls (StmtKind-F.If c a b) = refl
  layer_calls (StmtKind-F.While p c None) = refl
  layer_calls (StmtKind-F.While p c (Some b)) = refl
  layer_calls (StmtKind-F.For i from down to b) = refl
  layer_calls (StmtKind-F.Mark vs) = refl

  calls_same : (s : Stmt) → called_by (layer_of (resolved_stmt d n s)) ≡ called_by (layer_of s)
  calls_same s = ap called_by (layer_resolved d n s) ∙ layer_calls (layer_of s)

module _ (p : Program) where
  abbrev places : PlacesByName
  places = constant_place p.consts

  abbrev values : Values
  values = values_of p.consts

  abbrev D : Fun → List ℕ → Option Decl
  D f = declaration_in places (variables_of (counted_fun values f))

  abbrev N : Fun → Name → Option (Option ℤ)
  N f = number_in places values (variables_of (counted_fun values f))

  counted_called : (v : Var) → IsCalled v → IsCalled (counted_var values v)
  counted_called v h = subst IsIdentifier (sym (var_name values v)) h

  resolved_called : (f : Fun) (v : Var) → IsCalled v → IsCalled (resolved_var (D f) (N f) v)
  resolved_called f v h = subst IsIdentifier (sym (ap (λ (n : Name). n.0) (var_kept (D f) (N f) v))) h

  fun_stays : (f : Fun) → HasNames f → HasNames (H p f)
  fun_stays f h =
      record {
        name = h.name;
        declared = in_variables p f IsCalled (All-weaker IsCalled (λ v. IsCalled (counted_var values v)) counted_called (variables_of f) h.declared);
        used = (
          in_statements p f (λ s. All IsCalled (used_by (layer_of s)))
              (All-weaker (λ s. All IsCalled (used_by (layer_of s))) (λ s. All IsCalled (used_by (layer_of (resolved_stmt (D f) (N f) s))))
              (statement_kept (D f) (N f) IsCalled IsCalled (resolved_called f)) (statements_of f.body) h.used.0),
          results_kept (D f) (N f) IsCalled IsCalled (resolved_called f) f.result h.used.1,
        );
        called =
            in_statements p f (λ s. All IsNamed (called_by (layer_of s)))
            (All-weaker (λ s. All IsNamed (called_by (layer_of s))) (λ s. All IsNamed (called_by (layer_of (resolved_stmt (D f) (N f) s))))
            (λ s k. subst (All IsNamed) (sym (calls_same (D f) (N f) s)) k) (statements_of f.body) h.called);
      }

pub stay_named : ResolvedNamesLaw
stay_named p h =
    record {
      consts = All-map (λ (c : Const). IsIdentifier c.name) (resolved_const (constant_place p.consts) (values_of p.consts)) p.consts h.consts;
      funs = All-map HasNames (H p) p.funs (All-weaker HasNames (λ f. HasNames (H p f)) (fun_stays p) p.funs h.funs);
    }
