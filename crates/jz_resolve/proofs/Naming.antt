-- What the tables of a function and of the constants say is what is declared.
use Rattle.std.proofs.Common.{◌≡◌, ℕ, ℤ, List, Option, Some, None, ap}
use Rattle.std.proofs.Math.Path.{fun_ext}
use Rattle.std.specs.Prelude.{if◌then◌else◌, option_map, option_and_then}
use Rattle.std.specs.Option.{option_or}
use Rattle.jz_tree.specs.Span.{Span}
use Rattle.jz_tree.specs.declared.expr.Var.{Var}
use Rattle.jz_tree.specs.declared.expr.Expr.TheViews.{out-Var}
use Rattle.jz_type_names.specs.Scopes.{Name, PlacesByName, variable_named, place_among}
use Rattle.jz_type_names.specs.Names.{is_constant}
use Rattle.jz_resolve.specs.Numbering.{Values, constant_decl, declaration_in, number_in}

module _ (variables : List ℕ → Option Var) (places : PlacesByName) (values : Values) (vs : List Var) (held : (n : List ℕ) → variables n ≡ variable_named n vs) where
  pub declares : (λ n. option_or (option_and_then (λ v. (out-Var v).decl) (variables n)) (option_map (λ at. constant_decl) (places n))) ≡ declaration_in places vs
  declares = fun_ext (λ n. ap (λ o. option_or (option_and_then (λ v. (out-Var v).decl) o) (option_map (λ at. constant_decl) (places n))) (held n))

  place : List ℕ → Option Span
  place n = option_map (λ v. (out-Var v).span) (variables n)

  placed : place ≡ place_among vs
  unfolding place
  placed = fun_ext (λ n. ap (option_map (λ v. (out-Var v).span)) (held n))

  numbered : PlacesByName → Name → Option (Option ℤ)
  numbered p n = if is_constant places p n then Some (values n.0) else None

  pub numbers : (λ (n : Name). if is_constant places (λ m. option_map (λ v. (out-Var v).span) (variables m)) n then Some (values n.0) else None) ≡ number_in places values vs
  unfolding place numbered
  numbers = ap numbered placed
