-- Declarations for which there is no home.
use Rattle.std.specs.Prelude.{◌≡◌, ◌+◌, ◌-◌, ◌<◌, ◌≤◌, ◌^◌, ◌⊎◌, ℕ, List, ◌∷◌, ◌++◌, length, Option, Some, None, ⊤}
use Rattle.jz_tree.specs.Span.{Span}
use Rattle.jz_tree.specs.declared.expr.Decl.{Decl}
use Rattle.jz_tree.specs.declared.expr.Storage.{Storage}
use Rattle.jz_tree.specs.declared.expr.Storage.TheVariants as storage
use Rattle.jz_tree.specs.declared.expr.Var.{Var}
use Rattle.jz_tree.specs.declared.expr.Expr.TheViews.{out-Decl, out-Var}
use Rattle.jz_meaning.specs.declared.access.Kind.{Kind}
use Rattle.jz_meaning.specs.declared.access.Kind.TheVariants as kind
use Rattle.jz_meaning.specs.Values.{ref_of}
use Rattle.jz_homing.specs.Tables.{Table, with_vars}

-- so many numbers there are
abbrev pub most : ℕ
most = 2 ^ 32 - 1

-- ---- behind the homes of a table
-- all numbers are used, or it is no word, no bool and no array
abbrev pub NoVariable : Table → Kind → Type 0
NoVariable t (kind.Word z) = most ≤ length t.kinds
NoVariable t kind.Bool = most ≤ length t.kinds
NoVariable t (kind.Array z n) = (most < n) ⊎ (most < length t.kinds + n)
NoVariable t _ = ⊤

-- or no word and no array
abbrev pub NoStacked : Table → Kind → Type 0
NoStacked t (kind.Word z) = most ≤ length t.stack
NoStacked t (kind.Array z n) = (most < n) ⊎ (most ≤ length t.stack)
NoStacked t _ = ⊤

abbrev pub NotStored : Table → Var → Storage → Type 0
NotStored t x storage.Reg = NoVariable t (ref_of x).kind
NotStored t x storage.Stack = NoStacked t (ref_of x).kind
NotStored t x storage.Inline = ⊥

abbrev pub NotDeclared : Table → Var → Option Decl → Type 0
NotDeclared t x None = ⊤
NotDeclared t x (Some d) = NotStored t x (out-Decl d).storage

abbrev pub HasNoHome : Table → Var → Type 0
HasNoHome t x = NotDeclared t x (out-Var x).decl

-- one of the variables has no home behind those before it, and stands there
pub record IsHomeless (t : Table) (xs : List Var) (at : Span) : Type 0 where
  pub front : List Var
  pub var : Var
  pub back : List Var
  pub split : xs ≡ front ++ (var ∷ back)
  pub none : HasNoHome (with_vars t front) var
  pub stands : (ref_of var).span ≡ at
