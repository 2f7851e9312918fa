-- An expression of which nothing passes a limit has values in place of its inline parts.
use Rattle.std.specs.Prelude.{ℕ, ◌≡◌, ◌&&◌, Bool, true, not, is_none, nat_eq, if◌then◌else◌, List, [], Option}
use Rattle.jz_tree.specs.Span.{Span}
use Rattle.jz_tree.specs.declared.expr.Expr.{Expr}
use Rattle.jz_tree.specs.declared.expr.Access.{Access}
use Rattle.jz_tree.specs.declared.expr.Var.{Var}
use Rattle.jz_tree.specs.declared.expr.Expr.TheOpen.{Expr-F}
use Rattle.jz_tree.specs.declared.expr.Expr.TheFolds.{para-Expr, para-Access}
use Rattle.jz_type_names.specs.Kinds.{known_of, is_inline_int}
use Rattle.jz_integers.specs.Integers.{KnownNumbers}
use Rattle.jz_meaning.specs.Values.{Ref, ref_of}
use Rattle.jz_inline.specs.Scopes.{is_over, is_access_over}
use Rattle.jz_limits.specs.Asked.{told}
use Rattle.jz_inline.specs.Names.{Names, expr_in}
use Rattle.jz_unroll.specs.Values.{Beside, InlineNames, is_inline_var, has_values}

module _ (names : InlineNames) where
  -- a variable is inline by its declaration, and no cell; or it is not inline by its name
  abbrev pub is_named : Var → Bool
  is_named v =
      if is_inline_int (known_of v)
      then is_none (ref_of v).cell
      else not (is_inline_var names v)

  abbrev pub named_step : Beside Bool Bool → Bool
  named_step (Expr-F.Num n at) = true
  named_step (Expr-F.Expr::Bool b at) = true
  named_step (Expr-F.Var v) = is_named v.0
  named_step (Expr-F.Cell v i) = not (is_inline_var names v.0) && i.1
  named_step (Expr-F.Load a) = a.1
  named_step (Expr-F.Neg a at) = a.1
  named_step (Expr-F.Not a at) = a.1
  named_step (Expr-F.Cast z s a at) = a.1
  named_step (Expr-F.Bin o a b at) = a.1 && b.1

  abbrev pub has_named : Expr → Bool
  has_named =
      para-Expr Bool (Unit {0}) Bool (Unit {0}) (Unit {0}) named_step (λ t. tt) (λ a. a.at.1)
      (λ d. tt) (λ v. tt)

  abbrev pub access_named : Access → Bool
  access_named =
      para-Access Bool (Unit {0}) Bool (Unit {0}) (Unit {0}) named_step (λ t. tt) (λ a. a.at.1)
      (λ d. tt) (λ v. tt)

-- a variable of no copy
abbrev pub of_text : Ref → Bool
of_text r = nat_eq r.copy 0

abbrev pub any_array : Ref → Bool
any_array r = true

abbrev pub is_text : Expr → Bool
is_text = is_over of_text any_array

abbrev pub is_access_text : Access → Bool
is_access_text = is_access_over of_text any_array

-- ---- laws

-- nothing is told of it, where it stands
abbrev pub AskedLaw : Type 0
AskedLaw =
    (names : InlineNames) (e : KnownNumbers) (x : Expr) (place : Option Span)
    → has_named names x ≡ true → (told e x).widths place ≡ [] → has_values names e x ≡ true

-- the same of a copy
abbrev pub CopiedLaw : Type 0
CopiedLaw =
    (names : InlineNames) (m : Names) (e k : KnownNumbers) (x : Expr) (place : Option Span)
    → ((n : List ℕ) → k (m n).0 (m n).1 ≡ e n 0) → is_text x ≡ true
    → has_named names (expr_in m x) ≡ true → (told e x).widths place ≡ []
    → has_values names k (expr_in m x) ≡ true
