-- Two lists in step: what each pair gives, one after another, and where the next pair begins.
use Rattle.std.proofs.Common.{◌≡◌, ℕ, ◌+◌, ◌<◌, ◌≤◌, List, [], ◌∷◌, ◌++◌, length, get_or, drop, Bool, true, false, Some, None, refl, sym, ap, ◌∙◌, append_assoc, append-nil}
use Rattle.std.specs.Prelude.{if◌then◌else◌, not, slice_get}
use Rattle.jz_tree.specs.Span.{Span}
use Rattle.jz_tree.specs.declared.expr.Expr.{Expr}
use Rattle.jz_tree.specs.declared.expr.Expr.TheVariants as expr
use Rattle.jz_tree.specs.declared.expr.Var.{Var}
use Rattle.jz_tree.specs.declared.stmt.Lval.{Lval}
use Rattle.jz_tree.specs.declared.stmt.Lval.TheVariants as lval
use Rattle.jz_tree.specs.declared.stmt.Stmt.{Stmt}
use Rattle.jz_tree.specs.declared.program.Param.{Param}
use Rattle.jz_meaning.specs.Values.{ref_of}
use Rattle.jz_change.specs.declared.change.Numbers.{Numbers}
use Rattle.jz_change.specs.declared.change.Numbers.TheVariants.{These}
use Rattle.jz_inline.specs.BodiesCalls.{is_array}
use Rattle.jz_inline.specs.Names.{Names, var_in, expr_in, lval_in}
use Rattle.jz_inline.specs.Widths.{width, left_width}
use Rattle.jz_inline.specs.Calls as calls
use Rattle.jz_inline.specs.Calls.{from, argument_items, result_items}
use Rattle.jz_inline.specs.Statements.{set_statement, argument_statements, result_statement, result_statements}
use Rattle.jz_inline.proofs.Passed.{at_item, at_got, at_end, at_none}
use Rattle.jz_inlining.specs.InnerCopies.{one_argument, one_result}
use Rattle.jz_inlining.specs.InnerItems.{argument_item, behind_argument, result_item, behind_result}

-- what is given of two lists from a number on: that of the first pair, and then of the others
pub record GoesOn {A B C : Type 0} (F : ℕ → List A → List B → List C) (one : ℕ → A → B → List C) (next : ℕ → A → B → ℕ) : Type 0 where
  pub pair : (n : ℕ) (x : A) (y : B) (xs : List A) (ys : List B) → F n (x ∷ xs) (y ∷ ys) ≡ one n x y ++ F (next n x y) xs ys
  pub no_first : (n : ℕ) (ys : List B) → F n [] ys ≡ []
  pub no_second : (n : ℕ) (xs : List A) → F n xs [] ≡ []

module _ {A B C : Type 0} (F : ℕ → List A → List B → List C) (one : ℕ → A → B → List C) (next : ℕ → A → B → ℕ) (law : GoesOn F one next) (xs : List A) (ys : List B) (i n : ℕ) (out whole : List C)
    (left : out ++ F n (drop i xs) (drop i ys) ≡ whole) where
  pub goes_on : (x : A) (y : B) (out2 : List C) (m : ℕ) → i < length xs → x ≡ get_or xs i x → slice_get ys i ≡ Some y → out2 ≡ out ++ one n x y → m ≡ next n x y → out2 ++ F m (drop (i + 1) xs) (drop (i + 1) ys) ≡ whole
  goes_on x y out2 m there is got e k =
      let us = drop (i + 1) xs in let vs = drop (i + 1) ys in
      ap (λ l. l ++ F m us vs) e
      ∙ ap (λ j. (out ++ one n x y) ++ F j us vs) k
      ∙ append_assoc out (one n x y) (F (next n x y) us vs)
      ∙ ap (λ l. out ++ l) (sym (law.pair n x y us vs))
      ∙ ap (λ l. out ++ F n l (y ∷ vs)) (sym (at_item xs i x there is))
      ∙ ap (λ l. out ++ F n (drop i xs) l) (sym (at_got ys i y got))
      ∙ left

  pub first_ends : length xs ≤ i → out ≡ whole
  first_ends past =
      sym (append-nil out) ∙ ap (λ l. out ++ l) (sym (law.no_first n (drop i ys))) ∙ ap (λ l. out ++ F n l (drop i ys)) (sym (at_end xs i past)) ∙ left

  pub second_ends : slice_get ys i ≡ None → out ≡ whole
  second_ends none =
      sym (append-nil out) ∙ ap (λ l. out ++ l) (sym (law.no_second n (drop i xs))) ∙ ap (λ l. out ++ F n (drop i xs) l) (sym (at_none ys i none)) ∙ left

-- ---- statements

either : {A : Type 0} (b : Bool) (x : A) (l : List A) → (if b then l else (x ∷ l)) ≡ (if b then [] else (x ∷ [])) ++ l
either true x l = refl
either false x l = refl

either_not : {A : Type 0} (b : Bool) (x : A) (l : List A) → (if b then l else (x ∷ l)) ≡ (if not b then x ∷ [] else []) ++ l
either_not true x l = refl
either_not false x l = refl

module _ (outer inner : Names) (at : Span) where
  abbrev pub arguments_from : ℕ → List Param → List Expr → List Stmt
  arguments_from n ps es = argument_statements outer inner at ps es

  argument_pair : (p : Param) (e : Expr) (ps : List Param) (es : List Expr) → argument_statements outer inner at (p ∷ ps) (e ∷ es) ≡ one_argument outer inner at p e ++ argument_statements outer inner at ps es
  argument_pair p e ps es = either (is_array (ref_of p.var).kind) (set_statement at (lval.Var (var_in inner p.var)) (expr_in outer e)) (argument_statements outer inner at ps es)

  no_arguments : (ps : List Param) → argument_statements outer inner at ps [] ≡ []
  no_arguments [] = refl
  no_arguments (p ∷ ps) = refl

  pub arguments_go : GoesOn arguments_from (λ n p e. one_argument outer inner at p e) (λ n p e. n)
  arguments_go = record { pair = λ n p e ps es. argument_pair p e ps es; no_first = λ n es. refl; no_second = λ n ps. no_arguments ps }

  result_pair : (d : Lval) (x : Var) (rest : List Stmt) → result_statement outer inner at d x rest ≡ one_result outer inner at d x ++ rest
  result_pair (lval.Skip s) x rest = refl
  result_pair (lval.Var v) x rest = either_not (is_array (ref_of x).kind) (set_statement at (lval_in outer (lval.Var v)) (expr.Var (var_in inner x))) rest
  result_pair (lval.Cell v i) x rest = either_not (is_array (ref_of x).kind) (set_statement at (lval_in outer (lval.Cell v i)) (expr.Var (var_in inner x))) rest
  result_pair (lval.Store a) x rest = either_not (is_array (ref_of x).kind) (set_statement at (lval_in outer (lval.Store a)) (expr.Var (var_in inner x))) rest

  abbrev pub results_from : ℕ → List Lval → List Var → List Stmt
  results_from n ds xs = result_statements outer inner at ds xs

  no_results : (ds : List Lval) → result_statements outer inner at ds [] ≡ []
  no_results [] = refl
  no_results (d ∷ ds) = refl

  pub results_go : GoesOn results_from (λ n d x. one_result outer inner at d x) (λ n d x. n)
  results_go = record { pair = λ n d x ds xs. result_pair d x (result_statements outer inner at ds xs); no_first = λ n xs. refl; no_second = λ n ds. no_results ds }

-- ---- numbers

by_array : (b : Bool) (i w : ℕ) (ps : List Param) (es : List Expr)
    → (if b then argument_items i ps es else (These (from i w) ∷ argument_items (i + w) ps es)) ≡ (if b then [] else (These (from i w) ∷ [])) ++ argument_items (if b then i else i + w) ps es
by_array true i w ps es = refl
by_array false i w ps es = refl

no_argument_items : (n : ℕ) (ps : List Param) → argument_items n ps [] ≡ []
no_argument_items n [] = refl
no_argument_items n (p ∷ ps) = refl

pub argument_items_go : GoesOn argument_items argument_item behind_argument
argument_items_go = record { pair = λ n p e ps es. by_array (is_array (ref_of p.var).kind) n (width e) ps es; no_first = λ n es. refl; no_second = no_argument_items }

by_copied : (b : Bool) (i w : ℕ) (rest : ℕ → List Numbers) → (if b then rest i else (These (from i w) ∷ rest (i + w))) ≡ (if not b then These (from i w) ∷ [] else []) ++ rest (if not b then i + w else i)
by_copied true i w rest = refl
by_copied false i w rest = refl

item_pair : (i : ℕ) (d : Lval) (x : Var) (rest : ℕ → List Numbers) → calls.result_item i d x rest ≡ result_item i d x ++ rest (behind_result i d x)
item_pair i (lval.Skip s) x rest = refl
item_pair i (lval.Var v) x rest = by_copied (is_array (ref_of x).kind) i (left_width (lval.Var v)) rest
item_pair i (lval.Cell v e) x rest = by_copied (is_array (ref_of x).kind) i (left_width (lval.Cell v e)) rest
item_pair i (lval.Store a) x rest = by_copied (is_array (ref_of x).kind) i (left_width (lval.Store a)) rest

no_result_items : (n : ℕ) (ds : List Lval) → result_items n ds [] ≡ []
no_result_items n [] = refl
no_result_items n (d ∷ ds) = refl

pub result_items_go : GoesOn result_items result_item behind_result
result_items_go = record { pair = λ n d x ds xs. item_pair n d x (λ j. result_items j ds xs); no_first = λ n xs. refl; no_second = no_result_items }
