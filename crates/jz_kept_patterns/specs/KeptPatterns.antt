-- A statement that has a row of the pattern table whichever way comparisons of indexes go has one
-- behind each pass of the expansion.
use Rattle.std.specs.Prelude.{◌≡◌, ℕ, Bool, true, false, List, map, All, Option, None, option_map}
use Rattle.jz_tree.specs.Span.{Span}
use Rattle.jz_tree.specs.declared.expr.BinOp.{BinOp}
use Rattle.jz_tree.specs.declared.expr.Expr.{Expr}
use Rattle.jz_tree.specs.declared.expr.Var.{Var}
use Rattle.jz_tree.specs.declared.stmt.Lval.{Lval}
use Rattle.jz_tree.specs.declared.stmt.Lval.TheVariants as lval
use Rattle.jz_integers.specs.Integers.{KnownNumbers}
use Rattle.jz_type_names.specs.Kinds.{Known, known_of, is_register_array}
use Rattle.jz_select.specs.Trees.{Named, named_variable, tree_of}
use Rattle.jz_meaning.specs.declared.access.Kind.{Kind}
use Rattle.jz_meaning.specs.Values.{ref_of}
use Rattle.jz_unroll.specs.Values.{InlineNames, with_values, left_with_values, has_values, left_has_values}
use Rattle.jz_arrays.specs.Cells.{with_scalars, left_with_scalars}
use Rattle.jz_inline.specs.Names.{Names, expr_in, lval_in}
use Rattle.jz_copied_variables.specs.Variables.{IsOver, LeftOver}
use Rattle.jz_meetings.specs.Meetings.{place_of}
use Rattle.jz_meetings.specs.Turns.{IsNumeral, OverTree}
use Rattle.jz_meetings.specs.KeptMeetings.{IsSetPlace}
use Rattle.jz_kept_patterns.specs.Matched.{IsMatched, IsPairMatched, IsInstructionMatched}
use Rattle.jz_kept_patterns.specs.Passes.{name_in, renaming}

-- ---- copies
abbrev pub no_registers : Named → Bool
no_registers = λ v. false

-- where the names of what is read become the destination's only if they are it
abbrev pub CopiesKeepPatterns : Type 0
CopiesKeepPatterns =
    (names : Names) (read : Named → Bool) (d : Lval) (o : Option BinOp) (e : Expr)
    (c : Option Expr)
    → IsSetPlace (renaming (name_in names)) (λ v. read v ≡ true) no_registers (place_of d)
    → OverTree (λ v. read v ≡ true) no_registers (tree_of e) → IsMatched d o e c
    → IsMatched (lval_in names d) o (expr_in names e) (option_map (expr_in names) c)

-- of two left sides the last one is the destination
abbrev pub CopiesKeepPairs : Type 0
CopiesKeepPairs =
    (names : Names) (read : Named → Bool) (f d : Lval) (o : Option BinOp) (e : Expr)
    → IsSetPlace (renaming (name_in names)) (λ v. read v ≡ true) no_registers (place_of d)
    → OverTree (λ v. read v ≡ true) no_registers (tree_of e) → IsPairMatched f d o e
    → IsPairMatched (lval_in names f) (lval_in names d) o (expr_in names e)

-- an intrinsic: each left side is set
abbrev pub CopiesKeepInstructions : Type 0
CopiesKeepInstructions =
    (names : Names) (read : Named → Bool) (to : List Lval) (n : List ℕ) (args : List Expr) (at : Span)
    → All (λ d. IsSetPlace (renaming (name_in names)) (λ v. read v ≡ true) no_registers (place_of d)) to
    → All (λ x. OverTree (λ v. read v ≡ true) no_registers (tree_of x)) args
    → IsInstructionMatched to n args at
    → IsInstructionMatched (map (lval_in names) to) n (map (expr_in names) args) at

-- ---- values, and words of cells
-- P of each variable; it is no cell, and declared as its name says
pub record AreTold (P : Var → Type 0) (known : Named → Known) : Type 0 where
  pub entire : (v : Var) → P v → (named_variable v).cell ≡ None
  pub stored : (v : Var) → P v → known (named_variable v) ≡ known_of v

abbrev pub ValuesKeepPatterns : Type 0
ValuesKeepPatterns =
    (names : InlineNames) (k : KnownNumbers) (used : Var → Bool) (known : Named → Known)
    (d : Lval) (o : Option BinOp) (e : Expr) (c : Option Expr)
    → AreTold (λ v. used v ≡ true) known → LeftOver (λ v. used v ≡ true) d
    → IsOver (λ v. used v ≡ true) e → left_has_values names k d ≡ true
    → has_values names k e ≡ true → IsMatched d o e c
    → IsMatched (left_with_values k d) o (with_values k e) (option_map (with_values k) c)

abbrev pub ValuesKeepPairs : Type 0
ValuesKeepPairs =
    (names : InlineNames) (k : KnownNumbers) (used : Var → Bool) (known : Named → Known)
    (f d : Lval) (o : Option BinOp) (e : Expr)
    → AreTold (λ v. used v ≡ true) known → LeftOver (λ v. used v ≡ true) d
    → IsOver (λ v. used v ≡ true) e → left_has_values names k d ≡ true
    → has_values names k e ≡ true → IsPairMatched f d o e
    → IsPairMatched (left_with_values k f) (left_with_values k d) o (with_values k e)

abbrev pub ValuesKeepInstructions : Type 0
ValuesKeepInstructions =
    (names : InlineNames) (k : KnownNumbers) (used : Var → Bool) (known : Named → Known)
    (to : List Lval) (n : List ℕ) (args : List Expr) (at : Span)
    → AreTold (λ v. used v ≡ true) known
    → All (λ d. LeftOver (λ v. used v ≡ true) d × (left_has_values names k d ≡ true)) to
    → All (λ x. IsOver (λ v. used v ≡ true) x × (has_values names k x ≡ true)) args
    → IsInstructionMatched to n args at
    → IsInstructionMatched (map (left_with_values k) to) n (map (with_values k) args) at

-- arrays in registers stand before numbers
abbrev pub LeftNumbered : (Named → Bool) → Lval → Type 0
LeftNumbered registers (lval.Cell v i) =
    registers (named_variable v) ≡ true → IsNumeral (tree_of i)
LeftNumbered registers d = Unit {0}

abbrev pub Whatever : Named → Type 0
Whatever v = Unit {0}

abbrev pub AreKinds : (Var → Type 0) → (Named → Kind) → Type 0
AreKinds P kind = (v : Var) → P v → kind (named_variable v) ≡ (ref_of v).kind

abbrev pub ScalarsKeepPatterns : Type 0
ScalarsKeepPatterns =
    (used : Var → Bool) (known : Named → Known) (kind : Named → Kind) (d : Lval)
    (o : Option BinOp) (e : Expr) (c : Option Expr)
    → AreTold (λ v. used v ≡ true) known → AreKinds (λ v. used v ≡ true) kind
    → LeftOver (λ v. used v ≡ true) d → IsOver (λ v. used v ≡ true) e
    → LeftNumbered (λ v. is_register_array (known v)) d
    → OverTree Whatever (λ v. is_register_array (known v)) (tree_of e) → IsMatched d o e c
    → IsMatched (left_with_scalars d) o (with_scalars e) (option_map with_scalars c)

abbrev pub ScalarsKeepPairs : Type 0
ScalarsKeepPairs =
    (used : Var → Bool) (known : Named → Known) (kind : Named → Kind) (f d : Lval)
    (o : Option BinOp) (e : Expr)
    → AreTold (λ v. used v ≡ true) known → AreKinds (λ v. used v ≡ true) kind
    → LeftOver (λ v. used v ≡ true) d → IsOver (λ v. used v ≡ true) e
    → LeftNumbered (λ v. is_register_array (known v)) d
    → OverTree Whatever (λ v. is_register_array (known v)) (tree_of e) → IsPairMatched f d o e
    → IsPairMatched (left_with_scalars f) (left_with_scalars d) o (with_scalars e)

abbrev pub ScalarsKeepInstructions : Type 0
ScalarsKeepInstructions =
    (used : Var → Bool) (known : Named → Known) (kind : Named → Kind) (to : List Lval) (n : List ℕ)
    (args : List Expr) (at : Span)
    → AreTold (λ v. used v ≡ true) known → AreKinds (λ v. used v ≡ true) kind
    → All (λ d. LeftOver (λ v. used v ≡ true) d × LeftNumbered (λ v. is_register_array (known v)) d) to
    → All (λ x. IsOver (λ v. used v ≡ true) x × OverTree Whatever (λ v. is_register_array (known v)) (tree_of x)) args
    → IsInstructionMatched to n args at
    → IsInstructionMatched (map left_with_scalars to) n (map with_scalars args) at
