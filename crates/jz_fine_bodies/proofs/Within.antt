-- What the limits give of the operands of an instruction.
use Rattle.std.proofs.Common.{◌≡◌, ◌<◌, ℕ, ℤ, pos, negsuc, Bool, true, false, ◌&&◌, List, [], ◌∷◌, ◌++◌, Option, Some, None, refl, sym, ap, ◌∙◌, subst, if◌then◌else◌, arith}
use Rattle.std.proofs.lemmas.Int.{ints}
use Rattle.std.specs.Prelude.{int_le, int_lt}
use Rattle.std.proofs.lemmas.Bool.{false≢true, and_parts}
use Rattle.x64_insn.specs.Size.{Size}
use Rattle.x64_insn.specs.Sizes.{bits_of}
use Rattle.jz_tree.specs.Span.{Span}
use Rattle.jz_tree.specs.Spellings.{spelled}
use Rattle.jz_tree.specs.declared.expr.Expr.{Expr}
use Rattle.jz_tree.specs.declared.expr.Expr.TheOpen.{Expr-F}
use Rattle.jz_tree.specs.declared.expr.Expr.TheViews.{out-Expr, roll-Expr, roll-out-Expr}
use Rattle.jz_tree.specs.declared.expr.Expr.TheFolds.{fold-roll-Expr}
use Rattle.jz_tree.specs.declared.stmt.Lval.{Lval}
use Rattle.jz_tree.specs.declared.intrinsic.Intrinsic.{Intrinsic}
use Rattle.jz_tree.specs.declared.intrinsic.Intrinsic.TheVariants as name
use Rattle.jz_tree.specs.declared.intrinsic.Instance.{Instance}
use Rattle.jz_integers.specs.declared.constant.Constant.{Constant}
use Rattle.jz_integers.specs.declared.constant.Constant.TheVariants as constant
use Rattle.jz_integers.specs.Integers.{value_step, inline_value, the_number}
use Rattle.jz_type_names.specs.Kinds.{is_inline}
use Rattle.jz_type_names.specs.Parts.{span_of}
use Rattle.jz_judgement.specs.HasType.{Layer}
use Rattle.jz_meaning.specs.Statements.{instruction}
use Rattle.jz_unroll.proofs.InlineParts.{inline_layer, inline_out}
use Rattle.jz_limits.specs.declared.limit.Limit.{Limit}
use Rattle.jz_limits.specs.Values.{no_numbers}
use Rattle.jz_limits.specs.Asked.{unless, is_count, bad_count, counted, told, roles_by, roles_of, size_by, Parts, left_parts, operand_parts, beside, in_kinds, asked}
use Rattle.jz_terms.specs.Terms.{num, term_of}
use Rattle.jz_terms.proofs.Bridge.{term_layer}
use Rattle.jz_fine_results.specs.Instructed.{with_count, form_of}
use Rattle.jz_fine_rows.proofs.Layers.{term_out}
use Rattle.jz_fine_results.specs.Fitting.{NumberFits, OperandsFit, InstructionFits}

abbrev constant_of : Expr → Option Constant
constant_of e = inline_value no_numbers e

number_value : (i : ℤ) (at : Span) → constant_of (roll-Expr (Expr-F.Num i at)) ≡ Some (constant.Int i)
number_value i at = fold-roll-Expr _ _ _ _ _ value_step (λ t. tt) (λ a. tt) (λ d. tt) (λ v. None) (Expr-F.Num i at)

-- ---- counts
count_fits : (z : Size) (i : ℤ) (at : Span) → is_count (Some z) (Some i) ≡ true → NumberFits z (num i at)
count_fits z (pos n) at h = below n (bits_of z) (and_parts (int_le (pos 0) (pos n)) (int_lt (pos n) (pos (bits_of z))) h).1
  where
    below : (n m : ℕ) → int_lt (pos n) (pos m) ≡ true → n < m
    below n m h = grind (arith, ints)
count_fits z (negsuc n) at h = absurd (false≢true h)

unless_none : (b : Bool) (l : Limit) → unless b l ≡ [] → b ≡ true
unless_none true l h = refl
unless_none false l h = absurd cc

number_counted : (z : Size) (e : Expr) (i : ℤ) (at : Span) (parts : List Limit) → out-Expr e ≡ Expr-F.Num i at → counted no_numbers (Some z) e parts ≡ [] → NumberFits z (num i at)
number_counted z e i at parts s h =
    let b : is_inline e ≡ true = inline_out e ∙ ap inline_layer s in
    let q = sym (ap (λ b. if b then bad_count (Some z) (constant_of e) (span_of e) else parts) b) ∙ h in
    let v : the_number (constant_of e) ≡ Some i = ap (λ x. the_number (constant_of x)) (sym (roll-out-Expr e) ∙ ap roll-Expr s) ∙ ap the_number (number_value i at) in
    count_fits z i at (sym (ap (is_count (Some z)) v) ∙ unless_none (is_count (Some z) (the_number (constant_of e))) _ q)

number_fits : (z : Size) (e : Expr) (parts : List Limit) → counted no_numbers (Some z) e parts ≡ [] → NumberFits z (term_of e)
number_fits z e parts h = subst (NumberFits z) (sym (term_out e)) (by_form (out-Expr e) refl)
  where
    by_form : (l : Layer) → out-Expr e ≡ l → NumberFits z (term_layer l)
    by_form (Expr-F.Num i at) s = number_counted z e i at parts s h
    by_form (Expr-F.Expr::Bool b at) s = tt
    by_form (Expr-F.Var v) s = tt
    by_form (Expr-F.Cell v i) s = tt
    by_form (Expr-F.Load a) s = tt
    by_form (Expr-F.Neg a at) s = tt
    by_form (Expr-F.Not a at) s = tt
    by_form (Expr-F.Cast y g a at) s = tt
    by_form (Expr-F.Bin o a b at) s = tt

-- ---- lists
first_none : {A : Type 0} (xs ys : List A) → xs ++ ys ≡ [] → xs ≡ []
first_none [] ys h = refl
first_none (x ∷ xs) ys h = absurd cc

later_none : {A : Type 0} (xs ys : List A) → xs ++ ys ≡ [] → ys ≡ []
later_none [] ys h = h
later_none (x ∷ xs) ys h = absurd cc

fields_none : (p q : Parts) → in_kinds (beside p q) ≡ [] → q.fields ≡ []
fields_none p q h =
    let k = later_none (p.widths ++ q.widths) ((p.ranges ++ q.ranges) ++ (p.fields ++ q.fields)) h in
    later_none p.fields q.fields (later_none (p.ranges ++ q.ranges) (p.fields ++ q.fields) k)

-- ---- the operands of an instruction
abbrev FieldsNone : Intrinsic → Size → List Expr → Type 0
FieldsNone n z args = (operand_parts no_numbers (roles_by n) (Some z) args).fields ≡ []

shift_fits : (z : Size) (args : List Expr) → FieldsNone name.Shl z args → OperandsFit with_count z args
shift_fits z [] h = tt
shift_fits z (a ∷ []) h = tt
shift_fits z (a ∷ n ∷ []) h =
    let count = counted no_numbers (Some z) n ((told no_numbers n).operands (Some z)) in
    number_fits z n ((told no_numbers n).operands (Some z)) (first_none count [] (later_none ((told no_numbers a).operands (Some z)) (count ++ []) h))
shift_fits z (a ∷ n ∷ b ∷ args) h = tt

fits_by : (n : Intrinsic) (z : Size) (args : List Expr) → FieldsNone n z args → OperandsFit (form_of n) z args
fits_by name.Shl z args h = shift_fits z args h
fits_by name.Shr z args h = shift_fits z args h
fits_by name.Sar z args h = shift_fits z args h
fits_by name.Rol z args h = shift_fits z args h
fits_by name.Ror z args h = shift_fits z args h
fits_by n z args h = tt

named_fits : (x : Option Instance) (to : List Lval) (args : List Expr) → (operand_parts no_numbers (roles_of x) (size_by x to args) args).fields ≡ [] → InstructionFits x to args
named_fits None to args h = tt
named_fits (Some i) to args h = λ z e. fits_by i.name z args (subst (λ o. (operand_parts no_numbers (roles_by i.name) o args).fields ≡ []) e h)

pub instruction_fits : (to : List Lval) (n : List ℕ) (args : List Expr) (at : Span) → asked no_numbers (instruction to n args at) ≡ [] → InstructionFits (spelled n) to args
instruction_fits to n args at h =
    named_fits (spelled n) to args (fields_none (left_parts no_numbers to) (operand_parts no_numbers (roles_of (spelled n)) (size_by (spelled n) to args) args) h)
