-- What is seen of operands one after another.
use Rattle.std.proofs.Common.{◌≡◌, List, [], ◌∷◌, ◌++◌, refl, sym, ap, ◌∙◌, append_assoc}
use Rattle.jz_operations.specs.declared.rows.Input.{Input}
use Rattle.jz_operations.specs.declared.rows.Input.TheVariants.{Word, Sum}
use Rattle.jz_operations.specs.Rows.{Output}
use Rattle.jz_operations.specs.Reading.{read_by, reads_in, found_by, found_in, is_var, written_in, left_at, left_in, arg_need, input_needs, output_needs}

pub reads_in-append : (xs ys : List Input) → reads_in (xs ++ ys) ≡ reads_in xs ++ reads_in ys
reads_in-append [] ys = refl
reads_in-append (x ∷ xs) ys = ap (λ l. read_by x ++ l) (reads_in-append xs ys) ∙ sym (append_assoc (read_by x) (reads_in xs) (reads_in ys))

pub found_in-append : (xs ys : List Output) → found_in (xs ++ ys) ≡ found_in xs ++ found_in ys
found_in-append [] ys = refl
found_in-append (x ∷ xs) ys = ap (λ l. found_by x.1 ++ l) (found_in-append xs ys) ∙ sym (append_assoc (found_by x.1) (found_in xs) (found_in ys))

pub written_in-append : (xs ys : List Output) → written_in (xs ++ ys) ≡ written_in xs ++ written_in ys
written_in-append [] ys = refl
written_in-append (x ∷ xs) ys = ap (λ l. is_var x.1 ++ l) (written_in-append xs ys) ∙ sym (append_assoc (is_var x.1) (written_in xs) (written_in ys))

pub left_in-append : (xs ys : List Output) → left_in (xs ++ ys) ≡ left_in xs ++ left_in ys
left_in-append [] ys = refl
left_in-append (x ∷ xs) ys = ap (λ l. left_at x.1 ++ l) (left_in-append xs ys) ∙ sym (append_assoc (left_at x.1) (left_in xs) (left_in ys))

pub output_needs-append : (xs ys : List Output) → output_needs (xs ++ ys) ≡ output_needs xs ++ output_needs ys
output_needs-append [] ys = refl
output_needs-append (x ∷ xs) ys = ap (λ l. arg_need x.1 ++ l) (output_needs-append xs ys) ∙ sym (append_assoc (arg_need x.1) (output_needs xs) (output_needs ys))

pub input_needs-append : (xs ys : List Input) → input_needs (xs ++ ys) ≡ input_needs xs ++ input_needs ys
input_needs-append [] ys = refl
input_needs-append (Word s a ∷ xs) ys = ap (λ l. arg_need a ++ l) (input_needs-append xs ys) ∙ sym (append_assoc (arg_need a) (input_needs xs) (input_needs ys))
input_needs-append (Sum a ∷ xs) ys = input_needs-append xs ys

pub ruleset seen_lists = (reads_in-append, found_in-append, written_in-append, left_in-append, output_needs-append, input_needs-append)
