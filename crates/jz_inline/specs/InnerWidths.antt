-- How the code counts the numbers that expressions leak.
use Rattle.std.specs.Prelude.{ℕ, ◌+◌, ◌&&◌, Bool, true, false, if◌then◌else◌, List, [], ◌∷◌}
use Rattle.jz_tree.specs.declared.expr.BinOp.{BinOp}
use Rattle.jz_tree.specs.Operators.{divides}
use Rattle.jz_meaning.specs.Values.{gives_word}
use Rattle.jz_meaning.specs.Shapes.{Sort, words, flags, integers, Shape}
use Rattle.jz_inline.specs.Widths.{capped}
use Rattle.jz_inline.specs.declared.leaked.Counted.{Counted}
use Rattle.jz_inline.specs.declared.leaked.Operand.{Operand}

abbrev pub is_whole : Sort → Bool
is_whole integers = true
is_whole words = false
is_whole flags = false

-- what the code knows of a shape
abbrev pub counted_of : Shape → Counted
counted_of s = record { whole = is_whole s.sort; count = capped s.count }

-- a division shows three numbers, but none where both operands are whole numbers
abbrev pub count_of_operation : BinOp → Bool → ℕ
count_of_operation op both = if divides op then (if both then 0 else 3) else 0

abbrev pub counted_operation : BinOp → Counted → Counted → Counted
counted_operation op a b =
    record {
      whole = gives_word op && (a.whole && b.whole);
      count = capped (a.count + capped (b.count + count_of_operation op (a.whole && b.whole)));
    }

-- operations on what stands first, the outermost of them at the head
abbrev pub counted_left : List Operand → Counted → Counted
counted_left [] c = c
counted_left (s ∷ ss) c = counted_operation s.op (counted_left ss c) s.right
