-- Each operation has its item.
use Rattle.std.proofs.Common.{◌≡◌, Bool, true, false, List, [], ◌∷◌, Some, None, sym, subst}
use Rattle.std.specs.Prelude.{not, ◌&&◌, if◌then◌else◌}
use Rattle.jz_io.specs.declared.span.Span.{Span}
use Rattle.jz_words.specs.declared.size.Size.{Size}
use Rattle.jz_tree.specs.declared.expr.Expr.{Expr}
use Rattle.jz_tree.specs.declared.stmt.Lval.{Lval}
use Rattle.jz_meaning.specs.Statements.{Operation}
use Rattle.jz_operations.specs.declared.operation.Arg.{Arg}
use Rattle.jz_operations.specs.declared.operation.Arg.TheVariants as arg
use Rattle.jz_operations.specs.declared.operation.Action.{Action}
use Rattle.jz_operations.specs.declared.operation.Action.TheVariants as action
use Rattle.jz_operations.specs.declared.operation.Flags.{Flags}
use Rattle.jz_operations.specs.declared.operation.Operation.{Operation as Made}
use Rattle.jz_operations.proofs.Somes.{same_some}
use Rattle.jz_change.specs.declared.change.Number.{Number}
use Rattle.jz_change.specs.declared.change.Numbers.{Numbers}
use Rattle.jz_pass.specs.Cases.{AsMany, none_each, one_each}
use Rattle.jz_homes.specs.Homes.{Homes}
use Rattle.jz_homes.specs.Operands.{count_of}
use Rattle.jz_row_operations.specs.Codes.{no_flag, lasting}
use Rattle.jz_row_operations.specs.Rows.{commutes, alu_of, carry_alu, shift_of}
use Rattle.jz_row_operations.specs.Table.{same_arg, is_imm, is_free, brought, behind, nothing}
use Rattle.jz_row_operations.specs.Lowering.{numbers_from, both_shown, HasRow, moves, sums, carries, signs, times, times_by, shifts, shifts_by, extends, lowest, Lowers, sets, sets_if}

way_many : (s1 s2 s3 : Bool) (f : Arg → Action) (z : Size) (b x y : Arg) (acts : List Action) (at : Span) (fl : Flags) (xs ys : List Number)
    → behind f (if s1 then Some ([], y) else if s2 then Some ([], x) else if s3 then Some (action.Mov z b x ∷ [], y) else None) ≡ Some acts → AsMany (lasting at fl acts) (both_shown s1 s2 xs ys)
way_many true s2 s3 f z b x y acts at fl xs ys e = subst (λ l. AsMany (lasting at fl l) (both_shown true s2 xs ys)) (same_some _ acts e) (one_each none_each)
way_many false true s3 f z b x y acts at fl xs ys e = subst (λ l. AsMany (lasting at fl l) (both_shown false true xs ys)) (same_some _ acts e) (one_each none_each)
way_many false false true f z b x y acts at fl xs ys e = subst (λ l. AsMany (lasting at fl l) (both_shown false false xs ys)) (same_some _ acts e) (one_each (one_each none_each))
way_many false false false f z b x y acts at fl xs ys e = absurd cc

pub brought_many : (swaps : Bool) (f : Arg → Action) (z : Size) (b x y : Arg) (acts : List Action) (at : Span) (fl : Flags) (xs ys : List Number) → behind f (brought swaps z b x y) ≡ Some acts → AsMany (lasting at fl acts) (both_shown (same_arg b x) (swaps && same_arg b y) xs ys)
brought_many swaps f z b x y acts at fl xs ys e = way_many (same_arg b x) (swaps && same_arg b y) (is_free b y) f z b x y acts at fl xs ys e

pub row_many : {home : Homes} {z : Size} {d : Lval} {e : Expr} {acts : List Action} {items : List Numbers} (at : Span) (fl : Flags) → HasRow home z d e acts items → AsMany (lasting at fl acts) items
row_many at fl (moves ia id) = one_each none_each
row_many {z = z} at fl (sums {o} {x = x} {y = y} {b = b} {p = p} {q = q} {acts = acts} there h ia ic id nn e) = brought_many (commutes o) (λ u. action.Alu (alu_of o) z b u None) z b x y acts at fl (numbers_from p 0) (numbers_from q (count_of p)) e
row_many {z = z} at fl (carries {o} {x = x} {y = y} {b = b} {p = p} {q = q} {acts = acts} f c inner there h ia ic id nn isf span e) =
    brought_many (commutes o) (λ u. action.Alu (carry_alu o) z b u (Some c)) z b x y acts at fl (numbers_from p 0) (numbers_from q (count_of p)) e
row_many {z = z} at fl (signs {o} {x = x} {b = b} {p = p} {acts = acts} sign ia id ni e) = brought_many false (λ u. action.One o z b) z b x nothing acts at fl (numbers_from p 0) [] e
row_many {z = z} at fl (times {x = x} {y = y} {m = m} {p = p} {q = q} {acts = acts} there wide ia ic id ni e) = brought_many (not (is_imm x)) (action.Imul z m) z (arg.Var m) x y acts at fl (numbers_from p 0) (numbers_from q (count_of p)) e
row_many at fl (times_by there wide ia ic id ni) = one_each none_each
row_many {z = z} at fl (shifts {o} {x = x} {b = b} {p = p} {acts = acts} n there where' h below ia id ni e) = brought_many false (λ u. action.Shift (shift_of o) z b n) z b x nothing acts at fl (numbers_from p 0) [] e
row_many {z = z} at fl (shifts_by {o} {x = x} {b = b} {p = p} {acts = acts} v c where' inner there h isv span ia id e) = brought_many false (λ u. action.ShiftBy (shift_of o) z b c) z b x (arg.Var c.variable) acts at fl (numbers_from p 0) [] e
row_many at fl (extends sign there own smaller ia ni id) = one_each none_each
row_many at fl (lowest there own le ia id) = one_each none_each

pub lowers_many : (home : Homes) (o : Operation) (os : List Made) (items : List Numbers) → Lowers home o os items → AsMany os items
lowers_many home o os items (sets {at = at} whole size row once) = row_many at no_flag row
lowers_many home o os items (sets_if z wide kind' h ie ni cmp can) = one_each (one_each none_each)
