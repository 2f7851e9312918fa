-- Each statement has three operations at most.
use Rattle.std.proofs.Common.{◌≡◌, ℕ, suc, ◌+◌, ◌*◌, ◌≤◌, Bool, true, false, List, [], ◌∷◌, ◌++◌, length, Option, Some, None, refl, ap, subst, arith}
use Rattle.std.specs.Prelude.{not, ◌&&◌, if◌then◌else◌, option_to_list, ⊤}
use Rattle.jz_io.specs.declared.span.Span.{Span}
use Rattle.jz_words.specs.declared.size.Size.{Size}
use Rattle.x64_insn.specs.declared.types.One.TheVariants as one
use Rattle.x64_insn.specs.declared.types.Shift.{Shift}
use Rattle.x64_insn.specs.declared.types.Wide.TheVariants as wide
use Rattle.jz_tree.specs.declared.intrinsic.Intrinsic.{Intrinsic}
use Rattle.jz_tree.specs.declared.expr.Expr.{Expr}
use Rattle.jz_tree.specs.declared.stmt.Lval.{Lval}
use Rattle.jz_runs.specs.Trees.{done, choose}
use Rattle.jz_meaning.specs.Statements.{Block}
use Rattle.jz_meaning.specs.Statements as statements
use Rattle.jz_operations.specs.declared.operation.Pinned.{Pinned}
use Rattle.jz_operations.specs.declared.operation.Arg.{Arg}
use Rattle.jz_operations.specs.declared.operation.Arg.TheVariants as arg
use Rattle.jz_operations.specs.declared.operation.Action.{Action}
use Rattle.jz_operations.specs.declared.operation.Action.TheVariants as action
use Rattle.jz_operations.specs.declared.operation.Flags.{Flags}
use Rattle.jz_operations.specs.declared.operation.Operation.{Operation}
use Rattle.jz_operations.specs.Rows.{low_at}
use Rattle.jz_operations.proofs.Somes.{same_some}
use Rattle.jz_placing.specs.Variables.{Body}
use Rattle.jz_change.specs.Changes.{Change}
use Rattle.jz_change.specs.declared.change.Numbers.{Numbers}
use Rattle.jz_pass.specs.Operations.{in_turn}
use Rattle.jz_pass.specs.Unrolling.{Unrolls, u_done, u_op, u_quiet, u_if, u_arm, u_while, u_once, u_for}
use Rattle.jz_codable.specs.Ready.{parts_of}
use Rattle.jz_homes.specs.Homes.{Homes}
use Rattle.jz_row_operations.specs.Codes.{no_flag, lasting}
use Rattle.jz_row_operations.specs.Rows.{alu_of, commutes, carry_alu, shift_of}
use Rattle.jz_row_operations.specs.Table.{same_arg, is_imm, is_free, brought, behind, nothing}
use Rattle.jz_row_operations.specs.Lowering.{HasRow, moves, sums, carries, signs, times as times_row, times_by as times_by_row, shifts as shifts_row, shifts_by, extends, lowest, Lowers, sets, sets_if}
use Rattle.jz_flag_rows.specs.Results.{begins_at, carry_alone}
use Rattle.jz_flag_rows.specs.Wide.{is_pinned, is_apart, wide_code, quotient_code}
use Rattle.jz_flag_rows.specs.Instructions.{count_code, HasInstruction, two_operands, with_carry, minus, steps, complement, swap, address, compares, shifts, rotates, times, times_by, wide_product, division}
use Rattle.jz_flag_rows.specs.Rows.{LowersFlags, carry_results, wide_products, quotients, choices, instructions, sets as sets_byte}
use Rattle.jz_every_row.specs.Statements.{Makes, by_row, by_flags}
use Rattle.jz_every_row.specs.Bodies.{lowering, without_marks, IsLowered}
use Rattle.jz_meaning.specs.Lengths.{statements_in}

-- ---- rows
unfoldable Two : List Action → Type 0
Two acts = length acts ≤ 2

one_two : (a : Action) → Two (a ∷ [])
unfolding Two
one_two a = omega arith

both_two : (a b : Action) → Two (a ∷ b ∷ [])
unfolding Two
both_two a b = omega arith

way_two : (s1 s2 s3 : Bool) (f : Arg → Action) (z : Size) (b x y : Arg) (acts : List Action) → behind f (if s1 then Some ([], y) else if s2 then Some ([], x) else if s3 then Some (action.Mov z b x ∷ [], y) else None) ≡ Some acts → Two acts
way_two true s2 s3 f z b x y acts e = subst Two (same_some _ acts e) (one_two (f y))
way_two false true s3 f z b x y acts e = subst Two (same_some _ acts e) (one_two (f x))
way_two false false true f z b x y acts e = subst Two (same_some _ acts e) (both_two (action.Mov z b x) (f y))
way_two false false false f z b x y acts e = absurd cc

brought_two : (swaps : Bool) (f : Arg → Action) (z : Size) (b x y : Arg) (acts : List Action) → behind f (brought swaps z b x y) ≡ Some acts → Two acts
brought_two swaps f z b x y acts e = way_two (same_arg b x) (swaps && same_arg b y) (is_free b y) f z b x y acts e

row_two : {home : Homes} {z : Size} {d : Lval} {e : Expr} {acts : List Action} {items : List Numbers} → HasRow home z d e acts items → Two acts
row_two (moves ia id) = one_two _
row_two {z = z} (sums {o} {x = x} {y = y} {b = b} {acts = acts} there h ia ic id nn e) = brought_two (commutes o) (λ u. action.Alu (alu_of o) z b u None) z b x y acts e
row_two {z = z} (carries {o} {x = x} {y = y} {b = b} {acts = acts} f c inner there h ia ic id nn isf span e) = brought_two (commutes o) (λ u. action.Alu (carry_alu o) z b u (Some c)) z b x y acts e
row_two {z = z} (signs {o} {x = x} {b = b} {acts = acts} sign ia id ni e) = brought_two false (λ u. action.One o z b) z b x nothing acts e
row_two {z = z} (times_row {x = x} {y = y} {m = m} {acts = acts} there wide ia ic id ni e) = brought_two (not (is_imm x)) (action.Imul z m) z (arg.Var m) x y acts e
row_two (times_by_row there wide ia ic id ni) = one_two _
row_two {z = z} (shifts_row {o} {x = x} {b = b} {acts = acts} n there where' h below ia id ni e) = brought_two false (λ u. action.Shift (shift_of o) z b n) z b x nothing acts e
row_two {z = z} (shifts_by {o} {x = x} {b = b} {acts = acts} v c where' inner there h isv span ia id e) = brought_two false (λ u. action.ShiftBy (shift_of o) z b c) z b x (arg.Var c.variable) acts e
row_two (extends sign there own smaller ia ni id) = one_two _
row_two (lowest there own le ia id) = one_two _

-- ---- rows of flags, RAX, RDX and RCX
unfoldable Three : List Action → Type 0
Three acts = length acts ≤ 3

from_two : (acts : List Action) → Two acts → Three acts
unfolding Two Three
from_two acts h = omega (arith, h)

one_three : (a : Action) → Three (a ∷ [])
one_three a = from_two (a ∷ []) (one_two a)

all_three : (a b c : Action) → Three (a ∷ b ∷ c ∷ [])
unfolding Three
all_three a b c = omega arith

wide_two : (s1 s2 s3 : Bool) (one other : Action) (both : List Action) (acts : List Action) → Two both → (if s1 then Some (one ∷ []) else if s2 then Some (other ∷ []) else if s3 then Some both else None) ≡ Some acts → Two acts
wide_two true s2 s3 one other both acts h e = subst Two (same_some _ acts e) (one_two one)
wide_two false true s3 one other both acts h e = subst Two (same_some _ acts e) (one_two other)
wide_two false false true one other both acts h e = subst Two (same_some _ acts e) h
wide_two false false false one other both acts h e = absurd cc

product_two : (z : Size) (h l : Option Pinned) (a b : Arg) (acts : List Action) → wide_code z h l a b ≡ Some acts → Two acts
product_two z h l a b acts e =
    wide_two (is_pinned l a) (not (is_imm a) && is_pinned l b) (is_apart l b) (action.Wide wide.Mul z l h b) (action.Wide wide.Mul z l h a) (action.Mov z (low_at l) a ∷ action.Wide wide.Mul z l h b ∷ []) acts (both_two _ _) e

count_two : (kind : Shift) (z : Size) (d a : Arg) (n : Option Pinned) (m : ℕ) (acts : List Action) → count_code kind z d a n m ≡ Some acts → Two acts
count_two kind z d a None m acts e = brought_two false (λ u. action.Shift kind z d m) z d a nothing acts e
count_two kind z d a (Some k) m acts e = brought_two false (λ u. action.ShiftBy kind z d k) z d a (arg.Var k.variable) acts e

instruction_three : {home : Homes} {z : Size} {i : Intrinsic} {to : List Lval} {args : List Expr} {fl : Flags} {acts : List Action} {items : List Numbers} → HasInstruction home z i to args fl acts items → Three acts
instruction_three {z = z} (two_operands {k = k} {x = x} {y} {b} {acts = acts} is fs ia ic id e) = from_two acts (brought_two k.1 (λ u. action.Alu k.0 z b u None) z b x y acts e)
instruction_three {z = z} (with_carry {k = k} {x = x} {y} {b} {acts = acts} f c is fs ia ic id isf span e) = from_two acts (brought_two k.1 (λ u. action.Alu k.0 z b u (Some c)) z b x y acts e)
instruction_three {z = z} (minus {x = x} {b} {acts = acts} fs ia id e) = from_two acts (brought_two false (λ u. action.One one.Neg z b) z b x nothing acts e)
instruction_three {z = z} (steps {k = k} {x = x} {b} {acts = acts} is fs ia id e) = from_two acts (brought_two false (λ u. action.One k z b) z b x nothing acts e)
instruction_three {z = z} (complement {x = x} {b} {acts = acts} ia id e) = from_two acts (brought_two false (λ u. action.One one.Not z b) z b x nothing acts e)
instruction_three {z = z} (swap {x = x} {v} {acts = acts} long ia id e) = from_two acts (brought_two false (λ u. action.Bswap z v) z (arg.Var v) x nothing acts e)
instruction_three (address is at id) = one_three _
instruction_three (compares is fs ia ic ni na) = one_three _
instruction_three {z = z} (shifts {k = k} {x = x} {b} {n} {m} {acts = acts} is fs ia ic id e) = from_two acts (count_two k z b x n m acts e)
instruction_three {z = z} (rotates {k = k} {x = x} {b} {n} {m} {acts = acts} is fs ia ic id e) = from_two acts (count_two k z b x n m acts e)
instruction_three {z = z} (times {x = x} {y} {v} {acts = acts} w fs ia ic id ni e) = from_two acts (brought_two (not (is_imm x)) (action.Imul z v) z (arg.Var v) x y acts e)
instruction_three (times_by w fs ia ic id ni) = one_three _
instruction_three {z = z} (wide_product {hk = hk} {lk} {x = x} {y} {acts = acts} long fs ph pl ia ic ni e) = from_two acts (product_two z hk lk x y acts e)
instruction_three (division long fs pq pr ia ib ic ni qx qw rw') = all_three _ _ _

-- ---- statements
lasting_long : (at : Span) (fl : Flags) (acts : List Action) → length (lasting at fl acts) ≡ length acts
lasting_long at fl [] = refl
lasting_long at fl (a ∷ []) = refl
lasting_long at fl (a ∷ b ∷ more) = ap suc (lasting_long at fl (b ∷ more))

acts_three : (at : Span) (fl : Flags) (acts : List Action) → Three acts → length (lasting at fl acts) ≤ 3
unfolding Three
acts_three at fl acts h = let e = lasting_long at fl acts in omega (arith, e, h)

lowers_three : (home : Homes) (o : statements.Operation) (os : List Operation) (items : List Numbers) → Lowers home o os items → length os ≤ 3
lowers_three home o os items (sets {acts = acts} {at = at} whole size row can) = acts_three at no_flag acts (from_two acts (row_two row))
lowers_three home o os items (sets_if z wide kind' h ie ni cmp can) = omega arith

set_three : (compare : Option Operation) (o : Operation) → length (option_to_list compare ++ (o ∷ [])) ≤ 3
set_three None o = omega arith
set_three (Some c) o = omega arith

flags_three : (home : Homes) (o : statements.Operation) (os : List Operation) (items : List Numbers) → LowersFlags home o os items → length os ≤ 3
flags_three home o os items (carry_results {k = k} {acts} {at = at} whole sum size flag row can) = acts_three at (carry_alone k) acts (from_two acts (row_two row))
flags_three home o os items (wide_products {z = z} {hk} {lk} {x} {y} {acts = acts} {at = at} here whole size long ph pl ia ib ni code can) = acts_three at no_flag acts (from_two acts (product_two z hk lk x y acts code))
flags_three home o os items (quotients {o = op} {w} {z} {k} {x} {y} {at = at} here whole div size long pin ia ib ni apart can) = acts_three at no_flag (quotient_code op w z k x y) (all_three _ _ _)
flags_three home o os items (choices z wide kind' h ie ni flag can) = omega arith
flags_three home o os items (instructions {to = to} {fl = fl} {acts} {at = at} is size row can) = acts_three (begins_at to at) fl acts (instruction_three row)
flags_three home o os items (sets_byte {compare = compare} is name id cond can) = set_three compare _

makes_three : (home : Homes) (o : statements.Operation) (os : List Operation) (items : List Numbers) → Makes home o os items → length os ≤ 3
makes_three home o os items (by_row l) = lowers_three home o os items l
makes_three home o os items (by_flags l) = flags_three home o os items l

turn_long : (os : List Operation) (u : Body) → parts_of (without_marks (in_turn os u)) ≡ length os + parts_of (without_marks u)
turn_long [] u = omega arith
turn_long (o ∷ os) u = let h = turn_long os u in omega (arith, h)

no_turn_long : (os : List Operation) (u : Body) → os ≡ [] → parts_of (without_marks (in_turn os u)) ≡ parts_of (without_marks u)
no_turn_long os u e = ap (λ l. parts_of (without_marks (in_turn l u))) e

module _ (home : Homes) where
  bodies_thrice : {e e1 : ⊤} {b : Block} {rest u : Body} {k : Change} → Unrolls (lowering home) b e rest u e1 k → parts_of (without_marks u) ≤ 3 * statements_in b + parts_of (without_marks rest)
  bodies_thrice u_done = omega arith
  bodies_thrice (u_op {u = u} {os = os} l r) =
      let three = makes_three home _ os _ l in
      let long = turn_long os u in
      let h = bodies_thrice r in
      omega (arith, three, long, h)
  bodies_thrice (u_quiet l r) = bodies_thrice r
  bodies_thrice (u_if {u = u} {a2 = a2} {b2 = b2} {os = os} {p2 = p2} l x y ea eb r) =
      let long = no_turn_long os (choose p2 a2 b2 u) l.0 in
      let a = bodies_thrice x in
      let b = bodies_thrice y in
      let h = bodies_thrice r in
      omega (arith, long, a, b, h)
  bodies_thrice (u_arm c x r) = absurd c
  bodies_thrice (u_while {os = os} e0 l q b eb e3 r) =
      let none = no_turn_long os done l.0 in
      let p = bodies_thrice q in
      let t = bodies_thrice b in
      let h = bodies_thrice r in
      omega (arith, none, p, t, h)
  bodies_thrice (u_once q c r) = absurd c
  bodies_thrice (u_for v e r) = absurd v

pub thrice : (home : Homes) (b : Block) (u : Body) (k : Change) → IsLowered home b u k → parts_of u ≤ 3 * statements_in b
thrice home b u k h = let e = ap parts_of h.body in let t = bodies_thrice home h.made in omega (arith, e, t)
