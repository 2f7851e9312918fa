-- The variables that operations of the table of flags name have kinds.
use Rattle.std.proofs.Common.{◌≡◌, ℕ, ◌<◌, Bool, true, false, List, [], length, Option, Some, None, refl, subst, pos}
use Rattle.std.specs.Prelude.{not, if◌then◌else◌, All}
use Rattle.std.proofs.lemmas.List.Elements.{All-nil, All-cons, All-head}
use Rattle.jz_words.specs.declared.size.Size.{Size}
use Rattle.jz_words.specs.declared.size.Size.TheVariants.{S8}
use Rattle.x64_insn.specs.declared.types.One.{One}
use Rattle.x64_insn.specs.declared.types.One.TheVariants as one
use Rattle.x64_insn.specs.declared.types.Reg.TheVariants as reg
use Rattle.x64_insn.specs.declared.types.Shift.{Shift}
use Rattle.x64_insn.specs.declared.types.Wide.{Wide}
use Rattle.x64_insn.specs.declared.types.Wide.TheVariants as wide_op
use Rattle.jz_tree.specs.declared.intrinsic.Intrinsic.{Intrinsic}
use Rattle.jz_tree.specs.declared.expr.BinOp.{BinOp}
use Rattle.jz_tree.specs.declared.expr.Expr.{Expr}
use Rattle.jz_tree.specs.declared.stmt.Lval.{Lval}
use Rattle.jz_meaning.specs.Values.{key_of, ref_of}
use Rattle.jz_ir.specs.declared.code.Kind.{Kind}
use Rattle.jz_operations.specs.declared.operation.Address.{Address}
use Rattle.jz_operations.specs.declared.operation.Pinned.{Pinned}
use Rattle.jz_operations.specs.declared.operation.Arg.{Arg}
use Rattle.jz_operations.specs.declared.operation.Arg.TheVariants as arg
use Rattle.jz_operations.specs.declared.operation.Action.{Action}
use Rattle.jz_operations.specs.declared.operation.Action.TheVariants as action
use Rattle.jz_operations.specs.declared.operation.Condition.TheVariants as condition
use Rattle.jz_operations.specs.declared.operation.Flags.{Flags}
use Rattle.jz_operations.specs.Rows.{low_at, high_at, flags_of}
use Rattle.jz_operations.specs.Reading.{address_vars, flag_read}
use Rattle.jz_change.specs.declared.change.Numbers.{Numbers}
use Rattle.jz_homes.specs.Homes.{Homes}
use Rattle.jz_homes.specs.Sums.{Sum}
use Rattle.jz_row_operations.specs.Table.{is_imm, nothing, one_code}
use Rattle.jz_every_row.specs.Results as results
use Rattle.jz_every_row.specs.Results.{IsFlag, AreFive, AreFour, AreTwo, carry_alone}
use Rattle.jz_every_row.specs.Wide.{is_quotient, wide_code, quotient_code}
use Rattle.jz_every_row.specs.Conditions.{IsFlagCondition, a_flag, denied}
use Rattle.jz_every_row.specs.Instructions.{IsLeaAddress, with_base, a_number, an_index, IsCount, by_number, by_variable, count_code, HasInstruction, two_operands, with_carry, minus, steps, complement, swap, address, compares, shifts, rotates, times, times_by, wide_product, division}
use Rattle.jz_lowered.specs.Functions.{AreKinds}
use Rattle.jz_every_row.proofs.Codes.{brought_all, count_all, wide_all, divide_all, divide_two_all}
use Rattle.jz_lowered.proofs.Within.{Under, TermUnder, IsNamed, imm_named, at_named, IsPinned, ArePinned, none_pinned, IsWithinOne, AreWithin, alu_within, mov_within, imul_within, imul_by_within, lea_within, wide_within, sign_within, arg_named, dest_named, register_under, sum_within, address_within, one_within, one_of, shift_by_within}

module _ (home : Homes) (kinds : List Kind) (are : AreKinds home kinds) where
  abbrev top : ℕ
  top = length kinds

  abbrev IsIn : Action → Type 0
  IsIn = IsWithinOne top

  -- ---- flags and words among the results
  pub flag_under : {d : Lval} {k : Option Pinned} → IsFlag home d k → IsPinned top k
  flag_under (results.no_variable at) = tt
  flag_under (results.a_variable x k kd h span) = (are.flags (key_of (ref_of x)) k.variable h).0

  pub word_under : {z : Size} {d : Lval} {k : Option Pinned} → results.IsPinned home z d k → IsPinned top k
  word_under (results.no_word at) = tt
  word_under {z} (results.a_word x k kd h span) = (are.words (key_of (ref_of x)) k.variable z h).0

  five_under : {to rest : List Lval} {fl : Flags} → AreFive home to fl rest → ArePinned top (flags_of fl)
  five_under (results.five rest o c s p z) = (flag_under o, (flag_under c, (flag_under s, (flag_under p, (flag_under z, tt)))))

  four_under : {to rest : List Lval} {fl : Flags} → AreFour home to fl rest → ArePinned top (flags_of fl)
  four_under (results.four rest o s p z) = (flag_under o, (tt, (flag_under s, (flag_under p, (flag_under z, tt)))))

  two_under : {to rest : List Lval} {fl : Flags} → AreTwo home to fl rest → ArePinned top (flags_of fl)
  two_under (results.two rest o c) = (flag_under o, (flag_under c, (tt, (tt, (tt, tt)))))

  pub carry_under : {d : Lval} {k : Option Pinned} → IsFlag home d k → ArePinned top (flags_of (carry_alone k))
  carry_under h = (tt, (flag_under h, (tt, (tt, (tt, tt)))))

  pub condition_under : {e : Expr} {n : ℕ} {d : Bool} → IsFlagCondition home e n d → All (Under home kinds are) (flag_read (condition.Flag n d))
  condition_under (a_flag x n kd h) = All-cons (Under home kinds are) n [] (are.flags (key_of (ref_of x)) n h).0 (All-nil (Under home kinds are))
  condition_under (denied here h) = condition_under h

  -- ---- operands
  lea_under : {t : Sum} {m : Address} → IsLeaAddress t m → All (TermUnder home kinds are) t.terms → All (Under home kinds are) (address_vars m)
  lea_under (with_base h) k = address_within home kinds are h k
  lea_under (a_number i) k = All-nil (Under home kinds are)
  lea_under (an_index j n i ne) k = All-cons (Under home kinds are) j [] (All-head (TermUnder home kinds are) (j, n) [] k) (All-nil (Under home kinds are))

  count_under : {z : Size} {e : Expr} {n : Option Pinned} {m : ℕ} → IsCount home z e n m → (k : Pinned) → n ≡ Some k → k.variable < top
  count_under (by_number n at less) k e = absurd cc
  count_under (by_variable v p there here h span) k e = let same : p ≡ k = cc in subst (λ (q : Pinned). q.variable < top) same (are.words (key_of (ref_of v)) p.variable S8 h).0

  low_within : (z : Size) (l : Option Pinned) (x : Arg) → IsPinned top l → IsNamed top x → IsIn (action.Mov z (low_at l) x)
  low_within z l x h k = mov_within top z (low_at l) x (at_named top reg.Rax l h) k

  high_within : (z : Size) (h : Option Pinned) (x : Arg) → IsPinned top h → IsNamed top x → IsIn (action.Mov z (high_at h) x)
  high_within z h x p k = mov_within top z (high_at h) x (at_named top reg.Rdx h p) k

  one_all : (kind : One) (z : Size) (b x : Arg) (acts : List Action) → IsNamed top b → IsNamed top x → one_code kind z b x ≡ Some acts → AreWithin home kinds are acts
  one_all kind z b x acts h k e =
      let w : IsIn (action.One kind z b) = one_of home kinds are (action.One kind z b) z b refl refl refl refl h in
      brought_all IsIn false (λ u. action.One kind z b) z b x nothing acts (mov_within top z b x h k) w w e

  counted_all : {e : Expr} (kind : Shift) (z : Size) (b x : Arg) (n : Option Pinned) (m : ℕ) (acts : List Action) → IsCount home z e n m → IsNamed top b → IsNamed top x → count_code kind z b x n m ≡ Some acts → AreWithin home kinds are acts
  counted_all kind z b x n m acts c h k e =
      count_all IsIn kind z b x n m acts (mov_within top z b x h k) (one_of home kinds are (action.Shift kind z b m) z b refl refl refl refl h) (λ p f. shift_by_within home kinds are kind z b p h (count_under c p f)) e

  if_pinned : (b : Bool) (k : Pinned) → k.variable < top → IsPinned top (if b then Some k else None) × IsPinned top (if b then None else Some k)
  if_pinned true k h = (h, tt)
  if_pinned false k h = (tt, h)

  pub quotient_within : (o : BinOp) (w : Wide) (z : Size) (k : Pinned) (x y : Arg) → k.variable < top → IsNamed top x → IsNamed top y → AreWithin home kinds are (quotient_code o w z k x y)
  quotient_within o w z k x y lt hx hy =
      let p = if_pinned (is_quotient o) k lt in
      let l : Option Pinned = if is_quotient o then Some k else None in
      let h : Option Pinned = if is_quotient o then None else Some k in
      divide_all IsIn w z l h x y (low_within z l x p.0 hx) (sign_within top z l h p.0 p.1) (high_within z h (arg.Imm (pos 0)) p.1 (imm_named top (pos 0))) (wide_within top w z l h y p.0 p.1 hy)

  pub wide_code_within : (z : Size) (h l : Option Pinned) (x y : Arg) (acts : List Action) → IsPinned top h → IsPinned top l → IsNamed top x → IsNamed top y → wide_code z h l x y ≡ Some acts → AreWithin home kinds are acts
  wide_code_within z h l x y acts p q hx hy e = wide_all IsIn z h l x y acts (wide_within top wide_op.Mul z l h y q p hy) (wide_within top wide_op.Mul z l h x q p hx) (low_within z l x q hx) e

  -- ---- intrinsics
  pub record IsNamedBy (acts : List Action) (fl : Flags) : Type 0 where
    pub actions : AreWithin home kinds are acts
    pub flags : ArePinned top (flags_of fl)

  pub instruction_within : {z : Size} {i : Intrinsic} {to : List Lval} {args : List Expr} {fl : Flags} {acts : List Action} {items : List Numbers} → HasInstruction home z i to args fl acts items → IsNamedBy acts fl
  instruction_within {z} (two_operands {k} {x} {y} {b} {acts} n fs ia ic id code) =
      let hb = dest_named home kinds are id in
      let hx = arg_named home kinds are ia in
      let hy = arg_named home kinds are ic in
      record { actions = brought_all IsIn k.1 (λ u. action.Alu k.0 z b u None) z b x y acts (mov_within top z b x hb hx) (alu_within top k.0 z b x None hb hx tt) (alu_within top k.0 z b y None hb hy tt) code; flags = five_under fs }
  instruction_within {z} (with_carry {k} {x} {y} {b} {acts} f c n fs ia ic id flag span code) =
      let hb = dest_named home kinds are id in
      let hx = arg_named home kinds are ia in
      let hy = arg_named home kinds are ic in
      let lt = (are.flags (key_of (ref_of f)) c.variable flag).0 in
      record { actions = brought_all IsIn k.1 (λ u. action.Alu k.0 z b u (Some c)) z b x y acts (mov_within top z b x hb hx) (alu_within top k.0 z b x (Some c) hb hx lt) (alu_within top k.0 z b y (Some c) hb hy lt) code; flags = five_under fs }
  instruction_within {z} (minus {x} {b} {acts} fs ia id code) = record { actions = one_all one.Neg z b x acts (dest_named home kinds are id) (arg_named home kinds are ia) code; flags = five_under fs }
  instruction_within {z} (steps {k} {x} {b} {acts} n fs ia id code) = record { actions = one_all k z b x acts (dest_named home kinds are id) (arg_named home kinds are ia) code; flags = four_under fs }
  instruction_within {z} (complement {x} {b} {acts} ia id code) = record { actions = one_all one.Not z b x acts (dest_named home kinds are id) (arg_named home kinds are ia) code; flags = none_pinned top }
  instruction_within {z} (swap {x} {v} {acts} long ia id code) =
      let hb = dest_named home kinds are id in
      let w : IsIn (action.Bswap z v) = one_of home kinds are (action.Bswap z v) z (arg.Var v) refl refl refl refl hb in
      record { actions = brought_all IsIn false (λ u. action.Bswap z v) z (arg.Var v) x nothing acts (mov_within top z (arg.Var v) x hb (arg_named home kinds are ia)) w w code; flags = none_pinned top }
  instruction_within (address {m} {v} sum lea id) =
      record { actions = one_within home kinds are (action.Lea v m) (lea_within top v m (register_under home kinds are id) (lea_under lea (sum_within home kinds are sum))); flags = none_pinned top }
  instruction_within {z} (compares {k} {x} {y} n fs ia ic ni na) =
      record { actions = one_within home kinds are (action.Alu k z x y None) (alu_within top k z x y None (arg_named home kinds are ia) (arg_named home kinds are ic) tt); flags = five_under fs }
  instruction_within {z} (shifts {k} {x} {b} {n} {m} {acts} name fs ia count id code) =
      record { actions = counted_all k z b x n m acts count (dest_named home kinds are id) (arg_named home kinds are ia) code; flags = five_under fs }
  instruction_within {z} (rotates {k} {x} {b} {n} {m} {acts} name fs ia count id code) =
      record { actions = counted_all k z b x n m acts count (dest_named home kinds are id) (arg_named home kinds are ia) code; flags = two_under fs }
  instruction_within {z} (times {x} {y} {v} {acts} wide fs ia ic id ni code) =
      let lt = register_under home kinds are id in
      let hx = arg_named home kinds are ia in
      let hy = arg_named home kinds are ic in
      record { actions = brought_all IsIn (not (is_imm x)) (action.Imul z v) z (arg.Var v) x y acts (mov_within top z (arg.Var v) x (dest_named home kinds are id) hx) (imul_within top z v x lt hx) (imul_within top z v y lt hy) code; flags = five_under fs }
  instruction_within {z} (times_by {x} {i = m} {v} wide fs ia ic id ni) =
      record { actions = one_within home kinds are (action.ImulBy z v x m) (imul_by_within top z v x m (register_under home kinds are id) (arg_named home kinds are ia)); flags = five_under fs }
  instruction_within {z} (wide_product {hk} {lk} {x} {y} {acts} long fs hp lp ia ic ni code) =
      record { actions = wide_code_within z hk lk x y acts (word_under hp) (word_under lp) (arg_named home kinds are ia) (arg_named home kinds are ic) code; flags = five_under fs }
  instruction_within {z} (division {qk} {rk} {x} {y} {w} long fs qp rp ihi ilo ic ni far_q far_w far_r) =
      let p = word_under qp in
      let r = word_under rp in
      record {
        actions = divide_two_all IsIn z qk rk x y w (low_within z qk y p (arg_named home kinds are ilo)) (high_within z rk x r (arg_named home kinds are ihi)) (wide_within top wide_op.Div z qk rk w p r (arg_named home kinds are ic));
        flags = five_under fs;
      }
