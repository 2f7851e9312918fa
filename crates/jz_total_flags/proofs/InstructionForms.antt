-- Each form of an intrinsic has actions that can be encoded.
use Rattle.std.proofs.Common.{◌≡◌, inl, inr, ◌<◌, ℕ, Bool, true, false, ◌&&◌, List, [], ◌∷◌, ◌++◌, Option, Some, None, refl, sym, ap, subst}
use Rattle.std.specs.Prelude.{◌⊎◌, All}
use Rattle.std.proofs.lemmas.Bool.{and_parts, false≢true}
use Rattle.std.proofs.lemmas.List.Elements.{All-nil, All-cons, All-append}
use Rattle.jz_words.specs.declared.size.Size.{Size}
use Rattle.jz_words.specs.declared.size.Size.TheVariants.{S8, S16, S32, S64}
use Rattle.jz_words.specs.Sizes.{bits_of}
use Rattle.x64_insn.specs.declared.types.Alu.{Alu}
use Rattle.x64_insn.specs.declared.types.One.{One}
use Rattle.x64_insn.specs.declared.types.Shift.{Shift}
use Rattle.x64_insn.specs.Chosen.{is_spelled, is_test}
use Rattle.jz_tree.specs.declared.expr.Expr.{Expr}
use Rattle.jz_tree.specs.declared.expr.Expr.TheVariants as expr
use Rattle.jz_tree.specs.declared.expr.Var.{Var}
use Rattle.jz_tree.specs.declared.stmt.Lval.{Lval}
use Rattle.jz_select.specs.declared.class.Class.{Class}
use Rattle.jz_select.specs.declared.class.Operand.{Operand}
use Rattle.jz_select.specs.Rows.{is_r, is_rm, changes, computes}
use Rattle.jz_meaning.specs.Values.{key_of, ref_of}
use Rattle.jz_operations.specs.declared.operation.Pinned.{Pinned}
use Rattle.jz_operations.specs.declared.operation.Arg.{Arg}
use Rattle.jz_operations.specs.declared.operation.Arg.TheVariants as arg
use Rattle.jz_operations.specs.declared.operation.Action.{Action}
use Rattle.jz_operations.specs.declared.operation.Action.TheVariants as action
use Rattle.jz_encodable.specs.Encodable.{is_spelled_at, CanEncode}
use Rattle.jz_change.specs.declared.change.Numbers.{Numbers}
use Rattle.jz_homes.specs.Homes.{Homes, in_flag}
use Rattle.jz_homes.specs.Operands.{Leaks, IsArg, IsDest}
use Rattle.jz_row_operations.specs.Table.{nothing, behind}
use Rattle.jz_flag_rows.specs.Wide.{IsLong}
use Rattle.jz_flag_rows.specs.Instructions.{NotAccess, IsCount}
use Rattle.jz_one_flag_row.specs.Forms.{IsTwo, IsCarried, IsOne, IsSwap, IsComparison, IsCounted}
use Rattle.jz_total_rows.proofs.Fits.{fit_at, is_place, is_kept, Fits, alu_spelled, one_spelled, shift_spelled, shift_by_spelled}
use Rattle.jz_total_rows.proofs.Stands.{Stands, is_variable, stands_place, variable_of}
use Rattle.jz_total_rows.proofs.Bringing.{encode, Beside, Brought, brings, changes_brings}
use Rattle.jz_total_rows.proofs.Rows.{not_imm, place_not_imm, in_variable}

-- actions of a row that can be encoded
abbrev pub HasActs : (List Action → List Numbers → Type 0) → Type 0
HasActs P = (acts : List Action) × (items : List Numbers) × P acts items × All CanEncode acts

one_encoded : (a : Action) → CanEncode a → All CanEncode (a ∷ [])
one_encoded a h = All-cons CanEncode a [] h (All-nil CanEncode)

behind_encoded : (before : List Action) (a : Action) → All CanEncode before → CanEncode a → All CanEncode (before ++ (a ∷ []))
behind_encoded before a h k = All-append CanEncode before (a ∷ []) h (one_encoded a k)

bswap_spelled : (d : ℕ) (z : Size) (v : ℕ) → IsLong z → is_spelled_at d (action.Bswap z v) ≡ true
unfolding is_spelled
bswap_spelled d S8 v w = absurd w
bswap_spelled d S16 v w = absurd w
bswap_spelled d S32 v w = refl
bswap_spelled d S64 v w = refl

both_true : (a b : Bool) → a ≡ true → b ≡ true → (a && b) ≡ true
both_true true b e f = f
both_true false b e f = absurd (false≢true e)

-- CMP and TEST with a second operand that is no access
compared_spelled : (d : ℕ) (op : Alu) (z : Size) (b y : Arg) → is_place b ≡ true → is_kept y ≡ false → fit_at d z b ≡ true → fit_at d z y ≡ true → is_spelled_at d (action.Alu op z b y None) ≡ true
unfolding is_spelled
compared_spelled d op z (arg.Var v) (arg.Var w) p k f g = refl
compared_spelled d op z (arg.Var v) (arg.Imm i) p k f g = g
compared_spelled d op z (arg.Var v) (arg.At r q) p k f g = refl
compared_spelled d op z (arg.Mem m) (arg.Var w) p k f g = f
compared_spelled d op z (arg.Mem m) (arg.Imm i) p k f g = both_true _ _ f g
compared_spelled d op z (arg.Mem m) (arg.At r q) p k f g = f
compared_spelled d op z (arg.Cell c) (arg.Var w) p k f g = f
compared_spelled d op z (arg.Cell c) (arg.Imm i) p k f g = both_true _ _ f g
compared_spelled d op z (arg.Cell c) (arg.At r q) p k f g = f
compared_spelled d op z b (arg.Mem m) p k f g = absurd (false≢true (sym k))
compared_spelled d op z b (arg.Cell c) p k f g = absurd (false≢true (sym k))
compared_spelled d op z (arg.Imm i) y p k f g = absurd (false≢true p)
compared_spelled d op z (arg.At r q) y p k f g = absurd (false≢true p)

no_access : (y : Arg) → is_kept y ≡ false → NotAccess y
no_access (arg.Var v) k = tt
no_access (arg.Imm i) k = tt
no_access (arg.Mem m) k = absurd (false≢true (sym k))
no_access (arg.Cell c) k = absurd (false≢true (sym k))
no_access (arg.At r p) k = tt

module _ (home : Homes) (z : Size) (d : Lval) (to : Arg) (r : Leaks) (dest : IsDest home z d to r) (c : Class) (s : Stands c to) (f : Fits z to) where
  second_fits : {w : Bool} {x y : Arg} → (k : Brought w z to x y) → Fits z x → Fits z y → Fits z k.second
  second_fits {w} {x} {y} k p q = by_from k.from
    where
      by_from : (k.second ≡ y) ⊎ ((w ≡ true) × (k.second ≡ x)) → Fits z k.second
      by_from (inl e) = subst (Fits z) (sym e) q
      by_from (inr e) = subst (Fits z) (sym e.1) p

  -- ---- two operands, and a flag that is read or none
  pub two_found : (k : Alu) (w : Bool) (carry : Option Pinned) (a b : Expr) (x y : Arg) (p q : Leaks) (u v : Operand) → is_test k ≡ false → IsArg home z a x p → IsArg home z b y q → Beside z to x u → Beside z to y v → computes w c u v ≡ true → HasActs (IsTwo home z k w carry d a b)
  two_found k w carry a b x y p q u v n i j m o h =
      let g = brings w z to x y c u v s f m o h in
      let e = action.Alu k z to g.second carry in (
        g.before ++ (e ∷ []),
        _,
        record { x = x; y = y; to = to; p = p; q = q; r = r; first = i; second = j; dest = dest; code = ap (behind (λ l. action.Alu k z to l carry)) g.is; shown = refl },
        behind_encoded g.before e g.encoded (encode e (λ t l. alu_spelled t k z to g.second carry n (stands_place s (and_parts (is_rm c) _ h).0) g.one (f t l) (second_fits g m.fits o.fits t l))),
      )

  pub carried_found : (k : Alu) (w : Bool) (a b : Expr) (flag : Var) (n : ℕ) (x y : Arg) (p q : Leaks) (u v : Operand) → is_test k ≡ false → home (key_of (ref_of flag)) ≡ Some (in_flag n) → IsArg home z a x p → IsArg home z b y q → Beside z to x u → Beside z to y v → computes w c u v ≡ true
      → HasActs (IsCarried home z k w d a b (expr.Var flag))
  carried_found k w a b flag n x y p q u v t there i j m o h =
      let pin : Pinned = record { variable = n; span = (ref_of flag).span } in
      let g = two_found k w (Some pin) a b x y p q u v t i j m o h in
      (g.0, g.1, record { flag = flag; carry = pin; is_flag = refl; home_is = there; span_is = refl; row = g.2 }, g.3)

  -- ---- one operand
  module _ (a : Expr) (x : Arg) (p : Leaks) (u : Operand) (i : IsArg home z a x p) (m : Beside z to x u) (h : changes c u ≡ true) where
    abbrev g : Brought false z to x nothing
    g = changes_brings z to x c u s f m h

    pub one_found : (k : One) → HasActs (IsOne home z k d a)
    one_found k =
        let e = action.One k z to in (
          g.before ++ (e ∷ []),
          _,
          record { x = x; to = to; p = p; r = r; operand = i; dest = dest; code = ap (behind (λ l. e)) g.is; shown = refl },
          behind_encoded g.before e g.encoded (encode e (λ t l. one_spelled t k z to (stands_place s (and_parts (is_rm c) _ h).0) (f t l))),
        )

    -- by a number below the size
    pub number_found : (k : Shift) (b : Expr) (n : ℕ) → n < bits_of z → IsCount home z b None n → HasActs (IsCounted home z k d a b)
    number_found k b n less j =
        let e = action.Shift k z to n in (
          g.before ++ (e ∷ []),
          _,
          record { x = x; to = to; places = None; number = n; p = p; r = r; operand = i; count = j; dest = dest; code = ap (behind (λ l. e)) g.is; shown = refl },
          behind_encoded g.before e g.encoded (encode e (λ t l. shift_spelled t k z to n less (stands_place s (and_parts (is_rm c) _ h).0) (f t l))),
        )

  -- BSWAP, of a register
  pub swap_found : (a : Expr) (x : Arg) (p : Leaks) (u : Operand) → IsLong z → is_r c ≡ true → IsArg home z a x p → Beside z to x u → changes c u ≡ true → HasActs (IsSwap home z d a)
  swap_found a x p u long reg i m h =
      let b' = variable_of s reg in
      let v = in_variable home z d to r dest (ap is_variable b'.1) in
      let k = subst (λ b. Brought false z b x nothing) v.is_arg (changes_brings z to x c u s f m h) in
      let e = action.Bswap z v.number in (
        k.before ++ (e ∷ []),
        _,
        record { x = x; v = v.number; p = p; long = long; operand = i; dest = v.is_dest; code = ap (behind (λ l. e)) k.is; shown = refl },
        behind_encoded k.before e k.encoded (encode e (λ t l. bswap_spelled t z v.number long)),
      )

  -- by a byte in CL
  pub masked_found : (k : Shift) (a b : Expr) (x : Arg) (p : Leaks) (u v : Operand) (pin : Pinned) → IsCount home z b (Some pin) 0 → IsArg home z a x p → Beside z to x u → Beside z to (arg.Var pin.variable) v → computes false c u v ≡ true → HasActs (IsCounted home z k d a b)
  masked_found k a b x p u v pin j i m o h =
      let g = brings false z to x (arg.Var pin.variable) c u v s f m o h in
      let e = action.ShiftBy k z to pin in (
        g.before ++ (e ∷ []),
        _,
        record { x = x; to = to; places = Some pin; number = 0; p = p; r = r; operand = i; count = j; dest = dest; code = ap (behind (λ l. e)) g.is; shown = refl },
        behind_encoded g.before e g.encoded (encode e (λ t l. shift_by_spelled t k z to pin (stands_place s (and_parts (is_rm c) _ h).0) (f t l))),
      )

-- ---- CMP and TEST
pub compare_found : (home : Homes) (z : Size) (k : Alu) (a b : Expr) (x y : Arg) (p q : Leaks) → IsArg home z a x p → IsArg home z b y q → is_place x ≡ true → is_kept y ≡ false → Fits z x → Fits z y → HasActs (IsComparison home z k a b)
compare_found home z k a b x y p q i j place kept f g =
    let e = action.Alu k z x y None in (
      e ∷ [],
      _,
      record { x = x; y = y; p = p; q = q; first = i; second = j; no_number = not_imm x (place_not_imm x place); no_access = no_access y kept; code = refl; shown = refl },
      one_encoded e (encode e (λ t l. compared_spelled t k z x y place kept (f t l) (g t l))),
    )
