-- The variables that operations of statements name have kinds.
use Rattle.std.proofs.Common.{◌≡◌, ℕ, ◌<◌, Bool, true, false, List, [], ◌∷◌, ◌++◌, length, Option, Some, None, refl, sym, subst, ℤ}
use Rattle.std.specs.Prelude.{not, ◌&&◌, if◌then◌else◌, All, ⊤}
use Rattle.std.specs.Option.{option_to_list}
use Rattle.std.proofs.lemmas.List.Elements.{All-nil, All-cons, All-head, All-tail, All-append}
use Rattle.jz_io.specs.declared.span.Span.{Span}
use Rattle.jz_words.specs.declared.size.Size.{Size}
use Rattle.jz_words.specs.declared.size.Size.TheVariants.{S8, S64}
use Rattle.x64_insn.specs.declared.types.Alu.{Alu}
use Rattle.x64_insn.specs.declared.types.Flag.{Flag}
use Rattle.x64_insn.specs.declared.types.Flag.TheVariants.{Cf}
use Rattle.x64_insn.specs.declared.types.Place.{Place}
use Rattle.x64_insn.specs.declared.types.Place.TheVariants as place
use Rattle.x64_insn.specs.declared.types.Reg.{Reg}
use Rattle.x64_insn.specs.declared.types.Reg.TheVariants as reg
use Rattle.x64_insn.specs.declared.types.Shift.{Shift}
use Rattle.x64_insn.specs.declared.types.Wide.{Wide}
use Rattle.x64_insn.specs.declared.types.Wide.TheVariants as wide_op
use Rattle.x64_insn.specs.Rows.{writes_operand}
use Rattle.jz_tree.specs.declared.expr.Expr.{Expr}
use Rattle.jz_tree.specs.declared.stmt.Lval.{Lval}
use Rattle.jz_meaning.specs.Values.{key_of, ref_of}
use Rattle.jz_ir.specs.declared.code.Kind.{Kind}
use Rattle.jz_ir.specs.declared.code.Need.{Need}
use Rattle.jz_ir.specs.Places.{Below}
use Rattle.jz_operations.specs.declared.operation.Address.{Address}
use Rattle.jz_operations.specs.declared.operation.Pinned.{Pinned}
use Rattle.jz_operations.specs.declared.operation.Arg.{Arg}
use Rattle.jz_operations.specs.declared.operation.Arg.TheVariants as arg
use Rattle.jz_operations.specs.declared.operation.Condition.{Condition}
use Rattle.jz_operations.specs.declared.operation.Flags.{Flags}
use Rattle.jz_operations.specs.declared.operation.Action.{Action}
use Rattle.jz_operations.specs.declared.operation.Action.TheVariants as action
use Rattle.jz_operations.specs.declared.rows.Input.{Input}
use Rattle.jz_operations.specs.declared.rows.Input.TheVariants.{Word}
use Rattle.jz_operations.specs.Rows.{Output, low_at, high_at, wide_inputs, inputs, outputs, changes, flags_of}
use Rattle.jz_operations.specs.Reading.{found_by, is_var, address_vars, reads_in, found_in, written_in, flag_read, asked_by, flag_written, flags_written, five_flags, need_at, arg_need, input_needs, output_needs, asked_needs, flag_need, flag_needs, seen_of}
use Rattle.jz_operations.proofs.Somes.{same_some}
use Rattle.jz_change.specs.declared.change.Numbers.{Numbers}
use Rattle.jz_homes.specs.Homes.{Homes}
use Rattle.jz_homes.specs.Sums.{Sum, IsSum, a_number, a_variable, a_multiple, multiple_of, added, less, IsAddress, of_base, of_both, of_swapped, IsIndex, constant, variable}
use Rattle.jz_homes.specs.Operands as operands
use Rattle.jz_homes.specs.Operands.{Leaks, IsArg, IsDest}
use Rattle.jz_row_operations.specs.Codes.{no_flag}
use Rattle.jz_row_operations.specs.Rows.{alu_of, commutes, carry_alu, shift_of}
use Rattle.jz_row_operations.specs.Table.{same_arg, is_imm, is_free, brought, behind, nothing}
use Rattle.jz_row_operations.specs.Lowering.{HasRow, moves, sums, carries, signs, times, times_by, shifts, shifts_by, extends, lowest}
use Rattle.jz_lowered.specs.Functions.{AreKinds}

-- ---- operations over variables below a bound
module _ (n : ℕ) where
  abbrev pub Small : ℕ → Type 0
  Small v = v < n

  abbrev pub Needed : Need → Type 0
  Needed k = k.variable < n

  -- the variables of an operand
  pub record IsNamed (a : Arg) : Type 0 where
    pub own : All Small (is_var a)
    pub found : All Small (found_by a)
    pub needs : All Needed (arg_need a)

  pub var_named : (v : ℕ) → v < n → IsNamed (arg.Var v)
  var_named v lt = record { own = All-cons Small v [] lt (All-nil Small); found = All-nil Small; needs = All-nil Needed }

  pub imm_named : (i : ℤ) → IsNamed (arg.Imm i)
  imm_named i = record { own = All-nil Small; found = All-nil Small; needs = All-nil Needed }

  need_named : (q : Place) (p : Pinned) → p.variable < n → All Needed (need_at q (Some p))
  need_named q p lt = All-cons Needed (record { variable = p.variable; place = q; span = p.span }) [] lt (All-nil Needed)

  pinned_named : (r : Reg) (p : Pinned) → p.variable < n → IsNamed (arg.At r (Some p))
  pinned_named r p lt = record { own = All-cons Small p.variable [] lt (All-nil Small); found = All-nil Small; needs = need_named (place.Reg r) p lt }

  -- what is read and what is written
  pub record AreRead (is : List Input) : Type 0 where
    pub reads : All Small (reads_in is)
    pub needs : All Needed (input_needs is)

  none_read : AreRead []
  none_read = record { reads = All-nil Small; needs = All-nil Needed }

  one_read : (s : Size) (a : Arg) (is : List Input) → IsNamed a → AreRead is → AreRead (Word s a ∷ is)
  one_read s a is h r = record {
    reads = All-append Small (is_var a ++ found_by a) (reads_in is) (All-append Small (is_var a) (found_by a) h.own h.found) r.reads;
    needs = All-append Needed (arg_need a) (input_needs is) h.needs r.needs;
  }

  pub record AreWritten (os : List Output) : Type 0 where
    pub found : All Small (found_in os)
    pub written : All Small (written_in os)
    pub needs : All Needed (output_needs os)

  none_there : AreWritten []
  none_there = record { found = All-nil Small; written = All-nil Small; needs = All-nil Needed }

  one_there : (s : Size) (a : Arg) → IsNamed a → AreWritten ((s, a) ∷ [])
  one_there s a h = record {
    found = All-append Small (found_by a) [] h.found (All-nil Small);
    written = All-append Small (is_var a) [] h.own (All-nil Small);
    needs = All-append Needed (arg_need a) [] h.needs (All-nil Needed);
  }

  one_if : (w : Bool) (s : Size) (a : Arg) → IsNamed a → AreWritten (if w then (s, a) ∷ [] else [])
  one_if true s a h = one_there s a h
  one_if false s a h = none_there

  abbrev pub IsPinned : Option Pinned → Type 0
  IsPinned None = ⊤
  IsPinned (Some p) = p.variable < n

  -- ---- flags that become variables
  abbrev pub ArePinned : List (Option Pinned) → Type 0
  ArePinned [] = ⊤
  ArePinned (p ∷ ps) = IsPinned p × ArePinned ps

  flag_under : (p : Option Pinned) (c : Bool) → IsPinned p → All Small (flag_written p c)
  flag_under None true h = All-nil Small
  flag_under None false h = All-nil Small
  flag_under (Some p) true h = All-cons Small p.variable [] h (All-nil Small)
  flag_under (Some p) false h = All-nil Small

  flags_under : (ps : List (Option Pinned)) (cs : List Bool) → ArePinned ps → All Small (flags_written ps cs)
  flags_under [] cs h = All-nil Small
  flags_under (p ∷ ps) [] h = All-nil Small
  flags_under (p ∷ ps) (c ∷ cs) h = All-append Small (flag_written p c) (flags_written ps cs) (flag_under p c h.0) (flags_under ps cs h.1)

  flag_needed : (p : Option Pinned) (c : Bool) (f : Flag) → IsPinned p → All Needed (flag_need p c f)
  flag_needed None true f h = All-nil Needed
  flag_needed None false f h = All-nil Needed
  flag_needed (Some p) true f h = need_named (place.Flag f) p h
  flag_needed (Some p) false f h = All-nil Needed

  flags_needed : (ps : List (Option Pinned)) (cs : List Bool) (fs : List Flag) → ArePinned ps → All Needed (flag_needs ps cs fs)
  flags_needed [] cs fs h = All-nil Needed
  flags_needed (p ∷ ps) [] fs h = All-nil Needed
  flags_needed (p ∷ ps) (c ∷ cs) [] h = All-nil Needed
  flags_needed (p ∷ ps) (c ∷ cs) (f ∷ fs) h = All-append Needed (flag_need p c f) (flag_needs ps cs fs) (flag_needed p c f h.0) (flags_needed ps cs fs h.1)

  -- ---- an action, and the operation that it is
  pub record IsWithinOne (a : Action) : Type 0 where
    pub reads : AreRead (inputs a)
    pub writes : AreWritten (outputs a)
    pub asked : All Small (asked_by a)
    pub needs : All Needed (asked_needs a)

  within_by : (a : Action) → AreRead (inputs a) → AreWritten (outputs a) → All Small (asked_by a) → All Needed (asked_needs a) → IsWithinOne a
  within_by a r w k q = record { reads = r; writes = w; asked = k; needs = q }

  pub below_with : (at : Span) (a : Action) (fl : Flags) → ArePinned (flags_of fl) → IsWithinOne a → Below n (seen_of (record { span = at; action = a; flags = fl }))
  below_with at a fl f w = record {
    reads = All-append Small (reads_in (inputs a)) (found_in (outputs a) ++ asked_by a) w.reads.reads (All-append Small (found_in (outputs a)) (asked_by a) w.writes.found w.asked);
    writes = All-append Small (written_in (outputs a)) (flags_written (flags_of fl) (changes a)) w.writes.written (flags_under (flags_of fl) (changes a) f);
    needs = All-append Needed (input_needs (inputs a)) _ w.reads.needs (All-append Needed (output_needs (outputs a)) _ w.writes.needs
        (All-append Needed (asked_needs a) (flag_needs (flags_of fl) (changes a) five_flags) w.needs (flags_needed (flags_of fl) (changes a) five_flags f)));
  }

  pub none_pinned : ArePinned (flags_of no_flag)
  none_pinned = (tt, (tt, (tt, (tt, (tt, tt)))))

  -- ---- the actions of rows
  alu_asks : (p : Option Pinned) (op : Alu) (s : Size) (b u : Arg) → IsPinned p → All Small (asked_by (action.Alu op s b u p))
  alu_asks None op s b u h = All-nil Small
  alu_asks (Some p) op s b u h = All-cons Small p.variable [] h (All-nil Small)

  alu_needs : (p : Option Pinned) (op : Alu) (s : Size) (b u : Arg) → IsPinned p → All Needed (asked_needs (action.Alu op s b u p))
  alu_needs None op s b u h = All-nil Needed
  alu_needs (Some p) op s b u h = need_named (place.Flag Cf) p h

  pub alu_within : (op : Alu) (s : Size) (b u : Arg) (p : Option Pinned) → IsNamed b → IsNamed u → IsPinned p → IsWithinOne (action.Alu op s b u p)
  alu_within op s b u p h k q =
      within_by (action.Alu op s b u p) (one_read s b (Word s u ∷ []) h (one_read s u [] k none_read)) (one_if (writes_operand op) s b h) (alu_asks p op s b u q) (alu_needs p op s b u q)

  pub mov_within : (s : Size) (b u : Arg) → IsNamed b → IsNamed u → IsWithinOne (action.Mov s b u)
  mov_within s b u h k = within_by (action.Mov s b u) (one_read s u [] k none_read) (one_there s b h) (All-nil Small) (All-nil Needed)

  extend_within : (sign : Bool) (to from : Size) (v : ℕ) (u : Arg) → v < n → IsNamed u → IsWithinOne (action.Extend sign to from v u)
  extend_within sign to from v u lt k = within_by (action.Extend sign to from v u) (one_read from u [] k none_read) (one_there to (arg.Var v) (var_named v lt)) (All-nil Small) (All-nil Needed)

  pub imul_within : (s : Size) (v : ℕ) (u : Arg) → v < n → IsNamed u → IsWithinOne (action.Imul s v u)
  imul_within s v u lt k =
      within_by (action.Imul s v u) (one_read s (arg.Var v) (Word s u ∷ []) (var_named v lt) (one_read s u [] k none_read)) (one_there s (arg.Var v) (var_named v lt)) (All-nil Small) (All-nil Needed)

  pub imul_by_within : (s : Size) (v : ℕ) (u : Arg) (i : ℤ) → v < n → IsNamed u → IsWithinOne (action.ImulBy s v u i)
  imul_by_within s v u i lt k = within_by (action.ImulBy s v u i) (one_read s u [] k none_read) (one_there s (arg.Var v) (var_named v lt)) (All-nil Small) (All-nil Needed)

  pub cmov_within : (c : Condition) (s : Size) (v : ℕ) (u : Arg) → All Small (flag_read c) → v < n → IsNamed u → IsWithinOne (action.Cmov c s v u)
  cmov_within c s v u f lt k =
      within_by (action.Cmov c s v u) (one_read s u (Word s (arg.Var v) ∷ []) k (one_read s (arg.Var v) [] (var_named v lt) none_read)) (one_there s (arg.Var v) (var_named v lt)) f (All-nil Needed)

  pub set_within : (c : Condition) (b : Arg) → All Small (flag_read c) → IsNamed b → IsWithinOne (action.Set c b)
  set_within c b f h = within_by (action.Set c b) none_read (one_there S8 b h) f (All-nil Needed)

  pub lea_within : (v : ℕ) (m : Address) → v < n → All Small (address_vars m) → IsWithinOne (action.Lea v m)
  lea_within v m lt h =
      within_by (action.Lea v m) (record { reads = All-append Small (address_vars m) [] h (All-nil Small); needs = All-nil Needed }) (one_there S64 (arg.Var v) (var_named v lt)) (All-nil Small) (All-nil Needed)

  -- ---- words in RAX and RDX
  pub at_named : (r : Reg) (p : Option Pinned) → IsPinned p → IsNamed (arg.At r p)
  at_named r None h = record { own = All-nil Small; found = All-nil Small; needs = All-nil Needed }
  at_named r (Some p) h = pinned_named r p h

  two_there : (s : Size) (a b : Arg) → IsNamed a → IsNamed b → AreWritten ((s, a) ∷ (s, b) ∷ [])
  two_there s a b h k = record {
    found = All-append Small (found_by a) (found_by b ++ []) h.found (All-append Small (found_by b) [] k.found (All-nil Small));
    written = All-append Small (is_var a) (is_var b ++ []) h.own (All-append Small (is_var b) [] k.own (All-nil Small));
    needs = All-append Needed (arg_need a) (arg_need b ++ []) h.needs (All-append Needed (arg_need b) [] k.needs (All-nil Needed));
  }

  low_read : (s : Size) (l : Option Pinned) (u : Arg) → IsPinned l → IsNamed u → AreRead (Word s u ∷ Word s (low_at l) ∷ [])
  low_read s l u a k = one_read s u (Word s (low_at l) ∷ []) k (one_read s (low_at l) [] (at_named reg.Rax l a) none_read)

  both_read : (s : Size) (l h : Option Pinned) (u : Arg) → IsPinned l → IsPinned h → IsNamed u → AreRead (Word s u ∷ Word s (low_at l) ∷ Word s (high_at h) ∷ [])
  both_read s l h u a b k =
      one_read s u (Word s (low_at l) ∷ Word s (high_at h) ∷ []) k (one_read s (low_at l) (Word s (high_at h) ∷ []) (at_named reg.Rax l a) (one_read s (high_at h) [] (at_named reg.Rdx h b) none_read))

  wide_read : (op : Wide) (s : Size) (l h : Option Pinned) (u : Arg) → IsPinned l → IsPinned h → IsNamed u → AreRead (wide_inputs op s l h u)
  wide_read wide_op.Mul s l h u a b k = low_read s l u a k
  wide_read wide_op.Imul s l h u a b k = low_read s l u a k
  wide_read wide_op.Div s l h u a b k = both_read s l h u a b k
  wide_read wide_op.Idiv s l h u a b k = both_read s l h u a b k

  pub wide_within : (op : Wide) (s : Size) (l h : Option Pinned) (u : Arg) → IsPinned l → IsPinned h → IsNamed u → IsWithinOne (action.Wide op s l h u)
  wide_within op s l h u a b k =
      within_by (action.Wide op s l h u) (wide_read op s l h u a b k) (two_there s (low_at l) (high_at h) (at_named reg.Rax l a) (at_named reg.Rdx h b)) (All-nil Small) (All-nil Needed)

  pub sign_within : (s : Size) (l h : Option Pinned) → IsPinned l → IsPinned h → IsWithinOne (action.Sign s l h)
  sign_within s l h a b = within_by (action.Sign s l h) (one_read s (low_at l) [] (at_named reg.Rax l a) none_read) (one_there s (high_at h) (at_named reg.Rdx h b)) (All-nil Small) (All-nil Needed)

-- ---- operands of statements
module _ (home : Homes) (kinds : List Kind) (are : AreKinds home kinds) where
  abbrev pub top : ℕ
  top = length kinds

  abbrev pub Under : ℕ → Type 0
  Under v = v < top

  abbrev pub TermUnder : ℕ × ℕ → Type 0
  TermUnder t = t.0 < top

  one_term : (v k : ℕ) → v < top → All TermUnder ((v, k) ∷ [])
  one_term v k lt = All-cons TermUnder (v, k) [] lt (All-nil TermUnder)

  pub sum_within : {e : Expr} {t : Sum} → IsSum home e t → All TermUnder t.terms
  sum_within (a_number i at) = All-nil TermUnder
  sum_within (a_variable x v h) = one_term v _ (are.words (key_of (ref_of x)) v _ h).0
  sum_within (a_multiple x v k at here h) = one_term v _ (are.words (key_of (ref_of x)) v _ h).0
  sum_within (multiple_of x v k at here h) = one_term v _ (are.words (key_of (ref_of x)) v _ h).0
  sum_within (added {t = t} {u = u} here p q) = All-append TermUnder t.terms u.terms (sum_within p) (sum_within q)
  sum_within (less i at here p) = sum_within p

  index_within : {t : Sum} {b : Option ℕ} {i : ℤ} → IsIndex t b i → All TermUnder t.terms → All Under (option_to_list b)
  index_within (constant i) h = All-nil Under
  index_within (variable b i) h = All-cons Under b [] (All-head TermUnder (b, 1) [] h) (All-nil Under)

  pub address_within : {t : Sum} {m : Address} → IsAddress t m → All TermUnder t.terms → All Under (address_vars m)
  address_within (of_base b i) h = All-cons Under b [] (All-head TermUnder (b, 1) [] h) (All-nil Under)
  address_within (of_both b j k i) h =
      All-cons Under b (j ∷ []) (All-head TermUnder (b, 1) ((j, k) ∷ []) h) (All-cons Under j [] (All-head TermUnder (j, k) [] (All-tail TermUnder (b, 1) ((j, k) ∷ []) h)) (All-nil Under))
  address_within (of_swapped b j k i ne) h =
      All-cons Under b (j ∷ []) (All-head TermUnder (b, 1) [] (All-tail TermUnder (j, k) ((b, 1) ∷ []) h)) (All-cons Under j [] (All-head TermUnder (j, k) ((b, 1) ∷ []) h) (All-nil Under))

  found_named : (a : Arg) → is_var a ≡ [] → arg_need a ≡ [] → All Under (found_by a) → IsNamed top a
  found_named a e f h = record { own = subst (All Under) (sym e) (All-nil Under); found = h; needs = subst (All (Needed top)) (sym f) (All-nil (Needed top)) }

  pub arg_named : {z : Size} {e : Expr} {a : Arg} {p : Leaks} → IsArg home z e a p → IsNamed top a
  arg_named (operands.a_word x v h) = var_named top v (are.words (key_of (ref_of x)) v _ h).0
  arg_named (operands.a_number i at) = imm_named top _
  arg_named (operands.a_scalar x w h) = found_named _ refl refl (All-nil Under)
  arg_named (operands.a_cell x e m w t b i cells is at) = found_named _ refl refl (index_within at (sum_within is))
  arg_named (operands.a_load a t m size is at) = found_named _ refl refl (address_within at (sum_within is))

  pub dest_named : {z : Size} {d : Lval} {b : Arg} {r : Leaks} → IsDest home z d b r → IsNamed top b
  dest_named (operands.to_word x v k h) = var_named top v (are.words (key_of (ref_of x)) v _ h).0
  dest_named (operands.to_scalar x w k h) = found_named _ refl refl (All-nil Under)
  dest_named (operands.to_cell x e m w t b i cells is at) = found_named _ refl refl (index_within at (sum_within is))
  dest_named (operands.to_memory a t m size is at) = found_named _ refl refl (address_within at (sum_within is))

  pub register_under : {z : Size} {d : Lval} {m : ℕ} {r : Leaks} → IsDest home z d (arg.Var m) r → m < top
  register_under h = let k = dest_named h in All-head Under _ [] k.own

  -- ---- rows
  abbrev pub AreWithin : List Action → Type 0
  AreWithin = All (IsWithinOne top)

  pub one_within : (a : Action) → IsWithinOne top a → AreWithin (a ∷ [])
  one_within a h = All-cons (IsWithinOne top) a [] h (All-nil (IsWithinOne top))

  way_within : (s1 s2 s3 : Bool) (f : Arg → Action) (z : Size) (b x y : Arg) (acts : List Action) → ((u : Arg) → IsNamed top u → IsWithinOne top (f u)) → IsNamed top b → IsNamed top x → IsNamed top y
      → behind f (if s1 then Some ([], y) else if s2 then Some ([], x) else if s3 then Some (action.Mov z b x ∷ [], y) else None) ≡ Some acts → AreWithin acts
  way_within true s2 s3 f z b x y acts w hb hx hy e = subst AreWithin (same_some _ acts e) (one_within (f y) (w y hy))
  way_within false true s3 f z b x y acts w hb hx hy e = subst AreWithin (same_some _ acts e) (one_within (f x) (w x hx))
  way_within false false true f z b x y acts w hb hx hy e =
      subst AreWithin (same_some _ acts e) (All-cons (IsWithinOne top) (action.Mov z b x) (f y ∷ []) (mov_within top z b x hb hx) (one_within (f y) (w y hy)))
  way_within false false false f z b x y acts w hb hx hy e = absurd cc

  pub brought_within : (swaps : Bool) (f : Arg → Action) (z : Size) (b x y : Arg) (acts : List Action) → ((u : Arg) → IsNamed top u → IsWithinOne top (f u)) → IsNamed top b → IsNamed top x → IsNamed top y
      → behind f (brought swaps z b x y) ≡ Some acts → AreWithin acts
  brought_within swaps f z b x y acts w hb hx hy e = way_within (same_arg b x) (swaps && same_arg b y) (is_free b y) f z b x y acts w hb hx hy e

  pub nothing_named : IsNamed top nothing
  nothing_named = imm_named top _

  pub one_of : (a : Action) (z : Size) (b : Arg) → inputs a ≡ Word z b ∷ [] → outputs a ≡ (z, b) ∷ [] → asked_by a ≡ [] → asked_needs a ≡ [] → IsNamed top b → IsWithinOne top a
  one_of a z b i o k q h =
      within_by top a (subst (AreRead top) (sym i) (one_read top z b [] h (none_read top))) (subst (AreWritten top) (sym o) (one_there top z b h)) (subst (All Under) (sym k) (All-nil Under))
      (subst (All (Needed top)) (sym q) (All-nil (Needed top)))

  pub shift_by_within : (kind : Shift) (z : Size) (b : Arg) (p : Pinned) → IsNamed top b → p.variable < top → IsWithinOne top (action.ShiftBy kind z b p)
  shift_by_within kind z b p h lt =
      within_by top (action.ShiftBy kind z b p) (one_read top z b (Word S8 (arg.At reg.Rcx (Some p)) ∷ []) h (one_read top S8 (arg.At reg.Rcx (Some p)) [] (pinned_named top reg.Rcx p lt) (none_read top)))
      (one_there top z b h) (All-nil Under) (All-nil (Needed top))

  pub row_within : {z : Size} {d : Lval} {e : Expr} {acts : List Action} {items : List Numbers} → HasRow home z d e acts items → AreWithin acts
  row_within {z} (moves {x = x} {b = b} ia id) = one_within (action.Mov z b x) (mov_within top z b x (dest_named id) (arg_named ia))
  row_within {z} (sums {o} {x = x} {y = y} {b = b} {acts = acts} there h ia ic id nn e) =
      brought_within (commutes o) (λ u. action.Alu (alu_of o) z b u None) z b x y acts (λ u k. alu_within top (alu_of o) z b u None (dest_named id) k tt) (dest_named id) (arg_named ia) (arg_named ic) e
  row_within {z} (carries {o} {x = x} {y = y} {b = b} {acts = acts} f c inner there h ia ic id nn isf span e) =
      brought_within (commutes o) (λ u. action.Alu (carry_alu o) z b u (Some c)) z b x y acts (λ u k. alu_within top (carry_alu o) z b u (Some c) (dest_named id) k (are.flags (key_of (ref_of f)) c.variable isf).0)
      (dest_named id) (arg_named ia) (arg_named ic) e
  row_within {z} (signs {o} {x = x} {b = b} {acts = acts} sign ia id ni e) =
      brought_within false (λ u. action.One o z b) z b x nothing acts (λ u k. one_of (action.One o z b) z b refl refl refl refl (dest_named id)) (dest_named id) (arg_named ia) nothing_named e
  row_within {z} (times {x = x} {y = y} {m = m} {acts = acts} there wide ia ic id ni e) =
      brought_within (not (is_imm x)) (action.Imul z m) z (arg.Var m) x y acts (λ u k. imul_within top z m u (register_under id) k) (dest_named id) (arg_named ia) (arg_named ic) e
  row_within {z} (times_by {x = x} {i = i} {m = m} there wide ia ic id ni) = one_within (action.ImulBy z m x i) (imul_by_within top z m x i (register_under id) (arg_named ia))
  row_within {z} (shifts {o} {x = x} {b = b} {acts = acts} k there where' h below ia id ni e) =
      brought_within false (λ u. action.Shift (shift_of o) z b k) z b x nothing acts (λ u q. one_of (action.Shift (shift_of o) z b k) z b refl refl refl refl (dest_named id)) (dest_named id) (arg_named ia) nothing_named e
  row_within {z} (shifts_by {o} {x = x} {b = b} {acts = acts} v c where' inner there h isv span ia id e) =
      let lt = (are.words (key_of (ref_of v)) c.variable S8 isv).0 in
      brought_within false (λ u. action.ShiftBy (shift_of o) z b c) z b x (arg.Var c.variable) acts (λ u q. shift_by_within (shift_of o) z b c (dest_named id) lt) (dest_named id) (arg_named ia) (var_named top c.variable lt) e
  row_within {z} (extends {y = y} {from = from} {m = m} sign there own smaller ia ni id) = one_within (action.Extend sign z from m y) (extend_within top sign z from m y (register_under id) (arg_named ia))
  row_within {z} (lowest {m = m} {n = v} there own le ia id) = one_within (action.Mov z (arg.Var m) (arg.Var v)) (mov_within top z (arg.Var m) (arg.Var v) (dest_named id) (arg_named ia))
