-- A variable of a copy has the home of the variable that it stands for, and so has a cell of an array in registers as a word of its own.
use Rattle.std.proofs.Common.{◌≡◌, ℕ, zero, suc, ◌<◌, Bool, true, false, List, [], ◌∷◌, length, get_or, Option, Some, None, sym, ap, ◌∙◌, arith, if◌then◌else◌}
use Rattle.std.specs.Prelude.{◌≤◌, All, Contains, slice_get, nat_lt, option_map}
use Rattle.std.proofs.lemmas.Bool.Decides.{nat_tests}
use Rattle.jz_tree.specs.Size.{Size}
use Rattle.jz_tree.specs.declared.expr.Storage.{Storage}
use Rattle.jz_tree.specs.declared.expr.Storage.TheVariants as storage
use Rattle.jz_tree.specs.declared.expr.Expr.{Expr}
use Rattle.jz_tree.specs.declared.expr.Ty.{Ty}
use Rattle.jz_tree.specs.declared.expr.Ty.TheVariants as ty
use Rattle.jz_tree.specs.declared.expr.Access.{Access}
use Rattle.jz_tree.specs.declared.expr.Decl.{Decl}
use Rattle.jz_tree.specs.declared.expr.Var.{Var}
use Rattle.jz_tree.specs.declared.expr.Expr.TheOpen.{Ty-F}
use Rattle.jz_tree.specs.declared.expr.Expr.TheViews.{out-Var, out-Ty, out-roll-Ty}
use Rattle.jz_tree.specs.declared.program.Fun.{Fun}
use Rattle.jz_tree.specs.declared.program.Program.{Program}
use Rattle.jz_type_names.specs.declared.kinds.Declared.{Declared}
use Rattle.jz_type_names.specs.declared.kinds.Kind as known
use Rattle.jz_type_names.specs.declared.kinds.Kind.TheVariants as scope
use Rattle.jz_type_names.specs.Kinds.{kind_step, kind_of, declared_of, known_of, is_inline_int}
use Rattle.jz_type_names.specs.Scopes.{variables_of}
use Rattle.jz_texts.specs.Texts.{IsPlain as IsPlainText}
use Rattle.jz_meaning.specs.declared.access.Kind.TheVariants as kind
use Rattle.jz_meaning.specs.Values.{Ref, ref_of}
use Rattle.jz_run_laws.specs.Kinds.{Kinds}
use Rattle.jz_bodies.proofs.Refs.{array_declared}
use Rattle.jz_inlining.specs.Inlined.{inlined_function}
use Rattle.jz_unrolling.specs.Unrolled.{KeepsHead}
use Rattle.jz_arrays.specs.Cells.{is_register, cells_of_ty, cells_of_decl, size_at, is_below, scalar}
use Rattle.jz_arrays.proofs.Reading.{kind_size, scalar_is, below_is}
use Rattle.jz_kept_types.proofs.Scaling.{known_scalar}
use Rattle.jz_scalars.specs.Functions.{function_with_scalars}
use Rattle.jz_ready.specs.CopiedKinds.{copied_kinds}
use Rattle.jz_homes.specs.Homes.{Homes}
use Rattle.jz_declared.specs.Declared.{Differ, AreDeclared, held_of, kept_of}
use Rattle.jz_total_rows.specs.Expanded.{HasHome}
use Rattle.jz_total_rows.specs.Variables as named
use Rattle.jz_total_rows.specs.Variables.{IsPlaced}
use Rattle.jz_total_rows.proofs.Placed.{variables_have_homes}
use Rattle.jz_plain_operands.specs.Plain.{IsPlain, a_word, a_slot, a_flag, an_array}
use Rattle.jz_copied_variables.specs.Variables.{frame_of, known_at, IsSeen}
use Rattle.jz_copied_variables.proofs.Seen.{kind_is}
use Rattle.jz_expanded_homes.proofs.Declared.{HasOwn, has_own, among_left}

-- ---- lists
get_there : (xs : List Var) (k : ℕ) (y : Var) → k < length xs → get_or xs k y ≡ y → slice_get xs k ≡ Some y
get_there [] k y lt e = absurd (omega (arith, lt))
get_there (x ∷ xs) zero y lt e = ap Some e
get_there (x ∷ xs) (suc k) y lt e = get_there xs k y (omega (arith, lt)) e

-- ---- declarations
same_declared : (c d : Declared) → Some c ≡ Some d → c ≡ d
same_declared c d e = cc

at_least_one : (n : ℕ) → 1 ≤ n → 0 < n
at_least_one n l = omega (arith, l)

below_test : (n m : ℕ) → nat_lt n m ≡ true → n < m
below_test n m h = grind (arith, nat_tests)

word_ty : (z : Size) → kind_of (ty.Word z) ≡ scope.Word z
word_ty z = ap (λ t. kind_of t) (sym (ty.rolls-Word z)) ∙ ap kind_step (out-roll-Ty (Ty-F.Word z))

-- an array in registers is declared so
array_ty : (t : Ty-F Expr Ty Access Decl Var) (z : Size) → cells_of_ty t ≡ Some z → kind_step t ≡ scope.Array z
array_ty (Ty-F.Array y n) z e = let same : y ≡ z = cc in ap (λ x. scope.Array x) same
array_ty Ty-F.Int z e = absurd cc
array_ty Ty-F.Ty::Bool z e = absurd cc
array_ty (Ty-F.Word y) z e = absurd cc

abbrev register_array : Size → Option Declared
register_array z = Some (record { storage = storage.Reg; kind = scope.Array z })

array_stored : (s : Storage) (t : Ty-F Expr Ty Access Decl Var) (z : Size) → (if is_register s then cells_of_ty t else None) ≡ Some z → Some (record { storage = s; kind = kind_step t }) ≡ register_array z
array_stored storage.Reg t z e = ap (λ (k : known.Kind). Some (record { storage = storage.Reg; kind = k })) (array_ty t z e)
array_stored storage.Stack t z e = absurd cc
array_stored storage.Inline t z e = absurd cc

array_known : (o : Option Decl) (z : Size) → cells_of_decl o ≡ Some z → option_map declared_of o ≡ register_array z
array_known None z e = absurd cc
array_known (Some d) z e = array_stored d.storage (out-Ty d.ty) z e

-- ---- homes by what is declared
module _ (p : Program) (f u : Fun) (plain_text : All IsPlainText (variables_of f)) (head : KeepsHead (inlined_function p f) u) (differ : Differ (variables_of (inlined_function p f)))
    (home : Homes) (declared : AreDeclared (held_of (function_with_scalars u)) (kept_of (function_with_scalars u)) home) where
  abbrev pub Seen : Var → Type 0
  Seen v = IsSeen (copied_kinds p f) (frame_of p f) (known_at p f) v

  abbrev own : (v : Var) → Seen v → is_inline_int (known_of v) ≡ false → HasOwn p f v
  own v h i = has_own p f plain_text v h i

  among : (v : Var) (h : Seen v) (i : is_inline_int (known_of v) ≡ false) → Contains (variables_of (function_with_scalars u)) (own v h i).own
  among v h i =
      let o : HasOwn p f v = own v h i in
      among_left p f u head differ o.own o.among (sym (ap is_inline_int o.known) ∙ i)

  -- what stands for one that is declared
  home_of : (v w : Var) → Contains (variables_of (function_with_scalars u)) w → named.Names w v → HasHome home v
  home_of v w c n = variables_have_homes (function_with_scalars u) home c.0 w v declared (get_there (variables_of (function_with_scalars u)) c.0 w c.1 c.2) n

  itself : (v : Var) → Seen v → is_inline_int (known_of v) ≡ false → IsPlaced v → HasHome home v
  itself v h i placed =
      let o : HasOwn p f v = own v h i in
      home_of v o.own (among v h i) (named.itself o.one h.entire o.known o.kind placed)

  pub whole_homed : (kinds : Kinds) (v : Var) → Seen v → IsPlain kinds (frame_of p f) v → HasHome home v
  whole_homed kinds v h (a_word z d k s) = itself v h (ap is_inline_int d) (named.a_word z d k)
  whole_homed kinds v h (a_slot z d k s) = itself v h (ap is_inline_int d) (named.a_scalar z d k)
  whole_homed kinds v h (a_flag d k s) = itself v h (ap is_inline_int d) (named.a_flag d k)
  whole_homed kinds v h (an_array z n d a) =
      let same : declared_of h.decl ≡ record { storage = storage.Stack; kind = scope.Array z } = same_declared (declared_of h.decl) (record { storage = storage.Stack; kind = scope.Array z }) (sym (ap (option_map declared_of) h.is) ∙ d) in
      let c = array_declared h.decl z h.counted (ap (λ (x : Declared). x.kind) same) in
      itself v h (ap is_inline_int d) (named.an_array z c.0 d (kind_is (copied_kinds p f) (frame_of p f) v h ∙ c.1) (at_least_one c.0 c.3))

  -- a cell of an array in registers
  pub cell_homed : (v : Var) (z : Size) (n : ℕ) → Seen v → size_at v ≡ Some z → is_below (ref_of v).kind n ≡ true → HasHome home (scalar v z n)
  cell_homed v z n h e b =
      let array : known_of v ≡ register_array z = array_known (out-Var v).decl z e in
      let plain : is_inline_int (known_of v) ≡ false = ap is_inline_int array in
      let o : HasOwn p f v = own v h plain in
      let r = scalar_is v z n in
      let a = below_is (ref_of v).kind n b in
      let same : z ≡ a.0 = kind_size v z a.0 a.1 e a.2 in
      let kind_there : (ref_of o.own).kind ≡ kind.Array z a.1 = sym o.kind ∙ (a.2 ∙ ap (λ y. kind.Array y a.1) (sym same)) in
      let word_there : known_of (scalar v z n) ≡ Some (record { storage = storage.Reg; kind = scope.Word z }) =
      known_scalar v z n ∙ ap (λ (k : known.Kind). Some (record { storage = storage.Reg; kind = k })) (word_ty z) in
      home_of (scalar v z n) o.own (among v h plain)
      (named.a_cell z a.1 n (ap (λ (x : Ref). x.name) r ∙ o.one.0, ap (λ (x : Ref). x.copy) r ∙ o.one.1) (ap (λ (x : Ref). x.cell) r) (below_test n a.1 a.3) (sym o.known ∙ array) kind_there word_there (ap (λ (x : Ref). x.kind) r))
