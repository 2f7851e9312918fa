-- Operands as the code finds them.
use Rattle.std.proofs.Common.{◌≡◌, ℕ, ◌<◌, true, Option, Some, None, refl, sym, ap, ◌∙◌, subst, arith, ◌-◌, ◌^◌, ℤ, pos, negsuc, ◌≤ℤ◌, ◌<ℤ◌, w64, to_z, of_z, FitsSigned}
use Rattle.std.specs.Prelude.{nat_lt, if◌then◌else◌}
use Rattle.std.specs.Option.{option_or}
use Rattle.std.proofs.lemmas.Bool.{lt-ltb}
use Rattle.std.proofs.lemmas.Int.{to_z-of_z, ints}
use mir.Syntax.{w128}
use Rattle.jz_words.specs.Readings.{reading_of}
use Rattle.jz_tree.specs.Span.{Span}
use Rattle.jz_words.specs.declared.size.Size.{Size}
use Rattle.jz_words.specs.declared.size.Size.TheVariants.{S8, S16, S32, S64}
use Rattle.jz_tree.specs.declared.expr.Expr.{Expr}
use Rattle.jz_tree.specs.declared.expr.Expr.TheVariants as expr
use Rattle.jz_tree.specs.declared.expr.Expr.TheFolds.{fold-roll-Var}
use Rattle.jz_tree.specs.declared.expr.Expr.TheViews.{out-Var, roll-out-Var}
use Rattle.jz_tree.specs.declared.expr.Access.{Access}
use Rattle.jz_tree.specs.declared.expr.Var.{Var}
use Rattle.jz_tree.specs.declared.stmt.Lval.TheVariants as lval
use Rattle.jz_type_names.specs.Kinds.{same_size}
use Rattle.jz_meaning.specs.declared.access.Kind.TheVariants as kind
use Rattle.jz_meaning.specs.Values.{Ref, key_of, ref_of, expr_step, ty_step, access_step, decl_step, var_step}
use Rattle.jz_operations.specs.declared.operation.Address.{Address}
use Rattle.jz_operations.specs.declared.operation.Arg.TheVariants as arg
use Rattle.jz_homes.specs.Homes.{Homes, in_register, in_cell}
use Rattle.jz_homes.specs.Operands.{silent, told, cell_leaks, IsArg, a_number, a_word, a_scalar, a_cell, a_load, IsDest, to_word, to_scalar, to_cell, to_memory}
use Rattle.jz_operands.specs.declared.homes.Home.TheVariants.{Word, Slot, Cells}
use Rattle.jz_operands.specs.declared.homes.Homes as code
use Rattle.jz_operands.specs.TableHomes.{entry_at, scalar_home, home_within, homes_of, IsArrayAt, HasSize}
use Rattle.jz_operands.specs.InnerSums.{IsAddressOf, IsIndexOf}

pub size_one : (y z : Size) → same_size y z ≡ true → y ≡ z
size_one S8 S8 e = refl
size_one S8 S16 e = absurd cc
size_one S8 S32 e = absurd cc
size_one S8 S64 e = absurd cc
size_one S16 S8 e = absurd cc
size_one S16 S16 e = refl
size_one S16 S32 e = absurd cc
size_one S16 S64 e = absurd cc
size_one S32 S8 e = absurd cc
size_one S32 S16 e = absurd cc
size_one S32 S32 e = refl
size_one S32 S64 e = absurd cc
size_one S64 S8 e = absurd cc
size_one S64 S16 e = absurd cc
size_one S64 S32 e = absurd cc
size_one S64 S64 e = refl

-- ---- numbers
fits_64 : (r : ℤ) → negsuc (2 ^ 63 - 1) ≤ℤ r → r <ℤ pos (2 ^ 63) → FitsSigned w64 r
fits_64 (pos n) l h = record { sfits = omega (arith, ints, h) }
fits_64 (negsuc n) l h = record { sfits = omega (arith, ints, l) }

fits_128 : (r : ℤ) → negsuc (2 ^ 63 - 1) ≤ℤ r → r <ℤ pos (2 ^ 63) → FitsSigned w128 r
fits_128 (pos n) l h = record { sfits = omega (arith, ints, h) }
fits_128 (negsuc n) l h = record { sfits = omega (arith, ints, l) }

pub number_arg : {home : Homes} (e : Expr) (i : ℤ) (at : Span) (z : Size) (r : ℤ) → e ≡ expr.Num i at → r ≡ reading_of z i → negsuc (2 ^ 63 - 1) ≤ℤ r → r <ℤ pos (2 ^ 63)
    → IsArg home z e (arg.Imm (to_z w64 (of_z w64 (to_z w128 (of_z w128 r))))) silent
number_arg {home} e i at z r is value low high =
    let same : to_z w64 (of_z w64 (to_z w128 (of_z w128 r))) ≡ reading_of z i = ap (λ j. to_z w64 (of_z w64 j)) (to_z-of_z w128 r (fits_128 r low high)) ∙ to_z-of_z w64 r (fits_64 r low high) ∙ value in
    subst (λ j. IsArg home z e (arg.Imm j) silent) (sym same) (subst (λ x. IsArg home z x (arg.Imm (reading_of z i)) silent) (sym is) (a_number i at))

-- ---- words
pub word_arg : {home : Homes} (x : Var) (n : ℕ) (y z : Size) → home (key_of (ref_of x)) ≡ scalar_home (Some (Word n y)) → same_size y z ≡ true → IsArg home z (expr.Var x) (arg.Var n) silent
word_arg x n y z h e = a_word x n (h ∙ ap (λ s. Some (in_register n s)) (size_one y z e))

pub word_dest : {home : Homes} (x : Var) (n : ℕ) (y z : Size) → home (key_of (ref_of x)) ≡ scalar_home (Some (Word n y)) → same_size y z ≡ true → (ref_of x).kind ≡ kind.Word z → IsDest home z (lval.Var x) (arg.Var n) silent
word_dest x n y z h e k = to_word x n k (h ∙ ap (λ s. Some (in_register n s)) (size_one y z e))

pub slot_arg : {home : Homes} (x : Var) (w : ℕ) (y z : Size) → home (key_of (ref_of x)) ≡ scalar_home (Some (Slot w y)) → same_size y z ≡ true → IsArg home z (expr.Var x) (arg.Cell (record { of = w; index = None; offset = pos 0 })) silent
slot_arg x w y z h e = a_scalar x w (h ∙ ap (λ s. Some (in_cell w 0 s)) (size_one y z e))

pub slot_dest : {home : Homes} (x : Var) (w : ℕ) (y z : Size) → home (key_of (ref_of x)) ≡ scalar_home (Some (Slot w y)) → same_size y z ≡ true → (ref_of x).kind ≡ kind.Word z → IsDest home z (lval.Var x) (arg.Cell (record { of = w; index = None; offset = pos 0 })) silent
slot_dest x w y z h e k = to_scalar x w k (h ∙ ap (λ s. Some (in_cell w 0 s)) (size_one y z e))

-- ---- arrays
pub ref_name : (x : Var) → (ref_of x).name ≡ (out-Var x).name
ref_name x = ap (λ w. (ref_of w).name) (sym (roll-out-Var x)) ∙ ap (λ (r : Ref). r.name) (fold-roll-Var _ _ _ _ _ expr_step ty_step access_step decl_step var_step (out-Var x))

pub ref_copy : (x : Var) → (ref_of x).copy ≡ (out-Var x).copy
ref_copy x = ap (λ w. (ref_of w).copy) (sym (roll-out-Var x)) ∙ ap (λ (r : Ref). r.copy) (fold-roll-Var _ _ _ _ _ expr_step ty_step access_step decl_step var_step (out-Var x))

below : (i n : ℕ) (w : ℕ) (s : Size) → i < n → (if nat_lt i n then Some (in_cell w i s) else None) ≡ Some (in_cell w i s)
below i n w s h = let e : nat_lt i n ≡ true = lt-ltb i n h in rw e refl

pub array_at : (t : code.Homes) (x : Var) (w : ℕ) (y z s : Size) (n m : ℕ) → (ref_of x).kind ≡ kind.Array z m → entry_at t (out-Var x).name (out-Var x).copy None ≡ Some (Cells w y n) → same_size z s ≡ true → same_size y s ≡ true → n ≡ m → 0 < m → IsArrayAt (homes_of t) x s w
array_at t x w y z s n m k e f g same some = (
  m,
  k ∙ ap (λ u. kind.Array u m) (size_one z s f),
  some,
  λ i h. ap (λ o. home_within (Some i) o (entry_at t (ref_of x).name (ref_of x).copy (Some i))) (ap (λ l. entry_at t l (ref_of x).copy None) (ref_name x) ∙ ap (λ c. entry_at t (out-Var x).name c None) (ref_copy x) ∙ e)
      ∙ below i n w y (subst (λ u. i < u) (sym same) h) ∙ ap (λ u. Some (in_cell w i u)) (size_one y s g),
)

pub cell_arg : {home : Homes} (x : Var) (e : Expr) (z : Size) (w : ℕ) (b : Option ℕ) (i : ℤ) → IsArrayAt home x z w → IsIndexOf home e b i → IsArg home z (expr.Cell x e) (arg.Cell (record { of = w; index = b; offset = i })) (cell_leaks b)
cell_arg x e z w b i h k = a_cell x e h.0 w k.sum b i (h.1, h.2, h.3) k.is k.index

pub cell_dest : {home : Homes} (x : Var) (e : Expr) (z : Size) (w : ℕ) (b : Option ℕ) (i : ℤ) → IsArrayAt home x z w → IsIndexOf home e b i → IsDest home z (lval.Cell x e) (arg.Cell (record { of = w; index = b; offset = i })) (cell_leaks b)
cell_dest x e z w b i h k = to_cell x e h.0 w k.sum b i (h.1, h.2, h.3) k.is k.index

-- ---- memory
pub load_arg : {home : Homes} (a : Access) (z : Size) (m : Address) → HasSize a z → IsAddressOf home a.at m → IsArg home z (expr.Load a) (arg.Mem m) told
load_arg a z m h k = a_load a k.sum m h k.is k.address

pub store_dest : {home : Homes} (a : Access) (z : Size) (m : Address) → HasSize a z → IsAddressOf home a.at m → IsDest home z (lval.Store a) (arg.Mem m) told
store_dest a z m h k = to_memory a k.sum m h k.is k.address

pub with_size : (a : Access) (y z : Size) → a.size ≡ Some y → same_size y z ≡ true → HasSize a z
with_size a y z e h = ap (λ o. option_or o (Some z)) e ∙ ap (λ s. Some s) (size_one y z h)

pub without_size : (a : Access) (z : Size) → a.size ≡ None → HasSize a z
without_size a z e = ap (λ o. option_or o (Some z)) e
