-- An expression is one operand, and a left side one destination.
use Rattle.std.proofs.Common.{◌≡◌, ℕ, Option, Some, None, refl, sym, ap, ◌∙◌, subst, ℤ, pos}
use Rattle.jz_words.specs.declared.size.Size.{Size}
use Rattle.jz_words.specs.Readings.{reading_of}
use Rattle.jz_io.specs.declared.span.Span.{Span}
use Rattle.jz_tree.specs.declared.expr.Expr.{Expr}
use Rattle.jz_tree.specs.declared.expr.Expr.TheOpen.{Expr-F}
use Rattle.jz_tree.specs.declared.expr.Expr.TheViews.{out-Expr}
use Rattle.jz_tree.specs.declared.expr.Var.{Var}
use Rattle.jz_tree.specs.declared.expr.Access.{Access}
use Rattle.jz_tree.specs.declared.stmt.Lval.{Lval}
use Rattle.jz_meaning.specs.Assignments.{Layer}
use Rattle.jz_meaning.specs.Values.{key_of, ref_of}
use Rattle.jz_operations.specs.declared.operation.Address.{Address}
use Rattle.jz_operations.specs.declared.operation.Arg.{Arg}
use Rattle.jz_operations.specs.declared.operation.Arg.TheVariants as arg
use Rattle.jz_homes.specs.Homes.{Home, Homes, in_register, in_cell}
use Rattle.jz_homes.specs.Sums.{Sum, IsSum, IsAddress, IsIndex}
use Rattle.jz_homes.specs.Operands.{Leaks, silent, told, cell_leaks, AreCells, IsArg, a_word, a_number, a_scalar, a_cell, a_load, IsDest, to_word, to_scalar, to_cell, to_memory}
use Rattle.jz_one_row.proofs.Sums.{one_sum, one_address, one_index}
use Rattle.jz_one_row.proofs.Outs.{out_cell, out_load, out_num, out_var}

-- ---- homes
pub register_of : (m n : ℕ) (y z : Size) → ◌≡◌ {A = Option Home} (Some (in_register m y)) (Some (in_register n z)) → m ≡ n
register_of m n y z e = cc

pub size_of_register : (m n : ℕ) (y z : Size) → ◌≡◌ {A = Option Home} (Some (in_register m y)) (Some (in_register n z)) → y ≡ z
size_of_register m n y z e = cc

cell_of : (v w i j : ℕ) (y z : Size) → ◌≡◌ {A = Option Home} (Some (in_cell v i y)) (Some (in_cell w j z)) → v ≡ w
cell_of v w i j y z e = cc

no_cell : (n w i : ℕ) (y z : Size) → ◌≡◌ {A = Option Home} (Some (in_register n y)) (Some (in_cell w i z)) → ⊥
no_cell n w i y z e = absurd cc

one_stack : (home : Homes) (x : Var) (z : Size) (m n v w : ℕ) → AreCells home x z m v → AreCells home x z n w → v ≡ w
one_stack home x z m n v w c d = cell_of v w 0 0 z z (sym (c.2 0 c.1) ∙ d.2 0 d.1)

cell_is : (v w : ℕ) (b c : Option ℕ) (i j : ℤ) → v ≡ w → b ≡ c → i ≡ j → ◌≡◌ {A = Arg} (arg.Cell (record { of = v; index = b; offset = i })) (arg.Cell (record { of = w; index = c; offset = j }))
cell_is v w b c i j e f g = λ k. arg.Cell (record { of = e k; index = f k; offset = g k })

-- ---- operands by the outermost layer
pub data ArgLayer (home : Homes) (z : Size) : Layer → Arg → Leaks → Type 0 where
  l_word : (x : Var) (n : ℕ) → home (key_of (ref_of x)) ≡ Some (in_register n z) → ArgLayer home z (Expr-F.Var x) (arg.Var n) silent
  l_number : (i : ℤ) (at : Span) → ArgLayer home z (Expr-F.Num i at) (arg.Imm (reading_of z i)) silent
  l_scalar : (x : Var) (w : ℕ) → home (key_of (ref_of x)) ≡ Some (in_cell w 0 z) → ArgLayer home z (Expr-F.Var x) (arg.Cell (record { of = w; index = None; offset = pos 0 })) silent
  l_cell : (x : Var) (e : Expr) (n w : ℕ) (t : Sum) (b : Option ℕ) (i : ℤ) → AreCells home x z n w → IsSum home e t → IsIndex t b i → ArgLayer home z (Expr-F.Cell x e) (arg.Cell (record { of = w; index = b; offset = i })) (cell_leaks b)
  l_load : (a : Access) (t : Sum) (m : Address) → IsSum home a.at t → IsAddress t m → ArgLayer home z (Expr-F.Load a) (arg.Mem m) told

pub arg_layer : (home : Homes) (z : Size) (e : Expr) (a : Arg) (p : Leaks) → IsArg home z e a p → ArgLayer home z (out-Expr e) a p
arg_layer home z e a p (a_word x n h) = subst (λ l. ArgLayer home z l (arg.Var n) silent) (sym (out_var x)) (l_word x n h)
arg_layer home z e a p (a_number i at) = subst (λ l. ArgLayer home z l (arg.Imm (reading_of z i)) silent) (sym (out_num i at)) (l_number i at)
arg_layer home z e a p (a_scalar x w h) = subst (λ l. ArgLayer home z l (arg.Cell (record { of = w; index = None; offset = pos 0 })) silent) (sym (out_var x)) (l_scalar x w h)
arg_layer home z e a p (a_cell x f n w t b i c s d) = subst (λ l. ArgLayer home z l (arg.Cell (record { of = w; index = b; offset = i })) (cell_leaks b)) (sym (out_cell x f)) (l_cell x f n w t b i c s d)
arg_layer home z e a p (a_load f t m size s d) = subst (λ l. ArgLayer home z l (arg.Mem m) told) (sym (out_load f)) (l_load f t m s d)

pub one_at : (home : Homes) (z : Size) (l : Layer) (a b : Arg) (p q : Leaks) → ArgLayer home z l a p → ArgLayer home z l b q → (a ≡ b) × (p ≡ q)
one_at home z l a b p q (l_word x n h) (l_word y m g) = (ap arg.Var (register_of n m z z (sym h ∙ g)), refl)
one_at home z l a b p q (l_word x n h) (l_scalar y w g) = absurd (no_cell n w 0 z z (sym h ∙ g))
one_at home z l a b p q (l_scalar x w h) (l_word y n g) = absurd (no_cell n w 0 z z (sym g ∙ h))
one_at home z l a b p q (l_scalar x v h) (l_scalar y w g) = (cell_is v w None None (pos 0) (pos 0) (cell_of v w 0 0 z z (sym h ∙ g)) refl refl, refl)
one_at home z l a b p q (l_number i at) (l_number j here) = (refl, refl)
one_at home z l a b p q (l_cell x e m v t c i cells s d) (l_cell y f n w u k j cells2 s2 d2) =
    let r = one_index t u c k i j (one_sum home e t u s s2) d d2 in
    (cell_is v w c k i j (one_stack home x z m n v w cells cells2) r.0 r.1, ap cell_leaks r.0)
one_at home z l a b p q (l_load f t m s d) (l_load g u n s2 d2) = (ap arg.Mem (one_address t u m n (one_sum home f.at t u s s2) d d2), refl)

pub one_arg : (home : Homes) (z : Size) (e : Expr) (a b : Arg) (p q : Leaks) → IsArg home z e a p → IsArg home z e b q → (a ≡ b) × (p ≡ q)
one_arg home z e a b p q f g = one_at home z (out-Expr e) a b p q (arg_layer home z e a p f) (arg_layer home z e b q g)

-- ---- destinations
pub one_dest : (home : Homes) (z : Size) (d : Lval) (a b : Arg) (p q : Leaks) → IsDest home z d a p → IsDest home z d b q → (a ≡ b) × (p ≡ q)
one_dest home z d a b p q (to_word x n k h) (to_word y m j g) = (ap arg.Var (register_of n m z z (sym h ∙ g)), refl)
one_dest home z d a b p q (to_word x n k h) (to_scalar y w j g) = absurd (no_cell n w 0 z z (sym h ∙ g))
one_dest home z d a b p q (to_scalar x w k h) (to_word y n j g) = absurd (no_cell n w 0 z z (sym g ∙ h))
one_dest home z d a b p q (to_scalar x v k h) (to_scalar y w j g) = (cell_is v w None None (pos 0) (pos 0) (cell_of v w 0 0 z z (sym h ∙ g)) refl refl, refl)
one_dest home z d a b p q (to_cell x e m v t c i cells s k) (to_cell y f n w u h j cells2 s2 k2) =
    let r = one_index t u c h i j (one_sum home e t u s s2) k k2 in
    (cell_is v w c h i j (one_stack home x z m n v w cells cells2) r.0 r.1, ap cell_leaks r.0)
one_dest home z d a b p q (to_memory f t m size s k) (to_memory g u n size2 s2 k2) = (ap arg.Mem (one_address t u m n (one_sum home f.at t u s s2) k k2), refl)
