-- Trees that are found equal are equal, and a tree is found equal to itself.
use Rattle.std.proofs.Common.{◌≡◌, ℕ, Bool, true, false, ◌&&◌, List, Option, Some, None, refl, sym, ap, ◌∙◌}
use Rattle.std.specs.Prelude.{◌==◌, nat_eq, if◌then◌else◌}
use Rattle.std.specs.Str.{bytes_eq}
use Rattle.std.specs.Cmp.{unsigned_Decides}
use Rattle.std.proofs.lemmas.Bool.Decides.{Decides-int_eq}
use Rattle.std.proofs.lemmas.Slice.Eq.{bytes_eq-Decides}
use Rattle.jz_words.specs.declared.size.Size.{Size}
use Rattle.jz_words.specs.declared.size.Size.TheVariants.{S8, S16, S32, S64}
use Rattle.jz_words.specs.Sizes.{bits_of}
use Rattle.jz_tree.specs.declared.expr.BinOp.{BinOp}
use Rattle.jz_tree.specs.declared.expr.BinOp.TheVariants as op
use Rattle.jz_select.specs.Trees.{Named, cell_eq, names_eq, bool_eq, operator_number, Tree, Number, Truth, Name, CellOf, Loaded, Minus, Opposite, CastTo, Both, tree_eq}

-- ---- both of two
pub from_both : (a b : Bool) → (a && b) ≡ true → (a ≡ true) × (b ≡ true)
from_both true b e = (refl, e)
from_both false b e = absurd cc

to_both : (a b : Bool) → a ≡ true → b ≡ true → (a && b) ≡ true
to_both a b p q = ap (λ x. x && b) p ∙ q

-- ---- parts
cell_one : (a b : Option ℕ) → cell_eq a b ≡ true → a ≡ b
cell_one None None e = refl
cell_one None (Some k) e = absurd cc
cell_one (Some j) None e = absurd cc
cell_one (Some j) (Some k) e = ap Some ((unsigned_Decides j k).0 e)

cell_self : (a : Option ℕ) → cell_eq a a ≡ true
cell_self None = refl
cell_self (Some j) = (unsigned_Decides j j).1 refl

abbrev of_parts : List ℕ → ℕ → Option ℕ → Named
of_parts name copy cell = record { name = name; copy = copy; cell = cell }

named_by : (a a' : List ℕ) (b b' : ℕ) (c c' : Option ℕ) → a ≡ a' → b ≡ b' → c ≡ c'
    → of_parts a b c ≡ of_parts a' b' c'
named_by a a' b b' c c' e f g =
    ap (λ x. of_parts x b c) e
    ∙ (ap (λ x. of_parts a' x c) f ∙ ap (λ x. of_parts a' b' x) g)

names_one : (v w : Named) → names_eq v w ≡ true → v ≡ w
names_one v w e =
    let texts = from_both (bytes_eq v.name w.name) (nat_eq v.copy w.copy && cell_eq v.cell w.cell) e in
    let rest = from_both (nat_eq v.copy w.copy) (cell_eq v.cell w.cell) texts.1 in
    named_by v.name w.name v.copy w.copy v.cell w.cell ((bytes_eq-Decides v.name w.name).0 texts.0) ((unsigned_Decides v.copy w.copy).0 rest.0) (cell_one v.cell w.cell rest.1)

names_self : (v : Named) → names_eq v v ≡ true
names_self v = to_both _ _ ((bytes_eq-Decides v.name v.name).1 refl) (to_both _ _ ((unsigned_Decides v.copy v.copy).1 refl) (cell_self v.cell))

truth_one : (a b : Bool) → bool_eq a b ≡ true → a ≡ b
truth_one true true e = refl
truth_one true false e = absurd cc
truth_one false true e = absurd cc
truth_one false false e = refl

truth_self : (a : Bool) → bool_eq a a ≡ true
truth_self true = refl
truth_self false = refl

abbrev size_at : ℕ → Size
size_at n = if n == 8 then S8 else if n == 16 then S16 else if n == 32 then S32 else S64

size_back : (z : Size) → size_at (bits_of z) ≡ z
size_back S8 = refl
size_back S16 = refl
size_back S32 = refl
size_back S64 = refl

size_one : (z y : Size) → nat_eq (bits_of z) (bits_of y) ≡ true → z ≡ y
size_one z y e = sym (size_back z) ∙ (ap size_at ((unsigned_Decides (bits_of z) (bits_of y)).0 e) ∙ size_back y)

abbrev operation_at : ℕ → BinOp
operation_at n =
    if n == 0 then op.OrElse
    else if n == 1 then op.AndThen
    else if n == 2 then op.Or
    else if n == 3 then op.Xor
    else if n == 4 then op.And
    else if n == 5 then op.Eq
    else if n == 6 then op.Ne
    else if n == 7 then op.Lt
    else if n == 8 then op.Le
    else if n == 9 then op.Gt
    else if n == 10 then op.Ge
    else if n == 11 then op.LtS
    else if n == 12 then op.LeS
    else if n == 13 then op.GtS
    else if n == 14 then op.GeS
    else if n == 15 then op.Shl
    else if n == 16 then op.Shr
    else if n == 17 then op.Sar
    else if n == 18 then op.Rol
    else if n == 19 then op.Ror
    else if n == 20 then op.Add
    else if n == 21 then op.Sub
    else if n == 22 then op.Mul
    else if n == 23 then op.Div
    else if n == 24 then op.Rem
    else if n == 25 then op.DivS
    else op.RemS

operation_back : (o : BinOp) → operation_at (operator_number o) ≡ o
operation_back op.OrElse = refl
operation_back op.AndThen = refl
operation_back op.Or = refl
operation_back op.Xor = refl
operation_back op.And = refl
operation_back op.Eq = refl
operation_back op.Ne = refl
operation_back op.Lt = refl
operation_back op.Le = refl
operation_back op.Gt = refl
operation_back op.Ge = refl
operation_back op.LtS = refl
operation_back op.LeS = refl
operation_back op.GtS = refl
operation_back op.GeS = refl
operation_back op.Shl = refl
operation_back op.Shr = refl
operation_back op.Sar = refl
operation_back op.Rol = refl
operation_back op.Ror = refl
operation_back op.Add = refl
operation_back op.Sub = refl
operation_back op.Mul = refl
operation_back op.Div = refl
operation_back op.Rem = refl
operation_back op.DivS = refl
operation_back op.RemS = refl

operation_one : (o p : BinOp) → nat_eq (operator_number o) (operator_number p) ≡ true → o ≡ p
operation_one o p e = sym (operation_back o) ∙ (ap operation_at ((unsigned_Decides (operator_number o) (operator_number p)).0 e) ∙ operation_back p)

-- ---- trees
cast_by : (z y : Size) (s t : Bool) (a b : Tree) → z ≡ y → s ≡ t → a ≡ b → CastTo z s a ≡ CastTo y t b
cast_by z y s t a b e f g = ap (λ x. CastTo x s a) e ∙ (ap (λ x. CastTo y x a) f ∙ ap (CastTo y t) g)

both_by : (o p : BinOp) (a b c d : Tree) → o ≡ p → a ≡ c → b ≡ d → Both o a b ≡ Both p c d
both_by o p a b c d e f g = ap (λ x. Both x a b) e ∙ (ap (λ x. Both p x b) f ∙ ap (Both p c) g)

cell_by : (v w : Named) (j k : Tree) → v ≡ w → j ≡ k → CellOf v j ≡ CellOf w k
cell_by v w j k e f = ap (λ x. CellOf x j) e ∙ ap (CellOf w) f

pub tree_one : (s t : Tree) → tree_eq s t ≡ true → s ≡ t
tree_one (Number m) (Number n) e = ap Number ((Decides-int_eq m n).0 e)
tree_one (Number m) _ e = absurd cc
tree_one (Truth b) (Truth c) e = ap Truth (truth_one b c e)
tree_one (Truth b) _ e = absurd cc
tree_one (Name v) (Name w) e = ap Name (names_one v w e)
tree_one (Name v) _ e = absurd cc
tree_one (CellOf v j) (CellOf w k) e =
    let parts = from_both (names_eq v w) (tree_eq j k) e in
    cell_by v w j k (names_one v w parts.0) (tree_one j k parts.1)
tree_one (CellOf v j) _ e = absurd cc
tree_one (Loaded a) (Loaded b) e = ap Loaded (tree_one a b e)
tree_one (Loaded a) _ e = absurd cc
tree_one (Minus a) (Minus b) e = ap Minus (tree_one a b e)
tree_one (Minus a) _ e = absurd cc
tree_one (Opposite a) (Opposite b) e = ap Opposite (tree_one a b e)
tree_one (Opposite a) _ e = absurd cc
tree_one (CastTo z s a) (CastTo y t b) e =
    let parts = from_both (nat_eq (bits_of z) (bits_of y)) (bool_eq s t && tree_eq a b) e in
    let rest = from_both (bool_eq s t) (tree_eq a b) parts.1 in
    cast_by z y s t a b (size_one z y parts.0) (truth_one s t rest.0) (tree_one a b rest.1)
tree_one (CastTo z s a) _ e = absurd cc
tree_one (Both o a b) (Both p c d) e =
    let parts = from_both (nat_eq (operator_number o) (operator_number p)) (tree_eq b d && tree_eq a c) e in
    let rest = from_both (tree_eq b d) (tree_eq a c) parts.1 in
    both_by o p a b c d (operation_one o p parts.0) (tree_one a c rest.1) (tree_one b d rest.0)
tree_one (Both o a b) _ e = absurd cc

pub tree_self : (t : Tree) → tree_eq t t ≡ true
tree_self (Number m) = (Decides-int_eq m m).1 refl
tree_self (Truth b) = truth_self b
tree_self (Name v) = names_self v
tree_self (CellOf v k) = to_both (names_eq v v) (tree_eq k k) (names_self v) (tree_self k)
tree_self (Loaded a) = tree_self a
tree_self (Minus a) = tree_self a
tree_self (Opposite a) = tree_self a
tree_self (CastTo z s a) = to_both _ _ ((unsigned_Decides (bits_of z) (bits_of z)).1 refl) (to_both _ _ (truth_self s) (tree_self a))
tree_self (Both o a b) = to_both _ _ ((unsigned_Decides (operator_number o) (operator_number o)).1 refl) (to_both _ _ (tree_self b) (tree_self a))
