-- What a sum, a product or a sign is built of: of two operands that are built alike, alike.
use Rattle.std.proofs.Common.{◌≡◌, ◌⊎◌, inl, inr, if◌then◌else◌, Bool, true, false, ◌&&◌, ◌||◌, refl, sym, ap, ap₂, ◌∙◌}
use Rattle.std.proofs.lemmas.Bool.{false≢true, true≢false, and_parts, and_from}
use Rattle.jz_tree.specs.Operators.{joins}
use Rattle.jz_tree.specs.declared.expr.BinOp.{BinOp}
use Rattle.jz_tree.specs.declared.expr.BinOp.TheVariants as op
use Rattle.jz_select.specs.Sums.{joined_sum, sum_of, term, taken_sum}
use Rattle.jz_select.specs.Look.{Look, looks, compares_values, gives_number, bin_inline, bin_condition, bin_scaled, bin_sum}

-- no inline integer, no register, and no sum of these
pub record IsNothing (a : Look) : Type 0 where
  pub inline : a.inline ≡ false
  pub reg : a.reg ≡ false
  pub scaled : a.scaled ≡ false
  pub bad : a.sum.good ≡ false

pub record IsNumber (a : Look) : Type 0 where
  pub inline : a.inline ≡ true
  pub reg : a.reg ≡ false
  pub scaled : a.scaled ≡ false
  pub sum : a.sum ≡ sum_of 0 0 true

pub data IsBuilt (a b : Look) : Type 0 where
  alike : b.inline ≡ a.inline → b.reg ≡ a.reg → b.scaled ≡ a.scaled → b.sum ≡ a.sum → IsBuilt a b
  otherwise : IsNothing a → IsBuilt a b

pub itself : (a : Look) → IsBuilt a a
itself a = alike refl refl refl refl

-- ---- bools
pub and_second : (x y : Bool) → y ≡ false → (x && y) ≡ false
and_second true y e = e
and_second false y e = refl

pub and_first : (x y : Bool) → x ≡ false → (x && y) ≡ false
and_first x y e = ap (λ z. z && y) e

-- ---- two operands
abbrev pub two : BinOp → Look → Look → Look
two o a b = record {
  inline = bin_inline o a b;
  condition = bin_condition o a b;
  reg = false;
  scaled = bin_scaled o a b;
  sum = bin_sum o a b;
}

same_inline : (o : BinOp) (a b c d : Look) → c.inline ≡ a.inline → d.inline ≡ b.inline → bin_inline o c d ≡ bin_inline o a b
same_inline o a b c d p q = ap₂ (λ x y. gives_number o && (y && x)) p q

same_scaled : (o : BinOp) (a b c d : Look) → c.inline ≡ a.inline → c.reg ≡ a.reg → d.inline ≡ b.inline → d.reg ≡ b.reg → bin_scaled o c d ≡ bin_scaled o a b
same_scaled op.Mul a b c d p q r s = ap₂ (λ x y. x || y) (ap₂ (λ x y. x && y) q r) (ap₂ (λ x y. x && y) p s)
same_scaled o a b c d p q r s = refl

same_sum : (o : BinOp) (a b c d : Look) → c.inline ≡ a.inline → c.reg ≡ a.reg → c.sum ≡ a.sum → d.inline ≡ b.inline → d.reg ≡ b.reg → d.sum ≡ b.sum → bin_sum o c d ≡ bin_sum o a b
same_sum op.Add a b c d p q s i r t = ap₂ (λ x y. joined_sum x y) t s
same_sum op.Sub a b c d p q s i r t = ap₂ (λ x y. joined_sum (taken_sum x) y) i s
same_sum o a b c d p q s i r t = ap₂ (λ x y. term x false y) (same_inline o a b c d p i) (same_scaled o a b c d p q i r)

-- one of them is nothing
left_inline : (o : BinOp) (a b : Look) → IsNothing a → bin_inline o a b ≡ false
left_inline o a b n = and_second (gives_number o) (b.inline && a.inline) (and_second b.inline a.inline n.inline)

left_scaled : (o : BinOp) (a b : Look) → IsNothing a → bin_scaled o a b ≡ false
left_scaled op.Mul a b n = ap₂ (λ x y. (x && b.inline) || (y && b.reg)) n.reg n.inline
left_scaled o a b n = refl

left_bad : (o : BinOp) (a b : Look) → IsNothing a → (bin_sum o a b).good ≡ false
left_bad op.Add a b n = and_second b.sum.good a.sum.good n.bad
left_bad op.Sub a b n = and_second b.inline a.sum.good n.bad
left_bad o a b n = ap₂ (λ x y. (term x false y).good) (left_inline o a b n) (left_scaled o a b n)

pub left_nothing : (o : BinOp) (a b : Look) → IsNothing a → IsNothing (two o a b)
left_nothing o a b n = record { inline = left_inline o a b n; reg = refl; scaled = left_scaled o a b n; bad = left_bad o a b n }

right_inline : (o : BinOp) (a b : Look) → IsNothing b → bin_inline o a b ≡ false
right_inline o a b n = and_second (gives_number o) (b.inline && a.inline) (and_first b.inline a.inline n.inline)

neither : (x y p q : Bool) → p ≡ false → q ≡ false → ((x && p) || (y && q)) ≡ false
neither x y p q e f = ap₂ (λ a b. a || b) (and_second x p e) (and_second y q f)

right_scaled : (o : BinOp) (a b : Look) → IsNothing b → bin_scaled o a b ≡ false
right_scaled op.Mul a b n = neither a.reg a.inline b.inline b.reg n.inline n.reg
right_scaled o a b n = refl

right_bad : (o : BinOp) (a b : Look) → IsNothing b → (bin_sum o a b).good ≡ false
right_bad op.Add a b n = and_first b.sum.good a.sum.good n.bad
right_bad op.Sub a b n = and_first b.inline a.sum.good n.inline
right_bad o a b n = ap₂ (λ x y. (term x false y).good) (right_inline o a b n) (right_scaled o a b n)

pub right_nothing : (o : BinOp) (a b : Look) → IsNothing b → IsNothing (two o a b)
right_nothing o a b n = record { inline = right_inline o a b n; reg = refl; scaled = right_scaled o a b n; bad = right_bad o a b n }

pub two_built : (o : BinOp) (a b c d : Look) → IsBuilt a c → IsBuilt b d → IsBuilt (two o a b) (two o c d)
two_built o a b c d (otherwise n) y = otherwise (left_nothing o a b n)
two_built o a b c d (alike i r s t) (otherwise n) = otherwise (right_nothing o a b n)
two_built o a b c d (alike i r s t) (alike j q u w) =
    alike (same_inline o a b c d i j) refl (same_scaled o a b c d i r j q) (same_sum o a b c d i r t j q w)

pub inline_kept : (a b : Look) → IsBuilt a b → a.inline ≡ true → b.inline ≡ true
inline_kept a b (alike i r s t) e = i ∙ e
inline_kept a b (otherwise n) e = absurd (false≢true (sym n.inline ∙ e))

pub sum_kept : (a b : Look) → IsBuilt a b → a.sum.good ≡ true → b.sum ≡ a.sum
sum_kept a b (alike i r s t) e = t
sum_kept a b (otherwise n) e = absurd (false≢true (sym n.bad ∙ e))

-- a sign before it
pub signed : (x y c d : Bool) (a b : Look) → IsBuilt a b → x ≡ a.inline → y ≡ b.inline → IsBuilt (looks x c false false) (looks y d false false)
signed x y c d a b (alike i r s t) p q = let e = q ∙ (i ∙ sym p) in alike e refl refl (ap (λ z. term z false false) e)
signed x y c d a b (otherwise n) p q =
    let e = p ∙ n.inline in
    otherwise (record { inline = e; reg = refl; scaled = refl; bad = ap (λ z. (term z false false).good) e })

-- ---- inline conditions
conditions_kept : (j v : Bool) (p q r s p' q' r' s' : Bool) → (p ≡ true → p' ≡ true) → (q ≡ true → q' ≡ true) → (r ≡ true → r' ≡ true) → (s ≡ true → s' ≡ true)
    → (if j then q && p else v && (s && r)) ≡ true → (if j then q' && p' else v && (s' && r')) ≡ true
conditions_kept true v p q r s p' q' r' s' f g h k e = let x = and_parts q p e in and_from q' p' (g x.0) (f x.1)
conditions_kept false v p q r s p' q' r' s' f g h k e =
    let x = and_parts v (s && r) e in
    let y = and_parts s r x.1 in
    and_from v (s' && r') x.0 (and_from s' r' (k y.0) (h y.1))

pub two_condition : (o : BinOp) (a b c d : Look) → IsBuilt a c → IsBuilt b d → (a.condition ≡ true → c.condition ≡ true) → (b.condition ≡ true → d.condition ≡ true) → bin_condition o a b ≡ true → bin_condition o c d ≡ true
two_condition o a b c d x y f g =
    conditions_kept (joins o) (compares_values o) a.condition b.condition a.inline b.inline c.condition d.condition c.inline d.inline f g (inline_kept a c x) (inline_kept b d y)

-- ---- of inline integers
abbrev pub Inlined : Look → Type 0
Inlined a = IsNumber a ⊎ IsNothing a

pub bool_inlined : (i c : Bool) → Inlined (looks i c false false)
bool_inlined true c = inl (record { inline = refl; reg = refl; scaled = refl; sum = refl })
bool_inlined false c = inr (record { inline = refl; reg = refl; scaled = refl; bad = refl })

number_scaled : (o : BinOp) (a b : Look) → IsNumber a → IsNumber b → bin_scaled o a b ≡ false
number_scaled op.Mul a b n m = ap₂ (λ x y. x || y) (and_first a.reg b.inline n.reg) (and_second a.inline b.reg m.reg)
number_scaled o a b n m = refl

number_inline : (o : BinOp) (a b : Look) → IsNumber a → IsNumber b → gives_number o ≡ true → bin_inline o a b ≡ true
number_inline o a b n m g = and_from (gives_number o) (b.inline && a.inline) g (and_from b.inline a.inline m.inline n.inline)

number_sum : (o : BinOp) (a b : Look) → IsNumber a → IsNumber b → gives_number o ≡ true → bin_sum o a b ≡ sum_of 0 0 true
number_sum op.Add a b n m g = ap₂ (λ x y. joined_sum x y) m.sum n.sum
number_sum op.Sub a b n m g = ap₂ (λ x y. joined_sum (taken_sum x) y) m.inline n.sum
number_sum o a b n m g = ap₂ (λ x y. term x false y) (number_inline o a b n m g) (number_scaled o a b n m)

other_bad : (o : BinOp) (a b : Look) → IsNumber a → IsNumber b → gives_number o ≡ false → (bin_sum o a b).good ≡ false
other_bad op.Add a b n m g = absurd (true≢false g)
other_bad op.Sub a b n m g = absurd (true≢false g)
other_bad o a b n m g = ap₂ (λ x y. (term x false y).good) (and_first (gives_number o) (b.inline && a.inline) g) (number_scaled o a b n m)

pub two_inlined : (o : BinOp) (a b : Look) → Inlined a → Inlined b → Inlined (two o a b)
two_inlined o a b (inr n) y = inr (left_nothing o a b n)
two_inlined o a b (inl n) (inr m) = inr (right_nothing o a b m)
two_inlined o a b (inl n) (inl m) = by_number (gives_number o) refl
  where
    by_number : (g : Bool) → gives_number o ≡ g → Inlined (two o a b)
    by_number true g = inl (record { inline = number_inline o a b n m g; reg = refl; scaled = number_scaled o a b n m; sum = number_sum o a b n m g })
    by_number false g = inr (record { inline = and_first (gives_number o) (b.inline && a.inline) g; reg = refl; scaled = number_scaled o a b n m; bad = other_bad o a b n m g })
