-- What comparisons tell, fact by fact.
use Rattle.std.proofs.Common.{◌≡◌, ℕ, ◌+◌, ◌-◌, ◌≤◌, ◌^◌, List, Bool, true, false, refl, ap, sym, ◌∙◌, arith, rules, min, if◌then◌else◌}
use Rattle.std.specs.Prelude.{◌==◌, nat_le, ◌&&◌, ◌||◌}
use Rattle.std.proofs.Math.Path.{fun_ext}
use Rattle.x64_insn.specs.Size.{Size}
use Rattle.x64_insn.specs.Words.{residue}
use Rattle.jz_tree.specs.declared.expr.BinOp.{BinOp}
use Rattle.jz_tree.specs.declared.expr.BinOp.TheVariants as o
use Rattle.jz_terms.specs.Terms.{Term, num, truth, var, cell, load, neg, inv, cast, bin}
use Rattle.jz_facts.specs.Facts.{Fact, Set, Cell, AtLeast, AtMost, Under, Is, Multiple, Facts, Given, subject, is_among}
use Rattle.jz_facts.specs.Holding.{copied}
use Rattle.jz_facts.specs.Tests.{is_var, ◌and◌, at_least, less, less_or_same, is_the_same, same, not_zero, by_true}
use Rattle.jz_test_facts.specs.Comparing.{AreWords, none, told_below, told_above, told_same, told_equal, told_other, left_told, right_told, on}

-- a constant is below a number where it is so as far as words go
pub words_alone : (cs : List ℕ) (n c : ℕ) → AreWords cs → (is_among c cs && nat_le c (min n (2 ^ 64 - 1))) ≡ (is_among c cs && nat_le c n)
words_alone cs n c words = by (is_among c cs) refl
  where
    same : c ≤ 2 ^ 64 - 1 → (t : Bool) → nat_le c n ≡ t → nat_le c (min n (2 ^ 64 - 1)) ≡ t
    same h true e = let k : c ≤ n = grind (arith, rules, e) in let l : c ≤ min n (2 ^ 64 - 1) = omega (arith, h, k) in grind (arith, rules, l)
    same h false e = let k : n + 1 ≤ c = grind (arith, rules, e) in let l : min n (2 ^ 64 - 1) + 1 ≤ c = omega (arith, k) in grind (arith, rules, l)

    by : (a : Bool) → is_among c cs ≡ a → (a && nat_le c (min n (2 ^ 64 - 1))) ≡ (a && nat_le c n)
    by true a = same (words c a) (nat_le c n) refl
    by false a = refl

-- ---- what is told of both sides is what the answer adds

left_one : (p x q r : Bool) → ((p && x) || (false || (false || false))) ≡ ((p && x) || (q && false))
left_one true true q r = refl
left_one true false true r = refl
left_one true false false r = refl
left_one false x true r = refl
left_one false x false r = refl

right_one : (p q y : Bool) → (false || ((q && y) || (false || false))) ≡ ((p && false) || (q && y))
right_one true true true = refl
right_one true true false = refl
right_one true false y = refl
right_one false true true = refl
right_one false true false = refl
right_one false false y = refl

both_under : (p q u i : Bool) → (false || (false || ((p && u) || (p && i)))) ≡ ((p && (u || (true && i))) || (q && false))
both_under true true true i = refl
both_under true true false true = refl
both_under true true false false = refl
both_under true false true i = refl
both_under true false false true = refl
both_under true false false false = refl
both_under false true u i = refl
both_under false false u i = refl

neither : (p q : Bool) → false ≡ ((p && false) || (q && false))
neither true true = refl
neither true false = refl
neither false true = refl
neither false false = refl

left_two : (p x q : Bool) → ((p && x) || (false || false)) ≡ ((p && x) || (q && false))
left_two true true q = refl
left_two true false true = refl
left_two true false false = refl
left_two false x true = refl
left_two false x false = refl

right_two : (p q y : Bool) → (false || ((q && y) || false)) ≡ ((p && false) || (q && y))
right_two true true true = refl
right_two true true false = refl
right_two true false y = refl
right_two false true true = refl
right_two false true false = refl
right_two false false y = refl

under_two : (p q u i : Bool) → (false || (false || (p && u))) ≡ ((p && (u || (false && i))) || (q && false))
under_two true true true i = refl
under_two true true false i = refl
under_two true false true i = refl
under_two true false false i = refl
under_two false true u i = refl
under_two false false u i = refl

module _ (g : Given) (s : Facts) (z : Size) (a b : Term) where
  less_one : (f : Fact) → less g s z a b f ≡ (on a (told_below g s z true b) f || on b (told_above g s z true a) f)
  less_one (Set v) = neither (is_var a v) (is_var b v)
  less_one (Cell v j) = neither (is_var a v) (is_var b v)
  less_one (AtLeast v c) = right_one (is_var a v) (is_var b v) _
  less_one (AtMost v c) = left_one (is_var a v) _ (is_var b v) true
  less_one (Under v x) = both_under (is_var a v) (is_var b v) (copied s b (λ y. Under y x)) (copied s b (λ y. Is y x))
  less_one (Is v x) = neither (is_var a v) (is_var b v)
  less_one (Multiple v m) = neither (is_var a v) (is_var b v)

  pub less_is : less g s z a b ≡ (on a (told_below g s z true b) and on b (told_above g s z true a))
  less_is = fun_ext less_one

  or_same_one : (f : Fact) → less_or_same g s z a b f ≡ (on a (told_below g s z false b) f || on b (told_above g s z false a) f)
  or_same_one (Set v) = neither (is_var a v) (is_var b v)
  or_same_one (Cell v j) = neither (is_var a v) (is_var b v)
  or_same_one (AtLeast v c) = right_two (is_var a v) (is_var b v) _
  or_same_one (AtMost v c) = left_two (is_var a v) _ (is_var b v)
  or_same_one (Under v x) = under_two (is_var a v) (is_var b v) (copied s b (λ y. Under y x)) (copied s b (λ y. Is y x))
  or_same_one (Is v x) = neither (is_var a v) (is_var b v)
  or_same_one (Multiple v m) = neither (is_var a v) (is_var b v)

  pub or_same_is : less_or_same g s z a b ≡ (on a (told_below g s z false b) and on b (told_above g s z false a))
  or_same_is = fun_ext or_same_one

all_parts : (x y u v r t : Bool) → (((x || y) || (u || v)) || (r || t)) ≡ (((x || v) || r) || ((u || y) || t))
all_parts true true true true true true = refl
all_parts true true true true true false = refl
all_parts true true true true false true = refl
all_parts true true true true false false = refl
all_parts true true true false true true = refl
all_parts true true true false true false = refl
all_parts true true true false false true = refl
all_parts true true true false false false = refl
all_parts true true false true true true = refl
all_parts true true false true true false = refl
all_parts true true false true false true = refl
all_parts true true false true false false = refl
all_parts true true false false true true = refl
all_parts true true false false true false = refl
all_parts true true false false false true = refl
all_parts true true false false false false = refl
all_parts true false true true true true = refl
all_parts true false true true true false = refl
all_parts true false true true false true = refl
all_parts true false true true false false = refl
all_parts true false true false true true = refl
all_parts true false true false true false = refl
all_parts true false true false false true = refl
all_parts true false true false false false = refl
all_parts true false false true true true = refl
all_parts true false false true true false = refl
all_parts true false false true false true = refl
all_parts true false false true false false = refl
all_parts true false false false true true = refl
all_parts true false false false true false = refl
all_parts true false false false false true = refl
all_parts true false false false false false = refl
all_parts false true true true true true = refl
all_parts false true true true true false = refl
all_parts false true true true false true = refl
all_parts false true true true false false = refl
all_parts false true true false true true = refl
all_parts false true true false true false = refl
all_parts false true true false false true = refl
all_parts false true true false false false = refl
all_parts false true false true true true = refl
all_parts false true false true true false = refl
all_parts false true false true false true = refl
all_parts false true false true false false = refl
all_parts false true false false true true = refl
all_parts false true false false true false = refl
all_parts false true false false false true = refl
all_parts false true false false false false = refl
all_parts false false true true true true = refl
all_parts false false true true true false = refl
all_parts false false true true false true = refl
all_parts false false true true false false = refl
all_parts false false true false true true = refl
all_parts false false true false true false = refl
all_parts false false true false false true = refl
all_parts false false true false false false = refl
all_parts false false false true true true = refl
all_parts false false false true true false = refl
all_parts false false false true false true = refl
all_parts false false false true false false = refl
all_parts false false false false true true = refl
all_parts false false false false true false = refl
all_parts false false false false false true = refl
all_parts false false false false false false = refl

left_parts : (x v r : Bool) → (((x || false) || (false || v)) || (r || false)) ≡ (((x || v) || r) || false)
left_parts true true true = refl
left_parts true true false = refl
left_parts true false true = refl
left_parts true false false = refl
left_parts false true true = refl
left_parts false true false = refl
left_parts false false true = refl
left_parts false false false = refl

right_parts : (y u t : Bool) → ((y || (u || false)) || t) ≡ ((u || y) || t)
right_parts true true true = refl
right_parts true true false = refl
right_parts true false true = refl
right_parts true false false = refl
right_parts false true true = refl
right_parts false true false = refl
right_parts false false true = refl
right_parts false false false = refl

parts : (p q x y u v r t : Bool) → ((((p && x) || (q && y)) || ((q && u) || (p && v))) || ((p && r) || (q && t))) ≡ ((p && ((x || v) || r)) || (q && ((u || y) || t)))
parts true true x y u v r t = all_parts x y u v r t
parts true false x y u v r t = left_parts x v r
parts false true x y u v r t = right_parts y u t
parts false false x y u v r t = refl

and_none : (a : Bool) → (a && false) ≡ false
and_none true = refl
and_none false = refl

module _ (g : Given) (s : Facts) (a b : Term) where
  alike_one : (f : Fact) → is_the_same g s a b f ≡ on a (told_same g s b) f
  alike_one (Set v) = sym (and_none (is_var a v))
  alike_one (Cell v j) = sym (and_none (is_var a v))
  alike_one (AtLeast v c) = sym (and_none (is_var a v))
  alike_one (AtMost v c) = sym (and_none (is_var a v))
  alike_one (Under v x) = sym (and_none (is_var a v))
  alike_one (Is v x) = refl
  alike_one (Multiple v m) = refl

module _ (g : Given) (s : Facts) (z : Size) (a b : Term) where
  same_one : (f : Fact) → same g s z a b f ≡ (on a (told_equal g s z b) f || on b (told_equal g s z a) f)
  same_one f =
      ap (λ h. (h f || less_or_same g s z b a f) || (is_the_same g s a b f || is_the_same g s b a f)) (or_same_is g s z a b)
      ∙ ap (λ h. ((on a (told_below g s z false b) f || on b (told_above g s z false a) f) || h f) || (is_the_same g s a b f || is_the_same g s b a f)) (or_same_is g s z b a)
      ∙ ap (λ y. ((on a (told_below g s z false b) f || on b (told_above g s z false a) f) || (on b (told_below g s z false a) f || on a (told_above g s z false b) f)) || (y || is_the_same g s b a f)) (alike_one g s a b f)
      ∙ ap (λ y. ((on a (told_below g s z false b) f || on b (told_above g s z false a) f) || (on b (told_below g s z false a) f || on a (told_above g s z false b) f)) || (on a (told_same g s b) f || y)) (alike_one g s b a f)
      ∙ parts (is_var a (subject f)) (is_var b (subject f)) (told_below g s z false b f) (told_above g s z false a f) (told_below g s z false a f) (told_above g s z false b f) (told_same g s b f) (told_same g s a f)

  pub same_is : same g s z a b ≡ (on a (told_equal g s z b) and on b (told_equal g s z a))
  same_is = fun_ext same_one

  -- a test that is no comparison
  nothing_one : (f : Fact) → false ≡ (on a none f || on b none f)
  nothing_one f = neither (is_var a (subject f)) (is_var b (subject f))

  pub nothing_is : (λ (f : Fact). false) ≡ (on a none and on b none)
  nothing_is = fun_ext nothing_one

pub swapped : (x y : Facts) → (x and y) ≡ (y and x)
swapped x y = fun_ext (λ f. by (x f) (y f))
  where
    by : (a b : Bool) → (a || b) ≡ (b || a)
    by true true = refl
    by true false = refl
    by false true = refl
    by false false = refl

pub joined : (x y z : Facts) → ((x and y) and z) ≡ (x and (y and z))
joined x y z = fun_ext (λ f. by (x f) (y f) (z f))
  where
    by : (a b c : Bool) → ((a || b) || c) ≡ (a || (b || c))
    by true b c = refl
    by false b c = refl

module _ (g : Given) (s : Facts) (z : Size) (a : Term) where
  other_one : (n : _) (at : _) (b : Term) (c : Bool) → (residue z n == 0) ≡ c → (f : Fact) → (if c then at_least g a 1 else (λ f. false)) f ≡ (on a (told_other g z (num n at)) f || on b none f)
  other_one n at b true e (AtLeast v c) = ap (λ t. is_var a v && (t && (is_among c g.consts && nat_le c 1))) (sym e) ∙ sym (or_last (is_var a v && ((residue z n == 0) && (is_among c g.consts && nat_le c 1))) (is_var b v))
    where
      or_last : (p q : Bool) → (p || (q && false)) ≡ p
      or_last true q = refl
      or_last false true = refl
      or_last false false = refl
  other_one n at b false e (AtLeast v c) = sym (ap (λ t. (is_var a v && (t && (is_among c g.consts && nat_le c 1))) || (is_var b v && false)) e ∙ sym (neither (is_var a v) (is_var b v)))
  other_one n at b true e (Set v) = neither (is_var a v) (is_var b v)
  other_one n at b true e (Cell v j) = neither (is_var a v) (is_var b v)
  other_one n at b true e (AtMost v c) = neither (is_var a v) (is_var b v)
  other_one n at b true e (Under v x) = neither (is_var a v) (is_var b v)
  other_one n at b true e (Is v x) = neither (is_var a v) (is_var b v)
  other_one n at b true e (Multiple v m) = neither (is_var a v) (is_var b v)
  other_one n at b false e (Set v) = neither (is_var a v) (is_var b v)
  other_one n at b false e (Cell v j) = neither (is_var a v) (is_var b v)
  other_one n at b false e (AtMost v c) = neither (is_var a v) (is_var b v)
  other_one n at b false e (Under v x) = neither (is_var a v) (is_var b v)
  other_one n at b false e (Is v x) = neither (is_var a v) (is_var b v)
  other_one n at b false e (Multiple v m) = neither (is_var a v) (is_var b v)

  other_is : (b : Term) → not_zero g z a b ≡ (on a (told_other g z b) and on b none)
  other_is (num n at) = fun_ext (other_one n at (num n at) (residue z n == 0) refl)
  other_is (truth b at) = nothing_is g s z a (truth b at)
  other_is (var x) = nothing_is g s z a (var x)
  other_is (cell x i) = nothing_is g s z a (cell x i)
  other_is (load p e) = nothing_is g s z a (load p e)
  other_is (neg e at) = nothing_is g s z a (neg e at)
  other_is (inv e at) = nothing_is g s z a (inv e at)
  other_is (cast y b e at) = nothing_is g s z a (cast y b e at)
  other_is (bin op e f at) = nothing_is g s z a (bin op e f at)

-- what a comparison that is true adds
module _ (g : Given) (s : Facts) (z : Size) (a b : Term) where
  pub adds_told : (op : BinOp) → by_true g op s z a b ≡ (on a (left_told g s z op b) and on b (right_told g s z op a))
  adds_told o.Lt = less_is g s z a b
  adds_told o.Le = or_same_is g s z a b
  adds_told o.Gt = less_is g s z b a ∙ swapped (on b (told_below g s z true a)) (on a (told_above g s z true b))
  adds_told o.Ge = or_same_is g s z b a ∙ swapped (on b (told_below g s z false a)) (on a (told_above g s z false b))
  adds_told o.Eq = same_is g s z a b
  adds_told o.Ne = other_is g s z a b
  adds_told o.OrElse = nothing_is g s z a b
  adds_told o.AndThen = nothing_is g s z a b
  adds_told o.Or = nothing_is g s z a b
  adds_told o.Xor = nothing_is g s z a b
  adds_told o.And = nothing_is g s z a b
  adds_told o.LtS = nothing_is g s z a b
  adds_told o.LeS = nothing_is g s z a b
  adds_told o.GtS = nothing_is g s z a b
  adds_told o.GeS = nothing_is g s z a b
  adds_told o.Shl = nothing_is g s z a b
  adds_told o.Shr = nothing_is g s z a b
  adds_told o.Sar = nothing_is g s z a b
  adds_told o.Rol = nothing_is g s z a b
  adds_told o.Ror = nothing_is g s z a b
  adds_told o.Add = nothing_is g s z a b
  adds_told o.Sub = nothing_is g s z a b
  adds_told o.Mul = nothing_is g s z a b
  adds_told o.Div = nothing_is g s z a b
  adds_told o.Rem = nothing_is g s z a b
  adds_told o.DivS = nothing_is g s z a b
  adds_told o.RemS = nothing_is g s z a b

pub nothing_more : (s : Facts) → (s and (λ f. false)) ≡ s
nothing_more s = fun_ext (λ f. by (s f))
  where
    by : (b : Bool) → (b || false) ≡ b
    by true = refl
    by false = refl
