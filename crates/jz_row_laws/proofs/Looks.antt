-- What is inline by the words of the rows, one layer at a time.
use Rattle.std.proofs.Common.{◌≡◌, Bool, true, false, ◌&&◌, ◌||◌, Some, None, refl, sym, ap, ◌∙◌, subst, inl, inr, if◌then◌else◌}
use Rattle.std.specs.Prelude.{◌⊎◌}
use Rattle.std.proofs.lemmas.Bool.{and_parts, false≢true}
use Rattle.jz_tree.specs.Operators.{joins}
use Rattle.jz_tree.specs.declared.expr.BinOp.{BinOp}
use Rattle.jz_tree.specs.declared.expr.Expr.{Expr}
use Rattle.jz_tree.specs.declared.expr.Expr.TheOpen.{Expr-F}
use Rattle.jz_tree.specs.declared.expr.Expr.TheViews.{out-Expr, roll-out-Expr}
use Rattle.jz_type_names.specs.Kinds.{Known, known_of, is_inline_int}
use Rattle.jz_select.specs.Look.{Look, is_inline_var, compares_values, gives_number, bin_inline, bin_condition, look_of}
use Rattle.jz_row_laws.proofs.Booleans.{or_left, or_right, or_parts}
use Rattle.jz_row_laws.proofs.Fixed.{Layer, var_looked, var_known, look_layer, look_is}

-- what is known when the text is compiled, by its outermost form
abbrev pub InlineLayer : (Expr → Type 0) → Layer → Type 0
InlineLayer I (Expr-F.Num n at) = Unit {0}
InlineLayer I (Expr-F.Expr::Bool b at) = Unit {0}
InlineLayer I (Expr-F.Var v) = is_inline_int (known_of v) ≡ true
InlineLayer I (Expr-F.Cell v i) = ⊥
InlineLayer I (Expr-F.Load a) = ⊥
InlineLayer I (Expr-F.Neg a at) = I a
InlineLayer I (Expr-F.Not a at) = I a
InlineLayer I (Expr-F.Cast z s a at) = ⊥
InlineLayer I (Expr-F.Bin o a b at) = I a × I b

-- an inline integer, or an inline condition
abbrev pub inline_look : Look → Bool
inline_look l = l.inline || l.condition

abbrev pub IsLooked : Expr → Type 0
IsLooked e = inline_look (look_of e) ≡ true

number_look : (l : Look) → l.inline ≡ true → inline_look l ≡ true
number_look l e = or_left l.inline l.condition e

condition_look : (l : Look) → l.condition ≡ true → inline_look l ≡ true
condition_look l e = or_right l.inline l.condition e

only_left : (b : Bool) → (b || false) ≡ true → b ≡ true
only_left true e = refl
only_left false e = absurd (false≢true e)

inline_var : (k : Known) → is_inline_var k ≡ true → is_inline_int k ≡ true
inline_var None e = absurd (false≢true e)
inline_var (Some d) e = e

both_numbers : (a b : Look) → (b.inline && a.inline) ≡ true → (inline_look a ≡ true) × (inline_look b ≡ true)
both_numbers a b e = let p = and_parts b.inline a.inline e in (number_look a p.1, number_look b p.0)

conditions : (j : Bool) (o : BinOp) (a b : Look) → (if j then b.condition && a.condition else compares_values o && (b.inline && a.inline)) ≡ true → (inline_look a ≡ true) × (inline_look b ≡ true)
conditions true o a b e = let p = and_parts b.condition a.condition e in (condition_look a p.1, condition_look b p.0)
conditions false o a b e = both_numbers a b (and_parts (compares_values o) (b.inline && a.inline) e).1

both_looked : (o : BinOp) (a b : Look) → (bin_inline o a b || bin_condition o a b) ≡ true → (inline_look a ≡ true) × (inline_look b ≡ true)
both_looked o a b e = by_part (or_parts (bin_inline o a b) (bin_condition o a b) e)
  where
    by_part : (bin_inline o a b ≡ true) ⊎ (bin_condition o a b ≡ true) → (inline_look a ≡ true) × (inline_look b ≡ true)
    by_part (inl t) = both_numbers a b (and_parts (gives_number o) (b.inline && a.inline) t).1
    by_part (inr t) = conditions (joins o) o a b t

looked_layer : (x : Layer) → inline_look (look_layer x) ≡ true → InlineLayer IsLooked x
looked_layer (Expr-F.Num n at) h = tt
looked_layer (Expr-F.Expr::Bool b at) h = tt
looked_layer (Expr-F.Var v) h = inline_var (known_of v) (ap is_inline_var (sym (var_known v)) ∙ only_left (is_inline_var (var_looked v)) h)
looked_layer (Expr-F.Cell v i) h = false≢true h
looked_layer (Expr-F.Load a) h = false≢true h
looked_layer (Expr-F.Neg a at) h = number_look (look_of a) (only_left (look_of a).inline h)
looked_layer (Expr-F.Not a at) h = h
looked_layer (Expr-F.Cast z s a at) h = false≢true h
looked_layer (Expr-F.Bin o a b at) h = both_looked o (look_of a) (look_of b) h

pub looked_parts : (e : Expr) → IsLooked e → InlineLayer IsLooked (out-Expr e)
looked_parts e h =
    looked_layer (out-Expr e) (subst (λ l. inline_look l ≡ true) (ap look_of (sym (roll-out-Expr e)) ∙ look_is (out-Expr e)) h)

pub condition_looked : (e : Expr) → (look_of e).condition ≡ true → IsLooked e
condition_looked e h = condition_look (look_of e) h
