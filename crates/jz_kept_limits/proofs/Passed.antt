-- What passes the limits, and what stands in its place.
use Rattle.std.proofs.Common.{◌≡◌, Bool, true, false, ◌&&◌, Option, Some, None, refl, sym, ap, ◌∙◌, subst, ◌+ℤ◌, ◌-ℤ◌, if◌then◌else◌}
use Rattle.std.proofs.lemmas.Bool.{true≢false}
use Rattle.jz_tree.specs.Size.{Size}
use Rattle.jz_tree.specs.Span.{Span}
use Rattle.jz_tree.specs.Operators.{is_shift}
use Rattle.jz_tree.specs.declared.expr.BinOp.{BinOp}
use Rattle.jz_tree.specs.declared.expr.BinOp.TheVariants as op
use Rattle.jz_tree.specs.declared.expr.Expr.{Expr}
use Rattle.jz_tree.specs.declared.expr.Expr.TheVariants as expr
use Rattle.jz_tree.specs.declared.expr.Expr.TheOpen.{Expr-F}
use Rattle.jz_tree.specs.declared.expr.Expr.TheViews.{out-Expr, out-Var, out-Access, roll-Expr, roll-out-Expr}
use Rattle.jz_tree.specs.declared.expr.Var.{Var}
use Rattle.jz_integers.specs.Integers.{KnownNumbers, inline_value, the_number, joined, minus, opposite, number}
use Rattle.jz_integers.specs.declared.constant.Constant.{Constant}
use Rattle.jz_integers.specs.declared.constant.Constant.TheVariants as constant
use Rattle.jz_type_names.specs.Kinds.{is_inline, known_of, is_inline_int}
use Rattle.jz_meaning.specs.Assignments.{Layer}
use Rattle.jz_meaning.specs.Values.{own_size}
use Rattle.jz_limits.specs.declared.limit.Limit.{Limit}
use Rattle.jz_limits.specs.declared.limit.Limit.TheVariants.{ImmRange}
use Rattle.jz_limits.specs.declared.looked.Asking.{Asking}
use Rattle.jz_limits.specs.Asked.{has_immediate, has_displacement, is_count, or_zero}
use Rattle.jz_limits.specs.InnerLooked.{Seen, Part, seen_as, look_of, sooner, if_not, no_part, inner_part, range_of, index_field, cell_part, load_part, count_field, scale_value, operation_terms, operation_scaled, operation_part, operation_seen}
use Rattle.jz_kept_limits.specs.Passing.{Passes}
use Rattle.jz_limits.proofs.Layers.{look_num, look_bool, look_var, look_cell, look_load, look_neg, look_not, look_cast, look_bin}

pub passes_as : (x y x2 y2 : Seen) → x2 ≡ x → y2 ≡ y → Passes x y → Passes x2 y2
passes_as x y x2 y2 e f h = subst (λ u. Passes u y2) (sym e) (subst (Passes x) (sym f) h)

-- one after another
pub passes_then : (x y z : Seen) → Passes x y → Passes y z → Passes x z
passes_then x y z p q = record {
  inline = q.inline ∙ p.inline;
  value = q.value ∙ p.value;
  width = λ g. q.width (p.width g);
  range = λ g. q.range (p.range g);
  operand = λ g. q.operand (p.operand g);
  terms = q.terms ∙ p.terms;
  scaled = q.scaled ∙ p.scaled;
}

pub passes_itself : (x : Seen) → Passes x x
passes_itself x = record { inline = refl; value = refl; width = λ g. g; range = λ g. g; operand = λ g. g; terms = refl; scaled = refl }

-- ---- limits
pub neither : (a b : Option Limit) → sooner a b ≡ None → (a ≡ None) × (b ≡ None)
neither None b h = (refl, h)
neither (Some l) b h = absurd cc

pub both : (a b : Option Limit) → a ≡ None → b ≡ None → sooner a b ≡ None
both None b e f = f
both (Some l) b e f = absurd cc

-- whatever it would be
pub fine_too : (b : Bool) (l m : Limit) → if_not b l ≡ None → if_not b m ≡ None
fine_too true l m h = refl
fine_too false l m h = absurd cc

-- ---- parts
-- the second part passes what the first one passes
pub record PartPasses (p s : Part) : Type 0 where
  pub width : p.width ≡ None → s.width ≡ None
  pub range : p.range ≡ None → s.range ≡ None
  pub operand : p.operand ≡ None → s.operand ≡ None
  pub terms : s.terms ≡ p.terms
  pub scaled : s.scaled ≡ p.scaled

-- what is not inline, wherever it stands
pub plain : (v w : Option Constant) (at there : Span) (q r : Asking) (p s : Part) → w ≡ v → PartPasses p s → Passes (seen_as false v at q p) (seen_as false w there r s)
plain v w at there q r p s e h = record { inline = refl; value = e; width = h.width; range = h.range; operand = h.operand; terms = h.terms; scaled = h.scaled }

same_form : (b : Bool) (v : Option Constant) (at : Span) (q : Asking) (p s : Part) → PartPasses p s → Passes (seen_as b v at q p) (seen_as b v at q s)
same_form true v at q p s h = record { inline = refl; value = refl; width = λ g. g; range = h.range; operand = λ g. g; terms = refl; scaled = refl }
same_form false v at q p s h = plain v v at at q q p s refl h

-- at one place, whether it is inline or not
pub form : (b c : Bool) (v w : Option Constant) (at : Span) (q : Asking) (p s : Part) → c ≡ b → w ≡ v → PartPasses p s → Passes (seen_as b v at q p) (seen_as c w at q s)
form b c v w at q p s e f h =
    subst (λ d. Passes (seen_as b v at q p) (seen_as d w at q s)) (sym e) (subst (λ u. Passes (seen_as b v at q p) (seen_as b u at q s)) (sym f) (same_form b v at q p s h))

pub no_parts : PartPasses no_part no_part
no_parts = record { width = λ g. g; range = λ g. g; operand = λ g. g; terms = refl; scaled = refl }

pub inner_parts : (x y : Seen) → Passes x y → PartPasses (inner_part x) (inner_part y)
inner_parts x y p = record { width = p.width; range = p.range; operand = p.operand; terms = refl; scaled = refl }

pub cell_parts : (v : Var) (x y : Seen) → Passes x y → PartPasses (cell_part v x) (cell_part v y)
cell_parts v x y p = record {
  width = p.width;
  range = λ g. (let h = neither (range_of v x.value) x.range g in both (range_of v y.value) y.range (ap (range_of v) p.value ∙ h.0) (p.range h.1));
  operand = λ g. ap (index_field v) p.terms ∙ g;
  terms = refl;
  scaled = refl;
}

pub load_parts : (at : Span) (x y : Seen) → Passes x y → PartPasses (load_part at x) (load_part at y)
load_parts at x y p = record {
  width = p.width;
  range = p.range;
  operand = λ g. (λ j. if_not (has_displacement (p.terms j) && p.scaled j) (ImmRange at)) ∙ g;
  terms = refl;
  scaled = refl;
}

-- ---- what is inline
record SeenAs (q : Asking) (s : Seen) : Type 0 where
  pub inline : Bool
  pub value : Option Constant
  pub at : Span
  pub part : Part
  pub is : s ≡ seen_as inline value at q part

seen_by : (q : Asking) (s : Seen) (b : Bool) (v : Option Constant) (at : Span) (p : Part) → s ≡ seen_as b v at q p → SeenAs q s
seen_by q s b v at p e = record { inline = b; value = v; at = at; part = p; is = e }

module _ (k : KnownNumbers) (q : Asking) where
  layer_seen : (l : Layer) → SeenAs q (look_of k q (roll-Expr l))
  layer_seen (Expr-F.Num i at) = seen_by q _ true (Some (constant.Int i)) at no_part (ap (look_of k q) (expr.rolls-Num i at) ∙ look_num k q i at)
  layer_seen (Expr-F.Expr::Bool b at) = seen_by q _ true (Some (constant.Bool b)) at no_part (ap (look_of k q) (expr.rolls-Bool b at) ∙ look_bool k q b at)
  layer_seen (Expr-F.Var v) = seen_by q _ (is_inline_int (known_of v)) (number (k (out-Var v).name (out-Var v).copy)) (out-Var v).span no_part (ap (look_of k q) (expr.rolls-Var v) ∙ look_var k q v)
  layer_seen (Expr-F.Cell v i) =
      seen_by q _ false None (out-Var v).span (cell_part v (look_of k (record { place = Some (out-Var v).span; size = None }) i)) (ap (look_of k q) (expr.rolls-Cell v i) ∙ look_cell k q v i)
  layer_seen (Expr-F.Load a) =
      seen_by q _ false None (out-Access a).span (load_part (out-Access a).span (look_of k (record { place = Some (out-Access a).span; size = None }) (out-Access a).at)) (ap (look_of k q) (expr.rolls-Load a) ∙ look_load k q a)
  layer_seen (Expr-F.Neg a at) = seen_by q _ (is_inline a) (minus (inline_value k a)) at (inner_part (look_of k q a)) (ap (look_of k q) (expr.rolls-Neg a at) ∙ look_neg k q a at)
  layer_seen (Expr-F.Not a at) = seen_by q _ (is_inline a) (opposite (inline_value k a)) at (inner_part (look_of k q a)) (ap (look_of k q) (expr.rolls-Not a at) ∙ look_not k q a at)
  layer_seen (Expr-F.Cast z s a at) =
      seen_by q _ false None at (inner_part (look_of k (record { place = q.place; size = own_size a }) a)) (ap (look_of k q) (expr.rolls-Cast z s a at) ∙ look_cast k q z s a at)
  layer_seen (Expr-F.Bin o a b at) =
      seen_by q _ (is_inline a && is_inline b) (joined o (inline_value k a) (inline_value k b)) at (operation_part o q.size (look_of k q a) (look_of k q b)) (ap (look_of k q) (expr.rolls-Bin o a b at) ∙ look_bin k q o a b at)

  all_seen : (e : Expr) → SeenAs q (look_of k q e)
  all_seen e = subst (λ x. SeenAs q (look_of k q x)) (roll-out-Expr e) (layer_seen (out-Expr e))

record IsInlineSeen (q : Asking) (s : Seen) : Type 0 where
  pub operand : s.operand ≡ if_not (has_immediate q.size (the_number s.value)) (ImmRange s.span)
  pub terms : s.terms ≡ or_zero (the_number s.value)
  pub scaled : s.scaled ≡ true

inline_by : (q : Asking) (s : Seen) (b : Bool) (v : Option Constant) (at : Span) (p : Part) → s ≡ seen_as b v at q p → s.inline ≡ true → IsInlineSeen q s
inline_by q s true v at p e h = subst (IsInlineSeen q) (sym e) (record { operand = refl; terms = refl; scaled = refl })
inline_by q s false v at p e h = absurd (true≢false (sym h ∙ ap (λ (x : Seen). x.inline) e))

-- a constant stands in its place
pub constant_passes : (k : KnownNumbers) (q : Asking) (e : Expr) (c : Constant) (at : Span) → is_inline e ≡ true → inline_value k e ≡ Some c → Passes (look_of k q e) (seen_as true (Some c) at q no_part)
constant_passes k q e c at h v =
    let w = all_seen k q e in
    let s = look_of k q e in
    let i = inline_by q s w.inline w.value w.at w.part w.is h in
    record {
      inline = sym h;
      value = sym v;
      width = λ g. refl;
      range = λ g. refl;
      operand = λ g. fine_too (has_immediate q.size (the_number (Some c))) (ImmRange s.span) (ImmRange at)
          (ap (λ x. if_not (has_immediate q.size (the_number x)) (ImmRange s.span)) (sym v) ∙ sym i.operand ∙ g);
      terms = ap (λ x. or_zero (the_number x)) (sym v) ∙ sym i.terms;
      scaled = sym i.scaled;
    }

-- ---- operations on two
count_by : (b : Bool) (z : Option Size) (v : Option Constant) (s t : Span) (x y : Option Limit) → (x ≡ None → y ≡ None)
    → (if b then if_not (is_count z (the_number v)) (ImmRange s) else x) ≡ None → (if b then if_not (is_count z (the_number v)) (ImmRange t) else y) ≡ None
count_by true z v s t x y f h = fine_too (is_count z (the_number v)) (ImmRange s) (ImmRange t) h
count_by false z v s t x y f h = f h

pub count_passes : (z : Option Size) (x y : Seen) → Passes x y → count_field z x ≡ None → count_field z y ≡ None
count_passes z x y p h =
    (λ j. if p.inline j then if_not (is_count z (the_number (p.value j))) (ImmRange y.span) else y.operand) ∙ count_by x.inline z x.value x.span y.span x.operand y.operand p.operand h

second_by : (b : Bool) (z : Option Size) (x y : Seen) → Passes x y → (if b then count_field z x else x.operand) ≡ None → (if b then count_field z y else y.operand) ≡ None
second_by true z x y p h = count_passes z x y p h
second_by false z x y p h = p.operand h

terms_same : (o : BinOp) (a b c d : Seen) → c.terms ≡ a.terms → d.terms ≡ b.terms → d.value ≡ b.value → operation_terms o c d ≡ operation_terms o a b
terms_same op.Add a b c d e f g = (λ j. e j +ℤ f j)
terms_same op.Sub a b c d e f g = (λ j. e j -ℤ or_zero (the_number (g j)))
terms_same op.OrElse a b c d e f g = refl
terms_same op.AndThen a b c d e f g = refl
terms_same op.Or a b c d e f g = refl
terms_same op.Xor a b c d e f g = refl
terms_same op.And a b c d e f g = refl
terms_same op.Eq a b c d e f g = refl
terms_same op.Ne a b c d e f g = refl
terms_same op.Lt a b c d e f g = refl
terms_same op.Le a b c d e f g = refl
terms_same op.Gt a b c d e f g = refl
terms_same op.Ge a b c d e f g = refl
terms_same op.LtS a b c d e f g = refl
terms_same op.LeS a b c d e f g = refl
terms_same op.GtS a b c d e f g = refl
terms_same op.GeS a b c d e f g = refl
terms_same op.Shl a b c d e f g = refl
terms_same op.Shr a b c d e f g = refl
terms_same op.Sar a b c d e f g = refl
terms_same op.Rol a b c d e f g = refl
terms_same op.Ror a b c d e f g = refl
terms_same op.Mul a b c d e f g = refl
terms_same op.Div a b c d e f g = refl
terms_same op.Rem a b c d e f g = refl
terms_same op.DivS a b c d e f g = refl
terms_same op.RemS a b c d e f g = refl

scaled_same : (o : BinOp) (a b c d : Seen) → Passes a c → Passes b d → operation_scaled o c d ≡ operation_scaled o a b
scaled_same op.Add a b c d p q = (λ j. p.scaled j && q.scaled j)
scaled_same op.Sub a b c d p q = p.scaled
scaled_same op.Mul a b c d p q = (λ j. if p.inline j then scale_value (the_number (p.value j)) else if q.inline j then scale_value (the_number (q.value j)) else true)
scaled_same op.OrElse a b c d p q = refl
scaled_same op.AndThen a b c d p q = refl
scaled_same op.Or a b c d p q = refl
scaled_same op.Xor a b c d p q = refl
scaled_same op.And a b c d p q = refl
scaled_same op.Eq a b c d p q = refl
scaled_same op.Ne a b c d p q = refl
scaled_same op.Lt a b c d p q = refl
scaled_same op.Le a b c d p q = refl
scaled_same op.Gt a b c d p q = refl
scaled_same op.Ge a b c d p q = refl
scaled_same op.LtS a b c d p q = refl
scaled_same op.LeS a b c d p q = refl
scaled_same op.GtS a b c d p q = refl
scaled_same op.GeS a b c d p q = refl
scaled_same op.Shl a b c d p q = refl
scaled_same op.Shr a b c d p q = refl
scaled_same op.Sar a b c d p q = refl
scaled_same op.Rol a b c d p q = refl
scaled_same op.Ror a b c d p q = refl
scaled_same op.Div a b c d p q = refl
scaled_same op.Rem a b c d p q = refl
scaled_same op.DivS a b c d p q = refl
scaled_same op.RemS a b c d p q = refl

pub two_parts : (o : BinOp) (z : Option Size) (a b c d : Seen) → Passes a c → Passes b d → PartPasses (operation_part o z a b) (operation_part o z c d)
two_parts o z a b c d p r = record {
  width = λ g. (let h = neither a.width b.width g in both c.width d.width (p.width h.0) (r.width h.1));
  range = λ g. (let h = neither a.range b.range g in both c.range d.range (p.range h.0) (r.range h.1));
  operand = λ g. (let h = neither a.operand (if is_shift o then count_field z b else b.operand) g in
      both c.operand (if is_shift o then count_field z d else d.operand) (p.operand h.0) (second_by (is_shift o) z b d r h.1));
  terms = terms_same o a b c d p.terms r.terms r.value;
  scaled = scaled_same o a b c d p r;
}

pub both_pass : (q : Asking) (o : BinOp) (at : Span) (a b c d : Seen) → Passes a c → Passes b d → Passes (operation_seen q o at a b) (operation_seen q o at c d)
both_pass q o at a b c d p r =
    form (a.inline && b.inline) (c.inline && d.inline) (joined o a.value b.value) (joined o c.value d.value) at q (operation_part o q.size a b) (operation_part o q.size c d)
    (λ j. p.inline j && r.inline j) (λ j. joined o (p.value j) (r.value j)) (two_parts o q.size a b c d p r)
