-- Where an expression may stand in an instruction, its text alone says how many numbers it leaks.
use Rattle.std.proofs.Common.{◌≡◌, ℤ, ◌==◌, Bool, true, false, not, ◌&&◌, ◌||◌, Option, Some, None, refl, sym, ap, ◌∙◌, subst, inl, inr, if◌then◌else◌}
use Rattle.std.specs.Prelude.{◌⊎◌, nat_le, option_map}
use Rattle.std.proofs.lemmas.Bool.{and_parts, false≢true}
use Rattle.jz_tree.specs.Operators.{joins}
use Rattle.jz_tree.specs.Span.{Span}
use Rattle.jz_tree.specs.Size.{Size}
use Rattle.jz_tree.specs.declared.expr.BinOp.{BinOp}
use Rattle.jz_tree.specs.declared.expr.BinOp.TheVariants as op
use Rattle.jz_tree.specs.declared.expr.Storage.{Storage}
use Rattle.jz_tree.specs.declared.expr.Storage.TheVariants as storage
use Rattle.jz_tree.specs.declared.expr.Expr.{Expr}
use Rattle.jz_tree.specs.declared.expr.Ty.{Ty}
use Rattle.jz_tree.specs.declared.expr.Access.{Access}
use Rattle.jz_tree.specs.declared.expr.Decl.{Decl}
use Rattle.jz_tree.specs.declared.expr.Var.{Var}
use Rattle.jz_tree.specs.declared.expr.Expr.TheOpen.{Expr-F, Ty-F, Var-F}
use Rattle.jz_tree.specs.declared.expr.Expr.TheViews.{out-Expr, out-Ty, out-Access, out-Var, roll-out-Ty, roll-out-Var, roll-Expr, roll-out-Expr}
use Rattle.jz_tree.specs.declared.expr.Expr.TheFolds.{fold-Ty, fold-Access, fold-Decl, fold-Var, fold-roll-Expr, fold_out-Access, fold_out-Var, fold-roll-Ty, fold-roll-Decl, fold-roll-Var, map-Ty, map-Var, map-Expr, ind-Expr}
use Rattle.jz_integers.specs.declared.constant.Constant.{Constant}
use Rattle.jz_integers.specs.declared.constant.Constant.TheVariants as constant
use Rattle.jz_integers.specs.Integers as integers
use Rattle.jz_integers.specs.Integers.{on_integers, with_right, joined, minus, opposite, value_step, the_number, plain_value, written_number}
use Rattle.jz_type_names.specs.declared.kinds.Kind as known
use Rattle.jz_type_names.specs.declared.kinds.Kind.TheVariants as scope
use Rattle.jz_type_names.specs.declared.kinds.Declared.{Declared}
use Rattle.jz_type_names.specs.Kinds.{Known, kind_step, declared_step, known_step, kind_of, declared_of, known_of}
use Rattle.jz_judgement.proofs.Nothing.{none_not}
use Rattle.jz_select.specs.declared.class.Mask.TheVariants as mask
use Rattle.jz_select.specs.declared.class.Class.{Class}
use Rattle.jz_select.specs.declared.class.Class.TheVariants as class
use Rattle.jz_select.specs.Sums.{term, is_sum, is_address, is_index}
use Rattle.jz_select.specs.Look.{Look, is_regs64, gives_number, bin_inline, bin_scaled, bin_sum, look_step, look_of, terms_of}
use Rattle.jz_select.specs.Operands.{class_if, cell_at, cell_class, cell_of, mem_of, inline_or, mask_of, is_byte, register_layer, masked_class, class_layer, class_of}
use Rattle.jz_select.specs.Rows.{is_rmi}
use Rattle.jz_meaning.specs.Shapes.{Sort, Sorts, Shape, shape_step, shape_of}
use Rattle.jz_row_laws.proofs.Booleans.{or_parts, or_left, or_right, and_both}

abbrev pub Layer : Type 0
Layer = Expr-F Expr Ty Access Decl Var

-- ---- layers of looks

pub ty_looked : Ty → known.Kind
ty_looked = fold-Ty Look known.Kind Look Declared Known look_step kind_step (λ a. a.at) declared_step known_step

pub access_looked : Access → Look
access_looked = fold-Access Look known.Kind Look Declared Known look_step kind_step (λ a. a.at) declared_step known_step

pub decl_looked : Decl → Declared
decl_looked = fold-Decl Look known.Kind Look Declared Known look_step kind_step (λ a. a.at) declared_step known_step

pub var_looked : Var → Known
var_looked = fold-Var Look known.Kind Look Declared Known look_step kind_step (λ a. a.at) declared_step known_step

abbrev pub look_layer : Layer → Look
look_layer x = look_step (map-Expr _ _ _ _ _ Look known.Kind Look Declared Known look_of ty_looked access_looked decl_looked var_looked x)

pub look_is : (x : Layer) → look_of (roll-Expr x) ≡ look_layer x
unfolding ty_looked access_looked decl_looked var_looked
look_is x = fold-roll-Expr Look known.Kind Look Declared Known look_step kind_step (λ a. a.at) declared_step known_step x

kind_looked : (x : Ty-F Expr Ty Access Decl Var) → kind_step (map-Ty _ _ _ _ _ Look known.Kind Look Declared Known look_of ty_looked access_looked decl_looked var_looked x) ≡ kind_step x
kind_looked Ty-F.Int = refl
kind_looked Ty-F.Ty::Bool = refl
kind_looked (Ty-F.Word z) = refl
kind_looked (Ty-F.Array z n) = refl

ty_known : (t : Ty) → ty_looked t ≡ kind_of t
unfolding ty_looked access_looked decl_looked var_looked
ty_known t = ap ty_looked (sym (roll-out-Ty t)) ∙ (fold-roll-Ty Look known.Kind Look Declared Known look_step kind_step (λ a. a.at) declared_step known_step (out-Ty t) ∙ kind_looked (out-Ty t))

abbrev declaring : Storage → known.Kind → Declared
declaring s k = record { storage = s; kind = k }

decl_known : (d : Decl) → decl_looked d ≡ declared_of d
unfolding ty_looked access_looked decl_looked var_looked
decl_known d =
    fold-roll-Decl Look known.Kind Look Declared Known look_step kind_step (λ a. a.at) declared_step known_step (record { storage = d.storage; ty = d.ty })
    ∙ ap (declaring d.storage) (ty_known d.ty)

some_known : (x : Var-F Expr Ty Access Decl Var) (o : Option Decl)
    → (map-Var _ _ _ _ _ Look known.Kind Look Declared Known look_of ty_looked access_looked decl_looked var_looked (record x { decl = o })).decl ≡ option_map declared_of o
some_known x None = refl
some_known x (Some d) = ap (λ (k : Declared). Some k) (decl_known d)

-- a variable is known by its declaration
pub var_known : (v : Var) → var_looked v ≡ known_of v
unfolding ty_looked access_looked decl_looked var_looked
var_known v =
    ap var_looked (sym (roll-out-Var v))
    ∙ (fold-roll-Var Look known.Kind Look Declared Known look_step kind_step (λ a. a.at) declared_step known_step (out-Var v) ∙ some_known (out-Var v) (out-Var v).decl)

-- an inline expression, a register, a scaled one, or a sum of these
abbrev pub plain : Bool → Bool → Bool → Bool → Bool
plain inline reg scaled good = inline || (reg || (scaled || good))

abbrev pub IsPlainLook : Look → Type 0
IsPlainLook l = plain l.inline l.reg l.scaled l.sum.good ≡ true

inline_only : (b : Bool) → plain b false false (term b false false).good ≡ true → b ≡ true
inline_only true e = refl
inline_only false e = absurd (false≢true e)

reg_only : (b : Bool) → plain false b false (term false b false).good ≡ true → b ≡ true
reg_only true e = refl
reg_only false e = absurd (false≢true e)

scaled_only : (a b : Bool) → plain a false b (term a false b).good ≡ true → (a ≡ true) ⊎ (b ≡ true)
scaled_only true b e = inl refl
scaled_only false true e = inr refl
scaled_only false false e = absurd (false≢true e)

-- a sum that is good is plain
good_plain : (l : Look) → l.sum.good ≡ true → IsPlainLook l
good_plain l e = or_right l.inline (l.reg || (l.scaled || l.sum.good)) (or_right l.reg (l.scaled || l.sum.good) (or_right l.scaled l.sum.good e))

inline_plain : (l : Look) → l.inline ≡ true → IsPlainLook l
inline_plain l e = or_left l.inline (l.reg || (l.scaled || l.sum.good)) e

reg_plain : (l : Look) → l.reg ≡ true → IsPlainLook l
reg_plain l e = or_right l.inline (l.reg || (l.scaled || l.sum.good)) (or_left l.reg (l.scaled || l.sum.good) e)

-- both operands are plain, and the operation gives no truth
abbrev Both : BinOp → Look → Look → Type 0
Both o a b = (joins o ≡ false) × IsPlainLook a × IsPlainLook b

both_inline : (o : BinOp) (a b : Look) → joins o ≡ false → bin_inline o a b ≡ true → Both o a b
both_inline o a b j e =
    let p = and_parts (gives_number o) (b.inline && a.inline) e in
    let r = and_parts b.inline a.inline p.1 in
    (j, inline_plain a r.1, inline_plain b r.0)

both_scaled : (a b : Look) → bin_scaled op.Mul a b ≡ true → Both op.Mul a b
both_scaled a b e = by_part (or_parts (a.reg && b.inline) (a.inline && b.reg) e)
  where
    by_part : ((a.reg && b.inline) ≡ true) ⊎ ((a.inline && b.reg) ≡ true) → Both op.Mul a b
    by_part (inl t) = let p = and_parts a.reg b.inline t in (refl, reg_plain a p.0, inline_plain b p.1)
    by_part (inr t) = let p = and_parts a.inline b.reg t in (refl, inline_plain a p.0, reg_plain b p.1)

joined_bools : (i g h : Bool) → plain i false false (g && h) ≡ true → (i ≡ true) ⊎ ((g ≡ true) × (h ≡ true))
joined_bools true g h e = inl refl
joined_bools false g h e = inr (and_parts g h e)

bin_plain : (o : BinOp) (a b : Look) → plain (bin_inline o a b) false (bin_scaled o a b) (bin_sum o a b).good ≡ true → Both o a b
bin_plain op.AndThen a b e = absurd (false≢true e)
bin_plain op.OrElse a b e = absurd (false≢true e)
bin_plain op.Add a b e = by_part (joined_bools (bin_inline op.Add a b) b.sum.good a.sum.good e)
  where
    by_part : (bin_inline op.Add a b ≡ true) ⊎ ((b.sum.good ≡ true) × (a.sum.good ≡ true)) → Both op.Add a b
    by_part (inl t) = both_inline op.Add a b refl t
    by_part (inr t) = (refl, good_plain a t.1, good_plain b t.0)
bin_plain op.Sub a b e = by_part (joined_bools (bin_inline op.Sub a b) b.inline a.sum.good e)
  where
    by_part : (bin_inline op.Sub a b ≡ true) ⊎ ((b.inline ≡ true) × (a.sum.good ≡ true)) → Both op.Sub a b
    by_part (inl t) = both_inline op.Sub a b refl t
    by_part (inr t) = (refl, good_plain a t.1, inline_plain b t.0)
bin_plain op.Mul a b e = by_part (scaled_only (bin_inline op.Mul a b) (bin_scaled op.Mul a b) e)
  where
    by_part : (bin_inline op.Mul a b ≡ true) ⊎ (bin_scaled op.Mul a b ≡ true) → Both op.Mul a b
    by_part (inl t) = both_inline op.Mul a b refl t
    by_part (inr t) = both_scaled a b t
bin_plain o a b e = both_inline o a b refl (inline_only (bin_inline o a b) e)

-- ---- classes that cells and accesses have not
pub no_if : (test : Class → Bool) → test class.Other ≡ false → (b : Bool) (c : Class) → test c ≡ false → test (class_if b c) ≡ true → ⊥
no_if test n true c e h = false≢true (sym e ∙ h)
no_if test n false c e h = false≢true (sym n ∙ h)

no_cell_at : (test : Class → Bool) → ((z : Size) → test (class.Reg z) ≡ false) → ((z : Size) → test (class.Mem (Some z)) ≡ false) → test class.Other ≡ false → (s : Storage) (k : known.Kind) (i j : Bool) → test (cell_at s k i j) ≡ true → ⊥
no_cell_at test r m n storage.Reg (scope.Array y) i j h = no_if test n i (class.Reg y) (r y) h
no_cell_at test r m n storage.Stack (scope.Array y) i j h = no_if test n j (class.Mem (Some y)) (m y) h
no_cell_at test r m n s k i j h = false≢true (sym n ∙ h)

pub no_cell : (test : Class → Bool) → ((z : Size) → test (class.Reg z) ≡ false) → ((z : Size) → test (class.Mem (Some z)) ≡ false) → test class.Other ≡ false → (k : Known) (i j : Bool) → test (cell_class k i j) ≡ true → ⊥
no_cell test r m n None i j h = false≢true (sym n ∙ h)
no_cell test r m n (Some d) i j h = no_cell_at test r m n d.storage d.kind i j h

-- a register, memory or inline
abbrev pub HasClass : Class → Type 0
HasClass c = is_rmi c ≡ true

abbrev pub is_masked : Class → Bool
is_masked (class.Masked m) = true
is_masked _ = false

-- ---- shapes

module _ (sorts : Sorts) where
  pub shape_of_access : Access → Shape
  shape_of_access = fold-Access _ _ _ _ _ shape_step (λ t. tt) (λ a. a.at) (λ d. tt) (λ x. sorts x.name x.copy)

  pub sort_of_var : Var → Sort
  sort_of_var = fold-Var _ _ _ _ _ shape_step (λ t. tt) (λ a. a.at) (λ d. tt) (λ x. sorts x.name x.copy)

  pub sort_at : (v : Var) → sort_of_var v ≡ sorts (out-Var v).name (out-Var v).copy
  unfolding sort_of_var
  sort_at v = fold_out-Var _ _ _ _ _ shape_step (λ t. tt) (λ a. a.at) (λ d. tt) (λ x. sorts x.name x.copy) v

  access_shape : (a : Access) → shape_of_access a ≡ shape_of sorts (out-Access a).at
  unfolding shape_of_access
  access_shape a = fold_out-Access _ _ _ _ _ shape_step (λ t. tt) (λ a. a.at) (λ d. tt) (λ x. sorts x.name x.copy) a

  abbrev pub shape_layer : Layer → Shape
  shape_layer x = shape_step (map-Expr _ _ _ _ _ Shape (Unit {0}) Shape (Unit {0}) Sort (shape_of sorts) (λ t. tt) shape_of_access (λ d. tt) sort_of_var x)

  pub shape_is : (x : Layer) → shape_of sorts (roll-Expr x) ≡ shape_layer x
  unfolding shape_of_access sort_of_var
  shape_is x = fold-roll-Expr _ _ _ _ _ shape_step (λ t. tt) (λ a. a.at) (λ d. tt) (λ v. sorts v.name v.copy) x

  abbrev pub Fixed : Expr → Type 0
  Fixed e = (shape_of sorts e).fixed ≡ true

  abbrev pub FixedLayer : Layer → Type 0
  FixedLayer x = (shape_layer x).fixed ≡ true

  pub fixed_out : (e : Expr) → FixedLayer (out-Expr e) → Fixed e
  fixed_out e h = ap (λ x. (shape_of sorts x).fixed) (sym (roll-out-Expr e)) ∙ (ap (λ s. s.fixed) (shape_is (out-Expr e)) ∙ h)

  pub fixed_rolled : (x : Layer) → FixedLayer x → Fixed (roll-Expr x)
  fixed_rolled x h = ap (λ s. s.fixed) (shape_is x) ∙ h

  pub both_fixed : (o : BinOp) (a b : Expr) (at : Span) → joins o ≡ false → Fixed a → Fixed b → FixedLayer (Expr-F.Bin o a b at)
  both_fixed o a b at j f g =
      let c = (shape_of sorts b).count in
      and_both (shape_of sorts a).fixed ((shape_of sorts b).fixed && (not (joins o) || (c == 0))) f
      (and_both (shape_of sorts b).fixed (not (joins o) || (c == 0)) g (or_left (not (joins o)) (c == 0) (ap not j)))

  -- ---- what is plain
  abbrev PlainLaw : Expr → Type 0
  PlainLaw e = IsPlainLook (look_of e) → Fixed e

  abbrev Proved : Type 0
  Proved = Expr-F ((e : Expr) × PlainLaw e) (Ty × Unit {0}) (Access × Unit {0}) (Decl × Unit {0}) (Var × Unit {0})

  abbrev bare : Proved → Layer
  bare y = map-Expr _ _ _ _ _ Expr Ty Access Decl Var (λ e. e.0) (λ e. e.0) (λ e. e.0) (λ e. e.0) (λ e. e.0) y

  layer_plain : (y : Proved) → IsPlainLook (look_layer (bare y)) → FixedLayer (bare y)
  layer_plain (Expr-F.Num n at) h = refl
  layer_plain (Expr-F.Expr::Bool b at) h = refl
  layer_plain (Expr-F.Var v) h = refl
  layer_plain (Expr-F.Cell v i) h = i.1 (inline_plain (look_of i.0) (and_parts (is_regs64 (var_looked v.0)) (look_of i.0).inline (reg_only (is_regs64 (var_looked v.0) && (look_of i.0).inline) h)).1)
  layer_plain (Expr-F.Load a) h = absurd (false≢true h)
  layer_plain (Expr-F.Neg a at) h = a.1 (inline_plain (look_of a.0) (inline_only (look_of a.0).inline h))
  layer_plain (Expr-F.Not a at) h = a.1 (inline_plain (look_of a.0) (inline_only (look_of a.0).inline h))
  layer_plain (Expr-F.Cast z s a at) h = absurd (false≢true h)
  layer_plain (Expr-F.Bin o a b at) h =
      let p = bin_plain o (look_of a.0) (look_of b.0) h in
      both_fixed o a.0 b.0 at p.0 (a.1 p.1) (b.1 p.2)

  plain_case : (y : Proved) → PlainLaw (roll-Expr (bare y))
  plain_case y h = ap (λ s. s.fixed) (shape_is (bare y)) ∙ layer_plain y (subst IsPlainLook (look_is (bare y)) h)

  pub plain_fixed : (e : Expr) → PlainLaw e
  plain_fixed =
      ind-Expr PlainLaw (λ t. Unit {0}) (λ a. Unit {0}) (λ d. Unit {0}) (λ v. Unit {0})
      (λ x y is. subst (λ z. PlainLaw (roll-Expr z)) is (plain_case y))
      (λ x y is. tt)
      (λ x y is. tt)
      (λ x y is. tt)
      (λ x y is. tt)

  pub inline_fixed : (e : Expr) → (look_of e).inline ≡ true → Fixed e
  inline_fixed e h = plain_fixed e (inline_plain (look_of e) h)

  pub good_fixed : (e : Expr) → (look_of e).sum.good ≡ true → Fixed e
  good_fixed e h = plain_fixed e (good_plain (look_of e) h)

  -- the sum of an address, and that of an index
  address_fixed : (e : Expr) → is_address (terms_of e) ≡ true → Fixed e
  address_fixed e h = good_fixed e (and_parts (terms_of e).good _ (and_parts (is_sum (terms_of e)) (nat_le 1 (terms_of e).plain) h).0).0

  index_fixed : (e : Expr) → is_index (terms_of e) ≡ true → Fixed e
  index_fixed e h = good_fixed e (and_parts (terms_of e).good _ h).0

  -- ---- numbers that are written
  abbrev NumberLaw : Expr → Type 0
  NumberLaw e = (n : ℤ) → plain_value e ≡ Some (constant.Int n) → Fixed e

  abbrev Numbered : Type 0
  Numbered = Expr-F ((e : Expr) × NumberLaw e) (Ty × Unit {0}) (Access × Unit {0}) (Decl × Unit {0}) (Var × Unit {0})

  abbrev bare_number : Numbered → Layer
  bare_number y = map-Expr _ _ _ _ _ Expr Ty Access Decl Var (λ e. e.0) (λ e. e.0) (λ e. e.0) (λ e. e.0) (λ e. e.0) y

  number_of_var : Var → Option ℤ
  number_of_var = fold-Var _ _ _ _ _ value_step (λ t. tt) (λ a. tt) (λ d. tt) (λ v. None)

  abbrev value_layered : Layer → Option Constant
  value_layered x = value_step (map-Expr _ _ _ _ _ (Option Constant) (Unit {0}) (Unit {0}) (Unit {0}) (Option ℤ) plain_value (λ t. tt) (λ a. tt) (λ d. tt) number_of_var x)

  value_is : (x : Layer) → plain_value (roll-Expr x) ≡ value_layered x
  unfolding number_of_var
  value_is x = fold-roll-Expr _ _ _ _ _ value_step (λ t. tt) (λ a. tt) (λ d. tt) (λ v. None) x

  no_bool : (b : Bool) (n : ℤ) → ◌≡◌ {A = Option Constant} (Some (constant.Bool b)) (Some (constant.Int n)) → ⊥
  no_bool b n e = cc

  minus_of : (c : Option Constant) (n : ℤ) → minus c ≡ Some (constant.Int n) → (i : ℤ) × (c ≡ Some (constant.Int i))
  minus_of None n e = absurd (none_not (constant.Int n) e)
  minus_of (Some (constant.Int i)) n e = (i, refl)
  minus_of (Some (constant.Bool b)) n e = absurd (none_not (constant.Int n) e)

  opposite_of : (c : Option Constant) (n : ℤ) → opposite c ≡ Some (constant.Int n) → (i : ℤ) × (c ≡ Some (constant.Int i))
  opposite_of None n e = absurd (none_not (constant.Int n) e)
  opposite_of (Some (constant.Int i)) n e = (i, refl)
  opposite_of (Some (constant.Bool b)) n e = absurd (no_bool (not b) n e)

  no_join : (o : BinOp) (i j n : ℤ) → on_integers o i j ≡ Some (constant.Int n) → joins o ≡ false
  no_join op.AndThen i j n e = absurd (none_not (constant.Int n) e)
  no_join op.OrElse i j n e = absurd (none_not (constant.Int n) e)
  no_join o i j n e = refl

  no_truth : (c : Bool) (b : Bool) (n : ℤ) → (if c then integers.truth b else None) ≡ Some (constant.Int n) → ⊥
  no_truth true b n e = no_bool b n e
  no_truth false b n e = none_not (constant.Int n) e

  no_settled : (s : Bool) (o : BinOp) (b : Bool) (y : Option Constant) (n : ℤ) → (if s then Some (constant.Bool b) else with_right o (constant.Bool b) y) ≡ Some (constant.Int n) → ⊥
  no_settled true o b y n e = no_bool b n e
  no_settled false o b None n e = none_not (constant.Int n) e
  no_settled false o b (Some (constant.Int j)) n e = none_not (constant.Int n) e
  no_settled false o b (Some (constant.Bool c)) n e = no_truth (joins o) c n e

  joined_of : (o : BinOp) (x y : Option Constant) (n : ℤ) → joined o x y ≡ Some (constant.Int n) → (joins o ≡ false) × ((i : ℤ) × (x ≡ Some (constant.Int i))) × ((j : ℤ) × (y ≡ Some (constant.Int j)))
  joined_of o None y n e = absurd (none_not (constant.Int n) e)
  joined_of o (Some (constant.Int i)) None n e = absurd (none_not (constant.Int n) e)
  joined_of o (Some (constant.Int i)) (Some (constant.Int j)) n e = (no_join o i j n e, (i, refl), (j, refl))
  joined_of o (Some (constant.Int i)) (Some (constant.Bool c)) n e = absurd (none_not (constant.Int n) e)
  joined_of o (Some (constant.Bool b)) y n e = absurd (no_settled (integers.settles o b) o b y n e)

  layer_number : (y : Numbered) (n : ℤ) → value_layered (bare_number y) ≡ Some (constant.Int n) → FixedLayer (bare_number y)
  layer_number (Expr-F.Num k at) n e = refl
  layer_number (Expr-F.Expr::Bool b at) n e = refl
  layer_number (Expr-F.Var v) n e = refl
  layer_number (Expr-F.Cell v i) n e = absurd (none_not (constant.Int n) e)
  layer_number (Expr-F.Load a) n e = absurd (none_not (constant.Int n) e)
  layer_number (Expr-F.Neg a at) n e = let m = minus_of (plain_value a.0) n e in a.1 m.0 m.1
  layer_number (Expr-F.Not a at) n e = let m = opposite_of (plain_value a.0) n e in a.1 m.0 m.1
  layer_number (Expr-F.Cast z s a at) n e = absurd (none_not (constant.Int n) e)
  layer_number (Expr-F.Bin o a b at) n e =
      let j = joined_of o (plain_value a.0) (plain_value b.0) n e in
      both_fixed o a.0 b.0 at j.0 (a.1 j.1.0 j.1.1) (b.1 j.2.0 j.2.1)

  number_case : (y : Numbered) → NumberLaw (roll-Expr (bare_number y))
  number_case y n e = ap (λ s. s.fixed) (shape_is (bare_number y)) ∙ layer_number y n (sym (value_is (bare_number y)) ∙ e)

  number_fixed : (e : Expr) → NumberLaw e
  number_fixed =
      ind-Expr NumberLaw (λ t. Unit {0}) (λ a. Unit {0}) (λ d. Unit {0}) (λ v. Unit {0})
      (λ x y is. subst (λ z. NumberLaw (roll-Expr z)) is (number_case y))
      (λ x y is. tt)
      (λ x y is. tt)
      (λ x y is. tt)
      (λ x y is. tt)

  -- ---- classes
  if_class : (b : Bool) (c : Class) → HasClass (class_if b c) → b ≡ true
  if_class true c h = refl
  if_class false c h = absurd (false≢true h)

  cell_at_fixed : (s : Storage) (k : known.Kind) (i j : Bool) → HasClass (cell_at s k i j) → (i ≡ true) ⊎ (j ≡ true)
  cell_at_fixed storage.Reg (scope.Array y) i j h = inl (if_class i (class.Reg y) h)
  cell_at_fixed storage.Stack (scope.Array y) i j h = inr (if_class j (class.Mem (Some y)) h)
  cell_at_fixed s k i j h = absurd (false≢true h)

  cell_class_fixed : (k : Known) (i j : Bool) → HasClass (cell_class k i j) → (i ≡ true) ⊎ (j ≡ true)
  cell_class_fixed None i j h = absurd (false≢true h)
  cell_class_fixed (Some d) i j h = cell_at_fixed d.storage d.kind i j h

  pub cell_fixed : (v : Var) (i : Expr) → HasClass (cell_of v i) → Fixed i
  cell_fixed v i h = by_part (cell_class_fixed (known_of v) (look_of i).inline (is_index (terms_of i)) h)
    where
      by_part : ((look_of i).inline ≡ true) ⊎ (is_index (terms_of i) ≡ true) → Fixed i
      by_part (inl t) = inline_fixed i t
      by_part (inr t) = index_fixed i t

  pub mem_fixed : (z : Option Size) (at : Expr) → HasClass (mem_of z at) → Fixed at
  mem_fixed z at h = address_fixed at (if_class (is_address (terms_of at)) (class.Mem z) h)

  mask_no_class : (n : Option ℤ) → HasClass (mask_of n) → ⊥
  mask_no_class None h = false≢true h
  mask_no_class (Some k) h = two _ _ h
    where
      two : (a b : Bool) → HasClass (if a then class.Masked mask.Five else if b then class.Masked mask.Six else class.Other) → ⊥
      two true b h = false≢true h
      two false true h = false≢true h
      two false false h = false≢true h

  byte_no_class : (b : Bool) (n : Option ℤ) → HasClass (class_if b (mask_of n)) → ⊥
  byte_no_class true n h = mask_no_class n h
  byte_no_class false n h = false≢true h

  masked_no_class : (o : BinOp) (a b : Expr) → HasClass (masked_class o a b) → ⊥
  masked_no_class op.And a b h = byte_no_class (is_byte (register_layer (out-Expr a))) (written_number b) h
  masked_no_class o a b h = false≢true h

  inline_class : (b : Bool) (c : Class) → (HasClass c → ⊥) → HasClass (inline_or b c) → b ≡ true
  inline_class true c n h = refl
  inline_class false c n h = absurd (n h)

  no_other : HasClass class.Other → ⊥
  no_other h = false≢true h

  inline_join : (o : BinOp) → gives_number o ≡ true → joins o ≡ false
  inline_join op.AndThen e = absurd (false≢true e)
  inline_join op.OrElse e = absurd (false≢true e)
  inline_join o e = refl

  pub class_layer_fixed : (x : Layer) → HasClass (class_layer x) → FixedLayer x
  class_layer_fixed (Expr-F.Num n at) h = refl
  class_layer_fixed (Expr-F.Expr::Bool b at) h = refl
  class_layer_fixed (Expr-F.Var v) h = refl
  class_layer_fixed (Expr-F.Cell v i) h = cell_fixed v i h
  class_layer_fixed (Expr-F.Load a) h = ap (λ s. s.fixed) (access_shape a) ∙ mem_fixed (out-Access a).size (out-Access a).at h
  class_layer_fixed (Expr-F.Neg a at) h = inline_fixed a (inline_class (look_of a).inline class.Other no_other h)
  class_layer_fixed (Expr-F.Not a at) h = inline_fixed a (inline_class (look_of a).inline class.Other no_other h)
  class_layer_fixed (Expr-F.Cast z s a at) h = absurd (false≢true h)
  class_layer_fixed (Expr-F.Bin o a b at) h =
      let i = inline_class (bin_inline o (look_of a) (look_of b)) (masked_class o a b) (masked_no_class o a b) h in
      let p = and_parts (gives_number o) _ i in
      let r = and_parts (look_of b).inline (look_of a).inline p.1 in
      both_fixed o a b at (inline_join o p.0) (inline_fixed a r.1) (inline_fixed b r.0)

  pub class_fixed : (e : Expr) → HasClass (class_of e) → Fixed e
  class_fixed e h = fixed_out e (class_layer_fixed (out-Expr e) h)

  -- ---- masks

  byte_register : (x : Layer) → is_byte (register_layer x) ≡ true → FixedLayer x
  byte_register (Expr-F.Num n at) h = refl
  byte_register (Expr-F.Expr::Bool b at) h = refl
  byte_register (Expr-F.Var v) h = refl
  byte_register (Expr-F.Cell v i) h = cell_fixed v i (byte_class (cell_of v i) h)
    where
      byte_class : (c : Class) → is_byte c ≡ true → HasClass c
      byte_class (class.Reg z) h = refl
      byte_class (class.Mem z) h = absurd (false≢true h)
      byte_class class.Inline h = absurd (false≢true h)
      byte_class class.Flag h = absurd (false≢true h)
      byte_class (class.Masked m) h = absurd (false≢true h)
      byte_class class.Skip h = absurd (false≢true h)
      byte_class class.Other h = absurd (false≢true h)
  byte_register (Expr-F.Load a) h = absurd (false≢true h)
  byte_register (Expr-F.Neg a at) h = absurd (false≢true h)
  byte_register (Expr-F.Not a at) h = absurd (false≢true h)
  byte_register (Expr-F.Cast z s a at) h = absurd (false≢true h)
  byte_register (Expr-F.Bin o a b at) h = absurd (false≢true h)

  number_there : (c : Option Constant) (n : ℤ) → the_number c ≡ Some n → c ≡ Some (constant.Int n)
  number_there None n e = absurd (none_not n e)
  number_there (Some (constant.Int i)) n e = ap (λ k. Some (constant.Int k)) (same i n e)
    where
      same : (i n : ℤ) → ◌≡◌ {A = Option ℤ} (Some i) (Some n) → i ≡ n
      same i n e = cc
  number_there (Some (constant.Bool b)) n e = absurd (none_not n e)

  mask_written : (o : Option ℤ) (e : Expr) → written_number e ≡ o → is_masked (mask_of o) ≡ true → Fixed e
  mask_written None e w h = absurd (false≢true h)
  mask_written (Some k) e w h = number_fixed e k (number_there (plain_value e) k w)

  byte_masked : (b : Bool) (c : Class) → is_masked (class_if b c) ≡ true → (b ≡ true) × (is_masked c ≡ true)
  byte_masked true c h = (refl, h)
  byte_masked false c h = absurd (false≢true h)

  masked_parts : (o : BinOp) (a b : Expr) → is_masked (masked_class o a b) ≡ true → (joins o ≡ false) × Fixed a × Fixed b
  masked_parts op.And a b h =
      let p = byte_masked (is_byte (register_layer (out-Expr a))) (mask_of (written_number b)) h in
      (refl, fixed_out a (byte_register (out-Expr a) p.0), mask_written (written_number b) b refl p.1)
  masked_parts o a b h = absurd (false≢true h)

  inline_masked : (b : Bool) (c : Class) → is_masked (inline_or b c) ≡ true → is_masked c ≡ true
  inline_masked true c h = absurd (false≢true h)
  inline_masked false c h = h

  mask_layer_fixed : (x : Layer) → is_masked (class_layer x) ≡ true → FixedLayer x
  mask_layer_fixed (Expr-F.Num n at) h = refl
  mask_layer_fixed (Expr-F.Expr::Bool b at) h = refl
  mask_layer_fixed (Expr-F.Var v) h = refl
  mask_layer_fixed (Expr-F.Cell v i) h = absurd (no_cell is_masked (λ z. refl) (λ z. refl) refl (known_of v) (look_of i).inline (is_index (terms_of i)) h)
  mask_layer_fixed (Expr-F.Load a) h = absurd (no_if is_masked refl (is_address (terms_of (out-Access a).at)) (class.Mem (out-Access a).size) refl h)
  mask_layer_fixed (Expr-F.Neg a at) h = absurd (false≢true (inline_masked (look_of a).inline class.Other h))
  mask_layer_fixed (Expr-F.Not a at) h = absurd (false≢true (inline_masked (look_of a).inline class.Other h))
  mask_layer_fixed (Expr-F.Cast z s a at) h = absurd (false≢true h)
  mask_layer_fixed (Expr-F.Bin o a b at) h =
      let p = masked_parts o a b (inline_masked (bin_inline o (look_of a) (look_of b)) (masked_class o a b) h) in
      both_fixed o a b at p.0 p.1 p.2

  pub mask_fixed : (e : Expr) → is_masked (class_of e) ≡ true → Fixed e
  mask_fixed e h = fixed_out e (mask_layer_fixed (out-Expr e) h)
