-- In an expression and in a left side that is typed, each whole variable is inline by its declaration and no cell, or it is not inline by its name; arrays are not inline.
use Rattle.std.proofs.Common.{◌≡◌, List, [], ◌∷◌, Some, None, Bool, true, false, not, refl, ap, sym, ◌∙◌, subst, inl, inr}
use Rattle.std.specs.Prelude.{All, is_none, nat_eq, if◌then◌else◌}
use Rattle.std.proofs.lemmas.Bool.{and_from, false≢true, not_from_false}
use Rattle.std.proofs.lemmas.List.Elements.{All-nil, All-cons, All-head, All-tail}
use Rattle.jz_tree.specs.Size.{Size}
use Rattle.jz_tree.specs.declared.expr.Storage.{Storage}
use Rattle.jz_tree.specs.declared.expr.Storage.TheVariants as storage
use Rattle.jz_tree.specs.declared.expr.Expr.{Expr}
use Rattle.jz_tree.specs.declared.expr.Ty.{Ty}
use Rattle.jz_tree.specs.declared.expr.Access.{Access}
use Rattle.jz_tree.specs.declared.expr.Decl.{Decl}
use Rattle.jz_tree.specs.declared.expr.Var.{Var}
use Rattle.jz_tree.specs.declared.expr.Expr.TheOpen.{Expr-F}
use Rattle.jz_tree.specs.declared.expr.Expr.TheViews.{out-Access, roll-Expr, roll-Access, out-roll-Expr, roll-out-Access}
use Rattle.jz_tree.specs.declared.expr.Expr.TheFolds.{ind-Expr, map-Expr}
use Rattle.jz_tree.specs.declared.stmt.Lval.{Lval}
use Rattle.jz_tree.specs.declared.stmt.Lval.TheVariants as lval
use Rattle.jz_tree.specs.declared.program.Fun.{Fun}
use Rattle.jz_type_names.specs.declared.kinds.Kind as known
use Rattle.jz_type_names.specs.declared.kinds.Kind.TheVariants as scope
use Rattle.jz_type_names.specs.Kinds.{Known, known_of, inline_int, is_inline_int, is_array, is_array_kind}
use Rattle.jz_type_names.specs.Parts.{left_exprs, left_vars}
use Rattle.jz_judgement.specs.Places.{Place, word, unsized, index, stated, WordKind, IsWordOf, ArrayKind, IsArrayOf}
use Rattle.jz_judgement.specs.HasType as judged
use Rattle.jz_judgement.specs.HasType.{Term, value, HasType, Types}
use Rattle.jz_judgement.specs.Lefts as lefts
use Rattle.jz_judgement.specs.Lefts.{BoolKind, IsBool, Wants, Leaves, Holds, Takes, IsSound, IsFlag, IsProduct}
use Rattle.jz_types.specs.Carried.{vars_in}
use Rattle.jz_run_laws.proofs.Sizes.{types_of, left_type, right_type}
use Rattle.jz_texts.proofs.Lists.{parted}
use Rattle.jz_texts.proofs.Variables.{layer_vars, vars_rolled}
use Rattle.jz_bodies.proofs.Reading.{access_index, access_over, layer_over, over_rolled}
use Rattle.jz_meaning.specs.Values.{ref_of}
use Rattle.jz_unroll.specs.Values.{is_inline_var}
use Rattle.jz_unroll.proofs.Layers.{Layer}
use Rattle.jz_unroll.proofs.InlineParts.{inline_var as inline_var_is}
use Rattle.jz_unrolling_laws.specs.AskedLaws.{is_named, has_named, access_named, of_text, any_array, is_text}
use Rattle.jz_unrolling_laws.specs.CalledBodies.{inlines_of, IsNamedVar, IsNamedLeft, AreNamedLefts}
use Rattle.jz_unrolling_laws.proofs.AskedValues.{named_layer, named_is, access_named_is}
use Rattle.jz_inline_laws.specs.InlineParts.{inline_in, IsOtherLeft}
use Rattle.jz_inline_laws.proofs.ClearVars.{IsClear, plain_var}

-- ---- what is not inline

no_array : (s : Storage) (k : known.Kind) (z : Size) → ArrayKind z k → inline_int s k ≡ false
no_array s scope.Int z a = absurd a
no_array s scope.Truth z a = absurd a
no_array s (scope.Word y) z a = absurd a
no_array storage.Inline (scope.Array y) z a = refl
no_array storage.Reg (scope.Array y) z a = refl
no_array storage.Stack (scope.Array y) z a = refl

pub array_plain : (k : Known) (z : Size) → IsArrayOf z k → is_inline_int k ≡ false
array_plain None z a = absurd a
array_plain (Some d) z a = no_array d.storage d.kind z a

no_word : (s : Storage) (k : known.Kind) (z : Size) → WordKind z k → inline_int s k ≡ false
no_word s scope.Int z w = absurd w
no_word s scope.Truth z w = absurd w
no_word s (scope.Array y) z w = absurd w
no_word storage.Inline (scope.Word y) z w = refl
no_word storage.Reg (scope.Word y) z w = refl
no_word storage.Stack (scope.Word y) z w = refl

pub word_plain : (k : Known) (z : Size) → IsWordOf z k → is_inline_int k ≡ false
word_plain None z w = absurd w
word_plain (Some d) z w = no_word d.storage d.kind z w

no_bool : (s : Storage) (k : known.Kind) → BoolKind k → inline_int s k ≡ false
no_bool s scope.Int b = absurd b
no_bool s (scope.Word y) b = absurd b
no_bool s (scope.Array y) b = absurd b
no_bool storage.Inline scope.Truth b = refl
no_bool storage.Reg scope.Truth b = refl
no_bool storage.Stack scope.Truth b = refl

pub bool_plain : (k : Known) → IsBool k → is_inline_int k ≡ false
bool_plain None b = absurd b
bool_plain (Some d) b = no_bool d.storage d.kind b

no_cells : (s : Storage) (k : known.Kind) → is_array_kind k ≡ true → inline_int s k ≡ false
no_cells s scope.Int a = absurd (false≢true a)
no_cells s scope.Truth a = absurd (false≢true a)
no_cells s (scope.Word z) a = absurd (false≢true a)
no_cells storage.Inline (scope.Array y) a = refl
no_cells storage.Reg (scope.Array y) a = refl
no_cells storage.Stack (scope.Array y) a = refl

pub cells_plain : (k : Known) → is_array k ≡ true → is_inline_int k ≡ false
cells_plain None a = absurd (false≢true a)
cells_plain (Some d) a = no_cells d.storage d.kind a

-- ---- expressions

module _ (f : Fun) where
  abbrev C : Var → Type 0
  C = IsClear f

  abbrev not_inline : Var → Bool
  not_inline v = not (is_inline_var (inline_in f) v)

  plain_named : (v : Var) → C v → is_inline_int (known_of v) ≡ false → is_inline_var (inline_in f) v ≡ false
  plain_named v h e = h.named ∙ e

  pub var_named : (v : Var) → C v → is_named (inline_in f) v ≡ true
  var_named v h = by_known (is_inline_int (known_of v)) refl
    where
      by_known : (b : Bool) → is_inline_int (known_of v) ≡ b → (if is_inline_int (known_of v) then is_none (ref_of v).cell else not_inline v) ≡ true
      by_known true e = ap (λ b. if b then is_none (ref_of v).cell else not_inline v) e ∙ ap is_none h.cell
      by_known false e = ap (λ b. if b then is_none (ref_of v).cell else not_inline v) e ∙ not_from_false (is_inline_var (inline_in f) v) (plain_named v h e)

  -- an array before an index
  pub array_named : (v : Var) (z : Size) → C v → IsArrayOf z (known_of v) → not_inline v ≡ true
  array_named v z h a = not_from_false (is_inline_var (inline_in f) v) (plain_named v h (array_plain (known_of v) z a))

  pub at_named : (a : Access) → has_named (inline_in f) (out-Access a).at ≡ true → access_named (inline_in f) a ≡ true
  at_named a h = ap (access_named (inline_in f)) (sym (roll-out-Access a)) ∙ access_named_is (inline_in f) (out-Access a) ∙ h

  abbrev Law : Expr → Type 0
  Law e = (p : Place) → HasType (value e) p → All C (vars_in e) → has_named (inline_in f) e ≡ true

  abbrev Proved : Type 0
  Proved = Expr-F ((e : Expr) × Law e) (Ty × Unit {0}) ((a : Access) × Law (out-Access a).at) (Decl × Unit {0}) (Var × Unit {0})

  abbrev bare : Proved → Layer
  bare y = map-Expr _ _ _ _ _ Expr Ty Access Decl Var (λ e. e.0) (λ e. e.0) (λ e. e.0) (λ e. e.0) (λ e. e.0) y

  layer_law : (y : Proved) (p : Place) → Types (bare y) p → All C (layer_vars (bare y)) → named_layer (inline_in f) (bare y) ≡ true
  unfolding layer_vars
  layer_law (Expr-F.Num n at) p t h = refl
  layer_law (Expr-F.Expr::Bool b at) p t h = refl
  layer_law (Expr-F.Var v) p t h = var_named v.0 (All-head C v.0 [] h)
  layer_law (Expr-F.Cell v i) p (judged.cell z g w x) h =
      and_from (not_inline v.0) (has_named (inline_in f) i.0) (array_named v.0 z (All-head C v.0 (vars_in i.0) h) g) (i.1 index x (All-tail C v.0 (vars_in i.0) h))
  layer_law (Expr-F.Load a) p (judged.load x) h = at_named a.0 (a.1 index (access_index (out-Access a.0) p x) h)
  layer_law (Expr-F.Neg a at) p (judged.negated k x) h = a.1 p x h
  layer_law (Expr-F.Not a at) p (judged.inverted x) h = a.1 p x h
  layer_law (Expr-F.Cast z s a at) p (judged.cast y t says x) h = a.1 (stated y) x h
  layer_law (Expr-F.Bin o a b at) p (judged.operation x) h =
      let l = left_type o (value a.0) (value b.0) p x in
      let r = right_type o (value a.0) (value b.0) p x in
      let parts = parted C (vars_in a.0) (vars_in b.0) h in
      and_from (has_named (inline_in f) a.0) (has_named (inline_in f) b.0) (a.1 l.0 l.1 parts.0) (b.1 r.0 r.1 parts.1)

  expr_case : (y : Proved) → Law (roll-Expr (bare y))
  expr_case y p t h =
      named_is (inline_in f) (bare y)
      ∙ layer_law y p (subst (λ x. Types x p) (out-roll-Expr (bare y)) (types_of (roll-Expr (bare y)) p t)) (subst (All C) (vars_rolled (bare y)) h)

  pub expr_named : (e : Expr) → Law e
  expr_named =
      ind-Expr Law (λ t. Unit {0}) (λ a. Law (out-Access a).at) (λ d. Unit {0}) (λ v. Unit {0})
      (λ x y is. subst (λ z. Law (roll-Expr z)) is (expr_case y))
      (λ x y is. tt)
      (λ x y is. subst (λ z. Law (out-Access (roll-Access z)).at) is y.at.1)
      (λ x y is. tt)
      (λ x y is. tt)

  -- ---- the text

  abbrev Text : Expr → Type 0
  Text e = All C (vars_in e) → is_text e ≡ true

  abbrev Read : Type 0
  Read = Expr-F ((e : Expr) × Text e) (Ty × Unit {0}) ((a : Access) × Text (out-Access a).at) (Decl × Unit {0}) (Var × Unit {0})

  abbrev bare_text : Read → Layer
  bare_text y = map-Expr _ _ _ _ _ Expr Ty Access Decl Var (λ e. e.0) (λ e. e.0) (λ e. e.0) (λ e. e.0) (λ e. e.0) y

  pub var_text : (v : Var) → C v → of_text (ref_of v) ≡ true
  var_text v h = ap (λ c. nat_eq c 0) h.copy

  layer_text : (y : Read) → All C (layer_vars (bare_text y)) → layer_over of_text any_array (bare_text y) ≡ true
  unfolding layer_vars
  layer_text (Expr-F.Num n at) h = refl
  layer_text (Expr-F.Expr::Bool b at) h = refl
  layer_text (Expr-F.Var v) h = var_text v.0 (All-head C v.0 [] h)
  layer_text (Expr-F.Cell v i) h = i.1 (All-tail C v.0 (vars_in i.0) h)
  layer_text (Expr-F.Load a) h = a.1 h
  layer_text (Expr-F.Neg a at) h = a.1 h
  layer_text (Expr-F.Not a at) h = a.1 h
  layer_text (Expr-F.Cast z s a at) h = a.1 h
  layer_text (Expr-F.Bin o a b at) h =
      let p = parted C (vars_in a.0) (vars_in b.0) h in and_from (is_text a.0) (is_text b.0) (a.1 p.0) (b.1 p.1)

  text_case : (y : Read) → Text (roll-Expr (bare_text y))
  text_case y h = over_rolled of_text any_array (bare_text y) ∙ layer_text y (subst (All C) (vars_rolled (bare_text y)) h)

  pub expr_text : (e : Expr) → Text e
  expr_text =
      ind-Expr Text (λ t. Unit {0}) (λ a. Text (out-Access a).at) (λ d. Unit {0}) (λ v. Unit {0})
      (λ x y is. subst (λ z. Text (roll-Expr z)) is (text_case y))
      (λ x y is. tt)
      (λ x y is. subst (λ z. Text (out-Access (roll-Access z)).at) is y.at.1)
      (λ x y is. tt)
      (λ x y is. tt)

  pub named_var : (v : Var) → C v → IsNamedVar (inlines_of f) v
  named_var v h = (var_text v h, inline_var_is v ∙ sym h.named, h.int ∙ sym h.named)

  -- ---- left sides

  -- what the judgement says of one that is no inline variable
  abbrev pub LeftIs : Lval → Type 0
  LeftIs (lval.Skip at) = Unit {0}
  LeftIs (lval.Var v) = is_inline_int (known_of v) ≡ false
  LeftIs (lval.Cell v i) = (z : Size) × IsArrayOf z (known_of v) × HasType (value i) index
  LeftIs (lval.Store a) = HasType (value (out-Access a).at) index

  -- its variables are clear
  pub record IsUsed (d : Lval) : Type 0 where
    pub vars : All C (left_vars d)
    pub exprs : All (λ e. All C (vars_in e)) (left_exprs d)

  pub plain_left : (d : Lval) → IsUsed d → LeftIs d → IsOtherLeft (inline_in f) d
  plain_left (lval.Skip at) u h = tt
  plain_left (lval.Var v) u h = plain_var f v (All-head C v [] u.vars) h
  plain_left (lval.Cell v i) u (z, a, t) =
      (plain_named v (All-head C v [] u.vars) (array_plain (known_of v) z a), expr_named i index t (All-head (λ e. All C (vars_in e)) i [] u.exprs))
  plain_left (lval.Store a) u h = at_named a (expr_named (out-Access a).at index h (All-head (λ e. All C (vars_in e)) (out-Access a).at [] u.exprs))

  pub named_left : (d : Lval) → IsUsed d → IsNamedLeft (inlines_of f) d
  named_left (lval.Skip at) u = tt
  named_left (lval.Var v) u = named_var v (All-head C v [] u.vars)
  named_left (lval.Cell v i) u = expr_text i (All-head (λ e. All C (vars_in e)) i [] u.exprs)
  named_left (lval.Store a) u = access_over of_text any_array a ∙ expr_text (out-Access a).at (All-head (λ e. All C (vars_in e)) (out-Access a).at [] u.exprs)

  pub all_named : (ds : List Lval) → All IsUsed ds → AreNamedLefts (inlines_of f) ds
  all_named [] u = tt
  all_named (d ∷ ds) u = (named_left d (All-head IsUsed d ds u), all_named ds (All-tail IsUsed d ds u))

  pub all_plain : (ds : List Lval) → All IsUsed ds → All LeftIs ds → All (IsOtherLeft (inline_in f)) ds
  all_plain [] u h = All-nil (IsOtherLeft (inline_in f))
  all_plain (d ∷ ds) u h =
      All-cons (IsOtherLeft (inline_in f)) d ds (plain_left d (All-head IsUsed d ds u) (All-head LeftIs d ds h)) (all_plain ds (All-tail IsUsed d ds u) (All-tail LeftIs d ds h))

  -- a place of a word
  word_wants : (d : Lval) (z : Size) → Wants d (word z) → LeftIs d
  word_wants (lval.Skip at) z w = elim w [ ]
  word_wants (lval.Var v) z (lefts.variable g) = word_plain (known_of v) z g
  word_wants (lval.Cell v i) z (lefts.cell g t) = (z, g, t)
  word_wants (lval.Store a) z (lefts.access g t) = t

  pub leaves_left : (d : Lval) (p : Place) → Leaves d p → LeftIs d
  leaves_left (lval.Skip at) p lefts.nothing = tt
  leaves_left (lval.Var v) p (lefts.array g) = cells_plain (known_of v) g
  leaves_left (lval.Var v) p (lefts.number g k t) = k
  leaves_left (lval.Cell v i) p w = elim w [ ]
  leaves_left (lval.Store a) p (lefts.access g t) = t

  pub word_left : (d : Lval) (z : Size) → Holds (word z) d → LeftIs d
  word_left d z (inl w) = word_wants d z w
  word_left d z (inr w) = leaves_left d (word z) w

  pub flag_left : (d : Lval) → IsFlag d → LeftIs d
  flag_left (lval.Skip at) lefts.nothing = tt
  flag_left (lval.Var v) (lefts.variable g) = bool_plain (known_of v) g
  flag_left (lval.Cell v i) w = elim w [ ]
  flag_left (lval.Store a) w = elim w [ ]

  pub product_left : (h l : Lval) (x : Term) → IsProduct h l x → LeftIs h × LeftIs l
  product_left h l x (lefts.words z w a b t) = (word_left h z a, word_left l z b)
  product_left h l x (lefts.numbers a b t) = (leaves_left h unsized a, leaves_left l unsized b)

  -- one left side that is no inline variable by its declaration
  abbrev pub IsOther : Lval → Type 0
  IsOther (lval.Var v) = is_inline_int (known_of v) ≡ false
  IsOther d = Unit {0}

  wants_left : (d : Lval) (p : Place) → Wants d p → IsOther d → LeftIs d
  wants_left (lval.Skip at) p w o = tt
  wants_left (lval.Var v) p w o = o
  wants_left (lval.Cell v i) p (lefts.cell {z = z} g t) o = (z, g, t)
  wants_left (lval.Store a) p (lefts.access g t) o = t

  pub takes_left : (d : Lval) (x : Term) → Takes d x → IsOther d → LeftIs d
  takes_left d x (lefts.wanted p w t) o = wants_left d p w o
  takes_left d x (lefts.left p w own t) o = leaves_left d p w
