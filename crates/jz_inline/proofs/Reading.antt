-- An expression of a copied body has in the copy the value and the numbers that it has in the body.
use Rattle.std.proofs.Common.{◌≡◌, ℕ, ◌<◌, [], ◌∷◌, Option, Some, Bool, true, false, refl, ap, sym, ◌∙◌, subst, arith}
use Rattle.std.specs.Prelude.{nat_lt, if◌then◌else◌, ◌&&◌}
use Rattle.std.specs.Option.{option_or}
use Rattle.std.proofs.lemmas.Bool.{and_parts}
use Rattle.std.proofs.lemmas.Bool.Decides.{nat_tests}
use Rattle.jz_tree.specs.Span.{Span}
use Rattle.jz_tree.specs.Size.{Size}
use Rattle.jz_tree.specs.Size.TheVariants.{S64}
use Rattle.jz_tree.specs.declared.expr.Expr.{Expr}
use Rattle.jz_tree.specs.declared.expr.Ty.{Ty}
use Rattle.jz_tree.specs.declared.expr.Access.{Access}
use Rattle.jz_tree.specs.declared.expr.Decl.{Decl}
use Rattle.jz_tree.specs.declared.expr.Var.{Var}
use Rattle.jz_tree.specs.declared.expr.Expr.TheOpen.{Expr-F, Access-F, Var-F}
use Rattle.jz_tree.specs.declared.expr.Expr.TheViews.{roll-Expr, roll-Access, roll-Var, out-Access, out-Var, roll-out-Var, roll-out-Access}
use Rattle.jz_tree.specs.declared.expr.Expr.TheFolds.{fold-Ty, fold-Decl, fold-roll-Expr, fold-roll-Access, fold-roll-Var, para-roll-Expr, para-roll-Access, ind-Expr, map-Expr, map-Access, map-Var}
use Rattle.jz_runs.specs.Rules.{stuck, went}
use Rattle.jz_meaning.specs.declared.access.Kind.{Kind}
use Rattle.jz_meaning.specs.declared.value.Why.TheVariants.{Bounds}
use Rattle.jz_meaning.specs.Attempts.{Evaluation, stuck_at, numbers_first, and_then, defined}
use Rattle.jz_meaning.specs.States.{Value, State}
use Rattle.jz_meaning.specs.Operators.{word_at, is_settled, binary, negated, inverted, cast}
use Rattle.jz_meaning.specs.Values.{size_of, Ref, key_of, cell_key, in_cells, cell_value, MemoryAccess, load_at, Meaning, right_wanted, left_wanted, with_right, run_binary, expr_step as meaning_step, ty_step, access_step as meaning_access, decl_step, var_step, meaning_of, ref_of, access_of, own_size, evaluated}
use Rattle.jz_meaning.specs.declared.access.Kind.TheVariants as kind
use Rattle.jz_bodies.specs.Scopes.{a_scalar, a_cell, known_step, is_over, is_access_over}
use Rattle.jz_inline.specs.Names.{Names, var_in, expr_step, access_step, expr_in, access_in}
use Rattle.jz_inline.proofs.Copies.{ScopeCopy, ref_in, Agrees}

-- ---- layers

abbrev pub Layer : Type 0
Layer = Expr-F Expr Ty Access Decl Var

abbrev pub kind_of_ty : Ty → Kind
kind_of_ty = fold-Ty _ _ _ _ _ meaning_step ty_step meaning_access decl_step var_step

abbrev pub kind_of_decl : Decl → Kind
kind_of_decl = fold-Decl _ _ _ _ _ meaning_step ty_step meaning_access decl_step var_step

abbrev pub meaning_layer : Layer → Meaning
meaning_layer x = meaning_step (map-Expr _ _ _ _ _ Meaning Kind MemoryAccess Kind Ref meaning_of kind_of_ty access_of kind_of_decl ref_of x)

pub meaning_is : (x : Layer) → meaning_of (roll-Expr x) ≡ meaning_layer x
meaning_is x = fold-roll-Expr _ _ _ _ _ meaning_step ty_step meaning_access decl_step var_step x

abbrev pub access_layer : Access-F Expr Ty Access Decl Var → MemoryAccess
access_layer x = meaning_access (map-Access _ _ _ _ _ Meaning Kind MemoryAccess Kind Ref meaning_of kind_of_ty access_of kind_of_decl ref_of x)

pub access_is : (x : Access-F Expr Ty Access Decl Var) → access_of (roll-Access x) ≡ access_layer x
access_is x = fold-roll-Access _ _ _ _ _ meaning_step ty_step meaning_access decl_step var_step x

pub ref_rolled : (x : Var-F Expr Ty Access Decl Var) → ref_of (roll-Var x) ≡ var_step (map-Var _ _ _ _ _ Meaning Kind MemoryAccess Kind Ref meaning_of kind_of_ty access_of kind_of_decl ref_of x)
ref_rolled x = fold-roll-Var _ _ _ _ _ meaning_step ty_step meaning_access decl_step var_step x

-- a variable in the copy
pub ref_so : (names : Names) (v : Var) → ref_of (var_in names v) ≡ ref_in names (ref_of v)
ref_so names v = ref_rolled _ ∙ ap (ref_in names) (sym (ref_rolled (out-Var v)) ∙ ap ref_of (roll-out-Var v))

module _ (names : Names) where
  abbrev pub layer_in : Layer → Layer
  layer_in x = map-Expr _ _ _ _ _ Expr Ty Access Decl Var (expr_in names) (λ t. t) (access_in names) (λ d. d) (var_in names) x

  abbrev paired : Layer → Expr-F (Expr × Expr) (Ty × Unit {0}) (Access × Access) (Decl × Unit {0}) (Var × Unit {0})
  paired x = map-Expr _ _ _ _ _ _ _ _ _ _ (λ y. (y, expr_in names y)) (λ y. (y, tt)) (λ y. (y, access_in names y)) (λ y. (y, tt)) (λ y. (y, tt)) x

  step_is : (x : Layer) → expr_step names (paired x) ≡ roll-Expr (layer_in x)
  step_is (Expr-F.Num n at) = refl
  step_is (Expr-F.Expr::Bool c at) = refl
  step_is (Expr-F.Var v) = refl
  step_is (Expr-F.Cell v e) = refl
  step_is (Expr-F.Load a) = refl
  step_is (Expr-F.Neg a at) = refl
  step_is (Expr-F.Not a at) = refl
  step_is (Expr-F.Cast z s a at) = refl
  step_is (Expr-F.Bin o a c at) = refl

  pub in_is : (x : Layer) → expr_in names (roll-Expr x) ≡ roll-Expr (layer_in x)
  in_is x = para-roll-Expr Expr (Unit {0}) Access (Unit {0}) (Unit {0}) (expr_step names) (λ t. tt) access_step (λ d. tt) (λ v. tt) x ∙ step_is x

  abbrev pub access_layer_in : Access-F Expr Ty Access Decl Var → Access-F Expr Ty Access Decl Var
  access_layer_in a = record { size = a.size; at = expr_in names a.at; unaligned = a.unaligned; span = a.span }

  pub access_in_is : (x : Access-F Expr Ty Access Decl Var) → access_in names (roll-Access x) ≡ roll-Access (access_layer_in x)
  access_in_is x = para-roll-Access Expr (Unit {0}) Access (Unit {0}) (Unit {0}) (expr_step names) (λ t. tt) access_step (λ d. tt) (λ v. tt) x

-- what is over a scope
module _ (scalar array : Ref → Bool) where
  abbrev pub over_layer : Layer → Bool
  over_layer (Expr-F.Num n at) = true
  over_layer (Expr-F.Expr::Bool b at) = true
  over_layer (Expr-F.Var v) = scalar (ref_of v)
  over_layer (Expr-F.Cell v i) = array (ref_of v) && is_over scalar array i
  over_layer (Expr-F.Load a) = is_access_over scalar array a
  over_layer (Expr-F.Neg a at) = is_over scalar array a
  over_layer (Expr-F.Not a at) = is_over scalar array a
  over_layer (Expr-F.Cast z s a at) = is_over scalar array a
  over_layer (Expr-F.Bin o a b at) = is_over scalar array a && is_over scalar array b

  over_paired : (x : Layer) → known_step scalar array (map-Expr _ _ _ _ _ _ _ _ _ _ (λ y. (y, is_over scalar array y)) (λ y. (y, tt)) (λ y. (y, is_access_over scalar array y)) (λ y. (y, tt)) (λ y. (y, tt)) x) ≡ over_layer x
  over_paired (Expr-F.Num n at) = refl
  over_paired (Expr-F.Expr::Bool c at) = refl
  over_paired (Expr-F.Var v) = refl
  over_paired (Expr-F.Cell v e) = refl
  over_paired (Expr-F.Load a) = refl
  over_paired (Expr-F.Neg a at) = refl
  over_paired (Expr-F.Not a at) = refl
  over_paired (Expr-F.Cast z s a at) = refl
  over_paired (Expr-F.Bin o a c at) = refl

  pub over_is : (x : Layer) → is_over scalar array (roll-Expr x) ≡ over_layer x
  over_is x = para-roll-Expr Bool (Unit {0}) Bool (Unit {0}) (Unit {0}) (known_step scalar array) (λ t. tt) (λ a. a.at.1) (λ d. tt) (λ v. tt) x ∙ over_paired x

  pub access_over_is : (x : Access-F Expr Ty Access Decl Var) → is_access_over scalar array (roll-Access x) ≡ is_over scalar array x.at
  access_over_is x = para-roll-Access Bool (Unit {0}) Bool (Unit {0}) (Unit {0}) (known_step scalar array) (λ t. tt) (λ a. a.at.1) (λ d. tt) (λ v. tt) x

-- ---- cells

-- behind an index of a cell that there is
pub behind_index : {A : Type 0} (at : Span) (k : Kind) (g : Evaluation ℕ) (f h : ℕ → Evaluation A) → ((z : Size) (n i : ℕ) → k ≡ kind.Array z n → i < n → f i ≡ h i) → and_then (and_then g (in_cells at k)) f ≡ and_then (and_then g (in_cells at k)) h
behind_index at k (stuck w) f h same = refl
behind_index at kind.Undeclared (went ns i) f h same = refl
behind_index at kind.Int (went ns i) f h same = refl
behind_index at kind.Bool (went ns i) f h same = refl
behind_index at (kind.Word s) (went ns i) f h same = refl
behind_index {A} at (kind.Array z n) (went ns i) f h same = by_test (nat_lt i n) refl
  where
    by_test : (b : Bool) → nat_lt i n ≡ b → and_then (numbers_first ns (if nat_lt i n then went (i ∷ []) i else stuck_at at Bounds)) f ≡ and_then (numbers_first ns (if nat_lt i n then went (i ∷ []) i else stuck_at at Bounds)) h
    by_test true q = let e = same z n i refl (grind (arith, nat_tests, q)) in rw (q, e)
    by_test false q = rw q

pub cell_so : (x : ScopeCopy) (s t : State) (r : Ref) (v : Value) → Agrees x s t → x.scope.has_array r ≡ true → cell_value (ref_in x.names r) v t.store ≡ cell_value r v s.store
cell_so x s t r v agree known =
    behind_index r.span r.kind (word_at r.span S64 v) (λ i. defined r.span (t.store (cell_key (ref_in x.names r) i))) (λ i. defined r.span (s.store (cell_key r i)))
    (λ z n i e lt. ap (defined r.span) (agree.store (cell_key r i) (a_cell r z n i known e lt)))

-- ---- expressions

module _ (x : ScopeCopy) (s t : State) (agree : Agrees x s t) where
  abbrev Over : Expr → Type 0
  Over e = is_over x.scope.has_scalar x.scope.has_array e ≡ true

  abbrev Same : Meaning → Meaning → Type 0
  Same m n = (m.size ≡ n.size) × ((w : Option Size) → m.run w t ≡ n.run w s)

  abbrev ExprLaw : Expr → Type 0
  ExprLaw e = (own_size (expr_in x.names e) ≡ own_size e) × (is_over x.scope.has_scalar x.scope.has_array e ≡ true → (w : Option Size) → evaluated (expr_in x.names e) w t ≡ evaluated e w s)

  abbrev AccessLaw : Access → Type 0
  AccessLaw a = (at : State → Evaluation Value) × (access_of (access_in x.names a) ≡ record { size = (access_of a).size; at = at; unaligned = (access_of a).unaligned; span = (access_of a).span }) × (is_access_over x.scope.has_scalar x.scope.has_array a ≡ true → at t ≡ (access_of a).at s)

  abbrev Any : {A : Type 0} → A → Type 0
  Any y = Unit {0}

  abbrev Known : Type 0
  Known = Expr-F ((e : Expr) × ExprLaw e) ((t : Ty) × Any t) ((a : Access) × AccessLaw a) ((d : Decl) × Any d) ((v : Var) × Any v)

  abbrev bare : Known → Layer
  bare y = map-Expr _ _ _ _ _ _ _ _ _ _ (λ e. e.0) (λ e. e.0) (λ e. e.0) (λ e. e.0) (λ e. e.0) y

  size_law : (y : Known) → (meaning_layer (layer_in x.names (bare y))).size ≡ (meaning_layer (bare y)).size
  size_law (Expr-F.Num i at) = refl
  size_law (Expr-F.Expr::Bool c at) = refl
  size_law (Expr-F.Var v) = ap (λ (r : Ref). size_of r.kind) (ref_so x.names v.0)
  size_law (Expr-F.Cell v e) = ap (λ (r : Ref). size_of r.kind) (ref_so x.names v.0)
  size_law (Expr-F.Load a) = ap (λ (p : MemoryAccess). p.size) a.1.1
  size_law (Expr-F.Neg e at) = e.1.0
  size_law (Expr-F.Not e at) = e.1.0
  size_law (Expr-F.Cast z sign e at) = refl
  size_law (Expr-F.Bin op a b at) = let p = a.1.0 in let q = b.1.0 in rw (p, q)

  run_law : (y : Known) → over_layer x.scope.has_scalar x.scope.has_array (bare y) ≡ true → (w : Option Size) → (meaning_layer (layer_in x.names (bare y))).run w t ≡ (meaning_layer (bare y)).run w s
  run_law (Expr-F.Num i at) known w = refl
  run_law (Expr-F.Expr::Bool c at) known w = refl
  run_law (Expr-F.Var v) known w =
      let r = ref_of v.0 in ap (λ (p : Ref). defined p.span (t.store (key_of p))) (ref_so x.names v.0) ∙ ap (defined r.span) (agree.store (key_of r) (a_scalar r known))
  run_law (Expr-F.Cell v e) known w =
      let both = and_parts (x.scope.has_array (ref_of v.0)) _ known in
      ap (λ (p : Ref). and_then (evaluated (expr_in x.names e.0) (Some S64) t) (λ u. cell_value p u t.store)) (ref_so x.names v.0)
      ∙ ap (λ g. and_then g (λ u. cell_value (ref_in x.names (ref_of v.0)) u t.store)) (e.1.1 both.1 (Some S64))
      ∙ ap (and_then (evaluated e.0 (Some S64) s)) (λ i u. cell_so x s t (ref_of v.0) u agree both.0 i)
  run_law (Expr-F.Load a) known w =
      ap (λ (p : MemoryAccess). and_then (p.at t) (λ v. load_at p w v t.memory)) a.1.1
      ∙ ap (λ g. and_then g (λ v. load_at (access_of a.0) w v t.memory)) (a.1.2 known)
      ∙ ap (λ m. and_then ((access_of a.0).at s) (λ v. load_at (access_of a.0) w v m)) agree.memory
  run_law (Expr-F.Neg e at) known w =
      ap (λ z. and_then (evaluated (expr_in x.names e.0) (option_or w z) t) (λ v. defined at (negated v))) e.1.0 ∙ ap (λ g. and_then g (λ v. defined at (negated v))) (e.1.1 known (option_or w (own_size e.0)))
  run_law (Expr-F.Not e at) known w =
      ap (λ z. and_then (evaluated (expr_in x.names e.0) (option_or w z) t) (λ v. went [] (inverted v))) e.1.0 ∙ ap (λ g. and_then g (λ v. went [] (inverted v))) (e.1.1 known (option_or w (own_size e.0)))
  run_law (Expr-F.Cast z sign e at) known w =
      ap (λ y. and_then (evaluated (expr_in x.names e.0) y t) (λ v. defined at (cast z sign v))) e.1.0 ∙ ap (λ g. and_then g (λ v. defined at (cast z sign v))) (e.1.1 known (own_size e.0))
  run_law (Expr-F.Bin op a b at) known w =
      let both = and_parts (is_over x.scope.has_scalar x.scope.has_array a.0) _ known in
      let z = left_wanted op w (own_size a.0) (own_size b.0) in
      ap (λ p. run_binary op (evaluated (expr_in x.names a.0)) (evaluated (expr_in x.names b.0)) at (left_wanted op w p (own_size (expr_in x.names b.0))) t) a.1.0
      ∙ ap (λ q. run_binary op (evaluated (expr_in x.names a.0)) (evaluated (expr_in x.names b.0)) at (left_wanted op w (own_size a.0) q) t) b.1.0
      ∙ ap (λ g. and_then g (with_right op (evaluated (expr_in x.names b.0)) at z t)) (a.1.1 both.0 z)
      ∙ ap (and_then (evaluated a.0 z s)) (λ i v. ap (λ g. if is_settled op v then went [] v else and_then g (λ y. binary op at z v y)) (b.1.1 both.1 (right_wanted op z)) i)

  expr_case : (y : Known) → ExprLaw (roll-Expr (bare y))
  expr_case y =
      let m : meaning_of (expr_in x.names (roll-Expr (bare y))) ≡ meaning_layer (layer_in x.names (bare y)) = ap meaning_of (in_is x.names (bare y)) ∙ meaning_is (layer_in x.names (bare y)) in
      let n = meaning_is (bare y) in (
        ap (λ (p : Meaning). p.size) m ∙ size_law y ∙ ap (λ (p : Meaning). p.size) (sym n),
        λ known w. ap (λ (p : Meaning). p.run w t) m ∙ run_law y (sym (over_is x.scope.has_scalar x.scope.has_array (bare y)) ∙ known) w ∙ ap (λ (p : Meaning). p.run w s) (sym n),
      )

  access_case : (y : Access-F ((e : Expr) × ExprLaw e) ((t : Ty) × Any t) ((a : Access) × AccessLaw a) ((d : Decl) × Any d) ((v : Var) × Any v)) → AccessLaw (roll-Access (map-Access _ _ _ _ _ _ _ _ _ _ (λ e. e.0) (λ e. e.0) (λ e. e.0) (λ e. e.0) (λ e. e.0) y))
  access_case y =
      let z = map-Access _ _ _ _ _ Expr Ty Access Decl Var (λ e. e.0) (λ e. e.0) (λ e. e.0) (λ e. e.0) (λ e. e.0) y in
      let n = access_is z in
      let m = ap access_of (access_in_is x.names z) ∙ access_is (access_layer_in x.names z) in (
        evaluated (expr_in x.names y.at.0) (Some S64),
        m ∙ ap (λ (p : MemoryAccess). record { size = p.size; at = evaluated (expr_in x.names y.at.0) (Some S64); unaligned = p.unaligned; span = p.span }) (sym n),
        λ known. y.at.1.1 (sym (access_over_is x.scope.has_scalar x.scope.has_array z) ∙ known) (Some S64) ∙ ap (λ (p : MemoryAccess). p.at s) (sym n),
      )

  laws : (e : Expr) → ExprLaw e
  laws =
      ind-Expr ExprLaw Any AccessLaw Any Any
      (λ z y is. subst (λ k. ExprLaw (roll-Expr k)) is (expr_case y))
      (λ z y is. tt)
      (λ z y is. subst (λ k. AccessLaw (roll-Access k)) is (access_case y))
      (λ z y is. tt)
      (λ z y is. tt)

  pub size_so : (e : Expr) → own_size (expr_in x.names e) ≡ own_size e
  size_so e = (laws e).0

  pub value_so : (e : Expr) → is_over x.scope.has_scalar x.scope.has_array e ≡ true → (w : Option Size) → evaluated (expr_in x.names e) w t ≡ evaluated e w s
  value_so e known w = (laws e).1 known w

  pub access_so : (a : Access) → AccessLaw a
  access_so a =
      let z = out-Access a in let q = roll-out-Access a in
      subst AccessLaw q (let n = access_is z in
      let m = ap access_of (access_in_is x.names z) ∙ access_is (access_layer_in x.names z) in (
        evaluated (expr_in x.names z.at) (Some S64),
        m ∙ ap (λ (p : MemoryAccess). record { size = p.size; at = evaluated (expr_in x.names z.at) (Some S64); unaligned = p.unaligned; span = p.span }) (sym n),
        λ known. value_so z.at (sym (access_over_is x.scope.has_scalar x.scope.has_array z) ∙ known) (Some S64) ∙ ap (λ (p : MemoryAccess). p.at s) (sym n),
      ))
