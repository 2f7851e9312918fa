-- The statements of a typed program declare what they write.
use Rattle.std.proofs.Common.{◌≡◌, ℕ, List, [], ◌∷◌, ◌++◌, Bool, true, false, Option, Some, None, map, flat_map, find, cond, refl, sym, ap, ◌∙◌, subst}
use Rattle.std.specs.Prelude.{All, is_some, option_map, option_and_then, option_to_list, if◌then◌else◌}
use Rattle.std.specs.Option.{option_or}
use Rattle.std.specs.Str.{bytes_eq}
use Rattle.std.proofs.lemmas.Bool.{false≢true}
use Rattle.std.proofs.lemmas.List.Elements.{All-nil, All-cons, All-head, All-tail, All-append, All-weaker}
use Rattle.jz_tree.specs.Size.{Size}
use Rattle.jz_tree.specs.declared.expr.Storage.{Storage}
use Rattle.jz_tree.specs.declared.expr.Storage.TheVariants as storage
use Rattle.jz_tree.specs.declared.expr.BinOp.{BinOp}
use Rattle.jz_tree.specs.declared.expr.Expr.{Expr}
use Rattle.jz_tree.specs.declared.expr.Ty.{Ty}
use Rattle.jz_tree.specs.declared.expr.Access.{Access}
use Rattle.jz_tree.specs.declared.expr.Decl.{Decl}
use Rattle.jz_tree.specs.declared.expr.Var.{Var}
use Rattle.jz_tree.specs.declared.expr.Expr.TheOpen.{Expr-F, Ty-F}
use Rattle.jz_tree.specs.declared.expr.Expr.TheViews.{out-Expr, out-Ty, out-Var, roll-out-Expr}
use Rattle.jz_tree.specs.declared.stmt.Lval.{Lval}
use Rattle.jz_tree.specs.declared.stmt.Lval.TheVariants as lval
use Rattle.jz_tree.specs.declared.stmt.Rhs.{Rhs}
use Rattle.jz_tree.specs.declared.stmt.Rhs.TheVariants as rhs
use Rattle.jz_tree.specs.declared.stmt.StmtKind.TheOpen.{StmtKind-F}
use Rattle.jz_tree.specs.declared.program.Fun.{Fun}
use Rattle.jz_tree.specs.declared.program.Param.{Param}
use Rattle.jz_tree.specs.declared.program.Program.{Program}
use Rattle.jz_type_names.specs.declared.kinds.Kind as known
use Rattle.jz_type_names.specs.declared.kinds.Kind.TheVariants as scope
use Rattle.jz_type_names.specs.Kinds as names
use Rattle.jz_type_names.specs.Kinds.{declared_of, known_of, kind_step, kind_of, is_inline_int, inline_int, is_array}
use Rattle.jz_type_names.specs.Scopes.{variables_of, variable_named, constant_place, function_named}
use Rattle.jz_type_names.specs.Parts.{Layer, layer_of, statements_of, left_exprs, right_exprs, left_vars}
use Rattle.jz_type_names.specs.Names.{var_decl, param_decl, ret_decls}
use Rattle.jz_resolve.specs.Numbering.{constant_decl}
use Rattle.jz_type_sizes.specs.Calls.{agrees, is_declared}
use Rattle.jz_type_sizes.specs.Mismatches.{among}
use Rattle.jz_judgement.specs.WellTyped.{InPairs, none, next, PassedAs, PassedBy, Passed, Calls, RightSide, WellTyped, WellTypedIn, IsWellTyped}
use Rattle.jz_judgement.specs.WellTyped as well
use Rattle.jz_judgement.proofs.Nothing.{none_not, same_some}
use Rattle.jz_types.specs.Carried.{vars_in, used_by, EachUsed, Carries, declared_in}
use Rattle.jz_meaning.specs.declared.access.Kind.{Kind}
use Rattle.jz_meaning.specs.declared.access.Kind.TheVariants as kind
use Rattle.jz_meaning.specs.Values.{Ref, key_of, ref_of, declared_kind}
use Rattle.jz_meaning.specs.Statements.{array_of, array_layer}
use Rattle.jz_run_laws.specs.Kinds.{Kinds, kind_at}
use Rattle.jz_run_laws.specs.DeclaredKinds.{kinds_of, IsDeclared, LeftDeclared, ArrayDeclared, ArraysDeclared, ParamDeclared}
use Rattle.jz_run_laws.specs.Texts.{ArgumentsDeclared, RightDeclared, StatementDeclared, FunctionDeclared}
use Rattle.jz_run_laws.proofs.Declarations.{declarations_give}
use Rattle.jz_texts.specs.Texts.{IsPlain, HasDecl, IsTextFun}
use Rattle.jz_texts.specs.Declared.{IsNamedIn, IsCountedDecl, HasDeclarations}
use Rattle.jz_texts.proofs.Lists.{parted, unmapped}
use Rattle.jz_texts.proofs.Variables.{vars_rolled, layer_vars}
use Rattle.jz_texts.proofs.Declaring.{declarations_law, well_typed_law}
use Rattle.jz_typed_runs.specs.TypedTexts.{kinds_in, DeclaredLaw}
use Rattle.jz_typed_runs.proofs.KindsOf.{kind_some, kind_by, decl_is, same_arrays}

-- ---- lists
abbrev IfThere : {A : Type 0} → (A → Type 0) → Option A → Type 0
IfThere P None = Unit {0}
IfThere P (Some x) = P x

pub found : {A : Type 0} (P : A → Type 0) (test : A → Bool) (xs : List A) → All P xs → IfThere P (find test xs)
found P test [] h = tt
found P test (x ∷ xs) h = by_test (test x) (All-head P x xs h) (found P test xs (All-tail P x xs h))
  where
    by_test : (c : Bool) → P x → IfThere P (find test xs) → IfThere P (cond c (Some x) (find test xs))
    by_test true p r = p
    by_test false p r = r

found_is : {A : Type 0} (P : A → Type 0) (o : Option A) (x : A) → o ≡ Some x → IfThere P o → P x
found_is P o x e h = subst (IfThere P) e h

-- two facts of each item
pub both : {A : Type 0} (P Q R : A → Type 0) → ((a : A) → P a → Q a → R a) → (xs : List A) → All P xs → All Q xs → All R xs
both P Q R f xs h k = λ i d lt. f _ (h i d lt) (k i d lt)

-- ---- variables of a function that are used
-- a declaration that is there
pub record IsKept (declared : List ℕ → Option Decl) (v : Var) : Type 0 where
  pub own_kind : IsDeclared (kinds_of declared) (ref_of v)
  pub plain : IsPlain v
  pub carries : Carries declared v
  pub decl : Decl
  pub some : (out-Var v).decl ≡ Some decl
  pub counted : IsCountedDecl decl

module _ (q : Program) (f : Fun) (text : IsTextFun f) (h : HasDeclarations q f) where
  abbrev vs : List Var
  vs = variables_of f

  abbrev HasCount : Var → Type 0
  HasCount v = All IsCountedDecl (var_decl v)

  -- each variable that is declared has a length where it is an array
  params_split : (ps : List Param) → All IsCountedDecl (flat_map param_decl ps) → All HasCount (map (λ p. p.var) ps)
  params_split [] k = All-nil HasCount
  params_split (p ∷ ps) k =
      let t = parted IsCountedDecl (var_decl p.var) (flat_map param_decl ps) k in
      All-cons HasCount p.var (map (λ p. p.var) ps) t.0 (params_split ps t.1)

  vars_split : (us : List Var) → All IsCountedDecl (flat_map var_decl us) → All HasCount us
  vars_split [] k = All-nil HasCount
  vars_split (u ∷ us) k =
      let t = parted IsCountedDecl (var_decl u) (flat_map var_decl us) k in
      All-cons HasCount u us t.0 (vars_split us t.1)

  pub own_counts : All HasCount vs
  own_counts =
      let a = parted IsCountedDecl (flat_map param_decl f.params ++ ret_decls f.rets) (flat_map var_decl f.vars) h.lengths in
      let b = parted IsCountedDecl (flat_map param_decl f.params) (ret_decls f.rets) a.0 in
      appended (map (λ p. p.var) f.params) f.vars (params_split f.params b.0) (vars_split f.vars a.1)
    where
      appended : (us ws : List Var) → All HasCount us → All HasCount ws → All HasCount (us ++ ws)
      appended [] ws a b = b
      appended (u ∷ us) ws a b = All-cons HasCount u (us ++ ws) (All-head HasCount u us a) (appended us ws (All-tail HasCount u us a) b)

  record HasOwn (v : Var) : Type 0 where
    pub decl : Decl
    pub some : (out-Var v).decl ≡ Some decl
    pub counted : IsCountedDecl decl

  own_of : (v : Var) (o : Option Decl) → (out-Var v).decl ≡ o → is_some o ≡ true → All IsCountedDecl (option_to_list o) → HasOwn v
  own_of v None e s c = absurd (false≢true s)
  own_of v (Some d) e s c = record { decl = d; some = e; counted = All-head IsCountedDecl d [] c }

  owns : All HasOwn vs
  owns = both HasDecl HasCount HasOwn (λ v s c. own_of v (out-Var v).decl refl s c) vs text.declarations own_counts

  -- a variable that is used
  kept_of : (v : Var) → Carries (declared_in q f) v → IsPlain v → IsNamedIn f v → IsKept (declared_in q f) v
  kept_of v c p n =
      let w = n.0 in
      let own : HasOwn w = found_is HasOwn (variable_named (out-Var v).name vs) w n.1 (found HasOwn (λ u. bytes_eq (out-Var v).name (out-Var u).name) vs owns) in
      record {
        own_kind = declarations_give (declared_in q f) v c p.1;
        plain = p;
        carries = c;
        decl = own.decl;
        some =
            c ∙ ap (λ o. option_or (option_and_then (λ u. (out-Var u).decl) o) (option_map (λ at. constant_decl) (constant_place q.consts (out-Var v).name))) n.1
            ∙ ap (λ o. option_or o (option_map (λ at. constant_decl) (constant_place q.consts (out-Var v).name))) own.some;
        counted = own.counted;
      }

  all_kept : (us : List Var) → All (Carries (declared_in q f)) us → All IsPlain us → All (IsNamedIn f) us → All (IsKept (declared_in q f)) us
  all_kept us c p n = λ i d lt. kept_of _ (c i d lt) (p i d lt) (n i d lt)

  pub kept_used : EachUsed (IsKept (declared_in q f)) f
  kept_used = (λ i d lt. all_kept _ (h.carried.0 i d lt) (text.used.0 i d lt) (h.named.0 i d lt), all_kept f.result h.carried.1 text.used.1 h.named.1)

  -- a variable that it declares
  own_kept : (v : Var) → Carries (declared_in q f) v → IsPlain v → HasOwn v → IsKept (declared_in q f) v
  own_kept v c p o = record { own_kind = declarations_give (declared_in q f) v c p.1; plain = p; carries = c; decl = o.decl; some = o.some; counted = o.counted }

  pub kept_own : All (IsKept (declared_in q f)) vs
  kept_own = λ i d lt. own_kept _ (h.own i d lt) (text.declared i d lt) (owns i d lt)

  pub kept_params : All (λ p. IsKept (declared_in q f) p.var) f.params
  kept_params = unmapped (IsKept (declared_in q f)) (λ p. p.var) f.params (parted (IsKept (declared_in q f)) (map (λ p. p.var) f.params) f.vars kept_own).0

-- ---- left sides
module _ (declared : List ℕ → Option Decl) where
  abbrev kinds : Kinds
  kinds = kinds_of declared

  lefts_declared : (to : List Lval) → All (IsKept declared) (flat_map left_vars to) → All (LeftDeclared kinds) to
  lefts_declared [] h = All-nil (LeftDeclared kinds)
  lefts_declared (d ∷ ds) h =
      let t = parted (IsKept declared) (left_vars d) (flat_map left_vars ds) h in
      All-cons (LeftDeclared kinds) d ds (left_declared d t.0) (lefts_declared ds t.1)
    where
      left_declared : (d : Lval) → All (IsKept declared) (left_vars d) → LeftDeclared kinds d
      left_declared (lval.Skip at) k = tt
      left_declared (lval.Var x) k = (All-head (IsKept declared) x [] k).own_kind
      left_declared (lval.Cell x i) k = (All-head (IsKept declared) x [] k).own_kind
      left_declared (lval.Store a) k = tt

  -- a counter
  int_kind : (d : Decl) → kind_of d.ty ≡ scope.Int → declared_kind d ≡ kind.Int
  int_kind d e = decl_is d ∙ by_layer (out-Ty d.ty) e
    where
      by_layer : (x : Ty-F Expr Ty Access Decl Var) → kind_step x ≡ scope.Int → kind_by x ≡ kind.Int
      by_layer Ty-F.Int e = refl
      by_layer Ty-F.Ty::Bool e = absurd (clash e)
        where
          clash : scope.Truth ≡ scope.Int → ⊥
          clash e = cc
      by_layer (Ty-F.Word z) e = absurd (clash e)
        where
          clash : scope.Word z ≡ scope.Int → ⊥
          clash e = cc
      by_layer (Ty-F.Array z n) e = absurd (clash e)
        where
          clash : scope.Array z ≡ scope.Int → ⊥
          clash e = cc

  is_int : (s : Storage) (k : known.Kind) → inline_int s k ≡ true → k ≡ scope.Int
  is_int storage.Inline scope.Int e = refl
  is_int storage.Inline scope.Truth e = absurd (false≢true e)
  is_int storage.Inline (scope.Word z) e = absurd (false≢true e)
  is_int storage.Inline (scope.Array z) e = absurd (false≢true e)
  is_int storage.Reg k e = absurd (false≢true e)
  is_int storage.Stack k e = absurd (false≢true e)

  counter_declared : (i : Var) → IsKept declared i → is_inline_int (known_of i) ≡ true → kind_at kinds (key_of (ref_of i)) ≡ kind.Int
  counter_declared i k e =
      let d = k.decl in
      let int : kind_of d.ty ≡ scope.Int = is_int d.storage (kind_of d.ty) (ap is_inline_int (ap (option_map declared_of) (sym k.some)) ∙ e) in
      k.own_kind ∙ kind_some i d k.some ∙ int_kind d int

  -- ---- arguments
  same_var : (c : Bool) (w v : Var) → (if c then Some w else None) ≡ Some v → w ≡ v
  same_var true w v e = same_some w v e
  same_var false w v e = absurd (none_not v e)

  abbrev var_of : Var → Expr-F Expr Ty Access Decl Var
  var_of v = Expr-F.Var v

  pub var_layer : (x : Expr-F Expr Ty Access Decl Var) (v : Var) → names.array_layer x ≡ Some v → x ≡ Expr-F.Var v
  var_layer (Expr-F.Var w) v e = ap var_of (same_var (is_array (known_of w)) w v e)
  var_layer (Expr-F.Num n at) v e = absurd (none_not v e)
  var_layer (Expr-F.Expr::Bool b at) v e = absurd (none_not v e)
  var_layer (Expr-F.Cell w i) v e = absurd (none_not v e)
  var_layer (Expr-F.Load a) v e = absurd (none_not v e)
  var_layer (Expr-F.Neg a at) v e = absurd (none_not v e)
  var_layer (Expr-F.Not a at) v e = absurd (none_not v e)
  var_layer (Expr-F.Cast z s a at) v e = absurd (none_not v e)
  var_layer (Expr-F.Bin o a b at) v e = absurd (none_not v e)

  only_var : (e : Expr) (v : Var) → out-Expr e ≡ Expr-F.Var v → vars_in e ≡ v ∷ []
  unfolding layer_vars
  only_var e v is = ap vars_in (sym (roll-out-Expr e)) ∙ vars_rolled (out-Expr e) ∙ ap layer_vars is

  no_cells : (x : Ty-F Expr Ty Access Decl Var) (o : Option Ref) → ((z : Size) → kind_step x ≡ scope.Array z → ⊥) → ArrayDeclared kinds (kind_by x) o
  no_cells Ty-F.Int o h = tt
  no_cells Ty-F.Ty::Bool o h = tt
  no_cells (Ty-F.Word z) o h = tt
  no_cells (Ty-F.Array z n) o h = absurd (h z refl)

  of_kind : (k : Kind) (x : Ref) → kind_at kinds (key_of x) ≡ k → ArrayDeclared kinds k (Some x)
  of_kind (kind.Array z n) x e = e
  of_kind kind.Undeclared x e = tt
  of_kind kind.Int x e = tt
  of_kind kind.Bool x e = tt
  of_kind (kind.Word z) x e = tt

  given_array : (d : Decl) (z : Size) (e : Expr) (v : Var) → IsCountedDecl d → kind_of d.ty ≡ scope.Array z → names.array_of e ≡ Some v → is_declared d v ≡ true
      → All (IsKept declared) (vars_in e) → ArrayDeclared kinds (declared_kind d) (array_of e)
  given_array d z e v c k a is h =
      let out = var_layer (out-Expr e) v a in
      let kept = All-head (IsKept declared) v [] (subst (All (IsKept declared)) (only_var e v out) h) in
      let same = same_arrays d kept.decl z k c kept.counted (subst (λ o. agrees d o ≡ true) kept.some is) in
      subst (ArrayDeclared kinds (declared_kind d)) (sym (ap array_layer out))
      (of_kind (declared_kind d) (ref_of v) (kept.own_kind ∙ kind_some v kept.decl kept.some ∙ sym same))

  no_array_of : (d : Decl) (e : Expr) → ((z : Size) → kind_of d.ty ≡ scope.Array z → ⊥) → ArrayDeclared kinds (declared_kind d) (array_of e)
  no_array_of d e h = subst (λ m. ArrayDeclared kinds m (array_of e)) (sym (decl_is d)) (no_cells (out-Ty d.ty) (array_of e) h)

  by_kind : (d : Decl) (e : Expr) (k : known.Kind) → kind_of d.ty ≡ k → IsCountedDecl d → PassedAs k d e → All (IsKept declared) (vars_in e) → ArrayDeclared kinds (declared_kind d) (array_of e)
  by_kind d e (scope.Array z) k c p h = given_array d z e p.0 c k p.1 p.2 h
  by_kind d e scope.Int k c p h = no_array_of d e (λ z g. clash z (sym k ∙ g))
    where
      clash : (z : Size) → scope.Int ≡ scope.Array z → ⊥
      clash z e = cc
  by_kind d e scope.Truth k c p h = no_array_of d e (λ z g. clash z (sym k ∙ g))
    where
      clash : (z : Size) → scope.Truth ≡ scope.Array z → ⊥
      clash z e = cc
  by_kind d e (scope.Word y) k c p h = no_array_of d e (λ z g. clash z (sym k ∙ g))
    where
      clash : (z : Size) → scope.Word y ≡ scope.Array z → ⊥
      clash z e = cc

  argument_declared : (callee : List ℕ → Option Decl) (p : Param) (e : Expr) → IsKept callee p.var → All (IsKept declared) (vars_in e) → Passed p e → ArrayDeclared kinds (ref_of p.var).kind (array_of e)
  argument_declared callee p e k h a =
      subst (λ m. ArrayDeclared kinds m (array_of e)) (sym (kind_some p.var k.decl k.some))
      (by_kind k.decl e (kind_of k.decl.ty) refl k.counted (subst (λ o. PassedBy o e) k.some a) h)

  arguments_declared : (callee : List ℕ → Option Decl) {ps : List Param} {es : List Expr} → InPairs Passed ps es → All (λ p. IsKept callee p.var) ps → All (IsKept declared) (flat_map vars_in es) → ArraysDeclared kinds ps es
  arguments_declared callee none k h = tt
  arguments_declared callee (next {a = p} {b = e} {as' = ps} {bs = es} x xs) k h =
      let t = parted (IsKept declared) (vars_in e) (flat_map vars_in es) h in
      (argument_declared callee p e (All-head (λ p. IsKept callee p.var) p ps k) t.0 x, arguments_declared callee xs (All-tail (λ p. IsKept callee p.var) p ps k) t.1)

-- ---- statements
pub flat_parted : (P : Var → Type 0) (xs ys : List Expr) → All P (flat_map vars_in (xs ++ ys)) → All P (flat_map vars_in xs) × All P (flat_map vars_in ys)
flat_parted P [] ys h = (All-nil P, h)
flat_parted P (x ∷ xs) ys h =
    let t = parted P (vars_in x) (flat_map vars_in (xs ++ ys)) h in
    let u = flat_parted P xs ys t.1 in
    (All-append P (vars_in x) (flat_map vars_in xs) t.0 u.0, u.1)

module _ (q : Program) where
  abbrev Ready : Fun → Type 0
  Ready g = All (λ p. IsKept (declared_in q g) p.var) g.params

  called_arguments : (declared : List ℕ → Option Decl) (o : Option Fun) (to : List Lval) (args : List Expr) → IfThere Ready o → Calls o to args → All (IsKept declared) (flat_map vars_in args) → ArgumentsDeclared (kinds_of declared) o args
  called_arguments declared None to args r c h = tt
  called_arguments declared (Some g) to args r (well.called k given passed) h = arguments_declared declared (declared_in q g) passed r h

  right_declared : (declared : List ℕ → Option Decl) (to : List Lval) (o : Option BinOp) (r : Rhs) (cond : Option Expr) → All Ready q.funs → WellTyped (among q.funs) (StmtKind-F.Assign to o r cond)
      → All (IsKept declared) (flat_map vars_in (right_exprs r)) → RightDeclared q.funs (kinds_of declared) r
  right_declared declared to o (rhs.Value e) cond ready w h = tt
  right_declared declared to o (rhs.Intrinsic n args at) cond ready w h = tt
  right_declared declared to o (rhs.Call n args at) cond ready (well.assigned right c) h =
      called_arguments declared (function_named n q.funs) to args (found Ready (λ g. bytes_eq n g.name) q.funs ready) right h

  layer_declared : (declared : List ℕ → Option Decl) (k : Layer) → All Ready q.funs → WellTyped (among q.funs) k → All (IsKept declared) (used_by k) → StatementDeclared q.funs (kinds_of declared) k
  layer_declared declared (StmtKind-F.Assign to o r cond) ready w h =
      let t = parted (IsKept declared) (flat_map vars_in (flat_map left_exprs to ++ right_exprs r ++ option_to_list cond)) (flat_map left_vars to) h in
      let u = flat_parted (IsKept declared) (flat_map left_exprs to ++ right_exprs r) (option_to_list cond) t.0 in
      let v = flat_parted (IsKept declared) (flat_map left_exprs to) (right_exprs r) u.0 in
      (lefts_declared declared to t.1, right_declared declared to o r cond ready w v.1)
  layer_declared declared (StmtKind-F.If c a b) ready w h = tt
  layer_declared declared (StmtKind-F.While p c b) ready w h = tt
  layer_declared declared (StmtKind-F.For i from down to b) ready (well.rounds n x y) h =
      counter_declared declared i (All-head (IsKept declared) i [] (parted (IsKept declared) (flat_map vars_in (from ∷ to ∷ [])) (i ∷ []) h).1) n
  layer_declared declared (StmtKind-F.Mark xs) ready w h = tt

  fun_declared : (f : Fun) → IsTextFun f → HasDeclarations q f → WellTypedIn (among q.funs) f → All Ready q.funs → FunctionDeclared q.funs (kinds_in q f) f
  fun_declared f t h w ready =
      record {
        params = All-weaker (λ p. IsKept (declared_in q f) p.var) (ParamDeclared (kinds_in q f)) (λ p k. k.own_kind) f.params (kept_params q f t h);
        statements =
            both (λ s. WellTyped (among q.funs) (layer_of s)) (λ s. All (IsKept (declared_in q f)) (used_by (layer_of s))) (λ s. StatementDeclared q.funs (kinds_in q f) (layer_of s))
            (λ s a b. layer_declared (declared_in q f) (layer_of s) ready a b) (statements_of f.body) w.1 (kept_used q f t h).0;
      }

pub declared_law : DeclaredLaw
declared_law q h =
    let text = h.text in
    let names = declarations_law q h.typed h.text in
    let well = well_typed_law q h.typed in
    let ready : All (λ g. All (λ p. IsKept (declared_in q g) p.var) g.params) q.funs = λ i d lt. kept_params q _ (text i d lt) (names i d lt) in
    λ i d lt. fun_declared q _ (text i d lt) (names i d lt) (well i d lt) ready
