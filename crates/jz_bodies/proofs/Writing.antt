-- A left side that has its type is one that the function may set.
use Rattle.std.proofs.Common.{◌≡◌, ℕ, Bool, true, false, not, ◌||◌, List, [], ◌∷◌, ◌++◌, Option, Some, None, map, refl, sym, ap, ◌∙◌, subst, inl, inr, bytes_eq}
use Rattle.std.specs.Prelude.{◌⊎◌, All, filter, if◌then◌else◌}
use Rattle.std.specs.List.{list_any}
use Rattle.std.proofs.lemmas.Bool.{false≢true, and_from, not_from_false, or_cases, or_left, or_right}
use Rattle.std.proofs.lemmas.List.Elements.{All-nil, All-cons, All-head, All-tail, All-weaker}
use Rattle.std.proofs.lemmas.List.Folds.{list_any-append}
use Rattle.jz_tree.specs.Size.{Size}
use Rattle.jz_tree.specs.declared.expr.BinOp.{BinOp}
use Rattle.jz_tree.specs.declared.expr.Expr.{Expr}
use Rattle.jz_tree.specs.declared.expr.Var.{Var}
use Rattle.jz_tree.specs.declared.expr.Expr.TheViews.{out-Access}
use Rattle.jz_tree.specs.declared.stmt.Lval.{Lval}
use Rattle.jz_tree.specs.declared.stmt.Lval.TheVariants as lval
use Rattle.jz_tree.specs.declared.stmt.Stmt.{Stmt}
use Rattle.jz_tree.specs.declared.program.Fun.{Fun}
use Rattle.jz_tree.specs.declared.program.Param.{Param}
use Rattle.jz_tree.specs.declared.program.Program.{Program}
use Rattle.jz_type_names.specs.Kinds.{Known, known_of, kind_of, is_array_kind, whole_array}
use Rattle.jz_type_names.specs.Kinds as names
use Rattle.jz_type_names.specs.Scopes.{variables_of, text_of}
use Rattle.jz_type_names.specs.Parts.{layer_of, statements_of, set_by, left_exprs, left_vars}
use Rattle.jz_run_laws.specs.Callees.{set_in, names_set, is_written}
use Rattle.jz_judgement.specs.Places.{Place, index, word, unsized, IsArrayOf}
use Rattle.jz_judgement.specs.HasType as judged
use Rattle.jz_judgement.specs.HasType.{Term, value, HasType}
use Rattle.jz_judgement.specs.Lefts as lefts
use Rattle.jz_judgement.specs.Lefts.{Wants, Leaves, Holds, Takes, IsSound, IsFlag, IsProduct, value_term, Values}
use Rattle.jz_judgement.proofs.Nothing.{some_not}
use Rattle.jz_run_laws.specs.Carried.{vars_in}
use Rattle.jz_meaning.specs.declared.access.Kind as meant
use Rattle.jz_meaning.specs.declared.access.Kind.TheVariants as kind
use Rattle.jz_meaning.specs.Values.{ref_of}
use Rattle.jz_meaning.specs.Shapes.{words}
use Rattle.jz_run_laws.specs.Kinds.{sort_of_kind}
use Rattle.jz_run_laws.proofs.Sizes.{right_type}
use Rattle.jz_bodies.specs.Scopes.{Scope, SortIs, Writes, AllWritten}
use Rattle.jz_bodies.specs.Calls.{is_array}
use Rattle.jz_bodies.specs.Declared.{is_one, is_among, arrays_set, scopes_in}
use Rattle.jz_bodies.proofs.Refs.{bytes_same, one_is, ref_name}
use Rattle.jz_bodies.proofs.Owning.{any_map, kept_any}
use Rattle.jz_bodies.proofs.Variables.{flat_parts, IsVariable, known_is, plain_is, array_known}
use Rattle.jz_bodies.proofs.Reading.{reads, reads_at}

-- ---- names that are set

-- a statement of the function sets a variable of that name
abbrev pub IsSet : Fun → Var → Type 0
IsSet f v = list_any (bytes_eq (text_of v)) (names_set f) ≡ true

named_itself : (vs : List Var) → All (λ v. list_any (bytes_eq (text_of v)) (map text_of vs) ≡ true) vs
named_itself [] = All-nil (λ v. list_any (bytes_eq (text_of v)) (map text_of []) ≡ true)
named_itself (w ∷ vs) =
    All-cons (λ v. list_any (bytes_eq (text_of v)) (map text_of (w ∷ vs)) ≡ true) w vs (or_left (bytes_eq (text_of w) (text_of w)) (list_any (bytes_eq (text_of w)) (map text_of vs)) (bytes_same (text_of w)))
    (All-weaker (λ v. list_any (bytes_eq (text_of v)) (map text_of vs) ≡ true) (λ v. list_any (bytes_eq (text_of v)) (map text_of (w ∷ vs)) ≡ true)
    (λ v e. or_right (bytes_eq (text_of v) (text_of w)) (list_any (bytes_eq (text_of v)) (map text_of vs)) e) vs (named_itself vs))

pub all_set : (f : Fun) → All (λ s. All (IsSet f) (set_by (layer_of s))) (statements_of f.body)
all_set f = flat_parts (IsSet f) (λ (s : Stmt). set_by (layer_of s)) (statements_of f.body) (named_itself (set_in f.body))

-- ---- what the judgement says of left sides
-- no array as a whole; what stands within it has its type
abbrev pub LeftIs : Lval → Type 0
LeftIs (lval.Skip at) = Unit {0}
LeftIs (lval.Var v) = names.is_array (known_of v) ≡ false
LeftIs (lval.Cell v i) = (z : Size) × IsArrayOf z (known_of v) × HasType (value i) index
LeftIs (lval.Store a) = HasType (value (out-Access a).at) index

abbrev pub IsPart : Lval → Type 0
IsPart d = whole_array d ≡ None

whole_none : (v : Var) (b : Bool) → (if b then Some v else None) ≡ None → b ≡ false
whole_none v true e = absurd (some_not v e)
whole_none v false e = refl

var_is : (v : Var) → IsPart (lval.Var v) → LeftIs (lval.Var v)
var_is v e = whole_none v (names.is_array (known_of v)) e

wants_is : (d : Lval) (p : Place) → Wants d p → IsPart d → LeftIs d
wants_is (lval.Skip at) p w e = elim w [ ]
wants_is (lval.Var v) p (lefts.number g) e = var_is v e
wants_is (lval.Var v) p (lefts.bool g) e = var_is v e
wants_is (lval.Var v) p (lefts.variable g) e = var_is v e
wants_is (lval.Cell v i) p (lefts.cell {z = z} g t) e = (z, g, t)
wants_is (lval.Store a) p (lefts.access g t) e = t

pub leaves_is : (d : Lval) (p : Place) → Leaves d p → IsPart d → LeftIs d
leaves_is (lval.Skip at) p lefts.nothing e = tt
leaves_is (lval.Var v) p (lefts.array g) e = var_is v e
leaves_is (lval.Var v) p (lefts.number g k t) e = var_is v e
leaves_is (lval.Cell v i) p w e = elim w [ ]
leaves_is (lval.Store a) p (lefts.access g t) e = t

pub holds_is : (d : Lval) (p : Place) → Holds p d → IsPart d → LeftIs d
holds_is d p (inl w) e = wants_is d p w e
holds_is d p (inr w) e = leaves_is d p w e

takes_is : (d : Lval) (x : Term) → Takes d x → IsPart d → LeftIs d
takes_is d x (lefts.wanted p w t) e = wants_is d p w e
takes_is d x (lefts.left p w o t) e = leaves_is d p w e

pub flag_is : (d : Lval) → IsFlag d → IsPart d → LeftIs d
flag_is (lval.Skip at) lefts.nothing e = tt
flag_is (lval.Var v) (lefts.variable g) e = var_is v e
flag_is (lval.Cell v i) w e = elim w [ ]
flag_is (lval.Store a) w e = elim w [ ]

product_is : (h l : Lval) (x : Term) → IsProduct h l x → IsPart h → IsPart l → LeftIs h × LeftIs l
product_is h l x (lefts.words z w a b t) e g = (holds_is h (word z) a e, holds_is l (word z) b g)
product_is h l x (lefts.numbers a b t) e g = (leaves_is h unsized a e, leaves_is l unsized b g)

pub values_are : (ds : List Lval) (o : Option BinOp) (e : Expr) → Values ds o e → All IsPart ds → All LeftIs ds
values_are [] o e lefts.nothing k = All-nil LeftIs
values_are (d ∷ []) o e (lefts.one t) k = All-cons LeftIs d [] (takes_is d (value_term o d e) t (All-head IsPart d [] k)) (All-nil LeftIs)
values_are (h ∷ l ∷ []) o e (lefts.product is t) k =
    let p = product_is h l (value_term o l e) t (All-head IsPart h (l ∷ []) k) (All-head IsPart l [] (All-tail IsPart h (l ∷ []) k)) in
    All-cons LeftIs h (l ∷ []) p.0 (All-cons LeftIs l [] p.1 (All-nil LeftIs))
values_are (c ∷ d ∷ []) o e (lefts.flagged is g t) k =
    All-cons LeftIs c (d ∷ []) (flag_is c g (All-head IsPart c (d ∷ []) k))
    (All-cons LeftIs d [] (takes_is d (value_term o d e) t (All-head IsPart d [] (All-tail IsPart c (d ∷ []) k))) (All-nil LeftIs))
values_are (a ∷ b ∷ c ∷ ds) o e h k = elim h [ ]

-- ---- arrays that are set

-- typing knows of an array what a run does
pub known_array : (q : Program) (f : Fun) (v : Var) → IsVariable q f v → is_array (ref_of v).kind ≡ true → names.is_array (known_of v) ≡ true
known_array q f v h e = ap names.is_array (known_is q f v h) ∙ by_test (is_array_kind (kind_of h.decl.ty)) refl
  where
    by_test : (b : Bool) → is_array_kind (kind_of h.decl.ty) ≡ b → is_array_kind (kind_of h.decl.ty) ≡ true
    by_test true k = k
    by_test false k = absurd (false≢true (sym (plain_is q f v h k) ∙ e))

any_behind : {A B : Type 0} (test : B → Bool) (g : A → B) (keep : A → Bool) (x : A) (xs : List A) → list_any test (map g (filter keep xs)) ≡ true → list_any test (map g (filter keep (x ∷ xs))) ≡ true
any_behind test g keep x xs e = by_test (keep x) refl
  where
    by_test : (b : Bool) → keep x ≡ b → list_any test (map g (filter keep (x ∷ xs))) ≡ true
    by_test true k = subst (λ b. list_any test (map g (if b then (x ∷ filter keep xs) else filter keep xs)) ≡ true) (sym k) (or_right (test (g x)) (list_any test (map g (filter keep xs))) e)
    by_test false k = subst (λ b. list_any test (map g (if b then (x ∷ filter keep xs) else filter keep xs)) ≡ true) (sym k) e

module _ (q : Program) (f : Fun) (own : All (λ p. IsVariable q f p.var) f.params) where
  abbrev X : Scope
  X = scopes_in q f

  abbrev V : Var → Type 0
  V = IsVariable q f

  written_param : (v : Var) (p : Param) → V p.var → is_array (ref_of v).kind ≡ true → IsSet f v → is_one (ref_of v) (ref_of p.var) ≡ true → is_written (names_set f) p ≡ true
  written_param v p h a s e =
      let same = one_is (ref_of v) (ref_of p.var) e in
      let name : text_of v ≡ text_of p.var = sym (ref_name v) ∙ (ap (λ k. k.name) same.0 ∙ ref_name p.var) in
      and_from (names.is_array (known_of p.var)) (list_any (bytes_eq (text_of p.var)) (names_set f))
      (known_array q f p.var h (ap is_array (sym same.1) ∙ a)) (subst (λ n. list_any (bytes_eq n) (names_set f) ≡ true) name s)

  among_set : (v : Var) (ps : List Param) → All (λ p. V p.var) ps → is_array (ref_of v).kind ≡ true → IsSet f v → list_any (λ p. is_one (ref_of v) (ref_of p.var)) ps ≡ true
      → list_any (λ w. is_one (ref_of v) (ref_of w)) (map (λ p. p.var) (filter (is_written (names_set f)) ps)) ≡ true
  among_set v [] h a s e = absurd (false≢true e)
  among_set v (p ∷ ps) h a s e = by_test (or_cases (is_one (ref_of v) (ref_of p.var)) (list_any (λ p. is_one (ref_of v) (ref_of p.var)) ps) e) (among_set v ps (All-tail (λ (p : Param). V p.var) p ps h) a s)
    where
      by_test : (is_one (ref_of v) (ref_of p.var) ≡ true) ⊎ (list_any (λ p. is_one (ref_of v) (ref_of p.var)) ps ≡ true)
          → (list_any (λ p. is_one (ref_of v) (ref_of p.var)) ps ≡ true → list_any (λ w. is_one (ref_of v) (ref_of w)) (map (λ p. p.var) (filter (is_written (names_set f)) ps)) ≡ true)
          → list_any (λ w. is_one (ref_of v) (ref_of w)) (map (λ p. p.var) (filter (is_written (names_set f)) (p ∷ ps))) ≡ true
      by_test (inl t) rest = kept_any (λ w. is_one (ref_of v) (ref_of w)) (λ (p : Param). p.var) (is_written (names_set f)) p ps (written_param v p (All-head (λ (p : Param). V p.var) p ps h) a s t) t
      by_test (inr t) rest = any_behind (λ w. is_one (ref_of v) (ref_of w)) (λ (p : Param). p.var) (is_written (names_set f)) p ps (rest t)

  -- an array of which a statement sets a cell
  pub sets_array : (v : Var) → V v → IsSet f v → is_array (ref_of v).kind ≡ true → X.sets_array (ref_of v) ≡ true
  sets_array v h s a =
      let test : Var → Bool = λ w. is_one (ref_of v) (ref_of w) in
      let split : (list_any test (map (λ p. p.var) f.params) || list_any test f.vars) ≡ true = sym (list_any-append test (map (λ p. p.var) f.params) f.vars) ∙ h.among in
      and_from (is_array (ref_of v).kind) (is_among (ref_of v) (arrays_set f ++ f.vars)) a
      (list_any-append test (arrays_set f) f.vars ∙ by_part (or_cases (list_any test (map (λ p. p.var) f.params)) (list_any test f.vars) split))
    where
      by_part : (list_any (λ w. is_one (ref_of v) (ref_of w)) (map (λ p. p.var) f.params) ≡ true) ⊎ (list_any (λ w. is_one (ref_of v) (ref_of w)) f.vars ≡ true)
          → (list_any (λ w. is_one (ref_of v) (ref_of w)) (arrays_set f) || list_any (λ w. is_one (ref_of v) (ref_of w)) f.vars) ≡ true
      by_part (inl t) = or_left (list_any (λ w. is_one (ref_of v) (ref_of w)) (arrays_set f)) (list_any (λ w. is_one (ref_of v) (ref_of w)) f.vars)
          (among_set v f.params own a s (sym (any_map (λ w. is_one (ref_of v) (ref_of w)) (λ (p : Param). p.var) f.params) ∙ t))
      by_part (inr t) = or_right (list_any (λ w. is_one (ref_of v) (ref_of w)) (arrays_set f)) (list_any (λ w. is_one (ref_of v) (ref_of w)) f.vars) t

  pub sets_scalar : (v : Var) → V v → is_array (ref_of v).kind ≡ false → X.sets_scalar (ref_of v) ≡ true
  sets_scalar v h e = and_from (not (is_array (ref_of v).kind)) (is_among (ref_of v) (variables_of f)) (not_from_false (is_array (ref_of v).kind) e) h.among

  kind_sorted : (k : meant.Kind) → SortIs k (sort_of_kind k)
  kind_sorted kind.Undeclared = tt
  kind_sorted kind.Int = refl
  kind_sorted kind.Bool = refl
  kind_sorted (kind.Word z) = refl
  kind_sorted (kind.Array z n) = tt

  pub sorted : (v : Var) → V v → SortIs (ref_of v).kind (X.sorts (ref_of v).name (ref_of v).copy)
  sorted v h = subst (SortIs (ref_of v).kind) (sym h.sort) (kind_sorted (ref_of v).kind)

  pub array_words : (v : Var) (z : Size) (n : ℕ) → V v → (ref_of v).kind ≡ kind.Array z n → X.sorts (ref_of v).name (ref_of v).copy ≡ words
  array_words v z n h e = h.sort ∙ ap sort_of_kind e

  -- ---- left sides

  abbrev E : Expr → Type 0
  E e = All V (vars_in e)

  -- what stands in a left side is of the function, and what it sets is set by a statement
  pub record IsUsed (d : Lval) : Type 0 where
    pub vars : All V (left_vars d)
    pub set : All (IsSet f) (left_vars d)
    pub exprs : All E (left_exprs d)

  pub plain_var : (v : Var) → V v → names.is_array (known_of v) ≡ false → is_array (ref_of v).kind ≡ false
  plain_var v h e = plain_is q f v h (ap names.is_array (sym (known_is q f v h)) ∙ e)

  pub writes : (d : Lval) → IsUsed d → LeftIs d → Writes X d
  writes (lval.Skip at) u h = tt
  writes (lval.Var v) u h = let k = All-head V v [] u.vars in (sets_scalar v k (plain_var v k h), sorted v k)
  writes (lval.Cell v i) u (z, a, t) =
      let k = All-head V v [] u.vars in
      let n = array_known q f v k z a in
      (sets_array v k (All-head (IsSet f) v [] u.set) (ap is_array n.1), array_words v z n.0 k n.1, reads q f i index t (All-head E i [] u.exprs))
  writes (lval.Store a) u h = reads_at q f a h (All-head E (out-Access a).at [] u.exprs)

  pub all_written : (ds : List Lval) → All IsUsed ds → All LeftIs ds → AllWritten X ds
  all_written [] u h = tt
  all_written (d ∷ ds) u h = (writes d (All-head IsUsed d ds u) (All-head LeftIs d ds h), all_written ds (All-tail IsUsed d ds u) (All-tail LeftIs d ds h))

-- ---- the value has a type
abbrev pub Typed : Expr → Type 0
Typed e = (p : Place) × HasType (value e) p

result_type : (o : BinOp) (d : Lval) (e : Expr) (p : Place) → HasType (judged.result o d e) p → Typed e
result_type o d e p (judged.updated t) = right_type o (judged.left d) (value e) p t

term_type : (o : Option BinOp) (d : Lval) (e : Expr) (p : Place) → HasType (value_term o d e) p → Typed e
term_type None d e p t = (p, t)
term_type (Some o) d e p t = result_type o d e p t

takes_type : (o : Option BinOp) (d : Lval) (e : Expr) → Takes d (value_term o d e) → Typed e
takes_type o d e (lefts.wanted p w t) = term_type o d e p t
takes_type o d e (lefts.left p w own t) = term_type o d e p t

product_type : (o : Option BinOp) (h l : Lval) (e : Expr) → IsProduct h l (value_term o l e) → Typed e
product_type o h l e (lefts.words z w a b t) = term_type o l e (word z) t
product_type o h l e (lefts.numbers a b t) = term_type o l e unsized t

pub value_type : (ds : List Lval) (o : Option BinOp) (e : Expr) → Values ds o e → (ds ≡ []) ⊎ Typed e
value_type [] o e lefts.nothing = inl refl
value_type (d ∷ []) o e (lefts.one t) = inr (takes_type o d e t)
value_type (h ∷ l ∷ []) o e (lefts.product is t) = inr (product_type o h l e t)
value_type (c ∷ d ∷ []) o e (lefts.flagged is g t) = inr (takes_type o d e t)
value_type (a ∷ b ∷ c ∷ ds) o e h = elim h [ ]
