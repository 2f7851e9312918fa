-- Statements that have no row, and conditions that are no comparison.
use Rattle.std.proofs.Common.{◌≡◌, ℕ, Bool, true, false, List, [], ◌∷◌, Option, Some, None, refl, sym, ap, ◌∙◌, subst}
use Rattle.std.specs.Prelude.{All}
use Rattle.std.specs.Option.{option_or}
use Rattle.jz_words.specs.declared.size.Size.{Size}
use Rattle.x64_insn.specs.declared.types.Alu.TheVariants as alu
use Rattle.x64_insn.specs.declared.types.Cond.{Cond}
use Rattle.jz_tree.specs.Span.{Span}
use Rattle.jz_tree.specs.declared.expr.BinOp.{BinOp}
use Rattle.jz_tree.specs.declared.expr.Expr.{Expr}
use Rattle.jz_tree.specs.declared.expr.Expr.TheVariants as expr
use Rattle.jz_tree.specs.declared.expr.Expr.TheOpen.{Expr-F}
use Rattle.jz_tree.specs.declared.expr.Expr.TheViews.{out-Expr}
use Rattle.jz_tree.specs.declared.expr.Var.{Var}
use Rattle.jz_tree.specs.declared.stmt.Lval.{Lval}
use Rattle.jz_tree.specs.declared.stmt.Lval.TheVariants as lval
use Rattle.jz_meaning.specs.declared.access.Kind.{Kind}
use Rattle.jz_meaning.specs.declared.access.Kind.TheVariants as kind
use Rattle.jz_meaning.specs.Assignments.{Layer, left_sizes, whole_of}
use Rattle.jz_meaning.specs.Values.{key_of, ref_of, own_size}
use Rattle.jz_meaning.specs.Statements.{assign}
use Rattle.jz_operations.specs.declared.operation.Arg.{Arg}
use Rattle.jz_operations.specs.declared.operation.Arg.TheVariants as arg
use Rattle.jz_operations.specs.declared.operation.Condition.TheVariants as condition
use Rattle.jz_operations.specs.declared.operation.Action.{Action}
use Rattle.jz_operations.specs.declared.operation.Action.TheVariants as action
use Rattle.jz_operations.specs.declared.operation.Operation.{Operation}
use Rattle.jz_encodable.specs.Encodable.{CanEncode}
use Rattle.jz_change.specs.declared.change.Numbers.{Numbers}
use Rattle.jz_homes.specs.Homes.{Home, Homes, in_register}
use Rattle.jz_homes.specs.Operands.{Leaks, IsArg}
use Rattle.jz_row_operations.specs.Codes.{plain}
use Rattle.jz_row_operations.specs.Rows.{IsWide, NotImm, cond_of}
use Rattle.jz_row_operations.specs.Table.{is_imm}
use Rattle.jz_row_operations.specs.Lowering.{HasRow, IsCompared, compares, denies, Lowers, sets, sets_if}
use Rattle.jz_one_row.proofs.Outs.{out_bin, out_bool, out_not}
use Rattle.jz_one_row.proofs.Operands.{one_arg}
use Rattle.jz_one_row.proofs.Rows.{one_row}
use Rattle.jz_one_row.proofs.Statements.{one_compared}
use Rattle.jz_operands.specs.declared.operands.Operand.{Operand}
use Rattle.jz_operands.specs.TableHomes.{leaks_of}
use Rattle.jz_operands.specs.Refusals.{NeverArg}
use Rattle.jz_rows.specs.declared.row.Row.{Row}
use Rattle.jz_rows.specs.declared.comparing.Comparison.{Comparison}
use Rattle.jz_rows.specs.Rows.{acts_of, items_of, Compares, NeverCompares, NeverLowers}
use Rattle.jz_rows.specs.InnerRows.{NeverSet}
use Rattle.jz_rows.proofs.FieldLemmas.{alu_fields, cmov_fields}

-- ---- operands
no_imm : (x : Arg) → is_imm x ≡ true → NotImm x → ⊥
no_imm (arg.Imm i) e h = h
no_imm (arg.Var v) e h = absurd cc
no_imm (arg.Mem m) e h = absurd cc
no_imm (arg.Cell c) e h = absurd cc
no_imm (arg.At r p) e h = absurd cc

pub clash : (b : Bool) → b ≡ false → b ≡ true → ⊥
clash b e f = absurd cc

some_is : {A : Type 0} (x y : A) → Some x ≡ Some y → x ≡ y
some_is x y e = cc

module _ (home : Homes) where
  -- ---- comparisons
  record IsComparing (o : BinOp) (a b : Expr) : Type 0 where
    pub cond : Cond
    pub is_cond : cond_of o ≡ Some cond
    pub size : Size
    pub is_size : option_or (own_size a) (own_size b) ≡ Some size
    pub x : Arg
    pub y : Arg
    pub p : Leaks
    pub q : Leaks
    pub first : IsArg home size a x p
    pub second : IsArg home size b y q
    pub no_number : NotImm x
    pub can : CanEncode (action.Alu alu.Cmp size x y None)

  op_of : (o o2 : BinOp) (a b a2 b2 : Expr) (s s2 : Span) → ◌≡◌ {A = Layer} (Expr-F.Bin o a b s) (Expr-F.Bin o2 a2 b2 s2) → o ≡ o2
  op_of o o2 a b a2 b2 s s2 e = cc

  first_of : (o o2 : BinOp) (a b a2 b2 : Expr) (s s2 : Span) → ◌≡◌ {A = Layer} (Expr-F.Bin o a b s) (Expr-F.Bin o2 a2 b2 s2) → a ≡ a2
  first_of o o2 a b a2 b2 s s2 e = cc

  second_of : (o o2 : BinOp) (a b a2 b2 : Expr) (s s2 : Span) → ◌≡◌ {A = Layer} (Expr-F.Bin o a b s) (Expr-F.Bin o2 a2 b2 s2) → b ≡ b2
  second_of o o2 a b a2 b2 s s2 e = cc

  comparing_at : (at : Span) (e : Expr) (o : BinOp) (a b : Expr) (here : Span) (os : Operation) (c : Cond) (p q : Leaks) → out-Expr e ≡ Expr-F.Bin o a b here → IsCompared home at e os c p q → IsComparing o a b
  comparing_at at e o a b here os c p q s (compares {o = o2} {c = k} {z} {a = a2} {b = b2} {x} {y} {p = u} {q = v} here2 h size f g ni can) =
      let same : ◌≡◌ {A = Layer} (Expr-F.Bin o2 a2 b2 here2) (Expr-F.Bin o a b here) = sym (out_bin o2 a2 b2 here2) ∙ s in
      subst (λ n. IsComparing n a b) (op_of o2 o a2 b2 a b here2 here same)
      (subst (λ n. IsComparing o2 n b) (first_of o2 o a2 b2 a b here2 here same)
      (subst (λ n. IsComparing o2 a2 n) (second_of o2 o a2 b2 a b here2 here same)
      (record { cond = k; is_cond = h; size = z; is_size = size; x = x; y = y; p = u; q = v; first = f; second = g; no_number = ni; can = can })))
  comparing_at at e o a b here os c p q s (denies {e = e2} here2 f) = let same : ◌≡◌ {A = Layer} (Expr-F.Not e2 here2) (Expr-F.Bin o a b here) = sym (out_not e2 here2) ∙ s in absurd cc

  module _ (o : BinOp) (a b : Expr) (here : Span) where
    compares_never : (IsComparing o a b → ⊥) → NeverCompares home (expr.Bin o a b here)
    compares_never none at os c p q h = none (comparing_at at (expr.Bin o a b here) o a b here os c p q (out_bin o a b here) h)

    pub no_condition : cond_of o ≡ None → NeverCompares home (expr.Bin o a b here)
    no_condition none = compares_never (λ k. clashes k.cond (sym none ∙ k.is_cond))
      where
        clashes : (c : Cond) → ◌≡◌ {A = Option Cond} None (Some c) → ⊥
        clashes c e = absurd cc

    pub no_size : option_or (own_size a) (own_size b) ≡ None → NeverCompares home (expr.Bin o a b here)
    no_size none = compares_never (λ k. clashes k.size (sym none ∙ k.is_size))
      where
        clashes : (c : Size) → ◌≡◌ {A = Option Size} None (Some c) → ⊥
        clashes c e = absurd cc

    module _ (z : Size) (is : option_or (own_size a) (own_size b) ≡ Some z) where
      size_of : (k : IsComparing o a b) → k.size ≡ z
      size_of k = some_is k.size z (sym k.is_size ∙ is)

      pub no_first : NeverArg home z a → NeverCompares home (expr.Bin o a b here)
      no_first none = compares_never (λ k. none k.x k.p (subst (λ s. IsArg home s a k.x k.p) (size_of k) k.first) (alu_fields alu.Cmp k.size k.x k.y None k.can).0)

      pub no_second : NeverArg home z b → NeverCompares home (expr.Bin o a b here)
      no_second none = compares_never (λ k. none k.y k.q (subst (λ s. IsArg home s b k.y k.q) (size_of k) k.second) (alu_fields alu.Cmp k.size k.x k.y None k.can).1)

      same_x : (k : IsComparing o a b) (x : Operand) → IsArg home z a x.arg (leaks_of x.leaks) → k.x ≡ x.arg
      same_x k x f = (one_arg home z a k.x x.arg k.p (leaks_of x.leaks) (subst (λ s. IsArg home s a k.x k.p) (size_of k) k.first) f).0

      same_y : (k : IsComparing o a b) (y : Operand) → IsArg home z b y.arg (leaks_of y.leaks) → k.y ≡ y.arg
      same_y k y f = (one_arg home z b k.y y.arg k.q (leaks_of y.leaks) (subst (λ s. IsArg home s b k.y k.q) (size_of k) k.second) f).0

      pub first_imm : (x : Operand) → IsArg home z a x.arg (leaks_of x.leaks) → is_imm x.arg ≡ true → NeverCompares home (expr.Bin o a b here)
      first_imm x f i = compares_never (λ k. no_imm x.arg i (subst NotImm (same_x k x f) k.no_number))

      pub no_code : (x y : Operand) → IsArg home z a x.arg (leaks_of x.leaks) → IsArg home z b y.arg (leaks_of y.leaks) → (CanEncode (action.Alu alu.Cmp z x.arg y.arg None) → ⊥) → NeverCompares home (expr.Bin o a b here)
      no_code x y f g none = compares_never (λ k. none (subst (λ n. CanEncode (action.Alu alu.Cmp z x.arg n None)) (same_y k y g) (subst (λ n. CanEncode (action.Alu alu.Cmp z n k.y None)) (same_x k x f) (subst (λ s. CanEncode (action.Alu alu.Cmp s k.x k.y None)) (size_of k) k.can))))

  denied_at : (at : Span) (e inner : Expr) (here : Span) (os : Operation) (c : Cond) (p q : Leaks) → out-Expr e ≡ Expr-F.Not inner here → NeverCompares home inner → IsCompared home at e os c p q → ⊥
  denied_at at e inner here os c p q s none (compares {o = o2} {a = a2} {b = b2} here2 h size f g ni can) = let same : ◌≡◌ {A = Layer} (Expr-F.Bin o2 a2 b2 here2) (Expr-F.Not inner here) = sym (out_bin o2 a2 b2 here2) ∙ s in absurd cc
  denied_at at e inner here os c p q s none (denies {e = e2} {compare = o2} {c = k} {p = u} {q = v} here2 f) =
      let same : ◌≡◌ {A = Layer} (Expr-F.Not e2 here2) (Expr-F.Not inner here) = sym (out_not e2 here2) ∙ s in
      let is : e2 ≡ inner = cc in
      none at o2 k u v (subst (λ n. IsCompared home at n o2 k u v) is f)

  pub denied_never : (inner : Expr) (here : Span) → NeverCompares home inner → NeverCompares home (expr.Not inner here)
  denied_never inner here none at os c p q h = denied_at at (expr.Not inner here) inner here os c p q (out_not inner here) none h

  -- what is neither
  form_of : (at : Span) (e : Expr) (os : Operation) (c : Cond) (p q : Leaks) → IsCompared home at e os c p q → ((o : BinOp) (a b : Expr) (here : Span) → e ≡ expr.Bin o a b here → ⊥) → ((inner : Expr) (here : Span) → e ≡ expr.Not inner here → ⊥) → ⊥
  form_of at e os c p q (compares {o = o2} {a = a2} {b = b2} here2 h size u v ni can) f g = f o2 a2 b2 here2 refl
  form_of at e os c p q (denies {e = e2} here2 u) f g = g e2 here2 refl

  pub other_never : (e : Expr) → ((o : BinOp) (a b : Expr) (here : Span) → e ≡ expr.Bin o a b here → ⊥) → ((inner : Expr) (here : Span) → e ≡ expr.Not inner here → ⊥) → NeverCompares home e
  other_never e f g at os c p q h = form_of at e os c p q h f g

  pub truth_never : (b : Bool) (here : Span) → NeverCompares home (expr.Bool b here)
  truth_never b here =
      other_never (expr.Bool b here)
      (λ o x y at e. let s : ◌≡◌ {A = Layer} (Expr-F.Expr::Bool b here) (Expr-F.Bin o x y at) = sym (out_bool b here) ∙ ap out-Expr e ∙ out_bin o x y at in absurd cc)
      (λ x at e. let s : ◌≡◌ {A = Layer} (Expr-F.Expr::Bool b here) (Expr-F.Not x at) = sym (out_bool b here) ∙ ap out-Expr e ∙ out_not x at in absurd cc)

  -- ---- `to = value` and `to op= value`
  pub no_set_size : (left : Option Size) (d : Lval) (w : Expr) → option_or left (own_size w) ≡ None → NeverSet home left d w
  no_set_size left d w none z acts items is row can = let s : ◌≡◌ {A = Option Size} None (Some z) = sym none ∙ is in absurd cc

  pub no_set_row : (left : Option Size) (d : Lval) (w : Expr) (z : Size) → option_or left (own_size w) ≡ Some z → ((acts : List Action) (items : List Numbers) → HasRow home z d w acts items → All CanEncode acts → ⊥) → NeverSet home left d w
  no_set_row left d w z is none y acts items own row can = none acts items (subst (λ s. HasRow home s d w acts items) (some_is y z (sym own ∙ is)) row) can

  pub no_set_code : (left : Option Size) (d : Lval) (w : Expr) (z : Size) (r : Row) → option_or left (own_size w) ≡ Some z → HasRow home z d w (acts_of r) (items_of r) → (All CanEncode (acts_of r) → ⊥) → NeverSet home left d w
  no_set_code left d w z r is found none = no_set_row left d w z is (λ acts items row can. none (subst (All CanEncode) (one_row home z d w acts (acts_of r) items (items_of r) row found).0 can))

  set_parts : (d : Lval) (o : Option BinOp) (e : Expr) (at : Span) (os : List Operation) (is : List Numbers) (left : Option Size) → left ≡ left_sizes (d ∷ []) → ((w : Expr) → whole_of (Some d) o e ≡ Some w → NeverSet home left d w) → Lowers home (assign (d ∷ []) o e None at) os is → ⊥
  set_parts d o e at os is left same none (sets {w = w} {z} {acts} {items} h size row can) = none w h z acts items (ap (λ l. option_or l (own_size w)) same ∙ size) row can

  pub set_never : (d : Lval) (o : Option BinOp) (e : Expr) (left : Option Size) → left ≡ left_sizes (d ∷ []) → ((w : Expr) → whole_of (Some d) o e ≡ Some w → NeverSet home left d w) → NeverLowers home (d ∷ []) o e None
  set_never d o e left same none at os is h = set_parts d o e at os is left same none h

  pub one_whole : (d : Lval) (o : Option BinOp) (e w : Expr) (left : Option Size) → whole_of (Some d) o e ≡ Some w → NeverSet home left d w → (u : Expr) → whole_of (Some d) o e ≡ Some u → NeverSet home left d u
  one_whole d o e w left is none u e2 = subst (NeverSet home left d) (some_is w u (sym is ∙ e2)) none

  pub no_whole : (d : Lval) (o : Option BinOp) (e : Expr) (left : Option Size) → whole_of (Some d) o e ≡ None → (u : Expr) → whole_of (Some d) o e ≡ Some u → NeverSet home left d u
  no_whole d o e left none u is = let s : ◌≡◌ {A = Option Expr} None (Some u) = sym none ∙ is in absurd cc

  -- ---- `r = o if c`
  pub record IsChoice (x : Var) (e k : Expr) (at : Span) : Type 0 where
    pub size : Size
    pub wide : IsWide size
    pub own : (ref_of x).kind ≡ kind.Word size
    pub register : ℕ
    pub home_is : home (key_of (ref_of x)) ≡ Some (in_register register size)
    pub y : Arg
    pub p : Leaks
    pub operand : IsArg home size e y p
    pub no_number : NotImm y
    pub compare : Operation
    pub cond : Cond
    pub q : Leaks
    pub r : Leaks
    pub compared : IsCompared home at k compare cond q r
    pub can : CanEncode (action.Cmov (condition.Cc cond) size register y)

  choice_parts : (x : Var) (e k : Expr) (at : Span) (os : List Operation) (is : List Numbers) → Lowers home (assign (lval.Var x ∷ []) None e (Some k) at) os is → IsChoice x e k at
  choice_parts x e k at os is (sets_if {y = y} {compare} {c} {m} {p} {q} {r} z wide own h f ni g can) =
      record { size = z; wide = wide; own = own; register = m; home_is = h; y = y; p = p; operand = f; no_number = ni; compare = compare; cond = c; q = q; r = r; compared = g; can = can }

  module _ (x : Var) (e k : Expr) where
    pub choice_never : ((at : Span) → IsChoice x e k at → ⊥) → NeverLowers home (lval.Var x ∷ []) None e (Some k)
    choice_never none at os is h = none at (choice_parts x e k at os is h)

    module _ (z : Size) (own : (ref_of x).kind ≡ kind.Word z) where
      word_size : (y z : Size) → ◌≡◌ {A = Kind} (kind.Word y) (kind.Word z) → y ≡ z
      word_size y z e = cc

      choice_size : (at : Span) (h : IsChoice x e k at) → h.size ≡ z
      choice_size at h = word_size h.size z (sym h.own ∙ own)

      pub choice_narrow : (IsWide z → ⊥) → NeverLowers home (lval.Var x ∷ []) None e (Some k)
      choice_narrow none = choice_never (λ at h. none (subst IsWide (choice_size at h) h.wide))

      pub choice_register : ((n : ℕ) → home (key_of (ref_of x)) ≡ Some (in_register n z) → ⊥) → NeverLowers home (lval.Var x ∷ []) None e (Some k)
      choice_register none = choice_never (λ at h. none h.register (subst (λ s. home (key_of (ref_of x)) ≡ Some (in_register h.register s)) (choice_size at h) h.home_is))

      pub choice_operand : NeverArg home z e → NeverLowers home (lval.Var x ∷ []) None e (Some k)
      choice_operand none = choice_never (λ at h. none h.y h.p (subst (λ s. IsArg home s e h.y h.p) (choice_size at h) h.operand) (cmov_fields (condition.Cc h.cond) h.size h.register h.y h.can))

      same_y2 : (at : Span) (h : IsChoice x e k at) (y : Operand) → IsArg home z e y.arg (leaks_of y.leaks) → h.y ≡ y.arg
      same_y2 at h y f = (one_arg home z e h.y y.arg h.p (leaks_of y.leaks) (subst (λ s. IsArg home s e h.y h.p) (choice_size at h) h.operand) f).0

      pub choice_imm : (y : Operand) → IsArg home z e y.arg (leaks_of y.leaks) → is_imm y.arg ≡ true → NeverLowers home (lval.Var x ∷ []) None e (Some k)
      choice_imm y f i = choice_never (λ at h. no_imm y.arg i (subst NotImm (same_y2 at h y f) h.no_number))

      register_same : (m n : ℕ) (y z : Size) → ◌≡◌ {A = Option Home} (Some (in_register m y)) (Some (in_register n z)) → m ≡ n
      register_same m n y z e = cc

      pub choice_code : (y : Operand) (n : ℕ) (c : Comparison) → IsArg home z e y.arg (leaks_of y.leaks) → home (key_of (ref_of x)) ≡ Some (in_register n z) → Compares home k c → (CanEncode (action.Cmov (condition.Cc c.cond) z n y.arg) → ⊥) → NeverLowers home (lval.Var x ∷ []) None e (Some k)
      choice_code y n c f reg cmp none = choice_never (λ at h. none (by_same at h))
        where
          by_same : (at : Span) (h : IsChoice x e k at) → CanEncode (action.Cmov (condition.Cc c.cond) z n y.arg)
          by_same at h =
              let one = one_compared home at k h.compare (plain at c.action) h.cond c.cond h.q h.r (leaks_of c.first) (leaks_of c.second) h.compared (cmp at) in
              let m = register_same h.register n h.size z (sym h.home_is ∙ reg) in
              subst (λ a. CanEncode (action.Cmov (condition.Cc c.cond) z n a)) (same_y2 at h y f)
              (subst (λ r. CanEncode (action.Cmov (condition.Cc c.cond) z r h.y)) m
              (subst (λ s. CanEncode (action.Cmov (condition.Cc c.cond) s h.register h.y)) (choice_size at h)
              (subst (λ d. CanEncode (action.Cmov (condition.Cc d) h.size h.register h.y)) one.cond h.can)))

    pub choice_test : NeverCompares home k → NeverLowers home (lval.Var x ∷ []) None e (Some k)
    choice_test none = choice_never (λ at h. none at h.compare h.cond h.q h.r h.compared)

  var_of_choice : (d : Lval) (e k : Expr) (at : Span) (os : List Operation) (is : List Numbers) → Lowers home (assign (d ∷ []) None e (Some k) at) os is → (x : Var) × (z : Size) × (d ≡ lval.Var x) × ((ref_of x).kind ≡ kind.Word z)
  var_of_choice d e k at os is (sets_if {x = x} z wide own h f ni g can) = (x, z, refl, own)

  pub no_choice : (d : Lval) (e k : Expr) → ((x : Var) (z : Size) → d ≡ lval.Var x → (ref_of x).kind ≡ kind.Word z → ⊥) → NeverLowers home (d ∷ []) None e (Some k)
  no_choice d e k none at os is h = let r = var_of_choice d e k at os is h in none r.0 r.1 r.2 r.3

  var_one : (x v : Var) → ◌≡◌ {A = Lval} (lval.Var x) (lval.Var v) → x ≡ v
  var_one x v e = cc

  pub no_choice_left : (d : Lval) (e k : Expr) → ((x : Var) → d ≡ lval.Var x → ⊥) → NeverLowers home (d ∷ []) None e (Some k)
  no_choice_left d e k none = no_choice d e k (λ x z is own. none x is)

  pub no_choice_kind : (d : Lval) (e k : Expr) (v : Var) → d ≡ lval.Var v → ((z : Size) → (ref_of v).kind ≡ kind.Word z → ⊥) → NeverLowers home (d ∷ []) None e (Some k)
  no_choice_kind d e k v is none = no_choice d e k (λ x z same own. none z (subst (λ u. (ref_of u).kind ≡ kind.Word z) (var_one x v (sym same ∙ is)) own))

  -- ---- other statements
  pub no_op_if : (to : List Lval) (o : BinOp) (e k : Expr) → NeverLowers home to (Some o) e (Some k)
  no_op_if to o e k at os is h = elim h [ ]

  one_left : (to : List Lval) (o : Option BinOp) (e : Expr) (c : Option Expr) (at : Span) (os : List Operation) (is : List Numbers) → Lowers home (assign to o e c at) os is → (d : Lval) × (to ≡ d ∷ [])
  one_left to o e c at os is (sets {d = d} h size row can) = (d, refl)
  one_left to o e c at os is (sets_if {x = x} z wide own h f ni g can) = (lval.Var x, refl)

  pub no_single : (to : List Lval) (o : Option BinOp) (e : Expr) (c : Option Expr) → ((d : Lval) → to ≡ d ∷ [] → ⊥) → NeverLowers home to o e c
  no_single to o e c none at os is h = let r = one_left to o e c at os is h in none r.0 r.1
