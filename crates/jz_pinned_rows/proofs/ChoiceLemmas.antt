-- Choices and tests of bool variables.
use Rattle.std.proofs.Common.{◌≡◌, ℕ, Bool, true, List, [], ◌∷◌, ◌++◌, Option, Some, None, refl, sym, ap, ◌∙◌, subst}
use Rattle.std.specs.Prelude.{not}
use Rattle.jz_words.specs.declared.size.Size.{Size}
use Rattle.jz_tree.specs.Span.{Span}
use Rattle.jz_tree.specs.declared.expr.BinOp.{BinOp}
use Rattle.jz_tree.specs.declared.expr.Expr.{Expr}
use Rattle.jz_tree.specs.declared.expr.Expr.TheVariants as expr
use Rattle.jz_tree.specs.declared.expr.Expr.TheOpen.{Expr-F}
use Rattle.jz_tree.specs.declared.expr.Expr.TheViews.{out-Expr}
use Rattle.jz_tree.specs.declared.expr.Var.{Var}
use Rattle.jz_tree.specs.declared.stmt.Lval.{Lval}
use Rattle.jz_tree.specs.declared.stmt.Lval.TheVariants as lval
use Rattle.jz_meaning.specs.declared.access.Kind.{Kind}
use Rattle.jz_meaning.specs.declared.access.Kind.TheVariants as kind
use Rattle.jz_meaning.specs.Assignments.{Layer}
use Rattle.jz_meaning.specs.Values.{key_of, ref_of}
use Rattle.jz_meaning.specs.Statements.{assign}
use Rattle.jz_operations.specs.declared.operation.Arg.{Arg}
use Rattle.jz_operations.specs.declared.operation.Condition.TheVariants as condition
use Rattle.jz_operations.specs.declared.operation.Action.TheVariants as action
use Rattle.jz_operations.specs.declared.operation.Flags.{Flags}
use Rattle.jz_operations.specs.declared.operation.Operation.{Operation}
use Rattle.jz_encodable.specs.Encodable.{CanEncode}
use Rattle.jz_change.specs.declared.change.Numbers.{Numbers}
use Rattle.jz_change.specs.declared.change.Numbers.TheVariants.{These}
use Rattle.jz_homes.specs.Homes.{Homes, in_register, in_flag}
use Rattle.jz_homes.specs.Operands.{Leaks, IsArg}
use Rattle.jz_row_operations.specs.Codes.{no_flag, plain, lasting}
use Rattle.jz_row_operations.specs.Rows.{IsWide, NotImm}
use Rattle.jz_row_operations.specs.Table.{is_imm}
use Rattle.jz_row_operations.specs.Lowering.{numbers_from}
use Rattle.jz_one_row.proofs.Outs.{out_not, out_var}
use Rattle.jz_one_row.proofs.Operands.{register_of, one_arg}
use Rattle.jz_one_row.proofs.Sums.{same_var}
use Rattle.jz_flag_rows.specs.Conditions.{IsFlagCondition, a_flag, denied}
use Rattle.jz_flag_rows.specs.Rows.{LowersFlags, choices}
use Rattle.jz_one_flag_row.proofs.OneParts.{one_condition}
use Rattle.jz_operands.specs.declared.operands.Operand.{Operand}
use Rattle.jz_operands.specs.TableHomes.{leaks_of}
use Rattle.jz_operands.specs.Refusals.{NeverArg}
use Rattle.jz_rows.specs.Rows.{nth_of}
use Rattle.jz_rows.proofs.FieldLemmas.{cmov_fields}
use Rattle.jz_pinned_rows.specs.declared.choosing.FlagTest.{FlagTest}
use Rattle.jz_pinned_rows.specs.Rows.{IsPinnedRow, NeverPinned, NeverFlag}
use Rattle.jz_pinned_rows.proofs.PartLemmas.{no_imm}
use Rattle.jz_pinned_rows.proofs.WideLemmas.{shown_one}

module _ (home : Homes) where
  -- ---- bool variables
  flag_at : (e : Expr) (x : Var) (n : ℕ) (d : Bool) → out-Expr e ≡ Expr-F.Var x → IsFlagCondition home e n d → (m : ℕ) × ((ref_of x).kind ≡ kind.Bool) × (home (key_of (ref_of x)) ≡ Some (in_flag m))
  flag_at e x n d s (a_flag y m own h) =
      let same = same_var y x (sym (out_var y) ∙ s) in
      (m, subst (λ v. (ref_of v).kind ≡ kind.Bool) same own, subst (λ v. home (key_of (ref_of v)) ≡ Some (in_flag m)) same h)
  flag_at e x n d s (denied {e = a} here h) = let f : ◌≡◌ {A = Layer} (Expr-F.Not a here) (Expr-F.Var x) = sym (out_not a here) ∙ s in absurd cc

  pub no_flag_variable : (x : Var) → ((n : ℕ) → home (key_of (ref_of x)) ≡ Some (in_flag n) → ⊥) → NeverFlag home (expr.Var x)
  no_flag_variable x none n d h = let r = flag_at (expr.Var x) x n d (out_var x) h in none r.0 r.2

  pub no_bool_variable : (x : Var) → ((ref_of x).kind ≡ kind.Bool → ⊥) → NeverFlag home (expr.Var x)
  no_bool_variable x none n d h = none (flag_at (expr.Var x) x n d (out_var x) h).1

  pub denied_is : (e a a2 : Expr) (here : Span) (n : ℕ) (d c : Bool) → e ≡ expr.Not a here → a2 ≡ a → c ≡ not d → IsFlagCondition home a2 n d → IsFlagCondition home e n c
  denied_is e a a2 here n d c is inner f h =
      subst (λ u. IsFlagCondition home u n c) (ap (λ u. expr.Not u here) inner ∙ sym is) (subst (λ b. IsFlagCondition home (expr.Not a2 here) n b) (sym f) (denied here h))

  denied_at : (e a : Expr) (here : Span) (n : ℕ) (d : Bool) → out-Expr e ≡ Expr-F.Not a here → NeverFlag home a → IsFlagCondition home e n d → ⊥
  denied_at e a here n d s none (a_flag y m own h) = let f : ◌≡◌ {A = Layer} (Expr-F.Var y) (Expr-F.Not a here) = sym (out_var y) ∙ s in absurd cc
  denied_at e a here n d s none (denied {e = b} {n = m} {d = c} there h) =
      let f : ◌≡◌ {A = Layer} (Expr-F.Not b there) (Expr-F.Not a here) = sym (out_not b there) ∙ s in
      let is : b ≡ a = cc in
      none m c (subst (λ u. IsFlagCondition home u m c) is h)

  pub no_denied : (e a a2 : Expr) (here : Span) → e ≡ expr.Not a here → a2 ≡ a → NeverFlag home a2 → NeverFlag home e
  no_denied e a a2 here is inner none n d h = denied_at e a here n d (ap out-Expr is ∙ out_not a here) (subst (NeverFlag home) inner none) h

  form_of_flag : (e : Expr) (n : ℕ) (d : Bool) → IsFlagCondition home e n d → ((x : Var) → e ≡ expr.Var x → ⊥) → ((a : Expr) (here : Span) → e ≡ expr.Not a here → ⊥) → ⊥
  form_of_flag e n d (a_flag x m own h) f g = f x refl
  form_of_flag e n d (denied {e = a} here h) f g = g a here refl

  pub no_flag_form : (e : Expr) → ((x : Var) → e ≡ expr.Var x → ⊥) → ((a : Expr) (here : Span) → e ≡ expr.Not a here → ⊥) → NeverFlag home e
  no_flag_form e f g n d h = form_of_flag e n d h f g

  -- ---- `r = o if c`
  record IsFlagChoice (x : Var) (e k : Expr) : Type 0 where
    pub size : Size
    pub wide : IsWide size
    pub own : (ref_of x).kind ≡ kind.Word size
    pub register : ℕ
    pub home_is : home (key_of (ref_of x)) ≡ Some (in_register register size)
    pub y : Arg
    pub p : Leaks
    pub operand : IsArg home size e y p
    pub no_number : NotImm y
    pub n : ℕ
    pub d : Bool
    pub flag : IsFlagCondition home k n d
    pub can : CanEncode (action.Cmov (condition.Flag n d) size register y)

  choice_parts : (x : Var) (e k : Expr) (at : Span) (os : List Operation) (is : List Numbers) → LowersFlags home (assign (lval.Var x ∷ []) None e (Some k) at) os is → IsFlagChoice x e k
  choice_parts x e k at os is (choices {y = y} {n = n} {m = m} {d = d} {p = p} z wide own h ia ni flag can) =
      record { size = z; wide = wide; own = own; register = m; home_is = h; y = y; p = p; operand = ia; no_number = ni; n = n; d = d; flag = flag; can = can }

  module _ (x : Var) (e k : Expr) where
    abbrev Never : Type 0
    Never = NeverPinned home (lval.Var x ∷ []) None e (Some k)

    choice_never : (IsFlagChoice x e k → ⊥) → Never
    choice_never none at os is h = none (choice_parts x e k at os is h)

    pub choice_flag : NeverFlag home k → Never
    choice_flag none = choice_never (λ h. none h.n h.d h.flag)

    module _ (z : Size) (own : (ref_of x).kind ≡ kind.Word z) where
      word_size : (y : Size) → ◌≡◌ {A = Kind} (kind.Word y) (kind.Word z) → y ≡ z
      word_size y f = cc

      choice_size : (h : IsFlagChoice x e k) → h.size ≡ z
      choice_size h = word_size h.size (sym h.own ∙ own)

      pub choice_narrow : (IsWide z → ⊥) → Never
      choice_narrow none = choice_never (λ h. none (subst IsWide (choice_size h) h.wide))

      pub choice_register : ((n : ℕ) → home (key_of (ref_of x)) ≡ Some (in_register n z) → ⊥) → Never
      choice_register none = choice_never (λ h. none h.register (subst (λ s. home (key_of (ref_of x)) ≡ Some (in_register h.register s)) (choice_size h) h.home_is))

      operand_at : (h : IsFlagChoice x e k) → IsArg home z e h.y h.p
      operand_at h = subst (λ s. IsArg home s e h.y h.p) (choice_size h) h.operand

      pub choice_operand : NeverArg home z e → Never
      choice_operand none = choice_never (λ h. none h.y h.p (operand_at h) (cmov_fields (condition.Flag h.n h.d) h.size h.register h.y h.can))

      module _ (y : Operand) (f : IsArg home z e y.arg (leaks_of y.leaks)) where
        same_y : (h : IsFlagChoice x e k) → h.y ≡ y.arg
        same_y h = (one_arg home z e h.y y.arg h.p (leaks_of y.leaks) (operand_at h) f).0

        pub choice_imm : is_imm y.arg ≡ true → Never
        choice_imm i = choice_never (λ h. no_imm y.arg i (subst NotImm (same_y h) h.no_number))

        pub choice_code : (m : ℕ) (t : FlagTest) → home (key_of (ref_of x)) ≡ Some (in_register m z) → IsFlagCondition home k t.variable t.denied → (CanEncode (action.Cmov (condition.Flag t.variable t.denied) z m y.arg) → ⊥) → Never
        choice_code m t reg flag none = choice_never (λ h.
            let r = one_condition home k h.n t.variable h.d t.denied h.flag flag in
            let s = register_of h.register m h.size z (sym h.home_is ∙ reg) in
            let by : action.Cmov (condition.Flag h.n h.d) h.size h.register h.y ≡ action.Cmov (condition.Flag t.variable t.denied) z m y.arg =
            (λ i. action.Cmov (condition.Flag (r.0 i) (r.1 i)) (choice_size h i) (s i) (same_y h i)) in
            none (subst CanEncode by h.can))

        pub choice_is : (m : ℕ) (t : FlagTest) (s : Option ℕ) (fl : Flags) → IsWide z → home (key_of (ref_of x)) ≡ Some (in_register m z) → NotImm y.arg → IsFlagCondition home k t.variable t.denied → nth_of s ≡ numbers_from (leaks_of y.leaks) 0
            → CanEncode (action.Cmov (condition.Flag t.variable t.denied) z m y.arg) → fl ≡ no_flag → IsPinnedRow home (lval.Var x ∷ []) None e (Some k) (record {
              acts = record {
                before = None;
                between = None;
                last = record { action = action.Cmov (condition.Flag t.variable t.denied) z m y.arg; shown = record { first = s; second = None } };
                divided = None;
              };
              flags = fl;
            })
        choice_is m t s fl wide reg ni flag is can flags at =
            let act = action.Cmov (condition.Flag t.variable t.denied) z m y.arg in
            subst (λ f. LowersFlags home (assign (lval.Var x ∷ []) None e (Some k) at) (lasting at f (act ∷ [])) (These ((nth_of s ++ []) ++ []) ∷ [])) (sym flags)
            (subst (λ i. LowersFlags home (assign (lval.Var x ∷ []) None e (Some k) at) (plain at act ∷ []) (i ∷ [])) (sym (shown_one s (numbers_from (leaks_of y.leaks) 0) is))
            (choices z wide own reg f ni flag can))

  var_of_choice : (d : Lval) (e k : Expr) (at : Span) (os : List Operation) (is : List Numbers) → LowersFlags home (assign (d ∷ []) None e (Some k) at) os is → (x : Var) × (z : Size) × (d ≡ lval.Var x) × ((ref_of x).kind ≡ kind.Word z)
  var_of_choice d e k at os is (choices {v = x} z wide own h ia ni flag can) = (x, z, refl, own)

  pub no_choice : (d : Lval) (e k : Expr) → ((x : Var) (z : Size) → d ≡ lval.Var x → (ref_of x).kind ≡ kind.Word z → ⊥) → NeverPinned home (d ∷ []) None e (Some k)
  no_choice d e k none at os is h = let r = var_of_choice d e k at os is h in none r.0 r.1 r.2 r.3

  var_one : (x v : Var) → ◌≡◌ {A = Lval} (lval.Var x) (lval.Var v) → x ≡ v
  var_one x v e = cc

  pub no_choice_left : (d : Lval) (e k : Expr) → ((x : Var) → d ≡ lval.Var x → ⊥) → NeverPinned home (d ∷ []) None e (Some k)
  no_choice_left d e k none = no_choice d e k (λ x z is own. none x is)

  pub no_choice_kind : (d : Lval) (e k : Expr) (v : Var) → d ≡ lval.Var v → ((z : Size) → (ref_of v).kind ≡ kind.Word z → ⊥) → NeverPinned home (d ∷ []) None e (Some k)
  no_choice_kind d e k v is none = no_choice d e k (λ x z same own. none z (subst (λ u. (ref_of u).kind ≡ kind.Word z) (var_one x v (sym same ∙ is)) own))

  -- ---- other statements with a condition
  pub no_op_if : (to : List Lval) (o : BinOp) (e k : Expr) → NeverPinned home to (Some o) e (Some k)
  no_op_if to o e k at os is h = elim h [ ]

  one_left : (to : List Lval) (e k : Expr) (at : Span) (os : List Operation) (is : List Numbers) → LowersFlags home (assign to None e (Some k) at) os is → (d : Lval) × (to ≡ d ∷ [])
  one_left to e k at os is (choices {v = x} z wide own h ia ni flag can) = (lval.Var x, refl)

  pub no_single : (to : List Lval) (e k : Expr) → ((d : Lval) → to ≡ d ∷ [] → ⊥) → NeverPinned home to None e (Some k)
  no_single to e k none at os is h = let r = one_left to e k at os is h in none r.0 r.1
