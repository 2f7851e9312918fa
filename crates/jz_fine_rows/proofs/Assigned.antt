-- Assignments of one value are fine.
use Rattle.std.proofs.Common.{◌≡◌, Bool, true, false, ◌&&◌, List, [], ◌∷◌, ◌++◌, Option, Some, None, refl, sym, ap, ◌∙◌, subst, inl, inr, if◌then◌else◌}
use Rattle.std.specs.Prelude.{◌⊎◌}
use Rattle.std.specs.Option.{option_or}
use Rattle.std.proofs.lemmas.Bool.{false≢true, true≢false}
use Rattle.x64_insn.specs.Size.{Size}
use Rattle.jz_tree.specs.Span.{Span}
use Rattle.jz_tree.specs.Operators.{is_shift}
use Rattle.jz_tree.specs.declared.expr.BinOp.{BinOp}
use Rattle.jz_tree.specs.declared.expr.Expr.{Expr}
use Rattle.jz_tree.specs.declared.expr.Expr.TheVariants as expr
use Rattle.jz_tree.specs.declared.expr.Expr.TheOpen.{Expr-F}
use Rattle.jz_tree.specs.declared.expr.Expr.TheViews.{out-Expr, out-Access, roll-out-Access}
use Rattle.jz_tree.specs.declared.expr.Expr.TheFolds.{fold-roll-Access}
use Rattle.jz_tree.specs.declared.expr.Access.{Access}
use Rattle.jz_tree.specs.declared.expr.Var.{Var}
use Rattle.jz_tree.specs.declared.stmt.Lval.{Lval}
use Rattle.jz_tree.specs.declared.stmt.Lval.TheVariants as lval
use Rattle.jz_type_names.specs.Kinds.{known_of, is_inline, is_inline_int, is_array}
use Rattle.jz_type_sizes.specs.declared.operators.Group.TheVariants as group
use Rattle.jz_type_sizes.specs.Operators.{group_of}
use Rattle.jz_select.specs.declared.class.Class.TheVariants as class
use Rattle.jz_select.specs.Sums.{is_address, is_index}
use Rattle.jz_select.specs.Look.{look_of, terms_of}
use Rattle.jz_select.specs.Operands.{var_class, cell_class, cell_of, class_of, dest_of}
use Rattle.jz_select.specs.Rows.{is_r, is_rm}
use Rattle.jz_judgement.specs.Places as place
use Rattle.jz_judgement.specs.Places.{truth, word}
use Rattle.jz_judgement.specs.HasType as judged
use Rattle.jz_judgement.specs.HasType.{Layer, Term as Typed, value, left, result, HasType, Operates, Says}
use Rattle.jz_judgement.specs.Lefts as lefts
use Rattle.jz_judgement.specs.Lefts.{IsBool, IsNumber, Wants, Holds, Own, Takes, value_term, Values}
use Rattle.jz_run_laws.proofs.Sizes.{right_type, says_law}
use Rattle.jz_row_laws.proofs.Fixed.{no_if}
use Rattle.jz_row_laws.proofs.Copied.{rm_class}
use Rattle.jz_unroll.proofs.InlineParts.{inline_layer, inline_out}
use Rattle.jz_meaning.specs.States.{Key}
use Rattle.jz_meaning.specs.Values.{MemoryAccess, size_of, expr_step, ty_step, access_step, decl_step, var_step, ref_of, access_of, own_size}
use Rattle.jz_meaning.specs.Assignments.{left_size, left_sizes, as_expr, left_span, updated, whole_of}
use Rattle.jz_meaning.specs.Statements.{assign}
use Rattle.jz_run_laws.specs.Kinds.{Kinds}
use Rattle.jz_limits.specs.Values.{no_numbers, is_int, only_int}
use Rattle.jz_limits.specs.declared.operands.Role.TheVariants as role
use Rattle.jz_limits.specs.Asked.{told, counted, Parts, in_kinds, to_register, is_free, value_as, asked_as, asked_if, left_parts, value_parts, assigned_parts, asked}
use Rattle.jz_terms.specs.Terms.{term_of, place_of, size_in}
use Rattle.jz_terms.proofs.TermForms.{term_var, term_cell, term_load}
use Rattle.jz_fact_laws.specs.Saying.{is_number}
use Rattle.jz_standing.specs.Typing.{IsWord}
use Rattle.jz_assigned.specs.AssignedLaws.{IsOne}
use Rattle.jz_plain_operands.specs.Instructed.{a_word, TakesShape}
use Rattle.jz_plain_operands.specs.Plain as plain
use Rattle.jz_plain_operands.specs.Plain.{IsPlain, IsPlainExpr, IsPlainLeft, to_nothing, to_variable, to_cell, to_memory}
use Rattle.jz_plain_operands.proofs.Layers.{place_out}
use Rattle.jz_plain_operands.proofs.Counting.{all_counted}
use Rattle.jz_plain_operands.proofs.Answers.{flagged}
use Rattle.jz_plain_operands.proofs.Operands.{word_there}
use Rattle.jz_plain_operands.proofs.Lefts.{word_taken}
use Rattle.jz_fine_rows.specs.Prepared.{IsPrepared, AssignmentsAreFine}
use Rattle.jz_row_classes.specs.RowClasses.{IsOneClassed, IsChosen}
use Rattle.jz_fine_rows.proofs.Operators.{computed_shift, group_computed}
use Rattle.jz_row_classes.proofs.ValueRows.{r_rm}
use Rattle.jz_fine_rows.proofs.Asked.{not_negative, count_asked}
use Rattle.jz_fine_rows.proofs.RightSides.{CountsFit, AllFit, value_word}
use Rattle.jz_fine_rows.proofs.Updates.{updated_to, updated_word, updated_size}

-- ---- sizes
access_size : (a : Access) → (access_of a).size ≡ (out-Access a).size
access_size a =
    ap (λ x. (access_of x).size) (sym (roll-out-Access a))
    ∙ ap (λ (m : MemoryAccess). m.size) (fold-roll-Access _ _ _ _ _ expr_step ty_step access_step decl_step var_step (out-Access a))

place_size : (a : Access) → (place_of a).spot.size ≡ (out-Access a).size
place_size a = ap (λ k. k.spot.size) (place_out a)

none_some : (o : Option Size) (z : Size) → o ≡ None → o ≡ Some z → ⊥
none_some None z e f = absurd cc
none_some (Some y) z e f = absurd cc

left_first : (o : Option Size) (z : Size) (k : Option Size) → o ≡ Some z → option_or (option_or o None) k ≡ Some z
left_first o z k h = ap (λ s. option_or (option_or s None) k) h

right_first : (o : Option Size) (z : Size) (k : Option Size) → o ≡ None → k ≡ Some z → option_or (option_or o None) k ≡ Some z
right_first o z k h g = ap (λ s. option_or (option_or s None) k) h ∙ g

-- ---- lists
both_nothing : {A : Type 0} (xs ys : List A) → xs ++ ys ≡ [] → (xs ≡ []) × (ys ≡ [])
both_nothing [] ys h = (refl, h)
both_nothing (x ∷ xs) ys h = absurd cc

fields_none : (p : Parts) → in_kinds p ≡ [] → p.fields ≡ []
fields_none p h = (both_nothing p.ranges p.fields (both_nothing p.widths (p.ranges ++ p.fields) h).1).1

module _ (kinds : Kinds) (in_frame : Key → Bool) where
  -- ---- variables
  no_int : (v : Var) → IsPlain kinds in_frame v → is_inline_int (known_of v) ≡ false
  no_int v (plain.a_word z d k s) = ap is_inline_int d
  no_int v (plain.a_slot z d k s) = ap is_inline_int d
  no_int v (plain.a_flag d k s) = ap is_inline_int d
  no_int v (plain.an_array z n d a) = ap is_inline_int d

  no_kind : (v : Var) → IsPlain kinds in_frame v → is_int (ref_of v).kind ≡ false
  no_kind v (plain.a_word z d k s) = ap is_int k
  no_kind v (plain.a_slot z d k s) = ap is_int k
  no_kind v (plain.a_flag d k s) = ap is_int k
  no_kind v (plain.an_array z n d a) = ap is_int a.is

  no_bool : (v : Var) → IsPlain kinds in_frame v → IsBool (known_of v) → is_rm (var_class (known_of v)) ≡ true → ⊥
  no_bool v (plain.a_word z d k s) b e = subst IsBool d b
  no_bool v (plain.a_slot z d k s) b e = subst IsBool d b
  no_bool v (plain.a_flag d k s) b e = false≢true (sym (ap (λ q. is_rm (var_class q)) d) ∙ e)
  no_bool v (plain.an_array z n d a) b e = subst IsBool d b

  no_array : (v : Var) → IsPlain kinds in_frame v → is_array (known_of v) ≡ true → is_rm (var_class (known_of v)) ≡ true → ⊥
  no_array v (plain.a_word z d k s) b e = false≢true (sym (ap is_array d) ∙ b)
  no_array v (plain.a_slot z d k s) b e = false≢true (sym (ap is_array d) ∙ b)
  no_array v (plain.a_flag d k s) b e = false≢true (sym (ap is_array d) ∙ b)
  no_array v (plain.an_array z n d a) b e = false≢true (sym (ap (λ q. is_rm (var_class q)) d) ∙ e)

  no_number : (v : Var) → IsPlain kinds in_frame v → IsNumber (known_of v) → ⊥
  no_number v (plain.a_word z d k s) i = subst IsNumber d i
  no_number v (plain.a_slot z d k s) i = subst IsNumber d i
  no_number v (plain.a_flag d k s) i = subst IsNumber d i
  no_number v (plain.an_array z n d a) i = subst IsNumber d i

  -- ---- the size of a typed left side
  data OwnSize (d : Lval) (t : Typed) (z : Size) : Type 0 where
    of_left : Wants d (word z) → OwnSize d t z
    of_right : (a : Access) → d ≡ lval.Store a → (out-Access a).size ≡ None → Says t z → OwnSize d t z

  record TypedLeft (d : Lval) (t : Typed) : Type 0 where
    size : Size
    holds : Holds (word size) d
    typed : HasType t (word size)
    own : OwnSize d t size

  own_of : (a : Access) (t : Typed) (z : Size) → (out-Access a).size ≡ None → Own t (word z) → OwnSize (lval.Store a) t z
  own_of a t z n (lefts.sized s) = of_right a refl n s

  typed_left : (d : Lval) (t : Typed) → IsPlainLeft kinds in_frame d → is_rm (dest_of d) ≡ true → Takes d t → TypedLeft d t
  typed_left (lval.Skip at) t to_nothing r h = absurd (false≢true r)
  typed_left (lval.Var v) t (to_variable x) r (lefts.wanted p (lefts.number i) h) = absurd (false≢true (sym (no_int v x) ∙ i))
  typed_left (lval.Var v) t (to_variable x) r (lefts.wanted p (lefts.bool b) h) = absurd (no_bool v x b r)
  typed_left (lval.Var v) t (to_variable x) r (lefts.wanted p (lefts.variable {z = z} w) h) = record { size = z; holds = inl (lefts.variable w); typed = h; own = of_left (lefts.variable w) }
  typed_left (lval.Var v) t (to_variable x) r (lefts.left p (lefts.array a) o h) = absurd (no_array v x a r)
  typed_left (lval.Var v) t (to_variable x) r (lefts.left p (lefts.number n i k) o h) = absurd (no_number v x n)
  typed_left (lval.Cell v i) t (to_cell x y) r (lefts.wanted p (lefts.cell {z = z} w k) h) = record { size = z; holds = inl (lefts.cell w k); typed = h; own = of_left (lefts.cell w k) }
  typed_left (lval.Cell v i) t (to_cell x y) r (lefts.left p l o h) = elim l [ ]
  typed_left (lval.Store a) t (to_memory x) r (lefts.wanted p (lefts.access {z = z} w k) h) = record { size = z; holds = inl (lefts.access w k); typed = h; own = of_left (lefts.access w k) }
  typed_left (lval.Store a) t (to_memory x) r (lefts.left p (lefts.access {z = z} n k) o h) = record { size = z; holds = inr (lefts.access n k); typed = h; own = own_of a t z n o }

  -- ---- the left side where it is read
  record IsReadAs (z : Size) (d : Lval) : Type 0 where
    read : Expr
    is : as_expr d ≡ Some read
    word_is : IsWord kinds in_frame (Some z) z (term_of read)
    no_number_is : is_number (term_of read) ≡ false
    size : left_size d ≡ None → size_in (term_of read) ≡ None

  read_as : (z : Size) (d : Lval) → is_rm (dest_of d) ≡ true → TakesShape kinds in_frame (a_word z) d → IsReadAs z d
  read_as z (lval.Skip at) r h = absurd (false≢true r)
  read_as z (lval.Var v) r h =
      let t = term_var (expr.Var v) v refl in
      record {
        read = expr.Var v;
        is = refl;
        word_is = subst (IsWord kinds in_frame (Some z) z) (sym t) h;
        no_number_is = ap is_number t;
        size = λ n. ap size_in t ∙ n;
      }
  read_as z (lval.Cell v i) r h =
      let t = term_cell (expr.Cell v i) v i refl in
      record {
        read = expr.Cell v i;
        is = refl;
        word_is = subst (IsWord kinds in_frame (Some z) z) (sym t) h;
        no_number_is = ap is_number t;
        size = λ n. ap size_in t ∙ n;
      }
  read_as z (lval.Store a) r h =
      let t = term_load (expr.Load a) a refl in
      record {
        read = expr.Load a;
        is = refl;
        word_is = subst (IsWord kinds in_frame (Some z) z) (sym t) h;
        no_number_is = ap is_number t;
        size = λ n. ap size_in t ∙ (place_size a ∙ (sym (access_size a) ∙ n));
      }

  -- the size that the left side says
  wanted_size : (d : Lval) (z : Size) → TakesShape kinds in_frame (a_word z) d → Wants d (word z) → left_size d ≡ Some z
  wanted_size (lval.Skip at) z h w = elim w [ ]
  wanted_size (lval.Var v) z h w = ap size_of h.0
  wanted_size (lval.Cell v i) z h w = ap size_of h.1.is
  wanted_size (lval.Store a) z h (lefts.access s k) = access_size a ∙ s

  says_own : (e : Expr) (p : place.Place) (z : Size) → IsPlainExpr kinds in_frame e → HasType (value e) p → Says (value e) z → own_size e ≡ Some z
  says_own e p z x t s = (says_law e p (all_counted kinds in_frame e x) t z).1 s

  -- ---- limits
  only_none : (d : Lval) → IsPlainLeft kinds in_frame d → only_int d ≡ None
  only_none (lval.Skip at) to_nothing = refl
  only_none (lval.Var v) (to_variable x) = ap (λ b. if b then Some v else None) (no_kind v x)
  only_none (lval.Cell v i) (to_cell x y) = refl
  only_none (lval.Store a) (to_memory x) = refl

  value_fields : (d : Lval) (o : Option BinOp) (e : Expr) (c : Option Expr) (at : Span) → IsPlainLeft kinds in_frame d → asked no_numbers (assign (d ∷ []) o e c at) ≡ [] → (value_parts no_numbers (Some d) (left_sizes (d ∷ [])) o e).fields ≡ []
  value_fields d o e c at x h =
      let p = subst (λ t. in_kinds (assigned_parts no_numbers t (d ∷ []) o e c) ≡ []) (only_none d x) h in
      let f = fields_none (assigned_parts no_numbers None (d ∷ []) o e c) p in
      let a = both_nothing (left_parts no_numbers (d ∷ [])).fields ((value_parts no_numbers (Some d) (left_sizes (d ∷ [])) o e).fields ++ (asked_if no_numbers role.Test None c).fields) f in
      (both_nothing (value_parts no_numbers (Some d) (left_sizes (d ∷ [])) o e).fields (asked_if no_numbers role.Test None c).fields a.1).0

  not_free : (b : Bool) (z : Option Size) (e : Expr) → b ≡ false → (value_as no_numbers b role.Operand z e).fields ≡ [] → (told no_numbers e).operands z ≡ []
  not_free true z e n h = absurd (true≢false n)
  not_free false z e n h = h

  and_false : (a b : Bool) → b ≡ false → (a && b) ≡ false
  and_false true b i = i
  and_false false b i = refl

  inline_two : (e : Expr) (o : BinOp) (a b : Expr) (at : Span) → out-Expr e ≡ Expr-F.Bin o a b at → (is_inline a && is_inline b) ≡ false → is_inline e ≡ false
  inline_two e o a b at s n = inline_out e ∙ (ap inline_layer s ∙ n)

  all_fit : (d : Lval) (e : Expr) (z : Size) → option_or (left_sizes (d ∷ [])) (own_size e) ≡ Some z → (value_parts no_numbers (Some d) (left_sizes (d ∷ [])) None e).fields ≡ [] → AllFit (out-Expr e)
  all_fit d e z s h = by_form (out-Expr e) refl
    where
      by_form : (l : Layer) → out-Expr e ≡ l → AllFit l
      by_form (Expr-F.Bin o a b at) q = λ n f.
          let k = not_free (is_free (to_register (Some d)) None e) (option_or (left_sizes (d ∷ [])) (own_size e)) e (and_false (to_register (Some d)) (is_inline e) (inline_two e o a b at q n)) h in
          not_negative z b ((told no_numbers b).operands (Some z)) (count_asked z e o a b at q n f (subst (λ w. (told no_numbers e).operands w ≡ []) s k))
      by_form (Expr-F.Num i at) q = tt
      by_form (Expr-F.Expr::Bool b at) q = tt
      by_form (Expr-F.Var v) q = tt
      by_form (Expr-F.Cell v i) q = tt
      by_form (Expr-F.Load a) q = tt
      by_form (Expr-F.Neg a at) q = tt
      by_form (Expr-F.Not a at) q = tt
      by_form (Expr-F.Cast y g a at) q = tt

  update_fits : (d : Lval) (o : BinOp) (e : Expr) (z : Size) → (is_shift o ≡ true → option_or (left_sizes (d ∷ [])) (own_size e) ≡ Some z) → (value_parts no_numbers (Some d) (left_sizes (d ∷ [])) (Some o) e).fields ≡ [] → CountsFit o e
  update_fits d o e z s h f =
      not_negative z e ((told no_numbers e).operands (Some z))
      (subst (λ w. counted no_numbers w e ((told no_numbers e).operands w) ≡ []) (s f)
      (sym (ap (λ b. (asked_as no_numbers (if b then role.Count else role.Operand) (option_or (left_sizes (d ∷ [])) (own_size e)) e).fields) f) ∙ h))

  -- ---- what is computed
  abbrev W : Size → Expr → Type 0
  W z w = IsWord kinds in_frame (Some z) z (term_of w)

  record IsComputed (d : Lval) (o : Option BinOp) (e : Expr) : Type 0 where
    size : Size
    rm : is_rm (dest_of d) ≡ true
    shape : TakesShape kinds in_frame (a_word size) d
    whole : Expr
    is : whole_of (Some d) o e ≡ Some whole
    value_is : W size whole
    -- where the left side says no size the value does
    sized : (left_size d ≡ Some size) ⊎ ((left_size d ≡ None) × (own_size whole ≡ Some size))

  store_none : (d : Lval) (a : Access) → d ≡ lval.Store a → (out-Access a).size ≡ None → left_size d ≡ None
  store_none d a e n = ap left_size e ∙ (access_size a ∙ n)

  computed_value : (d : Lval) (e : Expr) → IsPlainLeft kinds in_frame d → IsPlainExpr kinds in_frame e → Takes d (value e) → (value_parts no_numbers (Some d) (left_sizes (d ∷ [])) None e).fields ≡ []
      → IsOneClassed d None e → IsComputed d None e
  computed_value d e l x t f w =
      let k = typed_left d (value e) l w.to t in
      let s = word_taken kinds in_frame d k.size l k.holds w.to in
      let q = by_own k.size k.typed s k.own in
      record {
        size = k.size;
        rm = w.to;
        shape = s;
        whole = e;
        is = refl;
        value_is = value_word kinds in_frame w.asked k.size d e x k.typed (all_fit d e k.size (by_size k.size q) f) w.operands;
        sized = q;
      }
    where
      by_own : (z : Size) → HasType (value e) (word z) → TakesShape kinds in_frame (a_word z) d → OwnSize d (value e) z → (left_size d ≡ Some z) ⊎ ((left_size d ≡ None) × (own_size e ≡ Some z))
      by_own z u s (of_left w) = inl (wanted_size d z s w)
      by_own z u s (of_right a i n q) = inr (store_none d a i n, says_own e (word z) z x u q)

      by_size : (z : Size) → (left_size d ≡ Some z) ⊎ ((left_size d ≡ None) × (own_size e ≡ Some z)) → option_or (left_sizes (d ∷ [])) (own_size e) ≡ Some z
      by_size z (inl h) = left_first (left_size d) z (own_size e) h
      by_size z (inr h) = right_first (left_size d) z (own_size e) h.0 h.1

  -- ---- with an operation
  record SaysBehind (o : BinOp) (e : Expr) (z : Size) : Type 0 where
    arith : group_of o ≡ group.Arith
    says : Says (value e) z

  left_says : (a : Access) (z : Size) → (out-Access a).size ≡ None → Says (left (lval.Store a)) z → ⊥
  left_says a z n (judged.set_access s) = none_some (out-Access a).size z n s

  behind_says : (o : BinOp) (a : Access) (e : Expr) (z : Size) → (out-Access a).size ≡ None → Says (result o (lval.Store a) e) z → SaysBehind o e z
  behind_says o a e z n (judged.updated (judged.first g s)) = absurd (left_says a z n s)
  behind_says o a e z n (judged.updated (judged.second g s)) = record { arith = g; says = s }
  behind_says o a e z n (judged.updated (judged.shifted g s)) = absurd (left_says a z n s)

  operates_left : (o : BinOp) (d : Lval) (e : Expr) (p : place.Place) → HasType (result o d e) p → Operates o (left d) (value e) p
  operates_left o d e p (judged.updated k) = k

  whole_is : (o : BinOp) (d : Lval) (e r : Expr) → as_expr d ≡ Some r → whole_of (Some d) (Some o) e ≡ Some (updated_to o e r (left_span d))
  whole_is o d e r i = ap (λ x. updated x o e (left_span d)) i

  computed_update : (d : Lval) (o : BinOp) (e : Expr) → IsPlainLeft kinds in_frame d → IsPlainExpr kinds in_frame e → Takes d (result o d e) → (value_parts no_numbers (Some d) (left_sizes (d ∷ [])) (Some o) e).fields ≡ []
      → IsOneClassed d (Some o) e → IsComputed d (Some o) e
  computed_update d o e l x t f w =
      let k = typed_left d (result o d e) l w.to t in
      let s = word_taken kinds in_frame d k.size l k.holds w.to in
      let u = operates_left o d e (word k.size) k.typed in
      let r = read_as k.size d w.to s in
      record {
        size = k.size;
        rm = w.to;
        shape = s;
        whole = updated_to o e r.read (left_span d);
        is = whole_is o d e r.read r.is;
        value_is = updated_word o e r.read (left_span d) kinds in_frame w.asked k.size d r.word_is r.no_number_is x u (update_fits d o e k.size (by_size k.size s k.own) f) w.operands;
        sized = by_own k.size u s r k.own;
      }
    where
      by_size : (z : Size) → TakesShape kinds in_frame (a_word z) d → OwnSize d (result o d e) z → is_shift o ≡ true → option_or (left_sizes (d ∷ [])) (own_size e) ≡ Some z
      by_size z s (of_left w) h = left_first (left_size d) z (own_size e) (wanted_size d z s w)
      by_size z s (of_right a i n q) h =
          let b = behind_says o a e z n (subst (λ v. Says (result o v e) z) i q) in
          absurd (computed_shift o (group_computed o b.arith) h)

      by_own : (z : Size) → Operates o (left d) (value e) (word z) → TakesShape kinds in_frame (a_word z) d → (r : IsReadAs z d) → OwnSize d (result o d e) z
          → (left_size d ≡ Some z) ⊎ ((left_size d ≡ None) × (own_size (updated_to o e r.read (left_span d)) ≡ Some z))
      by_own z u s r (of_left w) = inl (wanted_size d z s w)
      by_own z u s r (of_right a i n q) =
          let b = behind_says o a e z n (subst (λ v. Says (result o v e) z) i q) in
          let v = right_type o (left d) (value e) (word z) u in
          let m = store_none d a i n in
          inr (m, updated_size o e r.read (left_span d) z (group_computed o b.arith) (r.size m) (says_own e v.0 z x v.1 b.says))

  -- ---- in each left side
  same_expr : (w e : Expr) → ◌≡◌ {A = Option Expr} (Some w) (Some e) → w ≡ e
  same_expr w e h = cc

  whole_word : (d : Lval) (o : Option BinOp) (e : Expr) (k : IsComputed d o e) (w : Expr) → whole_of (Some d) o e ≡ Some w → k.whole ≡ w
  whole_word d o e k w h = same_expr k.whole w (sym k.is ∙ h)

  stored : (a : Access) (o : Option BinOp) (e : Expr) (k : IsComputed (lval.Store a) o e) (w : Expr) → k.whole ≡ w
      → let z = option_or (left_sizes (lval.Store a ∷ [])) (own_size w) in (option_or (place_of a).spot.size z ≡ Some k.size) × IsWord kinds in_frame z k.size (term_of w)
  stored a o e k w i =
      let s : option_or (left_sizes (lval.Store a ∷ [])) (own_size w) ≡ Some k.size = by_size k.sized in
      subst (λ z. (option_or (place_of a).spot.size z ≡ Some k.size) × IsWord kinds in_frame z k.size (term_of w)) (sym s) (k.shape.0, subst (W k.size) i k.value_is)
    where
      by_size : (left_size (lval.Store a) ≡ Some k.size) ⊎ ((left_size (lval.Store a) ≡ None) × (own_size k.whole ≡ Some k.size)) → option_or (left_sizes (lval.Store a ∷ [])) (own_size w) ≡ Some k.size
      by_size (inl h) = left_first (left_size (lval.Store a)) k.size (own_size w) h
      by_size (inr h) = right_first (left_size (lval.Store a)) k.size (own_size w) h.0 (ap own_size (sym i) ∙ h.1)

  one_of : (d : Lval) (o : Option BinOp) (e : Expr) → IsComputed d o e → IsOne kinds in_frame d o e None
  one_of (lval.Skip at) o e k = absurd (false≢true k.rm)
  one_of (lval.Var v) o e k =
      (record { size = k.size; is = k.shape.0; scalar = k.shape.1; value = λ w h. subst (W k.size) (whole_word (lval.Var v) o e k w h) k.value_is }, tt)
  one_of (lval.Cell v i) o e k =
      record { size = k.size; cells = k.shape.0; array = k.shape.1; index = k.shape.2; value = λ w h. subst (W k.size) (whole_word (lval.Cell v i) o e k w h) k.value_is }
  one_of (lval.Store a) o e k = record { size = k.size; address = k.shape.1; value = λ w h. stored a o e k w (whole_word (lval.Store a) o e k w h) }

  -- ---- with a condition
  cell_not_r : (v : Var) (i : Expr) → IsPlain kinds in_frame v → is_r (cell_of v i) ≡ true → ⊥
  cell_not_r v i (plain.a_word z d k s) h = false≢true (sym (ap (λ q. is_r (cell_class q (look_of i).inline (is_index (terms_of i)))) d) ∙ h)
  cell_not_r v i (plain.a_slot z d k s) h = false≢true (sym (ap (λ q. is_r (cell_class q (look_of i).inline (is_index (terms_of i)))) d) ∙ h)
  cell_not_r v i (plain.a_flag d k s) h = false≢true (sym (ap (λ q. is_r (cell_class q (look_of i).inline (is_index (terms_of i)))) d) ∙ h)
  cell_not_r v i (plain.an_array z n d a) h = no_if is_r refl (is_index (terms_of i)) (class.Mem (Some z)) refl (sym (ap (λ q. is_r (cell_class q (look_of i).inline (is_index (terms_of i)))) d) ∙ h)

  conditional : (d : Lval) (e k : Expr) → IsPlainLeft kinds in_frame d → IsPlainExpr kinds in_frame e → IsPlainExpr kinds in_frame k → Takes d (value e) → HasType (value k) truth → IsChosen d e k
      → IsOne kinds in_frame d None e (Some k)
  conditional (lval.Skip at) e k l x y t u h = absurd (false≢true h.to)
  conditional (lval.Var v) e k l x y t u h =
      let rm = r_rm (var_class (known_of v)) h.to in
      let m = typed_left (lval.Var v) (value e) l rm t in
      let s = word_taken kinds in_frame (lval.Var v) m.size l m.holds rm in
      let value_is : W m.size e = word_there kinds in_frame e m.size x m.typed (rm_class (class_of e) h.operand) in
      (record { size = m.size; is = s.0; scalar = s.1; value = λ z i. subst (W m.size) (same_expr e z i) value_is }, flagged kinds in_frame k y u h.flags)
  conditional (lval.Cell v i) e k (to_cell x z) y w t u h = absurd (cell_not_r v i x h.to)
  conditional (lval.Store a) e k l x y t u h = absurd (no_if is_r refl (is_address (terms_of (out-Access a).at)) (class.Mem (out-Access a).size) refl h.to)

  -- ---- all of them
  takes_of : (d : Lval) (o : Option BinOp) (e : Expr) → Values (d ∷ []) o e → Takes d (value_term o d e)
  takes_of d o e (lefts.one t) = t

  by_condition : (d : Lval) (o : Option BinOp) (e : Expr) (c : Option Expr) (at : Span) → IsPrepared kinds in_frame d o e c at → IsOne kinds in_frame d o e c
  by_condition d None e None at r = one_of d None e (computed_value d e r.left r.right (takes_of d None e r.typed) (value_fields d None e None at r.left r.within) r.classes)
  by_condition d (Some o) e None at r =
      one_of d (Some o) e (computed_update d o e r.left r.right (takes_of d (Some o) e r.typed) (value_fields d (Some o) e None at r.left r.within) r.classes)
  by_condition d None e (Some k) at r = conditional d e k r.left r.right r.condition (takes_of d None e r.typed) r.typed_condition r.classes
  by_condition d (Some o) e (Some k) at r = absurd r.classes

pub assignments_are_fine : AssignmentsAreFine
assignments_are_fine kinds in_frame d o e c at r = by_condition kinds in_frame d o e c at r
