-- Assignments whose inline parts are their values.
use Rattle.std.proofs.Common.{◌≡◌, List, [], ◌∷◌, map, Option, Some, None, Bool, true, false, refl, ap, sym, ◌∙◌, subst}
use Rattle.std.specs.Prelude.{ℕ, ◌&&◌, ◌||◌, not, option_map, if◌then◌else◌}
use Rattle.std.specs.List.{list_all}
use Rattle.std.specs.Option.{option_or}
use Rattle.std.proofs.lemmas.Bool.{and_parts}
use Rattle.jz_tree.specs.Span.{Span}
use Rattle.jz_tree.specs.Operators.{carries}
use Rattle.jz_tree.specs.Memory.{Memory}
use Rattle.jz_tree.specs.Size.{Size}
use Rattle.jz_tree.specs.Size.TheVariants.{S64}
use Rattle.jz_tree.specs.declared.expr.BinOp.{BinOp}
use Rattle.jz_tree.specs.declared.expr.Expr.{Expr}
use Rattle.jz_tree.specs.declared.expr.Expr.TheOpen.{Expr-F}
use Rattle.jz_tree.specs.declared.expr.Expr.TheViews.{out-Expr}
use Rattle.jz_tree.specs.declared.stmt.Lval.{Lval}
use Rattle.jz_tree.specs.declared.stmt.Lval.TheVariants as lval
use Rattle.jz_type_names.specs.Kinds.{is_inline}
use Rattle.jz_integers.specs.Integers.{KnownNumbers}
use Rattle.jz_runs.specs.Rules.{stuck, went}
use Rattle.jz_meaning.specs.declared.value.Why.TheVariants.{Init}
use Rattle.jz_meaning.specs.Attempts.{Evaluation, stuck_at, numbers_first, and_then, defined}
use Rattle.jz_meaning.specs.States.{Value, State}
use Rattle.jz_meaning.specs.Operators.{word_at}
use Rattle.jz_meaning.specs.Values.{key_of, cell_key, size_of, index_at, MemoryAccess, store_at, ref_of, access_of, own_size, evaluated}
use Rattle.jz_meaning.specs.Assignments.{left_size, left_sizes, word_value, held_or_unset, with_value, in_cell, written, Results, all_written, as_expr, left_span, last_left, whole_of, updated_layer, updated, two_results, word_in, bool_in, truth, with_two, with_three, two_of, results_of, old_value, chosen, conditioned, assigned_whole, assigned, is_flag}
use Rattle.jz_unroll.specs.Values.{with_values, left_with_values, InlineNames, is_inline_var, has_values, left_has_values, if_has_values, splits, is_split}
use Rattle.jz_unroll.specs.ValueLaws.{StandsFor}
use Rattle.jz_unroll.proofs.Layers.{Layer}
use Rattle.jz_unroll.proofs.Standing.{put_stands}
use Rattle.jz_unroll.proofs.Parts.{not_true, out_plain, flag_so, updated_so, updated_plain, inline_some, plain_known, left_read, IfReadLeft, left_as_expr, last_values, last_known, IfKnown, whole_known}
use Rattle.jz_unroll.proofs.Valued.{parts_in, parts_layer, values_so, access_so}

-- ---- both are stuck alike, or go on to states that stand for each other with the same numbers

abbrev pub Alike : (State → State → Type 0) → Evaluation State → Evaluation State → Type 0
Alike P (stuck w) h = h ≡ stuck w
Alike P (went ns s) h = (t : State) × (h ≡ went ns t) × P s t

pub alike_then : {A : Type 0} (P : State → State → Type 0) (g : Evaluation A) (f f2 : A → Evaluation State) → ((a : A) → Alike P (f a) (f2 a)) → Alike P (and_then g f) (and_then g f2)
alike_then P (stuck w) f f2 h = refl
alike_then P (went ns a) f f2 h = by_rest (f a) (f2 a) (h a)
  where
    by_rest : (r r2 : Evaluation State) → Alike P r r2 → Alike P (numbers_first ns r) (numbers_first ns r2)
    by_rest (stuck w) r2 u = ap (numbers_first ns) u
    by_rest (went ms s) r2 u = (u.0, ap (numbers_first ns) u.1, u.2)

alike_both : (P : State → State → Type 0) (g g2 : Evaluation State) (f f2 : State → Evaluation State) → Alike P g g2 → ((s t : State) → P s t → Alike P (f s) (f2 t)) → Alike P (and_then g f) (and_then g2 f2)
alike_both P (stuck w) g2 f f2 u h = ap (λ y. and_then y f2) u
alike_both P (went ns s) g2 f f2 u h = subst (λ y. Alike P (numbers_first ns (f s)) (and_then y f2)) (sym u.1) (by_rest (f s) (f2 u.0) (h s u.0 u.2))
  where
    by_rest : (r r2 : Evaluation State) → Alike P r r2 → Alike P (numbers_first ns r) (numbers_first ns r2)
    by_rest (stuck w) r2 v = ap (numbers_first ns) v
    by_rest (went ms x) r2 v = (v.0, ap (numbers_first ns) v.1, v.2)

pub alike_if : {A : Type 0} (P : State → State → Type 0) (g g2 : Evaluation A) (f f2 : A → Evaluation State) → g2 ≡ g → ((a : A) → Alike P (f a) (f2 a)) → Alike P (and_then g f) (and_then g2 f2)
alike_if P g g2 f f2 q h = subst (λ y. Alike P (and_then g f) (and_then y f2)) (sym q) (alike_then P g f f2 h)

module _ (names : InlineNames) (e : KnownNumbers) where
  abbrev P : State → State → Type 0
  P s t = StandsFor names e s t

  abbrev W : Expr → Expr
  W x = with_values e x

  abbrev D : Lval → Lval
  D d = left_with_values e d

  -- ---- left sides

  memory_stands : (s t : State) (m : Memory) → P s t → P (record s { memory = m }) (record t { memory = m })
  memory_stands s t m h = record {
    known = h.known;
    inline = h.inline;
    differs = record { variables = h.differs.variables; memory = refl };
  }

  written_so : (z : Option Size) (d : Lval) (v : Option Value) (s t : State) → left_has_values names e d ≡ true → P s t → Alike P (written z d v s) (written z (D d) v t)
  written_so z (lval.Skip at) v s t ok h = (t, refl, h)
  written_so z (lval.Var x) v s t ok h =
      let plain = not_true (is_inline_var names x) (and_parts (not (is_inline_var names x)) _ ok).0 in let k = key_of (ref_of x) in
      alike_then P (held_or_unset (ref_of x).span (ref_of x).kind v) (λ u. went [] (with_value s k u)) (λ u. went [] (with_value t k u)) (λ u. (with_value t k u, refl, put_stands names e s t k u plain h))
  written_so z (lval.Cell x i) v s t ok h =
      let q = and_parts (not (is_inline_var names x)) _ ok in let r = ref_of x in
      alike_if P (evaluated i (Some S64) s) (evaluated (W i) (Some S64) t) (λ j. and_then (index_at r j) (λ n. in_cell r n (size_of r.kind) v s)) (λ j. and_then (index_at r j) (λ n. in_cell r n (size_of r.kind) v t))
      ((values_so names e s t h.known h.differs i q.1).1 (Some S64))
      (λ j. alike_then P (index_at r j) (λ n. in_cell r n (size_of r.kind) v s) (λ n. in_cell r n (size_of r.kind) v t) (λ n. by_cell n (size_of r.kind) v (not_true (is_inline_var names x) q.0)))
    where
      by_cell : (n : ℕ) (y : Option Size) (v : Option Value) → is_inline_var names x ≡ false → Alike P (in_cell (ref_of x) n y v s) (in_cell (ref_of x) n y v t)
      by_cell n None v plain = refl
      by_cell n (Some y) None plain = refl
      by_cell n (Some y) (Some u) plain =
          let k = cell_key (ref_of x) n in
          alike_then P (word_value (ref_of x).span y u) (λ w. went [] (with_value s k (Some w))) (λ w. went [] (with_value t k (Some w))) (λ w. (with_value t k (Some w), refl, put_stands names e s t k (Some w) plain h))
  written_so z (lval.Store a) v s t ok h =
      let p = access_of a in let l = access_so names e s t h.known h.differs a ok in
      subst (λ (m : MemoryAccess). Alike P (written z (lval.Store a) v s) (and_then (m.at t) (λ n. and_then (store_at m z n v t.memory) (λ y. went [] (record t { memory = y }))))) (sym l.1)
      (subst (λ g. Alike P (written z (lval.Store a) v s) (and_then g (λ n. and_then (store_at p z n v t.memory) (λ y. went [] (record t { memory = y }))))) (sym l.2)
      (subst (λ m. Alike P (written z (lval.Store a) v s) (and_then (p.at s) (λ n. and_then (store_at p z n v m) (λ y. went [] (record t { memory = y }))))) (sym h.differs.memory)
      (alike_then P (p.at s) (λ n. and_then (store_at p z n v s.memory) (λ y. went [] (record s { memory = y }))) (λ n. and_then (store_at p z n v s.memory) (λ y. went [] (record t { memory = y })))
      (λ n. alike_then P (store_at p z n v s.memory) (λ y. went [] (record s { memory = y })) (λ y. went [] (record t { memory = y })) (λ y. (record t { memory = y }, refl, memory_stands s t y h))))))

  pub all_written_so : (at : Span) (z : Option Size) (ds : List Lval) (vs : Results) (s t : State) → list_all (left_has_values names e) ds ≡ true → P s t → Alike P (all_written at z ds vs s) (all_written at z (map (left_with_values e) ds) vs t)
  all_written_so at z [] [] s t ok h = (t, refl, h)
  all_written_so at z [] (v ∷ vs) s t ok h = refl
  all_written_so at z (d ∷ ds) [] s t ok h = refl
  all_written_so at z (d ∷ ds) (v ∷ vs) s t ok h =
      let q = and_parts (left_has_values names e d) _ ok in
      alike_both P (written z d v s) (written z (D d) v t) (λ x. all_written at z ds vs x) (λ x. all_written at z (map (left_with_values e) ds) vs x) (written_so z d v s t q.0 h) (λ x y r. all_written_so at z ds vs x y q.1 r)

  module _ (s t : State) (h : StandsFor names e s t) where
    pub value_so : (x : Expr) (z : Option Size) → has_values names e x ≡ true → evaluated (with_values e x) z t ≡ evaluated x z s
    value_so x z ok = (values_so names e s t h.known h.differs x ok).1 z

    pub size_so : (x : Expr) → has_values names e x ≡ true → own_size (with_values e x) ≡ own_size x
    size_so x ok = (values_so names e s t h.known h.differs x ok).0

    pub word_so : (at : Span) (z : Size) (x : Expr) → has_values names e x ≡ true → word_in at z (with_values e x) t ≡ word_in at z x s
    word_so at z x ok = ap (λ g. and_then g (word_at at z)) (value_so x (Some z) ok)

    pub bool_so : (at : Span) (x : Expr) → has_values names e x ≡ true → bool_in at (with_values e x) t ≡ bool_in at x s
    bool_so at x ok = ap (λ g. and_then g (truth at)) (value_so x None ok)

    -- ---- two results

    with_two_so : (op : BinOp) (a b : Expr) (at : Span) (z : Size) → has_values names e a ≡ true → has_values names e b ≡ true → with_two op (W a) (W b) at z t ≡ with_two op a b at z s
    with_two_so op a b at z p q =
        ap (λ g. and_then g (λ x. and_then (word_in at z (W b) t) (λ y. two_results op at z x y false))) (word_so at z a p)
        ∙ ap (and_then (word_in at z a s)) (λ i x. and_then (word_so at z b q i) (λ y. two_results op at z x y false))

    three_so : (op : BinOp) (y : Layer) (l l2 c : Expr) (at : Span) (z : Size) → parts_layer names e y ≡ true → has_values names e c ≡ true → with_three op (parts_in e y) l2 (W c) at z t ≡ with_three op y l c at z s
    three_so op (Expr-F.Num n p) l l2 c at z ok oc = refl
    three_so op (Expr-F.Expr::Bool b p) l l2 c at z ok oc = refl
    three_so op (Expr-F.Var v) l l2 c at z ok oc = refl
    three_so op (Expr-F.Cell v i) l l2 c at z ok oc = refl
    three_so op (Expr-F.Load a) l l2 c at z ok oc = refl
    three_so op (Expr-F.Neg a p) l l2 c at z ok oc = refl
    three_so op (Expr-F.Not a p) l l2 c at z ok oc = refl
    three_so op (Expr-F.Cast y w a p) l l2 c at z ok oc = refl
    three_so op (Expr-F.Bin p a b inner) l l2 c at z ok oc =
        let k = and_parts (has_values names e a) _ ok in
        ap (λ (g : Evaluation Results). if carries op p then g else stuck_at at Init)
        (ap (λ g. and_then g (λ x. and_then (word_in at z (W b) t) (λ y. and_then (bool_in at (W c) t) (two_results op at z x y)))) (word_so at z a k.0)
        ∙ ap (and_then (word_in at z a s)) (λ i x. and_then (word_so at z b k.1 i) (λ y. and_then (bool_so at c oc i) (two_results op at z x y))))

    two_so : (y : Layer) (at : Span) (z : Option Size) → parts_layer names e y ≡ true → splits y ≡ true → two_of (parts_in e y) at z t ≡ two_of y at z s
    two_so (Expr-F.Num n p) at z ok sp = refl
    two_so (Expr-F.Expr::Bool b p) at z ok sp = refl
    two_so (Expr-F.Var v) at z ok sp = refl
    two_so (Expr-F.Cell v i) at z ok sp = refl
    two_so (Expr-F.Load a) at z ok sp = refl
    two_so (Expr-F.Neg a p) at z ok sp = refl
    two_so (Expr-F.Not a p) at z ok sp = refl
    two_so (Expr-F.Cast y w a p) at z ok sp = refl
    two_so (Expr-F.Bin op a b inner) at None ok sp = refl
    two_so (Expr-F.Bin op a b inner) at (Some z) ok sp =
        ap (λ f. if f then with_three op (out-Expr (W a)) (W a) (W b) inner z t else with_two op (W a) (W b) inner z t) (flag_so e b) ∙ by_flag (is_flag b) sp
      where
        k : (has_values names e a ≡ true) × (has_values names e b ≡ true)
        k = and_parts (has_values names e a) _ ok

        by_flag : (f : Bool) → (not f || not (is_inline a)) ≡ true → (if f then with_three op (out-Expr (W a)) (W a) (W b) inner z t else with_two op (W a) (W b) inner z t) ≡ (if f then with_three op (out-Expr a) a b inner z s else with_two op a b inner z s)
        by_flag true q =
            let plain = not_true (is_inline a) q in
            ap (λ y. with_three op y (W a) (W b) inner z t) (out_plain e a plain) ∙ three_so op (out-Expr a) a (W a) b inner z (plain_known names e a plain k.0) k.1
        by_flag false q = with_two_so op a b inner z k.0 k.1

    -- ---- right sides

    results_so : (to : List Lval) (x : Expr) (at : Span) (z : Option Size) → has_values names e x ≡ true → is_split to (Some x) ≡ true → results_of (map (left_with_values e) to) (W x) at z t ≡ results_of to x at z s
    results_so [] x at z ok sp = refl
    results_so (d ∷ []) x at z ok sp = ap (λ g. and_then g (λ v. went [] (Some v ∷ []))) (value_so x z ok)
    results_so (d ∷ f ∷ []) x at z ok sp =
        let q = and_parts (not (is_inline x)) _ sp in let plain = not_true (is_inline x) q.0 in
        ap (λ y. two_of y at z t) (out_plain e x plain) ∙ two_so (out-Expr x) at z (plain_known names e x plain ok) q.1
    results_so (d ∷ f ∷ g ∷ ds) x at z ok sp = refl

    left_size_so : (d : Lval) → left_has_values names e d ≡ true → left_size (left_with_values e d) ≡ left_size d
    left_size_so (lval.Skip at) ok = refl
    left_size_so (lval.Var v) ok = refl
    left_size_so (lval.Cell v i) ok = refl
    left_size_so (lval.Store a) ok = ap (λ (p : MemoryAccess). p.size) (access_so names e s t h.known h.differs a ok).1

    left_span_so : (d : Lval) → left_has_values names e d ≡ true → left_span (left_with_values e d) ≡ left_span d
    left_span_so (lval.Skip at) ok = refl
    left_span_so (lval.Var v) ok = refl
    left_span_so (lval.Cell v i) ok = refl
    left_span_so (lval.Store a) ok = ap (λ (p : MemoryAccess). p.span) (access_so names e s t h.known h.differs a ok).1

    pub left_sizes_so : (ds : List Lval) → list_all (left_has_values names e) ds ≡ true → left_sizes (map (left_with_values e) ds) ≡ left_sizes ds
    left_sizes_so [] ok = refl
    left_sizes_so (d ∷ ds) ok =
        let q = and_parts (left_has_values names e d) _ ok in
        ap (λ y. option_or y (left_sizes (map (left_with_values e) ds))) (left_size_so d q.0) ∙ ap (option_or (left_size d)) (left_sizes_so ds q.1)

    old_so : (to : List Lval) (at : Span) → list_all (left_has_values names e) to ≡ true → old_value (map (left_with_values e) to) at t ≡ old_value to at s
    old_so [] at ok = refl
    old_so (d ∷ f ∷ ds) at ok = refl
    old_so (d ∷ []) at ok =
        let q = (and_parts (left_has_values names e d) _ ok).0 in
        ap (λ y. and_then (defined at y) (λ x. evaluated x (left_size (D d)) t)) (left_as_expr names e d q)
        ∙ ap (λ y. and_then (defined at (option_map (with_values e) (as_expr d))) (λ x. evaluated x y t)) (left_size_so d q) ∙ by_expr (as_expr d) (left_read names e d q)
      where
        by_expr : (a : Option Expr) → IfReadLeft names e a → and_then (defined at (option_map (with_values e) a)) (λ x. evaluated x (left_size d) t) ≡ and_then (defined at a) (λ x. evaluated x (left_size d) s)
        by_expr None r = refl
        by_expr (Some a) r = ap (numbers_first []) (value_so a (left_size d) r.known)

    conditioned_so : (to : List Lval) (c : Option Expr) (at : Span) (vs : Results) → list_all (left_has_values names e) to ≡ true → if_has_values names e c ≡ true → conditioned (map (left_with_values e) to) (option_map (with_values e) c) at vs t ≡ conditioned to c at vs s
    conditioned_so to None at vs ok oc = refl
    conditioned_so to (Some c) at vs ok oc =
        ap (λ g. and_then g (λ b. and_then (old_value (map (left_with_values e) to) at t) (λ old. went [] (chosen b vs old)))) (bool_so at c oc)
        ∙ ap (and_then (bool_in at c s)) (λ i b. and_then (old_so to at ok i) (λ old. went [] (chosen b vs old)))

    -- ---- the whole right side

    whole_last : (d : Option Lval) (o : Option BinOp) (x : Expr) → ((f : Lval) → d ≡ Some f → left_has_values names e f ≡ true) → has_values names e x ≡ true → whole_of (option_map (left_with_values e) d) o (W x) ≡ option_map (with_values e) (whole_of d o x)
    whole_last None None x l ok = refl
    whole_last (Some d) None x l ok = refl
    whole_last None (Some op) x l ok = refl
    whole_last (Some d) (Some op) x l ok =
        let q = l d refl in
        ap (λ k. updated k op (W x) (left_span (D d))) (left_as_expr names e d q) ∙ ap (updated (option_map (with_values e) (as_expr d)) op (W x)) (left_span_so d q) ∙ by_expr (as_expr d) (left_read names e d q)
      where
        by_inline : (a : Expr) → is_inline a ≡ false → (b : Bool) → is_inline x ≡ b → updated_layer op (W a) (W x) (left_span d) (out-Expr (W x)) ≡ W (updated_layer op a x (left_span d) (out-Expr x))
        by_inline a plain true q = updated_so e op a (left_span d) plain x q (inline_some names e x q ok).1
        by_inline a plain false q = updated_plain e op a (left_span d) plain x q

        by_expr : (a : Option Expr) → IfReadLeft names e a → updated (option_map (with_values e) a) op (W x) (left_span d) ≡ option_map (with_values e) (updated a op x (left_span d))
        by_expr None r = refl
        by_expr (Some a) r = ap Some (by_inline a r.plain (is_inline x) refl)

    whole_so : (to : List Lval) (o : Option BinOp) (x : Expr) → list_all (left_has_values names e) to ≡ true → has_values names e x ≡ true → whole_of (last_left (map (left_with_values e) to)) o (W x) ≡ option_map (with_values e) (whole_of (last_left to) o x)
    whole_so to o x l ok = ap (λ d. whole_of d o (W x)) (last_values names e to) ∙ whole_last (last_left to) o x (last_known names e to l) ok

    -- an assignment whose inline parts are their values
    pub assigned_so : (to : List Lval) (o : Option BinOp) (x : Expr) (c : Option Expr) (at : Span) → list_all (left_has_values names e) to ≡ true → has_values names e x ≡ true → if_has_values names e c ≡ true → is_split to (whole_of (last_left to) o x) ≡ true
        → Alike (StandsFor names e) (assigned to o x c at s) (assigned (map (left_with_values e) to) o (with_values e x) (option_map (with_values e) c) at t)
    assigned_so to o x c at l ok oc sp =
        subst (λ k. Alike P (assigned to o x c at s) (assigned_whole (map (left_with_values e) to) k (option_map (with_values e) c) at t)) (sym (whole_so to o x l ok))
        (by_whole (whole_of (last_left to) o x) (whole_known names e (last_left to) o x (last_known names e to l) ok) sp)
      where
        by_whole : (k : Option Expr) → IfKnown names e k → is_split to k ≡ true → Alike P (assigned_whole to k c at s) (assigned_whole (map (left_with_values e) to) (option_map (with_values e) k) (option_map (with_values e) c) at t)
        by_whole None r q = refl
        by_whole (Some w) r q =
            let z = option_or (left_sizes to) (own_size w) in
            let z2 : option_or (left_sizes (map (left_with_values e) to)) (own_size (W w)) ≡ z = ap (λ y. option_or y (own_size (W w))) (left_sizes_so to l) ∙ ap (option_or (left_sizes to)) (size_so w r) in
            subst (λ y. Alike P (assigned_whole to (Some w) c at s) (and_then (results_of (map (left_with_values e) to) (W w) at y t) (λ vs. and_then (conditioned (map (left_with_values e) to) (option_map (with_values e) c) at vs t) (λ us. all_written at y (map (left_with_values e) to) us t)))) (sym z2)
            (alike_if P (results_of to w at z s) (results_of (map (left_with_values e) to) (W w) at z t) (λ vs. and_then (conditioned to c at vs s) (λ us. all_written at z to us s)) (λ vs. and_then (conditioned (map (left_with_values e) to) (option_map (with_values e) c) at vs t) (λ us. all_written at z (map (left_with_values e) to) us t)) (results_so to w at z r q)
            (λ vs. alike_if P (conditioned to c at vs s) (conditioned (map (left_with_values e) to) (option_map (with_values e) c) at vs t) (λ us. all_written at z to us s) (λ us. all_written at z (map (left_with_values e) to) us t) (conditioned_so to c at vs l oc)
            (λ us. all_written_so at z to us s t l h)))
