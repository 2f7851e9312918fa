-- A statement with a row has one behind each pass.
use Rattle.std.proofs.Common.{◌≡◌, inl, inr, ℕ, List, map, Bool, true, false, not, Option, Some, None, refl, sym, ap, ◌∙◌, subst, if◌then◌else◌}
use Rattle.std.specs.Prelude.{◌⊎◌, All, option_map}
use Rattle.std.proofs.lemmas.Bool.{false≢true, true≢false, and_parts}
use Rattle.jz_tree.specs.declared.expr.BinOp.{BinOp}
use Rattle.jz_tree.specs.declared.expr.Expr.{Expr}
use Rattle.jz_tree.specs.declared.expr.Expr.TheVariants as expr
use Rattle.jz_tree.specs.declared.expr.Var.{Var}
use Rattle.jz_tree.specs.declared.expr.Expr.TheOpen.{Expr-F}
use Rattle.jz_tree.specs.declared.expr.Expr.TheViews.{out-Expr}
use Rattle.jz_tree.specs.declared.stmt.Lval.{Lval}
use Rattle.jz_tree.specs.declared.stmt.Lval.TheVariants as lval
use Rattle.jz_type_names.specs.Kinds.{Known, is_inline_int, is_register_array, is_inline}
use Rattle.jz_type_names.specs.Parts.{span_of}
use Rattle.jz_integers.specs.Integers.{KnownNumbers, inline_value}
use Rattle.jz_select.specs.declared.class.Class.TheVariants as class
use Rattle.jz_select.specs.Trees.{Named, named_variable, names_eq, Tree, Number, Truth, Name, CellOf, Loaded, Minus, Opposite, CastTo, Both, tree_of}
use Rattle.jz_select.specs.Places.{Answers}
use Rattle.jz_select.specs.Operands.{class_of, dest_of, operand_of}
use Rattle.jz_select.specs.Rows.{is_r}
use Rattle.jz_select.specs.Shapes.{whichever, has_flags, value_layer}
use Rattle.jz_judgement.specs.HasType.{Layer}
use Rattle.jz_meaning.specs.declared.access.Kind.{Kind}
use Rattle.jz_unroll.specs.Values.{with_values, left_with_values, InlineNames, is_inline_var, has_values, left_has_values}
use Rattle.jz_unroll.proofs.InlineParts.{inline_var}
use Rattle.jz_unroll.proofs.Valued.{parts_layer}
use Rattle.jz_unroll.proofs.Parts.{not_true, inline_whole, plain_known}
use Rattle.jz_arrays.specs.Cells.{with_scalars, left_with_scalars}
use Rattle.jz_inline.specs.Names.{Names, expr_in, lval_in}
use Rattle.jz_row_laws.proofs.Copied.{no_free}
use Rattle.jz_kept_types.proofs.Valuing as valuing
use Rattle.jz_kept_classes.specs.Classes.{KeepsClass, the_same}
use Rattle.jz_kept_classes.proofs.Formed.{formed}
use Rattle.jz_kept_classes.proofs.Kept.{KeptWhole, Becomes, Turned, all_kept}
use Rattle.jz_kept_classes.proofs.Turned.{values_turned, scalars_turned, values_keep_classes, scalars_keep_classes}
use Rattle.jz_row_classes.proofs.PairRows.{pair_fits}
use Rattle.jz_row_classes.proofs.ValueRows.{found}
use Rattle.jz_kept_rows.proofs.Values.{inline_number, class_at}
use Rattle.jz_kept_rows.proofs.Closed.{inline_row, inline_no_pair}
use Rattle.jz_kept_rows.proofs.Operations.{flags_stay}
use Rattle.jz_copied_classes.proofs.Copied.{copies_turned, copied_left}
use Rattle.jz_copied_variables.specs.Variables.{IsOver, over, IsOverLayer, o_number, o_truth, o_variable, o_cell, o_load, o_minus, o_denial, o_cast, o_two, LeftOver}
use Rattle.jz_meetings.specs.Meetings.{tree_value, place_of}
use Rattle.jz_meetings.specs.Turns.{Turn, OverTree}
use Rattle.jz_meetings.specs.KeptMeetings.{pulled, IsSet, IsSetPlace}
use Rattle.jz_meetings.proofs.OfTrees.{tree_form, tree_out}
use Rattle.jz_meetings.proofs.Kept.{by_place}
use Rattle.jz_kept_patterns.specs.Passes as passes
use Rattle.jz_kept_patterns.specs.Passes.{name_in, renaming, wording}
use Rattle.jz_kept_patterns.specs.KeptPatterns.{no_registers, AreTold, LeftNumbered, Whatever, AreKinds, CopiesKeepPatterns, ValuesKeepPatterns, ScalarsKeepPatterns, CopiesKeepPairs, ValuesKeepPairs, ScalarsKeepPairs, CopiesKeepInstructions, ValuesKeepInstructions, ScalarsKeepInstructions}
use Rattle.jz_kept_patterns.proofs.CopiedTrees.{rename_turn, copied_tree, copied_place}
use Rattle.jz_kept_patterns.proofs.ValuedTrees.{value_turn, valued_tree, valued_place}
use Rattle.jz_kept_patterns.proofs.ScaledTrees.{word_turn, becomes_word, of_register, scaled_tree, scaled_place}
use Rattle.jz_kept_patterns.proofs.Operands.{KeptOperand, operand_by, KeptBeside, beside_by, PartsOf, Splits, layer_meets, update_meets}
use Rattle.jz_kept_patterns.proofs.Matching.{inline_copy, matches_kept, choice_kept}
use Rattle.jz_kept_patterns.proofs.PairMatching.{pair_kept}
use Rattle.jz_kept_patterns.proofs.Instructing.{instructions_kept}
use Rattle.jz_kept_patterns.proofs.Selecting.{AlwaysMatches, matched_always, always_matched, PairAlways, pair_always, always_pair, InstructionAlways, instruction_always, always_instruction}

-- ---- one statement, by its parts
module _ (T : Expr → Expr) (L : Lval → Lval) (K : Turned T) (Part : Expr → Type 0) (S : Splits T Part) where
  abbrev C : (e : Expr) → KeepsClass (class_of e) (class_of (T e))
  C = class_at T K

  module _ (d : Lval) (F : KeepsClass (dest_of d) (dest_of (L d))) (pull : Answers → Answers) (M : (B : Answers) (x : Expr) → Part x → KeptOperand (is_r (dest_of d)) (operand_of (pull B) d x) (operand_of B (L d) (T x))) where
    pub always_kept : (o : Option BinOp) (e : Expr) (c : Option Expr) → Part e → AlwaysMatches d o e c → AlwaysMatches (L d) o (T e) (option_map T c)
    always_kept None e None p h B =
        elim (S e p) [
          | inl k ↦ let f = found (dest_of d) (class_of e) (value_layer (whichever (pull B)) d (out-Expr e)) (h (pull B)) in
              let r = inline_row (whichever (pull B)) d e k.inline f.1 in
              inline_copy (dest_of d) (class_of e) (dest_of (L d)) (class_of (T e)) F (C e) (value_layer (whichever B) (L d) (out-Expr (T e))) f.0 (inline_number e k.inline r)
          | inr t ↦ matches_kept (dest_of d) (class_of e) (dest_of (L d)) (class_of (T e)) F (C e) (layer_meets T Part S C (pull B) B d (L d) (M B) t.0 t.1) (h (pull B))
        ]
    always_kept (Some o) e None p h B =
        matches_kept (dest_of d) class.Other (dest_of (L d)) class.Other F the_same (update_meets T Part S C (pull B) B d (L d) (M B) F o e p) (h (pull B))
    always_kept None e (Some c) p h B =
        choice_kept (dest_of d) (class_of e) (dest_of (L d)) (class_of (T e)) (has_flags c) (has_flags (T c)) F (C e) (λ t. flags_stay T K c t) (h (pull B))
    always_kept (Some o) e (Some c) p h B = absurd (no_free (h (pull B)))

  -- of two left sides the last one is the destination
  module _ (f d : Lval) (X : KeepsClass (dest_of f) (dest_of (L f))) (F : KeepsClass (dest_of d) (dest_of (L d))) (pull : Answers → Answers)
      (M : (B : Answers) (x : Expr) → Part x → KeptOperand (is_r (dest_of d)) (operand_of (pull B) d x) (operand_of B (L d) (T x))) where
    pub pairs_kept : (o : Option BinOp) (e : Expr) → Part e → PairAlways f d o e → PairAlways (L f) (L d) o (T e)
    pairs_kept None e p h B =
        elim (S e p) [
          | inl k ↦ absurd (inline_no_pair (whichever (pull B)) (dest_of f) (dest_of d) d e k.inline (pair_fits (dest_of f) (dest_of d) (class_of e) (value_layer (whichever (pull B)) d (out-Expr e)) (h (pull B))))
          | inr t ↦ pair_kept (dest_of f) (dest_of (L f)) (dest_of d) (class_of e) (dest_of (L d)) (class_of (T e)) X F (C e) (layer_meets T Part S C (pull B) B d (L d) (M B) t.0 t.1) (h (pull B))
        ]
    pairs_kept (Some o) e p h B =
        pair_kept (dest_of f) (dest_of (L f)) (dest_of d) class.Other (dest_of (L d)) class.Other X F the_same (update_meets T Part S C (pull B) B d (L d) (M B) F o e p) (h (pull B))

no_cells : (v : Named) (n : ℕ) → false ≡ true → no_registers v ≡ true
no_cells v n e = absurd (false≢true e)

-- ---- copies
module _ (names : Names) (P : Named → Type 0) where
  abbrev pub CopyPart : Expr → Type 0
  CopyPart e = OverTree P no_registers (tree_of e)

  copy_parts : (x : Layer) → OverTree P no_registers (tree_form x) → PartsOf (expr_in names) CopyPart x
  copy_parts (Expr-F.Num n at) o = tt
  copy_parts (Expr-F.Expr::Bool b at) o = tt
  copy_parts (Expr-F.Var v) o = tt
  copy_parts (Expr-F.Cell v i) o = tt
  copy_parts (Expr-F.Load a) o = tt
  copy_parts (Expr-F.Neg a at) o = o
  copy_parts (Expr-F.Not a at) o = o
  copy_parts (Expr-F.Cast z s a at) o = tt
  copy_parts (Expr-F.Bin o a b at) h = h

  pub copy_splits : Splits (expr_in names) CopyPart
  copy_splits e p =
      elim (copies_turned names e (formed e)) [ inl k ↦ inl k | inr t ↦ inr (t, copy_parts (out-Expr e) (subst (OverTree P no_registers) (tree_out e) p)) ]

  module _ (d : Lval) (set : IsSetPlace (renaming (name_in names)) P no_registers (place_of d)) where
    abbrev R : Turn
    R = renaming (name_in names)

    copy_operand : (B : Answers) (x : Expr) → CopyPart x → KeptOperand (is_r (dest_of d)) (operand_of (pulled R B) d x) (operand_of B (lval_in names d) (expr_in names x))
    copy_operand B x p =
        operand_by R B d (lval_in names d) x (expr_in names x) (class_at (expr_in names) (copies_turned names) x) (copied_place names d) (copied_tree names x)
        (by_place R (rename_turn (name_in names)) B P no_registers no_cells (place_of d) (tree_of x) set p)

    pub copy_always : (o : Option BinOp) (e : Expr) (c : Option Expr) → OverTree P no_registers (tree_of e) → AlwaysMatches d o e c → AlwaysMatches (lval_in names d) o (expr_in names e) (option_map (expr_in names) c)
    copy_always o e c p h =
        always_kept (expr_in names) (lval_in names) (copies_turned names) CopyPart copy_splits d (copied_left names d) (pulled R) copy_operand o e c p h

    pub copy_pair : (f : Lval) (o : Option BinOp) (e : Expr) → OverTree P no_registers (tree_of e) → PairAlways f d o e → PairAlways (lval_in names f) (lval_in names d) o (expr_in names e)
    copy_pair f o e p h =
        pairs_kept (expr_in names) (lval_in names) (copies_turned names) CopyPart copy_splits f d (copied_left names f) (copied_left names d) (pulled R) copy_operand o e p h

  -- ---- intrinsics
  abbrev pub CopyLeft : Lval → Type 0
  CopyLeft d = IsSetPlace (renaming (name_in names)) P no_registers (place_of d)

  copy_beside : (d : Lval) → CopyLeft d → (B : Answers) (x : Expr) → CopyPart x → KeptBeside d (operand_of (pulled (renaming (name_in names)) B) d x) (operand_of B (lval_in names d) (expr_in names x))
  copy_beside d set B x p =
      beside_by (renaming (name_in names)) B (lval_in names d) x (expr_in names x) d (class_at (expr_in names) (copies_turned names) x) (copied_place names d) (copied_tree names x)
      (by_place (renaming (name_in names)) (rename_turn (name_in names)) B P no_registers no_cells (place_of d) (tree_of x) set p)

  pub copy_instruction : (to : List Lval) (n : List ℕ) (args : List Expr) → All CopyLeft to → All CopyPart args → InstructionAlways to n args → InstructionAlways (map (lval_in names) to) n (map (expr_in names) args)
  copy_instruction to n args l p h =
      instructions_kept (expr_in names) (lval_in names) (copies_turned names) (copied_left names) CopyPart CopyLeft (pulled (renaming (name_in names))) copy_beside to n args l p h

pub copies_keep_instructions : CopiesKeepInstructions
copies_keep_instructions names read to n args at l p m =
    always_instruction (map (lval_in names) to) n (map (expr_in names) args) at (copy_instruction names (λ v. read v ≡ true) to n args l p (instruction_always to n args at m))

pub copies_keep_pairs : CopiesKeepPairs
copies_keep_pairs names read f d o e set p m =
    always_pair (lval_in names f) (lval_in names d) o (expr_in names e) (copy_pair names (λ v. read v ≡ true) d set f o e p (pair_always f d o e m))

pub copies_keep_patterns : CopiesKeepPatterns
copies_keep_patterns names read d o e c set p m =
    always_matched (lval_in names d) o (expr_in names e) (option_map (expr_in names) c) (copy_always names (λ v. read v ≡ true) d set o e c p (matched_always d o e c m))

-- ---- names of variables
abbrev pub Of : (Var → Type 0) → Named → Type 0
Of P n = (v : Var) × (n ≡ named_variable v) × P v

pub whatever : (t : Tree) → OverTree Whatever no_registers t
whatever (Number n) = tt
whatever (Truth b) = tt
whatever (Name v) = tt
whatever (CellOf v j) = (tt, (λ r. absurd (false≢true r)), whatever j)
whatever (Loaded a) = whatever a
whatever (Minus a) = whatever a
whatever (Opposite a) = whatever a
whatever (CastTo z s a) = whatever a
whatever (Both o a b) = (whatever a, whatever b)

module _ (P : Var → Type 0) (registers : Named → Bool) where
  mutual
    pub over_tree : {e : Expr} → IsOver P e → OverTree Whatever registers (tree_of e) → OverTree (Of P) registers (tree_of e)
    over_tree {e = e} (over h) o =
        subst (OverTree (Of P) registers) (sym (tree_out e)) (over_layer h (subst (OverTree Whatever registers) (tree_out e) o))

    over_layer : {x : Layer} → IsOverLayer P x → OverTree Whatever registers (tree_form x) → OverTree (Of P) registers (tree_form x)
    over_layer o_number o = tt
    over_layer o_truth o = tt
    over_layer (o_variable {v = v} p n) o = (v, refl, p)
    over_layer (o_cell {v = v} p y r h) o = ((v, refl, p), o.1, over_tree h o.2)
    over_layer (o_load h) o = over_tree h o
    over_layer (o_minus h) o = over_tree h o
    over_layer (o_denial h) o = over_tree h o
    over_layer (o_cast h) o = over_tree h o
    over_layer (o_two h l) o = (over_tree h o.0, over_tree l o.1)

-- a destination that keeps its name
module _ (t : Turn) (P : Var → Type 0) (same : (v : Named) → t.name v ≡ v) (entire : (v : Var) → P v → (named_variable v).cell ≡ None) where
  pub set_itself : (v : Var) → P v → IsSet t (Of P) (named_variable v)
  set_itself v p = record {
    entire = (entire v p, ap (λ (n : Named). n.cell) (same (named_variable v)) ∙ entire v p);
    others = λ n q. (let c : n.cell ≡ None = ap (λ (n : Named). n.cell) q.1 ∙ entire q.0 q.2 in (c, ap (λ (n : Named). n.cell) (same n) ∙ c));
    apart = λ n q e. sym (ap (λ x. names_eq x (t.name (named_variable v))) (same n) ∙ ap (names_eq n) (same (named_variable v))) ∙ e;
  }

-- ---- values
module _ (names : InlineNames) (k : KnownNumbers) (P : Var → Type 0) (known : Named → Known) (told : AreTold P known) where
  abbrev I : Named → Bool
  I v = is_inline_int (known v)

  abbrev V : Turn
  V = passes.valuing I k

  abbrev ValuePart : Expr → Type 0
  ValuePart e = IsOver P e × (has_values names k e ≡ true)

  value_parts : {x : Layer} → IsOverLayer P x → parts_layer names k x ≡ true → PartsOf (with_values k) ValuePart x
  value_parts o_number v = tt
  value_parts o_truth v = tt
  value_parts (o_variable p n) v = tt
  value_parts (o_cell p y r h) v = tt
  value_parts (o_load h) v = tt
  value_parts (o_minus h) v = (h, v)
  value_parts (o_denial h) v = (h, v)
  value_parts (o_cast h) v = tt
  value_parts (o_two {a = a} {b = b} h l) v = let s = and_parts (has_values names k a) (has_values names k b) v in ((h, s.0), (l, s.1))

  over_out : {e : Expr} → IsOver P e → IsOverLayer P (out-Expr e)
  over_out (over h) = h

  splits_by : (e : Expr) → ValuePart e → (b : Bool) → is_inline e ≡ b → KeptWhole e (with_values k e) ⊎ (Becomes (with_values k) (out-Expr e) (out-Expr (with_values k e)) × PartsOf (with_values k) ValuePart (out-Expr e))
  splits_by e p true q =
      inl (record {
        kept = all_kept (with_values k) (values_turned k) e (formed e);
        inline = q;
        stays = ap is_inline (inline_whole k e q) ∙ valuing.constant_inline e (span_of e) (inline_value k e) q;
      })
  splits_by e p false q =
      elim (values_turned k e (formed e)) [
        | inl w ↦ absurd (true≢false (sym w.inline ∙ q))
        | inr t ↦ inr (t, value_parts (over_out p.0) (plain_known names k e q p.1))
      ]

  value_splits : Splits (with_values k) ValuePart
  value_splits e p = splits_by e p (is_inline e) refl

  left_set : (d : Lval) → LeftOver P d → left_has_values names k d ≡ true → IsSetPlace V (Of P) no_registers (place_of d)
  left_set (lval.Skip at) h v = tt
  left_set (lval.Var w) h v =
      let n : I (named_variable w) ≡ false = ap is_inline_int (told.stored w h.0) ∙ (sym (inline_var w) ∙ not_true (is_inline (expr.Var w)) (and_parts (not (is_inline_var names w)) (not (is_inline (expr.Var w))) v).1) in
      (set_itself V P (λ x. refl) told.entire w h.0, ap (λ b. if b then passes.constant_tree (tree_value k (Name (named_variable w))) else None) n)
  left_set (lval.Cell w i) h v = (set_itself V P (λ x. refl) told.entire w h.0, λ r. absurd (false≢true r))
  left_set (lval.Store a) h v = tt

  value_operand : (d : Lval) → LeftOver P d → left_has_values names k d ≡ true → (B : Answers) (x : Expr) → ValuePart x
      → KeptOperand (is_r (dest_of d)) (operand_of (pulled V B) d x) (operand_of B (left_with_values k d) (with_values k x))
  value_operand d l v B x p =
      operand_by V B d (left_with_values k d) x (with_values k x) (class_at (with_values k) (values_turned k) x) (valued_place names k known P told d l v) (valued_tree names k known P told p.0 p.1)
      (by_place V (value_turn I k) B (Of P) no_registers no_cells (place_of d) (tree_of x) (left_set d l v) (over_tree P no_registers p.0 (whatever (tree_of x))))

  pub value_always : (d : Lval) (o : Option BinOp) (e : Expr) (c : Option Expr) → LeftOver P d → IsOver P e → left_has_values names k d ≡ true → has_values names k e ≡ true
      → AlwaysMatches d o e c → AlwaysMatches (left_with_values k d) o (with_values k e) (option_map (with_values k) c)
  value_always d o e c l h v w m =
      always_kept (with_values k) (left_with_values k) (values_turned k) ValuePart value_splits d ((values_keep_classes k).lefts d) (pulled V) (value_operand d l v) o e c (h, w) m

  pub value_pair : (f d : Lval) (o : Option BinOp) (e : Expr) → LeftOver P d → IsOver P e → left_has_values names k d ≡ true → has_values names k e ≡ true
      → PairAlways f d o e → PairAlways (left_with_values k f) (left_with_values k d) o (with_values k e)
  value_pair f d o e l h v w m =
      pairs_kept (with_values k) (left_with_values k) (values_turned k) ValuePart value_splits f d ((values_keep_classes k).lefts f) ((values_keep_classes k).lefts d) (pulled V) (value_operand d l v) o e (h, w) m

  -- ---- intrinsics
  abbrev pub ValueLeft : Lval → Type 0
  ValueLeft d = LeftOver P d × (left_has_values names k d ≡ true)

  value_beside : (d : Lval) → ValueLeft d → (B : Answers) (x : Expr) → ValuePart x → KeptBeside d (operand_of (pulled V B) d x) (operand_of B (left_with_values k d) (with_values k x))
  value_beside d l B x p =
      beside_by V B (left_with_values k d) x (with_values k x) d (class_at (with_values k) (values_turned k) x) (valued_place names k known P told d l.0 l.1) (valued_tree names k known P told p.0 p.1)
      (by_place V (value_turn I k) B (Of P) no_registers no_cells (place_of d) (tree_of x) (left_set d l.0 l.1) (over_tree P no_registers p.0 (whatever (tree_of x))))

  pub value_instruction : (to : List Lval) (n : List ℕ) (args : List Expr) → All ValueLeft to → All ValuePart args → InstructionAlways to n args → InstructionAlways (map (left_with_values k) to) n (map (with_values k) args)
  value_instruction to n args l p h =
      instructions_kept (with_values k) (left_with_values k) (values_turned k) (values_keep_classes k).lefts ValuePart ValueLeft (pulled V) value_beside to n args l p h

pub values_keep_instructions : ValuesKeepInstructions
values_keep_instructions names k used known to n args at told l p m =
    always_instruction (map (left_with_values k) to) n (map (with_values k) args) at
    (value_instruction names k (λ v. used v ≡ true) known told to n args l p (instruction_always to n args at m))

pub values_keep_pairs : ValuesKeepPairs
values_keep_pairs names k used known f d o e told l h v w m =
    always_pair (left_with_values k f) (left_with_values k d) o (with_values k e) (value_pair names k (λ v. used v ≡ true) known told f d o e l h v w (pair_always f d o e m))

pub values_keep_patterns : ValuesKeepPatterns
values_keep_patterns names k used known d o e c told l h v w m =
    always_matched (left_with_values k d) o (with_values k e) (option_map (with_values k) c) (value_always names k (λ v. used v ≡ true) known told d o e c l h v w (matched_always d o e c m))

-- ---- words of cells
module _ (P : Var → Type 0) (known : Named → Known) (kind : Named → Kind) (told : AreTold P known) (kinds : AreKinds P kind) where
  abbrev pub registers : Named → Bool
  registers v = is_register_array (known v)

  abbrev W : Turn
  W = wording (becomes_word known kind)

  abbrev WordPart : Expr → Type 0
  WordPart e = IsOver P e × OverTree Whatever registers (tree_of e)

  word_parts : {x : Layer} → IsOverLayer P x → OverTree Whatever registers (tree_form x) → PartsOf with_scalars WordPart x
  word_parts o_number o = tt
  word_parts o_truth o = tt
  word_parts (o_variable p n) o = tt
  word_parts (o_cell p y r h) o = tt
  word_parts (o_load h) o = tt
  word_parts (o_minus h) o = (h, o)
  word_parts (o_denial h) o = (h, o)
  word_parts (o_cast h) o = tt
  word_parts (o_two h l) o = ((h, o.0), (l, o.1))

  parts_out : {e : Expr} → IsOver P e → OverTree Whatever registers (tree_of e) → PartsOf with_scalars WordPart (out-Expr e)
  parts_out {e = e} (over h) o = word_parts h (subst (OverTree Whatever registers) (tree_out e) o)

  word_splits : Splits with_scalars WordPart
  word_splits e p = elim (scalars_turned e (formed e)) [ inl k ↦ inl k | inr t ↦ inr (t, parts_out p.0 p.1) ]

  word_set : (d : Lval) → LeftOver P d → LeftNumbered registers d → IsSetPlace W (Of P) registers (place_of d)
  word_set (lval.Skip at) h n = tt
  word_set (lval.Var v) h n = (set_itself W P (λ x. refl) told.entire v h.0, refl)
  word_set (lval.Cell v i) h n = (set_itself W P (λ x. refl) told.entire v h.0, n)
  word_set (lval.Store a) h n = tt

  word_operand : (d : Lval) → LeftOver P d → LeftNumbered registers d → (B : Answers) (x : Expr) → WordPart x → KeptOperand (is_r (dest_of d)) (operand_of (pulled W B) d x) (operand_of B (left_with_scalars d) (with_scalars x))
  word_operand d l n B x p =
      operand_by W B d (left_with_scalars d) x (with_scalars x) (class_at with_scalars scalars_turned x) (scaled_place known kind P told kinds d l) (scaled_tree known kind P told kinds p.0)
      (by_place W (word_turn (becomes_word known kind)) B (Of P) registers (of_register known kind) (place_of d) (tree_of x) (word_set d l n) (over_tree P registers p.0 p.1))

  pub word_always : (d : Lval) (o : Option BinOp) (e : Expr) (c : Option Expr) → LeftOver P d → IsOver P e → LeftNumbered registers d → OverTree Whatever registers (tree_of e)
      → AlwaysMatches d o e c → AlwaysMatches (left_with_scalars d) o (with_scalars e) (option_map with_scalars c)
  word_always d o e c l h n q m =
      always_kept with_scalars left_with_scalars scalars_turned WordPart word_splits d (scalars_keep_classes.lefts d) (pulled W) (word_operand d l n) o e c (h, q) m

  pub word_pair : (f d : Lval) (o : Option BinOp) (e : Expr) → LeftOver P d → IsOver P e → LeftNumbered registers d → OverTree Whatever registers (tree_of e)
      → PairAlways f d o e → PairAlways (left_with_scalars f) (left_with_scalars d) o (with_scalars e)
  word_pair f d o e l h n q m =
      pairs_kept with_scalars left_with_scalars scalars_turned WordPart word_splits f d (scalars_keep_classes.lefts f) (scalars_keep_classes.lefts d) (pulled W) (word_operand d l n) o e (h, q) m

  -- ---- intrinsics
  abbrev pub WordLeft : Lval → Type 0
  WordLeft d = LeftOver P d × LeftNumbered registers d

  word_beside : (d : Lval) → WordLeft d → (B : Answers) (x : Expr) → WordPart x → KeptBeside d (operand_of (pulled W B) d x) (operand_of B (left_with_scalars d) (with_scalars x))
  word_beside d l B x p =
      beside_by W B (left_with_scalars d) x (with_scalars x) d (class_at with_scalars scalars_turned x) (scaled_place known kind P told kinds d l.0) (scaled_tree known kind P told kinds p.0)
      (by_place W (word_turn (becomes_word known kind)) B (Of P) registers (of_register known kind) (place_of d) (tree_of x) (word_set d l.0 l.1) (over_tree P registers p.0 p.1))

  pub word_instruction : (to : List Lval) (n : List ℕ) (args : List Expr) → All WordLeft to → All WordPart args → InstructionAlways to n args → InstructionAlways (map left_with_scalars to) n (map with_scalars args)
  word_instruction to n args l p h =
      instructions_kept with_scalars left_with_scalars scalars_turned scalars_keep_classes.lefts WordPart WordLeft (pulled W) word_beside to n args l p h

pub scalars_keep_instructions : ScalarsKeepInstructions
scalars_keep_instructions used known kind to n args at told kinds l p m =
    always_instruction (map left_with_scalars to) n (map with_scalars args) at (word_instruction (λ v. used v ≡ true) known kind told kinds to n args l p (instruction_always to n args at m))

pub scalars_keep_pairs : ScalarsKeepPairs
scalars_keep_pairs used known kind f d o e told kinds l h n q m =
    always_pair (left_with_scalars f) (left_with_scalars d) o (with_scalars e) (word_pair (λ v. used v ≡ true) known kind told kinds f d o e l h n q (pair_always f d o e m))

pub scalars_keep_patterns : ScalarsKeepPatterns
scalars_keep_patterns used known kind d o e c told kinds l h n q m =
    always_matched (left_with_scalars d) o (with_scalars e) (option_map with_scalars c) (word_always (λ v. used v ≡ true) known kind told kinds d o e c l h n q (matched_always d o e c m))
