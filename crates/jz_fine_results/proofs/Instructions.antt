-- Instructions that statements name.
use Rattle.std.proofs.Common.{◌≡◌, ◌<◌, pos, negsuc, Bool, true, false, ◌&&◌, List, [], ◌∷◌, Option, Some, None, refl, sym, ap, ◌∙◌, subst, inl, inr, if◌then◌else◌}
use Rattle.std.specs.Prelude.{◌⊎◌, All, option_map}
use Rattle.std.proofs.lemmas.Bool.{false≢true}
use Rattle.std.proofs.lemmas.List.Elements.{All-nil, All-cons, All-head, All-tail}
use Rattle.x64_insn.specs.Size.{Size}
use Rattle.x64_insn.specs.Size.TheVariants.{S8, S64}
use Rattle.jz_tree.specs.declared.expr.Expr.{Expr}
use Rattle.jz_tree.specs.declared.expr.Expr.TheOpen.{Expr-F}
use Rattle.jz_tree.specs.declared.expr.Expr.TheViews.{out-Expr}
use Rattle.jz_tree.specs.declared.expr.Var.{Var}
use Rattle.jz_tree.specs.declared.stmt.Lval.{Lval}
use Rattle.jz_tree.specs.declared.intrinsic.Intrinsic.{Intrinsic}
use Rattle.jz_tree.specs.declared.intrinsic.Intrinsic.TheVariants as name
use Rattle.jz_tree.specs.declared.intrinsic.Instance.{Instance}
use Rattle.jz_type_names.specs.Kinds.{known_of, is_array, array_layer}
use Rattle.jz_type_sizes.specs.declared.signatures.Role.{Role}
use Rattle.jz_type_sizes.specs.declared.signatures.Role.TheVariants as role
use Rattle.jz_type_sizes.specs.Signatures.{operands_of, results_of, signature_of, instance_signature}
use Rattle.jz_type_sizes.specs.Intrinsics.{size_of_intrinsic}
use Rattle.jz_select.specs.declared.class.Class.{Class}
use Rattle.jz_select.specs.declared.class.Class.TheVariants as class
use Rattle.jz_select.specs.Sums.{term}
use Rattle.jz_select.specs.InnerLayers.{flags_layer}
use Rattle.jz_select.specs.Look.{look_of, is_inline_var, is_reg64}
use Rattle.jz_select.specs.Operands.{var_class, class_layer, class_of}
use Rattle.jz_select.specs.Rows.{is_i, is_rmi, is_flag, masks}
use Rattle.jz_select.specs.Shapes.{has_flags}
use Rattle.jz_select.proofs.Conditions.{flags_out}
use Rattle.jz_judgement.specs.Places as place
use Rattle.jz_judgement.specs.Places.{word}
use Rattle.jz_judgement.specs.HasType.{Layer}
use Rattle.jz_judgement.specs.Lefts.{Holds}
use Rattle.jz_judgement.specs.WellTyped as well
use Rattle.jz_judgement.specs.WellTyped.{InPairs, Output, Instructs}
use Rattle.jz_meaning.specs.States.{Key}
use Rattle.jz_meaning.specs.Intrinsics.{intrinsic_size}
use Rattle.jz_run_laws.specs.Kinds.{Kinds}
use Rattle.jz_run_laws.specs.Lefts.{IsCountedLeft}
use Rattle.jz_run_laws.specs.OneSize.{takes_size, IsNoArray}
use Rattle.jz_run_laws.proofs.InstructionSizes.{intrinsic_law}
use Rattle.jz_row_laws.proofs.Fixed.{look_layer, var_known}
use Rattle.jz_stuck_runs.proofs.Instructing.{operands_typed}
use Rattle.jz_stuck_runs.proofs.RowSizes.{Typed}
use Rattle.jz_terms.specs.Terms.{Term, num, term_of}
use Rattle.jz_instructed.specs.Instructed.{Shape, a_flag, a_word, a_pinned, shapes_of, Form, one_word, two_words, three_words, with_carry, with_count, an_address, a_condition, form_of, CountFits, TakeShapes, AreOperands, IsInstructed}
use Rattle.jz_plain_operands.specs.Plain.{IsPlain, a_word as plain_word, a_slot, a_flag as plain_flag, an_array, NotNegative, IsPlainExpr, expression, IsPlainLayer, a_variable, IsPlainLeft}
use Rattle.jz_plain_operands.proofs.Layers.{look_test}
use Rattle.jz_plain_operands.proofs.Operands.{word_there, flag_there}
use Rattle.jz_plain_operands.proofs.Sums.{sum_there}
use Rattle.jz_plain_operands.proofs.Counts.{count_there}
use Rattle.jz_plain_operands.proofs.Answers.{flagged}
use Rattle.jz_plain_operands.proofs.Lefts.{word_taken, pinned_taken, flag_taken}
use Rattle.jz_fine_results.specs.Fitting.{NumberFits, OperandsFit, InstructionFits}
use Rattle.jz_fine_results.specs.FineLaws.{InstructionsAreFine}
use Rattle.jz_stuck_runs.specs.Sizes.{gives_byte}
use Rattle.jz_row_classes.specs.RowClasses.{IsCountClass, Classed, LeftsClassed, IsOfSize, HasSize}
use Rattle.jz_fine_results.proofs.Forms.{roles_of, roles_are, Aligned, aligned}
use Rattle.jz_fine_results.proofs.Matching.{lefts_fine, lefts_counted, operands_counted}

-- ---- counts
no_negative : (z : Size) (t : Term) → NumberFits z t → NotNegative t
no_negative z (num (pos n) at) h = tt
no_negative z (num (negsuc n) at) h = absurd h
no_negative z t h = tt

fits_count : (z : Size) (t : Term) → NumberFits z t → CountFits z t
fits_count z (num (pos n) at) h = h
fits_count z (num (negsuc n) at) h = absurd h
fits_count z t h = tt

module _ (kinds : Kinds) (in_frame : Key → Bool) where
  -- ---- no operand is an array as a whole
  no_class : (test : Class → Bool) → test class.Other ≡ false → (v : Var) → IsPlain kinds in_frame v → test (var_class (known_of v)) ≡ true → is_array (known_of v) ≡ false
  no_class test o v (plain_word z d k s) h = ap is_array d
  no_class test o v (a_slot z d k s) h = ap is_array d
  no_class test o v (plain_flag d k s) h = ap is_array d
  no_class test o v (an_array z n d a) h = absurd (false≢true (sym o ∙ (sym (ap (λ q. test (var_class q)) d) ∙ h)))

  no_sum : (v : Var) → IsPlain kinds in_frame v → (look_layer (Expr-F.Var v)).sum.good ≡ true → is_array (known_of v) ≡ false
  no_sum v (plain_word z d k s) h = ap is_array d
  no_sum v (a_slot z d k s) h = ap is_array d
  no_sum v (plain_flag d k s) h = ap is_array d
  no_sum v (an_array z n d a) h = absurd (false≢true (sym (ap (λ q. (term (is_inline_var q) (is_reg64 q) false).good) (var_known v ∙ d)) ∙ h))

  if_array : (v : Var) → is_array (known_of v) ≡ false → array_layer (Expr-F.Var v) ≡ None
  if_array v h = ap (λ b. if b then Some v else None) h

  array_by : (l : Layer) → IsPlainLayer kinds in_frame l → ((v : Var) → IsPlain kinds in_frame v → l ≡ Expr-F.Var v → is_array (known_of v) ≡ false) → array_layer l ≡ None
  array_by (Expr-F.Var v) (a_variable x) f = if_array v (f v x refl)
  array_by (Expr-F.Num i at) x f = refl
  array_by (Expr-F.Expr::Bool b at) x f = refl
  array_by (Expr-F.Cell v i) x f = refl
  array_by (Expr-F.Load a) x f = refl
  array_by (Expr-F.Neg a at) x f = refl
  array_by (Expr-F.Not a at) x f = refl
  array_by (Expr-F.Cast z s a at) x f = refl
  array_by (Expr-F.Bin o a b at) x f = refl

  no_array : (test : Class → Bool) → test class.Other ≡ false → (e : Expr) → IsPlainExpr kinds in_frame e → test (class_of e) ≡ true → IsNoArray e
  no_array test o e (expression x) h = array_by (out-Expr e) x (λ v p s. no_class test o v p (sym (ap (λ l. test (class_layer l)) s) ∙ h))

  no_array_sum : (e : Expr) → IsPlainExpr kinds in_frame e → (look_of e).sum.good ≡ true → IsNoArray e
  no_array_sum e (expression x) h =
      array_by (out-Expr e) x (λ v p s. no_sum v p (sym (ap (λ l. (look_layer l).sum.good) s) ∙ look_test (λ l. l.sum.good) e h))

  no_array_test : (e : Expr) → IsPlainExpr kinds in_frame e → has_flags e ≡ true → IsNoArray e
  no_array_test e (expression x) h = array_by (out-Expr e) x (λ v p s. no_class is_flag refl v p (sym (flags_out e ∙ ap flags_layer s) ∙ h))

  count_array : (e : Expr) → IsPlainExpr kinds in_frame e → IsCountClass (class_of e) → IsNoArray e
  count_array e x (inl h) = no_array is_i refl e x h
  count_array e x (inr h) = no_array (masks h.0) refl e x h.1

  abbrev P : Expr → Type 0
  P = IsPlainExpr kinds in_frame

  one_no : (a : Expr) → IsNoArray a → All IsNoArray (a ∷ [])
  one_no a h = All-cons IsNoArray a [] h (All-nil IsNoArray)

  two_no : (a b : Expr) → IsNoArray a → IsNoArray b → All IsNoArray (a ∷ b ∷ [])
  two_no a b h k = All-cons IsNoArray a (b ∷ []) h (one_no b k)

  three_no : (a b c : Expr) → IsNoArray a → IsNoArray b → IsNoArray c → All IsNoArray (a ∷ b ∷ c ∷ [])
  three_no a b c h k l = All-cons IsNoArray a (b ∷ c ∷ []) h (two_no b c k l)

  no_arrays : (f : Form) (args : List Expr) → All P args → Classed f args → All IsNoArray args
  no_arrays one_word (a ∷ []) x c = one_no a (no_array is_rmi refl a (All-head P a [] x) c)
  no_arrays an_address (a ∷ []) x c = one_no a (no_array_sum a (All-head P a [] x) c)
  no_arrays a_condition (a ∷ []) x c = one_no a (no_array_test a (All-head P a [] x) c)
  no_arrays two_words (a ∷ b ∷ []) x c = two_no a b (no_array is_rmi refl a (All-head P a (b ∷ []) x) c.0) (no_array is_rmi refl b (All-head P b [] (All-tail P a (b ∷ []) x)) c.1)
  no_arrays with_count (a ∷ b ∷ []) x c = two_no a b (no_array is_rmi refl a (All-head P a (b ∷ []) x) c.0) (count_array b (All-head P b [] (All-tail P a (b ∷ []) x)) c.1)
  no_arrays three_words (a ∷ b ∷ d ∷ []) x c =
      let y = All-tail P a (b ∷ d ∷ []) x in
      three_no a b d (no_array is_rmi refl a (All-head P a (b ∷ d ∷ []) x) c.0) (no_array is_rmi refl b (All-head P b (d ∷ []) y) c.1) (no_array is_rmi refl d (All-head P d [] (All-tail P b (d ∷ []) y)) c.2)
  no_arrays with_carry (a ∷ b ∷ d ∷ []) x c =
      let y = All-tail P a (b ∷ d ∷ []) x in
      three_no a b d (no_array is_rmi refl a (All-head P a (b ∷ d ∷ []) x) c.0) (no_array is_rmi refl b (All-head P b (d ∷ []) y) c.1) (no_array is_flag refl d (All-head P d [] (All-tail P b (d ∷ []) y)) c.2)
  no_arrays f args x c = absurd c

  -- ---- operands
  operands_there : (f : Form) (z : Size) (args : List Expr) → All P args → Classed f args → OperandsFit f z args → InPairs (Typed (Some z)) (roles_of f) args → AreOperands kinds in_frame f z args
  operands_there one_word z args x c w (well.next {b = a} t well.none) = word_there kinds in_frame a z (All-head P a [] x) t c
  operands_there two_words z args x c w (well.next {b = a} t (well.next {b = b} u well.none)) =
      (word_there kinds in_frame a z (All-head P a (b ∷ []) x) t c.0, word_there kinds in_frame b z (All-head P b [] (All-tail P a (b ∷ []) x)) u c.1)
  operands_there three_words z args x c w (well.next {b = a} t (well.next {b = b} u (well.next {b = d} v well.none))) =
      let y = All-tail P a (b ∷ d ∷ []) x in (
        word_there kinds in_frame a z (All-head P a (b ∷ d ∷ []) x) t c.0,
        word_there kinds in_frame b z (All-head P b (d ∷ []) y) u c.1,
        word_there kinds in_frame d z (All-head P d [] (All-tail P b (d ∷ []) y)) v c.2,
      )
  operands_there with_carry z args x c w (well.next {b = a} t (well.next {b = b} u (well.next {b = d} v well.none))) =
      let y = All-tail P a (b ∷ d ∷ []) x in (
        word_there kinds in_frame a z (All-head P a (b ∷ d ∷ []) x) t c.0,
        word_there kinds in_frame b z (All-head P b (d ∷ []) y) u c.1,
        flag_there kinds in_frame d (All-head P d [] (All-tail P b (d ∷ []) y)) c.2,
      )
  operands_there with_count z args x c w (well.next {b = a} t (well.next {b = b} u well.none)) = (
    word_there kinds in_frame a z (All-head P a (b ∷ []) x) t c.0,
    count_there kinds in_frame b (All-head P b [] (All-tail P a (b ∷ []) x)) (no_negative z (term_of b) w) c.1,
    fits_count z (term_of b) w,
  )
  operands_there an_address z args x c w (well.next {b = a} t well.none) = sum_there kinds in_frame a (All-head P a [] x) t c
  operands_there a_condition z args x c w (well.next {b = a} t well.none) = flagged kinds in_frame a (All-head P a [] x) t c

  -- ---- left sides
  abbrev L : Lval → Type 0
  L = IsPlainLeft kinds in_frame

  shapes_there : (z : Size) (hs : List Shape) (rs : List Role) (to : List Lval) → Aligned z hs rs → LeftsClassed hs to → All L to → InPairs (Output (Some z)) rs to → TakeShapes kinds in_frame hs to
  shapes_there z [] [] to a c x well.none = tt
  shapes_there z (a_flag ∷ hs) (role.Flag ∷ rs) to a c x (well.next {b = d} {bs = ds} t ts) =
      (flag_taken kinds in_frame d (All-head L d ds x) c.0, shapes_there z hs rs ds a c.1 (All-tail L d ds x) ts)
  shapes_there z (a_word y ∷ hs) (role.Value ∷ rs) to a c x (well.next {b = d} {bs = ds} t ts) =
      (word_taken kinds in_frame d y (All-head L d ds x) (subst (λ s. Holds (word s) d) (sym a.0) t) c.0, shapes_there z hs rs ds a.1 c.1 (All-tail L d ds x) ts)
  shapes_there z (a_pinned y ∷ hs) (role.Value ∷ rs) to a c x (well.next {b = d} {bs = ds} t ts) =
      (pinned_taken kinds in_frame d y (All-head L d ds x) (subst (λ s. Holds (word s) d) (sym a.0) t) c.0, shapes_there z hs rs ds a.1 c.1 (All-tail L d ds x) ts)
  shapes_there z hs rs to a c x t = absurd a

  byte_there : (o : Option Size) (to : List Lval) → LeftsClassed (a_word S8 ∷ []) to → All L to → InPairs (Output o) (role.Byte ∷ []) to → TakeShapes kinds in_frame (a_word S8 ∷ []) to
  byte_there o to c x (well.next {b = d} t well.none) = (word_taken kinds in_frame d S8 (All-head L d [] x) (byte_holds o t) c.0, tt)
    where
      byte_holds : (o : Option Size) → Output o role.Byte d → Holds (word S8) d
      byte_holds None t = t
      byte_holds (Some y) t = t

  -- ---- with its size
  module _ (i : Instance) (to : List Lval) (args : List Expr) (x : All P args) (l : All L to) (left_classes : (z : Size) → LeftsClassed (shapes_of i.name z) to) (classes : Classed (form_of i.name) args)
      (has_size : gives_byte i.name ≡ false → HasSize i to args) (has_address : i.name ≡ name.Lea → IsOfSize i to args S64) where
    abbrev Goal : Intrinsic → Type 0
    Goal n =
        (z : Size) × (intrinsic_size n i.size to args ≡ Some z)
        × AreOperands kinds in_frame (form_of n) z args × TakeShapes kinds in_frame (shapes_of n z) to

    abbrev Fits : Intrinsic → Type 0
    Fits n = (z : Size) → intrinsic_size n i.size to args ≡ Some z → OperandsFit (form_of n) z args

    made : (n : Intrinsic) (z : Size) → intrinsic_size n i.size to args ≡ Some z → Fits n → LeftsClassed (shapes_of n z) to × Classed (form_of n) args → Aligned z (shapes_of n z) (results_of n) → InPairs (Output (Some z)) (results_of n) to
        → InPairs (Typed (Some z)) (operands_of n) args → Goal n
    made n z s w c a outs ins = (
      z,
      s,
      operands_there (form_of n) z args x c.1 (w z s) (subst (λ rs. InPairs (Typed (Some z)) rs args) (roles_are n) ins),
      shapes_there z (shapes_of n z) (results_of n) to a c.0 l outs,
    )

    -- SETcc: a byte, whatever size the others have
    condition_made : (o : Option Size) → LeftsClassed (a_word S8 ∷ []) to × Classed a_condition args → InPairs (Output o) (role.Byte ∷ []) to → InPairs (Typed o) (role.Condition ∷ []) args → Goal name.Setcc
    condition_made o c outs ins = (S8, refl, condition_there o args x c.1 ins, byte_there o to c.0 l outs)
      where
        condition_there : (o : Option Size) (args : List Expr) → All P args → Classed a_condition args → InPairs (Typed o) (role.Condition ∷ []) args → AreOperands kinds in_frame a_condition S8 args
        condition_there None args x c (well.next {b = a} t well.none) = flagged kinds in_frame a (All-head P a [] x) t c
        condition_there (Some y) args x c (well.next {b = a} t well.none) = flagged kinds in_frame a (All-head P a [] x) t c

    module _ (n : Intrinsic) (e : i.name ≡ n) where
      facts : (z : Size) → LeftsClassed (shapes_of n z) to × Classed (form_of n) args
      facts z = (subst (λ k. LeftsClassed (shapes_of k z) to) e (left_classes z), subst (λ k. Classed (form_of k) args) e classes)

      plain : All IsNoArray args
      plain = no_arrays (form_of n) args x (facts S8).1

      lefts : All IsCountedLeft to
      lefts = lefts_counted kinds in_frame to (lefts_fine (shapes_of n S8) to (facts S8).0) l

      by_taken : takes_size n ≡ true → gives_byte n ≡ false → Fits n → Instructs (Some (signature_of n i.size)) to args → Goal n
      by_taken t b w (well.instance_of outs ins) =
          let o = size_of_intrinsic (signature_of n i.size) to args in
          let typed = operands_typed o ins plain in
          let s = has_size (ap gives_byte e ∙ b) in
          let found : size_of_intrinsic (signature_of n i.size) to args ≡ Some s.0 = subst (λ k. size_of_intrinsic (signature_of k i.size) to args ≡ Some s.0) e s.1 in
          let here = intrinsic_law n i.size to args s.0 t lefts (operands_counted kinds in_frame args x) plain (well.instance_of outs ins) found in
          made n s.0 here w (facts s.0) (aligned n s.0 t) (subst (λ q. InPairs (Output q) (results_of n) to) found outs) (subst (λ q. InPairs (Typed q) (operands_of n) args) found typed)

    by_name : (n : Intrinsic) → i.name ≡ n → Fits n → Instructs (Some (signature_of n i.size)) to args → Goal n
    by_name name.Setcc e w (well.instance_of outs ins) =
        let o = size_of_intrinsic (signature_of name.Setcc i.size) to args in
        condition_made o (facts name.Setcc e S8) outs (operands_typed o ins (plain name.Setcc e))
    by_name name.Lea e w (well.instance_of outs ins) =
        let o = size_of_intrinsic (signature_of name.Lea i.size) to args in
        let typed = operands_typed o ins (plain name.Lea e) in
        let s : size_of_intrinsic (signature_of name.Lea i.size) to args ≡ Some S64 = subst (λ k. size_of_intrinsic (signature_of k i.size) to args ≡ Some S64) e (has_address e) in
        made name.Lea S64 refl w (facts name.Lea e S64) (refl, tt) (subst (λ q. InPairs (Output q) (role.Value ∷ []) to) s outs) (subst (λ q. InPairs (Typed q) (role.Address ∷ []) args) s typed)
    by_name name.Add e w g = by_taken name.Add e refl refl w g
    by_name name.Sub e w g = by_taken name.Sub e refl refl w g
    by_name name.And e w g = by_taken name.And e refl refl w g
    by_name name.Or e w g = by_taken name.Or e refl refl w g
    by_name name.Xor e w g = by_taken name.Xor e refl refl w g
    by_name name.Adc e w g = by_taken name.Adc e refl refl w g
    by_name name.Sbb e w g = by_taken name.Sbb e refl refl w g
    by_name name.Neg e w g = by_taken name.Neg e refl refl w g
    by_name name.Inc e w g = by_taken name.Inc e refl refl w g
    by_name name.Dec e w g = by_taken name.Dec e refl refl w g
    by_name name.Not e w g = by_taken name.Not e refl refl w g
    by_name name.Bswap e w g = by_taken name.Bswap e refl refl w g
    by_name name.Cmp e w g = by_taken name.Cmp e refl refl w g
    by_name name.Test e w g = by_taken name.Test e refl refl w g
    by_name name.Shl e w g = by_taken name.Shl e refl refl w g
    by_name name.Shr e w g = by_taken name.Shr e refl refl w g
    by_name name.Sar e w g = by_taken name.Sar e refl refl w g
    by_name name.Rol e w g = by_taken name.Rol e refl refl w g
    by_name name.Ror e w g = by_taken name.Ror e refl refl w g
    by_name name.Imul e w g = by_taken name.Imul e refl refl w g
    by_name name.Mul e w g = by_taken name.Mul e refl refl w g
    by_name name.Div e w g = by_taken name.Div e refl refl w g

pub instructions_are_fine : InstructionsAreFine
instructions_are_fine kinds in_frame to n args pl pe w g h =
    let i = h.instance in
    subst (λ s. IsInstructed kinds in_frame s to args) (sym h.is)
    (by_name kinds in_frame i to args pe pl h.lefts h.operands h.size h.address i.name refl (subst (λ s. InstructionFits s to args) h.is w) (subst (λ s. Instructs (option_map instance_signature s) to args) h.is g))
