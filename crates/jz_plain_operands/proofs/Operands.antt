-- A typed operand that the expansion leaves is a word of its size; a flag is a variable.
use Rattle.std.proofs.Common.{◌≡◌, ℕ, Bool, true, false, Option, Some, None, refl, sym, ap, ◌∙◌, subst}
use Rattle.std.specs.Option.{option_or}
use Rattle.std.proofs.lemmas.Bool.{false≢true, and_parts}
use Rattle.x64_insn.specs.Size.{Size}
use Rattle.jz_tree.specs.declared.expr.Access.{Access}
use Rattle.jz_tree.specs.declared.expr.Expr.{Expr}
use Rattle.jz_tree.specs.declared.expr.Expr.TheOpen.{Expr-F}
use Rattle.jz_tree.specs.declared.expr.Expr.TheViews.{out-Expr, out-Access}
use Rattle.jz_tree.specs.declared.expr.Var.{Var}
use Rattle.jz_type_names.specs.Kinds.{known_of}
use Rattle.jz_select.specs.declared.class.Class.{Class}
use Rattle.jz_select.specs.declared.class.Class.TheVariants as class
use Rattle.jz_select.specs.Sums.{is_sum, is_address, is_index}
use Rattle.jz_select.specs.Look.{look_of, terms_of}
use Rattle.jz_select.specs.Operands.{var_class, class_if, cell_class, cell_of, mem_of, class_layer, class_of}
use Rattle.jz_select.specs.Rows.{is_rmi, is_flag}
use Rattle.jz_judgement.specs.Places.{Place, word, index, TakesWord, IsArrayOf}
use Rattle.jz_judgement.specs.HasType as judged
use Rattle.jz_judgement.specs.HasType.{Layer, value, HasType, Types, Accesses}
use Rattle.jz_meaning.specs.declared.access.Kind.TheVariants as kind
use Rattle.jz_meaning.specs.States.{Key}
use Rattle.jz_meaning.specs.Values.{ref_of}
use Rattle.jz_run_laws.specs.Kinds.{Kinds}
use Rattle.jz_row_laws.proofs.Fixed.{no_if, no_cell}
use Rattle.jz_terms.specs.Terms.{Place as Accessed, term_of, place_of}
use Rattle.jz_terms.proofs.Bridge.{term_layer}
use Rattle.jz_standing.specs.Typing.{IsScalar, IsArray, IsFlag, IsSum, IsWord}
use Rattle.jz_plain_operands.specs.Plain.{IsPlain, a_word, a_slot, a_flag, an_array, IsPlainExpr, expression, IsPlainLayer, a_number, a_truth, a_variable, a_cell, a_load, a_minus, a_denial, a_cast, of_two}
use Rattle.jz_plain_operands.specs.PlainLaws.{WordsAreOperands, FlagsAreOperands, SumsAreOperands}
use Rattle.jz_plain_operands.proofs.Layers.{term_out, place_out, two_not, sign_not}
use Rattle.jz_plain_operands.proofs.Sums.{word_variable, sum_there}

pub if_true : (test : Class → Bool) → test class.Other ≡ false → (b : Bool) (c : Class) → test (class_if b c) ≡ true → b ≡ true
if_true test n true c h = refl
if_true test n false c h = absurd (false≢true (sym n ∙ h))

-- a known size, or that of the place
pub given_size : (a : judged.AccessLayer) (z : Size) → Accesses a (word z) → option_or a.size (Some z) ≡ Some z
given_size a z (judged.sized y s t x) = ap (λ k. option_or k (Some z)) s ∙ ap (λ k. Some k) t
given_size a z (judged.bare s x) = ap (λ k. option_or k (Some z)) s

pub at_index : (a : judged.AccessLayer) (p : Place) → Accesses a p → HasType (value a.at) index
at_index a p (judged.sized y s t x) = x
at_index a p (judged.bare s x) = x

module _ (kinds : Kinds) (in_frame : Key → Bool) where
  -- ---- cells
  pub record IsCell (v : Var) (i : Expr) (z : Size) : Type 0 where
    pub count : ℕ
    pub array : IsArray kinds in_frame (ref_of v) z count
    pub good : (look_of i).sum.good ≡ true

  pub cell_there : (test : Class → Bool) → test class.Other ≡ false → (v : Var) (i : Expr) (y z : Size) → IsPlain kinds in_frame v → IsArrayOf y (known_of v) → y ≡ z → test (cell_of v i) ≡ true → IsCell v i z
  cell_there test o v i y z (an_array s n d a) k e h =
      let f : s ≡ y = subst (λ q. IsArrayOf y q) d k in
      let g = if_true test o (is_index (terms_of i)) (class.Mem (Some s)) (sym (ap (λ q. test (cell_class q (look_of i).inline (is_index (terms_of i)))) d) ∙ h) in
      record {
        count = n;
        array = subst (λ x. IsArray kinds in_frame (ref_of v) x n) (f ∙ e) a;
        good = (and_parts (look_of i).sum.good _ g).0;
      }
  cell_there test o v i y z (a_word s d k a) x e h = absurd (subst (λ q. IsArrayOf y q) d x)
  cell_there test o v i y z (a_slot s d k a) x e h = absurd (subst (λ q. IsArrayOf y q) d x)
  cell_there test o v i y z (a_flag d k a) x e h = absurd (subst (λ q. IsArrayOf y q) d x)

  -- ---- memory
  abbrev pub IsMemory : Size → Accessed → Type 0
  IsMemory z q = (option_or q.spot.size (Some z) ≡ Some z) × IsSum kinds in_frame q.at

  pub memory_there : (test : Class → Bool) → test class.Other ≡ false → (a : Access) (z : Size) → option_or (out-Access a).size (Some z) ≡ Some z → HasType (value (out-Access a).at) index
      → IsPlainExpr kinds in_frame (out-Access a).at → test (mem_of (out-Access a).size (out-Access a).at) ≡ true → IsMemory z (place_of a)
  memory_there test o a z k t x h =
      let is = if_true test o (is_address (terms_of (out-Access a).at)) (class.Mem (out-Access a).size) h in
      let good = (and_parts (look_of (out-Access a).at).sum.good _ (and_parts (is_sum (terms_of (out-Access a).at)) _ is).0).0 in
      subst (IsMemory z) (sym (place_out a)) (k, sum_there kinds in_frame (out-Access a).at x t good)

  -- ---- words
  word_layer : (l : Layer) (z : Size) → IsPlainLayer kinds in_frame l → Types l (word z) → is_rmi (class_layer l) ≡ true → IsWord kinds in_frame (Some z) z (term_layer l)
  word_layer (Expr-F.Num i at) z a_number t h = tt
  word_layer (Expr-F.Expr::Bool b at) z a_truth t h = absurd (false≢true h)
  word_layer (Expr-F.Var v) z (a_variable x) (judged.variable g) h = word_variable kinds in_frame v (word z) z (λ y k. k) (λ k. k) x g
  word_layer (Expr-F.Cell v i) z (a_cell x y) (judged.cell w a k t) h =
      let c = cell_there is_rmi refl v i w z x a k h in
      (c.count, c.array, sum_there kinds in_frame i y t c.good)
  word_layer (Expr-F.Load a) z (a_load x) (judged.load t) h =
      memory_there is_rmi refl a z (given_size (out-Access a) z t) (at_index (out-Access a) (word z) t) x h
  word_layer (Expr-F.Neg a at) z (a_minus n x) t h = absurd (sign_not kinds in_frame is_rmi a refl n x h)
  word_layer (Expr-F.Not a at) z (a_denial n x) t h = absurd (sign_not kinds in_frame is_rmi a refl n x h)
  word_layer (Expr-F.Cast y s a at) z (a_cast x) t h = absurd (false≢true h)
  word_layer (Expr-F.Bin o a b at) z (of_two n x y) t h = absurd (two_not kinds in_frame is_rmi refl refl refl o a b at n x y h)

  pub word_there : (e : Expr) (z : Size) → IsPlainExpr kinds in_frame e → HasType (value e) (word z) → is_rmi (class_of e) ≡ true → IsWord kinds in_frame (Some z) z (term_of e)
  word_there e z (expression x) (judged.expression t) h = subst (λ y. IsWord kinds in_frame (Some z) z y) (sym (term_out e)) (word_layer (out-Expr e) z x t h)

  -- ---- flags
  pub flag_variable : (v : Var) → IsPlain kinds in_frame v → is_flag (var_class (known_of v)) ≡ true → ((ref_of v).kind ≡ kind.Bool) × IsScalar kinds in_frame (ref_of v)
  flag_variable v (a_flag d k s) h = (k, s)
  flag_variable v (a_word z d k s) h = absurd (false≢true (sym (ap (λ q. is_flag (var_class q)) d) ∙ h))
  flag_variable v (a_slot z d k s) h = absurd (false≢true (sym (ap (λ q. is_flag (var_class q)) d) ∙ h))
  flag_variable v (an_array z n d a) h = absurd (false≢true (sym (ap (λ q. is_flag (var_class q)) d) ∙ h))

  flag_layer : (l : Layer) → IsPlainLayer kinds in_frame l → is_flag (class_layer l) ≡ true → IsFlag kinds in_frame (term_layer l)
  flag_layer (Expr-F.Num i at) a_number h = absurd (false≢true h)
  flag_layer (Expr-F.Expr::Bool b at) a_truth h = absurd (false≢true h)
  flag_layer (Expr-F.Var v) (a_variable x) h = flag_variable v x h
  flag_layer (Expr-F.Cell v i) (a_cell x y) h = absurd (no_cell is_flag (λ z. refl) (λ z. refl) refl (known_of v) (look_of i).inline (is_index (terms_of i)) h)
  flag_layer (Expr-F.Load a) (a_load x) h = absurd (no_if is_flag refl (is_address (terms_of (out-Access a).at)) (class.Mem (out-Access a).size) refl h)
  flag_layer (Expr-F.Neg a at) (a_minus n x) h = absurd (sign_not kinds in_frame is_flag a refl n x h)
  flag_layer (Expr-F.Not a at) (a_denial n x) h = absurd (sign_not kinds in_frame is_flag a refl n x h)
  flag_layer (Expr-F.Cast y s a at) (a_cast x) h = absurd (false≢true h)
  flag_layer (Expr-F.Bin o a b at) (of_two n x y) h = absurd (two_not kinds in_frame is_flag refl refl refl o a b at n x y h)

  pub flag_there : (e : Expr) → IsPlainExpr kinds in_frame e → is_flag (class_of e) ≡ true → IsFlag kinds in_frame (term_of e)
  flag_there e (expression x) h = subst (λ y. IsFlag kinds in_frame y) (sym (term_out e)) (flag_layer (out-Expr e) x h)

pub words_are_operands : WordsAreOperands
words_are_operands kinds in_frame e z x t h = word_there kinds in_frame e z x t h

pub flags_are_operands : FlagsAreOperands
flags_are_operands kinds in_frame e x h = flag_there kinds in_frame e x h

pub sums_are_operands : SumsAreOperands
sums_are_operands kinds in_frame e x t h = sum_there kinds in_frame e x t h
