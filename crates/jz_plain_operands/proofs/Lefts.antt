-- A left side that the expansion leaves takes a word or a flag.
use Rattle.std.proofs.Common.{◌≡◌, Bool, true, false, ◌||◌, Some, None, refl, sym, ap, ◌∙◌, subst, inl, inr}
use Rattle.std.specs.Prelude.{◌⊎◌}
use Rattle.std.specs.Option.{option_or}
use Rattle.std.proofs.lemmas.Bool.{false≢true}
use Rattle.x64_insn.specs.Size.{Size}
use Rattle.jz_tree.specs.declared.expr.Access.{Access}
use Rattle.jz_tree.specs.declared.expr.Expr.{Expr}
use Rattle.jz_tree.specs.declared.expr.Expr.TheViews.{out-Access}
use Rattle.jz_tree.specs.declared.expr.Var.{Var}
use Rattle.jz_tree.specs.declared.stmt.Lval.{Lval}
use Rattle.jz_tree.specs.declared.stmt.Lval.TheVariants as lval
use Rattle.jz_type_names.specs.declared.kinds.Kind as known
use Rattle.jz_type_names.specs.declared.kinds.Kind.TheVariants as scope
use Rattle.jz_type_names.specs.Kinds.{Known, known_of, is_array}
use Rattle.jz_select.specs.declared.class.Class.{Class}
use Rattle.jz_select.specs.declared.class.Class.TheVariants as class
use Rattle.jz_select.specs.Sums.{is_address, is_index}
use Rattle.jz_select.specs.Look.{look_of, terms_of}
use Rattle.jz_select.specs.Operands.{var_class, cell_class, cell_of, mem_of, dest_of}
use Rattle.jz_select.specs.Rows.{is_rm, is_flag, is_skip, is_flag_result, is_pinned}
use Rattle.jz_judgement.specs.Places.{word, index, KindGoes, Goes, WordKind, IsWordOf, IsArrayOf}
use Rattle.jz_judgement.specs.HasType.{value, HasType}
use Rattle.jz_judgement.specs.Lefts as lefts
use Rattle.jz_judgement.specs.Lefts.{IsNumber, Holds}
use Rattle.jz_meaning.specs.declared.access.Kind.TheVariants as kind
use Rattle.jz_meaning.specs.States.{Key}
use Rattle.jz_meaning.specs.Values.{ref_of}
use Rattle.jz_run_laws.specs.Kinds.{Kinds}
use Rattle.jz_row_laws.proofs.Fixed.{no_if, no_cell}
use Rattle.jz_instructed.specs.Instructed.{a_flag, a_word, a_pinned, TakesShape}
use Rattle.jz_plain_operands.specs.Plain as plain
use Rattle.jz_plain_operands.specs.Plain.{IsPlain, IsPlainLeft, to_nothing, to_variable, to_cell, to_memory}
use Rattle.jz_plain_operands.specs.PlainLaws.{WordsAreTaken, PinnedAreTaken, FlagsAreTaken}
use Rattle.jz_plain_operands.proofs.Sums.{IsWordOfSize, word_variable, sum_there}
use Rattle.jz_plain_operands.proofs.Operands.{cell_there, memory_there, flag_variable}

word_goes : (k : known.Kind) (z : Size) → WordKind z k → KindGoes k (word z)
word_goes (scope.Word y) z h = h
word_goes scope.Int z h = absurd h
word_goes scope.Truth z h = absurd h
word_goes (scope.Array y) z h = absurd h

known_goes : (k : Known) (z : Size) → IsWordOf z k → Goes k (word z)
known_goes None z h = absurd h
known_goes (Some d) z h = word_goes d.kind z h

module _ (kinds : Kinds) (in_frame : Key → Bool) where
  -- ---- variables
  no_array : (test : Class → Bool) → test class.Other ≡ false → (v : Var) → IsPlain kinds in_frame v → is_array (known_of v) ≡ true → test (var_class (known_of v)) ≡ true → ⊥
  no_array test o v (plain.a_word z d k s) a e = false≢true (sym (ap is_array d) ∙ a)
  no_array test o v (plain.a_slot z d k s) a e = false≢true (sym (ap is_array d) ∙ a)
  no_array test o v (plain.a_flag d k s) a e = false≢true (sym (ap is_array d) ∙ a)
  no_array test o v (plain.an_array z n d s) a e = false≢true (sym o ∙ (sym (ap (λ q. test (var_class q)) d) ∙ e))

  pub no_number : (v : Var) → IsPlain kinds in_frame v → IsNumber (known_of v) → ⊥
  no_number v (plain.a_word z d k s) i = subst IsNumber d i
  no_number v (plain.a_slot z d k s) i = subst IsNumber d i
  no_number v (plain.a_flag d k s) i = subst IsNumber d i
  no_number v (plain.an_array z n d s) i = subst IsNumber d i

  variable_goes : (test : Class → Bool) → test class.Other ≡ false → (v : Var) (z : Size) → IsPlain kinds in_frame v → Holds (word z) (lval.Var v) → test (var_class (known_of v)) ≡ true → Goes (known_of v) (word z)
  variable_goes test o v z x (inl (lefts.variable h)) e = known_goes (known_of v) z h
  variable_goes test o v z x (inr (lefts.array a)) e = absurd (no_array test o v x a e)
  variable_goes test o v z x (inr (lefts.number n i t)) e = absurd (no_number v x n)

  variable_there : (test : Class → Bool) → test class.Other ≡ false → (v : Var) (z : Size) → IsPlain kinds in_frame v → Holds (word z) (lval.Var v) → test (var_class (known_of v)) ≡ true → IsWordOfSize kinds in_frame z v
  variable_there test o v z x t e = word_variable kinds in_frame v (word z) z (λ y k. k) (λ k. k) x (variable_goes test o v z x t e)

  -- ---- cells and memory
  record CellTyped (v : Var) (i : Expr) (z : Size) : Type 0 where
    pub array : IsArrayOf z (known_of v)
    pub index_typed : HasType (value i) index

  cell_typed : (v : Var) (i : Expr) (z : Size) → Holds (word z) (lval.Cell v i) → CellTyped v i z
  cell_typed v i z (inl (lefts.cell h t)) = record { array = h; index_typed = t }
  cell_typed v i z (inr l) = elim l [ ]

  store_size : (a : Access) (z : Size) → Holds (word z) (lval.Store a) → option_or (out-Access a).size (Some z) ≡ Some z
  store_size a z (inl (lefts.access s t)) = ap (λ k. option_or k (Some z)) s
  store_size a z (inr (lefts.access s t)) = ap (λ k. option_or k (Some z)) s

  store_index : (a : Access) (z : Size) → Holds (word z) (lval.Store a) → HasType (value (out-Access a).at) index
  store_index a z (inl (lefts.access s t)) = t
  store_index a z (inr (lefts.access s t)) = t

  -- ---- a word
  pub word_taken : (d : Lval) (z : Size) → IsPlainLeft kinds in_frame d → Holds (word z) d → is_rm (dest_of d) ≡ true → TakesShape kinds in_frame (a_word z) d
  word_taken (lval.Skip at) z to_nothing t h = tt
  word_taken (lval.Var v) z (to_variable x) t h = variable_there is_rm refl v z x t h
  word_taken (lval.Cell v i) z (to_cell x y) t h =
      let k = cell_typed v i z t in
      let c = cell_there kinds in_frame is_rm refl v i z z x k.array refl h in
      (c.count, c.array, sum_there kinds in_frame i y k.index_typed c.good)
  word_taken (lval.Store a) z (to_memory x) t h = memory_there kinds in_frame is_rm refl a z (store_size a z t) (store_index a z t) x h

  -- ---- a word in a fixed register
  no_pinned_cell : (v : Var) (i : Expr) → IsPlain kinds in_frame v → is_pinned (cell_of v i) ≡ true → ⊥
  no_pinned_cell v i (plain.a_word z d k s) h = false≢true (sym (ap (λ q. is_pinned (cell_class q (look_of i).inline (is_index (terms_of i)))) d) ∙ h)
  no_pinned_cell v i (plain.a_slot z d k s) h = false≢true (sym (ap (λ q. is_pinned (cell_class q (look_of i).inline (is_index (terms_of i)))) d) ∙ h)
  no_pinned_cell v i (plain.a_flag d k s) h = false≢true (sym (ap (λ q. is_pinned (cell_class q (look_of i).inline (is_index (terms_of i)))) d) ∙ h)
  no_pinned_cell v i (plain.an_array z n d s) h =
      no_if is_pinned refl (is_index (terms_of i)) (class.Mem (Some z)) refl (sym (ap (λ q. is_pinned (cell_class q (look_of i).inline (is_index (terms_of i)))) d) ∙ h)

  pub pinned_taken : (d : Lval) (z : Size) → IsPlainLeft kinds in_frame d → Holds (word z) d → is_pinned (dest_of d) ≡ true → TakesShape kinds in_frame (a_pinned z) d
  pinned_taken (lval.Skip at) z to_nothing t h = tt
  pinned_taken (lval.Var v) z (to_variable x) t h = variable_there is_pinned refl v z x t h
  pinned_taken (lval.Cell v i) z (to_cell x y) t h = absurd (no_pinned_cell v i x h)
  pinned_taken (lval.Store a) z (to_memory x) t h = absurd (no_if is_pinned refl (is_address (terms_of (out-Access a).at)) (class.Mem (out-Access a).size) refl h)

  -- ---- a flag
  flag_or : (c : Class) → is_skip c ≡ false → is_flag_result c ≡ true → is_flag c ≡ true
  flag_or (class.Reg z) s h = h
  flag_or (class.Mem z) s h = h
  flag_or class.Inline s h = h
  flag_or class.Flag s h = refl
  flag_or (class.Masked m) s h = h
  flag_or class.Skip s h = absurd (false≢true (sym s))
  flag_or class.Other s h = h

  no_skip : (v : Var) → IsPlain kinds in_frame v → is_skip (var_class (known_of v)) ≡ false
  no_skip v (plain.a_word z d k s) = ap (λ q. is_skip (var_class q)) d
  no_skip v (plain.a_slot z d k s) = ap (λ q. is_skip (var_class q)) d
  no_skip v (plain.a_flag d k s) = ap (λ q. is_skip (var_class q)) d
  no_skip v (plain.an_array z n d s) = ap (λ q. is_skip (var_class q)) d

  pub flag_taken : (d : Lval) → IsPlainLeft kinds in_frame d → is_flag_result (dest_of d) ≡ true → TakesShape kinds in_frame a_flag d
  flag_taken (lval.Skip at) to_nothing h = tt
  flag_taken (lval.Var v) (to_variable x) h = flag_variable kinds in_frame v x (flag_or (var_class (known_of v)) (no_skip v x) h)
  flag_taken (lval.Cell v i) (to_cell x y) h = absurd (no_cell is_flag_result (λ z. refl) (λ z. refl) refl (known_of v) (look_of i).inline (is_index (terms_of i)) h)
  flag_taken (lval.Store a) (to_memory x) h = absurd (no_if is_flag_result refl (is_address (terms_of (out-Access a).at)) (class.Mem (out-Access a).size) refl h)

pub words_are_taken : WordsAreTaken
words_are_taken kinds in_frame d z x t h = word_taken kinds in_frame d z x t h

pub pinned_are_taken : PinnedAreTaken
pinned_are_taken kinds in_frame d z x t h = pinned_taken kinds in_frame d z x t h

pub flags_are_taken : FlagsAreTaken
flags_are_taken kinds in_frame d x h = flag_taken kinds in_frame d x h
