-- Products and divisions.
use Rattle.std.proofs.Common.{◌≡◌, ℕ, ◌+◌, Bool, true, false, List, [], ◌∷◌, ◌++◌, Option, Some, refl, sym, ap, ◌∙◌, subst, append-nil}
use Rattle.std.specs.Prelude.{All, ◌&&◌}
use Rattle.std.proofs.lemmas.Bool.{and_parts}
use Rattle.std.proofs.lemmas.List.Elements.{All-head, All-tail}
use Rattle.jz_words.specs.declared.size.Size.{Size}
use Rattle.x64_insn.specs.declared.types.Wide.TheVariants as wide
use Rattle.jz_tree.specs.Span.{Span}
use Rattle.jz_tree.specs.declared.expr.BinOp.TheVariants as op
use Rattle.jz_tree.specs.declared.expr.Expr.{Expr}
use Rattle.jz_tree.specs.declared.expr.Expr.TheVariants as expr
use Rattle.jz_tree.specs.declared.stmt.Lval.{Lval}
use Rattle.jz_operations.specs.declared.operation.Action.{Action}
use Rattle.jz_operations.specs.declared.operation.Action.TheVariants as action
use Rattle.jz_operations.specs.Rows.{low_at, high_at}
use Rattle.jz_encodable.specs.Encodable.{CanEncode}
use Rattle.jz_change.specs.declared.change.Numbers.{Numbers}
use Rattle.jz_change.specs.declared.change.Numbers.TheVariants.{These}
use Rattle.jz_homes.specs.Homes.{Homes}
use Rattle.jz_homes.specs.Operands.{Leaks, count_of, IsArg}
use Rattle.jz_row_operations.specs.Rows.{NotImm}
use Rattle.jz_row_operations.specs.Table.{is_imm}
use Rattle.jz_row_operations.specs.Lowering.{numbers_from, HasRow}
use Rattle.jz_one_row.proofs.Operands.{one_arg}
use Rattle.jz_flag_rows.specs.Results.{IsPinned}
use Rattle.jz_flag_rows.specs.Wide.{IsLong, is_apart, three_from, divide_two_code, divide_two_shown}
use Rattle.jz_one_flag_row.specs.Forms.{IsLongDivision}
use Rattle.jz_one_flag_row.proofs.OneParts.{one_pinned}
use Rattle.jz_operands.specs.declared.operands.Operand.{Operand}
use Rattle.jz_operands.specs.TableHomes.{homes_of, leaks_of}
use Rattle.jz_operands.specs.Refusals.{NeverArg}
use Rattle.jz_rows.specs.Rows as rows
use Rattle.jz_rows.specs.Rows.{nth_of, acts_of}
use Rattle.jz_rows.specs.Found.{Times, TimesBy, NeverBy}
use Rattle.jz_rows.specs.declared.row.Row.{Row}
use Rattle.jz_rows.specs.declared.targets.Target.{Target}
use Rattle.jz_rows.proofs.Dispatch.{product_never}
use Rattle.jz_rows.proofs.FieldLemmas.{mov_fields, wide_fields}
use Rattle.jz_pinned_rows.specs.declared.row.Acts.{Acts}
use Rattle.jz_pinned_rows.specs.declared.row.Divided.{Divided}
use Rattle.jz_pinned_rows.specs.Rows.{actions_of, items_of, three_in, Nowhere}
use Rattle.jz_pinned_rows.proofs.PartLemmas.{no_imm, clash}
use Rattle.jz_instructions.specs.declared.products.Words.{Words}
use Rattle.jz_instructions.specs.declared.products.Three.{Three}
use Rattle.jz_instructions.specs.InnerRows.{AreTwoWords, NeverTwoWords, AreThree, NeverThree, divided_apart}

-- ---- signed products
pub times_is : (t : Target) (e : Expr) (r : Row) (s : Acts) → HasRow (homes_of t.homes.now) t.size t.to.now e (acts_of r) (rows.items_of r) → actions_of s ≡ acts_of r → items_of s ≡ rows.items_of r → HasRow (homes_of t.homes.now) t.size t.to.now e (actions_of s) (items_of s)
times_is t e r s h f g =
    subst (λ acts. HasRow (homes_of t.homes.now) t.size t.to.now e acts (items_of s)) (sym f) (subst (λ items. HasRow (homes_of t.homes.now) t.size t.to.now e (acts_of r) items) (sym g) h)

pub times_never : (t : Target) (a b : Expr) (at : Span) → NeverBy Times t (expr.Bin op.Mul a b at) × NeverBy TimesBy t (expr.Bin op.Mul a b at)
    → (acts : List Action) (items : List Numbers) → HasRow (homes_of t.homes.now) t.size t.to.now (expr.Bin op.Mul a b at) acts items → All CanEncode acts → ⊥
times_never t a b at none acts items row can = product_never t a b at none acts items row can

-- ---- two words
module _ (home : Homes) (z : Size) (q r : Lval) where
  pub words_short : (IsLong z → ⊥) → NeverTwoWords home z q r
  words_short none k j long f g = none long

  pub no_quotient : Nowhere (IsPinned home z q) → NeverTwoWords home z q r
  no_quotient none k j long f g = none k f

  pub no_remainder : Nowhere (IsPinned home z r) → NeverTwoWords home z q r
  no_remainder none k j long f g = none j g

-- ---- three operands
module _ (home : Homes) (z : Size) (hi lo by : Expr) where
  pub no_high : NeverArg home z hi → NeverThree home z hi lo by
  no_high none x y w p s u f g h ni hx hy hw = none x p f hx

  pub no_low : NeverArg home z lo → NeverThree home z hi lo by
  no_low none x y w p s u f g h ni hx hy hw = none y s g hy

  pub no_divisor : NeverArg home z by → NeverThree home z hi lo by
  no_divisor none x y w p s u f g h ni hx hy hw = none w u h hw

  pub imm_divisor : (d : Operand) → IsArg home z by d.arg (leaks_of d.leaks) → is_imm d.arg ≡ true → NeverThree home z hi lo by
  imm_divisor d found i x y w p s u f g h ni hx hy hw = no_imm d.arg i (subst NotImm (sym (one_arg home z by d.arg w (leaks_of d.leaks) u found h).0) ni)

-- ---- the row
module _ (home : Homes) (z : Size) (q r : Lval) (hi lo by : Expr) where
  abbrev Never : Type 0
  Never = (acts : List Action) (items : List Numbers) → IsLongDivision home z q r hi lo by acts items → All CanEncode acts → ⊥

  pub division_words : NeverTwoWords home z q r → Never
  division_words none acts items h can = none h.quotient h.remainder h.long h.first_to h.second_to

  pub division_operands : NeverThree home z hi lo by → Never
  division_operands none acts items h can =
      let c = subst (All CanEncode) h.code can in
      let low = action.Mov z (low_at h.quotient) h.y in
      let high = action.Mov z (high_at h.remainder) h.x in
      let last = action.Wide wide.Div z h.quotient h.remainder h.w in
      let rest = All-tail CanEncode low (high ∷ last ∷ []) c in
      none h.x h.y h.w h.p h.s h.u h.high h.low h.by h.no_number
      (mov_fields z (high_at h.remainder) h.x (All-head CanEncode high (last ∷ []) rest)).1
      (mov_fields z (low_at h.quotient) h.y (All-head CanEncode low (high ∷ last ∷ []) c)).1
      (wide_fields wide.Div z h.quotient h.remainder h.w (All-head CanEncode last [] (All-tail CanEncode high (last ∷ []) rest)))

  both_true : (a b c : Bool) → a ≡ true → b ≡ true → c ≡ true → ((a && b) && c) ≡ true
  both_true true true true e f g = refl
  both_true false b c e f g = absurd cc
  both_true true false c e f g = absurd cc
  both_true true true false e f g = absurd cc

  module _ (w : Words) (t : Three) (words : AreTwoWords home z q r w) (three : AreThree home z hi lo by t) where
    pub not_apart : divided_apart w.first w.second t.high.arg t.by.arg ≡ false → Never
    not_apart none acts items h can =
        let d = one_pinned home z q w.first h.quotient words.first h.first_to in
        let e = one_pinned home z r w.second h.remainder words.second h.second_to in
        let x = one_arg home z hi t.high.arg h.x (leaks_of t.high.leaks) h.p three.high h.high in
        let b = one_arg home z by t.by.arg h.w (leaks_of t.by.leaks) h.u three.divisor h.by in
        clash (divided_apart w.first w.second t.high.arg t.by.arg) none
        ((λ i. divided_apart (d i) (e i) (x.0 i) (b.0 i)) ∙ both_true (is_apart h.quotient h.x) (is_apart h.quotient h.w) (is_apart h.remainder h.w) h.high_apart h.quotient_apart h.remainder_apart)

    pub division_is : (s : Acts) → divided_apart w.first w.second t.high.arg t.by.arg ≡ true → actions_of s ≡ divide_two_code z w.first w.second t.high.arg t.low.arg t.by.arg
        → items_of s ≡ divide_two_shown (leaks_of t.high.leaks) (leaks_of t.low.leaks) (leaks_of t.by.leaks) → IsLongDivision home z q r hi lo by (actions_of s) (items_of s)
    division_is s apart code shown =
        let k = and_parts (is_apart w.first t.high.arg && is_apart w.first t.by.arg) (is_apart w.second t.by.arg) apart in
        let l = and_parts (is_apart w.first t.high.arg) (is_apart w.first t.by.arg) k.0 in
        record {
          quotient = w.first;
          remainder = w.second;
          x = t.high.arg;
          y = t.low.arg;
          w = t.by.arg;
          p = leaks_of t.high.leaks;
          s = leaks_of t.low.leaks;
          u = leaks_of t.by.leaks;
          long = words.long;
          first_to = words.first;
          second_to = words.second;
          high = three.high;
          low = three.low;
          by = three.divisor;
          no_number = three.no_number;
          high_apart = l.0;
          quotient_apart = l.1;
          remainder_apart = k.1;
          code = code;
          shown = shown;
        }

-- what the three actions show
pub divide_items : (p s u : Leaks) (a b c : Option ℕ) (n m k : ℕ) (d : Divided) → nth_of a ≡ numbers_from s n → nth_of b ≡ numbers_from p 0 → nth_of c ≡ numbers_from u (n + m) → n ≡ count_of p → m ≡ count_of s → k ≡ count_of u → three_in (Some d) ≡ three_from (n + m + k)
    → ◌≡◌ {A = List Numbers} (These (nth_of a ++ []) ∷ These (nth_of b ++ []) ∷ These ((nth_of c ++ []) ++ three_in (Some d)) ∷ []) (divide_two_shown p s u)
divide_items p s u a b c n m k d e f g i j l h =
    let e2 : nth_of a ++ [] ≡ numbers_from s (count_of p) = append-nil (nth_of a) ∙ e ∙ ap (numbers_from s) i in
    let f2 : nth_of b ++ [] ≡ numbers_from p 0 = append-nil (nth_of b) ∙ f in
    let g2 : nth_of c ++ [] ≡ numbers_from u (count_of p + count_of s) = append-nil (nth_of c) ∙ g ∙ (λ v. numbers_from u (i v + j v)) in
    let h2 : three_in (Some d) ≡ three_from (count_of p + count_of s + count_of u) = h ∙ (λ v. three_from (i v + j v + l v)) in
    (λ v. These (e2 v) ∷ These (f2 v) ∷ These (g2 v ++ h2 v) ∷ [])
