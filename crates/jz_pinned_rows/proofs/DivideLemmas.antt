-- Quotients and remainders.
use Rattle.std.proofs.Common.{◌≡◌, ℕ, ◌+◌, true, false, List, [], ◌∷◌, ◌++◌, Option, Some, None, sym, ap, ◌∙◌, subst, append-nil}
use Rattle.std.specs.Prelude.{All, if◌then◌else◌}
use Rattle.std.proofs.lemmas.List.Elements.{All-head, All-tail}
use Rattle.jz_words.specs.declared.size.Size.{Size}
use Rattle.x64_insn.specs.declared.types.Wide.{Wide}
use Rattle.jz_tree.specs.Span.{Span}
use Rattle.jz_tree.specs.declared.expr.BinOp.{BinOp}
use Rattle.jz_tree.specs.declared.expr.Expr.{Expr}
use Rattle.jz_tree.specs.declared.expr.Expr.TheVariants as expr
use Rattle.jz_tree.specs.declared.expr.Expr.TheOpen.{Expr-F}
use Rattle.jz_tree.specs.declared.expr.Expr.TheViews.{out-Expr}
use Rattle.jz_tree.specs.declared.stmt.Lval.{Lval}
use Rattle.jz_meaning.specs.Assignments.{Layer}
use Rattle.jz_operations.specs.declared.operation.Pinned.{Pinned}
use Rattle.jz_operations.specs.declared.operation.Arg.{Arg}
use Rattle.jz_operations.specs.declared.operation.Action.{Action}
use Rattle.jz_operations.specs.declared.operation.Action.TheVariants as action
use Rattle.jz_operations.specs.Rows.{low_at}
use Rattle.jz_operations.proofs.Somes.{same_some}
use Rattle.jz_encodable.specs.Encodable.{CanEncode}
use Rattle.jz_change.specs.declared.change.Numbers.{Numbers}
use Rattle.jz_change.specs.declared.change.Numbers.TheVariants.{These}
use Rattle.jz_homes.specs.Homes.{Homes}
use Rattle.jz_homes.specs.Operands.{Leaks, count_of}
use Rattle.jz_row_operations.specs.Lowering.{numbers_from}
use Rattle.jz_one_row.proofs.Outs.{out_bin}
use Rattle.jz_one_row.proofs.Operands.{one_arg}
use Rattle.jz_flag_rows.specs.Results.{IsPinned}
use Rattle.jz_flag_rows.specs.Wide.{IsLong, is_apart, is_quotient, divider, high_code, divide_code, quotient_code, three_from, divide_shown}
use Rattle.jz_one_flag_row.proofs.OneParts.{one_pinned}
use Rattle.jz_operands.specs.TableHomes.{leaks_of}
use Rattle.jz_operands.specs.Refusals.{HasFields}
use Rattle.jz_operands.proofs.SumLemmas.{for_found}
use Rattle.jz_rows.specs.Rows.{nth_of}
use Rattle.jz_rows.proofs.FieldLemmas.{mov_fields, wide_fields}
use Rattle.jz_pinned_rows.specs.declared.parts.Operands.{Operands}
use Rattle.jz_pinned_rows.specs.declared.row.Acts.{Acts}
use Rattle.jz_pinned_rows.specs.declared.row.Divided.{Divided}
use Rattle.jz_pinned_rows.specs.Rows.{actions_of, items_of, three_in, FindsActs, AreWords, NeverWords, Nowhere}
use Rattle.jz_pinned_rows.specs.InnerRows.{IsQuotient, IsQuotientOf}
use Rattle.jz_pinned_rows.proofs.PartLemmas.{clash}
use Rattle.jz_pinned_rows.proofs.WideLemmas.{when_true, when_false}

-- ---- what the three actions show
pub divide_items : (p q : Leaks) (s o : Option ℕ) (n m : ℕ) (d : Divided) → nth_of s ≡ numbers_from p 0 → nth_of o ≡ numbers_from q n → n ≡ count_of p → m ≡ count_of q → three_in (Some d) ≡ three_from (n + m)
    → ◌≡◌ {A = List Numbers} (These (nth_of s ++ []) ∷ These [] ∷ These ((nth_of o ++ []) ++ three_in (Some d)) ∷ []) (divide_shown p q)
divide_items p q s o n m d e f g h k =
    let e2 : nth_of s ++ [] ≡ numbers_from p 0 = append-nil (nth_of s) ∙ e in
    let f2 : nth_of o ++ [] ≡ numbers_from q (count_of p) = append-nil (nth_of o) ∙ f ∙ ap (numbers_from q) g in
    let k2 : three_in (Some d) ≡ three_from (count_of p + count_of q) = k ∙ (λ i. three_from (g i + h i)) in
    (λ i. These (e2 i) ∷ These [] ∷ These (f2 i ++ k2 i) ∷ [])

pub divide_actions : (w : Wide) (z : Size) (l h : Option Pinned) (x y : Arg) (half : Action) → half ≡ high_code w z l h → ◌≡◌ {A = List Action} (action.Mov z (low_at l) x ∷ half ∷ action.Wide w z l h y ∷ []) (divide_code w z l h x y)
divide_actions w z l h x y half e = ap (λ u. action.Mov z (low_at l) x ∷ u ∷ action.Wide w z l h y ∷ []) e

-- ---- the place of the result
pub quotient_code_is : (o : BinOp) (w : Wide) (z : Size) (k : Pinned) (x y : Arg) → is_quotient o ≡ true → divide_code w z (Some k) None x y ≡ quotient_code o w z k x y
quotient_code_is o w z k x y e =
    let f = when_true {A = Option Pinned} (is_quotient o) (Some k) None e in
    let g = when_true {A = Option Pinned} (is_quotient o) None (Some k) e in
    (λ i. divide_code w z (sym f i) (sym g i) x y)

pub remainder_code_is : (o : BinOp) (w : Wide) (z : Size) (k : Pinned) (x y : Arg) → is_quotient o ≡ false → divide_code w z None (Some k) x y ≡ quotient_code o w z k x y
remainder_code_is o w z k x y e =
    let f = when_false {A = Option Pinned} (is_quotient o) (Some k) None e in
    let g = when_false {A = Option Pinned} (is_quotient o) None (Some k) e in
    (λ i. divide_code w z (sym f i) (sym g i) x y)

-- ---- operands that have fields
by_code : (w : Wide) (z : Size) (l h : Option Pinned) (x y : Arg) → All CanEncode (divide_code w z l h x y) → HasFields x × HasFields y
by_code w z l h x y can =
    let copy = action.Mov z (low_at l) x in
    let half = high_code w z l h in
    let last = action.Wide w z l h y in (
      (mov_fields z (low_at l) x (All-head CanEncode copy (half ∷ last ∷ []) can)).1,
      wide_fields w z l h y (All-head CanEncode last [] (All-tail CanEncode half (last ∷ []) (All-tail CanEncode copy (half ∷ last ∷ []) can))),
    )

-- ---- the row
module _ (home : Homes) (z : Size) (r : Lval) (o : BinOp) (a b : Expr) where
  abbrev Never : Type 0
  Never = (acts : List Action) (items : List Numbers) → IsQuotient home z r o a b acts items → All CanEncode acts → ⊥

  no_wide : (w : Wide) → ◌≡◌ {A = Option Wide} None (Some w) → ⊥
  no_wide w e = absurd cc

  pub no_divider : divider o ≡ None → Never
  no_divider none acts items h can = no_wide h.kind (sym none ∙ h.divides)

  pub quotient_short : (IsLong z → ⊥) → Never
  quotient_short none acts items h can = none h.long

  pub no_result : Nowhere (IsPinned home z r) → Never
  no_result none acts items h can = none (Some h.variable) h.result

  no_some : (k : Pinned) → ◌≡◌ {A = Option Pinned} None (Some k) → ⊥
  no_some k e = absurd cc

  pub dropped_result : (k : Option Pinned) → k ≡ None → IsPinned home z r k → Never
  dropped_result k is pin acts items h can = no_some h.variable (sym is ∙ one_pinned home z r k (Some h.variable) pin h.result)

  pub quotient_words : NeverWords home z a b → Never
  quotient_words none acts items h can =
      let f = by_code h.kind z (if is_quotient o then Some h.variable else None) (if is_quotient o then None else Some h.variable) h.x h.y (subst (All CanEncode) h.code can) in
      none h.x h.y h.p h.q h.first h.second h.no_number f.0 f.1

  pub not_apart : (k : Option Pinned) (j : Pinned) (t : Operands) → k ≡ Some j → IsPinned home z r k → AreWords home z a b t → is_apart (Some j) t.second.arg ≡ false → Never
  not_apart k j t is pin both none acts items h can =
      let e = one_pinned home z r k (Some h.variable) pin h.result in
      let n = one_arg home z b t.second.arg h.y (leaks_of t.second.leaks) h.q both.both.second h.second in
      clash (is_apart (Some j) t.second.arg) none ((λ i. is_apart ((sym is ∙ e) i) (n.0 i)) ∙ h.apart)

  pub quotient_is : (w : Wide) (k : Option Pinned) (j : Pinned) (t : Operands) (s : Acts) → divider o ≡ Some w → IsLong z → k ≡ Some j → IsPinned home z r k → AreWords home z a b t → is_apart (Some j) t.second.arg ≡ true
      → actions_of s ≡ quotient_code o w z j t.first.arg t.second.arg → items_of s ≡ divide_shown (leaks_of t.first.leaks) (leaks_of t.second.leaks) → IsQuotient home z r o a b (actions_of s) (items_of s)
  quotient_is w k j t s div long is pin both apart code shown = record {
    kind = w;
    variable = j;
    x = t.first.arg;
    y = t.second.arg;
    p = leaks_of t.first.leaks;
    q = leaks_of t.second.leaks;
    divides = div;
    long = long;
    result = subst (IsPinned home z r) is pin;
    first = both.both.first;
    second = both.both.second;
    no_number = both.no_number;
    apart = apart;
    code = code;
    shown = shown;
  }

  pub one_quotient : (acts us : List Action) (items js : List Numbers) → IsQuotient home z r o a b acts items → IsQuotient home z r o a b us js → acts ≡ us
  one_quotient acts us items js h g =
      let w = same_some h.kind g.kind (sym h.divides ∙ g.divides) in
      let k = same_some h.variable g.variable (one_pinned home z r (Some h.variable) (Some g.variable) h.result g.result) in
      let m = one_arg home z a h.x g.x h.p g.p h.first g.first in
      let n = one_arg home z b h.y g.y h.q g.q h.second g.second in
      h.code ∙ (λ i. quotient_code o (w i) z (k i) (m.0 i) (n.0 i)) ∙ sym g.code

-- ---- by the right side
bin_layer : (o p : BinOp) (a b c d : Expr) (r s : Span) → expr.Bin o a b r ≡ expr.Bin p c d s → ◌≡◌ {A = Layer} (Expr-F.Bin o a b r) (Expr-F.Bin p c d s)
bin_layer o p a b c d r s e = sym (out_bin o a b r) ∙ ap out-Expr e ∙ out_bin p c d s

pub bin_op : (o p : BinOp) (a b c d : Expr) (r s : Span) → expr.Bin o a b r ≡ expr.Bin p c d s → o ≡ p
bin_op o p a b c d r s e = let f = bin_layer o p a b c d r s e in cc

pub bin_left : (o p : BinOp) (a b c d : Expr) (r s : Span) → expr.Bin o a b r ≡ expr.Bin p c d s → a ≡ c
bin_left o p a b c d r s e = let f = bin_layer o p a b c d r s e in cc

pub bin_right : (o p : BinOp) (a b c d : Expr) (r s : Span) → expr.Bin o a b r ≡ expr.Bin p c d s → b ≡ d
bin_right o p a b c d r s e = let f = bin_layer o p a b c d r s e in cc

module _ (home : Homes) (z : Size) (r : Lval) where
  -- a row of these parts, whose whole is that of other ones
  moved : (o p : BinOp) (a b c d : Expr) (acts : List Action) (items : List Numbers) → o ≡ p → a ≡ c → b ≡ d → IsQuotient home z r p c d acts items → IsQuotient home z r o a b acts items
  moved o p a b c d acts items e f g h =
      subst (λ k. IsQuotient home z r k a b acts items) (sym e) (subst (λ u. IsQuotient home z r p u b acts items) (sym f) (subst (λ u. IsQuotient home z r p c u acts items) (sym g) h))

  pub quotient_finds : (w : Expr) (o : BinOp) (a b a2 b2 : Expr) (here : Span) (s : Option Acts) → w ≡ expr.Bin o a b here → a2 ≡ a → b2 ≡ b → FindsActs (IsQuotient home z r o a2 b2) s → FindsActs (IsQuotientOf home z r w) s
  quotient_finds w o a b a2 b2 here s is first second h =
      for_found s
      (λ t row. record { operator = o; a = a2; b = b2; here = here; whole = is ∙ ap (λ u. expr.Bin o u b here) (sym first) ∙ ap (λ u. expr.Bin o a2 u here) (sym second); row = row })
      (λ none acts items q can.
      let e = sym is ∙ q.whole in
      none acts items
      (moved o q.operator a2 b2 q.a q.b acts items (bin_op o q.operator a b q.a q.b here q.here e) (first ∙ bin_left o q.operator a b q.a q.b here q.here e) (second ∙ bin_right o q.operator a b q.a q.b here q.here e) q.row) can) h

  pub no_quotient : (w : Expr) → ((o : BinOp) (a b : Expr) (here : Span) → w ≡ expr.Bin o a b here → ⊥) → (acts : List Action) (items : List Numbers) → IsQuotientOf home z r w acts items → All CanEncode acts → ⊥
  no_quotient w none acts items q can = none q.operator q.a q.b q.here q.whole

  pub same_quotient : (w : Expr) (acts us : List Action) (items js : List Numbers) → IsQuotientOf home z r w acts items → IsQuotientOf home z r w us js → acts ≡ us
  same_quotient w acts us items js h g =
      let e = sym h.whole ∙ g.whole in
      one_quotient home z r h.operator h.a h.b acts us items js h.row
      (moved h.operator g.operator h.a h.b g.a g.b us js (bin_op h.operator g.operator h.a h.b g.a g.b h.here g.here e) (bin_left h.operator g.operator h.a h.b g.a g.b h.here g.here e) (bin_right h.operator g.operator h.a h.b g.a g.b h.here g.here e) g.row)
