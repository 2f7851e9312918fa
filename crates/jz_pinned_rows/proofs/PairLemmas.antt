-- Assignments to two left sides.
use Rattle.std.proofs.Common.{◌≡◌, Bool, List, [], ◌∷◌, ◌++◌, Option, None, refl, sym, ap, ◌∙◌, subst, append-nil}
use Rattle.std.specs.Prelude.{All}
use Rattle.jz_words.specs.declared.size.Size.{Size}
use Rattle.jz_tree.specs.Span.{Span}
use Rattle.jz_tree.specs.declared.expr.BinOp.{BinOp}
use Rattle.jz_tree.specs.declared.expr.BinOp.TheVariants as op
use Rattle.jz_tree.specs.declared.expr.Expr.{Expr}
use Rattle.jz_tree.specs.declared.expr.Expr.TheVariants as expr
use Rattle.jz_tree.specs.declared.expr.Expr.TheOpen.{Expr-F}
use Rattle.jz_tree.specs.declared.expr.Expr.TheViews.{out-Expr, roll-Expr, roll-out-Expr}
use Rattle.jz_tree.specs.declared.stmt.Lval.{Lval}
use Rattle.jz_meaning.specs.Assignments.{Layer}
use Rattle.jz_operations.specs.declared.operation.Pinned.{Pinned}
use Rattle.jz_operations.specs.declared.operation.Action.{Action}
use Rattle.jz_operations.specs.declared.operation.Flags.{Flags}
use Rattle.jz_encodable.specs.Encodable.{CanEncode}
use Rattle.jz_change.specs.declared.change.Numbers.{Numbers}
use Rattle.jz_change.specs.declared.change.Numbers.TheVariants.{These}
use Rattle.jz_homes.specs.Homes.{Homes}
use Rattle.jz_row_operations.specs.Lowering.{HasRow}
use Rattle.jz_one_row.proofs.Outs.{out_bin}
use Rattle.jz_one_row.proofs.Rows.{one_row}
use Rattle.jz_flag_rows.specs.Results.{IsFlag, carry_alone}
use Rattle.jz_flag_rows.specs.Rows.{IsSumLayer}
use Rattle.jz_one_flag_row.specs.Forms.{IsWideProduct}
use Rattle.jz_one_flag_row.proofs.OneForm.{same_wide}
use Rattle.jz_operands.proofs.SumLemmas.{for_found}
use Rattle.jz_rows.specs.Rows as rows
use Rattle.jz_rows.specs.Rows.{acts_of}
use Rattle.jz_rows.specs.declared.row.Row.{Row}
use Rattle.jz_pinned_rows.specs.declared.row.Acts.{Acts}
use Rattle.jz_pinned_rows.specs.declared.row.PinnedRow.{PinnedRow}
use Rattle.jz_pinned_rows.specs.Rows.{actions_of, items_of, FindsActs, FindsRow, Nowhere}
use Rattle.jz_pinned_rows.specs.InnerRows.{HasCarry, IsProductOf, HasPair, a_carry, a_product, plain_row, Unflagged}
use Rattle.jz_pinned_rows.proofs.ResultLemmas.{plain_finds}
use Rattle.jz_pinned_rows.proofs.DivideLemmas.{bin_op, bin_left, bin_right}

-- ---- a row of one left side
abbrev pub acts_in : Row → Acts
acts_in r = record { before = r.before; between = None; last = r.last; divided = None }

pub row_actions : (r : Row) → actions_of (acts_in r) ≡ acts_of r
row_actions r = refl

pub row_items : (r : Row) → items_of (acts_in r) ≡ rows.items_of r
row_items r = ap (λ i. rows.items_in r.before ++ (These i ∷ [])) (append-nil (rows.nth_of r.last.shown.first ++ rows.nth_of r.last.shown.second))

-- ---- layers
sum_op : (o : BinOp) (a b : Expr) (at : Span) → IsSumLayer (Expr-F.Bin o a b at) → (o ≡ op.Add → ⊥) → (o ≡ op.Sub → ⊥) → ⊥
sum_op op.OrElse a b at h f g = h
sum_op op.AndThen a b at h f g = h
sum_op op.Or a b at h f g = h
sum_op op.Xor a b at h f g = h
sum_op op.And a b at h f g = h
sum_op op.Eq a b at h f g = h
sum_op op.Ne a b at h f g = h
sum_op op.Lt a b at h f g = h
sum_op op.Le a b at h f g = h
sum_op op.Gt a b at h f g = h
sum_op op.Ge a b at h f g = h
sum_op op.LtS a b at h f g = h
sum_op op.LeS a b at h f g = h
sum_op op.GtS a b at h f g = h
sum_op op.GeS a b at h f g = h
sum_op op.Shl a b at h f g = h
sum_op op.Shr a b at h f g = h
sum_op op.Sar a b at h f g = h
sum_op op.Rol a b at h f g = h
sum_op op.Ror a b at h f g = h
sum_op op.Add a b at h f g = f refl
sum_op op.Sub a b at h f g = g refl
sum_op op.Mul a b at h f g = h
sum_op op.Div a b at h f g = h
sum_op op.Rem a b at h f g = h
sum_op op.DivS a b at h f g = h
sum_op op.RemS a b at h f g = h

sum_bin : (l : Layer) → IsSumLayer l → ((o : BinOp) (a b : Expr) (at : Span) → l ≡ Expr-F.Bin o a b at → ⊥) → ⊥
sum_bin (Expr-F.Num i at) h f = h
sum_bin (Expr-F.Expr::Bool b at) h f = h
sum_bin (Expr-F.Var v) h f = h
sum_bin (Expr-F.Cell v i) h f = h
sum_bin (Expr-F.Load a) h f = h
sum_bin (Expr-F.Neg a at) h f = h
sum_bin (Expr-F.Not a at) h f = h
sum_bin (Expr-F.Cast z s a at) h f = h
sum_bin (Expr-F.Bin o a b at) h f = f o a b at refl

whole_bin : (w : Expr) (o : BinOp) (a b : Expr) (at : Span) → out-Expr w ≡ Expr-F.Bin o a b at → w ≡ expr.Bin o a b at
whole_bin w o a b at s = sym (roll-out-Expr w) ∙ ap roll-Expr s ∙ expr.rolls-Bin o a b at

sum_is : (w a b : Expr) (o : BinOp) (at : Span) → w ≡ expr.Bin o a b at → IsSumLayer (out-Expr w) → IsSumLayer (Expr-F.Bin o a b at)
sum_is w a b o at e h = subst IsSumLayer (ap out-Expr e ∙ out_bin o a b at) h

is_sum : (w a b : Expr) (o : BinOp) (at : Span) → w ≡ expr.Bin o a b at → IsSumLayer (Expr-F.Bin o a b at) → IsSumLayer (out-Expr w)
is_sum w a b o at e h = subst IsSumLayer (sym (ap out-Expr e ∙ out_bin o a b at)) h

no_product_op : (w a b c d : Expr) (o : BinOp) (at here : Span) → w ≡ expr.Bin o a b at → (o ≡ op.Mul → ⊥) → w ≡ expr.Bin op.Mul c d here → ⊥
no_product_op w a b c d o at here e none f = none (bin_op o op.Mul a b c d at here (sym e ∙ f))

module _ (home : Homes) (z : Size) (f d : Lval) where
  -- ---- a carry
  abbrev NeverCarry : Expr → Type 0
  NeverCarry w = (fl : Flags) (acts : List Action) (items : List Numbers) → HasCarry home z f d w fl acts items → All CanEncode acts → ⊥

  pub no_carry_flag : (w : Expr) → Nowhere (IsFlag home f) → NeverCarry w
  no_carry_flag w none fl acts items h can = none h.carry h.flag

  pub no_carried_row : (w : Expr) → ((acts : List Action) (items : List Numbers) → HasRow home z d w acts items → All CanEncode acts → ⊥) → NeverCarry w
  no_carried_row w none fl acts items h can = none acts items h.row can

  pub carry_is : (w : Expr) (k : Option Pinned) (r : Row) (s : Acts) (fl : Flags) → IsFlag home f k → HasRow home z d w (acts_of r) (rows.items_of r) → actions_of s ≡ acts_of r → items_of s ≡ rows.items_of r → fl ≡ carry_alone k → HasCarry home z f d w fl (actions_of s) (items_of s)
  carry_is w k r s fl flag row e g h = record {
    carry = k;
    flag = flag;
    flags = h;
    row = subst (λ acts. HasRow home z d w acts (items_of s)) (sym e) (subst (λ items. HasRow home z d w (acts_of r) items) (sym g) row);
  }

  -- ---- both
  abbrev NeverPair : Expr → Type 0
  NeverPair w = (fl : Flags) (acts : List Action) (items : List Numbers) → HasPair home z f d w fl acts items → All CanEncode acts → ⊥

  pair_never : (w : Expr) → (IsSumLayer (out-Expr w) → NeverCarry w) → ((fl : Flags) (acts : List Action) (items : List Numbers) → IsProductOf home z f d w fl acts items → All CanEncode acts → ⊥) → NeverPair w
  pair_never w none other fl acts items (a_carry layer h) can = none layer fl acts items h can
  pair_never w none other fl acts items (a_product h) can = other fl acts items h can

  pub carries_pair : (w a b : Expr) (o : BinOp) (at : Span) (s : Option PinnedRow) → w ≡ expr.Bin o a b at → IsSumLayer (Expr-F.Bin o a b at) → (o ≡ op.Mul → ⊥) → FindsRow (HasCarry home z f d w) s → FindsRow (HasPair home z f d w) s
  carries_pair w a b o at s e layer other h =
      for_found s (λ r row. a_carry (is_sum w a b o at e layer) row)
      (λ none. pair_never w (λ l. none) (λ fl acts items p can. no_product_op w a b p.a p.b o at p.here e other p.whole)) h

  product_moved : (a b c e : Expr) (acts : List Action) (items : List Numbers) → a ≡ c → b ≡ e → IsWideProduct home z f d c e acts items → IsWideProduct home z f d a b acts items
  product_moved a b c e acts items p q h = subst (λ u. IsWideProduct home z f d u b acts items) (sym p) (subst (λ u. IsWideProduct home z f d c u acts items) (sym q) h)

  product_is : (w a b a2 b2 : Expr) (o : BinOp) (at : Span) (fl : Flags) (acts : List Action) (items : List Numbers) → w ≡ expr.Bin o a b at → o ≡ op.Mul → a2 ≡ a → b2 ≡ b → Unflagged (IsWideProduct home z f d a2 b2) fl acts items → HasPair home z f d w fl acts items
  product_is w a b a2 b2 o at fl acts items is mul first second row =
      a_product (record {
        a = a2;
        b = b2;
        here = at;
        whole = is ∙ ap (λ k. expr.Bin k a b at) mul ∙ ap (λ u. expr.Bin op.Mul u b at) (sym first) ∙ ap (λ u. expr.Bin op.Mul a2 u at) (sym second);
        flags = row.0;
        row = row.1;
      })

  pub product_pair : (w a b a2 b2 : Expr) (o : BinOp) (at : Span) (s : Option Acts) (r : Option PinnedRow) → w ≡ expr.Bin o a b at → o ≡ op.Mul → a2 ≡ a → b2 ≡ b → r ≡ plain_row s → FindsActs (IsWideProduct home z f d a2 b2) s → FindsRow (HasPair home z f d w) r
  product_pair w a b a2 b2 o at s r is mul first second same h =
      for_found r (λ t row. product_is w a b a2 b2 o at t.flags (actions_of t.acts) (items_of t.acts) is mul first second row)
      (λ none. pair_never w (λ layer. absurd (subst (λ k. IsSumLayer (Expr-F.Bin k a b at)) mul (sum_is w a b o at is layer)))
      (λ fl acts items p can.
      let e = sym is ∙ p.whole in
      none fl acts items (p.flags, product_moved a2 b2 p.a p.b acts items (first ∙ bin_left o op.Mul a b p.a p.b at p.here e) (second ∙ bin_right o op.Mul a b p.a p.b at p.here e) p.row) can))
      (plain_finds (IsWideProduct home z f d a2 b2) s r same h)

  pub no_pair_op : (w a b : Expr) (o : BinOp) (at : Span) → w ≡ expr.Bin o a b at → (o ≡ op.Mul → ⊥) → (o ≡ op.Add → ⊥) → (o ≡ op.Sub → ⊥) → NeverPair w
  no_pair_op w a b o at is mul add sub =
      pair_never w (λ layer. absurd (sum_op o a b at (sum_is w a b o at is layer) add sub)) (λ fl acts items p can. no_product_op w a b p.a p.b o at p.here is mul p.whole)

  pub no_pair : (w : Expr) → ((o : BinOp) (a b : Expr) (at : Span) → w ≡ expr.Bin o a b at → ⊥) → NeverPair w
  no_pair w none =
      pair_never w (λ layer. absurd (sum_bin (out-Expr w) layer (λ o a b at s. none o a b at (whole_bin w o a b at s)))) (λ fl acts items p can. none op.Mul p.a p.b p.here p.whole)

  -- ---- one list of actions
  no_both : (w a b : Expr) (at : Span) → IsSumLayer (out-Expr w) → w ≡ expr.Bin op.Mul a b at → ⊥
  no_both w a b at layer e = sum_is w a b op.Mul at e layer

  pub same_pair : (w : Expr) (fl fu : Flags) (acts us : List Action) (items js : List Numbers) → HasPair home z f d w fl acts items → HasPair home z f d w fu us js → acts ≡ us
  same_pair w fl fu acts us items js (a_carry layer h) (a_carry layer2 g) = (one_row home z d w acts us items js h.row g.row).0
  same_pair w fl fu acts us items js (a_carry layer h) (a_product g) = absurd (no_both w g.a g.b g.here layer g.whole)
  same_pair w fl fu acts us items js (a_product h) (a_carry layer g) = absurd (no_both w h.a h.b h.here layer h.whole)
  same_pair w fl fu acts us items js (a_product h) (a_product g) =
      let e = sym h.whole ∙ g.whole in
      (same_wide home z acts us items js f d h.a h.b h.row (product_moved h.a h.b g.a g.b us js (bin_left op.Mul op.Mul h.a h.b g.a g.b h.here g.here e) (bin_right op.Mul op.Mul h.a h.b g.a g.b h.here g.here e) g.row)).0
