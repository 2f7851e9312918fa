-- What an operation draws.
use Rattle.std.proofs.Common.{◌≡◌, inl, ◌≤◌, ℕ, suc, ◌+◌, List, [], ◌∷◌, ◌++◌, length, Option, Some, None, refl, sym, ap, ◌∙◌, subst, arith, append_assoc, length-append}
use Rattle.jz_tree.specs.Span.{Span}
use Rattle.jz_tree.specs.declared.expr.BinOp.{BinOp}
use Rattle.jz_tree.specs.declared.expr.Expr.{Expr}
use Rattle.jz_tree.specs.declared.stmt.Lval.{Lval}
use Rattle.jz_tree.specs.declared.stmt.Rhs.{Rhs}
use Rattle.jz_tree.specs.declared.stmt.Rhs.TheVariants as rhs
use Rattle.jz_meaning.specs.Runs.{assign_tree}
use Rattle.jz_meaning.specs.Statements.{Operation, assign, instruction, meaningless, Block}
use Rattle.jz_runs.specs.Trees.{op}
use Rattle.jz_labels.specs.Operations.{Left, Plain, plain_of}
use Rattle.jz_required.specs.Readings.{Reading, right_reading}
use Rattle.jz_secrets.specs.Graphs.{Arrow}
use Rattle.jz_drawing.specs.Drawings.{View, next, put_lefts, lefts_arrows, lefts_asked, arrows_from, asks_in, new_arrow, drawn_operation}
use Rattle.jz_drawing.specs.Draws.{Draws}
use Rattle.jz_drawing.proofs.Operating.{op_drawn}
use Rattle.jz_drawing.proofs.Pieces.{meaningless_drawn}
use Rattle.jz_drawn_labels.specs.declared.drawing.Drawing.{Drawing}
use Rattle.jz_drawn_labels.specs.Kept.{view_of, IsLow}
use Rattle.jz_drawn_labels.specs.Drew.{no_callees, IsDrawn, Drew}
use Rattle.jz_drawn_labels.specs.InnerLefts.{lefts_drawn}
use Rattle.jz_drawn_labels.proofs.Lefts.{same_view, lefts_are}
use Rattle.jz_drawn_labels.proofs.Sheets.{arrows_long}

-- by its label, its left sides and what it reads
abbrev drawn_by : ℕ → List Left → Reading → View → View
drawn_by n ds r v = record {
  nodes = put_lefts n ds v.nodes;
  arrows = v.arrows ++ (new_arrow (next v) ∷ (arrows_from v.nodes r.origins n ++ lefts_arrows n ds));
  asked = v.asked ++ (asks_in v.nodes r.demands ++ lefts_asked n ds v.nodes);
}

module _ (v m w : View) (n : ℕ) (r : Reading) (ds : List Left) (b : List Arrow) (nodes : m.nodes ≡ v.nodes) (new : b ≡ v.arrows ++ new_arrow (next v) ∷ []) (arrows : m.arrows ≡ b ++ arrows_from v.nodes r.origins n)
    (asked : m.asked ≡ v.asked ++ asks_in v.nodes r.demands) (is : w ≡ lefts_drawn n ds m) where
  arrows_are : m.arrows ≡ (v.arrows ++ new_arrow (next v) ∷ []) ++ arrows_from v.nodes r.origins n
  arrows_are = arrows ∙ ap (λ (xs : List Arrow). xs ++ arrows_from v.nodes r.origins n) new

  pub drawn_is : w ≡ drawn_by n ds r v
  drawn_is =
      is
      ∙ ap (lefts_drawn n ds) (same_view m (record { nodes = v.nodes; arrows = (v.arrows ++ new_arrow (next v) ∷ []) ++ arrows_from v.nodes r.origins n; asked = v.asked ++ asks_in v.nodes r.demands }) nodes arrows_are asked)
      ∙ lefts_are n ds (record { nodes = v.nodes; arrows = (v.arrows ++ new_arrow (next v) ∷ []) ++ arrows_from v.nodes r.origins n; asked = v.asked ++ asks_in v.nodes r.demands })
      ∙ same_view
      (record {
        nodes = put_lefts n ds v.nodes;
        arrows = ((v.arrows ++ new_arrow (next v) ∷ []) ++ arrows_from v.nodes r.origins n) ++ lefts_arrows n ds;
        asked = (v.asked ++ asks_in v.nodes r.demands) ++ lefts_asked n ds v.nodes;
      })
      (drawn_by n ds r v) refl
      (append_assoc (v.arrows ++ new_arrow (next v) ∷ []) (arrows_from v.nodes r.origins n) (lefts_arrows n ds) ∙ append_assoc v.arrows (new_arrow (next v) ∷ []) (arrows_from v.nodes r.origins n ++ lefts_arrows n ds))
      (append_assoc v.asked (asks_in v.nodes r.demands) (lefts_asked n ds v.nodes))

  pub operated : n ≡ next v → (o : Plain) → r ≡ right_reading o → ds ≡ o.to → w ≡ drawn_operation o v
  operated e o h k = drawn_is ∙ ap (λ (i : ℕ). drawn_by i ds r v) e ∙ ap (λ (q : Reading). drawn_by (next v) ds q v) h ∙ ap (λ (xs : List Left). drawn_by (next v) xs (right_reading o) v) k

  pub longer : next v ≤ next w
  longer =
      let l : length w.arrows ≡ length v.arrows + length (new_arrow (next v) ∷ (arrows_from v.nodes r.origins n ++ lefts_arrows n ds)) =
      ap (λ (x : View). length x.arrows) drawn_is ∙ length-append v.arrows (new_arrow (next v) ∷ (arrows_from v.nodes r.origins n ++ lefts_arrows n ds)) in
      omega (arith, l)

-- ---- of the code

pub operation_drew : (o : Operation) (old new : Drawing) → IsLow new → new.table.floor ≡ old.table.floor → new.table.layers.below.items ≡ old.table.layers.below.items → view_of new ≡ drawn_operation (plain_of o) (view_of old) → Drew (op o) old new
operation_drew o old new l f b e = record {
  low = l;
  below = b;
  risen = inl f;
  draws = subst (λ (x : View). Draws (op o) (view_of old) x) (sym e) (op_drawn o (view_of old));
}

-- nothing is drawn of it
pub nothing_drew : (f : Block → Block) (d : Drawing) → IsDrawn d → Draws f (view_of d) (view_of d) → Drew f d d
nothing_drew f d b k = record { low = b.low; below = refl; risen = inl refl; draws = k }

meaningless_drew : (at : Span) (d : Drawing) → IsDrawn d → Drew (op (meaningless at)) d d
meaningless_drew at d b = nothing_drew (op (meaningless at)) d b (meaningless_drawn at (view_of d))

-- ---- assignments by their right sides

module _ (to : List Lval) (o : Option BinOp) (r : Rhs) (c : Option Expr) (at : Span) (old new : Drawing) where
  pub value_drew : (e : Expr) → r ≡ rhs.Value e → Drew (op (assign to o e c at)) old new → Drew (assign_tree no_callees to o r c at) old new
  value_drew e h d = subst (λ (x : Rhs). Drew (assign_tree no_callees to o x c at) old new) (sym h) d

  pub instruction_drew : (n : List ℕ) (args : List Expr) (place : Span) → r ≡ rhs.Intrinsic n args place → o ≡ None → c ≡ None → Drew (op (instruction to n args place)) old new → Drew (assign_tree no_callees to o r c at) old new
  instruction_drew n args place h p q d =
      subst (λ (x : Rhs). Drew (assign_tree no_callees to o x c at) old new) (sym h)
      (subst (λ (x : Option BinOp). Drew (assign_tree no_callees to x (rhs.Intrinsic n args place) c at) old new) (sym p)
      (subst (λ (x : Option Expr). Drew (assign_tree no_callees to None (rhs.Intrinsic n args place) x at) old new) (sym q) d))

module _ (to : List Lval) (o : Option BinOp) (r : Rhs) (c : Option Expr) (at : Span) (d : Drawing) (b : IsDrawn d) where
  pub call_drew : (n : List ℕ) (args : List Expr) (place : Span) → r ≡ rhs.Call n args place → Drew (assign_tree no_callees to o r c at) d d
  call_drew n args place h = subst (λ (x : Rhs). Drew (assign_tree no_callees to o x c at) d d) (sym h) (meaningless_drew place d b)

  pub operated_drew : (n : List ℕ) (args : List Expr) (place : Span) (p : BinOp) → r ≡ rhs.Intrinsic n args place → o ≡ Some p → Drew (assign_tree no_callees to o r c at) d d
  operated_drew n args place p h e =
      subst (λ (x : Rhs). Drew (assign_tree no_callees to o x c at) d d) (sym h)
      (subst (λ (x : Option BinOp). Drew (assign_tree no_callees to x (rhs.Intrinsic n args place) c at) d d) (sym e) (meaningless_drew place d b))

  pub guarded_drew : (n : List ℕ) (args : List Expr) (place : Span) (p : Expr) → r ≡ rhs.Intrinsic n args place → o ≡ None → c ≡ Some p → Drew (assign_tree no_callees to o r c at) d d
  guarded_drew n args place p h e g =
      subst (λ (x : Rhs). Drew (assign_tree no_callees to o x c at) d d) (sym h)
      (subst (λ (x : Option BinOp). Drew (assign_tree no_callees to x (rhs.Intrinsic n args place) c at) d d) (sym e)
      (subst (λ (x : Option Expr). Drew (assign_tree no_callees to None (rhs.Intrinsic n args place) x at) d d) (sym g) (meaningless_drew place d b)))

-- the next label, as the code counts it
pub next_of : (d : Drawing) (n : ℕ) → n ≡ suc (length d.sheet.edges.items) → n ≡ next (view_of d)
next_of d n e = e ∙ ap suc (sym (arrows_long d.sheet.edges.items))
