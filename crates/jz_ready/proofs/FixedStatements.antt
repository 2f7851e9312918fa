-- What typing and rows give of each statement of a function of a typed text.
use Rattle.std.proofs.Common.{ℕ, List, [], ◌++◌, Option, Some, None, flat_map}
use Rattle.std.specs.Prelude.{All, take, option_to_list, slice_index_or}
use Rattle.std.proofs.lemmas.List.Elements.{All-head, All-weaker}
use Rattle.jz_tree.specs.Spellings.{spelled}
use Rattle.jz_tree.specs.Span.{Span}
use Rattle.jz_tree.specs.declared.expr.BinOp.{BinOp}
use Rattle.jz_tree.specs.declared.expr.Expr.{Expr}
use Rattle.jz_tree.specs.declared.stmt.Lval.{Lval}
use Rattle.jz_tree.specs.declared.stmt.Rhs.{Rhs}
use Rattle.jz_tree.specs.declared.stmt.Rhs.TheVariants as rhs
use Rattle.jz_tree.specs.declared.stmt.StmtKind.TheOpen.{StmtKind-F}
use Rattle.jz_tree.specs.declared.program.Fun.{Fun}
use Rattle.jz_tree.specs.declared.program.Program.{Program}
use Rattle.jz_type_names.specs.Parts.{Layer, layer_of, statements_of, exprs_of, left_exprs, right_exprs, called_by}
use Rattle.jz_type_sizes.specs.Mismatches.{among}
use Rattle.jz_judgement.specs.WellTyped as well
use Rattle.jz_judgement.specs.WellTyped.{WellTyped}
use Rattle.jz_meaning.specs.Assignments.{as_expr}
use Rattle.jz_meaning.specs.Shapes.{Sorts}
use Rattle.jz_run_laws.specs.Kinds.{sorts_of}
use Rattle.jz_row_laws.specs.Numbers.{IsFixed}
use Rattle.jz_row_laws.proofs.Copied.{selected_matches}
use Rattle.jz_texts.specs.Texts.{IsUnmarked}
use Rattle.jz_texts.specs.Declared.{IsFunction}
use Rattle.jz_texts.proofs.Lists.{parted}
use Rattle.jz_typed_runs.specs.TypedTexts.{IsTypedText, kinds_in}
use Rattle.jz_typed_runs.proofs.Numbers.{all_fixed}
use Rattle.jz_bodies.proofs.Variables.{flat_parts}
use Rattle.jz_bodies.proofs.Whole as whole
use Rattle.jz_bodies.proofs.Whole.{all_known}
use Rattle.jz_arrays.specs.Arrays.{IsRead, IsNoCell, flags_before}
use Rattle.jz_ready.proofs.FixedParts.{IsFixedAssign, IsFixedInstruction, left_read}
use Rattle.jz_ready.proofs.NoJoins.{RowAt, no_join, flags_no_cells}

-- what the variables of a function hold
abbrev pub own_sorts : Program → Fun → Sorts
own_sorts q f = sorts_of (kinds_in q f)

-- ---- one statement, without those that stand in it

module _ (q : Program) (f : Fun) where
  abbrev Fx : Expr → Type 0
  Fx e = IsFixed (own_sorts q f) e

  pub record IsFine (x : Layer) : Type 0 where
    pub typed : WellTyped (among q.funs) x
    pub row : RowAt x
    pub fixed : All Fx (exprs_of x)
    pub unmarked : IsUnmarked x
    pub called : All (IsFunction q) (called_by x)

  -- the parts of an assignment
  assigned_parts : (to : List Lval) (o : Option BinOp) (from : Rhs) (c : Option Expr) → All Fx (exprs_of (StmtKind-F.Assign to o from c))
      → All (λ d. IsRead (own_sorts q f) (as_expr d)) to × All Fx (right_exprs from) × All Fx (option_to_list c)
  assigned_parts to o from c h =
      let a = parted Fx (flat_map left_exprs to ++ right_exprs from) (option_to_list c) h in
      let b = parted Fx (flat_map left_exprs to) (right_exprs from) a.0 in (
        All-weaker (λ d. All Fx (left_exprs d)) (λ d. IsRead (own_sorts q f) (as_expr d)) (left_read (own_sorts q f)) to (flat_parts Fx left_exprs to b.0),
        b.1,
        a.1,
      )

  if_fixed : (c : Option Expr) → All Fx (option_to_list c) → IsRead (own_sorts q f) c
  if_fixed None h = tt
  if_fixed (Some e) h = All-head Fx e [] h

  pub assign_fixed : (to : List Lval) (o : Option BinOp) (e : Expr) (c : Option Expr) → IsFine (StmtKind-F.Assign to o (rhs.Value e) c) → IsFixedAssign (own_sorts q f) to o e c
  assign_fixed to o e c g =
      let p = assigned_parts to o (rhs.Value e) c g.fixed in
      record { lefts = p.0; value = All-head Fx e [] p.1; condition = if_fixed c p.2; operation = no_join (among q.funs) to o e c g.typed g.row }

  pub instruction_fixed : (to : List Lval) (n : List ℕ) (args : List Expr) (at : Span) → IsFine (StmtKind-F.Assign to None (rhs.Intrinsic n args at) None) → IsFixedInstruction (own_sorts q f) to n args
  instruction_fixed to n args at g =
      let p = assigned_parts to None (rhs.Intrinsic n args at) None g.fixed in
      record { lefts = p.0; operands = p.1; flags = by_type g.typed }
    where
      by_type : WellTyped (among q.funs) (StmtKind-F.Assign to None (rhs.Intrinsic n args at) None) → All IsNoCell (take (flags_before (spelled n)) to)
      by_type (well.assigned h k) = flags_no_cells (spelled n) to args h

-- ---- all statements

abbrev pub AreFine : Program → Fun → Type 0
AreFine q f = All (λ s. IsFine q f (layer_of s)) (statements_of f.body)

module _ (q : Program) where
  fun_fine : (f : Fun) → whole.IsKnown q f → All (λ s. All (IsFixed (own_sorts q f)) (exprs_of (layer_of s))) (statements_of f.body) → AreFine q f
  fun_fine f k h =
      λ i s l. record {
        typed = k.well.1 i s l;
        row = λ e. (let r = (k.rows i s l).0 e in selected_matches (slice_index_or (statements_of f.body) i s).kind r.0 r.1);
        fixed = h i s l;
        unmarked = k.text.unmarked i s l;
        called = k.names.called i s l;
      }

  pub all_fine : IsTypedText q → All (AreFine q) q.funs
  all_fine h =
      let known = all_known q h.typed h.text in
      let fixed = all_fixed q h in
      λ i f l. fun_fine (slice_index_or q.funs i f) (known i f l) (fixed i f l)
