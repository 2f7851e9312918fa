-- Any operation on two operands that writes the first one, with or without a flag that it reads.
use Rattle.std.proofs.Common.{◌≡◌, ℕ, Bool, true, false, List, [], ◌∷◌, ◌++◌, Option, Some, None, refl, sym, ap, ◌∙◌, subst}
use Rattle.jz_io.specs.declared.span.Span.{Span}
use Rattle.jz_words.specs.declared.size.Size.{Size}
use Rattle.x64_insn.specs.declared.types.Alu.{Alu}
use Rattle.x64_insn.specs.declared.types.Alu.TheVariants as alu
use Rattle.x64_insn.specs.Answers.{alu_answer}
use Rattle.x64_insn.specs.Rows.{writes_operand}
use Rattle.jz_tree.specs.declared.expr.BinOp.{BinOp}
use Rattle.jz_tree.specs.declared.expr.Expr.{Expr}
use Rattle.jz_tree.specs.declared.stmt.Lval.{Lval}
use Rattle.jz_meaning.specs.States.{State}
use Rattle.jz_operations.specs.declared.operation.Pinned.{Pinned}
use Rattle.jz_operations.specs.declared.operation.Arg.{Arg}
use Rattle.jz_operations.specs.declared.operation.Action.TheVariants as action
use Rattle.jz_operations.specs.declared.operation.Flags.{Flags}
use Rattle.jz_operations.specs.Values as over
use Rattle.jz_operations.specs.Rows.{Frame, truth, carry_in, value_of, put, step, with_flags}
use Rattle.jz_operations.specs.Reading.{pinned_var, is_var, found_by}
use Rattle.jz_operations.proofs.OwnVariables.{SameIn, same_left, value_same, same_right}
use Rattle.jz_homes.proofs.Shown.{shown, read_shown, shown_same}
use Rattle.jz_homes.proofs.Writing.{WritesAs}
use Rattle.jz_homes.specs.Homes.{Homes, IsHoming, IsRelated}
use Rattle.jz_homes.specs.Operands.{Leaks, shown_of}
use Rattle.jz_row_operations.specs.Codes.{plain}
use Rattle.jz_row_operations.proofs.Moves.{append_nil}
use Rattle.jz_row_operations.specs.Rows.{IsSumOp, alu_of, commutes, IsCarryOp, carry_alu}
use Rattle.jz_row_operations.proofs.Carries.{carry_swapped, CarryParts}
use Rattle.jz_tree.specs.declared.expr.BinOp.TheVariants as o
use Rattle.jz_row_operations.proofs.Sums.{alu_goes, alu_writes, answer_swapped, NoName, left_same, Parts}
use Rattle.jz_row_operations.proofs.Brought.{Ends, Row, finishes_plain}

carry_same : (σ τ : over.State) (op : Alu) (c : Option Pinned) → SameIn σ τ (pinned_var c) → carry_in op c τ ≡ carry_in op c σ
carry_same σ τ alu.Adc (Some p) h = ap truth h.0
carry_same σ τ alu.Sbb (Some p) h = ap truth h.0
carry_same σ τ alu.Adc None h = refl
carry_same σ τ alu.Sbb None h = refl
carry_same σ τ alu.Add p h = refl
carry_same σ τ alu.Or p h = refl
carry_same σ τ alu.And p h = refl
carry_same σ τ alu.Sub p h = refl
carry_same σ τ alu.Xor p h = refl
carry_same σ τ alu.Cmp p h = refl
carry_same σ τ alu.Test p h = refl

pub alu_step : (frame : Frame) (op : Alu) (at : Span) (fl : Flags) (z : Size) (b y : Arg) (c : Option Pinned) (k : Bool) (left right : ℕ) (τ τ' : over.State) → writes_operand op ≡ true → carry_in op c τ ≡ Some k → value_of frame b z τ ≡ Some left → value_of frame y z τ ≡ Some right
    → put frame b z (alu_answer op z left right k).value τ ≡ Some τ'
    → step frame (record { span = at; action = action.Alu op z b y c; flags = fl }) τ ≡ Some (record { shown = shown b τ ++ (shown y τ ++ []); division = []; state = with_flags (record { span = at; action = action.Alu op z b y c; flags = fl }) (alu_answer op z left right k).flags τ' })
alu_step frame op at fl z b y c k left right τ τ' w a e f g = rw (a, e, f) (rw (read_shown frame b z τ left e, read_shown frame y z τ right f) (rw w (rw g refl)))

pub alu_ends : (frame : Frame) (op : Alu) (y : Arg) (c : Option Pinned) (k : Bool) (at : Span) (fl : Flags) (z : Size) (b : Arg) (σ : over.State) (left right : ℕ) (sh : List ℕ) → writes_operand op ≡ true → carry_in op c σ ≡ Some k → NoName y → value_of frame y z σ ≡ Some right → shown y σ ≡ sh
    → Ends frame (record { span = at; action = action.Alu op z b y c; flags = fl }) z b ((is_var y ++ found_by y) ++ pinned_var c) σ left (alu_answer op z left right k).value (alu_answer op z left right k).flags sh
alu_ends frame op y c k at fl z b σ left right sh w asks nm reads shows = record {
  goes = λ τ τ' same cells memory e f.
      let own = same_left σ τ (is_var y ++ found_by y) (pinned_var c) same in
      let flag = same_right σ τ (is_var y ++ found_by y) (pinned_var c) same in (
        shown b τ ++ (shown y τ ++ []),
        alu_step frame op at fl z b y c k left right τ τ' w (carry_same σ τ op c flag ∙ asks) e (value_same σ τ frame y z own (left_same σ τ y nm) cells memory ∙ reads) f,
        ap (λ l. shown b τ ++ l) (append_nil (shown y τ) ∙ shown_same σ τ y (same_right σ τ (is_var y) (found_by y) own) ∙ shows),
      );
}

pub carry_asks : (op : BinOp) (c : Pinned) (k : Bool) (σ : over.State) → IsCarryOp op → truth (σ.vars c.variable) ≡ Some k → (carry_in (carry_alu op) (Some c) σ ≡ Some k) × (writes_operand (carry_alu op) ≡ true)
carry_asks o.Add c k σ h e = (e, refl)
carry_asks o.Sub c k σ h e = (e, refl)
carry_asks _ c k σ h e = absurd h

module _ (frame : Frame) (home : Homes) (homing : IsHoming frame home) (s : State) (σ : over.State) (related : IsRelated home s σ) where
  -- the row, the first operand being brought
  pub sum_row : (op : BinOp) {z : Size} {d : Lval} {a c : Expr} {x y b : Arg} {p q r : Leaks} (at : Span) (t : State) (ns : List ℕ) → IsSumOp op → NoName y → (k : Parts frame home homing s σ related op z d a c x y p q b r t ns)
      → Row frame home homing s σ related (plain at (action.Alu (alu_of op) z b y None)) z x b p r ((is_var y ++ found_by y) ++ []) (shown_of q k.second) k.first k.third t
  sum_row op {z} {x = x} {y = y} {b = b} at t ns h nm k = record {
    left = k.left;
    reads = k.reads_left;
    small = k.left_small;
    shows = k.shows_left;
    n = _;
    fs = (alu_answer (alu_of op) z k.left k.right false).flags;
    ends = alu_ends frame (alu_of op) y None false at _ z b σ k.left k.right _ (alu_writes op h) (ap (λ f. f σ) (alu_goes op h)) nm k.reads_right k.shows_right;
    finish = finishes_plain frame home homing s σ related at (action.Alu (alu_of op) z b y None) _ t k.writes;
  }

  -- the operands swapped
  pub sum_row_swapped : (op : BinOp) {z : Size} {d : Lval} {a c : Expr} {x y b : Arg} {p q r : Leaks} (at : Span) (t : State) (ns : List ℕ) → IsSumOp op → commutes op ≡ true → NoName x → (k : Parts frame home homing s σ related op z d a c x y p q b r t ns)
      → Row frame home homing s σ related (plain at (action.Alu (alu_of op) z b x None)) z y b q r ((is_var x ++ found_by x) ++ []) (shown_of p k.first) k.second k.third t
  sum_row_swapped op {z} {x = x} {y = y} {b = b} {r = r} at t ns h swaps nm k = record {
    left = k.right;
    reads = k.reads_right;
    small = k.right_small;
    shows = k.shows_right;
    n = _;
    fs = (alu_answer (alu_of op) z k.right k.left false).flags;
    ends = alu_ends frame (alu_of op) x None false at _ z b σ k.right k.left _ (alu_writes op h) (ap (λ f. f σ) (alu_goes op h)) nm k.reads_left k.shows_left;
    finish = finishes_plain frame home homing s σ related at (action.Alu (alu_of op) z b x None) _ t (subst (λ n. WritesAs frame home homing s σ related z b r n k.third t) (sym (answer_swapped op z k.left k.right swaps)) k.writes);
  }

  -- with a flag that is read
  pub carry_row : (op : BinOp) (c : Pinned) {z : Size} {x y b : Arg} {p q r : Leaks} (at : Span) (t : State) (ns : List ℕ) → IsCarryOp op → NoName y → (k : CarryParts frame home homing s σ related op z x y p q b r c.variable t ns)
      → Row frame home homing s σ related (plain at (action.Alu (carry_alu op) z b y (Some c))) z x b p r ((is_var y ++ found_by y) ++ (c.variable ∷ [])) (shown_of q k.second) k.first k.third t
  carry_row op c {z} {x} {y} {b} at t ns h nm k =
      let g = carry_asks op c k.carry σ h k.reads_carry in
      record {
        left = k.left;
        reads = k.reads_left;
        small = k.left_small;
        shows = k.shows_left;
        n = _;
        fs = (alu_answer (carry_alu op) z k.left k.right k.carry).flags;
        ends = alu_ends frame (carry_alu op) y (Some c) k.carry at _ z b σ k.left k.right _ g.1 g.0 nm k.reads_right k.shows_right;
        finish = finishes_plain frame home homing s σ related at (action.Alu (carry_alu op) z b y (Some c)) _ t k.writes;
      }

  pub carry_row_swapped : (op : BinOp) (c : Pinned) {z : Size} {x y b : Arg} {p q r : Leaks} (at : Span) (t : State) (ns : List ℕ) → IsCarryOp op → commutes op ≡ true → NoName x → (k : CarryParts frame home homing s σ related op z x y p q b r c.variable t ns)
      → Row frame home homing s σ related (plain at (action.Alu (carry_alu op) z b x (Some c))) z y b q r ((is_var x ++ found_by x) ++ (c.variable ∷ [])) (shown_of p k.first) k.second k.third t
  carry_row_swapped op c {z} {x} {y} {b} {r = r} at t ns h swaps nm k =
      let g = carry_asks op c k.carry σ h k.reads_carry in
      record {
        left = k.right;
        reads = k.reads_right;
        small = k.right_small;
        shows = k.shows_right;
        n = _;
        fs = (alu_answer (carry_alu op) z k.right k.left k.carry).flags;
        ends = alu_ends frame (carry_alu op) x (Some c) k.carry at _ z b σ k.right k.left _ g.1 g.0 nm k.reads_left k.shows_left;
        finish = finishes_plain frame home homing s σ related at (action.Alu (carry_alu op) z b x (Some c)) _ t
            (subst (λ n. WritesAs frame home homing s σ related z b r n k.third t) (sym (carry_swapped op z k.left k.right k.carry h swaps)) k.writes);
      }
