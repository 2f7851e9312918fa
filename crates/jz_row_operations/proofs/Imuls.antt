-- `r = a * o` by IMUL, in place, swapped or copied first; `r = a * c` by IMUL with a number.
use Rattle.std.proofs.Common.{◌≡◌, ℕ, ◌*◌, ◌%◌, ◌<◌, List, [], ◌∷◌, ◌++◌, Some, None, refl, sym, ap, ◌∙◌, subst, arith, ℤ}
use Rattle.std.specs.Option.{option_or}
use Rattle.jz_io.specs.declared.span.Span.{Span}
use Rattle.jz_words.specs.declared.size.Size.{Size}
use Rattle.jz_words.specs.Sizes.{modulus}
use Rattle.jz_words.specs.Words.{residue}
use Rattle.jz_words.proofs.Residues.{residue_below}
use Rattle.x64_insn.specs.Products.{low_product_answer}
use Rattle.jz_tree.specs.declared.expr.BinOp.TheVariants as o
use Rattle.jz_tree.specs.declared.expr.Expr.{Expr}
use Rattle.jz_tree.specs.declared.expr.Expr.TheVariants as expr
use Rattle.jz_tree.specs.declared.stmt.Lval.{Lval}
use Rattle.jz_runs.specs.Rules.{went}
use Rattle.jz_meaning.specs.Attempts.{and_then, defined}
use Rattle.jz_meaning.specs.States.{Value, word, State}
use Rattle.jz_meaning.specs.Operators.{combined, binary}
use Rattle.jz_meaning.specs.Values.{own_size, evaluated, with_right}
use Rattle.jz_meaning.specs.Assignments.{left_sizes, assigned}
use Rattle.jz_operations.specs.declared.operation.Arg.{Arg}
use Rattle.jz_operations.specs.declared.operation.Arg.TheVariants as arg
use Rattle.jz_operations.specs.declared.operation.Action.TheVariants as action
use Rattle.jz_operations.specs.declared.operation.Flags.{Flags}
use Rattle.jz_operations.specs.Values as over
use Rattle.jz_operations.specs.Rows.{Frame, value_of, put, step, with_flags}
use Rattle.jz_operations.specs.Reading.{is_var, found_by}
use Rattle.jz_operations.proofs.Somes.{same_some}
use Rattle.jz_operations.proofs.OwnVariables.{value_same, same_right}
use Rattle.jz_homes.proofs.Shown.{shown, read_shown, shown_same}
use Rattle.jz_homes.specs.Homes.{Homes, IsHoming, IsRelated}
use Rattle.jz_homes.specs.Operands.{Leaks, IsArg, IsDest, shown_of}
use Rattle.jz_row_operations.specs.Codes.{plain, no_flag}
use Rattle.jz_homes.proofs.Parts.{went_same, evaluated_bin}
use Rattle.jz_homes.proofs.Reading.{FormOf}
use Rattle.jz_homes.proofs.Writing.{WritesAs}
use Rattle.jz_row_operations.proofs.Moves.{append_nil}
use Rattle.jz_row_operations.specs.Rows.{NotBothImm}
use Rattle.jz_row_operations.proofs.Sums.{OfSize, not_numbers, NoName, left_same, RunsAs, one_ran, after_flags}
use Rattle.jz_row_operations.proofs.Compares.{compared_values}
use Rattle.jz_row_operations.proofs.Products.{low_product}
use Rattle.jz_row_operations.proofs.Brought.{Ends, Row, Binary, binary_parts, finishes_plain}

pub product_small : (z : Size) (a b : ℕ) → (low_product_answer z a b).value < modulus z
unfolding low_product_answer
product_small z a b = residue_below z _

product_commutes : (a b : ℕ) → b * a ≡ a * b
product_commutes a b = grind arith

pub product_swapped : (z : Size) (a b : ℕ) → a < modulus z → b < modulus z → (low_product_answer z b a).value ≡ (low_product_answer z a b).value
product_swapped z a b h k = low_product z b a k h ∙ ap (λ x. x % modulus z) (product_commutes a b) ∙ sym (low_product z a b h k)

right_multiplies : (z : Size) (b : Expr) (at : Span) (s : State) (x : Value) → with_right o.Mul (evaluated b) at (Some z) s x ≡ and_then (evaluated b (Some z) s) (λ y. combined o.Mul at x y)
unfolding binary
right_multiplies z b at s x = refl

evaluated_times : (a c : Expr) (at : Span) (z : Size) (s : State) → evaluated (expr.Bin o.Mul a c at) (Some z) s ≡ and_then (evaluated a (Some z) s) (λ u. and_then (evaluated c (Some z) s) (λ y. combined o.Mul at u y))
evaluated_times a c at z s = evaluated_bin o.Mul a c at (Some z) s ∙ ap (and_then (evaluated a (Some z) s)) (λ i v. right_multiplies z c at s v i)

times_gives : (at : Span) (z : Size) (x y : Arg) (u v : Value) (k l : ℕ) (ms : List ℕ) (w : Value) → NotBothImm x y → OfSize z u k → OfSize z v l → FormOf x u → FormOf y v → k < modulus z → l < modulus z → combined o.Mul at u v ≡ went ms w
    → (ms ≡ []) × (w ≡ word z (low_product_answer z k l).value)
times_gives at z x y u v k l ms w nn a b f g h j e =
    let r : defined at (Some (word z (k * l % modulus z))) ≡ went ms w = sym (compared_values o.Mul at z u v k l a b (not_numbers x y u v f g nn)) ∙ e in
    let q = went_same [] ms (word z (k * l % modulus z)) w r in
    (sym q.0, sym q.1 ∙ ap (word z) (sym (low_product z k l h j)))

-- ---- the operations
pub imul_ends : (frame : Frame) (m : ℕ) (y : Arg) (at : Span) (fl : Flags) (z : Size) (σ : over.State) (left right : ℕ) (sh : List ℕ) → NoName y → value_of frame y z σ ≡ Some right → shown y σ ≡ sh
    → Ends frame (record { span = at; action = action.Imul z m y; flags = fl }) z (arg.Var m) (is_var y ++ found_by y) σ left (low_product_answer z left right).value (low_product_answer z left right).flags sh
imul_ends frame m y at fl z σ left right sh nm reads shows = record {
  goes = λ τ τ' same cells memory e f.
      let k : value_of frame y z τ ≡ Some right = value_same σ τ frame y z same (left_same σ τ y nm) cells memory ∙ reads in
      (shown y τ ++ [], rw (e, k) (rw (read_shown frame y z τ right k) (ap (λ u. Some (record { shown = shown y τ ++ []; division = []; state = with_flags (record { span = at; action = action.Imul z m y; flags = fl }) (low_product_answer z left right).flags u })) (same_some _ τ' f))), append_nil (shown y τ) ∙ shown_same σ τ y (same_right σ τ (is_var y) (found_by y) same) ∙ shows);
}

pub imul_by_step : (frame : Frame) (z : Size) (m : ℕ) (y : Arg) (i : ℤ) (at : Span) (fl : Flags) (a : ℕ) (σ τ : over.State) → value_of frame y z σ ≡ Some a → put frame (arg.Var m) z (low_product_answer z (residue z i) a).value σ ≡ Some τ
    → step frame (record { span = at; action = action.ImulBy z m y i; flags = fl }) σ
    ≡ Some (record { shown = shown y σ ++ []; division = []; state = with_flags (record { span = at; action = action.ImulBy z m y i; flags = fl }) (low_product_answer z (residue z i) a).flags τ })
imul_by_step frame z m y i at fl a σ τ e f = rw e (rw (read_shown frame y z σ a e) (ap (λ u. Some (record { shown = shown y σ ++ []; division = []; state = with_flags (record { span = at; action = action.ImulBy z m y i; flags = fl }) (low_product_answer z (residue z i) a).flags u })) (same_some _ τ f)))

module _ (frame : Frame) (home : Homes) (homing : IsHoming frame home) (s : State) (σ : over.State) (related : IsRelated home s σ) where
  abbrev pub Product : Size → Arg → Arg → Arg → Leaks → Leaks → Leaks → State → List ℕ → Type 0
  Product z x y b p q r t ns = Binary frame home homing s σ related z x y b p q r (λ k l. (low_product_answer z k l).value) t ns

  pub times_parts : {z : Size} {d : Lval} {a c : Expr} {x y b : Arg} {p q r : Leaks} (at here : Span) (t : State) (ns : List ℕ) → option_or (left_sizes (d ∷ [])) (own_size (expr.Bin o.Mul a c at)) ≡ Some z
      → IsArg home z a x p → IsArg home z c y q → IsDest home z d b r → NotBothImm x y → assigned (d ∷ []) None (expr.Bin o.Mul a c at) None here s ≡ went ns t → Product z x y b p q r t ns
  times_parts {z} {a = a} {c = c} {x = x} {y = y} at here t ns size ia ic id nn run =
      binary_parts frame home homing s σ related (expr.Bin o.Mul a c at) (combined o.Mul at) (λ k l. (low_product_answer z k l).value) here t ns (evaluated_times a c at z s)
      (λ u v k l ms w e f g h i j run'. times_gives at z x y u v k l ms w nn e f g h i j run') (λ k l h j. product_small z k l) size ia ic id run

  -- the first operand comes to the destination; or the second one is there, and they are swapped
  pub times_row : (m : ℕ) {z : Size} {x y : Arg} {p q r : Leaks} (at : Span) (t : State) (ns : List ℕ) → NoName y → (k : Product z x y (arg.Var m) p q r t ns)
      → Row frame home homing s σ related (plain at (action.Imul z m y)) z x (arg.Var m) p r (is_var y ++ found_by y) (shown_of q k.second) k.first k.third t
  times_row m {z} {x} {y} at t ns nm k = record {
    left = k.left;
    reads = k.reads_left;
    small = k.left_small;
    shows = k.shows_left;
    n = _;
    fs = (low_product_answer z k.left k.right).flags;
    ends = imul_ends frame m y at _ z σ k.left k.right _ nm k.reads_right k.shows_right;
    finish = finishes_plain frame home homing s σ related at (action.Imul z m y) _ t k.writes;
  }

  pub times_row_swapped : (m : ℕ) {z : Size} {x y : Arg} {p q r : Leaks} (at : Span) (t : State) (ns : List ℕ) → NoName x → (k : Product z x y (arg.Var m) p q r t ns)
      → Row frame home homing s σ related (plain at (action.Imul z m x)) z y (arg.Var m) q r (is_var x ++ found_by x) (shown_of p k.first) k.second k.third t
  times_row_swapped m {z} {x} {y} {p} {q} {r} at t ns nm k = record {
    left = k.right;
    reads = k.reads_right;
    small = k.right_small;
    shows = k.shows_right;
    n = _;
    fs = (low_product_answer z k.right k.left).flags;
    ends = imul_ends frame m x at _ z σ k.right k.left _ nm k.reads_left k.shows_left;
    finish = finishes_plain frame home homing s σ related at (action.Imul z m x) _ t (subst (λ n. WritesAs frame home homing s σ related z (arg.Var m) r n k.third t) (sym (product_swapped z k.left k.right k.left_small k.right_small)) k.writes);
  }

  -- the second operand is a number
  pub times_by : (m : ℕ) {z : Size} {x : Arg} {i : ℤ} {p q r : Leaks} (at : Span) (t : State) (ns : List ℕ) → (k : Product z x (arg.Imm i) (arg.Var m) p q r t ns)
      → RunsAs frame home homing s σ related (plain at (action.ImulBy z m x i) ∷ []) t (shown_of p k.first ∷ [])
  times_by m {z} {x} {i} {p} {q} {r} at t ns k =
      let number : residue z i ≡ k.right = Rattle.jz_operations.proofs.Somes.same_some (residue z i) k.right k.reads_right in
      let same : (low_product_answer z (residue z i) k.left).value ≡ (low_product_answer z k.left k.right).value = ap (λ n. (low_product_answer z n k.left).value) number ∙ product_swapped z k.left k.right k.left_small k.right_small in
      let put' : put frame (arg.Var m) z (low_product_answer z (residue z i) k.left).value σ ≡ Some k.writes.after = ap (λ n. put frame (arg.Var m) z n σ) same ∙ k.writes.put' in
      record {
        ran = _;
        goes = one_ran frame home homing s σ related (plain at (action.ImulBy z m x i)) (shown x σ ++ []) _ (imul_by_step frame z m x i at no_flag k.left σ k.writes.after k.reads_left put');
        agrees = after_flags frame home homing s σ related at (action.ImulBy z m x i) (low_product_answer z (residue z i) k.left).flags t k.writes.after k.writes.agrees;
        shows = ap (λ v. v ∷ []) (append_nil (shown x σ ++ []) ∙ append_nil (shown x σ) ∙ k.shows_left);
      }
