-- Divisions: RAX and RDX get what is divided, each with its variable or with none, and DIV or IDIV leaves quotient and remainder.
use Rattle.std.proofs.Common.{◌≡◌, ℕ, ◌+◌, ◌-◌, ◌*◌, ◌/◌, ◌%◌, ◌<◌, Bool, true, false, List, [], ◌∷◌, ◌++◌, Option, Some, None, refl, sym, ap, ◌∙◌, subst, arith, append_assoc}
use Rattle.std.specs.Prelude.{nat_lt, ◌==◌, IsFalse, if◌then◌else◌}
use Rattle.std.specs.Option.{option_or}
use Rattle.std.proofs.lemmas.Nat.{div-add-mod'}
use Rattle.std.proofs.Math.Nat.{div-le_self}
use Rattle.jz_io.specs.declared.span.Span.{Span}
use Rattle.jz_words.specs.declared.size.Size.{Size}
use Rattle.jz_words.specs.declared.size.Size.TheVariants.{S8, S16, S32, S64}
use Rattle.jz_words.specs.Sizes.{half, modulus}
use Rattle.x64_insn.specs.declared.products.DoubleAnswer.{DoubleAnswer}
use Rattle.x64_insn.specs.declared.types.Reg.TheVariants as reg
use Rattle.x64_insn.specs.declared.types.Wide.{Wide}
use Rattle.x64_insn.specs.declared.types.Wide.TheVariants as wide
use Rattle.x64_insn.specs.Products.{no_flags, quotient_answer, signed_quotient_answer}
use Rattle.jz_tree.specs.declared.expr.BinOp.{BinOp}
use Rattle.jz_tree.specs.declared.expr.BinOp.TheVariants as o
use Rattle.jz_tree.specs.declared.expr.Expr.{Expr}
use Rattle.jz_tree.specs.declared.expr.Expr.TheVariants as expr
use Rattle.jz_tree.specs.declared.stmt.Lval.{Lval}
use Rattle.jz_runs.specs.Rules.{went}
use Rattle.jz_meaning.specs.Attempts.{and_then}
use Rattle.jz_meaning.specs.States.{Value, word, State}
use Rattle.jz_meaning.specs.Operators.{word_of, sign_word, on_words, combined, binary}
use Rattle.jz_meaning.specs.Values.{own_size, evaluated, left_wanted, with_right, run_binary}
use Rattle.jz_meaning.specs.Assignments.{left_sizes, results_of, conditioned, all_written, assigned}
use Rattle.jz_operations.specs.declared.operation.Pinned.{Pinned}
use Rattle.jz_operations.specs.declared.operation.Arg.{Arg}
use Rattle.jz_operations.specs.declared.operation.Arg.TheVariants as arg
use Rattle.jz_operations.specs.declared.operation.Action.{Action}
use Rattle.jz_operations.specs.declared.operation.Action.TheVariants as action
use Rattle.jz_operations.specs.declared.operation.Flags.{Flags}
use Rattle.jz_operations.specs.declared.operation.Operation.{Operation}
use Rattle.jz_operations.specs.Values as over
use Rattle.jz_operations.specs.Values.{set_var, set_left}
use Rattle.jz_operations.specs.Rows.{Frame, narrowed, held_at, value_of, put, has_sign, step, with_flags, all_five, set_flags, flags_of}
use Rattle.jz_operations.specs.Reading.{is_var, found_by}
use Rattle.jz_operations.proofs.Somes.{same_some}
use Rattle.jz_operations.proofs.OwnVariables.{SameIn, value_same, same_right}
use Rattle.jz_homes.proofs.Shown.{shown, read_shown, shown_same}
use Rattle.jz_homes.specs.Homes.{Homes, IsHoming, IsRelated}
use Rattle.jz_homes.specs.Operands.{Leaks, IsCounted, IsArg, IsDest, shown_of}
use Rattle.jz_row_operations.specs.Codes.{plain, no_flag, lasting}
use Rattle.jz_row_operations.specs.Rows.{NotBothImm}
use Rattle.jz_flag_rows.specs.Wide.{IsLong, high_code, divide_code}
use Rattle.jz_flag_runs.proofs.FlagLefts.{AreApart, set_pinned, IsFreeOf}
use Rattle.jz_homes.proofs.Parts.{both_went, evaluated_bin}
use Rattle.jz_homes.proofs.Reading.{operand_read, word_itself, narrowed_itself}
use Rattle.jz_homes.proofs.Writing.{dest_written, related_same, set_same, set_other}
use Rattle.jz_row_operations.proofs.Moves.{one_left, append_nil}
use Rattle.jz_row_operations.proofs.Sums.{of_size, not_numbers, NoName, left_same, away, nones, RunsAs}
use Rattle.jz_row_operations.proofs.Compares.{compared_values}
use Rattle.jz_flag_runs.proofs.Divisions.{zero_word, some_zero, three_by, three_same, divided_by, quotient_is}
use Rattle.jz_flag_runs.proofs.Wides.{put_at, pinned_twice, pinned_crossed, raxed}

same_through : (σ τ υ : over.State) (vs : List ℕ) → SameIn σ τ vs → SameIn τ υ vs → SameIn σ υ vs
same_through σ τ υ [] h k = tt
same_through σ τ υ (v ∷ vs) h k = (k.0 ∙ h.0, same_through σ τ υ vs h.1 k.1)

-- ---- RDX gets a word behind RAX
record Rdxed (frame : Frame) (o : Operation) (z : Size) (l h : Option Pinned) (y : Arg) (a n : ℕ) (τ : over.State) (all : List ℕ) : Type 0 where
  pub after : over.State
  pub steps : step frame o τ ≡ Some (record { shown = all; division = []; state = after })
  pub vars : after.vars ≡ set_pinned h z n τ.vars
  pub cells : after.cells ≡ τ.cells
  pub memory : after.memory ≡ τ.memory
  pub rax : narrowed z (held_at reg.Rax l after) ≡ Some a
  pub rdx : narrowed z (held_at reg.Rdx h after) ≡ Some n
  pub same : SameIn τ after (is_var y ++ found_by y)

rax_beside : (z : Size) (l : Option Pinned) (x : Option over.Value) (a : ℕ) (τ υ : over.State) → υ.vars ≡ τ.vars → υ.left ≡ set_left reg.Rdx x τ.left → narrowed z (held_at reg.Rax l τ) ≡ Some a → narrowed z (held_at reg.Rax l υ) ≡ Some a
rax_beside z None x a τ υ vars left rax = ap (λ f. narrowed z (f reg.Rax)) left ∙ rax
rax_beside z (Some p) x a τ υ vars left rax = ap (λ f. narrowed z (f p.variable)) vars ∙ rax

rax_apart : (z : Size) (l : Option Pinned) (q : Pinned) (x : Option over.Value) (w : Option over.Value) (a : ℕ) (τ υ : over.State) → AreApart l (Some q) → υ.vars ≡ set_var q.variable w τ.vars → υ.left ≡ set_left reg.Rdx x τ.left → narrowed z (held_at reg.Rax l τ) ≡ Some a → narrowed z (held_at reg.Rax l υ) ≡ Some a
rax_apart z None q x w a τ υ apart vars left rax = ap (λ f. narrowed z (f reg.Rax)) left ∙ rax
rax_apart z (Some p) q x w a τ υ apart vars left rax = ap (λ f. narrowed z (f p.variable)) vars ∙ ap (narrowed z) (set_other q.variable p.variable w τ.vars (λ e. apart (sym e))) ∙ rax

-- whatever operation puts the word there
rdx_by : (frame : Frame) (at : Span) (act : Action) (z : Size) (l h : Option Pinned) (y : Arg) (a n : ℕ) (τ : over.State) (all : List ℕ) → n < modulus z → AreApart l h → IsFreeOf h y
    → narrowed z (held_at reg.Rax l τ) ≡ Some a
    → ((τ' : over.State) → put frame (arg.At reg.Rdx h) z n τ ≡ Some τ' → step frame (plain at act) τ ≡ Some (record { shown = all; division = []; state = with_flags (plain at act) no_flags τ' }))
    → Rdxed frame (plain at act) z l h y a n τ all
rdx_by frame at act z l None y a n τ all small apart free rax steps =
    let τ' : over.State = record τ { left = set_left reg.Rdx (Some (over.word z n)) τ.left } in
    let υ : over.State = with_flags (plain at act) no_flags τ' in
    let vars : υ.vars ≡ τ.vars = nones (None ∷ None ∷ None ∷ None ∷ None ∷ []) tt _ no_flags τ.vars in
    record {
      after = υ;
      steps = steps τ' refl;
      vars = vars;
      cells = refl;
      memory = refl;
      rax = rax_beside z l (Some (over.word z n)) a τ υ vars refl rax;
      rdx = narrowed_itself z n small;
      same = Rattle.jz_row_operations.proofs.Conditionals.all_same τ υ vars (is_var y ++ found_by y);
    }
rdx_by frame at act z l (Some p) y a n τ all small apart free rax steps =
    let τ' : over.State = record τ { vars = set_var p.variable (Some (over.word z n)) τ.vars; left = set_left reg.Rdx None τ.left } in
    let υ : over.State = with_flags (plain at act) no_flags τ' in
    let vars : υ.vars ≡ set_var p.variable (Some (over.word z n)) τ.vars = nones (None ∷ None ∷ None ∷ None ∷ None ∷ []) tt _ no_flags τ'.vars in
    record {
      after = υ;
      steps = steps τ' refl;
      vars = vars;
      cells = refl;
      memory = refl;
      rax = rax_apart z l p None (Some (over.word z n)) a τ υ apart vars refl rax;
      rdx = ap (λ f. narrowed z (f p.variable)) vars ∙ ap (narrowed z) (set_same p.variable (Some (over.word z n)) τ.vars) ∙ narrowed_itself z n small;
      same = away p.variable (is_var y ++ found_by y) (Some (over.word z n)) τ υ vars free;
    }

-- IDIV or DIV
abbrev pub divide_by : Bool → Wide
divide_by true = wide.Idiv
divide_by false = wide.Div

-- the variable is in RAX for a quotient, in RDX for a remainder
abbrev pub picked_code : Bool → Bool → Size → Pinned → Arg → Arg → List Action
picked_code true sign z r a b = divide_code (divide_by sign) z (Some r) None a b
picked_code false sign z r a b = divide_code (divide_by sign) z None (Some r) a b

long_sign : (z : Size) → IsLong z → has_sign z ≡ true
long_sign S8 h = absurd h
long_sign S16 h = absurd h
long_sign S32 h = refl
long_sign S64 h = refl

abbrev pub high_word : Bool → Size → ℕ → ℕ
high_word true z a = sign_word z a
high_word false z a = 0

sign_small_by : (b : Bool) (m : ℕ) → 0 < m → (if b then 0 else m - 1) < m
sign_small_by true m h = h
sign_small_by false m h = omega (arith, h)

high_small : (sign : Bool) (z : Size) (a : ℕ) → high_word sign z a < modulus z
high_small true z a = sign_small_by (nat_lt a (half z)) (modulus z) (some_zero z)
high_small false z a = some_zero z

high_steps : (frame : Frame) (sign : Bool) (at : Span) (z : Size) (l h : Option Pinned) (a : ℕ) (τ τ' : over.State) → IsLong z → narrowed z (held_at reg.Rax l τ) ≡ Some a → put frame (arg.At reg.Rdx h) z (high_word sign z a) τ ≡ Some τ'
    → step frame (plain at (high_code (divide_by sign) z l h)) τ ≡ Some (record { shown = []; division = []; state = with_flags (plain at (high_code (divide_by sign) z l h)) no_flags τ' })
high_steps frame true at z l h a τ τ' long rax e = rw rax (rw (long_sign z long) (rw e refl))
high_steps frame false at z l h a τ τ' long rax e = rw (zero_word z) (rw e refl)

abbrev pub answer_of : Bool → Size → ℕ → ℕ → ℕ → Option DoubleAnswer
answer_of true z high low d = signed_quotient_answer z high low d
answer_of false z high low d = quotient_answer z high low d

divide_steps : (frame : Frame) (sign : Bool) (at : Span) (fl : Flags) (z : Size) (l h : Option Pinned) (y : Arg) (high low d : ℕ) (r : DoubleAnswer) (σ τ1 τ2 : over.State) → value_of frame y z σ ≡ Some d → narrowed z (held_at reg.Rax l σ) ≡ Some low → narrowed z (held_at reg.Rdx h σ) ≡ Some high → answer_of sign z high low d ≡ Some r
    → put frame (arg.At reg.Rax l) z r.low σ ≡ Some τ1 → put frame (arg.At reg.Rdx h) z r.high τ1 ≡ Some τ2
    → step frame (record { span = at; action = action.Wide (divide_by sign) z l h y; flags = fl }) σ
    ≡ Some (record { shown = shown y σ ++ []; division = high ∷ low ∷ d ∷ []; state = with_flags (record { span = at; action = action.Wide (divide_by sign) z l h y; flags = fl }) r.flags τ2 })
divide_steps frame true at fl z l h y high low d r σ τ1 τ2 e f g a i j = rw (e, f, g) (rw a (rw (read_shown frame y z σ d e) (rw i (rw j refl))))
divide_steps frame false at fl z l h y high low d r σ τ1 τ2 e f g a i j = rw (e, f, g) (rw a (rw (read_shown frame y z σ d e) (rw i (rw j refl))))

divide_changes : (sign : Bool) (z : Size) (l h : Option Pinned) (y : Arg) → Rattle.jz_operations.specs.Rows.changes (action.Wide (divide_by sign) z l h y) ≡ all_five
divide_changes sign z l h y = refl

vars_at_last : (l h : Option Pinned) (z : Size) (a n lo hi : ℕ) (vars : ℕ → Option over.Value) → AreApart l h → set_pinned h z hi (set_pinned l z lo (set_pinned h z n (set_pinned l z a vars))) ≡ set_pinned h z hi (set_pinned l z lo vars)
vars_at_last l h z a n lo hi vars apart =
    ap (set_pinned h z hi) (pinned_crossed l h z lo n (set_pinned l z a vars) apart) ∙ pinned_twice h z hi n (set_pinned l z lo (set_pinned l z a vars)) ∙ ap (set_pinned h z hi) (pinned_twice l z lo a vars)

module _ (frame : Frame) (home : Homes) (homing : IsHoming frame home) (s : State) (σ : over.State) (related : IsRelated home s σ) where
  -- RAX gets the low word, RDX a word by some operation, and the division leaves both words
  pub divides : (sign : Bool) (fl : Flags) (at : Span) (act : Action) (z : Size) (x y : Arg) (p q : Leaks) (l h : Option Pinned) (a n d : ℕ) (r : DoubleAnswer) (first second all : List ℕ) (t : State)
      → n < modulus z → a < modulus z → AreApart l h → NoName y → IsFreeOf l y → IsFreeOf h y
      → value_of frame x z σ ≡ Some a → shown x σ ≡ shown_of p first → value_of frame y z σ ≡ Some d → shown y σ ≡ shown_of q second
      → ((τ τ' : over.State) → τ.vars ≡ set_pinned l z a σ.vars → τ.cells ≡ σ.cells → τ.memory ≡ σ.memory → narrowed z (held_at reg.Rax l τ) ≡ Some a → put frame (arg.At reg.Rdx h) z n τ ≡ Some τ' → step frame (plain at act) τ ≡ Some (record { shown = all; division = []; state = with_flags (plain at act) no_flags τ' }))
      → answer_of sign z n a d ≡ Some r
      → IsRelated home t (record σ { vars = set_flags (flags_of fl) all_five r.flags (set_pinned h z r.high (set_pinned l z r.low σ.vars)) })
      → RunsAs frame home homing s σ related (plain at (action.Mov z (arg.At reg.Rax l) x) ∷ plain at act ∷ record { span = at; action = action.Wide (divide_by sign) z l h y; flags = fl } ∷ []) t
      (shown_of p first ∷ all ∷ (shown_of q second ++ (n ∷ a ∷ d ∷ [])) ∷ [])
  divides sign fl at act z x y p q l h a n d r first second all t hn ha apart nm fl' fh rx sx ry sy steps ans related' =
      let u = raxed frame home homing s σ related at z l x y a [] ha rx fl' in
      let v = rdx_by frame at act z l h y a n u.after all hn apart fh u.rax (λ τ' e. steps u.after τ' u.vars u.cells u.memory u.rax e) in
      let own = same_through σ u.after v.after (is_var y ++ found_by y) u.same v.same in
      let reads : value_of frame y z v.after ≡ Some d = value_same σ v.after frame y z own (left_same σ v.after y nm) (v.cells ∙ u.cells) (v.memory ∙ u.memory) ∙ ry in
      let p1 = put_at frame reg.Rax l z r.low v.after in
      let p2 = put_at frame reg.Rdx h z r.high p1.0 in
      let o' : Operation = record { span = at; action = action.Wide (divide_by sign) z l h y; flags = fl } in
      let d3 = divide_steps frame sign at fl z l h y n a d r v.after p1.0 p2.0 reads v.rax v.rdx ans p1.1 p2.1 in
      let vars : p2.0.vars ≡ set_pinned h z r.high (set_pinned l z r.low σ.vars) = p2.2 ∙ ap (set_pinned h z r.high) (p1.2 ∙ ap (set_pinned l z r.low) (v.vars ∙ ap (set_pinned h z n) u.vars)) ∙ vars_at_last l h z a n r.low r.high σ.vars apart in
      record {
        ran = _;
        goes = three_by frame (plain at (action.Mov z (arg.At reg.Rax l) x)) (plain at act) o' σ _ _ _ u.steps v.steps d3;
        agrees = related_same frame home homing t _ (with_flags o' r.flags p2.0) related' (λ k. ap (λ f. set_flags (flags_of fl) all_five r.flags f k) vars) (p2.3 ∙ p1.3 ∙ v.cells ∙ u.cells) (p2.4 ∙ p1.4 ∙ v.memory ∙ u.memory);
        shows = three_same (append_nil (shown x σ ++ []) ∙ append_nil (shown x σ) ∙ sx) (append_nil all)
            (ap (λ k. k ++ (n ∷ a ∷ d ∷ [])) (append_nil (shown y v.after) ∙ shown_same σ v.after y (same_right σ v.after (is_var y) (found_by y) own) ∙ sy));
      }

-- ---- the source's division
abbrev pub IsUnsigned : BinOp → Bool → Type 0
IsUnsigned o.Div true = Unit {0}
IsUnsigned o.Rem false = Unit {0}
IsUnsigned _ _ = ⊥

-- the quotient, or the remainder
abbrev pub picked : Bool → DoubleAnswer → ℕ
picked true r = r.low
picked false r = r.high

-- what a division gives, where it is not stuck
pub record Divided (sign quot : Bool) (z : Size) (a d : ℕ) (ns : List ℕ) (v : Value) : Type 0 where
  pub r : DoubleAnswer
  pub answers : answer_of sign z (high_word sign z a) a d ≡ Some r
  pub numbers : ns ≡ high_word sign z a ∷ a ∷ d ∷ []
  pub is : v ≡ word z (picked quot r)
  pub small : picked quot r < modulus z
  pub flags : r.flags ≡ no_flags

quotient_below : (a d m : ℕ) → a < m → a / d < m
quotient_below a d m h = let l = div-le_self a d in omega (arith, h, l)

mod-le : (a d m : ℕ) → a < m → a % d < m
mod-le a d m h = let e = div-add-mod' a d in omega (arith, e, h)

flags_by : (b c : Bool) (h l : ℕ) (r : DoubleAnswer) → (if b then None else if c then Some (record { high = h; low = l; flags = no_flags }) else None) ≡ Some r → r.flags ≡ no_flags
flags_by true c h l r e = absurd cc
flags_by false true h l r e = ap (λ x. x.flags) (sym (same_some _ r e))
flags_by false false h l r e = absurd cc

flags_none : (z : Size) (h a d : ℕ) (r : DoubleAnswer) → quotient_answer z h a d ≡ Some r → r.flags ≡ no_flags
unfolding quotient_answer
flags_none z h a d r e = flags_by (d == 0) (nat_lt ((h * modulus z + a) / d) (modulus z)) _ _ r e

pub unsigned_divided : (op : BinOp) (quot : Bool) (at : Span) (z : Size) (a d : ℕ) (ns : List ℕ) (v : Value) → IsUnsigned op quot → a < modulus z → on_words op at z a d ≡ went ns v → Divided false quot z a d ns v
unsigned_divided o.Div true at z a d ns v h small e =
    let k = divided_by (d == 0) d at z 0 a (a / d) ns v refl e in
    let q = quotient_is z a d small k.0 in
    record { r = q.0; answers = q.1; numbers = k.1; is = sym k.2 ∙ ap (word z) (sym q.2); small = subst (λ x. x < modulus z) (sym q.2) (quotient_below a d (modulus z) small); flags = flags_none z 0 a d q.0 q.1 }
unsigned_divided o.Rem false at z a d ns v h small e =
    let k = divided_by (d == 0) d at z 0 a (a % d) ns v refl e in
    let q = quotient_is z a d small k.0 in
    record { r = q.0; answers = q.1; numbers = k.1; is = sym k.2 ∙ ap (word z) (sym q.3); small = subst (λ x. x < modulus z) (sym q.3) (mod-le a d (modulus z) small); flags = flags_none z 0 a d q.0 q.1 }
unsigned_divided _ _ at z a d ns v h small e = absurd h

abbrev pub IsDivision : BinOp → Type 0
IsDivision o.Div = Unit {0}
IsDivision o.Rem = Unit {0}
IsDivision o.DivS = Unit {0}
IsDivision o.RemS = Unit {0}
IsDivision _ = ⊥

right_divides : (op : BinOp) (z : Size) (b : Expr) (at : Span) (s : State) (x : Value) → IsDivision op → with_right op (evaluated b) at (Some z) s x ≡ and_then (evaluated b (Some z) s) (λ y. combined op at x y)
unfolding binary
right_divides o.Div z b at s x h = refl
right_divides o.Rem z b at s x h = refl
right_divides o.DivS z b at s x h = refl
right_divides o.RemS z b at s x h = refl
right_divides _ z b at s x h = absurd h

division_left : (op : BinOp) (z : Size) (x y : Option Size) → IsDivision op → left_wanted op (Some z) x y ≡ Some z
division_left o.Div z x y h = refl
division_left o.Rem z x y h = refl
division_left o.DivS z x y h = refl
division_left o.RemS z x y h = refl
division_left _ z x y h = absurd h

module _ (frame : Frame) (home : Homes) (homing : IsHoming frame home) (s : State) (σ : over.State) (related : IsRelated home s σ) where
  behind_both : (a b c d ns : List ℕ) → ns ≡ (a ++ (b ++ c)) ++ d → ns ≡ a ++ (b ++ (c ++ d))
  behind_both a b c d ns e = e ∙ append_assoc a (b ++ c) d ∙ ap (λ y. a ++ y) (append_assoc b c d)

  -- a division, whatever the sign, as far as what the source gives is Divided
  pub record DivisionRuns (sign quot : Bool) (z : Size) (r : Pinned) (x y : Arg) (p q : Leaks) (at : Span) (t : State) (ns : List ℕ) : Type 0 where
    pub first : List ℕ
    pub second : List ℕ
    pub third : List ℕ
    pub a : ℕ
    pub d : ℕ
    pub numbers : ns ≡ first ++ (second ++ (high_word sign z a ∷ a ∷ d ∷ third))
    pub counted_left : IsCounted p first
    pub counted_right : IsCounted q second
    pub goes : RunsAs frame home homing s σ related (lasting at no_flag (picked_code quot sign z r x y)) t (shown_of p first ∷ [] ∷ (shown_of q second ++ (high_word sign z a ∷ a ∷ d ∷ [])) ∷ [])

  division_by : (quot sign : Bool) (z : Size) (x y : Arg) (p q : Leaks) {w : Leaks} (r : Pinned) (sp : Span) (a d : ℕ) (v : Value) (first second third ns : List ℕ) (t : State) (c : Divided sign quot z a d ns v) → IsLong z → a < modulus z → NoName y → IsFalse (Rattle.jz_ir.specs.Paths.among (is_var y ++ found_by y) r.variable)
      → value_of frame x z σ ≡ Some a → shown x σ ≡ shown_of p first → value_of frame y z σ ≡ Some d → shown y σ ≡ shown_of q second
      → Rattle.jz_homes.proofs.Writing.WritesAs frame home homing s σ related z (arg.Var r.variable) w (picked quot c.r) third t
      → RunsAs frame home homing s σ related (lasting sp no_flag (picked_code quot sign z r x y)) t (shown_of p first ∷ [] ∷ (shown_of q second ++ (high_word sign z a ∷ a ∷ d ∷ [])) ∷ [])
  division_by true sign z x y p q r sp a d v first second third ns t c long ha nm out rx sx ry sy wr =
      let same = same_some _ wr.after wr.put' in
      divides frame home homing s σ related sign no_flag sp (high_code (divide_by sign) z (Some r) None) z x y p q (Some r) None a (high_word sign z a) d c.r first second [] t (high_small sign z a) ha tt nm out tt rx sx ry sy
      (λ τ τ' e1 e2 e3 rax e. high_steps frame sign sp z (Some r) None a τ τ' long rax e) c.answers
      (related_same frame home homing t wr.after _ wr.agrees (λ k. ap (λ f. f k) (nones (None ∷ None ∷ None ∷ None ∷ None ∷ []) tt all_five c.r.flags (set_var r.variable (Some (over.word z c.r.low)) σ.vars)) ∙ ap (λ u. u.vars k) same) (ap (λ u. u.cells) same) (ap (λ u. u.memory) same))
  division_by false sign z x y p q r sp a d v first second third ns t c long ha nm out rx sx ry sy wr =
      let same = same_some _ wr.after wr.put' in
      divides frame home homing s σ related sign no_flag sp (high_code (divide_by sign) z None (Some r)) z x y p q None (Some r) a (high_word sign z a) d c.r first second [] t (high_small sign z a) ha tt nm tt out rx sx ry sy
      (λ τ τ' e1 e2 e3 rax e. high_steps frame sign sp z None (Some r) a τ τ' long rax e) c.answers
      (related_same frame home homing t wr.after _ wr.agrees (λ k. ap (λ f. f k) (nones (None ∷ None ∷ None ∷ None ∷ None ∷ []) tt all_five c.r.flags (set_var r.variable (Some (over.word z c.r.high)) σ.vars)) ∙ ap (λ u. u.vars k) same) (ap (λ u. u.cells) same) (ap (λ u. u.memory) same))

  pub division_runs : (op : BinOp) (sign quot : Bool) {z : Size} {d : Lval} {a c : Expr} {x y : Arg} {p q w : Leaks} (r : Pinned) (at here sp : Span) (t : State) (ns : List ℕ) → IsDivision op → IsLong z
      → ((k l : ℕ) (ms : List ℕ) (v : Value) → k < modulus z → l < modulus z → on_words op at z k l ≡ went ms v → Divided sign quot z k l ms v)
      → option_or (left_sizes (d ∷ [])) (own_size (expr.Bin op a c at)) ≡ Some z
      → IsArg home z a x p → IsArg home z c y q → IsDest home z d (arg.Var r.variable) w → NotBothImm x y → NoName y → IsFalse (Rattle.jz_ir.specs.Paths.among (is_var y ++ found_by y) r.variable)
      → assigned (d ∷ []) None (expr.Bin op a c at) None here s ≡ went ns t → DivisionRuns sign quot z r x y p q sp t ns
  division_runs op sign quot {z} {d} {a} {c} {x} {y} {p} {q} {w} r at here sp t ns h long gives size ia ic id nn nm out run =
      let e = expr.Bin op a c at in
      let l = one_left (Some z) d e here s t ns (subst (λ v. and_then (results_of (d ∷ []) e here v s) (λ vs. and_then (conditioned (d ∷ []) None here vs s) (λ ws. all_written here v (d ∷ []) ws s)) ≡ went ns t) size run) in
      let u = both_went (evaluated a (Some z) s) (with_right op (evaluated c) at (Some z) s) l.first l.value (sym (evaluated_bin op a c at (Some z) s ∙ ap (λ b. run_binary op (evaluated a) (evaluated c) at b s) (division_left op z (own_size a) (own_size c) h)) ∙ l.evaluates) in
      let v = both_went (evaluated c (Some z) s) (λ y'. combined op at u.value y') u.second l.value (sym (right_divides op z c at s u.value h) ∙ u.went_on) in
      let m = operand_read frame home homing s σ related ia u.first u.value u.came in
      let n = operand_read frame home homing s σ related ic v.first v.value v.came in
      let g : on_words op at z m.bits n.bits ≡ went v.second l.value = sym (compared_values op at z u.value v.value m.bits n.bits (of_size z u.value m.bits m.word) (of_size z v.value n.bits n.word) (not_numbers x y u.value v.value m.form n.form nn)) ∙ v.went_on in
      let dv = gives m.bits n.bits v.second l.value m.small n.small g in
      let wr = dest_written frame home homing s σ related id l.value (picked quot dv.r) l.second t (ap (word_of z) dv.is ∙ word_itself z _) dv.small l.writes in
      record {
        first = u.first;
        second = v.first;
        third = l.second;
        a = m.bits;
        d = n.bits;
        numbers = behind_both u.first v.first (high_word sign z m.bits ∷ m.bits ∷ n.bits ∷ []) l.second ns (l.numbers ∙ ap (λ k. k ++ l.second) (u.numbers ∙ ap (λ k. u.first ++ k) (v.numbers ∙ ap (λ k. v.first ++ k) dv.numbers)));
        counted_left = m.counted;
        counted_right = n.counted;
        goes = division_by quot sign z x y p q r sp m.bits n.bits l.value u.first v.first l.second v.second t dv long m.small nm out m.value m.numbers n.value n.numbers wr;
      }
