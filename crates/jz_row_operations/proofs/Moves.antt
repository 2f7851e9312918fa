-- `d = o` is one move: the source's effect and its numbers are the move's.
use Rattle.std.proofs.Common.{◌≡◌, ℕ, List, [], ◌∷◌, ◌++◌, Option, Some, None, refl, sym, ap, ◌∙◌, subst}
use Rattle.std.specs.Option.{option_or}
use Rattle.jz_io.specs.declared.span.Span.{Span}
use Rattle.jz_words.specs.declared.size.Size.{Size}
use Rattle.x64_insn.specs.Products.{no_flags}
use Rattle.jz_tree.specs.declared.expr.Expr.{Expr}
use Rattle.jz_tree.specs.declared.stmt.Lval.{Lval}
use Rattle.jz_runs.specs.Rules.{went}
use Rattle.jz_meaning.specs.Attempts.{and_then}
use Rattle.jz_meaning.specs.States.{Value, State}
use Rattle.jz_meaning.specs.Values.{own_size, evaluated}
use Rattle.jz_meaning.specs.Assignments.{left_sizes, results_of, conditioned, written, all_written, assigned}
use Rattle.jz_operations.specs.declared.operation.Arg.{Arg}
use Rattle.jz_operations.specs.declared.operation.Action.TheVariants as action
use Rattle.jz_operations.specs.declared.operation.Operation.{Operation}
use Rattle.jz_operations.specs.Values as over
use Rattle.jz_operations.specs.Rows.{Frame, value_of, put, Done, step, with_flags}
use Rattle.jz_homes.proofs.Shown.{shown, read_shown, put_shown}
use Rattle.jz_homes.specs.Homes.{Homes, IsHoming, IsRelated}
use Rattle.jz_homes.specs.Operands.{Leaks, IsArg, IsDest, shown_of, IsCounted}
use Rattle.jz_row_operations.specs.Codes.{plain}
use Rattle.jz_placing.specs.Variables.{numbers_of}
use Rattle.jz_homes.proofs.Parts.{both_went, went_same}
use Rattle.jz_homes.proofs.Reading.{operand_read}
use Rattle.jz_homes.proofs.Writing.{dest_written, related_same}

-- ---- the parts of an assignment to one left side
pub record OneLeft (z : Option Size) (d : Lval) (e : Expr) (s t : State) (ns : List ℕ) : Type 0 where
  pub first : List ℕ
  pub value : Value
  pub second : List ℕ
  pub evaluates : evaluated e z s ≡ went first value
  pub writes : written z d (Some value) s ≡ went second t
  pub numbers : ns ≡ first ++ second

pub append_nil : (a : List ℕ) → a ++ [] ≡ a
append_nil [] = refl
append_nil (x ∷ a) = ap (λ y. x ∷ y) (append_nil a)

four_nil : (a b c d e : List ℕ) → b ≡ [] → c ≡ [] → e ≡ [] → (a ++ b) ++ (c ++ (d ++ e)) ≡ a ++ d
four_nil a b c d e f g h = ap (λ x. (a ++ x) ++ (c ++ (d ++ e))) f ∙ ap (λ x. x ++ (c ++ (d ++ e))) (append_nil a) ∙ ap (λ x. a ++ (x ++ (d ++ e))) g ∙ ap (λ x. a ++ (d ++ x)) h ∙ ap (λ x. a ++ x) (append_nil d)

pub one_left : (z : Option Size) (d : Lval) (e : Expr) (at : Span) (s t : State) (ns : List ℕ)
    → and_then (and_then (evaluated e z s) (λ v. went [] (Some v ∷ []))) (λ vs. and_then (went [] vs) (λ ws. all_written at z (d ∷ []) ws s)) ≡ went ns t → OneLeft z d e s t ns
one_left z d e at s t ns run =
    let g = both_went (and_then (evaluated e z s) (λ v. went [] (Some v ∷ []))) (λ vs. and_then (went [] vs) (λ ws. all_written at z (d ∷ []) ws s)) ns t run in
    let v = both_went (evaluated e z s) (λ v. went [] (Some v ∷ [])) g.first g.value g.came in
    let w = went_same [] v.second (Some v.value ∷ []) g.value v.went_on in
    let h = both_went (went [] g.value) (λ ws. all_written at z (d ∷ []) ws s) g.second t g.went_on in
    let k = went_same [] h.first g.value h.value h.came in
    let all : all_written at z (d ∷ []) (Some v.value ∷ []) s ≡ went h.second t = subst (λ y. all_written at z (d ∷ []) y s ≡ went h.second t) (sym (w.1 ∙ k.1)) h.went_on in
    let q = both_went (written z d (Some v.value) s) (λ u. all_written at z [] [] u) h.second t all in
    let l = went_same [] q.second q.value t q.went_on in
    record {
      first = v.first;
      value = v.value;
      second = q.first;
      evaluates = v.came;
      writes = q.came ∙ ap (went q.first) l.1;
      numbers = g.numbers ∙ ap (λ x. x ++ g.second) v.numbers ∙ ap (λ x. (v.first ++ v.second) ++ x) (h.numbers ∙ ap (λ x. h.first ++ x) q.numbers)
          ∙ four_nil v.first v.second h.first q.first q.second (sym w.0) (sym k.0) (sym l.0);
    }

module _ (frame : Frame) (home : Homes) (homing : IsHoming frame home) (s : State) (σ : over.State) (related : IsRelated home s σ) where
  -- ---- the operation
  pub record StepsAs (o : Operation) (t : State) (shown' : List ℕ) : Type 0 where
    pub done : Done
    pub steps : step frame o σ ≡ Some done
    pub agrees : IsRelated home t done.state
    pub shows : numbers_of done ≡ shown'

  pub move_by : (at : Span) (z : Size) (b a : Arg) (n : ℕ) (τ : over.State) → value_of frame a z σ ≡ Some n → put frame b z n σ ≡ Some τ
      → step frame (plain at (action.Mov z b a)) σ ≡ Some (record { shown = shown b σ ++ (shown a σ ++ []); division = []; state = with_flags (plain at (action.Mov z b a)) no_flags τ })
  move_by at z b a n τ e f = rw e (rw (put_shown frame b z n σ τ f, read_shown frame a z σ n e) (rw f refl))

  -- `d = o` (also of memory, and of a cell at an index that only the run knows): the numbers of the operand are leaked first, those of the destination behind them
  pub move_steps : {z : Size} {d : Lval} {e : Expr} {a b : Arg} {x y : Leaks} (at here : Span) (t : State) (ns : List ℕ) → option_or (left_sizes (d ∷ [])) (own_size e) ≡ Some z → IsArg home z e a x → IsDest home z d b y
      → assigned (d ∷ []) None e None here s ≡ went ns t
      → (first : List ℕ) × (second : List ℕ) × (ns ≡ first ++ second) × IsCounted x first × IsCounted y second × StepsAs (plain at (action.Mov z b a)) t (shown_of y second ++ (shown_of x first ++ []))
  move_steps {z} {d} {e} {a} {b} {x} {y} at here t ns size isa isd run =
      let l = one_left (Some z) d e here s t ns (subst (λ w. and_then (results_of (d ∷ []) e here w s) (λ vs. and_then (conditioned (d ∷ []) None here vs s) (λ ws. all_written here w (d ∷ []) ws s)) ≡ went ns t) size run) in
      let r = operand_read frame home homing s σ related isa l.first l.value l.evaluates in
      let w = dest_written frame home homing s σ related isd l.value r.bits l.second t r.word r.small l.writes in (
        l.first,
        l.second,
        l.numbers,
        r.counted,
        w.counted,
        record {
          done = record { shown = shown b σ ++ (shown a σ ++ []); division = []; state = with_flags (plain at (action.Mov z b a)) no_flags w.after };
          steps = move_by at z b a r.bits w.after r.value w.put';
          agrees = related_same frame home homing t w.after _ w.agrees (λ m. refl) refl refl;
          shows = append_nil (shown b σ ++ (shown a σ ++ [])) ∙ ap (λ q. q ++ (shown a σ ++ [])) w.numbers ∙ ap (λ q. shown_of y l.second ++ (q ++ [])) r.numbers;
        },
      )
