-- `r = o if c`: the condition's operations, and a conditional move.
use Rattle.std.proofs.Common.{◌≡◌, ℕ, ◌<◌, Bool, true, false, List, [], ◌∷◌, ◌++◌, Option, Some, None, refl, sym, ap, ◌∙◌, subst}
use Rattle.std.specs.Prelude.{if◌then◌else◌}
use Rattle.std.specs.Option.{option_or}
use Rattle.jz_io.specs.declared.span.Span.{Span}
use Rattle.jz_words.specs.declared.size.Size.{Size}
use Rattle.jz_words.specs.Sizes.{modulus}
use Rattle.x64_insn.specs.Products.{no_flags}
use Rattle.jz_tree.specs.declared.expr.Expr.{Expr}
use Rattle.jz_tree.specs.declared.expr.Var.{Var}
use Rattle.jz_tree.specs.declared.stmt.Lval.TheVariants as lval
use Rattle.jz_runs.specs.Rules.{stuck, went}
use Rattle.jz_meaning.specs.declared.access.Kind.TheVariants as kind
use Rattle.jz_meaning.specs.Attempts.{Evaluation, and_then, defined}
use Rattle.jz_meaning.specs.States.{Value, word, boolean, State}
use Rattle.jz_meaning.specs.Operators.{word_of}
use Rattle.jz_meaning.specs.Values.{key_of, ref_of, variable_value, size_of, own_size, evaluated}
use Rattle.jz_meaning.specs.Assignments.{left_sizes, Results, bool_in, old_value, chosen, written, all_written, results_of, conditioned, assigned}
use Rattle.jz_operations.specs.declared.operation.Arg.{Arg}
use Rattle.jz_operations.specs.declared.operation.Condition.{Condition}
use Rattle.jz_operations.specs.declared.operation.Action.TheVariants as action
use Rattle.jz_operations.specs.Values as over
use Rattle.jz_operations.specs.Values.{set_var}
use Rattle.jz_operations.specs.Rows.{Frame, narrowed, value_of, holds_in, Done, step, with_flags}
use Rattle.jz_operations.specs.Reading.{is_var, found_by}
use Rattle.jz_operations.proofs.OwnVariables.{SameIn, value_same}
use Rattle.jz_homes.proofs.Shown.{shown, read_shown, shown_same}
use Rattle.jz_homes.specs.Homes.{Homes, IsHoming, in_register, IsRelated}
use Rattle.jz_homes.specs.Operands.{IsCounted, Leaks, IsArg, shown_of, a_word, to_word}
use Rattle.jz_placing.specs.Variables.{numbers_of}
use Rattle.jz_row_operations.specs.Codes.{plain}
use Rattle.jz_homes.proofs.Parts.{both_went, went_same, defined_went, evaluated_var}
use Rattle.jz_homes.proofs.Reading.{operand_read}
use Rattle.jz_homes.proofs.Writing.{dest_written, related_same}
use Rattle.jz_row_operations.proofs.Moves.{append_nil}
use Rattle.jz_row_operations.proofs.Sums.{no_name, left_same}

chosen_one : (k : Bool) (v old : Value) → chosen k (Some v ∷ []) old ≡ Some (if k then v else old) ∷ []
chosen_one true v old = refl
chosen_one false v old = refl

word_chosen : (z : Size) (k : Bool) (v old : Value) (a b : ℕ) → word_of z v ≡ Some a → word_of z old ≡ Some b → word_of z (if k then v else old) ≡ Some (if k then a else b)
word_chosen z true v old a b e f = e
word_chosen z false v old a b e f = f

small_chosen : (k : Bool) (a b m : ℕ) → a < m → b < m → (if k then a else b) < m
small_chosen true a b m h l = h
small_chosen false a b m h l = l

pub all_same : (σ τ : over.State) → τ.vars ≡ σ.vars → (vs : List ℕ) → SameIn σ τ vs
all_same σ τ e [] = tt
all_same σ τ e (v ∷ vs) = (ap (λ f. f v) e, all_same σ τ e vs)

cmov_by : (frame : Frame) (at : Span) (z : Size) (c : Condition) (m : ℕ) (y : Arg) (k : Bool) (a b : ℕ) (σ : over.State) → holds_in c σ ≡ Some k → value_of frame y z σ ≡ Some a → narrowed z (σ.vars m) ≡ Some b
    → step frame (plain at (action.Cmov c z m y)) σ ≡ Some (record {
      shown = shown y σ ++ [];
      division = [];
      state = with_flags (plain at (action.Cmov c z m y)) no_flags (record σ { vars = set_var m (Some (over.word z (if k then a else b))) σ.vars; left = λ r. None });
    })
cmov_by frame at z c m y k a b σ e f g = rw (e, f, g) (rw (read_shown frame y z σ a f) refl)

word_value_nothing : (at : Span) (z : Size) (u : Value) (ns : List ℕ) (v : Value) → Rattle.jz_meaning.specs.Assignments.word_value at z u ≡ went ns v → ns ≡ []
word_value_nothing at z u ns v e =
    let g = both_went (Rattle.jz_meaning.specs.Operators.word_at at z u) (λ a. went [] (word z a)) ns v e in
    let d = defined_went at (word_of z u) g.first g.value g.came in
    let q = went_same [] g.second (word z g.value) v g.went_on in
    g.numbers ∙ ap (λ y. y ++ g.second) d.1 ∙ sym q.0

held_by : (at : Span) (k : Rattle.jz_meaning.specs.declared.access.Kind.Kind) (u : Value) (ns : List ℕ) (v : Value) → Rattle.jz_meaning.specs.Assignments.held at k u ≡ went ns v → ns ≡ []
held_by at (kind.Word z) u ns v e = word_value_nothing at z u ns v e
held_by at kind.Int (Rattle.jz_meaning.specs.States.integer i) ns v e = sym (went_same [] ns _ v e).0
held_by at kind.Int (word z a) ns v e = absurd cc
held_by at kind.Int (boolean c) ns v e = absurd cc
held_by at kind.Bool (boolean c) ns v e = sym (went_same [] ns _ v e).0
held_by at kind.Bool (word z a) ns v e = absurd cc
held_by at kind.Bool (Rattle.jz_meaning.specs.States.integer i) ns v e = absurd cc
held_by at (kind.Array z n) u ns v e = absurd cc
held_by at kind.Undeclared u ns v e = absurd cc

held_nothing : (at : Span) (k : Rattle.jz_meaning.specs.declared.access.Kind.Kind) (u : Value) (ns : List ℕ) (h : Option Value) → Rattle.jz_meaning.specs.Assignments.held_or_unset at k (Some u) ≡ went ns h → ns ≡ []
held_nothing at k u ns h e =
    let g = both_went (Rattle.jz_meaning.specs.Assignments.held at k u) (λ c. went [] (Some c)) ns h e in
    let q = went_same [] g.second (Some g.value) h g.went_on in
    g.numbers ∙ ap (λ y. y ++ g.second) (held_by at k u g.first g.value g.came) ∙ sym q.0

module _ (frame : Frame) (home : Homes) (homing : IsHoming frame home) (s : State) (σ : over.State) (related : IsRelated home s σ) where
  -- the parts of the source's statement
  pub record Conditional (z : Size) (x : Var) (e cnd : Expr) (here : Span) (t : State) (ns : List ℕ) : Type 0 where
    pub first : List ℕ
    pub value : Value
    pub second : List ℕ
    pub answer : Bool
    pub old : Value
    pub last : List ℕ
    pub evaluates : evaluated e (Some z) s ≡ went first value
    pub asks : bool_in here cnd s ≡ went second answer
    pub before : variable_value (ref_of x) s.store ≡ went [] old
    pub writes : written (Some z) (lval.Var x) (Some (if answer then value else old)) s ≡ went last t
    pub numbers : ns ≡ first ++ (second ++ last)

  five_nil : (a b c d e g h : List ℕ) → b ≡ [] → d ≡ [] → e ≡ [] → h ≡ [] → (a ++ b) ++ ((c ++ (d ++ e)) ++ (g ++ h)) ≡ a ++ (c ++ g)
  five_nil a b c d e g h i j k m =
      ap (λ x. (a ++ x) ++ ((c ++ (d ++ e)) ++ (g ++ h))) i ∙ ap (λ x. x ++ ((c ++ (d ++ e)) ++ (g ++ h))) (append_nil a) ∙ ap (λ x. a ++ ((c ++ (x ++ e)) ++ (g ++ h))) j ∙ ap (λ x. a ++ ((c ++ x) ++ (g ++ h))) k
      ∙ ap (λ x. a ++ (x ++ (g ++ h))) (append_nil c) ∙ ap (λ x. a ++ (c ++ (g ++ x))) m ∙ ap (λ x. a ++ (c ++ x)) (append_nil g)

  old_went : (q : Evaluation Value) (ns : List ℕ) (v : Value) → Rattle.jz_meaning.specs.Attempts.numbers_first [] q ≡ went ns v → q ≡ went ns v
  old_went (stuck w) ns v e = absurd cc
  old_went (went ms u) ns v e = e

  pub nothing_last : (x : Var) (z : Size) (u : Value) (ns : List ℕ) (t : State) → written (Some z) (lval.Var x) (Some u) s ≡ went ns t → ns ≡ []
  nothing_last x z u ns t e =
      let g = both_went (Rattle.jz_meaning.specs.Assignments.held_or_unset (ref_of x).span (ref_of x).kind (Some u)) (λ h. went [] (Rattle.jz_meaning.specs.Assignments.with_value s (key_of (ref_of x)) h)) ns t e in
      let q = went_same [] g.second (Rattle.jz_meaning.specs.Assignments.with_value s (key_of (ref_of x)) g.value) t g.went_on in
      g.numbers ∙ ap (λ y. y ++ g.second) (held_nothing (ref_of x).span (ref_of x).kind u g.first g.value g.came) ∙ sym q.0

  pub conditional_parts : (z : Size) (x : Var) (e cnd : Expr) (here : Span) (t : State) (ns : List ℕ) → (ref_of x).kind ≡ kind.Word z → option_or (left_sizes (lval.Var x ∷ [])) (own_size e) ≡ Some z
      → assigned (lval.Var x ∷ []) None e (Some cnd) here s ≡ went ns t → Conditional z x e cnd here t ns
  conditional_parts z x e cnd here t ns kind' size run =
      let to = lval.Var x ∷ [] in
      let run' : and_then (and_then (evaluated e (Some z) s) (λ v. went [] (Some v ∷ []))) (λ vs. and_then (conditioned to (Some cnd) here vs s) (λ ws. all_written here (Some z) to ws s)) ≡ went ns t =
      subst (λ w. and_then (results_of to e here w s) (λ vs. and_then (conditioned to (Some cnd) here vs s) (λ ws. all_written here w to ws s)) ≡ went ns t) size run in
      let g = both_went (and_then (evaluated e (Some z) s) (λ v. went [] (Some v ∷ []))) (λ vs. and_then (conditioned to (Some cnd) here vs s) (λ ws. all_written here (Some z) to ws s)) ns t run' in
      let v = both_went (evaluated e (Some z) s) (λ v. went [] (Some v ∷ [])) g.first g.value g.came in
      let w = went_same [] v.second (Some v.value ∷ []) g.value v.went_on in
      let h = both_went (conditioned to (Some cnd) here g.value s) (λ ws. all_written here (Some z) to ws s) g.second t g.went_on in
      let c = both_went (bool_in here cnd s) (λ c. and_then (old_value to here s) (λ old. went [] (chosen c g.value old))) h.first h.value h.came in
      let o' = both_went (old_value to here s) (λ old. went [] (chosen c.value g.value old)) c.second h.value c.went_on in
      let d : evaluated (Rattle.jz_tree.specs.declared.expr.Expr.TheVariants.Var x) (size_of (ref_of x).kind) s ≡ went o'.first o'.value = old_went (evaluated (Rattle.jz_tree.specs.declared.expr.Expr.TheVariants.Var x) (size_of (ref_of x).kind) s) o'.first o'.value o'.came in
      let b : variable_value (ref_of x) s.store ≡ went o'.first o'.value = sym (evaluated_var x (size_of (ref_of x).kind) s) ∙ d in
      let b2 = defined_went (ref_of x).span (s.store (key_of (ref_of x))) o'.first o'.value b in
      let l = went_same [] o'.second (chosen c.value g.value o'.value) h.value o'.went_on in
      let ws : h.value ≡ Some (if c.value then v.value else o'.value) ∷ [] = sym l.1 ∙ ap (λ y. chosen c.value y o'.value) (sym w.1) ∙ chosen_one c.value v.value o'.value in
      let all : all_written here (Some z) to (Some (if c.value then v.value else o'.value) ∷ []) s ≡ went h.second t = subst (λ y. all_written here (Some z) to y s ≡ went h.second t) ws h.went_on in
      let q = both_went (written (Some z) (lval.Var x) (Some (if c.value then v.value else o'.value)) s) (λ u. all_written here (Some z) [] [] u) h.second t all in
      let r = went_same [] q.second q.value t q.went_on in
      record {
        first = v.first;
        value = v.value;
        second = c.first;
        answer = c.value;
        old = o'.value;
        last = q.first;
        evaluates = v.came;
        asks = c.came;
        before = b ∙ ap (λ y. went y o'.value) b2.1;
        writes = q.came ∙ ap (went q.first) r.1;
        numbers = g.numbers ∙ ap (λ y. y ++ g.second) v.numbers ∙ ap (λ y. (v.first ++ v.second) ++ y) (h.numbers ∙ ap (λ y. y ++ h.second) (c.numbers ∙ ap (λ y. c.first ++ y) o'.numbers) ∙ ap (λ y. (c.first ++ (o'.first ++ o'.second)) ++ y) q.numbers)
            ∙ five_nil v.first v.second c.first o'.first o'.second q.first q.second (sym w.0) b2.1 (sym l.0) (sym r.0);
      }

  -- behind the condition's operations, which change no variable, cell or memory
  pub conditional_steps : {z : Size} {e : Expr} {y : Arg} {p : Leaks} (x : Var) (m : ℕ) (cnd : Expr) (c : Condition) (at here : Span) (t : State) (ns : List ℕ) → (ref_of x).kind ≡ kind.Word z → home (key_of (ref_of x)) ≡ Some (in_register m z)
      → IsArg home z e y p → (k : Conditional z x e cnd here t ns)
      → (σ1 : over.State) → σ1.vars ≡ σ.vars → σ1.cells ≡ σ.cells → σ1.memory ≡ σ.memory → holds_in c σ1 ≡ Some k.answer
      → (d : Done) × (step frame (plain at (action.Cmov c z m y)) σ1 ≡ Some d) × IsRelated home t d.state × (numbers_of d ≡ shown_of p k.first) × (k.last ≡ []) × IsCounted p k.first
  conditional_steps {z} {e} {y} {p} x m cnd c at here t ns kind' h ie k σ1 vars cells memory says =
      let r = operand_read frame home homing s σ related ie k.first k.value k.evaluates in
      let o' = operand_read frame home homing s σ related (a_word x m h) [] k.old (evaluated_var x (Some z) s ∙ k.before) in
      let w = dest_written frame home homing s σ related (to_word x m kind' h) (if k.answer then k.value else k.old) (if k.answer then r.bits else o'.bits) k.last t
      (word_chosen z k.answer k.value k.old r.bits o'.bits r.word o'.word) (small_chosen k.answer r.bits o'.bits (modulus z) r.small o'.small) k.writes in
      let read1 : value_of frame y z σ1 ≡ Some r.bits = value_same σ σ1 frame y z (all_same σ σ1 vars (is_var y ++ found_by y)) (left_same σ σ1 y (no_name ie)) cells memory ∙ r.value in
      let old1 : narrowed z (σ1.vars m) ≡ Some o'.bits = ap (λ f. narrowed z (f m)) vars ∙ o'.value in
      let n = if k.answer then r.bits else o'.bits in
      let σ2 : over.State = record σ1 { vars = set_var m (Some (over.word z n)) σ1.vars; left = λ q. None } in
      let same' = Rattle.jz_operations.proofs.Somes.same_some _ w.after w.put' in (
        record { shown = shown y σ1 ++ []; division = []; state = with_flags (plain at (action.Cmov c z m y)) no_flags σ2 },
        cmov_by frame at z c m y k.answer r.bits o'.bits σ1 says read1 old1,
        related_same frame home homing t w.after _ w.agrees (λ q. ap (λ f. set_var m (Some (over.word z n)) f q) vars ∙ ap (λ u. u.vars q) same') (cells ∙ ap (λ u. u.cells) same') (memory ∙ ap (λ u. u.memory) same'),
        append_nil (shown y σ1 ++ []) ∙ append_nil (shown y σ1) ∙ shown_same σ σ1 y (all_same σ σ1 vars (found_by y)) ∙ r.numbers,
        nothing_last x z (if k.answer then k.value else k.old) k.last t k.writes,
        r.counted,
      )
