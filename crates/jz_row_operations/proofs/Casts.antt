-- `r = (tu)o`, `r = (ts)o` and `r = (tu)a`: extensions, and moves of the lowest bits.
use Rattle.std.proofs.Common.{◌≡◌, ℕ, ◌%◌, ◌<◌, ◌≤◌, Bool, true, false, List, [], ◌∷◌, ◌++◌, Option, Some, None, refl, sym, ap, ◌∙◌, subst, arith}
use Rattle.std.specs.Prelude.{nat_le, if◌then◌else◌}
use Rattle.std.specs.Option.{option_or}
use Rattle.std.proofs.lemmas.Bool.{le-leb}
use Rattle.std.proofs.lemmas.Nat.{mod_below}
use Rattle.jz_io.specs.declared.span.Span.{Span}
use Rattle.jz_words.specs.declared.size.Size.{Size}
use Rattle.jz_words.specs.declared.size.Size.TheVariants.{S8, S16, S32, S64}
use Rattle.jz_words.specs.Sizes.{bits_of, modulus, signed}
use Rattle.jz_words.specs.Words.{residue}
use Rattle.jz_words.proofs.Residues.{some_words, residue_below}
use Rattle.x64_insn.specs.Products.{no_flags}
use Rattle.jz_tree.specs.declared.expr.Expr.{Expr}
use Rattle.jz_tree.specs.declared.expr.Expr.TheVariants as expr
use Rattle.jz_tree.specs.declared.expr.Expr.TheOpen.{Expr-F}
use Rattle.jz_tree.specs.declared.expr.Expr.TheFolds.{fold-roll-Expr}
use Rattle.jz_tree.specs.declared.stmt.Lval.{Lval}
use Rattle.jz_runs.specs.Rules.{went}
use Rattle.jz_meaning.specs.Attempts.{and_then, defined}
use Rattle.jz_meaning.specs.States.{Value, word, State}
use Rattle.jz_meaning.specs.Operators.{word_of, cast}
use Rattle.jz_meaning.specs.Values.{own_size, evaluated, expr_step, ty_step, access_step, decl_step, var_step}
use Rattle.jz_meaning.specs.Assignments.{left_sizes, results_of, conditioned, all_written, assigned}
use Rattle.jz_operations.specs.declared.operation.Arg.{Arg}
use Rattle.jz_operations.specs.declared.operation.Arg.TheVariants as arg
use Rattle.jz_operations.specs.declared.operation.Action.TheVariants as action
use Rattle.jz_operations.specs.Values as over
use Rattle.jz_operations.specs.Rows.{Frame, narrowed, value_of, moved, step, with_flags}
use Rattle.jz_operations.proofs.Somes.{read_word}
use Rattle.jz_homes.proofs.Shown.{shown, read_shown}
use Rattle.jz_homes.specs.Homes.{Homes, IsHoming, IsRelated}
use Rattle.jz_homes.specs.Operands.{IsCounted, Leaks, IsArg, IsDest, shown_of}
use Rattle.jz_row_operations.specs.Codes.{plain}
use Rattle.jz_homes.proofs.Parts.{both_went, went_same}
use Rattle.jz_homes.proofs.Reading.{FormOf, operand_read, word_itself}
use Rattle.jz_homes.proofs.Writing.{WritesAs, dest_written, related_same}
use Rattle.jz_row_operations.proofs.Moves.{one_left, append_nil, StepsAs, move_by}
use Rattle.jz_row_operations.proofs.Sums.{OfSize, sized, whole, of_size}

evaluated_cast : (z : Size) (sign : Bool) (a : Expr) (at : Span) (w : Option Size) (s : State) → evaluated (expr.Cast z sign a at) w s ≡ and_then (evaluated a (own_size a) s) (λ v. defined at (cast z sign v))
evaluated_cast z sign a at w s = ap (λ x. evaluated x w s) (sym (expr.rolls-Cast z sign a at)) ∙ ap (λ m. m.run w s) (fold-roll-Expr _ _ _ _ _ expr_step ty_step access_step decl_step var_step (Expr-F.Cast z sign a at))

-- what the source makes of a word, and what the move does
moved_is : (sign : Bool) (to from : Size) (a : ℕ) → a < modulus from → (if sign then residue to (signed from a) else a % modulus to) ≡ moved sign to from a
moved_is true to from a h = refl
moved_is false S64 S32 a h = omega (arith, h)
moved_is false S64 S8 a h = refl
moved_is false S64 S16 a h = refl
moved_is false S64 S64 a h = refl
moved_is false S8 from a h = refl
moved_is false S16 from a h = refl
moved_is false S32 from a h = refl

cast_is : (sign : Bool) (to from : Size) (at : Span) (v : Value) (a : ℕ) (ns : List ℕ) (u : Value) → OfSize from v a → FormOf (arg.Var 0) v → defined at (cast to sign v) ≡ went ns u → (ns ≡ []) × (u ≡ word to (if sign then residue to (signed from a) else a % modulus to))
unfolding cast
cast_is sign to from at v a ns u (sized c) f e = let k = went_same [] ns _ u e in (sym k.0, sym k.1)
cast_is sign to from at v a ns u (whole i) f e = absurd f

cast_small : (sign : Bool) (to from : Size) (a : ℕ) → (if sign then residue to (signed from a) else a % modulus to) < modulus to
cast_small true to from a = residue_below to (signed from a)
cast_small false to from a = mod_below a (modulus to) (some_words to)

extend_by : (frame : Frame) (at : Span) (sign : Bool) (to from : Size) (m : ℕ) (y : Arg) (a : ℕ) (σ : over.State) → value_of frame y from σ ≡ Some a
    → step frame (plain at (action.Extend sign to from m y)) σ ≡ Some (record {
      shown = shown y σ ++ [];
      division = [];
      state = with_flags (plain at (action.Extend sign to from m y)) no_flags (record σ { vars = over.set_var m (Some (over.word to (moved sign to from a))) σ.vars; left = λ r. None });
    })
extend_by frame at sign to from m y a σ e = rw e (rw (read_shown frame y from σ a e) refl)

-- fewer bits of a word
fewer : (to from : Size) (m : ℕ) → bits_of to ≤ bits_of from → m % modulus from % modulus to ≡ m % modulus to
fewer S8 S8 m h = omega arith
fewer S8 S16 m h = omega arith
fewer S8 S32 m h = omega arith
fewer S8 S64 m h = omega arith
fewer S16 S8 m h = absurd (omega (arith, h))
fewer S16 S16 m h = omega arith
fewer S16 S32 m h = omega arith
fewer S16 S64 m h = omega arith
fewer S32 S8 m h = absurd (omega (arith, h))
fewer S32 S16 m h = absurd (omega (arith, h))
fewer S32 S32 m h = omega arith
fewer S32 S64 m h = omega arith
fewer S64 S8 m h = absurd (omega (arith, h))
fewer S64 S16 m h = absurd (omega (arith, h))
fewer S64 S32 m h = absurd (omega (arith, h))
fewer S64 S64 m h = omega arith

has_bits : (to y : Size) (m : ℕ) → bits_of to ≤ bits_of y → narrowed to (Some (over.word y m)) ≡ Some (m % modulus to)
has_bits to y m h = let e : nat_le (bits_of to) (bits_of y) ≡ true = le-leb (bits_of to) (bits_of y) h in rw e refl

pub narrower : (to from : Size) (o : Option over.Value) (a : ℕ) → bits_of to ≤ bits_of from → narrowed from o ≡ Some a → narrowed to o ≡ Some (a % modulus to)
narrower to from o a h e =
    let k = read_word from o a e in
    let w = k.wide in
    ap (narrowed to) k.there ∙ has_bits to k.size k.bits (omega (arith, h, w)) ∙ ap (λ n. Some n) (sym (fewer to from k.bits h) ∙ ap (λ n. n % modulus to) k.is)

module _ (frame : Frame) (home : Homes) (homing : IsHoming frame home) (s : State) (σ : over.State) (related : IsRelated home s σ) where
  pub record CastParts (sign : Bool) (to from : Size) (a : Expr) (y : Arg) (p : Leaks) (b : Arg) (r : Leaks) (t : State) (ns : List ℕ) : Type 0 where
    pub first : List ℕ
    pub second : List ℕ
    pub numbers : ns ≡ first ++ second
    pub bits : ℕ
    pub small : bits < modulus from
    pub reads : value_of frame y from σ ≡ Some bits
    pub shows : shown y σ ≡ shown_of p first
    pub counted : IsCounted p first
    pub writes : WritesAs frame home homing s σ related to b r (if sign then residue to (signed from bits) else bits % modulus to) second t

  numbers_by : (a b c ns : List ℕ) → ns ≡ (a ++ b) ++ c → b ≡ [] → ns ≡ a ++ c
  numbers_by a b c ns e f = e ∙ ap (λ x. (a ++ x) ++ c) f ∙ ap (λ x. x ++ c) (append_nil a)

  pub cast_parts : (sign : Bool) {to from : Size} {d : Lval} {a : Expr} {y b : Arg} {p r : Leaks} (at here : Span) (t : State) (ns : List ℕ) → own_size a ≡ Some from → option_or (left_sizes (d ∷ [])) (own_size (expr.Cast to sign a at)) ≡ Some to
      → IsArg home from a y p → ((v : Value) → FormOf y v → FormOf (arg.Var 0) v) → IsDest home to d b r → assigned (d ∷ []) None (expr.Cast to sign a at) None here s ≡ went ns t → CastParts sign to from a y p b r t ns
  cast_parts sign {to} {from} {d} {a} {y} {b} {p} {r} at here t ns own size ia word' id run =
      let e = expr.Cast to sign a at in
      let l = one_left (Some to) d e here s t ns (subst (λ w. and_then (results_of (d ∷ []) e here w s) (λ vs. and_then (conditioned (d ∷ []) None here vs s) (λ ws. all_written here w (d ∷ []) ws s)) ≡ went ns t) size run) in
      let u : and_then (evaluated a (Some from) s) (λ v. defined at (cast to sign v)) ≡ went l.first l.value = ap (λ w. and_then (evaluated a w s) (λ v. defined at (cast to sign v))) (sym own) ∙ sym (evaluated_cast to sign a at (Some to) s) ∙ l.evaluates in
      let g = both_went (evaluated a (Some from) s) (λ v. defined at (cast to sign v)) l.first l.value u in
      let m = operand_read frame home homing s σ related ia g.first g.value g.came in
      let c = cast_is sign to from at g.value m.bits g.second l.value (of_size from g.value m.bits m.word) (word' g.value m.form) g.went_on in
      let n = if sign then residue to (signed from m.bits) else m.bits % modulus to in
      record {
        first = g.first;
        second = l.second;
        numbers = numbers_by g.first g.second l.second ns (l.numbers ∙ ap (λ x. x ++ l.second) g.numbers) c.0;
        bits = m.bits;
        small = m.small;
        reads = m.value;
        shows = m.numbers;
        counted = m.counted;
        writes = dest_written frame home homing s σ related id l.value n l.second t (ap (word_of to) c.1 ∙ word_itself to n) (cast_small sign to from m.bits) l.writes;
      }

  -- extensions
  pub extend_steps : (sign : Bool) {to from : Size} {a : Expr} {y : Arg} {p r : Leaks} (m : ℕ) (at : Span) (t : State) (ns : List ℕ) → (k : CastParts sign to from a y p (arg.Var m) r t ns)
      → StepsAs frame home homing s σ related (plain at (action.Extend sign to from m y)) t (shown_of p k.first)
  extend_steps sign {to} {from} {a} {y} {p} {r} m at t ns k =
      let σ1 : over.State = record σ { vars = over.set_var m (Some (over.word to (moved sign to from k.bits))) σ.vars; left = λ q. None } in
      let same = Rattle.jz_operations.proofs.Somes.same_some _ k.writes.after k.writes.put' in
      let word' = moved_is sign to from k.bits k.small in
      record {
        done = record { shown = shown y σ ++ []; division = []; state = with_flags (plain at (action.Extend sign to from m y)) no_flags σ1 };
        steps = extend_by frame at sign to from m y k.bits σ k.reads;
        agrees = related_same frame home homing t k.writes.after _ k.writes.agrees (λ q. ap (λ w. over.set_var m (Some (over.word to w)) σ.vars q) (sym word') ∙ ap (λ u. u.vars q) same) (ap (λ u. u.cells) same) (ap (λ u. u.memory) same);
        shows = append_nil (shown y σ ++ []) ∙ append_nil (shown y σ) ∙ k.shows;
      }

  -- the lowest bits of a register
  pub lowest_steps : {to from : Size} {a : Expr} {p r : Leaks} {b : Arg} (n : ℕ) (at : Span) (t : State) (ns : List ℕ) → bits_of to ≤ bits_of from → (k : CastParts false to from a (arg.Var n) p b r t ns)
      → StepsAs frame home homing s σ related (plain at (action.Mov to b (arg.Var n))) t (shown_of r k.second ++ [])
  lowest_steps {to} {from} {a} {p} {r} {b} n at t ns le k =
      let reads : value_of frame (arg.Var n) to σ ≡ Some (k.bits % modulus to) = narrower to from (σ.vars n) k.bits le k.reads in
      record {
        done = record { shown = shown b σ ++ ([] ++ []); division = []; state = with_flags (plain at (action.Mov to b (arg.Var n))) no_flags k.writes.after };
        steps = move_by frame home homing s σ related at to b (arg.Var n) (k.bits % modulus to) k.writes.after reads k.writes.put';
        agrees = related_same frame home homing t k.writes.after _ k.writes.agrees (λ m. refl) refl refl;
        shows = append_nil (shown b σ ++ []) ∙ ap (λ q. q ++ []) k.writes.numbers;
      }
