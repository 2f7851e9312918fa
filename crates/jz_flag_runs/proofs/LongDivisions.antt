-- DIV: RAX gets the low word, RDX the high one, each with its variable or with none.
use Rattle.std.proofs.Common.{◌≡◌, ℕ, ◌+◌, ◌*◌, ◌/◌, ◌%◌, ◌<◌, Bool, true, false, List, [], ◌∷◌, ◌++◌, Option, Some, None, refl, sym, ap, ◌∙◌, subst, arith}
use Rattle.std.specs.Prelude.{◌==◌, nat_lt, if◌then◌else◌}
use Rattle.std.proofs.lemmas.Bool.{ltb-true}
use Rattle.std.proofs.lemmas.Nat.{mod_below}
use Rattle.jz_io.specs.declared.span.Span.{Span}
use Rattle.jz_words.specs.declared.size.Size.{Size}
use Rattle.jz_words.specs.Sizes.{modulus}
use Rattle.x64_insn.specs.declared.products.DoubleAnswer.{DoubleAnswer}
use Rattle.x64_insn.specs.declared.types.Reg.TheVariants as reg
use Rattle.x64_insn.specs.declared.types.Wide.TheVariants as wide
use Rattle.x64_insn.specs.Products.{no_flags, quotient_answer}
use Rattle.jz_tree.specs.declared.expr.Expr.{Expr}
use Rattle.jz_tree.specs.declared.stmt.Lval.{Lval}
use Rattle.jz_runs.specs.Rules.{went}
use Rattle.jz_meaning.specs.Attempts.{and_then}
use Rattle.jz_meaning.specs.States.{word, State}
use Rattle.jz_meaning.specs.Intrinsics.{all_flags, of_division, division_results, divided_by}
use Rattle.jz_meaning.specs.Assignments.{Results, word_in, all_written}
use Rattle.jz_operations.specs.declared.operation.Pinned.{Pinned}
use Rattle.jz_operations.specs.declared.operation.Arg.{Arg}
use Rattle.jz_operations.specs.declared.operation.Arg.TheVariants as arg
use Rattle.jz_operations.specs.declared.operation.Action.TheVariants as action
use Rattle.jz_operations.specs.declared.operation.Flags.{Flags}
use Rattle.jz_operations.specs.Values as over
use Rattle.jz_operations.specs.Rows.{Frame, value_of, put, step, with_flags}
use Rattle.jz_operations.specs.Reading.{is_var, found_by}
use Rattle.jz_operations.proofs.Somes.{same_some}
use Rattle.jz_operations.proofs.OwnVariables.{SameIn, value_same, same_right}
use Rattle.jz_homes.proofs.Shown.{shown, read_shown, put_shown, shown_same}
use Rattle.jz_homes.specs.Homes.{Homes, IsHoming, IsRelated}
use Rattle.jz_homes.specs.Operands.{Leaks, IsCounted, IsArg, shown_of}
use Rattle.jz_row_operations.specs.Codes.{plain}
use Rattle.jz_flag_rows.specs.Results.{IsPinned}
use Rattle.jz_flag_runs.proofs.FlagLefts.{AreApart, set_pinned, IsFreeOf}
use Rattle.jz_homes.proofs.Parts.{both_went, went_same}
use Rattle.jz_row_operations.proofs.Moves.{append_nil}
use Rattle.jz_row_operations.proofs.Sums.{NoName, left_same, away, RunsAs}
use Rattle.jz_row_operations.proofs.Conditionals.{all_same}
use Rattle.jz_flag_runs.proofs.Words.{word_read_in}
use Rattle.jz_flag_runs.proofs.Intrinsics.{FiveTo, five_flags}
use Rattle.jz_flag_runs.proofs.Wides.{words_result}
use Rattle.jz_flag_runs.proofs.Quotients.{divides}

-- what a quotient that is there has
record Fits (m : ℕ) (r : DoubleAnswer) : Type 0 where
  pub low : r.low < m
  pub high : r.high < m
  pub flags : r.flags ≡ no_flags

not_zero_by : (d : ℕ) → (d == 0) ≡ false → 0 < d
not_zero_by d e = grind (arith, e)

not_zero : (d : ℕ) → (d == 0) ≡ false → 0 < d
not_zero d e = not_zero_by d e

fits_by : (b c : Bool) (n d m : ℕ) (r : DoubleAnswer) → d < m → (d == 0) ≡ b → nat_lt (n / d) m ≡ c → (if b then None else if c then Some (record { high = n % d; low = n / d; flags = no_flags }) else None) ≡ Some r → Fits m r
fits_by true c n d m r h e f g = absurd cc
fits_by false false n d m r h e f g = absurd cc
fits_by false true n d m r h e f g =
    subst (Fits m) (same_some _ r g) (record { low = ltb-true (n / d) m f; high = (let k = mod_below n d (not_zero d e) in omega (arith, k, h)); flags = refl })

quotient_fits : (z : Size) (hi lo d : ℕ) (r : DoubleAnswer) → d < modulus z → quotient_answer z hi lo d ≡ Some r → Fits (modulus z) r
unfolding quotient_answer
quotient_fits z hi lo d r h e = fits_by (d == 0) (nat_lt ((hi * modulus z + lo) / d) (modulus z)) (hi * modulus z + lo) d (modulus z) r h refl refl e

came_by : (at : Span) (z : Size) (ns : List ℕ) (o : Option DoubleAnswer) (ms : List ℕ) (rs : Results) → divided_by at z ns o ≡ went ms rs → (r : DoubleAnswer) × (o ≡ Some r) × (ms ≡ ns) × (rs ≡ all_flags r.flags ++ (Some (word z r.low) ∷ Some (word z r.high) ∷ []))
came_by at z ns None ms rs e = absurd cc
came_by at z ns (Some r) ms rs e = let k = went_same ns ms _ rs e in (r, refl, sym k.0, sym k.1)

mov_by : (frame : Frame) (at : Span) (z : Size) (b a : Arg) (n : ℕ) (σ τ : over.State) → value_of frame a z σ ≡ Some n → put frame b z n σ ≡ Some τ
    → step frame (plain at (action.Mov z b a)) σ ≡ Some (record { shown = shown b σ ++ (shown a σ ++ []); division = []; state = with_flags (plain at (action.Mov z b a)) no_flags τ })
mov_by frame at z b a n σ τ e f = rw e (rw (put_shown frame b z n σ τ f, read_shown frame a z σ n e) (rw f refl))

module _ (frame : Frame) (home : Homes) (homing : IsHoming frame home) (s : State) (σ : over.State) (related : IsRelated home s σ) where
  pinned_away : (l : Option Pinned) (w : Arg) (z : Size) (a : ℕ) (τ : over.State) → IsFreeOf l w → τ.vars ≡ set_pinned l z a σ.vars → SameIn σ τ (is_var w ++ found_by w)
  pinned_away None w z a τ free e = all_same σ τ e (is_var w ++ found_by w)
  pinned_away (Some p) w z a τ free e = away p.variable (is_var w ++ found_by w) (Some (over.word z a)) σ τ e free

  pub record LongRuns (fl : Flags) (sp : Span) (z : Size) (l h : Option Pinned) (w x y : Arg) (p q v : Leaks) (t : State) (ns : List ℕ) : Type 0 where
    pub first : List ℕ
    pub second : List ℕ
    pub third : List ℕ
    pub hi : ℕ
    pub lo : ℕ
    pub d : ℕ
    pub numbers : ns ≡ first ++ (second ++ (third ++ (hi ∷ lo ∷ d ∷ [])))
    pub counted_high : IsCounted p first
    pub counted_low : IsCounted q second
    pub counted_by : IsCounted v third
    pub goes : RunsAs frame home homing s σ related (plain sp (action.Mov z (arg.At reg.Rax l) x) ∷ plain sp (action.Mov z (arg.At reg.Rdx h) w) ∷ record { span = sp; action = action.Wide wide.Div z l h y; flags = fl } ∷ []) t
        (shown_of q second ∷ shown_of p first ∷ (shown_of v third ++ (hi ∷ lo ∷ d ∷ [])) ∷ [])

  four_lists : (a b c e f ns : List ℕ) → ns ≡ (a ++ (b ++ (c ++ e))) ++ f → f ≡ [] → ns ≡ a ++ (b ++ (c ++ e))
  four_lists a b c e f ns g h = g ∙ ap (λ y. (a ++ (b ++ (c ++ e))) ++ y) h ∙ append_nil (a ++ (b ++ (c ++ e)))

  pub long_division_runs : (fl : Flags) {ls : List Lval} {z : Size} {dq dr : Lval} {a b c : Expr} {w x y : Arg} {p q v : Leaks} (l h : Option Pinned) (sp at : Span) (t : State) (ns : List ℕ) → FiveTo home ls fl → IsPinned home z dq l → IsPinned home z dr h → AreApart l h
      → IsArg home z a w p → IsArg home z b x q → IsArg home z c y v → NoName w → NoName y → IsFreeOf l w → IsFreeOf l y → IsFreeOf h y
      → and_then (of_division at z (a ∷ b ∷ c ∷ []) s) (λ vs. all_written at (Some z) (ls ++ (dq ∷ dr ∷ [])) vs s) ≡ went ns t → LongRuns fl sp z l h w x y p q v t ns
  long_division_runs fl {ls} {z} {dq} {dr} {a} {b} {c} {w} {x} {y} {p} {q} {v} l h sp at t ns five wq wr apart ia ib ic nw ny lw ly hy run =
      let g = both_went (of_division at z (a ∷ b ∷ c ∷ []) s) (λ vs. all_written at (Some z) (ls ++ (dq ∷ dr ∷ [])) vs s) ns t run in
      let k1 = both_went (word_in at z a s) (λ high. and_then (word_in at z b s) (λ low. and_then (word_in at z c s) (division_results at z high low))) g.first g.value g.came in
      let k2 = both_went (word_in at z b s) (λ low. and_then (word_in at z c s) (division_results at z k1.value low)) k1.second g.value k1.went_on in
      let k3 = both_went (word_in at z c s) (division_results at z k1.value k2.value) k2.second g.value k2.went_on in
      let rh = word_read_in frame home homing s σ related at k1.first k1.value ia k1.came in
      let rl = word_read_in frame home homing s σ related at k2.first k2.value ib k2.came in
      let rd = word_read_in frame home homing s σ related at k3.first k3.value ic k3.came in
      let m = came_by at z (k1.value ∷ k2.value ∷ k3.value ∷ []) (quotient_answer z k1.value k2.value k3.value) k3.second g.value k3.went_on in
      let f = quotient_fits z k1.value k2.value k3.value m.0 rd.small m.1 in
      let r = words_result frame home homing at m.0.low m.0.high g.second s t σ related (five_flags home ls fl m.0.flags five (_, _, _, _, _, f.flags)) wq wr f.low f.high
      (subst (λ vs. all_written at (Some z) (ls ++ (dq ∷ dr ∷ [])) vs s ≡ went g.second t) m.3 g.went_on) in
      record {
        first = k1.first;
        second = k2.first;
        third = k3.first;
        hi = k1.value;
        lo = k2.value;
        d = k3.value;
        numbers = four_lists k1.first k2.first k3.first (k1.value ∷ k2.value ∷ k3.value ∷ []) g.second ns
            (g.numbers ∙ ap (λ e. e ++ g.second) (k1.numbers ∙ ap (λ e. k1.first ++ e) (k2.numbers ∙ ap (λ e. k2.first ++ e) (k3.numbers ∙ ap (λ e. k3.first ++ e) m.2)))) r.0;
        counted_high = rh.counted;
        counted_low = rl.counted;
        counted_by = rd.counted;
        goes = divides frame home homing s σ related false fl sp (action.Mov z (arg.At reg.Rdx h) w) z x y q v l h k2.value k1.value k3.value m.0 k2.first k3.first (shown_of p k1.first) t rh.small rl.small apart ny ly hy rl.reads rl.shows rd.reads rd.shows
            (λ τ τ' e1 e2 e3 rax e.
            let own = pinned_away l w z k2.value τ lw e1 in
            let reads : value_of frame w z τ ≡ Some k1.value = value_same σ τ frame w z own (left_same σ τ w nw) e2 e3 ∙ rh.reads in
            let sh : shown w τ ++ [] ≡ shown_of p k1.first = append_nil (shown w τ) ∙ shown_same σ τ w (same_right σ τ (is_var w) (found_by w) own) ∙ rh.shows in
            mov_by frame sp z (arg.At reg.Rdx h) w k1.value τ τ' reads e ∙ ap (λ l'. Some (record { shown = l'; division = []; state = with_flags (plain sp (action.Mov z (arg.At reg.Rdx h) w)) no_flags τ' })) sh)
            m.1 r.1;
      }
