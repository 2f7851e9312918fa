-- `r = o if c` with a bool variable c, and SETcc.
use Rattle.std.proofs.Common.{◌≡◌, ℕ, ◌+◌, Bool, List, [], ◌∷◌, ◌++◌, length, Option, Some, None, refl, sym, ap, ◌∙◌, subst, arith, append_assoc, length-append}
use Rattle.std.specs.Option.{option_to_list}
use Rattle.jz_io.specs.declared.span.Span.{Span}
use Rattle.jz_words.specs.declared.size.Size.{Size}
use Rattle.jz_words.specs.declared.size.Size.TheVariants.{S8}
use Rattle.jz_words.specs.Words.{carried}
use Rattle.jz_tree.specs.declared.expr.Expr.{Expr}
use Rattle.jz_tree.specs.declared.expr.Var.{Var}
use Rattle.jz_tree.specs.declared.stmt.Lval.{Lval}
use Rattle.jz_tree.specs.declared.stmt.Lval.TheVariants as lval
use Rattle.jz_runs.specs.Rules.{went}
use Rattle.jz_meaning.specs.declared.access.Kind.TheVariants as kind
use Rattle.jz_meaning.specs.Attempts.{and_then}
use Rattle.jz_meaning.specs.States.{word, State}
use Rattle.jz_meaning.specs.Values.{key_of, ref_of}
use Rattle.jz_meaning.specs.Intrinsics.{of_condition}
use Rattle.jz_meaning.specs.Assignments.{bool_in, all_written, assigned}
use Rattle.jz_operations.specs.declared.operation.Arg.{Arg}
use Rattle.jz_operations.specs.declared.operation.Condition.{Condition}
use Rattle.jz_operations.specs.declared.operation.Condition.TheVariants as condition
use Rattle.jz_operations.specs.declared.operation.Action.TheVariants as action
use Rattle.jz_operations.specs.declared.operation.Operation.{Operation}
use Rattle.jz_operations.specs.Values as over
use Rattle.jz_operations.specs.Rows.{Frame, Done, step}
use Rattle.jz_placing.specs.Variables.{numbers_of}
use Rattle.jz_change.specs.declared.change.Numbers.TheVariants.{These}
use Rattle.jz_homes.specs.Homes.{Homes, IsHoming, in_register, IsRelated}
use Rattle.jz_homes.specs.Operands.{Leaks, IsCounted, count_of, shown_of, IsArg, IsDest}
use Rattle.jz_homes.proofs.Parts.{both_went, went_same}
use Rattle.jz_row_operations.specs.Codes.{plain}
use Rattle.jz_row_operations.specs.Lowering.{numbers_from}
use Rattle.jz_row_operations.proofs.Items.{ArePlaced, item, more_items, one_item, both_placed, first_placed, placed_behind, counted_length, at_numbers}
use Rattle.jz_row_operations.proofs.Runs.{Ran, runs}
use Rattle.jz_row_operations.proofs.Moves.{append_nil}
use Rattle.jz_row_operations.proofs.Conditionals.{conditional_parts, conditional_steps}
use Rattle.jz_row_operations.proofs.Lowered.{one_run, Goes, compared_goes, sized}
use Rattle.jz_flag_rows.specs.Conditions.{IsFlagCondition, IsCondition, by_comparison, by_flag, condition_items, leaked}
use Rattle.jz_flag_runs.proofs.FlagTests.{flag_says}
use Rattle.jz_flag_runs.proofs.Intrinsics.{set_runs}
use Rattle.jz_flag_runs.proofs.InstructionRows.{last_written}

-- one operation, and those behind it
more_runs : (frame : Frame) (o : Operation) (os : List Operation) (d : Done) (r : Ran) (σ : over.State) → step frame o σ ≡ Some d → runs frame os d.state ≡ Some r → runs frame (o ∷ os) σ ≡ Some (record { shown = numbers_of d ∷ r.shown; state = r.state })
more_runs frame o os d r σ e f = rw e (rw f refl)

both_shown' : {a b : List ℕ} {xs ys : List (List ℕ)} → a ≡ b → xs ≡ ys → ◌≡◌ {A = List (List ℕ)} (a ∷ xs) (b ∷ ys)
both_shown' e f = rw (e, f) refl

-- the numbers of a destination behind those of a comparison
behind_placed : (p q r : Leaks) (a b c : List ℕ) → IsCounted p a → IsCounted q b → IsCounted r c → ArePlaced ((a ++ b) ++ c) (numbers_from r (count_of p + count_of q)) (shown_of r c)
behind_placed p q r a b c h k l =
    let e = length-append a b in
    let f = counted_length p a h in
    let g = counted_length q b k in
    subst (λ xs. ArePlaced ((a ++ b) ++ xs) (numbers_from r (count_of p + count_of q)) (shown_of r c)) (append_nil c) (placed_behind (a ++ b) (count_of p + count_of q) (omega (arith, e, f, g)) r c [] l)

-- those of a comparison before others
compared_placed : (p q : Leaks) (a b c : List ℕ) → IsCounted p a → IsCounted q b → ArePlaced ((a ++ b) ++ c) (numbers_from p 0 ++ numbers_from q (0 + count_of p)) (shown_of p a ++ shown_of q b)
compared_placed p q a b c h k =
    let l = counted_length p a h in
    subst (λ xs. ArePlaced xs (numbers_from p 0 ++ numbers_from q (0 + count_of p)) (shown_of p a ++ shown_of q b)) (sym (append_assoc a b c)) (both_placed (first_placed p a (b ++ c) h) (placed_behind a (0 + count_of p) (omega (arith, l)) q b c k))

module _ (frame : Frame) (home : Homes) (homing : IsHoming frame home) (s : State) (σ : over.State) (related : IsRelated home s σ) where
  -- ---- `r = o if c`
  pub choice_goes : (x : Var) {e k : Expr} {y : Arg} {n m : ℕ} {d : Bool} {p : Leaks} (at : Span) (z : Size) (t : State) (ns : List ℕ) → (ref_of x).kind ≡ kind.Word z → home (key_of (ref_of x)) ≡ Some (in_register m z)
      → IsArg home z e y p → IsFlagCondition home k n d → assigned (lval.Var x ∷ []) None e (Some k) at s ≡ went ns t
      → Goes frame home homing s σ related (plain at (action.Cmov (condition.Flag n d) z m y) ∷ []) (These (numbers_from p 0) ∷ []) t ns
  choice_goes x {e} {k} {y} {n} {m} {d} {p} at z t ns kind' h ie c run =
      let w = conditional_parts frame home homing s σ related z x e k at t ns kind' (sized frame home homing s σ related x e z kind') run in
      let says = flag_says frame home homing s σ related at w.second w.answer c w.asks in
      let v = conditional_steps frame home homing s σ related x m k (condition.Flag n d) at at t ns kind' h ie w σ refl refl refl says.1 in
      record {
        shown' = shown_of p w.first ∷ [];
        goes = record {
          ran = record { shown = numbers_of v.0 ∷ []; state = v.0.state };
          goes = one_run frame (plain at (action.Cmov (condition.Flag n d) z m y)) v.0 σ v.1;
          agrees = v.2;
          shows = ap (λ u. u ∷ []) v.3;
        };
        are = at_numbers w.numbers (one_item (first_placed p w.first (w.second ++ w.last) v.5));
      }

  -- ---- SETcc
  pub set_goes : {d : Lval} {e : Expr} {b : Arg} {r : Leaks} {compare : Option Operation} {c : Condition} {ps : List (Leaks × Leaks)} (sp at : Span) (t : State) (ns : List ℕ) → IsDest home S8 d b r → IsCondition home sp e compare c ps
      → and_then (of_condition at (e ∷ []) s) (λ vs. all_written at (Some S8) (d ∷ []) vs s) ≡ went ns t
      → Goes frame home homing s σ related (option_to_list compare ++ (plain sp (action.Set c b) ∷ [])) (condition_items ps 0 ++ (These (numbers_from r (leaked ps)) ∷ [])) t ns
  set_goes {d} {e} {b} {r} sp at t ns id (by_comparison {o = o'} {c = c} {p = p} {q = q} cmp) run =
      let g = both_went (of_condition at (e ∷ []) s) (λ vs. all_written at (Some S8) (d ∷ []) vs s) ns t run in
      let h = both_went (bool_in at e s) (λ k. went [] (Some (word S8 (carried k)) ∷ [])) g.first g.value g.came in
      let k = went_same [] h.second (Some (word S8 (carried h.value)) ∷ []) g.value h.went_on in
      let wrote = last_written at (Some S8) d (Some (word S8 (carried h.value))) s t g.second (subst (λ vs. all_written at (Some S8) (d ∷ []) vs s ≡ went g.second t) (sym k.1) g.went_on) in
      let u = compared_goes frame home homing s σ related at h.first h.value cmp h.came in
      let w = set_runs frame home homing s u.tests.done.state u.tests.agrees' (condition.Cc c) h.value sp t g.second u.tests.says'' id wrote in
      let numbers : ns ≡ (u.first ++ u.second) ++ g.second = g.numbers ∙ ap (λ l. l ++ g.second) (h.numbers ∙ ap (λ l. h.first ++ l) (sym k.0) ∙ append_nil h.first ∙ u.numbers) in
      record {
        shown' = (shown_of p u.first ++ shown_of q u.second) ∷ shown_of r g.second ∷ [];
        goes = record {
          ran = record { shown = numbers_of u.tests.done ∷ w.runs.ran.shown; state = w.runs.ran.state };
          goes = more_runs frame o' (plain sp (action.Set (condition.Cc c) b) ∷ []) u.tests.done w.runs.ran σ u.tests.steps w.runs.goes;
          agrees = w.runs.agrees;
          shows = both_shown' u.tests.shows w.runs.shows;
        };
        are = at_numbers numbers (more_items (item (compared_placed p q u.first u.second g.second u.counted_left u.counted_right)) (one_item (behind_placed p q r u.first u.second g.second u.counted_left u.counted_right w.counted)));
      }
  set_goes {d} {e} {b} {r} sp at t ns id (by_flag {n = n} {d = d'} fc) run =
      let g = both_went (of_condition at (e ∷ []) s) (λ vs. all_written at (Some S8) (d ∷ []) vs s) ns t run in
      let h = both_went (bool_in at e s) (λ k. went [] (Some (word S8 (carried k)) ∷ [])) g.first g.value g.came in
      let k = went_same [] h.second (Some (word S8 (carried h.value)) ∷ []) g.value h.went_on in
      let wrote = last_written at (Some S8) d (Some (word S8 (carried h.value))) s t g.second (subst (λ vs. all_written at (Some S8) (d ∷ []) vs s ≡ went g.second t) (sym k.1) g.went_on) in
      let says = flag_says frame home homing s σ related at h.first h.value fc h.came in
      let w = set_runs frame home homing s σ related (condition.Flag n d') h.value sp t g.second says.1 id wrote in
      let numbers : ns ≡ g.second = g.numbers ∙ ap (λ l. l ++ g.second) (h.numbers ∙ ap (λ l. h.first ++ l) (sym k.0) ∙ append_nil h.first ∙ says.0) in
      record {
        shown' = shown_of r g.second ∷ [];
        goes = w.runs;
        are = at_numbers (numbers ∙ sym (append_nil g.second)) (one_item (first_placed r g.second [] w.counted));
      }
