-- The first operand comes to the destination, and an operation makes of it what the source does: one lemma for all rows that are in place or copy first.
use Rattle.std.proofs.Common.{◌≡◌, ℕ, ◌<◌, Bool, List, [], ◌∷◌, ◌++◌, Option, Some, None, refl, sym, ap, ◌∙◌, subst}
use Rattle.std.specs.Prelude.{nat_eq, IsFalse}
use Rattle.std.specs.Option.{option_or}
use Rattle.jz_io.specs.declared.span.Span.{Span}
use Rattle.jz_words.specs.declared.size.Size.{Size}
use Rattle.jz_words.specs.Sizes.{modulus}
use Rattle.x64_insn.specs.declared.types.FlagVal.{FlagVal}
use Rattle.x64_insn.specs.Products.{no_flags}
use Rattle.jz_tree.specs.declared.expr.Expr.{Expr}
use Rattle.jz_tree.specs.declared.stmt.Lval.{Lval}
use Rattle.jz_runs.specs.Rules.{went}
use Rattle.jz_meaning.specs.Attempts.{Evaluation, and_then}
use Rattle.jz_meaning.specs.States.{Value, word, State}
use Rattle.jz_meaning.specs.Operators.{word_of}
use Rattle.jz_meaning.specs.Values.{own_size, evaluated}
use Rattle.jz_meaning.specs.Assignments.{left_sizes, results_of, conditioned, all_written, assigned}
use Rattle.jz_ir.specs.Paths.{among}
use Rattle.jz_operations.specs.declared.operation.Arg.{Arg}
use Rattle.jz_operations.specs.declared.operation.Arg.TheVariants as arg
use Rattle.jz_operations.specs.declared.operation.Action.{Action}
use Rattle.jz_operations.specs.declared.operation.Action.TheVariants as action
use Rattle.jz_operations.specs.declared.operation.Operation.{Operation}
use Rattle.jz_operations.specs.Values as over
use Rattle.jz_operations.specs.Values.{set_var}
use Rattle.jz_operations.specs.Rows.{Frame, narrowed, value_of, put, step, with_flags, set_flags, flags_of, changes}
use Rattle.jz_operations.proofs.Somes.{same_some}
use Rattle.jz_operations.proofs.OwnVariables.{SameIn}
use Rattle.jz_homes.proofs.Shown.{shown}
use Rattle.jz_homes.specs.Homes.{Homes, IsHoming, IsRelated}
use Rattle.jz_homes.specs.Operands.{IsCounted, Leaks, IsArg, IsDest, shown_of}
use Rattle.jz_row_operations.specs.Codes.{plain}
use Rattle.jz_row_operations.proofs.Runs.{runs}
use Rattle.jz_homes.proofs.Parts.{both_went}
use Rattle.jz_homes.proofs.Reading.{FormOf, operand_read, word_itself, narrowed_itself}
use Rattle.jz_homes.proofs.Writing.{WritesAs, dest_written, related_same, set_same}
use Rattle.jz_row_operations.proofs.Moves.{one_left, append_nil, move_by}
use Rattle.jz_row_operations.proofs.Sums.{OfSize, of_size, away, set_twice, RunsAs, after_flags, one_ran}

pub same_itself : (σ : over.State) (vs : List ℕ) → SameIn σ σ vs
same_itself σ [] = tt
same_itself σ (v ∷ vs) = (refl, same_itself σ vs)

-- what was put there is put there anew
pub twice : (m : ℕ) (x y : Option over.Value) (vars : ℕ → Option over.Value) → set_var m x (set_var m y vars) ≡ set_var m x vars
twice m x y vars = λ k q. set_twice m q x y vars (nat_eq m q) refl k

module _ (frame : Frame) where
  -- the operation makes n of what is in b, whatever else than the variables vs has changed; besides b it shows sh
  pub record Ends (o : Operation) (z : Size) (b : Arg) (vs : List ℕ) (σ : over.State) (left n : ℕ) (fs : List FlagVal) (sh : List ℕ) : Type 0 where
    pub goes : (τ τ' : over.State) → SameIn σ τ vs → τ.cells ≡ σ.cells → τ.memory ≡ σ.memory → value_of frame b z τ ≡ Some left → put frame b z n τ ≡ Some τ'
        → (all : List ℕ) × (step frame o τ ≡ Some (record { shown = all; division = []; state = with_flags o fs τ' })) × (all ≡ shown b τ ++ sh)

  pub two_ran : (o1 o2 : Operation) (σ : over.State) (sh1 sh2 : List ℕ) (τ1 τ2 : over.State) → step frame o1 σ ≡ Some (record { shown = sh1; division = []; state = τ1 }) → step frame o2 τ1 ≡ Some (record { shown = sh2; division = []; state = τ2 })
      → runs frame (o1 ∷ o2 ∷ []) σ ≡ Some (record { shown = (sh1 ++ []) ∷ (sh2 ++ []) ∷ []; state = τ2 })
  two_ran o1 o2 σ sh1 sh2 τ1 τ2 e f = rw e (rw f refl)

pub two_same : {a b c d : List ℕ} → a ≡ b → c ≡ d → ◌≡◌ {A = List (List ℕ)} (a ∷ c ∷ []) (b ∷ d ∷ [])
two_same e f = rw (e, f) refl

module _ (frame : Frame) (home : Homes) (homing : IsHoming frame home) (s : State) (σ : over.State) (related : IsRelated home s σ) where
  -- the word is put, and the flags are
  pub record Finishes (o : Operation) (z : Size) (b : Arg) (r : Leaks) (n : ℕ) (fs : List FlagVal) (third : List ℕ) (t : State) : Type 0 where
    pub after : over.State
    pub put' : put frame b z n σ ≡ Some after
    pub agrees : IsRelated home t (with_flags o fs after)
    pub shows : shown b σ ≡ shown_of r third

  pub record Row (o : Operation) (z : Size) (x b : Arg) (p r : Leaks) (vs sh first third : List ℕ) (t : State) : Type 0 where
    pub left : ℕ
    pub reads : value_of frame x z σ ≡ Some left
    pub small : left < modulus z
    pub shows : shown x σ ≡ shown_of p first
    pub n : ℕ
    pub fs : List FlagVal
    pub ends : Ends frame o z b vs σ left n fs sh
    pub finish : Finishes o z b r n fs third t

  pub row_in_place : (o : Operation) {z : Size} {x b : Arg} {p r : Leaks} {vs sh first third : List ℕ} {t : State} → b ≡ x → Row o z x b p r vs sh first third t
      → RunsAs frame home homing s σ related (o ∷ []) t ((shown_of p first ++ sh) ∷ [])
  row_in_place o {z} {x} {b} {p} {r} {vs} {sh} {first} {third} {t} same k =
      let reads : value_of frame b z σ ≡ Some k.left = ap (λ v. value_of frame v z σ) same ∙ k.reads in
      let g = k.ends.goes σ k.finish.after (same_itself σ vs) refl refl reads k.finish.put' in
      record {
        ran = _;
        goes = one_ran frame home homing s σ related o g.0 (with_flags o k.fs k.finish.after) g.1;
        agrees = k.finish.agrees;
        shows = ap (λ v. v ∷ []) (append_nil g.0 ∙ g.2 ∙ ap (λ v. shown v σ ++ sh) same ∙ ap (λ v. v ++ sh) k.shows);
      }

  pub row_copied : (o : Operation) {z : Size} {x : Arg} {p r : Leaks} {vs sh first third : List ℕ} {t : State} (m : ℕ) (at : Span) → IsFalse (among vs m) → Row o z x (arg.Var m) p r vs sh first third t
      → RunsAs frame home homing s σ related (plain at (action.Mov z (arg.Var m) x) ∷ o ∷ []) t (shown_of p first ∷ sh ∷ [])
  row_copied o {z} {x} {p} {r} {vs} {sh} {first} {third} {t} m at out k =
      let σ1 : over.State = record σ { vars = set_var m (Some (over.word z k.left)) σ.vars; left = λ r. None } in
      let σ2 : over.State = with_flags (plain at (action.Mov z (arg.Var m) x)) no_flags σ1 in
      let mov = move_by frame home homing s σ related at z (arg.Var m) x k.left σ1 k.reads refl in
      let first' : value_of frame (arg.Var m) z σ2 ≡ Some k.left = ap (narrowed z) (set_same m (Some (over.word z k.left)) σ.vars) ∙ narrowed_itself z k.left k.small in
      let apart = away m vs (Some (over.word z k.left)) σ σ2 refl out in
      let σ3 : over.State = record σ2 { vars = set_var m (Some (over.word z k.n)) σ2.vars; left = λ r. None } in
      let g = k.ends.goes σ2 σ3 apart refl refl first' refl in
      let same = same_some _ k.finish.after k.finish.put' in
      record {
        ran = _;
        goes = two_ran frame (plain at (action.Mov z (arg.Var m) x)) o σ ([] ++ (shown x σ ++ [])) g.0 σ2 (with_flags o k.fs σ3) mov g.1;
        agrees = related_same frame home homing t (with_flags o k.fs k.finish.after) (with_flags o k.fs σ3) k.finish.agrees
            (λ v. ap (λ f. set_flags (flags_of o.flags) (changes o.action) k.fs f v) (twice m (Some (over.word z k.n)) (Some (over.word z k.left)) σ.vars ∙ ap (λ w. w.vars) same)) (ap (λ w. w.cells) same) (ap (λ w. w.memory) same);
        shows = two_same (append_nil (shown x σ ++ []) ∙ append_nil (shown x σ) ∙ k.shows) (append_nil g.0 ∙ g.2);
      }

  -- no flag becomes a variable
  pub finishes_plain : (at : Span) (act : Action) {z : Size} {b : Arg} {r : Leaks} {n : ℕ} (fs : List FlagVal) {third : List ℕ} (t : State) → WritesAs frame home homing s σ related z b r n third t → Finishes (plain at act) z b r n fs third t
  finishes_plain at act fs t w = record { after = w.after; put' = w.put'; agrees = after_flags frame home homing s σ related at act fs t w.after w.agrees; shows = w.numbers }

  -- ---- one operand: what the source makes of it
  pub record Unary (z : Size) (x b : Arg) (p r : Leaks) (f : ℕ → ℕ) (t : State) (ns : List ℕ) : Type 0 where
    pub first : List ℕ
    pub second : List ℕ
    pub numbers : ns ≡ first ++ second
    pub left : ℕ
    pub reads : value_of frame x z σ ≡ Some left
    pub small : left < modulus z
    pub shows : shown x σ ≡ shown_of p first
    pub counted : IsCounted p first
    pub writes : WritesAs frame home homing s σ related z b r (f left) second t

  nothing_between : (a b c ns : List ℕ) → ns ≡ (a ++ b) ++ c → b ≡ [] → ns ≡ a ++ c
  nothing_between a b c ns e f = e ∙ ap (λ x. (a ++ x) ++ c) f ∙ ap (λ x. x ++ c) (append_nil a)

  -- and what else the source's value tells
  pub unary_and : {P : Type 0} {z : Size} {d : Lval} {a : Expr} {x b : Arg} {p r : Leaks} (e : Expr) (go : Value → Evaluation Value) (f : ℕ → ℕ) (here : Span) (t : State) (ns : List ℕ)
      → evaluated e (Some z) s ≡ and_then (evaluated a (Some z) s) go
      → ((v : Value) (k : ℕ) (ms : List ℕ) (u : Value) → OfSize z v k → FormOf x v → k < modulus z → go v ≡ went ms u → (ms ≡ []) × (u ≡ word z (f k)) × P)
      → ((k : ℕ) → k < modulus z → f k < modulus z)
      → option_or (left_sizes (d ∷ [])) (own_size e) ≡ Some z → IsArg home z a x p → IsDest home z d b r → assigned (d ∷ []) None e None here s ≡ went ns t → Unary z x b p r f t ns × P
  unary_and {P} {z} {d} {a} {x} {b} {p} {r} e go f here t ns layer gives small size ia id run =
      let l = one_left (Some z) d e here s t ns (subst (λ w. and_then (results_of (d ∷ []) e here w s) (λ vs. and_then (conditioned (d ∷ []) None here vs s) (λ ws. all_written here w (d ∷ []) ws s)) ≡ went ns t) size run) in
      let g = both_went (evaluated a (Some z) s) go l.first l.value (sym layer ∙ l.evaluates) in
      let m = operand_read frame home homing s σ related ia g.first g.value g.came in
      let c = gives g.value m.bits g.second l.value (of_size z g.value m.bits m.word) m.form m.small g.went_on in (
        record {
          first = g.first;
          second = l.second;
          numbers = nothing_between g.first g.second l.second ns (l.numbers ∙ ap (λ y. y ++ l.second) g.numbers) c.0;
          left = m.bits;
          reads = m.value;
          small = m.small;
          shows = m.numbers;
          counted = m.counted;
          writes = dest_written frame home homing s σ related id l.value (f m.bits) l.second t (ap (word_of z) c.1 ∙ word_itself z (f m.bits)) (small m.bits m.small) l.writes;
        },
        c.2,
      )

  pub unary_parts : {z : Size} {d : Lval} {a : Expr} {x b : Arg} {p r : Leaks} (e : Expr) (go : Value → Evaluation Value) (f : ℕ → ℕ) (here : Span) (t : State) (ns : List ℕ)
      → evaluated e (Some z) s ≡ and_then (evaluated a (Some z) s) go
      → ((v : Value) (k : ℕ) (ms : List ℕ) (u : Value) → OfSize z v k → FormOf x v → k < modulus z → go v ≡ went ms u → (ms ≡ []) × (u ≡ word z (f k)))
      → ((k : ℕ) → k < modulus z → f k < modulus z)
      → option_or (left_sizes (d ∷ [])) (own_size e) ≡ Some z → IsArg home z a x p → IsDest home z d b r → assigned (d ∷ []) None e None here s ≡ went ns t → Unary z x b p r f t ns
  unary_parts e go f here t ns layer gives small size ia id run =
      (unary_and {P = Unit {0}} e go f here t ns layer (λ v k ms u o l h w. let c = gives v k ms u o l h w in (c.0, c.1, tt)) small size ia id run).0

  -- ---- two operands
  pub record Binary (z : Size) (x y b : Arg) (p q r : Leaks) (f : ℕ → ℕ → ℕ) (t : State) (ns : List ℕ) : Type 0 where
    pub first : List ℕ
    pub second : List ℕ
    pub third : List ℕ
    pub numbers : ns ≡ first ++ (second ++ third)
    pub left : ℕ
    pub right : ℕ
    pub reads_left : value_of frame x z σ ≡ Some left
    pub reads_right : value_of frame y z σ ≡ Some right
    pub left_small : left < modulus z
    pub right_small : right < modulus z
    pub shows_left : shown x σ ≡ shown_of p first
    pub shows_right : shown y σ ≡ shown_of q second
    pub counted_left : IsCounted p first
    pub counted_right : IsCounted q second
    pub writes : WritesAs frame home homing s σ related z b r (f left right) third t

  three_lists : (a b c d ns : List ℕ) → ns ≡ (a ++ (b ++ c)) ++ d → c ≡ [] → ns ≡ a ++ (b ++ d)
  three_lists a b c d ns e f = e ∙ ap (λ y. (a ++ (b ++ y)) ++ d) f ∙ ap (λ y. (a ++ y) ++ d) (append_nil b) ∙ Rattle.std.proofs.Common.append_assoc a b d

  pub binary_parts : {z : Size} {d : Lval} {a c : Expr} {x y b : Arg} {p q r : Leaks} (e : Expr) (go : Value → Value → Evaluation Value) (f : ℕ → ℕ → ℕ) (here : Span) (t : State) (ns : List ℕ)
      → evaluated e (Some z) s ≡ and_then (evaluated a (Some z) s) (λ u. and_then (evaluated c (Some z) s) (go u))
      → ((u v : Value) (k l : ℕ) (ms : List ℕ) (w : Value) → OfSize z u k → OfSize z v l → FormOf x u → FormOf y v → k < modulus z → l < modulus z → go u v ≡ went ms w → (ms ≡ []) × (w ≡ word z (f k l)))
      → ((k l : ℕ) → k < modulus z → l < modulus z → f k l < modulus z)
      → option_or (left_sizes (d ∷ [])) (own_size e) ≡ Some z → IsArg home z a x p → IsArg home z c y q → IsDest home z d b r → assigned (d ∷ []) None e None here s ≡ went ns t → Binary z x y b p q r f t ns
  binary_parts {z} {d} {a} {c} {x} {y} {b} {p} {q} {r} e go f here t ns layer gives small size ia ic id run =
      let l = one_left (Some z) d e here s t ns (subst (λ w. and_then (results_of (d ∷ []) e here w s) (λ vs. and_then (conditioned (d ∷ []) None here vs s) (λ ws. all_written here w (d ∷ []) ws s)) ≡ went ns t) size run) in
      let g = both_went (evaluated a (Some z) s) (λ u. and_then (evaluated c (Some z) s) (go u)) l.first l.value (sym layer ∙ l.evaluates) in
      let h = both_went (evaluated c (Some z) s) (go g.value) g.second l.value g.went_on in
      let m = operand_read frame home homing s σ related ia g.first g.value g.came in
      let n = operand_read frame home homing s σ related ic h.first h.value h.came in
      let v = gives g.value h.value m.bits n.bits h.second l.value (of_size z g.value m.bits m.word) (of_size z h.value n.bits n.word) m.form n.form m.small n.small h.went_on in
      record {
        first = g.first;
        second = h.first;
        third = l.second;
        numbers = three_lists g.first h.first h.second l.second ns (l.numbers ∙ ap (λ w. w ++ l.second) (g.numbers ∙ ap (λ w. g.first ++ w) h.numbers)) v.0;
        left = m.bits;
        right = n.bits;
        reads_left = m.value;
        reads_right = n.value;
        left_small = m.small;
        right_small = n.small;
        shows_left = m.numbers;
        shows_right = n.numbers;
        counted_left = m.counted;
        counted_right = n.counted;
        writes = dest_written frame home homing s σ related id l.value (f m.bits n.bits) l.second t (ap (word_of z) v.1 ∙ word_itself z (f m.bits n.bits)) (small m.bits n.bits m.small n.small) l.writes;
      }
