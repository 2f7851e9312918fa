-- The table chooses the way of any row that `brought` begins: what it gives goes through.
use Rattle.std.proofs.Common.{◌≡◌, ℕ, Bool, true, false, List, [], ◌∷◌, ◌++◌, Option, Some, None, refl, sym, ap, ◌∙◌, subst}
use Rattle.std.specs.Prelude.{nat_eq, ◌&&◌, if◌then◌else◌}
use Rattle.std.proofs.lemmas.Bool.{and_parts, or_parts, eqb-true}
use Rattle.jz_io.specs.declared.span.Span.{Span}
use Rattle.jz_words.specs.declared.size.Size.{Size}
use Rattle.jz_meaning.specs.States.{Key, same_key, State}
use Rattle.jz_ir.specs.Paths.{among}
use Rattle.jz_operations.specs.declared.operation.Arg.{Arg}
use Rattle.jz_operations.specs.declared.operation.Arg.TheVariants as arg
use Rattle.jz_operations.specs.declared.operation.Action.{Action}
use Rattle.jz_operations.specs.declared.operation.Action.TheVariants as action
use Rattle.jz_operations.specs.declared.operation.Flags.{Flags}
use Rattle.jz_operations.specs.declared.operation.Operation.{Operation}
use Rattle.jz_operations.specs.Values as over
use Rattle.jz_operations.specs.Rows.{Frame}
use Rattle.jz_operations.specs.Reading.{is_var, found_by}
use Rattle.jz_operations.proofs.Somes.{same_some}
use Rattle.jz_homes.specs.Homes.{Home, Homes, IsHoming, IsRelated, in_register, in_flag}
use Rattle.jz_tree.specs.declared.stmt.Lval.{Lval}
use Rattle.jz_meaning.specs.Values.{key_of, ref_of}
use Rattle.jz_homes.specs.Operands.{Leaks, shown_of, IsDest, to_word, to_scalar, to_cell, to_memory}
use Rattle.jz_row_operations.specs.Codes.{plain, lasting}
use Rattle.jz_row_operations.proofs.Items.{shown_in}
use Rattle.jz_row_operations.specs.Table.{same_arg, is_free, behind, brought}
use Rattle.jz_row_operations.proofs.Sums.{RunsAs}
use Rattle.jz_row_operations.proofs.SameArgs.{same_arg_is, not_true}
use Rattle.jz_row_operations.proofs.Brought.{Row, row_in_place, row_copied}

-- the destination is none of these
abbrev pub IsAway : Arg → List ℕ → Type 0
IsAway (arg.Var m) ws = among ws m ≡ false
IsAway _ ws = Unit {0}

among_joined : (xs ws : List ℕ) (m : ℕ) → among xs m ≡ false → among ws m ≡ false → among (xs ++ ws) m ≡ false
among_joined [] ws m h k = k
among_joined (x ∷ xs) ws m h k = let p = or_parts (nat_eq x m) (among xs m) h in let e = among_joined xs ws m p.1 k in rw (p.0, e) refl

nil_end : (xs : List ℕ) → xs ++ [] ≡ xs
nil_end [] = refl
nil_end (x ∷ xs) = ap (λ y. x ∷ y) (nil_end xs)

module _ (frame : Frame) (home : Homes) (homing : IsHoming frame home) (s : State) (σ : over.State) (related : IsRelated home s σ) where
  -- a row of one more operand y and of the variables ws (a flag that is read)
  abbrev pub RowOf : (Arg → Action) → Flags → List ℕ → Span → Size → Arg → Arg → Arg → Leaks → Leaks → List ℕ → List ℕ → List ℕ → State → Type 0
  RowOf act fl ws at z x y b p r sh first third t = Row frame home homing s σ related (record { span = at; action = act y; flags = fl }) z x b p r ((is_var y ++ found_by y) ++ ws) sh first third t

  -- a row that has no more of them
  pub with_none : {o : Operation} {z : Size} {x b : Arg} {p r : Leaks} (vs : List ℕ) {sh first third : List ℕ} {t : State} → Row frame home homing s σ related o z x b p r vs sh first third t → Row frame home homing s σ related o z x b p r (vs ++ []) sh first third t
  with_none {o} {z} {x} {b} {p} {r} vs {sh} {first} {third} {t} k = subst (λ us. Row frame home homing s σ related o z x b p r us sh first third t) (sym (nil_end vs)) k

  free_by : (act : Arg → Action) (fl : Flags) (ws : List ℕ) (at : Span) (z : Size) (x y b : Arg) (p r : Leaks) (sh first third : List ℕ) (t : State) → is_free b y ≡ true → IsAway b ws → RowOf act fl ws at z x y b p r sh first third t
      → RunsAs frame home homing s σ related (plain at (action.Mov z b x) ∷ record { span = at; action = act y; flags = fl } ∷ []) t (shown_of p first ∷ sh ∷ [])
  free_by act fl ws at z x y (arg.Var m) p r sh first third t e aw k = row_copied frame home homing s σ related (record { span = at; action = act y; flags = fl }) m at (among_joined (is_var y ++ found_by y) ws m (not_true _ e) aw) k
  free_by act fl ws at z x y (arg.Imm i) p r sh first third t e aw k = absurd cc
  free_by act fl ws at z x y (arg.Mem m) p r sh first third t e aw k = absurd cc
  free_by act fl ws at z x y (arg.Cell c) p r sh first third t e aw k = absurd cc
  free_by act fl ws at z x y (arg.At g c) p r sh first third t e aw k = absurd cc

  way_by : (s1 s2 s3 swaps : Bool) (act : Arg → Action) (fl : Flags) (ws : List ℕ) (at : Span) (z : Size) (x y b : Arg) (p q r : Leaks) (first second third : List ℕ) (t : State) (acts : List Action)
      → same_arg b x ≡ s1 → (swaps && same_arg b y) ≡ s2 → is_free b y ≡ s3
      → behind act (if s1 then Some ([], y) else if s2 then Some ([], x) else if s3 then Some (action.Mov z b x ∷ [], y) else None) ≡ Some acts → IsAway b ws
      → RowOf act fl ws at z x y b p r (shown_of q second) first third t → (swaps ≡ true → RowOf act fl ws at z y x b q r (shown_of p first) second third t)
      → RunsAs frame home homing s σ related (lasting at fl acts) t (shown_in s1 s2 (shown_of p first) (shown_of q second))
  way_by true s2 s3 swaps act fl ws at z x y b p q r first second third t acts e1 e2 e3 e aw k l =
      subst (λ o. RunsAs frame home homing s σ related (lasting at fl o) t ((shown_of p first ++ shown_of q second) ∷ [])) (same_some _ acts e)
      (row_in_place frame home homing s σ related (record { span = at; action = act y; flags = fl }) (same_arg_is b x e1) k)
  way_by false true s3 swaps act fl ws at z x y b p q r first second third t acts e1 e2 e3 e aw k l =
      let w = and_parts _ _ e2 in
      subst (λ o. RunsAs frame home homing s σ related (lasting at fl o) t ((shown_of q second ++ shown_of p first) ∷ [])) (same_some _ acts e)
      (row_in_place frame home homing s σ related (record { span = at; action = act x; flags = fl }) (same_arg_is b y w.1) (l w.0))
  way_by false false true swaps act fl ws at z x y b p q r first second third t acts e1 e2 e3 e aw k l =
      subst (λ o. RunsAs frame home homing s σ related (lasting at fl o) t (shown_of p first ∷ shown_of q second ∷ [])) (same_some _ acts e) (free_by act fl ws at z x y b p r (shown_of q second) first third t e3 aw k)
  way_by false false false swaps act fl ws at z x y b p q r first second third t acts e1 e2 e3 e aw k l = absurd cc

  -- whatever `brought` gives goes through, with these numbers
  pub brought_goes : (swaps : Bool) (act : Arg → Action) (fl : Flags) (ws : List ℕ) (at : Span) (z : Size) (x y b : Arg) (p q r : Leaks) (first second third : List ℕ) (t : State) (acts : List Action) → behind act (brought swaps z b x y) ≡ Some acts → IsAway b ws
      → RowOf act fl ws at z x y b p r (shown_of q second) first third t → (swaps ≡ true → RowOf act fl ws at z y x b q r (shown_of p first) second third t)
      → RunsAs frame home homing s σ related (lasting at fl acts) t (shown_in (same_arg b x) (swaps && same_arg b y) (shown_of p first) (shown_of q second))
  brought_goes swaps act fl ws at z x y b p q r first second third t acts e aw k l = way_by (same_arg b x) (swaps && same_arg b y) (is_free b y) swaps act fl ws at z x y b p q r first second third t acts refl refl refl e aw k l

-- no variable more is read
pub away_from_none : (b : Arg) → IsAway b []
away_from_none (arg.Var m) = refl
away_from_none (arg.Imm i) = tt
away_from_none (arg.Mem m) = tt
away_from_none (arg.Cell c) = tt
away_from_none (arg.At r p) = tt

away_by : (b : Bool) (c m : ℕ) → nat_eq c m ≡ b → (c ≡ m → ⊥) → among (c ∷ []) m ≡ false
away_by true c m e ne = absurd (ne (eqb-true c m e))
away_by false c m e ne = rw e refl

flag_away : {frame : Frame} {home : Homes} (b : Bool) (j k : Key) (m c : ℕ) (z : Size) → IsHoming frame home → same_key j k ≡ b → home j ≡ Some (in_register m z) → home k ≡ Some (in_flag c) → c ≡ m → ⊥
flag_away true j k m c z homing e h f q = absurd (let g : ◌≡◌ {A = Option Home} (Some (in_register m z)) (Some (in_flag c)) = sym h ∙ homing.same j k e ∙ f in cc)
flag_away false j k m c z homing e h f q = homing.apart j k (in_register m z) (in_flag c) e h f (sym q)

-- a flag is no word
pub away_from_flag : {frame : Frame} {home : Homes} {z : Size} {d : Lval} {b : Arg} {r : Leaks} (k : Key) (c : ℕ) → IsHoming frame home → home k ≡ Some (in_flag c) → IsDest home z d b r → IsAway b (c ∷ [])
away_from_flag {z = z} k c homing f (to_word x m kind' h) = away_by (nat_eq c m) c m refl (flag_away (same_key (key_of (ref_of x)) k) (key_of (ref_of x)) k m c z homing refl h f)
away_from_flag k c homing f (to_scalar x w kind' h) = tt
away_from_flag k c homing f (to_cell x e n w t b i cells is at) = tt
away_from_flag k c homing f (to_memory a t m size is at) = tt
