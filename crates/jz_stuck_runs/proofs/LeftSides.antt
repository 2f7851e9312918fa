-- What is written to a left side of its type is stuck for want of a value only where its index or
-- address is.
use Rattle.std.proofs.Common.{◌≡◌, ℕ, Bool, true, false, ◌||◌, List, [], ◌∷◌, Option, Some, None, refl, sym, ap, ◌∙◌, subst, inl, inr, if◌then◌else◌}
use Rattle.std.specs.Prelude.{nat_lt, All, Contains}
use Rattle.std.specs.Option.{option_or}
use Rattle.std.proofs.lemmas.Bool.{false≢true}
use Rattle.std.proofs.lemmas.List.Elements.{All-head, All-tail}
use Rattle.jz_tree.specs.Span.{Span}
use Rattle.jz_tree.specs.Size.{Size}
use Rattle.jz_tree.specs.Size.TheVariants.{S64}
use Rattle.jz_tree.specs.Memory.{Memory}
use Rattle.jz_tree.specs.declared.expr.Expr.{Expr}
use Rattle.jz_tree.specs.declared.expr.Access.{Access}
use Rattle.jz_tree.specs.declared.expr.Decl.{Decl}
use Rattle.jz_tree.specs.declared.expr.Var.{Var}
use Rattle.jz_tree.specs.declared.expr.Expr.TheViews.{out-Access}
use Rattle.jz_tree.specs.declared.stmt.Lval.{Lval}
use Rattle.jz_tree.specs.declared.stmt.Lval.TheVariants as lval
use Rattle.jz_type_names.specs.Kinds.{Known, declared_of, known_of, is_array, is_inline_int, whole_array}
use Rattle.jz_type_names.specs.Parts.{left_exprs, left_vars}
use Rattle.jz_judgement.specs.Places.{Place, index, IsArrayOf}
use Rattle.jz_judgement.specs.Places as place
use Rattle.jz_judgement.specs.HasType.{value, HasType}
use Rattle.jz_judgement.specs.Lefts as lefts
use Rattle.jz_judgement.specs.Lefts.{IsNumber, Wants, Leaves, Holds, IsSound, IsFlag}
use Rattle.jz_meaning.specs.declared.access.Kind as meant
use Rattle.jz_meaning.specs.declared.access.Kind.TheVariants as kind
use Rattle.jz_meaning.specs.declared.value.Stuck as code
use Rattle.jz_meaning.specs.declared.value.Why.TheVariants.{Bounds, Align}
use Rattle.jz_meaning.specs.Rules.{went}
use Rattle.jz_meaning.specs.Attempts.{Evaluation, stuck_at, and_then}
use Rattle.jz_meaning.specs.States.{Value, word, boolean, integer, State}
use Rattle.jz_meaning.specs.Operators.{word_at}
use Rattle.jz_meaning.specs.Values.{size_of, key_of, cell_key, in_cells, index_at, MemoryAccess, is_aligned, accessed, address_at, after_store, store_word, store_at, ref_of, access_of}
use Rattle.jz_meaning.specs.Assignments.{left_size, word_value, held, held_or_unset, with_value, in_cell, written, Results, all_written}
use Rattle.jz_run_laws.specs.Kinds.{IsOfKinds}
use Rattle.jz_run_laws.specs.DeclaredKinds.{kinds_of, LeftDeclared}
use Rattle.jz_run_laws.specs.Lefts.{CountedParts, IsCountedLeft}
use Rattle.jz_run_laws.specs.Values.{IsAt, IsWanted}
use Rattle.jz_run_laws.proofs.Operators.{MayFit}
use Rattle.jz_run_laws.proofs.LeftSides.{written_keeps}
use Rattle.jz_run_laws.proofs.RightSides.{ResultsFit}
use Rattle.jz_run_laws.proofs.SameKinds.{SameKnown}
use Rattle.jz_run_laws.proofs.Sizes.{variable_law, access_law}
use Rattle.jz_typed_runs.proofs.OperatorCauses.{IfStuck}
use Rattle.jz_typed_runs.proofs.Causing.{stuck_then, bounds_not, address_not, align_not, array_known, access_run}
use Rattle.jz_typed_runs.proofs.ReachedCauses.{kept_counted}
use Rattle.jz_stuck_runs.specs.Parts.{IsWritten, writes, writes_later}
use Rattle.jz_stuck_runs.specs.Lacking.{IsLacking}
use Rattle.jz_stuck_runs.proofs.Steps.{Lacks, weaker, stuck_any, word_there, stated_there, value_there, first_in}
use Rattle.jz_stuck_runs.proofs.Expressions.{Kept, HasKept, counted_of, after}
use Rattle.jz_stuck_runs.proofs.Statements.{InlineNumber}
use Rattle.jz_stuck_runs.proofs.LeftKinds.{inline_number, word_of, bool_of, number_of}

-- an index or an address of the left side lacks a value
pub record LeftLacks (d : Lval) (s : State) (w : code.Stuck) : Type 0 where
  pub part : Expr
  pub of_left : Contains (left_exprs d) part
  pub lacks : IsLacking part s w

-- what is declared of a left side, which is no array as a whole
pub record IsLeft (declared : List ℕ → Option Decl) (d : Lval) : Type 0 where
  pub vars : All (Kept declared) (left_vars d)
  pub exprs : All (HasKept declared) (left_exprs d)
  pub inline : All InlineNumber (left_vars d)
  pub part : whole_array d ≡ None

pub whole_none : (v : Var) (b : Bool) → ◌≡◌ {A = Option Var} (if b then Some v else None) None → b ≡ false
whole_none v true e = absurd cc
whole_none v false e = refl

module _ (declared : List ℕ → Option Decl) where
  pub same_known : (v : Var) → Kept declared v → SameKnown (known_of v) (ref_of v).kind
  same_known v k = (variable_law v).1 (kept_counted declared v k)

  -- a variable with a declaration that is an inline integer
  pub declared_number : (v : Var) → Kept declared v → is_inline_int (known_of v) ≡ true → IsNumber (known_of v)
  declared_number v k e =
      let some : known_of v ≡ Some (declared_of k.decl) = ap (λ o. known_by o) k.some in
      subst IsNumber (sym some) (inline_number (declared_of k.decl) (subst (λ o. is_inline_int o ≡ true) some e))
    where
      known_by : Option Decl → Known
      known_by None = None
      known_by (Some d) = Some (declared_of d)

  pub counted_left : (d : Lval) → IsLeft declared d → IsCountedLeft d
  counted_left d l = (parts d l, l.part)
    where
      parts : (d : Lval) → IsLeft declared d → CountedParts d
      parts (lval.Skip at) l = tt
      parts (lval.Var v) l = kept_counted declared v (All-head (Kept declared) v [] l.vars)
      parts (lval.Cell v i) l = (kept_counted declared v (All-head (Kept declared) v [] l.vars), counted_of declared i (All-head (HasKept declared) i [] l.exprs))
      parts (lval.Store a) l = counted_of declared (out-Access a).at (All-head (HasKept declared) (out-Access a).at [] l.exprs)

  -- ---- what a variable holds
  module _ (D : code.Stuck → Type 0) where
    pub held_word : (at : Span) (k : meant.Kind) (z : Size) (u : Value) → k ≡ kind.Word z → IsAt (place.word z) u → IfStuck (Lacks D) (held at k u)
    held_word at k z u e q = subst (λ k. IfStuck (Lacks D) (held at k u)) (sym e) (value_there (Lacks D) at z u q)

    pub held_bool : (at : Span) (k : meant.Kind) (u : Value) → k ≡ kind.Bool → IsAt place.truth u → IfStuck (Lacks D) (held at k u)
    held_bool at k u e q = subst (λ k. IfStuck (Lacks D) (held at k u)) (sym e) (by_value u q)
      where
        by_value : (u : Value) → IsAt place.truth u → IfStuck (Lacks D) (held at kind.Bool u)
        by_value (boolean c) q = tt
        by_value (word z a) q = absurd q
        by_value (integer i) q = absurd q

    pub held_number : (at : Span) (k : meant.Kind) (u : Value) → k ≡ kind.Int → IsAt place.integer u → IfStuck (Lacks D) (held at k u)
    held_number at k u e q = subst (λ k. IfStuck (Lacks D) (held at k u)) (sym e) (by_value u q)
      where
        by_value : (u : Value) → IsAt place.integer u → IfStuck (Lacks D) (held at kind.Int u)
        by_value (integer i) q = tt
        by_value (word z a) q = absurd q
        by_value (boolean c) q = absurd q

    set_variable : (v : Var) (u : Value) (s : State) (z : Option Size) → IfStuck (Lacks D) (held (ref_of v).span (ref_of v).kind u) → IfStuck (Lacks D) (written z (lval.Var v) (Some u) s)
    set_variable v u s z h =
        let r = ref_of v in
        stuck_any (Lacks D) (held_or_unset r.span r.kind (Some u)) (λ h. went [] (with_value s (key_of r) h))
        (stuck_any (Lacks D) (held r.span r.kind u) (λ h. went [] (Some h)) h (λ h. tt)) (λ h. tt)

    -- ---- cells
    index_if : (c : Bool) (at : Span) (i : ℕ) → IfStuck (Lacks D) (if c then went (i ∷ []) i else stuck_at at Bounds)
    index_if true at i = tt
    index_if false at i = λ j. absurd (bounds_not j)

    cells_fine : (at : Span) (k : meant.Kind) (z : Size) (n i : ℕ) → k ≡ kind.Array z n → IfStuck (Lacks D) (in_cells at k i)
    cells_fine at k z n i e = subst (λ k. IfStuck (Lacks D) (in_cells at k i)) (sym e) (index_if (nat_lt i n) at i)

    cell_set : (v : Var) (i : Expr) (n : ℕ) (z : Size) (m : ℕ) (u : Value) (s : State) → (ref_of v).kind ≡ kind.Array z m → IsAt (place.word z) u
        → IfStuck (Lacks D) (in_cell (ref_of v) n (left_size (lval.Cell v i)) (Some u) s)
    cell_set v i n z m u s e q =
        subst (λ o. IfStuck (Lacks D) (in_cell (ref_of v) n o (Some u) s)) (sym (ap size_of e))
        (stuck_any (Lacks D) (word_value (ref_of v).span z u) (λ w. went [] (with_value s (cell_key (ref_of v) n) (Some w))) (value_there (Lacks D) (ref_of v).span z u q) (λ w. tt))

    -- ---- memory
    aligned_fine : (c : Bool) (at : Span) (a : ℕ) (m : Memory) → IfStuck (Lacks D) (if c then went (a ∷ []) m else stuck_at at Align)
    aligned_fine true at a m = tt
    aligned_fine false at a m = λ j. absurd (align_not j)

    stored_fine : (at : Span) (u : Bool) (z : Size) (a : ℕ) (m : Option Memory) → IfStuck (Lacks D) (accessed at u z a m)
    stored_fine at u z a None = λ j. absurd (address_not j)
    stored_fine at u z a (Some m) = aligned_fine (u || is_aligned z a) at a m

    word_stored : (at : Span) (u : Bool) (o : Option Size) (z : Size) (a : ℕ) (x : Value) (m : Memory) → o ≡ Some z → IsAt (place.word z) x → IfStuck (Lacks D) (store_word at u o a (Some x) m)
    word_stored at u o z a x m e q =
        subst (λ o. IfStuck (Lacks D) (store_word at u o a (Some x) m)) (sym e)
        (stuck_any (Lacks D) (word_at at z x) (λ b. accessed at u z a (after_store m a z b)) (word_there (Lacks D) at z x q) (λ b. stored_fine at u z a (after_store m a z b)))

    store_fine : (p : MemoryAccess) (w : Option Size) (z : Size) (at x : Value) (m : Memory) → option_or p.size w ≡ Some z → IsAt index at → IsAt (place.word z) x → IfStuck (Lacks D) (store_at p w at (Some x) m)
    store_fine p w z at x m e k q =
        stuck_any (Lacks D) (address_at p at) (λ a. store_word p.span p.unaligned (option_or p.size w) a (Some x) m)
        (stated_there (Lacks D) p.span S64 at k) (λ a. word_stored p.span p.unaligned (option_or p.size w) z a x m e q)

  -- ---- left sides
  module _ (s : State) (h : IsOfKinds (kinds_of declared) s) where
    abbrev At : Lval → code.Stuck → Type 0
    At d = LeftLacks d s

    fine_cell : (v : Var) (i : Expr) (z : Size) (w : Option Size) (u : Value) → IsLeft declared (lval.Cell v i) → IsArrayOf z (known_of v) → HasType (value i) index → IsAt (place.word z) u
        → IfStuck (Lacks (At (lval.Cell v i))) (written w (lval.Cell v i) (Some u) s)
    fine_cell v i z w u l a t q =
        let r = ref_of v in
        let D : code.Stuck → Type 0 = At (lval.Cell v i) in
        let n = array_known (known_of v) r.kind z (same_known v (All-head (Kept declared) v [] l.vars)) a in
        after declared s h D i index (Some S64) (λ j. and_then (index_at r j) (λ n. in_cell r n (left_size (lval.Cell v i)) (Some u) s)) (All-head (HasKept declared) i [] l.exprs) t refl
        (λ x c. record { part = i; of_left = first_in i []; lacks = c })
        (λ ns j is k. stuck_any (Lacks D) (index_at r j) (λ n. in_cell r n (left_size (lval.Cell v i)) (Some u) s)
        (stuck_any (Lacks D) (word_at r.span S64 j) (in_cells r.span r.kind) (stated_there (Lacks D) r.span S64 j k) (λ m. cells_fine D r.span r.kind z n.0 m n.1))
        (λ m. cell_set D v i m z n.0 u s n.1 q))

    fine_store : (a : Access) (z : Size) (w : Option Size) (u : Value) → IsLeft declared (lval.Store a) → HasType (value (out-Access a).at) index → option_or (access_of a).size w ≡ Some z → IsAt (place.word z) u
        → IfStuck (Lacks (At (lval.Store a))) (written w (lval.Store a) (Some u) s)
    fine_store a z w u l t e q =
        let D : code.Stuck → Type 0 = At (lval.Store a) in
        let p = access_of a in
        let i = (out-Access a).at in
        subst (λ (r : State → Evaluation Value). IfStuck (Lacks D) (and_then (r s) (λ n. and_then (store_at p w n (Some u) s.memory) (λ m. went [] (record s { memory = m }))))) (sym (access_run a))
        (after declared s h D i index (Some S64) (λ n. and_then (store_at p w n (Some u) s.memory) (λ m. went [] (record s { memory = m }))) (All-head (HasKept declared) i [] l.exprs) t refl
        (λ x c. record { part = i; of_left = first_in i []; lacks = c })
        (λ ns n is k. stuck_any (Lacks D) (store_at p w n (Some u) s.memory) (λ m. went [] (record s { memory = m })) (store_fine D p w z n u s.memory e k q) (λ m. tt)))

    access_sized : (a : Access) (o w : Option Size) (z : Size) → (out-Access a).size ≡ o → option_or o w ≡ Some z → option_or (access_of a).size w ≡ Some z
    access_sized a o w z e f = ap (λ x. option_or x w) ((access_law a).0 ∙ (access_law a).1 ∙ e) ∙ f

    fine_wants : (d : Lval) (p : Place) (w : Option Size) (u : Value) → IsLeft declared d → Wants d p → IsAt p u → IfStuck (Lacks (At d)) (written w d (Some u) s)
    fine_wants d p w u l (lefts.number {v = v} i) q =
        let k = All-head (Kept declared) v [] l.vars in
        set_variable (At (lval.Var v)) v u s w (held_number (At (lval.Var v)) (ref_of v).span (ref_of v).kind u (number_of (known_of v) (ref_of v).kind (same_known v k) (declared_number v k i)) q)
    fine_wants d p w u l (lefts.bool {v = v} b) q =
        let k = All-head (Kept declared) v [] l.vars in
        set_variable (At (lval.Var v)) v u s w (held_bool (At (lval.Var v)) (ref_of v).span (ref_of v).kind u (bool_of (known_of v) (ref_of v).kind (same_known v k) b) q)
    fine_wants d p w u l (lefts.variable {v = v} {z = z} g) q =
        let k = All-head (Kept declared) v [] l.vars in
        set_variable (At (lval.Var v)) v u s w (held_word (At (lval.Var v)) (ref_of v).span (ref_of v).kind z u (word_of (known_of v) (ref_of v).kind z (same_known v k) g) q)
    fine_wants d p w u l (lefts.cell {v = v} {i = i} {z = z} a t) q = fine_cell v i z w u l a t q
    fine_wants d p w u l (lefts.access {a = a} {z = z} e t) q = fine_store a z w u l t (access_sized a (Some z) w z e refl) q

    fine_leaves : (d : Lval) (p : Place) (w : Option Size) (u : Value) → IsLeft declared d → Leaves d p → IsWanted p w → IsAt p u → IfStuck (Lacks (At d)) (written w d (Some u) s)
    fine_leaves d p w u l lefts.nothing f q = tt
    fine_leaves d p w u l (lefts.array {v = v} a) f q = absurd (false≢true (sym (whole_none v (is_array (known_of v)) l.part) ∙ a))
    fine_leaves d p w u l (lefts.number {v = v} n i t) f q = absurd (false≢true (sym i ∙ All-head InlineNumber v [] l.inline n))
    fine_leaves d p w u l (lefts.access {a = a} {z = z} e t) f q = fine_store a z w u l t (access_sized a None w z e f) q

    -- a value of the place
    pub fine_holds : (d : Lval) (p : Place) (w : Option Size) (u : Value) → IsLeft declared d → Holds p d → IsWanted p w → IsAt p u → IfStuck (Lacks (At d)) (written w d (Some u) s)
    fine_holds d p w u l (inl g) f q = fine_wants d p w u l g q
    fine_holds d p w u l (inr g) f q = fine_leaves d p w u l g f q

    -- a flag, which may be unset
    pub fine_flag : (d : Lval) (w : Option Size) (c : Bool) → IsLeft declared d → IsFlag d → IfStuck (Lacks (At d)) (written w d (Some (boolean c)) s)
    fine_flag d w c l lefts.nothing = tt
    fine_flag d w c l (lefts.variable {v = v} b) = fine_wants (lval.Var v) place.truth w (boolean c) l (lefts.bool b) tt

    pub fine_unset : (d : Lval) (w : Option Size) → IsFlag d → IfStuck (Lacks (At d)) (written w d None s)
    fine_unset d w lefts.nothing = tt
    fine_unset d w (lefts.variable b) = tt

  -- ---- several
  -- in whatever state it is written
  abbrev pub IsFine : Option Size → Lval → Option Value → Type 0
  IsFine z d v = (s : State) → IsOfKinds (kinds_of declared) s → IfStuck (Lacks (LeftLacks d s)) (written z d v s)

  abbrev pub AreFine : Option Size → List Lval → Results → Type 0
  AreFine z [] [] = Unit {0}
  AreFine z (d ∷ ds) (v ∷ vs) = IsFine z d v × AreFine z ds vs
  AreFine z ds vs = ⊥

  -- one of them lacks a value when it is written
  pub record LaterLacks (z : Option Size) (ds : List Lval) (vs : Results) (s : State) (w : code.Stuck) : Type 0 where
    pub left : Lval
    pub state : State
    pub reached : IsWritten z ds vs s left state
    pub lacks : LeftLacks left state w

  pub all_fine : (at : Span) (z : Option Size) (ds : List Lval) (vs : Results) (s : State) → AreFine z ds vs → All (LeftDeclared (kinds_of declared)) ds → ResultsFit vs → IsOfKinds (kinds_of declared) s
      → IfStuck (Lacks (LaterLacks z ds vs s)) (all_written at z ds vs s)
  all_fine at z [] [] s f d r h = tt
  all_fine at z [] (v ∷ vs) s f d r h = absurd f
  all_fine at z (d ∷ ds) [] s f e r h = absurd f
  all_fine at z (d ∷ ds) (v ∷ vs) s f e r h =
      let C : code.Stuck → Type 0 = Lacks (LaterLacks z (d ∷ ds) (v ∷ vs) s) in
      stuck_then C (IsOfKinds (kinds_of declared)) (written z d v s) (λ t. all_written at z ds vs t)
      (weaker (Lacks (LeftLacks d s)) C (written z d v s) (λ w c i. record { left = d; state = s; reached = writes; lacks = c i }) (f.0 s h))
      (written_keeps (kinds_of declared) z d v s (All-head (LeftDeclared (kinds_of declared)) d ds e) (All-head MayFit v vs r) h)
      (λ ns t is k. weaker (Lacks (LaterLacks z ds vs t)) C (all_written at z ds vs t)
      (λ w c i. (let x = c i in record { left = x.left; state = x.state; reached = writes_later is x.reached; lacks = x.lacks }))
      (all_fine at z ds vs t f.1 (All-tail (LeftDeclared (kinds_of declared)) d ds e) (All-tail MayFit v vs r) k))
