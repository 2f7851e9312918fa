-- The variables of a statement in a copy: what is set becomes nothing else that is read.
use Rattle.std.proofs.Common.{◌≡◌, ◌⊎◌, inl, inr, ℕ, ◌<◌, List, [], ◌∷◌, map, Bool, true, false, not, ◌&&◌, Option, Some, None, refl, sym, ap, ap₂, ◌∙◌, subst, arith}
use Rattle.std.specs.Prelude.{◌≤◌, All, option_map}
use Rattle.std.proofs.lemmas.Bool.{false≢true, true≢false, and_parts}
use Rattle.std.proofs.lemmas.List.Elements.{All-nil, All-cons, All-head, All-tail}
use Rattle.jz_tree.specs.Size.{Size}
use Rattle.jz_tree.specs.Span.{Span}
use Rattle.jz_tree.specs.declared.expr.BinOp.{BinOp}
use Rattle.jz_tree.specs.declared.expr.Expr.{Expr}
use Rattle.jz_tree.specs.declared.expr.Access.{Access}
use Rattle.jz_tree.specs.declared.expr.Var.{Var}
use Rattle.jz_tree.specs.declared.expr.Expr.TheOpen.{Expr-F}
use Rattle.jz_tree.specs.declared.expr.Expr.TheViews.{out-Expr, out-Access, roll-out-Expr, roll-out-Access}
use Rattle.jz_tree.specs.declared.stmt.Lval.{Lval}
use Rattle.jz_tree.specs.declared.stmt.Lval.TheVariants as lval
use Rattle.jz_tree.specs.declared.program.Fun.{Fun}
use Rattle.jz_tree.specs.declared.program.Program.{Program}
use Rattle.jz_type_names.specs.Kinds.{is_inline_int}
use Rattle.jz_type_rows.specs.Matching.{is_set_inline, may_be_inline, sets_inline}
use Rattle.jz_select.specs.Trees.{Named, named_variable, names_eq, tree_of}
use Rattle.jz_judgement.specs.HasType.{Layer}
use Rattle.jz_meaning.specs.declared.access.Kind.TheVariants as kind
use Rattle.jz_meaning.specs.States.{Key, same_key}
use Rattle.jz_meaning.specs.Values.{Ref, key_of, cell_key, ref_of}
use Rattle.jz_meaning.specs.Statements.{Operation, assign, instruction, unset, meaningless}
use Rattle.jz_run_laws.specs.Counted as counted
use Rattle.jz_typed_runs.proofs.KindsOf.{ref_is}
use Rattle.jz_bodies.specs.Scopes.{Scope, a_scalar, a_cell, Has, Sets, is_over, is_access_over, Reads, AllRead, Writes, AllWritten}
use Rattle.jz_bodies.specs.Calls.{is_array}
use Rattle.jz_bodies.specs.Bodies.{IsOperation}
use Rattle.jz_bodies.specs.Declared.{scopes_in}
use Rattle.jz_bodies.proofs.Refs.{keys_same, same_key-refl}
use Rattle.jz_inline.specs.Names.{Names, var_in, expr_in, lval_in, op_in}
use Rattle.jz_inline.proofs.Copies.{ScopeCopy, key_in, IsBelow}
use Rattle.jz_inline.proofs.Reading.{layer_in, over_layer, over_is, access_over_is, ref_so}
use Rattle.jz_unrolling_laws.proofs.CopiedValues.{copied_inline}
use Rattle.jz_copied_types.proofs.Copying.{out_in, known_in, access_turns}
use Rattle.jz_kept_classes.proofs.Formed.{Formed, FormedLayer, formed}
use Rattle.jz_copied_variables.specs.Variables.{IsOver, over, IsOverLayer, o_variable, o_cell, o_load, o_minus, o_denial, o_cast, o_two, LeftOver, OverOperation}
use Rattle.jz_meetings.specs.Meetings.{place_of}
use Rattle.jz_meetings.specs.Turns.{OverTree}
use Rattle.jz_meetings.specs.KeptMeetings.{IsSet, IsSetPlace}
use Rattle.jz_meetings.proofs.OfTrees.{tree_form, tree_out}
use Rattle.jz_meetings.proofs.Kept.{name_one, name_self}
use Rattle.jz_kept_patterns.specs.Passes.{name_in, renaming}
use Rattle.jz_kept_patterns.specs.KeptPatterns.{no_registers}
use Rattle.jz_kept_patterns.proofs.CopiedTrees.{named_in}
use Rattle.jz_kept_patterns.proofs.Whole.{CopyPart, CopyLeft, copy_always, copy_pair, copy_instruction}
use Rattle.jz_expanded_patterns.proofs.Bodies.{IfRow}

-- ---- keys
abbrev pub key_by : Named → Key
key_by v = record { name = v.name; copy = v.copy; cell = v.cell }

pub key_is : (v : Var) → key_of (ref_of v) ≡ key_by (named_variable v)
key_is v = ap key_of (ref_is v)

pub cell_of : (v : Var) → (ref_of v).cell ≡ (named_variable v).cell
cell_of v = ap (λ (r : Ref). r.cell) (ref_is v)

pub name_of : (v : Var) → (ref_of v).name ≡ (named_variable v).name
name_of v = ap (λ (r : Ref). r.name) (ref_is v)

copy_of : (v : Var) → (ref_of v).copy ≡ (named_variable v).copy
copy_of v = ap (λ (r : Ref). r.copy) (ref_is v)

not_so : (b : Bool) → not b ≡ true → b ≡ false
not_so true h = absurd (false≢true h)
not_so false h = refl

-- ---- what is known of the variables of copies
pub record Knows (P : Var → Type 0) : Type 0 where
  pub entire : (v : Var) → P v → (ref_of v).cell ≡ None
  pub alike : (v w : Var) → P v → P w → key_of (ref_of v) ≡ key_of (ref_of w) → (ref_of v).kind ≡ (ref_of w).kind
  pub counted : (v : Var) → P v → is_array (ref_of v).kind ≡ true → (z : Size) × (n : ℕ) × ((ref_of v).kind ≡ kind.Array z n) × (1 ≤ n)

-- ---- what sets no inline variable behind set none before
both_false : (a b c d : Bool) → c ≡ a → d ≡ b → (c && d) ≡ false → (a && b) ≡ false
both_false a b c d e f h = sym (ap₂ (λ x y. x && y) e f) ∙ h

set_copied : (names : Names) (d : Lval) → is_set_inline (lval_in names d) ≡ is_set_inline d
set_copied names (lval.Skip at) = refl
set_copied names (lval.Var v) = ap is_inline_int (known_in names v)
set_copied names (lval.Cell v i) = refl
set_copied names (lval.Store a) = refl

may_copied : (names : Names) (c : Option Expr) → may_be_inline (option_map (expr_in names) c) ≡ may_be_inline c
may_copied names None = refl
may_copied names (Some c) = copied_inline names c

sets_before : (names : Names) (d : Lval) (c : Option Expr) → sets_inline (lval_in names d ∷ []) (option_map (expr_in names) c) ≡ false → sets_inline (d ∷ []) c ≡ false
sets_before names d c h = both_false (is_set_inline d) (may_be_inline c) (is_set_inline (lval_in names d)) (may_be_inline (option_map (expr_in names) c)) (set_copied names d) (may_copied names c) h

module _ (p : Program) (P : Var → Type 0) (facts : Knows P) (g : Fun) (names : Names) where
  abbrev pub X : ScopeCopy
  X = record { names = names; scope = scopes_in p g }

  abbrev G : Scope
  G = scopes_in p g

  abbrev N : Named → Named
  N = name_in names

  -- ---- a variable that the function has, in the copy
  abbrev Owns : Ref → Type 0
  Owns r = (G.has_scalar r ≡ true) ⊎ (G.has_array r ≡ true)

  pub record IsUsed (v : Var) : Type 0 where
    pub there : Owns (ref_of v)
    pub seen : P (var_in names v)

  abbrev pub Used : Named → Type 0
  Used n = (v : Var) × (n ≡ named_variable v) × IsUsed v

  pub entire : (v : Var) → P (var_in names v) → (named_variable v).cell ≡ None
  entire v s = sym (ap (λ (n : Named). n.cell) (named_in names v)) ∙ (sym (cell_of (var_in names v)) ∙ facts.entire (var_in names v) s)

  kind_in : (v : Var) → (ref_of (var_in names v)).kind ≡ (ref_of v).kind
  kind_in v = ap (λ (r : Ref). r.kind) (ref_so names v)

  key_there : (v : Var) → key_of (ref_of (var_in names v)) ≡ key_by (N (named_variable v))
  key_there v = key_is (var_in names v) ∙ ap key_by (named_in names v)

  same_kinds : (v w : Var) → P (var_in names v) → P (var_in names w) → N (named_variable v) ≡ N (named_variable w) → (ref_of v).kind ≡ (ref_of w).kind
  same_kinds v w s t e =
      sym (kind_in v) ∙ (facts.alike (var_in names v) (var_in names w) s t (key_there v ∙ (ap key_by e ∙ sym (key_there w))) ∙ kind_in w)

  -- an array has a first cell
  record IsArray (r : Ref) : Type 0 where
    pub size : Size
    pub count : ℕ
    pub is : r.kind ≡ kind.Array size count
    pub first : 0 < count

  array_is : (v : Var) → P (var_in names v) → is_array (ref_of v).kind ≡ true → IsArray (ref_of v)
  array_is v s a =
      let c = facts.counted (var_in names v) s (ap is_array (kind_in v) ∙ a) in
      record { size = c.0; count = c.1; is = sym (kind_in v) ∙ c.2; first = omega (arith, c.3) }

  array_has : (r : Ref) → G.has_array r ≡ true → is_array r.kind ≡ true
  array_has r h = (and_parts (is_array r.kind) _ h).0

  scalar_has : (r : Ref) → G.has_scalar r ≡ true → is_array r.kind ≡ false
  scalar_has r h = not_so (is_array r.kind) (and_parts (not (is_array r.kind)) _ h).0

  array_set : (r : Ref) → G.sets_array r ≡ true → is_array r.kind ≡ true
  array_set r h = (and_parts (is_array r.kind) _ h).0

  scalar_set : (r : Ref) → G.sets_scalar r ≡ true → is_array r.kind ≡ false
  scalar_set r h = not_so (is_array r.kind) (and_parts (not (is_array r.kind)) _ h).0

  -- ---- one of its places
  pub record HasKey (n : Named) : Type 0 where
    pub key : Key
    pub there : Has G key
    pub name : key.name ≡ n.name
    pub copy : key.copy ≡ n.copy

  pub has_key : (v : Var) → IsUsed v → HasKey (named_variable v)
  has_key v u = by_place u.there
    where
      by_place : Owns (ref_of v) → HasKey (named_variable v)
      by_place (inl h) = record { key = key_of (ref_of v); there = a_scalar (ref_of v) h; name = name_of v; copy = copy_of v }
      by_place (inr h) =
          let a = array_is v u.seen (array_has (ref_of v) h) in
          record { key = cell_key (ref_of v) 0; there = a_cell (ref_of v) a.size a.count 0 h a.is a.first; name = name_of v; copy = copy_of v }

  module _ (c : ℕ) (below : IsBelow X c) where
    -- ---- two places of one kind
    one_place : (v w : Var) (i : Option ℕ) (k q : Key) → Sets G k → Has G q → k.name ≡ (named_variable v).name → k.copy ≡ (named_variable v).copy → q.name ≡ (named_variable w).name → q.copy ≡ (named_variable w).copy
        → k.cell ≡ q.cell → P (var_in names v) → P (var_in names w) → N (named_variable w) ≡ N (named_variable v) → named_variable w ≡ named_variable v
    one_place v w i k q s h kn kc qn qc cells sv sw e =
        let a : (names k.name).0 ≡ (names q.name).0 = ap (λ n. (names n).0) kn ∙ (sym (ap (λ (n : Named). n.name) e) ∙ sym (ap (λ n. (names n).0) qn)) in
        let b : (names k.name).1 ≡ (names q.name).1 = ap (λ n. (names n).1) kn ∙ (sym (ap (λ (n : Named). n.copy) e) ∙ sym (ap (λ n. (names n).1) qn)) in
        let there : key_in names k ≡ key_in names q = λ j. record { name = a j; copy = b j; cell = cells j } in
        let one : same_key (key_in names k) (key_in names q) ≡ true = ap (λ x. same_key x (key_in names q)) there ∙ same_key-refl (key_in names q) in
        let same : k ≡ q = keys_same k q (sym (below.apart k q s h) ∙ one) in
        let name : (named_variable w).name ≡ (named_variable v).name = sym qn ∙ (sym (ap (λ (x : Key). x.name) same) ∙ kn) in
        let copy : (named_variable w).copy ≡ (named_variable v).copy = sym qc ∙ (sym (ap (λ (x : Key). x.copy) same) ∙ kc) in
        let cell : (named_variable w).cell ≡ (named_variable v).cell = entire w sw ∙ sym (entire v sv) in
        λ j. record { name = name j; copy = copy j; cell = cell j }

    -- ---- what is set
    record IsAssigned (v : Var) : Type 0 where
      pub sets : (G.sets_scalar (ref_of v) ≡ true) ⊎ (G.sets_array (ref_of v) ≡ true)
      pub seen : P (var_in names v)

    clash : {A : Type 0} (r q : Ref) → r.kind ≡ q.kind → is_array r.kind ≡ true → is_array q.kind ≡ false → A
    clash r q e a b = absurd (true≢false (sym a ∙ (ap is_array e ∙ b)))

    one_name : (v w : Var) → IsAssigned v → IsUsed w → N (named_variable w) ≡ N (named_variable v) → named_variable w ≡ named_variable v
    one_name v w s u e = by_sets s.sets u.there
      where
        kinds : (ref_of w).kind ≡ (ref_of v).kind
        kinds = same_kinds w v u.seen s.seen e

        by_sets : (G.sets_scalar (ref_of v) ≡ true) ⊎ (G.sets_array (ref_of v) ≡ true) → Owns (ref_of w) → named_variable w ≡ named_variable v
        by_sets (inl a) (inl b) =
            one_place v w None (key_of (ref_of v)) (key_of (ref_of w)) (a_scalar (ref_of v) a) (a_scalar (ref_of w) b) (name_of v) (copy_of v) (name_of w) (copy_of w)
            (cell_of v ∙ (entire v s.seen ∙ (sym (entire w u.seen) ∙ sym (cell_of w)))) s.seen u.seen e
        by_sets (inl a) (inr b) = clash (ref_of w) (ref_of v) kinds (array_has (ref_of w) b) (scalar_set (ref_of v) a)
        by_sets (inr a) (inl b) = clash (ref_of v) (ref_of w) (sym kinds) (array_set (ref_of v) a) (scalar_has (ref_of w) b)
        by_sets (inr a) (inr b) =
            let x = array_is v s.seen (array_set (ref_of v) a) in
            let y = array_is w u.seen (array_has (ref_of w) b) in
            one_place v w (Some 0) (cell_key (ref_of v) 0) (cell_key (ref_of w) 0) (a_cell (ref_of v) x.size x.count 0 a x.is x.first) (a_cell (ref_of w) y.size y.count 0 b y.is y.first)
            (name_of v) (copy_of v) (name_of w) (copy_of w) refl s.seen u.seen e

    is_set : (v : Var) → IsAssigned v → IsSet (renaming (name_in names)) Used (named_variable v)
    is_set v s = record {
      entire = (entire v s.seen, entire v s.seen);
      others = λ n u. (let e : n.cell ≡ None = ap (λ (x : Named). x.cell) u.1 ∙ entire u.0 u.2.seen in (e, e));
      apart = λ n u e. (let q : N (named_variable u.0) ≡ N (named_variable v) = sym (ap N u.1) ∙ name_one (N n) (N (named_variable v)) e in
          ap (λ x. names_eq x (named_variable v)) (u.1 ∙ one_name v u.0 s u.2 q) ∙ name_self (named_variable v));
    }

    place_set : (d : Lval) → Writes G d → LeftOver P (lval_in names d) → IsSetPlace (renaming (name_in names)) Used no_registers (place_of d)
    place_set (lval.Skip at) w h = tt
    place_set (lval.Var v) w h = (is_set v (record { sets = inl w.0; seen = h.0 }), refl)
    place_set (lval.Cell v i) w h = (is_set v (record { sets = inr w.0; seen = h.0 }), λ r. absurd (false≢true r))
    place_set (lval.Store a) w h = tt

  -- ---- what is read
  over_out : {e : Expr} → IsOver P e → IsOverLayer P (out-Expr e)
  over_out (over h) = h

  of_variable : {w : Var} → IsOverLayer P (Expr-F.Var w) → P w
  of_variable (o_variable q n) = q

  of_cell : {w : Var} {i : Expr} → IsOverLayer P (Expr-F.Cell w i) → P w × IsOver P i
  of_cell (o_cell q y r h) = (q, h)

  reads_out : (e : Expr) → is_over G.has_scalar G.has_array e ≡ over_layer G.has_scalar G.has_array (out-Expr e)
  reads_out e = ap (is_over G.has_scalar G.has_array) (sym (roll-out-Expr e)) ∙ over_is G.has_scalar G.has_array (out-Expr e)

  access_reads : (a : Access) → is_access_over G.has_scalar G.has_array a ≡ true → is_over G.has_scalar G.has_array (out-Access a).at ≡ true
  access_reads a h = sym (ap (is_access_over G.has_scalar G.has_array) (sym (roll-out-Access a)) ∙ access_over_is G.has_scalar G.has_array (out-Access a)) ∙ h

  of_load : {a : Access} → IsOverLayer P (Expr-F.Load a) → IsOver P (out-Access a).at
  of_load (o_load h) = h

  of_minus : {a : Expr} {at : Span} → IsOverLayer P (Expr-F.Neg a at) → IsOver P a
  of_minus (o_minus h) = h

  of_denial : {a : Expr} {at : Span} → IsOverLayer P (Expr-F.Not a at) → IsOver P a
  of_denial (o_denial h) = h

  of_cast : {z : Size} {s : Bool} {a : Expr} {at : Span} → IsOverLayer P (Expr-F.Cast z s a at) → IsOver P a
  of_cast (o_cast h) = h

  of_two : {o : BinOp} {a b : Expr} {at : Span} → IsOverLayer P (Expr-F.Bin o a b at) → IsOver P a × IsOver P b
  of_two (o_two h l) = (h, l)

  mutual
    used_by : (e : Expr) → Formed e → is_over G.has_scalar G.has_array e ≡ true → IsOver P (expr_in names e) → OverTree Used no_registers (tree_of e)
    used_by e (counted.expression f) r h =
        subst (OverTree Used no_registers) (sym (tree_out e)) (layer_used f (sym (reads_out e) ∙ r) (subst (IsOverLayer P) (out_in names e) (over_out h)))

    layer_used : {x : Layer} → FormedLayer x → over_layer G.has_scalar G.has_array x ≡ true → IsOverLayer P (layer_in names x) → OverTree Used no_registers (tree_form x)
    layer_used counted.number r h = tt
    layer_used counted.bool r h = tt
    layer_used (counted.variable {v = v} q) r h = (v, refl, record { there = inl r; seen = of_variable h })
    layer_used (counted.cell {v = v} {i = i} q f) r h =
        let s = and_parts (G.has_array (ref_of v)) (is_over G.has_scalar G.has_array i) r in
        let k = of_cell h in
        ((v, refl, record { there = inr s.0; seen = k.0 }), (λ t. absurd (false≢true t)), used_by i f s.1 k.1)
    layer_used (counted.load {a = a} f) r h = used_by (out-Access a).at f (access_reads a r) (subst (IsOver P) (access_turns names a).at (of_load h))
    layer_used (counted.negated {a = a} f) r h = used_by a f r (of_minus h)
    layer_used (counted.inverted {a = a} f) r h = used_by a f r (of_denial h)
    layer_used (counted.cast {a = a} f) r h = used_by a f r (of_cast h)
    layer_used (counted.operation {a = a} {b = b} f l) r h =
        let s = and_parts (is_over G.has_scalar G.has_array a) (is_over G.has_scalar G.has_array b) r in
        let k = of_two h in
        (used_by a f s.0 k.0, used_by b l s.1 k.1)

  pub used_over : (e : Expr) → Reads G e → IsOver P (expr_in names e) → OverTree Used no_registers (tree_of e)
  used_over e r h = used_by e (formed e) r h

  -- ---- a statement in the copy
  module _ (F : Key → Bool) (c : ℕ) (below : IsBelow X c) where
    lefts_set : (to : List Lval) → AllWritten G to → All (LeftOver P) (map (lval_in names) to) → All (CopyLeft names Used) to
    lefts_set [] w h = All-nil (CopyLeft names Used)
    lefts_set (d ∷ ds) w h =
        All-cons (CopyLeft names Used) d ds (place_set c below d w.0 (All-head (LeftOver P) (lval_in names d) (map (lval_in names) ds) h)) (lefts_set ds w.1 (All-tail (LeftOver P) (lval_in names d) (map (lval_in names) ds) h))

    args_used : (es : List Expr) → AllRead G es → All (IsOver P) (map (expr_in names) es) → All (CopyPart names Used) es
    args_used [] r h = All-nil (CopyPart names Used)
    args_used (e ∷ es) r h =
        All-cons (CopyPart names Used) e es (used_over e r.0 (All-head (IsOver P) (expr_in names e) (map (expr_in names) es) h)) (args_used es r.1 (All-tail (IsOver P) (expr_in names e) (map (expr_in names) es) h))

    pub row_in : (o : Operation) → IsOperation G o → OverOperation P F (op_in names o) → IfRow o → IfRow (op_in names o)
    row_in (assign [] o e x at) k h r = tt
    row_in (assign (d ∷ []) o e x at) k h r =
        λ n. copy_always names Used d (place_set c below d k.0.0 (All-head (LeftOver P) (lval_in names d) [] h.0)) o e x (used_over e k.1 h.1) (r (sets_before names d x n))
    row_in (assign (f ∷ d ∷ []) o e None at) k h r =
        copy_pair names Used d (place_set c below d k.0.1.0 (All-head (LeftOver P) (lval_in names d) [] (All-tail (LeftOver P) (lval_in names f) (lval_in names d ∷ []) h.0))) f o e (used_over e k.1 h.1) r
    row_in (assign (f ∷ d ∷ []) o e (Some x) at) k h r = tt
    row_in (assign (f ∷ d ∷ b ∷ ds) o e x at) k h r = tt
    row_in (instruction to n args at) k h r = copy_instruction names Used to n args (lefts_set to k.0 h.0) (args_used args k.1 h.1) r
    row_in (unset vs) k h r = tt
    row_in (meaningless at) k h r = tt
