-- Left sides, and what waits on their values.
use Rattle.std.proofs.Common.{◌≡◌, ℕ, ◌<◌, ◌≤◌, List, [], ◌∷◌, ◌++◌, Option, Some, None, Bool, true, false, refl, ap, sym, ◌∙◌, subst, arith}
use Rattle.std.specs.Prelude.{if◌then◌else◌}
use Rattle.std.specs.Option.{option_or}
use Rattle.jz_tree.specs.Span.{Span}
use Rattle.x64_insn.specs.Size.{Size}
use Rattle.x64_insn.specs.Size.TheVariants.{S8, S64}
use Rattle.jz_tree.specs.declared.expr.BinOp.{BinOp}
use Rattle.jz_tree.specs.declared.expr.Access.{Access}
use Rattle.jz_tree.specs.declared.expr.Var.{Var}
use Rattle.jz_tree.specs.declared.expr.Expr.{Expr, size-Expr}
use Rattle.jz_tree.specs.declared.expr.Expr.TheVariants as expr
use Rattle.jz_tree.specs.declared.expr.Expr.TheOpen.{Expr-F}
use Rattle.jz_tree.specs.declared.expr.Expr.TheViews.{sized-Bin}
use Rattle.jz_tree.specs.declared.expr.Expr.TheFolds.{fold-roll-Expr, fold-roll-Access}
use Rattle.jz_tree.specs.Operators.{is_shift}
use Rattle.jz_meaning.specs.declared.left.Waiting.{Waiting}
use Rattle.jz_meaning.specs.declared.value.Stuck.{Stuck}
use Rattle.jz_runs.specs.Rules.{stuck, went}
use Rattle.jz_meaning.specs.Attempts.{Evaluation, numbers_first, and_then}
use Rattle.jz_meaning.specs.States.{Value, State}
use Rattle.jz_meaning.specs.Values.{gives_word, size_of_operation, left_wanted, right_wanted, run_binary, own_size, evaluated, ref_of, access_of, cell_value, load_at, expr_step, ty_step, access_step, decl_step, var_step}
use Rattle.jz_meaning.proofs.AttemptLemmas.{first_then, gone_then}
use Rattle.jz_meaning.specs.InnerEvaluating.{IsDetermined, go_on, gone_on, on_left, AllDetermined, IsLeftSide}

-- ---- sizes that are wanted

or_same : (a : Option Size) → option_or a a ≡ a
or_same None = refl
or_same (Some s) = refl

or_left : (a b : Option Size) → option_or (option_or a b) a ≡ option_or a b
or_left None None = refl
or_left None (Some s) = refl
or_left (Some s) b = refl

or_right : (a b : Option Size) → option_or (option_or a b) b ≡ option_or a b
or_right None b = or_same b
or_right (Some s) b = refl

pub or_assoc : (a b c : Option Size) → option_or (option_or a b) c ≡ option_or a (option_or b c)
or_assoc None b c = refl
or_assoc (Some s) b c = refl

pub or_none : (a : Option Size) → option_or a None ≡ a
or_none None = refl
or_none (Some s) = refl

left_none : (a b : Option Size) → option_or a b ≡ None → a ≡ None
left_none None b h = refl
left_none (Some s) b h = h

right_none : (a b : Option Size) → option_or a b ≡ None → b ≡ None
right_none None b h = h
right_none (Some s) b h = absurd cc

-- where what is wanted of a word is settled, it is of its left operand
word_left : (sh : Bool) (w a b : Option Size) → option_or w (if sh then a else option_or a b) ≡ w → option_or w a ≡ w
word_left sh (Some s) a b h = refl
word_left true None a b h = h
word_left false None a b h = left_none a b h

word_right : (w a b : Option Size) → option_or w (option_or a b) ≡ w → option_or w b ≡ w
word_right (Some s) a b h = refl
word_right None a b h = right_none a b h

-- what is wanted of the operands, where what is wanted of the whole is settled
abbrev pub wanted_of_left : BinOp → Option Size → Option Size → Option Size → Option Size
wanted_of_left op w a b = if gives_word op then w else option_or a b

chosen_left : (g : Bool) (w a b z : Option Size) → option_or w (if g then z else None) ≡ w → (if g then w else option_or a b) ≡ (if g then option_or w (if g then z else None) else option_or a b)
chosen_left true w a b z h = sym h
chosen_left false w a b z h = refl

pub left_is : (op : BinOp) (w a b : Option Size) → option_or w (size_of_operation op a b) ≡ w → wanted_of_left op w a b ≡ left_wanted op w a b
left_is op w a b h = chosen_left (gives_word op) w a b _ h

settled_left : (g sh : Bool) (w a b : Option Size) → option_or w (if g then (if sh then a else option_or a b) else None) ≡ w → option_or (if g then w else option_or a b) a ≡ (if g then w else option_or a b)
settled_left true sh w a b h = word_left sh w a b h
settled_left false sh w a b h = or_left a b

pub left_settled : (op : BinOp) (w a b : Option Size) → option_or w (size_of_operation op a b) ≡ w → option_or (wanted_of_left op w a b) a ≡ wanted_of_left op w a b
left_settled op w a b h = settled_left (gives_word op) (is_shift op) w a b h

settled_right : (g sh : Bool) (w a b : Option Size) → option_or w (if g then (if sh then a else option_or a b) else None) ≡ w → option_or (if sh then Some S8 else (if g then w else option_or a b)) b ≡ (if sh then Some S8 else (if g then w else option_or a b))
settled_right g true w a b h = refl
settled_right true false w a b h = word_right w a b h
settled_right false false w a b h = or_right a b

pub right_settled : (op : BinOp) (w a b : Option Size) → option_or w (size_of_operation op a b) ≡ w → option_or (right_wanted op (wanted_of_left op w a b)) b ≡ right_wanted op (wanted_of_left op w a b)
right_settled op w a b h = settled_right (gives_word op) (is_shift op) w a b h

-- ---- one operation

pub left_smaller : (op : BinOp) (l r : Expr) (s : Span) → size-Expr l < size-Expr (expr.Bin op l r s)
left_smaller op l r s = rw (sized-Bin op l r s) (search arith)

pub right_smaller : (op : BinOp) (l r : Expr) (s : Span) → size-Expr r < size-Expr (expr.Bin op l r s)
right_smaller op l r s = rw (sized-Bin op l r s) (search arith)

pub size_bin : (op : BinOp) (a b : Expr) (at : Span) → own_size (expr.Bin op a b at) ≡ size_of_operation op (own_size a) (own_size b)
size_bin op a b at = ap own_size (sym (expr.rolls-Bin op a b at)) ∙ ap (λ m. m.size) (fold-roll-Expr _ _ _ _ _ expr_step ty_step access_step decl_step var_step (Expr-F.Bin op a b at))

pub evaluated_bin : (op : BinOp) (a b : Expr) (at : Span) (w : Option Size) (s : State) → evaluated (expr.Bin op a b at) w s ≡ run_binary op (evaluated a) (evaluated b) at (left_wanted op w (own_size a) (own_size b)) s
evaluated_bin op a b at w s =
    ap (λ x. evaluated x w s) (sym (expr.rolls-Bin op a b at)) ∙ ap (λ m. m.run w s) (fold-roll-Expr _ _ _ _ _ expr_step ty_step access_step decl_step var_step (Expr-F.Bin op a b at))

-- what a left operand has, before what was found behind it
before : (g sh : Bool) (a b found : Option Size) → g ≡ true → option_or a (if sh then found else option_or b found) ≡ option_or (if g then (if sh then a else option_or a b) else None) found
before true true a b found h = refl
before true false a b found h = sym (or_assoc a b found)
before false sh a b found h = absurd cc

no_size : (g : Bool) (z found : Option Size) → g ≡ false → option_or (if g then z else None) found ≡ found
no_size true z found h = absurd cc
no_size false z found h = refl

pub found_behind :
    (op : BinOp) (a b cur : Expr) (at : Span) (found next whole : Option Size) → expr.Bin op a b at ≡ cur → gives_word op ≡ true → next ≡ (if is_shift op then found else option_or (own_size b) found) →
    option_or (own_size cur) found ≡ whole → option_or (own_size a) next ≡ whole
found_behind op a b cur at found next whole ic g is h =
    ap (option_or (own_size a)) is ∙ before (gives_word op) (is_shift op) (own_size a) (own_size b) found g ∙ ap (λ z. option_or z found) (sym (size_bin op a b at) ∙ ap own_size ic) ∙ h

pub found_no_word : (op : BinOp) (a b cur : Expr) (at : Span) (found whole : Option Size) → expr.Bin op a b at ≡ cur → gives_word op ≡ false → option_or (own_size cur) found ≡ whole → found ≡ whole
found_no_word op a b cur at found whole ic g h = sym (no_size (gives_word op) _ found g) ∙ ap (λ z. option_or z found) (sym (size_bin op a b at) ∙ ap own_size ic) ∙ h

-- the children of a node that is no larger than the whole
pub bin_within : (n : ℕ) (cur : Expr) (op : BinOp) (a b : Expr) (at : Span) → expr.Bin op a b at ≡ cur → size-Expr cur ≤ n → (size-Expr a < n) × (size-Expr b < n)
bin_within n cur op a b at ic le =
    let y : size-Expr (expr.Bin op a b at) ≤ n = subst (λ e. size-Expr e ≤ n) (sym ic) le in
    (omega (arith, left_smaller op a b at, y), omega (arith, right_smaller op a b at, y))

-- ---- what waits

pub last_waiting : (ws : List Waiting) (w : Waiting) (e : Expr) → on_left (ws ++ w ∷ []) e ≡ on_left ws (expr.Bin w.op e w.right.now w.span)
last_waiting [] w e = refl
last_waiting (v ∷ ws) w e = ap (λ x. expr.Bin v.op x v.right.now v.span) (last_waiting ws w e)

pub last_goes_on : (ws : List Waiting) (w : Waiting) (s : State) (g : Evaluation Value) → gone_on (ws ++ w ∷ []) s g ≡ gone_on ws s (and_then g (go_on w s))
last_goes_on [] w s g = refl
last_goes_on (v ∷ ws) w s g = ap (λ x. and_then x (go_on v s)) (last_goes_on ws w s g)

pub stuck_goes_on : (ws : List Waiting) (s : State) (k : Stuck) → gone_on ws s (stuck k) ≡ stuck k
stuck_goes_on [] s k = refl
stuck_goes_on (w ∷ ws) s k = ap (λ x. and_then x (go_on w s)) (stuck_goes_on ws s k)

pub first_goes_on : (ns : List ℕ) (ws : List Waiting) (s : State) (g : Evaluation Value) → numbers_first ns (gone_on ws s g) ≡ gone_on ws s (numbers_first ns g)
first_goes_on ns [] s g = refl
first_goes_on ns (w ∷ ws) s g = first_then ns (gone_on ws s g) (go_on w s) ∙ ap (λ x. and_then x (go_on w s)) (first_goes_on ns ws s g)

with_last : (ws : List Waiting) (w : Waiting) → AllDetermined ws → IsDetermined (right_wanted w.op w.wanted) w.right.now → AllDetermined (ws ++ w ∷ [])
with_last [] w h k = (k, tt)
with_last (v ∷ ws) w h k = (h.0, with_last ws w h.1 k)

pub without_last : (ws : List Waiting) (w : Waiting) → AllDetermined (ws ++ w ∷ []) → AllDetermined ws × IsDetermined (right_wanted w.op w.wanted) w.right.now
without_last [] w h = (tt, h.0)
without_last (v ∷ ws) w h = let x = without_last ws w h.1 in ((h.0, x.0), x.1)

-- ---- down the left side

pub descend :
    (wanted : Option Size) (e : Expr) (ws : List Waiting) (inner : Option Size) (a : Expr) (w : Waiting) →
    IsLeftSide wanted e ws (expr.Bin w.op a w.right.now w.span) inner →
    w.wanted ≡ wanted_of_left w.op inner (own_size a) (own_size w.right.now) →
    IsLeftSide wanted e (ws ++ w ∷ []) a w.wanted
descend wanted e ws inner a w h is =
    let sa = own_size a in
    let sb = own_size w.right.now in
    let d : option_or inner (size_of_operation w.op sa sb) ≡ inner = subst (λ z. option_or inner z ≡ inner) (size_bin w.op a w.right.now w.span) h.settled in
    record {
      whole = last_waiting ws w a ∙ h.whole;
      value = λ s.
          last_goes_on ws w s (evaluated a w.wanted s)
          ∙ ap (λ (z : Option Size). gone_on ws s (run_binary w.op (evaluated a) (evaluated w.right.now) w.span z s)) (is ∙ left_is w.op inner sa sb d)
          ∙ ap (gone_on ws s) (sym (evaluated_bin w.op a w.right.now w.span inner s))
          ∙ h.value s;
      settled = subst (λ z. option_or z sa ≡ z) (sym is) (left_settled w.op inner sa sb d);
      rights = with_last ws w h.rights (subst (λ z. option_or (right_wanted w.op z) sb ≡ right_wanted w.op z) (sym is) (right_settled w.op inner sa sb d));
    }

-- the same of what the code sees
pub descended :
    (wanted : Option Size) (e : Expr) (ws us : List Waiting) (inner : Option Size) (cur a : Expr) (w : Waiting) →
    expr.Bin w.op a w.right.now w.span ≡ cur →
    us ≡ ws ++ w ∷ [] →
    IsLeftSide wanted e ws cur inner →
    w.wanted ≡ wanted_of_left w.op inner (own_size a) (own_size w.right.now) →
    IsLeftSide wanted e us a w.wanted
descended wanted e ws us inner cur a w ic iu h is =
    subst (λ vs. IsLeftSide wanted e vs a w.wanted) (sym iu) (descend wanted e ws inner a w (subst (λ x. IsLeftSide wanted e ws x inner) (sym ic) h) is)

-- ---- sizes of trees

-- each right operand is smaller than this
abbrev pub AllSmaller : ℕ → List Waiting → Type 0
AllSmaller n [] = Unit {0}
AllSmaller n (w ∷ ws) = (size-Expr w.right.now < n) × AllSmaller n ws

wider : (m n : ℕ) (ws : List Waiting) → m ≤ n → AllSmaller m ws → AllSmaller n ws
wider m n [] le h = tt
wider m n (w ∷ ws) le h = (omega (arith, le, h.0), wider m n ws le h.1)

pub smaller_without_last : (n : ℕ) (ws : List Waiting) (w : Waiting) → AllSmaller n (ws ++ w ∷ []) → AllSmaller n ws × (size-Expr w.right.now < n)
smaller_without_last n [] w h = (tt, h.0)
smaller_without_last n (v ∷ ws) w h = let x = smaller_without_last n ws w h.1 in ((h.0, x.0), x.1)

-- the parts of a left side are no larger than the whole
pub parts_within : (ws : List Waiting) (e : Expr) → (size-Expr e ≤ size-Expr (on_left ws e)) × AllSmaller (size-Expr (on_left ws e)) ws
parts_within [] e = (search arith, tt)
parts_within (w ∷ ws) e =
    let x = parts_within ws e in
    let l = left_smaller w.op (on_left ws e) w.right.now w.span in
    (omega (arith, x.0, l), (right_smaller w.op (on_left ws e) w.right.now w.span, wider _ _ ws (omega (arith, l)) x.1))

-- ---- the value of a left side

-- where the first operand is stuck
pub stuck_first :
    (ns : List ℕ) (s : State) (e first : Expr) (wanted inner : Option Size) (ws : List Waiting) (k : Stuck) →
    IsLeftSide wanted e ws first inner → stuck k ≡ numbers_first ns (evaluated first inner s) → stuck k ≡ numbers_first ns (evaluated e wanted s)
stuck_first ns s e first wanted inner ws k h is =
    sym (stuck_goes_on ws s k) ∙ ap (gone_on ws s) is ∙ sym (first_goes_on ns ws s (evaluated first inner s)) ∙ ap (numbers_first ns) (h.value s)

-- where it has a value
pub begun :
    (ns ms : List ℕ) (s : State) (e first : Expr) (wanted inner : Option Size) (ws : List Waiting) (v : Value) →
    IsLeftSide wanted e ws first inner → went ms v ≡ numbers_first ns (evaluated first inner s) → gone_on ws s (went ms v) ≡ numbers_first ns (evaluated e wanted s)
begun ns ms s e first wanted inner ws v h is =
    ap (gone_on ws s) is ∙ sym (first_goes_on ns ws s (evaluated first inner s)) ∙ ap (numbers_first ns) (h.value s)

-- the last one goes on
pub next :
    (s : State) (ns : List ℕ) (v : Value) (ws us : List Waiting) (w : Waiting) (r g : Evaluation Value) →
    ws ≡ us ++ w ∷ [] → gone_on ws s (went ns v) ≡ g → r ≡ numbers_first ns (go_on w s v) → gone_on us s r ≡ g
next s ns v ws us w r g e h is = ap (gone_on us s) is ∙ sym (last_goes_on us w s (went ns v)) ∙ ap (λ vs. gone_on vs s (went ns v)) (sym e) ∙ h

pub next_stuck :
    (s : State) (ns : List ℕ) (v : Value) (ws us : List Waiting) (w : Waiting) (k : Stuck) (g : Evaluation Value) →
    ws ≡ us ++ w ∷ [] → gone_on ws s (went ns v) ≡ g → stuck k ≡ numbers_first ns (go_on w s v) → stuck k ≡ g
next_stuck s ns v ws us w k g e h is = sym (stuck_goes_on us s k) ∙ next s ns v ws us w (stuck k) g e h is

-- ---- the value of an access

evaluated_cell : (x : Var) (i : Expr) (w : Option Size) (s : State) → evaluated (expr.Cell x i) w s ≡ and_then (evaluated i (Some S64) s) (λ v. cell_value (ref_of x) v s.store)
evaluated_cell x i w s =
    ap (λ e. evaluated e w s) (sym (expr.rolls-Cell x i)) ∙ ap (λ m. m.run w s) (fold-roll-Expr _ _ _ _ _ expr_step ty_step access_step decl_step var_step (Expr-F.Cell x i))

evaluated_load : (a : Access) (w : Option Size) (s : State) → evaluated (expr.Load a) w s ≡ and_then (evaluated a.at (Some S64) s) (λ v. load_at (access_of a) w v s.memory)
evaluated_load a w s =
    ap (λ e. evaluated e w s) (sym (expr.rolls-Load a)) ∙ ap (λ m. m.run w s) (fold-roll-Expr _ _ _ _ _ expr_step ty_step access_step decl_step var_step (Expr-F.Load a))
    ∙ ap (λ g. and_then g (λ v. load_at (access_of a) w v s.memory))
    (ap (λ p. p.at s) (fold-roll-Access _ _ _ _ _ expr_step ty_step access_step decl_step var_step (record { size = a.size; at = a.at; unaligned = a.unaligned; span = a.span })))

pub cell_goes :
    (s : State) (ns ms : List ℕ) (e i : Expr) (x : Var) (w : Option Size) (v : Value) (r : Evaluation Value) →
    expr.Cell x i ≡ e → went ms v ≡ numbers_first ns (evaluated i (Some S64) s) → r ≡ numbers_first ms (cell_value (ref_of x) v s.store) → r ≡ numbers_first ns (evaluated e w s)
cell_goes s ns ms e i x w v r is h k =
    gone_then ns ms (evaluated i (Some S64) s) (λ u. cell_value (ref_of x) u s.store) v r h k ∙ ap (numbers_first ns) (sym (evaluated_cell x i w s) ∙ ap (λ y. evaluated y w s) is)

pub load_goes :
    (s : State) (ns ms : List ℕ) (e i : Expr) (a : Access) (w : Option Size) (v : Value) (r : Evaluation Value) →
    expr.Load a ≡ e → i ≡ a.at → went ms v ≡ numbers_first ns (evaluated i (Some S64) s) → r ≡ numbers_first ms (load_at (access_of a) w v s.memory) → r ≡ numbers_first ns (evaluated e w s)
load_goes s ns ms e i a w v r is ia h k =
    gone_then ns ms (evaluated i (Some S64) s) (λ u. load_at (access_of a) w u s.memory) v r h k
    ∙ ap (λ j. numbers_first ns (and_then (evaluated j (Some S64) s) (λ u. load_at (access_of a) w u s.memory))) ia
    ∙ ap (numbers_first ns) (sym (evaluated_load a w s) ∙ ap (λ y. evaluated y w s) is)
