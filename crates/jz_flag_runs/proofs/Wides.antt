-- `h, l = a * b` and MUL: RAX gets the first operand, with its variable or with none, and MUL leaves both words.
use Rattle.std.proofs.Common.{◌≡◌, ℕ, ◌*◌, ◌/◌, ◌%◌, ◌<◌, Bool, true, false, List, [], ◌∷◌, ◌++◌, Option, Some, None, refl, sym, ap, ◌∙◌, subst, arith}
use Rattle.std.specs.Prelude.{nat_eq, not, ◌==◌, ◌&&◌, if◌then◌else◌}
use Rattle.std.proofs.lemmas.Bool.{and_parts, eqb-true}
use Rattle.std.specs.Option.{option_or}
use Rattle.std.proofs.lemmas.Nat.{mod_below}
use Rattle.jz_io.specs.declared.span.Span.{Span}
use Rattle.jz_words.specs.declared.size.Size.{Size}
use Rattle.jz_words.specs.Sizes.{modulus}
use Rattle.jz_words.proofs.Residues.{some_words}
use Rattle.x64_insn.specs.declared.types.FlagVal.{FlagVal}
use Rattle.x64_insn.specs.declared.types.Place.{Place}
use Rattle.x64_insn.specs.declared.types.Reg.TheVariants as reg
use Rattle.x64_insn.specs.declared.types.Wide.TheVariants as wide
use Rattle.x64_insn.specs.Products.{no_flags, product_flags, product_answer}
use Rattle.jz_tree.specs.declared.expr.BinOp.TheVariants as o
use Rattle.jz_tree.specs.declared.expr.Expr.{Expr}
use Rattle.jz_tree.specs.declared.expr.Expr.TheVariants as expr
use Rattle.jz_tree.specs.declared.stmt.Lval.{Lval}
use Rattle.jz_runs.specs.Rules.{went}
use Rattle.jz_meaning.specs.Attempts.{and_then}
use Rattle.jz_meaning.specs.States.{Value, word, State}
use Rattle.jz_meaning.specs.Values.{key_of, ref_of, own_size}
use Rattle.jz_meaning.specs.Assignments.{left_sizes, word_in, with_two, written, all_written, assigned}
use Rattle.jz_operations.specs.declared.operation.Pinned.{Pinned}
use Rattle.jz_operations.specs.declared.operation.Arg.{Arg}
use Rattle.jz_operations.specs.declared.operation.Arg.TheVariants as arg
use Rattle.jz_operations.specs.declared.operation.Action.{Action}
use Rattle.jz_operations.specs.declared.operation.Action.TheVariants as action
use Rattle.jz_operations.specs.declared.operation.Flags.{Flags}
use Rattle.jz_operations.specs.declared.operation.Operation.{Operation}
use Rattle.jz_operations.specs.Values as over
use Rattle.jz_operations.specs.Values.{set_var, set_left}
use Rattle.jz_operations.specs.Rows.{Frame, narrowed, held_at, value_of, put, step, with_flags, all_five, set_flags, flags_of, low_at}
use Rattle.jz_operations.specs.Reading.{is_var, found_by}
use Rattle.jz_operations.proofs.OwnVariables.{SameIn, value_same, same_right}
use Rattle.jz_homes.proofs.Shown.{shown, read_shown, shown_same}
use Rattle.jz_homes.specs.Homes.{Homes, IsHoming, IsRelated}
use Rattle.jz_change.specs.declared.change.Numbers.TheVariants.{These}
use Rattle.jz_homes.specs.Operands.{Leaks, count_of, IsArg, to_word, shown_of}
use Rattle.jz_row_operations.specs.Codes.{plain, no_flag, lasting}
use Rattle.jz_row_operations.specs.Table.{is_imm}
use Rattle.jz_row_operations.specs.Lowering.{numbers_from}
use Rattle.jz_row_operations.proofs.Items.{item, more_items, one_item, first_placed, next_placed, at_numbers}
use Rattle.jz_flag_rows.specs.Results.{IsPinned}
use Rattle.jz_flag_rows.specs.Results as results
use Rattle.jz_flag_rows.specs.Wide.{is_pinned, is_apart, wide_code, wide_shown}
use Rattle.jz_flag_runs.specs.Laws.{AreNeedsMet}
use Rattle.jz_flag_runs.proofs.FlagLefts.{AreFlags, no_more, unlisted, AreApart, set_pinned, IsFreeOf, free_of, wide_apart, turned_apart}
use Rattle.jz_homes.proofs.Parts.{both_went, went_same}
use Rattle.jz_homes.proofs.Reading.{word_itself, narrowed_itself}
use Rattle.jz_homes.proofs.Writing.{dest_written, related_same, set_same}
use Rattle.jz_row_operations.proofs.Moves.{append_nil, move_by}
use Rattle.jz_row_operations.proofs.Sums.{NoName, left_same, away, RunsAs, one_ran}
use Rattle.jz_row_operations.proofs.Brought.{same_itself, twice, two_ran, two_same}
use Rattle.jz_row_operations.proofs.Lowered.{Goes}
use Rattle.jz_operations.proofs.Somes.{same_some}
use Rattle.jz_flag_runs.proofs.FlagResults.{flags_crossed, crossed, flags_written}
use Rattle.jz_flag_runs.proofs.Words.{WordRead, two_read}
use Rattle.jz_flag_runs.proofs.TwoLefts.{two_words, two_lefts, joined}

-- ---- words in RAX and RDX
pub put_at : (frame : Frame) (r : _) (p : Option Pinned) (z : Size) (n : ℕ) (σ : over.State) → (τ : over.State) × (put frame (arg.At r p) z n σ ≡ Some τ) × (τ.vars ≡ set_pinned p z n σ.vars) × (τ.cells ≡ σ.cells) × (τ.memory ≡ σ.memory)
put_at frame r (Some p) z n σ = (_, refl, refl, refl, refl)
put_at frame r None z n σ = (_, refl, refl, refl, refl)

pub pinned_twice : (p : Option Pinned) (z : Size) (n k : ℕ) (vars : ℕ → Option over.Value) → set_pinned p z n (set_pinned p z k vars) ≡ set_pinned p z n vars
pinned_twice None z n k vars = refl
pinned_twice (Some p) z n k vars = twice p.variable (Some (over.word z n)) (Some (over.word z k)) vars

pub pinned_crossed : (p q : Option Pinned) (z : Size) (n k : ℕ) (vars : ℕ → Option over.Value) → AreApart p q → set_pinned p z n (set_pinned q z k vars) ≡ set_pinned q z k (set_pinned p z n vars)
pinned_crossed None q z n k vars h = refl
pinned_crossed (Some p) None z n k vars h = refl
pinned_crossed (Some p) (Some q) z n k vars h = λ i v. crossed p.variable q.variable v (Some (over.word z n)) (Some (over.word z k)) vars (nat_eq p.variable v) (nat_eq q.variable v) refl refl h i

-- the word's variable is the operand
pinned_reads : (frame : Frame) (z : Size) (σ : over.State) (l : Option Pinned) (x : Arg) (n : ℕ) → is_pinned l x ≡ true → value_of frame x z σ ≡ Some n → narrowed z (held_at reg.Rax l σ) ≡ Some n
pinned_reads frame z σ (Some k) (arg.Var v) n e h = ap (λ w. narrowed z (σ.vars w)) (eqb-true k.variable v e) ∙ h
pinned_reads frame z σ _ _ n e h = absurd cc

module _ (frame : Frame) (home : Homes) (homing : IsHoming frame home) where
  flags_pinned : {ls : List Lval} {ps : List (Option Pinned)} {cs : List Bool} {fs : List FlagVal} {vs : List (Option Value)} {l : Lval} {z : Size} (p : Option Pinned) (n : ℕ) (vars : ℕ → Option over.Value) → AreFlags home ls ps cs fs vs → IsPinned home z l p
      → set_flags ps cs fs (set_pinned p z n vars) ≡ set_pinned p z n (set_flags ps cs fs vars)
  flags_pinned None n vars k w = refl
  flags_pinned {z = z} (Some p) n vars k (results.a_word x q kd h span) = flags_crossed frame home homing p.variable (Some (over.word z n)) vars k (key_of (ref_of x), z, h)

  word_result : {z : Size} {l : Lval} {p : Option Pinned} (n : ℕ) (ns : List ℕ) (s t : State) (σ : over.State) → IsRelated home s σ → IsPinned home z l p → n < modulus z → written (Some z) l (Some (word z n)) s ≡ went ns t
      → (ns ≡ []) × IsRelated home t (record σ { vars = set_pinned p z n σ.vars })
  word_result n ns s t σ related (results.no_word at) small run = let k = went_same [] ns s t run in (sym k.0, subst (λ u. IsRelated home u σ) k.1 related)
  word_result {z} n ns s t σ related (results.a_word x p kd h span) small run =
      let w = dest_written frame home homing s σ related (to_word x p.variable kd h) (word z n) n ns t (word_itself z n) small run in
      let same = same_some _ w.after w.put' in (
        Rattle.jz_row_operations.proofs.Conditionals.nothing_last frame home homing s σ related x z (word z n) ns t run,
        related_same frame home homing t w.after (record σ { vars = set_var p.variable (Some (over.word z n)) σ.vars }) w.agrees (λ v. ap (λ u. u.vars v) same) (ap (λ u. u.cells) same) (ap (λ u. u.memory) same),
      )

  -- flags, and then two words in the order of the source
  pub words_result : {ls : List Lval} {ps : List (Option Pinned)} {cs : List Bool} {fs : List FlagVal} {vs : List (Option Value)} {z : Size} {d e : Lval} {p q : Option Pinned} (at : Span) (m n : ℕ) (ns : List ℕ) (s t : State) (σ : over.State) → IsRelated home s σ → AreFlags home ls ps cs fs vs
      → IsPinned home z d p → IsPinned home z e q → m < modulus z → n < modulus z → all_written at (Some z) (ls ++ (d ∷ e ∷ [])) (vs ++ (Some (word z m) ∷ Some (word z n) ∷ [])) s ≡ went ns t
      → (ns ≡ []) × IsRelated home t (record σ { vars = set_flags ps cs fs (set_pinned q z n (set_pinned p z m σ.vars)) })
  words_result {ls} {ps} {cs} {fs} {vs} {z} {d} {e} {p} {q} at m n ns s t σ related flags wd we hm hn run =
      let g = flags_written frame home homing at (Some z) (d ∷ e ∷ []) (Some (word z m) ∷ Some (word z n) ∷ []) s σ ns t flags related run in
      let σ1 : over.State = record σ { vars = set_flags ps cs fs σ.vars } in
      let a = both_went (written (Some z) d (Some (word z m)) g.between) (λ u. all_written at (Some z) (e ∷ []) (Some (word z n) ∷ []) u) ns t g.went_on in
      let k = word_result m a.first g.between a.value σ1 g.related wd hm a.came in
      let b = both_went (written (Some z) e (Some (word z n)) a.value) (λ u. all_written at (Some z) [] [] u) a.second t a.went_on in
      let l = word_result n b.first a.value b.value (record σ1 { vars = set_pinned p z m σ1.vars }) k.1 we hn b.came in
      let c = went_same [] b.second b.value t b.went_on in
      let same : set_pinned q z n (set_pinned p z m (set_flags ps cs fs σ.vars)) ≡ set_flags ps cs fs (set_pinned q z n (set_pinned p z m σ.vars)) =
      ap (set_pinned q z n) (sym (flags_pinned p m σ.vars flags wd)) ∙ sym (flags_pinned q n (set_pinned p z m σ.vars) flags we) in (
        a.numbers ∙ ap (λ y. y ++ a.second) k.0 ∙ b.numbers ∙ ap (λ y. y ++ b.second) l.0 ∙ sym c.0,
        subst (λ u. IsRelated home u (record σ { vars = set_flags ps cs fs (set_pinned q z n (set_pinned p z m σ.vars)) })) c.1 (subst (λ f. IsRelated home b.value (record σ { vars = f })) same l.1),
      )

-- ---- MUL
mul_by : (frame : Frame) (at : Span) (fl : Flags) (z : Size) (l h : Option Pinned) (y : Arg) (a b : ℕ) (σ τ1 τ2 : over.State) → value_of frame y z σ ≡ Some b → narrowed z (held_at reg.Rax l σ) ≡ Some a
    → put frame (arg.At reg.Rax l) z (product_answer z a b).low σ ≡ Some τ1 → put frame (arg.At reg.Rdx h) z (product_answer z a b).high τ1 ≡ Some τ2
    → step frame (record { span = at; action = action.Wide wide.Mul z l h y; flags = fl }) σ
    ≡ Some (record { shown = shown y σ ++ []; division = []; state = with_flags (record { span = at; action = action.Wide wide.Mul z l h y; flags = fl }) (product_answer z a b).flags τ2 })
mul_by frame at fl z l h y a b σ τ1 τ2 e f g k = rw (e, f) (rw (read_shown frame y z σ b e) (rw g (rw k refl)))

low_small : (z : Size) (a b : ℕ) → (product_answer z a b).low < modulus z
unfolding product_answer
low_small z a b = mod_below (a * b) (modulus z) (some_words z)

high_small : (z : Size) (a b : ℕ) → a < modulus z → b < modulus z → (product_answer z a b).high < modulus z
unfolding product_answer
high_small z a b h k = Rattle.jz_row_operations.proofs.Products.high_below a b (modulus z) h k

product_swapped : (z : Size) (a b : ℕ) → product_answer z b a ≡ product_answer z a b
unfolding product_answer
product_swapped z a b = let e : b * a ≡ a * b = grind arith in ap (λ n. record { high = n / modulus z; low = n % modulus z; flags = product_flags (not (n / modulus z == 0)) }) e

module _ (frame : Frame) (home : Homes) (homing : IsHoming frame home) (s : State) (σ : over.State) (related : IsRelated home s σ) where
  -- what MUL leaves, where RAX has the first operand
  record MulGoes (fl : Flags) (at : Span) (z : Size) (l h : Option Pinned) (y : Arg) (τ : over.State) (sh : List ℕ) (t : State) : Type 0 where
    pub all : List ℕ
    pub after : over.State
    pub goes : step frame (record { span = at; action = action.Wide wide.Mul z l h y; flags = fl }) τ ≡ Some (record { shown = all; division = []; state = after })
    pub agrees : IsRelated home t after
    pub shows : all ≡ sh

  mul_goes : {ls : List Lval} {vs : List (Option Value)} {dh dl : Lval} (fl : Flags) (at here : Span) (z : Size) (l h : Option Pinned) (y : Arg) (a b : ℕ) (τ : over.State) (sh ns : List ℕ) (t : State)
      → τ.cells ≡ σ.cells → τ.memory ≡ σ.memory → set_pinned l z (product_answer z a b).low τ.vars ≡ set_pinned l z (product_answer z a b).low σ.vars → value_of frame y z τ ≡ Some b → shown y τ ≡ sh → narrowed z (held_at reg.Rax l τ) ≡ Some a
      → a < modulus z → b < modulus z → AreFlags home ls (flags_of fl) all_five (product_answer z a b).flags vs → IsPinned home z dh h → IsPinned home z dl l → AreApart h l
      → all_written here (Some z) (ls ++ (dh ∷ dl ∷ [])) (vs ++ (Some (word z (product_answer z a b).high) ∷ Some (word z (product_answer z a b).low) ∷ [])) s ≡ went ns t → MulGoes fl at z l h y τ sh t
  mul_goes {ls} {vs} {dh} {dl} fl at here z l h y a b τ sh ns t cells memory vars reads shows rax ha hb flags wh wl apart run =
      let r = product_answer z a b in
      let w = words_result frame home homing here r.high r.low ns s t σ related flags wh wl (high_small z a b ha hb) (low_small z a b) run in
      let p1 = put_at frame reg.Rax l z (product_answer z a b).low τ in
      let p2 = put_at frame reg.Rdx h z (product_answer z a b).high p1.0 in
      let o' : Operation = record { span = at; action = action.Wide wide.Mul z l h y; flags = fl } in
      let same : p2.0.vars ≡ set_pinned l z (product_answer z a b).low (set_pinned h z (product_answer z a b).high σ.vars) =
      p2.2 ∙ ap (set_pinned h z (product_answer z a b).high) (p1.2 ∙ vars) ∙ pinned_crossed h l z (product_answer z a b).high (product_answer z a b).low σ.vars apart in
      record {
        all = shown y τ ++ [];
        after = with_flags o' (product_answer z a b).flags p2.0;
        goes = mul_by frame at fl z l h y a b τ p1.0 p2.0 reads rax p1.1 p2.1;
        agrees = related_same frame home homing t _ (with_flags o' (product_answer z a b).flags p2.0) w.1 (λ q. ap (λ f. set_flags (flags_of fl) all_five (product_answer z a b).flags f q) same) (p2.3 ∙ p1.3 ∙ cells) (p2.4 ∙ p1.4 ∙ memory);
        shows = append_nil (shown y τ) ∙ shows;
      }

  -- ---- RAX gets a word
  pub record Raxed (at : Span) (z : Size) (l : Option Pinned) (x y : Arg) (a : ℕ) (sh : List ℕ) : Type 0 where
    pub after : over.State
    pub steps : step frame (plain at (action.Mov z (arg.At reg.Rax l) x)) σ ≡ Some (record { shown = shown x σ ++ []; division = []; state = after })
    pub vars : after.vars ≡ set_pinned l z a σ.vars
    pub cells : after.cells ≡ σ.cells
    pub memory : after.memory ≡ σ.memory
    pub rax : narrowed z (held_at reg.Rax l after) ≡ Some a
    pub same : SameIn σ after (is_var y ++ found_by y)

  pub raxed : (at : Span) (z : Size) (l : Option Pinned) (x y : Arg) (a : ℕ) (sh : List ℕ) → a < modulus z → value_of frame x z σ ≡ Some a → IsFreeOf l y → Raxed at z l x y a sh
  raxed at z None x y a sh small reads free =
      let τ : over.State = record σ { left = set_left reg.Rax (Some (over.word z a)) σ.left } in
      let τ' : over.State = with_flags (plain at (action.Mov z (arg.At reg.Rax None) x)) no_flags τ in
      record { after = τ'; steps = move_by frame home homing s σ related at z (arg.At reg.Rax None) x a τ reads refl; vars = refl; cells = refl; memory = refl; rax = narrowed_itself z a small; same = same_itself σ (is_var y ++ found_by y) }
  raxed at z (Some p) x y a sh small reads free =
      let τ : over.State = record σ { vars = set_var p.variable (Some (over.word z a)) σ.vars; left = set_left reg.Rax None σ.left } in
      let τ' : over.State = with_flags (plain at (action.Mov z (arg.At reg.Rax (Some p)) x)) no_flags τ in
      record { after = τ'; steps = move_by frame home homing s σ related at z (arg.At reg.Rax (Some p)) x a τ reads refl; vars = refl; cells = refl; memory = refl; rax = ap (narrowed z) (set_same p.variable (Some (over.word z a)) σ.vars) ∙ narrowed_itself z a small; same = away p.variable (is_var y ++ found_by y) (Some (over.word z a)) σ τ' refl free }

  -- ---- what the source's results are, for any flags that are results
  pub record ProductResult (fl : Flags) (z : Size) (dh dl : Lval) (x y : Arg) (p q : Leaks) (here : Span) (t : State) (ns : List ℕ) : Type 0 where
    pub first : List ℕ
    pub second : List ℕ
    pub third : List ℕ
    pub left : ℕ
    pub right : ℕ
    pub numbers : ns ≡ first ++ (second ++ third)
    pub reads_left : WordRead frame home homing s σ related z x p first left
    pub reads_right : WordRead frame home homing s σ related z y q second right
    pub ls : List Lval
    pub vs : List (Option Value)
    pub flags : AreFlags home ls (flags_of fl) all_five (product_answer z left right).flags vs
    pub wrote : all_written here (Some z) (ls ++ (dh ∷ dl ∷ [])) (vs ++ (Some (word z (product_answer z left right).high) ∷ Some (word z (product_answer z left right).low) ∷ [])) s ≡ went third t

  abbrev pub mul_at : Span → Flags → Size → Option Pinned → Option Pinned → Arg → Operation
  mul_at at fl z l h y = record { span = at; action = action.Wide wide.Mul z l h y; flags = fl }

  -- the first operand is in RAX: it is the low word's variable
  product_in_place : {z : Size} {dh dl : Lval} {x y : Arg} {p q : Leaks} (fl : Flags) (l h : Option Pinned) (at here : Span) (t : State) (ns : List ℕ) → IsPinned home z dh h → IsPinned home z dl l → AreApart h l → is_pinned l x ≡ true
      → (k : ProductResult fl z dh dl x y p q here t ns) → RunsAs frame home homing s σ related (mul_at at fl z l h y ∷ []) t (shown_of q k.second ∷ [])
  product_in_place {z} {dh} {dl} {x} {y} {p} {q} fl l h at here t ns wh wl apart is k =
      let rax = pinned_reads frame z σ l x k.left is k.reads_left.reads in
      let g = mul_goes fl at here z l h y k.left k.right σ (shown_of q k.second) k.third t refl refl refl k.reads_right.reads k.reads_right.shows rax k.reads_left.small k.reads_right.small k.flags wh wl apart k.wrote in
      record { ran = _; goes = one_ran frame home homing s σ related (mul_at at fl z l h y) g.all g.after g.goes; agrees = g.agrees; shows = ap (λ v. v ∷ []) (append_nil g.all ∙ g.shows) }

  -- the second one is, and they are swapped
  product_swapped_runs : {z : Size} {dh dl : Lval} {x y : Arg} {p q : Leaks} (fl : Flags) (l h : Option Pinned) (at here : Span) (t : State) (ns : List ℕ) → IsPinned home z dh h → IsPinned home z dl l → AreApart h l → is_pinned l y ≡ true
      → (k : ProductResult fl z dh dl x y p q here t ns) → RunsAs frame home homing s σ related (mul_at at fl z l h x ∷ []) t (shown_of p k.first ∷ [])
  product_swapped_runs {z} {dh} {dl} {x} {y} {p} {q} fl l h at here t ns wh wl apart is k =
      let rax = pinned_reads frame z σ l y k.right is k.reads_right.reads in
      let same = sym (product_swapped z k.left k.right) in
      let g = mul_goes fl at here z l h x k.right k.left σ (shown_of p k.first) k.third t refl refl refl k.reads_left.reads k.reads_left.shows rax k.reads_right.small k.reads_left.small
      (subst (λ r. AreFlags home k.ls (flags_of fl) all_five r.flags k.vs) same k.flags) wh wl apart
      (subst (λ r. all_written here (Some z) (k.ls ++ (dh ∷ dl ∷ [])) (k.vs ++ (Some (word z r.high) ∷ Some (word z r.low) ∷ [])) s ≡ went k.third t) same k.wrote) in
      record { ran = _; goes = one_ran frame home homing s σ related (mul_at at fl z l h x) g.all g.after g.goes; agrees = g.agrees; shows = ap (λ v. v ∷ []) (append_nil g.all ∙ g.shows) }

  -- it is moved to RAX, with the variable or with none
  product_copied : {z : Size} {dh dl : Lval} {x y : Arg} {p q : Leaks} (fl : Flags) (l h : Option Pinned) (at here : Span) (t : State) (ns : List ℕ) → IsPinned home z dh h → IsPinned home z dl l → AreApart h l → NoName y → IsFreeOf l y
      → (k : ProductResult fl z dh dl x y p q here t ns) → RunsAs frame home homing s σ related (plain at (action.Mov z (arg.At reg.Rax l) x) ∷ mul_at at fl z l h y ∷ []) t (shown_of p k.first ∷ shown_of q k.second ∷ [])
  product_copied {z} {dh} {dl} {x} {y} {p} {q} fl l h at here t ns wh wl apart nm free k =
      let r = raxed at z l x y k.left [] k.reads_left.small k.reads_left.reads free in
      let reads : value_of frame y z r.after ≡ Some k.right = value_same σ r.after frame y z r.same (left_same σ r.after y nm) r.cells r.memory ∙ k.reads_right.reads in
      let shows : shown y r.after ≡ shown_of q k.second = shown_same σ r.after y (same_right σ r.after (is_var y) (found_by y) r.same) ∙ k.reads_right.shows in
      let vars : set_pinned l z (product_answer z k.left k.right).low r.after.vars ≡ set_pinned l z (product_answer z k.left k.right).low σ.vars = ap (set_pinned l z (product_answer z k.left k.right).low) r.vars ∙ pinned_twice l z (product_answer z k.left k.right).low k.left σ.vars in
      let g = mul_goes fl at here z l h y k.left k.right r.after (shown_of q k.second) k.third t r.cells r.memory vars reads shows r.rax k.reads_left.small k.reads_right.small k.flags wh wl apart k.wrote in
      record {
        ran = _;
        goes = two_ran frame (plain at (action.Mov z (arg.At reg.Rax l) x)) (mul_at at fl z l h y) σ (shown x σ ++ []) g.all r.after g.after r.steps g.goes;
        agrees = g.agrees;
        shows = two_same (append_nil (shown x σ ++ []) ∙ append_nil (shown x σ) ∙ k.reads_left.shows) (append_nil g.all ∙ g.shows);
      }

  -- ---- whatever way the table chooses
  way_by : (s1 s2 s3 : Bool) {z : Size} {dh dl : Lval} {x y : Arg} {p q : Leaks} (fl : Flags) (l h : Option Pinned) (acts : List Action) (at here : Span) (t : State) (ns : List ℕ) → is_pinned l x ≡ s1 → (not (is_imm x) && is_pinned l y) ≡ s2 → is_apart l y ≡ s3
      → (if s1 then Some (action.Wide wide.Mul z l h y ∷ []) else if s2 then Some (action.Wide wide.Mul z l h x ∷ []) else if s3 then Some (action.Mov z (low_at l) x ∷ action.Wide wide.Mul z l h y ∷ []) else None) ≡ Some acts
      → IsPinned home z dh h → IsPinned home z dl l → AreApart h l → NoName y → (k : ProductResult fl z dh dl x y p q here t ns)
      → Goes frame home homing s σ related (lasting at fl acts)
      (if s1 then These (numbers_from q (count_of p)) ∷ [] else if s2 then These (numbers_from p 0) ∷ [] else These (numbers_from p 0) ∷ These (numbers_from q (count_of p)) ∷ []) t ns
  way_by true s2 s3 {x = x} {y = y} {p = p} {q = q} fl l h acts at here t ns e1 e2 e3 e wh wl apart nm k = record {
    shown' = shown_of q k.second ∷ [];
    goes = subst (λ o'. RunsAs frame home homing s σ related (lasting at fl o') t (shown_of q k.second ∷ [])) (same_some _ acts e) (product_in_place fl l h at here t ns wh wl apart e1 k);
    are = at_numbers k.numbers (one_item (next_placed p q k.first k.second k.third k.reads_left.counted k.reads_right.counted));
  }
  way_by false true s3 {x = x} {y = y} {p = p} {q = q} fl l h acts at here t ns e1 e2 e3 e wh wl apart nm k = record {
    shown' = shown_of p k.first ∷ [];
    goes = subst (λ o'. RunsAs frame home homing s σ related (lasting at fl o') t (shown_of p k.first ∷ [])) (same_some _ acts e) (product_swapped_runs fl l h at here t ns wh wl apart (and_parts _ _ e2).1 k);
    are = at_numbers k.numbers (one_item (first_placed p k.first (k.second ++ k.third) k.reads_left.counted));
  }
  way_by false false true {x = x} {y = y} {p = p} {q = q} fl l h acts at here t ns e1 e2 e3 e wh wl apart nm k = record {
    shown' = shown_of p k.first ∷ shown_of q k.second ∷ [];
    goes = subst (λ o'. RunsAs frame home homing s σ related (lasting at fl o') t (shown_of p k.first ∷ shown_of q k.second ∷ [])) (same_some _ acts e) (product_copied fl l h at here t ns wh wl apart nm (free_of l y e3) k);
    are = at_numbers k.numbers (more_items (item (first_placed p k.first (k.second ++ k.third) k.reads_left.counted)) (one_item (next_placed p q k.first k.second k.third k.reads_left.counted k.reads_right.counted)));
  }
  way_by false false false fl l h acts at here t ns e1 e2 e3 e wh wl apart nm k = absurd cc

  -- MUL is there in each, and one variable is not asked for both registers
  product_apart : (places : ℕ → Place) (s1 s2 s3 : Bool) (fl : Flags) (at : Span) (z : Size) (l h : Option Pinned) (x y : Arg) (acts : List Action)
      → (if s1 then Some (action.Wide wide.Mul z l h y ∷ []) else if s2 then Some (action.Wide wide.Mul z l h x ∷ []) else if s3 then Some (action.Mov z (low_at l) x ∷ action.Wide wide.Mul z l h y ∷ []) else None) ≡ Some acts
      → AreNeedsMet places (lasting at fl acts) → AreApart l h
  product_apart places true s2 s3 fl at z l h x y acts e m = wide_apart places at fl wide.Mul z l h y (subst (λ a. AreNeedsMet places (lasting at fl a)) (sym (same_some _ acts e)) m).0
  product_apart places false true s3 fl at z l h x y acts e m = wide_apart places at fl wide.Mul z l h x (subst (λ a. AreNeedsMet places (lasting at fl a)) (sym (same_some _ acts e)) m).0
  product_apart places false false true fl at z l h x y acts e m = wide_apart places at fl wide.Mul z l h y (subst (λ a. AreNeedsMet places (lasting at fl a)) (sym (same_some _ acts e)) m).1.0
  product_apart places false false false fl at z l h x y acts e m = absurd cc

  pub product_goes : (places : ℕ → Place) {z : Size} {dh dl : Lval} {x y : Arg} {p q : Leaks} (fl : Flags) (l h : Option Pinned) (acts : List Action) (at here : Span) (t : State) (ns : List ℕ) → AreNeedsMet places (lasting at fl acts) → wide_code z h l x y ≡ Some acts → IsPinned home z dh h → IsPinned home z dl l → NoName y
      → ProductResult fl z dh dl x y p q here t ns → Goes frame home homing s σ related (lasting at fl acts) (wide_shown l x y p q) t ns
  product_goes places {z = z} {x = x} {y = y} fl l h acts at here t ns met e wh wl nm k =
      let apart = turned_apart l h (product_apart places (is_pinned l x) (not (is_imm x) && is_pinned l y) (is_apart l y) fl at z l h x y acts e met) in
      way_by (is_pinned l x) (not (is_imm x) && is_pinned l y) (is_apart l y) fl l h acts at here t ns refl refl refl e wh wl apart nm k

  -- ---- `h, l = a * b`
  no_list : (z : Size) (a b : ℕ) → AreFlags home [] (flags_of no_flag) all_five (product_answer z a b).flags []
  unfolding product_answer
  no_list z a b = unlisted true _ (unlisted true _ (unlisted true _ (unlisted true _ (unlisted true _ no_more))))

  product_source : (z : Size) (a c : Expr) (at : Span) → with_two o.Mul a c at z s ≡ and_then (word_in at z a s) (λ m. and_then (word_in at z c s) (λ n. went [] (Some (word z (product_answer z m n).high) ∷ Some (word z (product_answer z m n).low) ∷ [])))
  unfolding product_answer
  product_source z a c at = refl

  pub product_results : {z : Size} {dh dl : Lval} {a c : Expr} {x y : Arg} {p q : Leaks} (at here : Span) (t : State) (ns : List ℕ) → option_or (left_sizes (dh ∷ dl ∷ [])) (own_size (expr.Bin o.Mul a c at)) ≡ Some z
      → IsArg home z a x p → IsArg home z c y q → assigned (dh ∷ dl ∷ []) None (expr.Bin o.Mul a c at) None here s ≡ went ns t → ProductResult no_flag z dh dl x y p q here t ns
  product_results {z} {dh} {dl} {a} {c} at here t ns size ia ic run =
      let g = two_lefts (expr.Bin o.Mul a c at) here s t ns size run in
      let came = two_words o.Mul c at here z s g.first g.rs ia g.came in
      let u = two_read frame home homing s σ related at (λ m n. Some (word z (product_answer z m n).high) ∷ Some (word z (product_answer z m n).low) ∷ []) g.rs g.first ia ic (sym (product_source z a c at) ∙ came) in
      record {
        first = u.first;
        second = u.second;
        third = g.third;
        left = u.left;
        right = u.right;
        numbers = joined u.first u.second g.third ns (g.numbers ∙ ap (λ y. y ++ g.third) u.numbers);
        reads_left = u.reads_left;
        reads_right = u.reads_right;
        ls = [];
        vs = [];
        flags = no_list z u.left u.right;
        wrote = subst (λ y. all_written here (Some z) (dh ∷ dl ∷ []) y s ≡ went g.third t) u.results g.wrote;
      }
