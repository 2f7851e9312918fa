-- Operations of the table of flags are what the placing of variables asks.
use Rattle.std.proofs.Common.{◌≡◌, ℕ, ◌<◌, Bool, true, false, List, [], ◌∷◌, ◌++◌, length, Option, Some, None, refl, sym, ap, ◌∙◌, subst}
use Rattle.std.specs.Prelude.{nat_eq, not, ◌||◌, IsTrue, slice_index_or, if◌then◌else◌, All, ⊤}
use Rattle.std.specs.Option.{option_to_list}
use Rattle.std.proofs.lemmas.Bool.{eqb-true}
use Rattle.std.proofs.lemmas.List.Elements.{All-nil, All-cons, All-head, All-tail}
use Rattle.std.proofs.lemmas.List.Folds.{list_any-append}
use Rattle.jz_io.specs.declared.span.Span.{Span}
use Rattle.jz_words.specs.declared.size.Size.{Size}
use Rattle.x64_insn.specs.declared.types.Alu.{Alu}
use Rattle.x64_insn.specs.declared.types.One.{One}
use Rattle.x64_insn.specs.declared.types.One.TheVariants as one
use Rattle.x64_insn.specs.declared.types.Place.{Place}
use Rattle.x64_insn.specs.declared.types.Shift.{Shift}
use Rattle.x64_insn.specs.declared.types.Wide.{Wide}
use Rattle.x64_insn.specs.declared.types.Wide.TheVariants as wide_op
use Rattle.x64_insn.specs.Rows.{writes_operand}
use Rattle.jz_tree.specs.declared.intrinsic.Intrinsic.{Intrinsic}
use Rattle.jz_tree.specs.declared.expr.BinOp.{BinOp}
use Rattle.jz_tree.specs.declared.expr.Expr.{Expr}
use Rattle.jz_tree.specs.declared.stmt.Lval.{Lval}
use Rattle.jz_meaning.specs.Assignments.{left_span}
use Rattle.jz_meaning.specs.Statements as statements
use Rattle.jz_meaning.specs.Values.{key_of, ref_of}
use Rattle.jz_ir.specs.declared.code.Kind.{Kind}
use Rattle.jz_ir.specs.declared.code.Kind.TheVariants.{Word}
use Rattle.jz_ir.specs.Order.{number_of, has_place}
use Rattle.jz_ir.specs.Paths.{among}
use Rattle.jz_operations.specs.declared.operation.Pinned.{Pinned}
use Rattle.jz_operations.specs.declared.operation.Arg.{Arg}
use Rattle.jz_operations.specs.declared.operation.Arg.TheVariants as arg
use Rattle.jz_operations.specs.declared.operation.Condition.{Condition}
use Rattle.jz_operations.specs.declared.operation.Condition.TheVariants as condition
use Rattle.jz_operations.specs.declared.operation.Action.{Action}
use Rattle.jz_operations.specs.declared.operation.Action.TheVariants as action
use Rattle.jz_operations.specs.declared.operation.Flags.{Flags}
use Rattle.jz_operations.specs.declared.operation.Operation.{Operation}
use Rattle.jz_operations.specs.Rows.{Output, low_at, high_at, outputs, changes, flags_of}
use Rattle.jz_operations.specs.Reading.{left_in, five_flags, flags_left}
use Rattle.jz_encodable.specs.Encodable.{CanEncode}
use Rattle.jz_change.specs.declared.change.Numbers.{Numbers}
use Rattle.jz_place.specs.Sorts.{IsSorted}
use Rattle.jz_homes.specs.Homes.{Homes}
use Rattle.jz_homes.specs.Operands.{Leaks, IsArg, a_word, a_number, a_scalar, a_cell, a_load}
use Rattle.jz_row_operations.specs.Codes.{no_flag, plain, lasting}
use Rattle.jz_row_operations.specs.Table.{is_imm, nothing, one_code}
use Rattle.jz_every_row.specs.Results as results
use Rattle.jz_every_row.specs.Results.{begins_at, carry_alone}
use Rattle.jz_every_row.specs.Wide.{is_quotient, wide_code, quotient_code}
use Rattle.jz_every_row.specs.Conditions.{IsCondition, by_comparison, by_flag}
use Rattle.jz_every_row.specs.Instructions.{count_code, HasInstruction, two_operands, with_carry, minus, steps, complement, swap, address, compares, shifts, rotates, times, times_by, wide_product, division}
use Rattle.jz_every_row.specs.Rows.{LowersFlags, carry_results, wide_products, quotients, choices, instructions, sets}
use Rattle.jz_lowered.specs.Functions.{AreKinds}
use Rattle.jz_lowered.proofs.Accesses.{accessed_once}
use Rattle.jz_every_row.proofs.Codes.{one_all, brought_all, count_all, wide_all, divide_all, divide_two_all}
use Rattle.jz_lowered.proofs.Sorted.{no_flags_there, AreWords, IsWritten, AllSorted, written, row_sorted, compared_sorted, moved_sorted}

-- ---- places that are left, whatever flags become variables
abbrev is_rsp : Place → Bool
is_rsp p = nat_eq (number_of p) 20

neither : (a b : Bool) → a ≡ false → b ≡ false → (a || b) ≡ false
neither true b e f = absurd cc
neither false b e f = f

first_none : (a b : Bool) → (a || b) ≡ false → a ≡ false
first_none true b e = absurd cc
first_none false b e = refl

both_there : (ps qs : List Place) → has_place ps 20 ≡ false → has_place qs 20 ≡ false → has_place (ps ++ qs) 20 ≡ false
both_there ps qs e f = list_any-append is_rsp ps qs ∙ neither (has_place ps 20) (has_place qs 20) e f

first_there : (ps qs : List Place) → has_place (ps ++ qs) 20 ≡ false → has_place ps 20 ≡ false
first_there ps qs e = first_none (has_place ps 20) (has_place qs 20) (sym (list_any-append is_rsp ps qs) ∙ e)

module _ (home : Homes) (kinds : List Kind) (are : AreKinds home kinds) where
  abbrev IsWord : ℕ → Type 0
  IsWord v = (v < length kinds) × (slice_index_or kinds v Word ≡ Word)

  abbrev AreIn : List ℕ → Type 0
  AreIn [] = ⊤
  AreIn (v ∷ vs) = IsWord v × AreIn vs

  word_by : (b : Bool) (n v : ℕ) (rest : Bool) → nat_eq n v ≡ b → IsWord n → (IsTrue rest → IsWord v) → IsTrue (b || rest) → IsWord v
  word_by true n v rest e h next t = subst IsWord (eqb-true n v e) h
  word_by false n v rest e h next t = next t

  words_in : (ns : List ℕ) → AreIn ns → (v : ℕ) → IsTrue (among ns v) → IsWord v
  words_in [] h v t = absurd (let k : false ≡ true = t in cc)
  words_in (n ∷ ns) h v t = word_by (nat_eq n v) n v (among ns v) refl h.0 (words_in ns h.1 v) t

  -- ---- what an action writes
  record AreOut (os : List Output) : Type 0 where
    words : AreWords home kinds are os
    stack : has_place (left_in os) 20 ≡ false

  abbrev IsOut : Action → Type 0
  IsOut a = AreOut (outputs a)

  none_out : AreOut []
  none_out = record { words = words_in [] tt; stack = refl }

  one_out : (z : Size) (b : Arg) → IsWritten home kinds are z b → AreOut ((z, b) ∷ [])
  one_out z b w = record { words = w.words; stack = ap (λ l. has_place l 20) w.left }

  if_out : (c : Bool) (z : Size) (b : Arg) → IsWritten home kinds are z b → AreOut (if c then (z, b) ∷ [] else [])
  if_out true z b w = one_out z b w
  if_out false z b w = none_out

  alu_out : (op : Alu) (z : Size) (b u : Arg) (p : Option Pinned) → IsWritten home kinds are z b → IsOut (action.Alu op z b u p)
  alu_out op z b u p w = if_out (writes_operand op) z b w

  -- words in RAX and RDX
  abbrev PinnedWord : Option Pinned → Type 0
  PinnedWord None = ⊤
  PinnedWord (Some k) = IsWord k.variable

  pinned_word : {z : Size} {d : Lval} {k : Option Pinned} → results.IsPinned home z d k → PinnedWord k
  pinned_word (results.no_word at) = tt
  pinned_word {z} (results.a_word x k kd h span) = are.words (key_of (ref_of x)) k.variable z h

  low_out : (z : Size) (l : Option Pinned) → PinnedWord l → AreOut ((z, low_at l) ∷ [])
  low_out z None h = record { words = words_in [] tt; stack = refl }
  low_out z (Some k) h = record { words = words_in (k.variable ∷ []) (h, tt); stack = refl }

  high_out : (z : Size) (h : Option Pinned) → PinnedWord h → AreOut ((z, high_at h) ∷ [])
  high_out z None k = record { words = words_in [] tt; stack = refl }
  high_out z (Some p) k = record { words = words_in (p.variable ∷ []) (k, tt); stack = refl }

  wide_out : (op : Wide) (z : Size) (l h : Option Pinned) (u : Arg) → PinnedWord l → PinnedWord h → IsOut (action.Wide op z l h u)
  wide_out op z None None u a b = record { words = words_in [] tt; stack = refl }
  wide_out op z None (Some q) u a b = record { words = words_in (q.variable ∷ []) (b, tt); stack = refl }
  wide_out op z (Some p) None u a b = record { words = words_in (p.variable ∷ []) (a, tt); stack = refl }
  wide_out op z (Some p) (Some q) u a b = record { words = words_in (p.variable ∷ q.variable ∷ []) (a, (b, tt)); stack = refl }

  -- an operand that is no destination
  read_written : {z : Size} {e : Expr} {a : Arg} {p : Leaks} → IsArg home z e a p → IsWritten home kinds are z a
  read_written {z} (a_word x n h) = record { words = words_in (n ∷ []) (are.words (key_of (ref_of x)) n z h, tt); left = refl }
  read_written (a_number i at) = record { words = words_in [] tt; left = refl }
  read_written (a_scalar x w h) = record { words = words_in [] tt; left = refl }
  read_written (a_cell x e n w t b i cells is at) = record { words = words_in [] tt; left = refl }
  read_written (a_load a t m size is at) = record { words = words_in [] tt; left = refl }

  -- ---- the operations of actions
  sorted_with : (at : Span) (a : Action) (fl : Flags) → IsOut a → CanEncode a → IsSorted kinds (record { span = at; action = a; flags = fl })
  sorted_with at a fl w can = record {
    words = w.words;
    stack = both_there (left_in (outputs a)) (flags_left (flags_of fl) (changes a) five_flags) w.stack (no_flags_there (flags_of fl) (changes a) five_flags);
    one = accessed_once a can;
  }

  sorted_all : (at : Span) (fl : Flags) (acts : List Action) → All IsOut acts → All CanEncode acts → AllSorted home kinds are (lasting at fl acts)
  sorted_all at fl [] w can = tt
  sorted_all at fl (a ∷ []) w can = (sorted_with at a fl (All-head IsOut a [] w) (All-head CanEncode a [] can), tt)
  sorted_all at fl (a ∷ b ∷ more) w can =
      (sorted_with at a no_flag (All-head IsOut a (b ∷ more) w) (All-head CanEncode a (b ∷ more) can), sorted_all at fl (b ∷ more) (All-tail IsOut a (b ∷ more) w) (All-tail CanEncode a (b ∷ more) can))

  out_of : (at : Span) (a : Action) → IsSorted kinds (plain at a) → IsOut a
  out_of at a s = record { words = s.words; stack = first_there (left_in (outputs a)) (flags_left (flags_of no_flag) (changes a) five_flags) s.stack }

  outs_of : (at : Span) (acts : List Action) → AllSorted home kinds are (lasting at no_flag acts) → All IsOut acts
  outs_of at [] h = All-nil IsOut
  outs_of at (a ∷ []) h = All-cons IsOut a [] (out_of at a h.0) (All-nil IsOut)
  outs_of at (a ∷ b ∷ more) h = All-cons IsOut a (b ∷ more) (out_of at a h.0) (outs_of at (b ∷ more) h.1)

  -- ---- codes
  one_outs : (kind : One) (z : Size) (b x : Arg) (acts : List Action) → IsWritten home kinds are z b → one_code kind z b x ≡ Some acts → All IsOut acts
  one_outs kind z b x acts w e = let o = one_out z b w in brought_all IsOut false (λ u. action.One kind z b) z b x nothing acts o o o e

  count_outs : (kind : Shift) (z : Size) (b x : Arg) (n : Option Pinned) (m : ℕ) (acts : List Action) → IsWritten home kinds are z b → count_code kind z b x n m ≡ Some acts → All IsOut acts
  count_outs kind z b x n m acts w e = let o = one_out z b w in count_all IsOut kind z b x n m acts o o (λ k f. o) e

  wide_outs : (z : Size) (h l : Option Pinned) (x y : Arg) (acts : List Action) → PinnedWord h → PinnedWord l → wide_code z h l x y ≡ Some acts → All IsOut acts
  wide_outs z h l x y acts p q e = wide_all IsOut z h l x y acts (wide_out wide_op.Mul z l h y q p) (wide_out wide_op.Mul z l h x q p) (low_out z l q) e

  if_word : (b : Bool) (k : Pinned) → IsWord k.variable → PinnedWord (if b then Some k else None) × PinnedWord (if b then None else Some k)
  if_word true k h = (h, tt)
  if_word false k h = (tt, h)

  quotient_outs : (o : BinOp) (w : Wide) (z : Size) (k : Pinned) (x y : Arg) → IsWord k.variable → All IsOut (quotient_code o w z k x y)
  quotient_outs o w z k x y h =
      let p = if_word (is_quotient o) k h in
      let low : Option Pinned = if is_quotient o then Some k else None in
      let high : Option Pinned = if is_quotient o then None else Some k in
      divide_all IsOut w z low high x y (low_out z low p.0) (high_out z high p.1) (high_out z high p.1) (wide_out w z low high y p.0 p.1)

  instruction_outs : {z : Size} {i : Intrinsic} {to : List Lval} {args : List Expr} {fl : Flags} {acts : List Action} {items : List Numbers} → HasInstruction home z i to args fl acts items → All IsOut acts
  instruction_outs {z} (two_operands {k} {x} {y} {b} {acts} n flags ia ic id code) =
      let w = written home kinds are id in
      brought_all IsOut k.1 (λ u. action.Alu k.0 z b u None) z b x y acts (one_out z b w) (alu_out k.0 z b x None w) (alu_out k.0 z b y None w) code
  instruction_outs {z} (with_carry {k} {x} {y} {b} {acts} f c n flags ia ic id flag span code) =
      let w = written home kinds are id in
      brought_all IsOut k.1 (λ u. action.Alu k.0 z b u (Some c)) z b x y acts (one_out z b w) (alu_out k.0 z b x (Some c) w) (alu_out k.0 z b y (Some c) w) code
  instruction_outs {z} (minus {x} {b} {acts} flags ia id code) = one_outs one.Neg z b x acts (written home kinds are id) code
  instruction_outs {z} (steps {k} {x} {b} {acts} n flags ia id code) = one_outs k z b x acts (written home kinds are id) code
  instruction_outs {z} (complement {x} {b} {acts} ia id code) = one_outs one.Not z b x acts (written home kinds are id) code
  instruction_outs {z} (swap {x} {v} {acts} long ia id code) =
      let o = one_out z (arg.Var v) (written home kinds are id) in
      brought_all IsOut false (λ u. action.Bswap z v) z (arg.Var v) x nothing acts o o o code
  instruction_outs (address {m} {v} sum lea id) = one_all IsOut (action.Lea v m) (one_out _ (arg.Var v) (written home kinds are id))
  instruction_outs {z} (compares {k} {x} {y} n flags ia ic ni na) = one_all IsOut (action.Alu k z x y None) (alu_out k z x y None (read_written ia))
  instruction_outs {z} (shifts {k} {x} {b} {n} {m} {acts} name flags ia count id code) = count_outs k z b x n m acts (written home kinds are id) code
  instruction_outs {z} (rotates {k} {x} {b} {n} {m} {acts} name flags ia count id code) = count_outs k z b x n m acts (written home kinds are id) code
  instruction_outs {z} (times {x} {y} {v} {acts} wide flags ia ic id ni code) =
      let o = one_out z (arg.Var v) (written home kinds are id) in
      brought_all IsOut (not (is_imm x)) (action.Imul z v) z (arg.Var v) x y acts o o o code
  instruction_outs {z} (times_by {x} {i = m} {v} wide flags ia ic id ni) = one_all IsOut (action.ImulBy z v x m) (one_out z (arg.Var v) (written home kinds are id))
  instruction_outs {z} (wide_product {hk} {lk} {x} {y} {acts} long flags hp lp ia ic ni code) = wide_outs z hk lk x y acts (pinned_word hp) (pinned_word lp) code
  instruction_outs {z} (division {qk} {rk} {x} {y} {w} long flags qp rp ihi ilo ic ni far_q far_w far_r) =
      let p = pinned_word qp in
      let q = pinned_word rp in
      divide_two_all IsOut z qk rk x y w (low_out z qk p) (high_out z rk q) (wide_out wide_op.Div z qk rk w p q)

  -- ---- statements
  set_sorted : (at : Span) (compare : Option Operation) (e : Expr) (c : Condition) (ps : List (Leaks × Leaks)) (b : Arg) → IsCondition home at e compare c ps → IsSorted kinds (plain at (action.Set c b)) → AllSorted home kinds are (option_to_list compare ++ (plain at (action.Set c b) ∷ []))
  set_sorted at compare e c ps b (by_comparison h) s = (compared_sorted home kinds are h, (s, tt))
  set_sorted at compare e c ps b (by_flag h) s = (s, tt)

  pub flags_sorted : (o : statements.Operation) (os : List Operation) (items : List Numbers) → LowersFlags home o os items → AllSorted home kinds are os
  flags_sorted o os items (carry_results {k} {acts} {at} whole layer size flag row can) = sorted_all at (carry_alone k) acts (outs_of at acts (row_sorted home kinds are at row can)) can
  flags_sorted o os items (wide_products {z} {hk} {lk} {x} {y} {acts} {at} here whole size long hp lp ia ib ni code can) = sorted_all at no_flag acts (wide_outs z hk lk x y acts (pinned_word hp) (pinned_word lp) code) can
  flags_sorted o os items (quotients {o = u} {w} {z} {k} {x} {y} {at} here whole div size long pin ia ib ni apart can) = sorted_all at no_flag (quotient_code u w z k x y) (quotient_outs u w z k x y (pinned_word pin)) can
  flags_sorted o os items (choices {v} {y} {n} {m} {d} {at} z wide kz h ie ni flag can) = (moved_sorted home kinds are at (condition.Flag n d) z m y (key_of (ref_of v)) h, tt)
  flags_sorted o os items (instructions {to} {fl} {acts} {at} text size row can) = sorted_all (begins_at to at) fl acts (instruction_outs row) can
  flags_sorted o os items (sets {d} {e} {b} {compare} {c} {ps} text is_set id cond can) =
      set_sorted (left_span d) compare e c ps b cond (sorted_with (left_span d) (action.Set c b) no_flag (one_out _ b (written home kinds are id)) can)
