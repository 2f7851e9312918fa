-- Functions over variables are what machine code asks of them.
use Rattle.std.proofs.Common.{◌≡◌, ℕ, zero, suc, ◌<◌, Bool, true, false, List, [], ◌∷◌, ◌++◌, length, map, Option, Some, None, sym, ap, subst, arith}
use Rattle.std.specs.Prelude.{slice_index_or, All, Contains, ⊤}
use Rattle.std.specs.List.{AllByRecursion}
use Rattle.std.specs.Option.{option_to_list}
use Rattle.std.proofs.lemmas.List.Elements.{All-nil, All-cons, All-head, All-tail, All-append, All-map}
use Rattle.jz_io.specs.declared.span.Span.{Span}
use Rattle.x64_insn.specs.declared.types.Alu.TheVariants as alu
use Rattle.x64_insn.specs.declared.types.Cond.{Cond}
use Rattle.x64_insn.specs.declared.types.Reg.{Reg}
use Rattle.x64_insn.specs.declared.types.Reg.TheVariants as reg
use Rattle.x64_insn.specs.Table.{number_of}
use Rattle.jz_tree.specs.declared.expr.Expr.{Expr}
use Rattle.jz_tree.specs.declared.expr.Var.{Var}
use Rattle.jz_tree.specs.declared.program.Fun.{Fun}
use Rattle.jz_runs.specs.Trees.{done, op, quiet, choose, loop, each, call}
use Rattle.jz_meaning.specs.Assignments.{left_span}
use Rattle.jz_meaning.specs.Statements.{Block}
use Rattle.jz_meaning.specs.Statements as statements
use Rattle.jz_meaning.specs.Values.{key_of, ref_of}
use Rattle.jz_ir.specs.declared.code.Kind.{Kind}
use Rattle.jz_ir.specs.declared.code.Need.{Need}
use Rattle.jz_ir.specs.declared.code.Op.{Op}
use Rattle.jz_ir.specs.Places.{no_op, Below}
use Rattle.jz_ir.specs.Tree as ir
use Rattle.jz_ir.specs.Tree.{Frame, at, test, at_test, states, op_of, ops_of}
use Rattle.jz_live.specs.Lives.{TreeBelow, TestBelow}
use Rattle.jz_operations.specs.declared.operation.Arg.{Arg}
use Rattle.jz_operations.specs.declared.operation.Condition.{Condition}
use Rattle.jz_operations.specs.declared.operation.Condition.TheVariants as condition
use Rattle.jz_operations.specs.declared.operation.Flags.{Flags}
use Rattle.jz_operations.specs.declared.operation.Action.{Action}
use Rattle.jz_operations.specs.declared.operation.Action.TheVariants as action
use Rattle.jz_operations.specs.declared.operation.Operation.{Operation}
use Rattle.jz_operations.specs.Rows.{flags_of}
use Rattle.jz_operations.specs.Reading.{seen_of}
use Rattle.jz_encodable.specs.Encodable.{IsEncodable, CanEncode}
use Rattle.jz_encodable.proofs.Spelling.{encodable}
use Rattle.jz_placing.specs.Variables.{Asked, always, asks, Body, test_seen, test_of}
use Rattle.jz_placing.specs.Flow.{asked_op, flow, then_ops}
use Rattle.jz_change.specs.Changes.{Change}
use Rattle.jz_change.specs.declared.change.Numbers.{Numbers}
use Rattle.jz_pass.specs.Operations.{in_turn}
use Rattle.jz_pass.specs.Unrolling.{Unrolls, u_done, u_op, u_quiet, u_if, u_arm, u_while, u_once, u_for}
use Rattle.jz_place.specs.declared.tree.Ir.{Ir}
use Rattle.jz_place.specs.declared.tree.Passed.{Passed}
use Rattle.jz_place.specs.Bodies.{body_of, need_by, entry_op, return_op, returns_of, whole_of}
use Rattle.jz_place.specs.Sorts.{AreSorted}
use Rattle.jz_correct.specs.Registers.{argument_registers, result_registers}
use Rattle.jz_correct.specs.Frames.{preserved_registers}
use Rattle.jz_codable.specs.Ready.{TestEncodable, HasForm, AreEncodable, IsShort, IsReady}
use Rattle.jz_homes.specs.Homes.{Homes}
use Rattle.jz_homes.specs.Operands.{Leaks}
use Rattle.jz_row_operations.specs.Codes.{no_flag, plain, lasting}
use Rattle.jz_row_operations.specs.Lowering.{IsCompared, compares, denies, Lowers, sets, sets_if, LowersTest, tests, LowersLoopTest, tests_each, never_false}
use Rattle.jz_every_row.specs.Results.{begins_at, carry_alone}
use Rattle.jz_every_row.specs.Wide.{quotient_code}
use Rattle.jz_every_row.specs.Conditions.{IsCondition, by_comparison as with_comparison, by_flag as with_flag, LowersFlagTest, asks_flag}
use Rattle.jz_every_row.specs.Rows.{LowersFlags, carry_results, wide_products, quotients, choices, instructions, sets as sets_byte}
use Rattle.jz_every_row.specs.Statements.{Makes, by_row, by_flags, MakesTest, by_comparison, by_flag, MakesLoopTest, by_loop_test, by_loop_flag}
use Rattle.jz_every_row.specs.Bodies.{lowering, without_marks}
use Rattle.jz_lowered.specs.Functions.{AreKinds, ArePassed, none_passed, one_passed, IsLoweredFun}
use Rattle.jz_lowered.specs.Laws.{AreFormed}
use Rattle.jz_lowered.proofs.SortedBodies.{bodies_sorted}
use Rattle.jz_lowered.proofs.Within.{IsNamed, ArePinned, none_pinned, IsWithinOne, below_with, alu_within, cmov_within, set_within, arg_named, dest_named, row_within}
use Rattle.jz_lowered.proofs.FlagWithin.{word_under, carry_under, condition_under, quotient_within, wide_code_within, instruction_within}

-- ---- operations that can be encoded, whose variables have kinds
pub record IsCoded (n : ℕ) (o : Operation) : Type 0 where
  pub below : Below n (seen_of o)
  pub encodes : IsEncodable o

module _ (n : ℕ) where
  abbrev AreCoded : List Operation → Type 0
  AreCoded [] = ⊤
  AreCoded (o ∷ os) = IsCoded n o × AreCoded os

  abbrev TestCoded : Asked → Type 0
  TestCoded always = ⊤
  TestCoded (asks (Some o) k) = IsCoded n o
  TestCoded (asks None k) = Below n (test_seen None k)

  -- and a `while` that is written without a body has none
  abbrev BodyCoded : Body → Type 0
  BodyCoded done = ⊤
  BodyCoded (op o r) = IsCoded n o × BodyCoded r
  BodyCoded (quiet o r) = BodyCoded r
  BodyCoded (choose c a b r) = TestCoded c × BodyCoded a × BodyCoded b × BodyCoded r
  BodyCoded (loop q p c b r) = BodyCoded p × TestCoded c × HasForm q b × BodyCoded b × BodyCoded r
  BodyCoded (each f b r) = absurd f
  BodyCoded (call c b r) = absurd c

  coded_with : (here : Span) (a : Action) (fl : Flags) → ArePinned n (flags_of fl) → IsWithinOne n a → CanEncode a → IsCoded n (record { span = here; action = a; flags = fl })
  coded_with here a fl f w can = record { below = below_with n here a fl f w; encodes = encodable (record { span = here; action = a; flags = fl }) can }

  one_coded : (here : Span) (a : Action) → IsWithinOne n a → CanEncode a → IsCoded n (plain here a)
  one_coded here a w can = coded_with here a no_flag (none_pinned n) w can

  all_coded : (here : Span) (fl : Flags) (acts : List Action) → ArePinned n (flags_of fl) → All (IsWithinOne n) acts → All CanEncode acts → AreCoded (lasting here fl acts)
  all_coded here fl [] f w can = tt
  all_coded here fl (a ∷ []) f w can = (coded_with here a fl f (All-head (IsWithinOne n) a [] w) (All-head CanEncode a [] can), tt)
  all_coded here fl (a ∷ b ∷ more) f w can =
      (one_coded here a (All-head (IsWithinOne n) a (b ∷ more) w) (All-head CanEncode a (b ∷ more) can), all_coded here fl (b ∷ more) f (All-tail (IsWithinOne n) a (b ∷ more) w) (All-tail CanEncode a (b ∷ more) can))

  turn_coded : (os : List Operation) (u : Body) → AreCoded os → BodyCoded (without_marks u) → BodyCoded (without_marks (in_turn os u))
  turn_coded [] u h k = k
  turn_coded (o ∷ os) u h k = (h.0, turn_coded os u h.1 k)

  no_turn_coded : (os : List Operation) (u : Body) → os ≡ [] → BodyCoded (without_marks u) → BodyCoded (without_marks (in_turn os u))
  no_turn_coded os u e k = subst (λ l. BodyCoded (without_marks (in_turn l u))) (sym e) k

  -- ---- what a body with coded operations has
  test_encodable : (c : Asked) → TestCoded c → TestEncodable c
  test_encodable always h = tt
  test_encodable (asks (Some o) k) h = h.encodes
  test_encodable (asks None k) h = tt

  body_encodable : (u : Body) → BodyCoded u → AreEncodable u
  body_encodable done h = tt
  body_encodable (op o r) h = let k = h.0 in (k.encodes, body_encodable r h.1)
  body_encodable (quiet o r) h = body_encodable r h
  body_encodable (choose c a b r) h = (test_encodable c h.0, body_encodable a h.1, body_encodable b h.2, body_encodable r h.3)
  body_encodable (loop q p c b r) h = (body_encodable p h.0, test_encodable c h.1, h.2, body_encodable b h.3, body_encodable r h.4)
  body_encodable (each f b r) h = absurd f
  body_encodable (call c b r) h = absurd c

  none_below : Below n no_op
  none_below = record { reads = All-nil (λ v. v < n); writes = All-nil (λ v. v < n); needs = All-nil (λ k. k.variable < n) }

  asked_below : (c : Asked) → TestCoded c → Below n (asked_op (test_of c))
  asked_below always h = none_below
  asked_below (asks (Some o) k) h = h.below
  asked_below (asks None k) h = h

  test_below : (c : Asked) → TestCoded c → TestBelow n (test_of c)
  test_below always h = tt
  test_below (asks (Some o) k) h = h.below
  test_below (asks None k) h = h

  flow_below : (u : Body) (rest : ir.Tree) → BodyCoded u → TreeBelow n rest → TreeBelow n (flow seen_of test_of u rest)
  flow_below done rest h k = k
  flow_below (op o r) rest h k = let w = h.0 in (w.below, flow_below r rest h.1 k)
  flow_below (quiet o r) rest h k = flow_below r rest h k
  flow_below (choose c a b r) rest h k = (asked_below c h.0, flow_below a ir.done h.1 tt, flow_below b ir.done h.2 tt, flow_below r rest h.3 k)
  flow_below (loop q p c b r) rest h k = (flow_below p ir.done h.0 tt, test_below c h.1, flow_below b ir.done h.3 tt, flow_below r rest h.4 k)
  flow_below (each f b r) rest h k = absurd f
  flow_below (call c b r) rest h k = absurd c

  -- ---- the operations of a tree one by one
  abbrev StateBelow : List Frame → Type 0
  StateBelow s = Below n (op_of s)

  at_below : (p : ir.Tree) (c : Option Op) (b r : ir.Tree) (k : List Frame) → TestBelow n c → All StateBelow (at_test p c b r k)
  at_below p None b r k h = All-nil StateBelow
  at_below p (Some c) b r k h = All-cons StateBelow (test p (Some c) b r ∷ k) [] h (All-nil StateBelow)

  states_below : (t : ir.Tree) (k : List Frame) → TreeBelow n t → All StateBelow (states t k)
  states_below ir.done k h = All-nil StateBelow
  states_below (ir.op o t) k h = All-cons StateBelow (at (ir.op o t) ∷ k) (states t k) h.0 (states_below t k h.1)
  states_below (ir.choose c x y r) k h =
      let f : List Frame = at r ∷ k in
      All-cons StateBelow (at (ir.choose c x y r) ∷ k) (states x f ++ (states y f ++ states r k)) h.0
      (All-append StateBelow (states x f) (states y f ++ states r k) (states_below x f h.1) (All-append StateBelow (states y f) (states r k) (states_below y f h.2) (states_below r k h.3)))
  states_below (ir.loop p c b r) k h =
      let kp : List Frame = test p c b r ∷ k in
      let kb : List Frame = at (ir.loop p c b r) ∷ k in
      All-append StateBelow (states p kp) (at_test p c b r k ++ (states b kb ++ states r k)) (states_below p kp h.0)
      (All-append StateBelow (at_test p c b r k) (states b kb ++ states r k) (at_below p c b r k h.1) (All-append StateBelow (states b kb) (states r k) (states_below b kb h.2) (states_below r k h.3)))

  ops_below : (t : ir.Tree) → TreeBelow n t → All (Below n) (ops_of t)
  ops_below t h = All-map (Below n) op_of (states t []) (states_below t [] h)

-- ---- registers that are not preserved
absent : (rs : List Reg) (r : Reg) → AllByRecursion (λ q. number_of q ≡ number_of r → ⊥) rs → (k : ℕ) → k < length rs → slice_index_or rs k r ≡ r → ⊥
absent [] r h k lt e = omega (arith, lt)
absent (q ∷ rs) r h zero lt e = h.0 (ap number_of e)
absent (q ∷ rs) r h (suc k) lt e = absent rs r h.1 k (omega (arith, lt)) e

abbrev IsFree : Reg → Type 0
IsFree r = Contains preserved_registers r → ⊥

rax_free : IsFree reg.Rax
rax_free h = absent preserved_registers reg.Rax (λ k. omega (arith, k), (λ k. omega (arith, k), (λ k. omega (arith, k), (λ k. omega (arith, k), (λ k. omega (arith, k), (λ k. omega (arith, k), tt)))))) h.0 h.1 h.2

rdx_free : IsFree reg.Rdx
rdx_free h = absent preserved_registers reg.Rdx (λ k. omega (arith, k), (λ k. omega (arith, k), (λ k. omega (arith, k), (λ k. omega (arith, k), (λ k. omega (arith, k), (λ k. omega (arith, k), tt)))))) h.0 h.1 h.2

passed_free : (home : Homes) {rs : List Reg} {xs : List Var} {ps : List Passed} → ArePassed home rs xs ps → AllByRecursion IsFree rs → AllByRecursion (λ p. IsFree p.reg) ps
passed_free home none_passed h = tt
passed_free home (one_passed z there span is next) h = (subst IsFree (sym is) h.0, passed_free home next h.1)

-- ---- functions
module _ (home : Homes) (kinds : List Kind) (are : AreKinds home kinds) where
  abbrev top : ℕ
  top = length kinds

  compared_coded : {here : Span} {e : Expr} {o : Operation} {c : Cond} {p q : Leaks} → IsCompared home here e o c p q → IsCoded top o
  compared_coded {here} (compares {z = z} {x = x} {y = y} there is size ia ib ni can) =
      one_coded top here (action.Alu alu.Cmp z x y None) (alu_within top alu.Cmp z x y None (arg_named home kinds are ia) (arg_named home kinds are ib) tt) can
  compared_coded (denies there h) = compared_coded h

  lowers_coded : (o : statements.Operation) (os : List Operation) (items : List Numbers) → Lowers home o os items → AreCoded top os
  lowers_coded o os items (sets {acts = acts} {at = here} whole size row can) = all_coded top here no_flag acts (none_pinned top) (row_within home kinds are row) can
  lowers_coded o os items (sets_if {x} {y = y} {c = c} {m = m} {at = here} z wide kind' h ie ni cmp can) =
      (compared_coded cmp, (one_coded top here (action.Cmov (condition.Cc c) z m y) (cmov_within top (condition.Cc c) z m y (All-nil (λ v. v < top)) (are.words (key_of (ref_of x)) m z h).0 (arg_named home kinds are ie)) can, tt))

  -- ---- by the table of flags
  set_coded : (here : Span) (compare : Option Operation) (e : Expr) (c : Condition) (ps : List (Leaks × Leaks)) (b : Arg) → IsCondition home here e compare c ps → IsNamed top b → CanEncode (action.Set c b) → AreCoded top (option_to_list compare ++ (plain here (action.Set c b) ∷ []))
  set_coded here compare e c ps b (with_comparison h) k can = (compared_coded h, (one_coded top here (action.Set c b) (set_within top c b (All-nil (λ v. v < top)) k) can, tt))
  set_coded here compare e c ps b (with_flag h) k can = (one_coded top here (action.Set c b) (set_within top c b (condition_under home kinds are h) k) can, tt)

  flags_coded : (o : statements.Operation) (os : List Operation) (items : List Numbers) → LowersFlags home o os items → AreCoded top os
  flags_coded o os items (carry_results {k} {acts} {at = here} whole layer size flag row can) = all_coded top here (carry_alone k) acts (carry_under home kinds are flag) (row_within home kinds are row) can
  flags_coded o os items (wide_products {z} {hk} {lk} {x} {y} {acts} {at = here} there whole size long hp lp ia ib ni code can) =
      all_coded top here no_flag acts (none_pinned top) (wide_code_within home kinds are z hk lk x y acts (word_under home kinds are hp) (word_under home kinds are lp) (arg_named home kinds are ia) (arg_named home kinds are ib) code) can
  flags_coded o os items (quotients {o = u} {w} {z} {k} {x} {y} {at = here} there whole div size long pin ia ib ni apart can) =
      all_coded top here no_flag (quotient_code u w z k x y) (none_pinned top) (quotient_within home kinds are u w z k x y (word_under home kinds are pin) (arg_named home kinds are ia) (arg_named home kinds are ib)) can
  flags_coded o os items (choices {v} {y} {n} {m} {d} {at = here} z wide kz h ie ni flag can) =
      (one_coded top here (action.Cmov (condition.Flag n d) z m y) (cmov_within top (condition.Flag n d) z m y (condition_under home kinds are flag) (are.words (key_of (ref_of v)) m z h).0 (arg_named home kinds are ie)) can, tt)
  flags_coded o os items (instructions {to} {fl} {acts} {at = here} text size row can) = let r = instruction_within home kinds are row in all_coded top (begins_at to here) fl acts r.flags r.actions can
  flags_coded o os items (sets_byte {d} {e} {b} {compare} {c} {ps} text is_set id cond can) = set_coded (left_span d) compare e c ps b cond (dest_named home kinds are id) can

  made_coded : (o : statements.Operation) (os : List Operation) (items : List Numbers) → Makes home o os items → AreCoded top os
  made_coded o os items (by_row h) = lowers_coded o os items h
  made_coded o os items (by_flags h) = flags_coded o os items h

  -- ---- tests
  test_coded : (t : statements.Condition) (a : Asked) (i : Numbers) → LowersTest home t a i → TestCoded top a
  test_coded t a i (tests h) = compared_coded h

  loop_test_coded : (t : statements.Condition) (a : Asked) (i : Numbers) → LowersLoopTest home t a i → TestCoded top a
  loop_test_coded t a i (tests_each h) = test_coded t a i h
  loop_test_coded t a i (never_false here e) = tt

  flag_test_coded : (t : statements.Condition) (a : Asked) (i : Numbers) → LowersFlagTest home t a i → TestCoded top a
  flag_test_coded t a i (asks_flag h) = record { reads = condition_under home kinds are h; writes = All-nil (λ v. v < top); needs = All-nil (λ (k : Need). k.variable < top) }

  made_test_coded : (t : statements.Condition) (a : Asked) (i : Numbers) → MakesTest home t a i → TestCoded top a
  made_test_coded t a i (by_comparison h) = test_coded t a i h
  made_test_coded t a i (by_flag h) = flag_test_coded t a i h

  made_loop_test_coded : (t : statements.Condition) (a : Asked) (i : Numbers) → MakesLoopTest home t a i → TestCoded top a
  made_loop_test_coded t a i (by_loop_test h) = loop_test_coded t a i h
  made_loop_test_coded t a i (by_loop_flag h) = flag_test_coded t a i h

  form_kept : (q : Bool) {e e1 : ⊤} {b : Block} {u : Body} {k : Change} → HasForm q b → Unrolls (lowering home) b e done u e1 k → HasForm q (without_marks u)
  form_kept false f h = tt
  form_kept true f u_done = tt
  form_kept true f (u_op l r) = absurd f
  form_kept true f (u_quiet l r) = absurd f
  form_kept true f (u_if l x y ea eb r) = absurd f
  form_kept true f (u_arm c x r) = absurd f
  form_kept true f (u_while e0 l q b eb e3 r) = absurd f
  form_kept true f (u_once q c r) = absurd f
  form_kept true f (u_for v e r) = absurd f

  bodies_coded : {e e1 : ⊤} {b : Block} {rest u : Body} {k : Change} → Unrolls (lowering home) b e rest u e1 k → AreFormed b → BodyCoded top (without_marks rest) → BodyCoded top (without_marks u)
  bodies_coded u_done f h = h
  bodies_coded (u_op {u = u} {os = os} l r) f h = turn_coded top os u (made_coded _ os _ l) (bodies_coded r f h)
  bodies_coded (u_quiet l r) f h = bodies_coded r f h
  bodies_coded (u_if {p = p} {u = u} {a2 = a2} {b2 = b2} {os = os} {p2 = p2} {i = i} l x y ea eb r) f h =
      no_turn_coded top os (choose p2 a2 b2 u) l.0 (made_test_coded p p2 i l.2, bodies_coded x f.0 tt, bodies_coded y f.1 tt, bodies_coded r f.2 h)
  bodies_coded (u_arm c x r) f h = absurd c
  bodies_coded (u_while {h = q0} {p = p} {os = os} {p2 = p2} {i = i} e0 l q b eb e3 r) f h =
      (bodies_coded q f.0 (no_turn_coded top os done l.0 tt), made_loop_test_coded p p2 i l.2, form_kept q0 f.1 b, bodies_coded b f.2 tt, bodies_coded r f.3 h)
  bodies_coded (u_once q c r) f h = absurd c
  bodies_coded (u_for v e r) f h = absurd v

  passed_below : (p : Passed) → p.variable.variable < top → All (λ (k : Need). k.variable < top) (need_by p ∷ [])
  passed_below p lt = All-cons (λ (k : Need). k.variable < top) (need_by p) [] lt (All-nil (λ (k : Need). k.variable < top))

  entry_below : (p : Passed) → p.variable.variable < top → Below top (entry_op p)
  entry_below p lt = record {
    reads = All-nil (λ v. v < top);
    writes = All-cons (λ v. v < top) p.variable.variable [] lt (All-nil (λ v. v < top));
    needs = passed_below p lt;
  }

  return_below : (p : Passed) → p.variable.variable < top → Below top (return_op p)
  return_below p lt = record {
    reads = All-cons (λ v. v < top) p.variable.variable [] lt (All-nil (λ v. v < top));
    writes = All-nil (λ v. v < top);
    needs = passed_below p lt;
  }

  entries_below : {rs : List Reg} {xs : List Var} {ps : List Passed} (t : ir.Tree) → ArePassed home rs xs ps → TreeBelow top t → TreeBelow top (then_ops (map entry_op ps) t)
  entries_below t none_passed h = h
  entries_below t (one_passed {x = x} {p = p} z there span is next) h = (entry_below p (are.words (key_of (ref_of x)) p.variable.variable z there).0, entries_below t next h)

  returns_below : {rs : List Reg} {xs : List Var} {ps : List Passed} → ArePassed home rs xs ps → TreeBelow top (then_ops (map return_op ps) ir.done)
  returns_below none_passed = tt
  returns_below (one_passed {x = x} {p = p} z there span is next) = (return_below p (are.words (key_of (ref_of x)) p.variable.variable z there).0, returns_below next)

pub functions_ready : (home : Homes) (f : Fun) (b : Block) (i : Ir) (k : Change) → IsLoweredFun home argument_registers result_registers f b i k → AreFormed b → IsShort i → IsReady i
functions_ready home f b i k l formed short =
    let made = l.body in
    let coded : BodyCoded (length i.kinds) (body_of i.body) = subst (BodyCoded (length i.kinds)) (sym made.body) (bodies_coded home i.kinds l.kinds made.made formed tt) in
    let returns = returns_below home i.kinds l.kinds l.returned in
    record {
      within = ops_below (length i.kinds) (whole_of i) (entries_below home i.kinds l.kinds (flow seen_of test_of (body_of i.body) (returns_of i)) l.entry (flow_below (length i.kinds) (body_of i.body) (returns_of i) coded returns));
      count = short.count;
      sorted = subst (AreSorted i.kinds) (sym made.body) (bodies_sorted home i.kinds l.kinds made.made tt);
      encodable = body_encodable (length i.kinds) (body_of i.body) coded;
      short = short.short;
      results = passed_free home l.returned (rax_free, (rdx_free, tt));
    }
