-- A body that passes no limit where a walk comes to it, through its calls, passes none where its
-- calls are copies and its loops their rounds.
use Rattle.std.proofs.Common.{◌≡◌, ℕ, suc, ◌+◌, ◌-◌, ◌<◌, ◌≤◌, ◌++◌, length, List, [], ◌∷◌, Bool, true, false, refl, sym, ◌∙◌, subst, arith, inl, inr}
use Rattle.std.specs.Prelude.{◌⊎◌, ⊤, Some, map, if◌then◌else◌}
use Rattle.std.proofs.lemmas.Bool.{true≢false}
use Rattle.std.proofs.lemmas.List.{length-replicate}
use Rattle.jz_tree.specs.declared.expr.Expr.{Expr}
use Rattle.jz_integers.specs.Integers.{KnownNumbers}
use Rattle.jz_integers.specs.declared.constant.Constant.TheVariants as constant
use Rattle.jz_tree.specs.declared.expr.Var.{Var}
use Rattle.jz_runs.specs.Trees.{done, op, quiet, choose, loop, each, call}
use Rattle.jz_meaning.specs.Statements.{unset, Block}
use Rattle.jz_change.specs.Changes.{Change}
use Rattle.jz_pass.specs.Copying.{copies, inlined}
use Rattle.jz_pass.specs.Operations.{in_turn}
use Rattle.jz_pass.specs.Unrolling.{Unrolls, u_op, u_quiet}
use Rattle.jz_inline.specs.Names.{Names, var_in}
use Rattle.jz_inline.specs.Calls.{call_place, result_ops, names_of_callee, inline_calls}
use Rattle.jz_limits.specs.Limits.{one}
use Rattle.jz_limits.specs.Values.{no_numbers, number_in, known_after}
use Rattle.jz_limits.specs.Asked.{asked, widths}
use Rattle.jz_limits.specs.Walks.{limits, silent, arms, rounds, counted_values, loop_walk, more_than_eight, argument_limits, with_arguments, result_limits, walk}
use Rattle.jz_unroll.specs.Values.{InlineNames}
use Rattle.jz_unroll.specs.Unrolling.{all_unknown, marked, unrolling}
use Rattle.jz_unrolling_laws.specs.CalledBodies.{Inlines, inlines_of, IsNamed, IsAsked, IsTaken, ByTest, IsStill, FitsCalled}
use Rattle.jz_copied_values.specs.CopiedNames.{HasNames}
use Rattle.jz_copied_values.proofs.StillWalks.{still_walk, still_arms}
use Rattle.jz_copied_values.proofs.CopiedNumbers.{IsCopy, not_behind}
use Rattle.jz_copied_values.proofs.CalledNames.{callee_copy}
use Rattle.jz_copied_values.proofs.CalledNumbers.{marked_numbers, mark_elsewhere, mark_none, begun}
use Rattle.jz_copied_values.proofs.CopiedForgetting.{vars_own}
use Rattle.jz_expansion.proofs.Ones.{OnlyOnes, ones_both, no_limits, Takes, Asks, arms_met}
use Rattle.jz_expanded_limits.proofs.Known.{Knows, Ends, ends_here, ends_then}
use Rattle.jz_meaning.specs.Lengths.{statements_in}
use Rattle.jz_expanded_limits.proofs.Costs.{cost, at_most, op_cost, behind_cost, each_cost, call_cost}
use Rattle.jz_expanded_limits.proofs.CopiedSets.{Good, operation_done}
use Rattle.jz_expanded_limits.proofs.CopiedArguments.{arguments_lead, results_lead, arguments_none}
use Rattle.jz_expanded_limits.proofs.CopiedTests.{Rest, end_here, choose_leads, loop_leads, each_leads}

-- ---- what fits, by the test
same_truth : (a b : Bool) → Some (constant.Bool a) ≡ Some (constant.Bool b) → a ≡ b
same_truth a b q = cc

by_answer : (A B : Type 0) (z : Bool) → ByTest z A B → (z ≡ true → A) × (z ≡ false → B)
by_answer A B true h = (λ q. h, λ q. absurd (true≢false q))
by_answer A B false h = (λ q. absurd (true≢false (sym q)), λ q. h)

module _ (i : Inlines) (c : Expr) (a b : Block) (e : KnownNumbers) where
  abbrev ArmsFit : Type 0
  ArmsFit = IsTaken c e (FitsCalled i a e) (FitsCalled i b e) ⊎ (IsAsked i c e × IsStill a × IsStill b × FitsCalled i a e × FitsCalled i b (walk a e).known)

  taken_arms : (z : Bool) → ArmsFit → Takes c (walk a) (walk b) e z → (z ≡ true → FitsCalled i a e) × (z ≡ false → FitsCalled i b e)
  taken_arms z (inl (inline, (y, value, h))) t =
      by_answer (FitsCalled i a e) (FitsCalled i b e) z (subst (λ w. ByTest w (FitsCalled i a e) (FitsCalled i b e)) (same_truth y z (sym value.1 ∙ t.value)) h)
  taken_arms z (inr (asked, still, still2, ha, hb)) t = absurd (true≢false (sym t.inline ∙ asked.0))

  asked_arms : ArmsFit → Asks c (walk a) (walk b) e → IsStill a × IsStill b × FitsCalled i a e × FitsCalled i b (walk a e).known
  asked_arms (inl (inline, rest)) t = absurd (true≢false (sym inline ∙ t.plain))
  asked_arms (inr (asked, still, still2, ha, hb)) t = (still, still2, ha, hb)

module _ (i : Inlines) (c : Expr) (b : Block) (e : KnownNumbers) where
  abbrev TurnFits : Type 0
  TurnFits = IsTaken c e (FitsCalled i b e) ⊤ ⊎ (IsAsked i c e × FitsCalled i b e)

  taken_turn : TurnFits → Takes c (walk b) silent e true → FitsCalled i b e
  taken_turn (inl (inline, (y, value, h))) t =
      (by_answer (FitsCalled i b e) ⊤ true (subst (λ w. ByTest w (FitsCalled i b e) ⊤) (same_truth y true (sym value.1 ∙ t.value)) h)).0 refl
  taken_turn (inr (asked, h)) t = absurd (true≢false (sym t.inline ∙ asked.0))

  asked_turn : TurnFits → Asks c (walk b) silent e → FitsCalled i b e
  asked_turn (inl (inline, rest)) t = absurd (true≢false (sym inline ∙ t.plain))
  asked_turn (inr (asked, h)) t = h

-- ---- bodies
module _ (names : InlineNames) where
  abbrev To : ℕ → (KnownNumbers → Type 0) → Block → Block → KnownNumbers → Type 0
  To n Post R u k1 = Post k1 × (Good R → Good u) × (statements_in u ≤ n + statements_in R)

  loosen : (n l : ℕ) (Post : KnownNumbers → Type 0) (R u : Block) (k1 : KnownNumbers) → n ≤ l → To n Post R u k1 → To l Post R u k1
  loosen n l Post R u k1 h r = (r.0, r.1, at_most (statements_in u) n l (statements_in R) r.2 h)

  -- behind the mark of a call
  mark_leads : (n : ℕ) (Post : KnownNumbers → Type 0) (vs : List Var) (t R u : Block) (k k1 : KnownNumbers) (d : Change) → ((w : Block) (g : Change) → Unrolls (unrolling names) t (all_unknown k vs) R w k1 g → To n Post R w k1)
      → Unrolls (unrolling names) (quiet (unset vs) t) k R u k1 d → To n Post R u k1
  mark_leads n Post vs t R u k k1 d next (u_quiet {u = w} {k = g} marked x) = let r = next w g x in (r.0, r.1, r.2)

  more_up : (a c n : ℕ) → a < c → a < c + n
  more_up a c n lt = omega (arith, lt)

  -- before whatever follows
  pub tree_leads : (n : ℕ) (Post : KnownNumbers → Type 0) (t : Block) (i : Inlines) (m : Names) (c0 c : ℕ) (e k : KnownNumbers) (rest R u : Block) (k1 : KnownNumbers) (d : Change) (copy : IsCopy names i m c0) → c0 < c → HasNames names c t → IsNamed i t
      → FitsCalled i t e → OnlyOnes (walk t e).steps → Knows names i m e k → Rest names i m c0 copy n Post rest (walk t e).known k R k1 → Unrolls (unrolling names) (inlined inline_calls m c t rest) k R u k1 d → To (cost (walk t e).steps + n) Post R u k1
  unfolding walk
  tree_leads n Post done i m c0 c e k rest R u k1 d copy up has named fits ones h next made = loosen n (cost [] + n) Post R u k1 (omega arith) (next k u d (ends_here names i m c0 e k h) made)
  tree_leads n Post (op o r) i m c0 c e k rest R u k1 d copy up has named fits ones h next (u_op {e1 = k2} {u = w} {os = os} {is = is} {k = g} rule x) =
      let p = ones_both (one ∷ limits (asked e o)) (walk r (known_after e o)).steps ones in
      let a = operation_done names i m c0 copy e k h o k2 os is named.0 fits.0 (no_limits (asked e o) p.0) rule in
      let more = tree_leads n Post r i m c0 c (known_after e o) k2 rest R w k1 g copy up has named.1 fits.1 p.1 a.ends.knows
      (λ k3 v f ends made3. next k3 v f (ends_then names i m c0 (known_after e o) (walk r (known_after e o)).known k k2 k3 a.ends ends) made3) x in
      (more.0, λ good. a.good w (more.1 good), op_cost (limits (asked e o)) (walk r (known_after e o)).steps (statements_in (in_turn os w)) (statements_in w) (statements_in R) n (a.count w) more.2)
  tree_leads n Post (quiet o r) i m c0 c e k rest R u k1 d copy up has named fits ones h next made = absurd named
  tree_leads n Post (choose p a b r) i m c0 c e k rest R u k1 d copy up has named fits ones h next made =
      let w = arms p.cond (walk a) (walk b) e in
      let q = ones_both (one ∷ w.steps) (walk r w.known).steps ones in
      let first = inlined inline_calls m c a done in
      let second = inlined inline_calls m (c + copies a) b done in
      let last = inlined inline_calls m (c + copies a + copies b) r rest in
      loosen (cost (one ∷ w.steps) + (cost (walk r w.known).steps + n)) (cost ((one ∷ w.steps) ++ (walk r w.known).steps) + n) Post R u k1 (behind_cost (one ∷ w.steps) (walk r w.known).steps n)
      (choose_leads names i m c0 copy (cost (walk r w.known).steps + n) Post p named.0 first second last (walk a) (walk b) e (arms_met p.cond (walk a) (walk b) e q.0)
      (λ z t. (
        λ s. (λ k2 k3 R2 u2 d2 h2 made2. tree_leads 0 (Ends names i m c0 (walk a e).known k2) a i m c0 c e k2 done R2 u2 k3 d2 copy up has.0 named.1 ((taken_arms i p.cond a b e z fits.0 t).0 s)
            (subst (λ v. OnlyOnes (if v then walk a e else walk b e).steps) s t.ones) h2 (λ k4 u4 d4 ends made4. end_here names i m c0 copy (Ends names i m c0 (walk a e).known k2) k4 k3 R2 u4 d4 ends made4) made2),
        λ s. (λ k2 k3 R2 u2 d2 h2 made2. tree_leads 0 (Ends names i m c0 (walk b e).known k2) b i m c0 (c + copies a) e k2 done R2 u2 k3 d2 copy (more_up c0 c (copies a) up) has.1 named.2 ((taken_arms i p.cond a b e z fits.0 t).1 s)
            (subst (λ v. OnlyOnes (if v then walk a e else walk b e).steps) s t.ones) h2 (λ k4 u4 d4 ends made4. end_here names i m c0 copy (Ends names i m c0 (walk b e).known k2) k4 k3 R2 u4 d4 ends made4) made2),
      ))
      (λ t. (let f = asked_arms i p.cond a b e fits.0 t in let ea = (walk a e).known in (
        still_walk a e f.0,
        still_arms p.cond (walk a) (walk b) e (still_walk a e f.0) (still_walk b e f.1),
        λ k2 k3 R2 u2 d2 h2 made2. tree_leads 0 (Ends names i m c0 (walk a e).known k2) a i m c0 c e k2 done R2 u2 k3 d2 copy up has.0 named.1 f.2 t.first h2
            (λ k4 u4 d4 ends made4. end_here names i m c0 copy (Ends names i m c0 (walk a e).known k2) k4 k3 R2 u4 d4 ends made4) made2,
        λ k2 k3 R2 u2 d2 h2 made2. tree_leads 0 (Ends names i m c0 (walk b ea).known k2) b i m c0 (c + copies a) ea k2 done R2 u2 k3 d2 copy (more_up c0 c (copies a) up) has.1 named.2 f.3 t.second h2
            (λ k4 u4 d4 ends made4. end_here names i m c0 copy (Ends names i m c0 (walk b ea).known k2) k4 k3 R2 u4 d4 ends made4) made2,
      )))
      k k1 R u d h
      (λ k2 u2 d2 ends made2. tree_leads n Post r i m c0 (c + copies a + copies b) w.known k2 rest R u2 k1 d2 copy (more_up c0 (c + copies a) (copies b) (more_up c0 c (copies a) up)) has.2 named.3 fits.1 q.1 ends.knows
      (λ k3 u3 d3 ends3 made3. next k3 u3 d3 (ends_then names i m c0 w.known (walk r w.known).known k k2 k3 ends ends3) made3) made2)
      made)
  tree_leads n Post (loop l y p b r) i m c0 c e k rest R u k1 d copy up has named fits ones h next made =
      let inside = (walk y e).known in
      let w = arms p.cond (walk b) silent inside in
      let q = ones_both (one ∷ ((walk y e).steps ++ w.steps)) (walk r w.known).steps ones in
      let o = ones_both (walk y e).steps w.steps q.0 in
      let first = inlined inline_calls m c y done in
      let second = inlined inline_calls m (c + copies y) b done in
      let last = inlined inline_calls m (c + copies y + copies b) r rest in
      loosen (cost (one ∷ ((walk y e).steps ++ w.steps)) + (cost (walk r w.known).steps + n)) (cost ((one ∷ ((walk y e).steps ++ w.steps)) ++ (walk r w.known).steps) + n) Post R u k1 (behind_cost (one ∷ ((walk y e).steps ++ w.steps)) (walk r w.known).steps n)
      (loop_leads names i m c0 copy (cost (walk r w.known).steps + n) Post l p named.0 first second last (walk b) e (walk y e) (still_walk y e fits.0)
      (λ k2 k3 R2 u2 d2 h2 made2. tree_leads 0 (Ends names i m c0 inside k2) y i m c0 c e k2 done R2 u2 k3 d2 copy up has.0 named.1 fits.2 o.0 h2
      (λ k4 u4 d4 ends made4. end_here names i m c0 copy (Ends names i m c0 inside k2) k4 k3 R2 u4 d4 ends made4) made2)
      (arms_met p.cond (walk b) silent inside o.1) (still_arms p.cond (walk b) silent inside (still_walk b inside fits.1) refl)
      (λ t. (λ k2 k3 R2 u2 d2 h2 made2. tree_leads 0 (Ends names i m c0 (walk b inside).known k2) b i m c0 (c + copies y) inside k2 done R2 u2 k3 d2 copy (more_up c0 c (copies y) up) has.1 named.2 (taken_turn i p.cond b inside fits.3 t) t.ones h2
      (λ k4 u4 d4 ends made4. end_here names i m c0 copy (Ends names i m c0 (walk b inside).known k2) k4 k3 R2 u4 d4 ends made4) made2))
      (λ t. (λ k2 k3 R2 u2 d2 h2 made2. tree_leads 0 (Ends names i m c0 (walk b inside).known k2) b i m c0 (c + copies y) inside k2 done R2 u2 k3 d2 copy (more_up c0 c (copies y) up) has.1 named.2 (asked_turn i p.cond b inside fits.3 t) t.first h2
      (λ k4 u4 d4 ends made4. end_here names i m c0 copy (Ends names i m c0 (walk b inside).known k2) k4 k3 R2 u4 d4 ends made4) made2))
      k k1 R u d h
      (λ k2 u2 d2 ends made2. tree_leads n Post r i m c0 (c + copies y + copies b) w.known k2 rest R u2 k1 d2 copy (more_up c0 (c + copies y) (copies b) (more_up c0 c (copies y) up)) has.2 named.3 fits.4 q.1 ends.knows
      (λ k3 u3 d3 ends3 made3. next k3 u3 d3 (ends_then names i m c0 w.known (walk r w.known).known k k2 k3 ends ends3) made3) made2)
      made)
  tree_leads n Post (each f b r) i m c0 c e k rest R u k1 d copy up has named fits ones h next made =
      let zs = counted_values f.down (number_in e f.from) (number_in e f.to) in
      let w = rounds f.counter (walk b) zs e in
      let e2 = (loop_walk f (walk b) e).known in
      let p = ones_both (limits (widths e f.from ++ widths e f.to) ++ (w.steps ++ [])) (walk r e2).steps ones in
      let o = ones_both (limits (widths e f.from ++ widths e f.to)) (w.steps ++ []) p.0 in
      let turns = ones_both w.steps [] o.1 in
      let first = inlined inline_calls m c b done in
      let last = inlined inline_calls m (c + copies b) r rest in
      loosen (cost w.steps + (cost (walk r e2).steps + n)) (cost ((limits (widths e f.from ++ widths e f.to) ++ (w.steps ++ [])) ++ (walk r e2).steps) + n) Post R u k1 (each_cost (limits (widths e f.from ++ widths e f.to)) w.steps [] (walk r e2).steps n)
      (each_leads names i m c0 copy f named.0 first (walk b) (FitsCalled i b)
      (λ e3 fit ones3 k2 k3 R2 u2 d2 h2 made2. tree_leads 0 (Ends names i m c0 (walk b e3).known k2) b i m c0 c e3 k2 done R2 u2 k3 d2 copy up has.0 named.1 fit ones3 h2
      (λ k4 u4 d4 ends made4. end_here names i m c0 copy (Ends names i m c0 (walk b e3).known k2) k4 k3 R2 u4 d4 ends made4) made2)
      (cost (walk r e2).steps + n) Post last e fits.1 turns.0 k k1 R u d h
      (λ k2 u2 d2 ends made2. tree_leads n Post r i m c0 (c + copies b) e2 k2 rest R u2 k1 d2 copy (more_up c0 c (copies b) up) has.1 named.2 fits.2 p.1 ends.knows
      (λ k3 u3 d3 ends3 made3. next k3 u3 d3 (ends_then names i m c0 e2 (walk r e2).known k k2 k3 ends ends3) made3) made2)
      made)
  tree_leads n Post (call q b r) i m c0 c e k rest R u k1 d copy up has named fits ones h next made =
      let j : Inlines = inlines_of q.callee in
      let inner : Names = names_of_callee m c q in
      let at = call_place q.to q.at in
      let below : IsCopy names j inner c = callee_copy names i j m c0 c copy up has.0 q.callee.params q.args named.0.arguments in
      let given : KnownNumbers = with_arguments e q.callee.params q.args no_numbers in
      let last : Block = inlined inline_calls m (suc c + copies b) r rest in
      let back : Block = in_turn (result_ops m inner at q.to q.callee.result) last in
      let body : Block = inlined inline_calls inner (suc c) b back in
      let before : KnownNumbers = λ n a. k n c in
      let args = limits (argument_limits e q.at q.callee.params q.args) in
      let res = limits (result_limits e q.at q.to q.callee.result) in
      let p = ones_both (one ∷ (more_than_eight q ++ (args ++ ((walk b given).steps ++ (res ++ []))))) (walk r e).steps ones in
      let o = ones_both (more_than_eight q) (args ++ ((walk b given).steps ++ (res ++ []))) p.0 in
      let s = ones_both args ((walk b given).steps ++ (res ++ [])) o.1 in
      let y = ones_both (walk b given).steps (res ++ []) s.1 in
      let x = ones_both res [] y.1 in
      let own = vars_own names i j m c q named.0 in
      let after_body : ℕ = length q.to + (cost (walk r e).steps + n) in
      let after_arguments : ℕ = cost (walk b given).steps + after_body in
      loosen (length q.args + after_arguments) (cost ((one ∷ (more_than_eight q ++ (args ++ ((walk b given).steps ++ (res ++ []))))) ++ (walk r e).steps) + n) Post R u k1
      (call_cost (more_than_eight q) args (walk b given).steps (res ++ []) (walk r e).steps (length q.args) (length q.to) n (length-replicate ((length q.args + length q.to) - 8) one))
      (arguments_lead names i j m inner c0 c copy below up e q.at at Post R k1 after_arguments q.callee.params q.args before k (quiet (inline_calls.mark m c q) body) u d named.0.arguments
      (no_limits (argument_limits e q.at q.callee.params q.args) s.0) h (λ n. refl)
      (λ k2 h2 set2 before2 u2 d2 made2.
      mark_leads after_arguments Post (map (var_in inner) q.callee.vars) body R u2 k2 k1 d2
      (λ u3 d3 made3.
      (let k3 : KnownNumbers = marked_numbers inner c q.callee.vars k2 in
      let start : Knows names j inner given k3 = record {
        less = λ n z g. sym (begun names i q.callee inner c below e q.args before k2 named.0.apart named.0.arguments own h2.only set2 n) ∙ g;
        only = λ n a out. mark_none inner c q.callee.vars k2 n a (h2.only n a out);
        inline = arguments_none i j e no_numbers q.callee.params q.args named.0.arguments (λ n a out. refl);
      } in
      tree_leads after_body Post b j inner c (suc c) given k3 back R u3 k1 d3 below (omega arith) has.1 named.1 fits.2 y.0 start
      (λ k4 u4 d4 ends4 made4.
      (let known4 : Knows names i m e k4 = record {
        less = λ n z g. (let lt = not_behind names i m c0 copy n c up in
            h2.less n z (sym (mark_elsewhere inner c q.callee.vars k2 (m n).0 (m n).1 own (λ same. omega (arith, same, lt))) ∙ ends4.before (m n).0 (m n).1 z lt g));
        only = ends4.knows.only;
        inline = h.inline;
      } in
      results_lead names i j m inner c0 c copy below up e q.at at Post R k1 k4 known4 (cost (walk r e).steps + n) q.to q.callee.result last u4 d4 named.0.results (no_limits (result_limits e q.at q.to q.callee.result) x.0)
      (λ u5 d5 made5. tree_leads n Post r i m c0 (suc c + copies b) e k4 rest R u5 k1 d5 copy (omega (arith, up)) has.2 named.2 fits.3 p.1 known4
      (λ k6 u6 d6 ends6 made6. next k6 u6 d6 (record {
        knows = ends6.knows;
        before = λ n a z lt g.
            sym (before2 n a (omega (arith, lt, up)))
            ∙ (sym (mark_elsewhere inner c q.callee.vars k2 n a own (λ same. omega (arith, same, lt, up))) ∙ ends4.before n a z (omega (arith, lt, up)) (ends6.before n a z lt g));
      }) made6) made5) made4))
      made3)) made2)
      made)
