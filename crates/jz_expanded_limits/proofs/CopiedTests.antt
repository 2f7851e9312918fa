-- Branches and loops of a copy, where they are unrolled: what is known in their parts, and what of
-- them is within the limits.
use Rattle.std.proofs.Common.{◌≡◌, ℕ, ◌+◌, ◌≤◌, List, [], ◌∷◌, ◌++◌, Some, None, Bool, true, false, refl, ap, sym, ◌∙◌, subst, arith, inl, inr, if◌then◌else◌}
use Rattle.std.specs.Prelude.{ℤ, ◌⊎◌}
use Rattle.std.proofs.lemmas.Bool.{true≢false}
use Rattle.jz_tree.specs.Span.{Span}
use Rattle.jz_tree.specs.declared.expr.Expr.{Expr}
use Rattle.jz_tree.specs.declared.expr.Expr.TheVariants as expr
use Rattle.jz_tree.specs.declared.expr.Expr.TheOpen.{Expr-F}
use Rattle.jz_type_names.specs.Kinds.{is_inline}
use Rattle.jz_type_names.specs.Parts.{span_of}
use Rattle.jz_integers.specs.Integers.{KnownNumbers, inline_value, the_number}
use Rattle.jz_integers.specs.declared.constant.Constant.TheVariants as constant
use Rattle.jz_runs.specs.Trees.{done, choose, loop, each}
use Rattle.jz_meaning.specs.Statements.{Operation, Condition, Counter, Call, Block}
use Rattle.jz_change.specs.declared.change.Numbers.{Numbers}
use Rattle.jz_change.specs.Changes.{Change, Changes}
use Rattle.jz_pass.specs.Operations.{in_turn}
use Rattle.jz_pass.specs.Unrolling.{Unrolls, UnrollsEach, u_done, u_if, u_arm, u_while, u_once, u_for, u_none, u_more}
use Rattle.jz_inline.specs.Names.{Names, var_in, expr_in, test_in, counter_in}
use Rattle.jz_unroll.specs.Values.{with_values, has_values, InlineNames}
use Rattle.jz_unroll.specs.Unrolling.{with_number, number_of, KnowsLess, HasValue, tested, UnrollsLoopTest, loops, always, unrolling}
use Rattle.jz_arrays.specs.Cells.{with_scalars}
use Rattle.jz_arrays.proofs.Reading.{in_is}
use Rattle.jz_limits.specs.Limits.{Step, one}
use Rattle.jz_limits.specs.Values.{no_numbers, number_in, truth_of}
use Rattle.jz_limits.specs.declared.operands.Role.TheVariants as role
use Rattle.jz_limits.specs.Asked.{asked_as, asked_condition, size_compared}
use Rattle.jz_limits.specs.InnerLooked.{firsts_found}
use Rattle.jz_limits.specs.Walks.{Walk, limits, behind, followed, silent, constant_steps, taken, arms, rounds, counted_values}
use Rattle.jz_limits.proofs.Layers.{look_bool}
use Rattle.jz_limits.proofs.PartLemmas.{asked_found}
use Rattle.jz_unrolling_laws.specs.AskedLaws.{is_text}
use Rattle.jz_unrolling_laws.specs.CalledBodies.{Inlines, IsNamedCounter, FitsRounds}
use Rattle.jz_unrolling_laws.proofs.CopiedValues.{copied_inline}
use Rattle.jz_copied_values.proofs.CopiedNumbers.{IsCopy}
use Rattle.jz_expansion.proofs.Ones.{OnlyOnes, ones_both, Takes, Asks}
use Rattle.jz_kept_limits.proofs.Firsts.{IsClean, clean_to}
use Rattle.jz_kept_limits.proofs.Turned.{asking}
use Rattle.jz_meaning.specs.Lengths.{statements_in}
use Rattle.jz_expanded_limits.proofs.Costs.{cost, then_most, then_part, both_most, taken_cost, stays_cost, loop_cost, once_cost, within_cost, round_cost}
use Rattle.jz_expanded_limits.proofs.CopiedParts.{test_within}
use Rattle.jz_expanded_limits.proofs.CopiedSets.{Good}
use Rattle.jz_expanded_limits.proofs.Known.{Knows, value_back, knows_less, Ends, ends_here, ends_then, ends_less, ends_from, set_ends, number_back}

-- `true` is within the limits
truth_scalar : (b : Bool) (at : Span) → with_scalars (expr.Bool b at) ≡ expr.Bool b at
truth_scalar b at = ap with_scalars (sym (expr.rolls-Bool b at)) ∙ in_is (Expr-F.Expr::Bool b at) ∙ expr.rolls-Bool b at

truth_within : (b : Bool) (at : Span) → asked_condition no_numbers (with_scalars (expr.Bool b at)) ≡ []
truth_within b at =
    let x = expr.Bool b at in
    let q = asking (size_compared x) in
    let seen = look_bool no_numbers q b at in
    subst (λ y. asked_condition no_numbers y ≡ []) (sym (truth_scalar b at))
    (clean_to (asked_as no_numbers role.Test None x)
    (subst IsClean (asked_found no_numbers role.Test None x)
    (subst (λ s. IsClean (firsts_found role.Test None s)) (sym seen) (record { width = refl; range = refl; field = refl }))))

same_truth : (a b : Bool) → Some (constant.Bool a) ≡ Some (constant.Bool b) → a ≡ b
same_truth a b q = cc

none_more : (n : ℕ) → n ≤ 0 + n
none_more n = omega arith

as_many : (n : ℕ) → n ≤ n
as_many n = omega arith

same_cost : (xs ys : List Step) → ys ≡ xs → cost xs ≤ cost ys
same_cost xs ys e = subst (λ s. cost xs ≤ cost s) (sym e) (as_many (cost xs))

-- ---- the steps of a test
module _ (c : Expr) (A B : KnownNumbers → Walk) (e : KnownNumbers) where
  abbrev by_inline : Bool → Walk
  by_inline b =
      if b
      then behind (constant_steps (span_of c) (truth_of (inline_value e c))) (taken (truth_of (inline_value e c)) (A e) (B e) (silent e))
      else behind (limits (asked_condition e c)) (followed (A e) B)

  -- of a constant test those of its arm
  taken_steps : (z : Bool) → Takes c A B e z → (arms c A B e).steps ≡ (if z then A e else B e).steps
  taken_steps z t =
      ap (λ b. (by_inline b).steps) t.inline
      ∙ (ap (λ o. (behind (constant_steps (span_of c) (truth_of o)) (taken (truth_of o) (A e) (B e) (silent e))).steps) t.value ∙ last z)
    where
      last : (z : Bool) → (behind (constant_steps (span_of c) (Some z)) (taken (Some z) (A e) (B e) (silent e))).steps ≡ (if z then A e else B e).steps
      last true = refl
      last false = refl

  -- of another one those of both
  asked_steps : Asks c A B e → (arms c A B e).steps ≡ limits (asked_condition e c) ++ ((A e).steps ++ (B (A e).known).steps)
  asked_steps t = ap (λ b. (by_inline b).steps) t.plain

module _ (names : InlineNames) (i : Inlines) (m : Names) (c0 : ℕ) (copy : IsCopy names i m c0) where
  -- what is true behind a tree, and what it becomes is within the limits where what follows is, with n
  -- statements more at most
  abbrev pub Leads : ℕ → (KnownNumbers → Type 0) → Block → Block → KnownNumbers → Type 0
  Leads n Post R u k1 = Post k1 × (Good R → Good u) × (statements_in u ≤ n + statements_in R)

  -- a part alone: what is known behind it and how many steps it has is as in this walk
  abbrev pub Part : Block → KnownNumbers → Walk → Type 0
  Part t e w =
      (k k1 : KnownNumbers) (R u : Block) (d : Change) → Knows names i m e k → Unrolls (unrolling names) t k R u k1 d → Leads (cost w.steps + 0) (Ends names i m c0 w.known k) R u k1

  -- what follows
  abbrev pub Rest : ℕ → (KnownNumbers → Type 0) → Block → KnownNumbers → KnownNumbers → Block → KnownNumbers → Type 0
  Rest n Post t e k R k1 =
      (k2 : KnownNumbers) (u : Block) (d : Change) → Ends names i m c0 e k k2 → Unrolls (unrolling names) t k2 R u k1 d → Leads n Post R u k1

  pub end_here : (P : KnownNumbers → Type 0) (k k1 : KnownNumbers) (R u : Block) (d : Change) → P k → Unrolls {C = Call} (unrolling names) done k R u k1 d → Leads 0 P R u k1
  end_here P k k1 R u d h u_done = (h, λ g. g, none_more (statements_in u))

  not_inline : (c : Expr) → is_inline c ≡ true → is_inline (expr_in m c) ≡ false → ⊥
  not_inline c p q = true≢false (sym p ∙ (sym (copied_inline m c) ∙ q))

  inline_not : (c : Expr) → is_inline c ≡ false → is_inline (expr_in m c) ≡ true → ⊥
  inline_not c p q = true≢false (sym q ∙ (copied_inline m c ∙ p))

  -- the answer of a constant test is that of the limits
  answer : (e k : KnownNumbers) (c : Expr) (a b : Bool) → Knows names i m e k → is_text c ≡ true → inline_value k (expr_in m c) ≡ Some (constant.Bool a) → inline_value e c ≡ Some (constant.Bool b) → a ≡ b
  answer e k c a b h t p q = same_truth a b (sym (value_back names i m e k h c (constant.Bool a) t p) ∙ q)

  -- ---- `if`
  module _ (n : ℕ) (Post : KnownNumbers → Type 0) (p : Condition) (text : is_text p.cond ≡ true) (first second next : Block) (A B : KnownNumbers → Walk) (e : KnownNumbers) where
    abbrev behind' : KnownNumbers
    behind' = (arms p.cond A B e).known

    abbrev bound : ℕ
    bound = cost (one ∷ (arms p.cond A B e).steps)

    -- one arm is taken
    taken_leads : (z : Bool) → Takes p.cond A B e z → (z ≡ true → Part first e (A e)) → (z ≡ false → Part second e (B e)) → (k k1 : KnownNumbers) (R u : Block) (d : Change) → Knows names i m e k → Rest n Post next behind' k R k1
        → Unrolls (unrolling names) (choose (test_in m p) first second next) k R u k1 d → Leads (bound + n) Post R u k1
    taken_leads z t fa fb k k1 R u d h rest (u_if (tested plain has) a b l1 l2 x) = absurd (not_inline p.cond t.inline plain)
    taken_leads true t fa fb k k1 R u d h rest (u_arm {e1 = k2} {u = w} {z = true} {ta = d2} {k = d3} c a x) =
        let fst = fa refl k k2 w u d2 h a in
        let more = rest k2 w d3 (subst (λ v. Ends names i m c0 v k k2) (sym t.known) fst.0) x in
        let few = taken_cost (A e).steps (arms p.cond A B e).steps (taken_steps p.cond A B e true t) in
        (more.0, λ g. fst.1 (more.1 g), then_part (statements_in u) (statements_in w) bound (cost (A e).steps) n (statements_in R) few fst.2 more.2)
    taken_leads false t fa fb k k1 R u d h rest (u_arm {e1 = k2} {u = w} {z = false} {ta = d2} {k = d3} c a x) =
        let fst = fb refl k k2 w u d2 h a in
        let more = rest k2 w d3 (subst (λ v. Ends names i m c0 v k k2) (sym t.known) fst.0) x in
        let few = taken_cost (B e).steps (arms p.cond A B e).steps (taken_steps p.cond A B e false t) in
        (more.0, λ g. fst.1 (more.1 g), then_part (statements_in u) (statements_in w) bound (cost (B e).steps) n (statements_in R) few fst.2 more.2)
    taken_leads true t fa fb k k1 R u d h rest (u_arm {z = false} c a x) = absurd (true≢false (sym (answer e k p.cond false true h text c.1.1 t.value)))
    taken_leads false t fa fb k k1 R u d h rest (u_arm {z = true} c a x) = absurd (true≢false (answer e k p.cond true false h text c.1.1 t.value))

    -- it stays, and neither arm sets an inline variable of the body
    stays_leads : Asks p.cond A B e → (A e).known ≡ e → behind' ≡ e → Part first e (A e) → Part second (A e).known (B (A e).known) → (k k1 : KnownNumbers) (R u : Block) (d : Change) → Knows names i m e k → Rest n Post next behind' k R k1
        → Unrolls (unrolling names) (choose (test_in m p) first second next) k R u k1 d → Leads (bound + n) Post R u k1
    stays_leads t still same fa fb k k1 R u d h rest (u_if {ea = ka} {eb = kb} {e0 = k0} {u = w} {a2 = a2} {b2 = b2} {ta = da} {tb = db} {k = dr} (tested plain has) a b l1 l2 x) =
        let fst = fa k ka done a2 da h a in
        let snd = fb k kb done b2 db (subst (λ v. Knows names i m v k) (sym still) h) b in
        let ends : Ends names i m c0 e k k0 = ends_less names i m c0 e k ka k0 l1 (subst (λ v. Ends names i m c0 v k ka) still fst.0) in
        let more = rest k0 w dr (subst (λ v. Ends names i m c0 v k k0) (sym same) ends) x in
        let few = stays_cost (limits (asked_condition e p.cond)) (A e).steps (B (A e).known).steps (arms p.cond A B e).steps (asked_steps p.cond A B e t) in (
          more.0,
          λ g. (test_within names i m copy.named e k h p.cond text has t.none, fst.1 tt, snd.1 tt, more.1 g),
          both_most (statements_in a2) (statements_in b2) (statements_in w) bound (cost (A e).steps) (cost (B (A e).known).steps) n (statements_in R) few fst.2 snd.2 more.2,
        )
    stays_leads t still same fa fb k k1 R u d h rest (u_arm c a x) = absurd (inline_not p.cond t.plain c.0)

    pub choose_leads : ((z : Bool) × Takes p.cond A B e z) ⊎ Asks p.cond A B e → ((z : Bool) → Takes p.cond A B e z → (z ≡ true → Part first e (A e)) × (z ≡ false → Part second e (B e)))
        → (Asks p.cond A B e → ((A e).known ≡ e) × (behind' ≡ e) × Part first e (A e) × Part second (A e).known (B (A e).known))
        → (k k1 : KnownNumbers) (R u : Block) (d : Change) → Knows names i m e k → Rest n Post next behind' k R k1 → Unrolls (unrolling names) (choose (test_in m p) first second next) k R u k1 d → Leads (bound + n) Post R u k1
    choose_leads (inl (z, t)) taken asked k k1 R u d h rest made = let f = taken z t in taken_leads z t f.0 f.1 k k1 R u d h rest made
    choose_leads (inr t) taken asked k k1 R u d h rest made = let f = asked t in stays_leads t f.0 f.1 f.2 f.3 k k1 R u d h rest made

  -- ---- `while`
  -- Q: the walk of the prologue
  module _ (n : ℕ) (Post : KnownNumbers → Type 0) (l : Bool) (p : Condition) (text : is_text p.cond ≡ true) (first second next : Block) (B : KnownNumbers → Walk) (e : KnownNumbers) (Q : Walk) (same : Q.known ≡ e) (fq : Part first e Q) where
    abbrev inside : KnownNumbers
    inside = Q.known

    abbrev tested_steps : List Step
    tested_steps = (arms p.cond B silent inside).steps

    abbrev whole_bound : ℕ
    whole_bound = cost (one ∷ (Q.steps ++ tested_steps))

    abbrev behind2 : KnownNumbers
    behind2 = (arms p.cond B silent inside).known

    -- the test that is left
    abbrev Kept : KnownNumbers → Condition → Type 0
    Kept kq p2 =
        ((is_inline (expr_in m p.cond) ≡ false) × (has_values names kq (expr_in m p.cond) ≡ true) × (p2.cond ≡ with_values kq (expr_in m p.cond)))
        ⊎ ((is_inline (expr_in m p.cond) ≡ true) × HasValue kq (expr_in m p.cond) (constant.Bool true) × (p2.cond ≡ expr.Bool true (span_of (expr_in m p.cond))))

    kept : (kq : KnownNumbers) (os : List Operation) (ns : List Numbers) (p2 : Condition) (j : Numbers) → UnrollsLoopTest names (test_in m p) kq os ns p2 j → (os ≡ []) × Kept kq p2
    kept kq os ns p2 j (loops plain has) = (refl, inl (plain, has, refl))
    kept kq os ns p2 j (always inline value) = (refl, inr (inline, value, refl))

    -- it stays
    turned_leads : (p2 : Condition) (k k0 kq kb k3 k1 : KnownNumbers) (q2 b2 R w : Block) (dq db dr : Change) → cost (B inside).steps ≤ cost tested_steps → behind2 ≡ inside → asked_condition no_numbers (with_scalars p2.cond) ≡ [] → Knows names i m e k → Part second inside (B inside)
        → Rest n Post next behind2 k R k1 → KnowsLess k0 k → Unrolls (unrolling names) first k0 done q2 kq dq → Unrolls (unrolling names) second kq done b2 kb db → KnowsLess k3 kq → Unrolls (unrolling names) next k3 R w k1 dr
        → Leads (whole_bound + n) Post R (loop l q2 p2 b2 w) k1
    turned_leads p2 k k0 kq kb k3 k1 q2 b2 R w dq db dr few known within h fb rest less q b l3 x =
        let fst = fq k0 kq done q2 dq (knows_less names i m e k k0 less h) q in
        let snd = fb kq kb done b2 db fst.0.knows b in
        let ends : Ends names i m c0 inside k k3 = ends_from names i m c0 inside k k0 k3 less (ends_less names i m c0 inside k0 kq k3 l3 fst.0) in
        let more = rest k3 w dr (subst (λ v. Ends names i m c0 v k k3) (sym known) ends) x in (
          more.0,
          λ g. (within, fst.1 tt, snd.1 tt, more.1 g),
          both_most (statements_in q2) (statements_in b2) (statements_in w) whole_bound (cost Q.steps) (cost (B inside).steps) n (statements_in R) (loop_cost Q.steps tested_steps (cost (B inside).steps) few) fst.2 snd.2 more.2,
        )

    always_kept : (z : Bool) → Takes p.cond B silent inside z → behind2 ≡ inside → (z ≡ true → Part second inside (B inside)) → (p2 : Condition) (k k0 kq kb k3 k1 : KnownNumbers) (q2 b2 R w : Block) (dq db dr : Change) → Knows names i m e k
        → Rest n Post next behind2 k R k1 → KnowsLess k0 k → Unrolls (unrolling names) first k0 done q2 kq dq → Unrolls (unrolling names) second kq done b2 kb db → KnowsLess k3 kq → Unrolls (unrolling names) next k3 R w k1 dr
        → Kept kq p2 → Leads (whole_bound + n) Post R (loop l q2 p2 b2 w) k1
    always_kept z t known fb p2 k k0 kq kb k3 k1 q2 b2 R w dq db dr h rest less q b l3 x (inl s) = absurd (not_inline p.cond t.inline s.0)
    always_kept true t known fb p2 k k0 kq kb k3 k1 q2 b2 R w dq db dr h rest less q b l3 x (inr s) =
        turned_leads p2 k k0 kq kb k3 k1 q2 b2 R w dq db dr (same_cost (B inside).steps tested_steps (taken_steps p.cond B silent inside true t)) known (subst (λ y. asked_condition no_numbers (with_scalars y) ≡ []) (sym s.2) (truth_within true (span_of (expr_in m p.cond)))) h (fb refl) rest less q b l3 x
    always_kept false t known fb p2 k k0 kq kb k3 k1 q2 b2 R w dq db dr h rest less q b l3 x (inr s) =
        let fst = fq k0 kq done q2 dq (knows_less names i m e k k0 less h) q in
        absurd (true≢false (answer inside kq p.cond true false fst.0.knows text s.1.1 t.value))

    always_leads : (z : Bool) → Takes p.cond B silent inside z → behind2 ≡ inside → (z ≡ true → Part second inside (B inside)) → (k k1 : KnownNumbers) (R u : Block) (d : Change) → Knows names i m e k → Rest n Post next behind2 k R k1
        → Unrolls (unrolling names) (loop l first (test_in m p) second next) k R u k1 d → Leads (whole_bound + n) Post R u k1
    always_leads z t known fb k k1 R u d h rest (u_while {e0 = k0} {eq = kq} {eb = kb} {e3 = k3} {u = w} {q2 = q2} {b2 = b2} {os = os} {is = ns} {p2 = p2} {i = j} {tq = dq} {tb = db} {k = dr} less test q b lb l3 x) =
        let s = kept kq os ns p2 j test in
        always_kept z t known fb p2 k k0 kq kb k3 k1 q2 b2 R w dq db dr h rest less (subst (λ y. Unrolls (unrolling names) first k0 (in_turn y done) q2 kq dq) s.0 q) b l3 x s.1
    always_leads true t known fb k k1 R u d h rest (u_once {e1 = k2} {u = w} {tq = dq} q c x) =
        let fst = fq k k2 w u dq h q in
        absurd (true≢false (sym (answer inside k2 p.cond false true fst.0.knows text c.1.1 t.value)))
    always_leads false t known fb k k1 R u d h rest (u_once {e1 = k2} {u = w} {tq = dq} {k = dr} q c x) =
        let fst = fq k k2 w u dq h q in
        let more = rest k2 w dr (subst (λ v. Ends names i m c0 v k k2) (sym known) fst.0) x in
        (more.0, λ g. fst.1 (more.1 g), then_part (statements_in u) (statements_in w) whole_bound (cost Q.steps) n (statements_in R) (once_cost Q.steps tested_steps) fst.2 more.2)

    asked_kept : Asks p.cond B silent inside → behind2 ≡ inside → Part second inside (B inside) → (p2 : Condition) (k k0 kq kb k3 k1 : KnownNumbers) (q2 b2 R w : Block) (dq db dr : Change) → Knows names i m e k
        → Rest n Post next behind2 k R k1 → KnowsLess k0 k → Unrolls (unrolling names) first k0 done q2 kq dq → Unrolls (unrolling names) second kq done b2 kb db → KnowsLess k3 kq → Unrolls (unrolling names) next k3 R w k1 dr
        → Kept kq p2 → Leads (whole_bound + n) Post R (loop l q2 p2 b2 w) k1
    asked_kept t known fb p2 k k0 kq kb k3 k1 q2 b2 R w dq db dr h rest less q b l3 x (inl s) =
        let fst = fq k0 kq done q2 dq (knows_less names i m e k k0 less h) q in
        turned_leads p2 k k0 kq kb k3 k1 q2 b2 R w dq db dr (within_cost (limits (asked_condition inside p.cond)) (B inside).steps [] tested_steps (asked_steps p.cond B silent inside t)) known (subst (λ y. asked_condition no_numbers (with_scalars y) ≡ []) (sym s.2) (test_within names i m copy.named inside kq fst.0.knows p.cond text s.1 t.none)) h fb rest less q b l3 x
    asked_kept t known fb p2 k k0 kq kb k3 k1 q2 b2 R w dq db dr h rest less q b l3 x (inr s) = absurd (inline_not p.cond t.plain s.0)

    asked_leads : Asks p.cond B silent inside → behind2 ≡ inside → Part second inside (B inside) → (k k1 : KnownNumbers) (R u : Block) (d : Change) → Knows names i m e k → Rest n Post next behind2 k R k1
        → Unrolls (unrolling names) (loop l first (test_in m p) second next) k R u k1 d → Leads (whole_bound + n) Post R u k1
    asked_leads t known fb k k1 R u d h rest (u_while {e0 = k0} {eq = kq} {eb = kb} {e3 = k3} {u = w} {q2 = q2} {b2 = b2} {os = os} {is = ns} {p2 = p2} {i = j} {tq = dq} {tb = db} {k = dr} less test q b lb l3 x) =
        let s = kept kq os ns p2 j test in
        asked_kept t known fb p2 k k0 kq kb k3 k1 q2 b2 R w dq db dr h rest less (subst (λ y. Unrolls (unrolling names) first k0 (in_turn y done) q2 kq dq) s.0 q) b l3 x s.1
    asked_leads t known fb k k1 R u d h rest (u_once q c x) = absurd (inline_not p.cond t.plain c.0)

    pub loop_leads : ((z : Bool) × Takes p.cond B silent inside z) ⊎ Asks p.cond B silent inside → behind2 ≡ inside → (Takes p.cond B silent inside true → Part second inside (B inside)) → (Asks p.cond B silent inside → Part second inside (B inside))
        → (k k1 : KnownNumbers) (R u : Block) (d : Change) → Knows names i m e k → Rest n Post next behind2 k R k1 → Unrolls (unrolling names) (loop l first (test_in m p) second next) k R u k1 d → Leads (whole_bound + n) Post R u k1
    loop_leads (inl (z, t)) known taken asked k k1 R u d h rest made =
        always_leads z t known (λ q. taken (subst (Takes p.cond B silent inside) q t)) k k1 R u d h rest made
    loop_leads (inr t) known taken asked k k1 R u d h rest made = asked_leads t known (asked t) k k1 R u d h rest made

  -- ---- `for`
  module _ (f : Counter) (named : IsNamedCounter i f) (t : Block) (W : KnownNumbers → Walk) (F : KnownNumbers → Type 0) (body : (e : KnownNumbers) → F e → OnlyOnes (W e).steps → Part t e (W e)) where
    rounds_lead : (is : List ℤ) (e : KnownNumbers) → FitsRounds f.counter F W is e → OnlyOnes (rounds f.counter W is e).steps → (k k1 : KnownNumbers) (R u : Block) (ds : Changes) → Knows names i m e k
        → UnrollsEach (unrolling names) (counter_in m f) t is k R u k1 ds → Ends names i m c0 (rounds f.counter W is e).known k k1 × (Good R → Good u) × (statements_in u ≤ cost (rounds f.counter W is e).steps + statements_in R)
    rounds_lead [] e fits ones k k1 R u ds h u_none = (ends_here names i m c0 e k h, λ g. g, none_more (statements_in u))
    rounds_lead (z ∷ zs) e fits ones k k1 R u ds h (u_more {e1 = k2} {u = w} {t = d} {ts = ds2} y x) =
        let e0 = with_number e f.counter (Some z) in
        let k0 = with_number k (var_in m f.counter) (Some z) in
        let p = ones_both (one ∷ (W e0).steps) (rounds f.counter W zs (W e0).known).steps ones in
        let set = set_ends names i m c0 copy e k h f.counter (Some z) (Some z) named.text named.counter.named (λ j q. q) in
        let a = body e0 fits.0 p.0 k0 k2 w u d set.knows y in
        let more = rounds_lead zs (W e0).known fits.1 p.1 k2 k1 R w ds2 a.0.knows x in
        (ends_then names i m c0 e0 (rounds f.counter W zs (W e0).known).known k k0 k1 set (ends_then names i m c0 (W e0).known (rounds f.counter W zs (W e0).known).known k0 k2 k1 a.0 more.0), λ g. a.1 (more.1 g), round_cost (W e0).steps (rounds f.counter W zs (W e0).known).steps (statements_in u) (statements_in w) (statements_in R) a.2 more.2)

    pub each_leads : (n : ℕ) (Post : KnownNumbers → Type 0) (next : Block) (e : KnownNumbers) → FitsRounds f.counter F W (counted_values f.down (number_in e f.from) (number_in e f.to)) e
        → OnlyOnes (rounds f.counter W (counted_values f.down (number_in e f.from) (number_in e f.to)) e).steps → (k k1 : KnownNumbers) (R u : Block) (d : Change) → Knows names i m e k
        → Rest n Post next (with_number (rounds f.counter W (counted_values f.down (number_in e f.from) (number_in e f.to)) e).known f.counter (number_of e f.counter)) k R k1
        → Unrolls (unrolling names) (each (counter_in m f) t next) k R u k1 d → Leads (cost (rounds f.counter W (counted_values f.down (number_in e f.from) (number_in e f.to)) e).steps + n) Post R u k1
    each_leads n Post next e fits ones k k1 R u d h rest (u_for {e1 = k2} {u = w} {is = is} {ts = ds} {k = dr} v es x) =
        let zs = counted_values f.down (number_in e f.from) (number_in e f.to) in
        let from = value_back names i m e k h f.from (constant.Int v.first) named.from.0 v.from.1 in
        let to = value_back names i m e k h f.to (constant.Int v.bound) named.to.0 v.to.1 in
        let same : is ≡ zs = v.values ∙ sym (ap (λ y. counted_values f.down y (number_in e f.to)) (ap the_number from) ∙ ap (counted_values f.down (Some v.first)) (ap the_number to)) in
        let e1 = (rounds f.counter W zs e).known in
        let made = rounds_lead zs e fits ones k k2 w u ds h (subst (λ l. UnrollsEach (unrolling names) (counter_in m f) t l k w u k2 ds) same es) in
        let k3 = with_number k2 (var_in m f.counter) (number_of k (var_in m f.counter)) in
        let back = set_ends names i m c0 copy e1 k2 made.0.knows f.counter (number_of k (var_in m f.counter)) (number_of e f.counter) named.text named.counter.named (λ j q. number_back names i m c0 copy e k h f.counter j named.text q) in
        let more = rest k3 w dr (ends_then names i m c0 e1 (with_number e1 f.counter (number_of e f.counter)) k k2 k3 made.0 back) x in
        (more.0, λ g. made.1 (more.1 g), then_most (statements_in u) (statements_in w) (cost (rounds f.counter W zs e).steps) (cost (rounds f.counter W zs e).steps) n (statements_in R) (as_many (cost (rounds f.counter W zs e).steps)) made.2 more.2)
