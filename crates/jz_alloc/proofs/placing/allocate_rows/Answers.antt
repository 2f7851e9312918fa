use Rattle.std.proofs.Common.{◌≢◌, ◌∙◌, sym, ap, subst, ℕ, arith, IsTrue, ◌↔◌, ◌<◌, length, get_or, None, replicate, Option, List}
use Rattle.std.specs.List.{All, AllPairs, Contains}
use Rattle.std.proofs.lemmas.List.{length-replicate}
use Rattle.jz_ir.specs.Places.{First, order_of, refused}
use Rattle.jz_alloc.specs.Tables.{row_has}
use Rattle.jz_alloc.specs.Fit.{MeetsIn, ConflictsIn, TakenIn, out_of}
use Rattle.jz_alloc.specs.InnerHolding.{IsHeld, LiveIn}
use Rattle.jz_alloc.specs.declared.needs.Needed.{Needed}
use Rattle.jz_alloc.specs.Needs.{need_before, Wants}
use Rattle.jz_alloc.proofs.NeedLaw.{each_need, needs_ascend}
use Rattle.jz_alloc.proofs.Orders.{order_below, order_distinct}
use Rattle.jz_alloc.proofs.Meaning.{first_by_paths, something_holds, moved, left_length, left_below, to_out, holders_moved}
use Rattle.jz_alloc.proofs.placing.allocate_rows.Goals as goal
use Rattle.jz_alloc.proofs.placing.allocate_rows.Goals.{In_ok-places, In-Refused}

pub place_all-requires-clause-order : goal.place_all-requires-clause-order
place_all-requires-clause-order c =
    subst (λ xs. All (λ v. v < length c.as_slice-3.result.now) xs) (sym (c.as_slice.ensures.value ∙ c.in_ok-order.ensures))
    (subst (λ n. All (λ v. v < n) (order_of c.args.ops.now (length c.args.kinds.now))) (sym (ap length c.as_slice-3.ensures.value ∙ c.in_ok-rows.ensures.rows)) (order_below c.args.ops.now (length c.args.kinds.now)))

pub place_all-requires-clause-distinct : goal.place_all-requires-clause-distinct
place_all-requires-clause-distinct c =
    subst (λ xs. (i j : ℕ) → i < j → j < length xs → get_or xs i 0 ≢ get_or xs j 0) (sym (c.as_slice.ensures.value ∙ c.in_ok-order.ensures)) (order_distinct c.args.ops.now (length c.args.kinds.now))

pub returns-in-Placed : goal.returns-in-Placed
returns-in-Placed c =
    let f = moved _ _ _ _ _ _ _ (length c.args.kinds.now) _ c.as_slice-2.ensures.value c.as_slice-3.ensures.value (c.as_slice.ensures.value ∙ c.in_ok-order.ensures) c.in_ok-rows.ensures.rows c.in_ok-places.ensures in
    first_by_paths c.args.ops.now c.args.kinds.now c.args.in_use.now c.args.after.now c.in_ok-meets.meets.items c.in_ok-taken.taken.items c.in_ok-rows.rows.items c.requires.below c.in_ok-rows.ensures.rows c.in_ok-meets.ensures.set c.in_ok-taken.ensures.set c.in_ok-rows.ensures.set
    (order_below c.args.ops.now (length c.args.kinds.now)) (to_out (ap out_of c.in-Placed.is) f)

-- first fit, as it refuses
refusal : (c : In-Refused) → First (MeetsIn c.in_ok-meets.meets.items) (ConflictsIn c.in_ok-rows.rows.items) (TakenIn c.in_ok-taken.taken.items) (order_of c.args.ops.now (length c.args.kinds.now)) (replicate (length c.args.kinds.now) None) (refused c.in-Refused.variable c.in-Refused.places.items)
refusal c =
    let f = moved _ _ _ _ _ _ _ (length c.args.kinds.now) _ c.as_slice-2.ensures.value c.as_slice-3.ensures.value (c.as_slice.ensures.value ∙ c.in_ok-order.ensures) c.in_ok-rows.ensures.rows c.in_ok-places.ensures in
    to_out (ap out_of c.in-Refused.is) f

pub holders_of-requires-clause-vars : goal.holders_of-requires-clause-vars
holders_of-requires-clause-vars c =
    let e = left_length (refusal (goal.at.holders_of-requires-clause-vars c).In-Refused) in
    let n = length-replicate {A = Option ℕ} (length c.args.kinds.now) None in
    let v = ap length c.as_slice-in-Refused-2.ensures.value in
    omega (arith, e, n, v, c.requires.vars)

pub holders_of-requires-clause-held : goal.holders_of-requires-clause-held
holders_of-requires-clause-held c =
    let f = refusal (goal.at.holders_of-requires-clause-held c).In-Refused in
    λ q ql m h. something_holds c.args.ops.now c.args.kinds.now c.args.in_use.now c.args.after.now c.in_ok-meets.meets.items c.in_ok-taken.taken.items c.in_ok-rows.rows.items c.requires.below c.in_ok-rows.ensures.rows c.in_ok-meets.ensures.set c.in_ok-taken.ensures.set c.in_ok-rows.ensures.set
    (order_below c.args.ops.now (length c.args.kinds.now)) f q ql
    (subst (λ x. IsTrue (row_has x q c.in-Refused.variable)) c.as_slice-in-Refused.ensures.value m)
    (λ g. h (subst (λ x. IsHeld c.args.ops.now c.args.after.now x c.in-Refused.variable q) (sym c.as_slice-in-Refused-2.ensures.value) g))

pub returns : goal.returns
returns c =
    let f = refusal (goal.at.returns c).In-Refused in
    let l = left_below (length c.args.kinds.now) (order_below c.args.ops.now (length c.args.kinds.now)) f in
    let hs = c.in_ok-holders-in-Refused.ensures in
    record {
      places = c.in-Refused.places.items;
      is_first = first_by_paths c.args.ops.now c.args.kinds.now c.args.in_use.now c.args.after.now c.in_ok-meets.meets.items c.in_ok-taken.taken.items c.in_ok-rows.rows.items c.requires.below c.in_ok-rows.ensures.rows c.in_ok-meets.ensures.set c.in_ok-taken.ensures.set c.in_ok-rows.ensures.set
          (order_below c.args.ops.now (length c.args.kinds.now)) f;
      text_order = subst (AllPairs (λ a b. IsTrue (need_before a b))) (sym c.in_ok-needs-in-Refused.ensures) (needs_ascend c.in-Refused.variable c.args.ops.now);
      each_need = λ k. subst (λ (xs : List Needed). Contains xs k ↔ Wants c.in-Refused.variable k c.args.ops.now) (sym c.in_ok-needs-in-Refused.ensures) (each_need c.in-Refused.variable c.args.ops.now k);
      holders = holders_moved c.args.ops.now c.args.kinds.now c.args.in_use.now (LiveIn c.args.after.now) c.in-Refused.places.items c.as_slice-in-Refused-2.result.now c.in-Refused.variable c.in_ok-meets.meets.items c.as_slice-in-Refused.result.now c.in_ok-holders-in-Refused.holders c.as_slice-in-Refused-2.ensures.value c.as_slice-in-Refused.ensures.value l c.in_ok-meets.ensures.set hs;
    }
