use Rattle.std.proofs.Common.{◌≡◌, ◌<◌, ◌↔◌, ◌∙◌, ℕ, IsTrue, Option, None, List, [], length, replicate, sym, ap, subst, arith}
use Rattle.std.specs.List.{All, AllPairs, Contains}
use Rattle.std.proofs.lemmas.List.{length-replicate}
use Rattle.jz_ir.specs.Places.{order_of, refused, meets}
use Rattle.jz_alloc.specs.declared.needs.Needed.{Needed}
use Rattle.jz_alloc.specs.Answers.{HoldsEach}
use Rattle.jz_alloc.specs.InnerNeeds.{need_list}
use Rattle.jz_alloc.specs.Needs.{need_before, Wants}
use Rattle.jz_alloc.proofs.NeedLaw.{each_need, needs_ascend}
use Rattle.jz_alloc.proofs.Orders.{order_below, order_distinct}
use Rattle.jz_alloc.proofs.Meaning.{left_length, left_below}
use Rattle.jz_fit.specs.Branches.{LiveAt}
use Rattle.jz_fit.specs.InnerWants.{is_needed, wanted_at, passing_first}
use Rattle.jz_fit.specs.InnerSeats.{ComesTo, IsDistinct, out_of}
use Rattle.jz_fit.specs.InnerHolding.{IsHeld}
use Rattle.jz_fit.proofs.HolderLemmas.{something_holds}
use Rattle.jz_fit.proofs.Ordering.{order_is}
use Rattle.jz_fit.proofs.placing.answer.Goals as goal
use Rattle.jz_fit.proofs.placing.answer.Goals.{After-as_slice-2, In-Refused}

-- the order is that of the code
ordered : (c : After-as_slice-2) → c.as_slice-2.result.now ≡ order_of c.args.table.now.ops (length c.args.table.now.code.now.kinds)
ordered c = c.as_slice-2.ensures.value ∙ c.in_ok-order.ensures ∙ ap (λ ws. passing_first (λ v. is_needed (wanted_at ws v)) (length ws)) c.as_slice.ensures.value ∙ order_is c.args.table.now c.requires.table

pub place_all-requires-clause-order : goal.place_all-requires-clause-order
place_all-requires-clause-order c =
    let n = length c.args.table.now.code.now.kinds in
    subst (All (λ v. v < n)) (sym (ordered (goal.at.place_all-requires-clause-order c).After-as_slice-2)) (order_below c.args.table.now.ops n)

pub place_all-requires-clause-distinct : goal.place_all-requires-clause-distinct
place_all-requires-clause-distinct c =
    let n = length c.args.table.now.code.now.kinds in
    subst IsDistinct (sym (ordered (goal.at.place_all-requires-clause-distinct c).After-as_slice-2)) (order_distinct c.args.table.now.ops n)

pub returns-in-Placed : goal.returns-in-Placed
returns-in-Placed c =
    subst (λ o. ComesTo c.args.table.now (order_of c.args.table.now.ops (length c.args.table.now.code.now.kinds)) o) (ap out_of c.in-Placed.is)
    (subst (λ vs. ComesTo c.args.table.now vs (out_of c.in_ok-places.field-0)) (ordered (goal.at.returns-in-Placed c).After-as_slice-2) c.in_ok-places.ensures)

-- first fit, as it refuses
refusal : (c : In-Refused) → ComesTo c.args.table.now (order_of c.args.table.now.ops (length c.args.table.now.code.now.kinds)) (refused c.in-Refused.variable c.in-Refused.places.items)
refusal c =
    subst (λ o. ComesTo c.args.table.now (order_of c.args.table.now.ops (length c.args.table.now.code.now.kinds)) o) (ap out_of c.in-Refused.is)
    (subst (λ vs. ComesTo c.args.table.now vs (out_of c.in_ok-places.field-0)) (c.as_slice-2.ensures.value ∙ c.in_ok-order.ensures ∙ ap (λ ws. passing_first (λ v. is_needed (wanted_at ws v)) (length ws)) c.as_slice.ensures.value ∙ order_is c.args.table.now c.requires.table) c.in_ok-places.ensures)

pub holders_of-requires-clause-places : goal.holders_of-requires-clause-places
holders_of-requires-clause-places c =
    let f = refusal (goal.at.holders_of-requires-clause-places c).In-Refused in
    ap length c.as_slice-in-Refused-2.ensures.value ∙ left_length f ∙ length-replicate {A = Option ℕ} (length c.args.table.now.code.now.kinds) None

pub holders_of-requires-clause-variable : goal.holders_of-requires-clause-variable
holders_of-requires-clause-variable c =
    let n : ℕ = length c.args.table.now.code.now.kinds in
    let f = refusal (goal.at.holders_of-requires-clause-variable c).In-Refused in
    let l = left_below n (order_below c.args.table.now.ops n) f in
    let e = ap length c.as_slice-in-Refused-2.ensures.value ∙ left_length f ∙ length-replicate {A = Option ℕ} n None in
    omega (arith, l, e)

pub holders_of-requires-clause-held : goal.holders_of-requires-clause-held
holders_of-requires-clause-held c =
    let t = c.args.table.now in
    let n : ℕ = length t.code.now.kinds in
    let f = refusal (goal.at.holders_of-requires-clause-held c).In-Refused in
    λ q ql m h. something_holds t.ops t.code.now.kinds t.code.now.in_use (LiveAt t.code.now) (order_of t.ops n) (replicate n None) c.in-Refused.variable c.in-Refused.places.items f q m
    (λ g. h (subst (λ x. IsHeld t.ops (LiveAt t.code.now) x c.in-Refused.variable q) (sym c.as_slice-in-Refused-2.ensures.value) g))

pub returns : goal.returns
returns c =
    let t = c.args.table.now in
    let v = c.in-Refused.variable in
    let same = c.in_ok-needs-in-Refused.ensures ∙ ap (λ ops. need_list v ops []) c.as_slice-in-Refused.ensures in
    record {
      places = c.in-Refused.places.items;
      is_first = refusal (goal.at.returns c).In-Refused;
      text_order = subst (AllPairs (λ a b. IsTrue (need_before a b))) (sym same) (needs_ascend v t.ops);
      each_need = λ k. subst (λ (xs : List Needed). Contains xs k ↔ Wants v k t.ops) (sym same) (each_need v t.ops k);
      holders = subst (λ x. HoldsEach t.ops (LiveAt t.code.now) x v (meets t.code.now.kinds t.code.now.in_use t.ops v) 20 c.in_ok-holders-in-Refused.holders) c.as_slice-in-Refused-2.ensures.value c.in_ok-holders-in-Refused.ensures;
    }
