use Rattle.std.proofs.Common.{◌≡◌, ap, sym, ◌∙◌, length, map}
use Rattle.std.specs.Prelude.{option_map}
use Rattle.std.specs.Iterator.Adapters.{zip_first, zip_second}
use Rattle.std.specs.Slice.Iter.{iter_rest}
use Rattle.std.proofs.lemmas.Slice.Zip.{Zip-more, either_empty_from_Zip}
use Rattle.jz_meaning.specs.Rules.{stuck}
use Rattle.jz_meaning.specs.Assignments.{written, all_written}
use Rattle.jz_meaning.specs.Attempts.{changed, numbers_first}
use Rattle.jz_meaning.specs.States.{as_value}
use Rattle.jz_meaning.specs.Stores.{state_of}
use Rattle.jz_meaning.proofs.AttemptLemmas.{handed_on}
use Rattle.jz_run_assign.proofs.Writing.{next_written, next_stuck, still_in_step, one_left_over}
use Rattle.jz_run_assign.proofs.left.write_all.Goals as goal

pub returns-in_err-write : goal.returns-in_err-write
returns-in_err-write c =
    let now = c.loop-left.left-iterator in
    let next = c.next.new.self in
    let both = Zip-more now next c.next.result (c.in-Some.left, c.in-Some.value) c.in-Some.is c.next.ensures.steps in
    let d = c.in-Some.left.now in
    let v = c.in-Some.value.now in
    let ns = c.loop-left.out in
    let ks = c.write.new.out in
    let s = state_of c.loop-left.state in
    let t = state_of c.write.new.state in
    let whole = numbers_first c.args.out.now (all_written c.args.span c.args.size c.args.to.now (map (option_map as_value) c.args.values.now) (state_of c.args.state.now)) in
    handed_on c.from_residual.result c.in_err-write.field-0.0 (λ r. changed ks t r ≡ numbers_first ns (written c.args.size d (option_map as_value v) s))
    (λ r. changed ks t r ≡ whole) c.from_residual.ensures.1 c.in_err-write.ensures
    (λ k h. next_stuck c.args.span c.args.size (iter_rest (zip_first now)) (iter_rest (zip_first next)) (iter_rest (zip_second now)) (iter_rest (zip_second next)) d v s ns k whole both.0 both.1 h c.loop-left.invariant.0)

pub loop-left-preserved : goal.loop-left-preserved
loop-left-preserved c =
    let now = c.loop-left.left-iterator in
    let next = c.next.new.self in
    let both = Zip-more now next c.next.result (c.in-Some.left, c.in-Some.value) c.in-Some.is c.next.ensures.steps in
    let d = c.in-Some.left.now in
    let v = c.in-Some.value.now in (
      next_written c.args.span c.args.size (iter_rest (zip_first now)) (iter_rest (zip_first next)) (iter_rest (zip_second now)) (iter_rest (zip_second next)) d v (state_of c.loop-left.state)
          (state_of c.write.new.state) c.loop-left.out c.write.new.out _ both.0 both.1 c.in_ok-write.ensures c.loop-left.invariant.0,
      still_in_step (length c.args.to.now) (length c.args.values.now) (iter_rest (zip_first now)) (iter_rest (zip_first next)) (iter_rest (zip_second now)) (iter_rest (zip_second next)) d v both.0 both.1 c.loop-left.invariant.1,
    )

pub returns-else-len-values : goal.returns-else-len-values
returns-else-len-values c =
    let now = c.loop-left.left-iterator in
    ap stuck c.missing.ensures
    ∙ one_left_over c.args.span c.args.size (length c.args.to.now) (length c.args.values.now) (iter_rest (zip_first now)) (iter_rest (zip_second now)) (state_of c.loop-left.state) c.loop-left.out _
    (either_empty_from_Zip now c.next.new.self c.next.result c.in-None.is c.next.ensures.steps) (λ e. c.if-len-values.false (c.len.ensures ∙ e)) c.loop-left.invariant.1 c.loop-left.invariant.0
