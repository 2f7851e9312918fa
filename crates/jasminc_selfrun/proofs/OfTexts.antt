-- The summed-up run of the function of a text that was made.
use Rattle.std.proofs.Common.{◌≡◌, ℕ, List, Option, None, Some, Ok, refl, sym, subst}
use Rattle.std.specs.Prelude.{Result, Err, slice_get}
use Rattle.jz_tree.specs.Failure.{Failure}
use Rattle.jz_tree.specs.Failure.TheVariants as failure
use Rattle.jz_tree.specs.Failures.{IfAnswered}
use Rattle.jz_tree.specs.declared.program.Fun.{Fun}
use Rattle.jz_tree.specs.declared.program.Program.{Program}
use Rattle.jz_limits.specs.declared.limit.Limit.{Limit}
use Rattle.jz_first_limit.specs.FirstLimits.{IsWithinLimits, PassesFirst, expanded_count}
use Rattle.jz_first_limit.proofs.Answering.{one_answer}
use Rattle.jz_items.specs.declared.item.Item.{Item}
use Rattle.jz_listing.specs.declared.compiled.Compiled.{Compiled}
use Rattle.jasminc_calls.specs.declared.fitting.Unfit.{Unfit}
use Rattle.jasminc_calls.specs.declared.fitting.Unfit.TheVariants as misfit
use Rattle.jasminc_runs.specs.declared.telling.Ran.{Ran}
use Rattle.jasminc_called.specs.declared.making.MadeFor.{MadeFor}
use Rattle.jasminc_called.specs.declared.calling.Told.{Told}
use Rattle.jasminc_called.specs.declared.refused.Refused.{Refused}
use Rattle.jasminc_called.specs.Making.{IsCompiledAs, IsMadeFor}
use Rattle.jasminc_called.specs.Answers.{Answers}
use Rattle.jasminc_called.specs.Calls.{as_refusal, CallAnswers}
use Rattle.jasminc_called.proofs.Named.{function_so}
use Rattle.jasminc_called.proofs.Answering.{call_fails, call_done}
use Rattle.jasminc_selfrun.specs.Calling.{main_name, main_items, SumsUpOn, SumAnswers, SumsUpProgram, origin_of}

-- what is within the limits passes none
pub passes_none : (p : Program) (f : Fun) (limit : Limit) → IsWithinLimits p f → PassesFirst p f limit → ⊥
passes_none p f limit within passes = let e : ◌≡◌ {A = Option Limit} None (Some limit) = one_answer p f None (Some limit) within passes in cc

same_fun : (f g : Fun) (o : Option Fun) → o ≡ Some f → o ≡ Some g → f ≡ g
same_fun f g o p q = cc

module _ (text fun : List ℕ) (m : MadeFor) (h : IsMadeFor text fun m) where
  -- the function at the place is within the limits
  pub within_there : (f : Fun) → slice_get m.typed.program.funs m.place ≡ Some f → IsWithinLimits m.typed.program f
  within_there f there =
      subst (IsWithinLimits m.typed.program) (same_fun h.ready.function f (slice_get m.typed.program.funs m.place) h.ready.there there) h.ready.within

  module _ (seed size : ℕ) (items : List Item) (c : Compiled) (k : IsCompiledAs m.typed.program fun m.functions c) where
    -- what is told of it, by its own count of statements
    pub sum_answers : (fuel count : ℕ) (f : Fun) → slice_get m.typed.program.funs m.place ≡ Some f → count ≡ expanded_count m.typed.program f → (answer : Result Ran (Failure Unfit))
        → IfAnswered answer (SumAnswers (record { seed = seed; size = size; statements = count }) f c items fuel)
        → IfAnswered (as_refusal answer) (CallAnswers (SumsUpProgram seed size items fuel) fun items m)
    sum_answers fuel count f there counted (Ok ran) on =
        let same = function_so text fun m h f there c k in
        let told : SumsUpOn (origin_of seed size m.typed.program f) f c items fuel ran =
        subst (λ n. SumsUpOn (record { seed = seed; size = size; statements = n }) f c items fuel ran) counted on in
        let to = subst (λ (g : Fun). SumsUpProgram seed size items fuel m.typed.program g c ran) (sym same) told in
        record { compiled = c; is_compiled = k; many = to.many; held = to.held; tells = to }
    sum_answers fuel count f there counted (Err (failure.Refused misfit.Items)) on = record { function = f; there = there; why = misfit.Items; is = refl; unfit = on }
    sum_answers fuel count f there counted (Err (failure.Refused (misfit.Unmet pre))) on = record { function = f; there = there; why = misfit.Unmet pre; is = refl; unfit = on }
    sum_answers fuel count f there counted (Err failure.OutOfMemory) on = tt

-- ---- the answer of the text
module _ (seed size fuel : ℕ) (text : List ℕ) (m : MadeFor) (h : IsMadeFor text main_name m) (items : List Item) (same : items ≡ main_items) where
  pub sum_fails : (e : Failure Refused) → IfAnswered {A = Ran} (Err e) (CallAnswers (SumsUpProgram seed size items fuel) main_name items m)
      → IfAnswered {A = Told} (Err e) (Answers (SumsUpProgram seed size main_items fuel) text main_name main_items)
  sum_fails e k =
      call_fails (SumsUpProgram seed size main_items fuel) text main_name main_items m h e
      (subst (λ (is : List Item). IfAnswered {A = Ran} (Err e) (CallAnswers (SumsUpProgram seed size is fuel) main_name is m)) same k)

  pub sum_done : (ran : Ran) (told : Told) → told ≡ record { ran = ran; functions = m.functions } → IfAnswered {E = Refused} (Ok ran) (CallAnswers (SumsUpProgram seed size items fuel) main_name items m)
      → IfAnswered {E = Refused} (Ok told) (Answers (SumsUpProgram seed size main_items fuel) text main_name main_items)
  sum_done ran told is k =
      call_done (SumsUpProgram seed size main_items fuel) text main_name main_items m h ran told is
      (subst (λ (is : List Item). IfAnswered {E = Refused} (Ok ran) (CallAnswers (SumsUpProgram seed size is fuel) main_name is m)) same k)
