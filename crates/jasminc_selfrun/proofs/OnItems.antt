-- The summed-up run of a compiled export function on items.
use Rattle.std.proofs.Common.{ℕ, ◌+◌, ◌<◌, ◌≤◌, ◌^◌, List, [], ◌∷◌, length, codes, subst, arith, refl}
use Rattle.std.specs.Prelude.{Err}
use Rattle.jz_tree.specs.Failure.{Failure}
use Rattle.jz_tree.specs.Failure.TheVariants as failure
use Rattle.jz_tree.specs.Failures.{IfAnswered}
use Rattle.jz_tree.specs.declared.program.Fun.{Fun}
use Rattle.jz_tree.specs.declared.program.Program.{Program}
use Rattle.jz_items.specs.declared.item.Item.{Item}
use Rattle.jz_items.specs.Items.{words_of, ItemsFit, AreItems}
use Rattle.jz_items.proofs.Fitting.{items_fit}
use Rattle.jz_listing.specs.declared.compiled.Compiled.{Compiled}
use Rattle.jasminc_calls.specs.declared.calls.Called.{Called}
use Rattle.jasminc_calls.specs.declared.fitting.Unfit.{Unfit}
use Rattle.jasminc_calls.specs.Calls.{argument_words}
use Rattle.jasminc_calls.specs.Fitting.{Suits, CallAnswers}
use Rattle.jasminc_calls.proofs.Suiting.{meets_so}
use Rattle.jasminc_steps.specs.Starting.{code_base}
use Rattle.jasminc_starts.specs.Starting.{AreLowBits}
use Rattle.jasminc_starts.proofs.Apart.{stand_apart}
use Rattle.jasminc_starts.proofs.Arguments.{low_bits_of}
use Rattle.jasminc_starts.proofs.Starts.{starts}
use Rattle.jasminc_runs.specs.declared.telling.Ran.{Ran}
use Rattle.jasminc_runs.specs.Calling.{IsRunnable}
use Rattle.jasminc_selfrun.specs.declared.summing.Origin.{Origin}
use Rattle.jasminc_selfrun.specs.Running.{RunsTo}
use Rattle.jasminc_selfrun.specs.Calling.{main_items, SumsUpOn, SumAnswers}

-- the items are those of some words
pub are_main_items : AreItems main_items
are_main_items = (codes "2" ∷ codes "3" ∷ codes "4" ∷ codes "0" ∷ [], refl)

module _ (o : Origin) (p : Program) (f : Fun) (c : Compiled) (items : List Item) (h : IsRunnable p f c) (given : AreItems items) (short : length c.code < 2 ^ 63) where
  fits : code_base + length c.code ≤ 2 ^ 64
  fits = omega (arith, short)

  fit : ItemsFit items
  fit = items_fit given.0 items given.1

  module _ (called : Called) (s : Suits f items called) where
    low : AreLowBits c.args (words_of items) (argument_words f items)
    low = (low_bits_of f c items h.compilation.args s.many).0

    pub sums_on : (fuel : ℕ) (ran : Ran) → RunsTo o c f called.bits items fuel ran → SumsUpOn o f c items fuel ran
    sums_on fuel ran r =
        let runs = subst (λ ws. RunsTo o c f ws items fuel ran) s.call.bits r in
        record {
          many = s.many;
          held = s.held;
          runs = runs;
          meets = meets_so f items called s p h.is_export runs.is_start.input runs.is_start.holds;
          starts = starts f c (argument_words f items) items runs.memory h.compilation.args h.compilation.pre fit low (stand_apart items given) h.small fits runs.is_start;
        }

-- refusals are those of items
pub refused_too : (o : Origin) (f : Fun) (c : Compiled) (items : List Item) (fuel : ℕ) (e : Failure Unfit) → IfAnswered {A = Called} (Err e) (CallAnswers f items) → IfAnswered {A = Ran} (Err e) (SumAnswers o f c items fuel)
refused_too o f c items fuel (failure.Refused u) h = h
refused_too o f c items fuel failure.OutOfMemory h = tt
