-- What has operations is refused at no place.
use Rattle.std.proofs.Common.{◌≡◌, inl, inr, ◌<◌, ◌≤◌, ◌^◌, List, [], ◌∷◌, ◌++◌, length, All, Some, None, sym, ◌∙◌, subst}
use Rattle.x64_insn.specs.declared.types.Reg.{Reg}
use Rattle.jz_tree.specs.Span.{Span}
use Rattle.jz_tree.specs.declared.expr.Var.{Var}
use Rattle.jz_tree.specs.declared.program.Fun.{Fun}
use Rattle.jz_type_names.specs.Scopes.{variables_of}
use Rattle.jz_meaning.specs.Values.{key_of, ref_of}
use Rattle.jz_change.specs.Views.{change_of}
use Rattle.jz_correct.specs.Registers.{argument_registers, result_registers}
use Rattle.jz_place.specs.declared.tree.Passed.{Passed}
use Rattle.jz_codable.specs.Ready.{parts_of, IsShort, IsReady}
use Rattle.jz_homes.specs.Homes.{Homes, in_register}
use Rattle.jz_lowered.specs.Functions.{ArePassed, none_passed, one_passed}
use Rattle.jz_lowering.specs.declared.functions.LoweredFun.{LoweredFun}
use Rattle.jz_lowering.specs.Passing.{CannotPass}
use Rattle.jz_lowering.specs.Functions.{plain_body, homes_for, IsFunctionLowered, Refuses, no_home, no_argument, no_result, no_operations, too_long}
use Rattle.jz_lowering.proofs.FunctionLemmas.{lowered_have_code}
use Rattle.jz_one_function.proofs.Bodies.{one_function}
use Rattle.jz_stack.specs.Laying.{end_from}
use Rattle.jz_compiling.specs.Refused.{stack_end}
use Rattle.jz_exact_refusals.specs.ExactRefusals.{LoweredIsNotRefused, CompiledIsNotRefused, UnplacedIsNotRefused}
use Rattle.jz_exact_refusals.proofs.Fitting.{IsFit}
use Rattle.jz_exact_refusals.proofs.Frames.{expansion_fits}
use Rattle.jz_exact_refusals.proofs.Homed.{none_homeless}

-- ---- parameters and results
some_none : {A : Type 0} (x : A) → Some x ≡ None → ⊥
some_none x e = absurd cc

module _ (home : Homes) where
  all_passed : {rs : List Reg} {xs : List Var} {ps : List Passed} → ArePassed home rs xs ps → (front : List Var) (x : Var) (back : List Var) → xs ≡ front ++ (x ∷ back) → CannotPass home rs (length front) x → ⊥
  all_passed none_passed [] x back e c = absurd cc
  all_passed none_passed (y ∷ front) x back e c = absurd cc
  all_passed (one_passed {r = r} z at span reg next) [] x back e (inl n) = some_none r n
  all_passed (one_passed {x = w} {p = p} z at span reg next) [] x back e (inr none) =
      let same : w ≡ x = cc in
      none p.variable.variable z (subst (λ v. home (key_of (ref_of v)) ≡ Some (in_register p.variable.variable z)) same at)
  all_passed (one_passed {xs = ws} z at span reg next) (y ∷ front) x back e c =
      let rest : ws ≡ front ++ (x ∷ back) = cc in
      all_passed next front x back rest c

-- ---- two functions over variables of one function
module _ (g : Fun) (l m : LoweredFun) (is : IsFunctionLowered g l (change_of l.change)) (made : IsFunctionLowered g m (change_of m.change)) where
  short_too : IsReady l.ir → IsShort m.ir
  short_too ready =
      let one = (one_function (homes_for g) argument_registers result_registers g (plain_body g) l.ir m.ir (change_of l.change) (change_of m.change) is.lowered made.lowered).0 in
      record {
        count = subst (λ ks. length ks < 2 ^ 32) (is.kinds ∙ sym made.kinds) ready.count;
        short = subst (λ b. parts_of b < 2 ^ 26) one.body ready.short;
      }

-- ---- the whole
module _ (g : Fun) (fit : All IsFit (variables_of g)) (l : LoweredFun) (is : IsFunctionLowered g l (change_of l.change)) (ready : IsReady l.ir) (within : stack_end g ≤ 65536) where
  not_refused : (at : Span) → Refuses g at → ⊥
  not_refused at (no_home h) = none_homeless (variables_of g) fit (subst (λ ks. length ks < 2 ^ 32) is.kinds ready.count) within at h
  not_refused at (no_argument h) = all_passed (homes_for g) is.lowered.entry h.front h.var h.back h.split h.none
  not_refused at (no_result ps passed h) = all_passed (homes_for g) is.lowered.returned h.front h.var h.back h.split h.none
  not_refused at (no_operations ps rs passed returned first) = lowered_have_code g l (change_of l.change) at is first
  not_refused _ (too_long why m made long) = long (short_too g l m is made ready)

pub lowered_not_refused : LoweredIsNotRefused
lowered_not_refused p f g k count l x is ready within = not_refused g (expansion_fits p f g k count x) l is ready within

pub made_not_refused : CompiledIsNotRefused
made_not_refused p f g k j count c x made =
    lowered_not_refused p f g k count made.lowered x made.is_lowered made.ready (subst (λ s. end_from 0 s ≤ 65536) made.is_lowered.stack made.is_code.within)

pub unplaced_not_refused : UnplacedIsNotRefused
unplaced_not_refused p f g k count n x less = lowered_not_refused p f g k count less.1.lowered x less.1.is_lowered less.1.ready less.0
