-- How far the lines of a listing have come.
use Rattle.std.specs.Prelude.{◌≡◌, ℕ, List, [], ◌∷◌, ◌++◌, Bool, true, false, ◌&&◌}
use Rattle.std.specs.Prelude.{if◌then◌else◌, Option, Some, None, Result, Ok, Err}
use Rattle.jz_data.specs.declared.failure.Failure.{Failure}
use Rattle.jz_data.specs.declared.failure.Failure.TheVariants.{Refused, OutOfMemory}
use Rattle.jz_io.specs.declared.verdict.Ct.TheVariants as ct
use Rattle.jz_listing.specs.declared.compiled.Arg.{Arg}
use Rattle.jz_listing.specs.declared.compiled.Pre.{Pre}
use Rattle.jz_listing.specs.declared.compiled.Compiled.{Compiled}
use Rattle.jz_listing_lines.specs.declared.line.Line.{Line}
use Rattle.jz_listing_lines.specs.declared.line.Line.TheVariants as line
use Rattle.jz_listing_read.specs.declared.state.Stage.{Stage}
use Rattle.jz_listing_read.specs.declared.state.Stage.TheVariants as stage
use Rattle.jz_listing_read.specs.declared.state.State.{State}
use Rattle.jz_listing_read.specs.declared.state.Unfit.{Unfit}

abbrev pub blank : List ℕ → Compiled
blank name = record {
  name = name;
  args = [];
  rets = [];
  pre = [];
  frame = 0;
  saved = [];
  insns = 0;
  code = [];
  tr = record { before = []; body = record { cases = [] }; after = [] };
  ct = ct.Yes;
}

abbrev pub at : Stage → List Compiled → Compiled → State
at s done fun = record { stage = s; done = done; fun = fun }

abbrev pub start : State
start = at stage.First [] (blank [])

abbrev pub is_none : {A : Type 0} → List A → Bool
is_none [] = true
is_none (x ∷ xs) = false

unfoldable pub outside_at : Stage → List Compiled → Compiled → Line → Option State
outside_at stage.First done fun line.First = Some (at stage.Outside done fun)
outside_at stage.Outside done fun (line.Fn name) = Some (at stage.Interface done (blank name))
outside_at s done fun l = None

abbrev pub outside : State → Line → Option State
outside s l = outside_at s.stage s.done s.fun l

unfoldable pub with_arg : List Compiled → Compiled → Arg → Option State
with_arg done fun a =
    if is_none fun.rets && is_none fun.pre
    then Some (at stage.Interface done (record fun { args = fun.args ++ a ∷ [] })) else None

unfoldable pub with_ret : List Compiled → Compiled → Arg → Option State
with_ret done fun r =
    if is_none fun.pre
    then Some (at stage.Interface done (record fun { rets = fun.rets ++ r ∷ [] })) else None

abbrev pub with_pre : List Compiled → Compiled → Pre → State
with_pre done fun p = at stage.Interface done (record fun { pre = fun.pre ++ p ∷ [] })

unfoldable pub interface : List Compiled → Compiled → Line → Option State
interface done fun (line.Arg a) = with_arg done fun a
interface done fun (line.Ret r) = with_ret done fun r
interface done fun (line.Pre p) = Some (with_pre done fun p)
interface done fun (line.Frame size) = Some (at stage.Saved done (record fun { frame = size }))
interface done fun l = None

unfoldable pub machine : Stage → List Compiled → Compiled → Line → Option State
machine stage.Saved done fun (line.Saved regs) =
    Some (at stage.Insns done (record fun { saved = regs }))
machine stage.Insns done fun (line.Insns count) =
    Some (at stage.Code done (record fun { insns = count }))
machine stage.Code done fun (line.Code bytes) =
    Some (at stage.Leakage done (record fun { code = bytes }))
machine s done fun l = None

abbrev pub whole : List Compiled → Compiled → State
whole done fun = at stage.Outside (done ++ fun ∷ []) (blank [])

unfoldable pub verdict_at : Stage → List Compiled → Compiled → Line → Option State
verdict_at stage.Leakage done fun (line.Leakage tr) =
    Some (at stage.Ct done (record fun { tr = tr }))
verdict_at stage.Ct done fun (line.Ct c) = Some (at stage.End done (record fun { ct = c }))
verdict_at stage.End done fun line.End = Some (whole done fun)
verdict_at s done fun l = None

abbrev pub verdict : State → Line → Option State
verdict s l = verdict_at s.stage s.done s.fun l

abbrev pub take_at : Stage → State → Line → Option State
take_at stage.First s l = outside s l
take_at stage.Outside s l = outside s l
take_at stage.Interface s l = interface s.done s.fun l
take_at stage.Saved s l = machine s.stage s.done s.fun l
take_at stage.Insns s l = machine s.stage s.done s.fun l
take_at stage.Code s l = machine s.stage s.done s.fun l
take_at stage.Leakage s l = verdict s l
take_at stage.Ct s l = verdict s l
take_at stage.End s l = verdict s l

-- one line more, if it may come next
unfoldable pub take : State → Line → Option State
take s l = take_at s.stage s l

-- what the code answers
abbrev pub Took : Result State (Failure Unfit) → Option State → Type 0
Took (Ok s) o = o ≡ Some s
Took (Err (Refused e)) o = o ≡ None
Took (Err OutOfMemory) o = Unit {0}
