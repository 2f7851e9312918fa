-- A change and the cases of a last pass behind it: cases of the items that the change is for. Where
-- nothing fits, what stands there may be anything, as no leak reaches it.
use Rattle.std.specs.Prelude.{ℕ, ◌≡◌, ◌*◌, Bool, true, false, List, [], ◌∷◌, ◌++◌, map, pos, ℤ, ◌+ℤ◌, slice_index_or}
use Rattle.jz_words.specs.declared.size.Size.TheVariants.{S64}
use Rattle.jz_words.specs.Sizes.{signed}
use Rattle.jz_words.specs.Words.{residue}
use Rattle.jz_leak.specs.declared.transformer.Form.{Form}
use Rattle.jz_leak.specs.declared.transformer.Form.TheVariants as form
use Rattle.jz_leak.specs.declared.transformer.Out.{Out}
use Rattle.jz_leak.specs.declared.transformer.Out.TheVariants as out
use Rattle.jz_leak.specs.declared.transformer.Tr.{Tr}
use Rattle.jz_leak.specs.declared.transformer.Case.{Case}
use Rattle.jz_leak.specs.declared.transformer.Case.TheVariants.{Op}
use Rattle.jz_leak.specs.declared.transformer.Case.TheOpen.{Case-F}
use Rattle.jz_leak.specs.declared.transformer.Case.TheViews.{out-Case, roll-Case}
use Rattle.jz_leak.specs.declared.transformer.Transformer.{Transformer}
use Rattle.jz_leak.specs.RunLeaks.{Leak}
use Rattle.jz_leak.specs.Applying.{Layer, apply_of, Fits}
use Rattle.jz_change.specs.declared.change.Number.{Number}
use Rattle.jz_change.specs.declared.change.Number.TheVariants.{Fixed, Nth}
use Rattle.jz_change.specs.declared.change.Numbers.{Numbers}
use Rattle.jz_change.specs.declared.change.Numbers.TheVariants.{Same, These}
use Rattle.jz_change.specs.Changes.{Change, ends, ops, stays_if, arm, stays_while, once, stays_for, unrolled, opened, Changes, none, more, map_of}
use Rattle.jz_change.specs.Fitting.{LeakFits}

-- ---- forms by the numbers of an item between

abbrev pub form_of : Number → Form
form_of (Fixed n) = form.Num n
form_of (Nth i) = form.Leaked i

-- a scaled number that is known moves the offset
abbrev pub indexed_form : ℤ → ℕ → Number → Form
indexed_form offset factor (Fixed n) =
    form.Frame (signed S64 (residue S64 (pos (factor * n) +ℤ offset)))
indexed_form offset factor (Nth i) = form.Indexed offset factor i

-- a form, where the numbers that it names are these
abbrev pub form_by : List Number → Form → Form
form_by xs (form.Num n) = form.Num n
form_by xs (form.Leaked i) = form_of (slice_index_or xs i (Fixed 0))
form_by xs (form.Frame offset) = form.Frame offset
form_by xs (form.Indexed offset factor i) =
    indexed_form offset factor (slice_index_or xs i (Fixed 0))

abbrev pub out_by : List Number → Out → Out
out_by xs (out.Branch taken) = out.Branch taken
out_by xs (out.Addr a) = out.Addr (form_by xs a)
out_by xs (out.Div h l d) = out.Div (form_by xs h) (form_by xs l) (form_by xs d)

-- the events of an item, by the numbers of the item that it comes from
abbrev pub outs_by : Numbers → List Out → List Out
outs_by Same outs = outs
outs_by (These xs) outs = map (out_by xs) outs

-- ---- the first cases

-- the cases behind the first one
abbrev pub cases_behind : List Case → List Case
cases_behind [] = []
cases_behind (c ∷ b) = b

-- the events of an operation with these numbers, by the first case
abbrev pub head_outs : Numbers → List Case → List Out
head_outs i (Op outs ∷ b) = outs_by i outs
head_outs i _ = []

-- the events of so many operations, and the cases behind them
pub record FrontOuts : Type 0 where
  pub outs : List Out
  pub rest : List Case

abbrev pub add_outs : List Out → FrontOuts → FrontOuts
add_outs outs f = record { outs = outs ++ f.outs; rest = f.rest }

abbrev pub first_outs : List Numbers → List Case → FrontOuts
first_outs [] b = record { outs = []; rest = b }
first_outs (i ∷ is) b = add_outs (head_outs i b) (first_outs is (cases_behind b))

-- ---- flattening

-- the cases of the items that a change is for, and the cases that are left
pub record FlatCases : Type 0 where
  pub cases : List Case
  pub rest : List Case

pub record FlatRounds : Type 0 where
  pub trs : List Tr
  pub rest : List Case

abbrev pub tr_of : List Case → Tr
tr_of cs = record { cases = cs }

abbrev pub add_case : Case → FlatCases → FlatCases
add_case c f = record { cases = c ∷ f.cases; rest = f.rest }

-- an `if` of which an arm is left: nothing is printed of the other one
abbrev pub flat_arm : Bool → List Out → List Case → Layer
flat_arm true outs cs = Case-F.If outs [] (tr_of cs) [] (tr_of [])
flat_arm false outs cs = Case-F.If outs [] (tr_of []) [] (tr_of cs)

-- an `if` that stays
abbrev pub flat_if :
    List Out → Numbers → (List Case → FlatCases) → (List Case → FlatCases) → Layer → Case
flat_if outs i a b (Case-F.If test then_outs then_tr else_outs else_tr) =
    roll-Case
    (Case-F.If (outs ++ outs_by i test) (outs_by i then_outs) (tr_of (a then_tr.cases).cases)
    (outs_by i else_outs) (tr_of (b else_tr.cases).cases))
flat_if outs i a b _ = Op []

-- a `while` that stays; the operations behind its prologue are shown with its condition
abbrev pub flat_while :
    List Numbers → Numbers → (List Case → FlatCases) → (List Case → FlatCases) → Layer → Case
flat_while pre i p b (Case-F.While prologue test more_outs body leave_outs) =
    roll-Case
    (Case-F.While (tr_of (p prologue.cases).cases)
    ((first_outs pre (p prologue.cases).rest).outs ++ outs_by i test) (outs_by i more_outs)
    (tr_of (b body.cases).cases) (outs_by i leave_outs))
flat_while pre i p b _ = Op []

-- a `while` that is false at once
abbrev pub flat_once : List Out → List Case → Layer
flat_once outs cs = Case-F.While (tr_of cs) outs [] (tr_of []) []

-- a `for` that stays: a tree for each round
abbrev pub flat_for : (List Case → FlatCases) → Layer → Case
flat_for b (Case-F.For trs) = roll-Case (Case-F.For (map (λ t. tr_of (b t.cases).cases) trs))
flat_for b _ = Op []

-- the first case, its trees not opened; what follows by the cases behind it
abbrev pub first_by : (Layer → Case) → List Case → Case
first_by step [] = Op []
first_by step (c ∷ b) = step (out-Case c)

abbrev pub flat_first : (List Case → FlatCases) → (Layer → Case) → List Case → FlatCases
flat_first next step b = add_case (first_by step b) (next (cases_behind b))

abbrev mutual
  pub flat : Change → List Case → FlatCases
  flat ends b = record { cases = []; rest = b }
  flat (ops is r) b = add_case (Op (first_outs is b).outs) (flat r (first_outs is b).rest)
  flat (stays_if pre i ta tb r) b =
      flat_first (flat r) (flat_if (first_outs pre b).outs i (flat ta) (flat tb))
      (first_outs pre b).rest
  flat (arm z pre ta r) b =
      add_case
      (roll-Case (flat_arm z (first_outs pre b).outs (flat ta (first_outs pre b).rest).cases))
      (flat r (flat ta (first_outs pre b).rest).rest)
  flat (stays_while tp pre i tb r) b = flat_first (flat r) (flat_while pre i (flat tp) (flat tb)) b
  flat (once tp pre r) b =
      add_case
      (roll-Case (flat_once (first_outs pre (flat tp b).rest).outs (flat tp b).cases))
      (flat r (first_outs pre (flat tp b).rest).rest)
  flat (stays_for tb r) b = flat_first (flat r) (flat_for (flat tb)) b
  flat (unrolled ts r) b =
      add_case (roll-Case (Case-F.For (flat_rounds ts b).trs)) (flat r (flat_rounds ts b).rest)
  flat (opened xs tb ys r) b =
      add_case
      (roll-Case
      (Case-F.Call (first_outs xs b).outs (tr_of (flat tb (first_outs xs b).rest).cases)
      (first_outs ys (flat tb (first_outs xs b).rest).rest).outs))
      (flat r (first_outs ys (flat tb (first_outs xs b).rest).rest).rest)

  pub flat_rounds : Changes → List Case → FlatRounds
  flat_rounds none b = record { trs = []; rest = b }
  flat_rounds (more t ts) b = record {
    trs = tr_of (flat t b).cases ∷ (flat_rounds ts (flat t b).rest).trs;
    rest = (flat_rounds ts (flat t b).rest).rest;
  }

-- the transformer of a function of whose body a change is made first
abbrev pub flatten_of : Change → Transformer → Transformer
flatten_of a last = record {
  before = last.before;
  body = tr_of (flat a last.body.cases).cases;
  after = last.after;
}

-- c shows at once what a and then the last pass show: what fits both fits c, with the same events
pub record Flattens (a : Change) (last c : Transformer) : Type 0 where
  pub fits : (l : Leak) → LeakFits l a → Fits last (map_of a l) → Fits c l
  pub events :
      (l : Leak) (rsp0 : ℕ) → LeakFits l a → Fits last (map_of a l)
      → apply_of c l rsp0 ≡ apply_of last (map_of a l) rsp0
