-- Constant time: the labels of parameters, the labellings of a body, and the first breach.
use Rattle.std.specs.Prelude.{ℕ, Bool, true, false, not, ◌&&◌, ◌||◌, List, [], ◌∷◌, Option, codes, if◌then◌else◌}
use Rattle.std.specs.Str.{bytes_eq}
use Rattle.jz_tree.specs.declared.program.Note.{Note}
use Rattle.jz_tree.specs.declared.program.NoteValue.{NoteValue}
use Rattle.jz_tree.specs.declared.program.NoteValue.TheVariants as value
use Rattle.jz_tree.specs.declared.program.Param.{Param}
use Rattle.jz_runs.specs.Trees.{Tree}
use Rattle.jz_meaning.specs.States.{Key, same_key}
use Rattle.jz_meaning.specs.Values.{key_of, ref_of}
use Rattle.jz_meaning.specs.Statements.{Block}
use Rattle.jz_flow.specs.Sets.{Below}
use Rattle.jz_flow.specs.Alarms.{First, Meets, no_more}
use Rattle.jz_terms.specs.Terms.{Term}
use Rattle.jz_labels.specs.Operations.{Plain, plain_of, tested_by}
use Rattle.jz_labels.specs.Labels.{Publics, label_steps}
use Rattle.jz_labels.specs.Required.{Breach, breach_asks, write_asks, label_asks}

-- ---- parameters

abbrev pub is_bare : NoteValue → Bool
is_bare value.None = true
is_bare (value.Name n) = false
is_bare (value.Num i) = false
is_bare (value.Str s) = false

-- an entry of this name without a value
abbrev pub has_label : List ℕ → List Note → Bool
has_label n [] = false
has_label n (x ∷ xs) = (bytes_eq x.name n && is_bare x.value) || has_label n xs

-- public by `#public`, unless `#secret` stands there too
abbrev pub is_labelled_public : List Note → Bool
is_labelled_public notes =
    has_label (codes "public") notes && not (has_label (codes "secret") notes)

abbrev pub secret_parameters : List Param → List Key
secret_parameters [] = []
secret_parameters (p ∷ ps) =
    if is_labelled_public p.notes then secret_parameters ps
    else key_of (ref_of p.var) ∷ secret_parameters ps

-- all are public but these
abbrev pub all_but : List Key → Publics
all_but [] k = true
all_but (x ∷ xs) k = not (same_key k x) && all_but xs k

abbrev pub at_entry : List Param → Publics
at_entry ps = all_but (secret_parameters ps)

-- ---- bodies without calls and `for`, by what is public at entry

module _ {O T N C : Type 0} (plain : O → Plain) (term : T → Term) (entry : Publics)
    (body : Tree O T N C) where
  -- some labels of the scalars at each point and of the stack arrays meet the rules
  abbrev pub HasLabels : Type 0
  HasLabels =
      (arrays : Publics) × (behind : Publics)
      × Meets (label_steps plain term arrays) (label_asks plain term arrays) body entry behind

  -- of these arrays none has a secret written to it
  abbrev pub AreKept : Publics → Type 0
  AreKept arrays =
      (behind : Publics)
      × Meets (label_steps plain term arrays) (write_asks plain term arrays) body entry behind

  -- as many arrays as can be are public
  abbrev pub AreMost : Publics → Type 0
  AreMost arrays = AreKept arrays × ((others : Publics) → AreKept others → Below others arrays)

  -- the first breach under the labels with the fewest secrets, or there is none
  abbrev pub IsFirst : Option Breach → Type 0
  IsFirst w =
      (arrays : Publics) × AreMost arrays
      × First (label_steps plain term arrays) (breach_asks plain term arrays) body entry w no_more

-- ---- an export function, expanded: its parameters and its body

abbrev pub IsConstantTime : List Param → Block → Type 0
IsConstantTime params body = HasLabels plain_of tested_by (at_entry params) body

abbrev pub IsFirstBreach : List Param → Block → Option Breach → Type 0
IsFirstBreach params body w = IsFirst plain_of tested_by (at_entry params) body w
