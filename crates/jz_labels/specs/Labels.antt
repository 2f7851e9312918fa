-- Labels: which scalars are public at a point, and which stack arrays are. All others are secret.
use Rattle.std.specs.Prelude.{ℕ, Bool, true, false, List, [], ◌∷◌, Option, Some, None, if◌then◌else◌}
use Rattle.jz_meaning.specs.States.{Key, same_key}
use Rattle.jz_meaning.specs.Values.{Ref, key_of}
use Rattle.jz_flow.specs.Sets as sets
use Rattle.jz_flow.specs.Flow.{Steps}
use Rattle.jz_terms.specs.Terms.{Term, num, truth, var, cell, load, neg, inv, cast, bin}
use Rattle.jz_labels.specs.Operations.{Left, nothing, scalar, element, bytes, Plain}

-- the public scalars, or the public stack arrays; an array is its key without a cell
abbrev pub Publics : Type 0
Publics = sets.Facts Key

-- what is secret: a variable, or a scalar that was this cell of an array in registers; a load
pub data Secret : Type 0 where
  named : List ℕ → Option ℕ → Secret
  memory : Secret

-- the first of two
abbrev pub first : {A : Type 0} → Option A → Option A → Option A
first (Some a) b = Some a
first None b = b

abbrev pub is_none : {A : Type 0} → Option A → Bool
is_none None = true
is_none (Some a) = false

abbrev pub unless_public : Bool → Ref → Option Secret
unless_public true x = None
unless_public false x = Some (named x.name x.cell)

module _ (arrays s : Publics) where
  -- the first secret of a term from left to right: a variable, an array of which a cell is read, a
  -- load; a term without one is public
  abbrev pub secret_in : Term → Option Secret
  secret_in (num i at) = None
  secret_in (truth b at) = None
  secret_in (var x) = unless_public (s (key_of x)) x
  secret_in (cell x i) = first (unless_public (arrays (key_of x)) x) (secret_in i)
  secret_in (load p a) = Some memory
  secret_in (neg a at) = secret_in a
  secret_in (inv a at) = secret_in a
  secret_in (cast z sign a at) = secret_in a
  secret_in (bin op a b at) = first (secret_in a) (secret_in b)

  abbrev pub secret_in_each : List Term → Option Secret
  secret_in_each [] = None
  secret_in_each (t ∷ ts) = first (secret_in t) (secret_in_each ts)

  -- what the left sides get, words and flags, is public where all that is read is
  abbrev pub gives_public : Plain → Bool
  gives_public o = is_none (secret_in_each o.reads)

-- a scalar gets the label; a cell and a place in memory have none of their own
abbrev pub with_label : Key → Bool → Publics → Publics
with_label x z s k = if same_key k x then z else s k

abbrev pub labelled : Bool → Left → Publics → Publics
labelled z nothing s = s
labelled z (scalar x) s = with_label (key_of x) z s
labelled z (element x i) s = s
labelled z (bytes p a) s = s

abbrev pub all_labelled : Bool → List Left → Publics → Publics
all_labelled z [] s = s
all_labelled z (d ∷ ds) s = all_labelled z ds (labelled z d s)

abbrev pub relabels : Publics → Plain → Publics → Publics
relabels arrays o s = all_labelled (gives_public arrays s o) o.to s

-- behind `while (true)` no path goes on: where it meets others these alone count
abbrev pub leaving : Term → Publics → Publics
leaving (truth true at) s k = true
leaving t s k = s k

-- marks and tests change no label; where paths meet, what is public on both is
abbrev pub label_steps :
    {O T : Type 0} → (O → Plain) → (T → Term) → Publics → Steps O T Key
label_steps plain term arrays = record {
  does = λ o s. relabels arrays (plain o) s;
  quiets = λ o s. s;
  tests = λ c z s. s;
  leaves = λ c h s. leaving (term c) s;
}
