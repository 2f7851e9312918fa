-- What statements draw: which label each scalar has, which labels come of which, and which have to
-- be public.
use Rattle.std.specs.Prelude.{◌<◌, ℕ, suc, Bool, false, ◌||◌, List, [], ◌∷◌, ◌++◌, map, length, Option, None, if◌then◌else◌}
use Rattle.jz_runs.specs.Trees.{done, op, quiet, choose, loop, each, call}
use Rattle.jz_meaning.specs.States.{Key, same_key}
use Rattle.jz_meaning.specs.Values.{key_of}
use Rattle.jz_meaning.specs.Statements.{Operation, Condition, Block}
use Rattle.jz_flow.specs.Flow.{Steps}
use Rattle.jz_flow.specs.Alarms.{Asks}
use Rattle.jz_flow.specs.Soundness.{AllAre}
use Rattle.jz_labels.specs.Operations.{Left, nothing, scalar, element, bytes, Plain, plain_of, tested_by}
use Rattle.jz_labels.specs.Labels.{Publics, first, label_steps}
use Rattle.jz_labels.specs.Required.{Breach, breach_asks, write_asks}
use Rattle.jz_required.specs.Readings.{Origin, memory, of_scalar, of_array, Demand, right_reading, left_demands, demand_breach}
use Rattle.jz_secrets.specs.Graphs.{Vertex, hidden, drawn, array, Arrow, label, IsBelow, AreBelow}

-- a label that has to be public
pub record Asked : Type 0 where
  pub at : Vertex
  pub demand : Demand

pub record View : Type 0 where
  -- which drawn label a scalar has
  pub nodes : Key → ℕ
  pub arrows : List Arrow
  pub asked : List Asked

-- the next label that is drawn
abbrev pub next : View → ℕ
next v = suc (length v.arrows)

abbrev pub vertex_in : (Key → ℕ) → Origin → Vertex
vertex_in e memory = hidden
vertex_in e (of_scalar k) = drawn (e k)
vertex_in e (of_array k) = array k

abbrev pub ask_in : (Key → ℕ) → Demand → Asked
ask_in e d = record { at = vertex_in e d.origin; demand = d }

abbrev pub asks_in : (Key → ℕ) → List Demand → List Asked
asks_in e ds = map (ask_in e) ds

-- these have to be public besides
abbrev pub with_asked : List Asked → View → View
with_asked xs v = record { nodes = v.nodes; arrows = v.arrows; asked = v.asked ++ xs }

-- ---- an operation

abbrev pub put_node : Key → ℕ → (Key → ℕ) → Key → ℕ
put_node k n e q = if same_key q k then n else e q

abbrev pub put_left : ℕ → Left → (Key → ℕ) → Key → ℕ
put_left n nothing e = e
put_left n (scalar x) e = put_node (key_of x) n e
put_left n (element x i) e = e
put_left n (bytes p a) e = e

abbrev pub put_lefts : ℕ → List Left → (Key → ℕ) → Key → ℕ
put_lefts n [] e = e
put_lefts n (d ∷ ds) e = put_lefts n ds (put_left n d e)

abbrev pub arrow_between : Vertex → Vertex → Arrow
arrow_between v w = record { from = v; to = w }

-- a new label comes of the one that is public, so that each has an arrow of its own
abbrev pub new_arrow : ℕ → Arrow
new_arrow n = arrow_between (drawn 0) (drawn n)

abbrev pub arrows_from : (Key → ℕ) → List Origin → ℕ → List Arrow
arrows_from e os n = map (λ o. arrow_between (vertex_in e o) (drawn n)) os

abbrev pub left_arrows : ℕ → Left → List Arrow
left_arrows n nothing = []
left_arrows n (scalar x) = []
left_arrows n (element x i) = arrow_between (drawn n) (array (key_of x)) ∷ []
left_arrows n (bytes p a) = []

abbrev pub lefts_arrows : ℕ → List Left → List Arrow
lefts_arrows n [] = []
lefts_arrows n (d ∷ ds) = left_arrows n d ++ lefts_arrows n ds

-- each left side is evaluated behind those before it
abbrev pub lefts_asked : ℕ → List Left → (Key → ℕ) → List Asked
lefts_asked n [] e = []
lefts_asked n (d ∷ ds) e = asks_in e (left_demands d) ++ lefts_asked n ds (put_left n d e)

-- its value has a new label, which comes of all that it reads
abbrev pub drawn_operation : Plain → View → View
drawn_operation o v = let n = next v in let r = right_reading o in record {
  nodes = put_lefts n o.to v.nodes;
  arrows =
      v.arrows
      ++ (new_arrow n ∷ (arrows_from v.nodes r.origins n ++ lefts_arrows n o.to));
  asked = v.asked ++ (asks_in v.nodes r.demands ++ lefts_asked n o.to v.nodes);
}

-- ---- which scalars a body sets

-- there is neither a call nor a `for` in it
abbrev pub IsFree : Block → Type 0
IsFree t = AllAre (λ o. Unit {0}) (λ c. Unit {0}) t

abbrev pub sets_left : Key → Left → Bool
sets_left q nothing = false
sets_left q (scalar x) = same_key q (key_of x)
sets_left q (element x i) = false
sets_left q (bytes p a) = false

abbrev pub sets_lefts : Key → List Left → Bool
sets_lefts q [] = false
sets_lefts q (d ∷ ds) = sets_left q d || sets_lefts q ds

abbrev pub sets : Key → Block → Bool
sets q done = false
sets q (op o r) = sets_lefts q (plain_of o).to || sets q r
sets q (quiet o r) = sets q r
sets q (choose c a b r) = sets q a || (sets q b || sets q r)
sets q (loop w p c b r) = (sets q p || sets q b) || sets q r
sets q (each f b r) = false
sets q (call c b r) = false

-- ---- labels

abbrev pub labels_of : (ℕ → Bool) → (Key → ℕ) → Publics
labels_of t e k = t (e k)

abbrev pub ask_breach : Publics → (ℕ → Bool) → Asked → Option Breach
ask_breach a t x = demand_breach (label a t x.at) x.demand

abbrev pub first_asked : Publics → (ℕ → Bool) → List Asked → Option Breach
first_asked a t [] = None
first_asked a t (x ∷ xs) = first (ask_breach a t x) (first_asked a t xs)

abbrev pub AreAskedBelow : ℕ → List Asked → Type 0
AreAskedBelow n [] = Unit {0}
AreAskedBelow n (x ∷ xs) = IsBelow n x.at × AreAskedBelow n xs

-- each label is drawn
pub record IsBounded (v : View) : Type 0 where
  pub nodes : (k : Key) → v.nodes k < next v
  pub arrows : AreBelow (next v) v.arrows
  pub asked : AreAskedBelow (next v) v.asked

abbrev pub flow : Publics → Steps Operation Condition Key
flow a = label_steps plain_of tested_by a

abbrev pub breaches : Publics → Asks Operation Condition Key Breach
breaches a = breach_asks plain_of tested_by a

abbrev pub writes : Publics → Asks Operation Condition Key Key
writes a = write_asks plain_of tested_by a
