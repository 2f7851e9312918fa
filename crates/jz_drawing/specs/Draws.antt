-- That what is drawn of a piece of a body has its labels.
use Rattle.std.specs.Prelude.{◌≡◌, ◌<◌, ◌≤◌, ℕ, nat_lt, Bool, true, false, List, [], ◌∷◌, ◌++◌, Option, Some, None, if◌then◌else◌}
use Rattle.jz_meaning.specs.States.{Key}
use Rattle.jz_meaning.specs.Statements.{Block}
use Rattle.jz_flow.specs.Sets.{Below}
use Rattle.jz_flow.specs.Flow.{After}
use Rattle.jz_flow.specs.Alarms.{FirstOf, First, Meets, no_more}
use Rattle.jz_labels.specs.Labels.{Publics}
use Rattle.jz_labels.specs.Required.{Breach}
use Rattle.jz_secrets.specs.Graphs.{IsLabelling}
use Rattle.jz_drawing.specs.Drawings.{Asked, View, next, IsFree, sets, labels_of, first_asked, IsBounded, flow, breaches, writes}

-- labels of drawn ones stay below n
abbrev pub Agrees : ℕ → (ℕ → Bool) → (ℕ → Bool) → Type 0
Agrees n t u = (i : ℕ) → i < n → u i ≡ t i

abbrev pub Under : ℕ → (ℕ → Bool) → (ℕ → Bool) → Type 0
Under n u t = (i : ℕ) → i < n → u i ≡ true → t i ≡ true

-- from what is public before a piece some labels meet the rule of writes along it
pub record Along (f : Block → Block) (new : View) (a : Publics) (t : ℕ → Bool) (s : Publics) :
    Type 0 where
  pub behind : Publics
  pub below : Below (labels_of t new.nodes) behind
  pub meets :
      (r : Block) (x : Publics) → IsFree (f r)
      → Meets (flow a) (writes a) r behind x → Meets (flow a) (writes a) (f r) s x
  pub spares :
      (r : Block) (k : Key) → IsFree (f r) → sets k (f r) ≡ false
      → (sets k r ≡ false) × (s k ≡ true → behind k ≡ true)

-- the labels along a piece before r, from those of t on
pub record Told (a : Publics) (t : ℕ → Bool) (f : Block → Block) (old new : View)
    (asked : List Asked) (r : Block) (x0 : Publics) : Type 0 where
  pub labels : ℕ → Bool
  pub agrees : Agrees (next old) t labels
  pub labelling : IsLabelling a labels new.arrows
  pub after :
      (x : Publics) → After (flow a) (f r) (labels_of t old.nodes) x
      → After (flow a) r (labels_of labels new.nodes) x
  pub first :
      (w : Option Breach)
      → First (flow a) (breaches a) (f r) (labels_of t old.nodes) w no_more
      → FirstOf (first_asked a labels asked) w
      (First (flow a) (breaches a) r (labels_of labels new.nodes) w no_more)
  pub kept : Publics
  pub less : Below kept (labels_of labels new.nodes)
  pub meets : Meets (flow a) (writes a) r kept x0
  pub most :
      (b : Publics) (u : ℕ → Bool) → Below b a → IsLabelling b u new.arrows
      → Under (next old) u t → Under (next new) u labels

pub record Draws (f : Block → Block) (old new : View) : Type 0 where
  pub free : (r : Block) → IsFree (f r) → IsFree r
  pub longer : next old ≤ next new
  pub earlier :
      (a : Publics) (t : ℕ → Bool) → IsLabelling a t new.arrows → IsLabelling a t old.arrows
  pub asked : List Asked
  pub asked_are : new.asked ≡ old.asked ++ asked
  pub bounded : IsBounded old → IsBounded new
  pub along :
      (a : Publics) (t : ℕ → Bool) (s : Publics) → IsLabelling a t new.arrows
      → Below (labels_of t old.nodes) s → Along f new a t s
  pub told :
      (a : Publics) (t : ℕ → Bool) (r : Block) (s0 x0 : Publics) → IsBounded old
      → IsLabelling a t old.arrows → Below s0 (labels_of t old.nodes)
      → Meets (flow a) (writes a) (f r) s0 x0 → Told a t f old new asked r x0

-- ---- labels that are drawn anew for some scalars, each of which comes of others

abbrev pub AllPublic : (ℕ → Bool) → List ℕ → Type 0
AllPublic t [] = Unit {0}
AllPublic t (n ∷ ns) = (t n ≡ true) × AllPublic t ns

abbrev pub AllUnder : ℕ → List ℕ → Type 0
AllUnder m [] = Unit {0}
AllUnder m (n ∷ ns) = (n < m) × AllUnder m ns

-- t below n, and u from there on
abbrev pub from_on : ℕ → (ℕ → Bool) → (ℕ → Bool) → ℕ → Bool
from_on n t u i = if nat_lt i n then t i else u i

-- a number that is no label counts as public
abbrev pub owned : Publics → Option Key → Bool
owned h None = true
owned h (Some k) = h k

pub record Renews (sources : Key → List ℕ) (is_new : Key → Bool) (old new : View) : Type 0 where
  pub asked : new.asked ≡ old.asked
  pub longer : next old ≤ next new
  pub earlier :
      (a : Publics) (t : ℕ → Bool) → IsLabelling a t new.arrows → IsLabelling a t old.arrows
  -- the scalar of a new label
  pub owner : ℕ → Option Key
  pub kept : (k : Key) → is_new k ≡ false → new.nodes k ≡ old.nodes k
  pub fresh :
      (k : Key) → is_new k ≡ true
      → (next old ≤ new.nodes k) × (new.nodes k < next new) × (owner (new.nodes k) ≡ Some k)
  pub one :
      (n : ℕ) (k : Key) → owner n ≡ Some k → (is_new k ≡ true) × (n ≡ new.nodes k)
  pub comes :
      (a : Publics) (t : ℕ → Bool) (n : ℕ) (k : Key) → IsLabelling a t new.arrows
      → owner n ≡ Some k → t n ≡ true → AllPublic t (sources k)
  pub labelled :
      (a : Publics) (t : ℕ → Bool) (h : Publics) → IsLabelling a t old.arrows
      → IsBounded old → ((k : Key) → AllUnder (next old) (sources k))
      → ((k : Key) → h k ≡ true → AllPublic t (sources k))
      → IsLabelling a (from_on (next old) t (λ i. owned h (owner i))) new.arrows
  pub bounded :
      ((k : Key) → AllUnder (next old) (sources k)) → IsBounded old → IsBounded new

-- ---- the end of a turn: what comes back to the labels at the head

pub record ComesBack (head end : Key → ℕ) (is_new : Key → Bool) (old new : View) : Type 0 where
  pub nodes : new.nodes ≡ old.nodes
  pub asked : new.asked ≡ old.asked
  pub longer : next old ≤ next new
  pub earlier :
      (a : Publics) (t : ℕ → Bool) → IsLabelling a t new.arrows → IsLabelling a t old.arrows
  pub comes :
      (a : Publics) (t : ℕ → Bool) (k : Key) → IsLabelling a t new.arrows → is_new k ≡ true
      → t (head k) ≡ true → t (end k) ≡ true
  pub labelled :
      (a : Publics) (t : ℕ → Bool) → IsLabelling a t old.arrows
      → ((k : Key) → t (head k) ≡ true → t (end k) ≡ true) → IsLabelling a t new.arrows
  pub bounded :
      ((k : Key) → is_new k ≡ true → (0 < head k) × (head k < next old))
      → ((k : Key) → end k < next old)
      → IsBounded old → IsBounded new
