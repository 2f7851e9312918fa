-- What facts say of a state of a run, where the parameters had these values at entry.
use Rattle.std.specs.Prelude.{ℕ, ◌≡◌, ◌≤◌, ◌<◌, ◌%◌, ◌^◌, ◌&&◌, Bool, true, false, List, [], ◌∷◌, Option, Some, IsSome}
use Rattle.std.specs.Option.{option_or}
use Rattle.x64_insn.specs.Size.{Size}
use Rattle.x64_insn.specs.Size.TheVariants.{S64}
use Rattle.x64_insn.specs.Sizes.{modulus}
use Rattle.x64_insn.specs.Words.{residue, carried}
use Rattle.x64_insn.specs.Memory.{loaded}
use Rattle.jz_tree.specs.declared.expr.BinOp.{BinOp}
use Rattle.jz_tree.specs.declared.expr.Expr.{Expr}
use Rattle.jz_tree.specs.declared.expr.Var.{Var}
use Rattle.jz_tree.specs.declared.stmt.Lval.TheVariants as lval
use Rattle.jz_runs.specs.Rules.{stuck, went}
use Rattle.jz_meaning.specs.declared.access.Kind.TheVariants as kind
use Rattle.jz_meaning.specs.Assignments.{whole_of}
use Rattle.jz_meaning.specs.Attempts.{Evaluation}
use Rattle.jz_meaning.specs.States.{Value, word, boolean, integer, Key, Store, State}
use Rattle.jz_meaning.specs.Operators.{is_shift}
use Rattle.jz_meaning.specs.Values.{key_of, cell_key, ref_of, size_of, left_wanted, right_wanted}
use Rattle.jz_facts.specs.Terms.{Term, num, truth, var, cell, load, neg, inv, cast, bin, term_of, means, size_in}
use Rattle.jz_facts.specs.Facts.{Fact, Set, Cell, AtLeast, AtMost, Under, Is, Multiple, Facts, Start, Given, hi_of}
use Rattle.jz_intervals.specs.declared.interval.Interval.{Interval}
use Rattle.jz_facts.specs.Intervals.{size_or_64}

-- ---- one fact

-- it is a word, and of this word that is so
abbrev pub HasWord : Option Value → (ℕ → Type 0) → Type 0
HasWord v P = (z : Size) × (n : ℕ) × (v ≡ Some (word z n)) × P n

abbrev pub Says : (Key → ℕ) → Store → Fact → Type 0
Says entry store (Set v) = IsSome (store v)
Says entry store (Cell a k) =
    IsSome (store (record { name = a.name; copy = a.copy; cell = Some k }))
Says entry store (AtLeast v c) = HasWord (store v) (λ n. c ≤ n)
Says entry store (AtMost v c) = HasWord (store v) (λ n. n ≤ c)
Says entry store (Under v x) = HasWord (store v) (λ n. n < entry x)
Says entry store (Is v x) = HasWord (store v) (λ n. n ≡ entry x)
Says entry store (Multiple v m) = HasWord (store v) (λ n. n % m ≡ 0)

-- ---- a set of facts

-- a parameter was at most what its range says
abbrev pub InRanges : (Key → ℕ) → List Start → Type 0
InRanges entry [] = Unit {0}
InRanges entry (p ∷ ps) = (entry p.key ≤ hi_of p) × InRanges entry ps

-- a word is below the number of words of its size, and nothing is a whole number
abbrev pub Fits : Value → Type 0
Fits (word s a) = a < modulus s
Fits (boolean c) = Unit {0}
Fits (integer i) = ⊥

-- the facts of the set are so; each value fits, and a word has the size of its variable; what is
-- loaded fits; the parameters were in their ranges
pub record Holds (g : Given) (sizes : Key → Option Size) (entry : Key → ℕ) (s : Facts)
    (st : State) : Type 0 where
  pub says : (f : Fact) → s f ≡ true → Says entry st.store f
  pub fits : (k : Key) (v : Value) → st.store k ≡ Some v → Fits v
  pub sized : (k : Key) (z : Size) (n : ℕ) → st.store k ≡ Some (word z n) → sizes k ≡ Some z
  pub bytes : (a n b : ℕ) → loaded st.memory a n ≡ Some b → b < 256 ^ n
  pub ranges : InRanges entry g.params

-- ---- what comes out, where something does

abbrev pub Yields : {A : Type 0} → (A → Type 0) → Evaluation A → Type 0
Yields Q (stuck w) = Unit {0}
Yields Q (went ns x) = Q x

abbrev pub In : Interval → ℕ → Type 0
In i n = (i.lo ≤ n) × (n ≤ i.hi)

-- the value in the place of a word of this size
abbrev pub IsWithin : Interval → Size → Value → Type 0
IsWithin i z (word s a) = s ≡ z → In i a
IsWithin i z (boolean c) = In i (carried c)
IsWithin i z (integer j) = In i (residue z j)

-- a word has this size
abbrev pub HasSize : Size → Value → Type 0
HasSize z v = (y : Size) (n : ℕ) → v ≡ word y n → y ≡ z

-- ---- what typing and expansion give of a term

-- a number, by operators over numbers alone
abbrev pub is_number : Term → Bool
is_number (num i at) = true
is_number (neg a at) = is_number a
is_number (inv a at) = is_number a
is_number (bin op a b at) = is_number a && is_number b
is_number t = false

module _ (sizes : Key → Option Size) where
  -- what is cast is read, and its size is known
  abbrev pub IsSized : Term → Type 0
  IsSized (var x) = (z : Size) × (size_of x.kind ≡ Some z) × (sizes (key_of x) ≡ Some z)
  IsSized (cell x i) =
      (z : Size) × (size_of x.kind ≡ Some z) × ((n : ℕ) → sizes (cell_key x n) ≡ Some z)
  IsSized (load p a) = (z : Size) × (p.size ≡ Some z)
  IsSized t = ⊥

  -- no operation has numbers alone; what is cast has a known size
  abbrev pub IsPlain : Term → Type 0
  IsPlain (num i at) = Unit {0}
  IsPlain (truth b at) = Unit {0}
  IsPlain (var x) = Unit {0}
  IsPlain (cell x i) = IsPlain i
  IsPlain (load p a) = IsPlain a
  IsPlain (neg a at) = IsPlain a
  IsPlain (inv a at) = IsPlain a
  IsPlain (cast z sign a at) = IsPlain a × IsSized a
  IsPlain (bin op a b at) =
      ((is_number a && is_number b) ≡ false) × IsPlain a × IsPlain b

-- the operands have the sizes that are wanted, in this state
abbrev pub AreSized : State → Option Size → Term → Type 0
AreSized st w (num i at) = Unit {0}
AreSized st w (truth b at) = Unit {0}
AreSized st w (var x) = Unit {0}
AreSized st w (cell x i) = AreSized st (Some S64) i
AreSized st w (load p a) = AreSized st (Some S64) a
AreSized st w (neg a at) = AreSized st (option_or w (size_in a)) a
AreSized st w (inv a at) = AreSized st (option_or w (size_in a)) a
AreSized st w (cast z sign a at) = AreSized st (size_in a) a
AreSized st w (bin op a b at) =
    let v = left_wanted op w (size_in a) (size_in b) in
    AreSized st v a × AreSized st (right_wanted op v) b
    × (is_shift op ≡ false → Yields (HasSize (size_or_64 v)) ((means a).run v st))
    × (is_shift op ≡ false
    → Yields (HasSize (size_or_64 v)) ((means b).run (right_wanted op v) st))

-- the right side of an assignment to a variable, and the variable, are in order: what is expanded
-- has no inline variable, and a variable has the size of its declaration
pub record IsAssigned (sizes : Key → Option Size) (x : Var) (o : Option BinOp) (e : Expr) :
    Type 0 where
  pub plain :
      (whole : Expr) → whole_of (Some (lval.Var x)) o e ≡ Some whole
      → IsPlain sizes (term_of whole)
  pub sized : (y : Size) → (ref_of x).kind ≡ kind.Word y → sizes (key_of (ref_of x)) ≡ Some y
  pub no_number : (ref_of x).kind ≡ kind.Int → ⊥

-- a word is a multiple of m, and so is a number in the place of any word; it is no flag
abbrev pub MultipleWord : ℕ → Value → Type 0
MultipleWord m (word s a) = a % m ≡ 0
MultipleWord m (integer j) = (u : Size) → residue u j % m ≡ 0
MultipleWord m (boolean c) = ⊥
