-- What typing and expansion give of the terms and the statements of an expanded function: each
-- operand has the size that is wanted, and no operation has numbers alone.
use Rattle.std.specs.Prelude.{◌≡◌, ◌⊎◌, ℕ, pos, Bool, true, false, ◌&&◌, List, [], ◌∷◌, Option, Some, None}
use Rattle.std.specs.Option.{option_or}
use Rattle.x64_insn.specs.Size.{Size}
use Rattle.x64_insn.specs.Size.TheVariants.{S8, S64}
use Rattle.jz_tree.specs.declared.expr.BinOp.{BinOp}
use Rattle.jz_tree.specs.declared.expr.BinOp.TheVariants as o
use Rattle.jz_tree.specs.declared.expr.Expr.{Expr}
use Rattle.jz_tree.specs.declared.expr.Access.{Access}
use Rattle.jz_tree.specs.declared.expr.Var.{Var}
use Rattle.jz_tree.specs.declared.stmt.Lval.TheVariants as lval
use Rattle.jz_meaning.specs.declared.access.Kind.{Kind}
use Rattle.jz_meaning.specs.declared.access.Kind.TheVariants as kind
use Rattle.jz_meaning.specs.States.{Key}
use Rattle.jz_meaning.specs.Operators.{is_shift}
use Rattle.jz_meaning.specs.Values.{Ref, key_of, ref_of, own_size, size_of, left_wanted}
use Rattle.jz_meaning.specs.Assignments.{left_sizes, whole_of}
use Rattle.jz_run_laws.specs.Kinds.{Kinds, kind_at}
use Rattle.jz_run_laws.specs.DeclaredKinds.{IsDeclared}
use Rattle.jz_terms.specs.Terms.{Term, num, truth, var, cell, load, neg, inv, cast, bin, term_of, place_of, size_in}
use Rattle.jz_fact_laws.specs.Saying.{is_number}

-- a variable, or what a cell is a cell of
abbrev pub whole : Key → Key
whole k = record { name = k.name; copy = k.copy; cell = None }

-- the size of what each key may hold, itself or as a cell
abbrev pub sizes_of : Kinds → Key → Option Size
sizes_of kinds k = size_of (kinds k.name k.copy)

-- no variable holds a number that is known when the text is compiled
abbrev pub NoNumbers : Kinds → Type 0
NoNumbers kinds = (k : Key) → kind_at kinds k ≡ kind.Int → ⊥

-- what gives a word of two words, and what compares them
abbrev pub is_computed : BinOp → Bool
is_computed o.Or = true
is_computed o.Xor = true
is_computed o.And = true
is_computed o.Add = true
is_computed o.Sub = true
is_computed o.Mul = true
is_computed o.Div = true
is_computed o.Rem = true
is_computed o.DivS = true
is_computed o.RemS = true
is_computed op = false

abbrev pub is_compared : BinOp → Bool
is_compared o.Eq = true
is_compared o.Ne = true
is_compared o.Lt = true
is_compared o.Le = true
is_compared o.Gt = true
is_compared o.Ge = true
is_compared o.LtS = true
is_compared o.LeS = true
is_compared o.GtS = true
is_compared o.GeS = true
is_compared op = false

-- what may take a flag on its right
abbrev pub is_carried : BinOp → Bool
is_carried o.Add = true
is_carried o.Sub = true
is_carried op = false

-- what is cast is read, and its size is known
abbrev pub IsRead : Size → Term → Type 0
IsRead u (var x) = Unit {0}
IsRead u (cell x i) = Unit {0}
IsRead u (load p b) = p.size ≡ Some u
IsRead u t = ⊥

-- what a mark may unset: an array, or a scalar that is no cell of an array in the frame
abbrev pub IsMark : (Key → Bool) → Kind → Key → Type 0
IsMark in_frame (kind.Array z n) k = Unit {0}
IsMark in_frame d k = in_frame (whole k) ≡ false

abbrev pub AreMarks : (Key → Bool) → List Var → Type 0
AreMarks in_frame [] = Unit {0}
AreMarks in_frame (x ∷ xs) =
    IsMark in_frame (ref_of x).kind (key_of (ref_of x)) × AreMarks in_frame xs

-- of the variables of a function, some arrays are in the frame; those in registers have become
-- scalars, each a cell by its name
module _ (kinds : Kinds) (in_frame : Key → Bool) where
  -- a variable with its declaration, that is no cell of an array in the frame
  pub record IsScalar (x : Ref) : Type 0 where
    pub declared : IsDeclared kinds x
    pub apart : in_frame (whole (key_of x)) ≡ false

  pub record IsArray (x : Ref) (z : Size) (n : ℕ) : Type 0 where
    pub is : x.kind ≡ kind.Array z n
    pub declared : IsDeclared kinds x
    pub framed : in_frame (whole (key_of x)) ≡ true
    pub entire : x.cell ≡ None

  abbrev pub IsFlag : Term → Type 0
  IsFlag (var x) = (x.kind ≡ kind.Bool) × IsScalar x
  IsFlag t = ⊥

  -- a count: a number, or a byte that is masked
  abbrev pub IsCount : Term → Type 0
  IsCount (num (pos n) at) = Unit {0}
  IsCount (bin o.And (var x) (num i t) at) = (x.kind ≡ kind.Word S8) × IsScalar x
  IsCount t = ⊥

  -- an index or an address: a sum of words of 64 bits, scaled ones and numbers
  abbrev pub IsSum : Term → Type 0
  IsSum (num i at) = Unit {0}
  IsSum (var x) = (x.kind ≡ kind.Word S64) × IsScalar x
  IsSum (bin o.Mul (num k t) (var x) at) = (x.kind ≡ kind.Word S64) × IsScalar x
  IsSum (bin o.Mul (var x) (num k t) at) = (x.kind ≡ kind.Word S64) × IsScalar x
  IsSum (bin o.Add a b at) = ((is_number a && is_number b) ≡ false) × IsSum a × IsSum b
  IsSum (bin o.Sub a (num i t) at) = (is_number a ≡ false) × IsSum a
  IsSum t = ⊥

  -- a word of size z, or a number in its place, where w is wanted
  abbrev pub IsWord : Option Size → Size → Term → Type 0
  IsWord w z (num i at) = Unit {0}
  IsWord w z (truth b at) = ⊥
  IsWord w z (var x) = (x.kind ≡ kind.Word z) × IsScalar x
  IsWord w z (cell x i) = (n : ℕ) × IsArray x z n × IsSum i
  IsWord w z (load p a) = (option_or p.size w ≡ Some z) × IsSum a
  IsWord w z (neg a at) = (is_number a ≡ false) × IsWord (option_or w (size_in a)) z a
  IsWord w z (inv a at) = (is_number a ≡ false) × IsWord (option_or w (size_in a)) z a
  IsWord w z (cast y sign a at) =
      (y ≡ z) × (u : Size) × IsRead u a × IsWord (size_in a) u a
  IsWord w z (bin op a b at) =
      let v = left_wanted op w (size_in a) (size_in b) in
      (v ≡ Some z) × ((is_number a && is_number b) ≡ false) × IsWord v z a
      × (((is_shift op ≡ true) × IsCount b) ⊎ (((is_computed op ≡ true) × IsWord v z b)
      ⊎ ((is_carried op ≡ true) × (is_number a ≡ false) × IsFlag b)))

  -- an answer: a flag, a comparison of words, or the opposite of one
  abbrev pub IsAnswer : Term → Type 0
  IsAnswer (truth b at) = Unit {0}
  IsAnswer (var x) = (x.kind ≡ kind.Bool) × IsScalar x
  IsAnswer (inv a at) = IsAnswer a
  IsAnswer (bin op a b at) =
      let v = left_wanted op None (size_in a) (size_in b) in
      (is_compared op ≡ true) × (z : Size) × (v ≡ Some z)
      × ((is_number a && is_number b) ≡ false) × IsWord v z a × IsWord v z b
  IsAnswer t = ⊥

  -- what typing and expansion give of an assignment to a variable, which is a word
  pub record IsWordAssigned (x : Var) (op : Option BinOp) (e : Expr) : Type 0 where
    pub size : Size
    pub is : (ref_of x).kind ≡ kind.Word size
    pub scalar : IsScalar (ref_of x)
    pub value :
        (w : Expr) → whole_of (Some (lval.Var x)) op e ≡ Some w
        → IsWord (Some size) size (term_of w)

  -- of one to a cell of an array in the frame, at an index
  pub record IsCellAssigned (x : Var) (i : Expr) (op : Option BinOp) (e : Expr) : Type 0 where
    pub size : Size
    pub cells : ℕ
    pub array : IsArray (ref_of x) size cells
    pub index : IsSum (term_of i)
    pub value :
        (w : Expr) → whole_of (Some (lval.Cell x i)) op e ≡ Some w
        → IsWord (Some size) size (term_of w)

  -- of one to memory
  pub record IsStored (a : Access) (op : Option BinOp) (e : Expr) : Type 0 where
    pub size : Size
    pub address : IsSum (place_of a).at
    pub value :
        (w : Expr) → whole_of (Some (lval.Store a)) op e ≡ Some w
        → let z = option_or (left_sizes (lval.Store a ∷ [])) (own_size w) in
        (option_or (place_of a).spot.size z ≡ Some size) × IsWord z size (term_of w)

  abbrev pub HasAnswer : Option Expr → Type 0
  HasAnswer None = Unit {0}
  HasAnswer (Some c) = IsAnswer (term_of c)
