-- The first condition that the facts don't give, in the order of evaluation; at one access in the
-- order Bounds, Address, Align, Init.
use Rattle.std.specs.Prelude.{ℕ, zero, suc, ℤ, pos, ◌+ℤ◌, ◌-ℤ◌, int_le, ◌+◌, ◌*◌, nat_le, nat_lt, Bool, true, false, ◌&&◌, ◌||◌, List, [], ◌∷◌, ◌++◌, Option, Some, None, if◌then◌else◌}
use Rattle.std.specs.Option.{option_or}
use Rattle.jz_tree.specs.Span.{Span}
use Rattle.x64_insn.specs.Size.{Size}
use Rattle.x64_insn.specs.Size.TheVariants.{S64}
use Rattle.x64_insn.specs.Sizes.{bytes_of, half}
use Rattle.x64_insn.specs.Words.{residue}
use Rattle.jz_tree.specs.declared.expr.BinOp.{BinOp}
use Rattle.jz_tree.specs.declared.expr.BinOp.TheVariants as o
use Rattle.jz_tree.specs.declared.expr.Expr.{Expr}
use Rattle.jz_tree.specs.declared.stmt.Lval.{Lval}
use Rattle.jz_tree.specs.declared.stmt.Lval.TheVariants as lval
use Rattle.jz_tree.specs.declared.intrinsic.Intrinsic.{Intrinsic}
use Rattle.jz_tree.specs.declared.intrinsic.Intrinsic.TheVariants as name
use Rattle.jz_tree.specs.declared.intrinsic.Instance.{Instance}
use Rattle.jz_tree.specs.Spellings.{spelled}
use Rattle.jz_tree.specs.declared.expr.Var.{Var}
use Rattle.jz_meaning.specs.declared.access.Kind.{Kind}
use Rattle.jz_meaning.specs.declared.access.Kind.TheVariants as kind
use Rattle.jz_meaning.specs.declared.value.Why.{Why}
use Rattle.jz_meaning.specs.declared.value.Why.TheVariants.{Bounds, Address, Align, Init, Divide}
use Rattle.jz_meaning.specs.States.{Key}
use Rattle.jz_meaning.specs.Values.{Ref, key_of, ref_of, own_size, left_wanted, right_wanted}
use Rattle.jz_meaning.specs.Assignments.{left_sizes, last_left, whole_of, as_expr, left_size}
use Rattle.jz_meaning.specs.Intrinsics.{intrinsic_size}
use Rattle.jz_meaning.specs.Statements.{Operation, assign, instruction, Condition}
use Rattle.jz_terms.specs.Terms.{Spot, Term, num, truth, var, cell, load, neg, inv, cast, bin, term_of, place_of, size_in}
use Rattle.jz_facts.specs.Facts.{Set, Cell, Is, Under, Facts, Given, Region, least_of}
use Rattle.jz_intervals.specs.declared.interval.Interval.{Interval}
use Rattle.jz_facts.specs.Intervals.{size_or_64, interval, is_multiple}

pub data Target : Type 0 where
  -- a variable, or a scalar that was this cell of an array in registers
  named : List ℕ → Option ℕ → Target
  memory : Target
  division : Target

pub record Alarm : Type 0 where
  pub span : Span
  pub why : Why
  pub target : Target

abbrev pub or_else : Option Alarm → Option Alarm → Option Alarm
or_else (Some a) b = Some a
or_else None b = b

-- the condition holds, or this is the alarm
abbrev pub unless : Bool → Span → Why → Target → Option Alarm
unless c at why target = if c then None else Some (record { span = at; why = why; target = target })

-- ---- addresses

-- a sum of variables, of scaled variables and of numbers
pub record Sum : Type 0 where
  pub plain : List Ref
  pub scaled : List (Ref × ℕ)
  pub more : ℤ

abbrev pub joined : Option Sum → Option Sum → Option Sum
joined (Some a) (Some b) = Some (record {
  plain = a.plain ++ b.plain;
  scaled = a.scaled ++ b.scaled;
  more = a.more +ℤ b.more;
})
joined a b = None

abbrev pub taken : Option Sum → Term → Option Sum
taken (Some a) (num i at) = Some (record a { more = a.more -ℤ i })
taken a t = None

abbrev pub sum_of : Term → Option Sum
sum_of (num i at) = Some (record { plain = []; scaled = []; more = i })
sum_of (var x) = Some (record { plain = x ∷ []; scaled = []; more = pos 0 })
sum_of (bin o.Mul (num (pos k) t) (var x) at) =
    Some (record { plain = []; scaled = (x, k) ∷ []; more = pos 0 })
sum_of (bin o.Mul (var x) (num (pos k) t) at) =
    Some (record { plain = []; scaled = (x, k) ∷ []; more = pos 0 })
sum_of (bin o.Add a b at) = joined (sum_of a) (sum_of b)
sum_of (bin o.Sub a b at) = taken (sum_of a) b
sum_of t = None

-- base + scale * index + more
pub record Reading : Type 0 where
  pub base : Ref
  pub index : Option (Ref × ℕ)
  pub more : ℤ

abbrev pub readings_of : Sum → List Reading
readings_of s = by s.plain s.scaled
  where
    by : List Ref → List (Ref × ℕ) → List Reading
    by (b ∷ []) [] = record { base = b; index = None; more = s.more } ∷ []
    by (b ∷ []) (i ∷ []) = record { base = b; index = Some i; more = s.more } ∷ []
    by (b ∷ i ∷ []) [] =
        record { base = b; index = Some (i, 1); more = s.more }
        ∷ record { base = i; index = Some (b, 1); more = s.more } ∷ []
    by bs is = []

abbrev pub readings : Option Sum → List Reading
readings None = []
readings (Some s) = readings_of s

-- each index of the interval is one of the array's cells
abbrev pub bounds_of : Kind → Interval → Bool
bounds_of (kind.Array z n) i = nat_lt i.hi n
bounds_of k i = false

module _ (g : Given) (s : Facts) where
  -- what scale * index may be
  abbrev pub scaled_interval : Option (Ref × ℕ) → Interval
  scaled_interval None = record { lo = 0; hi = 0 }
  scaled_interval (Some i) =
      let j = interval g s S64 (var i.0) in record { lo = i.1 * j.lo; hi = i.1 * j.hi }

  abbrev pub least_length : Region → ℕ
  least_length r = by r.by + r.plus
    where
      by : Option Key → ℕ
      by None = 0
      by (Some y) = r.times * least_of g.params y

  -- the index is below the parameter y of the region's length
  abbrev pub below_length : Option (Ref × ℕ) → Region → ℤ → Bool
  below_length (Some i) r d = by r.by
    where
      by : Option Key → Bool
      by None = false
      by (Some y) =
          s (Under (key_of i.0) y) && (nat_le i.1 r.times && int_le d (pos (r.plus + r.times)))
  below_length None r d = false

  -- k bytes at the reading lie in the region
  abbrev pub is_inside : ℕ → Reading → Region → Bool
  is_inside k a r =
      let j = scaled_interval a.index in
      s (Is (key_of a.base) r.of) && (int_le (pos 0) (pos j.lo +ℤ a.more)
      && (int_le (pos (j.hi + k) +ℤ a.more) (pos (least_length r))
      || below_length a.index r (pos k +ℤ a.more)))

  abbrev pub in_some_region : ℕ → Reading → List Region → Bool
  in_some_region k a [] = false
  in_some_region k a (r ∷ rs) = is_inside k a r || in_some_region k a rs

  abbrev pub in_some_reading : ℕ → List Reading → Bool
  in_some_reading k [] = false
  in_some_reading k (a ∷ more) = in_some_region k a g.regions || in_some_reading k more

  abbrev pub asks_access : Spot → Size → Term → Option Alarm
  asks_access p z a = or_else
      (unless (in_some_reading (bytes_of z) (readings (sum_of a))) p.span Address memory)
      (unless (p.unaligned || is_multiple g s a (bytes_of z)) p.span Align memory)

  -- ---- arrays and variables

  abbrev pub all_cells : Key → ℕ → Bool
  all_cells a zero = true
  all_cells a (suc n) = s (Cell a n) && all_cells a n

  abbrev pub cell_set : Ref → Kind → Term → Bool
  cell_set x (kind.Array z n) (num i at) = s (Cell (key_of x) (residue S64 i))
  cell_set x (kind.Array z n) i = all_cells (key_of x) n
  cell_set x k i = false

  abbrev pub asks_index : Ref → Term → Option Alarm
  asks_index x i =
      unless (bounds_of x.kind (interval g s S64 i)) x.span Bounds (named x.name x.cell)

  abbrev pub divides : BinOp → Size → Term → Bool
  divides o.Div z b = nat_le 1 (interval g s z b).lo
  divides o.Rem z b = nat_le 1 (interval g s z b).lo
  divides o.DivS z b =
      nat_le 1 (interval g s z b).lo && nat_lt (interval g s z b).hi (half z)
  divides o.RemS z b =
      nat_le 1 (interval g s z b).lo && nat_lt (interval g s z b).hi (half z)
  divides op z b = true

  -- ---- terms, where a word of a size is wanted

  abbrev pub asks : Option Size → Term → Option Alarm
  asks w (num i at) = None
  asks w (truth b at) = None
  asks w (var x) = unless (s (Set (key_of x))) x.span Init (named x.name x.cell)
  asks w (cell x i) =
      or_else (asks (Some S64) i)
      (or_else (asks_index x i) (unless (cell_set x x.kind i) x.span Init (named x.name x.cell)))
  asks w (load p a) =
      or_else (asks (Some S64) a) (asks_access p (size_or_64 (option_or p.size w)) a)
  asks w (neg a at) = asks (option_or w (size_in a)) a
  asks w (inv a at) = asks (option_or w (size_in a)) a
  asks w (cast z sign a at) = asks (size_in a) a
  asks w (bin op a b at) =
      let v = left_wanted op w (size_in a) (size_in b) in
      or_else (asks v a)
      (or_else (asks (right_wanted op v) b)
      (unless (divides op (size_or_64 v) b) at Divide division))

  abbrev pub asks_expr : Option Size → Expr → Option Alarm
  asks_expr w e = asks w (term_of e)

  abbrev pub asks_if : Option Size → Option Expr → Option Alarm
  asks_if w None = None
  asks_if w (Some e) = asks_expr w e

  abbrev pub asks_each : Option Size → List Expr → Option Alarm
  asks_each w [] = None
  asks_each w (e ∷ es) = or_else (asks_expr w e) (asks_each w es)

  -- ---- operations

  -- a left side: the index and its bounds, or the address
  abbrev pub asks_left : Option Size → Lval → Option Alarm
  asks_left z (lval.Skip at) = None
  asks_left z (lval.Var x) = None
  asks_left z (lval.Cell x i) =
      or_else (asks_expr (Some S64) i) (asks_index (ref_of x) (term_of i))
  asks_left z (lval.Store a) =
      let p = place_of a in
      or_else (asks (Some S64) p.at)
      (asks_access p.spot (size_or_64 (option_or p.spot.size z)) p.at)

  abbrev pub asks_lefts : Option Size → List Lval → Option Alarm
  asks_lefts z [] = None
  asks_lefts z (d ∷ ds) = or_else (asks_left z d) (asks_lefts z ds)

  -- the old value behind a condition
  abbrev pub asks_old : Option Expr → Option Lval → Option Alarm
  asks_old None d = None
  asks_old (Some c) None = None
  asks_old (Some c) (Some d) = asks_if (left_size d) (as_expr d)

  abbrev pub asks_assign : List Lval → Option Expr → Option Expr → Option Alarm
  asks_assign to None cond = None
  asks_assign to (Some e) cond =
      let z = option_or (left_sizes to) (own_size e) in
      or_else (asks_expr z e)
      (or_else (asks_if None cond)
      (or_else (asks_old cond (last_left to)) (asks_lefts z to)))

  -- #DIV: the high word is below the divisor
  abbrev pub asks_division : Intrinsic → Size → List Expr → Span → Option Alarm
  asks_division name.Div z (a ∷ b ∷ d ∷ []) at =
      unless (nat_lt (interval g s z (term_of a)).hi (interval g s z (term_of d)).lo)
      at Divide division
  asks_division i z es at = None

  abbrev pub asks_instruction : Option Instance → List Lval → List Expr → Span → Option Alarm
  asks_instruction None to args at = None
  asks_instruction (Some i) to args at =
      let z = intrinsic_size i.name i.size to args in
      or_else (asks_each z args)
      (or_else (asks_division i.name (size_or_64 z) args at) (asks_lefts z to))

-- each result is set at the return
abbrev pub asks_results : List Var → Facts → Option Alarm
asks_results [] s = None
asks_results (x ∷ xs) s =
    let r = ref_of x in
    or_else (unless (s (Set (key_of r))) r.span Init (named r.name r.cell)) (asks_results xs s)

abbrev pub asks_operation : Given → Operation → Facts → Option Alarm
asks_operation g (assign to o e c at) s = asks_assign g s to (whole_of (last_left to) o e) c
asks_operation g (instruction to n args at) s = asks_instruction g s (spelled n) to args at
asks_operation g o s = None

abbrev pub asks_test : Given → Condition → Facts → Option Alarm
asks_test g c s = asks_expr g s None c.cond
