-- Operands and destinations of a statement are in the places of stack variables that it names.
use Rattle.std.proofs.Common.{◌≡◌, ℕ, ◌+◌, ◌*◌, ◌<◌, ◌≤◌, ◌^◌, if◌then◌else◌, true, List, [], Option, Some, None, sym, ap, subst, arith, ℤ, pos, ◌+ℤ◌, ◌-ℤ◌, ◌*ℤ◌, ◌≤ℤ◌, ◌<ℤ◌}
use Rattle.std.specs.Prelude.{Contains, ⊤, nat_lt}
use Rattle.std.proofs.lemmas.Bool.{lt-ltb}
use Rattle.std.proofs.lemmas.Int.{ints}
use Rattle.jz_words.specs.declared.size.Size.{Size}
use Rattle.jz_words.specs.declared.size.Size.TheVariants.{S8, S16, S32, S64}
use Rattle.jz_words.specs.Sizes.{bytes_of, half, modulus, signed}
use Rattle.jz_words.specs.Words.{residue}
use Rattle.jz_words.specs.Readings.{reading_of}
use Rattle.jz_tree.specs.declared.expr.Expr.{Expr}
use Rattle.jz_tree.specs.declared.expr.Var.{Var}
use Rattle.jz_tree.specs.declared.stmt.Lval.{Lval}
use Rattle.jz_type_names.specs.Parts.{cells_in}
use Rattle.jz_meaning.specs.Values.{key_of, cell_key, ref_of}
use Rattle.jz_operations.specs.declared.operation.Arg.{Arg}
use Rattle.jz_operations.specs.declared.operation.Arg.TheVariants as arg
use Rattle.jz_homes.specs.Homes.{Homes, in_cell}
use Rattle.jz_homes.specs.Sums.{Sum, IsSum, IsIndex, constant, variable}
use Rattle.jz_homes.specs.Operands as operands
use Rattle.jz_homes.specs.Operands.{Leaks, AreCells, IsArg, IsDest}
use Rattle.jz_events.specs.Outs.{cell_form}
use Rattle.jz_compiled.specs.Layout.{Name, Place}
use Rattle.jz_compiled.specs.Showing.{LiesInPlace, FormStaysIn}
use Rattle.jz_item_names.specs.Names.{key_name, keys_in}
use Rattle.jz_lowering_cases.specs.Staying.{ArePlaced, IsInside, IsSmall}
use Rattle.jz_lowering_cases.proofs.Parts.{IsOf, of_var, of_cell, IsLeftOf}
use Rattle.std.proofs.lemmas.List.Elements.{All-head, All-contains}

-- ---- where a cell begins
abbrev begins : Size → ℕ → ℕ → ℕ → ℤ
begins z o j s = (pos o +ℤ (pos (bytes_of z) *ℤ pos j)) -ℤ pos s

not_before : (z : Size) (o j s : ℕ) → (pos o -ℤ pos s) ≤ℤ begins z o j s
not_before S8 o j s = omega (arith, ints)
not_before S16 o j s = omega (arith, ints)
not_before S32 o j s = omega (arith, ints)
not_before S64 o j s = omega (arith, ints)

before_end : (z : Size) (o j n s : ℕ) → j < n → begins z o j s <ℤ (pos (o + n * bytes_of z) -ℤ pos s)
before_end S8 o j n s lt = omega (arith, ints, lt)
before_end S16 o j n s lt = omega (arith, ints, lt)
before_end S32 o j n s lt = omega (arith, ints, lt)
before_end S64 o j n s lt = omega (arith, ints, lt)

far_enough : (o n j : ℕ) (z : Size) → j < n → o + n * bytes_of z ≤ 2 ^ 32 → j < 2 ^ 32
far_enough o n j S8 lt h = omega (arith, lt, h)
far_enough o n j S16 lt h = omega (arith, lt, h)
far_enough o n j S32 lt h = omega (arith, lt, h)
far_enough o n j S64 lt h = omega (arith, lt, h)

-- a word below 2 ^ 63 is its signed reading
low_word : (a : ℕ) → a < 2 ^ 32 → signed S64 a ≡ pos a
unfolding signed
low_word a lt = let less : a < half S64 = omega (arith, lt) in let e : nat_lt a (half S64) ≡ true = lt-ltb a (half S64) less in ap (λ b. if b then pos a else pos a -ℤ pos (modulus S64)) e

read_itself : (k : ℤ) → residue S64 k < 2 ^ 32 → reading_of S64 k ≡ pos (residue S64 k)
read_itself k lt = low_word (residue S64 k) lt

module _ (home : Homes) (places : List Place) (slots : ℕ → ℕ) (size : ℕ) (placed : ArePlaced home places slots) (small : IsSmall places size) (names : List Name) where
  -- a cell of a stack variable that is named
  lies : (w i : ℕ) (z : Size) (n : Name) (q : Place) → Contains places q → q.of.name ≡ n → q.offset ≡ slots w → i < q.of.count → q.of.cell ≡ z → Contains names n → LiesInPlace places size names (begins z (slots w) i size)
  lies w i z n q among name offset within cell named =
      let below : i < q.of.count = within in (
        q,
        among,
        subst (Contains names) (sym name) named,
        subst (λ o. (pos o -ℤ pos size) ≤ℤ begins z (slots w) i size) (sym offset) (not_before z (slots w) i size),
        subst (λ o. begins z (slots w) i size <ℤ (pos (o + q.of.count * bytes_of q.of.cell) -ℤ pos size)) (sym offset)
            (subst (λ y. begins z (slots w) i size <ℤ (pos (slots w + q.of.count * bytes_of y) -ℤ pos size)) (sym cell) (before_end z (slots w) i q.of.count size below)),
      )

  at_home : (x : Var) (c : Option ℕ) (w i : ℕ) (z : Size) → home (record { name = (ref_of x).name; copy = (ref_of x).copy; cell = c }) ≡ Some (in_cell w i z) → Contains names (key_name x) → LiesInPlace places size names (begins z (slots w) i size)
  at_home x c w i z h named = let p = placed (record { name = (ref_of x).name; copy = (ref_of x).copy; cell = c }) w i z h in lies w i z (key_name x) p.place p.among p.name p.offset p.within p.size named

  -- the first cell of an array
  begin_is : (z : Size) (o : ℕ) → begins z o 0 size ≡ (pos o -ℤ pos size)
  begin_is S8 o = omega (arith, ints)
  begin_is S16 o = omega (arith, ints)
  begin_is S32 o = omega (arith, ints)
  begin_is S64 o = omega (arith, ints)

  -- ---- an operand
  abbrev pub ArgStays : Size → Arg → Type 0
  ArgStays z (arg.Cell c) = FormStaysIn places size names (cell_form slots size z c c.index).0
  ArgStays z _ = ⊤

  index_stays : (x : Var) (e : Expr) (z : Size) (n w : ℕ) (t : Sum) (b : Option ℕ) (i : ℤ) → AreCells home x z n w → IsSum home e t → IsIndex t b i → Contains names (key_name x) → IsInside home (x, e)
      → ArgStays z (arg.Cell (record { of = w; index = b; offset = i }))
  index_stays x e z n w t b i cells sum (constant k) named inside =
      let j = residue S64 k in
      let h = cells.2 j (inside z n k cells.0 sum) in
      let p = placed (cell_key (ref_of x) j) w j z h in
      let bounded = All-contains (λ (q : Place). q.offset + q.of.count * bytes_of q.of.cell ≤ 2 ^ 32) places p.place small.ends p.among in
      subst (λ o. LiesInPlace places size names ((pos (slots w) +ℤ (pos (bytes_of z) *ℤ o)) -ℤ pos size)) (sym (read_itself k (far_enough p.place.offset p.place.of.count j p.place.of.cell p.within bounded)))
      (at_home x (Some j) w j z h named)
  index_stays x e z n w t b i cells sum (variable v k) named inside =
      subst (LiesInPlace places size names) (begin_is z (slots w)) (at_home x (Some 0) w 0 z (cells.2 0 cells.1) named)

  abbrev Of : Expr → Type 0
  Of = IsOf (Contains names) (IsInside home)

  abbrev LeftOf : Lval → Type 0
  LeftOf = IsLeftOf (Contains names) (IsInside home)

  scalar_stays : (x : Var) (w : ℕ) (z : Size) → home (key_of (ref_of x)) ≡ Some (in_cell w 0 z) → Contains names (key_name x) → ArgStays z (arg.Cell (record { of = w; index = None; offset = pos 0 }))
  scalar_stays x w z h named = at_home x (ref_of x).cell w 0 z h named

  pub arg_stays : {z : Size} {e : Expr} {a : Arg} {p : Leaks} → Of e → IsArg home z e a p → ArgStays z a
  arg_stays h (operands.a_word x v k) = tt
  arg_stays h (operands.a_number i at) = tt
  arg_stays {z} h (operands.a_scalar x w k) = scalar_stays x w z k (of_var (Contains names) (IsInside home) x h)
  arg_stays {z} h (operands.a_cell x e n w t b i cells sum at) =
      let c = of_cell (Contains names) (IsInside home) x e h in
      index_stays x e z n w t b i cells sum at c.0 c.1
  arg_stays h (operands.a_load a t m s sum at) = tt

  pub dest_stays : {z : Size} {d : Lval} {b : Arg} {r : Leaks} → LeftOf d → IsDest home z d b r → ArgStays z b
  dest_stays h (operands.to_word x v k q) = tt
  dest_stays {z} h (operands.to_scalar x w k q) = scalar_stays x w z q (All-head (Contains names) (key_name x) [] h.keys)
  dest_stays {z} h (operands.to_cell x e n w t b i cells sum at) = index_stays x e z n w t b i cells sum at (All-head (Contains names) (key_name x) (keys_in e) h.keys) (All-head (IsInside home) (x, e) (cells_in e) h.cells)
  dest_stays h (operands.to_memory a t m s sum at) = tt
