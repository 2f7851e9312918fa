-- What holds where a run stands, in the words of the laws of facts.
use Rattle.std.proofs.Common.{◌≡◌, ℕ, zero, suc, ◌+◌, ◌*◌, ◌^◌, ◌%◌, ◌<◌, Option, Some, None, Bool, true, false, refl, ap, sym, ◌∙◌, subst, arith, if◌then◌else◌}
use Rattle.std.specs.Prelude.{nat_lt}
use Rattle.std.specs.Option.{option_and_then}
use Rattle.std.specs.FinMap.{get}
use Rattle.x64_insn.specs.Size.{Size}
use Rattle.x64_insn.specs.Sizes.{modulus}
use Rattle.x64_insn.specs.Memory.{Memory, loaded}
use Rattle.jz_meaning.specs.declared.access.Kind.{Kind}
use Rattle.jz_meaning.specs.declared.access.Kind.TheVariants as kind
use Rattle.jz_meaning.specs.States.{Value, word, boolean, integer, Key, State}
use Rattle.jz_meaning.specs.Values.{Ref, key_of, cell_key, size_of}
use Rattle.jz_run_laws.specs.Kinds.{Kinds, cell_of, part_of, kind_at, IsOfKind, HoldsBytes}
use Rattle.jz_fact_laws.specs.Facts.{Facts, Given}
use Rattle.jz_fact_laws.specs.Saying.{Fits, Holds}
use Rattle.jz_standing.specs.Typing.{sizes_of, NoNumbers, IsScalar, IsArray}
use Rattle.jz_standing.specs.Standing.{Stands}

-- ---- loads

abbrev UpTo : ℕ → Option ℕ → Type 0
UpTo m o = (b : ℕ) → o ≡ Some b → b < m

some_same : {A : Type 0} {a b : A} → Some a ≡ Some b → a ≡ b
some_same e = cc e

one_more : (low high : Option ℕ) (n : ℕ) → UpTo 256 low → UpTo (256 ^ n) high
    → UpTo (256 ^ suc n) (option_and_then (λ b. option_and_then (λ h. Some (b + 256 * h)) high) low)
one_more None high n p q b e = absurd (cc e)
one_more (Some l) None n p q b e = absurd (cc e)
one_more (Some l) (Some h) n p q b e =
    let i : l + 256 * h ≡ b = some_same e in
    let x : l < 256 = p l refl in
    let y : h < 256 ^ n = q h refl in
    let z : 256 ^ suc n ≡ 256 * 256 ^ n = grind arith in
    omega (arith, i, x, y, z)

loaded_below : (m : Memory) (a n : ℕ) → HoldsBytes m → UpTo (256 ^ n) (loaded m a n)
unfolding loaded
loaded_below m a zero h b e = let i : 0 ≡ b = some_same e in omega (arith, i)
loaded_below m a (suc n) h b e = one_more (get m a) (loaded m ((a + 1) % 2 ^ 64) n) n (h a) (loaded_below m ((a + 1) % 2 ^ 64) n h) b e

pub loaded_fits : (m : Memory) (a n b : ℕ) → HoldsBytes m → loaded m a n ≡ Some b → b < 256 ^ n
loaded_fits m a n b h e = loaded_below m a n h b e

-- ---- values

fits_kind : (k : Kind) (v : Value) → (k ≡ kind.Int → ⊥) → IsOfKind k v → Fits v
fits_kind (kind.Word z) (word y a) n h = subst (λ x. a < modulus x) (sym h.0) h.1
fits_kind k (boolean c) n h = tt
fits_kind kind.Int (integer i) n h = n refl
fits_kind kind.Int (word y a) n h = absurd h
fits_kind kind.Undeclared (word y a) n h = absurd h
fits_kind kind.Undeclared (integer i) n h = absurd h
fits_kind kind.Bool (word y a) n h = absurd h
fits_kind kind.Bool (integer i) n h = absurd h
fits_kind (kind.Word z) (integer i) n h = absurd h
fits_kind (kind.Array z m) (word y a) n h = absurd h
fits_kind (kind.Array z m) (integer i) n h = absurd h

-- what is a word, itself or as a cell
size_if : (c : Bool) (y z : Size) (n : ℕ) → IsOfKind (if c then kind.Word y else kind.Undeclared) (word z n) → Some y ≡ Some z
size_if true y z n h = ap Some (sym h.0)
size_if false y z n h = absurd h

size_kind : (k : Kind) (c : Option ℕ) (z : Size) (n : ℕ) → IsOfKind (part_of k c) (word z n) → size_of k ≡ Some z
size_kind (kind.Word y) None z n h = ap Some (sym h.0)
size_kind kind.Int None z n h = absurd h
size_kind kind.Undeclared None z n h = absurd h
size_kind kind.Bool None z n h = absurd h
size_kind (kind.Array y m) None z n h = absurd h
size_kind (kind.Array y m) (Some i) z n h = size_if (nat_lt i m) y z n h
size_kind (kind.Word y) (Some i) z n h = absurd h
size_kind kind.Int (Some i) z n h = absurd h
size_kind kind.Undeclared (Some i) z n h = absurd h
size_kind kind.Bool (Some i) z n h = absurd h

module _ (g : Given) (kinds : Kinds) (in_frame : Key → Bool) (entry : Key → ℕ) (s : Facts) (st : State) where
  pub holds : NoNumbers kinds → Stands g kinds in_frame entry s st → Holds g (sizes_of kinds) entry s st
  holds nn H = record {
    says = H.says;
    fits = λ k v e. fits_kind (kind_at kinds k) v (nn k) (H.kept.variables k v e);
    sized = λ k z n e. size_kind (kinds k.name k.copy) k.cell z n (H.kept.variables k (word z n) e);
    bytes = λ a n b e. loaded_fits st.memory a n b H.kept.bytes e;
    ranges = H.ranges;
  }

  -- what a scalar holds, and a cell of an array
  pub scalar_holds : Stands g kinds in_frame entry s st → (x : Ref) → IsScalar kinds in_frame x → (v : Value) → st.store (key_of x) ≡ Some v → IsOfKind x.kind v
  scalar_holds H x i v e = subst (λ k. IsOfKind k v) i.declared (H.kept.variables (key_of x) v e)

  cell_kind : (x : Ref) (z : Size) (n : ℕ) → IsArray kinds in_frame x z n → kinds x.name x.copy ≡ kind.Array z n
  cell_kind x z n i = sym (ap (part_of (kinds x.name x.copy)) i.entire) ∙ i.declared ∙ i.is

  of_cell : (c : Bool) (z : Size) (v : Value) → IsOfKind (if c then kind.Word z else kind.Undeclared) v → IsOfKind (kind.Word z) v
  of_cell true z v h = h
  of_cell false z v h = absurd h

  pub cell_holds : Stands g kinds in_frame entry s st → (x : Ref) (z : Size) (n : ℕ) → IsArray kinds in_frame x z n → (i : ℕ) (v : Value) → st.store (cell_key x i) ≡ Some v → IsOfKind (kind.Word z) v
  cell_holds H x z n a i v e = of_cell (nat_lt i n) z v (subst (λ k. IsOfKind (cell_of k i) v) (cell_kind x z n a) (H.kept.variables (cell_key x i) v e))
