-- There is a memory where `exec` starts a function.
use Rattle.std.proofs.Common.{◌≡◌, ℕ, suc, ◌+◌, ◌-◌, ◌^◌, ◌<◌, ◌≤◌, Bool, true, false, cond, Ordering, if◌then◌else◌, List, [], ◌∷◌, Option, Some, None, refl, sym, ap, ◌∙◌, arith}
use Rattle.std.specs.Prelude.{nat_lt, slice_get, replicate}
use Rattle.std.specs.declared.cmp.Ordering.TheVariants.{Less, Equal, Greater}
use Rattle.std.specs.Ordering.{nat_cmp, is_eq, MatchOrdering}
use Rattle.std.specs.Cmp.{nat_cmp_total, ranks}
use Rattle.std.specs.FinMap.{get, insert, get-insert}
use Rattle.std.specs.Option.{option_or}
use Rattle.std.proofs.lemmas.Bool.{le-ltb}
use Rattle.std.proofs.lemmas.Bool.Decides.{nat_tests}
use Rattle.jz_words.specs.Memory.{Memory}
use Rattle.jz_tree.specs.declared.program.Fun.{Fun}
use Rattle.jz_leak.specs.MemoryMap.{byte_from, AddsBytes}
use Rattle.jz_preconditions.specs.Stating.{preconditions_of}
use Rattle.jz_items.specs.declared.item.Item.{Item}
use Rattle.jz_inputs.specs.Inputs.{HoldsRegions}
use Rattle.jasminc_steps.specs.Starting.{return_slot}
use Rattle.jasminc_starts.specs.Memories.{most_frame, IsStartMemory}
use Rattle.jasminc_starts.proofs.Memories.{past_end, zeros_long}

-- bytes one after the other
abbrev with_bytes : Memory → ℕ → List ℕ → Memory
with_bytes m a [] = m
with_bytes m a (b ∷ bs) = insert (with_bytes m (a + 1) bs) a b

-- ---- one byte, and those behind it
before : (q a b : ℕ) (bs : List ℕ) → q < a → byte_from (a + 1) bs q ≡ byte_from a (b ∷ bs) q
before q a b bs lt = let x : nat_lt q (a + 1) ≡ true = grind (arith, nat_tests) in let y : nat_lt q a ≡ true = grind (arith, nat_tests) in rw (x, y) refl

here : (a b : ℕ) (bs : List ℕ) → ◌≡◌ {A = Option ℕ} (Some b) (byte_from a (b ∷ bs) a)
here a b bs = let y : nat_lt a a ≡ false = grind (arith, nat_tests) in let z : a - a ≡ 0 = omega arith in rw (y, z) refl

behind : (q a b : ℕ) (bs : List ℕ) → a < q → byte_from (a + 1) bs q ≡ byte_from a (b ∷ bs) q
behind q a b bs lt =
    let x : nat_lt q (a + 1) ≡ false = grind (arith, nat_tests) in
    let y : nat_lt q a ≡ false = grind (arith, nat_tests) in
    let z : q - a ≡ suc (q - (a + 1)) = omega arith in
    rw (x, y, z) refl

nothing : (b : Bool) (k : ℕ) (o : Option ℕ) → o ≡ option_or (if b then None else slice_get [] k) o
nothing true k o = refl
nothing false k o = refl

at_test : (q a : ℕ) (o : Ordering) → MatchOrdering o (q < a) (q ≡ a) (a < q) → (b : ℕ) (bs : List ℕ) (rest old : Option ℕ) → rest ≡ option_or (byte_from (a + 1) bs q) old
    → cond (is_eq o) (Some b) rest ≡ option_or (byte_from a (b ∷ bs) q) old
at_test q a Less e b bs rest old h = h ∙ ap (λ x. option_or x old) (before q a b bs e)
at_test q a Equal e b bs rest old h = ap (λ x. option_or x old) (here a b bs ∙ ap (byte_from a (b ∷ bs)) (sym e))
at_test q a Greater e b bs rest old h = h ∙ ap (λ x. option_or x old) (behind q a b bs e)

has_bytes : (m : Memory) (q a : ℕ) (bs : List ℕ) → get (with_bytes m a bs) q ≡ option_or (byte_from a bs q) (get m q)
has_bytes m q a [] = nothing (nat_lt q a) (q - a) (get m q)
has_bytes m q a (b ∷ bs) =
    get-insert nat_cmp_total (with_bytes m (a + 1) bs) a b q
    ∙ at_test q a (nat_cmp q a) (ranks q a) b bs (get (with_bytes m (a + 1) bs) q) (get m q) (has_bytes m q (a + 1) bs)

-- bytes that end at 2 ^ 64 or before can be added
pub added_exists : (m : Memory) (a n : ℕ) → a + n ≤ 2 ^ 64 → (new : Memory) × AddsBytes m new a (replicate n 0)
added_exists m a n fits = (
  with_bytes m a (replicate n 0),
  record {
    below = λ q lt. has_bytes m q a (replicate n 0);
    past = λ q le. has_bytes m q a (replicate n 0) ∙ ap (λ x. option_or x (get m q)) (none_past q le);
  },
)
  where
    none_past : (q : ℕ) → 2 ^ 64 ≤ q → byte_from a (replicate n 0) q ≡ None
    none_past q le =
        let long = zeros_long n in
        ap (λ b. if b then None else slice_get (replicate n 0) (q - a)) (le-ltb q a (omega (arith, fits, le)))
        ∙ past_end (replicate n 0) (q - a) (omega (arith, fits, le, long))

pub start_exists : (frame : ℕ) (f : Fun) (words : List ℕ) (items : List Item) (input : Memory) → HoldsRegions f words items (preconditions_of f) input → frame ≤ most_frame
    → (m : Memory) × (s : IsStartMemory frame f words items m) × (s.input ≡ input)
start_exists frame f words items input holds small =
    let more = added_exists input (return_slot - frame) (frame + 8) (omega (arith, small)) in (more.0, record { input = input; holds = holds; added = more.1 }, refl)
