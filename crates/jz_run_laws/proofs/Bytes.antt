-- Bytes of a memory, and the words that they make.
use Rattle.std.proofs.Common.{◌≡◌, ℕ, zero, suc, ◌+◌, ◌*◌, ◌/◌, ◌%◌, ◌^◌, ◌<◌, Bool, true, false, cond, Option, Some, None, sym, ◌∙◌, arith, if◌then◌else◌, ◌∷◌, []}
use Rattle.std.specs.Prelude.{◌||◌}
use Rattle.std.specs.Option.{option_and_then, option_or}
use Rattle.std.specs.Ordering.{nat_cmp, eq_by_cmp}
use Rattle.std.specs.Cmp.{nat_cmp_total}
use Rattle.std.specs.FinMap.{get, insert, get-insert}
use Rattle.jz_tree.specs.Span.{Span}
use Rattle.jz_tree.specs.Size.{Size}
use Rattle.jz_tree.specs.Size.TheVariants.{S8, S16, S32, S64}
use Rattle.jz_tree.specs.Sizes.{bytes_of}
use Rattle.jz_tree.specs.Memory.{Memory, loaded, all_valid, stored}
use Rattle.jz_meaning.specs.declared.value.Why.TheVariants.{Align}
use Rattle.jz_meaning.specs.Rules.{went}
use Rattle.jz_meaning.specs.Attempts.{stuck_at}
use Rattle.jz_meaning.specs.States.{Value, word}
use Rattle.jz_meaning.specs.Operators.{word_at}
use Rattle.jz_meaning.specs.Values.{MemoryAccess, is_aligned, accessed, load_word, address_at, load_at, after_store, store_word, store_at}
use Rattle.jz_run_laws.specs.Kinds.{FitsSize, HoldsBytes}
use Rattle.jz_run_laws.specs.Kept.{IfWent}
use Rattle.jz_run_laws.proofs.Parts.{AnyOf, IfThere, went_then, went_any, there_if, there_is}
use Rattle.jz_run_laws.proofs.Bounds.{IsBelow}

-- ---- loads

abbrev UpTo : ℕ → ℕ → Type 0
UpTo m a = a < m

one_more : (b high n : ℕ) → b < 256 → high < 256 ^ n → b + 256 * high < 256 ^ suc n
one_more b high n lt h = let e : 256 ^ suc n ≡ 256 * 256 ^ n = grind arith in omega (arith, e, lt, h)

bytes_upto : (low high : Option ℕ) (n : ℕ) → IfThere (UpTo 256) low → IfThere (UpTo (256 ^ n)) high
    → IfThere (UpTo (256 ^ suc n)) (option_and_then (λ b. option_and_then (λ h. Some (b + 256 * h)) high) low)
bytes_upto None high n p q = tt
bytes_upto (Some b) None n p q = tt
bytes_upto (Some b) (Some h) n p q = one_more b h n p q

loaded_upto : (m : Memory) (a n : ℕ) → HoldsBytes m → IfThere (UpTo (256 ^ n)) (loaded m a n)
unfolding loaded
loaded_upto m a zero h = omega arith
loaded_upto m a (suc n) h = bytes_upto (get m a) (loaded m ((a + 1) % 2 ^ 64) n) n (there_if (UpTo 256) (get m a) (h a)) (loaded_upto m ((a + 1) % 2 ^ 64) n h)

loaded_below : (s : Size) (m : Memory) (a : ℕ) → HoldsBytes m → IfThere (IsBelow s) (loaded m a (bytes_of s))
loaded_below S8 m a h = loaded_upto m a 1 h
loaded_below S16 m a h = loaded_upto m a 2 h
loaded_below S32 m a h = loaded_upto m a 4 h
loaded_below S64 m a h = loaded_upto m a 8 h

aligned_so : {A : Type 0} (P : A → Type 0) (c : Bool) (at : Span) (a : ℕ) (x : A) → P x → IfWent P (if c then went (a ∷ []) x else stuck_at at Align)
aligned_so P true at a x h = h
aligned_so P false at a x h = tt

accessed_so : {A : Type 0} (P : A → Type 0) (at : Span) (u : Bool) (s : Size) (a : ℕ) (p : Option A) → IfThere P p → IfWent P (accessed at u s a p)
accessed_so P at u s a None h = tt
accessed_so P at u s a (Some x) h = aligned_so P (u || is_aligned s a) at a x h

load_word_fits : (at : Span) (u : Bool) (z : Option Size) (a : ℕ) (m : Memory) → HoldsBytes m → IfWent FitsSize (load_word at u z a m)
load_word_fits at u None a m h = tt
load_word_fits at u (Some s) a m h =
    went_then (IsBelow s) FitsSize (accessed at u s a (loaded m a (bytes_of s))) (λ b. went [] (word s b))
    (accessed_so (IsBelow s) at u s a (loaded m a (bytes_of s)) (loaded_below s m a h)) (λ b lt. lt)

pub load_fits : (p : MemoryAccess) (w : Option Size) (v : Value) (m : Memory) → HoldsBytes m → IfWent FitsSize (load_at p w v m)
load_fits p w v m h =
    went_then (AnyOf {A = ℕ}) FitsSize (address_at p v) (λ a. load_word p.span p.unaligned (option_or p.size w) a m) (went_any (address_at p v))
    (λ a t. load_word_fits p.span p.unaligned (option_or p.size w) a m h)

-- ---- stores

found_byte : (c : Bool) (b q : ℕ) (old : Option ℕ) → b < 256 → ((x : ℕ) → old ≡ Some x → x < 256) → IfThere (UpTo 256) (cond c (Some b) old)
found_byte true b q old lt h = lt
found_byte false b q old lt h = there_if (UpTo 256) old h

byte_put : (m : Memory) (a b : ℕ) → b < 256 → HoldsBytes m → HoldsBytes (insert m a b)
byte_put m a b lt h = λ q x e.
    there_is (UpTo 256) (cond (eq_by_cmp nat_cmp q a) (Some b) (get m q)) x (sym (get-insert nat_cmp_total m a b q) ∙ e)
    (found_byte (eq_by_cmp nat_cmp q a) b q (get m q) lt (h q))

low_byte : (v : ℕ) → v % 256 < 256
low_byte v = omega arith

pub stored_bytes : (m : Memory) (a n v : ℕ) → HoldsBytes m → HoldsBytes (stored m a n v)
unfolding stored
stored_bytes m a zero v h = h
stored_bytes m a (suc n) v h = stored_bytes (insert m a (v % 256)) ((a + 1) % 2 ^ 64) n (v / 256) (byte_put m a (v % 256) (low_byte v) h)

valid_bytes : (c : Bool) (m : Memory) → HoldsBytes m → IfThere HoldsBytes (if c then Some m else None)
valid_bytes true m h = h
valid_bytes false m h = tt

store_word_bytes : (at : Span) (u : Bool) (z : Option Size) (a : ℕ) (v : Option Value) (m : Memory) → HoldsBytes m → IfWent HoldsBytes (store_word at u z a v m)
store_word_bytes at u None a v m h = tt
store_word_bytes at u (Some s) a None m h = tt
store_word_bytes at u (Some s) a (Some v) m h =
    went_then (AnyOf {A = ℕ}) HoldsBytes (word_at at s v) (λ b. accessed at u s a (after_store m a s b)) (went_any (word_at at s v))
    (λ b t. accessed_so HoldsBytes at u s a (after_store m a s b) (valid_bytes (all_valid m a (bytes_of s)) (stored m a (bytes_of s) b) (stored_bytes m a (bytes_of s) b h)))

pub store_bytes : (p : MemoryAccess) (z : Option Size) (n : Value) (v : Option Value) (m : Memory) → HoldsBytes m → IfWent HoldsBytes (store_at p z n v m)
store_bytes p z n v m h =
    went_then (AnyOf {A = ℕ}) HoldsBytes (address_at p n) (λ a. store_word p.span p.unaligned (option_or p.size z) a v m) (went_any (address_at p n))
    (λ a t. store_word_bytes p.span p.unaligned (option_or p.size z) a v m h)
