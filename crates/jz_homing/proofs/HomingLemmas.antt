-- The homes of a table are apart, in the frame, and of their kinds.
use Rattle.std.proofs.Common.{◌≡◌, inl, inr, ℕ, ◌<◌, Bool, true, false, List, length, Option, Some, None, refl, sym, ap, ◌∙◌, subst, arith, lt-ltb}
use Rattle.std.specs.Prelude.{◌&&◌, nat_lt, nat_eq, if◌then◌else◌, slice_get, slice_index_or}
use Rattle.std.proofs.lemmas.Bool.Decides.{nat_tests}
use Rattle.jz_words.specs.declared.size.Size.{Size}
use Rattle.jz_words.specs.Sizes.{bits_of}
use Rattle.jz_ir.specs.declared.code.Kind.{Kind}
use Rattle.jz_ir.specs.declared.code.Kind.TheVariants as kind
use Rattle.jz_meaning.specs.States.{Key, same_key}
use Rattle.jz_operations.specs.declared.operation.Stacked.{Stacked}
use Rattle.jz_operations.specs.Rows.{has_cell}
use Rattle.jz_operations.proofs.Somes.{same_some}
use Rattle.jz_homes.specs.Homes as homes
use Rattle.jz_homes.specs.Homes.{in_register, in_flag, in_cell, AreApart, IsHoming}
use Rattle.jz_lowered.specs.Functions.{AreKinds}
use Rattle.jz_operands.specs.declared.homes.Home.{Home}
use Rattle.jz_operands.specs.declared.homes.Home.TheVariants.{Word, Flag, Slot, Cells}
use Rattle.jz_operands.specs.TableHomes.{scalar_home, home_within, homes_by}
use Rattle.jz_homing.specs.Tables.{Table, frame_of}
use Rattle.jz_homing.specs.InnerTables.{variable_of, stacked_of, AreOther, IsKept, AreEntries}
use Rattle.jz_homing.proofs.EntryLemmas.{keys_same, key_itself, eqb-refl}

-- an entry gives a home: its own, or a cell of its array
data Gives (k : Key) : Key → Home → homes.Home → Type 0 where
  own : {h : Home} {x : homes.Home} → scalar_home (Some h) ≡ Some x → Gives k k h x
  cell : (w i n : ℕ) (z : Size) → k.cell ≡ Some i → i < n → Gives k (record k { cell = None }) (Cells w z n) (in_cell w i z)

record Comes (t : Key → Option Home) (k : Key) (x : homes.Home) : Type 0 where
  pub at : Key
  pub entry : Home
  pub there : t at ≡ Some entry
  pub gives : Gives k at entry x

scalar_comes : (t : Key → Option Home) (k : Key) (o : Option Home) (x : homes.Home) → t k ≡ o → scalar_home o ≡ Some x → Comes t k x
scalar_comes t k (Some h) x e f = record { at = k; entry = h; there = e; gives = own f }
scalar_comes t k None x e f = absurd cc

cell_comes : (t : Key → Option Home) (k : Key) (b : Bool) (i w n : ℕ) (z : Size) (x : homes.Home) → k.cell ≡ Some i → t (record k { cell = None }) ≡ Some (Cells w z n) → nat_lt i n ≡ b → (if b then Some (in_cell w i z) else None) ≡ Some x → Comes t k x
cell_comes t k true i w n z x c e less f = record {
  at = record k { cell = None };
  entry = Cells w z n;
  there = e;
  gives = subst (Gives k (record k { cell = None }) (Cells w z n)) (same_some (in_cell w i z) x f) (cell w i n z c (below less));
}
  where
    below : nat_lt i n ≡ true → i < n
    below h = grind (arith, nat_tests, h)
cell_comes t k false i w n z x c e less f = absurd cc

within_comes : (t : Key → Option Home) (k : Key) (c : Option ℕ) (a : Option Home) (x : homes.Home) → k.cell ≡ c → t (record k { cell = None }) ≡ a → home_within c a (t k) ≡ Some x → Comes t k x
within_comes t k None a x p q e = scalar_comes t k (t k) x refl e
within_comes t k (Some i) None x p q e = scalar_comes t k (t k) x refl e
within_comes t k (Some i) (Some (Word m z)) x p q e = scalar_comes t k (t k) x refl e
within_comes t k (Some i) (Some (Flag m)) x p q e = scalar_comes t k (t k) x refl e
within_comes t k (Some i) (Some (Slot w z)) x p q e = scalar_comes t k (t k) x refl e
within_comes t k (Some i) (Some (Cells w z n)) x p q e = cell_comes t k (nat_lt i n) i w n z x p q refl e

comes : (t : Key → Option Home) (k : Key) (x : homes.Home) → homes_by t k ≡ Some x → Comes t k x
comes t k x e = within_comes t k k.cell (t (record k { cell = None })) x refl refl e

-- ---- by the numbers of entries
Numbered : Home → homes.Home → Type 0
Numbered h (in_register n z) = variable_of h ≡ Some n
Numbered h (in_flag n) = variable_of h ≡ Some n
Numbered h (in_cell w i z) = stacked_of h ≡ Some w

own_numbered : (h : Home) (x : homes.Home) → scalar_home (Some h) ≡ Some x → Numbered h x
unfolding Numbered
own_numbered (Word n z) x e = subst (Numbered (Word n z)) (same_some (in_register n z) x e) refl
own_numbered (Flag n) x e = subst (Numbered (Flag n)) (same_some (in_flag n) x e) refl
own_numbered (Slot w z) x e = subst (Numbered (Slot w z)) (same_some (in_cell w 0 z) x e) refl
own_numbered (Cells w z n) x e = absurd cc

numbered : (k a : Key) (h : Home) (x : homes.Home) → Gives k a h x → Numbered h x
unfolding Numbered
numbered k a h x (own e) = own_numbered h x e
numbered k a h x (cell w i n z c less) = refl

others_apart : (h g : Home) (x y : homes.Home) → AreOther h g → Numbered h x → Numbered g y → AreApart x y
unfolding Numbered
others_apart h g (in_register m z) (in_register n y) o p q = λ e. o.0 m p (q ∙ ap (λ i. Some i) (sym e))
others_apart h g (in_register m z) (in_flag n) o p q = λ e. o.0 m p (q ∙ ap (λ i. Some i) (sym e))
others_apart h g (in_register m z) (in_cell w j y) o p q = tt
others_apart h g (in_flag m) (in_register n y) o p q = λ e. o.0 m p (q ∙ ap (λ i. Some i) (sym e))
others_apart h g (in_flag m) (in_flag n) o p q = λ e. o.0 m p (q ∙ ap (λ i. Some i) (sym e))
others_apart h g (in_flag m) (in_cell w j y) o p q = tt
others_apart h g (in_cell v i z) (in_register n y) o p q = tt
others_apart h g (in_cell v i z) (in_flag n) o p q = tt
others_apart h g (in_cell v i z) (in_cell w j y) o p q = inl (λ e. o.1 v p (q ∙ ap (λ n. Some n) (sym e)))

-- ---- of one entry
clash : (b : Bool) → b ≡ true → b ≡ false → ⊥
clash true e f = cc
clash false e f = cc

key_is : (j k : Key) → j.name ≡ k.name → j.copy ≡ k.copy → j.cell ≡ k.cell → j ≡ k
key_is j k n c d = λ i. record { name = n i; copy = c i; cell = d i }

one_key : (j k : Key) → same_key j k ≡ false → j ≡ k → ⊥
one_key j k f e = clash (same_key j k) (subst (λ q. same_key j q ≡ true) e (key_itself j)) f

cells_only : (h : Home) (w n : ℕ) (z : Size) (x : homes.Home) → h ≡ Cells w z n → scalar_home (Some h) ≡ Some x → ⊥
cells_only h w n z x e f = absurd (let g : scalar_home (Some (Cells w z n)) ≡ Some x = subst (λ u. scalar_home (Some u) ≡ Some x) e f in cc)

one_apart : (j k a b : Key) (h g : Home) (x y : homes.Home) → same_key j k ≡ false → Gives j a h x → Gives k b g y → a ≡ b → h ≡ g → AreApart x y
one_apart j k a b h g x y f (own e) (own d) is same = absurd (one_key j k f is)
one_apart j k a b h g x y f (own e) (cell w i n z c less) is same = absurd (cells_only h w n z x same e)
one_apart j k a b h g x y f (cell w i n z c less) (own d) is same = absurd (cells_only g w n z y (sym same) d)
one_apart j k a b h g x y f (cell v i m z c less) (cell w l n u d more) is same =
    inr (λ e. one_key j k f (key_is j k (ap (λ (q : Key). q.name) is) (ap (λ (q : Key). q.copy) is) (c ∙ ap (λ p. Some p) e ∙ sym d)))

module _ (t : Key → Option Home) (ks : List Kind) (ss : List Stacked) (table : AreEntries (record { entries = t; kinds = ks; stack = ss })) where
  apart_by : (b : Bool) (j k : Key) (x y : homes.Home) (p : Comes t j x) (q : Comes t k y) → same_key p.at q.at ≡ b → same_key j k ≡ false → AreApart x y
  apart_by true j k x y p q e f =
      let is : p.at ≡ q.at = keys_same p.at q.at e in
      one_apart j k p.at q.at p.entry q.entry x y f p.gives q.gives is (same_some p.entry q.entry (sym p.there ∙ ap t is ∙ q.there))
  apart_by false j k x y p q e f =
      others_apart p.entry q.entry x y (table.other p.at q.at p.entry q.entry e p.there q.there) (numbered j p.at p.entry x p.gives) (numbered k q.at q.entry y q.gives)

  -- ---- the frame
  cell_there : (o : Option Stacked) (z : Size) (i n : ℕ) → o ≡ Some (record { size = z; count = n }) → i < n → has_cell o z i ≡ true
  cell_there o z i n e less = subst (λ u. has_cell u z i ≡ true) (sym e) (there (nat_eq (bits_of z) (bits_of z)) (nat_lt i n) (eqb-refl (bits_of z)) (lt-ltb i n less))
    where
      there : (a b : Bool) → a ≡ true → b ≡ true → (a && b) ≡ true
      there true true e f = refl
      there true false e f = absurd cc
      there false b e f = absurd cc

  own_framed : (h : Home) (v i : ℕ) (z : Size) → scalar_home (Some h) ≡ Some (in_cell v i z) → IsKept ks ss h → has_cell (frame_of ss v) z i ≡ true
  own_framed (Word n y) v i z e k = absurd cc
  own_framed (Flag n) v i z e k = absurd cc
  own_framed (Slot w y) v i z e k =
      let is : w ≡ v = cc in
      let first : ◌≡◌ {A = ℕ} 0 i = cc in
      let size : y ≡ z = cc in
      cell_there (slice_get ss v) z i 1 (subst (λ u. slice_get ss u ≡ Some (record { size = z; count = 1 })) is (subst (λ u. slice_get ss w ≡ Some (record { size = u; count = 1 })) size k)) (omega (arith, first))
  own_framed (Cells w y n) v i z e k = absurd cc

  framed_by : (k a : Key) (h : Home) (x : homes.Home) (v i : ℕ) (z : Size) → Gives k a h x → x ≡ in_cell v i z → IsKept ks ss h → has_cell (frame_of ss v) z i ≡ true
  framed_by k a h x v i z (own e) f kept = own_framed h v i z (e ∙ ap (λ u. Some u) f) kept
  framed_by k a h x v i z (cell w j n y c less) f kept =
      let is : w ≡ v = cc in
      let at : j ≡ i = cc in
      let size : y ≡ z = cc in
      cell_there (slice_get ss v) z i n (subst (λ u. slice_get ss u ≡ Some (record { size = z; count = n })) is (subst (λ u. slice_get ss w ≡ Some (record { size = u; count = n })) size kept)) (subst (λ u. u < n) at less)

  pub is_homing : IsHoming (frame_of ss) (homes_by t)
  is_homing = record {
    same = λ j k e. ap (homes_by t) (keys_same j k e);
    apart = λ j k x y f p q. let a = comes t j x p in let b = comes t k y q in apart_by (same_key a.at b.at) j k x y a b refl f;
    framed = λ k v i z e. let c = comes t k (in_cell v i z) e in framed_by k c.at c.entry (in_cell v i z) v i z c.gives refl (table.kept c.at c.entry c.there);
  }

  -- ---- the kinds
  own_word : (h : Home) (n : ℕ) (z : Size) → scalar_home (Some h) ≡ Some (in_register n z) → IsKept ks ss h → (n < length ks) × (slice_index_or ks n kind.Word ≡ kind.Word)
  own_word (Word m y) n z e k = let is : m ≡ n = cc in subst (λ i. (i < length ks) × (slice_index_or ks i kind.Word ≡ kind.Word)) is k
  own_word (Flag m) n z e k = absurd cc
  own_word (Slot w y) n z e k = absurd cc
  own_word (Cells w y c) n z e k = absurd cc

  word_by : (k a : Key) (h : Home) (x : homes.Home) (n : ℕ) (z : Size) → Gives k a h x → x ≡ in_register n z → IsKept ks ss h → (n < length ks) × (slice_index_or ks n kind.Word ≡ kind.Word)
  word_by k a h x n z (own e) f kept = own_word h n z (e ∙ ap (λ u. Some u) f) kept
  word_by k a h x n z (cell w j m y c less) f kept = absurd cc

  own_flag : (h : Home) (n : ℕ) → scalar_home (Some h) ≡ Some (in_flag n) → IsKept ks ss h → (n < length ks) × (slice_index_or ks n kind.Word ≡ kind.Flag)
  own_flag (Word m y) n e k = absurd cc
  own_flag (Flag m) n e k = let is : m ≡ n = cc in subst (λ i. (i < length ks) × (slice_index_or ks i kind.Word ≡ kind.Flag)) is k
  own_flag (Slot w y) n e k = absurd cc
  own_flag (Cells w y c) n e k = absurd cc

  flag_by : (k a : Key) (h : Home) (x : homes.Home) (n : ℕ) → Gives k a h x → x ≡ in_flag n → IsKept ks ss h → (n < length ks) × (slice_index_or ks n kind.Word ≡ kind.Flag)
  flag_by k a h x n (own e) f kept = own_flag h n (e ∙ ap (λ u. Some u) f) kept
  flag_by k a h x n (cell w j m y c less) f kept = absurd cc

  pub are_kinds : AreKinds (homes_by t) ks
  are_kinds = record {
    words = λ k n z e. let c = comes t k (in_register n z) e in word_by k c.at c.entry (in_register n z) n z c.gives refl (table.kept c.at c.entry c.there);
    flags = λ k n e. let c = comes t k (in_flag n) e in flag_by k c.at c.entry (in_flag n) n c.gives refl (table.kept c.at c.entry c.there);
  }

pub table_is_homing : (t : Table) → AreEntries t → IsHoming (frame_of t.stack) (homes_by t.entries)
table_is_homing t h = is_homing t.entries t.kinds t.stack h

pub table_has_kinds : (t : Table) → AreEntries t → AreKinds (homes_by t.entries) t.kinds
table_has_kinds t h = are_kinds t.entries t.kinds t.stack h
