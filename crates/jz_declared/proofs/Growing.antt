-- A table of homes that grows by one declaration after another.
use Rattle.std.proofs.Common.{◌≡◌, ◌⊎◌, inl, inr, ℕ, zero, suc, ◌+◌, ◌<◌, Bool, true, false, List, [], ◌∷◌, ◌++◌, map, length, Option, Some, None, refl, sym, ap, ◌∙◌, subst, arith, append_assoc}
use Rattle.std.specs.Prelude.{slice_get, ⊤}
use Rattle.std.specs.List.{flat_map, range_with_len}
use Rattle.std.proofs.lemmas.List.{length-map, map-append, append-nil}
use Rattle.std.proofs.lemmas.List.FromFn.{map-range_with_len_more}
use Rattle.jz_words.specs.declared.size.Size.{Size}
use Rattle.jz_tree.specs.declared.expr.Decl.{Decl}
use Rattle.jz_tree.specs.declared.expr.Storage.{Storage}
use Rattle.jz_tree.specs.declared.expr.Storage.TheVariants as storage
use Rattle.jz_tree.specs.declared.expr.Var.{Var}
use Rattle.jz_tree.specs.declared.expr.Expr.TheViews.{out-Var}
use Rattle.jz_meaning.specs.declared.access.Kind.{Kind}
use Rattle.jz_meaning.specs.declared.access.Kind.TheVariants as kind
use Rattle.jz_meaning.specs.States.{Key, same_key}
use Rattle.jz_meaning.specs.Values.{cell_key, ref_of}
use Rattle.jz_operands.specs.declared.homes.Home.{Home}
use Rattle.jz_operands.specs.declared.homes.Home.TheVariants.{Word, Flag, Slot, Cells}
use Rattle.jz_operands.specs.TableHomes.{with_entry}
use Rattle.jz_homing.specs.Tables.{Table, no_homes, key_at, with_variable, with_stacked, with_each, in_registers, on_stack, by_storage, by_declaration, with_var, with_vars}
use Rattle.jz_homing.proofs.EntryLemmas.{keys_same, key_itself}
use Rattle.jz_declared.specs.Declared.{IsOther, AreOther, Differ, What, a_word, a_flag, Held, word_at, own_key, held_as, held_by, held_for, Kept, a_scalar, an_array, cells_of, kept_as, kept_by, kept_for, kind_at}
use Rattle.jz_declared.proofs.Entries.{get_more, get_before, get_last, stays, entered, came, elsewhere}

-- ---- what a table has of so many variables and stack variables
abbrev pub entry_of : ℕ → What → Home
entry_of n (a_word z) = Word n z
entry_of n a_flag = Flag n

abbrev pub kept_key : Kept → Key
kept_key (a_scalar x z) = own_key x
kept_key (an_array x z n) = own_key x

abbrev pub kept_entry : ℕ → Kept → Home
kept_entry w (a_scalar x z) = Slot w z
kept_entry w (an_array x z n) = Cells w z n

pub record FromHeld (hs : List Held) (k : Key) (x : Home) : Type 0 where
  pub number : ℕ
  pub held : Held
  pub there : slice_get hs number ≡ Some held
  pub key : k ≡ held.key
  pub entry : x ≡ entry_of number held.what

pub record FromKept (cs : List Kept) (k : Key) (x : Home) : Type 0 where
  pub number : ℕ
  pub kept : Kept
  pub there : slice_get cs number ≡ Some kept
  pub key : k ≡ kept_key kept
  pub entry : x ≡ kept_entry number kept

pub record Has (hs : List Held) (cs : List Kept) (t : Table) : Type 0 where
  pub kinds : t.kinds ≡ map (λ h. kind_at h.what) hs
  pub stack : t.stack ≡ map cells_of cs
  pub held : (n : ℕ) (h : Held) → slice_get hs n ≡ Some h → t.entries h.key ≡ Some (entry_of n h.what)
  pub kept : (w : ℕ) (c : Kept) → slice_get cs w ≡ Some c → t.entries (kept_key c) ≡ Some (kept_entry w c)
  pub others : (k : Key) (x : Home) → t.entries k ≡ Some x → FromHeld hs k x ⊎ FromKept cs k x

none_has : Has [] [] no_homes
none_has = record { kinds = refl; stack = refl; held = λ n h e. absurd cc; kept = λ w c e. absurd cc; others = λ k x e. absurd cc }

held_more : (hs : List Held) (h : Held) (k : Key) (x : Home) → FromHeld hs k x → FromHeld (hs ++ h ∷ []) k x
held_more hs h k x f = record { number = f.number; held = f.held; there = get_before hs h f.number f.held f.there; key = f.key; entry = f.entry }

kept_more : (cs : List Kept) (c : Kept) (k : Key) (x : Home) → FromKept cs k x → FromKept (cs ++ c ∷ []) k x
kept_more cs c k x f = record { number = f.number; kept = f.kept; there = get_before cs c f.number f.kept f.there; key = f.key; entry = f.entry }

-- one variable more
module _ (hs : List Held) (cs : List Kept) (t : Table) (h : Held) (has : Has hs cs t) (fresh : t.entries h.key ≡ None) where
  count_is : length t.kinds ≡ length hs
  count_is = ap length has.kinds ∙ length-map hs (λ (g : Held). kind_at g.what)

  held_by_place : (n : ℕ) (g : Held) → slice_get (hs ++ h ∷ []) n ≡ Some g → with_entry t.entries h.key (Some (entry_of (length t.kinds) h.what)) g.key ≡ Some (entry_of n g.what)
  held_by_place n g e = elim (get_more hs h n g e) [
    | inl old ↦ stays t.entries h.key g.key (entry_of (length t.kinds) h.what) (entry_of n g.what) fresh (has.held n g old)
    | inr (p, q) ↦ subst (λ (y : Held). with_entry t.entries h.key (Some (entry_of (length t.kinds) h.what)) y.key ≡ Some (entry_of n y.what)) q
        (entered t.entries h.key (entry_of (length t.kinds) h.what) ∙ ap (λ m. Some (entry_of m h.what)) (count_is ∙ sym p))
  ]

  from_one : (k : Key) (x : Home) → with_entry t.entries h.key (Some (entry_of (length t.kinds) h.what)) k ≡ Some x → FromHeld (hs ++ h ∷ []) k x ⊎ FromKept cs k x
  from_one k x e = elim (came t.entries h.key k (entry_of (length t.kinds) h.what) x e) [
    | inl (s, is) ↦ inl (record { number = length hs; held = h; there = get_last hs h; key = sym s; entry = sym is ∙ ap (λ m. entry_of m h.what) count_is })
    | inr old ↦ elim (has.others k x old) [ inl f ↦ inl (held_more hs h k x f) | inr f ↦ inr f ]
  ]

  held_added : Has (hs ++ h ∷ []) cs (with_variable t h.key (entry_of (length t.kinds) h.what) (kind_at h.what))
  held_added = record {
    kinds = ap (λ ks. ks ++ kind_at h.what ∷ []) has.kinds ∙ sym (map-append (λ (g : Held). kind_at g.what) hs (h ∷ []));
    stack = has.stack;
    held = held_by_place;
    kept = λ w c e. stays t.entries h.key (kept_key c) (entry_of (length t.kinds) h.what) (kept_entry w c) fresh (has.kept w c e);
    others = from_one;
  }

-- one stack variable more
module _ (hs : List Held) (cs : List Kept) (t : Table) (c : Kept) (has : Has hs cs t) (fresh : t.entries (kept_key c) ≡ None) where
  stacked_is : length t.stack ≡ length cs
  stacked_is = ap length has.stack ∙ length-map cs cells_of

  kept_by_place : (w : ℕ) (g : Kept) → slice_get (cs ++ c ∷ []) w ≡ Some g → with_entry t.entries (kept_key c) (Some (kept_entry (length t.stack) c)) (kept_key g) ≡ Some (kept_entry w g)
  kept_by_place w g e = elim (get_more cs c w g e) [
    | inl old ↦ stays t.entries (kept_key c) (kept_key g) (kept_entry (length t.stack) c) (kept_entry w g) fresh (has.kept w g old)
    | inr (p, q) ↦ subst (λ y. with_entry t.entries (kept_key c) (Some (kept_entry (length t.stack) c)) (kept_key y) ≡ Some (kept_entry w y)) q
        (entered t.entries (kept_key c) (kept_entry (length t.stack) c) ∙ ap (λ m. Some (kept_entry m c)) (stacked_is ∙ sym p))
  ]

  from_other : (k : Key) (x : Home) → with_entry t.entries (kept_key c) (Some (kept_entry (length t.stack) c)) k ≡ Some x → FromHeld hs k x ⊎ FromKept (cs ++ c ∷ []) k x
  from_other k x e = elim (came t.entries (kept_key c) k (kept_entry (length t.stack) c) x e) [
    | inl (s, is) ↦ inr (record { number = length cs; kept = c; there = get_last cs c; key = sym s; entry = sym is ∙ ap (λ m. kept_entry m c) stacked_is })
    | inr old ↦ elim (has.others k x old) [ inl f ↦ inl f | inr f ↦ inr (kept_more cs c k x f) ]
  ]

  kept_added : Has hs (cs ++ c ∷ []) (with_stacked t (kept_key c) (kept_entry (length t.stack) c) (cells_of c))
  kept_added = record {
    kinds = has.kinds;
    stack = ap (λ ks. ks ++ cells_of c ∷ []) has.stack ∙ sym (map-append cells_of cs (c ∷ []));
    held = λ n g e. stays t.entries (kept_key c) g.key (kept_entry (length t.stack) c) (entry_of n g.what) fresh (has.held n g e);
    kept = kept_by_place;
    others = from_other;
  }

-- ---- a declaration
-- a variable has never entry yet, nor has a cell of it
abbrev Fresh : Table → Var → Type 0
Fresh t x = (c : Option ℕ) → t.entries (key_at x c) ≡ None

abbrev cell_held : Var → Size → ℕ → Held
cell_held x z i = word_at z (cell_key (ref_of x) i)

each_elsewhere : (t : Table) (x : Var) (z : Size) (n : ℕ) (k : Key) → ((i : ℕ) → i < n → key_at x (Some i) ≡ k → ⊥) → (with_each t x z n).entries k ≡ t.entries k
each_elsewhere t x z zero k never = refl
each_elsewhere t x z (suc n) k never =
    elsewhere (with_each t x z n).entries (key_at x (Some n)) k (Word (length (with_each t x z n).kinds) z) (never n (omega arith))
    ∙ each_elsewhere t x z n k (λ i l. never i (omega (arith, l)))

cell_is : (x : Var) (i j : ℕ) → key_at x (Some i) ≡ key_at x (Some j) → i ≡ j
cell_is x i j e = let c : ◌≡◌ {A = Option ℕ} (Some i) (Some j) = ap (λ (k : Key). k.cell) e in cc

no_cell : (x : Var) (i : ℕ) → key_at x (Some i) ≡ key_at x None → ⊥
no_cell x i e = absurd (let c : ◌≡◌ {A = Option ℕ} (Some i) None = ap (λ (k : Key). k.cell) e in cc)

each_added : (hs : List Held) (cs : List Kept) (t : Table) (x : Var) (z : Size) (n : ℕ) → Has hs cs t → Fresh t x → Has (hs ++ map (λ i. word_at z (cell_key (ref_of x) i)) (range_with_len 0 n)) cs (with_each t x z n)
each_added hs cs t x z zero has fresh = subst (λ l. Has l cs t) (sym (append-nil hs)) has
each_added hs cs t x z (suc n) has fresh =
    let before = each_added hs cs t x z n has fresh in
    let none = each_elsewhere t x z n (key_at x (Some n)) (λ i l e. let same = cell_is x i n e in omega (arith, l, same)) ∙ fresh (Some n) in
    let one : n + 1 ≡ suc n = omega arith in
    let more : map (cell_held x z) (range_with_len 0 (suc n)) ≡ map (cell_held x z) (range_with_len 0 n) ++ cell_held x z n ∷ [] = ap (λ m. map (cell_held x z) (range_with_len 0 m)) (sym one) ∙ map-range_with_len_more (cell_held x z) 0 n n (omega arith) in
    subst (λ l. Has l cs (with_each t x z (suc n))) (append_assoc hs (map (cell_held x z) (range_with_len 0 n)) (cell_held x z n ∷ []) ∙ ap (λ l. hs ++ l) (sym more))
    (held_added (hs ++ map (cell_held x z) (range_with_len 0 n)) cs (with_each t x z n) (cell_held x z n) before none)

in_registers_added : (hs : List Held) (cs : List Kept) (t : Table) (x : Var) (k : Kind) → Has hs cs t → Fresh t x → Has (hs ++ held_as storage.Reg k (ref_of x)) cs (in_registers t x k)
in_registers_added hs cs t x (kind.Word z) has fresh = held_added hs cs t (word_at z (own_key (ref_of x))) has (fresh None)
in_registers_added hs cs t x kind.Bool has fresh = held_added hs cs t (record { key = own_key (ref_of x); what = a_flag }) has (fresh None)
in_registers_added hs cs t x (kind.Array z n) has fresh = each_added hs cs t x z n has fresh
in_registers_added hs cs t x kind.Int has fresh = subst (λ l. Has l cs t) (sym (append-nil hs)) has
in_registers_added hs cs t x kind.Undeclared has fresh = subst (λ l. Has l cs t) (sym (append-nil hs)) has

on_stack_added : (hs : List Held) (cs : List Kept) (t : Table) (x : Var) (k : Kind) → Has hs cs t → Fresh t x → Has hs (cs ++ kept_as storage.Stack k (ref_of x)) (on_stack t x k)
on_stack_added hs cs t x (kind.Word z) has fresh = kept_added hs cs t (a_scalar (ref_of x) z) has (fresh None)
on_stack_added hs cs t x (kind.Array z n) has fresh = kept_added hs cs t (an_array (ref_of x) z n) has (fresh None)
on_stack_added hs cs t x kind.Bool has fresh = subst (λ l. Has hs l t) (sym (append-nil cs)) has
on_stack_added hs cs t x kind.Int has fresh = subst (λ l. Has hs l t) (sym (append-nil cs)) has
on_stack_added hs cs t x kind.Undeclared has fresh = subst (λ l. Has hs l t) (sym (append-nil cs)) has

both_nil : (hs : List Held) (cs : List Kept) (t : Table) → Has hs cs t → Has (hs ++ []) (cs ++ []) t
both_nil hs cs t has = subst (λ l. Has l (cs ++ []) t) (sym (append-nil hs)) (subst (λ l. Has hs l t) (sym (append-nil cs)) has)

storage_added : (hs : List Held) (cs : List Kept) (t : Table) (x : Var) (s : Storage) → Has hs cs t → Fresh t x → Has (hs ++ held_as s (ref_of x).kind (ref_of x)) (cs ++ kept_as s (ref_of x).kind (ref_of x)) (by_storage t x s)
storage_added hs cs t x storage.Reg has fresh =
    subst (λ l. Has (hs ++ held_as storage.Reg (ref_of x).kind (ref_of x)) l (in_registers t x (ref_of x).kind)) (sym (append-nil cs)) (in_registers_added hs cs t x (ref_of x).kind has fresh)
storage_added hs cs t x storage.Stack has fresh =
    subst (λ l. Has l (cs ++ kept_as storage.Stack (ref_of x).kind (ref_of x)) (on_stack t x (ref_of x).kind)) (sym (append-nil hs)) (on_stack_added hs cs t x (ref_of x).kind has fresh)
storage_added hs cs t x storage.Inline has fresh = both_nil hs cs t has

declaration_added : (hs : List Held) (cs : List Kept) (t : Table) (x : Var) (d : Option Decl) → Has hs cs t → Fresh t x → Has (hs ++ held_by d (ref_of x)) (cs ++ kept_by d (ref_of x)) (by_declaration t x d)
declaration_added hs cs t x None has fresh = both_nil hs cs t has
declaration_added hs cs t x (Some d) has fresh = storage_added hs cs t x d.storage has fresh

-- ---- what a declaration leaves as it is
abbrev NoKey : Var → Key → Type 0
NoKey x k = (c : Option ℕ) → key_at x c ≡ k → ⊥

registers_elsewhere : (t : Table) (x : Var) (k : Kind) (q : Key) → NoKey x q → (in_registers t x k).entries q ≡ t.entries q
registers_elsewhere t x (kind.Word z) q never = elsewhere t.entries (key_at x None) q (Word (length t.kinds) z) (never None)
registers_elsewhere t x kind.Bool q never = elsewhere t.entries (key_at x None) q (Flag (length t.kinds)) (never None)
registers_elsewhere t x (kind.Array z n) q never = each_elsewhere t x z n q (λ i l. never (Some i))
registers_elsewhere t x kind.Int q never = refl
registers_elsewhere t x kind.Undeclared q never = refl

stack_elsewhere : (t : Table) (x : Var) (k : Kind) (q : Key) → NoKey x q → (on_stack t x k).entries q ≡ t.entries q
stack_elsewhere t x (kind.Word z) q never = elsewhere t.entries (key_at x None) q (Slot (length t.stack) z) (never None)
stack_elsewhere t x (kind.Array z n) q never = elsewhere t.entries (key_at x None) q (Cells (length t.stack) z n) (never None)
stack_elsewhere t x kind.Bool q never = refl
stack_elsewhere t x kind.Int q never = refl
stack_elsewhere t x kind.Undeclared q never = refl

storage_elsewhere : (t : Table) (x : Var) (s : Storage) (q : Key) → NoKey x q → (by_storage t x s).entries q ≡ t.entries q
storage_elsewhere t x storage.Reg q never = registers_elsewhere t x (ref_of x).kind q never
storage_elsewhere t x storage.Stack q never = stack_elsewhere t x (ref_of x).kind q never
storage_elsewhere t x storage.Inline q never = refl

declaration_elsewhere : (t : Table) (x : Var) (d : Option Decl) (q : Key) → NoKey x q → (by_declaration t x d).entries q ≡ t.entries q
declaration_elsewhere t x None q never = refl
declaration_elsewhere t x (Some d) q never = storage_elsewhere t x d.storage q never

abbrev AllFresh : Table → List Var → Type 0
AllFresh t [] = ⊤
AllFresh t (x ∷ xs) = Fresh t x × AllFresh t xs

other_key : (x y : Var) (c : Option ℕ) → IsOther x y → NoKey x (key_at y c)
other_key x y c other = λ d e. other (ap (λ (k : Key). k.name) e) (ap (λ (k : Key). k.copy) e)

all_fresh : (t : Table) (x : Var) (xs : List Var) → AllFresh t xs → AreOther x xs → AllFresh (with_var t x) xs
all_fresh t x [] fresh other = tt
all_fresh t x (y ∷ ys) fresh other = (λ c. declaration_elsewhere t x (out-Var x).decl (key_at y c) (other_key x y c other.0) ∙ fresh.0 c, all_fresh t x ys fresh.1 other.1)

none_fresh : (xs : List Var) → AllFresh no_homes xs
none_fresh [] = tt
none_fresh (x ∷ xs) = (λ c. refl, none_fresh xs)

all_added : (xs : List Var) (hs : List Held) (cs : List Kept) (t : Table) → Has hs cs t → AllFresh t xs → Differ xs → Has (hs ++ flat_map held_for xs) (cs ++ flat_map kept_for xs) (with_vars t xs)
all_added [] hs cs t has fresh differ = both_nil hs cs t has
all_added (x ∷ xs) hs cs t has fresh differ =
    let one = declaration_added hs cs t x (out-Var x).decl has fresh.0 in
    let rest = all_added xs (hs ++ held_for x) (cs ++ kept_for x) (with_var t x) one (all_fresh t x xs fresh.1 differ.0) differ.1 in
    subst (λ l. Has l (cs ++ (kept_for x ++ flat_map kept_for xs)) (with_vars t (x ∷ xs))) (append_assoc hs (held_for x) (flat_map held_for xs))
    (subst (λ l. Has ((hs ++ held_for x) ++ flat_map held_for xs) l (with_vars t (x ∷ xs))) (append_assoc cs (kept_for x) (flat_map kept_for xs)) rest)

pub declared_has : (xs : List Var) → Differ xs → Has (flat_map held_for xs) (flat_map kept_for xs) (with_vars no_homes xs)
declared_has xs differ = all_added xs [] [] no_homes none_has (none_fresh xs) differ

-- ---- what has a cell is never stack array
abbrev pub own : Key → Key
own k = record { name = k.name; copy = k.copy; cell = None }

abbrev pub CellsApart : Table → Type 0
CellsApart t = (k : Key) (i : ℕ) (x : Home) → k.cell ≡ Some i → t.entries k ≡ Some x → t.entries (own k) ≡ None

-- the entry of a cell is not of a declaration that has none
clash : (o : Option Home) (x : Home) → o ≡ None → o ≡ Some x → ⊥
clash o x e f = absurd (let c : ◌≡◌ {A = Option Home} None (Some x) = sym e ∙ f in cc)

module _ (t : Table) (x : Var) (fresh : Fresh t x) (i : ℕ) (y : Home) where
  only_one : (e : Home) → with_entry t.entries (key_at x None) (Some e) (key_at x (Some i)) ≡ Some y → ⊥
  only_one e f = clash (t.entries (key_at x (Some i))) y (fresh (Some i)) (sym (elsewhere t.entries (key_at x None) (key_at x (Some i)) e (λ s. no_cell x i (sym s))) ∙ f)

  registers_apart : (k : Kind) → (in_registers t x k).entries (key_at x (Some i)) ≡ Some y → (in_registers t x k).entries (key_at x None) ≡ None
  registers_apart (kind.Word z) f = absurd (only_one (Word (length t.kinds) z) f)
  registers_apart kind.Bool f = absurd (only_one (Flag (length t.kinds)) f)
  registers_apart (kind.Array z n) f = each_elsewhere t x z n (key_at x None) (λ j l. no_cell x j) ∙ fresh None
  registers_apart kind.Int f = fresh None
  registers_apart kind.Undeclared f = fresh None

  stack_apart : (k : Kind) → (on_stack t x k).entries (key_at x (Some i)) ≡ Some y → (on_stack t x k).entries (key_at x None) ≡ None
  stack_apart (kind.Word z) f = absurd (only_one (Slot (length t.stack) z) f)
  stack_apart (kind.Array z n) f = absurd (only_one (Cells (length t.stack) z n) f)
  stack_apart kind.Bool f = fresh None
  stack_apart kind.Int f = fresh None
  stack_apart kind.Undeclared f = fresh None

  storage_apart : (s : Storage) → (by_storage t x s).entries (key_at x (Some i)) ≡ Some y → (by_storage t x s).entries (key_at x None) ≡ None
  storage_apart storage.Reg f = registers_apart (ref_of x).kind f
  storage_apart storage.Stack f = stack_apart (ref_of x).kind f
  storage_apart storage.Inline f = fresh None

  declaration_apart : (d : Option Decl) → (by_declaration t x d).entries (key_at x (Some i)) ≡ Some y → (by_declaration t x d).entries (key_at x None) ≡ None
  declaration_apart None f = fresh None
  declaration_apart (Some d) f = storage_apart d.storage f

full_key : (x : Var) (k : Key) (i : ℕ) → key_at x None ≡ own k → k.cell ≡ Some i → key_at x (Some i) ≡ k
full_key x k i e c = λ j. record { name = ap (λ (q : Key). q.name) e j; copy = ap (λ (q : Key). q.copy) e j; cell = sym c j }

own_of : (x : Var) (k : Key) (c : Option ℕ) → key_at x c ≡ k → key_at x None ≡ own k
own_of x k c e = ap own e

differs : (x : Var) (k : Key) → same_key (key_at x None) (own k) ≡ false → key_at x None ≡ own k → ⊥
differs x k s e = absurd (let f : true ≡ false = sym (key_itself (own k)) ∙ ap (λ q. same_key q (own k)) (sym e) ∙ s in cc)

var_apart_by : (b : Bool) (t : Table) (x : Var) → CellsApart t → Fresh t x → (k : Key) (i : ℕ) (y : Home) → same_key (key_at x None) (own k) ≡ b → k.cell ≡ Some i → (with_var t x).entries k ≡ Some y → (with_var t x).entries (own k) ≡ None
var_apart_by true t x apart fresh k i y s c e =
    let same = keys_same (key_at x None) (own k) s in
    subst (λ q. (with_var t x).entries q ≡ None) same
    (declaration_apart t x fresh i y (out-Var x).decl (ap (with_var t x).entries (full_key x k i same c) ∙ e))
var_apart_by false t x apart fresh k i y s c e =
    let never = differs x k s in
    declaration_elsewhere t x (out-Var x).decl (own k) (λ d f. never (own_of x (own k) d f))
    ∙ apart k i y c (sym (declaration_elsewhere t x (out-Var x).decl k (λ d f. never (own_of x k d f))) ∙ e)

vars_apart : (xs : List Var) (t : Table) → CellsApart t → AllFresh t xs → Differ xs → CellsApart (with_vars t xs)
vars_apart [] t apart fresh differ = apart
vars_apart (x ∷ xs) t apart fresh differ =
    vars_apart xs (with_var t x) (λ k i y c e. var_apart_by (same_key (key_at x None) (own k)) t x apart fresh.0 k i y refl c e) (all_fresh t x xs fresh.1 differ.0) differ.1

pub declared_apart : (xs : List Var) → Differ xs → CellsApart (with_vars no_homes xs)
declared_apart xs differ = vars_apart xs no_homes (λ k i x c e. refl) (none_fresh xs) differ
