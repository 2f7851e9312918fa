-- One home more in a table.
use Rattle.std.proofs.Common.{◌≡◌, ◌⊎◌, inl, inr, ℕ, zero, suc, ◌+◌, ◌<◌, Bool, true, false, List, [], ◌∷◌, ◌++◌, length, Option, Some, None, refl, sym, ap, ◌∙◌, subst, arith, eqb-true, length-append, map, take, get_or}
use Rattle.std.specs.Prelude.{◌&&◌, nat_eq, if◌then◌else◌, slice_get, slice_index_or}
use Rattle.std.specs.Str.{bytes_eq}
use Rattle.std.proofs.lemmas.Bool.Decides.{nat_tests}
use Rattle.std.proofs.lemmas.Bool.{and_parts}
use Rattle.std.proofs.lemmas.Option.{slice_get_within}
use Rattle.std.proofs.lemmas.List.{take_more, map-append}
use Rattle.std.proofs.lemmas.Slice.Eq.{bytes_eq-Decides}
use Rattle.jz_words.specs.declared.size.Size.{Size}
use Rattle.jz_tree.proofs.Texts.{bytes_eq-true}
use Rattle.jz_tree.specs.declared.expr.Decl.{Decl}
use Rattle.jz_tree.specs.declared.expr.Storage.{Storage}
use Rattle.jz_tree.specs.declared.expr.Storage.TheVariants as storage
use Rattle.jz_tree.specs.declared.expr.Var.{Var}
use Rattle.jz_tree.specs.declared.expr.Expr.TheViews.{out-Decl, out-Var}
use Rattle.jz_tree.specs.declared.program.Param.{Param}
use Rattle.jz_ir.specs.declared.code.Kind.{Kind}
use Rattle.jz_ir.specs.declared.code.Kind.TheVariants as kind
use Rattle.jz_meaning.specs.declared.access.Kind.{Kind as Declared}
use Rattle.jz_meaning.specs.declared.access.Kind.TheVariants as declared
use Rattle.jz_meaning.specs.Values.{ref_of}
use Rattle.jz_meaning.specs.States.{Key, same_cell, same_key}
use Rattle.jz_operations.specs.declared.operation.Stacked.{Stacked}
use Rattle.jz_operands.specs.declared.homes.Home.{Home}
use Rattle.jz_operands.specs.declared.homes.Home.TheVariants.{Word, Flag, Slot, Cells}
use Rattle.jz_operands.specs.TableHomes.{no_entries, with_entry}
use Rattle.jz_homing.specs.Tables.{Table, no_homes, key_at, with_variable, with_stacked, with_each, in_registers, on_stack, by_storage, by_declaration, with_var, with_vars}
use Rattle.jz_homing.specs.InnerTables.{variable_of, stacked_of, AreOther, IsKept, AreEntries}

-- ---- lists with one item more
index_before : (ks : List Kind) (k : Kind) (n : ℕ) → n < length ks → slice_index_or (ks ++ k ∷ []) n kind.Word ≡ slice_index_or ks n kind.Word
index_before [] k n h = absurd (omega arith)
index_before (x ∷ xs) k zero h = refl
index_before (x ∷ xs) k (suc n) h = index_before xs k n (omega arith)

index_last : (ks : List Kind) (k : Kind) → slice_index_or (ks ++ k ∷ []) (length ks) kind.Word ≡ k
index_last [] k = refl
index_last (x ∷ xs) k = index_last xs k

get_before : (ss : List Stacked) (s : Stacked) (n : ℕ) (y : Stacked) → slice_get ss n ≡ Some y → slice_get (ss ++ s ∷ []) n ≡ Some y
get_before [] s n y e = absurd cc
get_before (x ∷ xs) s zero y e = e
get_before (x ∷ xs) s (suc n) y e = get_before xs s n y e

get_last : (ss : List Stacked) (s : Stacked) → slice_get (ss ++ s ∷ []) (length ss) ≡ Some s
get_last [] s = refl
get_last (x ∷ xs) s = get_last xs s

longer : {A : Type 0} (xs : List A) (x : A) (n : ℕ) → n < length xs → n < length (xs ++ x ∷ [])
longer xs x n h = let e = length-append xs (x ∷ []) in omega (arith, h, e)

last_below : {A : Type 0} (xs : List A) (x : A) → length xs < length (xs ++ x ∷ [])
last_below xs x = let e = length-append xs (x ∷ []) in omega (arith, e)

kept_kinds : (ks : List Kind) (ss : List Stacked) (k : Kind) (x : Home) → IsKept ks ss x → IsKept (ks ++ k ∷ []) ss x
kept_kinds ks ss k (Word n z) h = (longer ks k n h.0, index_before ks k n h.0 ∙ h.1)
kept_kinds ks ss k (Flag n) h = (longer ks k n h.0, index_before ks k n h.0 ∙ h.1)
kept_kinds ks ss k (Slot w z) h = h
kept_kinds ks ss k (Cells w z n) h = h

kept_stack : (ks : List Kind) (ss : List Stacked) (s : Stacked) (x : Home) → IsKept ks ss x → IsKept ks (ss ++ s ∷ []) x
kept_stack ks ss s (Word n z) h = h
kept_stack ks ss s (Flag n) h = h
kept_stack ks ss s (Slot w z) h = get_before ss s w (record { size = z; count = 1 }) h
kept_stack ks ss s (Cells w z n) h = get_before ss s w (record { size = z; count = n }) h

-- ---- what is kept has numbers below the lengths
variable_below : (ks : List Kind) (ss : List Stacked) (x : Home) (n : ℕ) → IsKept ks ss x → variable_of x ≡ Some n → n < length ks
variable_below ks ss (Word m z) n h e = let q : m ≡ n = cc in subst (λ i. i < length ks) q h.0
variable_below ks ss (Flag m) n h e = let q : m ≡ n = cc in subst (λ i. i < length ks) q h.0
variable_below ks ss (Slot w z) n h e = absurd cc
variable_below ks ss (Cells w z c) n h e = absurd cc

stacked_below : (ks : List Kind) (ss : List Stacked) (x : Home) (n : ℕ) → IsKept ks ss x → stacked_of x ≡ Some n → n < length ss
stacked_below ks ss (Word m z) n h e = absurd cc
stacked_below ks ss (Flag m) n h e = absurd cc
stacked_below ks ss (Slot w z) n h e = let q : w ≡ n = cc in subst (λ i. i < length ss) q (slice_get_within ss w (record { size = z; count = 1 }) h)
stacked_below ks ss (Cells w z c) n h e = let q : w ≡ n = cc in subst (λ i. i < length ss) q (slice_get_within ss w (record { size = z; count = c }) h)

-- ---- keys
cells_same : (a b : Option ℕ) → same_cell a b ≡ true → a ≡ b
cells_same None None e = refl
cells_same None (Some j) e = absurd cc
cells_same (Some i) None e = absurd cc
cells_same (Some i) (Some j) e = ap (λ x. Some x) (eqb-true i j e)

pub keys_same : (a b : Key) → same_key a b ≡ true → a ≡ b
keys_same a b e =
    let p = and_parts (bytes_eq a.name b.name) _ e in
    let q = and_parts _ (same_cell a.cell b.cell) p.1 in
    let n : a.name ≡ b.name = bytes_eq-true a.name b.name p.0 in
    let c : a.copy ≡ b.copy = eqb-true a.copy b.copy q.0 in
    let d : a.cell ≡ b.cell = cells_same a.cell b.cell q.1 in
    λ i. record { name = n i; copy = c i; cell = d i }

pub eqb-refl : (n : ℕ) → nat_eq n n ≡ true
eqb-refl n = grind (arith, nat_tests)

both_true : (a b : Bool) → a ≡ true → b ≡ true → (a && b) ≡ true
both_true true true e f = refl
both_true true false e f = absurd cc
both_true false b e f = absurd cc

cell_itself : (c : Option ℕ) → same_cell c c ≡ true
cell_itself None = refl
cell_itself (Some i) = eqb-refl i

pub key_itself : (k : Key) → same_key k k ≡ true
key_itself k = both_true (bytes_eq k.name k.name) _ ((bytes_eq-Decides k.name k.name).1 refl) (both_true (nat_eq k.copy k.copy) (same_cell k.cell k.cell) (eqb-refl k.copy) (cell_itself k.cell))

-- ---- the empty table, and one home more
pub none_entered : AreEntries no_homes
none_entered = record { kept = λ k x e. absurd cc; other = λ j k x y n e f. absurd cc }

-- an entry is the new one, or an old one
one_of : (b : Bool) (h x : Home) (o : Option Home) → (if b then Some h else o) ≡ Some x → (((b ≡ true) × (h ≡ x)) ⊎ ((b ≡ false) × (o ≡ Some x)))
one_of true h x o e = let q : h ≡ x = cc in inl (refl, q)
one_of false h x o e = inr (refl, e)

-- two entries of a table with a new home; those of one key are one
entered_other : (h : Home) (entries : Key → Option Home) (k i j : Key) (x y : Home) (b c : Bool) → ((q : Key) (z : Home) → entries q ≡ Some z → AreOther h z) → ((p q : Key) (u v : Home) → same_key p q ≡ false → entries p ≡ Some u → entries q ≡ Some v → AreOther u v)
    → same_key k i ≡ b → same_key k j ≡ c → same_key i j ≡ false → (if b then Some h else entries i) ≡ Some x → (if c then Some h else entries j) ≡ Some y → AreOther x y
entered_other h entries k i j x y true true fresh other e f g p q =
    absurd (let s : same_key i j ≡ true = subst (λ u. same_key u j ≡ true) (keys_same k i e) f in let clash : true ≡ false = sym s ∙ g in cc)
entered_other h entries k i j x y true false fresh other e f g p q =
    let is : h ≡ x = cc in subst (λ u. AreOther u y) is (fresh j y q)
entered_other h entries k i j x y false true fresh other e f g p q =
    let is : h ≡ y = cc in let a = fresh i x p in subst (AreOther x) is ((λ n u v. a.0 n v u), (λ w u v. a.1 w v u))
entered_other h entries k i j x y false false fresh other e f g p q = other i j x y g p q

entered : (t : Table) (ks : List Kind) (ss : List Stacked) (k : Key) (h : Home) → IsKept ks ss h → ((x : Home) → IsKept t.kinds t.stack x → IsKept ks ss x) → ((x : Home) → IsKept t.kinds t.stack x → AreOther h x) → AreEntries t
    → AreEntries (record { entries = with_entry t.entries k (Some h); kinds = ks; stack = ss })
entered t ks ss k h here there fresh was = record {
  kept = λ q x e. elim (one_of (same_key k q) h x (t.entries q) e) [ inl (b, is) ↦ subst (IsKept ks ss) is here | inr (b, f) ↦ there x (was.kept q x f) ];
  other = λ i j x y n e f. entered_other h t.entries k i j x y (same_key k i) (same_key k j) (λ q z g. fresh z (was.kept q z g)) was.other refl refl n e f;
}

not_below : (n : ℕ) → n < n → ⊥
not_below n h = omega (arith, h)

variable_fresh : (ks : List Kind) (ss : List Stacked) (h : Home) → variable_of h ≡ Some (length ks) → stacked_of h ≡ None → (x : Home) → IsKept ks ss x → AreOther h x
variable_fresh ks ss h v s x kept = (
  λ n e f. let q : length ks ≡ n = cc in not_below (length ks) (subst (λ i. i < length ks) (sym q) (variable_below ks ss x n kept f)),
  λ w e f. absurd cc,
)

stacked_fresh : (ks : List Kind) (ss : List Stacked) (h : Home) → variable_of h ≡ None → stacked_of h ≡ Some (length ss) → (x : Home) → IsKept ks ss x → AreOther h x
stacked_fresh ks ss h v s x kept = (
  λ n e f. absurd cc,
  λ w e f. let q : length ss ≡ w = cc in not_below (length ss) (subst (λ i. i < length ss) (sym q) (stacked_below ks ss x w kept f)),
)

word_entered : (t : Table) (k : Key) (z : Size) → AreEntries t → AreEntries (with_variable t k (Word (length t.kinds) z) kind.Word)
word_entered t k z was =
    entered t (t.kinds ++ kind.Word ∷ []) t.stack k (Word (length t.kinds) z) (last_below t.kinds kind.Word, index_last t.kinds kind.Word)
    (kept_kinds t.kinds t.stack kind.Word) (variable_fresh t.kinds t.stack (Word (length t.kinds) z) refl refl) was

flag_entered : (t : Table) (k : Key) → AreEntries t → AreEntries (with_variable t k (Flag (length t.kinds)) kind.Flag)
flag_entered t k was =
    entered t (t.kinds ++ kind.Flag ∷ []) t.stack k (Flag (length t.kinds)) (last_below t.kinds kind.Flag, index_last t.kinds kind.Flag)
    (kept_kinds t.kinds t.stack kind.Flag) (variable_fresh t.kinds t.stack (Flag (length t.kinds)) refl refl) was

slot_entered : (t : Table) (k : Key) (z : Size) → AreEntries t → AreEntries (with_stacked t k (Slot (length t.stack) z) (record { size = z; count = 1 }))
slot_entered t k z was =
    let s : Stacked = record { size = z; count = 1 } in
    entered t t.kinds (t.stack ++ s ∷ []) k (Slot (length t.stack) z) (get_last t.stack s) (kept_stack t.kinds t.stack s) (stacked_fresh t.kinds t.stack (Slot (length t.stack) z) refl refl) was

cells_entered : (t : Table) (k : Key) (z : Size) (n : ℕ) → AreEntries t → AreEntries (with_stacked t k (Cells (length t.stack) z n) (record { size = z; count = n }))
cells_entered t k z n was =
    let s : Stacked = record { size = z; count = n } in
    entered t t.kinds (t.stack ++ s ∷ []) k (Cells (length t.stack) z n) (get_last t.stack s) (kept_stack t.kinds t.stack s) (stacked_fresh t.kinds t.stack (Cells (length t.stack) z n) refl refl) was

-- ---- each declaration
each_entered : (t : Table) (x : Var) (z : Size) (n : ℕ) → AreEntries t → AreEntries (with_each t x z n)
each_entered t x z zero was = was
each_entered t x z (suc n) was = word_entered (with_each t x z n) (key_at x (Some n)) z (each_entered t x z n was)

registers_entered : (t : Table) (x : Var) (k : Declared) → AreEntries t → AreEntries (in_registers t x k)
registers_entered t x (declared.Word z) was = word_entered t (key_at x None) z was
registers_entered t x declared.Bool was = flag_entered t (key_at x None) was
registers_entered t x (declared.Array z n) was = each_entered t x z n was
registers_entered t x declared.Int was = was
registers_entered t x declared.Undeclared was = was

stack_entered : (t : Table) (x : Var) (k : Declared) → AreEntries t → AreEntries (on_stack t x k)
stack_entered t x (declared.Word z) was = slot_entered t (key_at x None) z was
stack_entered t x (declared.Array z n) was = cells_entered t (key_at x None) z n was
stack_entered t x declared.Bool was = was
stack_entered t x declared.Int was = was
stack_entered t x declared.Undeclared was = was

storage_entered : (t : Table) (x : Var) (s : Storage) → AreEntries t → AreEntries (by_storage t x s)
storage_entered t x storage.Reg was = registers_entered t x (ref_of x).kind was
storage_entered t x storage.Stack was = stack_entered t x (ref_of x).kind was
storage_entered t x storage.Inline was = was

declaration_entered : (t : Table) (x : Var) (d : Option Decl) → AreEntries t → AreEntries (by_declaration t x d)
declaration_entered t x None was = was
declaration_entered t x (Some d) was = storage_entered t x (out-Decl d).storage was

pub all_entered : (t : Table) (xs : List Var) → AreEntries t → AreEntries (with_vars t xs)
all_entered t [] was = was
all_entered t (x ∷ xs) was = all_entered (with_var t x) xs (declaration_entered t x (out-Var x).decl was)

pub vars_append : (t : Table) (xs ys : List Var) → with_vars t (xs ++ ys) ≡ with_vars (with_vars t xs) ys
vars_append t [] ys = refl
vars_append t (x ∷ xs) ys = vars_append (with_var t x) xs ys

-- ---- what the code has put in
module _ (t : Table) (x : Var) (c : Option ℕ) (name : List ℕ) (copy n : ℕ) (same : name ≡ (ref_of x).name) (copied : copy ≡ (ref_of x).copy) (entries : Key → Option Home) where
  put_at : (h : ℕ → Home) (m : ℕ) → n ≡ m → entries ≡ with_entry t.entries (record { name = name; copy = copy; cell = c }) (Some (h n)) → entries ≡ with_entry t.entries (key_at x c) (Some (h m))
  put_at h m e p =
      p ∙ ap (λ l. with_entry t.entries (record { name = l; copy = copy; cell = c }) (Some (h n))) same
      ∙ ap (λ k. with_entry t.entries (record { name = (ref_of x).name; copy = k; cell = c }) (Some (h n))) copied ∙ ap (λ k. with_entry t.entries (key_at x c) (Some (h k))) e

  pub variable_added : (h : ℕ → Home) (v : Kind) (ks : List Kind) → n ≡ length t.kinds → entries ≡ with_entry t.entries (record { name = name; copy = copy; cell = c }) (Some (h n)) → ks ≡ t.kinds ++ v ∷ []
      → ◌≡◌ {A = Table} (record { entries = entries; kinds = ks; stack = t.stack }) (with_variable t (key_at x c) (h (length t.kinds)) v)
  variable_added h v ks e p q = let r = put_at h (length t.kinds) e p in λ i. record { entries = r i; kinds = q i; stack = t.stack }

  pub stacked_added : (h : ℕ → Home) (s : Stacked) (ss : List Stacked) → n ≡ length t.stack → entries ≡ with_entry t.entries (record { name = name; copy = copy; cell = c }) (Some (h n)) → ss ≡ t.stack ++ s ∷ []
      → ◌≡◌ {A = Table} (record { entries = entries; kinds = t.kinds; stack = ss }) (with_stacked t (key_at x c) (h (length t.stack)) s)
  stacked_added h s ss e p q = let r = put_at h (length t.stack) e p in λ i. record { entries = r i; kinds = t.kinds; stack = q i }

-- ---- one after another
pub var_more : (t u : Table) (xs : List Var) (x : Var) → u ≡ with_var (with_vars t xs) x → u ≡ with_vars t (xs ++ x ∷ [])
var_more t u xs x e = e ∙ sym (vars_append t xs (x ∷ []))

pub var_next : (t v u : Table) (xs : List Var) (i : ℕ) (x : Var) → i < length xs → x ≡ get_or xs i x → v ≡ with_vars t (take i xs) → u ≡ with_var v x → u ≡ with_vars t (take (i + 1) xs)
var_next t v u xs i x lt is e f =
    let more : take (i + 1) xs ≡ take i xs ++ x ∷ [] = take_more xs i x lt ∙ ap (λ y. take i xs ++ y ∷ []) (sym is) in
    var_more t u (take i xs) x (f ∙ ap (λ w. with_var w x) e) ∙ ap (with_vars t) (sym more)

pub param_next : (t v u : Table) (ps : List Param) (i : ℕ) (p : Param) → i < length ps → p ≡ get_or ps i p → v ≡ with_vars t (map (λ q. q.var) (take i ps)) → u ≡ with_var v p.var → u ≡ with_vars t (map (λ q. q.var) (take (i + 1) ps))
param_next t v u ps i p lt is e f =
    let more : take (i + 1) ps ≡ take i ps ++ p ∷ [] = take_more ps i p lt ∙ ap (λ y. take i ps ++ y ∷ []) (sym is) in
    let vars : map (λ (q : Param). q.var) (take (i + 1) ps) ≡ map (λ (q : Param). q.var) (take i ps) ++ p.var ∷ [] =
    ap (map (λ (q : Param). q.var)) more ∙ map-append (λ (q : Param). q.var) (take i ps) (p ∷ []) in
    var_more t u (map (λ q. q.var) (take i ps)) p.var (f ∙ ap (λ w. with_var w p.var) e) ∙ ap (with_vars t) (sym vars)

pub begun : (entries : Key → Option Home) (ks : List Kind) (ss : List Stacked) → entries ≡ no_entries → ks ≡ [] → ss ≡ [] → ◌≡◌ {A = Table} (record { entries = entries; kinds = ks; stack = ss }) no_homes
begun entries ks ss e f g = λ i. record { entries = e i; kinds = f i; stack = g i }

pub all_added : (a b c : Table) (ps xs : List Var) → a ≡ no_homes → b ≡ with_vars a ps → c ≡ with_vars b xs → c ≡ with_vars no_homes (ps ++ xs)
all_added a b c ps xs e f g = g ∙ ap (λ t. with_vars t xs) (f ∙ ap (λ t. with_vars t ps) e) ∙ sym (vars_append no_homes ps xs)
