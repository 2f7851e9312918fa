-- The size of a variable that is in a variable of operations.
use Rattle.std.proofs.Common.{◌≡◌, ◌⊎◌, inl, inr, ℕ, zero, suc, [], ◌∷◌, Contains, Option, Some, None, sym, ap, ◌∙◌}
use Rattle.std.specs.Prelude.{slice_get}
use Rattle.std.specs.List.{range_with_len}
use Rattle.jz_words.specs.declared.size.Size.{Size}
use Rattle.jz_tree.specs.declared.expr.Decl.{Decl}
use Rattle.jz_tree.specs.declared.expr.Storage.{Storage}
use Rattle.jz_tree.specs.declared.expr.Storage.TheVariants as storage
use Rattle.jz_tree.specs.declared.expr.Var.{Var}
use Rattle.jz_tree.specs.declared.expr.Expr.TheViews.{out-Var}
use Rattle.jz_tree.specs.declared.program.Fun.{Fun}
use Rattle.jz_type_names.specs.Scopes.{variables_of}
use Rattle.jz_meaning.specs.declared.access.Kind.{Kind}
use Rattle.jz_meaning.specs.declared.access.Kind.TheVariants as kind
use Rattle.jz_meaning.specs.States.{Key}
use Rattle.jz_meaning.specs.Values.{Ref, key_of, cell_key, ref_of}
use Rattle.jz_operations.proofs.Somes.{same_some}
use Rattle.jz_homes.specs.Homes.{Homes, in_register, in_flag, in_cell}
use Rattle.jz_declared.specs.Declared.{Differ, a_flag, Held, own_key, word_at, held_as, held_by, held_for, held_of, cells_of, kept_of, home_at, IsHeld, IsKept, AreDeclared}
use Rattle.jz_signature.specs.Laws.{IsUseOf}
use Rattle.jz_signature.proofs.Members.{from_items, from_map, same_variable}

-- the variable is a word of this size, and has the name and the copy of the key
abbrev IsWordOf : Kind → Ref → Key → Size → Type 0
IsWordOf k y q z = (k ≡ kind.Word z) × (y.name ≡ q.name) × (y.copy ≡ q.copy)

same_size : (n m : ℕ) (z y : Size) → in_register n z ≡ in_register m y → y ≡ z
same_size n m z y e = cc

word_case : (y : Ref) (y2 : Size) (h : Held) (q : Key) (m n : ℕ) (z : Size) → word_at y2 (own_key y) ≡ h → q ≡ h.key → in_register n z ≡ home_at m h.what → IsWordOf (kind.Word y2) y q z
word_case y y2 h q m n z is key home =
    let k : own_key y ≡ q = ap (λ (g : Held). g.key) is ∙ sym key in
    let s : in_register n z ≡ in_register m y2 = home ∙ ap (λ (g : Held). home_at m g.what) (sym is) in
    (ap (λ x. kind.Word x) (same_size n m z y2 s), ap (λ (g : Key). g.name) k, ap (λ (g : Key). g.copy) k)

flag_case : (m n : ℕ) (z : Size) → in_register n z ≡ in_flag m → ⊥
flag_case m n z e = cc

some_none : (i : ℕ) → ◌≡◌ {A = Option ℕ} (Some i) None → ⊥
some_none i e = cc

nothing : (h : Held) → ◌≡◌ {A = Option Held} None (Some h) → ⊥
nothing h e = cc

one_only : (x h : Held) (j : ℕ) → slice_get (x ∷ []) j ≡ Some h → x ≡ h
one_only x h zero e = same_some x h e
one_only x h (suc j) e = absurd (nothing h e)

held_case : (s : Storage) (k : Kind) (y : Ref) (j : ℕ) (h : Held) (q : Key) (m n : ℕ) (z : Size) → slice_get (held_as s k y) j ≡ Some h → q.cell ≡ None → q ≡ h.key → in_register n z ≡ home_at m h.what → IsWordOf k y q z
held_case storage.Reg (kind.Word y2) y j h q m n z e whole key home = word_case y y2 h q m n z (one_only (word_at y2 (own_key y)) h j e) key home
held_case storage.Reg kind.Bool y j h q m n z e whole key home =
    absurd (flag_case m n z (home ∙ ap (λ (g : Held). home_at m g.what) (sym (one_only (record { key = own_key y; what = a_flag }) h j e))))
held_case storage.Reg (kind.Array y2 l) y j h q m n z e whole key home =
    let c = from_map (λ i. word_at y2 (cell_key y i)) (range_with_len 0 l) j h e in
    absurd (some_none c.0 (ap (λ (g : Held). g.key.cell) c.1 ∙ ap (λ (g : Key). g.cell) (sym key) ∙ whole))
held_case storage.Reg kind.Int y j h q m n z e whole key home = absurd (nothing h e)
held_case storage.Reg kind.Undeclared y j h q m n z e whole key home = absurd (nothing h e)
held_case storage.Stack k y j h q m n z e whole key home = absurd (nothing h e)
held_case storage.Inline k y j h q m n z e whole key home = absurd (nothing h e)

declared_case : (d : Option Decl) (y : Ref) (j : ℕ) (h : Held) (q : Key) (m n : ℕ) (z : Size) → slice_get (held_by d y) j ≡ Some h → q.cell ≡ None → q ≡ h.key → in_register n z ≡ home_at m h.what → IsWordOf y.kind y q z
declared_case None y j h q m n z e whole key home = absurd (nothing h e)
declared_case (Some d) y j h q m n z e whole key home = held_case d.storage y.kind y j h q m n z e whole key home

no_cell : (n : ℕ) (z : Size) (w i : ℕ) (y : Size) → in_register n z ≡ in_cell w i y → ⊥
no_cell n z w i y e = cc

module _ (g : Fun) (home : Homes) (differ : Differ (variables_of g)) (are : AreDeclared (held_of g) (kept_of g) home) (y x : Var) (among : Contains (variables_of g) y) (use' : IsUseOf y x) (n : ℕ) (z : Size) where
  by_held : IsHeld (held_of g) (key_of (ref_of x)) (in_register n z) → (ref_of x).kind ≡ kind.Word z
  by_held h =
      let c = from_items held_for (variables_of g) h.number h.held h.there in
      let w = declared_case (out-Var c.item).decl (ref_of c.item) c.among_its.0 h.held (key_of (ref_of x)) h.number n z c.among_its.1 use'.whole h.key h.home in
      let same : c.item ≡ y = same_variable (variables_of g) differ c.item y c.among among (w.1 ∙ use'.name) (w.2 ∙ use'.copy) in
      use'.kind ∙ ap (λ v. (ref_of v).kind) (sym same) ∙ w.0

  by_either : IsHeld (held_of g) (key_of (ref_of x)) (in_register n z) ⊎ IsKept (kept_of g) (key_of (ref_of x)) (in_register n z) → (ref_of x).kind ≡ kind.Word z
  by_either (inl h) = by_held h
  by_either (inr h) = absurd (no_cell n z h.number h.cell (cells_of h.kept).size h.home)

  pub sized : home (key_of (ref_of x)) ≡ Some (in_register n z) → (ref_of x).kind ≡ kind.Word z
  sized e = by_either (are.others (key_of (ref_of x)) (in_register n z) e)
