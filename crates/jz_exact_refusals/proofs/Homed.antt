-- Each variable that is fit for a home has one, where there are numbers for all.
use Rattle.std.proofs.Common.{◌≡◌, ◌⊎◌, inl, inr, ℕ, zero, suc, ◌+◌, ◌*◌, ◌<◌, ◌≤◌, ◌^◌, List, [], ◌∷◌, ◌++◌, length, Option, Some, None, refl, sym, ap, ◌∙◌, subst, arith, length-append}
use Rattle.std.specs.Prelude.{All}
use Rattle.std.proofs.lemmas.List.Elements.{All-nil, All-head, All-tail, All-push}
use Rattle.jz_words.specs.declared.size.Size.{Size}
use Rattle.jz_words.specs.declared.size.Size.TheVariants.{S8, S16, S32, S64}
use Rattle.jz_words.specs.Sizes.{bytes_of}
use Rattle.jz_tree.specs.Span.{Span}
use Rattle.jz_tree.specs.declared.expr.Decl.{Decl}
use Rattle.jz_tree.specs.declared.expr.Storage.{Storage}
use Rattle.jz_tree.specs.declared.expr.Storage.TheVariants as storage
use Rattle.jz_tree.specs.declared.expr.Var.{Var}
use Rattle.jz_tree.specs.declared.expr.Expr.TheViews.{out-Var}
use Rattle.jz_texts.proofs.Lists.{parted}
use Rattle.jz_ir.specs.declared.code.Kind.TheVariants as held
use Rattle.jz_meaning.specs.declared.access.Kind.{Kind}
use Rattle.jz_meaning.specs.declared.access.Kind.TheVariants as kind
use Rattle.jz_meaning.specs.Values.{ref_of}
use Rattle.jz_operations.specs.declared.operation.Stacked.{Stacked}
use Rattle.jz_correct.specs.Frames.{rounded_up}
use Rattle.jz_homing.specs.Tables.{Table, no_homes, with_each, in_registers, on_stack, by_storage, by_declaration, with_var, with_vars}
use Rattle.jz_homing.specs.Refusals.{most, NoVariable, NoStacked, NotStored, NotDeclared, HasNoHome, IsHomeless}
use Rattle.jz_homing.proofs.EntryLemmas.{vars_append}
use Rattle.jz_homing.proofs.HomelessLemmas.{each_many}
use Rattle.jz_stack.specs.Laying.{ends_at, end_from}
use Rattle.jz_exact_refusals.proofs.Fitting.{InRegisters, OnStack, Fits, IsFit}

-- ---- tables grow
record Grows (t u : Table) : Type 0 where
  pub kinds : length t.kinds ≤ length u.kinds
  pub stack : length t.stack ≤ length u.stack

as_long : (n : ℕ) → n ≤ n
as_long n = omega arith

then_long : (a b c : ℕ) → a ≤ b → b ≤ c → a ≤ c
then_long a b c h k = omega (arith, h, k)

one_longer : {A : Type 0} (xs : List A) (x : A) → length xs ≤ length (xs ++ (x ∷ []))
one_longer xs x = let e = length-append xs (x ∷ []) in omega (arith, e)

grown : (t u v : Table) → Grows t u → Grows u v → Grows t v
grown t u v g h = record { kinds = then_long (length t.kinds) (length u.kinds) (length v.kinds) g.kinds h.kinds; stack = then_long (length t.stack) (length u.stack) (length v.stack) g.stack h.stack }

same_table : (t : Table) → Grows t t
same_table t = record { kinds = as_long (length t.kinds); stack = as_long (length t.stack) }

longer_by : (a b n : ℕ) → b ≡ a + n → a ≤ b
longer_by a b n e = omega (arith, e)

module _ (x : Var) where
  each_stack : (t : Table) (z : Size) (n : ℕ) → (with_each t x z n).stack ≡ t.stack
  each_stack t z zero = refl
  each_stack t z (suc n) = each_stack t z n

  registers_grow : (t : Table) (k : Kind) → Grows t (in_registers t x k)
  registers_grow t (kind.Word z) = record { kinds = one_longer t.kinds held.Word; stack = as_long (length t.stack) }
  registers_grow t kind.Bool = record { kinds = one_longer t.kinds held.Flag; stack = as_long (length t.stack) }
  registers_grow t (kind.Array z n) = record {
    kinds = longer_by (length t.kinds) (length (with_each t x z n).kinds) n (each_many x t z n);
    stack = subst (λ s. length t.stack ≤ length s) (sym (each_stack t z n)) (as_long (length t.stack));
  }
  registers_grow t kind.Int = same_table t
  registers_grow t kind.Undeclared = same_table t

  stack_grows : (t : Table) (k : Kind) → Grows t (on_stack t x k)
  stack_grows t (kind.Word z) = record { kinds = as_long (length t.kinds); stack = one_longer t.stack (record { size = z; count = 1 }) }
  stack_grows t (kind.Array z n) = record { kinds = as_long (length t.kinds); stack = one_longer t.stack (record { size = z; count = n }) }
  stack_grows t kind.Bool = same_table t
  stack_grows t kind.Int = same_table t
  stack_grows t kind.Undeclared = same_table t

  storage_grows : (t : Table) (s : Storage) → Grows t (by_storage t x s)
  storage_grows t storage.Reg = registers_grow t (ref_of x).kind
  storage_grows t storage.Stack = stack_grows t (ref_of x).kind
  storage_grows t storage.Inline = same_table t

  declaration_grows : (t : Table) (d : Option Decl) → Grows t (by_declaration t x d)
  declaration_grows t None = same_table t
  declaration_grows t (Some d) = storage_grows t d.storage

vars_grow : (t : Table) (xs : List Var) → Grows t (with_vars t xs)
vars_grow t [] = same_table t
vars_grow t (x ∷ xs) = grown t (with_var t x) (with_vars (with_var t x) xs) (declaration_grows x t (out-Var x).decl) (vars_grow (with_var t x) xs)

-- ---- stack variables take bytes
abbrev HasCell : Stacked → Type 0
HasCell s = 1 ≤ s.count

module _ (x : Var) where
  on_stack_counted : (t : Table) (k : Kind) → OnStack k → All HasCell t.stack → All HasCell (on_stack t x k).stack
  on_stack_counted t (kind.Word z) f h = All-push HasCell t.stack (record { size = z; count = 1 }) h (omega arith)
  on_stack_counted t (kind.Array z n) f h = All-push HasCell t.stack (record { size = z; count = n }) h f.0
  on_stack_counted t kind.Bool f h = absurd f
  on_stack_counted t kind.Int f h = absurd f
  on_stack_counted t kind.Undeclared f h = absurd f

  registers_counted : (t : Table) (k : Kind) → All HasCell t.stack → All HasCell (in_registers t x k).stack
  registers_counted t (kind.Word z) h = h
  registers_counted t kind.Bool h = h
  registers_counted t (kind.Array z n) h = subst (All HasCell) (sym (each_stack x t z n)) h
  registers_counted t kind.Int h = h
  registers_counted t kind.Undeclared h = h

  storage_counted : (t : Table) (s : Storage) → Fits s (ref_of x).kind → All HasCell t.stack → All HasCell (by_storage t x s).stack
  storage_counted t storage.Reg f h = registers_counted t (ref_of x).kind h
  storage_counted t storage.Stack f h = on_stack_counted t (ref_of x).kind f h
  storage_counted t storage.Inline f h = h

  var_counted : (t : Table) → IsFit x → All HasCell t.stack → All HasCell (with_var t x).stack
  var_counted t fit h = subst (λ d. All HasCell (by_declaration t x d).stack) (sym fit.is) (storage_counted t fit.decl.storage fit.fits h)

vars_counted : (t : Table) (xs : List Var) → All IsFit xs → All HasCell t.stack → All HasCell (with_vars t xs).stack
vars_counted t [] fit h = h
vars_counted t (x ∷ xs) fit h = vars_counted (with_var t x) xs (All-tail IsFit x xs fit) (var_counted x t (All-head IsFit x xs fit) h)

one_above : (z : Size) (end c : ℕ) → 1 ≤ c → end + 1 ≤ rounded_up (bytes_of z) end + c * bytes_of z
one_above S8 end c h = omega (arith, h)
one_above S16 end c h = omega (arith, h)
one_above S32 end c h = omega (arith, h)
one_above S64 end c h = omega (arith, h)

one_further : (end next n last : ℕ) → end + 1 ≤ next → next + n ≤ last → end + suc n ≤ last
one_further end next n last h k = omega (arith, h, k)

bytes_taken : (end : ℕ) (ss : List Stacked) → All HasCell ss → end + length ss ≤ end_from end ss
bytes_taken end [] h = omega arith
bytes_taken end (s ∷ ss) h =
    one_further end (ends_at end s) (length ss) (end_from (ends_at end s) ss) (one_above s.size end s.count (All-head HasCell s ss h))
    (bytes_taken (ends_at end s) ss (All-tail HasCell s ss h))

-- ---- what has no home
next_most : most + 1 ≡ 2 ^ 32
next_most = refl

too_far : (m n : ℕ) → m + 1 ≡ 2 ^ 32 → n ≤ 65536 → m < n → ⊥
too_far m n e h k = absurd (omega (arith, e, h, k))

past_most : (m a b : ℕ) → m + 1 ≡ 2 ^ 32 → b ≡ a + 1 → m ≤ a → 2 ^ 32 ≤ b
past_most m a b e f h = omega (arith, e, f, h)

past_all : (m a b : ℕ) → m + 1 ≡ 2 ^ 32 → b ≡ a → m < a → 2 ^ 32 ≤ b
past_all m a b e f h = omega (arith, e, f, h)

module _ (t : Table) (x : Var) where
  in_register : (k : Kind) → InRegisters k → NoVariable t k → 2 ^ 32 ≤ length (in_registers t x k).kinds
  in_register (kind.Word z) f h = past_most most (length t.kinds) (length (t.kinds ++ (held.Word ∷ []))) next_most (length-append t.kinds (held.Word ∷ [])) h
  in_register kind.Bool f h = past_most most (length t.kinds) (length (t.kinds ++ (held.Flag ∷ []))) next_most (length-append t.kinds (held.Flag ∷ [])) h
  in_register (kind.Array z n) f (inl h) = absurd (too_far most n next_most f.1 h)
  in_register (kind.Array z n) f (inr h) = past_all most (length t.kinds + n) (length (with_each t x z n).kinds) next_most (each_many x t z n) h
  in_register kind.Int f h = absurd f
  in_register kind.Undeclared f h = absurd f

  in_frame : (k : Kind) → OnStack k → NoStacked t k → 2 ^ 32 ≤ length (on_stack t x k).stack
  in_frame (kind.Word z) f h = past_most most (length t.stack) (length (t.stack ++ (record { size = z; count = 1 } ∷ []))) next_most (length-append t.stack (record { size = z; count = 1 } ∷ [])) h
  in_frame (kind.Array z n) f (inl h) = absurd (too_far most n next_most f.1 h)
  in_frame (kind.Array z n) f (inr h) = past_most most (length t.stack) (length (t.stack ++ (record { size = z; count = n } ∷ []))) next_most (length-append t.stack (record { size = z; count = n } ∷ [])) h
  in_frame kind.Bool f h = absurd f
  in_frame kind.Int f h = absurd f
  in_frame kind.Undeclared f h = absurd f

  stored : (s : Storage) → Fits s (ref_of x).kind → NotStored t x s → (2 ^ 32 ≤ length (by_storage t x s).kinds) ⊎ (2 ^ 32 ≤ length (by_storage t x s).stack)
  stored storage.Reg f h = inl (in_register (ref_of x).kind f h)
  stored storage.Stack f h = inr (in_frame (ref_of x).kind f h)
  stored storage.Inline f h = absurd h

  no_number : IsFit x → HasNoHome t x → (2 ^ 32 ≤ length (with_var t x).kinds) ⊎ (2 ^ 32 ≤ length (with_var t x).stack)
  no_number fit h =
      subst (λ d. (2 ^ 32 ≤ length (by_declaration t x d).kinds) ⊎ (2 ^ 32 ≤ length (by_declaration t x d).stack)) (sym fit.is)
      (stored fit.decl.storage fit.fits (subst (NotDeclared t x) fit.is h))

-- so one of the variables has none where there are 2^32 of the one or of the other
at_most : (a b c : ℕ) → 2 ^ 32 ≤ a → a ≤ b → c ≡ b → 2 ^ 32 ≤ c
at_most a b c h k e = omega (arith, h, k, e)

module _ (xs : List Var) (fit : All IsFit xs) (at : Span) (h : IsHomeless no_homes xs at) where
  abbrev whole : Table
  whole = with_vars no_homes xs

  abbrev before : Table
  before = with_vars no_homes h.front

  abbrev behind : Table
  behind = with_vars (with_var before h.var) h.back

  here : IsFit h.var
  here = All-head IsFit h.var h.back (parted IsFit h.front (h.var ∷ h.back) (subst (All IsFit) h.split fit)).1

  same : whole ≡ behind
  same = ap (with_vars no_homes) h.split ∙ vars_append no_homes h.front (h.var ∷ h.back)

  rest : Grows (with_var before h.var) behind
  rest = vars_grow (with_var before h.var) h.back

  by_number : (2 ^ 32 ≤ length (with_var before h.var).kinds) ⊎ (2 ^ 32 ≤ length (with_var before h.var).stack) → (2 ^ 32 ≤ length whole.kinds) ⊎ (2 ^ 32 ≤ length whole.stack)
  by_number (inl many) = inl (at_most (length (with_var before h.var).kinds) (length behind.kinds) (length whole.kinds) many rest.kinds (ap (λ (t : Table). length t.kinds) same))
  by_number (inr many) = inr (at_most (length (with_var before h.var).stack) (length behind.stack) (length whole.stack) many rest.stack (ap (λ (t : Table). length t.stack) same))

  pub homeless : (2 ^ 32 ≤ length whole.kinds) ⊎ (2 ^ 32 ≤ length whole.stack)
  homeless = by_number (no_number before h.var here h.none)

many_kinds : (a : ℕ) → 2 ^ 32 ≤ a → a < 2 ^ 32 → ⊥
many_kinds a h few = absurd (omega (arith, h, few))

many_cells : (c d : ℕ) → 2 ^ 32 ≤ c → 0 + c ≤ d → d ≤ 65536 → ⊥
many_cells c d h n few = absurd (omega (arith, h, n, few))

module _ (xs : List Var) (fit : All IsFit xs) (few : length (with_vars no_homes xs).kinds < 2 ^ 32) (small : end_from 0 (with_vars no_homes xs).stack ≤ 65536) where
  abbrev table : Table
  table = with_vars no_homes xs

  taken : 0 + length table.stack ≤ end_from 0 table.stack
  taken = bytes_taken 0 table.stack (vars_counted no_homes xs fit (All-nil HasCell))

  clash : (2 ^ 32 ≤ length table.kinds) ⊎ (2 ^ 32 ≤ length table.stack) → ⊥
  clash (inl many) = many_kinds (length table.kinds) many few
  clash (inr many) = many_cells (length table.stack) (end_from 0 table.stack) many taken small

  pub none_homeless : (at : Span) → IsHomeless no_homes xs at → ⊥
  none_homeless at h = clash (homeless xs fit at h)
