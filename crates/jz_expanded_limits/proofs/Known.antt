-- What is known while a copy is unrolled, beside what the limits know of its body.
use Rattle.std.proofs.Common.{◌≡◌, ℕ, zero, suc, ◌<◌, List, Option, Some, None, Bool, true, false, refl, sym, ◌∙◌, arith, bytes_eq}
use Rattle.std.specs.Prelude.{ℤ, ◌==◌, ◌&&◌, if◌then◌else◌}
use Rattle.jz_tree.specs.declared.expr.Expr.{Expr}
use Rattle.jz_tree.specs.declared.expr.Var.{Var}
use Rattle.jz_integers.specs.Integers.{KnownNumbers, inline_value}
use Rattle.jz_integers.specs.declared.constant.Constant.{Constant}
use Rattle.jz_meaning.specs.Values.{ref_of}
use Rattle.jz_inline.specs.Names.{Names, var_in, expr_in}
use Rattle.jz_unroll.specs.Values.{InlineNames}
use Rattle.jz_unroll.specs.Unrolling.{with_number, number_of, KnowsLess}
use Rattle.jz_unroll.specs.ValueLaws.{KnowsInline}
use Rattle.jz_one_unrolling.proofs.Knowing.{value_grows}
use Rattle.jz_unrolling_laws.specs.AskedLaws.{of_text, is_text}
use Rattle.jz_unrolling_laws.specs.CalledBodies.{Inlines, in_source}
use Rattle.jz_copied_values.proofs.CopiedNumbers.{number_elsewhere, set_only, IsCopy, Agrees, own_copy, copied_number, set_agrees}
use Rattle.jz_expanded_limits.proofs.CopiedConstants.{pulled, value_pulled}

-- nothing is known but of these
abbrev pub KnowsOnly : InlineNames → KnownNumbers → Type 0
KnowsOnly names e = (n : List ℕ) (c : ℕ) → names n c ≡ false → e n c ≡ None

none_some : (i : ℤ) → None ≡ Some i → ⊥
none_some i q = absurd cc

pub only_inline : (names : InlineNames) (e : KnownNumbers) → KnowsOnly names e → KnowsInline names e
only_inline names e only n c i q = by_name (names n c) refl
  where
    by_name : (b : Bool) → names n c ≡ b → b ≡ true
    by_name true h = refl
    by_name false h = absurd (none_some i (sym (only n c h) ∙ q))

pub less_only : (names : InlineNames) (e0 e : KnownNumbers) → KnowsLess e0 e → KnowsOnly names e → KnowsOnly names e0
less_only names e0 e less only n c h = by_number (e0 n c) refl
  where
    by_number : (o : Option ℤ) → e0 n c ≡ o → o ≡ None
    by_number None q = refl
    by_number (Some i) q = absurd (none_some i (sym (only n c h) ∙ less n c i q))

less_with : (v : Var) (z : Option ℤ) (e0 e : KnownNumbers) → KnowsLess e0 e → KnowsLess (with_number e0 v z) (with_number e v z)
less_with v z e0 e less n c i = by_place (bytes_eq (ref_of v).name n && (ref_of v).copy == c)
  where
    by_place : (b : Bool) → (if b then z else e0 n c) ≡ Some i → (if b then z else e n c) ≡ Some i
    by_place true q = q
    by_place false q = less n c i q

-- less may be set where more is
less_set : (v : Var) (y z : Option ℤ) (e : KnownNumbers) → ((i : ℤ) → y ≡ Some i → z ≡ Some i) → KnowsLess (with_number e v y) (with_number e v z)
less_set v y z e h n c i = by_place (bytes_eq (ref_of v).name n && (ref_of v).copy == c)
  where
    by_place : (b : Bool) → (if b then y else e n c) ≡ Some i → (if b then z else e n c) ≡ Some i
    by_place true q = h i q
    by_place false q = q

-- i: the inline variables of the body; m: the names of the copy; e: what the limits know in the
-- body; k: what is known where the copy is unrolled
pub record Knows (names : InlineNames) (i : Inlines) (m : Names) (e k : KnownNumbers) : Type 0 where
  pub less : (n : List ℕ) (z : ℤ) → k (m n).0 (m n).1 ≡ Some z → e n 0 ≡ Some z
  pub only : KnowsOnly names k
  pub inline : KnowsOnly (in_source i) e

pub pulled_less : (names : InlineNames) (i : Inlines) (m : Names) (e k : KnownNumbers) → Knows names i m e k → KnowsLess (pulled m k) e
pulled_less names i m e k h n zero z q = h.less n z q
pulled_less names i m e k h n (suc c) z q = absurd (none_some z q)

-- a value in the copy is one in the body
pub value_back : (names : InlineNames) (i : Inlines) (m : Names) (e k : KnownNumbers) → Knows names i m e k → (x : Expr) (c : Constant) → is_text x ≡ true → inline_value k (expr_in m x) ≡ Some c → inline_value e x ≡ Some c
value_back names i m e k h x c t q = value_grows (pulled m k) e (pulled_less names i m e k h) x c (sym (value_pulled m k x t) ∙ q)

pub knows_less : (names : InlineNames) (i : Inlines) (m : Names) (e k k0 : KnownNumbers) → KnowsLess k0 k → Knows names i m e k → Knows names i m e k0
knows_less names i m e k k0 less h = record { less = λ n z q. h.less n z (less (m n).0 (m n).1 z q); only = less_only names k0 k less h.only; inline = h.inline }

-- behind a piece of a copy e1 is known; of the copies before it no more than before
pub record Ends (names : InlineNames) (i : Inlines) (m : Names) (c0 : ℕ) (e1 k k1 : KnownNumbers) : Type 0 where
  pub knows : Knows names i m e1 k1
  pub before : (n : List ℕ) (a : ℕ) (z : ℤ) → a < c0 → k1 n a ≡ Some z → k n a ≡ Some z

pub ends_here : (names : InlineNames) (i : Inlines) (m : Names) (c0 : ℕ) (e k : KnownNumbers) → Knows names i m e k → Ends names i m c0 e k k
ends_here names i m c0 e k h = record { knows = h; before = λ n a z lt q. q }

pub ends_then : (names : InlineNames) (i : Inlines) (m : Names) (c0 : ℕ) (e1 e2 k k1 k2 : KnownNumbers) → Ends names i m c0 e1 k k1 → Ends names i m c0 e2 k1 k2 → Ends names i m c0 e2 k k2
ends_then names i m c0 e1 e2 k k1 k2 a b = record { knows = b.knows; before = λ n x z lt q. a.before n x z lt (b.before n x z lt q) }

pub ends_less : (names : InlineNames) (i : Inlines) (m : Names) (c0 : ℕ) (e1 k k1 k0 : KnownNumbers) → KnowsLess k0 k1 → Ends names i m c0 e1 k k1 → Ends names i m c0 e1 k k0
ends_less names i m c0 e1 k k1 k0 less a = record { knows = knows_less names i m e1 k1 k0 less a.knows; before = λ n x z lt q. a.before n x z lt (less n x z q) }

-- from less than there is
pub ends_from : (names : InlineNames) (i : Inlines) (m : Names) (c0 : ℕ) (e1 k k0 k1 : KnownNumbers) → KnowsLess k0 k → Ends names i m c0 e1 k0 k1 → Ends names i m c0 e1 k k1
ends_from names i m c0 e1 k k0 k1 less a = record { knows = a.knows; before = λ n x z lt q. less n x z (a.before n x z lt q) }

module _ (names : InlineNames) (i : Inlines) (m : Names) (c0 : ℕ) (copy : IsCopy names i m c0) (e k : KnownNumbers) (h : Knows names i m e k) where
  exactly : Agrees names m (pulled m k) k
  exactly = record { numbers = λ n. refl; only = h.only }

  -- a variable of the copy is set, to no other number than in the body
  pub set_ends : (v : Var) (y z : Option ℤ) → of_text (ref_of v) ≡ true → i (ref_of v).name ≡ true → ((j : ℤ) → y ≡ Some j → z ≡ Some j) → Ends names i m c0 (with_number e v z) k (with_number k (var_in m v) y)
  set_ends v y z text inline same =
      let made = set_agrees names i m c0 copy v (pulled m k) k y text inline exactly in
      record {
        knows = record {
          less = λ n j q. less_set v y z e same n 0 j (less_with v y (pulled m k) e (pulled_less names i m e k h) n 0 j (sym (made.numbers n) ∙ q));
          only = made.only;
          inline = set_only v e z (in_source i) inline h.inline;
        };
        before = λ n a j lt q. sym (number_elsewhere (var_in m v) k y n a (λ same2. (let own = own_copy names i m c0 copy v inline in omega (arith, own, same2, lt)))) ∙ q;
      }

  pub number_back : (v : Var) (j : ℤ) → of_text (ref_of v) ≡ true → number_of k (var_in m v) ≡ Some j → number_of e v ≡ Some j
  number_back v j text q =
      pulled_less names i m e k h (ref_of v).name (ref_of v).copy j (sym (copied_number names i m c0 copy v (pulled m k) k text exactly) ∙ q)
