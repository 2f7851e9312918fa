-- What is known in a copy of a body is what is known in the body.
use Rattle.std.proofs.Common.{◌≡◌, ℕ, ◌<◌, List, Option, None, Bool, true, false, refl, ap, sym, ◌∙◌, arith, inl, inr, bytes_eq}
use Rattle.std.specs.Prelude.{ℤ, ◌==◌, ◌&&◌, ◌⊎◌, is_none, if◌then◌else◌}
use Rattle.std.proofs.lemmas.Bool.{and_parts}
use Rattle.std.proofs.lemmas.Bool.Decides.{nat_tests}
use Rattle.jz_tree.proofs.Texts.{bytes_eq-true}
use Rattle.jz_tree.specs.declared.expr.Var.{Var}
use Rattle.jz_integers.specs.Integers.{KnownNumbers}
use Rattle.jz_meaning.specs.Values.{Ref, ref_of}
use Rattle.jz_unrolling_laws.specs.Names.{Names, var_in}
use Rattle.jz_unrolling_laws.proofs.Reading.{ref_so}
use Rattle.jz_unroll.specs.Values.{InlineNames, is_int, is_inline_var}
use Rattle.jz_unroll.specs.Unrolling.{IsInlineInt, with_number, number_of}
use Rattle.jz_unrolling_laws.specs.AskedLaws.{of_text}
use Rattle.jz_unrolling_laws.specs.CalledBodies.{Inlines, in_source}
use Rattle.jz_copied_values.proofs.CopiedOperations.{var_named}

false_true : false ≡ true → ⊥
false_true q = absurd cc

pub same_copy : (a b : ℕ) → (a == b) ≡ true → a ≡ b
same_copy a b q = grind (arith, nat_tests, q)

pub other_copy : (a b : ℕ) → (a ≡ b → ⊥) → (a == b) ≡ false
other_copy a b h = by_test (a == b) refl
  where
    by_test : (t : Bool) → (a == b) ≡ t → t ≡ false
    by_test true q = absurd (h (same_copy a b q))
    by_test false q = refl

pub copy_itself : (a : ℕ) → (a == a) ≡ true
copy_itself a = grind (arith, nat_tests)

pub text_copy : (r : Ref) → of_text r ≡ true → (r.copy == 0) ≡ true
text_copy r t = grind (arith, nat_tests, t)

pub second_false : (a b : Bool) → b ≡ false → (a && b) ≡ false
second_false true b q = q
second_false false b q = refl

-- ---- one variable is set

module _ (v : Var) (k : KnownNumbers) (z : Option ℤ) where
  pub number_elsewhere : (n : List ℕ) (a : ℕ) → ((ref_of v).copy ≡ a → ⊥) → with_number k v z n a ≡ k n a
  number_elsewhere n a h = ap (λ b. if b then z else k n a) (second_false (bytes_eq (ref_of v).name n) _ (other_copy (ref_of v).copy a h))

  pub number_unnamed : (n : List ℕ) (a : ℕ) → bytes_eq (ref_of v).name n ≡ false → with_number k v z n a ≡ k n a
  number_unnamed n a h = ap (λ b. if b && (ref_of v).copy == a then z else k n a) h

  -- what is set is inline
  pub set_only : (names : InlineNames) → is_inline_var names v ≡ true → ((n : List ℕ) (c : ℕ) → names n c ≡ false → k n c ≡ None) → (n : List ℕ) (c : ℕ) → names n c ≡ false → with_number k v z n c ≡ None
  set_only names inline only n c out = by_test (bytes_eq (ref_of v).name n && (ref_of v).copy == c) refl
    where
      by_test : (t : Bool) → (bytes_eq (ref_of v).name n && (ref_of v).copy == c) ≡ t → (if t then z else k n c) ≡ None
      by_test true q =
          let p = and_parts (bytes_eq (ref_of v).name n) _ q in
          absurd (false_true (sym out ∙ ap (λ m. names m c) (sym (bytes_eq-true (ref_of v).name n p.0)) ∙ ap (names (ref_of v).name) (sym (same_copy (ref_of v).copy c p.1)) ∙ inline))
      by_test false q = only n c out

-- ---- copies

-- a variable has the number c0 of the copy, or it stands in a copy before it and is not inline
pub record IsCopy (names : InlineNames) (i : Inlines) (m : Names) (c0 : ℕ) : Type 0 where
  pub named : (n : List ℕ) → names (m n).0 (m n).1 ≡ i n
  pub place : (n : List ℕ) → (m n ≡ (n, c0)) ⊎ (((m n).1 < c0) × (i n ≡ false))

pub record Agrees (names : InlineNames) (m : Names) (e k : KnownNumbers) : Type 0 where
  pub numbers : (n : List ℕ) → k (m n).0 (m n).1 ≡ e n 0
  -- nothing else is known than of inline variables
  pub only : (n : List ℕ) (c : ℕ) → names n c ≡ false → k n c ≡ None

module _ (names : InlineNames) (i : Inlines) (m : Names) (c0 : ℕ) (copy : IsCopy names i m c0) where
  pub own_place : (n : List ℕ) → i n ≡ true → m n ≡ (n, c0)
  own_place n inline = by_place (copy.place n)
    where
      by_place : (m n ≡ (n, c0)) ⊎ (((m n).1 < c0) × (i n ≡ false)) → m n ≡ (n, c0)
      by_place (inl q) = q
      by_place (inr p) = absurd (false_true (sym p.1 ∙ inline))

  pub not_behind : (n : List ℕ) (c : ℕ) → c0 < c → (m n).1 < c
  not_behind n c lt = by_place (copy.place n)
    where
      by_place : (m n ≡ (n, c0)) ⊎ (((m n).1 < c0) × (i n ≡ false)) → (m n).1 < c
      by_place (inl q) = let s : (m n).1 ≡ c0 = ap (λ p. p.1) q in omega (arith, s, lt)
      by_place (inr p) = let s = p.0 in omega (arith, s, lt)

  pub own_copy : (v : Var) → i (ref_of v).name ≡ true → (ref_of (var_in m v)).copy ≡ c0
  own_copy v inline = ap (λ (r : Ref). r.copy) (ref_so m v) ∙ ap (λ p. p.1) (own_place (ref_of v).name inline)

  own_name : (v : Var) → i (ref_of v).name ≡ true → (ref_of (var_in m v)).name ≡ (ref_of v).name
  own_name v inline = ap (λ (r : Ref). r.name) (ref_so m v) ∙ ap (λ p. p.0) (own_place (ref_of v).name inline)

  pub copied_int : (v : Var) → IsInlineInt (in_source i) v → IsInlineInt names (var_in m v)
  copied_int v h = record {
    named = var_named names i m copy.named v ∙ h.named;
    whole = ap (λ (r : Ref). is_none r.cell) (ref_so m v) ∙ h.whole;
    int = ap (λ (r : Ref). is_int r.kind) (ref_so m v) ∙ h.int;
  }

  pub copied_number : (v : Var) (e k : KnownNumbers) → of_text (ref_of v) ≡ true → Agrees names m e k → number_of k (var_in m v) ≡ number_of e v
  copied_number v e k t agree =
      ap (λ (r : Ref). k r.name r.copy) (ref_so m v) ∙ agree.numbers (ref_of v).name ∙ ap (e (ref_of v).name) (sym (same_copy (ref_of v).copy 0 (text_copy (ref_of v) t)))

  -- a variable and its copy are set to the same
  pub set_agrees : (v : Var) (e k : KnownNumbers) (z : Option ℤ) → of_text (ref_of v) ≡ true → i (ref_of v).name ≡ true → Agrees names m e k → Agrees names m (with_number e v z) (with_number k (var_in m v) z)
  set_agrees v e k z t inline agree = record {
    numbers = λ n. by_place n (copy.place n);
    only = set_only (var_in m v) k z names (var_named names i m copy.named v ∙ inline) agree.only;
  }
    where
      other : (n : List ℕ) → i n ≡ false → bytes_eq (ref_of v).name n ≡ false
      other n out = by_test (bytes_eq (ref_of v).name n) refl
        where
          by_test : (b : Bool) → bytes_eq (ref_of v).name n ≡ b → b ≡ false
          by_test true q = absurd (false_true (sym out ∙ ap i (sym (bytes_eq-true (ref_of v).name n q)) ∙ inline))
          by_test false q = refl

      by_place : (n : List ℕ) → (m n ≡ (n, c0)) ⊎ (((m n).1 < c0) × (i n ≡ false)) → with_number k (var_in m v) z (m n).0 (m n).1 ≡ with_number e v z n 0
      by_place n (inl q) =
          ap (λ p. if bytes_eq (ref_of (var_in m v)).name p.0 && (ref_of (var_in m v)).copy == p.1 then z else k (m n).0 (m n).1) q
          ∙ ap (λ w. if bytes_eq w n && (ref_of (var_in m v)).copy == c0 then z else k (m n).0 (m n).1) (own_name v inline)
          ∙ ap (λ w. if bytes_eq (ref_of v).name n && w then z else k (m n).0 (m n).1) (ap (λ c. c == c0) (own_copy v inline) ∙ copy_itself c0 ∙ sym (text_copy (ref_of v) t))
          ∙ ap (λ w. if bytes_eq (ref_of v).name n && (ref_of v).copy == 0 then z else w) (agree.numbers n)
      by_place n (inr p) =
          let lt = p.0 in let own = own_copy v inline in
          number_elsewhere (var_in m v) k z (m n).0 (m n).1 (λ same. omega (arith, same, own, lt))
          ∙ agree.numbers n ∙ sym (number_unnamed v e z n 0 (other n p.1))

-- the same where no variable of the copy is touched
pub still_agrees : (names : InlineNames) (m : Names) (e k k1 : KnownNumbers) → Agrees names m e k → ((n : List ℕ) → k1 (m n).0 (m n).1 ≡ k (m n).0 (m n).1) → ((n : List ℕ) (c : ℕ) → names n c ≡ false → k1 n c ≡ None) → Agrees names m e k1
still_agrees names m e k k1 agree same only = record { numbers = λ n. same n ∙ agree.numbers n; only = only }
