-- Numbers of inline variables that are known, as they change.
use Rattle.std.proofs.Common.{◌≡◌, ℕ, ℤ, List, Option, Some, Bool, true, false, refl, ap, ◌∙◌, subst, inl, inr, if◌then◌else◌, eqb-true, bytes_eq}
use Rattle.std.specs.Prelude.{◌⊎◌, ◌==◌, ◌&&◌, is_some}
use Rattle.std.proofs.lemmas.Bool.{and_parts, and_from}
use Rattle.jz_tree.proofs.Texts.{bytes_eq-true}
use Rattle.jz_tree.specs.declared.expr.Var.{Var}
use Rattle.jz_tree.specs.declared.program.Fun.{Fun}
use Rattle.jz_integers.specs.Integers.{KnownNumbers}
use Rattle.jz_meaning.specs.Values.{ref_of}
use Rattle.jz_inline_laws.proofs.Refs.{bytes_same}
use Rattle.jz_limits.specs.Values.{with_number, number_of}
use Rattle.jz_inline_laws.specs.InlineParts.{inline_in, NameSet, Within, WithinAnd}

-- of these names each inline variable has a number
abbrev pub Knows : Fun → NameSet → KnownNumbers → Type 0
Knows f s e = (n : List ℕ) → inline_in f n 0 ≡ true → s n ≡ true → is_some (e n 0) ≡ true

-- what has a number has one
abbrev pub Keeps : KnownNumbers → KnownNumbers → Type 0
Keeps e k = (n : List ℕ) (c : ℕ) → is_some (e n c) ≡ true → is_some (k n c) ≡ true

pub keeps_same : (e : KnownNumbers) → Keeps e e
keeps_same e n c h = h

pub keeps_on : (e k m : KnownNumbers) → Keeps e k → Keeps k m → Keeps e m
keeps_on e k m a b n c h = b n c (a n c h)

pub knows_kept : (f : Fun) (s : NameSet) (e k : KnownNumbers) → Knows f s e → Keeps e k → Knows f s k
knows_kept f s e k a b n i h = b n 0 (a n i h)

pub knows_within : (f : Fun) (s t : NameSet) (e : KnownNumbers) → Within (inline_in f) s t → Knows f t e → Knows f s e
knows_within f s t e w h n i m = h n i (w n i m)

-- ---- one number more

some_if : (b : Bool) (x y : Option ℤ) → is_some x ≡ true → is_some y ≡ true → is_some (if b then x else y) ≡ true
some_if true x y e f = e
some_if false x y e f = f

pub keeps_number : (e : KnownNumbers) (v : Var) (i : ℤ) → Keeps e (with_number e v (Some i))
keeps_number e v i n c h = some_if (bytes_eq (ref_of v).name n && ((ref_of v).copy == c)) (Some i) (e n c) refl h

-- the variable itself
pub at_itself : (v : Var) (n : List ℕ) → (ref_of v).copy ≡ 0 → (ref_of v).name ≡ n → (bytes_eq (ref_of v).name n && ((ref_of v).copy == 0)) ≡ true
at_itself v n z e =
    and_from (bytes_eq (ref_of v).name n) ((ref_of v).copy == 0) (subst (λ m. bytes_eq (ref_of v).name m ≡ true) e (bytes_same (ref_of v).name)) (ap (λ c. c == 0) z)

pub knows_number : (f : Fun) (s t : NameSet) (e : KnownNumbers) (v : Var) (i : ℤ) → (ref_of v).copy ≡ 0 → WithinAnd (inline_in f) s t v → Knows f t e → Knows f s (with_number e v (Some i))
knows_number f s t e v i z w h n k m = by_name (w n k m)
  where
    by_name : (t n ≡ true) ⊎ ((ref_of v).name ≡ n) → is_some (with_number e v (Some i) n 0) ≡ true
    by_name (inl a) = keeps_number e v i n 0 (h n k a)
    by_name (inr a) = ap (λ b. is_some (if b then Some i else e n 0)) (at_itself v n z a)

-- ---- back to what it was

pub keeps_back : (e k : KnownNumbers) (v : Var) → Keeps e k → Keeps e (with_number k v (number_of e v))
keeps_back e k v h n c g = by_test (bytes_eq (ref_of v).name n && ((ref_of v).copy == c)) refl
  where
    by_test : (b : Bool) → (bytes_eq (ref_of v).name n && ((ref_of v).copy == c)) ≡ b → is_some (if b then number_of e v else k n c) ≡ true
    by_test false q = h n c g
    by_test true q =
        let p = and_parts (bytes_eq (ref_of v).name n) ((ref_of v).copy == c) q in
        let name : (ref_of v).name ≡ n = bytes_eq-true (ref_of v).name n p.0 in
        let copy : (ref_of v).copy ≡ c = eqb-true (ref_of v).copy c p.1 in
        ap (λ m. is_some (e m (ref_of v).copy)) name ∙ ap (λ d. is_some (e n d)) copy ∙ g
