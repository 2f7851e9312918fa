-- Numbers that are known, changes of them, and the way back.
use Rattle.std.proofs.Common.{◌≡◌, ℕ, List, [], ◌∷◌, ◌++◌, Option, Some, None, Bool, true, false, refl, ap, sym, ◌∙◌, append-nil, append_assoc, eqb-true}
use Rattle.std.specs.Prelude.{ℤ, ◌==◌, ◌&&◌, if◌then◌else◌}
use Rattle.std.specs.Str.{bytes_eq}
use Rattle.std.proofs.lemmas.Bool.{and_parts}
use Rattle.jz_tree.proofs.Texts.{bytes_eq-true}
use Rattle.jz_integers.specs.Integers.{KnownNumbers}
use Rattle.jz_meaning.specs.States.{Value, Key, Store, put}
use Rattle.jz_unrolling_values.specs.declared.known.Changed.{Changed}
use Rattle.jz_unrolling_values.specs.declared.known.Known.{Known}
use Rattle.jz_unrolling_values.specs.Numbers.{whole_number, held, numbers_in, with_number_at, undone, Sets, Went, IsRestored, IsSame}

-- ---- one number

abbrev whole_key : List ℕ → ℕ → Key
whole_key n c = record { name = n; copy = c; cell = None }

pub held_number : (n : Option ℤ) → whole_number (held n) ≡ n
held_number None = refl
held_number (Some i) = refl

picked_number : (a b : Bool) (x y : Option Value) → whole_number (if a && (b && true) then x else y) ≡ (if a && b then whole_number x else whole_number y)
picked_number true true x y = refl
picked_number true false x y = refl
picked_number false b x y = refl

pub put_number : (store : Store) (n : List ℕ) (c : ℕ) (v : Option Value) → (λ m d. whole_number (put store (whole_key n c) v (whole_key m d))) ≡ with_number_at (λ m d. whole_number (store (whole_key m d))) n c (whole_number v)
put_number store n c v = λ i m d. picked_number (bytes_eq n m) (c == d) v (store (whole_key m d)) i

pub same_number : (e : KnownNumbers) (n m : List ℕ) (c d : ℕ) → (bytes_eq n m && c == d) ≡ true → e n c ≡ e m d
same_number e n m c d p =
    let q = and_parts (bytes_eq n m) _ p in
    ap (λ x. e x c) (bytes_eq-true n m q.0) ∙ ap (e m) (eqb-true c d q.1)

pub set_back : (e : KnownNumbers) (n : List ℕ) (c : ℕ) (v : Option ℤ) → with_number_at (with_number_at e n c v) n c (e n c) ≡ e
set_back e n c v = λ i m d. by_test m d (bytes_eq n m && c == d) refl i
  where
    by_test : (m : List ℕ) (d : ℕ) (t : Bool) → (bytes_eq n m && c == d) ≡ t → with_number_at (with_number_at e n c v) n c (e n c) m d ≡ e m d
    by_test m d true p = ap (λ (b : Bool). if b then e n c else (if b then v else e m d)) p ∙ same_number e n m c d p
    by_test m d false p = ap (λ (b : Bool). if b then e n c else (if b then v else e m d)) p

-- ---- changes

pub undone_both : (xs ys : List Changed) (e : KnownNumbers) → undone (xs ++ ys) e ≡ undone xs (undone ys e)
undone_both [] ys e = refl
undone_both (x ∷ xs) ys e = ap (λ k. with_number_at k x.name x.copy x.old) (undone_both xs ys e)

pub went_none : (k : Known) → Went k k
went_none k = record { changes = []; changed = sym (append-nil k.changed.items); numbers = refl }

pub went_set : (old new : Known) (n : List ℕ) (c : ℕ) (i : Option ℤ) → Sets old new n c i → Went old new
went_set old new n c i h = record {
  changes = record { name = n; copy = c; old = numbers_in old n c } ∷ [];
  changed = h.changed;
  numbers = ap (λ k. with_number_at k n c (numbers_in old n c)) h.numbers ∙ set_back (numbers_in old) n c i;
}

pub went_then : (a b c : Known) → Went a b → Went b c → Went a c
went_then a b c g h = record {
  changes = g.changes ++ h.changes;
  changed = h.changed ∙ ap (λ l. l ++ h.changes) g.changed ∙ append_assoc a.changed.items g.changes h.changes;
  numbers = undone_both g.changes h.changes (numbers_in c) ∙ ap (undone g.changes) h.numbers ∙ g.numbers;
}

pub went_same : (a c : Known) → IsSame a c → Went a c
went_same a c h = record { changes = []; changed = h.changed ∙ sym (append-nil a.changed.items); numbers = h.numbers }

-- ---- back

-- a part from its begin to its end, and the way back
pub part_back : (start end : Known) → start.changed.items ≡ [] → Went start end → undone end.changed.items (numbers_in end) ≡ numbers_in start
part_back start end none w = ap (λ l. undone l (numbers_in end)) (w.changed ∙ ap (λ l. l ++ w.changes) none) ∙ w.numbers

pub restored_same : (old start end new : Known) (outer : List Changed) → outer ≡ old.changed.items → start.changed.items ≡ [] → numbers_in start ≡ numbers_in old → Went start end → IsRestored end new outer → IsSame old new
restored_same old start end new outer o none n w r = record { changed = r.changed ∙ o; numbers = r.numbers ∙ part_back start end none w ∙ n }

-- ---- entries that are taken from the end

-- what is left makes of what is known what all make of what was known
pub record IsTaking (old now : Known) : Type 0 where
  pub numbers : undone now.changed.items (numbers_in now) ≡ undone old.changed.items (numbers_in old)

pub taking_all : (k : Known) → IsTaking k k
taking_all k = record { numbers = refl }

pub taking_on : (old now next : Known) (x : Changed) → now.changed.items ≡ next.changed.items ++ x ∷ [] → numbers_in next ≡ with_number_at (numbers_in now) x.name x.copy x.old → IsTaking old now → IsTaking old next
taking_on old now next x last num h = record {
  numbers =
      ap (undone next.changed.items) num ∙ sym (undone_both next.changed.items (x ∷ []) (numbers_in now))
      ∙ ap (λ l. undone l (numbers_in now)) (sym last) ∙ h.numbers;
}

pub taken_all : (old now : Known) → now.changed.items ≡ [] → IsTaking old now → numbers_in now ≡ undone old.changed.items (numbers_in old)
taken_all old now none h = ap (λ l. undone l (numbers_in now)) (sym none) ∙ h.numbers
