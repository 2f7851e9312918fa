-- The variable of a number, as far as a list of declarations has been gone through.
use Rattle.std.proofs.Common.{◌≡◌, ℕ, zero, suc, ◌+◌, ◌<◌, ◌≤◌, List, [], ◌∷◌, ◌++◌, length, map, take, drop, Option, Some, None, refl, sym, ap, ◌∙◌, subst, arith}
use Rattle.std.specs.Prelude.{slice_get}
use Rattle.std.specs.List.{flat_map, range_with_len}
use Rattle.std.proofs.Math.Seq.{split_at}
use Rattle.std.proofs.lemmas.List.{length-append, length-map, append-nil, take_more, take_all}
use Rattle.std.proofs.lemmas.List.Concat.{flat_map-append}
use Rattle.std.proofs.lemmas.List.FromFn.{length-range_with_len}
use Rattle.std.proofs.lemmas.Option.{slice_get_within, get_or_from_slice_get}
use Rattle.jz_words.specs.declared.size.Size.{Size}
use Rattle.jz_tree.specs.declared.expr.Decl.{Decl}
use Rattle.jz_tree.specs.declared.expr.Storage.{Storage}
use Rattle.jz_tree.specs.declared.expr.Storage.TheVariants as storage
use Rattle.jz_tree.specs.declared.expr.Var.{Var}
use Rattle.jz_tree.specs.declared.expr.Expr.TheViews.{out-Decl}
use Rattle.jz_meaning.specs.declared.access.Kind.{Kind}
use Rattle.jz_meaning.specs.declared.access.Kind.TheVariants as kind
use Rattle.jz_meaning.specs.Values.{Ref, cell_key}
use Rattle.jz_declared.specs.Declared.{Held, a_flag, word_at, own_key, held_as, held_by, held_for}
use Rattle.jz_unplaced.specs.declared.unplaced.Named.{Named}
use Rattle.jz_unplaced.specs.declared.numbers.Found.{Found}
use Rattle.jz_unplaced.specs.declared.numbers.Found.TheVariants.{Here, Past}
use Rattle.jz_unplaced.specs.Names.{named_by, nameless, name_at}
use Rattle.jz_unplaced.specs.InnerNumbers.{cell_by, IsHere, Finds}

-- ---- lists
got_before : {A : Type 0} (xs ys : List A) (k : ℕ) (x : A) → slice_get xs k ≡ Some x → slice_get (xs ++ ys) k ≡ Some x
got_before [] ys k x e = absurd cc
got_before (y ∷ xs) ys zero x e = e
got_before (y ∷ xs) ys (suc k) x e = got_before xs ys k x e

got_behind : {A : Type 0} (xs ys : List A) (k r : ℕ) → k ≡ length xs + r → slice_get (xs ++ ys) k ≡ slice_get ys r
got_behind [] ys k r e = let same : k ≡ r = omega (arith, e) in ap (slice_get ys) same
got_behind (x ∷ xs) ys zero r e = absurd (omega (arith, e))
got_behind (x ∷ xs) ys (suc k) r e = got_behind xs ys k r (omega (arith, e))

pub got_mapped : {A B : Type 0} (g : A → B) (xs : List A) (k : ℕ) (x : A) → slice_get xs k ≡ Some x → slice_get (map g xs) k ≡ Some (g x)
got_mapped g [] k x e = absurd cc
got_mapped g (y ∷ xs) zero x e = let same : y ≡ x = cc in ap (λ z. Some (g z)) same
got_mapped g (y ∷ xs) (suc k) x e = got_mapped g xs k x e

got_ranged : {A : Type 0} (g : ℕ → A) (a n k : ℕ) → k < n → slice_get (map g (range_with_len a n)) k ≡ Some (g (a + k))
got_ranged g a zero k lt = absurd (omega (arith, lt))
got_ranged g a (suc n) zero lt = let same : a ≡ a + 0 = omega arith in ap (λ i. Some (g i)) same
got_ranged g a (suc n) (suc k) lt =
    let same : a + 1 + k ≡ a + suc k = omega arith in
    got_ranged g (a + 1) n k (omega (arith, lt)) ∙ ap (λ i. Some (g i)) same

-- ---- what one declaration stands for
pub counted : (m : Kind) (x : Ref) (z : Size) (n : ℕ) → m ≡ kind.Array z n → n ≡ length (held_as storage.Reg m x)
counted m x z n e =
    subst (λ k. n ≡ length (held_as storage.Reg k x)) (sym e)
    (sym (length-map (range_with_len 0 n) (λ i. word_at z (cell_key x i)) ∙ length-range_with_len 0 n))

abbrev Has : List Held → Kind → Ref → ℕ → Type 0
Has hs m x k = IsHere hs k (record { name = x.name; cell = cell_by m k })

only_one : (h : Held) (m : Kind) (x : Ref) (k : ℕ) → h.key ≡ record { name = x.name; copy = x.copy; cell = None } → cell_by m 0 ≡ None → k < 1 → Has (h ∷ []) m x k
only_one h m x zero key none lt = record {
  held = h;
  there = refl;
  named = ap (λ c. record { name = x.name; cell = c }) none ∙ ap named_by (sym key);
}
only_one h m x (suc k) key none lt = absurd (omega (arith, lt))

own_in : (s : Storage) (m : Kind) (x : Ref) (k : ℕ) → k < length (held_as s m x) → Has (held_as s m x) m x k
own_in storage.Reg (kind.Word z) x k lt = only_one (word_at z (own_key x)) (kind.Word z) x k refl refl lt
own_in storage.Reg kind.Bool x k lt = only_one (record { key = own_key x; what = a_flag }) kind.Bool x k refl refl lt
own_in storage.Reg (kind.Array z n) x k lt =
    let many : length (held_as storage.Reg (kind.Array z n) x) ≡ n = sym (counted (kind.Array z n) x z n refl) in
    let same : 0 + k ≡ k = omega arith in
    record { held = word_at z (cell_key x k); there = got_ranged (λ i. word_at z (cell_key x i)) 0 n k (omega (arith, lt, many)) ∙ ap (λ i. Some (word_at z (cell_key x i))) same; named = refl }
own_in storage.Reg kind.Int x k lt = absurd (omega (arith, lt))
own_in storage.Reg kind.Undeclared x k lt = absurd (omega (arith, lt))
own_in storage.Stack m x k lt = absurd (omega (arith, lt))
own_in storage.Inline m x k lt = absurd (omega (arith, lt))

own_by : (d : Option Decl) (x : Ref) (k : ℕ) → k < length (held_by d x) → Has (held_by d x) x.kind x k
own_by None x k lt = absurd (omega (arith, lt))
own_by (Some d) x k lt = own_in (out-Decl d).storage x.kind x k lt

pub own : (d : Option Decl) (x : Ref) (k : ℕ) (name : List ℕ) (cell : Option ℕ) → k < length (held_by d x) → name ≡ x.name → cell ≡ cell_by x.kind k
    → IsHere (held_by d x) k (record { name = name; cell = cell })
own d x k name cell lt e f =
    let h = own_by d x k lt in
    record { held = h.held; there = h.there; named = ap (λ n. record { name = n; cell = cell }) e ∙ ap (λ c. record { name = x.name; cell = c }) f ∙ h.named }

-- ---- declarations one after another
module _ (vs : List Var) (i n rest : ℕ) (v : Var) (at : slice_get vs i ≡ Some v) (far : n ≡ length (flat_map held_for (take i vs)) + rest) where
  split : vs ≡ take i vs ++ v ∷ drop (suc i) vs
  split = split_at vs i v (slice_get_within vs i v at) ∙ ap (λ x. take i vs ++ x ∷ drop (suc i) vs) (get_or_from_slice_get vs i v v at)

  parts : flat_map held_for vs ≡ flat_map held_for (take i vs) ++ (held_for v ++ flat_map held_for (drop (suc i) vs))
  parts = ap (flat_map held_for) split ∙ flat_map-append held_for (take i vs) (v ∷ drop (suc i) vs)

  pub here_at : (x : Named) → IsHere (held_for v) rest x → IsHere (flat_map held_for vs) n x
  here_at x h = record {
    held = h.held;
    there = ap (λ hs. slice_get hs n) parts ∙ got_behind (flat_map held_for (take i vs)) (held_for v ++ flat_map held_for (drop (suc i) vs)) n rest far
        ∙ got_before (held_for v) (flat_map held_for (drop (suc i) vs)) rest h.held h.there;
    named = h.named;
  }

  one_more : take (i + 1) vs ≡ take i vs ++ v ∷ []
  one_more = take_more vs i v (slice_get_within vs i v at) ∙ ap (λ x. take i vs ++ x ∷ []) (get_or_from_slice_get vs i v v at)

  more : flat_map held_for (take (i + 1) vs) ≡ flat_map held_for (take i vs) ++ held_for v
  more = ap (flat_map held_for) one_more ∙ flat_map-append held_for (take i vs) (v ∷ []) ∙ ap (λ hs. flat_map held_for (take i vs) ++ hs) (append-nil (held_for v))

  pub past_at : (r : ℕ) → rest ≡ length (held_for v) + r → n ≡ length (flat_map held_for (take (i + 1) vs)) + r
  past_at r e =
      let l : length (flat_map held_for (take (i + 1) vs)) ≡ length (flat_map held_for (take i vs)) + length (held_for v) =
      ap length more ∙ length-append (flat_map held_for (take i vs)) (held_for v) in
      omega (arith, far, e, l)

pub all_past : (vs : List Var) (i n rest : ℕ) → length vs ≤ i → n ≡ length (flat_map held_for (take i vs)) + rest → n ≡ length (flat_map held_for vs) + rest
all_past vs i n rest le far = subst (λ xs. n ≡ length (flat_map held_for xs) + rest) (take_all i vs le) far

-- ---- parameters, and then variables
module _ (xs ys : List Var) (n : ℕ) where
  both : flat_map held_for (xs ++ ys) ≡ flat_map held_for xs ++ flat_map held_for ys
  both = flat_map-append held_for xs ys

  pub first_found : (x : Named) → IsHere (flat_map held_for xs) n x → IsHere (flat_map held_for (xs ++ ys)) n x
  first_found x h = record {
    held = h.held;
    there = ap (λ hs. slice_get hs n) both ∙ got_before (flat_map held_for xs) (flat_map held_for ys) n h.held h.there;
    named = h.named;
  }

  pub then_found : (rest : ℕ) (found : Found) → n ≡ length (flat_map held_for xs) + rest → Finds (flat_map held_for ys) rest found → Finds (flat_map held_for (xs ++ ys)) n found
  then_found rest (Here x) far h = record {
    held = h.held;
    there = ap (λ hs. slice_get hs n) both ∙ got_behind (flat_map held_for xs) (flat_map held_for ys) n rest far ∙ h.there;
    named = h.named;
  }
  then_found rest (Past r) far e =
      let l : length (flat_map held_for (xs ++ ys)) ≡ length (flat_map held_for xs) + length (flat_map held_for ys) =
      ap length both ∙ length-append (flat_map held_for xs) (flat_map held_for ys) in
      omega (arith, far, e, l)

-- ---- the name
pub name_there : (hs : List Held) (n : ℕ) (x : Named) → IsHere hs n x → x ≡ name_at hs n
name_there hs n x h = h.named ∙ at_place hs n h.held h.there
  where
    at_place : (gs : List Held) (k : ℕ) (g : Held) → slice_get gs k ≡ Some g → named_by g.key ≡ name_at gs k
    at_place [] k g e = absurd cc
    at_place (f ∷ gs) zero g e = let same : g ≡ f = cc in ap (λ (z : Held). named_by z.key) same
    at_place (f ∷ gs) (suc k) g e = at_place gs k g e

pub no_name : (hs : List Held) (n rest : ℕ) → n ≡ length hs + rest → nameless ≡ name_at hs n
no_name [] n rest e = refl
no_name (h ∷ hs) zero rest e = absurd (omega (arith, e))
no_name (h ∷ hs) (suc n) rest e = no_name hs n rest (omega (arith, e))
