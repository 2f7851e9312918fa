-- Bytes one after the other.
use Rattle.std.proofs.Common.{◌≡◌, ℕ, zero, suc, ◌+◌, ◌-◌, ◌<◌, ◌≤◌, List, [], ◌∷◌, ◌++◌, length, Some, None, refl, sym, ap, ◌∙◌, subst, arith, append_assoc, append-nil}
use Rattle.std.specs.Prelude.{nat_lt, slice_get}
use Rattle.std.specs.FinMap.{get}
use Rattle.std.proofs.lemmas.Bool.{ltb-true}
use Rattle.std.proofs.lemmas.Bool.Decides.{nat_tests}
use Rattle.std.proofs.lemmas.List.{length-append}
use Rattle.std.proofs.lemmas.List.Elements.{All-nil, All-push}
use Rattle.jz_tree.specs.Memory.{Memory}
use Rattle.jz_lex.proofs.LexingWords.{by_cases}
use Rattle.jz_items.specs.declared.item.Item.{Item}
use Rattle.jz_preconditions.specs.Stating.{some_of}
use Rattle.jz_inputs.specs.Held.{byte_at}
use Rattle.jz_inputs.specs.Inputs.{bytes_from}
use Rattle.jz_inputs.specs.InnerFilled.{IsPiece, AreFree}

-- ---- of items
pub no_piece : (items : List Item) (from : ℕ) → IsPiece items from from []
no_piece items from = record {
  long = omega arith;
  given = λ q l r. absurd (omega (arith, l, r));
  bytes = All-nil (λ b. b < 256);
}

get_front : (xs ys : List ℕ) (i : ℕ) → i < length xs → slice_get (xs ++ ys) i ≡ slice_get xs i
get_front [] ys i lt = absurd (omega (arith, lt))
get_front (x ∷ xs) ys zero lt = refl
get_front (x ∷ xs) ys (suc i) lt = get_front xs ys i (omega (arith, lt))

get_last : (xs : List ℕ) (y i : ℕ) → i ≡ length xs → slice_get (xs ++ y ∷ []) i ≡ Some y
get_last [] y i e = ap (slice_get (y ∷ [])) e
get_last (x ∷ xs) y zero e = absurd (omega (arith, e))
get_last (x ∷ xs) y (suc i) e = get_last xs y i (omega (arith, e))

pub piece_more : (items : List Item) (from at : ℕ) (xs ys : List ℕ) (b : ℕ) → from ≤ at → byte_at items at ≡ Some b → b < 256 → ys ≡ xs ++ b ∷ [] → IsPiece items from at xs → IsPiece items from (at + 1) ys
piece_more items from at xs ys b l is small more p =
    let n = p.long in
    subst (λ zs. IsPiece items from (at + 1) zs) (sym more) (record {
      long = (let e = length-append xs (b ∷ []) in omega (arith, e, n, l));
      given = λ q lo hi. by_cases (slice_get (xs ++ b ∷ []) (q - from) ≡ byte_at items q) (nat_lt q at)
          (λ t. let w = ltb-true q at t in get_front xs (b ∷ []) (q - from) (omega (arith, n, w, lo)) ∙ p.given q lo w)
          (λ t. let same : q ≡ at = (let u : at ≤ q = grind (arith, nat_tests, t) in omega (arith, u, hi)) in
          get_last xs b (q - from) (omega (arith, n, same, l)) ∙ sym is ∙ ap (byte_at items) (sym same));
      bytes = All-push (λ z. z < 256) xs b p.bytes small;
    })

-- ---- of a memory
pub from_more : (m : Memory) (at end : ℕ) (xs ys whole : List ℕ) → at < end → ys ≡ xs ++ some_of (get m at) → xs ++ bytes_from m at (end - at) ≡ whole
    → ys ++ bytes_from m (at + 1) (end - (at + 1)) ≡ whole
from_more m at end xs ys whole lt more h =
    let rest = bytes_from m (at + 1) (end - (at + 1)) in
    let one : end - at ≡ suc (end - (at + 1)) = omega (arith, lt) in
    ap (λ z. z ++ rest) more ∙ append_assoc xs (some_of (get m at)) rest ∙ sym (ap (λ n. xs ++ bytes_from m at n) one) ∙ h

pub from_end : (m : Memory) (at end : ℕ) (xs whole : List ℕ) → end ≤ at → xs ++ bytes_from m at (end - at) ≡ whole → xs ≡ whole
from_end m at end xs whole le h =
    let none : end - at ≡ 0 = omega (arith, le) in
    sym (append-nil xs) ∙ sym (ap (λ n. xs ++ bytes_from m at n) none) ∙ h

-- ---- free addresses
pub free_begun : (m : Memory) (from : ℕ) → get m from ≡ None → AreFree m from (from + 1)
free_begun m from h q l r = let same : q ≡ from = omega (arith, l, r) in ap (get m) same ∙ h

pub free_more : (m : Memory) (from at : ℕ) → AreFree m from at → get m at ≡ None → AreFree m from (at + 1)
free_more m from at h k q l r = by_cases (get m q ≡ None) (nat_lt q at)
    (λ t. h q l (ltb-true q at t))
    (λ t. let same : q ≡ at = (let u : at ≤ q = grind (arith, nat_tests, t) in omega (arith, u, r)) in ap (get m) same ∙ k)
