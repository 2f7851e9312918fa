-- Arrays that are passed twice, by the names of those that were passed.
use Rattle.std.proofs.Common.{◌≡◌, ℕ, ◌+◌, ◌<◌, suc, Bool, true, false, ◌&&◌, ◌||◌, not, List, [], ◌∷◌, ◌++◌, map, length, get_or, take, drop, Option, refl, sym, ap, ◌∙◌, cond, arith, drop-cons, subst}
use Rattle.std.specs.List.{list_any}
use Rattle.std.specs.Str.{bytes_eq}
use Rattle.std.proofs.lemmas.List.{map_more}
use Rattle.jz_tree.specs.Span.{Span}
use Rattle.jz_type_names.specs.Order.{unless, earlier, earliest}
use Rattle.jz_type_names.proofs.Earliest.{earliest-append}
use Rattle.jz_type_names.specs.Scopes.{text_of}
use Rattle.jz_type_rows.specs.declared.copies.Argument.{Argument}
use Rattle.jz_type_rows.specs.declared.twice.Seen.{Seen}
use Rattle.jz_type_rows.specs.Copies.{Passed, span_of_var, is_written_at, is_twice, passed_twice}
use Rattle.jz_type_rows.specs.InnerPassing.{passed_of}
use Rattle.jz_type_rows.specs.InnerTables.{HasSeen, names_passed, written_among}

-- ---- whether one was passed before
with_written : (e w r1 r t : Bool) → (r1 || (w && r)) ≡ t → ((e || r1) || (w && (e || r))) ≡ ((e && (w || true)) || t)
with_written true true r1 r t h = refl
with_written true false r1 r t h = refl
with_written false w r1 r t h = h

without_written : (e w r1 r t : Bool) → (r1 || (w && r)) ≡ t → (r1 || (w && (e || r))) ≡ ((e && (w || false)) || t)
without_written true true true r t h = refl
without_written true true false r t h = refl
without_written true false r1 r t h = h
without_written false w r1 r t h = h

none_yet : (w : Bool) → (false || (w && false)) ≡ false
none_yet true = refl
none_yet false = refl

module _ (bs : List Bool) (b : Passed) where
  pub twice_is : (as' : List Passed)
      → (list_any (bytes_eq (text_of b.1)) (names_passed (written_among bs as')) || (is_written_at bs b.0 && list_any (bytes_eq (text_of b.1)) (names_passed as'))) ≡ list_any (is_twice bs b) as'
  twice_is [] = none_yet (is_written_at bs b.0)
  twice_is (a ∷ as') =
      elim (is_written_at bs a.0)
      as (λ w. (list_any (bytes_eq (text_of b.1)) (names_passed (cond w (a ∷ written_among bs as') (written_among bs as')))
      || (is_written_at bs b.0 && (bytes_eq (text_of b.1) (text_of a.1) || list_any (bytes_eq (text_of b.1)) (names_passed as'))))
      ≡ ((bytes_eq (text_of b.1) (text_of a.1) && (is_written_at bs b.0 || w)) || list_any (is_twice bs b) as')) [
        | true ↦ with_written (bytes_eq (text_of b.1) (text_of a.1)) (is_written_at bs b.0) _ _ _ (twice_is as')
        | false ↦ without_written (bytes_eq (text_of b.1) (text_of a.1)) (is_written_at bs b.0) _ _ _ (twice_is as')
      ]

-- ---- the same, test by test
pub by_written : (r w x t : Bool) → r ≡ w → r ≡ true → (w || x) ≡ t → r ≡ t
by_written r w x t e h k = h ∙ (sym (ap (λ q. q || x) (sym e ∙ h)) ∙ k)

pub by_all : (w x a t r : Bool) → w ≡ false → x ≡ true → r ≡ a → (w || (x && a)) ≡ t → r ≡ t
by_all w x a t r e f g k = g ∙ (sym (ap (λ q. q && a) f) ∙ (sym (ap (λ q. q || (x && a)) e) ∙ k))

pub by_none : (w x a t r : Bool) → w ≡ false → x ≡ false → r ≡ x → (w || (x && a)) ≡ t → r ≡ t
by_none w x a t r e f g k = g ∙ (f ∙ (sym (ap (λ q. q && a) f) ∙ (sym (ap (λ q. q || (x && a)) e) ∙ k)))

-- ---- one more
pub seen_at : (s : Seen) (bs : List Bool) (ps qs : List Passed) → ps ≡ qs → HasSeen s bs ps → HasSeen s bs qs
seen_at s bs ps qs e h = subst (λ x. HasSeen s bs x) e h

-- ---- a turn of the loop
pub turn_taken : (ps : List Argument) (i : ℕ) (p : Argument) → i < length ps → p ≡ get_or ps i p → map passed_of (take i ps) ++ passed_of p ∷ [] ≡ map passed_of (take (i + 1) ps)
turn_taken ps i p lt e = ap (λ q. map passed_of (take i ps) ++ passed_of q ∷ []) e ∙ sym (map_more passed_of ps i p lt)

pub turn_left : (bs : List Bool) (ps : List Argument) (i : ℕ) (p : Argument) (first next all : Option Span) → i < length ps → p ≡ get_or ps i p
    → earlier first (earliest (passed_twice bs (map passed_of (take i ps)) (map passed_of (drop i ps)))) ≡ all
    → ((rest : Option Span) → earlier next rest ≡ earlier first (earlier (earliest (unless (not (list_any (is_twice bs (passed_of p)) (map passed_of (take i ps)))) (span_of_var p.array.now))) rest))
    → earlier next (earliest (passed_twice bs (map passed_of (take (i + 1) ps)) (map passed_of (drop (i + 1) ps)))) ≡ all
turn_left bs ps i p first next all lt e held joined =
    let one : i + 1 ≡ suc i = omega arith
    in let items : drop i ps ≡ p ∷ drop (i + 1) ps = drop-cons ps i p lt ∙ (ap (λ q. q ∷ drop (suc i) ps) (sym e) ∙ ap (λ j. p ∷ drop j ps) (sym one))
    in joined (earliest (passed_twice bs (map passed_of (take (i + 1) ps)) (map passed_of (drop (i + 1) ps))))
    ∙ (ap (λ q. earlier first (earlier (earliest (unless (not (list_any (is_twice bs (passed_of p)) (map passed_of (take i ps)))) (span_of_var p.array.now))) (earliest (passed_twice bs q (map passed_of (drop (i + 1) ps))))))
    (sym (turn_taken ps i p lt e))
    ∙ (ap (earlier first) (sym (earliest-append (unless (not (list_any (is_twice bs (passed_of p)) (map passed_of (take i ps)))) (span_of_var p.array.now)) _))
    ∙ (ap (λ q. earlier first (earliest (passed_twice bs (map passed_of (take i ps)) (map passed_of q)))) (sym items) ∙ held)))
