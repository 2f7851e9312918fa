-- From functions, one by one, to all of them: the earliest place at which one of them is wrong.
use Rattle.std.proofs.Common.{◌≡◌, ℕ, zero, suc, ◌+◌, ◌<◌, ◌⊎◌, inl, inr, List, [], ◌∷◌, ◌++◌, length, take, get_or, Option, None, refl, sym, ap, ◌∙◌, subst, arith}
use Rattle.std.specs.Prelude.{Contains, ◌↔◌}
use Rattle.std.proofs.lemmas.List.{take_more}
use Rattle.std.proofs.Math.Seq.{take-length}
use Rattle.std.proofs.lemmas.List.Elements.{Contains-append_left, Contains-append_right, Contains-append_cases}
use Rattle.jz_tree.specs.Span.{Span}
use Rattle.jz_tree.specs.declared.program.Fun.{Fun}
use Rattle.jz_tree.specs.declared.program.Program.{Program}
use Rattle.jz_type_names.specs.Order.{earlier, IsEarliest, nowhere}
use Rattle.jz_type_names.proofs.Firsts.{same_wrong, earlier_of_two}
use Rattle.jz_type_storage.specs.Paths.{IsReadUnset, IsReadUnsetIn}

one_is : (f g : Fun) → Contains (f ∷ []) g → f ≡ g
one_is f g (zero, lt, e) = e
one_is f g (suc k, lt, e) = absurd (omega (arith, lt))

-- one of the functions is wrong at this place
pub record InOneOf (Wrong : Fun → Span → Type 0) (fs : List Fun) (at : Span) : Type 0 where
  pub function : Fun
  pub among : Contains fs function
  pub wrong : Wrong function at

module _ (Wrong : Fun → Span → Type 0) where
  pub none_among : IsEarliest (InOneOf Wrong []) None
  none_among = nowhere (λ at u. omega (arith, u.among.1))

  more_to : (fs : List Fun) (g : Fun) (at : Span) → InOneOf Wrong fs at ⊎ Wrong g at → InOneOf Wrong (fs ++ g ∷ []) at
  more_to fs g at (inl u) = record { function = u.function; among = Contains-append_left fs (g ∷ []) u.function u.among; wrong = u.wrong }
  more_to fs g at (inr w) = record { function = g; among = Contains-append_right fs (g ∷ []) g (0, omega arith, refl); wrong = w }

  more_from : (fs : List Fun) (g : Fun) (at : Span) → InOneOf Wrong (fs ++ g ∷ []) at → InOneOf Wrong fs at ⊎ Wrong g at
  more_from fs g at u = elim (Contains-append_cases fs (g ∷ []) u.function u.among) [
    | inl c ↦ inl (record { function = u.function; among = c; wrong = u.wrong })
    | inr c ↦ inr (subst (λ f. Wrong f at) (sym (one_is g u.function c)) u.wrong)
  ]

  -- one function more: the earlier of what was found before and what is found in it
  pub one_more_among : (fs : List Fun) (g : Fun) (best own : Option Span) → IsEarliest (InOneOf Wrong fs) best → IsEarliest (Wrong g) own
      → IsEarliest (InOneOf Wrong (fs ++ g ∷ [])) (earlier best own)
  one_more_among fs g best own held found =
      same_wrong _ _ (λ at. (more_to fs g at, more_from fs g at)) _ (earlier_of_two (InOneOf Wrong fs) (Wrong g) best own held found)

  -- a turn of a loop over functions
  pub more_taken : (fs : List Fun) (i : ℕ) (g : Fun) (best next own : Option Span) → i < length fs → g ≡ get_or fs i g
      → IsEarliest (InOneOf Wrong (take i fs)) best → IsEarliest (Wrong g) own → next ≡ earlier best own → IsEarliest (InOneOf Wrong (take (i + 1) fs)) next
  more_taken fs i g best next own lt is held found e =
      let more : take (i + 1) fs ≡ take i fs ++ g ∷ [] = take_more fs i g lt ∙ ap (λ f. take i fs ++ f ∷ []) (sym is) in
      subst (λ gs. IsEarliest (InOneOf Wrong gs) next) (sym more)
      (subst (IsEarliest (InOneOf Wrong (take i fs ++ g ∷ []))) (sym e) (one_more_among (take i fs) g best own held found))

  -- its end
  pub all_taken : (fs gs : List Fun) (i : ℕ) (best : Option Span) → fs ≡ gs → i ≡ length fs → IsEarliest (InOneOf Wrong (take i fs)) best → IsEarliest (InOneOf Wrong gs) best
  all_taken fs gs i best e n held = subst (λ hs. IsEarliest (InOneOf Wrong hs) best) (ap (λ k. take k fs) n ∙ (take-length fs ∙ e)) held

in_program : (p : Program) (at : Span) → InOneOf IsReadUnset p.funs at ↔ IsReadUnsetIn p at
in_program p at = (λ u. record { function = u.function; among = u.among; read = u.wrong }, λ u. record { function = u.function; among = u.among; wrong = u.read })

-- what is read unset in one of a program's functions is read unset in the program
pub unset_in_program : (p : Program) (best : Option Span) → IsEarliest (InOneOf IsReadUnset p.funs) best → IsEarliest (IsReadUnsetIn p) best
unset_in_program p best held = same_wrong _ _ (in_program p) best held
