-- What preconditions that hold say of the word of a name.
use Rattle.std.proofs.Common.{◌≡◌, ℕ, List, [], ◌∷◌, Option, Some, None, Bool, true, false, refl, sym, subst, if◌then◌else◌}
use Rattle.std.specs.Prelude.{All}
use Rattle.std.specs.Option.{option_or}
use Rattle.std.specs.Str.{bytes_eq}
use Rattle.std.proofs.lemmas.List.Elements.{All-head, All-tail}
use Rattle.jz_lex.proofs.LexingWords.{same_is}
use Rattle.jz_annotations.specs.declared.precondition.Pre.{Pre}
use Rattle.jz_annotations.specs.declared.precondition.Pre.TheVariants.{Region, Range, Align}
use Rattle.jz_preconditions.specs.declared.least.Interval.{Interval}
use Rattle.jz_preconditions.specs.Bounds.{range_in, multiple_in, range_of, multiple_of}
use Rattle.jz_preconditions.specs.Meeting.{word_named, IsBetween, IsMultiple, IsMet}

same_item : {A : Type 0} (a b : A) → Some a ≡ Some b → a ≡ b
same_item a b e = cc

module _ (names : List (List ℕ)) (words : List ℕ) (n : List ℕ) where
  abbrev Is : Interval → Type 0
  Is i = IsBetween (word_named names words n) i.low i.high

  range_here : (x : List ℕ) (low high : ℕ) (rest : Option Interval) (i : Interval) → IsBetween (word_named names words x) low high → (rest ≡ Some i → Is i)
      → option_or (range_in n (Range x low high)) rest ≡ Some i → Is i
  range_here x low high rest i h more = by (bytes_eq n x) refl
    where
      by : (b : Bool) → bytes_eq n x ≡ b → option_or (if b then Some (record { low = low; high = high }) else None) rest ≡ Some i → Is i
      by true q e =
          subst Is (same_item (record { low = low; high = high }) i e)
          (subst (λ m. IsBetween (word_named names words m) low high) (sym (same_is n x q)) h)
      by false q e = more e

  pub range_met : (ps : List Pre) → All (IsMet names words) ps → (i : Interval) → range_of ps n ≡ Some i → Is i
  range_met [] h i e = absurd cc
  range_met (Region p f v c ∷ ps) h i e = range_met ps (All-tail (IsMet names words) (Region p f v c) ps h) i e
  range_met (Range x low high ∷ ps) h i e =
      range_here x low high (range_of ps n) i (All-head (IsMet names words) (Range x low high) ps h)
      (range_met ps (All-tail (IsMet names words) (Range x low high) ps h) i) e
  range_met (Align p m ∷ ps) h i e = range_met ps (All-tail (IsMet names words) (Align p m) ps h) i e

  multiple_here : (x : List ℕ) (k : ℕ) (rest : Option ℕ) (m : ℕ) → IsMultiple (word_named names words x) k → (rest ≡ Some m → IsMultiple (word_named names words n) m)
      → option_or (multiple_in n (Align x k)) rest ≡ Some m → IsMultiple (word_named names words n) m
  multiple_here x k rest m h more = by (bytes_eq n x) refl
    where
      by : (b : Bool) → bytes_eq n x ≡ b → option_or (if b then Some k else None) rest ≡ Some m → IsMultiple (word_named names words n) m
      by true q e =
          subst (λ j. IsMultiple (word_named names words n) j) (same_item k m e)
          (subst (λ y. IsMultiple (word_named names words y) k) (sym (same_is n x q)) h)
      by false q e = more e

  pub multiple_met : (ps : List Pre) → All (IsMet names words) ps → (m : ℕ) → multiple_of ps n ≡ Some m → IsMultiple (word_named names words n) m
  multiple_met [] h m e = absurd cc
  multiple_met (Region p f v c ∷ ps) h m e = multiple_met ps (All-tail (IsMet names words) (Region p f v c) ps h) m e
  multiple_met (Range x low high ∷ ps) h m e = multiple_met ps (All-tail (IsMet names words) (Range x low high) ps h) m e
  multiple_met (Align x k ∷ ps) h m e =
      multiple_here x k (multiple_of ps n) m (All-head (IsMet names words) (Align x k) ps h)
      (multiple_met ps (All-tail (IsMet names words) (Align x k) ps h) m) e
