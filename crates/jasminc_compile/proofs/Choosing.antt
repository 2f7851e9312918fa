-- Which outcome is told, as far as a loop has come.
use Rattle.std.proofs.Common.{◌≡◌, ℕ, ◌+◌, ◌<◌, ◌≤◌, true, false, List, [], ◌∷◌, ◌++◌, length, map, get_or, take, Some, refl, sym, ap, ◌∙◌, subst, inl, inr}
use Rattle.std.specs.Prelude.{All, slice_get}
use Rattle.std.proofs.lemmas.Bool.{false≢true}
use Rattle.std.proofs.lemmas.List.{append_assoc, append-nil, map-append, take_more, take_all}
use Rattle.std.proofs.lemmas.List.Elements.{All-nil, All-cons, All-head, All-tail, All-push}
use Rattle.std.proofs.lemmas.Option.{slice_get_within, slice_get_read}
use Rattle.jz_listing.specs.declared.compiled.Compiled.{Compiled}
use Rattle.jasminc_compile.specs.declared.outcome.Outcome.{Outcome}
use Rattle.jasminc_compile.specs.declared.outcome.Outcome.TheVariants.{Made, Not}
use Rattle.jasminc_compile.specs.declared.outcome.Unmade.{Unmade}
use Rattle.jasminc_compile.specs.declared.outcome.Unmade.TheVariants as unmade
use Rattle.jasminc_compile.specs.declared.settling.Stage.{Stage}
use Rattle.jasminc_compile.specs.declared.settling.Stage.TheVariants as stage
use Rattle.jasminc_compile.specs.InnerSettling.{comes_to, IsNotAt, IsFirstAt, IsMadeOne, IsRefusal, IsFirstRefusal, IsFirstUnmade}

-- ---- the first of a stage
module _ (s : Stage) (os : List Outcome) (i : ℕ) (o : Outcome) (lt : i < length os) (ix : o ≡ get_or os i o) (before : All (IsNotAt s) (take i os)) where
  pub first_here : comes_to s o ≡ true → IsFirstAt s os i
  first_here e = by o (slice_get_read os (length os) i o refl lt ix) e
    where
      by : (x : Outcome) → slice_get os i ≡ Some x → comes_to s x ≡ true → IsFirstAt s os i
      by (Made c) there k = absurd (false≢true k)
      by (Not u) there k = record { unmade = u; there = there; here = k; earlier = before }

  pub not_here : comes_to s o ≡ false → All (IsNotAt s) (take (i + 1) os)
  not_here e =
      subst (All (IsNotAt s)) (sym (take_more os i o lt ∙ ap (λ x. take i os ++ x ∷ []) (sym ix)))
      (All-push (IsNotAt s) (take i os) o before e)

pub none_here : (s : Stage) (os : List Outcome) (i : ℕ) → length os ≤ i → All (IsNotAt s) (take i os) → All (IsNotAt s) os
none_here s os i le h = subst (All (IsNotAt s)) (take_all i os le) h

-- ---- of all stages
pub first_is_refusal : (os : List Outcome) (i : ℕ) → IsFirstRefusal os i → IsRefusal os i
first_is_refusal os i (inl h) = (h.unmade, h.there)
first_is_refusal os i (inr h) = (h.1.unmade, h.1.there)

made_one : (o : Outcome) → IsNotAt stage.Frame o → IsNotAt stage.Places o → IsMadeOne o
made_one (Made c) b d = tt
made_one (Not (unmade.Frame name)) b d = absurd (false≢true (sym b))
made_one (Not (unmade.NoPlace u)) b d = absurd (false≢true (sym d))

pub all_made_ones : (os : List Outcome) → All (IsNotAt stage.Frame) os → All (IsNotAt stage.Places) os → All IsMadeOne os
all_made_ones [] b d = All-nil IsMadeOne
all_made_ones (o ∷ os) b d =
    All-cons IsMadeOne o os (made_one o (All-head (IsNotAt stage.Frame) o os b) (All-head (IsNotAt stage.Places) o os d))
    (all_made_ones os (All-tail (IsNotAt stage.Frame) o os b) (All-tail (IsNotAt stage.Places) o os d))

pub refusal_below : (os : List Outcome) (i : ℕ) → IsRefusal os i → i < length os
refusal_below os i h = slice_get_within os i (Not h.0) h.1

-- what stands at a refusal is one
pub refusal_only : (os : List Outcome) (i : ℕ) (o : Outcome) → IsRefusal os i → slice_get os i ≡ Some o → (c : Compiled) → o ≡ Made c → ⊥
refusal_only os i o h there c e = let same : Some (Not h.0) ≡ Some (Made c) = sym h.1 ∙ there ∙ ap (λ (x : Outcome). Some x) e in absurd cc

pub first_unmade : (os : List Outcome) (i : ℕ) (u : Unmade) → IsFirstRefusal os i → slice_get os i ≡ Some (Not u) → IsFirstUnmade os u
first_unmade os i u h there = record { place = i; there = there; first = h }

-- ---- functions alone
pub record AreLeft (os : List Outcome) (cs : List Compiled) (rest : List Outcome) : Type 0 where
  pub all : map Made cs ++ rest ≡ os
  pub made : All IsMadeOne rest

pub next_made : (os : List Outcome) (cs : List Compiled) (rest : List Outcome) (o : Outcome) (c : Compiled) → AreLeft os cs (o ∷ rest) → o ≡ Made c → AreLeft os (cs ++ c ∷ []) rest
next_made os cs rest o c h e = record {
  all = ap (λ xs. xs ++ rest) (map-append Made cs (c ∷ [])) ∙ append_assoc (map Made cs) (Made c ∷ []) rest ∙ ap (λ x. map Made cs ++ x ∷ rest) (sym e) ∙ h.all;
  made = All-tail IsMadeOne o rest h.made;
}

pub one_made : (os : List Outcome) (cs : List Compiled) (rest : List Outcome) (o : Outcome) → AreLeft os cs (o ∷ rest) → IsMadeOne o
one_made os cs rest o h = All-head IsMadeOne o rest h.made

pub all_left : (os : List Outcome) (cs : List Compiled) → AreLeft os cs [] → os ≡ map Made cs
all_left os cs h = sym h.all ∙ append-nil (map Made cs)
