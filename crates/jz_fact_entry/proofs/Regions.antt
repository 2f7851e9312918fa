-- The regions that preconditions declare are there at entry.
use Rattle.std.proofs.Common.{◌≡◌, ℕ, ◌+◌, ◌*◌, ◌≤◌, ◌<◌, ◌^◌, List, [], ◌∷◌, ◌++◌, map, flat_map, Option, Some, None, refl, sym, ap, ◌∙◌, subst, arith}
use Rattle.std.specs.Prelude.{All, IsSome}
use Rattle.std.specs.FinMap.{get}
use Rattle.std.proofs.lemmas.List.Elements.{All-nil, All-cons, All-head, All-tail}
use Rattle.x64_insn.specs.Memory.{Memory}
use Rattle.jz_tree.specs.declared.expr.Var.{Var}
use Rattle.jz_tree.specs.declared.program.Param.{Param}
use Rattle.jz_type_names.specs.Scopes.{text_of_param, variable_named}
use Rattle.jz_annotations.specs.declared.precondition.Pre.{Pre}
use Rattle.jz_annotations.specs.declared.precondition.Pre.TheVariants.{Region, Range, Align}
use Rattle.jz_preconditions.specs.Meeting as meeting
use Rattle.jz_preconditions.specs.Meeting.{ByteRange, word_named, word_if_named, extent, region_at}
use Rattle.jz_meaning.specs.States.{Key, Store}
use Rattle.jz_layers.specs.Spots.{variable_key}
use Rattle.jz_facts.specs.Facts as facts
use Rattle.jz_fact_sets.specs.declared.given.Region as given
use Rattle.jz_fact_sets.specs.Kept as kept
use Rattle.jz_given.specs.Giving.{variables, named_if, region_from, region_of}
use Rattle.jz_standing.specs.Standing.{length_of, IsValid, AreValid}
use Rattle.jz_fact_entry.specs.Entry.{entry_of, number_of}
use Rattle.jz_fact_entry.proofs.Words.{AllFit, Found, found, not_found}

-- a region ends at 2 ^ 64 or before, and its bytes are valid
pub record IsThere (m : Memory) (r : ByteRange) : Type 0 where
  pub ends : r.from + r.count ≤ 2 ^ 64
  pub bytes : (i : ℕ) → i < r.count → IsSome (get m (r.from + i))

none_added : (c : ℕ) → c ≡ 0 + c
none_added c = omega arith

module _ (ps : List Param) (words : List ℕ) (store : Store) (m : Memory) (fit : AllFit store (map text_of_param ps) words ps) where
  abbrev names : List (List ℕ)
  names = map text_of_param ps

  abbrev entry : Key → ℕ
  entry = entry_of store

  abbrev Named : List ℕ → Var → Type 0
  Named n x = Found store names words n x

  entry_is : (n : List ℕ) (x : Var) (f : Named n x) → entry (variable_key x) ≡ f.fits.bits
  entry_is n x f = ap (λ y. entry (variable_key y)) f.is ∙ ap number_of f.fits.held

  -- how many bytes, by the parameter that is named
  length_is : (x : Var) (factor constant : ℕ) (v : Option (List ℕ)) (o : Option Var) → named_if v (variables ps) ≡ o
      → extent factor (word_if_named names words v) constant ≡ length_of entry (kept.region_of (record { of = x; times = factor; by = o; plus = constant }))
  length_is x factor constant None None e = none_added constant
  length_is x factor constant None (Some y) e = absurd cc
  length_is x factor constant (Some n) None e = ap (λ w. extent factor w constant) (not_found n ps words e) ∙ none_added constant
  length_is x factor constant (Some n) (Some y) e =
      let f = found store names words n ps fit y e in
      ap (λ w. extent factor w constant) f.word_is ∙ ap (λ w. factor * w + constant) (sym (entry_is n y f))

  one_valid : (n : List ℕ) (factor constant : ℕ) (v : Option (List ℕ)) (x : Var) (f : Named n x)
      → All (IsThere m) (region_at (word_named names words n) (extent factor (word_if_named names words v) constant))
      → IsValid entry m (kept.region_of (record { of = x; times = factor; by = named_if v (variables ps); plus = constant }))
  one_valid n factor constant v x f h =
      let r : ByteRange = record { from = f.fits.bits; count = extent factor (word_if_named names words v) constant } in
      let t = All-head (IsThere m) r [] (subst (λ w. All (IsThere m) (region_at w (extent factor (word_if_named names words v) constant))) f.word_is h) in
      let from = entry_is n x f in
      let count = length_is x factor constant v (named_if v (variables ps)) refl in
      record {
        ends = subst (λ a. a + length_of entry (kept.region_of (record { of = x; times = factor; by = named_if v (variables ps); plus = constant })) ≤ 2 ^ 64) (sym from) (subst (λ c. f.fits.bits + c ≤ 2 ^ 64) count t.ends);
        bytes = λ i lt. subst (λ a. IsSome (get m (a + i))) (sym from) (t.bytes i (subst (λ c. i < c) (sym count) lt));
      }

  abbrev kept_of : List given.Region → List facts.Region
  kept_of rs = map kept.region_of rs

  -- one region, or none, before others
  behind_one : (w : Option ℕ) (count : ℕ) (rs : List ByteRange) → All (IsThere m) (region_at w count ++ rs) → All (IsThere m) rs
  behind_one None count rs h = h
  behind_one (Some f) count rs h = All-tail (IsThere m) (record { from = f; count = count }) rs h

  the_one : (w : Option ℕ) (count : ℕ) (rs : List ByteRange) → All (IsThere m) (region_at w count ++ rs) → All (IsThere m) (region_at w count)
  the_one None count rs h = All-nil (IsThere m)
  the_one (Some f) count rs h = All-cons (IsThere m) (record { from = f; count = count }) [] (All-head (IsThere m) (record { from = f; count = count }) rs h) (All-nil (IsThere m))

  from_valid : (n : List ℕ) (factor constant : ℕ) (v : Option (List ℕ)) (o : Option Var) → variable_named n (variables ps) ≡ o
      → All (IsThere m) (region_at (word_named names words n) (extent factor (word_if_named names words v) constant))
      → (more : List given.Region) → AreValid entry m (kept_of more)
      → AreValid entry m (kept_of (region_from o factor (named_if v (variables ps)) constant ++ more))
  from_valid n factor constant v None e h more k = k
  from_valid n factor constant v (Some x) e h more k = (one_valid n factor constant v x (found store names words n ps fit x e) h, k)

  pub all_valid : (pres : List Pre) → All (IsThere m) (flat_map (meeting.region_of names words) pres) → AreValid entry m (kept_of (flat_map (region_of (variables ps)) pres))
  all_valid [] h = tt
  all_valid (Region n factor v constant ∷ pres) h =
      let w : Option ℕ = word_named names words n in
      let count : ℕ = extent factor (word_if_named names words v) constant in
      let rest : List ByteRange = flat_map (meeting.region_of names words) pres in
      from_valid n factor constant v (variable_named n (variables ps)) refl (the_one w count rest h) (flat_map (region_of (variables ps)) pres) (all_valid pres (behind_one w count rest h))
  all_valid (Range x low high ∷ pres) h = all_valid pres h
  all_valid (Align x k ∷ pres) h = all_valid pres h
