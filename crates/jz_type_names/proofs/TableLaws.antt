-- One item more in a table by names.
use Rattle.std.proofs.Common.{◌≡◌, ℕ, Bool, true, false, List, [], ◌∷◌, ◌++◌, Option, Some, None, refl, sym, ap, ◌∙◌, cond, subst, filter}
use Rattle.std.specs.Prelude.{if◌then◌else◌, is_some, option_map, find}
use Rattle.std.specs.Str.{bytes_eq}
use Rattle.std.proofs.Math.Path.{fun_ext}
use Rattle.std.specs.Option.{option_or}
use Rattle.jz_tree.proofs.Texts.{bytes_eq-sym, bytes_eq-true}
use Rattle.jz_tree.specs.Span.{Span}
use Rattle.jz_type_names.specs.Order.{earlier, earliest}
use Rattle.jz_type_names.specs.Scopes.{Name, places_of, or_named}
use Rattle.jz_type_names.specs.Tables.{places_named}
use Rattle.jz_type_names.proofs.Earliest.{earliest-append, earlier-none}

or_nothing : {A : Type 0} (a : Option A) → option_or a None ≡ a
or_nothing None = refl
or_nothing (Some a) = refl

module _ {A : Type 0} (old : List ℕ → Option A) (name : List ℕ) (a : A) where
  pub named_anew : (new : List ℕ → Option A) → old name ≡ None → ((q : List ℕ) → new q ≡ cond (bytes_eq name q) (Some a) (old q)) → new ≡ or_named old name (Some a)
  named_anew new free put =
      let split : (q : List ℕ) (b : Bool) → bytes_eq q name ≡ b → cond b (Some a) (old q) ≡ option_or (old q) (if b then Some a else None) =
      λ q b. elim b as (λ b. bytes_eq q name ≡ b → cond b (Some a) (old q) ≡ option_or (old q) (if b then Some a else None)) [
        | true ↦ λ e. ap (λ o. option_or o (Some a)) (sym (ap old (bytes_eq-true q name e) ∙ free))
        | false ↦ λ e. sym (or_nothing (old q))
      ]
      in fun_ext (λ q. put q ∙ ap (λ b. cond b (Some a) (old q)) (bytes_eq-sym name q) ∙ split q (bytes_eq q name) refl)

  some_stays : (o w : Option A) → is_some o ≡ true → o ≡ option_or o w
  some_stays None w h = cc
  some_stays (Some b) w h = refl

  pub named_before : is_some (old name) ≡ true → old ≡ or_named old name (Some a)
  named_before there =
      let split : (q : List ℕ) (b : Bool) → bytes_eq q name ≡ b → old q ≡ option_or (old q) (if b then Some a else None) =
      λ q b. elim b as (λ b. bytes_eq q name ≡ b → old q ≡ option_or (old q) (if b then Some a else None)) [
        | true ↦ λ e. some_stays (old q) (Some a) (ap (λ m. is_some (old m)) (bytes_eq-true q name e) ∙ there)
        | false ↦ λ e. sym (or_nothing (old q))
      ]
      in fun_ext (λ q. split q (bytes_eq q name) refl)

-- ---- the first of a list
module _ {X W : Type 0} (name : X → List ℕ) (value : X → W) where
  abbrev named_in : List X → List ℕ → Option W
  named_in xs n = option_map value (find (λ x. bytes_eq n (name x)) xs)

  last_named : (xs : List X) (x : X) (n : List ℕ) → named_in (xs ++ x ∷ []) n ≡ or_named (named_in xs) (name x) (Some (value x)) n
  last_named [] x n = elim (bytes_eq n (name x)) as (λ b. option_map value (cond b (Some x) None) ≡ (if b then Some (value x) else None)) [ true ↦ refl | false ↦ refl ]
  last_named (y ∷ xs) x n =
      elim (bytes_eq n (name y))
      as (λ b. option_map value (cond b (Some y) (find (λ x. bytes_eq n (name x)) (xs ++ x ∷ [])))
      ≡ option_or (option_map value (cond b (Some y) (find (λ x. bytes_eq n (name x)) xs))) (if bytes_eq n (name x) then Some (value x) else None))
      [ true ↦ refl | false ↦ last_named xs x n ]

  pub table_more : (xs : List X) (x : X) (old new : List ℕ → Option W) → ((n : List ℕ) → old n ≡ named_in xs n) → new ≡ or_named old (name x) (Some (value x))
      → (n : List ℕ) → new n ≡ named_in (xs ++ x ∷ []) n
  table_more xs x old new held e n =
      ap (λ t. t n) e ∙ (ap (λ o. option_or o (if bytes_eq n (name x) then Some (value x) else None)) (held n) ∙ sym (last_named xs x n))

-- ---- items that a table shows by references to them
shown : {A B : Type 0} (show : A → B) (o : Option A) (b : Bool) (a : A) → option_map show (option_or o (if b then Some a else None)) ≡ option_or (option_map show o) (if b then Some (show a) else None)
shown show None true a = refl
shown show None false a = refl
shown show (Some w) b a = refl

option_whole : {A : Type 0} (o : Option A) → option_map (λ a. a) o ≡ o
option_whole None = refl
option_whole (Some a) = refl

pub table_shown : {X W : Type 0} (name : X → List ℕ) (show : W → X) (xs : List X) (old new : List ℕ → Option W) (item : W)
    → ((n : List ℕ) → option_map show (old n) ≡ find (λ x. bytes_eq n (name x)) xs) → new ≡ or_named old (name (show item)) (Some item)
    → (n : List ℕ) → option_map show (new n) ≡ find (λ x. bytes_eq n (name x)) (xs ++ show item ∷ [])
table_shown name show xs old new item held e n =
    table_more name (λ x. x) xs (show item) (λ n. option_map show (old n)) (λ n. option_map show (new n)) (λ n. held n ∙ sym (option_whole _))
    (fun_ext (λ n. ap (λ t. option_map show (t n)) e ∙ shown show (old n) (bytes_eq n (name (show item))) item)) n
    ∙ option_whole _

-- ---- the earliest of a list
places_more : (n k : List ℕ) (s : Span) (ds : List Name) → places_named n (ds ++ (k, s) ∷ []) ≡ places_named n ds ++ (if bytes_eq n k then s ∷ [] else [])
places_more n k s [] = elim (bytes_eq n k) as (λ b. places_of (if b then (k, s) ∷ [] else []) ≡ (if b then s ∷ [] else [])) [ true ↦ refl | false ↦ refl ]
places_more n k s (d ∷ ds) =
    let ih = places_more n k s ds in
    let rest = filter (λ e. bytes_eq n e.0) (ds ++ (k, s) ∷ []) in
    let old = filter (λ e. bytes_eq n e.0) ds in
    elim (bytes_eq n d.0) as (λ b. places_of (if b then d ∷ rest else rest) ≡ places_of (if b then d ∷ old else old) ++ (if bytes_eq n k then s ∷ [] else []))
    [ true ↦ ap (λ ss. d.1 ∷ ss) ih | false ↦ ih ]

pub earliest_more : (old new : List ℕ → Option Span) (ds : List Name) (k : List ℕ) (s first : Span) → ((n : List ℕ) → old n ≡ earliest (places_named n ds))
    → Some first ≡ earlier (old k) (Some s) → ((q : List ℕ) → new q ≡ cond (bytes_eq k q) (Some first) (old q))
    → (n : List ℕ) → new n ≡ earliest (places_named n (ds ++ (k, s) ∷ []))
earliest_more old new ds k s first h e u n =
    let goal : Bool → Type 0 = λ b. cond b (Some first) (old n) ≡ earlier (old n) (earliest (if b then s ∷ [] else [])) in
    let split : (b : Bool) → bytes_eq k n ≡ b → goal b =
    λ b. elim b as (λ b. bytes_eq k n ≡ b → goal b) [ true ↦ λ d. subst (λ m. Some first ≡ earlier (old m) (Some s)) (bytes_eq-true k n d) e | false ↦ λ d. sym (earlier-none (old n)) ] in
    let one : cond (bytes_eq k n) (Some first) (old n) ≡ earlier (old n) (earliest (if bytes_eq k n then s ∷ [] else [])) = split (bytes_eq k n) refl in
    u n ∙ (one ∙ (ap (λ b. earlier (old n) (earliest (if b then s ∷ [] else []))) (bytes_eq-sym k n)
    ∙ (ap (λ o. earlier o (earliest (if bytes_eq n k then s ∷ [] else []))) (h n)
    ∙ (sym (earliest-append (places_named n ds) (if bytes_eq n k then s ∷ [] else [])) ∙ ap earliest (sym (places_more n k s ds))))))
