-- What is found in a function's entries, joined.
use Rattle.std.proofs.Common.{◌≡◌, ℕ, Bool, true, false, if◌then◌else◌, ◌<◌, ◌+◌, List, [], ◌∷◌, ◌++◌, length, drop, get_or, flat_map, Option, Some, None, refl, sym, ap, ◌∙◌, append_assoc}
use Rattle.std.specs.List.{filter_map, cons_option}
use Rattle.std.proofs.Math.Path.{fun_ext}
use Rattle.std.proofs.lemmas.List.{drop_more}
use Rattle.jz_tree.specs.Span.{Span}
use Rattle.jz_tree.specs.declared.program.Fun.{Fun}
use Rattle.jz_type_names.specs.Order.{is_before, earlier, earliest, first_in}
use Rattle.jz_type_names.proofs.Earliest.{earlier-assoc, both_earliest, first_over}
use Rattle.jz_preconditions.specs.declared.stated.Stated.{Stated}
use Rattle.jz_preconditions.specs.declared.table.Table.{Table}
use Rattle.jz_preconditions.specs.Naming.{parameters_of}
use Rattle.jz_preconditions.specs.Stating.{stated_in, some_of, bounds_of}
use Rattle.jz_preconditions.specs.Refusals.{shapeless_places, empty_places, repeated_after, valueless_places, far_in, refused_in, refused_places}
use Rattle.jz_preconditions.specs.InnerTables.{parameter_in, seen_in, IsTable}
use Rattle.jz_preconditions.proofs.Tabled.{seen_is}

-- one item more
pub first_next : {A : Type 0} (g : A → List Span) (xs : List A) (i : ℕ) (x : A) (best own next all : Option Span)
    → i < length xs → x ≡ get_or xs i x → own ≡ earliest (g x) → next ≡ earlier best own
    → earlier best (first_in g (drop i xs)) ≡ all → earlier next (first_in g (drop (i + 1) xs)) ≡ all
first_next g xs i x best own next all lt is found joined held =
    let rest : Option Span = first_in g (drop (i + 1) xs) in
    let split : first_in g (drop i xs) ≡ earlier (earliest (g x)) rest = ap (first_in g) (drop_more xs i x lt ∙ ap (λ y. y ∷ drop (i + 1) xs) (sym is)) in
    ap (λ y. earlier y rest) (joined ∙ ap (earlier best) found) ∙ (earlier-assoc best (earliest (g x)) rest ∙ (ap (earlier best) (sym split) ∙ held))

some_then : {A : Type 0} (o : Option A) (rest : List A) → some_of o ++ rest ≡ cons_option o rest
some_then None rest = refl
some_then (Some a) rest = refl

-- one that is kept, or none
pub kept_next : {A B : Type 0} (f : A → Option B) (xs : List A) (i : ℕ) (x : A) (out new whole : List B) (o : Option B)
    → i < length xs → x ≡ get_or xs i x → o ≡ f x → new ≡ out ++ some_of o
    → out ++ filter_map f (drop i xs) ≡ whole → new ++ filter_map f (drop (i + 1) xs) ≡ whole
kept_next f xs i x out new whole o lt is found joined held =
    let rest = filter_map f (drop (i + 1) xs) in
    let split : filter_map f (drop i xs) ≡ cons_option (f x) rest = ap (filter_map f) (drop_more xs i x lt ∙ ap (λ y. y ∷ drop (i + 1) xs) (sym is)) in
    ap (λ z. z ++ rest) joined ∙ append_assoc out (some_of o) rest
    ∙ ap (λ z. out ++ z) (some_then o rest ∙ ap (λ z. cons_option z rest) found ∙ sym split)
    ∙ held

-- ---- all of a function
pub earliest_none : (xs : List Span) → None ≡ earliest xs → xs ≡ []
earliest_none [] e = refl
earliest_none (x ∷ xs) e = absurd (some_earlier x (earliest xs) (sym e))
  where
    is_some_then : Option Span → Bool
    is_some_then None = false
    is_some_then (Some y) = true

    some_either : (b : Bool) (x y : Span) → is_some_then (if b then Some y else Some x) ≡ true
    some_either true x y = refl
    some_either false x y = refl

    some_earlier : (x : Span) (o : Option Span) → earlier (Some x) o ≡ None → ⊥
    some_earlier x None e = let no : true ≡ false = ap is_some_then e in cc
    some_earlier x (Some y) e = let no : true ≡ false = sym (some_either (is_before y x) x y) ∙ ap is_some_then e in cc

pub stated_is : (f : Fun) (t : Table) (ss : List Stated) → IsTable t (parameters_of f) [] → ss ≡ stated_in (parameter_in t.parameters) f.notes → ss ≡ stated_in (parameters_of f) f.notes
stated_is f t ss h e = e ∙ ap (λ p. stated_in p f.notes) (fun_ext h.parameter)

pub refused_is : (f : Fun) (t new : Table) (ss : List Stated) (shapeless empty repeated early first valueless late far whole : Option Span)
    → IsTable t (parameters_of f) [] → ss ≡ stated_in (parameters_of f) f.notes → IsTable new (parameters_of f) ss
    → shapeless ≡ first_in (shapeless_places (parameter_in t.parameters)) f.notes → empty ≡ first_in empty_places ss
    → repeated ≡ earliest (repeated_after (parameters_of f) [] ss)
    → valueless ≡ first_in (valueless_places (seen_in new)) ss → far ≡ earliest (far_in (seen_in new) ss)
    → first ≡ earlier shapeless empty → early ≡ earlier first repeated → late ≡ earlier early valueless → whole ≡ earlier late far
    → whole ≡ earliest (refused_places f)
refused_is f t new ss shapeless empty repeated early first valueless late far whole h e k a b c d g j1 j2 j3 j4 =
    let ps = parameters_of f in
    let seen = seen_is new ps ss k in
    let A : List Span = flat_map (shapeless_places ps) f.notes in
    let B : List Span = flat_map empty_places ss in
    let C : List Span = repeated_after ps [] ss in
    let D : List Span = flat_map (valueless_places (bounds_of ps ss)) ss in
    let E : List Span = far_in (bounds_of ps ss) ss in
    let a' : shapeless ≡ earliest A = a ∙ ap (λ p. first_in (shapeless_places p) f.notes) (fun_ext h.parameter) ∙ first_over (shapeless_places ps) f.notes in
    let b' : empty ≡ earliest B = b ∙ first_over empty_places ss in
    let d' : valueless ≡ earliest D = d ∙ ap (λ z. first_in (valueless_places z) ss) seen ∙ first_over (valueless_places (bounds_of ps ss)) ss in
    let g' : far ≡ earliest E = g ∙ ap (λ z. earliest (far_in z ss)) seen in
    let k1 : first ≡ earliest (A ++ B) = j1 ∙ both_earliest A B shapeless empty a' b' in
    let k2 : early ≡ earliest (A ++ B ++ C) = j2 ∙ both_earliest (A ++ B) C first repeated k1 c in
    let k3 : late ≡ earliest (A ++ B ++ C ++ D) = j3 ∙ both_earliest (A ++ B ++ C) D early valueless k2 d' in
    j4 ∙ both_earliest (A ++ B ++ C ++ D) E late far k3 g'
    ∙ ap (λ z. earliest (refused_in ps f.notes z)) e
