-- The first unknown name, part by part.
use Rattle.std.proofs.Common.{◌≡◌, ℕ, List, [], ◌∷◌, ◌++◌, Option, Some, map, flat_map, refl, sym, ap, ap₂, ◌∙◌}
use Rattle.jz_tree.specs.Span.{Span}
use Rattle.std.specs.Prelude.{option_map, find}
use Rattle.std.specs.Str.{bytes_eq}
use Rattle.std.proofs.Common.{cond, true, false}
use Rattle.std.proofs.Math.Path.{fun_ext}
use Rattle.jz_tree.specs.declared.stmt.Stmt.{Stmt}
use Rattle.jz_tree.specs.declared.program.Const.{Const}
use Rattle.jz_tree.specs.declared.program.Fun.{Fun}
use Rattle.jz_tree.specs.declared.program.Program.{Program}
use Rattle.jz_type_names.specs.declared.tables.Places.{Places}
use Rattle.jz_type_names.specs.declared.tables.Functions.{Functions}
use Rattle.jz_type_names.specs.Order.{earlier, earliest, first_in}
use Rattle.jz_type_names.specs.Scopes.{Name, name_of, places_of, or_values, variables_of, variable_place, constant_place, function_named}
use Rattle.jz_type_names.specs.Parts.{Layer, read_by, called_by, layer_of, statements_of, names_in, arrays_in}
use Rattle.jz_type_names.specs.Names.{one_unknown, no_function, unknown_among, unknown_where, variables_wanted, length_names, variables_outside, outside_where, fun_where, unknown_value, unknown_in_constant, unknown_in}
use Rattle.jz_type_names.specs.Tables.{IsPlaces, IsFunctions, place_in, function_in, first_place}
use Rattle.jz_type_names.proofs.Earliest.{earlier-assoc, first_over, both_earliest}

pub where_is : (values variables : List ℕ → Option Span) (functions : List ℕ → Option Fun) (k : Layer) (r s c : Option Span)
    → r ≡ first_in (one_unknown values) (read_by k) → s ≡ first_in (one_unknown variables) (variables_wanted functions k)
    → c ≡ earliest (flat_map (no_function functions) (called_by k))
    → earlier r (earlier s c) ≡ earliest (unknown_where values variables functions k)
where_is values variables functions k r s c a b d =
    let read = unknown_among values (read_by k)
    in let set = unknown_among variables (variables_wanted functions k)
    in let called = flat_map (no_function functions) (called_by k)
    in sym (earlier-assoc r s c)
    ∙ both_earliest (read ++ set) called (earlier r s) c
    (both_earliest read set r s (a ∙ first_over (one_unknown values) (read_by k)) (b ∙ first_over (one_unknown variables) (variables_wanted functions k))) d

pub outside_is : (values variables : List ℕ → Option Span) (f : Fun) (r s : Option Span)
    → r ≡ first_in (one_unknown values) (length_names f) → s ≡ first_in (one_unknown variables) (variables_outside f)
    → earlier r s ≡ earliest (outside_where values variables f)
outside_is values variables f r s a b =
    both_earliest (unknown_among values (length_names f)) (unknown_among variables (variables_outside f)) r s
    (a ∙ first_over (one_unknown values) (length_names f)) (b ∙ first_over (one_unknown variables) (variables_outside f))

pub fun_is : (constants : List ℕ → Option Span) (functions : List ℕ → Option Fun) (variables : List ℕ → Option Span) (f : Fun) (o b : Option Span)
    → variables ≡ variable_place f
    → o ≡ earliest (outside_where (or_values constants variables) variables f)
    → b ≡ first_in (λ s. unknown_where (or_values constants variables) variables functions (layer_of s)) (statements_of f.body)
    → earlier o b ≡ earliest (fun_where (or_values constants (variable_place f)) (variable_place f) functions f)
fun_is constants functions variables f o b e h k =
    let each : Stmt → List Span = λ s. unknown_where (or_values constants variables) variables functions (layer_of s)
    in both_earliest (outside_where (or_values constants variables) variables f) (flat_map each (statements_of f.body)) o b h (k ∙ first_over each (statements_of f.body))
    ∙ ap (λ v. earliest (fun_where (or_values constants v) v functions f)) e

pub constant_is : (constants : List ℕ → Option Span) (c : Const) (r i : Option Span)
    → r ≡ first_in (unknown_value constants c.span) (names_in c.value) → i ≡ earliest (places_of (arrays_in c.value))
    → earlier r i ≡ earliest (unknown_in_constant constants c)
unfolding unknown_in_constant
constant_is constants c r i a b =
    both_earliest (flat_map (unknown_value constants c.span) (names_in c.value)) (places_of (arrays_in c.value)) r i
    (a ∙ first_over (unknown_value constants c.span) (names_in c.value)) b

pub program_is : (p : Program) (constants : List ℕ → Option Span) (functions : List ℕ → Option Fun) (a b : Option Span)
    → constants ≡ constant_place p.consts → functions ≡ (λ n. function_named n p.funs)
    → a ≡ first_in (unknown_in_constant constants) p.consts
    → b ≡ first_in (λ f. fun_where (or_values constants (variable_place f)) (variable_place f) functions f) p.funs
    → earlier a b ≡ earliest (unknown_in p)
program_is p constants functions a b e g h k =
    let ahead : Const → List Span = unknown_in_constant constants
    in let after : (List ℕ → Option Span) → (List ℕ → Option Fun) → Fun → List Span = λ cs fs f. fun_where (or_values cs (variable_place f)) (variable_place f) fs f
    in both_earliest (flat_map ahead p.consts) (flat_map (after constants functions) p.funs) a b (h ∙ first_over ahead p.consts) (k ∙ first_over (after constants functions) p.funs)
    ∙ ap₂ (λ cs fs. earliest (flat_map (unknown_in_constant cs) p.consts ++ flat_map (after cs fs) p.funs)) e g

module _ {X : Type 0} (name : X → Name) where
  first_map : (n : List ℕ) (xs : List X) → first_place n (map name xs) ≡ option_map (λ x. (name x).1) (find (λ x. bytes_eq n (name x).0) xs)
  first_map n [] = refl
  first_map n (x ∷ xs) =
      elim (bytes_eq n (name x).0) as (λ b. option_map (λ m. m.1) (cond b (Some (name x)) (find (λ m. bytes_eq n m.0) (map name xs)))
      ≡ option_map (λ x. (name x).1) (cond b (Some x) (find (λ x. bytes_eq n (name x).0) xs)))
      [ true ↦ refl | false ↦ first_map n xs ]

pub variables_are : (t : Places) (f : Fun) → IsPlaces t (map name_of (variables_of f)) → place_in t ≡ variable_place f
variables_are t f h = fun_ext (λ n. h.first n ∙ first_map name_of n (variables_of f))

pub constants_are : (t : Places) (cs : List Const) → IsPlaces t (map (λ c. (c.name, c.span)) cs) → place_in t ≡ constant_place cs
constants_are t cs h = fun_ext (λ n. h.first n ∙ first_map (λ c. (c.name, c.span)) n cs)

pub functions_are : (t : Functions) (fs : List Fun) → IsFunctions t fs → function_in t ≡ (λ n. function_named n fs)
functions_are t fs h = fun_ext (λ n. h.named n)
