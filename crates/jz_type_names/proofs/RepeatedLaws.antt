-- The earliest place of a name decides what stands before it.
use Rattle.std.proofs.Common.{◌≡◌, ℕ, true, false, not, ◌&&◌, ◌||◌, List, [], ◌∷◌, Option, Some, None, map, filter, flat_map, refl, sym, ap, ◌∙◌, arith}
use Rattle.std.specs.Prelude.{if◌then◌else◌}
use Rattle.std.specs.Str.{bytes_eq}
use Rattle.std.proofs.lemmas.Bool.Decides.{nat_tests}
use Rattle.std.proofs.Math.Path.{fun_ext}
use Rattle.jz_tree.specs.Span.{Span}
use Rattle.jz_tree.specs.declared.stmt.Stmt.{Stmt}
use Rattle.jz_tree.specs.declared.program.Fun.{Fun}
use Rattle.jz_tree.specs.declared.program.Program.{Program}
use Rattle.jz_type_names.specs.declared.tables.Places.{Places}
use Rattle.jz_type_names.specs.Order.{is_before, unless, earlier, earliest, first_in}
use Rattle.jz_type_names.specs.Scopes.{Name, name_of, places_of, variables_of}
use Rattle.jz_type_names.specs.Parts.{layer_of, statements_of}
use Rattle.jz_type_names.specs.Names.{stands_above, named_before, one_repeated, repeated_places, repeated_by, repeated_in_fun, repeated_in, top_names}
use Rattle.jz_type_names.specs.Tables.{IsEarliestPlaces, places_named}
use Rattle.jz_type_names.specs.InnerTables.{one_repeated_in}
use Rattle.jz_type_names.proofs.Earliest.{first_over, both_earliest}

earlier_above : (a b : Option Span) (s : Span) → stands_above (earlier a b) s ≡ (stands_above a s || stands_above b s)
earlier_above None b s = refl
earlier_above (Some x) None s = grind (arith, nat_tests)
earlier_above (Some x) (Some y) s = grind (arith, nat_tests)

before_is : (ds : List Name) (n : List ℕ) (s : Span) → named_before ds (n, s) ≡ stands_above (earliest (places_named n ds)) s
before_is [] n s = refl
before_is (d ∷ ds) n s =
    let ih = before_is ds n s in
    elim (bytes_eq n d.0) as (λ b. ((b && is_before d.1 s) || named_before ds (n, s)) ≡ stands_above (earliest (places_of (if b then (d ∷ filter (λ e. bytes_eq n e.0) ds) else filter (λ e. bytes_eq n e.0) ds))) s) [
      | true ↦ ap (λ b. is_before d.1 s || b) ih ∙ sym (earlier_above (Some d.1) (earliest (places_named n ds)) s)
      | false ↦ ih
    ]

one_is : (t : Places) (ns : List Name) → IsEarliestPlaces t ns → (n : Name) → one_repeated_in t n ≡ one_repeated ns n
unfolding one_repeated_in one_repeated
one_is t ns h n = ap (λ b. unless (not b) n.1) (ap (λ o. stands_above o n.1) (h.earliest n.0) ∙ sym (before_is ns n.0 n.1))

pub repeated_is : (t : Places) (ns : List Name) → IsEarliestPlaces t ns → first_in (one_repeated_in t) ns ≡ earliest (repeated_places ns)
repeated_is t ns h = ap (λ f. first_in f ns) (fun_ext (one_is t ns h)) ∙ first_over (one_repeated ns) ns

pub in_fun_is : (f : Fun) (a b : Option Span) → a ≡ earliest (repeated_places (map name_of (variables_of f)))
    → b ≡ first_in (λ s. repeated_by (layer_of s)) (statements_of f.body) → earlier a b ≡ earliest (repeated_in_fun f)
in_fun_is f a b h k =
    let each : Stmt → List Span = λ s. repeated_by (layer_of s)
    in both_earliest (repeated_places (map name_of (variables_of f))) (flat_map each (statements_of f.body)) a b h (k ∙ first_over each (statements_of f.body))

pub in_program_is : (p : Program) (a b : Option Span) → a ≡ earliest (repeated_places (top_names p)) → b ≡ first_in repeated_in_fun p.funs
    → earlier a b ≡ earliest (repeated_in p)
in_program_is p a b h k =
    both_earliest (repeated_places (top_names p)) (flat_map repeated_in_fun p.funs) a b h (k ∙ first_over repeated_in_fun p.funs)
