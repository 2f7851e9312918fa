-- What is secret and what is broken, by readings.
use Rattle.std.proofs.Common.{◌≡◌, Bool, true, false, List, [], ◌∷◌, ◌++◌, Option, Some, None, if◌then◌else◌, refl, sym, ap, ◌∙◌}
use Rattle.jz_tree.specs.Span.{Span}
use Rattle.jz_tree.specs.declared.expr.BinOp.TheVariants.{Add}
use Rattle.jz_tree.specs.Operators.{divides}
use Rattle.jz_meaning.specs.Values.{Ref, key_of}
use Rattle.jz_terms.specs.Terms.{Term, num, truth, var, cell, load, neg, inv, cast, bin}
use Rattle.jz_labels.specs.Operations.{Left, nothing, scalar, element, bytes, Plain}
use Rattle.jz_labels.specs.Labels.{Publics, Secret, first, is_none, unless_public, secret_in, secret_in_each, gives_public}
use Rattle.jz_labels.specs.Required.{Reason, Address, Branch, Divide, breach_at, begin_of, breach_in_place, breach_of, breach_in, breach_in_each, breach_in_division, breach_in_left, breach_in_lefts, breach_in_operation, breach_in_test}
use Rattle.jz_required.specs.Readings.{Origin, of_array, Demand, Reading, demands_at, place_demands, divided, reading, all_readings, division_reading, right_reading, left_demands, test_demands, is_public, secret_unless, first_secret, demand_breach, first_breach}

pub first_apart : {A : Type 0} (x y z : Option A) → first (first x y) z ≡ first x (first y z)
first_apart None y z = refl
first_apart (Some a) y z = refl

pub first_none : {A : Type 0} (x : Option A) → first x None ≡ x
first_none None = refl
first_none (Some a) = refl

at_first : (at : Span) (why : Reason) (x y : Option Secret) → breach_at at why (first x y) ≡ first (breach_at at why x) (breach_at at why y)
at_first at why None y = refl
at_first at why (Some a) y = refl

unless_is : (c : Bool) (x : Ref) → unless_public c x ≡ secret_unless c (of_array (key_of x))
unless_is true x = refl
unless_is false x = refl

module _ (arrays s : Publics) where
  pub secrets_both : (os ps : List Origin) → first_secret arrays s (os ++ ps) ≡ first (first_secret arrays s os) (first_secret arrays s ps)
  secrets_both [] ps = refl
  secrets_both (o ∷ os) ps = ap (first (secret_unless (is_public arrays s o) o)) (secrets_both os ps) ∙ sym (first_apart (secret_unless (is_public arrays s o) o) (first_secret arrays s os) (first_secret arrays s ps))

  pub breaches_both : (ds es : List Demand) → first_breach arrays s (ds ++ es) ≡ first (first_breach arrays s ds) (first_breach arrays s es)
  breaches_both [] es = refl
  breaches_both (d ∷ ds) es =
      ap (first (demand_breach (is_public arrays s d.origin) d)) (breaches_both ds es) ∙ sym (first_apart (demand_breach (is_public arrays s d.origin) d) (first_breach arrays s ds) (first_breach arrays s es))

  pub demanded : (at : Span) (why : Reason) (os : List Origin) → first_breach arrays s (demands_at at why os) ≡ breach_at at why (first_secret arrays s os)
  demanded at why [] = refl
  demanded at why (o ∷ os) =
      ap (first (breach_at at why (secret_unless (is_public arrays s o) o))) (demanded at why os) ∙ sym (at_first at why (secret_unless (is_public arrays s o) o) (first_secret arrays s os))

  pub secret_is : (t : Term) → secret_in arrays s t ≡ first_secret arrays s (reading t).origins
  secret_is (num i at) = refl
  secret_is (truth b at) = refl
  secret_is (var x) = by (s (key_of x))
    where
      by : (c : Bool) → unless_public c x ≡ first (secret_unless c (of_array (key_of x))) None
      by true = refl
      by false = refl
  secret_is (cell x i) = ap (λ z. first z (secret_in arrays s i)) (unless_is (arrays (key_of x)) x) ∙ ap (first (secret_unless (arrays (key_of x)) (of_array (key_of x)))) (secret_is i)
  secret_is (load p a) = refl
  secret_is (neg a at) = secret_is a
  secret_is (inv a at) = secret_is a
  secret_is (cast z sign a at) = secret_is a
  secret_is (bin op a b at) =
      ap (λ z. first z (secret_in arrays s b)) (secret_is a) ∙ ap (first (first_secret arrays s (reading a).origins)) (secret_is b)
      ∙ sym (secrets_both (reading a).origins (reading b).origins)

  place_is : (at : Span) (i : Term) → first_breach arrays s (reading i).demands ≡ breach_in arrays s i → first (breach_in arrays s i) (breach_in_place arrays s at i) ≡ first_breach arrays s (place_demands at (reading i))
  place_is at i e =
      ap (λ z. first z (breach_in_place arrays s at i)) (sym e)
      ∙ ap (first (first_breach arrays s (reading i).demands)) (ap (breach_at at Address) (secret_is i) ∙ sym (demanded at Address (reading i).origins))
      ∙ sym (breaches_both (reading i).demands (demands_at at Address (reading i).origins))

  divided_is : (c : Bool) (at : Span) (a b : Term) → (if c then breach_at at Divide (first (secret_in arrays s a) (secret_in arrays s b)) else None) ≡ first_breach arrays s (divided c at ((reading a).origins ++ (reading b).origins))
  divided_is true at a b =
      ap (breach_at at Divide) (secret_is (bin Add a b at)) ∙ sym (demanded at Divide ((reading a).origins ++ (reading b).origins))
  divided_is false at a b = refl

  pub breach_is : (t : Term) → breach_in arrays s t ≡ first_breach arrays s (reading t).demands
  breach_is (num i at) = refl
  breach_is (truth b at) = refl
  breach_is (var x) = refl
  breach_is (cell x i) = place_is x.span i (sym (breach_is i))
  breach_is (load p a) = place_is p.span a (sym (breach_is a))
  breach_is (neg a at) = breach_is a
  breach_is (inv a at) = breach_is a
  breach_is (cast z sign a at) = breach_is a
  breach_is (bin op a b at) =
      let x = first_breach arrays s (reading a).demands in
      let y = first_breach arrays s (reading b).demands in
      let d = divided (divides op) at ((reading a).origins ++ (reading b).origins) in
      ap (λ z. first z (first (breach_in arrays s b) (breach_of arrays s op a b at))) (breach_is a) ∙ ap (λ z. first x (first z (breach_of arrays s op a b at))) (breach_is b)
      ∙ ap (λ z. first x (first y z)) (divided_is (divides op) at a b)
      ∙ ap (first x) (sym (breaches_both (reading b).demands d)) ∙ sym (breaches_both (reading a).demands ((reading b).demands ++ d))

  pub secrets_are : (ts : List Term) → secret_in_each arrays s ts ≡ first_secret arrays s (all_readings ts).origins
  secrets_are [] = refl
  secrets_are (t ∷ ts) =
      ap (λ z. first z (secret_in_each arrays s ts)) (secret_is t) ∙ ap (first (first_secret arrays s (reading t).origins)) (secrets_are ts)
      ∙ sym (secrets_both (reading t).origins (all_readings ts).origins)

  pub breaches_are : (ts : List Term) → breach_in_each arrays s ts ≡ first_breach arrays s (all_readings ts).demands
  breaches_are [] = refl
  breaches_are (t ∷ ts) =
      ap (λ z. first z (breach_in_each arrays s ts)) (breach_is t) ∙ ap (first (first_breach arrays s (reading t).demands)) (breaches_are ts)
      ∙ sym (breaches_both (reading t).demands (all_readings ts).demands)

  pub test_is : (t : Term) → breach_in_test arrays t s ≡ first_breach arrays s (test_demands t)
  test_is t =
      ap (λ z. first z (breach_at (begin_of t) Branch (secret_in arrays s t))) (breach_is t)
      ∙ ap (first (first_breach arrays s (reading t).demands)) (ap (breach_at (begin_of t) Branch) (secret_is t) ∙ sym (demanded (begin_of t) Branch (reading t).origins))
      ∙ sym (breaches_both (reading t).demands (demands_at (begin_of t) Branch (reading t).origins))

  pub left_is : (d : Left) → breach_in_left arrays s d ≡ first_breach arrays s (left_demands d)
  left_is nothing = refl
  left_is (scalar x) = refl
  left_is (element x i) = place_is x.span i (sym (breach_is i))
  left_is (bytes p a) = place_is p.span a (sym (breach_is a))

  division_origins : (d : Option Span) (r : Reading) → (division_reading d r).origins ≡ r.origins
  division_origins None r = refl
  division_origins (Some at) r = refl

  pub value_is : (o : Plain) → gives_public arrays s o ≡ is_none (first_secret arrays s (right_reading o).origins)
  value_is o = ap is_none (secrets_are o.reads ∙ ap (first_secret arrays s) (sym (division_origins o.division (all_readings o.reads))))

  divisions : (d : Option Span) (ts : List Term) → first (breach_in_each arrays s ts) (breach_in_division arrays s d ts) ≡ first_breach arrays s (division_reading d (all_readings ts)).demands
  divisions None ts = first_none (breach_in_each arrays s ts) ∙ breaches_are ts
  divisions (Some at) ts =
      ap (λ z. first z (breach_at at Divide (secret_in_each arrays s ts))) (breaches_are ts)
      ∙ ap (first (first_breach arrays s (all_readings ts).demands)) (ap (breach_at at Divide) (secrets_are ts) ∙ sym (demanded at Divide (all_readings ts).origins))
      ∙ sym (breaches_both (all_readings ts).demands (demands_at at Divide (all_readings ts).origins))

  pub operation_is : (o : Plain) → breach_in_operation arrays o s ≡ first (first_breach arrays s (right_reading o).demands) (breach_in_lefts arrays (gives_public arrays s o) o.to s)
  operation_is o =
      sym (first_apart (breach_in_each arrays s o.reads) (breach_in_division arrays s o.division o.reads) (breach_in_lefts arrays (gives_public arrays s o) o.to s))
      ∙ ap (λ z. first z (breach_in_lefts arrays (gives_public arrays s o) o.to s)) (divisions o.division o.reads)
