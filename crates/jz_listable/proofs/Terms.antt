-- What shows in a term over names of the text is such a name.
use Rattle.std.proofs.Common.{Bool, true, false, List, [], ◌∷◌, ◌++◌, Option, Some, None, if◌then◌else◌}
use Rattle.std.specs.Prelude.{⊤}
use Rattle.jz_tree.specs.Span.{Span}
use Rattle.jz_tree.specs.Operators.{divides}
use Rattle.jz_lex.specs.Identifiers.{IsIdentifier}
use Rattle.jz_meaning.specs.Values.{Ref, key_of}
use Rattle.jz_terms.specs.Terms.{Term, num, truth, var, cell, load, neg, inv, cast, bin}
use Rattle.jz_labels.specs.Operations.{Left, nothing, scalar, element, bytes, Plain}
use Rattle.jz_labels.specs.Labels.{Publics, Secret, named, memory, first, unless_public, secret_in, secret_in_each, gives_public, labelled}
use Rattle.jz_labels.specs.Required.{Reason, Address, Divide, Branch, Breach, breach_at, begin_of, breach_in_place, breach_of, breach_in, breach_in_each, breach_in_division, breach_in_left, breach_in_lefts, breach_in_operation, breach_in_test}

-- ---- names
abbrev pub HasName : Ref → Type 0
HasName x = IsIdentifier x.name

abbrev pub OverNames : Term → Type 0
OverNames (num i at) = ⊤
OverNames (truth b at) = ⊤
OverNames (var x) = HasName x
OverNames (cell x i) = HasName x × OverNames i
OverNames (load p a) = OverNames a
OverNames (neg a at) = OverNames a
OverNames (inv a at) = OverNames a
OverNames (cast z sign a at) = OverNames a
OverNames (bin op a b at) = OverNames a × OverNames b

abbrev pub AllOver : List Term → Type 0
AllOver [] = ⊤
AllOver (t ∷ ts) = OverNames t × AllOver ts

-- the index or the address of a left side
abbrev pub LeftOver : Left → Type 0
LeftOver nothing = ⊤
LeftOver (scalar x) = ⊤
LeftOver (element x i) = OverNames i
LeftOver (bytes p a) = OverNames a

abbrev pub LeftsOver : List Left → Type 0
LeftsOver [] = ⊤
LeftsOver (d ∷ ds) = LeftOver d × LeftsOver ds

pub record PlainOver (o : Plain) : Type 0 where
  pub reads : AllOver o.reads
  pub to : LeftsOver o.to

pub both_over : (ts us : List Term) → AllOver ts → AllOver us → AllOver (ts ++ us)
both_over [] us h k = k
both_over (t ∷ ts) us h k = (h.0, both_over ts us h.1 k)

-- ---- secrets
abbrev pub IsNamed : Secret → Type 0
IsNamed (named n c) = IsIdentifier n
IsNamed memory = ⊤

abbrev IfSecret : Option Secret → Type 0
IfSecret None = ⊤
IfSecret (Some x) = IsNamed x

abbrev pub IfBreach : Option Breach → Type 0
IfBreach None = ⊤
IfBreach (Some b) = IsNamed b.secret

first_secret : (a b : Option Secret) → IfSecret a → IfSecret b → IfSecret (first a b)
first_secret None b h k = k
first_secret (Some x) b h k = h

first_breach : (a b : Option Breach) → IfBreach a → IfBreach b → IfBreach (first a b)
first_breach None b h k = k
first_breach (Some x) b h k = h

unless_named : (b : Bool) (x : Ref) → HasName x → IfSecret (unless_public b x)
unless_named true x h = tt
unless_named false x h = h

at_named : (at : Span) (why : Reason) (o : Option Secret) → IfSecret o → IfBreach (breach_at at why o)
at_named at why None h = tt
at_named at why (Some x) h = h

by_test : (b : Bool) (o : Option Breach) → IfBreach o → IfBreach (if b then o else None)
by_test true o h = h
by_test false o h = tt

module _ (arrays s : Publics) where
  secret_named : (t : Term) → OverNames t → IfSecret (secret_in arrays s t)
  secret_named (num i at) h = tt
  secret_named (truth b at) h = tt
  secret_named (var x) h = unless_named (s (key_of x)) x h
  secret_named (cell x i) h = first_secret (unless_public (arrays (key_of x)) x) (secret_in arrays s i) (unless_named (arrays (key_of x)) x h.0) (secret_named i h.1)
  secret_named (load p a) h = tt
  secret_named (neg a at) h = secret_named a h
  secret_named (inv a at) h = secret_named a h
  secret_named (cast z sign a at) h = secret_named a h
  secret_named (bin op a b at) h = first_secret (secret_in arrays s a) (secret_in arrays s b) (secret_named a h.0) (secret_named b h.1)

  secrets_named : (ts : List Term) → AllOver ts → IfSecret (secret_in_each arrays s ts)
  secrets_named [] h = tt
  secrets_named (t ∷ ts) h = first_secret (secret_in arrays s t) (secret_in_each arrays s ts) (secret_named t h.0) (secrets_named ts h.1)

  -- ---- breaches
  place_named : (at : Span) (a : Term) → OverNames a → IfBreach (breach_in_place arrays s at a)
  place_named at a h = at_named at Address (secret_in arrays s a) (secret_named a h)

  breach_named : (t : Term) → OverNames t → IfBreach (breach_in arrays s t)
  breach_named (num i at) h = tt
  breach_named (truth b at) h = tt
  breach_named (var x) h = tt
  breach_named (cell x i) h = first_breach (breach_in arrays s i) (breach_in_place arrays s x.span i) (breach_named i h.1) (place_named x.span i h.1)
  breach_named (load p a) h = first_breach (breach_in arrays s a) (breach_in_place arrays s p.span a) (breach_named a h) (place_named p.span a h)
  breach_named (neg a at) h = breach_named a h
  breach_named (inv a at) h = breach_named a h
  breach_named (cast z sign a at) h = breach_named a h
  breach_named (bin op a b at) h =
      let both = first_secret (secret_in arrays s a) (secret_in arrays s b) (secret_named a h.0) (secret_named b h.1) in
      let divided = by_test (divides op) (breach_at at Divide (first (secret_in arrays s a) (secret_in arrays s b))) (at_named at Divide (first (secret_in arrays s a) (secret_in arrays s b)) both) in
      first_breach (breach_in arrays s a) (first (breach_in arrays s b) (breach_of arrays s op a b at)) (breach_named a h.0)
      (first_breach (breach_in arrays s b) (breach_of arrays s op a b at) (breach_named b h.1) divided)

  breaches_named : (ts : List Term) → AllOver ts → IfBreach (breach_in_each arrays s ts)
  breaches_named [] h = tt
  breaches_named (t ∷ ts) h = first_breach (breach_in arrays s t) (breach_in_each arrays s ts) (breach_named t h.0) (breaches_named ts h.1)

  division_named : (o : Option Span) (ts : List Term) → AllOver ts → IfBreach (breach_in_division arrays s o ts)
  division_named None ts h = tt
  division_named (Some at) ts h = at_named at Divide (secret_in_each arrays s ts) (secrets_named ts h)

  left_named : (d : Left) → LeftOver d → IfBreach (breach_in_left arrays s d)
  left_named nothing h = tt
  left_named (scalar x) h = tt
  left_named (element x i) h = first_breach (breach_in arrays s i) (breach_in_place arrays s x.span i) (breach_named i h) (place_named x.span i h)
  left_named (bytes p a) h = first_breach (breach_in arrays s a) (breach_in_place arrays s p.span a) (breach_named a h) (place_named p.span a h)

lefts_named : (arrays : Publics) (z : Bool) (ds : List Left) (s : Publics) → LeftsOver ds → IfBreach (breach_in_lefts arrays z ds s)
lefts_named arrays z [] s h = tt
lefts_named arrays z (d ∷ ds) s h =
    first_breach (breach_in_left arrays s d) (breach_in_lefts arrays z ds (labelled z d s)) (left_named arrays s d h.0) (lefts_named arrays z ds (labelled z d s) h.1)

pub operation_named : (arrays : Publics) (o : Plain) (s : Publics) → PlainOver o → IfBreach (breach_in_operation arrays o s)
operation_named arrays o s h =
    let written : Option Breach = breach_in_lefts arrays (gives_public arrays s o) o.to s in
    let divided : Option Breach = breach_in_division arrays s o.division o.reads in
    first_breach (breach_in_each arrays s o.reads) (first divided written) (breaches_named arrays s o.reads h.reads)
    (first_breach divided written (division_named arrays s o.division o.reads h.reads) (lefts_named arrays (gives_public arrays s o) o.to s h.to))

pub test_named : (arrays : Publics) (t : Term) (s : Publics) → OverNames t → IfBreach (breach_in_test arrays t s)
test_named arrays t s h =
    let shown : Option Breach = breach_at (begin_of t) Branch (secret_in arrays s t) in
    first_breach (breach_in arrays s t) shown (breach_named arrays s t h) (at_named (begin_of t) Branch (secret_in arrays s t) (secret_named arrays s t h))
