-- What entries say can be listed.
use Rattle.std.proofs.Common.{◌≡◌, ℕ, ◌<◌, ◌^◌, Bool, true, false, List, [], ◌∷◌, Option, Some, None, refl, arith, lit<, if◌then◌else◌}
use Rattle.std.specs.Prelude.{All}
use Rattle.std.specs.List.{cons_option}
use Rattle.std.proofs.lemmas.List.Elements.{All-nil, All-cons, All-map}
use Rattle.jz_tree.specs.Span.{Span}
use Rattle.jz_tree.specs.declared.program.Fun.{Fun}
use Rattle.jz_tree.specs.declared.program.Note.{Note}
use Rattle.jz_annotations.specs.declared.precondition.Pre.{Pre}
use Rattle.jz_annotations.specs.Shapes.{Writes, sum, product, variable, constant, range, align}
use Rattle.jz_annotations.specs.Sayings.{said}
use Rattle.jz_annotations.proofs.Written.{says}
use Rattle.jz_preconditions.specs.declared.stated.Stated.{Stated}
use Rattle.jz_preconditions.specs.Naming.{ParametersByName, parameters_of, names_parameters}
use Rattle.jz_preconditions.specs.Stating.{stated_at, stated_by, stated_in, preconditions_of}
use Rattle.jz_compiled.specs.Lines.{listed, listed_preconditions}
use Rattle.jz_listing.specs.Listable.{IsListablePre}
use Rattle.jz_listable.proofs.Words.{word_named}

-- ---- what a string writes
small : (n : ℕ) → n < 2 ^ 32 → n < 2 ^ 64
small n h = omega (arith, h)

writes_listable : {name s : List ℕ} {p : Pre} → Writes name s p → IsListablePre (listed p)
writes_listable (sum {p = p} {v = v} {m = m} {n = n} made is_p k is_v c) = (word_named p is_p, small m k.below, word_named v is_v, small n c.below)
writes_listable (product {p = p} {v = v} {m = m} made is_p k is_v) = (word_named p is_p, small m k.below, word_named v is_v, lit< tt)
writes_listable (variable {p = p} {v = v} made is_p is_v) = (word_named p is_p, lit< tt, word_named v is_v, lit< tt)
writes_listable (constant {p = p} {n = n} made is_p c) = (word_named p is_p, refl, small n c.below)
writes_listable (range {x = x} made is_x a b) = (word_named x is_x, a.below, b.below)
writes_listable (align {p = p} made is_p a is) = (word_named p is_p, a.below)

said_listable : (n : Note) (p : Pre) → said n ≡ Some p → IsListablePre (listed p)
said_listable n p e = writes_listable ((says n p).0 e).writes

-- ---- what the notes of a function state
abbrev IsListed : Stated → Type 0
IsListed s = IsListablePre (listed s.pre)

abbrev IfListed : Option Stated → Type 0
IfListed None = Unit {0}
IfListed (Some s) = IsListed s

named_listed : (b : Bool) (at : Span) (p : Pre) → IsListablePre (listed p) → IfListed (if b then Some (record { pre = p; span = at }) else None)
named_listed true at p h = h
named_listed false at p h = tt

by_said : (ps : ParametersByName) (n : Note) (o : Option Pre) → said n ≡ o → IfListed (stated_at ps n.span o)
by_said ps n None e = tt
by_said ps n (Some p) e = named_listed (names_parameters ps p) n.span p (said_listable n p e)

one_more : (o : Option Stated) (ss : List Stated) → IfListed o → All IsListed ss → All IsListed (cons_option o ss)
one_more None ss h k = k
one_more (Some s) ss h k = All-cons IsListed s ss h k

stated_listed : (ps : ParametersByName) (notes : List Note) → All IsListed (stated_in ps notes)
stated_listed ps [] = All-nil IsListed
stated_listed ps (n ∷ notes) = one_more (stated_by ps n) (stated_in ps notes) (by_said ps n (said n) refl) (stated_listed ps notes)

pub preconditions_listable : (f : Fun) → All IsListablePre (listed_preconditions f)
preconditions_listable f =
    All-map IsListablePre listed (preconditions_of f)
    (All-map (λ p. IsListablePre (listed p)) (λ (s : Stated). s.pre) (stated_in (parameters_of f) f.notes) (stated_listed (parameters_of f) f.notes))
