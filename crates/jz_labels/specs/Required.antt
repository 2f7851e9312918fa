-- What has to be public, in the order of evaluation: conditions of `if` and `while`, indices and
-- addresses, operands of divisions.
use Rattle.std.specs.Prelude.{Bool, List, [], ◌∷◌, Option, Some, None, if◌then◌else◌}
use Rattle.jz_tree.specs.Span.{Span}
use Rattle.jz_tree.specs.declared.expr.BinOp.{BinOp}
use Rattle.jz_tree.specs.Operators.{divides}
use Rattle.jz_meaning.specs.States.{Key}
use Rattle.jz_meaning.specs.Values.{key_of}
use Rattle.jz_flow.specs.Alarms.{Asks}
use Rattle.jz_terms.specs.Terms.{Term, num, truth, var, cell, load, neg, inv, cast, bin}
use Rattle.jz_labels.specs.Operations.{Left, nothing, scalar, element, bytes, Plain}
use Rattle.jz_labels.specs.Labels.{Publics, Secret, first, secret_in, secret_in_each, gives_public, labelled}

-- why it has to be public
pub data Reason : Type 0 where
  Branch : Reason
  Address : Reason
  Divide : Reason

pub record Breach : Type 0 where
  pub span : Span
  pub why : Reason
  pub secret : Secret

-- a secret where all has to be public
abbrev pub breach_at : Span → Reason → Option Secret → Option Breach
breach_at at why None = None
breach_at at why (Some x) = Some (record { span = at; why = why; secret = x })

-- where a term begins
abbrev pub begin_of : Term → Span
begin_of (num i at) = at
begin_of (truth b at) = at
begin_of (var x) = x.span
begin_of (cell x i) = x.span
begin_of (load p a) = p.span
begin_of (neg a at) = at
begin_of (inv a at) = at
begin_of (cast z sign a at) = at
begin_of (bin op a b at) = at

module _ (arrays s : Publics) where
  -- an index, an address
  abbrev pub breach_in_place : Span → Term → Option Breach
  breach_in_place at a = breach_at at Address (secret_in arrays s a)

  -- both operands of a division
  abbrev pub breach_of : BinOp → Term → Term → Span → Option Breach
  breach_of op a b at =
      if divides op
      then breach_at at Divide (first (secret_in arrays s a) (secret_in arrays s b))
      else None

  abbrev pub breach_in : Term → Option Breach
  breach_in (num i at) = None
  breach_in (truth b at) = None
  breach_in (var x) = None
  breach_in (cell x i) = first (breach_in i) (breach_in_place x.span i)
  breach_in (load p a) = first (breach_in a) (breach_in_place p.span a)
  breach_in (neg a at) = breach_in a
  breach_in (inv a at) = breach_in a
  breach_in (cast z sign a at) = breach_in a
  breach_in (bin op a b at) = first (breach_in a) (first (breach_in b) (breach_of op a b at))

  abbrev pub breach_in_each : List Term → Option Breach
  breach_in_each [] = None
  breach_in_each (t ∷ ts) = first (breach_in t) (breach_in_each ts)

  -- all operands of `#DIV`
  abbrev pub breach_in_division : Option Span → List Term → Option Breach
  breach_in_division None ts = None
  breach_in_division (Some at) ts = breach_at at Divide (secret_in_each arrays s ts)

  abbrev pub breach_in_left : Left → Option Breach
  breach_in_left nothing = None
  breach_in_left (scalar x) = None
  breach_in_left (element x i) = first (breach_in i) (breach_in_place x.span i)
  breach_in_left (bytes p a) = first (breach_in a) (breach_in_place p.span a)

-- the left sides from left to right, each labelled before the next is evaluated
abbrev pub breach_in_lefts : Publics → Bool → List Left → Publics → Option Breach
breach_in_lefts arrays z [] s = None
breach_in_lefts arrays z (d ∷ ds) s =
    first (breach_in_left arrays s d) (breach_in_lefts arrays z ds (labelled z d s))

abbrev pub breach_in_operation : Publics → Plain → Publics → Option Breach
breach_in_operation arrays o s =
    first (breach_in_each arrays s o.reads)
    (first (breach_in_division arrays s o.division o.reads)
    (breach_in_lefts arrays (gives_public arrays s o) o.to s))

abbrev pub breach_in_test : Publics → Term → Publics → Option Breach
breach_in_test arrays t s =
    first (breach_in arrays s t) (breach_at (begin_of t) Branch (secret_in arrays s t))

-- ---- arrays: one that a secret is written to is not public

abbrev pub into_public : Publics → List Left → Option Key
into_public arrays [] = None
into_public arrays (nothing ∷ ds) = into_public arrays ds
into_public arrays (scalar x ∷ ds) = into_public arrays ds
into_public arrays (element x i ∷ ds) =
    if arrays (key_of x) then Some (key_of x) else into_public arrays ds
into_public arrays (bytes p a ∷ ds) = into_public arrays ds

abbrev pub secret_written : Publics → Plain → Publics → Option Key
secret_written arrays o s = if gives_public arrays s o then None else into_public arrays o.to

-- a rule is broken
abbrev pub broken : Option Breach → Option Key → Option Unit
broken None None = None
broken None (Some k) = Some tt
broken (Some b) k = Some tt

-- ---- what is asked along a body: the first of both rules, of either

module _ {O T : Type 0} (plain : O → Plain) (term : T → Term) (arrays : Publics) where
  abbrev pub breach_asks : Asks O T Key Breach
  breach_asks = record {
    op = λ o s. breach_in_operation arrays (plain o) s;
    test = λ c s. breach_in_test arrays (term c) s;
  }

  abbrev pub write_asks : Asks O T Key Key
  write_asks = record { op = λ o s. secret_written arrays (plain o) s; test = λ c s. None }

  abbrev pub label_asks : Asks O T Key Unit
  label_asks = record {
    op = λ o s.
        broken (breach_in_operation arrays (plain o) s) (secret_written arrays (plain o) s);
    test = λ c s. broken (breach_in_test arrays (term c) s) None;
  }
