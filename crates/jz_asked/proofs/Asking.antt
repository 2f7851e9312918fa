-- The first of several conditions, along expressions and lists.
use Rattle.std.proofs.Common.{◌≡◌, ℕ, ◌+◌, ◌<◌, ◌≤◌, Bool, List, [], ◌∷◌, length, drop, get_or, Option, Some, None, refl, ap, sym, ◌∙◌, subst}
use Rattle.std.proofs.lemmas.List.{drop_all}
use Rattle.jz_run_assign.proofs.RestLemmas.{rest_at}
use Rattle.jz_tree.specs.Span.{Span}
use Rattle.x64_insn.specs.Size.{Size}
use Rattle.jz_tree.specs.declared.expr.BinOp.{BinOp}
use Rattle.jz_tree.specs.declared.expr.Access.{Access}
use Rattle.jz_tree.specs.declared.expr.Expr.{Expr}
use Rattle.jz_tree.specs.declared.expr.Expr.TheVariants as expr
use Rattle.jz_meaning.specs.Values.{left_wanted, own_size}
use Rattle.jz_terms.specs.Terms.{Place, bin, term_of, place_of, size_in}
use Rattle.jz_terms.proofs.Bridge.{term_so, place_is}
use Rattle.jz_terms.proofs.TermForms.{term_bin}
use Rattle.jz_facts.specs.Facts.{Facts, Given}
use Rattle.jz_alarms.specs.Conditions.{Alarm, or_else, asks}
use Rattle.jz_asked.specs.InnerAsked.{asks_behind}

pub thrice : (a b c : Option Alarm) → or_else a (or_else b c) ≡ or_else (or_else a b) c
thrice None b c = refl
thrice (Some x) b c = refl

pub or_none : (a : Option Alarm) → or_else a None ≡ a
or_none None = refl
or_none (Some x) = refl

-- the size that an expression has by itself
pub size_is : (e : Expr) → own_size e ≡ size_in (term_of e)
size_is e = ap (λ m. m.size) (term_so e)

-- ---- one step down the left side

pub one_down : (g : Given) (s : Facts) (rest n : Expr) (op : BinOp) (a b : Expr) (at : Span) (l r : Expr) (w v : Option Size) (found here new : Option Alarm)
    → rest ≡ expr.Bin op a b at → l ≡ a → r ≡ b → n ≡ a
    → v ≡ left_wanted op w (size_in (term_of l)) (size_in (term_of r))
    → here ≡ asks_behind g s op v (term_of r) at → new ≡ or_else here found
    → or_else (asks g s v (term_of n)) new ≡ or_else (asks g s w (term_of rest)) found
one_down g s rest n op a b at l r w v found here new h i j m k q f =
    let t : term_of rest ≡ bin op (term_of l) (term_of r) at =
    term_bin rest op a b at h ∙ ap (λ x. bin op (term_of x) (term_of b) at) (sym i) ∙ ap (λ x. bin op (term_of l) (term_of x) at) (sym j) in
    let same : term_of n ≡ term_of l = ap term_of (m ∙ sym i) in
    ap (λ x. or_else (asks g s v x) new) same
    ∙ ap (or_else (asks g s v (term_of l))) (f ∙ ap (λ x. or_else x found) q)
    ∙ thrice (asks g s v (term_of l)) (asks_behind g s op v (term_of r) at) found
    ∙ ap (λ x. or_else (or_else (asks g s x (term_of l)) (asks_behind g s op x (term_of r) at)) found) k
    ∙ ap (λ x. or_else (asks g s w x) found) (sym t)

-- ---- accesses

pub place_out : (a : Access) → place_of a ≡ record { spot = record { size = a.size; unaligned = a.unaligned; span = a.span }; at = term_of a.at }
place_out a = place_is (record { size = a.size; at = a.at; unaligned = a.unaligned; span = a.span })

-- ---- lists

module _ {A : Type 0} (f : A → Option Alarm) (F : List A → Option Alarm) (step : (x : A) (xs : List A) → F (x ∷ xs) ≡ or_else (f x) (F xs)) (xs : List A) (i : ℕ) where
  module _ (x : A) (lt : i < length xs) (ix : x ≡ get_or xs i x) (o : Option Alarm) (h : o ≡ f x) where
    here : F (drop i xs) ≡ or_else o (F (drop (i + 1) xs))
    here = ap F (rest_at xs i x lt ix) ∙ step x (drop (i + 1) xs) ∙ ap (λ y. or_else y (F (drop (i + 1) xs))) (sym h)

    pub passed : o ≡ None → F (drop (i + 1) xs) ≡ F (drop i xs)
    passed e = sym (here ∙ ap (λ y. or_else y (F (drop (i + 1) xs))) e)

    pub met : (a : Alarm) → o ≡ Some a → Some a ≡ F (drop i xs)
    met a e = sym (here ∙ ap (λ y. or_else y (F (drop (i + 1) xs))) e)

  pub none_left : F [] ≡ None → length xs ≤ i → None ≡ F (drop i xs)
  none_left n le = sym (ap F (drop_all i xs le) ∙ n)
