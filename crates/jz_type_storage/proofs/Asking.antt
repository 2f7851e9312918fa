-- The names that are asked, and the earliest read of one that is unset.
use mathlib.Core.Path.{fun_ext}
use Rattle.std.proofs.Common.{◌≡◌, ℕ, Bool, true, false, not, ◌&&◌, ◌||◌, List, [], ◌∷◌, map, filter, Option, Some, None, refl, sym, ap, ◌∙◌, subst, cond}
use Rattle.std.specs.Prelude.{is_some, is_none, IsTrue}
use Rattle.std.specs.Str.{bytes_eq}
use Rattle.jz_tree.specs.Span.{Span}
use Rattle.jz_tree.specs.declared.expr.Var.{Var}
use Rattle.jz_tree.specs.declared.expr.Expr.TheViews.{out-Var}
use Rattle.jz_tree.specs.declared.program.Param.{Param}
use Rattle.jz_tree.specs.declared.program.Fun.{Fun}
use Rattle.jz_type_names.specs.Scopes.{variable_named}
use Rattle.jz_type_names.specs.Kinds.{known_of, is_inline_int}
use Rattle.jz_type_names.specs.Order.{IsEarliest}
use Rattle.jz_type_storage.specs.Paths.{flow_of_all, has_to_be_set, IsReadUnset}
use Rattle.jz_type_storage.specs.InnerSurely.{Names, first}
use Rattle.jz_type_storage.specs.InnerWalks.{members}
use Rattle.jz_type_names.proofs.Firsts.{same_wrong}
use Rattle.jz_type_storage.proofs.Agree.{Misses, agree}
use Rattle.jz_type_storage.proofs.Adding.{filtered, front_member, none_member}

named_step : (b r s : Bool) (v : Var) (o : Option Var) → r ≡ is_some o → (b || r) ≡ is_some (cond b (Some v) o)
named_step true r s v o e = refl
named_step false r s v o e = e

named_member : (n : List ℕ) (vs : List Var) → members (map (λ v. (out-Var v).name) vs) n ≡ is_some (variable_named n vs)
named_member n [] = none_member n
named_member n (v ∷ vs) =
    front_member n (out-Var v).name (map (λ v. (out-Var v).name) vs)
    ∙ named_step (bytes_eq n (out-Var v).name) (members (map (λ v. (out-Var v).name) vs) n) true v (variable_named n vs) (named_member n vs)

param_names : (ps : List Param) → map (λ p. (out-Var p.var).name) ps ≡ map (λ v. (out-Var v).name) (map (λ p. p.var) ps)
param_names [] = refl
param_names (p ∷ ps) = ap (λ ns. (out-Var p.var).name ∷ ns) (param_names ps)

not_some : (o : Option Var) → not (is_some o) ≡ is_none o
not_some None = refl
not_some (Some v) = refl

-- the names of inline variables that are not among those of the parameters
pub asked_is : (f : Fun) (params own all : List (List ℕ)) → members params ≡ members (map (λ p. (out-Var p.var).name) f.params)
    → own ≡ filter (λ n. not (members params n)) (map (λ v. (out-Var v).name) (filter (λ v. is_inline_int (known_of v)) f.vars))
    → members all ≡ members own → members all ≡ has_to_be_set f
asked_is f params own all p o a = fun_ext (λ n.
    let vs = filter (λ v. is_inline_int (known_of v)) f.vars in
    let ps = map (λ q. q.var) f.params in
    ap (λ (s : Names). s n) a
    ∙ (ap (λ ks. members ks n) o
    ∙ (filtered (λ m. not (members params m)) n (map (λ v. (out-Var v).name) vs)
    ∙ (ap (λ b. b && not (members params n)) (named_member n vs)
    ∙ ap (λ b. is_some (variable_named n vs) && b)
    (ap not (ap (λ (s : Names). s n) p ∙ (ap (λ ks. members ks n) (param_names f.params) ∙ named_member n ps)) ∙ not_some (variable_named n ps))))))

-- ---- one function
abbrev none_set : Names
none_set n = false

true_is : (b : Bool) → IsTrue b → b ≡ true
true_is b h = h

is_true : (b : Bool) → b ≡ true → IsTrue b
is_true b h = h

to_unset : (f : Fun) (at : Span) → Misses (has_to_be_set f) (flow_of_all f.body) none_set at → IsReadUnset f at
to_unset f at m = record { variable = m.variable; inline = is_true _ m.is_asked; path = m.path; leads = m.leads; unset = m.unset }

from_unset : (f : Fun) (at : Span) → IsReadUnset f at → Misses (has_to_be_set f) (flow_of_all f.body) none_set at
from_unset f at m = record { variable = m.variable; is_asked = true_is _ m.inline; before = refl; path = m.path; leads = m.leads; unset = m.unset }

pub unset_law : (f : Fun) (asked : Names) (old : List (List ℕ)) (r : Option Span) → asked ≡ has_to_be_set f → old ≡ []
    → r ≡ first asked (flow_of_all f.body) (members old) → IsEarliest (IsReadUnset f) r
unset_law f asked old r a o e =
    let none : members old ≡ none_set = ap members o ∙ fun_ext none_member in
    let is : r ≡ first (has_to_be_set f) (flow_of_all f.body) none_set =
    e ∙ (ap (λ s. first asked (flow_of_all f.body) s) none ∙ ap (λ (q : Names). first q (flow_of_all f.body) none_set) a) in
    subst (IsEarliest (IsReadUnset f)) (sym is)
    (same_wrong _ _ (λ at. (to_unset f at, from_unset f at)) _ (agree (has_to_be_set f) (flow_of_all f.body) none_set))
