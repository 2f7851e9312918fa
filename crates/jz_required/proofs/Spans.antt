-- Places of variables and of accesses.
use Rattle.std.proofs.Common.{◌≡◌, ap, sym, ◌∙◌}
use Rattle.jz_tree.specs.declared.expr.Access.{Access}
use Rattle.jz_tree.specs.declared.expr.Var.{Var}
use Rattle.jz_tree.specs.declared.expr.Expr.TheViews.{out-Access, roll-out-Access, out-Var, roll-out-Var}
use Rattle.jz_tree.specs.declared.expr.Expr.TheFolds.{fold-roll-Var}
use Rattle.jz_meaning.specs.Values.{Ref, expr_step, ty_step, access_step, decl_step, var_step, ref_of}
use Rattle.jz_terms.specs.Terms.{Place, term_of, place_of}
use Rattle.jz_terms.proofs.Bridge.{place_is}

pub span_is : (v : Var) → (ref_of v).span ≡ (out-Var v).span
span_is v = ap (λ (r : Ref). r.span) (ap ref_of (sym (roll-out-Var v)) ∙ fold-roll-Var _ _ _ _ _ expr_step ty_step access_step decl_step var_step (out-Var v))

same_place : (a : Access) → place_of a ≡ record { spot = record { size = (out-Access a).size; unaligned = (out-Access a).unaligned; span = (out-Access a).span }; at = term_of (out-Access a).at }
same_place a = ap place_of (sym (roll-out-Access a)) ∙ place_is (out-Access a)

pub spot_span : (a : Access) → (place_of a).spot.span ≡ (out-Access a).span
spot_span a = ap (λ (p : Place). p.spot.span) (same_place a)

pub spot_at : (a : Access) → (place_of a).at ≡ term_of (out-Access a).at
spot_at a = ap (λ (p : Place). p.at) (same_place a)
