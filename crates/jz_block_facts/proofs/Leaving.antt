-- What holds behind a loop, by whether its condition is `true`.
use Rattle.std.proofs.Common.{◌≡◌, Bool, true, false, refl, sym, ap, ◌∙◌, if◌then◌else◌}
use Rattle.jz_tree.specs.Span.{Span}
use Rattle.jz_tree.specs.declared.expr.Expr.{Expr}
use Rattle.jz_meaning.specs.Statements.{Condition}
use Rattle.jz_terms.specs.Terms.{Term, num, truth, var, cell, load, neg, inv, cast, bin, term_of}
use Rattle.jz_facts.specs.Facts.{Facts, Given}
use Rattle.jz_facts.specs.Tests.{tested, leaving, leaves}
use Rattle.jz_block_facts.specs.Pieces.{is_truth}

module _ (g : Given) (c : Condition) (h s : Facts) where
  by_term : (t : Term) → leaving g c t h s ≡ (if is_truth t then h else tested g c false s)
  by_term (num n at) = refl
  by_term (truth true at) = refl
  by_term (truth false at) = refl
  by_term (var x) = refl
  by_term (cell x i) = refl
  by_term (load x a) = refl
  by_term (neg a at) = refl
  by_term (inv a at) = refl
  by_term (cast z y a at) = refl
  by_term (bin o a b at) = refl

  pub leaves_so : (b : Bool) → b ≡ is_truth (term_of c.cond) → leaves g c h s ≡ (if b then h else tested g c false s)
  leaves_so b e = by_term (term_of c.cond) ∙ ap (λ x. if x then h else tested g c false s) (sym e)
