-- What is read of a cell and of an access.
use Rattle.std.proofs.Common.{◌≡◌, ap, sym, ◌∙◌}
use Rattle.jz_tree.specs.declared.expr.Access.{Access}
use Rattle.jz_tree.specs.declared.expr.Expr.{Expr}
use Rattle.jz_tree.specs.declared.expr.Var.{Var}
use Rattle.jz_tree.specs.declared.expr.Expr.TheViews.{out-Access, out-Var}
use Rattle.jz_meaning.specs.Values.{key_of, ref_of}
use Rattle.jz_terms.specs.Terms.{cell, load, term_of, place_of}
use Rattle.jz_required.specs.Readings.{Reading, reading, cell_reading, load_reading, place_demands}
use Rattle.jz_required.proofs.Spans.{span_is, spot_span, spot_at}

-- by what is read of the index
pub cell_reads : (v : Var) (i : Expr) (inner : Reading) → inner ≡ reading (term_of i) → cell_reading (key_of (ref_of v)) (out-Var v).span inner ≡ reading (cell (ref_of v) (term_of i))
cell_reads v i inner e = ap (λ s. cell_reading (key_of (ref_of v)) s inner) (sym (span_is v)) ∙ ap (cell_reading (key_of (ref_of v)) (ref_of v).span) e

pub load_reads : (a : Access) (inner : Reading) → inner ≡ reading (term_of (out-Access a).at) → load_reading (out-Access a).span inner ≡ reading (load (place_of a).spot (place_of a).at)
load_reads a inner e =
    ap (λ s. load_reading s inner) (sym (spot_span a)) ∙ ap (load_reading (place_of a).spot.span) (e ∙ ap reading (sym (spot_at a)))

pub cell_demands : (v : Var) (i : Expr) (inner : Reading) → inner ≡ reading (term_of i) → place_demands (out-Var v).span inner ≡ place_demands (ref_of v).span (reading (term_of i))
cell_demands v i inner e = ap (λ s. place_demands s inner) (sym (span_is v)) ∙ ap (place_demands (ref_of v).span) e

pub load_demands : (a : Access) (inner : Reading) → inner ≡ reading (term_of (out-Access a).at) → place_demands (out-Access a).span inner ≡ place_demands (place_of a).spot.span (reading (place_of a).at)
load_demands a inner e =
    ap (λ s. place_demands s inner) (sym (spot_span a)) ∙ ap (place_demands (place_of a).spot.span) (e ∙ ap reading (sym (spot_at a)))
