-- What is found to be safe has its indices inside.
use Rattle.std.proofs.Common.{◌≡◌, ℕ, ◌<◌, Bool, true, false, refl, sym, ◌∙◌}
use Rattle.std.specs.Prelude.{All, nat_lt, slice_index_or}
use Rattle.std.proofs.lemmas.Bool.{false≢true, ltb-true, lt-ltb}
use Rattle.std.proofs.Math.Logic.{∥∥₁_elim, ∥∥₁_map}
use Rattle.jz_words.specs.declared.size.Size.TheVariants.{S64}
use Rattle.jz_words.specs.Words.{residue}
use Rattle.jz_tree.specs.declared.expr.Expr.{Expr}
use Rattle.jz_tree.specs.declared.expr.Var.{Var}
use Rattle.jz_type_names.specs.Parts.{Cells, cells_in}
use Rattle.jz_runs.specs.Trees.{done, op, quiet, choose, loop, each, call}
use Rattle.jz_meaning.specs.Statements.{Block}
use Rattle.jz_fact_sets.specs.Kept.{given_of}
use Rattle.jz_function_runs.specs.FunctionRuns.{plain_body}
use Rattle.jz_homes.specs.Homes.{Homes}
use Rattle.jz_compiling.specs.Functions.{homes_for}
use Rattle.jz_safe_indices.specs.Staying.{IsInside, statement_cells, HasCellsInside}
use Rattle.jz_safe_indices.proofs.Asked.{all_inside}
use Rattle.jz_shown_places.specs.Laws.{IsIndexed}
use Rattle.jz_safe.specs.declared.certificate.Safe.{Safe}

less_by : (t : Bool) (a b : ℕ) → nat_lt a b ≡ t → ∥ a < b ∥₁ → a < b
less_by true a b e h = ltb-true a b e
less_by false a b e h = absurd (∥∥₁_elim h (λ x y. absurd x) (λ lt. false≢true (sym e ∙ lt-ltb a b lt)))

less : (a b : ℕ) → ∥ a < b ∥₁ → a < b
less a b h = less_by (nat_lt a b) a b refl h

module _ (home : Homes) where
  one_out : (c : Var × Expr) → ∥ IsInside home c ∥₁ → IsInside home c
  one_out c h = λ z n i is sum. less (residue S64 i) n (∥∥₁_map h (λ x. x z n i is sum))

  all_out : (cs : Cells) → ∥ All (IsInside home) cs ∥₁ → All (IsInside home) cs
  all_out cs h = λ k d lt. one_out (slice_index_or cs k d) (∥∥₁_map h (λ x. x k d lt))

  pub inside_out : (b : Block) → ∥ HasCellsInside home b ∥₁ → HasCellsInside home b
  inside_out done h = tt
  inside_out (op o r) h = (all_out (statement_cells o) (∥∥₁_map h (λ x. x.0)), inside_out r (∥∥₁_map h (λ x. x.1)))
  inside_out (quiet o r) h = inside_out r h
  inside_out (choose c a b r) h = (
    all_out (cells_in c.cond) (∥∥₁_map h (λ x. x.0)),
    inside_out a (∥∥₁_map h (λ x. x.1)),
    inside_out b (∥∥₁_map h (λ x. x.2)),
    inside_out r (∥∥₁_map h (λ x. x.3)),
  )
  inside_out (loop q p c b r) h = (
    inside_out p (∥∥₁_map h (λ x. x.0)),
    all_out (cells_in c.cond) (∥∥₁_map h (λ x. x.1)),
    inside_out b (∥∥₁_map h (λ x. x.2)),
    inside_out r (∥∥₁_map h (λ x. x.3)),
  )
  inside_out (each f b r) h = (inside_out b (∥∥₁_map h (λ x. x.0)), inside_out r (∥∥₁_map h (λ x. x.1)))
  inside_out (call c b r) h = (inside_out b (∥∥₁_map h (λ x. x.0)), inside_out r (∥∥₁_map h (λ x. x.1)))

pub is_indexed : (s : Safe) → IsIndexed s.expanded.fun
is_indexed s =
    inside_out (homes_for s.expanded.fun) (plain_body s.expanded.fun)
    (∥∥₁_map s.rule (λ none. all_inside (given_of none.given) (homes_for s.expanded.fun) (plain_body s.expanded.fun) s.expanded.fun.result none.none))
