-- Statements one after another, as far as a loop has come.
use Rattle.std.proofs.Common.{◌≡◌, ℕ, ◌+◌, ◌<◌, ◌≤◌, List, [], ◌∷◌, ◌++◌, length, get_or, drop, refl, sym, ap, ◌∙◌, subst, arith, append_assoc, append-nil}
use Rattle.jz_tree.specs.declared.stmt.Stmt.{Stmt}
use Rattle.jz_change.specs.declared.change.Step.{Step}
use Rattle.jz_inline.specs.Names.{Names}
use Rattle.jz_inline.specs.Statements.{Piece, CopiedFuns, statement_piece, body_piece}
use Rattle.jz_inline.proofs.Passed.{at_item, at_end}
use Rattle.jz_inlining.specs.declared.copier.Copied.{Copied}
use Rattle.jz_inlining.specs.InnerCopies.{Adds, last_number}

-- what is there, with the rest behind it, is all of it behind what was there
pub record IsLeft (all rest : Piece) (names : Names) (before now : Copied) (done : List Step) : Type 0 where
  pub stmts : now.stmts ++ rest.made names now.next ≡ before.stmts ++ all.made names before.next
  pub next : now.next + rest.copies ≡ before.next + all.copies
  pub steps : done ++ rest.steps ≡ all.steps

pub begun : (all : Piece) (names : Names) (before : Copied) (done : List Step) → done ≡ [] → IsLeft all all names before before done
begun all names before done e = record { stmts = refl; next = refl; steps = ap (λ d. d ++ all.steps) e }

module _ (funs : CopiedFuns) (all : Piece) (names : Names) (before now : Copied) (done : List Step) (ss : List Stmt) (i : ℕ) (left : IsLeft all (body_piece funs (drop i ss)) names before now done) where
  module _ (s : Stmt) (there : i < length ss) (is : s ≡ get_or ss i s) where
    here : IsLeft all (body_piece funs (s ∷ drop (i + 1) ss)) names before now done
    here = subst (λ l. IsLeft all (body_piece funs l) names before now done) (at_item ss i s there is) left

    pub fits : before.next + all.copies ≤ last_number → now.next + (statement_piece funs s).copies ≤ last_number
    fits few =
        let e : now.next + ((statement_piece funs s).copies + (body_piece funs (drop (i + 1) ss)).copies) ≡ before.next + all.copies = here.next in
        omega (arith, e, few)

    pub one_more : (after : Copied) (more done2 : List Step) → Adds (statement_piece funs s) names now after more → done2 ≡ done ++ more → IsLeft all (body_piece funs (drop (i + 1) ss)) names before after done2
    one_more after more done2 a e =
        let p = statement_piece funs s in
        let rest = body_piece funs (drop (i + 1) ss) in
        let n : now.next + (p.copies + rest.copies) ≡ before.next + all.copies = here.next in
        record {
          stmts =
              ap (λ x. x ++ rest.made names after.next) a.stmts
              ∙ ap (λ k. (now.stmts ++ p.made names now.next) ++ rest.made names k) a.next
              ∙ append_assoc now.stmts (p.made names now.next) (rest.made names (now.next + p.copies))
              ∙ here.stmts;
          next = omega (arith, n, a.next);
          steps =
              ap (λ x. x ++ rest.steps) e ∙ append_assoc done more rest.steps
              ∙ ap (λ x. done ++ (x ++ rest.steps)) a.steps ∙ here.steps;
        }

  pub none_left : length ss ≤ i → Adds all names before now done
  none_left past =
      let h = subst (λ l. IsLeft all (body_piece funs l) names before now done) (at_end ss i past) left in
      let n : now.next + 0 ≡ before.next + all.copies = h.next in
      record {
        stmts = sym (append-nil now.stmts) ∙ h.stmts;
        next = omega (arith, n);
        steps = sym (append-nil done) ∙ h.steps;
      }
