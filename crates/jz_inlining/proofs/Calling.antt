-- A call as a copy of what it calls: the arguments, the mark, the body, the results.
use Rattle.std.proofs.Common.{◌≡◌, ℕ, suc, ◌+◌, ◌<◌, ◌≤◌, List, [], ◌∷◌, ◌++◌, ap, ◌∙◌, arith, append_assoc}
use Rattle.jz_tree.specs.declared.stmt.Stmt.{Stmt}
use Rattle.jz_change.specs.declared.change.Step.{Step}
use Rattle.jz_change.specs.declared.change.Step.TheVariants as step
use Rattle.jz_inline.specs.Names.{Names}
use Rattle.jz_inline.specs.Calls.{callee_names}
use Rattle.jz_inline.specs.Statements.{Piece, CopiedFuns, all_steps, body_piece}
use Rattle.jz_inlining.specs.declared.copier.Copied.{Copied}
use Rattle.jz_inlining.specs.declared.parts.Call.{Call}
use Rattle.jz_inlining.specs.InnerCopies.{Adds, called_piece, last_number, arguments_of, results_of, mark_of, argument_items_of, result_items_of}

in_a_row : (o a : List Stmt) (m : Stmt) (b r : List Stmt) → ((o ++ (a ++ m ∷ [])) ++ b) ++ r ≡ o ++ (a ++ m ∷ (b ++ r))
in_a_row o a m b r =
    append_assoc (o ++ (a ++ m ∷ [])) b r ∙ append_assoc o (a ++ m ∷ []) (b ++ r) ∙ ap (λ l. o ++ l) (append_assoc a (m ∷ []) (b ++ r))

pub number_fits : (n b : ℕ) → n + suc b ≤ last_number → n < last_number
number_fits n b h = omega (arith, h)

pub body_fits : (n m b : ℕ) → m ≡ n + 1 → n + suc b ≤ last_number → m + b ≤ last_number
body_fits n m b e h = omega (arith, e, h)

module _ (funs : CopiedFuns) (names inner : Names) (c : Call) (before between behind after : Copied) (body made : List Step) where
  pub call_adds : inner ≡ callee_names names before.next c.callee.now.params c.args.now
      → between.stmts ≡ before.stmts ++ (arguments_of names inner c ++ mark_of inner c ∷ []) → between.next ≡ before.next + 1
      → Adds (body_piece funs c.callee.now.body) inner between behind body
      → after.stmts ≡ behind.stmts ++ results_of names inner c → after.next ≡ behind.next
      → made ≡ step.Opened (argument_items_of c) (all_steps body) (result_items_of c) ∷ []
      → Adds (called_piece funs c) names before after made
  call_adds is s1 n1 b s2 n2 m =
      let p : Piece = body_piece funs c.callee.now.body in
      let j : ℕ = before.next in
      let first : between.next ≡ suc j = omega (arith, n1) in
      let whole : Names → List Stmt = λ deep. before.stmts ++ (arguments_of names deep c ++ mark_of deep c ∷ (p.made deep (suc j) ++ results_of names deep c)) in
      let bn = b.next in
      record {
        stmts =
            s2 ∙ ap (λ l. l ++ results_of names inner c) b.stmts
            ∙ ap (λ l. (l ++ p.made inner between.next) ++ results_of names inner c) s1
            ∙ ap (λ k. ((before.stmts ++ (arguments_of names inner c ++ mark_of inner c ∷ [])) ++ p.made inner k) ++ results_of names inner c) first
            ∙ in_a_row before.stmts (arguments_of names inner c) (mark_of inner c) (p.made inner (suc j)) (results_of names inner c)
            ∙ ap whole is;
        next = omega (arith, n2, bn, n1);
        steps = m ∙ ap (λ l. step.Opened (argument_items_of c) (all_steps l) (result_items_of c) ∷ []) b.steps;
      }
