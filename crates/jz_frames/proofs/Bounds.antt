-- A function makes no more copies than it has statements.
use Rattle.std.proofs.Common.{ℕ, ◌+◌, ◌≤◌, ◌++◌, length, subst, arith, length-append}
use Rattle.jz_tree.specs.declared.program.Fun.{Fun}
use Rattle.jz_tree.specs.declared.program.Program.{Program}
use Rattle.jz_runs.specs.Trees.{Tree, done, op, quiet, choose, loop, each, call}
use Rattle.jz_meaning.specs.Runs.{callees_of}
use Rattle.jz_pass.specs.Copying.{copies}
use Rattle.jz_copies.specs.Counts.{depths_in, copied_count}
use Rattle.jz_inline.specs.Statements.{copied_funs, body_piece}
use Rattle.jz_inline.proofs.Made.{block_law, both_named}

pub copies_few : {O T F C : Type 0} (t : Tree O T F C) (d : ℕ) → copies t ≤ length (depths_in d t)
unfolding depths_in
copies_few done d = omega arith
copies_few (op o r) d = let h = copies_few r d in omega (arith, h)
copies_few (quiet o r) d = copies_few r d
copies_few (choose t a b r) d =
    let x = copies_few a (d + 1) in let y = copies_few b (d + 1) in let z = copies_few r d in
    let e = length-append (depths_in (d + 1) a ++ depths_in (d + 1) b) (depths_in d r) in
    let g = length-append (depths_in (d + 1) a) (depths_in (d + 1) b) in
    omega (arith, x, y, z, e, g)
copies_few (loop q p t b r) d =
    let x = copies_few p (d + 1) in let y = copies_few b (d + 1) in let z = copies_few r d in
    let e = length-append (depths_in (d + 1) p ++ depths_in (d + 1) b) (depths_in d r) in
    let g = length-append (depths_in (d + 1) p) (depths_in (d + 1) b) in
    omega (arith, x, y, z, e, g)
copies_few (each f b r) d =
    let y = copies_few b (d + 1) in let z = copies_few r d in
    let g = length-append (depths_in (d + 1) b) (depths_in d r) in
    omega (arith, y, z, g)
copies_few (call c b r) d =
    let y = copies_few b (d + 1) in let z = copies_few r d in
    let g = length-append (depths_in (d + 1) b) (depths_in d r) in
    omega (arith, y, z, g)

pub pieces_few : (p : Program) (f : Fun) → (body_piece (copied_funs p.funs (length p.funs)) f.body).copies ≤ copied_count p f
pieces_few p f =
    let law = block_law (callees_of p.funs (length p.funs)) (copied_funs p.funs (length p.funs)) (both_named p.funs (length p.funs)) f.body in
    subst (λ n. n ≤ copied_count p f) law.count (copies_few _ 1)
