-- Which bodies have operations in all their parts.
use Rattle.std.proofs.Common.{List, [], ◌∷◌, ◌++◌, subst}
use Rattle.std.specs.Prelude.{All, ⊤}
use Rattle.std.proofs.lemmas.List.Elements.{All-nil, All-cons, All-append, All-head, All-tail}
use Rattle.jz_tree.specs.Span.{Span}
use Rattle.jz_runs.specs.Trees.{done, op, quiet, choose, loop, each, call}
use Rattle.jz_meaning.specs.Statements.{Block}
use Rattle.jz_operations.specs.Rows.{Frame}
use Rattle.jz_placing.specs.Variables.{Body}
use Rattle.jz_change.specs.Changes.{Change}
use Rattle.jz_pass.specs.Unrolling.{Unrolls, u_done, u_op, u_quiet, u_if, u_arm, u_while, u_once, u_for}
use Rattle.jz_homes.specs.Homes.{Homes, IsHoming}
use Rattle.jz_every_row.specs.Bodies.{lowering, IsLowered}
use Rattle.jz_total_flags.specs.Bodies.{IsReadyBody, HavePatterns}
use Rattle.jz_total_flags.proofs.Tests.{tests_there, loop_tests_there}
use Rattle.jz_total_flags.proofs.Whole.{operations_there}
use Rattle.jz_lowering.specs.Parts.{Part, does, asks, asks_each, parts_in, HasCode, IsFirstWithout}

module _ (home : Homes) where
  abbrev AllCode : List Part → Type 0
  AllCode ps = All (HasCode home) ps

  one_before : (p : Part) (ps : List Part) → HasCode home p → AllCode ps → AllCode (p ∷ ps)
  one_before p ps h k = All-cons (HasCode home) p ps h k

  three : (xs ys zs : List Part) → AllCode xs → AllCode ys → AllCode zs → AllCode (xs ++ (ys ++ zs))
  three xs ys zs a b c = All-append (HasCode home) xs (ys ++ zs) a (All-append (HasCode home) ys zs b c)

  -- ---- what is lowered
  body_code : {e e1 : ⊤} {b : Block} {rest u : Body} {k : Change} → Unrolls (lowering home) b e rest u e1 k → AllCode (parts_in b)
  body_code u_done = All-nil (HasCode home)
  body_code (u_op {o = o} {r = b} {os = os} {is = is} l r) = one_before (does o) (parts_in b) (os, is, l) (body_code r)
  body_code (u_quiet l r) = body_code r
  body_code (u_if {p = p} {p2 = p2} {i = i} l x y ea eb r) = one_before (asks p) _ (p2, i, l.2) (three _ _ _ (body_code x) (body_code y) (body_code r))
  body_code (u_arm c x r) = absurd c
  body_code (u_while {p = p} {p2 = p2} {i = i} e0 l q b eb e3 r) = one_before (asks_each p) _ (p2, i, l.2) (three _ _ _ (body_code q) (body_code b) (body_code r))
  body_code (u_once q c r) = absurd c
  body_code (u_for v e r) = absurd v

  pub lowered_code : (b : Block) (u : Body) (k : Change) → IsLowered home b u k → AllCode (parts_in b)
  lowered_code b u k h = body_code h.made

  -- ---- what is ready
  module _ (frame : Frame) (homing : IsHoming frame home) where
    pub ready_code : (b : Block) → IsReadyBody home b → HavePatterns b → AllCode (parts_in b)
    ready_code done r p = All-nil (HasCode home)
    ready_code (op o b) r p = one_before (does o) (parts_in b) (operations_there frame home o homing r.0 p.0) (ready_code b r.1 p.1)
    ready_code (quiet o b) r p = ready_code b r p
    ready_code (choose c a b t) r p = one_before (asks c) _ (tests_there home c r.0) (three (parts_in a) (parts_in b) (parts_in t) (ready_code a r.1 p.0) (ready_code b r.2 p.1) (ready_code t r.3 p.2))
    ready_code (loop q before c b t) r p =
        one_before (asks_each c) _ (loop_tests_there home c r.0) (three (parts_in before) (parts_in b) (parts_in t) (ready_code before r.1 p.0) (ready_code b r.2 p.1) (ready_code t r.3 p.2))
    ready_code (each f b t) r p = absurd r
    ready_code (call c b t) r p = absurd r

  -- ---- either all have operations, or one has none
  in_front : (xs : List Part) (p : Part) (ys : List Part) → AllCode (xs ++ (p ∷ ys)) → HasCode home p
  in_front [] p ys h = All-head (HasCode home) p ys h
  in_front (x ∷ xs) p ys h = in_front xs p ys (All-tail (HasCode home) x (xs ++ (p ∷ ys)) h)

  pub never_both : (ps : List Part) (at : Span) → AllCode ps → IsFirstWithout home ps at → ⊥
  never_both ps at all f = f.none (in_front f.front f.part f.back (subst AllCode f.split all))
