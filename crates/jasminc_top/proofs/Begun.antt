-- A text that was begun, and what was read of it.
use Rattle.std.proofs.Common.{◌≡◌, ℕ, List, [], ◌++◌, sym, ◌∙◌, ap, Some, None, Ok, Option}
use Rattle.jz_io.specs.Telling.{Telling, Begins, BeginsAt, Takes, text_of}
use Rattle.jasminc_top.specs.Answers.{HasFile}

begun_at : (E : Type 0) (old new : Telling) (text : Option (List ℕ)) → BeginsAt {E = E} text old new (Ok tt) → text ≡ Some new.left
begun_at E old new (Some text) h = ap Some (sym h.1)
begun_at E old new None h = absurd h.1

-- what was read after it was begun is the front of the file
pub begun : (E : Type 0) (file bytes : List ℕ) (x y z : Option Telling) → Begins {E = E} file x y (Ok tt)
    → Takes bytes y z → (rest : List ℕ) × HasFile file x (bytes ++ rest)
begun E file bytes None y z b t = ([], tt)
begun E file bytes (Some x) None z b t = absurd b
begun E file bytes (Some x) (Some y) None b t = absurd t
begun E file bytes (Some x) (Some y) (Some z) b t =
    (z.left, begun_at E x y (text_of x.texts file) b.1 ∙ ap Some t.left)
