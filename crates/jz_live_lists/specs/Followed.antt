-- Code of which some variables alone are looked at.
use Rattle.std.specs.Prelude.{ℕ, List, [], Option, Some, None, IsTrue}
use Rattle.std.specs.List.{filter}
use Rattle.jz_bits.specs.Has.{has}
use Rattle.jz_ir.specs.declared.code.Op.{Op}
use Rattle.jz_ir.specs.Tree.{Tree, done, op, choose, loop, LiveInTree}

-- the variable is one of these, and live after the operation i
abbrev pub FollowedLive : List ℕ → Tree → ℕ → ℕ → Type 0
FollowedLive followed tree i v = IsTrue (has followed v) × LiveInTree tree i v

-- the operation reads and writes these variables alone; nothing else of it is told
abbrev pub only : List ℕ → Op → Op
only followed x = record {
  span = x.span;
  reads = filter (has followed) x.reads;
  writes = filter (has followed) x.writes;
  fixed = [];
  needs = [];
}

abbrev pub only_test : List ℕ → Option Op → Option Op
only_test followed None = None
only_test followed (Some x) = Some (only followed x)

abbrev pub only_tree : List ℕ → Tree → Tree
only_tree followed done = done
only_tree followed (op x r) = op (only followed x) (only_tree followed r)
only_tree followed (choose c a b r) =
    choose (only followed c) (only_tree followed a) (only_tree followed b) (only_tree followed r)
only_tree followed (loop p c b r) =
    loop (only_tree followed p) (only_test followed c) (only_tree followed b) (only_tree followed r)
