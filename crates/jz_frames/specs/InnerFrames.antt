-- What the code has of a frame so far.
use Rattle.std.specs.Prelude.{ℕ, zero, suc, ◌+◌, ◌≡◌, if◌then◌else◌, List, [], ◌∷◌, ◌++◌, flat_map, Option, Some, None}
use Rattle.jz_tree.specs.Span.{Span}
use Rattle.jz_tree.specs.declared.expr.Var.{Var}
use Rattle.jz_tree.specs.declared.expr.Expr.TheViews.{out-Var}
use Rattle.jz_tree.specs.declared.stmt.Stmt.{Stmt}
use Rattle.jz_tree.specs.declared.program.Fun.{Fun}
use Rattle.jz_type_names.specs.Order.{is_before}
use Rattle.jz_type_names.specs.Parts.{layer_of}
use Rattle.jz_inline.specs.Names.{Names}
use Rattle.jz_frames.specs.declared.frame.Frame.{Frame}
use Rattle.jz_frames.specs.declared.frame.CallHere.{CallHere}
use Rattle.jz_frames.specs.Frames.{Called, Group, merged, groups, frame_in, copies_in, layer_called}

-- the number of the last copy that a u32 holds
abbrev pub last_number : ℕ
last_number = 4294967295

-- the first variables that do not stand behind a place
abbrev pub ahead : Span → List Var → List Var
ahead at [] = []
ahead at (v ∷ vs) = if is_before at (out-Var v).span then [] else (v ∷ ahead at vs)

-- a call, if there is one
abbrev pub here_of : Option CallHere → List Called
here_of None = []
here_of (Some c) = record { at = c.span; of = c.of.now; args = c.args.now } ∷ []

-- the calls that statements are, without what stands in them
abbrev pub calls_from : List Fun → ℕ → List Stmt → List Called
calls_from fs left ss = flat_map (λ s. layer_called fs left (layer_of s)) ss

-- what calls bring, where calls may be so deep
abbrev pub groups_in : List Fun → ℕ → Names → ℕ → List Called → List Group
groups_in fs zero names j cs = []
groups_in fs (suc depth) names j cs = groups (frame_in fs depth) (copies_in fs depth) names j cs

abbrev pub all_copies : (Fun → ℕ) → List Called → ℕ
all_copies copies [] = 0
all_copies copies (c ∷ cs) = suc (copies c.of) + all_copies copies cs

-- how many copies calls make
abbrev pub needed : List Fun → ℕ → List Called → ℕ
needed fs zero cs = 0
needed fs (suc depth) cs = all_copies (copies_in fs depth) cs

-- these variables more, and so many copies
pub record IsGrown (before now : Frame) (more : List Var) (copies : ℕ) : Type 0 where
  pub vars : now.vars ≡ before.vars ++ more
  pub next : now.next ≡ before.next + copies

-- The variables of a function before these calls and what the calls bring are there, whatever calls
-- come behind them.
pub record Brings
    (fs : List Fun) (left : ℕ) (names : Names) (here : List Called) (before now : Frame)
    (declared rest : List Var) : Type 0 where
  pub vars : (cs : List Called)
      → before.vars ++ merged names declared (groups_in fs left names before.next (here ++ cs))
      ≡ now.vars ++ merged names rest (groups_in fs left names now.next cs)
  pub next : now.next ≡ before.next + needed fs left here
