-- What private contracts alone say: what is live in code with branches and loops, from the back,
-- for one variable.
use Rattle.std.specs.Prelude.{◌≡◌, ℕ, ◌+◌, List, [], ◌∷◌, ◌++◌, Bool, false, not, ◌&&◌, ◌||◌, Option, Some, None, map, reverse}
use Rattle.jz_bits.specs.Has.{has, HasExactly}
use Rattle.jz_ir.specs.declared.code.Op.{Op}
use Rattle.jz_ir.specs.Paths.{among}
use Rattle.jz_ir.specs.Tree.{Tree, done, op, choose, loop}

-- live before an operation, by what is live after it: read, or not written and live after
abbrev pub transfer : Bool → Bool → Bool → Bool
transfer is_read is_written is_live_after = is_read || (not is_written && is_live_after)

module _ (variable : ℕ) where
  abbrev pub reads : Op → Bool
  reads operation = among operation.reads variable

  abbrev pub writes : Op → Bool
  writes operation = among operation.writes variable

  -- live before and after the test of a loop, by what is live at the body and behind the loop
  abbrev pub test_before : Option Op → Bool → Bool → Bool
  test_before None at_body behind = at_body
  test_before (Some test) at_body behind = transfer (reads test) (writes test) (at_body || behind)

  abbrev pub test_after : Option Op → Bool → Bool → List Bool
  test_after None at_body behind = []
  test_after (Some test) at_body behind = (at_body || behind) ∷ []

  -- live at the front of a block, by whether it is live behind it
  abbrev pub live_before : Tree → Bool → Bool
  live_before done behind = behind
  live_before (op operation rest) behind =
      transfer (reads operation) (writes operation) (live_before rest behind)
  live_before (choose test then_part else_part rest) behind =
      transfer (reads test) (writes test)
      (live_before then_part (live_before rest behind)
      || live_before else_part (live_before rest behind))
  live_before (loop prologue test body rest) behind =
      live_before prologue (test_before test (live_before body false) (live_before rest behind))

  -- live after each operation, in the order of the code
  abbrev pub live_after_each : Tree → Bool → List Bool
  live_after_each done behind = []
  live_after_each (op operation rest) behind = live_before rest behind ∷ live_after_each rest behind
  live_after_each (choose test then_part else_part rest) behind =
      (live_before then_part (live_before rest behind)
      || live_before else_part (live_before rest behind))
      ∷ (live_after_each then_part (live_before rest behind)
      ++ (live_after_each else_part (live_before rest behind) ++ live_after_each rest behind))
  live_after_each (loop prologue test body rest) behind =
      let at_head : Bool = live_before (loop prologue test body rest) behind in
      live_after_each prologue
      (test_before test (live_before body at_head) (live_before rest behind))
      ++ (test_after test (live_before body at_head) (live_before rest behind)
      ++ (live_after_each body at_head ++ live_after_each rest behind))

-- whether each row has the variable, where the rows stand in the reverse order of the code
abbrev pub column : ℕ → List (List ℕ) → List Bool
column variable rows = map (λ row. has row variable) (reverse rows)

-- ---- sets of variables, by what is live behind the code
-- the set has what is live before the code
abbrev pub LiveBefore : Tree → List ℕ → List ℕ → Type 0
LiveBefore tree behind live = HasExactly live (λ v. live_before v tree (has behind v))

-- the set has what is live before the test of a loop
abbrev pub LiveBeforeTest : Option Op → List ℕ → List ℕ → List ℕ → Type 0
LiveBeforeTest test at_body behind live =
    HasExactly live (λ v. test_before v test (has at_body v) (has behind v))

-- the rows have become those of the code as well, which stand behind the older ones
abbrev pub AddsLive : Tree → List ℕ → List (List ℕ) → List (List ℕ) → Type 0
AddsLive tree behind old new =
    (v : ℕ) → column v new ≡ live_after_each v tree (has behind v) ++ column v old

-- the same of the test of a loop
abbrev pub AddsTest : Option Op → List ℕ → List ℕ → List (List ℕ) → List (List ℕ) → Type 0
AddsTest test at_body behind old new =
    (v : ℕ) → column v new ≡ test_after v test (has at_body v) (has behind v) ++ column v old

-- how many operations and loops there are
abbrev pub size : Tree → ℕ
size done = 0
size (op operation rest) = 1 + size rest
size (choose test then_part else_part rest) = 1 + size then_part + size else_part + size rest
size (loop prologue test body rest) = 1 + size prologue + size body + size rest
