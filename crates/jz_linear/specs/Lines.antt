-- The lines of a tree, and what its leaks become.
use Rattle.std.specs.Prelude.{ℕ, ◌+◌, List, [], ◌∷◌, ◌++◌, Bool, true, false, not, Option, Some, None}
use Rattle.x64_insn.specs.declared.types.Insn.{Insn}
use Rattle.x64_insn.specs.declared.types.Insn.TheVariants as insn
use Rattle.x64_insn.specs.declared.types.Operand.{Operand}
use Rattle.x64_insn.specs.declared.types.Operand.TheVariants as operand
use Rattle.x64_insn.specs.declared.types.Cond.{Cond}
use Rattle.x64_insn.specs.declared.types.Cond.TheVariants as cond
use Rattle.x64_insn.specs.declared.types.Wide.{Wide}
use Rattle.x64_insn.specs.declared.types.Wide.TheVariants as wide
use Rattle.jz_leak.specs.declared.transformer.Form.TheVariants as form
use Rattle.jz_leak.specs.declared.transformer.Out.{Out}
use Rattle.jz_leak.specs.declared.transformer.Out.TheVariants as out
use Rattle.jz_leak.specs.declared.transformer.Case.{Case}
use Rattle.jz_leak.specs.declared.transformer.Case.TheVariants as case
use Rattle.jz_runs.specs.Trees.{done, op, quiet, choose, loop, each, call}
use Rattle.jz_placing.specs.Instructions.{Test, always, if_holds, Code}
use Rattle.jz_linear.specs.declared.line.Line.{Line}
use Rattle.jz_linear.specs.declared.line.Line.TheVariants as line

-- ---- conditions
abbrev pub negated : Cond → Cond
negated cond.O = cond.No
negated cond.No = cond.O
negated cond.B = cond.Ae
negated cond.Ae = cond.B
negated cond.E = cond.Ne
negated cond.Ne = cond.E
negated cond.Be = cond.A
negated cond.A = cond.Be
negated cond.S = cond.Ns
negated cond.Ns = cond.S
negated cond.P = cond.Np
negated cond.Np = cond.P
negated cond.L = cond.Ge
negated cond.Ge = cond.L
negated cond.Le = cond.G
negated cond.G = cond.Le

-- ---- lines
-- how many labels a tree takes
abbrev pub labels_in : Code → ℕ
labels_in done = 0
labels_in (op i r) = labels_in r
labels_in (quiet i r) = labels_in r
labels_in (choose c a b r) = 2 + labels_in a + labels_in b + labels_in r
labels_in (loop q p c b r) = 2 + labels_in p + labels_in b + labels_in r
labels_in (each f b r) = 0
labels_in (call c b r) = 0

-- how many operations, branches and loops it has
abbrev pub parts_in : Code → ℕ
parts_in done = 0
parts_in (op i r) = 1 + parts_in r
parts_in (quiet i r) = parts_in r
parts_in (choose c a b r) = 1 + parts_in a + parts_in b + parts_in r
parts_in (loop q p c b r) = 1 + parts_in p + parts_in b + parts_in r
parts_in (each f b r) = 0
parts_in (call c b r) = 0

-- it has no instruction
abbrev pub is_empty : Code → Bool
is_empty done = true
is_empty (quiet i r) = is_empty r
is_empty _ = false

-- the instruction of a test
abbrev pub test_lines : Option Insn → List Line
test_lines None = []
test_lines (Some i) = line.Insn i ∷ []

-- behind the first part of an `if`: a jump over the other part, where that has an instruction
abbrev pub else_lines : ℕ → Bool → List Line → List Line
else_lines n true b = line.Label n ∷ b
else_lines n false b = line.Jmp (n + 1) ∷ line.Label n ∷ (b ++ line.Label (n + 1) ∷ [])

-- an `if`: the negated condition goes to the other part; `true` has no test
abbrev pub choice_lines : Test → ℕ → Bool → List Line → List Line → List Line
choice_lines always n e a b = a ++ else_lines n e b
choice_lines (if_holds i c) n e a b =
    test_lines i ++ (line.Jcc (negated c) n ∷ (a ++ else_lines n e b))

-- a `while`, behind the instruction of its test: with a body the negated condition leaves it;
-- without one, b being empty then, the condition itself goes back
abbrev pub jump_lines : Bool → Cond → ℕ → List Line → List Line
jump_lines false c n b =
    line.Jcc (negated c) (n + 1) ∷ (b ++ line.Jmp n ∷ line.Label (n + 1) ∷ [])
jump_lines true c n b = line.Jcc c n ∷ b

-- and behind its prologue; `true` has no test
abbrev pub turn_lines : Bool → Test → ℕ → List Line → List Line
turn_lines q always n b = b ++ line.Jmp n ∷ []
turn_lines q (if_holds i c) n b = test_lines i ++ jump_lines q c n b

abbrev pub loop_lines : Bool → Test → ℕ → List Line → List Line → List Line
loop_lines q c n p b = line.Label n ∷ (p ++ turn_lines q c n b)

-- the lines of a tree, the first of its labels being n; an `if` and a `while` take two labels each,
-- before those of their parts
abbrev pub lines_of : Code → ℕ → List Line
lines_of done n = []
lines_of (op i r) n = line.Insn i ∷ lines_of r n
lines_of (quiet i r) n = lines_of r n
lines_of (choose c a b r) n =
    choice_lines c n (is_empty b) (lines_of a (n + 2)) (lines_of b (n + 2 + labels_in a))
    ++ lines_of r (n + 2 + labels_in a + labels_in b)
lines_of (loop q p c b r) n =
    loop_lines q c n (lines_of p (n + 2)) (lines_of b (n + 2 + labels_in p))
    ++ lines_of r (n + 2 + labels_in p + labels_in b)
lines_of (each f b r) n = []
lines_of (call c b r) n = []

-- and the return
abbrev pub linear_of : Code → List Line
linear_of t = lines_of t 0 ++ line.Insn insn.Ret ∷ []

-- ---- what leaks become
-- an access to an operand has the first number
abbrev pub access_outs : Operand → List Out
access_outs (operand.Mem a) = out.Addr (form.Leaked 0) ∷ []
access_outs other = []

-- of two operands at most one is in memory
abbrev pub either_outs : Operand → Operand → List Out
either_outs (operand.Mem a) from = out.Addr (form.Leaked 0) ∷ []
either_outs to from = access_outs from

-- a division has three numbers, behind that of an access
abbrev pub division_outs : Operand → List Out
division_outs (operand.Mem a) =
    out.Addr (form.Leaked 0) ∷ out.Div (form.Leaked 1) (form.Leaked 2) (form.Leaked 3) ∷ []
division_outs other = out.Div (form.Leaked 0) (form.Leaked 1) (form.Leaked 2) ∷ []

abbrev pub wide_outs : Wide → Operand → List Out
wide_outs wide.Mul rm = access_outs rm
wide_outs wide.Imul rm = access_outs rm
wide_outs wide.Div rm = division_outs rm
wide_outs wide.Idiv rm = division_outs rm

abbrev pub outs_of : Insn → List Out
outs_of (insn.Alu o s to from) = either_outs to from
outs_of (insn.Mov s to from) = either_outs to from
outs_of (insn.Extend signed to from r rm) = access_outs rm
outs_of (insn.One o s rm) = access_outs rm
outs_of (insn.Wide o s rm) = wide_outs o rm
outs_of (insn.Imul s r rm) = access_outs rm
outs_of (insn.ImulBy s r rm i) = access_outs rm
outs_of (insn.Shift kind s rm n) = access_outs rm
outs_of (insn.Set c rm) = access_outs rm
outs_of (insn.Cmov c s r rm) = access_outs rm
outs_of other = []

abbrev pub compared_outs : Option Insn → List Out
compared_outs None = []
compared_outs (Some i) = outs_of i

abbrev pub test_outs : Test → List Out
test_outs always = []
test_outs (if_holds i c) = compared_outs i

-- the jump's event, where it is taken or not
abbrev pub jump_outs : Test → Bool → List Out
jump_outs always taken = []
jump_outs (if_holds i c) taken = out.Branch taken ∷ []

-- one case for each item
abbrev pub cases_of : Code → List Case
cases_of done = []
cases_of (op i r) = case.Op (outs_of i) ∷ cases_of r
cases_of (quiet i r) = cases_of r
cases_of (choose c a b r) =
    case.If (test_outs c) (jump_outs c false) (record { cases = cases_of a })
    (jump_outs c true) (record { cases = cases_of b }) ∷ cases_of r
cases_of (loop q p c b r) =
    case.While (record { cases = cases_of p }) (test_outs c) (jump_outs c q)
    (record { cases = cases_of b }) (jump_outs c (not q)) ∷ cases_of r
cases_of (each f b r) = []
cases_of (call c b r) = []
