-- The operators of two operands.
use Rattle.std.specs.Prelude.{ℕ, zero, suc, List, [], ◌∷◌, ◌++◌, codes, bytes_eq, if◌then◌else◌}
use Rattle.jz_grammar.specs.Token.{Token}
use Rattle.jz_grammar.specs.Kinds.{Kind, sign}
use Rattle.jz_grammar.specs.Tokens.{text_in}
use Rattle.jz_tree.specs.declared.expr.BinOp.{BinOp}
use Rattle.jz_tree.specs.declared.expr.BinOp.TheVariants as op

-- those of each level, the tightest first
abbrev pub ops_of : ℕ → List Kind
ops_of zero = sign (codes "*") ∷ sign (codes "/") ∷ sign (codes "%") ∷ sign (codes "/s") ∷ sign (codes "%s") ∷ []
ops_of (suc zero) = sign (codes "+") ∷ sign (codes "-") ∷ []
ops_of (suc (suc zero)) = sign (codes "<<") ∷ sign (codes ">>") ∷ sign (codes ">>s") ∷ sign (codes "<<r") ∷ sign (codes ">>r") ∷ []
ops_of (suc (suc (suc zero))) = sign (codes "<") ∷ sign (codes "<=") ∷ sign (codes ">") ∷ sign (codes ">=") ∷ sign (codes "<s") ∷ sign (codes "<=s") ∷ sign (codes ">s") ∷ sign (codes ">=s") ∷ []
ops_of (suc (suc (suc (suc zero)))) = sign (codes "==") ∷ sign (codes "!=") ∷ []
ops_of (suc (suc (suc (suc (suc zero))))) = sign (codes "&") ∷ []
ops_of (suc (suc (suc (suc (suc (suc zero)))))) = sign (codes "^") ∷ []
ops_of (suc (suc (suc (suc (suc (suc (suc zero))))))) = sign (codes "|") ∷ []
ops_of (suc (suc (suc (suc (suc (suc (suc (suc zero)))))))) = sign (codes "&&") ∷ []
ops_of (suc (suc (suc (suc (suc (suc (suc (suc (suc k))))))))) = sign (codes "||") ∷ []

-- those that compare words without a sign
abbrev pub orders : List Kind
orders = sign (codes "<") ∷ sign (codes "<=") ∷ sign (codes ">") ∷ sign (codes ">=") ∷ []

-- how many levels there are
abbrev pub level_count : ℕ
level_count = 10

-- those of all levels
abbrev pub operators : List Kind
operators = ops_of 0 ++ (ops_of 1 ++ (ops_of 2 ++ (ops_of 3 ++ (ops_of 4 ++ (ops_of 5 ++ (ops_of 6 ++ (ops_of 7 ++ (ops_of 8 ++ ops_of 9))))))))

-- ---- the operation of each
unfoldable pub joining_of : Token → BinOp
joining_of t = if bytes_eq (text_in t.kind) (codes "&") then op.And
    else if bytes_eq (text_in t.kind) (codes "^") then op.Xor
    else if bytes_eq (text_in t.kind) (codes "|") then op.Or
    else if bytes_eq (text_in t.kind) (codes "&&") then op.AndThen
    else op.OrElse

unfoldable pub comparison_of : Token → BinOp
comparison_of t = if bytes_eq (text_in t.kind) (codes "<") then op.Lt
    else if bytes_eq (text_in t.kind) (codes "<=") then op.Le
    else if bytes_eq (text_in t.kind) (codes ">") then op.Gt
    else if bytes_eq (text_in t.kind) (codes ">=") then op.Ge
    else if bytes_eq (text_in t.kind) (codes "<s") then op.LtS
    else if bytes_eq (text_in t.kind) (codes "<=s") then op.LeS
    else if bytes_eq (text_in t.kind) (codes ">s") then op.GtS
    else if bytes_eq (text_in t.kind) (codes ">=s") then op.GeS
    else if bytes_eq (text_in t.kind) (codes "==") then op.Eq
    else if bytes_eq (text_in t.kind) (codes "!=") then op.Ne
    else joining_of t

unfoldable pub shift_of : Token → BinOp
shift_of t = if bytes_eq (text_in t.kind) (codes "<<") then op.Shl
    else if bytes_eq (text_in t.kind) (codes ">>") then op.Shr
    else if bytes_eq (text_in t.kind) (codes ">>s") then op.Sar
    else if bytes_eq (text_in t.kind) (codes "<<r") then op.Rol
    else if bytes_eq (text_in t.kind) (codes ">>r") then op.Ror
    else comparison_of t

unfoldable pub op_of : Token → BinOp
op_of t = if bytes_eq (text_in t.kind) (codes "*") then op.Mul
    else if bytes_eq (text_in t.kind) (codes "/") then op.Div
    else if bytes_eq (text_in t.kind) (codes "%") then op.Rem
    else if bytes_eq (text_in t.kind) (codes "/s") then op.DivS
    else if bytes_eq (text_in t.kind) (codes "%s") then op.RemS
    else if bytes_eq (text_in t.kind) (codes "+") then op.Add
    else if bytes_eq (text_in t.kind) (codes "-") then op.Sub
    else shift_of t
