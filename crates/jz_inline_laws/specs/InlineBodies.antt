-- What typing gives of inline variables in the bodies of a program. A body is a tree in which each
-- call holds the body that it calls.
use Rattle.std.specs.Prelude.{ℕ, ◌≡◌, ◌⊎◌, ◌||◌, Bool, true, false, not, List, [], ◌∷◌, All, Contains}
use Rattle.jz_tree.specs.declared.program.Fun.{Fun}
use Rattle.jz_tree.specs.declared.program.Param.{Param}
use Rattle.jz_tree.specs.declared.program.Program.{Program}
use Rattle.jz_type_names.specs.Kinds.{is_inline}
use Rattle.jz_type_rows.specs.Exports.{is_exported}
use Rattle.jz_meaning.specs.Trees.{done, op, choose, loop, each, call}
use Rattle.jz_meaning.specs.Statements.{Operation, Condition, Counter, Call, Block}
use Rattle.jz_meaning.specs.Runs.{body_of}
use Rattle.jz_meaning.specs.Values.{ref_of}
use Rattle.jz_typed_runs.specs.TypedTexts.{IsTypedText}
use Rattle.jz_unroll.specs.Values.{InlineNames}
use Rattle.jz_unrolling_laws.specs.AskedLaws.{is_text, has_named}
use Rattle.jz_unrolling_laws.specs.CalledBodies.{inlines_of, IsNamedOp, IsNamedCounter, IsNamedCall}
use Rattle.jz_inline_laws.specs.InlineParts.{inline_in, NameSet, Within, WithinAnd, IsInlineVar, IsPlainVar, SetsInline, CountsInline, PassAll, GiveAll}

-- ---- bodies

-- inside: a `while` or an `if` that is not inline stands round it. Of the names before and behind:
-- where those are set before, on each path, these are set behind.
pub data IsInlineBody (p : Program) (f : Fun) : Bool → NameSet → Block → NameSet → Type 0 where
  inline_done : {i : Bool} {s : NameSet} → IsInlineBody p f i s done s
  inline_op :
      {i : Bool} {s s1 s2 : NameSet} {o : Operation} {r : Block}
      → IsNamedOp (inlines_of f) o → SetsInline (inline_in f) i s o s1
      → IsInlineBody p f i s1 r s2 → IsInlineBody p f i s (op o r) s2
  inline_choose :
      {i : Bool} {s sa sb s1 s2 : NameSet} {c : Condition} {a b r : Block}
      → is_text c.cond ≡ true → has_named (inline_in f) c.cond ≡ true
      → IsInlineBody p f (not (is_inline c.cond) || i) s a sa
      → IsInlineBody p f (not (is_inline c.cond) || i) s b sb
      → Within (inline_in f) s1 sa → Within (inline_in f) s1 sb → IsInlineBody p f i s1 r s2
      → IsInlineBody p f i s (choose c a b r) s2
  inline_loop :
      {h i : Bool} {s sq sb s2 : NameSet} {c : Condition} {q b r : Block}
      → is_text c.cond ≡ true → has_named (inline_in f) c.cond ≡ true
      → IsInlineBody p f true s q sq → IsInlineBody p f true sq b sb
      → IsInlineBody p f i sq r s2
      → IsInlineBody p f i s (loop h q c b r) s2
  inline_each :
      {i : Bool} {s sc sb s2 : NameSet} {k : Counter} {b r : Block}
      → IsNamedCounter (inlines_of f) k → CountsInline (inline_in f) k
      → WithinAnd (inline_in f) sc s k.counter → IsInlineBody p f i sc b sb
      → IsInlineBody p f i s r s2 → IsInlineBody p f i s (each k b r) s2
  inline_call :
      {i : Bool} {s s1 s2 : NameSet} {q : Call} {b r : Block}
      → Contains p.funs q.callee → b ≡ body_of p q.callee
      → IsNamedCall (inlines_of f) (inlines_of q.callee) q
      → PassAll (inline_in f) (inline_in q.callee) q.callee.params q.args
      → GiveAll (inline_in f) (inline_in q.callee) q.to q.callee.result
      → Within (inline_in f) s1 s → IsInlineBody p f i s1 r s2
      → IsInlineBody p f i s (call q b r) s2

-- ---- functions

-- one of these parameters is inline and has that name
abbrev pub HasInlineParam : InlineNames → List Param → List ℕ → Type 0
HasInlineParam names [] n = ⊥
HasInlineParam names (q ∷ qs) n =
    (((ref_of q.var).name ≡ n) × IsInlineVar names q.var) ⊎ HasInlineParam names qs n

-- before its body an inline variable is set only where it is a parameter
pub record IsInlineFun (p : Program) (f : Fun) : Type 0 where
  pub before : NameSet
  pub behind : NameSet
  pub given :
      (n : List ℕ)
      → inline_in f n 0 ≡ true → before n ≡ true → HasInlineParam (inline_in f) f.params n
  pub body : IsInlineBody p f false before (body_of p f) behind
  -- no result is inline, and of a function that is exported no parameter
  pub results : All (IsPlainVar (inline_in f)) f.result
  pub exported : is_exported f.kind ≡ true → All (λ q. IsPlainVar (inline_in f) q.var) f.params

abbrev pub InlineLaw : Type 0
InlineLaw = (p : Program) → IsTypedText p → All (IsInlineFun p) p.funs
