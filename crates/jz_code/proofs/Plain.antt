-- The instructions of a body are such as become lines.
use Rattle.std.proofs.Common.{◌≡◌, ℕ, zero, suc, ◌+◌, ◌*◌, ◌≤◌, Bool, true, false, ◌&&◌, List, [], ◌∷◌, length, Option, Some, None, refl, arith}
use Rattle.std.specs.Prelude.{slice_index}
use Rattle.x64_insn.specs.declared.types.Place.{Place}
use Rattle.x64_insn.specs.declared.types.Reg.{Reg}
use Rattle.x64_insn.specs.declared.types.Operand.{Operand}
use Rattle.jz_words.specs.declared.size.Size.{Size}
use Rattle.jz_words.specs.declared.size.Size.TheVariants.{S8, S16, S32, S64}
use Rattle.jz_words.specs.Sizes.{bytes_of}
use Rattle.jz_ir.specs.Places.{Below, place_at, IsPlacing}
use Rattle.jz_ir.specs.Tree as ir
use Rattle.jz_live.specs.Lives.{TreeBelow, TestBelow}
use Rattle.jz_runs.specs.Trees.{done, op, quiet, choose, loop, each, call}
use Rattle.jz_operations.specs.declared.operation.Arg.{Arg}
use Rattle.jz_operations.specs.declared.operation.Arg.TheVariants as arg
use Rattle.jz_operations.specs.declared.operation.Action.{Action}
use Rattle.jz_operations.specs.declared.operation.Action.TheVariants as action
use Rattle.jz_operations.specs.declared.operation.Operation.{Operation}
use Rattle.jz_operations.specs.declared.operation.Stacked.{Stacked}
use Rattle.jz_operations.specs.Reading.{seen_of}
use Rattle.jz_operations.specs.Insns.{base_of, operand_of, extend_of, sign_of, insn_of}
use Rattle.jz_encodable.specs.Encodable.{AreNear, IsEncodable}
use Rattle.jz_placing.specs.Flow.{asked_op, flow}
use Rattle.jz_placing.specs.Variables.{Asked, always, asks, Body, test_of}
use Rattle.jz_placing.specs.Placing as placing
use Rattle.jz_placing.specs.Placing.{test_for, code_of}
use Rattle.jz_place.specs.declared.tree.Ir.{Ir}
use Rattle.jz_place.specs.Bodies.{body_of, returns_of, seen_code, LiveInWhole}
use Rattle.jz_place.specs.Codes.{TestFits, BodyFits}
use Rattle.jz_place.specs.Sorts.{AreSorted}
use Rattle.jz_linear.specs.Plain as plain
use Rattle.jz_linear.specs.Plain.{is_no_rip, names_no_rip, is_plain, IsPlain, IsPlainTest, IsPlainCode}
use Rattle.jz_linear.specs.Lines.{parts_in}
use Rattle.jz_stack.specs.Laying.{begins_at, ends_at, offsets_from, end_from}
use Rattle.jz_stack.proofs.Laid.{end_above}
use Rattle.jz_codable.specs.Ready.{TestEncodable, HasForm, AreEncodable, parts_of, IsReady}
use Rattle.jz_code.specs.Made.{slots_by}
use Rattle.jz_code.proofs.Trees.{body_below, among_below, off_stack}

-- ---- no instruction of an operation is a jump, and none names RIP
both_true : (a b : Bool) → a ≡ true → b ≡ true → (a && b) ≡ true
both_true true b e f = f
both_true false b e f = e

module _ (places : ℕ → Place) (slots : ℕ → ℕ) where
  base_plain : (b : Option ℕ) → is_no_rip (base_of places slots b) ≡ true
  base_plain None = refl
  base_plain (Some v) = refl

  operand_plain : (a : Arg) (s : Size) → names_no_rip (operand_of places slots a s) ≡ true
  operand_plain (arg.Var v) s = refl
  operand_plain (arg.Imm i) s = refl
  operand_plain (arg.Mem a) s = base_plain a.base
  operand_plain (arg.Cell c) s = refl
  operand_plain (arg.At r p) s = refl

  extend_plain : (sign : Bool) (to from : Size) (r : Reg) (rm : Operand) → names_no_rip rm ≡ true → is_plain (extend_of sign to from r rm) ≡ true
  extend_plain true to from r rm h = h
  extend_plain false S8 from r rm h = h
  extend_plain false S16 from r rm h = h
  extend_plain false S32 from r rm h = h
  extend_plain false S64 S8 r rm h = h
  extend_plain false S64 S16 r rm h = h
  extend_plain false S64 S32 r rm h = h
  extend_plain false S64 S64 r rm h = h

  sign_plain : (s : Size) → is_plain (sign_of s) ≡ true
  sign_plain S8 = refl
  sign_plain S16 = refl
  sign_plain S32 = refl
  sign_plain S64 = refl

  insn_plain : (a : Action) → is_plain (insn_of places slots a) ≡ true
  insn_plain (action.Alu o s to from p) = both_true _ _ (operand_plain to s) (operand_plain from s)
  insn_plain (action.Mov s to from) = both_true _ _ (operand_plain to s) (operand_plain from s)
  insn_plain (action.Extend sign to from v rm) = extend_plain sign to from _ (operand_of places slots rm from) (operand_plain rm from)
  insn_plain (action.Lea v a) = base_plain a.base
  insn_plain (action.One o s rm) = operand_plain rm s
  insn_plain (action.Wide o s l h rm) = operand_plain rm s
  insn_plain (action.Imul s v rm) = operand_plain rm s
  insn_plain (action.ImulBy s v rm i) = operand_plain rm s
  insn_plain (action.Shift kind s rm n) = operand_plain rm s
  insn_plain (action.ShiftBy kind s rm p) = operand_plain rm s
  insn_plain (action.Bswap s v) = refl
  insn_plain (action.Sign s l h) = sign_plain s
  insn_plain (action.Set c rm) = operand_plain rm S8
  insn_plain (action.Cmov c s v rm) = operand_plain rm s

  -- ---- a body
  form_plain : (q : Bool) (b : Body) → HasForm q b → plain.HasForm q (code_of places slots b)
  form_plain false b h = tt
  form_plain true done h = tt
  form_plain true (op o r) h = absurd h
  form_plain true (quiet o r) h = absurd h
  form_plain true (choose c a b r) h = absurd h
  form_plain true (loop q p c b r) h = absurd h
  form_plain true (each f b r) h = absurd f
  form_plain true (call c b r) h = absurd c

  asks_plain : (c : Asked) → placing.Asks c → plain.Asks (test_for places slots c)
  asks_plain always h = h
  asks_plain (asks None k) h = tt
  asks_plain (asks (Some o) k) h = tt

  pub parts_are : (t : Body) → parts_in (code_of places slots t) ≡ parts_of t
  parts_are done = refl
  parts_are (op o r) = let h = parts_are r in omega (arith, h)
  parts_are (quiet o r) = parts_are r
  parts_are (choose c a b r) = let x = parts_are a in let y = parts_are b in let z = parts_are r in omega (arith, x, y, z)
  parts_are (loop q p c b r) = let x = parts_are p in let y = parts_are b in let z = parts_are r in omega (arith, x, y, z)
  parts_are (each f b r) = absurd f
  parts_are (call c b r) = absurd c

module _ (f : Ir) (list : List Place) (rule : IsPlacing (seen_code f) (LiveInWhole f) list) (slots : ℕ → ℕ) (near : AreNear slots) where
  abbrev places : ℕ → Place
  places v = place_at list v

  abbrev n : ℕ
  n = length f.kinds

  op_plain : (o : Operation) → Below n (seen_of o) → IsEncodable o → IsPlain (insn_of places slots o.action)
  op_plain o b e = (
    insn_plain places slots o.action,
    e.spelled places slots near (record {
      reads = λ v t. off_stack f list rule v (among_below n (seen_of o).reads v b.reads t);
      writes = λ v t. off_stack f list rule v (among_below n (seen_of o).writes v b.writes t);
    }),
  )

  if_plain : (c : Asked) → TestEncodable c → Below n (asked_op (test_of c)) → IsPlainTest (test_for places slots c)
  if_plain always e b = tt
  if_plain (asks None k) e b = tt
  if_plain (asks (Some o) k) e b = op_plain o b e

  while_plain : (c : Asked) → TestEncodable c → TestBelow n (test_of c) → IsPlainTest (test_for places slots c)
  while_plain always e b = tt
  while_plain (asks None k) e b = tt
  while_plain (asks (Some o) k) e b = op_plain o b e

  body_plain : (t : Body) (rest : ir.Tree) → TreeBelow n (flow seen_of test_of t rest) → AreEncodable t → AreSorted f.kinds t → IsPlainCode (code_of places slots t)
  body_plain done rest b e s = tt
  body_plain (op o r) rest b e s = (op_plain o b.0 e.0, body_plain r rest b.1 e.1 s.1)
  body_plain (quiet o r) rest b e s = body_plain r rest b e s
  body_plain (choose c x y r) rest b e s =
      (if_plain c e.0 b.0, asks_plain places slots c s.1, body_plain x ir.done b.1 e.1 s.2, body_plain y ir.done b.2 e.2 s.3, body_plain r rest b.3 e.3 s.4)
  body_plain (loop q p c y r) rest b e s =
      (while_plain c e.1 b.1, form_plain places slots q y e.2, body_plain p ir.done b.0 e.0 s.0, body_plain y ir.done b.2 e.3 s.2, body_plain r rest b.3 e.4 s.3)
  body_plain (each g b r) rest h e s = absurd g
  body_plain (call c b r) rest h e s = absurd c

  pub code_plain : IsReady f → IsPlainCode (code_of places slots (body_of f.body))
  code_plain ready = body_plain (body_of f.body) (returns_of f) (body_below f ready.within) ready.encodable ready.sorted

-- ---- displacements
test_fits : (slots : ℕ → ℕ) → AreNear slots → (c : Asked) → TestEncodable c → TestFits slots c
test_fits slots near always e = tt
test_fits slots near (asks None k) e = tt
test_fits slots near (asks (Some o) k) e = e.fits slots near

pub body_fits : (slots : ℕ → ℕ) → AreNear slots → (t : Body) → AreEncodable t → BodyFits slots t
body_fits slots near done e = tt
body_fits slots near (op o r) e = let h = e.0 in (h.fits slots near, body_fits slots near r e.1)
body_fits slots near (quiet o r) e = body_fits slots near r e
body_fits slots near (choose c a b r) e = (test_fits slots near c e.0, body_fits slots near a e.1, body_fits slots near b e.2, body_fits slots near r e.3)
body_fits slots near (loop q p c b r) e = (body_fits slots near p e.0, test_fits slots near c e.1, body_fits slots near b e.3, body_fits slots near r e.4)
body_fits slots near (each f b r) e = absurd f
body_fits slots near (call c b r) e = absurd c

offset_below : (ss : List Stacked) (end v : ℕ) → slice_index (offsets_from end ss) v ≤ end_from end ss
offset_below [] end v = omega arith
offset_below (s ∷ ss) end zero = let h = end_above ss (ends_at end s) in let e : begins_at end s + s.count * bytes_of s.size ≡ ends_at end s = refl in omega (arith, h, e)
offset_below (s ∷ ss) end (suc v) = offset_below ss (ends_at end s) v

pub slots_near : (ss : List Stacked) → end_from 0 ss ≤ 65536 → AreNear (slots_by ss)
slots_near ss le v = let h = offset_below ss 0 v in omega (arith, h, le)
