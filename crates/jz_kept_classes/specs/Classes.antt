-- What a pass of the expansion keeps of operands and results: the class of each. What had none may
-- have one behind, as a mask whose number was an inline variable; it is no flag then.
use Rattle.std.specs.Prelude.{◌≡◌, true, false}
use Rattle.jz_tree.specs.declared.expr.Expr.{Expr}
use Rattle.jz_tree.specs.declared.stmt.Lval.{Lval}
use Rattle.jz_select.specs.declared.class.Class.{Class}
use Rattle.jz_select.specs.declared.class.Class.TheVariants as class
use Rattle.jz_select.specs.Look.{look_of}
use Rattle.jz_select.specs.Operands.{class_of, dest_of}
use Rattle.jz_select.specs.Rows.{is_flag, is_skip}
use Rattle.jz_select.specs.Shapes.{has_flags}

pub data KeepsClass : Class → Class → Type 0 where
  the_same : {c : Class} → KeepsClass c c
  from_other : {c : Class} → is_flag c ≡ false → is_skip c ≡ false → KeepsClass class.Other c

pub record KeepsOperand (e b : Expr) : Type 0 where
  pub kept : KeepsClass (class_of e) (class_of b)
  -- an inline integer and an inline condition stay what they are, and the terms of a sum
  pub inline : (look_of e).inline ≡ true → (look_of b).inline ≡ true
  pub condition : (look_of e).condition ≡ true → (look_of b).condition ≡ true
  pub sum : (look_of e).sum.good ≡ true → (look_of b).sum ≡ (look_of e).sum
  -- what has an instruction as a condition has one
  pub flags : has_flags e ≡ true → has_flags b ≡ true

pub record KeepsClasses (T : Expr → Expr) (L : Lval → Lval) : Type 0 where
  pub expressions : (e : Expr) → KeepsOperand e (T e)
  pub lefts : (d : Lval) → KeepsClass (dest_of d) (dest_of (L d))
