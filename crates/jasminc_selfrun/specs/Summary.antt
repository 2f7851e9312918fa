-- What is summed up of a run of a program that was made of a number.
use Rattle.std.specs.Prelude.{ℕ, List, ◌++◌, length, map, codes, decimal}
use Rattle.std.specs.List.{concat}
use Rattle.x64_insn.specs.declared.types.State.{State}
use Rattle.x64_insn.specs.Rows.{reg_value}
use Rattle.jz_io.specs.declared.verdict.Ct.{Ct}
use Rattle.jz_leak.specs.declared.event.Event.{Event}
use Rattle.jz_listing.specs.declared.compiled.Arg.{Arg}
use Rattle.jz_listing.specs.declared.compiled.Compiled.{Compiled}
use Rattle.jz_listing.specs.Listing.{ct_text}
use Rattle.jasminc_lines.specs.Lines.{quadword_text}
use Rattle.jasminc_selfrun.specs.declared.summing.Origin.{Origin}

-- the seed and the size
unfoldable pub origin_line : Origin → List ℕ
origin_line o =
    codes "seed " ++ decimal o.seed ++ codes " size " ++ decimal o.size ++ codes "\n"

-- a number, by its name
unfoldable pub number_line : List ℕ → ℕ → List ℕ
number_line name n = name ++ codes " " ++ decimal n ++ codes "\n"

-- a result: the number in its register at the end
unfoldable pub value_line : State → Arg → List ℕ
value_line st a = codes "result " ++ quadword_text (reg_value st a.reg) ++ codes "\n"

-- what is listed of constant time
unfoldable pub ct_line : Ct → List ℕ
ct_line ct = codes "ct " ++ ct_text ct ++ codes "\n"

-- Of a run of so many steps with these events, which ended in this state: the seed and the size, how
-- many statements there are in expanded order, how many instructions, steps and events, the results,
-- and whether the code is constant time.
abbrev pub summary_text : Origin → Compiled → State → List Event → ℕ → List ℕ
summary_text o c st events steps =
    origin_line o
    ++ number_line (codes "statements") o.statements ++ number_line (codes "insns") c.insns
    ++ number_line (codes "steps") steps ++ number_line (codes "events") (length events)
    ++ concat (map (value_line st) c.rets) ++ ct_line c.ct
