-- What operations, marks and tests do to facts, as the rules of facts along a body.
use Rattle.jz_meaning.specs.Statements.{Operation, Condition}
use Rattle.jz_flow.specs.Flow.{Steps}
use Rattle.jz_facts.specs.Facts.{Fact, Given}
use Rattle.jz_facts.specs.Holding.{does, quieted}
use Rattle.jz_facts.specs.Tests.{tested, leaves}

abbrev pub fact_steps : Given → Steps Operation Condition Fact
fact_steps g =
    record { does = does g; quiets = quieted; tests = tested g; leaves = leaves g }
