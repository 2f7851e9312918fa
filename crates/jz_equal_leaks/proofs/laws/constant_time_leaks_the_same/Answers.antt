use Rattle.jz_meaning.specs.Statements.{source}
use Rattle.jz_labels.specs.Operations.{plain_of, tested_by}
use Rattle.jz_labels.specs.Labels.{label_steps}
use Rattle.jz_labels.specs.Required.{label_asks}
use Rattle.jz_equal_leaks.specs.Fixed.{IsFixedOperation, IsFixedTest}
use Rattle.jz_equal_leaks.specs.Agreeing.{Agree}
use Rattle.jz_equal_leaks.proofs.Bodies.{runs_same}
use Rattle.jz_equal_leaks.proofs.Operations.{keeps_agreeing}
use Rattle.jz_equal_leaks.proofs.Entry.{leaks_same}
use Rattle.jz_equal_leaks.proofs.laws.constant_time_leaks_the_same.Goals as goal

pub returns-clause-bodies : goal.returns-clause-bodies
returns-clause-bodies c = λ in_frame arrays s x body f m n a b g o q h i.
    runs_same (IsFixedOperation in_frame) (IsFixedTest in_frame) (label_steps plain_of tested_by arrays)
    (label_asks plain_of tested_by arrays) source (Agree in_frame arrays) (keeps_agreeing in_frame arrays)
    body s x f m n a b g o q h i

pub returns-clause-functions : goal.returns-clause-functions
returns-clause-functions c = λ f body x t vs ws e m k n o q g d. leaks_same f body x t vs ws e m k n o q g d
