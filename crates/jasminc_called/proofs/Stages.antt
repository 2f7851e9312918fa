-- What the stages of compiling make of a typed text.
use Rattle.std.proofs.Common.{List, refl, sym, subst}
use Rattle.std.specs.Prelude.{All}
use Rattle.jz_tree.specs.Failure.{Failure}
use Rattle.jz_tree.specs.Failure.TheVariants as failure
use Rattle.jz_tree.specs.Failures.{IfRefused}
use Rattle.jz_tree.specs.declared.program.Program.{Program}
use Rattle.jz_listing.specs.Listing.{listing_text}
use Rattle.jz_listing.specs.declared.compiled.Compiled.{Compiled}
use Rattle.jasminc_source.specs.Exports.{WithinIfExported}
use Rattle.jasminc_compile.specs.CheckSafety.{SafeIfExported}
use Rattle.jasminc_compile.specs.declared.refused.Refused.{Refused}
use Rattle.jasminc_compile.specs.declared.stages.Compilation.{Compilation}
use Rattle.jasminc_compile.specs.Making.{AreMade}
use Rattle.jasminc_compile.specs.Causes.{IsFirstCause}
use Rattle.jasminc_compile.proofs.FirstCauses.{IsLimit, IsAlarm, IsNotMade, limit_first, alarm_first, making_first, all_done}
use Rattle.jasminc_called.specs.InnerMaking.{AreMadeOf, RefusesMaking}

answered : (P Q : Refused → Type 0) (e : Failure Refused) → ((r : Refused) → P r → Q r) → IfRefused e P → IfRefused e Q
answered P Q (failure.Refused r) f h = f r h
answered P Q failure.OutOfMemory f h = tt

module _ (p : Program) where
  pub limits_refuse : (e : Failure Refused) → IfRefused e (IsLimit p) → IfRefused e (RefusesMaking p)
  limits_refuse e h = answered (IsLimit p) (RefusesMaking p) e (λ r k. λ text t. subst (IsFirstCause text) (sym k.1) (limit_first text p t k.0 k.2)) h

  module _ (within : All (WithinIfExported p) p.funs) where
    pub alarms_refuse : (e : Failure Refused) → IfRefused e (IsAlarm p) → IfRefused e (RefusesMaking p)
    alarms_refuse e h = answered (IsAlarm p) (RefusesMaking p) e (λ r k. λ text t. subst (IsFirstCause text) (sym k.1) (alarm_first text p t within k.0 k.2)) h

    module _ (safe : All (SafeIfExported p) p.funs) where
      pub making_refuses : (e : Failure Refused) → IfRefused e (IsNotMade p) → IfRefused e (RefusesMaking p)
      making_refuses e h = answered (IsNotMade p) (RefusesMaking p) e (λ r k. λ text t. subst (IsFirstCause text) (sym k.1) (making_first text p t within safe k.0 k.2)) h

      pub made_so : (made : List Compiled) → AreMade p made → AreMadeOf p made
      made_so made are =
          let all : Compilation = record { functions = made; listing = listing_text made } in
          record { within = within; are_made = are; clear = λ text t. (all_done text p t within safe all are refl).clear }
