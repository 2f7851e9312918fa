use Rattle.jasminc_top.proofs.Settling.{reply_runs, failure_runs}
use Rattle.jasminc_top.proofs.Promises.{keeps_promises}
use Rattle.jasminc_top.proofs.run.jasminc_run.Goals as goal

pub returns-in-Ok : goal.returns-in-Ok
returns-in-Ok g c = keeps_promises _ (reply_runs _ _ _ c.as_slice.ensures c.in-Ok.ensures c.deliver.ensures)

pub returns-in-Err-Refused : goal.returns-in-Err-Refused
returns-in-Err-Refused g c = keeps_promises _ (failure_runs _ _ _ c.in-Err-Refused.field-0-is c.in-Err-Refused.ensures c.deliver_refusal.ensures)
