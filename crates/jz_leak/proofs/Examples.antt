-- Worked examples of what a transformer makes of a leak, by the definitions alone. The stack pointer at entry is 1000.
use Rattle.std.specs.Prelude.{ℕ, ◌≡◌, refl, true, false, pos, negsuc, List, [], ◌∷◌}
use Rattle.jz_leak.specs.declared.event.Event.{Event}
use Rattle.jz_leak.specs.declared.event.Event.TheVariants as event
use Rattle.jz_leak.specs.declared.transformer.Form.TheVariants as form
use Rattle.jz_leak.specs.declared.transformer.Out.{Out}
use Rattle.jz_leak.specs.declared.transformer.Out.TheVariants as out
use Rattle.jz_leak.specs.declared.transformer.Tr.{Tr}
use Rattle.jz_leak.specs.declared.transformer.Case.TheVariants as case
use Rattle.jz_leak.specs.declared.transformer.Case.TheOpen.{Case-F}
use Rattle.jz_leak.specs.RunLeaks.{over, ran, left, turn, prologue_cut, wanted, body_cut, no_round, round, round_cut, called_cut}
use Rattle.jz_leak.specs.Applying.{Loop, events_for, body_events, if_events, call_events, begun_call_events, turns_events, rounds_events, last_events}

-- an access at an address that names the place of the text, and one at the leaked number
abbrev at : ℕ → List Out
at n = out.Addr (form.Num n) ∷ []

abbrev at_leaked : List Out
at_leaked = out.Addr (form.Leaked 0) ∷ []

abbrev seen : ℕ → Event
seen n = event.Addr n

abbrev op_tr : Tr
op_tr = record { cases = case.Op at_leaked ∷ [] }

abbrev loop : Loop
loop = record { prologue = op_tr; test = at_leaked; more_outs = at 10; body = op_tr; leave_outs = at 20 }

pub forms : events_for (5 ∷ 7 ∷ []) 1000
    (out.Addr (form.Num 9) ∷ out.Addr (form.Leaked 1) ∷ out.Addr (form.Frame (negsuc 7)) ∷ out.Addr (form.Frame (negsuc 1000))
    ∷ out.Addr (form.Indexed (pos 16) 4 0) ∷ out.Branch false ∷ out.Div (form.Leaked 0) (form.Leaked 1) (form.Num 3) ∷ [])
    ≡ seen 9 ∷ seen 7 ∷ seen 992 ∷ seen 18446744073709551615 ∷ seen 1036 ∷ event.Branch false ∷ event.Div 5 7 3 ∷ []
forms = refl

pub then_arm : if_events 1000 (7 ∷ []) true (body_events (ran (8 ∷ []) over) 1000) (Case-F.If at_leaked (at 10) op_tr (at 20) (record { cases = [] }))
    ≡ seen 7 ∷ seen 10 ∷ seen 8 ∷ []
then_arm = refl

pub else_arm : if_events 1000 (7 ∷ []) false (body_events over 1000) (Case-F.If at_leaked (at 10) op_tr (at 20) (record { cases = [] }))
    ≡ seen 7 ∷ seen 20 ∷ []
else_arm = refl

pub turns : turns_events (turn (ran (3 ∷ []) over) (4 ∷ []) (ran (5 ∷ []) over) (left (ran (6 ∷ []) over) (7 ∷ []))) 1000 loop
    ≡ seen 3 ∷ seen 4 ∷ seen 10 ∷ seen 5 ∷ seen 6 ∷ seen 7 ∷ seen 20 ∷ []
turns = refl

pub wanted_turn : turns_events (wanted (ran (3 ∷ []) over) (4 ∷ [])) 1000 loop ≡ seen 3 ∷ seen 4 ∷ seen 10 ∷ []
wanted_turn = refl

pub cut_in_the_prologue : turns_events (prologue_cut (ran (3 ∷ []) over)) 1000 loop ≡ seen 3 ∷ []
cut_in_the_prologue = refl

pub cut_in_the_body : turns_events (body_cut (ran (3 ∷ []) over) (4 ∷ []) (ran (5 ∷ []) over)) 1000 loop ≡ seen 3 ∷ seen 4 ∷ seen 10 ∷ seen 5 ∷ []
cut_in_the_body = refl

pub rounds : rounds_events (round (ran (3 ∷ []) over) (round (ran (4 ∷ []) over) no_round)) 1000 (op_tr ∷ record { cases = case.Op (at 30) ∷ [] } ∷ [])
    ≡ seen 3 ∷ seen 30 ∷ []
rounds = refl

pub cut_round : rounds_events (round_cut (ran (3 ∷ []) over)) 1000 (op_tr ∷ op_tr ∷ []) ≡ seen 3 ∷ []
cut_round = refl

pub call : call_events 1000 (3 ∷ []) (5 ∷ []) (body_events (ran (4 ∷ []) over) 1000) (Case-F.Call at_leaked op_tr at_leaked)
    ≡ seen 3 ∷ seen 4 ∷ seen 5 ∷ []
call = refl

pub cut_call : begun_call_events 1000 (3 ∷ []) (body_events (ran (4 ∷ []) over) 1000) (Case-F.Call at_leaked op_tr at_leaked) ≡ seen 3 ∷ seen 4 ∷ []
cut_call = refl

-- what stands behind the body
pub at_the_end : last_events over 1000 (out.Addr (form.Frame (pos 0)) ∷ []) ≡ seen 1000 ∷ []
at_the_end = refl

pub not_reached : last_events (called_cut (3 ∷ []) over) 1000 (at 2) ≡ []
not_reached = refl
