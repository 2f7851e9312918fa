use Rattle.std.proofs.Common.{BuildHasherDefault, FoldHasher, ◌≡◌, ◌<◌, ◌≤◌, ◌+◌, ◌*◌, length, get_or, true, false, Some, None, refl, sym, ap, ◌∙◌, subst, arith, rules}
use Rattle.std.specs.Prelude.{suc, not, is_some, slice_get}
use Rattle.jz_runs.specs.Trees.{done, op, quiet, choose, loop}
use Rattle.jz_meaning.specs.Statements.{Condition, unset}
use Rattle.jz_meaning.specs.Runs.{block, statement_tree}
use Rattle.jz_flow.specs.Sets.{common}
use Rattle.jz_facts.specs.Tests.{leaves}
use Rattle.jz_fact_sets.specs.Kept.{given_of, facts_of, known_at, known_or}
use Rattle.jz_fact_sets.specs.Meeting.{amount, Falls}
use Rattle.jz_block_facts.specs.Heads.{no_callees, HasNoFor, laid}
use Rattle.jz_block_facts.specs.Pieces.{body_piece, operation_of, answered}
use Rattle.jz_block_facts.specs.InnerWalks.{Place, place_of, loop_piece, turn_piece, prologue_piece, condition_of}
use Rattle.jz_block_facts.proofs.LaidFacts.{returned, facts_seen, facts_as, over_facts, none_more}
use Rattle.jz_block_facts.proofs.Splitting.{if_is, assign_is, mark_is, for_is, while_is}
use Rattle.jz_block_facts.proofs.Measures.{weights, body_weight, weights_at, weight_if, weight_while, falls_to}
use Rattle.jz_block_facts.proofs.Turning.{prologue_ready, rest_ready, never_empty, each_way, begins, still_there, turned, ends}
use Rattle.jz_block_facts.proofs.Leading.{nothing_leads, none_on, one_ready, one_on, all_on, ready_as, leads_as, ready_from, leads_from, op_leads, quiet_leads, yes_ready, no_ready, arms_lead}
use Rattle.jz_block_facts.proofs.walk.+walk.Goals as goal

-- ---- statements in their order

pub walk_block-walk_statement-requires : goal.walk_block-walk_statement-requires
walk_block-walk_statement-requires t c =
    let ss = c.args.stmts.now in
    let lt : c.loop-stmt.stmt-index < length ss = search rules in
    let is : c.stmt-item.result ≡ get_or ss c.loop-stmt.stmt-index c.stmt-item.result = search rules in
    let fits = weights_at ss c.loop-stmt.stmt-index c.stmt-item.result lt is in
    (omega (arith, fits, c.decreases), one_ready c.args.given.now ss c.loop-stmt.stmt-index c.stmt-item.result _ _ lt is c.loop-stmt.invariant.1)

pub walk_block-loop-stmt-init : goal.walk_block-loop-stmt-init
walk_block-loop-stmt-init t c = (refl, none_on c.args.given.now c.args.stmts.now _ c.requires)

pub walk_block-loop-stmt-preserved : goal.walk_block-loop-stmt-preserved
walk_block-loop-stmt-preserved t c =
    let ss = c.args.stmts.now in
    let lt : c.loop-stmt.stmt-index < length ss = search rules in
    let is : c.stmt-item.result ≡ get_or ss c.loop-stmt.stmt-index c.stmt-item.result = search rules in (
      c.in_ok-next.ensures.below ∙ c.loop-stmt.invariant.0,
      one_on c.args.given.now ss c.loop-stmt.stmt-index c.stmt-item.result _ _ _ lt is c.loop-stmt.invariant.1 c.in_ok-next.ensures.leads,
    )

pub walk_block-returns-clause-leads : goal.walk_block-returns-clause-leads
walk_block-returns-clause-leads t c =
    let ss = c.args.stmts.now in
    let le : length ss ≤ c.loop-stmt.stmt-index = search rules in
    all_on c.args.given.now ss c.loop-stmt.stmt-index _ _ le c.loop-stmt.invariant.1

-- ---- one statement

pub walk_statement-returns-in_ok-after_single-in-Assign-clause-leads : goal.walk_statement-returns-in_ok-after_single-in-Assign-clause-leads
walk_statement-returns-in_ok-after_single-in-Assign-clause-leads t c =
    let g = c.args.given.now in
    let s = c.args.stmt.now in
    let a = c.in-Assign in
    let o = operation_of a.to a.op a.rhs a.cond s.span in
    leads_as g (op o) (statement_tree no_callees s) _ _ (assign_is s a.to a.op a.rhs a.cond a.is)
    (op_leads g o (place_of g c.args.set.now c.args.at c.args.heads.now) (facts_of g c.after_single.new.set) c.requires.within (c.in_ok-after_single-in-Assign.ensures.facts s.span))

pub walk_statement-walk_arm-requires : goal.walk_statement-walk_arm-requires
walk_statement-walk_arm-requires t c =
    let g = c.args.given.now in
    let s = c.args.stmt.now in
    let i = c.in-If in
    let q : Condition = record { cond = i.cond; at = s.span } in
    let w = weight_if s i.cond i.yes i.no i.is in (
      omega (arith, w, c.decreases),
      yes_ready g q (block no_callees i.yes) (block no_callees i.no) _ (ready_as g (statement_tree no_callees s) (choose q (block no_callees i.yes done) (block no_callees i.no done)) _ (if_is s i.cond i.yes i.no i.is) c.requires),
    )

pub walk_statement-walk_arm-requires-in-If : goal.walk_statement-walk_arm-requires-in-If
walk_statement-walk_arm-requires-in-If t c =
    let g = c.args.given.now in
    let s = c.args.stmt.now in
    let i = c.in-If in
    let q : Condition = record { cond = i.cond; at = s.span } in
    let w = weight_if s i.cond i.yes i.no i.is in
    let zero = c.args.set.now in
    let one = c.walk_arm.new.set in
    let same = facts_seen g zero one c.in_ok-first-in-If.ensures.seen in (
      omega (arith, w, c.decreases),
      ready_from g (block no_callees i.no) (answered g i.cond false (facts_of g zero)) (answered g i.cond false (facts_of g one)) _ _ (ap (answered g i.cond false) (sym same))
          (no_ready g q (block no_callees i.yes) (block no_callees i.no) (place_of g zero c.args.at c.args.heads.now) _ (ready_as g (statement_tree no_callees s) (choose q (block no_callees i.yes done) (block no_callees i.no done)) _ (if_is s i.cond i.yes i.no i.is) c.requires) c.in_ok-first-in-If.ensures.leads),
    )

pub walk_statement-returns-in_ok-meet_both-in-If-clause-below : goal.walk_statement-returns-in_ok-meet_both-in-If-clause-below
walk_statement-returns-in_ok-meet_both-in-If-clause-below t c = c.in_ok-meet_both-in-If.ensures.below ∙ c.in_ok-second-in-If.ensures.below ∙ c.in_ok-first-in-If.ensures.below

pub walk_statement-returns-in_ok-meet_both-in-If-clause-leads : goal.walk_statement-returns-in_ok-meet_both-in-If-clause-leads
walk_statement-returns-in_ok-meet_both-in-If-clause-leads t c =
    let g = c.args.given.now in
    let s = c.args.stmt.now in
    let i = c.in-If in
    let q : Condition = record { cond = i.cond; at = s.span } in
    let zero = c.args.set.now in
    let one = c.walk_arm.new.set in
    let two = c.walk_arm-in-If.new.set in
    let first = c.in_ok-first-in-If.first.table in
    let second = c.in_ok-second-in-If.second.table in
    let same = facts_seen g zero one c.in_ok-first-in-If.ensures.seen in
    let more = facts_seen g one two c.in_ok-second-in-If.ensures.seen in
    leads_as g (choose q (block no_callees i.yes done) (block no_callees i.no done)) (statement_tree no_callees s) _ _ (if_is s i.cond i.yes i.no i.is)
    (arms_lead g q (block no_callees i.yes) (block no_callees i.no) (facts_of g zero) (facts_of g one) _ _ _ _ _ _ (laid g first (facts_of g zero)) (laid g second (facts_of g one)) (facts_of g c.meet_both.new.set) same
    c.in_ok-first-in-If.ensures.leads c.in_ok-second-in-If.ensures.leads
    (c.in_ok-meet_both-in-If.ensures.facts g c.requires.different
    ∙ ap (λ x. common (laid g first x) (laid g second (facts_of g two))) (more ∙ same)
    ∙ ap (λ x. common (laid g first (facts_of g zero)) (laid g second x)) more))

pub walk_statement-walk_while-requires : goal.walk_statement-walk_while-requires
walk_statement-walk_while-requires t c =
    let g = c.args.given.now in
    let s = c.args.stmt.now in
    let i = c.in-While in
    let w = weight_while s i.prologue i.cond i.body i.is in (
      omega (arith, w, c.decreases),
      ready_as g (statement_tree no_callees s) (loop (not (is_some i.body)) (block no_callees i.prologue done) (record { cond = i.cond; at = s.span }) (body_piece i.body done)) _ (while_is s i.prologue i.cond i.body i.is) c.requires,
    )

pub walk_statement-returns-in_ok-next-in-While-clause-leads : goal.walk_statement-returns-in_ok-next-in-While-clause-leads
walk_statement-returns-in_ok-next-in-While-clause-leads t c =
    let g = c.args.given.now in
    let s = c.args.stmt.now in
    let i = c.in-While in
    leads_as g (loop (not (is_some i.body)) (block no_callees i.prologue done) (record { cond = i.cond; at = s.span }) (body_piece i.body done)) (statement_tree no_callees s) _ _ (while_is s i.prologue i.cond i.body i.is) c.in_ok-next-in-While.ensures.leads

pub walk_statement-returns-in_ok-after_mark-in-Mark-clause-leads : goal.walk_statement-returns-in_ok-after_mark-in-Mark-clause-leads
walk_statement-returns-in_ok-after_mark-in-Mark-clause-leads t c =
    let g = c.args.given.now in
    let s = c.args.stmt.now in
    let xs = c.in-Mark.vars in
    leads_as g (quiet (unset xs)) (statement_tree no_callees s) _ _ (mark_is s xs c.in-Mark.is)
    (quiet_leads g (unset xs) (place_of g c.args.set.now c.args.at c.args.heads.now) (facts_of g c.after_mark.new.set) c.requires.within (c.in_ok-after_mark-in-Mark.ensures.facts g))

-- ---- an arm

pub walk_arm-walk_block-requires : goal.walk_arm-walk_block-requires
walk_arm-walk_block-requires t c =
    (omega (arith, c.decreases), ready_from c.args.given.now (block no_callees c.args.stmts.now) _ _ c.args.at c.args.heads.now (sym c.in_ok-open_arm.ensures.facts) c.requires)

pub walk_arm-returns-clause-below : goal.walk_arm-returns-clause-below
walk_arm-returns-clause-below t c =
    (returned c.args.set.now c.taken-table.new.set c.walk_block.new.set.below.items (c.in_ok-next.ensures.below ∙ c.in_ok-open_arm.ensures.below) c.taken-table.ensures.below).0

pub walk_arm-returns-clause-seen : goal.walk_arm-returns-clause-seen
walk_arm-returns-clause-seen t c =
    (returned c.args.set.now c.taken-table.new.set c.walk_block.new.set.below.items (c.in_ok-next.ensures.below ∙ c.in_ok-open_arm.ensures.below) c.taken-table.ensures.below).1

pub walk_arm-returns-clause-leads : goal.walk_arm-returns-clause-leads
walk_arm-returns-clause-leads t c =
    let g = c.args.given.now in
    let back = returned c.args.set.now c.taken-table.new.set c.walk_block.new.set.below.items (c.in_ok-next.ensures.below ∙ c.in_ok-open_arm.ensures.below) c.taken-table.ensures.below in
    leads_from g (block no_callees c.args.stmts.now) _ _ _ _ c.args.at c.in_ok-next.next c.args.heads.now c.walk_block.new.heads c.in_ok-open_arm.ensures.facts
    (c.taken-table.ensures.facts g ∙ ap (laid g c.taken-table.result) (facts_as g (known_at c.args.set.now) (known_at c.taken-table.new.set) back.2))
    c.in_ok-next.ensures.leads

-- ---- the rest of a turn

pub walk_rest-returns-in_ok-open_arm-in-None-clause-below : goal.walk_rest-returns-in_ok-open_arm-in-None-clause-below
walk_rest-returns-in_ok-open_arm-in-None-clause-below t c = (returned c.args.set.now c.taken-table.new.set c.open_arm.new.set.below.items c.in_ok-open_arm-in-None.ensures.below c.taken-table.ensures.below).0

pub walk_rest-returns-in_ok-open_arm-in-None-clause-seen : goal.walk_rest-returns-in_ok-open_arm-in-None-clause-seen
walk_rest-returns-in_ok-open_arm-in-None-clause-seen t c = (returned c.args.set.now c.taken-table.new.set c.open_arm.new.set.below.items c.in_ok-open_arm-in-None.ensures.below c.taken-table.ensures.below).1

pub walk_rest-returns-in_ok-open_arm-in-None-clause-leads : goal.walk_rest-returns-in_ok-open_arm-in-None-clause-leads
walk_rest-returns-in_ok-open_arm-in-None-clause-leads t c =
    let g = c.args.given.now in
    let s = facts_of g c.args.set.now in
    let p : Place (BuildHasherDefault FoldHasher) = record { facts = answered g c.args.parts.cond.now true s; next = c.args.at; heads = c.args.heads.now } in
    let back = returned c.args.set.now c.taken-table.new.set c.open_arm.new.set.below.items c.in_ok-open_arm-in-None.ensures.below c.taken-table.ensures.below in
    leads_as g (λ r. r) (turn_piece c.args.parts) _ _ (ap body_piece c.in-None.is)
    (leads_from g (λ r. r) _ _ _ _ c.args.at c.args.at c.args.heads.now c.args.heads.now refl
    (sym c.in_ok-open_arm-in-None.ensures.facts ∙ c.taken-table.ensures.facts g ∙ ap (laid g c.taken-table.result) (facts_as g (known_at c.args.set.now) (known_at c.taken-table.new.set) back.2))
    (nothing_leads g p c.requires.within))

pub walk_rest-walk_arm-requires : goal.walk_rest-walk_arm-requires
walk_rest-walk_arm-requires t c =
    let w = ap body_weight c.in-Some.is in
    (omega (arith, w, c.decreases), ready_as c.args.given.now (turn_piece c.args.parts) (block no_callees c.in-Some.stmts) _ (ap body_piece c.in-Some.is) c.requires)

pub walk_rest-returns-in_ok-arm-in-Some-clause-leads : goal.walk_rest-returns-in_ok-arm-in-Some-clause-leads
walk_rest-returns-in_ok-arm-in-Some-clause-leads t c =
    leads_as c.args.given.now (block no_callees c.in-Some.stmts) (turn_piece c.args.parts) _ _ (ap body_piece c.in-Some.is) c.in_ok-arm-in-Some.ensures.leads

-- ---- a turn

pub walk_turn-walk_block-requires : goal.walk_turn-walk_block-requires
walk_turn-walk_block-requires t c =
    let g = c.args.given.now in (
      omega (arith, c.decreases),
      ready_from g (prologue_piece c.args.parts) _ _ c.args.at c.args.heads.now (sym (facts_seen g c.args.set.now c.open.new.self c.in_ok-open.ensures.seen))
          (prologue_ready g c.args.parts _ c.requires),
    )

pub walk_turn-walk_rest-requires : goal.walk_turn-walk_rest-requires
walk_turn-walk_rest-requires t c =
    let g = c.args.given.now in
    let same = facts_seen g c.args.set.now c.open.new.self c.in_ok-open.ensures.seen in (
      omega (arith, c.decreases),
      rest_ready g c.args.parts (place_of g c.args.set.now c.args.at c.args.heads.now) (place_of g c.walk_block.new.set c.in_ok-middle.middle c.walk_block.new.heads) c.requires
          (leads_from g (prologue_piece c.args.parts) _ _ _ _ c.args.at c.in_ok-middle.middle c.args.heads.now c.walk_block.new.heads same refl c.in_ok-middle.ensures.leads),
    )

pub walk_turn-returns-clause-below : goal.walk_turn-returns-clause-below
walk_turn-returns-clause-below t c =
    (returned c.args.set.now c.taken-prologue.new.set c.walk_rest.new.set.below.items (c.in_ok-arm.ensures.below ∙ c.in_ok-middle.ensures.below ∙ c.in_ok-open.ensures.below) c.taken-prologue.ensures.below).0

pub walk_turn-returns-clause-seen : goal.walk_turn-returns-clause-seen
walk_turn-returns-clause-seen t c =
    (returned c.args.set.now c.taken-prologue.new.set c.walk_rest.new.set.below.items (c.in_ok-arm.ensures.below ∙ c.in_ok-middle.ensures.below ∙ c.in_ok-open.ensures.below) c.taken-prologue.ensures.below).1

pub walk_turn-returns-clause-turns : goal.walk_turn-returns-clause-turns
walk_turn-returns-clause-turns t c =
    let g = c.args.given.now in
    let l = c.args.parts in
    let zero = c.args.set.now in
    let two = c.walk_block.new.set in
    let three = c.walk_rest.new.set in
    let four = c.taken-prologue.new.set in
    let s = facts_of g zero in
    let table = c.taken-prologue.result in
    let back = returned zero four three.below.items (c.in_ok-arm.ensures.below ∙ c.in_ok-middle.ensures.below ∙ c.in_ok-open.ensures.below) c.taken-prologue.ensures.below in
    let q = laid g table s in
    let is_q : facts_of g two ≡ q = sym (facts_seen g two three c.in_ok-arm.ensures.seen) ∙ c.taken-prologue.ensures.facts g ∙ ap (laid g table) (facts_as g (known_at zero) (known_at four) back.2) in
    record {
      next = c.in_ok-middle.middle;
      heads = c.walk_block.new.heads;
      prologue = leads_from g (prologue_piece l) _ _ _ _ c.args.at c.in_ok-middle.middle c.args.heads.now c.walk_block.new.heads
          (facts_seen g zero c.open.new.self c.in_ok-open.ensures.seen) is_q c.in_ok-middle.ensures.leads;
      body = leads_from g (turn_piece l) _ _ _ _ c.in_ok-middle.middle c.in_ok-arm.arm.next c.walk_block.new.heads c.walk_rest.new.heads
          (ap (answered g l.cond.now true) is_q) (ap (laid g c.in_ok-arm.arm.table) is_q) c.in_ok-arm.ensures.leads;
    }

-- ---- a loop

pub walk_while-open_head-requires : goal.walk_while-open_head-requires
walk_while-open_head-requires t c = c.requires.within

pub walk_while-loop-turn-init : goal.walk_while-loop-turn-init
walk_while-loop-turn-init t c =
    let g = c.args.given.now in
    let zero = c.args.set.now in
    let one = c.open_head.new.set in
    let n = c.in_ok-inner.ensures.next in
    let inner : c.in_ok-inner.inner ≡ suc c.args.at = omega (arith, n) in (
      c.in_ok-inner.ensures.below,
      c.in_ok-inner.ensures.less,
      begins g c.args.parts (place_of g zero c.args.at c.args.heads.now) (place_of g one c.in_ok-inner.inner c.open_head.new.heads) c.requires inner c.in_ok-inner.ensures.within c.in_ok-inner.ensures.others
          (each_way _ _ _ _ (slice_get c.args.heads.now c.args.at) (λ h. h g) (λ m h. h g c.requires.different) c.in_ok-inner.ensures.facts),
    )

pub walk_while-walk_turn-requires : goal.walk_while-walk_turn-requires
walk_while-walk_turn-requires t c = (omega (arith, c.decreases), c.loop-turn.invariant.2.ready)

pub walk_while-loop-turn-preserved : goal.walk_while-loop-turn-preserved
walk_while-loop-turn-preserved t c =
    let g = c.args.given.now in
    let l = c.args.parts in
    let zero = c.args.set.now in
    let now = c.loop-turn.set in
    let two = c.walk_turn.new.set in
    let three = c.lower_head.new.set in
    let a = c.in_ok-turn.turn in
    let same = facts_seen g now two c.in_ok-turn.ensures.seen in (
      c.in_ok-fell.ensures.below ∙ c.in_ok-turn.ensures.below ∙ c.loop-turn.invariant.0,
      λ k. let x = none_more c.in_ok-fell.fell (known_at two) (known_at three) c.in_ok-fell.ensures.same c.in_ok-fell.ensures.falls k in
          let y = ap (λ s. amount (known_or (s k))) c.in_ok-turn.ensures.seen in
          let z = c.loop-turn.invariant.1 k in
          omega (arith, x, y, z),
      turned g l (place_of g zero c.args.at c.args.heads.now) (place_of g now c.in_ok-inner.inner c.loop-turn.heads) (laid g a.prologue (facts_of g now))
          (record { facts = laid g a.body (laid g a.prologue (facts_of g now)); next = a.next; heads = c.walk_turn.new.heads }) (facts_of g three)
          c.loop-turn.invariant.2 c.in_ok-turn.ensures.turns
          (c.in_ok-fell.ensures.facts g c.requires.different ∙ ap (λ s. common s (laid g a.body (laid g a.prologue s))) same),
    )

pub walk_while-loop-turn-smaller : goal.walk_while-loop-turn-smaller
walk_while-loop-turn-smaller t c =
    let now = c.loop-turn.set in
    let two = c.walk_turn.new.set in
    let three = c.lower_head.new.set in
    let same : known_at two ≡ known_at now = ap (λ s k. known_or (s k)) c.in_ok-turn.ensures.seen in
    falls_to c.args.set.now (known_at now) (known_at three) c.loop-turn.invariant.1 (subst (λ f. Falls f (known_at three)) same (c.in_ok-fell.ensures.falls (search rules)))

pub walk_while-end_loop-requires : goal.walk_while-end_loop-requires
walk_while-end_loop-requires t c =
    let g = c.args.given.now in
    let zero = c.args.set.now in
    let a = c.in_ok-turn.turn in
    let three = c.lower_head.new.set in
    record {
      over = never_empty zero.below.items zero.top three.below.items (c.in_ok-fell.ensures.below ∙ c.in_ok-turn.ensures.below ∙ c.loop-turn.invariant.0);
      words = c.requires.words;
      within = still_there g c.args.parts (place_of g zero c.args.at c.args.heads.now) (place_of g c.loop-turn.set c.in_ok-inner.inner c.loop-turn.heads) _ _ c.loop-turn.invariant.2 c.in_ok-turn.ensures.turns;
    }

pub walk_while-returns-then-not-fell-clause-below : goal.walk_while-returns-then-not-fell-clause-below
walk_while-returns-then-not-fell-clause-below t c = c.in_ok-end_loop.ensures.below c.args.set.now (c.in_ok-fell.ensures.below ∙ c.in_ok-turn.ensures.below ∙ c.loop-turn.invariant.0)

pub walk_while-returns-then-not-fell-clause-leads : goal.walk_while-returns-then-not-fell-clause-leads
walk_while-returns-then-not-fell-clause-leads t c =
    let g = c.args.given.now in
    let l = c.args.parts in
    let zero = c.args.set.now in
    let now = c.loop-turn.set in
    let two = c.walk_turn.new.set in
    let three = c.lower_head.new.set in
    let a = c.in_ok-turn.turn in
    let q = laid g a.prologue (facts_of g now) in
    let z : Place (BuildHasherDefault FoldHasher) = record { facts = laid g a.body q; next = a.next; heads = c.walk_turn.new.heads } in
    let same = facts_seen g now two c.in_ok-turn.ensures.seen in
    let still = facts_as g (known_at two) (known_at three) (c.in_ok-fell.ensures.same (search rules)) ∙ same in
    ends g l (place_of g zero c.args.at c.args.heads.now) (place_of g now c.in_ok-inner.inner c.loop-turn.heads) q z three.top c.end_loop.new.heads (facts_of g c.end_loop.new.set)
    c.loop-turn.invariant.2 c.in_ok-turn.ensures.turns
    (sym (c.in_ok-fell.ensures.facts g c.requires.different ∙ ap (λ s. common s (laid g a.body (laid g a.prologue s))) same) ∙ still)
    (sym still ∙ over_facts g three zero three.top refl (c.in_ok-fell.ensures.below ∙ c.in_ok-turn.ensures.below ∙ c.loop-turn.invariant.0))
    c.in_ok-end_loop.ensures.heads
    (c.in_ok-end_loop.ensures.facts l.span ∙ ap (λ s. leaves (given_of g) (condition_of l) s (laid g a.prologue s)) still)
