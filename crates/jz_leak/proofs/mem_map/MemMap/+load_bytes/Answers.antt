use Rattle.std.proofs.Common.{◌≡◌, ◌<◌, ◌+◌, ◌*◌, arith, refl, sym, ap, ◌∙◌}
use Rattle.std.specs.Prelude.{Some}
use Rattle.jz_words.specs.Memory.{loaded}
use Rattle.jz_words.proofs.MemorySpans.{loaded_none, loaded_no_high, loaded_some, fits_seven_bytes, fits_one_more}
use Rattle.jz_leak.proofs.mem_map.MemMap.+load_bytes.Goals as goal

pub returns-then-count-eq0-clause-value : goal.returns-then-count-eq0-clause-value
unfolding loaded
returns-then-count-eq0-clause-value t c = let e : c.args.count ≡ 0 = omega arith in rw e refl

pub returns-in-None-clause-value : goal.returns-in-None-clause-value
returns-in-None-clause-value t c = let lt : 0 < c.args.count = omega arith in sym (loaded_none _ _ _ lt (sym c.in-None.ensures))

pub returns-in-None-load_bytes-clause-value : goal.returns-in-None-load_bytes-clause-value
returns-in-None-load_bytes-clause-value t c = let lt : 0 < c.args.count = omega arith in sym (loaded_no_high _ _ _ c.in-Some.low lt (sym c.in-Some.ensures) (sym c.in-None-load_bytes.ensures.value))

pub returns-in-Some-load_bytes-clause-value : goal.returns-in-Some-load_bytes-clause-value
returns-in-Some-load_bytes-clause-value t c =
    let lt : 0 < c.args.count = omega arith in
    ap (λ b. Some (b + 256 * c.in-Some-load_bytes.high)) c.from.ensures ∙ sym (loaded_some _ _ _ c.in-Some.low c.in-Some-load_bytes.high lt (sym c.in-Some.ensures) (sym c.in-Some-load_bytes.ensures.value))

pub overflow_mul-result : goal.overflow_mul-result
overflow_mul-result t c = omega (arith, fits_seven_bytes _ _ c.in-Some-load_bytes.ensures.fits (omega arith))

pub overflow_add-result : goal.overflow_add-result
overflow_add-result t c = omega (arith, fits_seven_bytes _ _ c.in-Some-load_bytes.ensures.fits (omega arith))

pub returns-in-Some-load_bytes-clause-fits : goal.returns-in-Some-load_bytes-clause-fits
returns-in-Some-load_bytes-clause-fits t c =
    let lt : 0 < c.args.count = omega arith in
    let b : c.from.result < 256 = omega arith in
    fits_one_more _ _ _ lt b c.in-Some-load_bytes.ensures.fits
