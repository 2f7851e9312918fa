use Rattle.std.proofs.Common.{rules}
use Rattle.jz_operands.specs.TableHomes.{homes_of}
use Rattle.jz_operands.proofs.SumLemmas.{none_or}
use Rattle.jz_pinned_rows.specs.declared.row.Acts.{Acts}
use Rattle.jz_pinned_rows.specs.Rows.{actions_of, items_of}
use Rattle.jz_one_flag_row.specs.Forms.{IsLea}
use Rattle.jz_instructions.proofs.AddressLemmas.{no_lea_address, no_lea_register, lea_is}
use Rattle.jz_instructions.proofs.addressing.lea_row.Goals as goal

pub returns : goal.returns
returns c = lea_is (homes_of c.args.target.now.homes.now) c.args.target.now.to.now c.args.operand.now c.args.target.now.size c.in_ok-address.address c.in_ok-register.register c.requires c.in_ok-address.ensures c.in_ok-register.ensures

pub returns-in_err-address : goal.returns-in_err-address
returns-in_err-address c = none_or {A = Acts} (λ a. IsLea (homes_of c.args.target.now.homes.now) c.args.target.now.to.now c.args.operand.now (actions_of a) (items_of a)) c.from_residual.result (search rules) (no_lea_address (homes_of c.args.target.now.homes.now) c.args.target.now.to.now c.args.operand.now c.in_err-address.ensures)

pub returns-in_err-register : goal.returns-in_err-register
returns-in_err-register c = none_or {A = Acts} (λ a. IsLea (homes_of c.args.target.now.homes.now) c.args.target.now.to.now c.args.operand.now (actions_of a) (items_of a)) c.from_residual-in_err-register.result (search rules) (no_lea_register (homes_of c.args.target.now.homes.now) c.args.target.now.to.now c.args.operand.now c.args.target.now.size c.requires c.in_err-register.ensures)
