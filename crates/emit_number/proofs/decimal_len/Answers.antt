use Rattle.std.proofs.Common.{sym, arith}
use Rattle.numerals.proofs.Decimals.{dec_one_length}
use Rattle.emit_number.proofs.PowerLength.{power_length}
use Rattle.emit_number.proofs.decimal_len.Goals as goal

pub returns-in-None : goal.returns-in-None
returns-in-None c = (sym (dec_one_length c.args.v (omega (arith, c.in-None.ensures.none))), omega arith)

pub returns-in-Some : goal.returns-in-Some
returns-in-Some c = (sym (power_length c.in-Some.k c.args.v c.in-Some.ensures.power_le c.in-Some.ensures.next_power_gt), omega (arith, c.in-Some.ensures.bound))
