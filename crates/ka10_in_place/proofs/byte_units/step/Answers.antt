use Rattle.ka10_deeds.specs.declared.bytes.ByteStep.TheVariants.{Increment, FirstPart, Load, LoadSecond, Deposit, DepositSecond}
use Rattle.ka10_in_place.proofs.ByteLemmas.{stepped_in_place}
use Rattle.ka10_in_place.proofs.byte_units.step.Goals as goal

pub returns-in-Increment : goal.returns-in-Increment
returns-in-Increment g c = stepped_in_place g.P.Pages.means c.args.space c.args.regs.now c.args.pages.now c.increment.new.pages c.increment.new.regs c.increment.result Increment c.args.code c.args.ac c.args.e (c.in-Increment.ensures c.args.ac c.args.e) c.increment.ensures

pub returns-in-FirstPart : goal.returns-in-FirstPart
returns-in-FirstPart g c = stepped_in_place g.P.Pages.means c.args.space c.args.regs.now c.args.pages.now c.first_part.new.pages c.first_part.new.regs c.first_part.result FirstPart c.args.code c.args.ac c.args.e (c.in-FirstPart.ensures c.args.ac c.args.e) c.first_part.ensures

pub returns-in-Load : goal.returns-in-Load
returns-in-Load g c = stepped_in_place g.P.Pages.means c.args.space c.args.regs.now c.args.pages.now c.load_byte.new.pages c.load_byte.new.regs c.load_byte.result Load c.args.code c.args.ac c.args.e (c.in-Load.ensures c.args.ac c.args.e) c.load_byte.ensures

pub returns-in-LoadSecond : goal.returns-in-LoadSecond
returns-in-LoadSecond g c = stepped_in_place g.P.Pages.means c.args.space c.args.regs.now c.args.pages.now c.load_byte-in-LoadSecond.new.pages c.load_byte-in-LoadSecond.new.regs c.load_byte-in-LoadSecond.result LoadSecond c.args.code c.args.ac c.args.e (c.in-LoadSecond.ensures c.args.ac c.args.e) c.load_byte-in-LoadSecond.ensures

pub returns-in-Deposit : goal.returns-in-Deposit
returns-in-Deposit g c = stepped_in_place g.P.Pages.means c.args.space c.args.regs.now c.args.pages.now c.deposit_byte.new.pages c.deposit_byte.new.regs c.deposit_byte.result Deposit c.args.code c.args.ac c.args.e (c.in-Deposit.ensures c.args.ac c.args.e) c.deposit_byte.ensures

pub returns-in-DepositSecond : goal.returns-in-DepositSecond
returns-in-DepositSecond g c = stepped_in_place g.P.Pages.means c.args.space c.args.regs.now c.args.pages.now c.deposit_byte-in-DepositSecond.new.pages c.deposit_byte-in-DepositSecond.new.regs c.deposit_byte-in-DepositSecond.result DepositSecond c.args.code c.args.ac c.args.e (c.in-DepositSecond.ensures c.args.ac c.args.e) c.deposit_byte-in-DepositSecond.ensures
