-- `remainder::of_iban` meets its contract.
use Rattle.check_characters.proofs.Digits.{of_whole}
use Rattle.check_characters.proofs.remainder.of_iban.Goals as goal

pub returns : goal.returns
returns c = of_whole c.args.symbols.now c.behind.result.number c.behind-2.result.number (cc) (cc)
