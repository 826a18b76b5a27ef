-- Proofs of the statements in specs/Demand3.
use Rattle.slips.specs.Slips.{swapped}
use Rattle.slips.proofs.Numbers.{single_number, swap_number}
use Rattle.slips.proofs.Ibans.{single_iban, swap_iban}
use Rattle.slips.proofs.Identcodes.{single_identcode, swap_identcode}
use Rattle.demands.proofs.Demand2.{number_exactly, iban_exactly, identcode_exactly}
use Rattle.demands.specs.Demand3.{
  NumberSingleSymbol,
  IbanSingleSymbol,
  IbanSwap,
  NumberSwap,
  IdentcodeSingleDigit,
  IdentcodeSwap,
}

pub number_single_symbol : NumberSingleSymbol
number_single_symbol k s t i es et g = single_number k s t i ((number_exactly k s).0 es) ((number_exactly k t).0 et) g

pub iban_single_symbol : IbanSingleSymbol
iban_single_symbol s t i es et g k = single_iban s t i ((iban_exactly s).0 es) ((iban_exactly t).0 et) g k

pub iban_swap : IbanSwap
iban_swap s i h k es et = swap_iban s i h k ((iban_exactly s).0 es) ((iban_exactly (swapped i s)).0 et)

pub number_swap : NumberSwap
number_swap k s i h n e shaped =
    let sound = swap_number k s i h n ((number_exactly k s).0 e) shaped in
    ((λ et. sound.0 ((number_exactly k (swapped i s)).0 et)), (λ f. (number_exactly k (swapped i s)).1 (sound.1 f)))

pub identcode_single_digit : IdentcodeSingleDigit
identcode_single_digit s t i es et g = single_identcode s t i ((identcode_exactly s).0 es) ((identcode_exactly t).0 et) g

pub identcode_swap : IdentcodeSwap
identcode_swap s i h n e =
    let sound = swap_identcode s i h n ((identcode_exactly s).0 e) in
    ((λ et. sound.0 ((identcode_exactly (swapped i s)).0 et)), (λ f. (identcode_exactly (swapped i s)).1 (sound.1 f)))
