-- A refusal as numbers.
use Rattle.std.specs.Prelude.{ℕ, ◌+◌, ◌*◌, ◌%◌, get_or}
use Rattle.errors.specs.Refusals.{number_of, details_of}
use Rattle.errors.specs.declared.Refusal.{Refusal}
use Rattle.host.specs.declared.reasons.Reason.{Reason}

-- a number in the lowest byte, a detail in the seven above it
abbrev pub number_and_detail : ℕ → ℕ → ℕ
number_and_detail number detail = number % 256 + 256 * (detail % 72057594037927936)

-- a refusal's number, and its first detail
abbrev pub number_beside : Refusal → ℕ
number_beside refusal = number_and_detail (number_of refusal) (get_or (details_of refusal) 0 0)

-- a refusal as numbers: 0 for each detail that there is not
abbrev pub as_numbers : Refusal → Reason
as_numbers refusal = record { number = number_of refusal; first = get_or (details_of refusal) 0 0; second = get_or (details_of refusal) 1 0 }
