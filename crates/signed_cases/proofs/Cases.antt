-- The lists of the table are faithful and leave the counters and estimates that it says.
use Rattle.signed_cases.specs.Cases.{cases, AllMeet}
use Rattle.signed_cases.proofs.Computed.{computed}

pub cases_meet : AllMeet cases
cases_meet = computed.meets
