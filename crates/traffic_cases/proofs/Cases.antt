-- The lists of the table are faithful and leave the figures that it says.
use Rattle.traffic_cases.specs.Cases.{cases, AllMeet, hand_made, ByHand}
use Rattle.traffic_cases.proofs.Computed.{computed}

pub cases_meet : AllMeet cases
cases_meet = computed.meets

pub by_hand : ByHand hand_made
by_hand = computed.by_hand
