-- A list of calls that fills a counter, with what the next calls give. Cited by theorems.
use Rattle.std.specs.Prelude.{ℕ, zero, suc, ◌-◌, ◌^◌, ◌≡◌}
use Rattle.answer.specs.Answers.{accepted}
use Rattle.traffic.specs.Traffic.{lower}
use Rattle.traffic.specs.Calls.{Call, Calls, none, update, estimate, unite, feed, from, traffic, Faithful}
use Rattle.traffic.specs.Claim.{answer_to}
use Rattle.traffic_cases.specs.Cases.{at_10, at_11, ◌▸◌, update_words}

-- a list, then n times a union with a meter that the same list left
unfoldable pub doubled : ℕ → Calls → Calls
doubled zero calls = calls
doubled (suc n) calls = doubled n (calls ▸ unite (from calls))

-- one key is updated by 2 ^ 32 - 1, doubled 32 times, then updated by 2 ^ 32 - 1 again: 2 ^ 64 - 1 in all
abbrev pub full : Calls
full = doubled 32 (none ▸ update at_10 4294967295) ▸ update at_10 4294967295

-- the number that a call gives after it
abbrev pub after_full : Call → ℕ
after_full call = (answer_to 1 32 full call).status

-- The counter is full. An update by 0 is accepted; one by 1, by call or record, of this key or one in its group, is 6, and so is a union.
pub record Full : Type 0 where
  pub faithful : Faithful 1 32 full
  pub total : lower (traffic full) at_10 ≡ 2 ^ 64 - 1
  pub figure : answer_to 1 32 full (estimate at_10) ≡ accepted (2 ^ 64 - 1)
  pub nothing : after_full (update at_10 0) ≡ 0
  pub one : after_full (update at_10 1) ≡ 6
  pub near : after_full (update at_11 1) ≡ 6
  pub by_record : after_full (feed 1 update_words) ≡ 6
  pub union : after_full (unite (from full)) ≡ 6
