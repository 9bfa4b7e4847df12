use mathlib.Core.Path.{sym}
use Rattle.watch_sound.proofs.Lengths.{sound_is}
use Rattle.watch_sound.proofs.usage_of.Goals as goal

pub returns : goal.returns
returns c = let list = c.args.list.now in record { sound_value = sym (sound_is list c.too_long-n.ensures.0 c.too_long.ensures.0 c.above.ensures.0); places_value = c.too_long-n.ensures.0 }
